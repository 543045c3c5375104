use Rattle.std.proofs.Common.{◌∙◌, ap, subst}
use Rattle.std.specs.Prelude.{Ok, Result}
use Rattle.wt_driver.specs.Opening.{OpensFor}
use Rattle.wt_driver.specs.declared.driver.OpenSession.{OpenSession}
use Rattle.wt_session.proofs.ConnectsOn.{opened-ready, opened-not, opened-over}
use Rattle.wt_session.proofs.Rejections.{if-both}
use Rattle.wt_turn.specs.declared.driver_error.DriverError.{DriverError}
use Rattle.wt_session.proofs.connecting.Connecting.opened.Goals as goal

pub returns-in-Ok-Ready-clause-does : goal.returns-in-Ok-Ready-clause-does
returns-in-Ok-Ready-clause-does c was = if-both c.ask.result (λ a does on. λ side log collected before request f r x some o.
    let q = c.in-Ok-Ready.field-0-is in
    let g = subst (λ (y : Result OpenSession DriverError). OpensFor side log collected before c.args.d.now request y) (c.in-Ok-Ready.is ∙ ap (λ (y : OpenSession). Ok y) q) o in
    opened-ready side log collected r _ x some c.args.d.now c.ask.new.d request c.in-Ok-Ready.stream g c.ask.new.self a (does side _ collected) (on side _ collected)) c.ask.ensures.does c.ask.ensures.goes_on

pub returns-in-Ok-NotYet-clause-does : goal.returns-in-Ok-NotYet-clause-does
returns-in-Ok-NotYet-clause-does c was = λ side log collected before request f r x some o.
    let q = c.in-Ok-NotYet.field-0-is in
    let g = subst (λ (y : Result OpenSession DriverError). OpensFor side log collected before c.args.d.now request y) (c.in-Ok-NotYet.is ∙ ap (λ (y : OpenSession). Ok y) q) o in
    opened-not side log collected r _ x before c.args.d.now g f c.rests.ensures c.args.self.now was

pub returns-in-Err-clause-does : goal.returns-in-Err-clause-does
returns-in-Err-clause-does c was = if-both c.lose.result (λ a does ready. λ side log collected before request f r x some o.
    let g = subst (λ (y : Result OpenSession DriverError). OpensFor side log collected before c.args.d.now request y) c.in-Err.is o in
    opened-over side log collected r _ x before c.args.d.now c.lose.new.d _ g f c.args.self.now a (does side log collected) ready) c.lose.ensures.does c.lose.ensures.ready
