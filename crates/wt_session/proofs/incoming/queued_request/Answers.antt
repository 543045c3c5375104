use Rattle.std.proofs.Common.{◌∙◌, ap, refl, subst, sym}
use Rattle.std.specs.Prelude.{None, Result, Some}
use Rattle.wt_driver_laws.specs.Handing.{Delivers}
use Rattle.wt_seam.specs.Typed.{StreamPair, Typed}
use Rattle.wt_seam.specs.declared.stream.Session.{Session}
use Rattle.wt_turn.specs.declared.driver_error.DriverError.{DriverError}
use Rattle.wt_turn.specs.declared.poll.Poll.{Poll}
use Rattle.wt_turn.specs.declared.poll.Poll.TheVariants.{Ready}
use Rattle.wt_session.proofs.Requests.{gives-queued, none-before, none-queued}
use Rattle.wt_session.proofs.incoming.queued_request.Goals as goal

pub returns-then-not-settings_came-clause-queued : goal.returns-then-not-settings_came-clause-queued
returns-then-not-settings_came-clause-queued c side log collected f r server =
    none-before side log collected c.args.d.now c.args.d.now (sym (c.settings_came.ensures.log side log collected f) ∙ c.if-not-settings_came.true)

pub returns-in-Ready-Ok-clause-queued : goal.returns-in-Ready-Ok-clause-queued
returns-in-Ready-Ok-clause-queued c side log collected f r server =
    let g = subst (λ (a : Poll (Result (Typed StreamPair Session) DriverError)). Delivers side log collected c.args.d.now c.accept_session.new.self a) (c.in-Ready-Ok.is ∙ ap (λ (x : Result (Typed StreamPair Session) DriverError). Ready x) c.in-Ready-Ok.field-0-is)
    (c.in_ok-stream.ensures.delivers side log collected f r server) in
    gives-queued side log collected c.args.d.now c.accept_session.new.self _ c.in-Ready-Ok.stream (sym (c.settings_came.ensures.log side log collected f) ∙ c.if-not-settings_came.false) g refl

pub returns-in-Ready-Err-clause-queued : goal.returns-in-Ready-Err-clause-queued
returns-in-Ready-Err-clause-queued c side log collected f r server =
    let g = subst (λ (a : Poll (Result (Typed StreamPair Session) DriverError)). Delivers side log collected c.args.d.now c.accept_session.new.self a) (c.in-Ready-Err.is ∙ ap (λ (x : Result (Typed StreamPair Session) DriverError). Ready x) c.in-Ready-Err.field-0-is)
    (c.in_ok-stream.ensures.delivers side log collected f r server) in
    none-queued side log collected c.args.d.now c.accept_session.new.self (Some c.in-Ready-Err.field-0-0) g (sym (c.settings_came.ensures.log side log collected f) ∙ c.if-not-settings_came.false)

pub returns-clause-queued : goal.returns-clause-queued
returns-clause-queued c side log collected f r server =
    let k = c.in_ok-stream.ensures.delivers side log collected f r server in
    let g = rw c.in-Pending.is at k in
    none-queued side log collected c.args.d.now c.accept_session.new.self None g (sym (c.settings_came.ensures.log side log collected f) ∙ c.if-not-settings_came.false)
