use Rattle.std.proofs.Common.{◌∙◌, subst, sym}
use Rattle.wt_driver_laws.specs.Calling.{Did}
use Rattle.wt_session.proofs.Acceptances.{if-ok}
use Rattle.wt_session.proofs.ConnectsOn.{polls-early, polls-late, waits-on}
use Rattle.wt_session.proofs.Sessions.{within}
use Rattle.wt_session.specs.Connects.{ConnectsOn}
use Rattle.wt_session.specs.Replies.{connecting_reply}
use Rattle.wt_sessions.specs.Effect.{Effect, driver_error}
use Rattle.wt_sessions.specs.Handshake.{await_or_fail}
use Rattle.wt_turn.specs.declared.connection_error.ConnectionError.{ConnectionError}
use Rattle.wt_session.proofs.connecting.Connecting.poll.Goals as goal

pub returns-then-not-settings_came-clause-does : goal.returns-then-not-settings_came-clause-does
returns-then-not-settings_came-clause-does c = if-ok c.await_or_fail.result (λ a h. λ side log collected f r has.
    let came = sym (c.settings_came.ensures.log side log collected f) ∙ c.if-not-settings_came.true in
    subst (λ (e : Effect). Did side c.await_or_fail.new.d collected (connecting_reply a) e) (sym (polls-early side log r c.args.self.now has came))
    (subst (λ (e : ConnectionError). Did side c.await_or_fail.new.d collected (connecting_reply a) (await_or_fail side log e)) (c.in_ok-error.ensures side log collected f) (h side log collected f (within side log r)))) c.await_or_fail.ensures.does

pub returns-then-not-settings_came-clause-goes_on : goal.returns-then-not-settings_came-clause-goes_on
returns-then-not-settings_came-clause-goes_on c = if-ok c.await_or_fail.result (λ a h. λ side log collected f r has.
    let came = sym (c.settings_came.ensures.log side log collected f) ∙ c.if-not-settings_came.true in
    let did = subst (λ (e : ConnectionError). Did side c.await_or_fail.new.d collected (connecting_reply a) (await_or_fail side log e)) (c.in_ok-error.ensures side log collected f) (h side log collected f (within side log r)) in
    subst (λ (e : Effect). ConnectsOn c.args.self.now a side e.log) (sym (polls-early side log r c.args.self.now has came))
    (waits-on side log collected c.args.d.now f r c.args.self.now has.1 (driver_error side log) a did.reply)) c.await_or_fail.ensures.does

pub returns-clause-does : goal.returns-clause-does
returns-clause-does c = if-ok c.go_on.result (λ a h. λ side log collected f r has.
    let came = sym (c.settings_came.ensures.log side log collected f) ∙ c.if-not-settings_came.false in
    subst (λ (e : Effect). Did side c.go_on.new.d collected (connecting_reply a) e) (sym (polls-late side log r c.args.self.now has came)) (h side log collected f r has)) c.go_on.ensures.does

pub returns-clause-goes_on : goal.returns-clause-goes_on
returns-clause-goes_on c = if-ok c.go_on.result (λ a h. λ side log collected f r has.
    let came = sym (c.settings_came.ensures.log side log collected f) ∙ c.if-not-settings_came.false in
    subst (λ (e : Effect). ConnectsOn c.go_on.new.self a side e.log) (sym (polls-late side log r c.args.self.now has came)) (h side log collected f r has)) c.go_on.ensures.goes_on
