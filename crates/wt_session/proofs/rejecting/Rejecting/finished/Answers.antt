use Rattle.std.proofs.Common.{◌∙◌, ap, refl, subst, sym, ℕ}
use Rattle.std.specs.Prelude.{◌≡◌, Bool, List, None, Option, Some, false, if◌then◌else◌, true}
use Rattle.wt_driver_laws.specs.Calling.{Did}
use Rattle.wt_driver_laws.specs.Driving.{Follows}
use Rattle.wt_driver_laws.specs.Handing.{rejecting_actions}
use Rattle.wt_session.proofs.Acceptances.{if-ok}
use Rattle.wt_session.proofs.Rejections.{has-it, is-zero, no-finish, not-zero, still-out, through-no, through-yes}
use Rattle.wt_session.specs.Replies.{rejecting_reply}
use Rattle.wt_sessions.specs.Driver.{has_no_session}
use Rattle.wt_sessions.specs.Handshake.{end_rejection}
use Rattle.wt_turn.specs.Log.{Polled, with_actions}
use Rattle.wt_turn.specs.declared.action.Action.{Action}
use Rattle.wt_session.proofs.rejecting.Rejecting.finished.Goals as goal

pub returns-then-living-eq0-clause-does : goal.returns-then-living-eq0-clause-does
returns-then-living-eq0-clause-does c = if-ok c.end.result (λ a k. λ side log collected f r hand req laws fin t.
    let g = subst (λ (as_ : List Action). Follows side c.args.d.now (with_actions as_ log) collected) (no-finish side log collected c.args.self.now.response.id c.end.new.d Polled fin laws.reset) f in
    let none : has_no_session side log ≡ true = sym (c.living.ensures.log side log collected g) ∙ is-zero c.living.result c.if-living-eq0.true in
    has-it side log collected c.args.self.now.response.id c.end.new.d Polled fin laws.reset (rejecting_reply a) (through-yes _ _ (sym c.in-Ready.is ∙ t))
    (subst (λ (o : Option ℕ). Did side c.end.new.d collected (rejecting_reply a) (end_rejection side log c.args.self.now.response.id (rejecting_actions side log c.args.self.now.response.id o)))
    (ap (λ (n : ℕ). Some n) c.from_u32.ensures ∙ ap (λ (b : Bool). if b then Some 0 else None) (sym none))
    (k side log collected g r (record { state = hand; requested = req })))) c.end.ensures.does

pub returns-in-Pending-clause-does : goal.returns-in-Pending-clause-does
returns-in-Pending-clause-does c side log collected f r hand req laws fin t =
    still-out side log collected c.args.self.now.response.id c.args.d.now Polled fin laws.reset refl c.rests.ensures r f (through-no _ _ c.in-Pending.is t)

pub returns-else-living-eq0-clause-does : goal.returns-else-living-eq0-clause-does
returns-else-living-eq0-clause-does c = if-ok (c.end-in-Ready).result (λ a k. λ side log collected f r hand req laws fin t.
    let g = subst (λ (as_ : List Action). Follows side c.args.d.now (with_actions as_ log) collected) (no-finish side log collected c.args.self.now.response.id (c.end-in-Ready).new.d Polled fin laws.reset) f in
    let some : has_no_session side log ≡ false = sym (c.living.ensures.log side log collected g) ∙ not-zero c.living.result c.if-living-eq0.false in
    has-it side log collected c.args.self.now.response.id (c.end-in-Ready).new.d Polled fin laws.reset (rejecting_reply a) (through-yes _ _ (sym c.in-Ready.is ∙ t))
    (subst (λ (o : Option ℕ). Did side (c.end-in-Ready).new.d collected (rejecting_reply a) (end_rejection side log c.args.self.now.response.id (rejecting_actions side log c.args.self.now.response.id o)))
    (ap (λ (b : Bool). if b then Some 0 else None) (sym some))
    (k side log collected g r (record { state = hand; requested = req })))) (c.end-in-Ready).ensures.does
