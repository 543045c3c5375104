use Rattle.std.proofs.Common.{◌∙◌, refl, subst, sym, ℕ}
use Rattle.wt_driver_laws.specs.Calling.{log_record}
use Rattle.wt_driver_laws.specs.Driving.{Follows}
use Rattle.wt_driver_laws.specs.Handing.{IsAnswering, rejecting_actions}
use Rattle.wt_turn.specs.Log.{RequestRejected}
use Rattle.wt_session.proofs.rejecting.Rejecting.end.Goals as goal

pub returns-clause-does : goal.returns-clause-does
returns-clause-does c = rw (← c.self.view_is) (λ side log collected f r a.
    let e = c.session_id.ensures ∙ c.self.invariant.0 in
    record {
      reply = refl;
      log = subst (λ (n : ℕ). Follows side c.reject_session.new.self (log_record side log (rejecting_actions side log n c.args.close) (RequestRejected n)) collected) e
          ((c.in_ok-reject_session).ensures.log side log collected f r (subst (IsAnswering log) (sym e) a));
    })
