use Rattle.std.proofs.Common.{refl, subst, ℕ}
use Rattle.wt_driver_laws.specs.Driving.{Follows}
use Rattle.wt_driver_laws.specs.Calling.{log_record}
use Rattle.wt_session.proofs.Sessions.{close-does, later-within, within}
use Rattle.wt_turn.specs.Log.{Polled, with_actions}
use Rattle.wt_turn.specs.Outgoing.{if_open}
use Rattle.wt_turn.specs.declared.action.Action.TheVariants as actions
use Rattle.std.specs.Prelude.{[], List}
use Rattle.wt_session.proofs.connection.Connection.close.Goals as goal

pub returns-clause-does : goal.returns-clause-does
returns-clause-does c side log collected f r has =
    close-does side log collected c.close.new.self c.args.code c.args.reason.now has
    (subst (λ (bytes : List ℕ). Follows side c.close.new.self (log_record side (with_actions (if_open log (actions.Close c.args.code bytes)) log) [] Polled) collected) c.in_ok-from_slice.ensures
    (c.rests.ensures Polled refl side _ collected (c.in_ok-close.ensures.log side log collected f (within side log r)) (later-within side log (if_open log (actions.Close c.args.code c.in_ok-from_slice.field-0)) r)))
