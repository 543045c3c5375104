use Rattle.std.proofs.Common.{subst, ℕ}
use Rattle.std.specs.Prelude.{List}
use Rattle.wt_driver_laws.specs.Driving.{Follows}
use Rattle.wt_session.proofs.Connects.{fails}
use Rattle.wt_turn.specs.Outgoing.{if_open}
use Rattle.wt_turn.specs.Log.{with_actions}
use Rattle.wt_turn.specs.declared.action.Action.TheVariants as actions
use Rattle.wt_session.proofs.connecting.fail.Goals as goal

pub returns-clause-does : goal.returns-clause-does
returns-clause-does c side log collected f w =
    fails side log collected c.close.new.self c.args.code c.args.error c.rests.ensures w
    (subst (λ (bytes : List ℕ). Follows side c.close.new.self (with_actions (if_open log (actions.Close c.args.code bytes)) log) collected) c.new.ensures ((c.in_ok-close).ensures.log side log collected f w))
