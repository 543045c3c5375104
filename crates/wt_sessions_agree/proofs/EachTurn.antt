-- Each lawful turn agrees, and so does each list of turns.
use Rattle.std.specs.Prelude.{[], ◌∷◌}
use Rattle.std.proofs.Common.{refl}
use Rattle.wt_sessions_agree.proofs.ListLaws.{lists-agree, runs-agree}
use Rattle.wt_sessions_agree.proofs.OneCall.{call-turn}
use Rattle.wt_sessions_agree.proofs.TransportTurns.{transport-turn}
use Rattle.wt_sessions_agree.specs.Agreement.{EachTurnAgrees, ListsAgree, RunsAgree}
use Rattle.wt_wire.specs.declared.side.Side.{Side}
use Rattle.wt_turn.specs.declared.turn.Turn.TheVariants as turns

-- a lawful turn has the same answer in both, and leads to a history and a log that agree
pub each-turn-agrees : (side : Side) → EachTurnAgrees side
each-turn-agrees side h log (turns.Call c) x one lawful = call-turn side x.0 h log x.3 x.1 x.2 c lawful
each-turn-agrees side h log (turns.Bytes id (b ∷ [])) x one lawful = transport-turn side x.0 h log x.3 x.1 x.2 (turns.Bytes id (b ∷ [])) refl lawful
each-turn-agrees side h log (turns.Bytes id (b ∷ c ∷ later)) x one lawful = absurd (cc one)
each-turn-agrees side h log (turns.Bytes id []) x one lawful = absurd (cc one)
each-turn-agrees side h log turn x one lawful = transport-turn side x.0 h log x.3 x.1 x.2 turn refl lawful

-- what a lawful list of turns means is what the definitions for code answer
pub meaning-agrees : (side : Side) → ListsAgree side
meaning-agrees side = lists-agree side (each-turn-agrees side)

-- any list of turns runs as far in both, with the same answers
pub run-agrees : (side : Side) → RunsAgree side
run-agrees side = runs-agree side (each-turn-agrees side)
