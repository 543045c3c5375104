-- The theorems that the contracts name.
use Rattle.wt_sessions_agree.proofs.EachTurn.{meaning-agrees, run-agrees}
use Rattle.wt_sessions_agree.specs.Agreement.{ListsAgree, RunsAgree}
use Rattle.wt_wire.specs.declared.side.Side.{Side}

pub lists_theorem : (side : Side) → ListsAgree side
lists_theorem = meaning-agrees

pub runs_theorem : (side : Side) → RunsAgree side
runs_theorem = run-agrees
