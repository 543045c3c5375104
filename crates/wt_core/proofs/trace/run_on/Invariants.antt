use Rattle.std.proofs.Common.{◌≡◌, drop, length}
use Rattle.wt_meaning.specs.History.{History}
use Rattle.wt_meaning.specs.Meaning.{run, run_from}
use Rattle.wt_core.proofs.RunLaws.{after_answers}
use Rattle.wt_core.proofs.trace.run_on.Given as goal
use Rattle.wt_core.specs.CoreState.{KeepsHistory}

abbrev pub invariant-loop-index : goal.invariant-loop-index
invariant-loop-index l = (h : History) × KeepsHistory l.fn._side l.core h
    × (after_answers l.answers (run_from l.fn._side h (drop l.index l.turns)) ≡ run l.fn._side l.turns)
    × (length l.answers ≡ l.index)
