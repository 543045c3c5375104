use Rattle.std.proofs.Common.{◌≡◌}
use Rattle.wt_trace.specs.Generate.{generated_turns}
use Rattle.wt_trace.proofs.generate.generate.Given as goal

-- so far, the run with the streams so far
abbrev pub invariant-loop-number : goal.invariant-loop-number
invariant-loop-number l = l.turns ≡ generated_turns l.number
