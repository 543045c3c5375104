use Rattle.std.proofs.Common.{◌≡◌, take}
use Rattle.std.specs.Prelude.{sum_by}
use Rattle.wt_trace.specs.Summary.{bytes_given}
use Rattle.wt_trace.proofs.summary.bytes_read.Given as goal

-- the bytes of the answers so far
abbrev pub invariant-loop-answer : goal.invariant-loop-answer
invariant-loop-answer l = l.bytes ≡ sum_by (λ answer. bytes_given answer.reply) (take l.answer-index l.answers)
