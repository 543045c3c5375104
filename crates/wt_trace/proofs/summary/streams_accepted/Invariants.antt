use Rattle.std.proofs.Common.{◌≡◌, ◌≤◌, take}
use Rattle.std.specs.Prelude.{count_by}
use Rattle.wt_trace.specs.Summary.{gives_uni}
use Rattle.wt_trace.proofs.summary.streams_accepted.Given as goal

-- the streams of the answers so far, at most one each
abbrev pub invariant-loop-answer : goal.invariant-loop-answer
invariant-loop-answer l = record {
  count_is : l.count ≡ count_by (λ answer. gives_uni answer.reply) (take l.answer-index l.answers);
  few : l.count ≤ l.answer-index;
}
