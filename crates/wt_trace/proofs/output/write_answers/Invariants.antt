use Rattle.std.proofs.Common.{◌≡◌, take}
use Rattle.std.specs.Prelude.{string_bytes}
use Rattle.wt_script.specs.Print.{print}
use Rattle.wt_trace.specs.Outside.{Passes}
use Rattle.wt_trace.proofs.output.write_answers.Given as goal

abbrev pub invariant-loop-answer : goal.invariant-loop-answer
invariant-loop-answer g l = record {
  gathered : Passes (g.K.Sink.took l.fn.sink) (g.K.Sink.took l.sink) (print (take l.answer-index l.answers)) (string_bytes l.gathered);
  same : g.K.Sink.faults l.sink ≡ g.K.Sink.faults l.fn.sink;
}
