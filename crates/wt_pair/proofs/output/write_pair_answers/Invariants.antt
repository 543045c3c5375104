use Rattle.std.proofs.Common.{◌≡◌, take}
use Rattle.std.specs.Prelude.{string_bytes}
use Rattle.wt_pair.specs.Output.{print_pair}
use Rattle.wt_trace.specs.Outside.{Passes}
use Rattle.wt_pair.proofs.output.write_pair_answers.Given as goal

abbrev pub invariant-loop-index : goal.invariant-loop-index
invariant-loop-index g l = record {
  gathered : Passes (g.K.Sink.took l.fn.sink) (g.K.Sink.took l.sink) (print_pair l.events (take l.index l.answers)) (string_bytes l.gathered);
  same : g.K.Sink.faults l.sink ≡ g.K.Sink.faults l.fn.sink;
}
