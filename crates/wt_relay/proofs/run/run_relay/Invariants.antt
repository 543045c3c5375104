use Rattle.std.proofs.Common.{◌≡◌, length, take}
use Rattle.wt_relay.proofs.Running.{Runs}
use Rattle.wt_relay.proofs.run.run_relay.Given as goal

abbrev pub invariant-loop-index : goal.invariant-loop-index
invariant-loop-index l = record {
  runs : Runs l.relay.connections (take l.index l.turns) l.answers.items;
  count_is : length l.answers.items ≡ l.index;
}
