use Rattle.std.proofs.Common.{◌≡◌, length}
use Rattle.wt_check.specs.KeptDatagrams.{behind}
use Rattle.wt_check.proofs.rules.datagrams.Payloads.take_up_to.Given as goal

abbrev pub invariant-loop-first : goal.invariant-loop-first
invariant-loop-first l = behind l.payload l.self-inside.items.items ≡ behind l.payload l.fn.self

abbrev pub decreases-loop-first : goal.decreases-loop-first
decreases-loop-first l = length l.self-inside.items.items
