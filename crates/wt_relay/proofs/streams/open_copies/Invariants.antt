use Rattle.wt_relay.specs.Desk.{Leads}
use Rattle.wt_relay.proofs.streams.open_copies.Given as goal

abbrev pub invariant-loop-other : goal.invariant-loop-other
invariant-loop-other l = Leads l.fn.desk l.desk
