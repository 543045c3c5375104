use Rattle.wt_relay.specs.Desk.{Leads}
use Rattle.wt_relay.proofs.copies.end_source.Given as goal

abbrev pub invariant-loop-copy : goal.invariant-loop-copy
invariant-loop-copy l = Leads l.fn.desk l.desk
