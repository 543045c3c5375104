use Rattle.wt_relay.specs.Desk.{Leads}
use Rattle.wt_relay.proofs.streams.accept_of.Given as goal

abbrev pub invariant-loop-id : goal.invariant-loop-id
invariant-loop-id l = Leads l.fn.desk l.desk
