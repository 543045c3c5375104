use Rattle.wt_relay.specs.Desk.{Leads}
use Rattle.wt_relay.proofs.streams.accept_streams.Given as goal

abbrev pub invariant-loop-member : goal.invariant-loop-member
invariant-loop-member l = Leads l.fn.desk l.desk
