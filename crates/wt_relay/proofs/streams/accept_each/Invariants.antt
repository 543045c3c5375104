use Rattle.wt_relay.specs.Desk.{Leads}
use Rattle.wt_relay.proofs.streams.accept_each.Given as goal

abbrev pub invariant-streams : goal.invariant-streams
invariant-streams l = Leads l.fn.desk l.desk
