use Rattle.wt_relay.specs.Desk.{Leads}
use Rattle.wt_relay.proofs.copies.serve.Given as goal

abbrev pub invariant-loop-ask : goal.invariant-loop-ask
invariant-loop-ask l = Leads l.fn.desk l.desk
