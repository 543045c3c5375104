use Rattle.wt_relay.specs.Desk.{Leads}
use Rattle.wt_relay.proofs.passes.make_passes.Given as goal

abbrev pub invariant-passes : goal.invariant-passes
invariant-passes l = Leads l.fn.desk l.desk
