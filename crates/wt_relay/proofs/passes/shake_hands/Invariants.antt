use Rattle.wt_relay.specs.Desk.{Leads}
use Rattle.wt_relay.proofs.passes.shake_hands.Given as goal

abbrev pub invariant-shakes : goal.invariant-shakes
invariant-shakes l = Leads l.fn.desk l.desk
