use Rattle.std.proofs.Common.{length}
use Rattle.wt_driver.proofs.Steps.{Looks}
use Rattle.wt_driver.proofs.driver.Driver.look_at_datagrams.Given as goal

abbrev pub invariant-loop-self : goal.invariant-loop-self
invariant-loop-self l = Looks l.fn.self (record { own_control = l.self-inside.own_control; unis = l.self-inside.unis; bis = l.self-inside.bis; work = record { transport = l.self-inside.transport; dispatched = l.self-inside.dispatched }; datagrams = l.self-inside.datagrams.items; response = l.self-inside.response; gave_settings = l.self-inside.gave_settings })

abbrev pub decreases-loop-self : goal.decreases-loop-self
decreases-loop-self l = length l.self-inside.datagrams.items
