use Rattle.std.proofs.Common.{◌∙◌, ap, sym}
use Rattle.std.specs.Option.{is_some}
use Rattle.wt_driver.specs.contracts.driver.Driver.{the_view}
use Rattle.wt_driver.proofs.Steps.{looks-first, looks-next, looks-stopped, looks-through, no-fault, shorter}
use Rattle.wt_driver.proofs.driver.Driver.look_at_datagrams.Goals as goal

pub loop-self-init : goal.loop-self-init
loop-self-init c = looks-first c.self.view_is

pub loop-self-smaller : goal.loop-self-smaller
loop-self-smaller c = shorter _ _ c.in-Some.piece c.in-Some.ensures.items

pub loop-self-preserved : goal.loop-self-preserved
loop-self-preserved c =
    looks-next _ _ _ c.in-Some.piece c.admit_datagram.new.self c.loop-self.invariant c.in-Some.ensures.items
    (no-fault c.fault.result c.loop-self.self-inside.dispatched.fault c.is_none.result c.is_none.ensures c.loop-self-test.true c.fault.ensures) c.in_ok-admit_datagram.ensures

pub returns-in_default : goal.returns-in_default
returns-in_default c = looks-through _ (the_view c.loop-self.self-inside) _ c.loop-self.invariant (sym c.loop-self.self-inside.datagrams.ok.0 ∙ c.in_default.ensures.cases.0) c.in_default.ensures.items

pub returns : goal.returns
returns c = looks-stopped _ (the_view c.loop-self.self-inside) _ c.loop-self.invariant (sym (ap is_some c.fault.ensures) ∙ c.loop-self-test.ensures) c.new.ensures.items
