use Rattle.std.proofs.Common.{◌∙◌, sym}
use Rattle.wt_driver.proofs.Steps.{close-goes, close-over}
use Rattle.wt_driver.proofs.driver.Driver.close_at_fault.Goals as goal

pub returns-then-not-is_open : goal.returns-then-not-is_open
returns-then-not-is_open c =
    close-over c.self.view_is c.close_at_fault.new.t c.new.result.items c.in_ok-close_at_fault.ensures (sym c.is_open.ensures.now ∙ c.if-not-is_open.true) c.new.ensures.items

pub returns-else-not-is_open : goal.returns-else-not-is_open
returns-else-not-is_open c = close-goes c.self.view_is c.close_at_fault.new.t c.in_ok-close_at_fault.ensures (sym c.is_open.ensures.now ∙ c.if-not-is_open.false)
