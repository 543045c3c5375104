use Rattle.wt_driver.proofs.Counted.{control-counted}
use Rattle.wt_driver.proofs.Steps.{control-so}
use Rattle.wt_driver.proofs.driver.Driver.read_control.Goals as goal

pub returns-clause-driver : goal.returns-clause-driver
returns-clause-driver g c = control-so c.self.view_is c.read_control.new.t c.read_control.new.self c.check_qpack.new.self c.in_ok-read_control.ensures.read c.check_qpack.ensures

pub returns-clause-steps : goal.returns-clause-steps
returns-clause-steps g c =
    control-counted c.self.view_is c.read_control.new.t c.read_control.new.self c.check_qpack.new.self c.in_ok-read_control.ensures.read c.check_qpack.ensures c.args.steps.now c.read_control.new.steps c.in_ok-read_control.ensures.steps
