use Rattle.wt_driver_laws.proofs.HalfLogs.{rests_law}
use Rattle.wt_driver.proofs.driver.Driver.rests.Goals as goal

pub returns : goal.returns
returns c r quiet = rests_law c.args.self.now r quiet
