use Rattle.wt_driver.proofs.Beginning.{response-so}
use Rattle.wt_driver.proofs.driver.Driver.read_response.Goals as goal

pub returns : goal.returns
returns g c =
    response-so c.self.view_is c.args.self.now c.take_response-reading.result c.read.new.self c.read.new.t c.take_response-reading.ensures.driver c.take_response-reading.ensures.slot c.in_ok-read.ensures.stream c.in_ok-read.ensures.read
