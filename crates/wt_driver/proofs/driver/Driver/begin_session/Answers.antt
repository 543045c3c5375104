use Rattle.std.proofs.Common.{◌∙◌, ap}
use Rattle.wt_driver.specs.contracts.driver.Driver.{the_view}
use Rattle.wt_driver.specs.declared.driver.Driver.TheInside.{Inside}
use Rattle.wt_driver.proofs.Beginning.{begun-in, few-living}
use Rattle.wt_driver.proofs.Steps.{ok-then}
use Rattle.wt_driver.proofs.driver.Driver.begin_session.Goals as goal

pub establish-requires : goal.establish-requires
establish-requires g c =
    few-living (ap (λ (x : Inside). the_view x) c.self-inside.view_is ∙ c.self.view_is) c.args.self.now.work.transport.side c.args.self.now c.in_ok-end_response.ensures c.requires.few

pub returns : goal.returns
returns g c =
    ok-then c.moment.result
    (λ e. begun-in (ap (λ (x : Inside). the_view x) c.self-inside.view_is ∙ c.self.view_is) c.args.session c.args.self.now c.establish.new.self c.moment.new.self c.in_ok-end_response.ensures c.in_ok-establish.ensures e) c.moment.ensures.driver
