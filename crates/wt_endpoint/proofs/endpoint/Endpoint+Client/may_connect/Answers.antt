use Rattle.std.proofs.Common.{◌∙◌}
use Rattle.wt_endpoint.proofs.Keeping.{may_connect_is}
use Rattle.wt_endpoint.proofs.endpoint.Endpoint+Client.may_connect.Goals as goal
use Rattle.wt_endpoint.specs.Endpoints.{endpoint_history}
use Rattle.wt_wire.specs.declared.side.Side.TheVariants.{Client}

pub returns-clause-turns : goal.returns-clause-turns
returns-clause-turns c = λ all s. c.may_connect.ensures ∙ may_connect_is Client _ (endpoint_history Client all) c.args.outcome.now (rw (← c.self.view_is) at s.refines)
