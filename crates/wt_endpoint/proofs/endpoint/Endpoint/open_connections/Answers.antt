use Rattle.std.proofs.Common.{◌∙◌}
use Rattle.wt_endpoint.proofs.Keeping.{live_is}
use Rattle.wt_endpoint.proofs.endpoint.Endpoint.open_connections.Goals as goal
use Rattle.wt_endpoint.specs.Endpoints.{endpoint_history}

pub returns : goal.returns
returns g c = λ all s. c.open_connections.ensures ∙ live_is g.S.EndpointSide.side _ (endpoint_history g.S.EndpointSide.side all) (rw (← c.self.view_is) at s.refines)
