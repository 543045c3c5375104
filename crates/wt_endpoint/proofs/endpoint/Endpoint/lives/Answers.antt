use Rattle.wt_endpoint.proofs.Standing.{lives_own}
use Rattle.wt_endpoint.proofs.endpoint.Endpoint.lives.Goals as goal

pub returns : goal.returns
returns g c = λ all s. lives_own g.S.EndpointSide.side c.self.inside.connections all c.args.number c.args.session _ (rw (← c.self.view_is) at s) c.lives.ensures
