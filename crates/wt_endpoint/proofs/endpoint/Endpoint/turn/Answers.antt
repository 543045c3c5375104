use Rattle.wt_endpoint.proofs.Standing.{taken_stands, turn_apart, turn_may}
use Rattle.wt_endpoint.proofs.endpoint.Endpoint.turn.Goals as goal

pub returns-clause-apart : goal.returns-clause-apart
returns-clause-apart g c = λ all s.
    turn_apart g.S.EndpointSide.side c.side.result c.self.inside.connections all c.args.number c.args.turn.now _ c.side.ensures (rw (← c.self.view_is) at s) c.turn.ensures.answer

pub returns-clause-turns : goal.returns-clause-turns
returns-clause-turns g c = λ all s.
    taken_stands g.S.EndpointSide.side c.side.result c.self.inside.connections c.turn.new.self all _ _ c.side.ensures (rw (← c.self.view_is) at s)
    (turn_may g.S.EndpointSide.side c.args.self.now.connections all c.args.number c.args.turn.now s c.requires) c.turn.ensures.history
