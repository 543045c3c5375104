use Rattle.std.proofs.Common.{refl}
use Rattle.wt_endpoint.proofs.Standing.{close_apart, close_given, taken_stands}
use Rattle.wt_endpoint.proofs.endpoint.Endpoint.close.Goals as goal

pub returns-clause-closings : goal.returns-clause-closings
returns-clause-closings g c = λ all s.
    close_given g.S.EndpointSide.side c.side.result c.self.inside.connections all c.args.code c.args.reason.now _ c.side.ensures (rw (← c.self.view_is) at s) c.close.ensures.answer

pub returns-clause-apart : goal.returns-clause-apart
returns-clause-apart g c = λ all s.
    close_apart g.S.EndpointSide.side c.args.self.now.connections all c.args.code c.args.reason.now _ s
    (close_given g.S.EndpointSide.side c.side.result c.self.inside.connections all c.args.code c.args.reason.now _ c.side.ensures (rw (← c.self.view_is) at s) c.close.ensures.answer)

pub returns-clause-turns : goal.returns-clause-turns
returns-clause-turns g c = λ all s.
    taken_stands g.S.EndpointSide.side c.side.result c.self.inside.connections c.close.new.self all _ _ c.side.ensures (rw (← c.self.view_is) at s) refl c.close.ensures.history
