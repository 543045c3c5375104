use Rattle.std.proofs.Common.{ap, subst, sym, ◌∙◌}
use Rattle.wt_endpoint.proofs.Keeping.{accept_is, accept_refines, live_is}
use Rattle.wt_endpoint.proofs.run.step.Goals as goal
use Rattle.wt_endpoint.specs.Connections.{ConnectionsState, Refines}
use Rattle.wt_endpoint.specs.Endpoints.{accept_reply, endpoint_after, endpoint_reply, idle_reply}
use Rattle.wt_endpoint.specs.declared.turn.EndpointReply.TheVariants as replies
use Rattle.wt_endpoint.specs.declared.turn.EndpointTurn.{EndpointTurn}
use Rattle.wt_endpoint.specs.declared.turn.EndpointTurn.TheVariants as events

pub returns-in-Accept-clause-reply : goal.returns-in-Accept-clause-reply
returns-in-Accept-clause-reply c = λ e r.
    c.accept_reply.ensures ∙ ap accept_reply (c.accept.ensures.answer ∙ accept_is c.args.side c.args.connections.now e r) ∙ ap (endpoint_reply c.args.side e) (sym c.in-Accept.is)

pub returns-in-Accept-clause-history : goal.returns-in-Accept-clause-history
returns-in-Accept-clause-history c = λ e r.
    subst (λ (t : EndpointTurn). Refines c.args.side c.accept.new.self (endpoint_after c.args.side e t)) (sym c.in-Accept.is)
    (subst (λ (k : ConnectionsState). Refines c.args.side k (endpoint_after c.args.side e events.Accept)) (sym c.accept.ensures.state) (accept_refines c.args.side c.args.connections.now e r))

pub returns-in-WaitIdle-clause-reply : goal.returns-in-WaitIdle-clause-reply
returns-in-WaitIdle-clause-reply c = λ e r.
    c.idle_reply.ensures ∙ ap idle_reply (c.open_connections.ensures ∙ live_is c.args.side c.args.connections.now e r) ∙ ap (endpoint_reply c.args.side e) (sym c.in-WaitIdle.is)

pub returns-in-OpenConnections-clause-reply : goal.returns-in-OpenConnections-clause-reply
returns-in-OpenConnections-clause-reply c = λ e r.
    ap replies.Count (c.open_connections-in-OpenConnections.ensures ∙ live_is c.args.side c.args.connections.now e r) ∙ ap (endpoint_reply c.args.side e) (sym c.in-OpenConnections.is)
