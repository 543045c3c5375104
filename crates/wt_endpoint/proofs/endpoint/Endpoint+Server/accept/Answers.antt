use Rattle.std.proofs.Common.{sym, ◌∙◌}
use Rattle.wt_endpoint.proofs.Established.{accepted_established}
use Rattle.wt_endpoint.proofs.Keeping.{accept_is}
use Rattle.wt_endpoint.proofs.Standing.{accept_stands}
use Rattle.wt_endpoint.proofs.endpoint.Endpoint+Server.accept.Goals as goal
use Rattle.wt_endpoint.specs.Endpoints.{endpoint_history}
use Rattle.wt_wire.specs.declared.side.Side.TheVariants.{Server}

pub returns-clause-answer : goal.returns-clause-answer
returns-clause-answer c = λ all s. c.accept.ensures.answer ∙ accept_is Server _ (endpoint_history Server all) (rw (← c.self.view_is) at s.refines)

pub returns-clause-turns : goal.returns-clause-turns
returns-clause-turns c = λ all s. accept_stands c.self.inside.connections c.accept.new.self all (rw (← c.self.view_is) at s) c.accept.ensures.state

pub returns-clause-established : goal.returns-clause-established
returns-clause-established c = λ all n s e. accepted_established all n s.may_come (sym (c.accept.ensures.answer ∙ accept_is Server _ (endpoint_history Server all) (rw (← c.self.view_is) at s.refines)) ∙ e)
