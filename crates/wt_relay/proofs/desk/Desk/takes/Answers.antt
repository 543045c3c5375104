use Rattle.std.proofs.Common.{ap, subst, sym, ◌∙◌}
use Rattle.std.specs.Prelude.{IsTrue}
use Rattle.wt_endpoint.specs.Connections.{ConnectionsState, StandsFor, may_take}
use Rattle.wt_wire.specs.declared.side.Side.TheVariants.{Server}
use Rattle.wt_relay.proofs.Leading.{no-takes, takes-if}
use Rattle.wt_relay.specs.Desk.{DeskState}
use Rattle.wt_relay.proofs.desk.Desk.takes.Goals as goal

pub returns-then-is_call-clause-turns : goal.returns-then-is_call-clause-turns
returns-then-is_call-clause-turns c = λ all st. no-takes _ _ (sym c.is_call.ensures ∙ c.if-is_call.true)

pub returns-clause-state : goal.returns-clause-state
returns-clause-state c = λ t.
    subst (λ (k : ConnectionsState). IsTrue (may_take Server k c.args.number c.args.turn.now)) (ap (λ (d : DeskState). d.connections) c.self.view_is) (subst IsTrue c.is_lawful.ensures.state t)

pub returns-clause-turns : goal.returns-clause-turns
returns-clause-turns c = λ all st.
    takes-if _ _ _ (sym c.is_call.ensures ∙ c.if-is_call.false)
    (c.is_lawful.ensures.turns all (subst (λ (k : ConnectionsState). StandsFor Server k all) (sym (ap (λ (d : DeskState). d.connections) c.self.view_is)) st))
