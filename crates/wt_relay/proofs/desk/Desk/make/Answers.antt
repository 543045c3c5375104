use Rattle.std.proofs.Common.{ap, sym, subst}
use Rattle.std.specs.Prelude.{IsTrue}
use Rattle.wt_endpoint.specs.Connections.{ConnectionsState, may_take}
use Rattle.wt_wire.specs.declared.side.Side.TheVariants.{Server}
use Rattle.wt_relay.proofs.Leading.{leads_made}
use Rattle.wt_relay.specs.Desk.{DeskState}
use Rattle.wt_relay.proofs.desk.Desk.make.Goals as goal

pub turn-requires : goal.turn-requires
turn-requires c =
    subst (λ (k : ConnectionsState). IsTrue (may_take Server k c.args.number c.args.turn.now)) (sym (ap (λ (d : DeskState). d.connections) c.self.view_is)) c.requires.lawful

pub returns : goal.returns
returns c =
    leads_made _ _ c.self.inside.endpoint.connections _ c.self.inside.answers c.args.number c.args.turn.now c.in_ok-answer.answer (ap (λ (d : DeskState). d.connections) c.self.view_is)
    (ap (λ (d : DeskState). d.told) c.self.view_is) c.requires.relayed c.in_ok-answer.ensures.apart c.in_ok-answer.ensures.turns c.in_ok-reply.ensures.connections c.in_ok-reply.ensures.told
