use Rattle.std.proofs.Common.{ap, subst}
use Rattle.std.specs.Prelude.{IsTrue}
use Rattle.wt_endpoint.specs.Connections.{ConnectionsState, may_take}
use Rattle.wt_turn.specs.declared.turn.Turn.TheVariants as turns
use Rattle.wt_wire.specs.declared.side.Side.TheVariants.{Server}
use Rattle.wt_relay.proofs.Leading.{leads_refl}
use Rattle.wt_relay.specs.Desk.{DeskState}
use Rattle.wt_relay.proofs.desk.Desk.ask.Goals as goal

pub returns-then-not-is_lawful : goal.returns-then-not-is_lawful
returns-then-not-is_lawful c = leads_refl _

pub make-requires-clause-lawful : goal.make-requires-clause-lawful
make-requires-clause-lawful c =
    subst (λ (k : ConnectionsState). IsTrue (may_take Server k c.args.number (turns.Call c.args.call))) (ap (λ (d : DeskState). d.connections) c.self.view_is) (subst IsTrue c.is_lawful.ensures.state c.if-not-is_lawful.false)
