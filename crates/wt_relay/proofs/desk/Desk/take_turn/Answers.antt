use Rattle.std.proofs.Common.{◌++◌, ◌∙◌, List, ap, sym, subst, ℕ}
use Rattle.std.specs.Prelude.{IsTrue}
use Rattle.wt_endpoint.specs.Connections.{ConnectionsState, may_take}
use Rattle.wt_wire.specs.declared.side.Side.TheVariants.{Server}
use Rattle.wt_relay.proofs.Leading.{answers_made}
use Rattle.wt_relay.specs.Calls.{told}
use Rattle.wt_relay.specs.Desk.{DeskState}
use Rattle.wt_turn.specs.declared.answer.Answer.{Answer}
use Rattle.wt_relay.proofs.desk.Desk.take_turn.Goals as goal

pub turn-requires : goal.turn-requires
turn-requires c =
    subst (λ (k : ConnectionsState). IsTrue (may_take Server k c.args.number c.args.turn.now)) (sym (ap (λ (d : DeskState). d.connections) c.self.view_is)) c.requires

pub returns : goal.returns
returns c = λ all st.
    answers_made all c.args.self.now c.self.inside.endpoint.connections _ _ c.args.number c.args.turn.now c.in_ok-first.first _ (ap (λ (d : DeskState). d.connections) c.self.view_is) st
    c.in_ok-first.ensures.apart c.in_ok-first.ensures.turns c.accept-accepted.ensures.turns
    (c.in_ok-push.ensures.ok ∙ ap (λ (xs : List (ℕ × Answer)). xs ++ told c.args.number c.in_ok-first.first) c.new.ensures)
