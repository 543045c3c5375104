use Rattle.std.proofs.Common.{List, subst, sym, ℕ}
use Rattle.wt_endpoint.specs.Connections.{ConnectionsState}
use Rattle.wt_turn.specs.declared.answer.Answer.{Answer}
use Rattle.wt_relay.specs.Calls.{Answers}
use Rattle.wt_relay.proofs.Leading.{answers_on}
use Rattle.wt_relay.proofs.passes.take_turn.Goals as goal

pub returns : goal.returns
returns c = λ all st.
    let turned = answers_on all c.args.number c.args.turn.now _ _ (c.in_ok-take_turn-2.ensures all st) c.in_ok-make_passes.ensures in
    subst (λ (k : ConnectionsState). Answers all c.args.number c.args.turn.now k c.take_answers.result) (sym c.take_answers.ensures.connections)
    (subst (λ (given : List (ℕ × Answer)). Answers all c.args.number c.args.turn.now c.make_passes.new.desk.connections given) (sym c.take_answers.ensures.answers) turned)
