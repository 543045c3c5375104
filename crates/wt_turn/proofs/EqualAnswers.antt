-- Answers that `==` finds equal are equal.
use Rattle.std.proofs.Common.{◌≡◌, true, Decides}
use Rattle.std.specs.Cmp.{first_so, second_so}
use Rattle.std.specs.Cmp.Lexicographic.{pointwise, pointwise_decides}
use Rattle.wt_turn.proofs.Decides.{decides}
use Rattle.wt_turn.proofs.EqualActions.{actions_decide}
use Rattle.wt_turn.proofs.EqualReplies.{replies_join}
use Rattle.wt_turn.specs.contracts.action.ActionPartialEq.TheImpl as actions
use Rattle.wt_turn.specs.contracts.answer.AnswerEq.TheImpl.Laws.{laws-law}
use Rattle.wt_turn.specs.contracts.answer.AnswerPartialEq.TheImpl as answers
use Rattle.wt_turn.specs.contracts.reply.ReplyPartialEq.TheImpl as replies
use Rattle.wt_turn.specs.declared.answer.Answer.{Answer}

answers_join : (a b : Answer) → answers.ghosts.eq a b ≡ true → a ≡ b
answers_join a b e = λ i. record {
  reply = replies_join a.reply b.reply (first_so (replies.ghosts.eq a.reply b.reply) (pointwise actions.ghosts.eq a.actions b.actions) e) i;
  actions = (pointwise_decides actions_decide a.actions b.actions).0 (second_so (replies.ghosts.eq a.reply b.reply) (pointwise actions.ghosts.eq a.actions b.actions) e) i;
}

pub answers_decide : (a b : Answer) → Decides (answers.ghosts.eq a b) (a ≡ b)
answers_decide = decides answers.ghosts.eq laws-law answers_join
