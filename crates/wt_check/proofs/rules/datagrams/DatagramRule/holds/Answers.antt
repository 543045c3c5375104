use Rattle.std.proofs.Common.{◌≡◌, sym, ◌∙◌}
use Rattle.wt_proto.proofs.ReadingLaws.{if_ok_with}
use Rattle.wt_proto.proofs.WalkLaws.{if_ok_same}
use Rattle.wt_check.proofs.DatagramSteps.{holds_answer, holds_kept}
use Rattle.wt_check.proofs.rules.datagrams.DatagramRule.holds.Goals as goal

pub returns-clause-answer : goal.returns-clause-answer
returns-clause-answer c = λ side h p of_turn of_reply say follow.
    if_ok_same c.take_reply.result _ _ c.take_reply.ensures.answer
    (holds_answer side h p c.args.facts.now c.args.turn.now c.args.reply.now c.named.result c.args.self.now.left c.take_turn.new.self.left of_turn of_reply say follow c.named.ensures c.in_ok-take_turn.ensures)

pub returns-clause-kept : goal.returns-clause-kept
returns-clause-kept c = λ side h p of_turn of_reply say follow.
    if_ok_with c.take_reply.result c.take_reply.ensures.answer c.take_reply.ensures.left
    (λ holds is left stands.
    holds_kept side h p c.args.facts.now c.args.turn.now c.args.reply.now c.named.result c.args.self.now.left c.take_turn.new.self.left of_turn of_reply say follow c.named.ensures c.in_ok-take_turn.ensures
    c.take_reply.new.self.left (sym is ∙ stands) (left (sym is ∙ stands)))
