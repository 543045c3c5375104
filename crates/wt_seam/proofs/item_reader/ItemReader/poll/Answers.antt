use Rattle.std.proofs.Common.{sym, ap, ◌∙◌}
use Rattle.wt_proto.specs.WalkProgress.{reached_in}
use Rattle.wt_transport.specs.Step.{end_now, unread_now}
use Rattle.wt_seam.specs.Reading.{after_read, reached_answer}
use Rattle.wt_seam.proofs.ReadLaws.{begun_answer}
use Rattle.wt_seam.proofs.Taking.{took-all}
use Rattle.wt_seam.proofs.item_reader.ItemReader.poll.Goals as goal

pub returns-in-Ok-clause-answer : goal.returns-in-Ok-clause-answer
returns-in-Ok-clause-answer g c =
    let all = took-all g.G.Grammar.decides c.self.invariant.steady c.args.self.now c.take_unread.new.self (unread_now c.args.t.now c.args.id) c.in-Ok.field-0 c.in-Ok.ensures.took.reading c.in-Ok.ensures.took.within c.in-Ok.ensures.took.all in
    c.answer.ensures.answer ∙ (λ i. reached_answer (c.is_open-is_open.ensures.now i) (c.end-end.ensures.now i) (reached_in (sym all i)))

pub returns-in-Ok-clause-begun : goal.returns-in-Ok-clause-begun
returns-in-Ok-clause-begun g c = λ state bytes has.
    returns-in-Ok-clause-answer g c ∙ begun_answer g.G.Grammar.decides c.self.invariant.steady state c.args.self.now bytes (unread_now c.args.t.now c.args.id) c.args.t.now.is_open (end_now c.args.t.now c.args.id) has

pub returns-in-Ok-clause-left : goal.returns-in-Ok-clause-left
returns-in-Ok-clause-left g c =
    let all = took-all g.G.Grammar.decides c.self.invariant.steady c.args.self.now c.take_unread.new.self (unread_now c.args.t.now c.args.id) c.in-Ok.field-0 c.in-Ok.ensures.took.reading c.in-Ok.ensures.took.within c.in-Ok.ensures.took.all in
    c.answer.ensures.left ∙ ap (λ p. after_read p) (sym all)

pub returns-in-Ok-clause-took : goal.returns-in-Ok-clause-took
returns-in-Ok-clause-took g c =
    let all = took-all g.G.Grammar.decides c.self.invariant.steady c.args.self.now c.take_unread.new.self (unread_now c.args.t.now c.args.id) c.in-Ok.field-0 c.in-Ok.ensures.took.reading c.in-Ok.ensures.took.within c.in-Ok.ensures.took.all in
    (c.in-Ok.field-0, rw all c.in-Ok.ensures.took)
