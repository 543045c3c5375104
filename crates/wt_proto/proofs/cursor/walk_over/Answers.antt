use Rattle.std.proofs.Common.{ap, sym, ◌∙◌}
use Rattle.wt_proto.specs.Walk.{outcome_at, whole_walk}
use Rattle.wt_proto.proofs.ReadingLaws.{passed-outcome}
use Rattle.wt_proto.proofs.cursor.walk_over.Goals as goal

pub returns-clause-outcome : goal.returns-clause-outcome
returns-clause-outcome g c =
    c.outcome_passed.ensures
    ∙ (passed-outcome g.W.Walk.decides c.requires.steady g.W.Walk.unfinished_at c.args.end c.start-state.result c.go_over.new.state _ c.args.bytes.now c.in-Ok.ensures.advances c.in-Ok.ensures.proper c.in-Ok.ensures.ordered c.in-Ok.ensures.all
    ∙ (ap (λ s. outcome_at g.W.Walk.unfinished_at c.args.end (whole_walk g.W.Walk.decides s c.args.bytes.now)) c.start-state.ensures
    ∙ sym (c.requires.reaches c.args.bytes.now c.args.end)))
