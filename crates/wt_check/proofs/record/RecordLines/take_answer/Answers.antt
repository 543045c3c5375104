use Rattle.std.proofs.Common.{ap, sym, ◌∙◌}
use Rattle.std.specs.Option.{option_map}
use Rattle.std.specs.Prelude.{Some}
use Rattle.wt_check.specs.Reading.{with_answer}
use Rattle.wt_check.proofs.RecordLaws.{answer_taken}
use Rattle.wt_check.proofs.record.RecordLines.take_answer.Goals as goal

pub returns-in_ok-push-in-Some : goal.returns-in_ok-push-in-Some
returns-in_ok-push-in-Some c =
    ap (option_map (with_answer c.args.self.now c.args.turn)) (sym c.in_ok-answer.ensures ∙ c.in-Some.is)
    ∙ ap Some (answer_taken c.args.self.now c.self.inside.side c.self.inside.turn c.self.inside.pairs.items _ c.args.turn c.in-Some.answer c.self.view_is c.requires c.in_ok-push-in-Some.ensures.items)
