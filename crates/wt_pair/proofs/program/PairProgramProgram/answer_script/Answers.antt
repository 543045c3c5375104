use Rattle.wt_pair.proofs.EventLaws.{few_given}
use Rattle.wt_pair.proofs.program.PairProgramProgram.answer_script.Goals as goal

pub write_pair_answers-requires : goal.write_pair_answers-requires
write_pair_answers-requires g c = few_given c.facts.result c.events-events.result.now _ _ c.in-Ok.ensures.run.0 c.as_slice.ensures

pub write_pair_answers-requires-in-Err-Refused : goal.write_pair_answers-requires-in-Err-Refused
write_pair_answers-requires-in-Err-Refused g c =
    let run = rw c.in-Err-Refused.field-0-is at c.in-Err-Refused.ensures.run in few_given c.facts.result c.events-events.result.now _ _ run.0 c.as_slice-in-Err-Refused.ensures
