use Rattle.std.proofs.Common.{arith, rules, ◌≡◌, ◌++◌, take}
use Rattle.std.proofs.lemmas.List.{take_all}
use Rattle.std.specs.Prelude.{string_bytes}
use Rattle.wt_script.specs.Print.{answer_line, print}
use Rattle.wt_trace.proofs.OutsideLaws.{part_passed, text_part, text_passes}
use Rattle.wt_trace.proofs.output.write_answers.Goals as goal

pub returns-in-Err-clause-part : goal.returns-in-Err-clause-part
returns-in-Err-clause-part g c =
    text_part _ _ _ answer_line c.args.answers.now _ c.args.last.now c.loop-answer.answer-index c.answer-item.result c.loop-answer-test.true c.answer-item.is
    c.loop-answer.invariant.gathered c.in-Err.ensures.part

pub loop-answer-preserved : goal.loop-answer-preserved
loop-answer-preserved g c = record {
  gathered = text_passes _ _ _ answer_line c.args.answers.now _ _ c.loop-answer.answer-index c.answer-item.result c.loop-answer-test.true c.answer-item.is
      c.loop-answer.invariant.gathered c.in_default.ensures.text;
  same = search rules;
}

pub returns-clause-part : goal.returns-clause-part
returns-clause-part g c =
    let all : take c.loop-answer.answer-index c.args.answers.now ≡ c.args.answers.now = take_all c.loop-answer.answer-index c.args.answers.now (omega (arith, c.loop-answer-test.false)) in
    let pushed : string_bytes c.push_str.new.self ≡ string_bytes c.loop-answer.gathered ++ c.args.last.now = search rules in
    part_passed _ _ _ (print c.args.answers.now) (string_bytes c.loop-answer.gathered) c.args.last.now
    (rw all at c.loop-answer.invariant.gathered)
    (rw (c.as_bytes.ensures.value, pushed) at c.write_all.ensures.part)
