use Rattle.std.proofs.Common.{arith, refl, rules, ◌≡◌, ◌++◌, take}
use Rattle.std.proofs.lemmas.List.{take_all}
use Rattle.std.specs.Prelude.{string_bytes}
use Rattle.wt_pair.proofs.OutputLaws.{line-part, line-passes, none-pass}
use Rattle.wt_pair.proofs.output.write_pair_answers.Goals as goal
use Rattle.wt_pair.specs.Output.{print_pair}
use Rattle.wt_trace.proofs.OutsideLaws.{part_passed}

pub loop-index-init : goal.loop-index-init
loop-index-init g c = record { gathered = none-pass _ c.args.events.now _ c.new-gathered.ensures.bytes; same = refl }

pub returns-in-Err-clause-part : goal.returns-in-Err-clause-part
returns-in-Err-clause-part g c =
    line-part _ _ _ c.args.events.now c.args.answers.now _ c.args.last.now c.loop-index.index c.index-events-index.result c.index-answers-index.result c.loop-index-test.true c.requires
    c.index-events-index.is c.index-answers-index.is c.loop-index.invariant.gathered c.in-Err.ensures.part

pub loop-index-preserved : goal.loop-index-preserved
loop-index-preserved g c = record {
  gathered = line-passes _ _ _ c.args.events.now c.args.answers.now _ _ c.loop-index.index c.index-events-index.result c.index-answers-index.result c.loop-index-test.true c.requires
      c.index-events-index.is c.index-answers-index.is c.loop-index.invariant.gathered c.in_default.ensures.text;
  same = search rules;
}

pub returns-clause-part : goal.returns-clause-part
returns-clause-part g c =
    let all : take c.loop-index.index c.args.answers.now ≡ c.args.answers.now = take_all c.loop-index.index c.args.answers.now (omega (arith, c.loop-index-test.false)) in
    let pushed : string_bytes c.push_str.new.self ≡ string_bytes c.loop-index.gathered ++ c.args.last.now = search rules in
    part_passed _ _ _ (print_pair c.args.events.now c.args.answers.now) (string_bytes c.loop-index.gathered) c.args.last.now
    (rw all at c.loop-index.invariant.gathered)
    (rw (c.as_bytes.ensures.value, pushed) at c.write_all.ensures.part)
