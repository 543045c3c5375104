use Rattle.std.proofs.Common.{[], arith, ◌+◌, ◌<◌, ◌∙◌, ◌∷◌, ◌≡◌, List, add-one, ap, drop, drop-cons, length, length-append, subst, suc, sym}
use Rattle.std.proofs.lemmas.List.{drop_all}
use Rattle.std.specs.Prelude.{Option}
use Rattle.wt_pair.proofs.EventLaws.{after_answers, all-done, goes-on, stops-here}
use Rattle.wt_pair.proofs.run.run_on.Goals as goal
use Rattle.wt_pair.specs.Keeping.{Steps}
use Rattle.wt_pair.specs.Pair.{happens, run_from, run_pair}
use Rattle.wt_pair.specs.declared.answer.PairAnswer.{PairAnswer}
use Rattle.wt_pair.specs.declared.event.PairEvent.{PairEvent}

pub loop-index-preserved : goal.loop-index-preserved
loop-index-preserved c =
    let f = c.args.pair.now.facts in
    let (p, kept, goes, count) = c.loop-index.invariant in
    let event = c.index-events-index.result in
    let within : c.loop-index.index < length c.args.events.now = omega arith in
    let rest : drop c.loop-index.index c.args.events.now ≡ event ∷ drop (c.loop-index.index + 1) c.args.events.now =
    drop-cons c.args.events.now c.loop-index.index event within ∙ ap (λ (u : PairEvent). u ∷ drop (suc c.loop-index.index) c.args.events.now) (sym c.index-events-index.is)
    ∙ ap (λ n. event ∷ drop n c.args.events.now) (sym (add-one c.loop-index.index)) in
    let s = subst (λ (o : Option PairAnswer). Steps f p (happens f event p) o c.step.new.self) c.in-Some.is (c.in_ok-answer.ensures f p kept) in
    let more = goes-on f p event (drop c.loop-index.index c.args.events.now) (drop (c.loop-index.index + 1) c.args.events.now) c.loop-index.answers c.in-Some.answer c.step.new.self (run_pair f c.args.events.now) rest s goes in (
      more.ends,
      more.kept,
      subst (λ (answers : List PairAnswer). after_answers answers (run_from f more.ends (drop (c.loop-index.index + 1) c.args.events.now)) ≡ run_pair f c.args.events.now) (sym c.in_ok-push-in-Some.ensures.ok) more.run,
      ap length c.in_ok-push-in-Some.ensures.ok ∙ length-append c.loop-index.answers (c.in-Some.answer ∷ []) ∙ omega (arith, count),
    )

pub returns-in-None : goal.returns-in-None
returns-in-None c =
    let f = c.args.pair.now.facts in
    let (p, kept, goes, count) = c.loop-index.invariant in
    let event = c.index-events-index.result in
    let within : c.loop-index.index < length c.args.events.now = omega arith in
    let rest : drop c.loop-index.index c.args.events.now ≡ event ∷ drop (suc c.loop-index.index) c.args.events.now =
    drop-cons c.args.events.now c.loop-index.index event within ∙ ap (λ (u : PairEvent). u ∷ drop (suc c.loop-index.index) c.args.events.now) (sym c.index-events-index.is) in
    let s = subst (λ (o : Option PairAnswer). Steps f p (happens f event p) o c.step.new.self) c.in-None.is (c.in_ok-answer.ensures f p kept) in
    let stop = stops-here f p event (drop c.loop-index.index c.args.events.now) (drop (suc c.loop-index.index) c.args.events.now) c.loop-index.answers c.step.new.self (run_pair f c.args.events.now) rest s goes in
    (stop.0, stop.1, sym count)

pub returns : goal.returns
returns c =
    let f = c.args.pair.now.facts in
    let (p, kept, goes, count) = c.loop-index.invariant in
    all-done f p (drop c.loop-index.index c.args.events.now) c.loop-index.answers (run_pair f c.args.events.now) (drop_all c.loop-index.index c.args.events.now (omega (arith, c.loop-index-test.false))) goes
