use Rattle.std.proofs.Common.{arith, ◌≡◌, ◌<◌, ◌+◌, ◌∷◌, [], List, drop, drop-cons, sym, ◌∙◌, length, length-append, suc, ap, false, add-one, true, subst}
use Rattle.wt_meaning.specs.Lawful.{is_lawful}
use Rattle.wt_meaning.specs.Meaning.{history_after, run, run_from}
use Rattle.wt_core.proofs.RunLaws.{after_answers, goes-on, stops-here}
use Rattle.wt_core.proofs.trace.run_on.Goals as goal
use Rattle.wt_turn.specs.declared.answer.Answer.{Answer}
use Rattle.wt_turn.specs.declared.turn.Turn.{Turn}

pub loop-index-preserved : goal.loop-index-preserved
loop-index-preserved c =
    let side = c.args._side in
    let (h, keeps, goes, count) = c.loop-index.invariant in
    let t = c.index-turns-index.result in
    let within : c.loop-index.index < length c.args.turns.now = omega arith in
    let rest : drop c.loop-index.index c.args.turns.now ≡ t ∷ drop (c.loop-index.index + 1) c.args.turns.now =
    drop-cons c.args.turns.now c.loop-index.index t within ∙ ap (λ (u : Turn). u ∷ drop (suc c.loop-index.index) c.args.turns.now) (sym c.index-turns-index.is) ∙ ap (λ n. t ∷ drop n c.args.turns.now) (sym (add-one c.loop-index.index)) in
    let lawful : is_lawful side h t ≡ true = sym (c.is_lawful.ensures.history side h keeps) ∙ c.if-not-is_lawful.false in
    let more = goes-on side h t (drop c.loop-index.index c.args.turns.now) (drop (c.loop-index.index + 1) c.args.turns.now) c.loop-index.answers c.in_ok-answer.answer (run side c.args.turns.now)
    rest lawful (c.in_ok-answer.ensures.answer side h keeps lawful) goes in (
      history_after side h t,
      c.in_ok-answer.ensures.history side h keeps lawful,
      subst (λ (answers : List Answer). after_answers answers (run_from side (history_after side h t) (drop (c.loop-index.index + 1) c.args.turns.now)) ≡ run side c.args.turns.now) (sym c.in_ok-push.ensures.ok) more,
      ap length c.in_ok-push.ensures.ok ∙ length-append c.loop-index.answers (c.in_ok-answer.answer ∷ []) ∙ omega (arith, count),
    )

pub returns-then-not-is_lawful : goal.returns-then-not-is_lawful
returns-then-not-is_lawful c =
    let side = c.args._side in
    let (h, keeps, goes, count) = c.loop-index.invariant in
    let t = c.index-turns-index.result in
    let within : c.loop-index.index < length c.args.turns.now = omega arith in
    let rest : drop c.loop-index.index c.args.turns.now ≡ t ∷ drop (suc c.loop-index.index) c.args.turns.now =
    drop-cons c.args.turns.now c.loop-index.index t within ∙ ap (λ (u : Turn). u ∷ drop (suc c.loop-index.index) c.args.turns.now) (sym c.index-turns-index.is) in
    let unlawful : is_lawful side h t ≡ false = sym (c.is_lawful.ensures.history side h keeps) ∙ c.if-not-is_lawful.true in (
      stops-here side h t (drop c.loop-index.index c.args.turns.now) (drop (suc c.loop-index.index) c.args.turns.now) c.loop-index.answers (run side c.args.turns.now) rest unlawful goes,
      sym count,
    )
