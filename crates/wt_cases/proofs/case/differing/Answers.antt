use Rattle.std.proofs.Common.{arith, ◌≡◌, ◌<◌, ◌+◌, ℕ, List, ◌∷◌, ◌++◌, [], get_or, length, subst, sym, ap, ◌∙◌, take}
use Rattle.std.proofs.lemmas.List.{take_all, take_more}
use Rattle.std.proofs.lemmas.List.Elements.{All-push}
use Rattle.std.specs.Prelude.{All}
use Rattle.wt_cases.specs.Cases.{IsAnswered}
use Rattle.wt_cases.specs.declared.case.Case.{Case}
use Rattle.wt_cases.proofs.case.differing.Goals as goal

-- one more of the cases
all-more : (cases : List Case) (i : ℕ) (case : Case) → i < length cases → case ≡ get_or cases i case → All IsAnswered (take i cases) → IsAnswered case → All IsAnswered (take (i + 1) cases)
all-more cases i case within e before here =
    subst (All IsAnswered) (ap (λ (c : Case). take i cases ++ c ∷ []) e ∙ sym (take_more cases i case within)) (All-push IsAnswered (take i cases) case before here)

pub loop-number-preserved : goal.loop-number-preserved
loop-number-preserved c = λ e.
    all-more c.args.cases.now c.loop-number.number c.index-cases-number.result c.loop-number-test.true c.index-cases-number.is
    (c.loop-number.invariant (c.in_ok-push_differing.ensures.before e))
    (c.in_ok-push_differing.ensures.agrees e)

pub returns : goal.returns
returns c = λ e. subst (All IsAnswered) (take_all c.loop-number.number c.args.cases.now (omega (arith, c.loop-number-test.false))) (c.loop-number.invariant e)
