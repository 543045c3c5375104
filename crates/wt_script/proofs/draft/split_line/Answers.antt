use Rattle.std.proofs.Common.{arith, ◌+◌, ◌-◌, ◌∷◌, [], sym, ap, ◌∙◌, length, take, drop, length-drop, take_all, add-one}
use Rattle.std.proofs.lemmas.Bool.{eqb-true, eq-eqb}
use Rattle.wt_script.specs.Words.{last_line, split_from}
use Rattle.wt_script.proofs.Splitting.{split_at, split_nowhere}
use Rattle.wt_script.proofs.draft.split_line.Goals as goal

pub returns-in-Some-clause-lines : goal.returns-in-Some-clause-lines
returns-in-Some-clause-lines c =
    let text = c.args.text.now in
    let end = c.in-Some.end in
    let first = c.in-Some.ensures.0 in
    split_at last_line 10 [] text end first.high (λ k within e. first.before k (omega arith) within (eq-eqb _ _ e)) (eqb-true _ _ c.in-Some.ensures.1)
    ∙ sym (ap (λ rest. take end text ∷ split_from last_line 10 [] rest) (take_all (length text - (end + 1)) (drop (end + 1) text) (omega (arith, length-drop (end + 1) text)) ∙ ap (λ n. drop n text) (add-one end)))

pub returns-in-None-clause-lines : goal.returns-in-None-clause-lines
returns-in-None-clause-lines c = split_nowhere last_line 10 [] c.args.text.now (λ k within e. c.in-None.ensures k (omega arith) within (eq-eqb _ _ e))
