use Rattle.std.proofs.Common.{arith, ◌+◌, ◌-◌, ◌∷◌, [], sym, ap, ◌∙◌, length, take, drop, length-drop, take_all, add-one}
use Rattle.std.proofs.lemmas.Bool.{eqb-true, eq-eqb}
use Rattle.wt_script.specs.Words.{last_part, split_from}
use Rattle.wt_script.proofs.Splitting.{split_at, split_nowhere}
use Rattle.wt_script.proofs.script.words.split_at_separator.Goals as goal

pub returns-in-Some : goal.returns-in-Some
returns-in-Some c =
    let bytes = c.args.bytes.now in
    let separator = c.args.separator in
    let offset = c.in-Some.offset in
    let first = c.in-Some.ensures.0 in
    ap (λ rest. take offset bytes ∷ split_from last_part separator [] rest) (take_all (length bytes - (offset + 1)) (drop (offset + 1) bytes) (omega (arith, length-drop (offset + 1) bytes)) ∙ ap (λ n. drop n bytes) (add-one offset))
    ∙ sym (split_at last_part separator [] bytes offset first.high (λ k within e. first.before k (omega arith) within (eq-eqb _ _ e)) (eqb-true _ _ c.in-Some.ensures.1))

pub returns-in-None : goal.returns-in-None
returns-in-None c = sym (split_nowhere last_part c.args.separator [] c.args.bytes.now (λ k within e. c.in-None.ensures k (omega arith) within (eq-eqb _ _ e)))
