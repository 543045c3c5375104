-- The words that ask for a check ask for no other program.
use Rattle.std.proofs.Common.{◌≡◌, ℕ, Bool, true, false, List, [], ◌∷◌, refl, sym, ap, ◌∙◌}
use Rattle.std.proofs.lemmas.Bool.{and_parts, ne_eqb, true≢false}
use Rattle.std.specs.Prelude.{◌==◌, ◌&&◌, codes}
use Rattle.wt_check.specs.Outcome.{asks_check}
use Rattle.wt_cli.specs.Command.{asks_for}
use Rattle.wt_script.specs.Words.{is_word}

-- a word `check` isn't `shared`
check_isnt_shared : (word : List ℕ) → is_word word (codes "check") ≡ true → is_word word (codes "shared") ≡ false
check_isnt_shared [] e = refl
check_isnt_shared (c ∷ cs) e =
    ap (λ t. t && is_word cs (codes "hared")) (ne_eqb c 115 (λ q. true≢false (sym (and_parts (c == 99) (is_word cs (codes "heck")) e).0 ∙ ap (λ (n : ℕ). n == 99) q)))

pub check_asks_alone : (words : List (List ℕ)) → asks_check words ≡ true → asks_for (codes "shared") words ≡ false
check_asks_alone [] e = refl
check_asks_alone (word ∷ []) e = check_isnt_shared word e
check_asks_alone (word ∷ other ∷ more) e = absurd (true≢false (sym e))
