-- Bytes that are joined by a separator which none of them has are split at it again.
use Rattle.std.proofs.Common.{◌≡◌, ℕ, Bool, true, false, List, [], ◌∷◌, ◌++◌, refl, sym, ap, ◌∙◌, append_assoc, append-nil}
use Rattle.std.proofs.lemmas.Bool.{and_from, and_parts, eq-eqb, not-true}
use Rattle.std.proofs.lemmas.List.Folds.{list_all-append}
use Rattle.std.specs.Prelude.{◌==◌, ◌&&◌, not, if◌then◌else◌}
use Rattle.std.specs.List.{AllByRecursion, list_all}
use Rattle.wt_script.specs.Words.{last_part, parts, split_from, words}

-- none of the bytes is the separator
abbrev pub lacks : ℕ → List ℕ → Bool
lacks s bytes = list_all (λ b. not (b == s)) bytes

pub lacks_both : (s : ℕ) (xs ys : List ℕ) → lacks s xs ≡ true → lacks s ys ≡ true → lacks s (xs ++ ys) ≡ true
lacks_both s xs ys e f = list_all-append (λ b. not (b == s)) xs ys ∙ and_from (lacks s xs) (lacks s ys) e f

module _ (s : ℕ) where
  ends : (part xs ys : List ℕ) → lacks s xs ≡ true → split_from last_part s part (xs ++ s ∷ ys) ≡ (part ++ xs) ∷ parts s ys
  ends part [] ys e =
      ap (λ t. if t then part ∷ split_from last_part s [] ys else split_from last_part s (part ++ s ∷ []) ys) (eq-eqb s s refl)
      ∙ ap (λ p. p ∷ parts s ys) (sym (append-nil part))
  ends part (b ∷ xs) ys e =
      let both = and_parts (not (b == s)) (lacks s xs) e in
      ap (λ t. if t then part ∷ split_from last_part s [] (xs ++ s ∷ ys) else split_from last_part s (part ++ b ∷ []) (xs ++ s ∷ ys)) (not-true (b == s) both.0)
      ∙ ends (part ++ b ∷ []) xs ys both.1
      ∙ ap (λ p. p ∷ parts s ys) (append_assoc part (b ∷ []) xs)

  ends_all : (part xs : List ℕ) → lacks s xs ≡ true → split_from last_part s part xs ≡ (part ++ xs) ∷ []
  ends_all part [] e = ap (λ p. p ∷ []) (sym (append-nil part))
  ends_all part (b ∷ xs) e =
      let both = and_parts (not (b == s)) (lacks s xs) e in
      ap (λ t. if t then part ∷ split_from last_part s [] xs else split_from last_part s (part ++ b ∷ []) xs) (not-true (b == s) both.0)
      ∙ ends_all (part ++ b ∷ []) xs both.1
      ∙ ap (λ p. p ∷ []) (append_assoc part (b ∷ []) xs)

  pub part_first : (xs ys : List ℕ) → lacks s xs ≡ true → parts s (xs ++ s ∷ ys) ≡ xs ∷ parts s ys
  part_first xs ys e = ends [] xs ys e

  pub part_alone : (xs : List ℕ) → lacks s xs ≡ true → parts s xs ≡ xs ∷ []
  part_alone xs e = ends_all [] xs e

-- words with a blank between each two
abbrev pub spaced : List (List ℕ) → List ℕ
spaced [] = []
spaced (w ∷ []) = w
spaced (w ∷ v ∷ ws) = w ++ 32 ∷ spaced (v ∷ ws)

-- none of the words has the separator
abbrev pub EachLacks : ℕ → List (List ℕ) → Type 0
EachLacks s ws = AllByRecursion (λ (w : List ℕ). lacks s w ≡ true) ws

pub spaced_words : (w : List ℕ) (ws : List (List ℕ)) → EachLacks 32 (w ∷ ws) → words (spaced (w ∷ ws)) ≡ w ∷ ws
spaced_words w [] each = part_alone 32 w each.0
spaced_words w (v ∷ ws) each = part_first 32 w (spaced (v ∷ ws)) each.0 ∙ ap (λ l. w ∷ l) (spaced_words v ws each.1)

pub spaced_lacks : (s : ℕ) → (32 == s) ≡ false → (ws : List (List ℕ)) → EachLacks s ws → lacks s (spaced ws) ≡ true
spaced_lacks s other [] each = refl
spaced_lacks s other (w ∷ []) each = each.0
spaced_lacks s other (w ∷ v ∷ ws) each =
    lacks_both s w (32 ∷ spaced (v ∷ ws)) each.0 (and_from (not (32 == s)) (lacks s (spaced (v ∷ ws))) (ap not other) (spaced_lacks s other (v ∷ ws) each.1))
