-- Unread bytes in pieces.
use Rattle.std.proofs.Common.{arith, ◌≡◌, ◌≤◌, ◌<◌, ◌+◌, ◌-◌, ℕ, zero, suc, Bool, true, false, List, [], ◌∷◌, ◌++◌, length, take, drop, refl, sym, ap, ◌∙◌, length-append, length-drop, append_assoc}
use Rattle.std.specs.Prelude.{nat_lt, if◌then◌else◌, ◌==◌}
use Rattle.std.specs.List.{concat}
use Rattle.std.proofs.lemmas.Bool.Decides.{nat_tests}
use Rattle.std.proofs.lemmas.List.{append-nil, drop-append-le, take-append-le}
use Rattle.wt_transport.specs.Pieces.{AreFilled, first_piece, with_piece, skip}

-- ---- one more piece

pub no_piece : (pieces : List (List ℕ)) (p : List ℕ) → (length p == 0) ≡ true → with_piece pieces p ≡ pieces
no_piece pieces [] e = refl
no_piece pieces (b ∷ p) e = absurd (grind (arith, nat_tests))

pub more_piece : (pieces : List (List ℕ)) (p : List ℕ) → (length p == 0) ≡ false → with_piece pieces p ≡ pieces ++ p ∷ []
more_piece pieces [] e = absurd (cc)
more_piece pieces (b ∷ p) e = refl

filled_push : (pieces : List (List ℕ)) (p : List ℕ) → AreFilled pieces → 0 < length p → AreFilled (pieces ++ p ∷ [])
filled_push [] p f l = (l, tt)
filled_push (q ∷ pieces) p f l = (f.0, filled_push pieces p f.1 l)

pub filled_more : (pieces : List (List ℕ)) (p : List ℕ) → AreFilled pieces → AreFilled (with_piece pieces p)
filled_more pieces [] f = f
filled_more pieces (b ∷ p) f = filled_push pieces (b ∷ p) f (omega arith)

pub filled_pushed : (pieces : List (List ℕ)) (p : List ℕ) → AreFilled pieces → (length p == 0) ≡ false → AreFilled (pieces ++ p ∷ [])
filled_pushed pieces [] f e = absurd (cc)
filled_pushed pieces (b ∷ p) f e = filled_push pieces (b ∷ p) f (omega arith)

pub concat_push : (pieces : List (List ℕ)) (p : List ℕ) → concat (pieces ++ p ∷ []) ≡ concat pieces ++ p
concat_push [] p = append-nil p
concat_push (q ∷ pieces) p = ap (λ xs. q ++ xs) (concat_push pieces p) ∙ sym (append_assoc q (concat pieces) p)

pub concat_more : (pieces : List (List ℕ)) (p : List ℕ) → concat (with_piece pieces p) ≡ concat pieces ++ p
concat_more pieces [] = sym (append-nil (concat pieces))
concat_more pieces (b ∷ p) = concat_push pieces (b ∷ p)

pub length_push : (pieces : List (List ℕ)) (p : List ℕ) → length (concat (pieces ++ p ∷ [])) ≡ length (concat pieces) + length p
length_push pieces p = ap length (concat_push pieces p) ∙ length-append (concat pieces) p

-- ---- the piece in front

-- as many bytes as the first piece has at most are the same of it and of all pieces
pub take_first : (k : ℕ) (pieces : List (List ℕ)) → k ≤ length (first_piece pieces) → take k (concat pieces) ≡ take k (first_piece pieces)
take_first k [] l = refl
take_first k (p ∷ later) l = take-append-le k p (concat later) l

-- the first piece isn't longer than all pieces
pub first_within : (pieces : List (List ℕ)) → length (first_piece pieces) ≤ length (concat pieces)
first_within [] = omega arith
first_within (p ∷ later) = omega (arith, length-append p (concat later))

-- ---- bytes that are left out in front

pub skip_none : (pieces : List (List ℕ)) → AreFilled pieces → skip 0 pieces ≡ pieces
skip_none [] f = refl
skip_none (p ∷ later) f = let l : nat_lt 0 (length p) ≡ true = grind (arith, nat_tests, f.0) in rw l refl

drop_through : (n : ℕ) (p xs : List ℕ) → length p ≤ n → drop n (p ++ xs) ≡ drop (n - length p) xs
drop_through n [] xs l = ap (λ k. drop k xs) (omega arith)
drop_through zero (x ∷ p) xs l = absurd (omega arith)
drop_through (suc n) (x ∷ p) xs l = drop_through n p xs (omega arith) ∙ ap (λ k. drop k xs) (omega arith)

pub drop_none : (n : ℕ) → drop {A = ℕ} n [] ≡ []
drop_none zero = refl
drop_none (suc n) = refl

skip-if : (b : Bool) (n : ℕ) (p : List ℕ) (later : List (List ℕ)) → nat_lt n (length p) ≡ b → concat (skip (n - length p) later) ≡ drop (n - length p) (concat later)
    → concat (if b then drop n p ∷ later else skip (n - length p) later) ≡ drop n (p ++ concat later)
skip-if true n p later e rest = sym (drop-append-le n p (concat later) (grind (arith, nat_tests)))
skip-if false n p later e rest = rest ∙ sym (drop_through n p (concat later) (grind (arith, nat_tests)))

pub concat_skip : (n : ℕ) (pieces : List (List ℕ)) → concat (skip n pieces) ≡ drop n (concat pieces)
concat_skip n [] = sym (drop_none n)
concat_skip n (p ∷ later) = skip-if (nat_lt n (length p)) n p later refl (concat_skip (n - length p) later)

pub length_skip : (n : ℕ) (pieces : List (List ℕ)) → length (concat (skip n pieces)) ≡ length (concat pieces) - n
length_skip n pieces = ap length (concat_skip n pieces) ∙ length-drop n (concat pieces)

filled-drop : (n : ℕ) (p : List ℕ) → nat_lt n (length p) ≡ true → 0 < length (drop n p)
filled-drop n p e = let l : n < length p = grind (arith, nat_tests) in omega (arith, length-drop n p)

filled-if : (b : Bool) (n : ℕ) (p : List ℕ) (later : List (List ℕ)) → nat_lt n (length p) ≡ b → AreFilled later → AreFilled (skip (n - length p) later)
    → AreFilled (if b then drop n p ∷ later else skip (n - length p) later)
filled-if true n p later e f g = (filled-drop n p e, f)
filled-if false n p later e f g = g

pub filled_skip : (n : ℕ) (pieces : List (List ℕ)) → AreFilled pieces → AreFilled (skip n pieces)
filled_skip n [] f = f
filled_skip n (p ∷ later) f = filled-if (nat_lt n (length p)) n p later refl f.1 (filled_skip (n - length p) later f.1)
