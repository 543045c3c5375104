-- What went out on a stream, against its head and what was accepted: lists of bytes.
use Rattle.std.specs.Prelude.{[], ◌++◌, ◌==◌, ◌≡◌, Bool, List, drop, false, length, suc, take, true, zero, ℕ}
use Rattle.std.proofs.Common.{◌∙◌, ap, append_assoc, arith, length-append, refl, subst, sym}
use Rattle.std.proofs.Math.ListN.{drop_of_length-le}
use Rattle.std.proofs.Math.Seq.{take-append_seam}
use Rattle.std.proofs.lemmas.Bool.{eq-eqb, eqb-true}
use Rattle.std.proofs.lemmas.List.{append-nil, take-append-drop}

-- ---- tests

pub swapped : (a b : ℕ) → (a == b) ≡ false → (b == a) ≡ false
swapped a b e = by (b == a) refl
  where
    by : (x : Bool) → (b == a) ≡ x → x ≡ false
    by false q = refl
    by true q = absurd (let r : true ≡ false = sym (eq-eqb a b (sym (eqb-true b a q))) ∙ e in cc r)

pub clash : (b : Bool) → b ≡ true → b ≡ false → ⊥
clash true e f = cc f
clash false e f = cc e

-- ---- lists

-- a further part of a list
pub take-on : (n : ℕ) (xs : List ℕ) → (m : ℕ) → take n xs ++ take m (drop n xs) ≡ take (length (take n xs ++ take m (drop n xs))) xs
take-on n xs m = sym (ap (take (length (take n xs ++ take m (drop n xs)))) (sym whole) ∙ take-append_seam (take n xs ++ take m (drop n xs)) (drop m (drop n xs)))
  where
    whole : (take n xs ++ take m (drop n xs)) ++ drop m (drop n xs) ≡ xs
    whole = append_assoc (take n xs) (take m (drop n xs)) (drop m (drop n xs)) ∙ ap (λ (ys : List ℕ). take n xs ++ ys) (take-append-drop m (drop n xs)) ∙ take-append-drop n xs

-- ---- lists of bytes

-- what went out is in the head, of a stream that nobody writes, or it is the head and all that was accepted
pub data Flow (head went got : List ℕ) (given : Bool) : Type 0 where
  InHead : take (length went) head ≡ went → got ≡ [] → given ≡ false → Flow head went got given
  Past : went ≡ head ++ got → Flow head went got given

pub flow-as : (head went gone got have : List ℕ) (given handed : Bool) → went ≡ gone → got ≡ have → given ≡ handed → Flow head went got given → Flow head gone have handed
flow-as head went gone got have given handed a b c f =
    subst (λ (x : List ℕ). Flow head x have handed) a (subst (λ (y : List ℕ). Flow head went y handed) b (subst (λ (z : Bool). Flow head went got z) c f))

nothing-left : (head went got : List ℕ) → went ≡ head ++ got → drop (length went) head ≡ []
nothing-left head went got e = drop_of_length-le head (omega (arith, length-append head got, ap length e))

take-none : (m : ℕ) (xs : List ℕ) → xs ≡ [] → take m xs ≡ []
take-none zero xs e = refl
take-none (suc m) xs e = ap (take (suc m)) e

-- a further part of the head
pub flow-on : (head went got : List ℕ) (given : Bool) (m : ℕ) → Flow head went got given → Flow head (went ++ take m (drop (length went) head)) got given
flow-on head went got given m (InHead t g n) = InHead (subst (λ (x : List ℕ). take (length (x ++ take m (drop (length went) head))) head ≡ x ++ take m (drop (length went) head)) t (sym (take-on (length went) head m))) g n
flow-on head went got given m (Past e) =
    Past (ap (λ (xs : List ℕ). went ++ xs) (take-none m (drop (length went) head) (nothing-left head went got e)) ∙ append-nil went ∙ e)

pub take-all-of : (m : ℕ) (xs : List ℕ) → drop m xs ≡ [] → take m xs ≡ xs
take-all-of m xs e = sym (append-nil (take m xs)) ∙ ap (λ (ys : List ℕ). take m xs ++ ys) (sym e) ∙ take-append-drop m xs

-- the rest of the head
pub flow-whole : (head went got : List ℕ) (given handed : Bool) (m : ℕ) → drop m (drop (length went) head) ≡ [] → Flow head went got given → Flow head (went ++ take m (drop (length went) head)) got handed
flow-whole head went got given handed m d (InHead t g n) =
    Past (ap (λ (xs : List ℕ). went ++ xs) (take-all-of m (drop (length went) head) d) ∙ ap (λ (xs : List ℕ). xs ++ drop (length went) head) (sym t) ∙ take-append-drop (length went) head ∙ sym (append-nil head)
    ∙ ap (λ (xs : List ℕ). head ++ xs) (sym g))
flow-whole head went got given handed m d (Past e) = Past (ap (λ (xs : List ℕ). went ++ xs) (take-none m (drop (length went) head) (nothing-left head went got e)) ∙ append-nil went ∙ e)

-- a write
pub flow-write : (head went got piece : List ℕ) (given handed : Bool) → given ≡ true → Flow head went got given → Flow head (went ++ piece) (got ++ piece) handed
flow-write head went got piece given handed q (InHead t g n) = absurd (clash given q n)
flow-write head went got piece given handed q (Past e) = Past (ap (λ (xs : List ℕ). xs ++ piece) e ∙ append_assoc head got piece)

-- a stream with no head
pub flow-given : (head went got : List ℕ) (given handed : Bool) → head ≡ [] → Flow head went got given → Flow head went got handed
flow-given head went got given handed z (InHead t g n) = Past (sym t ∙ take-none (length went) head z ∙ sym (ap (λ (xs : List ℕ). xs ++ got) z ∙ g))
flow-given head went got given handed z (Past e) = Past e

-- a head that is new
pub flow-new : (old head went got : List ℕ) (given : Bool) → old ≡ [] → got ≡ [] → given ≡ false → Flow old went got given → Flow head went got given
flow-new old head went got given z g n f = InHead (ap (λ (xs : List ℕ). take (length xs) head) (empty f) ∙ sym (empty f)) g n
  where
    empty : Flow old went got given → went ≡ []
    empty (InHead t h m) = sym t ∙ take-none (length went) old z
    empty (Past e) = e ∙ ap (λ (xs : List ℕ). xs ++ got) z ∙ g
