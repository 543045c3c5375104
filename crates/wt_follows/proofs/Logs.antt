-- A log with more actions.
use Rattle.std.proofs.Common.{◌∙◌, ◌≡◌, ◌++◌, ◌∷◌, Bool, List, [], ap, false, refl, subst, sym, true, ℕ}
use Rattle.std.proofs.lemmas.Bool.{eq-eqb, eqb-true, false_from_ne_true, true≢false}
use Rattle.std.specs.Prelude.{◌==◌}
use Rattle.wt_turn.specs.Joined.{newest_first}
use Rattle.wt_turn.specs.Log.{Log, Sent, calls_of, events_of, with_actions}
use Rattle.wt_turn.specs.declared.action.Action.{Action}

pub with-append : (xs ys : List Action) (log : Log) → with_actions (xs ++ ys) log ≡ with_actions ys (with_actions xs log)
with-append [] ys log = refl
with-append (x ∷ xs) ys log = with-append xs ys (Sent x ∷ log)

pub newest-append : (xs ys before : List Action) → newest_first (xs ++ ys) before ≡ newest_first ys (newest_first xs before)
newest-append [] ys before = refl
newest-append (x ∷ xs) ys before = newest-append xs ys (x ∷ before)

pub events-kept : (xs : List Action) (log : Log) → events_of (with_actions xs log) ≡ events_of log
events-kept [] log = refl
events-kept (x ∷ xs) log = events-kept xs (Sent x ∷ log)

pub calls-kept : (xs : List Action) (log : Log) → calls_of (with_actions xs log) ≡ calls_of log
calls-kept [] log = refl
calls-kept (x ∷ xs) log = calls-kept xs (Sent x ∷ log)

-- an id that passes where another doesn't is another
pub differs : (P : ℕ → Bool) (k : ℕ) → P k ≡ false → (j : ℕ) → P j ≡ true → (k == j) ≡ false
differs P k none j some = by (k == j) refl
  where
    by : (b : Bool) → (k == j) ≡ b → (k == j) ≡ false
    by false e = e
    by true e = absurd (let same = ap P (eqb-true k j e) in cc)

pub flip : (j k : ℕ) → (j == k) ≡ false → (k == j) ≡ false
flip j k e = false_from_ne_true (k == j) (λ f. true≢false (sym (eq-eqb j k (sym (eqb-true k j f))) ∙ e))

pub same-id : (k : ℕ) → (k == k) ≡ true
same-id k = eq-eqb k k refl

-- by whether it is this id
pub by-id : (P : ℕ → Type 0) (k j : ℕ) → P k → ((k == j) ≡ false → P j) → P j
by-id P k j here there = by (k == j) refl
  where
    by : (b : Bool) → (k == j) ≡ b → P j
    by true e = subst P (eqb-true k j e) here
    by false e = there e
