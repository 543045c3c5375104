-- Joined actions: joining lists one after another is joining them at once.
use Rattle.std.specs.Prelude.{[], ◌++◌, ◌==◌, ◌∷◌, ◌≡◌, Bool, List, false, if◌then◌else◌, true, ℕ}
use Rattle.std.proofs.Common.{◌∙◌, ap, refl, sym}
use Rattle.std.proofs.lemmas.Bool.{eq-eqb, eqb-true}
use Rattle.std.proofs.lemmas.List.{append_assoc}
use Rattle.wt_turn.specs.Joined.{join_all, join_one, join_two}
use Rattle.wt_turn.specs.declared.action.Action.{Action}
use Rattle.wt_turn.specs.declared.action.Action.TheVariants as actions

-- one more action after a list that isn't empty leaves its first in front
never-empty : (a : Action) (before : List Action) (x : Action) → (c : Action) × (rest : List Action) × (join_one (a ∷ before) x ≡ c ∷ rest)
never-empty (actions.Send i p) [] (actions.Send j q) = by (i == j)
  where
    by : (e : Bool) → (c : Action) × (rest : List Action) × ((if e then actions.Send i (p ++ q) ∷ [] else actions.Send i p ∷ actions.Send j q ∷ []) ≡ c ∷ rest)
    by true = (actions.Send i (p ++ q), [], refl)
    by false = (actions.Send i p, actions.Send j q ∷ [], refl)
never-empty a [] x = (a, x ∷ [], refl)
never-empty a (b ∷ before) x = (a, join_one (b ∷ before) x, refl)

after-first : (a b : Action) (before : List Action) (x y : Action) → join_one (a ∷ join_one (b ∷ before) x) y ≡ a ∷ join_one (join_one (b ∷ before) x) y
after-first a b before x y = let n = never-empty b before x in ap (λ xs. join_one (a ∷ xs) y) n.2 ∙ ap (λ xs. a ∷ join_one xs y) (sym n.2)

-- two pieces for one stream are one piece
same-send : (before : List Action) (i : ℕ) (p q : List ℕ) → join_one (join_one before (actions.Send i p)) (actions.Send i q) ≡ join_one before (actions.Send i (p ++ q))
same-send [] i p q = rw (eq-eqb i i refl) refl
same-send (actions.Send j r ∷ []) i p q = by (j == i) refl
  where
    by : (b : Bool) → (j == i) ≡ b → join_one (if b then actions.Send j (r ++ p) ∷ [] else actions.Send j r ∷ actions.Send i p ∷ []) (actions.Send i q) ≡ (if b then actions.Send j (r ++ (p ++ q)) ∷ [] else actions.Send j r ∷ actions.Send i (p ++ q) ∷ [])
    by true e = ap (λ (b : Bool). if b then actions.Send j ((r ++ p) ++ q) ∷ [] else actions.Send j (r ++ p) ∷ actions.Send i q ∷ []) e ∙ ap (λ xs. actions.Send j xs ∷ []) (append_assoc r p q)
    by false e = ap (λ (b : Bool). actions.Send j r ∷ (if b then actions.Send i (p ++ q) ∷ [] else actions.Send i p ∷ actions.Send i q ∷ [])) (eq-eqb i i refl)
same-send (a ∷ []) i p q = ap (λ (b : Bool). a ∷ (if b then actions.Send i (p ++ q) ∷ [] else actions.Send i p ∷ actions.Send i q ∷ [])) (eq-eqb i i refl)
same-send (a ∷ b ∷ before) i p q = after-first a b before (actions.Send i p) (actions.Send i q) ∙ ap (λ xs. a ∷ xs) (same-send (b ∷ before) i p q)

join-two : (before : List Action) (a b : Action) → join_one (join_one before a) b ≡ join_all before (join_two a b)
join-two before (actions.Send i p) (actions.Send j q) = by (i == j) refl
  where
    by : (c : Bool) → (i == j) ≡ c → join_one (join_one before (actions.Send i p)) (actions.Send j q) ≡ join_all before (if c then actions.Send i (p ++ q) ∷ [] else actions.Send i p ∷ actions.Send j q ∷ [])
    by true e = ap (λ (n : ℕ). join_one (join_one before (actions.Send i p)) (actions.Send n q)) (sym (eqb-true i j e)) ∙ same-send before i p q
    by false e = refl
join-two before a b = refl

join-later : (before as_ : List Action) (a : Action) → join_one (join_all before as_) a ≡ join_all before (join_one as_ a)
join-later before [] a = refl
join-later before (b ∷ []) a = join-two before b a
join-later before (b ∷ c ∷ as_) a = join-later (join_one before b) (c ∷ as_) a

-- joining is associative
pub join_all-assoc : (xs ys zs : List Action) → join_all (join_all xs ys) zs ≡ join_all xs (join_all ys zs)
join_all-assoc xs ys [] = refl
join_all-assoc xs ys (z ∷ zs) = ap (λ ws. join_all ws zs) (join-later xs ys z) ∙ join_all-assoc xs (join_one ys z) zs
