-- What waits at a place, and what taking it out and putting its rest back come to.
use Rattle.std.specs.Prelude.{[], ◌&&◌, ◌++◌, ◌∷◌, ◌||◌, ◌≡◌, ◌≤◌, ◌<◌, ◌↔◌, Bool, IfSome, IsSome, List, None, Option, Some, drop, false, if◌then◌else◌, is_some, length, suc, take, true, zero, ℕ}
use Rattle.std.specs.List.{ItemBy}
use Rattle.std.specs.Option.{option_map}
use Rattle.std.proofs.Common.{Bor, ◌∙◌, ap, arith, get_or, refl, subst, sym}
use Rattle.wt_pair.specs.Kept.{LinkNow, delivered_from, is_ready, ready_at, ready_item, with_came, with_rest, without}
use Rattle.wt_pair.specs.Link.{connects, delivered_turn, first_of, is_first, item_at, left_of, may_deliver, takes_bytes, taken_at}
use Rattle.wt_pair.specs.declared.item.Item.{Item}
use Rattle.wt_turn.specs.declared.turn.Turn.{Turn}

-- ---- what waits at a place

-- the item at a place that there is
item-there : (xs : List Item) (place : ℕ) (x : Item) → place < length xs → x ≡ get_or xs place x → item_at xs place ≡ Some x
item-there [] place x l e = absurd (omega arith)
item-there (y ∷ xs) zero x l e = ap Some (sym e)
item-there (y ∷ xs) (suc place) x l e = item-there xs place x (omega arith) e

-- there is none behind the last
none-there : (xs : List Item) (place : ℕ) → length xs ≤ place → item_at xs place ≡ None
none-there [] place l = refl
none-there (y ∷ xs) zero l = absurd (omega arith)
none-there (y ∷ xs) (suc place) l = none-there xs place (omega arith)

-- where there is one the place is within the list
pub within : (xs : List Item) (place : ℕ) (x : Item) → item_at xs place ≡ Some x → place < length xs
within [] place x e = absurd (cc e)
within (y ∷ xs) zero x e = omega arith
within (y ∷ xs) (suc place) x e = let l = within xs place x e in omega (arith, l)

-- what a queue lends at a place
pub lent : (xs : List Item) (place : ℕ) (o : Option (Bor Item)) → ItemBy (λ (x : Bor Item). x.now) xs place place o → option_map (λ (x : Bor Item). x.now) o ≡ item_at xs place
lent xs place (Some x) e = sym (item-there xs place x.now e.3.0 e.1)
lent xs place None e = sym (none-there xs place e.3)

-- what a queue gives up at a place
pub given : (xs : List Item) (place n : ℕ) (o : Option Item) → n ≡ length xs → IfSome o (λ y. y ≡ get_or xs place y) → (IsSome o ↔ (place < n)) → o ≡ item_at xs place
given xs place n (Some x) m e v = sym (item-there xs place x (let l = v.0 refl in omega (arith, l, m)) e)
given xs place n None m e v = let none : place < n → ⊥ = λ l. cc (v.1 l) in sym (none-there xs place (omega (arith, none, m)))

-- ---- delivering

-- what is left of an item is put back where it was
put-back : (xs : List Item) (place : ℕ) (rest : List Item) → place < length xs
    → take place (taken_at xs place []) ++ rest ++ drop place (taken_at xs place []) ≡ taken_at xs place rest
put-back [] place rest l = absurd (omega arith)
put-back (y ∷ xs) zero rest l = refl
put-back (y ∷ xs) (suc place) rest l = ap (λ (zs : List Item). y ∷ zs) (put-back xs place rest (omega arith))

-- its place is there
pub room : (xs : List Item) (place : ℕ) → place < length xs → place ≤ length (taken_at xs place [])
room [] place l = absurd (omega arith)
room (y ∷ xs) zero l = omega arith
room (y ∷ xs) (suc place) l = let r = room xs place (omega arith) in omega (arith, r)

-- an item that is there may be delivered where one is ready
may-be : (l : LinkNow) (place n : ℕ) (x : Item) → is_ready l place n ≡ true → item_at l.waiting place ≡ Some x → may_deliver l.came l.waiting place n x ≡ true
may-be l place n x r e = by (may_deliver l.came l.waiting place n x) (sym (ap (λ (o : Option Item). is_some (ready_item l place n o)) e) ∙ r)
  where
    by : (b : Bool) → is_some (if b then Some x else None) ≡ true → b ≡ true
    by true s = refl
    by false s = s

-- it is the one that is ready
ready : (l : LinkNow) (place n : ℕ) (x : Item) → is_ready l place n ≡ true → item_at l.waiting place ≡ Some x → ready_at l place n ≡ Some x
ready l place n x r e = ap (ready_item l place n) e ∙ ap (λ (b : Bool). if b then Some x else None) (may-be l place n x r e)

takes : (a b c : Bool) → (a && b && c) ≡ true → c ≡ true
takes true true c e = e
takes true false c e = absurd (cc e)
takes false b c e = absurd (cc e)

-- so many bytes of it may be taken
pub may-take : (l : LinkNow) (place n : ℕ) (x : Item) → is_ready l place n ≡ true → item_at l.waiting place ≡ Some x → takes_bytes x.turn n ≡ true
may-take l place n x r e = takes (l.came || connects x.turn) (is_first l.waiting place x) (takes_bytes x.turn n) (may-be l place n x r e)

-- its turn is delivered
pub turn-delivered : (l : LinkNow) (place n : ℕ) (x : Item) (turn : Turn) → is_ready l place n ≡ true → item_at l.waiting place ≡ Some x → turn ≡ first_of n x.turn → Some turn ≡ delivered_turn n (ready_at l place n)
turn-delivered l place n x turn r e t = ap Some t ∙ sym (ap (delivered_turn n) (ready l place n x r e))

-- its rest waits on
pub rest-waits : (l : LinkNow) (place n : ℕ) (x : Item) → is_ready l place n ≡ true → item_at l.waiting place ≡ Some x
    → with_rest place (left_of n x.stream x.turn) (with_came (connects x.turn) (without place l)) ≡ delivered_from place n l (ready_at l place n)
rest-waits l place n x r e =
    ap (λ (ys : List Item). record { waiting = ys; came = l.came || connects x.turn }) (put-back l.waiting place (left_of n x.stream x.turn) (within l.waiting place x e))
    ∙ sym (ap (delivered_from place n l) (ready l place n x r e))

-- where nothing is ready nothing is delivered
pub none-ready : (l : LinkNow) (place n : ℕ) → is_ready l place n ≡ false → ready_at l place n ≡ None
none-ready l place n r = by (ready_at l place n) r
  where
    by : (o : Option Item) → is_some o ≡ false → o ≡ None
    by None s = refl
    by (Some x) s = absurd (cc s)

-- what is ready waits at its place, and is first there
pub ready-first : (l : LinkNow) (place n : ℕ) (x : Item) → ready_at l place n ≡ Some x → (item_at l.waiting place ≡ Some x) × (is_first l.waiting place x ≡ true)
ready-first l place n x e = by (item_at l.waiting place) e
  where
    by : (o : Option Item) → ready_item l place n o ≡ Some x → (o ≡ Some x) × (is_first l.waiting place x ≡ true)
    by None r = absurd (cc r)
    by (Some y) r = of (may_deliver l.came l.waiting place n y) refl r
      where
        firsts : (a b c : Bool) → (a && b && c) ≡ true → b ≡ true
        firsts true true c q = refl
        firsts true false c q = absurd (cc q)
        firsts false b c q = absurd (cc q)

        of : (b : Bool) → may_deliver l.came l.waiting place n y ≡ b → (if b then Some y else None) ≡ Some x → (Some y ≡ Some x) × (is_first l.waiting place x ≡ true)
        of true m s = (s, let same : y ≡ x = cc s in subst (λ (z : Item). is_first l.waiting place z ≡ true) same (firsts (l.came || connects y.turn) (is_first l.waiting place y) (takes_bytes y.turn n) m))
        of false m s = absurd (cc s)
