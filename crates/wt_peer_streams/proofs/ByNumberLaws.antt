-- Places in a list by number.
use Rattle.std.proofs.Common.{◌+◌, ◌<◌, ◌≡◌, ◌≤◌, ◌∷◌, [], Bool, Bor, List, ap, arith, false, get_or, length, refl, suc, true, zero, ℕ}
use Rattle.std.proofs.lemmas.Bool.Decides.{nat_tests}
use Rattle.std.specs.List.{insert}
use Rattle.std.specs.Prelude.{◌==◌, ◌||◌, None, Option, Some, if◌then◌else◌, is_some, nat_lt, option_copied, option_map}
use Rattle.wt_kept.specs.Ending.{with_gone}
use Rattle.wt_kept.specs.Kept.{GoneNow}
use Rattle.wt_kept.specs.Windows.{end_in, is_gone_in}
use Rattle.wt_peer_streams.specs.ByNumber.{AllFrom, IsOrdered, place_by}
use Rattle.wt_sessions.specs.StreamTable.{with_id}

-- the place is from low on, and no later than high
pub record IsBetween {X : Type 0} (f : X → ℕ) (n : ℕ) (xs : List X) (low high : ℕ) : Type 0 where
  pub ordered : low ≤ high
  pub within : high ≤ length xs
  pub from : low ≤ place_by f n xs
  pub to : place_by f n xs ≤ high

module _ {X : Type 0} (f : X → ℕ) (n : ℕ) where
  pub place-within : (xs : List X) → place_by f n xs ≤ length xs
  place-within [] = omega arith
  place-within (x ∷ xs) = either (nat_lt (f x) n) (place-within xs)
    where
      either : (b : Bool) → place_by f n xs ≤ length xs → (if b then suc (place_by f n xs) else 0) ≤ suc (length xs)
      either true le = omega arith
      either false le = omega arith

  -- those behind are no less than one in front
  from-at : (m : ℕ) (xs : List X) (i : ℕ) (d : X) → AllFrom f m xs → i < length xs → m ≤ f (get_or xs i d)
  from-at m [] i d a l = absurd (omega arith)
  from-at m (x ∷ xs) zero d a l = a.0
  from-at m (x ∷ xs) (suc i) d a l = from-at m xs i d a.1 (omega arith)

  -- one that is below stands in front of the place
  pub place-after : (xs : List X) (i : ℕ) (d : X) → IsOrdered f xs → i < length xs → f (get_or xs i d) < n → i < place_by f n xs
  place-after [] i d o l lt = absurd (omega arith)
  place-after (x ∷ xs) zero d o l lt = let e : nat_lt (f x) n ≡ true = grind (arith, nat_tests) in rw e (omega arith)
  place-after (x ∷ xs) (suc i) d o l lt =
      let le : f x ≤ f (get_or xs i d) = from-at (f x) xs i d o.0 (omega arith) in
      let e : nat_lt (f x) n ≡ true = grind (arith, nat_tests) in
      let later = place-after xs i d o.1 (omega arith) lt in
      rw e (omega arith)

  -- one that isn't stands from it on
  pub place-before : (xs : List X) (i : ℕ) (d : X) → i < length xs → n ≤ f (get_or xs i d) → place_by f n xs ≤ i
  place-before [] i d l le = absurd (omega arith)
  place-before (x ∷ xs) zero d l le = let e : nat_lt (f x) n ≡ false = grind (arith, nat_tests) in rw e (omega arith)
  place-before (x ∷ xs) (suc i) d l le = either (nat_lt (f x) n) (place-before xs i d (omega arith) le)
    where
      either : (b : Bool) → place_by f n xs ≤ i → (if b then suc (place_by f n xs) else 0) ≤ suc i
      either true e = omega arith
      either false e = omega arith

  -- ---- the search

  pub place-last : (xs : List X) (i : ℕ) (x : X) → IsOrdered f xs → i + 1 ≡ length xs → x ≡ get_or xs i x → f x < n → length xs ≡ place_by f n xs
  place-last xs i x o e is lt =
      let below : f (get_or xs i x) < n = rw (← is) lt in
      let after = place-after xs i x o (omega arith) below in
      let within = place-within xs in
      omega arith

  pub between-all : (xs : List X) → IsBetween f n xs 0 (length xs)
  between-all xs = record { ordered = omega arith; within = omega arith; from = omega arith; to = place-within xs }

  pub between-later : (xs : List X) (low high m : ℕ) (x : X) → IsOrdered f xs → IsBetween f n xs low high → low ≤ m → m < high → x ≡ get_or xs m x → f x < n → IsBetween f n xs (m + 1) high
  between-later xs low high m x o b le lt is below =
      let here : f (get_or xs m x) < n = rw (← is) below in
      let within = b.within in
      let after = place-after xs m x o (omega arith) here in
      record { ordered = omega arith; within = b.within; from = omega arith; to = b.to }

  pub between-earlier : (xs : List X) (low high m : ℕ) (x : X) → IsBetween f n xs low high → low ≤ m → m < high → x ≡ get_or xs m x → n ≤ f x → IsBetween f n xs low m
  between-earlier xs low high m x b le lt is above =
      let here : n ≤ f (get_or xs m x) = rw (← is) above in
      let within = b.within in
      let before = place-before xs m x (omega arith) here in
      record { ordered = le; within = omega arith; from = b.from; to = before }

  -- ---- one more, at its place

  all-weaker : (m k : ℕ) (xs : List X) → m ≤ k → AllFrom f k xs → AllFrom f m xs
  all-weaker m k [] le a = tt
  all-weaker m k (x ∷ xs) le a = let here = a.0 in (omega arith, all-weaker m k xs le a.1)

  all-more : (m : ℕ) (xs : List X) (i : ℕ) (y : X) → AllFrom f m xs → m ≤ f y → AllFrom f m (insert xs i y)
  all-more m [] zero y a le = (le, tt)
  all-more m [] (suc i) y a le = (le, tt)
  all-more m (x ∷ xs) zero y a le = (le, a)
  all-more m (x ∷ xs) (suc i) y a le = (a.0, all-more m xs i y a.1 le)

pub ordered-more : {X : Type 0} (f : X → ℕ) (xs : List X) (y : X) → IsOrdered f xs → IsOrdered f (insert xs (place_by f (f y) xs) y)
ordered-more f [] y o = (tt, tt)
ordered-more {X} f (x ∷ xs) y o = either (nat_lt (f x) (f y)) refl (ordered-more f xs y o.1)
  where
    either : (b : Bool) → nat_lt (f x) (f y) ≡ b → IsOrdered f (insert xs (place_by f (f y) xs) y) → IsOrdered f (insert (x ∷ xs) (if b then suc (place_by f (f y) xs) else 0) y)
    either true e later = (all-more f (f y) (f x) xs (place_by f (f y) xs) y o.0 (grind (arith, nat_tests)), later)
    either false e later = let le : f y ≤ f x = grind (arith, nat_tests) in ((le, all-weaker f (f y) (f y) (f x) xs le o.0), o)

-- ---- ids

-- the id stands at its place
pub id-there : (k : ℕ) (xs : List ℕ) (x : ℕ) → place_by (λ (id : ℕ). id) k xs < length xs → x ≡ get_or xs (place_by (λ (id : ℕ). id) k xs) x → x ≡ k → xs ≡ with_id k xs
id-there k [] x l is e = absurd (omega arith)
id-there k (y ∷ ys) x l is e = either (nat_lt y k) refl l is (λ l is. id-there k ys x l is e)
  where
    either : (b : Bool) → nat_lt y k ≡ b → (if b then suc (place_by (λ (id : ℕ). id) k ys) else 0) < suc (length ys) → x ≡ get_or (y ∷ ys) (if b then suc (place_by (λ (id : ℕ). id) k ys) else 0) x
        → (place_by (λ (id : ℕ). id) k ys < length ys → x ≡ get_or ys (place_by (λ (id : ℕ). id) k ys) x → ys ≡ with_id k ys) → y ∷ ys ≡ with_id k (y ∷ ys)
    either true b l is later =
        let other : (k == y) ≡ false = grind (arith, nat_tests) in
        let above : nat_lt k y ≡ false = grind (arith, nat_tests) in
        rw (other, above) (ap (λ zs. y ∷ zs) (later (omega arith) is))
    either false b l is later = let same : (k == y) ≡ true = grind (arith, nat_tests) in rw same refl

-- it doesn't
pub id-new : (k : ℕ) (xs : List ℕ) (d : ℕ) → (place_by (λ (id : ℕ). id) k xs < length xs → (get_or xs (place_by (λ (id : ℕ). id) k xs) d == k) ≡ false) → insert xs (place_by (λ (id : ℕ). id) k xs) k ≡ with_id k xs
id-new k [] d other = refl
id-new k (y ∷ ys) d other = either (nat_lt y k) refl other (λ other. id-new k ys d other)
  where
    either : (b : Bool) → nat_lt y k ≡ b → ((if b then suc (place_by (λ (id : ℕ). id) k ys) else 0) < suc (length ys) → (get_or (y ∷ ys) (if b then suc (place_by (λ (id : ℕ). id) k ys) else 0) d == k) ≡ false)
        → ((place_by (λ (id : ℕ). id) k ys < length ys → (get_or ys (place_by (λ (id : ℕ). id) k ys) d == k) ≡ false) → insert ys (place_by (λ (id : ℕ). id) k ys) k ≡ with_id k ys)
        → insert (y ∷ ys) (if b then suc (place_by (λ (id : ℕ). id) k ys) else 0) k ≡ with_id k (y ∷ ys)
    either true b other later =
        let differs : (k == y) ≡ false = grind (arith, nat_tests) in
        let above : nat_lt k y ≡ false = grind (arith, nat_tests) in
        rw (differs, above) (ap (λ zs. y ∷ zs) (later (λ l. other (omega arith))))
    either false b other later =
        let not_same : (y == k) ≡ false = other (omega arith) in
        let differs : (k == y) ≡ false = grind (arith, nat_tests) in
        let below : nat_lt k y ≡ true = grind (arith, nat_tests) in
        rw (differs, below) refl

-- ---- sessions that are gone

pub gone-more : (g : GoneNow) (xs : List GoneNow) → insert xs (place_by (λ (x : GoneNow). x.id) g.id xs) g ≡ with_gone g xs
gone-more g [] = refl
gone-more g (x ∷ xs) = either (nat_lt x.id g.id) (gone-more g xs)
  where
    either : (b : Bool) → insert xs (place_by (λ (x : GoneNow). x.id) g.id xs) g ≡ with_gone g xs
        → insert (x ∷ xs) (if b then suc (place_by (λ (x : GoneNow). x.id) g.id xs) else 0) g ≡ (if b then x ∷ with_gone g xs else g ∷ x ∷ xs)
    either true later = ap (λ zs. x ∷ zs) later
    either false later = refl

-- the session stands at its place
pub gone-there : (s : ℕ) (xs : List GoneNow) (d : GoneNow) → place_by (λ (x : GoneNow). x.id) s xs < length xs → ((get_or xs (place_by (λ (x : GoneNow). x.id) s xs) d).id == s) ≡ true
    → end_in xs s ≡ Some (get_or xs (place_by (λ (x : GoneNow). x.id) s xs) d).end
gone-there s [] d l same = absurd (omega arith)
gone-there s (x ∷ xs) d l same = either (nat_lt x.id s) refl l same (λ l same. gone-there s xs d l same)
  where
    either : (b : Bool) → nat_lt x.id s ≡ b → (if b then suc (place_by (λ (x : GoneNow). x.id) s xs) else 0) < suc (length xs)
        → ((get_or (x ∷ xs) (if b then suc (place_by (λ (x : GoneNow). x.id) s xs) else 0) d).id == s) ≡ true
        → (place_by (λ (x : GoneNow). x.id) s xs < length xs → ((get_or xs (place_by (λ (x : GoneNow). x.id) s xs) d).id == s) ≡ true → end_in xs s ≡ Some (get_or xs (place_by (λ (x : GoneNow). x.id) s xs) d).end)
        → end_in (x ∷ xs) s ≡ Some (get_or (x ∷ xs) (if b then suc (place_by (λ (x : GoneNow). x.id) s xs) else 0) d).end
    either true b l same later = let other : (x.id == s) ≡ false = grind (arith, nat_tests) in rw other (later (omega arith) same)
    either false b l same later = rw same refl

-- none of those behind is it
none-behind : (s : ℕ) (xs : List GoneNow) (n : ℕ) → s < n → AllFrom (λ (x : GoneNow). x.id) n xs → end_in xs s ≡ None
none-behind s [] n lt a = refl
none-behind s (x ∷ xs) n lt a = let here = a.0 in let other : (x.id == s) ≡ false = grind (arith, nat_tests) in rw other (none-behind s xs n lt a.1)

-- it doesn't
pub gone-nowhere : (s : ℕ) (xs : List GoneNow) (d : GoneNow) → IsOrdered (λ (x : GoneNow). x.id) xs
    → (place_by (λ (x : GoneNow). x.id) s xs < length xs → ((get_or xs (place_by (λ (x : GoneNow). x.id) s xs) d).id == s) ≡ false) → end_in xs s ≡ None
gone-nowhere s [] d o other = refl
gone-nowhere s (x ∷ xs) d o other = either (nat_lt x.id s) refl other (λ other. gone-nowhere s xs d o.1 other)
  where
    either : (b : Bool) → nat_lt x.id s ≡ b
        → ((if b then suc (place_by (λ (x : GoneNow). x.id) s xs) else 0) < suc (length xs) → ((get_or (x ∷ xs) (if b then suc (place_by (λ (x : GoneNow). x.id) s xs) else 0) d).id == s) ≡ false)
        → ((place_by (λ (x : GoneNow). x.id) s xs < length xs → ((get_or xs (place_by (λ (x : GoneNow). x.id) s xs) d).id == s) ≡ false) → end_in xs s ≡ None)
        → end_in (x ∷ xs) s ≡ None
    either true b other later = let differs : (x.id == s) ≡ false = grind (arith, nat_tests) in rw differs (later (λ l. other (omega arith)))
    either false b other later =
        let differs : (x.id == s) ≡ false = other (omega arith) in
        let above : s < x.id = grind (arith, nat_tests) in
        rw differs (none-behind s xs x.id above o.0)

-- it is among those that are gone where it has an end
pub gone-any : (s : ℕ) (xs : List GoneNow) → is_some (end_in xs s) ≡ is_gone_in xs s
gone-any s [] = refl
gone-any s (x ∷ xs) = either (x.id == s) (gone-any s xs)
  where
    either : (b : Bool) → is_some (end_in xs s) ≡ is_gone_in xs s → is_some (if b then Some x.end else end_in xs s) ≡ (b || is_gone_in xs s)
    either true later = refl
    either false later = later

pub some-copied : {A B : Type 0} (f : A → B) (o : Option (Bor A)) → is_some o ≡ is_some (option_map f (option_copied o))
some-copied f None = refl
some-copied f (Some b) = refl
