-- The calls of a history, compared one by one with the entries of its handles.
use Rattle.std.proofs.Common.{◌≡◌, ◌+◌, ◌-◌, ◌<◌, ◌≤◌, ◌∷◌, ◌++◌, List, [], add-one, ap, append-nil, append_assoc, arith, drop, drop-cons, false, get_or, inl, inr, length, length-append, refl, suc, sym, take, true, ◌∙◌, ℕ}
use Rattle.std.proofs.lemmas.List.{drop_all, length-take-le, take_all, take_more}
use Rattle.std.proofs.lemmas.Bool.{cases_eq}
use Rattle.std.proofs.lemmas.Option.{slice_get_read, slice_get_within}
use Rattle.std.specs.Prelude.{None, Option, Some, ◌⊎◌, slice_get}
use Rattle.wt_turn.specs.Turns.{is_call}
use Rattle.wt_turn.specs.declared.answer.Answer.{Answer}
use Rattle.wt_turn.specs.declared.turn.Turn.{Turn}
use Rattle.wt_shared.specs.Closing.{Ascends, CallDiffers, calls_from, calls_in}
use Rattle.wt_shared.specs.History.{Pairs}
use Rattle.wt_shared.specs.Stored.{told_at}
use Rattle.wt_shared.specs.declared.told.Told.{Told}

-- ---- the calls from a place on

pub calls-none : (place : ℕ) (rest later : Pairs) (x : Turn × Answer) → rest ≡ x ∷ later → is_call x.0 ≡ false → calls_from place rest ≡ calls_from (place + 1) later
calls-none place rest later x e n = ap (calls_from place) e ∙ rw n refl

pub calls-one : (place : ℕ) (rest later : Pairs) (x : Turn × Answer) → rest ≡ x ∷ later → is_call x.0 ≡ true → calls_from place rest ≡ told_at place x.0 x.1 ∷ calls_from (place + 1) later
calls-one place rest later x e n = ap (calls_from place) e ∙ rw n refl

-- ---- the entries up to a position are the calls so far

-- the entries up to this position, followed by the calls from this place on, are all calls
pub record Matches (history : Pairs) (entries : List Told) (place position : ℕ) : Type 0 where
  pub within : position ≤ length entries
  pub same : take position entries ++ calls_from place (drop place history) ≡ calls_in history

pub matches-start : (history : Pairs) (entries : List Told) → Matches history entries 1 0
matches-start history entries = record { within = omega arith; same = refl }

-- a turn that is no call
pub matches-none : (history : Pairs) (entries : List Told) (place position : ℕ) (x : Turn × Answer) → drop place history ≡ x ∷ drop (place + 1) history → is_call x.0 ≡ false
    → Matches history entries place position → Matches history entries (place + 1) position
matches-none history entries place position x e n m = record {
  within = m.within;
  same = ap (λ (xs : List Told). take position entries ++ xs) (sym (calls-none place (drop place history) (drop (place + 1) history) x e n)) ∙ m.same;
}

-- what stands before a call's position, and the calls from it on
split-there : (history : Pairs) (entries : List Told) (place position : ℕ) (x : Turn × Answer) → drop place history ≡ x ∷ drop (place + 1) history → is_call x.0 ≡ true
    → Matches history entries place position → take position entries ++ told_at place x.0 x.1 ∷ calls_from (place + 1) (drop (place + 1) history) ≡ calls_in history
split-there history entries place position x e c m =
    ap (λ (xs : List Told). take position entries ++ xs) (sym (calls-one place (drop place history) (drop (place + 1) history) x e c)) ∙ m.same

-- a call has an entry to be compared with
pub entry-there : (history : Pairs) (entries : List Told) (place position : ℕ) (x : Turn × Answer) → length entries ≡ length (calls_in history)
    → drop place history ≡ x ∷ drop (place + 1) history → is_call x.0 ≡ true → Matches history entries place position → position < length entries
entry-there history entries place position x n e c m =
    let later = calls_from (place + 1) (drop (place + 1) history) in
    let l : length (take position entries ++ told_at place x.0 x.1 ∷ later) ≡ length (calls_in history) = ap length (split-there history entries place position x e c m) in
    omega (arith, length-append (take position entries) (told_at place x.0 x.1 ∷ later), length-take-le position entries m.within, l, n)

-- what follows a list stands at the position that its length is
pub get-after : {X : Type 0} (xs : List X) (t : X) (later : List X) → slice_get (xs ++ t ∷ later) (length xs) ≡ Some t
get-after [] t later = refl
get-after (x ∷ xs) t later = get-after xs t later

-- the call that stands at that position
pub call-there : (history : Pairs) (entries : List Told) (place position : ℕ) (x : Turn × Answer) → drop place history ≡ x ∷ drop (place + 1) history → is_call x.0 ≡ true
    → Matches history entries place position → slice_get (calls_in history) position ≡ Some (told_at place x.0 x.1)
call-there history entries place position x e c m =
    let t = told_at place x.0 x.1 in
    let later = calls_from (place + 1) (drop (place + 1) history) in
    ap (λ (xs : List Told). slice_get xs position) (sym (split-there history entries place position x e c m))
    ∙ ap (slice_get (take position entries ++ t ∷ later)) (sym (length-take-le position entries m.within))
    ∙ get-after (take position entries) t later

-- a call that is its entry
pub matches-one : (history : Pairs) (entries : List Told) (place position : ℕ) (x : Turn × Answer) (entry : Told) → drop place history ≡ x ∷ drop (place + 1) history → is_call x.0 ≡ true
    → position < length entries → entry ≡ get_or entries position entry → told_at place x.0 x.1 ≡ entry
    → Matches history entries place position → Matches history entries (place + 1) (position + 1)
matches-one history entries place position x entry e c l is same m =
    let later = calls_from (place + 1) (drop (place + 1) history) in
    record {
      within = omega (arith, l);
      same = ap (λ (xs : List Told). xs ++ later) (take_more entries position entry l ∙ ap (λ (t : Told). take position entries ++ t ∷ []) (sym is ∙ sym same))
          ∙ append_assoc (take position entries) (told_at place x.0 x.1 ∷ []) later
          ∙ split-there history entries place position x e c m;
    }

-- at the end all entries were compared
pub matches-end : (history : Pairs) (entries : List Told) (place position : ℕ) → length entries ≡ length (calls_in history) → length history ≤ place
    → Matches history entries place position → entries ≡ calls_in history
matches-end history entries place position n l m =
    let all : take position entries ≡ calls_in history =
    sym (append-nil (take position entries)) ∙ ap (λ (p : Pairs). take position entries ++ calls_from place p) (sym (drop_all place history l)) ∙ m.same in
    let whole : length (take position entries) ≡ length (calls_in history) = ap length all in
    sym (take_all position entries (omega (arith, whole, n, length-take-le position entries m.within))) ∙ all

-- ---- how many calls

-- `count` calls were counted before this place
pub record Counts (history : Pairs) (place count : ℕ) : Type 0 where
  pub few : count < place
  pub same : count + length (calls_from place (drop place history)) ≡ length (calls_in history)

pub counts-start : (history : Pairs) → Counts history 1 0
counts-start history = let same : length (calls_from 1 (drop 1 history)) ≡ length (calls_in history) = refl in record { few = omega arith; same = omega (arith, same) }

pub counts-none : (history : Pairs) (place count : ℕ) (x : Turn × Answer) → drop place history ≡ x ∷ drop (place + 1) history → is_call x.0 ≡ false → Counts history place count → Counts history (place + 1) count
counts-none history place count x e n m = record {
  few = omega (arith, m.few);
  same = ap (λ (xs : List Told). count + length xs) (sym (calls-none place (drop place history) (drop (place + 1) history) x e n)) ∙ m.same;
}

pub counts-one : (history : Pairs) (place count : ℕ) (x : Turn × Answer) → drop place history ≡ x ∷ drop (place + 1) history → is_call x.0 ≡ true → Counts history place count → Counts history (place + 1) (count + 1)
counts-one history place count x e n m =
    let one : length (calls_from place (drop place history)) ≡ suc (length (calls_from (place + 1) (drop (place + 1) history))) = ap length (calls-one place (drop place history) (drop (place + 1) history) x e n) in
    let same : count + length (calls_from place (drop place history)) ≡ length (calls_in history) = m.same in
    record { few = omega (arith, m.few); same = omega (arith, one, same) }

pub counts-end : (history : Pairs) (place count : ℕ) → length history ≤ place → Counts history place count → count ≡ length (calls_in history)
counts-end history place count l m =
    let none : length (calls_from place (drop place history)) ≡ 0 = ap (λ (p : Pairs). length (calls_from place p)) (drop_all place history l) in
    let same : count + length (calls_from place (drop place history)) ≡ length (calls_in history) = m.same in
    omega (arith, none, same)

-- ---- places that ascend

-- up to this index each entry's place is above that of the one before it
pub record AscendsTo (n : ℕ) (entries : List Told) : Type 0 where
  pub from : 1 ≤ n
  pub rises : (k : ℕ) (a b : Told) → k + 1 < n → slice_get entries k ≡ Some a → slice_get entries (k + 1) ≡ Some b → a.place < b.place

pub ascends-start : (entries : List Told) → AscendsTo 1 entries
ascends-start entries = record { from = omega arith; rises = λ k a b l x y. absurd (omega (arith, l)) }

pub ascends-end : (n : ℕ) (entries : List Told) → length entries ≤ n → AscendsTo n entries → Ascends entries
ascends-end n entries l r k a b x y = r.rises k a b (omega (arith, l, slice_get_within entries (k + 1) b y)) x y

some-told : (a b : Told) → Some a ≡ Some b → a ≡ b
some-told a b e = ap (λ (o : Option Told). elim o [ Some x ↦ x | None ↦ a ]) e

last-or : (n : ℕ) (entries : List Told) (first second : Told) → slice_get entries (n - 1) ≡ Some first → slice_get entries n ≡ Some second → first.place < second.place
    → AscendsTo n entries → (k : ℕ) (a b : Told) → k + 1 < n + 1 → slice_get entries k ≡ Some a → slice_get entries (k + 1) ≡ Some b → (k + 1 ≡ n) ⊎ (k + 1 ≡ n → ⊥) → a.place < b.place
last-or n entries first second f s l r k a b w x y (inl e) =
    let k_is : k ≡ n - 1 = omega (arith, e) in
    let a_is : a ≡ first = some-told a first (sym x ∙ ap (slice_get entries) k_is ∙ f) in
    let b_is : b ≡ second = some-told b second (sym y ∙ ap (slice_get entries) e ∙ s) in
    rw (a_is, b_is) l
last-or n entries first second f s l r k a b w x y (inr d) = r.rises k a b (omega (arith, w, d)) x y

pub ascends-more : (n : ℕ) (entries : List Told) (first second : Told) → slice_get entries (n - 1) ≡ Some first → slice_get entries n ≡ Some second → first.place < second.place
    → AscendsTo n entries → AscendsTo (n + 1) entries
ascends-more n entries first second f s l r = record {
  from = omega (arith, r.from);
  rises = λ k a b w x y. last-or n entries first second f s l r k a b w x y (cases_eq (k + 1) n);
}

-- ---- the first difference

pub rest-at : (h : Pairs) (place : ℕ) (x : Turn × Answer) → place < length h → x ≡ get_or h place x → drop place h ≡ x ∷ drop (place + 1) h
rest-at h place x l e = drop-cons h place x l ∙ ap (λ (y : Turn × Answer). y ∷ drop (suc place) h) (sym e) ∙ ap (λ n. x ∷ drop n h) (sym (add-one place))

pub differs-there : (history : Pairs) (entries : List Told) (place position : ℕ) (x : Turn × Answer) (entry : Told) (kept told : Answer) → place < length history → x ≡ get_or history place x
    → is_call x.0 ≡ true → position < length entries → entry ≡ get_or entries position entry → Matches history entries place position → kept ≡ x.1 → told ≡ entry.answer
    → (told_at place x.0 x.1 ≡ entry → ⊥) → CallDiffers history entries place kept told
differs-there history entries place position x entry kept told l x_is c w entry_is m kept_is told_is d = record {
  position = position;
  call = told_at place x.0 x.1;
  entry = entry;
  call_is = call-there history entries place position x (rest-at history place x l x_is) c m;
  entry_is = slice_get_read entries (length entries) position entry refl w entry_is;
  place_is = refl;
  kept_is = kept_is;
  told_is = told_is;
  differ = d;
}
