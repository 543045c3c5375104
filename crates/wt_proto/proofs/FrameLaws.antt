-- A frame at the front stays under more bytes, and is read from its own bytes alone; so does what it decides.
use Rattle.std.proofs.Common.{◌≡◌, ℕ, ◌+◌, ◌≤◌, Bool, true, false, List, [], ◌++◌, length, drop, Option, Some, None, cond, eqb, refl, ap, arith}
use Rattle.std.proofs.lemmas.List.{length-append, length-drop, drop-append-le, take-append-le}
use Rattle.std.proofs.lemmas.Grind.{common_steps}
use Rattle.wt_proto.specs.declared.walk.Step.{Step}
use Rattle.wt_proto.specs.declared.walk.Step.TheVariants.{Cut}
use Rattle.wt_wire.specs.Varint.{varint_at}
use Rattle.wt_wire.specs.Frames.{Frame, frame_at, frame_with_type, frame_with_length, frame_with_header, signal_with_id, session_id_ignored}
use Rattle.wt_proto.specs.FrameSteps.{step_of_item}
use Rattle.wt_proto.specs.Steady.{size_of_step, IsSteady}
use Rattle.wt_wire.proofs.VarintLaws.{varint_at-more, varint_at-within, varint_at-front}

-- what is read at the front, and its length
pub record IsReader {A : Type 0} (read : List ℕ → Option (A × ℕ)) : Type 0 where
  pub nothing : read [] ≡ None
  pub more : (xs ys : List ℕ) (p : A × ℕ) → read xs ≡ Some p → read (xs ++ ys) ≡ Some p
  pub front : (xs ys : List ℕ) (p : A × ℕ) → read (xs ++ ys) ≡ Some p → p.1 ≤ length xs → read xs ≡ Some p
  pub some : (xs : List ℕ) (p : A × ℕ) → read xs ≡ Some p → 1 ≤ p.1

header-more : (xs ys : List ℕ) (kind h n : ℕ) (p : Frame × ℕ) → frame_with_header xs kind h n ≡ Some p → h ≤ length xs → frame_with_header (xs ++ ys) kind h n ≡ Some p
header-more xs ys kind h n p e le =
    rw drop-append-le (grind (arith, common_steps, length-append {A = ℕ}, length-drop {A = ℕ}, take-append-le {A = ℕ}))

header-size : (xs : List ℕ) (kind h n : ℕ) (p : Frame × ℕ) → frame_with_header xs kind h n ≡ Some p → h ≤ p.1
header-size xs kind h n p e = grind (arith, common_steps)

header-front : (xs ys : List ℕ) (kind h n : ℕ) (p : Frame × ℕ) → frame_with_header (xs ++ ys) kind h n ≡ Some p → p.1 ≤ length xs → h ≤ length xs → frame_with_header xs kind h n ≡ Some p
header-front xs ys kind h n p e lt le =
    let moved : frame_with_header (xs ++ ys) kind h n ≡ Some p → frame_with_header xs kind h n ≡ Some p =
    rw (drop-append-le h xs ys le) (λ f. grind (arith, common_steps, length-append {A = ℕ}, length-drop {A = ℕ}, take-append-le {A = ℕ})) in
    moved e

-- the signal or a frame with a length, where one of the two is replaced
pub chosen_again : {A : Type 0} (b : Bool) (x y z w p : A) → cond b x y ≡ p → (x ≡ p → z ≡ p) → (y ≡ p → w ≡ p) → cond b z w ≡ p
chosen_again true x y z w p e f g = f e
chosen_again false x y z w p e f g = g e

-- what follows from both
pub chosen_by : {A R : Type 0} (b : Bool) (x y p : A) → cond b x y ≡ p → (x ≡ p → R) → (y ≡ p → R) → R
chosen_by true x y p e f g = f e
chosen_by false x y p e f g = g e

length-more : (xs ys : List ℕ) (kind offset : ℕ) (l : Option (ℕ × ℕ)) (p : Frame × ℕ) → varint_at (drop offset xs) ≡ l → frame_with_length xs kind offset l ≡ Some p → offset ≤ length xs →
    frame_with_length (xs ++ ys) kind offset (varint_at (drop offset xs ++ ys)) ≡ Some p
length-more xs ys kind offset None p l e le = absurd cc
length-more xs ys kind offset (Some m) p l e le =
    rw (varint_at-more (drop offset xs) ys m l)
    (header-more xs ys kind (offset + m.1) m.0 p e (omega (arith, varint_at-within (drop offset xs) m l, length-drop offset xs)))

length-front : (xs ys : List ℕ) (kind offset : ℕ) (l : Option (ℕ × ℕ)) (p : Frame × ℕ) → varint_at (drop offset xs ++ ys) ≡ l → frame_with_length (xs ++ ys) kind offset l ≡ Some p → offset ≤ length xs →
    p.1 ≤ length xs → frame_with_length xs kind offset (varint_at (drop offset xs)) ≡ Some p
length-front xs ys kind offset None p l e le lt = absurd cc
length-front xs ys kind offset (Some m) p l e le lt =
    let size : offset + m.1 ≤ p.1 = header-size (xs ++ ys) kind (offset + m.1) m.0 p e in
    let within : m.1 ≤ length (drop offset xs) = omega (arith, length-drop offset xs) in
    rw (varint_at-front (drop offset xs) ys m l within) (header-front xs ys kind (offset + m.1) m.0 p e lt (omega (arith, length-drop offset xs)))

length-size : (xs : List ℕ) (kind offset : ℕ) (l : Option (ℕ × ℕ)) (p : Frame × ℕ) → frame_with_length xs kind offset l ≡ Some p → offset ≤ p.1
length-size xs kind offset None p e = absurd cc
length-size xs kind offset (Some m) p e = omega (arith, header-size xs kind (offset + m.1) m.0 p e)

id-size : (offset : ℕ) (i : Option (ℕ × ℕ)) (p : Frame × ℕ) → signal_with_id offset i ≡ Some p → offset ≤ p.1
id-size offset None p e = absurd cc
id-size offset (Some i) p e = grind arith

-- what an id after a signal has to be like
pub record ReadsOn (id_at : List ℕ → Option (ℕ × ℕ)) : Type 0 where
  pub more : (xs ys : List ℕ) (p : ℕ × ℕ) → id_at xs ≡ Some p → id_at (xs ++ ys) ≡ Some p
  pub front : (xs ys : List ℕ) (p : ℕ × ℕ) → id_at (xs ++ ys) ≡ Some p → p.1 ≤ length xs → id_at xs ≡ Some p

pub session_id_ignored-on : ReadsOn session_id_ignored
session_id_ignored-on = record { more = λ xs ys p e. e; front = λ xs ys p e le. e }

pub varint-on : ReadsOn varint_at
varint-on = record { more = varint_at-more; front = varint_at-front }

module _ (id_at : List ℕ → Option (ℕ × ℕ)) (on : ReadsOn id_at) where
  id-more : (xs ys : List ℕ) (offset : ℕ) (i : Option (ℕ × ℕ)) (p : Frame × ℕ) → id_at xs ≡ i → signal_with_id offset i ≡ Some p → signal_with_id offset (id_at (xs ++ ys)) ≡ Some p
  id-more xs ys offset None p i e = absurd cc
  id-more xs ys offset (Some m) p i e = rw (on.more xs ys m i) e

  id-front : (xs ys : List ℕ) (offset : ℕ) (i : Option (ℕ × ℕ)) (p : Frame × ℕ) → id_at (xs ++ ys) ≡ i → signal_with_id offset i ≡ Some p → p.1 ≤ offset + length xs → signal_with_id offset (id_at xs) ≡ Some p
  id-front xs ys offset None p i e le = absurd cc
  id-front xs ys offset (Some m) p i e le =
      let within : m.1 ≤ length xs = grind arith in
      rw (on.front xs ys m i within) e

  type-more : (xs ys : List ℕ) (t : Option (ℕ × ℕ)) (p : Frame × ℕ) → varint_at xs ≡ t → frame_with_type id_at xs t ≡ Some p → frame_with_type id_at (xs ++ ys) (varint_at (xs ++ ys)) ≡ Some p
  type-more xs ys None p is e = absurd cc
  type-more xs ys (Some t) p is e =
      let le : t.1 ≤ length xs = (varint_at-within xs t is).2 in
      rw (varint_at-more xs ys t is, drop-append-le t.1 xs ys le)
      (chosen_again (eqb t.0 65) (signal_with_id t.1 (id_at (drop t.1 xs))) (frame_with_length xs t.0 t.1 (varint_at (drop t.1 xs)))
      (signal_with_id t.1 (id_at (drop t.1 xs ++ ys))) (frame_with_length (xs ++ ys) t.0 t.1 (varint_at (drop t.1 xs ++ ys))) (Some p) e
      (λ f. id-more (drop t.1 xs) ys t.1 (id_at (drop t.1 xs)) p refl f)
      (λ f. length-more xs ys t.0 t.1 (varint_at (drop t.1 xs)) p refl f le))

  type-size : (xs : List ℕ) (t : ℕ × ℕ) (p : Frame × ℕ) → frame_with_type id_at xs (Some t) ≡ Some p → t.1 ≤ p.1
  type-size xs t p e = grind (arith, common_steps, length-size, id-size)

  type-front : (xs ys : List ℕ) (t : Option (ℕ × ℕ)) (p : Frame × ℕ) → varint_at (xs ++ ys) ≡ t → frame_with_type id_at (xs ++ ys) t ≡ Some p → p.1 ≤ length xs →
      frame_with_type id_at xs (varint_at xs) ≡ Some p
  type-front xs ys None p is e lt = absurd cc
  type-front xs ys (Some t) p is e lt =
      let le : t.1 ≤ length xs = omega (arith, type-size (xs ++ ys) t p e) in
      let moved : frame_with_type id_at (xs ++ ys) (Some t) ≡ Some p → frame_with_type id_at xs (Some t) ≡ Some p =
      rw (drop-append-le t.1 xs ys le) (λ f.
      chosen_again (eqb t.0 65) (signal_with_id t.1 (id_at (drop t.1 xs ++ ys))) (frame_with_length (xs ++ ys) t.0 t.1 (varint_at (drop t.1 xs ++ ys)))
      (signal_with_id t.1 (id_at (drop t.1 xs))) (frame_with_length xs t.0 t.1 (varint_at (drop t.1 xs))) (Some p) f
      (λ g. id-front (drop t.1 xs) ys t.1 (id_at (drop t.1 xs ++ ys)) p refl g (omega (arith, length-drop t.1 xs)))
      (λ g. length-front xs ys t.0 t.1 (varint_at (drop t.1 xs ++ ys)) p refl g le lt)) in
      rw (varint_at-front xs ys t is le) (moved e)

  frame-some : (xs : List ℕ) (t : Option (ℕ × ℕ)) (p : Frame × ℕ) → varint_at xs ≡ t → frame_with_type id_at xs t ≡ Some p → 1 ≤ p.1
  frame-some xs None p is e = absurd cc
  frame-some xs (Some t) p is e = omega (arith, type-size xs t p e, varint_at-within xs t is)

  pub frame-reader : IsReader (frame_at id_at)
  unfolding frame_at varint_at
  frame-reader = record {
    nothing = refl;
    more = λ xs ys p e. type-more xs ys (varint_at xs) p refl e;
    front = λ xs ys p e le. type-front xs ys (varint_at (xs ++ ys)) p refl e le;
    some = λ xs p e. frame-some xs (varint_at xs) p refl e;
  }

-- what an item does takes that item's bytes
pub record IsEffect {A S O : Type 0} (effect : S → ℕ → A → Step S O) : Type 0 where
  pub size_is : (s : S) (n : ℕ) (item : A) → size_of_step (effect s n item) ≡ Some n

module _ {A S O : Type 0} (read : List ℕ → Option (A × ℕ)) (reader : IsReader read) (effect : S → ℕ → A → Step S O) (whole : IsEffect effect) where
  same-more : (s : S) (xs ys : List ℕ) (n : ℕ) (f : Option (A × ℕ)) → read xs ≡ f → size_of_step (step_of_item (effect s) f) ≡ Some n →
      step_of_item (effect s) (read (xs ++ ys)) ≡ step_of_item (effect s) f
  same-more s xs ys n None is e = absurd cc
  same-more s xs ys n (Some f) is e = rw (reader.more xs ys f is) refl

  same-front : (s : S) (xs ys : List ℕ) (n : ℕ) (f : Option (A × ℕ)) → read (xs ++ ys) ≡ f → size_of_step (step_of_item (effect s) f) ≡ Some n → n ≤ length xs →
      step_of_item (effect s) (read xs) ≡ step_of_item (effect s) f
  same-front s xs ys n None is e le = absurd cc
  same-front s xs ys n (Some f) is e le =
      let size : f.1 ≡ n = grind (arith, whole.size_is s f.1 f.0) in
      let within : f.1 ≤ length xs = omega arith in
      rw (reader.front xs ys f is within) refl

  some-taken : (s : S) (xs : List ℕ) (n : ℕ) (f : Option (A × ℕ)) → read xs ≡ f → size_of_step (step_of_item (effect s) f) ≡ Some n → 1 ≤ n
  some-taken s xs n None is e = absurd cc
  some-taken s xs n (Some f) is e =
      let size : f.1 ≡ n = grind (arith, whole.size_is s f.1 f.0) in
      omega (arith, reader.some xs f is)

  nothing-decided : (s : S) → step_of_item (effect s) (read []) ≡ Cut
  nothing-decided s = rw reader.nothing refl

-- a walk over what is read is steady
pub items-steady : {A S O : Type 0} (read : List ℕ → Option (A × ℕ)) → IsReader read → (effect : S → ℕ → A → Step S O) → IsEffect effect → IsSteady (λ s xs. step_of_item (effect s) (read xs))
items-steady read reader effect whole = record {
  nothing = nothing-decided read reader effect whole;
  more = λ s xs ys n e. same-more read reader effect whole s xs ys n (read xs) refl e;
  front = λ s xs ys n e le. same-front read reader effect whole s xs ys n (read (xs ++ ys)) refl e le;
  some = λ s xs n e. some-taken read reader effect whole s xs n (read xs) refl e;
}

pub frames-steady : {S O : Type 0} (id_at : List ℕ → Option (ℕ × ℕ)) → ReadsOn id_at → (effect : S → ℕ → Frame → Step S O) → IsEffect effect →
    IsSteady (λ s xs. step_of_item (effect s) (frame_at id_at xs))
frames-steady id_at on effect whole = items-steady (frame_at id_at) (frame-reader id_at on) effect whole

-- where nothing is read nothing is decided, and the other way round
pub decided-cut : {A S O : Type 0} (effect : S → ℕ → A → Step S O) → IsEffect effect → (s : S) (item : Option (A × ℕ)) → step_of_item (effect s) item ≡ Cut → item ≡ None
decided-cut effect whole s None e = refl
decided-cut effect whole s (Some item) e = let some : size_of_step (step_of_item (effect s) (Some item)) ≡ Some item.1 = whole.size_is s item.1 item.0 in absurd (let none = ap (λ d. size_of_step d) e in cc)
