-- With fewer bytes than are wanted nothing is read at the front; as long as nothing is, more are wanted than are there.
use Rattle.std.proofs.Common.{◌≡◌, ℕ, ◌+◌, ◌<◌, ◌≤◌, Bool, true, false, cond, not, if◌then◌else◌, List, [], ◌∷◌, ◌++◌, length, drop, Option, Some, None, ◌==◌, ◌&&◌, nat_le, nat_lt, refl, ap, arith}
use Rattle.std.proofs.lemmas.Bool.Decides.{nat_tests}
use Rattle.std.proofs.lemmas.Grind.{common_steps}
use Rattle.std.proofs.lemmas.List.{length-append, length-drop, drop-append-le}
use Rattle.wt_proto.specs.declared.walk.Step.{Step}
use Rattle.wt_wire.specs.Varint.{varint_at}
use Rattle.wt_wire.specs.Frames.{Frame, frame_at, is_known_type, session_id_ignored, signal_with_id, frame_with_length, frame_with_type}
use Rattle.wt_proto.specs.FrameSteps.{step_of_item}
use Rattle.wt_proto.specs.Steady.{IsAwaited}
use Rattle.wt_proto.specs.Wanted.{frame_wants, id_wants, length_wants, payload_wants, type_wants, varint_wants}
use Rattle.wt_wire.proofs.VarintLaws.{varint_at-more, varint_at-within}
use Rattle.wt_proto.proofs.FrameLaws.{IsEffect, decided-cut}

pub varint-few : (xs : List ℕ) → (1 ≤ varint_wants xs) × (varint_wants xs ≤ 8)
varint-few [] = (omega arith, omega arith)
varint-few (b ∷ xs) = (grind (arith, common_steps), grind (arith, common_steps))

pub varint-still : (xs ys : List ℕ) → length (xs ++ ys) < varint_wants xs → varint_at (xs ++ ys) ≡ None
unfolding varint_at
varint-still [] [] lt = refl
varint-still [] (y ∷ ys) lt = absurd (omega arith)
varint-still (b ∷ xs) ys lt = grind (arith, common_steps)

pub varint-onward : (xs : List ℕ) → varint_at xs ≡ None → length xs < varint_wants xs
unfolding varint_at
varint-onward [] e = omega arith
varint-onward (b ∷ xs) e = grind (arith, common_steps)

-- what is wanted of an item that is read, and how few bytes that are
pub record AwaitsItem {A : Type 0} (read : List ℕ → Option (A × ℕ)) (wants : List ℕ → ℕ) : Type 0 where
  pub still : (xs ys : List ℕ) → length (xs ++ ys) < wants xs → read (xs ++ ys) ≡ None
  pub onward : (xs : List ℕ) → read xs ≡ None → length xs < wants xs
  pub few : (xs : List ℕ) → wants xs ≤ 4112

pub item-awaited : {A S O : Type 0} (read : List ℕ → Option (A × ℕ)) (wants : List ℕ → ℕ) → AwaitsItem read wants → (effect : S → ℕ → A → Step S O) → IsEffect effect → IsAwaited (λ s xs. step_of_item (effect s) (read xs)) wants
item-awaited read wants awaits effect whole = record {
  still = λ s xs ys lt. rw (awaits.still xs ys lt) refl;
  onward = λ s xs e. awaits.onward xs (decided-cut effect whole s (read xs) e);
  few = awaits.few;
}

-- frames

given-still : (g : Bool) (bytes header size : ℕ) (x y z : Option (Frame × ℕ)) → header ≤ bytes → bytes < (if g && nat_le size 4096 then header + size else header) →
    (if g then (if nat_lt 4096 size then x else (if nat_lt bytes (header + size) then None else y)) else z) ≡ None
given-still false bytes header size x y z le lt = absurd (omega arith)
given-still true bytes header size x y z le lt = fits-still (nat_le size 4096) (nat_lt 4096 size) bytes header size x y (nat_le-nat_lt size 4096) le lt
  where
    nat_le-nat_lt : (a b : ℕ) → nat_lt b a ≡ not (nat_le a b)
    nat_le-nat_lt a b = grind (arith, nat_tests)

    fits-still : (fits long : Bool) (bytes header size : ℕ) (x y : Option (Frame × ℕ)) → long ≡ not fits → header ≤ bytes → bytes < cond fits (header + size) header → cond long x (cond (nat_lt bytes (header + size)) None y) ≡ None
    fits-still false long bytes header size x y e le lt = absurd (omega arith)
    fits-still true true bytes header size x y e le lt = absurd cc
    fits-still true false bytes header size x y e le lt = let is : nat_lt bytes (header + size) ≡ true = grind (arith, nat_tests) in rw is refl

given-onward : (g : Bool) (bytes header size : ℕ) (x y z : Frame × ℕ) → (if g then (if nat_lt 4096 size then Some x else (if nat_lt bytes (header + size) then None else Some y)) else Some z) ≡ None →
    bytes < (if g && nat_le size 4096 then header + size else header)
given-onward false bytes header size x y z e = absurd cc
given-onward true bytes header size x y z e = fits-onward (nat_le size 4096) (nat_lt 4096 size) (nat_lt bytes (header + size)) (long-not size 4096) e (λ is. less-than bytes (header + size) is)
  where
    long-not : (a b : ℕ) → nat_lt b a ≡ not (nat_le a b)
    long-not a b = grind (arith, nat_tests)

    less-than : (a b : ℕ) → nat_lt a b ≡ true → a < b
    less-than a b e = grind (arith, nat_tests)

    fits-onward : (fits long less : Bool) → long ≡ not fits → cond long (Some x) (cond less None (Some y)) ≡ None → (less ≡ true → bytes < header + size) → bytes < cond fits (header + size) header
    fits-onward true true less e f g = absurd cc
    fits-onward true false true e f g = g refl
    fits-onward true false false e f g = absurd cc
    fits-onward false true less e f g = absurd cc
    fits-onward false false less e f g = absurd cc

header-few : (kind header size : ℕ) → payload_wants kind header size ≤ header + 4096
header-few kind header size = few (is_known_type kind) header size
  where
    few : (g : Bool) (header size : ℕ) → (if g && nat_le size 4096 then header + size else header) ≤ header + 4096
    few false header size = omega arith
    few true header size = grind (arith, nat_tests)

-- what is chosen by a test
pub chosen-still : {A : Type 0} (b : Bool) (x y : Option A) (u v n : ℕ) → n < cond b u v → (n < u → x ≡ None) → (n < v → y ≡ None) → cond b x y ≡ None
chosen-still true x y u v n lt f g = f lt
chosen-still false x y u v n lt f g = g lt

pub chosen-onward : {A : Type 0} (b : Bool) (x y : Option A) (u v n : ℕ) → cond b x y ≡ None → (x ≡ None → n < u) → (y ≡ None → n < v) → n < cond b u v
chosen-onward true x y u v n e f g = f e
chosen-onward false x y u v n e f g = g e

chosen-few : (b : Bool) (u v n : ℕ) → u ≤ n → v ≤ n → cond b u v ≤ n
chosen-few true u v n f g = f
chosen-few false u v n f g = g

-- the integer after a place
pub after-still : (bytes ys : List ℕ) (offset : ℕ) → offset ≤ length bytes → length (bytes ++ ys) < offset + varint_wants (drop offset bytes) → varint_at (drop offset (bytes ++ ys)) ≡ None
after-still bytes ys offset le lt =
    rw (drop-append-le offset bytes ys le) (varint-still (drop offset bytes) ys (omega (arith, length-append bytes ys, length-append (drop offset bytes) ys, length-drop offset bytes)))

pub after-onward : (bytes : List ℕ) (offset : ℕ) → offset ≤ length bytes → varint_at (drop offset bytes) ≡ None → length bytes < offset + varint_wants (drop offset bytes)
after-onward bytes offset le e = omega (arith, varint-onward (drop offset bytes) e, length-drop offset bytes)

after-more : (bytes ys : List ℕ) (offset : ℕ) (p : ℕ × ℕ) → offset ≤ length bytes → varint_at (drop offset bytes) ≡ Some p → varint_at (drop offset (bytes ++ ys)) ≡ Some p
after-more bytes ys offset p le e = rw (drop-append-le offset bytes ys le) (varint_at-more (drop offset bytes) ys p e)

length-still : (bytes ys : List ℕ) (kind offset : ℕ) (l : Option (ℕ × ℕ)) → offset ≤ length bytes → varint_at (drop offset bytes) ≡ l → length (bytes ++ ys) < length_wants bytes kind offset l →
    frame_with_length (bytes ++ ys) kind offset (varint_at (drop offset (bytes ++ ys))) ≡ None
length-still bytes ys kind offset None le e lt = rw (after-still bytes ys offset le lt) refl
length-still bytes ys kind offset (Some l) le e lt =
    rw (after-more bytes ys offset l le e)
    (given-still (is_known_type kind) (length (bytes ++ ys)) (offset + l.1) l.0 _ _ _ (omega (arith, varint_at-within (drop offset bytes) l e, length-drop offset bytes, length-append bytes ys)) lt)

length-onward : (bytes : List ℕ) (kind offset : ℕ) (l : Option (ℕ × ℕ)) → offset ≤ length bytes → varint_at (drop offset bytes) ≡ l → frame_with_length bytes kind offset l ≡ None → length bytes < length_wants bytes kind offset l
length-onward bytes kind offset None le e f = after-onward bytes offset le e
length-onward bytes kind offset (Some l) le e f = given-onward (is_known_type kind) (length bytes) (offset + l.1) l.0 _ _ _ f

length-few : (bytes : List ℕ) (kind offset : ℕ) (l : Option (ℕ × ℕ)) → offset ≤ 8 → varint_at (drop offset bytes) ≡ l → length_wants bytes kind offset l ≤ 4112
length-few bytes kind offset None le e = omega (arith, varint-few (drop offset bytes))
length-few bytes kind offset (Some l) le e = omega (arith, header-few kind (offset + l.1) l.0, varint_at-within (drop offset bytes) l e)

-- an id that is read after a signal, or isn't
record AwaitsId (reads_id : Bool) (id_at : List ℕ → Option (ℕ × ℕ)) : Type 0 where
  pub still : (bytes ys : List ℕ) (offset : ℕ) → offset ≤ length bytes → length (bytes ++ ys) < id_wants reads_id bytes offset → id_at (drop offset (bytes ++ ys)) ≡ None
  pub onward : (bytes : List ℕ) (offset : ℕ) → offset ≤ length bytes → id_at (drop offset bytes) ≡ None → length bytes < id_wants reads_id bytes offset
  pub few : (bytes : List ℕ) (offset : ℕ) → id_wants reads_id bytes offset ≤ offset + 8

unread-id : AwaitsId false session_id_ignored
unread-id = record {
  still = λ bytes ys offset le lt. absurd (omega (arith, length-append bytes ys));
  onward = λ bytes offset le e. absurd cc;
  few = λ bytes offset. omega arith;
}

varint-id : AwaitsId true varint_at
varint-id = record { still = after-still; onward = after-onward; few = λ bytes offset. omega (arith, varint-few (drop offset bytes)) }

module _ (reads_id : Bool) (id_at : List ℕ → Option (ℕ × ℕ)) (awaits : AwaitsId reads_id id_at) where
  type-still : (xs ys : List ℕ) (t : Option (ℕ × ℕ)) → varint_at xs ≡ t → length (xs ++ ys) < type_wants reads_id xs t → frame_with_type id_at (xs ++ ys) (varint_at (xs ++ ys)) ≡ None
  type-still xs ys None e lt = rw (varint-still xs ys lt) refl
  type-still xs ys (Some t) e lt =
      let within : t.1 ≤ length xs = (varint_at-within xs t e).2 in
      rw (varint_at-more xs ys t e)
      (chosen-still (t.0 == 0x41) (signal_with_id t.1 (id_at (drop t.1 (xs ++ ys)))) (frame_with_length (xs ++ ys) t.0 t.1 (varint_at (drop t.1 (xs ++ ys)))) _ _ _ lt
      (λ less. ap (λ (i : Option (ℕ × ℕ)). signal_with_id t.1 i) (awaits.still xs ys t.1 within less))
      (λ less. length-still xs ys t.0 t.1 (varint_at (drop t.1 xs)) within refl less))

  id-onward : (offset n u : ℕ) (i : Option (ℕ × ℕ)) → signal_with_id offset i ≡ None → (i ≡ None → n < u) → n < u
  id-onward offset n u None e f = f refl
  id-onward offset n u (Some i) e f = absurd cc

  type-onward : (xs : List ℕ) (t : Option (ℕ × ℕ)) → varint_at xs ≡ t → frame_with_type id_at xs t ≡ None → length xs < type_wants reads_id xs t
  type-onward xs None e f = varint-onward xs e
  type-onward xs (Some t) e f =
      let within : t.1 ≤ length xs = (varint_at-within xs t e).2 in
      chosen-onward (t.0 == 0x41) (signal_with_id t.1 (id_at (drop t.1 xs))) (frame_with_length xs t.0 t.1 (varint_at (drop t.1 xs))) _ _ _ f
      (λ none. id-onward t.1 (length xs) _ (id_at (drop t.1 xs)) none (awaits.onward xs t.1 within))
      (λ none. length-onward xs t.0 t.1 (varint_at (drop t.1 xs)) within refl none)

  type-few : (xs : List ℕ) (t : Option (ℕ × ℕ)) → varint_at xs ≡ t → type_wants reads_id xs t ≤ 4112
  type-few xs None e = omega (arith, varint-few xs)
  type-few xs (Some t) e =
      let short : t.1 ≤ 8 = (varint_at-within xs t e).1 in
      chosen-few (t.0 == 0x41) _ _ 4112 (omega (arith, awaits.few xs t.1)) (length-few xs t.0 t.1 (varint_at (drop t.1 xs)) short refl)

  frames-awaited : AwaitsItem (frame_at id_at) (frame_wants reads_id)
  unfolding frame_at frame_wants
  frames-awaited = record {
    still = λ xs ys lt. type-still xs ys (varint_at xs) refl lt;
    onward = λ xs e. type-onward xs (varint_at xs) refl e;
    few = λ xs. type-few xs (varint_at xs) refl;
  }

pub ignored-awaited : AwaitsItem (frame_at session_id_ignored) (frame_wants false)
ignored-awaited = frames-awaited false session_id_ignored unread-id

pub varint-awaited : AwaitsItem (frame_at varint_at) (frame_wants true)
varint-awaited = frames-awaited true varint_at varint-id
