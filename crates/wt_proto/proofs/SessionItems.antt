-- The two walks that a reader of a session's stream takes turns with: frames up to a DATA frame's header, and capsules.
use Rattle.std.proofs.Common.{◌≡◌, ℕ, ◌+◌, ◌<◌, ◌≤◌, Bool, true, false, List, ◌++◌, length, take, drop, Option, Some, None, Result, Ok, Err, cond, refl, sym, arith}
use Rattle.std.specs.Prelude.{◌==◌, ◌&&◌, nat_lt, nat_le}
use Rattle.std.proofs.lemmas.List.{length-append, length-drop, drop-append-le, take-append-le}
use Rattle.std.proofs.lemmas.Grind.{common_steps}
use Rattle.std.proofs.lemmas.Bool.Decides.{nat_tests}
use Rattle.wt_message.specs.Capsule.{close_capsule_type, close_of}
use Rattle.wt_message.specs.SessionClose.{SessionClose}
use Rattle.wt_proto.specs.SessionWalk.{capsule_decides, capsule_with_header, capsule_with_length, capsule_with_type, closed_by, is_over, may_close}
use Rattle.wt_proto.specs.declared.session_walk.SessionWalk.{SessionWalk}
use Rattle.wt_proto.specs.declared.walk.Step.{Step}
use Rattle.wt_proto.specs.declared.walk.Step.TheVariants.{Cut, Goes, Stops}
use Rattle.wt_proto.specs.Steady.{IsAwaited, IsLawful, IsSteady, size_of_step}
use Rattle.wt_proto.specs.Walk.{outcome_at, whole_walk}
use Rattle.wt_wire.specs.declared.error.ErrorCode.{ErrorCode}
use Rattle.wt_wire.specs.declared.side.StreamEnd.{StreamEnd}
use Rattle.wt_wire.specs.Frames.{data_type, is_known_type, longest_payload, settings_type, signal_type}
use Rattle.wt_wire.specs.Varint.{varint_at}
use Rattle.wt_wire.proofs.VarintLaws.{varint_at-within}
use Rattle.wt_proto.specs.declared.session_walk.SessionWalk.TheVariants as walks
use Rattle.wt_wire.specs.declared.error.ErrorCode.TheVariants.{ExcessiveLoad, FrameUnexpected, Message}
use Rattle.wt_wire.specs.declared.side.StreamEnd.TheVariants.{Fin, Reset, Running}
use Rattle.wt_proto.specs.SessionReader.{HeaderWalk, Payload, Faulty, capsule_unfinished, capsule_walk_of, capsule_wants, header_decides, header_unfinished, header_walk_of, header_wants, header_with_length, header_with_size, header_with_type, is_header, value_wants}
use Rattle.wt_proto.proofs.TypedItems.{IsJudge, Judge, typed-awaited, typed-few, typed-steady}

-- ---- frames

abbrev header_judge : Judge HeaderWalk
header_judge = record {
  early = λ kind. kind == signal_type;
  at_once = λ n. Stops (Faulty FrameUnexpected) n;
  judge = λ bytes kind header size. header_with_size kind header size;
  wants = λ kind header size. header;
}

sized : (kind header size n : ℕ) → size_of_step (header_with_size kind header size) ≡ Some n → header ≤ n
sized kind header size n e = grind (arith, common_steps)

-- a frame by its tests
abbrev sized_by : Bool → Bool → Bool → Bool → ℕ → ℕ → Step (Unit {0}) HeaderWalk
sized_by is_data known long settings header size =
    cond is_data (Stops (Payload size) header)
    (cond known (cond long (Stops (Faulty ExcessiveLoad) header) (cond settings (Stops (Faulty FrameUnexpected) (header + size)) (Goes tt (header + size)))) (Goes tt (header + size)))

never_cut : (is_data known long settings : Bool) (kind header size : ℕ) →
    sized_by is_data known long settings header size ≡ Cut → ⊥
never_cut true known long settings kind header size e = cc
never_cut false true true settings kind header size e = cc
never_cut false true false true kind header size e = cc
never_cut false true false false kind header size e = cc
never_cut false false long settings kind header size e = cc

header-judge : IsJudge header_judge 0
header-judge = record {
  once = λ n. refl;
  more = λ xs ys kind header size n le e. refl;
  front = λ xs ys kind header size n le e lt. refl;
  whole = λ xs kind header size n e. sized kind header size n e;
  still = λ xs kind header size le lt. absurd (omega (arith, le, lt));
  onward = λ xs kind header size e. absurd (never_cut (kind == data_type) (is_known_type kind) (nat_lt longest_payload size) (kind == settings_type) kind header size e);
  few = λ kind header size. omega arith;
}

pub header-steady : IsSteady header_decides
unfolding header_decides
header-steady = typed-steady header_judge 0 header-judge

pub header-awaited : IsAwaited header_decides header_wants
unfolding header_decides header_wants
header-awaited = typed-awaited header_judge 0 header-judge (omega arith)

-- two integers
pub header-few : (bytes : List ℕ) → header_wants bytes ≤ 16
unfolding header_wants
header-few bytes = let few = typed-few header_judge 0 header-judge bytes in omega (arith, few)

header-reaches : (bytes : List ℕ) (end : StreamEnd) → header_walk_of bytes end ≡ outcome_at header_unfinished end (whole_walk header_decides tt bytes)
unfolding header_walk_of
header-reaches bytes end = refl

-- what a frame stops the walk with
sized-final : (is_data known long settings : Bool) (header size n : ℕ) (w : HeaderWalk) →
    sized_by is_data known long settings header size ≡ Stops w n → is_header w ≡ true
sized-final true known long settings header size n w e = cc
sized-final false true true settings header size n w e = cc
sized-final false true false true header size n w e = cc
sized-final false true false false header size n w e = absurd cc
sized-final false false long settings header size n w e = absurd cc

length-final : (kind offset n : ℕ) (l : Option (ℕ × ℕ)) (w : HeaderWalk) → header_with_length kind offset l ≡ Stops w n → is_header w ≡ true
length-final kind offset n None w e = absurd cc
length-final kind offset n (Some l) w e = sized-final (kind == data_type) (is_known_type kind) (nat_lt longest_payload l.0) (kind == settings_type) (offset + l.1) l.0 n w e

type-final : (bytes : List ℕ) (n : ℕ) (t : Option (ℕ × ℕ)) (w : HeaderWalk) → header_with_type bytes t ≡ Stops w n → is_header w ≡ true
type-final bytes n None w e = absurd cc
type-final bytes n (Some t) w e = by (t.0 == signal_type) e
  where
    by : (b : Bool) → cond b (Stops (Faulty FrameUnexpected) t.1) (header_with_length t.0 t.1 (varint_at (drop t.1 bytes))) ≡ Stops w n → is_header w ≡ true
    by true f = cc
    by false f = length-final t.0 t.1 n (varint_at (drop t.1 bytes)) w f

pub header-final : (s : Unit {0}) (bytes : List ℕ) (w : HeaderWalk) (n : ℕ) → header_decides s bytes ≡ Stops w n → is_header w ≡ true
unfolding header_decides
header-final s bytes w n e = type-final bytes n (varint_at bytes) w e

pub header_lawful : IsLawful tt header_decides header_wants header_unfinished is_header header_walk_of
header_lawful = record { steady = header-steady; awaited = header-awaited; reaches = header-reaches; stops = header-final; by_end = λ end s t b c. refl }

-- a DATA frame's header is there where it stops the walk
sized-payload : (is_data known long settings : Bool) (header size n m : ℕ) →
    sized_by is_data known long settings header size ≡ Stops (Payload m) n → n ≡ header
sized-payload true known long settings header size n m e = cc
sized-payload false true true settings header size n m e = absurd cc
sized-payload false true false true header size n m e = absurd cc
sized-payload false true false false header size n m e = absurd cc
sized-payload false false long settings header size n m e = absurd cc

length-payload : (xs : List ℕ) (kind offset n m : ℕ) (l : Option (ℕ × ℕ)) → offset ≤ length xs → varint_at (drop offset xs) ≡ l → header_with_length kind offset l ≡ Stops (Payload m) n → n ≤ length xs
length-payload xs kind offset n m None le e f = absurd cc
length-payload xs kind offset n m (Some l) le e f =
    let same : n ≡ offset + l.1 = sized-payload (kind == data_type) (is_known_type kind) (nat_lt longest_payload l.0) (kind == settings_type) (offset + l.1) l.0 n m f in
    omega (arith, same, varint_at-within (drop offset xs) l e, length-drop offset xs)

type-payload : (xs : List ℕ) (n m : ℕ) (t : Option (ℕ × ℕ)) → varint_at xs ≡ t → header_with_type xs t ≡ Stops (Payload m) n → n ≤ length xs
type-payload xs n m None e f = absurd cc
type-payload xs n m (Some t) e f = by (t.0 == signal_type) f
  where
    by : (b : Bool) → cond b (Stops (Faulty FrameUnexpected) t.1) (header_with_length t.0 t.1 (varint_at (drop t.1 xs))) ≡ Stops (Payload m) n → n ≤ length xs
    by true g = absurd cc
    by false g = length-payload xs t.0 t.1 n m (varint_at (drop t.1 xs)) ((varint_at-within xs t e).2) refl g

pub header-there : (s : Unit {0}) (xs : List ℕ) (n m : ℕ) → header_decides s xs ≡ Stops (Payload m) n → n ≤ length xs
unfolding header_decides
header-there s xs n m e = type-payload xs n m (varint_at xs) refl e

-- ---- capsules

abbrev capsule_judge : Judge SessionWalk
capsule_judge = record { early = λ kind. false; at_once = λ n. Goes tt n; judge = capsule_with_header; wants = value_wants }

-- a capsule that closes the session, whose value is there or isn't
module _ (header size : ℕ) where
  abbrev value_by : Bool → List ℕ → Step (Unit {0}) SessionWalk
  value_by missing bytes = cond missing Cut (Stops (closed_by (close_of (take size (drop header bytes)))) (header + size))

  abbrev whole_value : List ℕ → Step (Unit {0}) SessionWalk
  whole_value bytes = value_by (nat_lt (length bytes) (header + size)) bytes

  there : (xs : List ℕ) → header + size ≤ length xs → nat_lt (length xs) (header + size) ≡ false
  there xs le = grind (arith, nat_tests)

  missing : (xs : List ℕ) → length xs < header + size → nat_lt (length xs) (header + size) ≡ true
  missing xs lt = grind (arith, nat_tests)

  is_missing : (xs : List ℕ) → nat_lt (length xs) (header + size) ≡ true → length xs < header + size
  is_missing xs e = grind (arith, nat_tests)

  is_there : (xs : List ℕ) → nat_lt (length xs) (header + size) ≡ false → header + size ≤ length xs
  is_there xs e = grind (arith, nat_tests)

  value-same : (xs ys : List ℕ) → header + size ≤ length xs → whole_value (xs ++ ys) ≡ whole_value xs
  value-same xs ys le =
      rw (there xs le, there (xs ++ ys) (omega (arith, le, length-append xs ys)), drop-append-le header xs ys (omega (arith, le)), take-append-le size (drop header xs) ys (omega (arith, le, length-drop header xs))) refl

  value-size : (xs : List ℕ) (n : ℕ) (b : Bool) → size_of_step (value_by b xs) ≡ Some n → (b ≡ false) × (n ≡ header + size)
  value-size xs n true e = absurd cc
  value-size xs n false e = (refl, cc)

  value-more : (xs ys : List ℕ) (n : ℕ) → size_of_step (whole_value xs) ≡ Some n → whole_value (xs ++ ys) ≡ whole_value xs
  value-more xs ys n e = value-same xs ys (is_there xs ((value-size xs n (nat_lt (length xs) (header + size)) e).0))

  value-front : (xs ys : List ℕ) (n : ℕ) → size_of_step (whole_value (xs ++ ys)) ≡ Some n → n ≤ length xs → whole_value xs ≡ whole_value (xs ++ ys)
  value-front xs ys n e le = let same = (value-size (xs ++ ys) n (nat_lt (length (xs ++ ys)) (header + size)) e).1 in sym (value-same xs ys (omega (arith, same, le)))

  -- a capsule by its tests
  abbrev capsule_by : Bool → Bool → List ℕ → Step (Unit {0}) SessionWalk
  capsule_by close may bytes = cond close (cond may (whole_value bytes) (Stops (walks.Fault Message) header)) (Goes tt (header + size))

  capsule-more : (close may : Bool) (xs ys : List ℕ) (n : ℕ) → size_of_step (capsule_by close may xs) ≡ Some n
      → capsule_by close may (xs ++ ys) ≡ capsule_by close may xs
  capsule-more true true xs ys n e = value-more xs ys n e
  capsule-more true false xs ys n e = refl
  capsule-more false may xs ys n e = refl

  capsule-front : (close may : Bool) (xs ys : List ℕ) (n : ℕ) → size_of_step (capsule_by close may (xs ++ ys)) ≡ Some n → n ≤ length xs
      → capsule_by close may xs ≡ capsule_by close may (xs ++ ys)
  capsule-front true true xs ys n e le = value-front xs ys n e le
  capsule-front true false xs ys n e le = refl
  capsule-front false may xs ys n e le = refl

  capsule-whole : (close may : Bool) (xs : List ℕ) (n : ℕ) → size_of_step (capsule_by close may xs) ≡ Some n → header ≤ n
  capsule-whole true true xs n e = let same = (value-size xs n (nat_lt (length xs) (header + size)) e).1 in omega (arith, same)
  capsule-whole true false xs n e = let same : n ≡ header = cc in omega (arith, same)
  capsule-whole false may xs n e = let same : n ≡ header + size = cc in omega (arith, same)

  capsule-still : (close may : Bool) (xs : List ℕ) → header ≤ length xs → length xs < cond (close && may) (header + size) header
      → capsule_by close may xs ≡ Cut
  capsule-still true true xs le lt = rw (missing xs lt) refl
  capsule-still true false xs le lt = absurd (omega (arith, le, lt))
  capsule-still false may xs le lt = absurd (omega (arith, le, lt))

  value-cut : (xs : List ℕ) (b : Bool) → value_by b xs ≡ Cut → b ≡ true
  value-cut xs true e = refl
  value-cut xs false e = absurd cc

  capsule-onward : (close may : Bool) (xs : List ℕ) → capsule_by close may xs ≡ Cut
      → length xs < cond (close && may) (header + size) header
  capsule-onward true true xs e = is_missing xs (value-cut xs (nat_lt (length xs) (header + size)) e)
  capsule-onward true false xs e = absurd cc
  capsule-onward false may xs e = absurd cc

  closed-final : (r : Result SessionClose ErrorCode) → is_over (closed_by r) ≡ true
  closed-final (Ok close) = refl
  closed-final (Err fault) = refl

  value-final : (xs : List ℕ) (b : Bool) (w : SessionWalk) (n : ℕ) → value_by b xs ≡ Stops w n → is_over w ≡ true
  value-final xs true w n e = absurd cc
  value-final xs false w n e = let closed = closed-final (close_of (take size (drop header xs))) in cc

  capsule-stops : (close may : Bool) (xs : List ℕ) (w : SessionWalk) (n : ℕ) → capsule_by close may xs ≡ Stops w n → is_over w ≡ true
  capsule-stops true true xs w n e = value-final xs (nat_lt (length xs) (header + size)) w n e
  capsule-stops true false xs w n e = cc
  capsule-stops false may xs w n e = absurd cc

-- such a value has at most 1,028 bytes
value-few : (kind header size : ℕ) → value_wants kind header size ≤ header + 1028
value-few kind header size = by (kind == close_capsule_type) (nat_le 4 size) (nat_le size 1028) refl
  where
    by : (b c d : Bool) → nat_le size 1028 ≡ d → cond (b && (c && d)) (header + size) header ≤ header + 1028
    by true true true e = grind (arith, nat_tests)
    by true true false e = omega arith
    by true false d e = omega arith
    by false c d e = omega arith

capsule-judge : IsJudge capsule_judge 1028
capsule-judge = record {
  once = λ n. refl;
  more = λ xs ys kind header size n le e. capsule-more header size (kind == close_capsule_type) (may_close size) xs ys n e;
  front = λ xs ys kind header size n le e lt. capsule-front header size (kind == close_capsule_type) (may_close size) xs ys n e lt;
  whole = λ xs kind header size n e. capsule-whole header size (kind == close_capsule_type) (may_close size) xs n e;
  still = λ xs kind header size le lt. capsule-still header size (kind == close_capsule_type) (may_close size) xs le lt;
  onward = λ xs kind header size e. capsule-onward header size (kind == close_capsule_type) (may_close size) xs e;
  few = value-few;
}

pub capsule-steady : IsSteady capsule_decides
unfolding capsule_decides
capsule-steady = typed-steady capsule_judge 1028 capsule-judge

pub capsule-awaited : IsAwaited capsule_decides capsule_wants
unfolding capsule_decides capsule_wants
capsule-awaited = typed-awaited capsule_judge 1028 capsule-judge (omega arith)

-- two integers and such a value
pub capsule-few : (bytes : List ℕ) → capsule_wants bytes ≤ 1044
unfolding capsule_wants
capsule-few bytes = let few = typed-few capsule_judge 1028 capsule-judge bytes in omega (arith, few)

capsule-reaches : (bytes : List ℕ) (end : StreamEnd) → capsule_walk_of bytes end ≡ outcome_at capsule_unfinished end (whole_walk capsule_decides tt bytes)
unfolding capsule_walk_of
capsule-reaches bytes end = refl

length-over : (bytes : List ℕ) (kind offset n : ℕ) (l : Option (ℕ × ℕ)) (w : SessionWalk) → capsule_with_length bytes kind offset l ≡ Stops w n → is_over w ≡ true
length-over bytes kind offset n None w e = absurd cc
length-over bytes kind offset n (Some l) w e = capsule-stops (offset + l.1) l.0 (kind == close_capsule_type) (may_close l.0) bytes w n e

type-over : (bytes : List ℕ) (n : ℕ) (t : Option (ℕ × ℕ)) (w : SessionWalk) → capsule_with_type bytes t ≡ Stops w n → is_over w ≡ true
type-over bytes n None w e = absurd cc
type-over bytes n (Some t) w e = length-over bytes t.0 t.1 n (varint_at (drop t.1 bytes)) w e

pub capsule-final : (s : Unit {0}) (bytes : List ℕ) (w : SessionWalk) (n : ℕ) → capsule_decides s bytes ≡ Stops w n → is_over w ≡ true
unfolding capsule_decides
capsule-final s bytes w n e = type-over bytes n (varint_at bytes) w e

capsule-by_end : (end : StreamEnd) (s t : Unit {0}) (b c : Bool) → is_over (capsule_unfinished end s b) ≡ is_over (capsule_unfinished end t c)
capsule-by_end Running s t b c = refl
capsule-by_end Fin s t true true = refl
capsule-by_end Fin s t true false = refl
capsule-by_end Fin s t false true = refl
capsule-by_end Fin s t false false = refl
capsule-by_end (Reset code) s t b c = refl

pub capsule_lawful : IsLawful tt capsule_decides capsule_wants capsule_unfinished is_over capsule_walk_of
capsule_lawful = record { steady = capsule-steady; awaited = capsule-awaited; reaches = capsule-reaches; stops = capsule-final; by_end = capsule-by_end }
