-- A reader of a session's stream says what the walk over all its bytes and the end says, however they are cut.
use Rattle.std.proofs.Common.{◌≡◌, ℕ, zero, suc, ◌+◌, ◌-◌, ◌≤◌, Bool, true, false, List, [], ◌∷◌, ◌++◌, length, drop, Option, Some, None, IfSome, cond, refl, sym, ap, ◌∙◌, arith, append_assoc, subst}
use Rattle.std.specs.Prelude.{◌==◌, nat_lt, unwrap_or}
use Rattle.std.proofs.lemmas.List.{append-nil, length-append}
use Rattle.std.proofs.lemmas.Bool.{cases_lt}
use Rattle.std.proofs.Common.{inl, inr}
use Rattle.wt_proto.specs.SessionWalk.{SessionProgress, capsule_decides, frame_step_with_length, frame_step_with_type, is_over, session_decides, session_start, session_unfinished, session_walk_of}
use Rattle.wt_proto.specs.declared.session_walk.SessionWalk.{SessionWalk}
use Rattle.wt_proto.specs.declared.walk.Step.{Step}
use Rattle.wt_proto.specs.declared.walk.Step.TheVariants.{Cut, Goes, Stops}
use Rattle.wt_proto.specs.Steady.{IsSteady, size_of_step}
use Rattle.wt_proto.specs.Walk.{Reached, outcome_at, step_on}
use Rattle.wt_proto.specs.WalkProgress.{IsProper, WalkProgress, at_item, progress_after, progress_over, reached_at, reached_in}
use Rattle.wt_proto.proofs.ProgressLaws.{fed-append, progress-cut, progress-goes, progress-stops, walk-progress}
use Rattle.wt_proto.proofs.ReadingLaws.{progress-stop}
use Rattle.wt_wire.specs.declared.side.StreamEnd.{StreamEnd}
use Rattle.wt_wire.specs.Frames.{data_type, is_known_type, longest_payload, settings_type, signal_type}
use Rattle.wt_wire.specs.Varint.{varint_at}
use Rattle.wt_proto.specs.declared.session_walk.SessionWalk.TheVariants as walks
use Rattle.wt_wire.specs.declared.error.ErrorCode.TheVariants.{ExcessiveLoad, FrameUnexpected}
use Rattle.wt_proto.specs.SessionReader.{HasReadSession, HeaderWalk, Waiting, Payload, Faulty, IsSettled, SessionReader, byte_fed, byte_step, first_stop, frame_stop, header_decides, header_with_length, header_with_type, is_faulty, session_ended, session_fed, session_reader, session_said, stop_in, with_frames, with_payload}
use Rattle.wt_proto.proofs.SessionItems.{capsule-final, capsule-steady, header-final, header-steady, header-there}
use Rattle.wt_proto.proofs.SessionSteady.{session-steady}

-- ---- the two walks as one

-- what a frame does to the session's walk between two payloads
abbrev pub of_header : WalkProgress (Unit {0}) SessionWalk → Step (Unit {0}) HeaderWalk → Step SessionProgress SessionWalk
of_header c Cut = Cut
of_header c (Goes t n) = Goes (record { data_left = 0; capsules = c }) n
of_header c (Stops Waiting n) = Goes (record { data_left = 0; capsules = c }) n
of_header c (Stops (Payload size) n) = Goes (record { data_left = size; capsules = c }) n
of_header c (Stops (Faulty code) n) = Stops (walks.Fault code) n

module _ (c : WalkProgress (Unit {0}) SessionWalk) where
  judged-size : (is_data known long settings : Bool) (header size : ℕ)
      → cond is_data (Goes (record { data_left = size; capsules = c }) header)
      (cond known (cond long (Stops (walks.Fault ExcessiveLoad) header) (cond settings (Stops (walks.Fault FrameUnexpected) (header + size)) (Goes (record { data_left = 0; capsules = c }) (header + size))))
      (Goes (record { data_left = 0; capsules = c }) (header + size)))
      ≡ of_header c (cond is_data (Stops (Payload size) header)
      (cond known (cond long (Stops (Faulty ExcessiveLoad) header) (cond settings (Stops (Faulty FrameUnexpected) (header + size)) (Goes tt (header + size)))) (Goes tt (header + size))))
  judged-size true known long settings header size = refl
  judged-size false true true settings header size = refl
  judged-size false true false true header size = refl
  judged-size false true false false header size = refl
  judged-size false false long settings header size = refl

  judged-length : (kind offset : ℕ) (l : Option (ℕ × ℕ)) → frame_step_with_length c kind offset l ≡ of_header c (header_with_length kind offset l)
  judged-length kind offset None = refl
  judged-length kind offset (Some l) = judged-size (kind == data_type) (is_known_type kind) (nat_lt longest_payload l.0) (kind == settings_type) (offset + l.1) l.0

  judged-type : (bytes : List ℕ) (t : Option (ℕ × ℕ)) → frame_step_with_type c bytes t ≡ of_header c (header_with_type bytes t)
  judged-type bytes None = refl
  judged-type bytes (Some t) = by (t.0 == signal_type)
    where
      by : (b : Bool) → cond b (Stops (walks.Fault FrameUnexpected) t.1) (frame_step_with_length c t.0 t.1 (varint_at (drop t.1 bytes)))
          ≡ of_header c (cond b (Stops (Faulty FrameUnexpected) t.1) (header_with_length t.0 t.1 (varint_at (drop t.1 bytes))))
      by true = refl
      by false = judged-length t.0 t.1 (varint_at (drop t.1 bytes))

  pub judged : (bytes : List ℕ) → session_decides (record { data_left = 0; capsules = c }) bytes ≡ of_header c (header_decides tt bytes)
  unfolding session_decides header_decides varint_at
  judged [] = refl
  judged (b ∷ bytes) = judged-type (b ∷ bytes) (varint_at (b ∷ bytes))

-- ---- where the reader stands, and how far the session's walk is

-- nothing in it decides anything, after any bytes
pub progress-proper : {S O : Type 0} (decide : S → List ℕ → Step S O) → IsSteady decide → (xs : List ℕ) (s : S) (stop : Option O) (n : ℕ) → IsProper decide (progress_over decide s stop n xs)
progress-proper {S = S} {O = O} decide steady = over
  where
    bare : (s : S) (stop : Option O) (n : ℕ) → IsProper decide (record { state = s; stop = stop; skip = n; kept = [] })
    bare s stop n = record { waits = steady.nothing s; idle = λ lt. absurd (omega (arith, lt)) }

    led : (s : S) (b : ℕ) (xs : List ℕ) → ((t : S) (stop : Option O) (n : ℕ) → IsProper decide (progress_over decide t stop n xs)) → (d : Step S O) → decide s (b ∷ xs) ≡ d
        → IsProper decide (step_on (record { state = s; stop = None; skip = 0; kept = b ∷ xs }) (λ t stop n. progress_over decide t stop (n - 1) xs) s d)
    led s b xs again Cut e = record { waits = e; idle = λ lt. (refl, refl) }
    led s b xs again (Goes t n) e = again t None (n - 1)
    led s b xs again (Stops o n) e = again s (Some o) (n - 1)

    over : (xs : List ℕ) (s : S) (stop : Option O) (n : ℕ) → IsProper decide (progress_over decide s stop n xs)
    over [] s stop (suc n) = bare s stop (suc n)
    over (b ∷ xs) s stop (suc n) = over xs s stop n
    over [] s stop zero = bare s stop 0
    over (b ∷ xs) s (Some o) zero = bare s (Some o) 0
    over (b ∷ xs) s None zero = led s b xs (over xs) (decide s (b ∷ xs)) refl

-- how far the session's walk is where the reader stands, if nothing stopped it
abbrev pub lifted : SessionReader → WalkProgress SessionProgress SessionWalk
lifted r = record { state = record { data_left = r.data_left; capsules = r.capsules }; stop = frame_stop r.headers.stop; skip = r.headers.skip; kept = r.headers.kept }

-- the walk is as far as the reader, or stopped with what stopped the reader
abbrev pub stands_by : Option SessionWalk → SessionReader → WalkProgress SessionProgress SessionWalk → Type 0
stands_by None r p = p ≡ lifted r
stands_by (Some o) r p = (s : SessionProgress) × (p ≡ record { state = s; stop = Some o; skip = 0; kept = [] })

-- the reader is settled, and stands so
pub record Follows (r : SessionReader) (p : WalkProgress SessionProgress SessionWalk) : Type 0 where
  pub settled : IsSettled r
  pub stands : stands_by (stop_in r) r p

-- frames between two payloads: nothing in the capsules stopped the reader
module _ (c : WalkProgress (Unit {0}) SessionWalk) (proper : IsProper capsule_decides c) (final : IfSome c.stop (λ w. is_over w ≡ true)) (going : (reached_in c).stop ≡ None) (end : StreamEnd) where
  abbrev before : SessionProgress
  before = record { data_left = 0; capsules = c }

  abbrev in_front : WalkProgress (Unit {0}) HeaderWalk → SessionReader
  in_front h = record { headers = h; data_left = 0; capsules = c; end = end }

  -- the rest of an item is skipped
  skipped : (stop : Option HeaderWalk) (n : ℕ) → IfSome stop (λ w. is_faulty w ≡ true)
      → Follows (with_frames (in_front (at_item tt)) (record { state = tt; stop = stop; skip = n; kept = [] })) (record { state = before; stop = frame_stop stop; skip = n; kept = [] })
  skipped stop (suc n) faulty = record {
    settled = record { headers = record { waits = header-steady.nothing tt; idle = λ lt. absurd (omega (arith, lt)) }; capsules = proper; inside = λ lt. absurd (omega (arith, lt)); faulty = faulty; final = final };
    stands = rw going refl;
  }
  skipped None zero faulty = record {
    settled = record { headers = record { waits = header-steady.nothing tt; idle = λ lt. absurd (omega (arith, lt)) }; capsules = proper; inside = λ lt. absurd (omega (arith, lt)); faulty = tt; final = final };
    stands = rw going refl;
  }
  skipped (Some (Faulty code)) zero faulty = record {
    settled = record { headers = record { waits = header-steady.nothing tt; idle = λ lt. absurd (omega (arith, lt)) }; capsules = proper; inside = λ lt. absurd (omega (arith, lt)); faulty = refl; final = final };
    stands = rw going (before, refl);
  }
  skipped (Some (Payload size)) zero faulty = absurd cc
  skipped (Some Waiting) zero faulty = absurd cc

  -- an item's front decides it, with its last byte, or nothing yet
  by_front : (xs : List ℕ) → ((m : ℕ) → size_of_step (header_decides tt xs) ≡ Some m → length xs ≤ m) → (d : Step (Unit {0}) HeaderWalk) → header_decides tt xs ≡ d
      → Follows (with_frames (in_front (at_item tt)) (progress_over header_decides tt None 0 xs)) (progress_over session_decides before None 0 xs)
  by_front xs long Cut e =
      rw (progress-cut header_decides tt xs e, progress-cut session_decides before xs (judged c xs ∙ ap (λ d. of_header c d) e)) (kept xs e)
    where
      kept : (ys : List ℕ) → header_decides tt ys ≡ Cut
          → Follows (with_frames (in_front (at_item tt)) (record { state = tt; stop = None; skip = 0; kept = ys })) (record { state = before; stop = None; skip = 0; kept = ys })
      kept [] f = skipped None 0 tt
      kept (y ∷ ys) f = record {
        settled = record { headers = record { waits = f; idle = λ lt. (refl, refl) }; capsules = proper; inside = λ lt. absurd (omega (arith, lt)); faulty = tt; final = final };
        stands = rw going refl;
      }
  by_front xs long (Goes t n) e =
      let le : length xs ≤ n = long n (ap (λ d. size_of_step d) e) in
      rw (progress-goes header_decides header-steady tt t n xs e le, progress-goes session_decides session-steady before before n xs (judged c xs ∙ ap (λ d. of_header c d) e) le)
      (skipped None (n - length xs) tt)
  by_front xs long (Stops (Faulty code) n) e =
      let le : length xs ≤ n = long n (ap (λ d. size_of_step d) e) in
      rw (progress-stops header_decides header-steady tt (Faulty code) n xs e le, progress-stops session_decides session-steady before (walks.Fault code) n xs (judged c xs ∙ ap (λ d. of_header c d) e) le)
      (skipped (Some (Faulty code)) (n - length xs) refl)
  by_front xs long (Stops (Payload size) n) e =
      let le : length xs ≤ n = long n (ap (λ d. size_of_step d) e) in
      let there : n ≤ length xs = header-there tt xs n size e in
      let none : n - length xs ≡ 0 = omega (arith, le, there) in
      rw (
        progress-stops header_decides header-steady tt (Payload size) n xs e le,
        progress-goes session_decides session-steady before (record { data_left = size; capsules = c }) n xs (judged c xs ∙ ap (λ d. of_header c d) e) le,
        none,
      )
      (record {
        settled = record { headers = record { waits = header-steady.nothing tt; idle = λ lt. absurd (omega (arith, lt)) }; capsules = proper; inside = λ lt. refl; faulty = tt; final = final };
        stands = rw going refl;
      })
  by_front xs long (Stops Waiting n) e = absurd (let no_ = header-final tt xs Waiting n e in cc)

  -- what was kept decided nothing, so an item takes the next byte too
  long : (kept : List ℕ) (b : ℕ) → header_decides tt kept ≡ Cut → (m : ℕ) → size_of_step (header_decides tt (kept ++ b ∷ [])) ≡ Some m → length (kept ++ b ∷ []) ≤ m
  long kept b waits m e =
      elim (cases_lt (length kept) m) [
        | inl lt ↦ omega (arith, lt, length-append kept (b ∷ []))
        | inr le ↦
            let same = header-steady.front tt kept (b ∷ []) m e le in
            let none : size_of_step (header_decides tt kept) ≡ Some m = ap (λ d. size_of_step d) same ∙ e in
            absurd (let cut = ap (λ d. size_of_step d) waits in cc)
      ]

  frames-byte : (stop : Option HeaderWalk) (skip : ℕ) (kept : List ℕ) (b : ℕ) → IsProper header_decides (record { state = tt; stop = stop; skip = skip; kept = kept })
      → IfSome stop (λ w. is_faulty w ≡ true) → frame_stop (reached_at {S = Unit {0}} tt stop skip kept).stop ≡ None
      → Follows (with_frames (in_front (at_item tt)) (progress_over header_decides tt stop skip (kept ++ b ∷ []))) (progress_over session_decides before (frame_stop stop) skip (kept ++ b ∷ []))
  frames-byte stop (suc n) (k ∷ kept) b is faulty runs = absurd (let none = (is.idle (omega arith)).0 in omega (arith, none))
  frames-byte stop (suc (suc n)) [] b is faulty runs = skipped stop (suc n) faulty
  frames-byte stop (suc zero) [] b is faulty runs = skipped stop 0 faulty
  frames-byte None zero kept b is faulty runs = by_front (kept ++ b ∷ []) (long kept b is.waits) (header_decides tt (kept ++ b ∷ [])) refl
  frames-byte (Some w) zero (k ∷ kept) b is faulty runs = absurd (let none = (is.idle (omega arith)).1 in cc)
  frames-byte (Some (Faulty code)) zero [] b is faulty runs = absurd cc
  frames-byte (Some (Payload size)) zero [] b is faulty runs = absurd cc
  frames-byte (Some Waiting) zero [] b is faulty runs = absurd cc

-- a byte of a payload
module _ (c : WalkProgress (Unit {0}) SessionWalk) (end : StreamEnd) (left : ℕ) (b : ℕ) where
  abbrev in_payload : WalkProgress (Unit {0}) SessionWalk → ℕ → SessionReader
  in_payload d n = record { headers = at_item tt; data_left = n; capsules = d; end = end }

  payload-byte : IfSome c.stop (λ w. is_over w ≡ true)
      → Follows (with_payload (in_payload c (suc left)) left (progress_after capsule_decides c (b ∷ [])))
      (progress_over session_decides (record { data_left = suc left; capsules = c }) None 0 (b ∷ []))
  unfolding session_decides
  payload-byte final = by (reached_in (progress_after capsule_decides c (b ∷ []))).stop refl
    where
      settled : IsSettled (with_payload (in_payload c (suc left)) left (progress_after capsule_decides c (b ∷ [])))
      settled = record {
        headers = record { waits = header-steady.nothing tt; idle = λ lt. absurd (omega (arith, lt)) };
        capsules = progress-proper capsule_decides capsule-steady (c.kept ++ b ∷ []) c.state c.stop c.skip;
        inside = λ lt. refl;
        faulty = tt;
        final = progress-stop capsule_decides (λ w. is_over w ≡ true) capsule-final (c.kept ++ b ∷ []) c.state c.stop c.skip final;
      }

      by : (o : Option SessionWalk) → (reached_in (progress_after capsule_decides c (b ∷ []))).stop ≡ o
          → Follows (with_payload (in_payload c (suc left)) left (progress_after capsule_decides c (b ∷ [])))
          (progress_over session_decides (record { data_left = suc left; capsules = c }) None 0 (b ∷ []))
      by None e = record { settled = settled; stands = rw e refl }
      by (Some o) e = record { settled = settled; stands = rw e (record { data_left = suc left; capsules = c }, refl) }

-- ---- any byte, and all bytes

-- nothing stopped it: no capsule, and no frame
pub first-none : (o : Option SessionWalk) (h : Option HeaderWalk) → first_stop o h ≡ None → (o ≡ None) × (frame_stop h ≡ None)
first-none None h e = (refl, e)
first-none (Some w) h e = absurd cc

running-byte : (h : WalkProgress (Unit {0}) HeaderWalk) (left : ℕ) (c : WalkProgress (Unit {0}) SessionWalk) (end : StreamEnd) (b : ℕ)
    → IsSettled (record { headers = h; data_left = left; capsules = c; end = end }) → (reached_in c).stop ≡ None → frame_stop (reached_in h).stop ≡ None
    → Follows (byte_step (record { headers = h; data_left = left; capsules = c; end = end }) left b)
    (progress_after session_decides (record { state = record { data_left = left; capsules = c }; stop = frame_stop h.stop; skip = h.skip; kept = h.kept }) (b ∷ []))
running-byte h zero c end b is none runs = frames-byte c is.capsules is.final none end h.stop h.skip h.kept b is.headers is.faulty runs
running-byte h (suc left) c end b is none runs = rw (is.inside (omega arith)) (payload-byte c end left b is.final)

pub byte-follows : (r : SessionReader) (p : WalkProgress SessionProgress SessionWalk) (b : ℕ) → Follows r p → Follows (byte_fed r (stop_in r) b) (progress_after session_decides p (b ∷ []))
byte-follows r p b f = by (stop_in r) refl f.stands
  where
    by : (o : Option SessionWalk) → stop_in r ≡ o → stands_by o r p → Follows (byte_fed r o b) (progress_after session_decides p (b ∷ []))
    by None e is =
        let none = first-none (reached_in r.capsules).stop (reached_in r.headers).stop e in
        subst (λ (q : WalkProgress SessionProgress SessionWalk). Follows (byte_step r r.data_left b) (progress_after session_decides q (b ∷ []))) (sym is)
        (running-byte r.headers r.data_left r.capsules r.end b f.settled none.0 none.1)
    by (Some o) e is =
        subst (λ (q : WalkProgress SessionProgress SessionWalk). Follows r (progress_after session_decides q (b ∷ []))) (sym is.1)
        (record { settled = f.settled; stands = rw e (is.0, refl) })

pub fed-follows : (ys xs : List ℕ) (s : SessionProgress) (r : SessionReader) → Follows r (progress_over session_decides s None 0 xs) → Follows (session_fed r ys) (progress_over session_decides s None 0 (xs ++ ys))
unfolding session_fed
fed-follows [] xs s r f = rw append-nil f
fed-follows (y ∷ ys) xs s r f =
    let next : Follows (byte_fed r (stop_in r) y) (progress_over session_decides s None 0 (xs ++ y ∷ [])) =
    subst (λ (q : WalkProgress SessionProgress SessionWalk). Follows (byte_fed r (stop_in r) y) q) (fed-append session_decides session-steady xs (y ∷ []) s None 0) (byte-follows r (progress_over session_decides s None 0 xs) y f) in
    subst (λ (zs : List ℕ). Follows (session_fed (byte_fed r (stop_in r) y) ys) (progress_over session_decides s None 0 zs)) (append_assoc xs (y ∷ []) ys)
    (fed-follows ys (xs ++ y ∷ []) s (byte_fed r (stop_in r) y) next)

pub start-follows : Follows session_reader (progress_over session_decides session_start None 0 [])
start-follows = record {
  settled = record {
    headers = record { waits = header-steady.nothing tt; idle = λ lt. absurd (omega (arith, lt)) };
    capsules = record { waits = capsule-steady.nothing tt; idle = λ lt. absurd (omega (arith, lt)) };
    inside = λ lt. refl;
    faulty = tt;
    final = tt;
  };
  stands = refl;
}

-- ---- what it says

-- where the session's walk is that is as far as the reader
lifted-at : (s : SessionProgress) (stop : Option HeaderWalk) (skip : ℕ) (kept : List ℕ)
    → reached_at s (frame_stop stop) skip kept ≡ record { state = s; stop = frame_stop (reached_at {S = Unit {0}} tt stop skip kept).stop; between = (reached_at {S = Unit {0}} {O = HeaderWalk} tt stop skip kept).between }
lifted-at s stop (suc skip) kept = refl
lifted-at s stop zero [] = refl
lifted-at s stop zero (b ∷ kept) = refl

pub said-by : (r : SessionReader) (p : WalkProgress SessionProgress SessionWalk) (end : StreamEnd) → Follows r p → session_said (session_ended end r) ≡ outcome_at session_unfinished end (reached_in p)
said-by r p end f = by (stop_in r) refl f.stands
  where
    by : (o : Option SessionWalk) → stop_in r ≡ o → stands_by o r p
        → unwrap_or o (session_unfinished end (record { data_left = r.data_left; capsules = r.capsules }) (reached_in r.headers).between) ≡ outcome_at session_unfinished end (reached_in p)
    by None e is =
        let none = first-none (reached_in r.capsules).stop (reached_in r.headers).stop e in
        rw (is, lifted-at (record { data_left = r.data_left; capsules = r.capsules }) r.headers.stop r.headers.skip r.headers.kept, none.1) refl
    by (Some o) e is = rw is.1 refl

-- a reader that took all bytes and learned the end says what the walk says
pub session_reader_says : (r : SessionReader) (bytes : List ℕ) (end : StreamEnd) → HasReadSession r bytes end → session_said r ≡ session_walk_of bytes end
unfolding session_walk_of
session_reader_says r bytes end has =
    ap session_said has
    ∙ (said-by (session_fed session_reader bytes) (progress_over session_decides session_start None 0 bytes) end (fed-follows bytes [] session_start session_reader start-follows)
    ∙ ap (λ (x : Reached SessionProgress SessionWalk). outcome_at session_unfinished end x) (sym (walk-progress session_decides bytes session_start None 0)))
