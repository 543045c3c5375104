-- What a reader of a session's stream takes at once, and what a call that feeds it a piece answers.
use Rattle.std.proofs.Common.{◌≡◌, ℕ, ◌-◌, ◌<◌, ◌≤◌, Bool, true, false, List, [], ◌++◌, length, take, drop, cond, ◌==◌, Option, Some, None, zero, suc, ◌∷◌, is_some, refl, sym, ap, ◌∙◌, arith, subst, inl, inr}
use Rattle.std.specs.Prelude.{unwrap_or}
use Rattle.wt_wire.specs.declared.error.ErrorCode.TheVariants.{ClosedCriticalStream}
use Rattle.std.proofs.lemmas.List.{append-nil, length-take, take-append-drop, take_all}
use Rattle.std.proofs.lemmas.Bool.{cases_lt}
use Rattle.wt_proto.specs.SessionWalk.{SessionProgress, capsule_decides, is_over, session_at_end, session_unfinished, session_walk_of}
use Rattle.wt_proto.specs.Cursor.{IsPlaced, progress_of}
use Rattle.wt_proto.specs.declared.cursor.Cursor.{Cursor}
use Rattle.wt_proto.specs.Steady.{IsSteady}
use Rattle.wt_proto.specs.WalkProgress.{Advances, IsProper, WalkProgress, at_item, progress_after, reached_in}
use Rattle.wt_proto.specs.declared.session_walk.SessionWalk.{SessionWalk}
use Rattle.wt_proto.specs.declared.walk.Step.{Step}
use Rattle.wt_proto.specs.declared.session_walk.SessionWalk.TheVariants as walks
use Rattle.wt_proto.specs.SessionReader.{HasReadSession, HeaderWalk, IsSettled, SessionAdvances, SessionReader, Waiting, Payload, Faulty, header_decides, past_frames, session_ended, session_fed, session_reader, session_said, stop_in, with_frames, with_payload}
use Rattle.wt_proto.proofs.SessionPieces.{advances_read, end_has_read, fed_ended, fed_has_read, fed_settled, frames_advances, payload_advances, stop_over}
use Rattle.wt_proto.proofs.SessionReaderLaws.{first-none, session_reader_says}
use Rattle.wt_proto.proofs.SessionSteady.{session_walk_stays}
use Rattle.wt_wire.specs.declared.side.StreamEnd.{StreamEnd}
use Rattle.wt_wire.specs.declared.side.StreamEnd.TheVariants.{Fin, Reset, Running}

take-take : (i k : ℕ) (xs : List ℕ) → i ≤ k → take i (take k xs) ≡ take i xs
take-take zero k xs le = refl
take-take (suc i) zero xs le = absurd (omega (arith, le))
take-take (suc i) (suc k) [] le = refl
take-take (suc i) (suc k) (x ∷ xs) le = ap (λ (ys : List ℕ). x ∷ ys) (take-take i k xs (omega (arith, le)))

-- what is taken of a piece's front is taken of the piece
pub advances-front : {S O : Type 0} (decide : S → List ℕ → Step S O) (old new : WalkProgress S O) (piece : List ℕ) (count n : ℕ) → Advances decide old new (take count piece) n → Advances decide old new piece n
advances-front {S = S} {O = O} decide old new piece count n a = record {
  within = omega (arith, a.within, length-take count piece);
  fed = a.fed ∙ ap (λ (xs : List ℕ). progress_after decide old xs) (take-take n count piece few);
  running = λ k lt. ap (λ (xs : List ℕ). (reached_in (progress_after decide old xs)).stop) (sym (take-take k count piece (omega (arith, lt, few)))) ∙ a.running k lt;
}
  where
    few : n ≤ count
    few = omega (arith, a.within, length-take count piece)

-- in a payload the capsules take some bytes, no more than are to come
pub payload-taken : (old : SessionReader) (c : WalkProgress (Unit {0}) SessionWalk) (piece : List ℕ) (count n : ℕ) → IsSettled old → stop_in old ≡ None → count ≤ old.data_left
    → Advances capsule_decides old.capsules c (take count piece) n → SessionAdvances old (with_payload old (old.data_left - n) c) piece n
payload-taken old c piece count n is goes few a =
    payload_advances old c piece n is ((first-none (reached_in old.capsules).stop (reached_in old.headers).stop goes).1) (omega (arith, few, a.within, length-take count piece))
    (advances-front capsule_decides old.capsules c piece count n a)

-- between two payloads the frames do
pub frames-taken : (old new : SessionReader) (h : WalkProgress (Unit {0}) HeaderWalk) (piece : List ℕ) (n : ℕ) → IsSettled old → stop_in old ≡ None → old.data_left ≡ 0
    → Advances header_decides old.headers h piece n → new ≡ with_frames (record old { headers = h }) h → SessionAdvances old new piece n
frames-taken old new h piece n is goes none a e =
    subst (λ (r : SessionReader). SessionAdvances old r piece n) (sym (e ∙ same (reached_in h).stop))
    (frames_advances old h piece n is none ((first-none (reached_in old.capsules).stop (reached_in old.headers).stop goes).0) a)
  where
    same : (o : Option HeaderWalk) → past_frames (record old { headers = h }) h o ≡ past_frames old h o
    same None = refl
    same (Some Waiting) = refl
    same (Some (Payload size)) = refl
    same (Some (Faulty code)) = refl

-- a reader stays settled
pub settled-after : (old new : SessionReader) (piece : List ℕ) (n : ℕ) → IsSettled old → SessionAdvances old new piece n → IsSettled new
settled-after old new piece n is a = subst (λ (r : SessionReader). IsSettled r) (sym a.fed) (fed_settled (take n piece) old is)

-- ---- what it says

-- what stopped it is final
pub stopped-over : (r : SessionReader) → IsSettled r → is_some (stop_in r) ≡ true → is_over (session_said r) ≡ true
stopped-over r is e = by (stop_in r) refl e
  where
    by : (o : Option SessionWalk) → stop_in r ≡ o → is_some o ≡ true → is_over (session_said r) ≡ true
    by None f g = absurd cc
    by (Some o) f g = rw f (stop_over r o is f)

-- while nothing is final nothing stopped it, and the stream runs
by-end : (end : StreamEnd) (s : SessionProgress) (between : Bool) → is_over (session_unfinished end s between) ≡ false → end ≡ Running
by-end Running s between e = refl
by-end Fin s false e = absurd cc
by-end Fin s true e = absurd (at_end (s.data_left == 0) e)
  where
    over : (b : Bool) → is_over (session_at_end b) ≡ true
    over true = refl
    over false = refl

    at_end : (b : Bool) → is_over (cond b (session_at_end (reached_in s.capsules).between) (walks.Fault ClosedCriticalStream)) ≡ false → ⊥
    at_end true f = let t = over (reached_in s.capsules).between in cc
    at_end false f = cc
by-end (Reset code) s between e = absurd cc

pub goes-on : (r : SessionReader) → IsSettled r → is_over (session_said r) ≡ false → (stop_in r ≡ None) × (r.end ≡ Running)
goes-on r is e = by (stop_in r) refl e
  where
    by : (o : Option SessionWalk) → stop_in r ≡ o → is_over (unwrap_or o (session_unfinished r.end (record { data_left = r.data_left; capsules = r.capsules }) (reached_in r.headers).between)) ≡ false
        → (o ≡ None) × (r.end ≡ Running)
    by None f g = (refl, by-end r.end (record { data_left = r.data_left; capsules = r.capsules }) (reached_in r.headers).between g)
    by (Some o) f g = let over = stop_over r o is f in absurd cc

fed-end : (r : SessionReader) (xs : List ℕ) → (session_fed r xs).end ≡ r.end
fed-end r xs = ap (λ (q : SessionReader). q.end) (fed_ended xs r.end r)

-- in front of the last byte that it takes it isn't final
pub advances-open : (old new : SessionReader) (piece : List ℕ) (n : ℕ) → IsSettled old → SessionAdvances old new piece n → (0 < n → is_over (session_said old) ≡ false) → (k : ℕ) → k < n
    → is_over (session_said (session_fed old (take k piece))) ≡ false
advances-open old new piece n is a goes k lt =
    let runs : (session_fed old (take k piece)).end ≡ Running = fed-end old (take k piece) ∙ (goes-on old is (goes (omega (arith, lt)))).1 in
    rw (a.running k lt, runs) refl

-- ---- by the bytes that it took

module _ (old : SessionReader) (bytes : List ℕ) (end : StreamEnd) (has : HasReadSession old bytes end) where
  pub fed-says : (more : List ℕ) → session_said (session_fed old more) ≡ session_walk_of (bytes ++ more) end
  fed-says more = session_reader_says (session_fed old more) (bytes ++ more) end (fed_has_read old bytes more end has)

-- one that took no bytes
pub read-none : HasReadSession session_reader [] Running
unfolding session_fed
read-none = refl

-- a reader that took all bytes up to the one with which the outcome is final, and then learns the end, says what all bytes say
pub taken-says : (r : SessionReader) (bytes : List ℕ) (end : StreamEnd) (n : ℕ) → SessionAdvances session_reader r bytes n → (n < length bytes → is_over (session_said r) ≡ true)
    → session_said (session_ended end r) ≡ session_walk_of bytes end
taken-says r bytes end n a all =
    let has : HasReadSession r (take n bytes) Running = advances_read session_reader r bytes [] n Running read-none a in
    let said : session_said (session_ended end r) ≡ session_walk_of (take n bytes) end = session_reader_says (session_ended end r) (take n bytes) end (end_has_read r (take n bytes) Running end has) in
    elim (cases_lt n (length bytes)) [
      | inl lt ↦
          let over : is_over (session_walk_of (take n bytes) Running) ≡ true = ap is_over (sym (session_reader_says r (take n bytes) Running has)) ∙ all lt in
          said ∙ (ap (λ (xs : List ℕ). session_walk_of xs end) (sym (append-nil (take n bytes)))
          ∙ (session_walk_stays (take n bytes) [] end over
          ∙ (sym (session_walk_stays (take n bytes) (drop n bytes) end over) ∙ ap (λ (xs : List ℕ). session_walk_of xs end) (take-append-drop n bytes))))
      | inr le ↦ said ∙ ap (λ (xs : List ℕ). session_walk_of xs end) (take_all n bytes le)
    ]

-- no bytes change nothing
pub fed-nothing-more : (r : SessionReader) → session_fed r [] ≡ r
unfolding session_fed
fed-nothing-more r = refl

-- a walk that took no bytes is placed
pub placed-none : {S O : Type 0} (decide : S → List ℕ → Step S O) → IsSteady decide → (s : S) (c : Cursor S O) → progress_of c ≡ at_item s → c.wanted ≡ 0 → IsPlaced decide c
placed-none {S = S} {O = O} decide steady s c is wanted = record {
  proper = subst (λ (p : WalkProgress S O). IsProper decide p) (sym is) (record { waits = steady.nothing s; idle = λ lt. absurd (omega (arith, lt)) });
  still = λ lt more less. absurd (omega (arith, lt, none));
  onward = λ lt. absurd (omega (arith, lt, none));
  few = omega (arith, wanted);
}
  where
    none : length c.kept.items ≡ 0
    none = ap (λ (p : WalkProgress S O). length p.kept) is

-- what a call that feeds a piece answers, by all bytes
module _ (old new : SessionReader) (piece bytes : List ℕ) (n : ℕ) (end : StreamEnd) (has : HasReadSession old bytes end) (a : SessionAdvances old new piece n) where
  pub feed-runs : IsSettled old → (0 < n → is_over (session_said old) ≡ false) → (k : ℕ) → k < n → is_over (session_walk_of (bytes ++ take k piece) end) ≡ false
  feed-runs is goes k lt = ap is_over (sym (fed-says old bytes end has (take k piece))) ∙ advances-open old new piece n is a goes k lt

  pub feed-stops : (n < length piece → is_over (session_said new) ≡ true) → n < length piece → is_over (session_walk_of (bytes ++ take n piece) end) ≡ true
  feed-stops all lt = ap is_over (sym (session_reader_says new (bytes ++ take n piece) end (advances_read old new piece bytes n end has a))) ∙ all lt
