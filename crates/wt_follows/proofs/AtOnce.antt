-- The moments of a piece's bytes, of which all but the last find nothing, come to the one moment of the last: so a whole piece may
-- be fed to its reader at once.
use Rattle.std.proofs.Common.{◌∙◌, ◌≡◌, ◌++◌, ◌∷◌, Bool, List, None, Option, Some, [], ap, append_assoc, arith, drop, false, length, refl, subst, suc, sym, take, true, zero, ℕ}
use Rattle.std.proofs.lemmas.Bool.{eq-eqb, eqb-true}
use Rattle.std.specs.Prelude.{◌==◌, ◌||◌, if◌then◌else◌, is_some, not}
use Rattle.wt_proto.specs.SessionWalk.{is_over, session_walk_of}
use Rattle.wt_proto.specs.Bi.{bi_verdict_of}
use Rattle.wt_proto.specs.ControlWalk.{control_walk_of}
use Rattle.wt_proto.specs.Uni.{uni_verdict_of}
use Rattle.wt_proto.specs.declared.verdict.Verdict.{Verdict}
use Rattle.wt_turn.specs.Arrivals.{log_bytes}
use Rattle.wt_turn.specs.Streams.{contents, local_uni}
use Rattle.wt_sessions.specs.Driver.{close_actions, transport_view}
use Rattle.wt_sessions.specs.DriverState.{DriverState}
use Rattle.wt_sessions.specs.Moment.{flush_state, moment_state, scan_if, state_with_actions}
use Rattle.wt_sessions.specs.Scan.{check_control, check_qpack, critical_if, places_after, unless_ended, with_fault, with_no_actions}
use Rattle.wt_sessions.specs.Step.{Scanned, check_each_now, classify_now, in_order_now, on_progress_now, scan_bis_now, scan_ids, scan_state, scan_unis_now, stays, stays_if, take_datagrams_now, take_each_now, unless_faulty, walked_now}
use Rattle.wt_sessions.specs.StreamTable.{Session, TransportView}
use Rattle.wt_follows.specs.Pieces.{AllRun, AreIncomplete, ControlGoes, FindsNothing, QpackRuns, SilentFront, byte_moments, noted, with_bytes}
use Rattle.wt_turn.specs.Log.{Log, Received}
use Rattle.wt_wire.specs.declared.error.ErrorCode.{ErrorCode}
use Rattle.wt_wire.specs.declared.side.Side.{Side}
use Rattle.wt_wire.specs.declared.side.StreamEnd.TheVariants as ends

-- ---- steps that find nothing

module _ (t : TransportView) where
  ids-rest : (verdict : ℕ → Verdict) (n : ℕ) (ks : List ℕ) (s : DriverState) → s.progress.fault ≡ None → AreIncomplete verdict n ks → scan_ids t verdict n ks s ≡ record { left = ks; state = s }
  ids-rest verdict n [] s going all = refl
  ids-rest verdict zero (k ∷ ks) s going all = refl
  ids-rest verdict (suc n) (k ∷ ks) s going all =
      (λ i. unless_faulty (going i) (λ u. stays_if (all.0 i) k (scan_ids t verdict (places_after (all.0 i) n) ks (classify_now t k (all.0 i) u))) (k ∷ ks) s)
      ∙ ap (stays k) (ids-rest verdict n ks s going all.1)

  unis-rest : (s : DriverState) → s.progress.fault ≡ None → (t.ready ≡ true → AreIncomplete (λ k. uni_verdict_of (t.contents k) (t.end k)) 4 s.unis) → scan_unis_now t s ≡ s
  unis-rest s going all = by t.ready all
    where
      by : (b : Bool) → (b ≡ true → AreIncomplete (λ k. uni_verdict_of (t.contents k) (t.end k)) 4 s.unis)
          → (if b then (let x = scan_ids t (λ k. uni_verdict_of (t.contents k) (t.end k)) 4 s.unis s in record x.state { unis = x.left }) else s) ≡ s
      by true here = ap (λ (x : Scanned). record x.state { unis = x.left }) (ids-rest (λ k. uni_verdict_of (t.contents k) (t.end k)) 4 s.unis s going (here refl))
      by false here = refl

  bis-rest : (s : DriverState) → s.progress.fault ≡ None → (t.ready ≡ true → AreIncomplete (λ k. bi_verdict_of (t.contents k) (t.end k)) 4 s.bis) → scan_bis_now t s ≡ s
  bis-rest s going all = by t.ready all
    where
      by : (b : Bool) → (b ≡ true → AreIncomplete (λ k. bi_verdict_of (t.contents k) (t.end k)) 4 s.bis)
          → (if b then (let x = scan_ids t (λ k. bi_verdict_of (t.contents k) (t.end k)) 4 s.bis s in record x.state { bis = x.left }) else s) ≡ s
      by true here = ap (λ (x : Scanned). record x.state { bis = x.left }) (ids-rest (λ k. bi_verdict_of (t.contents k) (t.end k)) 4 s.bis s going (here refl))
      by false here = refl

  datagrams-rest : (s : DriverState) → (t.ready ≡ true → drop s.progress.datagrams t.datagrams ≡ []) → take_datagrams_now t s ≡ s
  datagrams-rest s none = by t.ready none
    where
      by : (b : Bool) → (b ≡ true → drop s.progress.datagrams t.datagrams ≡ []) → (if b then take_each_now (drop s.progress.datagrams t.datagrams) s else s) ≡ s
      by true here = ap (λ (pieces : List (List ℕ)). take_each_now pieces s) (here refl)
      by false here = refl

  sessions-rest : (xs : List Session) (s : DriverState) → s.progress.fault ≡ None → AllRun t xs → check_each_now t xs s ≡ s
  sessions-rest [] s going all = refl
  sessions-rest (x ∷ xs) s going all =
      (λ i. unless_ended (going i) (λ u. check_each_now t xs (walked_now t x.id (is_over (session_walk_of (drop x.offset (t.contents x.id)) ends.Running)) (all.0 i) u)) s)
      ∙ sessions-rest xs s going all.1

  qpack-rests : (o : Option (ℕ × ℕ)) (s : DriverState) → QpackRuns t o → on_progress_now (check_qpack t o) s ≡ s
  qpack-rests None s runs = refl
  qpack-rests (Some c) s runs = λ i. on_progress_now (critical_if (not (runs i))) s

  control-notes : (o : Option (ℕ × ℕ)) (s : DriverState) (came : Bool) → ControlGoes t o s.progress.settings came → on_progress_now (check_control t o) s ≡ record s { progress = record s.progress { settings = came } }
  control-notes None s came e = λ i. record s { progress = record s.progress { settings = e i } }
  control-notes (Some c) s came e = λ i. record s { progress = with_fault (e.0 i) (record s.progress { settings = e.1 i }) }

-- ---- the steps in their order

unless-stays : (o : Option ErrorCode) (f : DriverState → DriverState) (s : DriverState) → f s ≡ s → unless_ended o f s ≡ s
unless-stays None f s e = e
unless-stays (Some code) f s e = refl

eight-steps : (a b c d e f g h : DriverState → DriverState) (s z : DriverState) → s.progress.fault ≡ None → a s ≡ s → b s ≡ s → c s ≡ s → d s ≡ s → e s ≡ s → f s ≡ z → g z ≡ z → h z ≡ z
    → in_order_now (a ∷ b ∷ c ∷ d ∷ e ∷ f ∷ g ∷ h ∷ []) s ≡ z
eight-steps a b c d e f g h s z going ra rb rc rd re rf rg rh =
    ap (in_order_now (b ∷ c ∷ d ∷ e ∷ f ∷ g ∷ h ∷ [])) (unless-stays s.progress.fault a s ra)
    ∙ (ap (in_order_now (c ∷ d ∷ e ∷ f ∷ g ∷ h ∷ [])) (unless-stays s.progress.fault b s rb)
    ∙ (ap (in_order_now (d ∷ e ∷ f ∷ g ∷ h ∷ [])) (unless-stays s.progress.fault c s rc)
    ∙ (ap (in_order_now (e ∷ f ∷ g ∷ h ∷ [])) (unless-stays s.progress.fault d s rd)
    ∙ (ap (in_order_now (f ∷ g ∷ h ∷ [])) (unless-stays s.progress.fault e s re)
    ∙ (ap (in_order_now (g ∷ h ∷ [])) ((λ i. unless_ended (going i) f s) ∙ rf)
    ∙ (ap (in_order_now (h ∷ [])) (unless-stays z.progress.fault g z rg)
    ∙ unless-stays z.progress.fault h z rh))))))

-- a moment that finds nothing notes whether SETTINGS came
pub silent-scan : (t : TransportView) (s : DriverState) (came : Bool) → FindsNothing t s came → scan_state t s ≡ noted came s
silent-scan t s came q =
    let z : DriverState = on_progress_now with_no_actions s in
    eight-steps (scan_unis_now t) (scan_bis_now t) (take_datagrams_now t) (λ u. check_each_now t u.sessions u)
    (on_progress_now (critical_if (t.is_stopped (local_uni t.side))))
    (λ u. on_progress_now (check_control t u.dispatched.control) u)
    (λ u. on_progress_now (check_qpack t u.dispatched.encoder) u)
    (λ u. on_progress_now (check_qpack t u.dispatched.decoder) u)
    z (noted came s) q.going
    (unis-rest t z q.going q.unis) (bis-rest t z q.going q.bis) (datagrams-rest t z q.datagrams) (sessions-rest t s.sessions z q.going q.sessions)
    (λ i. on_progress_now (critical_if (q.unstopped i)) z) (control-notes t s.dispatched.control z came q.control)
    (qpack-rests t s.dispatched.encoder (noted came s) q.encoder) (qpack-rests t s.dispatched.decoder (noted came s) q.decoder)

-- and nothing goes out
pub silent-flush : (t : TransportView) (s : DriverState) (came : Bool) → FindsNothing t s came → flush_state t (noted came s) ≡ noted came s
silent-flush t s came q = λ i. state_with_actions t (q.idle i ++ [] ++ close_actions (q.going i)) (noted came s)

-- ---- one byte

module _ (side : Side) (log : Log) (id byte : ℕ) where
  abbrev next : Log
  next = Received id byte ∷ log

  pub byte-view : transport_view side next ≡ with_bytes (transport_view side log) id (contents log id ++ byte ∷ [])
  byte-view = λ i. record (transport_view side log) { contents = λ k. by k (id == k) refl i }
    where
      by : (k : ℕ) (c : Bool) → (id == k) ≡ c → (if c then contents log k ++ byte ∷ [] else contents log k) ≡ (if c then contents log id ++ byte ∷ [] else contents log k)
      by k true e = ap (λ (j : ℕ). contents log j ++ byte ∷ []) (sym (eqb-true id k e))
      by k false e = refl

  pub same-view : (xs : List ℕ) → with_bytes (transport_view side next) id xs ≡ with_bytes (transport_view side log) id xs
  same-view xs = λ i. record (transport_view side log) { contents = λ k. by (id == k) (contents log k) i }
    where
      by : (c : Bool) (ys : List ℕ) → (if c then xs else (if c then ys ++ byte ∷ [] else ys)) ≡ (if c then xs else ys)
      by true ys = refl
      by false ys = refl

  pub more-bytes : (xs : List ℕ) → contents next id ++ xs ≡ contents log id ++ byte ∷ xs
  more-bytes xs = ap (λ (c : Bool). (if c then contents log id ++ byte ∷ [] else contents log id) ++ xs) (eq-eqb id id refl) ∙ append_assoc (contents log id) (byte ∷ []) xs

  -- the moment of an open connection
  pub open-moment : (s : DriverState) → s.is_open ≡ true
      → moment_state (transport_view side log) (transport_view side next) (Received id byte) s ≡ flush_state (transport_view side next) (scan_state (transport_view side next) s)
  open-moment s runs = ap (λ (b : Bool). scan_if b (transport_view side next) s) runs

  pub silent-moment : (s : DriverState) (came : Bool) → s.is_open ≡ true → FindsNothing (transport_view side next) s came
      → moment_state (transport_view side log) (transport_view side next) (Received id byte) s ≡ noted came s
  silent-moment s came runs q =
      open-moment s runs ∙ (ap (flush_state (transport_view side next)) (silent-scan (transport_view side next) s came q) ∙ silent-flush (transport_view side next) s came q)

-- ---- what finds nothing with more bytes doesn't either once it is noted what the first of them said

later-flag : (a s first later : Bool) → (a || s) ≡ later → (a ≡ true → first ≡ true) → (first ≡ true → later ≡ true) → (first || s) ≡ later
later-flag a s true later e up on = sym (on refl)
later-flag true s false later e up on = absurd (let f = up refl in cc)
later-flag false s false later e up on = e

later-same : (a first later : Bool) → a ≡ later → (a ≡ true → first ≡ true) → (first ≡ true → later ≡ true) → first ≡ later
later-same a true later e up on = sym (on refl)
later-same true false later e up on = absurd (let f = up refl in cc)
later-same false false later e up on = e

control-on : (t : TransportView) (o : Option (ℕ × ℕ)) (before first later : Bool) → ControlGoes t o before later → (before ≡ true → first ≡ true) → (first ≡ true → later ≡ true) → ControlGoes t o first later
control-on t None before first later e up on = later-same before first later e up on
control-on t (Some c) before first later e up on = (e.0, later-flag before (is_some (control_walk_of (drop c.1 (t.contents c.0)) (t.end c.0)).settings) first later e.1 up on)

pub noted-finds : (t : TransportView) (s : DriverState) (first later : Bool) → FindsNothing t s later → (s.progress.settings ≡ true → first ≡ true) → (first ≡ true → later ≡ true) → FindsNothing t (noted first s) later
noted-finds t s first later q up on = record {
  unis = q.unis;
  bis = q.bis;
  datagrams = q.datagrams;
  sessions = q.sessions;
  unstopped = q.unstopped;
  control = control-on t s.dispatched.control s.progress.settings first later q.control up on;
  encoder = q.encoder;
  decoder = q.decoder;
  going = q.going;
  idle = q.idle;
}

-- SETTINGS that came before came
pub came-up : (t : TransportView) (o : Option (ℕ × ℕ)) (before came : Bool) → ControlGoes t o before came → before ≡ true → came ≡ true
came-up t None before came e is = sym e ∙ is
came-up t (Some c) before came e is = sym e.1 ∙ ap (λ (b : Bool). b || is_some (control_walk_of (drop c.1 (t.contents c.0)) (t.end c.0)).settings) is

-- ---- one byte after another

-- what is kept after these bytes, which found nothing
abbrev pub after_front : List ℕ → (ℕ → Bool) → DriverState → DriverState
after_front [] came s = s
after_front (byte ∷ front) came s = noted (came (length front)) s

risen : (came : ℕ → Bool) → ((m : ℕ) → came m ≡ true → came (suc m) ≡ true) → (m : ℕ) → came 0 ≡ true → came m ≡ true
risen came rises zero e = e
risen came rises (suc m) e = rises m (risen came rises m e)

pub noted-on : (front : List ℕ) (came : ℕ → Bool) (s z : DriverState) → z ≡ noted (came 0) s → after_front front (λ m. came (suc m)) z ≡ noted (came (length front)) s
noted-on [] came s z e = e
noted-on (byte ∷ front) came s z e = ap (noted (came (suc (length front)))) e

module _ (side : Side) (log : Log) (id byte : ℕ) (front : List ℕ) (s : DriverState) (came : ℕ → Bool) (rises : (m : ℕ) → came m ≡ true → came (suc m) ≡ true)
    (silent : SilentFront (transport_view side log) id (contents log id) (byte ∷ front) s came) where
  -- the first byte finds nothing
  pub first-finds : FindsNothing (transport_view side (Received id byte ∷ log)) s (came 0)
  first-finds = subst (λ (t : TransportView). FindsNothing t s (came 0)) (sym (byte-view side log id byte)) (silent 0 (omega arith))

  -- and neither do those after it, once it is noted what it said
  pub later-find : SilentFront (transport_view side (Received id byte ∷ log)) id (contents (Received id byte ∷ log) id) front (noted (came 0) s) (λ m. came (suc m))
  later-find m le =
      subst (λ (t : TransportView). FindsNothing t (noted (came 0) s) (came (suc m))) (sym (same-view side log id byte (contents (Received id byte ∷ log) id ++ take (suc m) front)))
      (subst (λ (xs : List ℕ). FindsNothing (with_bytes (transport_view side log) id xs) (noted (came 0) s) (came (suc m))) (sym (more-bytes side log id byte (take (suc m) front)))
      (noted-finds (with_bytes (transport_view side log) id (contents log id ++ byte ∷ take (suc m) front)) s (came 0) (came (suc m)) (silent (suc m) (omega arith))
      (came-up (transport_view side (Received id byte ∷ log)) s.dispatched.control s.progress.settings (came 0) first-finds.control) (risen came rises (suc m))))

module _ (side : Side) (id : ℕ) where
  pub silent-front : (front : List ℕ) (log : Log) (s : DriverState) (came : ℕ → Bool) → s.is_open ≡ true → ((m : ℕ) → came m ≡ true → came (suc m) ≡ true)
      → SilentFront (transport_view side log) id (contents log id) front s came → byte_moments side log id front s ≡ after_front front came s
  silent-front [] log s came runs rises silent = refl
  silent-front (byte ∷ front) log s came runs rises silent =
      ap (byte_moments side (Received id byte ∷ log) id front) (silent-moment side log id byte s (came 0) runs (first-finds side log id byte front s came rises silent))
      ∙ (silent-front front (Received id byte ∷ log) (noted (came 0) s) (λ m. came (suc m)) runs (λ m. rises (suc m)) (later-find side log id byte front s came rises silent)
      ∙ noted-on front came s (noted (came 0) s) refl)

  moments-append : (front more : List ℕ) (log : Log) (s : DriverState) → byte_moments side log id (front ++ more) s ≡ byte_moments side (log_bytes log id front) id more (byte_moments side log id front s)
  moments-append [] more log s = refl
  moments-append (byte ∷ front) more log s =
      moments-append front more (Received id byte ∷ log) (moment_state (transport_view side log) (transport_view side (Received id byte ∷ log)) (Received id byte) s)

  -- all moments of a piece come to the moment of its last byte
  pub piece-at-once : (front : List ℕ) (last : ℕ) (log : Log) (s : DriverState) (came : ℕ → Bool) → s.is_open ≡ true → ((m : ℕ) → came m ≡ true → came (suc m) ≡ true)
      → SilentFront (transport_view side log) id (contents log id) front s came
      → byte_moments side log id (front ++ last ∷ []) s
      ≡ moment_state (transport_view side (log_bytes log id front)) (transport_view side (Received id last ∷ log_bytes log id front)) (Received id last) (after_front front came s)
  piece-at-once front last log s came runs rises silent =
      moments-append front (last ∷ []) log s
      ∙ ap (λ (z : DriverState). moment_state (transport_view side (log_bytes log id front)) (transport_view side (Received id last ∷ log_bytes log id front)) (Received id last) z) (silent-front front log s came runs rises silent)
