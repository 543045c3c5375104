-- A moment brings a stream no place that it hadn't: the streams whose headers are read and the sessions only get fewer, and the peer's
-- control stream, once it is there, stays.
use Rattle.std.proofs.Common.{◌∙◌, ◌≡◌, ◌∷◌, Bool, List, None, Option, Some, [], ap, drop, false, refl, subst, suc, sym, true, zero, ℕ}
use Rattle.std.proofs.lemmas.Bool.{or_parts}
use Rattle.std.specs.Option.{option_or}
use Rattle.std.specs.Prelude.{Err, Ok, Result, ◌*◌, ◌==◌, ◌||◌, if◌then◌else◌, not}
use Rattle.wt_follows.proofs.ComesToRest.{filter-in, state-same}
use Rattle.wt_follows.proofs.FlushRests.{flushed}
use Rattle.wt_follows.specs.Pieces.{IsIn}
use Rattle.wt_follows.specs.Roles.{is_at, is_in}
use Rattle.wt_proto.specs.SessionWalk.{is_over, session_walk_of}
use Rattle.wt_message.specs.Datagram.{datagram_of}
use Rattle.wt_proto.specs.Bi.{bi_verdict_of}
use Rattle.wt_proto.specs.Uni.{uni_verdict_of}
use Rattle.wt_proto.specs.declared.session_walk.SessionWalk.{SessionWalk}
use Rattle.wt_proto.specs.declared.session_walk.SessionWalk.TheVariants as walks
use Rattle.wt_proto.specs.declared.verdict.Verdict.{Verdict}
use Rattle.wt_proto.specs.declared.verdict.Verdict.TheVariants as verdicts
use Rattle.wt_turn.specs.Streams.{local_uni}
use Rattle.wt_sessions.specs.DriverState.{DriverState}
use Rattle.wt_sessions.specs.Moment.{flush_state}
use Rattle.wt_sessions.specs.Scan.{check_control, check_qpack, critical_if, is_admitted, places_after, unless_ended, with_no_actions}
use Rattle.wt_sessions.specs.Step.{Scanned, check_each_now, check_session_now, classified_now, classify_now, dispatch, in_order_now, on_progress_now, parsed_now, place_now, scan_bis_now, scan_ids, scan_state, scan_unis_now, stays_if, step_actions, steps_now, take_datagrams_now, take_each_now, unless_faulty, walked_now}
use Rattle.wt_sessions.specs.StreamTable.{Consequence, Dispatched, DriverProgress, Session, TransportView, consequence}
use Rattle.wt_wire.specs.declared.error.ErrorCode.{ErrorCode}
use Rattle.wt_wire.specs.declared.side.StreamEnd.TheVariants as ends

module _ (id : ℕ) where
  -- the stream's header isn't read, nor is it the peer's control stream
  abbrev pub IsAway : DriverState → Type 0
  IsAway s = (is_in id s.unis ≡ false) × (is_in id s.bis ≡ false) × (is_at s.dispatched.control id ≡ false)

  pub record Narrows (s z : DriverState) : Type 0 where
    pub away : IsAway s → IsAway z
    pub kept : (c : ℕ × ℕ) → s.dispatched.control ≡ Some c → z.dispatched.control ≡ Some c
    pub sessions : (y : Session) → IsIn y z.sessions → IsIn y s.sessions

  same-state : (s : DriverState) → Narrows s s
  same-state s = record { away = λ a. a; kept = λ c e. e; sessions = λ y m. m }

  on-progress : (f : DriverProgress → DriverProgress) (s : DriverState) → Narrows s (on_progress_now f s)
  on-progress f s = record { away = λ a. a; kept = λ c e. e; sessions = λ y m. m }

  then-narrows : (s y z : DriverState) → Narrows s y → Narrows y z → Narrows s z
  then-narrows s y z a b = record { away = λ x. b.away (a.away x); kept = λ c e. b.kept c (a.kept c e); sessions = λ x m. a.sessions x (b.sessions x m) }

  -- ---- the headers

  -- the control stream of a table with one more stream
  record ControlNarrows (k : ℕ) (o later : Option (ℕ × ℕ)) : Type 0 where
    pub away : (k == id) ≡ false → is_at o id ≡ false → is_at later id ≡ false
    pub kept : (c : ℕ × ℕ) → o ≡ Some c → later ≡ Some c

  control-same : (k : ℕ) (o : Option (ℕ × ℕ)) → ControlNarrows k o o
  control-same k o = record { away = λ ne e. e; kept = λ c e. e }

  first-control : (k offset : ℕ) (o : Option (ℕ × ℕ)) → ControlNarrows k o (option_or o (Some (k, offset)))
  first-control k offset None = record { away = λ ne e. ne; kept = λ c e. absurd cc }
  first-control k offset (Some x) = record { away = λ ne e. e; kept = λ c e. e }

  dispatched : (k : ℕ) (v : Verdict) (admitted : Bool) (d : Dispatched) → ControlNarrows k d.control (dispatch d (record { id = k; verdict = v; admitted = admitted })).control
  dispatched k verdicts.Incomplete b d = control-same k d.control
  dispatched k (verdicts.Control offset) b d = first-control k offset d.control
  dispatched k (verdicts.Encoder offset) b d = control-same k d.control
  dispatched k (verdicts.Decoder offset) b d = control-same k d.control
  dispatched k (verdicts.WebTransport session offset) true d = control-same k d.control
  dispatched k (verdicts.WebTransport session offset) false d = control-same k d.control
  dispatched k (verdicts.Request headers offset) true d = control-same k d.control
  dispatched k (verdicts.Request headers offset) false d = control-same k d.control
  dispatched k (verdicts.Refused code) b d = control-same k d.control
  dispatched k verdicts.Dropped b d = control-same k d.control
  dispatched k (verdicts.Fault code) b d = control-same k d.control

  -- a stream is classified
  record Classifies (k : ℕ) (s z : DriverState) : Type 0 where
    pub unis : z.unis ≡ s.unis
    pub bis : z.bis ≡ s.bis
    pub sessions : z.sessions ≡ s.sessions
    pub control : ControlNarrows k s.dispatched.control z.dispatched.control

  classified : (k : ℕ) (v : Verdict) (e : Consequence) (s : DriverState) → Classifies k s (classified_now k v e s)
  classified k v e s = record { unis = refl; bis = refl; sessions = refl; control = dispatched k v e.admitted s.dispatched }

  module _ (t : TransportView) where
    classifies : (k : ℕ) (v : Verdict) (s : DriverState) → Classifies k s (classify_now t k v s)
    classifies k verdicts.Incomplete s = record { unis = refl; bis = refl; sessions = refl; control = control-same k s.dispatched.control }
    classifies k (verdicts.Control offset) s = classified k (verdicts.Control offset) (consequence t s.dispatched k (verdicts.Control offset)) s
    classifies k (verdicts.Encoder offset) s = classified k (verdicts.Encoder offset) (consequence t s.dispatched k (verdicts.Encoder offset)) s
    classifies k (verdicts.Decoder offset) s = classified k (verdicts.Decoder offset) (consequence t s.dispatched k (verdicts.Decoder offset)) s
    classifies k (verdicts.WebTransport session offset) s = classified k (verdicts.WebTransport session offset) (consequence t s.dispatched k (verdicts.WebTransport session offset)) s
    classifies k (verdicts.Request headers offset) s = classified k (verdicts.Request headers offset) (consequence t s.dispatched k (verdicts.Request headers offset)) s
    classifies k (verdicts.Refused code) s = classified k (verdicts.Refused code) (consequence t s.dispatched k (verdicts.Refused code)) s
    classifies k verdicts.Dropped s = classified k verdicts.Dropped (consequence t s.dispatched k verdicts.Dropped) s
    classifies k (verdicts.Fault code) s = classified k (verdicts.Fault code) (consequence t s.dispatched k (verdicts.Fault code)) s

    -- a scan over these streams
    record Scans (ks : List ℕ) (s : DriverState) (z : Scanned) : Type 0 where
      pub unis : z.state.unis ≡ s.unis
      pub bis : z.state.bis ≡ s.bis
      pub sessions : z.state.sessions ≡ s.sessions
      pub left : is_in id ks ≡ false → is_in id z.left ≡ false
      pub control : is_in id ks ≡ false → is_at s.dispatched.control id ≡ false → is_at z.state.dispatched.control id ≡ false
      pub kept : (c : ℕ × ℕ) → s.dispatched.control ≡ Some c → z.state.dispatched.control ≡ Some c

    scans-none : (ks : List ℕ) (s : DriverState) → Scans ks s (record { left = ks; state = s })
    scans-none ks s = record { unis = refl; bis = refl; sessions = refl; left = λ e. e; control = λ e f. f; kept = λ c e. e }

    left-away : (v : Verdict) (k : ℕ) (z : Scanned) → (k == id) ≡ false → is_in id z.left ≡ false → is_in id (stays_if v k z).left ≡ false
    left-away verdicts.Incomplete k z ne e = λ i. ne i || e i
    left-away (verdicts.Control offset) k z ne e = e
    left-away (verdicts.Encoder offset) k z ne e = e
    left-away (verdicts.Decoder offset) k z ne e = e
    left-away (verdicts.WebTransport session offset) k z ne e = e
    left-away (verdicts.Request headers offset) k z ne e = e
    left-away (verdicts.Refused code) k z ne e = e
    left-away verdicts.Dropped k z ne e = e
    left-away (verdicts.Fault code) k z ne e = e

    scan-more : (v : Verdict) (k : ℕ) (ks : List ℕ) (s y : DriverState) (z : Scanned) → Classifies k s y → Scans ks y z → Scans (k ∷ ks) s (stays_if v k z)
    scan-more v k ks s y z c r = record {
      unis = ap (λ (x : DriverState). x.unis) (state-same t v k z) ∙ (r.unis ∙ c.unis);
      bis = ap (λ (x : DriverState). x.bis) (state-same t v k z) ∙ (r.bis ∙ c.bis);
      sessions = ap (λ (x : DriverState). x.sessions) (state-same t v k z) ∙ (r.sessions ∙ c.sessions);
      left = λ e. let parts = or_parts (k == id) (is_in id ks) e in left-away v k z parts.0 (r.left parts.1);
      control = λ e f. let parts = or_parts (k == id) (is_in id ks) e in
          ap (λ (x : DriverState). is_at x.dispatched.control id) (state-same t v k z) ∙ r.control parts.1 (c.control.away parts.0 f);
      kept = λ x e. ap (λ (u : DriverState). u.dispatched.control) (state-same t v k z) ∙ r.kept x (c.control.kept x e);
    }

    scans : (verdict : ℕ → Verdict) (n : ℕ) (ks : List ℕ) (s : DriverState) → Scans ks s (scan_ids t verdict n ks s)
    scans verdict n [] s = scans-none [] s
    scans verdict zero (k ∷ ks) s = scans-none (k ∷ ks) s
    scans verdict (suc n) (k ∷ ks) s = by s.progress.fault (scans verdict (places_after (verdict k) n) ks (classify_now t k (verdict k) s))
      where
        by : (o : Option ErrorCode) → Scans ks (classify_now t k (verdict k) s) (scan_ids t verdict (places_after (verdict k) n) ks (classify_now t k (verdict k) s))
            → Scans (k ∷ ks) s (unless_faulty o (λ u. stays_if (verdict k) k (scan_ids t verdict (places_after (verdict k) n) ks (classify_now t k (verdict k) u))) (k ∷ ks) s)
        by (Some code) r = scans-none (k ∷ ks) s
        by None r = scan-more (verdict k) k ks s (classify_now t k (verdict k) s) (scan_ids t verdict (places_after (verdict k) n) ks (classify_now t k (verdict k) s)) (classifies k (verdict k) s) r

    unis-narrow : (s : DriverState) → Narrows s (scan_unis_now t s)
    unis-narrow s = by t.ready
      where
        r : Scans s.unis s (scan_ids t (λ k. uni_verdict_of (t.contents k) (t.end k)) 4 s.unis s)
        r = scans (λ k. uni_verdict_of (t.contents k) (t.end k)) 4 s.unis s

        by : (b : Bool) → Narrows s (if b then (let x = scan_ids t (λ k. uni_verdict_of (t.contents k) (t.end k)) 4 s.unis s in record x.state { unis = x.left }) else s)
        by false = same-state s
        by true = record { away = λ a. (r.left a.0, ap (is_in id) r.bis ∙ a.1, r.control a.0 a.2); kept = r.kept; sessions = λ y m. subst (IsIn y) r.sessions m }

    bis-narrow : (s : DriverState) → Narrows s (scan_bis_now t s)
    bis-narrow s = by t.ready
      where
        r : Scans s.bis s (scan_ids t (λ k. bi_verdict_of (t.contents k) (t.end k)) 4 s.bis s)
        r = scans (λ k. bi_verdict_of (t.contents k) (t.end k)) 4 s.bis s

        by : (b : Bool) → Narrows s (if b then (let x = scan_ids t (λ k. bi_verdict_of (t.contents k) (t.end k)) 4 s.bis s in record x.state { bis = x.left }) else s)
        by false = same-state s
        by true = record { away = λ a. (ap (is_in id) r.unis ∙ a.0, r.left a.1, r.control a.1 a.2); kept = r.kept; sessions = λ y m. subst (IsIn y) r.sessions m }

    -- ---- the datagrams

    place-narrows : (b : Bool) (session : ℕ) (payload : List ℕ) (s : DriverState) → Narrows s (place_now b session payload s)
    place-narrows true session payload s = record { away = λ a. a; kept = λ c e. e; sessions = λ y m. m }
    place-narrows false session payload s = record { away = λ a. a; kept = λ c e. e; sessions = λ y m. m }

    parse-narrows : (r : Result (ℕ × List ℕ) ErrorCode) (s : DriverState) → Narrows s (parsed_now r s)
    parse-narrows (Ok d) s = place-narrows (is_admitted s.dispatched (4 * d.0)) (4 * d.0) d.1 s
    parse-narrows (Err code) s = record { away = λ a. a; kept = λ c e. e; sessions = λ y m. m }

    takes-narrow : (pieces : List (List ℕ)) (s : DriverState) → Narrows s (take_each_now pieces s)
    takes-narrow [] s = same-state s
    takes-narrow (piece ∷ later) s = by s.progress.fault (takes-narrow later (parsed_now (datagram_of piece) s))
      where
        by : (o : Option ErrorCode) → Narrows (parsed_now (datagram_of piece) s) (take_each_now later (parsed_now (datagram_of piece) s)) → Narrows s (unless_ended o (λ u. take_each_now later (parsed_now (datagram_of piece) u)) s)
        by (Some code) r = same-state s
        by None r = then-narrows s (parsed_now (datagram_of piece) s) (take_each_now later (parsed_now (datagram_of piece) s)) (parse-narrows (datagram_of piece) s) r

    datagrams-narrow : (s : DriverState) → Narrows s (take_datagrams_now t s)
    datagrams-narrow s = by t.ready
      where
        by : (b : Bool) → Narrows s (if b then take_each_now (drop s.progress.datagrams t.datagrams) s else s)
        by true = takes-narrow (drop s.progress.datagrams t.datagrams) s
        by false = same-state s

    -- ---- the sessions

    walk-narrows : (k : ℕ) (capsule : Bool) (w : SessionWalk) (s : DriverState) → Narrows s (walked_now t k capsule w s)
    walk-narrows k capsule walks.Running s = same-state s
    walk-narrows k capsule (walks.Closed code reason) s = record { away = λ a. a; kept = λ c e. e; sessions = λ y m. (filter-in t (λ (z : Session). not (k == z.id)) y s.sessions m).0 }
    walk-narrows k capsule (walks.Fault code) s = record { away = λ a. a; kept = λ c e. e; sessions = λ y m. m }

    checks-narrow : (xs : List Session) (s : DriverState) → Narrows s (check_each_now t xs s)
    checks-narrow [] s = same-state s
    checks-narrow (x ∷ later) s = by s.progress.fault (checks-narrow later next)
      where
        next : DriverState
        next = check_session_now t x.id (drop x.offset (t.contents x.id)) (t.end x.id) s

        by : (o : Option ErrorCode) → Narrows next (check_each_now t later next) → Narrows s (unless_ended o (λ u. check_each_now t later (check_session_now t x.id (drop x.offset (t.contents x.id)) (t.end x.id) u)) s)
        by (Some code) r = same-state s
        by None r =
            then-narrows s next (check_each_now t later next)
            (walk-narrows x.id (is_over (session_walk_of (drop x.offset (t.contents x.id)) ends.Running)) (session_walk_of (drop x.offset (t.contents x.id)) (t.end x.id)) s) r

    -- ---- all steps

    abbrev AllNarrow : List (DriverState → DriverState) → Type 0
    AllNarrow [] = Unit {0}
    AllNarrow (f ∷ fs) = ((s : DriverState) → Narrows s (f s)) × AllNarrow fs

    order-narrows : (fs : List (DriverState → DriverState)) (s : DriverState) → AllNarrow fs → Narrows s (in_order_now fs s)
    order-narrows [] s all = same-state s
    order-narrows (f ∷ fs) s all = then-narrows s (unless_ended s.progress.fault f s) (in_order_now fs (unless_ended s.progress.fault f s)) (by s.progress.fault) (order-narrows fs (unless_ended s.progress.fault f s) all.1)
      where
        by : (o : Option ErrorCode) → Narrows s (unless_ended o f s)
        by None = all.0 s
        by (Some code) = same-state s

    scan-narrows : (s : DriverState) → Narrows s (scan_state t s)
    scan-narrows s =
        then-narrows s (on_progress_now with_no_actions s) (scan_state t s) (on-progress with_no_actions s)
        (order-narrows (steps_now t) (on_progress_now with_no_actions s) (
          unis-narrow,
          (
            bis-narrow,
            (
              datagrams-narrow,
              (
                (λ u. checks-narrow u.sessions u),
                (
                  (λ u. on-progress (critical_if (t.is_stopped (local_uni t.side))) u),
                  ((λ u. on-progress (check_control t u.dispatched.control) u), ((λ u. on-progress (check_qpack t u.dispatched.encoder) u), ((λ u. on-progress (check_qpack t u.dispatched.decoder) u), tt))),
                ),
              ),
            ),
          ),
        ))

    -- a whole moment
    pub moment-narrows : (s : DriverState) → Narrows s (flush_state t (scan_state t s))
    moment-narrows s =
        let z : DriverState = scan_state t s in
        let r : Narrows s z = scan-narrows s in
        subst (Narrows s) (sym (flushed t (step_actions t z) z)) (record { away = r.away; kept = r.kept; sessions = r.sessions })
