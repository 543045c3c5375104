-- What goes out at a moment leaves this end's control stream idle: so a second moment finds nothing, and nothing goes out at it.
use Rattle.std.proofs.Common.{◌∙◌, ◌≡◌, ◌≤◌, ◌+◌, ◌++◌, ◌∷◌, Bool, List, None, Option, Some, [], add-zero, ap, arith, drop, false, length, refl, subst, suc, sym, take, true, zero, ℕ}
use Rattle.std.proofs.lemmas.Bool.{eq-eqb}
use Rattle.std.proofs.lemmas.List.{append-nil, length-drop}
use Rattle.std.specs.Prelude.{◌%◌, ◌*◌, ◌&&◌, ◌==◌, ◌||◌, Err, Ok, Result, flat_map, if◌then◌else◌, map, nat_lt, not}
use Rattle.wt_message.specs.FixedBytes.{local_control_bytes}
use Rattle.wt_meaning.specs.Sends.{action_if}
use Rattle.wt_proto.specs.SessionWalk.{is_over, session_walk_of}
use Rattle.wt_message.specs.Datagram.{datagram_of}
use Rattle.wt_proto.specs.ControlWalk.{control_walk_of}
use Rattle.wt_proto.specs.Bi.{bi_verdict_of}
use Rattle.wt_proto.specs.Uni.{uni_verdict_of}
use Rattle.wt_proto.specs.declared.session_walk.SessionWalk.{SessionWalk}
use Rattle.wt_proto.specs.declared.session_walk.SessionWalk.TheVariants as walks
use Rattle.wt_proto.specs.declared.verdict.Verdict.{Verdict}
use Rattle.wt_proto.specs.declared.verdict.Verdict.TheVariants as verdicts
use Rattle.wt_turn.specs.Joined.{send_of}
use Rattle.wt_turn.specs.Streams.{local_uni}
use Rattle.wt_sessions.specs.Driver.{ControlSent, close_actions, control_actions}
use Rattle.wt_sessions.specs.DriverState.{DriverState}
use Rattle.wt_sessions.specs.Moment.{flush_state, state_with_actions}
use Rattle.wt_sessions.specs.Scan.{check_control, check_qpack, critical_if, is_admitted, places_after, session_end, unless_ended, with_fault, with_more, with_no_actions}
use Rattle.wt_sessions.specs.Step.{after_entry, check_each_now, classified_now, classify_now, control_after, in_order_now, on_progress_now, parsed_now, place_now, scan_ids, scan_state, stays_if, step_actions, steps_now, take_each_now, unless_faulty, walked_now}
use Rattle.wt_sessions.specs.StreamTable.{Dispatched, DriverProgress, Session, TransportView, Waiting, admit_or_stop, admitting, consequence, gone_actions, has_room, only_once, stopping, stream_ends, streams_of}
use Rattle.wt_follows.proofs.ComesToRest.{Goes, state-same}
use Rattle.wt_follows.proofs.MomentRests.{all-taken, rests-eight}
use Rattle.wt_follows.specs.Pieces.{FindsNothing}
use Rattle.wt_turn.specs.Log.{Sent, ends_by}
use Rattle.wt_turn.specs.declared.action.Action.{Action}
use Rattle.wt_turn.specs.declared.action.Action.TheVariants as actions
use Rattle.wt_wire.specs.declared.error.ErrorCode.{ErrorCode}
use Rattle.wt_wire.specs.declared.error.ErrorCode.TheVariants.{RequestRejected}
use Rattle.wt_wire.specs.declared.side.Side.{Side}
use Rattle.wt_wire.specs.declared.side.Side.TheVariants.{Client, Server}
use Rattle.wt_wire.specs.declared.side.StreamEnd.TheVariants as ends

module _ (id : ℕ) where
  -- the action neither opens this end's control stream nor sends on it
  abbrev pub IsMute : Action → Type 0
  IsMute a = (cs : ControlSent) → control_after id a cs ≡ cs

  abbrev pub AllMute : List Action → Type 0
  AllMute [] = Unit {0}
  AllMute (a ∷ later) = IsMute a × AllMute later

  -- how far the stream is after these
  abbrev pub sent_after : List Action → ControlSent → ControlSent
  sent_after [] cs = cs
  sent_after (a ∷ later) cs = sent_after later (control_after id a cs)

  sent-append : (xs ys : List Action) (cs : ControlSent) → sent_after (xs ++ ys) cs ≡ sent_after ys (sent_after xs cs)
  sent-append [] ys cs = refl
  sent-append (a ∷ xs) ys cs = sent-append xs ys (control_after id a cs)

  sent-mute : (xs : List Action) (cs : ControlSent) → AllMute xs → sent_after xs cs ≡ cs
  sent-mute [] cs all = refl
  sent-mute (a ∷ xs) cs all = ap (sent_after xs) (all.0 cs) ∙ sent-mute xs cs all.1

  mute-append : (xs ys : List Action) → AllMute xs → AllMute ys → AllMute (xs ++ ys)
  mute-append [] ys a b = b
  mute-append (x ∷ xs) ys a b = (a.0, mute-append xs ys a.1 b)

  mute-if : (b : Bool) (a : Action) → IsMute a → AllMute (action_if b a)
  mute-if true a m = (m, tt)
  mute-if false a m = tt

  -- one that concerns the peer's half, or ends this end's
  silent : (cs : ControlSent) → record { opened = cs.opened; sent = cs.sent + 0 } ≡ cs
  silent cs = λ i. record { opened = cs.opened; sent = add-zero cs.sent i }

  module _ (t : TransportView) where
    ends-mute : (ks : List ℕ) → AllMute (flat_map (stream_ends t) ks)
    ends-mute [] = tt
    ends-mute (k ∷ ks) =
        mute-append (stream_ends t k) (flat_map (stream_ends t) ks)
        (mute-append (action_if (t.still_receives k) _) (action_if (t.still_sends k) _) (mute-if (t.still_receives k) _ silent) (mute-if (t.still_sends k) _ silent))
        (ends-mute ks)

    gone-mute : (d : Dispatched) (k : ℕ) → AllMute (gone_actions t d k)
    gone-mute d k = ends-mute (streams_of d k)

    once-mute : (o : Option (ℕ × ℕ)) → AllMute (only_once o).actions
    once-mute None = tt
    once-mute (Some c) = tt

    admit-mute : (gone room : Bool) (k : ℕ) → AllMute (admit_or_stop gone room k).actions
    admit-mute true room k = (silent, tt)
    admit-mute false true k = tt
    admit-mute false false k = (silent, tt)

    consequence-mute : (d : Dispatched) (k : ℕ) (v : Verdict) → AllMute (consequence t d k v).actions
    consequence-mute d k verdicts.Incomplete = tt
    consequence-mute d k (verdicts.Control offset) = once-mute d.control
    consequence-mute d k (verdicts.Encoder offset) = once-mute d.encoder
    consequence-mute d k (verdicts.Decoder offset) = once-mute d.decoder
    consequence-mute d k (verdicts.WebTransport session offset) = admit-mute (d.is_gone session) (has_room d session (map (λ (w : Waiting). w.session) d.streams)) k
    consequence-mute d k (verdicts.Refused code) = (silent, gone-mute d k)
    consequence-mute d k (verdicts.Request headers offset) = by (nat_lt (length d.held) 4)
      where
        by : (b : Bool) → AllMute (if b then admitting else stopping k RequestRejected (gone_actions t d k)).actions
        by true = tt
        by false = (silent, gone-mute d k)
    consequence-mute d k verdicts.Dropped = tt
    consequence-mute d k (verdicts.Fault code) = tt

    -- what a driver sends at the moment is mute
    abbrev Mute : DriverState → Type 0
    Mute s = AllMute s.progress.actions

    fault-mute : (o : Option ErrorCode) (p : DriverProgress) → AllMute p.actions → AllMute (with_fault o p).actions
    fault-mute None p m = m
    fault-mute (Some code) p m = m

    classified-mute : (k : ℕ) (v : Verdict) (s : DriverState) → Mute s → Mute (classified_now k v (consequence t s.dispatched k v) s)
    classified-mute k v s m =
        fault-mute (consequence t s.dispatched k v).fault (with_more (consequence t s.dispatched k v).actions s.progress)
        (mute-append s.progress.actions (consequence t s.dispatched k v).actions m (consequence-mute s.dispatched k v))

    classify-mute : (k : ℕ) (v : Verdict) (s : DriverState) → Mute s → Mute (classify_now t k v s)
    classify-mute k verdicts.Incomplete s m = m
    classify-mute k (verdicts.Control offset) s m = classified-mute k (verdicts.Control offset) s m
    classify-mute k (verdicts.Encoder offset) s m = classified-mute k (verdicts.Encoder offset) s m
    classify-mute k (verdicts.Decoder offset) s m = classified-mute k (verdicts.Decoder offset) s m
    classify-mute k (verdicts.WebTransport session offset) s m = classified-mute k (verdicts.WebTransport session offset) s m
    classify-mute k (verdicts.Request headers offset) s m = classified-mute k (verdicts.Request headers offset) s m
    classify-mute k (verdicts.Refused code) s m = classified-mute k (verdicts.Refused code) s m
    classify-mute k verdicts.Dropped s m = classified-mute k verdicts.Dropped s m
    classify-mute k (verdicts.Fault code) s m = classified-mute k (verdicts.Fault code) s m

    scan-mute : (verdict : ℕ → Verdict) (n : ℕ) (ks : List ℕ) (s : DriverState) → Mute s → Mute (scan_ids t verdict n ks s).state
    scan-mute verdict n [] s m = m
    scan-mute verdict zero (k ∷ ks) s m = m
    scan-mute verdict (suc n) (k ∷ ks) s m = by s.progress.fault (λ j. scan-mute verdict j ks (classify_now t k (verdict k) s) (classify-mute k (verdict k) s m))
      where
        by : (o : Option ErrorCode) → ((j : ℕ) → Mute (scan_ids t verdict j ks (classify_now t k (verdict k) s)).state)
            → Mute (unless_faulty o (λ u. stays_if (verdict k) k (scan_ids t verdict (places_after (verdict k) n) ks (classify_now t k (verdict k) u))) (k ∷ ks) s).state
        by (Some code) again = m
        by None again =
            subst Mute (sym (state-same t (verdict k) k (scan_ids t verdict (places_after (verdict k) n) ks (classify_now t k (verdict k) s)))) (again (places_after (verdict k) n))

    parsed-mute : (r : Result (ℕ × List ℕ) ErrorCode) (s : DriverState) → Mute s → Mute (parsed_now r s)
    parsed-mute (Ok d) s m = by (is_admitted s.dispatched (4 * d.0))
      where
        by : (b : Bool) → Mute (place_now b (4 * d.0) d.1 s)
        by true = m
        by false = m
    parsed-mute (Err code) s m = m

    take-mute : (pieces : List (List ℕ)) (s : DriverState) → Mute s → Mute (take_each_now pieces s)
    take-mute [] s m = m
    take-mute (piece ∷ later) s m = by s.progress.fault (take-mute later (parsed_now (datagram_of piece) s) (parsed-mute (datagram_of piece) s m))
      where
        by : (o : Option ErrorCode) → Mute (take_each_now later (parsed_now (datagram_of piece) s)) → Mute (unless_ended o (λ u. take_each_now later (parsed_now (datagram_of piece) u)) s)
        by (Some code) again = m
        by None again = again

    session-mute : (k : ℕ) (by_capsule : Bool) → AllMute (session_end t k by_capsule)
    session-mute k true = (silent, tt)
    session-mute k false = mute-if (not (t.is_stopped k)) (actions.Finish k) silent

    walked-mute : (k : ℕ) (by_capsule : Bool) (w : SessionWalk) (s : DriverState) → Mute s → Mute (walked_now t k by_capsule w s)
    walked-mute k by_capsule walks.Running s m = m
    walked-mute k by_capsule (walks.Closed code reason) s m =
        mute-append s.progress.actions (session_end t k by_capsule ++ gone_actions t s.dispatched k) m (mute-append (session_end t k by_capsule) (gone_actions t s.dispatched k) (session-mute k by_capsule) (gone-mute s.dispatched k))
    walked-mute k by_capsule (walks.Fault code) s m = m

    check-mute : (xs : List Session) (s : DriverState) → Mute s → Mute (check_each_now t xs s)
    check-mute [] s m = m
    check-mute (x ∷ xs) s m = by s.progress.fault (check-mute xs next (walked-mute x.id capsule walk s m))
      where
        capsule : Bool
        capsule = is_over (session_walk_of (drop x.offset (t.contents x.id)) ends.Running)

        walk : SessionWalk
        walk = session_walk_of (drop x.offset (t.contents x.id)) (t.end x.id)

        next : DriverState
        next = walked_now t x.id capsule walk s

        by : (o : Option ErrorCode) → Mute (check_each_now t xs next) → Mute (unless_ended o (λ u. check_each_now t xs (walked_now t x.id capsule walk u)) s)
        by (Some code) again = m
        by None again = again

    if-mute : (b : Bool) (x y : DriverState) → Mute x → Mute y → Mute (if b then x else y)
    if-mute true x y a c = a
    if-mute false x y a c = c

    critical-mute : (b : Bool) (p : DriverProgress) → AllMute p.actions → AllMute (critical_if b p).actions
    critical-mute true p m = m
    critical-mute false p m = m

    control-mute : (o : Option (ℕ × ℕ)) (p : DriverProgress) → AllMute p.actions → AllMute (check_control t o p).actions
    control-mute None p m = m
    control-mute (Some c) p m = fault-mute (control_walk_of (drop c.1 (t.contents c.0)) (t.end c.0)).fault _ m

    qpack-mute : (o : Option (ℕ × ℕ)) (p : DriverProgress) → AllMute p.actions → AllMute (check_qpack t o p).actions
    qpack-mute None p m = m
    qpack-mute (Some c) p m = critical-mute _ p m

    abbrev AllKeepMute : List (DriverState → DriverState) → Type 0
    AllKeepMute [] = Unit {0}
    AllKeepMute (f ∷ fs) = ((s : DriverState) → Mute s → Mute (f s)) × AllKeepMute fs

    order-mute : (fs : List (DriverState → DriverState)) (s : DriverState) → AllKeepMute fs → Mute s → Mute (in_order_now fs s)
    order-mute [] s all m = m
    order-mute (f ∷ fs) s all m = order-mute fs (unless_ended s.progress.fault f s) all.1 (by s.progress.fault)
      where
        by : (o : Option ErrorCode) → Mute (unless_ended o f s)
        by None = all.0 s m
        by (Some code) = m

    pub moment-mute : (s : DriverState) → Mute (scan_state t s)
    moment-mute s =
        order-mute (steps_now t) (on_progress_now with_no_actions s) (
          (λ u m. if-mute t.ready _ u (scan-mute (λ k. uni_verdict_of (t.contents k) (t.end k)) 4 u.unis u m) m),
          (
            (λ u m. if-mute t.ready _ u (scan-mute (λ k. bi_verdict_of (t.contents k) (t.end k)) 4 u.bis u m) m),
            (
              (λ u m. if-mute t.ready _ u (take-mute (drop u.progress.datagrams t.datagrams) u m) m),
              (
                (λ u m. check-mute u.sessions u m),
                (
                  (λ u m. critical-mute (t.is_stopped (local_uni t.side)) u.progress m),
                  ((λ u m. control-mute u.dispatched.control u.progress m), ((λ u m. qpack-mute u.dispatched.encoder u.progress m), ((λ u m. qpack-mute u.dispatched.decoder u.progress m), tt))),
                ),
              ),
            ),
          ),
        ) tt

-- ---- this end's control stream

past : {X : Type 0} (m : ℕ) (ys : List X) → length ys ≤ m → drop m ys ≡ []
past zero [] le = refl
past (suc m) [] le = refl
past zero (y ∷ ys) le = absurd (omega arith)
past (suc m) (y ∷ ys) le = past m ys (omega arith)

-- once all that credit allows went out nothing more goes out
done : (id credit n m : ℕ) → m ≡ n + length (drop n (take credit local_control_bytes)) → control_actions true id credit (record { opened = true; sent = m }) ≡ []
done id credit n m e =
    let l = length-drop n (take credit local_control_bytes) in
    ap (send_of id) (past m (take credit local_control_bytes) (omega (arith, l, e)))

sending : (id : ℕ) (xs : List ℕ) (opened : Bool) (n : ℕ) → sent_after id (send_of id xs) (record { opened = opened; sent = n }) ≡ record { opened = opened; sent = n + length xs }
sending id [] opened n = λ i. record { opened = opened; sent = sym (add-zero n) i }
sending id (x ∷ xs) opened n = λ i. record { opened = opened; sent = n + (if eq-eqb id id refl i then suc (length xs) else 0) }

idle-by : (id credit n : ℕ) (opened may : Bool) → (id % 4 == id) ≡ true
    → control_actions may id credit (sent_after id (control_actions may id credit (record { opened = opened; sent = n })) (record { opened = opened; sent = n })) ≡ []
idle-by id credit n opened false is = refl
idle-by id credit n true true is =
    ap (control_actions true id credit) (sending id (drop n (take credit local_control_bytes)) true n) ∙ done id credit n (n + length (drop n (take credit local_control_bytes))) refl
idle-by id credit n false true is =
    let first : control_after id (actions.Opened id) (record { opened = false; sent = n }) ≡ record { opened = true; sent = n } = λ i. record { opened = is i || false; sent = add-zero n i } in
    ap (control_actions true id credit)
    (ap (λ (cs : ControlSent). sent_after id (send_of id (drop n (take credit local_control_bytes))) cs) first ∙ sending id (drop n (take credit local_control_bytes)) true n)
    ∙ done id credit n (n + length (drop n (take credit local_control_bytes))) refl

own-kind : (side : Side) → (local_uni side % 4 == local_uni side) ≡ true
own-kind Client = refl
own-kind Server = refl

-- ---- what went out

abbrev pub open_after : List Action → Bool → Bool
open_after [] o = o
open_after (a ∷ later) o = open_after later (not (ends_by (Sent a)) && o)

pub flushed : (t : TransportView) (xs : List Action) (z : DriverState) → state_with_actions t xs z ≡ record z { control_sent = sent_after (local_uni t.side) xs z.control_sent; is_open = open_after xs z.is_open }
flushed t [] z = refl
flushed t (a ∷ xs) z = flushed t xs (after_entry t (Sent a) z)

-- A moment that ends without a fault leaves nothing to find, once what goes out at it is out.
pub moment-rests : (t : TransportView) (s : DriverState) → Goes (scan_state t s) → FindsNothing t (flush_state t (scan_state t s)) (flush_state t (scan_state t s)).progress.settings
moment-rests t s g =
    let z : DriverState = scan_state t s in
    let id : ℕ = local_uni t.side in
    let own : List Action = control_actions t.may_open id t.credit z.control_sent in
    let sent : ControlSent = sent_after id (step_actions t z) z.control_sent in
    let ends_so : step_actions t z ≡ own ++ z.progress.actions =
    (λ i. own ++ z.progress.actions ++ close_actions (g i)) ∙ append-nil (own ++ z.progress.actions) in
    let sent_is : sent ≡ sent_after id own z.control_sent =
    ap (λ (xs : List Action). sent_after id xs z.control_sent) ends_so ∙ (sent-append id own z.progress.actions z.control_sent ∙ sent-mute id z.progress.actions (sent_after id own z.control_sent) (moment-mute id t s)) in
    let idle : control_actions t.may_open id t.credit sent ≡ [] = ap (control_actions t.may_open id t.credit) sent_is ∙ idle-by id t.credit z.control_sent.sent z.control_sent.opened t.may_open (own-kind t.side) in
    subst (λ (u : DriverState). FindsNothing t u u.progress.settings)
    (sym (flushed t (step_actions t z) z ∙ (λ i. record (all-taken t s g i) { control_sent = sent; is_open = open_after (step_actions t z) z.is_open })))
    (rests-eight t s g sent (open_after (step_actions t z) z.is_open) idle)
