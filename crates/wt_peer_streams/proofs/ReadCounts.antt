-- The steps of what reads on behind headers, against what may still come: sessions' streams and the control stream.
use Rattle.std.proofs.Common.{◌%◌, ◌*◌, ◌+◌, ◌-◌, ◌≡◌, ◌≤◌, ◌<◌, ◌∙◌, [], Bool, None, Option, Some, ap, arith, false, length, refl, subst, suc, sym, true, ℕ}
use Rattle.std.specs.Prelude.{◌&&◌, ◌==◌, ◌^◌, if◌then◌else◌, is_some, nat_lt, not}
use Rattle.wt_kept.specs.Arriving.{arrived_count, peer_kind}
use Rattle.wt_kept.specs.Classifying.{with_sessions}
use Rattle.wt_kept.specs.Counting.{CountsControl, CountsLive, reads_left, scan_most, stopped_within, unless_failed, unread_pieces, waiting_pieces}
use Rattle.wt_kept.specs.Ending.{finish_running, give_up_now, retire_now}
use Rattle.wt_kept.specs.Kept.{ArrivingNow, Closed, CriticalNow, DispatchedNow, LiveNow, SessionEndNow, SessionsNow, WorkNow}
use Rattle.wt_kept.specs.Looking.{after_walk, close_by_peer, is_closed_by_capsule, read_session, read_session_by, with_session_reader}
use Rattle.wt_kept.specs.Readers.{ControlReading, ReadOn, Slot, control_rules, read_on, session_rules}
use Rattle.wt_kept.specs.Windows.{live_in}
use Rattle.wt_proto.specs.SessionWalk.{is_over}
use Rattle.wt_transport.specs.Running.{peer_stream_now, reset_running_now}
use Rattle.wt_transport.specs.State.{TransportState}
use Rattle.wt_transport.specs.Step.{after_give_up, can_receive_now, count_now, unread_now}
use Rattle.wt_transport.specs.StreamState.{give_up, has_stream, piece_count, stream_at}
use Rattle.wt_transport.specs.Accepting.{stream_after}
use Rattle.wt_transport.specs.Kind as kinds
use Rattle.wt_peer_streams.proofs.Counts.{failed-fewer, slots-push, within-piece}
use Rattle.wt_peer_streams.proofs.Losing.{Loses, before-own-loses, before_own, changed-count, finish-running-loses, give-up-loses, read-loses, reset-running-loses}
use Rattle.wt_peer_streams.proofs.ScanSoFar.{below-both, kind-same}
use Rattle.wt_peer_streams.specs.Critical.{ControlReadNow, read_control_at}
use Rattle.wt_peer_streams.specs.Living.{LiveRead, after_news, live_read, news_by, news_of_reader}
use Rattle.wt_peer_streams.specs.declared.live.News.{News}
use Rattle.wt_peer_streams.specs.Scanning.{TakenIn, taken_in, takes_next_now}
use Rattle.wt_proto.specs.declared.session_walk.SessionWalk.{SessionWalk}
use Rattle.wt_proto.specs.declared.session_walk.SessionWalk.TheVariants as walks
use Rattle.wt_turn.specs.Streams.{local_uni}
use Rattle.wt_wire.specs.Codes.{code_of}
use Rattle.wt_wire.specs.declared.error.ErrorCode.{ErrorCode}
use Rattle.wt_wire.specs.declared.error.ErrorCode.TheVariants as h3
use Rattle.wt_wire.specs.declared.side.Side.{Side}
use Rattle.wt_wire.specs.declared.side.Side.TheVariants.{Client, Server}

-- ---- a stream that is given up

-- a stream has no more pieces than all have
pub pieces-within : (t : TransportState) (id : ℕ) → unread_pieces t id ≤ piece_count t.streams
pieces-within t id = by (has_stream t.streams id) refl
  where
    by : (b : Bool) → has_stream t.streams id ≡ b → unread_pieces t id ≤ piece_count t.streams
    by true has =
        let a = changed-count t id give_up has in
        let e : unread_pieces t id ≡ length (stream_at t.streams id).unread = λ i. length (if has i then (stream_at t.streams id).unread else []) in
        omega (arith, a, e)
    by false none = let e : unread_pieces t id ≡ 0 = (λ i. length (if none i then (stream_at t.streams id).unread else [])) in omega (arith, e)

-- a session's own stream is none of this end's unidirectional ones
not-own : (side : Side) (s : ℕ) → (s % 4) ≡ 0 → (local_uni side == s % 4) ≡ false
not-own Client s e = ap (λ n. local_uni Client == n) e
not-own Server s e = ap (λ n. local_uni Server == n) e

given-up : (t : TransportState) (s : ℕ) → (s % 4) ≡ 0 → piece_count (give_up_now t s).streams + unread_pieces t s ≤ piece_count t.streams
given-up t s session = by (has_stream t.streams s) refl
  where
    by : (b : Bool) → has_stream t.streams s ≡ b → piece_count (give_up_now t s).streams + unread_pieces t s ≤ piece_count t.streams
    by true has =
        let can : can_receive_now t s ≡ true = λ i. has i && not (not-own t.side s session i) in
        let a = changed-count t s give_up has in
        let e : unread_pieces t s ≡ length (stream_at t.streams s).unread = λ i. length (if has i then (stream_at t.streams s).unread else []) in
        let z = ap (λ c. piece_count (if c then after_give_up t s else t).streams) can in
        omega (arith, a, e, z)
    by false none =
        let a = give-up-loses t s in
        let x = a.lost s in
        let y = a.fewer s in
        let e : unread_pieces t s ≡ 0 = (λ i. length (if none i then (stream_at t.streams s).unread else [])) in
        omega (arith, x, y, e)

-- a session that becomes gone leaves nothing unread on its own stream
own-gone : (s : ℕ) (end : SessionEndNow) (w : WorkNow) → (s % 4) ≡ 0 → piece_count (retire_now s end w).transport.streams + unread_pieces w.transport s ≤ piece_count w.transport.streams
own-gone s end w session =
    let a = given-up (before_own s w) s session in
    let b = before-own-loses s w in
    let x = b.lost s in
    omega (arith, a, x)

closed-gone : (by_capsule : Bool) (s : ℕ) (end : SessionEndNow) (w : WorkNow) → (s % 4) ≡ 0 → piece_count (close_by_peer by_capsule s end w).transport.streams + unread_pieces w.transport s ≤ piece_count w.transport.streams
closed-gone true s end w session =
    let u = reset_running_now w.transport s (code_of h3.NoError) in
    let a = own-gone s end (record w { transport = u }) session in
    let l = reset-running-loses w.transport s (code_of h3.NoError) in
    let x = l.lost s in
    omega (arith, a, x)
closed-gone false s end w session =
    let u = finish_running w.transport s in
    let a = own-gone s end (record w { transport = u }) session in
    let l = finish-running-loses w.transport s in
    let x = l.lost s in
    omega (arith, a, x)

-- ---- where no fault is there

pub none-failed : (o : Option ErrorCode) (n : ℕ) → is_some o ≡ false → unless_failed o n ≡ n
none-failed None n e = refl
none-failed (Some code) n e = absurd (cc)

-- ---- a session's stream

module _ (s : ℕ) (session : (s % 4) ≡ 0) (t u : TransportState) (l : Loses t u) (before after : ℕ) where
  -- what its walk leads to, once its reader read on
  walked : (walk : SessionWalk) (by_capsule : Bool) (w : WorkNow) → w.transport ≡ u → after + unread_pieces u s ≤ before + unread_pieces t s + stopped_within (is_over walk) (unread_now u s)
      → after + reads_left (after_walk s by_capsule walk w) ≤ before + piece_count t.streams
  walked walks.Running by_capsule w is counts =
      let lost = l.lost s in
      let fault = failed-fewer w.dispatched.fault (piece_count w.transport.streams) in
      let same = ap (λ (v : TransportState). piece_count v.streams) is in
      omega (arith, counts, lost, fault, same)
  walked (walks.Closed code reason) by_capsule w is counts =
      let within = within-piece u s true in
      let lost = l.lost s in
      let gone = closed-gone by_capsule s (Closed code reason) w session in
      let same = ap (λ (v : TransportState). piece_count v.streams) is in
      let same_pieces = ap (λ (v : TransportState). unread_pieces v s) is in
      let w_then : WorkNow = close_by_peer by_capsule s (Closed code reason) w in
      let fault = failed-fewer w_then.dispatched.fault (piece_count w_then.transport.streams) in
      omega (arith, counts, within, lost, gone, same, same_pieces, fault)
  walked (walks.Fault code) by_capsule w is counts =
      let within = within-piece u s true in
      let fewer = l.fewer s in
      let all = pieces-within t s in
      omega (arith, counts, within, fewer, all)

pub session-counts : (s : ℕ) (w : WorkNow) (before after : ℕ) → (s % 4) ≡ 0 → CountsLive s (live_in w.dispatched.sessions s) w.transport before after → after + reads_left (read_session s w) ≤ before + piece_count w.transport.streams
session-counts s w before after session counts = by (live_in w.dispatched.sessions s) counts
  where
    by : (o : Option LiveNow) → CountsLive s o w.transport before after → after + reads_left (read_session_by s o w) ≤ before + piece_count w.transport.streams
    by None c = let fault = failed-fewer w.dispatched.fault (piece_count w.transport.streams) in omega (arith, c, fault)
    by (Some x) c =
        let y = read_on session_rules s x.reader w.transport in
        walked s session w.transport y.transport (read-loses session_rules s x.reader w.transport) before after (session_rules.outcome y.reader) (is_closed_by_capsule y.reader)
        (record { transport = y.transport; dispatched = with_sessions (with_session_reader y.reader s w.dispatched.sessions) w.dispatched }) refl c

-- what reading on leaves, and what follows from it, is what is to be done
read-session-is : (s : ℕ) (o : Option LiveNow) (d : DispatchedNow) (t then_t : TransportState) (sessions : SessionsNow) → ◌≡◌ {A = LiveRead} (record { sessions = sessions; transport = then_t }) (live_read s o d.sessions t)
    → news_of_reader s o t (record { transport = then_t; dispatched = with_sessions sessions d }) ≡ read_session_by s o (record { transport = t; dispatched = d })
read-session-is s None d t then_t sessions e = ap (λ (x : LiveRead). record { transport = x.transport; dispatched = with_sessions x.sessions d }) e
read-session-is s (Some x) d t then_t sessions e =
    ap (λ (y : LiveRead). news_by s (read_on session_rules s x.reader t).reader (record { transport = y.transport; dispatched = with_sessions y.sessions d })) e

-- as code does it
pub session-counted : (s id : ℕ) (d now : DispatchedNow) → d ≡ now → (t then_t : TransportState) (sessions : SessionsNow) (news : Option News) (u : WorkNow) (before after : ℕ) → id ≡ s → (id % 4) ≡ 0
    → ◌≡◌ {A = LiveRead} (record { sessions = sessions; transport = then_t }) (live_read id (live_in d.sessions id) d.sessions t)
    → ((w : WorkNow) → after_news id news w ≡ news_of_reader id (live_in d.sessions id) t w) → CountsLive id (live_in d.sessions id) t before after
    → u ≡ after_news s news (record { transport = then_t; dispatched = with_sessions sessions d }) → after + reads_left u ≤ before + piece_count t.streams
session-counted s id d now view t then_t sessions news u before after same session read says counts is =
    let w : WorkNow = record { transport = then_t; dispatched = with_sessions sessions d } in
    let e : u ≡ read_session id (record { transport = t; dispatched = d }) =
    is ∙ (ap (λ k. after_news k news w) (sym same) ∙ (says w ∙ read-session-is id (live_in d.sessions id) d t then_t sessions read)) in
    subst (λ (v : WorkNow). after + reads_left v ≤ before + piece_count t.streams) (sym e) (session-counts id (record { transport = t; dispatched = d }) before after session counts)

-- one session after another
pub each-counted : (o : Option ErrorCode) (w u : WorkNow) (most now later : ℕ) → o ≡ w.dispatched.fault → is_some o ≡ false → now + reads_left w ≤ most → later + reads_left u ≤ now + piece_count w.transport.streams → later + reads_left u ≤ most
each-counted o w u most now later fault free before after =
    let e = none-failed w.dispatched.fault (piece_count w.transport.streams) (ap is_some (sym fault) ∙ free) in omega (arith, e, before, after)

-- ---- the control stream

control-counts : (o : Option (Slot ControlReading)) (c : CriticalNow) (t : TransportState) (before after : ℕ) → CountsControl o t before after
    → after + unless_failed (read_control_at o c t).fault (piece_count (read_control_at o c t).transport.streams) ≤ before + piece_count t.streams
control-counts None c t before after counts = omega (arith, counts)
control-counts (Some x) c t before after counts = says (control_rules.outcome y.reader).fault counts
  where
    y : ReadOn ControlReading
    y = read_on control_rules x.id x.reader t

    l : Loses t y.transport
    l = read-loses control_rules x.id x.reader t

    says : (fault : Option ErrorCode) → after + unread_pieces y.transport x.id ≤ before + unread_pieces t x.id + stopped_within (is_some fault) (unread_now y.transport x.id)
        → after + unless_failed fault (piece_count y.transport.streams) ≤ before + piece_count t.streams
    says None e = let lost = l.lost x.id in omega (arith, e, lost)
    says (Some code) e = let within = within-piece y.transport x.id true in let fewer = l.fewer x.id in let all = pieces-within t x.id in omega (arith, e, within, fewer, all)

-- as code does it
pub control-counted : (d now : DispatchedNow) → d ≡ now → (t : TransportState) (q : ControlReadNow) (before after : ℕ) → is_some d.fault ≡ false → q ≡ read_control_at d.critical.control d.critical t → CountsControl d.critical.control t before after
    → after + unless_failed q.fault (piece_count q.transport.streams) ≤ before + reads_left (record { transport = t; dispatched = now })
control-counted d now view t q before after free is counts =
    let a = control-counts d.critical.control d.critical t before after counts in
    let e = none-failed d.fault (piece_count t.streams) free in
    let same = ap (λ (x : ControlReadNow). unless_failed x.fault (piece_count x.transport.streams)) is in
    let old = ap (λ (x : DispatchedNow). unless_failed x.fault (piece_count t.streams)) view in
    omega (arith, a, e, same, old)

-- ---- a stream of which the header is read from now on

module _ {V : Type 0} (start : V) (t : TransportState) (a : ArrivingNow V) where
  next-pieces : (count : ℕ) → a.next < count → waiting_pieces t (peer_kind t.side a.bidirectional) a.next (count - a.next)
      ≡ unread_pieces t (4 * a.next + peer_kind t.side a.bidirectional) + waiting_pieces t (peer_kind t.side a.bidirectional) (suc a.next) (count - suc a.next)
  next-pieces count lt = let left : count - a.next ≡ suc (count - suc a.next) = omega (arith, lt) in ap (λ n. waiting_pieces t (peer_kind t.side a.bidirectional) a.next n) left

  by-test : (b : Bool) → (nat_lt a.next (2 ^ 60) && nat_lt a.next (count_now t (peer_kind t.side a.bidirectional))) ≡ b
      → scan_most (taken_in start (if b then Some (4 * a.next + peer_kind t.side a.bidirectional) else None) a).arriving t ≡ scan_most a t
  by-test false e = refl
  by-test true e =
      let push = slots-push t a.reading (record { id = 4 * a.next + peer_kind t.side a.bidirectional; reader = start }) in
      let next = next-pieces (arrived_count t a) (below-both a.next (count_now t (peer_kind t.side a.bidirectional)) (2 ^ 60) e) in
      omega (arith, push, next)

  by-kind : (kind : ℕ) → kind ≡ peer_kind t.side a.bidirectional → scan_most (taken_in start (stream_after (count_now t kind) kind a.next) a).arriving t ≡ scan_most a t
  by-kind kind same =
      ap (λ k. scan_most (taken_in start (stream_after (count_now t k) k a.next) a).arriving t) same
      ∙ by-test (nat_lt a.next (2 ^ 60) && nat_lt a.next (count_now t (peer_kind t.side a.bidirectional))) refl

  taken-same : scan_most (takes_next_now start t a).arriving t ≡ scan_most a t
  taken-same = by (nat_lt (length a.reading) 4)
    where
      by : (b : Bool) → scan_most (if b then taken_in start (peer_stream_now t a.bidirectional a.next) a else record { takes = false; arriving = a }).arriving t ≡ scan_most a t
      by true = by-kind (kinds.peer_kind a.bidirectional t.side) (kind-same a.bidirectional t.side)
      by false = refl

  -- it is one of those that have no verdict, as before
  pub taken-counts : (takes : Bool) (b : ArrivingNow V) → ◌≡◌ {A = TakenIn V} (record { takes = takes; arriving = b }) (takes_next_now start t a) → scan_most b t ≡ scan_most a t
  taken-counts takes b is = ap (λ (x : TakenIn V). scan_most x.arriving t) is ∙ taken-same
