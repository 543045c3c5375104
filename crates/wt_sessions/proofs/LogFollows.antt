-- What is kept follows the log, entry by entry, whatever the entry is.
use Rattle.std.proofs.Common.{add-one, add-zero, arith, length, length-append, ◌≡◌, ℕ, ◌+◌, ◌*◌, Bool, true, false, cond, List, [], ◌∷◌, ◌++◌, filter, is_none, refl, sym, ap, ◌∙◌}
use Rattle.std.specs.Prelude.{None, ◌==◌, ◌||◌, ◌&&◌, not}
use Rattle.std.specs.List.{list_any}
use Rattle.std.proofs.lemmas.Bool.{eqb-true, false_from_ne_true}
use Rattle.wt_meaning.specs.Moments.{ids_from}
use Rattle.wt_turn.specs.Sent.{sent_on, with_sent_piece}
use Rattle.wt_turn.specs.Streams.{local_count, local_uni, one_more_if, opens, peer_bi, peer_count, peer_opens, peer_uni}
use Rattle.wt_sessions.proofs.Entries.{AreSorted, accepted-follows, any-insert, delivered-follows, distinct-insert, ended-follows, established-follows, opening-follows, received-follows, sorted-insert}
use Rattle.wt_sessions.proofs.Following.{Kept, moment-kept, moment-works}
use Rattle.wt_sessions.proofs.Moment.{scan-state}
use Rattle.wt_sessions.proofs.Scans.{IsFresh, filter-both, is_in}
use Rattle.wt_sessions.proofs.StreamIds.{bi-low, fewer-miss, ids-more, kinds-differ, kinds-differ-so, kinds-miss, next-misses, uni-low}
use Rattle.wt_sessions.specs.Driver.{apply_if, call_view, control_sent, flush, is_moment, log_and_flush, pending_actions, sessions_of, stream_table, transport_view}
use Rattle.wt_sessions.specs.DriverState.{DriverState, state_by, state_of}
use Rattle.wt_sessions.specs.Effect.{log_call}
use Rattle.wt_sessions.specs.Moment.{Fits, MayFollow, MayRecord, actions_if, flush_state, is_known, is_peers, moment_actions, moment_state, scan_if, scans, state_with_actions}
use Rattle.wt_sessions.specs.Scan.{is_unclassified, scan_order}
use Rattle.wt_sessions.specs.Step.{after_entry, control_after, scan_state, sent_length, step_actions}
use Rattle.wt_sessions.specs.StreamTable.{CallView, StreamTable, TransportView, is_closed, is_session, is_turned_away, verdict_of, was_established}
use Rattle.wt_turn.specs.Log.{CallRecord, Called, DatagramReceived, Entry, Event, Log, OpeningStarted, PeerBi, PeerUni, Received, Reported, ReportedLate, RequestDelivered, RequestRejected, Sent, SessionEstablished, StreamAccepted, actions_of, calls_of, ends_by, events_of, is_open, with_actions}
use Rattle.wt_turn.specs.declared.action.Action.{Action}
use Rattle.wt_wire.specs.declared.side.Side.{Side}
use Rattle.wt_wire.specs.declared.side.Side.TheVariants.{Client, Server}
use Rattle.wt_turn.specs.declared.action.Action.TheVariants as actions

-- ---- what an entry that may follow keeps

-- what misses more of a kind misses those before
if-more-misses : (b : Bool) (k kind n : ℕ) → is_in k (ids_from kind 0 (one_more_if b n)) ≡ false → is_in k (ids_from kind 0 n) ≡ false
if-more-misses true k kind n e = fewer-miss k kind n (ap (λ (m : ℕ). is_in k (ids_from kind 0 m)) (sym (add-one n)) ∙ e)
if-more-misses false k kind n e = e

-- a known stream is none of the peer's without a verdict
known-apart : (side : Side) (log : Log) (id k : ℕ) → is_known side log id ≡ true → is_peers side k ≡ true → verdict_of k (stream_table side log).classified ≡ None → (id == k) ≡ false
known-apart side log id k known peer none = false_from_ne_true (id == k) (λ e.
    let same : id ≡ k = eqb-true id k e in
    let moved : is_known side log k ≡ true = ap (is_known side log) (sym same) ∙ known in
    let not_known : is_known side log k ≡ false = λ i. not (peer i) || not (is_none (none i)) in
    absurd (let q = sym moved ∙ not_known in cc))

-- one more of which a test asks is another
or-other : (b rest : Bool) → b ≡ false → rest ≡ false → (b || rest) ≡ false
or-other b rest e f = rw e f

module _ (side : Side) (log : Log) (kept : Kept (transport_view side log) (call_view log) (stream_table side log)) where
  abbrev T : StreamTable
  T = stream_table side log

  abbrev calls : CallView
  calls = call_view log

  fresh-accepted : (id session : ℕ) → is_known side log id ≡ true → (k : ℕ) → is_peers side k ≡ true → verdict_of k T.classified ≡ None → IsFresh (call_view (Called (StreamAccepted id session) ∷ log)) T k
  fresh-accepted id session known k peer none = let f = kept.fresh k peer none in record {
    accepted = or-other (id == k) (calls.accepted k) (known-apart side log id k known peer none) f.accepted;
    delivered = f.delivered;
    unestablished = f.unestablished;
    remains = f.remains;
  }

  fresh-delivered : (id : ℕ) → is_known side log id ≡ true → (k : ℕ) → is_peers side k ≡ true → verdict_of k T.classified ≡ None → IsFresh (call_view (Called (RequestDelivered id) ∷ log)) T k
  fresh-delivered id known k peer none = let f = kept.fresh k peer none in record {
    accepted = f.accepted;
    delivered = or-other (id == k) (calls.delivered k) (known-apart side log id k known peer none) f.delivered;
    unestablished = f.unestablished;
    remains = f.remains;
  }

  fresh-rejected : (id : ℕ) → is_known side log id ≡ true → (k : ℕ) → is_peers side k ≡ true → verdict_of k T.classified ≡ None → IsFresh (call_view (Called (RequestRejected id) ∷ log)) T k
  fresh-rejected id known k peer none = let f = kept.fresh k peer none in record {
    accepted = f.accepted;
    delivered = f.delivered;
    unestablished = f.unestablished;
    remains = (λ i. (known-apart side log id k known peer none i || calls.ended k) || (list_any (is_closed k) T.closed || list_any (is_turned_away k) T.classified)) ∙ f.remains;
  }

  fresh-established : (id offset : ℕ) → is_known side log id ≡ true → (k : ℕ) → is_peers side k ≡ true → verdict_of k T.classified ≡ None → IsFresh (call_view (Called (SessionEstablished id offset) ∷ log)) T k
  fresh-established id offset known k peer none = let f = kept.fresh k peer none in record {
    accepted = f.accepted;
    delivered = f.delivered;
    unestablished = any-insert (is_session k) (record { id = id; offset = offset }) calls.sessions
        ∙ or-other (id == k) (was_established calls k) (known-apart side log id k known peer none) f.unestablished;
    remains = f.remains;
  }

  record-kept : (r : CallRecord) → MayRecord side log r → Kept (transport_view side (Called r ∷ log)) (call_view (Called r ∷ log)) T
  record-kept (StreamAccepted id session) may = record { fresh = fresh-accepted id session may; within = kept.within; unreceived = kept.unreceived; distinct = kept.distinct }
  record-kept (RequestDelivered id) may = record { fresh = fresh-delivered id may; within = kept.within; unreceived = kept.unreceived; distinct = kept.distinct }
  record-kept (RequestRejected id) may = record { fresh = fresh-rejected id may; within = kept.within; unreceived = kept.unreceived; distinct = kept.distinct }
  record-kept (SessionEstablished id offset) may = record {
    fresh = fresh-established id offset may.0;
    within = kept.within;
    unreceived = kept.unreceived;
    distinct = distinct-insert (record { id = id; offset = offset }) calls.sessions may.1 kept.distinct;
  }
  record-kept (DatagramReceived index) may = record {
    fresh = λ k peer none. let f = kept.fresh k peer none in record { accepted = f.accepted; delivered = f.delivered; unestablished = f.unestablished; remains = f.remains };
    within = kept.within;
    unreceived = λ n le. or-other (index == n) (calls.received n) (false_from_ne_true (index == n) (λ e. let same = eqb-true index n e in omega (arith, same, le, may))) (kept.unreceived n le);
    distinct = kept.distinct;
  }
  record-kept _ may = record {
    fresh = λ k peer none. let f = kept.fresh k peer none in record { accepted = f.accepted; delivered = f.delivered; unestablished = f.unestablished; remains = f.remains };
    within = kept.within;
    unreceived = kept.unreceived;
    distinct = kept.distinct;
  }

  entry-kept : (e : Entry) → MayFollow side log e → Kept (transport_view side (e ∷ log)) (call_view (e ∷ log)) T
  entry-kept (Called r) may = record-kept r may
  entry-kept (Reported e) may = record {
    fresh = λ k peer none. let f = kept.fresh k peer none in record { accepted = f.accepted; delivered = f.delivered; unestablished = f.unestablished; remains = f.remains };
    within = λ k u b. kept.within k
        (if-more-misses (peer_opens side (peer_uni side) e) k (peer_uni side) (peer_count side (events_of log) (peer_uni side)) u)
        (if-more-misses (peer_opens side (peer_bi side) e) k (peer_bi side) (peer_count side (events_of log) (peer_bi side)) b);
    unreceived = kept.unreceived;
    distinct = kept.distinct;
  }
  entry-kept _ may = record {
    fresh = λ k peer none. let f = kept.fresh k peer none in record { accepted = f.accepted; delivered = f.delivered; unestablished = f.unestablished; remains = f.remains };
    within = kept.within;
    unreceived = kept.unreceived;
    distinct = kept.distinct;
  }

kept-where : (b : Bool) (t : TransportView) (view : CallView) (table : StreamTable) → Kept t view table → Kept t view (apply_if b (scan_order t view) table)
kept-where true t view table kept = moment-kept t view table kept
kept-where false t view table kept = kept

-- every log whose entries might follow one another
pub kept-of : (side : Side) (log : Log) → Fits side log → Kept (transport_view side log) (call_view log) (stream_table side log)
unfolding stream_table
kept-of side [] fits = record {
  fresh = λ k peer none. record { accepted = refl; delivered = refl; unestablished = refl; remains = refl };
  within = λ k u b. refl;
  unreceived = λ n le. refl;
  distinct = tt;
}
kept-of side (e ∷ log) fits =
    kept-where (is_moment e && is_open (e ∷ log)) (transport_view side (e ∷ log)) (call_view (e ∷ log)) (stream_table side log) (entry-kept side log (kept-of side log fits.1) e fits.0)

-- the sessions are by id
record-sorted : (r : CallRecord) (rs : List CallRecord) → AreSorted (sessions_of rs) → AreSorted (sessions_of (r ∷ rs))
record-sorted (SessionEstablished id offset) rs s = sorted-insert (record { id = id; offset = offset }) (sessions_of rs) s
record-sorted _ rs s = s

pub calls-sorted : (rs : List CallRecord) → AreSorted (sessions_of rs)
calls-sorted [] = tt
calls-sorted (r ∷ rs) = record-sorted r rs (calls-sorted rs)

-- ---- the peer opens a stream

filter-more : (table : StreamTable) (kind n : ℕ) → verdict_of (4 * n + kind) table.classified ≡ None
    → filter (is_unclassified table) (ids_from kind 0 (n + 1)) ≡ filter (is_unclassified table) (ids_from kind 0 n) ++ (4 * n + kind) ∷ []
filter-more table kind n none =
    ap (λ (m : ℕ). filter (is_unclassified table) (ids_from kind 0 m)) (add-one n)
    ∙ (ap (filter (is_unclassified table)) (ids-more kind 0 n n (omega arith))
    ∙ (filter-both (is_unclassified table) (ids_from kind 0 n) ((4 * n + kind) ∷ [])
    ∙ (λ i. filter (is_unclassified table) (ids_from kind 0 n) ++ cond (is_none (none i)) ((4 * n + kind) ∷ []) [])))

peer-counts : (side : Side) (n : ℕ) → (one_more_if (peer_uni side == peer_uni side) n ≡ n + 1) × (one_more_if (peer_bi side == peer_bi side) n ≡ n + 1)
    × (one_more_if (peer_uni side == peer_bi side) n ≡ n) × (one_more_if (peer_bi side == peer_uni side) n ≡ n)
peer-counts Client n = (refl, refl, refl, refl)
peer-counts Server n = (refl, refl, refl, refl)

-- what is kept before the moment's steps
abbrev pub before_steps : Side → Log → Entry → DriverState
before_steps side log e = state_by (transport_view side (e ∷ log)) (call_view (e ∷ log)) (control_sent side (e ∷ log)) (is_open (e ∷ log)) (stream_table side log)

module _ (side : Side) (log : Log) (kept : Kept (transport_view side log) (call_view log) (stream_table side log)) where
  abbrev unis_count : ℕ
  unis_count = peer_count side (events_of log) (peer_uni side)

  abbrev bis_count : ℕ
  bis_count = peer_count side (events_of log) (peer_bi side)

  next-uni : verdict_of (4 * unis_count + peer_uni side) (stream_table side log).classified ≡ None
  next-uni = kept.within (4 * unis_count + peer_uni side) (next-misses (peer_uni side) 0 unis_count unis_count (omega arith))
      (kinds-miss (peer_bi side) (peer_uni side) 0 bis_count unis_count (bi-low side) (uni-low side) (kinds-differ-so side))

  next-bi : verdict_of (4 * bis_count + peer_bi side) (stream_table side log).classified ≡ None
  next-bi = kept.within (4 * bis_count + peer_bi side)
      (kinds-miss (peer_uni side) (peer_bi side) 0 unis_count bis_count (uni-low side) (bi-low side) (kinds-differ side))
      (next-misses (peer_bi side) 0 bis_count bis_count (omega arith))

  reported-uni : before_steps side log (Reported PeerUni) ≡ after_entry (transport_view side log) (Reported PeerUni) (state_of side log)
  unfolding state_of
  reported-uni = λ i. record (state_of side log) {
    unis = (ap (λ (n : ℕ). filter (is_unclassified (stream_table side log)) (ids_from (peer_uni side) 0 n)) ((peer-counts side unis_count).0)
        ∙ filter-more (stream_table side log) (peer_uni side) unis_count next-uni) i;
    bis = filter (is_unclassified (stream_table side log)) (ids_from (peer_bi side) 0 ((peer-counts side bis_count).2 i));
  }

  reported-bi : before_steps side log (Reported PeerBi) ≡ after_entry (transport_view side log) (Reported PeerBi) (state_of side log)
  unfolding state_of
  reported-bi = λ i. record (state_of side log) {
    bis = (ap (λ (n : ℕ). filter (is_unclassified (stream_table side log)) (ids_from (peer_bi side) 0 n)) ((peer-counts side bis_count).1)
        ∙ filter-more (stream_table side log) (peer_bi side) bis_count next-bi) i;
    unis = filter (is_unclassified (stream_table side log)) (ids_from (peer_uni side) 0 ((peer-counts side unis_count).3 i));
  }

  reported-in : (e : Event) → before_steps side log (Reported e) ≡ after_entry (transport_view side log) (Reported e) (state_of side log)
  unfolding state_of
  reported-in PeerUni = reported-uni
  reported-in PeerBi = reported-bi
  reported-in _ = refl

-- ---- each entry

opened-more : (b : Bool) (n : ℕ) → not (one_more_if b n == 0) ≡ (b || not (n == 0))
opened-more true n = ap (λ b. not b) (false_from_ne_true (n + 1 == 0) (λ f. let a = eqb-true (n + 1) 0 f in omega (arith, a)))
opened-more false n = refl

sent-more : (id : ℕ) (a : Action) (before : List ℕ) → length (with_sent_piece id a before) ≡ length before + sent_length id a
sent-more id (actions.Send k piece) before = by (k == id)
  where
    by : (b : Bool) → length (cond b (before ++ piece) before) ≡ length before + cond b (length piece) 0
    by true = length-append before piece
    by false = sym (add-zero (length before))
sent-more id _ before = sym (add-zero (length before))

-- how far this end's control stream is after one more action
sent-control : (side : Side) (log : Log) (a : Action) → control_sent side (Sent a ∷ log) ≡ control_after (local_uni side) a (control_sent side log)
sent-control side log a = λ i. record {
  opened = opened-more (opens (local_uni side) a) (local_count (actions_of log) (local_uni side)) i;
  sent = sent-more (local_uni side) a (sent_on (actions_of log) (local_uni side)) i;
}

-- an entry may end the connection
open-more : (e : Entry) (log : Log) → is_open (e ∷ log) ≡ (not (ends_by e) && is_open log)
open-more e log = by (ends_by e) (list_any ends_by log)
  where
    by : (b rest : Bool) → not (b || rest) ≡ (not b && not rest)
    by true rest = refl
    by false rest = refl

called-in : (side : Side) (log : Log) (r : CallRecord) → before_steps side log (Called r) ≡ after_entry (transport_view side log) (Called r) (state_of side log)
unfolding state_of
called-in side log (StreamAccepted id session) = accepted-follows side log id session
called-in side log (OpeningStarted id session) = opening-follows side log id session
called-in side log (DatagramReceived index) = received-follows side log index
called-in side log (RequestDelivered id) = delivered-follows side log id
called-in side log (RequestRejected id) = ended-follows side log id
called-in side log (SessionEstablished id offset) = established-follows side log id offset (calls-sorted (calls_of log))
called-in side log _ = refl

entry-in : (side : Side) (log : Log) (e : Entry) → Kept (transport_view side log) (call_view log) (stream_table side log) → before_steps side log e ≡ after_entry (transport_view side log) e (state_of side log)
unfolding state_of
entry-in side log (Reported e) kept = reported-in side log kept e
entry-in side log (Called r) kept = called-in side log r
entry-in side log (Sent a) kept = λ i. record (state_of side log) { control_sent = sent-control side log a i; is_open = open-more (Sent a) log i }
entry-in side log (Received id byte) kept = refl
entry-in side log (ReportedLate e) kept = refl

-- ---- each moment

-- the state after an entry and its moment's steps
pub entry-follows : (side : Side) (log : Log) (e : Entry) → Fits side (e ∷ log)
    → state_of side (e ∷ log) ≡ apply_if (is_moment e && is_open (e ∷ log)) (scan_state (transport_view side (e ∷ log))) (after_entry (transport_view side log) e (state_of side log))
unfolding state_of stream_table
entry-follows side log e fits = by (is_moment e && is_open (e ∷ log))
  where
    t : TransportView
    t = transport_view side (e ∷ log)

    kept : Kept (transport_view side log) (call_view log) (stream_table side log)
    kept = kept-of side log fits.1

    by : (b : Bool) → state_by (transport_view side (e ∷ log)) (call_view (e ∷ log)) (control_sent side (e ∷ log)) (is_open (e ∷ log)) (apply_if b (scan_order (transport_view side (e ∷ log)) (call_view (e ∷ log))) (stream_table side log))
        ≡ apply_if b (scan_state (transport_view side (e ∷ log))) (after_entry (transport_view side log) e (state_of side log))
    by true =
        scan-state (transport_view side (e ∷ log)) (call_view (e ∷ log)) (control_sent side (e ∷ log)) (is_open (e ∷ log)) (stream_table side log)
        (moment-works (transport_view side (e ∷ log)) (call_view (e ∷ log)) (control_sent side (e ∷ log)) (is_open (e ∷ log)) (stream_table side log) (entry-kept side log kept e fits.0))
        ∙ ap (scan_state (transport_view side (e ∷ log))) (entry-in side log e kept)
    by false = entry-in side log e kept

-- what goes out then is the step's
pub actions-follow : (side : Side) (log : Log) → pending_actions side log ≡ step_actions (transport_view side log) (state_of side log)
unfolding state_of
actions-follow side log = refl

-- ---- with what goes out

-- an action is no moment
sent-follows : (side : Side) (log : Log) (a : Action) (t : TransportView) → t.side ≡ side → Fits side log → state_of side (Sent a ∷ log) ≡ after_entry t (Sent a) (state_of side log)
sent-follows side log a t same fits =
    entry-follows side log (Sent a) (tt, fits)
    ∙ ap (λ (s : Side). record (state_of side log) { control_sent = control_after (local_uni s) a (state_of side log).control_sent; is_open = not (ends_by (Sent a)) && (state_of side log).is_open }) (sym same)

-- actions may always follow
pub sent-fits : (side : Side) (as_ : List Action) (log : Log) → Fits side log → Fits side (with_actions as_ log)
sent-fits side [] log fits = fits
sent-fits side (a ∷ later) log fits = sent-fits side later (Sent a ∷ log) (tt, fits)

pub sent-all-follow : (side : Side) (as_ : List Action) (log : Log) (t : TransportView) → t.side ≡ side → Fits side log → state_of side (with_actions as_ log) ≡ state_with_actions t as_ (state_of side log)
sent-all-follow side [] log t same fits = refl
sent-all-follow side (a ∷ later) log t same fits =
    sent-all-follow side later (Sent a ∷ log) t same (tt, fits) ∙ ap (λ (s : DriverState). state_with_actions t later s) (sent-follows side log a t same fits)

-- the connection is as open as what is kept says
open-follows : (side : Side) (log : Log) (e : Entry) → (is_moment e && is_open (e ∷ log)) ≡ scans e (after_entry (transport_view side log) e (state_of side log))
unfolding state_of
open-follows side log e = ap (λ (b : Bool). is_moment e && b) (open-more e log)

-- one entry more: the state, with what goes out then, is the moment's
pub log-follows : (side : Side) (log : Log) (e : Entry) → Fits side (e ∷ log)
    → state_of side (log_and_flush side log e) ≡ moment_state (transport_view side log) (transport_view side (e ∷ log)) e (state_of side log)
unfolding flush
log-follows side log e fits = by (is_moment e && is_open (e ∷ log)) (entry-follows side log e fits) ∙ ap (λ (b : Bool). scan_if b t s) (open-follows side log e)
  where
    t : TransportView
    t = transport_view side (e ∷ log)

    s : DriverState
    s = after_entry (transport_view side log) e (state_of side log)

    by : (b : Bool) → state_of side (e ∷ log) ≡ apply_if b (scan_state (transport_view side (e ∷ log))) (after_entry (transport_view side log) e (state_of side log))
        → state_of side (apply_if b (with_actions (pending_actions side (e ∷ log))) (e ∷ log)) ≡ scan_if b (transport_view side (e ∷ log)) (after_entry (transport_view side log) e (state_of side log))
    by false f = f
    by true f =
        sent-all-follow side (pending_actions side (e ∷ log)) (e ∷ log) (transport_view side (e ∷ log)) refl fits
        ∙ (ap (λ (as_ : List Action). state_with_actions (transport_view side (e ∷ log)) as_ (state_of side (e ∷ log))) (actions-follow side (e ∷ log))
        ∙ ap (λ (z : DriverState). flush_state (transport_view side (e ∷ log)) z) f)

-- and what goes out is the moment's, too
pub log-sends : (side : Side) (log : Log) (e : Entry) → Fits side (e ∷ log)
    → log_and_flush side log e ≡ with_actions (moment_actions (transport_view side log) (transport_view side (e ∷ log)) e (state_of side log)) (e ∷ log)
unfolding flush
log-sends side log e fits = by (is_moment e && is_open (e ∷ log)) (entry-follows side log e fits) ∙ ap (λ (b : Bool). with_actions (actions_if b t s) (e ∷ log)) (open-follows side log e)
  where
    t : TransportView
    t = transport_view side (e ∷ log)

    s : DriverState
    s = after_entry (transport_view side log) e (state_of side log)

    by : (b : Bool) → state_of side (e ∷ log) ≡ apply_if b (scan_state (transport_view side (e ∷ log))) (after_entry (transport_view side log) e (state_of side log))
        → apply_if b (with_actions (pending_actions side (e ∷ log))) (e ∷ log) ≡ with_actions (actions_if b (transport_view side (e ∷ log)) (after_entry (transport_view side log) e (state_of side log))) (e ∷ log)
    by false f = refl
    by true f =
        ap (λ (as_ : List Action). with_actions as_ (e ∷ log)) (actions-follow side (e ∷ log))
        ∙ ap (λ (z : DriverState). with_actions (step_actions (transport_view side (e ∷ log)) z) (e ∷ log)) f

-- a call's record after its own actions: these go out, and then the record's moment comes
pub call-follows : (side : Side) (log : Log) (own : List Action) (r : CallRecord) → Fits side log → MayRecord side (with_actions own log) r
    → state_of side (log_call side log own r)
    ≡ moment_state (transport_view side (with_actions own log)) (transport_view side (Called r ∷ with_actions own log)) (Called r) (state_with_actions (transport_view side log) own (state_of side log))
call-follows side log own r fits may =
    log-follows side (with_actions own log) (Called r) (may, sent-fits side own log fits)
    ∙ ap (λ (s : DriverState). moment_state (transport_view side (with_actions own log)) (transport_view side (Called r ∷ with_actions own log)) (Called r) s)
    (sent-all-follow side own log (transport_view side log) refl fits)
