-- What a call's record changes in what is kept.
use Rattle.std.proofs.Common.{◌≡◌, ◌<◌, ◌≤◌, ℕ, suc, arith, Bool, true, false, cond, List, [], ◌∷◌, filter, filter_map, refl, sym, ap, ◌∙◌}
use Rattle.std.specs.Prelude.{nat_lt, not, Some, None, ◌==◌, ◌||◌, ◌&&◌}
use Rattle.std.specs.List.{cons_option, list_any}
use Rattle.std.proofs.lemmas.Bool.{or_from, or_parts}
use Rattle.std.proofs.lemmas.Bool.Decides.{nat_tests}
use Rattle.wt_sessions.proofs.Steps.{AreDistinct, is_among}
use Rattle.wt_sessions.proofs.Scans.{eqb-other, filter-filter, neither, not-either}
use Rattle.wt_sessions.specs.DriverState.{DriverState, state_by, state_of}
use Rattle.wt_sessions.specs.Step.{after_entry, forget, with_member_now}
use Rattle.wt_sessions.specs.Driver.{with_session, call_view, control_sent, stream_table, transport_view, with_member}
use Rattle.wt_turn.specs.Reports.{if_same}
use Rattle.wt_sessions.specs.StreamTable.{Admitted, CallView, Classified, Session, StreamTable, Waiting, dispatched_streams, is_closed, is_gone, is_queued, is_session, is_turned_away, queued_id, waits_by, waits_in, with_id}
use Rattle.wt_proto.specs.declared.verdict.Verdict.{Verdict}
use Rattle.wt_proto.specs.declared.verdict.Verdict.TheVariants as verdicts
use Rattle.wt_turn.specs.Log.{Called, DatagramReceived, Log, OpeningStarted, RequestDelivered, RequestRejected, SessionEstablished, StreamAccepted, is_open}
use Rattle.wt_wire.specs.declared.side.Side.{Side}

or-front : (q a r : Bool) → ((q || a) || r) ≡ ((a || r) || q)
or-front true true r = refl
or-front true false true = refl
or-front true false false = refl
or-front false true r = refl
or-front false false true = refl
or-front false false false = refl

-- ---- a session that a call ends

module _ (calls : CallView) (table : StreamTable) (id : ℕ) where
  abbrev ended_too : CallView
  ended_too = record calls { ended = λ s. id == s || calls.ended s }

  gone-ended : (s : ℕ) → is_gone ended_too table s ≡ (is_gone calls table s || id == s)
  gone-ended s = or-front (id == s) (calls.ended s) (list_any (is_closed s) table.closed || list_any (is_turned_away s) table.classified)

  dispatched-ended : dispatched_streams ended_too table ≡ forget id (dispatched_streams calls table)
  dispatched-ended = λ i. record (dispatched_streams calls table) {
    held = filter-filter (λ (h : ℕ). not (id == h)) (λ (h : ℕ). not (is_gone calls table h)) (λ (h : ℕ). not (is_gone ended_too table h))
        (λ h. ap not (gone-ended h) ∙ not-either (is_gone calls table h) (id == h)) (filter_map queued_id table.classified) i;
    streams = filter-filter (λ (w : Waiting). not (id == w.session)) (λ (w : Waiting). not (is_gone calls table w.session)) (λ (w : Waiting). not (is_gone ended_too table w.session))
        (λ w. ap not (gone-ended w.session) ∙ not-either (is_gone calls table w.session) (id == w.session)) (filter_map (waits_in calls) table.classified) i;
    datagrams = filter-filter (λ (d : Admitted). not (id == d.session)) (λ (d : Admitted). not (calls.received d.index) && not (is_gone calls table d.session))
        (λ (d : Admitted). not (calls.received d.index) && not (is_gone ended_too table d.session))
        (λ d. ap (λ b. not (calls.received d.index) && not b) (gone-ended d.session) ∙ neither (not (calls.received d.index)) (is_gone calls table d.session) (id == d.session)) table.datagrams i;
    is_gone = λ s. gone-ended s i;
  }

  sessions-ended : filter (λ (s : Session). not (is_gone ended_too table s.id)) calls.sessions
      ≡ filter (λ (s : Session). not (id == s.id)) (filter (λ (s : Session). not (is_gone calls table s.id)) calls.sessions)
  sessions-ended = filter-filter (λ (s : Session). not (id == s.id)) (λ (s : Session). not (is_gone calls table s.id)) (λ (s : Session). not (is_gone ended_too table s.id))
      (λ s. ap not (gone-ended s.id) ∙ not-either (is_gone calls table s.id) (id == s.id)) calls.sessions

-- the state with the record, before the moment's steps
abbrev noted : Side → Log → DriverState
noted side log = record (state_of side log) { is_open = is_open log }

pub ended-follows : (side : Side) (log : Log) (id : ℕ)
    → state_by (transport_view side (Called (RequestRejected id) ∷ log)) (call_view (Called (RequestRejected id) ∷ log)) (control_sent side log) (is_open log) (stream_table side log)
    ≡ after_entry (transport_view side log) (Called (RequestRejected id)) (state_of side log)
unfolding state_of
ended-follows side log id = λ i. record (state_of side log) {
  dispatched = dispatched-ended (call_view log) (stream_table side log) id i;
  sessions = sessions-ended (call_view log) (stream_table side log) id i;
}

-- ---- a stream that an accept gives

waits-apart : (v : Verdict) (id k : ℕ) (admitted accepted : Bool) (rest more : List Waiting) → more ≡ filter (λ (w : Waiting). not (id == w.id)) rest
    → cons_option (waits_by v k (admitted && not (id == k || accepted))) more ≡ filter (λ (w : Waiting). not (id == w.id)) (cons_option (waits_by v k (admitted && not accepted)) rest)
waits-apart (verdicts.WebTransport session offset) id k admitted accepted rest more e = by admitted accepted (id == k) refl
  where
    w : Waiting
    w = record { id = k; session = session }

    by : (a c b : Bool) → (id == k) ≡ b → cons_option (cond (a && not (b || c)) (Some w) None) more ≡ filter (λ (x : Waiting). not (id == x.id)) (cons_option (cond (a && not c) (Some w) None) rest)
    by false c b f = e
    by true true true f = e
    by true true false f = e
    by true false true f = e ∙ (λ i. cond (not (sym f i)) (w ∷ filter (λ (x : Waiting). not (id == x.id)) rest) (filter (λ (x : Waiting). not (id == x.id)) rest))
    by true false false f = ap (λ xs. w ∷ xs) e ∙ (λ i. cond (not (sym f i)) (w ∷ filter (λ (x : Waiting). not (id == x.id)) rest) (filter (λ (x : Waiting). not (id == x.id)) rest))
waits-apart (verdicts.Control offset) id k admitted accepted rest more e = e
waits-apart (verdicts.Encoder offset) id k admitted accepted rest more e = e
waits-apart (verdicts.Decoder offset) id k admitted accepted rest more e = e
waits-apart (verdicts.Request headers offset) id k admitted accepted rest more e = e
waits-apart (verdicts.Refused code) id k admitted accepted rest more e = e
waits-apart (verdicts.Fault code) id k admitted accepted rest more e = e
waits-apart verdicts.Incomplete id k admitted accepted rest more e = e
waits-apart verdicts.Dropped id k admitted accepted rest more e = e

and-swap : (a b : Bool) → (a && b) ≡ (b && a)
and-swap true true = refl
and-swap true false = refl
and-swap false true = refl
and-swap false false = refl

filter-swap : {X : Type 0} (p q : X → Bool) (xs : List X) → filter p (filter q xs) ≡ filter q (filter p xs)
filter-swap p q xs = sym (filter-filter p q (λ x. q x && p x) (λ x. refl) xs) ∙ filter-filter q p (λ x. q x && p x) (λ x. and-swap (q x) (p x)) xs

module _ (calls : CallView) (table : StreamTable) (id session : ℕ) where
  abbrev accepted_too : CallView
  accepted_too = record calls { accepted = λ k. id == k || calls.accepted k; members = λ s. with_member (if_same session s id) (calls.members s) }

  waits-accepted : (cs : List Classified) → filter_map (waits_in accepted_too) cs ≡ filter (λ (w : Waiting). not (id == w.id)) (filter_map (waits_in calls) cs)
  waits-accepted [] = refl
  waits-accepted (c ∷ cs) = waits-apart c.verdict id c.id c.admitted (calls.accepted c.id) (filter_map (waits_in calls) cs) (filter_map (waits_in accepted_too) cs) (waits-accepted cs)

  member-accepted : (s : ℕ) → with_member (if_same session s id) (calls.members s) ≡ with_member_now session id calls.members s
  member-accepted s = by (session == s)
    where
      by : (b : Bool) → with_member (cond b (Some id) None) (calls.members s) ≡ cond b (with_id id (calls.members s)) (calls.members s)
      by true = refl
      by false = refl

  dispatched-accepted : dispatched_streams accepted_too table
      ≡ record (dispatched_streams calls table) {
        streams = filter (λ (w : Waiting). not (id == w.id)) (dispatched_streams calls table).streams;
        members = with_member_now session id calls.members;
      }
  dispatched-accepted = λ i. record (dispatched_streams calls table) {
    streams = (ap (filter (λ (w : Waiting). not (is_gone calls table w.session))) (waits-accepted table.classified)
        ∙ filter-swap (λ (w : Waiting). not (is_gone calls table w.session)) (λ (w : Waiting). not (id == w.id)) (filter_map (waits_in calls) table.classified)) i;
    members = λ s. member-accepted s i;
  }

pub accepted-follows : (side : Side) (log : Log) (id session : ℕ)
    → state_by (transport_view side (Called (StreamAccepted id session) ∷ log)) (call_view (Called (StreamAccepted id session) ∷ log)) (control_sent side log) (is_open log) (stream_table side log)
    ≡ after_entry (transport_view side log) (Called (StreamAccepted id session)) (state_of side log)
unfolding state_of
accepted-follows side log id session = λ i. record (state_of side log) {
  dispatched = dispatched-accepted (call_view log) (stream_table side log) id session i;
}

-- ---- a datagram that is received, a request that is delivered

unreceived-apart : (a b g : Bool) → (not (a || b) && not g) ≡ ((not b && not g) && not a)
unreceived-apart true true g = refl
unreceived-apart true false true = refl
unreceived-apart true false false = refl
unreceived-apart false true g = refl
unreceived-apart false false true = refl
unreceived-apart false false false = refl

undelivered-apart : (q a b : Bool) → (q && not (a || b)) ≡ ((q && not b) && not a)
undelivered-apart true true true = refl
undelivered-apart true true false = refl
undelivered-apart true false true = refl
undelivered-apart true false false = refl
undelivered-apart false a b = refl

pub received-follows : (side : Side) (log : Log) (index : ℕ)
    → state_by (transport_view side (Called (DatagramReceived index) ∷ log)) (call_view (Called (DatagramReceived index) ∷ log)) (control_sent side log) (is_open log) (stream_table side log)
    ≡ after_entry (transport_view side log) (Called (DatagramReceived index)) (state_of side log)
unfolding state_of
received-follows side log index =
    let calls : CallView = call_view log in
    let table : StreamTable = stream_table side log in
    λ i. record (state_of side log) {
      dispatched = record (dispatched_streams calls table) {
        datagrams = filter-filter (λ (x : Admitted). not (index == x.index)) (λ (x : Admitted). not (calls.received x.index) && not (is_gone calls table x.session))
            (λ (x : Admitted). not (index == x.index || calls.received x.index) && not (is_gone calls table x.session))
            (λ x. unreceived-apart (index == x.index) (calls.received x.index) (is_gone calls table x.session)) table.datagrams i;
      };
    }

pub delivered-follows : (side : Side) (log : Log) (id : ℕ)
    → state_by (transport_view side (Called (RequestDelivered id) ∷ log)) (call_view (Called (RequestDelivered id) ∷ log)) (control_sent side log) (is_open log) (stream_table side log)
    ≡ after_entry (transport_view side log) (Called (RequestDelivered id)) (state_of side log)
unfolding state_of
delivered-follows side log id =
    let calls : CallView = call_view log in
    let table : StreamTable = stream_table side log in
    λ i. record (state_of side log) {
      dispatched = record (dispatched_streams calls table) {
        requests = filter-filter (λ (c : Classified). not (id == c.id)) (λ (c : Classified). is_queued c && not (calls.delivered c.id)) (λ (c : Classified). is_queued c && not (id == c.id || calls.delivered c.id))
            (λ c. undelivered-apart (is_queued c) (id == c.id) (calls.delivered c.id)) table.classified i;
      };
    }

pub opening-follows : (side : Side) (log : Log) (id session : ℕ)
    → state_by (transport_view side (Called (OpeningStarted id session) ∷ log)) (call_view (Called (OpeningStarted id session) ∷ log)) (control_sent side log) (is_open log) (stream_table side log)
    ≡ after_entry (transport_view side log) (Called (OpeningStarted id session)) (state_of side log)
unfolding state_of
opening-follows side log id session = λ i. record (state_of side log) {
  dispatched = record (dispatched_streams (call_view log) (stream_table side log)) {
    members = λ s. member-accepted (call_view log) (stream_table side log) id session s i;
  };
}

-- ---- a session that is established

-- each of these ids is at least this one
abbrev pub AllFrom : ℕ → List Session → Type 0
AllFrom n [] = Unit {0}
AllFrom n (x ∷ xs) = (n ≤ x.id) × AllFrom n xs

-- the sessions are by id
abbrev pub AreSorted : List Session → Type 0
AreSorted [] = Unit {0}
AreSorted (x ∷ xs) = AllFrom x.id xs × AreSorted xs

from-less : (m n : ℕ) (xs : List Session) → m ≤ n → AllFrom n xs → AllFrom m xs
from-less m n [] le all = tt
from-less m n (x ∷ xs) le all = (omega (arith, le, all.0), from-less m n xs le all.1)

from-filter : (p : Session → Bool) (n : ℕ) (xs : List Session) → AllFrom n xs → AllFrom n (filter p xs)
from-filter p n [] all = tt
from-filter p n (x ∷ xs) all = by (p x) (from-filter p n xs all.1)
  where
    by : (b : Bool) → AllFrom n (filter p xs) → AllFrom n (cond b (x ∷ filter p xs) (filter p xs))
    by true again = (all.0, again)
    by false again = again

less-is : (a b : ℕ) → nat_lt a b ≡ true → a < b
less-is a b e = grind (arith, nat_tests)

less-not : (a b : ℕ) → nat_lt a b ≡ false → b ≤ a
less-not a b e = grind (arith, nat_tests)

less-holds : (a b : ℕ) → a < b → nat_lt a b ≡ true
less-holds a b lt = grind (arith, nat_tests)

from-insert : (n : ℕ) (x : Session) (xs : List Session) → n ≤ x.id → AllFrom n xs → AllFrom n (with_session x xs)
from-insert n x [] le all = (le, tt)
from-insert n x (y ∷ ys) le all = by (nat_lt x.id y.id) (from-insert n x ys le all.1)
  where
    by : (b : Bool) → AllFrom n (with_session x ys) → AllFrom n (cond b (x ∷ y ∷ ys) (y ∷ with_session x ys))
    by true again = (le, all)
    by false again = (all.0, again)

pub sorted-insert : (x : Session) (xs : List Session) → AreSorted xs → AreSorted (with_session x xs)
sorted-insert x [] s = (tt, tt)
sorted-insert x (y ∷ ys) s = by (nat_lt x.id y.id) refl (sorted-insert x ys s.1)
  where
    by : (b : Bool) → nat_lt x.id y.id ≡ b → AreSorted (with_session x ys) → AreSorted (cond b (x ∷ y ∷ ys) (y ∷ with_session x ys))
    by true e again = let lt = less-is x.id y.id e in ((omega (arith, lt), from-less x.id y.id ys (omega (arith, lt)) s.0), s)
    by false e again = (from-insert y.id x ys (less-not x.id y.id e) s.0, again)

-- before sessions with greater ids it comes first
in-front : (x : Session) (xs : List Session) → AllFrom (suc x.id) xs → with_session x xs ≡ x ∷ xs
in-front x [] all = refl
in-front x (y ∷ ys) all = rw (less-holds x.id y.id (omega (arith, all.0))) refl

pub filter-insert : (p : Session → Bool) (x : Session) (xs : List Session) → AreSorted xs → filter p (with_session x xs) ≡ cond (p x) (with_session x (filter p xs)) (filter p xs)
filter-insert p x [] s = refl
filter-insert p x (y ∷ ys) s = by (nat_lt x.id y.id) refl (filter-insert p x ys s.1)
  where
    first : (b : Bool) → x.id < y.id → cond b (x ∷ filter p (y ∷ ys)) (filter p (y ∷ ys)) ≡ cond b (with_session x (filter p (y ∷ ys))) (filter p (y ∷ ys))
    first true lt = sym (in-front x (filter p (y ∷ ys)) (from-filter p (suc x.id) (y ∷ ys) (omega (arith, lt), from-less (suc x.id) y.id ys (omega (arith, lt)) s.0)))
    first false lt = refl

    later : (b c : Bool) → nat_lt x.id y.id ≡ false → filter p (with_session x ys) ≡ cond b (with_session x (filter p ys)) (filter p ys)
        → cond c (y ∷ filter p (with_session x ys)) (filter p (with_session x ys)) ≡ cond b (with_session x (cond c (y ∷ filter p ys) (filter p ys))) (cond c (y ∷ filter p ys) (filter p ys))
    later true true e again = ap (λ (zs : List Session). y ∷ zs) again ∙ rw e refl
    later false true e again = ap (λ (zs : List Session). y ∷ zs) again
    later true false e again = again
    later false false e again = again

    by : (b : Bool) → nat_lt x.id y.id ≡ b → filter p (with_session x ys) ≡ cond (p x) (with_session x (filter p ys)) (filter p ys)
        → filter p (cond b (x ∷ y ∷ ys) (y ∷ with_session x ys)) ≡ cond (p x) (with_session x (filter p (y ∷ ys))) (filter p (y ∷ ys))
    by true e again = first (p x) (less-is x.id y.id e)
    by false e again = later (p x) (p y) e again

or-swap : (a b c : Bool) → (a || (b || c)) ≡ (b || (a || c))
or-swap true true c = refl
or-swap true false c = refl
or-swap false b c = refl

pub any-insert : (q : Session → Bool) (x : Session) (xs : List Session) → list_any q (with_session x xs) ≡ (q x || list_any q xs)
any-insert q x [] = refl
any-insert q x (y ∷ ys) = by (nat_lt x.id y.id) (any-insert q x ys)
  where
    by : (b : Bool) → list_any q (with_session x ys) ≡ (q x || list_any q ys) → list_any q (cond b (x ∷ y ∷ ys) (y ∷ with_session x ys)) ≡ (q x || (q y || list_any q ys))
    by true again = refl
    by false again = ap (λ c. q y || c) again ∙ or-swap (q y) (q x) (list_any q ys)

pub distinct-insert : (x : Session) (xs : List Session) → is_among x.id xs ≡ false → AreDistinct xs → AreDistinct (with_session x xs)
distinct-insert x [] miss d = (refl, tt)
distinct-insert x (y ∷ ys) miss d = by (nat_lt x.id y.id) (distinct-insert x ys (or_parts (y.id == x.id) (is_among x.id ys) miss).1 d.1)
  where
    parts : ((y.id == x.id) ≡ false) × (is_among x.id ys ≡ false)
    parts = or_parts (y.id == x.id) (is_among x.id ys) miss

    by : (b : Bool) → AreDistinct (with_session x ys) → AreDistinct (cond b (x ∷ y ∷ ys) (y ∷ with_session x ys))
    by true again = (miss, d)
    by false again = (any-insert (λ (s : Session). s.id == y.id) x ys ∙ or_from (x.id == y.id) (is_among y.id ys) (eqb-other y.id x.id parts.0) d.0, again)

live-insert : (gone : Bool) (x : Session) (xs ys : List Session) → ys ≡ cond (not gone) (with_session x xs) xs → ys ≡ cond gone xs (with_session x xs)
live-insert true x xs ys e = e
live-insert false x xs ys e = e

pub established-follows : (side : Side) (log : Log) (id offset : ℕ) → AreSorted (call_view log).sessions
    → state_by (transport_view side (Called (SessionEstablished id offset) ∷ log)) (call_view (Called (SessionEstablished id offset) ∷ log)) (control_sent side log) (is_open log) (stream_table side log)
    ≡ after_entry (transport_view side log) (Called (SessionEstablished id offset)) (state_of side log)
unfolding state_of
established-follows side log id offset sorted =
    let calls : CallView = call_view log in
    let table : StreamTable = stream_table side log in
    let x : Session = record { id = id; offset = offset } in
    λ i. record (state_of side log) {
      dispatched = record (dispatched_streams calls table) { is_established = λ k. any-insert (is_session k) x calls.sessions i };
      sessions = live-insert (is_gone calls table id) x (filter (λ (s : Session). not (is_gone calls table s.id)) calls.sessions)
          (filter (λ (s : Session). not (is_gone calls table s.id)) (with_session x calls.sessions))
          (filter-insert (λ (s : Session). not (is_gone calls table s.id)) x calls.sessions sorted) i;
    }
