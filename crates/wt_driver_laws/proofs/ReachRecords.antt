-- The record of a call may follow a log that lawful turns lead to, where the call found what it asks for.
use Rattle.std.proofs.Common.{◌<◌, ap, refl, subst}
use Rattle.std.specs.List.{cons_option, list_any}
use Rattle.std.specs.Prelude.{[], ◌&&◌, ◌==◌, ◌∷◌, ◌≡◌, Bool, List, Some, false, filter_map, is_none, not, true, ℕ}
use Rattle.wt_driver_laws.proofs.Reach.{reached_holds}
use Rattle.wt_driver_laws.proofs.ReachHalves.{opening_laws}
use Rattle.wt_driver_laws.specs.Driving.{IsReachable}
use Rattle.wt_driver_laws.specs.Records.{is_unnoticed}
use Rattle.wt_proto.specs.declared.verdict.Verdict.{Verdict}
use Rattle.wt_proto.specs.declared.verdict.Verdict.TheVariants as verdicts
use Rattle.wt_turn.specs.Streams.{local_bi}
use Rattle.wt_sessions.proofs.Indexed.{AllOf, all-filter, all-found, all-have-verdicts, log-indexed}
use Rattle.wt_sessions.proofs.Turns.{Holds, classified-known, delivered-known, established-known, own-known}
use Rattle.wt_sessions.specs.Connection.{next_datagram, next_stream, opening_session, waits_for}
use Rattle.wt_sessions.specs.Driver.{call_view, dispatched, stream_table}
use Rattle.wt_sessions.specs.Moment.{MayRecord, is_known, is_peers}
use Rattle.wt_sessions.specs.StreamTable.{Admitted, Classified, Session, StreamTable, Waiting, is_gone, is_queued, is_session, verdict_of, waits_by, waits_in, was_established}
use Rattle.wt_turn.specs.Log.{BytesRead, CallRecord, DatagramReceived, Log, OpeningStarted, RequestDelivered, RequestRejected, Sent, SessionEstablished, StreamAccepted, StreamGivenUp, with_actions}
use Rattle.wt_turn.specs.declared.action.Action.{Action}
use Rattle.wt_wire.specs.declared.side.Side.{Side}
use Rattle.wt_wire.specs.declared.side.Side.TheVariants.{Client, Server}

-- ---- after actions

one-sent : (side : Side) (log : Log) (a : Action) (r : CallRecord) → MayRecord side log r → MayRecord side (Sent a ∷ log) r
unfolding stream_table
one-sent side log a (StreamAccepted id session) may = may
one-sent side log a (RequestDelivered id) may = may
one-sent side log a (RequestRejected id) may = may
one-sent side log a (SessionEstablished id offset) may = may
one-sent side log a (DatagramReceived index) may = may
one-sent side log a _ may = may

-- what may come may come after the call's own actions, too
pub may_after_sent : (side : Side) (own : List Action) (log : Log) (r : CallRecord) → MayRecord side log r → MayRecord side (with_actions own log) r
may_after_sent side [] log r may = may
may_after_sent side (a ∷ own) log r may = may_after_sent side own (Sent a ∷ log) r (one-sent side log a r may)

-- ---- records of which nothing is asked

pub may_unnoticed : (side : Side) (log : Log) (r : CallRecord) → is_unnoticed r ≡ true → MayRecord side log r
may_unnoticed side log (StreamAccepted id session) e = absurd (cc e)
may_unnoticed side log (RequestDelivered id) e = absurd (cc e)
may_unnoticed side log (RequestRejected id) e = absurd (cc e)
may_unnoticed side log (SessionEstablished id offset) e = absurd (cc e)
may_unnoticed side log (DatagramReceived index) e = absurd (cc e)
may_unnoticed side log _ e = tt

pub may_start : (side : Side) (log : Log) (id session : ℕ) → MayRecord side log (OpeningStarted id session)
may_start side log id session = tt

pub may_read : (side : Side) (log : Log) (id count : ℕ) → MayRecord side log (BytesRead id count)
may_read side log id count = tt

pub may_give_up : (side : Side) (log : Log) (id : ℕ) → MayRecord side log (StreamGivenUp id)
may_give_up side log id = tt

-- ---- what a session's calls give

module _ (side : Side) (log : Log) (r : IsReachable side log) where
  abbrev held : Holds side log
  held = reached_holds side log r

  abbrev table : StreamTable
  table = stream_table side log

  waits-known : (cs : List Classified) → AllOf (λ (c : Classified). is_none (verdict_of c.id table.classified) ≡ false) cs → AllOf (λ (w : Waiting). is_known side log w.id ≡ true) (filter_map (waits_in (call_view log)) cs)
  waits-known [] all = tt
  waits-known (c ∷ cs) all = by c.verdict (c.admitted && not ((call_view log).accepted c.id)) (waits-known cs all.1)
    where
      by : (v : Verdict) (b : Bool) → AllOf (λ (w : Waiting). is_known side log w.id ≡ true) (filter_map (waits_in (call_view log)) cs)
          → AllOf (λ (w : Waiting). is_known side log w.id ≡ true) (cons_option (waits_by v c.id b) (filter_map (waits_in (call_view log)) cs))
      by (verdicts.WebTransport session offset) true again = (classified-known side log held c.id all.0, again)
      by (verdicts.WebTransport session offset) false again = again
      by _ b again = again

  streams-known : AllOf (λ (w : Waiting). is_known side log w.id ≡ true) (dispatched side log).streams
  streams-known = all-filter (λ (w : Waiting). is_known side log w.id ≡ true) (λ (w : Waiting). not (is_gone (call_view log) table w.session)) (filter_map (waits_in (call_view log)) table.classified)
      (waits-known table.classified (all-have-verdicts table.classified))

  -- a stream that waits is accepted
  pub may_accept : (kind s : ℕ) (w : Waiting) → next_stream side log kind s ≡ Some w → MayRecord side log (StreamAccepted w.id s)
  may_accept kind s w e = all-found (λ (x : Waiting). is_known side log x.id ≡ true) (waits_for kind s) w (dispatched side log).streams streams-known e

  -- a stream whose opening is through
  pub may_give_opened : (id s : ℕ) → opening_session log id ≡ Some s → MayRecord side log (StreamAccepted id s)
  may_give_opened id s e = own-known side log held id (opening_laws side log r id s e).own

  datagrams-looked : AllOf (λ (d : Admitted). d.index < table.progress.datagrams) (dispatched side log).datagrams
  datagrams-looked = all-filter (λ (d : Admitted). d.index < table.progress.datagrams)
      (λ (d : Admitted). not ((call_view log).received d.index) && not (is_gone (call_view log) table d.session)) table.datagrams (log-indexed side log)

  -- a datagram that waits is received
  pub may_receive : (s : ℕ) (d : Admitted) → next_datagram side log s ≡ Some d → MayRecord side log (DatagramReceived d.index)
  may_receive s d e = all-found (λ (x : Admitted). x.index < table.progress.datagrams) (λ (x : Admitted). x.session == s) d (dispatched side log).datagrams datagrams-looked e

  -- ---- what a handshake's calls give

  requests-known : AllOf (λ (c : Classified). is_known side log c.id ≡ true) (dispatched side log).requests
  requests-known = of (dispatched side log).requests (all-filter (λ (c : Classified). is_none (verdict_of c.id table.classified) ≡ false) (λ (c : Classified). is_queued c && not ((call_view log).delivered c.id)) table.classified (all-have-verdicts table.classified))
    where
      of : (cs : List Classified) → AllOf (λ (c : Classified). is_none (verdict_of c.id table.classified) ≡ false) cs → AllOf (λ (c : Classified). is_known side log c.id ≡ true) cs
      of [] all = tt
      of (c ∷ cs) all = (classified-known side log held c.id all.0, of cs all.1)

  -- the first queued request is delivered
  pub may_deliver : (first : Classified) (more : List Classified) → (dispatched side log).requests ≡ first ∷ more → MayRecord side log (RequestDelivered first.id)
  may_deliver first more e = let all : AllOf (λ (c : Classified). is_known side log c.id ≡ true) (first ∷ more) = subst (λ (cs : List Classified). AllOf (λ (c : Classified). is_known side log c.id ≡ true) cs) e requests-known in all.0

  -- a server's session begins whose request was delivered, and which neither began nor was answered otherwise
  pub may_establish : (id offset : ℕ) → (call_view log).delivered id ≡ true → was_established (call_view log) id ≡ false → MayRecord side log (SessionEstablished id offset)
  may_establish id offset d u = (delivered-known side log held id d, u)

  local-own : (x : Side) → is_peers x (local_bi x) ≡ false
  local-own Client = refl
  local-own Server = refl

  -- a client's, which is its first
  pub may_establish_first : (offset : ℕ) → (call_view log).sessions ≡ [] → MayRecord side log (SessionEstablished (local_bi side) offset)
  may_establish_first offset s = (own-known side log held (local_bi side) (local-own side), ap (λ (ss : List Session). list_any (is_session (local_bi side)) ss) s)

  -- the session of a request that was delivered ends with its rejection, and an established one by a call
  pub may_reject : (id : ℕ) → (call_view log).delivered id ≡ true → MayRecord side log (RequestRejected id)
  may_reject id d = delivered-known side log held id d

  pub may_end : (s : ℕ) → was_established (call_view log) s ≡ true → MayRecord side log (RequestRejected s)
  may_end s e = established-known side log held s e
