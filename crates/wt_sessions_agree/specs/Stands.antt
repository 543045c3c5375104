-- When a history of turns and answers stands for a log of entries: what calls and moments ask has the same answer in both.
use Rattle.std.specs.Prelude.{◌&&◌, ◌==◌, ◌≡◌, Bool, List, None, Ok, Option, Some, codes, filter_map, is_some, length, not, true, false, unwrap_or, ℕ}
use Rattle.std.specs.List.{list_any}
use Rattle.url.specs.Parser.{parse_url}
use Rattle.wt_meaning.specs.Calls.{being_opened}
use Rattle.wt_meaning.specs.Halves.{is_done, priority_of, was_read}
use Rattle.wt_meaning.specs.Handshakes.{acceptance_frame, last_begun, was_given}
use Rattle.wt_meaning.specs.History.{History, Pair, actions_out, contents, events, exists, is_given_up, is_handed_out, is_reset, is_reset_of, stream_count}
use Rattle.wt_meaning.specs.Lawful.{all_answered, fails_incoming, has_request, is_client, is_first, is_waiting}
use Rattle.wt_meaning.specs.Moments.{findings, ids_from, is_ready}
use Rattle.wt_meaning.specs.Targets.{Target, target_of}
use Rattle.wt_meaning.specs.Windows.{first_session, is_established, is_gone_by_call, last_request, named}
use Rattle.wt_message.specs.FixedBytes.{response_bytes}
use Rattle.wt_turn.specs.Reports.{datagrams_of, end_of, stop_of}
use Rattle.wt_turn.specs.Sent.{has_dialled, is_finished, sent_on}
use Rattle.wt_turn.specs.Sent as sends
use Rattle.wt_turn.specs.Streams.{local_count, peer_bi, peer_count, peer_uni}
use Rattle.wt_sessions.specs.Answers as answers
use Rattle.wt_sessions.specs.Connection.{opening_session}
use Rattle.wt_sessions.specs.Driver as drivers
use Rattle.wt_sessions.specs.Driver.{call_view, delivers, gives_up, members_of, stream_table}
use Rattle.wt_sessions.specs.Halves as halves
use Rattle.wt_sessions.specs.Handshake as handshakes
use Rattle.wt_sessions.specs.Handshake.{HandshakeState, awaits_answer, awaits_request, handshake_state, is_continuable, requested_stream}
use Rattle.wt_sessions.specs.StreamTable.{CallView, TransportView, was_established}
use Rattle.wt_sessions_agree.specs.Agrees.{Agrees, IsTable}
use Rattle.wt_sessions_agree.specs.Orderly.{Orderly, session_at}
use Rattle.wt_turn.specs.Log.{CallRecord, Log, OpeningFailed, actions_of, calls_of}
use Rattle.wt_turn.specs.declared.action.Action.{Action}
use Rattle.wt_turn.specs.declared.call.Call.{Call}
use Rattle.wt_wire.specs.declared.side.Side.{Side}
use Rattle.wt_turn.specs.declared.call.Call.TheVariants as calls

-- ---- what a moment looks at

-- what the transport reported of each stream is the same
pub record ViewsAgree (side : Side) (h : History) (t : TransportView) : Type 0 where
  pub own : t.side ≡ side
  pub contents : (k : ℕ) → t.contents k ≡ contents h k
  pub end : (k : ℕ) → t.end k ≡ end_of (events h) k
  pub stopped : (k : ℕ) → t.is_stopped k ≡ is_some (stop_of (events h) k)

-- what calls gave, ended and established is the same
pub record CallsAgree (h : History) (calls : CallView) : Type 0 where
  pub accepted : (k : ℕ) → calls.accepted k ≡ is_handed_out h k
  pub ended : (s : ℕ) → calls.ended s ≡ is_gone_by_call h s
  pub established : (s : ℕ) → was_established calls s ≡ is_established h s

-- both of these, and the numbers of streams, the datagrams, and the established sessions, by id
pub record SeesAlike (side : Side) (h : History) (t : TransportView) (view : CallView) (offset : ℕ → ℕ) : Type 0 where
  pub views : ViewsAgree side h t
  pub ready : t.ready ≡ is_ready side h
  pub unis : t.unis ≡ peer_count side (events h) (peer_uni side)
  pub bis : t.bis ≡ peer_count side (events h) (peer_bi side)
  pub datagrams : t.datagrams ≡ datagrams_of (events h)
  pub calls : CallsAgree h view
  pub sessions : view.sessions ≡ filter_map (session_at h offset) (ids_from 0 0 (stream_count side h 0))

-- ---- what went out

-- of each stream the same went out, and both dialled or neither did
pub record SameOut (as_ bs : List Action) : Type 0 where
  pub sent : (k : ℕ) → sent_on as_ k ≡ sent_on bs k
  pub finished : (k : ℕ) → is_finished as_ k ≡ is_finished bs k
  pub reset : (k : ℕ) → list_any (is_reset_of k) as_ ≡ list_any (is_reset_of k) bs
  pub opened : (kind : ℕ) → local_count as_ kind ≡ local_count bs kind
  pub dialled : has_dialled as_ ≡ has_dialled bs

-- ---- what calls ask of streams

-- of each stream: whether it was given up and reset, how much of it was read, and the priority, until it is done
pub record HalvesAgree (h : History) (log : Log) : Type 0 where
  pub given_up : (k : ℕ) → is_given_up h k ≡ list_any (gives_up k) (calls_of log)
  pub reset : (k : ℕ) → is_reset h k ≡ sends.is_reset log k
  pub read : (k : ℕ) → length (was_read h k) ≡ halves.total_read k (calls_of log)
  pub priority : (k : ℕ) → is_done h k ≡ false → priority_of h k ≡ sends.priority_of (calls_of log) k

-- a stream is being opened in neither, or in both for the same session
pub data OpeningAgrees (h : History) (log : Log) (k : ℕ) : Type 0 where
  NotOpening : being_opened h k ≡ None → opening_session log k ≡ None → OpeningAgrees h log k
  IsOpening : (name : Option ℕ) (s : ℕ) → being_opened h k ≡ Some name → named h name ≡ Some s → opening_session log k ≡ Some s → OpeningAgrees h log k

-- the call's record fails the opening of this stream
abbrev pub fails_opening : ℕ → CallRecord → Bool
fails_opening k (OpeningFailed id) = id == k
fails_opening k _ = false

-- ---- what calls ask of the handshake

-- the call begins this response
abbrev pub IsResponse : Bool → List ℕ → Call → Type 0
IsResponse true head (calls.Accept headers) = head ≡ acceptance_frame headers
IsResponse false head calls.Forbidden = head ≡ response_bytes (codes "403")
IsResponse false head calls.NotFound = head ≡ response_bytes (codes "404")
IsResponse false head calls.TooManyRequests = head ≡ response_bytes (codes "429")
IsResponse accepts head _ = ⊥

-- the call begins a connect with this request
abbrev pub IsConnect : Option (List ℕ) → List ℕ → Call → Type 0
IsConnect reserved head (calls.Connect options lookup outcome) =
    (t : Target) × (target_of (parse_url None options.0) options.1 lookup outcome ≡ Ok t) × (t.reserved ≡ reserved) × (t.frame ≡ head)
IsConnect reserved head _ = ⊥

-- the call that was begun last is what the handshake is at
abbrev pub BegunAgrees : HandshakeState → Option Call → Type 0
BegunAgrees (handshakes.Responding accepts head) (Some c) = IsResponse accepts head c
BegunAgrees (handshakes.Responding accepts head) None = ⊥
BegunAgrees (handshakes.Connecting reserved head) (Some c) = IsConnect reserved head c
BegunAgrees (handshakes.Connecting reserved head) None = ⊥
BegunAgrees _ begun = Unit {0}

-- the handshake is as far in both
pub record HandshakeAgrees (side : Side) (h : History) (state : HandshakeState) : Type 0 where
  pub waiting : is_waiting h ≡ is_continuable state
  pub requested : is_client side ≡ false → has_request h ≡ awaits_answer state
  pub awaits : is_client side ≡ false → (not (list_any (λ (p : Pair). fails_incoming p.turn p.answer.reply) h) && all_answered h) ≡ awaits_request state
  pub begun : BegunAgrees state (last_begun h)

-- ---- the whole

-- the history stands for the log; its sessions' parts of their streams begin at these offsets
pub record Stands (side : Side) (offset : ℕ → ℕ) (h : History) (log : Log) : Type 0 where
  pub first : is_first h ≡ answers.is_first log
  pub came : Agrees h log
  pub out : SameOut (actions_out h) (actions_of log)
  pub table : IsTable (findings side h) (stream_table side log)
  pub calls : CallsAgree h (call_view log)
  pub sessions : (call_view log).sessions ≡ filter_map (session_at h offset) (ids_from 0 0 (stream_count side h 0))
  pub named : first_session h ≡ drivers.first_session (calls_of log)
  pub orderly : Orderly side h (call_view log) offset (findings side h)
  pub halves : HalvesAgree h log
  pub openings : (k : ℕ) → OpeningAgrees h log k
  pub unfailed : (k : ℕ) → exists side h k ≡ false → list_any (fails_opening k) (calls_of log) ≡ false
  pub delivered : (k : ℕ) → was_given h k ≡ list_any (delivers k) (calls_of log)
  pub request : unwrap_or (last_request h) 0 ≡ requested_stream (calls_of log)
  pub handshake : HandshakeAgrees side h (handshake_state (calls_of log))
