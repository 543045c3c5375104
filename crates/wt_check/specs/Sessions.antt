-- Rule 2: a session is given on an open connection alone, once the peer's SETTINGS came, and either a CONNECT request came that was given last
-- and all of its response of status 200 is out, or all of the connect's request is out and a 2xx came (draft-ietf-webtrans-http3, sections 3.1
-- and 3.2; RFC 9114, section 7.2.4). Of the answer that gives it, what goes out in front of the first close counts.
-- A turn that loses the connection gives no session. SETTINGS are those of the peer's control stream of least id, by its bytes; wt_meaning's
-- `settings_came` is of the first that its own order of work finds.
use Rattle.std.specs.Prelude.{[], ◌&&◌, ◌∷◌, Bool, Err, List, None, Ok, Option, Result, Some, false, if◌then◌else◌, is_some, not, true, ℕ}
use Rattle.std.specs.Option.{option_or}
use Rattle.url.specs.Parser.{parse_url}
use Rattle.wt_check.specs.Records.{is_prefix}
use Rattle.wt_meaning.specs.Findings.{first_of}
use Rattle.wt_meaning.specs.Handshakes.{acceptance_frame, begun_by, is_success}
use Rattle.wt_meaning.specs.History.{History, Pair, contents, events, is_open, loses, out}
use Rattle.wt_meaning.specs.Moments.{control_walk, verdict}
use Rattle.wt_meaning.specs.Targets.{Target, target_of}
use Rattle.wt_meaning.specs.Windows.{is_number, last_request, requests, session_in}
use Rattle.wt_promise.specs.Found.{least_control, peer_opened}
use Rattle.wt_promise.specs.Sides.{opens_of}
use Rattle.wt_proto.specs.ResponseWalk.{response_walk_of}
use Rattle.wt_proto.specs.declared.verdict.Verdict.{Verdict}
use Rattle.wt_turn.specs.Reports.{end_of}
use Rattle.wt_turn.specs.Log.{closes}
use Rattle.wt_turn.specs.declared.action.Action.{Action}
use Rattle.wt_turn.specs.declared.call.Call.{Call}
use Rattle.wt_turn.specs.declared.connecting_error.ConnectingError.{ConnectingError}
use Rattle.wt_turn.specs.declared.turn.Turn.{Turn}
use Rattle.wt_wire.specs.declared.side.Side.{Side}
use Rattle.wt_wire.specs.declared.side.Side.TheVariants.{Client, Server}
use Rattle.wt_proto.specs.declared.verdict.Verdict.TheVariants as verdicts
use Rattle.wt_turn.specs.declared.call.Call.TheVariants as calls
use Rattle.wt_turn.specs.declared.turn.Turn.TheVariants as turns
use Rattle.wt_wire.specs.declared.addr.Addr.TheVariants as addresses
use Rattle.wt_wire.specs.declared.lookup.ConnectOutcome.TheVariants as outcomes
use Rattle.wt_wire.specs.declared.lookup.Lookup.TheVariants as lookups

-- the actions in front of the first close
abbrev pub before_close : List Action → List Action
before_close [] = []
before_close (a ∷ later) = if closes a then [] else a ∷ before_close later

-- the record with the pair, of whose answer they alone count
abbrev pub up_to_close : History → Pair → History
up_to_close h p = record { turn = p.turn; answer = record { reply = p.answer.reply; actions = before_close p.answer.actions } } ∷ h

-- the peer's control stream of least id has its SETTINGS
abbrev pub settings_read : Side → History → Bool
settings_read side h = is_some (control_walk h (least_control side h)).settings

-- all of the frame went out, in front
abbrev pub went_out : History → ℕ → Option (List ℕ) → Bool
went_out h k None = false
went_out h k (Some frame) = is_prefix frame (out h k)

-- ---- a server's session

-- the stream carries a CONNECT request
abbrev pub is_request : Verdict → Bool
is_request (verdicts.Request headers offset) = true
is_request _ = false

-- the response that was begun last, since the last request
abbrev pub response_begun : History → Option Call
response_begun [] = None
response_begun (p ∷ h) = if is_some (requests p) then None else option_or (begun_by p.turn) (response_begun h)

-- its frame, where it accepts
abbrev pub accepting_frame : Option Call → Option (List ℕ)
accepting_frame (Some (calls.Accept headers)) = Some (acceptance_frame headers)
accepting_frame _ = None

-- ---- a client's session

-- the frame of a request; there is none where a header has a name that only this layer sets
abbrev pub frame_in : Result Target ConnectingError → Option (List ℕ)
frame_in (Err e) = None
frame_in (Ok t) = if is_some t.reserved then None else Some t.frame

-- the frame of the request of a connect, by its URL and its headers alone
abbrev pub asking_frame : Turn → Option (List ℕ)
asking_frame (turns.Call (calls.Connect options lookup outcome)) =
    frame_in (target_of (parse_url None options.0) options.1 (lookups.Found (addresses.V4 0 0)) outcomes.Proceed)
asking_frame _ = None

-- the first bidirectional stream that a connect, or a call that goes on with it, opens
abbrev pub opened_in : Turn → List Action → Option ℕ
opened_in (turns.Call (calls.Connect options lookup outcome)) out = first_of (opens_of 0) out
opened_in (turns.Call calls.Handshake) out = first_of (opens_of 0) out
opened_in _ out = None

-- the stream that the connect opened
abbrev pub connect_stream : History → Option ℕ
connect_stream [] = None
connect_stream (p ∷ h) = option_or (connect_stream h) (opened_in p.turn p.answer.actions)

-- ---- both

-- the session was asked for, and is granted
abbrev pub is_granted : Side → History → ℕ → Bool
is_granted Server h s =
    is_number s (last_request h) && peer_opened Server h s && is_request (verdict h s) && went_out h s (accepting_frame (response_begun h))
is_granted Client h s =
    is_number s (connect_stream h) && went_out h s (first_of (λ (p : Pair). asking_frame p.turn) h)
    && is_success (response_walk_of (contents h s) (end_of (events h) s))

-- the session that a reply gives, where it gives one, may be given
abbrev pub may_give : Side → History → Pair → Option ℕ → Bool
may_give side h p None = true
may_give side h p (Some s) = is_open h && not (loses p.turn) && settings_read side (up_to_close h p) && is_granted side (up_to_close h p) s

-- rule 2
abbrev pub gives_sessions : Side → History → Pair → Bool
gives_sessions side h p = may_give side h p (session_in p.answer.reply)
