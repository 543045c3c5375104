-- What the findings of a history are, said by the bytes, datagrams and events that came, and by counts.
use Rattle.std.specs.Prelude.{[], ◌%◌, ◌&&◌, ◌*◌, ◌++◌, ◌/◌, ◌∷◌, ◌||◌, ◌≡◌, Bool, Err, List, None, Ok, Option, Result, Some, filter_map, if◌then◌else◌, is_none, is_some, length, nat_le, nat_lt, not, true, ℕ}
use Rattle.std.specs.Option.{option_or}
use Rattle.wt_meaning.specs.Findings.{Classified, DatagramRead, Finding, SessionClosed, control_in, decoder_in, encoder_in, fault_of, first_of, is_classified, is_dequeued, settings_came}
use Rattle.wt_meaning.specs.History.{History, Pair, events, stream_count}
use Rattle.wt_meaning.specs.Moments.{control_walk, findings, ids_from, unclassified_before, verdict}
use Rattle.wt_proto.specs.SessionWalk.{is_over, session_walk_of}
use Rattle.wt_meaning.specs.Windows.{datagrams_in_window, held_requests, is_gone, lives, session_part, streams_in_window}
use Rattle.wt_message.specs.Datagram.{datagram_of}
use Rattle.wt_proto.specs.Uni.{is_final}
use Rattle.wt_proto.specs.declared.session_walk.SessionWalk.{SessionWalk}
use Rattle.wt_proto.specs.declared.verdict.Verdict.{Verdict}
use Rattle.wt_turn.specs.Reports.{credit, datagrams_of, end_of, is_connected, is_running, stop_of, unis_allowed}
use Rattle.wt_turn.specs.Streams.{local_uni, peer_count, peer_uni}
use Rattle.wt_wire.specs.declared.error.ErrorCode.{ErrorCode}
use Rattle.wt_wire.specs.declared.side.Side.{Side}
use Rattle.wt_proto.specs.declared.session_walk.SessionWalk.TheVariants as walks
use Rattle.wt_proto.specs.declared.verdict.Verdict.TheVariants as verdicts
use Rattle.wt_wire.specs.declared.error.ErrorCode.TheVariants as h3
use Rattle.wt_wire.specs.declared.side.StreamEnd.TheVariants as ends

-- ---- streams

-- the peer opened the stream while the connection was open
abbrev pub peer_opened : Side → History → ℕ → Bool
peer_opened side h k = nat_lt (k / 4) (peer_count side (events h) (k % 4))

-- what a stream is classified as rests on what came for it: the peer opened it, and its contents and its end show that, then and from then on
pub record ShownBy (side : Side) (h : History) (k : ℕ) (v : Verdict) : Type 0 where
  pub opened : peer_opened side h k ≡ true
  pub shown : verdict h k ≡ v
  pub final : is_final v ≡ true

-- this end's SETTINGS can go out whole: the peer allows a unidirectional stream and 25 bytes on it
abbrev pub can_set_up : Side → History → Bool
can_set_up side h = is_connected (events h) && nat_le 1 (unis_allowed (events h)) && nat_le 25 (credit (events h) (local_uni side))

-- while the connection is open, a stream of the peer is read as soon as this end can set up and fewer than 4 lower ones of
-- its kind are not classified; it is classified as soon as it is read and its header or its end is there
pub record StreamSettled (side : Side) (h : History) (k : ℕ) : Type 0 where
  pub read : is_dequeued (findings side h) k ≡ (can_set_up side h && nat_lt (unclassified_before (findings side h) k) 4)
  pub classified : is_classified (findings side h) k ≡ (is_dequeued (findings side h) k && is_final (verdict h k))

-- ---- datagrams

-- the session that a datagram names by a quarter of its id, and its payload (RFC 9297, section 2.1)
abbrev pub said_by : Result (ℕ × List ℕ) ErrorCode → Option (ℕ × List ℕ)
said_by (Err code) = None
said_by (Ok d) = Some (4 * d.0, d.1)

-- these, of a datagram that was read
abbrev pub read_in : Finding → Option (ℕ × List ℕ)
read_in (DatagramRead n session payload keeps) = Some (session, payload)
read_in _ = None

-- the datagrams that were read, in order
abbrev pub datagrams_read : Side → History → List (ℕ × List ℕ)
datagrams_read side h = filter_map read_in (findings side h)

-- ---- sessions

-- how the peer ended the session, by the frames and capsules of its stream
abbrev pub session_walk : History → List Finding → ℕ → SessionWalk
session_walk h found s = session_walk_of (session_part h found s) (end_of (events h) s)

-- ---- the peer's control stream

-- the stream, where its contents show a control stream, and where its frames begin
abbrev pub control_at : ℕ → Verdict → Option (ℕ × ℕ)
control_at k (verdicts.Control offset) = Some (k, offset)
control_at k _ = None

-- of the peer's streams whose contents show a control stream, the one of least id
abbrev pub least_control : Side → History → Option (ℕ × ℕ)
least_control side h = first_of (λ (k : ℕ). control_at k (verdict h k)) (ids_from (peer_uni side) 0 (peer_count side (events h) (peer_uni side)))

-- ---- what is found while the connection is open

-- while the connection is open, all of this was found, and nothing else: the streams that could be read and classified,
-- each datagram that came since this end can set up, the end of each session, and the peer's SETTINGS, on its control stream of least id
pub record AllFound (side : Side) (h : History) : Type 0 where
  pub streams : (k : ℕ) → peer_opened side h k ≡ true → StreamSettled side h k
  pub datagrams : length (datagrams_read side h) ≡ (if can_set_up side h then length (datagrams_of (events h)) else 0)
  pub sessions : (s : ℕ) → lives h (findings side h) s ≡ true → session_walk h (findings side h) s ≡ walks.Running
  pub control : is_some (first_of control_in (findings side h)) ≡ true → first_of control_in (findings side h) ≡ least_control side h
  pub settings : settings_came (findings side h) ≡ is_some (control_walk h (first_of control_in (findings side h))).settings

-- ---- the fault of a moment

-- the code, where the test holds
abbrev pub code_if : Bool → ErrorCode → Option ErrorCode
code_if holds code = if holds then Some code else None

-- what a stream was classified as is a fault
abbrev pub header_fault : Finding → Option ErrorCode
header_fault (Classified k (verdicts.Fault code) keeps) = Some code
header_fault _ = None

-- two streams were classified so
abbrev pub twice : (Finding → Option (ℕ × ℕ)) → List Finding → Bool
twice says found = nat_le 2 (length (filter_map says found))

-- a stream that was classified: its header is a fault, or it is a second control, encoder's or decoder's stream (RFC 9114, section 6.2.1; RFC 9204, section 4.2)
abbrev pub streams_fault : List Finding → Option ErrorCode
streams_fault found = option_or (first_of header_fault found) (code_if (twice control_in found || twice encoder_in found || twice decoder_in found) h3.StreamCreation)

-- a datagram that has no quarter id (RFC 9297, section 2.1)
abbrev pub datagram_fault : Result (ℕ × List ℕ) ErrorCode → Option ErrorCode
datagram_fault (Err code) = Some code
datagram_fault (Ok d) = None

-- the first such, once this end can set up
abbrev pub datagrams_fault : Side → History → Option ErrorCode
datagrams_fault side h = if can_set_up side h then first_of (λ (piece : List ℕ). datagram_fault (datagram_of piece)) (datagrams_of (events h)) else None

-- a walk that is a fault
abbrev pub walk_fault : SessionWalk → Option ErrorCode
walk_fault (walks.Fault code) = Some code
walk_fault _ = None

-- by id, a living session whose walk is a fault
abbrev pub sessions_fault : Side → History → List Finding → Option ErrorCode
sessions_fault side h found = first_of (λ (s : ℕ). if lives h found s then walk_fault (session_walk h found s) else None) (ids_from 0 0 (stream_count side h 0))

-- the end of an encoder's or decoder's stream (RFC 9204, section 4.2)
abbrev pub ended_fault : History → Option (ℕ × ℕ) → Option ErrorCode
ended_fault h None = None
ended_fault h (Some stream) = code_if (not (is_running (end_of (events h) stream.0))) h3.ClosedCriticalStream

-- what is looked at before SETTINGS: a stream that was classified, a datagram, a session, and a stop of this end's control stream (RFC 9114, section 6.2.1)
abbrev pub early_fault : Side → History → List Finding → Option ErrorCode
early_fault side h found =
    option_or (streams_fault found)
    (option_or (datagrams_fault side h) (option_or (sessions_fault side h found) (code_if (is_some (stop_of (events h) (local_uni side))) h3.ClosedCriticalStream)))

-- the first of all: then the control stream's, the encoder's and the decoder's (this repository's order)
abbrev pub first_fault : Side → History → List Finding → Option ErrorCode
first_fault side h found =
    option_or (early_fault side h found)
    (option_or (control_walk h (first_of control_in found)).fault (option_or (ended_fault h (first_of encoder_in found)) (ended_fault h (first_of decoder_in found))))

-- a moment of an open connection has the first fault, and SETTINGS come at it where nothing in front of them is one
pub record FaultIsFirst (side : Side) (p : Pair) (h : History) : Type 0 where
  pub fault : fault_of (findings side (p ∷ h)) ≡ first_fault side (p ∷ h) (findings side (p ∷ h))
  pub settings : settings_came (findings side (p ∷ h))
      ≡ (settings_came (findings side h)
      || (is_none (early_fault side (p ∷ h) (findings side (p ∷ h))) && is_some (control_walk (p ∷ h) (first_of control_in (findings side (p ∷ h)))).settings))

-- ---- what is kept

-- what a finding rests on, beside what was found before it: a stream and a datagram are admitted where their session isn't
-- gone and fewer than 16 wait in its window, a request is queued where fewer than 4 are held; a session that lives is closed as its stream says
abbrev pub FoundFor : History → List Finding → Finding → Type 0
FoundFor h found (Classified k (verdicts.WebTransport session offset) keeps) = keeps ≡ (not (is_gone h found session) && nat_lt (streams_in_window h found session) 16)
FoundFor h found (Classified k (verdicts.Request headers offset) keeps) = keeps ≡ nat_lt (held_requests h found) 4
FoundFor h found (DatagramRead n session payload keeps) = keeps ≡ (not (is_gone h found session) && nat_lt (datagrams_in_window h found session) 16)
FoundFor h found (SessionClosed s code reason by_capsule) =
    (lives h found s ≡ true) × (session_walk h found s ≡ walks.Closed code reason) × (by_capsule ≡ is_over (session_walk_of (session_part h found s) ends.Running))
FoundFor h found _ = Unit {0}

-- what a moment finds, each after what was found before it; what was found stays
pub record FoundRightly (side : Side) (p : Pair) (h : History) : Type 0 where
  pub new : List Finding
  pub stays : findings side (p ∷ h) ≡ findings side h ++ new
  pub each : (before after : List Finding) (f : Finding) → new ≡ before ++ f ∷ after → FoundFor (p ∷ h) (findings side h ++ before) f

-- the stream that the finding classifies
abbrev pub classified_id : Finding → Option ℕ
classified_id (Classified k verdict keeps) = Some k
classified_id _ = None

-- the first list is the second, of which some were left out
pub data IsSubsequence {T : Type 0} : List T → List T → Type 0 where
  Nil : (ys : List T) → IsSubsequence [] ys
  LeftOut : (xs : List T) (y : T) (ys : List T) → IsSubsequence xs ys → IsSubsequence xs (y ∷ ys)
  Taken : (xs : List T) (y : T) (ys : List T) → IsSubsequence xs ys → IsSubsequence (y ∷ xs) (y ∷ ys)
