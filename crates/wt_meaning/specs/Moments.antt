-- What each moment finds, by one recursion over the moments of a history. Every pair is a moment, and the reply that
-- establishes a session is one more. A check asks about the history's turns and answers, about earlier moments, and
-- about what was found before it at the same moment; after a fault nothing is found any more.
use Rattle.std.specs.Prelude.{[], ◌%◌, ◌&&◌, ◌*◌, ◌++◌, ◌+◌, ◌/◌, ◌==◌, ◌∷◌, Bool, Err, List, None, Ok, Option, Result, Some, drop, false, filter, flat_map, if◌then◌else◌, is_some, length, map, nat_le, nat_lt, not, suc, zero, ℕ}
use Rattle.wt_message.specs.Datagram.{datagram_of}
use Rattle.wt_proto.specs.Bi.{bi_verdict_of}
use Rattle.wt_proto.specs.ControlWalk.{control_walk_of}
use Rattle.wt_proto.specs.Uni.{uni_verdict_of}
use Rattle.wt_proto.specs.declared.control_walk.ControlWalk.{ControlWalk}
use Rattle.wt_proto.specs.declared.session_walk.SessionWalk.{SessionWalk}
use Rattle.wt_proto.specs.declared.verdict.Verdict.{Verdict}
use Rattle.wt_turn.specs.Reports.{credit, datagrams_of, end_of, is_connected, is_running, stop_of, unis_allowed}
use Rattle.wt_turn.specs.Streams.{local_uni, peer_bi, peer_count, peer_uni}
use Rattle.wt_proto.specs.SessionWalk.{is_over, session_walk_of}
use Rattle.wt_turn.specs.declared.reply.Reply.{Reply}
use Rattle.wt_wire.specs.Ids.{is_bidirectional}
use Rattle.wt_wire.specs.declared.error.ErrorCode.{ErrorCode}
use Rattle.wt_wire.specs.declared.side.Side.{Side}
use Rattle.wt_meaning.specs.Findings.{Classified, DatagramRead, Dequeued, Faulted, Finding, SessionClosed, SettingsRead, control_in, decoder_in, encoder_in, fault_of, first_of, is_classified, is_datagram, is_dequeued, settings_came}
use Rattle.wt_meaning.specs.History.{History, contents, events, is_open, stream_count}
use Rattle.wt_meaning.specs.Windows.{datagrams_in_window, held_requests, is_gone, lives, session_part, streams_in_window}
use Rattle.wt_proto.specs.declared.session_walk.SessionWalk.TheVariants as walks
use Rattle.wt_proto.specs.declared.verdict.Verdict.TheVariants as verdicts
use Rattle.wt_turn.specs.declared.reply.Reply.TheVariants as replies
use Rattle.wt_wire.specs.declared.error.ErrorCode.TheVariants as h3
use Rattle.wt_wire.specs.declared.side.StreamEnd.TheVariants as ends

-- ---- streams of the peer

-- this end's SETTINGS can go out: the peer allows one unidirectional stream, with credit for all 25 bytes (this repository's rule)
abbrev pub is_ready : Side → History → Bool
is_ready side h = is_connected (events h) && nat_le 1 (unis_allowed (events h)) && nat_le 25 (credit (events h) (local_uni side))

-- the ids of `count` streams of a kind, from the n-th on
abbrev pub ids_from : ℕ → ℕ → ℕ → List ℕ
ids_from kind n zero = []
ids_from kind n (suc count) = (4 * n + kind) ∷ ids_from kind (suc n) count

-- how many earlier streams of the kind aren't classified
abbrev pub unclassified_before : List Finding → ℕ → ℕ
unclassified_before found k = length (filter (λ (j : ℕ). not (is_classified found j)) (ids_from (k % 4) 0 (k / 4)))

-- a stream is dequeued at the first ready moment at which fewer than 4 earlier streams of its kind aren't classified (this repository's rule)
abbrev pub dequeuing : Side → History → List Finding → ℕ → List Finding
dequeuing side h found k = if not (is_dequeued found k) && is_ready side h && nat_lt (unclassified_before found k) 4 then Dequeued k ∷ [] else []

-- what the stream's contents and its end show it to be
abbrev pub verdict : History → ℕ → Verdict
verdict h k = if is_bidirectional k then bi_verdict_of (contents h k) (end_of (events h) k) else uni_verdict_of (contents h k) (end_of (events h) k)

-- a session's stream is admitted where the session isn't gone and fewer than 16 streams wait in its window; a request is
-- queued where fewer than 4 are held, else it is surplus (this repository's rules)
abbrev pub keeps : History → List Finding → Verdict → Bool
keeps h found (verdicts.WebTransport session offset) = not (is_gone h found session) && nat_lt (streams_in_window h found session) 16
keeps h found (verdicts.Request headers offset) = nat_lt (held_requests h found) 4
keeps h found _ = false

-- the fault, where the test holds
abbrev pub fault_if : Bool → ErrorCode → List Finding
fault_if holds code = if holds then Faulted code ∷ [] else []

-- the fault of a stream that is classified: its header is one, or it is a second control, encoder's or decoder's stream (RFC 9114, section 6.2.1; RFC 9204, section 4.2)
abbrev pub stream_fault : List Finding → Verdict → List Finding
stream_fault found (verdicts.Fault code) = Faulted code ∷ []
stream_fault found (verdicts.Control offset) = fault_if (is_some (first_of control_in found)) h3.StreamCreation
stream_fault found (verdicts.Encoder offset) = fault_if (is_some (first_of encoder_in found)) h3.StreamCreation
stream_fault found (verdicts.Decoder offset) = fault_if (is_some (first_of decoder_in found)) h3.StreamCreation
stream_fault found _ = []

-- a verdict other than Incomplete classifies the stream
abbrev pub classified_as : History → List Finding → ℕ → Verdict → List Finding
classified_as h found k verdicts.Incomplete = []
classified_as h found k v = Classified k v (keeps h found v) ∷ stream_fault found v

-- a stream is classified at the first moment at which it is dequeued and its verdict isn't Incomplete
abbrev pub classifying : History → List Finding → ℕ → List Finding
classifying h found k = if is_dequeued found k && not (is_classified found k) then classified_as h found k (verdict h k) else []

-- ---- datagrams

-- what the n-th datagram is: admitted where its session isn't gone and fewer than 16 datagrams wait in its window (this
-- repository's rule); what has no quarter id is a fault (RFC 9297, section 2.1)
abbrev pub datagram_found : History → List Finding → ℕ → Result (ℕ × List ℕ) ErrorCode → Finding
datagram_found h found n (Err code) = Faulted code
datagram_found h found n (Ok d) = DatagramRead n (4 * d.0) d.1 (not (is_gone h found (4 * d.0)) && nat_lt (datagrams_in_window h found (4 * d.0)) 16)

-- a datagram is read at the first ready moment, at its arrival or later (this repository's rule)
abbrev pub reading : Side → History → List Finding → ℕ → List ℕ → List Finding
reading side h found n piece = if is_ready side h && length (filter is_datagram found) == n then datagram_found h found n (datagram_of piece) ∷ [] else []

-- ---- sessions

-- what a living session's stream says; by_capsule: the session is closed before the stream's end
abbrev pub session_found : ℕ → Bool → SessionWalk → List Finding
session_found s by_capsule walks.Running = []
session_found s by_capsule (walks.Closed code reason) = SessionClosed s code reason by_capsule ∷ []
session_found s by_capsule (walks.Fault code) = Faulted code ∷ []

-- a living session is closed, or is a fault, as the walk over its part of its stream says (draft-ietf-webtrans-http3, section 5)
abbrev pub closing : History → List Finding → ℕ → List Finding
closing h found s =
    if lives h found s
    then session_found s (is_over (session_walk_of (session_part h found s) ends.Running)) (session_walk_of (session_part h found s) (end_of (events h) s))
    else []

-- ---- critical streams (RFC 9114, section 6.2.1; RFC 9204, section 4.2)

-- the walk over the frames of the first control stream
abbrev pub control_walk : History → Option (ℕ × ℕ) → ControlWalk
control_walk h None = record { settings = None; fault = None }
control_walk h (Some stream) = control_walk_of (drop stream.1 (contents h stream.0)) (end_of (events h) stream.0)

-- the end of an encoder's or decoder's stream is a fault
abbrev pub end_fault : History → Option (ℕ × ℕ) → List Finding
end_fault h None = []
end_fault h (Some stream) = fault_if (not (is_running (end_of (events h) stream.0))) h3.ClosedCriticalStream

-- ---- the checks of a moment

-- what a moment looks at
pub data Check : Type 0 where
  Dequeue : (id : ℕ) → Check  -- whether the stream is dequeued
  Classify : (id : ℕ) → Check  -- whether it is classified
  ReadDatagram : (n : ℕ) (piece : List ℕ) → Check  -- whether the n-th datagram is read
  WalkSession : (session : ℕ) → Check  -- whether the session is closed
  LocalStop : Check  -- whether the peer stopped this end's control stream
  ReadSettings : Check  -- whether the peer's SETTINGS came
  ControlFault : Check  -- whether its control stream has a fault
  EncoderEnd : Check  -- whether its encoder's stream ended
  DecoderEnd : Check  -- whether its decoder's stream ended

-- what a check finds
abbrev pub found_by : Side → History → List Finding → Check → List Finding
found_by side h found (Dequeue id) = dequeuing side h found id
found_by side h found (Classify id) = classifying h found id
found_by side h found (ReadDatagram n piece) = reading side h found n piece
found_by side h found (WalkSession session) = closing h found session
found_by side h found LocalStop = fault_if (is_some (stop_of (events h) (local_uni side))) h3.ClosedCriticalStream
found_by side h found ReadSettings =
    if not (settings_came found) && is_some (control_walk h (first_of control_in found)).settings then SettingsRead ∷ [] else []
found_by side h found ControlFault = elim (control_walk h (first_of control_in found)).fault [ Some code ↦ Faulted code ∷ [] | None ↦ [] ]
found_by side h found EncoderEnd = end_fault h (first_of encoder_in found)
found_by side h found DecoderEnd = end_fault h (first_of decoder_in found)

-- the checks of streams, one after another
abbrev pub stream_checks : List ℕ → List Check
stream_checks ids = flat_map (λ (k : ℕ). Dequeue k ∷ Classify k ∷ []) ids

-- the checks of datagrams, in order of arrival
abbrev pub datagram_checks : ℕ → List (List ℕ) → List Check
datagram_checks n [] = []
datagram_checks n (piece ∷ later) = ReadDatagram n piece ∷ datagram_checks (suc n) later

-- The order of a moment (this repository's rule): the peer's unidirectional streams by id, its bidirectional ones by id,
-- datagrams by arrival, sessions by id, this end's control stream, the peer's, its encoder's and decoder's.
abbrev pub checks : Side → History → List Check
checks side h =
    stream_checks (ids_from (peer_uni side) 0 (peer_count side (events h) (peer_uni side)))
    ++ stream_checks (ids_from (peer_bi side) 0 (peer_count side (events h) (peer_bi side)))
    ++ datagram_checks 0 (datagrams_of (events h)) ++ map WalkSession (ids_from 0 0 (stream_count side h 0))
    ++ LocalStop ∷ ReadSettings ∷ ControlFault ∷ EncoderEnd ∷ DecoderEnd ∷ []

-- one check after another, up to the first fault
abbrev pub after_checks : Side → History → List Check → List Finding → List Finding
after_checks side h [] found = found
after_checks side h (c ∷ later) found =
    if is_some (fault_of found) then found else after_checks side h later (found ++ found_by side h found c)

-- a reply that establishes a session is a moment more
abbrev pub after_moments : Side → History → Reply → List Finding → List Finding
after_moments side h (replies.Session id) found = after_checks side h (checks side h) (after_checks side h (checks side h) found)
after_moments side h _ found = after_checks side h (checks side h) found

-- all that was found, in order; a moment before which the connection was closed or lost finds nothing
unfoldable pub findings : Side → History → List Finding
findings side [] = []
findings side (p ∷ h) = if is_open h then after_moments side (p ∷ h) p.answer.reply (findings side h) else findings side h
