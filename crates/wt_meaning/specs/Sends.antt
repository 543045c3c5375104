-- What goes out at a moment beside a call's own actions: this end's control stream, and what each finding leads to.
use Rattle.std.specs.Prelude.{[], ◌&&◌, ◌*◌, ◌++◌, ◌+◌, ◌==◌, ◌∷◌, ◌||◌, Bool, List, drop, false, filter, flat_map, if◌then◌else◌, is_some, length, nat_le, not, suc, take, true, zero, ℕ}
use Rattle.std.specs.List.{list_any}
use Rattle.wt_turn.specs.Joined.{send_of}
use Rattle.wt_turn.specs.Reports.{end_of, is_running, stop_of, unis_allowed}
use Rattle.wt_turn.specs.Streams.{local_count, local_uni}
use Rattle.wt_message.specs.FixedBytes.{local_control_bytes}
use Rattle.wt_turn.specs.declared.action.Action.{Action}
use Rattle.wt_turn.specs.declared.reply.Reply.{Reply}
use Rattle.wt_turn.specs.declared.turn.Turn.{Turn}
use Rattle.wt_wire.specs.Codes.{code_of}
use Rattle.wt_wire.specs.declared.side.Side.{Side}
use Rattle.wt_meaning.specs.Findings.{Classified, Faulted, Finding, SessionClosed}
use Rattle.wt_meaning.specs.History.{History, Pair, actions_out, can_receive, can_send, credit_left, events, is_given_up, is_open, is_reset, out, stream_count, was_finished}
use Rattle.wt_meaning.specs.Moments.{findings}
use Rattle.wt_meaning.specs.Windows.{is_gone, is_number, named}
use Rattle.wt_proto.specs.declared.verdict.Verdict.TheVariants as verdicts
use Rattle.wt_turn.specs.declared.action.Action.TheVariants as actions
use Rattle.wt_turn.specs.declared.call.Call.TheVariants as calls
use Rattle.wt_turn.specs.declared.reply.Reply.TheVariants as replies
use Rattle.wt_turn.specs.declared.turn.Turn.TheVariants as turns

-- the action, where the test holds
abbrev pub action_if : Bool → Action → List Action
action_if holds a = if holds then a ∷ [] else []

-- a close with this code and no reason, where the connection is open
abbrev pub close_if_open : History → ℕ → List Action
close_if_open h code = action_if (is_open h) (actions.Close code [])

-- ---- this end's control stream

-- it opens as soon as the peer allows a unidirectional stream, and sends its 25 bytes as far as credit goes (RFC 9114, section 6.2.1)
abbrev pub control_actions : Side → History → List Action
control_actions side h =
    if nat_le 1 (unis_allowed (events h))
    then action_if (local_count (actions_out h) (local_uni side) == 0) (actions.Opened (local_uni side))
    ++ send_of (local_uni side) (take (credit_left h (local_uni side)) (drop (length (out h (local_uni side))) local_control_bytes))
    else []

-- ---- the streams of a session

-- the finding admits the stream to the session
abbrev pub admits : ℕ → ℕ → Finding → Bool
admits s k (Classified id (verdicts.WebTransport session offset) true) = id == k && session == s
admits s k _ = false

-- the pair begins to open the stream for the session
abbrev pub opens_for : History → ℕ → ℕ → Turn → Reply → Bool
opens_for h s k (turns.Call (calls.OpenUni name)) (replies.Opening id) = id == k && is_number s (named h name)
opens_for h s k (turns.Call (calls.OpenBi name)) (replies.Opening id) = id == k && is_number s (named h name)
opens_for h s k _ _ = false

-- the stream is one of the session's: it was admitted, so that it waits or was handed out, or this end opened it
abbrev pub is_of_session : History → List Finding → ℕ → ℕ → Bool
is_of_session h found s k = list_any (admits s k) found || list_any (λ (p : Pair). opens_for h s k p.turn p.answer.reply) h

-- `count` numbers, from n on
abbrev pub numbers_from : ℕ → ℕ → List ℕ
numbers_from n zero = []
numbers_from n (suc count) = n ∷ numbers_from (suc n) count

-- the ids of all streams, in order, and some more
abbrev pub stream_ids : Side → History → List ℕ
stream_ids side h = numbers_from 0 (4 * (stream_count side h 0 + stream_count side h 1 + stream_count side h 2 + stream_count side h 3))

-- each half that still runs ends with WEBTRANSPORT_SESSION_GONE: a receiving half that the peer didn't end and the
-- application didn't give up, a sending half that is neither finished nor reset (draft-ietf-webtrans-http3, section 5)
abbrev pub stream_gone_actions : Side → History → ℕ → List Action
stream_gone_actions side h k =
    action_if (can_receive side h k && is_running (end_of (events h) k) && not (is_given_up h k)) (actions.StopOut k 0x170d7b68)
    ++ action_if (can_send side h k && not (was_finished h k) && not (is_reset h k)) (actions.ResetOut k 0x170d7b68)

-- what goes out, by id, for the streams of a session that becomes gone
abbrev pub session_gone_actions : Side → History → List Finding → ℕ → List Action
session_gone_actions side h found s = flat_map (stream_gone_actions side h) (filter (is_of_session h found s) (stream_ids side h))

-- a session's own stream is finished, unless the peer stopped it
abbrev pub session_finish : History → ℕ → List Action
session_finish h s = action_if (not (is_some (stop_of (events h) s))) (actions.Finish s)

-- ---- what a finding leads to

-- what goes out for the finding, after those before it: a stream that no window takes is stopped with
-- WEBTRANSPORT_BUFFERED_STREAM_REJECTED, or WEBTRANSPORT_SESSION_GONE (draft-ietf-webtrans-http3, sections 4.5 and 5), a
-- refused request with its code and a surplus one with H3_REQUEST_REJECTED (RFC 9114, section 4.1.1); a session that the
-- peer closed ends its stream (after a capsule with a reset and H3_NO_ERROR; this repository's rule); a fault closes
abbrev pub actions_for : Side → History → List Finding → Finding → List Action
actions_for side h found (Classified id (verdicts.WebTransport session offset) false) =
    actions.StopOut id (if is_gone h found session then 0x170d7b68 else 0x3994bd84) ∷ []
actions_for side h found (Classified id (verdicts.Refused code) keeps) = actions.StopOut id (code_of code) ∷ session_gone_actions side h found id
actions_for side h found (Classified id (verdicts.Request headers offset) false) = actions.StopOut id 0x10b ∷ session_gone_actions side h found id
actions_for side h found (SessionClosed session code reason true) = actions.ResetOut session 0x100 ∷ session_gone_actions side h found session
actions_for side h found (SessionClosed session code reason false) = session_finish h session ++ session_gone_actions side h found session
actions_for side h found (Faulted code) = actions.Close (code_of code) [] ∷ []
actions_for side h found _ = []

-- what goes out for these findings, one after another
abbrev pub actions_for_all : Side → History → List Finding → List Finding → List Action
actions_for_all side h before [] = []
actions_for_all side h before (f ∷ later) = actions_for side h before f ++ actions_for_all side h (before ++ f ∷ []) later

-- what goes out at the newest pair's moment, after the call's own actions, which the pair has: nothing once the connection is closed or lost
abbrev pub moment_actions : Side → History → List Action
moment_actions side [] = []
moment_actions side (p ∷ h) =
    if is_open (p ∷ h)
    then control_actions side (p ∷ h) ++ actions_for_all side (p ∷ h) (findings side h) (drop (length (findings side h)) (findings side (p ∷ h)))
    else []
