-- What holds of all that the moments of a history found, and is kept by every check.
use Rattle.std.specs.Prelude.{◌&&◌, ◌*◌, ◌+◌, ◌==◌, ◌||◌, ◌≡◌, ◌≤◌, ◌<◌, Bool, List, None, Option, Some, drop, false, filter, filter_map, if◌then◌else◌, length, nat_lt, not, true, unwrap_or, ℕ}
use Rattle.std.specs.List.{list_all}
use Rattle.wt_meaning.specs.Findings.{Finding, is_classified, is_datagram, is_dequeued, verdict_of}
use Rattle.wt_meaning.specs.History.{History, contents, events}
use Rattle.wt_meaning.specs.Moments.{ids_from, is_ready}
use Rattle.wt_meaning.specs.Windows.{after_request, after_response, is_established, received_count}
use Rattle.wt_proto.specs.ResponseWalk.{response_walk_of}
use Rattle.wt_turn.specs.Reports.{end_of}
use Rattle.wt_sessions.specs.Moment.{is_peers}
use Rattle.wt_sessions.specs.StreamTable.{Admitted, CallView, Session}
use Rattle.wt_sessions_agree.specs.Agrees.{admitted_in}
use Rattle.wt_wire.specs.declared.side.Side.{Side}

-- ---- streams

-- how many of the first i streams of the kind have no verdict
abbrev pub unclassified : List Finding → ℕ → ℕ → ℕ
unclassified found kind i = length (filter (λ (j : ℕ). not (is_classified found j)) (ids_from kind 0 i))

-- before a stream that is dequeued and has no verdict, fewer than 4 of its kind have none
abbrev pub Few : ℕ → List Finding → Type 0
Few kind found = (i : ℕ) → is_dequeued found (4 * i + kind) ≡ true → is_classified found (4 * i + kind) ≡ false → nat_lt (unclassified found kind i) 4 ≡ true

-- before this end is ready no stream is dequeued
abbrev pub NoneEarly : Side → History → List Finding → Type 0
NoneEarly side h found = is_ready side h ≡ false → (k : ℕ) → is_dequeued found k ≡ false

-- ---- datagrams

-- the datagram wasn't received
abbrev pub is_left : CallView → Admitted → Bool
is_left calls d = not (calls.received d.index)

-- the datagram is of this session
abbrev pub is_of : ℕ → Admitted → Bool
is_of s d = d.session == s

-- the datagrams that calls received are the first of their session; those of sessions that weren't established, and those that
-- weren't read yet, weren't received
pub record Received (h : History) (calls : CallView) (found : List Finding) : Type 0 where
  pub left : (s : ℕ) → filter (is_left calls) (filter (is_of s) (filter_map admitted_in found)) ≡ drop (received_count h s) (filter (is_of s) (filter_map admitted_in found))
  pub within : (s : ℕ) → received_count h s ≤ length (filter (is_of s) (filter_map admitted_in found))
  pub early : list_all (λ (d : Admitted). is_left calls d || is_established h d.session) (filter_map admitted_in found) ≡ true
  pub later : (n : ℕ) → length (filter is_datagram found) ≤ n → calls.received n ≡ false

-- ---- sessions

-- the session with this id, where it was established, and where its part of its stream begins
abbrev pub session_at : History → (ℕ → ℕ) → ℕ → Option Session
session_at h offset k = if is_established h k then Some (record { id = k; offset = offset k }) else None

-- where a session's part of its stream begins, by what was found
abbrev pub begins_at : History → List Finding → ℕ → ℕ
begins_at h found s = unwrap_or (after_request (verdict_of found s)) (after_response (response_walk_of (contents h s) (end_of (events h) s)))

-- each established session's part of its stream begins at this offset
abbrev pub PartsBegin : History → (ℕ → ℕ) → List Finding → Type 0
PartsBegin h offset found = (k : ℕ) → is_established h k ≡ true → begins_at h found k ≡ offset k

-- an established session's stream has a verdict, where the peer opened it
abbrev pub Known : Side → History → List Finding → Type 0
Known side h found = (k : ℕ) → is_established h k ≡ true → (is_peers side k && not (is_classified found k)) ≡ false

-- ---- all together

-- what was found is in order, after these calls and with these offsets of the sessions' parts
pub record Orderly (side : Side) (h : History) (calls : CallView) (offset : ℕ → ℕ) (found : List Finding) : Type 0 where
  pub few : (kind : ℕ) → kind < 4 → Few kind found
  pub none_early : NoneEarly side h found
  pub received : Received h calls found
  pub begin : PartsBegin h offset found
  pub known : Known side h found
