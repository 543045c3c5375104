-- A session becomes gone: its streams end, by id, and nothing more is kept of it but how it ended (draft-ietf-webtrans-http3, section 5).
use Rattle.std.specs.Prelude.{[], ◌&&◌, ◌==◌, ◌∷◌, Bool, List, None, Option, Some, filter, if◌then◌else◌, map, nat_lt, not, ℕ}
use Rattle.wt_kept.specs.Kept.{DispatchedNow, GoneNow, LiveNow, QueuedRequest, RequestsNow, SessionEndNow, SessionsNow, WorkNow}
use Rattle.wt_kept.specs.Lists.{without_first}
use Rattle.wt_kept.specs.Windows.{is_live, live_in, part_of, without}
use Rattle.wt_sessions.specs.StreamTable.{Waiting, with_ids}
use Rattle.wt_transport.specs.State.{TransportState}
use Rattle.wt_transport.specs.Running.{reset_running_now, stop_running_now}
use Rattle.wt_transport.specs.Step.{after_finish, after_give_up, can_receive_now, may_send_now}
use Rattle.wt_wire.specs.Codes.{code_of}
use Rattle.wt_wire.specs.declared.error.ErrorCode.{ErrorCode}
use Rattle.wt_wire.specs.declared.error.ErrorCode.TheVariants as h3

-- ---- what is left of it

-- those that are gone with one more, by id
abbrev pub with_gone : GoneNow → List GoneNow → List GoneNow
with_gone g [] = g ∷ []
with_gone g (x ∷ xs) = if nat_lt x.id g.id then x ∷ with_gone g xs else g ∷ x ∷ xs

-- the ids of streams that wait
abbrev pub waiting_ids : List Waiting → List ℕ
waiting_ids xs = map (λ (x : Waiting). x.id) xs

-- the streams that a session leaves: all, by id, and those that waited for it
pub record Remains : Type 0 where
  pub streams : List ℕ
  pub waiting : List ℕ

-- of one that lived, and of one that never did
abbrev pub remains_of : SessionsNow → ℕ → Option LiveNow → Remains
remains_of d s (Some x) = record { streams = with_ids (waiting_ids x.window.streams) x.members; waiting = waiting_ids x.window.streams }
remains_of d s None = record { streams = with_ids (waiting_ids (part_of s d.early).streams) []; waiting = waiting_ids (part_of s d.early).streams }

-- the sessions after it
abbrev pub ended_by : SessionsNow → ℕ → SessionEndNow → Option LiveNow → SessionsNow
ended_by d s end (Some x) = record d { living = without_first (is_live s) d.living; gone = with_gone (record { id = s; end = end }) d.gone }
ended_by d s end None = record d { early = without s d.early; gone = with_gone (record { id = s; end = end }) d.gone }

-- ---- what goes out, and what is kept no more

-- each half of the stream that still runs is stopped or reset
abbrev pub end_stream : TransportState → ℕ → TransportState
end_stream t k = reset_running_now (stop_running_now t k (code_of h3.SessionGone)) k (code_of h3.SessionGone)

-- of these streams, one after another
abbrev pub end_streams : TransportState → List ℕ → TransportState
end_streams t [] = t
end_streams t (k ∷ ks) = end_streams (end_stream t k) ks

-- nothing of the stream is kept, where this end receives on it
abbrev pub give_up_now : TransportState → ℕ → TransportState
give_up_now t k = if can_receive_now t k then after_give_up t k else t

-- these streams are given up
abbrev pub give_up_all : TransportState → List ℕ → TransportState
give_up_all t [] = t
give_up_all t (k ∷ ks) = give_up_all (give_up_now t k) ks

-- its request is held no more
abbrev pub forget_request : ℕ → RequestsNow → RequestsNow
forget_request k r = record r { held = without_first (λ (h : ℕ). h == k) r.held }

-- nothing is kept of the session but how it ended
abbrev pub forget_session : ℕ → SessionEndNow → DispatchedNow → DispatchedNow
forget_session s end d = record d { requests = forget_request s d.requests; sessions = ended_by d.sessions s end (live_in d.sessions s) }

-- the session becomes gone
abbrev pub retire_now : ℕ → SessionEndNow → WorkNow → WorkNow
retire_now s end w = record {
  transport = give_up_now (give_up_all (end_streams w.transport (remains_of w.dispatched.sessions s (live_in w.dispatched.sessions s)).streams)
      (remains_of w.dispatched.sessions s (live_in w.dispatched.sessions s)).waiting) s;
  dispatched = forget_session s end w.dispatched;
}

-- the stream is finished, where this end may still send on it
abbrev pub finish_running : TransportState → ℕ → TransportState
finish_running t k = if may_send_now t k then after_finish t k else t

-- a session's own stream is finished, and it becomes gone
abbrev pub finish_and_retire : ℕ → SessionEndNow → WorkNow → WorkNow
finish_and_retire s end w = retire_now s end (record w { transport = finish_running w.transport s })

-- a session's own stream is reset, and it becomes gone
abbrev pub reset_and_retire : ℕ → SessionEndNow → WorkNow → WorkNow
reset_and_retire s end w = retire_now s end (record w { transport = reset_running_now w.transport s (code_of h3.NoError) })
