-- How a stream's bytes are read up to the end of an item, whatever the pieces are in which they come.
use Rattle.std.specs.Prelude.{◌≡◌, ℕ, ◌<◌, ◌≤◌, List, [], length, take, Option, Some, None, is_some, Result, Ok, Err, Bool, true, false, ◌==◌, ◌&&◌, if◌then◌else◌}
use Rattle.wt_wire.specs.declared.error.ErrorCode.{ErrorCode}
use Rattle.wt_wire.specs.declared.side.StreamEnd.{StreamEnd}
use Rattle.wt_wire.specs.declared.side.StreamEnd.TheVariants.{Running, Fin, Reset}
use Rattle.wt_turn.specs.declared.poll.Poll.{Poll}
use Rattle.wt_turn.specs.declared.poll.Poll.TheVariants as polls
use Rattle.wt_turn.specs.declared.proto_error.IoReadError.TheVariants as ends
use Rattle.wt_turn.specs.declared.proto_error.ProtoReadError.{ProtoReadError}
use Rattle.wt_turn.specs.declared.proto_error.ProtoReadError.TheVariants.{H3, IO}
use Rattle.wt_proto.specs.declared.walk.Step.{Step}
use Rattle.wt_proto.specs.WalkProgress.{WalkProgress, IsProper, at_item, progress_after, progress_over, reached_in}
use Rattle.wt_proto.specs.Steady.{IsSteady}
use Rattle.wt_proto.specs.Walk.{Reached}
use Rattle.wt_transport.specs.State.{TransportState}
use Rattle.wt_transport.specs.Step.{after_consume, unread_now}

-- what holds of a reader: its items are decided by their own bytes, and the bytes that it keeps decide nothing yet
pub record IsReader {S O : Type 0} (decide : S → List ℕ → Step S O) (p : WalkProgress S O) : Type 0 where
  pub steady : IsSteady decide
  pub proper : IsProper decide p

-- an item stopped the reader, and no byte is to be skipped before it
abbrev pub is_over : {S O : Type 0} → WalkProgress S O → Bool
is_over p = is_some p.stop && p.skip == 0

-- after n bytes of a stream were taken; where none was, the transport is as before
abbrev pub after_taking : TransportState → ℕ → ℕ → TransportState
after_taking t id n = if n == 0 then t else after_consume t id n

-- The reader took the first n unread bytes of a stream: all of them, or up to the first item that stopped it.
pub record Took {S O : Type 0} (decide : S → List ℕ → Step S O) (old new : WalkProgress S O) (t u : TransportState) (id n : ℕ) : Type 0 where
  pub within : n ≤ length (unread_now t id)
  pub reading : new ≡ progress_after decide old (take n (unread_now t id))
  pub running : (k : ℕ) → k < n → (reached_in (progress_after decide old (take k (unread_now t id)))).stop ≡ None
  pub all : n < length (unread_now t id) → is_some (reached_in new).stop ≡ true
  pub state : u ≡ after_taking t id n

-- The reader took the first n unread bytes of a stream, and none after an item that stopped it.
pub record TookFirst {S O : Type 0} (decide : S → List ℕ → Step S O) (old new : WalkProgress S O) (t u : TransportState) (id n : ℕ) : Type 0 where
  pub within : n ≤ length (unread_now t id)
  pub reading : new ≡ progress_after decide old (take n (unread_now t id))
  pub running : (k : ℕ) → k < n → (reached_in (progress_after decide old (take k (unread_now t id)))).stop ≡ None
  pub state : u ≡ after_taking t id n

-- what is answered where the bytes end before an item is whole
abbrev pub answer_at_end : {G : Type 0} → Bool → StreamEnd → Bool → Poll (Result G ProtoReadError)
answer_at_end open_ Running between = if open_ then polls.Pending else polls.Ready (Err (IO ends.NotConnected))
answer_at_end open_ Fin true = polls.Ready (Err (IO ends.ImmediateFin))
answer_at_end open_ Fin false = polls.Ready (Err (IO ends.UnexpectedFin))
answer_at_end open_ (Reset code) between = polls.Ready (Err (IO ends.Reset))

-- the item that stopped a reader or its fault, else the end
abbrev pub stopped_or_ended : {G : Type 0} → Bool → StreamEnd → Bool → Option (Result G ErrorCode) → Poll (Result G ProtoReadError)
stopped_or_ended open_ end between (Some (Ok item)) = polls.Ready (Ok item)
stopped_or_ended open_ end between (Some (Err fault)) = polls.Ready (Err (H3 fault))
stopped_or_ended open_ end between None = answer_at_end open_ end between

-- what a read answers that reached so far
abbrev pub reached_answer : {S G : Type 0} → Bool → StreamEnd → Reached S (Result G ErrorCode) → Poll (Result G ProtoReadError)
reached_answer open_ end r = stopped_or_ended open_ end r.between r.stop

-- an item is handed out, and the next one follows; a fault stays
abbrev pub handed_out : {S G : Type 0} → Option (Result G ErrorCode) → WalkProgress S (Result G ErrorCode) → WalkProgress S (Result G ErrorCode)
handed_out (Some (Ok item)) p = at_item p.state
handed_out (Some (Err fault)) p = p
handed_out None p = p

-- where a read leaves its reader
abbrev pub after_read : {S G : Type 0} → WalkProgress S (Result G ErrorCode) → WalkProgress S (Result G ErrorCode)
after_read p = handed_out (reached_in p).stop p

-- the bytes since the last item that was handed out, after a read that answers so
abbrev pub since_item : {G : Type 0} → Poll (Result G ProtoReadError) → List ℕ → List ℕ
since_item (polls.Ready (Ok item)) bytes = []
since_item (polls.Ready (Err error)) bytes = bytes
since_item polls.Pending bytes = bytes

-- the reader stands where one does that took these bytes, from this state on
abbrev pub HasBegun : {S O : Type 0} → (S → List ℕ → Step S O) → S → WalkProgress S O → List ℕ → Type 0
HasBegun decide s p bytes = p ≡ progress_over decide s None 0 bytes
