-- What the application has, by a log: the values of the public types stand for it.
use Rattle.std.specs.Prelude.{◌≡◌, Bool, List, None, Result, Some, drop, length, true, ℕ}
use Rattle.wt_turn.specs.Outgoing.{bytes_within_credit}
use Rattle.wt_sessions.specs.Answers.{may_call, named_session}
use Rattle.wt_sessions.specs.Connection.{opening_session, stream_header}
use Rattle.wt_sessions.specs.Effect.{head_left}
use Rattle.wt_sessions.specs.Halves.{has_receiving_half, has_sending_half}
use Rattle.wt_turn.specs.Log.{Log}
use Rattle.wt_turn.specs.declared.call.Call.{Call}
use Rattle.wt_turn.specs.declared.poll.Poll.{Poll}
use Rattle.wt_turn.specs.declared.poll.Poll.TheVariants.{Pending, Ready}
use Rattle.wt_turn.specs.declared.stream_error.StreamOpeningError.{StreamOpeningError}
use Rattle.wt_wire.specs.Ids.{is_bidirectional}
use Rattle.wt_wire.specs.declared.side.Side.{Side}

-- the application has the sending half of this stream
abbrev pub HasSending : ℕ → Side → Log → Type 0
HasSending id side log = has_sending_half side log id ≡ true

-- the application has the receiving half of this stream
abbrev pub HasReceiving : ℕ → Side → Log → Type 0
HasReceiving id side log = has_receiving_half side log id ≡ true

-- the session of this id was established
abbrev pub HasSession : ℕ → Side → Log → Type 0
HasSession s side log = named_session log (Some s) ≡ Some s

-- the ids of a stream and of its session, and what of its header isn't out
pub record OpeningStream : Type 0 where
  pub id : ℕ
  pub session : ℕ
  pub left : List ℕ

-- the stream is being opened for the session, is of this kind, and this of its header isn't out
pub record IsOpening (bidirectional : Bool) (log : Log) (o : OpeningStream) : Type 0 where
  pub opens : opening_session log o.id ≡ Some o.session
  pub kind : is_bidirectional o.id ≡ bidirectional
  pub session : named_session log None ≡ None → ⊥
  pub left : head_left log o.id (stream_header o.id o.session) ≡ o.left

-- the application has this stream, of this kind, which is being opened
abbrev pub HasOpening : Bool → OpeningStream → Side → Log → Type 0
HasOpening bidirectional o side log = IsOpening bidirectional log o

-- this call may come
abbrev pub MayCall : Call → Side → Log → Type 0
MayCall call side log = may_call side log call ≡ true

-- where a poll of an opening is pending, what of the header isn't out is what its value has
abbrev pub StillOpens : {T : Type 0} → Bool → OpeningStream → OpeningStream → Poll (Result T StreamOpeningError) → Side → Log → ℕ → Type 0
StillOpens bidirectional o later Pending side log collected = HasOpening bidirectional o side log → later.left ≡ drop (length (bytes_within_credit log o.id o.left)) o.left
StillOpens bidirectional o later (Ready answer) side log collected = Unit {0}

-- the opening is of this session, and nothing of its header is out
pub record IsNewOpening (s : ℕ) (o : OpeningStream) : Type 0 where
  pub session : o.session ≡ s
  pub left : o.left ≡ stream_header o.id o.session
