-- What a read answers, takes and leaves: of the reader before and after it, of the stream with this id, and of the transport before and after it.
use Rattle.std.specs.Prelude.{◌≡◌, ℕ, ◌++◌, List, Result, IfOk, OnErr, OnOk}
use Rattle.wt_wire.specs.declared.error.ErrorCode.{ErrorCode}
use Rattle.wt_turn.specs.declared.poll.Poll.{Poll}
use Rattle.wt_turn.specs.declared.proto_error.ProtoReadError.{ProtoReadError}
use Rattle.wt_proto.specs.declared.walk.Step.{Step}
use Rattle.wt_proto.specs.WalkProgress.{WalkProgress, progress_after, reached_in}
use Rattle.wt_proto.specs.Walk.{whole_walk}
use Rattle.wt_transport.specs.State.{TransportState}
use Rattle.wt_transport.specs.Step.{end_now, unread_now}
use Rattle.wt_seam.specs.Reading.{HasBegun, Took, TookFirst, after_read, reached_answer, since_item}

-- a read answers by what its reader reaches with all unread bytes
abbrev pub ReadAnswers : {S G E : Type 0} → (S → List ℕ → Step S (Result G ErrorCode)) → WalkProgress S (Result G ErrorCode)
    → TransportState → ℕ → Result (Poll (Result G ProtoReadError)) E → Type 0
ReadAnswers decide old t id r = IfOk r (λ a. a ≡ reached_answer t.is_open (end_now t id) (reached_in (progress_after decide old (unread_now t id))))

-- a read answers by the grammar over all bytes since the last item, whatever the pieces are in which they came
abbrev pub ReadAnswersSince : {S G E : Type 0} → (S → List ℕ → Step S (Result G ErrorCode)) → S → WalkProgress S (Result G ErrorCode)
    → TransportState → ℕ → Result (Poll (Result G ProtoReadError)) E → Type 0
ReadAnswersSince decide s old t id r = (bytes : List ℕ) → HasBegun decide s old bytes
    → IfOk r (λ a. a ≡ reached_answer t.is_open (end_now t id) (whole_walk decide s (bytes ++ unread_now t id)))

-- a read leaves a reader that has begun with the bytes since the last item that was handed out
abbrev pub ReadLeavesBegun : {S O G E : Type 0} → (S → List ℕ → Step S O) → S → WalkProgress S O → WalkProgress S O → TransportState → ℕ
    → Result (Poll (Result G ProtoReadError)) E → Type 0
ReadLeavesBegun decide s old new t id r = (bytes : List ℕ) → HasBegun decide s old bytes
    → IfOk r (λ a. HasBegun decide s new (since_item a (bytes ++ unread_now t id)))

-- a read leaves its reader where all unread bytes lead it, without the item that is handed out
abbrev pub ReadLeaves : {S G A E : Type 0} → (S → List ℕ → Step S (Result G ErrorCode)) → WalkProgress S (Result G ErrorCode)
    → WalkProgress S (Result G ErrorCode) → TransportState → ℕ → Result A E → Type 0
ReadLeaves decide old new t id r = OnOk r (new ≡ after_read (progress_after decide old (unread_now t id)))

-- a read takes all unread bytes, or those up to the first item that stops its reader
abbrev pub ReadTakes : {S O A E : Type 0} → (S → List ℕ → Step S O) → WalkProgress S O → TransportState → TransportState → ℕ → Result A E → Type 0
ReadTakes decide old t u id r = OnOk r ((n : ℕ) × Took decide old (progress_after decide old (unread_now t id)) t u id n)

-- a read that fails takes some first unread bytes, and none after an item that stops its reader
abbrev pub FailedReadTakes : {S O A E : Type 0} → (S → List ℕ → Step S O) → WalkProgress S O → WalkProgress S O → TransportState
    → TransportState → ℕ → Result A E → Type 0
FailedReadTakes decide old new t u id r = OnErr r ((n : ℕ) × TookFirst decide old new t u id n)
