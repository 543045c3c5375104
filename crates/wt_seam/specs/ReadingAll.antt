-- Reading all that has come of a stream.
use Rattle.std.specs.Prelude.{◌≡◌, ◌++◌, ℕ, ◌≤◌, Bool, List, length, take, true, None}
use Rattle.wt_proto.specs.declared.walk.Step.{Step}
use Rattle.wt_proto.specs.WalkProgress.{Reading, progress_over}
use Rattle.wt_proto.specs.SessionReader.{SessionReader, session_ended, session_fed, session_reader}
use Rattle.wt_transport.specs.State.{TransportState}
use Rattle.wt_transport.specs.Step.{after_consume, unread_now}
use Rattle.wt_wire.specs.declared.side.StreamEnd.TheVariants.{Running}

-- after all that is unread of a stream was read
abbrev pub after_reading_all : TransportState → ℕ → TransportState
after_reading_all t id = after_consume t id (length (unread_now t id))

-- bytes after other bytes lead a reader where both lead it at once
abbrev pub Joins : {V : Type 0} → (V → List ℕ → V) → V → Type 0
Joins fed r = (xs ys : List ℕ) → fed (fed r xs) ys ≡ fed r (xs ++ ys)

-- once a reader's outcome is final, more bytes change nothing of it
abbrev pub Stays : {V : Type 0} → (V → List ℕ → V) → (V → Bool) → V → Type 0
Stays fed final r = (xs ys : List ℕ) → final (fed r xs) ≡ true → fed (fed r xs) ys ≡ fed r xs

-- the first n unread bytes of a stream are consumed, and a reader took them
pub record ReadsSome {V : Type 0} (fed : V → List ℕ → V) (old new : V) (before after : TransportState) (id count : ℕ) : Type 0 where
  pub within : count ≤ length (unread_now before id)
  pub reading : new ≡ fed old (take count (unread_now before id))
  pub state : after ≡ after_consume before id count

-- the reader stands where one does that took these bytes, from this state on
abbrev pub WasRead : {S O : Type 0} → (S → List ℕ → Step S O) → S → Reading S O → List ℕ → Type 0
WasRead decide start r bytes = r.progress ≡ progress_over decide start None 0 bytes

-- the reader of a session's stream stands where one does that took these bytes
abbrev pub SessionWasRead : SessionReader → List ℕ → Type 0
SessionWasRead r bytes = session_ended Running r ≡ session_fed session_reader bytes
