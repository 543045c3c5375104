-- What a call that waits leaves in its handle's list, and how often its gate gave up (this repository's own).
use Rattle.std.specs.Prelude.{All, ℕ, ◌≡◌, ◌⊎◌, ◌∷◌, ◌++◌, Err, List, Ok, Result, [], false, true}
use Rattle.wt_meaning.specs.Lawful.{is_pending}
use Rattle.wt_trace.specs.Outside.{Rose}
use Rattle.wt_turn.specs.declared.answer.Answer.{Answer}
use Rattle.wt_turn.specs.declared.call.Call.{Call}
use Rattle.wt_turn.specs.declared.turn.Turn.TheVariants as turns
use Rattle.wt_shared.specs.declared.connection.SharedError.{SharedError}
use Rattle.wt_shared.specs.declared.connection.SharedError.TheVariants as errors
use Rattle.wt_shared.specs.declared.told.Told.{Told}

-- the entry is of this call, and its reply is Pending
abbrev pub IsWaiting : Call → Told → Type 0
IsWaiting call told = (told.turn ≡ turns.Call call) × (is_pending told.answer.reply ≡ true)

-- the list grew by entries of this call that are all Pending
pub record HasWaited (call : Call) (before after : List Told) : Type 0 where
  pub pending : List Told
  pub entries : after ≡ before ++ pending
  pub waits : All (IsWaiting call) pending

-- the list grew by one entry, of this call and with this answer
pub record HasEntry (call : Call) (before after : List Told) (answer : Answer) : Type 0 where
  pub last : Told
  pub entry : after ≡ before ++ last ∷ []
  pub turn_is : last.turn ≡ turns.Call call
  pub answer_is : last.answer ≡ answer

-- the list grew by Pending entries of this call, and then by one with this answer
pub record HasAnswer (call : Call) (before after : List Told) (answer : Answer) : Type 0 where
  pub between : List Told
  pub waited : HasWaited call before between
  pub answered : HasEntry call between after answer

-- the list is as before, or grew by one entry of this call
abbrev pub MayHaveEntry : Call → List Told → List Told → Type 0
MayHaveEntry call before after = (after ≡ before) ⊎ ((answer : Answer) × HasEntry call before after answer)

-- A call that waits answers what its last turn was answered, which isn't Pending, and all its turns before are. Where the gate
-- gave up all are Pending; where memory ran out the last may have any answer.
abbrev pub Waited : Call → List Told → List Told → Result Answer SharedError → Type 0
Waited call before after (Ok answer) = HasAnswer call before after answer × (is_pending answer.reply ≡ false)
Waited call before after (Err errors.GaveUp) = HasWaited call before after
Waited call before after (Err errors.OutOfMemory) = (between : List Told) × HasWaited call before between × MayHaveEntry call between after

-- the gate's count of refusals rose where the call gave up, and is as before at every other answer
abbrev pub RefusalsAfter : ℕ → ℕ → Result Answer SharedError → Type 0
RefusalsAfter before now (Ok answer) = now ≡ before
RefusalsAfter before now (Err errors.GaveUp) = Rose before now
RefusalsAfter before now (Err errors.OutOfMemory) = now ≡ before
