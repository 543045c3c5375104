-- Which calls may come after any turn, and what one call adds to its handle's list (this repository's own).
use Rattle.std.specs.Prelude.{◌≡◌, ◌⊎◌, ◌∷◌, ◌++◌, Bool, List, [], false, true}
use Rattle.wt_turn.specs.declared.call.Call.{Call}
use Rattle.wt_turn.specs.declared.call.Call.TheVariants as calls
use Rattle.wt_turn.specs.declared.turn.Turn.TheVariants as turns
use Rattle.wt_shared.specs.Stored.{Stored, after_turn, next_told}
use Rattle.wt_shared.specs.declared.told.Told.{Told}

-- the call is lawful after any turn: it is none of the handshake's
abbrev pub may_come_later : Call → Bool
may_come_later (calls.Connect options lookup outcome) = false
may_come_later calls.Incoming = false
may_come_later (calls.Accept headers) = false
may_come_later calls.Forbidden = false
may_come_later calls.NotFound = false
may_come_later calls.TooManyRequests = false
may_come_later calls.Handshake = false
may_come_later _ = true

-- the call was made: it is stored with its one answer, and the handle's list has that pair, with its place, at the end
pub record IsCalled (old new : Stored) (before after : List Told) (call : Call) : Type 0 where
  pub entry : after ≡ before ++ next_told old (turns.Call call) ∷ []
  pub stored : new ≡ after_turn old (turns.Call call)

-- Where memory runs out either no entry comes, and at most the mark of it is set; or the call was made, and its entry came.
abbrev pub RanOut : Stored → Stored → List Told → List Told → Call → Type 0
RanOut old new before after call =
    ((after ≡ before) × ((new ≡ old) ⊎ (new ≡ record old { failed = true }))) ⊎ IsCalled old new before after call
