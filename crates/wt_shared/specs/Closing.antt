-- That the handles of a shared connection were told exactly the calls of its history (this repository's own).
use Rattle.std.specs.Prelude.{All, ℕ, ◌+◌, ◌<◌, ◌≤◌, ◌≡◌, ◌≢◌, ◌∷◌, Contains, Err, List, Ok, Result, Some, [], drop, if◌then◌else◌, length, slice_get}
use Rattle.std.specs.List.{flat_map}
use Rattle.std.specs.List.Sorted.{IsNonDecreasingBy, IsPermutation}
use Rattle.wt_turn.specs.Turns.{is_call}
use Rattle.wt_turn.specs.declared.answer.Answer.{Answer}
use Rattle.wt_shared.specs.History.{Pairs}
use Rattle.wt_shared.specs.Stored.{told_at}
use Rattle.wt_shared.specs.declared.close.CloseError.{CloseError}
use Rattle.wt_shared.specs.declared.close.CloseError.TheVariants as errors
use Rattle.wt_shared.specs.declared.told.Told.{Told}

-- those of the pairs whose turn is a call, each with its place; the first of the pairs has this place
abbrev pub calls_from : ℕ → Pairs → List Told
calls_from place [] = []
calls_from place (x ∷ later) =
    if is_call x.0 then told_at place x.0 x.1 ∷ calls_from (place + 1) later else calls_from (place + 1) later

-- the calls of a history after its first turn
abbrev pub calls_in : Pairs → List Told
calls_in history = calls_from 1 (drop 1 history)

-- the entries of all handles, those of one after those of another
abbrev pub entries_of : List (List Told) → List Told
entries_of handles = flat_map (λ entries. entries) handles

-- the entry is the turn and the answer that the history has at its place
abbrev pub StandsIn : Pairs → Told → Type 0
StandsIn history entry = slice_get history entry.place ≡ Some (entry.turn, entry.answer)

-- the places rise from each entry to the next
abbrev pub Ascends : List Told → Type 0
Ascends entries = (k : ℕ) (a b : Told) → slice_get entries k ≡ Some a → slice_get entries (k + 1) ≡ Some b → a.place < b.place

-- an entry at the one place is followed by one at the other, which isn't above it
pub record FallsIn (entries : List Told) (before after : ℕ) : Type 0 where
  pub k : ℕ
  pub first : Told
  pub second : Told
  pub first_is : slice_get entries k ≡ Some first
  pub second_is : slice_get entries (k + 1) ≡ Some second
  pub before_is : before ≡ first.place
  pub after_is : after ≡ second.place
  pub falls : after ≤ before

-- that is so in the list of one of the handles
pub record IsDisordered (handles : List (List Told)) (before after : ℕ) : Type 0 where
  pub entries : List Told
  pub handle : Contains handles entries
  pub falls : FallsIn entries before after

-- at one position the history's call, which has this place and the first answer, isn't the entry, which has the second
pub record CallDiffers (history : Pairs) (entries : List Told) (place : ℕ) (kept told : Answer) : Type 0 where
  pub position : ℕ
  pub call : Told
  pub entry : Told
  pub call_is : slice_get (calls_in history) position ≡ Some call
  pub entry_is : slice_get entries position ≡ Some entry
  pub place_is : place ≡ call.place
  pub kept_is : kept ≡ call.answer
  pub told_is : told ≡ entry.answer
  pub differ : call ≢ entry

-- that is so of the handles' entries in order of place
pub record IsDifferent (history : Pairs) (handles : List (List Told)) (place : ℕ) (kept told : Answer) : Type 0 where
  pub entries : List Told
  pub same : IsPermutation (entries_of handles) entries
  pub order : IsNonDecreasingBy (λ (t : Told). t.place) entries
  pub differs : CallDiffers history entries place kept told

-- there are as many entries as the history has calls
abbrev pub AsMany : Pairs → List (List Told) → Type 0
AsMany history handles = length (entries_of handles) ≡ length (calls_in history)

-- What the end of a shared connection finds: the entries of the handles are the history's calls, each once, and each handle's
-- in order; or they aren't as many; or those of one handle are out of order; or they differ at one position.
abbrev pub IsClosed : Pairs → List (List Told) → Result Pairs CloseError → Type 0
IsClosed history handles (Ok pairs) = (pairs ≡ history) × IsPermutation (entries_of handles) (calls_in history) × All Ascends handles
IsClosed history handles (Err (errors.Missing kept told)) = (kept ≡ length (calls_in history)) × (told ≡ length (entries_of handles)) × (kept ≢ told)
IsClosed history handles (Err (errors.Disordered before after)) = AsMany history handles × IsDisordered handles before after
IsClosed history handles (Err (errors.Differs place kept told)) = AsMany history handles × All Ascends handles × IsDifferent history handles place kept told
