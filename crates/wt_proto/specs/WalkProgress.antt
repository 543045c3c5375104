-- What stands for the bytes of a walk once they are taken: how far the walk is, as data.
use Rattle.std.specs.Prelude.{◌≡◌, ℕ, zero, suc, ◌-◌, ◌<◌, ◌≤◌, List, [], ◌∷◌, ◌++◌, length, Option, Some, None, take, true, false}
use Rattle.wt_proto.specs.declared.walk.Step.{Step}
use Rattle.wt_proto.specs.declared.walk.Step.TheVariants.{Cut, Goes, Stops}
use Rattle.wt_wire.specs.declared.side.StreamEnd.{StreamEnd}
use Rattle.wt_proto.specs.Walk.{Reached, step_on}

-- the state that whole items left, what the walk stops with after the bytes to skip, how many these are, and the bytes of an item that isn't decided
pub record WalkProgress (S O : Type 0) : Type 0 where
  pub state : S
  pub stop : Option O
  pub skip : ℕ
  pub kept : List ℕ

-- how far a walk is that goes over these bytes, of which the first n are the rest of an item
abbrev pub progress_over : {S O : Type 0} → (S → List ℕ → Step S O) → S → Option O → ℕ → List ℕ → WalkProgress S O
progress_over decide s stop (suc rest) [] = record { state = s; stop = stop; skip = suc rest; kept = [] }
progress_over decide s stop (suc rest) (b ∷ bytes) = progress_over decide s stop rest bytes
progress_over decide s stop zero [] = record { state = s; stop = stop; skip = 0; kept = [] }
progress_over decide s (Some o) zero (b ∷ bytes) = record { state = s; stop = Some o; skip = 0; kept = [] }
progress_over decide s None zero (b ∷ bytes) =
    step_on (record { state = s; stop = None; skip = 0; kept = b ∷ bytes })
    (λ t stop n. progress_over decide t stop (n - 1) bytes)
    s (decide s (b ∷ bytes))

-- how far it is after more bytes
abbrev pub progress_after : {S O : Type 0} → (S → List ℕ → Step S O) → WalkProgress S O → List ℕ → WalkProgress S O
progress_after decide p more = progress_over decide p.state p.stop p.skip (p.kept ++ more)

-- where a walk is that has read so far
abbrev pub reached_at : {S O : Type 0} → S → Option O → ℕ → List ℕ → Reached S O
reached_at s stop (suc rest) kept = record { state = s; stop = None; between = false }
reached_at s stop zero (b ∷ kept) = record { state = s; stop = None; between = false }
reached_at s stop zero [] = record { state = s; stop = stop; between = true }

-- where the walk stands
abbrev pub reached_in : {S O : Type 0} → WalkProgress S O → Reached S O
reached_in p = reached_at p.state p.stop p.skip p.kept

-- nothing that is kept decides anything, and nothing is kept beside bytes to skip or a stop
pub record IsProper {S O : Type 0} (decide : S → List ℕ → Step S O) (p : WalkProgress S O) : Type 0 where
  pub waits : decide p.state p.kept ≡ Cut
  pub idle : 0 < length p.kept → (p.skip ≡ 0) × (p.stop ≡ None)

-- the first n bytes of a piece lead from one progress to the next, and in front of the last of them the walk didn't stop
pub record Advances {S O : Type 0} (decide : S → List ℕ → Step S O) (old new : WalkProgress S O) (piece : List ℕ) (n : ℕ) : Type 0 where
  pub within : n ≤ length piece
  pub fed : new ≡ progress_after decide old (take n piece)
  pub running : (k : ℕ) → k < n → (reached_in (progress_after decide old (take k piece))).stop ≡ None

-- some first bytes of a piece do
abbrev pub AdvancesSome : {S O : Type 0} → (S → List ℕ → Step S O) → WalkProgress S O → WalkProgress S O → List ℕ → Type 0
AdvancesSome decide old new piece = (n : ℕ) × Advances decide old new piece n

-- where an item leads of which n bytes are taken; one that isn't decided is kept
abbrev pub progress_past : {S O : Type 0} → S → Step S O → ℕ → List ℕ → WalkProgress S O
progress_past s Cut n kept = record { state = s; stop = None; skip = 0; kept = kept }
progress_past s (Goes t m) n kept = record { state = t; stop = None; skip = m - n; kept = [] }
progress_past s (Stops o m) n kept = record { state = s; stop = Some o; skip = m - n; kept = [] }

-- between two items
abbrev pub at_item : {S O : Type 0} → S → WalkProgress S O
at_item s = record { state = s; stop = None; skip = 0; kept = [] }

-- a reader's value: how far the walk over the bytes it took is, and the end
pub record Reading (S O : Type 0) : Type 0 where
  pub progress : WalkProgress S O
  pub end : StreamEnd

-- the reader stands where one does that took these bytes, from this state on, and learned this end
abbrev pub HasRead : {S O : Type 0} → (S → List ℕ → Step S O) → S → Reading S O → List ℕ → StreamEnd → Type 0
HasRead decide start r bytes end = r ≡ record { progress = progress_over decide start None 0 bytes; end = end }

-- a reader's value after more bytes
abbrev pub fed_reading : {S O : Type 0} → (S → List ℕ → Step S O) → Reading S O → List ℕ → Reading S O
fed_reading decide r more = record { progress = progress_after decide r.progress more; end = r.end }

-- a reader's value once it took these bytes and learned the end
abbrev pub read_on : {S O : Type 0} → (S → List ℕ → Step S O) → Reading S O → List ℕ → StreamEnd → Reading S O
read_on decide r bytes end = record { progress = progress_after decide r.progress bytes; end = end }
