-- Walks over items that follow one another, as frames do on a stream.
-- `decide` looks at all bytes from an item's front, in the state that the items before it left, and says what the item does.
use Rattle.std.specs.Prelude.{ℕ, zero, suc, ◌-◌, List, [], ◌∷◌, Option, Some, None, unwrap_or, Bool, true, false}
use Rattle.wt_wire.specs.declared.side.StreamEnd.{StreamEnd}
use Rattle.wt_proto.specs.declared.walk.Step.{Step}
use Rattle.wt_proto.specs.declared.walk.Step.TheVariants.{Cut, Goes, Stops}

-- where the bytes end: in which state, whether the walk stopped before, and whether between two items
pub record Reached (S O : Type 0) : Type 0 where
  pub state : S
  pub stop : Option O
  pub between : Bool

-- a step leads on: in a state, with what the walk stops with, after n bytes
abbrev pub step_on : {S O R : Type 0} → R → (S → Option O → ℕ → R) → S → Step S O → R
step_on at_cut go s Cut = at_cut
step_on at_cut go s (Goes t n) = go t None n
step_on at_cut go s (Stops o n) = go s (Some o) n

-- the walk over bytes of which the first n are the rest of an item; with a stop it ends after that item
abbrev pub walk : {S O : Type 0} → (S → List ℕ → Step S O) → S → Option O → ℕ → List ℕ → Reached S O
walk decide s stop (suc rest) [] = record { state = s; stop = None; between = false }
walk decide s stop (suc rest) (b ∷ bytes) = walk decide s stop rest bytes
walk decide s stop zero [] = record { state = s; stop = stop; between = true }
walk decide s (Some o) zero (b ∷ bytes) = record { state = s; stop = Some o; between = true }
walk decide s None zero (b ∷ bytes) =
    step_on (record { state = s; stop = None; between = false })
    (λ t stop n. walk decide t stop (n - 1) bytes)
    s (decide s (b ∷ bytes))

-- the walk over all bytes
abbrev pub whole_walk : {S O : Type 0} → (S → List ℕ → Step S O) → S → List ℕ → Reached S O
whole_walk decide s bytes = walk decide s None 0 bytes

-- the outcome: what the walk stopped with, else what the end makes of where it stands
abbrev pub outcome_at : {S O : Type 0} → (StreamEnd → S → Bool → O) → StreamEnd → Reached S O → O
outcome_at unfinished end r = unwrap_or r.stop (unfinished end r.state r.between)
