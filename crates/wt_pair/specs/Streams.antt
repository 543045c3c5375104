-- What of one stream a turn brings, what of it waits, and what a delivery brings.
use Rattle.std.specs.Prelude.{[], ◌==◌, ◌∷◌, Bool, List, None, Option, Some, flat_map, if◌then◌else◌, map, ℕ}
use Rattle.wt_pair.specs.Kept.{LinkNow}
use Rattle.wt_pair.specs.declared.item.Item.{Item}
use Rattle.wt_turn.specs.declared.turn.Turn.{Turn}
use Rattle.wt_turn.specs.declared.turn.Turn.TheVariants as turns

-- a mark on a stream: it opens, a byte of it, it ends
pub data Mark : Type 0 where
  Opens : Mark
  Byte : ℕ → Mark
  Ends : Mark

abbrev pub marks_if : {T : Type 0} → Bool → List T → List T
marks_if holds ms = if holds then ms else []

-- what a turn brings for the stream that its item names
abbrev pub turn_marks : Turn → List Mark
turn_marks turns.PeerUni = Opens ∷ []
turn_marks turns.PeerBi = Opens ∷ []
turn_marks (turns.Bytes id piece) = map Byte piece
turn_marks (turns.End id) = Ends ∷ []
turn_marks (turns.Reset id code) = Ends ∷ []
turn_marks _ = []

-- what it brings for the stream k
abbrev pub named_marks : ℕ → Option ℕ → Turn → List Mark
named_marks k None turn = []
named_marks k (Some j) turn = marks_if (j == k) (turn_marks turn)

abbrev pub item_marks : ℕ → Item → List Mark
item_marks k x = named_marks k x.stream x.turn

-- what waits of the stream k, in order
abbrev pub waiting_on : ℕ → LinkNow → List Mark
waiting_on k l = flat_map (item_marks k) l.waiting

-- what a delivery brings of it: the turn, on the stream that the item names
abbrev pub delivered_on : ℕ → Option Item → Option Turn → List Mark
delivered_on k (Some x) (Some turn) = named_marks k x.stream turn
delivered_on k _ _ = []
