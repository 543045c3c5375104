-- What is promised of lists of turns: how far a list is answered, that it leads to a history, and what a turn of the
-- transport can change.
use Rattle.std.specs.Prelude.{[], ◌&&◌, ◌++◌, ◌∷◌, ◌≡◌, Bool, List, false, is_some, not, true}
use Rattle.wt_meaning.specs.History.{History, all_events}
use Rattle.wt_meaning.specs.Lawful.{is_lawful}
use Rattle.wt_meaning.specs.Meaning.{history_after, meaning, run}
use Rattle.wt_promise.specs.Promise.{AllLawful}
use Rattle.wt_turn.specs.Reports.{is_connected, loss_of}
use Rattle.wt_turn.specs.declared.turn.Turn.{Turn}
use Rattle.wt_wire.specs.declared.side.Side.{Side}

-- the connection came, and isn't lost, also where what came after the end counts
abbrev pub is_up : History → Bool
is_up h = is_connected (all_events h) && not (is_some (loss_of (all_events h)))

-- the history to which these turns lead, after this one
abbrev pub history_of : Side → History → List Turn → History
history_of side h [] = h
history_of side h (turn ∷ later) = history_of side (history_after side h turn) later

-- behind the turns that were answered the list has ended, or its next turn isn't lawful
abbrev pub StopsRightly : Side → History → List Turn → Bool → Type 0
StopsRightly side h [] is_all = is_all ≡ true
StopsRightly side h (turn ∷ later) is_all = (is_lawful side h turn ≡ false) × (is_all ≡ false)

-- a list of any turns is answered as far as they are lawful: `first` is its longest lawful prefix
pub record LongestPrefix (side : Side) (all : List Turn) : Type 0 where
  pub first : List Turn
  pub later : List Turn
  pub parts : all ≡ first ++ later
  pub lawful : AllLawful side [] first
  pub answers : (run side all).answers ≡ meaning side first
  pub stops : StopsRightly side (history_of side [] first) later (run side all).is_all
