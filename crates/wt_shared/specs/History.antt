-- The history of a connection: its turns, each with its answer, the first first (this repository's own).
use Rattle.std.specs.Prelude.{ℕ, ◌≡◌, Bool, List, [], count_by, map, not}
use Rattle.wt_meaning.specs.History.{History}
use Rattle.wt_meaning.specs.Lawful.{is_pending}
use Rattle.wt_meaning.specs.Meaning.{meaning}
use Rattle.wt_promise.specs.Lists.{history_of}
use Rattle.wt_promise.specs.Promise.{AllLawful}
use Rattle.wt_turn.specs.declared.answer.Answer.{Answer}
use Rattle.wt_turn.specs.declared.turn.Turn.{Turn}
use Rattle.wt_wire.specs.declared.side.Side.{Side}

-- turns, each with its answer, the first first
abbrev pub Pairs : Type 0
Pairs = List (Turn × Answer)

-- the turns alone
abbrev pub turns_in : Pairs → List Turn
turns_in pairs = map (λ (x : Turn × Answer). x.0) pairs

-- the answers alone
abbrev pub answers_in : Pairs → List Answer
answers_in pairs = map (λ (x : Turn × Answer). x.1) pairs

-- what came before the next turn: the turns with what they mean, the newest first and bytes one by one
abbrev pub past_of : Side → Pairs → History
past_of side pairs = history_of side [] (turns_in pairs)

-- each turn is lawful after those before it, and the answers are what the turns mean
pub record Replays (side : Side) (pairs : Pairs) : Type 0 where
  pub lawful : AllLawful side [] (turns_in pairs)
  pub answered : answers_in pairs ≡ meaning side (turns_in pairs)

-- something came of the turn: its reply isn't Pending
abbrev pub is_change : Turn × Answer → Bool
is_change x = not (is_pending x.1.reply)

-- how many turns have a reply other than Pending
abbrev pub changes_in : Pairs → ℕ
changes_in pairs = count_by is_change pairs
