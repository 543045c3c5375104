-- The turn that a line spells, and the side and the turns that a script spells (this repository's own grammar).
use Rattle.std.specs.Prelude.{ℕ, List, [], ◌∷◌, ◌++◌, codes, Option, Some, None, Result, Ok, Err, if◌then◌else◌}
use Rattle.std.specs.Option.{option_map, option_or}
use Rattle.wt_wire.specs.declared.side.Side.{Side}
use Rattle.wt_wire.specs.declared.side.Side.TheVariants.{Client, Server}
use Rattle.wt_turn.specs.declared.turn.Turn.{Turn}
use Rattle.wt_turn.specs.declared.turn.Turn.TheVariants as turns
use Rattle.wt_script.specs.declared.script.Script.{Script}
use Rattle.wt_script.specs.declared.script.ScriptRefused.{ScriptRefused}
use Rattle.wt_script.specs.Calls.{call_of}
use Rattle.wt_script.specs.Events.{event_of_words}
use Rattle.wt_script.specs.Drafts.{read_lines}
use Rattle.wt_script.specs.Lines.{Lines}
use Rattle.wt_script.specs.Words.{is_word, words, lines}

-- the turn that a name and its fields spell
abbrev pub turn_of_words : List (List ℕ) → Option Turn
turn_of_words [] = None
turn_of_words (name ∷ fields) = option_or (event_of_words name fields) (option_map turns.Call (call_of name fields))

-- the turn that a line spells
abbrev pub turn_of : List ℕ → Option Turn
turn_of line = turn_of_words (words line)

-- the side that a line spells
abbrev pub side_of : List ℕ → Option Side
side_of line = if is_word line (codes "server") then Some Server else (if is_word line (codes "client") then Some Client else None)

-- ---- scripts

-- the lines so far, and one that names the side
abbrev pub with_side : Lines → Side → Lines
with_side before side = record { side = Some side; turns = before.turns }

-- the lines so far, and one that spells a turn
abbrev pub with_turn : Lines → Turn → Lines
with_turn before turn = record { side = before.side; turns = before.turns ++ turn ∷ [] }

-- the first line names the side, each further one is a turn
abbrev pub with_side_or_turn : Lines → Option Side → List ℕ → Option Lines
with_side_or_turn before None line = option_map (with_side before) (side_of line)
with_side_or_turn before (Some side) line = option_map (with_turn before) (turn_of line)

-- what one more line says, of those that aren't left out; None where it is none of a script's
abbrev pub with_words : Lines → List ℕ → Option Lines
with_words before line = with_side_or_turn before before.side line

-- the turns of this side; without a side the script is refused at this line
abbrev pub script_of_side : ℕ → List Turn → Option Side → Result Script ScriptRefused
script_of_side number turns None = Err (record { line = number })
script_of_side number turns (Some side) = Ok (record { side = side; turns = turns })

-- what the lines of a script come to at its end
abbrev pub script_at_end : ℕ → Lines → Result Script ScriptRefused
script_at_end number whole = script_of_side number whole.turns whole.side

-- no line yet
abbrev pub no_lines : Lines
no_lines = record { side = None; turns = [] }

-- the side and the turns of a script, or the first line that is refused
abbrev pub script_of : List ℕ → Result Script ScriptRefused
script_of script = read_lines with_words script_at_end 1 no_lines (lines script)

-- a script that has begun, and after its turns those of these lines, which tell no side and count from 1
abbrev pub with_lines : Script → List ℕ → Result Script ScriptRefused
with_lines begun input = read_lines with_words script_at_end 1 (record { side = Some begun.side; turns = begun.turns }) (lines input)
