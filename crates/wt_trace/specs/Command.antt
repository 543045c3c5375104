-- What the words of the program ask for, and the script that it runs then (this repository's own).
use Rattle.std.specs.Prelude.{ℕ, ◌&&◌, nat_lt, List, [], ◌∷◌, ◌++◌, codes, Option, Some, None, Result, Ok, Err, if◌then◌else◌}
use Rattle.std.specs.Option.{option_map, option_and_then}
use Rattle.wt_wire.specs.declared.side.Side.TheVariants.{Server}
use Rattle.wt_turn.specs.declared.turn.Turn.{Turn}
use Rattle.wt_script.specs.declared.script.Script.{Script}
use Rattle.wt_script.specs.declared.script.ScriptRefused.{ScriptRefused}
use Rattle.wt_script.specs.Numbers.{count_of}
use Rattle.wt_script.specs.Script.{script_of, with_lines}
use Rattle.wt_script.specs.Words.{is_word}
use Rattle.wt_trace.specs.declared.command.Command.{Command}
use Rattle.wt_trace.specs.declared.command.Command.TheVariants.{Large, Trace}
use Rattle.wt_trace.specs.Generate.{generated_turns}

-- a number of streams: from 1 to 10,000
abbrev pub bounded_count : ℕ → Option ℕ
bounded_count number = if nat_lt 0 number && nat_lt number 10001 then Some number else None

-- the number of streams that a word spells
abbrev pub streams_of : List ℕ → Option ℕ
streams_of word = option_and_then bounded_count (count_of word)

-- what the words ask for: `trace`, or `large` and a number of streams; None where they have no such form
abbrev pub command_of : List (List ℕ) → Option Command
command_of [] = None
command_of (word ∷ []) = if is_word word (codes "trace") then Some Trace else None
command_of (word ∷ streams ∷ []) = if is_word word (codes "large") then option_map Large (streams_of streams) else None
command_of (word ∷ streams ∷ other ∷ more) = None

-- the turns that lines spell, none of which says a side, as a server's script; the first line that spells none refuses it
abbrev pub server_turns : List ℕ → Result Script ScriptRefused
server_turns input = with_lines (record { side = Server; turns = [] }) input

-- a script that was read, with these turns before its own
abbrev pub with_first_turn : List Turn → Result Script ScriptRefused → Result Script ScriptRefused
with_first_turn first (Err refused) = Err refused
with_first_turn first (Ok script) = Ok (record { side = script.side; turns = first ++ script.turns })

-- the script that a command makes of an input: of a trace the script that it is, else the generated turns of a server and,
-- after them, those of its lines
unfoldable pub command_script : Command → List ℕ → Result Script ScriptRefused
command_script Trace input = script_of input
command_script (Large streams) input = with_first_turn (generated_turns streams) (server_turns input)
