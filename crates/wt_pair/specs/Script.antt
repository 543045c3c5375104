-- The facts and the events that a script of two ends spells (this repository's own grammar).
use Rattle.std.specs.Prelude.{ℕ, List, [], ◌∷◌, ◌++◌, codes, Option, Some, None, Result, Ok, Err, if◌then◌else◌}
use Rattle.std.specs.Option.{option_map}
use Rattle.wt_pair.specs.Lines.{PairLines, Scripted}
use Rattle.wt_pair.specs.declared.event.PairEvent.{PairEvent}
use Rattle.wt_pair.specs.declared.event.PairEvent.TheVariants as pair_events
use Rattle.wt_pair.specs.declared.event.PairFacts.{PairFacts}
use Rattle.wt_script.specs.declared.script.ScriptRefused.{ScriptRefused}
use Rattle.wt_script.specs.Drafts.{read_lines}
use Rattle.wt_script.specs.Events.{connected_of}
use Rattle.wt_script.specs.Numbers.{count_of}
use Rattle.wt_script.specs.Script.{side_of, turn_of_words}
use Rattle.wt_script.specs.Words.{is_word, lines, one, two, words}
use Rattle.wt_turn.specs.declared.turn.Turn.{Turn}
use Rattle.wt_turn.specs.declared.turn.Turn.TheVariants as turns
use Rattle.wt_wire.specs.declared.side.Side.{Side}

-- ---- the facts

-- what the connection brings
abbrev pub facts_in : Option Turn → Option PairFacts
facts_in (Some (turns.Connected uni bi total fact)) = Some (record { uni = uni; bi = bi; credit = total; datagrams = fact })
facts_in _ = None

-- the word `pair`, and the fields of a connection
abbrev pub facts_of_words : List (List ℕ) → Option PairFacts
facts_of_words [] = None
facts_of_words (name ∷ fields) = if is_word name (codes "pair") then facts_in (connected_of fields) else None

abbrev pub facts_of : List ℕ → Option PairFacts
facts_of line = facts_of_words (words line)

-- ---- an event

-- a call at this end
abbrev pub call_event : Side → Option Turn → Option PairEvent
call_event e (Some (turns.Call c)) = Some (pair_events.Call e c)
call_event e _ = None

-- a turn of this end's transport, which fits only where it gives credit
abbrev pub credit_event : Side → Option Turn → Option PairEvent
credit_event e None = None
credit_event e (Some (turns.Call c)) = None
credit_event e (Some turn) = Some (pair_events.Credit e turn)

-- a place and how many bytes
abbrev pub deliver_event : Side → List (List ℕ) → Option PairEvent
deliver_event e fields = option_map (λ p. pair_events.Deliver e p.0 p.1) (two count_of count_of fields)

-- a place
abbrev pub lose_event : Side → List (List ℕ) → Option PairEvent
lose_event e fields = option_map (pair_events.Lose e) (one count_of fields)

-- what happens to what waits for this end, or to its credit
abbrev pub step_event : List ℕ → Side → List (List ℕ) → Option PairEvent
step_event name e fields =
    if is_word name (codes "deliver") then deliver_event e fields
    else (if is_word name (codes "lose") then lose_event e fields else (if is_word name (codes "credit") then credit_event e (turn_of_words fields) else None))

abbrev pub step_at : List ℕ → Option Side → List (List ℕ) → Option PairEvent
step_at name None fields = None
step_at name (Some e) fields = step_event name e fields

-- the end is the second word
abbrev pub step_of_words : List ℕ → List (List ℕ) → Option PairEvent
step_of_words name [] = None
step_of_words name (end ∷ fields) = step_at name (side_of end) fields

-- a call where the first word is an end
abbrev pub event_at : List ℕ → List (List ℕ) → Option Side → Option PairEvent
event_at name fields (Some e) = call_event e (turn_of_words fields)
event_at name fields None = step_of_words name fields

abbrev pub event_of_words : List (List ℕ) → Option PairEvent
event_of_words [] = None
event_of_words (name ∷ fields) = event_at name fields (side_of name)

-- the event that a line spells
abbrev pub event_of : List ℕ → Option PairEvent
event_of line = event_of_words (words line)

-- ---- scripts

-- no line yet
abbrev pub no_lines : PairLines
no_lines = record { facts = None; events = [] }

-- the lines so far, and one that gives the facts
abbrev pub with_facts : PairLines → PairFacts → PairLines
with_facts before facts = record before { facts = Some facts }

-- the lines so far, and one that spells an event
abbrev pub with_event : PairLines → PairEvent → PairLines
with_event before event = record before { events = before.events ++ event ∷ [] }

-- the first line gives the facts, each further one is an event
abbrev pub with_facts_or_event : PairLines → Option PairFacts → List ℕ → Option PairLines
with_facts_or_event before None line = option_map (with_facts before) (facts_of line)
with_facts_or_event before (Some facts) line = option_map (with_event before) (event_of line)

-- what one more line says, of those that aren't left out; None where it is none of a script's
abbrev pub with_words : PairLines → List ℕ → Option PairLines
with_words before line = with_facts_or_event before before.facts line

-- the events with these facts; without facts the script is refused at this line
abbrev pub script_of_facts : ℕ → List PairEvent → Option PairFacts → Result Scripted ScriptRefused
script_of_facts number events None = Err (record { line = number })
script_of_facts number events (Some facts) = Ok (record { facts = facts; events = events })

-- what the lines of a script come to at its end
abbrev pub script_at_end : ℕ → PairLines → Result Scripted ScriptRefused
script_at_end number whole = script_of_facts number whole.events whole.facts

-- the facts and the events of a script, or the first line that is refused
abbrev pub pair_script_of : List ℕ → Result Scripted ScriptRefused
pair_script_of script = read_lines with_words script_at_end 1 no_lines (lines script)
