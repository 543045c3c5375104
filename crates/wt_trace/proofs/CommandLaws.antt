-- Lines of turns after turns that are there.
use Rattle.std.proofs.Common.{◌≡◌, ℕ, ◌+◌, Bool, true, false, List, [], ◌∷◌, ◌++◌, refl, sym, ap, ◌∙◌, append_assoc, append-nil}
use Rattle.std.specs.Prelude.{Option, Some, None, Err, if◌then◌else◌}
use Rattle.std.specs.Option.{option_map}
use Rattle.wt_wire.specs.declared.side.Side.{Side}
use Rattle.wt_wire.specs.declared.side.Side.TheVariants.{Server}
use Rattle.wt_turn.specs.declared.turn.Turn.{Turn}
use Rattle.wt_script.specs.Lines.{Lines}
use Rattle.wt_script.specs.Drafts.{is_left_out, read_lines}
use Rattle.wt_script.specs.Script.{script_at_end, turn_of, with_lines, with_turn, with_words}
use Rattle.wt_script.specs.Words.{lines}
use Rattle.wt_trace.specs.Command.{server_turns, with_first_turn}

-- these turns of this side, so far
abbrev pub so_far : Side → List Turn → Lines
so_far side turns = record { side = Some side; turns = turns }

one-line : (side : Side) (first turns : List Turn) (number : ℕ) (later : List (List ℕ))
    → ((more : List Turn) → read_lines with_words script_at_end (number + 1) (so_far side (first ++ more)) later ≡ with_first_turn first (read_lines with_words script_at_end (number + 1) (so_far side more) later))
    → (is_out : Bool) (turn : Option Turn)
    → elim (if is_out then Some (so_far side (first ++ turns)) else option_map (with_turn (so_far side (first ++ turns))) turn) [ Some following ↦ read_lines with_words script_at_end (number + 1) following later | None ↦ Err (record { line = number }) ]
    ≡ with_first_turn first (elim (if is_out then Some (so_far side turns) else option_map (with_turn (so_far side turns)) turn) [ Some following ↦ read_lines with_words script_at_end (number + 1) following later | None ↦ Err (record { line = number }) ])
one-line side first turns number later more true turn = more turns
one-line side first turns number later more false None = refl
one-line side first turns number later more false (Some turn) =
    ap (λ (ts : List Turn). read_lines with_words script_at_end (number + 1) (so_far side ts) later) (append_assoc first turns (turn ∷ [])) ∙ more (turns ++ turn ∷ [])

-- turns that were there come before those of the lines
first-stays : (side : Side) (first turns : List Turn) (number : ℕ) (ls : List (List ℕ))
    → read_lines with_words script_at_end number (so_far side (first ++ turns)) ls ≡ with_first_turn first (read_lines with_words script_at_end number (so_far side turns) ls)
first-stays side first turns number [] = refl
first-stays side first turns number (line ∷ ls) = one-line side first turns number ls (λ more. first-stays side first more (number + 1) ls) (is_left_out line) (turn_of line)

pub first_come_first : (first : List Turn) (input : List ℕ) → with_lines (record { side = Server; turns = first }) input ≡ with_first_turn first (server_turns input)
first_come_first first input =
    ap (λ (ts : List Turn). read_lines with_words script_at_end 1 (so_far Server ts) (lines input)) (sym (append-nil first)) ∙ first-stays Server first [] 1 (lines input)
