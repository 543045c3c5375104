-- A text that is read line by line, by what a line says after those before it (this repository's own).
use Rattle.std.specs.Prelude.{ℕ, ◌+◌, ◌==◌, Bool, true, List, [], ◌∷◌, Option, Some, None, Result, Err, if◌then◌else◌}
use Rattle.wt_script.specs.declared.script.ScriptRefused.{ScriptRefused}

-- an empty line and a line that begins with '#' are left out
abbrev pub is_left_out : List ℕ → Bool
is_left_out [] = true
is_left_out (b ∷ line) = b == 35

-- what one more line says, by what one says that isn't left out; None where it isn't in the grammar
abbrev pub with_line : {D : Type 0} → (D → List ℕ → Option D) → D → List ℕ → Option D
with_line with_words before line = if is_left_out line then Some before else with_words before line

-- the lines one after another, the first of this number; the first that isn't in the grammar refuses the text
abbrev pub read_lines : {D W : Type 0} → (D → List ℕ → Option D) → (ℕ → D → Result W ScriptRefused) → ℕ → D → List (List ℕ) → Result W ScriptRefused
read_lines with_words at_end number before [] = at_end number before
read_lines with_words at_end number before (line ∷ lines) =
    elim (with_line with_words before line) [ Some following ↦ read_lines with_words at_end (number + 1) following lines | None ↦ Err (record { line = number }) ]
