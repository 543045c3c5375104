-- Texts, line by line.
use Rattle.std.proofs.Common.{◌≡◌, ℕ, ◌+◌, List, ◌∷◌, ap}
use Rattle.std.specs.Prelude.{Option, Some, None, Result, Err}
use Rattle.wt_script.specs.Drafts.{read_lines, with_line}
use Rattle.wt_script.specs.declared.script.ScriptRefused.{ScriptRefused}

pub refused_here : {D W : Type 0} (with_words : D → List ℕ → Option D) (at_end : ℕ → D → Result W ScriptRefused) (number : ℕ) (before : D) (line : List ℕ) (lines : List (List ℕ))
    → with_line with_words before line ≡ None → read_lines with_words at_end number before (line ∷ lines) ≡ Err (record { line = number })
refused_here {D} with_words at_end number before line lines e =
    ap (λ (following : Option D). elim following [ Some following ↦ read_lines with_words at_end (number + 1) following lines | None ↦ Err (record { line = number }) ]) e

pub taken_here : {D W : Type 0} (with_words : D → List ℕ → Option D) (at_end : ℕ → D → Result W ScriptRefused) (number : ℕ) (before following : D) (line : List ℕ) (lines : List (List ℕ))
    → with_line with_words before line ≡ Some following → read_lines with_words at_end number before (line ∷ lines) ≡ read_lines with_words at_end (number + 1) following lines
taken_here {D} with_words at_end number before following line lines e =
    ap (λ (following : Option D). elim following [ Some following ↦ read_lines with_words at_end (number + 1) following lines | None ↦ Err (record { line = number }) ]) e
