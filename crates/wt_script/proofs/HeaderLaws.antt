-- Fields, word by word.
use Rattle.std.proofs.Common.{◌≡◌, ℕ, List, [], ◌∷◌, ap}
use Rattle.std.specs.Borrow.{Bor}
use Rattle.std.specs.Prelude.{Option, Some, None}
use Rattle.wt_wire.specs.HeaderList.{Fields}
use Rattle.wt_script.specs.Headers.{headers_from, with_header}

pub refused_field : (fields : Fields) (word : List ℕ) (words : List (List ℕ)) → with_header fields word ≡ None → headers_from fields (word ∷ words) ≡ None
refused_field fields word words e = ap (λ (following : Option Fields). elim following [ Some more ↦ headers_from more words | None ↦ None ]) e

pub added_field : (fields more : Fields) (word : List ℕ) (words : List (List ℕ)) → with_header fields word ≡ Some more
    → headers_from fields (word ∷ words) ≡ headers_from more words
added_field fields more word words e = ap (λ (following : Option Fields). elim following [ Some more ↦ headers_from more words | None ↦ None ]) e

-- the words that are left, the next one of which is known
abbrev pub left : Option (Bor (List ℕ) × List (List ℕ)) → List (List ℕ)
left None = []
left (Some (word, words)) = word.now ∷ words
