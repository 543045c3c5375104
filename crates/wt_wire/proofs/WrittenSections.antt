-- The steps in which a field section is written.
use Rattle.std.proofs.Common.{◌≡◌, ◌+◌, ℕ, zero, suc, List, [], ◌∷◌, ◌++◌, take, Some, sym, ap, ◌∙◌, arith, append_assoc}
use Rattle.std.proofs.lemmas.List.{append-nil}
use Rattle.std.specs.List.{flat_map, slice_get}
use Rattle.wt_wire.specs.HeaderList.{Fields}
use Rattle.wt_wire.specs.FieldSection.{line_bytes}

pub lines_more : (fields : Fields) (i : ℕ) (f : List ℕ × List ℕ) → slice_get fields i ≡ Some f → flat_map line_bytes (take (i + 1) fields) ≡ flat_map line_bytes (take i fields) ++ line_bytes f
lines_more [] i f h = cc
lines_more (g ∷ fields) zero f h = let same : g ≡ f = cc in append-nil (line_bytes g) ∙ ap line_bytes same
lines_more (g ∷ fields) (suc i) f h =
    let following : suc i + 1 ≡ suc (i + 1) = omega arith in
    ap (λ n. flat_map line_bytes (take n (g ∷ fields))) following ∙ ap (λ bs. line_bytes g ++ bs) (lines_more fields i f h)
    ∙ sym (append_assoc (line_bytes g) (flat_map line_bytes (take i fields)) (line_bytes f))
