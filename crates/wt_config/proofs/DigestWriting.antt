-- Why the writers of digests write the definitions of `specs/DigestText.antt`.
use Rattle.std.proofs.Common.{◌≡◌, ◌≤◌, ℕ, List, [], ◌∷◌, ◌++◌, length, get_or, take, ap, ◌∙◌, arith, append_assoc}
use Rattle.std.proofs.lemmas.List.{take_all}
use Rattle.std.proofs.Output.{has_written_append, has_written_of_eq}
use Rattle.std.specs.Prelude.{flat_map}
use Rattle.std.specs.Fmt.{HasWritten}
use Rattle.std.specs.declared.fmt.Formatter.{Formatter}
use borrow.Rule.Slice.PartMut.{mid_of}
use Rattle.wt_config.specs.DigestText.{joined_by}

-- the first byte, and the loop over the others
shown_all : (between : List ℕ) (shown : ℕ → List ℕ) (bytes : List ℕ) (i : ℕ) → length bytes ≡ 32 → length (mid_of 1 31 bytes) ≤ i
    → shown (get_or bytes 0 0) ++ flat_map (λ byte. between ++ shown byte) (take i (mid_of 1 31 bytes)) ≡ joined_by between shown bytes
shown_all between shown [] i h l = absurd (omega arith)
shown_all between shown (b ∷ bs) i h l =
    ap (λ following. shown b ++ flat_map (λ byte. between ++ shown byte) following) (take_all i (mid_of 1 31 (b ∷ bs)) l ∙ take_all 31 bs (omega arith))

-- what a loop has written after the first byte, after a text
pub writes_all : {W : Type 0} (took : W → List ℕ → W → Type 0) (f g h : Formatter W) (front between : List ℕ) (shown : ℕ → List ℕ) (inside bytes : List ℕ) (i : ℕ)
    → HasWritten took f (front ++ shown (get_or inside 0 0)) g → HasWritten took g (flat_map (λ byte. between ++ shown byte) (take i (mid_of 1 31 inside))) h
    → length inside ≡ 32 → length (mid_of 1 31 inside) ≤ i → inside ≡ bytes → HasWritten took f (front ++ joined_by between shown bytes) h
writes_all took f g h front between shown inside bytes i first following whole done same =
    has_written_of_eq _ _ _ _ _
    (append_assoc front (shown (get_or inside 0 0)) (flat_map (λ byte. between ++ shown byte) (take i (mid_of 1 31 inside)))
    ∙ ap (λ text. front ++ text) (shown_all between shown inside i whole done ∙ ap (joined_by between shown) same))
    (has_written_append took _ _ _ _ _ first following)
