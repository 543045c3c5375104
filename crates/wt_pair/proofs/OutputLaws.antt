-- The lines of answers, one after another, and what was written of them.
use Rattle.std.specs.Prelude.{[], ◌++◌, ◌+◌, ◌<◌, ◌∷◌, ◌≡◌, ◌≤◌, List, None, Option, Some, drop, get_or, length, suc, take, zero, ℕ}
use Rattle.std.specs.Io.KnownBytes.{Appends}
use Rattle.std.proofs.Common.{add-one, ◌∙◌, ap, append_assoc, arith, refl, subst, sym}
use Rattle.std.proofs.lemmas.List.{append-nil}
use Rattle.wt_pair.specs.Output.{outcome_text, name_text, pair_line, print_pair}
use Rattle.wt_pair.specs.declared.answer.PairAnswer.{PairAnswer}
use Rattle.wt_pair.specs.declared.event.PairEvent.{PairEvent}
use Rattle.wt_trace.proofs.OutsideLaws.{part_longer, part_passed, passes_then}
use Rattle.wt_trace.specs.Outside.{AppendsPart, Passes}

-- no answers have no lines
none-printed : (events : List PairEvent) → print_pair events [] ≡ []
none-printed [] = refl
none-printed (e ∷ events) = refl

-- one line more
print-more : (events : List PairEvent) (answers : List PairAnswer) (i : ℕ) (event : PairEvent) (a : PairAnswer) → i < length answers → length answers ≤ length events → event ≡ get_or events i event
    → a ≡ get_or answers i a → print_pair events (take i answers) ++ pair_line event a ≡ print_pair events (take (suc i) answers)
print-more [] [] i event a l m p q = absurd (omega arith)
print-more [] (b ∷ answers) i event a l m p q = absurd (omega arith)
print-more (e ∷ events) [] i event a l m p q = absurd (omega arith)
print-more (e ∷ events) (b ∷ answers) zero event a l m p q =
    ap (λ (x : PairEvent). pair_line x a) p ∙ ap (pair_line e) q ∙ sym (append-none (pair_line e b)) ∙ ap (λ (t : List ℕ). pair_line e b ++ t) (sym (none-printed events))
  where
    append-none : (t : List ℕ) → t ++ [] ≡ t
    append-none [] = refl
    append-none (c ∷ t) = ap (λ (u : List ℕ). c ∷ u) (append-none t)
print-more (e ∷ events) (b ∷ answers) (suc i) event a l m p q =
    append_assoc (pair_line e b) (print_pair events (take i answers)) (pair_line event a)
    ∙ ap (λ (t : List ℕ). pair_line e b ++ t) (print-more events answers i event a (omega arith) (omega arith) p q)

-- the lines of the first answers, and of the others
print-parts : (events : List PairEvent) (answers : List PairAnswer) (n : ℕ) → print_pair events (take n answers) ++ print_pair (drop n events) (drop n answers) ≡ print_pair events answers
print-parts events answers zero = ap (λ (t : List ℕ). t ++ print_pair events answers) (none-printed events)
print-parts [] answers (suc n) = refl
print-parts (e ∷ events) [] (suc n) = none-printed (drop n events)
print-parts (e ∷ events) (b ∷ answers) (suc n) =
    append_assoc (pair_line e b) (print_pair events (take n answers)) (print_pair (drop n events) (drop n answers)) ∙ ap (λ (t : List ℕ). pair_line e b ++ t) (print-parts events answers n)

-- ---- lines that are gathered before they are written

-- up to an answer, and then that answer's too
pub line-passes : (old mid new : Option (List ℕ)) (events : List PairEvent) (answers : List PairAnswer) (waiting later : List ℕ) (i : ℕ) (event : PairEvent) (a : PairAnswer)
    → i < length answers → length answers ≤ length events → event ≡ get_or events i event → a ≡ get_or answers i a
    → Passes old mid (print_pair events (take i answers)) waiting → Passes mid new (waiting ++ pair_line event a) later → Passes old new (print_pair events (take (i + 1) answers)) later
line-passes old mid new events answers waiting later i event a l m p q x y =
    subst (λ (t : List ℕ). Passes old new t later) (print-more events answers i event a l m p q ∙ ap (λ (n : ℕ). print_pair events (take n answers)) (sym (add-one i)))
    (passes_then old mid new (print_pair events (take i answers)) waiting (pair_line event a) later x y)

-- a part of the lines up to an answer's is a part of all lines, and of what follows them
pub line-part : (old mid new : Option (List ℕ)) (events : List PairEvent) (answers : List PairAnswer) (waiting last : List ℕ) (i : ℕ) (event : PairEvent) (a : PairAnswer)
    → i < length answers → length answers ≤ length events → event ≡ get_or events i event → a ≡ get_or answers i a
    → Passes old mid (print_pair events (take i answers)) waiting → AppendsPart mid new (waiting ++ pair_line event a) → AppendsPart old new (print_pair events answers ++ last)
line-part old mid new events answers waiting last i event a l m p q x y =
    let here : AppendsPart old new (print_pair events (take (suc i) answers)) =
    subst (AppendsPart old new) (print-more events answers i event a l m p q) (part_passed old mid new (print_pair events (take i answers)) waiting (pair_line event a) x y) in
    part_longer old new (print_pair events answers) last
    (subst (AppendsPart old new) (print-parts events answers (suc i)) (part_longer old new (print_pair events (take (suc i) answers)) (print_pair (drop (suc i) events) (drop (suc i) answers)) here))

-- before the first answer nothing was written, and nothing waits
pub none-pass : (took : Option (List ℕ)) (events : List PairEvent) (waiting : List ℕ) → waiting ≡ [] → Passes took took (print_pair events []) waiting
none-pass took events waiting e = record { written = []; whole = e ∙ sym (none-printed events); appends = same took }
  where
    same : (o : Option (List ℕ)) → Appends o o []
    same None = tt
    same (Some xs) = sym (append-nil xs)
