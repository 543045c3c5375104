-- A lawful list is answered whole, and a piece may be cut.
use Rattle.std.specs.Prelude.{[], ◌++◌, ◌∷◌, ◌≡◌, List, true, ℕ}
use Rattle.std.proofs.Common.{◌∙◌, ap, refl, sym}
use Rattle.wt_turn.specs.Joined.{join_all}
use Rattle.wt_turn.specs.declared.turn.Turn.{Turn}
use Rattle.wt_wire.specs.declared.side.Side.{Side}
use Rattle.wt_meaning.specs.History.{History}
use Rattle.wt_meaning.specs.Meaning.{after_bytes, bytes_actions, history_after, meaning_from, next, own_answer, run_from, step, with_pair}
use Rattle.wt_meaning.specs.Sends.{moment_actions}
use Rattle.wt_promise.specs.Promise.{AllLawful, CutsFreely}
use Rattle.wt_promise.proofs.Joins.{join_all-assoc}
use Rattle.wt_promise.proofs.Prefixes.{cut-lawful}
use Rattle.wt_turn.specs.declared.turn.Turn.TheVariants as turns

-- the run of a lawful list is its meaning
pub run_from-lawful : (side : Side) (h : History) (all : List Turn) → AllLawful side h all → run_from side h all ≡ record { answers = meaning_from side h all; is_all = true }
run_from-lawful side h [] lawful = refl
run_from-lawful side h (turn ∷ later) lawful = rw (lawful.0, run_from-lawful side (history_after side h turn) later lawful.1) refl

-- bytes in two parts lead to the same history
after_bytes-append : (side : Side) (h : History) (k : ℕ) (xs ys : List ℕ) → after_bytes side h k (xs ++ ys) ≡ after_bytes side (after_bytes side h k xs) k ys
after_bytes-append side h k [] ys = refl
after_bytes-append side h k (b ∷ xs) ys = after_bytes-append side (step side h (turns.Bytes k (b ∷ []))) k xs ys

-- what goes out during bytes is joined already
bytes_actions-joined : (side : Side) (h : History) (k : ℕ) (xs : List ℕ) → join_all [] (bytes_actions side h k xs) ≡ bytes_actions side h k xs
bytes_actions-joined side h k [] = refl
bytes_actions-joined side h k (b ∷ xs) =
    sym (join_all-assoc [] (next side h (turns.Bytes k (b ∷ []))).actions (bytes_actions side (step side h (turns.Bytes k (b ∷ []))) k xs))
    ∙ ap (λ as_. join_all as_ (bytes_actions side (step side h (turns.Bytes k (b ∷ []))) k xs)) (sym (join_all-assoc [] [] ((own_answer side h (turns.Bytes k (b ∷ []))).actions ++ moment_actions side (with_pair h (turns.Bytes k (b ∷ [])) (own_answer side h (turns.Bytes k (b ∷ [])))))))

bytes_actions-append : (side : Side) (h : History) (k : ℕ) (xs ys : List ℕ) → bytes_actions side h k (xs ++ ys) ≡ join_all (bytes_actions side h k xs) (bytes_actions side (after_bytes side h k xs) k ys)
bytes_actions-append side h k [] ys = sym (bytes_actions-joined side h k ys)
bytes_actions-append side h k (b ∷ xs) ys =
    ap (join_all (next side h (turns.Bytes k (b ∷ []))).actions) (bytes_actions-append side (step side h (turns.Bytes k (b ∷ []))) k xs ys)
    ∙ sym (join_all-assoc (next side h (turns.Bytes k (b ∷ []))).actions (bytes_actions side (step side h (turns.Bytes k (b ∷ []))) k xs) (bytes_actions side (after_bytes side h k (b ∷ xs)) k ys))

-- a piece may be cut in two anywhere
pub cuts-freely : (side : Side) (h : History) (k : ℕ) (first second : List ℕ) → CutsFreely side h k first second
cuts-freely side h k first second = record { lawful = cut-lawful side h k first second; history = after_bytes-append side h k first second; actions = bytes_actions-append side h k first second }
