-- A run goes on from the answers so far.
use Rattle.std.proofs.Common.{◌∙◌, ap, refl, sym}
use Rattle.std.proofs.lemmas.List.{append-nil, append_assoc}
use Rattle.std.specs.Prelude.{[], ◌++◌, ◌∷◌, ◌≡◌, List, false, true}
use Rattle.wt_meaning.specs.History.{History}
use Rattle.wt_meaning.specs.Lawful.{is_lawful}
use Rattle.wt_meaning.specs.Meaning.{Run, answer_to, history_after, run_from, with_answer}
use Rattle.wt_turn.specs.declared.answer.Answer.{Answer}
use Rattle.wt_turn.specs.declared.turn.Turn.{Turn}
use Rattle.wt_wire.specs.declared.side.Side.{Side}

-- these answers before those of a run
abbrev pub after_answers : List Answer → Run → Run
after_answers answers r = record { answers = answers ++ r.answers; is_all = r.is_all }

after_answers-more : (answers : List Answer) (a : Answer) (r : Run) → after_answers answers (with_answer a r) ≡ after_answers (answers ++ a ∷ []) r
after_answers-more answers a r = ap (λ (as_ : List Answer). record { answers = as_; is_all = r.is_all }) (sym (append_assoc answers (a ∷ []) r.answers))

-- a run that stops at once
abbrev stopped : Run
stopped = record { answers = []; is_all = false }

run-unlawful : (side : Side) (h : History) (t : Turn) (ts : List Turn) → is_lawful side h t ≡ false → run_from side h (t ∷ ts) ≡ stopped
run-unlawful side h t ts e = rw e refl

run-goes : (side : Side) (h : History) (t : Turn) (ts : List Turn) → is_lawful side h t ≡ true → run_from side h (t ∷ ts) ≡ with_answer (answer_to side h t) (run_from side (history_after side h t) ts)
run-goes side h t ts e = rw e refl

-- it ends at a turn that isn't lawful
pub stops-here : (side : Side) (h : History) (t : Turn) (ts later : List Turn) (answers : List Answer) (r : Run) → ts ≡ t ∷ later → is_lawful side h t ≡ false
    → after_answers answers (run_from side h ts) ≡ r → r ≡ record { answers = answers; is_all = false }
stops-here side h t ts later answers r e l g =
    sym g
    ∙ ap (λ (us : List Turn). after_answers answers (run_from side h us)) e
    ∙ ap (after_answers answers) (run-unlawful side h t later l)
    ∙ ap (λ (as_ : List Answer). record { answers = as_; is_all = false }) (append-nil answers)

-- one more answer
pub goes-on : (side : Side) (h : History) (t : Turn) (ts later : List Turn) (answers : List Answer) (a : Answer) (r : Run) → ts ≡ t ∷ later → is_lawful side h t ≡ true
    → a ≡ answer_to side h t → after_answers answers (run_from side h ts) ≡ r → after_answers (answers ++ a ∷ []) (run_from side (history_after side h t) later) ≡ r
goes-on side h t ts later answers a r e l f g =
    ap (λ (x : Answer). after_answers (answers ++ x ∷ []) (run_from side (history_after side h t) later)) f
    ∙ sym (after_answers-more answers (answer_to side h t) (run_from side (history_after side h t) later))
    ∙ ap (after_answers answers) (sym (run-goes side h t later l))
    ∙ ap (λ (us : List Turn). after_answers answers (run_from side h us)) (sym e) ∙ g
