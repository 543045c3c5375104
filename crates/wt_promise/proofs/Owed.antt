-- What a finding owes goes out in the answer in which it is found.
use Rattle.std.specs.Prelude.{[], ◌++◌, ◌==◌, ◌∷◌, ◌||◌, ◌≡◌, Bool, List, drop, if◌then◌else◌, length, true, ℕ}
use Rattle.std.specs.List.{list_any}
use Rattle.std.proofs.Common.{◌∙◌, ap, append_assoc, append-nil, refl, sym}
use Rattle.std.proofs.Math.Seq.{drop-append_seam}
use Rattle.std.proofs.lemmas.Bool.{eq-eqb}
use Rattle.std.proofs.lemmas.List.Folds.{list_any-append}
use Rattle.wt_meaning.specs.Findings.{Finding}
use Rattle.wt_meaning.specs.History.{History}
use Rattle.wt_meaning.specs.Meaning.{next, own_answer, with_pair}
use Rattle.wt_meaning.specs.Moments.{findings}
use Rattle.wt_meaning.specs.Sends.{actions_for, actions_for_all, control_actions, moment_actions}
use Rattle.wt_promise.proofs.Accepted.{or-true}
use Rattle.wt_promise.proofs.Actions.{AnyPiece, any-next}
use Rattle.wt_promise.proofs.OpenStays.{same-findings}
use Rattle.wt_promise.proofs.OwnForms.{leaves_open, stops_with}
use Rattle.wt_turn.specs.declared.action.Action.{Action}
use Rattle.wt_turn.specs.declared.turn.Turn.{Turn}
use Rattle.wt_wire.specs.declared.side.Side.{Side}
use Rattle.wt_turn.specs.declared.action.Action.TheVariants as actions

-- ---- a list has what its parts have

pub has-left : (test : Action → Bool) (xs ys : List Action) → list_any test xs ≡ true → list_any test (xs ++ ys) ≡ true
has-left test xs ys e = list_any-append test xs ys ∙ ap (λ (b : Bool). b || list_any test ys) e

pub has-right : (test : Action → Bool) (xs ys : List Action) → list_any test ys ≡ true → list_any test (xs ++ ys) ≡ true
has-right test xs ys e = list_any-append test xs ys ∙ ap (λ (b : Bool). list_any test xs || b) e ∙ or-true (list_any test xs)

-- what goes out for a finding goes out for a list with it
pub among : (test : Action → Bool) (side : Side) (h : History) (found xs ys : List Finding) (f : Finding) → list_any test (actions_for side h (found ++ xs) f) ≡ true
    → list_any test (actions_for_all side h found (xs ++ f ∷ ys)) ≡ true
among test side h found [] ys f e = has-left test (actions_for side h found f) _ (ap (λ (seen : List Finding). list_any test (actions_for side h seen f)) (sym (append-nil found)) ∙ e)
among test side h found (x ∷ xs) ys f e =
    has-right test (actions_for side h found x) _
    (among test side h (found ++ x ∷ []) xs ys f (ap (λ (seen : List Finding). list_any test (actions_for side h seen f)) (append_assoc found (x ∷ []) xs) ∙ e))

-- ---- the moment's actions are in the answer

pub moment-has : (test : Action → Bool) → AnyPiece test → (side : Side) (h : History) (turn : Turn) (new : List Finding) → leaves_open side h turn ≡ true
    → findings side (with_pair h turn (next side h turn)) ≡ findings side h ++ new
    → list_any test (actions_for_all side (with_pair h turn (own_answer side h turn)) (findings side h) new) ≡ true → list_any test (next side h turn).actions ≡ true
moment-has test n side h turn new o e t =
    any-next test n side h turn ∙ ap (λ (b : Bool). list_any test (own_answer side h turn).actions || b) there ∙ or-true (list_any test (own_answer side h turn).actions)
  where
    is-new : drop (length (findings side h)) (findings side (with_pair h turn (own_answer side h turn))) ≡ new
    is-new = ap (drop (length (findings side h))) (sym (same-findings side h turn) ∙ e) ∙ drop-append_seam (findings side h) new

    there : list_any test (moment_actions side (with_pair h turn (own_answer side h turn))) ≡ true
    there = ap (λ (b : Bool). list_any test (if b then control_actions side (with_pair h turn (own_answer side h turn))
        ++ actions_for_all side (with_pair h turn (own_answer side h turn)) (findings side h) (drop (length (findings side h)) (findings side (with_pair h turn (own_answer side h turn)))) else [])) o
        ∙ has-right test (control_actions side (with_pair h turn (own_answer side h turn))) _
        (ap (λ (xs : List Finding). list_any test (actions_for_all side (with_pair h turn (own_answer side h turn)) (findings side h) xs)) is-new ∙ t)

-- ---- what each finding owes

pub same : (k : ℕ) → (k == k) ≡ true
same k = eq-eqb k k refl

pub stop-there : (id code : ℕ) → stops_with id code (actions.StopOut id code) ≡ true
stop-there id code = rw (same id, same code) refl

-- the code for a stream that no window takes
abbrev pub gone_code : Bool → ℕ
gone_code gone = if gone then 0x170d7b68 else 0x3994bd84
