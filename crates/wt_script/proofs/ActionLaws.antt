-- Actions, part by part.
use Rattle.std.proofs.Common.{◌≡◌, ℕ, List, [], ◌∷◌, ◌++◌, ap}
use Rattle.std.specs.Prelude.{Option, Some, None}
use Rattle.wt_turn.specs.declared.action.Action.{Action}
use Rattle.wt_script.specs.Answers.{action_of_words, actions_from, front}
use Rattle.wt_script.specs.Words.{words}

pub refused_action : (before : List Action) (part : List ℕ) (later : List (List ℕ)) → action_of_words (words (front part later)) ≡ None
    → actions_from before (part ∷ later) ≡ None
refused_action before part later e = ap (λ (o : Option Action). elim o [ Some a ↦ actions_from (before ++ a ∷ []) later | None ↦ None ]) e

pub added_action : (before : List Action) (a : Action) (part : List ℕ) (later : List (List ℕ)) → action_of_words (words (front part later)) ≡ Some a
    → actions_from before (part ∷ later) ≡ actions_from (before ++ a ∷ []) later
added_action before a part later e = ap (λ (o : Option Action). elim o [ Some a ↦ actions_from (before ++ a ∷ []) later | None ↦ None ]) e
