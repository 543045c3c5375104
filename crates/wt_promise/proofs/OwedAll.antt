-- An answer's actions are those that its call, the control stream and the findings owe, in this order.
use Rattle.wt_promise.proofs.Statements.{AllOwedGoesOut}
use Rattle.std.specs.Prelude.{[], ◌++◌, ◌==◌, ◌∷◌, ◌≡◌, Bool, List, drop, false, if◌then◌else◌, length, nat_le, true, ℕ}
use Rattle.std.proofs.Common.{◌∙◌, ap, refl, sym}
use Rattle.wt_meaning.specs.Findings.{Classified, Faulted, Finding, SessionClosed}
use Rattle.wt_meaning.specs.History.{History, actions_out, events, is_open}
use Rattle.wt_meaning.specs.Meaning.{next, own_answer, with_pair}
use Rattle.wt_meaning.specs.Moments.{findings}
use Rattle.wt_meaning.specs.Sends.{actions_for, actions_for_all, control_actions, moment_actions, session_gone_actions}
use Rattle.wt_promise.proofs.HeadTests.{none-some, same-control}
use Rattle.wt_promise.proofs.OpenStays.{same-findings}
use Rattle.wt_promise.proofs.OwedCalls.{turn-owed}
use Rattle.wt_promise.specs.Owed.{as_called, owed_if, owed_by_control, owed_by_finding, owed_by_findings, owed_by_moment, owed_by_turn, rest_of}
use Rattle.wt_turn.specs.Joined.{join_all}
use Rattle.wt_turn.specs.Reports.{stop_of, unis_allowed}
use Rattle.wt_turn.specs.Streams.{local_count, local_uni}
use Rattle.wt_turn.specs.declared.action.Action.{Action}
use Rattle.wt_turn.specs.declared.turn.Turn.{Turn}
use Rattle.wt_wire.specs.declared.side.Side.{Side}
use Rattle.wt_proto.specs.declared.verdict.Verdict.TheVariants as verdicts
use Rattle.wt_turn.specs.declared.action.Action.TheVariants as actions

control-owed : (side : Side) (h : History) → control_actions side h ≡ owed_by_control side h
control-owed side h =
    ap (λ (bytes : List ℕ). if nat_le 1 (unis_allowed (events h)) then owed_if (local_count (actions_out h) (local_uni side) == 0) (actions.Opened (local_uni side) ∷ []) ++ rest_of h (local_uni side) bytes else []) same-control

finding-owed : (side : Side) (h : History) (found : List Finding) (f : Finding) → actions_for side h found f ≡ owed_by_finding side h found f
finding-owed side h found (Classified id (verdicts.WebTransport session offset) false) = refl
finding-owed side h found (Classified id (verdicts.Refused code) keeps) = refl
finding-owed side h found (Classified id (verdicts.Request headers offset) false) = refl
finding-owed side h found (SessionClosed session code reason true) = refl
finding-owed side h found (SessionClosed session code reason false) =
    ap (λ (b : Bool). (if b then actions.Finish session ∷ [] else []) ++ session_gone_actions side h found session) (none-some (stop_of (events h) session))
finding-owed side h found (Faulted code) = refl
finding-owed side h found f = refl

findings-owed : (side : Side) (h : History) (before new : List Finding) → actions_for_all side h before new ≡ owed_by_findings side h before new
findings-owed side h before [] = refl
findings-owed side h before (f ∷ new) =
    ap (λ (xs : List Action). xs ++ actions_for_all side h (before ++ f ∷ []) new) (finding-owed side h before f)
    ∙ ap (λ (xs : List Action). owed_by_finding side h before f ++ xs) (findings-owed side h (before ++ f ∷ []) new)

-- the moment meets the history as the turn and its call leave it
pub met : (side : Side) (h : History) (turn : Turn) → with_pair h turn (own_answer side h turn) ≡ as_called side h turn (next side h turn)
met side h turn = ap (λ (xs : List Action). with_pair h turn (record { reply = (own_answer side h turn).reply; actions = xs })) (turn-owed side h turn)

moment-owed : (side : Side) (h : History) (turn : Turn) → moment_actions side (with_pair h turn (own_answer side h turn)) ≡ owed_by_moment side h turn (next side h turn)
moment-owed side h turn =
    ap (λ (c : History). if is_open c then control_actions side c ++ actions_for_all side c (findings side h) (new c) else []) (met side h turn)
    ∙ ap (λ (xs : List Action). if is_open c then xs else []) (rw (control-owed side c) (ap (λ (xs : List Action). owed_by_control side c ++ xs) (ap (actions_for_all side c (findings side h)) same-new ∙ findings-owed side c (findings side h) (new (with_pair h turn (next side h turn))))))
  where
    c : History
    c = as_called side h turn (next side h turn)

    new : History → List Finding
    new c = drop (length (findings side h)) (findings side c)

    same-new : new c ≡ new (with_pair h turn (next side h turn))
    same-new = ap new (sym (met side h turn)) ∙ ap (drop (length (findings side h))) (sym (same-findings side h turn))

pub all-owed : (side : Side) (h : History) (turn : Turn) → AllOwedGoesOut side h turn (next side h turn)
all-owed side h turn =
    ap (λ (xs : List Action). join_all [] (xs ++ moment_actions side (with_pair h turn (own_answer side h turn)))) (turn-owed side h turn)
    ∙ ap (λ (xs : List Action). join_all [] (owed_by_turn side h turn (next side h turn).reply ++ xs)) (moment-owed side h turn)
