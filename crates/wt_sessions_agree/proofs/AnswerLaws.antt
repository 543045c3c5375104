-- The answer's actions: what a log tells of a turn, joined, is what the pair has; this end's control stream sends alike.
use Rattle.std.specs.Prelude.{[], ◌&&◌, ◌++◌, ◌-◌, ◌==◌, ◌∷◌, ◌≡◌, Bool, List, drop, false, if◌then◌else◌, length, nat_le, nat_lt, not, suc, take, true, zero, ℕ}
use Rattle.std.proofs.Common.{◌∙◌, ap, arith, refl, sym}
use Rattle.std.proofs.lemmas.List.{append-nil}
use Rattle.wt_message.specs.FixedBytes.{local_control_bytes}
use Rattle.wt_meaning.specs.History.{History, actions_out, events}
use Rattle.wt_meaning.specs.Meaning.{completed, with_pair}
use Rattle.wt_meaning.specs.Sends.{action_if, moment_actions}
use Rattle.wt_meaning.specs.Sends as sends
use Rattle.wt_turn.specs.Joined.{join_all, newest_first, send_of}
use Rattle.wt_turn.specs.Reports.{credit, unis_allowed}
use Rattle.wt_turn.specs.Sent.{sent_on}
use Rattle.wt_turn.specs.Streams.{local_count, local_uni}
use Rattle.wt_sessions.specs.Answers.{actions_since}
use Rattle.wt_sessions.specs.Driver.{apply_if, control_actions, control_sent, flush, pending_actions}
use Rattle.wt_sessions.specs.Effect.{log_call}
use Rattle.wt_sessions_agree.proofs.Basics.{take-none}
use Rattle.wt_sessions_agree.proofs.OutLaws.{acted, since-is}
use Rattle.wt_sessions_agree.specs.Stands.{SameOut}
use Rattle.wt_turn.specs.Log.{CallRecord, Called, Log, actions_of, events_of, with_actions}
use Rattle.wt_turn.specs.Log as logs
use Rattle.wt_turn.specs.declared.action.Action.{Action}
use Rattle.wt_turn.specs.declared.answer.Answer.{Answer}
use Rattle.wt_turn.specs.declared.turn.Turn.{Turn}
use Rattle.wt_wire.specs.declared.side.Side.{Side}
use Rattle.wt_turn.specs.declared.action.Action.TheVariants as actions

-- ---- a call's actions, then its moment's

pub newest-append : (xs ys before : List Action) → newest_first (xs ++ ys) before ≡ newest_first ys (newest_first xs before)
newest-append [] ys before = refl
newest-append (x ∷ xs) ys before = newest-append xs ys (x ∷ before)

-- what goes out at the newest moment, while the connection is open
abbrev pub sent-then : Side → Log → List Action
sent-then side log = if logs.is_open log then pending_actions side log else []

pub called-actions : (side : Side) (log : Log) (own : List Action) (r : CallRecord)
    → actions_of (log_call side log own r) ≡ newest_first (own ++ sent-then side (Called r ∷ with_actions own log)) (actions_of log)
unfolding flush
called-actions side log own r = by (logs.is_open (Called r ∷ with_actions own log)) refl
  where
    later : Log
    later = Called r ∷ with_actions own log

    by : (b : Bool) → logs.is_open later ≡ b → actions_of (apply_if (true && logs.is_open later) (with_actions (pending_actions side later)) later)
        ≡ newest_first (own ++ sent-then side later) (actions_of log)
    by true e = rw e (acted (pending_actions side later) later ∙ ap (newest_first (pending_actions side later)) (acted own log) ∙ sym (newest-append own (pending_actions side later) (actions_of log)))
    by false e = rw (e, append-nil own) (acted own log)

-- so that the pair's answer is that of the log, where the moments send alike
pub answer-agrees : (side : Side) (h : History) (log : Log) (turn : Turn) (own : Answer) (r : CallRecord)
    → sent-then side (Called r ∷ with_actions own.actions log) ≡ moment_actions side (with_pair h turn own)
    → actions_since log (log_call side log own.actions r) ≡ (completed side h turn own).actions
answer-agrees side h log turn own r e =
    since-is log (log_call side log own.actions r) (own.actions ++ sent-then side (Called r ∷ with_actions own.actions log)) (called-actions side log own.actions r)
    ∙ ap (λ (as_ : List Action). join_all [] (own.actions ++ as_)) e

-- ---- this end's control stream

front-rest : (n c : ℕ) (xs : List ℕ) → take (c - n) (drop n xs) ≡ drop n (take c xs)
front-rest zero c xs = let e : c - 0 ≡ c = omega arith in ap (λ (m : ℕ). take m xs) e
front-rest (suc n) zero [] = take-none (0 - suc n)
front-rest (suc n) zero (b ∷ xs) = let e : 0 - suc n ≡ 0 = omega arith in ap (λ (m : ℕ). take m (drop n xs)) e ∙ none (drop n xs)
  where
    none : (ys : List ℕ) → take 0 ys ≡ []
    none [] = refl
    none (y ∷ ys) = refl
front-rest (suc n) (suc c) [] = take-none (suc c - suc n)
front-rest (suc n) (suc c) (b ∷ xs) = let e : suc c - suc n ≡ c - n = omega arith in ap (λ (m : ℕ). take m (drop n xs)) e ∙ front-rest n c xs

one-lt : (n : ℕ) → nat_le 1 n ≡ nat_lt 0 n
one-lt n = grind (arith)

pub control-agrees : (side : Side) (h : History) (log : Log) → events h ≡ events_of log → SameOut (actions_out h) (actions_of log)
    → sends.control_actions side h ≡ control_actions (nat_lt 0 (unis_allowed (events_of log))) (local_uni side) (credit (events_of log) (local_uni side)) (control_sent side log)
control-agrees side h log e s = rw (e, one-lt (unis_allowed (events_of log))) (by (nat_lt 0 (unis_allowed (events_of log))))
  where
    opened : (b : Bool) → action_if b (actions.Opened (local_uni side)) ≡ action_if (not (not b)) (actions.Opened (local_uni side))
    opened true = refl
    opened false = refl

    by : (b : Bool) → (if b then action_if (local_count (actions_out h) (local_uni side) == 0) (actions.Opened (local_uni side))
        ++ send_of (local_uni side) (take (credit (events_of log) (local_uni side) - length (sent_on (actions_out h) (local_uni side)))
        (drop (length (sent_on (actions_out h) (local_uni side))) local_control_bytes)) else [])
        ≡ control_actions b (local_uni side) (credit (events_of log) (local_uni side)) (control_sent side log)
    by false = refl
    by true =
        rw (s.opened (local_uni side), s.sent (local_uni side))
        (ap (λ (xs : List Action). xs ++ send_of (local_uni side)
        (take (credit (events_of log) (local_uni side) - length (sent_on (actions_of log) (local_uni side))) (drop (length (sent_on (actions_of log) (local_uni side))) local_control_bytes)))
        (opened (local_count (actions_of log) (local_uni side) == 0))
        ∙ ap (λ (bytes : List ℕ). action_if (not (not (local_count (actions_of log) (local_uni side) == 0))) (actions.Opened (local_uni side)) ++ send_of (local_uni side) bytes)
        (front-rest (length (sent_on (actions_of log) (local_uni side))) (credit (events_of log) (local_uni side)) local_control_bytes))
