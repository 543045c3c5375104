-- The answer that gives a session, up to its first close: all that it sends on the session's stream stands in front.
use Rattle.std.specs.Prelude.{[], ◌++◌, ◌==◌, ◌∷◌, ◌≡◌, Bool, List, Some, false, if◌then◌else◌, true, ℕ}
use Rattle.std.specs.List.{list_any}
use Rattle.std.proofs.Common.{◌∙◌, ap, append_assoc, refl, sym}
use Rattle.std.proofs.lemmas.Bool.{eqb-true}
use Rattle.std.proofs.lemmas.List.{append-nil}
use Rattle.wt_check.specs.Sessions.{before_close}
use Rattle.wt_meaning.specs.Findings.{first_of}
use Rattle.wt_meaning.specs.History.{History}
use Rattle.wt_meaning.specs.Meaning.{next, own_answer, with_pair}
use Rattle.wt_meaning.specs.Sends.{moment_actions}
use Rattle.wt_promise.proofs.Accepted.{or-left, or-right}
use Rattle.wt_promise.proofs.BytesOut.{bytes_on, piece_on}
use Rattle.wt_promise.proofs.ControlKept.{next-bytes, own-bytes}
use Rattle.wt_promise.specs.Sides.{opens_of}
use Rattle.wt_turn.specs.Joined.{join_all, join_one}
use Rattle.wt_turn.specs.Streams.{local_uni}
use Rattle.wt_turn.specs.Log.{closes}
use Rattle.wt_turn.specs.declared.action.Action.{Action}
use Rattle.wt_turn.specs.declared.turn.Turn.{Turn}
use Rattle.wt_wire.specs.declared.side.Side.{Side}
use Rattle.wt_turn.specs.declared.action.Action.TheVariants as actions

-- ---- joining moves no close

abbrev front : ℕ → List Action → List ℕ
front k as_ = bytes_on k (before_close as_)

front-two : (k : ℕ) (b a : Action) (later : List Action) → front k (join_one (b ∷ []) a ++ later) ≡ front k (b ∷ a ∷ later)
front-two k (actions.Send i p) (actions.Send j q) later = by (i == j) refl
  where
    by : (x : Bool) → (i == j) ≡ x → front k ((if x then actions.Send i (p ++ q) ∷ [] else actions.Send i p ∷ actions.Send j q ∷ []) ++ later) ≡ front k (actions.Send i p ∷ actions.Send j q ∷ later)
    by false e = refl
    by true e = rw (sym (eqb-true i j e)) (both (i == k))
      where
        both : (c : Bool) → (if c then p ++ q else []) ++ front k later ≡ (if c then p else []) ++ ((if c then q else []) ++ front k later)
        both true = append_assoc p q (front k later)
        both false = refl
front-two k b a later = refl

front-one : (k : ℕ) (before : List Action) (a : Action) (later : List Action) → front k (join_one before a ++ later) ≡ front k (before ++ a ∷ later)
front-one k [] a later = refl
front-one k (b ∷ []) a later = front-two k b a later
front-one k (b ∷ c ∷ rest) a later = by (closes b) (front-one k (c ∷ rest) a later)
  where
    by : (x : Bool) → front k (join_one (c ∷ rest) a ++ later) ≡ front k ((c ∷ rest) ++ a ∷ later)
        → bytes_on k (if x then [] else b ∷ before_close (join_one (c ∷ rest) a ++ later)) ≡ bytes_on k (if x then [] else b ∷ before_close ((c ∷ rest) ++ a ∷ later))
    by true e = refl
    by false e = ap (λ (xs : List ℕ). piece_on k b ++ xs) e

front-join : (k : ℕ) (before later : List Action) → front k (join_all before later) ≡ front k (before ++ later)
front-join k before [] = ap (front k) (sym (append-nil before))
front-join k before (a ∷ later) = front-join k (join_one before a) later ∙ front-one k before a later

-- where none closes all stand in front
front-open : (k : ℕ) (xs ys : List Action) → list_any closes xs ≡ false → front k (xs ++ ys) ≡ bytes_on k xs ++ front k ys
front-open k [] ys e = refl
front-open k (x ∷ xs) ys e =
    rw (or-left (closes x) (list_any closes xs) e)
    (ap (λ (bs : List ℕ). piece_on k x ++ bs) (front-open k xs ys (or-right (closes x) (list_any closes xs) e)) ∙ sym (append_assoc (piece_on k x) (bytes_on k xs) (front k ys)))

first-nil : (xs ys : List ℕ) → xs ++ ys ≡ [] → (xs ≡ []) × (ys ≡ [])
first-nil [] ys e = (refl, e)
first-nil (x ∷ xs) ys e = absurd (cc e)

front-none : (k : ℕ) (xs : List Action) → bytes_on k xs ≡ [] → front k xs ≡ []
front-none k [] e = refl
front-none k (x ∷ xs) e = by (closes x) (first-nil (piece_on k x) (bytes_on k xs) e) (front-none k xs)
  where
    by : (b : Bool) → ((piece_on k x ≡ []) × (bytes_on k xs ≡ [])) → (bytes_on k xs ≡ [] → front k xs ≡ []) → bytes_on k (if b then [] else x ∷ before_close xs) ≡ []
    by true p again = refl
    by false p again = rw (p.0, again p.1) refl

same-front : (xs ys : List ℕ) → xs ++ ys ≡ xs → ys ≡ []
same-front [] ys e = e
same-front (x ∷ xs) ys e = same-front xs ys (cc e)

-- an answer whose call closes nothing
pub all-in-front : (side : Side) (h : History) (turn : Turn) (k : ℕ) → (k == local_uni side) ≡ false → list_any closes (own_answer side h turn).actions ≡ false
    → bytes_on k (before_close (next side h turn).actions) ≡ bytes_on k (next side h turn).actions
all-in-front side h turn k n c =
    front-join k [] (own ++ moment) ∙ front-open k own moment c
    ∙ ap (λ (xs : List ℕ). bytes_on k own ++ xs) (front-none k moment (same-front (bytes_on k own) (bytes_on k moment) (sym (next-bytes side h turn k) ∙ own-bytes side h turn k n)))
    ∙ append-nil (bytes_on k own) ∙ sym (own-bytes side h turn k n)
  where
    own : List Action
    own = (own_answer side h turn).actions

    moment : List Action
    moment = moment_actions side (with_pair h turn (own_answer side h turn))

-- ---- what is opened first stays first

open-stays : (k : ℕ) (xs later : List Action) → (ys : List Action) × (join_all (actions.Opened k ∷ xs) later ≡ actions.Opened k ∷ ys)
open-stays k xs [] = (xs, refl)
open-stays k [] (a ∷ later) = open-stays k (a ∷ []) later
open-stays k (x ∷ xs) (a ∷ later) = open-stays k (join_one (x ∷ xs) a) later

-- an answer whose call opens stream 0 first
pub zero-first : (side : Side) (h : History) (turn : Turn) (later : List Action) → (own_answer side h turn).actions ≡ actions.Opened 0 ∷ later → first_of (opens_of 0) (before_close (next side h turn).actions) ≡ Some 0
zero-first side h turn later e =
    let r = open-stays 0 [] (later ++ moment_actions side (with_pair h turn (own_answer side h turn))) in
    ap (λ (as_ : List Action). first_of (opens_of 0) (before_close (join_all [] (as_ ++ moment_actions side (with_pair h turn (own_answer side h turn)))))) e ∙ ap (λ (as_ : List Action). first_of (opens_of 0) (before_close as_)) r.1
