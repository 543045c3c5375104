-- The bytes that actions send on a stream.
use Rattle.std.specs.Prelude.{[], ◌++◌, ◌==◌, ◌||◌, ◌∷◌, ◌≡◌, Bool, List, false, if◌then◌else◌, is_some, not, true, ℕ}
use Rattle.std.specs.List.{list_any}
use Rattle.std.proofs.Common.{◌∙◌, ap, append_assoc, refl, sym}
use Rattle.std.proofs.lemmas.Bool.{eq-eqb, eqb-true}
use Rattle.std.proofs.lemmas.List.{append-nil}
use Rattle.wt_meaning.specs.Findings.{Classified, Faulted, Finding, SessionClosed}
use Rattle.wt_meaning.specs.History.{History, Pair, actions_out, events, out}
use Rattle.wt_meaning.specs.Sends.{actions_for, actions_for_all, session_finish}
use Rattle.wt_promise.proofs.Actions.{none-append, none-gone, none-if}
use Rattle.wt_turn.specs.Joined.{join_all, join_one, newest_first, send_of}
use Rattle.wt_turn.specs.Reports.{stop_of}
use Rattle.wt_turn.specs.Sent.{sent_on, with_sent_piece}
use Rattle.wt_turn.specs.declared.action.Action.{Action}
use Rattle.wt_wire.specs.declared.side.Side.{Side}
use Rattle.wt_proto.specs.declared.verdict.Verdict.TheVariants as verdicts
use Rattle.wt_turn.specs.declared.action.Action.TheVariants as actions

-- the bytes that the action sends on the stream
abbrev pub piece_on : ℕ → Action → List ℕ
piece_on k (actions.Send id piece) = if id == k then piece else []
piece_on k _ = []

-- all that the actions send on it, joined
abbrev pub bytes_on : ℕ → List Action → List ℕ
bytes_on k [] = []
bytes_on k (a ∷ later) = piece_on k a ++ bytes_on k later

with-piece : (k : ℕ) (a : Action) (before : List ℕ) → with_sent_piece k a before ≡ before ++ piece_on k a
with-piece k (actions.Send id piece) before = by (id == k)
  where
    by : (b : Bool) → (if b then before ++ piece else before) ≡ before ++ (if b then piece else [])
    by true = refl
    by false = sym (append-nil before)
with-piece k a before = sym (append-nil before)

pub sent-newest : (k : ℕ) (as_ before : List Action) → sent_on (newest_first as_ before) k ≡ sent_on before k ++ bytes_on k as_
sent-newest k [] before = sym (append-nil (sent_on before k))
sent-newest k (a ∷ later) before =
    sent-newest k later (a ∷ before) ∙ ap (λ (xs : List ℕ). xs ++ bytes_on k later) (with-piece k a (sent_on before k)) ∙ append_assoc (sent_on before k) (piece_on k a) (bytes_on k later)

pub out-add : (p : Pair) (h : History) (k : ℕ) → out (p ∷ h) k ≡ out h k ++ bytes_on k p.answer.actions
out-add p h k = sent-newest k p.answer.actions (actions_out h)

pub bytes-append : (k : ℕ) (xs ys : List Action) → bytes_on k (xs ++ ys) ≡ bytes_on k xs ++ bytes_on k ys
bytes-append k [] ys = refl
bytes-append k (a ∷ xs) ys = ap (λ (zs : List ℕ). piece_on k a ++ zs) (bytes-append k xs ys) ∙ sym (append_assoc (piece_on k a) (bytes_on k xs) (bytes_on k ys))

bytes-two : (k : ℕ) (x y : Action) → bytes_on k (join_one (x ∷ []) y) ≡ bytes_on k (x ∷ y ∷ [])
bytes-two k (actions.Send i p) (actions.Send j q) = by (i == j) refl
  where
    by : (b : Bool) → (i == j) ≡ b → bytes_on k (if b then actions.Send i (p ++ q) ∷ [] else actions.Send i p ∷ actions.Send j q ∷ []) ≡ bytes_on k (actions.Send i p ∷ actions.Send j q ∷ [])
    by false e = refl
    by true e = rw (sym (eqb-true i j e)) (both (i == k))
      where
        both : (c : Bool) → (if c then p ++ q else []) ++ [] ≡ (if c then p else []) ++ ((if c then q else []) ++ [])
        both true = append_assoc p q []
        both false = refl
bytes-two k x y = refl

bytes-one : (k : ℕ) (before : List Action) (a : Action) → bytes_on k (join_one before a) ≡ bytes_on k (before ++ a ∷ [])
bytes-one k [] a = refl
bytes-one k (b ∷ []) a = bytes-two k b a
bytes-one k (b ∷ c ∷ later) a = ap (λ (xs : List ℕ). piece_on k b ++ xs) (bytes-one k (c ∷ later) a)

pub bytes-join : (k : ℕ) (before later : List Action) → bytes_on k (join_all before later) ≡ bytes_on k before ++ bytes_on k later
bytes-join k before [] = sym (append-nil (bytes_on k before))
bytes-join k before (a ∷ later) =
    bytes-join k (join_one before a) later ∙ ap (λ (xs : List ℕ). xs ++ bytes_on k later) (bytes-one k before a ∙ bytes-append k before (a ∷ []))
    ∙ append_assoc (bytes_on k before) (bytes_on k (a ∷ [])) (bytes_on k later)
    ∙ ap (λ (xs : List ℕ). bytes_on k before ++ (xs ++ bytes_on k later)) (append-nil (piece_on k a))

-- the action sends on the stream
abbrev pub sends : ℕ → Action → Bool
sends k (actions.Send id piece) = id == k
sends k _ = false

pub none-on : (k : ℕ) (as_ : List Action) → list_any (sends k) as_ ≡ false → bytes_on k as_ ≡ []
none-on k [] e = refl
none-on k (a ∷ later) e = by a e (none-on k later)
  where
    more : (b : Bool) (piece : List ℕ) → (b || list_any (sends k) later) ≡ false → (list_any (sends k) later ≡ false → bytes_on k later ≡ []) → (if b then piece else []) ++ bytes_on k later ≡ []
    more true piece q again = absurd (cc q)
    more false piece q again = again q

    by : (x : Action) → (sends k x || list_any (sends k) later) ≡ false → (list_any (sends k) later ≡ false → bytes_on k later ≡ []) → piece_on k x ++ bytes_on k later ≡ []
    by (actions.Send id piece) q again = more (id == k) piece q again
    by x q again = again q

pub bytes-sent : (k : ℕ) (bytes : List ℕ) → bytes_on k (send_of k bytes) ≡ bytes
bytes-sent k [] = refl
bytes-sent k (b ∷ bytes) = rw (eq-eqb k k refl) (append-nil (b ∷ bytes))

-- what a finding leads to sends nothing
quiet-for : (k : ℕ) (side : Side) (h : History) (found : List Finding) (f : Finding) → list_any (sends k) (actions_for side h found f) ≡ false
quiet-for k side h found (Classified id (verdicts.WebTransport session offset) false) = refl
quiet-for k side h found (Classified id (verdicts.Refused code) keeps) = none-gone (sends k) (λ j c. refl) (λ j c. refl) side h found id
quiet-for k side h found (Classified id (verdicts.Request headers offset) false) = none-gone (sends k) (λ j c. refl) (λ j c. refl) side h found id
quiet-for k side h found (SessionClosed session code reason true) = none-gone (sends k) (λ j c. refl) (λ j c. refl) side h found session
quiet-for k side h found (SessionClosed session code reason false) =
    none-append (sends k) (session_finish h session) _ (none-if (sends k) (not (is_some (stop_of (events h) session))) (actions.Finish session) refl) (none-gone (sends k) (λ j c. refl) (λ j c. refl) side h found session)
quiet-for k side h found (Faulted code) = refl
quiet-for k side h found f = refl

pub quiet-all : (k : ℕ) (side : Side) (h : History) (before new : List Finding) → list_any (sends k) (actions_for_all side h before new) ≡ false
quiet-all k side h before [] = refl
quiet-all k side h before (f ∷ new) = none-append (sends k) (actions_for side h before f) (actions_for_all side h (before ++ f ∷ []) new) (quiet-for k side h before f) (quiet-all k side h (before ++ f ∷ []) new)
