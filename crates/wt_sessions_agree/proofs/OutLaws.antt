-- What went out: a history tells an answer's actions joined, a log one by one; both say the same of every stream.
use Rattle.std.specs.Prelude.{[], ◌++◌, ◌-◌, ◌==◌, ◌∷◌, ◌||◌, ◌≡◌, Bool, List, false, if◌then◌else◌, length, take, true, ℕ}
use Rattle.std.specs.List.{list_any}
use Rattle.std.proofs.Common.{◌∙◌, ap, append_assoc, arith, refl, sym}
use Rattle.std.proofs.Math.Seq.{take-append_seam}
use Rattle.std.proofs.lemmas.Bool.{eqb-true}
use Rattle.std.proofs.lemmas.List.{append-nil, length-append}
use Rattle.wt_meaning.specs.History.{is_reset_of}
use Rattle.wt_promise.proofs.Actions.{AnyPiece, any-join_all, opened-join, opened-out}
use Rattle.wt_turn.specs.Joined.{join_all, join_one, joined_actions, newest_first}
use Rattle.wt_turn.specs.Sent.{dials, finishes, sent_on}
use Rattle.wt_sessions.specs.Answers.{actions_since}
use Rattle.wt_sessions_agree.proofs.Basics.{or-false}
use Rattle.wt_sessions_agree.specs.Stands.{SameOut}
use Rattle.wt_turn.specs.Log.{Log, Sent, actions_of, with_actions}
use Rattle.wt_turn.specs.declared.action.Action.{Action}
use Rattle.wt_turn.specs.declared.action.Action.TheVariants as actions

-- ---- tests

pub any-newest : (test : Action → Bool) (xs before : List Action) → list_any test (newest_first xs before) ≡ (list_any test before || list_any test xs)
any-newest test [] before = sym (or-false (list_any test before))
any-newest test (x ∷ xs) before = any-newest test xs (x ∷ before) ∙ turned (test x) (list_any test before) (list_any test xs)
  where
    turned : (a b c : Bool) → ((a || b) || c) ≡ (b || (a || c))
    turned true true c = refl
    turned true false c = refl
    turned false b c = refl

any-out : (test : Action → Bool) → AnyPiece test → (xs as_ bs : List Action) → list_any test as_ ≡ list_any test bs
    → list_any test (newest_first (join_all [] xs) as_) ≡ list_any test (newest_first xs bs)
any-out test n xs as_ bs e = any-newest test (join_all [] xs) as_ ∙ rw (any-join_all test n [] xs, e) refl ∙ sym (any-newest test xs bs)

-- ---- bytes

-- the bytes that the action sends on the stream
abbrev bytes-of : ℕ → Action → List ℕ
bytes-of k (actions.Send id piece) = if id == k then piece else []
bytes-of k _ = []

-- the bytes that these send on the stream, joined
abbrev sent-in : ℕ → List Action → List ℕ
sent-in k [] = []
sent-in k (a ∷ later) = bytes-of k a ++ sent-in k later

one-more : (k : ℕ) (a : Action) (before : List Action) → sent_on (a ∷ before) k ≡ sent_on before k ++ bytes-of k a
one-more k (actions.Send id piece) before = by (id == k)
  where
    by : (b : Bool) → (if b then sent_on before k ++ piece else sent_on before k) ≡ sent_on before k ++ (if b then piece else [])
    by true = refl
    by false = sym (append-nil (sent_on before k))
one-more k a before = sym (append-nil (sent_on before k))

sent-newest : (k : ℕ) (xs before : List Action) → sent_on (newest_first xs before) k ≡ sent_on before k ++ sent-in k xs
sent-newest k [] before = sym (append-nil (sent_on before k))
sent-newest k (x ∷ xs) before = sent-newest k xs (x ∷ before) ∙ ap (λ (bytes : List ℕ). bytes ++ sent-in k xs) (one-more k x before) ∙ append_assoc (sent_on before k) (bytes-of k x) (sent-in k xs)

sent-two : (k : ℕ) (x y : Action) → sent-in k (join_one (x ∷ []) y) ≡ bytes-of k x ++ (bytes-of k y ++ [])
sent-two k (actions.Send i p) (actions.Send j q) = by (i == j) refl
  where
    both : (b : Bool) → (if b then p ++ q else []) ++ [] ≡ (if b then p else []) ++ ((if b then q else []) ++ [])
    both true = append_assoc p q []
    both false = refl

    by : (b : Bool) → (i == j) ≡ b → sent-in k (if b then actions.Send i (p ++ q) ∷ [] else actions.Send i p ∷ actions.Send j q ∷ []) ≡ (if i == k then p else []) ++ ((if j == k then q else []) ++ [])
    by true e = both (i == k) ∙ ap (λ (n : ℕ). (if i == k then p else []) ++ ((if n == k then q else []) ++ [])) (eqb-true i j e)
    by false e = refl
sent-two k x y = refl

sent-one : (k : ℕ) (before : List Action) (a : Action) → sent-in k (join_one before a) ≡ sent-in k before ++ bytes-of k a
sent-one k [] a = append-nil (bytes-of k a)
sent-one k (b ∷ []) a = sent-two k b a ∙ rw (append-nil (bytes-of k a), append-nil (bytes-of k b)) refl
sent-one k (b ∷ c ∷ later) a = ap (λ (bytes : List ℕ). bytes-of k b ++ bytes) (sent-one k (c ∷ later) a) ∙ sym (append_assoc (bytes-of k b) (sent-in k (c ∷ later)) (bytes-of k a))

sent-join : (k : ℕ) (before later : List Action) → sent-in k (join_all before later) ≡ sent-in k before ++ sent-in k later
sent-join k before [] = sym (append-nil (sent-in k before))
sent-join k before (a ∷ later) =
    sent-join k (join_one before a) later ∙ ap (λ (bytes : List ℕ). bytes ++ sent-in k later) (sent-one k before a) ∙ append_assoc (sent-in k before) (bytes-of k a) (sent-in k later)

-- ---- both say the same

pub same-out : (xs as_ bs : List Action) → SameOut as_ bs → SameOut (newest_first (join_all [] xs) as_) (newest_first xs bs)
same-out xs as_ bs s = record {
  sent = λ k. sent-newest k (join_all [] xs) as_ ∙ rw (s.sent k, sent-join k [] xs) refl ∙ sym (sent-newest k xs bs);
  finished = λ k. any-out (finishes k) (λ i p q. refl) xs as_ bs (s.finished k);
  reset = λ k. any-out (is_reset_of k) (λ i p q. refl) xs as_ bs (s.reset k);
  opened = λ kind. let a = opened-out kind (join_all [] xs) as_ in let b = opened-join kind [] xs in let c = opened-out kind xs bs in let d = s.opened kind in omega (arith, a, b, c, d);
  dialled = any-out dials (λ i p q. refl) xs as_ bs s.dialled;
}

-- likewise where none are joined
pub same-raw : (xs as_ bs : List Action) → SameOut as_ bs → SameOut (newest_first xs as_) (newest_first xs bs)
same-raw xs as_ bs s = record {
  sent = λ k. sent-newest k xs as_ ∙ ap (λ (bytes : List ℕ). bytes ++ sent-in k xs) (s.sent k) ∙ sym (sent-newest k xs bs);
  finished = λ k. any-newest (finishes k) xs as_ ∙ ap (λ (b : Bool). b || list_any (finishes k) xs) (s.finished k) ∙ sym (any-newest (finishes k) xs bs);
  reset = λ k. any-newest (is_reset_of k) xs as_ ∙ ap (λ (b : Bool). b || list_any (is_reset_of k) xs) (s.reset k) ∙ sym (any-newest (is_reset_of k) xs bs);
  opened = λ kind. let a = opened-out kind xs as_ in let b = opened-out kind xs bs in let c = s.opened kind in omega (arith, a, b, c);
  dialled = any-newest dials xs as_ ∙ ap (λ (b : Bool). b || list_any dials xs) s.dialled ∙ sym (any-newest dials xs bs);
}

-- ---- the actions of an answer

pub acted : (xs : List Action) (log : Log) → actions_of (with_actions xs log) ≡ newest_first xs (actions_of log)
acted [] log = refl
acted (x ∷ xs) log = acted xs (Sent x ∷ log)

newest-apart : (xs before : List Action) → newest_first xs before ≡ newest_first xs [] ++ before
newest-apart [] before = refl
newest-apart (x ∷ xs) before = newest-apart xs (x ∷ before) ∙ sym (append_assoc (newest_first xs []) (x ∷ []) before) ∙ ap (λ (as_ : List Action). as_ ++ before) (sym (newest-apart xs (x ∷ [])))

joined-newest : (xs before : List Action) → joined_actions (newest_first xs before) ≡ join_all (joined_actions before) xs
joined-newest [] before = refl
joined-newest (x ∷ xs) before = joined-newest xs (x ∷ before)

-- what was sent since a log, joined, where these were sent
pub since-is : (log later : Log) (xs : List Action) → actions_of later ≡ newest_first xs (actions_of log) → actions_since log later ≡ join_all [] xs
since-is log later xs e =
    ap (λ (as_ : List Action). joined_actions (take (length as_ - length (actions_of log)) as_)) (e ∙ newest-apart xs (actions_of log))
    ∙ ap joined_actions (ap (λ (n : ℕ). take n (newest_first xs [] ++ actions_of log)) count ∙ take-append_seam (newest_first xs []) (actions_of log))
    ∙ joined-newest xs []
  where
    count : length (newest_first xs [] ++ actions_of log) - length (actions_of log) ≡ length (newest_first xs [])
    count = let l = length-append (newest_first xs []) (actions_of log) in omega (arith, l)
