-- What stands behind a reset: in joined actions, and in what goes out for a session that becomes gone.
use Rattle.std.specs.Prelude.{[], ◌&&◌, ◌*◌, ◌++◌, ◌+◌, ◌<◌, ◌==◌, ◌||◌, ◌∷◌, ◌≡◌, Bool, List, false, filter, flat_map, if◌then◌else◌, not, suc, true, zero, ℕ}
use Rattle.std.specs.List.{list_any}
use Rattle.std.proofs.Common.{◌∙◌, ap, arith, refl, subst, sym}
use Rattle.std.proofs.lemmas.Bool.{eqb-true}
use Rattle.std.proofs.lemmas.List.{append-nil}
use Rattle.std.proofs.lemmas.List.Folds.{list_any-append}
use Rattle.wt_meaning.specs.Findings.{Finding}
use Rattle.wt_meaning.specs.History.{History, can_receive, can_send, events, is_given_up, is_reset, is_reset_of, stream_count, was_finished}
use Rattle.wt_meaning.specs.Sends.{action_if, is_of_session, numbers_from, session_gone_actions, stream_gone_actions}
use Rattle.wt_promise.proofs.Accepted.{or-left, or-right, or-true}
use Rattle.wt_promise.proofs.Actions.{any-join_one, none-append, none-if, or-assoc}
use Rattle.wt_promise.proofs.Flow.{clash}
use Rattle.wt_promise.specs.Promise.{NoneBehind, acts_on, sends_on}
use Rattle.wt_turn.specs.Joined.{join_all, join_one}
use Rattle.wt_turn.specs.Reports.{end_of, is_running}
use Rattle.wt_turn.specs.declared.action.Action.{Action}
use Rattle.wt_wire.specs.declared.side.Side.{Side}
use Rattle.wt_turn.specs.declared.action.Action.TheVariants as actions

-- ---- lists

pub behind-append : {T : Type 0} (first later : T → Bool) (xs ys : List T) → NoneBehind first later xs → NoneBehind first later ys → (list_any first xs ≡ true → list_any later ys ≡ false) → NoneBehind first later (xs ++ ys)
behind-append first later [] ys a b f = b
behind-append {T = T} first later (x ∷ xs) ys a b f =
    (λ r. list_any-append later xs ys ∙ rw (a.0 r, f (ap (λ (c : Bool). c || list_any first xs) r)) refl, behind-append first later xs ys a.1 b (λ r. f (ap (λ (c : Bool). first x || c) r ∙ or-true (first x))))

-- where none passes the first test
pub behind-none : {T : Type 0} (first later : T → Bool) (xs : List T) → list_any first xs ≡ false → NoneBehind first later xs
behind-none first later [] e = tt
behind-none {T = T} first later (x ∷ xs) e = (λ r. absurd (clash (first x) r (or-left (first x) (list_any first xs) e)), behind-none first later xs (or-right (first x) (list_any first xs) e))

-- ---- joined actions

abbrev pub Quiet : ℕ → List Action → Type 0
Quiet k as_ = NoneBehind (is_reset_of k) (acts_on k) as_

quiet-two : (k : ℕ) (b a : Action) (later : List Action) → Quiet k (b ∷ a ∷ later) → Quiet k (join_one (b ∷ []) a ++ later)
quiet-two k (actions.Send i p) (actions.Send j s) later q = by (i == j)
  where
    by : (c : Bool) → Quiet k ((if c then actions.Send i (p ++ s) ∷ [] else actions.Send i p ∷ actions.Send j s ∷ []) ++ later)
    by true = (λ r. absurd (cc r), q.1.1)
    by false = q
quiet-two k b a later q = q

quiet-one : (k : ℕ) (before : List Action) (a : Action) (later : List Action) → Quiet k (before ++ a ∷ later) → Quiet k (join_one before a ++ later)
quiet-one k [] a later q = q
quiet-one k (b ∷ []) a later q = quiet-two k b a later q
quiet-one k (b ∷ c ∷ rest) a later q = (λ r. same ∙ q.0 r, quiet-one k (c ∷ rest) a later q.1)
  where
    same : list_any (acts_on k) (join_one (c ∷ rest) a ++ later) ≡ list_any (acts_on k) ((c ∷ rest) ++ a ∷ later)
    same =
        list_any-append (acts_on k) (join_one (c ∷ rest) a) later ∙ ap (λ (x : Bool). x || list_any (acts_on k) later) (any-join_one (acts_on k) (λ i x y. refl) (c ∷ rest) a)
        ∙ sym (or-assoc (list_any (acts_on k) (c ∷ rest)) (acts_on k a) (list_any (acts_on k) later)) ∙ sym (list_any-append (acts_on k) (c ∷ rest) (a ∷ later))

pub quiet-join : (k : ℕ) (before later : List Action) → Quiet k (before ++ later) → Quiet k (join_all before later)
quiet-join k before [] q = subst (Quiet k) (append-nil before) q
quiet-join k before (a ∷ later) q = quiet-join k (join_one before a) later (quiet-one k before a later q)

pub neither-acts : (k : ℕ) (as_ : List Action) → list_any (sends_on k) as_ ≡ false → list_any (is_reset_of k) as_ ≡ false → list_any (acts_on k) as_ ≡ false
neither-acts k [] e f = refl
neither-acts k (a ∷ as_) e f = by (sends_on k a) (is_reset_of k a) e f (neither-acts k as_)
  where
    by : (b c : Bool) → (b || list_any (sends_on k) as_) ≡ false → (c || list_any (is_reset_of k) as_) ≡ false
        → (list_any (sends_on k) as_ ≡ false → list_any (is_reset_of k) as_ ≡ false → list_any (acts_on k) as_ ≡ false) → ((b || c) || list_any (acts_on k) as_) ≡ false
    by true c p q again = absurd (cc p)
    by false true p q again = absurd (cc q)
    by false false p q again = again p q

-- ---- a session that becomes gone

none-stream : (test : Action → Bool) (side : Side) (h : History) (j : ℕ) → test (actions.StopOut j 0x170d7b68) ≡ false → test (actions.ResetOut j 0x170d7b68) ≡ false → list_any test (stream_gone_actions side h j) ≡ false
none-stream test side h j s r =
    none-append test (action_if (can_receive side h j && is_running (end_of (events h) j) && not (is_given_up h j)) (actions.StopOut j 0x170d7b68)) (action_if (can_send side h j && not (was_finished h j) && not (is_reset h j)) (actions.ResetOut j 0x170d7b68))
    (none-if test (can_receive side h j && is_running (end_of (events h) j) && not (is_given_up h j)) (actions.StopOut j 0x170d7b68) s) (none-if test (can_send side h j && not (was_finished h j) && not (is_reset h j)) (actions.ResetOut j 0x170d7b68) r)

-- of one stream, the reset is last
stream-quiet : (side : Side) (h : History) (k j : ℕ) → Quiet k (stream_gone_actions side h j)
stream-quiet side h k j = by (can_receive side h j && is_running (end_of (events h) j) && not (is_given_up h j)) (can_send side h j && not (was_finished h j) && not (is_reset h j))
  where
    by : (a b : Bool) → Quiet k (action_if a (actions.StopOut j 0x170d7b68) ++ action_if b (actions.ResetOut j 0x170d7b68))
    by true true = (λ r. absurd (cc r), (λ r. refl, tt))
    by true false = (λ r. absurd (cc r), tt)
    by false true = (λ r. refl, tt)
    by false false = tt

differs : (n k : ℕ) → k < n → (n == k) ≡ false
differs n k l = by (n == k) refl
  where
    by : (b : Bool) → (n == k) ≡ b → b ≡ false
    by false e = refl
    by true e = let s = eqb-true n k e in absurd (omega (arith, l, s))

-- later ids are other streams
none-later : (side : Side) (h : History) (k : ℕ) (mine : ℕ → Bool) (n count : ℕ) → k < n → list_any (acts_on k) (flat_map (stream_gone_actions side h) (filter mine (numbers_from n count))) ≡ false
none-later side h k mine n zero l = refl
none-later side h k mine n (suc count) l = by (mine n) (none-later side h k mine (suc n) count (omega (arith, l)))
  where
    by : (b : Bool) → list_any (acts_on k) (flat_map (stream_gone_actions side h) (filter mine (numbers_from (suc n) count))) ≡ false
        → list_any (acts_on k) (flat_map (stream_gone_actions side h) (if b then n ∷ filter mine (numbers_from (suc n) count) else filter mine (numbers_from (suc n) count))) ≡ false
    by true r = none-append (acts_on k) (stream_gone_actions side h n) (flat_map (stream_gone_actions side h) (filter mine (numbers_from (suc n) count))) (none-stream (acts_on k) side h n refl (differs n k l)) r
    by false r = r

ids-quiet : (side : Side) (h : History) (k : ℕ) (mine : ℕ → Bool) (n count : ℕ) → Quiet k (flat_map (stream_gone_actions side h) (filter mine (numbers_from n count)))
ids-quiet side h k mine n zero = tt
ids-quiet side h k mine n (suc count) = by (mine n) (ids-quiet side h k mine (suc n) count)
  where
    rest : List Action
    rest = flat_map (stream_gone_actions side h) (filter mine (numbers_from (suc n) count))

    behind : (b : Bool) → (n == k) ≡ b → list_any (is_reset_of k) (stream_gone_actions side h n) ≡ true → list_any (acts_on k) rest ≡ false
    behind true e r = none-later side h k mine (suc n) count (let s = eqb-true n k e in omega (arith, s))
    behind false e r = absurd (clash (list_any (is_reset_of k) (stream_gone_actions side h n)) r (none-stream (is_reset_of k) side h n refl e))

    by : (b : Bool) → Quiet k rest → Quiet k (flat_map (stream_gone_actions side h) (if b then n ∷ filter mine (numbers_from (suc n) count) else filter mine (numbers_from (suc n) count)))
    by true q = behind-append (is_reset_of k) (acts_on k) (stream_gone_actions side h n) rest (stream-quiet side h k n) q (behind (n == k) refl)
    by false q = q

pub gone-quiet : (side : Side) (h : History) (found : List Finding) (s k : ℕ) → Quiet k (session_gone_actions side h found s)
gone-quiet side h found s k = ids-quiet side h k (is_of_session h found s) 0 (4 * (stream_count side h 0 + stream_count side h 1 + stream_count side h 2 + stream_count side h 3))
