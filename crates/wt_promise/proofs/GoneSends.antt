-- What goes out for a session that becomes gone reaches each of its streams.
use Rattle.std.specs.Prelude.{[], ◌%◌, ◌*◌, ◌++◌, ◌+◌, ◌/◌, ◌<◌, ◌==◌, ◌||◌, ◌∷◌, ◌≡◌, ◌≤◌, Bool, List, false, filter, flat_map, if◌then◌else◌, nat_lt, suc, true, zero, ℕ}
use Rattle.std.specs.List.{list_any}
use Rattle.std.proofs.Common.{◌∙◌, ap, append_assoc, arith, refl, sym}
use Rattle.std.proofs.lemmas.Bool.{eq-eqb, eqb-true, ltb-false, ltb-true}
use Rattle.std.proofs.lemmas.List.{append-nil}
use Rattle.wt_meaning.specs.Findings.{Classified, Finding, SessionClosed}
use Rattle.wt_meaning.specs.History.{History, exists, stream_count}
use Rattle.wt_meaning.specs.Sends.{actions_for, actions_for_all, is_of_session, numbers_from, session_finish, session_gone_actions, stream_gone_actions, stream_ids}
use Rattle.wt_meaning.specs.Windows.{makes_gone}
use Rattle.wt_promise.proofs.Owed.{has-left, has-right}
use Rattle.wt_promise.specs.Promise.{until_gone}
use Rattle.wt_turn.specs.declared.action.Action.{Action}
use Rattle.wt_wire.specs.declared.side.Side.{Side}
use Rattle.wt_proto.specs.declared.verdict.Verdict.TheVariants as verdicts
use Rattle.wt_turn.specs.declared.action.Action.TheVariants as actions

-- ---- the ids of all streams

past : (n k : ℕ) → n ≤ k → (n == k) ≡ false → n < k
past n k le f = by (nat_lt n k) refl
  where
    by : (b : Bool) → nat_lt n k ≡ b → n < k
    by true e = ltb-true n k e
    by false e = let same : n ≡ k = let b = ltb-false n k e in omega (arith, le, b) in let r : true ≡ false = sym (eq-eqb n k same) ∙ f in absurd (cc r)

in-numbers : (k n count : ℕ) → n ≤ k → k < n + count → list_any (λ (j : ℕ). j == k) (numbers_from n count) ≡ true
in-numbers k n zero a b = absurd (omega (arith, a, b))
in-numbers k n (suc count) a b = by (n == k) refl (in-numbers k (suc n) count)
  where
    by : (c : Bool) → (n == k) ≡ c → (suc n ≤ k → k < suc n + count → list_any (λ (j : ℕ). j == k) (numbers_from (suc n) count) ≡ true) → (c || list_any (λ (j : ℕ). j == k) (numbers_from (suc n) count)) ≡ true
    by true e again = refl
    by false e again = again (let l = past n k a e in omega (arith, l)) (omega (arith, b))

-- one of four kinds
of-four : (f : ℕ → ℕ) (r : ℕ) → r < 4 → f r ≤ f 0 + f 1 + f 2 + f 3
of-four f zero l = omega arith
of-four f (suc zero) l = omega arith
of-four f (suc (suc zero)) l = omega arith
of-four f (suc (suc (suc zero))) l = omega arith
of-four f (suc (suc (suc (suc r)))) l = absurd (omega (arith, l))

in-ids : (side : Side) (h : History) (k : ℕ) → exists side h k ≡ true → list_any (λ (j : ℕ). j == k) (stream_ids side h) ≡ true
in-ids side h k e =
    in-numbers k 0 (4 * (stream_count side h 0 + stream_count side h 1 + stream_count side h 2 + stream_count side h 3)) (omega arith)
    (let a = ltb-true (k / 4) (stream_count side h (k % 4)) e in let r : k % 4 < 4 = omega arith in let b = of-four (stream_count side h) (k % 4) r in let q : k ≡ 4 * (k / 4) + k % 4 = omega arith in omega (arith, a, b, q, r))

-- ---- what goes out for a session that becomes gone

-- what goes out for one of its streams goes out for it
for-each : (test : Action → Bool) (side : Side) (h : History) (mine : ℕ → Bool) (k : ℕ) → mine k ≡ true → list_any test (stream_gone_actions side h k) ≡ true → (ids : List ℕ)
    → list_any (λ (j : ℕ). j == k) ids ≡ true → list_any test (flat_map (stream_gone_actions side h) (filter mine ids)) ≡ true
for-each test side h mine k m t [] e = absurd (cc e)
for-each test side h mine k m t (j ∷ ids) e = by (j == k) (mine j) refl refl e (for-each test side h mine k m t ids)
  where
    rest : (b : Bool) → list_any test (flat_map (stream_gone_actions side h) (filter mine ids)) ≡ true → list_any test (flat_map (stream_gone_actions side h) (if b then j ∷ filter mine ids else filter mine ids)) ≡ true
    rest true r = has-right test (stream_gone_actions side h j) (flat_map (stream_gone_actions side h) (filter mine ids)) r
    rest false r = r

    by : (b c : Bool) → (j == k) ≡ b → mine j ≡ c → (b || list_any (λ (i : ℕ). i == k) ids) ≡ true
        → (list_any (λ (i : ℕ). i == k) ids ≡ true → list_any test (flat_map (stream_gone_actions side h) (filter mine ids)) ≡ true) → list_any test (flat_map (stream_gone_actions side h) (filter mine (j ∷ ids))) ≡ true
    by true true q n r again = rw n (has-left test (stream_gone_actions side h j) (flat_map (stream_gone_actions side h) (filter mine ids)) (ap (λ (i : ℕ). list_any test (stream_gone_actions side h i)) (eqb-true j k q) ∙ t))
    by true false q n r again = absurd (let s : true ≡ false = sym m ∙ ap mine (sym (eqb-true j k q)) ∙ n in cc s)
    by false c q n r again = rest (mine j) (again r)

pub in-gone : (test : Action → Bool) (side : Side) (h : History) (found : List Finding) (s k : ℕ) → exists side h k ≡ true → is_of_session h found s k ≡ true → list_any test (stream_gone_actions side h k) ≡ true
    → list_any test (session_gone_actions side h found s) ≡ true
in-gone test side h found s k e m t = for-each test side h (is_of_session h found s) k m t (stream_ids side h) (in-ids side h k e)

-- ---- a session that is found gone

-- what each finding that makes the session gone sends
gone-sends : (test : Action → Bool) (side : Side) (h : History) (s : ℕ) → (seen : List Finding) → list_any test (session_gone_actions side h seen s) ≡ true → (f : Finding) → makes_gone s f ≡ true
    → list_any test (actions_for side h seen f) ≡ true
gone-sends test side h s seen t (SessionClosed session code reason true) e =
    has-right test (actions.ResetOut session 0x100 ∷ []) (session_gone_actions side h seen session) (ap (λ (j : ℕ). list_any test (session_gone_actions side h seen j)) (eqb-true session s e) ∙ t)
gone-sends test side h s seen t (SessionClosed session code reason false) e =
    has-right test (session_finish h session) (session_gone_actions side h seen session) (ap (λ (j : ℕ). list_any test (session_gone_actions side h seen j)) (eqb-true session s e) ∙ t)
gone-sends test side h s seen t (Classified id (verdicts.Refused code) keeps) e =
    has-right test (_ ∷ []) (session_gone_actions side h seen id) (ap (λ (j : ℕ). list_any test (session_gone_actions side h seen j)) (eqb-true id s e) ∙ t)
gone-sends test side h s seen t (Classified id (verdicts.Request headers offset) false) e =
    has-right test (actions.StopOut id 0x10b ∷ []) (session_gone_actions side h seen id) (ap (λ (j : ℕ). list_any test (session_gone_actions side h seen j)) (eqb-true id s e) ∙ t)
gone-sends test side h s seen t f e = absurd (cc e)

-- (of the streams that are its own in front of what makes it gone)
pub gone-among : (test : Action → Bool) (side : Side) (h : History) (s : ℕ) (seen new : List Finding) → list_any test (session_gone_actions side h (seen ++ until_gone s new) s) ≡ true → list_any (makes_gone s) new ≡ true
    → list_any test (actions_for_all side h seen new) ≡ true
gone-among test side h s seen [] t e = absurd (cc e)
gone-among test side h s seen (f ∷ new) t e = by (makes_gone s f) refl e t (gone-among test side h s (seen ++ f ∷ []) new)
  where
    by : (b : Bool) → makes_gone s f ≡ b → (b || list_any (makes_gone s) new) ≡ true → list_any test (session_gone_actions side h (seen ++ (if b then [] else f ∷ until_gone s new)) s) ≡ true
        → (list_any test (session_gone_actions side h ((seen ++ f ∷ []) ++ until_gone s new) s) ≡ true → list_any (makes_gone s) new ≡ true → list_any test (actions_for_all side h (seen ++ f ∷ []) new) ≡ true)
        → list_any test (actions_for_all side h seen (f ∷ new)) ≡ true
    by true i r q later = has-left test (actions_for side h seen f) _ (gone-sends test side h s seen (ap (λ (xs : List Finding). list_any test (session_gone_actions side h xs s)) (sym (append-nil seen)) ∙ q) f i)
    by false i r q later =
        has-right test (actions_for side h seen f) _ (later (ap (λ (xs : List Finding). list_any test (session_gone_actions side h xs s)) (append_assoc seen (f ∷ []) (until_gone s new)) ∙ q) r)

-- ---- what is found in front of it

-- it is all that was found before, and some of what is new
pub until-append : (s : ℕ) (found new : List Finding) → list_any (makes_gone s) found ≡ false → until_gone s (found ++ new) ≡ found ++ until_gone s new
until-append s [] new e = refl
until-append s (f ∷ found) new e = by (makes_gone s f) e (until-append s found new)
  where
    by : (b : Bool) → (b || list_any (makes_gone s) found) ≡ false → (list_any (makes_gone s) found ≡ false → until_gone s (found ++ new) ≡ found ++ until_gone s new)
        → (if b then [] else f ∷ until_gone s (found ++ new)) ≡ f ∷ (found ++ until_gone s new)
    by true q again = absurd (cc q)
    by false q again = ap (λ (xs : List Finding). f ∷ xs) (again q)

-- and no more than what is found
pub until-any : (test : Finding → Bool) (s : ℕ) (found : List Finding) → list_any test (until_gone s found) ≡ true → list_any test found ≡ true
until-any test s [] e = absurd (cc e)
until-any test s (f ∷ found) e = by (makes_gone s f) e (until-any test s found)
  where
    by : (b : Bool) → list_any test (if b then [] else f ∷ until_gone s found) ≡ true → (list_any test (until_gone s found) ≡ true → list_any test found ≡ true) → (test f || list_any test found) ≡ true
    by true q again = absurd (cc q)
    by false q again = either (test f) q
      where
        either : (c : Bool) → (c || list_any test (until_gone s found)) ≡ true → (c || list_any test found) ≡ true
        either true r = refl
        either false r = again r
