-- What goes out on a stream comes in order: its opening, where this end opens it, then bytes, and none behind its end.
use Rattle.std.specs.Prelude.{[], ◌%◌, ◌&&◌, ◌*◌, ◌++◌, ◌+◌, ◌/◌, ◌<◌, ◌==◌, ◌∷◌, ◌||◌, ◌≡◌, ◌≤◌, ◌⊎◌, Bool, List, None, Some, false, filter_map, flat_map, if◌then◌else◌, length, map, nat_lt, not, suc, true, zero, ℕ}
use Rattle.std.specs.List.{cons_option, list_any}
use Rattle.std.proofs.Common.{◌∙◌, ap, arith, inl, inr, refl, subst, sym}
use Rattle.std.proofs.lemmas.Bool.{eq-eqb, eqb-true, ltb-false, ltb-true}
use Rattle.std.proofs.lemmas.List.Folds.{list_any-append}
use Rattle.wt_meaning.specs.History.{History, actions_out, all_events, exists, is_reset_of, stream_count}
use Rattle.wt_meaning.specs.Meaning.{next}
use Rattle.wt_meaning.specs.Moments.{ids_from}
use Rattle.wt_meaning.specs.Windows.{is_number}
use Rattle.wt_pair.proofs.Marks.{act_marks, act_opens, any_ends, any_opens, emitted, ends-parts, map-ends, map-opens, opens-parts}
use Rattle.wt_pair.specs.Streams.{Byte, Ends, Mark, Opens, marks_if}
use Rattle.wt_promise.proofs.Accepted.{and-left, and-right, not-true, or-left, or-right, or-true}
use Rattle.wt_promise.proofs.Actions.{opened-out}
use Rattle.wt_promise.proofs.AllFound.{none-opened}
use Rattle.wt_promise.proofs.FinishBehind.{silent_after_finish}
use Rattle.wt_promise.proofs.Flow.{clash}
use Rattle.wt_promise.proofs.OpensFirst.{opens_first}
use Rattle.wt_promise.proofs.OpensNext.{ids-count, local-small, opens_in_order}
use Rattle.wt_promise.proofs.SilentBehind.{silent-after-reset}
use Rattle.wt_promise.proofs.Stays.{any-newest}
use Rattle.wt_promise.specs.Promise.{IsHistory, NoneBehind, acts_on, sends_on}
use Rattle.wt_promise.specs.Sides.{opened_first, opens_of}
use Rattle.wt_turn.specs.Sent.{finishes}
use Rattle.wt_turn.specs.Streams.{local_bi, local_count, local_uni}
use Rattle.wt_turn.specs.declared.action.Action.{Action}
use Rattle.wt_wire.specs.declared.side.Side.{Side}
use Rattle.wt_turn.specs.declared.action.Action.TheVariants as actions

-- ---- marks in order

-- behind a part that opened the stream or not, and ended it or not
abbrev pub well_formed : Bool → Bool → List Mark → Bool
well_formed began over [] = true
well_formed began over (Opens ∷ ms) = well_formed true over ms
well_formed began over (Byte b ∷ ms) = began && (not over && well_formed began over ms)
well_formed began over (Ends ∷ ms) = well_formed began true ms

pub formed-parts : (o e : Bool) (xs ys : List Mark) → well_formed o e xs ≡ true → well_formed (o || any_opens xs) (e || any_ends xs) ys ≡ true → well_formed o e (xs ++ ys) ≡ true
formed-parts o e [] ys a b = subst (λ (x : Bool). well_formed x e ys ≡ true) (or-none o) (subst (λ (x : Bool). well_formed (o || false) x ys ≡ true) (or-none e) b)
  where
    or-none : (x : Bool) → (x || false) ≡ x
    or-none true = refl
    or-none false = refl
formed-parts o e (Opens ∷ xs) ys a b = formed-parts true e xs ys a (subst (λ (x : Bool). well_formed x (e || any_ends xs) ys ≡ true) (or-true o) b)
formed-parts o e (Ends ∷ xs) ys a b = formed-parts o true xs ys a (subst (λ (x : Bool). well_formed (o || any_opens xs) x ys ≡ true) (or-true e) b)
formed-parts false e (Byte n ∷ xs) ys a b = absurd (cc a)
formed-parts true true (Byte n ∷ xs) ys a b = absurd (cc a)
formed-parts true false (Byte n ∷ xs) ys a b = formed-parts true false xs ys a b

-- a byte stands behind the opening, and before the end
pub formed-byte : (o e : Bool) (xs : List Mark) (b : ℕ) (ys : List Mark) → well_formed o e (xs ++ Byte b ∷ ys) ≡ true → ((o || any_opens xs) ≡ true) × ((e || any_ends xs) ≡ false)
formed-byte o e [] b ys a = (ap (λ (x : Bool). x || false) (and-left o _ a), ap (λ (x : Bool). x || false) (not-true e (and-left (not e) _ (and-right o _ a))))
formed-byte o e (Opens ∷ xs) b ys a = let r = formed-byte true e xs b ys a in (or-true o, r.1)
formed-byte o e (Ends ∷ xs) b ys a = let r = formed-byte o true xs b ys a in absurd (cc r.1)
formed-byte o e (Byte n ∷ xs) b ys a = formed-byte o e xs b ys (and-right (not e) _ (and-right o _ a))

formed-bytes : (bytes : List ℕ) (ms : List Mark) → well_formed true false (map Byte bytes ++ ms) ≡ well_formed true false ms
formed-bytes [] ms = refl
formed-bytes (b ∷ bytes) ms = formed-bytes bytes ms

-- ---- an answer's actions

acts-send : (k : ℕ) (as_ : List Action) → list_any (acts_on k) as_ ≡ false → list_any (sends_on k) as_ ≡ false
acts-send k [] e = refl
acts-send k (a ∷ as_) e = rw (or-left (sends_on k a) (is_reset_of k a) (or-left (acts_on k a) (list_any (acts_on k) as_) e), acts-send k as_ (or-right (acts_on k a) (list_any (acts_on k) as_) e)) refl

-- an opening of another stream
not-this : (k id : ℕ) (as_ : List Action) → (id == k) ≡ false → opened_first k (actions.Opened id ∷ as_) ≡ true → opened_first k as_ ≡ true
not-this k id as_ n e = by (id % 4 == k % 4) e
  where
    by : (b : Bool) → (is_number k (if b then Some id else None) || opened_first k as_) ≡ true → opened_first k as_ ≡ true
    by true q = ap (λ (x : Bool). x || opened_first k as_) (sym n) ∙ q
    by false q = q

formed-acts : (k : ℕ) (as_ : List Action) (o e : Bool) → (e ≡ true → list_any (sends_on k) as_ ≡ false) → NoneBehind (finishes k) (sends_on k) as_ → NoneBehind (is_reset_of k) (acts_on k) as_
    → (o ≡ false → opened_first k as_ ≡ true) → well_formed o e (flat_map (act_marks k) as_) ≡ true
formed-acts k [] o e over fins resets first = refl
formed-acts k (actions.Send id piece ∷ as_) o e over fins resets first = by (id == k) refl o e over first (formed-acts k as_)
  where
    by : (b : Bool) → (id == k) ≡ b → (o e : Bool) → (e ≡ true → (b || list_any (sends_on k) as_) ≡ false) → (o ≡ false → (not (b || false) && opened_first k as_) ≡ true)
        → ((o e : Bool) → (e ≡ true → list_any (sends_on k) as_ ≡ false) → NoneBehind (finishes k) (sends_on k) as_ → NoneBehind (is_reset_of k) (acts_on k) as_
        → (o ≡ false → opened_first k as_ ≡ true) → well_formed o e (flat_map (act_marks k) as_) ≡ true)
        → well_formed o e (marks_if b (map Byte piece) ++ flat_map (act_marks k) as_) ≡ true
    by false q o e n f again = again o e n fins.1 resets.1 f
    by true q false e n f again = absurd (let x = f refl in cc x)
    by true q true true n f again = absurd (let x = n refl in cc x)
    by true q true false n f again = formed-bytes piece (flat_map (act_marks k) as_) ∙ again true false (λ x. absurd (cc x)) fins.1 resets.1 (λ x. absurd (cc x))
formed-acts k (actions.Opened id ∷ as_) o e over fins resets first = by (id == k) refl (formed-acts k as_)
  where
    by : (b : Bool) → (id == k) ≡ b
        → ((o e : Bool) → (e ≡ true → list_any (sends_on k) as_ ≡ false) → NoneBehind (finishes k) (sends_on k) as_ → NoneBehind (is_reset_of k) (acts_on k) as_
        → (o ≡ false → opened_first k as_ ≡ true) → well_formed o e (flat_map (act_marks k) as_) ≡ true)
        → well_formed o e (marks_if b (Opens ∷ []) ++ flat_map (act_marks k) as_) ≡ true
    by true q again = again true e over fins.1 resets.1 (λ x. absurd (cc x))
    by false q again = again o e over fins.1 resets.1 (λ x. not-this k id as_ q (first x))
formed-acts k (actions.Finish id ∷ as_) o e over fins resets first = by (id == k) refl (over) first (formed-acts k as_)
  where
    by : (b : Bool) → (id == k) ≡ b → (e ≡ true → (b || list_any (sends_on k) as_) ≡ false) → (o ≡ false → (not (b || false) && opened_first k as_) ≡ true)
        → ((o e : Bool) → (e ≡ true → list_any (sends_on k) as_ ≡ false) → NoneBehind (finishes k) (sends_on k) as_ → NoneBehind (is_reset_of k) (acts_on k) as_
        → (o ≡ false → opened_first k as_ ≡ true) → well_formed o e (flat_map (act_marks k) as_) ≡ true)
        → well_formed o e (marks_if b (Ends ∷ []) ++ flat_map (act_marks k) as_) ≡ true
    by true q n f again = again o true (λ x. fins.0 q) fins.1 resets.1 (λ x. absurd (let y = f x in cc y))
    by false q n f again = again o e n fins.1 resets.1 f
formed-acts k (actions.ResetOut id code ∷ as_) o e over fins resets first = by (id == k) refl first (formed-acts k as_)
  where
    by : (b : Bool) → (id == k) ≡ b → (o ≡ false → (not b && opened_first k as_) ≡ true)
        → ((o e : Bool) → (e ≡ true → list_any (sends_on k) as_ ≡ false) → NoneBehind (finishes k) (sends_on k) as_ → NoneBehind (is_reset_of k) (acts_on k) as_
        → (o ≡ false → opened_first k as_ ≡ true) → well_formed o e (flat_map (act_marks k) as_) ≡ true)
        → well_formed o e (marks_if b (Ends ∷ []) ++ flat_map (act_marks k) as_) ≡ true
    by true q f again = again o true (λ x. acts-send k as_ (resets.0 q)) fins.1 resets.1 (λ x. absurd (let y = f x in cc y))
    by false q f again = again o e over fins.1 resets.1 f
formed-acts k (actions.Dial address name ∷ as_) o e over fins resets first = formed-acts k as_ o e over fins.1 resets.1 first
formed-acts k (actions.StopOut id code ∷ as_) o e over fins resets first = formed-acts k as_ o e over fins.1 resets.1 first
formed-acts k (actions.DatagramOut piece ∷ as_) o e over fins resets first = formed-acts k as_ o e over fins.1 resets.1 first
formed-acts k (actions.Close code reason ∷ as_) o e over fins resets first = formed-acts k as_ o e over fins.1 resets.1 first

-- ---- the streams that were opened

same-opens : (kind : ℕ) (as_ : List Action) → flat_map (act_opens kind) as_ ≡ filter_map (opens_of kind) as_
same-opens kind [] = refl
same-opens kind (actions.Opened id ∷ as_) = by (id % 4 == kind) (same-opens kind as_)
  where
    by : (b : Bool) → flat_map (act_opens kind) as_ ≡ filter_map (opens_of kind) as_ → marks_if b (id ∷ []) ++ flat_map (act_opens kind) as_ ≡ cons_option (if b then Some id else None) (filter_map (opens_of kind) as_)
    by true e = ap (λ (l : List ℕ). id ∷ l) e
    by false e = e
same-opens kind (actions.Dial address name ∷ as_) = same-opens kind as_
same-opens kind (actions.Send id piece ∷ as_) = same-opens kind as_
same-opens kind (actions.Finish id ∷ as_) = same-opens kind as_
same-opens kind (actions.ResetOut id code ∷ as_) = same-opens kind as_
same-opens kind (actions.StopOut id code ∷ as_) = same-opens kind as_
same-opens kind (actions.DatagramOut piece ∷ as_) = same-opens kind as_
same-opens kind (actions.Close code reason ∷ as_) = same-opens kind as_

pub ids-more : (kind n a b : ℕ) → ids_from kind n a ++ ids_from kind (n + a) b ≡ ids_from kind n (a + b)
ids-more kind n zero b = let x : n + 0 ≡ n = omega arith in let y : b ≡ 0 + b = omega arith in ap (λ (m : ℕ). ids_from kind m b) x ∙ ap (ids_from kind n) y
ids-more kind n (suc a) b =
    let x : n + suc a ≡ suc n + a = omega arith in
    let y : suc (a + b) ≡ suc a + b = omega arith in
    ap (λ (l : List ℕ). (4 * n + kind) ∷ l) (ap (λ (m : ℕ). ids_from kind (suc n) a ++ ids_from kind m b) x ∙ ids-more kind (suc n) a b) ∙ ap (ids_from kind n) y

-- they are the next ones, in order
pub opens-emitted : (side : Side) (h : History) → IsHistory side h → (kind : ℕ) → emitted (act_opens kind) h ≡ ids_from kind 0 (local_count (actions_out h) kind)
opens-emitted side [] i kind = refl
opens-emitted side (p ∷ h) i kind =
    ap (λ (l : List ℕ). l ++ flat_map (act_opens kind) p.answer.actions) (opens-emitted side h i.2 kind)
    ∙ ap (λ (l : List ℕ). ids_from kind 0 n ++ l) (same-opens kind p.answer.actions ∙ now)
    ∙ ap (λ (m : ℕ). ids_from kind 0 n ++ ids_from kind m (length (filter_map (opens_of kind) p.answer.actions))) first
    ∙ ids-more kind 0 n (length (filter_map (opens_of kind) p.answer.actions)) ∙ ap (ids_from kind 0) count
  where
    n : ℕ
    n = local_count (actions_out h) kind

    first : n ≡ 0 + n
    first = omega arith

    now : filter_map (opens_of kind) p.answer.actions ≡ ids_from kind n (length (filter_map (opens_of kind) p.answer.actions))
    now = rw i.1 ((opens_in_order side h p.turn i.2 i.0 kind).next)

    count : n + length (filter_map (opens_of kind) p.answer.actions) ≡ local_count (actions_out (p ∷ h)) kind
    count = let a = opened-out kind p.answer.actions (actions_out h) in let b = ids-count kind p.answer.actions in omega (arith, a, b)

abbrev pub IsOwn : Side → ℕ → Type 0
IsOwn side k = ((local_uni side == k % 4) || (local_bi side == k % 4)) ≡ true

-- ---- an opening among marks

opens-marked : (k : ℕ) (as_ : List Action) → any_opens (flat_map (act_marks k) as_) ≡ list_any (λ (j : ℕ). j == k) (flat_map (act_opens (k % 4)) as_)
opens-marked k [] = refl
opens-marked k (a ∷ as_) =
    opens-parts (act_marks k a) (flat_map (act_marks k) as_) ∙ by a (opens-marked k as_) ∙ sym (list_any-append (λ (j : ℕ). j == k) (act_opens (k % 4) a) (flat_map (act_opens (k % 4)) as_))
  where
    rest : Bool
    rest = any_opens (flat_map (act_marks k) as_)

    none : (b : Bool) (m : Mark) → any_opens (m ∷ []) ≡ false → any_opens (marks_if b (m ∷ [])) ≡ false
    none true m e = e
    none false m e = refl

    piece-none : (b : Bool) (piece : List ℕ) → any_opens (marks_if b (map Byte piece)) ≡ false
    piece-none true piece = map-opens piece
    piece-none false piece = refl

    same : (id : ℕ) (b : Bool) → (id == k) ≡ b → any_opens (marks_if b (Opens ∷ [])) ≡ list_any (λ (j : ℕ). j == k) (marks_if (id % 4 == k % 4) (id ∷ []))
    same id true q = sym (ap (λ (c : Bool). list_any (λ (j : ℕ). j == k) (marks_if c (id ∷ []))) (eq-eqb (id % 4) (k % 4) (ap (λ (n : ℕ). n % 4) (eqb-true id k q))) ∙ ap (λ (c : Bool). c || false) q)
    same id false q = of (id % 4 == k % 4)
      where
        of : (c : Bool) → false ≡ list_any (λ (j : ℕ). j == k) (marks_if c (id ∷ []))
        of true = sym (ap (λ (d : Bool). d || false) q)
        of false = refl

    by : (x : Action) → any_opens (flat_map (act_marks k) as_) ≡ list_any (λ (j : ℕ). j == k) (flat_map (act_opens (k % 4)) as_) → (any_opens (act_marks k x) || any_opens (flat_map (act_marks k) as_)) ≡ (list_any (λ (j : ℕ). j == k) (act_opens (k % 4) x) || list_any (λ (j : ℕ). j == k) (flat_map (act_opens (k % 4)) as_))
    by (actions.Opened id) again = ap (λ (c : Bool). c || rest) (same id (id == k) refl) ∙ ap (λ (c : Bool). list_any (λ (j : ℕ). j == k) (marks_if (id % 4 == k % 4) (id ∷ [])) || c) (again)
    by (actions.Send id piece) again = ap (λ (c : Bool). c || rest) (piece-none (id == k) piece) ∙ again
    by (actions.Finish id) again = ap (λ (c : Bool). c || rest) (none (id == k) Ends refl) ∙ again
    by (actions.ResetOut id code) again = ap (λ (c : Bool). c || rest) (none (id == k) Ends refl) ∙ again
    by x again = again

opens-all : (k : ℕ) (h : History) → any_opens (emitted (act_marks k) h) ≡ list_any (λ (j : ℕ). j == k) (emitted (act_opens (k % 4)) h)
opens-all k [] = refl
opens-all k (p ∷ h) =
    opens-parts (emitted (act_marks k) h) (flat_map (act_marks k) p.answer.actions)
    ∙ ap (λ (b : Bool). b || any_opens (flat_map (act_marks k) p.answer.actions)) (opens-all k h) ∙ ap (λ (b : Bool). list_any (λ (j : ℕ). j == k) (emitted (act_opens (k % 4)) h) || b) (opens-marked k p.answer.actions)
    ∙ sym (list_any-append (λ (j : ℕ). j == k) (emitted (act_opens (k % 4)) h) (flat_map (act_opens (k % 4)) p.answer.actions))

among-ids : (k n c : ℕ) → n ≤ k / 4 → k / 4 < n + c → list_any (λ (j : ℕ). j == k) (ids_from (k % 4) n c) ≡ true
among-ids k n zero a b = absurd (omega (arith, a, b))
among-ids k n (suc c) a b = by (nat_lt n (k / 4)) refl (among-ids k (suc n) c)
  where
    by : (x : Bool) → nat_lt n (k / 4) ≡ x → (suc n ≤ k / 4 → k / 4 < suc n + c → list_any (λ (j : ℕ). j == k) (ids_from (k % 4) (suc n) c) ≡ true)
        → (((4 * n + k % 4) == k) || list_any (λ (j : ℕ). j == k) (ids_from (k % 4) (suc n) c)) ≡ true
    by true q again = ap (λ (d : Bool). ((4 * n + k % 4) == k) || d) (let l = ltb-true n (k / 4) q in again (omega (arith, l)) (omega (arith, b))) ∙ or-true ((4 * n + k % 4) == k)
    by false q again = ap (λ (d : Bool). d || list_any (λ (j : ℕ). j == k) (ids_from (k % 4) (suc n) c)) (eq-eqb (4 * n + k % 4) k (let l = ltb-false n (k / 4) q in omega (arith, l, a)))

-- a stream of this end's that is there was opened
pub there-opened : (side : Side) (h : History) → IsHistory side h → (k : ℕ) → IsOwn side k → exists side h k ≡ true → any_opens (emitted (act_marks k) h) ≡ true
there-opened side h i k o e =
    opens-all k h ∙ ap (list_any (λ (j : ℕ). j == k)) (opens-emitted side h i (k % 4))
    ∙ among-ids k 0 (local_count (actions_out h) (k % 4)) (omega arith)
    (let s = local-small side (k % 4) o in let z = none-opened side (all_events h) (k % 4) s.1 s.2 in let l = ltb-true (k / 4) (stream_count side h (k % 4)) e in omega (arith, z, l))

-- ---- an end among marks

abbrev ends_on : ℕ → Action → Bool
ends_on k a = finishes k a || is_reset_of k a

ends-marked : (k : ℕ) (as_ : List Action) → any_ends (flat_map (act_marks k) as_) ≡ list_any (ends_on k) as_
ends-marked k [] = refl
ends-marked k (a ∷ as_) = ends-parts (act_marks k a) (flat_map (act_marks k) as_) ∙ by a (ends-marked k as_)
  where
    none : (b : Bool) → any_ends (marks_if b (Opens ∷ [])) ≡ false
    none true = refl
    none false = refl

    some : (b : Bool) → any_ends (marks_if b (Ends ∷ [])) ≡ b
    some true = refl
    some false = refl

    some-or : (b : Bool) → any_ends (marks_if b (Ends ∷ [])) ≡ (b || false)
    some-or true = refl
    some-or false = refl

    piece-none : (b : Bool) (piece : List ℕ) → any_ends (marks_if b (map Byte piece)) ≡ false
    piece-none true piece = map-ends piece
    piece-none false piece = refl

    rest : Bool
    rest = any_ends (flat_map (act_marks k) as_)

    by : (x : Action) → any_ends (flat_map (act_marks k) as_) ≡ list_any (ends_on k) as_ → (any_ends (act_marks k x) || any_ends (flat_map (act_marks k) as_)) ≡ (ends_on k x || list_any (ends_on k) as_)
    by (actions.Opened id) again = ap (λ (c : Bool). c || rest) (none (id == k)) ∙ again
    by (actions.Send id piece) again = ap (λ (c : Bool). c || rest) (piece-none (id == k) piece) ∙ again
    by (actions.Finish id) again = ap (λ (c : Bool). c || rest) (some-or (id == k)) ∙ ap (λ (c : Bool). ((id == k) || false) || c) (again)
    by (actions.ResetOut id code) again = ap (λ (c : Bool). c || rest) (some (id == k)) ∙ ap (λ (c : Bool). (id == k) || c) (again)
    by x again = again

or-turned : (a b : Bool) → (a || b) ≡ (b || a)
or-turned true true = refl
or-turned true false = refl
or-turned false true = refl
or-turned false false = refl

ends-all : (k : ℕ) (h : History) → any_ends (emitted (act_marks k) h) ≡ list_any (ends_on k) (actions_out h)
ends-all k [] = refl
ends-all k (p ∷ h) =
    ends-parts (emitted (act_marks k) h) (flat_map (act_marks k) p.answer.actions)
    ∙ ap (λ (b : Bool). b || any_ends (flat_map (act_marks k) p.answer.actions)) (ends-all k h) ∙ ap (λ (b : Bool). list_any (ends_on k) (actions_out h) || b) (ends-marked k p.answer.actions)
    ∙ or-turned (list_any (ends_on k) (actions_out h)) (list_any (ends_on k) p.answer.actions) ∙ sym (any-newest (ends_on k) p.answer.actions (actions_out h))

-- by a finish or a reset
ended-by : (k : ℕ) (as_ : List Action) → list_any (ends_on k) as_ ≡ true → (list_any (finishes k) as_ ≡ true) ⊎ (list_any (is_reset_of k) as_ ≡ true)
ended-by k [] e = absurd (cc e)
ended-by k (a ∷ as_) e = by (finishes k a) (is_reset_of k a) refl refl e (ended-by k as_)
  where
    by : (b c : Bool) → finishes k a ≡ b → is_reset_of k a ≡ c → ((b || c) || list_any (ends_on k) as_) ≡ true → (list_any (ends_on k) as_ ≡ true → (list_any (finishes k) as_ ≡ true) ⊎ (list_any (is_reset_of k) as_ ≡ true))
        → (list_any (finishes k) (a ∷ as_) ≡ true) ⊎ (list_any (is_reset_of k) (a ∷ as_) ≡ true)
    by true c x y q again = inl (ap (λ (d : Bool). d || list_any (finishes k) as_) x)
    by false true x y q again = inr (ap (λ (d : Bool). d || list_any (is_reset_of k) as_) y)
    by false false x y q again = elim (again q) as (λ w. (list_any (finishes k) (a ∷ as_) ≡ true) ⊎ (list_any (is_reset_of k) (a ∷ as_) ≡ true))
        [ inl w ↦ inl (ap (λ (d : Bool). finishes k a || d) w ∙ or-true (finishes k a)) | inr w ↦ inr (ap (λ (d : Bool). is_reset_of k a || d) w ∙ or-true (is_reset_of k a)) ]

-- ---- a history

abbrev pub is_own : Side → ℕ → Bool
is_own side k = (local_uni side == k % 4) || (local_bi side == k % 4)

pub formed-history : (side : Side) (h : History) → IsHistory side h → (k : ℕ) → well_formed (not (is_own side k)) false (emitted (act_marks k) h) ≡ true
formed-history side [] i k = refl
formed-history side (p ∷ h) i k =
    formed-parts (not (is_own side k)) false (emitted (act_marks k) h) (flat_map (act_marks k) p.answer.actions) (formed-history side h i.2 k)
    (rw i.1 (formed-acts k (next side h p.turn).actions (not (is_own side k) || any_opens (emitted (act_marks k) h)) (any_ends (emitted (act_marks k) h)) over
    (silent_after_finish side h p.turn i.2 i.0 k).behind (silent-after-reset side h p.turn i.2 i.0 k).behind first))
  where
    over : any_ends (emitted (act_marks k) h) ≡ true → list_any (sends_on k) (next side h p.turn).actions ≡ false
    over e = elim (ended-by k (actions_out h) (sym (ends-all k h) ∙ e)) as (λ w. list_any (sends_on k) (next side h p.turn).actions ≡ false)
        [ inl w ↦ (silent_after_finish side h p.turn i.2 i.0 k).later w | inr w ↦ acts-send k (next side h p.turn).actions ((silent-after-reset side h p.turn i.2 i.0 k).later w) ]

    first : (not (is_own side k) || any_opens (emitted (act_marks k) h)) ≡ false → opened_first k (next side h p.turn).actions ≡ true
    first e = of (is_own side k) refl (or-left (not (is_own side k)) (any_opens (emitted (act_marks k) h)) e) (exists side h k) refl
      where
        of : (b : Bool) → is_own side k ≡ b → not b ≡ false → (x : Bool) → exists side h k ≡ x → opened_first k (next side h p.turn).actions ≡ true
        of false q n x y = absurd (cc n)
        of true q n false y = opens_first side h p.turn i.2 i.0 k q y
        of true q n true y = absurd (clash (any_opens (emitted (act_marks k) h)) (there-opened side h i.2 k q y) (or-right (not (is_own side k)) (any_opens (emitted (act_marks k) h)) e))
