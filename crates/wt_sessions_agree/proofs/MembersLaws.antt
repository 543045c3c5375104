-- The streams of a session that becomes gone are ended alike, in the order of their ids.
use Rattle.std.specs.Prelude.{[], ◌%◌, ◌&&◌, ◌*◌, ◌+◌, ◌/◌, ◌<◌, ◌==◌, ◌∷◌, ◌||◌, ◌≡◌, ◌≤◌, Bool, List, false, filter, filter_map, flat_map, if◌then◌else◌, map, nat_lt, not, suc, true, zero, ℕ}
use Rattle.std.specs.List.{list_any}
use Rattle.std.proofs.Common.{◌∙◌, ap, arith, refl, sym}
use Rattle.std.proofs.lemmas.Bool.{eq-eqb, eqb-true, ltb-false, ltb-true}
use Rattle.wt_meaning.specs.Findings.{DatagramRead, Dequeued, Faulted, Finding, SessionClosed, SettingsRead}
use Rattle.wt_meaning.specs.Findings as finds
use Rattle.wt_meaning.specs.History.{History, exists, is_handed_out, stream_count}
use Rattle.wt_meaning.specs.Sends.{admits, is_of_session, numbers_from, session_gone_actions, stream_gone_actions, stream_ids}
use Rattle.wt_meaning.specs.Windows.{is_gone}
use Rattle.wt_promise.proofs.Actions.{or-assoc}
use Rattle.wt_sessions.specs.StreamTable.{CallView, Classified, StreamTable, TransportView, Waiting, dispatched_streams, gone_actions, stream_ends, streams_of, waits_in, with_id, with_ids}
use Rattle.wt_sessions.specs.StreamTable as tables
use Rattle.wt_sessions_agree.proofs.Basics.{and-false, or-turned}
use Rattle.wt_sessions_agree.proofs.WindowLaws.{gone-agrees}
use Rattle.wt_sessions_agree.specs.Agrees.{IsTable, classified_in}
use Rattle.wt_sessions_agree.specs.Members.{AllAbove, Ascends, HalvesSeen, MembersIn, has_id, is_opened_for}
use Rattle.wt_sessions_agree.specs.Stands.{CallsAgree}
use Rattle.wt_turn.specs.declared.action.Action.{Action}
use Rattle.wt_wire.specs.declared.side.Side.{Side}
use Rattle.wt_proto.specs.declared.verdict.Verdict.TheVariants as verdicts

-- ---- one id more

pub has-with : (j k : ℕ) (ids : List ℕ) → has_id j (with_id k ids) ≡ (k == j || has_id j ids)
has-with j k [] = refl
has-with j k (x ∷ xs) = by (k == x) (nat_lt k x) refl (has-with j k xs)
  where
    again : (a b : Bool) → (a || b) ≡ (a || (a || b))
    again true b = refl
    again false b = refl

    by : (b l : Bool) → (k == x) ≡ b → has_id j (with_id k xs) ≡ (k == j || has_id j xs)
        → has_id j (if b then x ∷ xs else (if l then k ∷ x ∷ xs else x ∷ with_id k xs)) ≡ (k == j || (x == j || has_id j xs))
    by true l e q = rw (eqb-true k x e) (again (x == j) (has_id j xs))
    by false true e q = refl
    by false false e q = ap (λ (b : Bool). x == j || b) q ∙ or-turned (x == j) (k == j) (has_id j xs)

has-with-ids : (j : ℕ) (ks ids : List ℕ) → has_id j (with_ids ks ids) ≡ (has_id j ks || has_id j ids)
has-with-ids j [] ids = refl
has-with-ids j (k ∷ ks) ids =
    has-with-ids j ks (with_id k ids) ∙ ap (λ (b : Bool). has_id j ks || b) (has-with j k ids) ∙ or-turned (has_id j ks) (k == j) (has_id j ids) ∙ or-assoc (k == j) (has_id j ks) (has_id j ids)

-- ---- lists that ascend

above-more : (a x : ℕ) (xs : List ℕ) → a < x → AllAbove x xs → AllAbove a xs
above-more a x [] l g = tt
above-more a x (y ∷ ys) l g = (let m : x < y = g.0 in omega (arith, l, m), above-more a x ys l g.1)

with-above : (a k : ℕ) (ids : List ℕ) → a < k → AllAbove a ids → AllAbove a (with_id k ids)
with-above a k [] l g = (l, tt)
with-above a k (x ∷ xs) l g = by (k == x) (nat_lt k x) (with-above a k xs l g.1)
  where
    by : (b c : Bool) → AllAbove a (with_id k xs) → AllAbove a (if b then x ∷ xs else (if c then k ∷ x ∷ xs else x ∷ with_id k xs))
    by true c q = g
    by false true q = (l, g)
    by false false q = (g.0, q)

pub with-ascends : (k : ℕ) (ids : List ℕ) → Ascends ids → Ascends (with_id k ids)
with-ascends k [] g = (tt, tt)
with-ascends k (x ∷ xs) g = by (k == x) (nat_lt k x) refl refl (with-ascends k xs g.1)
  where
    by : (b c : Bool) → (k == x) ≡ b → nat_lt k x ≡ c → Ascends (with_id k xs) → Ascends (if b then x ∷ xs else (if c then k ∷ x ∷ xs else x ∷ with_id k xs))
    by true c e f q = g
    by false true e f q = let l : k < x = ltb-true k x f in ((l, above-more k x xs l g.0), g)
    by false false e f q = (with-above x k xs (behind x k e f) g.0, q)
      where
        behind : (x k : ℕ) → (k == x) ≡ false → nat_lt k x ≡ false → x < k
        behind x k e f = of (nat_lt x k) refl
          where
            of : (b : Bool) → nat_lt x k ≡ b → x < k
            of true q = ltb-true x k q
            of false q =
                let same : k ≡ x = let m = ltb-false k x f in let n = ltb-false x k q in omega (arith, m, n) in
                absurd (let r : true ≡ false = sym (eq-eqb k x same) ∙ e in cc r)

with-ids-ascend : (ks ids : List ℕ) → Ascends ids → Ascends (with_ids ks ids)
with-ids-ascend [] ids g = g
with-ids-ascend (k ∷ ks) ids g = with-ids-ascend ks (with_id k ids) (with-ascends k ids g)

numbers-above : (a n count : ℕ) → a < n → AllAbove a (numbers_from n count)
numbers-above a n zero l = tt
numbers-above a n (suc count) l = (l, numbers-above a (suc n) count (omega (arith, l)))

numbers-ascend : (n count : ℕ) → Ascends (numbers_from n count)
numbers-ascend n zero = tt
numbers-ascend n (suc count) = (numbers-above n (suc n) count (omega arith), numbers-ascend (suc n) count)

filter-above : (p : ℕ → Bool) (a : ℕ) (xs : List ℕ) → AllAbove a xs → AllAbove a (filter p xs)
filter-above p a [] g = tt
filter-above p a (x ∷ xs) g = by (p x) (filter-above p a xs g.1)
  where
    by : (b : Bool) → AllAbove a (filter p xs) → AllAbove a (if b then x ∷ filter p xs else filter p xs)
    by true q = (g.0, q)
    by false q = q

filter-ascends : (p : ℕ → Bool) (xs : List ℕ) → Ascends xs → Ascends (filter p xs)
filter-ascends p [] g = tt
filter-ascends p (x ∷ xs) g = by (p x) (filter-ascends p xs g.1)
  where
    by : (b : Bool) → Ascends (filter p xs) → Ascends (if b then x ∷ filter p xs else filter p xs)
    by true q = (filter-above p x xs g.0, q)
    by false q = q

has-filter : (p : ℕ → Bool) (k : ℕ) (xs : List ℕ) → has_id k (filter p xs) ≡ (p k && has_id k xs)
has-filter p k [] = sym (and-false (p k))
has-filter p k (x ∷ xs) = by (x == k) (p x) refl refl (has-filter p k xs)
  where
    by : (b c : Bool) → (x == k) ≡ b → p x ≡ c → has_id k (filter p xs) ≡ (p k && has_id k xs) → has_id k (if c then x ∷ filter p xs else filter p xs) ≡ (p k && (b || has_id k xs))
    by true true e f q = let g : p k ≡ true = ap p (sym (eqb-true x k e)) ∙ f in rw (e, g) refl
    by true false e f q = let g : p k ≡ false = ap p (sym (eqb-true x k e)) ∙ f in q ∙ rw g refl
    by false true e f q = rw e q
    by false false e f q = q

-- an id isn't among those that are above it
not-above : (k : ℕ) (xs : List ℕ) → AllAbove k xs → has_id k xs ≡ false
not-above k [] g = refl
not-above k (x ∷ xs) g = by (x == k) refl (not-above k xs g.1)
  where
    by : (b : Bool) → (x == k) ≡ b → has_id k xs ≡ false → (b || has_id k xs) ≡ false
    by true e again = absurd (let same : x ≡ k = eqb-true x k e in let l : k < x = g.0 in omega (arith, same, l))
    by false e again = again

-- an id that is among those that are above another is above it
is-above : (a k : ℕ) (xs : List ℕ) → AllAbove a xs → has_id k xs ≡ true → a < k
is-above a k [] g e = absurd (cc e)
is-above a k (x ∷ xs) g e = by (x == k) refl e (is-above a k xs g.1)
  where
    by : (b : Bool) → (x == k) ≡ b → (b || has_id k xs) ≡ true → (has_id k xs ≡ true → a < k) → a < k
    by true q r again = let same : x ≡ k = eqb-true x k q in let l : a < x = g.0 in omega (arith, same, l)
    by false q r again = again r

-- lists that ascend are the same where the same is among them
same-ids : (xs ys : List ℕ) → Ascends xs → Ascends ys → ((k : ℕ) → has_id k xs ≡ has_id k ys) → xs ≡ ys
same-ids [] [] f g e = refl
same-ids [] (y ∷ ys) f g e = absurd (let q : false ≡ (y == y || has_id y ys) = e y in let r : (y == y) ≡ true = eq-eqb y y refl in let s : false ≡ true = rw r at q in cc s)
same-ids (x ∷ xs) [] f g e = absurd (let q : (x == x || has_id x xs) ≡ false = e x in let r : (x == x) ≡ true = eq-eqb x x refl in let s : true ≡ false = rw r at q in cc s)
same-ids (x ∷ xs) (y ∷ ys) f g e = by (y == x) (x == y) refl refl (same-ids xs ys f.1 g.1)
  where
    first : (a b : ℕ) (az bz : List ℕ) → (a == b) ≡ false → (a == a || has_id a az) ≡ (b == a || has_id a bz) → (b == a) ≡ false → AllAbove b bz → b < a
    first a b az bz n q m above = is-above b a bz above (let r : (a == a) ≡ true = eq-eqb a a refl in rw (r, m) at (sym q))

    rest : x ≡ y → (k : ℕ) → has_id k xs ≡ has_id k ys
    rest same k = of (x == k) refl (e k)
      where
        of : (b : Bool) → (x == k) ≡ b → (x == k || has_id k xs) ≡ (y == k || has_id k ys) → has_id k xs ≡ has_id k ys
        of true q r =
            let i : x ≡ k = eqb-true x k q in
            (ap (λ (j : ℕ). has_id j xs) (sym i) ∙ not-above x xs f.0) ∙ sym (ap (λ (j : ℕ). has_id j ys) (sym (sym same ∙ i)) ∙ not-above y ys g.0)
        of false q r = let s : (y == k) ≡ false = ap (λ (j : ℕ). j == k) (sym same) ∙ q in let t = rw (q, s) at r in t

    by : (b c : Bool) → (y == x) ≡ b → (x == y) ≡ c → (((k : ℕ) → has_id k xs ≡ has_id k ys) → xs ≡ ys) → x ∷ xs ≡ y ∷ ys
    by true c q r again = let same : x ≡ y = sym (eqb-true y x q) in ap (λ (z : ℕ). z ∷ xs) same ∙ ap (λ (zs : List ℕ). y ∷ zs) (again (rest same))
    by false true q r again = absurd (let s : true ≡ false = sym (eq-eqb y x (sym (eqb-true x y r))) ∙ q in cc s)
    by false false q r again = absurd (let a : y < x = first x y xs ys r (e x) q g.0 in let b : x < y = first y x ys xs q (sym (e y)) r f.0 in omega (arith, a, b))

-- ---- the ids of all streams

in-numbers : (k n count : ℕ) → n ≤ k → k < n + count → has_id k (numbers_from n count) ≡ true
in-numbers k n zero a b = absurd (omega (arith, a, b))
in-numbers k n (suc count) a b = by (n == k) refl (in-numbers k (suc n) count)
  where
    past : (n == k) ≡ false → n < k
    past f = of (nat_lt n k) refl
      where
        of : (b : Bool) → nat_lt n k ≡ b → n < k
        of true e = ltb-true n k e
        of false e = absurd (let same : n ≡ k = let m = ltb-false n k e in omega (arith, a, m) in let r : true ≡ false = sym (eq-eqb n k same) ∙ f in cc r)

    by : (c : Bool) → (n == k) ≡ c → (suc n ≤ k → k < suc n + count → has_id k (numbers_from (suc n) count) ≡ true) → (c || has_id k (numbers_from (suc n) count)) ≡ true
    by true e again = refl
    by false e again = again (let l = past e in omega (arith, l)) (omega (arith, b))

of-four : (f : ℕ → ℕ) (r : ℕ) → r < 4 → f r ≤ f 0 + f 1 + f 2 + f 3
of-four f zero l = omega arith
of-four f (suc zero) l = omega arith
of-four f (suc (suc zero)) l = omega arith
of-four f (suc (suc (suc zero))) l = omega arith
of-four f (suc (suc (suc (suc r)))) l = absurd (omega (arith, l))

-- each stream that is there is among them
in-ids : (side : Side) (h : History) (k : ℕ) → exists side h k ≡ true → has_id k (stream_ids side h) ≡ true
in-ids side h k e =
    in-numbers k 0 (4 * (stream_count side h 0 + stream_count side h 1 + stream_count side h 2 + stream_count side h 3)) (omega arith)
    (let a = ltb-true (k / 4) (stream_count side h (k % 4)) e in let r : k % 4 < 4 = omega arith in let b = of-four (stream_count side h) (k % 4) r in let q : k ≡ 4 * (k / 4) + k % 4 = omega arith in
    omega (arith, a, b, q, r))

-- ---- the streams that wait for a session that isn't gone

-- their ids
abbrev waiting-ids : CallView → (ℕ → Bool) → ℕ → List Classified → List ℕ
waiting-ids calls g s cs = map (λ (w : Waiting). w.id) (filter (λ (w : Waiting). w.session == s) (filter (λ (w : Waiting). not (g w.session)) (filter_map (waits_in calls) cs)))

module _ (calls : CallView) (g : ℕ → Bool) (s : ℕ) (stays : g s ≡ false) where
  abbrev Waits : ℕ → List Finding → Type 0
  Waits k found = has_id k (waiting-ids calls g s (filter_map classified_in found)) ≡ (list_any (admits s k) found && not (calls.accepted k))

  waiting-has : (k : ℕ) (found : List Finding) → Waits k found
  waiting-has k [] = refl
  waiting-has k (finds.Classified id (verdicts.WebTransport ses o) true ∷ found) = by (calls.accepted id) (g ses) (ses == s) (id == k) refl refl refl refl (waiting-has k found)
    where
      same : id == k ≡ true → calls.accepted k ≡ calls.accepted id
      same e = ap calls.accepted (sym (eqb-true id k e))

      by : (x y z u : Bool) → calls.accepted id ≡ x → g ses ≡ y → (ses == s) ≡ z → (id == k) ≡ u → Waits k found → Waits k (finds.Classified id (verdicts.WebTransport ses o) true ∷ found)
      by true y z false a b c d again = rw (a, d) again
      by true y z true a b c d again =
          let w : calls.accepted k ≡ true = same d ∙ a in
          let n : (list_any (admits s k) found && not (calls.accepted k)) ≡ false = rw w (and-false (list_any (admits s k) found)) in
          rw a (again ∙ n ∙ sym (rw w (and-false (list_any (admits s k) (finds.Classified id (verdicts.WebTransport ses o) true ∷ found)))))
      by false true true u a b c d again = absurd (let r : true ≡ false = sym b ∙ ap g (eqb-true ses s c) ∙ stays in cc r)
      by false true false true a b c d again = rw (a, b, c, d) again
      by false true false false a b c d again = rw (a, b, c, d) again
      by false false true true a b c d again = let w : calls.accepted k ≡ false = same d ∙ a in rw (a, b, c, d, w) refl
      by false false true false a b c d again = rw (a, b, c, d) again
      by false false false true a b c d again = rw (a, b, c, d) again
      by false false false false a b c d again = rw (a, b, c, d) again
  waiting-has k (_ ∷ found) = waiting-has k found

-- ---- the same streams

module _ (side : Side) (h : History) (found : List Finding) (calls : CallView) (table : StreamTable) (holds : IsTable found table) (agree : CallsAgree h calls) (members : MembersIn side h calls found)
    (s : ℕ) (stays : is_gone h found s ≡ false) where
  streams-has : (k : ℕ) → has_id k (streams_of (dispatched_streams calls table) s) ≡ is_of_session h found s k
  streams-has k =
      has-with-ids k (waiting-ids calls (tables.is_gone calls table) s table.classified) (calls.members s)
      ∙ ap (λ (b : Bool). b || has_id k (calls.members s)) waits
      ∙ ap (λ (b : Bool). (list_any (admits s k) found && not (is_handed_out h k)) || b) (members.same s k)
      ∙ either (list_any (admits s k) found) (is_handed_out h k) (is_opened_for h s k)
    where
      gone : tables.is_gone calls table s ≡ false
      gone = gone-agrees h calls found table s agree holds ∙ stays

      waits : has_id k (waiting-ids calls (tables.is_gone calls table) s table.classified) ≡ (list_any (admits s k) found && not (is_handed_out h k))
      waits =
          ap (λ (cs : List Classified). has_id k (waiting-ids calls (tables.is_gone calls table) s cs)) (sym holds.classified)
          ∙ waiting-has calls (tables.is_gone calls table) s gone k found ∙ ap (λ (b : Bool). list_any (admits s k) found && not b) (agree.accepted k)

      either : (a b c : Bool) → ((a && not b) || ((b && a) || c)) ≡ (a || c)
      either true true c = refl
      either true false c = refl
      either false true c = refl
      either false false c = refl

  ids-has : (k : ℕ) → has_id k (filter (is_of_session h found s) (stream_ids side h)) ≡ is_of_session h found s k
  ids-has k = has-filter (is_of_session h found s) k (stream_ids side h) ∙ by (is_of_session h found s k) refl
    where
      by : (b : Bool) → is_of_session h found s k ≡ b → (b && has_id k (stream_ids side h)) ≡ b
      by true e = in-ids side h k (members.there s k e)
      by false e = refl

  -- in the same order
  streams-alike : filter (is_of_session h found s) (stream_ids side h) ≡ streams_of (dispatched_streams calls table) s
  streams-alike =
      same-ids (filter (is_of_session h found s) (stream_ids side h)) (streams_of (dispatched_streams calls table) s)
      (filter-ascends (is_of_session h found s) (stream_ids side h) (numbers-ascend 0 (4 * (stream_count side h 0 + stream_count side h 1 + stream_count side h 2 + stream_count side h 3))))
      (with-ids-ascend (waiting-ids calls (tables.is_gone calls table) s table.classified) (calls.members s) (members.ascends s))
      (λ k. ids-has k ∙ sym (streams-has k))

-- ---- what goes out for them

ends-alike : (side : Side) (h : History) (t : TransportView) → HalvesSeen side h t → (k : ℕ) → stream_gone_actions side h k ≡ stream_ends t k
ends-alike side h t seen k = rw (seen.receives k, seen.sends k) refl

all-alike : (f g : ℕ → List Action) → ((k : ℕ) → f k ≡ g k) → (ids : List ℕ) → flat_map f ids ≡ flat_map g ids
all-alike f g e [] = refl
all-alike f g e (k ∷ ids) = rw (e k, all-alike f g e ids) refl

pub gone-alike : (side : Side) (h : History) (found : List Finding) (t : TransportView) (calls : CallView) (table : StreamTable) → IsTable found table → CallsAgree h calls → HalvesSeen side h t
    → MembersIn side h calls found
    → (s : ℕ) → is_gone h found s ≡ false → session_gone_actions side h found s ≡ gone_actions t (dispatched_streams calls table) s
gone-alike side h found t calls table holds agree seen members s stays =
    ap (flat_map (stream_gone_actions side h)) (streams-alike side h found calls table holds agree members s stays)
    ∙ all-alike (stream_gone_actions side h) (stream_ends t) (ends-alike side h t seen) (streams_of (dispatched_streams calls table) s)
