-- What one more finding adds.
use Rattle.std.specs.Prelude.{[], ◌*◌, ◌++◌, ◌+◌, ◌<◌, ◌==◌, ◌∷◌, ◌||◌, ◌≡◌, ◌≤◌, Bool, List, None, Option, Some, cond, false, filter, filter_map, is_some, length, suc, true, zero, ℕ}
use Rattle.std.specs.List.{cons_option, list_any}
use Rattle.std.specs.Option.{option_or}
use Rattle.std.proofs.Common.{◌∙◌, ap, arith, refl}
use Rattle.std.proofs.lemmas.Bool.{eqb-true}
use Rattle.wt_meaning.specs.Findings.{Finding, dequeues, fault_in, fault_of, first_of, is_classified, is_datagram, is_dequeued, reads_settings, settings_came, verdict_in, verdict_of}
use Rattle.wt_meaning.specs.Moments.{ids_from}
use Rattle.wt_promise.proofs.Grows.{first_of-stays}
use Rattle.wt_proto.specs.declared.verdict.Verdict.{Verdict}
use Rattle.wt_sessions.specs.StreamTable.{StreamTable}
use Rattle.wt_sessions_agree.proofs.Basics.{or-false, or-none}
use Rattle.wt_sessions_agree.specs.Agrees.{IsTable, admitted_in, classified_in, closed_in}

-- ---- lists

pub drops : {X Y : Type 0} (g : X → Option Y) (x : X) → g x ≡ None → (xs : List X) → filter_map g (xs ++ x ∷ []) ≡ filter_map g xs
drops g x e [] = rw e refl
drops g x e (y ∷ xs) = ap (cons_option (g y)) (drops g x e xs)

pub adds : {X Y : Type 0} (g : X → Option Y) (x : X) (y : Y) → g x ≡ Some y → (xs : List X) → filter_map g (xs ++ x ∷ []) ≡ filter_map g xs ++ y ∷ []
adds g x y e [] = rw e refl
adds {Y = Y} g x y e (z ∷ xs) = by (g z) (adds g x y e xs)
  where
    by : (o : Option Y) → filter_map g (xs ++ x ∷ []) ≡ filter_map g xs ++ y ∷ [] → cons_option o (filter_map g (xs ++ x ∷ [])) ≡ cons_option o (filter_map g xs) ++ y ∷ []
    by None q = q
    by (Some w) q = ap (λ l. w ∷ l) q

pub filter-drops : {X : Type 0} (g : X → Bool) (x : X) → g x ≡ false → (xs : List X) → filter g (xs ++ x ∷ []) ≡ filter g xs
filter-drops g x e [] = rw e refl
filter-drops g x e (y ∷ xs) = ap (λ l. cond (g y) (y ∷ l) l) (filter-drops g x e xs)

pub any-append : {X : Type 0} (p : X → Bool) (xs : List X) (x : X) → list_any p (xs ++ x ∷ []) ≡ (list_any p xs || p x)
any-append p [] x = or-false (p x)
any-append p (y ∷ xs) x = by (p y) (any-append p xs x)
  where
    by : (b : Bool) → list_any p (xs ++ x ∷ []) ≡ (list_any p xs || p x) → (b || list_any p (xs ++ x ∷ [])) ≡ ((b || list_any p xs) || p x)
    by true e = refl
    by false e = e

pub first-append : {S T : Type 0} (says : S → Option T) (xs : List S) (x : S) → first_of says (xs ++ x ∷ []) ≡ option_or (first_of says xs) (says x)
first-append says [] x = or-none (says x)
first-append {T = T} says (y ∷ xs) x = by (says y) (first-append says xs x)
  where
    by : (o : Option T) → first_of says (xs ++ x ∷ []) ≡ option_or (first_of says xs) (says x) → option_or o (first_of says (xs ++ x ∷ [])) ≡ option_or (option_or o (first_of says xs)) (says x)
    by None e = e
    by (Some z) e = refl

pub cons-append : {X : Type 0} (xs : List X) (x : X) (ys : List X) → xs ++ x ∷ ys ≡ (xs ++ x ∷ []) ++ ys
cons-append [] x ys = refl
cons-append (y ∷ xs) x ys = ap (λ l. y ∷ l) (cons-append xs x ys)

-- ---- what is taken and ripe

pub dequeued-append : (found : List Finding) (f : Finding) (j : ℕ) → is_dequeued (found ++ f ∷ []) j ≡ (is_dequeued found j || dequeues j f)
dequeued-append found f j = any-append (dequeues j) found f

pub classified-append : (found : List Finding) (f : Finding) (j : ℕ) → is_classified (found ++ f ∷ []) j ≡ (is_classified found j || is_some (verdict_in j f))
classified-append found f j = ap is_some (first-append (verdict_in j) found f) ∙ by (verdict_of found j) (verdict_in j f)
  where
    by : {T : Type 0} (o x : Option T) → is_some (option_or o x) ≡ (is_some o || is_some x)
    by None x = refl
    by (Some v) x = refl

pub classified-more : (found new : List Finding) (k : ℕ) → is_classified found k ≡ true → is_classified (found ++ new) k ≡ true
classified-more found new k e = by (verdict_of found k) refl e
  where
    by : (o : Option Verdict) → verdict_of found k ≡ o → is_some o ≡ true → is_classified (found ++ new) k ≡ true
    by None i q = absurd (cc q)
    by (Some v) i q = ap is_some (first_of-stays (verdict_in k) found new v i)

-- ---- the table

pub table-same : (found : List Finding) (table : StreamTable) (f : Finding) → classified_in f ≡ None → admitted_in f ≡ None → closed_in f ≡ None → is_datagram f ≡ false → reads_settings f ≡ false
    → fault_in f ≡ None
    → IsTable found table → IsTable (found ++ f ∷ []) table
table-same found table f a b c d e g t = record {
  classified = drops classified_in f a found ∙ t.classified;
  datagrams = drops admitted_in f b found ∙ t.datagrams;
  closed = drops closed_in f c found ∙ t.closed;
  looked_at = ap length (filter-drops is_datagram f d found) ∙ t.looked_at;
  settings = any-append reads_settings found f ∙ ap (λ x. settings_came found || x) e ∙ or-false (settings_came found) ∙ t.settings;
  fault = first-append fault_in found f ∙ ap (option_or (fault_of found)) g ∙ or-none (fault_of found) ∙ t.fault;
}

-- ---- ids

pub not-same : (j k : ℕ) → ((j ≡ k) → Bool → (true ≡ false)) → (j == k) ≡ false
not-same j k n = by (j == k) refl
  where
    by : (b : Bool) → (j == k) ≡ b → b ≡ false
    by true e = n (eqb-true j k e) true
    by false e = refl

pub filter-ids : (p q : ℕ → Bool) (kind n c : ℕ) → ((i : ℕ) → n ≤ i → i < n + c → p (4 * i + kind) ≡ q (4 * i + kind)) → filter p (ids_from kind n c) ≡ filter q (ids_from kind n c)
filter-ids p q kind n zero e = refl
filter-ids p q kind n (suc c) e =
    ap (λ b. cond b ((4 * n + kind) ∷ filter p (ids_from kind (suc n) c)) (filter p (ids_from kind (suc n) c))) (e n (omega arith) (omega arith))
    ∙ ap (λ l. cond (q (4 * n + kind)) ((4 * n + kind) ∷ l) l) (filter-ids p q kind (suc n) c (λ i a b. e i (omega (arith, a)) (omega (arith, b))))

pub filter-fewer : {X : Type 0} (p q : X → Bool) → ((x : X) → q x ≡ true → p x ≡ true) → (xs : List X) → length (filter q xs) ≤ length (filter p xs)
filter-fewer p q e [] = omega arith
filter-fewer {X = X} p q e (x ∷ xs) = by (p x) (q x) (e x) (filter-fewer p q e xs)
  where
    by : (b c : Bool) → (c ≡ true → b ≡ true) → length (filter q xs) ≤ length (filter p xs) → length (cond c (x ∷ filter q xs) (filter q xs)) ≤ length (cond b (x ∷ filter p xs) (filter p xs))
    by true true i l = omega (arith, l)
    by true false i l = omega (arith, l)
    by false false i l = l
    by false true i l = absurd (cc (i refl))

-- one where the test holds
abbrev pub one-if : Bool → ℕ
one-if true = 1
one-if false = 0

-- one more id
pub ids-more : (p : ℕ → Bool) (kind n c : ℕ) → length (filter p (ids_from kind n (suc c))) ≡ length (filter p (ids_from kind n c)) + one-if (p (4 * (n + c) + kind))
ids-more p kind n zero = by (p (4 * n + kind)) (p (4 * (n + zero) + kind)) (ap (λ i. p (4 * i + kind)) (omega arith))
  where
    by : (b c : Bool) → b ≡ c → length (cond b ((4 * n + kind) ∷ []) []) ≡ 0 + one-if c
    by true true e = refl
    by false false e = refl
    by true false e = absurd (cc e)
    by false true e = absurd (cc e)
ids-more p kind n (suc c) = by (p (4 * n + kind)) (ids-more p kind (suc n) c) (ap (λ i. one-if (p (4 * i + kind))) (omega arith))
  where
    by : (b : Bool) → length (filter p (ids_from kind (suc n) (suc c))) ≡ length (filter p (ids_from kind (suc n) c)) + one-if (p (4 * (suc n + c) + kind))
        → one-if (p (4 * (suc n + c) + kind)) ≡ one-if (p (4 * (n + suc c) + kind))
        → length (cond b ((4 * n + kind) ∷ filter p (ids_from kind (suc n) (suc c))) (filter p (ids_from kind (suc n) (suc c))))
        ≡ length (cond b ((4 * n + kind) ∷ filter p (ids_from kind (suc n) c)) (filter p (ids_from kind (suc n) c))) + one-if (p (4 * (n + suc c) + kind))
    by true e q = omega (arith, e, q)
    by false e q = omega (arith, e, q)
