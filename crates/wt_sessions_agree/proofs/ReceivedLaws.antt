-- Admitted datagrams have indexes of their own, so that one more that is received is the first that is left of its session, and no other.
use Rattle.std.specs.Prelude.{[], ◌&&◌, ◌++◌, ◌<◌, ◌==◌, ◌||◌, ◌∷◌, ◌≡◌, ◌≤◌, Bool, List, None, drop, false, filter, filter_map, if◌then◌else◌, length, nat_lt, not, suc, true, zero, ℕ}
use Rattle.std.specs.List.{list_all, list_any}
use Rattle.std.proofs.Common.{◌∙◌, ap, arith, length-append, refl, subst, sym}
use Rattle.std.proofs.lemmas.Bool.{eq-eqb, eqb-true, lt-ltb, ltb-true}
use Rattle.std.proofs.lemmas.List.{append-nil}
use Rattle.std.proofs.lemmas.List.Elements.{filter-append}
use Rattle.std.proofs.lemmas.List.Folds.{list_all-append, list_any-append}
use Rattle.wt_meaning.specs.Findings.{Classified, DatagramRead, Dequeued, Faulted, Finding, SessionClosed, SettingsRead, is_datagram}
use Rattle.wt_meaning.specs.History.{History}
use Rattle.wt_meaning.specs.Moments.{findings, keeps}
use Rattle.wt_meaning.specs.Windows.{is_established, received_count}
use Rattle.wt_promise.proofs.Accepted.{and-left, and-right, or-true}
use Rattle.wt_promise.proofs.Grows.{AClassified, AClosed, ADatagram, ADequeued, AFault, ASettings, Adds, Nothing, findings-keep}
use Rattle.wt_sessions.specs.StreamTable.{Admitted, CallView}
use Rattle.wt_sessions_agree.proofs.Appends.{adds, cons-append, drops, filter-drops}
use Rattle.wt_sessions_agree.proofs.Basics.{eqb-sym}
use Rattle.wt_sessions_agree.proofs.OrderlyLaws.{stream-fault-keeps}
use Rattle.wt_sessions_agree.specs.Agrees.{admitted_in}
use Rattle.wt_sessions_agree.specs.Orderly.{Received, is_left, is_of}
use Rattle.wt_wire.specs.declared.side.Side.{Side}

-- ---- indexes of their own

-- the datagram has this index
abbrev has-index : ℕ → Admitted → Bool
has-index n d = d.index == n

-- no two have the same
abbrev Apart : List Admitted → Type 0
Apart [] = Unit {0}
Apart (d ∷ ds) = (list_any (has-index d.index) ds ≡ false) × Apart ds

-- it is in front of the n-th
abbrev is-below : ℕ → Admitted → Bool
is-below n d = nat_lt d.index n

pub record Indexed (found : List Finding) : Type 0 where
  pub below : list_all (is-below (length (filter is_datagram found))) (filter_map admitted_in found) ≡ true
  pub apart : Apart (filter_map admitted_in found)

below-more : (m n : ℕ) → m ≤ n → (ds : List Admitted) → list_all (is-below m) ds ≡ true → list_all (is-below n) ds ≡ true
below-more m n le [] e = refl
below-more m n le (d ∷ ds) e =
    let l = ltb-true d.index m (and-left (is-below m d) (list_all (is-below m) ds) e) in
    let f : is-below n d ≡ true = lt-ltb d.index n (omega (arith, l, le)) in
    rw (f, below-more m n le ds (and-right (is-below m d) (list_all (is-below m) ds) e)) refl

-- one that is behind all has an index of its own
apart-more : (x : Admitted) (ds : List Admitted) → list_all (is-below x.index) ds ≡ true → Apart ds → Apart (ds ++ x ∷ [])
apart-more x [] b a = (refl, tt)
apart-more x (d ∷ ds) b a = (own, apart-more x ds (and-right (is-below x.index d) (list_all (is-below x.index) ds) b) a.1)
  where
    other : (x.index == d.index) ≡ false
    other = differ (x.index == d.index) refl
      where
        differ : (c : Bool) → (x.index == d.index) ≡ c → c ≡ false
        differ false q = refl
        differ true q = absurd (let l = ltb-true d.index x.index (and-left (is-below x.index d) (list_all (is-below x.index) ds) b) in let s = eqb-true x.index d.index q in omega (arith, l, s))

    own : list_any (has-index d.index) (ds ++ x ∷ []) ≡ false
    own = list_any-append (has-index d.index) ds (x ∷ []) ∙ rw (a.0, other) refl

indexed-same : (found : List Finding) (f : Finding) → admitted_in f ≡ None → is_datagram f ≡ false → Indexed found → Indexed (found ++ f ∷ [])
indexed-same found f a d r =
    let e : filter_map admitted_in (found ++ f ∷ []) ≡ filter_map admitted_in found = drops admitted_in f a found in
    let c : filter is_datagram (found ++ f ∷ []) ≡ filter is_datagram found = filter-drops is_datagram f d found in
    record { below = rw (e, c) r.below; apart = rw e r.apart }

indexed-more : (found : List Finding) (n s : ℕ) (payload : List ℕ) (b : Bool) → length (filter is_datagram found) ≡ n → Indexed found → Indexed (found ++ DatagramRead n s payload b ∷ [])
indexed-more found n s payload b e r = by b
  where
    more : (c : Bool) → length (filter is_datagram (found ++ DatagramRead n s payload c ∷ [])) ≡ suc n
    more c = ap length (filter-append is_datagram found (DatagramRead n s payload c ∷ [])) ∙ length-append (filter is_datagram found) (DatagramRead n s payload c ∷ []) ∙ omega (arith, e)

    now : list_all (is-below n) (filter_map admitted_in found) ≡ true
    now = ap (λ (m : ℕ). list_all (is-below m) (filter_map admitted_in found)) (sym e) ∙ r.below

    later : list_all (is-below (suc n)) (filter_map admitted_in found) ≡ true
    later = below-more n (suc n) (omega arith) (filter_map admitted_in found) now

    x : Admitted
    x = record { index = n; session = s; payload = payload }

    by : (c : Bool) → Indexed (found ++ DatagramRead n s payload c ∷ [])
    by false =
        record { below = rw (more false, drops admitted_in (DatagramRead n s payload false) refl found) later; apart = rw (drops admitted_in (DatagramRead n s payload false) refl found) r.apart }
    by true = record {
      below =
          let l : nat_lt n (suc n) ≡ true = lt-ltb n (suc n) (omega arith) in
          ap (λ (m : ℕ). list_all (is-below m) (filter_map admitted_in (found ++ DatagramRead n s payload true ∷ []))) (more true)
          ∙ ap (list_all (is-below (suc n))) (adds admitted_in (DatagramRead n s payload true) x refl found)
          ∙ list_all-append (is-below (suc n)) (filter_map admitted_in found) (x ∷ []) ∙ rw (later, l) refl;
      apart = subst Apart (sym (adds admitted_in (DatagramRead n s payload true) x refl found)) (apart-more x (filter_map admitted_in found) now r.apart);
    }

indexed-step : (side : Side) (h : History) (found new : List Finding) → Adds side h found new → Indexed found → Indexed (found ++ new)
indexed-step side h found _ Nothing r = subst Indexed (sym (append-nil found)) r
indexed-step side h found _ (ADequeued k p) r = indexed-same found (Dequeued k) refl refl r
indexed-step side h found _ (AClassified k v more p d c e m) r =
    subst Indexed (ap (λ (l : List Finding). (found ++ Classified k v (keeps h found v) ∷ []) ++ l) (sym m) ∙ sym (cons-append found (Classified k v (keeps h found v)) more))
    (stream-fault-keeps Indexed (λ before code g. indexed-same before (Faulted code) refl refl g) (found ++ Classified k v (keeps h found v) ∷ []) found v
    (indexed-same found (Classified k v (keeps h found v)) refl refl r))
indexed-step side h found _ (ADatagram n s payload e) r = indexed-more found n s payload _ (eqb-true (length (filter is_datagram found)) n e) r
indexed-step side h found _ (AClosed s code reason by_capsule e) r = indexed-same found (SessionClosed s code reason by_capsule) refl refl r
indexed-step side h found _ (ASettings e) r = indexed-same found SettingsRead refl refl r
indexed-step side h found _ (AFault code) r = indexed-same found (Faulted code) refl refl r

pub indexed : (side : Side) (h : History) → Indexed (findings side h)
unfolding findings
indexed side [] = record { below = refl; apart = tt }
indexed side (p ∷ h) = findings-keep side p h Indexed (λ found new a n g. indexed-step side (p ∷ h) found new a g) (indexed side h)

-- ---- where none is received

same-left : (calls calls2 : CallView) → ((n : ℕ) → calls2.received n ≡ calls.received n) → (ds : List Admitted) → filter (is_left calls2) ds ≡ filter (is_left calls) ds
same-left calls calls2 e [] = refl
same-left calls calls2 e (d ∷ ds) =
    ap (λ (b : Bool). if not b then d ∷ filter (is_left calls2) ds else filter (is_left calls2) ds) (e d.index)
    ∙ ap (λ (xs : List Admitted). if is_left calls d then d ∷ xs else xs) (same-left calls calls2 e ds)

-- what holds of each holds of each where more sessions are established
early-more : (h after : History) (calls calls2 : CallView) → ((n : ℕ) → calls2.received n ≡ calls.received n) → ((s : ℕ) → is_established h s ≡ true → is_established after s ≡ true)
    → (ds : List Admitted)
    → list_all (λ (d : Admitted). is_left calls d || is_established h d.session) ds ≡ true → list_all (λ (d : Admitted). is_left calls2 d || is_established after d.session) ds ≡ true
early-more h after calls calls2 e more [] all = refl
early-more h after calls calls2 e more (d ∷ ds) all =
    let f : (is_left calls2 d || is_established after d.session) ≡ true
    = ap (λ (b : Bool). not b || is_established after d.session) (e d.index)
    ∙ by (is_left calls d) (is_established h d.session) refl
    (and-left (is_left calls d || is_established h d.session) (list_all (λ (d : Admitted). is_left calls d || is_established h d.session) ds) all) in
    rw (
      f,
      early-more h after calls calls2 e more ds (and-right (is_left calls d || is_established h d.session)
          (list_all (λ (d : Admitted). is_left calls d || is_established h d.session) ds) all),
    ) refl
  where
    by : (a b : Bool) → is_established h d.session ≡ b → (a || b) ≡ true → (a || is_established after d.session) ≡ true
    by true b q r = refl
    by false true q r = more d.session q
    by false false q r = absurd (cc r)

pub received-plain : (h after : History) (calls calls2 : CallView) (found : List Finding) → ((n : ℕ) → calls2.received n ≡ calls.received n) → ((s : ℕ) → received_count after s ≡ received_count h s)
    → ((s : ℕ) → is_established h s ≡ true → is_established after s ≡ true) → Received h calls found → Received after calls2 found
received-plain h after calls calls2 found e count more r = record {
  left = λ s. same-left calls calls2 e (filter (is_of s) (filter_map admitted_in found)) ∙ r.left s ∙ ap (λ (n : ℕ). drop n (filter (is_of s) (filter_map admitted_in found))) (sym (count s));
  within = λ s. rw (count s) (r.within s);
  early = early-more h after calls calls2 e more (filter_map admitted_in found) r.early;
  later = λ n le. e n ∙ r.later n le;
}

-- ---- where one is received

-- a datagram of the session with this index
abbrev is-it : ℕ → ℕ → Admitted → Bool
is-it n s d = has-index n d && is_of s d

-- what has this index is of the session
abbrev fits-it : ℕ → ℕ → Admitted → Bool
fits-it n s d = not (has-index n d) || is_of s d

-- the first that is left of a session is one of them
in-filter : (s : ℕ) (d : Admitted) (rest : List Admitted) (n : ℕ) (ds : List Admitted) → drop n (filter (is_of s) ds) ≡ d ∷ rest → list_any (is-it d.index s) ds ≡ true
in-filter s d rest zero [] e = absurd (cc e)
in-filter s d rest (suc n) [] e = absurd (cc e)
in-filter s d rest n (x ∷ ds) e = by n (is_of s x) refl e (λ m. in-filter s d rest m ds)
  where
    by : (n : ℕ) (b : Bool) → is_of s x ≡ b → drop n (if b then x ∷ filter (is_of s) ds else filter (is_of s) ds) ≡ d ∷ rest
        → ((m : ℕ) → drop m (filter (is_of s) ds) ≡ d ∷ rest → list_any (is-it d.index s) ds ≡ true) → list_any (is-it d.index s) (x ∷ ds) ≡ true
    by n false q r again = rw (again n r) (or-true (is-it d.index s x))
    by zero true q r again =
        let same : x ≡ d = cc r in
        let i : has-index d.index x ≡ true = eq-eqb x.index d.index (ap (λ (y : Admitted). y.index) same) in
        rw (i, q) refl
    by (suc n) true q r again = rw (again n r) (or-true (is-it d.index s x))

none-index : (n s : ℕ) (ds : List Admitted) → list_any (has-index n) ds ≡ false → list_all (fits-it n s) ds ≡ true
none-index n s [] e = refl
none-index n s (d ∷ ds) e = by (has-index n d) e (none-index n s ds)
  where
    by : (b : Bool) → (b || list_any (has-index n) ds) ≡ false → (list_any (has-index n) ds ≡ false → list_all (fits-it n s) ds ≡ true) → ((not b || is_of s d) && list_all (fits-it n s) ds) ≡ true
    by true q again = absurd (cc q)
    by false q again = again q

-- since indexes are apart, an index has one session
one-session : (n s : ℕ) (ds : List Admitted) → Apart ds → list_any (is-it n s) ds ≡ true → list_all (fits-it n s) ds ≡ true
one-session n s [] a e = refl
one-session n s (d ∷ ds) a e = by (has-index n d) (is_of s d) refl e (one-session n s ds a.1)
  where
    absent : has-index n d ≡ true → list_any (has-index n) ds ≡ false
    absent q = ap (λ (m : ℕ). list_any (has-index m) ds) (sym (eqb-true d.index n q)) ∙ a.0

    never : (xs : List Admitted) → list_any (has-index n) xs ≡ false → list_any (is-it n s) xs ≡ true → ⊥
    never [] q r = cc r
    never (x ∷ xs) q r = at (has-index n x) (is_of s x) q r (never xs)
      where
        at : (b c : Bool) → (b || list_any (has-index n) xs) ≡ false → ((b && c) || list_any (is-it n s) xs) ≡ true → (list_any (has-index n) xs ≡ false → list_any (is-it n s) xs ≡ true → ⊥) → ⊥
        at true c u v again = cc u
        at false c u v again = again u v

    by : (b c : Bool) → has-index n d ≡ b → ((b && c) || list_any (is-it n s) ds) ≡ true → (list_any (is-it n s) ds ≡ true → list_all (fits-it n s) ds ≡ true)
        → ((not b || c) && list_all (fits-it n s) ds) ≡ true
    by true true q r again = none-index n s ds (absent q)
    by true false q r again = absurd (never ds (absent q) r)
    by false c q r again = again r

apart-filter : (p : Admitted → Bool) (ds : List Admitted) → Apart ds → Apart (filter p ds)
apart-filter p [] a = tt
apart-filter p (d ∷ ds) a = by (p d) (apart-filter p ds a.1)
  where
    fewer : (xs : List Admitted) → list_any (has-index d.index) xs ≡ false → list_any (has-index d.index) (filter p xs) ≡ false
    fewer [] e = refl
    fewer (x ∷ xs) e = at (p x) (has-index d.index x) refl e (fewer xs)
      where
        at : (b c : Bool) → has-index d.index x ≡ c → (c || list_any (has-index d.index) xs) ≡ false → (list_any (has-index d.index) xs ≡ false → list_any (has-index d.index) (filter p xs) ≡ false)
            → list_any (has-index d.index) (if b then x ∷ filter p xs else filter p xs) ≡ false
        at b true u v again = absurd (cc v)
        at true false u v again = rw u (again v)
        at false false u v again = again v

    by : (b : Bool) → Apart (filter p ds) → Apart (if b then d ∷ filter p ds else filter p ds)
    by true again = (fewer ds a.0, again)
    by false again = again

apart-drop : (n : ℕ) (ds : List Admitted) → Apart ds → Apart (drop n ds)
apart-drop zero ds a = a
apart-drop (suc n) [] a = tt
apart-drop (suc n) (d ∷ ds) a = apart-drop n ds a.1

-- a test that all pass leaves them
all-others : (n : ℕ) (ds : List Admitted) → list_any (has-index n) ds ≡ false → filter (λ (d : Admitted). not (has-index n d)) ds ≡ ds
all-others n [] e = refl
all-others n (d ∷ ds) e = by (has-index n d) refl e (all-others n ds)
  where
    by : (b : Bool) → has-index n d ≡ b → (b || list_any (has-index n) ds) ≡ false → (list_any (has-index n) ds ≡ false → filter (λ (d : Admitted). not (has-index n d)) ds ≡ ds)
        → (if not b then d ∷ filter (λ (d : Admitted). not (has-index n d)) ds else filter (λ (d : Admitted). not (has-index n d)) ds) ≡ d ∷ ds
    by true q r again = absurd (cc r)
    by false q r again = ap (λ (xs : List Admitted). d ∷ xs) (again r)

drop-next : (n : ℕ) (xs : List Admitted) (d : Admitted) (rest : List Admitted) → drop n xs ≡ d ∷ rest → (drop (suc n) xs ≡ rest) × (suc n ≤ length xs)
drop-next zero [] d rest e = absurd (cc e)
drop-next (suc n) [] d rest e = absurd (cc e)
drop-next zero (x ∷ xs) d rest e = (cc e, omega arith)
drop-next (suc n) (x ∷ xs) d rest e = let r = drop-next n xs d rest e in (r.0, omega (arith, r.1))

module _ (h after : History) (calls calls2 : CallView) (found : List Finding) (s : ℕ) (d : Admitted) (rest : List Admitted)
    (first : drop (received_count h s) (filter (is_of s) (filter_map admitted_in found)) ≡ d ∷ rest) (one : (n : ℕ) → calls2.received n ≡ ((d.index == n) || calls.received n))
    (mine : received_count after s ≡ suc (received_count h s)) (others : (t : ℕ) → (t == s) ≡ false → received_count after t ≡ received_count h t)
    (same : (t : ℕ) → is_established after t ≡ is_established h t) (lives : is_established h s ≡ true) (i : Indexed found) (r : Received h calls found) where
  abbrev ds : List Admitted
  ds = filter_map admitted_in found

  member : list_any (is-it d.index s) ds ≡ true
  member = in-filter s d rest (received_count h s) ds first

  fits : list_all (fits-it d.index s) ds ≡ true
  fits = one-session d.index s ds i.apart member

  left-is : (x : Admitted) → is_left calls2 x ≡ (not (has-index d.index x) && is_left calls x)
  left-is x = ap not (one x.index ∙ ap (λ (b : Bool). b || calls.received x.index) (eqb-sym d.index x.index)) ∙ by (x.index == d.index) (calls.received x.index)
    where
      by : (a b : Bool) → not (a || b) ≡ (not a && not b)
      by true b = refl
      by false b = refl

  -- of another session's datagrams the same are left
  other-left : (t : ℕ) → (t == s) ≡ false → (xs : List Admitted) → list_all (fits-it d.index s) xs ≡ true → filter (is_left calls2) (filter (is_of t) xs) ≡ filter (is_left calls) (filter (is_of t) xs)
  other-left t n [] f = refl
  other-left t n (x ∷ xs) f = by (is_of t x) refl (other-left t n xs (and-right (fits-it d.index s x) (list_all (fits-it d.index s) xs) f))
    where
      kept : is_of t x ≡ true → is_left calls2 x ≡ is_left calls x
      kept e = left-is x ∙ ap (λ (b : Bool). not b && is_left calls x) (at (has-index d.index x) (and-left (fits-it d.index s x) (list_all (fits-it d.index s) xs) f))
        where
          not-mine : is_of s x ≡ false
          not-mine = ap (λ (k : ℕ). k == s) (eqb-true x.session t e) ∙ n

          at : (b : Bool) → (not b || is_of s x) ≡ true → b ≡ false
          at false q = refl
          at true q = absurd (cc (sym not-mine ∙ q))

      by : (b : Bool) → is_of t x ≡ b → filter (is_left calls2) (filter (is_of t) xs) ≡ filter (is_left calls) (filter (is_of t) xs)
          → filter (is_left calls2) (if b then x ∷ filter (is_of t) xs else filter (is_of t) xs) ≡ filter (is_left calls) (if b then x ∷ filter (is_of t) xs else filter (is_of t) xs)
      by false e again = again
      by true e again =
          ap (λ (b : Bool). if b then x ∷ filter (is_left calls2) (filter (is_of t) xs) else filter (is_left calls2) (filter (is_of t) xs)) (kept e)
          ∙ ap (λ (ys : List Admitted). if is_left calls x then x ∷ ys else ys) again

  -- of its own the first one that was left isn't any more
  both-tests : (xs : List Admitted) → filter (is_left calls2) xs ≡ filter (λ (x : Admitted). not (has-index d.index x)) (filter (is_left calls) xs)
  both-tests [] = refl
  both-tests (x ∷ xs) = ap (λ (b : Bool). if b then x ∷ filter (is_left calls2) xs else filter (is_left calls2) xs) (left-is x) ∙ by (is_left calls x) (has-index d.index x) refl (both-tests xs)
    where
      by : (b c : Bool) → has-index d.index x ≡ c → filter (is_left calls2) xs ≡ filter (λ (y : Admitted). not (has-index d.index y)) (filter (is_left calls) xs)
          → (if not c && b then x ∷ filter (is_left calls2) xs else filter (is_left calls2) xs)
          ≡ filter (λ (y : Admitted). not (has-index d.index y)) (if b then x ∷ filter (is_left calls) xs else filter (is_left calls) xs)
      by true true e again = rw e again
      by true false e again = rw e (ap (λ (ys : List Admitted). x ∷ ys) again)
      by false true e again = again
      by false false e again = again

  own-left : filter (is_left calls2) (filter (is_of s) ds) ≡ drop (received_count after s) (filter (is_of s) ds)
  own-left =
      both-tests (filter (is_of s) ds) ∙ ap (filter (λ (x : Admitted). not (has-index d.index x))) (r.left s ∙ first)
      ∙ ap (λ (b : Bool). if not b then d ∷ filter (λ (x : Admitted). not (has-index d.index x)) rest else filter (λ (x : Admitted). not (has-index d.index x)) rest) (eq-eqb d.index d.index refl)
      ∙ all-others d.index rest own
      ∙ sym (ap (λ (n : ℕ). drop n (filter (is_of s) ds)) mine ∙ (drop-next (received_count h s) (filter (is_of s) ds) d rest first).0)
    where
      own : list_any (has-index d.index) rest ≡ false
      own = (subst Apart first (apart-drop (received_count h s) (filter (is_of s) ds) (apart-filter (is_of s) ds i.apart))).0

  early-one : (xs : List Admitted) → list_all (fits-it d.index s) xs ≡ true → list_all (λ (x : Admitted). is_left calls x || is_established h x.session) xs ≡ true
      → list_all (λ (x : Admitted). is_left calls2 x || is_established after x.session) xs ≡ true
  early-one [] f all = refl
  early-one (x ∷ xs) f all =
      let now : (is_left calls2 x || is_established after x.session) ≡ true
      = ap (λ (b : Bool). b || is_established after x.session) (left-is x) ∙ ap (λ (b : Bool). (not (has-index d.index x) && is_left calls x) || b) (same x.session)
      ∙ by (has-index d.index x) (is_left calls x) (and-left (fits-it d.index s x) (list_all (fits-it d.index s) xs) f)
      (and-left (is_left calls x || is_established h x.session) (list_all (λ (x : Admitted). is_left calls x || is_established h x.session) xs) all) in
      rw (
        now,
        early-one xs (and-right (fits-it d.index s x) (list_all (fits-it d.index s) xs) f)
            (and-right (is_left calls x || is_established h x.session) (list_all (λ (x : Admitted). is_left calls x || is_established h x.session) xs) all),
      ) refl
    where
      by : (a b : Bool) → (not a || is_of s x) ≡ true → (b || is_established h x.session) ≡ true → ((not a && b) || is_established h x.session) ≡ true
      by false b q e = e
      by true b q e = ap (is_established h) (eqb-true x.session s q) ∙ lives

  below-it : (n m : ℕ) (xs : List Admitted) → list_all (is-below m) xs ≡ true → list_any (is-it n s) xs ≡ true → n < m
  below-it n m [] f e = absurd (cc e)
  below-it n m (x ∷ xs) f e = by (has-index n x) (is_of s x) refl e (below-it n m xs (and-right (is-below m x) (list_all (is-below m) xs) f))
    where
      by : (a b : Bool) → has-index n x ≡ a → ((a && b) || list_any (is-it n s) xs) ≡ true → (list_any (is-it n s) xs ≡ true → n < m) → n < m
      by true b q e again = let t = eqb-true x.index n q in let l = ltb-true x.index m (and-left (is-below m x) (list_all (is-below m) xs) f) in omega (arith, t, l)
      by false b q e again = again e

  pub received-one : Received after calls2 found
  received-one = record {
    left = λ t. at t (t == s) refl;
    within = λ t. much t (t == s) refl;
    early = early-one ds fits r.early;
    later = λ n le. one n ∙ rw (r.later n le) (none n le (d.index == n) refl);
  }
    where
      at : (t : ℕ) (b : Bool) → (t == s) ≡ b → filter (is_left calls2) (filter (is_of t) ds) ≡ drop (received_count after t) (filter (is_of t) ds)
      at t true e = rw (eqb-true t s e) own-left
      at t false e = other-left t e ds fits ∙ r.left t ∙ ap (λ (n : ℕ). drop n (filter (is_of t) ds)) (sym (others t e))

      much : (t : ℕ) (b : Bool) → (t == s) ≡ b → received_count after t ≤ length (filter (is_of t) ds)
      much t true e = rw (eqb-true t s e, mine) (drop-next (received_count h s) (filter (is_of s) ds) d rest first).1
      much t false e = rw (others t e) (r.within t)

      none : (n : ℕ) → length (filter is_datagram found) ≤ n → (b : Bool) → (d.index == n) ≡ b → (b || false) ≡ false
      none n le false e = refl
      none n le true e = absurd (let l = below-it d.index (length (filter is_datagram found)) ds i.below member in let q = eqb-true d.index n e in omega (arith, l, q, le))
