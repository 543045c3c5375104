-- At most 4 sessions live: each is a request that is held, and no session is established twice.
use Rattle.wt_promise.proofs.Statements.{FewLive}
use Rattle.std.specs.Prelude.{[], ◌&&◌, ◌++◌, ◌+◌, ◌==◌, ◌∷◌, ◌||◌, ◌≡◌, ◌≤◌, Bool, List, None, Option, Some, false, filter, filter_map, if◌then◌else◌, length, nat_lt, not, suc, true, unwrap_or, ℕ}
use Rattle.std.specs.List.{list_any}
use Rattle.std.proofs.Common.{◌∙◌, ap, arith, length-append, refl, sym}
use Rattle.std.proofs.lemmas.Bool.{eq-eqb, eqb-true, ltb-true}
use Rattle.std.proofs.lemmas.List.Elements.{filter-append, filter_map-append}
use Rattle.std.proofs.lemmas.List.Folds.{list_any-append}
use Rattle.wt_meaning.specs.Findings.{Classified, DatagramRead, Finding}
use Rattle.wt_meaning.specs.Handshakes.{last_begun, poll_rows, was_given}
use Rattle.wt_meaning.specs.History.{History, Pair}
use Rattle.wt_meaning.specs.Lawful.{has_request, is_lawful, is_waiting}
use Rattle.wt_meaning.specs.Meaning.{next}
use Rattle.wt_meaning.specs.Moments.{findings, keeps, stream_fault}
use Rattle.wt_meaning.specs.Rows.{first_row}
use Rattle.wt_meaning.specs.Windows.{datagrams_in_window, establishes, gone_in, held_requests, is_established, is_gone, is_gone_by_call, is_number, lives, makes_gone, queued_request, request_in, requests, session_in}
use Rattle.wt_promise.proofs.Accepted.{and-right, or-true}
use Rattle.wt_promise.proofs.Asks.{Asks, Begins, Else, ForRequest, GoesOn, Responds, asks}
use Rattle.wt_promise.proofs.Grows.{AClassified, AClosed, ADatagram, ADequeued, AFault, ASettings, Adds, Nothing, findings-add, findings-keep, news, of-stream-fault}
use Rattle.wt_promise.proofs.Phases.{IsLast, client-waits, phase, poll-gives-last, requested, response-gives-last, server-begun}
use Rattle.wt_promise.proofs.Tables.{fits}
use Rattle.wt_promise.specs.Promise.{IsHistory}
use Rattle.wt_proto.specs.declared.verdict.Verdict.{Verdict}
use Rattle.wt_turn.specs.declared.answer.Answer.{Answer}
use Rattle.wt_turn.specs.declared.call.Call.{Call}
use Rattle.wt_turn.specs.declared.reply.Reply.{Reply}
use Rattle.wt_turn.specs.declared.turn.Turn.{Turn}
use Rattle.wt_wire.specs.HeaderList.{Fields}
use Rattle.wt_wire.specs.declared.side.Side.{Side}
use Rattle.wt_wire.specs.declared.side.Side.TheVariants.{Client, Server}
use Rattle.wt_proto.specs.declared.verdict.Verdict.TheVariants as verdicts
use Rattle.wt_turn.specs.declared.call.Call.TheVariants as calls
use Rattle.wt_turn.specs.declared.reply.Reply.TheVariants as replies

-- ---- a session is new

-- the call of a reply that gives a session
pub data SessionCall (c : Call) : Type 0 where
  AnAccept : (headers : Fields) → c ≡ calls.Accept headers → SessionCall c
  APoll : c ≡ calls.Handshake → SessionCall c

pub session-call : (c : Call) (r : Reply) (s : ℕ) → fits c r ≡ true → session_in r ≡ Some s → SessionCall c
session-call calls.Handshake r s f e = APoll refl
session-call (calls.Accept headers) r s f e = AnAccept headers refl
session-call c (replies.Session id) s f e = absurd (cc f)
session-call c r s f e = absurd (cc e)

-- a client gives a session where its connect goes on
client-gives : (h : History) (turn : Turn) → is_lawful Client h turn ≡ true → (s : ℕ) → session_in (next Client h turn).reply ≡ Some s → is_waiting h ≡ true
client-gives h turn l s e = by (asks Client h turn l)
  where
    none : session_in (next Client h turn).reply ≡ None → is_waiting h ≡ true
    none n = absurd (let q : None ≡ Some s = sym n ∙ e in cc q)

    by : Asks Client h turn (next Client h turn).reply → is_waiting h ≡ true
    by (Begins c x t k f g n) = none n
    by (ForRequest x t a n) = none n
    by (Responds c x t k q n) = absurd (cc x)
    by (GoesOn t w n) = w
    by (Else a b m g n) = none n

pub new-session : (side : Side) (h : History) (turn : Turn) → IsHistory side h → is_lawful side h turn ≡ true → (s : ℕ) → session_in (next side h turn).reply ≡ Some s → is_established h s ≡ false
new-session Client h turn i l s e = client-waits h i (client-gives h turn l s e) s
new-session Server h turn i l s e = by (asks Server h turn l)
  where
    none : session_in (next Server h turn).reply ≡ None → is_established h s ≡ false
    none n = absurd (let q : None ≡ Some s = sym n ∙ e in cc q)

    last : (has_request h || is_waiting h) ≡ true → IsLast h (next Server h turn) → is_established h s ≡ false
    last w f = let r = (phase h i).asked w in ap (is_established h) (f s e ∙ ap (λ (o : Option ℕ). unwrap_or o 0) r.1) ∙ r.2

    polled : (o : Option Call) → last_begun h ≡ o → IsLast h (first_row (poll_rows Server h o))
    polled None q = λ t x. absurd (cc x)
    polled (Some d) q = poll-gives-last Server h d (server-begun h i d q)

    by : Asks Server h turn (next Server h turn).reply → is_established h s ≡ false
    by (Begins c x t k f g n) = none n
    by (ForRequest x t a n) = none n
    by (Responds c x t k q n) = last (ap (λ (b : Bool). b || is_waiting h) q) (rw t (response-gives-last h c k))
    by (GoesOn t w n) = last (ap (λ (b : Bool). has_request h || b) w ∙ or-true (has_request h)) (rw t (polled (last_begun h) refl))
    by (Else a b m g n) = none n

-- ---- lists of numbers that are apart

abbrev pub Apart : List ℕ → Type 0
Apart [] = Unit {0}
Apart (x ∷ xs) = (list_any (λ (y : ℕ). y == x) xs ≡ false) × Apart xs

any-filter : (test mine : ℕ → Bool) (xs : List ℕ) → list_any test xs ≡ false → list_any test (filter mine xs) ≡ false
any-filter test mine [] e = refl
any-filter test mine (x ∷ xs) e = by (mine x) (test x) refl e (any-filter test mine xs)
  where
    by : (b c : Bool) → test x ≡ c → (c || list_any test xs) ≡ false → (list_any test xs ≡ false → list_any test (filter mine xs) ≡ false) → list_any test (if b then x ∷ filter mine xs else filter mine xs) ≡ false
    by b true q r again = absurd (cc r)
    by true false q r again = rw (q, again r) refl
    by false false q r again = again r

filter-apart : (mine : ℕ → Bool) (xs : List ℕ) → Apart xs → Apart (filter mine xs)
filter-apart mine [] a = tt
filter-apart mine (x ∷ xs) a = by (mine x) (filter-apart mine xs a.1)
  where
    by : (b : Bool) → Apart (filter mine xs) → Apart (if b then x ∷ filter mine xs else filter mine xs)
    by true rest = (any-filter (λ (y : ℕ). y == x) mine xs a.0, rest)
    by false rest = rest

-- a list without the first that has the number
abbrev without : ℕ → List (ℕ × Fields) → List (ℕ × Fields)
without x [] = []
without x (q ∷ qs) = if q.0 == x then qs else q ∷ without x qs

abbrev pub has : List (ℕ × Fields) → ℕ → Bool
has qs x = list_any (λ (q : ℕ × Fields). q.0 == x) qs

without-length : (x : ℕ) (qs : List (ℕ × Fields)) → has qs x ≡ true → length qs ≡ suc (length (without x qs))
without-length x [] e = absurd (cc e)
without-length x (q ∷ qs) e = by (q.0 == x) e (without-length x qs)
  where
    by : (b : Bool) → (b || has qs x) ≡ true → (has qs x ≡ true → length qs ≡ suc (length (without x qs))) → suc (length qs) ≡ suc (length (if b then qs else q ∷ without x qs))
    by true r again = refl
    by false r again = ap suc (again r)

without-has : (x y : ℕ) (qs : List (ℕ × Fields)) → (y == x) ≡ false → has qs y ≡ true → has (without x qs) y ≡ true
without-has x y [] n e = absurd (cc e)
without-has x y (q ∷ qs) n e = by (q.0 == x) (q.0 == y) refl refl e (without-has x y qs n)
  where
    by : (b c : Bool) → (q.0 == x) ≡ b → (q.0 == y) ≡ c → (c || has qs y) ≡ true → (has qs y ≡ true → has (without x qs) y ≡ true) → has (if b then qs else q ∷ without x qs) y ≡ true
    by true true i j r again = absurd (let t : (y == x) ≡ true = eq-eqb y x (sym (eqb-true q.0 y j) ∙ eqb-true q.0 x i) in let s : true ≡ false = sym t ∙ n in cc s)
    by true false i j r again = r
    by false true i j r again = rw j refl
    by false false i j r again = rw j (again r)

-- a list that is apart isn't longer than one that has each of its numbers
at-most : (xs : List ℕ) (qs : List (ℕ × Fields)) → Apart xs → ((x : ℕ) → list_any (λ (y : ℕ). y == x) xs ≡ true → has qs x ≡ true) → length xs ≤ length qs
at-most [] qs a f = omega arith
at-most (x ∷ xs) qs a f =
    let h : has qs x ≡ true = f x (ap (λ (b : Bool). b || list_any (λ (y : ℕ). y == x) xs) (eq-eqb x x refl)) in
    let n = at-most xs (without x qs) a.1 others in let l = without-length x qs h in omega (arith, n, l)
  where
    others : (y : ℕ) → list_any (λ (z : ℕ). z == y) xs ≡ true → has (without x qs) y ≡ true
    others y e = without-has x y qs (apart (y == x) refl) (f y (rw e (or-true (x == y))))
      where
        apart : (b : Bool) → (y == x) ≡ b → b ≡ false
        apart true q = absurd (let s : list_any (λ (z : ℕ). z == x) xs ≡ true = ap (λ (k : ℕ). list_any (λ (z : ℕ). z == k) xs) (sym (eqb-true y x q)) ∙ e in let t : true ≡ false = sym s ∙ a.0 in cc t)
        apart false q = refl

-- ---- established sessions are apart

established-apart : (side : Side) (h : History) → IsHistory side h → Apart (filter_map establishes h)
established-apart side [] i = tt
established-apart side (p ∷ h) i = by (establishes p) refl (established-apart side h i.2)
  where
    by : (o : Option ℕ) → establishes p ≡ o → Apart (filter_map establishes h) → Apart (filter_map establishes (p ∷ h))
    by None q rest = rw q rest
    by (Some s) q rest = rw q (new-session side h p.turn i.2 i.0 s (ap (λ (a : Answer). session_in a.reply) (sym i.1) ∙ q), rest)

-- ---- what was given is queued

queue-stays : (side : Side) (p : Pair) (h : History) (k : ℕ) → has (filter_map queued_request (findings side h)) k ≡ true → has (filter_map queued_request (findings side (p ∷ h))) k ≡ true
queue-stays side p h k e =
    ap (λ (found : List Finding). has (filter_map queued_request found) k) (findings-add side p h)
    ∙ ap (λ (qs : List (ℕ × Fields)). has qs k) (filter_map-append queued_request (findings side h) (news side p h))
    ∙ list_any-append (λ (q : ℕ × Fields). q.0 == k) (filter_map queued_request (findings side h)) (filter_map queued_request (news side p h))
    ∙ ap (λ (b : Bool). b || has (filter_map queued_request (news side p h)) k) e

-- only an Incoming is answered with a request
pub given-by-incoming : (c : Call) (id : ℕ) (headers : Fields) → fits c (replies.Request id headers) ≡ true → c ≡ calls.Incoming
given-by-incoming calls.Incoming id headers f = refl
given-by-incoming c id headers f = absurd (cc f)

given-step : (side : Side) (p : Pair) (h : History) → IsHistory side (p ∷ h) → (k : ℕ) → (was_given h k ≡ true → has (filter_map queued_request (findings side h)) k ≡ true) → was_given (p ∷ h) k ≡ true
    → has (filter_map queued_request (findings side h)) k ≡ true
given-step side p h i k = λ again e. by (requests p) refl e again
  where
    by : (o : Option ℕ) → requests p ≡ o → was_given (p ∷ h) k ≡ true → (was_given h k ≡ true → has (filter_map queued_request (findings side h)) k ≡ true) → has (filter_map queued_request (findings side h)) k ≡ true
    by None q r again = again (let m = rw q at r in m)
    by (Some t) q r again = of (t == k) refl
      where
        of : (b : Bool) → (t == k) ≡ b → has (filter_map queued_request (findings side h)) k ≡ true
        of true x = (requested side h p.turn k (ap (λ (a : Answer). request_in a.reply) (sym i.1) ∙ q ∙ ap (λ (n : ℕ). Some n) (eqb-true t k x))).queued
        of false x = again (let m = rw (q, x) at r in m)

pub given-queued : (side : Side) (h : History) → IsHistory side h → (k : ℕ) → was_given h k ≡ true → has (filter_map queued_request (findings side h)) k ≡ true
given-queued side [] i k e = absurd (cc e)
given-queued side (p ∷ h) i k e = queue-stays side p h k (given-step side p h i k (given-queued side h i.2 k) e)

-- before the moment at which it was given, too
pub given-before : (side : Side) (p : Pair) (h : History) → IsHistory side (p ∷ h) → (k : ℕ) → was_given (p ∷ h) k ≡ true → has (filter_map queued_request (findings side h)) k ≡ true
given-before side p h i k e = given-step side p h i k (given-queued side h i.2 k) e

-- ---- at most 4 requests are held

-- fewer pass a test that asks more
fewer : (few many : ℕ × Fields → Bool) → ((q : ℕ × Fields) → few q ≡ true → many q ≡ true) → (qs : List (ℕ × Fields)) → length (filter few qs) ≤ length (filter many qs)
fewer few many f [] = omega arith
fewer few many f (q ∷ qs) = by (few q) (many q) refl refl (fewer few many f qs)
  where
    by : (b c : Bool) → few q ≡ b → many q ≡ c → length (filter few qs) ≤ length (filter many qs) → length (filter few (q ∷ qs)) ≤ length (filter many (q ∷ qs))
    by true true i j n = rw (i, j) (omega (arith, n))
    by true false i j n = absurd (let r : true ≡ false = sym (f q i) ∙ j in cc r)
    by false true i j n = rw (i, j) (omega (arith, n))
    by false false i j n = rw (i, j) n

not-more : (a b : Bool) → (a ≡ true → b ≡ true) → not b ≡ true → not a ≡ true
not-more true true f e = absurd (cc e)
not-more true false f e = absurd (let r = f refl in cc r)
not-more false b f e = refl

pub gone-more : (h : History) (found new : List Finding) (s : ℕ) → is_gone h found s ≡ true → is_gone h (found ++ new) s ≡ true
gone-more h found new s e = rw (list_any-append (makes_gone s) found new) (by (is_gone_by_call h s) (list_any (makes_gone s) found) e)
  where
    by : (a b : Bool) → (a || b) ≡ true → (a || (b || list_any (makes_gone s) new)) ≡ true
    by true b q = refl
    by false true q = refl
    by false false q = absurd (cc q)

pub gone-later : (p : Pair) (h : History) (found : List Finding) (s : ℕ) → is_gone h found s ≡ true → is_gone (p ∷ h) found s ≡ true
gone-later p h found s e = by (is_number s (gone_in h p.turn p.answer.reply)) (is_gone_by_call h s) (list_any (makes_gone s) found) e
  where
    by : (a b c : Bool) → (b || c) ≡ true → ((a || b) || c) ≡ true
    by true b c q = refl
    by false b c q = q

abbrev pub AtMostFour : History → List Finding → Type 0
AtMostFour h found = held_requests h found ≤ 4

held-add : (h : History) (found new : List Finding) → held_requests h (found ++ new) ≤ held_requests h found + length (filter_map queued_request new)
held-add h found new =
    let a : length (filter (λ (q : ℕ × Fields). not (is_gone h (found ++ new) q.0)) (filter_map queued_request found)) ≤ held_requests h found
    = fewer (λ (q : ℕ × Fields). not (is_gone h (found ++ new) q.0)) (λ (q : ℕ × Fields). not (is_gone h found q.0)) (λ q. not-more (is_gone h found q.0) (is_gone h (found ++ new) q.0) (gone-more h found new q.0)) (filter_map queued_request found) in
    let b : length (filter (λ (q : ℕ × Fields). not (is_gone h (found ++ new) q.0)) (filter_map queued_request new)) ≤ length (filter_map queued_request new) = filtered (filter_map queued_request new) in
    rw (
      filter_map-append queued_request found new,
      filter-append (λ (q : ℕ × Fields). not (is_gone h (found ++ new) q.0)) (filter_map queued_request found) (filter_map queued_request new),
      length-append (filter (λ (q : ℕ × Fields). not (is_gone h (found ++ new) q.0)) (filter_map queued_request found)) (filter (λ (q : ℕ × Fields). not (is_gone h (found ++ new) q.0)) (filter_map queued_request new)),
    )
    (omega (arith, a, b))
  where
    filtered : (qs : List (ℕ × Fields)) → length (filter (λ (q : ℕ × Fields). not (is_gone h (found ++ new) q.0)) qs) ≤ length qs
    filtered [] = omega arith
    filtered (q ∷ qs) = by (not (is_gone h (found ++ new) q.0)) (filtered qs)
      where
        by : (c : Bool) → length (filter (λ (x : ℕ × Fields). not (is_gone h (found ++ new) x.0)) qs) ≤ length qs → length (if c then q ∷ filter (λ (x : ℕ × Fields). not (is_gone h (found ++ new) x.0)) qs else filter (λ (x : ℕ × Fields). not (is_gone h (found ++ new) x.0)) qs) ≤ suc (length qs)
        by true n = omega (arith, n)
        by false n = omega (arith, n)

-- what queues no request holds no more
not-held : (h : History) (found new : List Finding) → filter_map queued_request new ≡ [] → AtMostFour h found → AtMostFour h (found ++ new)
not-held h found new e f = let a = held-add h found new in let b : held_requests h (found ++ new) ≤ held_requests h found + 0 = (let r = rw e at a in r) in omega (arith, b, f)

no-requests : (found : List Finding) (v : Verdict) → filter_map queued_request (stream_fault found v) ≡ []
no-requests = of-stream-fault (λ (fs : List Finding). filter_map queued_request fs ≡ []) refl (λ code. refl)

few-step : (side : Side) (h : History) (found new : List Finding) → Adds side h found new → AtMostFour h found → AtMostFour h (found ++ new)
few-step side h found [] Nothing f = not-held h found [] refl f
few-step side h found new (ADequeued k p) f = not-held h found new refl f
few-step side h found new (ADatagram n s payload c) f = not-held h found new (unread (not (is_gone h found s) && nat_lt (datagrams_in_window h found s) 16)) f
  where
    unread : (b : Bool) → filter_map queued_request (DatagramRead n s payload b ∷ []) ≡ []
    unread true = refl
    unread false = refl
few-step side h found new (AClosed s code reason b l) f = not-held h found new refl f
few-step side h found new (ASettings c) f = not-held h found new refl f
few-step side h found new (AFault code) f = not-held h found new refl f
few-step side h found new (AClassified k (verdicts.Request headers offset) more p d c w m) f = by (nat_lt (held_requests h found) 4) refl
  where
    by : (b : Bool) → nat_lt (held_requests h found) 4 ≡ b → AtMostFour h (found ++ (Classified k (verdicts.Request headers offset) b ∷ more))
    by true e = let l = ltb-true (held_requests h found) 4 e in let a = held-add h found (Classified k (verdicts.Request headers offset) true ∷ more) in
        let n : filter_map queued_request more ≡ [] = ap (filter_map queued_request) m in
        let g : held_requests h (found ++ (Classified k (verdicts.Request headers offset) true ∷ more)) ≤ held_requests h found + 1 = (let r = rw n at a in r) in omega (arith, l, g)
    by false e = not-held h found (Classified k (verdicts.Request headers offset) false ∷ more) (ap (filter_map queued_request) m) f
few-step side h found new (AClassified k (verdicts.WebTransport session offset) more p d c w m) f = not-held h found new (by (keeps h found (verdicts.WebTransport session offset))) f
  where
    by : (b : Bool) → filter_map queued_request (Classified k (verdicts.WebTransport session offset) b ∷ more) ≡ []
    by true = ap (filter_map queued_request) m
    by false = ap (filter_map queued_request) m
few-step side h found new (AClassified k v more p d c w m) f = not-held h found new (ap (filter_map queued_request) m ∙ no-requests found v) f

pub at-most-four : (side : Side) (h : History) → AtMostFour h (findings side h)
unfolding findings
at-most-four side [] = omega arith
at-most-four side (p ∷ h) =
    findings-keep side p h (AtMostFour (p ∷ h)) (λ found new a n f. few-step side (p ∷ h) found new a f)
    (let a = at-most-four side h in
    let b = fewer (λ (q : ℕ × Fields). not (is_gone (p ∷ h) (findings side h) q.0)) (λ (q : ℕ × Fields). not (is_gone h (findings side h) q.0)) (λ q. not-more (is_gone h (findings side h) q.0) (is_gone (p ∷ h) (findings side h) q.0) (gone-later p h (findings side h) q.0)) (filter_map queued_request (findings side h)) in
    omega (arith, a, b))

-- ---- at most 4 live

any-passes : (mine : ℕ → Bool) (x : ℕ) (xs : List ℕ) → list_any (λ (y : ℕ). y == x) (filter mine xs) ≡ true → (mine x ≡ true) × (list_any (λ (y : ℕ). y == x) xs ≡ true)
any-passes mine x [] e = absurd (cc e)
any-passes mine x (y ∷ xs) e = by (mine y) refl e (any-passes mine x xs)
  where
    by : (b : Bool) → mine y ≡ b → list_any (λ (z : ℕ). z == x) (if b then y ∷ filter mine xs else filter mine xs) ≡ true
        → (list_any (λ (z : ℕ). z == x) (filter mine xs) ≡ true → (mine x ≡ true) × (list_any (λ (z : ℕ). z == x) xs ≡ true)) → (mine x ≡ true) × (list_any (λ (z : ℕ). z == x) (y ∷ xs) ≡ true)
    by false i r again = let a = again r in (a.0, rw a.1 (or-true (y == x)))
    by true i r again = of (y == x) refl r
      where
        of : (c : Bool) → (y == x) ≡ c → (c || list_any (λ (z : ℕ). z == x) (filter mine xs)) ≡ true → (mine x ≡ true) × (list_any (λ (z : ℕ). z == x) (y ∷ xs) ≡ true)
        of true q t = (ap mine (sym (eqb-true y x q)) ∙ i, rw q refl)
        of false q t = let a = again t in (a.0, rw a.1 (or-true (y == x)))

has-filtered : (keep : ℕ → Bool) (x : ℕ) → keep x ≡ true → (qs : List (ℕ × Fields)) → has qs x ≡ true → has (filter (λ (q : ℕ × Fields). keep q.0) qs) x ≡ true
has-filtered keep x k [] e = absurd (cc e)
has-filtered keep x k (q ∷ qs) e = by (q.0 == x) (keep q.0) refl refl e (has-filtered keep x k qs)
  where
    by : (b c : Bool) → (q.0 == x) ≡ b → keep q.0 ≡ c → (b || has qs x) ≡ true → (has qs x ≡ true → has (filter (λ (y : ℕ × Fields). keep y.0) qs) x ≡ true) → has (if c then q ∷ filter (λ (y : ℕ × Fields). keep y.0) qs else filter (λ (y : ℕ × Fields). keep y.0) qs) x ≡ true
    by true true i j r again = rw i refl
    by true false i j r again = absurd (let s : true ≡ false = sym k ∙ ap keep (sym (eqb-true q.0 x i)) ∙ j in cc s)
    by false true i j r again = rw i (again r)
    by false false i j r again = again r

server-few : (h : History) → IsHistory Server h → FewLive Server h
server-few h i =
    let a = at-most (filter (lives h (findings Server h)) (filter_map establishes h)) (filter (λ (q : ℕ × Fields). not (is_gone h (findings Server h) q.0)) (filter_map queued_request (findings Server h)))
    (filter-apart (lives h (findings Server h)) (filter_map establishes h) (established-apart Server h i)) held in
    let b = at-most-four Server h in omega (arith, a, b)
  where
    held : (s : ℕ) → list_any (λ (y : ℕ). y == s) (filter (lives h (findings Server h)) (filter_map establishes h)) ≡ true → has (filter (λ (q : ℕ × Fields). not (is_gone h (findings Server h) q.0)) (filter_map queued_request (findings Server h))) s ≡ true
    held s e = let a = any-passes (lives h (findings Server h)) s (filter_map establishes h) e in
        has-filtered (λ (x : ℕ). not (is_gone h (findings Server h) x)) s (and-right (is_established h s) (not (is_gone h (findings Server h) s)) a.0) (filter_map queued_request (findings Server h))
        (given-queued Server h i s ((phase h i).known s a.1))

none-listed : (xs : List ℕ) → ((s : ℕ) → list_any (λ (y : ℕ). y == s) xs ≡ false) → xs ≡ []
none-listed [] f = refl
none-listed (x ∷ xs) f = absurd (let e = f x in let r : (true || list_any (λ (y : ℕ). y == x) xs) ≡ false = (let q = rw (eq-eqb x x refl) at e in q) in cc r)

one-client : (h : History) → IsHistory Client h → length (filter_map establishes h) ≤ 1
one-client [] i = omega arith
one-client (p ∷ h) i = by (establishes p) refl (one-client h i.2)
  where
    by : (o : Option ℕ) → establishes p ≡ o → length (filter_map establishes h) ≤ 1 → length (filter_map establishes (p ∷ h)) ≤ 1
    by None q again = rw q again
    by (Some s) q again =
        let e : session_in (next Client h p.turn).reply ≡ Some s = ap (λ (a : Answer). session_in a.reply) (sym i.1) ∙ q in
        rw (q, none-listed (filter_map establishes h) (client-waits h i.2 (client-gives h p.turn i.0 s e))) (omega arith)

few-of : (mine : ℕ → Bool) (xs : List ℕ) → length (filter mine xs) ≤ length xs
few-of mine [] = omega arith
few-of mine (x ∷ xs) = by (mine x) (few-of mine xs)
  where
    by : (b : Bool) → length (filter mine xs) ≤ length xs → length (if b then x ∷ filter mine xs else filter mine xs) ≤ suc (length xs)
    by true n = omega (arith, n)
    by false n = omega (arith, n)

pub few-live : (side : Side) (h : History) → IsHistory side h → FewLive side h
few-live Server h i = server-few h i
few-live Client h i = let a = few-of (lives h (findings Client h)) (filter_map establishes h) in let b = one-client h i in omega (arith, a, b)
