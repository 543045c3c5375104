-- The phases of a handshake: a session that a reply gives is new, and was asked for.
use Rattle.std.specs.Prelude.{[], ◌&&◌, ◌+◌, ◌==◌, ◌∷◌, ◌||◌, ◌≡◌, Bool, List, None, Option, Some, codes, false, filter, filter_map, if◌then◌else◌, is_some, length, not, suc, true, unwrap_or, ℕ}
use Rattle.std.specs.List.{list_any}
use Rattle.std.specs.Option.{option_or}
use Rattle.std.proofs.Common.{◌∙◌, ap, arith, refl, subst, sym}
use Rattle.std.proofs.lemmas.Bool.{eq-eqb, eqb-true}
use Rattle.wt_meaning.specs.Findings.{first_of, settings_came}
use Rattle.wt_meaning.specs.Handshakes.{last_begun, next_request, poll_rows, rejection, response_to, was_given}
use Rattle.wt_meaning.specs.History.{History, Pair, is_open}
use Rattle.wt_meaning.specs.Lawful.{all_answered, gives_request, has_request, is_first, is_of_request, is_pending, is_response, is_waiting, polls}
use Rattle.wt_meaning.specs.Meaning.{next}
use Rattle.wt_meaning.specs.Moments.{findings}
use Rattle.wt_meaning.specs.Rows.{first_row}
use Rattle.wt_meaning.specs.Windows.{is_established, last_request, queued_request, request_in, requests, session_in}
use Rattle.wt_promise.proofs.Accepted.{or-true}
use Rattle.wt_promise.proofs.Asks.{Asks, Begins, Else, ForRequest, GoesOn, Responds, asks-of, begun-kind, of-response}
use Rattle.wt_promise.proofs.Sessions.{accept-gives}
use Rattle.wt_promise.proofs.Tables.{by-row, by-value, fits, fits-own, no-row, rejects-pass}
use Rattle.wt_promise.specs.Promise.{IsHistory}
use Rattle.wt_turn.specs.declared.answer.Answer.{Answer}
use Rattle.wt_turn.specs.declared.call.Call.{Call}
use Rattle.wt_turn.specs.declared.reply.Reply.{Reply}
use Rattle.wt_turn.specs.declared.turn.Turn.{Turn}
use Rattle.wt_wire.specs.HeaderList.{Fields}
use Rattle.wt_wire.specs.declared.side.Side.{Side}
use Rattle.wt_wire.specs.declared.side.Side.TheVariants.{Client, Server}
use Rattle.wt_turn.specs.declared.call.Call.TheVariants as calls
use Rattle.wt_turn.specs.declared.reply.Reply.TheVariants as replies
use Rattle.wt_turn.specs.declared.turn.Turn.TheVariants as turns

-- ---- replies

-- what is Pending gives no session
pending-no-session : (r : Reply) → is_pending r ≡ true → session_in r ≡ None
pending-no-session replies.Pending e = refl
pending-no-session r e = absurd (cc e)

pub none-request : (r : Reply) → gives_request r ≡ false → request_in r ≡ None
none-request (replies.Request id headers) e = absurd (cc e)
none-request r e = refl

-- ---- which session a reply gives

-- the session is that of the request that was given last
abbrev pub IsLast : History → Answer → Type 0
IsLast h a = (s : ℕ) → session_in a.reply ≡ Some s → s ≡ unwrap_or (last_request h) 0

accept-gives-last : (side : Side) (h : History) (headers : Fields) → IsLast h (first_row (response_to side h (calls.Accept headers)))
accept-gives-last side h headers s e = (accept-gives side h headers s e).is_last

abbrev no-session : Reply → Bool
no-session r = not (is_some (session_in r))

none-given : (h : History) (a : Answer) → no-session a.reply ≡ true → IsLast h a
none-given h a n s e = absurd (let r : false ≡ true = sym (ap (λ (o : Option ℕ). not (is_some o)) e) ∙ n in cc r)

rejection-gives-none : (side : Side) (h : History) (digits : List ℕ) → IsLast h (first_row (rejection side h digits))
rejection-gives-none side h digits = none-given h (first_row (rejection side h digits)) (rejects-pass no-session refl refl side h digits).first

pub response-gives-last : (h : History) (c : Call) → is_response c ≡ true → IsLast h (next Server h (turns.Call c))
response-gives-last h (calls.Accept headers) r = accept-gives-last Server h headers
response-gives-last h calls.Forbidden r = rejection-gives-none Server h (codes "403")
response-gives-last h calls.NotFound r = rejection-gives-none Server h (codes "404")
response-gives-last h calls.TooManyRequests r = rejection-gives-none Server h (codes "429")
response-gives-last h c r = absurd (cc r)

pub poll-gives-last : (side : Side) (h : History) (c : Call) → is_response c ≡ true → IsLast h (first_row (poll_rows side h (Some c)))
poll-gives-last side h (calls.Accept headers) r = accept-gives-last side h headers
poll-gives-last side h calls.Forbidden r = rejection-gives-none side h (codes "403")
poll-gives-last side h calls.NotFound r = rejection-gives-none side h (codes "404")
poll-gives-last side h calls.TooManyRequests r = rejection-gives-none side h (codes "429")
poll-gives-last side h c r = absurd (cc r)

-- a server begins responses alone
pub server-begun : (h : History) → IsHistory Server h → (c : Call) → last_begun h ≡ Some c → is_response c ≡ true
server-begun h i c e = begun-kind Server h i c e

-- ---- what was given

pub given-monotone : (p : Pair) (h : History) (k : ℕ) → was_given h k ≡ true → was_given (p ∷ h) k ≡ true
given-monotone p h k e = by (requests p) refl
  where
    by : (o : Option ℕ) → requests p ≡ o → was_given (p ∷ h) k ≡ true
    by None q = rw q e
    by (Some t) q = rw (q, e) (or-true (t == k))

pub last-given : (h : History) (k : ℕ) → last_request h ≡ Some k → was_given h k ≡ true
last-given [] k e = absurd (cc e)
last-given (p ∷ h) k e = by (requests p) refl e (last-given h k)
  where
    by : (o : Option ℕ) → requests p ≡ o → option_or o (last_request h) ≡ Some k → (last_request h ≡ Some k → was_given h k ≡ true) → was_given (p ∷ h) k ≡ true
    by None q r again = rw q (again r)
    by (Some t) q r again = let same : t ≡ k = cc r in rw (q, eq-eqb t k same) refl

-- a request that is given wasn't given before
abbrev pub NewRequest : History → Answer → Type 0
NewRequest h a = (k : ℕ) → request_in a.reply ≡ Some k → was_given h k ≡ false

-- it was queued, and SETTINGS came
pub record Requested (side : Side) (h : History) (k : ℕ) : Type 0 where
  pub settings : settings_came (findings side h) ≡ true
  pub queued : list_any (λ (q : ℕ × Fields). q.0 == k) (filter_map queued_request (findings side h)) ≡ true
  pub new : was_given h k ≡ false

first-new : (h : History) (qs : List (ℕ × Fields)) (q : ℕ × Fields) → first_of (λ (x : ℕ × Fields). if was_given h x.0 then None else Some x) qs ≡ Some q
    → (list_any (λ (x : ℕ × Fields). x.0 == q.0) qs ≡ true) × (was_given h q.0 ≡ false)
first-new h [] q e = absurd (cc e)
first-new h (x ∷ qs) q e = by (was_given h x.0) refl e (first-new h qs q)
  where
    by : (b : Bool) → was_given h x.0 ≡ b → option_or (if b then None else Some x) (first_of (λ (y : ℕ × Fields). if was_given h y.0 then None else Some y) qs) ≡ Some q
        → (first_of (λ (y : ℕ × Fields). if was_given h y.0 then None else Some y) qs ≡ Some q → (list_any (λ (y : ℕ × Fields). y.0 == q.0) qs ≡ true) × (was_given h q.0 ≡ false))
        → (list_any (λ (y : ℕ × Fields). y.0 == q.0) (x ∷ qs) ≡ true) × (was_given h q.0 ≡ false)
    by true i r again = let a = again r in (rw a.0 (or-true (x.0 == q.0)), a.1)
    by false i r again = let same : x ≡ q = cc r in
        (ap (λ (b : Bool). b || list_any (λ (y : ℕ × Fields). y.0 == q.0) qs) (eq-eqb x.0 q.0 (ap (λ (y : ℕ × Fields). y.0) same)), ap (λ (y : ℕ × Fields). was_given h y.0) (sym same) ∙ i)

incoming-gives : (side : Side) (h : History) (k : ℕ) → request_in (next side h (turns.Call calls.Incoming)).reply ≡ Some k → Requested side h k
incoming-gives side h k =
    (by-value P (next_request side h) (λ (q : ℕ × Fields). replies.Request q.0 q.1) [] _ (λ q e r. subst (Requested side h) (let same : q.0 ≡ k = cc r in same) (first (settings_came (findings side h)) refl q e))
    (λ n. by-row P (not (is_open h)) _ [] [] (λ c e. absurd (cc e)) (λ c. no-row P (λ e. absurd (cc e))))).first
  where
    P : Answer → Type 0
    P a = request_in a.reply ≡ Some k → Requested side h k

    first : (b : Bool) → settings_came (findings side h) ≡ b → (q : ℕ × Fields)
        → (if b then first_of (λ (x : ℕ × Fields). if was_given h x.0 then None else Some x) (filter_map queued_request (findings side h)) else None) ≡ Some q → Requested side h q.0
    first true s q e = let a = first-new h (filter_map queued_request (findings side h)) q e in record { settings = s; queued = a.0; new = a.1 }
    first false s q e = absurd (cc e)

pub requested : (side : Side) (h : History) (turn : Turn) (k : ℕ) → request_in (next side h turn).reply ≡ Some k → Requested side h k
requested side h (turns.Call c) k e = incoming-gives side h k (ap (λ (d : Call). request_in (next side h (turns.Call d)).reply) (sym (by c (next side h (turns.Call c)).reply (fits-own side h c) e)) ∙ e)
  where
    by : (d : Call) (r : Reply) → fits d r ≡ true → request_in r ≡ Some k → d ≡ calls.Incoming
    by calls.Incoming r f q = refl
    by d (replies.Request id headers) f q = absurd (cc f)
    by d r f q = absurd (cc q)
requested side h turn k e = absurd (cc e)

pub incoming-new : (side : Side) (h : History) → NewRequest h (next side h (turns.Call calls.Incoming))
incoming-new side h k e = (incoming-gives side h k e).new

-- ---- a server's phases

abbrev pub bit : Bool → ℕ
bit true = 1
bit false = 0

abbrev pub given_count : History → ℕ
given_count h = length (filter (λ (p : Pair). gives_request p.answer.reply) h)

abbrev pub answered_count : History → ℕ
answered_count h = length (filter (λ (p : Pair). polls p.turn && not (is_pending p.answer.reply)) h)

pub record Phase (h : History) : Type 0 where
  pub count : given_count h ≡ answered_count h + (bit (has_request h) + bit (is_waiting h))
  pub apart : has_request h ≡ true → is_waiting h ≡ false
  pub known : (s : ℕ) → is_established h s ≡ true → was_given h s ≡ true
  pub asked : (has_request h || is_waiting h) ≡ true → (r : ℕ) × (last_request h ≡ Some r) × (is_established h r ≡ false)

-- nothing is established where the reply gives no session
pub same-established : (p : Pair) (h : History) (s : ℕ) → session_in p.answer.reply ≡ None → is_established (p ∷ h) s ≡ is_established h s
same-established p h s e = rw e refl

pub same-last : (p : Pair) (h : History) → gives_request p.answer.reply ≡ false → last_request (p ∷ h) ≡ last_request h
same-last p h e = rw (none-request p.answer.reply e) refl

quiet-phase : (p : Pair) (h : History) → polls p.turn ≡ false → is_of_request p.turn ≡ false → gives_request p.answer.reply ≡ false → session_in p.answer.reply ≡ None → Phase h → Phase (p ∷ h)
quiet-phase p h a b c d f = record {
  count = rw (a, b, c) f.count;
  apart = rw (a, b) f.apart;
  known = λ s e. given-monotone p h s (f.known s (sym (same-established p h s d) ∙ e));
  asked = λ e. let r = f.asked (let q = rw (a, b) at e in q) in (r.0, same-last p h c ∙ r.1, same-established p h r.0 d ∙ r.2);
}

-- a poll of a request that was asked for
polled-phase : (p : Pair) (h : History) → polls p.turn ≡ true → has_request (p ∷ h) ≡ false → gives_request p.answer.reply ≡ false → IsLast h p.answer → (has_request h || is_waiting h) ≡ true → Phase h → Phase (p ∷ h)
polled-phase p h a b c last w f = record {
  count = rw (b, c, a) (counted (has_request h) (is_waiting h) (is_pending p.answer.reply) f.apart w f.count);
  apart = λ e. absurd (let r : true ≡ false = sym e ∙ b in cc r);
  known = known;
  asked = asked;
}
  where
    counted : (q w n : Bool) → (q ≡ true → w ≡ false) → (q || w) ≡ true → given_count h ≡ answered_count h + (bit q + bit w)
        → given_count h ≡ length (if not n then p ∷ filter (λ (x : Pair). polls x.turn && not (is_pending x.answer.reply)) h else filter (λ (x : Pair). polls x.turn && not (is_pending x.answer.reply)) h) + (0 + bit n)
    counted true true n x y z = absurd (let r = x refl in cc r)
    counted true false true x y z = z
    counted true false false x y z = z ∙ omega arith
    counted false true true x y z = z
    counted false true false x y z = z ∙ omega arith
    counted false false n x y z = absurd (cc y)

    r : (k : ℕ) × (last_request h ≡ Some k) × (is_established h k ≡ false)
    r = f.asked w

    known : (s : ℕ) → is_established (p ∷ h) s ≡ true → was_given (p ∷ h) s ≡ true
    known s e = by (session_in p.answer.reply) refl
      where
        by : (o : Option ℕ) → session_in p.answer.reply ≡ o → was_given (p ∷ h) s ≡ true
        by None q = given-monotone p h s (f.known s (sym (same-established p h s q) ∙ e))
        by (Some t) q = of (t == s) refl
          where
            of : (b : Bool) → (t == s) ≡ b → was_given (p ∷ h) s ≡ true
            of true i = given-monotone p h s (last-given h s (r.1 ∙ ap (λ (n : ℕ). Some n) (sym (ap (λ (o : Option ℕ). unwrap_or o 0) r.1) ∙ sym (last t q) ∙ eqb-true t s i)))
            of false i = given-monotone p h s (f.known s (let m = rw (q, i) at e in m))

    asked : (has_request (p ∷ h) || is_waiting (p ∷ h)) ≡ true → (k : ℕ) × (last_request (p ∷ h) ≡ Some k) × (is_established (p ∷ h) k ≡ false)
    asked e = let n : is_pending p.answer.reply ≡ true = let m = rw (b, a) at e in m in
        (r.0, same-last p h c ∙ r.1, same-established p h r.0 (pending-no-session p.answer.reply n) ∙ r.2)

-- a server asks for a request where none is left to answer
pub idle-of : (h : History) → Phase h → all_answered h ≡ true → (has_request h ≡ false) × (is_waiting h ≡ false)
idle-of h f all = nothing (has_request h) (is_waiting h) f.count (eqb-true (given_count h) (answered_count h) all)
  where
    nothing : (q w : Bool) → given_count h ≡ answered_count h + (bit q + bit w) → given_count h ≡ answered_count h → (q ≡ false) × (w ≡ false)
    nothing true w e g = absurd (omega (arith, e, g))
    nothing false true e g = absurd (omega (arith, e, g))
    nothing false false e g = (refl, refl)

incoming-phase : (p : Pair) (h : History) → polls p.turn ≡ false → is_of_request p.turn ≡ true → session_in p.answer.reply ≡ None → NewRequest h p.answer → all_answered h ≡ true → Phase h → Phase (p ∷ h)
incoming-phase p h a b d new all f = by p.answer.reply refl
  where
    idle : (has_request h ≡ false) × (is_waiting h ≡ false)
    idle = idle-of h f all

    known : (s : ℕ) → is_established (p ∷ h) s ≡ true → was_given (p ∷ h) s ≡ true
    known s e = given-monotone p h s (f.known s (sym (same-established p h s d) ∙ e))

    fresh : (k : ℕ) → was_given h k ≡ false → is_established h k ≡ false
    fresh k n = of (is_established h k) refl
      where
        of : (x : Bool) → is_established h k ≡ x → x ≡ false
        of true e = absurd (let r : true ≡ false = sym (f.known k e) ∙ n in cc r)
        of false e = refl

    by : (r : Reply) → p.answer.reply ≡ r → Phase (p ∷ h)
    by (replies.Request id headers) e = record {
      count = rw (e, a, b, idle.1) (ap suc (eqb-true (given_count h) (answered_count h) all) ∙ omega arith);
      apart = λ x. rw a idle.1;
      known = known;
      asked = λ x. (id, rw e refl, same-established p h id d ∙ fresh id (new id (ap request_in e)));
    }
    by r e = record {
      count = rw (e, a, b, idle.1) (eqb-true (given_count h) (answered_count h) all ∙ omega arith);
      apart = λ x. rw a idle.1;
      known = known;
      asked = λ x. absurd (let m = rw (e, a, b, idle.1) at x in cc m);
    }

phase-after : (p : Pair) (h : History) → IsHistory Server (p ∷ h) → Phase h → Phase (p ∷ h)
phase-after p h i before = by (asks-of Server p h i)
  where
    reply-of : (turn : Turn) → p.turn ≡ turn → p.answer ≡ next Server h turn
    reply-of turn e = i.1 ∙ ap (next Server h) e

    -- a poll's request isn't asked for any more
    unasked : is_waiting h ≡ true → has_request h ≡ false
    unasked w = of (has_request h) before.apart
      where
        of : (b : Bool) → (b ≡ true → is_waiting h ≡ false) → b ≡ false
        of true f = absurd (let r : true ≡ false = sym w ∙ f refl in cc r)
        of false f = refl

    polled : (o : Option Call) → last_begun h ≡ o → IsLast h (first_row (poll_rows Server h o))
    polled None q = λ s x. absurd (cc x)
    polled (Some c) q = poll-gives-last Server h c (server-begun h i.2 c q)

    by : Asks Server h p.turn p.answer.reply → Phase (p ∷ h)
    by (Begins c s t k f g n) = absurd (cc s)
    by (ForRequest s t all n) = incoming-phase p h (ap polls t) (ap is_of_request t) n (rw (reply-of (turns.Call calls.Incoming) t) (incoming-new Server h)) all before
    by (Responds c s t k q n) =
        let r = of-response c k in
        polled-phase p h (ap polls t ∙ r.polls_on) (ap (λ (x : Bool). if x then gives_request p.answer.reply else has_request h) (ap is_of_request t ∙ r.of_request) ∙ n) n (rw (reply-of (turns.Call c) t) (response-gives-last h c k)) (rw q refl) before
    by (GoesOn t w n) =
        polled-phase p h (ap polls t) (ap (λ (x : Bool). if x then gives_request p.answer.reply else has_request h) (ap is_of_request t) ∙ unasked w) n (rw (reply-of (turns.Call calls.Handshake) t) (polled (last_begun h) refl))
        (rw w (or-true (has_request h))) before
    by (Else a b m g n) = quiet-phase p h a b g n before

pub phase : (h : History) → IsHistory Server h → Phase h
phase [] i = record { count = refl; apart = λ e. refl; known = λ s e. absurd (cc e); asked = λ e. absurd (cc e) }
phase (p ∷ h) i = phase-after p h i (phase h i.2)

-- ---- a client establishes one session

waits-after : (p : Pair) (h : History) → IsHistory Client (p ∷ h) → is_waiting (p ∷ h) ≡ true → (s : ℕ) → (is_waiting h ≡ true → is_established h s ≡ false) → is_established (p ∷ h) s ≡ false
waits-after p h i w s again = by (asks-of Client p h i)
  where
    first : (x : History) → is_first x ≡ true → is_established x s ≡ false
    first [] q = refl
    first (y ∷ x) q = absurd (cc q)

    by : Asks Client h p.turn p.answer.reply → is_established (p ∷ h) s ≡ false
    by (Begins c x t k f g n) = same-established p h s n ∙ first h f
    by (ForRequest x t a n) = absurd (cc x)
    by (Responds c x t k q n) = absurd (cc x)
    by (GoesOn t v n) = same-established p h s (pending-no-session p.answer.reply (let r = rw t at w in r)) ∙ again v
    by (Else a b m g n) = same-established p h s n ∙ again (let r = rw a at w in r)

-- while a client's connect waits, none is established
pub client-waits : (h : History) → IsHistory Client h → is_waiting h ≡ true → (s : ℕ) → is_established h s ≡ false
client-waits [] i w s = refl
client-waits (p ∷ h) i w s = waits-after p h i w s (λ x. client-waits h i.2 x s)
