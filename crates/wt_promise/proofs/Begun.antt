-- Which connect or response was begun for a stream.
use Rattle.std.specs.Prelude.{[], ◌==◌, ◌||◌, ◌∷◌, ◌≡◌, Bool, None, Option, Some, false, if◌then◌else◌, not, true, unwrap_or, ℕ}
use Rattle.std.specs.Option.{option_or}
use Rattle.std.proofs.Common.{◌∙◌, ap, refl, subst, sym}
use Rattle.std.proofs.lemmas.Bool.{eq-eqb, eqb-true}
use Rattle.wt_meaning.specs.Handshakes.{begun_by, last_begun, was_given}
use Rattle.wt_meaning.specs.History.{History, Pair}
use Rattle.wt_meaning.specs.Lawful.{all_answered, gives_request, has_request, is_first, is_lawful, is_of_request, is_response, is_waiting, polls}
use Rattle.wt_meaning.specs.Meaning.{next}
use Rattle.wt_meaning.specs.Windows.{last_request, request_in}
use Rattle.wt_promise.proofs.Accepted.{and-right, or-true}
use Rattle.wt_promise.proofs.Asks.{Asks, Begins, Else, ForRequest, GoesOn, Responds, asks, asks-of, begun-kind, of-connect, of-response}
use Rattle.wt_promise.proofs.Phases.{given-monotone, idle-of, incoming-new, last-given, none-request, phase, same-last}
use Rattle.wt_promise.proofs.Shapes.{going}
use Rattle.wt_promise.proofs.Sessions.{is_connect}
use Rattle.wt_promise.specs.Promise.{IsHistory, begun_on}
use Rattle.wt_turn.specs.declared.answer.Answer.{Answer}
use Rattle.wt_turn.specs.declared.call.Call.{Call}
use Rattle.wt_turn.specs.declared.reply.Reply.{Reply}
use Rattle.wt_turn.specs.declared.turn.Turn.{Turn}
use Rattle.wt_wire.specs.declared.side.Side.{Side}
use Rattle.wt_wire.specs.declared.side.Side.TheVariants.{Client, Server}
use Rattle.wt_turn.specs.declared.call.Call.TheVariants as calls
use Rattle.wt_turn.specs.declared.reply.Reply.TheVariants as replies
use Rattle.wt_turn.specs.declared.turn.Turn.TheVariants as turns

or-none : {T : Type 0} (o : Option T) → option_or o None ≡ o
or-none None = refl
or-none (Some x) = refl

if-same : (b : Bool) (o : Option Call) → (if b then o else o) ≡ o
if-same true o = refl
if-same false o = refl

-- the stream of a response, or of a connect
abbrev pub last_stream : History → ℕ
last_stream h = unwrap_or (last_request h) 0

-- a turn that begins nothing changes nothing
pub begun-same : (p : Pair) (h : History) (k : ℕ) → begun_by p.turn ≡ None → begun_on (p ∷ h) k ≡ begun_on h k
begun-same p h k e = ap (λ (o : Option Call). option_or (begun_on h k) (if last_stream h == k then o else None)) e ∙ ap (option_or (begun_on h k)) (if-same (last_stream h == k) None) ∙ or-none (begun_on h k)

-- what was begun stays
pub begun-stays : (p : Pair) (h : History) (k : ℕ) (c : Call) → begun_on h k ≡ Some c → begun_on (p ∷ h) k ≡ Some c
begun-stays p h k c e = ap (λ (o : Option Call). option_or o (if last_stream h == k then begun_by p.turn else None)) e

-- what is begun now, where nothing was
pub begun-now : (p : Pair) (h : History) (k : ℕ) (c : Call) → begun_on h k ≡ None → last_stream h ≡ k → begun_by p.turn ≡ Some c → begun_on (p ∷ h) k ≡ Some c
begun-now p h k c n s e =
    ap (λ (o : Option Call). option_or o (if last_stream h == k then begun_by p.turn else None)) n ∙ ap (λ (b : Bool). if b then begun_by p.turn else None) (eq-eqb (last_stream h) k s) ∙ e

same-begun : (p : Pair) (h : History) → begun_by p.turn ≡ None → last_begun (p ∷ h) ≡ last_begun h
same-begun p h e = ap (λ (o : Option Call). option_or o (last_begun h)) e

-- ---- a client has no requests

pub no-requests : (h : History) → IsHistory Client h → last_request h ≡ None
no-requests [] i = refl
no-requests (p ∷ h) i = ap (λ (o : Option ℕ). option_or o (last_request h)) (none-request p.answer.reply (by (asks-of Client p h i))) ∙ no-requests h i.2
  where
    by : Asks Client h p.turn p.answer.reply → gives_request p.answer.reply ≡ false
    by (Begins c s t k f g n) = g
    by (ForRequest s t a n) = absurd (cc s)
    by (Responds c s t k q n) = absurd (cc s)
    by (GoesOn t w n) = n
    by (Else a b m g n) = g

pub stream-zero : (h : History) → IsHistory Client h → last_stream h ≡ 0
stream-zero h i = ap (λ (o : Option ℕ). unwrap_or o 0) (no-requests h i)

no-asking : (h : History) → IsHistory Client h → has_request h ≡ false
no-asking [] i = refl
no-asking (p ∷ h) i = by (asks-of Client p h i) (no-asking h i.2)
  where
    still : is_of_request p.turn ≡ false → has_request h ≡ false → has_request (p ∷ h) ≡ false
    still q again = ap (λ (x : Bool). if x then gives_request p.answer.reply else has_request h) q ∙ again

    by : Asks Client h p.turn p.answer.reply → has_request h ≡ false → has_request (p ∷ h) ≡ false
    by (Begins c s t k f g n) again = still (ap is_of_request t ∙ (of-connect c k).0) again
    by (ForRequest s t a n) again = absurd (cc s)
    by (Responds c s t k q n) again = absurd (cc s)
    by (GoesOn t w n) again = still (ap is_of_request t) again
    by (Else a b m g n) again = still b again

-- ---- whose stream it is

abbrev pub BegunFor : Side → History → ℕ → Type 0
BegunFor Client h k = k ≡ 0
BegunFor Server h k = was_given h k ≡ true

pub begun-for : (side : Side) (h : History) → IsHistory side h → (k : ℕ) (c : Call) → begun_on h k ≡ Some c → BegunFor side h k
begun-for side [] i k c e = absurd (cc e)
begun-for Client (p ∷ h) i k c e = by (begun_on h k) refl e (begun-for Client h i.2 k)
  where
    here : (b : Bool) → (last_stream h == k) ≡ b → (if b then begun_by p.turn else None) ≡ Some c → k ≡ 0
    here true q r = sym (eqb-true (last_stream h) k q) ∙ stream-zero h i.2
    here false q r = absurd (cc r)

    by : (o : Option Call) → begun_on h k ≡ o → option_or o (if last_stream h == k then begun_by p.turn else None) ≡ Some c → ((d : Call) → begun_on h k ≡ Some d → k ≡ 0) → k ≡ 0
    by (Some d) q r again = again d q
    by None q r again = here (last_stream h == k) refl r
begun-for Server (p ∷ h) i k c e = by (begun_on h k) refl e (begun-for Server h i.2 k)
  where
    asked : (turn : Turn) → is_lawful Server h turn ≡ true → begun_by turn ≡ Some c → has_request h ≡ true
    asked (turns.Call (calls.Connect options lookup outcome)) l r = absurd (cc l)
    asked (turns.Call (calls.Accept headers)) l r = and-right (not (is_first h)) (has_request h) l
    asked (turns.Call calls.Forbidden) l r = and-right (not (is_first h)) (has_request h) l
    asked (turns.Call calls.NotFound) l r = and-right (not (is_first h)) (has_request h) l
    asked (turns.Call calls.TooManyRequests) l r = and-right (not (is_first h)) (has_request h) l
    asked turn l r = absurd (cc r)

    here : (b : Bool) → (last_stream h == k) ≡ b → (if b then begun_by p.turn else None) ≡ Some c → was_given (p ∷ h) k ≡ true
    here true q r =
        let a = (phase h i.2).asked (ap (λ (x : Bool). x || is_waiting h) (asked p.turn i.0 r)) in
        let same : a.0 ≡ k = sym (ap (λ (o : Option ℕ). unwrap_or o 0) a.1) ∙ eqb-true (last_stream h) k q in
        given-monotone p h k (last-given h k (a.1 ∙ ap (λ (n : ℕ). Some n) same))
    here false q r = absurd (cc r)

    by : (o : Option Call) → begun_on h k ≡ o → option_or o (if last_stream h == k then begun_by p.turn else None) ≡ Some c → ((d : Call) → begun_on h k ≡ Some d → was_given h k ≡ true) → was_given (p ∷ h) k ≡ true
    by (Some d) q r again = given-monotone p h k (again d q)
    by None q r again = here (last_stream h == k) refl r

-- ---- what waits was begun for its stream, and for a request that was just given nothing was

pub record Begun (h : History) : Type 0 where
  pub waiting : is_waiting h ≡ true → begun_on h (last_stream h) ≡ last_begun h
  pub fresh : has_request h ≡ true → begun_on h (last_stream h) ≡ None

-- a turn that neither asks for a request nor polls
quiet-begun : (p : Pair) (h : History) → polls p.turn ≡ false → is_of_request p.turn ≡ false → begun_by p.turn ≡ None → gives_request p.answer.reply ≡ false → Begun h → Begun (p ∷ h)
quiet-begun p h a b n g f = record {
  waiting = λ w. ap (begun_on (p ∷ h)) same ∙ begun-same p h (last_stream h) n ∙ f.waiting (let r = rw a at w in r) ∙ sym (same-begun p h n);
  fresh = λ q. ap (begun_on (p ∷ h)) same ∙ begun-same p h (last_stream h) n ∙ f.fresh (let r = rw b at q in r);
}
  where
    same : last_stream (p ∷ h) ≡ last_stream h
    same = ap (λ (o : Option ℕ). unwrap_or o 0) (same-last p h g)

-- a poll of a handshake
polled-begun : (p : Pair) (h : History) → begun_by p.turn ≡ None → gives_request p.answer.reply ≡ false → is_waiting h ≡ true → has_request (p ∷ h) ≡ false → Begun h → Begun (p ∷ h)
polled-begun p h n g w q f = record {
  waiting = λ x. ap (begun_on (p ∷ h)) same ∙ begun-same p h (last_stream h) n ∙ f.waiting w ∙ sym (same-begun p h n);
  fresh = λ x. absurd (let r : true ≡ false = sym x ∙ q in cc r);
}
  where
    same : last_stream (p ∷ h) ≡ last_stream h
    same = ap (λ (o : Option ℕ). unwrap_or o 0) (same-last p h g)

-- a connect or a response that begins
begins-begun : (p : Pair) (h : History) (c : Call) → begun_by p.turn ≡ Some c → gives_request p.answer.reply ≡ false → begun_on h (last_stream h) ≡ None → has_request (p ∷ h) ≡ false → Begun (p ∷ h)
begins-begun p h c b g n q = record {
  waiting = λ x. ap (begun_on (p ∷ h)) same ∙ begun-now p h (last_stream h) c n refl b ∙ sym (ap (λ (o : Option Call). option_or o (last_begun h)) b);
  fresh = λ x. absurd (let r : true ≡ false = sym x ∙ q in cc r);
}
  where
    same : last_stream (p ∷ h) ≡ last_stream h
    same = ap (λ (o : Option ℕ). unwrap_or o 0) (same-last p h g)

-- an Incoming of a server
incoming-begun : (p : Pair) (h : History) → IsHistory Server (p ∷ h) → p.turn ≡ turns.Call calls.Incoming → all_answered h ≡ true → Begun (p ∷ h)
incoming-begun p h i t all = by p.answer.reply refl
  where
    idle : is_waiting (p ∷ h) ≡ true → ⊥
    idle w = absurd (let x = rw t at w in let y : true ≡ false = sym x ∙ (idle-of h (phase h i.2) all).1 in cc y)

    by : (r : Reply) → p.answer.reply ≡ r → Begun (p ∷ h)
    by (replies.Request id headers) e = record {
      waiting = λ w. absurd (idle w);
      fresh = λ q. rw e (begun-same p h id (ap begun_by t) ∙ none (begun_on h id) refl);
    }
      where
        none : (o : Option Call) → begun_on h id ≡ o → o ≡ None
        none None x = refl
        none (Some c) x =
            let given = begun-for Server h i.2 id c x in
            let new : was_given h id ≡ false = incoming-new Server h id (ap (λ (a : Answer). request_in a.reply) (sym (i.1 ∙ ap (next Server h) t)) ∙ ap request_in e) in
            absurd (let y : true ≡ false = sym given ∙ new in cc y)
    by r e = record {
      waiting = λ w. absurd (idle w);
      fresh = λ q. absurd (let x = rw (t, e) at q in cc x);
    }

-- where a handshake goes on, no request is left that wasn't answered
unasked : (side : Side) (h : History) → IsHistory side h → is_waiting h ≡ true → has_request h ≡ false
unasked Client h i w = no-asking h i
unasked Server h i w = by (has_request h) refl
  where
    by : (b : Bool) → has_request h ≡ b → b ≡ false
    by false q = refl
    by true q = absurd (let r : true ≡ false = sym w ∙ (phase h i).apart q in cc r)

-- before a connect nothing was begun
pub first-begun : (h : History) → is_first h ≡ true → begun_on h (last_stream h) ≡ None
first-begun [] q = refl
first-begun (y ∷ h) q = absurd (cc q)

begun-after : (side : Side) (p : Pair) (h : History) → IsHistory side (p ∷ h) → Begun h → Begun (p ∷ h)
begun-after side p h i before = by (asks-of side p h i)
  where
    asked : (b : Bool) → is_of_request p.turn ≡ b → has_request (p ∷ h) ≡ (if b then gives_request p.answer.reply else has_request h)
    asked b q = ap (λ (x : Bool). if x then gives_request p.answer.reply else has_request h) q

    by : Asks side h p.turn p.answer.reply → Begun (p ∷ h)
    by (Begins c s t k f g n) = begins-begun p h c (ap begun_by t ∙ (of-connect c k).1) g (first-begun h f) (no-asking (p ∷ h) (subst (λ (x : Side). IsHistory x (p ∷ h)) s i))
    by (ForRequest s t a n) = incoming-begun p h (subst (λ (x : Side). IsHistory x (p ∷ h)) s i) t a
    by (Responds c s t k q n) = let r = of-response c k in begins-begun p h c (ap begun_by t ∙ r.begun) n (before.fresh q) (asked true (ap is_of_request t ∙ r.of_request) ∙ n)
    by (GoesOn t w n) = polled-begun p h (ap begun_by t) n w (asked false (ap is_of_request t) ∙ unasked side h i.2 w) before
    by (Else a b m g n) = quiet-begun p h a b m g before

pub begun : (side : Side) (h : History) → IsHistory side h → Begun h
begun side [] i = record { waiting = λ e. absurd (cc e); fresh = λ e. absurd (cc e) }
begun side (p ∷ h) i = begun-after side p h i (begun side h i.2)

-- ---- on which stream a poll writes

abbrev pub PolledStream : Side → History → Call → Type 0
PolledStream Client h c = is_connect c ≡ true
PolledStream Server h c = (is_response c ≡ true) × ((r : ℕ) × (last_request h ≡ Some r) × (was_given h r ≡ true))

pub polled-stream : (side : Side) (h : History) (turn : Turn) (c : Call) → IsHistory side h → is_lawful side h turn ≡ true → polls turn ≡ true → going h turn ≡ Some c → PolledStream side h c
polled-stream side h turn c i l p g = by (asks side h turn l)
  where
    same : (d : Call) → begun_by turn ≡ Some d → d ≡ c
    same d b = let q : Some d ≡ Some c = ap (λ (o : Option Call). option_or o (last_begun h)) (sym b) ∙ g in cc q

    given : IsHistory Server h → (has_request h || is_waiting h) ≡ true → (r : ℕ) × (last_request h ≡ Some r) × (was_given h r ≡ true)
    given j w = let a = (phase h j).asked w in (a.0, a.1, last-given h a.0 a.1)

    goes : (x : Side) → IsHistory x h → is_waiting h ≡ true → last_begun h ≡ Some c → PolledStream x h c
    goes Client j w e = begun-kind Client h j c e
    goes Server j w e = (begun-kind Server h j c e, given j (ap (λ (b : Bool). has_request h || b) w ∙ or-true (has_request h)))

    by : Asks side h turn (next side h turn).reply → PolledStream side h c
    by (Begins d s t k f x n) = subst (λ (y : Side). PolledStream y h c) (sym s) (ap is_connect (sym (same d (ap begun_by t ∙ (of-connect d k).1))) ∙ k)
    by (ForRequest s t a n) = absurd (let q : false ≡ true = sym (ap polls t) ∙ p in cc q)
    by (Responds d s t k q n) =
        subst (λ (y : Side). PolledStream y h c) (sym s) (ap is_response (sym (same d (ap begun_by t ∙ (of-response d k).begun))) ∙ k, given (subst (λ (y : Side). IsHistory y h) s i) (ap (λ (b : Bool). b || is_waiting h) q))
    by (GoesOn t w n) = goes side i w (sym (ap (λ (x : Turn). going h x) t) ∙ g)
    by (Else a b m x n) = absurd (let q : false ≡ true = sym a ∙ p in cc q)
