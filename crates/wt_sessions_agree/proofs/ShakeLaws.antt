-- What a server's history says of a handshake by its phase: whether each request is answered, and that no request comes any more.
use Rattle.std.specs.Prelude.{[], ◌&&◌, ◌+◌, ◌==◌, ◌∷◌, ◌||◌, ◌≡◌, Bool, false, not, true, ℕ}
use Rattle.std.specs.List.{list_any}
use Rattle.std.proofs.Common.{◌∙◌, ap, arith, refl, sym}
use Rattle.std.proofs.lemmas.Bool.{eq-eqb, eqb-true}
use Rattle.wt_meaning.specs.Handshakes.{incoming_rows, last_begun, next_request}
use Rattle.wt_meaning.specs.History.{History, Pair, is_open}
use Rattle.wt_meaning.specs.Lawful.{all_answered, fails_incoming, gives_request, has_request, is_first, is_lawful, is_waiting, may_call}
use Rattle.wt_meaning.specs.Meaning.{next}
use Rattle.wt_meaning.specs.Rows.{first_row}
use Rattle.wt_promise.proofs.Accepted.{and-left, and-right, not-true}
use Rattle.wt_promise.proofs.Flow.{clash}
use Rattle.wt_promise.proofs.Opened.{open-before}
use Rattle.wt_promise.proofs.Phases.{Phase, answered_count, bit, given_count, idle-of, phase}
use Rattle.wt_promise.proofs.Tables.{by-row, by-value, no-row}
use Rattle.wt_promise.specs.Promise.{IsHistory}
use Rattle.wt_sessions.specs.Handshake.{HandshakeState, awaits_answer, awaits_request, is_continuable}
use Rattle.wt_sessions.specs.Handshake as handshakes
use Rattle.wt_sessions_agree.proofs.DueLaws.{is_asked, polls-due}
use Rattle.wt_sessions_agree.specs.Stands.{BegunAgrees, HandshakeAgrees}
use Rattle.wt_turn.specs.declared.answer.Answer.{Answer}
use Rattle.wt_turn.specs.declared.reply.Reply.{Reply}
use Rattle.wt_turn.specs.declared.turn.Turn.{Turn}
use Rattle.wt_wire.specs.HeaderList.{Fields}
use Rattle.wt_wire.specs.declared.side.Side.{Side}
use Rattle.wt_wire.specs.declared.side.Side.TheVariants.{Client, Server}
use Rattle.wt_turn.specs.declared.call.Call.TheVariants as calls
use Rattle.wt_turn.specs.declared.reply.Reply.TheVariants as replies
use Rattle.wt_turn.specs.declared.turn.Turn.TheVariants as turns

-- ---- each request is answered, or a response is due

answered-is : (h : History) → Phase h → all_answered h ≡ not (is_asked h)
answered-is h f = by (has_request h) (is_waiting h) f.count (all_answered h) refl
  where
    by : (q w : Bool) → given_count h ≡ answered_count h + (bit q + bit w) → (b : Bool) → (given_count h == answered_count h) ≡ b → b ≡ not (q || w)
    by false false n true e = refl
    by false false n false e = absurd (let r : given_count h ≡ answered_count h = omega (arith, n) in clash (given_count h == answered_count h) (eq-eqb (given_count h) (answered_count h) r) e)
    by true w n false e = refl
    by false true n false e = refl
    by true true n true e = absurd (let r = eqb-true (given_count h) (answered_count h) e in omega (arith, n, r))
    by true false n true e = absurd (let r = eqb-true (given_count h) (answered_count h) e in omega (arith, n, r))
    by false true n true e = absurd (let r = eqb-true (given_count h) (answered_count h) e in omega (arith, n, r))

-- ---- an Incoming failed

-- one did
abbrev pub has_failed : History → Bool
has_failed h = list_any (λ (p : Pair). fails_incoming p.turn p.answer.reply) h

-- it does once the connection has ended
abbrev FailsShut : History → Answer → Type 0
FailsShut h a = fails_incoming (turns.Call calls.Incoming) a.reply ≡ true → is_open h ≡ false

incoming-shut : (side : Side) (h : History) → FailsShut h (first_row (incoming_rows side h))
incoming-shut side h =
    (by-value (FailsShut h) (next_request side h) (λ (q : ℕ × Fields). replies.Request q.0 q.1) [] _ (λ q e f. absurd (cc f))
    (λ n. by-row (FailsShut h) (not (is_open h)) _ [] [] (λ c f. not-true (is_open h) c) (λ c. no-row (FailsShut h) (λ f. absurd (cc f))))).first

-- what a pair's call is that fails
failing : (t : Turn) (x : Reply) → fails_incoming t x ≡ true → t ≡ turns.Call calls.Incoming
failing (turns.Call calls.Incoming) x e = refl
failing (turns.Call c) x e = absurd (cc e)
failing t x e = absurd (cc e)

shut-later : (p : Pair) (h : History) → is_open h ≡ false → is_open (p ∷ h) ≡ false
shut-later p h s = by (is_open (p ∷ h)) refl
  where
    by : (b : Bool) → is_open (p ∷ h) ≡ b → b ≡ false
    by false e = refl
    by true e = absurd (clash (is_open h) (open-before p h e) s)

pub failed-shut : (side : Side) (h : History) → IsHistory side h → has_failed h ≡ true → is_open h ≡ false
failed-shut side [] i e = absurd (cc e)
failed-shut side (p ∷ h) i e = shut-later p h (by (fails_incoming p.turn p.answer.reply) refl e (failed-shut side h i.2))
  where
    by : (b : Bool) → fails_incoming p.turn p.answer.reply ≡ b → (b || has_failed h) ≡ true → (has_failed h ≡ true → is_open h ≡ false) → is_open h ≡ false
    by false q r again = again r
    by true q r again =
        let t : p.turn ≡ turns.Call calls.Incoming = failing p.turn p.answer.reply q in
        let a : p.answer.reply ≡ (first_row (incoming_rows side h)).reply = ap (λ (x : Answer). x.reply) (i.1 ∙ ap (next side h) t) in
        incoming-shut side h (ap (fails_incoming (turns.Call calls.Incoming)) (sym a) ∙ ap (λ (y : Turn). fails_incoming y p.answer.reply) (sym t) ∙ q)

-- and then no response is due any more
failed-idle : (h : History) → IsHistory Server h → has_failed h ≡ true → is_asked h ≡ false
failed-idle [] i e = absurd (cc e)
failed-idle (p ∷ h) i e = by (fails_incoming p.turn p.answer.reply) refl e (failed-idle h i.2)
  where
    asked : may_call Server h calls.Incoming ≡ true → (not (has_failed h) && all_answered h) ≡ true
    asked l = parts (is_first h) (has_failed h) (all_answered h) l
      where
        parts : (f g a : Bool) → (true && not f && not g && a) ≡ true → (not g && a) ≡ true
        parts false false a l = l
        parts false true a l = l
        parts true g a l = absurd (cc l)

    now : p.turn ≡ turns.Call calls.Incoming → fails_incoming p.turn p.answer.reply ≡ true → is_asked (p ∷ h) ≡ false
    now t q =
        let l : may_call Server h calls.Incoming ≡ true = ap (is_lawful Server h) (sym t) ∙ i.0 in
        let n = idle-of h (phase h i.2) (and-right (not (has_failed h)) (all_answered h) (asked l)) in
        rw (t, n.1) (of p.answer.reply (ap (λ (y : Turn). fails_incoming y p.answer.reply) (sym t) ∙ q))
      where
        of : (x : Reply) → fails_incoming (turns.Call calls.Incoming) x ≡ true → (gives_request x || false) ≡ false
        of (replies.Failed e) f = refl
        of x f = absurd (cc f)

    later : (turn : Turn) → p.turn ≡ turn → has_failed h ≡ true → is_asked h ≡ false → is_asked (p ∷ h) ≡ false
    later (turns.Call calls.Incoming) t f n =
        absurd (let l = asked (ap (is_lawful Server h) (sym t) ∙ i.0) in let r = not-true (has_failed h) (and-left (not (has_failed h)) (all_answered h) l) in clash (has_failed h) f r)
    later (turns.Call (calls.Accept headers)) t f n = absurd (clash (is_asked h) (polls-due h (calls.Accept headers) (ap (is_lawful Server h) (sym t) ∙ i.0) refl) n)
    later (turns.Call calls.Forbidden) t f n = absurd (clash (is_asked h) (polls-due h calls.Forbidden (ap (is_lawful Server h) (sym t) ∙ i.0) refl) n)
    later (turns.Call calls.NotFound) t f n = absurd (clash (is_asked h) (polls-due h calls.NotFound (ap (is_lawful Server h) (sym t) ∙ i.0) refl) n)
    later (turns.Call calls.TooManyRequests) t f n = absurd (clash (is_asked h) (polls-due h calls.TooManyRequests (ap (is_lawful Server h) (sym t) ∙ i.0) refl) n)
    later (turns.Call calls.Handshake) t f n = absurd (clash (is_asked h) (polls-due h calls.Handshake (ap (is_lawful Server h) (sym t) ∙ i.0) refl) n)
    later (turns.Call (calls.Connect options lookup outcome)) t f n = absurd (let l : may_call Server h (calls.Connect options lookup outcome) ≡ true = ap (is_lawful Server h) (sym t) ∙ i.0 in cc l)
    later (turns.Call c) t f n = rw t n
    later turn t f n = rw t n

    by : (b : Bool) → fails_incoming p.turn p.answer.reply ≡ b → (b || has_failed h) ≡ true → (has_failed h ≡ true → is_asked h ≡ false) → is_asked (p ∷ h) ≡ false
    by true q r again = now (failing p.turn p.answer.reply q) q
    by false q r again = later p.turn refl r (again r)

-- ---- a handshake that is over

-- no request comes any more
abbrev pub is_over : HandshakeState → Bool
is_over handshakes.Over = true
is_over _ = false

-- the state is what the phase says: one of four on a server
phase-by : (state : HandshakeState) (f a : Bool) → (f ≡ true → a ≡ false) → a ≡ (awaits_answer state || is_continuable state) → (not f && not a) ≡ awaits_request state → f ≡ is_over state
phase-by handshakes.AwaitingRequest true a n e w = absurd (cc w)
phase-by handshakes.AwaitingRequest false a n e w = refl
phase-by handshakes.Answered true a n e w = absurd (cc w)
phase-by handshakes.Answered false a n e w = refl
phase-by handshakes.Over true a n e w = refl
phase-by handshakes.Over false true n e w = absurd (cc e)
phase-by handshakes.Over false false n e w = absurd (cc w)
phase-by (handshakes.Requested id) true a n e w = absurd (let r = n refl in cc (sym e ∙ r))
phase-by (handshakes.Requested id) false a n e w = refl
phase-by (handshakes.Responding accepts head) true a n e w = absurd (let r = n refl in cc (sym e ∙ r))
phase-by (handshakes.Responding accepts head) false a n e w = refl
phase-by (handshakes.Connecting reserved head) true a n e w = absurd (let r = n refl in cc (sym e ∙ r))
phase-by (handshakes.Connecting reserved head) false a n e w = refl

asked-is : (h : History) (state : HandshakeState) → is_waiting h ≡ is_continuable state → has_request h ≡ awaits_answer state → is_asked h ≡ (awaits_answer state || is_continuable state)
asked-is h state w q = rw (w, q) refl

-- a handshake is over once an Incoming failed
pub failed-is : (h : History) (state : HandshakeState) → IsHistory Server h → HandshakeAgrees Server h state → has_failed h ≡ is_over state
failed-is h state i x =
    phase-by state (has_failed h) (is_asked h) (failed-idle h i) (asked-is h state x.waiting (x.requested refl))
    (ap (λ (b : Bool). not (has_failed h) && b) (sym (answered-is h (phase h i))) ∙ x.awaits refl)

waits-by : (state : HandshakeState) (f a : Bool) → f ≡ is_over state → a ≡ (awaits_answer state || is_continuable state) → (not f && not a) ≡ awaits_request state
waits-by handshakes.AwaitingRequest f a e n = rw (e, n) refl
waits-by handshakes.Answered f a e n = rw (e, n) refl
waits-by handshakes.Over f a e n = rw e refl
waits-by (handshakes.Requested id) f a e n = rw (e, n) refl
waits-by (handshakes.Responding accepts head) f a e n = rw (e, n) refl
waits-by (handshakes.Connecting reserved head) f a e n = rw (e, n) refl

-- what is left to say of a history and a state
pub shake-agrees : (side : Side) (h : History) (state : HandshakeState) → IsHistory side h → is_waiting h ≡ is_continuable state
    → (side ≡ Server → (has_request h ≡ awaits_answer state) × (has_failed h ≡ is_over state)) → BegunAgrees state (last_begun h)
    → HandshakeAgrees side h state
shake-agrees Client h state i w f b = record { waiting = w; requested = λ c. absurd (cc c); awaits = λ c. absurd (cc c); begun = b }
shake-agrees Server h state i w f b = record {
  waiting = w;
  requested = λ c. (f refl).0;
  awaits = λ c. ap (λ (x : Bool). not (has_failed h) && x) (answered-is h (phase h i)) ∙ waits-by state (has_failed h) (is_asked h) (f refl).1 (asked-is h state w (f refl).0);
  begun = b;
}
