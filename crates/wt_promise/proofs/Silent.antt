-- Nothing goes out on a stream after its reset, nor is it reset once more.
use Rattle.std.specs.Prelude.{[], ◌==◌, ◌||◌, ◌∷◌, ◌≡◌, Bool, None, Option, Some, false, if◌then◌else◌, is_some, not, true, unwrap_or, ℕ}
use Rattle.std.specs.List.{list_any}
use Rattle.std.proofs.Common.{◌∙◌, ap, refl, subst, sym}
use Rattle.std.proofs.lemmas.Bool.{eqb-true}
use Rattle.wt_meaning.specs.Calls.{being_opened, is_living, opened_by, opening_ends, opening_for}
use Rattle.wt_meaning.specs.Findings.{first_of}
use Rattle.wt_meaning.specs.Halves.{is_closed}
use Rattle.wt_meaning.specs.Handshakes.{last_begun, poll_rows}
use Rattle.wt_meaning.specs.History.{History, Pair, actions_out, answers_reset, hands_out, is_handed_out, is_reset, is_reset_of, was_finished}
use Rattle.wt_meaning.specs.Lawful.{has_request, is_first, is_lawful, is_response, is_waiting, polls}
use Rattle.wt_meaning.specs.Meaning.{next, own_answer, with_pair}
use Rattle.wt_meaning.specs.Moments.{findings}
use Rattle.wt_meaning.specs.Rows.{first_row}
use Rattle.wt_meaning.specs.Sends.{moment_actions}
use Rattle.wt_meaning.specs.Windows.{is_established, is_gone, last_request, lives, named, session_in}
use Rattle.wt_promise.proofs.Accepted.{and-left, and-right, not-true, or-true}
use Rattle.wt_promise.proofs.Asks.{Asks, Begins, Else, ForRequest, GoesOn, Responds, asks}
use Rattle.wt_promise.proofs.Actions.{AnyPiece, any-next}
use Rattle.wt_promise.proofs.Begun.{BegunFor, PolledStream, polled-stream}
use Rattle.wt_promise.proofs.Behind.{neither-acts}
use Rattle.wt_promise.proofs.ControlKept.{begun-not-control, begun-opening, control-kept, control-not-opened, not-peers, polled-k}
use Rattle.wt_promise.proofs.Few.{APoll, AnAccept, SessionCall, gone-later, session-call}
use Rattle.wt_promise.proofs.Flow.{clash}
use Rattle.wt_promise.proofs.Fresh.{client-begun}
use Rattle.wt_promise.proofs.Grows.{is_peers, news}
use Rattle.wt_promise.proofs.HandedOut.{GivesOpened, gives-opened, opened-local}
use Rattle.wt_promise.proofs.Heads.{begun-kept, begun-not-admitted, begun-not-opened}
use Rattle.wt_promise.proofs.MomentActs.{Closing, Control, Going, MomentSends, NewReset, OfClosed, closed-lived, closes_session, moment-resets, moment-sends, or-either}
use Rattle.wt_promise.proofs.OpenStays.{same-news}
use Rattle.wt_promise.proofs.OwnActs.{Ends, Opens, Polls, SendsWhy, Writes}
use Rattle.wt_promise.proofs.OwnCalls.{own-acts}
use Rattle.wt_promise.proofs.Phases.{client-waits, phase, same-established}
use Rattle.wt_promise.proofs.Shapes.{going}
use Rattle.wt_promise.proofs.Shakes.{head_stream}
use Rattle.wt_promise.proofs.Sessions.{Accepted, Connected, PollGives, poll-gives}
use Rattle.wt_promise.proofs.Stays.{any-newest}
use Rattle.wt_promise.proofs.Tables.{by-session, fits, fits-own}
use Rattle.wt_promise.proofs.Verdicts.{accept-admits, admitted-later, admitted-peers}
use Rattle.wt_promise.proofs.WasReset.{Admitted, ByHand, Closed, Later, Opened, WasReset, WithSession, opened-first, was-reset}
use Rattle.wt_promise.specs.Promise.{IsHistory, acts_on, sends_on}
use Rattle.wt_turn.specs.Streams.{local_uni}
use Rattle.wt_turn.specs.declared.action.Action.{Action}
use Rattle.wt_turn.specs.declared.answer.Answer.{Answer}
use Rattle.wt_turn.specs.declared.call.Call.{Call}
use Rattle.wt_turn.specs.declared.reply.Reply.{Reply}
use Rattle.wt_turn.specs.declared.turn.Turn.{Turn}
use Rattle.wt_wire.specs.declared.side.Side.{Side}
use Rattle.wt_wire.specs.declared.side.Side.TheVariants.{Client, Server}
use Rattle.wt_turn.specs.declared.call.Call.TheVariants as calls
use Rattle.wt_turn.specs.declared.reply.Reply.TheVariants as replies
use Rattle.wt_turn.specs.declared.turn.Turn.TheVariants as turns

-- ---- the stream of an established session is one that a connect or a response was for

session-zero : (h : History) (s : ℕ) (turn : Turn) → IsHistory Client h → is_lawful Client h turn ≡ true → session_in (next Client h turn).reply ≡ Some s → s ≡ 0
session-zero h s (turns.Call c) i l e = by c (session-call c (next Client h (turns.Call c)).reply s (fits-own Client h c) e) l e
  where
    of : (o : Option Call) → last_begun h ≡ o → PollGives Client h s (first_row (poll_rows Client h o)) o → s ≡ 0
    of o q (Accepted headers m g) = absurd (let r = client-begun h i (calls.Accept headers) (q ∙ m) in cc r)
    of o q (Connected d m r g) = g.is_zero

    by : (d : Call) → SessionCall d → is_lawful Client h (turns.Call d) ≡ true → session_in (next Client h (turns.Call d)).reply ≡ Some s → s ≡ 0
    by d (AnAccept headers q) m f = absurd (let n = and-right (not (is_first h)) false (ap (λ (x : Call). is_lawful Client h (turns.Call x)) (sym q) ∙ m) in cc n)
    by d (APoll q) m f = of (last_begun h) refl (poll-gives Client h (last_begun h) s (ap (λ (x : Call). session_in (next Client h (turns.Call x)).reply) (sym q) ∙ f))
session-zero h s turn i l e = absurd (cc e)

pub client-zero : (h : History) → IsHistory Client h → (s : ℕ) → is_established h s ≡ true → s ≡ 0
client-zero [] i s e = absurd (cc e)
client-zero (p ∷ h) i s e = by (session_in p.answer.reply) refl (client-zero h i.2 s)
  where
    by : (o : Option ℕ) → session_in p.answer.reply ≡ o → (is_established h s ≡ true → s ≡ 0) → s ≡ 0
    by None q again = again (sym (same-established p h s q) ∙ e)
    by (Some t) q again = of (t == s) refl
      where
        of : (b : Bool) → (t == s) ≡ b → s ≡ 0
        of true x = sym (eqb-true t s x) ∙ session-zero h t p.turn i.2 i.0 (ap (λ (a : Answer). session_in a.reply) (sym i.1) ∙ q)
        of false x = again (let m = rw (q, x) at e in m)

pub established-begun : (side : Side) (h : History) → IsHistory side h → (s : ℕ) → is_established h s ≡ true → BegunFor side h s
established-begun Client h i s e = client-zero h i s e
established-begun Server h i s e = (phase h i).known s e

-- ---- such a stream isn't reset while its session lives

unreset-later : (side : Side) (p : Pair) (h : History) → IsHistory side (p ∷ h) → (k : ℕ) → BegunFor side (p ∷ h) k → (is_established h k ≡ true → is_gone h (findings side h) k ≡ true → ⊥) → WasReset side h k → ⊥
unreset-later side p h i k b f (ByHand e) = clash (is_handed_out (p ∷ h) k) (ap (λ (x : Bool). hands_out k p.answer.reply || x) e ∙ or-true (hands_out k p.answer.reply)) (begun-kept side (p ∷ h) i k b)
unreset-later side p h i k b f (Closed a g) = f a g
unreset-later side p h i k b f (WithSession s (Admitted e) g) = begun-not-admitted side (p ∷ h) i k s b (admitted-later side p h s k e)
unreset-later side p h i k b f (WithSession s (Opened name o n) g) = begun-not-opened side (p ∷ h) i k b name (opened-first side (p ∷ h) i k name (Later p h o))

pub unreset-now : (side : Side) (h : History) → IsHistory side h → (k : ℕ) → BegunFor side h k → (is_established h k ≡ true → is_gone h (findings side h) k ≡ true → ⊥) → WasReset side h k → ⊥
unreset-now side h i k b f (ByHand e) = clash (is_handed_out h k) e (begun-kept side h i k b)
unreset-now side h i k b f (Closed a g) = f a g
unreset-now side h i k b f (WithSession s (Admitted e) g) = begun-not-admitted side h i k s b e
unreset-now side h i k b f (WithSession s (Opened name o n) g) = begun-not-opened side h i k b name (opened-first side h i k name o)

-- the session of a stream that is polled isn't established
pub polled-new : (side : Side) (h : History) (turn : Turn) (c : Call) (k : ℕ) → IsHistory side h → is_lawful side h turn ≡ true → polls turn ≡ true → going h turn ≡ Some c → head_stream h c ≡ k → is_established h k ≡ false
polled-new Client h turn c k i l p g e = by (asks Client h turn l)
  where
    first : (x : History) → is_first x ≡ true → is_established x k ≡ false
    first [] q = refl
    first (y ∷ x) q = absurd (cc q)

    by : Asks Client h turn (next Client h turn).reply → is_established h k ≡ false
    by (Begins d x t q f n m) = first h f
    by (ForRequest x t a n) = absurd (cc x)
    by (Responds d x t r q n) = absurd (cc x)
    by (GoesOn t w n) = client-waits h i w k
    by (Else a b m x n) = absurd (clash (polls turn) p a)
polled-new Server h turn c k i l p g e = by (asks Server h turn l)
  where
    polled : PolledStream Server h c
    polled = polled-stream Server h turn c i l p g

    last : (d : Call) → is_response d ≡ true → head_stream h d ≡ k → unwrap_or (last_request h) 0 ≡ k
    last (calls.Connect options lookup outcome) x s = absurd (cc x)
    last d x s = s

    new : (has_request h || is_waiting h) ≡ true → is_established h k ≡ false
    new w = let a = (phase h i).asked w in ap (is_established h) (sym (last c polled.0 e) ∙ ap (λ (o : Option ℕ). unwrap_or o 0) a.1) ∙ a.2

    by : Asks Server h turn (next Server h turn).reply → is_established h k ≡ false
    by (Begins d x t q f n m) = absurd (cc x)
    by (ForRequest x t a n) = absurd (clash (polls turn) p (ap polls t))
    by (Responds d x t r q n) = new (ap (λ (b : Bool). b || is_waiting h) q)
    by (GoesOn t w n) = new (ap (λ (b : Bool). has_request h || b) w ∙ or-true (has_request h))
    by (Else a b m x n) = absurd (clash (polls turn) p a)

-- ---- a stream that is being opened isn't handed out

-- a poll of an opening gives the stream that it names
opened-this : (side : Side) (h : History) (k id : ℕ) (r : Reply) → (next side h (turns.Call (calls.PollOpening id))).reply ≡ r → hands_out k r ≡ true → (id == k) ≡ true
opened-this side h k id r q e =
    ((by-session (GivesOpened side h k id) (named h None) (λ (s : ℕ). opening_for side h id (being_opened h id)) (λ x. absurd (cc x)) (λ s x. record { first = gives-opened side h k id (being_opened h id) refl })).first (ap (hands_out k) q ∙ e)).0

-- a reply that hands out a stream of this end ends its opening
ends-by : (side : Side) (h : History) (k : ℕ) (call : Call) (r : Reply) → (next side h (turns.Call call)).reply ≡ r → fits call r ≡ true → is_peers side k ≡ false → hands_out k r ≡ true → opening_ends k (turns.Call call) r ≡ true
ends-by side h k (calls.AcceptUni name) r q f n e = absurd (let a = accept-admits side h k (calls.AcceptUni name) r q f refl e in clash (is_peers side k) (admitted-peers side h a.0 k a.1) n)
ends-by side h k (calls.AcceptBi name) r q f n e = absurd (let a = accept-admits side h k (calls.AcceptBi name) r q f refl e in clash (is_peers side k) (admitted-peers side h a.0 k a.1) n)
ends-by side h k (calls.PollOpening id) (replies.SendReady j) q f n e = opened-this side h k id (replies.SendReady j) q e
ends-by side h k (calls.PollOpening id) (replies.BiReady j) q f n e = opened-this side h k id (replies.BiReady j) q e
ends-by side h k call (replies.Uni id) q f n e = absurd (cc f)
ends-by side h k call (replies.Bi id) q f n e = absurd (cc f)
ends-by side h k call (replies.SendReady id) q f n e = absurd (cc f)
ends-by side h k call (replies.BiReady id) q f n e = absurd (cc f)
ends-by side h k call r q f n e = absurd (cc e)

pub opening-over : (side : Side) (h : History) → IsHistory side h → (k : ℕ) → is_peers side k ≡ false → is_handed_out h k ≡ true → list_any (λ (p : Pair). opening_ends k p.turn p.answer.reply) h ≡ true
opening-over side [] i k n e = absurd (cc e)
opening-over side (p ∷ h) i k n e =
    or-either {P = list_any (λ (q : Pair). opening_ends k q.turn q.answer.reply) (p ∷ h) ≡ true} (hands_out k p.answer.reply) (is_handed_out h k) e
    (λ x. ap (λ (b : Bool). b || list_any (λ (q : Pair). opening_ends k q.turn q.answer.reply) h)
    (ap (λ (a : Answer). opening_ends k p.turn a.reply) i.1 ∙ here p.turn (ap (λ (a : Answer). hands_out k a.reply) (sym i.1) ∙ x)))
    (λ x. ap (λ (b : Bool). opening_ends k p.turn p.answer.reply || b) (opening-over side h i.2 k n x) ∙ or-true (opening_ends k p.turn p.answer.reply))
  where
    here : (turn : Turn) → hands_out k (next side h turn).reply ≡ true → opening_ends k turn (next side h turn).reply ≡ true
    here (turns.Call call) q = ends-by side h k call (next side h (turns.Call call)).reply refl (fits-own side h call) n q
    here turn q = absurd (cc q)

-- ---- nothing is sent on it

pub silent-opening : (side : Side) (h : History) → IsHistory side h → (k : ℕ) (name : Option ℕ) (s : ℕ) → being_opened h k ≡ Some name → named h name ≡ Some s → is_living side h s ≡ true → WasReset side h k → ⊥
silent-opening side h i k name s o m l (ByHand e) = none (list_any (λ (p : Pair). opening_ends k p.turn p.answer.reply) h) (opening-over side h i k (opened-local side h i k (ap is_some (begun-opening h k name o))) e) o
  where
    none : (b : Bool) → b ≡ true → (if b then None else first_of (λ (p : Pair). opened_by k p.turn p.answer.reply) h) ≡ Some name → ⊥
    none true q x = cc x
    none false q x = cc q
silent-opening side h i k name s o m l (Closed a g) = begun-not-opened side h i k (established-begun side h i k a) name (begun-opening h k name o)
silent-opening side h i k name s o m l (WithSession t (Admitted e) g) = clash (is_peers side k) (admitted-peers side h t k e) (opened-local side h i k (ap is_some (begun-opening h k name o)))
silent-opening side h i k name s o m l (WithSession t (Opened other x n) g) =
    let a : Some other ≡ Some name = sym (opened-first side h i k other x) ∙ begun-opening h k name o in
    let b : other ≡ name = cc a in
    let c : Some t ≡ Some s = sym n ∙ ap (named h) b ∙ m in
    let d : t ≡ s = cc c in
    clash (is_gone h (findings side h) s) (ap (is_gone h (findings side h)) (sym d) ∙ g) (not-true (is_gone h (findings side h) s) (and-right (is_established h s) _ l))

pub silent-control : (side : Side) (h : History) → IsHistory side h → WasReset side h (local_uni side) → ⊥
silent-control side h i (ByHand e) = clash (is_handed_out h (local_uni side)) e (control-kept side h i)
silent-control side h i (Closed a g) = begun-not-control side h i (established-begun side h i (local_uni side) a)
silent-control side h i (WithSession s (Admitted e) g) = not-peers side (admitted-peers side h s (local_uni side) e)
silent-control side h i (WithSession s (Opened name o n) g) = control-not-opened side h i (ap is_some (opened-first side h i (local_uni side) name o))

-- a call
silent-call : (side : Side) (h : History) (turn : Turn) (k : ℕ) → IsHistory side h → is_lawful side h turn ≡ true → list_any (is_reset_of k) (actions_out h) ≡ true → SendsWhy side h k turn → ⊥
silent-call side h turn k i l r (Writes ha n) = clash (is_closed h k) closed n
  where
    closed : is_closed h k ≡ true
    closed = ap (λ (b : Bool). was_finished h k || (b || list_any (λ (p : Pair). answers_reset k p.turn p.answer.reply) h)) r ∙ or-true (was_finished h k)
silent-call side h turn k i l r (Polls c p g e) =
    unreset-now side h i k (polled-k side h i c k (polled-stream side h turn c i l p g) e) (λ a x. clash (is_established h k) a (polled-new side h turn c k i l p g e)) (was-reset side h i k r)
silent-call side h turn k i l r (Opens name s o m a) = silent-opening side h i k name s o m a (was-reset side h i k r)
silent-call side h turn k i l r (Ends a) =
    unreset-now side h i k (established-begun side h i k (and-left (is_established h k) _ a)) (λ x g. clash (is_gone h (findings side h) k) g (not-true (is_gone h (findings side h) k) (and-right (is_established h k) _ a))) (was-reset side h i k r)

-- a moment
silent-moment : (side : Side) (h : History) (turn : Turn) (k : ℕ) → IsHistory side h → is_lawful side h turn ≡ true → list_any (is_reset_of k) (actions_out h) ≡ true
    → MomentSends side (record { turn = turn; answer = own_answer side h turn }) h k → ⊥
silent-moment side h turn k i l r (Control e) = silent-control side h i (subst (WasReset side h) (sym (eqb-true (local_uni side) k e)) (was-reset side h i k r))
silent-moment side h turn k i l r (OfClosed e) =
    unreset-later side p h (l, refl, i) k (established-begun side (p ∷ h) (l, refl, i) k (and-left (is_established (p ∷ h) k) _ lived))
    (λ a g. clash (is_gone (p ∷ h) (findings side h) k) (gone-later p h (findings side h) k g) (not-true (is_gone (p ∷ h) (findings side h) k) (and-right (is_established (p ∷ h) k) _ lived))) (was-reset side h i k r)
  where
    p : Pair
    p = record { turn = turn; answer = next side h turn }

    lived : lives (p ∷ h) (findings side h) k ≡ true
    lived = closed-lived side p h k (ap (list_any (closes_session k)) (sym (same-news side h turn)) ∙ e)

-- ---- nor is it reset once more

reset-once : (side : Side) (h : History) (turn : Turn) (k : ℕ) → IsHistory side h → is_lawful side h turn ≡ true → list_any (is_reset_of k) (actions_out h) ≡ true
    → NewReset (with_pair h turn (own_answer side h turn)) k (findings side (with_pair h turn (own_answer side h turn))) (news side (record { turn = turn; answer = own_answer side h turn }) h) → ⊥
reset-once side h turn k i l r (Closing c) = silent-moment side h turn k i l r (OfClosed c)
reset-once side h turn k i l r (Going s m o n) = clash (is_reset (with_pair h turn (own_answer side h turn)) k) later n
  where
    own : Answer
    own = own_answer side h turn

    later : is_reset (with_pair h turn own) k ≡ true
    later =
        ap (λ (b : Bool). b || (answers_reset k turn own.reply || list_any (λ (p : Pair). answers_reset k p.turn p.answer.reply) h))
        (any-newest (is_reset_of k) own.actions (actions_out h) ∙ ap (λ (b : Bool). list_any (is_reset_of k) own.actions || b) r ∙ or-true (list_any (is_reset_of k) own.actions))

-- where no part of its actions can pass a test, none of them does
pub none-next : (test : Action → Bool) → AnyPiece test → (side : Side) (h : History) (turn : Turn) → (list_any test (own_answer side h turn).actions ≡ true → ⊥)
    → (list_any test (moment_actions side (with_pair h turn (own_answer side h turn))) ≡ true → ⊥) → list_any test (next side h turn).actions ≡ false
none-next test any side h turn f g = by (list_any test (next side h turn).actions) refl
  where
    by : (b : Bool) → list_any test (next side h turn).actions ≡ b → b ≡ false
    by false q = refl
    by true q = absurd (or-either {P = ⊥} (list_any test (own_answer side h turn).actions) (list_any test (moment_actions side (with_pair h turn (own_answer side h turn)))) (sym (any-next test any side h turn) ∙ q) f g)

-- so it is in every later answer
pub silent-later : (side : Side) (h : History) (turn : Turn) → IsHistory side h → is_lawful side h turn ≡ true → (k : ℕ) → list_any (is_reset_of k) (actions_out h) ≡ true → list_any (acts_on k) (next side h turn).actions ≡ false
silent-later side h turn i l k r =
    neither-acts k (next side h turn).actions
    (none-next (sends_on k) (λ j x y. refl) side h turn (λ x. silent-call side h turn k i l r ((own-acts side h k turn i l).sends x))
    (λ x. silent-moment side h turn k i l r (moment-sends side (record { turn = turn; answer = own_answer side h turn }) h k x)))
    (none-next (is_reset_of k) (λ j x y. refl) side h turn
    (λ x. clash (is_reset h k) (ap (λ (b : Bool). b || list_any (λ (p : Pair). answers_reset k p.turn p.answer.reply) h) r) ((own-acts side h k turn i l).once x))
    (λ x. reset-once side h turn k i l r (moment-resets side (record { turn = turn; answer = own_answer side h turn }) h k x)))
