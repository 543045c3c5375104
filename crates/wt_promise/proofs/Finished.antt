-- Nothing is sent on a stream after its finish.
use Rattle.std.specs.Prelude.{[], ◌++◌, ◌==◌, ◌∷◌, ◌||◌, ◌≡◌, ◌≤◌, Bool, List, None, Option, Some, codes, drop, false, if◌then◌else◌, is_some, length, not, take, true, unwrap_or, ℕ}
use Rattle.std.specs.List.{list_any}
use Rattle.std.specs.Option.{option_or}
use Rattle.std.proofs.Common.{◌∙◌, ap, refl, subst, sym}
use Rattle.std.proofs.lemmas.Bool.{eq-eqb, eqb-true}
use Rattle.std.proofs.Math.Seq.{take-nil}
use Rattle.std.proofs.lemmas.List.{drop_all}
use Rattle.std.proofs.lemmas.List.Folds.{list_any-append}
use Rattle.wt_meaning.specs.Calls.{is_living, opened_by, opening_ends}
use Rattle.wt_meaning.specs.Findings.{Finding, first_of}
use Rattle.wt_meaning.specs.Halves.{is_closed}
use Rattle.wt_meaning.specs.Handshakes.{head_left, is_refused, lacks_credit, last_begun, none_lives, poll_rows, rejection, send}
use Rattle.wt_meaning.specs.History.{History, Pair, actions_out, credit_left, hands_out, is_handed_out, is_open, is_reset, out, was_finished}
use Rattle.wt_meaning.specs.Lawful.{is_lawful, is_response, polls}
use Rattle.wt_meaning.specs.Meaning.{next, own_answer, with_pair}
use Rattle.wt_meaning.specs.Moments.{findings}
use Rattle.wt_meaning.specs.Rows.{first_row}
use Rattle.wt_meaning.specs.Sends.{actions_for_all, close_if_open, control_actions, moment_actions, session_gone_actions}
use Rattle.wt_meaning.specs.Windows.{is_established, is_gone, is_number, last_request, lives, request_in, session_in}
use Rattle.wt_message.specs.FixedBytes.{response_bytes}
use Rattle.wt_promise.proofs.Accepted.{and-left, and-right, not-true, or-true}
use Rattle.wt_promise.proofs.Actions.{any-next, none-append, none-control, none-if}
use Rattle.wt_promise.proofs.Begun.{BegunFor, begun-for, begun-stays, last_stream, polled-stream}
use Rattle.wt_promise.proofs.ControlKept.{begun-not-control, begun-opening, control-kept, polled-k}
use Rattle.wt_promise.proofs.Datagrams.{numbered}
use Rattle.wt_promise.proofs.Established.{established-rightly}
use Rattle.wt_promise.proofs.Few.{APoll, AnAccept, SessionCall, gone-later, session-call}
use Rattle.wt_promise.proofs.Flow.{clash}
use Rattle.wt_promise.proofs.Flows.{polled-begun, polled-last}
use Rattle.wt_promise.proofs.Grows.{news, news-dropped}
use Rattle.wt_promise.proofs.HandedOut.{opened-local}
use Rattle.wt_promise.proofs.HeadFinish.{ByFinish, ByHand, EndsSession, FinishWhy, OfSession, Responds, WasFinished, Whole, fin-sends, finish-handed, finishes-rejection, is-rejection, polled-own, responds-server, was-finished, why-own}
use Rattle.wt_promise.proofs.Heads.{begun-kept, begun-not-opened}
use Rattle.wt_promise.proofs.MomentActs.{Control, MomentSends, OfClosed, all-sends, closed-lived, closes_session, moment-sends, or-either}
use Rattle.wt_promise.proofs.OpenStays.{same-news}
use Rattle.wt_promise.proofs.Opened.{pair-is}
use Rattle.wt_promise.proofs.OwnActs.{Ends, Opens, Polls, SendsWhy, Writes, gone-sends-not}
use Rattle.wt_promise.proofs.OwnCalls.{own-acts}
use Rattle.wt_promise.proofs.Phases.{same-established}
use Rattle.wt_promise.proofs.Shakes.{head_stream}
use Rattle.wt_promise.proofs.Shapes.{going}
use Rattle.wt_promise.proofs.Silent.{established-begun, none-next, opening-over, polled-new}
use Rattle.wt_promise.proofs.Stays.{any-newest}
use Rattle.wt_promise.proofs.Tables.{OfRows, by-row, fits-own, no-row}
use Rattle.wt_promise.proofs.OwnForms.{head_of}
use Rattle.wt_promise.specs.Promise.{EstablishedFor, IsHistory, begun_on, is_acceptance, sends_on}
use Rattle.wt_turn.specs.Joined.{send_of}
use Rattle.wt_turn.specs.Sent.{finishes}
use Rattle.wt_turn.specs.Streams.{local_uni}
use Rattle.wt_turn.specs.declared.answer.Answer.{Answer}
use Rattle.wt_turn.specs.declared.call.Call.{Call}
use Rattle.wt_turn.specs.declared.reply.Reply.{Reply}
use Rattle.wt_turn.specs.declared.turn.Turn.{Turn}
use Rattle.wt_wire.specs.declared.side.Side.{Side}
use Rattle.wt_wire.specs.declared.side.Side.TheVariants.{Client, Server}
use Rattle.wt_turn.specs.declared.action.Action.TheVariants as actions
use Rattle.wt_turn.specs.declared.call.Call.TheVariants as calls
use Rattle.wt_turn.specs.declared.reply.Reply.TheVariants as replies
use Rattle.wt_turn.specs.declared.turn.Turn.TheVariants as turns

-- ---- a moment finishes the stream of a session that its peer closed

pub moment-finishes : (side : Side) (p : Pair) (h : History) (k : ℕ) → list_any (finishes k) (moment_actions side (p ∷ h)) ≡ true → list_any (closes_session k) (news side p h) ≡ true
moment-finishes side p h k e = by (is_open (p ∷ h)) e
  where
    new : List Finding
    new = drop (length (findings side h)) (findings side (p ∷ h))

    by : (b : Bool) → list_any (finishes k) (if b then control_actions side (p ∷ h) ++ actions_for_all side (p ∷ h) (findings side h) new else []) ≡ true → list_any (closes_session k) (news side p h) ≡ true
    by true x =
        or-either {P = list_any (closes_session k) (news side p h) ≡ true} (list_any (finishes k) (control_actions side (p ∷ h))) (list_any (finishes k) (actions_for_all side (p ∷ h) (findings side h) new))
        (sym (list_any-append (finishes k) (control_actions side (p ∷ h)) (actions_for_all side (p ∷ h) (findings side h) new)) ∙ x)
        (λ y. absurd (clash (list_any (finishes k) (control_actions side (p ∷ h))) y (none-control (finishes k) side (p ∷ h) refl (λ z. refl))))
        (λ y. ap (list_any (closes_session k)) (sym (news-dropped side p h)) ∙ all-sends side (p ∷ h) k (findings side h) new (fin-sends k (actions_for_all side (p ∷ h) (findings side h) new) y))
    by false x = absurd (cc x)

-- ---- this end's control stream isn't finished

pub control-answer : (side : Side) (h : History) (turn : Turn) → IsHistory side h → is_lawful side h turn ≡ true → list_any (finishes (local_uni side)) (next side h turn).actions ≡ true → ⊥
control-answer side h turn i l e =
    or-either {P = ⊥} (list_any (finishes k) own.actions) (list_any (finishes k) (moment_actions side (with_pair h turn own))) (sym (any-next (finishes k) (λ j x y. refl) side h turn) ∙ e)
    (λ x. by-call x (why-own side h k turn x))
    (λ x. begun-not-control side (p ∷ h) (l, refl, i) (established-begun side (p ∷ h) (l, refl, i) k
    (and-left (is_established (p ∷ h) k) _ (closed-lived side p h k (ap (list_any (closes_session k)) (sym (same-news side h turn)) ∙ moment-finishes side (record { turn = turn; answer = own }) h k x)))))
  where
    k : ℕ
    k = local_uni side

    own : Answer
    own = own_answer side h turn

    p : Pair
    p = record { turn = turn; answer = next side h turn }

    by-call : list_any (finishes (local_uni side)) own.actions ≡ true → FinishWhy side h (local_uni side) turn → ⊥
    by-call x (ByFinish id t q) =
        clash (is_handed_out h (local_uni side)) (ap (is_handed_out h) (sym q) ∙ finish-handed side h (local_uni side) id (ap (λ (y : Turn). list_any (finishes (local_uni side)) (own_answer side h y).actions) (sym t) ∙ x)) (control-kept side h i)
    by-call x (EndsSession name t m o q) = begun-not-control side h i (established-begun side h i (local_uni side) (and-left (is_established h (local_uni side)) _ q))
    by-call x (Responds c q g r s) = begun-not-control side h i (polled-k side h i c (local_uni side) (polled-stream side h turn c i l q g) s)

control-unfinished : (side : Side) (h : History) → IsHistory side h → was_finished h (local_uni side) ≡ true → ⊥
control-unfinished side [] i e = cc e
control-unfinished side (p ∷ h) i e =
    or-either {P = ⊥} (list_any (finishes (local_uni side)) p.answer.actions) (was_finished h (local_uni side)) (sym (any-newest (finishes (local_uni side)) p.answer.actions (actions_out h)) ∙ e)
    (λ x. control-answer side h p.turn i.2 i.0 (ap (λ (a : Answer). list_any (finishes (local_uni side)) a.actions) (sym i.1) ∙ x))
    (control-unfinished side h i.2)

-- ---- the request of an established session was accepted

accepted-call : (c : Call) → is_acceptance (Some c) ≡ true → is-rejection c ≡ false
accepted-call (calls.Accept headers) e = refl
accepted-call c e = absurd (cc e)

session-polls : (h : History) (turn : Turn) (s : ℕ) → session_in (next Server h turn).reply ≡ Some s → polls turn ≡ true
session-polls h (turns.Call c) s e = by c (session-call c (next Server h (turns.Call c)).reply s (fits-own Server h c) e)
  where
    by : (d : Call) → SessionCall d → polls (turns.Call d) ≡ true
    by d (AnAccept headers q) = ap (λ (x : Call). polls (turns.Call x)) q
    by d (APoll q) = ap (λ (x : Call). polls (turns.Call x)) q
session-polls h turn s e = absurd (cc e)

no-request : (r : Reply) (s : ℕ) → session_in r ≡ Some s → request_in r ≡ None
no-request (replies.Session id) s e = refl
no-request r s e = absurd (cc e)

-- the response that was begun on its stream
record Accepted (h : History) (s : ℕ) : Type 0 where
  call : Call
  begun : begun_on h s ≡ Some call
  accepts : is-rejection call ≡ false

established-now : (h : History) (turn : Turn) (s : ℕ) → IsHistory Server h → is_lawful Server h turn ≡ true → session_in (next Server h turn).reply ≡ Some s → Accepted (with_pair h turn (next Server h turn)) s
established-now h turn s i l e = by (going h turn) refl accepts
  where
    p : Pair
    p = record { turn = turn; answer = next Server h turn }

    x : EstablishedFor Server h (p ∷ h) s
    x = established-rightly Server h turn i l s e

    accepts : is_acceptance (last_begun (p ∷ h)) ≡ true
    accepts = and-right (is_number s (last_request (p ∷ h))) _ x.asked

    last : last_stream h ≡ s
    last =
        let later = numbered s (last_request (p ∷ h)) (and-left (is_number s (last_request (p ∷ h))) _ x.asked) in
        ap (λ (o : Option ℕ). unwrap_or o 0) (sym (ap (λ (o : Option ℕ). option_or o (last_request h)) (no-request (next Server h turn).reply s e)) ∙ later)

    by : (o : Option Call) → going h turn ≡ o → is_acceptance (last_begun (p ∷ h)) ≡ true → Accepted (p ∷ h) s
    by (Some c) g a = record { call = c; begun = ap (begun_on (p ∷ h)) (sym last) ∙ polled-begun Server p h (l, refl, i) c (session-polls h turn s e) g; accepts = accepted-call c (ap is_acceptance (sym g) ∙ a) }
    by None g a = absurd (let q = ap is_acceptance (sym g) ∙ a in cc q)

established-accepts : (h : History) → IsHistory Server h → (s : ℕ) → is_established h s ≡ true → Accepted h s
established-accepts [] i s e = absurd (cc e)
established-accepts (p ∷ h) i s e = by (session_in p.answer.reply) refl (established-accepts h i.2 s)
  where
    on : Accepted h s → Accepted (p ∷ h) s
    on a = record { call = a.call; begun = begun-stays p h s a.call a.begun; accepts = a.accepts }

    by : (o : Option ℕ) → session_in p.answer.reply ≡ o → (is_established h s ≡ true → Accepted h s) → Accepted (p ∷ h) s
    by None q again = on (again (sym (same-established p h s q) ∙ e))
    by (Some t) q again = of (t == s) refl
      where
        of : (b : Bool) → (t == s) ≡ b → Accepted (p ∷ h) s
        of true x =
            subst (λ (y : Pair). Accepted (y ∷ h) s) (pair-is p (next Server h p.turn) i.1)
            (established-now h p.turn s i.2 i.0 (ap (λ (a : Answer). session_in a.reply) (sym i.1) ∙ q ∙ ap (λ (n : ℕ). Some n) (eqb-true t s x)))
        of false x = on (again (let m = rw (q, x) at e in m))

-- a rejected request establishes none
rejected-not : (side : Side) (h : History) → IsHistory side h → (k : ℕ) (c : Call) → side ≡ Server → begun_on h k ≡ Some c → is-rejection c ≡ true → is_established h k ≡ true → ⊥
rejected-not Client h i k c x b r e = cc x
rejected-not Server h i k c x b r e =
    let a = established-accepts h i k e in let same : Some c ≡ Some a.call = sym b ∙ a.begun in let one : c ≡ a.call = cc same in
    clash (is-rejection c) r (ap is-rejection one ∙ a.accepts)

-- ---- a rejection that was finished sends nothing more

no-close : (k : ℕ) (h : History) (code : ℕ) → list_any (sends_on k) (close_if_open h code) ≡ false
no-close k h code = none-if (sends_on k) (is_open h) (actions.Close code []) refl

nothing-left : (h : History) (s k : ℕ) (left : List ℕ) → left ≡ [] → list_any (sends_on k) (send h s left) ≡ false
nothing-left h s k left e = ap (λ (l : List ℕ). list_any (sends_on k) (send_of s (take (credit_left h s) l))) e ∙ ap (λ (l : List ℕ). list_any (sends_on k) (send_of s l)) (take-nil (credit_left h s))

rejection-quiet : (side : Side) (h : History) (digits : List ℕ) (k : ℕ) → head_left h (unwrap_or (last_request h) 0) (response_bytes digits) ≡ [] → was_finished h (unwrap_or (last_request h) 0) ≡ true
    → OfRows (λ (a : Answer). list_any (sends_on k) a.actions ≡ false) (rejection side h digits)
rejection-quiet side h digits k e f =
    by-row P (not (is_open h)) replies.Rejected [] _ (λ q. refl)
    (λ q. by-row P (is_refused h s left) replies.Rejected (session_gone_actions side h (findings side h) s ++ close_if_open h 0x104) _
    (λ x. none-append (sends_on k) (session_gone_actions side h (findings side h) s) (close_if_open h 0x104) (gone-sends-not side h (findings side h) s k) (no-close k h 0x104))
    (λ x. by-row P (lacks_credit h s left) replies.Pending (send h s left) _ (λ y. nothing-left h s k left e)
    (λ y. by-row P (not (was_finished h s)) replies.Pending (send h s left ++ actions.Finish s ∷ []) _ (λ z. absurd (clash (was_finished h s) f (not-true (was_finished h s) z)))
    (λ z. by-row P _ replies.Rejected _ [] (λ w. none-append (sends_on k) (session_gone_actions side h (findings side h) s) (if none_lives side h then close_if_open h 0 else []) (gone-sends-not side h (findings side h) s k) (last (none_lives side h)))
    (λ w. no-row P refl)))))
  where
    last : (b : Bool) → list_any (sends_on k) (if b then close_if_open h 0 else []) ≡ false
    last true = no-close k h 0
    last false = refl

    s : ℕ
    s = unwrap_or (last_request h) 0

    left : List ℕ
    left = head_left h s (response_bytes digits)

    P : Answer → Type 0
    P a = list_any (sends_on k) a.actions ≡ false

rejection-response : (c : Call) → is-rejection c ≡ true → is_response c ≡ true
rejection-response calls.Forbidden e = refl
rejection-response calls.NotFound e = refl
rejection-response calls.TooManyRequests e = refl
rejection-response c e = absurd (cc e)

polled-quiet : (side : Side) (h : History) (c : Call) (k : ℕ) → is-rejection c ≡ true → head_left h (head_stream h c) (head_of (Some c)) ≡ [] → was_finished h (head_stream h c) ≡ true → list_any (sends_on k) (first_row (poll_rows side h (Some c))).actions ≡ false
polled-quiet side h calls.Forbidden k r e f = (rejection-quiet side h (codes "403") k e f).first
polled-quiet side h calls.NotFound k r e f = (rejection-quiet side h (codes "404") k e f).first
polled-quiet side h calls.TooManyRequests k r e f = (rejection-quiet side h (codes "429") k e f).first
polled-quiet side h c k r e f = absurd (cc r)

-- ---- nothing is sent later

module _ (side : Side) (h : History) (turn : Turn) (i : IsHistory side h) (l : is_lawful side h turn ≡ true) (k : ℕ) (n : (k == local_uni side) ≡ false) (e : was_finished h k ≡ true) where
  own : Answer
  own = own_answer side h turn

  abbrev p : Pair
  p = record { turn = turn; answer = next side h turn }

  all : IsHistory side (p ∷ h)
  all = (l, refl, i)

  handed-begun : is_handed_out h k ≡ true → BegunFor side h k → ⊥
  handed-begun x b = clash (is_handed_out h k) x (begun-kept side h i k b)

  dead : is_established h k ≡ true → is_gone h (findings side h) k ≡ true → is_living side h k ≡ true → ⊥
  dead x g a = clash (is_gone h (findings side h) k) g (not-true (is_gone h (findings side h) k) (and-right (is_established h k) _ a))

  no-call : SendsWhy side h k turn → list_any (sends_on k) (own_answer side h turn).actions ≡ true → WasFinished side h k → ⊥
  no-call (Writes ha c) x w = clash (is_closed h k) (ap (λ (b : Bool). b || is_reset h k) e) c
  no-call (Ends a) x (ByHand y) = handed-begun y (established-begun side h i k (and-left (is_established h k) _ a))
  no-call (Ends a) x (OfSession y g) = dead y g a
  no-call (Ends a) x (Whole c z b r m) = rejected-not side h i k c z b r (and-left (is_established h k) _ a)
  no-call (Opens name s o m a) x (ByHand y) = none (list_any (λ (q : Pair). opening_ends k q.turn q.answer.reply) h) (opening-over side h i k (opened-local side h i k (ap is_some (begun-opening h k name o))) y) o
    where
      none : (b : Bool) → b ≡ true → (if b then None else first_of (λ (q : Pair). opened_by k q.turn q.answer.reply) h) ≡ Some name → ⊥
      none true q z = cc z
      none false q z = cc q
  no-call (Opens name s o m a) x (OfSession y g) = begun-not-opened side h i k (established-begun side h i k y) name (begun-opening h k name o)
  no-call (Opens name s o m a) x (Whole c z b r t) = begun-not-opened side h i k (begun-for side h i k c b) name (begun-opening h k name o)
  no-call (Polls c q g t) x (ByHand y) = handed-begun y (polled-k side h i c k (polled-stream side h turn c i l q g) t)
  no-call (Polls c q g t) x (OfSession y z) = clash (is_established h k) y (polled-new side h turn c k i l q g t)
  no-call (Polls c q g t) x (Whole d z b r m) =
      clash (list_any (sends_on k) (own_answer side h turn).actions) x
      (ap (λ (a : Answer). list_any (sends_on k) a.actions) (polled-own side h turn c q g (rejection-response c rejects)) ∙ polled-quiet side h c k rejects nothing (ap (was_finished h) t ∙ e))
    where
      last : last_stream h ≡ k
      last = polled-last side h i c k (polled-stream side h turn c i l q g) t

      one : d ≡ c
      one = let same : Some d ≡ Some c = sym (begun-stays p h k d b) ∙ ap (begun_on (p ∷ h)) (sym last) ∙ polled-begun side p h all c q g in cc same

      rejects : is-rejection c ≡ true
      rejects = ap is-rejection (sym one) ∙ r

      nothing : head_left h (head_stream h c) (head_of (Some c)) ≡ []
      nothing = ap (λ (j : ℕ). drop (length (out h j)) (head_of (Some c))) t ∙ drop_all (length (out h k)) (head_of (Some c)) (subst (λ (y : Call). length (head_of (Some y)) ≤ length (out h k)) one m)

  no-moment : MomentSends side (record { turn = turn; answer = own_answer side h turn }) h k → WasFinished side h k → ⊥
  no-moment (Control q) w = clash (k == local_uni side) (eq-eqb k (local_uni side) (sym (eqb-true (local_uni side) k q))) n
  no-moment (OfClosed q) w = by w
    where
      lived : lives (p ∷ h) (findings side h) k ≡ true
      lived = closed-lived side p h k (ap (list_any (closes_session k)) (sym (same-news side h turn)) ∙ q)

      stands : is_established (p ∷ h) k ≡ true
      stands = and-left (is_established (p ∷ h) k) _ lived

      by : WasFinished side h k → ⊥
      by (ByHand y) = clash (is_handed_out (p ∷ h) k) (ap (λ (b : Bool). hands_out k (next side h turn).reply || b) y ∙ or-true (hands_out k (next side h turn).reply)) (begun-kept side (p ∷ h) all k (established-begun side (p ∷ h) all k stands))
      by (OfSession y g) = clash (is_gone (p ∷ h) (findings side h) k) (gone-later p h (findings side h) k g) (not-true (is_gone (p ∷ h) (findings side h) k) (and-right (is_established (p ∷ h) k) _ lived))
      by (Whole c z b r m) = rejected-not side (p ∷ h) all k c z (begun-stays p h k c b) r stands

  silent : list_any (sends_on k) (next side h turn).actions ≡ false
  silent = none-next (sends_on k) (λ j x y. refl) side h turn
      (λ x. no-call ((own-acts side h k turn i l).sends x) x (was-finished side h i k n e))
      (λ x. no-moment (moment-sends side (record { turn = turn; answer = own_answer side h turn }) h k x) (was-finished side h i k n e))

pub silent-later : (side : Side) (h : History) (turn : Turn) → IsHistory side h → is_lawful side h turn ≡ true → (k : ℕ) → was_finished h k ≡ true → list_any (sends_on k) (next side h turn).actions ≡ false
silent-later side h turn i l k e = by (k == local_uni side) refl
  where
    by : (b : Bool) → (k == local_uni side) ≡ b → list_any (sends_on k) (next side h turn).actions ≡ false
    by false n = silent side h turn i l k n e
    by true n = absurd (control-unfinished side h i (ap (was_finished h) (sym (eqb-true k (local_uni side) n)) ∙ e))

-- a response that is finished now establishes none
pub rejected-polled : (side : Side) (h : History) (turn : Turn) → IsHistory side h → is_lawful side h turn ≡ true → (k : ℕ) (c : Call) → polls turn ≡ true → going h turn ≡ Some c → is_response c ≡ true → head_stream h c ≡ k
    → list_any (finishes k) (own_answer side h turn).actions ≡ true → is_established (with_pair h turn (next side h turn)) k ≡ true → ⊥
rejected-polled side h turn i l k c q g r t x e =
    rejected-not side (with_pair h turn (next side h turn)) (l, refl, i) k c (responds-server side h turn c i l q g r)
    (ap (begun_on (with_pair h turn (next side h turn))) (sym (polled-last side h i c k (polled-stream side h turn c i l q g) t)) ∙ polled-begun side (record { turn = turn; answer = next side h turn }) h (l, refl, i) c q g)
    (finishes-rejection side h turn k c q g r x) e
