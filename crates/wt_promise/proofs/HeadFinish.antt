-- A stream that was finished is one that was handed out, that of a session, or has all of its response out.
use Rattle.std.specs.Prelude.{[], ◌&&◌, ◌++◌, ◌==◌, ◌||◌, ◌∷◌, ◌≡◌, ◌≤◌, Bool, List, None, Option, Some, codes, false, if◌then◌else◌, is_some, length, not, take, true, unwrap_or, ℕ}
use Rattle.std.specs.List.{list_any}
use Rattle.std.proofs.Common.{◌∙◌, ap, arith, length-append, refl, subst, sym}
use Rattle.std.proofs.lemmas.Bool.{eq-eqb, eqb-true, not-false}
use Rattle.std.proofs.lemmas.List.{length-drop}
use Rattle.std.proofs.lemmas.List.Folds.{list_any-append}
use Rattle.wt_meaning.specs.Calls.{in_session, is_living, stream_header}
use Rattle.wt_meaning.specs.Findings.{Finding}
use Rattle.wt_meaning.specs.Halves.{finish, has_sending}
use Rattle.wt_meaning.specs.Handshakes.{acceptance_frame, head_left, is_opened, is_refused, lacks_credit, none_lives, poll_rows, rejection, send}
use Rattle.wt_meaning.specs.History.{History, Pair, actions_out, credit_left, events, hands_out, is_handed_out, is_open, out, was_finished}
use Rattle.wt_meaning.specs.Lawful.{is_lawful, is_response, polls}
use Rattle.wt_meaning.specs.Meaning.{next, own_answer, with_pair}
use Rattle.wt_meaning.specs.Moments.{findings}
use Rattle.wt_meaning.specs.Rows.{first_row, row}
use Rattle.wt_meaning.specs.Sends.{action_if, close_if_open, moment_actions, session_finish, session_gone_actions}
use Rattle.wt_meaning.specs.Windows.{establishes, gone_in, is_established, is_gone, is_gone_by_call, is_number, last_request, makes_gone, named}
use Rattle.wt_message.specs.FixedBytes.{response_bytes}
use Rattle.wt_promise.proofs.OwnForms.{head_of}
use Rattle.wt_promise.proofs.Accepted.{and-left, or-left, or-true}
use Rattle.wt_promise.proofs.Actions.{any-next, none-append, none-gone, none-if, none-sent}
use Rattle.wt_promise.proofs.Begun.{begun-stays, last_stream, polled-stream}
use Rattle.wt_promise.proofs.BytesOut.{bytes-sent, bytes_on, out-add}
use Rattle.wt_promise.proofs.ControlKept.{own-bytes}
use Rattle.wt_promise.proofs.Flow.{clash, swapped, take-all-of}
use Rattle.wt_promise.proofs.Flows.{no-left, polled-begun, polled-last}
use Rattle.wt_promise.proofs.Grows.{findings-add, news}
use Rattle.wt_promise.proofs.MomentActs.{Control, MomentSends, OfClosed, closed-gone, closed-lived, closes_session, moment-sends, or-either}
use Rattle.wt_promise.proofs.OpenStays.{same-news}
use Rattle.wt_promise.proofs.Opened.{pair-is}
use Rattle.wt_promise.proofs.Sent.{front-bytes}
use Rattle.wt_promise.proofs.Sessions.{is_connect}
use Rattle.wt_promise.proofs.Shakes.{Finishes, Goes, GoesShuts, Rejects, Shake, Shut, Shuts, Still, head_stream, rest}
use Rattle.wt_promise.proofs.Shapes.{Alone, Ending, Finishing, Handshaking, Nothing, Nought, Polling, Resetting, Shape, Writing, going, shape}
use Rattle.wt_promise.proofs.Stays.{any-newest, gone-stays}
use Rattle.wt_promise.proofs.Tables.{OfRows, by-row, no-row}
use Rattle.wt_promise.specs.Promise.{IsHistory, acts_on, begun_on, sends_on}
use Rattle.wt_turn.specs.Reports.{stop_of}
use Rattle.wt_turn.specs.Sent.{finishes}
use Rattle.wt_turn.specs.Streams.{local_uni}
use Rattle.wt_turn.specs.declared.action.Action.{Action}
use Rattle.wt_turn.specs.declared.answer.Answer.{Answer}
use Rattle.wt_turn.specs.declared.call.Call.{Call}
use Rattle.wt_turn.specs.declared.reply.Reply.{Reply}
use Rattle.wt_turn.specs.declared.turn.Turn.{Turn}
use Rattle.wt_wire.specs.HeaderList.{Fields}
use Rattle.wt_wire.specs.declared.side.Side.{Side}
use Rattle.wt_wire.specs.declared.side.Side.TheVariants.{Client, Server}
use Rattle.wt_turn.specs.declared.action.Action.TheVariants as actions
use Rattle.wt_turn.specs.declared.call.Call.TheVariants as calls
use Rattle.wt_turn.specs.declared.reply.Reply.TheVariants as replies
use Rattle.wt_turn.specs.declared.turn.Turn.TheVariants as turns

-- ---- the rows of a response

-- the own answer to a poll of a response
pub polled-own : (side : Side) (h : History) (turn : Turn) (c : Call) → polls turn ≡ true → going h turn ≡ Some c → is_response c ≡ true → own_answer side h turn ≡ first_row (poll_rows side h (Some c))
polled-own side h (turns.Call calls.Handshake) c p g r = ap (λ (o : Option Call). first_row (poll_rows side h o)) g
polled-own side h (turns.Call (calls.Accept headers)) c p g r = ap (λ (o : Option Call). first_row (poll_rows side h o)) g
polled-own side h (turns.Call calls.Forbidden) c p g r = ap (λ (o : Option Call). first_row (poll_rows side h o)) g
polled-own side h (turns.Call calls.NotFound) c p g r = ap (λ (o : Option Call). first_row (poll_rows side h o)) g
polled-own side h (turns.Call calls.TooManyRequests) c p g r = ap (λ (o : Option Call). first_row (poll_rows side h o)) g
polled-own side h (turns.Call (calls.Connect options lookup outcome)) c p g r = absurd (let q : calls.Connect options lookup outcome ≡ c = cc g in let z : false ≡ true = ap is_response q ∙ r in cc z)
polled-own side h (turns.Call d) c p g r = absurd (cc p)
polled-own side h turn c p g r = absurd (cc p)

pub gone-none : (k : ℕ) (side : Side) (h : History) (s : ℕ) → list_any (finishes k) (session_gone_actions side h (findings side h) s) ≡ false
gone-none k side h s = none-gone (finishes k) (λ j c. refl) (λ j c. refl) side h (findings side h) s

pub close-none : (k : ℕ) (h : History) (code : ℕ) → list_any (finishes k) (close_if_open h code) ≡ false
close-none k h code = none-if (finishes k) (is_open h) (actions.Close code []) refl

pub send-none : (k : ℕ) (h : History) (s : ℕ) (left : List ℕ) → list_any (finishes k) (send h s left) ≡ false
send-none k h s left = none-sent (finishes k) s (take (credit_left h s) left) (λ p. refl)

-- an answer that finishes a stream sends all that was left
abbrev FinishesAll : History → ℕ → ℕ → List ℕ → Answer → Type 0
FinishesAll h k s left a = list_any (finishes k) a.actions ≡ true → (lacks_credit h s left ≡ false) × (bytes_on s a.actions ≡ take (credit_left h s) left)

rejection-all : (side : Side) (h : History) (digits : List ℕ) (k : ℕ) → OfRows (FinishesAll h k (unwrap_or (last_request h) 0) (head_left h (unwrap_or (last_request h) 0) (response_bytes digits))) (rejection side h digits)
rejection-all side h digits k =
    by-row P (not (is_open h)) replies.Rejected [] _ (λ q e. absurd (cc e))
    (λ q. by-row P (is_refused h s left) replies.Rejected (session_gone_actions side h (findings side h) s ++ close_if_open h 0x104) _
    (λ x e. absurd (clash (list_any (finishes k) (session_gone_actions side h (findings side h) s ++ close_if_open h 0x104)) e
    (none-append (finishes k) (session_gone_actions side h (findings side h) s) (close_if_open h 0x104) (gone-none k side h s) (close-none k h 0x104))))
    (λ x. by-row P (lacks_credit h s left) replies.Pending (send h s left) _ (λ y e. absurd (clash (list_any (finishes k) (send h s left)) e (send-none k h s left)))
    (λ y. by-row P (not (was_finished h s)) replies.Pending (send h s left ++ actions.Finish s ∷ []) _
    (λ z e. (y, front-bytes s (send h s left) (actions.Finish s ∷ []) refl ∙ bytes-sent s (take (credit_left h s) left)))
    (λ z. by-row P _ replies.Rejected _ [] (λ w e. absurd (clash (list_any (finishes k) (session_gone_actions side h (findings side h) s ++ (if none_lives side h then close_if_open h 0 else []))) e
    (none-append (finishes k) (session_gone_actions side h (findings side h) s) (if none_lives side h then close_if_open h 0 else []) (gone-none k side h s) (last (none_lives side h)))))
    (λ w. no-row P (λ e. absurd (cc e)))))))
  where
    last : (b : Bool) → list_any (finishes k) (if b then close_if_open h 0 else []) ≡ false
    last true = close-none k h 0
    last false = refl

    s : ℕ
    s = unwrap_or (last_request h) 0

    left : List ℕ
    left = head_left h s (response_bytes digits)

    P : Answer → Type 0
    P = FinishesAll h k s left

acceptance-all : (side : Side) (h : History) (headers : Fields) (k : ℕ)
    → OfRows (FinishesAll h k (unwrap_or (last_request h) 0) (head_left h (unwrap_or (last_request h) 0) (acceptance_frame headers))) (poll_rows side h (Some (calls.Accept headers)))
acceptance-all side h headers k =
    by-row P (not (is_open h)) _ [] _ (λ q e. absurd (cc e))
    (λ q. by-row P (is_refused h s left) _ (close_if_open h 0x104) _ (λ x e. absurd (clash (list_any (finishes k) (close_if_open h 0x104)) e (close-none k h 0x104)))
    (λ x. by-row P (lacks_credit h s left) replies.Pending (send h s left) _ (λ y e. absurd (clash (list_any (finishes k) (send h s left)) e (send-none k h s left)))
    (λ y. by-row P true _ (send h s left) [] (λ z e. absurd (clash (list_any (finishes k) (send h s left)) e (send-none k h s left))) (λ z. absurd (cc z)))))
  where
    s : ℕ
    s = unwrap_or (last_request h) 0

    left : List ℕ
    left = head_left h s (acceptance_frame headers)

    P : Answer → Type 0
    P = FinishesAll h k s left

response-all : (side : Side) (h : History) (c : Call) (k : ℕ) → is_response c ≡ true → FinishesAll h k (head_stream h c) (head_left h (head_stream h c) (head_of (Some c))) (first_row (poll_rows side h (Some c)))
response-all side h (calls.Accept headers) k r = (acceptance-all side h headers k).first
response-all side h calls.Forbidden k r = (rejection-all side h (codes "403") k).first
response-all side h calls.NotFound k r = (rejection-all side h (codes "404") k).first
response-all side h calls.TooManyRequests k r = (rejection-all side h (codes "429") k).first
response-all side h c k r = absurd (cc r)

-- ---- why a call finishes a stream

pub data FinishWhy (side : Side) (h : History) (k : ℕ) (turn : Turn) : Type 0 where
  ByFinish : (id : ℕ) → turn ≡ turns.Call (calls.Finish id) → id ≡ k → FinishWhy side h k turn
  EndsSession : (name : Option ℕ) → turn ≡ turns.Call (calls.EndSession name) → named h name ≡ Some k → is_open h ≡ true → is_living side h k ≡ true → FinishWhy side h k turn
  Responds : (c : Call) → polls turn ≡ true → going h turn ≡ Some c → is_response c ≡ true → head_stream h c ≡ k → FinishWhy side h k turn

pub fin-acts : (k : ℕ) (x : Action) → acts_on k x ≡ false → finishes k x ≡ false
fin-acts k (actions.Finish id) e = or-left (id == k) false e
fin-acts k x e = refl

only-one : (b : Bool) → (b || false) ≡ true → b ≡ true
only-one true e = refl
only-one false e = e

in-two : {P : Type 0} (k : ℕ) (xs ys : List Action) → list_any (finishes k) xs ≡ false → list_any (finishes k) (xs ++ ys) ≡ true → (list_any (finishes k) ys ≡ true → P) → P
in-two {P = P} k xs ys n e f = by (list_any (finishes k) ys) refl
  where
    by : (b : Bool) → list_any (finishes k) ys ≡ b → P
    by true q = f q
    by false q = absurd (clash (list_any (finishes k) (xs ++ ys)) e (none-append (finishes k) xs ys n q))

pub rest-none : (h : History) (k : ℕ) (c : Call) (frame : List ℕ) → list_any (finishes k) (rest h c frame) ≡ false
rest-none h k (calls.Connect options lookup outcome) frame =
    none-append (finishes k) (action_if (not (is_opened h)) (actions.Opened 0)) (send h 0 (head_left h 0 frame)) (none-if (finishes k) (not (is_opened h)) (actions.Opened 0) refl) (send-none k h 0 (head_left h 0 frame))
rest-none h k c frame = send-none k h (unwrap_or (last_request h) 0) (head_left h (unwrap_or (last_request h) 0) frame)

why-shape : (side : Side) (h : History) (k : ℕ) (call : Call) (a : Answer) → Shape side h call a → list_any (finishes k) a.actions ≡ true → FinishWhy side h k (turns.Call call)
why-shape side h k call a x e = by a x e
  where
    never : (xs : List Action) → list_any (finishes k) xs ≡ false → list_any (finishes k) xs ≡ true → FinishWhy side h k (turns.Call call)
    never xs n f = absurd (clash (list_any (finishes k) xs) f n)

    shake : (c : Call) → polls (turns.Call call) ≡ true → going h (turns.Call call) ≡ Some c → (b : Answer) → Shake side h c (head_of (Some c)) b → list_any (finishes k) b.actions ≡ true → FinishWhy side h k (turns.Call call)
    shake c p g b (Shut i o) f = absurd (cc f)
    shake c p g b (Still r m) f = absurd (cc f)
    shake c p g b (Shuts r code m n) f = never (close_if_open h code) (close-none k h code) f
    shake c p g b (Goes r m) f = never (rest h c (head_of (Some c))) (rest-none h k c (head_of (Some c))) f
    shake c p g b (GoesShuts r code m n) f = never (rest h c (head_of (Some c)) ++ close_if_open h code) (none-append (finishes k) (rest h c (head_of (Some c))) (close_if_open h code) (rest-none h k c (head_of (Some c))) (close-none k h code)) f
    shake c p g b (Finishes i m) f =
        in-two k (rest h c (head_of (Some c))) (actions.Finish (head_stream h c) ∷ []) (rest-none h k c (head_of (Some c))) f (λ y. Responds c p g i (eqb-true (head_stream h c) k (only-one (head_stream h c == k) y)))
    shake c p g b (Rejects i t code m) f =
        never (session_gone_actions side h (findings side h) (head_stream h c) ++ (if t then close_if_open h code else []))
        (none-append (finishes k) (session_gone_actions side h (findings side h) (head_stream h c)) (if t then close_if_open h code else []) (gone-none k side h (head_stream h c)) (last t)) f
      where
        last : (t : Bool) → list_any (finishes k) (if t then close_if_open h code else []) ≡ false
        last true = close-none k h code
        last false = refl

    by : (b : Answer) → Shape side h call b → list_any (finishes k) b.actions ≡ true → FinishWhy side h k (turns.Call call)
    by b (Nothing r n) f = absurd (cc f)
    by b Nought f = absurd (cc f)
    by b (Alone r t y n u m o) f = never (action_if t y) (none-if (finishes k) t y (fin-acts k y (u k))) f
    by b (Writing id bytes piece r g n i w s o) f = never (send h id bytes) (send-none k h id bytes) f
    by b (Polling id s name r c o m l i) f = never (send h id (head_left h id (stream_header id s))) (send-none k h id (head_left h id (stream_header id s))) f
    by b (Finishing id c ha n) f = ByFinish id (ap (λ (d : Call). turns.Call d) c) (eqb-true id k (only-one (id == k) f))
    by b (Resetting id code c g n) f = never (action_if (is_open h) (actions.ResetOut id code)) (none-if (finishes k) (is_open h) (actions.ResetOut id code) refl) f
    by b (Ending s name c m o l) f = of (s == k) refl
      where
        of : (z : Bool) → (s == k) ≡ z → FinishWhy side h k (turns.Call call)
        of true q = let j : s ≡ k = eqb-true s k q in EndsSession name (ap (λ (d : Call). turns.Call d) c) (m ∙ ap (λ (n : ℕ). Some n) j) o (ap (is_living side h) (sym j) ∙ l)
        of false q =
            never (session_finish h s ++ session_gone_actions side h (findings side h) s)
            (none-append (finishes k) (session_finish h s) (session_gone_actions side h (findings side h) s) (none-if (finishes k) (not (is_some (stop_of (events h) s))) (actions.Finish s) q) (gone-none k side h s)) f
    by b (Handshaking c p g z d y) f = shake c p g d y f

pub why-own : (side : Side) (h : History) (k : ℕ) (turn : Turn) → list_any (finishes k) (own_answer side h turn).actions ≡ true → FinishWhy side h k turn
why-own side h k (turns.Call call) e = why-shape side h k call (own_answer side h (turns.Call call)) (shape side h call).first e
why-own side h k turn e = absurd (cc e)

-- a finish by hand is of a stream that was handed out
pub finish-handed : (side : Side) (h : History) (k id : ℕ) → list_any (finishes k) (own_answer side h (turns.Call (calls.Finish id))).actions ≡ true → is_handed_out h id ≡ true
finish-handed side h k id e = and-left (is_handed_out h id) _ ((by-row P (not (has_sending side h id)) replies.NoStream [] (finish h id) (λ q f. absurd (cc f)) (λ q. record { first = λ f. not-false (has_sending side h id) q })).first e)
  where
    P : Answer → Type 0
    P a = list_any (finishes k) a.actions ≡ true → has_sending side h id ≡ true

-- ---- every history

-- the response rejects
abbrev pub is-rejection : Call → Bool
is-rejection calls.Forbidden = true
is-rejection calls.NotFound = true
is-rejection calls.TooManyRequests = true
is-rejection _ = false

pub data WasFinished (side : Side) (h : History) (k : ℕ) : Type 0 where
  ByHand : is_handed_out h k ≡ true → WasFinished side h k
  OfSession : is_established h k ≡ true → is_gone h (findings side h) k ≡ true → WasFinished side h k
  Whole : (c : Call) → side ≡ Server → begun_on h k ≡ Some c → is-rejection c ≡ true → length (head_of (Some c)) ≤ length (out h k) → WasFinished side h k

established-later : (p : Pair) (h : History) (s : ℕ) → is_established h s ≡ true → is_established (p ∷ h) s ≡ true
established-later p h s e = by (establishes p) refl
  where
    by : (o : Option ℕ) → establishes p ≡ o → is_established (p ∷ h) s ≡ true
    by None q = rw q e
    by (Some t) q = rw q (ap (λ (b : Bool). (t == s) || b) e ∙ or-true (t == s))

finished-later : (side : Side) (p : Pair) (h : History) (k : ℕ) → WasFinished side h k → WasFinished side (p ∷ h) k
finished-later side p h k (ByHand e) = ByHand (ap (λ (b : Bool). hands_out k p.answer.reply || b) e ∙ or-true (hands_out k p.answer.reply))
finished-later side p h k (OfSession e g) = OfSession (established-later p h k e) (gone-stays side p h k g)
finished-later side p h k (Whole c x b r l) = Whole c x (begun-stays p h k c b) r (omega (arith, l, ap length (out-add p h k), length-append (out h k) (bytes_on k p.answer.actions)))

pub fin-sends : (k : ℕ) (xs : List Action) → list_any (finishes k) xs ≡ true → list_any (sends_on k) xs ≡ true
fin-sends k [] e = absurd (cc e)
fin-sends k (x ∷ xs) e =
    or-either {P = list_any (sends_on k) (x ∷ xs) ≡ true} (finishes k x) (list_any (finishes k) xs) e
    (λ y. ap (λ (b : Bool). b || list_any (sends_on k) xs) (one x y)) (λ y. ap (λ (b : Bool). sends_on k x || b) (fin-sends k xs y) ∙ or-true (sends_on k x))
  where
    one : (y : Action) → finishes k y ≡ true → sends_on k y ≡ true
    one (actions.Finish id) q = q
    one y q = absurd (cc q)

-- a call that ends a session makes it gone
pub ends-gone : (side : Side) (h : History) (k : ℕ) (name : Option ℕ) (turn : Turn) → turn ≡ turns.Call (calls.EndSession name) → named h name ≡ Some k → is_open h ≡ true → is_number k (gone_in h turn (next side h turn).reply) ≡ true
ends-gone side h k name turn t m o = subst (λ (x : Turn). is_number k (gone_in h x (next side h x).reply) ≡ true) (sym t) (by (next side h (turns.Call (calls.EndSession name))).reply is-done)
  where
    is-done : (next side h (turns.Call (calls.EndSession name))).reply ≡ replies.Done
    is-done = ap (λ (x : Option ℕ). (first_row (in_session x
        (λ (s : ℕ). row true replies.Done (if is_open h && is_living side h s then session_finish h s ++ session_gone_actions side h (findings side h) s else []) ∷ []))).reply) m

    by : (r : Reply) → r ≡ replies.Done → is_number k (gone_in h (turns.Call (calls.EndSession name)) r) ≡ true
    by r e = subst (λ (x : Reply). is_number k (gone_in h (turns.Call (calls.EndSession name)) x) ≡ true) (sym e) (rw (o, m) (eq-eqb k k refl))

pub responds-server : (side : Side) (h : History) (turn : Turn) (c : Call) → IsHistory side h → is_lawful side h turn ≡ true → polls turn ≡ true → going h turn ≡ Some c → is_response c ≡ true → side ≡ Server
responds-server Server h turn c i l p g r = refl
responds-server Client h turn c i l p g r = absurd (by c (polled-stream Client h turn c i l p g) r)
  where
    by : (d : Call) → is_connect d ≡ true → is_response d ≡ true → ⊥
    by (calls.Connect options lookup outcome) x y = cc y
    by d x y = cc x

acceptance-none : (side : Side) (h : History) (headers : Fields) (k : ℕ) → OfRows (λ (a : Answer). list_any (finishes k) a.actions ≡ false) (poll_rows side h (Some (calls.Accept headers)))
acceptance-none side h headers k =
    by-row P (not (is_open h)) _ [] _ (λ q. refl)
    (λ q. by-row P (is_refused h s left) _ (close_if_open h 0x104) _ (λ x. close-none k h 0x104)
    (λ x. by-row P (lacks_credit h s left) replies.Pending (send h s left) _ (λ y. send-none k h s left)
    (λ y. by-row P true _ (send h s left) [] (λ z. send-none k h s left) (λ z. absurd (cc z)))))
  where
    s : ℕ
    s = unwrap_or (last_request h) 0

    left : List ℕ
    left = head_left h s (acceptance_frame headers)

    P : Answer → Type 0
    P a = list_any (finishes k) a.actions ≡ false

pub finishes-rejection : (side : Side) (h : History) (turn : Turn) (k : ℕ) (c : Call) → polls turn ≡ true → going h turn ≡ Some c → is_response c ≡ true → list_any (finishes k) (own_answer side h turn).actions ≡ true → is-rejection c ≡ true
finishes-rejection side h turn k c p g r x = by c (polled-own side h turn c p g r) r
  where
    by : (d : Call) → own_answer side h turn ≡ first_row (poll_rows side h (Some d)) → is_response d ≡ true → is-rejection d ≡ true
    by (calls.Accept headers) e y = absurd (clash (list_any (finishes k) (own_answer side h turn).actions) x (ap (λ (a : Answer). list_any (finishes k) a.actions) e ∙ (acceptance-none side h headers k).first))
    by calls.Forbidden e y = refl
    by calls.NotFound e y = refl
    by calls.TooManyRequests e y = refl
    by d e y = absurd (cc y)

gone-new : (h : History) (found new : List Finding) (s : ℕ) → list_any (makes_gone s) new ≡ true → is_gone h (found ++ new) s ≡ true
gone-new h found new s e = ap (λ (b : Bool). is_gone_by_call h s || b) (list_any-append (makes_gone s) found new ∙ ap (λ (b : Bool). list_any (makes_gone s) found || b) e ∙ or-true (list_any (makes_gone s) found)) ∙ or-true (is_gone_by_call h s)

finished-now : (side : Side) (h : History) (turn : Turn) → IsHistory side h → is_lawful side h turn ≡ true → (k : ℕ) → (k == local_uni side) ≡ false → list_any (finishes k) (next side h turn).actions ≡ true
    → WasFinished side (with_pair h turn (next side h turn)) k
finished-now side h turn i l k n e =
    or-either {P = WasFinished side (p ∷ h) k} (list_any (finishes k) own.actions) (list_any (finishes k) (moment_actions side (with_pair h turn own))) (sym (any-next (finishes k) (λ j x y. refl) side h turn) ∙ e)
    (λ x. by-call x (why-own side h k turn x)) (λ x. by-moment (moment-sends side (record { turn = turn; answer = own }) h k (fin-sends k (moment_actions side (with_pair h turn own)) x)))
  where
    own : Answer
    own = own_answer side h turn

    p : Pair
    p = record { turn = turn; answer = next side h turn }

    all : IsHistory side (p ∷ h)
    all = (l, refl, i)

    by-moment : MomentSends side (record { turn = turn; answer = own }) h k → WasFinished side (p ∷ h) k
    by-moment (Control q) = absurd (clash (local_uni side == k) q (swapped k (local_uni side) n))
    by-moment (OfClosed q) =
        let new = ap (list_any (closes_session k)) (sym (same-news side h turn)) ∙ q in
        OfSession (and-left (is_established (p ∷ h) k) _ (closed-lived side p h k new))
        (ap (λ (found : List Finding). is_gone (p ∷ h) found k) (findings-add side p h) ∙ gone-new (p ∷ h) (findings side h) (news side p h) k (closed-gone k (news side p h) new))

    by-call : list_any (finishes k) own.actions ≡ true → FinishWhy side h k turn → WasFinished side (p ∷ h) k
    by-call x (ByFinish id t q) = finished-later side p h k (ByHand (ap (is_handed_out h) (sym q) ∙ finish-handed side h k id (ap (λ (y : Turn). list_any (finishes k) (own_answer side h y).actions) (sym t) ∙ x)))
    by-call x (EndsSession name t m o q) =
        OfSession (established-later p h k (and-left (is_established h k) _ q))
        (ap (λ (b : Bool). (b || is_gone_by_call h k) || list_any (makes_gone k) (findings side (p ∷ h))) (ends-gone side h k name turn t m o))
    by-call x (Responds c q g r s) = Whole c (responds-server side h turn c i l q g r) (ap (begun_on (p ∷ h)) (sym last) ∙ polled-begun side p h all c q g) (finishes-rejection side h turn k c q g r x) long
      where
        left : ℕ → List ℕ
        left j = head_left h j (head_of (Some c))

        last : last_stream h ≡ k
        last = polled-last side h i c k (polled-stream side h turn c i l q g) s

        whole : (lacks_credit h (head_stream h c) (left (head_stream h c)) ≡ false) × (bytes_on (head_stream h c) own.actions ≡ take (credit_left h (head_stream h c)) (left (head_stream h c)))
        whole =
            let w = response-all side h c k r (ap (λ (a : Answer). list_any (finishes k) a.actions) (sym (polled-own side h turn c q g r)) ∙ x) in
            (w.0, ap (λ (a : Answer). bytes_on (head_stream h c) a.actions) (polled-own side h turn c q g r) ∙ w.1)

        full : lacks_credit h k (left k) ≡ false
        full = ap (λ (j : ℕ). lacks_credit h j (left j)) (sym s) ∙ whole.0

        sent : bytes_on k own.actions ≡ take (credit_left h k) (left k)
        sent = ap (λ (j : ℕ). bytes_on j own.actions) (sym s) ∙ whole.1 ∙ ap (λ (j : ℕ). take (credit_left h j) (left j)) s

        long : length (head_of (Some c)) ≤ length (out (p ∷ h) k)
        long =
            let went = out-add p h k ∙ ap (λ (xs : List ℕ). out h k ++ xs) (own-bytes side h turn k n ∙ sent ∙ take-all-of (credit_left h k) (left k) (no-left h k (left k) full)) in
            omega (arith, ap length went, length-append (out h k) (left k), length-drop (length (out h k)) (head_of (Some c)))

pub was-finished : (side : Side) (h : History) → IsHistory side h → (k : ℕ) → (k == local_uni side) ≡ false → was_finished h k ≡ true → WasFinished side h k
was-finished side [] i k n e = absurd (cc e)
was-finished side (p ∷ h) i k n e =
    or-either {P = WasFinished side (p ∷ h) k} (list_any (finishes k) p.answer.actions) (was_finished h k) (sym (any-newest (finishes k) p.answer.actions (actions_out h)) ∙ e)
    (λ x. subst (λ (q : Pair). WasFinished side (q ∷ h) k) (pair-is p (next side h p.turn) i.1) (finished-now side h p.turn i.2 i.0 k n (ap (λ (a : Answer). list_any (finishes k) a.actions) (sym i.1) ∙ x)))
    (λ x. finished-later side p h k (was-finished side h i.2 k n x))
