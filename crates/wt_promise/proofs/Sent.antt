-- What the answer to a turn sends on a stream: a rest of its head, or what the reply of a write accepts.
use Rattle.std.specs.Prelude.{[], ◌++◌, ◌==◌, ◌∷◌, ◌≡◌, Bool, List, Option, Some, false, if◌then◌else◌, is_some, not, take, true, unwrap_or, ℕ}
use Rattle.std.proofs.Common.{◌∙◌, ap, refl, subst, sym}
use Rattle.std.proofs.lemmas.Bool.{eq-eqb, eqb-true}
use Rattle.std.proofs.lemmas.List.{append-nil}
use Rattle.wt_meaning.specs.Calls.{being_opened, stream_header}
use Rattle.wt_meaning.specs.Handshakes.{head_left, is_opened, lacks_credit, send}
use Rattle.wt_meaning.specs.History.{History, credit_left, events, hands_out, is_handed_out, is_open}
use Rattle.wt_meaning.specs.Lawful.{polls}
use Rattle.wt_meaning.specs.Meaning.{own_answer}
use Rattle.wt_meaning.specs.Moments.{findings}
use Rattle.wt_meaning.specs.Rows.{answer}
use Rattle.wt_meaning.specs.Sends.{action_if, close_if_open, session_finish, session_gone_actions}
use Rattle.wt_meaning.specs.Windows.{last_request, named}
use Rattle.wt_promise.proofs.Accepted.{or-left}
use Rattle.wt_promise.proofs.Actions.{none-gone, none-if}
use Rattle.wt_promise.proofs.Flow.{clash}
use Rattle.wt_promise.proofs.BytesOut.{bytes-append, bytes_on, none-on, sends}
use Rattle.wt_promise.proofs.ReadPieces.{if-nothing}
use Rattle.wt_promise.proofs.Shakes.{Finishes, Goes, GoesShuts, Rejects, Shake, Shut, Shuts, Still, gives_on, head_stream, rest}
use Rattle.wt_promise.proofs.Shapes.{Alone, Ending, Finishing, Handshaking, Nothing, Nought, Polling, Resetting, Shape, Writing, going, is_accept, says_nothing, shape, writes_on}
use Rattle.wt_promise.proofs.OwnForms.{head_of, says_accepted}
use Rattle.wt_promise.specs.Promise.{accepted_by, acts_on}
use Rattle.wt_turn.specs.Joined.{send_of}
use Rattle.wt_turn.specs.Reports.{stop_of}
use Rattle.wt_turn.specs.declared.action.Action.{Action}
use Rattle.wt_turn.specs.declared.answer.Answer.{Answer}
use Rattle.wt_turn.specs.declared.call.Call.{Call}
use Rattle.wt_turn.specs.declared.reply.Reply.{Reply}
use Rattle.wt_turn.specs.declared.turn.Turn.{Turn}
use Rattle.wt_wire.specs.declared.side.Side.{Side}
use Rattle.wt_turn.specs.declared.action.Action.TheVariants as actions
use Rattle.wt_turn.specs.declared.call.Call.TheVariants as calls
use Rattle.wt_turn.specs.declared.reply.Reply.TheVariants as replies
use Rattle.wt_turn.specs.declared.turn.Turn.TheVariants as turns

-- what an answer sends on a stream
pub data Sent (side : Side) (h : History) (k : ℕ) (turn : Turn) (a : Answer) : Type 0 where
  Quiet : bytes_on k a.actions ≡ [] → accepted_by k turn a.reply ≡ [] → hands_out k a.reply ≡ false → Sent side h k turn a
  Given : bytes_on k a.actions ≡ [] → accepted_by k turn a.reply ≡ [] → is_accept turn ≡ true → Sent side h k turn a
  Wrote : is_handed_out h k ≡ true → bytes_on k a.actions ≡ accepted_by k turn a.reply → writes_on turn ≡ true → Sent side h k turn a
  Polled : (c : Call) → polls turn ≡ true → going h turn ≡ Some c → head_stream h c ≡ k → bytes_on k a.actions ≡ take (credit_left h k) (head_left h k (head_of (Some c))) → accepted_by k turn a.reply ≡ []
      → hands_out k a.reply ≡ false → Sent side h k turn a
  Opening : (name : Option ℕ) (s : ℕ) → being_opened h k ≡ Some name → named h name ≡ Some s → bytes_on k a.actions ≡ take (credit_left h k) (head_left h k (stream_header k s)) → accepted_by k turn a.reply ≡ []
      → (hands_out k a.reply ≡ true → lacks_credit h k (head_left h k (stream_header k s)) ≡ false) → turn ≡ turns.Call (calls.PollOpening k) → Sent side h k turn a

-- ---- the bytes of some actions

pub send-bytes : (k id : ℕ) (bytes : List ℕ) → bytes_on k (send_of id bytes) ≡ (if id == k then bytes else [])
send-bytes k id [] = sym (if-nothing (id == k))
send-bytes k id (b ∷ bytes) = append-nil (if id == k then b ∷ bytes else [])

pub close-bytes : (h : History) (k code : ℕ) → bytes_on k (close_if_open h code) ≡ []
close-bytes h k code = none-on k (close_if_open h code) (none-if (sends k) (is_open h) (actions.Close code []) refl)

pub if-bytes : (k : ℕ) (b : Bool) (a : Action) → sends k a ≡ false → bytes_on k (action_if b a) ≡ []
if-bytes k b a e = none-on k (action_if b a) (none-if (sends k) b a e)

pub gone-bytes : (side : Side) (h : History) (k s : ℕ) → bytes_on k (session_gone_actions side h (findings side h) s) ≡ []
gone-bytes side h k s = none-on k (session_gone_actions side h (findings side h) s) (none-gone (sends k) (λ j c. refl) (λ j c. refl) side h (findings side h) s)

-- of two lists the second of which sends nothing
pub front-bytes : (k : ℕ) (xs ys : List Action) → bytes_on k ys ≡ [] → bytes_on k (xs ++ ys) ≡ bytes_on k xs
front-bytes k xs ys e = bytes-append k xs ys ∙ ap (λ (zs : List ℕ). bytes_on k xs ++ zs) e ∙ append-nil (bytes_on k xs)

-- of two lists neither of which sends anything
pub no-bytes : (k : ℕ) (xs ys : List Action) → bytes_on k xs ≡ [] → bytes_on k ys ≡ [] → bytes_on k (xs ++ ys) ≡ []
no-bytes k xs ys a b = front-bytes k xs ys b ∙ a

-- ---- handshakes

-- a rest of the frame goes out
sent-head : (side : Side) (h : History) (k : ℕ) (turn : Turn) (c : Call) (r : Reply) (own : List Action) → polls turn ≡ true → going h turn ≡ Some c
    → bytes_on k own ≡ (if head_stream h c == k then take (credit_left h (head_stream h c)) (head_left h (head_stream h c) (head_of (Some c))) else []) → accepted_by k turn r ≡ []
    → hands_out k r ≡ false → Sent side h k turn (answer r own)
sent-head side h k turn c r own p g b n i = by (head_stream h c == k) refl
  where
    rest : ℕ → List ℕ
    rest j = take (credit_left h j) (head_left h j (head_of (Some c)))

    by : (x : Bool) → (head_stream h c == k) ≡ x → Sent side h k turn (answer r own)
    by false e = Quiet (b ∙ ap (λ (y : Bool). if y then rest (head_stream h c) else []) e) n i
    by true e = Polled c p g (eqb-true (head_stream h c) k e) (b ∙ ap (λ (y : Bool). if y then rest (head_stream h c) else []) e ∙ ap rest (eqb-true (head_stream h c) k e)) n i

polled-accepts : (k : ℕ) (turn : Turn) (r : Reply) → polls turn ≡ true → accepted_by k turn r ≡ []
polled-accepts k (turns.Call (calls.Write id bytes)) r p = absurd (cc p)
polled-accepts k (turns.Call (calls.WriteAll id bytes)) r p = absurd (cc p)
polled-accepts k turn r p = refl

handshake-hands : (k : ℕ) (r : Reply) → gives_on r ≡ true → hands_out k r ≡ false
handshake-hands k (replies.Uni id) f = absurd (cc f)
handshake-hands k (replies.Bi id) f = absurd (cc f)
handshake-hands k (replies.SendReady id) f = absurd (cc f)
handshake-hands k (replies.BiReady id) f = absurd (cc f)
handshake-hands k r f = refl

sent-shake : (side : Side) (h : History) (k : ℕ) (turn : Turn) (c : Call) → polls turn ≡ true → going h turn ≡ Some c → (a : Answer) → Shake side h c (head_of (Some c)) a → Sent side h k turn a
sent-shake side h k turn c p g a x = by a x
  where
    own : List Action
    own = rest h c (head_of (Some c))

    sent : (d : Call) (frame : List ℕ) → bytes_on k (rest h d frame) ≡ (if head_stream h d == k then take (credit_left h (head_stream h d)) (head_left h (head_stream h d) frame) else [])
    sent (calls.Connect options lookup outcome) frame =
        bytes-append k (action_if (not (is_opened h)) (actions.Opened 0)) (send h 0 (head_left h 0 frame)) ∙ ap (λ (xs : List ℕ). xs ++ bytes_on k (send h 0 (head_left h 0 frame))) (if-bytes k (not (is_opened h)) (actions.Opened 0) refl)
        ∙ send-bytes k 0 (take (credit_left h 0) (head_left h 0 frame))
    sent d frame = send-bytes k (unwrap_or (last_request h) 0) (take (credit_left h (unwrap_or (last_request h) 0)) (head_left h (unwrap_or (last_request h) 0) frame))

    last : (b : Bool) (code : ℕ) → bytes_on k (if b then close_if_open h code else []) ≡ []
    last true code = close-bytes h k code
    last false code = refl

    quietly : (r : Reply) (as_ : List Action) → gives_on r ≡ true → bytes_on k as_ ≡ [] → Sent side h k turn (answer r as_)
    quietly r as_ f b = Quiet b (polled-accepts k turn r p) (handshake-hands k r f)

    part : (r : Reply) (as_ : List Action) → gives_on r ≡ true → bytes_on k as_ ≡ bytes_on k own → Sent side h k turn (answer r as_)
    part r as_ f e = sent-head side h k turn c r as_ p g (e ∙ sent c (head_of (Some c))) (polled-accepts k turn r p) (handshake-hands k r f)

    by : (b : Answer) → Shake side h c (head_of (Some c)) b → Sent side h k turn b
    by b (Shut i o) = Quiet refl (polled-accepts k turn replies.Rejected p) refl
    by b (Still r f) = quietly r [] f refl
    by b (Shuts r code f m) = quietly r (close_if_open h code) f (close-bytes h k code)
    by b (Goes r f) = part r own f refl
    by b (GoesShuts r code f m) = part r (own ++ close_if_open h code) f (front-bytes k own (close_if_open h code) (close-bytes h k code))
    by b (Finishes i m) = part replies.Pending (own ++ actions.Finish (head_stream h c) ∷ []) refl (front-bytes k own (actions.Finish (head_stream h c) ∷ []) refl)
    by b (Rejects i t code m) =
        Quiet (no-bytes k (session_gone_actions side h (findings side h) (head_stream h c)) (if t then close_if_open h code else []) (gone-bytes side h k (head_stream h c)) (last t code)) (polled-accepts k turn replies.Rejected p) refl

-- ---- every call

-- a write of this stream or of another
sent-write : (side : Side) (h : History) (k id : ℕ) (turn : Turn) (r : Reply) (bytes piece : List ℕ) → is_handed_out h id ≡ true → piece ≡ take (credit_left h id) bytes
    → accepted_by k turn r ≡ (if id == k then piece else []) → hands_out k r ≡ false → writes_on turn ≡ true → Sent side h k turn (answer r (send h id bytes))
sent-write side h k id turn r bytes piece given e n i w = by (id == k) refl
  where
    sent : bytes_on k (send h id bytes) ≡ (if id == k then take (credit_left h id) bytes else [])
    sent = send-bytes k id (take (credit_left h id) bytes)

    by : (b : Bool) → (id == k) ≡ b → Sent side h k turn (answer r (send h id bytes))
    by false q = Quiet (sent ∙ ap (λ (y : Bool). if y then take (credit_left h id) bytes else []) q) (n ∙ ap (λ (y : Bool). if y then piece else []) q) i
    by true q = Wrote (ap (is_handed_out h) (sym (eqb-true id k q)) ∙ given) (sent ∙ ap (λ (xs : List ℕ). if id == k then xs else []) (sym e) ∙ sym n) w

-- an opening of this stream or of another
sent-opening : (side : Side) (h : History) (k id s : ℕ) (name : Option ℕ) (r : Reply) → being_opened h id ≡ Some name → named h name ≡ Some s
    → ((j : ℕ) → hands_out j r ≡ true → (id ≡ j) × (lacks_credit h id (head_left h id (stream_header id s)) ≡ false))
    → Sent side h k (turns.Call (calls.PollOpening id)) (answer r (send h id (head_left h id (stream_header id s))))
sent-opening side h k id s name r e m i = by (id == k) refl
  where
    left : ℕ → List ℕ
    left j = head_left h j (stream_header j s)

    other : (id == k) ≡ false → (b : Bool) → hands_out k r ≡ b → b ≡ false
    other q false x = refl
    other q true x = absurd (clash (id == k) (eq-eqb id k (i k x).0) q)

    by : (b : Bool) → (id == k) ≡ b → Sent side h k (turns.Call (calls.PollOpening id)) (answer r (send h id (left id)))
    by false q = Quiet (send-bytes k id (take (credit_left h id) (left id)) ∙ ap (λ (y : Bool). if y then take (credit_left h id) (left id) else []) q) refl (other q (hands_out k r) refl)
    by true q =
        let same : id ≡ k = eqb-true id k q in
        Opening name s (ap (being_opened h) (sym same) ∙ e) m
        (send-bytes k id (take (credit_left h id) (left id)) ∙ ap (λ (y : Bool). if y then take (credit_left h id) (left id) else []) q ∙ ap (λ (j : ℕ). take (credit_left h j) (left j)) same) refl
        (λ x. ap (λ (j : ℕ). lacks_credit h j (left j)) (sym same) ∙ (i k x).1) (ap (λ (j : ℕ). turns.Call (calls.PollOpening j)) same)

none-accepted : (k : ℕ) (c : Call) (r : Reply) → says_nothing c r ≡ true → accepted_by k (turns.Call c) r ≡ []
none-accepted k (calls.Write id bytes) (replies.Written n) e = absurd (cc e)
none-accepted k (calls.WriteAll id bytes) (replies.Count n) e = absurd (cc e)
none-accepted k (calls.WriteAll id bytes) replies.AllWritten e = absurd (cc e)
none-accepted k c r e = refl

nought-accepted : (k : ℕ) (c : Call) → accepted_by k (turns.Call c) (replies.Written 0) ≡ []
nought-accepted k (calls.Write id bytes) = if-nothing (id == k)
nought-accepted k c = refl

accept-hands : (k : ℕ) (c : Call) (r : Reply) → says_nothing c r ≡ true → hands_out k r ≡ true → is_accept (turns.Call c) ≡ true
accept-hands k c (replies.Uni id) e q = e
accept-hands k c (replies.Bi id) e q = e
accept-hands k c (replies.SendReady id) e q = absurd (cc e)
accept-hands k c (replies.BiReady id) e q = absurd (cc e)
accept-hands k c r e q = absurd (cc q)

written-hands : (k : ℕ) (r : Reply) → says_accepted r ≡ true → hands_out k r ≡ false
written-hands k (replies.Uni id) e = absurd (cc e)
written-hands k (replies.Bi id) e = absurd (cc e)
written-hands k (replies.SendReady id) e = absurd (cc e)
written-hands k (replies.BiReady id) e = absurd (cc e)
written-hands k r e = refl

acts-sends : (k : ℕ) (x : Action) → acts_on k x ≡ false → sends k x ≡ false
acts-sends k (actions.Send id p) e = or-left (id == k) false e
acts-sends k x e = refl

sent-shape : (side : Side) (h : History) (k : ℕ) (call : Call) (a : Answer) → Shape side h call a → Sent side h k (turns.Call call) a
sent-shape side h k call a x = by a x
  where
    quietly : (r : Reply) (as_ : List Action) → says_nothing call r ≡ true → bytes_on k as_ ≡ [] → Sent side h k (turns.Call call) (answer r as_)
    quietly r as_ n b = of (hands_out k r) refl
      where
        of : (i : Bool) → hands_out k r ≡ i → Sent side h k (turns.Call call) (answer r as_)
        of false q = Quiet b (none-accepted k call r n) q
        of true q = Given b (none-accepted k call r n) (accept-hands k call r n q)

    by : (b : Answer) → Shape side h call b → Sent side h k (turns.Call call) b
    by b (Nothing r n) = quietly r [] n refl
    by b Nought = Quiet refl (nought-accepted k call) refl
    by b (Alone r t x n u m o) = quietly r (action_if t x) n (if-bytes k t x (acts-sends k x (u k)))
    by b (Writing id bytes piece r g n e w s o) = sent-write side h k id (turns.Call call) r bytes piece g e (w k) (written-hands k r s) o
    by b (Polling id s name r c o m l i) =
        subst (λ (d : Call). Sent side h k (turns.Call d) (answer r (send h id (head_left h id (stream_header id s))))) (sym c) (sent-opening side h k id s name r o m i)
    by b (Finishing id c ha n) = quietly replies.Pending (actions.Finish id ∷ []) refl refl
    by b (Resetting id code c g n) = quietly replies.Done (action_if (is_open h) (actions.ResetOut id code)) refl (if-bytes k (is_open h) (actions.ResetOut id code) refl)
    by b (Ending s name c m o l) =
        quietly replies.Done (session_finish h s ++ session_gone_actions side h (findings side h) s) refl
        (no-bytes k (session_finish h s) _ (if-bytes k (not (is_some (stop_of (events h) s))) (actions.Finish s) refl) (gone-bytes side h k s))
    by b (Handshaking c p g e d y) = sent-shake side h k (turns.Call call) c p g d y

-- every turn's own answer
pub sent-own : (side : Side) (h : History) (k : ℕ) (turn : Turn) → Sent side h k turn (own_answer side h turn)
sent-own side h k (turns.Call call) = sent-shape side h k call (own_answer side h (turns.Call call)) (shape side h call).first
sent-own side h k turn = Quiet refl refl refl
