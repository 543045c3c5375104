-- Why the own actions of a call send on a stream or finish it, and why they reset one.
use Rattle.std.specs.Prelude.{[], ◌&&◌, ◌++◌, ◌==◌, ◌||◌, ◌∷◌, ◌≡◌, Bool, List, Option, Some, false, filter, flat_map, if◌then◌else◌, not, take, true, unwrap_or, ℕ}
use Rattle.std.specs.List.{list_any}
use Rattle.std.proofs.Common.{◌∙◌, ap, refl, sym}
use Rattle.std.proofs.lemmas.Bool.{eq-eqb, eqb-true}
use Rattle.std.proofs.lemmas.List.Folds.{list_any-append}
use Rattle.wt_meaning.specs.Calls.{being_opened, is_living}
use Rattle.wt_meaning.specs.Findings.{Finding}
use Rattle.wt_meaning.specs.Halves.{is_closed}
use Rattle.wt_meaning.specs.Handshakes.{head_left, is_opened, send}
use Rattle.wt_meaning.specs.History.{History, can_receive, can_send, credit_left, events, is_given_up, is_handed_out, is_open, is_reset, is_reset_of, was_finished}
use Rattle.wt_meaning.specs.Lawful.{is_lawful, is_response, polls}
use Rattle.wt_meaning.specs.Moments.{findings}
use Rattle.wt_meaning.specs.Rows.{answer}
use Rattle.wt_meaning.specs.Sends.{action_if, close_if_open, is_of_session, session_gone_actions, stream_gone_actions, stream_ids}
use Rattle.wt_meaning.specs.Windows.{gone_in, is_number, last_request, named}
use Rattle.wt_promise.proofs.OwnForms.{head_of}
use Rattle.wt_promise.proofs.Accepted.{or-first}
use Rattle.wt_promise.proofs.Actions.{none-append, none-gone, none-if, none-sent}
use Rattle.wt_promise.proofs.Begun.{polled-stream}
use Rattle.wt_promise.proofs.Behind.{Quiet, behind-append, behind-none, gone-quiet, neither-acts}
use Rattle.wt_promise.proofs.Flow.{clash}
use Rattle.wt_promise.proofs.Shapes.{going}
use Rattle.wt_promise.proofs.Sessions.{is_connect}
use Rattle.wt_promise.proofs.Shakes.{Finishes, Goes, GoesShuts, Rejects, Shake, Shut, Shuts, Still, head_stream, rest}
use Rattle.wt_promise.specs.Promise.{IsHistory, acts_on, sends_on}
use Rattle.wt_turn.specs.Reports.{end_of, is_running}
use Rattle.wt_turn.specs.declared.action.Action.{Action}
use Rattle.wt_turn.specs.declared.answer.Answer.{Answer}
use Rattle.wt_turn.specs.declared.call.Call.{Call}
use Rattle.wt_turn.specs.declared.reply.Reply.{Reply}
use Rattle.wt_turn.specs.declared.turn.Turn.{Turn}
use Rattle.wt_wire.specs.declared.side.Side.{Side}
use Rattle.wt_wire.specs.declared.side.Side.TheVariants.{Client, Server}
use Rattle.wt_turn.specs.declared.action.Action.TheVariants as actions
use Rattle.wt_turn.specs.declared.call.Call.TheVariants as calls
use Rattle.wt_turn.specs.declared.reply.Reply.TheVariants as replies

-- why a call sends on the stream, or finishes it
pub data SendsWhy (side : Side) (h : History) (k : ℕ) (turn : Turn) : Type 0 where
  Writes : is_handed_out h k ≡ true → is_closed h k ≡ false → SendsWhy side h k turn
  Polls : (c : Call) → polls turn ≡ true → going h turn ≡ Some c → head_stream h c ≡ k → SendsWhy side h k turn
  Opens : (name : Option ℕ) (s : ℕ) → being_opened h k ≡ Some name → named h name ≡ Some s → is_living side h s ≡ true → SendsWhy side h k turn
  Ends : is_living side h k ≡ true → SendsWhy side h k turn

-- why a call resets it
pub data ResetsWhy (side : Side) (h : History) (k : ℕ) (turn : Turn) (r : Reply) : Type 0 where
  Held : is_handed_out h k ≡ true → ResetsWhy side h k turn r
  GoneBy : (s : ℕ) → is_of_session h (findings side h) s k ≡ true → is_number s (gone_in h turn r) ≡ true → ResetsWhy side h k turn r

pub record OwnActs (side : Side) (h : History) (k : ℕ) (turn : Turn) (a : Answer) : Type 0 where
  pub sends : list_any (sends_on k) a.actions ≡ true → SendsWhy side h k turn
  pub resets : list_any (is_reset_of k) a.actions ≡ true → ResetsWhy side h k turn a.reply
  pub once : list_any (is_reset_of k) a.actions ≡ true → is_reset h k ≡ false
  pub quiet : Quiet k a.actions

-- ---- own actions

-- actions that neither send on the stream nor reset it
pub neither : (side : Side) (h : History) (k : ℕ) (turn : Turn) (r : Reply) (own : List Action) → list_any (sends_on k) own ≡ false → list_any (is_reset_of k) own ≡ false → OwnActs side h k turn (answer r own)
neither side h k turn r own s z = record {
  sends = λ e. absurd (clash (list_any (sends_on k) own) e s);
  resets = λ e. absurd (clash (list_any (is_reset_of k) own) e z);
  once = λ e. absurd (clash (list_any (is_reset_of k) own) e z);
  quiet = behind-none (is_reset_of k) (acts_on k) own z;
}

-- actions that send on this stream alone, and reset none
pub on-stream : (side : Side) (h : History) (k id : ℕ) (turn : Turn) (r : Reply) (own : List Action) → ((id == k) ≡ false → list_any (sends_on k) own ≡ false) → list_any (is_reset_of k) own ≡ false
    → (id ≡ k → SendsWhy side h k turn) → OwnActs side h k turn (answer r own)
on-stream side h k id turn r own other z why = record {
  sends = λ e. by (id == k) refl e;
  resets = λ e. absurd (clash (list_any (is_reset_of k) own) e z);
  once = λ e. absurd (clash (list_any (is_reset_of k) own) e z);
  quiet = behind-none (is_reset_of k) (acts_on k) own z;
}
  where
    by : (b : Bool) → (id == k) ≡ b → list_any (sends_on k) own ≡ true → SendsWhy side h k turn
    by true q e = why (eqb-true id k q)
    by false q e = absurd (clash (list_any (sends_on k) own) e (other q))

-- the bytes of one stream
pub sends-other : (h : History) (k id : ℕ) (bytes : List ℕ) → (id == k) ≡ false → list_any (sends_on k) (send h id bytes) ≡ false
sends-other h k id bytes n = none-sent (sends_on k) id (take (credit_left h id) bytes) (λ p. n)

pub sends-no-reset : (h : History) (k id : ℕ) (bytes : List ℕ) → list_any (is_reset_of k) (send h id bytes) ≡ false
sends-no-reset h k id bytes = none-sent (is_reset_of k) id (take (credit_left h id) bytes) (λ p. refl)

-- ---- what goes out for a session that becomes gone

-- of one stream, a reset is that stream's
one-reset : (side : Side) (h : History) (k j : ℕ) → list_any (is_reset_of k) (stream_gone_actions side h j) ≡ true → (j == k) ≡ true
one-reset side h k j e = by (can_receive side h j && is_running (end_of (events h) j) && not (is_given_up h j)) (can_send side h j && not (was_finished h j) && not (is_reset h j)) e
  where
    by : (a b : Bool) → list_any (is_reset_of k) (action_if a (actions.StopOut j 0x170d7b68) ++ action_if b (actions.ResetOut j 0x170d7b68)) ≡ true → (j == k) ≡ true
    by true true q = or-first (j == k) false q refl
    by false true q = or-first (j == k) false q refl
    by true false q = absurd (cc q)
    by false false q = absurd (cc q)

-- and it wasn't reset before
one-unreset : (side : Side) (h : History) (k j : ℕ) → list_any (is_reset_of k) (stream_gone_actions side h j) ≡ true → is_reset h j ≡ false
one-unreset side h k j e =
    by (can_receive side h j && is_running (end_of (events h) j) && not (is_given_up h j)) (can_send side h j && not (was_finished h j)) (is_reset h j) e
  where
    by : (a b c : Bool) → list_any (is_reset_of k) (action_if a (actions.StopOut j 0x170d7b68) ++ action_if (b && not c) (actions.ResetOut j 0x170d7b68)) ≡ true → c ≡ false
    by a b false q = refl
    by true true true q = absurd (cc q)
    by true false true q = absurd (cc q)
    by false true true q = absurd (cc q)
    by false false true q = absurd (cc q)

-- some stream of these ids has the reset
among-ids : {P : Type 0} (side : Side) (h : History) (k : ℕ) (mine : ℕ → Bool) → ((j : ℕ) → mine j ≡ true → list_any (is_reset_of k) (stream_gone_actions side h j) ≡ true → P) → (ids : List ℕ)
    → list_any (is_reset_of k) (flat_map (stream_gone_actions side h) (filter mine ids)) ≡ true → P
among-ids side h k mine f [] e = absurd (cc e)
among-ids {P = P} side h k mine f (j ∷ ids) e = by (mine j) refl e (among-ids {P = P} side h k mine f ids)
  where
    either : (a b : Bool) → (a || b) ≡ true → (a ≡ true → P) → (b ≡ true → P) → P
    either true b q f g = f refl
    either false b q f g = g q

    by : (b : Bool) → mine j ≡ b → list_any (is_reset_of k) (flat_map (stream_gone_actions side h) (if b then j ∷ filter mine ids else filter mine ids)) ≡ true
        → (list_any (is_reset_of k) (flat_map (stream_gone_actions side h) (filter mine ids)) ≡ true → P) → P
    by false m q again = again q
    by true m q again =
        either (list_any (is_reset_of k) (stream_gone_actions side h j)) (list_any (is_reset_of k) (flat_map (stream_gone_actions side h) (filter mine ids)))
        (sym (list_any-append (is_reset_of k) (stream_gone_actions side h j) (flat_map (stream_gone_actions side h) (filter mine ids))) ∙ q) (f j m) again

-- a stream that is reset so is one of the session's
pub reset-of-session : (side : Side) (h : History) (found : List Finding) (s k : ℕ) → list_any (is_reset_of k) (session_gone_actions side h found s) ≡ true → is_of_session h found s k ≡ true
reset-of-session side h found s k e =
    among-ids {P = is_of_session h found s k ≡ true} side h k (is_of_session h found s) (λ j m x. ap (is_of_session h found s) (sym (eqb-true j k (one-reset side h k j x))) ∙ m) (stream_ids side h) e

-- and wasn't reset before
pub reset-new : (side : Side) (h : History) (found : List Finding) (s k : ℕ) → list_any (is_reset_of k) (session_gone_actions side h found s) ≡ true → is_reset h k ≡ false
reset-new side h found s k e =
    among-ids {P = is_reset h k ≡ false} side h k (is_of_session h found s) (λ j m x. ap (is_reset h) (sym (eqb-true j k (one-reset side h k j x))) ∙ one-unreset side h k j x) (stream_ids side h) e

pub gone-sends-not : (side : Side) (h : History) (found : List Finding) (s k : ℕ) → list_any (sends_on k) (session_gone_actions side h found s) ≡ false
gone-sends-not side h found s k = none-gone (sends_on k) (λ j c. refl) (λ j c. refl) side h found s

-- ---- handshakes

-- the request that a response is to
pub response-request : (side : Side) (h : History) (turn : Turn) (c : Call) → IsHistory side h → is_lawful side h turn ≡ true → polls turn ≡ true → going h turn ≡ Some c → is_connect c ≡ false → (s : ℕ) × (last_request h ≡ Some s)
response-request Client h turn c i l p g n = absurd (clash (is_connect c) (polled-stream Client h turn c i l p g) n)
response-request Server h turn c i l p g n = let r = (polled-stream Server h turn c i l p g).1 in (r.0, r.1)

-- that of what goes on
abbrev pub Asked : History → Call → Type 0
Asked h c = is_response c ≡ true → (s : ℕ) × (last_request h ≡ Some s)

pub asked-of : (side : Side) (h : History) (turn : Turn) (c : Call) → IsHistory side h → is_lawful side h turn ≡ true → polls turn ≡ true → going h turn ≡ Some c → Asked h c
asked-of side h turn c i l p g e = response-request side h turn c i l p g (by c e)
  where
    by : (d : Call) → is_response d ≡ true → is_connect d ≡ false
    by (calls.Connect options lookup outcome) q = absurd (cc q)
    by d q = refl

pub shake-acts : (side : Side) (h : History) (k : ℕ) (turn : Turn) (c : Call) → polls turn ≡ true → going h turn ≡ Some c → Asked h c → (a : Answer) → Shake side h c (head_of (Some c)) a → OwnActs side h k turn a
shake-acts side h k turn c p g asked a x = by a x
  where
    s : ℕ
    s = head_stream h c

    own : List Action
    own = rest h c (head_of (Some c))

    gone : List Action
    gone = session_gone_actions side h (findings side h) s

    own-sends : (d : Call) (frame : List ℕ) → (head_stream h d == k) ≡ false → list_any (sends_on k) (rest h d frame) ≡ false
    own-sends (calls.Connect options lookup outcome) frame n =
        none-append (sends_on k) (action_if (not (is_opened h)) (actions.Opened 0)) (send h 0 (head_left h 0 frame)) (none-if (sends_on k) (not (is_opened h)) (actions.Opened 0) refl) (sends-other h k 0 (head_left h 0 frame) n)
    own-sends d frame n = sends-other h k (unwrap_or (last_request h) 0) (head_left h (unwrap_or (last_request h) 0) frame) n

    own-resets : (d : Call) (frame : List ℕ) → list_any (is_reset_of k) (rest h d frame) ≡ false
    own-resets (calls.Connect options lookup outcome) frame =
        none-append (is_reset_of k) (action_if (not (is_opened h)) (actions.Opened 0)) (send h 0 (head_left h 0 frame)) (none-if (is_reset_of k) (not (is_opened h)) (actions.Opened 0) refl) (sends-no-reset h k 0 (head_left h 0 frame))
    own-resets d frame = sends-no-reset h k (unwrap_or (last_request h) 0) (head_left h (unwrap_or (last_request h) 0) frame)

    -- a test that passes no close
    closes-plain : (test : Action → Bool) → ((code : ℕ) → test (actions.Close code []) ≡ false) → (code : ℕ) → list_any test (close_if_open h code) ≡ false
    closes-plain test n code = none-if test (is_open h) (actions.Close code []) (n code)

    last : (test : Action → Bool) → ((code : ℕ) → test (actions.Close code []) ≡ false) → (b : Bool) (code : ℕ) → list_any test (if b then close_if_open h code else []) ≡ false
    last test n true code = closes-plain test n code
    last test n false code = refl

    -- the rest of the frame goes out, and then more
    with-more : (r : Reply) (more : List Action) → ((s == k) ≡ false → list_any (sends_on k) more ≡ false) → list_any (is_reset_of k) more ≡ false → OwnActs side h k turn (answer r (own ++ more))
    with-more r more m z =
        on-stream side h k s turn r (own ++ more) (λ n. none-append (sends_on k) own more (own-sends c (head_of (Some c)) n) (m n)) (none-append (is_reset_of k) own more (own-resets c (head_of (Some c))) z) (λ e. Polls c p g e)

    rejected : (more : List Action) → is_response c ≡ true → list_any (sends_on k) more ≡ false → list_any (is_reset_of k) more ≡ false → OwnActs side h k turn (answer replies.Rejected (gone ++ more))
    rejected more i m z = record {
      sends = λ e. absurd (clash (list_any (sends_on k) (gone ++ more)) e (none-append (sends_on k) gone more (gone-sends-not side h (findings side h) s k) m));
      resets = λ e. GoneBy (asked i).0 (ap (λ (j : ℕ). is_of_session h (findings side h) j k) (same c i (asked i).0 (asked i).1) ∙ reset-of-session side h (findings side h) s k (front e))
          (ap (is_number (asked i).0) (asked i).1 ∙ eq-eqb (asked i).0 (asked i).0 refl);
      once = λ e. reset-new side h (findings side h) s k (front e);
      quiet = behind-append (is_reset_of k) (acts_on k) gone more (gone-quiet side h (findings side h) s k) (behind-none (is_reset_of k) (acts_on k) more z) (λ e. neither-acts k more m z);
    }
      where
        same : (d : Call) → is_response d ≡ true → (t : ℕ) → last_request h ≡ Some t → t ≡ head_stream h d
        same (calls.Connect options lookup outcome) q t l = absurd (cc q)
        same d q t l = sym (ap (λ (o : Option ℕ). unwrap_or o 0) l)

        front : list_any (is_reset_of k) (gone ++ more) ≡ true → list_any (is_reset_of k) gone ≡ true
        front e = or-first (list_any (is_reset_of k) gone) (list_any (is_reset_of k) more) (sym (list_any-append (is_reset_of k) gone more) ∙ e) z

    by : (b : Answer) → Shake side h c (head_of (Some c)) b → OwnActs side h k turn b
    by b (Shut i o) = neither side h k turn replies.Rejected [] refl refl
    by b (Still r f) = neither side h k turn r [] refl refl
    by b (Shuts r code f m) = neither side h k turn r (close_if_open h code) (closes-plain (sends_on k) (λ n. refl) code) (closes-plain (is_reset_of k) (λ n. refl) code)
    by b (Goes r f) = on-stream side h k s turn r own (own-sends c (head_of (Some c))) (own-resets c (head_of (Some c))) (λ e. Polls c p g e)
    by b (GoesShuts r code f m) = with-more r (close_if_open h code) (λ n. closes-plain (sends_on k) (λ n. refl) code) (closes-plain (is_reset_of k) (λ n. refl) code)
    by b (Finishes i m) = with-more replies.Pending (actions.Finish s ∷ []) (λ n. ap (λ (b : Bool). b || false) n) refl
    by b (Rejects i t code m) = rejected (if t then close_if_open h code else []) i (last (sends_on k) (λ n. refl) t code) (last (is_reset_of k) (λ n. refl) t code)
