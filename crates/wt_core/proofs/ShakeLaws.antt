-- The handshake that goes on stays where the log's is, through calls of other kinds and turns of the transport.
use Rattle.std.proofs.Common.{◌∙◌, ap, refl, subst, sym}
use Rattle.std.proofs.lemmas.Bool.{true≢false}
use Rattle.std.specs.Prelude.{[], ◌==◌, ◌≡◌, List, None, Option, drop, false, length, true, ℕ}
use Rattle.wt_driver_laws.proofs.ReachStays.{connect_stays, request_stays}
use Rattle.wt_driver_laws.specs.Driving.{IsReachable}
use Rattle.wt_driver_laws.specs.Handing.{is_at_hand}
use Rattle.wt_meaning.specs.Lawful.{polls}
use Rattle.wt_core.proofs.Apart.{stays-apart}
use Rattle.wt_core.proofs.Reached.{told}
use Rattle.wt_core.proofs.Turns.{same_calls}
use Rattle.wt_core.specs.Calls.{is_handshake}
use Rattle.wt_core.specs.HeldNow.{held_by}
use Rattle.wt_core.specs.Shakes.{Accepting, Connecting, Idle, Incoming, Rejecting, Requested, Shake, ShakeIs}
use Rattle.wt_session.specs.Handshakes.{Asking, Connect, Dialled, HasConnect, Reserved}
use Rattle.wt_turn.specs.Sent.{is_finished, sent_on}
use Rattle.wt_turn.specs.Streams.{local_bi, local_count}
use Rattle.wt_sessions.specs.Answers.{call_effect, is_lawful, log_after, may_call}
use Rattle.wt_sessions.specs.Effect.{head_left}
use Rattle.wt_sessions.specs.Handshake as shakes
use Rattle.wt_sessions.specs.Handshake.{HandshakeState, awaits_answer, awaits_request, handshake_state, is_continuable, requested_stream}
use Rattle.wt_turn.specs.Log.{Log, actions_of, calls_of}
use Rattle.wt_turn.specs.Turns.{is_call}
use Rattle.wt_turn.specs.declared.call.Call.{Call}
use Rattle.wt_turn.specs.declared.call.Call.TheVariants as calls
use Rattle.wt_turn.specs.declared.turn.Turn.{Turn}
use Rattle.wt_turn.specs.declared.turn.Turn.TheVariants as turns
use Rattle.wt_wire.specs.declared.side.Side.{Side}

-- what a turn leaves of a handshake
pub record Leaves (side : Side) (log later : Log) : Type 0 where
  state : handshake_state (calls_of later) ≡ handshake_state (calls_of log)
  requested : requested_stream (calls_of later) ≡ requested_stream (calls_of log)
  request : is_at_hand (handshake_state (calls_of log)) ≡ true
      → (sent_on (actions_of later) (requested_stream (calls_of log)) ≡ sent_on (actions_of log) (requested_stream (calls_of log)))
      × (is_finished (actions_of later) (requested_stream (calls_of log)) ≡ is_finished (actions_of log) (requested_stream (calls_of log)))
  connect : (reserved : Option (List ℕ)) (head : List ℕ) → handshake_state (calls_of log) ≡ shakes.Connecting reserved head
      → (sent_on (actions_of later) (local_bi side) ≡ sent_on (actions_of log) (local_bi side))
      × (local_count (actions_of later) (local_bi side) ≡ local_count (actions_of log) (local_bi side))

module _ (side : Side) (log later : Log) (x : Leaves side log later) where
  at-hand : (s : HandshakeState) → handshake_state (calls_of log) ≡ s → is_at_hand s ≡ true → is_at_hand (handshake_state (calls_of log)) ≡ true
  at-hand s e h = ap is_at_hand e ∙ h

  left-is : (id : ℕ) (head left : List ℕ) → sent_on (actions_of later) id ≡ sent_on (actions_of log) id → head_left log id head ≡ left → head_left later id head ≡ left
  left-is id head left e h = ap (λ (xs : List ℕ). drop (length xs) head) e ∙ h

  connects : (c : Connect) → HasConnect c side log → HasConnect c side later
  connects (Reserved name) h = (h.0, (h.1.0, x.state ∙ h.1.1))
  connects (Dialled head) h = let s = x.connect None head h.1.0 in (h.0, (x.state ∙ h.1.0, s.1 ∙ h.1.1))
  connects (Asking id head left sent) h =
      let s = x.connect None head h.1.1 in
      let same : sent_on (actions_of later) id ≡ sent_on (actions_of log) id = subst (λ (k : ℕ). sent_on (actions_of later) k ≡ sent_on (actions_of log) k) (sym h.1.0) s.0 in (
        h.0,
        (
          h.1.0,
          x.state ∙ h.1.1,
          ap (λ (n : ℕ). n == 0) s.1 ∙ h.1.2,
          λ n. (left-is id head left same (h.1.3 n).0, (h.1.3 n).1),
          λ n. left-is id head [] same (h.1.4 n),
        ),
      )

  pub shake-stays : (s : Shake) → ShakeIs side log s → ShakeIs side later s
  shake-stays Incoming h = (h.0, ap awaits_request x.state ∙ h.1)
  shake-stays (Requested request) h = (h.0, record { state = x.state ∙ h.1.state; requested = x.requested ∙ h.1.requested })
  shake-stays (Accepting r) h =
      let has = h.1.0 in
      let s = x.request (at-hand _ has.state refl) in
      let same : sent_on (actions_of later) r.id ≡ sent_on (actions_of log) r.id = subst (λ (k : ℕ). sent_on (actions_of later) k ≡ sent_on (actions_of log) k) has.requested s.0 in
      (h.0, (record { state = x.state ∙ has.state; requested = x.requested ∙ has.requested; left = left-is r.id r.head r.left same has.left }, h.1.1))
  shake-stays (Rejecting r) h =
      let has = h.1 in
      let s = x.request (at-hand _ has.state refl) in
      let same : sent_on (actions_of later) r.response.id ≡ sent_on (actions_of log) r.response.id = subst (λ (k : ℕ). sent_on (actions_of later) k ≡ sent_on (actions_of log) k) has.requested s.0 in
      let end : is_finished (actions_of later) r.response.id ≡ is_finished (actions_of log) r.response.id = subst (λ (k : ℕ). is_finished (actions_of later) k ≡ is_finished (actions_of log) k) has.requested s.1 in (
        h.0,
        record {
          state = x.state ∙ has.state;
          requested = x.requested ∙ has.requested;
          finished = end ∙ has.finished;
          left = λ n. left-is r.response.id r.response.head r.response.left same (has.left n);
          waits = has.waits;
          out = λ n. left-is r.response.id r.response.head [] same (has.out n);
        },
      )
  shake-stays (Connecting c) h = connects c h
  shake-stays Idle h = record { unasked = ap awaits_answer x.state ∙ h.unasked; ended = ap is_continuable x.state ∙ h.ended; over = λ e. ap awaits_request x.state ∙ h.over e }

-- ---- a call of another kind

polls-not : (call : Call) → is_handshake call ≡ false → polls (turns.Call call) ≡ false
polls-not (calls.Connect options lookup outcome) e = absurd cc
polls-not calls.Incoming e = absurd cc
polls-not (calls.Accept headers) e = absurd cc
polls-not calls.Forbidden e = absurd cc
polls-not calls.NotFound e = absurd cc
polls-not calls.TooManyRequests e = absurd cc
polls-not calls.Handshake e = absurd cc
polls-not _ e = refl

pub shake-after : (side : Side) (log : Log) → IsReachable side log → (call : Call) → may_call side log call ≡ true → is_handshake call ≡ false → (s : Shake) → ShakeIs side log s → ShakeIs side (call_effect side log call).log s
shake-after side log r call may other s h =
    let after = told side log r call in
    let same = stays-apart call (call_effect side log call).reply (held_by side log) other in
    shake-stays side log (call_effect side log call).log (record {
      state = after.stage ∙ same.stage;
      requested = after.requested ∙ same.requested;
      request = λ e. request_stays side log r (turns.Call call) may e (polls-not call other);
      connect = λ reserved head e. connect_stays side log r (turns.Call call) may reserved head e (λ t. true≢false (ap polls (sym t) ∙ polls-not call other));
    }) s h

-- ---- a turn of the transport

event-polls : (turn : Turn) → is_call turn ≡ false → polls turn ≡ false
event-polls (turns.Call call) e = absurd cc
event-polls _ e = refl

pub shake-goes-on : (side : Side) (log : Log) → IsReachable side log → (turn : Turn) → is_call turn ≡ false → is_lawful side log turn ≡ true → (s : Shake) → ShakeIs side log s → ShakeIs side (log_after side log turn) s
shake-goes-on side log r turn event lawful s h =
    shake-stays side log (log_after side log turn) (record {
      state = ap handshake_state (same_calls side log turn event);
      requested = ap requested_stream (same_calls side log turn event);
      request = λ e. request_stays side log r turn lawful e (event-polls turn event);
      connect = λ reserved head e. connect_stays side log r turn lawful reserved head e (λ t. true≢false (ap polls (sym t) ∙ event-polls turn event));
    }) s h
