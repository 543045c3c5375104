-- Every call: what the definitions for code do is what its rows say, with the record that its reply has.
use Rattle.std.specs.Prelude.{◌%◌, ◌&&◌, ◌==◌, ◌≡◌, Bool, List, None, Option, Some, codes, false, not, true, unwrap_or, ℕ}
use Rattle.std.proofs.Common.{◌∙◌, ap, refl, subst, sym}
use Rattle.wt_meaning.specs.Calls.{in_session, rows_of}
use Rattle.wt_meaning.specs.Halves.{has_receiving, has_sending, where_has}
use Rattle.wt_meaning.specs.Handshakes.{acceptance_frame, acceptance_rows, head_left, last_begun, none_lives, poll_rows, rejection_rows}
use Rattle.wt_meaning.specs.History.{History, is_given_up}
use Rattle.wt_meaning.specs.Lawful.{is_client}
use Rattle.wt_meaning.specs.Moments.{findings}
use Rattle.wt_meaning.specs.Rows.{Row, first_row}
use Rattle.wt_meaning.specs.Sends.{session_gone_actions}
use Rattle.wt_meaning.specs.Windows.{last_request, named}
use Rattle.wt_message.specs.FixedBytes.{response_bytes}
use Rattle.wt_turn.specs.Streams.{local_bi, local_uni, peer_bi, peer_uni}
use Rattle.wt_sessions.specs.Answers.{call_effect, may_call, named_session, on_receiving, on_sending, on_session}
use Rattle.wt_sessions.specs.Driver.{ending_actions, has_no_session, is_living, stream_table}
use Rattle.wt_sessions.specs.Effect as effects
use Rattle.wt_sessions.specs.Halves.{has_receiving_half, has_sending_half}
use Rattle.wt_sessions.specs.Halves as halves
use Rattle.wt_sessions.specs.Handshake.{HandshakeState, accept_response, awaits_answer, handshake_state, is_continuable, reject_response, request_end, requested_stream}
use Rattle.wt_sessions.specs.Handshake as handshakes
use Rattle.wt_sessions.specs.StreamTable as tables
use Rattle.wt_sessions_agree.proofs.ConnectRows.{ConnectFacts, connect-agrees}
use Rattle.wt_sessions_agree.proofs.ConnectionRows.{accept_bi-agrees, accept_uni-agrees, close-agrees, closed-agrees, end-agrees, endpoint_close-agrees, head-is, named-is, on-session, open_bi-agrees, open_uni-agrees, opening-agrees, receive-agrees, send_datagram-agrees, size-agrees}
use Rattle.wt_sessions_agree.proofs.HalfRows.{HalfAgrees, finish-agrees, half-agrees, on-half, priority-agrees, read-agrees, read_exact-agrees, reset-agrees, set_priority-agrees, stop-agrees, stopped-agrees, unread-agrees, write-agrees, write_all-agrees}
use Rattle.wt_sessions_agree.proofs.HandshakeRows.{accept-agrees, begin-agrees, incoming-agrees, reject-agrees}
use Rattle.wt_sessions_agree.specs.Orderly.{begins_at}
use Rattle.wt_sessions_agree.specs.Records.{effect_of, failure_record, pending_record}
use Rattle.wt_sessions_agree.specs.Stands.{BegunAgrees, IsConnect, IsResponse, Stands}
use Rattle.wt_turn.specs.Log.{AcceptanceFailed, CallRecord, Log, Polled, ResponseStarted, calls_of}
use Rattle.wt_turn.specs.declared.call.Call.{Call}
use Rattle.wt_wire.specs.declared.side.Side.{Side}
use Rattle.wt_wire.specs.declared.side.Side.TheVariants.{Client, Server}
use Rattle.wt_turn.specs.declared.call.Call.TheVariants as calls

-- a response is due: a server gave a request, and its response isn't through
abbrev pub is_due : Side → HandshakeState → Bool
is_due side (handshakes.Requested id) = not (is_client side)
is_due side (handshakes.Responding accepts head) = true
is_due side _ = false

-- What calls rest on beside the relation: what a session's end sends, where it lives or its response is due; where a session
-- begins, to which a response is due; and a client's own stream.
pub record EndsAgree (side : Side) (h : History) (log : Log) : Type 0 where
  pub living : (s : ℕ) → is_living side log s ≡ true → session_gone_actions side h (findings side h) s ≡ ending_actions side log s
  pub requested : is_due side (handshake_state (calls_of log)) ≡ true
      → session_gone_actions side h (findings side h) (requested_stream (calls_of log)) ≡ ending_actions side log (requested_stream (calls_of log))
  pub none : none_lives side h ≡ has_no_session side log
  pub starts : is_due side (handshake_state (calls_of log)) ≡ true
      → begins_at h (findings side h) (requested_stream (calls_of log)) ≡ request_end (tables.verdict_of (requested_stream (calls_of log)) (stream_table side log).classified)
  pub client : side ≡ Client → ConnectFacts h log
  pub connects : (reserved : Option (List ℕ)) (head : List ℕ) → handshake_state (calls_of log) ≡ handshakes.Connecting reserved head → side ≡ Client

-- a response may begin where it is due
due-asked : (side : Side) (state : HandshakeState) → (not (is_client side) && awaits_answer state) ≡ true → is_due side state ≡ true
due-asked Client state e = absurd (cc e)
due-asked Server (handshakes.Requested id) e = refl
due-asked Server state e = absurd (cc e)

module _ (side : Side) (offset : ℕ → ℕ) (h : History) (log : Log) (x : Stands side offset h log) (ends : EndsAgree side h log) where
  half : (k : ℕ) → HalfAgrees h log k
  half k = half-agrees side offset h log k x

  sending-is : (k : ℕ) → has_sending side h k ≡ has_sending_half side log k
  sending-is k = ap (λ (b : Bool). b && not (k % 4 == peer_uni side)) (sym (x.calls.accepted k))

  receiving-is : (k : ℕ) → has_receiving side h k ≡ has_receiving_half side log k
  receiving-is k =
      ap (λ (b : Bool). b && not (k % 4 == local_uni side) && not (is_given_up h k)) (sym (x.calls.accepted k))
      ∙ ap (λ (b : Bool). halves.is_accepted log k && not (k % 4 == local_uni side) && not b) (x.halves.given_up k)

  -- ---- responses

  -- a response goes on with the stream of the request that was given last
  accept-on : (c : Call) (waiting : CallRecord) (head : List ℕ) → pending_record c ≡ waiting → failure_record c ≡ AcceptanceFailed → is_due side (handshake_state (calls_of log)) ≡ true
      → handshakes.respond side log true head waiting ≡ effect_of side h log c (first_row (acceptance_rows h (unwrap_or (last_request h) 0) (head_left h (unwrap_or (last_request h) 0) head)))
  accept-on c waiting head p f d =
      accept-agrees side offset h log x c waiting (requested_stream (calls_of log)) (effects.head_left log (requested_stream (calls_of log)) head) p f (ends.starts d)
      ∙ ap (λ (left : List ℕ). effect_of side h log c (first_row (acceptance_rows h (requested_stream (calls_of log)) left))) (sym (head-is side offset h log x (requested_stream (calls_of log)) head))
      ∙ ap (λ (s : ℕ). effect_of side h log c (first_row (acceptance_rows h s (head_left h s head)))) (sym x.request)

  reject-on : (c : Call) (waiting : CallRecord) (head : List ℕ) → pending_record c ≡ waiting → is_due side (handshake_state (calls_of log)) ≡ true
      → handshakes.respond side log false head waiting ≡ effect_of side h log c (first_row (rejection_rows side h (unwrap_or (last_request h) 0) (head_left h (unwrap_or (last_request h) 0) head)))
  reject-on c waiting head p d =
      reject-agrees side offset h log x c waiting (requested_stream (calls_of log)) (effects.head_left log (requested_stream (calls_of log)) head) p x.request (ends.requested d) ends.none
      ∙ ap (λ (left : List ℕ). effect_of side h log c (first_row (rejection_rows side h (requested_stream (calls_of log)) left)))
      (sym (head-is side offset h log x (requested_stream (calls_of log)) head))
      ∙ ap (λ (s : ℕ). effect_of side h log c (first_row (rejection_rows side h s (head_left h s head)))) (sym x.request)

  -- ---- a poll of the handshake

  responding : (accepts : Bool) (head : List ℕ) (c : Call) → is_due side (handshake_state (calls_of log)) ≡ true → IsResponse accepts head c
      → handshakes.respond side log accepts head Polled ≡ effect_of side h log calls.Handshake (first_row (poll_rows side h (Some c)))
  responding true head (calls.Accept headers) d e = rw e (accept-on calls.Handshake Polled (acceptance_frame headers) refl refl d)
  responding false head calls.Forbidden d e = rw e (reject-on calls.Handshake Polled (response_bytes (codes "403")) refl d)
  responding false head calls.NotFound d e = rw e (reject-on calls.Handshake Polled (response_bytes (codes "404")) refl d)
  responding false head calls.TooManyRequests d e = rw e (reject-on calls.Handshake Polled (response_bytes (codes "429")) refl d)
  responding true head calls.Forbidden d e = absurd e
  responding true head calls.NotFound d e = absurd e
  responding true head calls.TooManyRequests d e = absurd e
  responding false head (calls.Accept headers) d e = absurd e
  responding accepts head c d e = absurd e

module _ (offset : ℕ → ℕ) (h : History) (log : Log) (x : Stands Client offset h log) (ends : EndsAgree Client h log) where
  connecting : (reserved : Option (List ℕ)) (head : List ℕ) (c : Call) → IsConnect reserved head c
      → handshakes.continue_connect Client log reserved head ≡ effect_of Client h log calls.Handshake (first_row (poll_rows Client h (Some c)))
  connecting reserved head (calls.Connect options lookup outcome) (t, e, r, f) =
      rw (sym r, sym f, e) (connect-agrees offset h log x (ends.client refl) t)
  connecting reserved head c e = absurd e

module _ (side : Side) (offset : ℕ → ℕ) (h : History) (log : Log) (x : Stands side offset h log) (ends : EndsAgree side h log) where
  -- a connect goes on, on a client
  connecting-on : (s : Side) → side ≡ s → (reserved : Option (List ℕ)) (head : List ℕ) (c : Call) → handshake_state (calls_of log) ≡ handshakes.Connecting reserved head → IsConnect reserved head c
      → handshakes.continue_connect side log reserved head ≡ effect_of side h log calls.Handshake (first_row (poll_rows side h (Some c)))
  connecting-on s q reserved head c e i =
      subst (λ (s : Side). Stands s offset h log → EndsAgree s h log → handshakes.continue_connect s log reserved head ≡ effect_of s h log calls.Handshake (first_row (poll_rows s h (Some c))))
      (sym (ends.connects reserved head e))
      (λ y z. connecting offset h log y z reserved head c i) x ends

  poll-by : (state : HandshakeState) (begun : Option Call) → handshake_state (calls_of log) ≡ state → BegunAgrees state begun → is_continuable state ≡ true
      → handshakes.continue_by state side log ≡ effect_of side h log calls.Handshake (first_row (poll_rows side h begun))
  poll-by (handshakes.Responding accepts head) (Some c) e b i = responding side offset h log x ends accepts head c (ap (is_due side) e) b
  poll-by (handshakes.Responding accepts head) None e b i = absurd b
  poll-by (handshakes.Connecting reserved head) (Some c) e b i = connecting-on side refl reserved head c e b
  poll-by (handshakes.Connecting reserved head) None e b i = absurd b
  poll-by handshakes.AwaitingRequest begun e b i = absurd (cc i)
  poll-by (handshakes.Requested id) begun e b i = absurd (cc i)
  poll-by handshakes.Answered begun e b i = absurd (cc i)
  poll-by handshakes.Over begun e b i = absurd (cc i)

  poll-agrees : is_continuable (handshake_state (calls_of log)) ≡ true → handshakes.continue_handshake side log ≡ effect_of side h log calls.Handshake (first_row (poll_rows side h (last_begun h)))
  poll-agrees i = poll-by (handshake_state (calls_of log)) (last_begun h) refl x.handshake.begun i

  -- ---- every call

  -- a call on a session
  in-session : (c : Call) (name : Option ℕ) (call : ℕ → effects.Effect) (rows : ℕ → List Row) → ((s : ℕ) → named h name ≡ Some s → call s ≡ effect_of side h log c (first_row (rows s)))
      → on_session side log name call ≡ effect_of side h log c (first_row (in_session (named h name) rows))
  in-session c name call rows f = on-session side h log c call rows (named h name) (named_session log name) (named-is side offset h log name x) f

  -- a call on a half
  on-sending : (c : Call) (k : ℕ) (call : ℕ → effects.Effect) (rows : List Row) → call k ≡ effect_of side h log c (first_row rows)
      → on_sending side log k call ≡ effect_of side h log c (first_row (where_has (has_sending side h k) rows))
  on-sending c k call rows f = on-half side h log c k call rows (has_sending side h k) (has_sending_half side log k) (sending-is side offset h log x ends k) f

  on-receiving : (c : Call) (k : ℕ) (call : ℕ → effects.Effect) (rows : List Row) → call k ≡ effect_of side h log c (first_row rows)
      → on_receiving side log k call ≡ effect_of side h log c (first_row (where_has (has_receiving side h k) rows))
  on-receiving c k call rows f = on-half side h log c k call rows (has_receiving side h k) (has_receiving_half side log k) (receiving-is side offset h log x ends k) f

  pub call-agrees : (c : Call) → may_call side log c ≡ true → call_effect side log c ≡ effect_of side h log c (first_row (rows_of side h c))
  unfolding call_effect
  call-agrees (calls.Connect options lookup outcome) w = begin-agrees side h log options lookup outcome
  call-agrees calls.Incoming w = incoming-agrees side offset h log x
  call-agrees (calls.Accept headers) w =
      accept-on side offset h log x ends (calls.Accept headers) (ResponseStarted true (acceptance_frame headers)) (acceptance_frame headers) refl refl
      (due-asked side (handshake_state (calls_of log)) w)
  call-agrees calls.Forbidden w =
      reject-on side offset h log x ends calls.Forbidden (ResponseStarted false (response_bytes (codes "403"))) (response_bytes (codes "403")) refl (due-asked side (handshake_state (calls_of log)) w)
  call-agrees calls.NotFound w =
      reject-on side offset h log x ends calls.NotFound (ResponseStarted false (response_bytes (codes "404"))) (response_bytes (codes "404")) refl (due-asked side (handshake_state (calls_of log)) w)
  call-agrees calls.TooManyRequests w =
      reject-on side offset h log x ends calls.TooManyRequests (ResponseStarted false (response_bytes (codes "429"))) (response_bytes (codes "429")) refl
      (due-asked side (handshake_state (calls_of log)) w)
  call-agrees calls.Handshake w = poll-agrees w
  call-agrees (calls.EndpointClose code reason) w = endpoint_close-agrees side offset h log x code reason
  call-agrees (calls.AcceptUni name) w = in-session (calls.AcceptUni name) name _ _ (λ s n. accept_uni-agrees side offset h log x name (peer_uni side) s n)
  call-agrees (calls.AcceptBi name) w = in-session (calls.AcceptBi name) name _ _ (λ s n. accept_bi-agrees side offset h log x name (peer_bi side) s n)
  call-agrees (calls.ReceiveDatagram name) w = in-session (calls.ReceiveDatagram name) name _ _ (λ s n. receive-agrees side offset h log x name s n)
  call-agrees (calls.OpenUni name) w = in-session (calls.OpenUni name) name _ _ (λ s n. open_uni-agrees side offset h log x (local_uni side) s name n)
  call-agrees (calls.OpenBi name) w = in-session (calls.OpenBi name) name _ _ (λ s n. open_bi-agrees side offset h log x (local_bi side) s name n)
  call-agrees (calls.PollOpening id) w = in-session (calls.PollOpening id) None _ _ (λ s n. opening-agrees side offset h log x id)
  call-agrees (calls.SendDatagram payload name) w = in-session (calls.SendDatagram payload name) name _ _ (λ s n. send_datagram-agrees side offset h log x payload name s)
  call-agrees (calls.MaxDatagramSize name) w = in-session (calls.MaxDatagramSize name) name _ _ (λ s n. size-agrees side offset h log x name s)
  call-agrees (calls.SessionId name) w = in-session (calls.SessionId name) name _ _ (λ s n. refl)
  call-agrees (calls.EndSession name) w = in-session (calls.EndSession name) name _ _ (λ s n. end-agrees side offset h log x name s n (ends.living s))
  call-agrees (calls.Close code reason) w = in-session (calls.Close code reason) None _ _ (λ s n. close-agrees side offset h log x code reason)
  call-agrees calls.Closed w = in-session calls.Closed None _ _ (λ s n. closed-agrees side offset h log x)
  call-agrees (calls.Write id bytes) w = on-sending (calls.Write id bytes) id _ _ (write-agrees side h log id (half side offset h log x ends id) bytes)
  call-agrees (calls.WriteAll id bytes) w = on-sending (calls.WriteAll id bytes) id _ _ (write_all-agrees side h log id (half side offset h log x ends id) bytes)
  call-agrees (calls.Finish id) w = on-sending (calls.Finish id) id _ _ (finish-agrees side h log id (half side offset h log x ends id))
  call-agrees (calls.Stopped id) w = on-sending (calls.Stopped id) id _ _ (stopped-agrees side h log id (half side offset h log x ends id))
  call-agrees (calls.Priority id) w = on-sending (calls.Priority id) id _ _ (priority-agrees side h log id (half side offset h log x ends id) (x.halves.priority id))
  call-agrees (calls.SetPriority id p) w = on-sending (calls.SetPriority id p) id _ _ (set_priority-agrees side h log id (half side offset h log x ends id) p)
  call-agrees (calls.ResetSend id code) w = on-sending (calls.ResetSend id code) id _ _ (reset-agrees side h log id (half side offset h log x ends id) code)
  call-agrees (calls.Read id size) w =
      on-receiving (calls.Read id size) id _ _ (rw (unread-agrees side offset h log id x) (read-agrees side h log id (half side offset h log x ends id) size (halves.unread_body side log id)))
  call-agrees (calls.ReadExact id size) w =
      on-receiving (calls.ReadExact id size) id _ _ (rw (unread-agrees side offset h log id x)
      (read_exact-agrees side h log id (half side offset h log x ends id) size (halves.unread_body side log id)))
  call-agrees (calls.StopRecv id code) w = on-receiving (calls.StopRecv id code) id _ _ (stop-agrees side h log id (half side offset h log x ends id) code)
