-- Each lawful turn keeps what lawful turns keep, so what a driver keeps follows every list of lawful turns.
use Rattle.std.proofs.Common.{◌≡◌, ℕ, ℤ, Bool, true, false, cond, List, [], ◌∷◌, length, refl, inl, inr}
use Rattle.std.specs.Prelude.{Option, Some, None, codes, nat_lt, not, take, ◌==◌, ◌&&◌}
use Rattle.std.proofs.lemmas.Bool.{and_parts}
use Rattle.url.specs.Parser.{parse_url}
use Rattle.wt_meaning.specs.Lawful.{is_client}
use Rattle.wt_meaning.specs.Targets.{target_of}
use Rattle.wt_message.specs.FixedBytes.{response_bytes}
use Rattle.wt_turn.specs.Arrivals.{event_entry, log_event}
use Rattle.wt_turn.specs.Joined.{send_of}
use Rattle.wt_turn.specs.Outgoing.{bytes_within_credit, if_open}
use Rattle.wt_turn.specs.Reports.{datagram_fact, end_of}
use Rattle.wt_turn.specs.Streams.{local_bi, local_uni, peer_bi, peer_uni}
use Rattle.wt_sessions.proofs.CallFits.{Leads, accept-leads, continue-leads, dial-leads, does, either, end-leads, incoming-leads, not-true, open-leads, poll-leads, polls, receive-leads, respond-leads, send-leads, session-leads}
use Rattle.wt_sessions.proofs.Turns.{Holds, entry-holds, flush-holds, is_asked, start-holds}
use Rattle.wt_sessions.specs.Claims.{AllLawful}
use Rattle.wt_sessions.specs.Answers.{call_effect, is_first, is_lawful, log_after, log_from, may_respond, on_receiving, on_sending, receive}
use Rattle.wt_sessions.specs.Connection.{closed_reply, payload_limit}
use Rattle.wt_sessions.specs.Driver.{call_view, flush, log_and_flush}
use Rattle.wt_sessions.specs.Effect.{Effect}
use Rattle.wt_sessions.specs.Halves.{all_written_reply, exact_at_end, finish_once, has_receiving_half, has_sending_half, is_done, on_half, read, read_exact, read_reply, reply_at_end, reset, set_priority, take_bytes, unread_body, write_by, write_error, written_reply}
use Rattle.wt_sessions.specs.Handshake.{HandshakeState, Requested, awaits_answer, awaits_request, handshake_state, response_head, start_response}
use Rattle.wt_sessions.specs.Moment.{Fits}
use Rattle.wt_turn.specs.Log.{BytesRead, Event, Log, PrioritySet, Received, Reported, ReportedLate, ResetUnsent, ResponseStarted, StreamGivenUp, calls_of, events_of, is_open}
use Rattle.wt_turn.specs.declared.call.Call.{Call}
use Rattle.wt_turn.specs.declared.reply.Reply.{Reply}
use Rattle.wt_turn.specs.declared.stream_error.StreamWriteError.{StreamWriteError}
use Rattle.wt_turn.specs.declared.turn.Turn.{Turn}
use Rattle.wt_wire.specs.declared.side.Side.{Side}
use Rattle.wt_wire.specs.declared.side.StreamEnd.{StreamEnd}
use Rattle.wt_turn.specs.declared.action.Action.TheVariants as actions
use Rattle.wt_turn.specs.declared.call.Call.TheVariants as calls
use Rattle.wt_turn.specs.declared.reply.Reply.TheVariants as replies
use Rattle.wt_turn.specs.declared.stream_error.StreamReadExactError.TheVariants as exacts
use Rattle.wt_turn.specs.declared.turn.Turn.TheVariants as turns
use Rattle.wt_wire.specs.declared.side.StreamEnd.TheVariants as ends

half-leads : (side : Side) (log : Log) (held : Holds side log) (b : Bool) (call : ℕ → Effect) (k : ℕ) → Leads side (call k) → Leads side (on_half b side log call k)
half-leads side log held true call k leads = leads
half-leads side log held false call k leads = polls side log held [] replies.NoStream

-- a request that awaits its answer is asked
asked-by : (state : HandshakeState) → awaits_answer state ≡ true → is_asked state ≡ true
asked-by (Requested id) e = refl
asked-by _ e = absurd cc

module _ (side : Side) (log : Log) (held : Holds side log) where
  -- ---- halves

  write-leads : (reply : List ℕ → ℕ → Reply) (k : ℕ) (bytes : List ℕ) (o : Option StreamWriteError) → Leads side (write_by reply side log k bytes o)
  write-leads reply k bytes (Some e) = polls side log held [] (replies.WriteFailed e)
  write-leads reply k bytes None = polls side log held (send_of k (bytes_within_credit log k bytes)) (reply bytes (length (bytes_within_credit log k bytes)))

  reset-leads : (k code : ℕ) → Leads side (reset side log k code)
  reset-leads k code =
      either side (is_done log k) _ _ (polls side log held [] replies.ClosedStream)
      (either side (is_open log) _ _ (polls side log held (actions.ResetOut k code ∷ []) replies.Done) (does side log held [] (ResetUnsent k code) replies.Done (tt, tt)))

  priority-leads : (k : ℕ) (p : ℤ) → Leads side (set_priority side log k p)
  priority-leads k p = either side (is_done log k) _ _ (polls side log held [] replies.Done) (does side log held [] (PrioritySet k p) replies.Done (tt, tt))

  bytes-lead : (k : ℕ) (bytes : List ℕ) (reply : Reply) → Leads side (take_bytes side log k bytes reply)
  bytes-lead k bytes reply = does side log held [] (BytesRead k (length bytes)) reply (tt, tt)

  reading-leads : (k size : ℕ) (bytes : List ℕ) → Leads side (read_reply side log k size bytes)
  reading-leads k size [] = polls side log held [] (reply_at_end log (end_of (events_of log) k))
  reading-leads k size (b ∷ bytes) = bytes-lead k (take size (b ∷ bytes)) (replies.Read (Some (take size (b ∷ bytes))))

  read-leads : (k size : ℕ) → Leads side (read side log k size)
  read-leads k size = either side (size == 0) _ _ (polls side log held [] (replies.Read (Some []))) (reading-leads k size (unread_body side log k))

  at-end-leads : (k : ℕ) (bytes : List ℕ) (end : StreamEnd) → Leads side (exact_at_end side log k bytes end)
  at-end-leads k bytes ends.Running = polls side log held [] _
  at-end-leads k bytes ends.Fin = bytes-lead k bytes (replies.ExactFailed (exacts.FinishedEarly (length bytes)) bytes)
  at-end-leads k bytes (ends.Reset code) = polls side log held [] _

  exact-leads : (k size : ℕ) → Leads side (read_exact side log k size)
  exact-leads k size =
      either side (nat_lt (length (unread_body side log k)) size) _ _ (at-end-leads k (unread_body side log k) (end_of (events_of log) k))
      (bytes-lead k (take size (unread_body side log k)) (replies.Exact (take size (unread_body side log k))))

  -- ---- calls

  no-session : is_first log ≡ true → (call_view log).sessions ≡ []
  no-session first = by log first
    where
      by : (l : Log) → is_first l ≡ true → (call_view l).sessions ≡ []
      by [] e = refl
      by (x ∷ l) e = absurd cc

  responds : (accepts : Bool) (head : List ℕ) → may_respond side log ≡ true → Leads side (start_response side log accepts head)
  responds accepts head lawful =
      let asked = asked-by (handshake_state (calls_of log)) ((and_parts (not (is_client side)) (awaits_answer (handshake_state (calls_of log))) lawful).1) in
      respond-leads side log held asked (ResponseStarted accepts head) (tt, asked) accepts head

  on-sending : (k : ℕ) (call : ℕ → Effect) → Leads side (call k) → Leads side (on_sending side log k call)
  on-sending k call leads = half-leads side log held (has_sending_half side log k) call k leads

  on-receiving : (k : ℕ) (call : ℕ → Effect) → Leads side (call k) → Leads side (on_receiving side log k call)
  on-receiving k call leads = half-leads side log held (has_receiving_half side log k) call k leads

  pub call-leads : (c : Call) → is_lawful side log (turns.Call c) ≡ true → Leads side (call_effect side log c)
  unfolding call_effect
  call-leads (calls.Connect options lookup outcome) lawful =
      let parts = and_parts (is_client side) (is_first log) lawful in
      dial-leads side log held (target_of (parse_url None options.0) options.1 lookup outcome) (parts.0, no-session parts.1)
  call-leads calls.Incoming lawful =
      incoming-leads side log held (not-true (is_client side) ((and_parts (not (is_client side)) (not (is_first log)) ((and_parts (not (is_client side) && not (is_first log)) (awaits_request (handshake_state (calls_of log))) lawful).0)).0))
  call-leads (calls.Accept headers) lawful = responds true (response_head (codes "200") headers) lawful
  call-leads calls.Forbidden lawful = responds false (response_bytes (codes "403")) lawful
  call-leads calls.NotFound lawful = responds false (response_bytes (codes "404")) lawful
  call-leads calls.TooManyRequests lawful = responds false (response_bytes (codes "429")) lawful
  call-leads calls.Handshake lawful = continue-leads side log held (handshake_state (calls_of log)) refl
  call-leads (calls.EndpointClose code reason) lawful = polls side log held (if_open log (actions.Close code reason)) replies.Done
  call-leads (calls.AcceptUni session) lawful = session-leads side log held session _ (λ s e. accept-leads side log held replies.Uni (peer_uni side) s)
  call-leads (calls.AcceptBi session) lawful = session-leads side log held session _ (λ s e. accept-leads side log held replies.Bi (peer_bi side) s)
  call-leads (calls.ReceiveDatagram session) lawful = session-leads side log held session _ (λ s e. receive-leads side log held s)
  call-leads (calls.OpenUni session) lawful = session-leads side log held session _ (λ s e. open-leads side log held (local_uni side) s (inl refl))
  call-leads (calls.OpenBi session) lawful = session-leads side log held session _ (λ s e. open-leads side log held (local_bi side) s (inr refl))
  call-leads (calls.PollOpening id) lawful = session-leads side log held None _ (λ s e. poll-leads side log held id)
  call-leads (calls.SendDatagram payload session) lawful = session-leads side log held session _ (λ s e. send-leads side log held payload s)
  call-leads (calls.MaxDatagramSize session) lawful = session-leads side log held session _ (λ s e. polls side log held [] (replies.Size (payload_limit s (datagram_fact (events_of log)))))
  call-leads (calls.SessionId session) lawful = session-leads side log held session _ (λ s e. polls side log held [] (replies.Id s))
  call-leads (calls.EndSession session) lawful = session-leads side log held session _ (λ s e. end-leads side log held s e)
  call-leads (calls.Close code reason) lawful = session-leads side log held None _ (λ s e. polls side log held (if_open log (actions.Close code reason)) replies.Done)
  call-leads calls.Closed lawful = session-leads side log held None _ (λ s e. polls side log held [] (closed_reply log))
  call-leads (calls.Write id bytes) lawful = on-sending id _ (write-leads written_reply id bytes (write_error log id))
  call-leads (calls.WriteAll id bytes) lawful = on-sending id _ (write-leads all_written_reply id bytes (write_error log id))
  call-leads (calls.Finish id) lawful = on-sending id _ (polls side log held (finish_once log id) _)
  call-leads (calls.Stopped id) lawful = on-sending id _ (polls side log held [] _)
  call-leads (calls.Priority id) lawful = on-sending id _ (polls side log held [] _)
  call-leads (calls.SetPriority id p) lawful = on-sending id _ (priority-leads id p)
  call-leads (calls.ResetSend id code) lawful = on-sending id _ (reset-leads id code)
  call-leads (calls.Read id size) lawful = on-receiving id _ (read-leads id size)
  call-leads (calls.ReadExact id size) lawful = on-receiving id _ (exact-leads id size)
  call-leads (calls.StopRecv id code) lawful = on-receiving id _ (does side log held (if_open log (actions.StopOut id code)) (StreamGivenUp id) replies.Done (tt, tt))

  -- ---- turns

  event-holds : (e : Event) → Holds side (flush side (log_event log e))
  event-holds e = by (is_open log)
    where
      by : (b : Bool) → Holds side (flush side (event_entry b e ∷ log))
      by true = flush-holds side log (Reported e) (entry-holds side log held (Reported e) tt)
      by false = flush-holds side log (ReportedLate e) (entry-holds side log held (ReportedLate e) tt)

received-holds : (side : Side) (k : ℕ) (bytes : List ℕ) (log : Log) → Holds side log → Holds side (receive side log k bytes)
received-holds side k [] log held = held
received-holds side k (b ∷ bytes) log held = received-holds side k bytes (cond (is_open log) (log_and_flush side log (Received k b)) log) (by (is_open log))
  where
    by : (c : Bool) → Holds side (cond c (log_and_flush side log (Received k b)) log)
    by true = flush-holds side log (Received k b) (entry-holds side log held (Received k b) tt)
    by false = held

pub turn-holds : (side : Side) (log : Log) (turn : Turn) → Holds side log → is_lawful side log turn ≡ true → Holds side (log_after side log turn)
turn-holds side log (turns.Call c) held lawful = (call-leads side log held c lawful).holds
turn-holds side log (turns.Bytes id piece) held lawful = received-holds side id piece log held
turn-holds side log (turns.Connected uni bi total fact) held lawful = event-holds side log held _
turn-holds side log turns.PeerUni held lawful = event-holds side log held _
turn-holds side log turns.PeerBi held lawful = event-holds side log held _
turn-holds side log (turns.End id) held lawful = event-holds side log held _
turn-holds side log (turns.Reset id code) held lawful = event-holds side log held _
turn-holds side log (turns.Stop id code) held lawful = event-holds side log held _
turn-holds side log (turns.Acked id) held lawful = event-holds side log held _
turn-holds side log (turns.Datagram piece) held lawful = event-holds side log held _
turn-holds side log (turns.MaxUni total) held lawful = event-holds side log held _
turn-holds side log (turns.MaxBi total) held lawful = event-holds side log held _
turn-holds side log (turns.MaxData id total) held lawful = event-holds side log held _
turn-holds side log (turns.DatagramLimit fact) held lawful = event-holds side log held _
turn-holds side log (turns.Loss reason) held lawful = event-holds side log held _

-- every log that lawful turns lead to
pub turns-hold : (side : Side) (all : List Turn) (log : Log) → Holds side log → AllLawful side log all → Holds side (log_from side log all)
turns-hold side [] log held lawful = held
turns-hold side (turn ∷ later) log held lawful = turns-hold side later (log_after side log turn) (turn-holds side log turn held lawful.0) lawful.1

pub turns-fit : (side : Side) (all : List Turn) → AllLawful side [] all → Fits side (log_from side [] all)
turns-fit side all lawful = (turns-hold side all [] (start-holds side) lawful).fits
