-- What the application has after a call is told by the call's reply: the one law, by the calls.
use Rattle.std.proofs.Common.{refl}
use Rattle.std.specs.Prelude.{[], codes}
use Rattle.url.specs.Parser.{parse_url}
use Rattle.std.specs.Prelude.{None}
use Rattle.wt_meaning.specs.Targets.{target_of}
use Rattle.wt_message.specs.FixedBytes.{response_bytes}
use Rattle.wt_core.proofs.After.{LeadsTo, bi-leads, ends-lead, exacts-lead, keeps, next-bi, next-uni, of-half, of-session, opens-leads, own-bi, own-uni, polls, polls-lead, priorities-lead, reads-lead, receives-lead, resets-lead, sends-lead, stops-lead, uni-leads, writes-lead}
use Rattle.wt_core.proofs.Shakes.{accept-leads, dial-leads, handshake-leads, incoming-leads, reject-leads}
use Rattle.wt_core.specs.Held.{Held, Holds, Orderly, held_after}
use Rattle.wt_turn.specs.Outgoing.{if_open}
use Rattle.wt_turn.specs.Reports.{datagram_fact}
use Rattle.wt_turn.specs.Streams.{local_bi, local_uni, stream_count}
use Rattle.wt_sessions.specs.Answers.{call_effect, named_session}
use Rattle.wt_sessions.specs.Connection.{close_connection, closed_reply, payload_limit, receive_datagram, send_datagram}
use Rattle.wt_sessions.specs.Effect.{poll_only}
use Rattle.wt_sessions.specs.Halves.{all_written_reply, finish, finish_once, has_receiving_half, has_sending_half, priority, read, read_exact, reset, set_priority, stopped, write, write_all, write_error, written_reply}
use Rattle.wt_sessions.specs.Handshake.{response_head}
use Rattle.wt_turn.specs.Log.{Log, events_of}
use Rattle.wt_turn.specs.declared.action.Action.TheVariants as actions
use Rattle.wt_turn.specs.declared.call.Call.{Call}
use Rattle.wt_turn.specs.declared.call.Call.TheVariants as calls
use Rattle.wt_turn.specs.declared.reply.Reply.TheVariants as replies
use Rattle.wt_wire.specs.declared.side.Side.{Side}

module _ (side : Side) (log : Log) (h : Held) (x : Holds side h log) (o : Orderly side log) where
  pub leads : (call : Call) → LeadsTo side (held_after call) h log (call_effect side log call)
  unfolding call_effect
  leads (calls.Connect options lookup outcome) = dial-leads side log h x (target_of (parse_url None options.0) options.1 lookup outcome)
  leads calls.Incoming = incoming-leads side log h x
  leads (calls.Accept headers) = accept-leads side log h x (response_head (codes "200") headers)
  leads calls.Forbidden = reject-leads side log h x (response_bytes (codes "403"))
  leads calls.NotFound = reject-leads side log h x (response_bytes (codes "404"))
  leads calls.TooManyRequests = reject-leads side log h x (response_bytes (codes "429"))
  leads calls.Handshake = handshake-leads side log h x
  leads (calls.EndpointClose code reason) = polls side log h x (if_open log (actions.Close code reason)) replies.Done
  leads (calls.AcceptUni name) = uni-leads side log h x name
  leads (calls.AcceptBi name) = bi-leads side log h x name
  leads (calls.ReceiveDatagram name) = of-session side log h x (keeps side log h x) (named_session log name) (receive_datagram side log) refl (λ s e. receives-lead side log h x s)
  leads (calls.OpenUni name) = opens-leads side log h x (local_uni side) name (own-uni side _ (next-uni side (stream_count side log (local_uni side)))) o.fresh_uni
  leads (calls.OpenBi name) = opens-leads side log h x (local_bi side) name (own-bi side _ (next-bi side (stream_count side log (local_bi side)))) o.fresh_bi
  leads (calls.PollOpening id) = polls-lead side log h x id
  leads (calls.SendDatagram payload name) = of-session side log h x (keeps side log h x) (named_session log name) (send_datagram side log payload) refl (λ s e. sends-lead side log h x payload s)
  leads (calls.MaxDatagramSize name) = of-session side log h x (keeps side log h x) (named_session log name) (λ s. poll_only side log (replies.Size (payload_limit s (datagram_fact (events_of log))))) refl (λ s e. polls side log h x [] _)
  leads (calls.SessionId name) = of-session side log h x (keeps side log h x) (named_session log name) (λ s. poll_only side log (replies.Id s)) refl (λ s e. polls side log h x [] _)
  leads (calls.EndSession name) = ends-lead side log h x name (o.answered name)
  leads (calls.Close code reason) = of-session side log h x (keeps side log h x) (named_session log None) (λ s. close_connection side log code reason) refl (λ s e. polls side log h x (if_open log (actions.Close code reason)) replies.Done)
  leads calls.Closed = of-session side log h x (keeps side log h x) (named_session log None) (λ s. poll_only side log (closed_reply log)) refl (λ s e. polls side log h x [] _)
  leads (calls.Write id bytes) = of-half side log h x (keeps side log h x) (has_sending_half side log id) id (λ k. write side log k bytes) refl (writes-lead side log h x written_reply id bytes (write_error log id))
  leads (calls.WriteAll id bytes) = of-half side log h x (keeps side log h x) (has_sending_half side log id) id (λ k. write_all side log k bytes) refl (writes-lead side log h x all_written_reply id bytes (write_error log id))
  leads (calls.Finish id) = of-half side log h x (keeps side log h x) (has_sending_half side log id) id (λ k. finish side log k) refl (polls side log h x (finish_once log id) _)
  leads (calls.Stopped id) = of-half side log h x (keeps side log h x) (has_sending_half side log id) id (λ k. stopped side log k) refl (polls side log h x [] _)
  leads (calls.Priority id) = of-half side log h x (keeps side log h x) (has_sending_half side log id) id (λ k. priority side log k) refl (polls side log h x [] _)
  leads (calls.SetPriority id p) = of-half side log h x (keeps side log h x) (has_sending_half side log id) id (λ k. set_priority side log k p) refl (priorities-lead side log h x id p)
  leads (calls.ResetSend id code) = of-half side log h x (keeps side log h x) (has_sending_half side log id) id (λ k. reset side log k code) refl (resets-lead side log h x id code)
  leads (calls.Read id size) = of-half side log h x (keeps side log h x) (has_receiving_half side log id) id (λ k. read side log k size) refl (reads-lead side log h x id size)
  leads (calls.ReadExact id size) = of-half side log h x (keeps side log h x) (has_receiving_half side log id) id (λ k. read_exact side log k size) refl (exacts-lead side log h x id size)
  leads (calls.StopRecv id code) = stops-lead side log h x id code (has_receiving_half side log id) refl
