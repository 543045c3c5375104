-- What holds of every log that lawful turns lead to, and of which no code is asked (laws of the definitions).
use Rattle.std.specs.Prelude.{[], ◌≡◌, List, Option, false, true, ℕ}
use Rattle.wt_meaning.specs.Lawful.{is_client}
use Rattle.wt_driver_laws.specs.Handing.{is_at_hand}
use Rattle.wt_turn.specs.Sent.{is_finished, is_reset, sent_on}
use Rattle.wt_turn.specs.Streams.{can_send, local_bi, local_count}
use Rattle.wt_sessions.specs.Driver.{call_view}
use Rattle.wt_sessions.specs.Handshake.{Connecting, Requested, Responding, handshake_state, requested_stream}
use Rattle.wt_sessions.specs.StreamTable.{was_established}
use Rattle.wt_turn.specs.Log.{Log, actions_of, calls_of}
use Rattle.wt_wire.specs.declared.side.Side.{Side}

-- a request at hand: a server's, it was delivered, its session neither began nor is gone by a call; its stream is there and wasn't reset; nothing
-- goes out on it before its response begins, and it is finished by a rejection alone
pub record RequestLaws (side : Side) (log : Log) (id : ℕ) : Type 0 where
  pub server : is_client side ≡ false
  pub delivered : (call_view log).delivered id ≡ true
  pub unestablished : was_established (call_view log) id ≡ false
  pub unended : (call_view log).ended id ≡ false
  pub can : can_send side log id ≡ true
  pub reset : is_reset log id ≡ false
  pub unsent : handshake_state (calls_of log) ≡ Requested id → sent_on (actions_of log) id ≡ []
  pub unfinished : handshake_state (calls_of log) ≡ Requested id → is_finished (actions_of log) id ≡ false
  pub accepting : (head : List ℕ) → handshake_state (calls_of log) ≡ Responding true head → is_finished (actions_of log) id ≡ false

-- a connect that goes on: no session began; nothing goes out on its stream before that is opened, and it was neither finished nor reset
pub record ConnectLaws (side : Side) (log : Log) : Type 0 where
  pub unestablished : (call_view log).sessions ≡ []
  pub unsent : local_count (actions_of log) (local_bi side) ≡ 0 → sent_on (actions_of log) (local_bi side) ≡ []
  pub finished : is_finished (actions_of log) (local_bi side) ≡ false
  pub reset : is_reset log (local_bi side) ≡ false

-- of a log of lawful turns
pub record LogLaws (side : Side) (log : Log) : Type 0 where
  pub asked : is_at_hand (handshake_state (calls_of log)) ≡ true → RequestLaws side log (requested_stream (calls_of log))
  pub dialling : (reserved : Option (List ℕ)) (head : List ℕ) → handshake_state (calls_of log) ≡ Connecting reserved head → ConnectLaws side log
