-- A short run of a server, for worked rows: one unidirectional stream, three bytes of credit.
use Rattle.std.specs.Prelude.{ℕ, [], ◌∷◌}
use Rattle.wt_turn.specs.declared.action.Action.TheVariants as actions
use Rattle.wt_turn.specs.declared.datagram_fact.DatagramFact.TheVariants.{Limit}
use Rattle.wt_turn.specs.declared.turn.Turn.TheVariants as turns
use Rattle.wt_turn.specs.Log.{Log, with_actions}
use Rattle.wt_turn.specs.Arrivals.{log_turn}

-- a connection with one unidirectional stream and three bytes of credit
abbrev pub connected_log : Log
connected_log = log_turn [] (turns.Connected 1 0 3 (Limit 1200))

-- the stream is opened
abbrev pub log_with_stream : Log
log_with_stream = with_actions (actions.Opened 3 ∷ []) connected_log

-- all of its credit is used
abbrev pub sent_log : Log
sent_log = with_actions (actions.Send 3 (97 ∷ 98 ∷ 99 ∷ []) ∷ []) log_with_stream

-- the peer opened a stream, on which two bytes came
abbrev pub received_log : Log
received_log = log_turn (log_turn sent_log turns.PeerUni) (turns.Bytes 2 (97 ∷ 98 ∷ []))

-- this end closed the connection
abbrev pub closed_log : Log
closed_log = with_actions (actions.Close 5 [] ∷ []) received_log
