-- How a connect begins: its target is that of `wt_meaning`, by the URL, the lookup of its host, and what QUIC makes of it.
use Rattle.std.specs.Prelude.{[], ◌∷◌, Err, List, None, Ok, Result, ℕ}
use Rattle.url.specs.Parser.{parse_url}
use Rattle.wt_meaning.specs.Targets.{Target, target_of}
use Rattle.wt_sessions.specs.Effect.{Effect, log_call, reply_with}
use Rattle.wt_sessions.specs.Handshake.{fail_connect}
use Rattle.wt_turn.specs.Log.{ConnectStarted, Log}
use Rattle.wt_turn.specs.declared.connecting_error.ConnectingError.{ConnectingError}
use Rattle.wt_wire.specs.HeaderList.{Fields}
use Rattle.wt_wire.specs.declared.lookup.ConnectOutcome.{ConnectOutcome}
use Rattle.wt_wire.specs.declared.lookup.Lookup.{Lookup}
use Rattle.wt_wire.specs.declared.side.Side.{Side}
use Rattle.wt_turn.specs.declared.action.Action.TheVariants as actions
use Rattle.wt_turn.specs.declared.reply.Reply.TheVariants as replies

-- the connect fails before its dial, or QUIC is asked for a connection to its target
abbrev pub dial : Side → Log → Result Target ConnectingError → Effect
dial side log (Err e) = fail_connect side log [] e
dial side log (Ok t) = reply_with (log_call side log (actions.Dial t.address t.name ∷ []) (ConnectStarted t.reserved t.frame)) replies.Pending

-- a client's connect to the URL of this text
abbrev pub connect : Side → Log → List ℕ → Fields → Lookup → ConnectOutcome → Effect
connect side log text headers lookup outcome = dial side log (target_of (parse_url None text) headers lookup outcome)
