-- What a connect carries, and why a connection is lost: numbers of the head, and texts in front of the bytes.
use Rattle.std.specs.Prelude.{ℕ, ◌==◌, List, Option, Some, None, if◌then◌else◌}
use Rattle.std.specs.Option.{option_and_then, option_map}
use Rattle.wt_turn.specs.Close.{Close}
use Rattle.wt_turn.specs.declared.call.Call.{Call}
use Rattle.wt_turn.specs.declared.call.Call.TheVariants as calls
use Rattle.wt_turn.specs.declared.loss.LossReason.{LossReason}
use Rattle.wt_turn.specs.declared.loss.LossReason.TheVariants as losses
use Rattle.wt_wire.specs.declared.lookup.ConnectOutcome.{ConnectOutcome}
use Rattle.wt_wire.specs.declared.lookup.ConnectOutcome.TheVariants as outcomes
use Rattle.wt_wire.specs.declared.lookup.Lookup.{Lookup}
use Rattle.wt_wire.specs.declared.lookup.Lookup.TheVariants as lookups
use Rattle.wt_abi.specs.declared.head.TurnHead.{TurnHead}
use Rattle.wt_abi.specs.Numbers.{address_of, code_of}
use Rattle.wt_abi.specs.Texts.{as_text, fields_of, text_at}

-- a close with this reason and the head's code
abbrev pub close_of : TurnHead → List ℕ → Option Close
close_of h reason = option_map (λ code. record { code = code; reason = reason }) (code_of h)

-- why the connection is lost, by the choice
abbrev pub loss_of : TurnHead → List ℕ → Option LossReason
loss_of h bytes =
    if h.choice == 0 then Some losses.VersionMismatch else
    (if h.choice == 1 then option_map (losses.TransportError h.number) (as_text bytes) else
    (if h.choice == 2 then option_map losses.ConnectionClosed (close_of h bytes) else
    (if h.choice == 3 then option_map losses.ApplicationClosed (close_of h bytes) else
    (if h.choice == 4 then Some losses.Reset else
    (if h.choice == 5 then Some losses.TimedOut else
    (if h.choice == 6 then Some losses.CidsExhausted else None))))))

-- what a resolver answers, by the choice, and the bytes after it
abbrev pub lookup_at : TurnHead → List ℕ → Option (Lookup × List ℕ)
lookup_at h bytes =
    if h.choice == 0 then option_map (λ address. (lookups.Found address, bytes)) (address_of h.found) else
    (if h.choice == 1 then Some (lookups.NotFound, bytes) else
    (if h.choice == 2 then option_map (λ reason. (lookups.Fault reason.0, reason.1)) (text_at bytes) else None))

-- what QUIC answers, by the outcome, and the bytes after it
abbrev pub outcome_at : TurnHead → List ℕ → Option (ConnectOutcome × List ℕ)
outcome_at h bytes =
    if h.outcome == 0 then Some (outcomes.Proceed, bytes) else
    (if h.outcome == 1 then Some (outcomes.EndpointStopping, bytes) else
    (if h.outcome == 2 then Some (outcomes.CidsExhausted, bytes) else
    (if h.outcome == 3 then option_map (λ name. (outcomes.InvalidServerName name.0, name.1)) (text_at bytes) else
    (if h.outcome == 4 then option_map (λ address. (outcomes.InvalidRemoteAddress address, bytes)) (address_of h.remote) else None))))

-- the additional header fields, after what a resolver and QUIC answered
abbrev pub connect_to : TurnHead → List ℕ → Lookup → (ConnectOutcome × List ℕ) → Option Call
connect_to h url lookup outcome = option_map (λ fields. calls.Connect (url, fields) lookup outcome.0) (fields_of h.fields outcome.1)

-- what QUIC answers and the fields, after what a resolver answered
abbrev pub connect_after : TurnHead → List ℕ → (Lookup × List ℕ) → Option Call
connect_after h url lookup = option_and_then (connect_to h url lookup.0) (outcome_at h lookup.1)

-- a connect: the URL is the first text of the bytes, and the fields are the last ones
abbrev pub connect_of : TurnHead → List ℕ → Option Call
connect_of h bytes = option_and_then (λ url. option_and_then (connect_after h url.0) (lookup_at h url.1)) (text_at bytes)
