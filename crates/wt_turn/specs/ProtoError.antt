-- What a lost connection is reported as.
use Rattle.std.specs.Prelude.{ℕ, ◌^◌, List, codes, Option, Some, None, nat_lt, if◌then◌else◌}
use Rattle.wt_turn.specs.declared.loss.LossReason.{LossReason}
use Rattle.wt_turn.specs.declared.loss.LossReason.TheVariants as losses
use Rattle.wt_turn.specs.declared.connection_error.ConnectionError.{ConnectionError}
use Rattle.wt_turn.specs.declared.connection_error.ConnectionError.TheVariants as errors

-- a code that stands in a variable-length integer (RFC 9000, section 16)
abbrev pub code_in_range : ℕ → Option ℕ
code_in_range code = if nat_lt code (2 ^ 62) then Some code else None

-- an error of the QUIC protocol with this code and reason
abbrev pub proto_error : Option ℕ → List ℕ → ConnectionError
proto_error code reason = errors.QuicProto (record { code = code; reason = reason })

-- the error that a lost connection answers from then on
abbrev pub error_of_loss : LossReason → ConnectionError
error_of_loss losses.VersionMismatch = proto_error None (codes "QUIC protocol version mismatched")
error_of_loss (losses.TransportError code reason) = proto_error (code_in_range code) reason
error_of_loss (losses.ConnectionClosed close) = errors.ConnectionClosed close
error_of_loss (losses.ApplicationClosed close) = errors.ApplicationClosed close
error_of_loss losses.Reset = proto_error None (codes "connection has been reset")
error_of_loss losses.TimedOut = errors.TimedOut
error_of_loss losses.CidsExhausted = errors.CidsExhausted
