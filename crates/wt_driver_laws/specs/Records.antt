-- Records of calls that a driver needn't be told: what it keeps says nothing of them.
use Rattle.std.specs.Prelude.{Bool, false, true}
use Rattle.wt_turn.specs.Log.{AcceptanceFailed, CallRecord, ConnectStarted, HandshakeOver, OpeningFailed, Polled, ResponseStarted}

-- nothing that a driver keeps changes by the record
abbrev pub is_unnoticed : CallRecord → Bool
is_unnoticed Polled = true
is_unnoticed (ConnectStarted reserved head) = true
is_unnoticed (ResponseStarted accepts head) = true
is_unnoticed AcceptanceFailed = true
is_unnoticed HandshakeOver = true
is_unnoticed (OpeningFailed id) = true
is_unnoticed _ = false
