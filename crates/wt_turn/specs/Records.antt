-- How the code's records stand for those of the log.
use Rattle.wt_turn.specs.declared.record.Record.{Record}
use Rattle.wt_turn.specs.declared.record.Record.TheVariants as records
use Rattle.wt_turn.specs.Log as log

-- the record of the log
abbrev pub record_of : Record → log.CallRecord
record_of (records.ConnectStarted reserved head) = log.ConnectStarted reserved head
record_of (records.RequestDelivered id) = log.RequestDelivered id
record_of (records.ResponseStarted accepts head) = log.ResponseStarted accepts head
record_of (records.RequestRejected id) = log.RequestRejected id
record_of records.AcceptanceFailed = log.AcceptanceFailed
record_of records.HandshakeOver = log.HandshakeOver
record_of (records.SessionEstablished id offset) = log.SessionEstablished id offset
record_of (records.StreamAccepted id session) = log.StreamAccepted id session
record_of (records.StreamPassed id) = log.StreamPassed id
record_of (records.OpeningStarted id session) = log.OpeningStarted id session
record_of (records.OpeningFailed id) = log.OpeningFailed id
record_of (records.BytesRead id count) = log.BytesRead id count
record_of (records.StreamGivenUp id) = log.StreamGivenUp id
record_of (records.ResetUnsent id code) = log.ResetUnsent id code
record_of (records.PrioritySet id priority) = log.PrioritySet id priority
record_of (records.DatagramReceived index) = log.DatagramReceived index
record_of records.DatagramPassed = log.DatagramPassed
record_of records.Polled = log.Polled
