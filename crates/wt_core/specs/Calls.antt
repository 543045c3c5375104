-- Calls by the kind of value that each is made on.
use Rattle.std.specs.Prelude.{Bool, None, Option, Some, false, true, ℕ}
use Rattle.wt_turn.specs.declared.call.Call.{Call}
use Rattle.wt_turn.specs.declared.call.Call.TheVariants as calls

-- the stream on whose sending half the call is made
abbrev pub sending_id : Call → Option ℕ
sending_id (calls.Write id bytes) = Some id
sending_id (calls.WriteAll id bytes) = Some id
sending_id (calls.Finish id) = Some id
sending_id (calls.Stopped id) = Some id
sending_id (calls.Priority id) = Some id
sending_id (calls.SetPriority id priority) = Some id
sending_id (calls.ResetSend id code) = Some id
sending_id _ = None

-- the stream on whose receiving half the call is made, which stays
abbrev pub receiving_id : Call → Option ℕ
receiving_id (calls.Read id size) = Some id
receiving_id (calls.ReadExact id size) = Some id
receiving_id _ = None

-- the name of the session on which the call is made
abbrev pub session_name : Call → Option (Option ℕ)
session_name (calls.AcceptUni name) = Some name
session_name (calls.AcceptBi name) = Some name
session_name (calls.OpenUni name) = Some name
session_name (calls.OpenBi name) = Some name
session_name (calls.ReceiveDatagram name) = Some name
session_name (calls.SendDatagram payload name) = Some name
session_name (calls.MaxDatagramSize name) = Some name
session_name (calls.SessionId name) = Some name
session_name (calls.EndSession name) = Some name
session_name (calls.Close code reason) = Some None
session_name calls.Closed = Some None
session_name _ = None

-- the same call on this session
abbrev pub named_so : ℕ → Call → Call
named_so s (calls.AcceptUni name) = calls.AcceptUni (Some s)
named_so s (calls.AcceptBi name) = calls.AcceptBi (Some s)
named_so s (calls.OpenUni name) = calls.OpenUni (Some s)
named_so s (calls.OpenBi name) = calls.OpenBi (Some s)
named_so s (calls.ReceiveDatagram name) = calls.ReceiveDatagram (Some s)
named_so s (calls.SendDatagram payload name) = calls.SendDatagram payload (Some s)
named_so s (calls.MaxDatagramSize name) = calls.MaxDatagramSize (Some s)
named_so s (calls.SessionId name) = calls.SessionId (Some s)
named_so s (calls.EndSession name) = calls.EndSession (Some s)
named_so s call = call

-- the call begins a handshake, or goes on with it
abbrev pub is_handshake : Call → Bool
is_handshake (calls.Connect options lookup outcome) = true
is_handshake calls.Incoming = true
is_handshake (calls.Accept headers) = true
is_handshake calls.Forbidden = true
is_handshake calls.NotFound = true
is_handshake calls.TooManyRequests = true
is_handshake calls.Handshake = true
is_handshake _ = false
