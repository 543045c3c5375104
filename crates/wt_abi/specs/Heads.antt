-- A head and bytes for each turn: what `turn_of` gives back.
use Rattle.std.specs.Prelude.{◌≡◌, ◌<◌, ◌+◌, ◌/◌, ◌%◌, ◌^◌, ℕ, pos, List, [], ◌∷◌, ◌++◌, length, Option, Some, None, true}
use Rattle.std.specs.Int.{to_le_bytes, w64}
use Rattle.wt_turn.specs.declared.call.Call.{Call}
use Rattle.wt_turn.specs.declared.call.Call.TheVariants as calls
use Rattle.wt_turn.specs.declared.datagram_fact.DatagramFact.{DatagramFact}
use Rattle.wt_turn.specs.declared.datagram_fact.DatagramFact.TheVariants as facts
use Rattle.wt_turn.specs.declared.loss.LossReason.{LossReason}
use Rattle.wt_turn.specs.declared.loss.LossReason.TheVariants as losses
use Rattle.wt_turn.specs.declared.turn.Turn.{Turn}
use Rattle.wt_turn.specs.declared.turn.Turn.TheVariants as turns
use Rattle.wt_wire.specs.HeaderList.{Fields, IsHeaderList}
use Rattle.wt_wire.specs.Utf8.{is_text}
use Rattle.wt_wire.specs.declared.addr.Addr.{Addr}
use Rattle.wt_wire.specs.declared.addr.Addr.TheVariants as addresses
use Rattle.wt_wire.specs.declared.lookup.ConnectOutcome.{ConnectOutcome}
use Rattle.wt_wire.specs.declared.lookup.ConnectOutcome.TheVariants as outcomes
use Rattle.wt_wire.specs.declared.lookup.Lookup.{Lookup}
use Rattle.wt_wire.specs.declared.lookup.Lookup.TheVariants as lookups
use Rattle.wt_abi.specs.Replies.{address_head, no_address}
use Rattle.wt_abi.specs.declared.head.AddressHead.{AddressHead}
use Rattle.wt_abi.specs.declared.head.TurnHead.{TurnHead}

-- ---- what the types of a turn say of its parts

-- an id or a code stands in a variable-length integer
abbrev pub IsVarint : ℕ → Type 0
IsVarint n = n < 2 ^ 62

-- the id of a session is a multiple of 4
abbrev pub IsSession : Option ℕ → Type 0
IsSession None = Unit {0}
IsSession (Some id) = IsVarint id × (id % 4 ≡ 0)

-- a text is UTF-8, and its length a number of 64 bits
pub record IsText (text : List ℕ) : Type 0 where
  pub whole : is_text text ≡ true
  pub short : length text < 2 ^ 64

-- names and values are texts
abbrev pub AreTexts : Fields → Type 0
AreTexts [] = Unit {0}
AreTexts (f ∷ fields) = IsText f.0 × IsText f.1 × AreTexts fields

-- header fields in their order
pub record IsFieldList (fields : Fields) : Type 0 where
  pub ordered : IsHeaderList fields
  pub texts : AreTexts fields

-- an address of IPv4 has 32 bits
abbrev pub IsAddress : Addr → Type 0
IsAddress (addresses.V4 ip port) = ip < 2 ^ 32
IsAddress (addresses.V6 ip port) = Unit {0}

-- a lookup's parts
abbrev pub IsLookup : Lookup → Type 0
IsLookup (lookups.Found address) = IsAddress address
IsLookup lookups.NotFound = Unit {0}
IsLookup (lookups.Fault reason) = IsText reason

-- an outcome's parts
abbrev pub IsOutcome : ConnectOutcome → Type 0
IsOutcome (outcomes.InvalidServerName name) = IsText name
IsOutcome (outcomes.InvalidRemoteAddress address) = IsAddress address
IsOutcome _ = Unit {0}

-- a connect's parts
pub record IsConnect (options : List ℕ × Fields) (lookup : Lookup) (outcome : ConnectOutcome) : Type 0 where
  pub url : IsText options.0
  pub fields : IsFieldList options.1
  pub looked_up : IsLookup lookup
  pub answered : IsOutcome outcome

-- a loss's parts
abbrev pub IsLoss : LossReason → Type 0
IsLoss (losses.TransportError code reason) = IsText reason
IsLoss (losses.ConnectionClosed close) = IsVarint close.code
IsLoss (losses.ApplicationClosed close) = IsVarint close.code
IsLoss _ = Unit {0}

-- ---- the numbers

-- a head of this kind without further numbers
abbrev pub of_kind : ℕ → TurnHead
of_kind kind = record {
  kind = kind;
  choice = 0;
  outcome = 0;
  priority = pos 0;
  id = 0;
  session = 0;
  number = 0;
  uni = 0;
  bi = 0;
  limit = 0;
  fields = 0;
  found = no_address;
  remote = no_address;
}

-- with a stream
abbrev pub on : ℕ → ℕ → TurnHead
on kind id = record (of_kind kind) { id = id }

-- with a stream and a number
abbrev pub coded : ℕ → ℕ → ℕ → TurnHead
coded kind id number = record (on kind id) { number = number }

-- with a session, where one is named
abbrev pub on_session : ℕ → Option ℕ → TurnHead
on_session kind None = of_kind kind
on_session kind (Some id) = record (of_kind kind) { choice = 1; session = id }

-- with what holds of datagrams
abbrev pub with_fact : DatagramFact → TurnHead → TurnHead
with_fact facts.Disabled h = record h { choice = 0 }
with_fact facts.Unsupported h = record h { choice = 1 }
with_fact (facts.Limit limit) h = record h { choice = 2; limit = limit }

-- of a loss, with its choice and its code
abbrev pub lost : ℕ → ℕ → TurnHead
lost choice code = record (of_kind 13) { choice = choice; number = code }

-- the head of a loss
abbrev pub loss_head : LossReason → TurnHead
loss_head losses.VersionMismatch = lost 0 0
loss_head (losses.TransportError code reason) = lost 1 code
loss_head (losses.ConnectionClosed close) = lost 2 close.code
loss_head (losses.ApplicationClosed close) = lost 3 close.code
loss_head losses.Reset = lost 4 0
loss_head losses.TimedOut = lost 5 0
loss_head losses.CidsExhausted = lost 6 0

-- with a lookup
abbrev pub with_lookup : Lookup → TurnHead → TurnHead
with_lookup (lookups.Found address) h = record h { choice = 0; found = address_head address }
with_lookup lookups.NotFound h = record h { choice = 1 }
with_lookup (lookups.Fault reason) h = record h { choice = 2 }

-- with an outcome
abbrev pub with_outcome : ConnectOutcome → TurnHead → TurnHead
with_outcome outcomes.Proceed h = record h { outcome = 0 }
with_outcome outcomes.EndpointStopping h = record h { outcome = 1 }
with_outcome outcomes.CidsExhausted h = record h { outcome = 2 }
with_outcome (outcomes.InvalidServerName name) h = record h { outcome = 3 }
with_outcome (outcomes.InvalidRemoteAddress address) h = record h { outcome = 4; remote = address_head address }

-- the head of a connect
abbrev pub connect_head : Fields → Lookup → ConnectOutcome → TurnHead
connect_head fields lookup outcome = with_outcome outcome (with_lookup lookup (record (of_kind 64) { fields = length fields }))

-- the head of a call
abbrev pub call_head : Call → TurnHead
call_head (calls.Connect options lookup outcome) = connect_head options.1 lookup outcome
call_head calls.Incoming = of_kind 65
call_head (calls.Accept headers) = record (of_kind 66) { fields = length headers }
call_head calls.Forbidden = of_kind 67
call_head calls.NotFound = of_kind 68
call_head calls.TooManyRequests = of_kind 69
call_head calls.Handshake = of_kind 70
call_head (calls.EndpointClose code reason) = coded 71 0 code
call_head (calls.AcceptUni session) = on_session 72 session
call_head (calls.AcceptBi session) = on_session 73 session
call_head (calls.ReceiveDatagram session) = on_session 74 session
call_head (calls.OpenUni session) = on_session 75 session
call_head (calls.OpenBi session) = on_session 76 session
call_head (calls.PollOpening id) = on 77 id
call_head (calls.SendDatagram payload session) = on_session 78 session
call_head (calls.EndSession session) = on_session 79 session
call_head (calls.MaxDatagramSize session) = on_session 80 session
call_head (calls.SessionId session) = on_session 81 session
call_head (calls.Close code reason) = coded 82 0 code
call_head calls.Closed = of_kind 83
call_head (calls.Write id bytes) = on 84 id
call_head (calls.WriteAll id bytes) = on 85 id
call_head (calls.Finish id) = on 86 id
call_head (calls.Stopped id) = on 87 id
call_head (calls.Priority id) = on 88 id
call_head (calls.SetPriority id priority) = record (on 89 id) { priority = priority }
call_head (calls.ResetSend id code) = coded 90 id code
call_head (calls.Read id size) = coded 91 id size
call_head (calls.ReadExact id size) = coded 92 id size
call_head (calls.StopRecv id code) = coded 93 id code

-- the head of a turn
abbrev pub head_of : Turn → TurnHead
head_of (turns.Connected uni bi credit fact) = with_fact fact (record (of_kind 0) { uni = uni; bi = bi; number = credit })
head_of turns.PeerUni = of_kind 1
head_of turns.PeerBi = of_kind 2
head_of (turns.Bytes id piece) = on 3 id
head_of (turns.End id) = on 4 id
head_of (turns.Reset id code) = coded 5 id code
head_of (turns.Stop id code) = coded 6 id code
head_of (turns.Acked id) = on 7 id
head_of (turns.Datagram piece) = of_kind 8
head_of (turns.MaxUni total) = coded 9 0 total
head_of (turns.MaxBi total) = coded 10 0 total
head_of (turns.MaxData id total) = coded 11 id total
head_of (turns.DatagramLimit fact) = with_fact fact (of_kind 12)
head_of (turns.Loss reason) = loss_head reason
head_of (turns.Call call) = call_head call

-- ---- the bytes

-- a text: its length in eight bytes, and its own
abbrev pub text_bytes : List ℕ → List ℕ
text_bytes text = to_le_bytes w64 (length text) ++ text

-- header fields, one after another
abbrev pub fields_bytes : Fields → List ℕ
fields_bytes [] = []
fields_bytes (f ∷ fields) = (text_bytes f.0 ++ text_bytes f.1) ++ fields_bytes fields

-- the text of a lookup
abbrev pub lookup_bytes : Lookup → List ℕ
lookup_bytes (lookups.Fault reason) = text_bytes reason
lookup_bytes _ = []

-- the text of an outcome
abbrev pub outcome_bytes : ConnectOutcome → List ℕ
outcome_bytes (outcomes.InvalidServerName name) = text_bytes name
outcome_bytes _ = []

-- the bytes of a connect
abbrev pub connect_bytes : List ℕ × Fields → Lookup → ConnectOutcome → List ℕ
connect_bytes options lookup outcome = text_bytes options.0 ++ (lookup_bytes lookup ++ (outcome_bytes outcome ++ fields_bytes options.1))

-- the reason of a loss
abbrev pub loss_bytes : LossReason → List ℕ
loss_bytes (losses.TransportError code reason) = reason
loss_bytes (losses.ConnectionClosed close) = close.reason
loss_bytes (losses.ApplicationClosed close) = close.reason
loss_bytes _ = []

-- the bytes of a call
abbrev pub call_bytes : Call → List ℕ
call_bytes (calls.Connect options lookup outcome) = connect_bytes options lookup outcome
call_bytes (calls.Accept headers) = fields_bytes headers
call_bytes (calls.EndpointClose code reason) = reason
call_bytes (calls.SendDatagram payload session) = payload
call_bytes (calls.Close code reason) = reason
call_bytes (calls.Write id bytes) = bytes
call_bytes (calls.WriteAll id bytes) = bytes
call_bytes _ = []

-- the bytes of a turn
abbrev pub bytes_of : Turn → List ℕ
bytes_of (turns.Bytes id piece) = piece
bytes_of (turns.Datagram piece) = piece
bytes_of (turns.Loss reason) = loss_bytes reason
bytes_of (turns.Call call) = call_bytes call
bytes_of _ = []

-- what the types say of a call
abbrev pub IsCall : Call → Type 0
IsCall (calls.Connect options lookup outcome) = IsConnect options lookup outcome
IsCall (calls.Accept headers) = IsFieldList headers
IsCall (calls.EndpointClose code reason) = IsVarint code
IsCall (calls.AcceptUni session) = IsSession session
IsCall (calls.AcceptBi session) = IsSession session
IsCall (calls.ReceiveDatagram session) = IsSession session
IsCall (calls.OpenUni session) = IsSession session
IsCall (calls.OpenBi session) = IsSession session
IsCall (calls.PollOpening id) = IsVarint id
IsCall (calls.SendDatagram payload session) = IsSession session
IsCall (calls.EndSession session) = IsSession session
IsCall (calls.MaxDatagramSize session) = IsSession session
IsCall (calls.SessionId session) = IsSession session
IsCall (calls.Close code reason) = IsVarint code
IsCall (calls.Write id bytes) = IsVarint id
IsCall (calls.WriteAll id bytes) = IsVarint id
IsCall (calls.Finish id) = IsVarint id
IsCall (calls.Stopped id) = IsVarint id
IsCall (calls.Priority id) = IsVarint id
IsCall (calls.SetPriority id priority) = IsVarint id
IsCall (calls.ResetSend id code) = IsVarint id × IsVarint code
IsCall (calls.Read id size) = IsVarint id
IsCall (calls.ReadExact id size) = IsVarint id
IsCall (calls.StopRecv id code) = IsVarint id × IsVarint code
IsCall _ = Unit {0}

-- what the types say of a turn
abbrev pub IsTurn : Turn → Type 0
IsTurn (turns.Bytes id piece) = IsVarint id
IsTurn (turns.End id) = IsVarint id
IsTurn (turns.Reset id code) = IsVarint id × IsVarint code
IsTurn (turns.Stop id code) = IsVarint id × IsVarint code
IsTurn (turns.Acked id) = IsVarint id
IsTurn (turns.MaxData id total) = IsVarint id
IsTurn (turns.Loss reason) = IsLoss reason
IsTurn (turns.Call call) = IsCall call
IsTurn _ = Unit {0}
