-- What each answer of the code meets: its numbers, ids, bytes and texts are those of their types.
use Rattle.std.specs.Prelude.{◌≡◌, ◌<◌, ◌%◌, ◌^◌, ℕ, ℤ, pos, negsuc, IfSome, List, Option, Some, None}
use Rattle.std.specs.List.{AllByRecursion}
use Rattle.std.specs.Str.{IsUtf8}
use Rattle.hex.specs.Hex.{IsBytes}
use Rattle.wt_wire.specs.HeaderList.{Fields, IsHeaderList}
use Rattle.wt_wire.specs.declared.addr.Addr.{Addr}
use Rattle.wt_wire.specs.declared.addr.Addr.TheVariants as addresses
use Rattle.wt_turn.specs.Close.{Close}
use Rattle.wt_turn.specs.declared.action.Action.{Action}
use Rattle.wt_turn.specs.declared.action.Action.TheVariants as actions
use Rattle.wt_turn.specs.declared.answer.Answer.{Answer}
use Rattle.wt_turn.specs.declared.connecting_error.ConnectingError.{ConnectingError}
use Rattle.wt_turn.specs.declared.connecting_error.ConnectingError.TheVariants as connecting
use Rattle.wt_turn.specs.declared.connection_error.ConnectionError.{ConnectionError}
use Rattle.wt_turn.specs.declared.connection_error.ConnectionError.TheVariants as connection
use Rattle.wt_turn.specs.declared.reply.Reply.{Reply}
use Rattle.wt_turn.specs.declared.reply.Reply.TheVariants as replies
use Rattle.wt_turn.specs.declared.stream_error.StreamReadError.{StreamReadError}
use Rattle.wt_turn.specs.declared.stream_error.StreamReadError.TheVariants as reads
use Rattle.wt_turn.specs.declared.stream_error.StreamReadExactError.{StreamReadExactError}
use Rattle.wt_turn.specs.declared.stream_error.StreamReadExactError.TheVariants as exacts
use Rattle.wt_turn.specs.declared.stream_error.StreamWriteError.{StreamWriteError}
use Rattle.wt_turn.specs.declared.stream_error.StreamWriteError.TheVariants as writes

-- the id of a stream, or a code (RFC 9000, section 16)
abbrev pub IsId : ℕ → Type 0
IsId n = n < 2 ^ 62

-- a number of 64 bits
abbrev pub IsCount : ℕ → Type 0
IsCount n = n < 2 ^ 64

-- the id of a session: that of its stream, a multiple of 4 (RFC 9000, section 2.1)
abbrev pub IsSession : ℕ → Type 0
IsSession id = (id < 2 ^ 62) × (id % 4 ≡ 0)

-- a signed number of 32 bits
abbrev pub IsPriority : ℤ → Type 0
IsPriority (pos n) = n < 2 ^ 31
IsPriority (negsuc n) = n < 2 ^ 31

-- a text, by its bytes (RFC 3629)
abbrev pub IsText : List ℕ → Type 0
IsText text = IsUtf8 text × IsBytes text

-- fields in their order
abbrev pub AreFields : Fields → Type 0
AreFields fields = IsHeaderList fields × AllByRecursion (λ (f : List ℕ × List ℕ). IsText f.0 × IsText f.1) fields

-- an address
abbrev pub IsAddress : Addr → Type 0
IsAddress (addresses.V4 ip port) = (ip < 2 ^ 32) × (port < 2 ^ 16)
IsAddress (addresses.V6 ip port) = (ip < 2 ^ 128) × (port < 2 ^ 16)

-- a close of the peer
abbrev pub IsClose : Close → Type 0
IsClose close = IsId close.code × IsBytes close.reason

-- how a connection ended
abbrev pub IsEnd : ConnectionError → Type 0
IsEnd (connection.ConnectionClosed close) = IsClose close
IsEnd (connection.ApplicationClosed close) = IsClose close
IsEnd (connection.QuicProto error) = IfSome error.code IsId × IsText error.reason
IsEnd _ = Unit {0}

-- why a connect failed
abbrev pub IsConnecting : ConnectingError → Type 0
IsConnecting (connecting.DnsLookup reason) = IsText reason
IsConnecting (connecting.ConnectionError error) = IsEnd error
IsConnecting (connecting.ReservedHeader name) = IsText name
IsConnecting (connecting.InvalidServerName name) = IsText name
IsConnecting (connecting.InvalidRemoteAddress address) = IsAddress address
IsConnecting _ = Unit {0}

-- why nothing could be written
abbrev pub IsWriteError : StreamWriteError → Type 0
IsWriteError (writes.Stopped code) = IsId code
IsWriteError _ = Unit {0}

-- why nothing could be read
abbrev pub IsReadError : StreamReadError → Type 0
IsReadError (reads.Reset code) = IsId code
IsReadError _ = Unit {0}

-- why fewer bytes were read
abbrev pub IsExactError : StreamReadExactError → Type 0
IsExactError (exacts.FinishedEarly count) = IsCount count
IsExactError (exacts.Read error) = IsReadError error

-- what the caller is answered
abbrev pub IsReply : Reply → Type 0
IsReply (replies.Request id headers) = IsSession id × AreFields headers
IsReply (replies.Session id) = IsSession id
IsReply (replies.Uni id) = IsId id
IsReply (replies.Bi id) = IsId id
IsReply (replies.Opening id) = IsId id
IsReply (replies.SendReady id) = IsId id
IsReply (replies.BiReady id) = IsId id
IsReply (replies.Id id) = IsSession id
IsReply (replies.Datagram piece) = IsBytes piece
IsReply (replies.Size size) = IfSome size IsCount
IsReply (replies.Written count) = IsCount count
IsReply (replies.Count count) = IsCount count
IsReply (replies.Priority priority) = IsPriority priority
IsReply (replies.Read read) = IfSome read IsBytes
IsReply (replies.Exact piece) = IsBytes piece
IsReply (replies.Failed error) = IsEnd error
IsReply (replies.Closed error) = IsEnd error
IsReply (replies.ConnectFailed error) = IsConnecting error
IsReply (replies.WriteFailed error) = IsWriteError error
IsReply (replies.StoppedBy error) = IsWriteError error
IsReply (replies.ReadFailed error) = IsReadError error
IsReply (replies.ExactFailed error piece) = IsExactError error × IsBytes piece
IsReply _ = Unit {0}

-- what goes out
abbrev pub IsAction : Action → Type 0
IsAction (actions.Dial address name) = IsAddress address × IsText name
IsAction (actions.Opened id) = IsId id
IsAction (actions.Send id piece) = IsId id × IsBytes piece
IsAction (actions.Finish id) = IsId id
IsAction (actions.ResetOut id code) = IsId id × IsId code
IsAction (actions.StopOut id code) = IsId id × IsId code
IsAction (actions.DatagramOut piece) = IsBytes piece
IsAction (actions.Close code reason) = IsId code × IsBytes reason

-- an answer
abbrev pub IsAnswer : Answer → Type 0
IsAnswer a = IsReply a.reply × AllByRecursion IsAction a.actions
