-- The head of a reply, and what stands beside it: its bytes and its header fields. The numbers of each table go in the order of its type.
use Rattle.std.specs.Prelude.{ℕ, ℤ, pos, ◌/◌, ◌%◌, ◌^◌, List, [], length, Option, Some, None}
use Rattle.wt_turn.specs.declared.answer.Answer.{Answer}
use Rattle.wt_turn.specs.declared.connecting_error.ConnectingError.{ConnectingError}
use Rattle.wt_turn.specs.declared.connecting_error.ConnectingError.TheVariants as connecting
use Rattle.wt_turn.specs.declared.connecting_error.UrlRefusal.{UrlRefusal}
use Rattle.wt_turn.specs.declared.connecting_error.UrlRefusal.TheVariants as refusals
use Rattle.wt_turn.specs.declared.connection_error.ConnectionError.{ConnectionError}
use Rattle.wt_turn.specs.declared.connection_error.ConnectionError.TheVariants as connection
use Rattle.wt_turn.specs.declared.reply.Reply.{Reply}
use Rattle.wt_turn.specs.declared.reply.Reply.TheVariants as replies
use Rattle.wt_turn.specs.declared.stream_error.SendDatagramError.{SendDatagramError}
use Rattle.wt_turn.specs.declared.stream_error.SendDatagramError.TheVariants as datagrams
use Rattle.wt_turn.specs.declared.stream_error.StreamOpeningError.{StreamOpeningError}
use Rattle.wt_turn.specs.declared.stream_error.StreamOpeningError.TheVariants as openings
use Rattle.wt_turn.specs.declared.stream_error.StreamReadError.{StreamReadError}
use Rattle.wt_turn.specs.declared.stream_error.StreamReadError.TheVariants as reads
use Rattle.wt_turn.specs.declared.stream_error.StreamReadExactError.{StreamReadExactError}
use Rattle.wt_turn.specs.declared.stream_error.StreamReadExactError.TheVariants as exacts
use Rattle.wt_turn.specs.declared.stream_error.StreamWriteError.{StreamWriteError}
use Rattle.wt_turn.specs.declared.stream_error.StreamWriteError.TheVariants as writes
use Rattle.wt_wire.specs.Codes.{code_of}
use Rattle.wt_wire.specs.HeaderList.{Fields}
use Rattle.wt_wire.specs.declared.addr.Addr.{Addr}
use Rattle.wt_wire.specs.declared.addr.Addr.TheVariants as addresses
use Rattle.wt_abi.specs.declared.head.AddressHead.{AddressHead}
use Rattle.wt_abi.specs.declared.head.ReplyHead.{ReplyHead}

-- no address
abbrev pub no_address : AddressHead
no_address = record { version = 0; port = 0; high = 0; low = 0 }

-- an address in numbers
abbrev pub address_head : Addr → AddressHead
address_head (addresses.V4 ip port) = record { version = 4; port = port; high = 0; low = ip }
address_head (addresses.V6 ip port) = record { version = 6; port = port; high = ip / 2 ^ 64; low = ip % 2 ^ 64 }

-- a reply of this kind, with nothing else
abbrev pub bare : ℕ → ReplyHead
bare kind = record { kind = kind; choice = 0; cause = 0; has_code = 0; priority = pos 0; number = 0; address = no_address; length = 0; fields = 0; actions = 0 }

-- a reply of this kind with a number
abbrev pub numbered : ℕ → ℕ → ReplyHead
numbered kind n = record (bare kind) { number = n }

-- a reply of this kind with a choice
abbrev pub chosen : ℕ → ℕ → ReplyHead
chosen kind choice = record (bare kind) { choice = choice }

-- a size, where there is one
abbrev pub size_head : ℕ → Option ℕ → ReplyHead
size_head kind None = bare kind
size_head kind (Some size) = record (bare kind) { choice = 1; number = size }

-- whether there are bytes
abbrev pub read_head : ℕ → Option (List ℕ) → ReplyHead
read_head kind None = bare kind
read_head kind (Some bytes) = chosen kind 1

-- with the code of an error of the QUIC protocol, where it has one
abbrev pub with_code : Option ℕ → ReplyHead → ReplyHead
with_code None h = h
with_code (Some code) h = record h { has_code = 1; number = code }

-- with how the connection ended
abbrev pub with_connection : ConnectionError → ReplyHead → ReplyHead
with_connection (connection.ConnectionClosed close) h = record h { cause = 0; number = close.code }
with_connection (connection.ApplicationClosed close) h = record h { cause = 1; number = close.code }
with_connection connection.LocallyClosed h = record h { cause = 2 }
with_connection (connection.LocalH3Error error) h = record h { cause = 3; number = code_of error }
with_connection connection.TimedOut h = record h { cause = 4 }
with_connection (connection.QuicProto error) h = with_code error.code (record h { cause = 5 })
with_connection connection.CidsExhausted h = record h { cause = 6 }

-- why a URL is refused
abbrev pub refusal_number : UrlRefusal → ℕ
refusal_number refusals.Parse = 0
refusal_number refusals.Scheme = 1

-- why a connect failed
abbrev pub connecting_head : ℕ → ConnectingError → ReplyHead
connecting_head kind (connecting.InvalidUrl refusal) = record (chosen kind 0) { cause = refusal_number refusal }
connecting_head kind (connecting.DnsLookup reason) = chosen kind 1
connecting_head kind connecting.DnsNotFound = chosen kind 2
connecting_head kind (connecting.ConnectionError error) = with_connection error (chosen kind 3)
connecting_head kind connecting.SessionRejected = chosen kind 4
connecting_head kind (connecting.ReservedHeader name) = chosen kind 5
connecting_head kind connecting.EndpointStopping = chosen kind 6
connecting_head kind connecting.CidsExhausted = chosen kind 7
connecting_head kind (connecting.InvalidServerName name) = chosen kind 8
connecting_head kind (connecting.InvalidRemoteAddress address) = record (chosen kind 9) { address = address_head address }

-- why a stream couldn't be opened
abbrev pub opening_head : ℕ → StreamOpeningError → ReplyHead
opening_head kind openings.NotConnected = chosen kind 0
opening_head kind openings.Refused = chosen kind 1

-- why nothing could be written
abbrev pub write_head : ℕ → StreamWriteError → ReplyHead
write_head kind writes.NotConnected = chosen kind 0
write_head kind writes.Closed = chosen kind 1
write_head kind (writes.Stopped code) = record (chosen kind 2) { number = code }
write_head kind writes.QuicProto = chosen kind 3

-- with why nothing could be read
abbrev pub with_read : StreamReadError → ReplyHead → ReplyHead
with_read reads.NotConnected h = record h { cause = 0 }
with_read (reads.Reset code) h = record h { cause = 1; number = code }
with_read reads.QuicProto h = record h { cause = 2 }

-- why fewer bytes were read
abbrev pub exact_head : ℕ → StreamReadExactError → ReplyHead
exact_head kind (exacts.FinishedEarly count) = record (chosen kind 0) { number = count }
exact_head kind (exacts.Read error) = with_read error (chosen kind 1)

-- why a datagram couldn't be sent
abbrev pub datagram_head : ℕ → SendDatagramError → ReplyHead
datagram_head kind datagrams.NotConnected = chosen kind 0
datagram_head kind datagrams.UnsupportedByPeer = chosen kind 1
datagram_head kind datagrams.TooLarge = chosen kind 2
datagram_head kind datagrams.Disabled = chosen kind 3

-- the head of a reply
abbrev pub reply_head : Reply → ReplyHead
reply_head replies.Done = bare 0
reply_head replies.Pending = bare 1
reply_head replies.NoSession = bare 2
reply_head replies.NoStream = bare 3
reply_head (replies.Request id headers) = numbered 4 id
reply_head (replies.Session id) = numbered 5 id
reply_head replies.Rejected = bare 6
reply_head (replies.Uni id) = numbered 7 id
reply_head (replies.Bi id) = numbered 8 id
reply_head (replies.Opening id) = numbered 9 id
reply_head (replies.SendReady id) = numbered 10 id
reply_head (replies.BiReady id) = numbered 11 id
reply_head (replies.Id id) = numbered 12 id
reply_head (replies.Datagram piece) = bare 13
reply_head (replies.Size size) = size_head 14 size
reply_head (replies.Written count) = numbered 15 count
reply_head replies.AllWritten = bare 16
reply_head (replies.Count count) = numbered 17 count
reply_head replies.Finished = bare 18
reply_head (replies.Priority priority) = record (bare 19) { priority = priority }
reply_head replies.ClosedStream = bare 20
reply_head (replies.Read read) = read_head 21 read
reply_head (replies.Exact piece) = bare 22
reply_head (replies.Failed error) = with_connection error (bare 23)
reply_head (replies.Closed error) = with_connection error (bare 24)
reply_head (replies.ConnectFailed error) = connecting_head 25 error
reply_head (replies.OpeningFailed error) = opening_head 26 error
reply_head (replies.WriteFailed error) = write_head 27 error
reply_head (replies.StoppedBy error) = write_head 28 error
reply_head (replies.ReadFailed error) = with_read error (bare 29)
reply_head (replies.ExactFailed error piece) = exact_head 30 error
reply_head (replies.DatagramFailed error) = datagram_head 31 error

-- the reason with which a connection ended
abbrev pub connection_bytes : ConnectionError → List ℕ
connection_bytes (connection.ConnectionClosed close) = close.reason
connection_bytes (connection.ApplicationClosed close) = close.reason
connection_bytes (connection.QuicProto error) = error.reason
connection_bytes _ = []

-- the text of why a connect failed
abbrev pub connecting_bytes : ConnectingError → List ℕ
connecting_bytes (connecting.DnsLookup reason) = reason
connecting_bytes (connecting.ConnectionError error) = connection_bytes error
connecting_bytes (connecting.ReservedHeader name) = name
connecting_bytes (connecting.InvalidServerName name) = name
connecting_bytes _ = []

-- bytes, where there are any
abbrev pub bytes_if_any : Option (List ℕ) → List ℕ
bytes_if_any None = []
bytes_if_any (Some bytes) = bytes

-- the bytes of a reply
abbrev pub reply_bytes : Reply → List ℕ
reply_bytes (replies.Datagram piece) = piece
reply_bytes (replies.Read read) = bytes_if_any read
reply_bytes (replies.Exact piece) = piece
reply_bytes (replies.Failed error) = connection_bytes error
reply_bytes (replies.Closed error) = connection_bytes error
reply_bytes (replies.ConnectFailed error) = connecting_bytes error
reply_bytes (replies.ExactFailed error piece) = piece
reply_bytes _ = []

-- the header fields of a reply
abbrev pub reply_fields : Reply → Fields
reply_fields (replies.Request id headers) = headers
reply_fields _ = []

-- the head of an answer: that of its reply, and how many bytes, fields and actions there are to read
abbrev pub answer_head : Answer → ReplyHead
answer_head a = record (reply_head a.reply) { length = length (reply_bytes a.reply); fields = length (reply_fields a.reply); actions = length a.actions }
