-- The words of a printed line for each error (this repository's own grammar).
use Rattle.std.specs.Prelude.{ℕ, List, [], ◌∷◌, ◌++◌, codes, Option, Some, None}
use Rattle.std.specs.Fmt.{decimal}
use Rattle.std.specs.Int.{to_be_bytes, w32, w128}
use Rattle.hex.specs.Hex.{encode_lower}
use Rattle.wt_wire.specs.declared.addr.Addr.{Addr}
use Rattle.wt_wire.specs.declared.addr.Addr.TheVariants as addresses
use Rattle.wt_wire.specs.Codes.{code_of}
use Rattle.wt_turn.specs.declared.connecting_error.UrlRefusal.{UrlRefusal}
use Rattle.wt_turn.specs.declared.connecting_error.UrlRefusal.TheVariants as refusals
use Rattle.wt_turn.specs.declared.connecting_error.ConnectingError.{ConnectingError}
use Rattle.wt_turn.specs.declared.connecting_error.ConnectingError.TheVariants as connecting
use Rattle.wt_turn.specs.declared.connection_error.ConnectionError.{ConnectionError}
use Rattle.wt_turn.specs.declared.connection_error.ConnectionError.TheVariants as connection
use Rattle.wt_turn.specs.declared.stream_error.StreamWriteError.{StreamWriteError}
use Rattle.wt_turn.specs.declared.stream_error.StreamWriteError.TheVariants as writes
use Rattle.wt_turn.specs.declared.stream_error.StreamReadError.{StreamReadError}
use Rattle.wt_turn.specs.declared.stream_error.StreamReadError.TheVariants as reads
use Rattle.wt_turn.specs.declared.stream_error.StreamReadExactError.{StreamReadExactError}
use Rattle.wt_turn.specs.declared.stream_error.StreamReadExactError.TheVariants as exacts
use Rattle.wt_turn.specs.declared.stream_error.SendDatagramError.{SendDatagramError}
use Rattle.wt_turn.specs.declared.stream_error.SendDatagramError.TheVariants as datagrams
use Rattle.wt_turn.specs.declared.stream_error.StreamOpeningError.{StreamOpeningError}
use Rattle.wt_turn.specs.declared.stream_error.StreamOpeningError.TheVariants as openings

-- bytes in lower-case hexadecimal, '-' for none
abbrev pub hex_text : List ℕ → List ℕ
hex_text [] = codes "-"
hex_text (b ∷ bytes) = encode_lower (b ∷ bytes)

-- a number and bytes
abbrev pub coded_text : ℕ → List ℕ → List ℕ
coded_text code bytes = decimal code ++ codes " " ++ hex_text bytes

-- two numbers
abbrev pub numbers_text : ℕ → ℕ → List ℕ
numbers_text first second = decimal first ++ codes " " ++ decimal second

-- the bytes of an address, and its port
abbrev pub socket_text : List ℕ → ℕ → List ℕ
socket_text ip port = encode_lower ip ++ codes ":" ++ decimal port

-- an address: its version, its bytes, the highest first, and its port
abbrev pub versioned_address_text : Addr → List ℕ
versioned_address_text (addresses.V4 ip port) = codes "v4:" ++ socket_text (to_be_bytes w32 ip) port
versioned_address_text (addresses.V6 ip port) = codes "v6:" ++ socket_text (to_be_bytes w128 ip) port

-- a number, 'none' where there is none
abbrev pub code_text : Option ℕ → List ℕ
code_text None = codes "none"
code_text (Some code) = decimal code

-- a code, where there is one, and a reason
abbrev pub proto_text : Option ℕ → List ℕ → List ℕ
proto_text code reason = code_text code ++ codes " " ++ hex_text reason

-- how a connection ended
abbrev pub connection_text : ConnectionError → List ℕ
connection_text (connection.ConnectionClosed close) = codes "connection_closed " ++ coded_text close.code close.reason
connection_text (connection.ApplicationClosed close) = codes "application_closed " ++ coded_text close.code close.reason
connection_text connection.LocallyClosed = codes "locally_closed"
connection_text (connection.LocalH3Error error) = codes "local_h3 " ++ decimal (code_of error)
connection_text connection.TimedOut = codes "timed_out"
connection_text (connection.QuicProto error) = codes "quic_proto " ++ proto_text error.code error.reason
connection_text connection.CidsExhausted = codes "cids_exhausted"

-- why a URL is refused
abbrev pub refusal_text : UrlRefusal → List ℕ
refusal_text refusals.Parse = codes "parse"
refusal_text refusals.Scheme = codes "scheme"

-- why a connect failed
abbrev pub connecting_text : ConnectingError → List ℕ
connecting_text (connecting.InvalidUrl refusal) = codes "invalid_url " ++ refusal_text refusal
connecting_text (connecting.DnsLookup reason) = codes "dns_lookup " ++ hex_text reason
connecting_text connecting.DnsNotFound = codes "dns_not_found"
connecting_text (connecting.ConnectionError error) = codes "connection " ++ connection_text error
connecting_text connecting.SessionRejected = codes "session_rejected"
connecting_text (connecting.ReservedHeader name) = codes "reserved_header " ++ hex_text name
connecting_text connecting.EndpointStopping = codes "endpoint_stopping"
connecting_text connecting.CidsExhausted = codes "cids_exhausted"
connecting_text (connecting.InvalidServerName name) = codes "invalid_server_name " ++ hex_text name
connecting_text (connecting.InvalidRemoteAddress address) = codes "invalid_remote_address " ++ versioned_address_text address

-- why a stream couldn't be opened
abbrev pub opening_text : StreamOpeningError → List ℕ
opening_text openings.NotConnected = codes "not_connected"
opening_text openings.Refused = codes "refused"

-- why nothing could be written
abbrev pub write_text : StreamWriteError → List ℕ
write_text writes.NotConnected = codes "not_connected"
write_text writes.Closed = codes "closed"
write_text (writes.Stopped code) = codes "stopped " ++ decimal code
write_text writes.QuicProto = codes "quic_proto"

-- why nothing could be read
abbrev pub read_error_text : StreamReadError → List ℕ
read_error_text reads.NotConnected = codes "not_connected"
read_error_text (reads.Reset code) = codes "reset " ++ decimal code
read_error_text reads.QuicProto = codes "quic_proto"

-- why fewer bytes were read, and the bytes where the stream ended
abbrev pub exact_text : StreamReadExactError → List ℕ → List ℕ
exact_text (exacts.FinishedEarly count) bytes = codes "finished_early " ++ coded_text count bytes
exact_text (exacts.Read error) bytes = read_error_text error

-- why a datagram couldn't be sent
abbrev pub datagram_text : SendDatagramError → List ℕ
datagram_text datagrams.NotConnected = codes "not_connected"
datagram_text datagrams.UnsupportedByPeer = codes "unsupported"
datagram_text datagrams.TooLarge = codes "too_large"
datagram_text datagrams.Disabled = codes "disabled"
