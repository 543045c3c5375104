-- The errors that the words of a printed answer spell, in the words of PrintErrors.
use Rattle.std.specs.Prelude.{ℕ, ◌==◌, Bool, List, [], ◌∷◌, codes, Option, Some, None, if◌then◌else◌}
use Rattle.std.specs.Option.{option_and_then, option_map, option_zip}
use Rattle.wt_wire.specs.Codes.{code_of}
use Rattle.wt_wire.specs.declared.addr.Addr.{Addr}
use Rattle.wt_wire.specs.declared.error.ErrorCode.{ErrorCode}
use Rattle.wt_wire.specs.declared.error.ErrorCode.TheVariants as errors
use Rattle.wt_turn.specs.Close.{Close}
use Rattle.wt_turn.specs.ProtoReason.{ProtoError}
use Rattle.wt_turn.specs.declared.connecting_error.ConnectingError.{ConnectingError}
use Rattle.wt_turn.specs.declared.connecting_error.ConnectingError.TheVariants as connecting
use Rattle.wt_turn.specs.declared.connecting_error.UrlRefusal.{UrlRefusal}
use Rattle.wt_turn.specs.declared.connecting_error.UrlRefusal.TheVariants as refusals
use Rattle.wt_turn.specs.declared.connection_error.ConnectionError.{ConnectionError}
use Rattle.wt_turn.specs.declared.connection_error.ConnectionError.TheVariants as connection
use Rattle.wt_turn.specs.declared.stream_error.SendDatagramError.{SendDatagramError}
use Rattle.wt_turn.specs.declared.stream_error.SendDatagramError.TheVariants as datagrams
use Rattle.wt_turn.specs.declared.stream_error.StreamOpeningError.{StreamOpeningError}
use Rattle.wt_turn.specs.declared.stream_error.StreamOpeningError.TheVariants as openings
use Rattle.wt_turn.specs.declared.stream_error.StreamReadError.{StreamReadError}
use Rattle.wt_turn.specs.declared.stream_error.StreamReadError.TheVariants as reads
use Rattle.wt_turn.specs.declared.stream_error.StreamReadExactError.{StreamReadExactError}
use Rattle.wt_turn.specs.declared.stream_error.StreamReadExactError.TheVariants as exacts
use Rattle.wt_turn.specs.declared.stream_error.StreamWriteError.{StreamWriteError}
use Rattle.wt_turn.specs.declared.stream_error.StreamWriteError.TheVariants as writes
use Rattle.wt_script.specs.Addresses.{address_of_words}
use Rattle.wt_script.specs.Numbers.{bytes_of, count_of, id_of, text_of_word}
use Rattle.wt_script.specs.Words.{alone, is_word, one, parts, two}

-- ---- how a connection ended

-- the error of a code among these
abbrev pub error_among : List ErrorCode → ℕ → Option ErrorCode
error_among [] code = None
error_among (e ∷ more) code = if code_of e == code then Some e else error_among more code

-- each error
abbrev pub all_errors : List ErrorCode
all_errors = errors.Datagram ∷ errors.NoError ∷ errors.StreamCreation ∷ errors.ClosedCriticalStream ∷ errors.FrameUnexpected ∷ errors.Frame
    ∷ errors.ExcessiveLoad ∷ errors.Id ∷ errors.Settings ∷ errors.MissingSettings ∷ errors.RequestRejected ∷ errors.Message ∷ errors.Decompression
    ∷ errors.SessionGone ∷ errors.BufferedStreamRejected ∷ []

-- the error of a code
abbrev pub error_of : ℕ → Option ErrorCode
error_of code = error_among all_errors code

-- the peer's code and reason
abbrev pub close_of : List (List ℕ) → Option Close
close_of fields = option_map (λ p. record { code = p.0; reason = p.1 }) (two id_of bytes_of fields)

-- the code with which this end closed
abbrev pub local_of : List (List ℕ) → Option ErrorCode
local_of fields = option_and_then error_of (one id_of fields)

-- a code, or 'none'
abbrev pub optional_code_of : List ℕ → Option (Option ℕ)
optional_code_of word = if is_word word (codes "none") then Some None else option_map Some (id_of word)

-- a code, where there is one, and a reason
abbrev pub proto_of : List (List ℕ) → Option ProtoError
proto_of fields = option_map (λ p. record { code = p.0; reason = p.1 }) (two optional_code_of text_of_word fields)

-- an end without fields
abbrev pub bare_end_of : List ℕ → Option ConnectionError
bare_end_of name =
    if is_word name (codes "locally_closed") then Some connection.LocallyClosed else
    (if is_word name (codes "timed_out") then Some connection.TimedOut else
    (if is_word name (codes "cids_exhausted") then Some connection.CidsExhausted else None))

-- the value of a name, where no field follows
abbrev pub if_bare : {A : Type 0} → (List ℕ → Option A) → List ℕ → List (List ℕ) → Option A
if_bare read name [] = read name
if_bare read name (w ∷ ws) = None

-- how a connection ended, by its name and its fields
abbrev pub ended_with : List ℕ → List (List ℕ) → Option ConnectionError
ended_with name fields =
    if is_word name (codes "connection_closed") then option_map connection.ConnectionClosed (close_of fields) else
    (if is_word name (codes "application_closed") then option_map connection.ApplicationClosed (close_of fields) else
    (if is_word name (codes "local_h3") then option_map connection.LocalH3Error (local_of fields) else
    (if is_word name (codes "quic_proto") then option_map connection.QuicProto (proto_of fields) else if_bare bare_end_of name fields)))

-- how a connection ended
abbrev pub ended_of : List (List ℕ) → Option ConnectionError
ended_of [] = None
ended_of (name ∷ fields) = ended_with name fields

-- ---- why a connect failed

-- why a URL is refused
abbrev pub refusal_of : List ℕ → Option UrlRefusal
refusal_of word = if is_word word (codes "parse") then Some refusals.Parse else (if is_word word (codes "scheme") then Some refusals.Scheme else None)

-- an address
abbrev pub address_of_word : List ℕ → Option Addr
address_of_word word = address_of_words (parts 58 word)

-- a failed connect without fields
abbrev pub bare_connecting_of : List ℕ → Option ConnectingError
bare_connecting_of name =
    if is_word name (codes "dns_not_found") then Some connecting.DnsNotFound else
    (if is_word name (codes "session_rejected") then Some connecting.SessionRejected else
    (if is_word name (codes "endpoint_stopping") then Some connecting.EndpointStopping else
    (if is_word name (codes "cids_exhausted") then Some connecting.CidsExhausted else None)))

-- a failed connect that carries no text
abbrev pub plain_connecting_of : List ℕ → List (List ℕ) → Option ConnectingError
plain_connecting_of name fields =
    if is_word name (codes "invalid_url") then option_map connecting.InvalidUrl (one refusal_of fields) else
    (if is_word name (codes "invalid_remote_address") then option_map connecting.InvalidRemoteAddress (one address_of_word fields) else
    if_bare bare_connecting_of name fields)

-- why a connect failed, by its name and its fields
abbrev pub connecting_with : List ℕ → List (List ℕ) → Option ConnectingError
connecting_with name fields =
    if is_word name (codes "dns_lookup") then option_map connecting.DnsLookup (one text_of_word fields) else
    (if is_word name (codes "connection") then option_map connecting.ConnectionError (ended_of fields) else
    (if is_word name (codes "reserved_header") then option_map connecting.ReservedHeader (one text_of_word fields) else
    (if is_word name (codes "invalid_server_name") then option_map connecting.InvalidServerName (one text_of_word fields) else
    plain_connecting_of name fields)))

-- why a connect failed
abbrev pub connecting_of : List (List ℕ) → Option ConnectingError
connecting_of [] = None
connecting_of (name ∷ fields) = connecting_with name fields

-- ---- why a call on a stream or a datagram failed

-- why a stream couldn't be opened
abbrev pub opening_of : List ℕ → Option StreamOpeningError
opening_of word =
    if is_word word (codes "not_connected") then Some openings.NotConnected else
    (if is_word word (codes "refused") then Some openings.Refused else None)

-- why a datagram couldn't be sent
abbrev pub datagram_error_of : List ℕ → Option SendDatagramError
datagram_error_of word =
    if is_word word (codes "not_connected") then Some datagrams.NotConnected else
    (if is_word word (codes "unsupported") then Some datagrams.UnsupportedByPeer else
    (if is_word word (codes "too_large") then Some datagrams.TooLarge else
    (if is_word word (codes "disabled") then Some datagrams.Disabled else None)))

-- why nothing could be written
abbrev pub write_error_of : List (List ℕ) → Option StreamWriteError
write_error_of [] = None
write_error_of (name ∷ fields) =
    if is_word name (codes "not_connected") then alone writes.NotConnected fields else
    (if is_word name (codes "closed") then alone writes.Closed fields else
    (if is_word name (codes "stopped") then option_map writes.Stopped (one id_of fields) else
    (if is_word name (codes "quic_proto") then alone writes.QuicProto fields else None)))

-- why nothing could be read
abbrev pub read_error_of : List (List ℕ) → Option StreamReadError
read_error_of [] = None
read_error_of (name ∷ fields) =
    if is_word name (codes "not_connected") then alone reads.NotConnected fields else
    (if is_word name (codes "reset") then option_map reads.Reset (one id_of fields) else
    (if is_word name (codes "quic_proto") then alone reads.QuicProto fields else None))

-- an error that tells bytes
abbrev pub with_bytes : ℕ × List ℕ → StreamReadExactError × List ℕ
with_bytes p = (exacts.FinishedEarly p.0, p.1)

-- an error that tells no bytes
abbrev pub without_bytes : StreamReadError → StreamReadExactError × List ℕ
without_bytes e = (exacts.Read e, [])

-- the same, by its words
abbrev pub read_failed_of : List (List ℕ) → Option (StreamReadExactError × List ℕ)
read_failed_of fields = option_map without_bytes (read_error_of fields)

-- why fewer bytes were read than were asked for, and the bytes where the stream ended
abbrev pub exact_failed_of : List (List ℕ) → Option (StreamReadExactError × List ℕ)
exact_failed_of [] = read_failed_of []
exact_failed_of (name ∷ fields) =
    if is_word name (codes "finished_early") then option_map with_bytes (two count_of bytes_of fields)
    else read_failed_of (name ∷ fields)
