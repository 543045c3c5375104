-- The printed errors are read back.
use Rattle.std.proofs.Common.{arith, ◌≡◌, ◌<◌, ◌+◌, ◌*◌, ◌/◌, ◌%◌, ◌^◌, ℕ, zero, suc, Bool, true, false, List, [], ◌∷◌, ◌++◌, refl, sym, ap, ◌∙◌, append_assoc}
use Rattle.std.proofs.lemmas.Bool.{and_from, and_parts, ne_eqb, true≢false}
use Rattle.std.proofs.Math.Nat.{div-div-eq-div-mul}
use Rattle.std.proofs.lemmas.Nat.{from_be_bytes-to_be_bytes_4}
use Rattle.std.specs.Prelude.{◌==◌, ◌&&◌, IfSome, None, Option, Some, codes, decimal, if◌then◌else◌, not}
use Rattle.std.specs.Int.{byte_at, bytes_high_first, from_be_bytes, to_be_bytes, w32, w128}
use Rattle.std.specs.Option.{option_and_then, option_map, option_zip}
use Rattle.std.specs.Result.{result_ok}
use Rattle.hex.proofs.HexLemmas.{decode_sized-encode_lower}
use Rattle.hex.specs.Hex.{IsBytes, encode_lower, is_hex_digit}
use Rattle.wt_wire.specs.Codes.{code_of}
use Rattle.wt_wire.specs.declared.addr.Addr.{Addr}
use Rattle.wt_wire.specs.declared.addr.Addr.TheVariants as addresses
use Rattle.wt_wire.specs.declared.error.ErrorCode.{ErrorCode}
use Rattle.wt_wire.specs.declared.error.ErrorCode.TheVariants as errors
use Rattle.wt_turn.specs.Close.{Close}
use Rattle.wt_turn.specs.ProtoReason.{ProtoError}
use Rattle.wt_turn.specs.declared.connecting_error.ConnectingError.{ConnectingError}
use Rattle.wt_turn.specs.declared.connecting_error.ConnectingError.TheVariants as connecting
use Rattle.wt_turn.specs.declared.connecting_error.UrlRefusal.{UrlRefusal}
use Rattle.wt_turn.specs.declared.connecting_error.UrlRefusal.TheVariants as refusals
use Rattle.wt_turn.specs.declared.connection_error.ConnectionError.{ConnectionError}
use Rattle.wt_turn.specs.declared.connection_error.ConnectionError.TheVariants as connection
use Rattle.wt_turn.specs.declared.stream_error.SendDatagramError.{SendDatagramError}
use Rattle.wt_turn.specs.declared.stream_error.SendDatagramError.TheVariants as datagrams
use Rattle.wt_turn.specs.declared.stream_error.StreamOpeningError.{StreamOpeningError}
use Rattle.wt_turn.specs.declared.stream_error.StreamOpeningError.TheVariants as openings
use Rattle.wt_turn.specs.declared.stream_error.StreamReadError.{StreamReadError}
use Rattle.wt_turn.specs.declared.stream_error.StreamReadError.TheVariants as reads
use Rattle.wt_turn.specs.declared.stream_error.StreamReadExactError.{StreamReadExactError}
use Rattle.wt_turn.specs.declared.stream_error.StreamReadExactError.TheVariants as exacts
use Rattle.wt_turn.specs.declared.stream_error.StreamWriteError.{StreamWriteError}
use Rattle.wt_turn.specs.declared.stream_error.StreamWriteError.TheVariants as writes
use Rattle.wt_script.specs.Addresses.{address_of_words}
use Rattle.wt_script.specs.AnswerErrors.{address_of_word, close_of, connecting_of, datagram_error_of, ended_of, error_of, exact_failed_of, local_of, opening_of, optional_code_of, proto_of, read_error_of, refusal_of, with_bytes, without_bytes, write_error_of}
use Rattle.wt_script.specs.Fits.{IsAddress, IsClose, IsConnecting, IsCount, IsEnd, IsExactError, IsId, IsReadError, IsText, IsWriteError}
use Rattle.wt_script.specs.Numbers.{bytes_of, count_of, id_of, port_of_word, text_of_word}
use Rattle.wt_script.specs.PrintErrors.{code_text, coded_text, connecting_text, connection_text, datagram_text, exact_text, hex_text, opening_text, proto_text, read_error_text, refusal_text, socket_text, versioned_address_text, write_text}
use Rattle.wt_script.specs.Words.{is_word, one, parts, two}
use Rattle.wt_script.proofs.Digits.{are_hex, bytes_encoded, count_decimal, decimal_hex, encoded_hex, hex_lacks, id_decimal, number_decimal, text_encoded}
use Rattle.wt_script.proofs.Separators.{lacks, lacks_both, part_alone, part_first}
use Rattle.wt_script.proofs.Spelled.{ArePlain, IsPlain, Spelled, bare, mapped, named, pair, plain_decimal, plain_hex}

-- ---- words

pub plain_id : (n : ℕ) → IsId n → IsPlain (decimal n)
plain_id n h = plain_decimal n (omega arith)

pub id_spelled : (n : ℕ) → IsId n → Spelled (one id_of) (decimal n) n
id_spelled n h = bare (decimal n) (plain_id n h) (id_decimal n h)

pub text_spelled : (text : List ℕ) → IsText text → Spelled (one text_of_word) (hex_text text) text
text_spelled text h = bare (hex_text text) (plain_hex text h.1) (text_encoded text h)

-- a code and bytes
pub coded_spelled : (code : ℕ) (bytes : List ℕ) → IsId code → IsBytes bytes → Spelled (two id_of bytes_of) (coded_text code bytes) (code, bytes)
coded_spelled code bytes h i = pair id_of bytes_of (decimal code) (hex_text bytes) (plain_id code h) (plain_hex bytes i) (id_decimal code h) (bytes_encoded bytes i)

-- ---- how a connection ended

close_spelled : (close : Close) → IsClose close → Spelled close_of (coded_text close.code close.reason) close
close_spelled close h = mapped (λ p. record { code = p.0; reason = p.1 }) (coded_spelled close.code close.reason h.0 h.1)

code_is_id : (e : ErrorCode) → IsId (code_of e)
code_is_id errors.Datagram = omega arith
code_is_id errors.NoError = omega arith
code_is_id errors.StreamCreation = omega arith
code_is_id errors.ClosedCriticalStream = omega arith
code_is_id errors.FrameUnexpected = omega arith
code_is_id errors.Frame = omega arith
code_is_id errors.ExcessiveLoad = omega arith
code_is_id errors.Id = omega arith
code_is_id errors.Settings = omega arith
code_is_id errors.MissingSettings = omega arith
code_is_id errors.RequestRejected = omega arith
code_is_id errors.Message = omega arith
code_is_id errors.Decompression = omega arith
code_is_id errors.SessionGone = omega arith
code_is_id errors.BufferedStreamRejected = omega arith

pub error_of_code : (e : ErrorCode) → error_of (code_of e) ≡ Some e
error_of_code errors.Datagram = refl
error_of_code errors.NoError = refl
error_of_code errors.StreamCreation = refl
error_of_code errors.ClosedCriticalStream = refl
error_of_code errors.FrameUnexpected = refl
error_of_code errors.Frame = refl
error_of_code errors.ExcessiveLoad = refl
error_of_code errors.Id = refl
error_of_code errors.Settings = refl
error_of_code errors.MissingSettings = refl
error_of_code errors.RequestRejected = refl
error_of_code errors.Message = refl
error_of_code errors.Decompression = refl
error_of_code errors.SessionGone = refl
error_of_code errors.BufferedStreamRejected = refl

local_spelled : (e : ErrorCode) → Spelled local_of (decimal (code_of e)) e
local_spelled e =
    bare (decimal (code_of e)) (plain_id (code_of e) (code_is_id e)) (ap (option_and_then error_of) (id_decimal (code_of e) (code_is_id e)) ∙ error_of_code e)

-- digits aren't 'none'
pub not_none : (ds : List ℕ) → are_hex ds ≡ true → is_word ds (codes "none") ≡ false
not_none [] e = refl
not_none (c ∷ ds) e = ap (λ t. t && is_word ds (codes "one")) (ne_eqb c 110 (λ q. true≢false (sym (and_parts (is_hex_digit c) (are_hex ds) e).0 ∙ ap is_hex_digit q)))

optional_decimal : (n : ℕ) → IsId n → optional_code_of (decimal n) ≡ Some (Some n)
optional_decimal n h =
    ap (λ t. if t then Some None else option_map Some (id_of (decimal n))) (not_none (decimal n) (decimal_hex n (omega arith))) ∙ ap (option_map Some) (id_decimal n h)

proto_by : (code : Option ℕ) (reason : List ℕ) → IfSome code IsId → IsText reason → Spelled proto_of (proto_text code reason) (record { code = code; reason = reason })
proto_by None reason h i =
    mapped (λ p. record { code = p.0; reason = p.1 }) (pair optional_code_of text_of_word (codes "none") (hex_text reason) (refl, refl) (plain_hex reason i.1) refl (text_encoded reason i))
proto_by (Some code) reason h i =
    mapped (λ p. record { code = p.0; reason = p.1 })
    (pair optional_code_of text_of_word (decimal code) (hex_text reason) (plain_id code h) (plain_hex reason i.1) (optional_decimal code h) (text_encoded reason i))

proto_spelled : (error : ProtoError) → IsEnd (connection.QuicProto error) → Spelled proto_of (proto_text error.code error.reason) error
proto_spelled error h = proto_by error.code error.reason h.0 h.1

pub ended_spelled : (e : ConnectionError) → IsEnd e → Spelled ended_of (connection_text e) e
ended_spelled (connection.ConnectionClosed close) h = named connection.ConnectionClosed (codes "connection_closed") (refl, refl) (λ w words. refl) (close_spelled close h)
ended_spelled (connection.ApplicationClosed close) h = named connection.ApplicationClosed (codes "application_closed") (refl, refl) (λ w words. refl) (close_spelled close h)
ended_spelled connection.LocallyClosed h = bare (codes "locally_closed") (refl, refl) refl
ended_spelled (connection.LocalH3Error error) h = named connection.LocalH3Error (codes "local_h3") (refl, refl) (λ w words. refl) (local_spelled error)
ended_spelled connection.TimedOut h = bare (codes "timed_out") (refl, refl) refl
ended_spelled (connection.QuicProto error) h = named connection.QuicProto (codes "quic_proto") (refl, refl) (λ w words. refl) (proto_spelled error h)
ended_spelled connection.CidsExhausted h = bare (codes "cids_exhausted") (refl, refl) refl

-- ---- why a connect failed

refusal_spelled : (refusal : UrlRefusal) → Spelled (one refusal_of) (refusal_text refusal) refusal
refusal_spelled refusals.Parse = bare (codes "parse") (refl, refl) refl
refusal_spelled refusals.Scheme = bare (codes "scheme") (refl, refl) refl

-- the bytes of a number, one after another
byte_and_rest : (n p : ℕ) → n / p ≡ n / p % 256 + n / (p * 256) * 256
byte_and_rest n p = omega (arith, div-div-eq-div-mul n p 256)

eight : (a b c d e f g h n p q r s t u v w : ℕ) → n ≡ a + p * 256 → p ≡ b + q * 256 → q ≡ c + r * 256 → r ≡ d + s * 256
    → s ≡ e + t * 256 → t ≡ f + u * 256 → u ≡ g + v * 256 → v ≡ h + w * 256
    → a + b * 256 + c * 65536 + d * 16777216 + e * 4294967296 + f * 1099511627776 + g * 281474976710656 + h * 72057594037927936 + w * 18446744073709551616 ≡ n
eight a b c d e f g h n p q r s t u v w e0 e1 e2 e3 e4 e5 e6 e7 = omega arith

sixteen : (b0 b1 b2 b3 b4 b5 b6 b7 b8 b9 b10 b11 b12 b13 b14 b15 n q r : ℕ) → b0 + b1 * 256 + b2 * 65536 + b3 * 16777216 + b4 * 4294967296 + b5 * 1099511627776 + b6 * 281474976710656 + b7 * 72057594037927936 + q * 18446744073709551616 ≡ n
    → b8 + b9 * 256 + b10 * 65536 + b11 * 16777216 + b12 * 4294967296 + b13 * 1099511627776 + b14 * 281474976710656 + b15 * 72057594037927936 + r * 18446744073709551616 ≡ q → r ≡ 0
    → b15 * 1329227995784915872903807060280344576 + b14 * 5192296858534827628530496329220096 + b13 * 20282409603651670423947251286016 + b12 * 79228162514264337593543950336 + b11 * 309485009821345068724781056 + b10 * 1208925819614629174706176 + b9 * 4722366482869645213696 + b8 * 18446744073709551616 + b7 * 72057594037927936 + b6 * 281474976710656 + b5 * 1099511627776 + b4 * 4294967296 + b3 * 16777216 + b2 * 65536 + b1 * 256 + b0 ≡ n
sixteen b0 b1 b2 b3 b4 b5 b6 b7 b8 b9 b10 b11 b12 b13 b14 b15 n q r lower upper none = omega arith

from_sixteen : (n : ℕ) → n < 2 ^ 128 → from_be_bytes w128 (to_be_bytes w128 n) ≡ n
from_sixteen n fits =
    sixteen (n % 256) (n / 256 % 256) (n / 65536 % 256) (n / 16777216 % 256) (n / 4294967296 % 256) (n / 1099511627776 % 256) (n / 281474976710656 % 256) (n / 72057594037927936 % 256) (n / 18446744073709551616 % 256) (n / 4722366482869645213696 % 256) (n / 1208925819614629174706176 % 256) (n / 309485009821345068724781056 % 256) (n / 79228162514264337593543950336 % 256) (n / 20282409603651670423947251286016 % 256) (n / 5192296858534827628530496329220096 % 256) (n / 1329227995784915872903807060280344576 % 256)
    n (n / 18446744073709551616) (n / 340282366920938463463374607431768211456)
    (eight (n % 256) (n / 256 % 256) (n / 65536 % 256) (n / 16777216 % 256) (n / 4294967296 % 256) (n / 1099511627776 % 256) (n / 281474976710656 % 256) (n / 72057594037927936 % 256)
    n (n / 256) (n / 65536) (n / 16777216) (n / 4294967296) (n / 1099511627776) (n / 281474976710656) (n / 72057594037927936) (n / 18446744073709551616)
    (omega arith) (byte_and_rest n 256) (byte_and_rest n 65536) (byte_and_rest n 16777216) (byte_and_rest n 4294967296) (byte_and_rest n 1099511627776) (byte_and_rest n 281474976710656) (byte_and_rest n 72057594037927936))
    (eight (n / 18446744073709551616 % 256) (n / 4722366482869645213696 % 256) (n / 1208925819614629174706176 % 256) (n / 309485009821345068724781056 % 256) (n / 79228162514264337593543950336 % 256) (n / 20282409603651670423947251286016 % 256) (n / 5192296858534827628530496329220096 % 256) (n / 1329227995784915872903807060280344576 % 256)
    (n / 18446744073709551616) (n / 4722366482869645213696) (n / 1208925819614629174706176) (n / 309485009821345068724781056) (n / 79228162514264337593543950336) (n / 20282409603651670423947251286016) (n / 5192296858534827628530496329220096) (n / 1329227995784915872903807060280344576) (n / 340282366920938463463374607431768211456)
    (byte_and_rest n 18446744073709551616) (byte_and_rest n 4722366482869645213696) (byte_and_rest n 1208925819614629174706176) (byte_and_rest n 309485009821345068724781056) (byte_and_rest n 79228162514264337593543950336) (byte_and_rest n 20282409603651670423947251286016) (byte_and_rest n 5192296858534827628530496329220096) (byte_and_rest n 1329227995784915872903807060280344576))
    (omega arith)

small_byte : (n : ℕ) → n % 256 < 256
small_byte n = omega arith

small_at : (i n : ℕ) → byte_at i n < 256
small_at zero n = small_byte n
small_at (suc i) n = small_byte (n / 256 ^ suc i)

small_high : (k n : ℕ) → IsBytes (bytes_high_first k n)
small_high zero n i = omega arith
small_high (suc k) n zero = small_at k n
small_high (suc k) n (suc i) = small_high k n i

small_four : (n : ℕ) → IsBytes (to_be_bytes w32 n)
small_four n = small_high 4 n

small_sixteen : (n : ℕ) → IsBytes (to_be_bytes w128 n)
small_sixteen n = small_high 16 n

-- the parts of an address behind its version
socket_parts : (ip : List ℕ) (port : ℕ) → IsBytes ip → port < 2 ^ 16 → parts 58 (socket_text ip port) ≡ encode_lower ip ∷ decimal port ∷ []
socket_parts ip port h i =
    ap (parts 58) (append_assoc (encode_lower ip) (codes ":") (decimal port))
    ∙ part_first 58 (encode_lower ip) (decimal port) (hex_lacks 58 refl (encode_lower ip) (encoded_hex ip h))
    ∙ ap (λ l. encode_lower ip ∷ l) (part_alone 58 (decimal port) (hex_lacks 58 refl (decimal port) (decimal_hex port (omega arith))))

socket_lacks : (s : ℕ) → is_hex_digit s ≡ false → (58 == s) ≡ false → (ip : List ℕ) (port : ℕ) → IsBytes ip → port < 2 ^ 16 → lacks s (socket_text ip port) ≡ true
socket_lacks s other colon ip port h i =
    lacks_both s (encode_lower ip ++ codes ":") (decimal port)
    (lacks_both s (encode_lower ip) (codes ":") (hex_lacks s other (encode_lower ip) (encoded_hex ip h)) (and_from (not (58 == s)) true (ap not colon) refl))
    (hex_lacks s other (decimal port) (decimal_hex port (omega arith)))

pub address_again : (address : Addr) → IsAddress address → address_of_word (versioned_address_text address) ≡ Some address
address_again (addresses.V4 ip port) h =
    ap address_of_words (part_first 58 (codes "v4") (socket_text (to_be_bytes w32 ip) port) refl
    ∙ ap (λ l. codes "v4" ∷ l) (socket_parts (to_be_bytes w32 ip) port (small_four ip) h.1))
    ∙ ap (λ o. option_map (λ p. addresses.V4 p.0 p.1) (option_zip (option_map (from_be_bytes w32) (result_ok o)) (port_of_word (decimal port))))
    (decode_sized-encode_lower (to_be_bytes w32 ip) 4 refl (small_four ip))
    ∙ ap (λ n. option_map (λ p. addresses.V4 p.0 p.1) (option_zip (Some n) (port_of_word (decimal port)))) (from_be_bytes-to_be_bytes_4 ip h.0)
    ∙ ap (λ o. option_map (λ p. addresses.V4 p.0 p.1) (option_zip (Some ip) o)) (number_decimal (2 ^ 16) port (omega arith) h.1)
address_again (addresses.V6 ip port) h =
    ap address_of_words (part_first 58 (codes "v6") (socket_text (to_be_bytes w128 ip) port) refl
    ∙ ap (λ l. codes "v6" ∷ l) (socket_parts (to_be_bytes w128 ip) port (small_sixteen ip) h.1))
    ∙ ap (λ o. option_map (λ p. addresses.V6 p.0 p.1) (option_zip (option_map (from_be_bytes w128) (result_ok o)) (port_of_word (decimal port))))
    (decode_sized-encode_lower (to_be_bytes w128 ip) 16 refl (small_sixteen ip))
    ∙ ap (λ n. option_map (λ p. addresses.V6 p.0 p.1) (option_zip (Some n) (port_of_word (decimal port)))) (from_sixteen ip h.0)
    ∙ ap (λ o. option_map (λ p. addresses.V6 p.0 p.1) (option_zip (Some ip) o)) (number_decimal (2 ^ 16) port (omega arith) h.1)

pub plain_address : (address : Addr) → IsAddress address → IsPlain (versioned_address_text address)
plain_address (addresses.V4 ip port) h =
    (socket_lacks 32 refl refl (to_be_bytes w32 ip) port (small_four ip) h.1, socket_lacks 59 refl refl (to_be_bytes w32 ip) port (small_four ip) h.1)
plain_address (addresses.V6 ip port) h =
    (socket_lacks 32 refl refl (to_be_bytes w128 ip) port (small_sixteen ip) h.1, socket_lacks 59 refl refl (to_be_bytes w128 ip) port (small_sixteen ip) h.1)

address_spelled : (address : Addr) → IsAddress address → Spelled (one address_of_word) (versioned_address_text address) address
address_spelled address h = bare (versioned_address_text address) (plain_address address h) (address_again address h)

pub connecting_spelled : (e : ConnectingError) → IsConnecting e → Spelled connecting_of (connecting_text e) e
connecting_spelled (connecting.InvalidUrl refusal) h = named connecting.InvalidUrl (codes "invalid_url") (refl, refl) (λ w words. refl) (refusal_spelled refusal)
connecting_spelled (connecting.DnsLookup reason) h = named connecting.DnsLookup (codes "dns_lookup") (refl, refl) (λ w words. refl) (text_spelled reason h)
connecting_spelled connecting.DnsNotFound h = bare (codes "dns_not_found") (refl, refl) refl
connecting_spelled (connecting.ConnectionError error) h = named connecting.ConnectionError (codes "connection") (refl, refl) (λ w words. refl) (ended_spelled error h)
connecting_spelled connecting.SessionRejected h = bare (codes "session_rejected") (refl, refl) refl
connecting_spelled (connecting.ReservedHeader name) h = named connecting.ReservedHeader (codes "reserved_header") (refl, refl) (λ w words. refl) (text_spelled name h)
connecting_spelled connecting.EndpointStopping h = bare (codes "endpoint_stopping") (refl, refl) refl
connecting_spelled connecting.CidsExhausted h = bare (codes "cids_exhausted") (refl, refl) refl
connecting_spelled (connecting.InvalidServerName name) h = named connecting.InvalidServerName (codes "invalid_server_name") (refl, refl) (λ w words. refl) (text_spelled name h)
connecting_spelled (connecting.InvalidRemoteAddress address) h =
    named connecting.InvalidRemoteAddress (codes "invalid_remote_address") (refl, refl) (λ w words. refl) (address_spelled address h)

-- ---- why a call on a stream or a datagram failed

pub opening_spelled : (e : StreamOpeningError) → Spelled (one opening_of) (opening_text e) e
opening_spelled openings.NotConnected = bare (codes "not_connected") (refl, refl) refl
opening_spelled openings.Refused = bare (codes "refused") (refl, refl) refl

pub datagram_spelled : (e : SendDatagramError) → Spelled (one datagram_error_of) (datagram_text e) e
datagram_spelled datagrams.NotConnected = bare (codes "not_connected") (refl, refl) refl
datagram_spelled datagrams.UnsupportedByPeer = bare (codes "unsupported") (refl, refl) refl
datagram_spelled datagrams.TooLarge = bare (codes "too_large") (refl, refl) refl
datagram_spelled datagrams.Disabled = bare (codes "disabled") (refl, refl) refl

pub write_spelled : (e : StreamWriteError) → IsWriteError e → Spelled write_error_of (write_text e) e
write_spelled writes.NotConnected h = bare (codes "not_connected") (refl, refl) refl
write_spelled writes.Closed h = bare (codes "closed") (refl, refl) refl
write_spelled (writes.Stopped code) h = named writes.Stopped (codes "stopped") (refl, refl) (λ w words. refl) (id_spelled code h)
write_spelled writes.QuicProto h = bare (codes "quic_proto") (refl, refl) refl

pub read_spelled : (e : StreamReadError) → IsReadError e → Spelled read_error_of (read_error_text e) e
read_spelled reads.NotConnected h = bare (codes "not_connected") (refl, refl) refl
read_spelled (reads.Reset code) h = named reads.Reset (codes "reset") (refl, refl) (λ w words. refl) (id_spelled code h)
read_spelled reads.QuicProto h = bare (codes "quic_proto") (refl, refl) refl

-- of an error that tells no bytes none are read back
abbrev pub normal_exact : StreamReadExactError → List ℕ → StreamReadExactError × List ℕ
normal_exact (exacts.FinishedEarly count) piece = (exacts.FinishedEarly count, piece)
normal_exact (exacts.Read error) piece = (exacts.Read error, [])

reset_code : (o : Option ℕ) → option_map without_bytes (option_map reads.Reset o) ≡ option_map (λ (c : ℕ). without_bytes (reads.Reset c)) o
reset_code None = refl
reset_code (Some code) = refl

pub exact_spelled : (e : StreamReadExactError) (piece : List ℕ) → IsExactError e → IsBytes piece → Spelled exact_failed_of (exact_text e piece) (normal_exact e piece)
exact_spelled (exacts.FinishedEarly count) piece h i =
    named with_bytes (codes "finished_early") (refl, refl) (λ w words. refl)
    (pair count_of bytes_of (decimal count) (hex_text piece) (plain_decimal count h) (plain_hex piece i) (count_decimal count h) (bytes_encoded piece i))
exact_spelled (exacts.Read reads.NotConnected) piece h i = bare (codes "not_connected") (refl, refl) refl
exact_spelled (exacts.Read (reads.Reset code)) piece h i = named (λ (c : ℕ). without_bytes (reads.Reset c)) (codes "reset") (refl, refl) (λ w words. reset_code (one id_of (w ∷ words))) (id_spelled code h)
exact_spelled (exacts.Read reads.QuicProto) piece h i = bare (codes "quic_proto") (refl, refl) refl
