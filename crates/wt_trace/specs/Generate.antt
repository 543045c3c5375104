-- A run that is made by rule: a session, and then streams of the peer, each accepted and read to its end (this
-- repository's own).
use Rattle.std.specs.Prelude.{List, None, [], codes, map, suc, zero, ℕ, ◌%◌, ◌*◌, ◌++◌, ◌+◌, ◌∷◌}
use Rattle.std.specs.List.{range_with_len}
use Rattle.wt_message.specs.FixedBytes.{headers_frame_bytes}
use Rattle.wt_message.specs.Requests.{request_fields}
use Rattle.wt_turn.specs.declared.call.Call.TheVariants as calls
use Rattle.wt_turn.specs.declared.datagram_fact.DatagramFact.TheVariants.{Limit}
use Rattle.wt_turn.specs.declared.turn.Turn.{Turn}
use Rattle.wt_turn.specs.declared.turn.Turn.TheVariants as turns

-- the request for a session at the path `/` of the authority `h` (RFC 9220, section 3)
abbrev pub request_bytes : List ℕ
request_bytes = headers_frame_bytes (request_fields (codes "h") (codes "/"))

-- a server's connection is established, the peer's control stream carries empty SETTINGS (RFC 9114, section 6.2.1), and a
-- session is asked for and accepted
abbrev pub session_turns : List Turn
session_turns =
    turns.Connected 9 9 1000 (Limit 1200)
    ∷ turns.PeerUni
    ∷ turns.Bytes 2 (0x00 ∷ 0x04 ∷ 0x00 ∷ [])
    ∷ turns.PeerBi
    ∷ turns.Bytes 0 request_bytes
    ∷ turns.Call calls.Incoming
    ∷ turns.Call (calls.Accept [])
    ∷ []

-- the id of the stream of this number, from 0: the client's unidirectional streams after its control stream
-- (RFC 9000, section 2.1)
abbrev pub client_stream_id : ℕ → ℕ
client_stream_id number = 6 + 4 * number

-- n bytes, of which the one of index j, from 0, is (number + j) mod 256
abbrev pub counted_bytes : ℕ → ℕ → List ℕ
counted_bytes number count = map (λ index. (number + index) % 256) (range_with_len 0 count)

-- what it carries: (number mod 100) + 1 bytes
abbrev pub stream_payload : ℕ → List ℕ
stream_payload number = counted_bytes number (number % 100 + 1)

-- its bytes: the header of a stream of session 0 (draft-ietf-webtrans-http3, section 4.2), and what it carries
abbrev pub stream_bytes : ℕ → List ℕ
stream_bytes number = (0x40 ∷ 0x54 ∷ 0x00 ∷ []) ++ stream_payload number

-- it is opened, comes whole, is accepted, read, and read at its end
abbrev pub stream_turns : ℕ → List Turn
stream_turns number =
    turns.PeerUni
    ∷ turns.Bytes (client_stream_id number) (stream_bytes number)
    ∷ turns.End (client_stream_id number)
    ∷ turns.Call (calls.AcceptUni None)
    ∷ turns.Call (calls.Read (client_stream_id number) 200)
    ∷ turns.Call (calls.Read (client_stream_id number) 200)
    ∷ []

-- the turns of n streams, one after another
abbrev pub all_stream_turns : ℕ → List Turn
all_stream_turns zero = []
all_stream_turns (suc number) = all_stream_turns number ++ stream_turns number

-- the whole run with n streams
abbrev pub generated_turns : ℕ → List Turn
generated_turns streams = session_turns ++ all_stream_turns streams
