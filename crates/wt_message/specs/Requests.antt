-- Requests for a session: an extended CONNECT (RFC 9220 section 3, draft-ietf-webtrans-http3 section 3.2).
use Rattle.std.specs.Prelude.{ℕ, [], ◌∷◌, ◌||◌, ◌&&◌, Bool, false, List, Option, Some, None, Result, Ok, Err, codes, is_some, if◌then◌else◌}
use Rattle.std.specs.Str.{bytes_eq}
use Rattle.wt_message.specs.declared.session.HeadersParseError.{HeadersParseError}
use Rattle.wt_message.specs.declared.session.HeadersParseError.TheVariants.{MethodNotConnect, Other}
use Rattle.wt_wire.specs.HeaderList.{Fields, value_of}

-- a value is there, and it is this text
abbrev pub is_value : List ℕ → Option (List ℕ) → Bool
is_value text None = false
is_value text (Some value) = bytes_eq value text

-- beside the method: `:scheme` https, `:protocol` webtransport, and any `:authority` and `:path`
abbrev pub is_session_request : Fields → Bool
is_session_request fields =
    is_value (codes "https") (value_of (codes ":scheme") fields) && is_value (codes "webtransport") (value_of (codes ":protocol") fields)
    && is_some (value_of (codes ":authority") fields) && is_some (value_of (codes ":path") fields)

-- a method that is there and isn't CONNECT has a refusal of its own
abbrev pub request_with : Fields → Option (List ℕ) → Result Fields HeadersParseError
request_with fields None = Err Other
request_with fields (Some method) =
    if bytes_eq method (codes "CONNECT") then (if is_session_request fields then Ok fields else Err Other) else Err MethodNotConnect

-- the fields as a request
unfoldable pub request_of : Fields → Result Fields HeadersParseError
request_of fields = request_with fields (value_of (codes ":method") fields)

-- the five fields of a request, in the order of names
abbrev pub request_fields : List ℕ → List ℕ → Fields
request_fields authority path =
    (codes ":authority", authority) ∷ (codes ":method", codes "CONNECT") ∷ (codes ":path", path) ∷ (codes ":protocol", codes "webtransport") ∷ (codes ":scheme", codes "https") ∷ []

-- one of the five names
abbrev pub is_reserved : List ℕ → Bool
is_reserved name =
    bytes_eq name (codes ":method") || bytes_eq name (codes ":scheme") || bytes_eq name (codes ":protocol")
    || bytes_eq name (codes ":authority") || bytes_eq name (codes ":path")
