-- Where a client connects to, and what its request says of it: the first steps of a connect as a
-- function of the URL's text, the lookup of its host, and what the endpoint makes of it.
use Rattle.std.specs.Prelude.{Err, List, None, Ok, Option, Result, Some, bytes_eq, codes, if◌then◌else◌, ℕ}
use Rattle.url.specs.Parser.{Parsed, parse_url}
use Rattle.url.specs.Parts.{Parts, host_or_empty}
use Rattle.wt_session.specs.declared.connect_target.ConnectTarget.{ConnectTarget}
use Rattle.wt_meaning.specs.Targets.{Target, address_of, authority_of, outcome_error, path_of, port_of, request_frame, reserved_name, server_name}
use Rattle.wt_turn.specs.declared.connecting_error.ConnectingError.{ConnectingError}
use Rattle.wt_turn.specs.declared.connecting_error.ConnectingError.TheVariants as errors
use Rattle.wt_turn.specs.declared.connecting_error.UrlRefusal.{UrlRefusal}
use Rattle.wt_turn.specs.declared.connecting_error.UrlRefusal.TheVariants.{Parse, Scheme}
use Rattle.wt_wire.specs.HeaderList.{Fields}
use Rattle.wt_wire.specs.declared.addr.Addr.{Addr}
use Rattle.wt_wire.specs.declared.lookup.ConnectOutcome.{ConnectOutcome}
use Rattle.wt_wire.specs.declared.lookup.Lookup.{Lookup}

-- the text is a URL, of which this holds
abbrev pub IfParsed : Parsed Parts → (Parts → Type 0) → Type 0
IfParsed (Ok url) P = P url
IfParsed (Err error) P = ⊥

-- a URL, unless the parser refused the text or the scheme isn't https (draft-ietf-webtrans-http3, section 3)
abbrev pub with_https : Parsed Parts → Result Parts UrlRefusal
with_https (Err error) = Err Parse
with_https (Ok url) = if bytes_eq url.scheme (codes "https") then Ok url else Err Scheme

-- the URL of a text, by the URL Standard, section 4.4
abbrev pub https_url : List ℕ → Result Parts UrlRefusal
https_url text = with_https (parse_url None text)

-- the target that has this address
abbrev pub target_at : Parts → Addr → ConnectTarget
target_at url address = record {
  address = address;
  server_name = server_name (host_or_empty url);
  authority = authority_of url;
  path = path_of url;
}

-- the address, unless the endpoint hinders it
abbrev pub unless_hindered : Option ConnectingError → Addr → Result Addr ConnectingError
unless_hindered None address = Ok address
unless_hindered (Some error) address = Err error

-- the next step, unless this one failed
abbrev pub and_then : {A B E : Type 0} → Result A E → (A → Result B E) → Result B E
and_then (Ok value) further = further value
and_then (Err error) further = Err error

-- the address that is dialled for a URL: first the lookup decides, then the endpoint
abbrev pub dialled_address : Parts → Lookup → ConnectOutcome → Result Addr ConnectingError
dialled_address url lookup outcome =
    and_then (address_of (host_or_empty url) (port_of url) lookup) (unless_hindered (outcome_error outcome))

-- the target of a URL, if it isn't refused
abbrev pub target_of_url : Result Parts UrlRefusal → Lookup → ConnectOutcome → Result ConnectTarget ConnectingError
target_of_url (Err refusal) lookup outcome = Err (errors.InvalidUrl refusal)
target_of_url (Ok url) lookup outcome =
    and_then (dialled_address url lookup outcome) (λ address. Ok (target_at url address))

-- the target of a text, or why there is none: first the URL decides, then the lookup, then the endpoint
abbrev pub target_of : List ℕ → Lookup → ConnectOutcome → Result ConnectTarget ConnectingError
target_of text lookup outcome = target_of_url (https_url text) lookup outcome

-- the target with the request of these additional fields, as the definitions have it
abbrev pub with_request : Fields → Result ConnectTarget ConnectingError → Result Target ConnectingError
with_request headers (Err error) = Err error
with_request headers (Ok t) = Ok (record { address = t.address; name = t.server_name; frame = request_frame t.authority t.path headers; reserved = reserved_name headers })
