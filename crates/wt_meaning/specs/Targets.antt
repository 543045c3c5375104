-- What a connect makes of its URL (the URL Standard), of the lookup of its host and of its headers.
use Rattle.std.specs.Prelude.{[], ◌++◌, ◌∷◌, Err, List, None, Ok, Option, Result, Some, bytes_eq, codes, decimal, if◌then◌else◌, unwrap_or, ℕ}
use Rattle.std.specs.Net.Addr.{ipv4_bits, ipv6_bits, ipv6_segments}
use Rattle.std.specs.Net.Text.{hex_groups_text}
use Rattle.url.specs.Host.{host_text}
use Rattle.url.specs.Parts.{Parts, host_or_empty}
use Rattle.url.specs.declared.error.ParseError.{ParseError}
use Rattle.url.specs.declared.host.Host.{Host}
use Rattle.wt_message.specs.FixedBytes.{headers_frame_bytes}
use Rattle.wt_message.specs.Requests.{is_reserved, request_fields}
use Rattle.wt_turn.specs.declared.connecting_error.ConnectingError.{ConnectingError}
use Rattle.wt_wire.specs.HeaderList.{Fields, with_field}
use Rattle.wt_wire.specs.declared.addr.Addr.{Addr}
use Rattle.wt_wire.specs.declared.lookup.ConnectOutcome.{ConnectOutcome}
use Rattle.wt_wire.specs.declared.lookup.Lookup.{Lookup}
use Rattle.url.specs.declared.host.Host.TheVariants as hosts
use Rattle.wt_turn.specs.declared.connecting_error.ConnectingError.TheVariants as connects
use Rattle.wt_turn.specs.declared.connecting_error.UrlRefusal.TheVariants as refusals
use Rattle.wt_wire.specs.declared.addr.Addr.TheVariants as addresses
use Rattle.wt_wire.specs.declared.lookup.ConnectOutcome.TheVariants as outcomes
use Rattle.wt_wire.specs.declared.lookup.Lookup.TheVariants as lookups

-- ---- what a URL says

-- the server's name: the host's text, without an IPv6 address's brackets (this repository's rule)
abbrev pub server_name : Host (List ℕ) → List ℕ
server_name (hosts.Domain domain) = domain
server_name (hosts.Ipv4 address) = host_text (hosts.Ipv4 address)
server_name (hosts.Ipv6 address) = hex_groups_text (ipv6_segments address)

-- a colon and the port, where there is one
abbrev pub with_port : Option ℕ → List ℕ
with_port None = []
with_port (Some port) = codes ":" ++ decimal port

-- a question mark and the query, where there is one
abbrev pub with_query : Option (List ℕ) → List ℕ
with_query None = []
with_query (Some query) = codes "?" ++ query

-- :authority (RFC 9114, section 4.3.1): the host, and the port where it isn't the scheme's; a user and a password are left out
abbrev pub authority_of : Parts → List ℕ
authority_of url = host_text (host_or_empty url) ++ with_port url.port

-- :path (RFC 9114, section 4.3.1): the path with its query
abbrev pub path_of : Parts → List ℕ
path_of url = url.path ++ with_query url.query

-- the port, 443 where the URL has none (RFC 9110, section 4.2.2)
abbrev pub port_of : Parts → ℕ
port_of url = unwrap_or url.port 443

-- ---- where it connects to

-- the address that was found, or why there is none
abbrev pub looked_up : Lookup → Result Addr ConnectingError
looked_up (lookups.Found address) = Ok address
looked_up lookups.NotFound = Err connects.DnsNotFound
looked_up (lookups.Fault text) = Err (connects.DnsLookup text)

-- a domain's address is looked up, an IP address stands in the URL
abbrev pub address_of : Host (List ℕ) → ℕ → Lookup → Result Addr ConnectingError
address_of (hosts.Domain domain) port lookup = looked_up lookup
address_of (hosts.Ipv4 address) port lookup = Ok (addresses.V4 (ipv4_bits address) port)
address_of (hosts.Ipv6 address) port lookup = Ok (addresses.V6 (ipv6_bits address) port)

-- why QUIC doesn't begin a connection
abbrev pub outcome_error : ConnectOutcome → Option ConnectingError
outcome_error outcomes.Proceed = None
outcome_error outcomes.EndpointStopping = Some connects.EndpointStopping
outcome_error outcomes.CidsExhausted = Some connects.CidsExhausted
outcome_error (outcomes.InvalidServerName name) = Some (connects.InvalidServerName name)
outcome_error (outcomes.InvalidRemoteAddress address) = Some (connects.InvalidRemoteAddress address)

-- ---- the request

-- the fields with these added, one after another
abbrev pub with_fields : Fields → Fields → Fields
with_fields fields [] = fields
with_fields fields (f ∷ more) = with_fields (with_field f.0 f.1 fields) more

-- the frame of a request for this authority and path, with these additional headers
abbrev pub request_frame : List ℕ → List ℕ → Fields → List ℕ
request_frame authority path headers = headers_frame_bytes (with_fields (request_fields authority path) headers)

-- the first of these names that only this layer sets; fields are in order, so it is the least
abbrev pub reserved_name : Fields → Option (List ℕ)
reserved_name [] = None
reserved_name (f ∷ fields) = if is_reserved f.0 then Some f.0 else reserved_name fields

-- ---- what a connect is begun with

-- where it connects to, the request's frame, and the least reserved name among its headers
pub record Target : Type 0 where
  pub address : Addr
  pub name : List ℕ
  pub frame : List ℕ
  pub reserved : Option (List ℕ)

-- QUIC's refusal, or the target
abbrev pub target_at : Parts → Fields → Option ConnectingError → Addr → Result Target ConnectingError
target_at url headers (Some e) address = Err e
target_at url headers None address = Ok (record {
  address = address;
  name = server_name (host_or_empty url);
  frame = request_frame (authority_of url) (path_of url) headers;
  reserved = reserved_name headers;
})

-- the lookup's error comes before QUIC's refusal
abbrev pub target_with : Parts → Fields → ConnectOutcome → Result Addr ConnectingError → Result Target ConnectingError
target_with url headers outcome (Err e) = Err e
target_with url headers outcome (Ok address) = target_at url headers (outcome_error outcome) address

-- the URL's refusal comes first: it doesn't parse, or its scheme isn't https
abbrev pub target_of : Result Parts ParseError → Fields → Lookup → ConnectOutcome → Result Target ConnectingError
target_of (Err e) headers lookup outcome = Err (connects.InvalidUrl refusals.Parse)
target_of (Ok url) headers lookup outcome =
    if bytes_eq url.scheme (codes "https") then target_with url headers outcome (address_of (host_or_empty url) (port_of url) lookup)
    else Err (connects.InvalidUrl refusals.Scheme)
