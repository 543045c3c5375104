-- What a connect makes of its URL (the URL Standard), of the lookup of its host and of its headers.
use Rattle.std.specs.Prelude.{[], ◌++◌, ◌∷◌, Err, List, None, Ok, Option, Result, Some, bytes_eq, codes, decimal, if◌then◌else◌, is_some, ℕ}
use Rattle.std.specs.List.{fold}
use Rattle.std.specs.Net.Addr.{ipv4_bits, ipv6_bits, ipv6_segments}
use Rattle.std.specs.Net.Text.{hex_groups_text}
use Rattle.std.specs.Option.{option_or}
use Rattle.url.specs.Host.{host_text}
use Rattle.url.specs.Parts.{Parts, host_or_empty}
use Rattle.url.specs.declared.error.ParseError.{ParseError}
use Rattle.url.specs.declared.host.Host.{Host}
use Rattle.wt_meaning.specs.Findings.{first_of}
use Rattle.wt_message.specs.FixedBytes.{headers_frame_bytes}
use Rattle.wt_message.specs.Requests.{is_reserved, request_fields}
use Rattle.wt_turn.specs.declared.action.Action.{Action}
use Rattle.wt_turn.specs.declared.connecting_error.ConnectingError.{ConnectingError}
use Rattle.wt_wire.specs.HeaderList.{Fields, with_field}
use Rattle.wt_wire.specs.declared.lookup.ConnectOutcome.{ConnectOutcome}
use Rattle.wt_wire.specs.declared.lookup.Lookup.{Lookup}
use Rattle.url.specs.declared.host.Host.TheVariants as hosts
use Rattle.wt_turn.specs.declared.action.Action.TheVariants as actions
use Rattle.wt_turn.specs.declared.connecting_error.ConnectingError.TheVariants as connects
use Rattle.wt_turn.specs.declared.connecting_error.UrlRefusal.TheVariants as refusals
use Rattle.wt_wire.specs.declared.addr.Addr.TheVariants as addresses
use Rattle.wt_wire.specs.declared.lookup.ConnectOutcome.TheVariants as outcomes
use Rattle.wt_wire.specs.declared.lookup.Lookup.TheVariants as lookups

-- ---- why it isn't begun

-- why a domain has no address
abbrev pub unresolved : Host (List ℕ) → Lookup → Option ConnectingError
unresolved (hosts.Domain domain) lookups.NotFound = Some connects.DnsNotFound
unresolved (hosts.Domain domain) (lookups.Fault text) = Some (connects.DnsLookup text)
unresolved host lookup = None

-- why QUIC begins no connection
abbrev pub unbegun : ConnectOutcome → Option ConnectingError
unbegun outcomes.EndpointStopping = Some connects.EndpointStopping
unbegun outcomes.CidsExhausted = Some connects.CidsExhausted
unbegun (outcomes.InvalidServerName name) = Some (connects.InvalidServerName name)
unbegun (outcomes.InvalidRemoteAddress address) = Some (connects.InvalidRemoteAddress address)
unbegun outcomes.Proceed = None

-- its URL doesn't parse or isn't of https, its domain has no address, or QUIC refuses it
abbrev pub refusal : Result Parts ParseError → Lookup → ConnectOutcome → Option ConnectingError
refusal (Err e) lookup outcome = Some (connects.InvalidUrl refusals.Parse)
refusal (Ok url) lookup outcome =
    if bytes_eq url.scheme (codes "https") then option_or (unresolved (host_or_empty url) lookup) (unbegun outcome) else Some (connects.InvalidUrl refusals.Scheme)

-- what is said of a URL whose connect is begun
abbrev pub of_url : {T : Type 0} → Result Parts ParseError → Lookup → ConnectOutcome → (Parts → List T) → List T
of_url (Err e) lookup outcome says = []
of_url (Ok url) lookup outcome says = if is_some (refusal (Ok url) lookup outcome) then [] else says url

-- ---- where it goes

-- the dial: to the address that was found for a domain, or to the URL's own, with the host as the server's name, without brackets
abbrev pub dial_to : Host (List ℕ) → ℕ → Lookup → List Action
dial_to (hosts.Domain domain) port (lookups.Found address) = actions.Dial address domain ∷ []
dial_to (hosts.Ipv4 address) port lookup = actions.Dial (addresses.V4 (ipv4_bits address) port) (host_text (hosts.Ipv4 address)) ∷ []
dial_to (hosts.Ipv6 address) port lookup = actions.Dial (addresses.V6 (ipv6_bits address) port) (hex_groups_text (ipv6_segments address)) ∷ []
dial_to host port lookup = []

-- ---- its request

-- the first of the headers' names that only this layer sets
abbrev pub reserved : Fields → Option (List ℕ)
reserved headers = first_of (λ (f : List ℕ × List ℕ). if is_reserved f.0 then Some f.0 else None) headers

-- the frame: :authority is the host, with the port where it isn't the scheme's, :path the path with the query (RFC 9114, section 4.3.1)
abbrev pub request_head : Parts → Fields → List ℕ
request_head url headers = headers_frame_bytes (fold (λ (fields : Fields) (f : List ℕ × List ℕ). with_field f.0 f.1 fields) (request_fields
    (host_text (host_or_empty url) ++ elim url.port [ Some port ↦ codes ":" ++ decimal port | None ↦ [] ])
    (url.path ++ elim url.query [ Some query ↦ codes "?" ++ query | None ↦ [] ])) headers)
