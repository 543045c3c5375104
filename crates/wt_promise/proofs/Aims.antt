-- Where a connect goes, beside why it isn't begun.
use Rattle.std.specs.Prelude.{[], ◌∷◌, ◌≡◌, Bool, Err, List, None, Ok, Option, Result, Some, bytes_eq, codes, decimal, false, if◌then◌else◌, is_some, true, ◌++◌, ℕ}
use Rattle.std.specs.List.{fold}
use Rattle.std.specs.Net.Addr.{ipv4_bits, ipv6_bits}
use Rattle.std.specs.Option.{option_or}
use Rattle.std.proofs.Common.{◌∙◌, ap, refl, sym}
use Rattle.url.specs.Host.{host_text}
use Rattle.url.specs.Parser.{parse_url}
use Rattle.url.specs.Parts.{Parts, host_or_empty}
use Rattle.url.specs.declared.error.ParseError.{ParseError}
use Rattle.url.specs.declared.host.Host.{Host}
use Rattle.wt_meaning.specs.Targets.{Target, address_of, authority_of, path_of, port_of, request_frame, reserved_name, server_name, target_of, target_with, with_fields, with_port, with_query}
use Rattle.wt_message.specs.FixedBytes.{headers_frame_bytes}
use Rattle.wt_message.specs.Requests.{is_reserved, request_fields}
use Rattle.wt_promise.proofs.OwnForms.{frame_of, head_of}
use Rattle.wt_promise.specs.Connects.{dial_to, of_url, refusal, request_head, reserved, unbegun, unresolved}
use Rattle.wt_promise.specs.Owed as owed
use Rattle.wt_turn.specs.declared.connecting_error.ConnectingError.{ConnectingError}
use Rattle.wt_turn.specs.declared.call.Call.{Call}
use Rattle.wt_wire.specs.HeaderList.{Fields, with_field}
use Rattle.wt_wire.specs.declared.addr.Addr.{Addr}
use Rattle.wt_wire.specs.declared.lookup.ConnectOutcome.{ConnectOutcome}
use Rattle.wt_wire.specs.declared.lookup.Lookup.{Lookup}
use Rattle.url.specs.declared.host.Host.TheVariants as hosts
use Rattle.wt_turn.specs.declared.action.Action.TheVariants as actions
use Rattle.wt_turn.specs.declared.call.Call.TheVariants as calls
use Rattle.wt_turn.specs.declared.connecting_error.ConnectingError.TheVariants as connects
use Rattle.wt_turn.specs.declared.connecting_error.UrlRefusal.TheVariants as refusals
use Rattle.wt_wire.specs.declared.addr.Addr.TheVariants as addresses
use Rattle.wt_wire.specs.declared.lookup.ConnectOutcome.TheVariants as outcomes
use Rattle.wt_wire.specs.declared.lookup.Lookup.TheVariants as lookups

-- ---- its request

same-reserved : (headers : Fields) → reserved_name headers ≡ reserved headers
same-reserved [] = refl
same-reserved (f ∷ headers) = by (is_reserved f.0) (same-reserved headers)
  where
    by : (b : Bool) → reserved_name headers ≡ reserved headers → (if b then Some f.0 else reserved_name headers) ≡ option_or (if b then Some f.0 else None) (reserved headers)
    by true e = refl
    by false e = e

same-fields : (fields more : Fields) → with_fields fields more ≡ fold (λ (before : Fields) (f : List ℕ × List ℕ). with_field f.0 f.1 before) fields more
same-fields fields [] = refl
same-fields fields (f ∷ more) = same-fields (with_field f.0 f.1 fields) more

same-request : (url : Parts) (headers : Fields) → request_frame (authority_of url) (path_of url) headers ≡ request_head url headers
same-request url headers =
    rw (ap (λ (xs : List ℕ). host_text (host_or_empty url) ++ xs) (port url.port), ap (λ (xs : List ℕ). url.path ++ xs) (query url.query)) (ap headers_frame_bytes (same-fields (request_fields _ _) headers))
  where
    port : (o : Option ℕ) → with_port o ≡ elim o [ Some port ↦ codes ":" ++ decimal port | None ↦ [] ]
    port None = refl
    port (Some n) = refl

    query : (o : Option (List ℕ)) → with_query o ≡ elim o [ Some query ↦ codes "?" ++ query | None ↦ [] ]
    query None = refl
    query (Some text) = refl

-- ---- it goes nowhere, for a reason, or somewhere

data Goes (url : Parts) (headers : Fields) (lookup : Lookup) (host : Host (List ℕ)) (target : Result Target ConnectingError) (why : Option ConnectingError) : Type 0 where
  Not : (e : ConnectingError) → target ≡ Err e → why ≡ Some e → Goes url headers lookup host target why
  To : (t : Target) → target ≡ Ok t → why ≡ None → t.reserved ≡ reserved headers → t.frame ≡ request_head url headers → actions.Dial t.address t.name ∷ [] ≡ dial_to host (port_of url) lookup
      → Goes url headers lookup host target why

at-outcome : (url : Parts) (headers : Fields) (lookup : Lookup) (outcome : ConnectOutcome) (host : Host (List ℕ)) (address : Addr) → host_or_empty url ≡ host
    → actions.Dial address (server_name host) ∷ [] ≡ dial_to host (port_of url) lookup → Goes url headers lookup host (target_with url headers outcome (Ok address)) (unbegun outcome)
at-outcome url headers lookup outcomes.Proceed host address e d = To _ refl refl (same-reserved headers) (same-request url headers) (ap (λ (x : Host (List ℕ)). actions.Dial address (server_name x) ∷ []) e ∙ d)
at-outcome url headers lookup outcomes.EndpointStopping host address e d = Not connects.EndpointStopping refl refl
at-outcome url headers lookup outcomes.CidsExhausted host address e d = Not connects.CidsExhausted refl refl
at-outcome url headers lookup (outcomes.InvalidServerName name) host address e d = Not (connects.InvalidServerName name) refl refl
at-outcome url headers lookup (outcomes.InvalidRemoteAddress other) host address e d = Not (connects.InvalidRemoteAddress other) refl refl

at-host : (url : Parts) (headers : Fields) (lookup : Lookup) (outcome : ConnectOutcome) (host : Host (List ℕ)) → host_or_empty url ≡ host
    → Goes url headers lookup host (target_with url headers outcome (address_of host (port_of url) lookup)) (option_or (unresolved host lookup) (unbegun outcome))
at-host url headers lookups.NotFound outcome (hosts.Domain domain) e = Not connects.DnsNotFound refl refl
at-host url headers (lookups.Fault text) outcome (hosts.Domain domain) e = Not (connects.DnsLookup text) refl refl
at-host url headers (lookups.Found address) outcome (hosts.Domain domain) e = at-outcome url headers (lookups.Found address) outcome (hosts.Domain domain) address e refl
at-host url headers lookup outcome (hosts.Ipv4 x) e = at-outcome url headers lookup outcome (hosts.Ipv4 x) (addresses.V4 (ipv4_bits x) (port_of url)) e refl
at-host url headers lookup outcome (hosts.Ipv6 x) e = at-outcome url headers lookup outcome (hosts.Ipv6 x) (addresses.V6 (ipv6_bits x) (port_of url)) e refl

-- of any text
pub data Aim (parsed : Result Parts ParseError) (headers : Fields) (lookup : Lookup) (outcome : ConnectOutcome) : Type 0 where
  Refused : (e : ConnectingError) → target_of parsed headers lookup outcome ≡ Err e → refusal parsed lookup outcome ≡ Some e → Aim parsed headers lookup outcome
  Aimed : (url : Parts) (t : Target) → target_of parsed headers lookup outcome ≡ Ok t → parsed ≡ Ok url → refusal parsed lookup outcome ≡ None
      → t.reserved ≡ reserved headers → t.frame ≡ request_head url headers → actions.Dial t.address t.name ∷ [] ≡ dial_to (host_or_empty url) (port_of url) lookup → Aim parsed headers lookup outcome

pub of-refused : {T : Type 0} (parsed : Result Parts ParseError) (lookup : Lookup) (outcome : ConnectOutcome) (e : ConnectingError) (says : Parts → List T) → refusal parsed lookup outcome ≡ Some e → of_url parsed lookup outcome says ≡ []
of-refused (Err x) lookup outcome e says q = refl
of-refused (Ok url) lookup outcome e says q = ap (λ (o : Option ConnectingError). if is_some o then [] else says url) q

pub of-aimed : {T : Type 0} (parsed : Result Parts ParseError) (lookup : Lookup) (outcome : ConnectOutcome) (url : Parts) (says : Parts → List T) → parsed ≡ Ok url → refusal parsed lookup outcome ≡ None
    → of_url parsed lookup outcome says ≡ says url
of-aimed parsed lookup outcome url says p q =
    ap (λ (x : Result Parts ParseError). of_url x lookup outcome says) p
    ∙ ap (λ (o : Option ConnectingError). if is_some o then [] else says url) (ap (λ (x : Result Parts ParseError). refusal x lookup outcome) (sym p) ∙ q)

pub aim : (parsed : Result Parts ParseError) (headers : Fields) (lookup : Lookup) (outcome : ConnectOutcome) → Aim parsed headers lookup outcome
aim (Err e) headers lookup outcome = Refused (connects.InvalidUrl refusals.Parse) refl refl
aim (Ok url) headers lookup outcome = by (bytes_eq url.scheme (codes "https")) refl
  where
    target : Bool → Result Target ConnectingError
    target b = if b then target_with url headers outcome (address_of (host_or_empty url) (port_of url) lookup) else Err (connects.InvalidUrl refusals.Scheme)

    why : Bool → Option ConnectingError
    why b = if b then option_or (unresolved (host_or_empty url) lookup) (unbegun outcome) else Some (connects.InvalidUrl refusals.Scheme)

    https : bytes_eq url.scheme (codes "https") ≡ true → Goes url headers lookup (host_or_empty url) (target true) (why true) → Aim (Ok url) headers lookup outcome
    https q (Not e a b) = Refused e (ap target q ∙ a) (ap why q ∙ b)
    https q (To t a b r f d) = Aimed url t (ap target q ∙ a) refl (ap why q ∙ b) r f d

    by : (b : Bool) → bytes_eq url.scheme (codes "https") ≡ b → Aim (Ok url) headers lookup outcome
    by true q = https q (at-host url headers lookup outcome (host_or_empty url) refl)
    by false q = Refused (connects.InvalidUrl refusals.Scheme) (ap target q) (ap why q)

-- ---- heads

pub same-head : (c : Option Call) → head_of c ≡ owed.head_of c
same-head None = refl
same-head (Some (calls.Connect options lookup outcome)) = by (aim (parse_url None options.0) options.1 lookup outcome)
  where
    by : Aim (parse_url None options.0) options.1 lookup outcome
        → frame_of (target_of (parse_url None options.0) options.1 lookup outcome) ≡ of_url (parse_url None options.0) lookup outcome (λ (url : Parts). request_head url options.1)
    by (Refused e a w) = ap frame_of a ∙ sym (of-refused (parse_url None options.0) lookup outcome e (λ (url : Parts). request_head url options.1) w)
    by (Aimed url t a p w r f d) = ap frame_of a ∙ f ∙ sym (of-aimed (parse_url None options.0) lookup outcome url (λ (url : Parts). request_head url options.1) p w)
same-head (Some (calls.Accept headers)) = refl
same-head (Some calls.Forbidden) = refl
same-head (Some calls.NotFound) = refl
same-head (Some calls.TooManyRequests) = refl
same-head (Some c) = refl
