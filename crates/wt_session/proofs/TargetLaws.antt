-- Which of a URL, a lookup and the endpoint's answer decides.
use Rattle.std.proofs.Common.{◌≡◌, ◌≢◌, ◌↔◌, ℕ, Bool, true, false, List, Option, None, Some, Result, Ok, Err, IsErr, bytes_eq, codes, if◌then◌else◌, refl}
use Rattle.std.proofs.lemmas.Bool.{false≢true}
use Rattle.std.proofs.lemmas.Slice.Eq.{bytes_eq-Decides}
use Rattle.url.specs.declared.host.Host.{Host}
use Rattle.url.specs.declared.host.Host.TheVariants.{Domain, Ipv4, Ipv6}
use Rattle.url.specs.Host.{IsIpHost}
use Rattle.url.specs.Parser.{Parsed, parse_url}
use Rattle.url.specs.Parts.{Parts, host_or_empty}
use Rattle.wt_wire.specs.declared.addr.Addr.{Addr}
use Rattle.wt_wire.specs.declared.lookup.ConnectOutcome.{ConnectOutcome}
use Rattle.wt_wire.specs.declared.lookup.ConnectOutcome.TheVariants as outcomes
use Rattle.wt_wire.specs.declared.lookup.Lookup.{Lookup}
use Rattle.wt_wire.specs.declared.lookup.Lookup.TheVariants.{Found, NotFound, Fault}
use Rattle.wt_session.specs.ConnectTarget.{IfParsed, and_then, dialled_address, target_at, target_of, target_of_url, unless_hindered, with_https, with_request}
use Rattle.wt_meaning.specs.Targets.{address_of, looked_up, outcome_error, port_of}
use Rattle.wt_meaning.specs.Targets as meaning
use Rattle.wt_wire.specs.HeaderList.{Fields}
use Rattle.wt_turn.specs.declared.connecting_error.ConnectingError.{ConnectingError}
use Rattle.wt_turn.specs.declared.connecting_error.ConnectingError.TheVariants as errors
use Rattle.wt_turn.specs.declared.connecting_error.UrlRefusal.{UrlRefusal}
use Rattle.wt_turn.specs.declared.connecting_error.UrlRefusal.TheVariants.{Parse, Scheme}

-- ---- the scheme

-- a test that can't pass fails
fails : (passes : Bool) → passes ≢ true → passes ≡ false
fails true never = absurd (never refl)
fails false never = refl

-- the test of the scheme
is_other : (scheme : List ℕ) → scheme ≢ codes "https" → bytes_eq scheme (codes "https") ≡ false
is_other scheme other = fails (bytes_eq scheme (codes "https")) (λ e. other ((bytes_eq-Decides scheme (codes "https")).0 e))

is_same : (scheme : List ℕ) → scheme ≡ codes "https" → bytes_eq scheme (codes "https") ≡ true
is_same scheme same = (bytes_eq-Decides scheme (codes "https")).1 same

-- ---- what refuses a URL

-- neither the lookup nor the endpoint does
lookup_refuses_no_url : (lookup : Lookup) (refusal : UrlRefusal) → looked_up lookup ≢ Err (errors.InvalidUrl refusal)
lookup_refuses_no_url (Found address) refusal = λ h. cc
lookup_refuses_no_url NotFound refusal = λ h. cc
lookup_refuses_no_url (Fault reason) refusal = λ h. cc

address_refuses_no_url : (host : Host (List ℕ)) (port : ℕ) (lookup : Lookup) (refusal : UrlRefusal) → address_of host port lookup ≢ Err (errors.InvalidUrl refusal)
address_refuses_no_url (Domain name) port lookup refusal = lookup_refuses_no_url lookup refusal
address_refuses_no_url (Ipv4 ip) port lookup refusal = λ h. cc
address_refuses_no_url (Ipv6 ip) port lookup refusal = λ h. cc

outcome_refuses_no_url : (outcome : ConnectOutcome) (address : Addr) (refusal : UrlRefusal) → unless_hindered (outcome_error outcome) address ≢ Err (errors.InvalidUrl refusal)
outcome_refuses_no_url outcomes.Proceed address refusal = λ h. cc
outcome_refuses_no_url _ address refusal = λ h. cc

-- two steps that don't give an error don't give it together
neither : {A B E : Type 0} (first : Result A E) (further : A → Result B E) (error : E) →
    first ≢ Err error → ((value : A) → further value ≢ Err error) → and_then first further ≢ Err error
neither (Ok value) further error one other = other value
neither (Err given) further error one other = λ h. one (let same : given ≡ error = cc in rw same refl)

url_is_not_refused : (url : Parts) (lookup : Lookup) (outcome : ConnectOutcome) (refusal : UrlRefusal) → target_of_url (Ok url) lookup outcome ≢ Err (errors.InvalidUrl refusal)
url_is_not_refused url lookup outcome refusal =
    neither (dialled_address url lookup outcome) (λ address. Ok (target_at url address)) (errors.InvalidUrl refusal)
    (neither (address_of (host_or_empty url) (port_of url) lookup) (unless_hindered (outcome_error outcome)) (errors.InvalidUrl refusal)
    (address_refuses_no_url (host_or_empty url) (port_of url) lookup refusal)
    (λ address. outcome_refuses_no_url outcome address refusal))
    (λ address h. cc)

-- where the scheme was tested, the text was a URL
tested : (url : Parts) (passes : Bool) (lookup : Lookup) (outcome : ConnectOutcome) →
    target_of_url (if passes then Ok url else Err Scheme) lookup outcome ≢ Err (errors.InvalidUrl Parse)
tested url true lookup outcome = url_is_not_refused url lookup outcome Parse
tested url false lookup outcome = λ h. cc

parse_decides : (parsed : Parsed Parts) (lookup : Lookup) (outcome : ConnectOutcome) →
    (target_of_url (with_https parsed) lookup outcome ≡ Err (errors.InvalidUrl Parse)) ↔ IsErr parsed
parse_decides (Ok url) lookup outcome = (λ h. absurd (tested url (bytes_eq url.scheme (codes "https")) lookup outcome h), λ h. absurd (false≢true h))
parse_decides (Err error) lookup outcome = (λ h. refl, λ h. refl)

scheme_decides : (parsed : Parsed Parts) (lookup : Lookup) (outcome : ConnectOutcome) →
    (target_of_url (with_https parsed) lookup outcome ≡ Err (errors.InvalidUrl Scheme)) ↔ IfParsed parsed (λ url. url.scheme ≢ codes "https")
scheme_decides (Ok url) lookup outcome = (
  λ h same. url_is_not_refused url lookup outcome Scheme (let passed = rw (is_same url.scheme same) at h in passed),
  λ other. rw (is_other url.scheme other) refl,
)
scheme_decides (Err error) lookup outcome = (λ h. cc, λ h. absurd h)

pub parse_exactly : (text : List ℕ) (lookup : Lookup) (outcome : ConnectOutcome) →
    (target_of text lookup outcome ≡ Err (errors.InvalidUrl Parse)) ↔ IsErr (parse_url None text)
parse_exactly text lookup outcome = parse_decides (parse_url None text) lookup outcome

pub scheme_exactly : (text : List ℕ) (lookup : Lookup) (outcome : ConnectOutcome) →
    (target_of text lookup outcome ≡ Err (errors.InvalidUrl Scheme)) ↔ IfParsed (parse_url None text) (λ url. url.scheme ≢ codes "https")
scheme_exactly text lookup outcome = scheme_decides (parse_url None text) lookup outcome

-- ---- the lookup

-- an IP address is its own, whatever the lookup says
same_address : (host : Host (List ℕ)) (port : ℕ) (first second : Lookup) → IsIpHost host → address_of host port first ≡ address_of host port second
same_address (Domain name) port first second h = absurd h
same_address (Ipv4 ip) port first second h = refl
same_address (Ipv6 ip) port first second h = refl

pub same_without_lookup : (url : Parts) (first second : Lookup) (outcome : ConnectOutcome) → IsIpHost (host_or_empty url) →
    dialled_address url first outcome ≡ dialled_address url second outcome
same_without_lookup url first second outcome h =
    rw (same_address (host_or_empty url) (port_of url) first second h) refl

-- ---- the target that the definitions find

hindered : (url : Parts) (headers : Fields) (hindrance : Option ConnectingError) (address : Addr) →
    meaning.target_at url headers hindrance address ≡ with_request headers (and_then (unless_hindered hindrance address) (λ found. Ok (target_at url found)))
hindered url headers None address = refl
hindered url headers (Some error) address = refl

addressed : (url : Parts) (headers : Fields) (outcome : ConnectOutcome) (found : Result Addr ConnectingError) →
    meaning.target_with url headers outcome found
    ≡ with_request headers (and_then (and_then found (unless_hindered (outcome_error outcome))) (λ address. Ok (target_at url address)))
addressed url headers outcome (Ok address) = hindered url headers (outcome_error outcome) address
addressed url headers outcome (Err error) = refl

secured : (url : Parts) (headers : Fields) (lookup : Lookup) (outcome : ConnectOutcome) (passes : Bool) →
    (if passes
    then meaning.target_with url headers outcome (address_of (host_or_empty url) (port_of url) lookup)
    else Err (errors.InvalidUrl Scheme))
    ≡ with_request headers (target_of_url (if passes then Ok url else Err Scheme) lookup outcome)
secured url headers lookup outcome true =
    addressed url headers outcome (address_of (host_or_empty url) (port_of url) lookup)
secured url headers lookup outcome false = refl

parsed_target : (parsed : Parsed Parts) (headers : Fields) (lookup : Lookup) (outcome : ConnectOutcome) →
    meaning.target_of parsed headers lookup outcome ≡ with_request headers (target_of_url (with_https parsed) lookup outcome)
parsed_target (Ok url) headers lookup outcome = secured url headers lookup outcome (bytes_eq url.scheme (codes "https"))
parsed_target (Err error) headers lookup outcome = refl

pub target_is : (text : List ℕ) (headers : Fields) (lookup : Lookup) (outcome : ConnectOutcome) →
    meaning.target_of (parse_url None text) headers lookup outcome ≡ with_request headers (target_of text lookup outcome)
target_is text headers lookup outcome = parsed_target (parse_url None text) headers lookup outcome
