-- What `==` finds equal is equal: lists of header fields, lookups, outcomes of a connect, and errors of a connection and of a connect.
use Rattle.std.proofs.Common.{◌≡◌, ◌&&◌, ℕ, true, List, nat_eq, rules}
use Rattle.std.specs.Cmp.{first_so, second_so}
use Rattle.std.specs.Cmp.Lexicographic.{pointwise, bytes_decides}
use Rattle.wt_wire.proofs.EqualityLaws.{fields_decide}
use Rattle.wt_wire.specs.contracts.header_list.HeaderListPartialEq.TheImpl as headers
use Rattle.wt_wire.specs.contracts.ids.SessionIdPartialEq.TheImpl as ids
use Rattle.wt_wire.specs.contracts.lookup.LookupPartialEq.TheImpl as lookups
use Rattle.wt_wire.specs.contracts.lookup.ConnectOutcomePartialEq.TheImpl as outcomes
use Rattle.wt_wire.specs.declared.lookup.Lookup.{Lookup}
use Rattle.wt_wire.specs.declared.lookup.Lookup.TheVariants as lookup
use Rattle.wt_wire.specs.declared.lookup.ConnectOutcome.{ConnectOutcome}
use Rattle.wt_wire.specs.declared.lookup.ConnectOutcome.TheVariants as outcome
use Rattle.wt_turn.specs.contracts.connection_error.ConnectionErrorPartialEq.TheImpl as failures
use Rattle.wt_turn.specs.declared.connection_error.ConnectionError.{ConnectionError}
use Rattle.wt_turn.specs.declared.connection_error.ConnectionError.TheVariants as failure
use Rattle.wt_turn.specs.contracts.connecting_error.ConnectingErrorPartialEq.TheImpl as connects
use Rattle.wt_turn.specs.declared.connecting_error.ConnectingError.{ConnectingError}
use Rattle.wt_turn.specs.declared.connecting_error.ConnectingError.TheVariants as connect

pub headers_join : (one other : List (List ℕ × List ℕ)) → headers.ghosts.eq one other ≡ true → one ≡ other
headers_join one other = (fields_decide one other).0

pub ids_join : (one other : ℕ) → ids.ghosts.eq one other ≡ true → one ≡ other
ids_join one other e = search rules

-- an id with header fields
pub requests_join : (a b : ℕ) (c d : List (List ℕ × List ℕ)) → (ids.ghosts.eq a b && headers.ghosts.eq c d) ≡ true → ◌≡◌ {A = ℕ × List (List ℕ × List ℕ)} (a, c) (b, d)
requests_join a b c d e = λ i. (ids_join a b (first_so (ids.ghosts.eq a b) (headers.ghosts.eq c d) e) i, headers_join c d (second_so (ids.ghosts.eq a b) (headers.ghosts.eq c d) e) i)

-- a URL with header fields
pub options_join : (one other : List ℕ × List (List ℕ × List ℕ)) → (pointwise nat_eq one.0 other.0 && headers.ghosts.eq one.1 other.1) ≡ true → one ≡ other
options_join one other e = λ i. (
  (bytes_decides one.0 other.0).0 (first_so (pointwise nat_eq one.0 other.0) (headers.ghosts.eq one.1 other.1) e) i,
  headers_join one.1 other.1 (second_so (pointwise nat_eq one.0 other.0) (headers.ghosts.eq one.1 other.1) e) i,
)

pub lookups_join : (one other : Lookup) → lookups.ghosts.eq one other ≡ true → one ≡ other
lookups_join (lookup.Found a) other e = search rules
lookups_join lookup.NotFound other e = search rules
lookups_join (lookup.Fault a) other e = search rules

pub outcomes_join : (one other : ConnectOutcome) → outcomes.ghosts.eq one other ≡ true → one ≡ other
outcomes_join outcome.Proceed other e = search rules
outcomes_join outcome.EndpointStopping other e = search rules
outcomes_join outcome.CidsExhausted other e = search rules
outcomes_join (outcome.InvalidServerName a) other e = search rules
outcomes_join (outcome.InvalidRemoteAddress a) other e = search rules

pub failures_join : (one other : ConnectionError) → failures.ghosts.eq one other ≡ true → one ≡ other
failures_join (failure.ConnectionClosed a) other e = search rules
failures_join (failure.ApplicationClosed a) other e = search rules
failures_join failure.LocallyClosed other e = search rules
failures_join (failure.LocalH3Error a) other e = search rules
failures_join failure.TimedOut other e = search rules
failures_join (failure.QuicProto a) other e = search rules
failures_join failure.CidsExhausted other e = search rules

pub connects_join : (one other : ConnectingError) → connects.ghosts.eq one other ≡ true → one ≡ other
connects_join (connect.InvalidUrl a) other e = search rules
connects_join (connect.DnsLookup a) other e = search rules
connects_join connect.DnsNotFound other e = search rules
connects_join (connect.ConnectionError a) other e = search (rules, failures_join)
connects_join connect.SessionRejected other e = search rules
connects_join (connect.ReservedHeader a) other e = search rules
connects_join connect.EndpointStopping other e = search rules
connects_join connect.CidsExhausted other e = search rules
connects_join (connect.InvalidServerName a) other e = search rules
connects_join (connect.InvalidRemoteAddress a) other e = search rules
