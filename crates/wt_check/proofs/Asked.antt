-- The frame of a connect that gives a session, by its URL and its headers alone.
use Rattle.std.specs.Prelude.{[], ◌≡◌, Bool, Err, List, None, Ok, Option, Result, Some, bytes_eq, codes, false, true, ℕ}
use Rattle.std.proofs.Common.{◌∙◌, ap, refl, sym}
use Rattle.url.specs.Parser.{parse_url}
use Rattle.url.specs.Parts.{Parts, host_or_empty}
use Rattle.url.specs.declared.error.ParseError.{ParseError}
use Rattle.url.specs.declared.host.Host.{Host}
use Rattle.wt_check.specs.Sessions.{asking_frame, frame_in}
use Rattle.wt_meaning.specs.Handshakes.{connect_on, poll_rows}
use Rattle.wt_meaning.specs.History.{History}
use Rattle.wt_meaning.specs.Rows.{first_row}
use Rattle.wt_meaning.specs.Targets.{Target, address_of, outcome_error, port_of, reserved_name, target_at, target_of, target_with}
use Rattle.wt_meaning.specs.Windows.{session_in}
use Rattle.wt_promise.proofs.Aims.{same-head}
use Rattle.wt_promise.proofs.OwnForms.{frame_of}
use Rattle.wt_promise.proofs.Sessions.{is_connect}
use Rattle.wt_promise.proofs.Tables.{OfRows, by-row, by-value, no-row}
use Rattle.wt_promise.specs.Owed.{head_of}
use Rattle.wt_turn.specs.declared.answer.Answer.{Answer}
use Rattle.wt_turn.specs.declared.call.Call.{Call}
use Rattle.wt_turn.specs.declared.connecting_error.ConnectingError.{ConnectingError}
use Rattle.wt_wire.specs.HeaderList.{Fields}
use Rattle.wt_wire.specs.declared.addr.Addr.{Addr}
use Rattle.wt_wire.specs.declared.lookup.ConnectOutcome.{ConnectOutcome}
use Rattle.wt_wire.specs.declared.lookup.Lookup.{Lookup}
use Rattle.wt_wire.specs.declared.side.Side.{Side}
use Rattle.url.specs.declared.host.Host.TheVariants as hosts
use Rattle.wt_turn.specs.declared.call.Call.TheVariants as calls
use Rattle.wt_turn.specs.declared.reply.Reply.TheVariants as replies
use Rattle.wt_turn.specs.declared.turn.Turn.TheVariants as turns
use Rattle.wt_wire.specs.declared.addr.Addr.TheVariants as addresses
use Rattle.wt_wire.specs.declared.lookup.ConnectOutcome.TheVariants as outcomes
use Rattle.wt_wire.specs.declared.lookup.Lookup.TheVariants as lookups

-- ---- a connect that gives a session has a target, and no reserved name

data Granted : Result Target ConnectingError → Type 0 where
  Given : (t : Target) → t.reserved ≡ None → Granted (Ok t)

abbrev GrantedIf : ℕ → Result Target ConnectingError → Answer → Type 0
GrantedIf s t a = session_in a.reply ≡ Some s → Granted t

granted : (side : Side) (h : History) (s : ℕ) (t : Result Target ConnectingError) → OfRows (GrantedIf s t) (connect_on side h t)
granted side h s (Err e) = no-row (GrantedIf s (Err e)) (λ x. absurd (cc x))
granted side h s (Ok t) =
    by-row P _ _ [] _ (λ c e. absurd (cc e)) (λ c. by-row P _ replies.Pending [] _ (λ d e. absurd (cc e)) (λ d. by-row P _ _ [] _ (λ f e. absurd (cc e))
    (λ f. by-row P _ replies.Pending [] _ (λ g e. absurd (cc e)) (λ g. by-value P t.reserved _ _ _ (λ y q e. absurd (cc e)) (λ q. record { first = λ e. Given t q })))))
  where
    P : Answer → Type 0
    P = GrantedIf s (Ok t)

-- ---- its frame

module _ (url : Parts) (headers : Fields) where
  found : (host : Host (List ℕ)) (port : ℕ) → (a : Addr) × (address_of host port (lookups.Found (addresses.V4 0 0)) ≡ Ok a)
  found (hosts.Domain domain) port = (_, refl)
  found (hosts.Ipv4 address) port = (_, refl)
  found (hosts.Ipv6 address) port = (_, refl)

  anywhere : (t : Target) → bytes_eq url.scheme (codes "https") ≡ true → t.reserved ≡ None → (a : Addr) → target_at url headers None a ≡ Ok t
      → frame_in (target_of (Ok url) headers (lookups.Found (addresses.V4 0 0)) outcomes.Proceed) ≡ Some t.frame
  anywhere t s r a e =
      let f = found (host_or_empty url) (port_of url) in
      let none : reserved_name headers ≡ None = ap (λ (x : Result Target ConnectingError). reserved_in x) e ∙ r in
      rw (s, f.1, none) (ap (λ (x : Result Target ConnectingError). Some (frame_of x)) e)
    where
      reserved_in : Result Target ConnectingError → Option (List ℕ)
      reserved_in (Ok x) = x.reserved
      reserved_in (Err x) = None

frame-granted : (u : Result Parts ParseError) (headers : Fields) (lookup : Lookup) (outcome : ConnectOutcome) (t : Target) → target_of u headers lookup outcome ≡ Ok t → t.reserved ≡ None
    → frame_in (target_of u headers (lookups.Found (addresses.V4 0 0)) outcomes.Proceed) ≡ Some t.frame
frame-granted (Err x) headers lookup outcome t e r = absurd (cc e)
frame-granted (Ok url) headers lookup outcome t e r = by (bytes_eq url.scheme (codes "https")) refl e
  where
    at : (o : Option ConnectingError) (a : Addr) → bytes_eq url.scheme (codes "https") ≡ true → target_at url headers o a ≡ Ok t → frame_in (target_of (Ok url) headers (lookups.Found (addresses.V4 0 0)) outcomes.Proceed) ≡ Some t.frame
    at (Some x) a s q = absurd (cc q)
    at None a s q = anywhere url headers t s r a q

    with_ : (o : Result Addr ConnectingError) → bytes_eq url.scheme (codes "https") ≡ true → target_with url headers outcome o ≡ Ok t → frame_in (target_of (Ok url) headers (lookups.Found (addresses.V4 0 0)) outcomes.Proceed) ≡ Some t.frame
    with_ (Err x) s q = absurd (cc q)
    with_ (Ok a) s q = at (outcome_error outcome) a s q

    by : (b : Bool) → bytes_eq url.scheme (codes "https") ≡ b → target_of (Ok url) headers lookup outcome ≡ Ok t → frame_in (target_of (Ok url) headers (lookups.Found (addresses.V4 0 0)) outcomes.Proceed) ≡ Some t.frame
    by false s q = absurd (let z = rw s at q in cc z)
    by true s q = with_ (address_of (host_or_empty url) (port_of url) lookup) s (let z = rw s at q in z)

-- the frame of a connect whose poll gives a session is all that the connect writes first
pub connect-frame : (side : Side) (h : History) (s : ℕ) (c : Call) → is_connect c ≡ true → session_in (first_row (poll_rows side h (Some c))).reply ≡ Some s → asking_frame (turns.Call c) ≡ Some (head_of (Some c))
connect-frame side h s (calls.Connect options lookup outcome) k e = of (target_of (parse_url None options.0) options.1 lookup outcome) refl ((granted side h s (target_of (parse_url None options.0) options.1 lookup outcome)).first e)
  where
    of : (t : Result Target ConnectingError) → target_of (parse_url None options.0) options.1 lookup outcome ≡ t → Granted t → asking_frame (turns.Call (calls.Connect options lookup outcome)) ≡ Some (head_of (Some (calls.Connect options lookup outcome)))
    of (Err x) q g = elim g [ ]
    of (Ok t) q (Given _ r) =
        frame-granted (parse_url None options.0) options.1 lookup outcome t q r
        ∙ ap (λ (x : List ℕ). Some x) (ap frame_of (sym q) ∙ same-head (Some (calls.Connect options lookup outcome)))
connect-frame side h s c k e = absurd (cc k)
