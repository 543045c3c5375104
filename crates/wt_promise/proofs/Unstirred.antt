-- A turn of the transport at which nothing is found and nothing goes out leaves a call's reply as it is, unless it is about what the call asks.
use Rattle.std.proofs.Common.{◌∙◌, ap, refl, sym}
use Rattle.wt_promise.proofs.AllFound.{none-opened}
use Rattle.wt_promise.proofs.LateAnswers.{first-same}
use Rattle.wt_promise.proofs.LateTurns.{late}
use Rattle.wt_promise.proofs.Waited.{EventsSame, bytes-turn, events-turn}
use Rattle.std.proofs.Common.{subst}
use Rattle.wt_promise.proofs.Accepted.{or-left, or-right}
use Rattle.wt_promise.proofs.CauseRows.{replies-caused}
use Rattle.wt_promise.proofs.Phases.{server-begun}
use Rattle.wt_promise.proofs.Tables.{fits, fits-own}
use Rattle.std.specs.List.{list_any}
use Rattle.std.specs.Option.{option_or}
use Rattle.std.specs.Prelude.{Bool, Err, List, None, Ok, Option, Result, Some, [], drop, false, filter, filter_map, if◌then◌else◌, is_some, length, nat_lt, not, true, unwrap_or, ℕ, ◌&&◌, ◌*◌, ◌+◌, ◌==◌, ◌||◌, ◌∷◌, ◌≡◌}
use Rattle.url.specs.Parser.{parse_url}
use Rattle.url.specs.Parts.{Parts}
use Rattle.url.specs.declared.error.ParseError.{ParseError}
use Rattle.wt_meaning.specs.Calls.{being_opened, opened_by, opening_ends}
use Rattle.wt_meaning.specs.Findings.{Classified, Finding, fault_of, first_of, settings_came}
use Rattle.wt_meaning.specs.History.{History, Pair, actions_out, all_events, contents, ends_by, events, is_handed_out, is_open, loses, may_open, out, stream_count, was_finished, with_bytes, with_event}
use Rattle.wt_meaning.specs.Lawful.{is_lawful, is_response}
use Rattle.wt_meaning.specs.Meaning.{next, own_answer, with_pair}
use Rattle.wt_meaning.specs.Moments.{findings, keeps}
use Rattle.wt_meaning.specs.Windows.{admitted_datagram, establishes, first_session, is_gone, is_gone_by_call, is_number, last_request, makes_gone, named, received_count, request_in, requests, waiting_datagrams}
use Rattle.wt_message.specs.Responses.{status_of}
use Rattle.wt_promise.specs.Causes.{Cause, accepts, answered, causes_of, closed_with, connect_fails, connects_on, driver_answer, first_cause, from, gives_left, goes_on, is_over, left_for, left_request, of_named, opens, polls_opening, rejects, requested, session_answer, transport_answer, when}
use Rattle.wt_promise.specs.Connects.{of_url, refusal, request_head, reserved}
use Rattle.wt_promise.specs.Owed.{begun_last, fits_credit, handshake_stream, head_of, header_for, stopped_early}
use Rattle.wt_promise.specs.Promise.{IsHistory}
use Rattle.wt_promise.specs.Sides.{brings_streams, is_about}
use Rattle.wt_proto.specs.ResponseWalk.{response_walk_of}
use Rattle.wt_proto.specs.declared.response_walk.ResponseWalk.TheVariants as responses
use Rattle.wt_proto.specs.declared.response_walk.ResponseWalk.{ResponseWalk}
use Rattle.wt_proto.specs.declared.verdict.Verdict.TheVariants as verdicts
use Rattle.wt_turn.specs.Reports.{bis_allowed, end_of, is_connected, loss_of, unis_allowed}
use Rattle.wt_turn.specs.Sent.{is_finished, sent_on}
use Rattle.wt_turn.specs.Streams.{local_bi, local_count, local_uni, peer_bi, peer_uni}
use Rattle.wt_turn.specs.Log.{Event}
use Rattle.wt_turn.specs.ProtoError.{error_of_loss}
use Rattle.wt_turn.specs.Turns.{event_of, is_call}
use Rattle.wt_turn.specs.declared.action.Action.{Action}
use Rattle.wt_turn.specs.declared.answer.Answer.{Answer}
use Rattle.wt_turn.specs.declared.call.Call.TheVariants as calls
use Rattle.wt_turn.specs.declared.call.Call.{Call}
use Rattle.wt_turn.specs.declared.connecting_error.ConnectingError.TheVariants as connects
use Rattle.wt_turn.specs.declared.connection_error.ConnectionError.TheVariants as errors
use Rattle.wt_turn.specs.declared.connection_error.ConnectionError.{ConnectionError}
use Rattle.wt_turn.specs.declared.loss.LossReason.{LossReason}
use Rattle.wt_turn.specs.declared.reply.Reply.TheVariants as replies
use Rattle.wt_turn.specs.declared.reply.Reply.{Reply}
use Rattle.wt_turn.specs.declared.turn.Turn.TheVariants as turns
use Rattle.wt_turn.specs.declared.turn.Turn.{Turn}
use Rattle.wt_wire.specs.HeaderList.{Fields}
use Rattle.wt_wire.specs.declared.error.ErrorCode.{ErrorCode}
use Rattle.wt_wire.specs.declared.lookup.ConnectOutcome.{ConnectOutcome}
use Rattle.wt_wire.specs.declared.lookup.Lookup.{Lookup}
use Rattle.wt_wire.specs.declared.side.Side.TheVariants.{Client, Server}
use Rattle.wt_wire.specs.declared.side.Side.{Side}

-- what a call asks of both is the same, and both are open
record Alike (side : Side) (h g : History) : Type 0 where
  open_h : is_open h ≡ true
  open_g : is_open g ≡ true
  found : findings side g ≡ findings side h
  lost : loss_of (events g) ≡ loss_of (events h)
  sent : actions_out g ≡ actions_out h
  handed : (k : ℕ) → is_handed_out g k ≡ is_handed_out h k
  over : (k : ℕ) → list_any (λ (p : Pair). opening_ends k p.turn p.answer.reply) g ≡ list_any (λ (p : Pair). opening_ends k p.turn p.answer.reply) h
  opened : (k : ℕ) → first_of (λ (p : Pair). opened_by k p.turn p.answer.reply) g ≡ first_of (λ (p : Pair). opened_by k p.turn p.answer.reply) h
  begun : begun_last g ≡ begun_last h
  asked : (k : ℕ) → list_any (λ (p : Pair). is_number k (requests p)) g ≡ list_any (λ (p : Pair). is_number k (requests p)) h
  last : last_request g ≡ last_request h
  established : filter_map establishes g ≡ filter_map establishes h
  first : first_session g ≡ first_session h
  received : (s : ℕ) → received_count g s ≡ received_count h s
  gone : (s : ℕ) → is_gone_by_call g s ≡ is_gone_by_call h s

loss-turn : (turn : Turn) (es : List Event) → loses turn ≡ false → loss_of (with_event (event_of turn) es) ≡ loss_of es
loss-turn (turns.Loss reason) es e = absurd (cc e)
loss-turn turn es e = refl

alike : (side : Side) (h : History) (turn : Turn) → is_call turn ≡ false → is_open h ≡ true → is_open (late turn ∷ h) ≡ true → findings side (late turn ∷ h) ≡ findings side h → Alike side h (late turn ∷ h)
alike side h (turns.Call c) n o q f = absurd (cc n)
alike side h turn n o q f = record {
  open_h = o;
  open_g = q;
  found = f;
  lost = ap (λ (b : Bool). loss_of (if b then with_event (event_of turn) (events h) else events h)) o ∙ loss-turn turn (events h) (kept (loses turn) (list_any ends_by h) q);
  sent = refl;
  handed = λ k. refl;
  over = λ k. refl;
  opened = λ k. refl;
  begun = refl;
  asked = λ k. refl;
  last = refl;
  established = refl;
  first = or-none (first_session h);
  received = λ s. refl;
  gone = λ s. refl;
}
  where
    or-none : (o : Option ℕ) → option_or o None ≡ o
    or-none None = refl
    or-none (Some s) = refl

    kept : (l e : Bool) → not ((l || false) || e) ≡ true → l ≡ false
    kept false e x = refl
    kept true e x = absurd (cc x)

module _ (side : Side) (h g : History) (s : Alike side h g) where
  named-alike : (name : Option ℕ) → named g name ≡ named h name
  named-alike None = s.first
  named-alike (Some t) = ap (λ (l : List ℕ). if list_any (λ (id : ℕ). id == t) l then Some t else None) s.established

  gone-found : (t : ℕ) → is_gone g (findings side g) t ≡ is_gone h (findings side h) t
  gone-found t = rw (s.gone t, s.found) refl

  over-same : (t : ℕ) → is_over side g t ≡ is_over side h t
  over-same t = rw (gone-found t, s.open_g, s.open_h) refl

  ends : transport_answer g ≡ transport_answer h
  ends = ap (λ (o : Option LossReason). elim o [ Some reason ↦ error_of_loss reason | None ↦ errors.LocallyClosed ]) s.lost

  drives : driver_answer side g ≡ driver_answer side h
  drives = ap (λ (f : List Finding). elim (fault_of f) [ Some code ↦ errors.LocalH3Error code | None ↦ transport_answer g ]) s.found ∙ by (fault_of (findings side h))
    where
      by : (o : Option ErrorCode) → ◌≡◌ {A = ConnectionError} (elim o [ Some code ↦ errors.LocalH3Error code | None ↦ transport_answer g ]) (elim o [ Some code ↦ errors.LocalH3Error code | None ↦ transport_answer h ])
      by None = ends
      by (Some code) = refl

  answers : (t : ℕ) → session_answer side g t ≡ session_answer side h t
  answers t =
      ap (λ (f : List Finding). unwrap_or (first_of (closed_with t) f) (if is_gone g f t then errors.LocallyClosed else driver_answer side g)) s.found
      ∙ ap (λ (b : Bool). unwrap_or (first_of (closed_with t) (findings side h)) (if b || list_any (makes_gone t) (findings side h) then errors.LocallyClosed else driver_answer side g)) (s.gone t)
      ∙ ap (λ (e : ConnectionError). unwrap_or (first_of (closed_with t) (findings side h)) (if is_gone h (findings side h) t then errors.LocallyClosed else e)) drives

  left-same : (kind t : ℕ) → first_of (left_for g kind t) (findings side g) ≡ first_of (left_for h kind t) (findings side h)
  left-same kind t = ap (first_of (left_for g kind t)) s.found ∙ first-same (left_for g kind t) (left_for h kind t) one (findings side h)
    where
      one : (f : Finding) → left_for g kind t f ≡ left_for h kind t f
      one (Classified id (verdicts.WebTransport session offset) true) = rw (s.handed id) refl
      one (Classified id (verdicts.WebTransport session offset) false) = refl
      one (Classified id v keeps) = refl
      one f = refl

  gives-same : (t : ℕ) (a b : Cause) → a ≡ b → gives_left side g t a ≡ gives_left side h t b
  gives-same t a b e =
      ap (λ (x : Bool). (if x then None else a) ∷ when (is_over side g t) (replies.Failed (session_answer side g t)) ∷ []) (gone-found t)
      ∙ ap (λ (c : Cause). (if is_gone h (findings side h) t then None else c) ∷ when (is_over side g t) (replies.Failed (session_answer side g t)) ∷ []) e
      ∙ ap (λ (x : Bool). (if is_gone h (findings side h) t then None else b) ∷ when x (replies.Failed (session_answer side g t)) ∷ []) (over-same t)
      ∙ ap (λ (x : ConnectionError). (if is_gone h (findings side h) t then None else b) ∷ when (is_over side h t) (replies.Failed x) ∷ []) (answers t)

  named-causes : (name : Option ℕ) (f k : ℕ → List Cause) → ((t : ℕ) → f t ≡ k t) → of_named (named g name) f ≡ of_named (named h name) k
  named-causes name f k e = ap (λ (o : Option ℕ). of_named o f) (named-alike name) ∙ by (named h name)
    where
      by : (o : Option ℕ) → of_named o f ≡ of_named o k
      by None = refl
      by (Some t) = e t

  accept-same : (name : Option ℕ) (kind : ℕ) (given : ℕ → Reply) → of_named (named g name) (λ (t : ℕ). gives_left side g t (from (first_of (left_for g kind t) (findings side g)) given))
      ≡ of_named (named h name) (λ (t : ℕ). gives_left side h t (from (first_of (left_for h kind t) (findings side h)) given))
  accept-same name kind given = named-causes name _ _ (λ t. gives-same t _ _ (ap (λ (o : Option ℕ). from o given) (left-same kind t)))

  datagrams-same : (t : ℕ) → waiting_datagrams g (findings side g) t ≡ waiting_datagrams h (findings side h) t
  datagrams-same t = ap (λ (f : List Finding). waiting_datagrams g f t) s.found ∙ ap (λ (n : ℕ). drop n (filter (λ (d : ℕ × List ℕ). d.0 == t) (filter_map admitted_datagram (findings side h)))) (s.received t)

  requests-same : first_of (left_request g) (findings side g) ≡ first_of (left_request h) (findings side h)
  requests-same = ap (first_of (left_request g)) s.found ∙ first-same (left_request g) (left_request h) one (findings side h)
    where
      one : (f : Finding) → left_request g f ≡ left_request h f
      one (Classified id (verdicts.Request headers offset) true) = rw (s.asked id) refl
      one (Classified id (verdicts.Request headers offset) false) = refl
      one (Classified id v keeps) = refl
      one f = refl

  being-same : (k : ℕ) → being_opened g k ≡ being_opened h k
  being-same k = rw (s.over k, s.opened k) refl

  -- ---- one stream

  module _ (k : ℕ) (e : EventsSame k (events g) (events h)) where
    out-same : out g k ≡ out h k
    out-same = ap (λ (as_ : List Action). sent_on as_ k) s.sent

    early-same : (head : List ℕ) → stopped_early g k head ≡ stopped_early h k head
    early-same head = rw (e.stop, out-same) refl

    fits-same : (head : List ℕ) → fits_credit g k head ≡ fits_credit h k head
    fits-same head = rw (out-same, e.credits) refl

    polls-same : (o : Option (Option ℕ)) → polls_opening side g k o ≡ polls_opening side h k o
    polls-same None = refl
    polls-same (Some name) = named-causes name _ _ (λ t. rw (over-same t, early-same (header_for k (Some t)), fits-same (header_for k (Some t))) refl)

    accepts-same : (head : List ℕ) → accepts g k head ≡ accepts h k head
    accepts-same head = rw (s.open_g, s.open_h, early-same head, fits-same head) refl

    finished-same : was_finished g k ≡ was_finished h k
    finished-same = ap (λ (as_ : List Action). is_finished as_ k) s.sent

    rejects-same : (head : List ℕ) → rejects g k head ≡ rejects h k head
    rejects-same head = rw (s.open_g, s.open_h, early-same head, fits-same head, finished-same, e.stop, e.acknowledged) refl

  -- ---- opening a stream

  module _ (kind : ℕ) (own : ((peer_uni side == kind) ≡ false) × ((peer_bi side == kind) ≡ false)) (unis : unis_allowed (events g) ≡ unis_allowed (events h)) (bis : bis_allowed (events g) ≡ bis_allowed (events h)) where
    count-same : stream_count side g kind ≡ stream_count side h kind
    count-same = rw (none-opened side (all_events g) kind own.0 own.1, none-opened side (all_events h) kind own.0 own.1, s.sent) refl

    may-same : may_open side g kind ≡ may_open side h kind
    may-same = rw (s.open_g, s.open_h, count-same, unis, bis) refl

    opens-same : (t : ℕ) → opens side g kind t ≡ opens side h kind t
    opens-same t =
        ap (λ (x : Bool). Opens x (session_answer side g t) (is_open g) (transport_answer g) (may_open side g kind) (stream_count side g kind)) (gone-found t)
        ∙ ap (λ (x : ConnectionError). Opens (is_gone h (findings side h) t) x (is_open g) (transport_answer g) (may_open side g kind) (stream_count side g kind)) (answers t)
        ∙ ap (λ (x : Bool). Opens (is_gone h (findings side h) t) (session_answer side h t) x (transport_answer g) (may_open side g kind) (stream_count side g kind)) (s.open_g ∙ sym s.open_h)
        ∙ ap (λ (x : ConnectionError). Opens (is_gone h (findings side h) t) (session_answer side h t) (is_open h) x (may_open side g kind) (stream_count side g kind)) ends
        ∙ ap (λ (x : Bool). Opens (is_gone h (findings side h) t) (session_answer side h t) (is_open h) (transport_answer h) x (stream_count side g kind)) may-same
        ∙ ap (λ (x : ℕ). Opens (is_gone h (findings side h) t) (session_answer side h t) (is_open h) (transport_answer h) (may_open side h kind) x) count-same
      where
        Opens : Bool → ConnectionError → Bool → ConnectionError → Bool → ℕ → List Cause
        Opens x e o f m n = when x (replies.Failed e) ∷ when (not o) (replies.Failed f) ∷ when m (replies.Opening (4 * n + kind)) ∷ []

  -- ---- a connect

  module _ (e : EventsSame 0 (events g) (events h)) (bytes : contents g 0 ≡ contents h 0) (connected : is_connected (events g) ≡ is_connected (events h)) (may : may_open side g 0 ≡ may_open side h 0) where
    walk-same : response_walk_of (contents g 0) (end_of (events g) 0) ≡ response_walk_of (contents h 0) (end_of (events h) 0)
    walk-same = ap (λ (b : List ℕ). response_walk_of b (end_of (events g) 0)) bytes ∙ ap (response_walk_of (contents h 0)) e.end

    answered-same : (w : ResponseWalk) → answered side g w ≡ answered side h w
    answered-same (responses.Fault code) = refl
    answered-same responses.Ended = ap (λ (x : ConnectionError). Some (connect_fails x) ∷ []) ends
    answered-same responses.Waiting = ap (λ (o : Bool). when (not o) (connect_fails (transport_answer g)) ∷ []) (s.open_g ∙ sym s.open_h) ∙ ap (λ (x : ConnectionError). when (not (is_open h)) (connect_fails x) ∷ []) ends
    answered-same (responses.Response fields offset) =
        ap (λ (o : Bool). when (not (nat_lt 199 (unwrap_or (status_of fields) 0) && nat_lt (unwrap_or (status_of fields) 0) 300)) (replies.ConnectFailed connects.SessionRejected)
        ∷ when (not o) (connect_fails (driver_answer side g)) ∷ Some (replies.Session 0) ∷ []) (s.open_g ∙ sym s.open_h)
        ∙ ap (λ (x : ConnectionError). when (not (nat_lt 199 (unwrap_or (status_of fields) 0) && nat_lt (unwrap_or (status_of fields) 0) 300)) (replies.ConnectFailed connects.SessionRejected)
        ∷ when (not (is_open h)) (connect_fails x) ∷ Some (replies.Session 0) ∷ []) drives

    requested-same : (head : List ℕ) → requested side g head ≡ requested side h head
    requested-same head =
        ap (λ (l : List ℕ). Asks l (is_open g) (transport_answer g) (stopped_early g 0 head) (fits_credit g 0 head) (answered side g (response_walk_of (contents g 0) (end_of (events g) 0)))) (out-same 0 e)
        ∙ ap (λ (o : Bool). Asks (out h 0) o (transport_answer g) (stopped_early g 0 head) (fits_credit g 0 head) (answered side g (response_walk_of (contents g 0) (end_of (events g) 0)))) (s.open_g ∙ sym s.open_h)
        ∙ ap (λ (x : ConnectionError). Asks (out h 0) (is_open h) x (stopped_early g 0 head) (fits_credit g 0 head) (answered side g (response_walk_of (contents g 0) (end_of (events g) 0)))) ends
        ∙ ap (λ (x : Bool). Asks (out h 0) (is_open h) (transport_answer h) x (fits_credit g 0 head) (answered side g (response_walk_of (contents g 0) (end_of (events g) 0)))) (early-same 0 e head)
        ∙ ap (λ (x : Bool). Asks (out h 0) (is_open h) (transport_answer h) (stopped_early h 0 head) x (answered side g (response_walk_of (contents g 0) (end_of (events g) 0)))) (fits-same 0 e head)
        ∙ ap (λ (w : ResponseWalk). Asks (out h 0) (is_open h) (transport_answer h) (stopped_early h 0 head) (fits_credit h 0 head) (answered side g w)) walk-same
        ∙ ap (λ (c : List Cause). Asks (out h 0) (is_open h) (transport_answer h) (stopped_early h 0 head) (fits_credit h 0 head) c) (answered-same (response_walk_of (contents h 0) (end_of (events h) 0)))
      where
        Asks : List ℕ → Bool → ConnectionError → Bool → Bool → List Cause → List Cause
        Asks l o x early fits c = when (nat_lt (length l) (length head) && not o) (connect_fails x) ∷ when early (replies.ConnectFailed connects.SessionRejected) ∷ (if fits then c else [])

    connects-same : (headers : Fields) (head : List ℕ) → connects_on side g headers head ≡ connects_on side h headers head
    connects-same headers head =
        ap (λ (c : Bool). Goes c (is_open g) (transport_answer g) (findings side g) (driver_answer side g) (actions_out g) (may_open side g 0) (requested side g head)) connected
        ∙ ap (λ (o : Bool). Goes (is_connected (events h)) o (transport_answer g) (findings side g) (driver_answer side g) (actions_out g) (may_open side g 0) (requested side g head)) (s.open_g ∙ sym s.open_h)
        ∙ ap (λ (x : ConnectionError). Goes (is_connected (events h)) (is_open h) x (findings side g) (driver_answer side g) (actions_out g) (may_open side g 0) (requested side g head)) ends
        ∙ ap (λ (f : List Finding). Goes (is_connected (events h)) (is_open h) (transport_answer h) f (driver_answer side g) (actions_out g) (may_open side g 0) (requested side g head)) s.found
        ∙ ap (λ (x : ConnectionError). Goes (is_connected (events h)) (is_open h) (transport_answer h) (findings side h) x (actions_out g) (may_open side g 0) (requested side g head)) drives
        ∙ ap (λ (as_ : List Action). Goes (is_connected (events h)) (is_open h) (transport_answer h) (findings side h) (driver_answer side h) as_ (may_open side g 0) (requested side g head)) s.sent
        ∙ ap (λ (m : Bool). Goes (is_connected (events h)) (is_open h) (transport_answer h) (findings side h) (driver_answer side h) (actions_out h) m (requested side g head)) may
        ∙ ap (λ (c : List Cause). Goes (is_connected (events h)) (is_open h) (transport_answer h) (findings side h) (driver_answer side h) (actions_out h) (may_open side h 0) c) (requested-same head)
      where
        Goes : Bool → Bool → ConnectionError → List Finding → ConnectionError → List Action → Bool → List Cause → List Cause
        Goes c o x f d as_ m r = if not c then when (not o) (connect_fails x) ∷ []
            else if not (settings_came f) then when (not o) (connect_fails d) ∷ []
            else from (reserved headers) (λ (name : List ℕ). replies.ConnectFailed (connects.ReservedHeader name))
            ∷ (if local_count as_ 0 == 0 && not m then when (not o) (connect_fails x) ∷ [] else r)

-- ---- the events

record Limits (now before : List Event) : Type 0 where
  unis : unis_allowed now ≡ unis_allowed before
  bis : bis_allowed now ≡ bis_allowed before
  connected : is_connected now ≡ is_connected before

limits-turn : (turn : Turn) (es : List Event) → brings_streams turn ≡ false → Limits (with_event (event_of turn) es) es
limits-turn (turns.Connected uni bi total fact) es e = absurd (cc e)
limits-turn (turns.MaxUni total) es e = absurd (cc e)
limits-turn (turns.MaxBi total) es e = absurd (cc e)
limits-turn turn es e = record { unis = refl; bis = refl; connected = refl }

module _ (h : History) (turn : Turn) where
  limits-same : brings_streams turn ≡ false → Limits (events (late turn ∷ h)) (events h)
  limits-same e = by (is_open h)
    where
      by : (b : Bool) → Limits (if b then with_event (event_of turn) (events h) else events h) (events h)
      by true = limits-turn turn (events h) e
      by false = record { unis = refl; bis = refl; connected = refl }

  stream-same : (k : ℕ) → is_about k turn ≡ false → EventsSame k (events (late turn ∷ h)) (events h)
  stream-same k e = by (is_open h)
    where
      by : (b : Bool) → EventsSame k (if b then with_event (event_of turn) (events h) else events h) (events h)
      by true = events-turn k turn (events h) e
      by false = record { end = refl; stop = refl; acknowledged = refl; credits = refl }

  bytes-same : (k : ℕ) → is_about k turn ≡ false → contents (late turn ∷ h) k ≡ contents h k
  bytes-same k e = by (is_open h)
    where
      by : (b : Bool) → (if b then with_bytes k turn (contents h k) else contents h k) ≡ contents h k
      by true = bytes-turn k turn (contents h k) e
      by false = refl

-- ---- a client's stream

only-incoming : (c : Call) (r : Reply) (k : ℕ) → fits c r ≡ true → request_in r ≡ Some k → c ≡ calls.Incoming
only-incoming calls.Incoming r k f q = refl
only-incoming c (replies.Request id headers) k f q = absurd (cc f)
only-incoming c r k f q = absurd (cc q)

-- a client is given no request
none-asked : (h : History) → IsHistory Client h → last_request h ≡ None
none-asked [] i = refl
none-asked (p ∷ h) i = by (requests p) refl (none-asked h i.2)
  where
    of : (turn : Turn) (k : ℕ) → p.turn ≡ turn → requests p ≡ Some k → ⊥
    of (turns.Call c) k t q =
        let a : p.answer ≡ next Client h (turns.Call c) = i.1 ∙ ap (next Client h) t in
        let e = only-incoming c (next Client h (turns.Call c)).reply k (fits-own Client h c) (sym (ap (λ (x : Answer). request_in x.reply) a) ∙ q) in
        let l : is_lawful Client h (turns.Call calls.Incoming) ≡ true = ap (λ (x : Call). is_lawful Client h (turns.Call x)) (sym e) ∙ ap (is_lawful Client h) (sym t) ∙ i.0 in cc l
    of turn k t q = let m = ap (λ (x : Answer). request_in x.reply) (i.1 ∙ ap (next Client h) t) in let r = sym m ∙ q in cc r

    by : (o : Option ℕ) → requests p ≡ o → last_request h ≡ None → last_request (p ∷ h) ≡ None
    by None q n = rw q n
    by (Some k) q n = absurd (of p.turn k refl q)

-- ---- each call that may wait

-- the turn may end what the call waits for
abbrev stirs : Side → History → Call → Turn → Bool
stirs side h call turn = elim call [
  | calls.PollOpening id ↦ is_about id turn
  | calls.Handshake ↦ is_about (handshake_stream h) turn || elim side [ Client ↦ brings_streams turn | Server ↦ false ]
  | calls.OpenUni name ↦ brings_streams turn
  | calls.OpenBi name ↦ brings_streams turn
  | calls.AcceptUni name ↦ false
  | calls.AcceptBi name ↦ false
  | calls.ReceiveDatagram name ↦ false
  | calls.Incoming ↦ false
  | calls.Closed ↦ false
  | _ ↦ true
]

of-url-same : (r : Result Parts ParseError) (lookup : Lookup) (outcome : ConnectOutcome) (f k : Parts → List Cause) → ((url : Parts) → f url ≡ k url) → of_url r lookup outcome f ≡ of_url r lookup outcome k
of-url-same (Err e) lookup outcome f k same = refl
of-url-same (Ok url) lookup outcome f k same = ap (λ (l : List Cause). if is_some (refusal (Ok url) lookup outcome) then [] else l) (same url)

own-kinds : (side : Side) → ((peer_uni side == local_uni side) ≡ false) × ((peer_bi side == local_uni side) ≡ false)
own-kinds Client = (refl, refl)
own-kinds Server = (refl, refl)

own-bis : (side : Side) → ((peer_uni side == local_bi side) ≡ false) × ((peer_bi side == local_bi side) ≡ false)
own-bis Client = (refl, refl)
own-bis Server = (refl, refl)

module _ (side : Side) (h : History) (turn : Turn) (i : IsHistory side h) (s : Alike side h (late turn ∷ h)) where
  abbrev g : History
  g = late turn ∷ h

  rejects-on : (c : Call) → is_about (handshake_stream h) turn ≡ false → (if is_response c then rejects g (handshake_stream g) (head_of (Some c)) else []) ≡ (if is_response c then rejects h (handshake_stream h) (head_of (Some c)) else [])
  rejects-on c n = ap (λ (l : List Cause). if is_response c then l else [])
      (ap (λ (o : Option ℕ). rejects g (unwrap_or o 0) (head_of (Some c))) s.last ∙ rejects-same side h g s (handshake_stream h) (stream-same h turn (handshake_stream h) n) (head_of (Some c)))

  shakes : (x : Side) → x ≡ side → (o : Option Call) → begun_last h ≡ o → is_about (handshake_stream h) turn ≡ false → elim side [ Client ↦ brings_streams turn | Server ↦ false ] ≡ false → goes_on side g o ≡ goes_on side h o
  shakes x q None b n m = refl
  shakes x q (Some (calls.Accept headers)) b n m =
      ap (λ (o : Option ℕ). accepts g (unwrap_or o 0) (head_of (Some (calls.Accept headers)))) s.last
      ∙ accepts-same side h g s (handshake_stream h) (stream-same h turn (handshake_stream h) n) (head_of (Some (calls.Accept headers)))
  shakes x q (Some (calls.Connect options lookup outcome)) b n m = of-url-same (parse_url None options.0) lookup outcome _ _ (λ url. on x q (request_head url options.1))
    where
      on : (x : Side) → x ≡ side → (head : List ℕ) → connects_on side g options.1 head ≡ connects_on side h options.1 head
      on Client e head =
          let z : handshake_stream h ≡ 0 = ap (λ (o : Option ℕ). unwrap_or o 0) (none-asked h (subst (λ (y : Side). IsHistory y h) (sym e) i)) in
          let a : is_about 0 turn ≡ false = sym (ap (λ (k : ℕ). is_about k turn) z) ∙ n in
          let l = limits-same h turn (subst (λ (y : Side). elim y [ Client ↦ brings_streams turn | Server ↦ false ] ≡ false) (sym e) m) in
          connects-same side h g s (stream-same h turn 0 a) (bytes-same h turn 0 a) l.connected
          (may-same side h g s 0 (subst (λ (y : Side). ((peer_uni y == 0) ≡ false) × ((peer_bi y == 0) ≡ false)) e (refl, refl)) l.unis l.bis) options.1 head
      on Server e head = absurd (let r = server-begun h (subst (λ (y : Side). IsHistory y h) (sym e) i) (calls.Connect options lookup outcome) b in cc r)
  shakes x q (Some calls.Forbidden) b n m = rejects-on calls.Forbidden n
  shakes x q (Some calls.NotFound) b n m = rejects-on calls.NotFound n
  shakes x q (Some calls.TooManyRequests) b n m = rejects-on calls.TooManyRequests n
  shakes x q (Some c) b n m = refl

  causes-alike : (call : Call) → stirs side h call turn ≡ false → causes_of side g call ≡ causes_of side h call
  causes-alike (calls.AcceptUni name) n = accept-same side h g s name (peer_uni side) (λ (k : ℕ). replies.Uni k)
  causes-alike (calls.AcceptBi name) n = accept-same side h g s name (peer_bi side) (λ (k : ℕ). replies.Bi k)
  causes-alike (calls.ReceiveDatagram name) n = named-causes side h g s name _ _
      (λ t. gives-same side h g s t _ _ (ap (λ (ds : List (ℕ × List ℕ)). from (first_of (λ (d : ℕ × List ℕ). Some d.1) ds) (λ (b : List ℕ). replies.Datagram b)) (datagrams-same side h g s t)))
  causes-alike calls.Incoming n =
      ap (λ (o : Option (ℕ × Fields)). from (if settings_came (findings side g) then o else None) (λ (q : ℕ × Fields). replies.Request q.0 q.1) ∷ when (not (is_open g)) (replies.Failed (driver_answer side g)) ∷ []) (requests-same side h g s)
      ∙ ap (λ (f : List Finding). from (if settings_came f then first_of (left_request h) (findings side h) else None) (λ (q : ℕ × Fields). replies.Request q.0 q.1) ∷ when (not (is_open g)) (replies.Failed (driver_answer side g)) ∷ []) s.found
      ∙ ap (λ (o : Bool). from (if settings_came (findings side h) then first_of (left_request h) (findings side h) else None) (λ (q : ℕ × Fields). replies.Request q.0 q.1) ∷ when (not o) (replies.Failed (driver_answer side g)) ∷ []) (s.open_g ∙ sym s.open_h)
      ∙ ap (λ (e : ConnectionError). from (if settings_came (findings side h) then first_of (left_request h) (findings side h) else None) (λ (q : ℕ × Fields). replies.Request q.0 q.1) ∷ when (not (is_open h)) (replies.Failed e) ∷ []) (drives side h g s)
  causes-alike calls.Closed n = named-causes side h g s None _ _
      (λ t. ap (λ (o : Bool). when (not o) (replies.Closed (transport_answer g)) ∷ []) (s.open_g ∙ sym s.open_h) ∙ ap (λ (e : ConnectionError). when (not (is_open h)) (replies.Closed e) ∷ []) (ends side h g s))
  causes-alike (calls.OpenUni name) n = let l = limits-same h turn n in named-causes side h g s name _ _ (opens-same side h g s (local_uni side) (own-kinds side) l.unis l.bis)
  causes-alike (calls.OpenBi name) n = let l = limits-same h turn n in named-causes side h g s name _ _ (opens-same side h g s (local_bi side) (own-bis side) l.unis l.bis)
  causes-alike (calls.PollOpening id) n = named-causes side h g s None _ _
      (λ t. ap (polls_opening side g id) (being-same side h g s id) ∙ polls-same side h g s id (stream-same h turn id n) (being_opened h id))
  causes-alike calls.Handshake n =
      ap (goes_on side g) s.begun ∙ shakes side refl (begun_last h) refl (or-left (is_about (handshake_stream h) turn) _ n) (or-right (is_about (handshake_stream h) turn) _ n)
  causes-alike call n = absurd (cc n)

own-done : (side : Side) (h : History) (turn : Turn) → is_call turn ≡ false → own_answer side h turn ≡ record { reply = replies.Done; actions = [] }
own-done side h (turns.Call c) n = absurd (cc n)
own-done side h turn n = refl

pub unstirred : (side : Side) (h : History) (turn : Turn) (call : Call) → IsHistory side h → is_call turn ≡ false → is_open h ≡ true → is_open (with_pair h turn (next side h turn)) ≡ true
    → findings side (with_pair h turn (next side h turn)) ≡ findings side h → (next side h turn).actions ≡ [] → stirs side h call turn ≡ false
    → (next side (with_pair h turn (next side h turn)) (turns.Call call)).reply ≡ (next side h (turns.Call call)).reply
unstirred side h turn call i c o q f a n =
    subst (λ (x : Answer). (next side (with_pair h turn x) (turns.Call call)).reply ≡ (next side h (turns.Call call)).reply) (sym done)
    (replies-caused side (late turn ∷ h) (turns.Call call) ∙ ap first_cause (causes-alike side h turn i s call n) ∙ sym (replies-caused side h (turns.Call call)))
  where
    done : next side h turn ≡ record { reply = replies.Done; actions = [] }
    done = ap (λ (r : Reply). record { reply = r; actions = (next side h turn).actions }) (ap (λ (x : Answer). x.reply) (own-done side h turn c)) ∙ ap (λ (as_ : List Action). record { reply = replies.Done; actions = as_ }) a

    s : Alike side h (late turn ∷ h)
    s = alike side h turn c o (ap (λ (x : Answer). is_open (with_pair h turn x)) (sym done) ∙ q) (ap (λ (x : Answer). findings side (with_pair h turn x)) (sym done) ∙ f)
