-- The calls on a session: the rows of each lead to what its ladder of tests does.
use Rattle.std.specs.Prelude.{[], ◌&&◌, ◌*◌, ◌++◌, ◌+◌, ◌/◌, ◌∷◌, ◌≡◌, Bool, List, None, Option, Some, drop, false, if◌then◌else◌, length, nat_lt, not, suc, take, true, zero, ℕ}
use Rattle.std.proofs.Common.{◌∙◌, ap, refl, sym}
use Rattle.wt_meaning.specs.Calls.{accept, being_opened, ended_row, first_datagram, in_session, is_living, open_stream, opening_for, opening_rows, payload_limit, receive, send_datagram, stream_header}
use Rattle.wt_meaning.specs.Handshakes.{head_left, is_nothing, is_refused, lacks_credit, send, transport_error}
use Rattle.wt_meaning.specs.History.{History, allowed, credit_left, events, is_open, may_open, next_id, stream_count}
use Rattle.wt_meaning.specs.Moments.{findings}
use Rattle.wt_meaning.specs.Rows.{Row, first_row, row}
use Rattle.wt_meaning.specs.Sends.{action_if, session_finish, session_gone_actions}
use Rattle.wt_meaning.specs.Windows.{named}
use Rattle.wt_message.specs.Datagram.{datagram_bytes}
use Rattle.wt_promise.proofs.Accepted.{and-left}
use Rattle.wt_turn.specs.Joined.{send_of}
use Rattle.wt_turn.specs.Outgoing as outgoing
use Rattle.wt_turn.specs.Reports.{datagram_fact}
use Rattle.wt_turn.specs.Streams.{local_uni}
use Rattle.wt_turn.specs.Streams as streams
use Rattle.wt_sessions.specs.Answers as answers
use Rattle.wt_sessions.specs.Connection.{next_datagram, next_stream, opening_session}
use Rattle.wt_sessions.specs.Connection as ladders
use Rattle.wt_sessions.specs.Driver.{call_view, is_session_gone}
use Rattle.wt_sessions.specs.Driver as drivers
use Rattle.wt_sessions.specs.Effect.{Effect, is_covered, pending_or_failed, poll_only, poll_sending}
use Rattle.wt_sessions.specs.Effect as effects
use Rattle.wt_sessions.specs.Handshake as handshakes
use Rattle.wt_sessions.specs.StreamTable.{Admitted, Waiting}
use Rattle.wt_sessions_agree.proofs.Basics.{eqb-sym}
use Rattle.wt_sessions_agree.proofs.HalfRows.{open-events}
use Rattle.wt_sessions_agree.proofs.WaitLaws.{error-is, gone-is, living-is, next-datagram, next-index, next-stream, payload-of, transport-is}
use Rattle.wt_sessions_agree.specs.Records.{effect_of, failure_record, opened_session, pending_record}
use Rattle.wt_sessions_agree.specs.Stands.{IsOpening, NotOpening, OpeningAgrees, Stands}
use Rattle.wt_turn.specs.Log.{Log, actions_of, all_events_of, calls_of, events_of}
use Rattle.wt_turn.specs.Log as logs
use Rattle.wt_turn.specs.declared.call.Call.{Call}
use Rattle.wt_turn.specs.declared.datagram_fact.DatagramFact.{DatagramFact}
use Rattle.wt_wire.specs.Ids.{is_bidirectional}
use Rattle.wt_wire.specs.Varint.{varint_bytes}
use Rattle.wt_wire.specs.declared.side.Side.{Side}
use Rattle.wt_turn.specs.declared.action.Action.TheVariants as actions
use Rattle.wt_turn.specs.declared.call.Call.TheVariants as calls
use Rattle.wt_turn.specs.declared.datagram_fact.DatagramFact.TheVariants as facts
use Rattle.wt_turn.specs.declared.reply.Reply.TheVariants as replies

-- ---- the session that a call names

pub named-is : (side : Side) (offset : ℕ → ℕ) (h : History) (log : Log) (name : Option ℕ) → Stands side offset h log → named h name ≡ answers.named_session log name
named-is side offset h log None x = x.named
named-is side offset h log (Some s) x = ap (λ (b : Bool). if b then Some s else None) (sym (x.calls.established s))

-- a call on it, or no session
pub on-session : (side : Side) (h : History) (log : Log) (c : Call) (call : ℕ → Effect) (rows : ℕ → List Row) (o p : Option ℕ) → o ≡ p
    → ((s : ℕ) → o ≡ Some s → call s ≡ effect_of side h log c (first_row (rows s)))
    → answers.in_session side log call p ≡ effect_of side h log c (first_row (in_session o rows))
on-session side h log c call rows None None e f = refl
on-session side h log c call rows (Some s) (Some t) e f = let q : t ≡ s = cc e in rw q (f s refl)
on-session side h log c call rows None (Some t) e f = absurd (cc e)
on-session side h log c call rows (Some s) None e f = absurd (cc e)

module _ (side : Side) (offset : ℕ → ℕ) (h : History) (log : Log) (x : Stands side offset h log) where
  -- ---- accepts and receives

  -- with nothing to give, the call waits, or fails where the session or the connection ended
  ended-is : (s : ℕ) (c : Call) → failure_record c ≡ logs.Polled → pending_record c ≡ logs.Polled
      → poll_only side log (pending_or_failed side log s) ≡ effect_of side h log c (first_row (ended_row side h s ∷ []))
  ended-is s c f p = by (drivers.is_living side log s) refl (logs.is_open log) refl
    where
      by : (l : Bool) → drivers.is_living side log s ≡ l → (o : Bool) → logs.is_open log ≡ o
          → poll_only side log (pending_or_failed side log s) ≡ effect_of side h log c (first_row (ended_row side h s ∷ []))
      by true e true q = rw (living-is side offset h log s x, x.came.openness, e, q, p) refl
      by true e false q = rw (living-is side offset h log s x, x.came.openness, e, q, error-is side offset h log s x, f) refl
      by false e true q = rw (living-is side offset h log s x, x.came.openness, e, q, error-is side offset h log s x, f) refl
      by false e false q = rw (living-is side offset h log s x, x.came.openness, e, q, error-is side offset h log s x, f) refl

  accept-uni : (name : Option ℕ) (kind s : ℕ) → named h name ≡ Some s → (o : Option Waiting) → next_stream side log kind s ≡ o
      → ladders.give_stream side replies.Uni log s o ≡ effect_of side h log (calls.AcceptUni name) (first_row (accept side h kind replies.Uni s))
  accept-uni name kind s n (Some w) e = rw (next-stream side offset h log kind s x, e, n) refl
  accept-uni name kind s n None e = rw (next-stream side offset h log kind s x, e) (ended-is s (calls.AcceptUni name) refl refl)

  accept-bi : (name : Option ℕ) (kind s : ℕ) → named h name ≡ Some s → (o : Option Waiting) → next_stream side log kind s ≡ o
      → ladders.give_stream side replies.Bi log s o ≡ effect_of side h log (calls.AcceptBi name) (first_row (accept side h kind replies.Bi s))
  accept-bi name kind s n (Some w) e = rw (next-stream side offset h log kind s x, e, n) refl
  accept-bi name kind s n None e = rw (next-stream side offset h log kind s x, e) (ended-is s (calls.AcceptBi name) refl refl)

  pub accept_uni-agrees : (name : Option ℕ) (kind s : ℕ) → named h name ≡ Some s
      → ladders.accept_stream side replies.Uni kind log s ≡ effect_of side h log (calls.AcceptUni name) (first_row (accept side h kind replies.Uni s))
  accept_uni-agrees name kind s n = accept-uni name kind s n (next_stream side log kind s) refl

  pub accept_bi-agrees : (name : Option ℕ) (kind s : ℕ) → named h name ≡ Some s
      → ladders.accept_stream side replies.Bi kind log s ≡ effect_of side h log (calls.AcceptBi name) (first_row (accept side h kind replies.Bi s))
  accept_bi-agrees name kind s n = accept-bi name kind s n (next_stream side log kind s) refl

  receive-by : (name : Option ℕ) (s : ℕ) → named h name ≡ Some s → (o : Option Admitted) → next_datagram side log s ≡ o → (g : Bool) → is_session_gone side log s ≡ g
      → ladders.give_datagram side log s o ≡ effect_of side h log (calls.ReceiveDatagram name) (first_row (receive side h s))
  receive-by name s n (Some d) e true g =
      absurd (let q : first_datagram side h s ≡ None = rw (gone-is side offset h log s x, g) refl in let r : first_datagram side h s ≡ Some d.payload = next-datagram side offset h log s x
      ∙ ap payload-of e in cc (sym q ∙ r))
  receive-by name s n (Some d) e false g = rw (next-datagram side offset h log s x, e, n, next-index side offset h log s d x g e) refl
  receive-by name s n None e b g = rw (next-datagram side offset h log s x, e) (ended-is s (calls.ReceiveDatagram name) refl refl)

  pub receive-agrees : (name : Option ℕ) (s : ℕ) → named h name ≡ Some s → ladders.receive_datagram side log s ≡ effect_of side h log (calls.ReceiveDatagram name) (first_row (receive side h s))
  receive-agrees name s n = receive-by name s n (next_datagram side log s) refl (is_session_gone side log s) refl

  -- ---- opens

  pub count-is : (kind : ℕ) → stream_count side h kind ≡ streams.stream_count side log kind
  count-is kind = rw (x.came.all_events, x.out.opened kind) refl

  -- as many streams may be opened
  pub may-open : (kind : ℕ) → may_open side h kind ≡ outgoing.may_open side log kind
  may-open kind = by (logs.is_open log) refl
    where
      by : (o : Bool) → logs.is_open log ≡ o → may_open side h kind ≡ outgoing.may_open side log kind
      by false e = rw (x.came.openness, e) refl
      by true e = rw (x.came.openness, e, count-is kind, open-events h (x.came.openness ∙ e), x.came.all_events, eqb-sym kind (local_uni side)) refl

  may-by : (kind : ℕ) → logs.is_open log ≡ true → nat_lt (stream_count side h kind) (allowed side (events h) kind)
      ≡ nat_lt (streams.stream_count side log kind) (outgoing.streams_allowed side log kind)
  may-by kind e = rw (count-is kind, open-events h (x.came.openness ∙ e), x.came.all_events, eqb-sym kind (local_uni side)) refl

  next-id : (kind : ℕ) → next_id side h kind ≡ outgoing.next_id side log kind
  next-id kind = ap (λ (n : ℕ). 4 * n + kind) (count-is kind)

  module _ (kind s : ℕ) where
    open-uni : (name : Option ℕ) → named h name ≡ Some s → (g o m : Bool) → is_session_gone side log s ≡ g → logs.is_open log ≡ o
        → nat_lt (streams.stream_count side log kind) (outgoing.streams_allowed side log kind) ≡ m
        → ladders.open_stream side log kind s ≡ effect_of side h log (calls.OpenUni name) (first_row (open_stream side h kind s))
    open-uni name n true o m e f q = rw (gone-is side offset h log s x, e, error-is side offset h log s x, e) refl
    open-uni name n false false m e f q = rw (gone-is side offset h log s x, e, x.came.openness, f, transport-is side offset h log x) refl
    open-uni name n false true true e f q = rw (gone-is side offset h log s x, e, x.came.openness, f, may-by kind f, q, next-id kind, n) refl
    open-uni name n false true false e f q = rw (gone-is side offset h log s x, e, x.came.openness, f, may-by kind f, q) refl

    open-bi : (name : Option ℕ) → named h name ≡ Some s → (g o m : Bool) → is_session_gone side log s ≡ g → logs.is_open log ≡ o
        → nat_lt (streams.stream_count side log kind) (outgoing.streams_allowed side log kind) ≡ m
        → ladders.open_stream side log kind s ≡ effect_of side h log (calls.OpenBi name) (first_row (open_stream side h kind s))
    open-bi name n true o m e f q = rw (gone-is side offset h log s x, e, error-is side offset h log s x, e) refl
    open-bi name n false false m e f q = rw (gone-is side offset h log s x, e, x.came.openness, f, transport-is side offset h log x) refl
    open-bi name n false true true e f q = rw (gone-is side offset h log s x, e, x.came.openness, f, may-by kind f, q, next-id kind, n) refl
    open-bi name n false true false e f q = rw (gone-is side offset h log s x, e, x.came.openness, f, may-by kind f, q) refl

    pub open_uni-agrees : (name : Option ℕ) → named h name ≡ Some s → ladders.open_stream side log kind s ≡ effect_of side h log (calls.OpenUni name) (first_row (open_stream side h kind s))
    open_uni-agrees name n = open-uni name n (is_session_gone side log s) (logs.is_open log) (nat_lt (streams.stream_count side log kind) (outgoing.streams_allowed side log kind)) refl refl refl

    pub open_bi-agrees : (name : Option ℕ) → named h name ≡ Some s → ladders.open_stream side log kind s ≡ effect_of side h log (calls.OpenBi name) (first_row (open_stream side h kind s))
    open_bi-agrees name n = open-bi name n (is_session_gone side log s) (logs.is_open log) (nat_lt (streams.stream_count side log kind) (outgoing.streams_allowed side log kind)) refl refl refl

  -- ---- what of a stream's head is out

  pub head-is : (k : ℕ) (head : List ℕ) → head_left h k head ≡ effects.head_left log k head
  head-is k head = ap (λ (bytes : List ℕ). drop (length bytes) head) (x.out.sent k)

  pub refused-is : (k : ℕ) (left : List ℕ) → is_refused h k left ≡ handshakes.is_refused log k left
  refused-is k left = rw x.came.events refl

  credit-is : (k : ℕ) → logs.is_open log ≡ true → credit_left h k ≡ outgoing.credit_left log k
  credit-is k o = rw (open-events h (x.came.openness ∙ o), x.came.all_events, x.out.sent k) refl

  -- a list's rest behind a front of it
  rest-empty : (n : ℕ) (xs : List ℕ) → is_nothing (drop n xs) ≡ is_nothing (drop (length (take n xs)) xs)
  rest-empty n [] = by n
    where
      by : (n : ℕ) → is_nothing (drop n []) ≡ is_nothing (drop (length (take {A = ℕ} n [])) [])
      by zero = refl
      by (suc n) = refl
  rest-empty zero (b ∷ xs) = refl
  rest-empty (suc n) (b ∷ xs) = rest-empty n xs

  pub lacks-is : (k : ℕ) (left : List ℕ) → logs.is_open log ≡ true → lacks_credit h k left ≡ not (is_covered log k left)
  lacks-is k left o = rw (credit-is k o) (ap not (rest-empty (outgoing.credit_left log k) left))

  pub send-is : (k : ℕ) (left : List ℕ) → logs.is_open log ≡ true → send h k left ≡ send_of k (outgoing.bytes_within_credit log k left)
  send-is k left o = ap (λ (n : ℕ). send_of k (take n left)) (credit-is k o)

  -- where credit covers all, all goes out
  all-out : (n : ℕ) (xs : List ℕ) → is_nothing (drop (length (take n xs)) xs) ≡ true → take n xs ≡ xs
  all-out n [] e = by n
    where
      by : (n : ℕ) → take {A = ℕ} n [] ≡ []
      by zero = refl
      by (suc n) = refl
  all-out zero (b ∷ xs) e = absurd (cc e)
  all-out (suc n) (b ∷ xs) e = ap (λ (l : List ℕ). b ∷ l) (all-out n xs e)

  pub covered-out : (k : ℕ) (left : List ℕ) → is_covered log k left ≡ true → outgoing.bytes_within_credit log k left ≡ left
  covered-out k left e = all-out (outgoing.credit_left log k) left e

  -- ---- openings

  header-is : (k s : ℕ) → stream_header k s ≡ ladders.stream_header k s
  unfolding varint_bytes
  header-is k s = by (is_bidirectional k)
    where
      by : (b : Bool) → 0x40 ∷ (if b then 0x41 else 0x54) ∷ varint_bytes s ≡ varint_bytes (if b then 0x41 else 0x54) ++ varint_bytes s
      by true = refl
      by false = refl

  opening-by : (k s : ℕ) (left : List ℕ) (name : Option ℕ) → being_opened h k ≡ Some name → named h name ≡ Some s → (d : Bool) → (logs.is_open log && drivers.is_living side log s) ≡ d → (r : Bool)
      → handshakes.is_refused log k left ≡ r → (c : Bool) → is_covered log k left ≡ c
      → (w : Bool) → is_bidirectional k ≡ w → ladders.continue_opening side log k s left ≡ effect_of side h log (calls.PollOpening k) (first_row (opening_rows side h k s left))
  opening-by k s left name b n false e r q c f w u = rw (x.came.openness, living-is side offset h log s x, e) refl
  opening-by k s left name b n true e true q c f w u = rw (x.came.openness, living-is side offset h log s x, e, refused-is k left, q) refl
  opening-by k s left name b n true e false q false f w u =
      let o : logs.is_open log ≡ true = and-left (logs.is_open log) (drivers.is_living side log s) e in
      rw (x.came.openness, living-is side offset h log s x, e, refused-is k left, q, lacks-is k left o, f, send-is k left o) refl
  opening-by k s left name b n true e false q true f true u =
      let o : logs.is_open log ≡ true = and-left (logs.is_open log) (drivers.is_living side log s) e in
      rw (x.came.openness, living-is side offset h log s x, e, refused-is k left, q, lacks-is k left o, f, send-is k left o, covered-out k left f, u, opened_session, b, n) refl
  opening-by k s left name b n true e false q true f false u =
      let o : logs.is_open log ≡ true = and-left (logs.is_open log) (drivers.is_living side log s) e in
      rw (x.came.openness, living-is side offset h log s x, e, refused-is k left, q, lacks-is k left o, f, send-is k left o, covered-out k left f, u, opened_session, b, n) refl

  -- the same, of the session for which the stream is opened
  opening-of : (k : ℕ) → OpeningAgrees h log k → ladders.poll_opening side log k ≡ effect_of side h log (calls.PollOpening k) (first_row (opening_for side h k (being_opened h k)))
  opening-of k (NotOpening b o) = rw (b, o) refl
  opening-of k (IsOpening name s b n o) =
      let e : ladders.poll_opening side log k ≡ ladders.continue_opening side log k s (effects.head_left log k (ladders.stream_header k s)) = rw o refl in
      let r : opening_for side h k (being_opened h k) ≡ opening_rows side h k s (effects.head_left log k (ladders.stream_header k s))
      = rw (b, n) (ap (opening_rows side h k s) (head-is k (stream_header k s) ∙ ap (effects.head_left log k) (header-is k s))) in
      e ∙ opening-by k s (effects.head_left log k (ladders.stream_header k s)) name b n (logs.is_open log && drivers.is_living side log s) refl
      (handshakes.is_refused log k (effects.head_left log k (ladders.stream_header k s))) refl (is_covered log k (effects.head_left log k (ladders.stream_header k s))) refl
      (is_bidirectional k) refl
      ∙ ap (λ (rows : List Row). effect_of side h log (calls.PollOpening k) (first_row rows)) (sym r)

  pub opening-agrees : (k : ℕ) → ladders.poll_opening side log k ≡ effect_of side h log (calls.PollOpening k) (first_row (opening_for side h k (being_opened h k)))
  opening-agrees k = opening-of k (x.openings k)

  -- ---- datagrams

  pub send_datagram-agrees : (payload : List ℕ) (name : Option ℕ) (s : ℕ)
      → ladders.send_datagram side log payload s ≡ effect_of side h log (calls.SendDatagram payload name) (first_row (send_datagram side h payload s))
  send_datagram-agrees payload name s = by (logs.is_open log && drivers.is_living side log s) refl (datagram_fact (events_of log)) refl
    where
      by : (d : Bool) → (logs.is_open log && drivers.is_living side log s) ≡ d → (o : Option DatagramFact) → datagram_fact (events_of log) ≡ o
          → ladders.send_datagram side log payload s ≡ effect_of side h log (calls.SendDatagram payload name) (first_row (send_datagram side h payload s))
      by false e o f = rw (x.came.openness, living-is side offset h log s x, e) refl
      by true e None f = rw (x.came.openness, living-is side offset h log s x, e, x.came.events, f) refl
      by true e (Some facts.Disabled) f = rw (x.came.openness, living-is side offset h log s x, e, x.came.events, f) refl
      by true e (Some facts.Unsupported) f = rw (x.came.openness, living-is side offset h log s x, e, x.came.events, f) refl
      by true e (Some (facts.Limit limit)) f = within (nat_lt limit (length (datagram_bytes (s / 4) payload))) refl
        where
          within : (l : Bool) → nat_lt limit (length (datagram_bytes (s / 4) payload)) ≡ l
              → ladders.send_datagram side log payload s ≡ effect_of side h log (calls.SendDatagram payload name) (first_row (send_datagram side h payload s))
          within true l = rw (x.came.openness, living-is side offset h log s x, e, x.came.events, f, l) refl
          within false l = rw (x.came.openness, living-is side offset h log s x, e, x.came.events, f, l) refl

  limit-is : (s : ℕ) (o : Option DatagramFact) → payload_limit (length (varint_bytes (s / 4))) o ≡ ladders.payload_limit s o
  limit-is s None = refl
  limit-is s (Some facts.Disabled) = refl
  limit-is s (Some _) = refl

  pub size-agrees : (name : Option ℕ) (s : ℕ) → poll_only side log (replies.Size (ladders.payload_limit s (datagram_fact (events_of log))))
      ≡ effect_of side h log (calls.MaxDatagramSize name) (first_row (row true (replies.Size (payload_limit (length (varint_bytes (s / 4))) (datagram_fact (events h)))) [] ∷ []))
  size-agrees name s = rw (x.came.events, limit-is s (datagram_fact (events_of log))) refl

  -- ---- closes

  pub close-agrees : (code : ℕ) (reason : List ℕ) → ladders.close_connection side log code reason
      ≡ effect_of side h log (calls.Close code reason) (first_row (row true replies.Done (action_if (is_open h) (actions.Close code reason)) ∷ []))
  close-agrees code reason = rw x.came.openness refl

  pub endpoint_close-agrees : (code : ℕ) (reason : List ℕ)
      → ladders.close_connection side log code reason ≡ effect_of side h log (calls.EndpointClose code reason)
      (first_row (row true replies.Done (action_if (is_open h) (actions.Close code reason)) ∷ []))
  endpoint_close-agrees code reason = rw x.came.openness refl

  pub closed-agrees : poll_only side log (ladders.closed_reply log) ≡ effect_of side h log calls.Closed (first_row (row (not (is_open h)) (replies.Closed (transport_error h)) [] ∷ []))
  closed-agrees = by (logs.is_open log) refl
    where
      by : (o : Bool) → logs.is_open log ≡ o → poll_only side log (ladders.closed_reply log)
          ≡ effect_of side h log calls.Closed (first_row (row (not (is_open h)) (replies.Closed (transport_error h)) [] ∷ []))
      by true e = rw (x.came.openness, e) refl
      by false e = rw (x.came.openness, e, transport-is side offset h log x) refl

  -- ---- the application ends a session, where both end its streams alike

  pub end-agrees : (name : Option ℕ) (s : ℕ) → named h name ≡ Some s → (drivers.is_living side log s ≡ true → session_gone_actions side h (findings side h) s ≡ drivers.ending_actions side log s)
      → ladders.end_session side log s
      ≡ effect_of side h log (calls.EndSession name) (first_row
      (row true replies.Done (if is_open h && is_living side h s then session_finish h s ++ session_gone_actions side h (findings side h) s else []) ∷ []))
  end-agrees name s n g = by (logs.is_open log) refl (drivers.is_living side log s) refl
    where
      by : (o : Bool) → logs.is_open log ≡ o → (l : Bool) → drivers.is_living side log s ≡ l → ladders.end_session side log s
          ≡ effect_of side h log (calls.EndSession name) (first_row
          (row true replies.Done (if is_open h && is_living side h s then session_finish h s ++ session_gone_actions side h (findings side h) s else []) ∷ []))
      by true e true l = rw (x.came.openness, living-is side offset h log s x, e, l, n, g l, x.came.events) refl
      by true e false l = rw (x.came.openness, living-is side offset h log s x, e, l, n) refl
      by false e l q = rw (x.came.openness, e) refl
