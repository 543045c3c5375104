-- The rows of a call, one after another; and which call may give which reply.
use Rattle.std.specs.Prelude.{[], ◌/◌, ◌∷◌, ◌||◌, ◌≡◌, Bool, Err, List, None, Ok, Option, Result, Some, codes, false, if◌then◌else◌, length, not, true, unwrap_or, ℕ}
use Rattle.std.proofs.Common.{refl}
use Rattle.url.specs.Parser.{parse_url}
use Rattle.wt_meaning.specs.Calls.{being_opened, first_datagram, first_waiting, in_session, opening_for, refused_by, rows_of}
use Rattle.wt_meaning.specs.Halves.{has_receiving, has_sending, is_closed, is_done, reset_code, stopped_rows, where_has, write_rows}
use Rattle.wt_meaning.specs.Handshakes.{begin_rows, connect_on, is_success, last_begun, next_request, poll_rows, rejection, response_ended, response_fault, response_incomplete, response_rows, response_to, transport_error}
use Rattle.wt_meaning.specs.History.{History, contents, events, is_open}
use Rattle.wt_meaning.specs.Rows.{Row, answer, first_row, row, row_for}
use Rattle.wt_meaning.specs.Targets.{Target, target_of}
use Rattle.wt_meaning.specs.Windows.{last_request, named}
use Rattle.wt_message.specs.Datagram.{datagram_bytes}
use Rattle.wt_proto.specs.ResponseWalk.{response_walk_of}
use Rattle.wt_proto.specs.declared.response_walk.ResponseWalk.{ResponseWalk}
use Rattle.wt_turn.specs.Reports.{datagram_fact, end_of, stop_of}
use Rattle.wt_turn.specs.Streams.{peer_bi, peer_uni}
use Rattle.wt_turn.specs.declared.action.Action.{Action}
use Rattle.wt_turn.specs.declared.answer.Answer.{Answer}
use Rattle.wt_turn.specs.declared.call.Call.{Call}
use Rattle.wt_turn.specs.declared.connecting_error.ConnectingError.{ConnectingError}
use Rattle.wt_turn.specs.declared.connection_error.ConnectionError.{ConnectionError}
use Rattle.wt_turn.specs.declared.reply.Reply.{Reply}
use Rattle.wt_turn.specs.declared.stream_error.StreamWriteError.{StreamWriteError}
use Rattle.wt_wire.specs.HeaderList.{Fields}
use Rattle.wt_wire.specs.Ids.{is_bidirectional}
use Rattle.wt_wire.specs.declared.side.Side.{Side}
use Rattle.wt_turn.specs.declared.call.Call.TheVariants as calls
use Rattle.wt_turn.specs.declared.connection_error.ConnectionError.TheVariants as errors
use Rattle.wt_turn.specs.declared.reply.Reply.TheVariants as replies
use Rattle.wt_turn.specs.declared.stream_error.StreamWriteError.TheVariants as writes
use Rattle.wt_wire.specs.declared.error.ErrorCode.TheVariants as h3

-- ---- one row after another

-- what holds of the answer that these rows give
pub record OfRows (P : Answer → Type 0) (rows : List Row) : Type 0 where
  pub first : P (first_row rows)

-- where no row is left, the answer is Pending
pub no-row : (P : Answer → Type 0) → P (answer replies.Pending []) → OfRows P []
no-row P e = record { first = e }

-- what holds of the answer of a row where it holds, and of the rows after it where it doesn't, holds of the answer
pub by-row : (P : Answer → Type 0) (c : Bool) (r : Reply) (own : List Action) (rows : List Row) → (c ≡ true → P (answer r own)) → (c ≡ false → OfRows P rows) → OfRows P (row c r own ∷ rows)
by-row P true r own rows holds fails = record { first = holds refl }
by-row P false r own rows holds fails = record { first = (fails refl).first }

pub by-value : {T : Type 0} (P : Answer → Type 0) (x : Option T) (gives : T → Reply) (own : List Action) (rows : List Row)
    → ((y : T) → x ≡ Some y → P (answer (gives y) own)) → (x ≡ None → OfRows P rows) → OfRows P (row_for x gives own ∷ rows)
by-value P None gives own rows holds fails = record { first = (fails refl).first }
by-value P (Some y) gives own rows holds fails = record { first = holds y refl }

-- the same of a session's rows
pub by-session : (P : Answer → Type 0) (name : Option ℕ) (rows : ℕ → List Row) → P (answer replies.NoSession []) → ((s : ℕ) → name ≡ Some s → OfRows P (rows s)) → OfRows P (in_session name rows)
by-session P None rows none some = record { first = none }
by-session P (Some s) rows none some = some s refl

-- ---- which call may give which reply

abbrev pub is_session : Reply → Bool
is_session (replies.Session id) = true
is_session _ = false

abbrev pub is_request : Reply → Bool
is_request (replies.Request id headers) = true
is_request _ = false

abbrev pub is_rejected : Reply → Bool
is_rejected replies.Rejected = true
is_rejected _ = false

abbrev pub is_uni : Reply → Bool
is_uni (replies.Uni id) = true
is_uni _ = false

abbrev pub is_bi : Reply → Bool
is_bi (replies.Bi id) = true
is_bi _ = false

abbrev pub is_payload : Reply → Bool
is_payload (replies.Datagram payload) = true
is_payload _ = false

abbrev pub is_opening : Reply → Bool
is_opening (replies.Opening id) = true
is_opening _ = false

abbrev pub is_ready_one : Reply → Bool
is_ready_one (replies.SendReady id) = true
is_ready_one (replies.BiReady id) = true
is_ready_one _ = false

-- none of these
abbrev pub is_plain : Reply → Bool
is_plain (replies.Session id) = false
is_plain (replies.Request id headers) = false
is_plain replies.Rejected = false
is_plain (replies.Uni id) = false
is_plain (replies.Bi id) = false
is_plain (replies.Datagram payload) = false
is_plain (replies.Opening id) = false
is_plain (replies.SendReady id) = false
is_plain (replies.BiReady id) = false
is_plain _ = true

-- the replies of a call
abbrev pub fits : Call → Reply → Bool
fits calls.Incoming r = is_plain r || is_request r
fits (calls.Accept headers) r = is_plain r || is_session r
fits calls.Forbidden r = is_plain r || is_rejected r
fits calls.NotFound r = is_plain r || is_rejected r
fits calls.TooManyRequests r = is_plain r || is_rejected r
fits calls.Handshake r = is_plain r || (is_session r || is_rejected r)
fits (calls.AcceptUni name) r = is_plain r || is_uni r
fits (calls.AcceptBi name) r = is_plain r || is_bi r
fits (calls.ReceiveDatagram name) r = is_plain r || is_payload r
fits (calls.OpenUni name) r = is_plain r || is_opening r
fits (calls.OpenBi name) r = is_plain r || is_opening r
fits (calls.PollOpening id) r = is_plain r || is_ready_one r
fits _ r = is_plain r

-- the test holds of the reply of these rows
abbrev pub Says : (Reply → Bool) → Answer → Type 0
Says test a = test a.reply ≡ true

-- a row's reply passes, and so do those of the rows after it
passes : (test : Reply → Bool) (c : Bool) (r : Reply) (own : List Action) (rows : List Row) → test r ≡ true → OfRows (Says test) rows → OfRows (Says test) (row c r own ∷ rows)
passes test c r own rows holds fails = by-row (Says test) c r own rows (λ q. holds) (λ q. fails)

value-passes : {T : Type 0} (test : Reply → Bool) (x : Option T) (gives : T → Reply) (own : List Action) (rows : List Row) → ((y : T) → test (gives y) ≡ true) → OfRows (Says test) rows
    → OfRows (Says test) (row_for x gives own ∷ rows)
value-passes test x gives own rows holds fails = by-value (Says test) x gives own rows (λ y q. holds y) (λ q. fails)

session-passes : (test : Reply → Bool) (name : Option ℕ) (rows : ℕ → List Row) → test replies.NoSession ≡ true → ((s : ℕ) → OfRows (Says test) (rows s)) → OfRows (Says test) (in_session name rows)
session-passes test name rows none some = by-session (Says test) name rows none (λ s q. some s)

-- a response
pub accepts-pass : (test : Reply → Bool) → test replies.Pending ≡ true → ((e : ConnectionError) → test (replies.Failed e) ≡ true) → ((s : ℕ) → test (replies.Session s) ≡ true)
    → (side : Side) (h : History) (headers : Fields) → OfRows (Says test) (response_to side h (calls.Accept headers))
accepts-pass test p f s side h headers =
    passes test (not (is_open h)) (replies.Failed (transport_error h)) [] _ (f _)
    (passes test _ (replies.Failed (errors.LocalH3Error h3.ClosedCriticalStream)) _ _ (f _)
    (passes test _ replies.Pending _ _ p (passes test true (replies.Session (unwrap_or (last_request h) 0)) _ [] (s _) (no-row (Says test) p))))

pub rejects-pass : (test : Reply → Bool) → test replies.Pending ≡ true → test replies.Rejected ≡ true → (side : Side) (h : History) (digits : List ℕ) → OfRows (Says test) (rejection side h digits)
rejects-pass test p r side h digits =
    passes test (not (is_open h)) replies.Rejected [] _ r
    (passes test _ replies.Rejected _ _ r (passes test _ replies.Pending _ _ p (passes test _ replies.Pending _ _ p (passes test _ replies.Rejected _ [] r (no-row (Says test) p)))))

-- a connect that goes on
response-passes : (test : Reply → Bool) → test replies.Pending ≡ true → ((e : ConnectingError) → test (replies.ConnectFailed e) ≡ true) → ((s : ℕ) → test (replies.Session s) ≡ true)
    → (side : Side) (h : History) (own : List Action) (walk : ResponseWalk) → OfRows (Says test) (response_rows side h own walk)
response-passes test p f s side h own walk =
    value-passes test (response_fault walk) _ _ _ (λ y. f _)
    (passes test (response_ended walk) _ _ _ (f _) (passes test _ _ _ _ (f _) (passes test (response_incomplete walk) _ _ _ p
    (passes test (not (is_success walk)) _ _ _ (f _) (passes test (not (is_open h)) _ _ _ (f _) (passes test true _ _ [] (s 0) (no-row (Says test) p)))))))

pub connect-passes : (test : Reply → Bool) → test replies.Pending ≡ true → ((e : ConnectingError) → test (replies.ConnectFailed e) ≡ true) → ((s : ℕ) → test (replies.Session s) ≡ true)
    → (side : Side) (h : History) (t : Result Target ConnectingError) → OfRows (Says test) (connect_on side h t)
connect-passes test p f s side h (Err e) = no-row (Says test) p
connect-passes test p f s side h (Ok t) =
    passes test _ _ [] _ (f _) (passes test _ _ [] _ p (passes test _ _ [] _ (f _) (passes test _ _ [] _ p (value-passes test t.reserved _ _ _ (λ y. f _)
    (passes test _ _ [] _ (f _) (passes test _ _ [] _ p (passes test _ _ [] _ (f _) (passes test _ _ _ _ (f _) (passes test _ _ _ _ p
    (response-passes test p f s side h _ (response_walk_of (contents h 0) (end_of (events h) 0))))))))))))

polls-pass : (side : Side) (h : History) (begun : Option Call) → OfRows (Says (fits calls.Handshake)) (poll_rows side h begun)
polls-pass side h None = record { first = refl }
polls-pass side h (Some (calls.Connect options lookup outcome)) =
    connect-passes (fits calls.Handshake) refl (λ e. refl) (λ s. refl) side h (target_of (parse_url None options.0) options.1 lookup outcome)
polls-pass side h (Some (calls.Accept headers)) = accepts-pass (fits calls.Handshake) refl (λ e. refl) (λ s. refl) side h headers
polls-pass side h (Some calls.Forbidden) = rejects-pass (fits calls.Handshake) refl refl side h (codes "403")
polls-pass side h (Some calls.NotFound) = rejects-pass (fits calls.Handshake) refl refl side h (codes "404")
polls-pass side h (Some calls.TooManyRequests) = rejects-pass (fits calls.Handshake) refl refl side h (codes "429")
polls-pass side h (Some c) = record { first = refl }

-- how a half ended
stopped-passes : (test : Reply → Bool) (h : History) (k : ℕ) (failed : StreamWriteError → Reply) (done : Reply) → ((e : StreamWriteError) → test (failed e) ≡ true) → test done ≡ true → test replies.Pending ≡ true
    → OfRows (Says test) (stopped_rows h k failed done)
stopped-passes test h k failed done f d p =
    value-passes test (stop_of (events h) k) _ [] _ (λ y. f _) (passes test (is_done h k) done [] _ d (passes test (not (is_open h)) (failed writes.NotConnected) [] [] (f _) (no-row (Says test) p)))

-- why nothing is written
write-passes : (test : Reply → Bool) (h : History) (k : ℕ) (rows : List Row) → ((e : StreamWriteError) → test (replies.WriteFailed e) ≡ true) → OfRows (Says test) rows → OfRows (Says test) (write_rows h k rows)
write-passes test h k rows f s =
    passes test (not (is_open h)) _ [] _ (f _) (passes test (is_closed h k) _ [] _ (f _) (value-passes test (stop_of (events h) k) _ [] _ (λ y. f _) s))

-- a stream that is opened
opening-passes : (side : Side) (h : History) (id : ℕ) (x : Option (Option ℕ)) → OfRows (Says (fits (calls.PollOpening id))) (opening_for side h id x)
opening-passes side h id None = record { first = refl }
opening-passes side h id (Some name) =
    session-passes test (named h name) _ refl (λ s. passes test _ _ [] _ refl (passes test _ _ [] _ refl (passes test _ _ _ _ refl (passes test true _ _ [] (ready (is_bidirectional id)) (no-row (Says test) refl)))))
  where
    test : Reply → Bool
    test = fits (calls.PollOpening id)

    ready : (b : Bool) → fits (calls.PollOpening id) (if b then replies.BiReady id else replies.SendReady id) ≡ true
    ready true = refl
    ready false = refl

half-passes : (test : Reply → Bool) (has : Bool) (rows : List Row) → test replies.NoStream ≡ true → OfRows (Says test) rows → OfRows (Says test) (where_has has rows)
half-passes test has rows n s = passes test (not has) replies.NoStream [] rows n s

fits-rows : (side : Side) (h : History) (call : Call) → OfRows (Says (fits call)) (rows_of side h call)
fits-rows side h (calls.Connect options lookup outcome) = begins (target_of (parse_url None options.0) options.1 lookup outcome)
  where
    begins : (t : Result Target ConnectingError) → OfRows (Says is_plain) (begin_rows t)
    begins (Err e) = record { first = refl }
    begins (Ok t) = record { first = refl }
fits-rows side h calls.Incoming = value-passes (fits calls.Incoming) (next_request side h) _ [] _ (λ q. refl) (passes (fits calls.Incoming) (not (is_open h)) _ [] [] refl (no-row (Says (fits calls.Incoming)) refl))
fits-rows side h (calls.Accept headers) = accepts-pass (fits (calls.Accept headers)) refl (λ e. refl) (λ s. refl) side h headers
fits-rows side h calls.Forbidden = rejects-pass (fits calls.Forbidden) refl refl side h (codes "403")
fits-rows side h calls.NotFound = rejects-pass (fits calls.NotFound) refl refl side h (codes "404")
fits-rows side h calls.TooManyRequests = rejects-pass (fits calls.TooManyRequests) refl refl side h (codes "429")
fits-rows side h calls.Handshake = polls-pass side h (last_begun h)
fits-rows side h (calls.EndpointClose code reason) = record { first = refl }
fits-rows side h (calls.AcceptUni name) =
    session-passes (fits (calls.AcceptUni name)) (named h name) _ refl (λ s. value-passes (fits (calls.AcceptUni name)) (first_waiting side h (peer_uni side) s) _ [] _ (λ y. refl) (passes (fits (calls.AcceptUni name)) _ _ [] [] refl (no-row (Says (fits (calls.AcceptUni name))) refl)))
fits-rows side h (calls.AcceptBi name) =
    session-passes (fits (calls.AcceptBi name)) (named h name) _ refl (λ s. value-passes (fits (calls.AcceptBi name)) (first_waiting side h (peer_bi side) s) _ [] _ (λ y. refl) (passes (fits (calls.AcceptBi name)) _ _ [] [] refl (no-row (Says (fits (calls.AcceptBi name))) refl)))
fits-rows side h (calls.ReceiveDatagram name) =
    session-passes (fits (calls.ReceiveDatagram name)) (named h name) _ refl
    (λ s. value-passes (fits (calls.ReceiveDatagram name)) (first_datagram side h s) _ [] _ (λ y. refl) (passes (fits (calls.ReceiveDatagram name)) _ _ [] [] refl (no-row (Says (fits (calls.ReceiveDatagram name))) refl)))
fits-rows side h (calls.OpenUni name) =
    session-passes (fits (calls.OpenUni name)) (named h name) _ refl
    (λ s. passes (fits (calls.OpenUni name)) _ _ [] _ refl (passes (fits (calls.OpenUni name)) _ _ [] _ refl (passes (fits (calls.OpenUni name)) _ _ _ [] refl (no-row (Says (fits (calls.OpenUni name))) refl))))
fits-rows side h (calls.OpenBi name) =
    session-passes (fits (calls.OpenBi name)) (named h name) _ refl
    (λ s. passes (fits (calls.OpenBi name)) _ _ [] _ refl (passes (fits (calls.OpenBi name)) _ _ [] _ refl (passes (fits (calls.OpenBi name)) _ _ _ [] refl (no-row (Says (fits (calls.OpenBi name))) refl))))
fits-rows side h (calls.PollOpening id) = session-passes (fits (calls.PollOpening id)) (named h None) _ refl (λ s. opening-passes side h id (being_opened h id))
fits-rows side h (calls.SendDatagram payload name) =
    session-passes is_plain (named h name) _ refl (λ s. passes is_plain _ _ [] _ refl (value-passes is_plain (refused_by (length (datagram_bytes (s / 4) payload)) (datagram_fact (events h))) _ [] _ (λ e. refl) (passes is_plain true _ _ [] refl (no-row (Says is_plain) refl))))
fits-rows side h (calls.EndSession name) = session-passes is_plain (named h name) _ refl (λ s. record { first = refl })
fits-rows side h (calls.MaxDatagramSize name) = session-passes is_plain (named h name) _ refl (λ s. record { first = refl })
fits-rows side h (calls.SessionId name) = session-passes is_plain (named h name) _ refl (λ s. record { first = refl })
fits-rows side h (calls.Close code reason) = session-passes is_plain (named h None) _ refl (λ s. record { first = refl })
fits-rows side h calls.Closed = session-passes is_plain (named h None) _ refl (λ s. passes is_plain _ _ [] [] refl (no-row (Says is_plain) refl))
fits-rows side h (calls.Write id bytes) =
    half-passes is_plain (has_sending side h id) _ refl (write-passes is_plain h id _ (λ e. refl) (passes is_plain _ _ [] _ refl (passes is_plain _ _ _ [] refl (no-row (Says is_plain) refl))))
fits-rows side h (calls.WriteAll id bytes) =
    half-passes is_plain (has_sending side h id) _ refl (write-passes is_plain h id _ (λ e. refl) (passes is_plain _ _ _ _ refl (passes is_plain true _ _ [] refl (no-row (Says is_plain) refl))))
fits-rows side h (calls.Finish id) =
    half-passes is_plain (has_sending side h id) _ refl (passes is_plain _ replies.Pending _ _ refl (stopped-passes is_plain h id (λ e. replies.WriteFailed e) replies.Finished (λ e. refl) refl refl))
fits-rows side h (calls.Stopped id) =
    half-passes is_plain (has_sending side h id) _ refl (stopped-passes is_plain h id (λ e. replies.StoppedBy e) (replies.StoppedBy writes.Closed) (λ e. refl) refl refl)
fits-rows side h (calls.Priority id) = half-passes is_plain (has_sending side h id) _ refl (passes is_plain _ _ [] _ refl (passes is_plain true _ [] [] refl (no-row (Says is_plain) refl)))
fits-rows side h (calls.SetPriority id p) = half-passes is_plain (has_sending side h id) _ refl (record { first = refl })
fits-rows side h (calls.ResetSend id code) = half-passes is_plain (has_sending side h id) _ refl (passes is_plain _ _ [] _ refl (passes is_plain true _ _ [] refl (no-row (Says is_plain) refl)))
fits-rows side h (calls.Read id size) =
    half-passes is_plain (has_receiving side h id) _ refl
    (passes is_plain _ _ [] _ refl (passes is_plain _ _ [] _ refl (passes is_plain _ _ [] _ refl (value-passes is_plain (reset_code (end_of (events h) id)) _ [] _ (λ c. refl) (passes is_plain _ _ [] [] refl (no-row (Says is_plain) refl))))))
fits-rows side h (calls.ReadExact id size) =
    half-passes is_plain (has_receiving side h id) _ refl
    (passes is_plain _ _ [] _ refl (passes is_plain _ _ [] _ refl (value-passes is_plain (reset_code (end_of (events h) id)) _ [] _ (λ c. refl) (passes is_plain _ _ [] [] refl (no-row (Says is_plain) refl)))))
fits-rows side h (calls.StopRecv id code) = half-passes is_plain (has_receiving side h id) _ refl (record { first = refl })

pub fits-own : (side : Side) (h : History) (call : Call) → fits call (first_row (rows_of side h call)).reply ≡ true
fits-own side h call = (fits-rows side h call).first
