-- Which call may give which reply, of those that a record tells with a number.
use Rattle.std.specs.Prelude.{[], ◌/◌, ◌∷◌, ◌||◌, ◌≡◌, Bool, Err, List, None, Ok, Option, Result, Some, codes, false, if◌then◌else◌, length, not, true, ℕ}
use Rattle.std.proofs.Common.{refl}
use Rattle.url.specs.Parser.{parse_url}
use Rattle.wt_meaning.specs.Calls.{being_opened, first_datagram, first_waiting, in_session, opening_for, refused_by, rows_of}
use Rattle.wt_meaning.specs.Halves.{has_receiving, has_sending, is_closed, is_done, reset_code, stopped_rows, where_has, write_rows}
use Rattle.wt_meaning.specs.Handshakes.{begin_rows, last_begun, next_request, poll_rows}
use Rattle.wt_meaning.specs.History.{History, events, is_open}
use Rattle.wt_meaning.specs.Rows.{Row, first_row, row, row_for}
use Rattle.wt_meaning.specs.Targets.{Target, target_of}
use Rattle.wt_meaning.specs.Windows.{named}
use Rattle.wt_message.specs.Datagram.{datagram_bytes}
use Rattle.wt_promise.proofs.Tables.{OfRows, Says, accepts-pass, by-row, by-session, by-value, connect-passes, is_bi, is_opening, is_ready_one, is_uni, no-row, rejects-pass}
use Rattle.wt_turn.specs.Reports.{datagram_fact, end_of, stop_of}
use Rattle.wt_turn.specs.Streams.{peer_bi, peer_uni}
use Rattle.wt_turn.specs.declared.action.Action.{Action}
use Rattle.wt_turn.specs.declared.call.Call.{Call}
use Rattle.wt_turn.specs.declared.connecting_error.ConnectingError.{ConnectingError}
use Rattle.wt_turn.specs.declared.reply.Reply.{Reply}
use Rattle.wt_turn.specs.declared.stream_error.StreamWriteError.{StreamWriteError}
use Rattle.wt_wire.specs.Ids.{is_bidirectional}
use Rattle.wt_wire.specs.declared.side.Side.{Side}
use Rattle.wt_turn.specs.declared.call.Call.TheVariants as calls
use Rattle.wt_turn.specs.declared.reply.Reply.TheVariants as replies
use Rattle.wt_turn.specs.declared.stream_error.StreamReadExactError.TheVariants as exacts
use Rattle.wt_turn.specs.declared.stream_error.StreamWriteError.TheVariants as writes

-- ---- which call may give which reply

-- the opening failed
abbrev is_opening_failed : Reply → Bool
is_opening_failed (replies.OpeningFailed e) = true
is_opening_failed _ = false

-- bytes were read
abbrev pub gives_bytes : Reply → Bool
gives_bytes (replies.Read (Some piece)) = true
gives_bytes _ = false

-- an exact read's reply: without the end of the stream it gives no bytes where it fails
abbrev pub gives_exact : Reply → Bool
gives_exact (replies.Exact piece) = true
gives_exact (replies.ExactFailed (exacts.FinishedEarly count) piece) = true
gives_exact (replies.ExactFailed (exacts.Read e) []) = true
gives_exact _ = false

-- a reply that tells neither of a stream that is given or opened nor of bytes that were read
abbrev pub is_usual : Reply → Bool
is_usual (replies.Uni id) = false
is_usual (replies.Bi id) = false
is_usual (replies.Opening id) = false
is_usual (replies.SendReady id) = false
is_usual (replies.BiReady id) = false
is_usual (replies.OpeningFailed e) = false
is_usual (replies.Read (Some piece)) = false
is_usual (replies.Exact piece) = false
is_usual (replies.ExactFailed e piece) = false
is_usual _ = true

-- the replies of a call
abbrev pub suits : Call → Reply → Bool
suits (calls.AcceptUni name) r = is_usual r || is_uni r
suits (calls.AcceptBi name) r = is_usual r || is_bi r
suits (calls.OpenUni name) r = is_usual r || is_opening r
suits (calls.OpenBi name) r = is_usual r || is_opening r
suits (calls.PollOpening id) r = is_usual r || (is_ready_one r || is_opening_failed r)
suits (calls.Read id size) r = is_usual r || gives_bytes r
suits (calls.ReadExact id size) r = is_usual r || gives_exact r
suits _ r = is_usual r

passes : (test : Reply → Bool) (c : Bool) (r : Reply) (own : List Action) (rows : List Row) → test r ≡ true → OfRows (Says test) rows → OfRows (Says test) (row c r own ∷ rows)
passes test c r own rows holds fails = by-row (Says test) c r own rows (λ q. holds) (λ q. fails)

value-passes : {T : Type 0} (test : Reply → Bool) (x : Option T) (gives : T → Reply) (own : List Action) (rows : List Row) → ((y : T) → test (gives y) ≡ true) → OfRows (Says test) rows
    → OfRows (Says test) (row_for x gives own ∷ rows)
value-passes test x gives own rows holds fails = by-value (Says test) x gives own rows (λ y q. holds y) (λ q. fails)

session-passes : (test : Reply → Bool) (name : Option ℕ) (rows : ℕ → List Row) → test replies.NoSession ≡ true → ((s : ℕ) → OfRows (Says test) (rows s)) → OfRows (Says test) (in_session name rows)
session-passes test name rows none some = by-session (Says test) name rows none (λ s q. some s)

half-passes : (test : Reply → Bool) (has : Bool) (rows : List Row) → test replies.NoStream ≡ true → OfRows (Says test) rows → OfRows (Says test) (where_has has rows)
half-passes test has rows n s = passes test (not has) replies.NoStream [] rows n s

last : (test : Reply → Bool) → test replies.Pending ≡ true → OfRows (Says test) []
last test p = no-row (Says test) p

stopped-passes : (h : History) (k : ℕ) (failed : StreamWriteError → Reply) (done : Reply) → ((e : StreamWriteError) → is_usual (failed e) ≡ true) → is_usual done ≡ true
    → OfRows (Says is_usual) (stopped_rows h k failed done)
stopped-passes h k failed done f d =
    value-passes is_usual (stop_of (events h) k) _ [] _ (λ y. f _)
    (passes is_usual (is_done h k) done [] _ d (passes is_usual (not (is_open h)) (failed writes.NotConnected) [] [] (f _) (last is_usual refl)))

write-passes : (h : History) (k : ℕ) (rows : List Row) → OfRows (Says is_usual) rows → OfRows (Says is_usual) (write_rows h k rows)
write-passes h k rows s =
    passes is_usual (not (is_open h)) _ [] _ refl (passes is_usual (is_closed h k) _ [] _ refl (value-passes is_usual (stop_of (events h) k) _ [] _ (λ y. refl) s))

opening-passes : (side : Side) (h : History) (id : ℕ) (x : Option (Option ℕ)) → OfRows (Says (suits (calls.PollOpening id))) (opening_for side h id x)
opening-passes side h id None = record { first = refl }
opening-passes side h id (Some name) =
    session-passes test (named h name) _ refl (λ s. passes test _ _ [] _ refl
    (passes test _ _ [] _ refl (passes test _ _ _ _ refl (passes test true _ _ [] (ready (is_bidirectional id)) (last test refl)))))
  where
    test : Reply → Bool
    test = suits (calls.PollOpening id)

    ready : (b : Bool) → suits (calls.PollOpening id) (if b then replies.BiReady id else replies.SendReady id) ≡ true
    ready true = refl
    ready false = refl

polls-pass : (side : Side) (h : History) (begun : Option Call) → OfRows (Says is_usual) (poll_rows side h begun)
polls-pass side h None = record { first = refl }
polls-pass side h (Some (calls.Connect options lookup outcome)) =
    connect-passes is_usual refl (λ e. refl) (λ s. refl) side h (target_of (parse_url None options.0) options.1 lookup outcome)
polls-pass side h (Some (calls.Accept headers)) = accepts-pass is_usual refl (λ e. refl) (λ s. refl) side h headers
polls-pass side h (Some calls.Forbidden) = rejects-pass is_usual refl refl side h (codes "403")
polls-pass side h (Some calls.NotFound) = rejects-pass is_usual refl refl side h (codes "404")
polls-pass side h (Some calls.TooManyRequests) = rejects-pass is_usual refl refl side h (codes "429")
polls-pass side h (Some c) = record { first = refl }

suits-rows : (side : Side) (h : History) (call : Call) → OfRows (Says (suits call)) (rows_of side h call)
suits-rows side h (calls.Connect options lookup outcome) = begins (target_of (parse_url None options.0) options.1 lookup outcome)
  where
    begins : (t : Result Target ConnectingError) → OfRows (Says is_usual) (begin_rows t)
    begins (Err e) = record { first = refl }
    begins (Ok t) = record { first = refl }
suits-rows side h calls.Incoming = value-passes is_usual (next_request side h) _ [] _ (λ q. refl) (passes is_usual (not (is_open h)) _ [] [] refl (last is_usual refl))
suits-rows side h (calls.Accept headers) = accepts-pass is_usual refl (λ e. refl) (λ s. refl) side h headers
suits-rows side h calls.Forbidden = rejects-pass is_usual refl refl side h (codes "403")
suits-rows side h calls.NotFound = rejects-pass is_usual refl refl side h (codes "404")
suits-rows side h calls.TooManyRequests = rejects-pass is_usual refl refl side h (codes "429")
suits-rows side h calls.Handshake = polls-pass side h (last_begun h)
suits-rows side h (calls.EndpointClose code reason) = record { first = refl }
suits-rows side h (calls.AcceptUni name) =
    session-passes (suits (calls.AcceptUni name)) (named h name) _ refl
    (λ s. value-passes (suits (calls.AcceptUni name)) (first_waiting side h (peer_uni side) s) _ [] _ (λ y. refl)
    (passes (suits (calls.AcceptUni name)) _ _ [] [] refl (last (suits (calls.AcceptUni name)) refl)))
suits-rows side h (calls.AcceptBi name) =
    session-passes (suits (calls.AcceptBi name)) (named h name) _ refl
    (λ s. value-passes (suits (calls.AcceptBi name)) (first_waiting side h (peer_bi side) s) _ [] _ (λ y. refl)
    (passes (suits (calls.AcceptBi name)) _ _ [] [] refl (last (suits (calls.AcceptBi name)) refl)))
suits-rows side h (calls.ReceiveDatagram name) =
    session-passes is_usual (named h name) _ refl (λ s. value-passes is_usual (first_datagram side h s) _ [] _ (λ y. refl) (passes is_usual _ _ [] [] refl (last is_usual refl)))
suits-rows side h (calls.OpenUni name) =
    session-passes (suits (calls.OpenUni name)) (named h name) _ refl
    (λ s. passes (suits (calls.OpenUni name)) _ _ [] _ refl
    (passes (suits (calls.OpenUni name)) _ _ [] _ refl (passes (suits (calls.OpenUni name)) _ _ _ [] refl (last (suits (calls.OpenUni name)) refl))))
suits-rows side h (calls.OpenBi name) =
    session-passes (suits (calls.OpenBi name)) (named h name) _ refl
    (λ s. passes (suits (calls.OpenBi name)) _ _ [] _ refl
    (passes (suits (calls.OpenBi name)) _ _ [] _ refl (passes (suits (calls.OpenBi name)) _ _ _ [] refl (last (suits (calls.OpenBi name)) refl))))
suits-rows side h (calls.PollOpening id) = session-passes (suits (calls.PollOpening id)) (named h None) _ refl (λ s. opening-passes side h id (being_opened h id))
suits-rows side h (calls.SendDatagram payload name) =
    session-passes is_usual (named h name) _ refl
    (λ s. passes is_usual _ _ [] _ refl (value-passes is_usual (refused_by (length (datagram_bytes (s / 4) payload)) (datagram_fact (events h))) _ [] _ (λ e. refl)
    (passes is_usual true _ _ [] refl (last is_usual refl))))
suits-rows side h (calls.EndSession name) = session-passes is_usual (named h name) _ refl (λ s. record { first = refl })
suits-rows side h (calls.MaxDatagramSize name) = session-passes is_usual (named h name) _ refl (λ s. record { first = refl })
suits-rows side h (calls.SessionId name) = session-passes is_usual (named h name) _ refl (λ s. record { first = refl })
suits-rows side h (calls.Close code reason) = session-passes is_usual (named h None) _ refl (λ s. record { first = refl })
suits-rows side h calls.Closed = session-passes is_usual (named h None) _ refl (λ s. passes is_usual _ _ [] [] refl (last is_usual refl))
suits-rows side h (calls.Write id bytes) =
    half-passes is_usual (has_sending side h id) _ refl (write-passes h id _ (passes is_usual _ _ [] _ refl (passes is_usual _ _ _ [] refl (last is_usual refl))))
suits-rows side h (calls.WriteAll id bytes) =
    half-passes is_usual (has_sending side h id) _ refl (write-passes h id _ (passes is_usual _ _ _ _ refl (passes is_usual true _ _ [] refl (last is_usual refl))))
suits-rows side h (calls.Finish id) =
    half-passes is_usual (has_sending side h id) _ refl (passes is_usual _ replies.Pending _ _ refl (stopped-passes h id (λ e. replies.WriteFailed e) replies.Finished (λ e. refl) refl))
suits-rows side h (calls.Stopped id) =
    half-passes is_usual (has_sending side h id) _ refl (stopped-passes h id (λ e. replies.StoppedBy e) (replies.StoppedBy writes.Closed) (λ e. refl) refl)
suits-rows side h (calls.Priority id) = half-passes is_usual (has_sending side h id) _ refl (passes is_usual _ _ [] _ refl (passes is_usual true _ [] [] refl (last is_usual refl)))
suits-rows side h (calls.SetPriority id p) = half-passes is_usual (has_sending side h id) _ refl (record { first = refl })
suits-rows side h (calls.ResetSend id code) = half-passes is_usual (has_sending side h id) _ refl (passes is_usual _ _ [] _ refl (passes is_usual true _ _ [] refl (last is_usual refl)))
suits-rows side h (calls.Read id size) =
    half-passes test (has_receiving side h id) _ refl
    (passes test _ _ [] _ refl (passes test _ _ [] _ refl
    (passes test _ _ [] _ refl (value-passes test (reset_code (end_of (events h) id)) _ [] _ (λ c. refl) (passes test _ _ [] [] refl (last test refl))))))
  where
    test : Reply → Bool
    test = suits (calls.Read id size)
suits-rows side h (calls.ReadExact id size) =
    half-passes test (has_receiving side h id) _ refl
    (passes test _ _ [] _ refl (passes test _ _ [] _ refl (value-passes test (reset_code (end_of (events h) id)) _ [] _ (λ c. refl) (passes test _ _ [] [] refl (last test refl)))))
  where
    test : Reply → Bool
    test = suits (calls.ReadExact id size)
suits-rows side h (calls.StopRecv id code) = half-passes is_usual (has_receiving side h id) _ refl (record { first = refl })

pub suits-own : (side : Side) (h : History) (call : Call) → suits call (first_row (rows_of side h call)).reply ≡ true
suits-own side h call = (suits-rows side h call).first
