-- Which replies the calls of the handshakes give; and that no other call gives a request, a session, a rejection or a failed connect.
use Rattle.std.specs.Prelude.{[], ◌/◌, ◌∷◌, ◌≡◌, Bool, List, None, Option, Some, false, if◌then◌else◌, length, not, true, ℕ}
use Rattle.std.proofs.Common.{refl}
use Rattle.wt_meaning.specs.Calls.{being_opened, first_datagram, first_waiting, in_session, opening_for, refused_by, rows_of}
use Rattle.wt_meaning.specs.Halves.{has_receiving, has_sending, is_closed, is_done, reset_code, stopped_rows, where_has, write_rows}
use Rattle.wt_meaning.specs.Handshakes.{incoming_rows, next_request, rejection, response_to}
use Rattle.wt_meaning.specs.History.{History, events, is_open}
use Rattle.wt_meaning.specs.Lawful.{is_of_request, polls}
use Rattle.wt_meaning.specs.Rows.{Row, first_row, row, row_for}
use Rattle.wt_meaning.specs.Windows.{named}
use Rattle.wt_message.specs.Datagram.{datagram_bytes}
use Rattle.wt_promise.proofs.Tables.{OfRows, Says, accepts-pass, by-row, by-session, by-value, no-row, rejects-pass}
use Rattle.wt_turn.specs.Reports.{datagram_fact, end_of, stop_of}
use Rattle.wt_turn.specs.Streams.{peer_bi, peer_uni}
use Rattle.wt_turn.specs.declared.action.Action.{Action}
use Rattle.wt_turn.specs.declared.call.Call.{Call}
use Rattle.wt_turn.specs.declared.reply.Reply.{Reply}
use Rattle.wt_turn.specs.declared.stream_error.StreamWriteError.{StreamWriteError}
use Rattle.wt_wire.specs.HeaderList.{Fields}
use Rattle.wt_wire.specs.Ids.{is_bidirectional}
use Rattle.wt_wire.specs.declared.side.Side.{Side}
use Rattle.wt_turn.specs.declared.call.Call.TheVariants as calls
use Rattle.wt_turn.specs.declared.reply.Reply.TheVariants as replies
use Rattle.wt_turn.specs.declared.stream_error.StreamWriteError.TheVariants as writes
use Rattle.wt_turn.specs.declared.turn.Turn.TheVariants as turns

-- ---- the calls of the handshakes

-- of an Incoming
abbrev pub is_asking : Reply → Bool
is_asking (replies.Request id headers) = true
is_asking (replies.Failed e) = true
is_asking replies.Pending = true
is_asking _ = false

pub incoming-replies : (side : Side) (h : History) → is_asking (first_row (incoming_rows side h)).reply ≡ true
incoming-replies side h =
    (by-value (Says is_asking) (next_request side h) (λ (q : ℕ × Fields). replies.Request q.0 q.1) [] _ (λ q e. refl)
    (λ n. by-row (Says is_asking) (not (is_open h)) _ [] [] (λ c. refl) (λ c. no-row (Says is_asking) refl))).first

-- of an acceptance
abbrev pub is_accepting : Reply → Bool
is_accepting (replies.Session id) = true
is_accepting (replies.Failed e) = true
is_accepting replies.Pending = true
is_accepting _ = false

pub accept-replies : (side : Side) (h : History) (headers : Fields) → is_accepting (first_row (response_to side h (calls.Accept headers))).reply ≡ true
accept-replies side h headers = (accepts-pass is_accepting refl (λ e. refl) (λ s. refl) side h headers).first

-- of a rejection
abbrev pub is_rejecting : Reply → Bool
is_rejecting replies.Rejected = true
is_rejecting replies.Pending = true
is_rejecting _ = false

pub reject-replies : (side : Side) (h : History) (digits : List ℕ) → is_rejecting (first_row (rejection side h digits)).reply ≡ true
reject-replies side h digits = (rejects-pass is_rejecting refl refl side h digits).first

-- ---- every other call

abbrev pub is_other : Reply → Bool
is_other (replies.Request id headers) = false
is_other (replies.Session id) = false
is_other replies.Rejected = false
is_other (replies.ConnectFailed e) = false
is_other _ = true

-- their rows' replies are such
abbrev Others : List Row → Type 0
Others rows = OfRows (Says is_other) rows

last : Others []
last = no-row (Says is_other) refl

either : (c : Bool) (r : Reply) (own : List Action) (rows : List Row) → is_other r ≡ true → Others rows → Others (row c r own ∷ rows)
either c r own rows holds fails = by-row (Says is_other) c r own rows (λ q. holds) (λ q. fails)

value : {T : Type 0} (x : Option T) (gives : T → Reply) (own : List Action) (rows : List Row) → ((y : T) → is_other (gives y) ≡ true) → Others rows → Others (row_for x gives own ∷ rows)
value x gives own rows holds fails = by-value (Says is_other) x gives own rows (λ y q. holds y) (λ q. fails)

of-session : (name : Option ℕ) (rows : ℕ → List Row) → ((s : ℕ) → Others (rows s)) → Others (in_session name rows)
of-session name rows some = by-session (Says is_other) name rows refl (λ s q. some s)

of-half : (has : Bool) (rows : List Row) → Others rows → Others (where_has has rows)
of-half has rows s = either (not has) replies.NoStream [] rows refl s

stopped-others : (h : History) (k : ℕ) (failed : StreamWriteError → Reply) (done : Reply) → ((e : StreamWriteError) → is_other (failed e) ≡ true) → is_other done ≡ true
    → Others (stopped_rows h k failed done)
stopped-others h k failed done f d =
    value (stop_of (events h) k) _ [] _ (λ y. f _) (either (is_done h k) done [] _ d (either (not (is_open h)) (failed writes.NotConnected) [] [] (f _) last))

write-others : (h : History) (k : ℕ) (rows : List Row) → Others rows → Others (write_rows h k rows)
write-others h k rows s = either (not (is_open h)) _ [] _ refl (either (is_closed h k) _ [] _ refl (value (stop_of (events h) k) _ [] _ (λ y. refl) s))

opening-others : (side : Side) (h : History) (id : ℕ) (x : Option (Option ℕ)) → Others (opening_for side h id x)
opening-others side h id None = record { first = refl }
opening-others side h id (Some name) =
    of-session (named h name) _ (λ s. either _ _ [] _ refl (either _ _ [] _ refl (either _ _ _ _ refl (either true _ _ [] (ready (is_bidirectional id)) last))))
  where
    ready : (b : Bool) → is_other (if b then replies.BiReady id else replies.SendReady id) ≡ true
    ready true = refl
    ready false = refl

other-rows : (side : Side) (h : History) (call : Call) → polls (turns.Call call) ≡ false → is_of_request (turns.Call call) ≡ false → Others (rows_of side h call)
other-rows side h (calls.Connect options lookup outcome) p q = absurd (cc p)
other-rows side h calls.Incoming p q = absurd (cc q)
other-rows side h (calls.Accept headers) p q = absurd (cc p)
other-rows side h calls.Forbidden p q = absurd (cc p)
other-rows side h calls.NotFound p q = absurd (cc p)
other-rows side h calls.TooManyRequests p q = absurd (cc p)
other-rows side h calls.Handshake p q = absurd (cc p)
other-rows side h (calls.EndpointClose code reason) p q = record { first = refl }
other-rows side h (calls.AcceptUni name) p q = of-session (named h name) _ (λ s. value (first_waiting side h (peer_uni side) s) _ [] _ (λ y. refl) (either _ _ [] [] refl last))
other-rows side h (calls.AcceptBi name) p q = of-session (named h name) _ (λ s. value (first_waiting side h (peer_bi side) s) _ [] _ (λ y. refl) (either _ _ [] [] refl last))
other-rows side h (calls.ReceiveDatagram name) p q = of-session (named h name) _ (λ s. value (first_datagram side h s) _ [] _ (λ y. refl) (either _ _ [] [] refl last))
other-rows side h (calls.OpenUni name) p q = of-session (named h name) _ (λ s. either _ _ [] _ refl (either _ _ [] _ refl (either _ _ _ [] refl last)))
other-rows side h (calls.OpenBi name) p q = of-session (named h name) _ (λ s. either _ _ [] _ refl (either _ _ [] _ refl (either _ _ _ [] refl last)))
other-rows side h (calls.PollOpening id) p q = of-session (named h None) _ (λ s. opening-others side h id (being_opened h id))
other-rows side h (calls.SendDatagram payload name) p q =
    of-session (named h name) _ (λ s. either _ _ [] _ refl (value (refused_by (length (datagram_bytes (s / 4) payload)) (datagram_fact (events h))) _ [] _ (λ e. refl) (either true _ _ [] refl last)))
other-rows side h (calls.EndSession name) p q = of-session (named h name) _ (λ s. record { first = refl })
other-rows side h (calls.MaxDatagramSize name) p q = of-session (named h name) _ (λ s. record { first = refl })
other-rows side h (calls.SessionId name) p q = of-session (named h name) _ (λ s. record { first = refl })
other-rows side h (calls.Close code reason) p q = of-session (named h None) _ (λ s. record { first = refl })
other-rows side h calls.Closed p q = of-session (named h None) _ (λ s. either _ _ [] [] refl last)
other-rows side h (calls.Write id bytes) p q = of-half (has_sending side h id) _ (write-others h id _ (either _ _ [] _ refl (either _ _ _ [] refl last)))
other-rows side h (calls.WriteAll id bytes) p q = of-half (has_sending side h id) _ (write-others h id _ (either _ _ _ _ refl (either true _ _ [] refl last)))
other-rows side h (calls.Finish id) p q = of-half (has_sending side h id) _ (either _ replies.Pending _ _ refl (stopped-others h id (λ e. replies.WriteFailed e) replies.Finished (λ e. refl) refl))
other-rows side h (calls.Stopped id) p q = of-half (has_sending side h id) _ (stopped-others h id (λ e. replies.StoppedBy e) (replies.StoppedBy writes.Closed) (λ e. refl) refl)
other-rows side h (calls.Priority id) p q = of-half (has_sending side h id) _ (either _ _ [] _ refl (either true _ [] [] refl last))
other-rows side h (calls.SetPriority id priority) p q = of-half (has_sending side h id) _ (record { first = refl })
other-rows side h (calls.ResetSend id code) p q = of-half (has_sending side h id) _ (either _ _ [] _ refl (either true _ _ [] refl last))
other-rows side h (calls.Read id size) p q =
    of-half (has_receiving side h id) _ (either _ _ [] _ refl (either _ _ [] _ refl (either _ _ [] _ refl (value (reset_code (end_of (events h) id)) _ [] _ (λ c. refl) (either _ _ [] [] refl last)))))
other-rows side h (calls.ReadExact id size) p q =
    of-half (has_receiving side h id) _ (either _ _ [] _ refl (either _ _ [] _ refl (value (reset_code (end_of (events h) id)) _ [] _ (λ c. refl) (either _ _ [] [] refl last))))
other-rows side h (calls.StopRecv id code) p q = of-half (has_receiving side h id) _ (record { first = refl })

pub other-replies : (side : Side) (h : History) (call : Call) → polls (turns.Call call) ≡ false → is_of_request (turns.Call call) ≡ false → is_other (first_row (rows_of side h call)).reply ≡ true
other-replies side h call p q = (other-rows side h call p q).first
