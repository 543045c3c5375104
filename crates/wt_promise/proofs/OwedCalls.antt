-- The own actions of a call are those that it owes.
use Rattle.std.specs.Prelude.{[], ◌&&◌, ◌++◌, ◌/◌, ◌==◌, ◌∷◌, ◌||◌, ◌≡◌, Bool, List, None, Option, Result, Some, false, if◌then◌else◌, is_some, length, not, true, ℕ, unwrap_or}
use Rattle.std.proofs.Common.{ap, refl, sym, ◌∙◌}
use Rattle.std.proofs.lemmas.Bool.{eqb-true, eq-eqb}
use Rattle.url.specs.Parser.{parse_url}
use Rattle.url.specs.Parts.{Parts, host_or_empty}
use Rattle.url.specs.declared.error.ParseError.{ParseError}
use Rattle.wt_wire.specs.HeaderList.{Fields}
use Rattle.wt_wire.specs.declared.lookup.ConnectOutcome.{ConnectOutcome}
use Rattle.wt_wire.specs.declared.lookup.Lookup.{Lookup}
use Rattle.wt_meaning.specs.Calls.{being_opened, first_datagram, first_waiting, in_session, is_living, open_stream, opening_for, refused_by, rows_of, stream_header}
use Rattle.wt_meaning.specs.Halves.{has_receiving, has_sending, is_closed, is_done, reset_code, sent_now, stopped_rows, where_has, write_rows}
use Rattle.wt_meaning.specs.Handshakes.{begin_rows, head_left, is_nothing, last_begun, next_request, send}
use Rattle.wt_meaning.specs.History.{History, credit_left, events, is_open, is_reset, was_finished}
use Rattle.wt_meaning.specs.Meaning.{next, own_answer}
use Rattle.wt_meaning.specs.Moments.{findings}
use Rattle.wt_meaning.specs.Rows.{Row, first_row, row, row_for}
use Rattle.wt_meaning.specs.Sends.{session_finish, session_gone_actions}
use Rattle.wt_meaning.specs.Targets.{Target, target_of}
use Rattle.wt_meaning.specs.Windows.{named}
use Rattle.wt_message.specs.Datagram.{datagram_bytes}
use Rattle.wt_promise.proofs.Shakes.{map-rows}
use Rattle.wt_promise.proofs.Accepted.{and-left, and-right}
use Rattle.wt_promise.proofs.Amounts.{all-taken, taken}
use Rattle.wt_promise.proofs.Aims.{Aim, Aimed, Refused, aim, of-aimed, of-refused}
use Rattle.wt_promise.specs.Connects.{dial_to, of_url}
use Rattle.wt_promise.proofs.HeadTests.{none-some, same-begun}
use Rattle.wt_promise.proofs.OwedShakes.{shakes-owed}
use Rattle.wt_promise.proofs.Tables.{OfRows, by-row, by-session, by-value, no-row}
use Rattle.wt_promise.specs.Owed.{owed_by_call, owed_by_end, owed_by_turn, owed_by_handshake}
use Rattle.wt_turn.specs.Joined.{send_of}
use Rattle.wt_turn.specs.Reports.{datagram_fact, end_of, is_acknowledged, stop_of}
use Rattle.wt_turn.specs.Streams.{local_bi, local_uni, peer_bi, peer_uni}
use Rattle.wt_turn.specs.declared.action.Action.{Action}
use Rattle.wt_turn.specs.declared.answer.Answer.{Answer}
use Rattle.wt_turn.specs.declared.call.Call.{Call}
use Rattle.wt_turn.specs.declared.connecting_error.ConnectingError.{ConnectingError}
use Rattle.wt_turn.specs.declared.reply.Reply.{Reply}
use Rattle.wt_turn.specs.declared.stream_error.StreamWriteError.{StreamWriteError}
use Rattle.wt_turn.specs.declared.turn.Turn.{Turn}
use Rattle.wt_wire.specs.Ids.{is_bidirectional}
use Rattle.wt_wire.specs.declared.side.Side.{Side}
use Rattle.wt_turn.specs.declared.action.Action.TheVariants as actions
use Rattle.wt_turn.specs.declared.call.Call.TheVariants as calls
use Rattle.wt_turn.specs.declared.reply.Reply.TheVariants as replies
use Rattle.wt_turn.specs.declared.stream_error.StreamWriteError.TheVariants as writes
use Rattle.wt_turn.specs.declared.turn.Turn.TheVariants as turns

-- the answer's actions are those that the call owes by its reply
abbrev pub AsOwed : Side → History → Call → Answer → Type 0
AsOwed side h call a = a.actions ≡ owed_by_call side h call a.reply

module _ (side : Side) (h : History) (call : Call) where
  abbrev P : Answer → Type 0
  P = AsOwed side h call

  -- the call owes nothing with this reply
  abbrev Free : Reply → Type 0
  Free r = [] ≡ owed_by_call side h call r

  still : (b : Bool) (r : Reply) (rows : List Row) → Free r → OfRows P rows → OfRows P (row b r [] ∷ rows)
  still b r rows n later = by-row P b r [] rows (λ q. n) (λ q. later)

  still-value : {T : Type 0} (x : Option T) (gives : T → Reply) (rows : List Row) → ((y : T) → Free (gives y)) → OfRows P rows → OfRows P (row_for x gives [] ∷ rows)
  still-value x gives rows n later = by-value P x gives [] rows (λ y q. n y) (λ q. later)

  in-any : (name : Option ℕ) (rows : ℕ → List Row) → Free replies.NoSession → ((s : ℕ) → name ≡ Some s → OfRows P (rows s)) → OfRows P (in_session name rows)
  in-any name rows n f = by-session P name rows n f

  half : (has : Bool) (rows : List Row) → Free replies.NoStream → OfRows P rows → OfRows P (where_has has rows)
  half has rows n later = still (not has) replies.NoStream rows n later

  -- one reply, and where none holds
  alone : (b : Bool) (r : Reply) → Free r → Free replies.Pending → OfRows P (row b r [] ∷ [])
  alone b r n p = still b r [] n (no-row P p)

  -- a last row that always holds
  last : (r : Reply) (own : List Action) → own ≡ owed_by_call side h call r → OfRows P (row true r own ∷ [])
  last r own e = by-row P true r own [] (λ q. e) (λ q. absurd (cc q))

  ending : (k : ℕ) (failed : StreamWriteError → Reply) (done : Reply) → ((e : StreamWriteError) → Free (failed e)) → Free done → OfRows P [] → OfRows P (stopped_rows h k failed done)
  ending k failed done n m p = still-value (stop_of (events h) k) _ _ (λ y. n _) (still (is_done h k) done _ m (still (not (is_open h)) _ [] (n _) p))

  writing : (k : ℕ) (rows : List Row) → ((e : StreamWriteError) → Free (replies.WriteFailed e)) → OfRows P rows → OfRows P (write_rows h k rows)
  writing k rows n later = still (not (is_open h)) _ _ (n _) (still (is_closed h k) _ _ (n _) (still-value (stop_of (events h) k) _ rows (λ y. n _) later))

begin-owed : (parsed : Result Parts ParseError) (headers : Fields) (lookup : Lookup) (outcome : ConnectOutcome) → Aim parsed headers lookup outcome
    → (first_row (begin_rows (target_of parsed headers lookup outcome))).actions ≡ of_url parsed lookup outcome (λ (url : Parts). dial_to (host_or_empty url) (unwrap_or url.port 443) lookup)
begin-owed parsed headers lookup outcome (Refused e p q) = ap (λ (t : Result Target ConnectingError). (first_row (begin_rows t)).actions) p ∙ sym (of-refused parsed lookup outcome e (λ (url : Parts). dial_to (host_or_empty url) (unwrap_or url.port 443) lookup) q)
begin-owed parsed headers lookup outcome (Aimed url x p u q r f d) = ap (λ (t : Result Target ConnectingError). (first_row (begin_rows t)).actions) p ∙ d ∙ sym (of-aimed parsed lookup outcome url (λ (url : Parts). dial_to (host_or_empty url) (unwrap_or url.port 443) lookup) u q)

opening-owed : (side : Side) (h : History) (id : ℕ) (x : Option (Option ℕ)) → being_opened h id ≡ x → OfRows (AsOwed side h (calls.PollOpening id)) (opening_for side h id x)
opening-owed side h id None e = last side h (calls.PollOpening id) replies.NoStream [] refl
opening-owed side h id (Some name) e =
    in-any side h (calls.PollOpening id) (named h name) _ refl
    (λ s m. still side h (calls.PollOpening id) _ _ _ refl (still side h (calls.PollOpening id) _ _ _ refl
    (by-row (AsOwed side h (calls.PollOpening id)) _ replies.Pending (send h id (left s)) _ (λ q. rw (e, m) refl)
    (λ q. last side h (calls.PollOpening id) _ (send h id (left s)) (ready s m (is_bidirectional id))))))
  where
    left : ℕ → List ℕ
    left s = head_left h id (stream_header id s)

    ready : (s : ℕ) → named h name ≡ Some s → (b : Bool) → send h id (left s) ≡ owed_by_call side h (calls.PollOpening id) (if b then replies.BiReady id else replies.SendReady id)
    ready s m true = rw (e, m, eq-eqb id id refl) refl
    ready s m false = rw (e, m, eq-eqb id id refl) refl

opens-owed : (side : Side) (h : History) (name : Option ℕ) (s : ℕ) → OfRows (AsOwed side h (calls.OpenUni name)) (open_stream side h (local_uni side) s)
opens-owed side h name s =
    still side h (calls.OpenUni name) _ _ _ refl (still side h (calls.OpenUni name) _ _ _ refl
    (by-row (AsOwed side h (calls.OpenUni name)) _ _ _ [] (λ q. refl) (λ q. no-row (AsOwed side h (calls.OpenUni name)) refl)))

opens-bi-owed : (side : Side) (h : History) (name : Option ℕ) (s : ℕ) → OfRows (AsOwed side h (calls.OpenBi name)) (open_stream side h (local_bi side) s)
opens-bi-owed side h name s =
    still side h (calls.OpenBi name) _ _ _ refl (still side h (calls.OpenBi name) _ _ _ refl
    (by-row (AsOwed side h (calls.OpenBi name)) _ _ _ [] (λ q. refl) (λ q. no-row (AsOwed side h (calls.OpenBi name)) refl)))

end-owed : (side : Side) (h : History) (name : Option ℕ) (s : ℕ) → named h name ≡ Some s
    → (if is_open h && is_living side h s then session_finish h s ++ session_gone_actions side h (findings side h) s else []) ≡ owed_by_end side h (named h name)
end-owed side h name s e =
    rw (e, sym (none-some (stop_of (events h) s))) refl

pub call-owed : (side : Side) (h : History) (call : Call) → OfRows (AsOwed side h call) (rows_of side h call)
call-owed side h (calls.Connect options lookup outcome) = record { first = begin-owed (parse_url None options.0) options.1 lookup outcome (aim (parse_url None options.0) options.1 lookup outcome) }
call-owed side h calls.Incoming = still-value side h calls.Incoming (next_request side h) _ _ (λ y. refl) (alone side h calls.Incoming _ _ refl refl)
call-owed side h (calls.Accept headers) = shakes-owed side h (Some (calls.Accept headers))
call-owed side h calls.Forbidden = shakes-owed side h (Some calls.Forbidden)
call-owed side h calls.NotFound = shakes-owed side h (Some calls.NotFound)
call-owed side h calls.TooManyRequests = shakes-owed side h (Some calls.TooManyRequests)
call-owed side h calls.Handshake = map-rows (λ a e. e ∙ ap (λ (c : Option Call). owed_by_handshake side h c a.reply) (same-begun h)) (shakes-owed side h (last_begun h))
call-owed side h (calls.EndpointClose code reason) = last side h (calls.EndpointClose code reason) replies.Done _ refl
call-owed side h (calls.AcceptUni name) = in-any side h (calls.AcceptUni name) (named h name) _ refl (λ s m. still-value side h (calls.AcceptUni name) (first_waiting side h (peer_uni side) s) _ _ (λ y. refl) (alone side h (calls.AcceptUni name) _ _ refl refl))
call-owed side h (calls.AcceptBi name) = in-any side h (calls.AcceptBi name) (named h name) _ refl (λ s m. still-value side h (calls.AcceptBi name) (first_waiting side h (peer_bi side) s) _ _ (λ y. refl) (alone side h (calls.AcceptBi name) _ _ refl refl))
call-owed side h (calls.ReceiveDatagram name) = in-any side h (calls.ReceiveDatagram name) (named h name) _ refl (λ s m. still-value side h (calls.ReceiveDatagram name) (first_datagram side h s) _ _ (λ y. refl) (alone side h (calls.ReceiveDatagram name) _ _ refl refl))
call-owed side h (calls.OpenUni name) = in-any side h (calls.OpenUni name) (named h name) _ refl (λ s m. opens-owed side h name s)
call-owed side h (calls.OpenBi name) = in-any side h (calls.OpenBi name) (named h name) _ refl (λ s m. opens-bi-owed side h name s)
call-owed side h (calls.PollOpening id) = in-any side h (calls.PollOpening id) (named h None) _ refl (λ s m. opening-owed side h id (being_opened h id) refl)
call-owed side h (calls.SendDatagram payload name) =
    in-any side h (calls.SendDatagram payload name) (named h name) _ refl
    (λ s m. still side h (calls.SendDatagram payload name) _ _ _ refl
    (still-value side h (calls.SendDatagram payload name) (refused_by (length (datagram_bytes (s / 4) payload)) (datagram_fact (events h))) _ _ (λ y. refl)
    (last side h (calls.SendDatagram payload name) replies.Done _ (rw m refl))))
call-owed side h (calls.EndSession name) = in-any side h (calls.EndSession name) (named h name) _ refl (λ s m. last side h (calls.EndSession name) replies.Done _ (end-owed side h name s m))
call-owed side h (calls.MaxDatagramSize name) = in-any side h (calls.MaxDatagramSize name) (named h name) _ refl (λ s m. last side h (calls.MaxDatagramSize name) _ _ refl)
call-owed side h (calls.SessionId name) = in-any side h (calls.SessionId name) (named h name) _ refl (λ s m. last side h (calls.SessionId name) _ _ refl)
call-owed side h (calls.Close code reason) = in-any side h (calls.Close code reason) (named h None) _ refl (λ s m. last side h (calls.Close code reason) replies.Done _ refl)
call-owed side h calls.Closed = in-any side h calls.Closed (named h None) _ refl (λ s m. alone side h calls.Closed _ _ refl refl)
call-owed side h (calls.Write id bytes) =
    half side h (calls.Write id bytes) (has_sending side h id) _ refl (writing side h (calls.Write id bytes) id _ (λ e. refl)
    (by-row P (is_nothing bytes) (replies.Written 0) [] _ (λ q. refl)
    (λ q. by-row P _ (replies.Written (sent_now h id bytes)) (send h id bytes) [] (λ x. ap (send_of id) (sym (taken (credit_left h id) bytes))) (λ x. no-row P refl))))
  where
    P : Answer → Type 0
    P = AsOwed side h (calls.Write id bytes)
call-owed side h (calls.WriteAll id bytes) =
    half side h (calls.WriteAll id bytes) (has_sending side h id) _ refl (writing side h (calls.WriteAll id bytes) id _ (λ e. refl)
    (by-row P (sent_now h id bytes == length bytes) replies.AllWritten (send h id bytes) _ (λ q. ap (send_of id) (sym (all-taken (credit_left h id) bytes (eqb-true (sent_now h id bytes) (length bytes) q))))
    (λ q. last side h (calls.WriteAll id bytes) (replies.Count (sent_now h id bytes)) (send h id bytes) (ap (send_of id) (sym (taken (credit_left h id) bytes))))))
  where
    P : Answer → Type 0
    P = AsOwed side h (calls.WriteAll id bytes)
call-owed side h (calls.Finish id) =
    half side h (calls.Finish id) (has_sending side h id) _ refl
    (by-row P (is_open h && not (is_closed h id) && not (is_some (stop_of (events h) id))) replies.Pending (actions.Finish id ∷ []) _ (λ q. first (was_finished h id) (is_reset h id) (and-right (is_open h) (not (is_closed h id)) (and-left (is_open h && not (is_closed h id)) _ q)))
    (λ q. by-value P (stop_of (events h) id) _ [] _ (λ y x. refl)
    (λ x. by-row P (is_done h id) replies.Finished [] _ (λ y. refl)
    (λ y. by-row P (not (is_open h)) _ [] [] (λ z. refl) (λ z. no-row P (again (is_open h) (was_finished h id) (is_reset h id) (stop_of (events h) id) x z y q))))))
  where
    P : Answer → Type 0
    P = AsOwed side h (calls.Finish id)

    first : (f r : Bool) → not (f || r) ≡ true → actions.Finish id ∷ [] ≡ (if not f then actions.Finish id ∷ [] else [])
    first true r e = absurd (cc e)
    first false r e = refl

    again : (o f r : Bool) (stop : Option ℕ) → stop ≡ None → not o ≡ false → (r || (f && is_acknowledged (events h) id)) ≡ false → (o && not (f || r) && not (is_some stop)) ≡ false
        → [] ≡ (if not f then actions.Finish id ∷ [] else [])
    again o true r stop x z y q = refl
    again o false true stop x z y q = absurd (cc y)
    again false false false stop x z y q = absurd (cc z)
    again true false false None x z y q = absurd (cc q)
    again true false false (Some c) x z y q = absurd (cc x)
call-owed side h (calls.Stopped id) = half side h (calls.Stopped id) (has_sending side h id) _ refl (ending side h (calls.Stopped id) id (λ e. replies.StoppedBy e) (replies.StoppedBy writes.Closed) (λ e. refl) refl (no-row (AsOwed side h (calls.Stopped id)) refl))
call-owed side h (calls.Priority id) = half side h (calls.Priority id) (has_sending side h id) _ refl (still side h (calls.Priority id) (is_done h id) replies.ClosedStream _ refl (last side h (calls.Priority id) _ _ refl))
call-owed side h (calls.SetPriority id p) = half side h (calls.SetPriority id p) (has_sending side h id) _ refl (last side h (calls.SetPriority id p) replies.Done _ refl)
call-owed side h (calls.ResetSend id code) =
    half side h (calls.ResetSend id code) (has_sending side h id) _ refl (still side h (calls.ResetSend id code) (is_done h id) replies.ClosedStream _ refl (last side h (calls.ResetSend id code) replies.Done _ refl))
call-owed side h (calls.Read id size) =
    half side h (calls.Read id size) (has_receiving side h id) _ refl
    (still side h (calls.Read id size) _ _ _ refl (still side h (calls.Read id size) _ _ _ refl (still side h (calls.Read id size) _ _ _ refl
    (still-value side h (calls.Read id size) (reset_code (end_of (events h) id)) _ _ (λ y. refl) (alone side h (calls.Read id size) _ _ refl refl)))))
call-owed side h (calls.ReadExact id size) =
    half side h (calls.ReadExact id size) (has_receiving side h id) _ refl
    (still side h (calls.ReadExact id size) _ _ _ refl (still side h (calls.ReadExact id size) _ _ _ refl
    (still-value side h (calls.ReadExact id size) (reset_code (end_of (events h) id)) _ _ (λ y. refl) (alone side h (calls.ReadExact id size) _ _ refl refl))))
call-owed side h (calls.StopRecv id code) = half side h (calls.StopRecv id code) (has_receiving side h id) _ refl (last side h (calls.StopRecv id code) replies.Done _ refl)

pub turn-owed : (side : Side) (h : History) (turn : Turn) → (own_answer side h turn).actions ≡ owed_by_turn side h turn (next side h turn).reply
turn-owed side h (turns.Call call) = (call-owed side h call).first
turn-owed side h turn = refl
