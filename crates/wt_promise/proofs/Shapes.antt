-- What the own answer of each call may be.
use Rattle.std.specs.Prelude.{[], ◌&&◌, ◌++◌, ◌/◌, ◌==◌, ◌∷◌, ◌||◌, ◌≡◌, Bool, Contains, Err, List, None, Ok, Option, Result, Some, false, if◌then◌else◌, is_some, length, not, take, true, ℕ}
use Rattle.std.specs.Option.{option_or}
use Rattle.std.proofs.Common.{ap, refl}
use Rattle.std.proofs.lemmas.Bool.{eqb-true, not-false}
use Rattle.url.specs.Parser.{parse_url}
use Rattle.wt_meaning.specs.Calls.{being_opened, first_datagram, first_waiting, in_session, is_living, open_stream, opening_for, refused_by, rows_of, stream_header}
use Rattle.wt_meaning.specs.Halves.{has_receiving, has_sending, is_closed, is_done, reset_code, sent_now, stopped_rows, where_has, write_rows}
use Rattle.wt_meaning.specs.Handshakes.{begin_rows, begun_by, head_left, is_nothing, is_refused, lacks_credit, last_begun, next_request, poll_rows, send}
use Rattle.wt_meaning.specs.History.{History, credit_left, events, hands_out, is_handed_out, is_open, is_reset, may_open, next_id, was_finished}
use Rattle.wt_meaning.specs.Lawful.{polls}
use Rattle.wt_meaning.specs.Moments.{findings}
use Rattle.wt_meaning.specs.Rows.{Row, answer, row, row_for}
use Rattle.wt_meaning.specs.Sends.{action_if, session_finish, session_gone_actions}
use Rattle.wt_meaning.specs.Targets.{Target, target_of}
use Rattle.wt_meaning.specs.Windows.{named}
use Rattle.wt_message.specs.Datagram.{datagram_bytes}
use Rattle.wt_promise.proofs.Accepted.{and-left, and-right, not-true, or-left}
use Rattle.wt_promise.proofs.Amounts.{all-taken, taken}
use Rattle.wt_promise.proofs.Shakes.{Shake, first-of, map-rows, shakes}
use Rattle.wt_promise.proofs.Tables.{OfRows, by-row, by-session, by-value, no-row}
use Rattle.wt_promise.proofs.OwnForms.{call_ends, handshake_ends, head_of, is_end}
use Rattle.wt_promise.proofs.OwnForms.{says_accepted}
use Rattle.wt_promise.specs.Promise.{accepted_by, acts_on}
use Rattle.wt_turn.specs.Reports.{datagram_fact, end_of, is_acknowledged, stop_of}
use Rattle.wt_turn.specs.Streams.{local_bi, local_uni, peer_bi, peer_uni}
use Rattle.wt_turn.specs.declared.action.Action.{Action}
use Rattle.wt_turn.specs.declared.answer.Answer.{Answer}
use Rattle.wt_turn.specs.declared.call.Call.{Call}
use Rattle.wt_turn.specs.declared.connecting_error.ConnectingError.{ConnectingError}
use Rattle.wt_turn.specs.declared.reply.Reply.{Reply}
use Rattle.wt_turn.specs.declared.stream_error.StreamWriteError.{StreamWriteError}
use Rattle.wt_turn.specs.declared.turn.Turn.{Turn}
use Rattle.wt_wire.specs.Ids.{is_bidirectional}
use Rattle.wt_wire.specs.declared.side.Side.{Side}
use Rattle.wt_wire.specs.declared.side.Side.TheVariants.{Client, Server}
use Rattle.wt_turn.specs.declared.action.Action.TheVariants as actions
use Rattle.wt_turn.specs.declared.call.Call.TheVariants as calls
use Rattle.wt_turn.specs.declared.reply.Reply.TheVariants as replies
use Rattle.wt_turn.specs.declared.stream_error.StreamWriteError.TheVariants as writes
use Rattle.wt_turn.specs.declared.turn.Turn.TheVariants as turns

-- the connect or response that the turn begins or goes on with
abbrev pub going : History → Turn → Option Call
going h turn = option_or (begun_by turn) (last_begun h)

-- the turn accepts a stream
abbrev pub is_accept : Turn → Bool
is_accept (turns.Call (calls.AcceptUni name)) = true
is_accept (turns.Call (calls.AcceptBi name)) = true
is_accept _ = false

-- the turn writes
abbrev pub writes_on : Turn → Bool
writes_on (turns.Call (calls.Write id bytes)) = true
writes_on (turns.Call (calls.WriteAll id bytes)) = true
writes_on _ = false

-- the reply accepts nothing, and hands out nothing but of an accept
abbrev pub says_nothing : Call → Reply → Bool
says_nothing c (replies.Uni id) = is_accept (turns.Call c)
says_nothing c (replies.Bi id) = is_accept (turns.Call c)
says_nothing c (replies.SendReady id) = false
says_nothing c (replies.BiReady id) = false
says_nothing c r = not (says_accepted r)

-- the action opens a stream
abbrev pub opens-some : Action → Bool
opens-some (actions.Opened id) = true
opens-some _ = false

-- it opens the next stream of a kind that this end opens
pub data NextOpened (side : Side) (h : History) (x : Action) : Type 0 where
  Next : (kind : ℕ) → ((local_uni side == kind) || (local_bi side == kind)) ≡ true → may_open side h kind ≡ true → x ≡ actions.Opened (next_id side h kind) → NextOpened side h x

-- it does nothing; one action that neither sends on a stream nor resets one; a write; an opening; the end of a half or of a
-- session; a connect or a response
pub data Shape (side : Side) (h : History) (call : Call) : Answer → Type 0 where
  Nothing : (r : Reply) → says_nothing call r ≡ true → Shape side h call (answer r [])
  Nought : Shape side h call (answer (replies.Written 0) [])
  Alone : (r : Reply) (b : Bool) (x : Action) → says_nothing call r ≡ true → ((k : ℕ) → acts_on k x ≡ false) → (is_end x ≡ true → Contains (call_ends h call) x) → (opens-some x ≡ true → NextOpened side h x) → Shape side h call (answer r (action_if b x))
  Writing : (id : ℕ) (bytes piece : List ℕ) (r : Reply) → is_handed_out h id ≡ true → is_closed h id ≡ false → piece ≡ take (credit_left h id) bytes
      → ((k : ℕ) → accepted_by k (turns.Call call) r ≡ (if id == k then piece else [])) → says_accepted r ≡ true → writes_on (turns.Call call) ≡ true → Shape side h call (answer r (send h id bytes))
  Polling : (id s : ℕ) (name : Option ℕ) (r : Reply) → call ≡ calls.PollOpening id → being_opened h id ≡ Some name → named h name ≡ Some s → is_living side h s ≡ true
      → ((k : ℕ) → hands_out k r ≡ true → (id ≡ k) × (lacks_credit h id (head_left h id (stream_header id s)) ≡ false)) → Shape side h call (answer r (send h id (head_left h id (stream_header id s))))
  Finishing : (id : ℕ) → call ≡ calls.Finish id → is_handed_out h id ≡ true → is_closed h id ≡ false → Shape side h call (answer replies.Pending (actions.Finish id ∷ []))
  Resetting : (id code : ℕ) → call ≡ calls.ResetSend id code → is_handed_out h id ≡ true → is_reset h id ≡ false → Shape side h call (answer replies.Done (action_if (is_open h) (actions.ResetOut id code)))
  Ending : (s : ℕ) (name : Option ℕ) → call ≡ calls.EndSession name → named h name ≡ Some s → is_open h ≡ true → is_living side h s ≡ true
      → Shape side h call (answer replies.Done (session_finish h s ++ session_gone_actions side h (findings side h) s))
  Handshaking : (c : Call) → polls (turns.Call call) ≡ true → going h (turns.Call call) ≡ Some c → call_ends h call ≡ handshake_ends h (Some c)
      → (a : Answer) → Shake side h c (head_of (Some c)) a → Shape side h call a

-- ---- rows

uni-local : (side : Side) → ((local_uni side == local_uni side) || (local_bi side == local_uni side)) ≡ true
uni-local Client = refl
uni-local Server = refl

bi-local : (side : Side) → ((local_uni side == local_bi side) || (local_bi side == local_bi side)) ≡ true
bi-local Client = refl
bi-local Server = refl

module _ (side : Side) (h : History) (call : Call) where
  still : (b : Bool) (r : Reply) (rows : List Row) → says_nothing call r ≡ true → OfRows (Shape side h call) rows → OfRows (Shape side h call) (row b r [] ∷ rows)
  still b r rows n later = by-row (Shape side h call) b r [] rows (λ q. Nothing r n) (λ q. later)

  still-value : {T : Type 0} (x : Option T) (gives : T → Reply) (rows : List Row) → ((y : T) → says_nothing call (gives y) ≡ true) → OfRows (Shape side h call) rows → OfRows (Shape side h call) (row_for x gives [] ∷ rows)
  still-value x gives rows n later = by-value (Shape side h call) x gives [] rows (λ y q. Nothing (gives y) (n y)) (λ q. later)

  done : OfRows (Shape side h call) []
  done = no-row (Shape side h call) (Nothing replies.Pending refl)

  one : (r : Reply) → says_nothing call r ≡ true → OfRows (Shape side h call) (row true r [] ∷ [])
  one r n = still true r [] n done

  alone : (r : Reply) (b : Bool) (x : Action) → says_nothing call r ≡ true → ((k : ℕ) → acts_on k x ≡ false) → (is_end x ≡ true → Contains (call_ends h call) x) → (opens-some x ≡ true → NextOpened side h x) → OfRows (Shape side h call) (row true r (action_if b x) ∷ [])
  alone r b x n u m s = by-row (Shape side h call) true r (action_if b x) [] (λ q. Alone r b x n u m s) (λ q. done)

  in-any : (name : Option ℕ) (rows : ℕ → List Row) → ((s : ℕ) → name ≡ Some s → OfRows (Shape side h call) (rows s)) → OfRows (Shape side h call) (in_session name rows)
  in-any name rows f = by-session (Shape side h call) name rows (Nothing replies.NoSession refl) f

  half : (has : Bool) (rows : List Row) → (has ≡ true → OfRows (Shape side h call) rows) → OfRows (Shape side h call) (where_has has rows)
  half has rows f = by-row (Shape side h call) (not has) replies.NoStream [] rows (λ q. Nothing replies.NoStream refl) (λ q. f (not-false has q))

  given : {T : Type 0} (x : Option T) (gives : T → Reply) (b : Bool) (r : Reply) → ((y : T) → says_nothing call (gives y) ≡ true) → says_nothing call r ≡ true → OfRows (Shape side h call) (row_for x gives [] ∷ row b r [] ∷ [])
  given x gives b r n m = still-value x gives _ n (still b r [] m done)

  opens : (kind s : ℕ) → ((local_uni side == kind) || (local_bi side == kind)) ≡ true → OfRows (Shape side h call) (open_stream side h kind s)
  opens kind s l =
      still _ _ _ refl (still _ _ _ refl (by-row (Shape side h call) (may_open side h kind) _ (actions.Opened (next_id side h kind) ∷ []) []
      (λ q. Alone _ true (actions.Opened (next_id side h kind)) refl (λ k. refl) (λ e. absurd (cc e)) (λ e. Next kind l q refl)) (λ q. done)))

  ending : (k : ℕ) (failed : StreamWriteError → Reply) (last : Reply) → ((e : StreamWriteError) → says_nothing call (failed e) ≡ true) → says_nothing call last ≡ true → OfRows (Shape side h call) (stopped_rows h k failed last)
  ending k failed last n m = still-value (stop_of (events h) k) _ _ (λ y. n _) (still (is_done h k) last _ m (still (not (is_open h)) _ [] (n _) done))

  writing : (k : ℕ) (rows : List Row) → (is_closed h k ≡ false → OfRows (Shape side h call) rows) → OfRows (Shape side h call) (write_rows h k rows)
  writing k rows f =
      still (not (is_open h)) _ _ refl (by-row (Shape side h call) (is_closed h k) _ [] _ (λ q. Nothing _ refl) (λ q. still-value (stop_of (events h) k) _ rows (λ y. refl) (f q)))

-- ---- openings

opening-shape : (side : Side) (h : History) (id : ℕ) (x : Option (Option ℕ)) → being_opened h id ≡ x → OfRows (Shape side h (calls.PollOpening id)) (opening_for side h id x)
opening-shape side h id None e = one side h (calls.PollOpening id) replies.NoStream refl
opening-shape side h id (Some name) e =
    in-any side h (calls.PollOpening id) (named h name) _
    (λ s m. by-row P (not (is_open h && is_living side h s)) _ [] _ (λ q. Nothing _ refl)
    (λ n. still side h (calls.PollOpening id) (is_refused h id (left s)) _ _ refl
    (by-row P (lacks_credit h id (left s)) replies.Pending (send h id (left s)) _ (λ q. Polling id s name replies.Pending refl e m (lives s n) (λ k x. absurd (cc x)))
    (λ q. by-row P true _ (send h id (left s)) [] (λ y. Polling id s name _ refl e m (lives s n) (λ k x. (ready k (is_bidirectional id) x, q))) (λ y. done side h (calls.PollOpening id))))))
  where
    P : Answer → Type 0
    P = Shape side h (calls.PollOpening id)

    left : ℕ → List ℕ
    left s = head_left h id (stream_header id s)

    lives : (s : ℕ) → not (is_open h && is_living side h s) ≡ false → is_living side h s ≡ true
    lives s n = and-right (is_open h) (is_living side h s) (not-false (is_open h && is_living side h s) n)

    ready : (k : ℕ) (b : Bool) → hands_out k (if b then replies.BiReady id else replies.SendReady id) ≡ true → id ≡ k
    ready k true x = eqb-true id k x
    ready k false x = eqb-true id k x

-- ---- every call

polled : (side : Side) (h : History) (o : Option Call) → last_begun h ≡ o → OfRows (Shape side h calls.Handshake) (poll_rows side h o)
polled side h None e = done side h calls.Handshake
polled side h (Some c) e = map-rows (Handshaking c refl e (ap (handshake_ends h) e)) (shakes side h c)

ended : (side : Side) (h : History) (name : Option ℕ) (s : ℕ) → named h name ≡ Some s → (o l : Bool) → is_open h ≡ o → is_living side h s ≡ l
    → Shape side h (calls.EndSession name) (answer replies.Done (if o && l then session_finish h s ++ session_gone_actions side h (findings side h) s else []))
ended side h name s m false l p q = Nothing replies.Done refl
ended side h name s m true false p q = Nothing replies.Done refl
ended side h name s m true true p q = Ending s name refl m p q

pub shape : (side : Side) (h : History) (call : Call) → OfRows (Shape side h call) (rows_of side h call)
shape side h (calls.Connect options lookup outcome) = begin (target_of (parse_url None options.0) options.1 lookup outcome)
  where
    begin : (t : Result Target ConnectingError) → OfRows (Shape side h (calls.Connect options lookup outcome)) (begin_rows t)
    begin (Err e) = record { first = Nothing _ refl }
    begin (Ok t) = record { first = Alone _ true (actions.Dial t.address t.name) refl (λ k. refl) (λ e. absurd (cc e)) (λ e. absurd (cc e)) }
shape side h calls.Incoming = given side h calls.Incoming (next_request side h) _ (not (is_open h)) _ (λ y. refl) refl
shape side h (calls.Accept headers) = map-rows (Handshaking (calls.Accept headers) refl refl refl) (shakes side h (calls.Accept headers))
shape side h calls.Forbidden = map-rows (Handshaking calls.Forbidden refl refl refl) (shakes side h calls.Forbidden)
shape side h calls.NotFound = map-rows (Handshaking calls.NotFound refl refl refl) (shakes side h calls.NotFound)
shape side h calls.TooManyRequests = map-rows (Handshaking calls.TooManyRequests refl refl refl) (shakes side h calls.TooManyRequests)
shape side h calls.Handshake = polled side h (last_begun h) refl
shape side h (calls.EndpointClose code reason) = alone side h (calls.EndpointClose code reason) replies.Done (is_open h) (actions.Close code reason) refl (λ k. refl) (λ e. first-of (actions.Close code reason) []) (λ e. absurd (cc e))
shape side h (calls.AcceptUni name) = in-any side h (calls.AcceptUni name) (named h name) _ (λ s m. given side h (calls.AcceptUni name) (first_waiting side h (peer_uni side) s) _ _ _ (λ y. refl) refl)
shape side h (calls.AcceptBi name) = in-any side h (calls.AcceptBi name) (named h name) _ (λ s m. given side h (calls.AcceptBi name) (first_waiting side h (peer_bi side) s) _ _ _ (λ y. refl) refl)
shape side h (calls.ReceiveDatagram name) = in-any side h (calls.ReceiveDatagram name) (named h name) _ (λ s m. given side h (calls.ReceiveDatagram name) (first_datagram side h s) _ _ _ (λ y. refl) refl)
shape side h (calls.OpenUni name) = in-any side h (calls.OpenUni name) (named h name) _ (λ s m. opens side h (calls.OpenUni name) (local_uni side) s (uni-local side))
shape side h (calls.OpenBi name) = in-any side h (calls.OpenBi name) (named h name) _ (λ s m. opens side h (calls.OpenBi name) (local_bi side) s (bi-local side))
shape side h (calls.PollOpening id) = in-any side h (calls.PollOpening id) (named h None) _ (λ s m. opening-shape side h id (being_opened h id) refl)
shape side h (calls.SendDatagram payload name) =
    in-any side h (calls.SendDatagram payload name) (named h name) _
    (λ s m. still side h (calls.SendDatagram payload name) _ _ _ refl
    (still-value side h (calls.SendDatagram payload name) (refused_by (length (datagram_bytes (s / 4) payload)) (datagram_fact (events h))) _ _ (λ y. refl)
    (alone side h (calls.SendDatagram payload name) replies.Done true (actions.DatagramOut (datagram_bytes (s / 4) payload)) refl (λ k. refl) (λ e. absurd (cc e)) (λ e. absurd (cc e)))))
shape side h (calls.EndSession name) = in-any side h (calls.EndSession name) (named h name) _ (λ s m. record { first = ended side h name s m (is_open h) (is_living side h s) refl refl })
shape side h (calls.MaxDatagramSize name) = in-any side h (calls.MaxDatagramSize name) (named h name) _ (λ s m. one side h (calls.MaxDatagramSize name) _ refl)
shape side h (calls.SessionId name) = in-any side h (calls.SessionId name) (named h name) _ (λ s m. one side h (calls.SessionId name) _ refl)
shape side h (calls.Close code reason) =
    in-any side h (calls.Close code reason) (named h None) _ (λ s m. alone side h (calls.Close code reason) replies.Done (is_open h) (actions.Close code reason) refl (λ k. refl) (λ e. first-of (actions.Close code reason) []) (λ e. absurd (cc e)))
shape side h calls.Closed = in-any side h calls.Closed (named h None) _ (λ s m. still side h calls.Closed _ _ [] refl (done side h calls.Closed))
shape side h (calls.Write id bytes) =
    half side h (calls.Write id bytes) (has_sending side h id) _
    (λ has. writing side h (calls.Write id bytes) id _ (λ n. by-row (Shape side h (calls.Write id bytes)) (is_nothing bytes) (replies.Written 0) [] _ (λ q. Nought)
    (λ q. by-row (Shape side h (calls.Write id bytes)) _ (replies.Written (sent_now h id bytes)) (send h id bytes) []
    (λ x. Writing id bytes (take (sent_now h id bytes) bytes) (replies.Written (sent_now h id bytes)) (and-left (is_handed_out h id) _ has) n (taken (credit_left h id) bytes) (λ k. refl) refl refl) (λ x. done side h (calls.Write id bytes)))))
shape side h (calls.WriteAll id bytes) =
    half side h (calls.WriteAll id bytes) (has_sending side h id) _
    (λ has. writing side h (calls.WriteAll id bytes) id _ (λ n. by-row (Shape side h (calls.WriteAll id bytes)) (sent_now h id bytes == length bytes) replies.AllWritten (send h id bytes) _
    (λ q. Writing id bytes bytes replies.AllWritten (and-left (is_handed_out h id) _ has) n (all-taken (credit_left h id) bytes (eqb-true (sent_now h id bytes) (length bytes) q)) (λ k. refl) refl refl)
    (λ q. by-row (Shape side h (calls.WriteAll id bytes)) true (replies.Count (sent_now h id bytes)) (send h id bytes) []
    (λ x. Writing id bytes (take (sent_now h id bytes) bytes) (replies.Count (sent_now h id bytes)) (and-left (is_handed_out h id) _ has) n (taken (credit_left h id) bytes) (λ k. refl) refl refl) (λ x. done side h (calls.WriteAll id bytes)))))
shape side h (calls.Finish id) =
    half side h (calls.Finish id) (has_sending side h id) _
    (λ has. by-row (Shape side h (calls.Finish id)) (is_open h && not (is_closed h id) && not (is_some (stop_of (events h) id))) replies.Pending (actions.Finish id ∷ []) _
    (λ q. Finishing id refl (and-left (is_handed_out h id) _ has) (not-true (is_closed h id) (and-right (is_open h) (not (is_closed h id)) (and-left (is_open h && not (is_closed h id)) _ q))))
    (λ q. ending side h (calls.Finish id) id (λ e. replies.WriteFailed e) replies.Finished (λ e. refl) refl))
shape side h (calls.Stopped id) = half side h (calls.Stopped id) (has_sending side h id) _ (λ has. ending side h (calls.Stopped id) id (λ e. replies.StoppedBy e) (replies.StoppedBy writes.Closed) (λ e. refl) refl)
shape side h (calls.Priority id) =
    half side h (calls.Priority id) (has_sending side h id) _ (λ has. still side h (calls.Priority id) (is_done h id) replies.ClosedStream _ refl (one side h (calls.Priority id) _ refl))
shape side h (calls.SetPriority id p) = half side h (calls.SetPriority id p) (has_sending side h id) _ (λ has. one side h (calls.SetPriority id p) replies.Done refl)
shape side h (calls.ResetSend id code) =
    half side h (calls.ResetSend id code) (has_sending side h id) _
    (λ has. by-row (Shape side h (calls.ResetSend id code)) (is_done h id) replies.ClosedStream [] _ (λ n. Nothing replies.ClosedStream refl)
    (λ n. by-row (Shape side h (calls.ResetSend id code)) true replies.Done (action_if (is_open h) (actions.ResetOut id code)) []
    (λ q. Resetting id code refl (and-left (is_handed_out h id) _ has) (or-left (is_reset h id) (was_finished h id && is_acknowledged (events h) id) n)) (λ q. done side h (calls.ResetSend id code))))
shape side h (calls.Read id size) =
    half side h (calls.Read id size) (has_receiving side h id) _
    (λ has. still side h (calls.Read id size) _ _ _ refl (still side h (calls.Read id size) _ _ _ refl (still side h (calls.Read id size) _ _ _ refl
    (given side h (calls.Read id size) (reset_code (end_of (events h) id)) _ _ _ (λ y. refl) refl))))
shape side h (calls.ReadExact id size) =
    half side h (calls.ReadExact id size) (has_receiving side h id) _
    (λ has. still side h (calls.ReadExact id size) _ _ _ refl (still side h (calls.ReadExact id size) _ _ _ refl
    (given side h (calls.ReadExact id size) (reset_code (end_of (events h) id)) _ _ _ (λ y. refl) refl)))
shape side h (calls.StopRecv id code) =
    half side h (calls.StopRecv id code) (has_receiving side h id) _
    (λ has. alone side h (calls.StopRecv id code) replies.Done (is_open h) (actions.StopOut id code) refl (λ k. refl) (λ e. first-of (actions.StopOut id code) []) (λ e. absurd (cc e)))
