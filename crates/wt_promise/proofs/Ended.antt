-- Nothing goes out once the connection has ended.
use Rattle.std.specs.Prelude.{[], ◌&&◌, ◌++◌, ◌∷◌, ◌||◌, ◌≡◌, Bool, Err, List, None, Ok, Option, Result, Some, false, is_some, length, nat_le, not, take, true, ◌==◌, ℕ}
use Rattle.std.specs.List.{list_any}
use Rattle.std.proofs.Common.{◌∙◌, ap, refl}
use Rattle.std.proofs.Math.Seq.{take-nil}
use Rattle.url.specs.Parser.{parse_url}
use Rattle.wt_proto.specs.ResponseWalk.{response_walk_of}
use Rattle.wt_proto.specs.declared.response_walk.ResponseWalk.{ResponseWalk}
use Rattle.wt_turn.specs.Joined.{join_all}
use Rattle.wt_turn.specs.Reports.{end_of, is_connected, stop_of}
use Rattle.wt_turn.specs.Streams.{peer_bi, peer_uni}
use Rattle.wt_turn.specs.declared.action.Action.{Action}
use Rattle.wt_turn.specs.declared.call.Call.{Call}
use Rattle.wt_turn.specs.declared.connecting_error.ConnectingError.{ConnectingError}
use Rattle.wt_turn.specs.declared.reply.Reply.{Reply}
use Rattle.wt_turn.specs.declared.turn.Turn.{Turn}
use Rattle.wt_turn.specs.declared.stream_error.StreamWriteError.{StreamWriteError}
use Rattle.wt_wire.specs.declared.side.Side.{Side}
use Rattle.wt_wire.specs.declared.side.StreamEnd.{StreamEnd}
use Rattle.wt_wire.specs.declared.side.Side.TheVariants.{Client, Server}
use Rattle.wt_meaning.specs.Calls.{being_opened, first_datagram, first_waiting, in_session, opening_for, opening_rows, rows_of, stream_header}
use Rattle.wt_meaning.specs.Findings.{settings_came}
use Rattle.wt_meaning.specs.Halves.{finish, has_receiving, has_sending, is_closed, is_done, is_fin, priority, priority_of, read, read_exact, reset, reset_code, stopped, stopped_rows, unread, where_has, write, write_all}
use Rattle.wt_meaning.specs.Handshakes.{begin_rows, connect_on, connect_rows, head_left, is_nothing, is_opened, is_refused, is_success, lacks_credit, last_begun, next_request, poll_rows, request_rows, response_rows, response_to, send}
use Rattle.wt_meaning.specs.History.{History, contents, credit_left, ends_by, events, is_open, may_open}
use Rattle.wt_meaning.specs.Lawful.{is_client, is_first, is_lawful, may_call}
use Rattle.wt_meaning.specs.Meaning.{next, own_answer, with_pair}
use Rattle.wt_meaning.specs.Moments.{findings}
use Rattle.wt_meaning.specs.Rows.{Row, first_row, row, row_for}
use Rattle.wt_meaning.specs.Sends.{action_if, close_if_open, moment_actions}
use Rattle.wt_meaning.specs.Targets.{Target, target_of}
use Rattle.wt_meaning.specs.Windows.{is_gone, named}
use Rattle.wt_proto.specs.declared.response_walk.ResponseWalk.TheVariants as responses
use Rattle.wt_turn.specs.declared.action.Action.TheVariants as actions
use Rattle.wt_turn.specs.declared.call.Call.TheVariants as calls
use Rattle.wt_turn.specs.declared.connecting_error.ConnectingError.TheVariants as connects
use Rattle.wt_turn.specs.declared.reply.Reply.TheVariants as replies
use Rattle.wt_turn.specs.declared.stream_error.StreamReadError.TheVariants as reads
use Rattle.wt_turn.specs.declared.stream_error.StreamReadExactError.TheVariants as exacts
use Rattle.wt_turn.specs.declared.stream_error.StreamWriteError.TheVariants as writes
use Rattle.wt_turn.specs.declared.turn.Turn.TheVariants as turns
use Rattle.wt_wire.specs.declared.side.StreamEnd.TheVariants as ends

-- these rows have no action of their own
abbrev IsSilent : List Row → Type 0
IsSilent rows = (first_row rows).actions ≡ []

after-row : (c : Bool) (r : Reply) (own : List Action) (rows : List Row) → own ≡ [] → IsSilent rows → IsSilent (row c r own ∷ rows)
after-row true r own rows e s = e
after-row false r own rows e s = s

after-value : {T : Type 0} (o : Option T) (r : T → Reply) (own : List Action) (rows : List Row) → own ≡ [] → IsSilent rows → IsSilent (row_for o r own ∷ rows)
after-value None r own rows e s = s
after-value (Some x) r own rows e s = e

in-any-session : (name : Option ℕ) (rows : ℕ → List Row) → ((s : ℕ) → IsSilent (rows s)) → IsSilent (in_session name rows)
in-any-session None rows s = refl
in-any-session (Some k) rows s = s k

-- no close goes out
no-close : (h : History) (code : ℕ) → is_open h ≡ false → close_if_open h code ≡ []
no-close h code e = rw e refl

-- ---- a connect

silent-response : (side : Side) (h : History) (own : List Action) (walk : ResponseWalk) → is_open h ≡ false → own ≡ [] → IsSilent (response_rows side h own walk)
silent-response side h own (responses.Fault code) e n = rw (n, e) refl
silent-response side h own responses.Ended e n = rw (n, e) refl
silent-response side h own responses.Waiting e n = rw (n, e) refl
silent-response side h own (responses.Response fields offset) e n =
    after-row (not (is_success (responses.Response fields offset))) _ (own ++ close_if_open h 0) _ (rw (n, e) refl) (rw (n, e) refl)

silent-request : (side : Side) (h : History) (opening : List Action) (left : List ℕ) → is_open h ≡ false → opening ≡ [] → IsSilent (request_rows side h opening left)
silent-request side h opening (b ∷ left) e n = rw e refl
silent-request side h opening [] e n =
    let nothing : opening ++ send h 0 [] ≡ [] = rw (n, take-nil (credit_left h 0)) refl in
    after-row (is_refused h 0 []) (replies.ConnectFailed connects.SessionRejected) (close_if_open h 0) _ (no-close h 0 e)
    (after-row (lacks_credit h 0 []) replies.Pending (opening ++ send h 0 []) _ nothing (silent-response side h (opening ++ send h 0 []) (response_walk_of (contents h 0) (end_of (events h) 0)) e nothing))

silent-steps : (o c s d m : Bool) (reserved : Option (List ℕ)) (x y z : ConnectingError) (close : List Action) (rows : List Row) → o ≡ false → close ≡ [] → (d ≡ true → IsSilent rows)
    → IsSilent (row (not c && not o) (replies.ConnectFailed x) [] ∷ row (not c) replies.Pending [] ∷ row (not s && not o) (replies.ConnectFailed y) [] ∷ row (not s) replies.Pending []
    ∷ row_for reserved (λ (name : List ℕ). replies.ConnectFailed (connects.ReservedHeader name)) close ∷ row (not d && not o) (replies.ConnectFailed z) [] ∷ row (not d && not m) replies.Pending [] ∷ rows)
silent-steps true c s d m reserved x y z close rows e n q = absurd (cc e)
silent-steps false false s d m reserved x y z close rows e n q = refl
silent-steps false true false d m reserved x y z close rows e n q = refl
silent-steps false true true d m (Some name) x y z close rows e n q = n
silent-steps false true true false m None x y z close rows e n q = refl
silent-steps false true true true m None x y z close rows e n q = q refl

silent-connect : (side : Side) (h : History) (t : Target) → is_open h ≡ false → IsSilent (connect_rows side h t)
silent-connect side h t e =
    silent-steps (is_open h) (is_connected (events h)) (settings_came (findings side h)) (is_opened h) (may_open side h 0) t.reserved _ _ _ _ _ e (no-close h 0 e) rest
  where
    rest : is_opened h ≡ true → IsSilent (request_rows side h (action_if (not (is_opened h)) (actions.Opened 0)) (head_left h 0 t.frame))
    rest d = silent-request side h (action_if (not (is_opened h)) (actions.Opened 0)) (head_left h 0 t.frame) e (rw d refl)

-- ---- every call

silent-begin : (side : Side) (h : History) (t : Result Target ConnectingError) → is_open h ≡ false → (is_client side && is_first h) ≡ true → IsSilent (begin_rows t)
silent-begin side [] t e lawful = absurd (cc e)
silent-begin Client (p ∷ h) t e lawful = absurd (cc lawful)
silent-begin Server (p ∷ h) t e lawful = absurd (cc lawful)

silent-response-to : (side : Side) (h : History) (call : Call) → is_open h ≡ false → IsSilent (response_to side h call)
silent-response-to side h (calls.Accept headers) e = rw e refl
silent-response-to side h calls.Forbidden e = rw e refl
silent-response-to side h calls.NotFound e = rw e refl
silent-response-to side h calls.TooManyRequests e = rw e refl
silent-response-to side h call e = refl

silent-poll : (side : Side) (h : History) (begun : Option Call) → is_open h ≡ false → IsSilent (poll_rows side h begun)
silent-poll side h None e = refl
silent-poll side h (Some (calls.Connect options lookup outcome)) e = by (target_of (parse_url None options.0) options.1 lookup outcome)
  where
    by : (t : Result Target ConnectingError) → IsSilent (connect_on side h t)
    by (Err x) = refl
    by (Ok t) = silent-connect side h t e
silent-poll side h (Some call) e = silent-response-to side h call e

silent-opening : (side : Side) (h : History) (k : ℕ) (x : Option (Option ℕ)) → is_open h ≡ false → IsSilent (opening_for side h k x)
silent-opening side h k None e = refl
silent-opening side h k (Some name) e = in-any-session (named h name) (λ (s : ℕ). opening_rows side h k s (head_left h k (stream_header k s))) (λ (s : ℕ). rw e refl)

silent-half : (has : Bool) (rows : List Row) → IsSilent rows → IsSilent (where_has has rows)
silent-half true rows e = e
silent-half false rows e = refl

no-action : (h : History) (a : Action) → is_open h ≡ false → action_if (is_open h) a ≡ []
no-action h a e = rw e refl

-- a row that asks for an open connection doesn't hold
first-false : (o c s : Bool) (r : Reply) (own : List Action) (rows : List Row) → o ≡ false → IsSilent rows → IsSilent (row (o && c && s) r own ∷ rows)
first-false true c s r own rows e n = absurd (cc e)
first-false false c s r own rows e n = n

silent-stopped : (h : History) (k : ℕ) (failed : StreamWriteError → Reply) (done : Reply) → IsSilent (stopped_rows h k failed done)
silent-stopped h k failed done = by (stop_of (events h) k) (is_done h k) (is_open h)
  where
    by : (stop : Option ℕ) (d o : Bool) → IsSilent (row_for stop (λ (code : ℕ). failed (writes.Stopped code)) [] ∷ row d done [] ∷ row (not o) (failed writes.NotConnected) [] ∷ [])
    by (Some c) d o = refl
    by None true o = refl
    by None false true = refl
    by None false false = refl

silent-read : (none nothing o : Bool) (front : List ℕ) (end : StreamEnd)
    → IsSilent (row none (replies.Read (Some [])) [] ∷ row (not nothing) (replies.Read (Some front)) [] ∷ row (is_fin end) (replies.Read None) []
    ∷ row_for (reset_code end) (λ (code : ℕ). replies.ReadFailed (reads.Reset code)) [] ∷ row (not o) (replies.ReadFailed reads.NotConnected) [] ∷ [])
silent-read true nothing o front end = refl
silent-read false false o front end = refl
silent-read false true o front ends.Fin = refl
silent-read false true o front (ends.Reset c) = refl
silent-read false true true front ends.Running = refl
silent-read false true false front ends.Running = refl

silent-exact : (enough o : Bool) (front left : List ℕ) (end : StreamEnd)
    → IsSilent (row enough (replies.Exact front) [] ∷ row (is_fin end) (replies.ExactFailed (exacts.FinishedEarly (length left)) left) []
    ∷ row_for (reset_code end) (λ (code : ℕ). replies.ExactFailed (exacts.Read (reads.Reset code)) []) [] ∷ row (not o) (replies.ExactFailed (exacts.Read reads.NotConnected) []) [] ∷ [])
silent-exact true o front left end = refl
silent-exact false o front left ends.Fin = refl
silent-exact false o front left (ends.Reset c) = refl
silent-exact false true front left ends.Running = refl
silent-exact false false front left ends.Running = refl

pub silent-call : (side : Side) (h : History) (call : Call) → is_open h ≡ false → may_call side h call ≡ true → IsSilent (rows_of side h call)
silent-call side h (calls.Connect options lookup outcome) e l = silent-begin side h (target_of (parse_url None options.0) options.1 lookup outcome) e l
silent-call side h calls.Incoming e l = after-value (next_request side h) _ [] _ refl (rw e refl)
silent-call side h (calls.Accept headers) e l = silent-response-to side h (calls.Accept headers) e
silent-call side h calls.Forbidden e l = silent-response-to side h calls.Forbidden e
silent-call side h calls.NotFound e l = silent-response-to side h calls.NotFound e
silent-call side h calls.TooManyRequests e l = silent-response-to side h calls.TooManyRequests e
silent-call side h calls.Handshake e l = silent-poll side h (last_begun h) e
silent-call side h (calls.EndpointClose code reason) e l = rw e refl
silent-call side h (calls.AcceptUni name) e l = in-any-session (named h name) _ (λ (s : ℕ). after-value (first_waiting side h (peer_uni side) s) _ [] _ refl (after-row _ _ [] [] refl refl))
silent-call side h (calls.AcceptBi name) e l = in-any-session (named h name) _ (λ (s : ℕ). after-value (first_waiting side h (peer_bi side) s) _ [] _ refl (after-row _ _ [] [] refl refl))
silent-call side h (calls.ReceiveDatagram name) e l = in-any-session (named h name) _ (λ (s : ℕ). after-value (first_datagram side h s) _ [] _ refl (after-row _ _ [] [] refl refl))
silent-call side h (calls.OpenUni name) e l = in-any-session (named h name) _ (λ (s : ℕ). after-row (is_gone h (findings side h) s) _ [] _ refl (rw e refl))
silent-call side h (calls.OpenBi name) e l = in-any-session (named h name) _ (λ (s : ℕ). after-row (is_gone h (findings side h) s) _ [] _ refl (rw e refl))
silent-call side h (calls.PollOpening id) e l = in-any-session (named h None) _ (λ (s : ℕ). silent-opening side h id (being_opened h id) e)
silent-call side h (calls.SendDatagram payload name) e l = in-any-session (named h name) _ (λ (s : ℕ). rw e refl)
silent-call side h (calls.EndSession name) e l = in-any-session (named h name) _ (λ (s : ℕ). rw e refl)
silent-call side h (calls.MaxDatagramSize name) e l = in-any-session (named h name) _ (λ (s : ℕ). refl)
silent-call side h (calls.SessionId name) e l = in-any-session (named h name) _ (λ (s : ℕ). refl)
silent-call side h (calls.Close code reason) e l = in-any-session (named h None) _ (λ (s : ℕ). rw e refl)
silent-call side h calls.Closed e l = in-any-session (named h None) _ (λ (s : ℕ). after-row _ _ [] [] refl refl)
silent-call side h (calls.Write id bytes) e l = silent-half (has_sending side h id) (write h id bytes) (rw e refl)
silent-call side h (calls.WriteAll id bytes) e l = silent-half (has_sending side h id) (write_all h id bytes) (rw e refl)
silent-call side h (calls.Finish id) e l =
    silent-half (has_sending side h id) (finish h id)
    (first-false (is_open h) (not (is_closed h id)) (not (is_some (stop_of (events h) id))) replies.Pending (actions.Finish id ∷ []) _ e (silent-stopped h id (λ x. replies.WriteFailed x) replies.Finished))
silent-call side h (calls.Stopped id) e l = silent-half (has_sending side h id) (stopped h id) (silent-stopped h id (λ x. replies.StoppedBy x) (replies.StoppedBy writes.Closed))
silent-call side h (calls.Priority id) e l = silent-half (has_sending side h id) (priority h id) (after-row (is_done h id) replies.ClosedStream [] (row true (replies.Priority (priority_of h id)) [] ∷ []) refl refl)
silent-call side h (calls.SetPriority id p) e l = silent-half (has_sending side h id) (row true replies.Done [] ∷ []) refl
silent-call side h (calls.ResetSend id code) e l =
    silent-half (has_sending side h id) (reset h id code)
    (after-row (is_done h id) replies.ClosedStream [] (row true replies.Done (action_if (is_open h) (actions.ResetOut id code)) ∷ []) refl (no-action h (actions.ResetOut id code) e))
silent-call side h (calls.Read id size) e l = silent-half (has_receiving side h id) (read h id size (unread side h id)) (silent-read (size == 0) (is_nothing (unread side h id)) (is_open h) (take size (unread side h id)) (end_of (events h) id))
silent-call side h (calls.ReadExact id size) e l =
    silent-half (has_receiving side h id) (read_exact h id size (unread side h id)) (silent-exact (nat_le size (length (unread side h id))) (is_open h) (take size (unread side h id)) (unread side h id) (end_of (events h) id))
silent-call side h (calls.StopRecv id code) e l =
    silent-half (has_receiving side h id) (row true replies.Done (action_if (is_open h) (actions.StopOut id code)) ∷ []) (no-action h (actions.StopOut id code) e)

-- ---- every turn

-- a closed connection stays closed, so that nothing goes out at the moment either
pub nothing-out : (side : Side) (h : History) (turn : Turn) → is_open h ≡ false → (own_answer side h turn).actions ≡ [] → (next side h turn).actions ≡ []
nothing-out side h turn e own =
    ap (λ as_. join_all [] (as_ ++ moment_actions side (with_pair h turn (own_answer side h turn)))) own ∙ ap (λ as_. join_all [] ([] ++ as_)) closed
  where
    closed : moment_actions side (with_pair h turn (own_answer side h turn)) ≡ []
    closed = rw (stays (ends_by (record { turn = turn; answer = own_answer side h turn })) e) refl
      where
        stays : (b : Bool) → is_open h ≡ false → not (b || list_any ends_by h) ≡ false
        stays true e = refl
        stays false e = e

pub nothing-after-end : (side : Side) (h : History) (turn : Turn) → is_lawful side h turn ≡ true → is_open h ≡ false → (next side h turn).actions ≡ []
nothing-after-end side h (turns.Call call) l e = nothing-out side h (turns.Call call) e (silent-call side h call e l)
nothing-after-end side h turn l e = nothing-out side h turn e refl
