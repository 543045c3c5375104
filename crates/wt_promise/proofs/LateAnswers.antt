-- After the end, what a call is answered is the same of two histories of which answers ask the same.
use Rattle.wt_promise.proofs.Statements.{OfTransport}
use Rattle.std.specs.Prelude.{[], ◌%◌, ◌&&◌, ◌++◌, ◌+◌, ◌==◌, ◌∷◌, ◌||◌, ◌≡◌, Bool, Err, List, None, Ok, Option, Result, Some, drop, false, filter, filter_map, if◌then◌else◌, is_some, length, nat_lt, not, take, true, ℕ}
use Rattle.std.specs.List.{list_any}
use Rattle.std.proofs.Common.{◌∙◌, ap, refl, subst, sym}
use Rattle.url.specs.Parser.{parse_url}
use Rattle.wt_meaning.specs.Calls.{accept, being_opened, closed_by, ended_row, first_datagram, first_waiting, in_session, is_living, open_stream, opening_for, receive, rows_of, session_error, session_error_with}
use Rattle.wt_meaning.specs.Findings.{Finding, fault_of, first_of, settings_came, verdict_of}
use Rattle.wt_meaning.specs.Halves.{body_start, finish, has_receiving, has_sending, is_closed, is_done, stopped_rows, unread, was_read, where_has}
use Rattle.wt_meaning.specs.Handshakes.{connect_ended, connect_lost, connect_on, connect_rows, driver_error, fault_error, head_left, is_nothing, is_opened, is_refused, lacks_credit, last_begun, loss_error, next_request, poll_rows, request_rows, response_rows, response_to, send, transport_error, was_given}
use Rattle.wt_meaning.specs.History.{History, Pair, allowed, contents, credit_left, events, is_given_up, is_handed_out, is_open, is_reset, may_open, stream_count, was_finished}
use Rattle.wt_meaning.specs.Meaning.{after_bytes, answer_to, bytes_actions, completed, history_after, meaning_from, next, own_answer, step, with_pair}
use Rattle.wt_meaning.specs.Moments.{findings}
use Rattle.wt_meaning.specs.Rows.{Row, answer, first_row, row, row_for}
use Rattle.wt_meaning.specs.Sends.{action_if, actions_for_all, close_if_open, control_actions, moment_actions}
use Rattle.wt_meaning.specs.Targets.{Target, target_of}
use Rattle.wt_meaning.specs.Windows.{admitted_datagram, admitted_stream, is_established, is_gone, makes_gone, named, queued_request, waiting_datagrams, waiting_streams}
use Rattle.wt_promise.proofs.LateTurns.{Same, later, named-same, now, still-shut}
use Rattle.wt_proto.specs.ResponseWalk.{response_walk_of}
use Rattle.wt_proto.specs.declared.response_walk.ResponseWalk.{ResponseWalk}
use Rattle.wt_turn.specs.Joined.{join_all, send_of}
use Rattle.wt_turn.specs.Reports.{end_of, is_acknowledged, is_connected, loss_of, stop_of}
use Rattle.wt_turn.specs.Sent.{is_finished, sent_on}
use Rattle.wt_turn.specs.Streams.{local_bi, local_count, local_uni, peer_bi, peer_uni}
use Rattle.wt_turn.specs.Log.{Event}
use Rattle.wt_turn.specs.Turns.{is_call}
use Rattle.wt_turn.specs.declared.action.Action.{Action}
use Rattle.wt_turn.specs.declared.answer.Answer.{Answer}
use Rattle.wt_turn.specs.declared.call.Call.{Call}
use Rattle.wt_turn.specs.declared.connecting_error.ConnectingError.{ConnectingError}
use Rattle.wt_turn.specs.declared.connection_error.ConnectionError.{ConnectionError}
use Rattle.wt_turn.specs.declared.reply.Reply.{Reply}
use Rattle.wt_turn.specs.declared.stream_error.StreamWriteError.{StreamWriteError}
use Rattle.wt_turn.specs.declared.turn.Turn.{Turn}
use Rattle.wt_wire.specs.HeaderList.{Fields}
use Rattle.wt_wire.specs.declared.error.ErrorCode.{ErrorCode}
use Rattle.wt_wire.specs.declared.side.Side.{Side}
use Rattle.wt_proto.specs.declared.response_walk.ResponseWalk.TheVariants as responses
use Rattle.wt_turn.specs.declared.action.Action.TheVariants as actions
use Rattle.wt_turn.specs.declared.call.Call.TheVariants as calls
use Rattle.wt_turn.specs.declared.connecting_error.ConnectingError.TheVariants as connects
use Rattle.wt_turn.specs.declared.connection_error.ConnectionError.TheVariants as errors
use Rattle.wt_turn.specs.declared.reply.Reply.TheVariants as replies
use Rattle.wt_turn.specs.declared.stream_error.StreamWriteError.TheVariants as writes
use Rattle.wt_turn.specs.declared.turn.Turn.TheVariants as turns

pub filter-same : {T : Type 0} (f g : T → Bool) → ((x : T) → f x ≡ g x) → (xs : List T) → filter f xs ≡ filter g xs
filter-same f g e [] = refl
filter-same {T = T} f g e (x ∷ xs) = by (f x) (g x) (e x) (filter-same f g e xs)
  where
    by : (a b : Bool) → a ≡ b → filter f xs ≡ filter g xs → (if a then x ∷ filter f xs else filter f xs) ≡ (if b then x ∷ filter g xs else filter g xs)
    by true true q r = ap (λ (l : List T). x ∷ l) r
    by false false q r = r
    by true false q r = absurd (cc q)
    by false true q r = absurd (cc q)

pub first-same : {S T : Type 0} (f g : S → Option T) → ((x : S) → f x ≡ g x) → (xs : List S) → first_of f xs ≡ first_of g xs
first-same f g e [] = refl
first-same f g e (x ∷ xs) = rw (e x, first-same f g e xs) refl

no-moment : (side : Side) (x : History) → is_open x ≡ false → (turn : Turn) (a : Answer) → moment_actions side (with_pair x turn a) ≡ []
no-moment side x e turn a =
    ap (λ (b : Bool). if b then control_actions side (q ∷ x) ++ actions_for_all side (q ∷ x) (findings side x) (drop (length (findings side x)) (findings side (q ∷ x))) else []) (still-shut q x e)
  where
    q : Pair
    q = record { turn = turn; answer = a }

module _ (side : Side) (h g : History) (s : Same side h g) where
  handed-out : (k : ℕ) → is_handed_out g k ≡ is_handed_out h k
  handed-out k = s.handed k

  gone-found : (t : ℕ) → is_gone g (findings side g) t ≡ is_gone h (findings side h) t
  gone-found t = rw (s.gone t, s.found) refl

  living : (t : ℕ) → is_living side g t ≡ is_living side h t
  living t = ap (λ (b : Bool). b && not (is_gone g (findings side g) t)) (ap (list_any (λ (id : ℕ). id == t)) s.established) ∙ ap (λ (b : Bool). is_established h t && not b) (gone-found t)

  lost-same : transport_error g ≡ transport_error h
  lost-same = ap (λ (es : List Event). loss_error (loss_of es)) s.events_same

  end-same : driver_error side g ≡ driver_error side h
  end-same = ap (λ (f : List Finding). fault_error g (fault_of f)) s.found ∙ by (fault_of (findings side h))
    where
      by : (o : Option ErrorCode) → fault_error g o ≡ fault_error h o
      by None = lost-same
      by (Some code) = refl

  session-end : (t : ℕ) → session_error side g t ≡ session_error side h t
  session-end t = ap (λ (f : List Finding). session_error_with side g t (first_of (closed_by t) f)) s.found ∙ by (first_of (closed_by t) (findings side h))
    where
      by : (o : Option ConnectionError) → session_error_with side g t o ≡ session_error_with side h t o
      by None = ap (λ (b : Bool). if b then errors.LocallyClosed else driver_error side g) (gone-found t) ∙ ap (λ (e : ConnectionError). if is_gone h (findings side h) t then errors.LocallyClosed else e) end-same
      by (Some e) = refl

  waiting : waiting_streams g (findings side g) ≡ waiting_streams h (findings side h)
  waiting =
      ap (λ (f : List Finding). waiting_streams g f) s.found
      ∙ filter-same (λ (w : ℕ × ℕ). not (is_handed_out g w.0) && not (is_gone g (findings side h) w.1)) (λ (w : ℕ × ℕ). not (is_handed_out h w.0) && not (is_gone h (findings side h) w.1))
      (λ w. ap (λ (b : Bool). not b && not (is_gone g (findings side h) w.1)) (handed-out w.0) ∙ ap (λ (b : Bool). not (is_handed_out h w.0) && not (b || list_any (makes_gone w.1) (findings side h))) (s.gone w.1))
      (filter_map admitted_stream (findings side h))

  next-stream : (kind t : ℕ) → first_waiting side g kind t ≡ first_waiting side h kind t
  next-stream kind t = ap (first_of (λ (w : ℕ × ℕ). if w.0 % 4 == kind && w.1 == t then Some w.0 else None)) waiting

  next-datagram : (t : ℕ) → first_datagram side g t ≡ first_datagram side h t
  next-datagram t =
      ap (λ (b : Bool). if b then None else first_of (λ (d : ℕ × List ℕ). Some d.1) (waiting_datagrams g (findings side g) t)) (gone-found t)
      ∙ ap (λ (ds : List (ℕ × List ℕ)). if is_gone h (findings side h) t then None else first_of (λ (d : ℕ × List ℕ). Some d.1) ds)
      (ap (λ (f : List Finding). waiting_datagrams g f t) s.found ∙ ap (λ (n : ℕ). drop n (filter (λ (d : ℕ × List ℕ). d.0 == t) (filter_map admitted_datagram (findings side h)))) (s.received t))

  next-asked : next_request side g ≡ next_request side h
  next-asked =
      ap (λ (f : List Finding). if settings_came f then first_of (λ (q : ℕ × Fields). if was_given g q.0 then None else Some q) (filter_map queued_request f) else None) s.found
      ∙ ap (λ (o : Option (ℕ × Fields)). if settings_came (findings side h) then o else None)
      (first-same (λ (q : ℕ × Fields). if was_given g q.0 then None else Some q) (λ (q : ℕ × Fields). if was_given h q.0 then None else Some q)
      (λ q. ap (λ (l : List ℕ). if list_any (λ (id : ℕ). id == q.0) l then None else Some q) s.asked) (filter_map queued_request (findings side h)))

  being-same : (k : ℕ) → being_opened g k ≡ being_opened h k
  being-same k = rw (s.over k, s.opened k) refl

  reset-same : (k : ℕ) → is_reset g k ≡ is_reset h k
  reset-same k = rw (s.actions_same, s.resets k) refl

  done-same : (k : ℕ) → is_done g k ≡ is_done h k
  done-same k = ap (λ (b : Bool). b || (was_finished g k && is_acknowledged (events g) k)) (reset-same k) ∙ ap (λ (as_ : List Action). is_reset h k || (is_finished as_ k && is_acknowledged (events g) k)) s.actions_same
      ∙ ap (λ (es : List Event). is_reset h k || (was_finished h k && is_acknowledged es k)) s.events_same

  unread-same : (k : ℕ) → unread side g k ≡ unread side h k
  unread-same k =
      ap (λ (f : List Finding). drop (body_start (verdict_of f k) + length (was_read g k)) (contents g k)) s.found
      ∙ ap (λ (l : List ℕ). drop (body_start (verdict_of (findings side h) k) + length l) (contents g k)) (s.reads k)
      ∙ ap (drop (body_start (verdict_of (findings side h) k) + length (was_read h k))) (s.contents_same k)

  sending-same : (k : ℕ) → has_sending side g k ≡ has_sending side h k
  sending-same k = ap (λ (b : Bool). b && not (k % 4 == peer_uni side)) (handed-out k)

  receiving-same : (k : ℕ) → has_receiving side g k ≡ has_receiving side h k
  receiving-same k = ap (λ (b : Bool). b && not (k % 4 == local_uni side) && not (is_given_up g k)) (handed-out k) ∙ ap (λ (b : Bool). is_handed_out h k && not (k % 4 == local_uni side) && not b) (s.stops k)

  -- ---- rows

  abbrev Alike : List Row → List Row → Type 0
  Alike rs ks = first_row rs ≡ first_row ks

  in-both : (name : Option ℕ) (f k : ℕ → List Row) → ((t : ℕ) → Alike (f t) (k t)) → Alike (in_session (named g name) f) (in_session (named h name) k)
  in-both name f k e = ap (λ (o : Option ℕ). first_row (in_session o f)) (named-same side h g s name) ∙ by (named h name)
    where
      by : (o : Option ℕ) → Alike (in_session o f) (in_session o k)
      by None = refl
      by (Some t) = e t

  half-both : (a b : Bool) (rs ks : List Row) → a ≡ b → Alike rs ks → Alike (where_has a rs) (where_has b ks)
  half-both true true rs ks q e = e
  half-both false false rs ks q e = refl
  half-both true false rs ks q e = absurd (cc q)
  half-both false true rs ks q e = absurd (cc q)

  ended-both : (t : ℕ) → ended_row side g t ≡ ended_row side h t
  ended-both t = ap (λ (b : Bool). row (not b) (replies.Failed (session_error side g t)) []) (rw (s.shut, s.shut_too) (both (is_living side g t) (is_living side h t))) ∙ ap (λ (e : ConnectionError). row (not (is_living side h t && is_open h)) (replies.Failed e) []) (session-end t)
    where
      both : (a b : Bool) → (a && false) ≡ (b && false)
      both true true = refl
      both true false = refl
      both false true = refl
      both false false = refl

  accept-both : (kind : ℕ) (given : ℕ → Reply) (t : ℕ) → Alike (accept side g kind given t) (accept side h kind given t)
  accept-both kind given t = ap (λ (o : Option ℕ). first_row (row_for o given [] ∷ ended_row side g t ∷ [])) (next-stream kind t) ∙ ap (λ (r : Row). first_row (row_for (first_waiting side h kind t) given [] ∷ r ∷ [])) (ended-both t)

  receive-both : (t : ℕ) → Alike (receive side g t) (receive side h t)
  receive-both t = ap (λ (o : Option (List ℕ)). first_row (row_for o (λ (payload : List ℕ). replies.Datagram payload) [] ∷ ended_row side g t ∷ [])) (next-datagram t)
      ∙ ap (λ (r : Row). first_row (row_for (first_datagram side h t) (λ (payload : List ℕ). replies.Datagram payload) [] ∷ r ∷ [])) (ended-both t)

  open-both : (kind t : ℕ) → Alike (open_stream side g kind t) (open_stream side h kind t)
  open-both kind t = rw (gone-found t, session-end t, s.shut, s.shut_too, lost-same) refl

  response-both : (c : Call) → Alike (response_to side g c) (response_to side h c)
  response-both (calls.Accept headers) = rw (s.shut, s.shut_too, lost-same) refl
  response-both calls.Forbidden = rw (s.shut, s.shut_too) refl
  response-both calls.NotFound = rw (s.shut, s.shut_too) refl
  response-both calls.TooManyRequests = rw (s.shut, s.shut_too) refl
  response-both c = refl

  opening-both : (k : ℕ) (o : Option (Option ℕ)) → Alike (opening_for side g k o) (opening_for side h k o)
  opening-both k None = refl
  opening-both k (Some name) = in-both name _ _ (λ t. rw (s.shut, s.shut_too) refl)

  stopped-both : (k : ℕ) (failed : StreamWriteError → Reply) (over : Reply) → Alike (stopped_rows g k failed over) (stopped_rows h k failed over)
  stopped-both k failed over = rw (done-same k, s.events_same, s.shut, s.shut_too) refl

  -- a connect
  credit-same : (k : ℕ) → credit_left g k ≡ credit_left h k
  credit-same k = rw (s.events_same, s.actions_same) refl

  response-rows : (own : List Action) (walk : ResponseWalk) → response_rows side g own walk ≡ response_rows side h own walk
  response-rows own (responses.Fault code) = rw (s.shut, s.shut_too, end-same) refl
  response-rows own responses.Ended = rw (s.shut, s.shut_too, lost-same, end-same) refl
  response-rows own responses.Waiting = rw (s.shut, s.shut_too, lost-same, end-same) refl
  response-rows own (responses.Response fields offset) = rw (s.shut, s.shut_too, end-same) refl

  -- the rows of a request, of what they ask
  abbrev asking : List Action → List ℕ → Reply → Bool → ℕ → List Row → List Row
  asking first left lost stopped credit rows =
      row (not (is_nothing left) && not false) lost [] ∷ row (stopped && not (is_nothing left)) (replies.ConnectFailed connects.SessionRejected) [] ∷ row (not (is_nothing (drop credit left))) replies.Pending (first ++ send_of 0 (take credit left)) ∷ rows

  asks : (x : History) → is_open x ≡ false → (first : List Action) (left : List ℕ) → request_rows side x first left
      ≡ asking first left (connect_lost x) (is_some (stop_of (events x) 0)) (credit_left x 0) (response_rows side x (first ++ send_of 0 (take (credit_left x 0) left)) (response_walk_of (contents x 0) (end_of (events x) 0)))
  asks x o first left = ap
      (λ (b : Bool). row (not (is_nothing left) && not b) (connect_lost x) [] ∷ row (is_refused x 0 left) (replies.ConnectFailed connects.SessionRejected) (action_if b (actions.Close 0 [])) ∷ row (lacks_credit x 0 left) replies.Pending (first ++ send x 0 left)
      ∷ response_rows side x (first ++ send x 0 left) (response_walk_of (contents x 0) (end_of (events x) 0))) o

  request-both : (first : List Action) (left : List ℕ) → request_rows side g first left ≡ request_rows side h first left
  request-both first left =
      asks g s.shut_too first left
      ∙ ap (λ (e : ConnectionError). asking first left (replies.ConnectFailed (connects.ConnectionError e)) (is_some (stop_of (events g) 0)) (credit_left g 0) (response_rows side g (first ++ send_of 0 (take (credit_left g 0) left)) (response_walk_of (contents g 0) (end_of (events g) 0)))) lost-same
      ∙ ap (λ (es : List Event). asking first left (connect_lost h) (is_some (stop_of es 0)) (credit_left g 0) (response_rows side g (first ++ send_of 0 (take (credit_left g 0) left)) (response_walk_of (contents g 0) (end_of es 0)))) s.events_same
      ∙ ap (λ (n : ℕ). asking first left (connect_lost h) (is_some (stop_of (events h) 0)) n (response_rows side g (first ++ send_of 0 (take n left)) (response_walk_of (contents g 0) (end_of (events h) 0)))) (credit-same 0)
      ∙ ap (λ (bytes : List ℕ). asking first left (connect_lost h) (is_some (stop_of (events h) 0)) (credit_left h 0) (response_rows side g (first ++ send_of 0 (take (credit_left h 0) left)) (response_walk_of bytes (end_of (events h) 0)))) (s.contents_same 0)
      ∙ ap (asking first left (connect_lost h) (is_some (stop_of (events h) 0)) (credit_left h 0)) (response-rows (first ++ send_of 0 (take (credit_left h 0) left)) (response_walk_of (contents h 0) (end_of (events h) 0)))
      ∙ sym (asks h s.shut first left)

  rest-both : (frame : List ℕ) → request_rows side g (action_if (not (is_opened g)) (actions.Opened 0)) (head_left g 0 frame) ≡ request_rows side h (action_if (not (is_opened h)) (actions.Opened 0)) (head_left h 0 frame)
  rest-both frame =
      ap (λ (as_ : List Action). request_rows side g (action_if (not (not (local_count as_ 0 == 0))) (actions.Opened 0)) (drop (length (sent_on as_ 0)) frame)) s.actions_same
      ∙ request-both (action_if (not (is_opened h)) (actions.Opened 0)) (head_left h 0 frame)

  connect-both : (t : Target) → Alike (connect_rows side g t) (connect_rows side h t)
  connect-both t = ap first_row (here ∙ ap (front h) (rest-both t.frame))
    where
      -- the steps in front of the request
      front : History → List Row → List Row
      front x rows =
          row (not (is_connected (events x)) && not (is_open x)) (connect_lost x) []
          ∷ row (not (is_connected (events x))) replies.Pending []
          ∷ row (not (settings_came (findings side x)) && not (is_open x)) (connect_ended side x) []
          ∷ row (not (settings_came (findings side x))) replies.Pending []
          ∷ row_for t.reserved (λ (name : List ℕ). replies.ConnectFailed (connects.ReservedHeader name)) (close_if_open x 0)
          ∷ row (not (is_opened x) && not (is_open x)) (connect_lost x) []
          ∷ row (not (is_opened x) && not (may_open side x 0)) replies.Pending []
          ∷ rows

      may-not : (x : History) → is_open x ≡ false → may_open side x 0 ≡ false
      may-not x e = ap (λ (b : Bool). b && nat_lt (stream_count side x 0) (allowed side (events x) 0)) e

      same-front : (rows : List Row) → front g rows ≡ front h rows
      same-front rows = rw (may-not g s.shut_too, may-not h s.shut, s.shut, s.shut_too, end-same, lost-same, s.found, s.events_same, s.actions_same) refl

      here : connect_rows side g t ≡ front h (request_rows side g (action_if (not (is_opened g)) (actions.Opened 0)) (head_left g 0 t.frame))
      here = same-front (request_rows side g (action_if (not (is_opened g)) (actions.Opened 0)) (head_left g 0 t.frame))

  poll-both : (o : Option Call) → Alike (poll_rows side g o) (poll_rows side h o)
  poll-both None = refl
  poll-both (Some (calls.Connect options lookup outcome)) = by (target_of (parse_url None options.0) options.1 lookup outcome)
    where
      by : (t : Result Target ConnectingError) → Alike (connect_on side g t) (connect_on side h t)
      by (Err e) = refl
      by (Ok t) = connect-both t
  poll-both (Some c) = response-both c

  rows-both : (c : Call) → Alike (rows_of side g c) (rows_of side h c)
  rows-both (calls.Connect options lookup outcome) = refl
  rows-both calls.Incoming = rw (next-asked, end-same, s.shut, s.shut_too) refl
  rows-both calls.Handshake = ap (λ (o : Option Call). first_row (poll_rows side g o)) s.begun ∙ poll-both (last_begun h)
  rows-both (calls.EndpointClose code reason) = rw (s.shut, s.shut_too) refl
  rows-both (calls.AcceptUni name) = in-both name _ _ (accept-both (peer_uni side) replies.Uni)
  rows-both (calls.AcceptBi name) = in-both name _ _ (accept-both (peer_bi side) replies.Bi)
  rows-both (calls.ReceiveDatagram name) = in-both name _ _ receive-both
  rows-both (calls.OpenUni name) = in-both name _ _ (open-both (local_uni side))
  rows-both (calls.OpenBi name) = in-both name _ _ (open-both (local_bi side))
  rows-both (calls.PollOpening id) = in-both None _ _ (λ t. ap (λ (o : Option (Option ℕ)). first_row (opening_for side g id o)) (being-same id) ∙ opening-both id (being_opened h id))
  rows-both (calls.SendDatagram payload name) = in-both name _ _ (λ t. rw (s.shut, s.shut_too) refl)
  rows-both (calls.MaxDatagramSize name) = in-both name _ _ (λ t. rw s.events_same refl)
  rows-both (calls.SessionId name) = in-both name _ _ (λ t. refl)
  rows-both (calls.EndSession name) = in-both name _ _ (λ t. rw (s.shut, s.shut_too) refl)
  rows-both (calls.Close code reason) = in-both None _ _ (λ t. rw (s.shut, s.shut_too) refl)
  rows-both calls.Closed = in-both None _ _ (λ t. rw (s.shut, s.shut_too, lost-same) refl)
  rows-both (calls.Write id bytes) = half-both _ _ _ _ (sending-same id) (rw (s.shut, s.shut_too) refl)
  rows-both (calls.WriteAll id bytes) = half-both _ _ _ _ (sending-same id) (rw (s.shut, s.shut_too) refl)
  rows-both (calls.Finish id) = half-both _ _ _ _ (sending-same id) (shut-finish g s.shut_too ∙ stopped-both id (λ e. replies.WriteFailed e) replies.Finished ∙ sym (shut-finish h s.shut))
    where
      shut-finish : (x : History) → is_open x ≡ false → first_row (finish x id) ≡ first_row (stopped_rows x id (λ e. replies.WriteFailed e) replies.Finished)
      shut-finish x o = ap (λ (b : Bool). first_row (row (b && not (is_closed x id) && not (is_some (stop_of (events x) id))) replies.Pending (actions.Finish id ∷ []) ∷ stopped_rows x id (λ e. replies.WriteFailed e) replies.Finished)) o
  rows-both (calls.Stopped id) = half-both _ _ _ _ (sending-same id) (stopped-both id (λ e. replies.StoppedBy e) (replies.StoppedBy writes.Closed))
  rows-both (calls.Priority id) = half-both _ _ _ _ (sending-same id) (rw (done-same id, s.priorities id) refl)
  rows-both (calls.SetPriority id p) = half-both _ _ _ _ (sending-same id) refl
  rows-both (calls.ResetSend id code) = half-both _ _ _ _ (sending-same id) (rw (done-same id, s.shut, s.shut_too) refl)
  rows-both (calls.Read id size) = half-both _ _ _ _ (receiving-same id) (rw (unread-same id, s.events_same, s.shut, s.shut_too) refl)
  rows-both (calls.ReadExact id size) = half-both _ _ _ _ (receiving-same id) (rw (unread-same id, s.events_same, s.shut, s.shut_too) refl)
  rows-both (calls.StopRecv id code) = half-both _ _ _ _ (receiving-same id) (rw (s.shut, s.shut_too) refl)
  rows-both c = response-both c

  own-both : (turn : Turn) → own_answer side g turn ≡ own_answer side h turn
  own-both (turns.Call c) = rows-both c
  own-both turn = refl

  pub next-both : (turn : Turn) → next side g turn ≡ next side h turn
  next-both turn =
      ap (λ (own : Answer). completed side g turn own) (own-both turn)
      ∙ ap (λ (as_ : List Action). answer (own_answer side h turn).reply (join_all [] ((own_answer side h turn).actions ++ as_)))
      (no-moment side g s.shut_too turn (own_answer side h turn) ∙ sym (no-moment side h s.shut turn (own_answer side h turn)))

-- ---- lists

same-step : (side : Side) (h g : History) (turn : Turn) → Same side h g → Same side (step side h turn) (step side g turn)
same-step side h g turn s = subst (λ (a : Answer). Same side (step side h turn) (with_pair g turn a)) (sym (next-both side h g s turn)) (later side h g (record { turn = turn; answer = next side h turn }) s)

bytes-both : (side : Side) (k : ℕ) (piece : List ℕ) (h g : History) → Same side h g → (Same side (after_bytes side h k piece) (after_bytes side g k piece)) × (bytes_actions side g k piece ≡ bytes_actions side h k piece)
bytes-both side k [] h g s = (s, refl)
bytes-both side k (b ∷ piece) h g s =
    let r = bytes-both side k piece (step side h (turns.Bytes k (b ∷ []))) (step side g (turns.Bytes k (b ∷ []))) (same-step side h g (turns.Bytes k (b ∷ [])) s) in (
      r.0,
      ap (λ (a : Answer). join_all a.actions (bytes_actions side (step side g (turns.Bytes k (b ∷ []))) k piece)) (next-both side h g s (turns.Bytes k (b ∷ [])))
          ∙ ap (join_all (next side h (turns.Bytes k (b ∷ []))).actions) r.1,
    )

turn-both : (side : Side) (h g : History) (turn : Turn) → Same side h g → (Same side (history_after side h turn) (history_after side g turn)) × (answer_to side g turn ≡ answer_to side h turn)
turn-both side h g (turns.Bytes k piece) s = let r = bytes-both side k piece h g s in (r.0, ap (answer replies.Done) r.1)
turn-both side h g turn s = (same-step side h g turn s, next-both side h g s turn)

list-both : (side : Side) (all : List Turn) (h g : History) → Same side h g → meaning_from side g all ≡ meaning_from side h all
list-both side [] h g s = refl
list-both side (turn ∷ all) h g s =
    let r = turn-both side h g turn s in
    ap (λ (a : Answer). a ∷ meaning_from side (history_after side g turn) all) r.1 ∙ ap (λ (as_ : List Answer). answer_to side h turn ∷ as_) (list-both side all (history_after side h turn) (history_after side g turn) r.0)

-- ---- a turn of the transport

silent-turn : (side : Side) (h : History) (turn : Turn) → is_call turn ≡ false → is_open h ≡ false → next side h turn ≡ answer replies.Done []
silent-turn side h (turns.Call c) e o = absurd (cc e)
silent-turn side h turn e o = ap (λ (as_ : List Action). answer replies.Done (join_all [] ([] ++ as_))) (no-moment side h o turn (answer replies.Done []))

late-turn : (side : Side) (h : History) (turn : Turn) → is_call turn ≡ false → is_open h ≡ false → (all : List Turn) → meaning_from side (step side h turn) all ≡ meaning_from side h all
late-turn side h turn e o all = list-both side all h (step side h turn) (subst (λ (a : Answer). Same side h (with_pair h turn a)) (sym (silent-turn side h turn e o)) (now side h turn o e))

late-piece : (side : Side) (k : ℕ) (piece : List ℕ) (h : History) → is_open h ≡ false → (bytes_actions side h k piece ≡ []) × ((later : List Turn) → meaning_from side (after_bytes side h k piece) later ≡ meaning_from side h later)
late-piece side k [] h o = (refl, λ l. refl)
late-piece side k (b ∷ piece) h o =
    let q = silent-turn side h (turns.Bytes k (b ∷ [])) refl o in
    let r = late-piece side k piece (step side h (turns.Bytes k (b ∷ []))) (still-shut (record { turn = turns.Bytes k (b ∷ []); answer = next side h (turns.Bytes k (b ∷ [])) }) h o) in
    (ap (λ (a : Answer). join_all a.actions (bytes_actions side (step side h (turns.Bytes k (b ∷ []))) k piece)) q ∙ ap (join_all []) r.0, λ l. r.1 l ∙ late-turn side h (turns.Bytes k (b ∷ [])) refl o l)

pub of_transport : (side : Side) (h : History) (turn : Turn) → is_call turn ≡ false → OfTransport side h turn
of_transport side h (turns.Call c) e = absurd (cc e)
of_transport side h (turns.Bytes k piece) e = record { done = refl; silent = λ o. (late-piece side k piece h o).0; alike = λ o. (late-piece side k piece h o).1 }
of_transport side h turn e = record {
  done = refl;
  silent = λ o. ap (λ (a : Answer). a.actions) (silent-turn side h turn e o);
  alike = λ o l. late-turn side h turn e o l;
}
