-- Each call leads from what is kept of a log to what is kept of the log with what the call did.
use Rattle.std.proofs.Common.{arith, ◌≡◌, ◌≢◌, ◌<◌, ◌≤◌, ◌+◌, ◌*◌, ◌%◌, ℕ, ℤ, Bool, true, false, Some, None, List, [], ◌∷◌, length, take, drop, refl, sym, subst, ap, ◌∙◌, length-take, length-drop}
use Rattle.std.specs.Prelude.{nat_lt, is_some, ◌==◌, ◌&&◌, not, if◌then◌else◌}
use Rattle.std.specs.List.{concat, list_any}
use Rattle.std.proofs.lemmas.Bool.Decides.{nat_tests}
use Rattle.std.proofs.lemmas.List.{drop-drop}
use Rattle.wt_wire.specs.declared.side.Side.{Side}
use Rattle.wt_wire.specs.declared.side.StreamEnd.TheVariants as ends
use Rattle.wt_wire.specs.declared.addr.Addr.{Addr}
use Rattle.wt_turn.specs.declared.action.Action.{Action}
use Rattle.wt_turn.specs.declared.action.Action.TheVariants as actions
use Rattle.wt_turn.specs.Log.{Log, Sent, Called, ResetUnsent, PrioritySet, events_of, all_events_of, actions_of, is_open, ends_by, closes, with_actions}
use Rattle.wt_transport.specs.StreamState.{Stream}
use Rattle.wt_turn.specs.Streams.{contents, one_more_if, peer_count, local_count, stream_count, exists, peer_uni, can_send}
use Rattle.wt_turn.specs.Reports.{is_connected, end_of, initial_credit}
use Rattle.wt_turn.specs.Joined.{send_of, join_one, joined_actions, newest_first}
use Rattle.wt_turn.specs.Outgoing.{streams_allowed, may_open, next_id, opened_id, actions_to_open, may_send, credit_left, bytes_within_credit, actions_to_send, if_open, reset_entry}
use Rattle.wt_turn.specs.Unread.{ReadPosition, AtOffset, GivenUp, from_position, unread, advance, position_after, given_up}
use Rattle.wt_transport.specs.Pieces.{AreFilled, skip}
use Rattle.wt_transport.specs.StreamState.{fresh, stream_at, with_changed, with_pushed, credit_of, with_sent, with_finish, with_reset, with_priority, consume, give_up}
use Rattle.wt_transport.specs.StreamState.{rows}
use Rattle.wt_transport.specs.State.{TransportState, stream_of, state_of, IsStream, Facts, IsWithin, Holds}
use Rattle.wt_transport.specs.Step.{may_open_now, next_id_now, opened_id_now, after_opening, may_send_now, covered_now, with_send, after_send, after_finish, after_reset, after_stop, after_priority, after_close, after_consume, after_give_up, pieces_now, end_now, with_action, with_change, with_new_stream, if_so}
use Rattle.wt_transport.proofs.Bools.{first, second, not-either, where-so-three}
use Rattle.wt_transport.proofs.PieceLaws.{drop_none, concat_skip, filled_skip}
use Rattle.wt_transport.proofs.Rows.{rows-changed, rows-pushed}
use Rattle.wt_transport.proofs.StreamChanges.{Changes, skipped, emptied, send-changes, finish-changes, reset-sent, reset-unsent, priority-changes, consume-changes, give-up-changes}
use Rattle.wt_transport.proofs.Events.{next-fresh, with-streams}
use Rattle.wt_transport.proofs.KeptFacts.{facts-changed, facts-opened, sent-stream, finished-stream, reset-stream, priority-stream, consumed-stream, given-up-stream}
use Rattle.wt_transport.proofs.Fitting.{has-is, at-is, count-is, send-is}

one-more : (kind n peers local : ℕ) → n % 4 ≡ kind → peers + one_more_if (n % 4 == kind) local ≡ peers + local + 1
one-more kind n peers local e = let yes_ : (n % 4 == kind) ≡ true = grind (arith, nat_tests) in rw yes_ (omega arith)

same-count : (kind other n peers local : ℕ) → n % 4 ≡ kind → other ≢ kind → peers + one_more_if (n % 4 == other) local ≡ peers + local
same-count kind other n peers local e d = let no_ : (n % 4 == other) ≡ false = grind (arith, nat_tests) in rw no_ refl

more-counted : (b : Bool) (peers local : ℕ) → peers + local ≤ peers + one_more_if b local
more-counted true peers local = omega arith
more-counted false peers local = omega arith

low-bits : (count kind : ℕ) → kind < 4 → (4 * count + kind) % 4 ≡ kind
low-bits count kind l = omega arith

module _ (side : Side) (log : Log) (position : ℕ → ReadPosition) (pieces : ℕ → List (List ℕ)) (uncollected : List Action) (facts : Facts side log position pieces) where
  abbrev state : TransportState
  state = state_of side log position pieces uncollected

  abbrev stream : ℕ → Stream
  stream = stream_of log position pieces

  abbrev count : ℕ → ℕ
  count = stream_count side log

  abbrev initial : ℕ
  initial = initial_credit (all_events_of log)

  -- an action that goes out leaves which events count
  sent-same : (a : Action) → is_open (Sent a ∷ log) ≡ true → events_of log ≡ all_events_of log
  sent-same a e = facts.open_same (not-either (closes a) (list_any ends_by log) e)

  -- ---- opening

  pub may-open-is : (kind : ℕ) → kind < 4 → may_open_now state kind ≡ may_open side log kind
  may-open-is kind l = ap (λ n. is_open log && nat_lt n (streams_allowed side log kind)) (count-is side log position pieces uncollected kind l)

  id-is : (kind : ℕ) → kind < 4 → next_id_now state kind ≡ next_id side log kind
  id-is kind l = ap (λ n. 4 * n + kind) (count-is side log position pieces uncollected kind l)

  pub opened-id-is : (kind : ℕ) → kind < 4 → opened_id_now state kind ≡ opened_id side log kind
  opened-id-is kind l = λ i. if may-open-is kind l i then Some (id-is kind l i) else None

  opened-if : (b : Bool) (kind : ℕ) → kind < 4 → (if b then with_action (with_new_stream state kind) (actions.Opened (next_id_now state kind)) else state)
      ≡ state_of side (with_actions (if b then actions.Opened (next_id side log kind) ∷ [] else []) log) position pieces (newest_first (if b then actions.Opened (next_id side log kind) ∷ [] else []) uncollected)
  opened-if true kind l = λ i. record state { streams = streams-are i; actions = join_one (joined_actions uncollected) (actions.Opened (id-is kind l i)) }
    where
      low : next_id side log kind % 4 ≡ kind
      low = low-bits (count kind) kind l

      streams-are : with_pushed (rows stream count) kind (fresh initial) ≡ rows stream (stream_count side (Sent (actions.Opened (next_id side log kind)) ∷ log))
      streams-are = sym (rows-pushed stream count (stream_count side (Sent (actions.Opened (next_id side log kind)) ∷ log)) kind (fresh initial) l
          (one-more kind (next_id side log kind) (peer_count side (all_events_of log) kind) (local_count (actions_of log) kind) low)
          (λ j d. same-count kind j (next_id side log kind) (peer_count side (all_events_of log) j) (local_count (actions_of log) j) low d)
          (next-fresh side stream count initial kind l facts.streams))
  opened-if false kind l = refl

  pub opening-is : (kind : ℕ) → kind < 4 → after_opening state kind ≡ state_of side (with_actions (actions_to_open side log kind) log) position pieces (newest_first (actions_to_open side log kind) uncollected)
  opening-is kind l = ap (λ b. if b then with_action (with_new_stream state kind) (actions.Opened (next_id_now state kind)) else state) (may-open-is kind l)
      ∙ opened-if (may_open side log kind) kind l

  opened-facts : (kind : ℕ) → is_connected (all_events_of log) ≡ true → Facts side (Sent (actions.Opened (next_id side log kind)) ∷ log) position pieces
  opened-facts kind c = facts-opened side log position pieces facts (Sent (actions.Opened (next_id side log kind)) ∷ log) refl
      (λ j. more-counted (next_id side log kind % 4 == j) (peer_count side (all_events_of log) j) (local_count (actions_of log) j)) refl c (sent-same (actions.Opened (next_id side log kind)))

  opening-facts-if : (b : Bool) (kind : ℕ) → may_open side log kind ≡ b → (c : Bool) → is_connected (all_events_of log) ≡ c
      → Facts side (with_actions (if b then actions.Opened (next_id side log kind) ∷ [] else []) log) position pieces
  opening-facts-if true kind o true c = opened-facts kind c
  opening-facts-if true kind o false c =
      let few : nat_lt (count kind) (streams_allowed side log kind) ≡ true = second (is_open log) (nat_lt (count kind) (streams_allowed side log kind)) o in
      let none : streams_allowed side log kind ≡ 0 = facts.unallowed c kind in
      absurd (grind (arith, nat_tests))
  opening-facts-if false kind o c d = facts

  pub opening-facts : (kind : ℕ) → Facts side (with_actions (actions_to_open side log kind) log) position pieces
  opening-facts kind = opening-facts-if (may_open side log kind) kind refl (is_connected (all_events_of log)) refl

  -- ---- sending

  covered-is : (id : ℕ) (bytes : List ℕ) → exists side log id ≡ true → covered_now state id bytes ≡ bytes_within_credit log id bytes
  covered-is id bytes x = ap (λ (s : Stream). take (credit_of s) bytes) (at-is side log position pieces uncollected id x)

  -- one stream changes as an action goes out
  change-then : (a : Action) (id : ℕ) (u : Stream → Stream) → exists side log id ≡ true → Changes stream id u (stream_of (Sent a ∷ log) position pieces)
      → record state { streams = with_changed (rows stream count) id u; actions = join_one (joined_actions uncollected) a }
      ≡ record state { streams = rows (stream_of (Sent a ∷ log) position pieces) count; actions = join_one (joined_actions uncollected) a }
  change-then a id u x c = ap (λ s. record state { streams = s; actions = join_one (joined_actions uncollected) a }) (sym (rows-changed stream (stream_of (Sent a ∷ log) position pieces) count id u x c))

  with-send-is : (id : ℕ) (part : List ℕ) → exists side log id ≡ true → with_send state id part ≡ state_of side (with_actions (send_of id part) log) position pieces (newest_first (send_of id part) uncollected)
  with-send-is id [] x = refl
  with-send-is id (b ∷ part) x = change-then (actions.Send id (b ∷ part)) id (with_sent (length (b ∷ part))) x (send-changes log position pieces id (b ∷ part))

  pub send-then : (id : ℕ) (bytes : List ℕ) → exists side log id ≡ true → after_send state id bytes ≡ state_of side (with_actions (actions_to_send log id bytes) log) position pieces (newest_first (actions_to_send log id bytes) uncollected)
  send-then id bytes x = ap (with_send state id) (covered-is id bytes x) ∙ with-send-is id (bytes_within_credit log id bytes) x

  pub count-covered : (id : ℕ) (bytes : List ℕ) → exists side log id ≡ true → length (covered_now state id bytes) ≡ length (bytes_within_credit log id bytes)
  count-covered id bytes x = ap length (covered-is id bytes x)

  with-send-facts : (id : ℕ) (part : List ℕ) → exists side log id ≡ true → length part ≤ credit_left log id → Facts side (with_actions (send_of id part) log) position pieces
  with-send-facts id [] x l = facts
  with-send-facts id (b ∷ part) x l = facts-changed side log position pieces facts (Sent (actions.Send id (b ∷ part)) ∷ log) position pieces id (with_sent (length (b ∷ part))) refl refl refl (sent-same (actions.Send id (b ∷ part))) facts.unallowed
      (sent-stream side count initial id (stream id) x (facts.streams id) (length (b ∷ part)) l) (send-changes log position pieces id (b ∷ part))

  pub send-facts : (id : ℕ) (bytes : List ℕ) → exists side log id ≡ true → Facts side (with_actions (actions_to_send log id bytes) log) position pieces
  send-facts id bytes x = with-send-facts id (bytes_within_credit log id bytes) x (omega (arith, length-take (credit_left log id) bytes))

  -- ---- the end of a half

  pub finish-then : (id : ℕ) → exists side log id ≡ true → after_finish state id ≡ state_of side (Sent (actions.Finish id) ∷ log) position pieces (actions.Finish id ∷ uncollected)
  finish-then id x = change-then (actions.Finish id) id with_finish x (finish-changes log position pieces id)

  pub finish-facts : (id : ℕ) → exists side log id ≡ true → Facts side (Sent (actions.Finish id) ∷ log) position pieces
  finish-facts id x = facts-changed side log position pieces facts (Sent (actions.Finish id) ∷ log) position pieces id with_finish refl refl refl (sent-same (actions.Finish id)) facts.unallowed
      (finished-stream side count initial id (stream id) x (facts.streams id)) (finish-changes log position pieces id)

  reset-if : (b : Bool) (id code : ℕ) → exists side log id ≡ true
      → if_so b (with_action (with_change state id with_reset) (actions.ResetOut id code)) (with_change state id with_reset)
      ≡ state_of side ((if b then Sent (actions.ResetOut id code) else Called (ResetUnsent id code)) ∷ log) position pieces (newest_first (if b then actions.ResetOut id code ∷ [] else []) uncollected)
  reset-if true id code x = change-then (actions.ResetOut id code) id with_reset x (reset-sent log position pieces id code)
  reset-if false id code x = with-streams state stream (stream_of (Called (ResetUnsent id code) ∷ log) position pieces) count id with_reset x (reset-unsent log position pieces id code)

  pub reset-here : (id code : ℕ) → exists side log id ≡ true
      → after_reset state id code ≡ state_of side (reset_entry log id code ∷ log) position pieces (newest_first (if_open log (actions.ResetOut id code)) uncollected)
  reset-here id code x = reset-if (is_open log) id code x

  reset-facts-if : (b : Bool) (id code : ℕ) → exists side log id ≡ true → Facts side ((if b then Sent (actions.ResetOut id code) else Called (ResetUnsent id code)) ∷ log) position pieces
  reset-facts-if true id code x = facts-changed side log position pieces facts (Sent (actions.ResetOut id code) ∷ log) position pieces id with_reset refl refl refl (sent-same (actions.ResetOut id code)) facts.unallowed
      (reset-stream side count initial id (stream id) x (facts.streams id)) (reset-sent log position pieces id code)
  reset-facts-if false id code x = facts-changed side log position pieces facts (Called (ResetUnsent id code) ∷ log) position pieces id with_reset refl refl refl facts.open_same facts.unallowed
      (reset-stream side count initial id (stream id) x (facts.streams id)) (reset-unsent log position pieces id code)

  pub reset-here-facts : (id code : ℕ) → exists side log id ≡ true → Facts side (reset_entry log id code ∷ log) position pieces
  reset-here-facts id code x = reset-facts-if (is_open log) id code x

  pub priority-then : (id : ℕ) (priority : ℤ) → exists side log id ≡ true → after_priority state id priority ≡ state_of side (Called (PrioritySet id priority) ∷ log) position pieces uncollected
  priority-then id priority x = with-streams state stream (stream_of (Called (PrioritySet id priority) ∷ log) position pieces) count id (with_priority priority) x (priority-changes log position pieces id priority)

  pub priority-facts : (id : ℕ) (priority : ℤ) → exists side log id ≡ true → Facts side (Called (PrioritySet id priority) ∷ log) position pieces
  priority-facts id priority x = facts-changed side log position pieces facts (Called (PrioritySet id priority) ∷ log) position pieces id (with_priority priority) refl refl refl facts.open_same facts.unallowed
      (priority-stream side count initial id (stream id) x (facts.streams id) priority) (priority-changes log position pieces id priority)

  -- ---- actions that change no stream

  stop-if : (b : Bool) (id code : ℕ) → if_so b (with_action state (actions.StopOut id code)) state
      ≡ state_of side (with_actions (if b then actions.StopOut id code ∷ [] else []) log) position pieces (newest_first (if b then actions.StopOut id code ∷ [] else []) uncollected)
  stop-if true id code = refl
  stop-if false id code = refl

  pub stop-out : (id code : ℕ) → after_stop state id code ≡ state_of side (with_actions (if_open log (actions.StopOut id code)) log) position pieces (newest_first (if_open log (actions.StopOut id code)) uncollected)
  stop-out id code = stop-if (is_open log) id code

  stop-facts-if : (b : Bool) (id code : ℕ) → Facts side (with_actions (if b then actions.StopOut id code ∷ [] else []) log) position pieces
  stop-facts-if true id code = record { streams = facts.streams; unconnected = facts.unconnected; unallowed = facts.unallowed; open_same = sent-same (actions.StopOut id code) }
  stop-facts-if false id code = facts

  pub stop-out-facts : (id code : ℕ) → Facts side (with_actions (if_open log (actions.StopOut id code)) log) position pieces
  stop-out-facts id code = stop-facts-if (is_open log) id code

  pub dial-facts : (address : Addr) (name : List ℕ) → Facts side (Sent (actions.Dial address name) ∷ log) position pieces
  dial-facts address name = record { streams = facts.streams; unconnected = facts.unconnected; unallowed = facts.unallowed; open_same = sent-same (actions.Dial address name) }

  pub datagram-out-facts : (piece : List ℕ) → Facts side (Sent (actions.DatagramOut piece) ∷ log) position pieces
  datagram-out-facts piece = record { streams = facts.streams; unconnected = facts.unconnected; unallowed = facts.unallowed; open_same = sent-same (actions.DatagramOut piece) }

  close-if : (b : Bool) (code : ℕ) (reason : List ℕ) → is_open log ≡ b → if_so b (with_action (record state { is_open = false }) (actions.Close code reason)) state
      ≡ state_of side (with_actions (if b then actions.Close code reason ∷ [] else []) log) position pieces (newest_first (if b then actions.Close code reason ∷ [] else []) uncollected)
  close-if true code reason o = refl
  close-if false code reason o = refl

  pub close-then : (code : ℕ) (reason : List ℕ) → after_close state code reason ≡ state_of side (with_actions (if_open log (actions.Close code reason)) log) position pieces (newest_first (if_open log (actions.Close code reason)) uncollected)
  close-then code reason = close-if (is_open log) code reason refl

  close-facts-if : (b : Bool) (code : ℕ) (reason : List ℕ) → Facts side (with_actions (if b then actions.Close code reason ∷ [] else []) log) position pieces
  close-facts-if true code reason = record { streams = facts.streams; unconnected = facts.unconnected; unallowed = facts.unallowed; open_same = sent-same (actions.Close code reason) }
  close-facts-if false code reason = facts

  pub close-facts : (code : ℕ) (reason : List ℕ) → Facts side (with_actions (if_open log (actions.Close code reason)) log) position pieces
  close-facts code reason = close-facts-if (is_open log) code reason

  -- ---- reading

  pieces-if : (b : Bool) (id : ℕ) → exists side log id ≡ b → pieces_now state id ≡ pieces id
  pieces-if true id x = ap (λ b. if b then (stream_at state.streams id).unread else []) (has-is side log position pieces uncollected id ∙ x) ∙ ap (λ (s : Stream). s.unread) (at-is side log position pieces uncollected id x)
  pieces-if false id x = ap (λ b. if b then (stream_at state.streams id).unread else []) (has-is side log position pieces uncollected id ∙ x) ∙ sym (ap (λ (s : Stream). s.unread) ((facts.streams id).unopened x))

  pub pieces-is : (id : ℕ) → pieces_now state id ≡ pieces id
  pieces-is id = pieces-if (exists side log id) id refl

  end-if : (b : Bool) (id : ℕ) → exists side log id ≡ b → end_now state id ≡ end_of (events_of log) id
  end-if true id x = ap (λ b. if b then (stream_at state.streams id).signals.end else ends.Running) (has-is side log position pieces uncollected id ∙ x) ∙ ap (λ (s : Stream). s.signals.end) (at-is side log position pieces uncollected id x)
  end-if false id x = ap (λ b. if b then (stream_at state.streams id).signals.end else ends.Running) (has-is side log position pieces uncollected id ∙ x) ∙ sym (ap (λ (s : Stream). s.signals.end) ((facts.streams id).unopened x))

  pub end-is : (id : ℕ) → end_now state id ≡ end_of (events_of log) id
  end-is id = end-if (exists side log id) id refl

  -- a reader of a stream that doesn't exist finds nothing to consume
  untouched : (b : Bool) (id n k : ℕ) → (id == k) ≡ b → exists side log id ≡ false → (if b then consume n (stream k) else stream k) ≡ stream k
  untouched true id n k e x =
      let same : id ≡ k = grind (arith, nat_tests) in
      let none : exists side log k ≡ false = subst (λ (j : ℕ). exists side log j ≡ false) same x in
      let here : stream k ≡ fresh initial = (facts.streams k).unopened none in
      ap (consume n) here ∙ sym here
  untouched false id n k e x = refl

  same-stream : (id n : ℕ) → exists side log id ≡ false → (k : ℕ) → stream_of log (position_after position id n) (skipped pieces id n) k ≡ stream k
  same-stream id n x k = consume-changes log position pieces id n k ∙ untouched (id == k) id n k refl x

  consume-if : (b : Bool) (id n : ℕ) → exists side log id ≡ b
      → (if b then with_change state id (consume n) else state) ≡ state_of side log (position_after position id n) (skipped pieces id n) uncollected
  consume-if true id n x = with-streams state stream (stream_of log (position_after position id n) (skipped pieces id n)) count id (consume n) x (consume-changes log position pieces id n)
  consume-if false id n x = λ i. record state { streams = rows (λ k. sym (same-stream id n x k) i) count }

  pub consume-then : (id n : ℕ) → after_consume state id n ≡ state_of side log (position_after position id n) (skipped pieces id n) uncollected
  consume-then id n = ap (λ b. if b then with_change state id (consume n) else state) (has-is side log position pieces uncollected id)
      ∙ consume-if (exists side log id) id n refl

  consume-facts-if : (b : Bool) (id n : ℕ) → exists side log id ≡ b → Facts side log (position_after position id n) (skipped pieces id n)
  consume-facts-if true id n x = facts-changed side log position pieces facts log (position_after position id n) (skipped pieces id n) id (consume n) refl refl refl facts.open_same facts.unallowed
      (consumed-stream side count initial id (stream id) x (facts.streams id) n) (consume-changes log position pieces id n)
  consume-facts-if false id n x = record {
    streams = λ k. subst (IsStream side count initial k) (sym (same-stream id n x k)) (facts.streams k);
    unconnected = facts.unconnected;
    unallowed = facts.unallowed;
    open_same = facts.open_same;
  }

  pub consume-facts : (id n : ℕ) → Facts side log (position_after position id n) (skipped pieces id n)
  consume-facts id n = consume-facts-if (exists side log id) id n refl

  pub give-up-then : (id : ℕ) → exists side log id ≡ true → after_give_up state id ≡ state_of side log (given_up position id) (emptied pieces id) uncollected
  give-up-then id x = with-streams state stream (stream_of log (given_up position id) (emptied pieces id)) count id give_up x (give-up-changes log position pieces id)

  pub give-up-facts : (id : ℕ) → exists side log id ≡ true → Facts side log (given_up position id) (emptied pieces id)
  give-up-facts id x = facts-changed side log position pieces facts log (given_up position id) (emptied pieces id) id give_up refl refl refl facts.open_same facts.unallowed
      (given-up-stream side count initial id (stream id) x (facts.streams id)) (give-up-changes log position pieces id)

  -- ---- which half can send

  pub may-send-is : (id : ℕ) → may_send_now state id ≡ may_send side log id
  may-send-is id = ap (λ b. is_open log && b && not (stream_at state.streams id).finished && not (stream_at state.streams id).reset
      && not (is_some (stream_at state.streams id).signals.stop)) (send-is side log position pieces uncollected id)
      ∙ where-so-three (is_open log && can_send side log id) _ _ _ _ _ _
      (λ e. ap (λ (s : Stream). not s.finished) (at-is side log position pieces uncollected id (there e)))
      (λ e. ap (λ (s : Stream). not s.reset) (at-is side log position pieces uncollected id (there e)))
      (λ e. ap (λ (s : Stream). not (is_some s.signals.stop)) (at-is side log position pieces uncollected id (there e)))
    where
      there : (is_open log && can_send side log id) ≡ true → exists side log id ≡ true
      there e = first (exists side log id) (not (peer_uni side == id % 4)) (second (is_open log) (can_send side log id) e)

-- ---- what the pieces hold once a reader went on

module _ (log : Log) (position : ℕ → ReadPosition) (pieces : ℕ → List (List ℕ)) (holds : (k : ℕ) → Holds log position pieces k) where
  advanced : (read_position : ReadPosition) (n : ℕ) (bytes : List ℕ) → drop n (from_position read_position bytes) ≡ from_position (advance n read_position) bytes
  advanced (AtOffset offset) n bytes = drop-drop n offset bytes
  advanced GivenUp n bytes = drop_none n

  still-within : (read_position : ReadPosition) (n : ℕ) (bytes : List ℕ) → IsWithin read_position bytes → n ≤ length (from_position read_position bytes) → IsWithin (advance n read_position) bytes
  still-within (AtOffset offset) n bytes w l = omega (arith, length-drop offset bytes)
  still-within GivenUp n bytes w l = tt

  bytes-if : (b : Bool) (n k : ℕ) → concat (if b then skip n (pieces k) else pieces k) ≡ from_position (if b then advance n (position k) else position k) (contents log k)
  bytes-if true n k = concat_skip n (pieces k) ∙ ap (drop n) (holds k).bytes ∙ advanced (position k) n (contents log k)
  bytes-if false n k = (holds k).bytes

  filled-if : (b : Bool) (n k : ℕ) → AreFilled (if b then skip n (pieces k) else pieces k)
  filled-if true n k = filled_skip n (pieces k) (holds k).filled
  filled-if false n k = (holds k).filled

  within-if : (b : Bool) (id n k : ℕ) → (id == k) ≡ b → n ≤ length (unread log position id) → IsWithin (if b then advance n (position k) else position k) (contents log k)
  within-if true id n k e l = let same : id ≡ k = grind (arith, nat_tests) in
      still-within (position k) n (contents log k) (holds k).within (subst (λ (j : ℕ). n ≤ length (unread log position j)) same l)
  within-if false id n k e l = (holds k).within

  pub consume-holds : (id n : ℕ) → n ≤ length (unread log position id) → (k : ℕ) → Holds log (position_after position id n) (skipped pieces id n) k
  consume-holds id n l k = record { bytes = bytes-if (id == k) n k; filled = filled-if (id == k) n k; within = within-if (id == k) id n k refl l }

  given-up-if : (b : Bool) (k : ℕ) → concat (if b then [] else pieces k) ≡ from_position (if b then GivenUp else position k) (contents log k)
  given-up-if true k = refl
  given-up-if false k = (holds k).bytes

  emptied-if : (b : Bool) (k : ℕ) → AreFilled (if b then [] else pieces k)
  emptied-if true k = tt
  emptied-if false k = (holds k).filled

  gone-within-if : (b : Bool) (k : ℕ) → IsWithin (if b then GivenUp else position k) (contents log k)
  gone-within-if true k = tt
  gone-within-if false k = (holds k).within

  pub give-up-holds : (id k : ℕ) → Holds log (given_up position id) (emptied pieces id) k
  give-up-holds id k = record { bytes = given-up-if (id == k) k; filled = emptied-if (id == k) k; within = gone-within-if (id == k) k }
