-- What each entry of a log does to one stream: to the stream of its id, and to no other.
use Rattle.std.proofs.Common.{◌≡◌, ◌+◌, ℕ, ℤ, Bool, true, false, Some, None, List, [], ◌∷◌, ◌++◌, length, refl, ap, ◌∙◌, length-append}
use Rattle.std.specs.Prelude.{Option, pos, unwrap_or, ◌==◌, ◌||◌, if◌then◌else◌}
use Rattle.std.specs.Option.{option_or}
use Rattle.wt_wire.specs.declared.side.StreamEnd.{StreamEnd}
use Rattle.wt_wire.specs.declared.side.StreamEnd.TheVariants as ends
use Rattle.wt_turn.specs.declared.action.Action.TheVariants as actions
use Rattle.wt_turn.specs.Log.{End, Reset, Stop, Acked, MaxData, ResetUnsent, PrioritySet, Sent, Called, Log, newest, events_of, all_events_of, actions_of, calls_of}
use Rattle.wt_transport.specs.StreamState.{Stream}
use Rattle.wt_turn.specs.Reports.{end_reported, credit_reported}
use Rattle.wt_turn.specs.Sent.{sent_on, priority_set}
use Rattle.wt_turn.specs.Arrivals.{event_entry}
use Rattle.wt_turn.specs.Unread.{ReadPosition, AtOffset, GivenUp, is_given_up, advance, position_after, given_up}
use Rattle.wt_transport.specs.Pieces.{with_piece, skip}
use Rattle.wt_transport.specs.StreamState.{signal, with_ack, with_credit, with_end, with_finish, with_priority, with_reset, with_sent, with_stop, with_bytes, consume, give_up}
use Rattle.wt_transport.specs.State.{stream_of}

-- another function differs from the first at one id alone, by this change
abbrev pub Changes : (ℕ → Stream) → ℕ → (Stream → Stream) → (ℕ → Stream) → Type 0
Changes f id u g = (k : ℕ) → g k ≡ (if id == k then u (f k) else f k)

-- ---- by the test whether it is this stream

-- the stream with these two ends
abbrev ended : Stream → Option StreamEnd → Option StreamEnd → Stream
ended s one all = record s { signals = record s.signals { end = unwrap_or one ends.Running }; all_signals = record s.all_signals { end = unwrap_or all ends.Running } }

end-if : (counts b : Bool) (s : Stream) (one all : Option StreamEnd) (end : StreamEnd)
    → ended s (if counts then option_or (if b then Some end else None) one else one) (option_or (if b then Some end else None) all) ≡ (if b then signal counts (with_end end) (ended s one all) else ended s one all)
end-if true true s one all end = refl
end-if true false s one all end = refl
end-if false true s one all end = refl
end-if false false s one all end = refl

stop-if : (counts b : Bool) (s : Stream) (code : ℕ) → record s {
  signals = record s.signals { stop = if counts then option_or (if b then Some code else None) s.signals.stop else s.signals.stop };
  all_signals = record s.all_signals { stop = option_or (if b then Some code else None) s.all_signals.stop };
} ≡ (if b then signal counts (with_stop code) s else s)
stop-if true true s code = refl
stop-if true false s code = refl
stop-if false true s code = refl
stop-if false false s code = refl

ack-if : (counts b : Bool) (s : Stream) → record s {
  signals = record s.signals { acknowledged = if counts then b || s.signals.acknowledged else s.signals.acknowledged };
  all_signals = record s.all_signals { acknowledged = b || s.all_signals.acknowledged };
} ≡ (if b then signal counts with_ack s else s)
ack-if true true s = refl
ack-if true false s = refl
ack-if false true s = refl
ack-if false false s = refl

credit-if : (b : Bool) (s : Stream) (total : ℕ) (before : Option ℕ)
    → record s { credit = unwrap_or (option_or (if b then Some total else None) before) 0 } ≡ (if b then with_credit total (record s { credit = unwrap_or before 0 }) else record s { credit = unwrap_or before 0 })
credit-if true s total before = refl
credit-if false s total before = refl

sent-if : (b : Bool) (s : Stream) (before piece : List ℕ) → length before ≡ s.sent
    → record s { sent = length (if b then before ++ piece else before) } ≡ (if b then with_sent (length piece) s else s)
sent-if true s before piece e = ap (λ n. record s { sent = n }) (length-append before piece ∙ ap (λ n. n + length piece) e)
sent-if false s before piece e = ap (λ n. record s { sent = n }) e

finish-if : (b : Bool) (s : Stream) → record s { finished = b || s.finished } ≡ (if b then with_finish s else s)
finish-if true s = refl
finish-if false s = refl

reset-if : (b : Bool) (s : Stream) → record s { reset = b || s.reset } ≡ (if b then with_reset s else s)
reset-if true s = refl
reset-if false s = refl

priority-if : (b : Bool) (s : Stream) (priority : ℤ) (before : Option ℤ)
    → record s { priority = unwrap_or (option_or (if b then Some priority else None) before) (pos 0) } ≡ (if b then with_priority priority (record s { priority = unwrap_or before (pos 0) }) else record s { priority = unwrap_or before (pos 0) })
priority-if true s priority before = refl
priority-if false s priority before = refl

module _ (log : Log) (position : ℕ → ReadPosition) (pieces : ℕ → List (List ℕ)) where
  -- ---- what is reported

  pub end-changes : (counts : Bool) (id : ℕ) → Changes (stream_of log position pieces) id (signal counts (with_end ends.Fin)) (stream_of (event_entry counts (End id) ∷ log) position pieces)
  end-changes true id k = end-if true (id == k) (stream_of log position pieces k) (newest (end_reported k) (events_of log)) (newest (end_reported k) (all_events_of log)) ends.Fin
  end-changes false id k = end-if false (id == k) (stream_of log position pieces k) (newest (end_reported k) (events_of log)) (newest (end_reported k) (all_events_of log)) ends.Fin

  pub reset-changes : (counts : Bool) (id code : ℕ) → Changes (stream_of log position pieces) id (signal counts (with_end (ends.Reset code))) (stream_of (event_entry counts (Reset id code) ∷ log) position pieces)
  reset-changes true id code k = end-if true (id == k) (stream_of log position pieces k) (newest (end_reported k) (events_of log)) (newest (end_reported k) (all_events_of log)) (ends.Reset code)
  reset-changes false id code k = end-if false (id == k) (stream_of log position pieces k) (newest (end_reported k) (events_of log)) (newest (end_reported k) (all_events_of log)) (ends.Reset code)

  pub stop-changes : (counts : Bool) (id code : ℕ) → Changes (stream_of log position pieces) id (signal counts (with_stop code)) (stream_of (event_entry counts (Stop id code) ∷ log) position pieces)
  stop-changes true id code k = stop-if true (id == k) (stream_of log position pieces k) code
  stop-changes false id code k = stop-if false (id == k) (stream_of log position pieces k) code

  pub ack-changes : (counts : Bool) (id : ℕ) → Changes (stream_of log position pieces) id (signal counts with_ack) (stream_of (event_entry counts (Acked id) ∷ log) position pieces)
  ack-changes true id k = ack-if true (id == k) (stream_of log position pieces k)
  ack-changes false id k = ack-if false (id == k) (stream_of log position pieces k)

  pub credit-changes : (counts : Bool) (id total : ℕ) → Changes (stream_of log position pieces) id (with_credit total) (stream_of (event_entry counts (MaxData id total) ∷ log) position pieces)
  credit-changes true id total k = credit-if (id == k) (stream_of log position pieces k) total (newest (credit_reported k) (all_events_of log))
  credit-changes false id total k = credit-if (id == k) (stream_of log position pieces k) total (newest (credit_reported k) (all_events_of log))

  -- ---- what this end does

  pub send-changes : (id : ℕ) (piece : List ℕ) → Changes (stream_of log position pieces) id (with_sent (length piece)) (stream_of (Sent (actions.Send id piece) ∷ log) position pieces)
  send-changes id piece k = sent-if (id == k) (stream_of log position pieces k) (sent_on (actions_of log) k) piece refl

  pub finish-changes : (id : ℕ) → Changes (stream_of log position pieces) id with_finish (stream_of (Sent (actions.Finish id) ∷ log) position pieces)
  finish-changes id k = finish-if (id == k) (stream_of log position pieces k)

  pub reset-sent : (id code : ℕ) → Changes (stream_of log position pieces) id with_reset (stream_of (Sent (actions.ResetOut id code) ∷ log) position pieces)
  reset-sent id code k = reset-if (id == k) (stream_of log position pieces k)

  pub reset-unsent : (id code : ℕ) → Changes (stream_of log position pieces) id with_reset (stream_of (Called (ResetUnsent id code) ∷ log) position pieces)
  reset-unsent id code k = reset-if (id == k) (stream_of log position pieces k)

  pub priority-changes : (id : ℕ) (priority : ℤ) → Changes (stream_of log position pieces) id (with_priority priority) (stream_of (Called (PrioritySet id priority) ∷ log) position pieces)
  priority-changes id priority k = priority-if (id == k) (stream_of log position pieces k) priority (newest (priority_set k) (calls_of log))

-- ---- what its reader does

-- the pieces of each stream once these bytes came for one
abbrev pub received_unless : Bool → List (List ℕ) → List ℕ → List (List ℕ)
received_unless true pieces piece = pieces
received_unless false pieces piece = with_piece pieces piece

abbrev pub received : (ℕ → ReadPosition) → (ℕ → List (List ℕ)) → ℕ → List ℕ → ℕ → List (List ℕ)
received position pieces id piece k = if id == k then received_unless (is_given_up (position k)) (pieces k) piece else pieces k

abbrev pub skipped : (ℕ → List (List ℕ)) → ℕ → ℕ → ℕ → List (List ℕ)
skipped pieces id count k = if id == k then skip count (pieces k) else pieces k

abbrev pub emptied : (ℕ → List (List ℕ)) → ℕ → ℕ → List (List ℕ)
emptied pieces id k = if id == k then [] else pieces k

receive-if : (b gone : Bool) (s : Stream) (piece : List ℕ) → record s { unread = if b then received_unless gone s.unread piece else s.unread; given_up = gone }
    ≡ (if b then with_bytes piece (record s { given_up = gone }) else record s { given_up = gone })
receive-if true true s piece = refl
receive-if true false s piece = refl
receive-if false gone s piece = refl

pub receive-changes : (log : Log) (position : ℕ → ReadPosition) (pieces : ℕ → List (List ℕ)) (id : ℕ) (piece : List ℕ)
    → Changes (stream_of log position pieces) id (with_bytes piece) (stream_of log position (received position pieces id piece))
receive-changes log position pieces id piece k = receive-if (id == k) (is_given_up (position k)) (stream_of log position pieces k) piece

consume-if : (b : Bool) (s : Stream) (read_position : ReadPosition) (count : ℕ) → record s { unread = if b then skip count s.unread else s.unread; given_up = is_given_up (if b then advance count read_position else read_position) }
    ≡ (if b then consume count (record s { given_up = is_given_up read_position }) else record s { given_up = is_given_up read_position })
consume-if true s (AtOffset offset) count = refl
consume-if true s GivenUp count = refl
consume-if false s read_position count = refl

pub consume-changes : (log : Log) (position : ℕ → ReadPosition) (pieces : ℕ → List (List ℕ)) (id count : ℕ)
    → Changes (stream_of log position pieces) id (consume count) (stream_of log (position_after position id count) (skipped pieces id count))
consume-changes log position pieces id count k = consume-if (id == k) (stream_of log position pieces k) (position k) count

give-up-if : (b : Bool) (s : Stream) (offset : ReadPosition) → record s { unread = if b then [] else s.unread; given_up = is_given_up (if b then GivenUp else offset) }
    ≡ (if b then give_up (record s { given_up = is_given_up offset }) else record s { given_up = is_given_up offset })
give-up-if true s offset = refl
give-up-if false s offset = refl

pub give-up-changes : (log : Log) (position : ℕ → ReadPosition) (pieces : ℕ → List (List ℕ)) (id : ℕ)
    → Changes (stream_of log position pieces) id give_up (stream_of log (given_up position id) (emptied pieces id))
give-up-changes log position pieces id k = give-up-if (id == k) (stream_of log position pieces k) (position k)
