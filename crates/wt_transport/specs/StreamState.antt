-- What a transport keeps of one stream, and of the streams of each kind.
use Rattle.std.specs.Prelude.{ℕ, ℤ, pos, ◌+◌, ◌-◌, ◌*◌, ◌/◌, ◌%◌, List, [], ◌∷◌, ◌++◌, map, length, slice_set, slice_index_or, Option, Some, None, Bool, true, false, nat_lt}
use Rattle.std.specs.List.{range_with_len, sum_by}
use Rattle.wt_wire.specs.declared.side.StreamEnd.{StreamEnd}
use Rattle.wt_wire.specs.declared.side.StreamEnd.TheVariants as ends
use Rattle.wt_transport.specs.HalfRules.{SendingHalf}
use Rattle.wt_transport.specs.Pieces.{with_piece, skip}

-- ---- one stream

-- what the peer reported of a stream
pub record Signals : Type 0 where
  pub end : StreamEnd  -- how the peer's half ended
  pub stop : Option ℕ  -- the code with which the peer stopped this end's half
  pub acknowledged : Bool  -- all bytes of this end's half are acknowledged

-- what is kept of a stream: both halves, of which a unidirectional one uses one
pub record Stream : Type 0 where
  pub unread : List (List ℕ)  -- the bytes that came and weren't read, in the pieces in which they came
  pub given_up : Bool  -- nothing more is read: what comes is dropped
  pub signals : Signals  -- what was reported while the connection was open
  pub all_signals : Signals  -- what was reported at all, which decides what may come next
  pub credit : ℕ  -- how many bytes may go out in all
  pub sent : ℕ  -- how many went out
  pub finished : Bool  -- this end finished its half
  pub reset : Bool  -- this end reset its half
  pub priority : ℤ  -- the one that was set last

-- nothing was reported of a stream
abbrev pub no_signals : Signals
no_signals = record { end = ends.Running; stop = None; acknowledged = false }

-- a stream of which nothing was reported, with this credit
abbrev pub fresh : ℕ → Stream
fresh credit = record {
  unread = [];
  given_up = false;
  signals = no_signals;
  all_signals = no_signals;
  credit = credit;
  sent = 0;
  finished = false;
  reset = false;
  priority = pos 0;
}

-- the peer's half ended
abbrev pub with_end : StreamEnd → Signals → Signals
with_end end s = record s { end = end }

-- the peer stopped this end's half
abbrev pub with_stop : ℕ → Signals → Signals
with_stop code s = record s { stop = Some code }

-- all of this end's half was acknowledged
abbrev pub with_ack : Signals → Signals
with_ack s = record s { acknowledged = true }

-- it counts while the connection is open, and always for what may come next
abbrev pub signal : Bool → (Signals → Signals) → Stream → Stream
signal true f s = record s { signals = f s.signals; all_signals = f s.all_signals }
signal false f s = record s { all_signals = f s.all_signals }

-- one more piece, unless the stream was given up
abbrev pub receive_unless : Bool → List ℕ → Stream → Stream
receive_unless true bytes s = s
receive_unless false bytes s = record s { unread = with_piece s.unread bytes }

-- bytes came for the stream
abbrev pub with_bytes : List ℕ → Stream → Stream
with_bytes bytes s = receive_unless s.given_up bytes s

-- n bytes of the stream were read
abbrev pub consume : ℕ → Stream → Stream
consume count s = record s { unread = skip count s.unread }

-- the stream was given up, with all of its unread bytes
abbrev pub give_up : Stream → Stream
give_up s = record s { unread = []; given_up = true }

-- n bytes may go out on the stream in all
abbrev pub with_credit : ℕ → Stream → Stream
with_credit total s = record s { credit = total }

-- n bytes more went out on the stream
abbrev pub with_sent : ℕ → Stream → Stream
with_sent count s = record s { sent = s.sent + count }

-- this end finished its half
abbrev pub with_finish : Stream → Stream
with_finish s = record s { finished = true }

-- this end reset its half
abbrev pub with_reset : Stream → Stream
with_reset s = record s { reset = true }

-- this end set the priority of its half
abbrev pub with_priority : ℤ → Stream → Stream
with_priority priority s = record s { priority = priority }

-- how many more bytes may go out on it
abbrev pub credit_of : Stream → ℕ
credit_of s = s.credit - s.sent

-- ---- the streams of each kind, by the low two bits of the id and then by its other bits

-- the streams of a kind
abbrev pub row_at : List (List Stream) → ℕ → List Stream
row_at streams kind = slice_index_or streams kind []

-- the stream at an index of its kind
abbrev pub stream_in : List Stream → ℕ → Stream
stream_in row index = slice_index_or row index (fresh 0)

-- the stream with this id
abbrev pub stream_at : List (List Stream) → ℕ → Stream
stream_at streams id = stream_in (row_at streams (id % 4)) (id / 4)

-- there is a stream with this id
abbrev pub has_stream : List (List Stream) → ℕ → Bool
has_stream streams id = nat_lt (id / 4) (length (row_at streams (id % 4)))

-- the streams of a kind with one changed
abbrev pub changed_in : List Stream → ℕ → (Stream → Stream) → List Stream
changed_in row index f = slice_set row index (f (stream_in row index))

-- the streams with the one of this id changed
abbrev pub with_changed : List (List Stream) → ℕ → (Stream → Stream) → List (List Stream)
with_changed streams id f = slice_set streams (id % 4) (changed_in (row_at streams (id % 4)) (id / 4) f)

-- the streams with one more of a kind
abbrev pub with_pushed : List (List Stream) → ℕ → Stream → List (List Stream)
with_pushed streams kind s = slice_set streams kind (row_at streams kind ++ s ∷ [])

-- how many pieces have an unread byte
abbrev pub pieces_in : List Stream → ℕ
pieces_in row = sum_by (λ (s : Stream). length s.unread) row

-- how many pieces have an unread byte, over all streams
abbrev pub piece_count : List (List Stream) → ℕ
piece_count streams = sum_by pieces_in streams

-- what a call on the sending half asks
abbrev pub sending_half_of : Stream → SendingHalf
sending_half_of s = record {
  finished = s.finished;
  reset = s.reset;
  stop = s.signals.stop;
  acknowledged = s.signals.acknowledged;
  left = credit_of s;
  priority = s.priority;
}

-- n streams of each kind, made by a function
abbrev pub row : (ℕ → Stream) → (ℕ → ℕ) → ℕ → List Stream
row f count kind = map (λ i. f (4 * i + kind)) (range_with_len 0 (count kind))

-- the streams of each kind, n of each, made by a function
abbrev pub rows : (ℕ → Stream) → (ℕ → ℕ) → List (List Stream)
rows f count = map (row f count) (range_with_len 0 4)
