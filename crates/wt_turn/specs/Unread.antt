-- What of a stream's contents its reader hasn't read. A log doesn't tell how far the readers are: the layer above does.
use Rattle.std.specs.Prelude.{◌≡◌, ℕ, ◌<◌, ◌+◌, List, [], length, take, drop, Bool, true, false, ◌==◌, if◌then◌else◌}
use Rattle.wt_turn.specs.Log.{Log}
use Rattle.wt_turn.specs.Streams.{contents}

-- how far the reader of a stream is
pub data ReadPosition : Type 0 where
  AtOffset : (offset : ℕ) → ReadPosition  -- n bytes were consumed
  GivenUp : ReadPosition  -- nothing is read any more, now and later

-- the reader gave the stream up
abbrev pub is_given_up : ReadPosition → Bool
is_given_up (AtOffset offset) = false
is_given_up GivenUp = true

-- what of these bytes a reader at this position has before it
abbrev pub from_position : ReadPosition → List ℕ → List ℕ
from_position (AtOffset offset) bytes = drop offset bytes
from_position GivenUp bytes = []

-- the unread bytes of a stream, in order: what came for it while the connection was open, after what was consumed
abbrev pub unread : Log → (ℕ → ReadPosition) → ℕ → List ℕ
unread log position k = from_position (position k) (contents log k)

-- at first nothing of any stream was read
abbrev pub at_start : ℕ → ReadPosition
at_start k = AtOffset 0

-- the position once n bytes more were consumed
abbrev pub advance : ℕ → ReadPosition → ReadPosition
advance count (AtOffset offset) = AtOffset (offset + count)
advance count GivenUp = GivenUp

-- the positions once n bytes of stream `id` were consumed
abbrev pub position_after : (ℕ → ReadPosition) → ℕ → ℕ → ℕ → ReadPosition
position_after position id count k = if id == k then advance count (position k) else position k

-- the positions once stream `id` was given up
abbrev pub given_up : (ℕ → ReadPosition) → ℕ → ℕ → ReadPosition
given_up position id k = if id == k then GivenUp else position k

-- the front of these bytes: one at least where there are some
pub record IsFront (front bytes : List ℕ) : Type 0 where
  pub first : take (length front) bytes ≡ front
  pub some : 0 < length bytes → 0 < length front
