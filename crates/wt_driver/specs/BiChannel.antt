-- A channel between two ends, with a queue of bounded length each way (this repository's own).
use Rattle.std.specs.Prelude.{ℕ, ◌≤◌, Bool, true, false, ◌||◌, nat_le, List, [], ◌∷◌, ◌++◌, length, take, drop, Option, Some, None, Result, Ok, Err, if◌then◌else◌}
use Rattle.std.specs.VecDeque.{deque_capacity}
use Rattle.std.specs.declared.collections.VecDeque.{VecDeque}
use Rattle.wt_turn.specs.declared.poll.Poll.{Poll}
use Rattle.wt_turn.specs.declared.poll.Poll.TheVariants.{Ready, Pending}
use Rattle.wt_driver.specs.declared.bichannel.ChannelEnd.{ChannelEnd}
use Rattle.wt_driver.specs.declared.bichannel.ChannelEnd.TheVariants.{Left, Right}
use Rattle.wt_driver.specs.declared.bichannel.TrySendError.{TrySendError}
use Rattle.wt_driver.specs.declared.bichannel.TrySendError.TheVariants as errors
use Rattle.wt_driver.specs.declared.bichannel.SendOutcome.{SendOutcome}
use Rattle.wt_driver.specs.declared.bichannel.SendOutcome.TheVariants as outcomes

-- the queue holds no more values than this, and has room for this many
pub record HasRoom {T A : Type 0} (capacity : ℕ) (queue : VecDeque T A) : Type 0 where
  pub within : length queue.items ≤ capacity
  pub reserved : capacity ≤ deque_capacity queue

-- one end: what was sent to it and it hasn't received, the oldest first, and whether it left
pub record End (T : Type 0) : Type 0 where
  pub queue : List T
  pub has_left : Bool

-- how many values a queue holds at most, and the two ends
pub record Channel (T : Type 0) : Type 0 where
  pub capacity : ℕ
  pub left : End T
  pub right : End T

-- a call that may change a channel; `Send` is a `try_send` or a `send`
pub data ChannelCall (T : Type 0) : Type 0 where
  Send : (end : ChannelEnd) (value : T) → ChannelCall T
  Recv : (end : ChannelEnd) → ChannelCall T
  Leave : (end : ChannelEnd) → ChannelCall T

-- both are the same end
abbrev pub is_same_end : ChannelEnd → ChannelEnd → Bool
is_same_end Left Left = true
is_same_end Left Right = false
is_same_end Right Left = false
is_same_end Right Right = true

-- the end on the other side
abbrev pub other_end : ChannelEnd → ChannelEnd
other_end Left = Right
other_end Right = Left

module _ {T : Type 0} where
  -- an end to which nothing was sent
  abbrev pub empty_end : End T
  empty_end = record { queue = []; has_left = false }

  -- a channel with both queues empty
  abbrev pub empty_channel : ℕ → Channel T
  empty_channel capacity = record { capacity = capacity; left = empty_end; right = empty_end }

  -- the end of this name
  abbrev pub end_of : ChannelEnd → Channel T → End T
  end_of Left channel = channel.left
  end_of Right channel = channel.right

  -- the channel with another end of this name
  abbrev pub with_end : ChannelEnd → End T → Channel T → Channel T
  with_end Left end channel = record channel { left = end }
  with_end Right end channel = record channel { right = end }

  -- what was sent to this end and it hasn't received, the oldest first
  abbrev pub queue_of : ChannelEnd → Channel T → List T
  queue_of end channel = (end_of end channel).queue

  -- the channel with another queue to this end
  abbrev pub with_queue : ChannelEnd → List T → Channel T → Channel T
  with_queue end queue channel = with_end end (record (end_of end channel) { queue = queue }) channel

  -- one of the two ends left
  abbrev pub is_closed : Channel T → Bool
  is_closed channel = channel.left.has_left || channel.right.has_left

  -- the queue from this end to the other holds as many values as it may
  abbrev pub is_full : ChannelEnd → Channel T → Bool
  is_full end channel = nat_le channel.capacity (length (queue_of (other_end end) channel))

  -- what a `try_send` at this end answers: `Closed` where an end left, else `Full` at capacity
  abbrev pub try_send_answer : ChannelEnd → T → Channel T → Result (Unit {0}) (TrySendError T)
  try_send_answer end value channel =
      if is_closed channel then Err (errors.Closed value)
      else (if is_full end channel then Err (errors.Full value) else Ok tt)

  -- what a `send` at this end answers: `Closed` where an end left, else `NotYet` at capacity
  abbrev pub send_answer : ChannelEnd → T → Channel T → SendOutcome T
  send_answer end value channel =
      if is_closed channel then outcomes.Closed
      else (if is_full end channel then outcomes.NotYet value else outcomes.Sent)

  -- after either: the value is the youngest of those to the other end, where no end left and there
  -- is room
  abbrev pub after_send : ChannelEnd → T → Channel T → Channel T
  after_send end value channel =
      if is_closed channel || is_full end channel then channel
      else with_queue (other_end end) (queue_of (other_end end) channel ++ value ∷ []) channel

  -- what a `recv` answers, by the queue to its end and by whether an end left
  abbrev pub received : List T → Bool → Poll (Option T)
  received (value ∷ later) closed = Ready (Some value)
  received [] closed = if closed then Ready None else Pending

  -- the oldest value sent to this end; with none there, None where an end left, else Pending
  abbrev pub recv_answer : ChannelEnd → Channel T → Poll (Option T)
  recv_answer end channel = received (queue_of end channel) (is_closed channel)

  -- after a `recv`: the oldest value sent to this end is gone
  abbrev pub after_recv : ChannelEnd → Channel T → Channel T
  after_recv end channel = with_queue end (drop 1 (queue_of end channel)) channel

  -- after a `leave`: this end left
  abbrev pub after_leave : ChannelEnd → Channel T → Channel T
  after_leave end channel = with_end end (record (end_of end channel) { has_left = true }) channel

  -- after one call
  abbrev pub after_call : ChannelCall T → Channel T → Channel T
  after_call (Send end value) channel = after_send end value channel
  after_call (Recv end) channel = after_recv end channel
  after_call (Leave end) channel = after_leave end channel

  -- after these calls, the first of them first
  abbrev pub after_calls : List (ChannelCall T) → Channel T → Channel T
  after_calls [] channel = channel
  after_calls (call ∷ later) channel = after_calls later (after_call call channel)

  -- the value that this call sends to this end, if it does
  abbrev pub sent_by : ChannelEnd → ChannelCall T → Channel T → List T
  sent_by to (Send end value) channel =
      if is_closed channel || is_full end channel then []
      else (if is_same_end (other_end end) to then value ∷ [] else [])
  sent_by to (Recv end) channel = []
  sent_by to (Leave end) channel = []

  -- the value that this call receives at this end, if it does
  abbrev pub received_by : ChannelEnd → ChannelCall T → Channel T → List T
  received_by to (Send end value) channel = []
  received_by to (Recv end) channel = if is_same_end end to then take 1 (queue_of to channel) else []
  received_by to (Leave end) channel = []

  -- the values that these calls send to this end, in order
  abbrev pub all_sent : ChannelEnd → List (ChannelCall T) → Channel T → List T
  all_sent to [] channel = []
  all_sent to (call ∷ later) channel = sent_by to call channel ++ all_sent to later (after_call call channel)

  -- the values that these calls receive at this end, in order
  abbrev pub all_received : ChannelEnd → List (ChannelCall T) → Channel T → List T
  all_received to [] channel = []
  all_received to (call ∷ later) channel = received_by to call channel ++ all_received to later (after_call call channel)
