-- The link: for each end a list of items that wait. It changes no byte, and no order within a stream; it delays, cuts pieces of streams,
-- brings what waits of several streams in any order, and loses datagrams.
use Rattle.std.specs.Prelude.{[], ◌&&◌, ◌++◌, ◌==◌, ◌∷◌, ◌||◌, Bool, List, None, Option, Some, drop, false, if◌then◌else◌, length, nat_le, not, take, true, zero, suc, ℕ}
use Rattle.std.specs.List.{list_any}
use Rattle.wt_pair.specs.declared.item.Item.{Item}
use Rattle.wt_turn.specs.declared.action.Action.{Action}
use Rattle.wt_turn.specs.declared.turn.Turn.{Turn}
use Rattle.wt_wire.specs.Ids.{is_bidirectional}
use Rattle.wt_turn.specs.declared.action.Action.TheVariants as actions
use Rattle.wt_turn.specs.declared.loss.LossReason.TheVariants as losses
use Rattle.wt_turn.specs.declared.turn.Turn.TheVariants as turns

-- ---- what an action of the other end adds

-- the stream is opened there, as one of the peer's
abbrev pub opened_turn : ℕ → Turn
opened_turn id = if is_bidirectional id then turns.PeerBi else turns.PeerUni

abbrev pub on_stream : ℕ → Turn → Option Item
on_stream id turn = Some (record { stream = Some id; turn = turn })

abbrev pub on_no_stream : Turn → Option Item
on_no_stream turn = Some (record { stream = None; turn = turn })

-- the connection is lost there, by the application here
abbrev pub closed_turn : ℕ → List ℕ → Turn
closed_turn code reason = turns.Loss (losses.ApplicationClosed (record { code = code; reason = reason }))

-- the item that an action adds for the other end (a dial adds one for each end)
abbrev pub item_of : Action → Option Item
item_of (actions.Dial address name) = None
item_of (actions.Opened id) = on_stream id (opened_turn id)
item_of (actions.Send id piece) = on_stream id (turns.Bytes id piece)
item_of (actions.Finish id) = on_stream id (turns.End id)
item_of (actions.ResetOut id code) = on_stream id (turns.Reset id code)
item_of (actions.StopOut id code) = on_stream id (turns.Stop id code)
item_of (actions.DatagramOut piece) = on_no_stream (turns.Datagram piece)
item_of (actions.Close code reason) = on_no_stream (closed_turn code reason)

-- ---- what is delivered

-- the item at a place
abbrev pub item_at : List Item → ℕ → Option Item
item_at [] place = None
item_at (x ∷ xs) zero = Some x
item_at (x ∷ xs) (suc place) = item_at xs place

-- both name one stream
abbrev pub is_same_stream : Option ℕ → Option ℕ → Bool
is_same_stream (Some j) (Some k) = j == k
is_same_stream _ _ = false

-- both open a stream of one kind
abbrev pub open_alike : Turn → Turn → Bool
open_alike turns.PeerUni turns.PeerUni = true
open_alike turns.PeerBi turns.PeerBi = true
open_alike _ _ = false

-- one must come before the other: both name one stream, or both open a stream of one kind
abbrev pub is_before : Item → Item → Bool
is_before x y = is_same_stream x.stream y.stream || open_alike x.turn y.turn

-- nothing in front of the item at this place must come before it
abbrev pub is_first : List Item → ℕ → Item → Bool
is_first xs place x = not (list_any (λ (y : Item). is_before y x) (take place xs))

-- the item brings the connection
abbrev pub connects : Turn → Bool
connects (turns.Connected uni bi total fact) = true
connects _ = false

-- so many bytes of it may come: of a piece at least one, of nothing else any
abbrev pub takes_bytes : Turn → ℕ → Bool
takes_bytes (turns.Bytes id piece) n = nat_le 1 n && nat_le n (length piece)
takes_bytes turn n = n == 0

-- the item at this place may be delivered now, at an end where the connection came or not
abbrev pub may_deliver : Bool → List Item → ℕ → ℕ → Item → Bool
may_deliver came xs place n x = (came || connects x.turn) && is_first xs place x && takes_bytes x.turn n

-- the turn that it makes of so many bytes
abbrev pub first_of : ℕ → Turn → Turn
first_of n (turns.Bytes id piece) = turns.Bytes id (take n piece)
first_of n turn = turn

-- what of it waits on
abbrev pub left_of : ℕ → Option ℕ → Turn → List Item
left_of n s (turns.Bytes id piece) = if n == length piece then [] else record { stream = s; turn = turns.Bytes id (drop n piece) } ∷ []
left_of n s turn = []

-- the list after the item at this place was taken, of which these wait on
abbrev pub taken_at : List Item → ℕ → List Item → List Item
taken_at xs place left = take place xs ++ left ++ drop (suc place) xs

-- the turn that is delivered
abbrev pub delivered_turn : ℕ → Option Item → Option Turn
delivered_turn n None = None
delivered_turn n (Some x) = Some (first_of n x.turn)

-- ---- what is lost

-- the turn brings a datagram
abbrev pub brings_datagram : Turn → Bool
brings_datagram (turns.Datagram piece) = true
brings_datagram _ = false

-- a datagram waits there
abbrev pub is_datagram : Option Item → Bool
is_datagram None = false
is_datagram (Some x) = brings_datagram x.turn
