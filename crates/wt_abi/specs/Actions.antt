-- The head of an action, and its bytes. The numbers go in the order of the type.
use Rattle.std.specs.Prelude.{ℕ, List, [], length}
use Rattle.wt_turn.specs.declared.action.Action.{Action}
use Rattle.wt_turn.specs.declared.action.Action.TheVariants as actions
use Rattle.wt_wire.specs.declared.addr.Addr.{Addr}
use Rattle.wt_abi.specs.declared.head.ActionHead.{ActionHead}
use Rattle.wt_abi.specs.Replies.{address_head, no_address}

-- an action of this kind on a stream, with a code
abbrev pub on_stream : ℕ → ℕ → ℕ → ActionHead
on_stream kind id code = record { kind = kind; id = id; code = code; address = no_address; length = 0 }

-- the numbers of an action
abbrev pub action_numbers : Action → ActionHead
action_numbers (actions.Dial address name) = record { kind = 0; id = 0; code = 0; address = address_head address; length = 0 }
action_numbers (actions.Opened id) = on_stream 1 id 0
action_numbers (actions.Send id piece) = on_stream 2 id 0
action_numbers (actions.Finish id) = on_stream 3 id 0
action_numbers (actions.ResetOut id code) = on_stream 4 id code
action_numbers (actions.StopOut id code) = on_stream 5 id code
action_numbers (actions.DatagramOut piece) = on_stream 6 0 0
action_numbers (actions.Close code reason) = on_stream 7 0 code

-- the bytes of an action
abbrev pub action_bytes : Action → List ℕ
action_bytes (actions.Dial address name) = name
action_bytes (actions.Send id piece) = piece
action_bytes (actions.DatagramOut piece) = piece
action_bytes (actions.Close code reason) = reason
action_bytes _ = []

-- the head of an action: its numbers, and how many bytes it has
abbrev pub action_head : Action → ActionHead
action_head a = record (action_numbers a) { length = length (action_bytes a) }
