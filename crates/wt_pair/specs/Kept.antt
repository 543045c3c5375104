-- What is kept of two ends and of what waits for them, as data; and what a link does to it.
use Rattle.std.specs.Prelude.{[], ◌++◌, ◌||◌, Bool, List, None, Option, Some, drop, false, if◌then◌else◌, is_some, take, true, ℕ}
use Rattle.wt_pair.specs.Link.{connects, item_at, left_of, may_deliver, taken_at}
use Rattle.wt_core.specs.CoreState.{CoreState}
use Rattle.wt_pair.specs.declared.event.PairFacts.{PairFacts}
use Rattle.wt_pair.specs.declared.item.Item.{Item}

-- what waits for an end, and whether its connection was delivered
pub record LinkNow : Type 0 where
  pub waiting : List Item
  pub came : Bool

-- nothing waits
abbrev pub no_link : LinkNow
no_link = record { waiting = []; came = false }

-- these wait too, behind the others
abbrev pub with_more : List Item → LinkNow → LinkNow
with_more xs l = record l { waiting = l.waiting ++ xs }

-- the item at this place, where so many bytes of it may be delivered now
abbrev pub ready_item : LinkNow → ℕ → ℕ → Option Item → Option Item
ready_item l place n None = None
ready_item l place n (Some x) = if may_deliver l.came l.waiting place n x then Some x else None

abbrev pub ready_at : LinkNow → ℕ → ℕ → Option Item
ready_at l place n = ready_item l place n (item_at l.waiting place)

-- there is one
abbrev pub is_ready : LinkNow → ℕ → ℕ → Bool
is_ready l place n = is_some (ready_at l place n)

-- what waits at this place was taken out
abbrev pub without : ℕ → LinkNow → LinkNow
without place l = record l { waiting = taken_at l.waiting place [] }

-- the connection was delivered before, or was it now
abbrev pub with_came : Bool → LinkNow → LinkNow
with_came now l = record l { came = l.came || now }

-- these wait on at this place
abbrev pub with_rest : ℕ → List Item → LinkNow → LinkNow
with_rest place rest l = record l { waiting = take place l.waiting ++ rest ++ drop place l.waiting }

-- the link after so many bytes of the item were delivered
abbrev pub without_item : ℕ → ℕ → Item → LinkNow → LinkNow
without_item place n x l = record { waiting = taken_at l.waiting place (left_of n x.stream x.turn); came = l.came || connects x.turn }

-- the link after a delivery: of nothing where nothing may be delivered
abbrev pub delivered_from : ℕ → ℕ → LinkNow → Option Item → LinkNow
delivered_from place n l None = l
delivered_from place n l (Some x) = without_item place n x l

-- the link after the datagram at this place was lost, where one waits there
abbrev pub lost_from : ℕ → LinkNow → Bool → LinkNow
lost_from place l true = without place l
lost_from place l false = l

-- ---- two ends

-- an end: its core, and what waits for it
pub record EndNow : Type 0 where
  pub core : CoreState
  pub link : LinkNow

-- both, and what the connection brings to each
pub record PairNow : Type 0 where
  pub facts : PairFacts
  pub client : EndNow
  pub server : EndNow
