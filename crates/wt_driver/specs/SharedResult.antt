-- A result that several setters may set and that the first `set` sets (this repository's own).
use Rattle.std.specs.Prelude.{ℕ, ◌+◌, ◌-◌, ◌^◌, Bool, ◌&&◌, nat_lt, List, [], ◌∷◌, Option, Some, None, is_none, min, if◌then◌else◌}
use Rattle.wt_turn.specs.declared.poll.Poll.{Poll}
use Rattle.wt_turn.specs.declared.poll.Poll.TheVariants.{Ready, Pending}

-- the value, once it is set, and how many setters and getters are left
pub record Shared (T : Type 0) : Type 0 where
  pub value : Option T
  pub setters : ℕ
  pub getters : ℕ

-- a call that may change a shared result
pub data SharedCall (T : Type 0) : Type 0 where
  Set : (value : T) → SharedCall T
  Subscribe : SharedCall T
  AddSetter : SharedCall T
  LeaveSetter : SharedCall T
  LeaveGetter : SharedCall T

-- a count that rises by one, and stands still at the end of its 64 bits
abbrev pub saturating_next : ℕ → ℕ
saturating_next count = min (count + 1) (2 ^ 64 - 1)

-- a poll for the result, by the value and the count of setters: the value where it is set, None
-- where it isn't and no setter is left, else Pending
abbrev pub poll_result : {T : Type 0} → Option T → ℕ → Poll (Option T)
poll_result (Some value) setters = Ready (Some value)
poll_result None setters = if nat_lt 0 setters then Pending else Ready None

module _ {T : Type 0} where
  -- one setter, no getter and no value
  abbrev pub fresh : Shared T
  fresh = record { value = None; setters = 1; getters = 0 }

  -- a `set` sets the value: none is set, and a setter is left
  abbrev pub may_set : Shared T → Bool
  may_set shared = is_none shared.value && nat_lt 0 shared.setters

  -- after a `set`: the value is set where it may be
  abbrev pub after_set : T → Shared T → Shared T
  after_set value shared = if may_set shared then record shared { value = Some value } else shared

  -- after a `subscribe`: one more getter
  abbrev pub after_subscribe : Shared T → Shared T
  after_subscribe shared = record shared { getters = saturating_next shared.getters }

  -- after an `add_setter`: one more setter, where one is left
  abbrev pub after_add_setter : Shared T → Shared T
  after_add_setter shared =
      if nat_lt 0 shared.setters then record shared { setters = saturating_next shared.setters } else shared

  -- after a `leave_setter`: one setter fewer, where there is one
  abbrev pub after_leave_setter : Shared T → Shared T
  after_leave_setter shared = record shared { setters = shared.setters - 1 }

  -- after a `leave_getter`: one getter fewer, where there is one
  abbrev pub after_leave_getter : Shared T → Shared T
  after_leave_getter shared = record shared { getters = shared.getters - 1 }

  -- what a poll for the result answers
  abbrev pub result_of : Shared T → Poll (Option T)
  result_of shared = poll_result shared.value shared.setters

  -- after one call
  abbrev pub after_call : SharedCall T → Shared T → Shared T
  after_call (Set value) shared = after_set value shared
  after_call Subscribe shared = after_subscribe shared
  after_call AddSetter shared = after_add_setter shared
  after_call LeaveSetter shared = after_leave_setter shared
  after_call LeaveGetter shared = after_leave_getter shared

  -- after these calls, the first of them first
  abbrev pub after_calls : List (SharedCall T) → Shared T → Shared T
  after_calls [] shared = shared
  after_calls (call ∷ later) shared = after_calls later (after_call call shared)
