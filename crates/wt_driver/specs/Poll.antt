-- What a poll answers.
use Rattle.std.specs.Prelude.{Bool, true, false}
use Rattle.wt_turn.specs.declared.poll.Poll.{Poll}
use Rattle.wt_turn.specs.declared.poll.Poll.TheVariants.{Ready, Pending}

-- a poll's answer with its value read by the function
abbrev pub poll_map : {A B : Type 0} → (A → B) → Poll A → Poll B
poll_map read (Ready value) = Ready (read value)
poll_map read Pending = Pending

-- the value is there
abbrev pub is_ready : {A : Type 0} → Poll A → Bool
is_ready (Ready value) = true
is_ready Pending = false
