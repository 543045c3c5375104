-- What a call that may have to wait answers.
use Rattle.std.specs.Prelude.{Bool, false, true}
use Rattle.wt_turn.specs.declared.poll.Poll.{Poll}
use Rattle.wt_turn.specs.declared.poll.Poll.TheVariants.{Pending, Ready}

-- the call is through
abbrev pub is_ready : {T : Type 0} → Poll T → Bool
is_ready (Ready value) = true
is_ready Pending = false

-- P of the answer, or Q where the call has to wait
abbrev pub MatchPoll : {T : Type 0} → Poll T → (T → Type 0) → Type 0 → Type 0
MatchPoll (Ready value) P Q = P value
MatchPoll Pending P Q = Q

-- the call is through, and P holds of its answer
abbrev pub IsReadyAnd : {T : Type 0} → Poll T → (T → Type 0) → Type 0
IsReadyAnd (Ready value) P = P value
IsReadyAnd Pending P = ⊥
