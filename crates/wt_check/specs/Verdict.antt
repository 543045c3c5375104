-- The verdict on a record: the least place at which a rule breaks, and there the least rule that does.
use Rattle.std.specs.Prelude.{[], ◌&&◌, ◌+◌, ◌∷◌, Bool, List, None, Option, Some, if◌then◌else◌, not, true, ℕ}
use Rattle.wt_check.specs.Accepts.{accepts}
use Rattle.wt_check.specs.Datagrams.{receives_rightly}
use Rattle.wt_check.specs.Reads.{reads_rightly}
use Rattle.wt_check.specs.Records.{Record}
use Rattle.wt_check.specs.Sends.{sends_rightly}
use Rattle.wt_check.specs.Sessions.{gives_sessions}
use Rattle.wt_check.specs.Turns.{follows}
use Rattle.wt_meaning.specs.History.{History, Pair}
use Rattle.wt_wire.specs.declared.side.Side.{Side}

-- no place breaks a rule; or this place, counted from 0, breaks this rule, and no earlier place breaks any, nor this one a lower rule
pub data Verdict : Type 0 where
  Accepted : Verdict
  Broken : (at rule : ℕ) → Verdict

-- the least rule that the pair breaks after the pairs before it
abbrev pub broken_rule : Side → History → Pair → Option ℕ
broken_rule side h p =
    if not (follows side h p) then Some 1
    else if not (gives_sessions side h p) then Some 2
    else if not (accepts side h p) then Some 3
    else if not (reads_rightly side h p) then Some 4
    else if not (receives_rightly side h p) then Some 5
    else if not (sends_rightly side h p) then Some 6
    else None

-- the rule that is broken at this place, else what comes later
abbrev pub broken_at : ℕ → Option ℕ → Verdict → Verdict
broken_at at None later = later
broken_at at (Some rule) later = Broken at rule

-- the verdict on pairs that come after these, the first of them at this place
abbrev pub verdict_from : Side → History → ℕ → List Pair → Verdict
verdict_from side h at [] = Accepted
verdict_from side h at (p ∷ later) = broken_at at (broken_rule side h p) (verdict_from side (p ∷ h) (at + 1) later)

-- the verdict on a record
abbrev pub verdict_on : Record → Verdict
verdict_on r = verdict_from r.side [] 0 r.pairs

-- the rule holds at each of these pairs, which come after those before
abbrev pub holds_from : (Side → History → Pair → Bool) → Side → History → List Pair → Bool
holds_from rule side h [] = true
holds_from rule side h (p ∷ later) = rule side h p && holds_from rule side (p ∷ h) later

-- it holds throughout the record
abbrev pub holds : (Side → History → Pair → Bool) → Record → Bool
holds rule r = holds_from rule r.side [] r.pairs
