-- What is proved of a verdict: that it is exact as to single rules. Which these are, `IsJudged` tells.
use Rattle.std.specs.Prelude.{[], ◌++◌, ◌<◌, ◌≡◌, ◌∷◌, Bool, List, false, length, true, ℕ}
use Rattle.wt_check.specs.Datagrams.{receives_rightly}
use Rattle.wt_check.specs.Exact.{so_far}
use Rattle.wt_check.specs.Records.{Record}
use Rattle.wt_check.specs.Verdict.{Accepted, Broken, Verdict, holds}
use Rattle.wt_check.specs.declared.checking.Verdicts.{Verdicts}
use Rattle.wt_check.specs.declared.checking.Verdicts.TheVariants as told
use Rattle.wt_meaning.specs.History.{History, Pair}
use Rattle.wt_wire.specs.declared.side.Side.{Side}

-- the verdict that the code's value tells
abbrev pub said : Verdicts → Verdict
said told.Accepted = Accepted
said (told.Broken at rule) = Broken at rule

-- The rule holds in front of this place. At it, it is broken where it is the one that the verdict tells, and holds where that is a higher one.
pub record BreaksBy (number : ℕ) (rule : Side → History → Pair → Bool) (r : Record) (at named : ℕ) : Type 0 where
  pub before : List Pair
  pub next : Pair
  pub later : List Pair
  pub parts : r.pairs ≡ before ++ next ∷ later
  pub place : length before ≡ at
  pub kept : holds rule (record r { pairs = before }) ≡ true
  pub breaks : named ≡ number → rule r.side (so_far before []) next ≡ false
  pub stands : number < named → rule r.side (so_far before []) next ≡ true

-- the verdict is exact as to the rule of this number: where it accepts, the rule holds throughout
abbrev pub IsExactFor : ℕ → (Side → History → Pair → Bool) → Record → Verdict → Type 0
IsExactFor number rule r Accepted = holds rule r ≡ true
IsExactFor number rule r (Broken at named) = BreaksBy number rule r at named

-- what is proved of the verdict on a record
pub record IsJudged (r : Record) (v : Verdict) : Type 0 where
  pub datagrams : IsExactFor 5 receives_rightly r v
