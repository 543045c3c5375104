-- What the check keeps of the pairs so far, as far as that is proved, and what one more pair is told.
use Rattle.std.specs.Prelude.{◌<◌, ◌≡◌, Bool, None, Option, Some, false, true, ℕ}
use Rattle.wt_check.specs.KeptDatagrams.{DatagramsFollow}
use Rattle.wt_check.specs.declared.checking.Rules.{Rules}
use Rattle.wt_check.specs.declared.facts.Facts.{Facts}
use Rattle.wt_meaning.specs.History.{History, is_open}
use Rattle.wt_meaning.specs.Windows.{first_session}
use Rattle.wt_wire.specs.declared.side.Side.{Side}

-- the facts say whether the connection is open, and which session was established first
pub record FactsSay (side : Side) (facts : Facts) (h : History) : Type 0 where
  pub of_side : facts.side ≡ side
  pub still_open : facts.is_open ≡ is_open h
  pub first : facts.first_session ≡ first_session h

-- these are the same after a turn
pub record SaysTheSame (old new : Facts) : Type 0 where
  pub of_side : new.side ≡ old.side
  pub still_open : new.is_open ≡ old.is_open
  pub first : new.first_session ≡ old.first_session

-- what the rules keep follows the pairs so far
pub record RulesFollow (side : Side) (rules : Rules) (h : History) : Type 0 where
  pub facts : FactsSay side rules.facts h
  pub datagrams : DatagramsFollow rules.datagrams.left h

-- of a rule of this number, which holds with a pair or not, the rule that the pair is told to break says so
pub record TellsOf (number : ℕ) (stands : Bool) (broken : Option ℕ) : Type 0 where
  pub kept : broken ≡ None → stands ≡ true
  pub breaks : broken ≡ Some number → stands ≡ false
  pub above : (named : ℕ) → broken ≡ Some named → number < named → stands ≡ true
