-- What a verdict says of a record.
use Rattle.std.specs.Prelude.{[], ◌++◌, ◌∷◌, ◌≡◌, List, Some, length, true, ℕ}
use Rattle.wt_check.specs.Accepts.{accepts}
use Rattle.wt_check.specs.Datagrams.{receives_rightly}
use Rattle.wt_check.specs.Reads.{reads_rightly}
use Rattle.wt_check.specs.Records.{Record}
use Rattle.wt_check.specs.Sends.{sends_rightly}
use Rattle.wt_check.specs.Sessions.{gives_sessions}
use Rattle.wt_check.specs.Turns.{follows}
use Rattle.wt_check.specs.Verdict.{Accepted, broken_rule, holds, verdict_on}
use Rattle.wt_meaning.specs.History.{History, Pair}

-- the pairs so far, the newest first
abbrev pub so_far : List Pair → History → History
so_far [] h = h
so_far (p ∷ later) h = so_far later (p ∷ h)

-- each rule holds throughout the record
pub record KeepsAll (r : Record) : Type 0 where
  pub turns : holds follows r ≡ true
  pub sessions : holds gives_sessions r ≡ true
  pub streams : holds accepts r ≡ true
  pub reads : holds reads_rightly r ≡ true
  pub datagrams : holds receives_rightly r ≡ true
  pub sends : holds sends_rightly r ≡ true

-- in front of this place the record is accepted, and there this rule is the least that is broken
pub record BreaksAt (r : Record) (at rule : ℕ) : Type 0 where
  pub before : List Pair
  pub next : Pair
  pub later : List Pair
  pub parts : r.pairs ≡ before ++ next ∷ later
  pub place : length before ≡ at
  pub accepted : verdict_on (record r { pairs = before }) ≡ Accepted
  pub broken : broken_rule r.side (so_far before []) next ≡ Some rule
