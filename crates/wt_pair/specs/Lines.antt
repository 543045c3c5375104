-- What the lines of a script of two ends say so far, and the whole of it.
use Rattle.std.specs.Prelude.{List, Option}
use Rattle.wt_pair.specs.declared.event.PairEvent.{PairEvent}
use Rattle.wt_pair.specs.declared.event.PairFacts.{PairFacts}

-- the facts, once a line gave them, and the events in their order
pub record PairLines : Type 0 where
  pub facts : Option PairFacts
  pub events : List PairEvent

-- a whole script
pub record Scripted : Type 0 where
  pub facts : PairFacts
  pub events : List PairEvent
