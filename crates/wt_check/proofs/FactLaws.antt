-- What the facts say after a turn.
use Rattle.std.proofs.Common.{◌∙◌}
use Rattle.wt_check.specs.Keeps.{FactsSay, SaysTheSame}
use Rattle.wt_check.specs.declared.facts.Facts.{Facts}
use Rattle.wt_meaning.specs.History.{History}
use Rattle.wt_wire.specs.declared.side.Side.{Side}

pub same_facts : (side : Side) (h : History) (old new : Facts) → SaysTheSame old new → FactsSay side old h → FactsSay side new h
same_facts side h old new s f = record {
  of_side = s.of_side ∙ f.of_side;
  still_open = s.still_open ∙ f.still_open;
  first = s.first ∙ f.first;
}
