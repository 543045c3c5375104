use Rattle.std.proofs.Common.{◌≡◌, drop}
use Rattle.std.specs.Prelude.{filter_map}
use Rattle.wt_pair.proofs.pair.add_items.Given as goal
use Rattle.wt_pair.specs.Kept.{with_more}
use Rattle.wt_pair.specs.Link.{item_of}

abbrev pub invariant-loop-action : goal.invariant-loop-action
invariant-loop-action l = with_more (filter_map item_of (drop l.action-index l.actions)) l.link ≡ with_more (filter_map item_of l.actions) l.fn.link
