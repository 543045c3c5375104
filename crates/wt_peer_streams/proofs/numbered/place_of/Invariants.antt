use Rattle.std.proofs.Common.{◌-◌}
use Rattle.wt_peer_streams.proofs.ByNumberLaws.{IsBetween}
use Rattle.wt_peer_streams.proofs.numbered.place_of.Given as goal

abbrev pub invariant-loop-low : goal.invariant-loop-low
invariant-loop-low g l = IsBetween g.T.Numbered.number_of l.wanted l.items l.low l.high

-- proposed from the loop's first test
abbrev pub decreases-loop-low : goal.decreases-loop-low
decreases-loop-low g l = l.high - l.low
