use Rattle.std.proofs.Common.{◌≡◌, [], take, true}
use Rattle.wt_check.specs.Datagrams.{receives_rightly}
use Rattle.wt_check.specs.Exact.{so_far}
use Rattle.wt_check.specs.Keeps.{RulesFollow}
use Rattle.wt_check.specs.Records.{pairs_of}
use Rattle.wt_check.specs.Verdict.{holds_from}
use Rattle.wt_check.proofs.checking.check.Given as goal

abbrev pub invariant-loop-index : goal.invariant-loop-index
invariant-loop-index l = record {
  follow : RulesFollow l.fn.side l.rules (so_far (pairs_of (take l.index l.pairs)) []);
  kept : holds_from receives_rightly l.fn.side [] (pairs_of (take l.index l.pairs)) ≡ true;
}
