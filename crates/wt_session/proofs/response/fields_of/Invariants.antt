use Rattle.std.proofs.Common.{◌≡◌, take}
use Rattle.wt_session.proofs.response.fields_of.Given as goal

abbrev pub invariant-loop-index : goal.invariant-loop-index
invariant-loop-index l = l.fields ≡ take l.index l.list
