use Rattle.std.proofs.Common.{◌≡◌, drop}
use Rattle.wt_kept.specs.Ending.{give_up_all}
use Rattle.wt_peer_streams.proofs.dispatched.ending.give_up_all.Given as goal

abbrev pub invariant-loop-id : goal.invariant-loop-id
invariant-loop-id l = give_up_all l.t (drop l.id-index l.ids) ≡ give_up_all l.fn.t l.fn.ids
