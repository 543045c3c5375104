use Rattle.std.proofs.Common.{◌≡◌, drop}
use Rattle.wt_sessions.specs.StreamTable.{with_ids}
use Rattle.wt_peer_streams.proofs.numbered.StreamIds.add_all.Given as goal

abbrev pub invariant-loop-id : goal.invariant-loop-id
invariant-loop-id l = with_ids (drop l.id-index l.ids) l.self ≡ with_ids l.fn.ids l.fn.self
