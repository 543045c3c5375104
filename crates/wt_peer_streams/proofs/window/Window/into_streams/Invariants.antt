use Rattle.std.proofs.Common.{◌≡◌, take}
use Rattle.wt_kept.specs.Ending.{waiting_ids}
use Rattle.wt_peer_streams.proofs.window.Window.into_streams.Given as goal

abbrev pub invariant-loop-waiting : goal.invariant-loop-waiting
invariant-loop-waiting l = l.ids.items ≡ waiting_ids (take l.waiting-index l.waiting-items)
