use Rattle.std.proofs.Common.{◌≡◌, drop}
use Rattle.wt_kept.specs.Ending.{end_streams}
use Rattle.wt_wire.specs.Codes.{code_of}
use Rattle.wt_wire.specs.declared.error.ErrorCode.TheVariants as h3
use Rattle.wt_peer_streams.proofs.dispatched.ending.end_all.Given as goal

abbrev pub invariant-loop-id : goal.invariant-loop-id
invariant-loop-id l = record { left : end_streams l.t (drop l.id-index l.ids) ≡ end_streams l.fn.t l.fn.ids; code : l.code ≡ code_of h3.SessionGone }
