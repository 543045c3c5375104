use Rattle.wt_wire.specs.Frames.{session_id_ignored}
use Rattle.wt_proto.proofs.WalkLaws.{if_ok_same}
use Rattle.wt_proto.proofs.ResponseWalkLaws.{response-headers}
use Rattle.wt_proto.proofs.response_walk.response_step.Goals as goal

pub returns-in_ok-next_offset-in-Headers : goal.returns-in_ok-next_offset-in-Headers
returns-in_ok-next_offset-in-Headers c =
    if_ok_same _ _ _ c.headers_step.ensures (rw c.in_ok-next_offset-in-Headers.ensures (response-headers c.args.offset c.args.bytes.now c.in-Headers.header c.in-Headers.size (c.in-Headers.ensures.frame session_id_ignored)))
