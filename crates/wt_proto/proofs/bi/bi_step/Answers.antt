use Rattle.wt_wire.specs.Varint.{varint_at}
use Rattle.wt_proto.proofs.WalkLaws.{if_ok_same}
use Rattle.wt_proto.proofs.BiLaws.{bi-headers}
use Rattle.wt_proto.proofs.bi.bi_step.Goals as goal

pub returns-in_ok-next_offset-in-Headers : goal.returns-in_ok-next_offset-in-Headers
returns-in_ok-next_offset-in-Headers c =
    if_ok_same _ _ _ c.headers_step.ensures (rw c.in_ok-next_offset-in-Headers.ensures (bi-headers c.args.offset c.args.bytes.now c.in-Headers.header c.in-Headers.size (c.in-Headers.ensures.frame varint_at)))
