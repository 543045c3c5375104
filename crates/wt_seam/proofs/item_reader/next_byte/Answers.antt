use Rattle.wt_transport.specs.Step.{pieces_now}
use Rattle.wt_seam.proofs.Taking.{first-byte}
use Rattle.wt_seam.proofs.item_reader.next_byte.Goals as goal

pub returns : goal.returns
returns c = record { byte = first-byte (pieces_now c.args.t.now c.args.id) c.peek-piece.result.now c.peek-piece.ensures.now (c.peek-piece.ensures.some c.requires.some) }
