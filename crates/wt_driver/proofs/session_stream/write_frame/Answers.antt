use Rattle.std.proofs.Common.{rules}
use Rattle.wt_driver_laws.proofs.PieceCalls.{frame_pieces}
use Rattle.wt_driver_laws.proofs.WriteFrame.{write_frame_law}
use Rattle.wt_wire.specs.FrameBytes.{frame_bytes}
use Rattle.wt_driver.proofs.Steps.{if-ok-then, ok-then-if}
use Rattle.wt_driver.proofs.session_stream.write_frame.Goals as goal

pub returns-then-can_write-clause-written : goal.returns-then-can_write-clause-written
returns-then-can_write-clause-written c = search rules

pub returns-then-can_write-clause-writes : goal.returns-then-can_write-clause-writes
returns-then-can_write-clause-writes c = if-ok-then c.write_frame.result (λ a e. write_frame_law c.args.stream.now.halves.0.id (frame_bytes c.args.frame.now) c.args.stream.now.stage.writing _ a c.args.d.now _ e) (returns-then-can_write-clause-written c)

pub returns-then-can_write-clause-pieces : goal.returns-then-can_write-clause-pieces
returns-then-can_write-clause-pieces c = ok-then-if c.write_frame.result (λ a e. frame_pieces c.args.stream.now.halves.0.id (frame_bytes c.args.frame.now) c.args.stream.now.stage.writing a _ c.args.d.now _ e) (returns-then-can_write-clause-written c)

pub returns-clause-written : goal.returns-clause-written
returns-clause-written c = search rules

pub returns-clause-writes : goal.returns-clause-writes
returns-clause-writes c = write_frame_law c.args.stream.now.halves.0.id (frame_bytes c.args.frame.now) c.args.stream.now.stage.writing _ _ c.args.d.now _ (returns-clause-written c)

pub returns-clause-pieces : goal.returns-clause-pieces
returns-clause-pieces c = frame_pieces c.args.stream.now.halves.0.id (frame_bytes c.args.frame.now) c.args.stream.now.stage.writing _ _ c.args.d.now _ (returns-clause-written c)
