use Rattle.wt_transport.specs.Step.{end_now, unread_now}
use Rattle.wt_seam.specs.declared.next_frame.FrameSource.TheVariants as sources
use Rattle.wt_seam.proofs.ReadLaws.{frames_since}
use Rattle.wt_seam.proofs.session.Stream+Pair+Session.read_frame.Goals as goal

pub returns-clause-begun : goal.returns-clause-begun
returns-clause-begun c = rw (← c.self.view_is)
    (frames_since c.poll.result sources.Other c.self.inside.stage.frames c.poll.new.self (unread_now c.args.t.now c.self.inside.halves.0.id) c.args.t.now.is_open (end_now c.args.t.now c.self.inside.halves.0.id) c.poll.ensures.answer c.poll.ensures.left)
