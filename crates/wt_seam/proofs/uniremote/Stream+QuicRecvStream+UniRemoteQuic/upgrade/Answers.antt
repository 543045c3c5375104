use Rattle.std.proofs.Common.{Err, ap, ◌∙◌}
use Rattle.wt_turn.specs.declared.poll.Poll.TheVariants as polls
use Rattle.wt_transport.specs.Step.{end_now, unread_now}
use Rattle.wt_seam.proofs.ReadLaws.{header_since_as}
use Rattle.wt_seam.proofs.uniremote.Stream+QuicRecvStream+UniRemoteQuic.upgrade.Goals as goal

pub returns-in-Pending-clause-begun : goal.returns-in-Pending-clause-begun
returns-in-Pending-clause-begun c = rw (← c.self.view_is)
    (header_since_as c.in_ok-poll.field-0 polls.Pending c.self.inside.stage.header c.poll.new.self (unread_now c.args.t.now c.self.inside.halves.id) c.args.t.now.is_open (end_now c.args.t.now c.self.inside.halves.id)
    c.in_ok-poll.ensures.answer c.in_ok-poll.ensures.left c.in-Pending.is)

pub returns-in-Ready-Err-clause-begun : goal.returns-in-Ready-Err-clause-begun
returns-in-Ready-Err-clause-begun c = rw (← c.self.view_is)
    (header_since_as c.in_ok-poll.field-0 (polls.Ready (Err c.in-Ready-Err.error)) c.self.inside.stage.header c.poll.new.self (unread_now c.args.t.now c.self.inside.halves.id) c.args.t.now.is_open (end_now c.args.t.now c.self.inside.halves.id)
    c.in_ok-poll.ensures.answer c.in_ok-poll.ensures.left (c.in-Ready-Err.is ∙ ap (λ x. polls.Ready x) c.in-Ready-Err.field-0-is))
