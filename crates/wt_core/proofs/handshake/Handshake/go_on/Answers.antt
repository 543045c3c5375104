use Rattle.std.proofs.Common.{ap, subst}
use Rattle.wt_core.proofs.Shaking.{accepted-on, connected-on, rejected-on}
use Rattle.wt_core.specs.Shakes.{PollsBy, Shake, shake_as}
use Rattle.wt_core.proofs.handshake.Handshake.go_on.Goals as goal

pub returns-in_ok-answer-in-Connecting-clause-answers : goal.returns-in_ok-answer-in-Connecting-clause-answers
returns-in_ok-answer-in-Connecting-clause-answers c = rw (← c.self.view_is) (λ call side log collected f r p may.
    connected-on call c.args.d.now c.poll.new.d c.connected.new.self c.connected.result side log collected f r c.in-Connecting.connecting c.poll.new.self c.in_ok-answer-in-Connecting.answer c.connected.ensures.outcome c.connected.ensures.shake
    c.in_ok-answer-in-Connecting.ensures.does c.in_ok-answer-in-Connecting.ensures.goes_on (subst (λ (s : Shake). PollsBy s call side log) (ap shake_as c.in-Connecting.is) p))

pub returns-in_ok-answer-in-Accepting-clause-answers : goal.returns-in_ok-answer-in-Accepting-clause-answers
returns-in_ok-answer-in-Accepting-clause-answers c = rw (← c.self.view_is) (λ call side log collected f r p may.
    accepted-on call c.args.d.now c.poll-in-Accepting.new.d c.accepted.new.self c.accepted.result side log collected f r c.in-Accepting.accepting c.poll-in-Accepting.new.self c.in_ok-answer-in-Accepting.answer c.accepted.ensures.outcome c.accepted.ensures.shake
    (c.in_ok-answer-in-Accepting.ensures.does call) (c.in_ok-answer-in-Accepting.ensures.goes_on call) (subst (λ (s : Shake). PollsBy s call side log) (ap shake_as c.in-Accepting.is) p))

pub returns-in_ok-answer-in-Rejecting-clause-answers : goal.returns-in_ok-answer-in-Rejecting-clause-answers
returns-in_ok-answer-in-Rejecting-clause-answers c = rw (← c.self.view_is) (λ call side log collected f r p may.
    rejected-on call c.args.d.now c.poll-in-Rejecting.new.d c.rejected.new.self c.rejected.result side log collected f r c.in-Rejecting.rejecting c.poll-in-Rejecting.new.self c.in_ok-answer-in-Rejecting.answer c.rejected.ensures.outcome c.rejected.ensures.shake
    (c.in_ok-answer-in-Rejecting.ensures.does call) (c.in_ok-answer-in-Rejecting.ensures.goes_on call) (subst (λ (s : Shake). PollsBy s call side log) (ap shake_as c.in-Rejecting.is) p))
