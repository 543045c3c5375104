use Rattle.std.proofs.Common.{sym, ◌∙◌}
use Rattle.wt_endpoint.proofs.Closing.{shut_answer, shut_history, taken_answer, taken_history}
use Rattle.wt_endpoint.proofs.connections.close_next.Goals as goal

pub returns-then-not-is_open-clause-answer : goal.returns-then-not-is_open-clause-answer
returns-then-not-is_open-clause-answer c = λ side h k l.
    shut_answer side h c.args.number c.args.turn.now c.args.closings.now (sym (c.is_open.ensures.history side h k) ∙ c.if-not-is_open.true)

pub returns-then-not-is_open-clause-history : goal.returns-then-not-is_open-clause-history
returns-then-not-is_open-clause-history c = λ side h k l.
    shut_history side c.args.core.now h c.args.turn.now k (sym (c.is_open.ensures.history side h k) ∙ c.if-not-is_open.true)

pub returns-clause-answer : goal.returns-clause-answer
returns-clause-answer c = λ side h k l.
    taken_answer side h c.args.number c.args.turn.now c.in_ok-answer.answer c.args.closings.now _ _ (sym (c.is_open.ensures.history side h k) ∙ c.if-not-is_open.false) (c.in_ok-answer.ensures.answer side h k l)
    c.push.ensures.ok

pub returns-clause-history : goal.returns-clause-history
returns-clause-history c = λ side h k l.
    taken_history side c.turn.new.self h c.args.turn.now _ (sym (c.is_open.ensures.history side h k) ∙ c.if-not-is_open.false) (c.in_ok-answer.ensures.history side h k l)
