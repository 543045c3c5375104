use Rattle.std.proofs.Common.{◌∙◌, sym}
use Rattle.wt_session.proofs.Acceptances.{if-ok}
use Rattle.wt_session.specs.Replies.{connecting_reply}
use Rattle.wt_session.proofs.Connects.{response-accepted, response-refused, success-is}
use Rattle.wt_session.proofs.stage.Asking.judge.Goals as goal

pub returns-then-is_successful-clause-does : goal.returns-then-is_successful-clause-does
returns-then-is_successful-clause-does c = if-ok c.establish.result (λ a h. λ side log collected f w offset may e.
    response-accepted side log collected c.establish.new.d c.args.self.now.id offset c.args.response (connecting_reply a)
    (success-is c.args.response c.code-status.result c.code-status.ensures ∙ sym c.is_successful.ensures ∙ c.if-is_successful.true) (h side log collected f w c.args.response offset may e)) c.establish.ensures.does

pub returns-clause-does : goal.returns-clause-does
returns-clause-does c = if-ok c.abandon.result (λ a h. λ side log collected f w offset may e.
    response-refused side log collected c.abandon.new.d c.args.self.now.id offset c.args.response (connecting_reply a)
    (success-is c.args.response c.code-status.result c.code-status.ensures ∙ sym c.is_successful.ensures ∙ c.if-is_successful.false) (h side log collected f w)) c.abandon.ensures.does
