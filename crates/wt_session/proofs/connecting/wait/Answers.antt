use Rattle.std.proofs.Common.{◌∙◌, sym}
use Rattle.wt_session.proofs.Acceptances.{if-ok}
use Rattle.wt_session.specs.Replies.{connecting_reply}
use Rattle.wt_session.proofs.Connects.{waiting-closed, waiting-open}
use Rattle.wt_session.proofs.connecting.wait.Goals as goal

pub returns-then-is_open-clause-does : goal.returns-then-is_open-clause-does
returns-then-is_open-clause-does c side log collected f w id = waiting-open side log collected c.args.d.now id (sym (c.is_open.ensures.log side log collected f) ∙ c.if-is_open.true) c.rests.ensures w f

pub returns-clause-does : goal.returns-clause-does
returns-clause-does c = if-ok c.lose.result (λ a h. λ side log collected f w id.
    waiting-closed side log collected c.lose.new.d id (connecting_reply a) (sym (c.is_open.ensures.log side log collected f) ∙ c.if-is_open.false) (h side log collected f w)) c.lose.ensures.does
