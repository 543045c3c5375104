use Rattle.std.proofs.Common.{◌∙◌, ap, refl, sym}
use Rattle.wt_turn.specs.declared.reply.Reply.TheVariants as replies
use Rattle.wt_session.proofs.Sessions.{closed-says}
use Rattle.wt_session.proofs.connection.Connection.closed.Goals as goal

pub returns-then-is_open-clause-does : goal.returns-then-is_open-clause-does
returns-then-is_open-clause-does c side log collected f r has =
    closed-says side log collected c.args.d.now replies.Pending has r c.rests.ensures f (rw (sym (c.is_open.ensures.log side log collected f) ∙ c.if-is_open.true) refl)

pub returns-clause-does : goal.returns-clause-does
returns-clause-does c side log collected f r has =
    closed-says side log collected c.args.d.now _ has r c.rests.ensures f
    (rw (sym (c.is_open.ensures.log side log collected f) ∙ c.if-is_open.false) (ap replies.Closed (c.in_ok-transport_error.ensures side log collected f)))
