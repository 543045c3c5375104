use Rattle.std.proofs.Common.{ap}
use Rattle.wt_turn.specs.declared.reply.Reply.TheVariants as replies
use Rattle.wt_turn.specs.declared.connecting_error.ConnectingError.TheVariants as connects
use Rattle.wt_session.proofs.connecting.end.Goals as goal

pub returns-clause-fails : goal.returns-clause-fails
returns-clause-fails c side log collected f = ap (λ x. replies.ConnectFailed (connects.ConnectionError x)) (c.in_ok-error.ensures side log collected f)
