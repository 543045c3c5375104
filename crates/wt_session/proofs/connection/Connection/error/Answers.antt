use Rattle.std.proofs.Common.{refl, sym}
use Rattle.wt_session.proofs.connection.Connection.error.Goals as goal

pub returns-then-is_gone : goal.returns-then-is_gone
returns-then-is_gone c side log collected f = rw (← c.self.view_is) (λ has. rw (c.in-NotConnected.is, sym (c.is_gone.ensures.log side log collected f has), c.if-is_gone.true) refl)

pub returns-else-is_gone : goal.returns-else-is_gone
returns-else-is_gone c side log collected f =
    rw (← c.self.view_is) (λ has. rw (c.in-NotConnected.is, sym (c.is_gone.ensures.log side log collected f has), c.if-is_gone.false) (c.transport_error.ensures side log collected f))
