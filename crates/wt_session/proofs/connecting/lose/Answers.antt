use Rattle.std.proofs.Common.{subst}
use Rattle.std.specs.Prelude.{[]}
use Rattle.wt_driver_laws.specs.Calling.{Did}
use Rattle.wt_session.proofs.Acceptances.{if-ok}
use Rattle.wt_session.specs.Replies.{connecting_reply}
use Rattle.wt_sessions.specs.Handshake.{abandon}
use Rattle.wt_turn.specs.declared.connecting_error.ConnectingError.TheVariants as connects
use Rattle.wt_turn.specs.declared.connection_error.ConnectionError.{ConnectionError}
use Rattle.wt_session.proofs.connecting.lose.Goals as goal

pub returns-clause-does : goal.returns-clause-does
returns-clause-does c = if-ok c.abandon.result (λ a h. λ side log collected f w.
    subst (λ (e : ConnectionError). Did side c.abandon.new.d collected (connecting_reply a) (abandon side log [] (connects.ConnectionError e))) (c.in_ok-error.ensures side log collected f) (h side log collected f w)) c.abandon.ensures.does
