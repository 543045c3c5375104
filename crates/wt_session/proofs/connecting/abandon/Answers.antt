use Rattle.std.proofs.Common.{subst, ℕ}
use Rattle.wt_driver_laws.specs.Calling.{Did}
use Rattle.wt_session.proofs.Acceptances.{if-ok}
use Rattle.wt_session.specs.Replies.{connecting_reply}
use Rattle.wt_sessions.specs.Effect.{close_when_open}
use Rattle.wt_sessions.specs.Handshake.{fail_connect}
use Rattle.wt_session.proofs.connecting.abandon.Goals as goal

pub returns-clause-does : goal.returns-clause-does
returns-clause-does c = if-ok c.fail.result (λ a h. λ side log collected f w.
    subst (λ (n : ℕ). Did side c.fail.new.d collected (connecting_reply a) (fail_connect side log (close_when_open log n) c.args.error)) c.from_u32.ensures (h side log collected f w)) c.fail.ensures.does
