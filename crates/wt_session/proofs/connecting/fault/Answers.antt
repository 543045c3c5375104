use Rattle.std.proofs.Common.{subst, ℕ}
use Rattle.wt_driver_laws.specs.Calling.{Did}
use Rattle.wt_session.proofs.Acceptances.{if-ok}
use Rattle.wt_session.specs.Replies.{connecting_reply}
use Rattle.wt_sessions.specs.Effect.{close_when_open}
use Rattle.wt_sessions.specs.Handshake.{fail_connect}
use Rattle.wt_turn.specs.declared.connecting_error.ConnectingError.TheVariants as connects
use Rattle.wt_turn.specs.declared.connection_error.ConnectionError.TheVariants as reported
use Rattle.wt_wire.specs.declared.error.ErrorCode.{ErrorCode}
use Rattle.wt_session.proofs.connecting.fault.Goals as goal

pub returns-clause-does : goal.returns-clause-does
returns-clause-does c = if-ok c.fail.result (λ a h. λ side log collected f w.
    subst (λ (n : ℕ). Did side c.fail.new.d collected (connecting_reply a) (fail_connect side log (close_when_open log n) (connects.ConnectionError (reported.LocalH3Error c.args.code)))) c.to_code.ensures
    (subst (λ (e : ErrorCode). Did side c.fail.new.d collected (connecting_reply a) (fail_connect side log (close_when_open log c.to_code.result) (connects.ConnectionError (reported.LocalH3Error e)))) c.new.ensures (h side log collected f w))) c.fail.ensures.does
