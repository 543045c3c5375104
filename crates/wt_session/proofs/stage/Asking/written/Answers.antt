use Rattle.std.proofs.Common.{◌∙◌, ap, inl, inr, sym}
use Rattle.std.specs.Prelude.{Result}
use Rattle.wt_driver_laws.specs.Handing.{write_actions}
use Rattle.wt_session.proofs.Acceptances.{if-ok, says-why}
use Rattle.wt_session.proofs.Asks.{respond-after}
use Rattle.wt_session.proofs.Connects.{more-within, request-closed, request-out, request-pending, request-stopped}
use Rattle.wt_session.proofs.Rejections.{nothing-sent}
use Rattle.wt_session.specs.Replies.{connecting_reply}
use Rattle.wt_turn.specs.declared.poll.Poll.TheVariants.{Ready}
use Rattle.wt_turn.specs.declared.proto_error.ProtoWriteError.{ProtoWriteError}
use Rattle.wt_session.proofs.stage.Asking.written.Goals as goal

pub returns-in-Pending-clause-does : goal.returns-in-Pending-clause-does
returns-in-Pending-clause-does c side log collected left f w may n e =
    request-pending side log collected c.args.self.now.id left c.args.d.now n c.rests.ensures w f (sym c.in-Pending.is ∙ e)

pub returns-in-Ready-Ok-clause-does : goal.returns-in-Ready-Ok-clause-does
returns-in-Ready-Ok-clause-does c = if-ok c.await_response.result (λ a h. λ side log collected left f w may n e.
    let id = c.args.self.now.id in
    let is = (let k = c.in-Ready-Ok.field-0-is in let q = rw c.in-Ready-Ok.is at k in c.in-Ready-Ok.is ∙ ap (λ (x : Result (Unit {0}) ProtoWriteError). Ready x) q) in
    request-out side log collected id left c.await_response.new.d (connecting_reply a) n
    (h side _ collected f (more-within side log (write_actions log id left) w) (respond-after side log id left may)) (sym is ∙ e)) c.await_response.ensures.does

pub returns-in-Ready-Err-NotConnected-clause-does : goal.returns-in-Ready-Err-NotConnected-clause-does
returns-in-Ready-Err-NotConnected-clause-does c = if-ok c.lose.result (λ a h. λ side log collected left f w may n e.
    let id = c.args.self.now.id in
    let x = (let k = c.in-Ready-Err-NotConnected.field-0-is in let q = rw c.in-Ready-Err-NotConnected.is at k in let m = c.in-Ready-Err-NotConnected.field-0-0-is in let o = rw c.in-Ready-Err-NotConnected.is at m in let z = rw q at o in says-why _ _ _ _ _ c.in-Ready-Err-NotConnected.is q z e) in
    request-closed side log collected id left c.lose.new.d (connecting_reply a) n (h side log collected (nothing-sent side log collected id left c.lose.new.d c.args.d.now (inl x) f) w) x) c.lose.ensures.does

pub returns-in-Ready-Err-Stopped-clause-does : goal.returns-in-Ready-Err-Stopped-clause-does
returns-in-Ready-Err-Stopped-clause-does c = if-ok c.abandon.result (λ a h. λ side log collected left f w may n e.
    let id = c.args.self.now.id in
    let x = (let k = c.in-Ready-Err-Stopped.field-0-is in let q = rw c.in-Ready-Err-Stopped.is at k in let m = c.in-Ready-Err-Stopped.field-0-0-is in let o = rw c.in-Ready-Err-Stopped.is at m in let z = rw q at o in says-why _ _ _ _ _ c.in-Ready-Err-Stopped.is q z e) in
    request-stopped side log collected id left c.abandon.new.d (connecting_reply a) n (h side log collected (nothing-sent side log collected id left c.abandon.new.d c.args.d.now (inr x) f) w) x) c.abandon.ensures.does
