use Rattle.std.proofs.Common.{◌∙◌, ap, sym}
use Rattle.std.specs.Prelude.{List, Result}
use Rattle.wt_turn.specs.declared.poll.Poll.TheVariants.{Ready}
use Rattle.wt_turn.specs.declared.proto_error.ProtoWriteError.{ProtoWriteError}
use Rattle.wt_meaning.specs.Handshakes.{loss_error}
use Rattle.wt_driver_laws.specs.Handing.{write_actions}
use Rattle.wt_session.proofs.Acceptances.{begun-does, closed-does, if-ok, may-begin, pending-does, says-why, stopped-with}
use Rattle.wt_session.proofs.Middle.{events-stay}
use Rattle.wt_session.proofs.Sessions.{later-within}
use Rattle.wt_turn.specs.Reports.{loss_of}
use Rattle.wt_turn.specs.Log.{Event}
use Rattle.wt_turn.specs.declared.reply.Reply.TheVariants as replies
use Rattle.wt_session.proofs.accepting.Accepting.written.Goals as goal

pub returns-in-Pending-clause-does : goal.returns-in-Pending-clause-does
returns-in-Pending-clause-does c side log collected left waiting f r server laws nf u n e =
    pending-does side log collected c.args.self.now.id left c.args.d.now waiting u c.rests.ensures r f (sym c.in-Pending.is ∙ e)

pub returns-in-Ready-Ok-clause-does : goal.returns-in-Ready-Ok-clause-does
returns-in-Ready-Ok-clause-does c = if-ok c.establish.result (λ a b. λ side log collected left waiting f r server laws nf u n e.
    begun-does side log collected c.args.self.now.id left c.establish.new.d waiting a
    (b side _ collected f (later-within side log (write_actions log c.args.self.now.id left) r) _ (may-begin side log c.args.self.now.id left server laws nf))
    (let k = c.in-Ready-Ok.field-0-is in let q = rw c.in-Ready-Ok.is at k in sym (c.in-Ready-Ok.is ∙ ap (λ (x : Result (Unit {0}) ProtoWriteError). Ready x) q) ∙ e)) c.establish.ensures.begins

pub returns-in_ok-transport_error-in-Ready-Err-NotConnected-clause-does : goal.returns-in_ok-transport_error-in-Ready-Err-NotConnected-clause-does
returns-in_ok-transport_error-in-Ready-Err-NotConnected-clause-does c side log collected left waiting f r server laws nf u n e =
    closed-does side log collected c.args.self.now.id left c.args.d.now waiting _ c.rests-in-Ready-Err-NotConnected.ensures r f
    (let k = c.in-Ready-Err-NotConnected.field-0-is in let q = rw c.in-Ready-Err-NotConnected.is at k in let m = c.in-Ready-Err-NotConnected.field-0-0-is in let o = rw c.in-Ready-Err-NotConnected.is at m in let z = rw q at o in says-why _ _ _ _ _ c.in-Ready-Err-NotConnected.is q z e)
    (ap replies.Failed ((c.in_ok-transport_error-in-Ready-Err-NotConnected).ensures side _ collected f
    ∙ ap (λ (es : List Event). loss_error (loss_of es)) (events-stay (write_actions log c.args.self.now.id left) log)))

pub returns-in_ok-close-in-Ready-Err-Stopped-clause-does : goal.returns-in_ok-close-in-Ready-Err-Stopped-clause-does
returns-in_ok-close-in-Ready-Err-Stopped-clause-does c side log collected left waiting f r server laws nf u n e =
    rw c.new-in-Ready-Err-Stopped.ensures (stopped-with side log collected c.args.self.now.id left c.close.new.self waiting _ _ c.to_code.ensures c.new.ensures c.rests-in-Ready-Err-Stopped.ensures r n
    ((c.in_ok-close-in-Ready-Err-Stopped).ensures.log side _ collected f (later-within side log (write_actions log c.args.self.now.id left) r))
    (let k = c.in-Ready-Err-Stopped.field-0-is in let q = rw c.in-Ready-Err-Stopped.is at k in let m = c.in-Ready-Err-Stopped.field-0-0-is in let o = rw c.in-Ready-Err-Stopped.is at m in let z = rw q at o in says-why _ _ _ _ _ c.in-Ready-Err-Stopped.is q z e))
