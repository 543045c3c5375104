use Rattle.std.proofs.Common.{◌∙◌, ap, inl, inr, subst, sym, ℕ}
use Rattle.std.proofs.lemmas.Bool.{true≢false}
use Rattle.std.specs.Prelude.{[], ◌∷◌, Result, Some}
use Rattle.wt_driver_laws.specs.Calling.{Did, log_record}
use Rattle.wt_driver_laws.specs.Handing.{finish_actions, rejecting_actions, write_actions}
use Rattle.wt_session.proofs.Acceptances.{if-ok, says-why, twice-within}
use Rattle.wt_session.proofs.AtRest.{at-rest}
use Rattle.wt_session.proofs.Elsewhere.{dead, elsewhere}
use Rattle.wt_session.proofs.Rejections.{can-after, if-all, nothing-sent, reject-ended, reject-finishing, reject-finishing-log, reject-pending, reject-pending-log, reject-stopped}
use Rattle.wt_session.specs.Handshakes.{is_all_out, rejected_actions}
use Rattle.wt_turn.specs.Log.{Called, Log, with_actions}
use Rattle.wt_session.proofs.Sessions.{later-within}
use Rattle.wt_session.specs.Replies.{rejecting_reply}
use Rattle.wt_sessions.specs.Handshake.{end_rejection, reject_response}
use Rattle.wt_turn.specs.declared.poll.Poll.{Poll}
use Rattle.wt_turn.specs.declared.poll.Poll.TheVariants.{Ready}
use Rattle.wt_turn.specs.declared.proto_error.ProtoWriteError.{ProtoWriteError}
use Rattle.wt_session.proofs.rejecting.Rejecting.written.Goals as goal

pub returns-in-Ready-Ok-clause-does : goal.returns-in-Ready-Ok-clause-does
returns-in-Ready-Ok-clause-does c = if-all c.begin_finish.result (λ a fin waits rests. λ side log collected left waiting f r hand req laws nf u some e.
    let id = c.args.self.now.response.id in
    subst (λ (p : Poll (Unit {0})). Did side c.begin_finish.new.d collected (rejecting_reply p) (reject_response side log id left waiting)) (sym waits)
    (reject-finishing side log collected id left c.begin_finish.new.d waiting u rests r nf laws.reset
    (fin side _ collected f (later-within side log (write_actions log id left) r) (can-after side log id left laws.can) (elsewhere side log r id laws) (dead side log r id laws (write_actions log id left)))
    (let k = c.in-Ready-Ok.field-0-is in let q = rw c.in-Ready-Ok.is at k in sym (c.in-Ready-Ok.is ∙ ap (λ (x : Result (Unit {0}) ProtoWriteError). Ready x) q) ∙ e)))
    c.begin_finish.ensures.finishes c.begin_finish.ensures.waits c.begin_finish.ensures.rests

pub returns-in-Pending-clause-does : goal.returns-in-Pending-clause-does
returns-in-Pending-clause-does c side log collected left waiting f r hand req laws nf u some e =
    reject-pending side log collected c.args.self.now.response.id left c.args.d.now waiting u c.rests.ensures r f (sym c.in-Pending.is ∙ e)

pub returns-in-Ready-Err-NotConnected-clause-does : goal.returns-in-Ready-Err-NotConnected-clause-does
returns-in-Ready-Err-NotConnected-clause-does c = if-ok c.end.result (λ a k. λ side log collected left waiting f r hand req laws nf u some e.
    let id = c.args.self.now.response.id in
    let x = (let k = c.in-Ready-Err-NotConnected.field-0-is in let q = rw c.in-Ready-Err-NotConnected.is at k in let m = c.in-Ready-Err-NotConnected.field-0-0-is in let o = rw c.in-Ready-Err-NotConnected.is at m in let z = rw q at o in says-why _ _ _ _ _ c.in-Ready-Err-NotConnected.is q z e) in
    reject-ended side log collected id left c.end.new.d waiting (rejecting_reply a) (k side log collected (nothing-sent side log collected id left c.end.new.d c.args.d.now (inl x) f) r (record { state = hand; requested = req })) x) c.end.ensures.does

pub returns-in-Ready-Err-Stopped-clause-does : goal.returns-in-Ready-Err-Stopped-clause-does
returns-in-Ready-Err-Stopped-clause-does c = if-ok c.end-in-Ready-Err-Stopped.result (λ a k. λ side log collected left waiting f r hand req laws nf u some e.
    let id = c.args.self.now.response.id in
    let d = c.end-in-Ready-Err-Stopped.new.d in
    let x = (let k = c.in-Ready-Err-Stopped.field-0-is in let q = rw c.in-Ready-Err-Stopped.is at k in let m = c.in-Ready-Err-Stopped.field-0-0-is in let o = rw c.in-Ready-Err-Stopped.is at m in let z = rw q at o in says-why _ _ _ _ _ c.in-Ready-Err-Stopped.is q z e) in
    reject-stopped side log collected id left d waiting (rejecting_reply a) some
    (subst (λ (n : ℕ). Did side d collected (rejecting_reply a) (end_rejection side log id (rejecting_actions side log id (Some n)))) c.to_code.ensures
    (k side log collected (nothing-sent side log collected id left d c.args.d.now (inr x) f) r (record { state = hand; requested = req }))) x) c.end-in-Ready-Err-Stopped.ensures.does

pub returns-in-Pending-clause-stays : goal.returns-in-Pending-clause-stays
returns-in-Pending-clause-stays c p = (
  λ side log collected left waiting f r laws nf u some e.
      let id = c.args.self.now.response.id in
      ap (λ (w : Poll (Result (Unit {0}) ProtoWriteError)). Called waiting ∷ with_actions (rejected_actions w log id left) log) c.in-Pending.is
      ∙ sym (at-rest side (with_actions (write_actions log id left) log) collected c.args.d.now waiting u f (later-within side log (write_actions log id left) r))
      ∙ sym (reject-pending-log side log collected id left c.args.d.now waiting (sym c.in-Pending.is ∙ e)),
  λ n. c.in-Pending.is,
)

pub returns-in-Ready-Ok-clause-stays : goal.returns-in-Ready-Ok-clause-stays
returns-in-Ready-Ok-clause-stays c = if-all c.begin_finish.result (λ a fin waits rests. λ p. (
  λ side log collected left waiting f r laws nf u some e.
      let id = c.args.self.now.response.id in
      let is = (let k = c.in-Ready-Ok.field-0-is in let q = rw c.in-Ready-Ok.is at k in c.in-Ready-Ok.is ∙ ap (λ (x : Result (Unit {0}) ProtoWriteError). Ready x) q) in
      let g = reject-finishing-log side log collected id left c.begin_finish.new.d waiting nf laws.reset (sym is ∙ e) in
      let one = with_actions (write_actions log id left) log in
      ap (λ (w : Poll (Result (Unit {0}) ProtoWriteError)). Called waiting ∷ with_actions (rejected_actions w log id left) log) is
      ∙ ap (λ (l : Log). Called waiting ∷ l) (sym g.1)
      ∙ sym (at-rest side (with_actions (finish_actions one id) one) collected c.begin_finish.new.d waiting u
      (fin side one collected f (later-within side log (write_actions log id left) r) (can-after side log id left laws.can) (elsewhere side log r id laws) (dead side log r id laws (write_actions log id left))) (twice-within side log (write_actions log id left) (finish_actions one id) r))
      ∙ ap (λ (l : Log). log_record side l [] waiting) g.1 ∙ sym g.0,
  λ n. absurd (true≢false (ap is_all_out (sym (let k = c.in-Ready-Ok.field-0-is in let q = rw c.in-Ready-Ok.is at k in c.in-Ready-Ok.is ∙ ap (λ (x : Result (Unit {0}) ProtoWriteError). Ready x) q)) ∙ n)),
))
    c.begin_finish.ensures.finishes c.begin_finish.ensures.waits c.begin_finish.ensures.rests
