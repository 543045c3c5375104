use Rattle.std.proofs.Common.{◌∙◌, subst, sym}
use Rattle.std.specs.Prelude.{[]}
use Rattle.wt_driver_laws.specs.Calling.{Did}
use Rattle.wt_session.proofs.Acceptances.{if-ok}
use Rattle.wt_session.specs.Replies.{connecting_reply}
use Rattle.wt_sessions.specs.Handshake.{read_response}
use Rattle.wt_proto.specs.declared.response_walk.ResponseWalk.{ResponseWalk}
use Rattle.wt_session.proofs.stage.Asking.answered.Goals as goal

pub returns-in-Waiting-clause-does : goal.returns-in-Waiting-clause-does
returns-in-Waiting-clause-does c = if-ok c.wait.result (λ a h. λ side log collected f w may e.
    subst (λ (x : ResponseWalk). Did side c.wait.new.d collected (connecting_reply a) (read_response side log c.args.self.now.id [] x)) (sym c.in-Waiting.is) (h side log collected f w c.args.self.now.id)) c.wait.ensures.does

pub returns-in-Ended-clause-does : goal.returns-in-Ended-clause-does
returns-in-Ended-clause-does c = if-ok c.lose.result (λ a h. λ side log collected f w may e.
    subst (λ (x : ResponseWalk). Did side c.lose.new.d collected (connecting_reply a) (read_response side log c.args.self.now.id [] x)) (sym c.in-Ended.is) (h side log collected f w)) c.lose.ensures.does

pub returns-in-Fault-clause-does : goal.returns-in-Fault-clause-does
returns-in-Fault-clause-does c = if-ok c.fault.result (λ a h. λ side log collected f w may e.
    subst (λ (x : ResponseWalk). Did side c.fault.new.d collected (connecting_reply a) (read_response side log c.args.self.now.id [] x)) (sym c.in-Fault.is) (h side log collected f w)) c.fault.ensures.does

pub returns-in-Response-clause-does : goal.returns-in-Response-clause-does
returns-in-Response-clause-does c = if-ok c.judge.result (λ a h. λ side log collected f w may e.
    subst (λ (x : ResponseWalk). Did side c.judge.new.d collected (connecting_reply a) (read_response side log c.args.self.now.id [] x)) (sym c.in-Response.is) (h side log collected f w _ may (sym e ∙ c.in-Response.is))) c.judge.ensures.does
