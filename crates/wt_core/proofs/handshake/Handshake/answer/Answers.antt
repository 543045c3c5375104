use Rattle.std.proofs.Common.{subst, sym}
use Rattle.wt_core.proofs.Shaking.{goes-answers, goes-begun, goes-responding, response-left}
use Rattle.wt_core.specs.Answering.{ShakeAnswers}
use Rattle.wt_core.proofs.handshake.Handshake.answer.Goals as goal
use Rattle.wt_turn.specs.declared.call.Call.{Call}
use Rattle.wt_turn.specs.declared.call.Call.TheVariants as calls

pub returns-in-Incoming-clause-answers : goal.returns-in-Incoming-clause-answers
returns-in-Incoming-clause-answers c = subst (λ (x : Call). ShakeAnswers c.args.d.now c.args.self.now x c.incoming.result c.incoming.new.d c.incoming.new.self) (sym c.in-Incoming.is) c.incoming.ensures.answers

pub returns-in-Handshake-clause-answers : goal.returns-in-Handshake-clause-answers
returns-in-Handshake-clause-answers c = subst (λ (x : Call). ShakeAnswers c.args.d.now c.args.self.now x c.go_on.result c.go_on.new.d c.go_on.new.self) (sym c.in-Handshake.is)
    (goes-answers calls.Handshake c.go_on.result c.args.d.now c.go_on.new.d c.args.self.now c.args.self.now c.go_on.new.self (c.go_on.ensures.answers calls.Handshake) (goes-begun c.args.d.now c.args.self.now))

pub returns-in_ok-respond-in_default-clause-answers : goal.returns-in_ok-respond-in_default-clause-answers
returns-in_ok-respond-in_default-clause-answers c = goes-answers c.args.call.now c.go_on-in_default.result c.args.d.now c.go_on-in_default.new.d c.args.self.now c.respond.new.self c.go_on-in_default.new.self (c.go_on-in_default.ensures.answers c.args.call.now)
    (goes-responding c.args.d.now c.args.self.now c.respond.new.self c.args.call.now (response-left c.args.call.now c.requires c.in_default.not-Connect c.in_default.not-Incoming c.in_default.not-Handshake) c.in_ok-respond-in_default.ensures)
