use Rattle.std.proofs.Common.{arith, rules, sym, ◌∙◌}
use Rattle.std.proofs.lemmas.Grind.{common_steps}
use Rattle.wt_transport.proofs.Results.{moved}
use Rattle.wt_transport.proofs.GivingUp.{given_up_again}
use Rattle.wt_transport.proofs.Refining.{give_up_refines}
use Rattle.wt_transport.proofs.transport.Transport.give_up.Goals as goal

pub returns-then-can_receive-clause-log : goal.returns-then-can_receive-clause-log
returns-then-can_receive-clause-log c = λ can side log position uncollected r. moved _ (grind (arith, common_steps)) (give_up_refines side c.args.self.now log position uncollected r c.args.id can)

pub returns-then-can_receive-clause-again : goal.returns-then-can_receive-clause-again
returns-then-can_receive-clause-again c = λ side log position uncollected r gone. search rules ∙ given_up_again side c.args.self.now log position uncollected r c.args.id gone (sym c.can_receive.ensures.now ∙ c.if-can_receive.true)
