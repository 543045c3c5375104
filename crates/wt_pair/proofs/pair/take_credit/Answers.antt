use Rattle.std.proofs.Common.{◌∙◌, ◌&&◌, Bool, subst, sym}
use Rattle.std.specs.Prelude.{IfOk}
use Rattle.wt_meaning.specs.Lawful.{is_lawful}
use Rattle.wt_pair.proofs.PairLaws.{no-credit}
use Rattle.wt_pair.proofs.pair.take_credit.Goals as goal
use Rattle.wt_pair.specs.Keeping.{Becomes}
use Rattle.wt_pair.specs.Pair.{at_end, end_at}

pub returns-then-not-gives_credit : goal.returns-then-not-gives_credit
returns-then-not-gives_credit c = λ side p k. no-credit c.args.facts.now side c.args.turn.now p c.args.here.now c.args.there.now (sym c.gives_credit.ensures ∙ c.if-not-gives_credit.true) k

pub returns : goal.returns
returns c = λ side p k.
    subst (λ (b : Bool). IfOk c.take_turn.result (λ answer. Becomes side p (at_end c.args.facts.now side c.args.turn.now p (b && is_lawful side (end_at p side).history c.args.turn.now)) answer c.take_turn.new.here c.take_turn.new.there))
    (sym (sym c.gives_credit.ensures ∙ c.if-not-gives_credit.false)) (c.take_turn.ensures side p k)
