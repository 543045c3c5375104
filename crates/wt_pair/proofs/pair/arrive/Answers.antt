use Rattle.std.proofs.Common.{subst, sym}
use Rattle.std.specs.Prelude.{Option, Some}
use Rattle.wt_meaning.specs.Lawful.{is_lawful}
use Rattle.wt_pair.proofs.PairLaws.{arrival-answered, arrival-stale}
use Rattle.wt_pair.proofs.pair.arrive.Goals as goal
use Rattle.wt_pair.specs.Keeping.{Becomes}
use Rattle.wt_pair.specs.Kept.{EndNow}
use Rattle.wt_pair.specs.Pair.{at_end, end_at}
use Rattle.wt_pair.specs.declared.answer.PairAnswer.{PairAnswer}

pub returns-in_ok-acknowledge-in-Some : goal.returns-in_ok-acknowledge-in-Some
returns-in_ok-acknowledge-in-Some c = λ side p k.
    arrival-answered c.args.facts.now side c.args.turn.now p c.in-Some.answer c.take_turn.new.here (record { core = c.there.inside.core; link = c.there.inside.link }) c.acknowledge.new.there
    (subst (λ (x : EndNow). Becomes side p (at_end c.args.facts.now side c.args.turn.now p (is_lawful side (end_at p side).history c.args.turn.now)) (Some c.in-Some.answer) c.take_turn.new.here x) (sym c.there.view_is)
    (subst (λ (o : Option PairAnswer). Becomes side p (at_end c.args.facts.now side c.args.turn.now p (is_lawful side (end_at p side).history c.args.turn.now)) o c.take_turn.new.here c.take_turn.new.there) c.in-Some.is
    (c.in_ok-answer.ensures side p k)))
    c.in_ok-acknowledge-in-Some.ensures

pub returns-in-None : goal.returns-in-None
returns-in-None c = λ side p k.
    arrival-stale c.args.facts.now side c.args.turn.now p c.take_turn.new.here c.take_turn.new.there
    (subst (λ (o : Option PairAnswer). Becomes side p (at_end c.args.facts.now side c.args.turn.now p (is_lawful side (end_at p side).history c.args.turn.now)) o c.take_turn.new.here c.take_turn.new.there) c.in-None.is
    (c.in_ok-answer.ensures side p k))
