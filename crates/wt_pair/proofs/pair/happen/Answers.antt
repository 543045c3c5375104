use Rattle.std.proofs.Common.{subst, sym}
use Rattle.std.specs.Prelude.{IfOk}
use Rattle.wt_pair.proofs.pair.happen.Goals as goal
use Rattle.wt_pair.specs.Keeping.{Becomes, KeepsBoth}
use Rattle.wt_pair.specs.Pair.{Ends, end_of_event, happens}
use Rattle.wt_pair.specs.declared.event.PairEvent.{PairEvent}

pub returns-in-Call : goal.returns-in-Call
returns-in-Call c =
    subst (λ (ev : PairEvent). (p : Ends) → KeepsBoth (end_of_event ev) c.args.here.now c.args.there.now p
    → IfOk c.take_call.result (λ answer. Becomes (end_of_event ev) p (happens c.args.facts.now ev p) answer c.take_call.new.here c.take_call.new.there)) (sym c.in-Call.is) (c.take_call.ensures c.in-Call.end)

pub returns-in-Deliver : goal.returns-in-Deliver
returns-in-Deliver c =
    subst (λ (ev : PairEvent). (p : Ends) → KeepsBoth (end_of_event ev) c.args.here.now c.args.there.now p
    → IfOk c.deliver.result (λ answer. Becomes (end_of_event ev) p (happens c.args.facts.now ev p) answer c.deliver.new.here c.deliver.new.there)) (sym c.in-Deliver.is) (c.deliver.ensures c.in-Deliver.to)

pub returns-in-Lose : goal.returns-in-Lose
returns-in-Lose c =
    subst (λ (ev : PairEvent). (p : Ends) → KeepsBoth (end_of_event ev) c.args.here.now c.args.there.now p
    → Becomes (end_of_event ev) p (happens c.args.facts.now ev p) c.lose.result c.lose.new.here c.args.there.now) (sym c.in-Lose.is) (c.lose.ensures c.args.facts.now c.in-Lose.to)

pub returns-in-Credit : goal.returns-in-Credit
returns-in-Credit c =
    subst (λ (ev : PairEvent). (p : Ends) → KeepsBoth (end_of_event ev) c.args.here.now c.args.there.now p
    → IfOk c.take_credit.result (λ answer. Becomes (end_of_event ev) p (happens c.args.facts.now ev p) answer c.take_credit.new.here c.take_credit.new.there)) (sym c.in-Credit.is) (c.take_credit.ensures c.in-Credit.to)
