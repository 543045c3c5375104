use Rattle.std.proofs.Common.{◌∙◌, subst, sym}
use Rattle.wt_pair.proofs.PairLaws.{deliver-ends, none-delivered}
use Rattle.wt_pair.proofs.pair.deliver.Goals as goal
use Rattle.wt_pair.specs.Keeping.{KeepsBoth}
use Rattle.wt_pair.specs.Kept.{EndNow}

pub returns-in-Some : goal.returns-in-Some
returns-in-Some c = λ side p k.
    deliver-ends c.arrive.result c.args.facts.now side c.args.place c.args.bytes p (record { core = c.here.inside.core; link = c.here.inside.link }) c.args.there.now c.in-Some.turn c.deliver.new.self c.arrive.new.here c.arrive.new.there
    (subst (λ (x : EndNow). KeepsBoth side x c.args.there.now p) (sym c.here.view_is) k) (sym c.in-Some.is ∙ c.in_ok-turn.ensures.turn) c.in_ok-turn.ensures.rest (c.arrive.ensures side)

pub returns-in-None : goal.returns-in-None
returns-in-None c = λ side p k.
    none-delivered c.args.facts.now side c.args.place c.args.bytes p (record { core = c.here.inside.core; link = c.here.inside.link }) c.args.there.now c.deliver.new.self
    (subst (λ (x : EndNow). KeepsBoth side x c.args.there.now p) (sym c.here.view_is) k) (sym c.in-None.is ∙ c.in_ok-turn.ensures.turn) c.in_ok-turn.ensures.rest
