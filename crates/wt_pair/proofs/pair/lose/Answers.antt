use Rattle.std.proofs.Common.{◌∙◌, ap, false, subst, sym, true}
use Rattle.wt_pair.proofs.PairLaws.{lost-becomes}
use Rattle.wt_pair.proofs.pair.lose.Goals as goal
use Rattle.wt_pair.specs.Keeping.{KeepsBoth}
use Rattle.wt_pair.specs.Kept.{EndNow, lost_from}

pub returns-then-lose : goal.returns-then-lose
returns-then-lose c = λ f side p k.
    lost-becomes f side c.args.place p (record { core = c.here.inside.core; link = c.here.inside.link }) c.args._there.now c.lose.new.self true
    (subst (λ (x : EndNow). KeepsBoth side x c.args._there.now p) (sym c.here.view_is) k) (sym c.if-lose.true ∙ c.lose.ensures.lost) (c.lose.ensures.rest ∙ ap (lost_from c.args.place c.here.inside.link) c.if-lose.true)

pub returns : goal.returns
returns c = λ f side p k.
    lost-becomes f side c.args.place p (record { core = c.here.inside.core; link = c.here.inside.link }) c.args._there.now c.lose.new.self false
    (subst (λ (x : EndNow). KeepsBoth side x c.args._there.now p) (sym c.here.view_is) k) (sym c.if-lose.false ∙ c.lose.ensures.lost) (c.lose.ensures.rest ∙ ap (lost_from c.args.place c.here.inside.link) c.if-lose.false)
