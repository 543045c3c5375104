use Rattle.std.proofs.Common.{◌∙◌, ap, subst, sym}
use Rattle.wt_core.specs.CoreState.{KeepsHistory}
use Rattle.wt_pair.proofs.pair.End.take_turn.Goals as goal
use Rattle.wt_pair.specs.Kept.{EndNow}

pub returns-then-not-is_lawful : goal.returns-then-not-is_lawful
returns-then-not-is_lawful c = λ side e k.
    let kept = subst (λ (x : EndNow). KeepsHistory side x.core e.history) (sym c.self.view_is) k.core in (sym (c.is_lawful.ensures.history side e.history kept) ∙ c.if-not-is_lawful.true, k)

pub returns : goal.returns
returns c = λ side e k.
    let kept = subst (λ (x : EndNow). KeepsHistory side x.core e.history) (sym c.self.view_is) k.core in
    let lawful = sym (c.is_lawful.ensures.history side e.history kept) ∙ c.if-not-is_lawful.false in (
      lawful,
      c.in_ok-answer.ensures.answer side e.history kept lawful,
      record { core = c.in_ok-answer.ensures.history side e.history kept lawful; link = ap (λ (x : EndNow). x.link) c.self.view_is ∙ k.link },
    )
