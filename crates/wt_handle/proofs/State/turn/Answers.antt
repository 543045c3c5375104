use Rattle.std.proofs.Common.{◌≡◌, ◌∙◌, subst, sym}
use Rattle.std.specs.Prelude.{IsSomeAnd, false}
use Rattle.wt_handle.specs.Answers.{Answered}
use Rattle.wt_meaning.specs.Lawful.{is_lawful}
use Rattle.wt_handle.proofs.State.turn.Goals as goal

pub returns-in-Some-clause-done : goal.returns-in-Some-clause-done
returns-in-Some-clause-done c = λ done side h k.
    subst (λ read. IsSomeAnd read (λ turn. Answered side h turn c.answer.new.self)) (sym c.in-Some.is ∙ c.in-Ok.ensures) (c.answer.ensures.done done side h k)

pub returns-in-Some-clause-unlawful : goal.returns-in-Some-clause-unlawful
returns-in-Some-clause-unlawful c = λ unlawful side h k.
    subst (λ read. IsSomeAnd read (λ turn. is_lawful side h turn ≡ false)) (sym c.in-Some.is ∙ c.in-Ok.ensures) (c.answer.ensures.unlawful unlawful side h k)
