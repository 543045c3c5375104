use Rattle.std.proofs.Common.{◌∙◌, ap, sym}
use Rattle.std.specs.Prelude.{Some}
use Rattle.wt_handle.proofs.State.answer.Goals as goal

pub returns-then-not-is_lawful-clause-unlawful : goal.returns-then-not-is_lawful-clause-unlawful
returns-then-not-is_lawful-clause-unlawful c = λ _ side h k. sym (c.is_lawful.ensures.history side h k) ∙ c.if-not-is_lawful.true

pub returns-in-Ok-clause-done : goal.returns-in-Ok-clause-done
returns-in-Ok-clause-done c = λ _ side h k.
    let lawful = sym (c.is_lawful.ensures.history side h k) ∙ c.if-not-is_lawful.false in
    record { lawful = lawful; last = ap Some (c.in-Ok.ensures.answer side h k lawful); kept = c.in-Ok.ensures.history side h k lawful }
