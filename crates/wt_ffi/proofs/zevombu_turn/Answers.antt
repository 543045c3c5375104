use Rattle.std.proofs.Common.{subst, sym}
use Rattle.wt_core.specs.CoreState.{KeepsHistory}
use Rattle.wt_ffi.proofs.zevombu_turn.Goals as goal

pub returns-in-Done-clause-done : goal.returns-in-Done-clause-done
returns-in-Done-clause-done c = λ _ side h k.
    c.turn.ensures.done c.in-Done.is side h (subst (λ state. KeepsHistory side state.core h) (sym c.state-state.ensures.value) k)

pub returns-in-Unlawful-clause-unlawful : goal.returns-in-Unlawful-clause-unlawful
returns-in-Unlawful-clause-unlawful c = λ _ side h k.
    c.turn.ensures.unlawful c.in-Unlawful.is side h (subst (λ state. KeepsHistory side state.core h) (sym c.state-state.ensures.value) k)
