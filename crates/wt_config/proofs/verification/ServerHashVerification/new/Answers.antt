use Rattle.std.proofs.Common.{sym, ap, ◌∙◌}
use Rattle.std.specs.FinSet as set
use Rattle.wt_config.proofs.PinLemmas.{one_more}
use Rattle.wt_config.proofs.verification.ServerHashVerification.new.Goals as goal

pub loop-hash-preserved : goal.loop-hash-preserved
loop-hash-preserved c =
    c.in_ok-add.ensures ∙ ap (λ pins. set.insert pins c.in-Some.hash) c.loop-hash.invariant ∙ sym (one_more c.loop-hash.yielded c.in-Some.hash)
