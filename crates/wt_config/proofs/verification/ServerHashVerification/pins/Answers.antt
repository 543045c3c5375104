use Rattle.std.proofs.Common.{sym, ap, ◌∙◌}
use Rattle.std.specs.FinSet as set
use Rattle.wt_config.proofs.PinLemmas.{pins_contain}
use Rattle.wt_config.proofs.verification.ServerHashVerification.pins.Goals as goal

pub returns : goal.returns
returns c =
    c.contains.ensures
    ∙ sym (pins_contain c.self.inside.hashes.keys c.args.digest.now)
    ∙ ap (λ pins. set.contains pins c.args.digest.now) c.self.view_is
