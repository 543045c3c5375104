use Rattle.std.proofs.Common.{ap, ◌∙◌}
use Rattle.std.specs.FinSet as set
use Rattle.wt_config.proofs.PinLemmas.{pinned_too, on_ok, on_err}
use Rattle.wt_config.proofs.verification.ServerHashVerification.add.Goals as goal
use Rattle.wt_config.proofs.verification.ServerHashVerification.add.Goals.{in-Ok, in-Err}

pub returns : goal.returns
returns c = elim c.match-insert.branch [
  | in-Ok w ↦ on_ok c.match-insert.result _ w.result-is
      (pinned_too c.self.inside.hashes.keys c.insert.new.self.keys c.args.digest w.in-Ok.ensures.updates.0
      ∙ ap (λ pins. set.insert pins c.args.digest) c.self.view_is)
  | in-Err w ↦ on_err _ c.match-insert.result _ w.result-is
]
