use Rattle.std.proofs.Common.{lit<, ap, ◌∙◌}
use Rattle.wt_config.specs.DigestText.{without_back}
use Rattle.wt_config.proofs.DigestReading.{trimmed_front, trimmed_back}
use Rattle.wt_config.proofs.digest.strip_brackets.Goals as goal

pub returns : goal.returns
returns c =
    trimmed_back 93 c.trim_start_matches.result.now c.trim_end_matches.result.now (lit< tt) c.trim_end_matches.ensures.matches
    ∙ ap (λ text. without_back 93 text) (trimmed_front 91 c.args.text.now c.trim_start_matches.result.now (lit< tt) c.trim_start_matches.ensures.matches)
