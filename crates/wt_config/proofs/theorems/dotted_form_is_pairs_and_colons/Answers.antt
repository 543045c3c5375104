use Rattle.wt_config.proofs.DottedLaws.{dotted_is}
use Rattle.wt_config.proofs.theorems.dotted_form_is_pairs_and_colons.Goals as goal

pub returns : goal.returns
returns c = dotted_is
