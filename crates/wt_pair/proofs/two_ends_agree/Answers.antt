-- The claims, all by one lemma.
use Rattle.wt_pair.proofs.Agreed.{two_ends}
use Rattle.wt_pair.proofs.two_ends_agree.Goals as goal

pub returns : goal.returns
returns c = record { agree = two_ends }
