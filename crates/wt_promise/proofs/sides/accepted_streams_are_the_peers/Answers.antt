use Rattle.wt_promise.proofs.Given.{bi_given, uni_given}
use Rattle.wt_promise.proofs.sides.accepted_streams_are_the_peers.Goals as goal

pub returns : goal.returns
returns c = record { uni = uni_given; bi = bi_given }
