use Rattle.std.proofs.Common.{◌∙◌, sym, true}
use Rattle.wt_pair.proofs.StreamLaws.{lost_on}
use Rattle.wt_pair.proofs.link.Link.lose.Goals as goal

pub returns-clause-streams : goal.returns-clause-streams
returns-clause-streams c = lost_on c.args.self.now c.take-lost.new.self c.args.place true (sym (sym c.has_datagram.ensures ∙ c.if-not-has_datagram.false)) c.take-lost.ensures.rest
