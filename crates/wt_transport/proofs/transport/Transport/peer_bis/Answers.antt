use Rattle.std.proofs.Common.{rules, ◌∙◌}
use Rattle.wt_transport.proofs.Asking.{refined_peer_bis}
use Rattle.wt_transport.proofs.transport.Transport.peer_bis.Goals as goal

pub returns-clause-log : goal.returns-clause-log
returns-clause-log c = λ side log position uncollected r. search rules ∙ refined_peer_bis side c.args.self.now log position uncollected r
