use Rattle.std.proofs.Common.{rules, ◌∙◌}
use Rattle.wt_transport.proofs.StillRunning.{refined_peer_stream}
use Rattle.wt_transport.proofs.transport.Transport.peer_stream.Goals as goal

pub returns-then-count-clause-log : goal.returns-then-count-clause-log
returns-then-count-clause-log c = λ side log position uncollected r. search rules ∙ refined_peer_stream side c.args.self.now log position uncollected r c.args.bidirectional c.args.count

pub returns-clause-log : goal.returns-clause-log
returns-clause-log c = λ side log position uncollected r. search rules ∙ refined_peer_stream side c.args.self.now log position uncollected r c.args.bidirectional c.args.count
