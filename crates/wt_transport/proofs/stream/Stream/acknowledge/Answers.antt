use Rattle.std.proofs.Common.{ap, ◌∙◌}
use Rattle.std.specs.Prelude.{not}
use Rattle.wt_transport.specs.StreamState.{Stream, with_ack, signal}
use Rattle.wt_transport.proofs.Reports.{ack_is}
use Rattle.wt_transport.proofs.stream.Stream.acknowledge.Goals as goal

pub returns : goal.returns
returns c = ack_is c.self.inside c.args.counts (ap (λ (s : Stream). not s.all_signals.acknowledged) c.self.view_is ∙ c.requires) ∙ ap (λ (s : Stream). signal c.args.counts with_ack s) c.self.view_is
