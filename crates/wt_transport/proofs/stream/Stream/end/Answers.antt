use Rattle.std.proofs.Common.{ap, ◌∙◌}
use Rattle.wt_turn.specs.Reports.{is_running}
use Rattle.wt_transport.specs.StreamState.{Stream, with_end, signal}
use Rattle.wt_transport.proofs.Reports.{end_is}
use Rattle.wt_transport.proofs.stream.Stream.end.Goals as goal

pub returns : goal.returns
returns c = end_is c.self.inside c.args.counts c.args.end.now (ap (λ (s : Stream). is_running s.all_signals.end) c.self.view_is ∙ c.requires) ∙ ap (λ (s : Stream). signal c.args.counts (with_end c.args.end.now) s) c.self.view_is
