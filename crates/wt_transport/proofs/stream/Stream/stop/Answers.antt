use Rattle.std.proofs.Common.{ap, ◌∙◌}
use Rattle.std.specs.Prelude.{is_some, not}
use Rattle.wt_transport.specs.StreamState.{Stream, with_stop, signal}
use Rattle.wt_transport.proofs.Reports.{stop_is}
use Rattle.wt_transport.proofs.stream.Stream.stop.Goals as goal

pub returns : goal.returns
returns c = stop_is c.self.inside c.args.counts c.args.code (ap (λ (s : Stream). not (is_some s.all_signals.stop)) c.self.view_is ∙ c.requires) ∙ ap (λ (s : Stream). signal c.args.counts (with_stop c.args.code) s) c.self.view_is
