use Rattle.std.proofs.Common.{◌∙◌, Option, ap}
use Rattle.std.specs.Prelude.{is_some}
use Rattle.wt_kept.specs.Kept.{SessionEndNow}
use Rattle.wt_peer_streams.proofs.ByNumberLaws.{gone-any, some-copied}
use Rattle.wt_peer_streams.specs.Gone.{end_now}
use Rattle.wt_peer_streams.proofs.sessions.Sessions.is_gone.Goals as goal

pub returns : goal.returns
returns c = c.is_some.ensures ∙ (some-copied end_now c.end_of.result ∙ (ap (λ (o : Option SessionEndNow). is_some o) c.end_of.ensures ∙ gone-any c.args.session c.args.self.now.gone))
