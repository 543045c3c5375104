use Rattle.std.proofs.Common.{◌∙◌, ap}
use Rattle.wt_kept.specs.Windows.{joined_by}
use Rattle.wt_peer_streams.proofs.SessionsLaws.{asked, changed-at, on-ok, unchanged-at}
use Rattle.wt_peer_streams.specs.contracts.live.LiveSession as live
use Rattle.wt_peer_streams.specs.contracts.sessions.Sessions.{the_view}
use Rattle.wt_peer_streams.proofs.sessions.Sessions.join.Goals as goal

pub returns-in-Some : goal.returns-in-Some
returns-in-Some c =
    on-ok c.add.result
    (λ e. changed-at c.args.session (the_view c.self.inside) c.args.self.now c.in-Some.index c.index_mut-live.result.now c.self.view_is (asked c.args.self.now c.in-Some.ensures c.session_stream.ensures.stream) c.index_mut-live.ensures.value
    (joined_by c.args.id) (record (live.the_view c.live.inside) { members = c.add.new.self }) ((λ i. record (live.the_view c.live.inside) { members = e i }) ∙ ap (joined_by c.args.id) c.live.view_is)) c.add.ensures

pub returns-in-None : goal.returns-in-None
returns-in-None c = unchanged-at (joined_by c.args.id) c.args.session c.args.self.now (asked c.args.self.now c.in-None.ensures c.session_stream.ensures.stream)
