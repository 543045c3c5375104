use Rattle.std.proofs.Common.{◌∙◌, Option, ap, sym}
use Rattle.wt_kept.specs.Kept.{LiveNow}
use Rattle.wt_kept.specs.Windows.{first_datagram, given_datagram}
use Rattle.wt_peer_streams.proofs.SessionsLaws.{asked, changed-at, found-at, none-at, unchanged-at}
use Rattle.wt_peer_streams.specs.Living.{datagrams_of}
use Rattle.wt_peer_streams.specs.contracts.live.LiveSession as live
use Rattle.wt_peer_streams.specs.contracts.sessions.Sessions.{the_view}
use Rattle.wt_peer_streams.proofs.sessions.Sessions.take_datagram.Goals as goal

pub returns-in-Some-clause-datagram : goal.returns-in-Some-clause-datagram
returns-in-Some-clause-datagram c =
    c.take_datagram.ensures.datagram
    ∙ (ap (λ (x : LiveNow). first_datagram x.window.datagrams) c.live.view_is
    ∙ ap (λ (o : Option LiveNow). first_datagram (datagrams_of o)) (sym (found-at c.args.session (the_view c.self.inside) c.args.self.now c.in-Some.index c.index_mut-live.result.now c.self.view_is (asked c.args.self.now c.in-Some.ensures c.session_stream.ensures.stream) c.index_mut-live.ensures.value)))

pub returns-in-Some-clause-sessions : goal.returns-in-Some-clause-sessions
returns-in-Some-clause-sessions c =
    changed-at c.args.session (the_view c.self.inside) c.args.self.now c.in-Some.index c.index_mut-live.result.now c.self.view_is (asked c.args.self.now c.in-Some.ensures c.session_stream.ensures.stream) c.index_mut-live.ensures.value
    given_datagram (record (live.the_view c.live.inside) { window = c.take_datagram.new.self })
    ((λ i. record (live.the_view c.live.inside) { window = c.take_datagram.ensures.rest i }) ∙ ap given_datagram c.live.view_is)

pub returns-in-None-clause-datagram : goal.returns-in-None-clause-datagram
returns-in-None-clause-datagram c = sym (ap (λ (o : Option LiveNow). first_datagram (datagrams_of o)) (none-at c.args.session c.args.self.now (asked c.args.self.now c.in-None.ensures c.session_stream.ensures.stream)))

pub returns-in-None-clause-sessions : goal.returns-in-None-clause-sessions
returns-in-None-clause-sessions c = unchanged-at given_datagram c.args.session c.args.self.now (asked c.args.self.now c.in-None.ensures c.session_stream.ensures.stream)
