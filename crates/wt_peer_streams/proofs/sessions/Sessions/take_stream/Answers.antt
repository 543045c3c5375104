use Rattle.std.proofs.Common.{◌∙◌, Option, ap, sym, ℕ}
use Rattle.wt_kept.specs.Kept.{LiveNow}
use Rattle.wt_kept.specs.Windows.{first_stream_id}
use Rattle.wt_peer_streams.proofs.SessionsLaws.{asked, found-at, given-at, if-ok, none-at}
use Rattle.wt_peer_streams.specs.Living.{streams_of_live}
use Rattle.wt_peer_streams.specs.contracts.sessions.Sessions.{the_view}
use Rattle.wt_peer_streams.proofs.sessions.Sessions.take_stream.Goals as goal

pub returns-in-Some-clause-stream : goal.returns-in-Some-clause-stream
returns-in-Some-clause-stream c =
    if-ok c.take_stream.result
    (λ (id : Option ℕ) e. e ∙ ap (λ (o : Option LiveNow). first_stream_id c.args.bidirectional (streams_of_live o)) (sym (found-at c.args.session (the_view c.self.inside) c.args.self.now c.in-Some.index c.index_mut-live.result.now c.self.view_is (asked c.args.self.now c.in-Some.ensures c.session_stream.ensures.stream) c.index_mut-live.ensures.value)))
    c.take_stream.ensures.stream

pub returns-in-Some-clause-sessions : goal.returns-in-Some-clause-sessions
returns-in-Some-clause-sessions c =
    if-ok c.take_stream.result (λ (id : Option ℕ) e. given-at c.args.session (the_view c.self.inside) c.args.self.now c.in-Some.index c.index_mut-live.result.now c.self.view_is (asked c.args.self.now c.in-Some.ensures c.session_stream.ensures.stream) c.index_mut-live.ensures.value id c.take_stream.new.self e) c.take_stream.ensures.live

pub returns-in-None-clause-stream : goal.returns-in-None-clause-stream
returns-in-None-clause-stream c = sym (ap (λ (o : Option LiveNow). first_stream_id c.args.bidirectional (streams_of_live o)) (none-at c.args.session c.args.self.now (asked c.args.self.now c.in-None.ensures c.session_stream.ensures.stream)))
