use Rattle.wt_peer_streams.proofs.ReadCounts.{session-counted}
use Rattle.wt_peer_streams.proofs.SessionsLaws.{on-ok}
use Rattle.wt_peer_streams.proofs.dispatched.Dispatched.read_session.Goals as goal

pub returns-clause-steps : goal.returns-clause-steps
returns-clause-steps g c =
    on-ok c.follow.result (λ e. session-counted c.args.session c.session_stream.result (record { critical = c.self.inside.critical; requests = c.self.inside.requests; sessions = c.self.inside.sessions; fault = c.self.inside.fault }) c.args.self.now c.self.view_is c.args.t.now c.read.new.t
    c.read.new.self c.in_ok-news.news (record { transport = c.follow.new.t; dispatched = c.follow.new.self }) c.args.steps.now c.read.new.steps c.session_stream.ensures.stream c.session_stream.ensures.multiple
    c.in_ok-news.ensures.read (λ w. c.in_ok-news.ensures.news w) c.in_ok-news.ensures.steps e) c.follow.ensures
