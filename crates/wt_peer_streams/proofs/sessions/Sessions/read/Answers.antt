use Rattle.std.proofs.Common.{Option, ap, sym, ℕ}
use Rattle.wt_kept.specs.Kept.{LiveNow}
use Rattle.wt_peer_streams.proofs.SessionsLaws.{counts-at, if-both, news-at, none-at, none-counts-at, on-both, on-ok, reads-at}
use Rattle.wt_peer_streams.specs.Living.{after_news, live_read, news_of_reader}
use Rattle.wt_peer_streams.specs.declared.live.News.{News}
use Rattle.wt_peer_streams.proofs.sessions.Sessions.read.Goals as goal

pub returns-in-Some-clause-read : goal.returns-in-Some-clause-read
returns-in-Some-clause-read g c =
    on-ok c.read.result (λ e. reads-at c.args.id (record { living = c.self.inside.living.items; gone = c.self.inside.gone; early = c.self.inside.early }) c.args.self.now c.in-Some.index c.index_mut-live.result.now c.self.view_is c.in-Some.ensures c.index_mut-live.ensures.value c.args.t.now c.read.new.self c.read.new.t e c.read.ensures.live) c.read.ensures.read

pub returns-in-Some-clause-news : goal.returns-in-Some-clause-news
returns-in-Some-clause-news g c w =
    if-both c.read.result (λ (news : Option News) says e. news-at c.args.id (record { living = c.self.inside.living.items; gone = c.self.inside.gone; early = c.self.inside.early }) c.args.self.now c.in-Some.index c.index_mut-live.result.now c.self.view_is c.in-Some.ensures c.index_mut-live.ensures.value (λ (k : ℕ). after_news k news w) c.args.t.now c.read.new.self.reader c.read.new.t w e says) (c.read.ensures.news w) c.read.ensures.read

pub returns-in-None-clause-read : goal.returns-in-None-clause-read
returns-in-None-clause-read g c = sym (ap (λ (o : Option LiveNow). live_read c.args.id o c.args.self.now c.args.t.now) (none-at c.args.id c.args.self.now c.in-None.ensures))

pub returns-in-None-clause-news : goal.returns-in-None-clause-news
returns-in-None-clause-news g c w = sym (ap (λ (o : Option LiveNow). news_of_reader c.args.id o c.args.t.now w) (none-at c.args.id c.args.self.now c.in-None.ensures))

pub returns-in-Some-clause-steps : goal.returns-in-Some-clause-steps
returns-in-Some-clause-steps g c =
    on-both c.read.result (λ e counts. counts-at c.args.id (record { living = c.self.inside.living.items; gone = c.self.inside.gone; early = c.self.inside.early }) c.args.self.now c.in-Some.index c.index_mut-live.result.now c.self.view_is c.in-Some.ensures c.index_mut-live.ensures.value c.args.t.now c.read.new.self.reader c.read.new.t c.args.steps.now c.read.new.steps e counts) c.read.ensures.read c.read.ensures.steps

pub returns-in-None-clause-steps : goal.returns-in-None-clause-steps
returns-in-None-clause-steps g c = none-counts-at c.args.id c.args.self.now c.args.t.now c.args.steps.now c.in-None.ensures
