use Rattle.std.proofs.Common.{◌≡◌, Option, ap, subst, ℕ}
use Rattle.std.specs.Prelude.{IfOk}
use Rattle.wt_kept.specs.Kept.{LiveNow}
use Rattle.wt_peer_streams.specs.Living.{after_news, news_by}
use Rattle.wt_peer_streams.specs.declared.live.News.{News}
use Rattle.wt_peer_streams.proofs.live.LiveSession.read.Goals as goal

pub returns-clause-news : goal.returns-clause-news
returns-clause-news g c w =
    subst (λ (k : ℕ). IfOk c.news.result (λ (news : Option News). after_news k news w ≡ news_by k c.read.new.self.reader w)) (ap (λ (x : LiveNow). x.id) c.self.view_is) (c.news.ensures w)
