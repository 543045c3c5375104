use Rattle.std.proofs.Common.{◌∙◌, subst, sym}
use Rattle.wt_pair.proofs.PairLaws.{client-ends, server-ends}
use Rattle.wt_pair.proofs.pair.Pair.step.Goals as goal
use Rattle.wt_pair.specs.Keeping.{KeepsPair}
use Rattle.wt_pair.specs.Kept.{PairNow}

pub returns-in-Client : goal.returns-in-Client
returns-in-Client c = λ f p k.
    client-ends c.happen.result f c.self.inside.facts c.args.event.now p c.self.inside.client c.self.inside.server c.happen.new.here c.happen.new.there (sym c.end.ensures ∙ c.in-Client.is)
    (subst (λ (x : PairNow). KeepsPair f x p) (sym c.self.view_is) k) c.happen.ensures

pub returns-in-Server : goal.returns-in-Server
returns-in-Server c = λ f p k.
    server-ends c.happen-in-Server.result f c.self.inside.facts c.args.event.now p c.self.inside.client c.self.inside.server c.happen-in-Server.new.here c.happen-in-Server.new.there (sym c.end.ensures ∙ c.in-Server.is)
    (subst (λ (x : PairNow). KeepsPair f x p) (sym c.self.view_is) k) c.happen-in-Server.ensures
