use Rattle.std.proofs.Common.{◌∙◌, ◌∷◌, [], ◌≤◌, length, subst}
use Rattle.wt_kept.specs.Kept.{SessionsNow}
use Rattle.wt_peer_streams.proofs.SessionsLaws.{four-ids}
use Rattle.wt_peer_streams.specs.Living.{some_ids}
use Rattle.wt_peer_streams.proofs.sessions.Sessions.living.Goals as goal

pub returns-clause-ids : goal.returns-clause-ids
returns-clause-ids c =
    (λ i. some_ids (c.id_at.ensures i ∷ c.id_at-2.ensures i ∷ c.id_at-3.ensures i ∷ c.id_at-4.ensures i ∷ []))
    ∙ four-ids c.args.self.now.living (subst (λ (d : SessionsNow). length d.living ≤ 4) c.self.view_is c.self.invariant)
