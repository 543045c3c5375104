use Rattle.std.proofs.Common.{◌≡◌, ◌++◌, ◌∷◌, [], List, ap, length, subst, sym, ◌∙◌}
use Rattle.wt_endpoint.proofs.Keeping.{began}
use Rattle.wt_endpoint.proofs.connections.Connections.begin.Goals as goal
use Rattle.wt_endpoint.specs.Connections.{AllKeep, ConnectionsState}
use Rattle.wt_endpoint.specs.Endpoints.{put_history}
use Rattle.wt_meaning.specs.Meaning.{history_after}
use Rattle.wt_core.specs.CoreState.{CoreState}

pub returns-clause-answer : goal.returns-clause-answer
returns-clause-answer c = c.in_ok-answer.ensures.answer c.args.side [] c.new-core.ensures c.requires.lawful

pub returns-clause-history : goal.returns-clause-history
returns-clause-history c = λ hs a.
    let side = c.args.side in
    let k = c.args.self.now in
    let turn = c.args.turn.now in
    let after = c.turn.new.self in
    let cores_are : c.self.inside.cores.items ≡ k.cores = ap (λ (x : ConnectionsState). x.cores) c.self.view_is in
    let items : c.push.new.self.items ≡ k.cores ++ after ∷ [] = c.in_ok-push.ensures.items ∙ ap (λ (cs : List CoreState). cs ++ after ∷ []) cores_are in
    subst (λ (cs : List CoreState). AllKeep side cs (put_history hs (length k.cores) (history_after side [] turn))) (sym items)
    (began side k.cores hs after turn a c.requires.lawful (c.in_ok-answer.ensures.history side [] c.new-core.ensures c.requires.lawful))
