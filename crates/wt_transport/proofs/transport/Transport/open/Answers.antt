use Rattle.std.proofs.Common.{List, refl, ap, ◌∙◌}
use Rattle.wt_turn.specs.declared.action.Action.{Action}
use Rattle.wt_turn.specs.declared.action.Action.TheVariants as actions
use Rattle.wt_transport.specs.State.{TransportState}
use Rattle.wt_transport.proofs.Joining.{join_other}
use Rattle.wt_transport.proofs.transport.Transport.open.Goals as goal

pub returns-in-Err-clause-err : goal.returns-in-Err-clause-err
returns-in-Err-clause-err c =
    let was = c.self.view_is in
    let opened = c.self-2.view_is ∙ c.in-Err.ensures.err in
    let last = c.undo.ensures c.self.inside.outbox (actions.Opened c.stream_id-id.result)
    (ap (λ (t : TransportState). t.actions) opened ∙ (c.in_ok-put.ensures.ok ∙ join_other c.self.inside.outbox (actions.Opened c.stream_id-id.result) refl)) in
    ap (λ (t : TransportState). record t { actions = c.undo.new.self }) opened
    ∙ (ap (λ (t : TransportState). record t { actions = c.undo.new.self }) was
    ∙ ap (λ (a : List Action). record c.args.self.now { actions = a }) (last ∙ ap (λ (t : TransportState). t.actions) was))
