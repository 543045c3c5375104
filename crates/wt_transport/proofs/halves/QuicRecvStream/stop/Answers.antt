use Rattle.std.proofs.Common.{ap, ◌∙◌}
use Rattle.wt_transport.specs.State.{TransportState}
use Rattle.wt_transport.specs.Step.{after_give_up, can_receive_now}
use Rattle.wt_transport.proofs.Results.{moved}
use Rattle.wt_transport.proofs.HalfLaws.{stop_half_refines, stop_keeps}
use Rattle.wt_transport.proofs.halves.QuicRecvStream.stop.Goals as goal

pub returns-clause-state : goal.returns-clause-state
returns-clause-state c =
    let can = ap (λ (u : TransportState). can_receive_now u c.args.self.id) c.in_ok-stop.ensures.now ∙ (stop_keeps c.args.t.now c.args.self.id c.args.code ∙ c.requires) in
    c.give_up.ensures.now can ∙ ap (λ (u : TransportState). after_give_up u c.args.self.id) c.in_ok-stop.ensures.now

pub returns-clause-log : goal.returns-clause-log
returns-clause-log c = λ side log position uncollected r.
    let can = ap (λ (u : TransportState). can_receive_now u c.args.self.id) c.in_ok-stop.ensures.now ∙ (stop_keeps c.args.t.now c.args.self.id c.args.code ∙ c.requires) in
    moved _ (c.give_up.ensures.now can ∙ ap (λ (u : TransportState). after_give_up u c.args.self.id) c.in_ok-stop.ensures.now)
    (stop_half_refines side c.args.t.now log position uncollected r c.args.self.id c.args.code c.requires)
