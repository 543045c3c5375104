use Rattle.std.proofs.Common.{◌∙◌, ap, length, sym, List, ℕ}
use Rattle.wt_kept.specs.Kept.{OwnControlNow}
use Rattle.wt_kept.specs.Moment.{own_sent}
use Rattle.wt_transport.specs.Step.{after_send, covered_now}
use Rattle.wt_peer_streams.proofs.Head.{head-rest, sent-so}
use Rattle.wt_peer_streams.proofs.own_control.OwnControl.send.Goals as goal

pub returns-in_ok-self-inside-in-Some : goal.returns-in_ok-self-inside-in-Some
returns-in_ok-self-inside-in-Some c =
    sent-so (record { stream = c.self.inside.stream; sent = c.self.inside.sent }) c.args.t.now c.in-Some.id c.in_ok-self-inside-in-Some.field-0 c.send.new.self
    c.in-Some.is (sym c.may_send.ensures.now ∙ c.if-may_send.true)
    (c.in_ok-self-inside-in-Some.ensures.count ∙ ap (λ (bytes : List ℕ). length (covered_now c.args.t.now c.in-Some.id bytes)) (head-rest c.self.inside.sent))
    (c.in_ok-self-inside-in-Some.ensures.state ∙ ap (λ (bytes : List ℕ). after_send c.args.t.now c.in-Some.id bytes) (head-rest c.self.inside.sent))
    ∙ ap (λ (o : OwnControlNow). own_sent o.stream o c.args.t.now) c.self.view_is
