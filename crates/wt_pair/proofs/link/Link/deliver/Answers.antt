use Rattle.std.proofs.Common.{◌∙◌, ◌≤◌, ap, length, subst, sym}
use Rattle.std.specs.Prelude.{Some}
use Rattle.wt_pair.proofs.LinkLaws.{may-take, rest-waits, room, turn-delivered, within}
use Rattle.wt_pair.proofs.StreamLaws.{delivered_waits}
use Rattle.wt_pair.proofs.link.Link.deliver.Goals as goal
use Rattle.wt_pair.specs.Kept.{LinkNow, with_came, with_rest}
use Rattle.wt_pair.specs.Link.{connects, left_of}

pub deliver_item-requires-clause-within : goal.deliver_item-requires-clause-within
deliver_item-requires-clause-within c =
    subst (λ (l : LinkNow). c.args.place ≤ length l.waiting) (sym c.in-Some.ensures.rest)
    (room c.args.self.now.waiting c.args.place (within c.args.self.now.waiting c.args.place c.in-Some.item (sym c.in-Some.ensures.item)))

pub deliver_item-requires-clause-bytes : goal.deliver_item-requires-clause-bytes
deliver_item-requires-clause-bytes c = may-take c.args.self.now c.args.place c.args.bytes c.in-Some.item (sym c.may_deliver.ensures ∙ c.if-not-may_deliver.false) (sym c.in-Some.ensures.item)

pub returns-clause-turn : goal.returns-clause-turn
returns-clause-turn c =
    turn-delivered c.args.self.now c.args.place c.args.bytes c.in-Some.item c.in_ok-turn.turn (sym c.may_deliver.ensures ∙ c.if-not-may_deliver.false) (sym c.in-Some.ensures.item) c.in_ok-turn.ensures.turn

pub returns-clause-rest : goal.returns-clause-rest
returns-clause-rest c =
    let x = c.in-Some.item in
    c.in_ok-turn.ensures.rest
    ∙ ap (λ (l : LinkNow). with_rest c.args.place (left_of c.args.bytes x.stream x.turn) (with_came (connects x.turn) l)) c.in-Some.ensures.rest
    ∙ rest-waits c.args.self.now c.args.place c.args.bytes x (sym c.may_deliver.ensures ∙ c.if-not-may_deliver.false) (sym c.in-Some.ensures.item)

pub returns-clause-streams : goal.returns-clause-streams
returns-clause-streams c = delivered_waits c.args.self.now c.deliver_item.new.self c.args.place c.args.bytes (Some c.in_ok-turn.turn) (returns-clause-turn c) (returns-clause-rest c)
