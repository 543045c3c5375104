use Rattle.std.proofs.Common.{◌∙◌, ◌++◌, ap, subst, sym}
use Rattle.std.proofs.Common.{List}
use Rattle.std.specs.Prelude.{Option, Some, filter_map}
use Rattle.wt_pair.proofs.PairLaws.{turn-becomes, turn-refused}
use Rattle.wt_pair.proofs.pair.take_turn.Goals as goal
use Rattle.wt_pair.specs.Keeping.{KeepsBoth, TakesTurn}
use Rattle.wt_pair.specs.Kept.{EndNow, with_more}
use Rattle.wt_pair.specs.Link.{item_of}
use Rattle.wt_pair.specs.Pair.{end_at, if_dialled}
use Rattle.wt_turn.specs.declared.action.Action.{Action}
use Rattle.wt_turn.specs.declared.answer.Answer.{Answer}

pub returns-in_ok-send-in-Some : goal.returns-in_ok-send-in-Some
returns-in_ok-send-in-Some c = λ side p k.
    let here : EndNow = record { core = c.here.inside.core; link = c.here.inside.link } in
    let there : EndNow = record { core = c.there.inside.core; link = c.there.inside.link } in
    turn-becomes c.args.facts.now side c.args.turn.now p c.args.here.now there here c.send.new.here c.send.new.there c.in-Some.answer
    (subst (λ (x : EndNow). KeepsBoth side c.args.here.now x p) (sym c.there.view_is) k)
    (subst (λ (x : EndNow). TakesTurn side (end_at p side) c.args.turn.now (Some c.in-Some.answer) x) (sym c.here.view_is)
    (subst (λ (o : Option Answer). TakesTurn side (end_at p side) c.args.turn.now o c.take_turn.new.self) c.in-Some.is (c.in_ok-answer.ensures side (end_at p side) k.here)))
    (c.in_ok-send-in-Some.ensures.here ∙ ap (λ (as_ : List Action). with_more (if_dialled c.args.facts.now as_) c.here.inside.link) c.as_slice.ensures)
    (c.in_ok-send-in-Some.ensures.there ∙ ap (λ (as_ : List Action). with_more (if_dialled c.args.facts.now as_ ++ filter_map item_of as_) c.there.inside.link) c.as_slice.ensures)

pub returns-in-None : goal.returns-in-None
returns-in-None c = λ side p k.
    turn-refused c.args.facts.now side c.args.turn.now p c.args.here.now c.args.there.now c.take_turn.new.self k
    (subst (λ (o : Option Answer). TakesTurn side (end_at p side) c.args.turn.now o c.take_turn.new.self) c.in-None.is (c.in_ok-answer.ensures side (end_at p side) k.here))
