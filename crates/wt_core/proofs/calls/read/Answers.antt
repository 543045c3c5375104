use Rattle.std.proofs.Common.{◌∙◌, ◌∷◌, ◌<◌, ◌≡◌, List, [], ap, arith, length, min, refl, rules, take, ℕ}
use Rattle.std.proofs.lemmas.List.{length-take, take_at}
use Rattle.wt_driver_laws.specs.Replies.{read_reply}
use Rattle.wt_core.proofs.Given.{as-call, ok-one}
use Rattle.wt_core.proofs.Sizes.{reads-as}
use Rattle.wt_core.proofs.calls.read.Goals as goal
use Rattle.wt_turn.specs.declared.call.Call.TheVariants as calls

pub returns-then-unread-eq0-clause-does : goal.returns-then-unread-eq0-clause-does
returns-then-unread-eq0-clause-does c =
    let place : List ℕ = 0 ∷ [] in
    let size = length-take c.min.result place in
    let least : length (take c.min.result place) ≡ min c.args.size 1 = omega (arith, size, c.min.ensures) in
    ok-one c.read_front.result (λ answer does.
    reads-as c.args.d.now c.read_front.new.d c.id.result c.args.half.now c.unread-unread.result c.id.ensures c.unread-unread.ensures.log (length (take c.min.result place)) c.args.size 1 least answer (omega (arith, c.if-unread-eq0.true)) (omega arith) does)
    c.read_front.ensures.does

pub returns-clause-does : goal.returns-clause-does
returns-clause-does c =
    let some : 0 < c.unread-unread.result = omega (arith, c.if-unread-eq0.false) in
    let long : length c.read-answer.new.buffer ≡ c.in_ok-bytes.bytes.len = search (rules, arith) in
    let least : length c.as_mut_slice.result.now ≡ min c.args.size c.unread-unread.result = search (rules, arith) in
    let is : c.read_whole.result ≡ read_reply c.read-answer.new.buffer c.read-answer.result
    = c.read_whole.ensures ∙ ap (λ (bs : List ℕ). read_reply bs c.read-answer.result) (take_at c.read-answer.new.buffer _ c.in_ok-bytes.bytes.len long) in
    reads-as c.args.d.now c.read-answer.new.d c.id.result c.args.half.now c.unread-unread.result c.id.ensures c.unread-unread.ensures.log (length c.as_mut_slice.result.now) c.args.size c.unread-unread.result least c.read_whole.result
    (omega arith) some (λ side log collected f r has. as-call side log collected c.read-answer.new.d _ c.read_whole.result _ (calls.Read c.args.half.now (length c.as_mut_slice.result.now)) is refl (c.read-answer.ensures.does side log collected f r has))
