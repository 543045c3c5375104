use Rattle.std.proofs.Common.{◌∙◌, ◌∷◌, ◌<◌, ◌≡◌, List, [], ap, arith, length, min, refl, rules, take, ℕ}
use Rattle.std.proofs.lemmas.List.{length-take, take_at}
use Rattle.wt_driver_laws.specs.Replies.{read_exact_reply}
use Rattle.wt_core.proofs.Given.{as-call, ok-one}
use Rattle.wt_core.proofs.Sizes.{exacts-as}
use Rattle.wt_core.proofs.calls.read_exact.Goals as goal
use Rattle.wt_turn.specs.declared.call.Call.TheVariants as calls

pub returns-then-unread-eq0-clause-does : goal.returns-then-unread-eq0-clause-does
returns-then-unread-eq0-clause-does c =
    let place : List ℕ = 0 ∷ [] in
    let size = length-take c.min.result place in
    let least : length (take c.min.result place) ≡ min c.args.size 1 = omega (arith, size, c.min.ensures) in
    ok-one c.exact_front.result (λ answer does.
    exacts-as c.args.d.now c.exact_front.new.d c.id.result c.args.half.now c.unread-unread.result c.id.ensures c.unread-unread.ensures.log (length (take c.min.result place)) c.args.size 1 least answer (λ l. omega (arith, c.if-unread-eq0.true)) does)
    c.exact_front.ensures.does

pub returns-clause-does : goal.returns-clause-does
returns-clause-does c =
    let more : c.saturating_add.result < c.args.size → c.unread-unread.result < c.saturating_add.result = λ l. omega (arith, l, c.saturating_add.ensures, c.ranges.size.fits) in
    let long : length c.read_exact-answer.new.buffer ≡ c.in_ok-bytes.bytes.len = search (rules, arith) in
    let least : length c.as_mut_slice.result.now ≡ min c.args.size c.saturating_add.result = search (rules, arith) in
    let is : c.exact_whole.result ≡ read_exact_reply c.read_exact-answer.new.buffer c.read_exact-answer.result
    = c.exact_whole.ensures ∙ ap (λ (bs : List ℕ). read_exact_reply bs c.read_exact-answer.result) (take_at c.read_exact-answer.new.buffer _ c.in_ok-bytes.bytes.len long) in
    exacts-as c.args.d.now c.read_exact-answer.new.d c.id.result c.args.half.now c.unread-unread.result c.id.ensures c.unread-unread.ensures.log (length c.as_mut_slice.result.now) c.args.size c.saturating_add.result least c.exact_whole.result
    more (λ side log collected f r has. as-call side log collected c.read_exact-answer.new.d _ c.exact_whole.result _ (calls.ReadExact c.args.half.now (length c.as_mut_slice.result.now)) is refl (c.read_exact-answer.ensures.does side log collected f r has))
