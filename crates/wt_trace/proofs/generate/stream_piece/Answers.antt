use Rattle.std.proofs.Common.{◌≡◌, ◌-◌, ◌+◌, ◌%◌, [], ◌∷◌, ◌∙◌, arith, append-nil, replicate, rules}
use Rattle.wt_trace.proofs.GenerateLaws.{byte_put, header_put}
use Rattle.wt_trace.proofs.generate.stream_piece.Goals as goal

pub loop-index-init : goal.loop-index-init
loop-index-init c =
    let filled : c.in_ok-bytes.bytes.items ≡ replicate (c.args.number % 100 + 1 + 3) 0 = search rules in
    rw filled (header_put (c.args.number % 100 + 1) c.args.number)

pub loop-index-preserved : goal.loop-index-preserved
loop-index-preserved c =
    rw c.loop-index.invariant (byte_put c.args.number (c.args.number % 100 + 1) c.loop-index.index (0x40 ∷ 0x54 ∷ 0x00 ∷ []) c.loop-index-test.true)

pub returns : goal.returns
returns c =
    let all : c.loop-index.index ≡ c.args.number % 100 + 1 = omega (arith, c.loop-index-test.false, c.loop-index.auto.index-end) in
    let none : c.args.number % 100 + 1 - (c.args.number % 100 + 1) ≡ 0 = omega arith in
    let bytes = rw (all, none) at c.loop-index.invariant in
    c.from_vec.ensures ∙ bytes ∙ append-nil _
