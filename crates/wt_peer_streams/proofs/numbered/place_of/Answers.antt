use Rattle.std.proofs.Common.{◌+◌, ◌-◌, ◌/◌, arith, length}
use Rattle.wt_peer_streams.proofs.ByNumberLaws.{between-all, between-earlier, between-later, place-last}
use Rattle.wt_peer_streams.proofs.numbered.place_of.Goals as goal

pub returns-then-number-wanted : goal.returns-then-number-wanted
returns-then-number-wanted g c =
    let some = c.if-high-gt0.true in
    let same = c.number.ensures in
    let below = c.if-number-wanted.true in
    place-last g.T.Numbered.number_of c.args.wanted c.args.items.now (length c.args.items.now - 1) c.index-items-high.result c.requires (omega arith) c.index-items-high.is (omega arith)

pub loop-low-init : goal.loop-low-init
loop-low-init g c = between-all g.T.Numbered.number_of c.args.wanted c.args.items.now

pub loop-low-preserved-then-number-wanted-2 : goal.loop-low-preserved-then-number-wanted-2
loop-low-preserved-then-number-wanted-2 g c =
    let test = c.loop-low-test.true in
    let same = c.number-in-loop-low.ensures in
    let below = c.if-number-wanted-2.true in
    between-later g.T.Numbered.number_of c.args.wanted c.args.items.now c.loop-low.low c.loop-low.high (c.loop-low.low + (c.loop-low.high - c.loop-low.low) / 2) c.index-items-middle.result
    c.requires c.loop-low.invariant (omega arith) (omega arith) c.index-items-middle.is (omega arith)

pub loop-low-preserved : goal.loop-low-preserved
loop-low-preserved g c =
    let test = c.loop-low-test.true in
    let same = c.number-in-loop-low.ensures in
    let above = c.if-number-wanted-2.false in
    between-earlier g.T.Numbered.number_of c.args.wanted c.args.items.now c.loop-low.low c.loop-low.high (c.loop-low.low + (c.loop-low.high - c.loop-low.low) / 2) c.index-items-middle.result
    c.loop-low.invariant (omega arith) (omega arith) c.index-items-middle.is (omega arith)
