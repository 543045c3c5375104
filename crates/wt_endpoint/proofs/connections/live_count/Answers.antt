use Rattle.std.proofs.Common.{◌<◌, arith, length}
use Rattle.wt_endpoint.proofs.Keeping.{live_more, live_within}
use Rattle.wt_endpoint.proofs.connections.live_count.Goals as goal

pub loop-index-preserved : goal.loop-index-preserved
loop-index-preserved c =
    let (count, below) = c.loop-index.invariant in
    let within : c.loop-index.index < length c.args.cores.now = omega (arith, c.loop-index-test.true) in (
      live_more c.args.cores.now c.loop-index.index c.index-cores-index.result c.loop-index.count c.counted-count.result c.is_live.result within c.index-cores-index.is count c.is_live.ensures c.counted-count.ensures,
      live_within c.loop-index.count c.loop-index.index c.counted-count.result c.is_live.result below c.counted-count.ensures,
    )
