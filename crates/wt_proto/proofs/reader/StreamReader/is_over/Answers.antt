use Rattle.std.proofs.Common.{subst}
use Rattle.wt_proto.specs.WalkProgress.{IsProper, Reading}
use Rattle.wt_proto.proofs.FeedLaws.{fed-joins, fed-none}
use Rattle.wt_proto.proofs.reader.StreamReader.is_over.Goals as goal

pub returns-clause-joins : goal.returns-clause-joins
returns-clause-joins g c xs ys = fed-joins g.W.Walk.decides c.self.invariant.lawful.steady c.args.self.now xs ys

pub returns-clause-none : goal.returns-clause-none
returns-clause-none g c = fed-none g.W.Walk.decides c.self.invariant.lawful.steady c.args.self.now (subst (λ (r : Reading g.row.W-State.Denot g.row.W-Outcome.Denot). IsProper g.W.Walk.decides r.progress) c.self.view_is c.self.invariant.placed.proper)
