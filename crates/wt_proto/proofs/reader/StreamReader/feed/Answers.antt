use Rattle.std.proofs.Common.{subst}
use Rattle.wt_proto.specs.WalkProgress.{IsProper, Reading}
use Rattle.wt_proto.proofs.FeedLaws.{fed-joins, fed-none, feed-open}
use Rattle.wt_proto.proofs.ReadingLaws.{feed-read, feed-running, feed-stopped, if_ok_with}
use Rattle.wt_proto.proofs.reader.StreamReader.feed.Goals as goal

pub returns-clause-read : goal.returns-clause-read
returns-clause-read g c bytes end has =
    if_ok_with _ c.take_piece.ensures.advances c.take_piece.ensures.advances
    (λ n a b. feed-read g.W.Walk.decides g.W.Walk.start_state g.W.Walk.unfinished_at g.W.Walk.outcome_of c.self.invariant.lawful.reaches g.W.Walk.is_final_outcome c.self.invariant.lawful.by_end c.self.invariant.lawful.steady c.args.self.now c.take_piece.new.self _ bytes n end has a c.take_piece.ensures.end)

pub returns-clause-running : goal.returns-clause-running
returns-clause-running g c bytes end k has =
    if_ok_with _ c.take_piece.ensures.advances c.take_piece.ensures.running
    (λ n a goes. feed-running g.W.Walk.decides g.W.Walk.start_state g.W.Walk.unfinished_at g.W.Walk.outcome_of c.self.invariant.lawful.reaches g.W.Walk.is_final_outcome c.self.invariant.lawful.by_end c.self.invariant.lawful.steady c.args.self.now c.take_piece.new.self _ bytes n end has a goes k)

pub returns-clause-stopped : goal.returns-clause-stopped
returns-clause-stopped g c bytes end has =
    if_ok_with _ c.take_piece.ensures.advances c.take_piece.ensures.all
    (λ n a all. feed-stopped g.W.Walk.decides g.W.Walk.start_state g.W.Walk.unfinished_at g.W.Walk.outcome_of c.self.invariant.lawful.reaches g.W.Walk.is_final_outcome c.self.invariant.lawful.by_end c.self.invariant.lawful.steady c.args.self.now c.take_piece.new.self _ bytes n end has a c.take_piece.ensures.end all)

pub returns-clause-open : goal.returns-clause-open
returns-clause-open g c k =
    if_ok_with _ c.take_piece.ensures.advances c.take_piece.ensures.running
    (λ n a goes. feed-open g.W.Walk.decides c.self.invariant.lawful.steady g.W.Walk.unfinished_at g.W.Walk.is_final_outcome c.self.invariant.lawful.by_end c.args.self.now c.take_piece.new.self.progress _ n (subst (λ (r : Reading g.row.W-State.Denot g.row.W-Outcome.Denot). IsProper g.W.Walk.decides r.progress) c.self.view_is c.self.invariant.placed.proper) a goes k)

pub returns-clause-joins : goal.returns-clause-joins
returns-clause-joins g c xs ys = fed-joins g.W.Walk.decides c.self.invariant.lawful.steady c.args.self.now xs ys

pub returns-clause-none : goal.returns-clause-none
returns-clause-none g c = fed-none g.W.Walk.decides c.self.invariant.lawful.steady c.args.self.now (subst (λ (r : Reading g.row.W-State.Denot g.row.W-Outcome.Denot). IsProper g.W.Walk.decides r.progress) c.self.view_is c.self.invariant.placed.proper)
