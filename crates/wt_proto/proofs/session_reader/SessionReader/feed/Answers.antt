use Rattle.std.proofs.Common.{subst}
use Rattle.wt_proto.proofs.ReadingLaws.{if_ok_with}
use Rattle.wt_proto.proofs.SessionPieces.{advances_read}
use Rattle.wt_proto.specs.SessionReader.{IsSettled, SessionReader}
use Rattle.wt_proto.proofs.SessionFeedLaws.{advances-open, feed-runs, feed-stops}
use Rattle.wt_proto.proofs.session_reader.SessionReader.feed.Goals as goal

pub returns-clause-read : goal.returns-clause-read
returns-clause-read g c bytes end has = if_ok_with _ c.take_piece.ensures.advances c.take_piece.ensures.advances (λ n a b. advances_read _ _ _ bytes n end has a)

pub returns-clause-running : goal.returns-clause-running
returns-clause-running g c bytes end k has =
    if_ok_with _ c.take_piece.ensures.advances c.take_piece.ensures.running
    (λ n a goes. feed-runs c.args.self.now c.take_piece.new.self _ bytes n end has a (subst (λ (r : SessionReader). IsSettled r) c.self.view_is c.self.invariant.placed.settled) goes k)

pub returns-clause-stopped : goal.returns-clause-stopped
returns-clause-stopped g c bytes end has =
    if_ok_with _ c.take_piece.ensures.advances c.take_piece.ensures.all (λ n a all. feed-stops c.args.self.now c.take_piece.new.self _ bytes n end has a all)

pub returns-clause-open : goal.returns-clause-open
returns-clause-open g c k =
    if_ok_with _ c.take_piece.ensures.advances c.take_piece.ensures.running
    (λ n a goes. advances-open c.args.self.now c.take_piece.new.self _ n (subst (λ (r : SessionReader). IsSettled r) c.self.view_is c.self.invariant.placed.settled) a goes k)
