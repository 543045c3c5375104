use Rattle.std.proofs.Common.{subst, sym, ℕ}
use Rattle.wt_session.proofs.Pieces.{onward}
use Rattle.wt_session.proofs.Acceptances.{if-ok}
use Rattle.wt_session.specs.Replies.{connecting_reply}
use Rattle.wt_session.proofs.Connects.{response-is}
use Rattle.wt_proto.specs.ResponseWalk.{response_walk_of}
use Rattle.wt_turn.specs.Reports.{end_of}
use Rattle.wt_turn.specs.Streams.{contents}
use Rattle.wt_turn.specs.Log.{events_of}
use Rattle.std.specs.Prelude.{◌≡◌}
use Rattle.wt_session.proofs.stage.Asking.await_response.Goals as goal

pub returns-clause-does : goal.returns-clause-does
returns-clause-does c = if-ok c.answered.result (λ a h. λ side log collected f w may.
    let walk = (c.in_ok-walk).ensures.walk side log collected f w may.client may.dialling in
    let same = subst (λ (n : ℕ). c.in_ok-walk.walk ≡ response_walk_of (contents log n) (end_of (events_of log) n)) (sym may.first) walk in
    let f2 = (c.in_ok-walk).ensures.log side log collected f w may.client may.dialling in
    response-is side log collected c.answered.new.d c.args.self.now.id (connecting_reply a) c.in_ok-walk.walk same (h side log collected f2 w may same)) c.answered.ensures.does

pub returns-clause-pieces : goal.returns-clause-pieces
returns-clause-pieces c = onward c.answered.result _ _ _ c.answered.ensures.pieces c.in_ok-walk.ensures.pieces
