use Rattle.std.proofs.Common.{◌∙◌, Option, Some, ap, sym}
use Rattle.wt_kept.specs.Kept.{LiveNow}
use Rattle.wt_kept.specs.Readers.{Slot, fed_piece, session_rules}
use Rattle.wt_kept.specs.Pieces.{fed_by}
use Rattle.wt_peer_streams.proofs.SessionsLaws.{changed-at, found-at, none-at}
use Rattle.wt_peer_streams.specs.Living.{session_fed_at, session_feed_at, with_reader}
use Rattle.wt_peer_streams.specs.contracts.live.LiveSession as live
use Rattle.wt_peer_streams.specs.contracts.sessions.Sessions.{the_view}
use Rattle.wt_proto.specs.SessionReader.{SessionReader}
use Rattle.wt_peer_streams.proofs.sessions.Sessions.feed.Goals as goal

pub returns-in_ok-feed-in-Some-clause-fed : goal.returns-in_ok-feed-in-Some-clause-fed
returns-in_ok-feed-in-Some-clause-fed g c =
    ap Some (c.in_ok-feed-in-Some.ensures.fed ∙ ap (λ (x : LiveNow). fed_by session_rules x.reader c.args.piece.now) c.live.view_is)
    ∙ sym (ap (λ (o : Option LiveNow). session_feed_at c.args.piece.now o) (found-at c.args.id (the_view c.self.inside) c.args.self.now c.in-Some.index c.index_mut-live.result.now c.self.view_is c.in-Some.ensures c.index_mut-live.ensures.value))

pub returns-in_ok-feed-in-Some-clause-sessions : goal.returns-in_ok-feed-in-Some-clause-sessions
returns-in_ok-feed-in-Some-clause-sessions g c =
    changed-at c.args.id (the_view c.self.inside) c.args.self.now c.in-Some.index c.index_mut-live.result.now c.self.view_is c.in-Some.ensures c.index_mut-live.ensures.value
    (with_reader (fed_piece session_rules c.index_mut-live.result.now.reader c.args.piece.now)) (record (live.the_view c.live.inside) { reader = c.feed.new.self.reader })
    (ap (λ (s : Slot SessionReader). record (live.the_view c.live.inside) { reader = s.reader }) c.in_ok-feed-in-Some.ensures.reader
    ∙ ap (λ (x : LiveNow). with_reader (fed_piece session_rules x.reader c.args.piece.now) x) c.live.view_is)
    ∙ sym (ap (λ (o : Option LiveNow). session_fed_at c.args.id c.args.piece.now o c.args.self.now) (found-at c.args.id (the_view c.self.inside) c.args.self.now c.in-Some.index c.index_mut-live.result.now c.self.view_is c.in-Some.ensures c.index_mut-live.ensures.value))

pub returns-in-None-clause-fed : goal.returns-in-None-clause-fed
returns-in-None-clause-fed g c = sym (ap (λ (o : Option LiveNow). session_feed_at c.args.piece.now o) (none-at c.args.id c.args.self.now c.in-None.ensures))

pub returns-in-None-clause-sessions : goal.returns-in-None-clause-sessions
returns-in-None-clause-sessions g c = sym (ap (λ (o : Option LiveNow). session_fed_at c.args.id c.args.piece.now o c.args.self.now) (none-at c.args.id c.args.self.now c.in-None.ensures))
