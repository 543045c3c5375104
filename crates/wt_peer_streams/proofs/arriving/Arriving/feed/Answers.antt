use Rattle.wt_peer_streams.proofs.SlotsLaws.{none-fed, none-feeds, slot-fed, slot-feeds}
use Rattle.wt_peer_streams.specs.Scanning.{header_rules}
use Rattle.wt_peer_streams.proofs.arriving.Arriving.feed.Goals as goal

pub returns-in_ok-feed-in-Some-clause-fed : goal.returns-in_ok-feed-in-Some-clause-fed
returns-in_ok-feed-in-Some-clause-fed g c =
    slot-feeds (header_rules g.R.HeaderReader.start g.R.Reader.fed g.R.Reader.ended g.R.Reader.said g.R.Reader.is_final) c.args.id c.args.piece.now (record { bidirectional = c.self.inside.bidirectional; reading = c.self.inside.reading.items; next = c.self.inside.next }) c.args.self.now
    c.in-Some.index c.index_mut-slot.result.now c.in_ok-feed-in-Some.field-0 c.self.view_is c.in-Some.ensures c.index_mut-slot.ensures.value c.in_ok-feed-in-Some.ensures.fed

pub returns-in_ok-feed-in-Some-clause-reading : goal.returns-in_ok-feed-in-Some-clause-reading
returns-in_ok-feed-in-Some-clause-reading g c =
    slot-fed (header_rules g.R.HeaderReader.start g.R.Reader.fed g.R.Reader.ended g.R.Reader.said g.R.Reader.is_final) c.args.id c.args.piece.now (record { bidirectional = c.self.inside.bidirectional; reading = c.self.inside.reading.items; next = c.self.inside.next }) c.args.self.now
    c.in-Some.index c.index_mut-slot.result.now c.feed.new.self c.self.view_is c.in-Some.ensures c.index_mut-slot.ensures.value c.in_ok-feed-in-Some.ensures.reader

pub returns-in-None-clause-fed : goal.returns-in-None-clause-fed
returns-in-None-clause-fed g c = none-feeds (header_rules g.R.HeaderReader.start g.R.Reader.fed g.R.Reader.ended g.R.Reader.said g.R.Reader.is_final) c.args.id c.args.piece.now c.args.self.now c.args.self.now c.in-None.ensures

pub returns-in-None-clause-reading : goal.returns-in-None-clause-reading
returns-in-None-clause-reading g c = none-fed (header_rules g.R.HeaderReader.start g.R.Reader.fed g.R.Reader.ended g.R.Reader.said g.R.Reader.is_final) c.args.id c.args.piece.now c.args.self.now c.args.self.now c.in-None.ensures
