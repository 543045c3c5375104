use Rattle.wt_seam.proofs.ReadOn.{fed-whole}
use Rattle.wt_seam.proofs.reading.feed.Goals as goal

pub returns-in-Ok : goal.returns-in-Ok
returns-in-Ok g c =
    fed-whole g.R.Reader.fed g.R.Reader.is_final c.args.reader.now c.feed_counted-consumed.new.reader c.args.piece.now c.in-Ok.field-0 c.requires.joins c.requires.stays
    c.in-Ok.ensures.within c.in-Ok.ensures.fed c.in-Ok.ensures.stops_short
