use Rattle.std.proofs.Common.{arith, ◌≡◌, ◌<◌, length}
use Rattle.std.proofs.lemmas.Bool.Decides.{nat_tests}
use Rattle.wt_seam.proofs.ReadOn.{piece-read, piece-less, piece-none}
use Rattle.wt_seam.proofs.reading.read_piece.Goals as goal

pub returns-clause-some : goal.returns-clause-some
returns-clause-some g c =
    (length c.peek-piece.result.now, piece-read g.R.Reader.fed c.args.reader.now c.feed.new.reader c.args.t.now c.consume.new.self c.args.id c.peek-piece.result.now c.peek-piece.ensures.now c.in_ok-feed.ensures c.consume.ensures.now)

pub returns-clause-more : goal.returns-clause-more
returns-clause-more g c = λ e.
    let some : 0 < length c.peek-piece.result.now = grind (arith, nat_tests) in
    piece-less g.R.Reader.fed c.args.reader.now c.feed.new.reader c.args.t.now c.consume.new.self c.args.id c.peek-piece.result.now c.peek-piece.ensures.now c.in_ok-feed.ensures c.consume.ensures.now some

pub returns-clause-none : goal.returns-clause-none
returns-clause-none g c = λ e.
    let zero_ : length c.peek-piece.result.now ≡ 0 = grind (arith, nat_tests) in
    piece-none g.R.Reader.fed c.args.reader.now c.feed.new.reader c.args.t.now c.consume.new.self c.args.id c.peek-piece.result.now c.peek-piece.ensures.now c.in_ok-feed.ensures c.consume.ensures.now c.peek-piece.ensures.some zero_
