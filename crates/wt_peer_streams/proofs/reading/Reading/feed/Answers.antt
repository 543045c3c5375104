use Rattle.std.proofs.Common.{◌≡◌, ◌∙◌, ap, sym, take, ℕ}
use Rattle.wt_kept.specs.Pieces.{feeds}
use Rattle.wt_kept.specs.Readers.{Slot, fed_piece_by, taken_by}
use Rattle.wt_peer_streams.proofs.ReadLoop.{taken-is}
use Rattle.wt_peer_streams.proofs.reading.Reading.feed.Goals as goal

pub returns-clause-fed : goal.returns-clause-fed
returns-clause-fed g c =
    let count : taken_by g.R.Reader.is_final g.R.Reader.fed c.self.inside.reader c.args.piece.now ≡ c.in_ok-taken.taken =
    taken-is g.R.Reader.is_final g.R.Reader.fed c.args.piece.now c.self.inside.reader c.in_ok-taken.taken (record { none = c.take.ensures.none; joins = λ xs ys. c.take.ensures.joins xs ys })
    c.in_ok-taken.ensures.within (λ k lt. c.in_ok-taken.ensures.open k lt) (λ lt. ap g.R.Reader.is_final (sym c.in_ok-taken.ensures.value) ∙ c.in_ok-taken.ensures.stops_short lt) in
    (λ i. record {
      taken = sym count i;
      is_final = (c.is_final.ensures.answer ∙ ap g.R.Reader.is_final (c.in_ok-taken.ensures.value ∙ ap (λ (n : ℕ). g.R.Reader.fed c.self.inside.reader (take n c.args.piece.now)) (sym count))) i;
    })
    ∙ ap (λ (s : Slot g.row.R.Denot). feeds g.R.Reader.is_final g.R.Reader.fed s.reader c.args.piece.now) c.self.view_is

pub returns-clause-reader : goal.returns-clause-reader
returns-clause-reader g c =
    let count : taken_by g.R.Reader.is_final g.R.Reader.fed c.self.inside.reader c.args.piece.now ≡ c.in_ok-taken.taken =
    taken-is g.R.Reader.is_final g.R.Reader.fed c.args.piece.now c.self.inside.reader c.in_ok-taken.taken (record { none = c.take.ensures.none; joins = λ xs ys. c.take.ensures.joins xs ys })
    c.in_ok-taken.ensures.within (λ k lt. c.in_ok-taken.ensures.open k lt) (λ lt. ap g.R.Reader.is_final (sym c.in_ok-taken.ensures.value) ∙ c.in_ok-taken.ensures.stops_short lt) in
    (λ i. record { id = c.self.inside.id; reader = (c.in_ok-taken.ensures.value ∙ ap (λ (n : ℕ). g.R.Reader.fed c.self.inside.reader (take n c.args.piece.now)) (sym count)) i })
    ∙ ap (λ (s : Slot g.row.R.Denot). record { id = s.id; reader = fed_piece_by g.R.Reader.is_final g.R.Reader.fed s.reader c.args.piece.now }) c.self.view_is
