use Rattle.std.proofs.Common.{refl, ◌<◌, ◌≡◌, ◌∙◌, arith, ap, false, length, nat_lt, subst, sym, ℕ}
use Rattle.std.proofs.lemmas.Bool.Decides.{nat_tests}
use Rattle.std.specs.Prelude.{◌&&◌, ◌==◌, not}
use Rattle.wt_kept.specs.Counting.{CountsRead}
use Rattle.wt_kept.specs.Readers.{Slot, noted_if, reads_on_if}
use Rattle.wt_transport.specs.Step.{end_now, unread_now}
use Rattle.wt_peer_streams.proofs.Counts.{counts-more, counts-noted, counts-took}
use Rattle.wt_peer_streams.proofs.ReadLoop.{Joins, both-goes, either-over, goes-on, read-whole, shorter, took}
use Rattle.wt_peer_streams.specs.Feeding.{Took}
use Rattle.wt_turn.specs.Reports.{is_running}
use Rattle.wt_peer_streams.proofs.reading.Reading.read.Goals as goal

pub loop-self-smaller : goal.loop-self-smaller
loop-self-smaller g c =
    let test = both-goes (g.R.Reader.is_final c.loop-self.self.reader) (nat_lt 0 (length (unread_now c.loop-self.t c.loop-self.self.id))) (sym c.goes_on.ensures ∙ c.loop-self-test.true) in
    let unread : 0 < length (unread_now c.loop-self.t c.loop-self.self.id) = (let some = test.1 in grind (arith, nat_tests, some)) in
    let here : 0 < length (unread_now c.loop-self.t c.self.inside.id) = subst (λ (s : Slot g.row.R.Denot). 0 < length (unread_now c.loop-self.t s.id)) (sym c.self.view_is) unread in
    let took_now : Took g.R.Reader.is_final g.R.Reader.fed c.self.inside.id c.self.inside.reader c.loop-self.t c.take.new.self c.consume.new.self =
    took g.R.Reader.is_final g.R.Reader.fed c.self.inside.id c.self.inside.reader c.loop-self.t c.peek-piece.result.now c.in_ok-taken.taken c.take.new.self c.consume.new.self
    c.take.ensures.none (ap (λ (s : Slot g.row.R.Denot). g.R.Reader.is_final s.reader) c.self.view_is ∙ test.0) here (λ l. c.peek-piece.ensures.some l) c.peek-piece.ensures.now
    c.in_ok-taken.ensures.within c.in_ok-taken.ensures.value (λ k lt. c.in_ok-taken.ensures.open k lt) (λ lt. c.in_ok-taken.ensures.stops_short lt) c.consume.ensures.now in
    subst (λ (s : Slot g.row.R.Denot). length (unread_now c.consume.new.self c.self.inside.id) < length (unread_now c.loop-self.t s.id)) c.self.view_is
    (shorter g.R.Reader.is_final g.R.Reader.fed c.self.inside.id c.self.inside.reader c.loop-self.t c.take.new.self c.consume.new.self took_now)

pub loop-self-preserved : goal.loop-self-preserved
loop-self-preserved g c =
    let j : Joins g.R.Reader.is_final g.R.Reader.fed c.args.self.now.reader = record { none = c.is_final.ensures.none; joins = λ xs ys. c.is_final.ensures.joins xs ys } in
    let same : c.self.inside.id ≡ c.args.self.now.id = ap (λ (s : Slot g.row.R.Denot). s.id) c.self.view_is ∙ c.loop-self.invariant.stream in
    let test = both-goes (g.R.Reader.is_final c.loop-self.self.reader) (nat_lt 0 (length (unread_now c.loop-self.t c.loop-self.self.id))) (sym c.goes_on.ensures ∙ c.loop-self-test.true) in
    let unread : 0 < length (unread_now c.loop-self.t c.loop-self.self.id) = (let some = test.1 in grind (arith, nat_tests, some)) in
    let here : 0 < length (unread_now c.loop-self.t c.self.inside.id) = subst (λ (s : Slot g.row.R.Denot). 0 < length (unread_now c.loop-self.t s.id)) (sym c.self.view_is) unread in
    let took_now : Took g.R.Reader.is_final g.R.Reader.fed c.self.inside.id c.self.inside.reader c.loop-self.t c.take.new.self c.consume.new.self =
    took g.R.Reader.is_final g.R.Reader.fed c.self.inside.id c.self.inside.reader c.loop-self.t c.peek-piece.result.now c.in_ok-taken.taken c.take.new.self c.consume.new.self
    c.take.ensures.none (ap (λ (s : Slot g.row.R.Denot). g.R.Reader.is_final s.reader) c.self.view_is ∙ test.0) here (λ l. c.peek-piece.ensures.some l) c.peek-piece.ensures.now
    c.in_ok-taken.ensures.within c.in_ok-taken.ensures.value (λ k lt. c.in_ok-taken.ensures.open k lt) (λ lt. c.in_ok-taken.ensures.stops_short lt) c.consume.ensures.now in
    let counted : CountsRead g.R.Reader.is_final c.self.inside.id c.loop-self.t (record { reader = c.take.new.self; transport = c.consume.new.self }) c.loop-self.steps c.take.new.steps =
    counts-took g.R.Reader.is_final c.self.inside.id c.loop-self.t c.peek-piece.result.now c.in_ok-taken.taken c.take.new.self c.consume.new.self c.loop-self.steps c.take.new.steps
    here (λ l. c.peek-piece.ensures.some l) c.peek-piece.ensures.now c.in_ok-taken.ensures.within (λ lt. c.in_ok-taken.ensures.stops_short lt) c.consume.ensures.now c.take.ensures.steps in
    record {
      so_far = goes-on g.R.Reader.is_final g.R.Reader.fed c.args.self.now.id c.args.self.now.reader c.args.t.now c.loop-self.self.reader c.loop-self.t c.take.new.self c.consume.new.self j c.loop-self.invariant.so_far
          (subst (λ (k : ℕ). Took g.R.Reader.is_final g.R.Reader.fed k c.loop-self.self.reader c.loop-self.t c.take.new.self c.consume.new.self) c.loop-self.invariant.stream
          (subst (λ (s : Slot g.row.R.Denot). Took g.R.Reader.is_final g.R.Reader.fed s.id s.reader c.loop-self.t c.take.new.self c.consume.new.self) c.self.view_is took_now));
      stream = same;
      steps = counts-more g.R.Reader.is_final c.args.self.now.id c.args.t.now c.loop-self.self.reader c.loop-self.t c.take.new.self c.consume.new.self c.args.steps.now c.loop-self.steps c.take.new.steps c.loop-self.invariant.steps test.0
          (subst (λ (k : ℕ). CountsRead g.R.Reader.is_final k c.loop-self.t (record { reader = c.take.new.self; transport = c.consume.new.self }) c.loop-self.steps c.take.new.steps) same counted);
    }

pub returns-clause-read : goal.returns-clause-read
returns-clause-read g c =
    let j : Joins g.R.Reader.is_final g.R.Reader.fed c.args.self.now.reader = record { none = c.is_final.ensures.none; joins = λ xs ys. c.is_final.ensures.joins xs ys } in
    let over : (not (g.R.Reader.is_final c.loop-self.self.reader) && nat_lt 0 (length (unread_now c.loop-self.t c.args.self.now.id))) ≡ false =
    ap (λ (k : ℕ). not (g.R.Reader.is_final c.loop-self.self.reader) && nat_lt 0 (length (unread_now c.loop-self.t k))) (sym c.loop-self.invariant.stream) ∙ (sym c.goes_on.ensures ∙ c.loop-self-test.false) in
    (λ i. record {
      reader = (ap (λ (s : Slot g.row.R.Denot). s.reader) c.note_end.ensures
          ∙ ap (λ (k : ℕ). noted_if g.R.Reader.ended (not (is_running (end_now c.loop-self.t k)) && length (unread_now c.loop-self.t k) == 0) (end_now c.loop-self.t k) c.loop-self.self.reader) c.loop-self.invariant.stream) i;
      transport = c.loop-self.t;
    })
    ∙ (read-whole g.R.Reader.is_final g.R.Reader.fed g.R.Reader.ended c.args.self.now.id c.args.self.now.reader c.args.t.now c.loop-self.self.reader c.loop-self.t j c.loop-self.invariant.so_far
    (λ some. either-over (g.R.Reader.is_final c.loop-self.self.reader) (nat_lt 0 (length (unread_now c.loop-self.t c.args.self.now.id))) over (grind (arith, nat_tests, some)))
    (not (is_running (end_now c.loop-self.t c.args.self.now.id)) && length (unread_now c.loop-self.t c.args.self.now.id) == 0) refl
    ∙ sym (ap (λ b. reads_on_if g.R.Reader.is_final g.R.Reader.fed g.R.Reader.ended b c.args.self.now.id c.args.self.now.reader c.args.t.now) (sym c.is_final.ensures.answer ∙ c.if-is_final.false)))

pub returns-clause-steps : goal.returns-clause-steps
returns-clause-steps g c =
    subst (λ (v : g.row.R.Denot). CountsRead g.R.Reader.is_final c.args.self.now.id c.args.t.now (record { reader = v; transport = c.loop-self.t }) c.args.steps.now c.loop-self.steps)
    (sym (ap (λ (s : Slot g.row.R.Denot). s.reader) c.note_end.ensures
    ∙ ap (λ (k : ℕ). noted_if g.R.Reader.ended (not (is_running (end_now c.loop-self.t k)) && length (unread_now c.loop-self.t k) == 0) (end_now c.loop-self.t k) c.loop-self.self.reader) c.loop-self.invariant.stream))
    (counts-noted g.R.Reader.is_final c.args.self.now.id g.R.Reader.ended (is_running (end_now c.loop-self.t c.args.self.now.id)) (end_now c.loop-self.t c.args.self.now.id) c.args.t.now c.loop-self.self.reader c.loop-self.t c.args.steps.now c.loop-self.steps c.loop-self.invariant.steps)
