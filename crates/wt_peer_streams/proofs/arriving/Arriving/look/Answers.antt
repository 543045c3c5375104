use Rattle.std.proofs.Common.{◌<◌, ◌∙◌, ap, length, subst, sym}
use Rattle.wt_kept.specs.Kept.{ArrivingNow}
use Rattle.wt_kept.specs.Readers.{Slot}
use Rattle.wt_peer_streams.proofs.LookCounts.{goes-counted, stays-counted}
use Rattle.wt_peer_streams.proofs.LookLaws.{has-verdict, look-goes}
use Rattle.wt_peer_streams.specs.Scanning.{header_rules, is_incomplete}
use Rattle.wt_proto.specs.declared.verdict.Verdict.{Verdict}
use Rattle.wt_peer_streams.proofs.arriving.Arriving.look.Goals as goal

pub returns-clause-looked : goal.returns-clause-looked
returns-clause-looked g c =
    look-goes (header_rules g.R.HeaderReader.start g.R.Reader.fed g.R.Reader.ended g.R.Reader.said g.R.Reader.is_final) c.args.index (record { bidirectional = c.self.inside.bidirectional; reading = c.self.inside.reading.items; next = c.self.inside.next }) c.args.self.now
    (record { transport = c.args.t.now; dispatched = c.args.to.now }) c.self.view_is c.index_mut-slot.result.now c.index_mut-slot.ensures.value (subst (λ (a : ArrivingNow g.row.R.Denot). c.args.index < length a.reading) (sym c.self.view_is) c.requires)
    c.read.new.self c.read.new.t c.in_ok-read.ensures.read c.in_ok-read.ensures.stream
    (ap (λ (v : Verdict). is_incomplete v) (sym c.outcome.ensures) ∙ has-verdict c.outcome.result.now c.in_default.not-Incomplete)
    c.remove-over.result c.remove-over.ensures.value c.over.inside.id c.into_says.result (ap (λ (s : Slot g.row.R.Denot). s.id) c.over.view_is) (c.into_says.ensures ∙ ap (λ (s : Slot g.row.R.Denot). g.R.Reader.said s.reader) c.over.view_is)
    c.remove-over.new.self.items c.remove-over.ensures.items (record { transport = c.classify.new.t; dispatched = c.classify.new.self }) c.in_ok-classify.ensures

pub returns-in-Incomplete-clause-steps : goal.returns-in-Incomplete-clause-steps
returns-in-Incomplete-clause-steps g c =
    stays-counted (header_rules g.R.HeaderReader.start g.R.Reader.fed g.R.Reader.ended g.R.Reader.said g.R.Reader.is_final) c.args.index (record { bidirectional = c.self.inside.bidirectional; reading = c.self.inside.reading.items; next = c.self.inside.next }) c.args.self.now (record { transport = c.args.t.now; dispatched = c.args.to.now }) c.self.view_is c.index_mut-slot.result.now c.index_mut-slot.ensures.value
    (subst (λ (a : ArrivingNow g.row.R.Denot). c.args.index < length a.reading) (sym c.self.view_is) c.requires) c.read.new.self c.read.new.t c.in_ok-read.ensures.read c.in_ok-read.ensures.stream c.args.steps.now c.read.new.steps c.in_ok-read.ensures.steps
    (λ e. g.met.R.HeaderReader.decides c.read.new.self.reader e) (sym c.in-Incomplete.is ∙ c.outcome.ensures)

pub returns-clause-steps : goal.returns-clause-steps
returns-clause-steps g c =
    goes-counted (header_rules g.R.HeaderReader.start g.R.Reader.fed g.R.Reader.ended g.R.Reader.said g.R.Reader.is_final) c.args.index (record { bidirectional = c.self.inside.bidirectional; reading = c.self.inside.reading.items; next = c.self.inside.next }) c.args.self.now (record { transport = c.args.t.now; dispatched = c.args.to.now }) c.self.view_is c.index_mut-slot.result.now c.index_mut-slot.ensures.value
    (subst (λ (a : ArrivingNow g.row.R.Denot). c.args.index < length a.reading) (sym c.self.view_is) c.requires) c.read.new.self c.read.new.t c.in_ok-read.ensures.read c.in_ok-read.ensures.stream c.args.steps.now c.read.new.steps c.in_ok-read.ensures.steps
    c.remove-over.result c.remove-over.ensures.value c.over.inside.id c.into_says.result (ap (λ (s : Slot g.row.R.Denot). s.id) c.over.view_is) c.remove-over.new.self.items c.remove-over.ensures.items
    (record { transport = c.classify.new.t; dispatched = c.classify.new.self }) c.in_ok-classify.ensures
