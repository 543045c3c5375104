use Rattle.std.proofs.Common.{◌+◌, ◌≡◌, ◌∙◌, ap, arith}
use Rattle.wt_kept.specs.Counting.{scan_left, scan_most}
use Rattle.wt_kept.specs.Kept.{ArrivingNow}
use Rattle.wt_peer_streams.proofs.LookCounts.{end-counted, look-counted}
use Rattle.wt_peer_streams.proofs.ReadCounts.{taken-counts}
use Rattle.wt_peer_streams.proofs.ScanSoFar.{Ends, Ready, begins, ends-taken, never-ends, ready-taken, ready-there, smaller, stops-at, then-goes, then-stays}
use Rattle.wt_peer_streams.specs.Scanning.{header_rules}
use Rattle.wt_peer_streams.proofs.arriving.Arriving.scan.Goals.{then-index-readers, else-index-readers+in_ok-takes_next}
use Rattle.wt_peer_streams.proofs.arriving.Arriving.scan.Goals as goal

pub loop-self-init : goal.loop-self-init
loop-self-init g c = record {
  so_far = begins (header_rules g.R.HeaderReader.start g.R.Reader.fed g.R.Reader.ended g.R.Reader.said g.R.Reader.is_final) c.args.self.now (record { transport = c.args.t.now; dispatched = c.args.to.now });
  steps = omega arith;
}

pub returns-in_err-takes_next-clause-kind : goal.returns-in_err-takes_next-clause-kind
returns-in_err-takes_next-clause-kind g c =
    c.takes_next.ensures.kind ∙ c.loop-self.invariant.so_far.kind

pub look-requires : goal.look-requires
look-requires g c =
    let ready : Ready (header_rules g.R.HeaderReader.start g.R.Reader.fed g.R.Reader.ended g.R.Reader.said g.R.Reader.is_final) c.args.self.now (record { transport = c.args.t.now; dispatched = c.args.to.now }) c.loop-self.index c.loop-self.self (record { transport = c.loop-self.t; dispatched = c.loop-self.to }) c.if-index-readers.self = elim c.if-index-readers.branch [
      | then-index-readers v ↦ ready-there (header_rules g.R.HeaderReader.start g.R.Reader.fed g.R.Reader.ended g.R.Reader.said g.R.Reader.is_final) c.args.self.now (record { transport = c.args.t.now; dispatched = c.args.to.now }) c.loop-self.index c.loop-self.self (record { transport = c.loop-self.t; dispatched = c.loop-self.to }) c.loop-self.invariant.so_far c.fault.result c.fault.ensures c.readers.result c.readers.ensures.count c.readers.ensures.few c.if-index-readers.self v.if-index-readers.true v.self-is
      | else-index-readers+in_ok-takes_next v ↦ ready-taken (header_rules g.R.HeaderReader.start g.R.Reader.fed g.R.Reader.ended g.R.Reader.said g.R.Reader.is_final) c.args.self.now (record { transport = c.args.t.now; dispatched = c.args.to.now }) c.loop-self.index c.loop-self.self (record { transport = c.loop-self.t; dispatched = c.loop-self.to }) c.loop-self.invariant.so_far c.fault.result c.fault.ensures c.readers.result c.readers.ensures.count c.readers.ensures.few c.if-index-readers.self c.loop-self-test.ensures v.if-index-readers.false
          v.in_ok-takes_next.field-0 c.if-index-readers.value v.value-is v.takes_next.new.self v.in_ok-takes_next.ensures.taken v.self-is c.if-branch.true
    ] in
    ready.there_is

pub returns-in_err-look-clause-kind : goal.returns-in_err-look-clause-kind
returns-in_err-look-clause-kind g c =
    let ready : Ready (header_rules g.R.HeaderReader.start g.R.Reader.fed g.R.Reader.ended g.R.Reader.said g.R.Reader.is_final) c.args.self.now (record { transport = c.args.t.now; dispatched = c.args.to.now }) c.loop-self.index c.loop-self.self (record { transport = c.loop-self.t; dispatched = c.loop-self.to }) c.if-index-readers.self = elim c.if-index-readers.branch [
      | then-index-readers v ↦ ready-there (header_rules g.R.HeaderReader.start g.R.Reader.fed g.R.Reader.ended g.R.Reader.said g.R.Reader.is_final) c.args.self.now (record { transport = c.args.t.now; dispatched = c.args.to.now }) c.loop-self.index c.loop-self.self (record { transport = c.loop-self.t; dispatched = c.loop-self.to }) c.loop-self.invariant.so_far c.fault.result c.fault.ensures c.readers.result c.readers.ensures.count c.readers.ensures.few c.if-index-readers.self v.if-index-readers.true v.self-is
      | else-index-readers+in_ok-takes_next v ↦ ready-taken (header_rules g.R.HeaderReader.start g.R.Reader.fed g.R.Reader.ended g.R.Reader.said g.R.Reader.is_final) c.args.self.now (record { transport = c.args.t.now; dispatched = c.args.to.now }) c.loop-self.index c.loop-self.self (record { transport = c.loop-self.t; dispatched = c.loop-self.to }) c.loop-self.invariant.so_far c.fault.result c.fault.ensures c.readers.result c.readers.ensures.count c.readers.ensures.few c.if-index-readers.self c.loop-self-test.ensures v.if-index-readers.false
          v.in_ok-takes_next.field-0 c.if-index-readers.value v.value-is v.takes_next.new.self v.in_ok-takes_next.ensures.taken v.self-is c.if-branch.true
    ] in
    c.look.ensures.kind ∙ ready.so_far.kind

pub loop-self-preserved-then-branch-2 : goal.loop-self-preserved-then-branch-2
loop-self-preserved-then-branch-2 g c =
    let ready : Ready (header_rules g.R.HeaderReader.start g.R.Reader.fed g.R.Reader.ended g.R.Reader.said g.R.Reader.is_final) c.args.self.now (record { transport = c.args.t.now; dispatched = c.args.to.now }) c.loop-self.index c.loop-self.self (record { transport = c.loop-self.t; dispatched = c.loop-self.to }) c.if-index-readers.self = elim c.if-index-readers.branch [
      | then-index-readers v ↦ ready-there (header_rules g.R.HeaderReader.start g.R.Reader.fed g.R.Reader.ended g.R.Reader.said g.R.Reader.is_final) c.args.self.now (record { transport = c.args.t.now; dispatched = c.args.to.now }) c.loop-self.index c.loop-self.self (record { transport = c.loop-self.t; dispatched = c.loop-self.to }) c.loop-self.invariant.so_far c.fault.result c.fault.ensures c.readers.result c.readers.ensures.count c.readers.ensures.few c.if-index-readers.self v.if-index-readers.true v.self-is
      | else-index-readers+in_ok-takes_next v ↦ ready-taken (header_rules g.R.HeaderReader.start g.R.Reader.fed g.R.Reader.ended g.R.Reader.said g.R.Reader.is_final) c.args.self.now (record { transport = c.args.t.now; dispatched = c.args.to.now }) c.loop-self.index c.loop-self.self (record { transport = c.loop-self.t; dispatched = c.loop-self.to }) c.loop-self.invariant.so_far c.fault.result c.fault.ensures c.readers.result c.readers.ensures.count c.readers.ensures.few c.if-index-readers.self c.loop-self-test.ensures v.if-index-readers.false
          v.in_ok-takes_next.field-0 c.if-index-readers.value v.value-is v.takes_next.new.self v.in_ok-takes_next.ensures.taken v.self-is c.if-branch.true
    ] in
    let same : scan_most c.if-index-readers.self c.loop-self.t ≡ scan_most c.loop-self.self c.loop-self.t = elim c.if-index-readers.branch [
      | then-index-readers v ↦ ap (λ (b : ArrivingNow g.row.R.Denot). scan_most b c.loop-self.t) v.self-is
      | else-index-readers+in_ok-takes_next v ↦
          ap (λ (b : ArrivingNow g.row.R.Denot). scan_most b c.loop-self.t) v.self-is ∙ taken-counts g.R.HeaderReader.start c.loop-self.t c.loop-self.self v.in_ok-takes_next.field-0 v.takes_next.new.self v.in_ok-takes_next.ensures.taken
    ] in
    record {
      so_far = (then-stays (header_rules g.R.HeaderReader.start g.R.Reader.fed g.R.Reader.ended g.R.Reader.said g.R.Reader.is_final) c.args.self.now (record { transport = c.args.t.now; dispatched = c.args.to.now }) c.loop-self.index c.loop-self.self (record { transport = c.loop-self.t; dispatched = c.loop-self.to }) c.loop-self.invariant.so_far c.fault.result c.fault.ensures c.loop-self-test.ensures c.if-index-readers.self ready c.in_ok-look.field-0 c.look.new.self (record { transport = c.look.new.t; dispatched = c.look.new.to }) c.in_ok-look.ensures.looked c.if-branch-2.true).so_far;
      steps = look-counted c.fault.result (record { transport = c.loop-self.t; dispatched = c.loop-self.to }) c.fault.ensures c.loop-self-test.ensures c.loop-self.self c.if-index-readers.self same
          (c.args.steps.now + scan_left c.args.self.now (record { transport = c.args.t.now; dispatched = c.args.to.now })) c.loop-self.steps c.loop-self.invariant.steps
          c.look.new.steps (scan_left c.look.new.self (record { transport = c.look.new.t; dispatched = c.look.new.to })) c.in_ok-look.ensures.steps;
    }

pub loop-self-preserved : goal.loop-self-preserved
loop-self-preserved g c =
    let ready : Ready (header_rules g.R.HeaderReader.start g.R.Reader.fed g.R.Reader.ended g.R.Reader.said g.R.Reader.is_final) c.args.self.now (record { transport = c.args.t.now; dispatched = c.args.to.now }) c.loop-self.index c.loop-self.self (record { transport = c.loop-self.t; dispatched = c.loop-self.to }) c.if-index-readers.self = elim c.if-index-readers.branch [
      | then-index-readers v ↦ ready-there (header_rules g.R.HeaderReader.start g.R.Reader.fed g.R.Reader.ended g.R.Reader.said g.R.Reader.is_final) c.args.self.now (record { transport = c.args.t.now; dispatched = c.args.to.now }) c.loop-self.index c.loop-self.self (record { transport = c.loop-self.t; dispatched = c.loop-self.to }) c.loop-self.invariant.so_far c.fault.result c.fault.ensures c.readers.result c.readers.ensures.count c.readers.ensures.few c.if-index-readers.self v.if-index-readers.true v.self-is
      | else-index-readers+in_ok-takes_next v ↦ ready-taken (header_rules g.R.HeaderReader.start g.R.Reader.fed g.R.Reader.ended g.R.Reader.said g.R.Reader.is_final) c.args.self.now (record { transport = c.args.t.now; dispatched = c.args.to.now }) c.loop-self.index c.loop-self.self (record { transport = c.loop-self.t; dispatched = c.loop-self.to }) c.loop-self.invariant.so_far c.fault.result c.fault.ensures c.readers.result c.readers.ensures.count c.readers.ensures.few c.if-index-readers.self c.loop-self-test.ensures v.if-index-readers.false
          v.in_ok-takes_next.field-0 c.if-index-readers.value v.value-is v.takes_next.new.self v.in_ok-takes_next.ensures.taken v.self-is c.if-branch.true
    ] in
    let same : scan_most c.if-index-readers.self c.loop-self.t ≡ scan_most c.loop-self.self c.loop-self.t = elim c.if-index-readers.branch [
      | then-index-readers v ↦ ap (λ (b : ArrivingNow g.row.R.Denot). scan_most b c.loop-self.t) v.self-is
      | else-index-readers+in_ok-takes_next v ↦
          ap (λ (b : ArrivingNow g.row.R.Denot). scan_most b c.loop-self.t) v.self-is ∙ taken-counts g.R.HeaderReader.start c.loop-self.t c.loop-self.self v.in_ok-takes_next.field-0 v.takes_next.new.self v.in_ok-takes_next.ensures.taken
    ] in
    record {
      so_far = (then-goes (header_rules g.R.HeaderReader.start g.R.Reader.fed g.R.Reader.ended g.R.Reader.said g.R.Reader.is_final) c.args.self.now (record { transport = c.args.t.now; dispatched = c.args.to.now }) c.loop-self.index c.loop-self.self (record { transport = c.loop-self.t; dispatched = c.loop-self.to }) c.loop-self.invariant.so_far c.fault.result c.fault.ensures c.loop-self-test.ensures c.if-index-readers.self ready c.in_ok-look.field-0 c.look.new.self (record { transport = c.look.new.t; dispatched = c.look.new.to }) c.in_ok-look.ensures.looked c.if-branch-2.false).so_far;
      steps = look-counted c.fault.result (record { transport = c.loop-self.t; dispatched = c.loop-self.to }) c.fault.ensures c.loop-self-test.ensures c.loop-self.self c.if-index-readers.self same
          (c.args.steps.now + scan_left c.args.self.now (record { transport = c.args.t.now; dispatched = c.args.to.now })) c.loop-self.steps c.loop-self.invariant.steps
          c.look.new.steps (scan_left c.look.new.self (record { transport = c.look.new.t; dispatched = c.look.new.to })) c.in_ok-look.ensures.steps;
    }

pub loop-self-smaller-then-branch-2 : goal.loop-self-smaller-then-branch-2
loop-self-smaller-then-branch-2 g c =
    let ready : Ready (header_rules g.R.HeaderReader.start g.R.Reader.fed g.R.Reader.ended g.R.Reader.said g.R.Reader.is_final) c.args.self.now (record { transport = c.args.t.now; dispatched = c.args.to.now }) c.loop-self.index c.loop-self.self (record { transport = c.loop-self.t; dispatched = c.loop-self.to }) c.if-index-readers.self = elim c.if-index-readers.branch [
      | then-index-readers v ↦ ready-there (header_rules g.R.HeaderReader.start g.R.Reader.fed g.R.Reader.ended g.R.Reader.said g.R.Reader.is_final) c.args.self.now (record { transport = c.args.t.now; dispatched = c.args.to.now }) c.loop-self.index c.loop-self.self (record { transport = c.loop-self.t; dispatched = c.loop-self.to }) c.loop-self.invariant.so_far c.fault.result c.fault.ensures c.readers.result c.readers.ensures.count c.readers.ensures.few c.if-index-readers.self v.if-index-readers.true v.self-is
      | else-index-readers+in_ok-takes_next v ↦ ready-taken (header_rules g.R.HeaderReader.start g.R.Reader.fed g.R.Reader.ended g.R.Reader.said g.R.Reader.is_final) c.args.self.now (record { transport = c.args.t.now; dispatched = c.args.to.now }) c.loop-self.index c.loop-self.self (record { transport = c.loop-self.t; dispatched = c.loop-self.to }) c.loop-self.invariant.so_far c.fault.result c.fault.ensures c.readers.result c.readers.ensures.count c.readers.ensures.few c.if-index-readers.self c.loop-self-test.ensures v.if-index-readers.false
          v.in_ok-takes_next.field-0 c.if-index-readers.value v.value-is v.takes_next.new.self v.in_ok-takes_next.ensures.taken v.self-is c.if-branch.true
    ] in
    smaller (header_rules g.R.HeaderReader.start g.R.Reader.fed g.R.Reader.ended g.R.Reader.said g.R.Reader.is_final) c.args.self.now (record { transport = c.args.t.now; dispatched = c.args.to.now }) c.loop-self.index c.loop-self.self (record { transport = c.loop-self.t; dispatched = c.loop-self.to }) c.loop-self.invariant.so_far c.fault.result c.fault.ensures c.if-index-readers.self ready (c.loop-self.index + 1) c.look.new.self (record { transport = c.look.new.t; dispatched = c.look.new.to }) (then-stays (header_rules g.R.HeaderReader.start g.R.Reader.fed g.R.Reader.ended g.R.Reader.said g.R.Reader.is_final) c.args.self.now (record { transport = c.args.t.now; dispatched = c.args.to.now }) c.loop-self.index c.loop-self.self (record { transport = c.loop-self.t; dispatched = c.loop-self.to }) c.loop-self.invariant.so_far c.fault.result c.fault.ensures c.loop-self-test.ensures c.if-index-readers.self ready c.in_ok-look.field-0 c.look.new.self (record { transport = c.look.new.t; dispatched = c.look.new.to }) c.in_ok-look.ensures.looked c.if-branch-2.true)

pub loop-self-smaller : goal.loop-self-smaller
loop-self-smaller g c =
    let ready : Ready (header_rules g.R.HeaderReader.start g.R.Reader.fed g.R.Reader.ended g.R.Reader.said g.R.Reader.is_final) c.args.self.now (record { transport = c.args.t.now; dispatched = c.args.to.now }) c.loop-self.index c.loop-self.self (record { transport = c.loop-self.t; dispatched = c.loop-self.to }) c.if-index-readers.self = elim c.if-index-readers.branch [
      | then-index-readers v ↦ ready-there (header_rules g.R.HeaderReader.start g.R.Reader.fed g.R.Reader.ended g.R.Reader.said g.R.Reader.is_final) c.args.self.now (record { transport = c.args.t.now; dispatched = c.args.to.now }) c.loop-self.index c.loop-self.self (record { transport = c.loop-self.t; dispatched = c.loop-self.to }) c.loop-self.invariant.so_far c.fault.result c.fault.ensures c.readers.result c.readers.ensures.count c.readers.ensures.few c.if-index-readers.self v.if-index-readers.true v.self-is
      | else-index-readers+in_ok-takes_next v ↦ ready-taken (header_rules g.R.HeaderReader.start g.R.Reader.fed g.R.Reader.ended g.R.Reader.said g.R.Reader.is_final) c.args.self.now (record { transport = c.args.t.now; dispatched = c.args.to.now }) c.loop-self.index c.loop-self.self (record { transport = c.loop-self.t; dispatched = c.loop-self.to }) c.loop-self.invariant.so_far c.fault.result c.fault.ensures c.readers.result c.readers.ensures.count c.readers.ensures.few c.if-index-readers.self c.loop-self-test.ensures v.if-index-readers.false
          v.in_ok-takes_next.field-0 c.if-index-readers.value v.value-is v.takes_next.new.self v.in_ok-takes_next.ensures.taken v.self-is c.if-branch.true
    ] in
    smaller (header_rules g.R.HeaderReader.start g.R.Reader.fed g.R.Reader.ended g.R.Reader.said g.R.Reader.is_final) c.args.self.now (record { transport = c.args.t.now; dispatched = c.args.to.now }) c.loop-self.index c.loop-self.self (record { transport = c.loop-self.t; dispatched = c.loop-self.to }) c.loop-self.invariant.so_far c.fault.result c.fault.ensures c.if-index-readers.self ready c.loop-self.index c.look.new.self (record { transport = c.look.new.t; dispatched = c.look.new.to }) (then-goes (header_rules g.R.HeaderReader.start g.R.Reader.fed g.R.Reader.ended g.R.Reader.said g.R.Reader.is_final) c.args.self.now (record { transport = c.args.t.now; dispatched = c.args.to.now }) c.loop-self.index c.loop-self.self (record { transport = c.loop-self.t; dispatched = c.loop-self.to }) c.loop-self.invariant.so_far c.fault.result c.fault.ensures c.loop-self-test.ensures c.if-index-readers.self ready c.in_ok-look.field-0 c.look.new.self (record { transport = c.look.new.t; dispatched = c.look.new.to }) c.in_ok-look.ensures.looked c.if-branch-2.false)

pub returns-else-branch-clause-scan : goal.returns-else-branch-clause-scan
returns-else-branch-clause-scan g c =
    let ends : Ends (header_rules g.R.HeaderReader.start g.R.Reader.fed g.R.Reader.ended g.R.Reader.said g.R.Reader.is_final) c.args.self.now (record { transport = c.args.t.now; dispatched = c.args.to.now }) (record { transport = c.loop-self.t; dispatched = c.loop-self.to }) c.if-index-readers.self = elim c.if-index-readers.branch [
      | then-index-readers v ↦ never-ends (header_rules g.R.HeaderReader.start g.R.Reader.fed g.R.Reader.ended g.R.Reader.said g.R.Reader.is_final) c.args.self.now (record { transport = c.args.t.now; dispatched = c.args.to.now }) c.loop-self.index c.loop-self.self (record { transport = c.loop-self.t; dispatched = c.loop-self.to }) c.loop-self.invariant.so_far c.fault.result c.fault.ensures c.readers.result v.if-index-readers.true c.if-index-readers.self c.if-index-readers.value v.value-is c.if-branch.false
      | else-index-readers+in_ok-takes_next v ↦ ends-taken (header_rules g.R.HeaderReader.start g.R.Reader.fed g.R.Reader.ended g.R.Reader.said g.R.Reader.is_final) c.args.self.now (record { transport = c.args.t.now; dispatched = c.args.to.now }) c.loop-self.index c.loop-self.self (record { transport = c.loop-self.t; dispatched = c.loop-self.to }) c.loop-self.invariant.so_far c.fault.result c.fault.ensures c.readers.result c.readers.ensures.count c.readers.ensures.few c.if-index-readers.self c.loop-self-test.ensures v.if-index-readers.false
          v.in_ok-takes_next.field-0 c.if-index-readers.value v.value-is v.takes_next.new.self v.in_ok-takes_next.ensures.taken v.self-is c.if-branch.false
    ] in
    ends.over

pub returns-else-branch-clause-kind : goal.returns-else-branch-clause-kind
returns-else-branch-clause-kind g c =
    let ends : Ends (header_rules g.R.HeaderReader.start g.R.Reader.fed g.R.Reader.ended g.R.Reader.said g.R.Reader.is_final) c.args.self.now (record { transport = c.args.t.now; dispatched = c.args.to.now }) (record { transport = c.loop-self.t; dispatched = c.loop-self.to }) c.if-index-readers.self = elim c.if-index-readers.branch [
      | then-index-readers v ↦ never-ends (header_rules g.R.HeaderReader.start g.R.Reader.fed g.R.Reader.ended g.R.Reader.said g.R.Reader.is_final) c.args.self.now (record { transport = c.args.t.now; dispatched = c.args.to.now }) c.loop-self.index c.loop-self.self (record { transport = c.loop-self.t; dispatched = c.loop-self.to }) c.loop-self.invariant.so_far c.fault.result c.fault.ensures c.readers.result v.if-index-readers.true c.if-index-readers.self c.if-index-readers.value v.value-is c.if-branch.false
      | else-index-readers+in_ok-takes_next v ↦ ends-taken (header_rules g.R.HeaderReader.start g.R.Reader.fed g.R.Reader.ended g.R.Reader.said g.R.Reader.is_final) c.args.self.now (record { transport = c.args.t.now; dispatched = c.args.to.now }) c.loop-self.index c.loop-self.self (record { transport = c.loop-self.t; dispatched = c.loop-self.to }) c.loop-self.invariant.so_far c.fault.result c.fault.ensures c.readers.result c.readers.ensures.count c.readers.ensures.few c.if-index-readers.self c.loop-self-test.ensures v.if-index-readers.false
          v.in_ok-takes_next.field-0 c.if-index-readers.value v.value-is v.takes_next.new.self v.in_ok-takes_next.ensures.taken v.self-is c.if-branch.false
    ] in
    ends.kind

pub returns-after-loop-self-clause-scan : goal.returns-after-loop-self-clause-scan
returns-after-loop-self-clause-scan g c =
    stops-at (header_rules g.R.HeaderReader.start g.R.Reader.fed g.R.Reader.ended g.R.Reader.said g.R.Reader.is_final) c.args.self.now (record { transport = c.args.t.now; dispatched = c.args.to.now }) c.loop-self.index c.loop-self.self (record { transport = c.loop-self.t; dispatched = c.loop-self.to }) c.loop-self.invariant.so_far c.fault.result c.fault.ensures c.loop-self-test.ensures

pub returns-else-branch-clause-steps : goal.returns-else-branch-clause-steps
returns-else-branch-clause-steps g c =
    let same : scan_most c.if-index-readers.self c.loop-self.t ≡ scan_most c.loop-self.self c.loop-self.t = elim c.if-index-readers.branch [
      | then-index-readers v ↦ ap (λ (b : ArrivingNow g.row.R.Denot). scan_most b c.loop-self.t) v.self-is
      | else-index-readers+in_ok-takes_next v ↦
          ap (λ (b : ArrivingNow g.row.R.Denot). scan_most b c.loop-self.t) v.self-is ∙ taken-counts g.R.HeaderReader.start c.loop-self.t c.loop-self.self v.in_ok-takes_next.field-0 v.takes_next.new.self v.in_ok-takes_next.ensures.taken
    ] in
    end-counted c.fault.result (record { transport = c.loop-self.t; dispatched = c.loop-self.to }) c.fault.ensures c.loop-self-test.ensures c.loop-self.self c.if-index-readers.self same
    (c.args.steps.now + scan_left c.args.self.now (record { transport = c.args.t.now; dispatched = c.args.to.now })) c.loop-self.steps c.loop-self.invariant.steps
