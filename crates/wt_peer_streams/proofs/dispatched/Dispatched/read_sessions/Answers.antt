use Rattle.std.proofs.Common.{◌+◌, ◌<◌, ◌≡◌, ◌∙◌, List, ap, arith, drop, length, sym, ℕ}
use Rattle.wt_kept.specs.Counting.{reads_left}
use Rattle.wt_kept.specs.Kept.{DispatchedNow, WorkNow}
use Rattle.wt_kept.specs.Looking.{read_each, read_sessions}
use Rattle.wt_peer_streams.proofs.ReadCounts.{each-counted}
use Rattle.wt_peer_streams.proofs.SessionsLoop.{each-done, each-passes, each-read, each-stops}
use Rattle.wt_peer_streams.specs.Living.{ids_of, some_ids}
use Rattle.wt_peer_streams.proofs.dispatched.Dispatched.read_sessions.Goals.{in-Some+then-is_none+in_ok-read_session-in-Some, in-Some+else-is_none, in-None}
use Rattle.wt_peer_streams.proofs.dispatched.Dispatched.read_sessions.Goals as goal

pub loop-place-init : goal.loop-place-init
loop-place-init g c = record {
  left = ap (λ (ids : List ℕ). read_each ids (record { transport = c.args.t.now; dispatched = c.args.self.now })) c.living-living.ensures.ids
      ∙ ap (λ (d : DispatchedNow). read_each (ids_of d.sessions.living) (record { transport = c.args.t.now; dispatched = c.args.self.now })) c.self.view_is;
  steps = omega arith;
}

pub loop-place-preserved : goal.loop-place-preserved
loop-place-preserved g c =
    let whole : WorkNow = read_sessions (record { transport = c.args.t.now; dispatched = c.args.self.now }) in
    let w : WorkNow = record { transport = c.loop-place.t; dispatched = c.loop-place.self } in
    let within : c.loop-place.place-index < length c.living-living.result = (let n = c.living-living.ensures.places in let l = c.loop-place-test.true in omega arith) in
    record {
      left =
          elim c.match-place.branch [
            | in-Some+then-is_none+in_ok-read_session-in-Some v ↦
                each-read c.living-living.result c.loop-place.place-index whole w c.loop-place.invariant.left within c.place-item.result v.in-Some.session v.in-Some.is v.fault.result v.if-is_none.ensures (sym v.fault.ensures)
                (record { transport = c.match-place.t; dispatched = c.match-place.self }) ((λ i. record { transport = v.t-is i; dispatched = v.self-is i }) ∙ v.in_ok-read_session-in-Some.ensures.read)
            | in-Some+else-is_none v ↦
                (λ i. read_each (some_ids (drop (c.loop-place.place-index + 1) c.living-living.result)) (record { transport = v.t-is i; dispatched = v.self-is i }))
                ∙ each-stops c.living-living.result c.loop-place.place-index whole w c.loop-place.invariant.left within c.place-item.result v.in-Some.session v.in-Some.is v.fault.result v.if-is_none.ensures (sym v.fault.ensures)
            | in-None v ↦
                (λ i. read_each (some_ids (drop (c.loop-place.place-index + 1) c.living-living.result)) (record { transport = v.t-is i; dispatched = v.self-is i }))
                ∙ each-passes c.living-living.result c.loop-place.place-index whole w c.loop-place.invariant.left within c.place-item.result v.in-None.is
          ];
      steps = elim c.match-place.branch [
        | in-Some+then-is_none+in_ok-read_session-in-Some v ↦
            let same : reads_left (record { transport = c.match-place.t; dispatched = c.match-place.self }) ≡ reads_left (record { transport = v.read_session.new.t; dispatched = v.read_session.new.self }) = λ i. reads_left (record { transport = v.t-is i; dispatched = v.self-is i }) in
            let count = v.steps-is in
            let counted = each-counted v.fault.result w (record { transport = v.read_session.new.t; dispatched = v.read_session.new.self }) (c.args.steps.now + reads_left (record { transport = c.args.t.now; dispatched = c.args.self.now })) c.loop-place.steps v.read_session.new.steps
            v.fault.ensures v.if-is_none.ensures c.loop-place.invariant.steps v.in_ok-read_session-in-Some.ensures.steps in
            omega (arith, same, count, counted)
        | in-Some+else-is_none v ↦
            let same : reads_left (record { transport = c.match-place.t; dispatched = c.match-place.self }) ≡ reads_left w = λ i. reads_left (record { transport = v.t-is i; dispatched = v.self-is i }) in
            let count = v.steps-is in
            let before = c.loop-place.invariant.steps in
            omega (arith, same, count, before)
        | in-None v ↦
            let same : reads_left (record { transport = c.match-place.t; dispatched = c.match-place.self }) ≡ reads_left w = λ i. reads_left (record { transport = v.t-is i; dispatched = v.self-is i }) in
            let count = v.steps-is in
            let before = c.loop-place.invariant.steps in
            omega (arith, same, count, before)
      ];
    }

pub returns-clause-read : goal.returns-clause-read
returns-clause-read g c =
    each-done c.living-living.result c.loop-place.place-index (read_sessions (record { transport = c.args.t.now; dispatched = c.args.self.now })) (record { transport = c.loop-place.t; dispatched = c.loop-place.self }) c.loop-place.invariant.left
    (let n = c.living-living.ensures.places in let l = c.loop-place-test.false in omega arith)
