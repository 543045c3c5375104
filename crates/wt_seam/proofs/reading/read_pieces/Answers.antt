use Rattle.std.proofs.Common.{arith, ◌≡◌, ◌<◌, ◌≤◌, ◌+◌, ℕ, Bool, true, false, length, refl}
use Rattle.std.specs.Prelude.{if◌then◌else◌}
use Rattle.wt_transport.specs.Step.{unread_now}
use Rattle.wt_seam.proofs.ReadOn.{reads-fewer, reads-twice, all-reading, all-state}
use Rattle.wt_seam.proofs.reading.read_pieces.Goals as goal

less : (m n : ℕ) (old new : Bool) → n ≤ m → old ≡ true → (new ≡ true → n < m) → n + (if new then 1 else 0) < m + (if old then 1 else 0)
less m n old true fewer e more = let some = more refl in rw e (omega arith)
less m n old false fewer e more = rw e (omega arith)

pub loop-goes-smaller : goal.loop-goes-smaller
loop-goes-smaller g c =
    let b = c.in_ok-goes-2.ensures.some in
    less (length (unread_now c.loop-goes.t c.args.id)) (length (unread_now c.read_piece-in-loop-goes.new.t c.args.id)) c.loop-goes.goes c.in_ok-goes-2.goes
    (reads-fewer g.R.Reader.fed c.loop-goes.reader c.read_piece-in-loop-goes.new.reader c.loop-goes.t c.read_piece-in-loop-goes.new.t c.args.id b.0 b.1)
    c.loop-goes-test.true c.in_ok-goes-2.ensures.more

pub loop-goes-preserved : goal.loop-goes-preserved
loop-goes-preserved g c =
    let a = c.loop-goes.invariant.some in
    let b = c.in_ok-goes-2.ensures.some in
    record {
      some = (a.0 + b.0, reads-twice g.R.Reader.fed c.args.reader.now c.loop-goes.reader c.read_piece-in-loop-goes.new.reader c.args.t.now c.loop-goes.t c.read_piece-in-loop-goes.new.t c.args.id a.0 b.0 c.requires.joins a.1 b.1);
      none = c.in_ok-goes-2.ensures.none;
    }

pub returns-clause-reading : goal.returns-clause-reading
returns-clause-reading g c =
    let a = c.loop-goes.invariant.some in
    all-reading g.R.Reader.fed c.args.reader.now c.loop-goes.reader c.args.t.now c.loop-goes.t c.args.id a.0 a.1 (c.loop-goes.invariant.none c.loop-goes-test.false)

pub returns-clause-state : goal.returns-clause-state
returns-clause-state g c =
    let a = c.loop-goes.invariant.some in
    all-state g.R.Reader.fed c.args.reader.now c.loop-goes.reader c.args.t.now c.loop-goes.t c.args.id a.0 a.1 (c.loop-goes.invariant.none c.loop-goes-test.false)
