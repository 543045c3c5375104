use Rattle.std.proofs.Common.{arith, rules, ◌+◌, ◌-◌, ◌≤◌, ◌++◌, length, take, length-append}
use Rattle.std.proofs.KnownBytes.{Consumes-trans}
use Rattle.wt_trace.specs.Input.{script_limit}
use Rattle.wt_trace.proofs.input.read_input.Goals as goal

-- where no memory is there for what was read last, that was consumed too
pub returns-then-is_err-clause-reads : goal.returns-then-is_err-clause-reads
returns-then-is_err-clause-reads g c =
    let before = c.loop-buffer.bytes.items in
    let part = take c.in-Ok.count c.read.new.buf in
    let room : length part ≤ script_limit + 1 - length before = search rules in
    record {
      input = before ++ part;
      few = omega (arith, room, length-append before part, c.loop-buffer.invariant.few);
      consumed = Consumes-trans _ _ _ before part c.loop-buffer.invariant.read c.in-Ok.ensures.bytes.0;
    }
