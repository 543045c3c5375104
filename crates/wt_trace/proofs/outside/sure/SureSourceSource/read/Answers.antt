use Rattle.std.proofs.Common.{◌≡◌, ◌+◌, ◌-◌, take, drop, sym, ◌∙◌, min, length, rules}
use Rattle.wt_trace.proofs.OutsideLaws.{read_part, read_none}
use Rattle.wt_trace.proofs.outside.sure.SureSourceSource.read.Goals as goal

pub returns-clause-bytes : goal.returns-clause-bytes
returns-clause-bytes c =
    let bytes = c.self.inside.bytes.items in
    let offset = c.self.inside.offset in
    let count = c.min-count.result in
    let e : count ≡ min (length c.args.buf.now) (length bytes - offset) = search rules in
    let p : c.copy_from_slice.new.self ≡ take (offset + count - offset) (drop offset bytes) = search rules in (
      sym c.self.view_is ∙ read_part bytes c.args.buf.now c.copy_from_slice.new.self offset count c.self.invariant e p,
      read_none bytes c.args.buf.now c.copy_from_slice.new.self offset count c.self.invariant e p,
    )
