use Rattle.std.proofs.Common.{sym}
use Rattle.wt_wire.proofs.header_list.set_field.Goals as goal

pub returns-in-Ok-clause-ok : goal.returns-in-Ok-clause-ok
returns-in-Ok-clause-ok c =
    rw (← c.in_ok-value.ensures) (rw (c.index_mut.ensures.value, ← c.as_slice.ensures.value) (sym (c.in-Ok.ensures.found c.in_ok-value.value c.index_mut.result.now)))
