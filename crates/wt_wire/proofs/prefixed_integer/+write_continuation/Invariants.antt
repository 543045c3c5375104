use Rattle.wt_wire.proofs.prefixed_integer.+write_continuation.Given as goal

abbrev pub decreases-write_continuation : goal.decreases-write_continuation
decreases-write_continuation l = l.most
