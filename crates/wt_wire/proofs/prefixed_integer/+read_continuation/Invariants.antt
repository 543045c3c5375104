use Rattle.wt_wire.proofs.prefixed_integer.+read_continuation.Given as goal

abbrev pub decreases-read_continuation : goal.decreases-read_continuation
decreases-read_continuation l = l.most
