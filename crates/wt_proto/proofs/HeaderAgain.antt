-- What is written in front of a stream reads back.
use Rattle.std.proofs.Common.{◌≡◌, ℕ, ◌<◌, ◌%◌, ◌^◌, List, ◌++◌, Some, None, refl, arith}
use Rattle.std.proofs.lemmas.List.{length-append}
use Rattle.wt_wire.specs.declared.side.StreamEnd.{StreamEnd}
use Rattle.wt_wire.specs.Varint.{varint_bytes}
use Rattle.wt_proto.specs.Uni.{uni_verdict_of}
use Rattle.wt_proto.specs.StreamHeader.{header_bytes, header_verdict}
use Rattle.wt_wire.proofs.VarintAgain.{varint_again, first_again, second_again}

pub control_again : (more : List ℕ) (end : StreamEnd) → uni_verdict_of (header_bytes None ++ more) end ≡ header_verdict None
unfolding uni_verdict_of varint_bytes
control_again more end = rw (varint_again 0 more (omega arith)) refl

pub session_again : (session : ℕ) (more : List ℕ) (end : StreamEnd) → session < 2 ^ 62 → session % 4 ≡ 0 →
    uni_verdict_of (header_bytes (Some session) ++ more) end ≡ header_verdict (Some session)
unfolding uni_verdict_of
session_again session more end small four =
    rw (first_again 84 session more (omega arith))
    (let second = second_again 84 session more small in
    rw (second, four) (rw (length-append (varint_bytes 84) (varint_bytes session)) refl))
