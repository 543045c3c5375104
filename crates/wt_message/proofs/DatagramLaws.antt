-- A datagram that is written is read again.
use Rattle.std.proofs.Common.{◌≡◌, ◌<◌, ◌^◌, ℕ, List, length, Ok, refl, arith}
use Rattle.std.proofs.lemmas.Bool.{lt-ltb}
use Rattle.std.proofs.lemmas.List.{drop_at}
use Rattle.wt_wire.specs.Varint.{varint_bytes}
use Rattle.wt_message.specs.Datagram.{datagram_of, datagram_bytes}
use Rattle.wt_wire.proofs.VarintAgain.{varint_again}

pub datagram_again : (quarter : ℕ) (payload : List ℕ) → quarter < 2 ^ 60 → datagram_of (datagram_bytes quarter payload) ≡ Ok (quarter, payload)
unfolding datagram_of
datagram_again quarter payload h =
    rw (varint_again quarter payload (omega arith), lt-ltb quarter (2 ^ 60) h, drop_at (varint_bytes quarter) payload (length (varint_bytes quarter)) refl) refl
