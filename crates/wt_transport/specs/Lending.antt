-- What a row of streams lends.
use Rattle.std.specs.Prelude.{ℕ, List, slice_set}
use Rattle.std.specs.Borrow.{Lends, MutBor, Fml}
use Rattle.wt_transport.specs.StreamState.{Stream}
use Rattle.wt_transport.specs.contracts.row.Row.{the_row as the_streams}
use Rattle.wt_transport.specs.contracts.stream.Stream.{the_row as the_stream}

-- the row ends with the stream at an index as it was left behind the reference
abbrev pub LendsStream : MutBor (List Stream) → ℕ → MutBor Stream → Fml
LendsStream streams index stream = Lends the_streams the_stream streams stream (λ last. slice_set streams.now index last)
