-- A half that a stream lends.
use Rattle.std.specs.Borrow.{Lends, MutBor, Fml}
use Rattle.wt_transport.specs.declared.halves.QuicRecvStream.{QuicRecvStream}
use Rattle.wt_transport.specs.contracts.halves.QuicRecvStream as half
use Rattle.wt_seam.specs.declared.stream.UniRemoteH3.{UniRemoteH3}
use Rattle.wt_seam.specs.contracts.stream.UniRemoteH3 as stage
use Rattle.wt_seam.specs.contracts.stream.Stream as stream
use Rattle.wt_seam.specs.Typed.{Typed}

-- what is last left in the half is the stream's half then, and the rest stays
abbrev pub LendsHalf : MutBor (Typed QuicRecvStream UniRemoteH3) → MutBor QuicRecvStream → Fml
LendsHalf s r = Lends (stream.the_row half.the_row stage.the_row) half.the_row s r (λ h. record s.now { halves = h })
