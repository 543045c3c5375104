-- The halves that a stream lends.
use Rattle.std.specs.Borrow.{Lends, MutBor, Fml}
use Rattle.std.specs.Prelude.{ℕ}
use Rattle.wt_session.specs.Halves.{Halves}
use Rattle.wt_session.specs.contracts.bi_stream.BiStream as both
use Rattle.wt_driver.specs.contracts.halves.RecvStream as recv
use Rattle.wt_driver.specs.contracts.halves.SendStream as send

-- what is last left in the sending half is the stream's then, and the receiving half stays
abbrev pub LendsSend : MutBor Halves → MutBor ℕ → Fml
LendsSend s r = Lends both.the_row send.the_row s r (λ h. record s.now { send = h })

-- what is last left in the receiving half is the stream's then, and the sending half stays
abbrev pub LendsRecv : MutBor Halves → MutBor ℕ → Fml
LendsRecv s r = Lends both.the_row recv.the_row s r (λ h. record s.now { recv = h })
