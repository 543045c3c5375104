use Rattle.std.proofs.Common.{ap, sym, ℕ, List}
use Rattle.std.specs.Prelude.{◌==◌}
use Rattle.wt_peer_streams.proofs.Lists.{none-out}
use Rattle.wt_peer_streams.proofs.requests.Requests.forget.Goals as goal

pub returns-in-None : goal.returns-in-None
returns-in-None c = ap (λ (hs : List ℕ). record c.args.self.now { held = hs }) (sym (none-out (λ (h : ℕ). h == c.args.id) c.args.self.now.held (sym c.in-None.ensures)))
