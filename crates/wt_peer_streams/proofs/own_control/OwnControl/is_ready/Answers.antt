use Rattle.std.proofs.Common.{◌∙◌, ap, length, nat_eq, ℕ, List}
use Rattle.wt_kept.specs.Moment.{is_ready_now}
use Rattle.wt_peer_streams.proofs.Head.{head-bytes}
use Rattle.wt_peer_streams.proofs.own_control.OwnControl.is_ready.Goals as goal

pub returns : goal.returns
returns c = ap (λ (xs : List ℕ). nat_eq c.self.inside.sent (length xs)) head-bytes ∙ ap is_ready_now c.self.view_is
