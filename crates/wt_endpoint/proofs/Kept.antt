-- A core tells whether its connection is open and established.
use Rattle.std.proofs.Common.{◌≡◌, Bool, false, refl, true}
use Rattle.std.specs.Prelude.{◌&&◌}
use Rattle.wt_endpoint.specs.Connections.{is_live_now}
use Rattle.wt_endpoint.specs.Endpoints.{is_live}
use Rattle.wt_meaning.specs.History.{History, is_open}
use Rattle.wt_core.proofs.Histories.{connected_is, open_is}
use Rattle.wt_core.specs.CoreState.{CoreState, KeepsHistory, connected_now, open_now}
use Rattle.wt_wire.specs.declared.side.Side.{Side}

live-by : (side : Side) (c : CoreState) (h : History) → KeepsHistory side c h → (b : Bool) → is_open h ≡ b → (open_now c && connected_now c) ≡ is_live h
live-by side c h k true o = rw (open_is side c h k, o) (connected_is side c h k o)
live-by side c h k false o = rw (open_is side c h k, o) refl

pub live-is : (side : Side) (c : CoreState) (h : History) → KeepsHistory side c h → is_live_now c ≡ is_live h
unfolding is_live_now
live-is side c h k = live-by side c h k (is_open h) refl
