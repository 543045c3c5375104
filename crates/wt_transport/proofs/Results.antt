-- What holds of a value holds of an answer that may be one.
use Rattle.std.proofs.Common.{◌≡◌, ℕ, List, sym, subst}
use Rattle.std.specs.Prelude.{Result, Ok, Err, IfOk}
use Rattle.wt_wire.specs.declared.side.Side.{Side}
use Rattle.wt_turn.specs.declared.action.Action.{Action}
use Rattle.wt_turn.specs.Log.{Log}
use Rattle.wt_turn.specs.Unread.{ReadPosition}
use Rattle.wt_transport.specs.State.{Refines, TransportState}

pub if_ok : {T E : Type 0} {P Q : T → Type 0} (r : Result T E) → ((x : T) → P x → Q x) → IfOk r P → IfOk r Q
if_ok (Ok x) f p = f x p
if_ok (Err e) f p = p

-- what refines a log is refined by whatever is equal to it
pub moved : {side : Side} {t : TransportState} {log : Log} {position : ℕ → ReadPosition} {uncollected : List Action} (u : TransportState) → u ≡ t → Refines side t log position uncollected → Refines side u log position uncollected
moved {side = side} {log = log} {position = position} {uncollected = uncollected} u e r = subst (λ (v : TransportState). Refines side v log position uncollected) (sym e) r
