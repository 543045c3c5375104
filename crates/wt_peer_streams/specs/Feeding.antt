-- One feed of a reader with unread bytes of its stream.
use Rattle.std.specs.Prelude.{◌<◌, ◌≡◌, ◌≤◌, Bool, List, false, length, take, ℕ}
use Rattle.wt_transport.specs.State.{TransportState}
use Rattle.wt_transport.specs.Step.{after_consume, unread_now}

-- it took some of them, and none after what it says was final
pub record Took {V : Type 0} (said : V → Bool) (fed : V → List ℕ → V) (id : ℕ) (r : V) (t : TransportState) (after : V) (then_t : TransportState) : Type 0 where
  pub count : ℕ
  pub some : 0 < count
  pub within : count ≤ length (unread_now t id)
  pub reader : after ≡ fed r (take count (unread_now t id))
  pub transport : then_t ≡ after_consume t id count
  pub goes : (k : ℕ) → k < count → said (fed r (take k (unread_now t id))) ≡ false
