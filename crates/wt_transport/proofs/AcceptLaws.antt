-- A stream that is accepted is there, and accepting it leaves all that a log tells.
use Rattle.std.proofs.Common.{arith, ◌≡◌, ◌<◌, ◌+◌, ◌*◌, ◌/◌, ◌%◌, ◌^◌, ℕ, Bool, true, false, Some, None, List, refl}
use Rattle.std.specs.Prelude.{IfSome, IsTrue, nat_lt, ◌==◌, ◌&&◌, not, if◌then◌else◌}
use Rattle.wt_wire.specs.declared.side.Side.{Side}
use Rattle.wt_wire.specs.declared.side.Side.TheVariants.{Client, Server}
use Rattle.wt_turn.specs.declared.action.Action.{Action}
use Rattle.wt_turn.specs.Log.{Log}
use Rattle.wt_turn.specs.Streams.{local_uni, peer_bi, peer_uni, stream_count}
use Rattle.wt_turn.specs.Unread.{ReadPosition}
use Rattle.wt_transport.specs.StreamState.{has_stream}
use Rattle.wt_transport.specs.State.{AcceptedCounts, TransportState, Refines}
use Rattle.wt_transport.specs.Step.{can_receive_now, can_send_now, count_now}
use Rattle.wt_transport.specs.Accepting.{next_peer_bi, next_peer_uni, stream_after}
use Rattle.wt_transport.proofs.Bools.{second}
use Rattle.wt_transport.proofs.Refining.{refined_side}
use Rattle.wt_transport.proofs.Asking.{refined_peer_bis, refined_peer_unis}

if-some : (b : Bool) (id : ℕ) (P : ℕ → Type 0) → (b ≡ true → P id) → IfSome (if b then Some id else None) P
if-some true id P f = f refl
if-some false id P f = tt

there : (t : TransportState) (n kind : ℕ) → kind < 4 → nat_lt n (count_now t kind) ≡ true → has_stream t.streams (4 * n + kind) ≡ true
there t n kind l e =
    let low : (4 * n + kind) % 4 ≡ kind = omega arith in
    let index : (4 * n + kind) / 4 ≡ n = omega arith in
    rw (low, index) e

half-there : (t : TransportState) (n kind other : ℕ) → kind < 4 → nat_lt n (count_now t kind) ≡ true → (other == kind) ≡ false
    → (has_stream t.streams (4 * n + kind) && not (other == (4 * n + kind) % 4)) ≡ true
half-there t n kind other l e differs =
    let low : (4 * n + kind) % 4 ≡ kind = omega arith in
    rw (there t n kind l e, low, differs) refl

bi-kind : (side : Side) → peer_bi side < 4
bi-kind Client = omega arith
bi-kind Server = omega arith

uni-kind : (side : Side) → peer_uni side < 4
uni-kind Client = omega arith
uni-kind Server = omega arith

not-local : (side : Side) → (local_uni side == peer_bi side) ≡ false
not-local Client = refl
not-local Server = refl

not-peer : (side : Side) → (peer_uni side == peer_bi side) ≡ false
not-peer Client = refl
not-peer Server = refl

not-same : (side : Side) → (local_uni side == peer_uni side) ≡ false
not-same Client = refl
not-same Server = refl

pub bi_there : (t : TransportState) → IfSome (next_peer_bi t) (λ id. IsTrue (can_send_now t id && can_receive_now t id))
bi_there t = if-some (nat_lt t.accepted.bi (2 ^ 60) && nat_lt t.accepted.bi (count_now t (peer_bi t.side))) (4 * t.accepted.bi + peer_bi t.side) _
    (λ e. let few = second (nat_lt t.accepted.bi (2 ^ 60)) (nat_lt t.accepted.bi (count_now t (peer_bi t.side))) e in
    rw (half-there t t.accepted.bi (peer_bi t.side) (peer_uni t.side) (bi-kind t.side) few (not-peer t.side), half-there t t.accepted.bi (peer_bi t.side) (local_uni t.side) (bi-kind t.side) few (not-local t.side)) refl)

pub uni_there : (t : TransportState) → IfSome (next_peer_uni t) (λ id. IsTrue (can_receive_now t id))
uni_there t = if-some (nat_lt t.accepted.uni (2 ^ 60) && nat_lt t.accepted.uni (count_now t (peer_uni t.side))) (4 * t.accepted.uni + peer_uni t.side) _
    (λ e. let few = second (nat_lt t.accepted.uni (2 ^ 60)) (nat_lt t.accepted.uni (count_now t (peer_uni t.side))) e in
    half-there t t.accepted.uni (peer_uni t.side) (local_uni t.side) (uni-kind t.side) few (not-same t.side))

module _ (side : Side) (t : TransportState) (log : Log) (position : ℕ → ReadPosition) (uncollected : List Action) (r : Refines side t log position uncollected) where
  pub refined_next_uni : next_peer_uni t ≡ stream_after (stream_count side log (peer_uni side)) (peer_uni side) t.accepted.uni
  refined_next_uni = λ i. stream_after (refined_peer_unis side t log position uncollected r i) (peer_uni (refined_side side t log position uncollected r i)) t.accepted.uni

  pub refined_next_bi : next_peer_bi t ≡ stream_after (stream_count side log (peer_bi side)) (peer_bi side) t.accepted.bi
  refined_next_bi = λ i. stream_after (refined_peer_bis side t log position uncollected r i) (peer_bi (refined_side side t log position uncollected r i)) t.accepted.bi

  -- no log tells how many were accepted
  pub accepting_refines : (accepted : AcceptedCounts) → Refines side (record t { accepted = accepted }) log position uncollected
  accepting_refines accepted = record { pieces = r.pieces; facts = r.facts; holds = r.holds; state = r.state }
