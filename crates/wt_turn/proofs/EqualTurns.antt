-- Turns that `==` finds equal are equal, variant by variant.
use Rattle.std.proofs.Common.{◌≡◌, true, ap, rules, Decides}
use Rattle.wt_turn.proofs.EqualCalls.{calls_join}
use Rattle.wt_turn.proofs.Decides.{decides}
use Rattle.wt_turn.specs.contracts.turn.TurnEq.TheImpl.Laws.{laws-law}
use Rattle.wt_turn.specs.contracts.turn.TurnPartialEq.TheImpl as tests
use Rattle.wt_turn.specs.declared.call.Call as calls
use Rattle.wt_turn.specs.declared.turn.Turn.{Turn}
use Rattle.wt_turn.specs.declared.turn.Turn.TheVariants.{Connected, PeerUni, PeerBi, Bytes, End, Reset, Stop, Acked, Datagram, MaxUni, MaxBi, MaxData, DatagramLimit, Loss, Call}

call_joins : (a : calls.Call) (other : Turn) → tests.ghosts.eq (Call a) other ≡ true → Call a ≡ other
call_joins a (Call x) e = ap Call (calls_join a x e)
call_joins a other e = search rules

pub turns_join : (one other : Turn) → tests.ghosts.eq one other ≡ true → one ≡ other
turns_join (Connected a b c d) other e = search rules
turns_join PeerUni other e = search rules
turns_join PeerBi other e = search rules
turns_join (Bytes a b) other e = search rules
turns_join (End a) other e = search rules
turns_join (Reset a b) other e = search rules
turns_join (Stop a b) other e = search rules
turns_join (Acked a) other e = search rules
turns_join (Datagram a) other e = search rules
turns_join (MaxUni a) other e = search rules
turns_join (MaxBi a) other e = search rules
turns_join (MaxData a b) other e = search rules
turns_join (DatagramLimit a) other e = search rules
turns_join (Loss a) other e = search rules
turns_join (Call a) other e = call_joins a other e

pub turns_decide : (a b : Turn) → Decides (tests.ghosts.eq a b) (a ≡ b)
turns_decide = decides tests.ghosts.eq laws-law turns_join
