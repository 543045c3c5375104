-- Actions that `==` finds equal are equal, variant by variant.
use Rattle.std.proofs.Common.{◌≡◌, true, rules, Decides}
use Rattle.wt_turn.proofs.Decides.{decides}
use Rattle.wt_turn.specs.contracts.action.ActionEq.TheImpl.Laws.{laws-law}
use Rattle.wt_turn.specs.contracts.action.ActionPartialEq.TheImpl as tests
use Rattle.wt_turn.specs.declared.action.Action.{Action}
use Rattle.wt_turn.specs.declared.action.Action.TheVariants.{Dial, Opened, Send, Finish, ResetOut, StopOut, DatagramOut, Close}

pub actions_join : (one other : Action) → tests.ghosts.eq one other ≡ true → one ≡ other
actions_join (Dial a b) other e = search rules
actions_join (Opened a) other e = search rules
actions_join (Send a b) other e = search rules
actions_join (Finish a) other e = search rules
actions_join (ResetOut a b) other e = search rules
actions_join (StopOut a b) other e = search rules
actions_join (DatagramOut a) other e = search rules
actions_join (Close a b) other e = search rules

pub actions_decide : (a b : Action) → Decides (tests.ghosts.eq a b) (a ≡ b)
actions_decide = decides tests.ghosts.eq laws-law actions_join
