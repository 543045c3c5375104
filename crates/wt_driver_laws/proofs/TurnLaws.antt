-- A driver's turns of the transport, what is collected of it, and its start and end, by the log that it follows.
use Rattle.std.proofs.Common.{◌-◌, ◌∙◌, ◌≡◌, ◌∷◌, List, [], ap, arith, length, subst, sym, take, true, ℕ}
use Rattle.wt_driver_laws.proofs.Reach.{reached_fits, within_fits}
use Rattle.wt_driver_laws.proofs.TurnCollected.{came-through, follows-with, to-came}
use Rattle.wt_driver_laws.specs.Answering.{with_actions_taken, with_dialled}
use Rattle.wt_driver_laws.specs.Calling.{Always, Within}
use Rattle.wt_driver_laws.specs.Driving.{Follows, uncollected_since}
use Rattle.wt_follows.proofs.CloseCall.{close-follows}
use Rattle.wt_follows.proofs.Dials.{collected-follows, dial-follows}
use Rattle.wt_follows.proofs.Initial.{first-follows}
use Rattle.wt_follows.proofs.TurnFollows.{turn-follows}
use Rattle.wt_follows.proofs.WholePiece.{pieces-follow}
use Rattle.wt_follows.specs.Tie as tie
use Rattle.wt_kept.specs.Calling.{close_now, driver_at_first, turn_now}
use Rattle.wt_kept.specs.Kept.{DriverNow}
use Rattle.wt_meaning.specs.Lawful.{is_client}
use Rattle.wt_transport.proofs.Refining.{refined_actions}
use Rattle.wt_turn.specs.Arrivals.{fits}
use Rattle.wt_turn.specs.Joined.{joined_actions}
use Rattle.wt_turn.specs.Outgoing.{if_open}
use Rattle.wt_sessions.specs.Answers.{log_after}
use Rattle.wt_turn.specs.Log.{Log, actions_of, with_actions}
use Rattle.wt_turn.specs.declared.action.Action.{Action}
use Rattle.wt_turn.specs.declared.action.Action.TheVariants as actions
use Rattle.wt_turn.specs.declared.turn.Turn.{Turn}
use Rattle.wt_wire.specs.declared.addr.Addr.{Addr}
use Rattle.wt_wire.specs.declared.side.Side.{Side}

-- ---- turns of the transport

turned : (turn : Turn) (d : DriverNow) → Always d (λ side log collected. fits side log turn ≡ true → Follows side (turn_now turn d) (log_after side log turn) collected)
turned turn d side log collected f r lawful =
    came-through side d (turn_now turn d) log (log_after side log turn) collected f
    (turn-follows side _ (pieces-follow side _) d log turn (to-came side d log collected f (reached_fits side log r)) lawful)

-- the driver follows the log after the turn
pub turn_law : (turn : Turn) (d later : DriverNow) → later ≡ turn_now turn d → Always d (λ side log collected. fits side log turn ≡ true → Follows side later (log_after side log turn) collected)
turn_law turn d later e side log collected f r lawful = subst (λ (x : DriverNow). Follows side x (log_after side log turn) collected) (sym e) (turned turn d side log collected f r lawful)

-- ---- what goes out

-- what is collected is what wasn't collected yet
pub actions_law : (a : List Action) (d : DriverNow) → a ≡ d.work.transport.actions → (side : Side) (log : Log) (collected : ℕ) → Follows side d log collected → a ≡ joined_actions (uncollected_since collected log)
actions_law a d e side log collected f = e ∙ refined_actions side d.work.transport log f.kept.position (uncollected_since collected log) f.kept.amid.work.transport

-- all of it was collected then
pub collected_law : (d later : DriverNow) → later ≡ with_actions_taken d → (side : Side) (log : Log) (collected : ℕ) → Follows side d log collected → Follows side later log (length (actions_of log))
collected_law d later e side log collected f = subst (λ (x : DriverNow). Follows side x log (length (actions_of log))) (sym e) (record {
  kept = subst (λ (xs : List Action). tie.Follows side (with_actions_taken d) log xs) (sym none) (collected-follows side d log (uncollected_since collected log) f.kept);
  within = omega arith;
})
  where
    nothing : (n : ℕ) → n - n ≡ 0
    nothing n = omega arith

    none : uncollected_since (length (actions_of log)) log ≡ []
    none = ap (λ (n : ℕ). take n (actions_of log)) (nothing (length (actions_of log)))

-- ---- its start and its end

-- a driver that begins follows the empty log
pub init_law : (side : Side) (d : DriverNow) → d ≡ driver_at_first side → Follows side d [] 0
init_law side d e = subst (λ (x : DriverNow). Follows side x [] 0) (sym e) (record { kept = first-follows side; within = omega arith })

-- it dials
pub dial_law : (address : Addr) (name : List ℕ) (d later : DriverNow) → later ≡ with_dialled address name d → Always d (λ side log collected. is_client side ≡ true → log ≡ []
    → Follows side later (with_actions (actions.Dial address name ∷ []) log) collected)
dial_law address name d later e side log collected f r client first = subst (λ (x : DriverNow). Follows side x (with_actions (actions.Dial address name ∷ []) log) collected) (sym e)
    (follows-with side d (with_dialled address name d) log collected (actions.Dial address name ∷ []) f
    (dial-follows side d log (uncollected_since collected log) f.kept (reached_fits side log r) address name))

-- it closes the connection
pub close_law : (code : ℕ) (reason : List ℕ) (d later : DriverNow) → later ≡ close_now code reason d → Within d (λ side log collected. Follows side later (with_actions (if_open log (actions.Close code reason)) log) collected)
close_law code reason d later e side log collected f w = subst (λ (x : DriverNow). Follows side x (with_actions (if_open log (actions.Close code reason)) log) collected) (sym e)
    (follows-with side d (close_now code reason d) log collected (if_open log (actions.Close code reason)) f
    (close-follows side d log (uncollected_since collected log) f.kept (within_fits side log w) code reason))
