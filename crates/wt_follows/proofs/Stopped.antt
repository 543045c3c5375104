-- In the midst of a moment a stream is stopped, and nothing more of it is read.
use Rattle.std.proofs.Common.{◌∙◌, ◌≡◌, ◌≤◌, ◌+◌, ◌++◌, ◌/◌, ◌%◌, ◌∷◌, Bool, List, [], ap, arith, false, subst, sym, true, ℕ}
use Rattle.std.proofs.lemmas.Bool.Decides.{nat_tests}
use Rattle.std.specs.Prelude.{◌&&◌, ◌==◌, nat_lt, not, if◌then◌else◌}
use Rattle.wt_follows.proofs.Gains.{IsNew}
use Rattle.wt_follows.proofs.Logs.{with-append}
use Rattle.wt_follows.proofs.Moved.{Elsewhere, moved}
use Rattle.wt_follows.specs.Tie.{Sends, WorkAmid}
use Rattle.wt_kept.specs.Classifying.{gives_up_now, refuse_stream, with_transport_by}
use Rattle.wt_kept.specs.Kept.{WorkNow}
use Rattle.wt_transport.proofs.Bools.{first, second}
use Rattle.wt_transport.proofs.Refining.{give_up_refines, refined_can_receive, stop_refines}
use Rattle.wt_transport.specs.State.{Refines}
use Rattle.wt_transport.specs.Step.{after_give_up, after_stop, can_receive_now}
use Rattle.wt_turn.specs.Joined.{newest_first}
use Rattle.wt_turn.specs.Streams.{can_receive, exists, local_count, local_uni, one_more_if, opens, peer_count, stream_count}
use Rattle.wt_turn.specs.Unread.{ReadPosition, given_up, GivenUp}
use Rattle.wt_sessions.specs.Driver.{still_sends}
use Rattle.wt_sessions.specs.DriverState.{DriverState}
use Rattle.wt_turn.specs.Log.{Log, Sent, actions_of, all_events_of, is_open, with_actions}
use Rattle.wt_turn.specs.declared.action.Action.{Action}
use Rattle.wt_turn.specs.declared.action.Action.TheVariants as actions
use Rattle.wt_wire.specs.Codes.{code_of}
use Rattle.wt_wire.specs.declared.error.ErrorCode.{ErrorCode}
use Rattle.wt_wire.specs.declared.side.Side.{Side}

-- ---- streams that are there stay there

more-below : (a b c : ℕ) → b ≤ c → nat_lt a b ≡ true → nat_lt a c ≡ true
more-below a b c le e = grind (arith, nat_tests)

one-more : (b : Bool) (peers local : ℕ) → peers + local ≤ peers + one_more_if b local
one-more true peers local = omega arith
one-more false peers local = omega arith

pub exists-more : (side : Side) (k : ℕ) (later : List Action) (log : Log) → exists side log k ≡ true → exists side (with_actions later log) k ≡ true
exists-more side k [] log e = e
exists-more side k (a ∷ later) log e =
    exists-more side k later (Sent a ∷ log)
    (more-below (k / 4) (stream_count side log (k % 4)) (stream_count side (Sent a ∷ log) (k % 4)) (one-more (opens (k % 4) a) (peer_count side (all_events_of log) (k % 4)) (local_count (actions_of log) (k % 4))) e)

pub receives-more : (side : Side) (k : ℕ) (later : List Action) (log : Log) → can_receive side log k ≡ true → can_receive side (with_actions later log) k ≡ true
receives-more side k later log e =
    let there : exists side log k ≡ true = first (exists side log k) (not (local_uni side == k % 4)) e in
    let half : not (local_uni side == k % 4) ≡ true = second (exists side log k) (not (local_uni side == k % 4)) e in
    λ i. exists-more side k later log there i && half i

module _ (side : Side) (log : Log) (s : DriverState) (k : ℕ) where
  -- a stop ends no half on which this end sends
  sends-stop : (before : Log) (code : ℕ) → Sends side s before log → Sends side s before (Sent (actions.StopOut k code) ∷ log)
  sends-stop before code h = record { arriving = h.arriving; waiting = h.waiting; members = h.members; living = h.living; own = h.own }

module _ (side : Side) (w : WorkNow) (log : Log) (s : DriverState) (sent : List Action) (position : ℕ → ReadPosition) (uncollected : List Action) (amid : WorkAmid side w log s sent position uncollected) (open_ : s.is_open ≡ true) (k : ℕ) where
  pub stopped : (code : ErrorCode)
      → WorkAmid side (with_transport_by (λ t. after_stop t k (code_of code)) w) log s (sent ++ actions.StopOut k (code_of code) ∷ []) position (actions.StopOut k (code_of code) ∷ uncollected)
  stopped code = record {
    transport = subst (λ (g : Log). Refines side (after_stop w.transport k (code_of code)) g position (stop ∷ uncollected)) (sym longer) out;
    is_open_same = amid.is_open_same ∙ ap is_open (sym longer);
    keeps = amid.keeps;
    roles = amid.roles;
    placed = amid.placed;
    there = amid.there;
    sends = subst (λ (g : Log). Sends side s log g) (sym longer) (sends-stop side (with_actions sent log) s k log (code_of code) amid.sends);
    control = amid.control;
    sessions = amid.sessions;
  }
    where
      stop : Action
      stop = actions.StopOut k (code_of code)

      longer : with_actions (sent ++ stop ∷ []) log ≡ Sent stop ∷ with_actions sent log
      longer = with-append sent (stop ∷ []) log

      opened : is_open (with_actions sent log) ≡ true
      opened = sym amid.is_open_same ∙ open_

      out : Refines side (after_stop w.transport k (code_of code)) (Sent stop ∷ with_actions sent log) position (stop ∷ uncollected)
      out = subst (λ (b : Bool). Refines side (after_stop w.transport k (code_of code)) (with_actions (if b then stop ∷ [] else []) (with_actions sent log)) position (newest_first (if b then stop ∷ [] else []) uncollected)) opened
          (stop_refines side w.transport (with_actions sent log) position uncollected amid.transport k (code_of code))

  -- it may be received on in the transport
  pub receives-now : can_receive side log k ≡ true → can_receive_now w.transport k ≡ true
  receives-now there = refined_can_receive side w.transport (with_actions sent log) position uncollected amid.transport k ∙ receives-more side k sent log there

  -- nothing more of it is read
  pub gave-up-here : IsNew side log sent s k → WorkAmid side (with_transport_by (λ t. after_give_up t k) w) log s sent (given_up position k) uncollected
  gave-up-here new =
      moved side w log s sent position uncollected amid k new.apart (first (exists side log k) (not (local_uni side == k % 4)) new.receives) (after_give_up w.transport k) (given_up position k)
      (give_up_refines side w.transport (with_actions sent log) position uncollected amid.transport k (receives-now new.receives))
      given-elsewhere
    where
      given-elsewhere : Elsewhere k position (given_up position k)
      given-elsewhere j e = ap (λ (b : Bool). if b then GivenUp else position j) e

  pub gave-up : IsNew side log sent s k → WorkAmid side (gives_up_now k w) log s sent (given_up position k) uncollected
  gave-up new =
      subst (λ (b : Bool). WorkAmid side (with_transport_by (λ t. if b then after_give_up t k else t) w) log s sent (given_up position k) uncollected) (sym (receives-now new.receives)) (gave-up-here new)

pub new-still : (side : Side) (log : Log) (sent : List Action) (s : DriverState) (k code : ℕ) → IsNew side log sent s k → IsNew side log (sent ++ actions.StopOut k code ∷ []) s k
new-still side log sent s k code new = record {
  apart = new.apart;
  arriving = new.arriving;
  untouched = new.untouched;
  receives = new.receives;
  peers = new.peers;
  sends = ap (λ g. still_sends side g k) (with-append sent (actions.StopOut k code ∷ []) log) ∙ new.sends;
}

module _ (side : Side) (w : WorkNow) (log : Log) (s : DriverState) (sent : List Action) (position : ℕ → ReadPosition) (uncollected : List Action) (amid : WorkAmid side w log s sent position uncollected) (open_ : s.is_open ≡ true) (k : ℕ) where
  -- both
  pub refused-stream : (code : ErrorCode) → IsNew side log sent s k
      → WorkAmid side (refuse_stream k code w) log s (sent ++ actions.StopOut k (code_of code) ∷ []) (given_up position k) (actions.StopOut k (code_of code) ∷ uncollected)
  refused-stream code new =
      subst (λ (b : Bool). WorkAmid side (with_transport_by (λ t. if b then after_give_up (after_stop t k (code_of code)) k else t) w) log s (sent ++ actions.StopOut k (code_of code) ∷ []) (given_up position k)
      (actions.StopOut k (code_of code) ∷ uncollected))
      (sym (receives-now side w log s sent position uncollected amid open_ k new.receives))
      (gave-up-here side (with_transport_by (λ t. after_stop t k (code_of code)) w) log s (sent ++ actions.StopOut k (code_of code) ∷ []) position (actions.StopOut k (code_of code) ∷ uncollected)
      (stopped side w log s sent position uncollected amid open_ k code) open_ k (new-still side log sent s k (code_of code) new))
