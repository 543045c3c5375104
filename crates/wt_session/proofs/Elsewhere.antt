-- The stream of a request is neither this end's control stream nor that of a session that lives.
use Rattle.std.proofs.Common.{◌%◌, ◌∙◌, ap, sym}
use Rattle.std.proofs.lemmas.Bool.{eqb-true}
use Rattle.std.specs.Prelude.{◌&&◌, ◌==◌, ◌≡◌, Bool, List, false, not, true, ℕ}
use Rattle.wt_driver_laws.proofs.ReachRequests.{delivered_held, held_on_sessions, unbegun_remains}
use Rattle.wt_driver_laws.specs.Driving.{IsReachable}
use Rattle.wt_driver_laws.specs.LogLaws.{RequestLaws}
use Rattle.wt_follows.proofs.Lists.{refuted}
use Rattle.wt_meaning.specs.Lawful.{is_client}
use Rattle.wt_session.proofs.Acceptances.{view-of}
use Rattle.wt_session.proofs.Middle.{calls-stay}
use Rattle.wt_turn.specs.Streams.{local_bi, local_uni}
use Rattle.wt_sessions.specs.Driver.{is_living, is_session_gone}
use Rattle.wt_sessions.specs.StreamTable.{was_established}
use Rattle.wt_turn.specs.Log.{CallRecord, Log, with_actions}
use Rattle.wt_turn.specs.declared.action.Action.{Action}
use Rattle.wt_wire.specs.declared.side.Side.{Side}
use Rattle.wt_wire.specs.declared.side.Side.TheVariants.{Client, Server}

-- the control stream is unidirectional
control-apart : (side : Side) → 0 ≡ local_uni side % 4 → ⊥
control-apart Client e = cc e
control-apart Server e = cc e

module _ (side : Side) (log : Log) (reached : IsReachable side log) (id : ℕ) (laws : RequestLaws side log id) where
  -- a client opened it
  of-client : id % 4 ≡ 0
  of-client =
      held_on_sessions side log reached laws.server id
      (delivered_held side log reached id laws.delivered (unbegun_remains side log reached id laws.delivered laws.unestablished laws.unended))

  pub elsewhere : (id == local_uni side) ≡ false
  elsewhere = refuted (id == local_uni side) (λ e. control-apart side (sym of-client ∙ ap (λ (k : ℕ). k % 4) (eqb-true id (local_uni side) e)))

  -- also once actions of the call went out
  pub dead : (own : List Action) → is_living side (with_actions own log) id ≡ false
  dead own =
      ap (λ (b : Bool). b && not (is_session_gone side (with_actions own log) id))
      (ap (λ (cs : List CallRecord). was_established (view-of cs) id) (calls-stay own log) ∙ laws.unestablished)

-- and so is the stream of a client's own request
pub asks-elsewhere : (side : Side) (id : ℕ) → is_client side ≡ true → id ≡ local_bi side → (id == local_uni side) ≡ false
asks-elsewhere Client id client first = ap (λ (k : ℕ). k == 2) first
asks-elsewhere Server id client first = absurd (cc client)
