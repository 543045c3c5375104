-- An entry whose moment finds nothing is an entry of the log and nothing else.
use Rattle.std.proofs.Common.{◌∙◌, ◌≡◌, ◌++◌, ◌∷◌, Bool, [], ap, false, sym, true}
use Rattle.std.specs.Prelude.{◌&&◌}
use Rattle.wt_follows.proofs.AtOnce.{silent-flush, silent-scan}
use Rattle.wt_follows.specs.Pieces.{FindsNothing, noted}
use Rattle.wt_sessions.proofs.LogFollows.{log-follows, log-sends}
use Rattle.wt_sessions.specs.Driver.{close_actions, is_moment, log_and_flush, transport_view}
use Rattle.wt_sessions.specs.DriverState.{DriverState, state_of}
use Rattle.wt_sessions.specs.Moment.{Fits, actions_if, flush_state, scan_if, scans}
use Rattle.wt_sessions.specs.Step.{after_entry, step_actions}
use Rattle.wt_sessions.specs.StreamTable.{TransportView}
use Rattle.wt_turn.specs.Log.{Entry, Log, with_actions}
use Rattle.wt_wire.specs.declared.side.Side.{Side}

module _ (side : Side) (log : Log) (e : Entry) (fits : Fits side (e ∷ log)) (moment : is_moment e ≡ true) where
  abbrev u : TransportView
  u = transport_view side (e ∷ log)

  abbrev s : DriverState
  s = after_entry (transport_view side log) e (state_of side log)

  scanned : (b : Bool) → s.is_open ≡ b → scans e s ≡ b
  scanned b o = λ i. moment i && o i

  -- on an open connection
  module _ (came : Bool) (opened : s.is_open ≡ true) (q : FindsNothing u s came) where
    pub open-alone : log_and_flush side log e ≡ e ∷ log
    open-alone =
        log-sends side log e fits
        ∙ (λ i. with_actions (actions_if (scanned true opened i) u s) (e ∷ log))
        ∙ ap (λ (z : DriverState). with_actions (step_actions u z) (e ∷ log)) (silent-scan u s came q)
        ∙ (λ i. with_actions (q.idle i ++ [] ++ close_actions (q.going i)) (e ∷ log))

    pub open-state : state_of side (e ∷ log) ≡ noted came s
    open-state =
        ap (state_of side) (sym open-alone)
        ∙ log-follows side log e fits
        ∙ (λ i. scan_if (scanned true opened i) u s)
        ∙ ap (flush_state u) (silent-scan u s came q) ∙ silent-flush u s came q

  -- after the end
  module _ (closed : s.is_open ≡ false) where
    pub closed-alone : log_and_flush side log e ≡ e ∷ log
    closed-alone = log-sends side log e fits ∙ (λ i. with_actions (actions_if (scanned false closed i) u s) (e ∷ log))

    pub closed-state : state_of side (e ∷ log) ≡ s
    closed-state = ap (state_of side) (sym closed-alone) ∙ log-follows side log e fits ∙ (λ i. scan_if (scanned false closed i) u s)
