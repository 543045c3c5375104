-- A driver that was at rest had nothing left to send on its control stream, so that a stop of it keeps nothing back; and what was ready
-- stays so.
use Rattle.std.proofs.Common.{◌∙◌, ◌≡◌, ◌≤◌, ◌+◌, ◌-◌, ◌++◌, ◌∷◌, Bool, List, [], ap, arith, false, length, min, nat_lt, refl, sym, true, ℕ}
use Rattle.std.proofs.lemmas.Bool.{eq-eqb, true≢false}
use Rattle.std.proofs.lemmas.Bool.Decides.{nat_tests}
use Rattle.std.specs.Prelude.{◌&&◌, ◌==◌, is_some, not}
use Rattle.wt_follows.proofs.OwnActions.{own-exists, own-sent, rest-length}
use Rattle.wt_follows.proofs.OwnStep.{Shape, flushed, head_actions, head_rest, may_open_own, shape}
use Rattle.wt_follows.specs.Tie.{Amid}
use Rattle.wt_kept.specs.Kept.{DriverNow}
use Rattle.wt_message.specs.FixedBytes.{local_control_bytes}
use Rattle.wt_meaning.specs.Sends.{action_if}
use Rattle.wt_transport.specs.StreamState.{Stream}
use Rattle.wt_turn.specs.Joined.{send_of}
use Rattle.wt_turn.specs.Reports.{credit, is_connected, stop_of}
use Rattle.wt_turn.specs.Streams.{local_uni}
use Rattle.wt_turn.specs.Unread.{ReadPosition}
use Rattle.wt_sessions.specs.Driver.{control_actions, control_sent, settings_ready}
use Rattle.wt_sessions.specs.DriverState.{DriverState}
use Rattle.wt_turn.specs.Log.{Called, Entry, Event, Log, Received, Reported, ReportedLate, Sent, Stop, events_of, with_actions}
use Rattle.wt_turn.specs.declared.action.Action.{Action}
use Rattle.wt_turn.specs.declared.action.Action.TheVariants as actions
use Rattle.wt_wire.specs.declared.side.Side.{Side}

-- nothing is left where nothing goes out
nothing-sent : (id : ℕ) (rest : List ℕ) → send_of id rest ≡ [] → rest ≡ []
nothing-sent id [] e = refl
nothing-sent id (x ∷ rest) e = absurd cc

idle-rest : (id : ℕ) (b : Bool) (rest : List ℕ) → action_if b (actions.Opened id) ++ send_of id rest ≡ [] → rest ≡ []
idle-rest id true rest e = absurd cc
idle-rest id false rest e = nothing-sent id rest e

module _ (side : Side) (before : Log) (idle : head_actions side before ≡ []) where
  -- where the stream may be opened
  pub rest-none : may_open_own side before ≡ true → head_rest side before ≡ []
  rest-none e =
      idle-rest (local_uni side) (not (control_sent side before).opened) (head_rest side before)
      (sym (λ i. control_actions (e i) (local_uni side) (credit (events_of before) (local_uni side)) (control_sent side before)) ∙ idle)

  -- ---- a stop

  -- with which event the stop came
  stopped-by : (e : Event) → is_some (stop_of (events_of before) (local_uni side)) ≡ false → is_some (stop_of (events_of (Reported e ∷ before)) (local_uni side)) ≡ true
      → may_open_own side (Reported e ∷ before) ≡ true → head_rest side (Reported e ∷ before) ≡ []
  stopped-by (Stop id code) unstopped stopped may = rest-none may
  stopped-by _ unstopped stopped may = absurd (true≢false (sym stopped ∙ unstopped))

  pub stop-rests : (e : Entry) → is_some (stop_of (events_of before) (local_uni side)) ≡ false → (is_some (stop_of (events_of (e ∷ before)) (local_uni side)) ≡ true → may_open_own side (e ∷ before) ≡ true)
      → is_some (stop_of (events_of (e ∷ before)) (local_uni side)) ≡ true → head_rest side (e ∷ before) ≡ []
  stop-rests (Reported e) unstopped may stopped = stopped-by e unstopped stopped (may stopped)
  stop-rests (Received id byte) unstopped may stopped = absurd (true≢false (sym stopped ∙ unstopped))
  stop-rests (ReportedLate e) unstopped may stopped = absurd (true≢false (sym stopped ∙ unstopped))
  stop-rests (Sent a) unstopped may stopped = absurd (true≢false (sym stopped ∙ unstopped))
  stop-rests (Called r) unstopped may stopped = absurd (true≢false (sym stopped ∙ unstopped))

  -- of a driver that follows: what OwnStep asks for
  module _ (e : Entry) (d : DriverNow) (s : DriverState) (position : ℕ → ReadPosition) (uncollected : List Action) (amid : Amid side d (e ∷ before) s [] position uncollected) where
    stopped-may : is_some (stop_of (events_of (e ∷ before)) (local_uni side)) ≡ true → may_open_own side (e ∷ before) ≡ true
    stopped-may stopped = by (control_sent side (e ∷ before)).opened refl
      where
        by : (b : Bool) → (control_sent side (e ∷ before)).opened ≡ b → may_open_own side (e ∷ before) ≡ true
        by true f = amid.allowed f
        by false f =
            absurd (let none = ap (λ (x : Stream). x.signals.stop) ((amid.work.transport.facts.streams (local_uni side)).unopened (own-exists side (e ∷ before) ∙ f)) in
            true≢false (sym stopped ∙ ap is_some none))

    pub own-rests : is_some (stop_of (events_of before) (local_uni side)) ≡ false → is_some (stop_of (events_of (e ∷ before)) (local_uni side)) ≡ true → head_rest side (e ∷ before) ≡ []
    own-rests unstopped = stop-rests e unstopped stopped-may

  -- ---- what is ready

  -- where SETTINGS are ready the stream may be opened, and credit covers its head
  ready-may : settings_ready side before ≡ true → may_open_own side before ≡ true
  ready-may e = middle (is_connected (events_of before)) (may_open_own side before) (not (nat_lt (credit (events_of before) (local_uni side)) (length local_control_bytes))) e
    where
      middle : (a b c : Bool) → (a && b && c) ≡ true → b ≡ true
      middle true true c f = refl
      middle true false c f = absurd cc
      middle false b c f = absurd cc

  ready-covers : settings_ready side before ≡ true → length local_control_bytes ≤ credit (events_of before) (local_uni side)
  ready-covers e =
      not-less (credit (events_of before) (local_uni side)) (length local_control_bytes) (last (is_connected (events_of before)) (may_open_own side before) (not (nat_lt (credit (events_of before) (local_uni side)) (length local_control_bytes))) e)
    where
      last : (a b c : Bool) → (a && b && c) ≡ true → c ≡ true
      last true true c f = f
      last true false c f = absurd cc
      last false b c f = absurd cc

      not-less : (a b : ℕ) → not (nat_lt a b) ≡ true → b ≤ a
      not-less a b f = grind (arith, nat_tests)

  -- its whole head is out
  pub ready-sent : settings_ready side before ≡ true → length local_control_bytes ≤ (control_sent side before).sent
  ready-sent e =
      covers (control_sent side before).sent (credit (events_of before) (local_uni side)) (length local_control_bytes) (ready-covers e)
      (sym (rest-length (control_sent side before).sent (credit (events_of before) (local_uni side)) local_control_bytes) ∙ ap length (rest-none (ready-may e)))
    where
      covers : (n c whole : ℕ) → whole ≤ c → min whole c - n ≡ 0 → whole ≤ n
      covers n c whole le f = omega (arith, le, f)

  pub ready-stays : (log : Log) (d : DriverNow) (s : DriverState) (position : ℕ → ReadPosition) (uncollected : List Action) (amid : Amid side d log s [] position uncollected) (opened : s.is_open ≡ true)
      (rests : is_some (stop_of (events_of log) (local_uni side)) ≡ true → head_rest side log ≡ []) → (control_sent side before).sent ≤ (control_sent side log).sent → settings_ready side before ≡ true → settings_ready side log ≡ true
  ready-stays log d s position uncollected amid opened rests more e =
      let x : Shape side log d s position uncollected amid opened rests = shape side log d s position uncollected amid opened rests in
      let le = (flushed side log d s position uncollected amid opened rests).own.within in
      let sum : (control_sent side (with_actions (head_actions side log) log)).sent ≡ (control_sent side log).sent + length x.part =
      ap (λ xs. (control_sent side (with_actions xs log)).sent) x.same ∙ own-sent side log x.opens x.part in
      sym x.whole ∙ all-out (control_sent side (with_actions (head_actions side log) log)).sent (control_sent side log).sent (control_sent side before).sent (length x.part) (length local_control_bytes) le sum more (ready-sent e)
    where
      all-out : (n m k part whole : ℕ) → n ≤ whole → n ≡ m + part → k ≤ m → whole ≤ k → (m + part == whole) ≡ true
      all-out n m k part whole le f g h = eq-eqb (m + part) whole (omega (arith, le, f, g, h))
