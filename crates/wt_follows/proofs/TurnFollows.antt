-- A driver that follows a log follows it with each turn of the transport that may come, on an open connection and after its end; so it
-- does with all turns from the start.
use Rattle.std.proofs.Common.{◌∙◌, ◌≡◌, ◌∷◌, Bool, List, Some, [], ap, false, refl, subst, sym, true, ℕ}
use Rattle.std.proofs.lemmas.Bool.{true≢false}
use Rattle.std.specs.Prelude.{IsTrue, if◌then◌else◌}
use Rattle.wt_follows.proofs.EventFollows.{few-by}
use Rattle.wt_follows.proofs.EventTurn.{event-turn}
use Rattle.wt_follows.proofs.Events.{AreFew, event-quiet}
use Rattle.wt_follows.proofs.Initial.{first-follows}
use Rattle.wt_follows.proofs.Looked.{looked-at}
use Rattle.wt_follows.proofs.PutFollows.{Came, actions-with, fits-actions, newest-behind}
use Rattle.wt_follows.proofs.QuietEntry.{Quiet, and-first, placed-stays, sending-stays, there-stays}
use Rattle.wt_follows.proofs.RestFollows.{receive-closed}
use Rattle.wt_follows.specs.Answering.{AllCome}
use Rattle.wt_follows.specs.Tie.{Amid, goes}
use Rattle.wt_kept.specs.Calling.{driver_at_first, lawful_turn, open_turn, turn_now, with_turn}
use Rattle.wt_kept.specs.Kept.{DriverNow}
use Rattle.wt_kept.specs.Pieces.{take_piece_now}
use Rattle.wt_transport.proofs.Refining.{refined_fits, refined_open, turn_refines}
use Rattle.wt_transport.specs.State.{Refines}
use Rattle.wt_transport.specs.Step.{after_turn, fits_now, if_so, with_change}
use Rattle.wt_transport.specs.StreamState.{with_bytes}
use Rattle.wt_turn.specs.Arrivals.{event_entry, fits, log_reported, log_turn}
use Rattle.wt_turn.specs.Joined.{newest_first}
use Rattle.wt_turn.specs.Unread.{ReadPosition}
use Rattle.wt_sessions.proofs.LogFollows.{log-sends}
use Rattle.wt_sessions.specs.Answers.{log_after, log_from, receive, turn_effect}
use Rattle.wt_sessions.specs.Driver.{flush, log_and_flush, stream_table, transport_view}
use Rattle.wt_sessions.specs.DriverState.{DriverState, state_of}
use Rattle.wt_sessions.specs.Moment.{Fits, moment_actions}
use Rattle.wt_turn.specs.Log.{Event, Log, Reported, ReportedLate, actions_of, is_open, with_actions}
use Rattle.wt_turn.specs.Turns.{event_of}
use Rattle.wt_turn.specs.declared.action.Action.{Action}
use Rattle.wt_turn.specs.declared.turn.Turn.{Turn}
use Rattle.wt_turn.specs.declared.turn.Turn.TheVariants as turns
use Rattle.wt_wire.specs.declared.side.Side.{Side}

-- A driver that follows a log follows it with each piece that may come.
abbrev pub Pieces : Side → List Action → Type 0
Pieces side old = (d : DriverNow) (log : Log) (id : ℕ) (piece : List ℕ) → Came side old d log → fits side log (turns.Bytes id []) ≡ true
    → Came side old (take_piece_now id piece d) (receive side log id piece)

-- ---- the log

-- a turn that is an event adds it
logged-as : (log : Log) (turn : Turn) (e : Event) → event_of turn ≡ Some e → log_turn log turn ≡ event_entry (is_open log) e ∷ log
logged-as log (turns.Bytes id piece) e r = absurd cc
logged-as log turn e r = λ i. log_reported log (r i)

effect-is : (side : Side) (log : Log) (turn : Turn) (e : Event) → event_of turn ≡ Some e → (turn_effect side log turn).log ≡ flush side (log_turn log turn)
effect-is side log (turns.Bytes id piece) e r = absurd cc
effect-is side log (turns.Call call) e r = absurd cc
effect-is side log turn e r = refl

-- an event after the end is no moment
late-alone : (side : Side) (log : Log) (e : Event) → flush side (ReportedLate e ∷ log) ≡ ReportedLate e ∷ log
unfolding flush
late-alone side log e = refl

late-state : (side : Side) (log : Log) (e : Event) → state_of side (ReportedLate e ∷ log) ≡ state_of side log
unfolding state_of stream_table
late-state side log e = refl

late-quiet : (side : Side) (log : Log) (e : Event) → AreFew side (ReportedLate e ∷ log) → Quiet side log (ReportedLate e ∷ log)
late-quiet side log e few = record {
  contents_same = refl;
  there = λ k x. (event-quiet side log e few).there k x;
  given_same = λ k. refl;
  read_same = λ k. refl;
  actions_same = refl;
  resets_same = λ k. refl;
  few = few;
}

-- ---- one turn

module _ (side : Side) (old : List Action) (d : DriverNow) (log : Log) (c : Came side old d log) (turn : Turn) (lawful : fits side log turn ≡ true) where
  abbrev position : ℕ → ReadPosition
  position = c.follows.position

  abbrev a : Amid side d log (state_of side log) [] position c.uncollected
  a = c.follows.amid

  fitting : IsTrue (fits_now d.work.transport turn)
  fitting = refined_fits side d.work.transport log position c.uncollected a.work.transport turn ∙ lawful

  -- it is taken
  taken-by : (b : Bool) → is_open log ≡ b → turn_now turn d ≡ (if b then open_turn turn d else with_turn turn d)
  unfolding turn_now
  taken-by b o = ap (λ (x : Bool). if x then lawful_turn turn d else d) fitting
      ∙ ap (λ (x : Bool). if x then open_turn turn d else with_turn turn d) (refined_open side d.work.transport log position c.uncollected a.work.transport ∙ o)

  module _ (e : Event) (r : event_of turn ≡ Some e) where
    -- ---- on an open connection

    abbrev sent : List Action
    sent = moment_actions (transport_view side log) (transport_view side (Reported e ∷ log)) (Reported e) (state_of side log)

    sends : log_and_flush side log (Reported e) ≡ with_actions sent (Reported e ∷ log)
    sends = log-sends side log (Reported e) (tt, c.fits)

    in-time : is_open log ≡ true → Came side old (turn_now turn d) (log_and_flush side log (Reported e))
    in-time opened = record {
      uncollected = newest_first sent c.uncollected;
      follows = event-turn side d log c.uncollected c.follows c.fits opened turn fitting (looked-at side log) e r;
      all = ap actions_of sends ∙ (actions-with sent (Reported e ∷ log) ∙ (ap (newest_first sent) c.all ∙ newest-behind sent c.uncollected old));
      fits = subst (Fits side) (sym sends) (fits-actions side sent (Reported e ∷ log) (tt, c.fits));
    }

    -- ---- after the end

    module _ (ended : is_open log ≡ false) where
      abbrev s : DriverState
      s = state_of side log

      abbrev g : Log
      g = ReportedLate e ∷ log

      shut : goes s ≡ true → ⊥
      shut x = true≢false (sym (and-first s.is_open _ x) ∙ (a.work.is_open_same ∙ ended))

      quiet : Quiet side log g
      quiet = late-quiet side log e (few-by side log turn e r lawful a.work.there.few)

      refines : Refines side (after_turn d.work.transport turn) g position c.uncollected
      refines = subst (λ (l : Log). Refines side (after_turn d.work.transport turn) l position c.uncollected) (logged-as log turn e r ∙ ap (λ (b : Bool). event_entry b e ∷ log) ended)
          (turn_refines side d.work.transport log position c.uncollected a.work.transport turn fitting)

      amid : Amid side (with_turn turn d) g s [] position c.uncollected
      amid = record {
        work = record {
          transport = refines;
          is_open_same = a.work.is_open_same;
          keeps = a.work.keeps;
          roles = a.work.roles;
          placed = placed-stays side log g quiet s position a.work.placed;
          there = there-stays side log g quiet s a.work.there;
          sends = sending-stays side log g quiet s a.work.sends;
          control = λ x. absurd (shut x);
          sessions = λ x. absurd (shut x);
        };
        kinds = a.kinds;
        few = a.few;
        own = a.own;
        allowed = a.allowed;
        unis = λ x. absurd (shut x);
        bis = λ x. absurd (shut x);
        datagrams = λ x. absurd (shut x);
        response = a.response;
      }

      late : Came side old (with_turn turn d) g
      late = record {
        uncollected = c.uncollected;
        follows = record {
          position = position;
          amid = subst (λ (z : DriverState). Amid side (with_turn turn d) g z [] position c.uncollected) (sym (late-state side log e)) amid;
          rests = λ x. absurd (true≢false (sym x ∙ ended));
        };
        all = c.all;
        fits = (tt, c.fits);
      }

    -- ---- either way

    pub event-comes : Came side old (turn_now turn d) (turn_effect side log turn).log
    event-comes = subst (Came side old (turn_now turn d)) (sym (effect-is side log turn e r ∙ ap (flush side) (logged-as log turn e r))) (by (is_open log) refl)
      where
        by : (b : Bool) → is_open log ≡ b → Came side old (turn_now turn d) (flush side (event_entry (is_open log) e ∷ log))
        by true o = subst (λ (b : Bool). Came side old (turn_now turn d) (flush side (event_entry b e ∷ log))) (sym o) (in-time o)
        by false o = subst (λ (b : Bool). Came side old (turn_now turn d) (flush side (event_entry b e ∷ log))) (sym o)
            (subst (Came side old (turn_now turn d)) (sym (late-alone side log e)) (subst (λ (x : DriverNow). Came side old x (ReportedLate e ∷ log)) (sym (taken-by false o)) (late o)))

-- a piece: its bytes are read, and after the end left out
piece-comes : (side : Side) (old : List Action) → Pieces side old → (d : DriverNow) (log : Log) (id : ℕ) (piece : List ℕ) → Came side old d log → fits side log (turns.Bytes id piece) ≡ true
    → Came side old (turn_now (turns.Bytes id piece) d) (receive side log id piece)
piece-comes side old pieces d log id piece c lawful = by (is_open log) refl
  where
    left : is_open log ≡ false → with_turn (turns.Bytes id piece) d ≡ d
    left o = ap (λ (b : Bool). record d { work = record d.work { transport = if_so b (with_change d.work.transport id (with_bytes piece)) d.work.transport } })
        (refined_open side d.work.transport log c.follows.position c.uncollected c.follows.amid.work.transport ∙ o)

    by : (b : Bool) → is_open log ≡ b → Came side old (turn_now (turns.Bytes id piece) d) (receive side log id piece)
    by true o = subst (λ (x : DriverNow). Came side old x (receive side log id piece)) (sym (taken-by side old d log c (turns.Bytes id piece) lawful true o)) (pieces d log id piece c lawful)
    by false o = subst (λ (x : DriverNow). Came side old x (receive side log id piece)) (sym (taken-by side old d log c (turns.Bytes id piece) lawful false o ∙ left o))
        (subst (Came side old d) (sym (receive-closed side old id log piece o)) c)

-- ---- any turn of the transport

-- what is kept after these turns
abbrev pub turns_now : List Turn → DriverNow → DriverNow
turns_now [] d = d
turns_now (turn ∷ later) d = turns_now later (turn_now turn d)

module _ (side : Side) (old : List Action) (pieces : Pieces side old) where
  -- the driver follows the log with the turn
  pub turn-follows : (d : DriverNow) (log : Log) (turn : Turn) → Came side old d log → fits side log turn ≡ true → Came side old (turn_now turn d) (turn_effect side log turn).log
  turn-follows d log (turns.Bytes id piece) c lawful = piece-comes side old pieces d log id piece c lawful
  turn-follows d log (turns.Call call) c lawful = absurd cc
  turn-follows d log turn c lawful = event-comes side old d log c turn lawful _ refl

  -- it follows the log with all of them
  pub turns-follow : (later : List Turn) (d : DriverNow) (log : Log) → Came side old d log → AllCome side log later → Came side old (turns_now later d) (log_from side log later)
  turns-follow [] d log c all = c
  turns-follow (turn ∷ later) d log c all = turns-follow later (turn_now turn d) (log_after side log turn) (turn-follows d log turn c all.0) all.1

-- ---- from the start

-- a driver that begins follows the empty log
pub first-came : (side : Side) → Came side [] (driver_at_first side) []
first-came side = record { uncollected = []; follows = first-follows side; all = refl; fits = tt }

-- and all turns of the transport from the start
pub reached : (side : Side) → Pieces side [] → (all : List Turn) → AllCome side [] all → Came side [] (turns_now all (driver_at_first side)) (log_from side [] all)
reached side pieces all come = turns-follow side [] pieces all (driver_at_first side) [] (first-came side) come
