-- A turn that is an event, on an open connection: the driver takes it, its moment is worked, and what is kept follows the log.
use Rattle.std.proofs.Common.{◌∙◌, ◌≡◌, ◌≤◌, ◌∷◌, Bool, List, Some, [], ap, false, length, refl, subst, subst₂, sym, true}
use Rattle.std.proofs.lemmas.Bool.{true≢false}
use Rattle.std.specs.Prelude.{IsTrue, ◌&&◌, if◌then◌else◌}
use Rattle.wt_follows.proofs.EntryAtRest.{closed-alone, closed-state}
use Rattle.wt_follows.proofs.EventFollows.{event-follows, queued-is}
use Rattle.wt_follows.proofs.MomentEnds.{rested-moment-follows}
use Rattle.wt_follows.specs.Tie.{Amid, Follows, goes}
use Rattle.wt_kept.specs.Calling.{lawful_turn, open_turn, turn_now, with_datagram_queued, with_turn}
use Rattle.wt_kept.specs.Kept.{DriverNow}
use Rattle.wt_kept.specs.Moment.{moment_now, without_datagrams, work_of_moment}
use Rattle.wt_transport.proofs.Refining.{refined_open}
use Rattle.wt_transport.specs.Step.{fits_now}
use Rattle.wt_turn.specs.Joined.{newest_first}
use Rattle.wt_turn.specs.Reports.{datagrams_of}
use Rattle.wt_sessions.specs.Driver.{log_and_flush, transport_view}
use Rattle.wt_sessions.specs.DriverState.{DriverState, state_of}
use Rattle.wt_sessions.specs.Moment.{Fits, actions_if, moment_actions}
use Rattle.wt_sessions.specs.Step.{after_entry}
use Rattle.wt_turn.specs.Log.{Event, Log, Reported, events_of, is_open}
use Rattle.wt_turn.specs.Turns.{event_of}
use Rattle.wt_turn.specs.declared.action.Action.{Action}
use Rattle.wt_turn.specs.declared.turn.Turn.{Turn}
use Rattle.wt_wire.specs.declared.side.Side.{Side}
use Rattle.wt_turn.specs.declared.turn.Turn.TheVariants as turns

-- a turn that is an event is no piece
open-turn-is : (turn : Turn) (d : DriverNow) (e : Event) → event_of turn ≡ Some e → open_turn turn d ≡ moment_now (with_datagram_queued turn (with_turn turn d))
open-turn-is (turns.Bytes id piece) d e r = absurd cc
open-turn-is turn d e r = refl

-- a datagram that waits is no stream
same-unis : (turn : Turn) (d : DriverNow) → ((with_datagram_queued turn d).unis ≡ d.unis) × ((with_datagram_queued turn d).bis ≡ d.bis)
same-unis turn d = (ap (λ x. x.unis) (queued-is turn d), ap (λ x. x.bis) (queued-is turn d))

module _ (side : Side) (d : DriverNow) (log : Log) (uncollected : List Action) (f : Follows side d log uncollected) (fits : Fits side log) (opened : is_open log ≡ true) (turn : Turn) (fitting : IsTrue (fits_now d.work.transport turn))
    (looked : (state_of side log).progress.datagrams ≤ length (datagrams_of (events_of log))) (e : Event) (r : event_of turn ≡ Some e) where
  abbrev taken : DriverNow
  taken = with_datagram_queued turn (with_turn turn d)

  abbrev s : DriverState
  s = after_entry (transport_view side log) (Reported e) (state_of side log)

  abbrev sent : List Action
  sent = moment_actions (transport_view side log) (transport_view side (Reported e ∷ log)) (Reported e) (state_of side log)

  amid : Amid side taken (Reported e ∷ log) s [] f.position uncollected
  amid = event-follows side d log f.position uncollected turn f.amid opened fitting looked e r

  -- the connection stays open
  going : is_open (Reported e ∷ log) ≡ true → Follows side (moment_now taken) (log_and_flush side log (Reported e)) (newest_first sent uncollected)
  going runs = rested-moment-follows side log (Reported e) (tt, fits) refl runs (state_of side log).progress.settings (f.rests opened).finds taken f.position uncollected amid
      (λ u. (ap (λ x. x.reading) (same-unis turn (with_turn turn d)).0 ∙ ((f.rests opened).unready u).0, ap (λ x. x.reading) (same-unis turn (with_turn turn d)).1 ∙ ((f.rests opened).unready u).1))

  -- the event ends it
  module _ (ends : is_open (Reported e ∷ log) ≡ false) where
    closed : s.is_open ≡ false
    closed = amid.work.is_open_same ∙ ends

    shut : goes s ≡ true → ⊥
    shut g = true≢false (sym (first s.is_open _ g) ∙ closed)
      where
        first : (a b : Bool) → (a && b) ≡ true → a ≡ true
        first true b h = refl
        first false b h = absurd (true≢false (sym h))

    nothing-sent : sent ≡ []
    nothing-sent = ap (λ b. actions_if b (transport_view side (Reported e ∷ log)) s) closed

    emptied : Amid side (without_datagrams false taken) (Reported e ∷ log) s [] f.position uncollected
    emptied = record {
      work = amid.work;
      kinds = amid.kinds;
      few = amid.few;
      own = amid.own;
      allowed = amid.allowed;
      unis = amid.unis;
      bis = amid.bis;
      datagrams = λ g. absurd (shut g);
      response = amid.response;
    }

    moment-is : moment_now taken ≡ without_datagrams false taken
    unfolding moment_now
    moment-is = ap (λ (b : Bool). if b then work_of_moment taken else without_datagrams false taken)
        (refined_open side taken.work.transport (Reported e ∷ log) f.position uncollected amid.work.transport ∙ ends)

    alone : log_and_flush side log (Reported e) ≡ Reported e ∷ log
    alone = closed-alone side log (Reported e) (tt, fits) refl closed

    over : Follows side (moment_now taken) (log_and_flush side log (Reported e)) (newest_first sent uncollected)
    over = subst (λ (x : DriverNow). Follows side x (log_and_flush side log (Reported e)) (newest_first sent uncollected)) (sym moment-is)
        (subst₂ (λ (l : Log) (xs : List Action). Follows side (without_datagrams false taken) l (newest_first xs uncollected)) (sym alone) (sym nothing-sent) (record {
          position = f.position;
          amid = subst (λ (x : DriverState). Amid side (without_datagrams false taken) (Reported e ∷ log) x [] f.position uncollected) (sym (closed-state side log (Reported e) (tt, fits) refl closed)) emptied;
          rests = λ o. absurd (true≢false (sym o ∙ ends));
        }))

  both : Follows side (moment_now taken) (log_and_flush side log (Reported e)) (newest_first sent uncollected)
  both = by (is_open (Reported e ∷ log)) refl
    where
      by : (b : Bool) → is_open (Reported e ∷ log) ≡ b → Follows side (moment_now taken) (log_and_flush side log (Reported e)) (newest_first sent uncollected)
      by true o = going o
      by false o = over o

  turn-is : moment_now taken ≡ turn_now turn d
  unfolding turn_now
  turn-is = sym (ap (λ (b : Bool). if b then lawful_turn turn d else d) fitting
      ∙ (ap (λ (b : Bool). if b then open_turn turn d else with_turn turn d) (refined_open side d.work.transport log f.position uncollected f.amid.work.transport ∙ opened) ∙ open-turn-is turn d e r))

  -- the driver took the turn
  pub event-turn : Follows side (turn_now turn d) (log_and_flush side log (Reported e)) (newest_first sent uncollected)
  event-turn = subst (λ (x : DriverNow). Follows side x (log_and_flush side log (Reported e)) (newest_first sent uncollected)) turn-is both
