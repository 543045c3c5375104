-- A piece in a log: its bytes but the last are themselves alone, and what is kept follows; then the last one's moment is the piece's.
-- After a moment without a fault nothing is left to find, so what is left of a piece goes on in the same way.
use Rattle.std.proofs.Common.{◌∙◌, ◌≡◌, ◌++◌, ◌∷◌, Bool, List, None, [], ap, refl, subst, suc, sym, true, ℕ}
use Rattle.std.specs.Prelude.{if◌then◌else◌}
use Rattle.wt_turn.specs.Arrivals.{log_bytes}
use Rattle.wt_turn.specs.Streams.{contents}
use Rattle.wt_sessions.proofs.LogFollows.{log-follows, log-sends}
use Rattle.wt_sessions.specs.Answers.{receive}
use Rattle.wt_sessions.specs.Driver.{close_actions, log_and_flush, transport_view}
use Rattle.wt_sessions.specs.DriverState.{DriverState, state_of}
use Rattle.wt_sessions.specs.Moment.{Fits, actions_if, flush_state, moment_actions, scan_if, scans}
use Rattle.wt_sessions.specs.Step.{after_entry, scan_state, step_actions}
use Rattle.wt_sessions.specs.StreamTable.{TransportView}
use Rattle.wt_follows.proofs.AtOnce.{after_front, first-finds, later-find, noted-on, silent-moment, silent-scan}
use Rattle.wt_follows.proofs.FlushRests.{flushed, moment-rests}
use Rattle.wt_follows.specs.Pieces.{FindsNothing, SilentFront, noted}
use Rattle.wt_turn.specs.Log.{Entry, Log, Received, Sent, is_open, with_actions}
use Rattle.wt_turn.specs.declared.action.Action.{Action}
use Rattle.wt_wire.specs.declared.side.Side.{Side}

-- these bytes are themselves alone, and this is kept after them
pub record SilentRun (side : Side) (log : Log) (id : ℕ) (bytes : List ℕ) (s : DriverState) : Type 0 where
  pub alone : receive side log id bytes ≡ log_bytes log id bytes
  pub runs : is_open (log_bytes log id bytes) ≡ true
  pub fits : Fits side (log_bytes log id bytes)
  pub state : state_of side (log_bytes log id bytes) ≡ s

module _ (side : Side) where
  pub open-is : (log : Log) → (state_of side log).is_open ≡ is_open log
  unfolding state_of
  open-is log = refl

  module _ (log : Log) (id byte : ℕ) (fits : Fits side log) (runs : is_open log ≡ true) (came : Bool) (q : FindsNothing (transport_view side (Received id byte ∷ log)) (state_of side log) came) where
    silent-sends : moment_actions (transport_view side log) (transport_view side (Received id byte ∷ log)) (Received id byte) (state_of side log) ≡ []
    silent-sends =
        (λ i. actions_if ((open-is log ∙ runs) i) (transport_view side (Received id byte ∷ log)) (state_of side log))
        ∙ (ap (step_actions (transport_view side (Received id byte ∷ log))) (silent-scan (transport_view side (Received id byte ∷ log)) (state_of side log) came q)
        ∙ (λ i. q.idle i ++ [] ++ close_actions (q.going i)))

    pub byte-alone : log_and_flush side log (Received id byte) ≡ Received id byte ∷ log
    byte-alone = log-sends side log (Received id byte) (tt, fits) ∙ ap (λ (as_ : List Action). with_actions as_ (Received id byte ∷ log)) silent-sends

    pub byte-state : state_of side (Received id byte ∷ log) ≡ noted came (state_of side log)
    byte-state =
        ap (state_of side) (sym byte-alone)
        ∙ (log-follows side log (Received id byte) (tt, fits) ∙ silent-moment side log id byte (state_of side log) came (open-is log ∙ runs) q)

  pub silent-run : (id : ℕ) (front : List ℕ) (log : Log) (came : ℕ → Bool) → Fits side log → is_open log ≡ true → ((m : ℕ) → came m ≡ true → came (suc m) ≡ true)
      → SilentFront (transport_view side log) id (contents log id) front (state_of side log) came → SilentRun side log id front (after_front front came (state_of side log))
  silent-run id [] log came fits runs rises silent = record { alone = refl; runs = runs; fits = fits; state = refl }
  silent-run id (byte ∷ front) log came fits runs rises silent =
      let next : Log = Received id byte ∷ log in
      let first = first-finds side log id byte front (state_of side log) came rises silent in
      let state : state_of side next ≡ noted (came 0) (state_of side log) = byte-state log id byte fits runs (came 0) first in
      let rest = silent-run id front next (λ m. came (suc m)) (tt, fits) runs (λ m. rises (suc m))
      (subst (λ (s : DriverState). SilentFront (transport_view side next) id (contents next id) front s (λ m. came (suc m))) (sym state) (later-find side log id byte front (state_of side log) came rises silent)) in
      record {
        alone =
            ap (λ (o : Bool). receive side (if o then log_and_flush side log (Received id byte) else log) id front) runs
            ∙ (ap (λ (l : Log). receive side l id front) (byte-alone log id byte fits runs (came 0) first) ∙ rest.alone);
        runs = rest.runs;
        fits = rest.fits;
        state = rest.state ∙ noted-on front came (state_of side log) (state_of side next) state;
      }

  pub receive-append : (id : ℕ) (xs ys : List ℕ) (log : Log) → receive side log id (xs ++ ys) ≡ receive side (receive side log id xs) id ys
  receive-append id [] ys log = refl
  receive-append id (x ∷ xs) ys log = receive-append id xs ys (if is_open log then log_and_flush side log (Received id x) else log)

  -- a whole piece up to its last byte, which is worked alone
  pub piece-in-log : (id : ℕ) (front : List ℕ) (last : ℕ) (log : Log) (came : ℕ → Bool) → Fits side log → is_open log ≡ true → ((m : ℕ) → came m ≡ true → came (suc m) ≡ true)
      → SilentFront (transport_view side log) id (contents log id) front (state_of side log) came
      → receive side log id (front ++ last ∷ []) ≡ log_and_flush side (log_bytes log id front) (Received id last)
  piece-in-log id front last log came fits runs rises silent =
      let r = silent-run id front log came fits runs rises silent in
      receive-append id front (last ∷ []) log
      ∙ (ap (λ (l : Log). receive side l id (last ∷ [])) r.alone
      ∙ ap (λ (o : Bool). if o then log_and_flush side (log_bytes log id front) (Received id last) else log_bytes log id front) r.runs)

  -- after the moment of an entry that found no fault all is at rest
  pub rests-in-log : (log : Log) (e : Entry) → Fits side (e ∷ log) → scans e (after_entry (transport_view side log) e (state_of side log)) ≡ true
      → (state_of side (log_and_flush side log e)).progress.fault ≡ None
      → FindsNothing (transport_view side (e ∷ log)) (state_of side (log_and_flush side log e)) (state_of side (log_and_flush side log e)).progress.settings
  rests-in-log log e fits moment none =
      let u : TransportView = transport_view side (e ∷ log) in
      let s : DriverState = after_entry (transport_view side log) e (state_of side log) in
      let is : state_of side (log_and_flush side log e) ≡ flush_state u (scan_state u s) = log-follows side log e fits ∙ ap (λ (b : Bool). scan_if b u s) moment in
      let kept : (flush_state u (scan_state u s)).progress.fault ≡ (scan_state u s).progress.fault = ap (λ (z : DriverState). z.progress.fault) (flushed u (step_actions u (scan_state u s)) (scan_state u s)) in
      subst (λ (z : DriverState). FindsNothing u z z.progress.settings) (sym is)
      (moment-rests u s (sym kept ∙ (ap (λ (z : DriverState). z.progress.fault) (sym is) ∙ none)))

  -- what went out makes no difference to what is found
  pub finds-with-actions : (as_ : List Action) (log : Log) (s : DriverState) (came : Bool) → FindsNothing (transport_view side log) s came → FindsNothing (transport_view side (with_actions as_ log)) s came
  finds-with-actions [] log s came q = q
  finds-with-actions (a ∷ later) log s came q = finds-with-actions later (Sent a ∷ log) s came (record {
    unis = q.unis;
    bis = q.bis;
    datagrams = q.datagrams;
    sessions = q.sessions;
    unstopped = q.unstopped;
    control = q.control;
    encoder = q.encoder;
    decoder = q.decoder;
    going = q.going;
    idle = q.idle;
  })

  -- so a driver is at rest again, for the next entry
  pub rests-again : (log : Log) (e : Entry) → Fits side (e ∷ log) → scans e (after_entry (transport_view side log) e (state_of side log)) ≡ true
      → (state_of side (log_and_flush side log e)).progress.fault ≡ None
      → FindsNothing (transport_view side (log_and_flush side log e)) (state_of side (log_and_flush side log e)) (state_of side (log_and_flush side log e)).progress.settings
  rests-again log e fits moment none =
      subst (λ (l : Log). FindsNothing (transport_view side l) (state_of side (log_and_flush side log e)) (state_of side (log_and_flush side log e)).progress.settings) (sym (log-sends side log e fits))
      (finds-with-actions (moment_actions (transport_view side log) (transport_view side (e ∷ log)) e (state_of side log)) (e ∷ log) (state_of side (log_and_flush side log e)) (state_of side (log_and_flush side log e)).progress.settings
      (rests-in-log log e fits moment none))
