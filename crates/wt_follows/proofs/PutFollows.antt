-- What follows once a piece was put before a reader: where it goes on, the piece is through and the driver rests; where what it says is
-- final, that byte's moment is worked.
use Rattle.std.proofs.Common.{◌∙◌, ◌≡◌, ◌<◌, ◌++◌, ◌∷◌, Bool, List, [], ap, arith, false, length, refl, subst, suc, sym, take, true, zero, ℕ}
use Rattle.std.specs.Prelude.{◌&&◌, nat_lt, not}
use Rattle.wt_follows.proofs.AtOnce.{after_front, came-up, first-finds, later-find, noted-finds, open-moment}
use Rattle.wt_follows.proofs.BytesCome.{only-bytes}
use Rattle.wt_follows.proofs.PieceLog.{SilentRun, byte-state, open-is, piece-in-log, silent-run}
use Rattle.wt_follows.proofs.Puts.{Put, front-progress}
use Rattle.wt_follows.proofs.ReaderLaws.{take-whole}
use Rattle.wt_follows.specs.Pieces.{FindsNothing, SilentFront, noted}
use Rattle.wt_follows.specs.Rests.{Resting}
use Rattle.wt_follows.specs.Tie.{Amid, Follows}
use Rattle.wt_kept.specs.Kept.{DriverNow}
use Rattle.wt_kept.specs.Moment.{moment_now}
use Rattle.wt_kept.specs.Pieces.{FedNow, moment_if}
use Rattle.wt_message.specs.FixedBytes.{local_control_bytes}
use Rattle.wt_turn.specs.Arrivals.{log_bytes}
use Rattle.wt_turn.specs.Joined.{newest_first}
use Rattle.wt_turn.specs.Reports.{credit, is_connected, unis_allowed}
use Rattle.wt_turn.specs.Streams.{contents, local_uni}
use Rattle.wt_turn.specs.Unread.{ReadPosition, position_after}
use Rattle.wt_sessions.proofs.LogFollows.{log-follows, log-sends}
use Rattle.wt_sessions.specs.Answers.{receive}
use Rattle.wt_sessions.specs.Driver.{is_moment, log_and_flush, transport_view}
use Rattle.wt_sessions.specs.DriverState.{DriverState, state_of}
use Rattle.wt_sessions.specs.Moment.{Fits, flush_state, moment_actions}
use Rattle.wt_sessions.specs.Step.{after_entry, scan_state}
use Rattle.wt_turn.specs.Log.{Entry, Log, Received, Sent, actions_of, is_open, with_actions}
use Rattle.wt_turn.specs.declared.action.Action.{Action}
use Rattle.wt_wire.specs.declared.side.Side.{Side}

-- The moment of an entry on an open connection: a driver that was at rest before, and that follows the log with the entry, follows it with
-- all that goes out once the moment is worked, and rests.
abbrev pub Moment : Side → Type 0
Moment side = (log : Log) (e : Entry) (d : DriverNow) (position : ℕ → ReadPosition) (uncollected : List Action)
    → Fits side (e ∷ log) → is_moment e ≡ true → is_open (e ∷ log) ≡ true → FindsNothing (transport_view side log) (state_of side log) (state_of side log).progress.settings
    → Amid side d (e ∷ log) (after_entry (transport_view side log) e (state_of side log)) [] position uncollected
    → ((transport_view side (e ∷ log)).ready ≡ false → (d.unis.reading ≡ []) × (d.bis.reading ≡ []))
    → Follows side (moment_now d) (log_and_flush side log e) (newest_first (moment_actions (transport_view side log) (transport_view side (e ∷ log)) e (state_of side log)) uncollected)

-- The driver follows the log. These of its actions were collected before; the others aren't yet.
pub record Came (side : Side) (old : List Action) (d : DriverNow) (log : Log) : Type 0 where
  pub uncollected : List Action
  pub follows : Follows side d log uncollected
  pub all : actions_of log ≡ uncollected ++ old
  pub fits : Fits side log

-- ---- at rest after bytes that are found by no moment

module _ (side : Side) (id : ℕ) where
  pub rests-run : (front : List ℕ) (log : Log) (came : ℕ → Bool) → Fits side log → is_open log ≡ true → ((m : ℕ) → came m ≡ true → came (suc m) ≡ true)
      → FindsNothing (transport_view side log) (state_of side log) (state_of side log).progress.settings
      → SilentFront (transport_view side log) id (contents log id) front (state_of side log) came
      → FindsNothing (transport_view side (log_bytes log id front)) (state_of side (log_bytes log id front)) (state_of side (log_bytes log id front)).progress.settings
  rests-run [] log came fits runs rises rests silent = rests
  rests-run (byte ∷ front) log came fits runs rises rests silent =
      let next : Log = Received id byte ∷ log in
      let first = first-finds side log id byte front (state_of side log) came rises silent in
      let state : state_of side next ≡ noted (came 0) (state_of side log) = byte-state side log id byte fits runs (came 0) first in
      let here : FindsNothing (transport_view side next) (noted (came 0) (state_of side log)) (came 0) =
      noted-finds (transport_view side next) (state_of side log) (came 0) (came 0) first (came-up (transport_view side next) (state_of side log).dispatched.control (state_of side log).progress.settings (came 0) first.control) (λ e. e) in
      rests-run front next (λ m. came (suc m)) (tt, fits) runs (λ m. rises (suc m))
      (subst (λ (z : DriverState). FindsNothing (transport_view side next) z z.progress.settings) (sym state) here)
      (subst (λ (s : DriverState). SilentFront (transport_view side next) id (contents next id) front s (λ m. came (suc m))) (sym state) (later-find side log id byte front (state_of side log) came rises silent))

-- ---- one byte more

abbrev take-last : (m : ℕ) (xs : List ℕ) → m < length xs → (last : ℕ) × (take (suc m) xs ≡ take m xs ++ last ∷ [])
take-last m [] lt = absurd (omega (arith, lt))
take-last zero (x ∷ xs) lt = (x, refl)
take-last (suc m) (x ∷ xs) lt = let later = take-last m xs (omega (arith, lt)) in (later.0, ap (λ ys. x ∷ ys) later.1)

bytes-append : (log : Log) (id : ℕ) (xs ys : List ℕ) → log_bytes log id (xs ++ ys) ≡ log_bytes (log_bytes log id xs) id ys
bytes-append log id [] ys = refl
bytes-append log id (x ∷ xs) ys = bytes-append (Received id x ∷ log) id xs ys

pub newest-behind : (xs ys old : List Action) → newest_first xs (ys ++ old) ≡ newest_first xs ys ++ old
newest-behind [] ys old = refl
newest-behind (x ∷ xs) ys old = newest-behind xs (x ∷ ys) old

pub actions-with : (xs : List Action) (log : Log) → actions_of (with_actions xs log) ≡ newest_first xs (actions_of log)
actions-with [] log = refl
actions-with (x ∷ xs) log = actions-with xs (Sent x ∷ log)

-- actions may always follow
pub fits-actions : (side : Side) (xs : List Action) (log : Log) → Fits side log → Fits side (with_actions xs log)
fits-actions side [] log f = f
fits-actions side (x ∷ xs) log f = fits-actions side xs (Sent x ∷ log) (tt, f)

-- ---- what is put

module _ (side : Side) (moment : Moment side) (old : List Action) (d : DriverNow) (log : Log) (id : ℕ) (whole : List ℕ) (c : Came side old d log) (opened : is_open log ≡ true) (feed : FedNow) (e : DriverNow)
    (put : Put side log c.follows.position c.uncollected id whole feed e) where
  abbrev s : DriverState
  s = state_of side log

  resting : Resting side d log c.follows.position
  resting = c.follows.rests opened

  ready-same : (piece : List ℕ) → (transport_view side (log_bytes log id piece)).ready ≡ (transport_view side log).ready
  ready-same piece = ap (λ es. is_connected es && nat_lt 0 (unis_allowed es) && not (nat_lt (credit es (local_uni side)) (length local_control_bytes))) (only-bytes log id piece).events

  -- the reader goes on: the piece is through
  pub goes-on : feed.is_final ≡ false → Came side old e (receive side log id whole)
  goes-on f = subst (Came side old e) (sym run.alone) (record {
    uncollected = c.uncollected;
    follows = record {
      position = position_after c.follows.position id (length whole);
      amid = subst (λ z. Amid side e (log_bytes log id whole) z [] (position_after c.follows.position id (length whole)) c.uncollected) (sym run.state) (put.open_amid f);
      rests = λ x. record {
        finds = rests-run side id whole log put.came c.fits opened put.rises resting.finds (put.all f).1;
        unis = (put.reads f).0;
        bis = (put.reads f).1;
        control = (put.reads_body f).0;
        sessions = (put.reads_body f).1;
        unready = λ y. put.unready (sym (ready-same whole) ∙ y);
        first_unis = λ y. ap (λ (z : DriverState). take 4 z.unis) same ∙ put.first_unis (sym (ready-same whole) ∙ y);
        first_bis = λ y. ap (λ (z : DriverState). take 4 z.bis) same ∙ put.first_bis (sym (ready-same whole) ∙ y);
      };
    };
    all = (only-bytes log id whole).actions ∙ c.all;
    fits = run.fits;
  })
    where
      run : SilentRun side log id whole (after_front whole put.came s)
      run = silent-run side id whole log put.came c.fits opened put.rises (put.all f).1

      same : state_of side (log_bytes log id whole) ≡ record s { progress = (after_front whole put.came s).progress }
      same = run.state ∙ front-progress whole put.came s

  -- what it says is final with the last byte that it took: that one's moment is worked
  module _ (m : ℕ) (count : suc m ≡ feed.taken) (final : feed.is_final ≡ true) where
    abbrev front : List ℕ
    front = take m whole

    abbrev before : Log
    before = log_bytes log id front

    enough : m < length whole
    enough = let le = put.within in omega (arith, le, count)

    abbrev last : ℕ
    last = (take-last m whole enough).0

    parts : take (suc m) whole ≡ front ++ last ∷ []
    parts = (take-last m whole enough).1

    silent : SilentFront (transport_view side log) id (contents log id) front s put.came
    silent = put.front m (omega (arith, count))

    run : SilentRun side log id front (after_front front put.came s)
    run = silent-run side id front log put.came c.fits opened put.rises silent

    whole-log : log_bytes log id (take (suc m) whole) ≡ Received id last ∷ before
    whole-log = ap (log_bytes log id) parts ∙ bytes-append log id front (last ∷ [])

    abbrev acts : List Action
    acts = moment_actions (transport_view side before) (transport_view side (Received id last ∷ before)) (Received id last) (state_of side before)

    abbrev position_then : ℕ → ReadPosition
    position_then = position_after c.follows.position id (length (take (suc m) whole))

    amid-then : Amid side e (Received id last ∷ before) (after_entry (transport_view side before) (Received id last) (state_of side before)) [] position_then c.uncollected
    amid-then =
        subst (λ z. Amid side e (Received id last ∷ before) z [] position_then c.uncollected) (sym run.state)
        (subst (λ g. Amid side e g (after_front front put.came s) [] position_then c.uncollected) whole-log (put.final_amid m count final))

    followed : Follows side (moment_now e) (log_and_flush side before (Received id last)) (newest_first acts c.uncollected)
    followed =
        moment before (Received id last) e position_then c.uncollected (tt, run.fits) refl run.runs
        (rests-run side id front log put.came c.fits opened put.rises resting.finds silent) amid-then (λ y. put.unready (sym (ready-same front) ∙ y))

    sends : log_and_flush side before (Received id last) ≡ with_actions acts (Received id last ∷ before)
    sends = log-sends side before (Received id last) (tt, run.fits)

    pub stops-by : Came side old (moment_now e) (receive side log id (take (suc m) whole))
    stops-by =
        subst (Came side old (moment_now e)) (sym (ap (receive side log id) parts ∙ piece-in-log side id front last log put.came c.fits opened put.rises silent)) (record {
          uncollected = newest_first acts c.uncollected;
          follows = followed;
          all = ap actions_of sends ∙ (actions-with acts (Received id last ∷ before) ∙ (ap (newest_first acts) ((only-bytes log id front).actions ∙ c.all) ∙ newest-behind acts c.uncollected old));
          fits = subst (Fits side) (sym sends) (fits-actions side acts (Received id last ∷ before) (tt, run.fits));
        })

    -- the log then, and what is kept of it
    in-log : receive side log id (take (suc m) whole) ≡ log_and_flush side before (Received id last)
    in-log = ap (receive side log id) parts ∙ piece-in-log side id front last log put.came c.fits opened put.rises silent

    pub final-log : (xs : List Action) × (receive side log id (take (suc m) whole) ≡ with_actions xs (log_bytes log id (take (suc m) whole)))
    final-log = (acts, in-log ∙ (sends ∙ ap (with_actions acts) (sym whole-log)))

    pub final-state : state_of side (receive side log id (take (suc m) whole))
        ≡ flush_state (transport_view side (log_bytes log id (take (suc m) whole))) (scan_state (transport_view side (log_bytes log id (take (suc m) whole))) (after_front front put.came s))
    final-state =
        ap (state_of side) in-log
        ∙ (log-follows side before (Received id last) (tt, run.fits)
        ∙ (open-moment side before id last (state_of side before) (open-is side before ∙ run.runs)
        ∙ (λ i. flush_state (transport_view side (sym whole-log i)) (scan_state (transport_view side (sym whole-log i)) (run.state i)))))

  pub stops : feed.is_final ≡ true → Came side old (moment_now e) (receive side log id (take feed.taken whole))
  stops f = by feed.taken refl
    where
      by : (n : ℕ) → feed.taken ≡ n → Came side old (moment_now e) (receive side log id (take n whole))
      by zero g = absurd (let lt = put.some in omega (arith, lt, g))
      by (suc m) g = stops-by m (sym g) f

  -- either way: the driver follows the log with what the reader took
  pub put-follows : Came side old (moment_if feed.is_final e) (receive side log id (take feed.taken whole))
  put-follows = by feed.is_final refl
    where
      by : (b : Bool) → feed.is_final ≡ b → Came side old (moment_if b e) (receive side log id (take feed.taken whole))
      by true f = stops f
      by false f = subst (λ xs. Came side old e (receive side log id xs)) (sym (take-whole feed.taken whole (let all = (put.all f).0 in omega (arith, all)))) (goes-on f)
