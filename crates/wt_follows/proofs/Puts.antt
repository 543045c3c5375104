-- What a piece of a stream, put before a reader of a driver at rest, leads to.
use Rattle.std.proofs.Common.{◌≡◌, ◌≤◌, ◌<◌, ◌∷◌, Bool, List, [], false, length, map, refl, suc, take, true, ℕ}
use Rattle.wt_follows.proofs.AtOnce.{after_front}
use Rattle.wt_follows.specs.Pieces.{SilentFront}
use Rattle.wt_follows.specs.Rests.{ControlRead, SessionsRead, SlotsRead}
use Rattle.wt_follows.specs.Tie.{Amid}
use Rattle.wt_kept.specs.Kept.{DriverNow}
use Rattle.wt_kept.specs.Pieces.{FedNow}
use Rattle.wt_kept.specs.Readers.{BiReading, Slot, UniReading}
use Rattle.wt_turn.specs.Arrivals.{log_bytes}
use Rattle.wt_turn.specs.Streams.{contents}
use Rattle.wt_turn.specs.Unread.{ReadPosition, position_after}
use Rattle.wt_sessions.specs.Driver.{transport_view}
use Rattle.wt_sessions.specs.DriverState.{DriverState, state_of}
use Rattle.wt_turn.specs.Log.{Log}
use Rattle.wt_turn.specs.declared.action.Action.{Action}
use Rattle.wt_wire.specs.declared.side.Side.{Side}

-- What a piece that is put before a reader of a driver at rest leads to. All but the last byte that the reader takes is found by no
-- moment. Where what the reader says is final, the moment of the last one is to be worked; else the piece is through, and the driver rests.
pub record Put (side : Side) (log : Log) (position : ℕ → ReadPosition) (uncollected : List Action) (id : ℕ) (whole : List ℕ) (feed : FedNow) (e : DriverNow) : Type 0 where
  pub some : 0 < feed.taken
  pub within : feed.taken ≤ length whole
  pub came : ℕ → Bool
  pub rises : (m : ℕ) → came m ≡ true → came (suc m) ≡ true
  pub front : (m : ℕ) → m < feed.taken → SilentFront (transport_view side log) id (contents log id) (take m whole) (state_of side log) came
  pub final_amid : (m : ℕ) → suc m ≡ feed.taken → feed.is_final ≡ true
      → Amid side e (log_bytes log id (take (suc m) whole)) (after_front (take m whole) came (state_of side log)) [] (position_after position id (length (take (suc m) whole))) uncollected
  pub all : feed.is_final ≡ false → (feed.taken ≡ length whole) × SilentFront (transport_view side log) id (contents log id) whole (state_of side log) came
  pub open_amid : feed.is_final ≡ false → Amid side e (log_bytes log id whole) (after_front whole came (state_of side log)) [] (position_after position id (length whole)) uncollected
  pub reads : feed.is_final ≡ false → (SlotsRead (position_after position id (length whole)) (contents (log_bytes log id whole)) e.unis.reading) × (SlotsRead (position_after position id (length whole)) (contents (log_bytes log id whole)) e.bis.reading)
  pub reads_body : feed.is_final ≡ false
      → ControlRead (position_after position id (length whole)) (contents (log_bytes log id whole)) e.work.dispatched.critical.control × SessionsRead (position_after position id (length whole)) (contents (log_bytes log id whole)) e.work.dispatched.sessions.living
  pub unready : (transport_view side log).ready ≡ false → (e.unis.reading ≡ []) × (e.bis.reading ≡ [])
  pub first_unis : (transport_view side log).ready ≡ true → take 4 (state_of side log).unis ≡ map (λ (x : Slot UniReading). x.id) e.unis.reading
  pub first_bis : (transport_view side log).ready ≡ true → take 4 (state_of side log).bis ≡ map (λ (x : Slot BiReading). x.id) e.bis.reading

-- of what is kept the progress alone changes, and of that what is noted
pub front-progress : (front : List ℕ) (came : ℕ → Bool) (s : DriverState) → after_front front came s ≡ record s { progress = (after_front front came s).progress }
front-progress [] came s = refl
front-progress (b ∷ front) came s = refl

pub front-fault : (front : List ℕ) (came : ℕ → Bool) (s : DriverState) → (after_front front came s).progress.fault ≡ s.progress.fault
front-fault [] came s = refl
front-fault (b ∷ front) came s = refl

pub front-datagrams : (front : List ℕ) (came : ℕ → Bool) (s : DriverState) → (after_front front came s).progress.datagrams ≡ s.progress.datagrams
front-datagrams [] came s = refl
front-datagrams (b ∷ front) came s = refl

pub front-settings : (front : List ℕ) (s : DriverState) → (after_front front (λ m. s.progress.settings) s).progress.settings ≡ s.progress.settings
front-settings [] s = refl
front-settings (b ∷ front) s = refl
