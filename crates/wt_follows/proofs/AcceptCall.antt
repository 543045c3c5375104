-- A call accepts a stream that waits for its session: the driver follows the log with the call, and rests.
use Rattle.std.proofs.Common.{◌≡◌, ◌∷◌, Bool, List, Some, [], false, find, refl, subst, sym, true, ℕ}
use Rattle.std.specs.Prelude.{◌==◌, if◌then◌else◌}
use Rattle.wt_follows.proofs.GivenStream.{given-amid}
use Rattle.wt_follows.proofs.RecordTold.{told-amid}
use Rattle.wt_follows.proofs.RestingCall.{resting-call-follows}
use Rattle.wt_follows.specs.Rests.{IsRead, SessionsRead}
use Rattle.wt_follows.specs.Roles.{is_living}
use Rattle.wt_follows.specs.Tie.{Follows}
use Rattle.wt_kept.specs.Calling.{on_sessions}
use Rattle.wt_kept.specs.Kept.{DriverNow, LiveNow}
use Rattle.wt_kept.specs.Windows.{changed_live, given_stream, with_live}
use Rattle.wt_turn.specs.Streams.{contents}
use Rattle.wt_turn.specs.Unread.{ReadPosition}
use Rattle.wt_sessions.specs.DriverState.{DriverState, state_of}
use Rattle.wt_sessions.specs.Effect.{log_call}
use Rattle.wt_sessions.specs.Moment.{Fits, MayRecord, is_peers}
use Rattle.wt_sessions.specs.Step.{after_call}
use Rattle.wt_sessions.specs.StreamTable.{Waiting}
use Rattle.wt_turn.specs.Log.{Log, StreamAccepted}
use Rattle.wt_turn.specs.declared.action.Action.{Action}
use Rattle.wt_wire.specs.declared.side.Side.{Side}

-- a change of a session that keeps its id leaves what was read
pub changed-read : (position : ℕ → ReadPosition) (bytes : ℕ → List ℕ) (change : LiveNow → LiveNow) → ((x : LiveNow) → (change x).id ≡ x.id) → (j : ℕ) (xs : List LiveNow) → SessionsRead position bytes xs → SessionsRead position bytes (changed_live change j xs)
changed-read position bytes change same j [] h = tt
changed-read position bytes change same j (x ∷ xs) h = by (x.id == j) (changed-read position bytes change same j xs h.1)
  where
    by : (b : Bool) → SessionsRead position bytes (changed_live change j xs) → SessionsRead position bytes (if b then change x ∷ xs else x ∷ changed_live change j xs)
    by true again = (subst (IsRead position bytes) (sym (same x)) h.0, h.1)
    by false again = (h.0, again)

module _ (side : Side) (d : DriverNow) (log : Log) (uncollected : List Action) (f : Follows side d log uncollected) (fits : Fits side log) (session : ℕ) (lives : is_living (state_of side log) session ≡ true)
    (test : Waiting → Bool) (w : Waiting) (found : find test (state_of side log).dispatched.streams ≡ Some w) (its : w.session ≡ session) (peers : is_peers side w.id ≡ true) (recorded : MayRecord side log (StreamAccepted w.id session)) where
  abbrev z : DriverState
  z = after_call (StreamAccepted w.id session) (state_of side log)

  -- the driver follows the log with the call, and rests
  pub accept-follows : Follows side (on_sessions (with_live (given_stream w.id) session) d) (log_call side log [] (StreamAccepted w.id session)) uncollected
  accept-follows =
      resting-call-follows side log (StreamAccepted w.id session) fits recorded d uncollected f (on_sessions (with_live (given_stream w.id) session) d).work refl
      (changed-read f.position (contents log) (given_stream w.id) (λ x. refl) session d.work.dispatched.sessions.living) z refl
      (record { unis = refl; bis = refl; sessions = refl; control = refl; encoder = refl; decoder = refl; progress = refl; sent = refl; is_open = refl })
      (told-amid side log (StreamAccepted w.id session) (record { gives = λ k. refl; reads = λ k. refl; resets = λ k. refl; priorities = λ k. refl }) (on_sessions (with_live (given_stream w.id) session) d) z f.position uncollected
      (given-amid side d log (state_of side log) f.position uncollected f.amid session lives test w found its peers))
