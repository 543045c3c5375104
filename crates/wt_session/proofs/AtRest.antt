-- A record that no moment notices is the only entry that its call leaves.
use Rattle.std.proofs.Common.{refl}
use Rattle.std.specs.Prelude.{[], ◌∷◌, ◌≡◌, true, ℕ}
use Rattle.wt_driver_laws.proofs.Reach.{within_fits}
use Rattle.wt_driver_laws.specs.Calling.{log_record}
use Rattle.wt_driver_laws.specs.Driving.{Follows, IsWithin, uncollected_since}
use Rattle.wt_driver_laws.specs.Records.{is_unnoticed}
use Rattle.wt_follows.proofs.RestingCall.{SameSources, record-alone}
use Rattle.wt_kept.specs.Kept.{DriverNow}
use Rattle.wt_sessions.specs.Driver.{transport_view}
use Rattle.wt_sessions.specs.DriverState.{DriverState, state_of}
use Rattle.wt_sessions.specs.Moment.{Fits}
use Rattle.wt_sessions.specs.Step.{after_entry}
use Rattle.wt_turn.specs.Log.{AcceptanceFailed, CallRecord, Called, ConnectStarted, HandshakeOver, Log, OpeningFailed, Polled, ResponseStarted}
use Rattle.wt_wire.specs.declared.side.Side.{Side}

module _ (side : Side) (log : Log) where
  alike : (r : CallRecord) → is_unnoticed r ≡ true → (s : DriverState) → SameSources s (after_entry (transport_view side log) (Called r) s)
  alike Polled u s = record { unis = refl; bis = refl; sessions = refl; control = refl; encoder = refl; decoder = refl; progress = refl; sent = refl; is_open = refl }
  alike (ConnectStarted reserved head) u s = record { unis = refl; bis = refl; sessions = refl; control = refl; encoder = refl; decoder = refl; progress = refl; sent = refl; is_open = refl }
  alike (ResponseStarted accepts head) u s = record { unis = refl; bis = refl; sessions = refl; control = refl; encoder = refl; decoder = refl; progress = refl; sent = refl; is_open = refl }
  alike AcceptanceFailed u s = record { unis = refl; bis = refl; sessions = refl; control = refl; encoder = refl; decoder = refl; progress = refl; sent = refl; is_open = refl }
  alike HandshakeOver u s = record { unis = refl; bis = refl; sessions = refl; control = refl; encoder = refl; decoder = refl; progress = refl; sent = refl; is_open = refl }
  alike (OpeningFailed id) u s = record { unis = refl; bis = refl; sessions = refl; control = refl; encoder = refl; decoder = refl; progress = refl; sent = refl; is_open = refl }
  alike _ u s = absurd cc

  fits : (r : CallRecord) → is_unnoticed r ≡ true → Fits side log → Fits side (Called r ∷ log)
  fits Polled u f = (tt, f)
  fits (ConnectStarted reserved head) u f = (tt, f)
  fits (ResponseStarted accepts head) u f = (tt, f)
  fits AcceptanceFailed u f = (tt, f)
  fits HandshakeOver u f = (tt, f)
  fits (OpeningFailed id) u f = (tt, f)
  fits _ u f = absurd cc

  pub at-rest : (collected : ℕ) (d : DriverNow) (r : CallRecord) → is_unnoticed r ≡ true → Follows side d log collected → IsWithin side log → log_record side log [] r ≡ Called r ∷ log
  at-rest collected d r u f w = record-alone side log r d (uncollected_since collected log) f.kept (fits r u (within_fits side log w)) (alike r u (state_of side log))
