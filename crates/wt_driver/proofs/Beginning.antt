-- A client's response, and the beginning of a session, from what the parts of the driver did.
use Rattle.std.proofs.Common.{◌&&◌, ◌<◌, ◌∙◌, ◌≡◌, Bool, None, Option, Some, ap, false, if◌then◌else◌, length, refl, subst, sym, true, ℕ}
use Rattle.wt_driver_laws.specs.Answering.{result_if}
use Rattle.wt_kept.specs.Calling.{may_register, on_sessions, register_now, response_over, response_read, response_read_by, response_read_so, response_slot}
use Rattle.wt_kept.specs.Classifying.{with_sessions}
use Rattle.wt_kept.specs.Kept.{DispatchedNow, DriverNow, SessionsNow}
use Rattle.wt_kept.specs.Moment.{moment_now}
use Rattle.wt_kept.specs.Readers.{ReadOn, ResponseReading, Slot, read_on, response_rules}
use Rattle.wt_kept.specs.Windows.{establish_now}
use Rattle.wt_transport.specs.State.{TransportState}
use Rattle.wt_turn.specs.declared.driver_error.DriverError.{DriverError}
use Rattle.wt_wire.specs.declared.error.ErrorCode.{ErrorCode}
use Rattle.wt_wire.specs.declared.side.Side.{Side}
use Rattle.wt_wire.specs.declared.side.Side.TheVariants.{Client, Server}

-- ---- the response

-- a stream and how far it is read, which was read on
pub read-slot : (d : DriverNow) (x y : Slot ResponseReading) (t u : TransportState) → y.id ≡ x.id → ◌≡◌ {A = ReadOn ResponseReading} (record { reader = y.reader; transport = u }) (read_on response_rules x.id x.reader t)
    → record d { work = record d.work { transport = u }; response = Some y } ≡ response_read_so x.id (read_on response_rules x.id x.reader t) d
read-slot d x y t u same reads =
    ap (λ (k : ℕ). response_read_so k (record { reader = y.reader; transport = u }) d) same ∙ ap (λ (r : ReadOn ResponseReading). response_read_so x.id r d) reads

-- the response was read on, by a reader that was taken out for it
pub response-so : {d a : DriverNow} → d ≡ a → (now : DriverNow) (x y : Slot ResponseReading) (u : TransportState) → a ≡ record now { response = None } → x ≡ response_slot now.work.transport.side now.response
    → y.id ≡ x.id → ◌≡◌ {A = ReadOn ResponseReading} (record { reader = y.reader; transport = u }) (read_on response_rules x.id x.reader d.work.transport)
    → record d { work = record d.work { transport = u }; response = Some y } ≡ response_read now
unfolding response_read
response-so {d} at now x y u taken slot same reads =
    read-slot d x y d.work.transport u same reads
    ∙ (ap (λ (z : DriverNow). response_read_so x.id (read_on response_rules x.id x.reader z.work.transport) z) (at ∙ taken) ∙ ap (λ (z : Slot ResponseReading). response_read_by z now) slot)

-- ---- a session begins

-- the response's end keeps where everything went
pub over-keeps : (side : Side) (d : DriverNow) → (response_over side d).work.dispatched ≡ d.work.dispatched
unfolding response_read
over-keeps Client d = refl
over-keeps Server d = refl

-- so as many sessions live
pub few-living : {d a : DriverNow} → d ≡ a → (side : Side) (now : DriverNow) → a ≡ response_over side now → length now.work.dispatched.sessions.living < 4 → length d.work.dispatched.sessions.living < 4
few-living {d} at side now over few =
    subst (λ (e : DispatchedNow). length e.sessions.living < 4) (sym (ap (λ (x : DriverNow). x.work.dispatched) (at ∙ over) ∙ over-keeps side now)) few

-- a session was established behind the response, and the moment was worked
pub begun-so : {d a : DriverNow} → d ≡ a → (s : ℕ) (now : DriverNow) (e : DispatchedNow) (b : DriverNow) → a ≡ response_over now.work.transport.side now
    → e ≡ with_sessions (establish_now s d.work.dispatched.sessions) d.work.dispatched → b ≡ moment_now (record d { work = record d.work { dispatched = e } })
    → b ≡ moment_now (on_sessions (establish_now s) (response_over now.work.transport.side now))
begun-so {d} at s now e b over so works =
    works ∙ ap moment_now (ap (λ (y : DispatchedNow). record d { work = record d.work { dispatched = y } }) so ∙ ap (λ (x : DriverNow). on_sessions (establish_now s) x) (at ∙ over))

-- the same, where only what is kept of sessions is told
pub begun-in : {d a : DriverNow} → d ≡ a → (s : ℕ) (now : DriverNow) (x : SessionsNow) (b : DriverNow) → a ≡ response_over now.work.transport.side now → x ≡ establish_now s d.work.dispatched.sessions
    → b ≡ moment_now (record d { work = record d.work { dispatched = record d.work.dispatched { sessions = x } } }) → b ≡ moment_now (on_sessions (establish_now s) (response_over now.work.transport.side now))
begun-in {d} at s now x b over so works =
    begun-so at s now (with_sessions x d.work.dispatched) b over (ap (λ (y : SessionsNow). with_sessions y d.work.dispatched) so) works

-- how a registration goes, by whether the connection is open and whether the session may begin
abbrev pub begins : Bool → Bool → ℕ → DriverNow → DriverNow
begins open_ may s d = if open_ && may then moment_now (on_sessions (establish_now s) (response_over d.work.transport.side d)) else d

pub register-over : (s : ℕ) (d : DriverNow) → d.work.transport.is_open ≡ false → d ≡ register_now s d
unfolding register_now
register-over s d over = sym (ap (λ (b : Bool). begins b (may_register s d) s d) over)

pub register-not : (s : ℕ) (d : DriverNow) → d.work.transport.is_open ≡ true → may_register s d ≡ false → d ≡ register_now s d
unfolding register_now
register-not s d open_ not_ = sym (λ i. begins (open_ i) (not_ i) s d)

pub register-so : (s : ℕ) (d b : DriverNow) → d.work.transport.is_open ≡ true → may_register s d ≡ true → b ≡ moment_now (on_sessions (establish_now s) (response_over d.work.transport.side d))
    → b ≡ register_now s d
unfolding register_now
register-so s d b open_ may works = works ∙ sym (λ i. begins (open_ i) (may i) s d)

-- ---- by how the connection ended

pub ended-over : (open_ : Bool) (fault : Option ErrorCode) (e : DriverError) → Some e ≡ result_if open_ fault → open_ ≡ false
ended-over true fault e so = cc
ended-over false fault e so = refl

pub goes-open : (open_ : Bool) (fault : Option ErrorCode) → None ≡ result_if open_ fault → open_ ≡ true
goes-open true fault so = refl
goes-open false fault so = cc
