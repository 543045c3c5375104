-- What is asked of a driver, by the log that it follows.
use Rattle.std.proofs.Common.{◌∙◌, ◌≡◌, ◌∷◌, Bool, List, None, Option, Some, [], ap, cond, false, filter, length, map, refl, sym, true, ℕ}
use Rattle.std.proofs.Math.Dec.{eqb-suc-zero}
use Rattle.std.proofs.lemmas.List.{length-map}
use Rattle.std.specs.List.{list_any}
use Rattle.std.specs.Prelude.{◌==◌, ◌||◌, if◌then◌else◌, is_some, not}
use Rattle.wt_driver_laws.specs.Answering.{is_ended_now}
use Rattle.wt_driver_laws.specs.Driving.{Follows, uncollected_since}
use Rattle.wt_driver_laws.specs.Having.{HasSession}
use Rattle.wt_follows.specs.Tie.{Amid, have_settings_come}
use Rattle.wt_kept.specs.Kept.{DriverNow, LiveNow}
use Rattle.wt_kept.specs.Readers.{ControlReading, Slot}
use Rattle.wt_transport.proofs.Asking.{open_connected}
use Rattle.wt_transport.proofs.Refining.{refined_datagram_fact, refined_fits, refined_loss, refined_open}
use Rattle.wt_transport.specs.Step.{fits_now}
use Rattle.wt_peer_streams.specs.Critical.{control_settings}
use Rattle.wt_turn.specs.Arrivals.{fits}
use Rattle.wt_turn.specs.Reports.{datagram_fact, is_connected, loss_of}
use Rattle.wt_sessions.specs.Driver.{call_view, has_no_session, is_session_gone, settings_came, stream_table}
use Rattle.wt_sessions.specs.DriverState.{state_of}
use Rattle.wt_sessions.specs.StreamTable.{Session, was_established}
use Rattle.wt_turn.specs.Log.{Log, events_of, is_open}
use Rattle.wt_turn.specs.declared.datagram_fact.DatagramFact.{DatagramFact}
use Rattle.wt_turn.specs.declared.loss.LossReason.{LossReason}
use Rattle.wt_turn.specs.declared.turn.Turn.{Turn}
use Rattle.wt_wire.specs.declared.error.ErrorCode.{ErrorCode}
use Rattle.wt_wire.specs.declared.side.Side.{Side}

-- ---- what is kept of a log

fault-of : (side : Side) (log : Log) → (state_of side log).progress.fault ≡ (stream_table side log).progress.fault
unfolding state_of
fault-of side log = refl

settings-of : (side : Side) (log : Log) → (state_of side log).progress.settings ≡ settings_came side log
unfolding state_of
settings-of side log = refl

gone-of : (side : Side) (log : Log) (s : ℕ) → (state_of side log).dispatched.is_gone s ≡ is_session_gone side log s
unfolding state_of
gone-of side log s = refl

established-of : (side : Side) (log : Log) (s : ℕ) → (state_of side log).dispatched.is_established s ≡ was_established (call_view log) s
unfolding state_of
established-of side log s = refl

sessions-of : (side : Side) (log : Log) → (state_of side log).sessions ≡ filter (λ (s : Session). not (is_session_gone side log s.id)) (call_view log).sessions
unfolding state_of
sessions-of side log = refl

-- ---- small laws

settings-same : (c : Option (Slot ControlReading)) → is_some (control_settings c) ≡ have_settings_come c
settings-same None = refl
settings-same (Some x) = refl

lengths-same : {X Y : Type 0} (f : X → ℕ) (g : Y → ℕ) (xs : List X) (ys : List Y) → map f xs ≡ map g ys → length xs ≡ length ys
lengths-same f g xs ys e = sym (length-map xs f) ∙ (ap length e ∙ length-map ys g)

-- none is left of those that pass where none passes
none-left : {X : Type 0} (p : X → Bool) (xs : List X) → (length (filter p xs) == 0) ≡ not (list_any p xs)
none-left p [] = refl
none-left {X} p (x ∷ xs) = by (p x) (none-left p xs)
  where
    by : (b : Bool) → (length (filter p xs) == 0) ≡ not (list_any p xs) → (length (cond b (x ∷ filter p xs) (filter p xs)) == 0) ≡ not (b || list_any p xs)
    by true again = eqb-suc-zero (length (filter p xs))
    by false again = again

named-established : (b : Bool) (s : ℕ) → (if b then Some s else None) ≡ Some s → b ≡ true
named-established true s e = refl
named-established false s e = absurd cc

-- ---- of each log that the driver follows

abbrev amid_of : (d : DriverNow) (side : Side) (log : Log) (collected : ℕ) (f : Follows side d log collected) → Amid side d log (state_of side log) [] f.kept.position (uncollected_since collected log)
amid_of d side log collected f = f.kept.amid

-- a turn is lawful as the log says
pub fits_law : (turn : Turn) (a : Bool) (d : DriverNow) → a ≡ fits_now d.work.transport turn → (side : Side) (log : Log) (collected : ℕ) → Follows side d log collected → a ≡ fits side log turn
fits_law turn a d e side log collected f = e ∙ refined_fits side d.work.transport log f.kept.position (uncollected_since collected log) (amid_of d side log collected f).work.transport turn

-- the connection is open as the log says
pub is_open_law : (a : Bool) (d : DriverNow) → a ≡ d.work.transport.is_open → (side : Side) (log : Log) (collected : ℕ) → Follows side d log collected → a ≡ is_open log
is_open_law a d e side log collected f = e ∙ refined_open side d.work.transport log f.kept.position (uncollected_since collected log) (amid_of d side log collected f).work.transport

-- while it is open it was established as the log says
pub is_connected_law : (a : Bool) (d : DriverNow) → a ≡ d.work.transport.is_connected → (side : Side) (log : Log) (collected : ℕ) → Follows side d log collected → is_open log ≡ true → a ≡ is_connected (events_of log)
is_connected_law a d e side log collected f o = e ∙ open_connected side d.work.transport log f.kept.position (uncollected_since collected log) (amid_of d side log collected f).work.transport o

-- what was reported of datagrams
pub datagram_fact_law : (a : Option DatagramFact) (d : DriverNow) → a ≡ d.work.transport.datagram_fact → (side : Side) (log : Log) (collected : ℕ) → Follows side d log collected → a ≡ datagram_fact (events_of log)
datagram_fact_law a d e side log collected f = e ∙ refined_datagram_fact side d.work.transport log f.kept.position (uncollected_since collected log) (amid_of d side log collected f).work.transport

-- the loss
pub loss_law : (a : Option LossReason) (d : DriverNow) → a ≡ d.work.transport.loss → (side : Side) (log : Log) (collected : ℕ) → Follows side d log collected → a ≡ loss_of (events_of log)
loss_law a d e side log collected f = e ∙ refined_loss side d.work.transport log f.kept.position (uncollected_since collected log) (amid_of d side log collected f).work.transport

-- the fault
pub fault_law : (a : Option ErrorCode) (d : DriverNow) → a ≡ d.work.dispatched.fault → (side : Side) (log : Log) (collected : ℕ) → Follows side d log collected → a ≡ (stream_table side log).progress.fault
fault_law a d e side log collected f = e ∙ ((amid_of d side log collected f).work.keeps.fault ∙ fault-of side log)

-- the peer's SETTINGS came as the log says
pub settings_came_law : (a : Bool) (d : DriverNow) → a ≡ is_some (control_settings d.work.dispatched.critical.control) → (side : Side) (log : Log) (collected : ℕ) → Follows side d log collected → a ≡ settings_came side log
settings_came_law a d e side log collected f = e ∙ (settings-same d.work.dispatched.critical.control ∙ ((amid_of d side log collected f).work.keeps.settings ∙ settings-of side log))

-- no session lives as the log says
pub living_law : (a : ℕ) (d : DriverNow) → a ≡ length d.work.dispatched.sessions.living → (side : Side) (log : Log) (collected : ℕ) → Follows side d log collected → (a == 0) ≡ has_no_session side log
living_law a d e side log collected f =
    ap (λ (n : ℕ). n == 0) (e
    ∙ (lengths-same (λ (x : LiveNow). x.id) (λ (x : Session). x.id) d.work.dispatched.sessions.living (state_of side log).sessions (amid_of d side log collected f).work.keeps.living ∙ ap length (sessions-of side log)))
    ∙ none-left (λ (s : Session). not (is_session_gone side log s.id)) (call_view log).sessions

-- a session that was registered is gone as the log says
pub is_gone_law : (s : ℕ) (a : Bool) (d : DriverNow) → a ≡ is_ended_now s d → (side : Side) (log : Log) (collected : ℕ) → Follows side d log collected → HasSession s side log → a ≡ is_session_gone side log s
is_gone_law s a d e side log collected f has = let keeps = (amid_of d side log collected f).work.keeps in
    e ∙ sym (sym (gone-of side log s) ∙ keeps.gone s (keeps.named s (established-of side log s ∙ named-established (was_established (call_view log) s) s has)))
