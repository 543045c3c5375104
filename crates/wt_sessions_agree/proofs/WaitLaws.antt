-- What waits: the same streams and the same datagrams, in the same order; the same sessions live, and end alike.
use Rattle.std.specs.Prelude.{[], ◌%◌, ◌&&◌, ◌==◌, ◌∷◌, ◌≡◌, Bool, List, None, Option, Some, cond, drop, false, filter, filter_map, find, if◌then◌else◌, map, not, suc, true, zero, ℕ}
use Rattle.std.specs.Option.{option_or}
use Rattle.std.proofs.Common.{◌∙◌, ap, refl, sym}
use Rattle.std.proofs.lemmas.Bool.{eqb-true}
use Rattle.wt_meaning.specs.Calls.{closed_by, first_datagram, first_waiting, is_living, session_error, session_error_with}
use Rattle.wt_meaning.specs.Findings.{DatagramRead, Dequeued, Faulted, Finding, SessionClosed, SettingsRead, fault_of, first_of}
use Rattle.wt_meaning.specs.Findings as finds
use Rattle.wt_meaning.specs.Handshakes.{driver_error, fault_error, transport_error}
use Rattle.wt_meaning.specs.History.{History, is_handed_out}
use Rattle.wt_meaning.specs.Moments.{findings}
use Rattle.wt_meaning.specs.Windows.{admitted_stream, is_gone, received_count, waiting_datagrams, waiting_streams}
use Rattle.wt_sessions.specs.Connection.{next_datagram, next_stream, waits_for}
use Rattle.wt_sessions.specs.Driver.{call_view, dispatched, is_session_gone, stream_table}
use Rattle.wt_sessions.specs.Driver as drivers
use Rattle.wt_sessions.specs.Effect as effects
use Rattle.wt_sessions.specs.StreamTable.{Admitted, CallView, Classified, Closed, StreamTable, Waiting, is_closed, waits_in}
use Rattle.wt_sessions.specs.StreamTable as tables
use Rattle.wt_sessions_agree.proofs.DatagramLaws.{admitted-pairs, filter-pairs, pair-of}
use Rattle.wt_sessions_agree.proofs.WindowLaws.{gone-agrees}
use Rattle.wt_sessions_agree.specs.Agrees.{IsTable, admitted_in, classified_in, closed_in}
use Rattle.wt_sessions_agree.specs.Orderly.{is_left, is_of}
use Rattle.wt_sessions_agree.specs.Records.{left_datagrams, next_index}
use Rattle.wt_sessions_agree.specs.Stands.{CallsAgree, Stands}
use Rattle.wt_turn.specs.Log.{Log}
use Rattle.wt_turn.specs.declared.connection_error.ConnectionError.{ConnectionError}
use Rattle.wt_wire.specs.declared.error.ErrorCode.{ErrorCode}
use Rattle.wt_wire.specs.declared.side.Side.{Side}
use Rattle.wt_proto.specs.declared.verdict.Verdict.TheVariants as verdicts
use Rattle.wt_turn.specs.declared.connection_error.ConnectionError.TheVariants as errors

-- ---- streams

-- a waiting stream as the history has it
abbrev stream-pair : Waiting → ℕ × ℕ
stream-pair w = (w.id, w.session)

module _ (calls : CallView) (a g g2 : ℕ → Bool) (acc : (k : ℕ) → calls.accepted k ≡ a k) (gone : (s : ℕ) → g2 s ≡ g s) where
  abbrev Waits : List Finding → Type 0
  Waits found = map stream-pair (filter (λ (w : Waiting). not (g2 w.session)) (filter_map (waits_in calls) (filter_map classified_in found)))
      ≡ filter (λ (w : ℕ × ℕ). not (a w.0) && not (g w.1)) (filter_map admitted_stream found)

  waits-found : (found : List Finding) → Waits found
  waits-found [] = refl
  waits-found (finds.Classified id (verdicts.WebTransport s o) true ∷ found) = by (a id) (g s) refl refl (waits-found found)
    where
      by : (x y : Bool) → a id ≡ x → g s ≡ y → Waits found → Waits (finds.Classified id (verdicts.WebTransport s o) true ∷ found)
      by true y e f again = rw (acc id, e) again
      by false true e f again = rw (acc id, e, gone s, f) again
      by false false e f again = rw (acc id, e, gone s, f) (ap (λ (l : List (ℕ × ℕ)). (id, s) ∷ l) again)
  waits-found (_ ∷ found) = waits-found found

waiting-agree : (h : History) (calls : CallView) (found : List Finding) (table : StreamTable) → CallsAgree h calls → IsTable found table
    → map stream-pair (tables.waiting_streams calls table) ≡ waiting_streams h found
waiting-agree h calls found table c t =
    ap (λ (cs : List Classified). map stream-pair (filter (λ (w : Waiting). not (tables.is_gone calls table w.session)) (filter_map (waits_in calls) cs))) (sym t.classified)
    ∙ waits-found calls (is_handed_out h) (is_gone h found) (tables.is_gone calls table) c.accepted (λ s. gone-agrees h calls found table s c t) found

-- the id of a stream that is there
abbrev id-of : Option Waiting → Option ℕ
id-of None = None
id-of (Some w) = Some w.id

first-found : (kind s : ℕ) (ws : List Waiting) → first_of (λ (w : ℕ × ℕ). if w.0 % 4 == kind && w.1 == s then Some w.0 else None) (map stream-pair ws) ≡ id-of (find (waits_for kind s) ws)
first-found kind s [] = refl
first-found kind s (w ∷ ws) = by (waits_for kind s w) (first-found kind s ws)
  where
    by : (b : Bool) → first_of (λ (w : ℕ × ℕ). if w.0 % 4 == kind && w.1 == s then Some w.0 else None) (map stream-pair ws) ≡ id-of (find (waits_for kind s) ws)
        → option_or (if b then Some w.id else None) (first_of (λ (w : ℕ × ℕ). if w.0 % 4 == kind && w.1 == s then Some w.0 else None) (map stream-pair ws))
        ≡ id-of (cond b (Some w) (find (waits_for kind s) ws))
    by true e = refl
    by false e = e

pub next-stream : (side : Side) (offset : ℕ → ℕ) (h : History) (log : Log) (kind s : ℕ) → Stands side offset h log → first_waiting side h kind s ≡ id-of (next_stream side log kind s)
next-stream side offset h log kind s x =
    ap (first_of (λ (w : ℕ × ℕ). if w.0 % 4 == kind && w.1 == s then Some w.0 else None)) (sym (waiting-agree h (call_view log) (findings side h) (stream_table side log) x.calls x.table))
    ∙ first-found kind s (tables.waiting_streams (call_view log) (stream_table side log))

-- ---- sessions

pub gone-is : (side : Side) (offset : ℕ → ℕ) (h : History) (log : Log) (s : ℕ) → Stands side offset h log → is_gone h (findings side h) s ≡ is_session_gone side log s
gone-is side offset h log s x = sym (gone-agrees h (call_view log) (findings side h) (stream_table side log) s x.calls x.table)

pub living-is : (side : Side) (offset : ℕ → ℕ) (h : History) (log : Log) (s : ℕ) → Stands side offset h log → is_living side h s ≡ drivers.is_living side log s
living-is side offset h log s x =
    ap (λ (b : Bool). b && not (is_gone h (findings side h) s)) (sym (x.calls.established s)) ∙ ap (λ (b : Bool). tables.was_established (call_view log) s && not b) (gone-is side offset h log s x)

pub transport-is : (side : Side) (offset : ℕ → ℕ) (h : History) (log : Log) → Stands side offset h log → transport_error h ≡ effects.transport_error log
transport-is side offset h log x = rw x.came.events refl

fault-is : (h : History) (log : Log) (o : Option ErrorCode) → transport_error h ≡ effects.transport_error log → fault_error h o ≡ effects.error_of_fault log o
fault-is h log None e = e
fault-is h log (Some code) e = refl

pub driver-is : (side : Side) (offset : ℕ → ℕ) (h : History) (log : Log) → Stands side offset h log → driver_error side h ≡ effects.driver_error side log
driver-is side offset h log x = rw x.table.fault (fault-is h log (stream_table side log).progress.fault (transport-is side offset h log x))

-- how the peer closed a session
abbrev closed-error : Option Closed → Option ConnectionError
closed-error None = None
closed-error (Some x) = Some (errors.ApplicationClosed (record { code = x.code; reason = x.reason }))

closed-found : (s : ℕ) (found : List Finding) → first_of (closed_by s) found ≡ closed-error (find (is_closed s) (filter_map closed_in found))
closed-found s [] = refl
closed-found s (SessionClosed session code reason by_capsule ∷ found) = by (session == s) (closed-found s found)
  where
    by : (b : Bool) → first_of (closed_by s) found ≡ closed-error (find (is_closed s) (filter_map closed_in found))
        → option_or (if b then Some (errors.ApplicationClosed (record { code = code; reason = reason })) else None) (first_of (closed_by s) found)
        ≡ closed-error (cond b (Some (record { id = session; code = code; reason = reason })) (find (is_closed s) (filter_map closed_in found)))
    by true e = refl
    by false e = e
closed-found s (_ ∷ found) = closed-found s found

pub error-is : (side : Side) (offset : ℕ → ℕ) (h : History) (log : Log) (s : ℕ) → Stands side offset h log → session_error side h s ≡ effects.session_error side log s
error-is side offset h log s x =
    ap (session_error_with side h s) (closed-found s (findings side h) ∙ ap (λ (xs : List Closed). closed-error (find (is_closed s) xs)) x.table.closed)
    ∙ by (find (is_closed s) (stream_table side log).closed) (is_session_gone side log s) refl
  where
    by : (o : Option Closed) (b : Bool) → is_session_gone side log s ≡ b → session_error_with side h s (closed-error o) ≡ effects.error_of_session side log b o
    by (Some c) b e = refl
    by None true e = rw (gone-is side offset h log s x, e) refl
    by None false e = rw (gone-is side offset h log s x, e) (driver-is side offset h log x)

-- ---- datagrams

-- the first that waits is the first that is left
abbrev LeftSame : CallView → (ℕ → Bool) → ℕ → List Admitted → Type 0
LeftSame calls g s ds =
    find (λ (d : Admitted). d.session == s) (filter (λ (d : Admitted). not (calls.received d.index) && not (g d.session)) ds)
    ≡ first_of (λ (d : Admitted). Some d) (filter (is_left calls) (filter (is_of s) ds))

-- none waits
abbrev NoneWaits : CallView → (ℕ → Bool) → ℕ → List Admitted → Type 0
NoneWaits calls g s ds = find (λ (d : Admitted). d.session == s) (filter (λ (d : Admitted). not (calls.received d.index) && not (g d.session)) ds) ≡ None

-- of a session that isn't gone, those that wait are those that are left
left-waiting : (calls : CallView) (g : ℕ → Bool) (s : ℕ) → g s ≡ false → (ds : List Admitted)
    → find (λ (d : Admitted). d.session == s) (filter (λ (d : Admitted). not (calls.received d.index) && not (g d.session)) ds)
    ≡ first_of (λ (d : Admitted). Some d) (filter (is_left calls) (filter (is_of s) ds))
left-waiting calls g s e [] = refl
left-waiting calls g s e (d ∷ ds) = by (d.session == s) refl (calls.received d.index) refl (g d.session) refl (left-waiting calls g s e ds)
  where
    by : (b : Bool) → (d.session == s) ≡ b → (x : Bool) → calls.received d.index ≡ x → (y : Bool) → g d.session ≡ y → LeftSame calls g s ds → LeftSame calls g s (d ∷ ds)
    by true p true q y r again = rw (p, q) again
    by true p false q true r again = absurd (cc (sym r ∙ ap g (eqb-true d.session s p) ∙ e))
    by true p false q false r again = rw (q, r, p, q) refl
    by false p true q y r again = rw (q, p) again
    by false p false q true r again = rw (q, r, p) again
    by false p false q false r again = rw (q, r, p) again

none-waiting : (calls : CallView) (g : ℕ → Bool) (s : ℕ) → g s ≡ true → (ds : List Admitted)
    → find (λ (d : Admitted). d.session == s) (filter (λ (d : Admitted). not (calls.received d.index) && not (g d.session)) ds) ≡ None
none-waiting calls g s e [] = refl
none-waiting calls g s e (d ∷ ds) = by (d.session == s) refl (calls.received d.index) refl (g d.session) refl (none-waiting calls g s e ds)
  where
    by : (b : Bool) → (d.session == s) ≡ b → (x : Bool) → calls.received d.index ≡ x → (y : Bool) → g d.session ≡ y → NoneWaits calls g s ds → NoneWaits calls g s (d ∷ ds)
    by b p true q y r again = rw q again
    by b p false q true r again = rw (q, r) again
    by true p false q false r again = absurd (cc (sym r ∙ ap g (eqb-true d.session s p) ∙ e))
    by false p false q false r again = rw (q, r, p) again

-- the payload of a datagram that is there
abbrev pub payload-of : Option Admitted → Option (List ℕ)
payload-of None = None
payload-of (Some d) = Some d.payload

first-pairs : (ds : List Admitted) → first_of (λ (d : ℕ × List ℕ). Some d.1) (map pair-of ds) ≡ payload-of (first_of (λ (d : Admitted). Some d) ds)
first-pairs [] = refl
first-pairs (d ∷ ds) = refl

drop-pairs : (n : ℕ) (ds : List Admitted) → drop n (map pair-of ds) ≡ map pair-of (drop n ds)
drop-pairs zero ds = refl
drop-pairs (suc n) [] = refl
drop-pairs (suc n) (d ∷ ds) = drop-pairs n ds

pub waiting-pairs : (side : Side) (h : History) (s : ℕ) → waiting_datagrams h (findings side h) s ≡ map pair-of (left_datagrams side h s)
waiting-pairs side h s =
    ap (λ (ds : List (ℕ × List ℕ)). drop (received_count h s) (filter (λ (d : ℕ × List ℕ). d.0 == s) ds)) (admitted-pairs (findings side h))
    ∙ ap (drop (received_count h s)) (filter-pairs (λ (k : ℕ). k == s) (filter_map admitted_in (findings side h)))
    ∙ drop-pairs (received_count h s) (filter (is_of s) (filter_map admitted_in (findings side h)))

-- the next datagram of a session that isn't gone is the first that is left
next-left : (side : Side) (offset : ℕ → ℕ) (h : History) (log : Log) (s : ℕ) → Stands side offset h log → is_session_gone side log s ≡ false
    → next_datagram side log s ≡ first_of (λ (d : Admitted). Some d) (left_datagrams side h s)
next-left side offset h log s x g =
    left-waiting (call_view log) (is_session_gone side log) s g (stream_table side log).datagrams
    ∙ ap (λ (ds : List Admitted). first_of (λ (d : Admitted). Some d) (filter (is_left (call_view log)) (filter (is_of s) ds))) (sym x.table.datagrams)
    ∙ ap (first_of (λ (d : Admitted). Some d)) (x.orderly.received.left s)

pub next-datagram : (side : Side) (offset : ℕ → ℕ) (h : History) (log : Log) (s : ℕ) → Stands side offset h log → first_datagram side h s ≡ payload-of (next_datagram side log s)
next-datagram side offset h log s x = by (is_session_gone side log s) refl
  where
    by : (b : Bool) → is_session_gone side log s ≡ b → first_datagram side h s ≡ payload-of (next_datagram side log s)
    by true g =
        let n : next_datagram side log s ≡ None = none-waiting (call_view log) (is_session_gone side log) s g (stream_table side log).datagrams in
        rw (gone-is side offset h log s x, g, n) refl
    by false g =
        rw (gone-is side offset h log s x, g) (ap (first_of (λ (d : ℕ × List ℕ). Some d.1)) (waiting-pairs side h s) ∙ first-pairs (left_datagrams side h s)
        ∙ ap payload-of (sym (next-left side offset h log s x g)))

-- its index
index-of : (ds : List Admitted) (d : Admitted) → first_of (λ (d : Admitted). Some d) ds ≡ Some d → first_of (λ (d : Admitted). Some d.index) ds ≡ Some d.index
index-of [] d e = absurd (cc e)
index-of (x ∷ ds) d e = ap (λ (o : Option Admitted). elim o [ Some y ↦ Some y.index | None ↦ None ]) e

pub next-index : (side : Side) (offset : ℕ → ℕ) (h : History) (log : Log) (s : ℕ) (d : Admitted) → Stands side offset h log → is_session_gone side log s ≡ false → next_datagram side log s ≡ Some d
    → next_index side h s ≡ d.index
next-index side offset h log s d x g e = rw (index-of (left_datagrams side h s) d (sym (next-left side offset h log s x g) ∙ e)) refl
