-- The scan over the peer's streams of one kind that have no verdict: each reader reads on, a stream whose header shows what it is
-- leaves its place to the next that waits, up to the first fault. (That 4 headers of a kind are read at once is this repository's rule.)
use Rattle.std.specs.Prelude.{[], ◌*◌, ◌++◌, ◌+◌, ◌-◌, ◌^◌, ◌∷◌, Bool, List, None, Option, Some, if◌then◌else◌, min, suc, zero, ℕ}
use Rattle.wt_kept.specs.Kept.{ArrivingNow, WorkNow}
use Rattle.wt_kept.specs.Readers.{ReadOn, ReaderRules, Slot, read_on}
use Rattle.wt_proto.specs.declared.verdict.Verdict.{Verdict}
use Rattle.wt_proto.specs.declared.verdict.Verdict.TheVariants as verdicts
use Rattle.wt_turn.specs.Streams.{peer_bi, peer_uni}
use Rattle.wt_sessions.specs.Scan.{places_after}
use Rattle.wt_transport.specs.State.{TransportState}
use Rattle.wt_transport.specs.Step.{count_now}
use Rattle.wt_wire.specs.declared.error.ErrorCode.{ErrorCode}
use Rattle.wt_wire.specs.declared.side.Side.{Side}

-- ---- which streams

-- which kind of the peer's streams it is
abbrev pub peer_kind : Side → Bool → ℕ
peer_kind side bidirectional = if bidirectional then peer_bi side else peer_uni side

-- none came
abbrev pub none_arriving : {V : Type 0} → Bool → ArrivingNow V
none_arriving bidirectional = record { bidirectional = bidirectional; reading = []; next = 0 }

-- a stream of which nothing was read
abbrev pub fresh_slot : {V O : Type 0} → ReaderRules V O → ℕ → Slot V
fresh_slot w id = record { id = id; reader = w.start }

-- those that wait, from the n-th of a kind on
abbrev pub fresh_slots : {V O : Type 0} → ReaderRules V O → ℕ → ℕ → ℕ → List (Slot V)
fresh_slots w kind n zero = []
fresh_slots w kind n (suc count) = fresh_slot w (4 * n + kind) ∷ fresh_slots w kind (suc n) count

-- how many of the kind came: no stream has a greater number (RFC 9000, section 2.1)
abbrev pub arrived_count : {V : Type 0} → TransportState → ArrivingNow V → ℕ
arrived_count t a = min (count_now t (peer_kind t.side a.bidirectional)) (2 ^ 60)

-- all that have no verdict, by id: those that wait as they will begin
abbrev pub slots_of : {V O : Type 0} → ReaderRules V O → TransportState → ArrivingNow V → List (Slot V)
slots_of w t a = a.reading ++ fresh_slots w (peer_kind t.side a.bidirectional) a.next (arrived_count t a - a.next)

-- ---- one stream after another

-- what a scan leaves: those that are read on later, from which one on streams wait, and the rest
pub record ScannedNow (V : Type 0) : Type 0 where
  pub reading : List (Slot V)
  pub next : ℕ
  pub work : WorkNow

-- the rest with this transport
abbrev pub with_transport : TransportState → WorkNow → WorkNow
with_transport t r = record r { transport = t }

-- a stream stays in front of those after it where it has no verdict
abbrev pub stays_now : {V : Type 0} → Verdict → Slot V → ScannedNow V → ScannedNow V
stays_now verdicts.Incomplete x s = record s { reading = x ∷ s.reading }
stays_now _ x s = s

-- where a verdict is there, the stream is classified
abbrev pub classify_final : (ℕ → Verdict → WorkNow → WorkNow) → ℕ → Verdict → WorkNow → WorkNow
classify_final classify k verdicts.Incomplete r = r
classify_final classify k v r = classify k v r

-- nothing is read after a fault
abbrev pub unless_over : {V : Type 0} → Option ErrorCode → ScannedNow V → ScannedNow V → ScannedNow V
unless_over None goes stops = goes
unless_over (Some code) goes stops = stops

-- one stream was read on, which is judged, before those after it
abbrev pub after_slot : {V : Type 0} → ReaderRules V Verdict → (ℕ → Verdict → WorkNow → WorkNow) → ℕ → ReadOn V → (ℕ → WorkNow → ScannedNow V) → ℕ → WorkNow → ScannedNow V
after_slot w classify id x later n r =
    stays_now (w.outcome x.reader) (record { id = id; reader = x.reader })
    (later (places_after (w.outcome x.reader) n) (classify_final classify id (w.outcome x.reader) (with_transport x.transport r)))

-- those that wait, until n places are taken or none is left: `left` of them, from the `next` one on
abbrev pub scan_waiting : {V : Type 0} → ReaderRules V Verdict → (ℕ → Verdict → WorkNow → WorkNow) → ℕ → ℕ → ℕ → ℕ → WorkNow → ScannedNow V
scan_waiting w classify kind zero left next r = record { reading = []; next = next; work = r }
scan_waiting w classify kind (suc n) zero next r = record { reading = []; next = next; work = r }
scan_waiting w classify kind (suc n) (suc left) next r =
    unless_over r.dispatched.fault
    (after_slot w classify (4 * next + kind) (read_on w (4 * next + kind) w.start r.transport) (λ m u. scan_waiting w classify kind m left (suc next) u) n r)
    (record { reading = []; next = next; work = r })

-- those that are read, and then those that wait
abbrev pub scan_reading : {V : Type 0} → ReaderRules V Verdict → (ℕ → Verdict → WorkNow → WorkNow) → ℕ → ℕ → ℕ → ℕ → List (Slot V) → WorkNow → ScannedNow V
scan_reading w classify kind n left next [] r = scan_waiting w classify kind n left next r
scan_reading w classify kind zero left next (x ∷ xs) r = record { reading = x ∷ xs; next = next; work = r }
scan_reading w classify kind (suc n) left next (x ∷ xs) r =
    unless_over r.dispatched.fault
    (after_slot w classify x.id (read_on w x.id x.reader r.transport) (λ m u. scan_reading w classify kind m left next xs u) n r)
    (record { reading = x ∷ xs; next = next; work = r })

-- the scan of a kind: of at most 4 the header is read
abbrev pub scan_now : {V : Type 0} → ReaderRules V Verdict → (ℕ → Verdict → WorkNow → WorkNow) → ArrivingNow V → WorkNow → ScannedNow V
scan_now w classify a r =
    scan_reading w classify (peer_kind r.transport.side a.bidirectional) 4 (arrived_count r.transport a - a.next) a.next a.reading r

-- the streams that a scan leaves
abbrev pub arriving_after : {V : Type 0} → ArrivingNow V → ScannedNow V → ArrivingNow V
arriving_after a s = record a { reading = s.reading; next = s.next }
