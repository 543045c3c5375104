-- The scan over the peer's streams that have no verdict, look by look.
use Rattle.std.specs.Prelude.{[], ◌++◌, ◌∷◌, ◌≡◌, Bool, List, None, Option, Some, false, if◌then◌else◌, length, nat_lt, refl, slice_index_or, slice_set, suc, true, ℕ}
use Rattle.std.specs.List.{remove}
use Rattle.wt_kept.specs.Arriving.{ScannedNow, with_transport}
use Rattle.wt_kept.specs.Classifying.{classify_now}
use Rattle.wt_kept.specs.Kept.{ArrivingNow, DispatchedNow, WorkNow}
use Rattle.wt_kept.specs.Readers.{ReadOn, ReaderRules, Slot, read_on}
use Rattle.wt_transport.specs.Running.{peer_stream_now}
use Rattle.wt_transport.specs.State.{TransportState}
use Rattle.wt_proto.specs.Uni.{is_final}
use Rattle.wt_proto.specs.declared.verdict.Verdict.{Verdict}
use Rattle.wt_proto.specs.declared.verdict.Verdict.TheVariants as verdicts
use Rattle.wt_wire.specs.declared.side.StreamEnd.{StreamEnd}

-- the rules of a reader of headers
abbrev pub header_rules : {V : Type 0} → V → (V → List ℕ → V) → (StreamEnd → V → V) → (V → Verdict) → (V → Bool) → ReaderRules V Verdict
header_rules start fed ended said final = record { start = start; fed = fed; ended = ended; outcome = said; has_said = final }

-- ---- the next stream that waits

pub record TakenIn (V : Type 0) : Type 0 where
  pub takes : Bool
  pub arriving : ArrivingNow V

-- its header is read from now on
abbrev pub taken_in : {V : Type 0} → V → Option ℕ → ArrivingNow V → TakenIn V
taken_in start None a = record { takes = false; arriving = a }
taken_in start (Some id) a = record { takes = true; arriving = record a { reading = a.reading ++ record { id = id; reader = start } ∷ []; next = suc a.next } }

-- where fewer than 4 are read
abbrev pub takes_next_now : {V : Type 0} → V → TransportState → ArrivingNow V → TakenIn V
takes_next_now start t a = if nat_lt (length a.reading) 4 then taken_in start (peer_stream_now t a.bidirectional a.next) a else record { takes = false; arriving = a }

-- ---- a look at the header at an index

pub record Looked (V : Type 0) : Type 0 where
  pub stays : Bool
  pub arriving : ArrivingNow V
  pub work : WorkNow

abbrev pub is_incomplete : Verdict → Bool
is_incomplete verdicts.Incomplete = true
is_incomplete _ = false

-- a final verdict is one
pub is_decided : (v : Verdict) → is_final v ≡ true → is_incomplete v ≡ false
is_decided verdicts.Incomplete e = absurd (cc)
is_decided (verdicts.Control offset) e = refl
is_decided (verdicts.Encoder offset) e = refl
is_decided (verdicts.Decoder offset) e = refl
is_decided (verdicts.WebTransport session offset) e = refl
is_decided (verdicts.Request fields offset) e = refl
is_decided (verdicts.Refused code) e = refl
is_decided verdicts.Dropped e = refl
is_decided (verdicts.Fault code) e = refl

-- it stays where it has no verdict
abbrev pub looked_by : {V : Type 0} → Bool → ℕ → Slot V → Verdict → ArrivingNow V → WorkNow → Looked V
looked_by true index x v a r = record { stays = true; arriving = record a { reading = slice_set a.reading index x }; work = r }
looked_by false index x v a r = record { stays = false; arriving = record a { reading = remove a.reading index }; work = classify_now x.id v r }

-- the slot at the index; the other one stands in where none is there
abbrev pub slot_at : {V : Type 0} → V → List (Slot V) → ℕ → Slot V
slot_at start xs index = slice_index_or xs index (record { id = 0; reader = start })

abbrev pub looked_so : {V : Type 0} → ReaderRules V Verdict → ℕ → ℕ → ReadOn V → ArrivingNow V → WorkNow → Looked V
looked_so w index id x a r = looked_by (is_incomplete (w.outcome x.reader)) index (record { id = id; reader = x.reader }) (w.outcome x.reader) a (with_transport x.transport r)

abbrev pub looked_at : {V : Type 0} → ReaderRules V Verdict → ℕ → ArrivingNow V → WorkNow → Looked V
looked_at w index a r =
    looked_so w index (slot_at w.start a.reading index).id (read_on w (slot_at w.start a.reading index).id (slot_at w.start a.reading index).reader r.transport) a r

-- what a scan left
abbrev pub scanned : {V : Type 0} → ArrivingNow V → TransportState → DispatchedNow → ScannedNow V
scanned a t d = record { reading = a.reading; next = a.next; work = record { transport = t; dispatched = d } }
