-- A look at the header at an index, as code does it: the slot is read on, and goes where it has a verdict.
use Rattle.std.proofs.Common.{◌<◌, ◌≡◌, ◌∙◌, ◌∷◌, [], List, ap, arith, false, get_or, length, refl, set, suc, sym, true, zero, ℕ}
use Rattle.std.specs.List.{remove}
use Rattle.wt_kept.specs.Arriving.{with_transport}
use Rattle.wt_kept.specs.Classifying.{classify_now}
use Rattle.wt_kept.specs.Kept.{ArrivingNow, WorkNow}
use Rattle.wt_kept.specs.Readers.{ReadOn, ReaderRules, Slot, read_on}
use Rattle.wt_transport.specs.State.{TransportState}
use Rattle.wt_peer_streams.specs.Scanning.{Looked, is_incomplete, looked_at, looked_by, looked_so, slot_at}
use Rattle.wt_proto.specs.declared.verdict.Verdict.{Verdict}
use Rattle.wt_proto.specs.declared.verdict.Verdict.TheVariants as verdicts

pub set-out : {X : Type 0} (xs : List X) (i : ℕ) (y : X) → remove (set xs i y) i ≡ remove xs i
set-out [] zero y = refl
set-out [] (suc i) y = refl
set-out (x ∷ xs) zero y = refl
set-out (x ∷ xs) (suc i) y = ap (λ ys. x ∷ ys) (set-out xs i y)

pub set-there : {X : Type 0} (xs : List X) (i : ℕ) (y d : X) → i < length xs → get_or (set xs i y) i d ≡ y
set-there [] i y d l = absurd (omega arith)
set-there (x ∷ xs) zero y d l = refl
set-there (x ∷ xs) (suc i) y d l = set-there xs i y d (omega arith)

-- what stands at an index does not depend on what stands in for none
pub there : {X : Type 0} (xs : List X) (i : ℕ) (d e : X) → i < length xs → get_or xs i d ≡ get_or xs i e
there [] i d e l = absurd (omega arith)
there (x ∷ xs) zero d e l = refl
there (x ∷ xs) (suc i) d e l = there xs i d e (omega arith)

-- a verdict is there
pub has-verdict : (v : Verdict) → (v ≡ verdicts.Incomplete → ⊥) → is_incomplete v ≡ false
has-verdict verdicts.Incomplete other = absurd (other refl)
has-verdict (verdicts.Control offset) other = refl
has-verdict (verdicts.Encoder offset) other = refl
has-verdict (verdicts.Decoder offset) other = refl
has-verdict (verdicts.WebTransport session offset) other = refl
has-verdict (verdicts.Request fields offset) other = refl
has-verdict (verdicts.Refused code) other = refl
has-verdict verdicts.Dropped other = refl
has-verdict (verdicts.Fault code) other = refl

module _ {V : Type 0} (w : ReaderRules V Verdict) (index : ℕ) (a now : ArrivingNow V) (r : WorkNow) (view : a ≡ now) (x : Slot V) (is : x ≡ get_or a.reading index x) (within : index < length a.reading) where
  -- what a look is to do, for the slot that stands there
  look-there : looked_so w index x.id (read_on w x.id x.reader r.transport) a r ≡ looked_at w index now r
  look-there =
      let same : x ≡ slot_at w.start a.reading index = is ∙ there a.reading index x (record { id = 0; reader = w.start }) within in
      ap (λ (s : Slot V). looked_so w index s.id (read_on w s.id s.reader r.transport) a r) same ∙ ap (λ (b : ArrivingNow V). looked_at w index b r) view

  module _ (y : Slot V) (t : TransportState) (read : ◌≡◌ {A = ReadOn V} (record { reader = y.reader; transport = t }) (read_on w x.id x.reader r.transport)) (stream : y.id ≡ x.id) where
    read-there : looked_by (is_incomplete (w.outcome y.reader)) index (record { id = x.id; reader = y.reader }) (w.outcome y.reader) a (with_transport t r) ≡ looked_at w index now r
    read-there = ap (λ (z : ReadOn V). looked_so w index x.id z a r) read ∙ look-there

    -- it stays
    pub look-stays : w.outcome y.reader ≡ verdicts.Incomplete → ◌≡◌ {A = Looked V} (record { stays = true; arriving = record a { reading = set a.reading index y }; work = with_transport t r }) (looked_at w index now r)
    look-stays e =
        ap (λ k. record { stays = true; arriving = record a { reading = set a.reading index (record { id = k; reader = y.reader }) }; work = with_transport t r }) stream
        ∙ (ap (λ v. looked_by (is_incomplete v) index (record { id = x.id; reader = y.reader }) (w.outcome y.reader) a (with_transport t r)) (sym e) ∙ read-there)

    -- it goes on
    pub look-goes : is_incomplete (w.outcome y.reader) ≡ false → (out : Slot V) → out ≡ get_or (set a.reading index y) index out → (id : ℕ) (v : Verdict) → id ≡ out.id → v ≡ w.outcome out.reader
        → (xs : List (Slot V)) → xs ≡ remove (set a.reading index y) index → (u : WorkNow) → u ≡ classify_now id v (with_transport t r)
        → ◌≡◌ {A = Looked V} (record { stays = false; arriving = record a { reading = xs }; work = u }) (looked_at w index now r)
    look-goes e out out-is id v ids says xs left u work =
        let same : out ≡ y = out-is ∙ set-there a.reading index y out within in
        let who : id ≡ x.id = ids ∙ (ap (λ (s : Slot V). s.id) same ∙ stream) in
        let what : v ≡ w.outcome y.reader = says ∙ ap (λ (s : Slot V). w.outcome s.reader) same in
        (λ i. record { stays = false; arriving = record a { reading = (left ∙ set-out a.reading index y) i }; work = (work ∙ (λ j. classify_now (who j) (what j) (with_transport t r))) i })
        ∙ (ap (λ b. looked_by b index (record { id = x.id; reader = y.reader }) (w.outcome y.reader) a (with_transport t r)) (sym e) ∙ read-there)
