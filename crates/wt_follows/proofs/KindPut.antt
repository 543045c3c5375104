-- A piece is put before the reader of a header, of a driver at rest: its streams follow the log with what the reader took.
use Rattle.std.proofs.Common.{◌+◌, ◌-◌, ◌∙◌, ◌≡◌, ◌≤◌, ◌<◌, ◌++◌, ◌∷◌, Bool, List, Some, [], ap, arith, false, inl, inr, length, refl, subst, suc, sym, take, true, true≢false, zero, ℕ}
use Rattle.std.proofs.lemmas.Bool.{cases_lt, eqb-true}
use Rattle.std.proofs.lemmas.List.{length-append}
use Rattle.std.specs.Prelude.{◌==◌, ◌||◌, if◌then◌else◌}
use Rattle.wt_follows.proofs.BytesCome.{contents-apart, contents-on}
use Rattle.wt_follows.proofs.FedReader.{fed-at, fed-runs, fed-said, fed-some, fed-whole, fed-within, has}
use Rattle.wt_follows.proofs.Fewer.{in-parts}
use Rattle.wt_follows.proofs.IsReader.{IsReader}
use Rattle.wt_follows.proofs.Logs.{same-id}
use Rattle.wt_follows.proofs.PieceAmid.{put-at}
use Rattle.wt_follows.proofs.PieceSlots.{FoundSlot, fed-ids, fed-length, fed-read, fed-slots, ids_of, read-apart, slot-found, slots-apart}
use Rattle.wt_follows.proofs.ReaderLaws.{has-said-is}
use Rattle.wt_follows.proofs.ScanStep.{map-both}
use Rattle.wt_follows.specs.Pieces.{AreIncomplete}
use Rattle.wt_follows.specs.Rests.{IsRead, SlotsRead}
use Rattle.wt_follows.specs.Roles.{AreDistinct, is_in}
use Rattle.wt_follows.specs.Tie.{ArrivingFollows, ReaderAt}
use Rattle.wt_kept.specs.Arriving.{arrived_count, fresh_slots, peer_kind, slots_of}
use Rattle.wt_kept.specs.Kept.{ArrivingNow}
use Rattle.wt_kept.specs.Pieces.{fed_slots, slot_of}
use Rattle.wt_kept.specs.Readers.{ReaderRules, Slot, fed_piece, taken}
use Rattle.wt_transport.specs.State.{TransportState}
use Rattle.wt_proto.specs.Uni.{is_final}
use Rattle.wt_proto.specs.declared.verdict.Verdict.{Verdict}
use Rattle.wt_proto.specs.declared.verdict.Verdict.TheVariants as verdicts
use Rattle.wt_turn.specs.Arrivals.{log_bytes}
use Rattle.wt_turn.specs.Streams.{contents}
use Rattle.wt_turn.specs.Unread.{AtOffset, ReadPosition, advance, position_after}
use Rattle.wt_turn.specs.Log.{Log}
use Rattle.wt_wire.specs.declared.side.StreamEnd.{StreamEnd}
use Rattle.wt_wire.specs.declared.side.StreamEnd.TheVariants.{Running}

-- one of the first n shows nothing
pub incomplete-at : (verdict : ℕ → Verdict) (n : ℕ) (ks : List ℕ) (id : ℕ) → AreIncomplete verdict n ks → is_in id (take n ks) ≡ true → verdict id ≡ verdicts.Incomplete
incomplete-at verdict zero ks id all e = absurd cc
incomplete-at verdict (suc n) [] id all e = absurd cc
incomplete-at verdict (suc n) (k ∷ ks) id all e = by (k == id) refl e (incomplete-at verdict n ks id all.1)
  where
    by : (b : Bool) → (k == id) ≡ b → (b || is_in id (take n ks)) ≡ true → (is_in id (take n ks) ≡ true → verdict id ≡ verdicts.Incomplete) → verdict id ≡ verdicts.Incomplete
    by true f g later = ap verdict (sym (eqb-true k id f)) ∙ all.0
    by false f g later = later g

-- those in front are among the first
pub in-front : (n : ℕ) (xs more : List ℕ) (id : ℕ) → length xs ≤ n → is_in id xs ≡ true → is_in id (take n (xs ++ more)) ≡ true
in-front n [] more id le e = absurd cc
in-front zero (x ∷ xs) more id le e = absurd (omega (arith, le))
in-front (suc n) (x ∷ xs) more id le e = by (x == id) e (in-front n xs more id (omega (arith, le)))
  where
    by : (b : Bool) → (b || is_in id xs) ≡ true → (is_in id xs ≡ true → is_in id (take n (xs ++ more)) ≡ true) → (b || is_in id (take n (xs ++ more))) ≡ true
    by true g later = refl
    by false g later = later g

-- what came of other streams, and how far they are read
pub apart-same : (log : Log) (position : ℕ → ReadPosition) (id : ℕ) (part : List ℕ) (j : ℕ) → (id == j) ≡ false
    → (contents (log_bytes log id part) j ≡ contents log j) × (position_after position id (length part) j ≡ position j)
apart-same log position id part j e = (contents-apart log id part j e, ap (λ b. if b then advance (length part) (position j) else position j) e)

pub its-contents : (log : Log) (id : ℕ) (part : List ℕ) → contents (log_bytes log id part) id ≡ contents log id ++ part
its-contents log id part = contents-on log id part id ∙ ap (λ b. if b then contents log id ++ part else contents log id) (same-id id)

-- it is read to its end again
pub its-read : (log : Log) (position : ℕ → ReadPosition) (id : ℕ) (part : List ℕ) → IsRead position (contents log) id → IsRead (position_after position id (length part)) (contents (log_bytes log id part)) id
its-read log position id part read =
    put-at log position id part read
    ∙ ap AtOffset (sym (ap length (its-contents log id part) ∙ (let e : length (contents log id ++ part) ≡ length (contents log id) + length part = omega (arith, length-append (contents log id) part) in e)))

module _ {V : Type 0} (w : ReaderRules V Verdict) (verdict_of : List ℕ → StreamEnd → Verdict) (is : IsReader w is_final verdict_of) (log : Log) (position : ℕ → ReadPosition) (t : TransportState) (a : ArrivingNow V) (ids : List ℕ)
    (follows : ArrivingFollows w t a ids (contents log) position) (read : SlotsRead position (contents log) a.reading) where
  abbrev fresh : List (Slot V)
  fresh = fresh_slots w (peer_kind t.side a.bidirectional) a.next (arrived_count t a - a.next)

  ids-are : ids_of a.reading ++ ids_of fresh ≡ ids
  ids-are = sym (map-both a.reading fresh) ∙ follows.same_ids

  -- ---- a stream that isn't of the kind

  pub kind-apart : (id : ℕ) (part : List ℕ) → is_in id ids ≡ false
      → ArrivingFollows w t a ids (contents (log_bytes log id part)) (position_after position id (length part)) × SlotsRead (position_after position id (length part)) (contents (log_bytes log id part)) a.reading
  kind-apart id part e = (
    record {
      ordered = follows.ordered;
      few = follows.few;
      same_ids = follows.same_ids;
      read = slots-apart w id (contents log) position (contents (log_bytes log id part)) (position_after position id (length part)) (apart-same log position id part) part (slots_of w t a)
          (ap (is_in id) follows.same_ids ∙ e) follows.read;
    },
    read-apart w id (contents log) position (contents (log_bytes log id part)) (position_after position id (length part)) (apart-same log position id part) part a.reading (not-in (is_in id (ids_of a.reading)) refl) read,
  )
    where
      not-in : (b : Bool) → is_in id (ids_of a.reading) ≡ b → is_in id (ids_of a.reading) ≡ false
      not-in false f = f
      not-in true f = absurd (true≢false (sym (in-parts id (ids_of a.reading) (ids_of fresh) ∙ ap (λ c. c || is_in id (ids_of fresh)) f) ∙ (ap (is_in id) ids-are ∙ e)))

  -- ---- the one whose header is read

  module _ (id : ℕ) (whole : List ℕ) (distinct : AreDistinct ids) (x : Slot V) (found : slot_of id a.reading ≡ Some x) (waits : is_in id (take 4 ids) ≡ true → verdict_of (contents log id) Running ≡ verdicts.Incomplete) where
    pub its : FoundSlot w (contents log) position id a.reading x
    its = slot-found w id (contents log) position a.reading fresh x found follows.read read

    pub its-kind : is_in id ids ≡ true
    its-kind = ap (is_in id) (sym ids-are) ∙ (in-parts id (ids_of a.reading) (ids_of fresh) ∙ ap (λ c. c || is_in id (ids_of fresh)) its.among)

    -- nothing is final yet
    pub kind-open : w.has_said x.reader ≡ false
    kind-open =
        ap w.has_said (has w is_final verdict_of is x.reader 0 (contents log id) (position id) its.at its.read whole)
        ∙ (has-said-is w is_final verdict_of is (contents log id)
        ∙ ap is_final (waits (ap (λ ks. is_in id (take 4 ks)) (sym ids-are) ∙ in-front 4 (ids_of a.reading) (ids_of fresh) id (subst (λ n. n ≤ 4) (long a.reading) follows.few) its.among)))
      where
        long : (xs : List (Slot V)) → length xs ≡ length (ids_of xs)
        long [] = refl
        long (y ∷ ys) = ap suc (long ys)

    abbrev pub n : ℕ
    n = taken w x.reader whole

    abbrev pub part : List ℕ
    part = take n whole

    abbrev g : Log
    g = log_bytes log id part

    abbrev after : ℕ → ReadPosition
    after = position_after position id (length part)

    reader-then : ReaderAt w (fed_piece w x.reader whole) 0 (contents g id) (after id)
    reader-then =
        subst (λ (q : List ℕ × ReadPosition). ReaderAt w (fed_piece w x.reader whole) 0 q.0 q.1)
        (λ i. (sym (its-contents log id part) i, (ap AtOffset (ap length (sym (its-contents log id part))) ∙ sym (its-read log position id part its.read)) i))
        (fed-at w is_final verdict_of is x.reader 0 (contents log id) (position id) its.at its.read whole)

    pub kind-follows : ArrivingFollows w t (record a { reading = fed_slots w id whole a.reading }) ids (contents g) after
    kind-follows = record {
      ordered = follows.ordered;
      few = subst (λ m. m ≤ 4) (sym (fed-length w id (contents log) position whole a.reading)) follows.few;
      same_ids = map-both (fed_slots w id whole a.reading) fresh ∙ (ap (λ ks. ks ++ ids_of fresh) (fed-ids w id (contents log) position whole a.reading) ∙ ids-are);
      read = fed-slots w id (contents log) position (contents g) after (apart-same log position id part) whole a.reading fresh x found (subst AreDistinct (sym follows.same_ids) distinct) follows.read reader-then;
    }

    pub kind-read : SlotsRead after (contents g) (fed_slots w id whole a.reading)
    kind-read = fed-read w id (contents log) position (contents g) after (apart-same log position id part) whole a.reading read (its-read log position id part its.read)

    pub kind-length : length (fed_slots w id whole a.reading) ≤ 4
    kind-length = subst (λ m. m ≤ 4) (sym (fed-length w id (contents log) position whole a.reading)) follows.few

    pub kind-runs : (k : ℕ) → k < n → is_final (verdict_of (contents log id ++ take k whole) Running) ≡ false
    kind-runs = fed-runs w is_final verdict_of is x.reader 0 (contents log id) (position id) its.at its.read whole

    pub kind-within : n ≤ length whole
    kind-within = fed-within w is_final verdict_of is x.reader 0 (contents log id) (position id) its.at its.read whole

    pub kind-whole : w.has_said (fed_piece w x.reader whole) ≡ false → n ≡ length whole
    kind-whole = fed-whole w is_final verdict_of is x.reader 0 (contents log id) (position id) its.at its.read whole

    pub kind-said : w.has_said (fed_piece w x.reader whole) ≡ is_final (verdict_of (contents log id ++ part) Running)
    kind-said = fed-said w is_final verdict_of is x.reader 0 (contents log id) (position id) its.at its.read whole

    -- a reader that goes on says nothing of the whole piece
    pub kind-all : w.has_said (fed_piece w x.reader whole) ≡ false → (k : ℕ) → k ≤ length whole → is_final (verdict_of (contents log id ++ take k whole) Running) ≡ false
    kind-all open_ k le = elim (cases_lt k n) [
      | inl lt ↦ kind-runs k lt
      | inr more ↦
          (λ i. is_final (verdict_of (contents log id ++ take (let e : k ≡ n = (let all = kind-whole open_ in omega (arith, all, le, more)) in e i) whole) Running)) ∙ (sym kind-said ∙ open_)
    ]

    pub kind-some : (byte : ℕ) (later : List ℕ) → whole ≡ byte ∷ later → 0 < n
    kind-some byte later e = fed-some w is_final verdict_of is x.reader 0 (contents log id) (position id) its.at its.read whole byte later e kind-open
