-- The steps of a scan, look by look, against what may still come.
use Rattle.std.proofs.Common.{◌+◌, ◌<◌, ◌≡◌, ◌≤◌, ◌∙◌, Bool, List, Option, ap, arith, false, get_or, length, refl, set, subst, sym, true, ℕ}
use Rattle.std.specs.List.{remove}
use Rattle.std.specs.Prelude.{is_some}
use Rattle.wt_kept.specs.Arriving.{with_transport}
use Rattle.wt_kept.specs.Classifying.{classify_now}
use Rattle.wt_kept.specs.Counting.{CountsRead, scan_left, scan_most}
use Rattle.wt_kept.specs.Kept.{ArrivingNow, WorkNow}
use Rattle.wt_kept.specs.Readers.{ReadOn, ReaderRules, Slot, read_on}
use Rattle.wt_transport.specs.State.{TransportState}
use Rattle.wt_peer_streams.proofs.Counts.{look-goes-on, look-over}
use Rattle.wt_peer_streams.proofs.LookLaws.{set-out, set-there}
use Rattle.wt_peer_streams.proofs.Losing.{Loses, read-loses}
use Rattle.wt_peer_streams.proofs.ReadCounts.{none-failed}
use Rattle.wt_peer_streams.specs.Scanning.{is_incomplete}
use Rattle.wt_proto.specs.declared.verdict.Verdict.{Verdict}
use Rattle.wt_proto.specs.declared.verdict.Verdict.TheVariants as verdicts
use Rattle.wt_wire.specs.declared.error.ErrorCode.{ErrorCode}

-- where there is no verdict, the outcome isn't final
not-final : (b : Bool) (v : Verdict) → (b ≡ true → is_incomplete v ≡ false) → verdicts.Incomplete ≡ v → b ≡ false
not-final false v decides e = refl
not-final true v decides e = let x = ap is_incomplete e in let y = decides refl in absurd (cc)

-- ---- a look

module _ {V : Type 0} (w : ReaderRules V Verdict) (index : ℕ) (a now : ArrivingNow V) (r : WorkNow) (view : a ≡ now) (x : Slot V) (is : x ≡ get_or a.reading index x) (within : index < length a.reading) (y : Slot V) (t : TransportState)
    (read : ◌≡◌ {A = ReadOn V} (record { reader = y.reader; transport = t }) (read_on w x.id x.reader r.transport)) (stream : y.id ≡ x.id) (steps later : ℕ)
    (counts : CountsRead w.has_said x.id r.transport (record { reader = y.reader; transport = t }) steps later) where
  loses : Loses r.transport t
  loses = subst (λ (o : ReadOn V). Loses r.transport o.transport) (sym read) (read-loses w x.id x.reader r.transport)

  -- it stays
  pub stays-counted : (w.has_said y.reader ≡ true → is_incomplete (w.outcome y.reader) ≡ false) → verdicts.Incomplete ≡ w.outcome y.reader → later + scan_left (record a { reading = set a.reading index y }) (with_transport t r) ≤ steps + scan_most now r.transport
  stays-counted decides none =
      subst (λ (b : ArrivingNow V). later + scan_left (record a { reading = set a.reading index y }) (with_transport t r) ≤ steps + scan_most b r.transport) view
      (look-goes-on w.has_said index a r x within is (record { reader = y.reader; transport = t }) loses steps later counts (not-final (w.has_said y.reader) (w.outcome y.reader) decides none) y stream)

  -- it goes on
  pub goes-counted : (out : Slot V) → out ≡ get_or (set a.reading index y) index out → (id : ℕ) (v : Verdict) → id ≡ out.id → (xs : List (Slot V)) → xs ≡ remove (set a.reading index y) index → (u : WorkNow) → u ≡ classify_now id v (with_transport t r)
      → later + scan_left (record a { reading = xs }) u ≤ steps + scan_most now r.transport
  goes-counted out out_is id v ids xs left u work =
      let same : out ≡ y = out_is ∙ set-there a.reading index y out within in
      let who : id ≡ x.id = ids ∙ (ap (λ (s : Slot V). s.id) same ∙ stream) in
      let left_is : xs ≡ remove a.reading index = left ∙ set-out a.reading index y in
      let work_is : u ≡ classify_now x.id v (with_transport t r) = work ∙ ap (λ k. classify_now k v (with_transport t r)) who in
      let counted = look-over w.has_said index a r x within is (record { reader = y.reader; transport = t }) loses steps later counts v in
      let new : scan_left (record a { reading = xs }) u ≡ scan_left (record a { reading = remove a.reading index }) (classify_now x.id v (with_transport t r)) = (λ i. scan_left (record a { reading = left_is i }) (work_is i)) in
      let old = ap (λ (b : ArrivingNow V). scan_most b r.transport) view in
      omega (arith, counted, new, old)

-- ---- one look after another

module _ {V : Type 0} (o : Option ErrorCode) (w : WorkNow) (fault : o ≡ w.dispatched.fault) (free : is_some o ≡ false) (a b : ArrivingNow V) (same : scan_most b w.transport ≡ scan_most a w.transport) (most now : ℕ) (before : now + scan_left a w ≤ most) where
  all-left : (c : ArrivingNow V) → scan_left c w ≡ scan_most c w.transport
  all-left c = none-failed w.dispatched.fault (scan_most c w.transport) (ap is_some (sym fault) ∙ free)

  pub look-counted : (later left : ℕ) → later + left ≤ now + scan_most b w.transport → later + left ≤ most
  look-counted later left after = let x = all-left a in omega (arith, x, same, before, after)

  pub end-counted : now + scan_left b w ≤ most
  end-counted = let x = all-left a in let y = all-left b in omega (arith, x, y, same, before)
