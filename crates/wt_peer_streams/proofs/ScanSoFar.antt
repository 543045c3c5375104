-- How far a scan is: what is left to do, and what stays.
use Rattle.std.proofs.Common.{◌*◌, ◌+◌, ◌-◌, ◌<◌, ◌≡◌, ◌≤◌, ◌∙◌, Bool, None, Option, Some, add-one, ap, arith, false, inl, inr, length, refl, subst, suc, sym, take, true, ℕ}
use Rattle.std.proofs.Math.Nat.{min-eq_left, min-eq_right, min-le_left, min-le_right}
use Rattle.std.proofs.lemmas.Bool.{cases_lt}
use Rattle.std.proofs.lemmas.Bool.Decides.{nat_tests}
use Rattle.std.proofs.lemmas.List.{length-set}
use Rattle.std.specs.Prelude.{◌&&◌, ◌^◌, if◌then◌else◌, is_some, min, nat_lt}
use Rattle.wt_kept.specs.Arriving.{ScannedNow, arrived_count, peer_kind, scan_now, with_transport}
use Rattle.wt_kept.specs.Classifying.{classify_now}
use Rattle.wt_kept.specs.Kept.{ArrivingNow, WorkNow}
use Rattle.wt_kept.specs.Readers.{ReadOn, ReaderRules, Slot, consumed, read_on, reads_on_if, taken_by}
use Rattle.wt_transport.specs.Accepting.{stream_after}
use Rattle.wt_transport.specs.Kind as kinds
use Rattle.wt_transport.specs.Running.{peer_stream_now}
use Rattle.wt_transport.specs.State.{TransportState}
use Rattle.wt_transport.specs.Step.{count_now, unread_now}
use Rattle.wt_peer_streams.proofs.LookLaws.{there}
use Rattle.wt_peer_streams.proofs.ScanLoop.{after_look, done-rest, in_front, looked-rest, over-rest, pushed-length, scan_rest, taken-rest}
use Rattle.wt_peer_streams.proofs.Stays.{counts-read, counts-stay, side-read, side-stays}
use Rattle.wt_peer_streams.proofs.Walking.{out-length}
use Rattle.wt_peer_streams.specs.Scanning.{Looked, TakenIn, is_incomplete, looked_at, looked_by, slot_at, taken_in, takes_next_now}
use Rattle.wt_proto.specs.declared.verdict.Verdict.{Verdict}
use Rattle.wt_wire.specs.declared.error.ErrorCode.{ErrorCode}
use Rattle.wt_wire.specs.declared.side.Side.{Side}

-- reading on takes so many bytes
reads-some : {V : Type 0} (w : ReaderRules V Verdict) (b : Bool) (id : ℕ) (r : V) (t : TransportState)
    → (reads_on_if w.has_said w.fed w.ended b id r t).transport ≡ consumed t id (if b then 0 else taken_by w.has_said w.fed r (unread_now t id))
reads-some w true id r t = refl
reads-some w false id r t = refl

pub kind-same : (b : Bool) (s : Side) → kinds.peer_kind b s ≡ peer_kind s b
kind-same true s = refl
kind-same false s = refl

below-min : (n total top : ℕ) → n < top → n < total → n < min total top
below-min n total top l m = elim (cases_lt total top) [
  | inl lt ↦ (let e : min total top ≡ total = min-eq_left (omega arith) in omega arith)
  | inr le ↦ (let e : min total top ≡ top = min-eq_right le in omega arith)
]

pub below-both : (n total top : ℕ) → (nat_lt n top && nat_lt n total) ≡ true → n < min total top
below-both n total top e = either (nat_lt n top) refl (nat_lt n total) refl e
  where
    either : (b : Bool) → nat_lt n top ≡ b → (c : Bool) → nat_lt n total ≡ c → (b && c) ≡ true → n < min total top
    either true f true g h = below-min n total top (grind (arith, nat_tests)) (grind (arith, nat_tests))
    either true f false g h = absurd (cc)
    either false f c g h = absurd (cc)

none-below : (n total top : ℕ) → (nat_lt n top && nat_lt n total) ≡ false → min total top - n ≡ 0
none-below n total top e = either (nat_lt n top) refl (nat_lt n total) refl e
  where
    either : (b : Bool) → nat_lt n top ≡ b → (c : Bool) → nat_lt n total ≡ c → (b && c) ≡ false → min total top - n ≡ 0
    either true f true g h = absurd (cc)
    either true f false g h =
        let le : total ≤ n = grind (arith, nat_tests) in
        let small = min-le_left total top in
        omega arith
    either false f c g h =
        let le : top ≤ n = grind (arith, nat_tests) in
        let small = min-le_right total top in
        omega arith

module _ {V : Type 0} (w : ReaderRules V Verdict) (first : ArrivingNow V) (start : WorkNow) where
  -- the kind, and how many of it came
  abbrev pub kind_of : ℕ
  kind_of = peer_kind start.transport.side first.bidirectional

  abbrev pub count_of : ℕ
  count_of = arrived_count start.transport first

  pub record SoFar (index : ℕ) (a : ArrivingNow V) (r : WorkNow) : Type 0 where
    pub rest : scan_now w classify_now first start ≡ in_front w kind_of count_of (take index a.reading) (scan_rest w kind_of count_of index a r)
    pub kind : a.bidirectional ≡ first.bidirectional
    pub side : r.transport.side ≡ start.transport.side
    pub counts : count_now r.transport kind_of ≡ count_now start.transport kind_of
    pub within : index ≤ length a.reading

  pub begins : SoFar 0 first start
  begins = record { rest = refl; kind = refl; side = refl; counts = refl; within = omega arith }

  pub stops : (index : ℕ) (a : ArrivingNow V) (r : WorkNow) → SoFar index a r → (code : ErrorCode) → r.dispatched.fault ≡ Some code → ◌≡◌ {A = ScannedNow V} (record { reading = a.reading; next = a.next; work = r }) (scan_now w classify_now first start)
  stops index a r s code fault = over-rest w kind_of count_of (scan_now w classify_now first start) index a r s.rest code fault

  -- ---- a look

  pub record Looks (index : ℕ) (a : ArrivingNow V) (r : WorkNow) (index_then : ℕ) (a_then : ArrivingNow V) (r_then : WorkNow) : Type 0 where
    pub so_far : SoFar index_then a_then r_then
    pub next : a_then.next ≡ a.next
    pub less : length a_then.reading - index_then < length a.reading - index

  -- what stays where the slot at the index stays or goes
  module _ (index : ℕ) (a : ArrivingNow V) (r : WorkNow) (s : SoFar index a r) (l : index < length a.reading) (id n : ℕ) (x : Slot V) (v : Verdict) (t : TransportState) (read : t ≡ consumed r.transport id n) where
    looks-by : (b : Bool) → scan_now w classify_now first start ≡ after_look w kind_of count_of index a.reading (looked_by b index x v a (with_transport t r))
        → Looks index a r (if (looked_by b index x v a (with_transport t r)).stays then suc index else index) (looked_by b index x v a (with_transport t r)).arriving (looked_by b index x v a (with_transport t r)).work
    looks-by true rest =
        let same = length-set a.reading index x in
        record {
          so_far = record {
            rest = rest;
            kind = s.kind;
            side = ap (λ (u : TransportState). u.side) read ∙ (side-read id n r.transport ∙ s.side);
            counts = ap (λ (u : TransportState). count_now u kind_of) read ∙ (counts-read kind_of id n r.transport ∙ s.counts);
            within = omega arith;
          };
          next = refl;
          less = omega arith;
        }
    looks-by false rest =
        let same = out-length a.reading index l in
        record {
          so_far = record {
            rest = rest;
            kind = s.kind;
            side = ap (λ (u : TransportState). (classify_now x.id v (with_transport u r)).transport.side) read ∙ (side-stays x.id id n v r.transport r ∙ s.side);
            counts = ap (λ (u : TransportState). count_now (classify_now x.id v (with_transport u r)).transport kind_of) read ∙ (counts-stay kind_of x.id id n v r.transport r ∙ s.counts);
            within = omega arith;
          };
          next = refl;
          less = omega arith;
        }

  looks : (index : ℕ) (a : ArrivingNow V) (r : WorkNow) → SoFar index a r → index < length a.reading → length a.reading ≤ 4 → r.dispatched.fault ≡ None → (k : Looked V) → k ≡ looked_at w index a r
      → Looks index a r (if k.stays then suc index else index) k.arriving k.work
  looks index a r s l few none k e =
      let x : Slot V = slot_at w.start a.reading index in
      let y : ReadOn V = read_on w x.id x.reader r.transport in
      let rest = looked-rest w kind_of count_of (scan_now w classify_now first start) index x a r s.rest l few none (there a.reading index (record { id = 0; reader = w.start }) x l) in
      subst (λ (q : Looked V). Looks index a r (if q.stays then suc index else index) q.arriving q.work) (sym e)
      (looks-by index a r s l x.id (if w.has_said x.reader then 0 else taken_by w.has_said w.fed x.reader (unread_now r.transport x.id)) (record { id = x.id; reader = y.reader }) (w.outcome y.reader) y.transport
      (reads-some w (w.has_said x.reader) x.id x.reader r.transport) (is_incomplete (w.outcome y.reader)) rest)

  pub looks-stays : (index : ℕ) (a : ArrivingNow V) (r : WorkNow) → SoFar index a r → index < length a.reading → length a.reading ≤ 4 → r.dispatched.fault ≡ None → (a_then : ArrivingNow V) (r_then : WorkNow)
      → ◌≡◌ {A = Looked V} (record { stays = true; arriving = a_then; work = r_then }) (looked_at w index a r) → Looks index a r (index + 1) a_then r_then
  looks-stays index a r s l few none a_then r_then e = subst (λ n. Looks index a r n a_then r_then) (sym (add-one index)) (looks index a r s l few none (record { stays = true; arriving = a_then; work = r_then }) e)

  pub looks-goes : (index : ℕ) (a : ArrivingNow V) (r : WorkNow) → SoFar index a r → index < length a.reading → length a.reading ≤ 4 → r.dispatched.fault ≡ None → (a_then : ArrivingNow V) (r_then : WorkNow)
      → ◌≡◌ {A = Looked V} (record { stays = false; arriving = a_then; work = r_then }) (looked_at w index a r) → Looks index a r index a_then r_then
  looks-goes index a r s l few none a_then r_then e = looks index a r s l few none (record { stays = false; arriving = a_then; work = r_then }) e

  -- ---- the next one that waits

  pub record Takes (index : ℕ) (a : ArrivingNow V) (r : WorkNow) (a_then : ArrivingNow V) : Type 0 where
    pub so_far : SoFar index a_then r
    pub there_is : index < length a_then.reading
    pub next : a_then.next ≡ suc a.next
    pub more : a.next < count_of
    pub few : length a_then.reading ≤ 4
    pub longer : length a_then.reading ≡ length a.reading + 1

  pub record Ends (r : WorkNow) (a_then : ArrivingNow V) : Type 0 where
    pub over : ◌≡◌ {A = ScannedNow V} (record { reading = a_then.reading; next = a_then.next; work = r }) (scan_now w classify_now first start)
    pub kind : a_then.bidirectional ≡ first.bidirectional

  abbrev OnTaken : ℕ → ArrivingNow V → WorkNow → Bool → ArrivingNow V → Type 0
  OnTaken index a r true b = Takes index a r b
  OnTaken index a r false b = Ends r b

  module _ (index : ℕ) (a : ArrivingNow V) (r : WorkNow) (s : SoFar index a r) (at : length a.reading ≤ index) (none : r.dispatched.fault ≡ None) where
    by-count : length a.reading < 4 → (d : Bool) → (nat_lt a.next (2 ^ 60) && nat_lt a.next (count_now start.transport kind_of)) ≡ d
        → OnTaken index a r (taken_in w.start (if d then Some (4 * a.next + kind_of) else None) a).takes (taken_in w.start (if d then Some (4 * a.next + kind_of) else None) a).arriving
    by-count room true e =
        let within = s.within in
        let long = pushed-length a.reading (record { id = 4 * a.next + kind_of; reader = w.start }) in
        let there_are : a.next < count_of = below-both a.next (count_now start.transport kind_of) (2 ^ 60) e in
        record {
          so_far = record {
            rest = taken-rest w kind_of count_of (scan_now w classify_now first start) index (4 * a.next + kind_of) a r s.rest (omega arith) room none there_are refl;
            kind = s.kind;
            side = s.side;
            counts = s.counts;
            within = omega arith;
          };
          there_is = omega arith;
          next = refl;
          more = there_are;
          few = omega arith;
          longer = long;
        }
    by-count room false e = record {
      over = done-rest w kind_of count_of (scan_now w classify_now first start) index a r s.rest at (inr (none-below a.next (count_now start.transport kind_of) (2 ^ 60) e));
      kind = s.kind;
    }

    by-room : (c : Bool) → nat_lt (length a.reading) 4 ≡ c → (o : Option ℕ) → o ≡ stream_after (count_now start.transport kind_of) kind_of a.next
        → OnTaken index a r (if c then taken_in w.start o a else record { takes = false; arriving = a }).takes (if c then taken_in w.start o a else record { takes = false; arriving = a }).arriving
    by-room true e o is =
        subst (λ p. OnTaken index a r (taken_in w.start p a).takes (taken_in w.start p a).arriving) (sym is)
        (by-count (grind (arith, nat_tests)) (nat_lt a.next (2 ^ 60) && nat_lt a.next (count_now start.transport kind_of)) refl)
    by-room false e o is =
        let within = s.within in
        let full : 4 ≤ length a.reading = grind (arith, nat_tests) in
        record {
          over = done-rest w kind_of count_of (scan_now w classify_now first start) index a r s.rest at (inl (omega arith));
          kind = s.kind;
        }

    takes : (q : TakenIn V) → q ≡ takes_next_now w.start r.transport a → OnTaken index a r q.takes q.arriving
    takes q e =
        let same : kinds.peer_kind a.bidirectional r.transport.side ≡ kind_of = kind-same a.bidirectional r.transport.side ∙ (λ i. peer_kind (s.side i) (s.kind i)) in
        let is : peer_stream_now r.transport a.bidirectional a.next ≡ stream_after (count_now start.transport kind_of) kind_of a.next =
        (λ i. stream_after (count_now r.transport (same i)) (same i) a.next) ∙ ap (λ n. stream_after n kind_of a.next) s.counts in
        subst (λ (p : TakenIn V). OnTaken index a r p.takes p.arriving) (sym e) (by-room (nat_lt (length a.reading) 4) refl (peer_stream_now r.transport a.bidirectional a.next) is)

    pub takes-one : (b : ArrivingNow V) → ◌≡◌ {A = TakenIn V} (record { takes = true; arriving = b }) (takes_next_now w.start r.transport a) → Takes index a r b
    takes-one b e = takes (record { takes = true; arriving = b }) e

    pub takes-none : (b : ArrivingNow V) → ◌≡◌ {A = TakenIn V} (record { takes = false; arriving = b }) (takes_next_now w.start r.transport a) → Ends r b
    takes-none b e = takes (record { takes = false; arriving = b }) e

  -- ---- a turn of the loop, which looks where a stream is there or was taken

  pub record Ready (index : ℕ) (a : ArrivingNow V) (r : WorkNow) (b : ArrivingNow V) : Type 0 where
    pub so_far : SoFar index b r
    pub there_is : index < length b.reading
    pub few : length b.reading ≤ 4
    pub measure : 2 * (count_of - b.next) + (length b.reading - index) ≤ 2 * (count_of - a.next) + (length a.reading - index)

  less-taken : (count next next_then len len_then index : ℕ) → next_then ≡ suc next → next < count → len_then ≡ len + 1 → len ≤ index → index ≤ len
      → 2 * (count - next_then) + (len_then - index) ≤ 2 * (count - next) + (len - index)
  less-taken count next next_then len len_then index e l m le ge = omega arith

  less-looked : (count next next_so next_then x y z : ℕ) → 2 * (count - next_so) + y ≤ 2 * (count - next) + z → next_then ≡ next_so → x < y → 2 * (count - next_then) + x < 2 * (count - next) + z
  less-looked count next next_so next_then x y z le e l = omega arith

  no-fault : (o : Option ErrorCode) → is_some o ≡ false → (p : Option ErrorCode) → o ≡ p → p ≡ None
  no-fault None e p same = sym same
  no-fault (Some code) e p same = absurd (cc)

  not-below : (n m : ℕ) → n < m → nat_lt n m ≡ false → ⊥
  not-below n m l e = let le : m ≤ n = grind (arith, nat_tests) in absurd (omega arith)

  module _ (index : ℕ) (a : ArrivingNow V) (r : WorkNow) (s : SoFar index a r) (o : Option ErrorCode) (fault : o ≡ r.dispatched.fault) where
    pub stops-at : is_some o ≡ true → ◌≡◌ {A = ScannedNow V} (record { reading = a.reading; next = a.next; work = r }) (scan_now w classify_now first start)
    stops-at some = by o some fault
      where
        by : (p : Option ErrorCode) → is_some p ≡ true → p ≡ r.dispatched.fault → ◌≡◌ {A = ScannedNow V} (record { reading = a.reading; next = a.next; work = r }) (scan_now w classify_now first start)
        by None e same = absurd (cc)
        by (Some code) e same = stops index a r s code (sym same)

    module _ (count : ℕ) (long : count ≡ length a.reading) (few : count ≤ 4) (b : ArrivingNow V) where
      pub ready-there : index < count → b ≡ a → Ready index a r b
      ready-there l same = subst (λ d. Ready index a r d) (sym same) (record { so_far = s; there_is = omega arith; few = omega arith; measure = omega arith })

      module _ (free : is_some o ≡ false) (at : count ≤ index) (q value : Bool) (given : value ≡ q) (d : ArrivingNow V) (taken : ◌≡◌ {A = TakenIn V} (record { takes = q; arriving = d }) (takes_next_now w.start r.transport a)) (same : b ≡ d) where
        pub ready-taken : value ≡ true → Ready index a r b
        ready-taken going =
            let k : Takes index a r d = takes-one index a r s (omega arith) (no-fault o free r.dispatched.fault fault) d (ap (λ (z : Bool). record { takes = z; arriving = d }) (sym going ∙ given) ∙ taken) in
            subst (λ z. Ready index a r z) (sym same)
            (record { so_far = k.so_far; there_is = k.there_is; few = k.few; measure = less-taken count_of a.next d.next (length a.reading) (length d.reading) index k.next k.more k.longer (omega arith) s.within })

        pub ends-taken : value ≡ false → Ends r b
        ends-taken over =
            subst (λ z. Ends r z) (sym same) (takes-none index a r s (omega arith) (no-fault o free r.dispatched.fault fault) d (ap (λ (z : Bool). record { takes = z; arriving = d }) (sym over ∙ given) ∙ taken))

    pub never-ends : (count : ℕ) → index < count → (b : ArrivingNow V) (value : Bool) → value ≡ nat_lt index count → value ≡ false → Ends r b
    never-ends count l b value given over = absurd (not-below index count l (sym given ∙ over))

    module _ (free : is_some o ≡ false) (b : ArrivingNow V) (y : Ready index a r b) (stays : Bool) (a_then : ArrivingNow V) (r_then : WorkNow)
        (look : ◌≡◌ {A = Looked V} (record { stays = stays; arriving = a_then; work = r_then }) (looked_at w index b r)) where
      pub then-stays : stays ≡ true → Looks index b r (index + 1) a_then r_then
      then-stays e = looks-stays index b r y.so_far y.there_is y.few (no-fault o free r.dispatched.fault fault) a_then r_then (ap (λ (z : Bool). record { stays = z; arriving = a_then; work = r_then }) (sym e) ∙ look)

      pub then-goes : stays ≡ false → Looks index b r index a_then r_then
      then-goes e = looks-goes index b r y.so_far y.there_is y.few (no-fault o free r.dispatched.fault fault) a_then r_then (ap (λ (z : Bool). record { stays = z; arriving = a_then; work = r_then }) (sym e) ∙ look)

    pub smaller : (b : ArrivingNow V) → Ready index a r b → (index_then : ℕ) (a_then : ArrivingNow V) (r_then : WorkNow) → Looks index b r index_then a_then r_then
        → 2 * (count_of - a_then.next) + (length a_then.reading - index_then) < 2 * (count_of - a.next) + (length a.reading - index)
    smaller b y index_then a_then r_then k = less-looked count_of a.next b.next a_then.next (length a_then.reading - index_then) (length b.reading - index) (length a.reading - index) y.measure k.next k.less
