-- The scans of a moment, on all that a driver keeps.
use Rattle.std.proofs.Common.{◌∙◌, ◌≡◌, ◌≤◌, ◌+◌, ◌-◌, ◌++◌, ◌∷◌, Bool, List, None, Option, Some, [], ap, arith, false, length, map, refl, subst, suc, sym, take, true, zero, ℕ}
use Rattle.std.proofs.lemmas.List.{append-nil}
use Rattle.std.specs.Prelude.{◌&&◌, ◌^◌, ◌%◌, ◌==◌, ◌||◌, drop, if◌then◌else◌, is_none, min}
use Rattle.std.proofs.lemmas.Bool.{or_parts}
use Rattle.wt_follows.proofs.Counts.{SameCounts}
use Rattle.wt_follows.proofs.Ends.{AreEnds, control-same}
use Rattle.wt_follows.proofs.Fewer.{in-parts, with_ids}
use Rattle.wt_follows.proofs.HeaderRules.{bi-heads, bi-names, uni-heads, uni-names}
use Rattle.wt_follows.proofs.IsReader.{IsReader, bi_reader, uni_reader}
use Rattle.wt_follows.proofs.Logs.{same-id, with-append}
use Rattle.wt_follows.proofs.Offsets.{IsOffset, bi_offset, uni_offset, verdict_offset}
use Rattle.wt_follows.proofs.OwnRequest.{none-before, request-arriving, request-waits, response-moved}
use Rattle.wt_follows.proofs.ScanAmid.{SameRest, ScanLeads, scan-leads, slots-same}
use Rattle.wt_follows.proofs.ScanSlots.{ReadingSame, Scanned, first-read, reading-same, scan_slots}
use Rattle.wt_follows.specs.Rests.{SlotsRead}
use Rattle.wt_follows.specs.Roles.{is_arriving, is_in, waits}
use Rattle.wt_follows.specs.Tie.{Amid, ArrivingFollows, OwnFollows, SlotsAt, WorkAmid, goes, header_verdict}
use Rattle.wt_kept.specs.Arriving.{ScannedNow, arrived_count, arriving_after, fresh_slots, peer_kind, scan_now, scan_reading, scan_waiting, slots_of}
use Rattle.wt_kept.specs.Classifying.{classify_now}
use Rattle.wt_kept.specs.Kept.{ArrivingNow, DriverNow, WorkNow}
use Rattle.wt_kept.specs.Moment.{bis_step, unis_step, with_bis, with_unis}
use Rattle.wt_kept.specs.Readers.{BiReading, ReaderRules, Slot, UniReading, bi_rules, uni_rules}
use Rattle.wt_transport.proofs.Bools.{second}
use Rattle.wt_transport.proofs.Refining.{refined_side}
use Rattle.wt_transport.specs.State.{TransportState}
use Rattle.wt_transport.specs.Step.{count_now}
use Rattle.wt_proto.specs.Bi.{bi_verdict_of}
use Rattle.wt_proto.specs.Uni.{is_final, uni_verdict_of}
use Rattle.wt_proto.specs.declared.verdict.Verdict.{Verdict}
use Rattle.wt_proto.specs.declared.verdict.Verdict.TheVariants as verdicts
use Rattle.wt_turn.specs.Joined.{newest_first}
use Rattle.wt_turn.specs.Reports.{datagrams_of, end_of}
use Rattle.wt_turn.specs.Streams.{contents, local_bi}
use Rattle.wt_turn.specs.Unread.{ReadPosition}
use Rattle.wt_sessions.specs.Driver.{ControlSent, control_sent, transport_view}
use Rattle.wt_sessions.specs.DriverState.{DriverState}
use Rattle.wt_sessions.specs.Step.{scan_bis_now, scan_ids, scan_unis_now, unless_faulty}
use Rattle.wt_sessions.specs.Step as steps
use Rattle.wt_sessions.specs.StreamTable.{TransportView}
use Rattle.wt_turn.specs.Log.{Log, events_of, with_actions}
use Rattle.wt_turn.specs.declared.action.Action.{Action}
use Rattle.wt_wire.specs.Ids.{is_bidirectional}
use Rattle.wt_wire.specs.declared.error.ErrorCode.{ErrorCode}
use Rattle.wt_wire.specs.declared.side.Side.{Side}
use Rattle.wt_wire.specs.declared.side.StreamEnd.{StreamEnd}

no-fault : (o : Option ErrorCode) → is_none o ≡ true → o ≡ None
no-fault None e = refl
no-fault (Some code) e = absurd cc

-- ---- the streams of a kind that a step doesn't touch

module _ {V : Type 0} (rules : ReaderRules V Verdict) (a : ArrivingNow V) (t u : TransportState) (side_same : u.side ≡ t.side) (counts : count_now u (peer_kind t.side a.bidirectional) ≡ count_now t (peer_kind t.side a.bidirectional)) where
  pub arrived-same : arrived_count u a ≡ arrived_count t a
  arrived-same = (λ i. min (count_now u (peer_kind (side_same i) a.bidirectional)) (2 ^ 60)) ∙ ap (λ n. min n (2 ^ 60)) counts

  pub slots-alike : slots_of rules u a ≡ slots_of rules t a
  slots-alike = λ i. a.reading ++ fresh_slots rules (peer_kind (side_same i) a.bidirectional) a.next (arrived-same i - a.next)

  pub arriving-kept : (ids : List ℕ) (bytes : ℕ → List ℕ) (before after : ℕ → ReadPosition) → ((j : ℕ) → is_in j ids ≡ true → after j ≡ before j) → ArrivingFollows rules t a ids bytes before → ArrivingFollows rules u a ids bytes after
  arriving-kept ids bytes before after same h = record {
    ordered = subst (λ n. a.next ≤ n) (sym arrived-same) h.ordered;
    few = h.few;
    same_ids = ap (λ xs. map (λ (x : Slot V). x.id) xs) slots-alike ∙ h.same_ids;
    read = subst (λ xs. SlotsAt rules bytes after xs) (sym slots-alike)
        (slots-same rules bytes before after (slots_of rules t a) (λ j e. same j (ap (is_in j) (sym h.same_ids) ∙ e)) h.read);
  }

pub map-both : {V : Type 0} (xs ys : List (Slot V)) → map (λ (x : Slot V). x.id) (xs ++ ys) ≡ map (λ (x : Slot V). x.id) xs ++ map (λ (x : Slot V). x.id) ys
map-both [] ys = refl
map-both (x ∷ xs) ys = ap (λ ks. x.id ∷ ks) (map-both xs ys)

-- those that were read are, where their positions are the same
read-same : {V : Type 0} (bytes : ℕ → List ℕ) (before after : ℕ → ReadPosition) (xs : List (Slot V)) → ((j : ℕ) → is_in j (map (λ (x : Slot V). x.id) xs) ≡ true → after j ≡ before j) → SlotsRead before bytes xs → SlotsRead after bytes xs
read-same bytes before after [] same h = tt
read-same {V} bytes before after (x ∷ xs) same h =
    (same x.id (ap (λ b. b || is_in x.id (map (λ (y : Slot V). y.id) xs)) (same-id x.id)) ∙ h.0, read-same bytes before after xs (λ j e. same j (ap (λ b. (x.id == j) || b) e ∙ or-some (x.id == j))) h.1)
  where
    or-some : (b : Bool) → (b || true) ≡ true
    or-some true = refl
    or-some false = refl

pub reading-kept : {V : Type 0} (rules : ReaderRules V Verdict) (t : TransportState) (a : ArrivingNow V) (ids : List ℕ) (bytes : ℕ → List ℕ) (before after : ℕ → ReadPosition) → ArrivingFollows rules t a ids bytes before
    → ((j : ℕ) → is_in j ids ≡ true → after j ≡ before j) → SlotsRead before bytes a.reading → SlotsRead after bytes a.reading
reading-kept {V} rules t a ids bytes before after h same read =
    read-same bytes before after a.reading (λ j e. same j (ap (is_in j) (sym h.same_ids) ∙ (ap (is_in j) (map-both a.reading (fresh_slots rules (peer_kind t.side a.bidirectional) a.next (arrived_count t a - a.next))) ∙ (in-parts j (map (λ (x : Slot V). x.id) a.reading) _ ∙ ap (λ b. b || is_in j (map (λ (x : Slot V). x.id) (fresh_slots rules (peer_kind t.side a.bidirectional) a.next (arrived_count t a - a.next)))) e)))) read

-- ---- a kind that is scanned

module _ {V : Type 0} (rules : ReaderRules V Verdict) (verdict_of : List ℕ → StreamEnd → Verdict) (is : IsReader rules is_final verdict_of) (tells : IsOffset is_final verdict_of verdict_offset)
    (names : (bytes : List ℕ) (end : StreamEnd) (session offset : ℕ) → verdict_of bytes end ≡ verdicts.WebTransport session offset → (session % 4) ≡ 0) (side : Side) (log : Log)
    (b : Bool) (heads : (k : ℕ) → is_bidirectional k ≡ b → header_verdict log k ≡ verdict_of (contents log k) (end_of (events_of log) k)) where
  abbrev view : TransportView
  view = transport_view side log

  abbrev verdict : ℕ → Verdict
  verdict k = verdict_of (contents log k) (end_of (events_of log) k)

  pub record KindLeads (a : ArrivingNow V) (r : WorkNow) (s : DriverState) (ids : List ℕ) (sent : List Action) (position : ℕ → ReadPosition) (uncollected : List Action) (z : ScannedNow V) (y : steps.Scanned) : Type 0 where
    pub position_then : ℕ → ReadPosition
    pub out : List Action
    pub amid_then : WorkAmid side z.work log (with_ids b y.left y.state) (sent ++ out) position_then (newest_first out uncollected)
    pub actions : y.state.progress.actions ≡ s.progress.actions ++ out
    pub ends : AreEnds out
    pub arriving : goes y.state ≡ true → ArrivingFollows rules z.work.transport (arriving_after a z) y.left (contents log) position_then
    pub read : goes y.state ≡ true → SlotsRead position_then (contents log) z.reading
    pub first : goes y.state ≡ true → take 4 y.left ≡ map (λ (x : Slot V). x.id) z.reading
    pub few : length z.reading ≤ 4
    pub elsewhere : (j : ℕ) → is_in j ids ≡ false → waits s j ≡ false → position_then j ≡ position j
    pub same : SameRest s y.state
    pub stays : goes s ≡ false → goes y.state ≡ false
    pub counts : SameCounts r.transport z.work.transport

  module _ (a : ArrivingNow V) (r : WorkNow) (s : DriverState) (ids : List ℕ) (sent : List Action) (position : ℕ → ReadPosition) (uncollected : List Action) (amid : WorkAmid side r log (with_ids b ids s) sent position uncollected) (opened : s.is_open ≡ true) where
    abbrev y : steps.Scanned
    y = scan_ids view verdict 4 ids s

    abbrev z : ScannedNow V
    z = scan_now rules classify_now a r

    goes-scanned : goes s ≡ true → ArrivingFollows rules r.transport a ids (contents log) position → KindLeads a r s ids sent position uncollected z y
    goes-scanned going h =
        let xs : List (Slot V) = slots_of rules r.transport a in
        let kind : ℕ = peer_kind r.transport.side a.bidirectional in
        let count : ℕ = arrived_count r.transport a in
        let leads : ScanLeads rules verdict_of is tells names side log b heads s sent position uncollected [] xs r (scan_slots rules classify_now 4 xs r) (scan_ids view verdict 4 (map (λ (x : Slot V). x.id) xs) s) =
        scan-leads rules verdict_of is tells names side log b heads 4 xs [] r s sent position uncollected (subst (λ ks. WorkAmid side r log (with_ids b ks s) sent position uncollected) (sym h.same_ids) amid) opened (λ e. h.read) in
        by h (scan_slots rules classify_now 4 xs r) (reading-same rules classify_now kind 4 (count - a.next) a.next a.reading r) (first-read rules classify_now 4 xs r)
        (subst (λ ks. ScanLeads rules verdict_of is tells names side log b heads s sent position uncollected [] xs r (scan_slots rules classify_now 4 xs r) (scan_ids view verdict 4 ks s)) h.same_ids leads)
      where
        by : ArrivingFollows rules r.transport a ids (contents log) position → (t : Scanned V)
            → ReadingSame rules classify_now (peer_kind r.transport.side a.bidirectional) 4 (arrived_count r.transport a - a.next) a.next a.reading z t
            → (t.work.dispatched.fault ≡ None → take 4 (map (λ (x : Slot V). x.id) (t.read ++ t.rest)) ≡ map (λ (x : Slot V). x.id) t.read)
            → ScanLeads rules verdict_of is tells names side log b heads s sent position uncollected [] (slots_of rules r.transport a) r t y → KindLeads a r s ids sent position uncollected z y
        by h t same first leads =
            let work_same : z.work ≡ t.work = same.work in
            let amid_then : WorkAmid side z.work log (with_ids b y.left y.state) (sent ++ leads.out) leads.position_then (newest_first leads.out uncollected) =
            subst (λ (w : WorkNow). WorkAmid side w log (with_ids b y.left y.state) (sent ++ leads.out) leads.position_then (newest_first leads.out uncollected)) (sym work_same) leads.amid_then in
            let counts : SameCounts r.transport z.work.transport = (λ j. ap (λ (w : WorkNow). count_now w.transport j) work_same ∙ leads.counts j) in
            let side_same : z.work.transport.side ≡ r.transport.side =
            refined_side side z.work.transport _ _ _ amid_then.transport ∙ sym (refined_side side r.transport _ _ _ amid.transport) in
            let count_same : arrived_count z.work.transport (arriving_after a z) ≡ arrived_count r.transport a = arrived-same rules (arriving_after a z) r.transport z.work.transport side_same (counts (peer_kind r.transport.side a.bidirectional)) in
            let whole : a.next + (arrived_count r.transport a - a.next) ≡ arrived_count r.transport a = (let le = h.ordered in omega (arith, le)) in
            let slots_then : slots_of rules z.work.transport (arriving_after a z) ≡ t.read ++ t.rest =
            (λ i. z.reading ++ fresh_slots rules (peer_kind (side_same i) a.bidirectional) z.next ((count_same ∙ sym whole) i - z.next)) ∙ same.slots in
            let faultless : goes y.state ≡ true → t.work.dispatched.fault ≡ None =
            (λ e. leads.amid_then.keeps.fault ∙ no-fault y.state.progress.fault (second y.state.is_open (is_none y.state.progress.fault) e)) in
            record {
              position_then = leads.position_then;
              out = leads.out;
              amid_then = amid_then;
              actions = leads.actions;
              ends = leads.ends;
              arriving = λ e. record {
                ordered = (let le = same.upto in subst (λ n. z.next ≤ n) (sym count_same) (omega (arith, le, whole)));
                few = same.few h.few;
                same_ids = ap (λ xs. map (λ (x : Slot V). x.id) xs) slots_then ∙ leads.left;
                read = subst (λ xs. SlotsAt rules (contents log) leads.position_then xs) (sym slots_then) (leads.slots e);
              };
              read = λ e. subst (λ xs. SlotsRead leads.position_then (contents log) xs) (sym (same.reading h.few (faultless e))) leads.read;
              first = λ e. ap (take 4) (sym leads.left) ∙ (first (faultless e) ∙ ap (λ xs. map (λ (x : Slot V). x.id) xs) (sym (same.reading h.few (faultless e))));
              few = same.few h.few;
              elsewhere = λ j e f. leads.elsewhere j (ap (is_in j) h.same_ids ∙ e) f;
              same = leads.same;
              stays = λ e. absurd cc;
              counts = counts;
            }

    -- nothing is scanned after a fault
    fault-waits : (code : ErrorCode) (kind left next : ℕ) → r.dispatched.fault ≡ Some code → scan_waiting rules classify_now kind 4 left next r ≡ record { reading = []; next = next; work = r }
    fault-waits code kind zero next e = refl
    fault-waits code kind (suc left) next e = rw e refl

    fault-stops : (code : ErrorCode) (kind left next : ℕ) (xs : List (Slot V)) → r.dispatched.fault ≡ Some code → scan_reading rules classify_now kind 4 left next xs r ≡ record { reading = xs; next = next; work = r }
    fault-stops code kind left next [] e = fault-waits code kind left next e
    fault-stops code kind left next (x ∷ xs) e = rw e refl

    ids-stop : (code : ErrorCode) (ks : List ℕ) → s.progress.fault ≡ Some code → scan_ids view verdict 4 ks s ≡ record { left = ks; state = s }
    ids-stop code [] e = refl
    ids-stop code (k ∷ ks) e = rw e refl

    faulty-scanned : (code : ErrorCode) → s.progress.fault ≡ Some code → length a.reading ≤ 4 → KindLeads a r s ids sent position uncollected z y
    faulty-scanned code e few =
        subst (λ (q : ScannedNow V × steps.Scanned). KindLeads a r s ids sent position uncollected q.0 q.1)
        (λ i. (sym (fault-stops code (peer_kind r.transport.side a.bidirectional) (arrived_count r.transport a - a.next) a.next a.reading (amid.keeps.fault ∙ e)) i, sym (ids-stop code ids e) i))
        (record {
          position_then = position;
          out = [];
          amid_then = subst (λ (ys : List Action). WorkAmid side r log (with_ids b ids s) ys position uncollected) (sym (append-nil sent)) amid;
          actions = sym (append-nil s.progress.actions);
          ends = tt;
          arriving = λ f. absurd (not-going f);
          read = λ f. absurd (not-going f);
          first = λ f. absurd (not-going f);
          few = few;
          elsewhere = λ j f g. refl;
          same = record { unis = refl; bis = refl; is_open = refl; datagrams = refl; established = λ m. refl };
          stays = λ f. f;
          counts = λ kind. refl;
        })
      where
        not-going : goes s ≡ true → ⊥
        not-going f = (let none = second s.is_open (is_none s.progress.fault) f in let faulty = ap is_none e in cc)

    -- by whether a fault came before
    pub kind-leads : (goes s ≡ true → ArrivingFollows rules r.transport a ids (contents log) position) → length a.reading ≤ 4 → KindLeads a r s ids sent position uncollected z y
    kind-leads h few = by s.progress.fault refl
      where
        by : (o : Option ErrorCode) → s.progress.fault ≡ o → KindLeads a r s ids sent position uncollected z y
        by None e = let going : goes s ≡ true = (λ i. opened i && is_none (e i)) in goes-scanned going (h going)
        by (Some code) e = faulty-scanned code e few

-- ---- on all that the driver keeps

-- the first streams of a kind that have no verdict are those that are read
abbrev pub FirstUnis : DriverState → DriverNow → Type 0
FirstUnis s d = take 4 s.unis ≡ map (λ (x : Slot UniReading). x.id) d.unis.reading

abbrev pub FirstBis : DriverState → DriverNow → Type 0
FirstBis s d = take 4 s.bis ≡ map (λ (x : Slot BiReading). x.id) d.bis.reading

-- a step of a driver and of a state that scans the streams of a kind, at which this goes out: those are read then, and the others as before
pub record StepLeads (side : Side) (log : Log) (d : DriverNow) (s : DriverState) (sent : List Action) (position : ℕ → ReadPosition) (uncollected : List Action) (e : DriverNow) (z : DriverState) (bidirectional : Bool) : Type 0 where
  pub position_then : ℕ → ReadPosition
  pub out : List Action
  pub amid_then : Amid side e log z (sent ++ out) position_then (newest_first out uncollected)
  pub actions : z.progress.actions ≡ s.progress.actions ++ out
  pub ends : AreEnds out
  pub back : goes z ≡ true → goes s ≡ true
  pub read_unis : goes z ≡ true → (bidirectional ≡ true → SlotsRead position (contents log) d.unis.reading) → SlotsRead position_then (contents log) e.unis.reading
  pub read_bis : goes z ≡ true → (bidirectional ≡ false → SlotsRead position (contents log) d.bis.reading) → SlotsRead position_then (contents log) e.bis.reading
  pub first_unis : goes z ≡ true → (bidirectional ≡ true → FirstUnis s d) → FirstUnis z e
  pub first_bis : goes z ≡ true → (bidirectional ≡ false → FirstBis s d) → FirstBis z e

module _ (side : Side) (log : Log) (d : DriverNow) (s : DriverState) (sent : List Action) (position : ℕ → ReadPosition) (uncollected : List Action) (amid : Amid side d log s sent position uncollected) (opened : s.is_open ≡ true) where
  own-then : (out : List Action) → AreEnds out → control_sent side (with_actions (sent ++ out) log) ≡ control_sent side (with_actions sent log)
  own-then out ends = ap (control_sent side) (with-append sent out log) ∙ control-same side out (with_actions sent log) ends

  side-of : (w : WorkNow) (z : DriverState) (after : List Action) (position_then : ℕ → ReadPosition) (left : List Action) → WorkAmid side w log z after position_then left → w.transport.side ≡ d.work.transport.side
  side-of w z after position_then left a = refined_side side w.transport (with_actions after log) position_then left a.transport ∙ sym (refined_side side d.work.transport (with_actions sent log) position uncollected amid.work.transport)

  -- a stream that arrives waits for nothing, and is of one kind
  arrives-uni : (j : ℕ) → is_in j s.unis ≡ true → (is_in j s.bis ≡ false) × (waits s j ≡ false)
  arrives-uni j e = (amid.work.roles.kinds j e, (amid.work.roles.arriving j (ap (λ b. b || is_in j s.bis) e)).waits)

  arrives-bi : (j : ℕ) → is_in j s.bis ≡ true → (is_in j s.unis ≡ false) × (waits s j ≡ false)
  arrives-bi j e = (by (is_in j s.unis) refl, (amid.work.roles.arriving j (ap (λ b. is_in j s.unis || b) e ∙ or-some (is_in j s.unis))).waits)
    where
      or-some : (b : Bool) → (b || true) ≡ true
      or-some true = refl
      or-some false = refl

      by : (b : Bool) → is_in j s.unis ≡ b → is_in j s.unis ≡ false
      by false f = f
      by true f = absurd (let g = amid.work.roles.kinds j f in cc)

  -- where it goes on after a step that leaves the fault if there was one, it went on before
  went : (z : DriverState) → (goes s ≡ false → goes z ≡ false) → goes z ≡ true → goes s ≡ true
  went z stays e = by (goes s) refl
    where
      by : (b : Bool) → goes s ≡ b → goes s ≡ true
      by true f = f
      by false f = absurd (let g = stays f in cc)

  request-apart : is_arriving s (local_bi side) ≡ false
  request-apart = request-arriving side s amid.work.there.peers

  -- ---- the unidirectional streams

  abbrev unis_left : steps.Scanned
  unis_left = scan_ids (transport_view side log) (λ k. uni_verdict_of (contents log k) (end_of (events_of log) k)) 4 s.unis s

  unis-kind : KindLeads uni_rules uni_verdict_of uni_reader uni_offset uni-names side log false (uni-heads log) d.unis d.work s s.unis sent position uncollected (scan_now uni_rules classify_now d.unis d.work) unis_left
  unis-kind = kind-leads uni_rules uni_verdict_of uni_reader uni_offset uni-names side log false (uni-heads log) d.unis d.work s s.unis sent position uncollected amid.work opened amid.unis amid.few.0

  unis-are : (transport_view side log).ready ≡ true → scan_unis_now (transport_view side log) s ≡ with_ids false unis_left.left unis_left.state
  unis-are ready = ap (λ (b : Bool). if b then record unis_left.state { unis = unis_left.left } else s) ready

  pub unis-lead : (transport_view side log).ready ≡ true → StepLeads side log d s sent position uncollected (unis_step d) (scan_unis_now (transport_view side log) s) false
  unfolding unis_step
  unis-lead ready =
      subst (λ (z : DriverState). StepLeads side log d s sent position uncollected (unis_step d) z false) (sym (unis-are ready)) (by unis-kind)
    where
      by : KindLeads uni_rules uni_verdict_of uni_reader uni_offset uni-names side log false (uni-heads log) d.unis d.work s s.unis sent position uncollected (scan_now uni_rules classify_now d.unis d.work) unis_left
          → StepLeads side log d s sent position uncollected (with_unis (scan_now uni_rules classify_now d.unis d.work) d) (with_ids false unis_left.left unis_left.state) false
      by l = record {
        position_then = l.position_then;
        out = l.out;
        amid_then = record {
          work = l.amid_then;
          kinds = amid.kinds;
          few = (l.few, amid.few.1);
          own = subst (λ (c : ControlSent). OwnFollows side d.own_control c) (sym (own-then l.out l.ends)) amid.own;
          allowed = λ e. amid.allowed (sym (ap (λ (c : ControlSent). c.opened) (own-then l.out l.ends)) ∙ e);
          unis = l.arriving;
          bis = λ e.
              subst (λ ids. ArrivingFollows bi_rules (scan_now uni_rules classify_now d.unis d.work).work.transport d.bis ids (contents log) l.position_then) (sym l.same.bis)
              (arriving-kept bi_rules d.bis d.work.transport (scan_now uni_rules classify_now d.unis d.work).work.transport (side-of _ _ _ _ _ l.amid_then) (l.counts (peer_kind d.work.transport.side d.bis.bidirectional)) s.bis (contents log) position l.position_then
              (λ j f. l.elsewhere j (arrives-bi j f).0 (arrives-bi j f).1) (amid.bis (went unis_left.state l.stays e)));
          datagrams = λ e. amid.datagrams (went unis_left.state l.stays e) ∙ ap (λ n. drop n (datagrams_of (events_of log))) (sym l.same.datagrams);
          response = λ c n. response-moved side d.response (contents log) (events_of log) position l.position_then
              (l.elsewhere (local_bi side) (or_parts (is_in (local_bi side) s.unis) (is_in (local_bi side) s.bis) request-apart).0 (request-waits side s amid.work.there.peers))
              (amid.response c (none-before s unis_left.state l.same.established n));
        };
        actions = l.actions;
        ends = l.ends;
        back = went unis_left.state l.stays;
        read_unis = λ e f. l.read e;
        read_bis = λ e f. reading-kept bi_rules d.work.transport d.bis s.bis (contents log) position l.position_then (amid.bis (went unis_left.state l.stays e)) (λ j g. l.elsewhere j (arrives-bi j g).0 (arrives-bi j g).1) (f refl);
        first_unis = λ e f. l.first e;
        first_bis = λ e f. ap (take 4) l.same.bis ∙ f refl;
      }

  -- ---- the bidirectional streams

  abbrev bis_left : steps.Scanned
  bis_left = scan_ids (transport_view side log) (λ k. bi_verdict_of (contents log k) (end_of (events_of log) k)) 4 s.bis s

  bis-kind : KindLeads bi_rules bi_verdict_of bi_reader bi_offset bi-names side log true (bi-heads log) d.bis d.work s s.bis sent position uncollected (scan_now bi_rules classify_now d.bis d.work) bis_left
  bis-kind = kind-leads bi_rules bi_verdict_of bi_reader bi_offset bi-names side log true (bi-heads log) d.bis d.work s s.bis sent position uncollected amid.work opened amid.bis amid.few.1

  bis-are : (transport_view side log).ready ≡ true → scan_bis_now (transport_view side log) s ≡ with_ids true bis_left.left bis_left.state
  bis-are ready = ap (λ (b : Bool). if b then record bis_left.state { bis = bis_left.left } else s) ready

  pub bis-lead : (transport_view side log).ready ≡ true → StepLeads side log d s sent position uncollected (bis_step d) (scan_bis_now (transport_view side log) s) true
  unfolding bis_step
  bis-lead ready =
      subst (λ (z : DriverState). StepLeads side log d s sent position uncollected (bis_step d) z true) (sym (bis-are ready)) (by bis-kind)
    where
      by : KindLeads bi_rules bi_verdict_of bi_reader bi_offset bi-names side log true (bi-heads log) d.bis d.work s s.bis sent position uncollected (scan_now bi_rules classify_now d.bis d.work) bis_left
          → StepLeads side log d s sent position uncollected (with_bis (scan_now bi_rules classify_now d.bis d.work) d) (with_ids true bis_left.left bis_left.state) true
      by l = record {
        position_then = l.position_then;
        out = l.out;
        amid_then = record {
          work = l.amid_then;
          kinds = amid.kinds;
          few = (amid.few.0, l.few);
          own = subst (λ (c : ControlSent). OwnFollows side d.own_control c) (sym (own-then l.out l.ends)) amid.own;
          allowed = λ e. amid.allowed (sym (ap (λ (c : ControlSent). c.opened) (own-then l.out l.ends)) ∙ e);
          unis = λ e.
              subst (λ ids. ArrivingFollows uni_rules (scan_now bi_rules classify_now d.bis d.work).work.transport d.unis ids (contents log) l.position_then) (sym l.same.unis)
              (arriving-kept uni_rules d.unis d.work.transport (scan_now bi_rules classify_now d.bis d.work).work.transport (side-of _ _ _ _ _ l.amid_then) (l.counts (peer_kind d.work.transport.side d.unis.bidirectional)) s.unis (contents log) position l.position_then
              (λ j f. l.elsewhere j (arrives-uni j f).0 (arrives-uni j f).1) (amid.unis (went bis_left.state l.stays e)));
          bis = l.arriving;
          datagrams = λ e. amid.datagrams (went bis_left.state l.stays e) ∙ ap (λ n. drop n (datagrams_of (events_of log))) (sym l.same.datagrams);
          response = λ c n. response-moved side d.response (contents log) (events_of log) position l.position_then
              (l.elsewhere (local_bi side) (or_parts (is_in (local_bi side) s.unis) (is_in (local_bi side) s.bis) request-apart).1 (request-waits side s amid.work.there.peers))
              (amid.response c (none-before s bis_left.state l.same.established n));
        };
        actions = l.actions;
        ends = l.ends;
        back = went bis_left.state l.stays;
        read_unis = λ e f. reading-kept uni_rules d.work.transport d.unis s.unis (contents log) position l.position_then (amid.unis (went bis_left.state l.stays e)) (λ j g. l.elsewhere j (arrives-uni j g).0 (arrives-uni j g).1) (f refl);
        read_bis = λ e f. l.read e;
        first_unis = λ e f. ap (take 4) l.same.unis ∙ f refl;
        first_bis = λ e f. l.first e;
      }
