-- The scan of a kind on what is kept is that on the state: the same streams stay, each with its reader, and the others go where the table
-- says.
use Rattle.std.proofs.Common.{◌∙◌, ◌≡◌, ◌≤◌, ◌++◌, ◌%◌, ◌∷◌, Bool, List, None, Option, Some, [], add-zero, ap, append_assoc, false, length, map, refl, subst, suc, sym, true, zero, ℕ}
use Rattle.std.proofs.lemmas.Bool.{eqb-true, or_parts}
use Rattle.std.proofs.lemmas.List.{append-nil}
use Rattle.std.specs.Prelude.{◌&&◌, ◌==◌, ◌||◌, if◌then◌else◌, is_none}
use Rattle.wt_follows.proofs.Classify.{Leads, Shows, classified}
use Rattle.wt_follows.proofs.Counts.{SameCounts, classify-counts, consumed-counts}
use Rattle.wt_follows.proofs.Ends.{AreEnds, consequence-ends, ends-both}
use Rattle.wt_follows.proofs.Fewer.{all-distinct, fewer, in-behind, is-new, its-arriving, its-kind, listed, not-behind, with_ids}
use Rattle.wt_follows.proofs.Gains.{IsNew}
use Rattle.wt_follows.proofs.IsReader.{IsReader}
use Rattle.wt_follows.proofs.Logs.{events-kept, newest-append, same-id}
use Rattle.wt_follows.proofs.Moved.{Elsewhere, moved}
use Rattle.wt_follows.proofs.Offsets.{IsOffset, verdict_offset}
use Rattle.wt_follows.proofs.ReaderLaws.{at-runs, at-says, at-tells, reader_after, reads-on, taken-within}
use Rattle.wt_follows.proofs.ScanSlots.{Scanned, scan_slots, slot_read, slot_stays, unless_fault}
use Rattle.wt_follows.specs.Rests.{SlotsRead}
use Rattle.wt_follows.specs.Roles.{AreDistinct, IsApart, is_in, waits}
use Rattle.wt_follows.specs.Tie.{ReaderAt, SlotsAt, WorkAmid, goes, header_verdict}
use Rattle.wt_kept.specs.Arriving.{classify_final, with_transport}
use Rattle.wt_kept.specs.Classifying.{classify_now}
use Rattle.wt_kept.specs.Kept.{WorkNow}
use Rattle.wt_kept.specs.Readers.{ReadOn, ReaderRules, Slot, consumed, read_on, taken}
use Rattle.wt_transport.proofs.Bools.{first}
use Rattle.wt_transport.proofs.Refining.{actions-contents, consume_refines, refined_end, refined_unread}
use Rattle.wt_transport.specs.State.{Refines, TransportState}
use Rattle.wt_transport.specs.Step.{end_now, unread_now}
use Rattle.wt_proto.specs.Uni.{is_final}
use Rattle.wt_proto.specs.declared.verdict.Verdict.{Verdict}
use Rattle.wt_proto.specs.declared.verdict.Verdict.TheVariants as verdicts
use Rattle.wt_turn.specs.Joined.{newest_first}
use Rattle.wt_turn.specs.Reports.{end_of}
use Rattle.wt_turn.specs.Streams.{contents, exists, local_uni}
use Rattle.wt_turn.specs.Unread.{AtOffset, GivenUp, ReadPosition, advance, from_position, position_after}
use Rattle.wt_sessions.specs.Driver.{transport_view}
use Rattle.wt_sessions.specs.DriverState.{DriverState}
use Rattle.wt_sessions.specs.Scan.{places_after, with_fault}
use Rattle.wt_sessions.specs.Step.{classified_now, dispatch_by, scan_ids, stays_if, unless_faulty}
use Rattle.wt_sessions.specs.Step as steps
use Rattle.wt_sessions.specs.StreamTable.{Consequence, DriverProgress, TransportView, consequence}
use Rattle.wt_turn.specs.Log.{Log, events_of, with_actions}
use Rattle.wt_turn.specs.declared.action.Action.{Action}
use Rattle.wt_wire.specs.Ids.{is_bidirectional}
use Rattle.wt_wire.specs.declared.error.ErrorCode.{ErrorCode}
use Rattle.wt_wire.specs.declared.side.Side.{Side}
use Rattle.wt_wire.specs.declared.side.StreamEnd.{StreamEnd}
use Rattle.std.specs.Prelude.{not}

-- what the progress is after a consequence
fault-actions : (o : Option ErrorCode) (p : DriverProgress) → (with_fault o p).actions ≡ p.actions
fault-actions None p = refl
fault-actions (Some code) p = refl

fault-datagrams : (o : Option ErrorCode) (p : DriverProgress) → (with_fault o p).datagrams ≡ p.datagrams
fault-datagrams None p = refl
fault-datagrams (Some code) p = refl

-- what a scan leaves of a state
pub record SameRest (s z : DriverState) : Type 0 where
  pub unis : z.unis ≡ s.unis
  pub bis : z.bis ≡ s.bis
  pub is_open : z.is_open ≡ s.is_open
  pub datagrams : z.progress.datagrams ≡ s.progress.datagrams
  pub established : (k : ℕ) → z.dispatched.is_established k ≡ s.dispatched.is_established k

-- slots at positions that are the same for them
pub slots-same : {V O : Type 0} (w : ReaderRules V O) (bytes : ℕ → List ℕ) (before after : ℕ → ReadPosition) (xs : List (Slot V)) → ((j : ℕ) → is_in j (map (λ (x : Slot V). x.id) xs) ≡ true → after j ≡ before j)
    → SlotsAt w bytes before xs → SlotsAt w bytes after xs
slots-same w bytes before after [] same h = tt
slots-same {V} w bytes before after (x ∷ xs) same h = (
  subst (λ (p : ReadPosition). ReaderAt w x.reader 0 (bytes x.id) p) (sym (same x.id (ap (λ b. b || is_in x.id (map (λ (y : Slot V). y.id) xs)) (same-id x.id)))) h.0,
  slots-same w bytes before after xs (λ j e. same j (ap (λ b. (x.id == j) || b) e ∙ or-some (x.id == j))) h.1,
)
  where
    or-some : (a : Bool) → (a || true) ≡ true
    or-some true = refl
    or-some false = refl

module _ {V : Type 0} (rules : ReaderRules V Verdict) (verdict_of : List ℕ → StreamEnd → Verdict) (is : IsReader rules is_final verdict_of) (tells : IsOffset is_final verdict_of verdict_offset)
    (names : (bytes : List ℕ) (end : StreamEnd) (session offset : ℕ) → verdict_of bytes end ≡ verdicts.WebTransport session offset → (session % 4) ≡ 0) (side : Side) (log : Log)
    (b : Bool) (heads : (k : ℕ) → is_bidirectional k ≡ b → header_verdict log k ≡ verdict_of (contents log k) (end_of (events_of log) k)) where
  abbrev view : TransportView
  view = transport_view side log

  abbrev ids_of : List (Slot V) → List ℕ
  ids_of xs = map (λ (x : Slot V). x.id) xs

  abbrev verdict : ℕ → Verdict
  verdict k = verdict_of (contents log k) (end_of (events_of log) k)

  -- a scan of slots and one of ids come to the same
  pub record ScanLeads (s : DriverState) (sent : List Action) (position : ℕ → ReadPosition) (uncollected : List Action) (front : List ℕ) (xs : List (Slot V)) (r : WorkNow) (z : Scanned V) (y : steps.Scanned) : Type 0 where
    pub position_then : ℕ → ReadPosition
    pub out : List Action
    pub left : ids_of (z.read ++ z.rest) ≡ y.left
    pub amid_then : WorkAmid side z.work log (with_ids b (front ++ y.left) y.state) (sent ++ out) position_then (newest_first out uncollected)
    pub actions : y.state.progress.actions ≡ s.progress.actions ++ out
    pub ends : AreEnds out
    pub slots : goes y.state ≡ true → SlotsAt rules (contents log) position_then (z.read ++ z.rest)
    pub read : SlotsRead position_then (contents log) z.read
    pub elsewhere : (j : ℕ) → is_in j (ids_of xs) ≡ false → waits s j ≡ false → position_then j ≡ position j
    pub same : SameRest s y.state
    pub counts : SameCounts r.transport z.work.transport

  -- nothing is looked at
  stops : (s : DriverState) (sent : List Action) (position : ℕ → ReadPosition) (uncollected : List Action) (front : List ℕ) (xs : List (Slot V)) (r : WorkNow)
      → WorkAmid side r log (with_ids b (front ++ ids_of xs) s) sent position uncollected → (goes s ≡ true → SlotsAt rules (contents log) position xs)
      → ScanLeads s sent position uncollected front xs r (record { read = []; rest = xs; work = r }) (record { left = ids_of xs; state = s })
  stops s sent position uncollected front xs r amid slots = record {
    position_then = position;
    out = [];
    left = refl;
    amid_then = subst (λ (ys : List Action). WorkAmid side r log (with_ids b (front ++ ids_of xs) s) ys position uncollected) (sym (append-nil sent)) amid;
    actions = sym (append-nil s.progress.actions);
    ends = tt;
    slots = slots;
    read = tt;
    elsewhere = λ j e f. refl;
    same = record { unis = refl; bis = refl; is_open = refl; datagrams = refl; established = λ m. refl };
    counts = λ kind. refl;
  }

  -- the scan of those behind one
  abbrev Again : List (Slot V) → Type 0
  Again xs = (m : ℕ) (front : List ℕ) (r : WorkNow) (s : DriverState) (sent : List Action) (position : ℕ → ReadPosition) (uncollected : List Action)
      → WorkAmid side r log (with_ids b (front ++ ids_of xs) s) sent position uncollected → s.is_open ≡ true → (goes s ≡ true → SlotsAt rules (contents log) position xs)
      → ScanLeads s sent position uncollected front xs r (scan_slots rules classify_now m xs r) (scan_ids view verdict m (ids_of xs) s)

  -- ---- one stream is read on

  module _ (n : ℕ) (x : Slot V) (xs : List (Slot V)) (again : Again xs) (front : List ℕ) (r : WorkNow) (s : DriverState) (sent : List Action) (position : ℕ → ReadPosition) (uncollected : List Action)
      (amid : WorkAmid side r log (with_ids b (front ++ x.id ∷ ids_of xs) s) sent position uncollected) (opened : s.is_open ≡ true) (at : ReaderAt rules x.reader 0 (contents log x.id) (position x.id)) (others : SlotsAt rules (contents log) position xs)
      (going : goes s ≡ true) where
    abbrev k : ℕ
    k = x.id

    abbrev full : DriverState
    full = with_ids b (front ++ k ∷ ids_of xs) s

    abbrev its_bytes : List ℕ
    its_bytes = contents log k

    abbrev its_end : StreamEnd
    its_end = end_of (events_of log) k

    abbrev unread_part : List ℕ
    unread_part = from_position (position k) its_bytes

    abbrev count : ℕ
    count = taken rules x.reader unread_part

    abbrev reader_then : V
    reader_then = reader_after rules is_final verdict_of is x.reader unread_part its_end

    abbrev transport_then : TransportState
    transport_then = consumed r.transport k count

    abbrev after : ℕ → ReadPosition
    after = position_after position k count

    unread-is : unread_now r.transport k ≡ unread_part
    unread-is = refined_unread side r.transport (with_actions sent log) position uncollected amid.transport k ∙ ap (λ (c : ℕ → List ℕ). from_position (position k) (c k)) (actions-contents sent log)

    end-is : end_now r.transport k ≡ its_end
    end-is = refined_end side r.transport (with_actions sent log) position uncollected amid.transport k ∙ ap (λ es. end_of es k) (events-kept sent log)

    read-is : read_on rules k x.reader r.transport ≡ record { reader = reader_then; transport = transport_then }
    read-is =
        reads-on rules is_final verdict_of is r.transport k x.reader
        ∙ (λ i. record { reader = reader_after rules is_final verdict_of is x.reader (unread-is i) (end-is i); transport = consumed r.transport k (taken rules x.reader (unread-is i)) })

    says : rules.outcome reader_then ≡ verdict k
    says = at-says rules is_final verdict_of is x.reader 0 its_bytes (position k) its_end at

    after-here : after k ≡ advance count (position k)
    after-here = ap (λ (c : Bool). if c then advance count (position k) else position k) (same-id k)

    after-else : Elsewhere k position after
    after-else j e = ap (λ (c : Bool). if c then advance count (position j) else position j) e

    advance-none : (p : ReadPosition) → advance 0 p ≡ p
    advance-none (AtOffset m) = ap AtOffset (add-zero m)
    advance-none GivenUp = refl

    none-moved : (j : ℕ) (c : Bool) → (if c then advance 0 (position j) else position j) ≡ position j
    none-moved j true = advance-none (position j)
    none-moved j false = refl

    refines-by : (m : ℕ) → m ≤ length (unread_now r.transport k) → Refines side (consumed r.transport k m) (with_actions sent log) (position_after position k m) uncollected
    refines-by zero le = subst (λ (p : ℕ → ReadPosition). Refines side r.transport (with_actions sent log) p uncollected) (λ i j. sym (none-moved j (k == j)) i) amid.transport
    refines-by (suc m) le = consume_refines side r.transport (with_actions sent log) position uncollected amid.transport k (suc m) le

    refines-then : Refines side transport_then (with_actions sent log) after uncollected
    refines-then = refines-by count (subst (λ (ys : List ℕ). count ≤ length ys) (sym unread-is) (taken-within rules is_final verdict_of is unread_part x.reader))

    its-apart : IsApart full k
    its-apart = amid.roles.arriving k (its-arriving side r log s sent position uncollected b front k (ids_of xs) amid)

    its-there : exists side log k ≡ true
    its-there = first (exists side log k) (not (local_uni side == k % 4)) (amid.there.arriving k (its-arriving side r log s sent position uncollected b front k (ids_of xs) amid))

    read-amid : WorkAmid side (with_transport transport_then r) log full sent after uncollected
    read-amid = moved side r log full sent position uncollected amid k its-apart its-there transport_then after refines-then after-else

    distinct : AreDistinct (front ++ k ∷ ids_of xs)
    distinct = all-distinct side r log s sent position uncollected b front k (ids_of xs) amid

    -- another than this one
    other-of : (j : ℕ) → is_in j (ids_of xs) ≡ true → (k == j) ≡ false
    other-of j e = by (k == j) refl
      where
        by : (c : Bool) → (k == j) ≡ c → (k == j) ≡ false
        by false f = f
        by true f = absurd (let same = ap (λ i. is_in i (ids_of xs)) (eqb-true k j f) in let miss = not-behind k front (ids_of xs) distinct in cc)

    others-then : SlotsAt rules (contents log) after xs
    others-then = slots-same rules (contents log) position after xs (λ j e. after-else j (other-of j e)) others

    -- ---- it stays

    stays-here : rules.outcome reader_then ≡ verdicts.Incomplete
        → ScanLeads s sent position uncollected front (x ∷ xs) r
        (slot_stays verdicts.Incomplete (record { id = k; reader = reader_then }) (scan_slots rules classify_now n xs (with_transport transport_then r)))
        (stays_if verdicts.Incomplete k (scan_ids view verdict n (ids_of xs) s))
    stays-here e =
        let runs = at-runs rules is_final verdict_of is x.reader 0 its_bytes (position k) its_end at (is.said reader_then ∙ ap is_final e) in
        let rest : ScanLeads s sent after uncollected (front ++ k ∷ []) xs (with_transport transport_then r) (scan_slots rules classify_now n xs (with_transport transport_then r)) (scan_ids view verdict n (ids_of xs) s) =
        again n (front ++ k ∷ []) (with_transport transport_then r) s sent after uncollected
        (subst (λ (ks : List ℕ). WorkAmid side (with_transport transport_then r) log (with_ids b ks s) sent after uncollected) (sym (append_assoc front (k ∷ []) (ids_of xs))) read-amid) opened (λ f. others-then) in
        let here : rest.position_then k ≡ advance count (position k) = rest.elsewhere k (not-behind k front (ids_of xs) distinct) its-apart.waits ∙ after-here in
        record {
          position_then = rest.position_then;
          out = rest.out;
          left = ap (λ ks. k ∷ ks) rest.left;
          amid_then = subst (λ (ks : List ℕ). WorkAmid side (scan_slots rules classify_now n xs (with_transport transport_then r)).work log (with_ids b ks (scan_ids view verdict n (ids_of xs) s).state) (sent ++ rest.out) rest.position_then (newest_first rest.out uncollected))
              (append_assoc front (k ∷ []) (scan_ids view verdict n (ids_of xs) s).left) rest.amid_then;
          actions = rest.actions;
          ends = rest.ends;
          slots = λ f. (subst (λ (p : ReadPosition). ReaderAt rules reader_then 0 its_bytes p) (sym here) runs.0, rest.slots f);
          read = (here ∙ runs.1, rest.read);
          elsewhere = λ j f g. let parts = or_parts (k == j) (is_in j (ids_of xs)) f in rest.elsewhere j parts.1 g ∙ after-else j parts.0;
          same = rest.same;
          counts = λ kind. rest.counts kind ∙ consumed-counts r.transport k count kind;
        }

    -- ---- it goes

    -- a verdict establishes no session
    classified-established : (v : Verdict) (m : ℕ) → (classified_now k v (consequence view s.dispatched k v) s).dispatched.is_established m ≡ s.dispatched.is_established m
    classified-established v m = by v (consequence view s.dispatched k v).admitted
      where
        by : (v : Verdict) (b : Bool) → (dispatch_by v (record { id = k; verdict = v; admitted = b }) s.dispatched).is_established m ≡ s.dispatched.is_established m
        by verdicts.Incomplete b = refl
        by (verdicts.Control offset) b = refl
        by (verdicts.Encoder offset) b = refl
        by (verdicts.Decoder offset) b = refl
        by (verdicts.WebTransport session offset) true = refl
        by (verdicts.WebTransport session offset) false = refl
        by (verdicts.Request fields offset) true = refl
        by (verdicts.Request fields offset) false = refl
        by (verdicts.Refused code) b = refl
        by verdicts.Dropped b = refl
        by (verdicts.Fault code) b = refl

    shown : (v : Verdict) → is_final v ≡ true → rules.outcome reader_then ≡ v
        → ScanLeads s sent position uncollected front (x ∷ xs) r (scan_slots rules classify_now (suc n) xs (classify_now k v (with_transport transport_then r)))
        (scan_ids view verdict (suc n) (ids_of xs) (classified_now k v (consequence view s.dispatched k v) s))
    shown v final e =
        let less : DriverState = with_ids b (front ++ ids_of xs) s in
        let amid_less : WorkAmid side (with_transport transport_then r) log less sent after uncollected = fewer side (with_transport transport_then r) log s sent after uncollected b front k (ids_of xs) read-amid in
        let new : IsNew side log sent less k = is-new side (with_transport transport_then r) log s sent after uncollected b front k (ids_of xs) read-amid in
        let is_v : verdict k ≡ v = sym says ∙ e in
        let shows : Shows log (after k) k v = record {
          verdict = heads k (its-kind side r log s sent position uncollected b front k (ids_of xs) amid) ∙ is_v;
          at_offset = λ g f. after-here ∙ at-tells rules is_final verdict_of is verdict_offset tells x.reader its_bytes (position k) its_end at g (ap verdict_offset is_v ∙ f);
          within = λ g f. tells.within its_bytes its_end g (ap verdict_offset is_v ∙ f);
          named = λ session offset f. names its_bytes its_end session offset (is_v ∙ f);
        } in
        let leads : Leads side log (with_transport transport_then r) less sent after uncollected amid_less going k new (classify_now k v (with_transport transport_then r)) (classified_now k v (consequence view less.dispatched k v) less) (consequence view less.dispatched k v).actions =
        classified side log (with_transport transport_then r) less sent after uncollected amid_less going k new v final shows in
        let c : Consequence = consequence view s.dispatched k v in
        let state : DriverState = classified_now k v c s in
        let here_same : (j : ℕ) → is_in j (ids_of xs) ≡ true → leads.position_then j ≡ after j =
        λ j f. leads.elsewhere j (other-of j f) (waits-not j f) in
        let rest : ScanLeads state (sent ++ c.actions) leads.position_then (newest_first c.actions uncollected) front xs (classify_now k v (with_transport transport_then r)) (scan_slots rules classify_now (suc n) xs (classify_now k v (with_transport transport_then r)))
        (scan_ids view verdict (suc n) (ids_of xs) state) =
        again (suc n) front (classify_now k v (with_transport transport_then r)) state (sent ++ c.actions) leads.position_then (newest_first c.actions uncollected) leads.amid_then opened
        (λ f. slots-same rules (contents log) after leads.position_then xs here_same others-then) in
        record {
          position_then = rest.position_then;
          out = c.actions ++ rest.out;
          left = rest.left;
          amid_then = subst (λ (q : List Action × List Action). WorkAmid side (scan_slots rules classify_now (suc n) xs (classify_now k v (with_transport transport_then r))).work log
              (with_ids b (front ++ (scan_ids view verdict (suc n) (ids_of xs) state).left) (scan_ids view verdict (suc n) (ids_of xs) state).state) q.0 rest.position_then q.1)
              (λ i. (append_assoc sent c.actions rest.out i, sym (newest-append c.actions rest.out uncollected) i)) rest.amid_then;
          actions = rest.actions ∙ (ap (λ ys. ys ++ rest.out) (fault-actions c.fault _) ∙ append_assoc s.progress.actions c.actions rest.out);
          ends = ends-both c.actions rest.out (consequence-ends view s.dispatched k v) rest.ends;
          slots = rest.slots;
          read = rest.read;
          elsewhere = λ j f g.
              let parts = or_parts (k == j) (is_in j (ids_of xs)) f in
              rest.elsewhere j parts.1 (leads.waiting j parts.0 g) ∙ (leads.elsewhere j parts.0 g ∙ after-else j parts.0);
          same = record { unis = rest.same.unis; bis = rest.same.bis; is_open = rest.same.is_open; datagrams = rest.same.datagrams ∙ fault-datagrams c.fault _; established = λ m. rest.same.established m ∙ classified-established v m };
          counts = λ kind. rest.counts kind ∙ (classify-counts k v (with_transport transport_then r) kind ∙ consumed-counts r.transport k count kind);
        }
      where
        waits-not : (j : ℕ) → is_in j (ids_of xs) ≡ true → waits s j ≡ false
        waits-not j f = (amid.roles.arriving j (listed b s (front ++ k ∷ ids_of xs) j (in-behind j k front (ids_of xs) f))).waits

    -- ---- both

    looked-at : (v : Verdict) → rules.outcome reader_then ≡ v
        → ScanLeads s sent position uncollected front (x ∷ xs) r
        (slot_stays v (record { id = k; reader = reader_then }) (scan_slots rules classify_now (places_after v n) xs (classify_final classify_now k v (with_transport transport_then r))))
        (stays_if v k (scan_ids view verdict (places_after v n) (ids_of xs) (steps.classify_now view k v s)))
    looked-at verdicts.Incomplete e = stays-here e
    looked-at (verdicts.Control offset) e = shown (verdicts.Control offset) refl e
    looked-at (verdicts.Encoder offset) e = shown (verdicts.Encoder offset) refl e
    looked-at (verdicts.Decoder offset) e = shown (verdicts.Decoder offset) refl e
    looked-at (verdicts.WebTransport session offset) e = shown (verdicts.WebTransport session offset) refl e
    looked-at (verdicts.Request fields offset) e = shown (verdicts.Request fields offset) refl e
    looked-at (verdicts.Refused code) e = shown (verdicts.Refused code) refl e
    looked-at verdicts.Dropped e = shown verdicts.Dropped refl e
    looked-at (verdicts.Fault code) e = shown (verdicts.Fault code) refl e

    pub one-leads : ScanLeads s sent position uncollected front (x ∷ xs) r
        (slot_read rules classify_now k (read_on rules k x.reader r.transport) (λ m u. scan_slots rules classify_now m xs u) n r)
        (stays_if (verdict k) k (scan_ids view verdict (places_after (verdict k) n) (ids_of xs) (steps.classify_now view k (verdict k) s)))
    one-leads =
        subst (λ (q : ReadOn V × Verdict). ScanLeads s sent position uncollected front (x ∷ xs) r (slot_read rules classify_now k q.0 (λ m u. scan_slots rules classify_now m xs u) n r)
        (stays_if q.1 k (scan_ids view verdict (places_after q.1 n) (ids_of xs) (steps.classify_now view k q.1 s))))
        (λ i. (sym read-is i, says i)) (looked-at (rules.outcome reader_then) refl)

  -- ---- all of them

  pub scan-leads : (n : ℕ) (xs : List (Slot V)) (front : List ℕ) (r : WorkNow) (s : DriverState) (sent : List Action) (position : ℕ → ReadPosition) (uncollected : List Action)
      → WorkAmid side r log (with_ids b (front ++ ids_of xs) s) sent position uncollected → s.is_open ≡ true → (goes s ≡ true → SlotsAt rules (contents log) position xs)
      → ScanLeads s sent position uncollected front xs r (scan_slots rules classify_now n xs r) (scan_ids view verdict n (ids_of xs) s)
  scan-leads n [] front r s sent position uncollected amid opened slots = stops s sent position uncollected front [] r amid slots
  scan-leads zero (x ∷ xs) front r s sent position uncollected amid opened slots = stops s sent position uncollected front (x ∷ xs) r amid slots
  scan-leads (suc n) (x ∷ xs) front r s sent position uncollected amid opened slots =
      by r.dispatched.fault s.progress.fault amid.keeps.fault refl (λ m f u t v p q a o h. scan-leads m xs f u t v p q a o h)
    where
      by : (c d : Option ErrorCode) → c ≡ d → s.progress.fault ≡ d → Again xs
          → ScanLeads s sent position uncollected front (x ∷ xs) r
          (unless_fault c (slot_read rules classify_now x.id (read_on rules x.id x.reader r.transport) (λ m u. scan_slots rules classify_now m xs u) n r) (record { read = []; rest = x ∷ xs; work = r }))
          (unless_faulty d (λ z. stays_if (verdict x.id) x.id (scan_ids view verdict (places_after (verdict x.id) n) (ids_of xs) (steps.classify_now view x.id (verdict x.id) z))) (x.id ∷ ids_of xs) s)
      by None None same none again =
          let going : goes s ≡ true = (λ i. opened i && is_none (none i)) in
          let all = slots going in
          one-leads n x xs again front r s sent position uncollected amid opened all.0 all.1 going
      by (Some code) (Some other) same some again = stops s sent position uncollected front (x ∷ xs) r amid slots
      by None (Some code) same some again = absurd cc
      by (Some code) None same some again = absurd cc
