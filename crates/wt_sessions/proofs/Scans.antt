-- A scan on what is kept is that of the definitions, any number of streams.
use Rattle.std.proofs.Common.{◌≡◌, ℕ, zero, suc, Bool, true, false, cond, List, [], ◌∷◌, ◌++◌, filter, filter_map, find, is_none, refl, sym, ap, ◌∙◌}
use Rattle.std.specs.Prelude.{not, Option, Some, None, ◌==◌, ◌||◌, ◌&&◌}
use Rattle.std.specs.Option.{option_or}
use Rattle.std.specs.List.{cons_option, list_any}
use Rattle.std.proofs.lemmas.Bool.{eq-eqb, eqb-true, or_parts, true≢false}
use Rattle.std.proofs.lemmas.List.{append-nil}
use Rattle.wt_sessions.specs.DriverState.{DriverState, state_by}
use Rattle.wt_sessions.specs.Step.{Scanned, classified_now, dispatch, forget, classify_now, scan_ids, stays, stays_if, unless_faulty}
use Rattle.wt_proto.specs.declared.verdict.Verdict.{Verdict}
use Rattle.wt_sessions.specs.Driver.{ControlSent}
use Rattle.wt_sessions.specs.Scan.{classify, is_unclassified, places_after, scan, unless_ended, with_classified, with_consequence}
use Rattle.wt_sessions.specs.StreamTable.{Admitted, CallView, Classified, Consequence, Dispatched, DriverProgress, Session, StreamTable, TransportView, Waiting, admit_or_stop, consequence, control_start, decoder_start, dispatched_streams, encoder_start, first_at, is_closed, is_gone, is_queued, is_refused_request, is_request, is_session, is_turned_away, offset_with_id, queued_id, verdict_of, waits_in, was_established}
use Rattle.wt_wire.specs.declared.error.ErrorCode.{ErrorCode}
use Rattle.wt_proto.specs.declared.verdict.Verdict.TheVariants as verdicts

-- ---- lists

pub filter-both : {X : Type 0} (p : X → Bool) (xs ys : List X) → filter p (xs ++ ys) ≡ filter p xs ++ filter p ys
filter-both p [] ys = refl
filter-both p (x ∷ xs) ys = by (p x) (filter-both p xs ys)
  where
    by : (b : Bool) → filter p (xs ++ ys) ≡ filter p xs ++ filter p ys → cond b (x ∷ filter p (xs ++ ys)) (filter p (xs ++ ys)) ≡ cond b (x ∷ filter p xs) (filter p xs) ++ filter p ys
    by true e = λ i. x ∷ e i
    by false e = e

pub filter-filter : {X : Type 0} (p q r : X → Bool) → ((x : X) → r x ≡ (q x && p x)) → (xs : List X) → filter r xs ≡ filter p (filter q xs)
filter-filter p q r same [] = refl
filter-filter p q r same (x ∷ xs) = by (q x) (same x) (filter-filter p q r same xs)
  where
    by : (a : Bool) → r x ≡ (a && p x) → filter r xs ≡ filter p (filter q xs) → cond (r x) (x ∷ filter r xs) (filter r xs) ≡ filter p (cond a (x ∷ filter q xs) (filter q xs))
    by true e again = λ i. cond (e i) (x ∷ again i) (again i)
    by false e again = λ i. cond (e i) (x ∷ again i) (again i)

cons-append : {Y : Type 0} (o : Option Y) (xs ys : List Y) → cons_option o (xs ++ ys) ≡ cons_option o xs ++ ys
cons-append None xs ys = refl
cons-append (Some y) xs ys = refl

pub filter-map-both : {X Y : Type 0} (h : X → Option Y) (xs ys : List X) → filter_map h (xs ++ ys) ≡ filter_map h xs ++ filter_map h ys
filter-map-both h [] ys = refl
filter-map-both h (x ∷ xs) ys = ap (cons_option (h x)) (filter-map-both h xs ys) ∙ cons-append (h x) (filter_map h xs) (filter_map h ys)

pub or-false : (b : Bool) → (b || false) ≡ b
or-false true = refl
or-false false = refl

pub and-false : (b : Bool) → (b && false) ≡ false
and-false true = refl
and-false false = refl

pub and-true : (b : Bool) → (b && true) ≡ b
and-true true = refl
and-true false = refl

pub neither : (a g e : Bool) → (a && not (g || e)) ≡ ((a && not g) && not e)
neither true true e = refl
neither true false e = refl
neither false g e = refl

pub not-either : (g e : Bool) → not (g || e) ≡ (not g && not e)
not-either true e = refl
not-either false e = refl

pub any-append : {X : Type 0} (p : X → Bool) (xs : List X) (x : X) → list_any p (xs ++ x ∷ []) ≡ (list_any p xs || p x)
any-append p [] x = or-false (p x)
any-append p (y ∷ xs) x = by (p y) (any-append p xs x)
  where
    by : (b : Bool) → list_any p (xs ++ x ∷ []) ≡ (list_any p xs || p x) → (b || list_any p (xs ++ x ∷ [])) ≡ ((b || list_any p xs) || p x)
    by true e = refl
    by false e = e

or-none : (x : Option (ℕ × ℕ)) → option_or x None ≡ x
or-none None = refl
or-none (Some x) = refl

or-again : (x y z : Option (ℕ × ℕ)) → option_or x (option_or y z) ≡ option_or (option_or x y) z
or-again None y z = refl
or-again (Some x) y z = refl

first-append : (start : Verdict → Option ℕ) (cs : List Classified) (c : Classified) → first_at start (cs ++ c ∷ []) ≡ option_or (first_at start cs) (offset_with_id c.id (start c.verdict))
first-append start [] c = or-none (offset_with_id c.id (start c.verdict))
first-append start (x ∷ cs) c =
    ap (option_or (offset_with_id x.id (start x.verdict))) (first-append start cs c)
    ∙ or-again (offset_with_id x.id (start x.verdict)) (first_at start cs) (offset_with_id c.id (start c.verdict))

-- ---- one more classified stream

-- no call did anything to a stream that has no verdict, and no session has its id
pub record IsFresh (calls : CallView) (table : StreamTable) (k : ℕ) : Type 0 where
  pub accepted : calls.accepted k ≡ false
  pub delivered : calls.delivered k ≡ false
  pub unestablished : was_established calls k ≡ false
  pub remains : is_gone calls table k ≡ false

-- the table with one more
abbrev pub with_one : StreamTable → Classified → DriverProgress → StreamTable
with_one table c p = record table { classified = table.classified ++ c ∷ []; progress = p }

module _ (calls : CallView) (table : StreamTable) (c : Classified) (p : DriverProgress) where
  gone-append : (s : ℕ) → is_gone calls (with_one table c p) s ≡ (is_gone calls table s || is_turned_away s c)
  gone-append s = by (calls.ended s) (list_any (is_closed s) table.closed) (any-append (is_turned_away s) table.classified c)
    where
      by : (a b : Bool) → list_any (is_turned_away s) (table.classified ++ c ∷ []) ≡ (list_any (is_turned_away s) table.classified || is_turned_away s c)
          → (a || (b || list_any (is_turned_away s) (table.classified ++ c ∷ []))) ≡ ((a || (b || list_any (is_turned_away s) table.classified)) || is_turned_away s c)
      by true b e = refl
      by false true e = refl
      by false false e = e

  queued-append : filter_map queued_id (table.classified ++ c ∷ []) ≡ filter_map queued_id table.classified ++ cons_option (queued_id c) []
  queued-append = filter-map-both queued_id table.classified (c ∷ [])

  waits-append : filter_map (waits_in calls) (table.classified ++ c ∷ []) ≡ filter_map (waits_in calls) table.classified ++ cons_option (waits_in calls c) []
  waits-append = filter-map-both (waits_in calls) table.classified (c ∷ [])

  -- one that isn't turned away
  module _ (stays-on : (s : ℕ) → is_turned_away s c ≡ false) where
    gone-same : (s : ℕ) → is_gone calls (with_one table c p) s ≡ is_gone calls table s
    gone-same s = gone-append s ∙ ap (λ b. is_gone calls table s || b) (stays-on s) ∙ or-false (is_gone calls table s)

    -- the dispatched streams with what this one adds to each
    abbrev added : List Classified → List ℕ → List Waiting → Dispatched
    added requests held streams = let d = dispatched_streams calls table in record d {
      control = option_or d.control (offset_with_id c.id (control_start c.verdict));
      encoder = option_or d.encoder (offset_with_id c.id (encoder_start c.verdict));
      decoder = option_or d.decoder (offset_with_id c.id (decoder_start c.verdict));
      requests = d.requests ++ requests;
      held = d.held ++ held;
      streams = d.streams ++ streams;
    }

    dispatched-added : dispatched_streams calls (with_one table c p)
        ≡ added (filter (λ (x : Classified). is_queued x && not (calls.delivered x.id)) (c ∷ []))
        (filter (λ (h : ℕ). not (is_gone calls table h)) (cons_option (queued_id c) []))
        (filter (λ (w : Waiting). not (is_gone calls table w.session)) (cons_option (waits_in calls c) []))
    dispatched-added = λ i. record {
      control = first-append control_start table.classified c i;
      encoder = first-append encoder_start table.classified c i;
      decoder = first-append decoder_start table.classified c i;
      requests = filter-both (λ (x : Classified). is_queued x && not (calls.delivered x.id)) table.classified (c ∷ []) i;
      held = ((λ j. filter (λ (h : ℕ). not (gone-same h j)) (queued-append j))
          ∙ filter-both (λ (h : ℕ). not (is_gone calls table h)) (filter_map queued_id table.classified) (cons_option (queued_id c) [])) i;
      streams = ((λ j. filter (λ (w : Waiting). not (gone-same w.session j)) (waits-append j))
          ∙ filter-both (λ (w : Waiting). not (is_gone calls table w.session)) (filter_map (waits_in calls) table.classified) (cons_option (waits_in calls c) [])) i;
      datagrams = filter (λ (x : Admitted). not (calls.received x.index) && not (gone-same x.session i)) table.datagrams;
      is_established = was_established calls;
      is_gone = λ s. gone-same s i;
      members = calls.members;
    }

  -- one that is turned away
  module _ (away : (s : ℕ) → is_turned_away s c ≡ (c.id == s)) (no_control : control_start c.verdict ≡ None) (no_encoder : encoder_start c.verdict ≡ None)
      (no_decoder : decoder_start c.verdict ≡ None) (unqueued : is_queued c ≡ false) (no_wait : waits_in calls c ≡ None) where
    gone-more : (s : ℕ) → is_gone calls (with_one table c p) s ≡ (is_gone calls table s || c.id == s)
    gone-more s = gone-append s ∙ ap (λ b. is_gone calls table s || b) (away s)

    no-first : (start : Verdict → Option ℕ) → start c.verdict ≡ None → first_at start (table.classified ++ c ∷ []) ≡ first_at start table.classified
    no-first start e = first-append start table.classified c ∙ ap (λ o. option_or (first_at start table.classified) (offset_with_id c.id o)) e ∙ or-none (first_at start table.classified)

    no-more : (q : Classified → Bool) → q c ≡ false → filter q (table.classified ++ c ∷ []) ≡ filter q table.classified
    no-more q e = filter-both q table.classified (c ∷ []) ∙ ap (λ b. filter q table.classified ++ cond b (c ∷ []) []) e ∙ append-nil (filter q table.classified)

    unqueued-by : (b : Bool) → (is_queued c && b) ≡ false
    unqueued-by b = ap (λ x. x && b) unqueued

    dispatched-forgotten : dispatched_streams calls (with_one table c p) ≡ forget c.id (dispatched_streams calls table)
    dispatched-forgotten = λ i. record {
      control = no-first control_start no_control i;
      encoder = no-first encoder_start no_encoder i;
      decoder = no-first decoder_start no_decoder i;
      requests = no-more (λ (x : Classified). is_queued x && not (calls.delivered x.id)) (unqueued-by (not (calls.delivered c.id))) i;
      held = (ap (filter (λ (h : ℕ). not (is_gone calls (with_one table c p) h)))
          (queued-append ∙ ap (λ b. filter_map queued_id table.classified ++ cons_option (cond b (Some c.id) None) []) unqueued ∙ append-nil (filter_map queued_id table.classified))
          ∙ filter-filter (λ (h : ℕ). not (c.id == h)) (λ (h : ℕ). not (is_gone calls table h)) (λ (h : ℕ). not (is_gone calls (with_one table c p) h))
          (λ h. ap not (gone-more h) ∙ not-either (is_gone calls table h) (c.id == h)) (filter_map queued_id table.classified)) i;
      streams = (ap (filter (λ (w : Waiting). not (is_gone calls (with_one table c p) w.session)))
          (waits-append ∙ ap (λ o. filter_map (waits_in calls) table.classified ++ cons_option o []) no_wait ∙ append-nil (filter_map (waits_in calls) table.classified))
          ∙ filter-filter (λ (w : Waiting). not (c.id == w.session)) (λ (w : Waiting). not (is_gone calls table w.session))
          (λ (w : Waiting). not (is_gone calls (with_one table c p) w.session))
          (λ w. ap not (gone-more w.session) ∙ not-either (is_gone calls table w.session) (c.id == w.session)) (filter_map (waits_in calls) table.classified)) i;
      datagrams = filter-filter (λ (x : Admitted). not (c.id == x.session)) (λ (x : Admitted). not (calls.received x.index) && not (is_gone calls table x.session))
          (λ (x : Admitted). not (calls.received x.index) && not (is_gone calls (with_one table c p) x.session))
          (λ x. ap (λ b. not (calls.received x.index) && not b) (gone-more x.session) ∙ neither (not (calls.received x.index)) (is_gone calls table x.session) (c.id == x.session)) table.datagrams i;
      is_established = was_established calls;
      is_gone = λ s. gone-more s i;
      members = calls.members;
    }

-- ---- what becomes of it by its verdict

module _ (calls : CallView) (table : StreamTable) (k : ℕ) (p : DriverProgress) (fresh : IsFresh calls table k) where
  abbrev pub one : Verdict → Bool → Classified
  one v b = record { id = k; verdict = v; admitted = b }

  abbrev pub d : Dispatched
  d = dispatched_streams calls table

  -- nothing is added
  none-added : record d {
    control = option_or d.control None;
    encoder = option_or d.encoder None;
    decoder = option_or d.decoder None;
    requests = d.requests ++ [];
    held = d.held ++ [];
    streams = d.streams ++ [];
  } ≡ d
  none-added = λ i. record d {
    control = or-none d.control i;
    encoder = or-none d.encoder i;
    decoder = or-none d.decoder i;
    requests = append-nil d.requests i;
    held = append-nil d.held i;
    streams = append-nil d.streams i;
  }

  on : (v : Verdict) (b : Bool) → (is_refused_request v || (is_request v && not b)) ≡ false → (s : ℕ) → is_turned_away s (one v b) ≡ false
  on v b e s = ap (λ x. k == s && x) e ∙ and-false (k == s)

  off : (v : Verdict) (b : Bool) → (is_refused_request v || (is_request v && not b)) ≡ true → (s : ℕ) → is_turned_away s (one v b) ≡ (k == s)
  off v b e s = ap (λ x. k == s && x) e ∙ and-true (k == s)

  -- a stream that gets a place is of a session that isn't gone
  dispatched-one : (v : Verdict) (b : Bool) → ((session offset : ℕ) → v ≡ verdicts.WebTransport session offset → b ≡ true → is_gone calls table session ≡ false)
      → dispatched_streams calls (with_one table (one v b) p) ≡ dispatch d (one v b)
  dispatched-one (verdicts.Control offset) b lives = dispatched-added calls table (one (verdicts.Control offset) b) p (on (verdicts.Control offset) b refl)
      ∙ ap (λ (x : Dispatched). record x { control = option_or d.control (Some (k, offset)) }) none-added
  dispatched-one (verdicts.Encoder offset) b lives = dispatched-added calls table (one (verdicts.Encoder offset) b) p (on (verdicts.Encoder offset) b refl)
      ∙ ap (λ (x : Dispatched). record x { encoder = option_or d.encoder (Some (k, offset)) }) none-added
  dispatched-one (verdicts.Decoder offset) b lives = dispatched-added calls table (one (verdicts.Decoder offset) b) p (on (verdicts.Decoder offset) b refl)
      ∙ ap (λ (x : Dispatched). record x { decoder = option_or d.decoder (Some (k, offset)) }) none-added
  dispatched-one (verdicts.Request headers offset) true lives =
      let c : Classified = one (verdicts.Request headers offset) true in
      dispatched-added calls table c p (on (verdicts.Request headers offset) true refl)
      ∙ (λ i. record (none-added i) {
        requests = d.requests ++ cond (not (fresh.delivered i)) (c ∷ []) [];
        held = d.held ++ cond (not (fresh.remains i)) (k ∷ []) [];
      })
  dispatched-one (verdicts.Request headers offset) false lives =
      dispatched-forgotten calls table (one (verdicts.Request headers offset) false) p (off (verdicts.Request headers offset) false refl) refl refl refl refl refl
  dispatched-one (verdicts.Refused code) b lives =
      dispatched-forgotten calls table (one (verdicts.Refused code) b) p (off (verdicts.Refused code) b refl) refl refl refl refl refl
  dispatched-one (verdicts.WebTransport session offset) true lives =
      let w : Waiting = record { id = k; session = session } in
      dispatched-added calls table (one (verdicts.WebTransport session offset) true) p (on (verdicts.WebTransport session offset) true refl)
      ∙ (λ i. record (none-added i) {
        streams = d.streams ++ filter (λ (x : Waiting). not (is_gone calls table x.session)) (cons_option (cond (not (fresh.accepted i)) (Some w) None) []);
      })
      ∙ (λ i. record d { streams = d.streams ++ cond (not (lives session offset refl refl i)) (w ∷ []) [] })
  dispatched-one (verdicts.WebTransport session offset) false lives =
      dispatched-added calls table (one (verdicts.WebTransport session offset) false) p (on (verdicts.WebTransport session offset) false refl) ∙ none-added
  dispatched-one verdicts.Incomplete b lives = dispatched-added calls table (one verdicts.Incomplete b) p (on verdicts.Incomplete b refl) ∙ none-added
  dispatched-one verdicts.Dropped b lives = dispatched-added calls table (one verdicts.Dropped b) p (on verdicts.Dropped b refl) ∙ none-added
  dispatched-one (verdicts.Fault code) b lives = dispatched-added calls table (one (verdicts.Fault code) b) p (on (verdicts.Fault code) b refl) ∙ none-added

-- ---- the scan

-- the id is in the list
abbrev pub is_in : ℕ → List ℕ → Bool
is_in k ks = list_any (λ x. x == k) ks

pub eqb-other : (a b : ℕ) → (a == b) ≡ false → (b == a) ≡ false
eqb-other a b e = by (b == a) refl
  where
    by : (c : Bool) → (b == a) ≡ c → c ≡ false
    by false f = refl
    by true f = absurd (true≢false (sym (eq-eqb a b (sym (eqb-true b a f))) ∙ e))

pub classified-here : (c : Classified) (cs : List Classified) → verdict_of c.id cs ≡ None → verdict_of c.id (cs ++ c ∷ []) ≡ Some c.verdict
classified-here c [] e = rw (eq-eqb c.id c.id refl) refl
classified-here c (x ∷ xs) e = by (x.id == c.id) e (classified-here c xs)
  where
    by : (b : Bool) → cond b (Some x.verdict) (verdict_of c.id xs) ≡ None → (verdict_of c.id xs ≡ None → verdict_of c.id (xs ++ c ∷ []) ≡ Some c.verdict)
        → cond b (Some x.verdict) (verdict_of c.id (xs ++ c ∷ [])) ≡ Some c.verdict
    by true f again = absurd cc
    by false f again = again f

pub classified-other : (c : Classified) (j : ℕ) (cs : List Classified) → (c.id == j) ≡ false → verdict_of j (cs ++ c ∷ []) ≡ verdict_of j cs
classified-other c j [] ne = rw ne refl
classified-other c j (x ∷ xs) ne = ap (cond (x.id == j) (Some x.verdict)) (classified-other c j xs ne)

admit-lives : (gone room : Bool) (k : ℕ) → (admit_or_stop gone room k).admitted ≡ true → gone ≡ false
admit-lives true room k e = absurd (true≢false (sym e))
admit-lives false room k e = refl

module _ (t : TransportView) (calls : CallView) where
  -- what becomes of a stream with a verdict
  abbrev pub led : StreamTable → ℕ → Verdict → Consequence
  led table k v = consequence t (dispatched_streams calls table) k v

  -- the table with the stream classified
  abbrev pub more : StreamTable → ℕ → Verdict → StreamTable
  more table k v = with_classified k v (led table k v) table

  lives-if-admitted : (table : StreamTable) (k : ℕ) (v : Verdict) (session offset : ℕ) → v ≡ verdicts.WebTransport session offset → (led table k v).admitted ≡ true
      → is_gone calls table session ≡ false
  lives-if-admitted table k v session offset is e =
      admit-lives (is_gone calls table session) _ k (sym (ap (λ w. (led table k w).admitted) is) ∙ e)

  dispatched-more : (table : StreamTable) (k : ℕ) (v : Verdict) → IsFresh calls table k
      → dispatched_streams calls (more table k v) ≡ dispatch (dispatched_streams calls table) (record { id = k; verdict = v; admitted = (led table k v).admitted })
  dispatched-more table k v fresh =
      dispatched-one calls table k (with_consequence (led table k v) table.progress) fresh v (led table k v).admitted (lives-if-admitted table k v)

  -- of another stream nothing changes
  pub other-verdict : (table : StreamTable) (k j : ℕ) (v : Verdict) → (k == j) ≡ false → verdict_of j (more table k v).classified ≡ verdict_of j table.classified
  other-verdict table k j v ne = classified-other (record { id = k; verdict = v; admitted = (led table k v).admitted }) j table.classified ne

  pub still-fresh : (table : StreamTable) (k j : ℕ) (v : Verdict) → (k == j) ≡ false → IsFresh calls table j → IsFresh calls (more table k v) j
  still-fresh table k j v ne f = record {
    accepted = f.accepted;
    delivered = f.delivered;
    unestablished = f.unestablished;
    remains = gone-append calls table (record { id = k; verdict = v; admitted = (led table k v).admitted }) (with_consequence (led table k v) table.progress) j
        ∙ rw (f.remains, ne) refl;
  }

  -- these streams are fresh and without a verdict, and none comes twice
  abbrev pub AllFresh : StreamTable → List ℕ → Type 0
  AllFresh table [] = Unit {0}
  AllFresh table (k ∷ ks) = IsFresh calls table k × (verdict_of k table.classified ≡ None) × (is_in k ks ≡ false) × AllFresh table ks

  pub fresh-after : (table : StreamTable) (k : ℕ) (v : Verdict) (ks : List ℕ) → is_in k ks ≡ false → AllFresh table ks → AllFresh (more table k v) ks
  fresh-after table k v [] miss all = tt
  fresh-after table k v (j ∷ ks) miss all =
      let parts = or_parts (j == k) (is_in k ks) miss in
      let ne = eqb-other j k parts.0 in
      (still-fresh table k j v ne all.0, other-verdict table k j v ne ∙ all.1, all.2, fresh-after table k v ks parts.1 all.3)

  pub none-classified : (table : StreamTable) (ks : List ℕ) → AllFresh table ks → filter (is_unclassified table) ks ≡ ks
  none-classified table [] all = refl
  none-classified table (k ∷ ks) all = (λ i. cond (is_none (all.1 i)) (k ∷ filter (is_unclassified table) ks) (filter (is_unclassified table) ks)) ∙ ap (λ xs. k ∷ xs) (none-classified table ks all.3)

  module _ (verdict : ℕ → Verdict) where
    -- a stream that isn't among these keeps its verdict
    pub scan-same : (n j : ℕ) (ks : List ℕ) (table : StreamTable) → is_in j ks ≡ false → verdict_of j (scan t calls verdict n ks table).classified ≡ verdict_of j table.classified
    scan-same n j [] table miss = refl
    scan-same zero j (k ∷ ks) table miss = refl
    scan-same (suc n) j (k ∷ ks) table miss = by table.progress.fault (verdict k) (λ m T. scan-same m j ks T parts.1)
      where
        parts : ((k == j) ≡ false) × (is_in j ks ≡ false)
        parts = or_parts (k == j) (is_in j ks) miss

        classify-same : (v : Verdict) → verdict_of j (classify t calls k v table).classified ≡ verdict_of j table.classified
        classify-same verdicts.Incomplete = refl
        classify-same (verdicts.Control offset) = other-verdict table k j (verdicts.Control offset) parts.0
        classify-same (verdicts.Encoder offset) = other-verdict table k j (verdicts.Encoder offset) parts.0
        classify-same (verdicts.Decoder offset) = other-verdict table k j (verdicts.Decoder offset) parts.0
        classify-same (verdicts.WebTransport session offset) = other-verdict table k j (verdicts.WebTransport session offset) parts.0
        classify-same (verdicts.Request headers offset) = other-verdict table k j (verdicts.Request headers offset) parts.0
        classify-same (verdicts.Refused code) = other-verdict table k j (verdicts.Refused code) parts.0
        classify-same verdicts.Dropped = other-verdict table k j verdicts.Dropped parts.0
        classify-same (verdicts.Fault code) = other-verdict table k j (verdicts.Fault code) parts.0

        by : (o : Option ErrorCode) (v : Verdict) → ((m : ℕ) (T : StreamTable) → verdict_of j (scan t calls verdict m ks T).classified ≡ verdict_of j T.classified)
            → verdict_of j (unless_ended o (λ u. scan t calls verdict (places_after v n) ks (classify t calls k v u)) table).classified ≡ verdict_of j table.classified
        by (Some code) v again = refl
        by None v again = again (places_after v n) (classify t calls k v table) ∙ classify-same v

-- the sessions that live are the same after a stream that is no session's
living-same : (calls : CallView) (table : StreamTable) (c : Classified) (p : DriverProgress) (xs : List Session) → list_any (is_session c.id) xs ≡ false
    → filter (λ (s : Session). not (is_gone calls (with_one table c p) s.id)) xs ≡ filter (λ (s : Session). not (is_gone calls table s.id)) xs
living-same calls table c p [] miss = refl
living-same calls table c p (x ∷ xs) miss =
    let parts = or_parts (x.id == c.id) (list_any (is_session c.id) xs) miss in
    let same : is_gone calls (with_one table c p) x.id ≡ is_gone calls table x.id =
    gone-append calls table c p x.id ∙ rw (eqb-other x.id c.id parts.0) (or-false (is_gone calls table x.id)) in
    let again = living-same calls table c p xs parts.1 in
    λ i. cond (not (same i)) (x ∷ again i) (again i)

module _ (t : TransportView) (calls : CallView) (sent : ControlSent) (open_ : Bool) (us bs : List ℕ) where
  -- what is kept of a table, with these lists
  abbrev pub kept : StreamTable → DriverState
  kept table = record (state_by t calls sent open_ table) { unis = us; bis = bs }

  classified-kept : (table : StreamTable) (k : ℕ) (v : Verdict) → IsFresh calls table k
      → kept (more t calls table k v) ≡ classified_now k v (led t calls table k v) (kept table)
  classified-kept table k v fresh =
      let c : Classified = record { id = k; verdict = v; admitted = (led t calls table k v).admitted } in
      λ i. record {
        unis = us;
        bis = bs;
        dispatched = dispatched-more t calls table k v fresh i;
        closed = λ j. find (is_closed j) table.closed;
        sessions = living-same calls table c (with_consequence (led t calls table k v) table.progress) calls.sessions fresh.unestablished i;
        progress = with_consequence (led t calls table k v) table.progress;
        control_sent = sent;
        is_open = open_;
      }

  module _ (verdict : ℕ → Verdict) where
    -- what a scan of these streams leaves
    abbrev pub left_by : List ℕ → StreamTable → Scanned
    left_by ks table = record { left = filter (is_unclassified table) ks; state = kept table }

    pub scan-follows : (n : ℕ) (ks : List ℕ) (table : StreamTable) → AllFresh t calls table ks
        → scan_ids t verdict n ks (kept table) ≡ left_by ks (scan t calls verdict n ks table)
    scan-follows n [] table all = refl
    scan-follows zero (k ∷ ks) table all = λ i. record { left = sym (none-classified t calls table (k ∷ ks) all) i; state = kept table }
    scan-follows (suc n) (k ∷ ks) table all = by table.progress.fault (verdict k) (λ m T f. scan-follows m ks T f)
      where
        waits : (T : StreamTable) → verdict_of k T.classified ≡ None → left_by (k ∷ ks) T ≡ stays k (left_by ks T)
        waits T e = λ i. record { left = cond (is_none (e i)) (k ∷ filter (is_unclassified T) ks) (filter (is_unclassified T) ks); state = kept T }

        goes : (T : StreamTable) (v : Verdict) → verdict_of k T.classified ≡ Some v → left_by (k ∷ ks) T ≡ left_by ks T
        goes T v e = λ i. record { left = cond (is_none (e i)) (k ∷ filter (is_unclassified T) ks) (filter (is_unclassified T) ks); state = kept T }

        one_more : (v : Verdict) → ((m : ℕ) (T : StreamTable) → AllFresh t calls T ks → scan_ids t verdict m ks (kept T) ≡ left_by ks (scan t calls verdict m ks T))
            → scan_ids t verdict (suc n) ks (classified_now k v (led t calls table k v) (kept table)) ≡ left_by (k ∷ ks) (scan t calls verdict (suc n) ks (more t calls table k v))
        one_more v again =
            ap (scan_ids t verdict (suc n) ks) (sym (classified-kept table k v all.0))
            ∙ again (suc n) (more t calls table k v) (fresh-after t calls table k v ks all.2 all.3)
            ∙ sym (goes (scan t calls verdict (suc n) ks (more t calls table k v)) v
            (scan-same t calls verdict (suc n) k ks (more t calls table k v) all.2
            ∙ classified-here (record { id = k; verdict = v; admitted = (led t calls table k v).admitted }) table.classified all.1))

        by : (o : Option ErrorCode) (v : Verdict) → ((m : ℕ) (T : StreamTable) → AllFresh t calls T ks → scan_ids t verdict m ks (kept T) ≡ left_by ks (scan t calls verdict m ks T))
            → unless_faulty o (λ u. stays_if v k (scan_ids t verdict (places_after v n) ks (classify_now t k v u))) (k ∷ ks) (kept table)
            ≡ left_by (k ∷ ks) (unless_ended o (λ u. scan t calls verdict (places_after v n) ks (classify t calls k v u)) table)
        by (Some code) v again = λ i. record { left = sym (none-classified t calls table (k ∷ ks) all) i; state = kept table }
        by None verdicts.Incomplete again =
            ap (stays k) (again n table all.3)
            ∙ sym (waits (scan t calls verdict n ks table) (scan-same t calls verdict n k ks table all.2 ∙ all.1))
        by None (verdicts.Control offset) again = one_more (verdicts.Control offset) again
        by None (verdicts.Encoder offset) again = one_more (verdicts.Encoder offset) again
        by None (verdicts.Decoder offset) again = one_more (verdicts.Decoder offset) again
        by None (verdicts.WebTransport session offset) again = one_more (verdicts.WebTransport session offset) again
        by None (verdicts.Request headers offset) again = one_more (verdicts.Request headers offset) again
        by None (verdicts.Refused code) again = one_more (verdicts.Refused code) again
        by None verdicts.Dropped again = one_more verdicts.Dropped again
        by None (verdicts.Fault code) again = one_more (verdicts.Fault code) again
