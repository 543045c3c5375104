-- A whole moment on what is kept is that of the definitions.
use Rattle.std.proofs.Common.{◌≡◌, ℕ, zero, suc, Bool, true, false, cond, List, [], ◌∷◌, ◌++◌, filter, is_none, refl, sym, ap, ◌∙◌, arith}
use Rattle.std.specs.Prelude.{Option, Some, None, ◌==◌, ◌||◌, ◌&&◌, drop}
use Rattle.std.proofs.lemmas.Bool.{or_parts}
use Rattle.wt_proto.specs.Bi.{bi_verdict_of}
use Rattle.wt_proto.specs.Uni.{uni_verdict_of}
use Rattle.wt_proto.specs.declared.verdict.Verdict.{Verdict}
use Rattle.wt_proto.specs.declared.verdict.Verdict.TheVariants as verdicts
use Rattle.wt_turn.specs.Streams.{local_uni}
use Rattle.wt_sessions.proofs.Scans.{AllFresh, IsFresh, filter-filter, is_in, led, left_by, more, scan-follows, scan-same, still-fresh}
use Rattle.wt_sessions.proofs.Steps.{AreDistinct, AreUnreceived, check-follows, kept_of, take-follows}
use Rattle.wt_sessions.specs.DriverState.{DriverState}
use Rattle.wt_sessions.specs.Step.{Scanned, check_each_now, in_order_now, on_progress_now, scan_bis_now, scan_ids, scan_state, scan_unis_now, steps_now, take_datagrams_now, take_each_now}
use Rattle.wt_sessions.specs.Driver.{ControlSent}
use Rattle.wt_sessions.specs.Scan.{bi_ids, check_control, check_qpack, check_sessions, classify, critical_if, in_order, is_unclassified, on_progress, places_after, scan, scan_bis, scan_kind, scan_order, scan_unis, steps, take_datagrams, uni_ids, take_each, unless_ended, with_fault, with_more, with_no_actions}
use Rattle.wt_sessions.specs.StreamTable.{CallView, Classified, DriverProgress, StreamTable, TransportView, control_start, decoder_start, encoder_start, first_at, verdict_of}
use Rattle.wt_wire.specs.declared.error.ErrorCode.{ErrorCode}

-- ---- lists

pub miss-filter : (p : ℕ → Bool) (j : ℕ) (ks : List ℕ) → is_in j ks ≡ false → is_in j (filter p ks) ≡ false
miss-filter p j [] e = refl
miss-filter p j (k ∷ ks) e = by (p k) (or_parts (k == j) (is_in j ks) e) (miss-filter p j ks (or_parts (k == j) (is_in j ks) e).1)
  where
    by : (b : Bool) → ((k == j) ≡ false) × (is_in j ks ≡ false) → is_in j (filter p ks) ≡ false → is_in j (cond b (k ∷ filter p ks) (filter p ks)) ≡ false
    by true parts again = (λ i. parts.0 i || is_in j (filter p ks)) ∙ again
    by false parts again = again

-- none of these ids is among those
abbrev pub AllMiss : List ℕ → List ℕ → Type 0
AllMiss us [] = Unit {0}
AllMiss us (j ∷ js) = (is_in j us ≡ false) × AllMiss us js

module _ (t : TransportView) (calls : CallView) where
  -- each of these ids comes once, and one without a verdict is fresh
  abbrev pub Sound : StreamTable → List ℕ → Type 0
  Sound table [] = Unit {0}
  Sound table (k ∷ ks) = (verdict_of k table.classified ≡ None → IsFresh calls table k) × (is_in k ks ≡ false) × Sound table ks

  fresh-filter : (table : StreamTable) (ks : List ℕ) → Sound table ks → AllFresh t calls table (filter (is_unclassified table) ks)
  fresh-filter table [] s = tt
  fresh-filter table (k ∷ ks) s = by (verdict_of k table.classified) refl (fresh-filter table ks s.2)
    where
      by : (o : Option Verdict) → verdict_of k table.classified ≡ o → AllFresh t calls table (filter (is_unclassified table) ks)
          → AllFresh t calls table (cond (is_none o) (k ∷ filter (is_unclassified table) ks) (filter (is_unclassified table) ks))
      by None e again = (s.0 e, e, miss-filter (is_unclassified table) k ks s.1, again)
      by (Some v) e again = again

  module _ (verdict : ℕ → Verdict) where
    -- a scan leaves a stream that isn't among those as fresh as it was
    scan-fresh : (n j : ℕ) (ks : List ℕ) (table : StreamTable) → is_in j ks ≡ false → IsFresh calls table j → IsFresh calls (scan t calls verdict n ks table) j
    scan-fresh n j [] table miss f = f
    scan-fresh zero j (k ∷ ks) table miss f = f
    scan-fresh (suc n) j (k ∷ ks) table miss f = by table.progress.fault (verdict k) (λ m T g. scan-fresh m j ks T (or_parts (k == j) (is_in j ks) miss).1 g)
      where
        ne : (k == j) ≡ false
        ne = (or_parts (k == j) (is_in j ks) miss).0

        one : (v : Verdict) → IsFresh calls (classify t calls k v table) j
        one verdicts.Incomplete = f
        one (verdicts.Control offset) = still-fresh t calls table k j (verdicts.Control offset) ne f
        one (verdicts.Encoder offset) = still-fresh t calls table k j (verdicts.Encoder offset) ne f
        one (verdicts.Decoder offset) = still-fresh t calls table k j (verdicts.Decoder offset) ne f
        one (verdicts.WebTransport session offset) = still-fresh t calls table k j (verdicts.WebTransport session offset) ne f
        one (verdicts.Request headers offset) = still-fresh t calls table k j (verdicts.Request headers offset) ne f
        one (verdicts.Refused code) = still-fresh t calls table k j (verdicts.Refused code) ne f
        one verdicts.Dropped = still-fresh t calls table k j verdicts.Dropped ne f
        one (verdicts.Fault code) = still-fresh t calls table k j (verdicts.Fault code) ne f

        by : (o : Option ErrorCode) (v : Verdict) → ((m : ℕ) (T : StreamTable) → IsFresh calls T j → IsFresh calls (scan t calls verdict m ks T) j)
            → IsFresh calls (unless_ended o (λ u. scan t calls verdict (places_after v n) ks (classify t calls k v u)) table) j
        by (Some code) v again = f
        by None v again = again (places_after v n) (classify t calls k v table) (one v)

    sound-after : (n : ℕ) (ks js : List ℕ) (table : StreamTable) → AllMiss ks js → Sound table js → Sound (scan t calls verdict n ks table) js
    sound-after n ks [] table miss s = tt
    sound-after n ks (j ∷ js) table miss s =
        ((λ e. scan-fresh n j ks table miss.0 (s.0 (sym (scan-same t calls verdict n j ks table miss.0) ∙ e))), s.1, sound-after n ks js table miss.1 s.2)

    same-lists : (n : ℕ) (ks js : List ℕ) (table : StreamTable) → AllMiss ks js
        → filter (is_unclassified (scan t calls verdict n ks table)) js ≡ filter (is_unclassified table) js
    same-lists n ks [] table miss = refl
    same-lists n ks (j ∷ js) table miss =
        let again = same-lists n ks js table miss.1 in
        λ i. cond (is_none (scan-same t calls verdict n j ks table miss.0 i)) (j ∷ again i) (again i)

    -- what has a verdict keeps it
    classified-stays : (j : ℕ) (v : Verdict) (cs more : List Classified) → verdict_of j cs ≡ Some v → verdict_of j (cs ++ more) ≡ Some v
    classified-stays j v [] more e = absurd cc
    classified-stays j v (x ∷ xs) more e = by (x.id == j) e (classified-stays j v xs more)
      where
        by : (b : Bool) → cond b (Some x.verdict) (verdict_of j xs) ≡ Some v → (verdict_of j xs ≡ Some v → verdict_of j (xs ++ more) ≡ Some v)
            → cond b (Some x.verdict) (verdict_of j (xs ++ more)) ≡ Some v
        by true f again = f
        by false f again = again f

    pub scan-keeps : (n j : ℕ) (w : Verdict) (ks : List ℕ) (table : StreamTable) → verdict_of j table.classified ≡ Some w → verdict_of j (scan t calls verdict n ks table).classified ≡ Some w
    scan-keeps n j w [] table e = e
    scan-keeps zero j w (k ∷ ks) table e = e
    scan-keeps (suc n) j w (k ∷ ks) table e = by table.progress.fault (verdict k) (λ m T f. scan-keeps m j w ks T f)
      where
        one : (v : Verdict) → verdict_of j (classify t calls k v table).classified ≡ Some w
        one verdicts.Incomplete = e
        one (verdicts.Control offset) = classified-stays j w table.classified _ e
        one (verdicts.Encoder offset) = classified-stays j w table.classified _ e
        one (verdicts.Decoder offset) = classified-stays j w table.classified _ e
        one (verdicts.WebTransport session offset) = classified-stays j w table.classified _ e
        one (verdicts.Request headers offset) = classified-stays j w table.classified _ e
        one (verdicts.Refused code) = classified-stays j w table.classified _ e
        one verdicts.Dropped = classified-stays j w table.classified _ e
        one (verdicts.Fault code) = classified-stays j w table.classified _ e

        by : (o : Option ErrorCode) (v : Verdict) → ((m : ℕ) (T : StreamTable) → verdict_of j T.classified ≡ Some w → verdict_of j (scan t calls verdict m ks T).classified ≡ Some w)
            → verdict_of j (unless_ended o (λ u. scan t calls verdict (places_after v n) ks (classify t calls k v u)) table).classified ≡ Some w
        by (Some code) v again = e
        by None v again = again (places_after v n) (classify t calls k v table) (one v)

    -- those without a verdict after a scan are among those before it
    pub fewer : (n : ℕ) (ks : List ℕ) (table : StreamTable) (j : ℕ)
        → is_unclassified (scan t calls verdict n ks table) j ≡ (is_unclassified table j && is_unclassified (scan t calls verdict n ks table) j)
    fewer n ks table j = by (verdict_of j table.classified) refl
      where
        by : (o : Option Verdict) → verdict_of j table.classified ≡ o
            → is_unclassified (scan t calls verdict n ks table) j ≡ (is_none o && is_unclassified (scan t calls verdict n ks table) j)
        by None e = refl
        by (Some w) e = ap is_none (scan-keeps n j w ks table e)

miss-less : (p : ℕ → Bool) (us js : List ℕ) → AllMiss us js → AllMiss (filter p us) js
miss-less p us [] miss = tt
miss-less p us (j ∷ js) miss = (miss-filter p j us miss.0, miss-less p us js miss.1)

module _ (t : TransportView) (calls : CallView) (sent : ControlSent) (open_ : Bool) where
  abbrev S : StreamTable → DriverState
  S table = kept_of t calls sent open_ table

  abbrev uni_verdict : ℕ → Verdict
  uni_verdict k = uni_verdict_of (t.contents k) (t.end k)

  abbrev bi_verdict : ℕ → Verdict
  bi_verdict k = bi_verdict_of (t.contents k) (t.end k)

  unis-follow : (table : StreamTable) → Sound t calls table (uni_ids t) → AllMiss (uni_ids t) (bi_ids t) → S (scan_unis t calls table) ≡ scan_unis_now t (S table)
  unis-follow table sound miss = by t.ready
    where
      us : List ℕ
      us = filter (is_unclassified table) (uni_ids t)

      bs : List ℕ
      bs = filter (is_unclassified table) (bi_ids t)

      later : StreamTable
      later = scan t calls uni_verdict 4 us table

      x : Scanned
      x = scan_ids t uni_verdict 4 us (S table)

      e : x ≡ left_by t calls sent open_ us bs uni_verdict us later
      e = scan-follows t calls sent open_ us bs uni_verdict 4 us table (fresh-filter t calls table (uni_ids t) sound)

      lists : S later ≡ record (left_by t calls sent open_ us bs uni_verdict us later).state { unis = (left_by t calls sent open_ us bs uni_verdict us later).left }
      lists = λ i. record (S later) {
        unis = filter-filter (is_unclassified later) (is_unclassified table) (is_unclassified later) (fewer t calls uni_verdict 4 us table) (uni_ids t) i;
        bis = same-lists t calls uni_verdict 4 us (bi_ids t) table (miss-less (is_unclassified table) (uni_ids t) (bi_ids t) miss) i;
      }

      by : (b : Bool) → S (cond b later table) ≡ cond b (record x.state { unis = x.left }) (S table)
      by true = lists ∙ sym (ap (λ (y : Scanned). record y.state { unis = y.left }) e)
      by false = refl

  bis-follow : (table : StreamTable) → Sound t calls table (bi_ids t) → AllMiss (bi_ids t) (uni_ids t) → S (scan_bis t calls table) ≡ scan_bis_now t (S table)
  bis-follow table sound miss = by t.ready
    where
      us : List ℕ
      us = filter (is_unclassified table) (uni_ids t)

      bs : List ℕ
      bs = filter (is_unclassified table) (bi_ids t)

      later : StreamTable
      later = scan t calls bi_verdict 4 bs table

      x : Scanned
      x = scan_ids t bi_verdict 4 bs (S table)

      e : x ≡ left_by t calls sent open_ us bs bi_verdict bs later
      e = scan-follows t calls sent open_ us bs bi_verdict 4 bs table (fresh-filter t calls table (bi_ids t) sound)

      lists : S later ≡ record (left_by t calls sent open_ us bs bi_verdict bs later).state { bis = (left_by t calls sent open_ us bs bi_verdict bs later).left }
      lists = λ i. record (S later) {
        unis = same-lists t calls bi_verdict 4 bs (uni_ids t) table (miss-less (is_unclassified table) (bi_ids t) (uni_ids t) miss) i;
        bis = filter-filter (is_unclassified later) (is_unclassified table) (is_unclassified later) (fewer t calls bi_verdict 4 bs table) (bi_ids t) i;
      }

      by : (b : Bool) → S (cond b later table) ≡ cond b (record x.state { bis = x.left }) (S table)
      by true = lists ∙ sym (ap (λ (y : Scanned). record y.state { bis = y.left }) e)
      by false = refl

  -- ---- one step after another

  unless-follows : (step : StreamTable → StreamTable) (now : DriverState → DriverState) (table : StreamTable) (o : Option ErrorCode) → S (step table) ≡ now (S table)
      → S (unless_ended o step table) ≡ unless_ended o now (S table)
  unless-follows step now table None e = e
  unless-follows step now table (Some code) e = refl

  -- ---- what the steps before leave for those after

  fault-datagrams : (o : Option ErrorCode) (p : DriverProgress) → (with_fault o p).datagrams ≡ p.datagrams
  fault-datagrams None p = refl
  fault-datagrams (Some code) p = refl

  more-datagrams : (table : StreamTable) (k : ℕ) (v : Verdict) → (more t calls table k v).progress.datagrams ≡ table.progress.datagrams
  more-datagrams table k v = fault-datagrams (led t calls table k v).fault (with_more (led t calls table k v).actions table.progress)

  module _ (verdict : ℕ → Verdict) where
    pub scan-datagrams : (n : ℕ) (ks : List ℕ) (table : StreamTable) → (scan t calls verdict n ks table).progress.datagrams ≡ table.progress.datagrams
    scan-datagrams n [] table = refl
    scan-datagrams zero (k ∷ ks) table = refl
    scan-datagrams (suc n) (k ∷ ks) table = by table.progress.fault (verdict k) (λ m T. scan-datagrams m ks T)
      where
        one : (v : Verdict) → (classify t calls k v table).progress.datagrams ≡ table.progress.datagrams
        one verdicts.Incomplete = refl
        one (verdicts.Control offset) = more-datagrams table k (verdicts.Control offset)
        one (verdicts.Encoder offset) = more-datagrams table k (verdicts.Encoder offset)
        one (verdicts.Decoder offset) = more-datagrams table k (verdicts.Decoder offset)
        one (verdicts.WebTransport session offset) = more-datagrams table k (verdicts.WebTransport session offset)
        one (verdicts.Request headers offset) = more-datagrams table k (verdicts.Request headers offset)
        one (verdicts.Refused code) = more-datagrams table k (verdicts.Refused code)
        one verdicts.Dropped = more-datagrams table k verdicts.Dropped
        one (verdicts.Fault code) = more-datagrams table k (verdicts.Fault code)

        by : (o : Option ErrorCode) (v : Verdict) → ((m : ℕ) (T : StreamTable) → (scan t calls verdict m ks T).progress.datagrams ≡ T.progress.datagrams)
            → (unless_ended o (λ u. scan t calls verdict (places_after v n) ks (classify t calls k v u)) table).progress.datagrams ≡ table.progress.datagrams
        by (Some code) v again = refl
        by None v again = again (places_after v n) (classify t calls k v table) ∙ one v

    pub kind-datagrams : (ids : List ℕ) (table : StreamTable) → (scan_kind t calls verdict ids table).progress.datagrams ≡ table.progress.datagrams
    kind-datagrams ids table = by t.ready
      where
        by : (b : Bool) → (cond b (scan t calls verdict 4 (filter (is_unclassified table) ids) table) table).progress.datagrams ≡ table.progress.datagrams
        by true = scan-datagrams 4 (filter (is_unclassified table) ids) table
        by false = refl

  unless-datagrams : (step : StreamTable → StreamTable) (table : StreamTable) (o : Option ErrorCode) → (step table).progress.datagrams ≡ table.progress.datagrams
      → (unless_ended o step table).progress.datagrams ≡ table.progress.datagrams
  unless-datagrams step table None e = e
  unless-datagrams step table (Some code) e = refl

  unis-sound : (table : StreamTable) → Sound t calls table (bi_ids t) → AllMiss (uni_ids t) (bi_ids t) → Sound t calls (scan_unis t calls table) (bi_ids t)
  unis-sound table sound miss = by t.ready
    where
      by : (b : Bool) → Sound t calls (cond b (scan t calls uni_verdict 4 (filter (is_unclassified table) (uni_ids t)) table) table) (bi_ids t)
      by true = sound-after t calls uni_verdict 4 (filter (is_unclassified table) (uni_ids t)) (bi_ids t) table (miss-less (is_unclassified table) (uni_ids t) (bi_ids t) miss) sound
      by false = sound

  unless-sound : (table : StreamTable) (o : Option ErrorCode) → Sound t calls table (bi_ids t) → AllMiss (uni_ids t) (bi_ids t) → Sound t calls (unless_ended o (scan_unis t calls) table) (bi_ids t)
  unless-sound table None sound miss = unis-sound table sound miss
  unless-sound table (Some code) sound miss = sound

  datagrams-follow : (table : StreamTable) → AreUnreceived t calls sent open_ table.progress.datagrams → S (take_datagrams t calls table) ≡ take_datagrams_now t (S table)
  datagrams-follow table un = by t.ready
    where
      by : (b : Bool) → S (cond b (take_each calls (drop table.progress.datagrams t.datagrams) table) table)
          ≡ cond b (take_each_now (drop table.progress.datagrams t.datagrams) (S table)) (S table)
      by true = take-follows t calls sent open_ (drop table.progress.datagrams t.datagrams) table un
      by false = refl

  -- ---- the moment

  -- what a moment rests on: the ids of the peer's streams come once, what has no verdict is fresh, no datagram that wasn't looked at was
  -- received, and no session stands twice
  pub record MayWork (table : StreamTable) : Type 0 where
    pub unis : Sound t calls table (uni_ids t)
    pub bis : Sound t calls table (bi_ids t)
    pub apart : AllMiss (uni_ids t) (bi_ids t)
    pub apart_too : AllMiss (bi_ids t) (uni_ids t)
    pub unreceived : AreUnreceived t calls sent open_ table.progress.datagrams
    pub distinct : AreDistinct calls.sessions

  -- the steps lead to the same, one after another
  abbrev Commutes : List (StreamTable → StreamTable) → List (DriverState → DriverState) → StreamTable → Type 0
  Commutes [] [] table = Unit {0}
  Commutes (f ∷ fs) (g ∷ gs) table = (S (f table) ≡ g (S table)) × Commutes fs gs (unless_ended table.progress.fault f table)
  Commutes _ _ table = ⊥

  in-order : (fs : List (StreamTable → StreamTable)) (gs : List (DriverState → DriverState)) (table : StreamTable) → Commutes fs gs table
      → S (in_order fs table) ≡ in_order_now gs (S table)
  in-order [] [] table c = refl
  in-order (f ∷ fs) (g ∷ gs) table c =
      in-order fs gs (unless_ended table.progress.fault f table) c.1 ∙ ap (in_order_now gs) (unless-follows f g table table.progress.fault c.0)
  in-order [] (g ∷ gs) table c = absurd c
  in-order (f ∷ fs) [] table c = absurd c

  abbrev decoder_step : StreamTable → StreamTable
  decoder_step table = on_progress (check_qpack t (first_at decoder_start table.classified)) table

  abbrev encoder_step : StreamTable → StreamTable
  encoder_step table = on_progress (check_qpack t (first_at encoder_start table.classified)) table

  abbrev control_step : StreamTable → StreamTable
  control_step table = on_progress (check_control t (first_at control_start table.classified)) table

  abbrev decoder_now : DriverState → DriverState
  decoder_now s = on_progress_now (check_qpack t s.dispatched.decoder) s

  abbrev encoder_now : DriverState → DriverState
  encoder_now s = on_progress_now (check_qpack t s.dispatched.encoder) s

  abbrev control_now : DriverState → DriverState
  control_now s = on_progress_now (check_control t s.dispatched.control) s

  from-decoder : (table : StreamTable) → Commutes (decoder_step ∷ []) (decoder_now ∷ []) table
  from-decoder table = (refl, tt)

  from-encoder : (table : StreamTable) → Commutes (encoder_step ∷ decoder_step ∷ []) (encoder_now ∷ decoder_now ∷ []) table
  from-encoder table = (refl, from-decoder (unless_ended table.progress.fault encoder_step table))

  from-control : (table : StreamTable) → Commutes (control_step ∷ encoder_step ∷ decoder_step ∷ []) (control_now ∷ encoder_now ∷ decoder_now ∷ []) table
  from-control table = (refl, from-encoder (unless_ended table.progress.fault control_step table))

  abbrev critical_step : StreamTable → StreamTable
  critical_step table = on_progress (critical_if (t.is_stopped (local_uni t.side))) table

  abbrev critical_now : DriverState → DriverState
  critical_now s = on_progress_now (critical_if (t.is_stopped (local_uni t.side))) s

  abbrev last_steps : List (StreamTable → StreamTable)
  last_steps = critical_step ∷ control_step ∷ encoder_step ∷ decoder_step ∷ []

  abbrev last_now : List (DriverState → DriverState)
  last_now = critical_now ∷ control_now ∷ encoder_now ∷ decoder_now ∷ []

  from-critical : (table : StreamTable) → Commutes last_steps last_now table
  from-critical table = (refl, from-control (unless_ended table.progress.fault critical_step table))

  from-sessions : (table : StreamTable) → AreDistinct calls.sessions → Commutes (check_sessions t calls ∷ last_steps) ((λ s. check_each_now t s.sessions s) ∷ last_now) table
  from-sessions table distinct = (
    check-follows t calls sent open_ calls.sessions table distinct,
    from-critical (unless_ended table.progress.fault (check_sessions t calls) table),
  )

  from-datagrams : (table : StreamTable) → AreDistinct calls.sessions → AreUnreceived t calls sent open_ table.progress.datagrams
      → Commutes (take_datagrams t calls ∷ check_sessions t calls ∷ last_steps) (take_datagrams_now t ∷ (λ s. check_each_now t s.sessions s) ∷ last_now) table
  from-datagrams table distinct un = (datagrams-follow table un, from-sessions (unless_ended table.progress.fault (take_datagrams t calls) table) distinct)

  un-by : (m n : ℕ) → n ≡ m → AreUnreceived t calls sent open_ m → AreUnreceived t calls sent open_ n
  un-by m n e un k le = un k (omega (arith, e, le))

  from-bis : (table : StreamTable) → Sound t calls table (bi_ids t) → AllMiss (bi_ids t) (uni_ids t) → AreDistinct calls.sessions → AreUnreceived t calls sent open_ table.progress.datagrams
      → Commutes (scan_bis t calls ∷ take_datagrams t calls ∷ check_sessions t calls ∷ last_steps) (scan_bis_now t ∷ take_datagrams_now t ∷ (λ s. check_each_now t s.sessions s) ∷ last_now) table
  from-bis table sound miss distinct un = (
    bis-follow table sound miss,
    from-datagrams (unless_ended table.progress.fault (scan_bis t calls) table) distinct
        (un-by table.progress.datagrams _ (unless-datagrams (scan_bis t calls) table table.progress.fault (kind-datagrams bi_verdict (bi_ids t) table)) un),
  )

  -- the whole moment, from its first step
  pub moment-follows : (table : StreamTable) → MayWork table → S (in_order (steps t calls) table) ≡ in_order_now (steps_now t) (S table)
  moment-follows table may =
      in-order (steps t calls) (steps_now t) table (
        unis-follow table may.unis may.apart,
        from-bis (unless_ended table.progress.fault (scan_unis t calls) table) (unless-sound table table.progress.fault may.bis may.apart) may.apart_too may.distinct
            (un-by table.progress.datagrams _ (unless-datagrams (scan_unis t calls) table table.progress.fault (kind-datagrams uni_verdict (uni_ids t) table)) may.unreceived),
      )

  pub scan-state : (table : StreamTable) → MayWork (on_progress with_no_actions table) → S (scan_order t calls table) ≡ scan_state t (S table)
  scan-state table may = moment-follows (on_progress with_no_actions table) may
