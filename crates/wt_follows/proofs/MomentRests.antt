-- After a whole moment that ends without a fault a driver finds nothing.
use Rattle.std.proofs.Common.{◌∙◌, ◌≡◌, ◌≤◌, ◌+◌, ◌∷◌, Bool, List, None, Option, Some, [], ap, arith, drop, false, inr, length, refl, subst, suc, sym, true, zero, ℕ}
use Rattle.std.proofs.lemmas.List.{length-drop}
use Rattle.std.specs.Prelude.{if◌then◌else◌}
use Rattle.wt_proto.specs.Bi.{bi_verdict_of}
use Rattle.wt_proto.specs.Uni.{uni_verdict_of}
use Rattle.wt_turn.specs.Streams.{local_uni}
use Rattle.wt_sessions.specs.Driver.{ControlSent, control_actions}
use Rattle.wt_sessions.specs.DriverState.{DriverState}
use Rattle.wt_sessions.specs.Scan.{check_control, check_qpack, critical_if, unless_ended, with_no_actions}
use Rattle.wt_sessions.specs.Step.{check_each_now, in_order_now, on_progress_now, scan_bis_now, scan_ids, scan_state, scan_unis_now, take_datagrams_now, take_each_now}
use Rattle.wt_sessions.specs.StreamTable.{Session, TransportView}
use Rattle.wt_follows.proofs.ComesToRest.{Goes, SameStreams, all-run, control-rests, critical-looked, critical-rests, datagrams-rest, qpack-rests, scan-rests, sessions-rest}
use Rattle.wt_follows.specs.Pieces.{AreIncomplete, ControlGoes, FindsNothing, IsIn, QpackRuns, Runs}
use Rattle.wt_wire.specs.declared.error.ErrorCode.{ErrorCode}

-- ---- steps in their order, without a fault

pub order-goes : (fs : List (DriverState → DriverState)) (s : DriverState) → Goes (in_order_now fs s) → Goes s
order-goes [] s g = g
order-goes (f ∷ fs) s g = by s.progress.fault refl (order-goes fs (unless_ended s.progress.fault f s) g)
  where
    by : (o : Option ErrorCode) → s.progress.fault ≡ o → Goes (unless_ended o f s) → Goes s
    by None e h = e
    by (Some code) e h = h

-- the first of them was taken
first-taken : (f : DriverState → DriverState) (fs : List (DriverState → DriverState)) (s : DriverState) → Goes (in_order_now (f ∷ fs) s) → in_order_now (f ∷ fs) s ≡ in_order_now fs (f s)
first-taken f fs s g = let none = order-goes (f ∷ fs) s g in λ i. in_order_now fs (unless_ended (none i) f s)

module _ (t : TransportView) where
  unis-step : (s : DriverState) → Goes (scan_unis_now t s) → (t.ready ≡ true → AreIncomplete (λ k. uni_verdict_of (t.contents k) (t.end k)) 4 (scan_unis_now t s).unis)
  unis-step s g = by t.ready g
    where
      by : (b : Bool) → Goes (if b then (let x = scan_ids t (λ k. uni_verdict_of (t.contents k) (t.end k)) 4 s.unis s in record x.state { unis = x.left }) else s) → b ≡ true
          → AreIncomplete (λ k. uni_verdict_of (t.contents k) (t.end k)) 4 (if b then (let x = scan_ids t (λ k. uni_verdict_of (t.contents k) (t.end k)) 4 s.unis s in record x.state { unis = x.left }) else s).unis
      by true h e = (scan-rests t (λ k. uni_verdict_of (t.contents k) (t.end k)) 4 s.unis s h).incomplete
      by false h e = absurd cc

  bis-step : (s : DriverState) → Goes (scan_bis_now t s) → (t.ready ≡ true → AreIncomplete (λ k. bi_verdict_of (t.contents k) (t.end k)) 4 (scan_bis_now t s).bis) × ((scan_bis_now t s).unis ≡ s.unis)
  bis-step s g = by t.ready g
    where
      by : (b : Bool) → Goes (if b then (let x = scan_ids t (λ k. bi_verdict_of (t.contents k) (t.end k)) 4 s.bis s in record x.state { bis = x.left }) else s)
          → (b ≡ true → AreIncomplete (λ k. bi_verdict_of (t.contents k) (t.end k)) 4 (if b then (let x = scan_ids t (λ k. bi_verdict_of (t.contents k) (t.end k)) 4 s.bis s in record x.state { bis = x.left }) else s).bis)
          × ((if b then (let x = scan_ids t (λ k. bi_verdict_of (t.contents k) (t.end k)) 4 s.bis s in record x.state { bis = x.left }) else s).unis ≡ s.unis)
      by true h = let r = scan-rests t (λ k. bi_verdict_of (t.contents k) (t.end k)) 4 s.bis s h in ((λ e. r.incomplete), r.same.unis)
      by false h = ((λ e. absurd cc), refl)

  past-all : {X : Type 0} (n : ℕ) (xs : List X) → drop (n + length (drop n xs)) xs ≡ []
  past-all n xs = past (n + length (drop n xs)) xs (let l = length-drop n xs in omega (arith, l))
    where
      past : {Y : Type 0} (m : ℕ) (ys : List Y) → length ys ≤ m → drop m ys ≡ []
      past zero [] le = refl
      past (suc m) [] le = refl
      past zero (y ∷ ys) le = absurd (omega arith)
      past (suc m) (y ∷ ys) le = past m ys (omega arith)

  datagrams-step : (s : DriverState) → Goes (take_datagrams_now t s) → (t.ready ≡ true → drop (take_datagrams_now t s).progress.datagrams t.datagrams ≡ []) × SameStreams s (take_datagrams_now t s)
  datagrams-step s g = by t.ready g
    where
      by : (b : Bool) → Goes (if b then take_each_now (drop s.progress.datagrams t.datagrams) s else s)
          → (b ≡ true → drop (if b then take_each_now (drop s.progress.datagrams t.datagrams) s else s).progress.datagrams t.datagrams ≡ []) × SameStreams s (if b then take_each_now (drop s.progress.datagrams t.datagrams) s else s)
      by true h =
          let r = datagrams-rest t (drop s.progress.datagrams t.datagrams) s h in
          ((λ e. ap (λ n. drop n t.datagrams) r.looked ∙ past-all s.progress.datagrams t.datagrams), r.same)
      by false h = ((λ e. absurd cc), record { unis = refl; bis = refl })

  -- ---- all eight

  module _ (s : DriverState) (g : Goes (scan_state t s)) where
    abbrev pub s0 : DriverState
    s0 = on_progress_now with_no_actions s

    abbrev pub s1 : DriverState
    s1 = scan_unis_now t s0

    abbrev pub s2 : DriverState
    s2 = scan_bis_now t s1

    abbrev pub s3 : DriverState
    s3 = take_datagrams_now t s2

    abbrev pub s4 : DriverState
    s4 = check_each_now t s3.sessions s3

    abbrev pub s5 : DriverState
    s5 = on_progress_now (critical_if (t.is_stopped (local_uni t.side))) s4

    abbrev pub s6 : DriverState
    s6 = on_progress_now (check_control t s5.dispatched.control) s5

    abbrev pub s7 : DriverState
    s7 = on_progress_now (check_qpack t s6.dispatched.encoder) s6

    abbrev pub s8 : DriverState
    s8 = on_progress_now (check_qpack t s7.dispatched.decoder) s7

    abbrev after7 : List (DriverState → DriverState)
    after7 = (λ u. on_progress_now (check_qpack t u.dispatched.decoder) u) ∷ []

    abbrev after6 : List (DriverState → DriverState)
    after6 = (λ u. on_progress_now (check_qpack t u.dispatched.encoder) u) ∷ after7

    abbrev after5 : List (DriverState → DriverState)
    after5 = (λ u. on_progress_now (check_control t u.dispatched.control) u) ∷ after6

    abbrev after4 : List (DriverState → DriverState)
    after4 = on_progress_now (critical_if (t.is_stopped (local_uni t.side))) ∷ after5

    abbrev after3 : List (DriverState → DriverState)
    after3 = (λ u. check_each_now t u.sessions u) ∷ after4

    abbrev after2 : List (DriverState → DriverState)
    after2 = take_datagrams_now t ∷ after3

    abbrev after1 : List (DriverState → DriverState)
    after1 = scan_bis_now t ∷ after2

    e1 : scan_state t s ≡ in_order_now after1 s1
    e1 = first-taken (scan_unis_now t) after1 s0 g

    g1 : Goes (in_order_now after1 s1)
    g1 = ap (λ (z : DriverState). z.progress.fault) (sym e1) ∙ g

    e2 : in_order_now after1 s1 ≡ in_order_now after2 s2
    e2 = first-taken (scan_bis_now t) after2 s1 g1

    g2 : Goes (in_order_now after2 s2)
    g2 = ap (λ (z : DriverState). z.progress.fault) (sym e2) ∙ g1

    e3 : in_order_now after2 s2 ≡ in_order_now after3 s3
    e3 = first-taken (take_datagrams_now t) after3 s2 g2

    g3 : Goes (in_order_now after3 s3)
    g3 = ap (λ (z : DriverState). z.progress.fault) (sym e3) ∙ g2

    e4 : in_order_now after3 s3 ≡ in_order_now after4 s4
    e4 = first-taken (λ u. check_each_now t u.sessions u) after4 s3 g3

    g4 : Goes (in_order_now after4 s4)
    g4 = ap (λ (z : DriverState). z.progress.fault) (sym e4) ∙ g3

    e5 : in_order_now after4 s4 ≡ in_order_now after5 s5
    e5 = first-taken (on_progress_now (critical_if (t.is_stopped (local_uni t.side)))) after5 s4 g4

    g5 : Goes (in_order_now after5 s5)
    g5 = ap (λ (z : DriverState). z.progress.fault) (sym e5) ∙ g4

    e6 : in_order_now after5 s5 ≡ in_order_now after6 s6
    e6 = first-taken (λ u. on_progress_now (check_control t u.dispatched.control) u) after6 s5 g5

    g6 : Goes (in_order_now after6 s6)
    g6 = ap (λ (z : DriverState). z.progress.fault) (sym e6) ∙ g5

    e7 : in_order_now after6 s6 ≡ in_order_now after7 s7
    e7 = first-taken (λ u. on_progress_now (check_qpack t u.dispatched.encoder) u) after7 s6 g6

    g7 : Goes (in_order_now after7 s7)
    g7 = ap (λ (z : DriverState). z.progress.fault) (sym e7) ∙ g6

    e8 : in_order_now after7 s7 ≡ s8
    e8 = first-taken (λ u. on_progress_now (check_qpack t u.dispatched.decoder) u) [] s7 g7

    pub all-taken : scan_state t s ≡ s8
    all-taken = e1 ∙ (e2 ∙ (e3 ∙ (e4 ∙ (e5 ∙ (e6 ∙ (e7 ∙ e8))))))

    g8 : Goes s8
    g8 = ap (λ (z : DriverState). z.progress.fault) (sym e8) ∙ g7

    decoder : QpackRuns t s7.dispatched.decoder × (s7.progress.fault ≡ None) × (s8.progress.datagrams ≡ s7.progress.datagrams) × (s8.progress.settings ≡ s7.progress.settings)
    decoder = qpack-rests t s7.dispatched.decoder s7.progress g8

    encoder : QpackRuns t s6.dispatched.encoder × (s6.progress.fault ≡ None) × (s7.progress.datagrams ≡ s6.progress.datagrams) × (s7.progress.settings ≡ s6.progress.settings)
    encoder = qpack-rests t s6.dispatched.encoder s6.progress decoder.1

    control : ControlGoes t s5.dispatched.control s6.progress.settings s6.progress.settings × (s6.progress.datagrams ≡ s5.progress.datagrams) × (s5.progress.fault ≡ None)
    control = control-rests t s5.dispatched.control s5.progress encoder.1

    sessions : (s4.unis ≡ s3.unis) × (s4.bis ≡ s3.bis) × (s4.progress.datagrams ≡ s3.progress.datagrams) × ((y : Session) → IsIn y s4.sessions → Runs t y)
    sessions = let r = sessions-rest t s3.sessions s3 (λ y m. inr m) (order-goes after4 s4 g4) in (r.same.unis, r.same.bis, r.looked, r.run)

    datagrams : (t.ready ≡ true → drop s3.progress.datagrams t.datagrams ≡ []) × SameStreams s2 s3
    datagrams = datagrams-step s2 (order-goes after3 s3 g3)

    bis : (t.ready ≡ true → AreIncomplete (λ k. bi_verdict_of (t.contents k) (t.end k)) 4 s2.bis) × (s2.unis ≡ s1.unis)
    bis = bis-step s1 (order-goes after2 s2 g2)

    unis : t.ready ≡ true → AreIncomplete (λ k. uni_verdict_of (t.contents k) (t.end k)) 4 s1.unis
    unis = unis-step s0 (order-goes after1 s1 g1)

    same-settings : s8.progress.settings ≡ s6.progress.settings
    same-settings = decoder.3 ∙ encoder.3

    same-datagrams : s8.progress.datagrams ≡ s3.progress.datagrams
    same-datagrams = decoder.2 ∙ (encoder.2 ∙ (control.1 ∙ ((critical-looked t (t.is_stopped (local_uni t.side)) s4.progress).0 ∙ sessions.2)))

    -- whatever went out
    pub rests-eight : (sent : ControlSent) (open_ : Bool) → control_actions t.may_open (local_uni t.side) t.credit sent ≡ [] → FindsNothing t (record s8 { control_sent = sent; is_open = open_ }) s8.progress.settings
    rests-eight sent open_ idle = record {
      unis = λ ready. subst (λ (ks : List ℕ). AreIncomplete (λ k. uni_verdict_of (t.contents k) (t.end k)) 4 ks) (sym (sessions.0 ∙ (datagrams.1.unis ∙ bis.1))) (unis ready);
      bis = λ ready. subst (λ (ks : List ℕ). AreIncomplete (λ k. bi_verdict_of (t.contents k) (t.end k)) 4 ks) (sym (sessions.1 ∙ datagrams.1.bis)) (bis.0 ready);
      datagrams = λ ready. ap (λ n. drop n t.datagrams) same-datagrams ∙ datagrams.0 ready;
      sessions = all-run t s4.sessions sessions.3;
      unstopped = (critical-rests t (t.is_stopped (local_uni t.side)) s4.progress control.2).0;
      control = subst (λ (b : Bool). ControlGoes t s5.dispatched.control b b) (sym same-settings) control.0;
      encoder = encoder.0;
      decoder = decoder.0;
      going = g8;
      idle = idle;
    }
