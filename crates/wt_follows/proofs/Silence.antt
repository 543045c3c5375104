-- What reads a stream decides whether more bytes of it are found: while its reader shows nothing, a driver at rest finds nothing.
use Rattle.std.proofs.Common.{◌∙◌, ◌≡◌, ◌≤◌, ◌++◌, ◌∷◌, Bool, List, None, Option, Some, [], ap, drop, false, inl, inr, length, refl, subst, suc, sym, take, true, zero, ℕ}
use Rattle.std.proofs.lemmas.Bool.{eq-eqb, eqb-true, false_from_ne_true, true≢false}
use Rattle.std.specs.Prelude.{◌==◌, ◌||◌, if◌then◌else◌, is_some}
use Rattle.wt_proto.specs.SessionWalk.{session_walk_of}
use Rattle.wt_proto.specs.Bi.{bi_verdict_of}
use Rattle.wt_proto.specs.ControlWalk.{control_walk_of}
use Rattle.wt_proto.specs.Uni.{is_final, uni_verdict_of}
use Rattle.wt_proto.specs.declared.session_walk.SessionWalk.TheVariants as walks
use Rattle.wt_proto.specs.declared.verdict.Verdict.{Verdict}
use Rattle.wt_proto.specs.declared.verdict.Verdict.TheVariants as verdicts
use Rattle.wt_sessions.specs.DriverState.{DriverState}
use Rattle.wt_sessions.specs.StreamTable.{Session, TransportView}
use Rattle.wt_follows.specs.Pieces.{AllRun, AreIncomplete, ControlGoes, ControlShows, FindsNothing, GoesIf, IsIn, Runs, ShowsNothing, SilentFront, WalkGoes, is_in, with_bytes}
use Rattle.wt_wire.specs.declared.side.StreamEnd.{StreamEnd}

eq-flip : (a b : ℕ) → (a == b) ≡ false → (b == a) ≡ false
eq-flip a b e = false_from_ne_true (b == a) (λ f. true≢false (sym (eq-eqb a b (sym (eqb-true b a f))) ∙ e))

or-left : (a b : Bool) → a ≡ true → (a || b) ≡ true
or-left true b e = refl
or-left false b e = absurd cc

or-right : (a b : Bool) → b ≡ true → (a || b) ≡ true
or-right true b e = refl
or-right false b e = e

-- headers
pub incomplete-with : (verdict next : ℕ → Verdict) (id : ℕ) → ((k : ℕ) → (k == id) ≡ false → next k ≡ verdict k) → (n : ℕ) (ks : List ℕ) → AreIncomplete verdict n ks
    → (is_in id (take n ks) ≡ true → next id ≡ verdicts.Incomplete) → AreIncomplete next n ks
incomplete-with verdict next id same n [] all h = tt
incomplete-with verdict next id same zero (k ∷ ks) all h = tt
incomplete-with verdict next id same (suc n) (k ∷ ks) all h =
    (by (k == id) refl, incomplete-with verdict next id same n ks all.1 (λ e. h (or-right (k == id) (is_in id (take n ks)) e)))
  where
    by : (b : Bool) → (k == id) ≡ b → next k ≡ verdicts.Incomplete
    by true e = ap next (eqb-true k id e) ∙ h (or-left (k == id) (is_in id (take n ks)) e)
    by false e = same k e ∙ all.0

module _ (t : TransportView) (id : ℕ) (bytes : List ℕ) where
  abbrev u : TransportView
  u = with_bytes t id bytes

  other-bytes : (k : ℕ) → (k == id) ≡ false → u.contents k ≡ t.contents k
  other-bytes k e = ap (λ (b : Bool). if b then bytes else t.contents k) (eq-flip k id e)

  its-bytes : u.contents id ≡ bytes
  its-bytes = ap (λ (b : Bool). if b then bytes else t.contents id) (eq-eqb id id refl)

  runs-with : (x : Session) → Runs t x → (x.id ≡ id → session_walk_of (drop x.offset bytes) (t.end id) ≡ walks.Running) → Runs u x
  runs-with x r b = by (x.id == id) refl
    where
      by : (c : Bool) → (x.id == id) ≡ c → Runs u x
      by true e =
          let same : x.id ≡ id = eqb-true x.id id e in
          (λ i. session_walk_of (drop x.offset ((ap (λ k. u.contents k) same ∙ its-bytes) i)) (t.end (same i))) ∙ b same
      by false e = ap (λ (ys : List ℕ). session_walk_of (drop x.offset ys) (t.end x.id)) (other-bytes x.id e) ∙ r

  pub sessions-with : (xs : List Session) → AllRun t xs → ((x : Session) → x.id ≡ id → IsIn x xs → session_walk_of (drop x.offset bytes) (t.end id) ≡ walks.Running) → AllRun u xs
  sessions-with [] all h = tt
  sessions-with (x ∷ xs) all h = (
    runs-with x all.0 (λ e. h x e (inl refl)),
    sessions-with xs all.1 (λ y e m. h y e (inr m)),
  )

  pub control-with : (o : Option (ℕ × ℕ)) (before came : Bool) → ControlGoes t o before before → ControlShows id o bytes (t.end id) before came → ControlGoes u o before came
  control-with None before came g h = h
  control-with (Some c) before came g h = by (c.0 == id) refl h
    where
      by : (b : Bool) → (c.0 == id) ≡ b → GoesIf b (control_walk_of (drop c.1 bytes) (t.end id)) before came → WalkGoes (control_walk_of (drop c.1 (u.contents c.0)) (t.end c.0)) before came
      by true e shows =
          let same : c.0 ≡ id = eqb-true c.0 id e in
          subst (λ (ys : List ℕ). WalkGoes (control_walk_of (drop c.1 ys) (t.end c.0)) before came) (sym (ap (λ k. u.contents k) same ∙ its-bytes))
          (subst (λ (k : ℕ). WalkGoes (control_walk_of (drop c.1 bytes) (t.end k)) before came) (sym same) shows)
      by false e same =
          let goes : WalkGoes (control_walk_of (drop c.1 (t.contents c.0)) (t.end c.0)) before before = g in
          subst (λ (ys : List ℕ). WalkGoes (control_walk_of (drop c.1 ys) (t.end c.0)) before came) (sym (other-bytes c.0 e)) (goes.0, goes.1 ∙ same)

  -- a driver at rest finds nothing with bytes that show nothing
  pub finds-with : (s : DriverState) (came : Bool) → FindsNothing t s s.progress.settings → ShowsNothing t s id bytes came → FindsNothing u s came
  finds-with s came q h = record {
    unis = λ ready.
        incomplete-with (λ k. uni_verdict_of (t.contents k) (t.end k)) (λ k. uni_verdict_of (u.contents k) (t.end k)) id (λ k e. ap (λ (ys : List ℕ). uni_verdict_of ys (t.end k)) (other-bytes k e)) 4 s.unis (q.unis ready)
        (λ e. ap (λ (ys : List ℕ). uni_verdict_of ys (t.end id)) its-bytes ∙ h.uni e);
    bis = λ ready.
        incomplete-with (λ k. bi_verdict_of (t.contents k) (t.end k)) (λ k. bi_verdict_of (u.contents k) (t.end k)) id (λ k e. ap (λ (ys : List ℕ). bi_verdict_of ys (t.end k)) (other-bytes k e)) 4 s.bis (q.bis ready)
        (λ e. ap (λ (ys : List ℕ). bi_verdict_of ys (t.end id)) its-bytes ∙ h.bi e);
    datagrams = q.datagrams;
    sessions = sessions-with s.sessions q.sessions (λ x e m. h.session x e m);
    unstopped = q.unstopped;
    control = control-with s.dispatched.control s.progress.settings came q.control h.control;
    encoder = q.encoder;
    decoder = q.decoder;
    going = q.going;
    idle = q.idle;
  }

-- ---- roles

not-final : (v : Verdict) → is_final v ≡ false → v ≡ verdicts.Incomplete
not-final verdicts.Incomplete f = refl
not-final (verdicts.Control offset) f = absurd cc
not-final (verdicts.Encoder offset) f = absurd cc
not-final (verdicts.Decoder offset) f = absurd cc
not-final (verdicts.WebTransport session offset) f = absurd cc
not-final (verdicts.Request headers offset) f = absurd cc
not-final (verdicts.Refused code) f = absurd cc
not-final verdicts.Dropped f = absurd cc
not-final (verdicts.Fault code) f = absurd cc

module _ (t : TransportView) (s : DriverState) (id : ℕ) (rests : FindsNothing t s s.progress.settings) where
  -- the stream isn't the control stream
  abbrev pub IsNoControl : Option (ℕ × ℕ) → Type 0
  IsNoControl None = Unit {0}
  IsNoControl (Some c) = (c.0 == id) ≡ false

  -- no session has it
  abbrev pub HasNoSession : Type 0
  HasNoSession = (x : Session) → x.id ≡ id → IsIn x s.sessions → ⊥

  pub no-control : (o : Option (ℕ × ℕ)) (bytes : List ℕ) (end : StreamEnd) (before : Bool) → IsNoControl o → ControlShows id o bytes end before before
  no-control None bytes end before h = refl
  no-control (Some c) bytes end before h = subst (λ (b : Bool). GoesIf b (control_walk_of (drop c.1 bytes) end) before before) (sym h) refl

  -- a unidirectional stream in a slot: its reader takes these bytes before its verdict is final
  pub uni-front : (front : List ℕ) (before : List ℕ) → is_in id (take 4 s.bis) ≡ false → HasNoSession → IsNoControl s.dispatched.control
      → ((k : ℕ) → k ≤ length front → is_final (uni_verdict_of (before ++ take k front) (t.end id)) ≡ false) → SilentFront t id before front s (λ m. s.progress.settings)
  uni-front front before no_bi no_session none running m le =
      finds-with t id (before ++ take (suc m) front) s s.progress.settings rests (record {
        uni = λ e. not-final (uni_verdict_of (before ++ take (suc m) front) (t.end id)) (running (suc m) le);
        bi = λ e. absurd (let q = sym no_bi ∙ e in cc);
        session = λ x e i. absurd (no_session x e i);
        control = no-control s.dispatched.control (before ++ take (suc m) front) (t.end id) s.progress.settings none;
      })

  -- a bidirectional one
  pub bi-front : (front : List ℕ) (before : List ℕ) → is_in id (take 4 s.unis) ≡ false → HasNoSession → IsNoControl s.dispatched.control
      → ((k : ℕ) → k ≤ length front → is_final (bi_verdict_of (before ++ take k front) (t.end id)) ≡ false) → SilentFront t id before front s (λ m. s.progress.settings)
  bi-front front before no_uni no_session none running m le =
      finds-with t id (before ++ take (suc m) front) s s.progress.settings rests (record {
        uni = λ e. absurd (let q = sym no_uni ∙ e in cc);
        bi = λ e. not-final (bi_verdict_of (before ++ take (suc m) front) (t.end id)) (running (suc m) le);
        session = λ x e i. absurd (no_session x e i);
        control = no-control s.dispatched.control (before ++ take (suc m) front) (t.end id) s.progress.settings none;
      })

  -- that of a session: its walk goes on
  pub session-front : (front : List ℕ) (before : List ℕ) → is_in id (take 4 s.unis) ≡ false → is_in id (take 4 s.bis) ≡ false → IsNoControl s.dispatched.control
      → ((x : Session) (k : ℕ) → x.id ≡ id → IsIn x s.sessions → k ≤ length front → session_walk_of (drop x.offset (before ++ take k front)) (t.end id) ≡ walks.Running)
      → SilentFront t id before front s (λ m. s.progress.settings)
  session-front front before no_uni no_bi none running m le =
      finds-with t id (before ++ take (suc m) front) s s.progress.settings rests (record {
        uni = λ e. absurd (let q = sym no_uni ∙ e in cc);
        bi = λ e. absurd (let q = sym no_bi ∙ e in cc);
        session = λ x e i. running x (suc m) e i le;
        control = no-control s.dispatched.control (before ++ take (suc m) front) (t.end id) s.progress.settings none;
      })

  -- one that nobody reads: a whole piece is found by no moment
  pub nobody-front : (front : List ℕ) (before : List ℕ) → is_in id (take 4 s.unis) ≡ false → is_in id (take 4 s.bis) ≡ false → HasNoSession → IsNoControl s.dispatched.control
      → SilentFront t id before front s (λ m. s.progress.settings)
  nobody-front front before no_uni no_bi no_session none m le =
      finds-with t id (before ++ take (suc m) front) s s.progress.settings rests (record {
        uni = λ e. absurd (let q = sym no_uni ∙ e in cc);
        bi = λ e. absurd (let q = sym no_bi ∙ e in cc);
        session = λ x e i. absurd (no_session x e i);
        control = no-control s.dispatched.control (before ++ take (suc m) front) (t.end id) s.progress.settings none;
      })

  -- the control stream: its walk found no fault, and says whether SETTINGS came
  pub control-front : (front : List ℕ) (before : List ℕ) (offset : ℕ) → s.dispatched.control ≡ Some (id, offset) → is_in id (take 4 s.unis) ≡ false → is_in id (take 4 s.bis) ≡ false → HasNoSession
      → ((k : ℕ) → k ≤ length front → (control_walk_of (drop offset (before ++ take k front)) (t.end id)).fault ≡ None)
      → SilentFront t id before front s (λ m. s.progress.settings || is_some (control_walk_of (drop offset (before ++ take (suc m) front)) (t.end id)).settings)
  control-front front before offset is no_uni no_bi no_session running m le =
      finds-with t id (before ++ take (suc m) front) s (s.progress.settings || is_some (control_walk_of (drop offset (before ++ take (suc m) front)) (t.end id)).settings) rests (record {
        uni = λ e. absurd (let q = sym no_uni ∙ e in cc);
        bi = λ e. absurd (let q = sym no_bi ∙ e in cc);
        session = λ x e i. absurd (no_session x e i);
        control =
            subst (λ (o : Option (ℕ × ℕ)). ControlShows id o (before ++ take (suc m) front) (t.end id) s.progress.settings (s.progress.settings || is_some (control_walk_of (drop offset (before ++ take (suc m) front)) (t.end id)).settings)) (sym is)
            (subst (λ (b : Bool). GoesIf b (control_walk_of (drop offset (before ++ take (suc m) front)) (t.end id)) s.progress.settings (s.progress.settings || is_some (control_walk_of (drop offset (before ++ take (suc m) front)) (t.end id)).settings)) (sym (eq-eqb id id refl))
            (running (suc m) le, refl));
      })
