-- A moment that ends without a fault leaves nothing to find: a second one finds nothing.
use Rattle.std.proofs.Common.{◌∙◌, ◌≡◌, ◌+◌, ◌∷◌, ◌⊎◌, Bool, List, None, Option, Some, [], ap, arith, cond, drop, false, filter, inl, inr, length, refl, subst, suc, sym, true, zero, ℕ}
use Rattle.std.proofs.lemmas.Bool.{eq-eqb, true≢false}
use Rattle.std.specs.Prelude.{◌*◌, ◌==◌, ◌||◌, Err, Ok, Result, is_some, not}
use Rattle.wt_proto.specs.SessionWalk.{is_over, session_walk_of}
use Rattle.wt_message.specs.Datagram.{datagram_of}
use Rattle.wt_proto.specs.ControlWalk.{control_walk_of}
use Rattle.wt_proto.specs.declared.control_walk.ControlWalk.{ControlWalk}
use Rattle.wt_proto.specs.declared.session_walk.SessionWalk.{SessionWalk}
use Rattle.wt_proto.specs.declared.session_walk.SessionWalk.TheVariants as walks
use Rattle.wt_proto.specs.declared.verdict.Verdict.{Verdict}
use Rattle.wt_proto.specs.declared.verdict.Verdict.TheVariants as verdicts
use Rattle.wt_turn.specs.Reports.{is_running}
use Rattle.wt_sessions.specs.DriverState.{DriverState}
use Rattle.wt_sessions.specs.Scan.{check_control, check_qpack, control_read, critical_if, is_admitted, places_after, unless_ended, with_fault}
use Rattle.wt_sessions.specs.Step.{Scanned, check_each_now, check_session_now, classify_now, parsed_now, place_now, scan_ids, stays_if, take_each_now, unless_faulty, walked_now}
use Rattle.wt_sessions.specs.StreamTable.{DriverProgress, Session, TransportView}
use Rattle.wt_follows.specs.Pieces.{AllRun, AreIncomplete, ControlGoes, IsIn, QpackRuns, Runs, WalkGoes}
use Rattle.wt_wire.specs.declared.error.ErrorCode.{ErrorCode}
use Rattle.wt_wire.specs.declared.side.StreamEnd.TheVariants as ends

abbrev pub Goes : DriverState → Type 0
Goes s = s.progress.fault ≡ None

-- the streams of both kinds that have no verdict
pub record SameStreams (s z : DriverState) : Type 0 where
  pub unis : z.unis ≡ s.unis
  pub bis : z.bis ≡ s.bis

same-streams : (s : DriverState) → SameStreams s s
same-streams s = record { unis = refl; bis = refl }

then-same : (s y z : DriverState) → SameStreams s y → SameStreams y z → SameStreams s z
then-same s y z a b = record { unis = b.unis ∙ a.unis; bis = b.bis ∙ a.bis }

module _ (t : TransportView) where
  -- ---- the headers

  classify-same : (k : ℕ) (v : Verdict) (s : DriverState) → SameStreams s (classify_now t k v s)
  classify-same k verdicts.Incomplete s = same-streams s
  classify-same k (verdicts.Control offset) s = record { unis = refl; bis = refl }
  classify-same k (verdicts.Encoder offset) s = record { unis = refl; bis = refl }
  classify-same k (verdicts.Decoder offset) s = record { unis = refl; bis = refl }
  classify-same k (verdicts.WebTransport session offset) s = record { unis = refl; bis = refl }
  classify-same k (verdicts.Request headers offset) s = record { unis = refl; bis = refl }
  classify-same k (verdicts.Refused code) s = record { unis = refl; bis = refl }
  classify-same k verdicts.Dropped s = record { unis = refl; bis = refl }
  classify-same k (verdicts.Fault code) s = record { unis = refl; bis = refl }

  -- a scan ends without a fault only where it began without one, leaves the first n without a verdict, and changes no list
  pub record ScanRests (verdict : ℕ → Verdict) (n : ℕ) (s : DriverState) (z : Scanned) : Type 0 where
    pub began : Goes s
    pub incomplete : AreIncomplete verdict n z.left
    pub same : SameStreams s z.state

  scan-stays : (verdict : ℕ → Verdict) (n k : ℕ) (s : DriverState) (v : Verdict) → verdict k ≡ v → Goes s → (z : Scanned) → ScanRests verdict (places_after v n) (classify_now t k v s) z → ScanRests verdict (suc n) s (stays_if v k z)
  scan-stays verdict n k s verdicts.Incomplete e going z r = record { began = going; incomplete = (e, r.incomplete); same = r.same }
  scan-stays verdict n k s (verdicts.Control offset) e going z r = record { began = going; incomplete = r.incomplete; same = record { unis = r.same.unis; bis = r.same.bis } }
  scan-stays verdict n k s (verdicts.Encoder offset) e going z r = record { began = going; incomplete = r.incomplete; same = record { unis = r.same.unis; bis = r.same.bis } }
  scan-stays verdict n k s (verdicts.Decoder offset) e going z r = record { began = going; incomplete = r.incomplete; same = record { unis = r.same.unis; bis = r.same.bis } }
  scan-stays verdict n k s (verdicts.WebTransport session offset) e going z r = record { began = going; incomplete = r.incomplete; same = record { unis = r.same.unis; bis = r.same.bis } }
  scan-stays verdict n k s (verdicts.Request headers offset) e going z r = record { began = going; incomplete = r.incomplete; same = record { unis = r.same.unis; bis = r.same.bis } }
  scan-stays verdict n k s (verdicts.Refused code) e going z r = record { began = going; incomplete = r.incomplete; same = record { unis = r.same.unis; bis = r.same.bis } }
  scan-stays verdict n k s verdicts.Dropped e going z r = record { began = going; incomplete = r.incomplete; same = record { unis = r.same.unis; bis = r.same.bis } }
  scan-stays verdict n k s (verdicts.Fault code) e going z r = record { began = going; incomplete = r.incomplete; same = record { unis = r.same.unis; bis = r.same.bis } }

  pub state-same : (v : Verdict) (k : ℕ) (z : Scanned) → (stays_if v k z).state ≡ z.state
  state-same verdicts.Incomplete k z = refl
  state-same (verdicts.Control offset) k z = refl
  state-same (verdicts.Encoder offset) k z = refl
  state-same (verdicts.Decoder offset) k z = refl
  state-same (verdicts.WebTransport session offset) k z = refl
  state-same (verdicts.Request headers offset) k z = refl
  state-same (verdicts.Refused code) k z = refl
  state-same verdicts.Dropped k z = refl
  state-same (verdicts.Fault code) k z = refl

  pub scan-rests : (verdict : ℕ → Verdict) (n : ℕ) (ks : List ℕ) (s : DriverState) → Goes (scan_ids t verdict n ks s).state → ScanRests verdict n s (scan_ids t verdict n ks s)
  scan-rests verdict n [] s going = record { began = going; incomplete = tt; same = same-streams s }
  scan-rests verdict zero (k ∷ ks) s going = record { began = going; incomplete = tt; same = same-streams s }
  scan-rests verdict (suc n) (k ∷ ks) s going = by s.progress.fault refl going (λ m. scan-rests verdict m ks (classify_now t k (verdict k) s))
    where
      by : (o : Option ErrorCode) → s.progress.fault ≡ o
          → Goes (unless_faulty o (λ u. stays_if (verdict k) k (scan_ids t verdict (places_after (verdict k) n) ks (classify_now t k (verdict k) u))) (k ∷ ks) s).state
          → ((m : ℕ) → Goes (scan_ids t verdict m ks (classify_now t k (verdict k) s)).state → ScanRests verdict m (classify_now t k (verdict k) s) (scan_ids t verdict m ks (classify_now t k (verdict k) s)))
          → ScanRests verdict (suc n) s (unless_faulty o (λ u. stays_if (verdict k) k (scan_ids t verdict (places_after (verdict k) n) ks (classify_now t k (verdict k) u))) (k ∷ ks) s)
      by (Some code) f g again = absurd (let q = sym f ∙ g in cc)
      by None f g again =
          let z : Scanned = scan_ids t verdict (places_after (verdict k) n) ks (classify_now t k (verdict k) s) in
          scan-stays verdict n k s (verdict k) refl f z (again (places_after (verdict k) n) (ap (λ (x : DriverState). x.progress.fault) (sym (state-same (verdict k) k z)) ∙ g))

  -- ---- the datagrams

  -- all were looked at, none changes a list
  pub record DatagramsRest (count : ℕ) (s z : DriverState) : Type 0 where
    pub began : Goes s
    pub looked : z.progress.datagrams ≡ s.progress.datagrams + count
    pub same : SameStreams s z
    pub sessions : z.sessions ≡ s.sessions

  placed : (b : Bool) (session : ℕ) (payload : List ℕ) (s : DriverState) → DatagramsRest 1 s (place_now b session payload s) ⊎ (Goes s → ⊥)
  placed b session payload s = by s.progress.fault refl
    where
      by : (o : Option ErrorCode) → s.progress.fault ≡ o → DatagramsRest 1 s (place_now b session payload s) ⊎ (Goes s → ⊥)
      by (Some code) f = inr (λ g. let q = sym f ∙ g in cc)
      by None f = inl (at b)
        where
          at : (c : Bool) → DatagramsRest 1 s (place_now c session payload s)
          at true = record { began = f; looked = omega arith; same = record { unis = refl; bis = refl }; sessions = refl }
          at false = record { began = f; looked = omega arith; same = record { unis = refl; bis = refl }; sessions = refl }

  parsed : (r : Result (ℕ × List ℕ) ErrorCode) (s : DriverState) → Goes s → Goes (parsed_now r s) → DatagramsRest 1 s (parsed_now r s)
  parsed (Ok d) s f g = elim (placed (is_admitted s.dispatched (4 * d.0)) (4 * d.0) d.1 s) [ inl r ↦ r | inr no_ ↦ absurd (no_ f) ]
  parsed (Err code) s f g = absurd cc

  pub datagrams-rest : (pieces : List (List ℕ)) (s : DriverState) → Goes (take_each_now pieces s) → DatagramsRest (length pieces) s (take_each_now pieces s)
  datagrams-rest [] s g = record { began = g; looked = omega arith; same = same-streams s; sessions = refl }
  datagrams-rest (piece ∷ later) s g = by s.progress.fault refl g (datagrams-rest later (parsed_now (datagram_of piece) s))
    where
      by : (o : Option ErrorCode) → s.progress.fault ≡ o → Goes (unless_ended o (λ u. take_each_now later (parsed_now (datagram_of piece) u)) s)
          → (Goes (take_each_now later (parsed_now (datagram_of piece) s)) → DatagramsRest (length later) (parsed_now (datagram_of piece) s) (take_each_now later (parsed_now (datagram_of piece) s)))
          → DatagramsRest (suc (length later)) s (unless_ended o (λ u. take_each_now later (parsed_now (datagram_of piece) u)) s)
      by (Some code) f h again = absurd (let q = sym f ∙ h in cc)
      by None f h again =
          let rest = again h in
          let one = parsed (datagram_of piece) s f rest.began in
          record { began = f; looked = omega (arith, rest.looked, one.looked); same = then-same s (parsed_now (datagram_of piece) s) (take_each_now later (parsed_now (datagram_of piece) s)) one.same rest.same; sessions = rest.sessions ∙ one.sessions }

  -- ---- the sessions

  pub filter-in : (p : Session → Bool) (y : Session) (xs : List Session) → IsIn y (filter p xs) → IsIn y xs × (p y ≡ true)
  filter-in p y [] m = absurd m
  filter-in p y (x ∷ xs) m = by (p x) refl m (filter-in p y xs)
    where
      by : (b : Bool) → p x ≡ b → IsIn y (cond b (x ∷ filter p xs) (filter p xs)) → (IsIn y (filter p xs) → IsIn y xs × (p y ≡ true)) → IsIn y (x ∷ xs) × (p y ≡ true)
      by true e (inl same) again = (inl same, ap p (sym same) ∙ e)
      by true e (inr rest) again = let r = again rest in (inr r.0, r.1)
      by false e rest again = let r = again rest in (inr r.0, r.1)

  -- those that still live after the check of these go on; no list changes, and no datagram is looked at
  pub record SessionsRest (s z : DriverState) : Type 0 where
    pub began : Goes s
    pub same : SameStreams s z
    pub looked : z.progress.datagrams ≡ s.progress.datagrams
    pub run : (y : Session) → IsIn y z.sessions → Runs t y

  pub sessions-rest : (xs : List Session) (s : DriverState) → ((y : Session) → IsIn y s.sessions → Runs t y ⊎ IsIn y xs) → Goes (check_each_now t xs s) → SessionsRest s (check_each_now t xs s)
  sessions-rest [] s h g = record { began = g; same = same-streams s; looked = refl; run = λ y m. elim (h y m) [ inl r ↦ r | inr none ↦ absurd none ] }
  sessions-rest (x ∷ xs) s h g = by s.progress.fault refl (session_walk_of (drop x.offset (t.contents x.id)) (t.end x.id)) refl g (λ u. sessions-rest xs u)
    where
      capsule : Bool
      capsule = is_over (session_walk_of (drop x.offset (t.contents x.id)) ends.Running)

      moved : Session → Type 0
      moved y = Runs t y ⊎ IsIn y xs

      by : (o : Option ErrorCode) → s.progress.fault ≡ o → (w : SessionWalk) → session_walk_of (drop x.offset (t.contents x.id)) (t.end x.id) ≡ w
          → Goes (unless_ended o (λ u. check_each_now t xs (walked_now t x.id capsule w u)) s)
          → ((u : DriverState) → ((y : Session) → IsIn y u.sessions → Runs t y ⊎ IsIn y xs) → Goes (check_each_now t xs u) → SessionsRest u (check_each_now t xs u))
          → SessionsRest s (unless_ended o (λ u. check_each_now t xs (walked_now t x.id capsule w u)) s)
      by (Some code) f w e q again = absurd (let p = sym f ∙ q in cc)
      by None f walks.Running e q again =
          again s (λ y m. elim (h y m) [
            | inl r ↦ inl r
            | inr (inl same) ↦ inl (subst (λ (z : Session). Runs t z) same e)
            | inr (inr rest) ↦ inr rest
          ]) q
      by None f (walks.Closed code reason) e q again =
          let u : DriverState = walked_now t x.id capsule (walks.Closed code reason) s in
          let r = again u (λ y m. let kept = filter-in (λ (z : Session). not (x.id == z.id)) y s.sessions m in elim (h y kept.0) [
            | inl r ↦ inl r
            | inr (inl same) ↦ absurd (let yes_ : (x.id == y.id) ≡ true = eq-eqb x.id y.id (ap (λ (z : Session). z.id) same) in true≢false (sym kept.1 ∙ ap not yes_))
            | inr (inr rest) ↦ inr rest
          ]) q in
          record { began = f; same = record { unis = r.same.unis; bis = r.same.bis }; looked = r.looked; run = r.run }
      by None f (walks.Fault code) e q again =
          let u : DriverState = walked_now t x.id capsule (walks.Fault code) s in
          absurd (let stuck = faulty xs u (λ n. let p : Some code ≡ None = n in cc) in stuck q)
        where
          faulty : (ys : List Session) (u : DriverState) → (Goes u → ⊥) → Goes (check_each_now t ys u) → ⊥
          faulty [] u no_ r = no_ r
          faulty (y ∷ ys) u no_ r = at u.progress.fault refl r
            where
              at : (o : Option ErrorCode) → u.progress.fault ≡ o → Goes (unless_ended o (λ v. check_each_now t ys (check_session_now t y.id (drop y.offset (t.contents y.id)) (t.end y.id) v)) u) → ⊥
              at None f2 r2 = no_ f2
              at (Some c2) f2 r2 = no_ r2

  pub all-run : (xs : List Session) → ((y : Session) → IsIn y xs → Runs t y) → AllRun t xs
  all-run [] h = tt
  all-run (x ∷ xs) h = (h x (inl refl), all-run xs (λ y m. h y (inr m)))

  -- ---- the streams on which the connection rests

  pub critical-rests : (b : Bool) (p : DriverProgress) → (critical_if b p).fault ≡ None → (b ≡ false) × (p.fault ≡ None)
  critical-rests true p g = absurd cc
  critical-rests false p g = (refl, g)

  pub critical-looked : (b : Bool) (p : DriverProgress) → ((critical_if b p).datagrams ≡ p.datagrams) × ((critical_if b p).settings ≡ p.settings)
  critical-looked true p = (refl, refl)
  critical-looked false p = (refl, refl)

  pub qpack-rests : (o : Option (ℕ × ℕ)) (p : DriverProgress) → (check_qpack t o p).fault ≡ None → QpackRuns t o × (p.fault ≡ None) × ((check_qpack t o p).datagrams ≡ p.datagrams) × ((check_qpack t o p).settings ≡ p.settings)
  qpack-rests None p g = (tt, g, refl, refl)
  qpack-rests (Some c) p g =
      let r = critical-rests (not (is_running (t.end c.0))) p g in
      let same = critical-looked (not (is_running (t.end c.0))) p in
      (not-not (is_running (t.end c.0)) r.0, r.1, same.0, same.1)
    where
      not-not : (b : Bool) → not b ≡ false → b ≡ true
      not-not true e = refl
      not-not false e = absurd (true≢false e)

  or-same : (a b : Bool) → ((a || b) || b) ≡ (a || b)
  or-same true b = refl
  or-same false true = refl
  or-same false false = refl

  pub control-rests : (o : Option (ℕ × ℕ)) (p : DriverProgress) → (check_control t o p).fault ≡ None
      → ControlGoes t o (check_control t o p).settings (check_control t o p).settings × ((check_control t o p).datagrams ≡ p.datagrams) × (p.fault ≡ None)
  control-rests None p g = (refl, refl, g)
  control-rests (Some c) p g = by (control_walk_of (drop c.1 (t.contents c.0)) (t.end c.0)) g
    where
      by : (w : ControlWalk) → (control_read w p).fault ≡ None → WalkGoes w (control_read w p).settings (control_read w p).settings × ((control_read w p).datagrams ≡ p.datagrams) × (p.fault ≡ None)
      by w h = at w.fault refl h
        where
          at : (f : Option ErrorCode) → w.fault ≡ f → (with_fault f (record p { settings = p.settings || is_some w.settings })).fault ≡ None
              → WalkGoes w (with_fault f (record p { settings = p.settings || is_some w.settings })).settings (with_fault f (record p { settings = p.settings || is_some w.settings })).settings
              × ((with_fault f (record p { settings = p.settings || is_some w.settings })).datagrams ≡ p.datagrams) × (p.fault ≡ None)
          at None e i = ((e, or-same p.settings (is_some w.settings)), refl, i)
          at (Some code) e i = absurd cc
