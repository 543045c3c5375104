-- At one moment a session becomes gone once.
use Rattle.std.specs.Prelude.{[], ◌++◌, ◌==◌, ◌||◌, ◌∷◌, ◌≡◌, Bool, List, None, Option, Some, drop, false, if◌then◌else◌, is_some, length, true, ℕ}
use Rattle.std.specs.List.{list_any}
use Rattle.std.specs.Option.{option_or}
use Rattle.std.proofs.Common.{◌∙◌, ap, append_assoc, refl, subst, sym}
use Rattle.std.proofs.Math.Seq.{drop-append_seam}
use Rattle.std.proofs.lemmas.Bool.{eqb-true}
use Rattle.std.proofs.lemmas.List.{append-nil}
use Rattle.std.proofs.lemmas.List.Folds.{list_any-append}
use Rattle.wt_meaning.specs.Findings.{Classified, Finding, SessionClosed, first_of, is_classified, verdict_in, verdict_of}
use Rattle.wt_meaning.specs.History.{History, Pair}
use Rattle.wt_meaning.specs.Moments.{findings, keeps, stream_fault}
use Rattle.wt_meaning.specs.Windows.{is_established, is_gone, is_gone_by_call, lives, makes_gone}
use Rattle.wt_promise.proofs.Accepted.{and-left, and-right, not-true, or-first, or-true}
use Rattle.wt_promise.proofs.Behind.{behind-append, behind-none}
use Rattle.wt_promise.proofs.Flow.{clash}
use Rattle.wt_promise.proofs.Grows.{AClassified, AClosed, ADatagram, ADequeued, AFault, ASettings, Adds, Nothing, findings-keep, first_of-append, first_of-stays, is_peers, news, news-dropped, of-stream-fault}
use Rattle.wt_promise.specs.Promise.{NoneBehind}
use Rattle.wt_proto.specs.declared.verdict.Verdict.{Verdict}
use Rattle.wt_wire.specs.declared.side.Side.{Side}
use Rattle.wt_proto.specs.declared.verdict.Verdict.TheVariants as verdicts

abbrev pub Once : ℕ → List Finding → Type 0
Once s found = NoneBehind (makes_gone s) (makes_gone s) found

-- a session that is found gone was classified, or is established
data Known (h : History) (s : ℕ) (found : List Finding) : Type 0 where
  AsClassified : is_classified found s ≡ true → Known h s found
  AsEstablished : is_established h s ≡ true → Known h s found

-- the findings so far are those before and some more, of which one makes the session gone
record Since (side : Side) (h before : History) (s : ℕ) (found : List Finding) : Type 0 where
  more : List Finding
  grown : found ≡ findings side before ++ more
  once : Once s more
  known : list_any (makes_gone s) more ≡ true → Known h s found

-- the stream of an established session, where it is the peer's, was classified before
abbrev pub StreamKnown : Side → History → History → ℕ → Type 0
StreamKnown side h before s = is_established h s ≡ true → is_peers side s ≡ true → is_classified (findings side before) s ≡ true

classified-more : (found new : List Finding) (s : ℕ) → is_classified found s ≡ true → is_classified (found ++ new) s ≡ true
classified-more found new s e = by (verdict_of found s) refl e
  where
    by : (o : Option Verdict) → verdict_of found s ≡ o → is_some o ≡ true → is_classified (found ++ new) s ≡ true
    by None i q = absurd (cc q)
    by (Some v) i q = ap is_some (first_of-stays (verdict_in s) found new v i)

classified-new : (found more : List Finding) (v : Verdict) (b : Bool) (j s : ℕ) → (j == s) ≡ true → is_classified (found ++ (Classified j v b ∷ more)) s ≡ true
classified-new found more v b j s e =
    ap is_some (first_of-append (verdict_in s) found (Classified j v b ∷ more) ∙ ap (λ (x : Bool). option_or (verdict_of found s) (option_or (if x then Some v else None) (first_of (verdict_in s) more))) e) ∙ last (verdict_of found s)
  where
    last : (o : Option Verdict) → is_some (option_or o (Some v)) ≡ true
    last None = refl
    last (Some w) = refl

known-more : (h : History) (s : ℕ) (found new : List Finding) → Known h s found → Known h s (found ++ new)
known-more h s found new (AsClassified e) = AsClassified (classified-more found new s e)
known-more h s found new (AsEstablished e) = AsEstablished e

-- what makes no session gone
plain : (side : Side) (h before : History) (s : ℕ) (found new : List Finding) → list_any (makes_gone s) new ≡ false → Since side h before s found → Since side h before s (found ++ new)
plain side h before s found new n g = record {
  more = g.more ++ new;
  grown = ap (λ (xs : List Finding). xs ++ new) g.grown ∙ append_assoc (findings side before) g.more new;
  once = behind-append (makes_gone s) (makes_gone s) g.more new g.once (behind-none (makes_gone s) (makes_gone s) new n) (λ r. n);
  known = λ e. known-more h s found new (g.known (or-first (list_any (makes_gone s) g.more) (list_any (makes_gone s) new) (sym (list_any-append (makes_gone s) g.more new) ∙ e) n));
}

-- what does, is the first that does
adding : (side : Side) (h before : History) (s : ℕ) (found new : List Finding) → Once s new → (g : Since side h before s found) → (list_any (makes_gone s) g.more ≡ true → ⊥) → Known h s (found ++ new) → Since side h before s (found ++ new)
adding side h before s found new o g f k = record {
  more = g.more ++ new;
  grown = ap (λ (xs : List Finding). xs ++ new) g.grown ∙ append_assoc (findings side before) g.more new;
  once = behind-append (makes_gone s) (makes_gone s) g.more new g.once o (λ r. absurd (f r));
  known = λ e. k;
}

gone-found : (side : Side) (h before : History) (s : ℕ) (found : List Finding) (g : Since side h before s found) → list_any (makes_gone s) g.more ≡ true → is_gone h found s ≡ true
gone-found side h before s found g r =
    ap (λ (b : Bool). is_gone_by_call h s || b)
    (ap (list_any (makes_gone s)) g.grown ∙ list_any-append (makes_gone s) (findings side before) g.more ∙ ap (λ (b : Bool). list_any (makes_gone s) (findings side before) || b) r ∙ or-true (list_any (makes_gone s) (findings side before)))
    ∙ or-true (is_gone_by_call h s)

none-fault : (s : ℕ) (found : List Finding) (v : Verdict) → list_any (makes_gone s) (stream_fault found v) ≡ false
none-fault s = of-stream-fault (λ (fs : List Finding). list_any (makes_gone s) fs ≡ false) refl (λ code. refl)

-- a verdict makes its own stream's session gone
of-itself : (j s : ℕ) (v : Verdict) (b : Bool) → makes_gone s (Classified j v b) ≡ true → (j == s) ≡ true
of-itself j s (verdicts.Refused code) b e = e
of-itself j s (verdicts.Request headers offset) false e = e
of-itself j s v b e = absurd (cc e)

step : (side : Side) (h before : History) (s : ℕ) → StreamKnown side h before s → (found new : List Finding) → Adds side h found new → Since side h before s found → Since side h before s (found ++ new)
step side h before s k found [] Nothing g = plain side h before s found [] refl g
step side h before s k found new (ADequeued j p) g = plain side h before s found new refl g
step side h before s k found new (ADatagram n t payload c) g = plain side h before s found new refl g
step side h before s k found new (ASettings c) g = plain side h before s found new refl g
step side h before s k found new (AFault code) g = plain side h before s found new refl g
step side h before s k found new (AClosed t code reason b l) g = by (t == s) refl
  where
    lived : (t == s) ≡ true → lives h found s ≡ true
    lived q = ap (lives h found) (sym (eqb-true t s q)) ∙ l

    by : (x : Bool) → (t == s) ≡ x → Since side h before s (found ++ (SessionClosed t code reason b ∷ []))
    by false q = plain side h before s found _ (ap (λ (x : Bool). x || false) q) g
    by true q =
        adding side h before s found _ ((λ r. refl), tt) g
        (λ r. clash (is_gone h found s) (gone-found side h before s found g r) (not-true (is_gone h found s) (and-right (is_established h s) _ (lived q)))) (AsEstablished (and-left (is_established h s) _ (lived q)))
step side h before s k found new (AClassified j v more p d c w m) g = by (makes_gone s (Classified j v (keeps h found v))) refl
  where
    none-more : list_any (makes_gone s) more ≡ false
    none-more = ap (list_any (makes_gone s)) m ∙ none-fault s found v

    unknown : (j == s) ≡ true → Known h s found → ⊥
    unknown q (AsClassified e) = clash (is_classified found s) e (ap (is_classified found) (sym (eqb-true j s q)) ∙ c)
    unknown q (AsEstablished e) =
        clash (is_classified found s)
        (ap (λ (xs : List Finding). is_classified xs s) g.grown ∙ classified-more (findings side before) g.more s (k e (ap (is_peers side) (sym (eqb-true j s q)) ∙ p)))
        (ap (is_classified found) (sym (eqb-true j s q)) ∙ c)

    by : (x : Bool) → makes_gone s (Classified j v (keeps h found v)) ≡ x → Since side h before s (found ++ (Classified j v (keeps h found v) ∷ more))
    by false q = plain side h before s found _ (ap (λ (x : Bool). x || list_any (makes_gone s) more) q ∙ none-more) g
    by true q =
        let i = of-itself j s v (keeps h found v) q in
        adding side h before s found _ ((λ r. none-more), behind-none (makes_gone s) (makes_gone s) more none-more) g (λ r. unknown i (g.known r)) (AsClassified (classified-new found more v (keeps h found v) j s i))

pub gone-once : (side : Side) (p : Pair) (h : History) (s : ℕ) → StreamKnown side (p ∷ h) h s → Once s (news side p h)
gone-once side p h s k = subst (Once s) same g.once
  where
    g : Since side (p ∷ h) h s (findings side (p ∷ h))
    g = findings-keep side p h (Since side (p ∷ h) h s) (λ found new a n x. step side (p ∷ h) h s k found new a x)
        (record { more = []; grown = sym (append-nil (findings side h)); once = tt; known = λ x. absurd (cc x) })

    same : g.more ≡ news side p h
    same = sym (drop-append_seam (findings side h) g.more) ∙ ap (drop (length (findings side h))) (sym g.grown) ∙ news-dropped side p h
