-- The walk over the header of a unidirectional stream, as a reader of it needs it.
use Rattle.std.proofs.Common.{◌≡◌, ℕ, ◌+◌, ◌<◌, ◌≤◌, Bool, true, false, cond, ◌==◌, List, ◌++◌, length, drop, Option, Some, None, refl, arith}
use Rattle.std.proofs.lemmas.Bool.{eqb-true}
use Rattle.std.proofs.lemmas.List.{length-append}
use Rattle.wt_proto.specs.declared.verdict.Verdict.{Verdict}
use Rattle.wt_proto.specs.declared.walk.Step.TheVariants.{Stops}
use Rattle.wt_wire.specs.Varint.{varint_at}
use Rattle.wt_proto.specs.FrameSteps.{step_of_item}
use Rattle.wt_proto.specs.Steady.{IsAwaited, IsLawful}
use Rattle.wt_proto.specs.Uni.{header_by_type, is_final, session_header_at, typed_header_at, uni_decides, uni_effect, uni_header_at, uni_unfinished, uni_verdict_of}
use Rattle.wt_proto.specs.Wanted.{header_wants, uni_wants, varint_wants}
use Rattle.wt_wire.proofs.VarintLaws.{varint_at-more, varint_at-within}
use Rattle.wt_proto.proofs.BiReading.{session-final}
use Rattle.wt_proto.proofs.FrameLaws.{chosen_by}
use Rattle.wt_proto.proofs.UniLaws.{uni-effect, uni-reaches, uni-steady}
use Rattle.wt_proto.proofs.WantedLaws.{AwaitsItem, after-onward, after-still, chosen-onward, item-awaited, varint-few, varint-onward, varint-still}

still-by : (xs ys : List ℕ) (t : ℕ × ℕ) (b : Bool) → (t.0 == 0x54) ≡ b → t.1 ≤ length xs → length (xs ++ ys) < cond b (t.1 + varint_wants (drop t.1 xs)) t.1 → typed_header_at (xs ++ ys) (Some t) ≡ None
still-by xs ys t false e le lt = absurd (omega (arith, length-append xs ys))
still-by xs ys t true e le lt =
    let none : varint_at (drop t.1 (xs ++ ys)) ≡ None = after-still xs ys t.1 le lt in
    rw (eqb-true t.0 0x54 e, none) refl

header-still : (xs ys : List ℕ) (t : Option (ℕ × ℕ)) → varint_at xs ≡ t → length (xs ++ ys) < header_wants xs t → typed_header_at (xs ++ ys) (varint_at (xs ++ ys)) ≡ None
header-still xs ys None e lt = rw (varint-still xs ys lt) refl
header-still xs ys (Some t) e lt = rw (varint_at-more xs ys t e) (still-by xs ys t (t.0 == 0x54) refl (varint_at-within xs t e).2 lt)

session-onward : (offset n u : ℕ) (s : Option (ℕ × ℕ)) → session_header_at offset s ≡ None → (s ≡ None → n < u) → n < u
session-onward offset n u None e f = f refl
session-onward offset n u (Some s) e f = absurd cc

header-onward : (xs : List ℕ) (t : Option (ℕ × ℕ)) → varint_at xs ≡ t → typed_header_at xs t ≡ None → length xs < header_wants xs t
header-onward xs None e f = varint-onward xs e
header-onward xs (Some t) e f =
    chosen_by (t.0 == 0x00) _ _ _ f (λ h. absurd cc) (λ f2.
    chosen_by (t.0 == 0x02) _ _ _ f2 (λ h. absurd cc) (λ f3.
    chosen_by (t.0 == 0x03) _ _ _ f3 (λ h. absurd cc) (λ f4.
    chosen-onward (t.0 == 0x54) (session_header_at t.1 (varint_at (drop t.1 xs))) _ _ _ _ f4
    (λ none. session-onward t.1 (length xs) _ (varint_at (drop t.1 xs)) none (after-onward xs t.1 (varint_at-within xs t e).2)) (λ h. absurd cc))))

header-few : (xs : List ℕ) (t : Option (ℕ × ℕ)) → varint_at xs ≡ t → header_wants xs t ≤ 4112
header-few xs None e = omega (arith, varint-few xs)
header-few xs (Some t) e = few (t.0 == 0x54)
  where
    few : (b : Bool) → cond b (t.1 + varint_wants (drop t.1 xs)) t.1 ≤ 4112
    few true = omega (arith, varint-few (drop t.1 xs), varint_at-within xs t e)
    few false = omega (arith, varint_at-within xs t e)

header-awaited : AwaitsItem uni_header_at uni_wants
unfolding uni_wants
header-awaited = record {
  still = λ xs ys lt. header-still xs ys (varint_at xs) refl lt;
  onward = λ xs e. header-onward xs (varint_at xs) refl e;
  few = λ xs. header-few xs (varint_at xs) refl;
}

uni-awaited : IsAwaited uni_decides uni_wants
unfolding uni_decides
uni-awaited = item-awaited uni_header_at uni_wants header-awaited uni_effect uni-effect

session-header-final : (offset : ℕ) (s : Option (ℕ × ℕ)) (p : Verdict × ℕ) → session_header_at offset s ≡ Some p → is_final p.0 ≡ true
session-header-final offset None p e = absurd cc
session-header-final offset (Some s) p e = let of_item = session-final s.0 (offset + s.1) in cc

plain-final : (v : Verdict) (offset : ℕ) (p : Verdict × ℕ) → is_final v ≡ true → Some (v, offset) ≡ Some p → is_final p.0 ≡ true
plain-final v offset p f e = cc

by_type-final : (kind offset : ℕ) (x : Option (Verdict × ℕ)) (p : Verdict × ℕ) → header_by_type kind offset x ≡ Some p → (x ≡ Some p → is_final p.0 ≡ true) → is_final p.0 ≡ true
by_type-final kind offset x p e f =
    chosen_by (kind == 0x00) _ _ _ e (plain-final _ offset p refl) (λ e2.
    chosen_by (kind == 0x02) _ _ _ e2 (plain-final _ offset p refl) (λ e3.
    chosen_by (kind == 0x03) _ _ _ e3 (plain-final _ offset p refl) (λ e4.
    chosen_by (kind == 0x54) _ _ _ e4 f (plain-final _ offset p refl))))

typed-final : (bytes : List ℕ) (t : Option (ℕ × ℕ)) (p : Verdict × ℕ) → typed_header_at bytes t ≡ Some p → is_final p.0 ≡ true
typed-final bytes None p e = absurd cc
typed-final bytes (Some t) p e = by_type-final t.0 t.1 (session_header_at t.1 (varint_at (drop t.1 bytes))) p e (session-header-final t.1 (varint_at (drop t.1 bytes)) p)

effect-final : (h : Option (Verdict × ℕ)) (w : Verdict) (m : ℕ) → ((p : Verdict × ℕ) → h ≡ Some p → is_final p.0 ≡ true) → step_of_item (uni_effect tt) h ≡ Stops w m → is_final w ≡ true
effect-final None w m final e = absurd cc
effect-final (Some h) w m final e = let is = final h refl in cc

uni-final : (s : Unit {0}) (bytes : List ℕ) (w : Verdict) (n : ℕ) → uni_decides s bytes ≡ Stops w n → is_final w ≡ true
unfolding uni_decides
uni-final s bytes w n e = effect-final (uni_header_at bytes) w n (λ p f. typed-final bytes (varint_at bytes) p f) e

pub uni_lawful : IsLawful tt uni_decides uni_wants uni_unfinished is_final uni_verdict_of
uni_lawful = record { steady = uni-steady; awaited = uni-awaited; reaches = uni-reaches; stops = uni-final; by_end = λ end s t b c. refl }
