-- Where a walk that counts its bytes stops: the offset that its outcome tells.
use Rattle.std.proofs.Common.{arith, ◌≡◌, ◌≤◌, ◌+◌, ◌-◌, ℕ, zero, suc, Bool, true, false, List, [], ◌∷◌, ◌++◌, length, take, drop, Option, Some, None, refl, sym, ap, subst, ◌∙◌, Result, Ok, Err}
use Rattle.std.specs.Prelude.{unwrap_or, ◌%◌, ◌==◌, if◌then◌else◌}
use Rattle.std.proofs.lemmas.List.{length-take, take-append-drop}
use Rattle.wt_wire.specs.declared.error.ErrorCode.{ErrorCode}
use Rattle.wt_wire.specs.declared.error.ErrorCode.TheVariants.{Id}
use Rattle.wt_wire.specs.declared.side.StreamEnd.{StreamEnd}
use Rattle.wt_wire.specs.declared.side.StreamEnd.TheVariants.{Running, Fin, Reset}
use Rattle.wt_wire.specs.Frames as frames
use Rattle.wt_wire.specs.FieldSection.{headers_of}
use Rattle.wt_wire.specs.HeaderList.{Fields}
use Rattle.wt_wire.specs.Varint.{varint_at}
use Rattle.wt_message.specs.declared.session.HeadersParseError.{HeadersParseError}
use Rattle.wt_message.specs.declared.session.HeadersParseError.TheVariants.{MethodNotConnect, Other}
use Rattle.wt_message.specs.Requests.{request_of}
use Rattle.wt_proto.specs.declared.walk.Step.{Step}
use Rattle.wt_proto.specs.declared.walk.Step.TheVariants.{Cut, Goes, Stops}
use Rattle.wt_proto.specs.declared.verdict.Verdict.{Verdict}
use Rattle.wt_proto.specs.declared.verdict.Verdict.TheVariants as verdicts
use Rattle.wt_proto.specs.FrameSteps.{step_of_item}
use Rattle.wt_proto.specs.Steady.{IsSteady, size_of_step}
use Rattle.wt_proto.specs.Walk.{Reached, step_on, outcome_at, walk, whole_walk}
use Rattle.wt_proto.specs.Uni.{at_stream_end, header_by_type, is_final, session_header_at, session_verdict, typed_header_at, uni_decides, uni_effect, uni_header_at, uni_unfinished, uni_verdict_of}
use Rattle.wt_proto.specs.Bi.{bi_decides, bi_effect, bi_unfinished, bi_verdict_of, headers_verdict, parsed_verdict}
use Rattle.wt_proto.proofs.FrameLaws.{chosen_by}
use Rattle.wt_proto.proofs.UniReading.{uni_lawful}
use Rattle.wt_proto.proofs.BiReading.{bi_lawful}

-- the offset after the header, where there is one
abbrev pub verdict_offset : Verdict → Option ℕ
verdict_offset (verdicts.WebTransport session offset) = Some offset
verdict_offset (verdicts.Control offset) = Some offset
verdict_offset (verdicts.Encoder offset) = Some offset
verdict_offset (verdicts.Decoder offset) = Some offset
verdict_offset (verdicts.Request request offset) = Some offset
verdict_offset _ = None

-- an outcome with an offset: it is within the bytes, and the bytes up to it make the outcome final
pub record IsOffset {O : Type 0} (final : O → Bool) (outcome_of : List ℕ → StreamEnd → O) (offset : O → Option ℕ) : Type 0 where
  pub within : (bytes : List ℕ) (end : StreamEnd) (start : ℕ) → offset (outcome_of bytes end) ≡ Some start → start ≤ length bytes
  pub decides : (bytes : List ℕ) (end : StreamEnd) (start : ℕ) → offset (outcome_of bytes end) ≡ Some start → final (outcome_of (take start bytes) Running) ≡ true

module _ {S O : Type 0} (decide : S → List ℕ → Step S O) (steady : IsSteady decide) (place_of : S → ℕ) (offset : O → Option ℕ)
    (goes : (s : S) (xs : List ℕ) (t : S) (n : ℕ) → decide s xs ≡ Goes t n → place_of t ≡ place_of s + n)
    (stops : (s : S) (xs : List ℕ) (o : O) (n g : ℕ) → decide s xs ≡ Stops o n → offset o ≡ Some g → g ≡ place_of s + n) where
  -- the first n bytes of these stop the walk
  record Early (s : S) (stop : Option O) (rest : ℕ) (bytes : List ℕ) (o : O) : Type 0 where
    count : ℕ
    within : count ≤ length bytes
    far : rest ≤ count
    early : (walk decide s stop rest (take count bytes)).stop ≡ Some o
    reported : (g : ℕ) → offset o ≡ Some g → stop ≡ None → g + rest ≡ place_of s + count
    there : (p : O) → stop ≡ Some p → (count ≡ rest) × (p ≡ o)

  front-same : (s : S) (b : ℕ) (xs : List ℕ) (k n : ℕ) (d : Step S O) → decide s (b ∷ xs) ≡ d → size_of_step d ≡ Some n → n ≤ suc k → k ≤ length xs → decide s (b ∷ take k xs) ≡ d
  front-same s b xs k n d e t l w =
      let whole : (b ∷ take k xs) ++ drop k xs ≡ b ∷ xs = ap (λ ys. b ∷ ys) (take-append-drop k xs) in
      let same : decide s ((b ∷ take k xs) ++ drop k xs) ≡ d = ap (λ ys. decide s ys) whole ∙ e in
      let long : length (take k xs) ≡ k = omega (arith, length-take k xs) in
      steady.front s (b ∷ take k xs) (drop k xs) n (ap (λ x. size_of_step x) same ∙ t) (omega arith) ∙ same

  early-item : (s : S) (b : ℕ) (xs : List ℕ) (o : O) → ((t : S) (stop : Option O) (n : ℕ) → (walk decide t stop n xs).stop ≡ Some o → Early t stop n xs o)
      → (d : Step S O) → decide s (b ∷ xs) ≡ d → (step_on (record { state = s; stop = None; between = false }) (λ t stop n. walk decide t stop (n - 1) xs) s d).stop ≡ Some o → Early s None 0 (b ∷ xs) o
  early-item s b xs o again Cut e f = absurd cc
  early-item s b xs o again (Goes t n) e f =
      let p = again t None (n - 1) f in
      let some : 1 ≤ n = steady.some s (b ∷ xs) n (ap (λ x. size_of_step x) e) in
      let same_step : decide s (b ∷ take p.count xs) ≡ Goes t n = front-same s b xs p.count n (Goes t n) e refl (omega (arith, p.far)) p.within in
      let following : place_of t ≡ place_of s + n = goes s (b ∷ xs) t n e in
      record {
        count = suc p.count;
        within = omega (arith, p.within);
        far = omega arith;
        early = rw same_step p.early;
        reported = λ g h _. (let e2 : g + (n - 1) ≡ place_of t + p.count = p.reported g h refl in omega arith);
        there = λ q h. absurd cc;
      }
  early-item s b xs o again (Stops q n) e f =
      let p = again s (Some q) (n - 1) f in
      let some : 1 ≤ n = steady.some s (b ∷ xs) n (ap (λ x. size_of_step x) e) in
      let same_step : decide s (b ∷ take p.count xs) ≡ Stops q n = front-same s b xs p.count n (Stops q n) e refl (omega (arith, p.far)) p.within in
      let here = p.there q refl in
      let at_ : p.count ≡ n - 1 = here.0 in
      record {
        count = suc p.count;
        within = omega (arith, p.within);
        far = omega arith;
        early = rw same_step p.early;
        reported = λ g h _. (let e2 : g ≡ place_of s + n = stops s (b ∷ xs) q n g e (ap offset here.1 ∙ h) in omega arith);
        there = λ q2 h. absurd cc;
      }

  early-at : (bytes : List ℕ) (s : S) (stop : Option O) (rest : ℕ) (o : O) → (walk decide s stop rest bytes).stop ≡ Some o → Early s stop rest bytes o
  early-at [] s stop (suc rest) o e = absurd cc
  early-at (b ∷ xs) s stop (suc rest) o e =
      let p = early-at xs s stop rest o e in
      record {
        count = suc p.count;
        within = omega (arith, p.within);
        far = omega (arith, p.far);
        early = p.early;
        reported = λ g h i. (let e2 : g + rest ≡ place_of s + p.count = p.reported g h i in omega arith);
        there = λ q h. (let r = p.there q h in (omega (arith, r.0), r.1));
      }
  early-at [] s None zero o e = absurd cc
  early-at [] s (Some q) zero o e = record { count = 0; within = omega arith; far = omega arith; early = e; reported = λ g h i. absurd cc; there = λ p h. (refl, cc) }
  early-at (b ∷ xs) s (Some q) zero o e = record { count = 0; within = omega arith; far = omega arith; early = e; reported = λ g h i. absurd cc; there = λ p h. (refl, cc) }
  early-at (b ∷ xs) s None zero o e = early-item s b xs o (λ t stop n. early-at xs t stop n o) (decide s (b ∷ xs)) refl e

  module _ (start : S) (unfinished : StreamEnd → S → Bool → O) (final : O → Bool) (outcome_of : List ℕ → StreamEnd → O)
      (reaches : (bytes : List ℕ) (end : StreamEnd) → outcome_of bytes end ≡ outcome_at unfinished end (whole_walk decide start bytes))
      (first : place_of start ≡ 0) (none : (end : StreamEnd) (s : S) (b : Bool) → offset (unfinished end s b) ≡ None) (reported_final : (o : O) (g : ℕ) → offset o ≡ Some g → final o ≡ true) where
    -- the walk stopped with what tells an offset
    stopped-with : (end : StreamEnd) (g : ℕ) (r : Reached S O) → offset (outcome_at unfinished end r) ≡ Some g → (o : O) × (r.stop ≡ Some o) × (offset o ≡ Some g)
    stopped-with end g r e = by r.stop refl
      where
        by : (stop : Option O) → r.stop ≡ stop → (o : O) × (r.stop ≡ Some o) × (offset o ≡ Some g)
        by None h = (let same : outcome_at unfinished end r ≡ unfinished end r.state r.between = ap (λ (s : Option O). unwrap_or s (unfinished end r.state r.between)) h in
            let no_ = none end r.state r.between in let some = ap offset same in absurd cc)
        by (Some o) h = (o, h, ap offset (sym (ap (λ (s : Option O). unwrap_or s (unfinished end r.state r.between)) h)) ∙ e)

    pub is_offset : IsOffset final outcome_of offset
    is_offset = record {
      within = λ bytes end from_offset e. (let s = stopped-with end from_offset (whole_walk decide start bytes) (ap offset (sym (reaches bytes end)) ∙ e) in
          let p = early-at bytes start None 0 s.0 s.1 in
          let reported = p.reported from_offset s.2 refl in omega (arith, p.within));
      decides = λ bytes end from_offset e. (let s = stopped-with end from_offset (whole_walk decide start bytes) (ap offset (sym (reaches bytes end)) ∙ e) in
          let p = early-at bytes start None 0 s.0 s.1 in
          let reported = p.reported from_offset s.2 refl in
          let same : p.count ≡ from_offset = omega arith in
          ap final (reaches (take from_offset bytes) Running
          ∙ ap (λ (stop : Option O). unwrap_or stop (unfinished Running (whole_walk decide start (take from_offset bytes)).state (whole_walk decide start (take from_offset bytes)).between)) (ap (λ i. (whole_walk decide start (take i bytes)).stop) (sym same) ∙ p.early))
          ∙ reported_final s.0 from_offset s.2);
    }

-- ---- verdicts

verdict-final : (v : Verdict) (g : ℕ) → verdict_offset v ≡ Some g → is_final v ≡ true
verdict-final verdicts.Incomplete g e = absurd cc
verdict-final _ g e = refl

end-none : (end : StreamEnd) → verdict_offset (at_stream_end end) ≡ None
end-none Running = refl
end-none Fin = refl
end-none (Reset code) = refl

session-reported : (id offset g : ℕ) → verdict_offset (session_verdict id offset) ≡ Some g → g ≡ offset
session-reported id offset g = by (id % 4 == 0)
  where
    by : (b : Bool) → verdict_offset (if b then verdicts.WebTransport id offset else verdicts.Fault Id) ≡ Some g → g ≡ offset
    by true e = cc
    by false e = absurd cc

-- the header tells where it ends
abbrev Tells : Verdict × ℕ → Type 0
Tells p = (g : ℕ) → verdict_offset p.0 ≡ Some g → g ≡ p.1

plain-tells : (v : Verdict) (offset : ℕ) (p : Verdict × ℕ) → ((g : ℕ) → verdict_offset v ≡ Some g → g ≡ offset) → Some (v, offset) ≡ Some p → Tells p
plain-tells v offset p f e = subst (λ (q : Verdict × ℕ). Tells q) (some-is e) f
  where
    some-is : {A : Type 0} {x y : A} → Some x ≡ Some y → x ≡ y
    some-is h = cc

session-header-tells : (offset : ℕ) (s : Option (ℕ × ℕ)) (p : Verdict × ℕ) → session_header_at offset s ≡ Some p → Tells p
session-header-tells offset None p e = absurd cc
session-header-tells offset (Some s) p e = plain-tells (session_verdict s.0 (offset + s.1)) (offset + s.1) p (λ g. session-reported s.0 (offset + s.1) g) e

by_type-tells : (kind offset : ℕ) (x : Option (Verdict × ℕ)) (p : Verdict × ℕ) → header_by_type kind offset x ≡ Some p → (x ≡ Some p → Tells p) → Tells p
by_type-tells kind offset x p e f =
    chosen_by (kind == 0x00) _ _ _ e (plain-tells (verdicts.Control offset) offset p (λ g h. cc)) (λ e2.
    chosen_by (kind == 0x02) _ _ _ e2 (plain-tells (verdicts.Encoder offset) offset p (λ g h. cc)) (λ e3.
    chosen_by (kind == 0x03) _ _ _ e3 (plain-tells (verdicts.Decoder offset) offset p (λ g h. cc)) (λ e4.
    chosen_by (kind == 0x54) _ _ _ e4 f (plain-tells verdicts.Dropped offset p (λ g h. absurd cc)))))

header-tells : (bytes : List ℕ) (t : Option (ℕ × ℕ)) (p : Verdict × ℕ) → typed_header_at bytes t ≡ Some p → Tells p
header-tells bytes None p e = absurd cc
header-tells bytes (Some t) p e = by_type-tells t.0 t.1 (session_header_at t.1 (varint_at (drop t.1 bytes))) p e (session-header-tells t.1 (varint_at (drop t.1 bytes)) p)

uni-goes-by : (h : Option (Verdict × ℕ)) (t : Unit {0}) (n : ℕ) → step_of_item (uni_effect tt) h ≡ Goes t n → 0 ≡ 0 + n
uni-goes-by None t n e = absurd cc
uni-goes-by (Some h) t n e = absurd cc

uni-goes : (s : Unit {0}) (xs : List ℕ) (t : Unit {0}) (n : ℕ) → uni_decides s xs ≡ Goes t n → 0 ≡ 0 + n
unfolding uni_decides
uni-goes s xs t n e = uni-goes-by (uni_header_at xs) t n e

uni-stops-by : (h : Option (Verdict × ℕ)) (o : Verdict) (n g : ℕ) → ((p : Verdict × ℕ) → h ≡ Some p → Tells p) → step_of_item (uni_effect tt) h ≡ Stops o n → verdict_offset o ≡ Some g → g ≡ 0 + n
uni-stops-by None o n g f e t = absurd cc
uni-stops-by (Some h) o n g f e t =
    let v : h.0 ≡ o = cc in
    let m : h.1 ≡ n = cc in
    let is : g ≡ h.1 = f h refl g (ap verdict_offset v ∙ t) in
    omega arith

uni-stops : (s : Unit {0}) (xs : List ℕ) (o : Verdict) (n g : ℕ) → uni_decides s xs ≡ Stops o n → verdict_offset o ≡ Some g → g ≡ 0 + n
unfolding uni_decides
uni-stops s xs o n g e t = uni-stops-by (uni_header_at xs) o n g (λ p h. header-tells xs (varint_at xs) p h) e t

pub uni_offset : IsOffset is_final uni_verdict_of verdict_offset
uni_offset = is_offset uni_decides uni_lawful.steady (λ s. 0) verdict_offset uni-goes uni-stops tt uni_unfinished is_final uni_verdict_of uni_lawful.reaches refl (λ end s b. end-none end) verdict-final

-- ---- bidirectional streams

bi-goes-by : (offset : ℕ) (h : Option (frames.Frame × ℕ)) (t n : ℕ) → step_of_item (bi_effect offset) h ≡ Goes t n → t ≡ offset + n
bi-goes-by offset (Some (frames.Skipped kind, m)) t n e = cc
bi-goes-by offset _ t n e = absurd cc

bi-goes : (offset : ℕ) (xs : List ℕ) (t n : ℕ) → bi_decides offset xs ≡ Goes t n → t ≡ offset + n
unfolding bi_decides
bi-goes offset xs t n e = bi-goes-by offset (frames.frame_at varint_at xs) t n e

parsed-reported : (offset : ℕ) (r : Result Fields HeadersParseError) (g : ℕ) → verdict_offset (parsed_verdict offset r) ≡ Some g → g ≡ offset
parsed-reported offset (Ok request) g e = cc
parsed-reported offset (Err MethodNotConnect) g e = absurd cc
parsed-reported offset (Err Other) g e = absurd cc

headers-reported : (offset : ℕ) (r : Result Fields ErrorCode) (g : ℕ) → verdict_offset (headers_verdict offset r) ≡ Some g → g ≡ offset
headers-reported offset (Ok fields) g e = parsed-reported offset (request_of fields) g e
headers-reported offset (Err fault) g e = absurd cc

-- an outcome that stops a walk tells where the item ends, or nothing
pub reported-there : {S O : Type 0} (offset : O → Option ℕ) (start m : ℕ) (v o : O) (n g : ℕ) → ((k : ℕ) → offset v ≡ Some k → k ≡ start + m) → (step : Step S O) → step ≡ Stops v m → step ≡ Stops o n → offset o ≡ Some g → g ≡ start + n
reported-there offset start m v o n g f step is e t =
    let same : v ≡ o = cc in
    let size : m ≡ n = cc in
    let reported : g ≡ start + m = f g (ap offset same ∙ t) in
    omega arith

bi-stops-by : (offset : ℕ) (h : Option (frames.Frame × ℕ)) (o : Verdict) (n g : ℕ) → step_of_item (bi_effect offset) h ≡ Stops o n → verdict_offset o ≡ Some g → g ≡ offset + n
bi-stops-by offset None o n g e t = absurd cc
bi-stops-by offset (Some (frames.Skipped kind, m)) o n g e t = absurd cc
bi-stops-by offset (Some (frames.Signal id, m)) o n g e t = reported-there verdict_offset offset m _ o n g (λ k. session-reported id (offset + m) k) (bi_effect offset m (frames.Signal id)) refl e t
bi-stops-by offset (Some (frames.Headers payload, m)) o n g e t = reported-there verdict_offset offset m _ o n g (λ k. headers-reported (offset + m) (headers_of payload) k) (bi_effect offset m (frames.Headers payload)) refl e t
bi-stops-by offset (Some (frames.TooLong, m)) o n g e t = reported-there verdict_offset offset m _ o n g (λ k h. absurd cc) (bi_effect offset m (frames.TooLong)) refl e t
bi-stops-by offset (Some (frames.Data payload, m)) o n g e t = reported-there verdict_offset offset m _ o n g (λ k h. absurd cc) (bi_effect offset m (frames.Data payload)) refl e t
bi-stops-by offset (Some (frames.Settings payload, m)) o n g e t = reported-there verdict_offset offset m _ o n g (λ k h. absurd cc) (bi_effect offset m (frames.Settings payload)) refl e t

bi-stops : (offset : ℕ) (xs : List ℕ) (o : Verdict) (n g : ℕ) → bi_decides offset xs ≡ Stops o n → verdict_offset o ≡ Some g → g ≡ offset + n
unfolding bi_decides
bi-stops offset xs o n g e t = bi-stops-by offset (frames.frame_at varint_at xs) o n g e t

pub bi_offset : IsOffset is_final bi_verdict_of verdict_offset
bi_offset = is_offset bi_decides bi_lawful.steady (λ offset. offset) verdict_offset bi-goes bi-stops 0 bi_unfinished is_final bi_verdict_of bi_lawful.reaches refl (λ end s b. end-none end) verdict-final
