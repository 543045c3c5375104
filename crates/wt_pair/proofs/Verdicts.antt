-- What a stream's first bytes show, for each of the heads with which streams begin.
use Rattle.std.specs.Prelude.{[], ◌++◌, ◌+◌, ◌-◌, ◌<◌, ◌^◌, ◌∷◌, ◌≡◌, ◌⊎◌, Bool, Err, List, None, Ok, Option, Result, Some, drop, false, if◌then◌else◌, length, nat_lt, suc, take, true, unwrap_or, zero, ℕ}
use Rattle.std.proofs.Common.{◌∙◌, ap, arith, inl, inr, refl, subst, sym}
use Rattle.wt_message.specs.declared.session.HeadersParseError.{HeadersParseError}
use Rattle.wt_message.specs.declared.session.HeadersParseError.TheVariants.{MethodNotConnect, Other}
use Rattle.wt_message.specs.Requests.{request_of}
use Rattle.wt_promise.proofs.Flow.{clash}
use Rattle.wt_promise.proofs.Shown.{verdict-by}
use Rattle.wt_promise.specs.Owed.{control_bytes, header_for}
use Rattle.wt_proto.proofs.BiLaws.{bi_verdict_stays}
use Rattle.wt_proto.proofs.UniLaws.{uni_verdict_stays}
use Rattle.wt_proto.specs.Bi.{bi_decides, bi_effect, bi_verdict_of, headers_verdict, parsed_verdict}
use Rattle.wt_proto.specs.FrameSteps.{step_of_item}
use Rattle.wt_proto.specs.Uni.{at_stream_end, is_final, or_at_stream_end, session_verdict, uni_header_at, uni_verdict_of}
use Rattle.wt_proto.specs.Walk.{walk, whole_walk}
use Rattle.wt_proto.specs.declared.verdict.Verdict.{Verdict}
use Rattle.wt_wire.proofs.VarintAgain.{varint_again}
use Rattle.wt_wire.proofs.VarintLaws.{varint_at-more}
use Rattle.wt_wire.specs.FieldSection.{headers_of}
use Rattle.wt_wire.specs.HeaderList.{Fields}
use Rattle.wt_wire.specs.Ids.{is_bidirectional}
use Rattle.wt_wire.specs.Varint.{varint_at, varint_bytes}
use Rattle.wt_wire.specs.declared.error.ErrorCode.{ErrorCode}
use Rattle.wt_wire.specs.declared.side.StreamEnd.{StreamEnd}
use Rattle.wt_proto.specs.declared.verdict.Verdict.TheVariants as verdicts
use Rattle.wt_proto.specs.declared.walk.Step.TheVariants as steps
use Rattle.wt_wire.specs.Frames as frames
use Rattle.wt_wire.specs.declared.error.ErrorCode.TheVariants as h3
use Rattle.wt_wire.specs.declared.side.StreamEnd.TheVariants as ends

-- ---- a verdict that the header itself gives

-- not that the bytes end inside it
abbrev pub is_shown : Verdict → Bool
is_shown verdicts.Incomplete = false
is_shown verdicts.Dropped = false
is_shown v = true

unended : (end : StreamEnd) → is_shown (at_stream_end end) ≡ false
unended ends.Running = refl
unended ends.Fin = refl
unended (ends.Reset code) = refl

shown-final : (v : Verdict) → is_shown v ≡ true → is_final v ≡ true
shown-final verdicts.Incomplete e = absurd (cc e)
shown-final verdicts.Dropped e = absurd (cc e)
shown-final (verdicts.WebTransport session offset) e = refl
shown-final (verdicts.Control offset) e = refl
shown-final (verdicts.Encoder offset) e = refl
shown-final (verdicts.Decoder offset) e = refl
shown-final (verdicts.Request headers offset) e = refl
shown-final (verdicts.Refused code) e = refl
shown-final (verdicts.Fault code) e = refl

uni-running : (bytes : List ℕ) (end : StreamEnd) (v : Verdict) → is_shown v ≡ true → uni_verdict_of bytes end ≡ v → uni_verdict_of bytes ends.Running ≡ v
unfolding uni_verdict_of
uni-running bytes end v s e = by (uni_header_at bytes) e
  where
    by : (o : Option (Verdict × ℕ)) → or_at_stream_end end o ≡ v → or_at_stream_end ends.Running o ≡ v
    by (Some header) q = q
    by None q = absurd (clash (is_shown v) s (ap is_shown (sym q) ∙ unended end))

bi-running : (bytes : List ℕ) (end : StreamEnd) (v : Verdict) → is_shown v ≡ true → bi_verdict_of bytes end ≡ v → bi_verdict_of bytes ends.Running ≡ v
unfolding bi_verdict_of
bi-running bytes end v s e = by (whole_walk bi_decides 0 bytes).stop e
  where
    by : (o : Option Verdict) → unwrap_or o (at_stream_end end) ≡ v → unwrap_or o verdicts.Incomplete ≡ v
    by (Some w) q = q
    by None q = absurd (clash (is_shown v) s (ap is_shown (sym q) ∙ unended end))

-- more bytes show the same
pub shown-more : (k : ℕ) (bytes more : List ℕ) (end : StreamEnd) (v : Verdict) → is_shown v ≡ true → verdict-by k bytes end ≡ v → verdict-by k (bytes ++ more) ends.Running ≡ v
shown-more k bytes more end v s = by (is_bidirectional k)
  where
    by : (b : Bool) → (if b then bi_verdict_of bytes end else uni_verdict_of bytes end) ≡ v → (if b then bi_verdict_of (bytes ++ more) ends.Running else uni_verdict_of (bytes ++ more) ends.Running) ≡ v
    by true e = let r = bi-running bytes end v s e in bi_verdict_stays bytes more ends.Running (ap is_final r ∙ shown-final v s) ∙ r
    by false e = let r = uni-running bytes end v s e in uni_verdict_stays bytes more ends.Running (ap is_final r ∙ shown-final v s) ∙ r

-- ---- no bytes

uni-nothing : uni_verdict_of [] ends.Running ≡ verdicts.Incomplete
unfolding uni_verdict_of varint_at
uni-nothing = refl

bi-nothing : bi_verdict_of [] ends.Running ≡ verdicts.Incomplete
unfolding bi_verdict_of
bi-nothing = refl

pub nothing-shown : (k : ℕ) → verdict-by k [] ends.Running ≡ verdicts.Incomplete
nothing-shown k = by (is_bidirectional k)
  where
    by : (b : Bool) → (if b then bi_verdict_of [] ends.Running else uni_verdict_of [] ends.Running) ≡ verdicts.Incomplete
    by true = bi-nothing
    by false = uni-nothing

-- ---- a header's type

type-signal : varint_at (0x40 ∷ 0x41 ∷ []) ≡ Some (0x41, 2)
unfolding varint_at
type-signal = refl

type-stream : varint_at (0x40 ∷ 0x54 ∷ []) ≡ Some (0x54, 2)
unfolding varint_at
type-stream = refl

type-control : varint_at (0x00 ∷ []) ≡ Some (0x00, 1)
unfolding varint_at
type-control = refl

type-headers : varint_at (0x01 ∷ []) ≡ Some (0x01, 1)
unfolding varint_at
type-headers = refl

-- ---- a walk that has stopped

stopped-walk : (o : Verdict) (s n : ℕ) (bytes : List ℕ) → (unwrap_or (walk bi_decides s (Some o) n bytes).stop verdicts.Incomplete ≡ o) ⊎ (unwrap_or (walk bi_decides s (Some o) n bytes).stop verdicts.Incomplete ≡ verdicts.Incomplete)
stopped-walk o s zero [] = inl refl
stopped-walk o s zero (b ∷ bytes) = inl refl
stopped-walk o s (suc n) [] = inr refl
stopped-walk o s (suc n) (b ∷ bytes) = stopped-walk o s n bytes

abbrev Either : List ℕ → Verdict → Type 0
Either bytes o = (bi_verdict_of bytes ends.Running ≡ o) ⊎ (bi_verdict_of bytes ends.Running ≡ verdicts.Incomplete)

first-stops : (b : ℕ) (bytes : List ℕ) (o : Verdict) (n : ℕ) → bi_decides 0 (b ∷ bytes) ≡ steps.Stops o n → Either (b ∷ bytes) o
unfolding bi_verdict_of
first-stops b bytes o n e = rw e (stopped-walk o 0 (n - 1) bytes)

first-cut : (b : ℕ) (bytes : List ℕ) → bi_decides 0 (b ∷ bytes) ≡ steps.Cut → bi_verdict_of (b ∷ bytes) ends.Running ≡ verdicts.Incomplete
unfolding bi_verdict_of
first-cut b bytes e = rw e refl

-- ---- the header of a session's stream

signal-decides : (s : ℕ) (more : List ℕ) → s < 2 ^ 62 → bi_decides 0 (0x40 ∷ 0x41 ∷ (varint_bytes s ++ more)) ≡ steps.Stops (session_verdict s (0 + (2 + length (varint_bytes s)))) (2 + length (varint_bytes s))
unfolding bi_decides frames.frame_at
signal-decides s more l = rw (varint_at-more (0x40 ∷ 0x41 ∷ []) (varint_bytes s ++ more) (0x41, 2) type-signal, varint_again s more l) refl

uni-header : (s : ℕ) (more : List ℕ) → s < 2 ^ 62 → uni_verdict_of (0x40 ∷ 0x54 ∷ (varint_bytes s ++ more)) ends.Running ≡ session_verdict s (2 + length (varint_bytes s))
unfolding uni_verdict_of
uni-header s more l = rw (varint_at-more (0x40 ∷ 0x54 ∷ []) (varint_bytes s ++ more) (0x54, 2) type-stream, varint_again s more l) refl

-- it shows its session, or too little came
pub header-shows : (k s : ℕ) (more : List ℕ) → s < 2 ^ 62
    → (verdict-by k (header_for k (Some s) ++ more) ends.Running ≡ session_verdict s (length (header_for k (Some s)))) ⊎ (verdict-by k (header_for k (Some s) ++ more) ends.Running ≡ verdicts.Incomplete)
header-shows k s more l = by (is_bidirectional k)
  where
    Shows : Bool → Type 0
    Shows b = ((if b then bi_verdict_of (0x40 ∷ (if b then 0x41 else 0x54) ∷ (varint_bytes s ++ more)) ends.Running else uni_verdict_of (0x40 ∷ (if b then 0x41 else 0x54) ∷ (varint_bytes s ++ more)) ends.Running) ≡ session_verdict s (suc (suc (length (varint_bytes s)))))
        ⊎ ((if b then bi_verdict_of (0x40 ∷ (if b then 0x41 else 0x54) ∷ (varint_bytes s ++ more)) ends.Running else uni_verdict_of (0x40 ∷ (if b then 0x41 else 0x54) ∷ (varint_bytes s ++ more)) ends.Running) ≡ verdicts.Incomplete)

    size : 0 + (2 + length (varint_bytes s)) ≡ suc (suc (length (varint_bytes s)))
    size = omega arith

    size-uni : 2 + length (varint_bytes s) ≡ suc (suc (length (varint_bytes s)))
    size-uni = omega arith

    by : (b : Bool) → Shows b
    by true = subst (λ (n : ℕ). (bi_verdict_of (0x40 ∷ 0x41 ∷ (varint_bytes s ++ more)) ends.Running ≡ session_verdict s n) ⊎ (bi_verdict_of (0x40 ∷ 0x41 ∷ (varint_bytes s ++ more)) ends.Running ≡ verdicts.Incomplete)) size
        (first-stops 0x40 (0x41 ∷ (varint_bytes s ++ more)) (session_verdict s (0 + (2 + length (varint_bytes s)))) (2 + length (varint_bytes s)) (signal-decides s more l))
    by false = inl (uni-header s more l ∙ ap (session_verdict s) size-uni)

-- ---- the control stream

pub control-shows : (more : List ℕ) → uni_verdict_of (control_bytes ++ more) ends.Running ≡ verdicts.Control 1
unfolding uni_verdict_of
control-shows more = rw (varint_at-more (0x00 ∷ []) (drop 1 control_bytes ++ more) (0x00, 1) type-control) refl

-- ---- a request's frame

-- a stream of a session
abbrev pub is_stream : Verdict → Bool
is_stream (verdicts.WebTransport session offset) = true
is_stream _ = false

-- what a HEADERS frame decides
data Judged (bytes : List ℕ) : Type 0 where
  Later : bi_decides 0 bytes ≡ steps.Cut → Judged bytes
  Now : (o : Verdict) (n : ℕ) → bi_decides 0 bytes ≡ steps.Stops o n → is_stream o ≡ false → Judged bytes

judged : (xs : List ℕ) → Judged (0x01 ∷ xs)
unfolding bi_decides frames.frame_at
judged xs = by (varint_at xs) refl
  where
    typed : varint_at (0x01 ∷ xs) ≡ Some (0x01, 1)
    typed = varint_at-more (0x01 ∷ []) xs (0x01, 1) type-headers

    parsed : (offset : ℕ) (r : Result Fields HeadersParseError) → is_stream (parsed_verdict offset r) ≡ false
    parsed offset (Ok request) = refl
    parsed offset (Err MethodNotConnect) = refl
    parsed offset (Err Other) = refl

    shown : (offset : ℕ) (r : Result Fields ErrorCode) → is_stream (headers_verdict offset r) ≡ false
    shown offset (Ok fields) = parsed offset (request_of fields)
    shown offset (Err fault) = refl

    step : (l : ℕ × ℕ) → varint_at xs ≡ Some l → bi_decides 0 (0x01 ∷ xs) ≡ step_of_item (bi_effect 0) (frames.frame_with_header (0x01 ∷ xs) 0x01 (1 + l.1) l.0)
    step l q = rw (typed, q) refl

    of : (l : ℕ × ℕ) → varint_at xs ≡ Some l → (a b : Bool) → nat_lt frames.longest_payload l.0 ≡ a → nat_lt (length (0x01 ∷ xs)) ((1 + l.1) + l.0) ≡ b → Judged (0x01 ∷ xs)
    of l q true b x y = Now (verdicts.Fault h3.ExcessiveLoad) (1 + l.1) (step l q ∙ rw x refl) refl
    of l q false true x y = Later (step l q ∙ rw (x, y) refl)
    of l q false false x y = Now (headers_verdict (0 + ((1 + l.1) + l.0)) (headers_of (take l.0 (drop (1 + l.1) (0x01 ∷ xs))))) ((1 + l.1) + l.0) (step l q ∙ rw (x, y) refl) (shown _ (headers_of (take l.0 (drop (1 + l.1) (0x01 ∷ xs)))))

    by : (o : Option (ℕ × ℕ)) → varint_at xs ≡ o → Judged (0x01 ∷ xs)
    by None q = Later (rw (typed, q) refl)
    by (Some l) q = of l q (nat_lt frames.longest_payload l.0) (nat_lt (length (0x01 ∷ xs)) ((1 + l.1) + l.0)) refl refl

-- a frame of a request or a response is no stream of a session
pub frame-shows : (xs : List ℕ) → is_stream (bi_verdict_of (0x01 ∷ xs) ends.Running) ≡ false
frame-shows xs = by (judged xs)
  where
    by : Judged (0x01 ∷ xs) → is_stream (bi_verdict_of (0x01 ∷ xs) ends.Running) ≡ false
    by (Later e) = ap is_stream (first-cut 0x01 xs e)
    by (Now o n e f) = elim (first-stops 0x01 xs o n e) as (λ w. is_stream (bi_verdict_of (0x01 ∷ xs) ends.Running) ≡ false) [ inl q ↦ ap is_stream q ∙ f | inr q ↦ ap is_stream q ]
