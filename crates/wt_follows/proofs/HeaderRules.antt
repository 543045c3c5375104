-- The two kinds of headers: the ids of sessions that they name are multiples of 4.
use Rattle.std.proofs.Common.{◌≡◌, ◌+◌, ◌%◌, ◌∷◌, Bool, Err, IfSome, List, None, Ok, Option, Result, Some, [], ap, drop, false, refl, subst, suc, sym, true, zero, ℕ}
use Rattle.std.proofs.lemmas.Bool.{eqb-true}
use Rattle.std.specs.Prelude.{◌==◌, if◌then◌else◌, unwrap_or}
use Rattle.wt_follows.specs.Tie.{header_verdict}
use Rattle.wt_message.specs.Requests.{request_of}
use Rattle.wt_message.specs.declared.session.HeadersParseError.{HeadersParseError}
use Rattle.wt_message.specs.declared.session.HeadersParseError.TheVariants.{MethodNotConnect, Other}
use Rattle.wt_proto.proofs.BiReading.{bi_lawful}
use Rattle.wt_proto.proofs.ProgressLaws.{walk-progress}
use Rattle.wt_proto.proofs.ReadingLaws.{progress-stop}
use Rattle.wt_proto.proofs.UniReading.{uni_lawful}
use Rattle.wt_proto.specs.Bi.{bi_decides, bi_effect, bi_unfinished, bi_verdict_of, headers_verdict, parsed_verdict}
use Rattle.wt_proto.specs.FrameSteps.{step_of_item}
use Rattle.wt_proto.specs.Uni.{at_stream_end, session_header_at, session_verdict, typed_header_at, uni_decides, uni_effect, uni_header_at, uni_unfinished, uni_verdict_of}
use Rattle.wt_proto.specs.Walk.{Reached, outcome_at, whole_walk}
use Rattle.wt_proto.specs.WalkProgress.{WalkProgress, progress_over, reached_at, reached_in}
use Rattle.wt_proto.specs.declared.verdict.Verdict.{Verdict}
use Rattle.wt_proto.specs.declared.verdict.Verdict.TheVariants as verdicts
use Rattle.wt_proto.specs.declared.walk.Step.{Step}
use Rattle.wt_proto.specs.declared.walk.Step.TheVariants.{Stops}
use Rattle.wt_turn.specs.Reports.{end_of}
use Rattle.wt_turn.specs.Streams.{contents}
use Rattle.wt_turn.specs.Log.{Log, events_of}
use Rattle.wt_wire.specs.FieldSection.{headers_of}
use Rattle.wt_wire.specs.Frames as frames
use Rattle.wt_wire.specs.HeaderList.{Fields}
use Rattle.wt_wire.specs.Ids.{is_bidirectional}
use Rattle.wt_wire.specs.Varint.{varint_at}
use Rattle.wt_wire.specs.declared.error.ErrorCode.{ErrorCode}
use Rattle.wt_wire.specs.declared.error.ErrorCode.TheVariants.{Id}
use Rattle.wt_wire.specs.declared.side.StreamEnd.{StreamEnd}
use Rattle.wt_wire.specs.declared.side.StreamEnd.TheVariants.{Fin, Reset, Running}

-- the session that the verdict names, where it names one, is a multiple of 4
abbrev pub IsNamed : Verdict → Type 0
IsNamed (verdicts.WebTransport session offset) = (session % 4) ≡ 0
IsNamed _ = Unit {0}

pub named-session : (v : Verdict) (session offset : ℕ) → IsNamed v → v ≡ verdicts.WebTransport session offset → (session % 4) ≡ 0
named-session v session offset h e = subst IsNamed e h

end-named : (end : StreamEnd) → IsNamed (at_stream_end end)
end-named Running = tt
end-named Fin = tt
end-named (Reset code) = tt

session-named : (id offset : ℕ) → IsNamed (session_verdict id offset)
session-named id offset = by (id % 4 == 0) refl
  where
    by : (b : Bool) → (id % 4 == 0) ≡ b → IsNamed (if b then verdicts.WebTransport id offset else verdicts.Fault Id)
    by true e = eqb-true (id % 4) 0 e
    by false e = tt

-- ---- unidirectional streams

abbrev AreNamed : Option (Verdict × ℕ) → Type 0
AreNamed None = Unit {0}
AreNamed (Some h) = IsNamed h.0

named-if : (b : Bool) (x y : Option (Verdict × ℕ)) → AreNamed x → AreNamed y → AreNamed (if b then x else y)
named-if true x y h i = h
named-if false x y h i = i

session-header-named : (offset : ℕ) (s : Option (ℕ × ℕ)) → AreNamed (session_header_at offset s)
session-header-named offset None = tt
session-header-named offset (Some s) = session-named s.0 (offset + s.1)

typed-named : (bytes : List ℕ) (t : Option (ℕ × ℕ)) → AreNamed (typed_header_at bytes t)
typed-named bytes None = tt
typed-named bytes (Some t) =
    named-if (t.0 == 0x00) _ _ tt (named-if (t.0 == 0x02) _ _ tt (named-if (t.0 == 0x03) _ _ tt (named-if (t.0 == 0x54) _ _ (session-header-named t.1 (varint_at (drop t.1 bytes))) tt)))

uni-step-named : (h : Option (Verdict × ℕ)) (v : Verdict) (n : ℕ) → AreNamed h → step_of_item (uni_effect tt) h ≡ Stops v n → IsNamed v
uni-step-named None v n named e = absurd cc
uni-step-named (Some h) v n named e = subst IsNamed (let same : h.0 ≡ v = cc in same) named

uni-stops-named : (s : Unit {0}) (bytes : List ℕ) (v : Verdict) (n : ℕ) → uni_decides s bytes ≡ Stops v n → IsNamed v
unfolding uni_decides
uni-stops-named s bytes v n e = uni-step-named (uni_header_at bytes) v n (typed-named bytes (varint_at bytes)) e

-- ---- bidirectional streams

parsed-named : (offset : ℕ) (r : Result Fields HeadersParseError) → IsNamed (parsed_verdict offset r)
parsed-named offset (Ok request) = tt
parsed-named offset (Err MethodNotConnect) = tt
parsed-named offset (Err Other) = tt

headers-named : (offset : ℕ) (r : Result Fields ErrorCode) → IsNamed (headers_verdict offset r)
headers-named offset (Ok fields) = parsed-named offset (request_of fields)
headers-named offset (Err fault) = tt

same-verdict : (step : Step ℕ Verdict) (v w : Verdict) (m n : ℕ) → step ≡ Stops v m → step ≡ Stops w n → v ≡ w
same-verdict step v w m n e f = cc

bi-step-named : (offset : ℕ) (f : Option (frames.Frame × ℕ)) (v : Verdict) (n : ℕ) → step_of_item (bi_effect offset) f ≡ Stops v n → IsNamed v
bi-step-named offset None v n e = absurd cc
bi-step-named offset (Some (frames.Skipped kind, m)) v n e = absurd cc
bi-step-named offset (Some (frames.Signal id, m)) v n e = subst IsNamed (same-verdict (bi_effect offset m (frames.Signal id)) (session_verdict id (offset + m)) v m n refl e) (session-named id (offset + m))
bi-step-named offset (Some (frames.Headers payload, m)) v n e = subst IsNamed (same-verdict (bi_effect offset m (frames.Headers payload)) (headers_verdict (offset + m) (headers_of payload)) v m n refl e) (headers-named (offset + m) (headers_of payload))
bi-step-named offset (Some (frames.TooLong, m)) v n e = subst IsNamed (same-verdict (bi_effect offset m (frames.TooLong)) _ v m n refl e) tt
bi-step-named offset (Some (frames.Data payload, m)) v n e = subst IsNamed (same-verdict (bi_effect offset m (frames.Data payload)) _ v m n refl e) tt
bi-step-named offset (Some (frames.Settings payload, m)) v n e = subst IsNamed (same-verdict (bi_effect offset m (frames.Settings payload)) _ v m n refl e) tt

bi-stops-named : (s : ℕ) (bytes : List ℕ) (v : Verdict) (n : ℕ) → bi_decides s bytes ≡ Stops v n → IsNamed v
unfolding bi_decides
bi-stops-named s bytes v n e = bi-step-named s (frames.frame_at varint_at bytes) v n e

-- ---- over all bytes

module _ {S : Type 0} (start : S) (decide : S → List ℕ → Step S Verdict) (unfinished : StreamEnd → S → Bool → Verdict) (named : (s : S) (bytes : List ℕ) (v : Verdict) (n : ℕ) → decide s bytes ≡ Stops v n → IsNamed v)
    (by_end : (end : StreamEnd) (s : S) (b : Bool) → IsNamed (unfinished end s b)) where
  reached-named : (s : S) (stop : Option Verdict) (skip : ℕ) (kept : List ℕ) → IfSome stop IsNamed → IfSome (reached_at s stop skip kept).stop IsNamed
  reached-named s stop (suc skip) kept h = tt
  reached-named s stop zero (b ∷ kept) h = tt
  reached-named s stop zero [] h = h

  or-named : (end : StreamEnd) (s : S) (b : Bool) (stop : Option Verdict) → IfSome stop IsNamed → IsNamed (unwrap_or stop (unfinished end s b))
  or-named end s b None h = by_end end s b
  or-named end s b (Some v) h = h

  pub walk-named : (bytes : List ℕ) (end : StreamEnd) → IsNamed (outcome_at unfinished end (whole_walk decide start bytes))
  walk-named bytes end =
      let p : WalkProgress S Verdict = progress_over decide start None 0 bytes in
      subst (λ (r : Reached S Verdict). IsNamed (outcome_at unfinished end r)) (sym (walk-progress decide bytes start None 0))
      (or-named end (reached_in p).state (reached_in p).between (reached_in p).stop (reached-named p.state p.stop p.skip p.kept (progress-stop decide IsNamed named bytes start None 0 tt)))

pub uni-names : (bytes : List ℕ) (end : StreamEnd) (session offset : ℕ) → uni_verdict_of bytes end ≡ verdicts.WebTransport session offset → (session % 4) ≡ 0
uni-names bytes end session offset e =
    named-session (uni_verdict_of bytes end) session offset (subst IsNamed (sym (uni_lawful.reaches bytes end)) (walk-named tt uni_decides uni_unfinished uni-stops-named (λ f s b. end-named f) bytes end)) e

pub bi-names : (bytes : List ℕ) (end : StreamEnd) (session offset : ℕ) → bi_verdict_of bytes end ≡ verdicts.WebTransport session offset → (session % 4) ≡ 0
bi-names bytes end session offset e =
    named-session (bi_verdict_of bytes end) session offset (subst IsNamed (sym (bi_lawful.reaches bytes end)) (walk-named 0 bi_decides bi_unfinished bi-stops-named (λ f s b. end-named f) bytes end)) e

-- which of them is the header's
pub uni-heads : (log : Log) (k : ℕ) → is_bidirectional k ≡ false → header_verdict log k ≡ uni_verdict_of (contents log k) (end_of (events_of log) k)
uni-heads log k e = ap (λ (b : Bool). if b then bi_verdict_of (contents log k) (end_of (events_of log) k) else uni_verdict_of (contents log k) (end_of (events_of log) k)) e

pub bi-heads : (log : Log) (k : ℕ) → is_bidirectional k ≡ true → header_verdict log k ≡ bi_verdict_of (contents log k) (end_of (events_of log) k)
bi-heads log k e = ap (λ (b : Bool). if b then bi_verdict_of (contents log k) (end_of (events_of log) k) else uni_verdict_of (contents log k) (end_of (events_of log) k)) e
