-- Whose verdict is what: a control, encoder's or decoder's stream is unidirectional, a request bidirectional.
use Rattle.std.specs.Prelude.{[], ◌%◌, ◌+◌, ◌-◌, ◌==◌, ◌∷◌, ◌≡◌, Bool, Err, List, None, Ok, Option, Result, Some, drop, false, if◌then◌else◌, suc, true, unwrap_or, zero, ℕ}
use Rattle.std.proofs.Common.{refl}
use Rattle.wt_message.specs.Requests.{request_of}
use Rattle.wt_message.specs.StreamTypes.{control_type, decoder_type, encoder_type, webtransport_type}
use Rattle.wt_message.specs.declared.session.HeadersParseError.{HeadersParseError}
use Rattle.wt_proto.specs.Bi.{bi_decides, bi_effect, bi_verdict_of, headers_verdict, parsed_verdict}
use Rattle.wt_proto.specs.FrameSteps.{step_of_item}
use Rattle.wt_proto.specs.Uni.{at_stream_end, or_at_stream_end, session_header_at, session_verdict, typed_header_at, uni_verdict_of}
use Rattle.wt_proto.specs.Walk.{step_on, walk}
use Rattle.wt_proto.specs.declared.verdict.Verdict.{Verdict}
use Rattle.wt_proto.specs.declared.walk.Step.{Step}
use Rattle.wt_wire.specs.FieldSection.{headers_of}
use Rattle.wt_wire.specs.Frames as frames
use Rattle.wt_wire.specs.HeaderList.{Fields}
use Rattle.wt_wire.specs.Varint.{varint_at}
use Rattle.wt_wire.specs.declared.error.ErrorCode.{ErrorCode}
use Rattle.wt_wire.specs.declared.side.StreamEnd.{StreamEnd}
use Rattle.wt_message.specs.declared.session.HeadersParseError.TheVariants as parses
use Rattle.wt_proto.specs.declared.verdict.Verdict.TheVariants as verdicts
use Rattle.wt_proto.specs.declared.walk.Step.TheVariants.{Cut, Goes, Stops}
use Rattle.wt_wire.specs.declared.side.StreamEnd.TheVariants as ends

-- ---- a bidirectional stream is none of those that come once

-- the verdict is that of a stream that comes once
abbrev pub is_once : Verdict → Bool
is_once (verdicts.Control offset) = true
is_once (verdicts.Encoder offset) = true
is_once (verdicts.Decoder offset) = true
is_once _ = false

abbrev NotOnce : Option Verdict → Type 0
NotOnce None = Unit {0}
NotOnce (Some v) = is_once v ≡ false

abbrev StopsNotOnce : Step ℕ Verdict → Type 0
StopsNotOnce (Stops v n) = is_once v ≡ false
StopsNotOnce _ = Unit {0}

walk-not-once : (decide : ℕ → List ℕ → Step ℕ Verdict) → ((s : ℕ) (bytes : List ℕ) → StopsNotOnce (decide s bytes)) → (bytes : List ℕ) (s : ℕ) (stop : Option Verdict) (n : ℕ) → NotOnce stop → NotOnce (walk decide s stop n bytes).stop
walk-not-once decide d [] s stop (suc rest) q = tt
walk-not-once decide d [] s stop zero q = q
walk-not-once decide d (b ∷ bytes) s stop (suc rest) q = walk-not-once decide d bytes s stop rest q
walk-not-once decide d (b ∷ bytes) s (Some v) zero q = q
walk-not-once decide d (b ∷ bytes) s None zero q = by (decide s (b ∷ bytes)) (d s (b ∷ bytes)) (walk-not-once decide d bytes)
  where
    by : (x : Step ℕ Verdict) → StopsNotOnce x → ((s : ℕ) (stop : Option Verdict) (n : ℕ) → NotOnce stop → NotOnce (walk decide s stop n bytes).stop)
        → NotOnce (step_on (record { state = s; stop = None; between = false }) (λ t stop n. walk decide t stop (n - 1) bytes) s x).stop
    by Cut p f = tt
    by (Goes t n) p f = f t None (n - 1) tt
    by (Stops v n) p f = f s (Some v) (n - 1) p

session-not-once : (id at_ : ℕ) → is_once (session_verdict id at_) ≡ false
session-not-once id at_ = by (id % 4 == 0)
  where
    by : (b : Bool) → is_once (if b then verdicts.WebTransport id at_ else session_verdict 1 0) ≡ false
    by true = refl
    by false = refl

parsed-not-once : (at_ : ℕ) (r : Result Fields HeadersParseError) → is_once (parsed_verdict at_ r) ≡ false
parsed-not-once at_ (Ok request) = refl
parsed-not-once at_ (Err parses.MethodNotConnect) = refl
parsed-not-once at_ (Err parses.Other) = refl

headers-not-once : (at_ : ℕ) (r : Result Fields ErrorCode) → is_once (headers_verdict at_ r) ≡ false
headers-not-once at_ (Ok fields) = parsed-not-once at_ (request_of fields)
headers-not-once at_ (Err fault) = refl

effect-not-once : (at_ size : ℕ) (f : frames.Frame) → StopsNotOnce (bi_effect at_ size f)
effect-not-once at_ size (frames.Skipped kind) = tt
effect-not-once at_ size (frames.Signal id) = session-not-once id (at_ + size)
effect-not-once at_ size (frames.Headers payload) = headers-not-once (at_ + size) (headers_of payload)
effect-not-once at_ size _ = refl

decided-not-once : (at_ : ℕ) (o : Option (frames.Frame × ℕ)) → StopsNotOnce (step_of_item (bi_effect at_) o)
decided-not-once at_ None = tt
decided-not-once at_ (Some item) = effect-not-once at_ item.1 item.0

decides-not-once : (at_ : ℕ) (bytes : List ℕ) → StopsNotOnce (bi_decides at_ bytes)
unfolding bi_decides
decides-not-once at_ bytes = decided-not-once at_ (frames.frame_at varint_at bytes)

unfinished-not-once : (end : StreamEnd) → is_once (at_stream_end end) ≡ false
unfinished-not-once ends.Running = refl
unfinished-not-once ends.Fin = refl
unfinished-not-once (ends.Reset code) = refl

or-not-once : (o : Option Verdict) (v : Verdict) → NotOnce o → is_once v ≡ false → is_once (unwrap_or o v) ≡ false
or-not-once None v p q = q
or-not-once (Some w) v p q = p

pub bi-not-once : (bytes : List ℕ) (end : StreamEnd) → is_once (bi_verdict_of bytes end) ≡ false
unfolding bi_verdict_of
bi-not-once bytes end = or-not-once (walk bi_decides 0 None 0 bytes).stop _ (walk-not-once bi_decides decides-not-once bytes 0 None 0 tt) (unfinished-not-once end)

-- ---- a unidirectional stream carries none

-- the verdict is a request
abbrev pub is_request : Verdict → Bool
is_request (verdicts.Request headers offset) = true
is_request _ = false

ends-no-request : (end : StreamEnd) → is_request (at_stream_end end) ≡ false
ends-no-request ends.Running = refl
ends-no-request ends.Fin = refl
ends-no-request (ends.Reset code) = refl

module _ (end : StreamEnd) where
  abbrev NoRequest : Option (Verdict × ℕ) → Type 0
  NoRequest o = is_request (or_at_stream_end end o) ≡ false

  no-request-if : (b : Bool) (x y : Option (Verdict × ℕ)) → NoRequest x → NoRequest y → NoRequest (if b then x else y)
  no-request-if true x y p q = p
  no-request-if false x y p q = q

  no-request-session : (offset : ℕ) (o : Option (ℕ × ℕ)) → NoRequest (session_header_at offset o)
  no-request-session offset None = ends-no-request end
  no-request-session offset (Some s) = by (s.0 % 4 == 0)
    where
      by : (b : Bool) → is_request (if b then verdicts.WebTransport s.0 (offset + s.1) else session_verdict 1 0) ≡ false
      by true = refl
      by false = refl

  no-request-typed : (bytes : List ℕ) (o : Option (ℕ × ℕ)) → NoRequest (typed_header_at bytes o)
  no-request-typed bytes None = ends-no-request end
  no-request-typed bytes (Some t) =
      no-request-if (t.0 == control_type) _ _ refl
      (no-request-if (t.0 == encoder_type) _ _ refl
      (no-request-if (t.0 == decoder_type) _ _ refl
      (no-request-if (t.0 == webtransport_type) _ _ (no-request-session t.1 (varint_at (drop t.1 bytes))) refl)))

pub uni-no-request : (bytes : List ℕ) (end : StreamEnd) → is_request (uni_verdict_of bytes end) ≡ false
unfolding uni_verdict_of
uni-no-request bytes end = no-request-typed end bytes (varint_at bytes)
