-- Where a response ends its reader stands, so that there the session's part of the stream begins.
use Rattle.std.proofs.Common.{◌+◌, ◌<◌, ◌∙◌, ◌∷◌, ◌≡◌, ◌≤◌, Bool, Err, List, None, Ok, Option, Result, Some, ℕ, [], ap, arith, false, inl, inr, length, refl, suc, sym, take, true, zero}
use Rattle.std.proofs.lemmas.Bool.{cases_lt, true≢false}
use Rattle.std.proofs.lemmas.List.{length-take}
use Rattle.wt_follows.proofs.Offsets.{IsOffset, is_offset, reported-there}
use Rattle.wt_follows.proofs.ResponseReads.{says-at, says-ended}
use Rattle.wt_follows.specs.Tie.{ResponseAt}
use Rattle.wt_kept.specs.Readers.{ResponseReading, response_rules}
use Rattle.wt_message.specs.Responses.{response_of}
use Rattle.wt_message.specs.declared.session.BadStatus.{BadStatus}
use Rattle.wt_proto.proofs.ResponseReading.{response_lawful}
use Rattle.wt_proto.specs.FrameSteps.{step_of_item}
use Rattle.wt_proto.specs.ResponseWalk.{headers_response, is_response_final, parsed_response, response_decides, response_effect, response_offset, response_unfinished, response_walk_of}
use Rattle.wt_proto.specs.declared.response_walk.ResponseWalk.{ResponseWalk}
use Rattle.wt_proto.specs.declared.response_walk.ResponseWalk.TheVariants as responses
use Rattle.wt_proto.specs.declared.walk.Step.TheVariants.{Goes, Stops}
use Rattle.wt_turn.specs.Unread.{AtOffset, ReadPosition}
use Rattle.wt_wire.specs.FieldSection.{headers_of}
use Rattle.wt_wire.specs.Frames as frames
use Rattle.wt_wire.specs.HeaderList.{Fields}
use Rattle.wt_wire.specs.declared.error.ErrorCode.{ErrorCode}
use Rattle.wt_wire.specs.declared.side.StreamEnd.{StreamEnd}
use Rattle.wt_wire.specs.declared.side.StreamEnd.TheVariants.{Fin, Reset, Running}

-- ---- the walk tells where a response ends

response-goes-by : (offset : ℕ) (h : Option (frames.Frame × ℕ)) (t n : ℕ) → step_of_item (response_effect offset) h ≡ Goes t n → t ≡ offset + n
response-goes-by offset (Some (frames.Skipped kind, m)) t n e = cc
response-goes-by offset _ t n e = absurd cc

response-goes : (offset : ℕ) (xs : List ℕ) (t n : ℕ) → response_decides offset xs ≡ Goes t n → t ≡ offset + n
unfolding response_decides
response-goes offset xs t n e = response-goes-by offset (frames.frame_at frames.session_id_ignored xs) t n e

parsed-reported : (offset : ℕ) (r : Result Fields BadStatus) (g : ℕ) → response_offset (parsed_response offset r) ≡ Some g → g ≡ offset
parsed-reported offset (Ok response) g e = cc
parsed-reported offset (Err bad) g e = absurd cc

response-reported : (offset : ℕ) (r : Result Fields ErrorCode) (g : ℕ) → response_offset (headers_response offset r) ≡ Some g → g ≡ offset
response-reported offset (Ok fields) g e = parsed-reported offset (response_of fields) g e
response-reported offset (Err fault) g e = absurd cc

response-stops-by : (offset : ℕ) (h : Option (frames.Frame × ℕ)) (o : ResponseWalk) (n g : ℕ) → step_of_item (response_effect offset) h ≡ Stops o n → response_offset o ≡ Some g → g ≡ offset + n
response-stops-by offset None o n g e t = absurd cc
response-stops-by offset (Some (frames.Skipped kind, m)) o n g e t = absurd cc
response-stops-by offset (Some (frames.Signal id, m)) o n g e t = reported-there response_offset offset m _ o n g (λ k h. absurd cc) (response_effect offset m (frames.Signal id)) refl e t
response-stops-by offset (Some (frames.Headers payload, m)) o n g e t = reported-there response_offset offset m _ o n g (λ k. response-reported (offset + m) (headers_of payload) k) (response_effect offset m (frames.Headers payload)) refl e t
response-stops-by offset (Some (frames.TooLong, m)) o n g e t = reported-there response_offset offset m _ o n g (λ k h. absurd cc) (response_effect offset m (frames.TooLong)) refl e t
response-stops-by offset (Some (frames.Data payload, m)) o n g e t = reported-there response_offset offset m _ o n g (λ k h. absurd cc) (response_effect offset m (frames.Data payload)) refl e t
response-stops-by offset (Some (frames.Settings payload, m)) o n g e t = reported-there response_offset offset m _ o n g (λ k h. absurd cc) (response_effect offset m (frames.Settings payload)) refl e t

response-stops : (offset : ℕ) (xs : List ℕ) (o : ResponseWalk) (n g : ℕ) → response_decides offset xs ≡ Stops o n → response_offset o ≡ Some g → g ≡ offset + n
unfolding response_decides
response-stops offset xs o n g e t = response-stops-by offset (frames.frame_at frames.session_id_ignored xs) o n g e t

response-none : (end : StreamEnd) (s : ℕ) (b : Bool) → response_offset (response_unfinished end s b) ≡ None
response-none Running s b = refl
response-none Fin s b = refl
response-none (Reset code) s b = refl

response-final : (o : ResponseWalk) (g : ℕ) → response_offset o ≡ Some g → is_response_final o ≡ true
response-final responses.Waiting g e = absurd cc
response-final (responses.Response response offset) g e = refl
response-final responses.Ended g e = absurd cc
response-final (responses.Fault code) g e = refl

response-tells : IsOffset is_response_final response_walk_of response_offset
response-tells = is_offset response_decides response_lawful.steady (λ offset. offset) response_offset response-goes response-stops 0 response_unfinished is_response_final response_walk_of response_lawful.reaches refl response-none response-final

-- ---- a reader that says a response

take-front : (n m : ℕ) (xs : List ℕ) → n ≤ m → take n (take m xs) ≡ take n xs
take-front zero m xs le = refl
take-front (suc n) zero xs le = absurd (omega (arith, le))
take-front (suc n) (suc m) [] le = refl
take-front (suc n) (suc m) (x ∷ xs) le = ap (λ ys. x ∷ ys) (take-front n m xs (omega (arith, le)))

module _ (reader : ResponseReading) (bytes : List ℕ) (end : StreamEnd) (position : ReadPosition) (at : ResponseAt reader bytes end position) (fields : Fields) (offset : ℕ) (said : response_rules.outcome reader ≡ responses.Response fields offset) where
  abbrev count : ℕ
  count = at.at_front.count

  -- what the walk over the bytes that it took tells
  ends-there : (e : StreamEnd) → response_walk_of (take at.at_front.count bytes) e ≡ responses.Response fields offset → position ≡ AtOffset offset
  ends-there e is =
      let le = response-tells.within (take count bytes) e offset (ap response_offset is) in
      let final = response-tells.decides (take count bytes) e offset (ap response_offset is) in
      let upto : offset ≤ at.at_front.count = omega (arith, le, length-take count bytes) in
      at.at_front.at_offset ∙ ap AtOffset (elim (cases_lt offset count) [
        | inl lt ↦ absurd (true≢false (sym (ap (λ ys. is_response_final (response_walk_of ys Running)) (sym (take-front offset count bytes upto)) ∙ final)
            ∙ (ap is_response_final (sym (says-at (take offset bytes))) ∙ at.at_front.least offset lt)))
        | inr more ↦ (let g : 0 + at.at_front.count ≡ offset = omega (arith, upto, more) in g)
      ])

  -- it stands where the response ends
  pub response-ends : position ≡ AtOffset offset
  response-ends = elim at.noted [
    | inl e ↦ ends-there Running (sym (says-at (take count bytes)) ∙ (ap response_rules.outcome (sym (e ∙ at.at_front.taken)) ∙ said))
    | inr e ↦ ends-there end (sym (says-ended (take count bytes) end) ∙ (ap response_rules.outcome (sym (e.0 ∙ ap (λ (r : ResponseReading). response_rules.ended end r) at.at_front.taken)) ∙ said))
  ]
