-- A frame that is written reads back, whatever follows.
use Rattle.std.proofs.Common.{◌≡◌, ℕ, ◌+◌, ◌<◌, ◌≤◌, ◌^◌, true, false, eqb, List, ◌++◌, length, take, drop, append_assoc, Option, Some, None, IfSome, IsTrue, refl, ap, ◌∙◌, sym, arith}
use Rattle.std.proofs.lemmas.List.{length-append}
use Rattle.std.proofs.lemmas.Bool.{le-ltb}
use Rattle.std.proofs.lemmas.Bool.Decides.{nat_tests}
use Rattle.std.proofs.Math.Seq.{drop-append_seam, take-append_seam}
use Rattle.wt_wire.specs.declared.frame.FrameKind.{FrameKind}
use Rattle.wt_wire.specs.declared.frame.FrameKind.TheVariants as kinds
use Rattle.wt_wire.specs.Varint.{varint_at, varint_bytes}
use Rattle.wt_wire.specs.Frames.{Signal, Skipped, frame_at, frame_with_header, frame_of_type, is_known_type, is_exercise}
use Rattle.wt_wire.specs.FrameBytes.{FrameParts, IsFrame, IsReadable, frame_bytes, frame_of, frame_type}
use Rattle.wt_wire.proofs.VarintAgain.{varint_again, first_again, second_again}

-- the signal
signal_again : (session : ℕ) (more : List ℕ) → session < 2 ^ 62 →
    frame_at varint_at ((varint_bytes 65 ++ varint_bytes session) ++ more) ≡ Some (Signal session, length (varint_bytes 65 ++ varint_bytes session))
unfolding frame_at
signal_again session more small =
    rw (first_again 65 session more (omega arith))
    (let second = second_again 65 session more small in
    rw second (rw (length-append (varint_bytes 65) (varint_bytes session)) refl))

-- a frame with a payload, of another type than the signal's
module _ (n : ℕ) (payload more : List ℕ) where
  abbrev type : List ℕ
  type = varint_bytes n

  abbrev size : List ℕ
  size = varint_bytes (length payload)

  abbrev bytes : List ℕ
  bytes = (type ++ (size ++ payload)) ++ more

  in_order : bytes ≡ type ++ (size ++ (payload ++ more))
  in_order = append_assoc type (size ++ payload) more ∙ ap (λ (xs : List ℕ). type ++ xs) (append_assoc size payload more)

  type_again : n < 2 ^ 62 → varint_at bytes ≡ Some (n, length type)
  type_again small = ap (λ (xs : List ℕ). varint_at xs) in_order ∙ varint_again n (size ++ (payload ++ more)) small

  size_again : length payload < 2 ^ 62 → varint_at (drop (length type) bytes) ≡ Some (length payload, length size)
  size_again short =
      ap (λ (xs : List ℕ). varint_at (drop (length type) xs)) in_order
      ∙ ap (λ (xs : List ℕ). varint_at xs) (drop-append_seam type (size ++ (payload ++ more)))
      ∙ varint_again (length payload) (payload ++ more) short

  payload_again : take (length payload) (drop (length type + length size) bytes) ≡ payload
  payload_again =
      ap (λ (xs : List ℕ). take (length payload) (drop (length type + length size) xs)) (in_order ∙ sym (append_assoc type size (payload ++ more)))
      ∙ ap (λ (k : ℕ). take (length payload) (drop k ((type ++ size) ++ (payload ++ more)))) (sym (length-append type size))
      ∙ ap (λ (xs : List ℕ). take (length payload) xs) (drop-append_seam (type ++ size) (payload ++ more))
      ∙ take-append_seam payload more

  long_enough : length type + length size + length payload ≤ length bytes
  long_enough = omega (arith, length-append (type ++ (size ++ payload)) more, length-append type (size ++ payload), length-append size payload)

  whole : length type + length size + length payload ≡ length (type ++ (size ++ payload))
  whole = omega (arith, length-append type (size ++ payload), length-append size payload)

  known_again : length payload ≤ 4096 → is_known_type n ≡ true →
      frame_with_header bytes n (length type + length size) (length payload) ≡ Some (frame_of_type n payload, length (type ++ (size ++ payload)))
  known_again few e =
      rw (e, le-ltb 4096 (length payload) few, le-ltb (length bytes) (length type + length size + length payload) long_enough)
      (rw (payload_again, whole) refl)

  skipped_again : is_known_type n ≡ false → frame_with_header bytes n (length type + length size) (length payload) ≡ Some (Skipped n, length (type ++ (size ++ payload)))
  skipped_again e = rw (e, whole) refl

  header_again : (id_at : List ℕ → Option (ℕ × ℕ)) → n < 2 ^ 62 → eqb n 65 ≡ false → length payload < 2 ^ 62 →
      frame_at id_at bytes ≡ frame_with_header bytes n (length type + length size) (length payload)
  unfolding frame_at
  header_again id_at small plain short = rw (type_again small, plain, size_again short) refl

exercise_plain : (n : ℕ) → IsTrue (is_exercise n) → (eqb n 65 ≡ false) × (is_known_type n ≡ false)
exercise_plain n e = (grind (arith, nat_tests), grind (arith, nat_tests))

-- each kind of frame
pub frame_again : (f : FrameParts) (more : List ℕ) → IsFrame f → frame_type f.kind < 2 ^ 62 → IfSome f.session (λ s. s < 2 ^ 62) → (f.session ≡ None → length f.payload < 2 ^ 62) → IsReadable f →
    frame_at varint_at (frame_bytes f ++ more) ≡ Some (frame_of f, length (frame_bytes f))
frame_again f more is number session short readable = by f.kind f.session f.payload is number session short readable
  where
    by : (kind : FrameKind) (s : Option ℕ) (p : List ℕ) → IsFrame (record { kind = kind; session = s; payload = p }) → frame_type kind < 2 ^ 62 → IfSome s (λ n. n < 2 ^ 62) → (s ≡ None → length p < 2 ^ 62) →
        IsReadable (record { kind = kind; session = s; payload = p }) →
        frame_at varint_at (frame_bytes (record { kind = kind; session = s; payload = p }) ++ more)
        ≡ Some (frame_of (record { kind = kind; session = s; payload = p }), length (frame_bytes (record { kind = kind; session = s; payload = p })))
    by kinds.WebTransport (Some s) p is number session short readable = signal_again s more session
    by kinds.WebTransport None p is number session short readable = absurd is
    by kinds.Data None p is number session short readable = header_again 0 p more varint_at number refl (short refl) ∙ known_again 0 p more readable refl
    by kinds.Headers None p is number session short readable = header_again 1 p more varint_at number refl (short refl) ∙ known_again 1 p more readable refl
    by kinds.Settings None p is number session short readable = header_again 4 p more varint_at number refl (short refl) ∙ known_again 4 p more readable refl
    by (kinds.Exercise n) None p is number session short readable =
        header_again n p more varint_at number (exercise_plain n is).0 (short refl) ∙ skipped_again n p more (exercise_plain n is).1
    by _ (Some s) p is number session short readable = absurd is
