-- A write goes out in order, from its first byte to its last.
use Rattle.std.proofs.Common.{arith, ◌≡◌, ◌<◌, ◌≤◌, ◌+◌, ℕ, Bool, true, false, List, [], ◌++◌, length, take, drop, Option, Some, None, Result, Ok, Err, refl, sym, subst, ap, ◌∙◌}
use Rattle.std.specs.Prelude.{OnErr, OnOk, is_some, nat_lt, not, if◌then◌else◌}
use Rattle.std.proofs.Math.Seq.{take-add}
use Rattle.std.proofs.lemmas.Bool.Decides.{nat_tests}
use Rattle.std.proofs.lemmas.Grind.{common_steps}
use Rattle.std.proofs.lemmas.List.{append-nil, length-append, take_all, take-append-drop}
use Rattle.wt_wire.specs.FrameBytes.{FrameParts, frame_bytes, frame_type, session_or_payload}
use Rattle.wt_wire.specs.Varint.{varint_bytes}
use Rattle.wt_message.specs.StreamTypes.{control_type, webtransport_type}
use Rattle.wt_proto.specs.StreamHeader.{header_bytes}
use Rattle.wt_transport.specs.HalfRules.{SendingHalf}
use Rattle.wt_seam.specs.Writing.{Continues, Pending, WritesPrefix, after_pending, nothing_begun, rest, write_of}

continues-if : (open_ stopped short : Bool) (p : Pending) (n : ℕ) → Continues (if not open_ then p else (if stopped then p else (if short then record p { out = n } else nothing_begun))) p.bytes
continues-if false stopped short p n some = refl
continues-if true true short p n some = refl
continues-if true false true p n some = refl
continues-if true false false p n some = absurd (omega arith)

pub still_continues : (open_ : Bool) (half : SendingHalf) (p : Pending) (bytes : List ℕ) → Continues (after_pending open_ half (write_of p bytes)) bytes
still_continues open_ half p bytes = continues-if open_ (is_some half.stop) (nat_lt half.left (length (rest (write_of p bytes)))) (write_of p bytes) (p.out + half.left)

-- the same where memory ran out and the write stands as it was begun
pub either_continues : {A E : Type 0} (r : Result A E) (open_ : Bool) (half : SendingHalf) (old mid new : Pending) (bytes : List ℕ) → mid ≡ write_of old bytes
    → OnOk r (new ≡ after_pending open_ half mid) → OnErr r (new ≡ mid) → Continues new bytes
either_continues (Ok a) open_ half old mid new bytes begun ok err = subst (λ (p : Pending). Continues p bytes) (sym (ok ∙ ap (λ (p : Pending). after_pending open_ half p) begun)) (still_continues open_ half old bytes)
either_continues (Err e) open_ half old mid new bytes begun ok err = subst (λ (p : Pending). Continues p bytes) (sym (err ∙ begun)) (λ some. refl)

nothing-out : (n : ℕ) (bytes : List ℕ) → take n bytes ≡ take n bytes ++ []
nothing-out n bytes = sym (append-nil (take n bytes))

prefix-if : (open_ stopped short : Bool) (left : ℕ) (p : Pending) (bytes : List ℕ) → nat_lt left (length (drop p.out bytes)) ≡ short → 0 < length bytes →
    let new : Pending = (if not open_ then write_of p bytes else (if stopped then write_of p bytes else (if short then record (write_of p bytes) { out = p.out + left } else nothing_begun))) in
    let now : List ℕ = (if not open_ then [] else (if stopped then [] else take left (drop p.out bytes))) in
    (0 < length new.bytes → take new.out bytes ≡ take p.out bytes ++ now) × (new.bytes ≡ [] → take p.out bytes ++ now ≡ bytes)
prefix-if false stopped short left p bytes e some = (λ _. nothing-out p.out bytes, λ f. absurd (omega (arith, ap length f)))
prefix-if true true short left p bytes e some = (λ _. nothing-out p.out bytes, λ f. absurd (omega (arith, ap length f)))
prefix-if true false true left p bytes e some = (λ _. take-add p.out left bytes, λ f. absurd (omega (arith, ap length f)))
prefix-if true false false left p bytes e some = (
  λ f. absurd (omega arith),
  λ _.
      let le : length (drop p.out bytes) ≤ left = grind (arith, nat_tests) in
      ap (λ (xs : List ℕ). take p.out bytes ++ xs) (take_all left (drop p.out bytes) le) ∙ take-append-drop p.out bytes,
)

pub writes_prefix : (open_ : Bool) (half : SendingHalf) (p : Pending) (bytes : List ℕ) → 0 < length bytes → WritesPrefix open_ half p (after_pending open_ half (write_of p bytes)) bytes
writes_prefix open_ half p bytes some =
    let both = prefix-if open_ (is_some half.stop) (nat_lt half.left (length (drop p.out bytes))) half.left p bytes refl some in
    record { begun = both.0; through = both.1 }

-- ---- what is written has bytes

varint-some : (n : ℕ) → 0 < length (varint_bytes n)
unfolding varint_bytes
varint-some n = grind (arith, common_steps)

pub frame_some : (f : FrameParts) → 0 < length (frame_bytes f)
frame_some f = omega (arith, varint-some (frame_type f.kind), length-append (varint_bytes (frame_type f.kind)) (session_or_payload f.session f.payload))

pub header_some : (session : Option ℕ) → 0 < length (header_bytes session)
header_some None = varint-some control_type
header_some (Some session) = omega (arith, varint-some webtransport_type, length-append (varint_bytes webtransport_type) (varint_bytes session))
