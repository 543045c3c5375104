-- The bytes of a stream of a run that is made by rule, and how long that run is.
use Rattle.std.proofs.Common.{◌≡◌, ℕ, suc, zero, ◌+◌, ◌-◌, ◌*◌, ◌<◌, List, [], ◌∷◌, ◌++◌, length, arith, length-append, refl, sym, ap, ◌∙◌, ◌%◌, append_assoc, replicate, set}
use Rattle.std.proofs.Math.Seq.{set-append_seam}
use Rattle.std.proofs.lemmas.List.FromFn.{length-map-range_with_len, map-range_with_len_more}
use Rattle.wt_trace.specs.Generate.{all_stream_turns, counted_bytes, generated_turns, session_turns, stream_turns}

-- one byte more
bytes_more : (number count : ℕ) (front : List ℕ) →
    (front ++ counted_bytes number count) ++ ((number + count) % 256) ∷ [] ≡ front ++ counted_bytes number (count + 1)
bytes_more number count front =
    append_assoc front (counted_bytes number count) _
    ∙ ap (λ xs. front ++ xs) (sym (map-range_with_len_more (λ index. (number + index) % 256) 0 count count (omega arith)))

-- room for the header and this many bytes, with the header written
pub header_put : (count : ℕ) (number : ℕ) → set (set (replicate (count + 3) 0) 0 0x40) 1 0x54 ≡ (0x40 ∷ 0x54 ∷ 0x00 ∷ []) ++ counted_bytes number 0 ++ replicate (count - 0) 0
header_put count number =
    let room : count + 3 ≡ suc (suc (suc count)) = omega arith in
    let left : count ≡ count - 0 = omega arith in
    ap (λ n. set (set (replicate n 0) 0 0x40) 1 0x54) room ∙ ap (λ n. 0x40 ∷ 0x54 ∷ 0x00 ∷ replicate n 0) left

-- the next byte written
pub byte_put : (number count index : ℕ) (front : List ℕ) → index < count
    → set (front ++ counted_bytes number index ++ replicate (count - index) 0) (index + length front) ((number + index) % 256)
    ≡ front ++ counted_bytes number (index + 1) ++ replicate (count - (index + 1)) 0
byte_put number count index front within =
    let before : List ℕ = front ++ counted_bytes number index in
    let later : List ℕ = replicate (count - (index + 1)) 0 in
    let byte : ℕ = (number + index) % 256 in
    let left : count - index ≡ suc (count - (index + 1)) = omega arith in
    let size : length (counted_bytes number index) ≡ index = length-map-range_with_len (λ j. (number + j) % 256) 0 index in
    let place : index + length front ≡ length before = omega (arith, length-append front (counted_bytes number index), size) in
    ap (λ n. set (before ++ replicate n 0) (index + length front) byte) left
    ∙ ap (λ n. set (before ++ 0 ∷ later) n byte) place
    ∙ set-append_seam before 0 later byte
    ∙ sym (append_assoc before (byte ∷ []) later)
    ∙ ap (λ xs. xs ++ later) (bytes_more number index front)

length_of_streams : (streams : ℕ) → length (all_stream_turns streams) ≡ 6 * streams
length_of_streams zero = refl
length_of_streams (suc number) =
    let before = length_of_streams number in
    omega (arith, length-append (all_stream_turns number) (stream_turns number))

pub length_of_generated : (streams : ℕ) → length (generated_turns streams) ≡ 7 + 6 * streams
length_of_generated streams =
    let streams_are = length_of_streams streams in
    omega (arith, length-append session_turns (all_stream_turns streams))
