-- Prefixed integers (RFC 9204 section 4.1.1, RFC 7541 section 5.1).
use Rattle.std.specs.Prelude.{ℕ, zero, suc, ◌+◌, ◌-◌, ◌*◌, ◌/◌, ◌%◌, nat_lt, List, [], ◌∷◌, Option, Some, None, if◌then◌else◌}
use Rattle.std.specs.Option.{option_map}

-- the bytes after a full prefix, at most n: their low seven bits, least first; value and length
unfoldable pub continuation_at : ℕ → List ℕ → Option (ℕ × ℕ)
continuation_at zero bytes = None
continuation_at (suc n) [] = None
continuation_at (suc n) (b ∷ bytes) = if nat_lt b 128 then Some (b, 1) else option_map (λ p. (b - 128 + 128 * p.0, p.1 + 1)) (continuation_at n bytes)

-- the integer after a full prefix
abbrev pub after_full_prefix : ℕ → Option (ℕ × ℕ) → Option (ℕ × ℕ)
after_full_prefix full = option_map (λ p. (full + p.0, p.1 + 1))

-- the integer in the low bits of the first byte, which are all ones at full, and in at most four further bytes; value and length
-- (four is this repository's rule; RFC 9204, section 4.1.1, asks for integers of up to 62 bits)
unfoldable pub prefixed_at : ℕ → List ℕ → Option (ℕ × ℕ)
prefixed_at full [] = None
prefixed_at full (b ∷ bytes) = if nat_lt (b % (full + 1)) full then Some (b % (full + 1), 1) else after_full_prefix full (continuation_at 4 bytes)

-- ---- how they are written

-- the low seven bits, least first, in at most n bytes
abbrev pub continuation_bytes : ℕ → ℕ → List ℕ
continuation_bytes zero n = []
continuation_bytes (suc k) n = if nat_lt n 128 then n ∷ [] else (n % 128 + 128) ∷ continuation_bytes k (n / 128)

-- the bits above the prefix are high; nine further bytes hold the length of any text
unfoldable pub prefixed_bytes : ℕ → ℕ → ℕ → List ℕ
prefixed_bytes high full n = if nat_lt n full then (high + n) ∷ [] else (high + full) ∷ continuation_bytes 9 (n - full)

-- how many numbers n further bytes give
abbrev pub seven_bits : ℕ → ℕ
seven_bits zero = 1
seven_bits (suc n) = 128 * seven_bits n
