-- Variable-length integers (RFC 9000, section 16).
use Rattle.std.specs.Prelude.{ℕ, ◌+◌, ◌-◌, ◌*◌, ◌/◌, ◌%◌, List, [], ◌∷◌, length, take, Option, Some, None, nat_lt, if◌then◌else◌}

-- the two high bits of the first byte say how many bytes there are: 1, 2, 4 or 8
abbrev pub varint_length : ℕ → ℕ
varint_length b = if nat_lt b 64 then 1 else (if nat_lt b 128 then 2 else (if nat_lt b 192 then 4 else 8))

-- bytes as one number, the first being the highest, below what comes before them
abbrev pub big_endian : ℕ → List ℕ → ℕ
big_endian high [] = high
big_endian high (b ∷ bytes) = big_endian (256 * high + b) bytes

-- the integer at the front, in any encoding, and how many bytes it takes; None where the bytes end inside it
unfoldable pub varint_at : List ℕ → Option (ℕ × ℕ)
varint_at [] = None
varint_at (b ∷ bytes) =
    if nat_lt (length bytes) (varint_length b - 1)
    then None
    else Some (big_endian (b % 64) (take (varint_length b - 1) bytes), varint_length b)

-- the shortest encoding of an integer below 2^62
unfoldable pub varint_bytes : ℕ → List ℕ
varint_bytes n =
    if nat_lt n 64 then n ∷ [] else
    (if nat_lt n 16384 then (64 + n / 256) ∷ (n % 256) ∷ [] else
    (if nat_lt n 1073741824 then (128 + n / 256 / 256 / 256) ∷ (n / 256 / 256 % 256) ∷ (n / 256 % 256) ∷ (n % 256) ∷ [] else
    (192 + n / 256 / 256 / 256 / 256 / 256 / 256 / 256) ∷ (n / 256 / 256 / 256 / 256 / 256 / 256 % 256) ∷ (n / 256 / 256 / 256 / 256 / 256 % 256) ∷ (n / 256 / 256 / 256 / 256 % 256)
    ∷ (n / 256 / 256 / 256 % 256) ∷ (n / 256 / 256 % 256) ∷ (n / 256 % 256) ∷ (n % 256) ∷ []))
