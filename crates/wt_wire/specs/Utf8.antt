-- UTF-8, by the table of its well-formed byte sequences (RFC 3629 section 4).
use Rattle.std.specs.Prelude.{ℕ, zero, suc, ◌==◌, ◌&&◌, nat_lt, not, Bool, true, false, List, [], ◌∷◌, if◌then◌else◌}

-- what a first byte begins: a sequence of n further bytes, whose next lies from least to most
pub data Lead : Type 0 where
  NotLead : Lead
  Begins : (further least most : ℕ) → Lead

-- the least second byte of a sequence, by its first
abbrev pub least_second : ℕ → ℕ
least_second b = if b == 0xE0 then 0xA0 else (if b == 0xF0 then 0x90 else 0x80)

-- the greatest one
abbrev pub most_second : ℕ → ℕ
most_second b = if b == 0xED then 0x9F else (if b == 0xF4 then 0x8F else 0xBF)

-- what a byte begins
abbrev pub lead : ℕ → Lead
lead b =
    if nat_lt b 0x80 then Begins 0 0x80 0xBF else
    (if nat_lt b 0xC2 then NotLead else
    (if nat_lt b 0xE0 then Begins 1 (least_second b) (most_second b) else
    (if nat_lt b 0xF0 then Begins 2 (least_second b) (most_second b) else
    (if nat_lt b 0xF5 then Begins 3 (least_second b) (most_second b) else NotLead))))

-- a test of what a first byte begins; it fails where it begins nothing
abbrev pub if_begins : Lead → (ℕ → ℕ → ℕ → Bool) → Bool
if_begins NotLead go = false
if_begins (Begins further least most) go = go further least most

-- the bytes are the rest of a sequence, which has n further bytes, and then whole sequences
unfoldable pub is_text_from : ℕ → ℕ → ℕ → List ℕ → Bool
is_text_from zero least most [] = true
is_text_from (suc further) least most [] = false
is_text_from zero least most (b ∷ bytes) = if_begins (lead b) (λ further low high. is_text_from further low high bytes)
is_text_from (suc further) least most (b ∷ bytes) = not (nat_lt b least) && not (nat_lt most b) && is_text_from further 0x80 0xBF bytes

-- the bytes are UTF-8. It is std's `is_utf8`, in a form that computes
abbrev pub is_text : List ℕ → Bool
is_text bytes = is_text_from 0 0x80 0xBF bytes
