-- The grammar of digests on texts: each row is computed by the definitions alone.
use Rattle.std.proofs.Common.{◌≡◌, ℕ, List, [], ◌∷◌, ◌++◌, Some, None, refl}
use Rattle.std.specs.Prelude.{codes}
use Rattle.std.specs.Str.{chars, trim_start, trim_end}
use Rattle.std.specs.Fmt.{digits}
use Rattle.wt_config.specs.declared.digest.Sha256DigestFmt.TheVariants.{BytesArray, DottedHex}
use Rattle.wt_config.specs.DigestText.{digest_of_text, text_of_digest}

-- the bytes 97 to 127, and then 64
abbrev letters : List ℕ
letters = 97 ∷ 98 ∷ 99 ∷ 100 ∷ 101 ∷ 102 ∷ 103 ∷ 104 ∷ 105 ∷ 106 ∷ 107 ∷ 108 ∷ 109 ∷ 110 ∷ 111 ∷ 112 ∷ 113 ∷ 114 ∷ 115 ∷ 116 ∷ 117 ∷ 118 ∷ 119 ∷ 120 ∷ 121 ∷ 122 ∷ 123 ∷ 124 ∷ 125 ∷ 126 ∷ 127 ∷ 64 ∷ []

array_is_read : digest_of_text BytesArray (codes "[97, 98, 99, 100, 101, 102, 103, 104, 105, 106, 107, 108, 109, 110, 111, 112, 113, 114, 115, 116, 117, 118, 119, 120, 121, 122, 123, 124, 125, 126, 127, 64]") ≡ Some letters
unfolding trim_start trim_end chars lib.Utf8.encode
array_is_read = refl

doubled_brackets : digest_of_text BytesArray (codes "[[97, 98, 99, 100, 101, 102, 103, 104, 105, 106, 107, 108, 109, 110, 111, 112, 113, 114, 115, 116, 117, 118, 119, 120, 121, 122, 123, 124, 125, 126, 127, 64]]") ≡ Some letters
unfolding trim_start trim_end chars lib.Utf8.encode
doubled_brackets = refl

signed_number : digest_of_text BytesArray (codes "[+097, 98, 99, 100, 101, 102, 103, 104, 105, 106, 107, 108, 109, 110, 111, 112, 113, 114, 115, 116, 117, 118, 119, 120, 121, 122, 123, 124, 125, 126, 127, 64]") ≡ Some letters
unfolding trim_start trim_end chars lib.Utf8.encode
signed_number = refl

blank_in_front : digest_of_text BytesArray (codes " [97, 98, 99, 100, 101, 102, 103, 104, 105, 106, 107, 108, 109, 110, 111, 112, 113, 114, 115, 116, 117, 118, 119, 120, 121, 122, 123, 124, 125, 126, 127, 64]") ≡ None
unfolding trim_start trim_end chars lib.Utf8.encode
blank_in_front = refl

blank_after : digest_of_text BytesArray (codes "[97, 98, 99, 100, 101, 102, 103, 104, 105, 106, 107, 108, 109, 110, 111, 112, 113, 114, 115, 116, 117, 118, 119, 120, 121, 122, 123, 124, 125, 126, 127, 64] ") ≡ None
unfolding trim_start trim_end chars lib.Utf8.encode
blank_after = refl

large_number : digest_of_text BytesArray (codes "[97, 98, 99, 100, 101, 102, 103, 104, 105, 106, 107, 108, 109, 110, 111, 112, 113, 114, 115, 116, 117, 118, 119, 120, 121, 122, 123, 124, 125, 126, 256, 64]") ≡ None
unfolding trim_start trim_end chars lib.Utf8.encode
large_number = refl

too_few : digest_of_text BytesArray (codes "[97, 98, 99, 100, 101, 102, 103, 104, 105, 106, 107, 108, 109, 110, 111, 112, 113, 114, 115, 116, 117, 118, 119, 120, 121, 122, 123, 124, 125, 126, 127]") ≡ None
unfolding trim_start trim_end chars lib.Utf8.encode
too_few = refl

too_many : digest_of_text BytesArray (codes "[97, 98, 99, 100, 101, 102, 103, 104, 105, 106, 107, 108, 109, 110, 111, 112, 113, 114, 115, 116, 117, 118, 119, 120, 121, 122, 123, 124, 125, 126, 127, 64, 65]") ≡ None
unfolding trim_start trim_end chars lib.Utf8.encode
too_many = refl

dotted_is_read : digest_of_text DottedHex (codes "61:62:63:64:65:66:67:68:69:6a:6b:6c:6d:6e:6f:70:71:72:73:74:75:76:77:78:79:7a:7b:7c:7d:7e:7f:40") ≡ Some letters
unfolding trim_start trim_end chars lib.Utf8.encode
dotted_is_read = refl

upper_case : digest_of_text DottedHex (codes "61:62:63:64:65:66:67:68:69:6a:6b:6c:6d:6e:6F:70:71:72:73:74:75:76:77:78:79:7a:7b:7c:7d:7e:7f:40") ≡ Some letters
unfolding trim_start trim_end chars lib.Utf8.encode
upper_case = refl

blank_after_colon : digest_of_text DottedHex (codes "61:62:63:64:65:66:67:68:69:6a:6b:6c:6d:6e:6f:70: 71:72:73:74:75:76:77:78:79:7a:7b:7c:7d:7e:7f:40") ≡ Some letters
unfolding trim_start trim_end chars lib.Utf8.encode
blank_after_colon = refl

ideographic_space : digest_of_text DottedHex (codes "61:62:63:64:65:66:67:68:69:6a:6b:6c:6d:6e:6f:70:" ++ (227 ∷ 128 ∷ 128 ∷ codes "71:72:73:74:75:76:77:78:79:7a:7b:7c:7d:7e:7f:40")) ≡ Some letters
unfolding trim_start trim_end chars lib.Utf8.encode
ideographic_space = refl

two_signs : digest_of_text DottedHex (codes "++61:62:63:64:65:66:67:68:69:6a:6b:6c:6d:6e:6f:70:71:72:73:74:75:76:77:78:79:7a:7b:7c:7d:7e:7f:40") ≡ None
unfolding trim_start trim_end chars lib.Utf8.encode
two_signs = refl

no_text : digest_of_text DottedHex (codes "") ≡ None
unfolding trim_start trim_end chars lib.Utf8.encode
no_text = refl

array_is_written : text_of_digest BytesArray letters ≡ codes "[97, 98, 99, 100, 101, 102, 103, 104, 105, 106, 107, 108, 109, 110, 111, 112, 113, 114, 115, 116, 117, 118, 119, 120, 121, 122, 123, 124, 125, 126, 127, 64]"
unfolding digits
array_is_written = refl

dotted_is_written : text_of_digest DottedHex letters ≡ codes "61:62:63:64:65:66:67:68:69:6a:6b:6c:6d:6e:6f:70:71:72:73:74:75:76:77:78:79:7a:7b:7c:7d:7e:7f:40"
dotted_is_written = refl
