-- How a close of the peer is reported and shown (RFC 9000, section 10.2).
use Rattle.std.specs.Prelude.{ℕ, List, [], ◌∷◌, ◌++◌, codes, encode_utf8_all}
use Rattle.std.specs.Fmt.{decimal}
use Rattle.bstr.specs.Utf8.{lossy_chars}

-- a code and the bytes of a reason
pub record Close : Type 0 where
  pub code : ℕ
  pub reason : List ℕ

-- the code alone where there is no reason, else the reason, read lossily, and the code
abbrev pub close_text : ℕ → List ℕ → List ℕ
close_text code [] = decimal code
close_text code (b ∷ reason) = encode_utf8_all (lossy_chars (b ∷ reason)) ++ codes " (code " ++ decimal code ++ codes ")"
