-- Visible characters of ASCII are a text.
use Rattle.std.proofs.Common.{◌≡◌, ◌<◌, ℕ, true, List, [], ◌∷◌, refl, ◌∙◌, arith}
use Rattle.std.proofs.lemmas.Bool.{lt-ltb}
use Rattle.std.proofs.lemmas.Bool.Decides.{nat_tests}
use Rattle.std.specs.Char.{is_ascii_graphic}
use Rattle.std.specs.Cmp.{first_so, second_so}
use Rattle.std.specs.List.{list_all}
use Rattle.wt_wire.specs.Utf8.{is_text_from, is_text}

below : (c : ℕ) → is_ascii_graphic c ≡ true → c < 128
below c e = grind (arith, nat_tests)

one_byte : (c : ℕ) (bytes : List ℕ) → is_ascii_graphic c ≡ true → is_text_from 0 0x80 0xBF (c ∷ bytes) ≡ is_text_from 0 0x80 0xBF bytes
unfolding is_text_from
one_byte c bytes e = rw (lt-ltb c 0x80 (below c e)) refl

pub visible_text : (bytes : List ℕ) → list_all is_ascii_graphic bytes ≡ true → is_text bytes ≡ true
unfolding is_text_from
visible_text [] e = refl
visible_text (c ∷ bytes) e =
    one_byte c bytes (first_so (is_ascii_graphic c) (list_all is_ascii_graphic bytes) e)
    ∙ visible_text bytes (second_so (is_ascii_graphic c) (list_all is_ascii_graphic bytes) e)
