-- Texts of words that are read back as a value.
use Rattle.std.proofs.Common.{◌≡◌, ℕ, true, List, [], ◌∷◌, ◌++◌, refl, sym, ap, ◌∙◌, append_assoc}
use Rattle.std.specs.Prelude.{None, Option, Some, codes, decimal}
use Rattle.std.specs.List.{AllByRecursion}
use Rattle.std.specs.Option.{option_map, option_or, option_zip}
use Rattle.hex.specs.Hex.{IsBytes}
use Rattle.wt_script.specs.Fits.{IsCount}
use Rattle.wt_script.specs.PrintErrors.{hex_text}
use Rattle.wt_script.specs.Words.{one, two}
use Rattle.wt_script.proofs.Digits.{decimal_hex, hex_lacks, hex_text_lacks}
use Rattle.wt_script.proofs.Separators.{EachLacks, lacks, spaced}

-- a word has neither a blank nor a semicolon
abbrev pub IsPlain : List ℕ → Type 0
IsPlain word = (lacks 32 word ≡ true) × (lacks 59 word ≡ true)

abbrev pub ArePlain : List (List ℕ) → Type 0
ArePlain words = AllByRecursion IsPlain words

pub without_blanks : (words : List (List ℕ)) → ArePlain words → EachLacks 32 words
without_blanks [] plain = tt
without_blanks (w ∷ words) plain = (plain.0.0, without_blanks words plain.1)

pub without_semicolons : (words : List (List ℕ)) → ArePlain words → EachLacks 59 words
without_semicolons [] plain = tt
without_semicolons (w ∷ words) plain = (plain.0.1, without_semicolons words plain.1)

pub plain_decimal : (n : ℕ) → IsCount n → IsPlain (decimal n)
plain_decimal n h = (hex_lacks 32 refl (decimal n) (decimal_hex n h), hex_lacks 59 refl (decimal n) (decimal_hex n h))

pub plain_hex : (bytes : List ℕ) → IsBytes bytes → IsPlain (hex_text bytes)
plain_hex bytes h = (hex_text_lacks 32 refl refl bytes h, hex_text_lacks 59 refl refl bytes h)

-- the text is plain words with blanks between them, from which the value is read
pub record Spelled {A : Type 0} (read : List (List ℕ) → Option A) (text : List ℕ) (a : A) : Type 0 where
  pub first : List ℕ
  pub rest : List (List ℕ)
  pub plain : ArePlain (first ∷ rest)
  pub spells : text ≡ spaced (first ∷ rest)
  pub again : read (first ∷ rest) ≡ Some a

-- one word alone
pub bare : {A : Type 0} {read : List (List ℕ) → Option A} {a : A} (word : List ℕ) → IsPlain word → read (word ∷ []) ≡ Some a → Spelled read word a
bare word plain e = record { first = word; rest = []; plain = (plain, tt); spells = refl; again = e }

-- two words
pub pair : {A B : Type 0} {a : A} {b : B} (f : List ℕ → Option A) (g : List ℕ → Option B) (v w : List ℕ) → IsPlain v → IsPlain w → f v ≡ Some a → g w ≡ Some b
    → Spelled (two f g) (v ++ codes " " ++ w) (a, b)
pair {a = a} f g v w p q e e' = record {
  first = v;
  rest = w ∷ [];
  plain = (p, (q, tt));
  spells = append_assoc v (codes " ") w;
  again = ap (λ o. option_zip o (g w)) e ∙ ap (λ o. option_zip (Some a) o) e';
}

-- another value of the same words
pub mapped : {A B : Type 0} {read : List (List ℕ) → Option A} {text : List ℕ} {a : A} (f : A → B) → Spelled read text a
    → Spelled (λ words. option_map f (read words)) text (f a)
mapped f s = record { first = s.first; rest = s.rest; plain = s.plain; spells = s.spells; again = ap (option_map f) s.again }

-- a name in front of what has words
pub named : {A B : Type 0} {read : List (List ℕ) → Option B} {inner : List (List ℕ) → Option A} {text : List ℕ} {a : A} (f : A → B) (name : List ℕ) → IsPlain name
    → ((w : List ℕ) (words : List (List ℕ)) → read (name ∷ w ∷ words) ≡ option_map f (inner (w ∷ words))) → Spelled inner text a
    → Spelled read (name ++ 32 ∷ text) (f a)
named f name plain step s = record {
  first = name;
  rest = s.first ∷ s.rest;
  plain = (plain, s.plain);
  spells = ap (λ t. name ++ 32 ∷ t) s.spells;
  again = step s.first s.rest ∙ ap (option_map f) s.again;
}

-- the same, where another reading would come after it
pub named_or : {A B : Type 0} {read : List (List ℕ) → Option B} {inner : List (List ℕ) → Option A} {text : List ℕ} {a : A} (f : A → B) (name : List ℕ) → IsPlain name
    → ((w : List ℕ) (words : List (List ℕ)) → read (name ∷ w ∷ words) ≡ option_or (option_map f (inner (w ∷ words))) None) → Spelled inner text a
    → Spelled read (name ++ 32 ∷ text) (f a)
named_or f name plain step s = record {
  first = name;
  rest = s.first ∷ s.rest;
  plain = (plain, s.plain);
  spells = ap (λ t. name ++ 32 ∷ t) s.spells;
  again = step s.first s.rest ∙ ap (λ o. option_or (option_map f o) None) s.again;
}
