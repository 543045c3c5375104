-- A value behind a reference is there where its copy is.
use Rattle.std.proofs.Common.{◌≡◌, ℕ, true, List, Option, Some, None, Bor, refl, ap, ◌∙◌, sym}
use Rattle.std.specs.Option.{is_some, option_copied}

is_some-copied : (o : Option (Bor (List ℕ))) → is_some (option_copied o) ≡ is_some o
is_some-copied None = refl
is_some-copied (Some x) = refl

pub some_from_copied : (o : Option (Bor (List ℕ))) (v : Option (List ℕ)) → option_copied o ≡ v → is_some v ≡ true → is_some o ≡ true
some_from_copied o v e h = sym (is_some-copied o) ∙ ap is_some e ∙ h
