-- The steps in which a list's fields are put into others.
use Rattle.std.proofs.Common.{◌≡◌, ◌+◌, ◌∷◌, [], List, Some, drop, refl, suc, sym, zero, ℕ, true, false, arith, ap, ◌∙◌}
use Rattle.std.specs.List.{slice_get}
use Rattle.wt_meaning.specs.Targets.{reserved_name}
use Rattle.wt_message.specs.Requests.{is_reserved}
use Rattle.wt_wire.specs.HeaderList.{Fields}

-- the fields from an index on are the one at it, and those from the next index on
pub from_here : (fields : Fields) (i : ℕ) (f : List ℕ × List ℕ) → slice_get fields i ≡ Some f → drop i fields ≡ f ∷ drop (i + 1) fields
from_here [] i f h = cc
from_here (g ∷ fields) zero f h = let same : g ≡ f = cc in ap (λ x. x ∷ fields) same
from_here (g ∷ fields) (suc i) f h =
    let following : suc i + 1 ≡ suc (i + 1) = omega arith in
    from_here fields i f h ∙ ap (λ n. f ∷ drop n (g ∷ fields)) (sym following)

-- what the first field's name makes of the answer
pub first_is_reserved : (f : List ℕ × List ℕ) (fields : Fields) → is_reserved f.0 ≡ true → reserved_name (f ∷ fields) ≡ Some f.0
first_is_reserved f fields h = rw h refl

pub first_is_free : (f : List ℕ × List ℕ) (fields : Fields) → is_reserved f.0 ≡ false → reserved_name (f ∷ fields) ≡ reserved_name fields
first_is_free f fields h = rw h refl
