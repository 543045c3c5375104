-- Copies stay on sessions of the room as they change and are added.
use Rattle.std.proofs.Common.{◌≡◌, ◌&&◌, ◌++◌, ◌∷◌, ◌∙◌, Bool, List, [], ap, false, get_or, refl, set, suc, true, zero, ℕ}
use Rattle.wt_endpoint.proofs.Apart.{and-left, and-right}
use Rattle.wt_relay.specs.declared.room.Member.{Member}
use Rattle.wt_relay.specs.declared.source.Copied.{Copied}
use Rattle.wt_relay.specs.Copies.{are_across}
use Rattle.wt_relay.specs.Rooms.{is_across}

both : (a b : Bool) → a ≡ true → b ≡ true → (a && b) ≡ true
both true b e f = f
both false b e f = e

pub across_more : (m : Member) (copies : List Copied) (c : Copied) → are_across m copies ≡ true → is_across m c.member ≡ true → are_across m (copies ++ c ∷ []) ≡ true
across_more m [] c e f = both (is_across m c.member) true f refl
across_more m (d ∷ copies) c e f =
    both (is_across m d.member) (are_across m (copies ++ c ∷ [])) (and-left (is_across m d.member) (are_across m copies) e)
    (across_more m copies c (and-right (is_across m d.member) (are_across m copies) e) f)

pub across_set : (m : Member) (copies : List Copied) (i : ℕ) (c d : Copied) → are_across m copies ≡ true → d ≡ get_or copies i d → c.member ≡ d.member → are_across m (set copies i c) ≡ true
across_set m [] i c d e g h = refl
across_set m (x ∷ copies) zero c d e g h =
    both (is_across m c.member) (are_across m copies) (ap (is_across m) (h ∙ ap (λ (y : Copied). y.member) g) ∙ and-left (is_across m x.member) (are_across m copies) e)
    (and-right (is_across m x.member) (are_across m copies) e)
across_set m (x ∷ copies) (suc i) c d e g h =
    both (is_across m x.member) (are_across m (set copies i c)) (and-left (is_across m x.member) (are_across m copies) e)
    (across_set m copies i c d (and-right (is_across m x.member) (are_across m copies) e) g h)
