-- Two parts that are written one after the other.
use Rattle.std.proofs.Common.{◌≡◌, ◌≤◌, ◌<◌, ◌+◌, ◌-◌, ℕ, Bool, List, ◌++◌, length, drop, true, false, refl, sym, ap, ◌∙◌, arith, append_assoc, length-append, ltb}
use Rattle.std.proofs.lemmas.Bool.{lt-ltb, le-ltb}
use Rattle.std.proofs.lemmas.List.{drop-drop}
use Rattle.std.specs.Prelude.{if◌then◌else◌}
use Rattle.wt_ffi.specs.Rooms.{placed}

-- where there is a place for both: x and y are what is written, and z what is left of the room
pub placed_two : (first second room rest x y z : List ℕ) → length first ≤ length room → length second ≤ length room - length first
    → x ≡ first → y ≡ second → rest ≡ drop (length first) room → z ≡ drop (length second) rest → x ++ (y ++ z) ≡ placed (first ++ second) room
placed_two first second room rest x y z one two ex ey er ez =
    let fits : ltb (length room) (length (first ++ second)) ≡ false = le-ltb (length room) (length (first ++ second)) (omega (arith, length-append first second)) in
    let left : z ≡ drop (length (first ++ second)) room = ez ∙ ap (drop (length second)) er ∙ drop-drop (length second) (length first) room ∙ ap (λ n. drop n room) (sym (length-append first second)) in
    ap (λ w. w ++ (y ++ z)) ex ∙ ap (λ w. first ++ (w ++ z)) ey ∙ ap (λ w. first ++ (second ++ w)) left
    ∙ sym (append_assoc first second (drop (length (first ++ second)) room))
    ∙ ap (λ (b : Bool). if b then room else (first ++ second) ++ drop (length (first ++ second)) room) (sym fits)

-- where there isn't
pub no_place_two : (first second room : List ℕ) → length room < length first + length second → room ≡ placed (first ++ second) room
no_place_two first second room short =
    let long : ltb (length room) (length (first ++ second)) ≡ true = lt-ltb (length room) (length (first ++ second)) (omega (arith, length-append first second)) in
    ap (λ (b : Bool). if b then room else (first ++ second) ++ drop (length (first ++ second)) room) (sym long)
