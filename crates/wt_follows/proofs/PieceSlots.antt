-- A piece is put before the reader of a slot: the other slots stay as they are.
use Rattle.std.proofs.Common.{◌∙◌, ◌≡◌, ◌++◌, ◌∷◌, Bool, List, Some, [], ap, false, length, refl, subst, suc, sym, true, ℕ}
use Rattle.std.proofs.lemmas.Bool.{eqb-true, or_parts}
use Rattle.std.specs.Prelude.{◌==◌, ◌||◌, if◌then◌else◌, map, unwrap_or}
use Rattle.wt_follows.proofs.Logs.{flip}
use Rattle.wt_follows.specs.Rests.{IsRead, SlotsRead}
use Rattle.wt_follows.specs.Roles.{AreDistinct, is_in}
use Rattle.wt_follows.specs.Tie.{ReaderAt, SlotsAt}
use Rattle.wt_kept.specs.Pieces.{fed_slots, slot_of}
use Rattle.wt_kept.specs.Readers.{ReaderRules, Slot, fed_piece}
use Rattle.wt_turn.specs.Unread.{AtOffset, ReadPosition}

abbrev pub ids_of : {V : Type 0} → List (Slot V) → List ℕ
ids_of {V} xs = map (λ (x : Slot V). x.id) xs

-- what is known of the slot that is found
pub record FoundSlot {V O : Type 0} (w : ReaderRules V O) (bytes : ℕ → List ℕ) (position : ℕ → ReadPosition) (id : ℕ) (xs : List (Slot V)) (x : Slot V) : Type 0 where
  pub its : x.id ≡ id
  pub among : is_in id (ids_of xs) ≡ true
  pub at : ReaderAt w x.reader 0 (bytes id) (position id)
  pub read : IsRead position bytes id

module _ {V O : Type 0} (w : ReaderRules V O) (id : ℕ) (bytes : ℕ → List ℕ) (position : ℕ → ReadPosition) where
  pub slot-found : (xs fresh : List (Slot V)) (x : Slot V) → slot_of id xs ≡ Some x → SlotsAt w bytes position (xs ++ fresh) → SlotsRead position bytes xs → FoundSlot w bytes position id xs x
  slot-found [] fresh x e at read = absurd cc
  slot-found (y ∷ ys) fresh x e at read = by (y.id == id) refl e (λ g. slot-found ys fresh x g at.1 read.1)
    where
      by : (b : Bool) → (y.id == id) ≡ b → (if b then Some y else slot_of id ys) ≡ Some x → (slot_of id ys ≡ Some x → FoundSlot w bytes position id ys x) → FoundSlot w bytes position id (y ∷ ys) x
      by true f g later =
          let same : y ≡ x = ap (λ o. unwrap_or o y) g in
          let its : y.id ≡ id = eqb-true y.id id f in
          record {
            its = ap (λ (z : Slot V). z.id) (sym same) ∙ its;
            among = ap (λ b. b || is_in id (ids_of ys)) f;
            at = subst (λ (z : Slot V). ReaderAt w z.reader 0 (bytes id) (position id)) same (subst (λ k. ReaderAt w y.reader 0 (bytes k) (position k)) its at.0);
            read = subst (IsRead position bytes) its read.0;
          }
      by false f g later =
          let found = later g in
          record { its = found.its; among = ap (λ b. b || is_in id (ids_of ys)) f ∙ found.among; at = found.at; read = found.read }

  module _ (after_bytes : ℕ → List ℕ) (after : ℕ → ReadPosition) (same : (j : ℕ) → (id == j) ≡ false → (after_bytes j ≡ bytes j) × (after j ≡ position j)) (piece : List ℕ) where
    -- one that isn't the slot's
    other : (y : Slot V) → (y.id == id) ≡ false → ReaderAt w y.reader 0 (bytes y.id) (position y.id) → ReaderAt w y.reader 0 (after_bytes y.id) (after y.id)
    other y e at =
        let s = same y.id (flip y.id id e) in
        subst (λ (q : List ℕ × ReadPosition). ReaderAt w y.reader 0 q.0 q.1) (λ i. (sym s.0 i, sym s.1 i)) at

    other-read : (k : ℕ) → (k == id) ≡ false → IsRead position bytes k → IsRead after after_bytes k
    other-read k e r = let s = same k (flip k id e) in s.1 ∙ (r ∙ (λ i. AtOffset (length (sym s.0 i))))

    others : (ys : List (Slot V)) → is_in id (ids_of ys) ≡ false → SlotsAt w bytes position ys → SlotsAt w after_bytes after ys
    others [] e at = tt
    others (y ∷ ys) e at = let parts = or_parts (y.id == id) (is_in id (ids_of ys)) e in (other y parts.0 at.0, others ys parts.1 at.1)

    pub fed-slots : (xs fresh : List (Slot V)) (x : Slot V) → slot_of id xs ≡ Some x → AreDistinct (ids_of (xs ++ fresh)) → SlotsAt w bytes position (xs ++ fresh)
        → ReaderAt w (fed_piece w x.reader piece) 0 (after_bytes id) (after id) → SlotsAt w after_bytes after (fed_slots w id piece xs ++ fresh)
    fed-slots [] fresh x e d at fed = absurd cc
    fed-slots (y ∷ ys) fresh x e d at fed = by (y.id == id) refl e (λ g. fed-slots ys fresh x g d.1 at.1 fed)
      where
        by : (b : Bool) → (y.id == id) ≡ b → (if b then Some y else slot_of id ys) ≡ Some x
            → (slot_of id ys ≡ Some x → SlotsAt w after_bytes after (fed_slots w id piece ys ++ fresh))
            → SlotsAt w after_bytes after ((if b then record y { reader = fed_piece w y.reader piece } ∷ ys else y ∷ fed_slots w id piece ys) ++ fresh)
        by true f g later =
            let same_slot : y ≡ x = ap (λ o. unwrap_or o y) g in
            let its : y.id ≡ id = eqb-true y.id id f in (
              subst (λ k. ReaderAt w (fed_piece w y.reader piece) 0 (after_bytes k) (after k)) (sym its)
                  (subst (λ (z : Slot V). ReaderAt w (fed_piece w z.reader piece) 0 (after_bytes id) (after id)) (sym same_slot) fed),
              others (ys ++ fresh) (subst (λ k. is_in k (ids_of (ys ++ fresh)) ≡ false) its d.0) at.1,
            )
        by false f g later = (other y f at.0, later g)

    pub fed-read : (xs : List (Slot V)) → SlotsRead position bytes xs → IsRead after after_bytes id → SlotsRead after after_bytes (fed_slots w id piece xs)
    fed-read [] read here = tt
    fed-read (y ∷ ys) read here = by (y.id == id) refl (fed-read ys read.1 here)
      where
        any-read : (k : ℕ) → IsRead position bytes k → IsRead after after_bytes k
        any-read k r = either (k == id) refl
          where
            either : (b : Bool) → (k == id) ≡ b → IsRead after after_bytes k
            either true f = subst (IsRead after after_bytes) (sym (eqb-true k id f)) here
            either false f = other-read k f r

        all-read : (zs : List (Slot V)) → SlotsRead position bytes zs → SlotsRead after after_bytes zs
        all-read [] r = tt
        all-read (z ∷ zs) r = (any-read z.id r.0, all-read zs r.1)

        by : (b : Bool) → (y.id == id) ≡ b → SlotsRead after after_bytes (fed_slots w id piece ys) → SlotsRead after after_bytes (if b then record y { reader = fed_piece w y.reader piece } ∷ ys else y ∷ fed_slots w id piece ys)
        by true f later = (any-read y.id read.0, all-read ys read.1)
        by false f later = (other-read y.id f read.0, later)

    pub slots-apart : (ys : List (Slot V)) → is_in id (ids_of ys) ≡ false → SlotsAt w bytes position ys → SlotsAt w after_bytes after ys
    slots-apart = others

    pub read-apart : (ys : List (Slot V)) → is_in id (ids_of ys) ≡ false → SlotsRead position bytes ys → SlotsRead after after_bytes ys
    read-apart [] e r = tt
    read-apart (y ∷ ys) e r = let parts = or_parts (y.id == id) (is_in id (ids_of ys)) e in (other-read y.id parts.0 r.0, read-apart ys parts.1 r.1)

  pub fed-ids : (piece : List ℕ) (xs : List (Slot V)) → ids_of (fed_slots w id piece xs) ≡ ids_of xs
  fed-ids piece [] = refl
  fed-ids piece (y ∷ ys) = by (y.id == id) (fed-ids piece ys)
    where
      by : (b : Bool) → ids_of (fed_slots w id piece ys) ≡ ids_of ys → ids_of (if b then record y { reader = fed_piece w y.reader piece } ∷ ys else y ∷ fed_slots w id piece ys) ≡ y.id ∷ ids_of ys
      by true later = refl
      by false later = ap (λ ks. y.id ∷ ks) later

  pub fed-length : (piece : List ℕ) (xs : List (Slot V)) → length (fed_slots w id piece xs) ≡ length xs
  fed-length piece [] = refl
  fed-length piece (y ∷ ys) = by (y.id == id) (fed-length piece ys)
    where
      by : (b : Bool) → length (fed_slots w id piece ys) ≡ length ys → length (if b then record y { reader = fed_piece w y.reader piece } ∷ ys else y ∷ fed_slots w id piece ys) ≡ suc (length ys)
      by true later = refl
      by false later = ap suc later
