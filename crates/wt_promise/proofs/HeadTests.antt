-- What of a head is out and what credit allows, by lengths.
use Rattle.std.specs.Prelude.{[], ◌&&◌, ◌+◌, ◌==◌, ◌∷◌, ◌||◌, ◌≡◌, Bool, List, drop, false, filter, filter_map, if◌then◌else◌, is_none, is_some, length, nat_le, nat_lt, None, not, Option, Some, suc, take, true, zero, ℕ}
use Rattle.std.specs.List.{list_any}
use Rattle.std.proofs.Common.{◌∙◌, ap, refl, sym}
use Rattle.std.proofs.Math.Dec.{eqb-suc-zero, leb-suc-suc, leb-suc-zero, leb-zero}
use Rattle.std.proofs.lemmas.List.{drop-drop}
use Rattle.wt_message.specs.FixedBytes.{local_control_bytes}
use Rattle.wt_meaning.specs.Handshakes.{head_left, is_nothing, is_refused, lacks_credit, none_lives, begun_by, last_begun}
use Rattle.wt_meaning.specs.History.{History, credit_left, events, out}
use Rattle.wt_meaning.specs.Moments.{findings}
use Rattle.wt_meaning.specs.Windows.{establishes, lives}
use Rattle.std.specs.Option.{option_or}
use Rattle.wt_turn.specs.declared.call.Call.{Call}
use Rattle.wt_turn.specs.declared.turn.Turn.{Turn}
use Rattle.wt_promise.specs.Owed.{control_bytes, fits_credit, living, stopped_early, begun_in, begun_last}
use Rattle.wt_turn.specs.Reports.{stop_of}
use Rattle.wt_wire.specs.Varint.{varint_bytes}
use Rattle.wt_wire.specs.declared.side.Side.{Side}
use Rattle.wt_turn.specs.declared.turn.Turn.TheVariants as turns

pub nothing-beyond : (n : ℕ) (xs : List ℕ) → is_nothing (drop n xs) ≡ nat_le (length xs) n
nothing-beyond zero [] = refl
nothing-beyond zero (x ∷ xs) = sym (leb-suc-zero (length xs))
nothing-beyond (suc n) [] = sym (leb-zero (suc n))
nothing-beyond (suc n) (x ∷ xs) = nothing-beyond n xs ∙ sym (leb-suc-suc (length xs) n)

pub something-beyond : (n : ℕ) (xs : List ℕ) → not (is_nothing (drop n xs)) ≡ nat_lt n (length xs)
something-beyond zero [] = refl
something-beyond zero (x ∷ xs) = sym (leb-suc-suc 0 (length xs) ∙ leb-zero (length xs))
something-beyond (suc n) [] = sym (leb-suc-zero (suc n))
something-beyond (suc n) (x ∷ xs) = something-beyond n xs ∙ sym (leb-suc-suc (suc n) (length xs))

pub early : (h : History) (k : ℕ) (head : List ℕ) → is_refused h k (head_left h k head) ≡ stopped_early h k head
early h k head = ap (λ (b : Bool). is_some (stop_of (events h) k) && b) (something-beyond (length (out h k)) head)

pub lacking : (h : History) (k : ℕ) (head : List ℕ) → lacks_credit h k (head_left h k head) ≡ not (fits_credit h k head)
lacking h k head = ap (λ (xs : List ℕ). not (is_nothing xs)) (drop-drop (credit_left h k) (length (out h k)) head) ∙ ap not (nothing-beyond (length (out h k) + credit_left h k) head)

-- none of a list passes
none-among : (test : ℕ → Bool) (xs : List ℕ) → not (list_any test xs) ≡ (length (filter test xs) == 0)
none-among test [] = refl
none-among test (x ∷ xs) = by (test x) (none-among test xs)
  where
    by : (b : Bool) → not (list_any test xs) ≡ (length (filter test xs) == 0) → not (b || list_any test xs) ≡ (length (if b then x ∷ filter test xs else filter test xs) == 0)
    by true e = sym (eqb-suc-zero (length (filter test xs)))
    by false e = e

pub none-living : (side : Side) (h : History) → none_lives side h ≡ (length (living side h) == 0)
none-living side h = none-among (lives h (findings side h)) (filter_map establishes h)

pub none-some : {T : Type 0} (o : Option T) → not (is_some o) ≡ is_none o
none-some None = refl
none-some (Some x) = refl

pub none-taken : (n : ℕ) → ◌≡◌ {A = List ℕ} (take n []) []
none-taken zero = refl
none-taken (suc n) = refl

-- the 25 bytes
pub same-control : local_control_bytes ≡ control_bytes
unfolding varint_bytes
same-control = refl

-- the connect or response that was begun last
pub same-begun : (h : History) → last_begun h ≡ begun_last h
same-begun [] = refl
same-begun (p ∷ h) = ap (λ (o : Option Call). option_or o (last_begun h)) (one p.turn) ∙ ap (option_or (begun_in p.turn)) (same-begun h)
  where
    one : (turn : Turn) → begun_by turn ≡ begun_in turn
    one (turns.Call c) = refl
    one turn = refl
