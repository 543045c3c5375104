-- The sessions that live are read on, one place after another.
use Rattle.std.proofs.Common.{◌+◌, ◌<◌, ◌≡◌, ◌≤◌, ◌∙◌, ◌∷◌, [], List, None, Option, Some, add-one, ap, drop, false, get_or, length, refl, sym, true, ℕ}
use Rattle.std.specs.Prelude.{is_some}
use Rattle.wt_kept.specs.Kept.{WorkNow}
use Rattle.wt_kept.specs.Looking.{read_each, read_session, unless_fault}
use Rattle.wt_peer_streams.proofs.Walking.{next-at, none-left}
use Rattle.wt_peer_streams.specs.Living.{some_ids}
use Rattle.wt_wire.specs.declared.error.ErrorCode.{ErrorCode}

-- nothing is read after a fault
pub each-over : (xs : List ℕ) (w : WorkNow) (code : ErrorCode) → w.dispatched.fault ≡ Some code → read_each xs w ≡ w
each-over [] w code e = refl
each-over (s ∷ xs) w code e = ap (λ o. unless_fault o (read_each xs (read_session s w)) w) e

module _ (xs : List (Option ℕ)) (i : ℕ) (whole : WorkNow) (w : WorkNow) (so_far : read_each (some_ids (drop i xs)) w ≡ whole) where
  module _ (l : i < length xs) (d : Option ℕ) where
    -- what is left once the one at this place is gone by
    left-is : (o : Option ℕ) → get_or xs i d ≡ o → read_each (some_ids (o ∷ drop (i + 1) xs)) w ≡ whole
    left-is o is = ap (λ n. read_each (some_ids (o ∷ drop n xs)) w) (add-one i) ∙ (sym (ap (λ ys. read_each (some_ids ys) w) (next-at xs i d o l is)) ∙ so_far)

    -- the session is read on
    pub each-read : (s : ℕ) → get_or xs i d ≡ Some s → (o : Option ErrorCode) → is_some o ≡ false → w.dispatched.fault ≡ o → (u : WorkNow) → u ≡ read_session s w → read_each (some_ids (drop (i + 1) xs)) u ≡ whole
    each-read s is (Some code) none fault u e = absurd (cc)
    each-read s is None none fault u e =
        ap (λ v. read_each (some_ids (drop (i + 1) xs)) v) e
        ∙ (sym (ap (λ o. unless_fault o (read_each (some_ids (drop (i + 1) xs)) (read_session s w)) w) fault) ∙ left-is (Some s) is)

    -- a fault is there
    pub each-stops : (s : ℕ) → get_or xs i d ≡ Some s → (o : Option ErrorCode) → is_some o ≡ true → w.dispatched.fault ≡ o → read_each (some_ids (drop (i + 1) xs)) w ≡ whole
    each-stops s is None some fault = absurd (cc)
    each-stops s is (Some code) some fault =
        each-over (some_ids (drop (i + 1) xs)) w code fault
        ∙ (sym (each-over (s ∷ some_ids (drop (i + 1) xs)) w code fault) ∙ left-is (Some s) is)

    -- none is there
    pub each-passes : get_or xs i d ≡ None → read_each (some_ids (drop (i + 1) xs)) w ≡ whole
    each-passes is = left-is None is

  -- none is left
  pub each-done : length xs ≤ i → w ≡ whole
  each-done le = sym (ap (λ ys. read_each (some_ids ys) w) (none-left xs i le)) ∙ so_far
