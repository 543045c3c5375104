-- What goes out, joined as it comes.
use Rattle.std.proofs.Common.{arith, ◌≡◌, ◌<◌, ◌+◌, ◌-◌, ℕ, zero, suc, true, false, List, [], ◌∷◌, ◌++◌, length, get_or, refl, ap}
use Rattle.std.proofs.Math.ListN.{set}
use Rattle.wt_turn.specs.declared.action.Action.{Action}
use Rattle.wt_turn.specs.declared.action.Action.TheVariants as actions
use Rattle.wt_turn.specs.Joined.{join_two, join_one}
use Rattle.wt_transport.specs.LastAction.{is_other, is_send, ends_with_send, with_more}

two-other : (b a : Action) → is_other a ≡ true → join_two b a ≡ b ∷ a ∷ []
two-other (actions.Send i p) (actions.Dial address name) e = refl
two-other (actions.Send i p) (actions.Opened id) e = refl
two-other (actions.Send i p) (actions.Send j q) e = absurd (cc)
two-other (actions.Send i p) (actions.Finish id) e = refl
two-other (actions.Send i p) (actions.ResetOut id code) e = refl
two-other (actions.Send i p) (actions.StopOut id code) e = refl
two-other (actions.Send i p) (actions.DatagramOut piece) e = refl
two-other (actions.Send i p) (actions.Close code reason) e = refl
two-other _ a e = refl

-- any other action stands by itself
pub join_other : (before : List Action) (a : Action) → is_other a ≡ true → join_one before a ≡ before ++ a ∷ []
join_other [] a e = refl
join_other (b ∷ []) a e = two-other b a e
join_other (b ∷ c ∷ later) a e = ap (λ xs. b ∷ xs) (join_other (c ∷ later) a e)

two-elsewhere : (b : Action) (id : ℕ) (p : List ℕ) → is_send b id ≡ false → join_two b (actions.Send id p) ≡ b ∷ actions.Send id p ∷ []
two-elsewhere (actions.Send i q) id p e = rw e refl
two-elsewhere _ id p e = refl

-- so do bytes for another stream than the last action's
pub join_elsewhere : (before : List Action) (id : ℕ) (p : List ℕ) → ends_with_send before id ≡ false → join_one before (actions.Send id p) ≡ before ++ actions.Send id p ∷ []
join_elsewhere [] id p e = refl
join_elsewhere (b ∷ []) id p e = two-elsewhere b id p e
join_elsewhere (b ∷ c ∷ later) id p e = ap (λ xs. b ∷ xs) (join_elsewhere (c ∷ later) id p e)

-- ---- the last action

last-at : (before : List Action) (n id : ℕ) (d : Action) → length before ≡ n + 1 → ends_with_send before id ≡ is_send (get_or before n d) id
last-at [] n id d l = absurd (omega arith)
last-at (a ∷ []) zero id d l = refl
last-at (a ∷ []) (suc n) id d l = absurd (omega arith)
last-at (a ∷ b ∷ later) zero id d l = absurd (omega arith)
last-at (a ∷ b ∷ later) (suc n) id d l = last-at (b ∷ later) n id d (omega arith)

pub last_sends : (before : List Action) (id : ℕ) (d : Action) → 0 < length before → ends_with_send before id ≡ is_send (get_or before (length before - 1) d) id
last_sends before id d l = last-at before (length before - 1) id d (omega arith)

pub some_sends : (before : List Action) (id : ℕ) → ends_with_send before id ≡ true → 0 < length before
some_sends [] id e = absurd (cc)
some_sends (a ∷ later) id e = omega arith

joined-with : (a : Action) (id : ℕ) (p : List ℕ) → is_send a id ≡ true → join_two a (actions.Send id p) ≡ with_more a p ∷ []
joined-with (actions.Send i q) id p e = rw e refl
joined-with _ id p e = absurd (cc)

here-at : (before : List Action) (n id : ℕ) (p : List ℕ) (d : Action) → length before ≡ n + 1 → ends_with_send before id ≡ true
    → join_one before (actions.Send id p) ≡ set before n (with_more (get_or before n d) p)
here-at [] n id p d l e = absurd (cc)
here-at (a ∷ []) zero id p d l e = joined-with a id p e
here-at (a ∷ []) (suc n) id p d l e = absurd (omega arith)
here-at (a ∷ b ∷ later) zero id p d l e = absurd (omega arith)
here-at (a ∷ b ∷ later) (suc n) id p d l e = ap (λ xs. a ∷ xs) (here-at (b ∷ later) n id p d (omega arith) e)

-- bytes for the stream on which the last action sends join it
pub join_here : (before : List Action) (id : ℕ) (p : List ℕ) (d : Action) → ends_with_send before id ≡ true
    → join_one before (actions.Send id p) ≡ set before (length before - 1) (with_more (get_or before (length before - 1) d) p)
join_here before id p d e = let l : 0 < length before = some_sends before id e in here-at before (length before - 1) id p d (omega arith) e
