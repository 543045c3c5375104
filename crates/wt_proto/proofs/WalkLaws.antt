-- A walk that stopped stays, and so does an outcome that is final.
use Rattle.std.proofs.Common.{◌≡◌, ℕ, zero, suc, ◌-◌, true, false, List, [], ◌∷◌, ◌++◌, Option, Some, None, unwrap_or, Bool, Result, Ok, Err, IfOk, refl, ap, ◌∙◌}
use Rattle.wt_proto.specs.declared.walk.Step.{Step}
use Rattle.wt_proto.specs.declared.walk.Step.TheVariants.{Cut, Goes, Stops}
use Rattle.wt_wire.specs.declared.side.StreamEnd.{StreamEnd}
use Rattle.wt_wire.specs.declared.side.StreamEnd.TheVariants.{Running}
use Rattle.wt_proto.specs.Walk.{Reached, step_on, outcome_at, walk, whole_walk}
use Rattle.wt_proto.specs.Steady.{size_of_step, IsSteady}

pub stopped : {S O : Type 0} (decide : S → List ℕ → Step S O) (s : S) (o : O) (bytes : List ℕ) →
    walk decide s (Some o) 0 bytes ≡ record { state = s; stop = Some o; between = true }
stopped decide s o [] = refl
stopped decide s o (b ∷ bytes) = refl

-- a walk that stopped stays under more bytes

led-stays : {S O : Type 0} (decide : S → List ℕ → Step S O) → IsSteady decide → (s : S) (o : O) (b : ℕ) (xs ys : List ℕ) →
    ((t : S) (stop : Option O) (n : ℕ) → (walk decide t stop n xs).stop ≡ Some o → walk decide t stop n (xs ++ ys) ≡ walk decide t stop n xs) →
    (step : Step S O) → decide s (b ∷ xs) ≡ step →
    (step_on (record { state = s; stop = None; between = false }) (λ t stop n. walk decide t stop (n - 1) xs) s step).stop ≡ Some o →
    step_on (record { state = s; stop = None; between = false }) (λ t stop n. walk decide t stop (n - 1) (xs ++ ys)) s step
    ≡ step_on (record { state = s; stop = None; between = false }) (λ t stop n. walk decide t stop (n - 1) xs) s step
led-stays decide steady s o b xs ys again Cut e f = absurd cc
led-stays decide steady s o b xs ys again (Goes t n) e f = again t None (n - 1) f
led-stays decide steady s o b xs ys again (Stops p n) e f = again s (Some p) (n - 1) f

decision : {S O : Type 0} (decide : S → List ℕ → Step S O) → IsSteady decide → (s : S) (o : O) (b : ℕ) (xs ys : List ℕ) (step : Step S O) → decide s (b ∷ xs) ≡ step →
    (step_on (record { state = s; stop = None; between = false }) (λ t stop n. walk decide t stop (n - 1) xs) s step).stop ≡ Some o →
    decide s (b ∷ xs ++ ys) ≡ step
decision decide steady s o b xs ys Cut e f = absurd cc
decision decide steady s o b xs ys (Goes t n) e f = steady.more s (b ∷ xs) ys n (ap (λ d. size_of_step d) e) ∙ e
decision decide steady s o b xs ys (Stops p n) e f = steady.more s (b ∷ xs) ys n (ap (λ d. size_of_step d) e) ∙ e

pub walk-stays : {S O : Type 0} (decide : S → List ℕ → Step S O) → IsSteady decide → (o : O) (xs ys : List ℕ) (s : S) (stop : Option O) (n : ℕ) →
    (walk decide s stop n xs).stop ≡ Some o → walk decide s stop n (xs ++ ys) ≡ walk decide s stop n xs
walk-stays decide steady o [] ys s stop (suc n) e = absurd cc
walk-stays decide steady o (b ∷ xs) ys s stop (suc n) e = walk-stays decide steady o xs ys s stop n e
walk-stays decide steady o [] ys s (Some p) zero e = stopped decide s p ys
walk-stays decide steady o [] ys s None zero e = absurd cc
walk-stays decide steady o (b ∷ xs) ys s (Some p) zero e = refl
walk-stays decide steady o (b ∷ xs) ys s None zero e =
    rw (decision decide steady s o b xs ys (decide s (b ∷ xs)) refl e)
    (led-stays decide steady s o b xs ys (λ t stop n. walk-stays decide steady o xs ys t stop n) (decide s (b ∷ xs)) refl e)

-- an outcome that is final while bytes may follow stays
module _ {S O : Type 0} (decide : S → List ℕ → Step S O) (steady : IsSteady decide) (start : S) (unfinished : StreamEnd → S → Bool → O)
    (final : O → Bool) (running : (s : S) (b : Bool) → final (unfinished Running s b) ≡ false) where
  stays-by : (bytes more : List ℕ) (end : StreamEnd) (stop : Option O) → (whole_walk decide start bytes).stop ≡ stop →
      final (unwrap_or stop (unfinished Running (whole_walk decide start bytes).state (whole_walk decide start bytes).between)) ≡ true →
      outcome_at unfinished end (whole_walk decide start (bytes ++ more)) ≡ outcome_at unfinished Running (whole_walk decide start bytes)
  stays-by bytes more end None e f = let open-still = running (whole_walk decide start bytes).state (whole_walk decide start bytes).between in absurd cc
  stays-by bytes more end (Some o) e f =
      ap (λ (r : Reached S O). outcome_at unfinished end r) (walk-stays decide steady o bytes more start None 0 e) ∙ rw e refl

  pub outcome-stays : (bytes more : List ℕ) (end : StreamEnd) → final (outcome_at unfinished Running (whole_walk decide start bytes)) ≡ true →
      outcome_at unfinished end (whole_walk decide start (bytes ++ more)) ≡ outcome_at unfinished Running (whole_walk decide start bytes)
  outcome-stays bytes more end f = stays-by bytes more end (whole_walk decide start bytes).stop refl f

-- an answer where memory may run out, at an equal value
pub if_ok_same : {A E : Type 0} (r : Result A E) (x y : A) → IfOk r (λ a. a ≡ x) → x ≡ y → IfOk r (λ a. a ≡ y)
if_ok_same (Ok a) x y e f = e ∙ f
if_ok_same (Err a) x y e f = e
