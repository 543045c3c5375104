-- A stream that the peer opens has its place: its header is read, or waits for that.
use Rattle.std.proofs.Common.{◌*◌, ◌+◌, ◌∙◌, ◌≡◌, ◌++◌, ◌∷◌, Bool, List, [], ap, arith, false, refl, subst, suc, sym, true, zero, ℕ}
use Rattle.std.proofs.lemmas.Bool.{eqb-true, true≢false}
use Rattle.std.proofs.lemmas.List.Folds.{list_any-append}
use Rattle.std.specs.Prelude.{◌%◌, ◌==◌, ◌||◌, not}
use Rattle.wt_follows.proofs.Lists.{flip, refuted}
use Rattle.wt_follows.proofs.QuietEntry.{and-first}
use Rattle.wt_follows.specs.Roles.{AreDistinct, IsApart, IsSessions, Roles, is_arriving, is_critical, is_held, is_in, is_living, is_member, waits}
use Rattle.wt_follows.specs.Tie.{There}
use Rattle.wt_kept.specs.Arriving.{fresh_slot, fresh_slots}
use Rattle.wt_kept.specs.Readers.{ReaderRules}
use Rattle.wt_turn.specs.Streams.{can_receive, exists, local_uni}
use Rattle.wt_sessions.specs.DriverState.{DriverState}
use Rattle.wt_turn.specs.Log.{Log}
use Rattle.wt_wire.specs.declared.side.Side.{Side}

-- ---- lists

-- the slots of streams that wait, with one more
pub fresh-more : {V O : Type 0} (w : ReaderRules V O) (kind n count : ℕ) → fresh_slots w kind n (suc count) ≡ fresh_slots w kind n count ++ fresh_slot w (4 * (n + count) + kind) ∷ []
fresh-more w kind n zero = λ i. fresh_slot w (4 * (add-none n i) + kind) ∷ []
  where
    add-none : (n : ℕ) → n ≡ n + 0
    add-none n = omega arith
fresh-more w kind n (suc count) = ap (λ xs. fresh_slot w (4 * n + kind) ∷ xs) (fresh-more w kind (suc n) count ∙ (λ i. fresh_slots w kind (suc n) count ++ fresh_slot w (4 * (add-one n count i) + kind) ∷ []))
  where
    add-one : (n count : ℕ) → suc n + count ≡ n + suc count
    add-one n count = omega arith

-- the id is in none of these, or in one more
pub in-more : (k new : ℕ) (ks : List ℕ) → is_in k (ks ++ new ∷ []) ≡ (is_in k ks || new == k)
in-more k new ks = list_any-append (λ (j : ℕ). j == k) ks (new ∷ []) ∙ ap (λ b. is_in k ks || b) (last (new == k))
  where
    last : (b : Bool) → (b || false) ≡ b
    last true = refl
    last false = refl

-- distinct ids, and one more that is none of them
pub distinct-more : (ks : List ℕ) (new : ℕ) → AreDistinct ks → is_in new ks ≡ false → AreDistinct (ks ++ new ∷ [])
distinct-more [] new d e = (refl, tt)
distinct-more (k ∷ ks) new d e =
    (in-more k new ks ∙ neither (is_in k ks) (new == k) d.0 (flip new k ∙ first (k == new) (is_in new ks) e), distinct-more ks new d.1 (rest (k == new) (is_in new ks) e))
  where
    neither : (a b : Bool) → a ≡ false → b ≡ false → (a || b) ≡ false
    neither true b x y = absurd cc
    neither false b x y = y

    rest : (a b : Bool) → (a || b) ≡ false → b ≡ false
    rest true b x = absurd cc
    rest false b x = x

    first : (a b : Bool) → (a || b) ≡ false → a ≡ false
    first true b x = absurd cc
    first false b x = refl

-- ---- the stream that is new

-- what the driver keeps with these streams that have no verdict, on an open connection or not
abbrev pub arrived : List ℕ → List ℕ → Bool → DriverState → DriverState
arrived us bs open_ s = record s { unis = us; bis = bs; is_open = open_ }

module _ (side : Side) (log : Log) (s : DriverState) (roles : Roles s) (t : There side s log) (new : ℕ) (absent : exists side log new ≡ false) where
  -- what is there isn't the new one
  missing : (b : Bool) → (b ≡ true → exists side log new ≡ true) → b ≡ false
  missing b f = refuted b (λ e. true≢false (sym (f e) ∙ absent))

  received : (k : ℕ) → can_receive side log k ≡ true → exists side log k ≡ true
  received k e = and-first (exists side log k) (not (local_uni side == k % 4)) e

  pub new-arriving : is_arriving s new ≡ false
  new-arriving = missing (is_arriving s new) (λ e. received new (t.arriving new e))

  new-critical : is_critical s new ≡ false
  new-critical = missing (is_critical s new) (λ e. received new (t.critical new e))

  new-held : is_held s new ≡ false
  new-held = missing (is_held s new) (λ e. received new (t.held new e))

  new-living : is_living s new ≡ false
  new-living = missing (is_living s new) (λ e. received new (t.living new e))

  new-waits : waits s new ≡ false
  new-waits = missing (waits s new) (λ e. received new (t.waiting new e))

  new-member : (session : ℕ) → is_member s session new ≡ false
  new-member session = missing (is_member s session new) (λ e. t.members new session e)

  new-gone : s.dispatched.is_gone new ≡ false
  new-gone = missing (s.dispatched.is_gone new) (λ e. t.gone new e)

  new-apart : IsApart s new
  new-apart = record { critical = new-critical; held = new-held; living = new-living; waits = new-waits; member = new-member; gone = new-gone }

  -- it is another than each that is there
  another : (k : ℕ) → exists side log k ≡ true → (new == k) ≡ false
  another k e = refuted (new == k) (λ x. true≢false (sym e ∙ ((λ i. exists side log (sym (eqb-true new k x) i)) ∙ absent)))

  -- with it among those that have no verdict
  module _ (us bs : List ℕ) (open_ : Bool) (one : AreDistinct us) (other : AreDistinct bs) (apart : (k : ℕ) → is_in k us ≡ true → is_in k bs ≡ false)
      (grows : (k : ℕ) → (is_in k us || is_in k bs) ≡ (is_arriving s k || new == k)) where
    abbrev z : DriverState
    z = arrived us bs open_ s

    stays-out : (k : ℕ) → exists side log k ≡ true → is_arriving s k ≡ false → is_arriving z k ≡ false
    stays-out k e a = grows k ∙ ((λ i. a i || another k e i))

    apart-by : (k : ℕ) (b : Bool) → is_arriving s k ≡ b → (b || new == k) ≡ true → IsApart z k
    apart-by k true e x = same-apart k (roles.arriving k e)
      where
        same-apart : (k : ℕ) → IsApart s k → IsApart z k
        same-apart k a = record { critical = a.critical; held = a.held; living = a.living; waits = a.waits; member = a.member; gone = a.gone }
    apart-by k false e x = subst (λ (j : ℕ). IsApart z j) (eqb-true new k x)
        (record { critical = new-critical; held = new-held; living = new-living; waits = new-waits; member = new-member; gone = new-gone })

    sessions-same : (k : ℕ) → exists side log k ≡ true → IsSessions s k → IsSessions z k
    sessions-same k e x = record { arriving = stays-out k e x.arriving; critical = x.critical; held = x.held; living = x.living }

    pub roles-more : Roles z
    roles-more = record {
      unis = one;
      bis = other;
      kinds = apart;
      arriving = λ k e. apart-by k (is_arriving s k) refl (sym (grows k) ∙ e);
      living = roles.living;
      living_alone = roles.living_alone;
      requests_alone = roles.requests_alone;
      waiting = roles.waiting;
      waiting_alone = λ k e. sessions-same k (received k (t.waiting k e)) (roles.waiting_alone k e);
      waiting_unjoined = roles.waiting_unjoined;
      members_alone = λ k session e. sessions-same k (t.members k session e) (roles.members_alone k session e);
      members_once = roles.members_once;
      members_distinct = roles.members_distinct;
      held = roles.held;
    }
