-- What stays of a shared result, whatever is called.
use Rattle.std.proofs.Common.{◌≡◌, true, false, List, [], ◌∷◌, Some, None, arith, refl}
use Rattle.std.proofs.lemmas.Grind.{common_steps}
use Rattle.wt_turn.specs.declared.poll.Poll.TheVariants.{Ready}
use Rattle.wt_driver.specs.SharedResult.{Shared, SharedCall, Set, Subscribe, AddSetter, LeaveSetter, LeaveGetter, after_call, after_calls, after_set, may_set, result_of}

module _ {T : Type 0} where
  -- one call leaves a value that is set
  value_after_call : (call : SharedCall T) (shared : Shared T) (first : T) → shared.value ≡ Some first → (after_call call shared).value ≡ Some first
  value_after_call (Set value) shared first e = grind (arith, common_steps)
  value_after_call AddSetter shared first e = grind (arith, common_steps)
  value_after_call _ shared first e = e

  -- and so do all of them
  value_after_calls : (later : List (SharedCall T)) (shared : Shared T) (first : T) → shared.value ≡ Some first → (after_calls later shared).value ≡ Some first
  value_after_calls [] shared first e = e
  value_after_calls (call ∷ later) shared first e = value_after_calls later (after_call call shared) first (value_after_call call shared first e)

  -- a `set` that may set does
  value_after_set : (shared : Shared T) (first : T) → may_set shared ≡ true → (after_set first shared).value ≡ Some first
  value_after_set shared first e = rw e refl

  pub set_stays : (shared : Shared T) (first : T) (later : List (SharedCall T)) → may_set shared ≡ true → may_set (after_calls later (after_set first shared)) ≡ false
  set_stays shared first later e = rw (value_after_calls later (after_set first shared) first (value_after_set shared first e)) refl

  pub value_stays : (shared : Shared T) (first : T) (later : List (SharedCall T)) → may_set shared ≡ true → result_of (after_calls later (after_set first shared)) ≡ Ready (Some first)
  value_stays shared first later e = rw (value_after_calls later (after_set first shared) first (value_after_set shared first e)) refl

  -- no value and no setter
  record IsGivenUp (shared : Shared T) : Type 0 where
    value : shared.value ≡ None
    setters : shared.setters ≡ 0

  given_up_after_call : (call : SharedCall T) (shared : Shared T) → IsGivenUp shared → IsGivenUp (after_call call shared)
  given_up_after_call (Set value) shared h = record { value = grind (arith, common_steps); setters = grind (arith, common_steps) }
  given_up_after_call Subscribe shared h = record { value = h.value; setters = h.setters }
  given_up_after_call AddSetter shared h = record { value = grind (arith, common_steps); setters = grind (arith, common_steps) }
  given_up_after_call LeaveSetter shared h = record { value = h.value; setters = omega (arith, h.setters) }
  given_up_after_call LeaveGetter shared h = record { value = h.value; setters = h.setters }

  given_up_after_calls : (later : List (SharedCall T)) (shared : Shared T) → IsGivenUp shared → IsGivenUp (after_calls later shared)
  given_up_after_calls [] shared h = h
  given_up_after_calls (call ∷ later) shared h = given_up_after_calls later (after_call call shared) (given_up_after_call call shared h)

  pub no_set_without_setter : (shared : Shared T) (later : List (SharedCall T)) → shared.value ≡ None → shared.setters ≡ 0 → may_set (after_calls later shared) ≡ false
  no_set_without_setter shared later none zero =
      let h = given_up_after_calls later shared (record { value = none; setters = zero }) in rw (h.value, h.setters) refl

  pub none_stays : (shared : Shared T) (later : List (SharedCall T)) → shared.value ≡ None → shared.setters ≡ 0 → result_of (after_calls later shared) ≡ Ready None
  none_stays shared later none zero =
      let h = given_up_after_calls later shared (record { value = none; setters = zero }) in rw (h.value, h.setters) refl
