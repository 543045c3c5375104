-- A half that is done stays so: a reset, a finish and an acknowledgement do.
use Rattle.std.specs.Prelude.{◌&&◌, ◌∷◌, ◌||◌, ◌≡◌, Bool, None, Option, Some, false, if◌then◌else◌, true, ℕ}
use Rattle.std.specs.List.{list_any}
use Rattle.std.proofs.Common.{◌∙◌, ap, refl, sym}
use Rattle.wt_meaning.specs.Halves.{is_done}
use Rattle.wt_meaning.specs.History.{History, Pair, actions_out, answers_reset, events, is_open, is_reset, is_reset_of, was_finished, with_event}
use Rattle.wt_promise.proofs.Accepted.{or-true}
use Rattle.wt_turn.specs.Reports.{acknowledges, is_acknowledged}
use Rattle.wt_turn.specs.Sent as sends
use Rattle.wt_sessions_agree.proofs.OutLaws.{any-newest}
use Rattle.wt_turn.specs.Log.{Event}
use Rattle.wt_turn.specs.Turns.{event_of}

-- the resets that answers tell, beside those that went out
abbrev pub told-resets : History → ℕ → Bool
told-resets h k = list_any (λ (p : Pair). answers_reset k p.turn p.answer.reply) h

module _ (p : Pair) (h : History) (k : ℕ) where
  reset-stays : is_reset h k ≡ true → is_reset (p ∷ h) k ≡ true
  reset-stays e =
      more (list_any (is_reset_of k) (actions_out h)) (list_any (is_reset_of k) p.answer.actions) (told-resets h k) (list_any (is_reset_of k) (actions_out (p ∷ h)))
      (any-newest (is_reset_of k) p.answer.actions (actions_out h)) (answers_reset k p.turn p.answer.reply) e
    where
      more : (a b t z : Bool) → z ≡ (a || b) → (ar : Bool) → (a || t) ≡ true → (z || (ar || t)) ≡ true
      more true b t z q ar f = rw q refl
      more false true true z q ar f = rw q refl
      more false false true z q true f = rw q refl
      more false false true z q false f = rw q refl
      more false b false z q ar f = absurd (cc f)

  finish-stays : was_finished h k ≡ true → was_finished (p ∷ h) k ≡ true
  finish-stays g = any-newest (sends.finishes k) p.answer.actions (actions_out h) ∙ ap (λ (b : Bool). b || list_any (sends.finishes k) p.answer.actions) g

  acknowledged-stays : is_acknowledged (events h) k ≡ true → is_acknowledged (events (p ∷ h)) k ≡ true
  acknowledged-stays e = by (is_open h) (event_of p.turn)
    where
      by : (o : Bool) (v : Option Event) → is_acknowledged (if o then with_event v (events h) else events h) k ≡ true
      by true None = e
      by true (Some v) = ap (λ (b : Bool). acknowledges k v || b) e ∙ or-true (acknowledges k v)
      by false v = e

  pub done-before : is_done (p ∷ h) k ≡ false → is_done h k ≡ false
  done-before d = by (is_reset h k) refl (was_finished h k) refl (is_acknowledged (events h) k) refl
    where
      by : (r : Bool) → is_reset h k ≡ r → (f : Bool) → was_finished h k ≡ f → (a : Bool) → is_acknowledged (events h) k ≡ a → (r || (f && a)) ≡ false
      by true e f g a i = absurd (let q : is_done (p ∷ h) k ≡ true = ap (λ (b : Bool). b || (was_finished (p ∷ h) k && is_acknowledged (events (p ∷ h)) k)) (reset-stays e) in cc (sym q ∙ d))
      by false e true g true i = absurd (
          let q : is_done (p ∷ h) k ≡ true
          =
          ap (λ (b : Bool). is_reset (p ∷ h) k || (b && is_acknowledged (events (p ∷ h)) k)) (finish-stays g) ∙ ap (λ (b : Bool). is_reset (p ∷ h) k || b) (acknowledged-stays i)
          ∙ or-true (is_reset (p ∷ h) k) in
          cc (sym q ∙ d))
      by false e true g false i = refl
      by false e false g a i = refl
