-- Actions that are printed one after another are those that are joined.
use Rattle.std.proofs.Common.{◌≡◌, ℕ, ◌/◌, ◌%◌, List, [], ◌∷◌, ◌++◌, Bool, true, false, refl, sym, ap, ◌∙◌, append_assoc, append-nil, inl, inr}
use Rattle.std.proofs.lemmas.Bool.{eq-eqb, ne_eqb}
use Rattle.std.proofs.lemmas.Bool.Decides.{eqb_tells}
use Rattle.std.specs.Prelude.{◌==◌, ◌⊎◌, Option, Some, None, codes, decimal, if◌then◌else◌, slice_index}
use Rattle.std.specs.List.{flat_map}
use Rattle.hex.specs.Hex.{encode_lower, encode_with, lower_digits}
use Rattle.wt_turn.specs.declared.action.Action.{Action}
use Rattle.wt_turn.specs.declared.action.Action.TheVariants as actions
use Rattle.wt_script.specs.Print.{before, joined, next_action_text, send_before, sends_on, text_after, texts_after}

-- the digits of joined bytes
pub encode_joined : (xs ys : List ℕ) → encode_lower (xs ++ ys) ≡ encode_lower xs ++ encode_lower ys
unfolding encode_with
encode_joined [] ys = refl
encode_joined (x ∷ xs) ys = ap (λ ds. slice_index lower_digits (x / 16) ∷ slice_index lower_digits (x % 16) ∷ ds) (encode_joined xs ys)

-- a send that goes on with another on the same stream
longer : (k b : ℕ) (bs ds : List ℕ) → next_action_text (actions.Send k (b ∷ bs)) ++ encode_lower ds ≡ next_action_text (actions.Send k (b ∷ bs ++ ds))
longer k b bs ds = simp append_assoc (ap (λ t. codes " ; send " ++ (decimal k ++ (codes " " ++ t))) (sym (encode_joined (b ∷ bs) ds)))

-- a choice that is known
chosen : {T : Type 0} (b : Bool) (t f : T) → b ≡ true → (if b then t else f) ≡ t
chosen b t f e = ap (λ c. if c then t else f) e

passed : {T : Type 0} (b : Bool) (t f : T) → b ≡ false → (if b then t else f) ≡ f
passed b t f e = ap (λ c. if c then t else f) e

same : (k : ℕ) → (k == k) ≡ true
same k = eq-eqb k k refl

-- it takes two at once as one after another
twice : (k : ℕ) (bs cs : List ℕ) (later : List Action) → send_before k bs (send_before k cs later) ≡ send_before k (bs ++ cs) later
twice k bs cs [] = chosen (k == k) _ _ (same k)
twice k bs cs (actions.Send id more ∷ later) = at (id == k) refl where
  at : (b : Bool) → (id == k) ≡ b → send_before k bs (send_before k cs (actions.Send id more ∷ later)) ≡ send_before k (bs ++ cs) (actions.Send id more ∷ later)
  at true e = ap (send_before k bs) (chosen (id == k) _ _ e) ∙ chosen (k == k) _ _ (same k)
      ∙ ap (λ ds. actions.Send k ds ∷ later) (sym (append_assoc bs cs more)) ∙ sym (chosen (id == k) _ _ e)
  at false e = ap (send_before k bs) (passed (id == k) _ _ e) ∙ chosen (k == k) _ _ (same k) ∙ sym (passed (id == k) _ _ e)
twice k bs cs (actions.Dial address name ∷ later) = chosen (k == k) _ _ (same k)
twice k bs cs (actions.Opened id ∷ later) = chosen (k == k) _ _ (same k)
twice k bs cs (actions.Finish id ∷ later) = chosen (k == k) _ _ (same k)
twice k bs cs (actions.ResetOut id code ∷ later) = chosen (k == k) _ _ (same k)
twice k bs cs (actions.StopOut id code ∷ later) = chosen (k == k) _ _ (same k)
twice k bs cs (actions.DatagramOut piece ∷ later) = chosen (k == k) _ _ (same k)
twice k bs cs (actions.Close code reason ∷ later) = chosen (k == k) _ _ (same k)

-- one on another stream ends it
apart : (k id : ℕ) (bs cs : List ℕ) (later : List Action) → (id == k) ≡ false
    → send_before k bs (send_before id cs later) ≡ actions.Send k bs ∷ send_before id cs later
apart k id bs cs [] e = passed (id == k) _ _ e
apart k id bs cs (actions.Send j more ∷ later) e = at (j == id) refl where
  at : (b : Bool) → (j == id) ≡ b
      → send_before k bs (send_before id cs (actions.Send j more ∷ later)) ≡ actions.Send k bs ∷ send_before id cs (actions.Send j more ∷ later)
  at true e' = ap (send_before k bs) (chosen (j == id) _ _ e') ∙ passed (id == k) _ _ e ∙ ap (λ l. actions.Send k bs ∷ l) (sym (chosen (j == id) _ _ e'))
  at false e' = ap (send_before k bs) (passed (j == id) _ _ e') ∙ passed (id == k) _ _ e ∙ ap (λ l. actions.Send k bs ∷ l) (sym (passed (j == id) _ _ e'))
apart k id bs cs (actions.Dial address name ∷ later) e = passed (id == k) _ _ e
apart k id bs cs (actions.Opened j ∷ later) e = passed (id == k) _ _ e
apart k id bs cs (actions.Finish j ∷ later) e = passed (id == k) _ _ e
apart k id bs cs (actions.ResetOut j code ∷ later) e = passed (id == k) _ _ e
apart k id bs cs (actions.StopOut j code ∷ later) e = passed (id == k) _ _ e
apart k id bs cs (actions.DatagramOut piece ∷ later) e = passed (id == k) _ _ e
apart k id bs cs (actions.Close code reason ∷ later) e = passed (id == k) _ _ e

-- what is printed one after another is what is joined: from the first action on, and after a send
abbrev Prints : List Action → Type 0
Prints out = (texts_after None out ≡ flat_map next_action_text (joined out))
    × ((k b : ℕ) (bs : List ℕ) → next_action_text (actions.Send k (b ∷ bs)) ++ texts_after (Some k) out ≡ flat_map next_action_text (send_before k (b ∷ bs) (joined out)))

-- after an action that is no send
after_other : (text : List ℕ) (later : List Action) → texts_after None later ≡ flat_map next_action_text (joined later)
    → text ++ texts_after None later ≡ text ++ flat_map next_action_text (joined later)
after_other text later e = ap (λ t. text ++ t) e

-- after a send, where some bytes go out next
next_send : (k id b c : ℕ) (bs cs : List ℕ) (later : List Action)
    → ((j d : ℕ) (ds : List ℕ) → next_action_text (actions.Send j (d ∷ ds)) ++ texts_after (Some j) later ≡ flat_map next_action_text (send_before j (d ∷ ds) (joined later)))
    → next_action_text (actions.Send k (b ∷ bs)) ++ texts_after (Some k) (actions.Send id (c ∷ cs) ∷ later)
    ≡ flat_map next_action_text (send_before k (b ∷ bs) (send_before id (c ∷ cs) (joined later)))
next_send k id b c bs cs later more = at (eqb_tells k id) where
  at : ((k == id) ≡ true) × (k ≡ id) ⊎ ((k == id) ≡ false) × (k ≡ id → ⊥)
      → next_action_text (actions.Send k (b ∷ bs)) ++ texts_after (Some k) (actions.Send id (c ∷ cs) ∷ later)
      ≡ flat_map next_action_text (send_before k (b ∷ bs) (send_before id (c ∷ cs) (joined later)))
  at (inl (e, same)) =
      ap (λ t. next_action_text (actions.Send k (b ∷ bs)) ++ (t ++ texts_after (Some id) later)) (chosen (k == id) _ _ e)
      ∙ ap (λ j. next_action_text (actions.Send k (b ∷ bs)) ++ (encode_lower (c ∷ cs) ++ texts_after (Some j) later)) (sym same)
      ∙ sym (append_assoc (next_action_text (actions.Send k (b ∷ bs))) (encode_lower (c ∷ cs)) (texts_after (Some k) later))
      ∙ ap (λ t. t ++ texts_after (Some k) later) (longer k b bs (c ∷ cs))
      ∙ more k b (bs ++ c ∷ cs)
      ∙ ap (flat_map next_action_text) (sym (twice k (b ∷ bs) (c ∷ cs) (joined later)))
      ∙ ap (λ j. flat_map next_action_text (send_before k (b ∷ bs) (send_before j (c ∷ cs) (joined later)))) same
  at (inr (e, other)) =
      ap (λ t. next_action_text (actions.Send k (b ∷ bs)) ++ (t ++ texts_after (Some id) later)) (passed (k == id) _ _ e)
      ∙ ap (λ t. next_action_text (actions.Send k (b ∷ bs)) ++ t) (more id c cs)
      ∙ sym (ap (flat_map next_action_text) (apart k id (b ∷ bs) (c ∷ cs) (joined later) (ne_eqb id k (λ q. other (sym q)))))

prints : (out : List Action) → Prints out
prints [] = (refl, λ k b bs. refl)
prints (actions.Send id [] ∷ later) = prints later
prints (actions.Send id (c ∷ cs) ∷ later) = ((prints later).1 id c cs, λ k b bs. next_send k id b c bs cs later (prints later).1)
prints (actions.Dial address name ∷ later) = let e = after_other (next_action_text (actions.Dial address name)) later (prints later).0 in
    (e, λ k b bs. after_other (next_action_text (actions.Send k (b ∷ bs))) (actions.Dial address name ∷ later) e)
prints (actions.Opened id ∷ later) = let e = after_other (next_action_text (actions.Opened id)) later (prints later).0 in
    (e, λ k b bs. after_other (next_action_text (actions.Send k (b ∷ bs))) (actions.Opened id ∷ later) e)
prints (actions.Finish id ∷ later) = let e = after_other (next_action_text (actions.Finish id)) later (prints later).0 in
    (e, λ k b bs. after_other (next_action_text (actions.Send k (b ∷ bs))) (actions.Finish id ∷ later) e)
prints (actions.ResetOut id code ∷ later) = let e = after_other (next_action_text (actions.ResetOut id code)) later (prints later).0 in
    (e, λ k b bs. after_other (next_action_text (actions.Send k (b ∷ bs))) (actions.ResetOut id code ∷ later) e)
prints (actions.StopOut id code ∷ later) = let e = after_other (next_action_text (actions.StopOut id code)) later (prints later).0 in
    (e, λ k b bs. after_other (next_action_text (actions.Send k (b ∷ bs))) (actions.StopOut id code ∷ later) e)
prints (actions.DatagramOut piece ∷ later) = let e = after_other (next_action_text (actions.DatagramOut piece)) later (prints later).0 in
    (e, λ k b bs. after_other (next_action_text (actions.Send k (b ∷ bs))) (actions.DatagramOut piece ∷ later) e)
prints (actions.Close code reason ∷ later) = let e = after_other (next_action_text (actions.Close code reason)) later (prints later).0 in
    (e, λ k b bs. after_other (next_action_text (actions.Send k (b ∷ bs))) (actions.Close code reason ∷ later) e)

pub joined_text : (out : List Action) → texts_after None out ≡ flat_map next_action_text (joined out)
joined_text out = (prints out).0

-- ---- joining twice

send_joined : (id b : ℕ) (bs : List ℕ) (out : List Action) → joined (send_before id (b ∷ bs) out) ≡ send_before id (b ∷ bs) (joined out)
send_joined id b bs [] = refl
send_joined id b bs (actions.Send k more ∷ later) = at more (eqb_tells k id) where
  at : (more : List ℕ) → ((k == id) ≡ true) × (k ≡ id) ⊎ ((k == id) ≡ false) × (k ≡ id → ⊥)
      → joined (send_before id (b ∷ bs) (actions.Send k more ∷ later)) ≡ send_before id (b ∷ bs) (joined (actions.Send k more ∷ later))
  at more (inr (e, other)) = ap joined (passed (k == id) _ _ e)
  at [] (inl (e, same)) = ap joined (chosen (k == id) _ _ e) ∙ ap (λ ds. send_before id ds (joined later)) (append-nil (b ∷ bs))
  at (c ∷ cs) (inl (e, same)) = ap joined (chosen (k == id) _ _ e) ∙ sym (twice id (b ∷ bs) (c ∷ cs) (joined later))
      ∙ ap (λ j. send_before id (b ∷ bs) (send_before j (c ∷ cs) (joined later))) (sym same)
send_joined id b bs (actions.Dial address name ∷ later) = refl
send_joined id b bs (actions.Opened k ∷ later) = refl
send_joined id b bs (actions.Finish k ∷ later) = refl
send_joined id b bs (actions.ResetOut k code ∷ later) = refl
send_joined id b bs (actions.StopOut k code ∷ later) = refl
send_joined id b bs (actions.DatagramOut piece ∷ later) = refl
send_joined id b bs (actions.Close code reason ∷ later) = refl

pub joined_again : (out : List Action) → joined (joined out) ≡ joined out
joined_again [] = refl
joined_again (actions.Send id [] ∷ later) = joined_again later
joined_again (actions.Send id (b ∷ bs) ∷ later) = send_joined id b bs (joined later) ∙ ap (send_before id (b ∷ bs)) (joined_again later)
joined_again (actions.Dial address name ∷ later) = ap (λ l. actions.Dial address name ∷ l) (joined_again later)
joined_again (actions.Opened k ∷ later) = ap (λ l. actions.Opened k ∷ l) (joined_again later)
joined_again (actions.Finish k ∷ later) = ap (λ l. actions.Finish k ∷ l) (joined_again later)
joined_again (actions.ResetOut k code ∷ later) = ap (λ l. actions.ResetOut k code ∷ l) (joined_again later)
joined_again (actions.StopOut k code ∷ later) = ap (λ l. actions.StopOut k code ∷ l) (joined_again later)
joined_again (actions.DatagramOut piece ∷ later) = ap (λ l. actions.DatagramOut piece ∷ l) (joined_again later)
joined_again (actions.Close code reason ∷ later) = ap (λ l. actions.Close code reason ∷ l) (joined_again later)
