-- A stream that was given up stays as it is when it is given up again.
use Rattle.std.proofs.Common.{arith, ◌≡◌, ℕ, Bool, true, false, List, [], ◌∷◌, refl, sym, subst, ap, ◌∙◌}
use Rattle.std.specs.Prelude.{IsTrue, ◌==◌, if◌then◌else◌}
use Rattle.std.specs.List.{concat}
use Rattle.std.proofs.lemmas.Bool.{eqb-true}
use Rattle.wt_wire.specs.declared.side.Side.{Side}
use Rattle.wt_turn.specs.declared.action.Action.{Action}
use Rattle.wt_turn.specs.Log.{Log}
use Rattle.wt_turn.specs.Streams.{contents}
use Rattle.wt_turn.specs.Unread.{ReadPosition, GivenUp, from_position, given_up}
use Rattle.wt_transport.specs.StreamState.{Stream}
use Rattle.wt_transport.specs.Pieces.{AreFilled}
use Rattle.wt_transport.specs.State.{TransportState, state_of, Refines}
use Rattle.wt_transport.specs.Step.{after_give_up, can_receive_now}
use Rattle.wt_transport.proofs.StreamChanges.{emptied}
use Rattle.wt_transport.proofs.Calls.{give-up-then}
use Rattle.wt_transport.proofs.Refining.{receiving_exists}

-- pieces of which none is empty and that have no byte are none
no-pieces : (pieces : List (List ℕ)) → AreFilled pieces → concat pieces ≡ [] → pieces ≡ []
no-pieces [] f e = refl
no-pieces ([] ∷ later) f e = absurd (omega (arith, f.0))
no-pieces ((byte ∷ p) ∷ later) f e = absurd (cc)

module _ (side : Side) (t : TransportState) (log : Log) (position : ℕ → ReadPosition) (uncollected : List Action) (r : Refines side t log position uncollected) (id : ℕ) (gone : position id ≡ GivenUp) where
  none-here : r.pieces id ≡ []
  none-here = no-pieces (r.pieces id) (r.holds id).filled ((r.holds id).bytes ∙ ap (λ p. from_position p (contents log id)) gone)

  position-if : (b : Bool) (k : ℕ) → (id == k) ≡ b → (if b then GivenUp else position k) ≡ position k
  position-if true k e = sym (subst (λ n. position n ≡ GivenUp) (eqb-true id k e) gone)
  position-if false k e = refl

  pieces-if : (b : Bool) (k : ℕ) → (id == k) ≡ b → (if b then [] else r.pieces k) ≡ r.pieces k
  pieces-if true k e = sym (subst (λ n. r.pieces n ≡ []) (eqb-true id k e) none-here)
  pieces-if false k e = refl

  same-positions : given_up position id ≡ position
  same-positions = λ i k. position-if (id == k) k refl i

  same-pieces : emptied r.pieces id ≡ r.pieces
  same-pieces = λ i k. pieces-if (id == k) k refl i

  same-streams : IsTrue (can_receive_now t id) → (after_give_up t id).streams ≡ t.streams
  same-streams can = ap (λ (u : TransportState). (after_give_up u id).streams) r.state
      ∙ ap (λ (u : TransportState). u.streams) (give-up-then side log position r.pieces uncollected r.facts id (receiving_exists side t log position uncollected r id can))
      ∙ ((λ i. (state_of side log (same-positions i) (same-pieces i) uncollected).streams) ∙ sym (ap (λ (u : TransportState). u.streams) r.state))

  pub given_up_again : IsTrue (can_receive_now t id) → after_give_up t id ≡ t
  given_up_again can = ap (λ (streams : List (List Stream)). record t { streams = streams }) (same-streams can)

  -- whether or not the half is there
  unchanged-if : (u : TransportState) (b : Bool) → can_receive_now t id ≡ b → (IsTrue (can_receive_now t id) → u ≡ after_give_up t id) → (can_receive_now t id ≡ false → u ≡ t) → u ≡ t
  unchanged-if u true can there none = there can ∙ given_up_again can
  unchanged-if u false can there none = none can

  pub unchanged_again : (u : TransportState) → (IsTrue (can_receive_now t id) → u ≡ after_give_up t id) → (can_receive_now t id ≡ false → u ≡ t) → u ≡ t
  unchanged_again u = unchanged-if u (can_receive_now t id) refl
