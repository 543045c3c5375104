use Rattle.std.proofs.Common.{◌<◌, ◌≡◌, ◌∙◌, List, ap, arith, get_or, length, subst, sym, ℕ}
use Rattle.std.proofs.lemmas.Bool.{eqb-true}
use Rattle.std.specs.List.{insert}
use Rattle.std.specs.Prelude.{◌==◌}
use Rattle.wt_peer_streams.proofs.ByNumberLaws.{id-new, id-there, ordered-more, place-within}
use Rattle.wt_peer_streams.specs.ByNumber.{IsOrdered, place_by}
use Rattle.wt_sessions.specs.StreamTable.{with_id}
use Rattle.wt_peer_streams.proofs.numbered.StreamIds.add.Goals as goal
use Rattle.wt_peer_streams.proofs.numbered.StreamIds.add.Goals.{else-place-len-via-else-place-len, else-place-len-via-then-place-len+else-eq}

pub insert-requires : goal.insert-requires
insert-requires c =
    let place : c.place_of-place.result ≡ place_by (λ (id : ℕ). id) c.args.id c.self.inside.ids.items = c.place_of-place.ensures ∙ (ap (λ (n : ℕ). place_by (λ (id : ℕ). id) n c.as_slice.result.now) c.into_u64.ensures.value
    ∙ ap (λ (xs : List ℕ). place_by (λ (id : ℕ). id) c.args.id xs) c.as_slice.ensures.value) in
    let le = place-within (λ (id : ℕ). id) c.args.id c.self.inside.ids.items in
    let long = c.as_slice.ensures.len in
    let same = ap length c.as_slice.ensures.value in
    omega arith

pub invariant_of-self-2 : goal.invariant_of-self-2
invariant_of-self-2 c =
    let place : c.place_of-place.result ≡ place_by (λ (id : ℕ). id) c.args.id c.self.inside.ids.items = c.place_of-place.ensures ∙ (ap (λ (n : ℕ). place_by (λ (id : ℕ). id) n c.as_slice.result.now) c.into_u64.ensures.value
    ∙ ap (λ (xs : List ℕ). place_by (λ (id : ℕ). id) c.args.id xs) c.as_slice.ensures.value) in
    let items : c.insert.new.self.items ≡ insert c.self.inside.ids.items (place_by (λ (id : ℕ). id) c.args.id c.self.inside.ids.items) c.args.id =
    c.in_ok-insert.ensures.items ∙ ap (λ (n : ℕ). insert c.self.inside.ids.items n c.args.id) place in
    subst (λ (xs : List ℕ). IsOrdered (λ (id : ℕ). id) xs) (sym items) (ordered-more (λ (id : ℕ). id) c.self.inside.ids.items c.args.id c.self.invariant)

pub returns-then-eq : goal.returns-then-eq
returns-then-eq c =
    let place : c.place_of-place.result ≡ place_by (λ (id : ℕ). id) c.args.id c.self.inside.ids.items = c.place_of-place.ensures ∙ (ap (λ (n : ℕ). place_by (λ (id : ℕ). id) n c.as_slice.result.now) c.into_u64.ensures.value
    ∙ ap (λ (xs : List ℕ). place_by (λ (id : ℕ). id) c.args.id xs) c.as_slice.ensures.value) in
    let below : place_by (λ (id : ℕ). id) c.args.id c.self.inside.ids.items < length c.self.inside.ids.items =
    (let test = c.if-place-len.true in let count = c.len.ensures in let long = c.as_slice.ensures.len in let same = ap length c.as_slice.ensures.value in omega arith) in
    sym c.self.view_is
    ∙ (id-there c.args.id c.self.inside.ids.items c.index.result.now below (c.index.ensures ∙ ap (λ (n : ℕ). get_or c.self.inside.ids.items n c.index.result.now) place)
    (eqb-true c.index.result.now c.args.id (sym c.eq.ensures ∙ c.if-eq.true))
    ∙ ap (λ (xs : List ℕ). with_id c.args.id xs) c.self.view_is)

pub returns : goal.returns
returns c =
    let place : c.place_of-place.result ≡ place_by (λ (id : ℕ). id) c.args.id c.self.inside.ids.items = c.place_of-place.ensures ∙ (ap (λ (n : ℕ). place_by (λ (id : ℕ). id) n c.as_slice.result.now) c.into_u64.ensures.value
    ∙ ap (λ (xs : List ℕ). place_by (λ (id : ℕ). id) c.args.id xs) c.as_slice.ensures.value) in
    c.in_ok-insert.ensures.items ∙ (ap (λ (n : ℕ). insert c.self.inside.ids.items n c.args.id) place ∙ (
    (elim c.else-place-len.branch [
      | else-place-len-via-then-place-len+else-eq w ↦
          let here : w.index.result.now ≡ get_or c.self.inside.ids.items (place_by (λ (id : ℕ). id) c.args.id c.self.inside.ids.items) w.index.result.now = w.index.ensures ∙ ap (λ (n : ℕ). get_or c.self.inside.ids.items n w.index.result.now) place in
          id-new c.args.id c.self.inside.ids.items w.index.result.now (λ l. ap (λ (n : ℕ). n == c.args.id) (sym here) ∙ (sym w.eq.ensures ∙ w.if-eq.false))
      | else-place-len-via-else-place-len w ↦
          let test = w.if-place-len.false in
          let count = c.len.ensures in
          let long = c.as_slice.ensures.len in
          let same = ap length c.as_slice.ensures.value in
          id-new c.args.id c.self.inside.ids.items 0 (λ l. absurd (omega arith))
    ]) ∙ ap (λ (xs : List ℕ). with_id c.args.id xs) c.self.view_is))
