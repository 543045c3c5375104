use Rattle.std.proofs.Common.{◌≡◌, ◌∙◌, List, ap, arith, length, subst, sym, ℕ}
use Rattle.std.specs.List.{insert}
use Rattle.wt_kept.specs.Kept.{GoneNow}
use Rattle.wt_kept.specs.Ending.{with_gone}
use Rattle.wt_peer_streams.specs.ByNumber.{IsOrdered, place_by}
use Rattle.wt_peer_streams.specs.Gone.{end_now}
use Rattle.wt_peer_streams.proofs.ByNumberLaws.{gone-more, ordered-more, place-within}
use Rattle.wt_peer_streams.proofs.gone.GoneSessions.add.Goals as goal

pub place_of-place-requires : goal.place_of-place-requires
place_of-place-requires c = subst (λ (xs : List GoneNow). IsOrdered (λ (x : GoneNow). x.id) xs) (sym c.as_slice.ensures.value) c.self.invariant

pub insert-requires : goal.insert-requires
insert-requires c =
    let place : c.place_of-place.result ≡ place_by (λ (x : GoneNow). x.id) c.args.session c.self.inside.sessions.items = c.place_of-place.ensures ∙ (ap (λ (n : ℕ). place_by (λ (x : GoneNow). x.id) n c.as_slice.result.now) (c.into_u64.ensures.value ∙ c.session_stream.ensures.stream)
    ∙ ap (λ (xs : List GoneNow). place_by (λ (x : GoneNow). x.id) c.args.session xs) c.as_slice.ensures.value) in
    let le = place-within (λ (x : GoneNow). x.id) c.args.session c.self.inside.sessions.items in
    let long = c.as_slice.ensures.len in
    let same = ap length c.as_slice.ensures.value in
    omega arith

pub invariant_of-self-2 : goal.invariant_of-self-2
invariant_of-self-2 c =
    let g : GoneNow = (record { id = c.args.session; end = end_now c.args.end }) in
    let place : c.place_of-place.result ≡ place_by (λ (x : GoneNow). x.id) c.args.session c.self.inside.sessions.items = c.place_of-place.ensures ∙ (ap (λ (n : ℕ). place_by (λ (x : GoneNow). x.id) n c.as_slice.result.now) (c.into_u64.ensures.value ∙ c.session_stream.ensures.stream)
    ∙ ap (λ (xs : List GoneNow). place_by (λ (x : GoneNow). x.id) c.args.session xs) c.as_slice.ensures.value) in
    let items : c.insert.new.self.items ≡ insert c.self.inside.sessions.items (place_by (λ (x : GoneNow). x.id) c.args.session c.self.inside.sessions.items) g =
    c.in_ok-insert.ensures.items ∙ ap (λ (n : ℕ). insert c.self.inside.sessions.items n g) place in
    subst (λ (xs : List GoneNow). IsOrdered (λ (x : GoneNow). x.id) xs) (sym items) (ordered-more (λ (x : GoneNow). x.id) c.self.inside.sessions.items g c.self.invariant)

pub returns : goal.returns
returns c =
    let g : GoneNow = (record { id = c.args.session; end = end_now c.args.end }) in
    let place : c.place_of-place.result ≡ place_by (λ (x : GoneNow). x.id) c.args.session c.self.inside.sessions.items = c.place_of-place.ensures ∙ (ap (λ (n : ℕ). place_by (λ (x : GoneNow). x.id) n c.as_slice.result.now) (c.into_u64.ensures.value ∙ c.session_stream.ensures.stream)
    ∙ ap (λ (xs : List GoneNow). place_by (λ (x : GoneNow). x.id) c.args.session xs) c.as_slice.ensures.value) in
    c.in_ok-insert.ensures.items ∙ (ap (λ (n : ℕ). insert c.self.inside.sessions.items n g) place ∙ (gone-more g c.self.inside.sessions.items ∙ ap (λ (xs : List GoneNow). with_gone g xs) c.self.view_is))
