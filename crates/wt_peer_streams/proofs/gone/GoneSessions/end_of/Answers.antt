use Rattle.std.proofs.Common.{◌<◌, ◌≡◌, ◌∙◌, List, Some, ap, arith, get_or, length, subst, sym, true, ℕ}
use Rattle.std.specs.Prelude.{◌==◌}
use Rattle.wt_kept.specs.Kept.{GoneNow, Refused}
use Rattle.wt_kept.specs.Windows.{end_in}
use Rattle.wt_peer_streams.specs.ByNumber.{IsOrdered, place_by}
use Rattle.wt_peer_streams.proofs.ByNumberLaws.{gone-nowhere, gone-there}
use Rattle.wt_peer_streams.proofs.gone.GoneSessions.end_of.Goals as goal

pub place_of-place-requires : goal.place_of-place-requires
place_of-place-requires c = subst (λ (xs : List GoneNow). IsOrdered (λ (x : GoneNow). x.id) xs) (sym c.as_slice.ensures.value) c.self.invariant

pub returns-then-place-len : goal.returns-then-place-len
returns-then-place-len c =
    let place : c.place_of-place.result ≡ place_by (λ (x : GoneNow). x.id) c.args.session c.self.inside.sessions.items = c.place_of-place.ensures ∙ (ap (λ (n : ℕ). place_by (λ (x : GoneNow). x.id) n c.as_slice.result.now) (c.into_u64.ensures.value ∙ c.session_stream.ensures.stream)
    ∙ ap (λ (xs : List GoneNow). place_by (λ (x : GoneNow). x.id) c.args.session xs) c.as_slice.ensures.value) in
    let test = c.if-place-len.true in
    let count = c.len.ensures in
    let long = c.as_slice.ensures.len in
    let same = ap length c.as_slice.ensures.value in
    sym (gone-nowhere c.args.session c.self.inside.sessions.items (record { id = 0; end = Refused }) c.self.invariant (λ l. absurd (omega arith)))
    ∙ ap (λ (gs : List GoneNow). end_in gs c.args.session) c.self.view_is

pub returns-then-eq : goal.returns-then-eq
returns-then-eq c =
    let place : c.place_of-place.result ≡ place_by (λ (x : GoneNow). x.id) c.args.session c.self.inside.sessions.items = c.place_of-place.ensures ∙ (ap (λ (n : ℕ). place_by (λ (x : GoneNow). x.id) n c.as_slice.result.now) (c.into_u64.ensures.value ∙ c.session_stream.ensures.stream)
    ∙ ap (λ (xs : List GoneNow). place_by (λ (x : GoneNow). x.id) c.args.session xs) c.as_slice.ensures.value) in
    let below : place_by (λ (x : GoneNow). x.id) c.args.session c.self.inside.sessions.items < length c.self.inside.sessions.items =
    (let test = c.if-place-len.false in let count = c.len.ensures in let long = c.as_slice.ensures.len in let same = ap length c.as_slice.ensures.value in omega arith) in
    let here : c.index-gone.result.now ≡ get_or c.self.inside.sessions.items (place_by (λ (x : GoneNow). x.id) c.args.session c.self.inside.sessions.items) c.index-gone.result.now =
    c.index-gone.ensures ∙ ap (λ (n : ℕ). get_or c.self.inside.sessions.items n c.index-gone.result.now) place in
    let same : ((get_or c.self.inside.sessions.items (place_by (λ (x : GoneNow). x.id) c.args.session c.self.inside.sessions.items) c.index-gone.result.now).id == c.args.session) ≡ true =
    ap (λ (g : GoneNow). g.id == c.args.session) (sym here ∙ sym c.gone.view_is) ∙ (sym c.eq.ensures ∙ c.if-eq.true) in
    ap (λ (g : GoneNow). Some g.end) (c.gone.view_is ∙ here)
    ∙ (sym (gone-there c.args.session c.self.inside.sessions.items c.index-gone.result.now below same) ∙ ap (λ (gs : List GoneNow). end_in gs c.args.session) c.self.view_is)

pub returns : goal.returns
returns c =
    let place : c.place_of-place.result ≡ place_by (λ (x : GoneNow). x.id) c.args.session c.self.inside.sessions.items = c.place_of-place.ensures ∙ (ap (λ (n : ℕ). place_by (λ (x : GoneNow). x.id) n c.as_slice.result.now) (c.into_u64.ensures.value ∙ c.session_stream.ensures.stream)
    ∙ ap (λ (xs : List GoneNow). place_by (λ (x : GoneNow). x.id) c.args.session xs) c.as_slice.ensures.value) in
    let here : c.index-gone.result.now ≡ get_or c.self.inside.sessions.items (place_by (λ (x : GoneNow). x.id) c.args.session c.self.inside.sessions.items) c.index-gone.result.now =
    c.index-gone.ensures ∙ ap (λ (n : ℕ). get_or c.self.inside.sessions.items n c.index-gone.result.now) place in
    sym (gone-nowhere c.args.session c.self.inside.sessions.items c.index-gone.result.now c.self.invariant
    (λ l. ap (λ (g : GoneNow). g.id == c.args.session) (sym here ∙ sym c.gone.view_is) ∙ (sym c.eq.ensures ∙ c.if-eq.false)))
    ∙ ap (λ (gs : List GoneNow). end_in gs c.args.session) c.self.view_is
