use Rattle.std.proofs.Common.{◌≡◌, ◌∙◌, List, [], ap, arith, length, rules, tests}
use Rattle.std.proofs.lemmas.Iterator.{YieldsList-from_slice}
use Rattle.std.proofs.lemmas.Iterator.Search.{position_from_yields_List}
use Rattle.std.specs.List.{insert, position}
use Rattle.std.specs.Prelude.{nat_lt, unwrap_or}
use Rattle.wt_kept.specs.Kept.{LiveNow, SessionsNow}
use Rattle.wt_kept.specs.Readers.{session_rules}
use Rattle.wt_kept.specs.Windows.{establish_now, live_from, with_live_by_id}
use Rattle.wt_peer_streams.proofs.SessionsLaws.{by-id}
use Rattle.wt_peer_streams.proofs.sessions.Sessions.establish.Goals as goal

pub returns : goal.returns
returns c =
    let xs : List LiveNow = c.self.inside.living.items in
    let x : LiveNow = live_from c.args.session c.self.inside.early in
    let found : c.position.result ≡ position (λ (y : LiveNow). nat_lt c.args.session y.id) xs =
    position_from_yields_List (λ (y : LiveNow). nat_lt c.args.session y.id) _ _ c.position.result c.position.ensures.ran (YieldsList-from_slice xs (c.iter.ensures.rest ∙ c.deref.ensures.value)) (λ y b q k. search (rules, tests)) in
    let live : c.begin-live.result ≡ x = c.begin-live.ensures ∙ (λ i. record { id = c.args.session; reader = session_rules.start; window = c.in_ok-window.ensures.part i; members = [] }) in
    let count : c.len.result ≡ length xs = (let n = c.len.ensures in let long = c.deref.ensures.len in let same = ap length c.deref.ensures.value in omega arith) in
    let place = c.unwrap_or-place.ensures ∙ (λ i. unwrap_or (found i) (count i)) in
    let items : c.insert.new.self.items ≡ with_live_by_id x xs = c.in_ok-insert.ensures.items ∙ ((λ i. insert xs (place i) (live i)) ∙ by-id x xs) in
    (λ i. record { living = items i; gone = c.self.inside.gone; early = c.in_ok-window.ensures.rest i }) ∙ ap (λ (d : SessionsNow). establish_now c.args.session d) c.self.view_is
