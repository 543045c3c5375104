-- A session becomes gone: what is left of the sessions, and the streams that it leaves.
use Rattle.std.proofs.Common.{◌≡◌, ◌∙◌, [], List, None, Some, ap, get_or, sym, ℕ}
use Rattle.std.specs.List.{position, remove}
use Rattle.std.specs.Prelude.{Err, OnOk, Ok, Result}
use Rattle.wt_kept.specs.Ending.{Remains, ended_by, remains_of, waiting_ids, with_gone}
use Rattle.wt_kept.specs.Kept.{GoneNow, LiveNow, SessionEndNow, SessionsNow, WindowNow}
use Rattle.wt_kept.specs.Lists.{without_first}
use Rattle.wt_kept.specs.Windows.{is_live, live_in, part_of, without}
use Rattle.wt_peer_streams.proofs.Lists.{found-is, found-out, none-is}
use Rattle.wt_sessions.specs.StreamTable.{with_ids}

-- what holds anyway
pub on-any : {T E P : Type 0} (r : Result T E) → P → OnOk r P
on-any (Ok a) p = p
on-any (Err e) p = tt

-- d are the fields that stand for the value
module _ (s : ℕ) (d now : SessionsNow) (view : d ≡ now) where
  module _ (i : ℕ) (x : LiveNow) (at : Some i ≡ position (is_live s) d.living) (is : x ≡ get_or d.living i x) where
    lived : live_in now s ≡ Some x
    lived = sym (ap (λ (e : SessionsNow). live_in e s) view) ∙ (found-is (is_live s) d.living i x (sym at) ∙ ap (λ (y : LiveNow). Some y) (sym is))

    -- one that lived
    pub ended-live : (end : SessionEndNow) (xs : List LiveNow) (gs : List GoneNow) → xs ≡ remove d.living i → gs ≡ with_gone (record { id = s; end = end }) d.gone
        → record d { living = xs; gone = gs } ≡ ended_by now s end (live_in now s)
    ended-live end xs gs out more =
        (λ j. record d { living = out j; gone = more j })
        ∙ (ap (λ ys. record d { living = ys; gone = with_gone (record { id = s; end = end }) d.gone }) (found-out (is_live s) d.living i x (sym at))
        ∙ (ap (λ (k : SessionsNow). record k { living = without_first (is_live s) k.living; gone = with_gone (record { id = s; end = end }) k.gone }) view
        ∙ sym (ap (λ o. ended_by now s end o) lived)))

    pub left-of-live : (ids members : List ℕ) → ids ≡ waiting_ids x.window.streams → members ≡ x.members → ◌≡◌ {A = Remains} (record { streams = with_ids ids members; waiting = ids }) (remains_of now s (live_in now s))
    left-of-live ids members same others = (λ j. record { streams = with_ids (same j) (others j); waiting = same j }) ∙ sym (ap (λ o. remains_of now s o) lived)

  module _ (at : None ≡ position (is_live s) d.living) where
    never : live_in now s ≡ None
    never = sym (ap (λ (e : SessionsNow). live_in e s) view) ∙ none-is (is_live s) d.living (sym at)

    -- one that never did
    pub ended-other : (end : SessionEndNow) (w : WindowNow) (gs : List GoneNow) → w ≡ without s d.early → gs ≡ with_gone (record { id = s; end = end }) d.gone
        → record d { early = w; gone = gs } ≡ ended_by now s end (live_in now s)
    ended-other end w gs rest more =
        (λ j. record d { early = rest j; gone = more j })
        ∙ (ap (λ (k : SessionsNow). record k { early = without s k.early; gone = with_gone (record { id = s; end = end }) k.gone }) view ∙ sym (ap (λ o. ended_by now s end o) never))

    pub left-of-other : (part : WindowNow) (ids members : List ℕ) → part ≡ part_of s d.early → ids ≡ waiting_ids part.streams → members ≡ [] → ◌≡◌ {A = Remains} (record { streams = with_ids ids members; waiting = ids }) (remains_of now s (live_in now s))
    left-of-other part ids members own same nothing =
        (λ j. record { streams = with_ids (same j) (nothing j); waiting = same j })
        ∙ (ap (λ (w : WindowNow). record { streams = with_ids (waiting_ids w.streams) []; waiting = waiting_ids w.streams }) own
        ∙ (ap (λ (k : SessionsNow). record { streams = with_ids (waiting_ids (part_of s k.early).streams) []; waiting = waiting_ids (part_of s k.early).streams }) view ∙ sym (ap (λ o. remains_of now s o) never)))
