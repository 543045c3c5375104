-- Where nothing waits for an open end, all that went out at the other came there.
use Rattle.std.specs.Prelude.{◌++◌, ◌≡◌, List, flat_map, ℕ}
use Rattle.std.proofs.Common.{◌∙◌, ap, sym}
use Rattle.std.proofs.lemmas.List.{append-nil}
use Rattle.wt_meaning.specs.History.{contents}
use Rattle.wt_pair.proofs.Held.{Stream}
use Rattle.wt_pair.proofs.Keeps.{AllHeld, all-held}
use Rattle.wt_pair.proofs.Marks.{act_marks, bytes_marked, emitted, marked-out}
use Rattle.wt_pair.specs.Claims.{NothingHeldBack}
use Rattle.wt_pair.specs.declared.event.PairEvent.{PairEvent}
use Rattle.wt_pair.specs.declared.event.PairFacts.{PairFacts}
use Rattle.wt_pair.specs.declared.item.Item.{Item}
use Rattle.wt_pair.specs.Pair.{Ends, end_at, histories, other, run_pair}
use Rattle.wt_pair.specs.Streams.{item_marks}

whole : (f : PairFacts) (p : Ends) → AllHeld f p → NothingHeldBack p (histories p)
whole f p l e w o k = sym (append-nil (contents (end_at p e).history k)) ∙ ap (λ (x : List ℕ). contents (end_at p e).history k ++ x) (sym (s.whole o)) ∙ s.front ∙ ap bytes_marked came ∙ marked-out k (end_at p (other e)).history
  where
    s : Stream e (end_at p e).history (end_at p e).waiting (end_at p (other e)).history k
    s = (l e).stream k

    came : s.gone ≡ emitted (act_marks k) (end_at p (other e)).history
    came = sym (append-nil s.gone) ∙ ap (λ (x : List Item). s.gone ++ flat_map (item_marks k) x) (sym w) ∙ s.all

-- whatever the events are
pub nothing_held_back : (f : PairFacts) (events : List PairEvent) → NothingHeldBack (run_pair f events).ends (histories (run_pair f events).ends)
nothing_held_back f events = whole f (run_pair f events).ends (all-held f events)
