-- A run of events goes on from the answers so far, and stops at the first event that doesn't fit.
use Rattle.std.specs.Prelude.{[], ◌++◌, ◌∷◌, ◌≡◌, ◌≤◌, List, None, Option, Some, false, length, true}
use Rattle.std.proofs.Common.{◌∙◌, ap, arith, sym}
use Rattle.std.proofs.lemmas.List.{append-nil, append_assoc}
use Rattle.wt_pair.specs.Keeping.{KeepsPair, Steps}
use Rattle.wt_pair.specs.Kept.{PairNow}
use Rattle.wt_pair.specs.Pair.{Ends, Happened, PairRun, at_first, happens, run_behind, run_from, run_pair, with_answer}
use Rattle.wt_pair.specs.declared.answer.PairAnswer.{PairAnswer}
use Rattle.wt_pair.specs.declared.event.PairEvent.{PairEvent}
use Rattle.wt_pair.specs.declared.event.PairFacts.{PairFacts}

-- these answers before those of a run
abbrev pub after_answers : List PairAnswer → PairRun → PairRun
after_answers answers r = record r { answers = answers ++ r.answers }

after_answers-more : (answers : List PairAnswer) (a : PairAnswer) (r : PairRun) → after_answers answers (with_answer a r) ≡ after_answers (answers ++ a ∷ []) r
after_answers-more answers a r = ap (λ (all : List PairAnswer). record r { answers = all }) (sym (append_assoc answers (a ∷ []) r.answers))

-- both ends after one more event, and the run of those behind it
pub record GoesOn (f : PairFacts) (now : PairNow) (answers : List PairAnswer) (later : List PairEvent) (r : PairRun) : Type 0 where
  pub ends : Ends
  pub kept : KeepsPair f now ends
  pub run : after_answers answers (run_from f ends later) ≡ r

-- one more answer
pub goes-on : (f : PairFacts) (p : Ends) (event : PairEvent) (events later : List PairEvent) (answers : List PairAnswer) (a : PairAnswer) (now : PairNow) (r : PairRun) → events ≡ event ∷ later
    → Steps f p (happens f event p) (Some a) now → after_answers answers (run_from f p events) ≡ r → GoesOn f now (answers ++ a ∷ []) later r
goes-on f p event events later answers a now r e s g = by (happens f event p) s (sym (ap (λ (es : List PairEvent). after_answers answers (run_from f p es)) e) ∙ g)
  where
    by : (o : Option Happened) → Steps f p o (Some a) now → after_answers answers (run_behind o (λ (after : Ends). run_from f after later) p) ≡ r → GoesOn f now (answers ++ a ∷ []) later r
    by None (q, k) h = absurd (cc q)
    by (Some x) (q, k) h =
        let same : a ≡ x.answer = cc q in record {
          ends = x.ends;
          kept = k;
          run =
              ap (λ (b : PairAnswer). after_answers (answers ++ b ∷ []) (run_from f x.ends later)) same ∙ sym (after_answers-more answers x.answer (run_from f x.ends later)) ∙ h;
        }

-- it ends at an event that doesn't fit
pub stops-here : (f : PairFacts) (p : Ends) (event : PairEvent) (events later : List PairEvent) (answers : List PairAnswer) (now : PairNow) (r : PairRun) → events ≡ event ∷ later
    → Steps f p (happens f event p) None now → after_answers answers (run_from f p events) ≡ r → (r.answers ≡ answers) × (r.is_all ≡ false)
stops-here f p event events later answers now r e s g = by (happens f event p) s (sym (ap (λ (es : List PairEvent). after_answers answers (run_from f p es)) e) ∙ g)
  where
    by : (o : Option Happened) → Steps f p o None now → after_answers answers (run_behind o (λ (after : Ends). run_from f after later) p) ≡ r → (r.answers ≡ answers) × (r.is_all ≡ false)
    by None s h = (sym (ap (λ (x : PairRun). x.answers) h) ∙ append-nil answers, sym (ap (λ (x : PairRun). x.is_all) h))
    by (Some x) (q, k) h = absurd (cc q)

-- all events fit
pub all-done : (f : PairFacts) (p : Ends) (events : List PairEvent) (answers : List PairAnswer) (r : PairRun) → events ≡ [] → after_answers answers (run_from f p events) ≡ r → (r.answers ≡ answers) × (r.is_all ≡ true)
all-done f p events answers r e g =
    let h = sym (ap (λ (es : List PairEvent). after_answers answers (run_from f p es)) e) ∙ g in (sym (ap (λ (x : PairRun). x.answers) h) ∙ append-nil answers, sym (ap (λ (x : PairRun). x.is_all) h))

-- there are no more answers than events
pub few_answers : (f : PairFacts) (events : List PairEvent) (p : Ends) → length (run_from f p events).answers ≤ length events
few_answers f [] p = omega arith
few_answers f (event ∷ later) p = by (happens f event p) (λ q. few_answers f later q)
  where
    by : (o : Option Happened) → ((q : Ends) → length (run_from f q later).answers ≤ length later) → length (run_behind o (λ (after : Ends). run_from f after later) p).answers ≤ length (event ∷ later)
    by None few = omega arith
    by (Some x) few = let l = few x.ends in omega (arith, l)

-- nor are there more in a list that is the run's
pub few_given : (f : PairFacts) (events : List PairEvent) (answers given : List PairAnswer) → (run_pair f events).answers ≡ answers → given ≡ answers → length given ≤ length events
few_given f events answers given e g = let l = few_answers f events at_first in let s = ap length e in let t = ap length g in omega (arith, l, s, t)
