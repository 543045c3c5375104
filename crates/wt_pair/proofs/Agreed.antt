-- What holds of both ends' histories holds of what the answers tell of them.
use Rattle.std.specs.Prelude.{[], ◌≡◌, ◌≤◌, Err, List, Ok, Result, true, ℕ}
use Rattle.std.proofs.Common.{◌∙◌, subst, sym}
use Rattle.wt_meaning.specs.History.{History, is_open}
use Rattle.wt_pair.proofs.Carried.{received_as_sent}
use Rattle.wt_pair.proofs.Means.{each_means}
use Rattle.wt_pair.proofs.Moves.{after_turns, ends-history}
use Rattle.wt_pair.proofs.Told.{Alike, all-out, alike-none, alike-turns, still-open}
use Rattle.wt_pair.proofs.WasRead.{read_is_written}
use Rattle.wt_pair.proofs.Whole.{nothing_held_back}
use Rattle.wt_pair.specs.Claims.{EachMeans, IsPrefix, NothingHeldBack, ReadIsWritten, ReceivedAsSent, TwoEnds, own_turns, sent_payloads, times, told, with_pairs}
use Rattle.wt_pair.specs.Keeping.{IsPairRun, OfAnswers}
use Rattle.wt_pair.specs.declared.answer.PairAnswer.{PairAnswer}
use Rattle.wt_pair.specs.declared.event.PairEvent.{PairEvent}
use Rattle.wt_pair.specs.declared.event.PairFacts.{PairFacts}
use Rattle.wt_pair.specs.declared.run.PairError.{PairError}
use Rattle.wt_pair.specs.declared.run.PairError.TheVariants as errors
use Rattle.wt_pair.specs.Pair.{Ends, at_first, histories, other, run_pair}
use Rattle.wt_promise.specs.Causes.{pieces}
use Rattle.wt_promise.specs.Promise.{accepted, payloads}
use Rattle.wt_turn.specs.declared.answer.Answer.{Answer}
use Rattle.wt_wire.specs.declared.side.Side.{Side}

-- both say the same of an end
told-alike : (f : PairFacts) (events : List PairEvent) (e : Side) → Alike (histories (run_pair f events).ends e) (told f events (run_pair f events).answers e)
told-alike f events e =
    subst (λ (h : History). Alike h (told f events (run_pair f events).answers e)) (sym (ends-history f events e))
    (subst (λ (answers : List Answer). Alike (after_turns e [] (own_turns e f at_first events)) (with_pairs [] (own_turns e f at_first events) answers)) (sym (each_means f events e))
    (alike-turns e (own_turns e f at_first events) [] [] alike-none))

module _ (of by : Side → History) (same : (e : Side) → Alike (of e) (by e)) where
  read-told : ReadIsWritten of → ReadIsWritten by
  read-told r e k = subst (λ (xs : List ℕ). IsPrefix xs (accepted (by (other e)) k)) ((same e).read k) (subst (IsPrefix (pieces (of e) k)) ((same (other e)).wrote k) (r e k))

  received-told : ReceivedAsSent of → ReceivedAsSent by
  received-told r e s payload =
      subst (λ (xs : List (List ℕ)). times payload xs ≤ times payload (sent_payloads (by (other e)) s)) ((same e).received s)
      (subst (λ (xs : List (List ℕ)). times payload (payloads (of e) s) ≤ times payload xs) ((same (other e)).sent s) (r e s payload))

  whole-told : (p : Ends) → NothingHeldBack p of → NothingHeldBack p by
  whole-told p n e w o k =
      let q : is_open (of e) ≡ true = still-open (of e) (by e) (same e) ∙ o in sym ((same e).came q k) ∙ n e w q k ∙ all-out (of (other e)) (by (other e)) (same (other e)) k

-- of the answers to each list of events
pub two_ends : (f : PairFacts) (events : List PairEvent) → TwoEnds f events (run_pair f events).answers
two_ends f events = record {
  read = read-told (histories (run_pair f events).ends) (told f events (run_pair f events).answers) (told-alike f events) (read_is_written f events);
  received = received-told (histories (run_pair f events).ends) (told f events (run_pair f events).answers) (told-alike f events) (received_as_sent f events);
  means = each_means f events;
  whole = whole-told (histories (run_pair f events).ends) (told f events (run_pair f events).answers) (told-alike f events) (run_pair f events).ends (nothing_held_back f events);
}

-- ---- of the answers that code gives

of-given : (f : PairFacts) (events : List PairEvent) (P : List PairAnswer → Type 0) (r : Result (List PairAnswer) PairError) → IsPairRun f events r → P (run_pair f events).answers → OfAnswers P r
of-given f events P (Ok answers) i t = subst P i.0 t
of-given f events P (Err (errors.Refused at answers)) i t = subst P i.0 t
of-given f events P (Err errors.OutOfMemory) i t = tt

pub given-read : (f : PairFacts) (events : List PairEvent) (r : Result (List PairAnswer) PairError) → IsPairRun f events r → OfAnswers (λ (answers : List PairAnswer). ReadIsWritten (told f events answers)) r
given-read f events r i = of-given f events (λ (answers : List PairAnswer). ReadIsWritten (told f events answers)) r i (two_ends f events).read

pub given-received : (f : PairFacts) (events : List PairEvent) (r : Result (List PairAnswer) PairError) → IsPairRun f events r → OfAnswers (λ (answers : List PairAnswer). ReceivedAsSent (told f events answers)) r
given-received f events r i = of-given f events (λ (answers : List PairAnswer). ReceivedAsSent (told f events answers)) r i (two_ends f events).received

pub given-means : (f : PairFacts) (events : List PairEvent) (r : Result (List PairAnswer) PairError) → IsPairRun f events r → OfAnswers (λ (answers : List PairAnswer). EachMeans f events answers) r
given-means f events r i = of-given f events (λ (answers : List PairAnswer). EachMeans f events answers) r i (two_ends f events).means

pub given-whole : (f : PairFacts) (events : List PairEvent) (r : Result (List PairAnswer) PairError) → IsPairRun f events r
    → OfAnswers (λ (answers : List PairAnswer). NothingHeldBack (run_pair f events).ends (told f events answers)) r
given-whole f events r i = of-given f events (λ (answers : List PairAnswer). NothingHeldBack (run_pair f events).ends (told f events answers)) r i (two_ends f events).whole
