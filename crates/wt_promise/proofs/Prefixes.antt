-- How far a list of any turns is answered, and that lawful turns lead to a history: pieces are their bytes, one after another.
use Rattle.wt_promise.proofs.Statements.{LeadsToHistory}
use Rattle.std.specs.Prelude.{[], ◌%◌, ◌&&◌, ◌++◌, ◌==◌, ◌∷◌, ◌≡◌, Bool, List, false, not, true, ℕ}
use Rattle.std.proofs.Common.{◌∙◌, ap, refl, sym}
use Rattle.wt_meaning.specs.History.{History, all_events, exists}
use Rattle.wt_meaning.specs.Lawful.{is_lawful, is_lost}
use Rattle.wt_meaning.specs.Meaning.{after_bytes, answer_to, history_after, meaning_from, next, run_from, step}
use Rattle.wt_promise.proofs.Stays.{exists-stays}
use Rattle.wt_promise.specs.Lists.{LongestPrefix, StopsRightly, history_of}
use Rattle.wt_promise.specs.Promise.{AllLawful, IsHistory}
use Rattle.wt_turn.specs.Reports.{end_of, is_connected, is_running}
use Rattle.wt_turn.specs.Streams.{local_uni}
use Rattle.wt_turn.specs.declared.answer.Answer.{Answer}
use Rattle.wt_turn.specs.declared.turn.Turn.{Turn}
use Rattle.wt_wire.specs.declared.side.Side.{Side}
use Rattle.wt_turn.specs.declared.turn.Turn.TheVariants as turns

-- ---- the longest lawful prefix

record LongestFrom (side : Side) (h : History) (all : List Turn) : Type 0 where
  first : List Turn
  later : List Turn
  parts : all ≡ first ++ later
  lawful : AllLawful side h first
  answers : (run_from side h all).answers ≡ meaning_from side h first
  stops : StopsRightly side (history_of side h first) later (run_from side h all).is_all

longest-from : (side : Side) (h : History) (all : List Turn) → LongestFrom side h all
longest-from side h [] = record { first = []; later = []; parts = refl; lawful = tt; answers = refl; stops = refl }
longest-from side h (turn ∷ all) = by (is_lawful side h turn) refl (longest-from side (history_after side h turn) all)
  where
    by : (b : Bool) → is_lawful side h turn ≡ b → LongestFrom side (history_after side h turn) all → LongestFrom side h (turn ∷ all)
    by true e more = record {
      first = turn ∷ more.first;
      later = more.later;
      parts = ap (λ (x : List Turn). turn ∷ x) more.parts;
      lawful = (e, more.lawful);
      answers = rw e (ap (λ (x : List Answer). answer_to side h turn ∷ x) more.answers);
      stops = rw e more.stops;
    }
    by false e more = record { first = []; later = turn ∷ all; parts = refl; lawful = tt; answers = rw e refl; stops = (e, rw e refl) }

pub longest_prefix : (side : Side) (all : List Turn) → LongestPrefix side all
longest_prefix side all = let r = longest-from side [] all in record { first = r.first; later = r.later; parts = r.parts; lawful = r.lawful; answers = r.answers; stops = r.stops }

-- ---- a byte leaves the next lawful

lawful-byte : (side : Side) (h : History) (k b : ℕ) (piece : List ℕ) → is_lawful side h (turns.Bytes k piece) ≡ true
    → is_lawful side (step side h (turns.Bytes k (b ∷ []))) (turns.Bytes k piece) ≡ true
lawful-byte side h k b piece e = by (is_connected (all_events h)) (not (is_lost h)) (exists side h k) refl (not (k % 4 == local_uni side)) (is_running (end_of (all_events h) k)) e
  where
    by : (a l x : Bool) → exists side h k ≡ x → (r d : Bool) → (a && l && ((x && r) && d)) ≡ true → (a && l && ((exists side (step side h (turns.Bytes k (b ∷ []))) k && r) && d)) ≡ true
    by true true true q true true f = rw (exists-stays side (record { turn = turns.Bytes k (b ∷ []); answer = next side h (turns.Bytes k (b ∷ [])) }) h k q) refl
    by false l x q r d f = absurd (cc f)
    by true false x q r d f = absurd (cc f)
    by true true false q r d f = absurd (cc f)
    by true true true q false d f = absurd (cc f)
    by true true true q true false f = absurd (cc f)

pub lawful-after : (side : Side) (piece : List ℕ) (h : History) (k : ℕ) (later : List ℕ) → is_lawful side h (turns.Bytes k piece) ≡ true → is_lawful side (after_bytes side h k piece) (turns.Bytes k later) ≡ true
lawful-after side [] h k later e = e
lawful-after side (b ∷ piece) h k later e = lawful-after side piece (step side h (turns.Bytes k (b ∷ []))) k later (lawful-byte side h k b piece e)

-- the parts of a cut piece are lawful exactly where the whole is
pub cut-lawful : (side : Side) (h : History) (k : ℕ) (first second : List ℕ)
    → is_lawful side h (turns.Bytes k (first ++ second)) ≡ (is_lawful side h (turns.Bytes k first) && is_lawful side (after_bytes side h k first) (turns.Bytes k second))
cut-lawful side h k first second = by (is_lawful side h (turns.Bytes k first)) refl
  where
    by : (b : Bool) → is_lawful side h (turns.Bytes k first) ≡ b → is_lawful side h (turns.Bytes k (first ++ second)) ≡ (b && is_lawful side (after_bytes side h k first) (turns.Bytes k second))
    by true e = e ∙ sym (lawful-after side first h k second e)
    by false e = e

-- ---- lawful turns lead to a history

bytes-history : (side : Side) (piece : List ℕ) (h : History) (k : ℕ) → IsHistory side h → is_lawful side h (turns.Bytes k piece) ≡ true → IsHistory side (after_bytes side h k piece)
bytes-history side [] h k i l = i
bytes-history side (b ∷ piece) h k i l = bytes-history side piece (step side h (turns.Bytes k (b ∷ []))) k (l, refl, i) (lawful-byte side h k b piece l)

pub turn-history : (side : Side) (h : History) (turn : Turn) → IsHistory side h → is_lawful side h turn ≡ true → IsHistory side (history_after side h turn)
turn-history side h (turns.Bytes k piece) i l = bytes-history side piece h k i l
turn-history side h turn i l = (l, refl, i)

list-history : (side : Side) (all : List Turn) (h : History) → IsHistory side h → AllLawful side h all → IsHistory side (history_of side h all)
list-history side [] h i l = i
list-history side (turn ∷ all) h i l = list-history side all (history_after side h turn) (turn-history side h turn i l.0) l.1

front-lawful : (side : Side) (first later : List Turn) (h : History) → AllLawful side h (first ++ later) → AllLawful side h first
front-lawful side [] later h l = tt
front-lawful side (turn ∷ first) later h l = (l.0, front-lawful side first later (history_after side h turn) l.1)

meaning-append : (side : Side) (first later : List Turn) (h : History) → meaning_from side h (first ++ later) ≡ meaning_from side h first ++ meaning_from side (history_of side h first) later
meaning-append side [] later h = refl
meaning-append side (turn ∷ first) later h = ap (λ (x : List Answer). answer_to side h turn ∷ x) (meaning-append side first later (history_after side h turn))

pub leads_to_history : (side : Side) (first later : List Turn) → AllLawful side [] (first ++ later) → LeadsToHistory side first later
leads_to_history side first later l = record { history = list-history side first [] tt (front-lawful side first later [] l); answers = meaning-append side first later [] }
