-- The program of two ends: which words ask for it, and what of its run holds of the answers that it wrote.
use Rattle.std.specs.Prelude.{[], ◌++◌, ◌==◌, ◌∷◌, ◌≡◌, ◌⊎◌, ◌||◌, Bool, Err, IsTrue, List, None, Ok, Option, Result, Some, codes, false, if◌then◌else◌, length, nat_lt, true, ℕ}
use Rattle.std.specs.Io.KnownBytes.{Appends}
use Rattle.std.specs.Option.{option_map}
use Rattle.std.proofs.Common.{◌∙◌, ap, inl, inr, refl, subst, sym}
use Rattle.std.proofs.lemmas.Bool.{eqb-true}
use Rattle.std.proofs.lemmas.List.{append-nil}
use Rattle.wt_pair.proofs.Agreed.{two_ends}
use Rattle.wt_pair.specs.Lines.{Scripted}
use Rattle.wt_pair.specs.Output.{pair_outcome, print_pair, refused_line, run_outcome, stop_outcome}
use Rattle.wt_pair.specs.Pair.{PairRun, run_pair}
use Rattle.wt_pair.specs.Program.{TellsTwoEnds, last_text, pair_asked}
use Rattle.wt_pair.specs.Script.{pair_script_of}
use Rattle.wt_pair.specs.declared.answer.PairAnswer.{PairAnswer}
use Rattle.wt_pair.specs.declared.event.PairEvent.{PairEvent}
use Rattle.wt_script.specs.Words.{is_word}
use Rattle.wt_script.specs.declared.script.ScriptRefused.{ScriptRefused}
use Rattle.wt_trace.specs.Asked.{AnswersInput, Ran, alone, is_cut_short}
use Rattle.wt_trace.specs.Input.{script_limit}
use Rattle.wt_trace.specs.Outcome.{Outcome, asked_outcome, input_outcome, is_run_status, read_outcome, refused_at, too_long}
use Rattle.wt_trace.specs.Outside.{Outside}

-- ---- the words

-- a program of a word, and what it gives
pub alone-map : {P R : Type 0} (f : P → R) (p : P) (word : List ℕ) (words : List (List ℕ)) → option_map f (alone word p words) ≡ alone word (f p) words
alone-map f p word [] = refl
alone-map {R = R} f p word (only ∷ []) = by (is_word only word)
  where
    by : (b : Bool) → ◌≡◌ {A = Option R} (option_map f (if b then Some p else None)) (if b then Some (f p) else None)
    by true = refl
    by false = refl
alone-map f p word (first ∷ second ∷ more) = refl

-- a run of the program that these words ask for
pub runs-asked : {P : Type 0} (gives : P → List ℕ → Outcome) (p : P) (asked : Option P) (words : List (List ℕ)) (source source_now sink sink_now : Outside) (given : ℕ)
    → asked ≡ alone (codes "pair") p words → gives p ≡ input_outcome pair_script_of pair_outcome → Ran (option_map gives asked) source source_now sink sink_now given
    → Ran (pair_asked words) source source_now sink sink_now given
runs-asked gives p asked words source source_now sink sink_now given e q r =
    subst (λ (o : Option (List ℕ → Outcome)). Ran o source source_now sink sink_now given)
    (ap (option_map gives) e ∙ alone-map gives p (codes "pair") words ∙ ap (λ (x : List ℕ → Outcome). alone (codes "pair") x words) q) r

-- these words ask for it, or none do
asked-or-not : {P : Type 0} (p : P) (word : List ℕ) (words : List (List ℕ)) → (alone word p words ≡ None) ⊎ (alone word p words ≡ Some p)
asked-or-not p word [] = inl refl
asked-or-not {P = P} p word (only ∷ []) = by (is_word only word)
  where
    by : (b : Bool) → ((if b then Some p else None) ≡ None) ⊎ ((if b then Some p else None) ≡ Some p)
    by true = inr refl
    by false = inl refl
asked-or-not p word (first ∷ second ∷ more) = inl refl

-- ---- what a script is answered

-- a run in which all events fit, and one that stopped behind these answers
pub all_fit : (s : Scripted) (answers : List PairAnswer) → (run_pair s.facts s.events).answers ≡ answers → (run_pair s.facts s.events).is_all ≡ true
    → pair_outcome s ≡ record { status = 0; text = print_pair s.events answers }
all_fit s answers e t =
    ap (λ (b : Bool). stop_outcome s.events b (run_pair s.facts s.events).answers) t ∙ ap (stop_outcome s.events true) e

pub one_refused : (s : Scripted) (answers : List PairAnswer) → (run_pair s.facts s.events).answers ≡ answers → (run_pair s.facts s.events).is_all ≡ false
    → pair_outcome s ≡ record { status = 3; text = print_pair s.events answers ++ refused_line answers }
one_refused s answers e t =
    ap (λ (b : Bool). stop_outcome s.events b (run_pair s.facts s.events).answers) t ∙ ap (stop_outcome s.events false) e

-- ---- the status of a run

-- that of a run is one of three
status-cases : (given : ℕ) → is_run_status given ≡ true → ((given ≡ 0) ⊎ (given ≡ 3)) ⊎ (given ≡ 9)
status-cases given e = by (given == 0) (given == 3) (given == 9) refl refl refl e
  where
    by : (a b c : Bool) → (given == 0) ≡ a → (given == 3) ≡ b → (given == 9) ≡ c → (a || b || c) ≡ true → ((given ≡ 0) ⊎ (given ≡ 3)) ⊎ (given ≡ 9)
    by true b c x y z r = inl (inl (eqb-true given 0 x))
    by false true c x y z r = inl (inr (eqb-true given 3 y))
    by false false true x y z r = inr (eqb-true given 9 z)
    by false false false x y z r = absurd (cc r)

-- nothing cut it short
run-is-whole : (given : ℕ) → is_run_status given ≡ true → is_cut_short given ≡ false
run-is-whole given e = by (status-cases given e)
  where
    by : ((given ≡ 0) ⊎ (given ≡ 3)) ⊎ (given ≡ 9) → is_cut_short given ≡ false
    by (inl (inl x)) = ap is_cut_short x
    by (inl (inr x)) = ap is_cut_short x
    by (inr x) = ap is_cut_short x

-- another status is none of a run
not-run : (given n : ℕ) → given ≡ n → is_run_status n ≡ false → is_run_status given ≡ true → ⊥
not-run given n e f r = let clash : true ≡ false = sym r ∙ ap is_run_status e ∙ f in cc clash

-- ---- what was written

module _ (left left_now took took_now : Option (List ℕ)) (given : ℕ) (r : is_run_status given ≡ true) where
  -- of a script that was read
  of-run : (a : AnswersInput (input_outcome pair_script_of pair_outcome) left left_now took took_now given) (script : Scripted) → pair_script_of a.input ≡ Ok script
      → given ≡ (pair_outcome script).status → Appends took took_now (pair_outcome script).text → TellsTwoEnds left left_now took took_now given
  of-run a script s e w = record {
    input = a.input;
    consumed = a.consumed;
    script = script;
    spelled = s;
    answers = (run_pair script.facts script.events).answers;
    answered = refl;
    written = by (run_pair script.facts script.events).is_all e w;
    agree = two_ends script.facts script.events;
  }
    where
      given_answers : List PairAnswer
      given_answers = (run_pair script.facts script.events).answers

      by : (b : Bool) → given ≡ (stop_outcome script.events b given_answers).status → Appends took took_now (stop_outcome script.events b given_answers).text
          → Appends took took_now (print_pair script.events given_answers ++ last_text given given_answers)
      by true x y =
          subst (Appends took took_now) (sym (append-nil (print_pair script.events given_answers)) ∙ ap (λ (n : ℕ). print_pair script.events given_answers ++ last_text n given_answers) (sym x)) y
      by false x y = subst (Appends took took_now) (ap (λ (n : ℕ). print_pair script.events given_answers ++ last_text n given_answers) (sym x)) y

  -- of an input
  of-input : AnswersInput (input_outcome pair_script_of pair_outcome) left left_now took took_now given → TellsTwoEnds left left_now took took_now given
  of-input a = by (nat_lt script_limit (length a.input)) a.answered a.written
    where
      read : (o : Result Scripted ScriptRefused) → pair_script_of a.input ≡ o → given ≡ (read_outcome pair_outcome o).status → Appends took took_now (read_outcome pair_outcome o).text
          → TellsTwoEnds left left_now took took_now given
      read (Ok script) s e w = of-run a script s e w
      read (Err refused) s e w = absurd (not-run given 2 e refl r)

      by : (b : Bool) → given ≡ (if b then too_long else read_outcome pair_outcome (pair_script_of a.input)).status
          → Appends took took_now (if b then too_long else read_outcome pair_outcome (pair_script_of a.input)).text → TellsTwoEnds left left_now took took_now given
      by true e w = absurd (not-run given 7 e refl r)
      by false e w = read (pair_script_of a.input) refl e w

-- a run that came to its end, or to an event that doesn't fit
pub two-ends-told : (words : List (List ℕ)) (source source_now sink sink_now : Outside) (given : ℕ) → Ran (pair_asked words) source source_now sink sink_now given
    → IsTrue (is_run_status given) → TellsTwoEnds source.bytes source_now.bytes sink.bytes sink_now.bytes given
two-ends-told words source source_now sink sink_now given ran r = by (asked-or-not (input_outcome pair_script_of pair_outcome) (codes "pair") words)
  where
    asked : Option (List ℕ → Outcome) → Type 0
    asked o = Ran o source source_now sink sink_now given

    unasked : (given ≡ 1) ⊎ (given ≡ 5) → TellsTwoEnds source.bytes source_now.bytes sink.bytes sink_now.bytes given
    unasked (inl e) = absurd (not-run given 1 e refl r)
    unasked (inr e) = absurd (not-run given 5 e refl r)

    by : (pair_asked words ≡ None) ⊎ (pair_asked words ≡ Some (input_outcome pair_script_of pair_outcome)) → TellsTwoEnds source.bytes source_now.bytes sink.bytes sink_now.bytes given
    by (inl e) = unasked ((subst asked e ran).unasked refl)
    by (inr e) = of-input source.bytes source_now.bytes sink.bytes sink_now.bytes given r ((subst asked e ran).input (run-is-whole given r))
