-- A check, pair by pair.
use Rattle.std.proofs.Common.{arith, ◌≡◌, ◌<◌, ◌≤◌, ◌+◌, ℕ, zero, suc, Bool, true, false, List, [], ◌∷◌, ◌++◌, length, take, drop, get_or, refl, sym, ap, ◌∙◌, take_all}
use Rattle.std.proofs.lemmas.List.{drop_more, length-take-le, take-append-drop, take_more}
use Rattle.std.specs.Prelude.{◌&&◌, Some}
use Rattle.wt_check.specs.Datagrams.{receives_rightly}
use Rattle.wt_check.specs.Exact.{so_far}
use Rattle.wt_check.specs.Judged.{BreaksBy, IsJudged}
use Rattle.wt_check.specs.Keeps.{TellsOf}
use Rattle.wt_check.specs.Records.{pairs_of}
use Rattle.wt_check.specs.Verdict.{Accepted, Broken, holds_from}
use Rattle.wt_meaning.specs.History.{History, Pair}
use Rattle.wt_turn.specs.declared.answer.Answer.{Answer}
use Rattle.wt_turn.specs.declared.turn.Turn.{Turn}
use Rattle.wt_wire.specs.declared.side.Side.{Side}

pub pairs_append : (xs ys : List (Turn × Answer)) → pairs_of (xs ++ ys) ≡ pairs_of xs ++ pairs_of ys
pairs_append [] ys = refl
pairs_append (x ∷ xs) ys = ap (λ l. record { turn = x.0; answer = x.1 } ∷ l) (pairs_append xs ys)

pub pairs_length : (xs : List (Turn × Answer)) → length (pairs_of xs) ≡ length xs
pairs_length [] = refl
pairs_length (x ∷ xs) = ap suc (pairs_length xs)

pub so_far_append : (ps qs : List Pair) (h : History) → so_far (ps ++ qs) h ≡ so_far qs (so_far ps h)
so_far_append [] qs h = refl
so_far_append (p ∷ ps) qs h = so_far_append ps qs (p ∷ h)

pub holds_append : (rule : Side → History → Pair → Bool) (side : Side) (ps : List Pair) (p : Pair) (h : History)
    → holds_from rule side h ps ≡ true → rule side (so_far ps h) p ≡ true → holds_from rule side h (ps ++ p ∷ []) ≡ true
holds_append rule side [] p h e f = ap (λ b. b && true) f
holds_append rule side (q ∷ ps) p h e f = by (rule side h q) e (λ e. holds_append rule side ps p (q ∷ h) e f) where
  by : (b : Bool) → (b && holds_from rule side (q ∷ h) ps) ≡ true → (holds_from rule side (q ∷ h) ps ≡ true → holds_from rule side (q ∷ h) (ps ++ p ∷ []) ≡ true)
      → (b && holds_from rule side (q ∷ h) (ps ++ p ∷ [])) ≡ true
  by true e again = again e
  by false e again = absurd cc

-- ---- the pairs up to a place

-- a recorded turn with its answer
abbrev pub pair_of : Turn × Answer → Pair
pair_of x = record { turn = x.0; answer = x.1 }

one_more : (pairs : List (Turn × Answer)) (i : ℕ) (x : Turn × Answer) → i < length pairs → x ≡ get_or pairs i x
    → pairs_of (take (i + 1) pairs) ≡ pairs_of (take i pairs) ++ pair_of x ∷ []
one_more pairs i x within is =
    ap pairs_of (take_more pairs i x within ∙ ap (λ y. take i pairs ++ y ∷ []) (sym is)) ∙ pairs_append (take i pairs) (x ∷ [])

pub so_far_next : (pairs : List (Turn × Answer)) (i : ℕ) (x : Turn × Answer) → i < length pairs → x ≡ get_or pairs i x
    → so_far (pairs_of (take (i + 1) pairs)) [] ≡ pair_of x ∷ so_far (pairs_of (take i pairs)) []
so_far_next pairs i x within is =
    ap (λ ps. so_far ps []) (one_more pairs i x within is) ∙ so_far_append (pairs_of (take i pairs)) (pair_of x ∷ []) []

pub holds_next : (rule : Side → History → Pair → Bool) (side : Side) (pairs : List (Turn × Answer)) (i : ℕ) (x : Turn × Answer) → i < length pairs → x ≡ get_or pairs i x
    → holds_from rule side [] (pairs_of (take i pairs)) ≡ true → rule side (so_far (pairs_of (take i pairs)) []) (pair_of x) ≡ true
    → holds_from rule side [] (pairs_of (take (i + 1) pairs)) ≡ true
holds_next rule side pairs i x within is e f =
    ap (holds_from rule side []) (one_more pairs i x within is) ∙ holds_append rule side (pairs_of (take i pairs)) (pair_of x) [] e f

-- a pair that breaks a rule is where the verdict says
pub breaks_by : (number : ℕ) (rule : Side → History → Pair → Bool) (side : Side) (pairs : List (Turn × Answer)) (i named : ℕ) (x : Turn × Answer)
    → i < length pairs → x ≡ get_or pairs i x → holds_from rule side [] (pairs_of (take i pairs)) ≡ true
    → TellsOf number (rule side (so_far (pairs_of (take i pairs)) []) (pair_of x)) (Some named)
    → BreaksBy number rule (record { side = side; pairs = pairs_of pairs }) i named
breaks_by number rule side pairs i named x within is kept tells = record {
  before = pairs_of (take i pairs);
  next = pair_of x;
  later = pairs_of (drop (i + 1) pairs);
  parts =
      ap pairs_of (sym (take-append-drop i pairs) ∙ ap (λ l. take i pairs ++ l) (drop_more pairs i x within ∙ ap (λ y. y ∷ drop (i + 1) pairs) (sym is)))
      ∙ pairs_append (take i pairs) (x ∷ drop (i + 1) pairs);
  place = pairs_length (take i pairs) ∙ length-take-le i pairs (omega arith);
  kept = kept;
  breaks = λ e. tells.breaks (ap Some e);
  stands = λ more. tells.above named refl more;
}

pub judged_broken : (side : Side) (pairs : List (Turn × Answer)) (i named : ℕ) (x : Turn × Answer) → i < length pairs → x ≡ get_or pairs i x
    → holds_from receives_rightly side [] (pairs_of (take i pairs)) ≡ true
    → TellsOf 5 (receives_rightly side (so_far (pairs_of (take i pairs)) []) (pair_of x)) (Some named)
    → IsJudged (record { side = side; pairs = pairs_of pairs }) (Broken i named)
judged_broken side pairs i named x within is kept tells = record { datagrams = breaks_by 5 receives_rightly side pairs i named x within is kept tells }

pub judged_accepted : (side : Side) (pairs : List (Turn × Answer)) (i : ℕ) → length pairs ≤ i → holds_from receives_rightly side [] (pairs_of (take i pairs)) ≡ true
    → IsJudged (record { side = side; pairs = pairs_of pairs }) Accepted
judged_accepted side pairs i all kept = record { datagrams = ap (λ ps. holds_from receives_rightly side [] (pairs_of ps)) (sym (take_all i pairs all)) ∙ kept }
