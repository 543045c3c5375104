-- How much of what went out was collected, as more goes out: what wasn't collected yet is the newest.
use Rattle.std.proofs.Common.{◌+◌, ◌-◌, ◌∙◌, ◌≡◌, ◌≤◌, ◌++◌, ◌∷◌, List, [], ap, arith, drop, length, refl, subst, suc, sym, take, ℕ}
use Rattle.std.proofs.lemmas.List.{length-append, length-drop, take-append-drop}
use Rattle.std.proofs.Math.Seq.{take-append_seam}
use Rattle.wt_driver_laws.specs.Driving.{Follows, uncollected_since}
use Rattle.wt_follows.proofs.PutFollows.{Came, actions-with}
use Rattle.wt_follows.specs.Tie as tie
use Rattle.wt_kept.specs.Kept.{DriverNow}
use Rattle.wt_turn.specs.Joined.{newest_first}
use Rattle.wt_sessions.specs.Moment.{Fits}
use Rattle.wt_turn.specs.Log.{Log, actions_of, with_actions}
use Rattle.wt_turn.specs.declared.action.Action.{Action}
use Rattle.wt_wire.specs.declared.side.Side.{Side}

-- ---- lists

-- how many are there with these
newest-length : (xs before : List Action) → length (newest_first xs before) ≡ length xs + length before
newest-length [] before = omega arith
newest-length (x ∷ xs) before = let e = newest-length xs (x ∷ before) in omega (arith, e)

-- one more is in front of those that are left
one-more : (x : Action) (before : List Action) (n m : ℕ) → n ≡ suc m → take n (x ∷ before) ≡ x ∷ take m before
one-more x before n m e = ap (λ k. take k (x ∷ before)) e

-- these are in front of those that are left
more-left : (xs before : List Action) (collected : ℕ) → collected ≤ length before
    → take (length (newest_first xs before) - collected) (newest_first xs before) ≡ newest_first xs (take (length before - collected) before)
more-left [] before collected le = refl
more-left (x ∷ xs) before collected le =
    more-left xs (x ∷ before) collected (omega (arith, le))
    ∙ ap (newest_first xs) (one-more x before (suc (length before) - collected) (length before - collected) (omega (arith, le)))

-- ---- the log

-- more went out, and nothing was collected
pub since-more : (log later : Log) (sent : List Action) (collected : ℕ) → actions_of later ≡ newest_first sent (actions_of log) → collected ≤ length (actions_of log)
    → uncollected_since collected later ≡ newest_first sent (uncollected_since collected log)
since-more log later sent collected more le = (λ i. take (length (more i) - collected) (more i)) ∙ more-left sent (actions_of log) collected le

pub within-more : (log later : Log) (sent : List Action) (collected : ℕ) → actions_of later ≡ newest_first sent (actions_of log) → collected ≤ length (actions_of log)
    → collected ≤ length (actions_of later)
within-more log later sent collected more le = let e = ap length more ∙ newest-length sent (actions_of log) in omega (arith, le, e)

-- a driver that follows a log follows a later one by the tie and by what went out between
pub follows-more : (side : Side) (d later : DriverNow) (log g : Log) (collected : ℕ) (sent : List Action) → Follows side d log collected → actions_of g ≡ newest_first sent (actions_of log)
    → tie.Follows side later g (newest_first sent (uncollected_since collected log)) → Follows side later g collected
follows-more side d later log g collected sent f more kept = record {
  kept = subst (λ (xs : List Action). tie.Follows side later g xs) (sym (since-more log g sent collected more f.within)) kept;
  within = within-more log g sent collected more f.within;
}

-- the same where the later log is this one with what went out
pub follows-with : (side : Side) (d later : DriverNow) (log : Log) (collected : ℕ) (sent : List Action) → Follows side d log collected
    → tie.Follows side later (with_actions sent log) (newest_first sent (uncollected_since collected log)) → Follows side later (with_actions sent log) collected
follows-with side d later log collected sent f kept = follows-more side d later log (with_actions sent log) collected sent f (actions-with sent log) kept

-- ---- a list of turns

-- the actions that were collected, the newest first
abbrev pub collected_in : ℕ → Log → List Action
collected_in collected log = drop (length (actions_of log) - collected) (actions_of log)

collected-length : (log : Log) (collected : ℕ) → collected ≤ length (actions_of log) → length (collected_in collected log) ≡ collected
collected-length log collected le = let e = length-drop (length (actions_of log) - collected) (actions_of log) in omega (arith, le, e)

-- both ways to say how much was collected
pub to-came : (side : Side) (d : DriverNow) (log : Log) (collected : ℕ) → Follows side d log collected → Fits side log → Came side (collected_in collected log) d log
to-came side d log collected f fits = record {
  uncollected = uncollected_since collected log;
  follows = f.kept;
  all = sym (take-append-drop (length (actions_of log) - collected) (actions_of log));
  fits = fits;
}

pub from-came : (side : Side) (d : DriverNow) (log : Log) (old : List Action) (collected : ℕ) → length old ≡ collected → Came side old d log → Follows side d log collected
from-came side d log old collected long c = record {
  kept = subst (λ (xs : List Action). tie.Follows side d log xs) (sym left) c.follows;
  within = let e = ap length c.all ∙ length-append c.uncollected old in omega (arith, e, long);
}
  where
    left : uncollected_since collected log ≡ c.uncollected
    left = (λ i. take (length (c.all i) - collected) (c.all i))
        ∙ ap (λ (n : ℕ). take n (c.uncollected ++ old)) (let e = length-append c.uncollected old in omega (arith, e, long))
        ∙ take-append_seam c.uncollected old

-- what a turn adds to a driver that follows
pub came-through : (side : Side) (d later : DriverNow) (log g : Log) (collected : ℕ) → Follows side d log collected → Came side (collected_in collected log) later g → Follows side later g collected
came-through side d later log g collected f c = from-came side later g (collected_in collected log) collected (collected-length log collected f.within) c
