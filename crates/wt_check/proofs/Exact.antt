-- A verdict is exact: a record is accepted exactly where each rule holds throughout, and is broken at the least place by the least rule.
use Rattle.std.specs.Prelude.{[], ◌+◌, ◌++◌, ◌∷◌, ◌≡◌, Bool, List, None, Option, Some, false, if◌then◌else◌, length, not, true, ℕ}
use Rattle.std.proofs.Common.{◌∙◌, ap, arith, refl}
use Rattle.wt_check.proofs.Along.{accepted-from, both}
use Rattle.wt_check.specs.Accepts.{accepts}
use Rattle.wt_check.specs.Datagrams.{receives_rightly}
use Rattle.wt_check.specs.Exact.{BreaksAt, KeepsAll, so_far}
use Rattle.wt_check.specs.Reads.{reads_rightly}
use Rattle.wt_check.specs.Records.{Record}
use Rattle.wt_check.specs.Sends.{sends_rightly}
use Rattle.wt_check.specs.Sessions.{gives_sessions}
use Rattle.wt_check.specs.Turns.{follows}
use Rattle.wt_check.specs.Verdict.{Accepted, Broken, broken_at, broken_rule, holds_from, verdict_from, verdict_on}
use Rattle.wt_meaning.specs.History.{History, Pair}
use Rattle.wt_wire.specs.declared.side.Side.{Side}

pub keeps_accepted : (r : Record) → KeepsAll r → verdict_on r ≡ Accepted
keeps_accepted r k = accepted-from r.side [] 0 r.pairs k.turns k.sessions k.streams k.reads k.datagrams k.sends

-- ---- what is accepted keeps each rule

abbrev least : Bool → Bool → Bool → Bool → Bool → Bool → Option ℕ
least a b c d e f = if not a then Some 1 else if not b then Some 2 else if not c then Some 3 else if not d then Some 4 else if not e then Some 5 else if not f then Some 6 else None

record AllTrue (a b c d e f : Bool) : Type 0 where
  first : a ≡ true
  second : b ≡ true
  third : c ≡ true
  fourth : d ≡ true
  fifth : e ≡ true
  sixth : f ≡ true

all-true : (a b c d e f : Bool) → least a b c d e f ≡ None → AllTrue a b c d e f
all-true true true true true true true q = record { first = refl; second = refl; third = refl; fourth = refl; fifth = refl; sixth = refl }
all-true false b c d e f q = absurd (cc q)
all-true true false c d e f q = absurd (cc q)
all-true true true false d e f q = absurd (cc q)
all-true true true true false e f q = absurd (cc q)
all-true true true true true false f q = absurd (cc q)
all-true true true true true true false q = absurd (cc q)

record KeptFrom (side : Side) (h : History) (pairs : List Pair) : Type 0 where
  turns : holds_from follows side h pairs ≡ true
  sessions : holds_from gives_sessions side h pairs ≡ true
  streams : holds_from accepts side h pairs ≡ true
  reads : holds_from reads_rightly side h pairs ≡ true
  datagrams : holds_from receives_rightly side h pairs ≡ true
  sends : holds_from sends_rightly side h pairs ≡ true

kept-from : (side : Side) (h : History) (at : ℕ) (pairs : List Pair) → verdict_from side h at pairs ≡ Accepted → KeptFrom side h pairs
kept-from side h at [] e = record { turns = refl; sessions = refl; streams = refl; reads = refl; datagrams = refl; sends = refl }
kept-from side h at (p ∷ later) e = by (broken_rule side h p) refl e (kept-from side (p ∷ h) (at + 1) later)
  where
    by : (o : Option ℕ) → broken_rule side h p ≡ o → broken_at at o (verdict_from side (p ∷ h) (at + 1) later) ≡ Accepted → (verdict_from side (p ∷ h) (at + 1) later ≡ Accepted → KeptFrom side (p ∷ h) later) → KeptFrom side h (p ∷ later)
    by (Some rule) q v again = absurd (cc v)
    by None q v again =
        let k = again v in let t = all-true (follows side h p) (gives_sessions side h p) (accepts side h p) (reads_rightly side h p) (receives_rightly side h p) (sends_rightly side h p) q in
        record {
          turns = both (follows side h p) _ t.first k.turns;
          sessions = both (gives_sessions side h p) _ t.second k.sessions;
          streams = both (accepts side h p) _ t.third k.streams;
          reads = both (reads_rightly side h p) _ t.fourth k.reads;
          datagrams = both (receives_rightly side h p) _ t.fifth k.datagrams;
          sends = both (sends_rightly side h p) _ t.sixth k.sends;
        }

pub accepted_keeps : (r : Record) → verdict_on r ≡ Accepted → KeepsAll r
accepted_keeps r e =
    let k = kept-from r.side [] 0 r.pairs e in record { turns = k.turns; sessions = k.sessions; streams = k.streams; reads = k.reads; datagrams = k.datagrams; sends = k.sends }

-- ---- the least place

record BrokenFrom (side : Side) (h : History) (at : ℕ) (pairs : List Pair) (place rule : ℕ) : Type 0 where
  before : List Pair
  next : Pair
  later : List Pair
  parts : pairs ≡ before ++ next ∷ later
  counted : at + length before ≡ place
  accepted : verdict_from side h at before ≡ Accepted
  broken : broken_rule side (so_far before h) next ≡ Some rule

broken-from : (side : Side) (h : History) (at : ℕ) (pairs : List Pair) (place rule : ℕ) → verdict_from side h at pairs ≡ Broken place rule → BrokenFrom side h at pairs place rule
broken-from side h at [] place rule e = absurd (cc e)
broken-from side h at (p ∷ later) place rule e = by (broken_rule side h p) refl e (broken-from side (p ∷ h) (at + 1) later place rule)
  where
    by : (o : Option ℕ) → broken_rule side h p ≡ o → broken_at at o (verdict_from side (p ∷ h) (at + 1) later) ≡ Broken place rule
        → (verdict_from side (p ∷ h) (at + 1) later ≡ Broken place rule → BrokenFrom side (p ∷ h) (at + 1) later place rule) → BrokenFrom side h at (p ∷ later) place rule
    by (Some x) q v again =
        let y : at ≡ place = cc v in let z : x ≡ rule = cc v in
        record { before = []; next = p; later = later; parts = refl; counted = omega (arith, y); accepted = refl; broken = q ∙ ap (λ (n : ℕ). Some n) z }
    by None q v again =
        let b = again v in
        record {
          before = p ∷ b.before;
          next = b.next;
          later = b.later;
          parts = ap (λ (xs : List Pair). p ∷ xs) b.parts;
          counted = omega (arith, b.counted);
          accepted = ap (λ (o : Option ℕ). broken_at at o (verdict_from side (p ∷ h) (at + 1) b.before)) q ∙ b.accepted;
          broken = b.broken;
        }

pub breaks_at : (r : Record) (at rule : ℕ) → verdict_on r ≡ Broken at rule → BreaksAt r at rule
breaks_at r at rule e =
    let b = broken-from r.side [] 0 r.pairs at rule e in
    record { before = b.before; next = b.next; later = b.later; parts = b.parts; place = omega (arith, b.counted); accepted = b.accepted; broken = b.broken }
