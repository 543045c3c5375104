-- A turn that isn't lawful after a lawful list is refused by rule 1 at its place, whatever its answer is and whatever follows.
use Rattle.std.specs.Prelude.{[], ◌+◌, ◌++◌, ◌∷◌, ◌≡◌, List, None, Option, Some, false, length, suc, ℕ}
use Rattle.std.proofs.Common.{◌∙◌, ap, arith, refl}
use Rattle.wt_check.proofs.Accepted.{accepted}
use Rattle.wt_check.proofs.Alike.{Alike, alike-after, at-first}
use Rattle.wt_check.proofs.OfTurns.{turn-follows}
use Rattle.wt_check.specs.Exact.{so_far}
use Rattle.wt_check.specs.Records.{paired, recorded}
use Rattle.wt_check.specs.Verdict.{Accepted, Broken, broken_at, broken_rule, verdict_from, verdict_on}
use Rattle.wt_meaning.specs.History.{History, Pair}
use Rattle.wt_meaning.specs.Lawful.{is_lawful}
use Rattle.wt_meaning.specs.Meaning.{answer_to, history_after, meaning_from, with_pair}
use Rattle.wt_promise.proofs.Prefixes.{turn-history}
use Rattle.wt_promise.specs.Lists.{history_of}
use Rattle.wt_promise.specs.Promise.{AllLawful, IsHistory}
use Rattle.wt_turn.specs.declared.answer.Answer.{Answer}
use Rattle.wt_turn.specs.declared.turn.Turn.{Turn}
use Rattle.wt_wire.specs.declared.side.Side.{Side}

-- behind what is accepted the verdict is that on what follows
behind-accepted : (side : Side) (h : History) (at : ℕ) (before later : List Pair) → verdict_from side h at before ≡ Accepted
    → verdict_from side h at (before ++ later) ≡ verdict_from side (so_far before h) (at + length before) later
behind-accepted side h at [] later e = ap (λ (n : ℕ). verdict_from side h n later) (omega arith)
behind-accepted side h at (p ∷ before) later e = by (broken_rule side h p) refl e (behind-accepted side (p ∷ h) (at + 1) before later)
  where
    by : (o : Option ℕ) → broken_rule side h p ≡ o → broken_at at o (verdict_from side (p ∷ h) (at + 1) before) ≡ Accepted
        → (verdict_from side (p ∷ h) (at + 1) before ≡ Accepted → verdict_from side (p ∷ h) (at + 1) (before ++ later) ≡ verdict_from side (so_far before (p ∷ h)) (at + 1 + length before) later)
        → verdict_from side h at ((p ∷ before) ++ later) ≡ verdict_from side (so_far (p ∷ before) h) (at + length (p ∷ before)) later
    by (Some rule) q v again = absurd (cc v)
    by None q v again =
        ap (λ (o : Option ℕ). broken_at at o (verdict_from side (p ∷ h) (at + 1) (before ++ later))) q ∙ again v
        ∙ ap (λ (n : ℕ). verdict_from side (so_far before (p ∷ h)) n later) (omega arith)

-- the record of a list and the history to which it leads
record Led (side : Side) (r h : History) : Type 0 where
  alike : Alike r h
  lawful : IsHistory side h

led : (side : Side) (all : List Turn) (r h : History) → Alike r h → IsHistory side h → AllLawful side h all → Led side (so_far (paired all (meaning_from side h all)) r) (history_of side h all)
led side [] r h a i l = record { alike = a; lawful = i }
led side (turn ∷ all) r h a i l = led side all (with_pair r turn (answer_to side h turn)) (history_after side h turn) (alike-after side turn r h l.0 a) (turn-history side h turn i l.0) l.1

count : (side : Side) (all : List Turn) (h : History) → length (paired all (meaning_from side h all)) ≡ length all
count side [] h = refl
count side (turn ∷ all) h = ap (λ (n : ℕ). suc n) (count side all (history_after side h turn))

pub refused : (side : Side) (first : List Turn) (turn : Turn) (a : Answer) (later : List Pair) → AllLawful side [] first → is_lawful side (history_of side [] first) turn ≡ false
    → verdict_on (record { side = side; pairs = (recorded side first).pairs ++ record { turn = turn; answer = a } ∷ later }) ≡ Broken (length first) 1
refused side first turn a later l u =
    behind-accepted side [] 0 (recorded side first).pairs (record { turn = turn; answer = a } ∷ later) (accepted side first l)
    ∙ ap (λ (o : Option ℕ). broken_at (0 + length (recorded side first).pairs) o (verdict_from side (record { turn = turn; answer = a } ∷ so_far (recorded side first).pairs []) (0 + length (recorded side first).pairs + 1) later)) broken
    ∙ ap (λ (n : ℕ). Broken n 1) (let c = count side first [] in omega (arith, c))
  where
    r : History
    r = so_far (recorded side first).pairs []

    x : Led side r (history_of side [] first)
    x = led side first [] [] at-first tt l

    broken : broken_rule side r (record { turn = turn; answer = a }) ≡ Some 1
    broken = rw (turn-follows side r (history_of side [] first) x.alike x.lawful turn ∙ u) refl
