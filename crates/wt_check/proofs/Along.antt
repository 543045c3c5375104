-- A rule that holds at each turn of a lawful list holds throughout its record; a record that breaks no rule is accepted.
use Rattle.std.specs.Prelude.{[], ◌&&◌, ◌∷◌, ◌≡◌, Bool, List, true, ℕ}
use Rattle.std.proofs.Common.{refl}
use Rattle.wt_check.proofs.Alike.{Alike, alike-after, at-first}
use Rattle.wt_check.specs.Accepts.{accepts}
use Rattle.wt_check.specs.Datagrams.{receives_rightly}
use Rattle.wt_check.specs.Reads.{reads_rightly}
use Rattle.wt_check.specs.Records.{paired, recorded}
use Rattle.wt_check.specs.Sends.{sends_rightly}
use Rattle.wt_check.specs.Sessions.{gives_sessions}
use Rattle.wt_check.specs.Turns.{follows}
use Rattle.wt_check.specs.Verdict.{Accepted, holds, holds_from, verdict_from}
use Rattle.wt_meaning.specs.History.{History, Pair}
use Rattle.wt_meaning.specs.Lawful.{is_lawful}
use Rattle.wt_meaning.specs.Meaning.{answer_to, history_after, meaning_from, with_pair}
use Rattle.wt_promise.proofs.Accepted.{and-left, and-right}
use Rattle.wt_promise.proofs.Prefixes.{turn-history}
use Rattle.wt_promise.specs.Promise.{AllLawful, IsHistory}
use Rattle.wt_turn.specs.declared.turn.Turn.{Turn}
use Rattle.wt_wire.specs.declared.side.Side.{Side}

pub both : (a b : Bool) → a ≡ true → b ≡ true → (a && b) ≡ true
both a b e f = rw (e, f) refl

-- what is known of the record and the history, beside that they are alike, and a rule that each turn keeps
module _ (side : Side) (rule : Side → History → Pair → Bool) (Known : History → Type 0)
    (kept : (r h : History) (turn : Turn) → Alike r h → IsHistory side h → is_lawful side h turn ≡ true → Known r
    → (rule side r (record { turn = turn; answer = answer_to side h turn }) ≡ true) × Known (with_pair r turn (answer_to side h turn))) where
  pub along : (all : List Turn) (r h : History) → Alike r h → IsHistory side h → Known r → AllLawful side h all → holds_from rule side r (paired all (meaning_from side h all)) ≡ true
  along [] r h a i k l = refl
  along (turn ∷ all) r h a i k l =
      let x = kept r h turn a i l.0 k in
      both (rule side r (record { turn = turn; answer = answer_to side h turn })) (holds_from rule side (with_pair r turn (answer_to side h turn)) (paired all (meaning_from side (history_after side h turn) all))) x.0
      (along all (with_pair r turn (answer_to side h turn)) (history_after side h turn) (alike-after side turn r h l.0 a) (turn-history side h turn i l.0) x.1 l.1)

-- a rule that is kept with nothing else known
pub throughout : (side : Side) (rule : Side → History → Pair → Bool)
    → ((r h : History) (turn : Turn) → Alike r h → IsHistory side h → is_lawful side h turn ≡ true → rule side r (record { turn = turn; answer = answer_to side h turn }) ≡ true)
    → (all : List Turn) → AllLawful side [] all → holds rule (recorded side all) ≡ true
throughout side rule kept all l = along side rule (λ r. Unit {0}) (λ r h turn a i w k. (kept r h turn a i w, tt)) all [] [] at-first tt tt l

-- a rule that is kept of what is alike after the turn
pub throughout-after : (side : Side) (rule : Side → History → Pair → Bool)
    → ((r h : History) (p : Pair) → Alike (p ∷ r) h → IsHistory side h → rule side r p ≡ true)
    → (all : List Turn) → AllLawful side [] all → holds rule (recorded side all) ≡ true
throughout-after side rule kept = throughout side rule
    (λ r h turn a i l. kept r (history_after side h turn) (record { turn = turn; answer = answer_to side h turn }) (alike-after side turn r h l a) (turn-history side h turn i l))

-- ---- the verdict

pub accepted-from : (side : Side) (h : History) (at : ℕ) (pairs : List Pair) → holds_from follows side h pairs ≡ true → holds_from gives_sessions side h pairs ≡ true → holds_from accepts side h pairs ≡ true
    → holds_from reads_rightly side h pairs ≡ true → holds_from receives_rightly side h pairs ≡ true → holds_from sends_rightly side h pairs ≡ true → verdict_from side h at pairs ≡ Accepted
accepted-from side h at [] a b c d e f = refl
accepted-from side h at (p ∷ pairs) a b c d e f =
    rw (and-left (follows side h p) _ a, and-left (gives_sessions side h p) _ b, and-left (accepts side h p) _ c, and-left (reads_rightly side h p) _ d, and-left (receives_rightly side h p) _ e, and-left (sends_rightly side h p) _ f)
    (accepted-from side (p ∷ h) _ pairs (and-right (follows side h p) _ a) (and-right (gives_sessions side h p) _ b) (and-right (accepts side h p) _ c) (and-right (reads_rightly side h p) _ d)
    (and-right (receives_rightly side h p) _ e) (and-right (sends_rightly side h p) _ f))
