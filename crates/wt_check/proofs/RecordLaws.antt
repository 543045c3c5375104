-- Records, line by line.
use Rattle.std.proofs.Common.{◌≡◌, List, [], ◌∷◌, ◌++◌, ap, refl, sym, ◌∙◌}
use Rattle.std.specs.Prelude.{None, Option}
use Rattle.wt_check.specs.Reading.{RecordLines, with_answer}
use Rattle.wt_check.specs.Records.{pairs_of}
use Rattle.wt_meaning.specs.History.{Pair}
use Rattle.wt_turn.specs.declared.answer.Answer.{Answer}
use Rattle.wt_turn.specs.declared.turn.Turn.{Turn}
use Rattle.wt_wire.specs.declared.side.Side.{Side}

-- pairs and one more
pairs_more : (pairs : List (Turn × Answer)) (turn : Turn) (a : Answer) → pairs_of (pairs ++ (turn, a) ∷ []) ≡ pairs_of pairs ++ record { turn = turn; answer = a } ∷ []
pairs_more [] turn a = refl
pairs_more (p ∷ pairs) turn a = ap (λ l. record { turn = p.0; answer = p.1 } ∷ l) (pairs_more pairs turn a)

-- lines that wait for an answer, and that answer
pub answer_taken : (before : RecordLines) (side : Option Side) (waiting : Option Turn) (old new : List (Turn × Answer)) (turn : Turn) (a : Answer)
    → ◌≡◌ {A = RecordLines} (record { side = side; turn = waiting; pairs = pairs_of old }) before → before.turn ≡ None → new ≡ old ++ (turn, a) ∷ []
    → with_answer before turn a ≡ record { side = side; turn = waiting; pairs = pairs_of new }
answer_taken before side waiting old new turn a e none more =
    ap (λ (b : RecordLines). with_answer b turn a) (sym e)
    ∙ ap (λ (t : Option Turn). record { side = side; turn = t; pairs = pairs_of old ++ record { turn = turn; answer = a } ∷ [] }) (sym (ap (λ (b : RecordLines). b.turn) e ∙ none))
    ∙ ap (λ (l : List Pair). record { side = side; turn = waiting; pairs = l }) (sym (pairs_more old turn a) ∙ ap pairs_of (sym more))
