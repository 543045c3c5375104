-- What goes out on each stream is a prefix of its head and what was accepted.
use Rattle.std.specs.Prelude.{[], ◌++◌, ◌==◌, ◌≡◌, Bool, List, false, if◌then◌else◌, length, take, true, ℕ}
use Rattle.std.proofs.Common.{◌∙◌, ap, refl, sym}
use Rattle.std.proofs.Math.Seq.{take-length}
use Rattle.std.proofs.lemmas.Bool.{eqb-true}
use Rattle.std.proofs.lemmas.List.{append-nil, take_all}
use Rattle.wt_meaning.specs.Calls.{opened_by}
use Rattle.wt_meaning.specs.Findings.{first_of}
use Rattle.wt_meaning.specs.History.{History, Pair, is_handed_out, out}
use Rattle.wt_promise.proofs.OwnForms.{SendsByHead, frame_or, head_on}
use Rattle.wt_promise.proofs.ControlKept.{control-kept}
use Rattle.wt_promise.proofs.Flow.{Flow, InHead, Past}
use Rattle.wt_promise.proofs.Flows.{flow}
use Rattle.wt_promise.proofs.Heads.{accepted-before}
use Rattle.wt_promise.proofs.SettingsOut.{control-out}
use Rattle.wt_promise.proofs.HeadTests.{same-control}
use Rattle.wt_promise.specs.Owed.{control_bytes, header_on}
use Rattle.wt_promise.specs.Promise.{IsHistory, accepted, begun_on}
use Rattle.wt_turn.specs.Streams.{local_uni}
use Rattle.wt_wire.specs.declared.side.Side.{Side}

-- a part of the head, where nothing was accepted
of-head : (side : Side) (h : History) (k : ℕ) → take (length (out h k)) (head_on side h k) ≡ out h k → accepted h k ≡ [] → SendsByHead side h k
of-head side h k t g = record {
  front = ap (λ (xs : List ℕ). take (length (out h k)) (head_on side h k ++ xs)) g ∙ ap (take (length (out h k))) (append-nil (head_on side h k)) ∙ t;
  all = λ l. sym t ∙ take_all (length (out h k)) (head_on side h k) l ∙ sym (append-nil (head_on side h k)) ∙ ap (λ (xs : List ℕ). head_on side h k ++ xs) (sym g);
}

of-flow : (side : Side) (h : History) (k : ℕ) → Flow (head_on side h k) (out h k) (accepted h k) (is_handed_out h k) → SendsByHead side h k
of-flow side h k (InHead t g n) = of-head side h k t g
of-flow side h k (Past e) = record {
  front = ap (take (length (out h k))) (sym e) ∙ take-length (out h k);
  all = λ l. e;
}

of-control : (side : Side) (h : History) → IsHistory side h → (k : ℕ) → (k == local_uni side) ≡ true → SendsByHead side h k
of-control side h i k e =
    of-head side h k
    (ap (take (length (out h k))) (ap (λ (b : Bool). if b then control_bytes else frame_or (begun_on h k) (header_on h k (first_of (λ (x : Pair). opened_by k x.turn x.answer.reply) h))) e) ∙ ap (λ (j : ℕ). take (length (out h j)) control_bytes) same ∙ ap (take (length (out h (local_uni side)))) (sym same-control) ∙ (control-out side h i).front ∙ ap (out h) (sym same))
    (accepted-before side h i k (ap (is_handed_out h) same ∙ control-kept side h i))
  where
    same : k ≡ local_uni side
    same = eqb-true k (local_uni side) e

pub sends-in-order : (side : Side) (h : History) → IsHistory side h → (k : ℕ) → SendsByHead side h k
sends-in-order side h i k = by (k == local_uni side) refl
  where
    by : (b : Bool) → (k == local_uni side) ≡ b → SendsByHead side h k
    by true e = of-control side h i k e
    by false e = of-flow side h k (flow side h i k e)
