-- What reads took and left, said of turns and replies.
use Rattle.wt_promise.proofs.Statements.{ReadsInOrder}
use Rattle.std.specs.Prelude.{[], ◌++◌, ◌+◌, ◌∷◌, ◌≡◌, List, None, Option, Some, drop, length, take, ℕ}
use Rattle.std.proofs.Common.{◌∙◌, ap, refl, sym}
use Rattle.std.proofs.lemmas.List.{drop-drop}
use Rattle.wt_meaning.specs.Findings.{verdict_of}
use Rattle.wt_meaning.specs.Halves.{body_start, read_by, unread, was_read}
use Rattle.wt_meaning.specs.History.{History, contents}
use Rattle.wt_meaning.specs.Moments.{findings}
use Rattle.wt_promise.proofs.ReadPieces.{reads-in-order}
use Rattle.wt_promise.specs.Causes.{header_length, left_of, piece_of, pieces}
use Rattle.wt_promise.specs.Promise.{IsHistory}
use Rattle.wt_proto.specs.declared.verdict.Verdict.{Verdict}
use Rattle.wt_turn.specs.declared.reply.Reply.{Reply}
use Rattle.wt_turn.specs.declared.turn.Turn.{Turn}
use Rattle.wt_wire.specs.declared.side.Side.{Side}
use Rattle.wt_proto.specs.declared.verdict.Verdict.TheVariants as verdicts
use Rattle.wt_turn.specs.declared.call.Call.TheVariants as calls
use Rattle.wt_turn.specs.declared.reply.Reply.TheVariants as replies
use Rattle.wt_turn.specs.declared.turn.Turn.TheVariants as turns

same-piece : (k : ℕ) (turn : Turn) (r : Reply) → read_by k turn r ≡ piece_of k turn r
same-piece k (turns.Call (calls.Read id size)) (replies.Read (Some piece)) = refl
same-piece k (turns.Call (calls.Read id size)) (replies.Read None) = refl
same-piece k (turns.Call (calls.Read id size)) r = refl
same-piece k (turns.Call (calls.ReadExact id size)) (replies.Exact piece) = refl
same-piece k (turns.Call (calls.ReadExact id size)) (replies.ExactFailed e piece) = refl
same-piece k (turns.Call (calls.ReadExact id size)) r = refl
same-piece k turn r = refl

same-pieces : (h : History) (k : ℕ) → was_read h k ≡ pieces h k
same-pieces [] k = refl
same-pieces (p ∷ h) k = ap (λ (xs : List ℕ). xs ++ read_by k p.turn p.answer.reply) (same-pieces h k) ∙ ap (λ (xs : List ℕ). pieces h k ++ xs) (same-piece k p.turn p.answer.reply)

same-start : (o : Option Verdict) → body_start o ≡ header_length o
same-start (Some (verdicts.WebTransport session offset)) = refl
same-start o = refl

pub same-left : (side : Side) (h : History) (k : ℕ) → unread side h k ≡ left_of side h k
same-left side h k =
    let v : Option Verdict = verdict_of (findings side h) k in
    ap (λ (xs : List ℕ). drop (body_start v + length xs) (contents h k)) (same-pieces h k) ∙ ap (λ (n : ℕ). drop (n + length (pieces h k)) (contents h k)) (same-start v)
    ∙ sym (drop-drop (length (pieces h k)) (header_length v) (contents h k))

pub pieces-in-order : (side : Side) (h : History) → IsHistory side h → ReadsInOrder side h
pieces-in-order side h i k =
    let v : Option Verdict = verdict_of (findings side h) k in
    ap (λ (n : ℕ). take (length (pieces h k)) (drop n (contents h k))) (sym (same-start v)) ∙ ap (λ (xs : List ℕ). take (length xs) (drop (body_start v) (contents h k))) (sym (same-pieces h k))
    ∙ reads-in-order side h i k ∙ same-pieces h k
