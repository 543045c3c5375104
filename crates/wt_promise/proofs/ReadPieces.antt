-- What was read of a stream is a prefix of what follows its header.
use Rattle.std.specs.Prelude.{[], ◌%◌, ◌&&◌, ◌++◌, ◌+◌, ◌==◌, ◌∷◌, ◌||◌, ◌≡◌, Bool, List, None, Option, Some, drop, false, if◌then◌else◌, is_some, length, nat_le, not, suc, take, true, zero, ℕ}
use Rattle.std.proofs.Common.{◌∙◌, ap, append_assoc, refl, sym}
use Rattle.std.proofs.Math.Seq.{take-append_seam, take-length}
use Rattle.std.proofs.lemmas.Bool.{eqb-true}
use Rattle.std.proofs.lemmas.List.{append-nil, drop-drop, take-append-drop}
use Rattle.wt_meaning.specs.Findings.{is_classified, verdict_of}
use Rattle.wt_meaning.specs.Halves.{body_start, has_receiving, is_fin, read_by, reset_code, unread, was_read}
use Rattle.wt_meaning.specs.Handshakes.{is_nothing}
use Rattle.wt_meaning.specs.History.{History, Pair, contents, events, hands_out, is_handed_out, is_open, with_bytes}
use Rattle.wt_meaning.specs.Meaning.{next}
use Rattle.wt_meaning.specs.Moments.{findings}
use Rattle.wt_promise.proofs.Accepted.{and-left, or-right, or-true}
use Rattle.wt_promise.proofs.Grows.{is_peers}
use Rattle.wt_promise.proofs.HandedOut.{admitted-classified, only-peers, opened-local, verdict-stays}
use Rattle.wt_promise.proofs.Tables.{by-row, by-value, no-row}
use Rattle.wt_promise.proofs.Verdicts.{ByAccept, ByOpening, HandedBy, handed-by}
use Rattle.wt_promise.proofs.OwnForms.{ReadsByWas}
use Rattle.wt_promise.specs.Promise.{IsHistory}
use Rattle.wt_proto.specs.declared.verdict.Verdict.{Verdict}
use Rattle.wt_turn.specs.Reports.{end_of}
use Rattle.wt_turn.specs.Streams.{local_uni}
use Rattle.wt_turn.specs.declared.answer.Answer.{Answer}
use Rattle.wt_turn.specs.declared.reply.Reply.{Reply}
use Rattle.wt_turn.specs.declared.turn.Turn.{Turn}
use Rattle.wt_wire.specs.declared.side.Side.{Side}
use Rattle.wt_turn.specs.declared.call.Call.TheVariants as calls
use Rattle.wt_turn.specs.declared.reply.Reply.TheVariants as replies
use Rattle.wt_turn.specs.declared.stream_error.StreamReadError.TheVariants as reads
use Rattle.wt_turn.specs.declared.stream_error.StreamReadExactError.TheVariants as exacts
use Rattle.wt_turn.specs.declared.turn.Turn.TheVariants as turns

-- ---- lists

drop-over : (n : ℕ) (xs ys : List ℕ) → (zs : List ℕ) × (drop n (xs ++ ys) ≡ drop n xs ++ zs)
drop-over zero xs ys = (ys, refl)
drop-over (suc n) [] ys = (drop (suc n) ys, refl)
drop-over (suc n) (x ∷ xs) ys = drop-over n xs ys

-- what was read, and a piece of what comes after it, is what is read then
one-piece-more : (start n : ℕ) (got all more : List ℕ) → take (length got) (drop start all) ≡ got
    → take (length (got ++ take n (drop (start + length got) all))) (drop start (all ++ more)) ≡ got ++ take n (drop (start + length got) all)
one-piece-more start n got all more e =
    ap (take (length (got ++ piece))) (o.1 ∙ ap (λ xs. xs ++ o.0) (sym parts) ∙ append_assoc (got ++ piece) rest o.0) ∙ take-append_seam (got ++ piece) (rest ++ o.0)
  where
    body : List ℕ
    body = drop start all

    piece : List ℕ
    piece = take n (drop (start + length got) all)

    rest : List ℕ
    rest = drop n (drop (start + length got) all)

    o : (zs : List ℕ) × (drop start (all ++ more) ≡ drop start all ++ zs)
    o = drop-over start all more

    parts : (got ++ piece) ++ rest ≡ body
    parts = append_assoc got piece rest ∙ ap (λ xs. got ++ xs) (take-append-drop n (drop (start + length got) all) ∙ sym (drop-drop (length got) start all))
        ∙ ap (λ xs. xs ++ drop (length got) body) (sym e) ∙ take-append-drop (length got) body

-- ---- what a read gives

-- the reply reads a piece of what is unread, and only of a stream that was handed out
record ReadsPiece (side : Side) (h : History) (k : ℕ) (turn : Turn) (r : Reply) : Type 0 where
  count : ℕ
  piece : read_by k turn r ≡ take count (unread side h k)
  of_given : is_handed_out h k ≡ false → read_by k turn r ≡ []

reads-nothing : (side : Side) (h : History) (k : ℕ) (turn : Turn) (r : Reply) → read_by k turn r ≡ [] → ReadsPiece side h k turn r
reads-nothing side h k turn r e = record { count = 0; piece = e; of_given = λ n. e }

-- a piece of this stream or of another
reads-some : (side : Side) (h : History) (k id n : ℕ) (turn : Turn) (r : Reply) → has_receiving side h id ≡ true → read_by k turn r ≡ (if id == k then take n (unread side h id) else []) → ReadsPiece side h k turn r
reads-some side h k id n turn r has e = by (id == k) refl
  where
    by : (b : Bool) → (id == k) ≡ b → ReadsPiece side h k turn r
    by false i = reads-nothing side h k turn r (e ∙ rw i refl)
    by true i = record {
      count = n;
      piece = e ∙ ap (λ (b : Bool). if b then take n (unread side h id) else []) i ∙ ap (λ (j : ℕ). take n (unread side h j)) (eqb-true id k i);
      of_given = λ g. absurd (let t : is_handed_out h k ≡ true = ap (is_handed_out h) (sym (eqb-true id k i)) ∙ given id has in let f : true ≡ false = sym t ∙ g in cc f);
    }
      where
        given : (j : ℕ) → has_receiving side h j ≡ true → is_handed_out h j ≡ true
        given j q = and-left (is_handed_out h j) _ (and-left (is_handed_out h j && not (j % 4 == local_uni side)) _ q)

abbrev nil : List ℕ
nil = []

pub if-nothing : (b : Bool) → (if b then nil else nil) ≡ nil
if-nothing true = refl
if-nothing false = refl

not-false-is : (b : Bool) → not b ≡ false → b ≡ true
not-false-is true e = refl
not-false-is false e = absurd (cc e)

read-piece : (side : Side) (h : History) (k id size : ℕ) → ReadsPiece side h k (turns.Call (calls.Read id size)) (next side h (turns.Call (calls.Read id size))).reply
read-piece side h k id size =
    (by-row P (not (has_receiving side h id)) replies.NoStream [] _ (λ i. reads-nothing side h k turn replies.NoStream refl)
    (λ has. by-row P (size == 0) (replies.Read (Some [])) [] _ (λ i. reads-nothing side h k turn (replies.Read (Some [])) (if-nothing (id == k)))
    (λ i. by-row P (not (is_nothing (unread side h id))) (replies.Read (Some (take size (unread side h id)))) [] _
    (λ j. reads-some side h k id size turn (replies.Read (Some (take size (unread side h id)))) (not-false-is (has_receiving side h id) has) refl)
    (λ j. by-row P (is_fin (end_of (events h) id)) (replies.Read None) [] _ (λ m. reads-nothing side h k turn (replies.Read None) refl)
    (λ m. by-value P (reset_code (end_of (events h) id)) _ [] _ (λ y n. reads-nothing side h k turn (replies.ReadFailed (reads.Reset y)) refl)
    (λ n. by-row P (not (is_open h)) _ [] [] (λ t. reads-nothing side h k turn (replies.ReadFailed reads.NotConnected) refl) (λ t. no-row P (reads-nothing side h k turn replies.Pending refl)))))))).first
  where
    turn : Turn
    turn = turns.Call (calls.Read id size)

    P : Answer → Type 0
    P = λ a. ReadsPiece side h k (turns.Call (calls.Read id size)) a.reply

exact-piece : (side : Side) (h : History) (k id size : ℕ) → ReadsPiece side h k (turns.Call (calls.ReadExact id size)) (next side h (turns.Call (calls.ReadExact id size))).reply
exact-piece side h k id size =
    (by-row P (not (has_receiving side h id)) replies.NoStream [] _ (λ i. reads-nothing side h k turn replies.NoStream refl)
    (λ has. by-row P (nat_le size (length (unread side h id))) (replies.Exact (take size (unread side h id))) [] _
    (λ i. reads-some side h k id size turn (replies.Exact (take size (unread side h id))) (not-false-is (has_receiving side h id) has) refl)
    (λ i. by-row P (is_fin (end_of (events h) id)) (replies.ExactFailed (exacts.FinishedEarly (length (unread side h id))) (unread side h id)) [] _
    (λ m. reads-some side h k id (length (unread side h id)) turn (replies.ExactFailed (exacts.FinishedEarly (length (unread side h id))) (unread side h id)) (not-false-is (has_receiving side h id) has)
    (ap (λ (xs : List ℕ). if id == k then xs else []) (sym (take-length (unread side h id)))))
    (λ m. by-value P (reset_code (end_of (events h) id)) _ [] _ (λ y n. reads-nothing side h k turn (replies.ExactFailed (exacts.Read (reads.Reset y)) []) (if-nothing (id == k)))
    (λ n. by-row P (not (is_open h)) _ [] [] (λ t. reads-nothing side h k turn (replies.ExactFailed (exacts.Read reads.NotConnected) []) (if-nothing (id == k))) (λ t. no-row P (reads-nothing side h k turn replies.Pending refl))))))).first
  where
    turn : Turn
    turn = turns.Call (calls.ReadExact id size)

    P : Answer → Type 0
    P = λ a. ReadsPiece side h k (turns.Call (calls.ReadExact id size)) a.reply

reads-piece : (side : Side) (h : History) (k : ℕ) (turn : Turn) → ReadsPiece side h k turn (next side h turn).reply
reads-piece side h k (turns.Call (calls.Read id size)) = read-piece side h k id size
reads-piece side h k (turns.Call (calls.ReadExact id size)) = exact-piece side h k id size
reads-piece side h k turn = record { count = 0; piece = refl; of_given = λ n. refl }

-- ---- the whole

pub contents-add : (p : Pair) (h : History) (k : ℕ) → (more : List ℕ) × (contents (p ∷ h) k ≡ contents h k ++ more)
contents-add p h k = by (is_open h) p.turn
  where
    here : (b : Bool) (piece : List ℕ) → (more : List ℕ) × ((if b then contents h k ++ piece else contents h k) ≡ contents h k ++ more)
    here true piece = (piece, refl)
    here false piece = ([], sym (append-nil (contents h k)))

    by : (b : Bool) (turn : Turn) → (more : List ℕ) × ((if b then with_bytes k turn (contents h k) else contents h k) ≡ contents h k ++ more)
    by false turn = ([], sym (append-nil (contents h k)))
    by true (turns.Bytes id piece) = here (id == k) piece
    by true turn = ([], sym (append-nil (contents h k)))

-- a stream that was handed out was classified, or isn't the peer's
settled : (side : Side) (h : History) → IsHistory side h → (k : ℕ) → HandedBy side h k → (is_classified (findings side h) k || not (is_peers side k)) ≡ true
settled side h i k (ByAccept s e) = ap (λ (b : Bool). b || not (is_peers side k)) (admitted-classified s k (findings side h) e)
settled side h i k (ByOpening e) = rw (opened-local side h i k e) (or-true (is_classified (findings side h) k))

-- a stream that was handed out keeps its verdict, or has none
verdict-same : (side : Side) (p : Pair) (h : History) (k : ℕ) → (is_classified (findings side h) k || not (is_peers side k)) ≡ true → verdict_of (findings side (p ∷ h)) k ≡ verdict_of (findings side h) k
verdict-same side p h k e = by (verdict_of (findings side h) k) refl e
  where
    none : (o : Option Verdict) → (is_some o ≡ true → is_peers side k ≡ true) → not (is_peers side k) ≡ true → o ≡ None
    none None f n = refl
    none (Some v) f n = absurd (let t = f refl in let r = rw t at n in cc r)

    by : (o : Option Verdict) → verdict_of (findings side h) k ≡ o → (is_some o || not (is_peers side k)) ≡ true → verdict_of (findings side (p ∷ h)) k ≡ verdict_of (findings side h) k
    by (Some v) i q = verdict-stays side p h k v i ∙ sym i
    by None i q = none (verdict_of (findings side (p ∷ h)) k) (only-peers side (p ∷ h) k) q ∙ sym i

-- nothing was read of a stream that wasn't handed out
unread-before : (side : Side) (h : History) → IsHistory side h → (k : ℕ) → is_handed_out h k ≡ false → was_read h k ≡ []
unread-before side [] i k e = refl
unread-before side (p ∷ h) i k e =
    let before = or-right (hands_out k p.answer.reply) (is_handed_out h k) e in
    let piece = (reads-piece side h k p.turn).of_given before in
    rw (unread-before side h i.2 k before, i.1, piece) refl

pub reads-in-order : (side : Side) (h : History) → IsHistory side h → ReadsByWas side h
reads-in-order side [] i k = refl
reads-in-order side (p ∷ h) i k = by (is_handed_out h k) refl (reads-in-order side h i.2 k)
  where
    r : ReadsPiece side h k p.turn p.answer.reply
    r = rw i.1 (reads-piece side h k p.turn)

    c : (more : List ℕ) × (contents (p ∷ h) k ≡ contents h k ++ more)
    c = contents-add p h k

    by : (b : Bool) → is_handed_out h k ≡ b → take (length (was_read h k)) (drop (body_start (verdict_of (findings side h) k)) (contents h k)) ≡ was_read h k
        → take (length (was_read (p ∷ h) k)) (drop (body_start (verdict_of (findings side (p ∷ h)) k)) (contents (p ∷ h) k)) ≡ was_read (p ∷ h) k
    by false e again = rw (unread-before side h i.2 k e, r.of_given e) refl
    by true e again = rw (verdict-same side p h k (settled side h i.2 k (handed-by side h i.2 k e)), r.piece, c.1)
        (one-piece-more (body_start (verdict_of (findings side h) k)) r.count (was_read h k) (contents h k) c.0 again)
