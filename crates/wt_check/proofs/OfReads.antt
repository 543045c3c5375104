-- Rule 4 holds of a lawful list: reads give what follows the header, in order, and tell the stream's end as it came.
use Rattle.std.specs.Prelude.{[], ◌%◌, ◌&&◌, ◌++◌, ◌==◌, ◌∷◌, ◌≡◌, Bool, List, None, Option, Some, drop, false, if◌then◌else◌, is_some, length, nat_le, not, suc, take, true, zero, ℕ}
use Rattle.std.proofs.Common.{◌∙◌, ap, refl, subst, sym}
use Rattle.std.proofs.lemmas.Bool.{eq-eqb, eqb-true}
use Rattle.std.proofs.lemmas.List.{append-nil, drop-drop, take-append-drop}
use Rattle.wt_check.proofs.Alike.{Alike, All, Behind, More, SamePairs, alike-after, at-first, same}
use Rattle.wt_check.proofs.Along.{along, both}
use Rattle.wt_check.proofs.OfAccepts.{handed-same, verdict-alike}
use Rattle.wt_check.proofs.OfSends.{each-of, handed-of, one-side, prefix-of}
use Rattle.wt_check.specs.Reads.{ends_hold, given, handed_in, is_reset_with, piece_in, read_in, reads_hold, reads_rightly, tells_rightly}
use Rattle.wt_check.specs.Records.{behind, body, is_prefix, recorded}
use Rattle.wt_check.specs.Verdict.{holds}
use Rattle.wt_meaning.specs.Findings.{verdict_of}
use Rattle.wt_meaning.specs.Halves.{body_start, has_receiving, is_fin, read_by, reset_code, unread, was_read}
use Rattle.wt_meaning.specs.Handshakes.{is_nothing}
use Rattle.wt_meaning.specs.History.{History, Pair, contents, events, hands_out, is_handed_out, is_open}
use Rattle.wt_meaning.specs.Lawful.{is_lawful}
use Rattle.wt_meaning.specs.Meaning.{answer_to, history_after, next, with_pair}
use Rattle.wt_meaning.specs.Moments.{findings}
use Rattle.wt_meaning.specs.Windows.{is_number}
use Rattle.wt_promise.proofs.Accepted.{and-left}
use Rattle.wt_promise.proofs.Facts.{classified_rightly}
use Rattle.wt_promise.proofs.Flow.{clash}
use Rattle.wt_promise.proofs.Grows.{is_peers}
use Rattle.wt_promise.proofs.HandedOut.{only-peers, opened-local}
use Rattle.wt_promise.proofs.Prefixes.{turn-history}
use Rattle.wt_promise.proofs.ReadPieces.{reads-in-order}
use Rattle.wt_promise.proofs.Tables.{by-row, by-value, no-row}
use Rattle.wt_promise.proofs.Verdicts.{AStream, ByAccept, ByOpening, HandedBy, IsStream, admitted-peers, admitted-verdict, handed-by}
use Rattle.wt_promise.specs.Promise.{AllLawful, IsHistory}
use Rattle.wt_proto.specs.declared.verdict.Verdict.{Verdict}
use Rattle.wt_turn.specs.Reports.{end_of}
use Rattle.wt_turn.specs.Streams.{local_uni}
use Rattle.wt_turn.specs.Log.{Event}
use Rattle.wt_turn.specs.declared.answer.Answer.{Answer}
use Rattle.wt_turn.specs.declared.reply.Reply.{Reply}
use Rattle.wt_turn.specs.declared.turn.Turn.{Turn}
use Rattle.wt_wire.specs.declared.side.Side.{Side}
use Rattle.wt_wire.specs.declared.side.StreamEnd.{StreamEnd}
use Rattle.wt_proto.specs.declared.verdict.Verdict.TheVariants as verdicts
use Rattle.wt_turn.specs.declared.call.Call.TheVariants as calls
use Rattle.wt_turn.specs.declared.reply.Reply.TheVariants as replies
use Rattle.wt_turn.specs.declared.stream_error.StreamReadError.TheVariants as reads
use Rattle.wt_turn.specs.declared.stream_error.StreamReadExactError.TheVariants as exacts
use Rattle.wt_turn.specs.declared.turn.Turn.TheVariants as turns
use Rattle.wt_wire.specs.declared.side.StreamEnd.TheVariants as ends

-- ---- what was given

if-none : (b : Bool) → (if b then given [] 0 else []) ≡ []
if-none true = refl
if-none false = refl

abbrev GivesAlike : ℕ → Turn → Reply → Type 0
GivesAlike k turn r = (if is_number k (read_in turn) then piece_in r else []) ≡ read_by k turn r

read-alike : (side : Side) (h : History) (k id size : ℕ) → GivesAlike k (turns.Call (calls.Read id size)) (next side h (turns.Call (calls.Read id size))).reply
read-alike side h k id size =
    (by-row P (not (has_receiving side h id)) replies.NoStream [] _ (λ e. if-none (id == k))
    (λ has. by-row P (size == 0) (replies.Read (Some [])) [] _ (λ e. refl)
    (λ i. by-row P (not (is_nothing (unread side h id))) (replies.Read (Some (take size (unread side h id)))) [] _ (λ e. refl)
    (λ j. by-row P (is_fin (end_of (events h) id)) (replies.Read None) [] _ (λ e. if-none (id == k))
    (λ m. by-value P (reset_code (end_of (events h) id)) _ [] _ (λ y e. if-none (id == k))
    (λ n. by-row P (not (is_open h)) _ [] [] (λ t. if-none (id == k)) (λ t. no-row P (if-none (id == k))))))))).first
  where
    P : Answer → Type 0
    P a = GivesAlike k (turns.Call (calls.Read id size)) a.reply

exact-alike : (side : Side) (h : History) (k id size : ℕ) → GivesAlike k (turns.Call (calls.ReadExact id size)) (next side h (turns.Call (calls.ReadExact id size))).reply
exact-alike side h k id size =
    (by-row P (not (has_receiving side h id)) replies.NoStream [] _ (λ e. if-none (id == k))
    (λ has. by-row P (nat_le size (length (unread side h id))) (replies.Exact (take size (unread side h id))) [] _ (λ e. refl)
    (λ i. by-row P (is_fin (end_of (events h) id)) (replies.ExactFailed (exacts.FinishedEarly (length (unread side h id))) (unread side h id)) [] _ (λ e. refl)
    (λ m. by-value P (reset_code (end_of (events h) id)) _ [] _ (λ y e. refl)
    (λ n. by-row P (not (is_open h)) _ [] [] (λ t. refl) (λ t. no-row P (if-none (id == k)))))))).first
  where
    P : Answer → Type 0
    P a = GivesAlike k (turns.Call (calls.ReadExact id size)) a.reply

turn-alike : (side : Side) (h : History) (k : ℕ) (turn : Turn) → GivesAlike k turn (next side h turn).reply
turn-alike side h k (turns.Call (calls.Read id size)) = read-alike side h k id size
turn-alike side h k (turns.Call (calls.ReadExact id size)) = exact-alike side h k id size
turn-alike side h k turn = refl

given-read : (side : Side) (h : History) → IsHistory side h → (k : ℕ) → given h k ≡ was_read h k
given-read side [] i k = refl
given-read side (p ∷ h) i k =
    ap (λ (xs : List ℕ). xs ++ (if is_number k (read_in p.turn) then piece_in p.answer.reply else [])) (given-read side h i.2 k) ∙ ap (λ (xs : List ℕ). was_read h k ++ xs) (of p.answer i.1)
  where
    of : (a : Answer) → a ≡ next side h p.turn → GivesAlike k p.turn a.reply
    of a e = rw e (turn-alike side h k p.turn)

given-same : (k : ℕ) (r h : History) → SamePairs r h → given r k ≡ given h k
given-same k = same (λ (h : History). given h k) (λ id piece sent h. append-nil (given h k)) (λ p r h e. ap (λ (xs : List ℕ). xs ++ (if is_number k (read_in p.turn) then piece_in p.answer.reply else [])) e)

-- ---- what may be read

-- of a stream that was handed out, what is behind the header
body-is : (side : Side) (r h : History) → Alike r h → IsHistory side h → (k : ℕ) → HandedBy side h k → body side r k ≡ drop (body_start (verdict_of (findings side h) k)) (contents r k)
body-is side r h a i k (ByAccept s e) = let v = admitted-verdict side h s k e in of v.0 v.1 v.2
  where
    of : (w : Verdict) → verdict_of (findings side h) k ≡ Some w → IsStream s w → body side r k ≡ drop (body_start (verdict_of (findings side h) k)) (contents r k)
    of w q (AStream offset) =
        rw (one-side side k, admitted-peers side h s k e, q)
        (ap (λ (x : Verdict). behind x (contents r k)) (verdict-alike r h k (verdicts.WebTransport s offset) a refl (classified_rightly side h i k (verdicts.WebTransport s offset) q).shown))
body-is side r h a i k (ByOpening e) = rw (one-side side k, opened-local side h i k e, none (verdict_of (findings side h) k) refl) refl
  where
    none : (o : Option Verdict) → verdict_of (findings side h) k ≡ o → verdict_of (findings side h) k ≡ None
    none None q = q
    none (Some w) q = absurd (clash (is_peers side k) (only-peers side h k (ap is_some q)) (opened-local side h i k e))

-- what was given stays in front
front-on : (got xs more : List ℕ) → take (length got) xs ≡ got → take (length got) (xs ++ more) ≡ got
front-on [] xs more e = refl
front-on (g ∷ got) [] more e = absurd (cc e)
front-on (g ∷ got) (x ∷ xs) more e =
    let y : take (length got) xs ≡ got = cc e in let z : x ≡ g = cc e in
    ap (λ (ys : List ℕ). x ∷ ys) (front-on got xs more y) ∙ ap (λ (c : ℕ). c ∷ got) z

front-none : (got ys : List ℕ) → take {A = ℕ} (length got) [] ≡ got → take (length got) ys ≡ got
front-none [] ys e = refl
front-none (g ∷ got) ys e = absurd (cc e)

still-front : (n : ℕ) (got xs more : List ℕ) → take (length got) (drop n xs) ≡ got → take (length got) (drop n (xs ++ more)) ≡ got
still-front zero got xs more e = front-on got xs more e
still-front (suc n) got [] more e = front-none got (drop (suc n) more) e
still-front (suc n) got (x ∷ xs) more e = still-front n got xs more e

module _ (side : Side) (r h : History) (a : Alike r h) (i : IsHistory side h) (k : ℕ) (o : is_handed_out h k ≡ true) where
  -- where its body begins
  abbrev start : ℕ
  start = body_start (verdict_of (findings side h) k)

  given-is : given r k ≡ was_read h k
  given-is = given-same k r h a.pairs ∙ given-read side h i k

  front : take (length (was_read h k)) (drop start (contents r k)) ≡ was_read h k
  front = of (contents r k) (a.bytes k)
    where
      of : (bytes : List ℕ) → Behind bytes h k → take (length (was_read h k)) (drop start bytes) ≡ was_read h k
      of bytes (All q) = rw q (reads-in-order side h i k)
      of bytes (More rest q c e) = rw q (still-front start (was_read h k) (contents h k) rest (reads-in-order side h i k))

  in-front : is_prefix (given r k) (body side r k) ≡ true
  in-front = prefix-of (given r k) (body side r k) (rw (given-is, body-is side r h a i k (handed-by side h i k o)) front)

  -- once the stream ended, with nothing unread all was given
  all-given : (end_of (events h) k ≡ ends.Running → ⊥) → is_nothing (unread side h k) ≡ true → (length (given r k) == length (body side r k)) ≡ true
  all-given n e = eq-eqb (length (given r k)) (length (body side r k)) (ap (λ (xs : List ℕ). length xs) (given-is ∙ whole ∙ sym (body-is side r h a i k (handed-by side h i k o) ∙ ap (drop start) came)))
    where
      came : contents r k ≡ contents h k
      came = of (contents r k) (a.bytes k)
        where
          of : (bytes : List ℕ) → Behind bytes h k → bytes ≡ contents h k
          of bytes (All q) = q
          of bytes (More rest q c f) = absurd (n f)

      nothing : (xs : List ℕ) → is_nothing xs ≡ true → xs ≡ []
      nothing [] q = refl
      nothing (x ∷ xs) q = absurd (cc q)

      left : drop (length (was_read h k)) (drop start (contents h k)) ≡ []
      left = drop-drop (length (was_read h k)) start (contents h k) ∙ nothing (unread side h k) e

      whole : was_read h k ≡ drop start (contents h k)
      whole =
          sym (append-nil (was_read h k)) ∙ rw⁻¹ left (ap (λ (xs : List ℕ). xs ++ drop (length (was_read h k)) (drop start (contents h k))) (sym (reads-in-order side h i k)))
          ∙ take-append-drop (length (was_read h k)) (drop start (contents h k))

-- ---- the end that a read tells

fin-not : (end : StreamEnd) → is_fin end ≡ true → end ≡ ends.Running → ⊥
fin-not end e q = absurd (let x = rw q at e in cc x)

reset-is : (end : StreamEnd) (code : ℕ) → reset_code end ≡ Some code → end ≡ ends.Reset code
reset-is (ends.Reset c) code e = let x : c ≡ code = cc e in ap (λ (n : ℕ). ends.Reset n) x
reset-is ends.Fin code e = absurd (cc e)
reset-is ends.Running code e = absurd (cc e)

reset-not : (end : StreamEnd) (code : ℕ) → end ≡ ends.Reset code → end ≡ ends.Running → ⊥
reset-not end code e q = cc (sym e ∙ q)

handed : (side : Side) (h : History) (id : ℕ) → not (has_receiving side h id) ≡ false → is_handed_out h id ≡ true
handed side h id e = and-left (is_handed_out h id) _ (and-left (is_handed_out h id && not (id % 4 == local_uni side)) _ (yes_ (has_receiving side h id) e))
  where
    yes_ : (b : Bool) → not b ≡ false → b ≡ true
    yes_ true q = refl
    yes_ false q = absurd (cc q)

no-more : (b : Bool) → not b ≡ false → b ≡ true
no-more true q = refl
no-more false q = absurd (cc q)

module _ (side : Side) (r h : History) (a : Alike r h) (i : IsHistory side h) (id size : ℕ) where
  abbrev Rightly : Reply → Type 0
  Rightly reply = tells_rightly (end_of (events h) id) (length (given r id) == length (body side r id)) reply ≡ true

  read-tells : Rightly (next side h (turns.Call (calls.Read id size))).reply
  read-tells =
      (by-row P (not (has_receiving side h id)) replies.NoStream [] _ (λ e. refl)
      (λ has. by-row P (size == 0) (replies.Read (Some [])) [] _ (λ e. refl)
      (λ z. by-row P (not (is_nothing (unread side h id))) (replies.Read (Some (take size (unread side h id)))) [] _ (λ e. refl)
      (λ j. by-row P (is_fin (end_of (events h) id)) (replies.Read None) [] _
      (λ e. both (is_fin (end_of (events h) id)) _ e (all-given side r h a i id (handed side h id has) (fin-not (end_of (events h) id) e) (no-more (is_nothing (unread side h id)) j)))
      (λ m. by-value P (reset_code (end_of (events h) id)) (λ (code : ℕ). replies.ReadFailed (reads.Reset code)) [] _
      (λ code e. let q = reset-is (end_of (events h) id) code e in both (is_reset_with code (end_of (events h) id)) _ (ap (is_reset_with code) q ∙ eq-eqb code code refl)
      (all-given side r h a i id (handed side h id has) (reset-not (end_of (events h) id) code q) (no-more (is_nothing (unread side h id)) j)))
      (λ n. by-row P (not (is_open h)) _ [] [] (λ t. refl) (λ t. no-row P refl))))))).first
    where
      P : Answer → Type 0
      P x = Rightly x.reply

  exact-tells : Rightly (next side h (turns.Call (calls.ReadExact id size))).reply
  exact-tells =
      (by-row P (not (has_receiving side h id)) replies.NoStream [] _ (λ e. refl)
      (λ has. by-row P (nat_le size (length (unread side h id))) (replies.Exact (take size (unread side h id))) [] _ (λ e. refl)
      (λ z. by-row P (is_fin (end_of (events h) id)) (replies.ExactFailed (exacts.FinishedEarly (length (unread side h id))) (unread side h id)) [] _ (λ e. refl)
      (λ m. by-value P (reset_code (end_of (events h) id)) (λ (code : ℕ). replies.ExactFailed (exacts.Read (reads.Reset code)) []) [] _
      (λ code e. ap (is_reset_with code) (reset-is (end_of (events h) id) code e) ∙ eq-eqb code code refl)
      (λ n. by-row P (not (is_open h)) _ [] [] (λ t. refl) (λ t. no-row P refl)))))).first
    where
      P : Answer → Type 0
      P x = Rightly x.reply

-- ---- the rule

-- each read so far told rightly
abbrev AllTold : Side → History → Type 0
AllTold side r = (k : ℕ) → ends_hold side r k ≡ true

module _ (side : Side) (r h : History) (a : Alike r h) (i : IsHistory side h) (k : ℕ) where
  abbrev Told : Turn → Type 0
  Told turn = (if is_number k (read_in turn) then tells_rightly (end_of (events r) k) (length (given r k) == length (body side r k)) (answer_to side h turn).reply else true) ≡ true

  told-of : (id : ℕ) (reply : Reply) → tells_rightly (end_of (events h) id) (length (given r id) == length (body side r id)) reply ≡ true
      → (if id == k then tells_rightly (end_of (events r) k) (length (given r k) == length (body side r k)) reply else true) ≡ true
  told-of id reply e = by (id == k) refl
    where
      by : (b : Bool) → (id == k) ≡ b → (if b then tells_rightly (end_of (events r) k) (length (given r k) == length (body side r k)) reply else true) ≡ true
      by false q = refl
      by true q = ap (λ (es : List Event). tells_rightly (end_of es k) (length (given r k) == length (body side r k)) reply) a.came
          ∙ subst (λ (j : ℕ). tells_rightly (end_of (events h) j) (length (given r j) == length (body side r j)) reply ≡ true) (eqb-true id k q) e

  told-by : (turn : Turn) → Told turn
  told-by (turns.Call (calls.Read id size)) = told-of id _ (read-tells side r h a i id size)
  told-by (turns.Call (calls.ReadExact id size)) = told-of id _ (exact-tells side r h a i id size)
  told-by turn = refl

handed-in : (k : ℕ) (r : Reply) → is_number k (handed_in r) ≡ true → hands_out k r ≡ true
handed-in k (replies.Uni id) e = e
handed-in k (replies.Bi id) e = e
handed-in k (replies.SendReady id) e = e
handed-in k (replies.BiReady id) e = e
handed-in k r e = absurd (cc e)

-- of each stream that was handed out
reads-rightly : (side : Side) (r h : History) (p : Pair) → Alike (p ∷ r) h → IsHistory side h → AllTold side (p ∷ r) → reads_rightly side r p ≡ true
reads-rightly side r h p a i t = each-of (reads_hold side (p ∷ r)) (λ (q : Pair). handed_in q.answer.reply) (p ∷ r)
    (λ k e. both (is_prefix (given (p ∷ r) k) (body side (p ∷ r) k)) (ends_hold side (p ∷ r) k)
    (in-front side (p ∷ r) h a i k (sym (handed-same k (p ∷ r) h a.pairs) ∙ handed-of handed_in k (handed-in k) (p ∷ r) e)) (t k))

kept : (side : Side) (r h : History) (turn : Turn) → Alike r h → IsHistory side h → is_lawful side h turn ≡ true → AllTold side r
    → (reads_rightly side r (record { turn = turn; answer = answer_to side h turn }) ≡ true) × AllTold side (with_pair r turn (answer_to side h turn))
kept side r h turn a i l t = (reads-rightly side r (history_after side h turn) (record { turn = turn; answer = answer_to side h turn }) (alike-after side turn r h l a) (turn-history side h turn i l) now, now)
  where
    now : AllTold side (with_pair r turn (answer_to side h turn))
    now k = both (ends_hold side r k) _ (t k) (told-by side r h a i k turn)

pub of_reads : (side : Side) (all : List Turn) → AllLawful side [] all → holds reads_rightly (recorded side all) ≡ true
of_reads side all l = along side reads_rightly (AllTold side) (kept side) all [] [] at-first tt (λ k. refl) l
