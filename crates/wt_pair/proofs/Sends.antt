-- Bytes go out only on a stream that is there and has a sending half.
use Rattle.std.specs.Prelude.{[], ◌%◌, ◌&&◌, ◌++◌, ◌/◌, ◌<◌, ◌==◌, ◌∷◌, ◌≡◌, ◌≤◌, Bool, List, None, Option, Some, false, if◌then◌else◌, is_some, length, not, take, true, zero, suc, ℕ}
use Rattle.std.proofs.Common.{◌∙◌, ap, arith, refl, subst, sym}
use Rattle.std.proofs.lemmas.Bool.{eqb-false, eqb-true, lt-ltb, ltb-true}
use Rattle.wt_meaning.specs.Calls.{opened_by}
use Rattle.wt_meaning.specs.Findings.{first_of, is_classified, verdict_of}
use Rattle.wt_meaning.specs.Halves.{has_sending}
use Rattle.wt_meaning.specs.Handshakes.{was_given}
use Rattle.wt_meaning.specs.History.{History, Pair, all_events, contents, events, exists, is_handed_out, is_open, out, stream_count, with_event}
use Rattle.wt_meaning.specs.Meaning.{next}
use Rattle.wt_meaning.specs.Moments.{findings, verdict}
use Rattle.wt_meaning.specs.Rows.{Row, first_row, row}
use Rattle.wt_pair.proofs.Formed.{is_own}
use Rattle.wt_promise.proofs.Accepted.{or-left, or-right}
use Rattle.wt_promise.proofs.Begun.{BegunFor, begun-for}
use Rattle.wt_promise.proofs.Facts.{classified_rightly}
use Rattle.wt_promise.proofs.Few.{given-queued}
use Rattle.wt_promise.proofs.Flow.{clash}
use Rattle.wt_promise.proofs.Grows.{is_peers}
use Rattle.wt_promise.proofs.HandedOut.{admitted-classified, opened-local}
use Rattle.wt_promise.proofs.Heads.{accepted-before, head-other}
use Rattle.wt_promise.proofs.InOrder.{sends-in-order}
use Rattle.wt_promise.proofs.VerdictKinds.{is_request, uni-no-request}
use Rattle.wt_promise.proofs.Verdicts.{ARequest, ByAccept, ByOpening, HandedBy, IsRequest, handed-by, queued-verdict, queues-has}
use Rattle.wt_promise.specs.Found.{peer_opened}
use Rattle.wt_promise.specs.Promise.{IsHistory, accepted, accepted_by, begun_on}
use Rattle.wt_promise.proofs.OwnForms.{frame_or, head_on}
use Rattle.wt_promise.specs.Owed.{header_on}
use Rattle.wt_proto.specs.Bi.{bi_verdict_of}
use Rattle.wt_proto.specs.Uni.{uni_verdict_of}
use Rattle.wt_proto.specs.declared.verdict.Verdict.{Verdict}
use Rattle.wt_turn.specs.Reports.{end_of}
use Rattle.wt_turn.specs.Streams.{local_uni, one_more_if, peer_bi, peer_count, peer_uni}
use Rattle.wt_turn.specs.Turns.{event_of}
use Rattle.wt_turn.specs.declared.answer.Answer.{Answer}
use Rattle.wt_turn.specs.declared.call.Call.{Call}
use Rattle.wt_turn.specs.declared.reply.Reply.{Reply}
use Rattle.wt_turn.specs.declared.turn.Turn.{Turn}
use Rattle.wt_wire.specs.Ids.{is_bidirectional}
use Rattle.wt_wire.specs.declared.side.Side.{Side}
use Rattle.wt_wire.specs.declared.side.Side.TheVariants.{Client, Server}
use Rattle.wt_turn.specs.declared.call.Call.TheVariants as calls
use Rattle.wt_turn.specs.declared.reply.Reply.TheVariants as replies
use Rattle.wt_turn.specs.declared.turn.Turn.TheVariants as turns

-- ---- what the peer opened is there

peers-all : (side : Side) (h : History) (kind : ℕ) → peer_count side (events h) kind ≤ peer_count side (all_events h) kind
peers-all side [] kind = omega arith
peers-all side (p ∷ h) kind = by (is_open h) p.turn (peers-all side h kind)
  where
    more : (c : Bool) {m n : ℕ} → m ≤ n → one_more_if c m ≤ one_more_if c n
    more true l = omega (arith, l)
    more false l = l

    late : (c : Bool) {m n : ℕ} → m ≤ n → m ≤ one_more_if c n
    late true l = omega (arith, l)
    late false l = l

    by : (b : Bool) (turn : Turn) → peer_count side (events h) kind ≤ peer_count side (all_events h) kind
        → peer_count side (if b then with_event (event_of turn) (events h) else events h) kind ≤ peer_count side (all_events (record { turn = turn; answer = p.answer } ∷ h)) kind
    by true turns.PeerUni l = more (peer_uni side == kind) l
    by true turns.PeerBi l = more (peer_bi side == kind) l
    by true (turns.Bytes id piece) l = l
    by true (turns.Call call) l = l
    by true turn l = l
    by false turns.PeerUni l = late (peer_uni side == kind) l
    by false turns.PeerBi l = late (peer_bi side == kind) l
    by false turn l = l

pub opened-there : (side : Side) (h : History) (k : ℕ) → peer_opened side h k ≡ true → exists side h k ≡ true
opened-there side h k e =
    let l = ltb-true (k / 4) (peer_count side (events h) (k % 4)) e in let m = peers-all side h (k % 4) in lt-ltb (k / 4) (stream_count side h (k % 4)) (omega (arith, l, m))

classified-there : (side : Side) (h : History) → IsHistory side h → (k : ℕ) → is_classified (findings side h) k ≡ true → exists side h k ≡ true
classified-there side h i k e = by (verdict_of (findings side h) k) refl e
  where
    by : (o : Option Verdict) → verdict_of (findings side h) k ≡ o → is_some o ≡ true → exists side h k ≡ true
    by None q x = absurd (cc x)
    by (Some v) q x = opened-there side h k (classified_rightly side h i k v q).opened

-- ---- a stream of a request

pub given-verdict : (side : Side) (h : History) → IsHistory side h → (k : ℕ) → was_given h k ≡ true → (v : Verdict) × (verdict_of (findings side h) k ≡ Some v) × IsRequest v
given-verdict side h i k e = queued-verdict side h k (queues-has k (findings side h) (given-queued side h i k e))

pub given-there : (side : Side) (h : History) → IsHistory side h → (k : ℕ) → was_given h k ≡ true → (exists side h k ≡ true) × (is_bidirectional k ≡ true)
given-there side h i k e = let g = given-verdict side h i k e in let s = classified_rightly side h i k g.0 g.1 in (opened-there side h k s.opened, by (is_bidirectional k) refl g.0 g.2 s.shown)
  where
    by : (b : Bool) → is_bidirectional k ≡ b → (v : Verdict) → IsRequest v → verdict h k ≡ v → b ≡ true
    by true q v r s = refl
    by false q v (ARequest headers offset) s =
        absurd (clash (is_request (uni_verdict_of (contents h k) (end_of (events h) k)))
        (ap is_request (sym (ap (λ (b : Bool). if b then bi_verdict_of (contents h k) (end_of (events h) k) else uni_verdict_of (contents h k) (end_of (events h) k)) q) ∙ s))
        (uni-no-request (contents h k) (end_of (events h) k)))

-- ---- what is written goes on a sending half

accepts-none : (side : Side) (h : History) → IsHistory side h → (k : ℕ) → (k % 4 == peer_uni side) ≡ true → accepted h k ≡ []
accepts-none side [] i k e = refl
accepts-none side (p ∷ h) i k e = ap (λ (l : List ℕ). l ++ accepted_by k p.turn p.answer.reply) (accepts-none side h i.2 k e) ∙ ap (accepted_by k p.turn) (ap (λ (a : Answer). a.reply) i.1) ∙ by p.turn
  where
    -- a stream that has no sending half
    none-sent : (id : ℕ) → (id == k) ≡ true → not (has_sending side h id) ≡ true
    none-sent id q = ap (λ (n : ℕ). not (is_handed_out h n && not (n % 4 == peer_uni side))) (eqb-true id k q) ∙ ap (λ (b : Bool). not (is_handed_out h k && not b)) e ∙ shut (is_handed_out h k)
      where
        shut : (b : Bool) → not (b && false) ≡ true
        shut true = refl
        shut false = refl

    other-write : (id : ℕ) (bytes : List ℕ) (r : Reply) → (id == k) ≡ false → accepted_by k (turns.Call (calls.Write id bytes)) r ≡ []
    other-write id bytes (replies.Written n) q = ap (λ (b : Bool). if b then take n bytes else []) q
    other-write id bytes r q = refl

    other-all : (id : ℕ) (bytes : List ℕ) (r : Reply) → (id == k) ≡ false → accepted_by k (turns.Call (calls.WriteAll id bytes)) r ≡ []
    other-all id bytes (replies.Count n) q = ap (λ (b : Bool). if b then take n bytes else []) q
    other-all id bytes replies.AllWritten q = ap (λ (b : Bool). if b then bytes else []) q
    other-all id bytes r q = refl

    no-stream : (rows : List Row) (b : Bool) → b ≡ true → (first_row (row b replies.NoStream [] ∷ rows)).reply ≡ replies.NoStream
    no-stream rows b q = ap (λ (c : Bool). (first_row (row c replies.NoStream [] ∷ rows)).reply) q

    write : (id : ℕ) (bytes : List ℕ) (b : Bool) → (id == k) ≡ b → accepted_by k (turns.Call (calls.Write id bytes)) (next side h (turns.Call (calls.Write id bytes))).reply ≡ []
    write id bytes true q = ap (accepted_by k (turns.Call (calls.Write id bytes))) (no-stream _ (not (has_sending side h id)) (none-sent id q))
    write id bytes false q = other-write id bytes (next side h (turns.Call (calls.Write id bytes))).reply q

    write-all : (id : ℕ) (bytes : List ℕ) (b : Bool) → (id == k) ≡ b → accepted_by k (turns.Call (calls.WriteAll id bytes)) (next side h (turns.Call (calls.WriteAll id bytes))).reply ≡ []
    write-all id bytes true q = ap (accepted_by k (turns.Call (calls.WriteAll id bytes))) (no-stream _ (not (has_sending side h id)) (none-sent id q))
    write-all id bytes false q = other-all id bytes (next side h (turns.Call (calls.WriteAll id bytes))).reply q

    by : (turn : Turn) → accepted_by k turn (next side h turn).reply ≡ []
    by (turns.Call (calls.Write id bytes)) = write id bytes (id == k) refl
    by (turns.Call (calls.WriteAll id bytes)) = write-all id bytes (id == k) refl
    by turn = refl

-- ---- all of it

-- a prefix of nothing
take-none : (n : ℕ) → ◌≡◌ {A = List ℕ} (take n []) []
take-none zero = refl
take-none (suc n) = refl

-- neither this end's nor the peer's
no-kind : (side : Side) (k : ℕ) → is_own side k ≡ false → is_peers side k ≡ false → ⊥
no-kind Client k n m = by (k % 4) (omega arith) (or-left (2 == k % 4) (0 == k % 4) n) (or-right (2 == k % 4) (0 == k % 4) n) (or-left (k % 4 == 3) (k % 4 == 1) m) (or-right (k % 4 == 3) (k % 4 == 1) m)
  where
    by : (j : ℕ) → j < 4 → (2 == j) ≡ false → (0 == j) ≡ false → (j == 3) ≡ false → (j == 1) ≡ false → ⊥
    by j l a b c d = omega (arith, l, eqb-false 2 j a, eqb-false 0 j b, eqb-false j 3 c, eqb-false j 1 d)
no-kind Server k n m = by (k % 4) (omega arith) (or-left (3 == k % 4) (1 == k % 4) n) (or-right (3 == k % 4) (1 == k % 4) n) (or-left (k % 4 == 2) (k % 4 == 0) m) (or-right (k % 4 == 2) (k % 4 == 0) m)
  where
    by : (j : ℕ) → j < 4 → (3 == j) ≡ false → (1 == j) ≡ false → (j == 2) ≡ false → (j == 0) ≡ false → ⊥
    by j l a b c d = omega (arith, l, eqb-false 3 j a, eqb-false 1 j b, eqb-false j 2 c, eqb-false j 0 d)

-- a bidirectional stream isn't the peer's unidirectional one
bi-not-uni : (side : Side) (k : ℕ) → is_bidirectional k ≡ true → (k % 4 == peer_uni side) ≡ false
bi-not-uni side k b = by (k % 4 == peer_uni side) refl
  where
    at : (x : Side) → k % 4 ≡ peer_uni x → ⊥
    at Client e = let y = eqb-true (k / 2 % 2) 0 b in omega (arith, e, y)
    at Server e = let y = eqb-true (k / 2 % 2) 0 b in omega (arith, e, y)

    by : (c : Bool) → (k % 4 == peer_uni side) ≡ c → c ≡ false
    by true q = absurd (at side (eqb-true (k % 4) (peer_uni side) q))
    by false q = refl

pub sends-there : (side : Side) (h : History) → IsHistory side h → (k : ℕ) → is_own side k ≡ false → (out h k ≡ [] → ⊥) → (exists side h k ≡ true) × ((k % 4 == peer_uni side) ≡ false)
sends-there side h i k n f = by (begun_on h k) refl (first_of (λ (p : Pair). opened_by k p.turn p.answer.reply) h) refl
  where
    Good : Type 0
    Good = (exists side h k ≡ true) × ((k % 4 == peer_uni side) ≡ false)

    begun : (x : Side) → x ≡ side → (c : Call) → BegunFor x h k → Good
    begun Client e c b = absurd (clash (is_own side k) (ap (λ (y : Side). is_own y k) (sym e) ∙ ap (is_own Client) b) n)
    begun Server e c b = let g = given-there side h i k (subst (λ (y : Side). was_given h k ≡ true) e b) in (g.0, bi-not-uni side k g.1)

    control : (k == local_uni side) ≡ false
    control = of (k == local_uni side) refl
      where
        of : (b : Bool) → (k == local_uni side) ≡ b → b ≡ false
        of false q = refl
        of true q = absurd (clash (is_own side k) (ap (is_own side) (eqb-true k (local_uni side) q) ∙ uni side) n)
          where
            uni : (x : Side) → is_own x (local_uni x) ≡ true
            uni Client = refl
            uni Server = refl

    handed : accepted h k ≡ [] → head_on side h k ≡ [] → ⊥
    handed a z = f (sym (sends-in-order side h i k).front ∙ ap (λ (l : List ℕ). take (length (out h k)) (l ++ accepted h k)) z ∙ ap (take (length (out h k))) a ∙ take-none (length (out h k)))

    given : HandedBy side h k → exists side h k ≡ true
    given (ByAccept s a) = classified-there side h i k (admitted-classified s k (findings side h) a)
    given (ByOpening e) = absurd (no-kind side k n (opened-local side h i k e))

    written : head_on side h k ≡ [] → Good
    written z = (of (is_handed_out h k) refl, uni (k % 4 == peer_uni side) refl)
      where
        of : (b : Bool) → is_handed_out h k ≡ b → exists side h k ≡ true
        of true q = given (handed-by side h i k q)
        of false q = absurd (handed (accepted-before side h i k q) z)

        uni : (b : Bool) → (k % 4 == peer_uni side) ≡ b → b ≡ false
        uni false q = refl
        uni true q = absurd (handed (accepts-none side h i k q) z)

    by : (o : Option Call) → begun_on h k ≡ o → (w : Option (Option ℕ)) → first_of (λ (p : Pair). opened_by k p.turn p.answer.reply) h ≡ w → Good
    by (Some c) q w r = begun side refl c (begun-for side h i k c q)
    by None q (Some name) r = absurd (no-kind side k n (opened-local side h i k (ap is_some r)))
    by None q None r = written (head-other side h k control ∙ ap (λ (o : Option Call). frame_or o (header_on h k (first_of (λ (p : Pair). opened_by k p.turn p.answer.reply) h))) q ∙ ap (header_on h k) r)
