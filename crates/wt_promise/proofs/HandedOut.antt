-- Only streams of the peer are classified, and a stream that this end opens isn't the peer's.
use Rattle.std.specs.Prelude.{[], ◌*◌, ◌++◌, ◌+◌, ◌==◌, ◌∷◌, ◌≡◌, Bool, List, None, Option, Some, false, if◌then◌else◌, is_some, true, ℕ}
use Rattle.std.specs.List.{list_any}
use Rattle.std.specs.Option.{option_or}
use Rattle.std.proofs.Common.{◌∙◌, ap, refl, sym}
use Rattle.std.proofs.Math.Nat.{mul-add-mod_self_left}
use Rattle.std.proofs.lemmas.Bool.{eqb-true}
use Rattle.wt_meaning.specs.Calls.{being_opened, opened_by, opening_ends, opening_for, opening_rows, stream_header}
use Rattle.wt_meaning.specs.Findings.{Classified, Finding, first_of, is_classified, verdict_in, verdict_of}
use Rattle.wt_meaning.specs.Handshakes.{head_left, is_refused, lacks_credit, send}
use Rattle.wt_meaning.specs.History.{History, Pair, hands_out, stream_count}
use Rattle.wt_meaning.specs.Meaning.{next}
use Rattle.wt_meaning.specs.Moments.{findings, stream_fault}
use Rattle.wt_meaning.specs.Rows.{first_row}
use Rattle.wt_meaning.specs.Sends.{admits}
use Rattle.wt_meaning.specs.Windows.{named}
use Rattle.wt_promise.proofs.Fresh.{Bi, OpenTurn, Uni, open-turn}
use Rattle.wt_promise.proofs.Grows.{AClassified, ADatagram, AClosed, ADequeued, AFault, ASettings, Adds, Nothing, findings-add, findings-keep, first_of-append, first_of-stays, is_peers, news, of-stream-fault}
use Rattle.wt_promise.proofs.Opened.{opens-for}
use Rattle.wt_promise.proofs.Tables.{by-row, by-session, no-row}
use Rattle.wt_promise.specs.Promise.{IsHistory}
use Rattle.wt_proto.specs.declared.verdict.Verdict.{Verdict}
use Rattle.wt_turn.specs.Streams.{local_bi, local_uni}
use Rattle.wt_turn.specs.declared.answer.Answer.{Answer}
use Rattle.wt_turn.specs.declared.turn.Turn.{Turn}
use Rattle.wt_wire.specs.Ids.{is_bidirectional}
use Rattle.wt_wire.specs.declared.side.Side.{Side}
use Rattle.wt_wire.specs.declared.side.Side.TheVariants.{Client, Server}
use Rattle.wt_proto.specs.declared.verdict.Verdict.TheVariants as verdicts
use Rattle.wt_turn.specs.declared.reply.Reply.TheVariants as replies

-- ---- only streams of the peer are classified

abbrev OnlyPeers : Side → ℕ → List Finding → Type 0
OnlyPeers side k found = is_classified found k ≡ true → is_peers side k ≡ true

-- what adds no verdict classifies nothing more
same-verdict : (found new : List Finding) (k : ℕ) → first_of (verdict_in k) new ≡ None → verdict_of (found ++ new) k ≡ verdict_of found k
same-verdict found new k e = first_of-append (verdict_in k) found new ∙ ap (option_or (verdict_of found k)) e ∙ or-none (verdict_of found k)
  where
    or-none : (o : Option Verdict) → option_or o None ≡ o
    or-none None = refl
    or-none (Some v) = refl

fault-no-verdict : (k : ℕ) (found : List Finding) (v : Verdict) → first_of (verdict_in k) (stream_fault found v) ≡ None
fault-no-verdict k = of-stream-fault (λ (fs : List Finding). first_of (verdict_in k) fs ≡ None) refl (λ code. refl)

only-peers-step : (side : Side) (h : History) (k : ℕ) (found new : List Finding) → Adds side h found new → OnlyPeers side k found → OnlyPeers side k (found ++ new)
only-peers-step side h k found [] Nothing g e = g (sym (ap is_some (same-verdict found [] k refl)) ∙ e)
only-peers-step side h k found new (ADequeued j p) g e = g (sym (ap is_some (same-verdict found new k refl)) ∙ e)
only-peers-step side h k found new (ADatagram n s payload c) g e = g (sym (ap is_some (same-verdict found new k refl)) ∙ e)
only-peers-step side h k found new (AClosed s code reason b l) g e = g (sym (ap is_some (same-verdict found new k refl)) ∙ e)
only-peers-step side h k found new (ASettings c) g e = g (sym (ap is_some (same-verdict found new k refl)) ∙ e)
only-peers-step side h k found new (AFault code) g e = g (sym (ap is_some (same-verdict found new k refl)) ∙ e)
only-peers-step side h k found new (AClassified j v more p d c w m) g e = by (j == k) refl
  where
    by : (b : Bool) → (j == k) ≡ b → is_peers side k ≡ true
    by true q = ap (is_peers side) (sym (eqb-true j k q)) ∙ p
    by false q = g (sym (ap is_some (same-verdict found new k (rw (q, m) (fault-no-verdict k found v)))) ∙ e)

pub only-peers : (side : Side) (h : History) (k : ℕ) → is_classified (findings side h) k ≡ true → is_peers side k ≡ true
unfolding findings
only-peers side [] k e = absurd (cc e)
only-peers side (p ∷ h) k e = findings-keep side p h (OnlyPeers side k) (λ found new a n g. only-peers-step side (p ∷ h) k found new a g) (only-peers side h k) e

-- ---- a verdict stays

pub verdict-stays : (side : Side) (p : Pair) (h : History) (k : ℕ) (v : Verdict) → verdict_of (findings side h) k ≡ Some v → verdict_of (findings side (p ∷ h)) k ≡ Some v
verdict-stays side p h k v e = ap (λ (found : List Finding). verdict_of found k) (findings-add side p h) ∙ first_of-stays (verdict_in k) (findings side h) (news side p h) v e

-- an admitted stream is classified
pub admitted-classified : (s k : ℕ) (found : List Finding) → list_any (admits s k) found ≡ true → is_classified found k ≡ true
admitted-classified s k [] e = absurd (cc e)
admitted-classified s k (Classified id (verdicts.WebTransport t offset) true ∷ found) e = by (id == k) refl (admitted-classified s k found)
  where
    by : (b : Bool) → (id == k) ≡ b → (list_any (admits s k) found ≡ true → is_classified found k ≡ true) → is_classified (Classified id (verdicts.WebTransport t offset) true ∷ found) k ≡ true
    by true i again = rw i refl
    by false i again = rw i (let r = rw i at e in again r)
admitted-classified s k (x ∷ found) e = by (verdict_in k x) (admitted-classified s k found e)
  where
    by : (o : Option Verdict) → is_classified found k ≡ true → is_some (option_or o (verdict_of found k)) ≡ true
    by None i = i
    by (Some v) i = refl

-- ---- a stream that this end opens isn't the peer's

apart : (side : Side) (n : ℕ) → (is_peers side (4 * n + local_uni side) ≡ false) × (is_peers side (4 * n + local_bi side) ≡ false)
apart Client n = (rw (mul-add-mod_self_left 4 n 2) refl, rw (mul-add-mod_self_left 4 n 0) refl)
apart Server n = (rw (mul-add-mod_self_left 4 n 3) refl, rw (mul-add-mod_self_left 4 n 1) refl)

pub opened-local : (side : Side) (h : History) → IsHistory side h → (k : ℕ) → is_some (first_of (λ (p : Pair). opened_by k p.turn p.answer.reply) h) ≡ true → is_peers side k ≡ false
opened-local side [] i k e = absurd (cc e)
opened-local side (p ∷ h) i k e = by (opened_by k p.turn p.answer.reply) refl e (opened-local side h i.2 k)
  where
    here : (name : Option ℕ) (turn : Turn) → OpenTurn k name turn (next side h turn).reply → is_peers side k ≡ false
    here name turn (Uni id e t r) =
        let o = opens-for side h name (local_uni side) id (ap (λ (x : Turn). (next side h x).reply) (sym t) ∙ r) in ap (is_peers side) (sym (o.is_next ∙ e)) ∙ (apart side (stream_count side h (local_uni side))).0
    here name turn (Bi id e t r) =
        let o = opens-for side h name (local_bi side) id (ap (λ (x : Turn). (next side h x).reply) (sym t) ∙ r) in ap (is_peers side) (sym (o.is_next ∙ e)) ∙ (apart side (stream_count side h (local_bi side))).1

    by : (o : Option (Option ℕ)) → opened_by k p.turn p.answer.reply ≡ o → is_some (option_or o (first_of (λ (q : Pair). opened_by k q.turn q.answer.reply) h)) ≡ true
        → (is_some (first_of (λ (q : Pair). opened_by k q.turn q.answer.reply) h) ≡ true → is_peers side k ≡ false) → is_peers side k ≡ false
    by None q r again = again r
    by (Some name) q r again = here name p.turn (open-turn k name p.turn (next side h p.turn).reply (ap (λ (a : Answer). opened_by k p.turn a.reply) (sym i.1) ∙ q))

-- ---- handed out

-- what a poll of an opening gives is the stream that it names, which is being opened
abbrev pub GivesOpened : Side → History → ℕ → ℕ → Answer → Type 0
GivesOpened side h k id a = hands_out k a.reply ≡ true → ((id == k) ≡ true) × (is_some (being_opened h id) ≡ true)

pub gives-opened : (side : Side) (h : History) (k id : ℕ) (x : Option (Option ℕ)) → being_opened h id ≡ x → GivesOpened side h k id (first_row (opening_for side h id x))
gives-opened side h k id None q = λ e. absurd (cc e)
gives-opened side h k id (Some name) q =
    (by-session P (named h name) (λ (s : ℕ). opening_rows side h id s (left s)) (λ e. absurd (cc e))
    (λ s r. by-row P _ _ [] _ (λ i e. absurd (cc e)) (λ i. by-row P (is_refused h id (left s)) _ [] _ (λ j e. absurd (cc e))
    (λ j. by-row P (lacks_credit h id (left s)) replies.Pending (send h id (left s)) _ (λ m e. absurd (cc e)) (λ m. by-row P true _ _ [] (λ t. ready (is_bidirectional id)) (λ t. no-row P (λ e. absurd (cc t)))))))).first
  where
    P : Answer → Type 0
    P = GivesOpened side h k id

    left : ℕ → List ℕ
    left s = head_left h id (stream_header id s)

    ready : (b : Bool) → hands_out k (if b then replies.BiReady id else replies.SendReady id) ≡ true → ((id == k) ≡ true) × (is_some (being_opened h id) ≡ true)
    ready true e = (e, ap is_some q)
    ready false e = (e, ap is_some q)

-- what is being opened was begun
pub being-begun : (h : History) (k : ℕ) → is_some (being_opened h k) ≡ true → is_some (first_of (λ (p : Pair). opened_by k p.turn p.answer.reply) h) ≡ true
being-begun h k e = by (list_any (λ (p : Pair). opening_ends k p.turn p.answer.reply) h) e
  where
    by : (b : Bool) → is_some (if b then None else first_of (λ (p : Pair). opened_by k p.turn p.answer.reply) h) ≡ true → is_some (first_of (λ (p : Pair). opened_by k p.turn p.answer.reply) h) ≡ true
    by true q = absurd (cc q)
    by false q = q
