-- The head of a stream: it stays, or was none; nothing is accepted before the stream is handed out.
use Rattle.std.specs.Prelude.{[], ◌%◌, ◌++◌, ◌/◌, ◌<◌, ◌==◌, ◌∷◌, ◌≡◌, Bool, List, None, Option, Some, false, if◌then◌else◌, is_some, true, ℕ}
use Rattle.std.specs.List.{list_any}
use Rattle.std.specs.Option.{option_or}
use Rattle.std.proofs.Common.{◌∙◌, ap, arith, refl, sym}
use Rattle.std.proofs.lemmas.Bool.{eq-eqb, ltb-true}
use Rattle.wt_meaning.specs.Calls.{opened_by}
use Rattle.wt_meaning.specs.Findings.{first_of}
use Rattle.wt_meaning.specs.History.{History, Pair, exists, hands_out, is_handed_out, next_id, stream_count}
use Rattle.wt_meaning.specs.Meaning.{next, own_answer}
use Rattle.wt_meaning.specs.Moments.{findings}
use Rattle.wt_meaning.specs.Sends.{admits}
use Rattle.wt_promise.proofs.OwnForms.{frame_or, head_on}
use Rattle.wt_promise.proofs.Accepted.{or-right}
use Rattle.wt_promise.proofs.Begun.{BegunFor, begun-for, begun-stays}
use Rattle.wt_promise.proofs.ControlKept.{some-name}
use Rattle.wt_promise.proofs.Flow.{clash}
use Rattle.wt_promise.proofs.Fresh.{Bi, OpenTurn, Uni, nth-of, open-turn, was-opened}
use Rattle.wt_promise.proofs.Grows.{is_peers}
use Rattle.wt_promise.proofs.HandedOut.{opened-local}
use Rattle.wt_promise.proofs.Opened.{OpensFor, opens-for}
use Rattle.wt_promise.proofs.Sent.{Given, Opening, Polled, Quiet, Sent, Wrote, sent-own}
use Rattle.wt_promise.proofs.Stays.{named-stays}
use Rattle.wt_promise.proofs.Verdicts.{ByAccept, ByOpening, HandedBy, admitted-peers, given-kept, given-not-admitted, given-peers, handed-by}
use Rattle.wt_promise.specs.Owed.{control_bytes, header_for, header_on}
use Rattle.wt_promise.specs.Promise.{IsHistory, accepted, accepted_by, begun_on}
use Rattle.wt_turn.specs.Streams.{local_bi, local_uni}
use Rattle.wt_turn.specs.declared.answer.Answer.{Answer}
use Rattle.wt_turn.specs.declared.call.Call.{Call}
use Rattle.wt_turn.specs.declared.turn.Turn.{Turn}
use Rattle.wt_wire.specs.declared.side.Side.{Side}
use Rattle.wt_wire.specs.declared.side.Side.TheVariants.{Client, Server}

-- ---- what was accepted

pub accepted-before : (side : Side) (h : History) → IsHistory side h → (k : ℕ) → is_handed_out h k ≡ false → accepted h k ≡ []
accepted-before side [] i k e = refl
accepted-before side (p ∷ h) i k e = ap (λ (xs : List ℕ). xs ++ accepted_by k p.turn p.answer.reply) (accepted-before side h i.2 k before) ∙ ap (λ (a : Answer). accepted_by k p.turn a.reply) i.1 ∙ none (sent-own side h k p.turn)
  where
    before : is_handed_out h k ≡ false
    before = or-right (hands_out k p.answer.reply) (is_handed_out h k) e

    none : Sent side h k p.turn (own_answer side h p.turn) → accepted_by k p.turn (own_answer side h p.turn).reply ≡ []
    none (Quiet b n q) = n
    none (Given b n w) = n
    none (Wrote g b w) = absurd (clash (is_handed_out h k) g before)
    none (Polled c q g s b n x) = n
    none (Opening name s o m b n r t) = n

-- ---- a client's stream 0 isn't handed out

zero-kept : (h : History) → IsHistory Client h → is_handed_out h 0 ≡ false
zero-kept h i = by (is_handed_out h 0) refl
  where
    never : HandedBy Client h 0 → ⊥
    never (ByAccept s e) = let r = admitted-peers Client h s 0 e in cc r
    never (ByOpening e) = let s = some-name h 0 e in let w = was-opened Client h i 0 s.0 s.1 in clash (0 == 0) refl (w.not_request refl)

    by : (b : Bool) → is_handed_out h 0 ≡ b → b ≡ false
    by false q = refl
    by true q = absurd (never (handed-by Client h i 0 q))

-- the stream of a connect or response isn't handed out
pub begun-kept : (side : Side) (h : History) → IsHistory side h → (k : ℕ) → BegunFor side h k → is_handed_out h k ≡ false
begun-kept Client h i k b = ap (is_handed_out h) b ∙ zero-kept h i
begun-kept Server h i k b = given-kept Server h i k b

-- nor is it opened by a session
pub begun-not-opened : (side : Side) (h : History) → IsHistory side h → (k : ℕ) → BegunFor side h k → (name : Option ℕ) → first_of (λ (p : Pair). opened_by k p.turn p.answer.reply) h ≡ Some name → ⊥
begun-not-opened Client h i k b name e = clash (k == 0) (eq-eqb k 0 b) ((was-opened Client h i k name e).not_request refl)
begun-not-opened Server h i k b name e = clash (is_peers Server k) (given-peers Server h i k b) (opened-local Server h i k (ap is_some e))

-- nor admitted
pub begun-not-admitted : (side : Side) (h : History) → IsHistory side h → (k s : ℕ) → BegunFor side h k → list_any (admits s k) (findings side h) ≡ true → ⊥
begun-not-admitted Client h i k s b e = let r = ap (is_peers Client) (sym b) ∙ admitted-peers Client h s k e in cc r
begun-not-admitted Server h i k s b e = clash (list_any (admits s k) (findings Server h)) e (given-not-admitted Server h i s k b)

-- ---- heads

pub head-other : (side : Side) (h : History) (k : ℕ) → (k == local_uni side) ≡ false → head_on side h k ≡ frame_or (begun_on h k) (header_on h k (first_of (λ (p : Pair). opened_by k p.turn p.answer.reply) h))
head-other side h k n = ap (λ (b : Bool). if b then control_bytes else frame_or (begun_on h k) (header_on h k (first_of (λ (p : Pair). opened_by k p.turn p.answer.reply) h))) n

-- the head stays, or the stream had none and wasn't handed out
pub data HeadStep (side : Side) (p : Pair) (h : History) (k : ℕ) : Type 0 where
  Same : head_on side (p ∷ h) k ≡ head_on side h k → HeadStep side p h k
  New : head_on side h k ≡ [] → is_handed_out h k ≡ false → HeadStep side p h k

-- a stream that is opened now wasn't there
not-there : (side : Side) (h : History) (name : Option ℕ) (kind id k : ℕ) (a : Answer) → kind < 4 → OpensFor side h name kind id a → id ≡ k → exists side h k ≡ true → ⊥
not-there side h name kind id k a l o e x =
    let n = nth-of (stream_count side h kind) kind l in
    let same : next_id side h kind ≡ k = o.is_next ∙ e in
    let y : exists side h (next_id side h kind) ≡ true = ap (exists side h) same ∙ x in
    let z = ltb-true (next_id side h kind / 4) (stream_count side h (next_id side h kind % 4)) y in
    let w : stream_count side h (next_id side h kind % 4) ≡ stream_count side h kind = ap (stream_count side h) n.1 in
    absurd (omega (arith, z, w, n.0))

kinds : (side : Side) → (local_uni side < 4) × (local_bi side < 4)
kinds Client = (omega arith, omega arith)
kinds Server = (omega arith, omega arith)

pub opened-once : (side : Side) (p : Pair) (h : History) → IsHistory side (p ∷ h) → (k : ℕ) → exists side h k ≡ true → opened_by k p.turn p.answer.reply ≡ None
opened-once side p h i k x = by (opened_by k p.turn p.answer.reply) refl
  where
    never : (turn : Turn) (name : Option ℕ) → OpenTurn k name turn (next side h turn).reply → ⊥
    never turn name (Uni id q t r) = not-there side h name (local_uni side) id k _ (kinds side).0 (opens-for side h name (local_uni side) id (ap (λ (y : Turn). (next side h y).reply) (sym t) ∙ r)) q x
    never turn name (Bi id q t r) = not-there side h name (local_bi side) id k _ (kinds side).1 (opens-for side h name (local_bi side) id (ap (λ (y : Turn). (next side h y).reply) (sym t) ∙ r)) q x

    by : (o : Option (Option ℕ)) → opened_by k p.turn p.answer.reply ≡ o → o ≡ None
    by None q = refl
    by (Some name) q = absurd (never p.turn name (open-turn k name p.turn (next side h p.turn).reply (ap (λ (a : Answer). opened_by k p.turn a.reply) (sym i.1) ∙ q)))

pub head-step : (side : Side) (p : Pair) (h : History) → IsHistory side (p ∷ h) → (k : ℕ) → (k == local_uni side) ≡ false → HeadStep side p h k
head-step side p h i k n = by (begun_on h k) refl
  where
    opened : History → Option (Option ℕ)
    opened x = first_of (λ (q : Pair). opened_by k q.turn q.answer.reply) x

    -- nothing begun, before or now
    header : begun_on h k ≡ None → begun_on (p ∷ h) k ≡ None → HeadStep side p h k
    header a b = of (opened h) refl
      where
        before : (o : Option (Option ℕ)) → opened h ≡ o → head_on side h k ≡ header_on h k o
        before o q = head-other side h k n ∙ ap (λ (x : Option Call). frame_or x (header_on h k (opened h))) a ∙ ap (header_on h k) q

        after : (o : Option (Option ℕ)) → opened (p ∷ h) ≡ o → head_on side (p ∷ h) k ≡ header_on (p ∷ h) k o
        after o q = head-other side (p ∷ h) k n ∙ ap (λ (x : Option Call). frame_or x (header_on (p ∷ h) k (opened (p ∷ h)))) b ∙ ap (header_on (p ∷ h) k) q

        kept : opened h ≡ None → is_some (opened (p ∷ h)) ≡ true → is_handed_out h k ≡ false
        kept q r = of-bool (is_handed_out h k) refl
          where
            never : HandedBy side h k → ⊥
            never (ByAccept s e) = clash (is_peers side k) (admitted-peers side h s k e) (opened-local side (p ∷ h) i k r)
            never (ByOpening e) = let t = ap is_some q in clash (is_some (opened h)) e t

            of-bool : (x : Bool) → is_handed_out h k ≡ x → x ≡ false
            of-bool false y = refl
            of-bool true y = absurd (never (handed-by side h i.2 k y))

        new : (o : Option (Option ℕ)) → opened h ≡ None → opened_by k p.turn p.answer.reply ≡ o → HeadStep side p h k
        new None q r = Same (after None (ap (λ (x : Option (Option ℕ)). option_or x (opened h)) r ∙ q) ∙ sym (before None q))
        new (Some name) q r = New (before None q) (kept q (ap (λ (x : Option (Option ℕ)). is_some (option_or x (opened h))) r))

        of : (o : Option (Option ℕ)) → opened h ≡ o → HeadStep side p h k
        of None q = new (opened_by k p.turn p.answer.reply) q refl
        of (Some name) q =
            let w = was-opened side h i.2 k name q in
            Same (after (Some name) (ap (λ (x : Option (Option ℕ)). option_or x (opened h)) (opened-once side p h i k w.there) ∙ q)
            ∙ ap (header_for k) (named-stays p h name w.session w.of_it ∙ sym w.of_it) ∙ sym (before (Some name) q))

    now : (o : Option Call) → begun_on (p ∷ h) k ≡ o → begun_on h k ≡ None → HeadStep side p h k
    now None q r = header r q
    now (Some c) q r = New (head-other side h k n ∙ ap (λ (x : Option Call). frame_or x (header_on h k (opened h))) r ∙ none (opened h) refl) kept
      where
        mine : BegunFor side (p ∷ h) k
        mine = begun-for side (p ∷ h) i k c q

        none : (o : Option (Option ℕ)) → opened h ≡ o → header_on h k o ≡ []
        none None s = refl
        none (Some name) s = absurd (begun-not-opened side (p ∷ h) i k mine name (ap (λ (x : Option (Option ℕ)). option_or x (opened h)) (opened-once side p h i k (was-opened side h i.2 k name s).there) ∙ s))

        kept : is_handed_out h k ≡ false
        kept = or-right (hands_out k p.answer.reply) (is_handed_out h k) (begun-kept side (p ∷ h) i k mine)

    by : (o : Option Call) → begun_on h k ≡ o → HeadStep side p h k
    by None q = now (begun_on (p ∷ h) k) refl q
    by (Some c) q = Same (head-other side (p ∷ h) k n ∙ ap (λ (x : Option Call). frame_or x (header_on (p ∷ h) k (opened (p ∷ h)))) (begun-stays p h k c q)
        ∙ sym (head-other side h k n ∙ ap (λ (x : Option Call). frame_or x (header_on h k (opened h))) q))
