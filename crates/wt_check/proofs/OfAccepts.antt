-- Rule 3 holds of a lawful list: a stream that a reply accepts is the peer's, new, and one of the session that the call names.
use Rattle.std.specs.Prelude.{[], ◌&&◌, ◌++◌, ◌/◌, ◌%◌, ◌||◌, ◌∷◌, ◌≡◌, Bool, List, Option, Some, false, if◌then◌else◌, nat_lt, not, true, ℕ}
use Rattle.std.proofs.Common.{◌∙◌, ap, refl, sym}
use Rattle.std.proofs.lemmas.Bool.{eq-eqb}
use Rattle.wt_check.proofs.Alike.{Alike, All, Behind, More, SamePairs, alike-after, same}
use Rattle.wt_check.proofs.Along.{both, throughout}
use Rattle.wt_check.proofs.OfDatagrams.{first-same, named-names, names-by}
use Rattle.wt_check.specs.Accepts.{accepted_in, accepts, is_of, may_accept}
use Rattle.wt_check.specs.Records.{field_of, named_of, names, recorded}
use Rattle.wt_check.specs.Verdict.{holds}
use Rattle.wt_meaning.specs.History.{History, Pair, contents, events, hands_out, is_handed_out}
use Rattle.wt_meaning.specs.Lawful.{is_lawful}
use Rattle.wt_meaning.specs.Meaning.{answer_to, next, step, with_pair}
use Rattle.wt_meaning.specs.Moments.{verdict}
use Rattle.wt_meaning.specs.Windows.{first_session, is_number}
use Rattle.wt_promise.proofs.Given.{bi_given, uni_given}
use Rattle.wt_promise.proofs.Shown.{opened-more, shown-stays, verdict-by}
use Rattle.wt_promise.specs.Found.{peer_opened}
use Rattle.wt_promise.specs.Promise.{AllLawful, IsHistory}
use Rattle.wt_promise.specs.Sides.{StreamGiven}
use Rattle.wt_proto.proofs.BiLaws.{bi_verdict_stays}
use Rattle.wt_proto.proofs.UniLaws.{uni_verdict_stays}
use Rattle.wt_proto.specs.Bi.{bi_verdict_of}
use Rattle.wt_proto.specs.Uni.{is_final, uni_verdict_of}
use Rattle.wt_proto.specs.declared.verdict.Verdict.{Verdict}
use Rattle.wt_turn.specs.Reports.{end_of}
use Rattle.wt_turn.specs.Streams.{peer_bi, peer_count, peer_uni}
use Rattle.wt_turn.specs.Log.{Event}
use Rattle.wt_turn.specs.declared.call.Call.{Call}
use Rattle.wt_turn.specs.declared.reply.Reply.{Reply}
use Rattle.wt_turn.specs.declared.turn.Turn.{Turn}
use Rattle.wt_wire.specs.Ids.{is_bidirectional}
use Rattle.wt_wire.specs.declared.side.Side.{Side}
use Rattle.wt_proto.specs.declared.verdict.Verdict.TheVariants as verdicts
use Rattle.wt_turn.specs.declared.call.Call.TheVariants as calls
use Rattle.wt_turn.specs.declared.reply.Reply.TheVariants as replies
use Rattle.wt_turn.specs.declared.turn.Turn.TheVariants as turns
use Rattle.wt_wire.specs.declared.side.StreamEnd.TheVariants as ends

-- ---- what both say alike

pub handed-same : (k : ℕ) (r h : History) → SamePairs r h → is_handed_out r k ≡ is_handed_out h k
handed-same k = same (λ (h : History). is_handed_out h k) (λ id piece sent h. refl) (λ p r h e. ap (λ (b : Bool). hands_out k p.answer.reply || b) e)

-- bytes behind a close in the midst of a piece change no verdict
grown : (k : ℕ) (bytes more : List ℕ) (v : Verdict) → is_final v ≡ true → verdict-by k bytes ends.Running ≡ v → verdict-by k (bytes ++ more) ends.Running ≡ v
grown k bytes more v f = by (is_bidirectional k)
  where
    by : (b : Bool) → (if b then bi_verdict_of bytes ends.Running else uni_verdict_of bytes ends.Running) ≡ v → (if b then bi_verdict_of (bytes ++ more) ends.Running else uni_verdict_of (bytes ++ more) ends.Running) ≡ v
    by true e = bi_verdict_stays bytes more ends.Running (ap is_final e ∙ f) ∙ e
    by false e = uni_verdict_stays bytes more ends.Running (ap is_final e ∙ f) ∙ e

pub verdict-alike : (r h : History) (k : ℕ) (v : Verdict) → Alike r h → is_final v ≡ true → verdict h k ≡ v → verdict r k ≡ v
verdict-alike r h k v a f e = ap (λ (es : List Event). verdict-by k (contents r k) (end_of es k)) a.came ∙ by (contents r k) (a.bytes k)
  where
    by : (bytes : List ℕ) → Behind bytes h k → verdict-by k bytes (end_of (events h) k) ≡ v
    by bytes (All q) = ap (λ (xs : List ℕ). verdict-by k xs (end_of (events h) k)) q ∙ e
    by bytes (More rest q o run) =
        ap (λ (xs : List ℕ). verdict-by k xs (end_of (events h) k)) q ∙ ap (verdict-by k (contents h k ++ rest)) run
        ∙ grown k (contents h k) rest v f (ap (verdict-by k (contents h k)) (sym run) ∙ e)

pub peers-alike : (side : Side) (r h : History) (k : ℕ) → Alike r h → peer_opened side r k ≡ peer_opened side h k
peers-alike side r h k a = ap (λ (es : List Event). nat_lt (k / 4) (peer_count side es (k % 4))) a.came

-- ---- the rule

-- a stream that is given
given : (side : Side) (r h : History) (turn : Turn) (k kind : ℕ) (accept : Option ℕ → Call) → ((name : Option ℕ) → field_of (turns.Call (accept name)) ≡ Some name) → is_lawful side h turn ≡ true
    → StreamGiven side h turn k kind accept → Alike r h → Alike (with_pair r turn (next side h turn)) (step side h turn) → may_accept side r (record { turn = turn; answer = next side h turn }) (Some k) ≡ true
given side r h turn k kind accept field l g a b =
    both (peer_opened side (p ∷ r) k && not (is_handed_out r k)) (is_of (names r turn) (verdict (p ∷ r) k))
    (both (peer_opened side (p ∷ r) k) (not (is_handed_out r k)) (peers-alike side (p ∷ r) (p ∷ h) k b ∙ opened-more side p h k g.opened) (ap (λ (x : Bool). not x) (handed-same k r h a.pairs ∙ g.once)))
    (ap (is_of (names r turn)) shown ∙ ap (is_number g.session) name ∙ eq-eqb g.session g.session refl)
  where
    p : Pair
    p = record { turn = turn; answer = next side h turn }

    shown : verdict (p ∷ r) k ≡ verdicts.WebTransport g.session g.offset
    shown = verdict-alike (p ∷ r) (p ∷ h) k (verdicts.WebTransport g.session g.offset) b refl (shown-stays side p h k (verdicts.WebTransport g.session g.offset) l refl g.shown)

    name : names r turn ≡ Some g.session
    name =
        names-by r h turn (first-same r h a.pairs) ∙ ap (λ (t : Turn). named_of (first_session h) (field_of t)) g.asked ∙ ap (named_of (first_session h)) (field g.name)
        ∙ named-names h g.name g.session g.of_it

by-reply : (side : Side) (r h : History) (turn : Turn) → IsHistory side h → is_lawful side h turn ≡ true → Alike r h → Alike (with_pair r turn (next side h turn)) (step side h turn)
    → (reply : Reply) → (next side h turn).reply ≡ reply → may_accept side r (record { turn = turn; answer = next side h turn }) (accepted_in reply) ≡ true
by-reply side r h turn i l a b (replies.Uni k) e = given side r h turn k (peer_uni side) calls.AcceptUni (λ name. refl) l (uni_given side h turn i k e) a b
by-reply side r h turn i l a b (replies.Bi k) e = given side r h turn k (peer_bi side) calls.AcceptBi (λ name. refl) l (bi_given side h turn i k e) a b
by-reply side r h turn i l a b reply e = refl

accepts-rightly : (side : Side) (r h : History) (turn : Turn) → Alike r h → IsHistory side h → is_lawful side h turn ≡ true → accepts side r (record { turn = turn; answer = answer_to side h turn }) ≡ true
accepts-rightly side r h (turns.Bytes id piece) a i l = refl
accepts-rightly side r h turn a i l = by-reply side r h turn i l a (alike-after side turn r h l a) (next side h turn).reply refl

pub of_accepts : (side : Side) (all : List Turn) → AllLawful side [] all → holds accepts (recorded side all) ≡ true
of_accepts side = throughout side accepts (accepts-rightly side)
