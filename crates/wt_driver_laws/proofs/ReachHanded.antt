-- Of a history: a stream that the application has, or that is being opened, is one of an established session.
use Rattle.std.proofs.Common.{◌∙◌, ap, refl, sym}
use Rattle.std.proofs.lemmas.Bool.{eq-eqb, eqb-true}
use Rattle.std.specs.List.{list_any}
use Rattle.std.specs.Option.{option_or}
use Rattle.std.specs.Prelude.{[], ◌==◌, ◌∷◌, ◌||◌, ◌≡◌, Bool, None, Option, Some, false, is_some, true, ℕ}
use Rattle.wt_meaning.specs.Calls.{being_opened, opened_by, opening_for}
use Rattle.wt_meaning.specs.Findings.{first_of}
use Rattle.wt_meaning.specs.History.{History, Pair, hands_out, is_handed_out}
use Rattle.wt_meaning.specs.Meaning.{next}
use Rattle.wt_meaning.specs.Moments.{findings}
use Rattle.wt_meaning.specs.Sends.{admits, opens_for}
use Rattle.wt_meaning.specs.Windows.{is_established, named}
use Rattle.wt_promise.proofs.Accepted.{bi-accepted, or-true, uni-accepted}
use Rattle.wt_promise.proofs.ControlKept.{begun-opening, some-name}
use Rattle.wt_promise.proofs.Flow.{clash}
use Rattle.wt_promise.proofs.Fresh.{Bi, OpenTurn, Uni, open-turn, was-opened}
use Rattle.wt_promise.proofs.Grows.{is_peers}
use Rattle.wt_promise.proofs.HandedOut.{being-begun, gives-opened, opened-local}
use Rattle.wt_promise.proofs.Stays.{established-stays}
use Rattle.wt_promise.proofs.Tables.{by-session, fits, fits-own}
use Rattle.wt_promise.proofs.Verdicts.{ByAccept, ByOpening, HandedBy, admitted-later, admitted-peers, handed-by}
use Rattle.wt_promise.proofs.Waiting.{named-established}
use Rattle.wt_promise.specs.Promise.{IsHistory}
use Rattle.wt_sessions_agree.specs.Members.{is_opened_for}
use Rattle.wt_turn.specs.declared.answer.Answer.{Answer}
use Rattle.wt_turn.specs.declared.call.Call.{Call}
use Rattle.wt_turn.specs.declared.reply.Reply.{Reply}
use Rattle.wt_turn.specs.declared.turn.Turn.{Turn}
use Rattle.wt_wire.specs.declared.side.Side.{Side}
use Rattle.wt_turn.specs.declared.call.Call.TheVariants as calls
use Rattle.wt_turn.specs.declared.reply.Reply.TheVariants as replies
use Rattle.wt_turn.specs.declared.turn.Turn.TheVariants as turns

-- the stream is one of this session, which is established
pub record OfEstablished (side : Side) (h : History) (k : ℕ) : Type 0 where
  pub session : ℕ
  pub established : is_established h session ≡ true
  pub of_it : (list_any (admits session k) (findings side h) || is_opened_for h session k) ≡ true

-- ---- a stream that this end opened

-- the call that opens it opens it for the session that it names
opens-by : (full : History) (s k : ℕ) (turn : Turn) (r : Reply) (name : Option ℕ) → opened_by k turn r ≡ Some name → named full name ≡ Some s → opens_for full s k turn r ≡ true
opens-by full s k turn r name e m = by (open-turn k name turn r e)
  where
    by : OpenTurn k name turn r → opens_for full s k turn r ≡ true
    by (Uni id q t p) = rw (t, p, m, eq-eqb id k q, eq-eqb s s refl) refl
    by (Bi id q t p) = rw (t, p, m, eq-eqb id k q, eq-eqb s s refl) refl

opened-for : (full : History) (s k : ℕ) (name : Option ℕ) → named full name ≡ Some s → (h : History) → first_of (λ (p : Pair). opened_by k p.turn p.answer.reply) h ≡ Some name
    → list_any (λ (p : Pair). opens_for full s k p.turn p.answer.reply) h ≡ true
opened-for full s k name m [] e = absurd (cc e)
opened-for full s k name m (p ∷ h) e = by (opened_by k p.turn p.answer.reply) refl e (opened-for full s k name m h)
  where
    by : (o : Option (Option ℕ)) → opened_by k p.turn p.answer.reply ≡ o → option_or o (first_of (λ (q : Pair). opened_by k q.turn q.answer.reply) h) ≡ Some name
        → (first_of (λ (q : Pair). opened_by k q.turn q.answer.reply) h ≡ Some name → list_any (λ (q : Pair). opens_for full s k q.turn q.answer.reply) h ≡ true)
        → (opens_for full s k p.turn p.answer.reply || list_any (λ (q : Pair). opens_for full s k q.turn q.answer.reply) h) ≡ true
    by None q r again = ap (λ (b : Bool). opens_for full s k p.turn p.answer.reply || b) (again r) ∙ or-true (opens_for full s k p.turn p.answer.reply)
    by (Some n) q r again = ap (λ (b : Bool). b || list_any (λ (x : Pair). opens_for full s k x.turn x.answer.reply) h) (opens-by full s k p.turn p.answer.reply name (q ∙ r) m)

pub opened-of : (side : Side) (h : History) → IsHistory side h → (k : ℕ) (name : Option ℕ) → first_of (λ (p : Pair). opened_by k p.turn p.answer.reply) h ≡ Some name → OfEstablished side h k
opened-of side h i k name e = let w = was-opened side h i k name e in record {
  session = w.session;
  established = named-established h name w.session w.of_it;
  of_it = ap (λ (b : Bool). list_any (admits w.session k) (findings side h) || b) (opened-for h w.session k name w.of_it h e) ∙ or-true (list_any (admits w.session k) (findings side h));
}

-- a stream that is being opened is one of its session
pub opening-of : (side : Side) (h : History) → IsHistory side h → (k s : ℕ) (name : Option ℕ) → being_opened h k ≡ Some name → named h name ≡ Some s → is_opened_for h s k ≡ true
opening-of side h i k s name o m = opened-for h s k name m h (begun-opening h k name o)

-- ---- a stream of the peer that was given

-- the session to which it was admitted is established
record Given (side : Side) (h : History) (k : ℕ) : Type 0 where
  session : ℕ
  established : is_established h session ≡ true
  admitted : list_any (admits session k) (findings side h) ≡ true

given-later : (side : Side) (p : Pair) (h : History) (k : ℕ) → Given side h k → Given side (p ∷ h) k
given-later side p h k g = record { session = g.session; established = established-stays p h g.session g.established; admitted = admitted-later side p h g.session k g.admitted }

-- a poll of an opening gives no stream of the peer
poll-local : (side : Side) (h : History) → IsHistory side h → (k id : ℕ) → hands_out k (next side h (turns.Call (calls.PollOpening id))).reply ≡ true → is_peers side k ≡ false
poll-local side h i k id e =
    let g = (by-session P (named h None) (λ (s : ℕ). opening_for side h id (being_opened h id)) (λ x. absurd (cc x)) (λ s x. record { first = gives-opened side h k id (being_opened h id) refl })).first e in
    opened-local side h i k (ap (λ (j : ℕ). is_some (first_of (λ (p : Pair). opened_by j p.turn p.answer.reply) h)) (sym (eqb-true id k g.0)) ∙ being-begun h id g.1)
  where
    P : Answer → Type 0
    P a = hands_out k a.reply ≡ true → ((id == k) ≡ true) × (is_some (being_opened h id) ≡ true)

given-by : (side : Side) (h : History) → IsHistory side h → (k : ℕ) (call : Call) (r : Reply) → (next side h (turns.Call call)).reply ≡ r → fits call r ≡ true → is_peers side k ≡ true → hands_out k r ≡ true → Given side h k
given-by side h i k (calls.AcceptUni name) (replies.Uni id) q f p e =
    let a = uni-accepted side h name id q in
    record { session = a.0; established = named-established h name a.0 a.1; admitted = ap (λ (j : ℕ). list_any (admits a.0 j) (findings side h)) (sym (eqb-true id k e)) ∙ a.2.header }
given-by side h i k (calls.AcceptBi name) (replies.Bi id) q f p e =
    let a = bi-accepted side h name id q in
    record { session = a.0; established = named-established h name a.0 a.1; admitted = ap (λ (j : ℕ). list_any (admits a.0 j) (findings side h)) (sym (eqb-true id k e)) ∙ a.2.header }
given-by side h i k (calls.PollOpening id) r q f p e = absurd (clash (is_peers side k) p (poll-local side h i k id (ap (hands_out k) q ∙ e)))
given-by side h i k call (replies.Uni id) q f p e = absurd (cc f)
given-by side h i k call (replies.Bi id) q f p e = absurd (cc f)
given-by side h i k call (replies.SendReady id) q f p e = absurd (cc f)
given-by side h i k call (replies.BiReady id) q f p e = absurd (cc f)
given-by side h i k call r q f p e = absurd (cc e)

given : (side : Side) (h : History) → IsHistory side h → (k : ℕ) → is_peers side k ≡ true → is_handed_out h k ≡ true → Given side h k
given side [] i k p e = absurd (cc e)
given side (q ∷ h) i k p e = by (hands_out k q.answer.reply) refl e (given side h i.2 k p)
  where
    here : (turn : Turn) → hands_out k (next side h turn).reply ≡ true → Given side h k
    here (turns.Call call) x = given-by side h i.2 k call (next side h (turns.Call call)).reply refl (fits-own side h call) p x
    here turn x = absurd (cc x)

    by : (b : Bool) → hands_out k q.answer.reply ≡ b → (b || is_handed_out h k) ≡ true → (is_handed_out h k ≡ true → Given side h k) → Given side (q ∷ h) k
    by true x y again = given-later side q h k (here q.turn (ap (λ (a : Answer). hands_out k a.reply) (sym i.1) ∙ x))
    by false x y again = given-later side q h k (again y)

-- ---- every stream that was handed out

pub handed-of : (side : Side) (h : History) → IsHistory side h → (k : ℕ) → is_handed_out h k ≡ true → OfEstablished side h k
handed-of side h i k e = by (handed-by side h i k e)
  where
    by : HandedBy side h k → OfEstablished side h k
    by (ByAccept s a) = let g = given side h i k (admitted-peers side h s k a) e in
        record { session = g.session; established = g.established; of_it = ap (λ (b : Bool). b || is_opened_for h g.session k) g.admitted }
    by (ByOpening o) = let n = some-name h k o in opened-of side h i k n.0 n.1
