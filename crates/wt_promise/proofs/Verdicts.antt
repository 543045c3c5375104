-- A stream has one verdict: what is admitted is a session's stream, what is queued a request; and whose streams are handed out.
use Rattle.std.specs.Prelude.{[], ◌++◌, ◌==◌, ◌||◌, ◌∷◌, ◌≡◌, Bool, List, None, Option, Some, false, filter_map, if◌then◌else◌, is_some, true, ℕ}
use Rattle.std.specs.List.{list_any}
use Rattle.std.specs.Option.{option_or}
use Rattle.std.proofs.Common.{◌∙◌, ap, refl, subst, sym}
use Rattle.std.proofs.lemmas.Bool.{eq-eqb, eqb-true}
use Rattle.std.proofs.lemmas.List.Folds.{list_any-append}
use Rattle.wt_meaning.specs.Calls.{being_opened, opened_by, opening_for}
use Rattle.wt_meaning.specs.Findings.{Classified, Finding, first_of, is_classified, verdict_in, verdict_of}
use Rattle.wt_meaning.specs.Handshakes.{was_given}
use Rattle.wt_meaning.specs.History.{History, Pair, hands_out, is_handed_out}
use Rattle.wt_meaning.specs.Meaning.{next}
use Rattle.wt_meaning.specs.Moments.{findings, keeps, stream_fault}
use Rattle.wt_meaning.specs.Sends.{admits}
use Rattle.wt_meaning.specs.Windows.{named, queued_request}
use Rattle.wt_promise.proofs.Accepted.{bi-accepted, or-first, uni-accepted}
use Rattle.wt_promise.proofs.Few.{given-before, given-queued, has}
use Rattle.wt_promise.proofs.Grows.{AClassified, AClosed, ADatagram, ADequeued, AFault, ASettings, Adds, Nothing, findings-add, findings-keep, first_of-append, first_of-stays, is_peers, news, of-stream-fault}
use Rattle.wt_promise.proofs.HandedOut.{GivesOpened, admitted-classified, being-begun, gives-opened, only-peers, opened-local}
use Rattle.wt_promise.proofs.Shapes.{is_accept}
use Rattle.wt_promise.proofs.Tables.{by-session, fits, fits-own}
use Rattle.wt_promise.specs.Promise.{IsHistory}
use Rattle.wt_proto.specs.declared.verdict.Verdict.{Verdict}
use Rattle.wt_turn.specs.declared.answer.Answer.{Answer}
use Rattle.wt_turn.specs.declared.call.Call.{Call}
use Rattle.wt_turn.specs.declared.reply.Reply.{Reply}
use Rattle.wt_turn.specs.declared.turn.Turn.{Turn}
use Rattle.wt_wire.specs.HeaderList.{Fields}
use Rattle.wt_wire.specs.declared.side.Side.{Side}
use Rattle.wt_proto.specs.declared.verdict.Verdict.TheVariants as verdicts
use Rattle.wt_turn.specs.declared.call.Call.TheVariants as calls
use Rattle.wt_turn.specs.declared.reply.Reply.TheVariants as replies
use Rattle.wt_turn.specs.declared.turn.Turn.TheVariants as turns

-- ---- what holds of the verdict of each finding that passes a test

-- the finding's verdict is the stream's
abbrev pub OneVerdict : ℕ → (Finding → Bool) → (Verdict → Type 0) → List Finding → Type 0
OneVerdict k test Good found = list_any test found ≡ true → (v : Verdict) × (verdict_of found k ≡ Some v) × Good v

-- where nothing new passes, the old verdict stays
one-with : (k : ℕ) (test : Finding → Bool) (Good : Verdict → Type 0) (found new : List Finding) → list_any test new ≡ false → OneVerdict k test Good found → OneVerdict k test Good (found ++ new)
one-with k test Good found new n g e =
    let r = g (or-first (list_any test found) (list_any test new) (sym (list_any-append test found new) ∙ e) n) in (r.0, first_of-stays (verdict_in k) found new r.0 r.1, r.2)

-- where the stream's first verdict is new, it is that of the new finding
one-new : (k : ℕ) (test : Finding → Bool) (Good : Verdict → Type 0) (found more : List Finding) (v : Verdict) (b : Bool) → is_classified found k ≡ false → Good v → OneVerdict k test Good (found ++ (Classified k v b ∷ more))
one-new k test Good found more v b c g e = (v, first_of-append (verdict_in k) found (Classified k v b ∷ more) ∙ ap (λ (o : Option Verdict). option_or o (first_of (verdict_in k) (Classified k v b ∷ more))) (none (verdict_of found k) c) ∙ here, g)
  where
    none : (o : Option Verdict) → is_some o ≡ false → o ≡ None
    none None q = refl
    none (Some w) q = absurd (cc q)

    here : first_of (verdict_in k) (Classified k v b ∷ more) ≡ Some v
    here = ap (λ (x : Bool). option_or (if x then Some v else None) (first_of (verdict_in k) more)) (eq-self k)
      where
        eq-self : (n : ℕ) → (n == n) ≡ true
        eq-self n = eq-eqb n n refl

-- ---- admitted streams

-- the verdict is a stream of this session
pub data IsStream (s : ℕ) : Verdict → Type 0 where
  AStream : (offset : ℕ) → IsStream s (verdicts.WebTransport s offset)

no-admits : (s k : ℕ) (found : List Finding) (v : Verdict) → list_any (admits s k) (stream_fault found v) ≡ false
no-admits s k = of-stream-fault (λ (fs : List Finding). list_any (admits s k) fs ≡ false) refl (λ code. refl)

stream-step : (side : Side) (h : History) (s k : ℕ) (found new : List Finding) → Adds side h found new → OneVerdict k (admits s k) (IsStream s) found → OneVerdict k (admits s k) (IsStream s) (found ++ new)
stream-step side h s k found [] Nothing g = one-with k (admits s k) (IsStream s) found [] refl g
stream-step side h s k found new (ADequeued j p) g = one-with k (admits s k) (IsStream s) found new refl g
stream-step side h s k found new (ADatagram n t payload c) g = one-with k (admits s k) (IsStream s) found new refl g
stream-step side h s k found new (AClosed t code reason b l) g = one-with k (admits s k) (IsStream s) found new refl g
stream-step side h s k found new (ASettings c) g = one-with k (admits s k) (IsStream s) found new refl g
stream-step side h s k found new (AFault code) g = one-with k (admits s k) (IsStream s) found new refl g
stream-step side h s k found new (AClassified j (verdicts.WebTransport t offset) more p d c w m) g = by (keeps h found (verdicts.WebTransport t offset)) (j == k) (t == s) refl refl
  where
    none-more : list_any (admits s k) more ≡ false
    none-more = ap (list_any (admits s k)) m

    by : (b same mine : Bool) → (j == k) ≡ same → (t == s) ≡ mine → OneVerdict k (admits s k) (IsStream s) (found ++ (Classified j (verdicts.WebTransport t offset) b ∷ more))
    by false same mine q x = one-with k (admits s k) (IsStream s) found _ none-more g
    by true false mine q x = one-with k (admits s k) (IsStream s) found _ (rw (q, none-more) refl) g
    by true true false q x = one-with k (admits s k) (IsStream s) found _ (rw (q, x, none-more) refl) g
    by true true true q x =
        let i : j ≡ k = eqb-true j k q in
        rw i (one-new k (admits s k) (IsStream s) found more (verdicts.WebTransport t offset) true (ap (is_classified found) (sym i) ∙ c)
        (subst (λ (n : ℕ). IsStream s (verdicts.WebTransport n offset)) (sym (eqb-true t s x)) (AStream offset)))
stream-step side h s k found new (AClassified j v more p d c w m) g = one-with k (admits s k) (IsStream s) found new (ap (list_any (admits s k)) m ∙ no-admits s k found v) g

-- an admitted stream's verdict is a stream of the session
pub admitted-verdict : (side : Side) (h : History) (s k : ℕ) → OneVerdict k (admits s k) (IsStream s) (findings side h)
unfolding findings
admitted-verdict side [] s k = λ e. absurd (cc e)
admitted-verdict side (p ∷ h) s k = findings-keep side p h (OneVerdict k (admits s k) (IsStream s)) (λ found new a n g. stream-step side (p ∷ h) s k found new a g) (admitted-verdict side h s k)

same-session : (s t : ℕ) (v w : Verdict) → v ≡ w → IsStream s v → IsStream t w → s ≡ t
same-session s t v w e (AStream offset) (AStream other) = cc e

-- so that it is of one session
pub admitted-once : (side : Side) (h : History) (s t k : ℕ) → list_any (admits s k) (findings side h) ≡ true → list_any (admits t k) (findings side h) ≡ true → s ≡ t
admitted-once side h s t k e f =
    let a = admitted-verdict side h s k e in let b = admitted-verdict side h t k f in let same : a.0 ≡ b.0 = cc (a.1, b.1) in same-session s t a.0 b.0 same a.2 b.2

-- ---- queued requests

-- the verdict is a request
pub data IsRequest : Verdict → Type 0 where
  ARequest : (headers : Fields) (offset : ℕ) → IsRequest (verdicts.Request headers offset)

-- the finding queues the request
abbrev pub queues : ℕ → Finding → Bool
queues k (Classified id (verdicts.Request headers offset) true) = id == k
queues k _ = false

pub queues-has : (k : ℕ) (found : List Finding) → has (filter_map queued_request found) k ≡ true → list_any (queues k) found ≡ true
queues-has k [] e = absurd (cc e)
queues-has k (Classified id (verdicts.Request headers offset) true ∷ found) e = by (id == k) e (queues-has k found)
  where
    by : (b : Bool) → (b || has (filter_map queued_request found) k) ≡ true → (has (filter_map queued_request found) k ≡ true → list_any (queues k) found ≡ true) → (b || list_any (queues k) found) ≡ true
    by true q again = refl
    by false q again = again q
queues-has k (x ∷ found) e = queues-has k found e

none-queued : (k : ℕ) (found : List Finding) (v : Verdict) → list_any (queues k) (stream_fault found v) ≡ false
none-queued k = of-stream-fault (λ (fs : List Finding). list_any (queues k) fs ≡ false) refl (λ code. refl)

request-step : (side : Side) (h : History) (k : ℕ) (found new : List Finding) → Adds side h found new → OneVerdict k (queues k) IsRequest found → OneVerdict k (queues k) IsRequest (found ++ new)
request-step side h k found [] Nothing g = one-with k (queues k) IsRequest found [] refl g
request-step side h k found new (ADequeued j p) g = one-with k (queues k) IsRequest found new refl g
request-step side h k found new (ADatagram n t payload c) g = one-with k (queues k) IsRequest found new refl g
request-step side h k found new (AClosed t code reason b l) g = one-with k (queues k) IsRequest found new refl g
request-step side h k found new (ASettings c) g = one-with k (queues k) IsRequest found new refl g
request-step side h k found new (AFault code) g = one-with k (queues k) IsRequest found new refl g
request-step side h k found new (AClassified j (verdicts.Request headers offset) more p d c w m) g = by (keeps h found (verdicts.Request headers offset)) (j == k) refl
  where
    none-more : list_any (queues k) more ≡ false
    none-more = ap (list_any (queues k)) m

    by : (b same : Bool) → (j == k) ≡ same → OneVerdict k (queues k) IsRequest (found ++ (Classified j (verdicts.Request headers offset) b ∷ more))
    by false same q = one-with k (queues k) IsRequest found _ none-more g
    by true false q = one-with k (queues k) IsRequest found _ (rw (q, none-more) refl) g
    by true true q =
        let i : j ≡ k = eqb-true j k q in
        rw i (one-new k (queues k) IsRequest found more (verdicts.Request headers offset) true (ap (is_classified found) (sym i) ∙ c) (ARequest headers offset))
request-step side h k found new (AClassified j v more p d c w m) g = one-with k (queues k) IsRequest found new (ap (list_any (queues k)) m ∙ none-queued k found v) g

pub queued-verdict : (side : Side) (h : History) (k : ℕ) → OneVerdict k (queues k) IsRequest (findings side h)
unfolding findings
queued-verdict side [] k = λ e. absurd (cc e)
queued-verdict side (p ∷ h) k = findings-keep side p h (OneVerdict k (queues k) IsRequest) (λ found new a n g. request-step side (p ∷ h) k found new a g) (queued-verdict side h k)

-- ---- by what a stream was handed out

pub data HandedBy (side : Side) (h : History) (k : ℕ) : Type 0 where
  ByAccept : (s : ℕ) → list_any (admits s k) (findings side h) ≡ true → HandedBy side h k
  ByOpening : is_some (first_of (λ (p : Pair). opened_by k p.turn p.answer.reply) h) ≡ true → HandedBy side h k

-- what was admitted stays so
pub admitted-later : (side : Side) (p : Pair) (h : History) (s k : ℕ) → list_any (admits s k) (findings side h) ≡ true → list_any (admits s k) (findings side (p ∷ h)) ≡ true
admitted-later side p h s k e =
    ap (list_any (admits s k)) (findings-add side p h) ∙ list_any-append (admits s k) (findings side h) (news side p h) ∙ ap (λ (b : Bool). b || list_any (admits s k) (news side p h)) e

pub handed-stays : (side : Side) (p : Pair) (h : History) (k : ℕ) → HandedBy side h k → HandedBy side (p ∷ h) k
handed-stays side p h k (ByAccept s e) = ByAccept s (admitted-later side p h s k e)
handed-stays side p h k (ByOpening e) = ByOpening (by (opened_by k p.turn p.answer.reply))
  where
    by : (o : Option (Option ℕ)) → is_some (option_or o (first_of (λ (q : Pair). opened_by k q.turn q.answer.reply) h)) ≡ true
    by None = e
    by (Some name) = refl

-- what an accept gives was admitted
pub accept-admits : (side : Side) (h : History) (k : ℕ) (call : Call) (r : Reply) → (next side h (turns.Call call)).reply ≡ r → fits call r ≡ true → is_accept (turns.Call call) ≡ true → hands_out k r ≡ true
    → (s : ℕ) × (list_any (admits s k) (findings side h) ≡ true)
accept-admits side h k (calls.AcceptUni name) r q f w e = by r q f e
  where
    by : (r : Reply) → (next side h (turns.Call (calls.AcceptUni name))).reply ≡ r → fits (calls.AcceptUni name) r ≡ true → hands_out k r ≡ true → (s : ℕ) × (list_any (admits s k) (findings side h) ≡ true)
    by (replies.Uni id) q f e = let a = uni-accepted side h name id q in (a.0, ap (λ (j : ℕ). list_any (admits a.0 j) (findings side h)) (sym (eqb-true id k e)) ∙ a.2.header)
    by (replies.Bi id) q f e = absurd (cc f)
    by (replies.SendReady id) q f e = absurd (cc f)
    by (replies.BiReady id) q f e = absurd (cc f)
    by r q f e = absurd (cc e)
accept-admits side h k (calls.AcceptBi name) r q f w e = by r q f e
  where
    by : (r : Reply) → (next side h (turns.Call (calls.AcceptBi name))).reply ≡ r → fits (calls.AcceptBi name) r ≡ true → hands_out k r ≡ true → (s : ℕ) × (list_any (admits s k) (findings side h) ≡ true)
    by (replies.Bi id) q f e = let a = bi-accepted side h name id q in (a.0, ap (λ (j : ℕ). list_any (admits a.0 j) (findings side h)) (sym (eqb-true id k e)) ∙ a.2.header)
    by (replies.Uni id) q f e = absurd (cc f)
    by (replies.SendReady id) q f e = absurd (cc f)
    by (replies.BiReady id) q f e = absurd (cc f)
    by r q f e = absurd (cc e)
accept-admits side h k call r q f w e = absurd (cc w)

-- the call of a reply that hands the stream out
pub hands-by : (side : Side) (h : History) (k : ℕ) (call : Call) (r : Reply) → (next side h (turns.Call call)).reply ≡ r → fits call r ≡ true → hands_out k r ≡ true → HandedBy side h k
hands-by side h k (calls.AcceptUni name) r q f e = let a = accept-admits side h k (calls.AcceptUni name) r q f refl e in ByAccept a.0 a.1
hands-by side h k (calls.AcceptBi name) r q f e = let a = accept-admits side h k (calls.AcceptBi name) r q f refl e in ByAccept a.0 a.1
hands-by side h k (calls.PollOpening id) r q f e =
    let g = (by-session (GivesOpened side h k id) (named h None) (λ (s : ℕ). opening_for side h id (being_opened h id)) (λ x. absurd (cc x)) (λ s x. record { first = gives-opened side h k id (being_opened h id) refl })).first (ap (hands_out k) q ∙ e) in
    ByOpening (ap (λ (j : ℕ). is_some (first_of (λ (p : Pair). opened_by j p.turn p.answer.reply) h)) (sym (eqb-true id k g.0)) ∙ being-begun h id g.1)
hands-by side h k call (replies.Uni id) q f e = absurd (cc f)
hands-by side h k call (replies.Bi id) q f e = absurd (cc f)
hands-by side h k call (replies.SendReady id) q f e = absurd (cc f)
hands-by side h k call (replies.BiReady id) q f e = absurd (cc f)
hands-by side h k call r q f e = absurd (cc e)

pub handed-by : (side : Side) (h : History) → IsHistory side h → (k : ℕ) → is_handed_out h k ≡ true → HandedBy side h k
handed-by side [] i k e = absurd (cc e)
handed-by side (p ∷ h) i k e = by (hands_out k p.answer.reply) refl e (handed-by side h i.2 k)
  where
    here : (turn : Turn) → hands_out k (next side h turn).reply ≡ true → HandedBy side h k
    here (turns.Call call) q = hands-by side h k call (next side h (turns.Call call)).reply refl (fits-own side h call) q
    here turn q = absurd (cc q)

    by : (b : Bool) → hands_out k p.answer.reply ≡ b → (b || is_handed_out h k) ≡ true → (is_handed_out h k ≡ true → HandedBy side h k) → HandedBy side (p ∷ h) k
    by true q r again = handed-stays side p h k (here p.turn (ap (λ (a : Answer). hands_out k a.reply) (sym i.1) ∙ q))
    by false q r again = handed-stays side p h k (again r)

-- a stream that was admitted is the peer's
pub admitted-peers : (side : Side) (h : History) (s k : ℕ) → list_any (admits s k) (findings side h) ≡ true → is_peers side k ≡ true
admitted-peers side h s k e = only-peers side h k (admitted-classified s k (findings side h) e)

-- ---- requests

stream-not-request : (s : ℕ) (v w : Verdict) → v ≡ w → IsStream s v → IsRequest w → ⊥
stream-not-request s v w e (AStream offset) (ARequest headers o) = cc e

-- a request that was given is no admitted stream
pub given-not-admitted : (side : Side) (h : History) → IsHistory side h → (s k : ℕ) → was_given h k ≡ true → list_any (admits s k) (findings side h) ≡ false
given-not-admitted side h i s k g = by (list_any (admits s k) (findings side h)) refl
  where
    by : (b : Bool) → list_any (admits s k) (findings side h) ≡ b → b ≡ false
    by false q = refl
    by true q =
        let a = admitted-verdict side h s k q in let r = queued-verdict side h k (queues-has k (findings side h) (given-queued side h i k g)) in
        let same : a.0 ≡ r.0 = cc (a.1, r.1) in absurd (stream-not-request s a.0 r.0 same a.2 r.2)

-- it was classified before the moment at which it was given
pub given-classified : (side : Side) (p : Pair) (h : History) → IsHistory side (p ∷ h) → (k : ℕ) → was_given (p ∷ h) k ≡ true → is_classified (findings side h) k ≡ true
given-classified side p h i k g = let r = queued-verdict side h k (queues-has k (findings side h) (given-before side p h i k g)) in ap is_some r.1

-- it is the peer's
pub given-peers : (side : Side) (h : History) → IsHistory side h → (k : ℕ) → was_given h k ≡ true → is_peers side k ≡ true
given-peers side h i k g =
    let r = queued-verdict side h k (queues-has k (findings side h) (given-queued side h i k g)) in only-peers side h k (ap is_some r.1)

-- so that it isn't handed out
pub given-kept : (side : Side) (h : History) → IsHistory side h → (k : ℕ) → was_given h k ≡ true → is_handed_out h k ≡ false
given-kept side h i k g = by (is_handed_out h k) refl
  where
    never : HandedBy side h k → ⊥
    never (ByAccept s e) = let r : true ≡ false = sym e ∙ given-not-admitted side h i s k g in cc r
    never (ByOpening e) = let r : true ≡ false = sym (given-peers side h i k g) ∙ opened-local side h i k e in cc r

    by : (b : Bool) → is_handed_out h k ≡ b → b ≡ false
    by false q = refl
    by true q = absurd (never (handed-by side h i k q))
