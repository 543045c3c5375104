-- What replies give, by the bytes that came.
use Rattle.wt_promise.proofs.Statements.{BiGiven, RequestCame, SessionCame, UniGiven}
use Rattle.std.specs.Prelude.{[], ◌%◌, ◌++◌, ◌∷◌, ◌≡◌, Bool, List, None, Option, Some, false, filter_map, if◌then◌else◌, is_some, not, true, ℕ}
use Rattle.std.specs.Option.{option_or}
use Rattle.std.proofs.Common.{◌∙◌, ap, refl, subst, sym}
use Rattle.std.proofs.lemmas.Bool.{eq-eqb, eqb-true}
use Rattle.std.proofs.lemmas.List.{append-nil}
use Rattle.std.proofs.lemmas.List.Elements.{filter_map-append}
use Rattle.wt_meaning.specs.Findings.{Classified, Finding, control_in, first_of, is_classified, settings_came, verdict_in, verdict_of}
use Rattle.wt_meaning.specs.Handshakes.{driver_error, next_request, was_given}
use Rattle.wt_meaning.specs.History.{History, is_open}
use Rattle.wt_meaning.specs.Lawful.{is_lawful}
use Rattle.wt_meaning.specs.Meaning.{next, with_pair}
use Rattle.wt_meaning.specs.Moments.{control_walk, findings, keeps, stream_fault, verdict}
use Rattle.wt_meaning.specs.Rows.{first_row, row, row_for}
use Rattle.wt_meaning.specs.Windows.{is_number, last_request, named, queued_request, request_in, session_in}
use Rattle.wt_promise.proofs.OwnForms.{AcceptedFor}
use Rattle.wt_promise.proofs.Accepted.{and-left, bi-accepted, uni-accepted}
use Rattle.wt_promise.proofs.AllFound.{all_found}
use Rattle.wt_promise.proofs.Datagrams.{numbered}
use Rattle.wt_promise.proofs.Established.{established-rightly}
use Rattle.wt_promise.proofs.Facts.{facts}
use Rattle.wt_promise.proofs.Few.{given-queued}
use Rattle.wt_promise.proofs.Grows.{AClassified, AClosed, ADatagram, ADequeued, AFault, ASettings, Adds, Nothing, findings-keep, first_of-append, first_of-stays, of-stream-fault}
use Rattle.wt_promise.proofs.Passes.{option-none}
use Rattle.wt_promise.proofs.Phases.{last-given, requested}
use Rattle.wt_promise.proofs.Tables.{fits, fits-own}
use Rattle.wt_promise.proofs.Verdicts.{ARequest, AStream, IsRequest, IsStream, admitted-verdict, queued-verdict, queues-has}
use Rattle.wt_promise.specs.Found.{AllFound, least_control, peer_opened}
use Rattle.wt_promise.specs.Promise.{EstablishedFor, IsHistory, is_asked_for}
use Rattle.wt_promise.specs.Sides.{AsksFor, RequestGiven, StreamGiven}
use Rattle.wt_proto.specs.declared.verdict.Verdict.{Verdict}
use Rattle.wt_turn.specs.Streams.{peer_bi, peer_uni}
use Rattle.wt_turn.specs.declared.call.Call.{Call}
use Rattle.wt_turn.specs.declared.reply.Reply.{Reply}
use Rattle.wt_turn.specs.declared.turn.Turn.{Turn}
use Rattle.wt_wire.specs.HeaderList.{Fields}
use Rattle.wt_wire.specs.declared.side.Side.{Side}
use Rattle.wt_wire.specs.declared.side.Side.TheVariants.{Client, Server}
use Rattle.wt_proto.specs.declared.verdict.Verdict.TheVariants as verdicts
use Rattle.wt_turn.specs.declared.call.Call.TheVariants as calls
use Rattle.wt_turn.specs.declared.reply.Reply.TheVariants as replies
use Rattle.wt_turn.specs.declared.turn.Turn.TheVariants as turns

-- ---- accepted streams

record ShownStream (side : Side) (h : History) (k s : ℕ) : Type 0 where
  opened : peer_opened side h k ≡ true
  offset : ℕ
  shown : verdict h k ≡ verdicts.WebTransport s offset

admitted-shown : (side : Side) (h : History) → IsHistory side h → (k s : ℕ) → (v : Verdict) → verdict_of (findings side h) k ≡ Some v → IsStream s v → ShownStream side h k s
admitted-shown side h i k s v e (AStream offset) = let r = (facts side h i).kept.shown k v e in record { opened = r.1.opened; offset = offset; shown = r.1.shown }

given-of : (side : Side) (h : History) (turn : Turn) (k kind s : ℕ) (accept : Option ℕ → Call) (name : Option ℕ) → IsHistory side h → turn ≡ turns.Call (accept name) → named h name ≡ Some s → AcceptedFor side h k kind s → StreamGiven side h turn k kind accept
given-of side h turn k kind s accept name i t n a =
    let v = admitted-verdict side h s k a.header in let r = admitted-shown side h i k s v.0 v.1 v.2 in
    record { name = name; asked = t; session = s; of_it = n; of_kind = eqb-true (k % 4) kind a.peers; opened = r.opened; once = a.once; offset = r.offset; shown = r.shown }

uni-call : (c : Call) (k : ℕ) → fits c (replies.Uni k) ≡ true → (name : Option ℕ) × (c ≡ calls.AcceptUni name)
uni-call (calls.AcceptUni name) k f = (name, refl)
uni-call c k f = absurd (cc f)

bi-call : (c : Call) (k : ℕ) → fits c (replies.Bi k) ≡ true → (name : Option ℕ) × (c ≡ calls.AcceptBi name)
bi-call (calls.AcceptBi name) k f = (name, refl)
bi-call c k f = absurd (cc f)

pub uni_given : (side : Side) (h : History) (turn : Turn) → IsHistory side h → UniGiven side h turn
uni_given side h (turns.Call c) i k e =
    let n = uni-call c k (ap (fits c) (sym e) ∙ fits-own side h c) in
    let a = uni-accepted side h n.0 k (ap (λ (d : Call). (next side h (turns.Call d)).reply) (sym n.1) ∙ e) in
    given-of side h (turns.Call c) k (peer_uni side) a.0 calls.AcceptUni n.0 i (ap (λ (d : Call). turns.Call d) n.1) a.1 a.2
uni_given side h turn i k e = absurd (cc e)

pub bi_given : (side : Side) (h : History) (turn : Turn) → IsHistory side h → BiGiven side h turn
bi_given side h (turns.Call c) i k e =
    let n = bi-call c k (ap (fits c) (sym e) ∙ fits-own side h c) in
    let a = bi-accepted side h n.0 k (ap (λ (d : Call). (next side h (turns.Call d)).reply) (sym n.1) ∙ e) in
    given-of side h (turns.Call c) k (peer_bi side) a.0 calls.AcceptBi n.0 i (ap (λ (d : Call). turns.Call d) n.1) a.1 a.2
bi_given side h turn i k e = absurd (cc e)

-- ---- requests

-- each queued request is what its stream carries
abbrev Queued : List Finding → Type 0
Queued found = (q : ℕ × Fields) (test : ℕ × Fields → Option (ℕ × Fields)) → ((x y : ℕ × Fields) → test x ≡ Some y → x ≡ y) → first_of test (filter_map queued_request found) ≡ Some q
    → (offset : ℕ) × (verdict_of found q.0 ≡ Some (verdicts.Request q.1 offset))

queued-same : (found new : List Finding) → filter_map queued_request new ≡ [] → Queued found → Queued (found ++ new)
queued-same found new e g = λ q test own f.
    let r = g q test own (sym (ap (first_of test) (filter_map-append queued_request found new ∙ ap (λ (l : List (ℕ × Fields)). filter_map queued_request found ++ l) e ∙ append-nil (filter_map queued_request found))) ∙ f) in
    (r.0, first_of-stays (verdict_in q.0) found new (verdicts.Request q.1 r.0) r.1)

none-queued : (found : List Finding) (v : Verdict) → filter_map queued_request (stream_fault found v) ≡ []
none-queued = of-stream-fault (λ (fs : List Finding). filter_map queued_request fs ≡ []) refl (λ code. refl)

queued-one : (found more : List Finding) (k offset : ℕ) (headers : Fields) → filter_map queued_request more ≡ [] → is_classified found k ≡ false → Queued found → Queued (found ++ (Classified k (verdicts.Request headers offset) true ∷ more))
queued-one found more k offset headers m c g = λ q test own f. by q test own (first_of test (filter_map queued_request found)) refl
    (sym (ap (first_of test) (filter_map-append queued_request found new) ∙ first_of-append test (filter_map queued_request found) (filter_map queued_request new)) ∙ f)
  where
    new : List Finding
    new = Classified k (verdicts.Request headers offset) true ∷ more

    fresh : (o : Option Verdict) → is_some o ≡ false → o ≡ None
    fresh None e = refl
    fresh (Some v) e = absurd (cc e)

    here : verdict_of (found ++ new) k ≡ Some (verdicts.Request headers offset)
    here =
        first_of-append (verdict_in k) found new ∙ ap (λ (o : Option Verdict). option_or o (first_of (verdict_in k) new)) (fresh (verdict_of found k) c)
        ∙ ap (λ (b : Bool). option_or (if b then Some (verdicts.Request headers offset) else None) (first_of (verdict_in k) more)) (eq-eqb k k refl)

    by : (q : ℕ × Fields) (test : ℕ × Fields → Option (ℕ × Fields)) → ((x y : ℕ × Fields) → test x ≡ Some y → x ≡ y) → (o : Option (ℕ × Fields)) → first_of test (filter_map queued_request found) ≡ o
        → option_or o (first_of test (filter_map queued_request new)) ≡ Some q → (o : ℕ) × (verdict_of (found ++ new) q.0 ≡ Some (verdicts.Request q.1 o))
    by q test own (Some x) e f = let r = g q test own (e ∙ f) in (r.0, first_of-stays (verdict_in q.0) found new (verdicts.Request q.1 r.0) r.1)
    by q test own None e f =
        let same : (k, headers) ≡ q = own (k, headers) q (sym (option-none (test (k, headers))) ∙ ap (λ (l : List (ℕ × Fields)). option_or (test (k, headers)) (first_of test l)) (sym m) ∙ f) in
        (offset, subst (λ (x : ℕ × Fields). verdict_of (found ++ new) x.0 ≡ Some (verdicts.Request x.1 offset)) same here)

queued-step : (side : Side) (h : History) (found new : List Finding) → Adds side h found new → Queued found → Queued (found ++ new)
queued-step side h found [] Nothing g = queued-same found [] refl g
queued-step side h found new (ADequeued j p) g = queued-same found new refl g
queued-step side h found new (ADatagram n t payload c) g = queued-same found new refl g
queued-step side h found new (AClosed t code reason b l) g = queued-same found new refl g
queued-step side h found new (ASettings c) g = queued-same found new refl g
queued-step side h found new (AFault code) g = queued-same found new refl g
queued-step side h found new (AClassified k (verdicts.Request headers offset) more p d c w m) g = by (keeps h found (verdicts.Request headers offset))
  where
    by : (b : Bool) → Queued (found ++ (Classified k (verdicts.Request headers offset) b ∷ more))
    by true = queued-one found more k offset headers (ap (filter_map queued_request) m ∙ none-queued found (verdicts.Request headers offset)) c g
    by false = queued-same found (Classified k (verdicts.Request headers offset) false ∷ more) (ap (filter_map queued_request) m ∙ none-queued found (verdicts.Request headers offset)) g
queued-step side h found new (AClassified k v more p d c w m) g = queued-same found new (ap (filter_map queued_request) m ∙ none-queued found v) g

queued : (side : Side) (h : History) → Queued (findings side h)
unfolding findings
queued side [] = λ q test own e. absurd (cc e)
queued side (p ∷ h) = findings-keep side p h Queued (λ found new a n g. queued-step side (p ∷ h) found new a g) (queued side h)

incoming-call : (c : Call) (k : ℕ) (headers : Fields) → fits c (replies.Request k headers) ≡ true → c ≡ calls.Incoming
incoming-call calls.Incoming k headers f = refl
incoming-call c k headers f = absurd (cc f)

-- an Incoming gives the next request
gives-next : (side : Side) (h : History) (k : ℕ) (headers : Fields) → (next side h (turns.Call calls.Incoming)).reply ≡ replies.Request k headers → next_request side h ≡ Some (k, headers)
gives-next side h k headers e = by (next_request side h) (is_open h) e
  where
    by : (o : Option (ℕ × Fields)) (b : Bool)
        → (first_row (row_for o (λ (q : ℕ × Fields). replies.Request q.0 q.1) [] ∷ row (not b) (replies.Failed (driver_error side h)) [] ∷ [])).reply ≡ replies.Request k headers → o ≡ Some (k, headers)
    by (Some q) b e = let x : q.0 ≡ k = cc e in let y : q.1 ≡ headers = cc e in ap (λ (z : ℕ × Fields). Some z) (rw (sym x, sym y) refl)
    by None true e = absurd (cc e)
    by None false e = absurd (cc e)

pub request_came : (side : Side) (h : History) (turn : Turn) → IsHistory side h → RequestCame side h turn
request_came side h (turns.Call c) i k headers e = by (settings_came (findings side h)) refl next_is
  where
    is-incoming : c ≡ calls.Incoming
    is-incoming = incoming-call c k headers (ap (fits c) (sym e) ∙ fits-own side h c)

    next_is : next_request side h ≡ Some (k, headers)
    next_is = gives-next side h k headers (ap (λ (d : Call). (next side h (turns.Call d)).reply) (sym is-incoming) ∙ e)

    unless : (b : Bool) (x y : ℕ × Fields) → (if b then None else Some x) ≡ Some y → x ≡ y
    unless true x y q = absurd (cc q)
    unless false x y q = cc q

    by : (b : Bool) → settings_came (findings side h) ≡ b → (if b then first_of (λ (q : ℕ × Fields). if was_given h q.0 then None else Some q) (filter_map queued_request (findings side h)) else None) ≡ Some (k, headers)
        → RequestGiven side h (turns.Call c) k headers
    by false q f = absurd (cc f)
    by true q f =
        let r = queued side h (k, headers) (λ (x : ℕ × Fields). if was_given h x.0 then None else Some x) (λ x y z. unless (was_given h x.0) x y z) f in
        let s = (facts side h i).kept.shown k (verdicts.Request headers r.0) r.1 in
        record { asked = ap (λ (d : Call). turns.Call d) is-incoming; opened = s.1.opened; once = (requested side h (turns.Call c) k (ap request_in e)).new; offset = r.0; shown = s.1.shown }
request_came side h turn i k headers e = absurd (cc e)

-- ---- sessions

asks-for : (side : Side) (h : History) → IsHistory side h → (s : ℕ) (v : Verdict) → verdict_of (findings side h) s ≡ Some v → IsRequest v → AsksFor side h s
asks-for side h i s v e (ARequest headers offset) = let r = (facts side h i).kept.shown s (verdicts.Request headers offset) e in record { opened = r.1.opened; headers = headers; offset = offset; shown = r.1.shown }

no-request : (r : Reply) (s : ℕ) → session_in r ≡ Some s → request_in r ≡ None
no-request (replies.Session id) s e = refl
no-request r s e = absurd (cc e)

asked-server : (side : Side) (h : History) (turn : Turn) → IsHistory side h → (s : ℕ) → session_in (next side h turn).reply ≡ Some s → is_asked_for side (with_pair h turn (next side h turn)) s ≡ true → side ≡ Server → AsksFor side h s
asked-server Client h turn i s e a q = absurd (cc q)
asked-server Server h turn i s e a q =
    let later = numbered s (last_request (with_pair h turn (next Server h turn))) (and-left (is_number s (last_request (with_pair h turn (next Server h turn)))) _ a) in
    let last : last_request h ≡ Some s = sym (ap (λ (o : Option ℕ). option_or o (last_request h)) (no-request (next Server h turn).reply s e)) ∙ later in
    let r = queued-verdict Server h s (queues-has s (findings Server h) (given-queued Server h i s (last-given h s last))) in
    asks-for Server h i s r.0 r.1 r.2

pub session_came : (side : Side) (h : History) (turn : Turn) → IsHistory side h → is_lawful side h turn ≡ true → SessionCame side h turn
session_came side h turn i l s e = record { settings = settings; request = request }
  where
    x : EstablishedFor side h (with_pair h turn (next side h turn)) s
    x = established-rightly side h turn i l s e

    all : AllFound side h
    all = all_found side h i x.open_before

    settings : is_some (control_walk h (least_control side h)).settings ≡ true
    settings = of (first_of control_in (findings side h)) refl (sym all.settings ∙ x.settings)
      where
        of : (o : Option (ℕ × ℕ)) → first_of control_in (findings side h) ≡ o → is_some (control_walk h o).settings ≡ true → is_some (control_walk h (least_control side h)).settings ≡ true
        of None q r = absurd (cc r)
        of (Some st) q r = ap (λ (o : Option (ℕ × ℕ)). is_some (control_walk h o).settings) (sym (sym q ∙ all.control (ap is_some q))) ∙ r

    request : side ≡ Server → AsksFor side h s
    request q = asked-server side h turn i s e x.asked q
