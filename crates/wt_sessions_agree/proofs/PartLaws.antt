-- Where an established session's part of its stream begins is settled: by its request on a server, by its response on a client.
use Rattle.std.specs.Prelude.{[], ◌%◌, ◌&&◌, ◌++◌, ◌+◌, ◌==◌, ◌||◌, ◌∷◌, ◌≡◌, Bool, List, None, Option, Some, drop, false, filter_map, if◌then◌else◌, not, true, unwrap_or, ℕ}
use Rattle.std.specs.List.{cons_option, list_any}
use Rattle.std.specs.Option.{option_or}
use Rattle.std.proofs.Common.{◌∙◌, ap, refl, subst, sym}
use Rattle.std.proofs.lemmas.Bool.{eq-eqb, eqb-true}
use Rattle.std.proofs.lemmas.List.{append-nil}
use Rattle.std.proofs.lemmas.List.Folds.{list_any-append}
use Rattle.wt_meaning.specs.Findings.{Classified, Finding, first_of, is_classified, is_dequeued, dequeues, verdict_in, verdict_of}
use Rattle.wt_meaning.specs.Handshakes.{is_opened, is_success, was_given}
use Rattle.wt_meaning.specs.History.{History, Pair, contents, events, is_open, with_bytes}
use Rattle.wt_meaning.specs.Meaning.{next, with_pair}
use Rattle.wt_meaning.specs.Moments.{findings, keeps, stream_fault, verdict}
use Rattle.wt_meaning.specs.Windows.{after_request, after_response, establishes, is_established, last_request, queued_request, session_in}
use Rattle.wt_message.specs.StreamTypes.{control_type, decoder_type, encoder_type, webtransport_type}
use Rattle.wt_promise.proofs.Accepted.{and-left}
use Rattle.wt_promise.proofs.Datagrams.{numbered}
use Rattle.wt_promise.proofs.Established.{established-rightly}
use Rattle.wt_promise.proofs.Few.{given-queued, has}
use Rattle.wt_promise.proofs.Grows.{AClassified, AClosed, ADatagram, ADequeued, AFault, ASettings, Adds, Nothing, findings-add, findings-keep, first_of-append, first_of-stays, news, of-stream-fault}
use Rattle.wt_promise.proofs.HandedOut.{verdict-stays}
use Rattle.wt_promise.proofs.Phases.{last-given}
use Rattle.wt_promise.proofs.Verdicts.{given-classified}
use Rattle.wt_promise.specs.Promise.{EstablishedFor, IsHistory}
use Rattle.wt_sessions.specs.Moment.{is_peers}
use Rattle.wt_proto.proofs.ResponseWalkLaws.{response_walk_stays}
use Rattle.wt_proto.specs.Bi.{bi_verdict_of}
use Rattle.wt_proto.specs.ResponseWalk.{is_answered, response_decides, response_unfinished, response_walk_of}
use Rattle.wt_proto.specs.Uni.{header_by_type, or_at_stream_end, session_header_at, typed_header_at, uni_verdict_of}
use Rattle.wt_proto.specs.Walk.{whole_walk}
use Rattle.wt_proto.specs.declared.response_walk.ResponseWalk.{ResponseWalk}
use Rattle.wt_proto.specs.declared.verdict.Verdict.{Verdict}
use Rattle.wt_turn.specs.Reports.{end_of}
use Rattle.wt_sessions_agree.proofs.Basics.{is-none, or-first}
use Rattle.wt_sessions_agree.specs.Orderly.{begins_at}
use Rattle.wt_turn.specs.declared.answer.Answer.{Answer}
use Rattle.wt_turn.specs.declared.turn.Turn.{Turn}
use Rattle.wt_wire.specs.HeaderList.{Fields}
use Rattle.wt_wire.specs.Ids.{is_bidirectional}
use Rattle.wt_wire.specs.Varint.{varint_at}
use Rattle.wt_wire.specs.declared.side.Side.{Side}
use Rattle.wt_wire.specs.declared.side.Side.TheVariants.{Client, Server}
use Rattle.wt_wire.specs.declared.side.StreamEnd.{StreamEnd}
use Rattle.wt_proto.specs.declared.response_walk.ResponseWalk.TheVariants as responses
use Rattle.wt_proto.specs.declared.verdict.Verdict.TheVariants as verdicts
use Rattle.wt_turn.specs.declared.turn.Turn.TheVariants as turns
use Rattle.wt_wire.specs.declared.error.ErrorCode.TheVariants as h3
use Rattle.wt_wire.specs.declared.side.StreamEnd.TheVariants as ends

-- ---- a response stays, whatever comes later

response-then : (bytes : List ℕ) (end : StreamEnd) (fields : Fields) (at : ℕ) → response_walk_of bytes end ≡ responses.Response fields at
    → response_walk_of bytes ends.Running ≡ responses.Response fields at
unfolding response_walk_of
response-then bytes end fields at e = by (whole_walk response_decides 0 bytes).stop refl e
  where
    unfinished : (end : StreamEnd) (s : ℕ) (b : Bool) → response_unfinished end s b ≡ responses.Response fields at → ⊥
    unfinished ends.Running s b q = cc q
    unfinished ends.Fin s b q = cc q
    unfinished (ends.Reset code) s b q = cc q

    by : (o : Option ResponseWalk) → (whole_walk response_decides 0 bytes).stop ≡ o
        → unwrap_or o (response_unfinished end (whole_walk response_decides 0 bytes).state (whole_walk response_decides 0 bytes).between) ≡ responses.Response fields at
        → unwrap_or (whole_walk response_decides 0 bytes).stop (response_unfinished ends.Running (whole_walk response_decides 0 bytes).state (whole_walk response_decides 0 bytes).between)
        ≡ responses.Response fields at
    by (Some w) q r = rw q r
    by None q r = absurd (unfinished end (whole_walk response_decides 0 bytes).state (whole_walk response_decides 0 bytes).between r)

response-stays : (bytes more : List ℕ) (end later : StreamEnd) (fields : Fields) (at : ℕ) → response_walk_of bytes end ≡ responses.Response fields at
    → response_walk_of (bytes ++ more) later ≡ responses.Response fields at
response-stays bytes more end later fields at e =
    let r = response-then bytes end fields at e in
    response_walk_stays bytes more later (ap (λ (w : ResponseWalk). is_answered w) r) ∙ r

contents-add : (p : Pair) (h : History) (k : ℕ) → (more : List ℕ) × (contents (p ∷ h) k ≡ contents h k ++ more)
contents-add p h k = by (is_open h) p.turn
  where
    here : (b : Bool) (piece : List ℕ) → (more : List ℕ) × ((if b then contents h k ++ piece else contents h k) ≡ contents h k ++ more)
    here true piece = (piece, refl)
    here false piece = ([], sym (append-nil (contents h k)))

    by : (b : Bool) (turn : Turn) → (more : List ℕ) × ((if b then with_bytes k turn (contents h k) else contents h k) ≡ contents h k ++ more)
    by false turn = ([], sym (append-nil (contents h k)))
    by true (turns.Bytes id piece) = here (id == k) piece
    by true turn = ([], sym (append-nil (contents h k)))

-- ---- a unidirectional stream is no request

-- the verdict is a request
abbrev is-request : Verdict → Bool
is-request (verdicts.Request headers offset) = true
is-request _ = false

-- the header, or the end inside it, says no request
abbrev NoRequest : Option (Verdict × ℕ) → Type 0
NoRequest o = (end : StreamEnd) → is-request (or_at_stream_end end o) ≡ false

no-header : NoRequest None
no-header ends.Running = refl
no-header ends.Fin = refl
no-header (ends.Reset code) = refl

session-header : (offset : ℕ) (o : Option (ℕ × ℕ)) → NoRequest (session_header_at offset o)
session-header offset None end = no-header end
session-header offset (Some s) end = by (s.0 % 4 == 0)
  where
    by : (b : Bool) → is-request (if b then verdicts.WebTransport s.0 (offset + s.1) else verdicts.Fault h3.Id) ≡ false
    by true = refl
    by false = refl

typed-header : (kind offset : ℕ) (session : Option (Verdict × ℕ)) → NoRequest session → NoRequest (header_by_type kind offset session)
typed-header kind offset session n end = by (kind == control_type) (kind == encoder_type) (kind == decoder_type) (kind == webtransport_type)
  where
    by : (a b c d : Bool) → is-request (or_at_stream_end end (if a then Some (verdicts.Control offset, offset) else (if b then Some (verdicts.Encoder offset, offset) else
        (if c then Some (verdicts.Decoder offset, offset) else (if d then session else Some (verdicts.Dropped, offset)))))) ≡ false
    by true b c d = refl
    by false true c d = refl
    by false false true d = refl
    by false false false true = n end
    by false false false false = refl

uni-header : (bytes : List ℕ) (o : Option (ℕ × ℕ)) → NoRequest (typed_header_at bytes o)
uni-header bytes None end = no-header end
uni-header bytes (Some t) end = typed-header t.0 t.1 (session_header_at t.1 (varint_at (drop t.1 bytes))) (session-header t.1 (varint_at (drop t.1 bytes))) end

uni-no-request : (bytes : List ℕ) (end : StreamEnd) → is-request (uni_verdict_of bytes end) ≡ false
unfolding uni_verdict_of
uni-no-request bytes end = uni-header bytes (varint_at bytes) end

-- so that a stream with a request is bidirectional
request-bi : (h : History) (k : ℕ) (headers : Fields) (offset : ℕ) → verdict h k ≡ verdicts.Request headers offset → is_bidirectional k ≡ true
request-bi h k headers offset e = by (is_bidirectional k) e
  where
    by : (b : Bool) → (if b then bi_verdict_of (contents h k) (end_of (events h) k) else uni_verdict_of (contents h k) (end_of (events h) k)) ≡ verdicts.Request headers offset → b ≡ true
    by true q = refl
    by false q = absurd (let r = uni-no-request (contents h k) (end_of (events h) k) in cc (sym r ∙ ap is-request q))

-- ---- a request that was queued has its verdict

pub record RequestOf (found : List Finding) (k : ℕ) : Type 0 where
  pub headers : Fields
  pub offset : ℕ
  pub is_verdict : verdict_of found k ≡ Some (verdicts.Request headers offset)
  pub is_bi : is_bidirectional k ≡ true
  pub came : is_dequeued found k ≡ true

-- the finding queues the request
abbrev pub queues : ℕ → Finding → Bool
queues k (Classified id (verdicts.Request headers offset) true) = id == k
queues k _ = false

abbrev pub Queued : ℕ → List Finding → Type 0
Queued k found = list_any (queues k) found ≡ true → RequestOf found k

-- where nothing new is queued, what was stays
queued-with : (k : ℕ) (found new : List Finding) → list_any (queues k) new ≡ false → Queued k found → Queued k (found ++ new)
queued-with k found new n g e =
    let r = g (or-first (list_any (queues k) found) (list_any (queues k) new) (sym (list_any-append (queues k) found new) ∙ e) n) in
    record {
      headers = r.headers;
      offset = r.offset;
      is_verdict = first_of-stays (verdict_in k) found new (verdicts.Request r.headers r.offset) r.is_verdict;
      is_bi = r.is_bi;
      came = list_any-append (dequeues k) found new ∙ ap (λ (b : Bool). b || list_any (dequeues k) new) r.came;
    }

queued-now : (h : History) (k : ℕ) (found more : List Finding) (headers : Fields) (offset : ℕ) (b : Bool) → is_dequeued found k ≡ true → is_classified found k ≡ false
    → verdict h k ≡ verdicts.Request headers offset
    → Queued k (found ++ (Classified k (verdicts.Request headers offset) b ∷ more))
queued-now h k found more headers offset b d c w e = record {
  headers = headers;
  offset = offset;
  is_verdict =
      first_of-append (verdict_in k) found (Classified k (verdicts.Request headers offset) b ∷ more)
      ∙ ap (λ (o : Option Verdict). option_or o (first_of (verdict_in k) (Classified k (verdicts.Request headers offset) b ∷ more))) (is-none (verdict_of found k) c) ∙ here;
  is_bi = request-bi h k headers offset w;
  came =
      list_any-append (dequeues k) found (Classified k (verdicts.Request headers offset) b ∷ more)
      ∙ ap (λ (x : Bool). x || list_any (dequeues k) (Classified k (verdicts.Request headers offset) b ∷ more)) d;
}
  where
    here : first_of (verdict_in k) (Classified k (verdicts.Request headers offset) b ∷ more) ≡ Some (verdicts.Request headers offset)
    here = ap (λ (x : Bool). option_or (if x then Some (verdicts.Request headers offset) else None) (first_of (verdict_in k) more)) (eq-eqb k k refl)

pub none-queued : (k : ℕ) (found : List Finding) (v : Verdict) → list_any (queues k) (stream_fault found v) ≡ false
none-queued k = of-stream-fault (λ (fs : List Finding). list_any (queues k) fs ≡ false) refl (λ code. refl)

queued-step : (side : Side) (h : History) (k : ℕ) (found new : List Finding) → Adds side h found new → Queued k found → Queued k (found ++ new)
queued-step side h k found [] Nothing g = queued-with k found [] refl g
queued-step side h k found new (ADequeued j p) g = queued-with k found new refl g
queued-step side h k found new (ADatagram n t payload c) g = queued-with k found new refl g
queued-step side h k found new (AClosed t code reason b l) g = queued-with k found new refl g
queued-step side h k found new (ASettings c) g = queued-with k found new refl g
queued-step side h k found new (AFault code) g = queued-with k found new refl g
queued-step side h k found new (AClassified j (verdicts.Request headers offset) more p d c w m) g = by (keeps h found (verdicts.Request headers offset)) (j == k) refl
  where
    none-more : list_any (queues k) more ≡ false
    none-more = ap (list_any (queues k)) m

    by : (b same : Bool) → (j == k) ≡ same → Queued k (found ++ (Classified j (verdicts.Request headers offset) b ∷ more))
    by false same q = queued-with k found _ none-more g
    by true false q = queued-with k found _ (rw (q, none-more) refl) g
    by true true q =
        let i : j ≡ k = eqb-true j k q in
        rw i (queued-now h k found more headers offset true (ap (is_dequeued found) (sym i) ∙ d) (ap (is_classified found) (sym i) ∙ c) (ap (verdict h) (sym i) ∙ w))
queued-step side h k found new (AClassified j v more p d c w m) g = queued-with k found new (ap (list_any (queues k)) m ∙ none-queued k found v) g

pub queued-verdict : (side : Side) (h : History) (k : ℕ) → Queued k (findings side h)
unfolding findings
queued-verdict side [] k = λ e. absurd (cc e)
queued-verdict side (p ∷ h) k = findings-keep side p h (Queued k) (λ found new a n g. queued-step side (p ∷ h) k found new a g) (queued-verdict side h k)

pub queues-has : (k : ℕ) (found : List Finding) → has (filter_map queued_request found) k ≡ true → list_any (queues k) found ≡ true
queues-has k [] e = absurd (cc e)
queues-has k (Classified id (verdicts.Request headers offset) true ∷ found) e = by (id == k) e (queues-has k found)
  where
    by : (b : Bool) → (b || has (filter_map queued_request found) k) ≡ true → (has (filter_map queued_request found) k ≡ true → list_any (queues k) found ≡ true)
        → (b || list_any (queues k) found) ≡ true
    by true q again = refl
    by false q again = again q
queues-has k (x ∷ found) e = queues-has k found e

-- a request that was given
pub given-request : (side : Side) (h : History) → IsHistory side h → (k : ℕ) → was_given h k ≡ true → RequestOf (findings side h) k
given-request side h i k e = queued-verdict side h k (queues-has k (findings side h) (given-queued side h i k e))

-- ---- where a session's part begins

-- what settles where the session's part begins
pub data Parted (side : Side) (h : History) (k : ℕ) : Type 0 where
  ByRequest : RequestOf (findings side h) k → side ≡ Server → Parted side h k
  ByResponse : (fields : Fields) (at : ℕ) → response_walk_of (contents h k) (end_of (events h) k) ≡ responses.Response fields at → k ≡ 0 → side ≡ Client → Parted side h k

-- whatever comes later
parted-stays : (side : Side) (p : Pair) (h : History) (k : ℕ) → Parted side h k → Parted side (p ∷ h) k
parted-stays side p h k (ByRequest r c) = ByRequest (record {
  headers = r.headers;
  offset = r.offset;
  is_verdict = verdict-stays side p h k (verdicts.Request r.headers r.offset) r.is_verdict;
  is_bi = r.is_bi;
  came =
      ap (λ (found : List Finding). is_dequeued found k) (findings-add side p h) ∙ list_any-append (dequeues k) (findings side h) (news side p h)
      ∙ ap (λ (b : Bool). b || list_any (dequeues k) (news side p h)) r.came;
}) c
parted-stays side p h k (ByResponse fields at e z c) =
    let more = contents-add p h k in
    ByResponse fields at (ap (λ (bytes : List ℕ). response_walk_of bytes (end_of (events (p ∷ h)) k)) more.1
    ∙ response-stays (contents h k) more.0 (end_of (events h) k) (end_of (events (p ∷ h)) k) fields at e) z c

-- a response of success is one
a-response : (w : ResponseWalk) → is_success w ≡ true → (fields : Fields) × (at : ℕ) × (w ≡ responses.Response fields at)
a-response (responses.Response fields at) e = (fields, at, refl)
a-response responses.Waiting e = absurd (cc e)
a-response responses.Ended e = absurd (cc e)
a-response (responses.Fault code) e = absurd (cc e)

-- a session that a reply gives
parted-new : (side : Side) (h : History) (turn : Turn) (k : ℕ) → IsHistory side (with_pair h turn (next side h turn)) → EstablishedFor side h (with_pair h turn (next side h turn)) k
    → Parted side (with_pair h turn (next side h turn)) k
parted-new Server h turn k i e =
    let given = last-given (with_pair h turn (next Server h turn)) k (numbered k (last_request (with_pair h turn (next Server h turn))) (and-left _ _ e.asked)) in
    ByRequest (given-request Server (with_pair h turn (next Server h turn)) i k given) refl
parted-new Client h turn k i e =
    let three = all-of (k == 0) (is_opened (with_pair h turn (next Client h turn)))
    (is_success (response_walk_of (contents (with_pair h turn (next Client h turn)) 0) (end_of (events (with_pair h turn (next Client h turn))) 0))) e.asked in
    let zero : k ≡ 0 = eqb-true k 0 three.0 in
    let walked = a-response (response_walk_of (contents (with_pair h turn (next Client h turn)) 0) (end_of (events (with_pair h turn (next Client h turn))) 0)) three.1 in
    ByResponse walked.0 walked.1 (ap (λ (j : ℕ). response_walk_of (contents (with_pair h turn (next Client h turn)) j) (end_of (events (with_pair h turn (next Client h turn))) j)) zero
    ∙ walked.2) zero refl
  where
    all-of : (a b c : Bool) → (a && b && c) ≡ true → (a ≡ true) × (c ≡ true)
    all-of true true c q = (refl, q)
    all-of true false c q = absurd (cc q)
    all-of false b c q = absurd (cc q)

-- its stream has a verdict before its moment, where the peer opened it
pub known-new : (side : Side) (h : History) (turn : Turn) (k : ℕ) → IsHistory side (with_pair h turn (next side h turn)) → EstablishedFor side h (with_pair h turn (next side h turn)) k
    → (is_peers side k && not (is_classified (findings side h) k)) ≡ false
known-new Server h turn k i e =
    let given = last-given (with_pair h turn (next Server h turn)) k (numbered k (last_request (with_pair h turn (next Server h turn))) (and-left _ _ e.asked)) in
    let c = given-classified Server (record { turn = turn; answer = next Server h turn }) h i k given in
    rw c (none (is_peers Server k))
  where
    none : (b : Bool) → (b && not true) ≡ false
    none true = refl
    none false = refl
known-new Client h turn k i e = rw (eqb-true k 0 (front (k == 0) (is_opened (with_pair h turn (next Client h turn))) _ e.asked)) refl
  where
    front : (a b c : Bool) → (a && b && c) ≡ true → a ≡ true
    front true b c q = refl
    front false b c q = absurd (cc q)

-- every established session
pub parted : (side : Side) (h : History) → IsHistory side h → (k : ℕ) → is_established h k ≡ true → Parted side h k
parted side [] i k e = absurd (cc e)
parted side (p ∷ h) i k e = by (session_in p.answer.reply) refl e (parted side h i.2 k)
  where
    again-is : Pair
    again-is = record { turn = p.turn; answer = next side h p.turn }

    same : again-is ≡ p
    same = ap (λ (a : Answer). record { turn = p.turn; answer = a }) (sym i.1)

    by : (o : Option ℕ) → session_in p.answer.reply ≡ o → list_any (λ (id : ℕ). id == k) (cons_option o (filter_map establishes h)) ≡ true → (is_established h k ≡ true → Parted side h k)
        → Parted side (p ∷ h) k
    by None q r again = parted-stays side p h k (again r)
    by (Some t) q r again = of (t == k) refl r
      where
        of : (b : Bool) → (t == k) ≡ b → (b || is_established h k) ≡ true → Parted side (p ∷ h) k
        of false w s = parted-stays side p h k (again s)
        of true w s =
            subst (λ (x : Pair). Parted side (x ∷ h) k) same
            (parted-new side h p.turn k (i.0, refl, i.2) (established-rightly side h p.turn i.2 i.0 k
            (ap (λ (a : Answer). session_in a.reply) (sym i.1) ∙ q ∙ ap (λ (n : ℕ). Some n) (eqb-true t k w))))

-- so that one pair more doesn't move it
pub begins-stays : (side : Side) (p : Pair) (h : History) (k : ℕ) → Parted side h k → begins_at (p ∷ h) (findings side h) k ≡ begins_at h (findings side h) k
begins-stays side p h k (ByRequest r c) = rw r.is_verdict refl
begins-stays side p h k (ByResponse fields at e z c) =
    let more = contents-add p h k in
    ap (λ (w : ResponseWalk). unwrap_or (after_request (verdict_of (findings side h) k)) (after_response w))
    (ap (λ (bytes : List ℕ). response_walk_of bytes (end_of (events (p ∷ h)) k)) more.1 ∙ response-stays (contents h k) more.0 (end_of (events h) k) (end_of (events (p ∷ h)) k) fields at e ∙ sym e)
