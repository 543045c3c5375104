-- A request that was given and isn't answered: its verdict is a request, and its session isn't gone.
use Rattle.std.specs.Prelude.{[], ◌++◌, ◌==◌, ◌||◌, ◌∷◌, ◌≡◌, Bool, List, None, Option, Some, false, if◌then◌else◌, not, true, unwrap_or, ℕ}
use Rattle.std.specs.List.{list_any}
use Rattle.std.proofs.Common.{◌∙◌, ap, refl, sym}
use Rattle.std.proofs.lemmas.Bool.{eq-eqb, eqb-true}
use Rattle.std.proofs.lemmas.List.Folds.{list_any-append}
use Rattle.wt_meaning.specs.Findings.{Classified, Finding, first_of, is_classified, verdict_in, verdict_of}
use Rattle.wt_meaning.specs.Handshakes.{was_given}
use Rattle.wt_meaning.specs.History.{History, Pair, is_open}
use Rattle.wt_meaning.specs.Lawful.{gives_request, has_request, is_first, is_lawful, is_of_request, is_response, is_waiting, may_call, polls}
use Rattle.wt_meaning.specs.Meaning.{next}
use Rattle.wt_meaning.specs.Moments.{findings, keeps, stream_fault}
use Rattle.wt_meaning.specs.Windows.{gone_in, is_established, is_gone, is_gone_by_call, is_number, last_request, makes_gone, named, request_in}
use Rattle.wt_promise.proofs.Accepted.{and-left, and-right, or-true}
use Rattle.wt_promise.proofs.Few.{given-by-incoming, given-queued}
use Rattle.wt_promise.proofs.Flow.{clash}
use Rattle.wt_promise.proofs.Grows.{AClassified, AClosed, ADatagram, ADequeued, AFault, ASettings, Adds, Nothing, findings-keep, first_of-append, first_of-stays, of-stream-fault}
use Rattle.wt_promise.proofs.Phases.{given-monotone, incoming-new, last-given, phase, same-last}
use Rattle.wt_promise.proofs.ResultKept.{APolled, AResponse, Rejecting, rejecting}
use Rattle.wt_promise.proofs.Stays.{established-stays}
use Rattle.wt_promise.proofs.Tables.{fits, fits-own}
use Rattle.wt_promise.proofs.Waiting.{named-established}
use Rattle.wt_promise.specs.Promise.{IsHistory}
use Rattle.wt_proto.specs.declared.verdict.Verdict.{Verdict}
use Rattle.wt_promise.proofs.GoneWhy.{ByEnd, ByRejection, GoneBy, gone-by}
use Rattle.wt_sessions_agree.proofs.PartLaws.{none-queued, queues, queues-has}
use Rattle.wt_turn.specs.declared.answer.Answer.{Answer}
use Rattle.wt_turn.specs.declared.call.Call.{Call}
use Rattle.wt_turn.specs.declared.reply.Reply.{Reply}
use Rattle.wt_turn.specs.declared.turn.Turn.{Turn}
use Rattle.wt_wire.specs.HeaderList.{Fields}
use Rattle.wt_wire.specs.declared.side.Side.{Side}
use Rattle.wt_wire.specs.declared.side.Side.TheVariants.{Server}
use Rattle.wt_proto.specs.declared.verdict.Verdict.TheVariants as verdicts
use Rattle.wt_turn.specs.declared.call.Call.TheVariants as calls
use Rattle.wt_turn.specs.declared.reply.Reply.TheVariants as replies
use Rattle.wt_turn.specs.declared.turn.Turn.TheVariants as turns

-- ---- what was found of a stream whose session isn't established

-- it has no verdict, or is a queued request, or anything else
data Marks (s : ℕ) (found : List Finding) : Type 0 where
  Unmarked : verdict_of found s ≡ None → list_any (makes_gone s) found ≡ false → list_any (queues s) found ≡ false → Marks s found
  Queued : (headers : Fields) (offset : ℕ) → verdict_of found s ≡ Some (verdicts.Request headers offset) → list_any (makes_gone s) found ≡ false → Marks s found
  Other : (v : Verdict) → verdict_of found s ≡ Some v → list_any (queues s) found ≡ false → Marks s found

none-with : (test : Finding → Bool) (found new : List Finding) → list_any test found ≡ false → list_any test new ≡ false → list_any test (found ++ new) ≡ false
none-with test found new e n = list_any-append test found new ∙ rw (e, n) refl

-- what says nothing of the stream
marks-with : (s : ℕ) (found new : List Finding) → first_of (verdict_in s) new ≡ None → list_any (makes_gone s) new ≡ false → list_any (queues s) new ≡ false → Marks s found → Marks s (found ++ new)
marks-with s found new n g q (Unmarked v a b) = Unmarked (first_of-append (verdict_in s) found new ∙ rw (v, n) refl) (none-with (makes_gone s) found new a g) (none-with (queues s) found new b q)
marks-with s found new n g q (Queued headers offset v a) = Queued headers offset (first_of-stays (verdict_in s) found new (verdicts.Request headers offset) v) (none-with (makes_gone s) found new a g)
marks-with s found new n g q (Other w v b) = Other w (first_of-stays (verdict_in s) found new w v) (none-with (queues s) found new b q)

none-gone : (s : ℕ) (found : List Finding) (v : Verdict) → list_any (makes_gone s) (stream_fault found v) ≡ false
none-gone s = of-stream-fault (λ (fs : List Finding). list_any (makes_gone s) fs ≡ false) refl (λ code. refl)

none-verdict : (s : ℕ) (found : List Finding) (v : Verdict) → first_of (verdict_in s) (stream_fault found v) ≡ None
none-verdict s = of-stream-fault (λ (fs : List Finding). first_of (verdict_in s) fs ≡ None) refl (λ code. refl)

-- a finding of another stream's verdict says nothing
other-gone : (j s : ℕ) (v : Verdict) (b : Bool) → (j == s) ≡ false → makes_gone s (Classified j v b) ≡ false
other-gone j s (verdicts.Refused code) b e = e
other-gone j s (verdicts.Request headers offset) false e = e
other-gone j s (verdicts.Request headers offset) true e = refl
other-gone j s v b e = refl

other-queued : (j s : ℕ) (v : Verdict) (b : Bool) → (j == s) ≡ false → queues s (Classified j v b) ≡ false
other-queued j s (verdicts.Request headers offset) true e = e
other-queued j s (verdicts.Request headers offset) false e = refl
other-queued j s v b e = refl

-- its own verdict is its first
marks-own : (s : ℕ) (found more : List Finding) (v : Verdict) (b : Bool) → is_classified found s ≡ false → list_any (makes_gone s) more ≡ false → list_any (queues s) more ≡ false
    → Marks s found → Marks s (found ++ (Classified s v b ∷ more))
marks-own s found more v b c g q (Queued headers offset w a) = absurd (let r = rw w at c in cc r)
marks-own s found more v b c g q (Other u w a) = absurd (let r = rw w at c in cc r)
marks-own s found more v b c g q (Unmarked n a d) = by v b own
  where
    own : verdict_of (found ++ (Classified s v b ∷ more)) s ≡ Some v
    own = first_of-append (verdict_in s) found (Classified s v b ∷ more) ∙ rw (n, eq-eqb s s refl) refl

    by : (w : Verdict) (k : Bool) → verdict_of (found ++ (Classified s w k ∷ more)) s ≡ Some w → Marks s (found ++ (Classified s w k ∷ more))
    by (verdicts.Request headers offset) true e = Queued headers offset e (none-with (makes_gone s) found _ a g)
    by (verdicts.Request headers offset) false e = Other _ e (none-with (queues s) found _ d q)
    by w k e = Other w e (none-with (queues s) found _ d q)

marks-step : (side : Side) (h : History) (s : ℕ) → is_established h s ≡ false → (found new : List Finding) → Adds side h found new → Marks s found → Marks s (found ++ new)
marks-step side h s u found [] Nothing m = marks-with s found [] refl refl refl m
marks-step side h s u found new (ADequeued j p) m = marks-with s found new refl refl refl m
marks-step side h s u found new (ADatagram n t payload c) m = marks-with s found new refl refl refl m
marks-step side h s u found new (ASettings c) m = marks-with s found new refl refl refl m
marks-step side h s u found new (AFault code) m = marks-with s found new refl refl refl m
marks-step side h s u found new (AClosed t code reason b l) m = by (t == s) refl
  where
    by : (x : Bool) → (t == s) ≡ x → Marks s (found ++ new)
    by false q = marks-with s found new refl (rw q refl) refl m
    by true q = absurd (clash (is_established h s) (ap (is_established h) (sym (eqb-true t s q)) ∙ and-left (is_established h t) _ l) u)
marks-step side h s u found new (AClassified j v more p d c w e) m = by (j == s) refl
  where
    by : (x : Bool) → (j == s) ≡ x → Marks s (found ++ (Classified j v (keeps h found v) ∷ more))
    by false q =
        marks-with s found (Classified j v (keeps h found v) ∷ more) (rw (q, e) (none-verdict s found v))
        (rw (other-gone j s v (keeps h found v) q, e) (none-gone s found v)) (rw (other-queued j s v (keeps h found v) q, e) (none-queued s found v)) m
    by true q =
        let i : j ≡ s = eqb-true j s q in
        rw i (marks-own s found more v (keeps h found v) (ap (is_classified found) (sym i) ∙ c) (rw e (none-gone s found v)) (rw e (none-queued s found v)) m)

unestablished-before : (p : Pair) (h : History) (s : ℕ) → is_established (p ∷ h) s ≡ false → is_established h s ≡ false
unestablished-before p h s u = by (is_established h s) refl
  where
    by : (b : Bool) → is_established h s ≡ b → b ≡ false
    by false e = refl
    by true e = absurd (clash (is_established (p ∷ h) s) (established-stays p h s e) u)

marks : (side : Side) (h : History) (s : ℕ) → is_established h s ≡ false → Marks s (findings side h)
unfolding findings
marks side [] s u = Unmarked refl refl refl
marks side (p ∷ h) s u = findings-keep side p h (Marks s) (λ found new a n m. marks-step side (p ∷ h) s u found new a m) (marks side h s (unestablished-before p h s u))

-- a request that was given and whose session isn't established
pub record GivenRequest (side : Side) (h : History) (s : ℕ) : Type 0 where
  pub headers : Fields
  pub offset : ℕ
  pub verdict : verdict_of (findings side h) s ≡ Some (verdicts.Request headers offset)
  pub stays : list_any (makes_gone s) (findings side h) ≡ false

pub given-request : (side : Side) (h : History) → IsHistory side h → (s : ℕ) → was_given h s ≡ true → is_established h s ≡ false → GivenRequest side h s
given-request side h i s g u = by (marks side h s u)
  where
    queued : list_any (queues s) (findings side h) ≡ true
    queued = queues-has s (findings side h) (given-queued side h i s g)

    by : Marks s (findings side h) → GivenRequest side h s
    by (Unmarked v a b) = absurd (clash (list_any (queues s) (findings side h)) queued b)
    by (Queued headers offset v a) = record { headers = headers; offset = offset; verdict = v; stays = a }
    by (Other w v b) = absurd (clash (list_any (queues s) (findings side h)) queued b)

-- ---- what a call makes gone was answered

-- a response is due to the request that was given last
abbrev pub is_asked : History → Bool
is_asked h = has_request h || is_waiting h

-- a request that was given, and isn't the last one to which a response is due
record Answered (h : History) (r : ℕ) : Type 0 where
  given : was_given h r ≡ true
  idle : last_request h ≡ Some r → is_asked h ≡ false

-- a call of the handshake asks that a response be due
pub polls-due : (h : History) (c : Call) → may_call Server h c ≡ true → polls (turns.Call c) ≡ true → is_asked h ≡ true
polls-due h (calls.Connect options lookup outcome) l p = absurd (cc l)
polls-due h calls.Handshake l p = rw l (or-true (has_request h))
polls-due h (calls.Accept headers) l p = rw (and-right (not (is_first h)) (has_request h) l) refl
polls-due h calls.Forbidden l p = rw (and-right (not (is_first h)) (has_request h) l) refl
polls-due h calls.NotFound l p = rw (and-right (not (is_first h)) (has_request h) l) refl
polls-due h calls.TooManyRequests l p = rw (and-right (not (is_first h)) (has_request h) l) refl
polls-due h c l p = absurd (cc p)

-- a turn that neither polls nor gives a request asks for no response
idle-with : (p : Pair) (h : History) → polls p.turn ≡ false → gives_request p.answer.reply ≡ false → is_asked h ≡ false → is_asked (p ∷ h) ≡ false
idle-with p h a g e = rw (a, g) (by (is_of_request p.turn) (has_request h) (is_waiting h) e)
  where
    by : (o q w : Bool) → (q || w) ≡ false → ((if o then false else q) || w) ≡ false
    by true q true e = absurd (let r = sym (or-true q) ∙ e in cc r)
    by true q false e = refl
    by false q w e = e

answered-stays : (p : Pair) (h : History) → IsHistory Server (p ∷ h) → (r : ℕ) → Answered h r → Answered (p ∷ h) r
answered-stays p h i r a = record { given = given-monotone p h r a.given; idle = idle p.turn refl }
  where
    reply-of : (turn : Turn) → p.turn ≡ turn → p.answer.reply ≡ (next Server h turn).reply
    reply-of turn e = ap (λ (x : Answer). x.reply) (i.1 ∙ ap (next Server h) e)

    same : gives_request p.answer.reply ≡ false → last_request (p ∷ h) ≡ Some r → last_request h ≡ Some r
    same g l = sym (same-last p h g) ∙ l

    plain : (c : Call) → p.turn ≡ turns.Call c → gives_request p.answer.reply ≡ false → last_request (p ∷ h) ≡ Some r → (b : Bool) → polls (turns.Call c) ≡ b → is_asked (p ∷ h) ≡ false
    plain c t g l true q = absurd (clash (is_asked h) (polls-due h c (ap (is_lawful Server h) (sym t) ∙ i.0) q) (a.idle (same g l)))
    plain c t g l false q = idle-with p h (ap polls t ∙ q) g (a.idle (same g l))

    by : (x : Reply) → p.answer.reply ≡ x → (c : Call) → p.turn ≡ turns.Call c → fits c x ≡ true → last_request (p ∷ h) ≡ Some r → is_asked (p ∷ h) ≡ false
    by (replies.Request id headers) e c t f l =
        let n : turns.Call c ≡ turns.Call calls.Incoming = ap (λ (d : Call). turns.Call d) (given-by-incoming c id headers f) in
        let new : was_given h id ≡ false = incoming-new Server h id (ap request_in (sym (reply-of (turns.Call calls.Incoming) (t ∙ n)) ∙ e)) in
        let is : id ≡ r = (let m = rw e at l in cc m) in absurd (clash (was_given h r) a.given (ap (was_given h) (sym is) ∙ new))
    by x e c t f l = plain c t (ap gives_request e) l (polls (turns.Call c)) refl

    idle : (turn : Turn) → p.turn ≡ turn → last_request (p ∷ h) ≡ Some r → is_asked (p ∷ h) ≡ false
    idle (turns.Call c) t l = by p.answer.reply refl c t (ap (fits c) (reply-of (turns.Call c) t) ∙ fits-own Server h c) l
    idle turn t l = idle-with p h (ap polls t) (ap gives_request (reply-of turn t)) (a.idle (same (ap gives_request (reply-of turn t)) l))

response-polls : (c : Call) → is_response c ≡ true → (polls (turns.Call c) ≡ true) × (is_of_request (turns.Call c) ≡ true)
response-polls (calls.Accept headers) e = (refl, refl)
response-polls calls.Forbidden e = (refl, refl)
response-polls calls.NotFound e = (refl, refl)
response-polls calls.TooManyRequests e = (refl, refl)
response-polls c e = absurd (cc e)

-- a rejection that is over
rejected-idle : (p : Pair) (h : History) (c : Call) → IsHistory Server (p ∷ h) → p.turn ≡ turns.Call c → p.answer.reply ≡ replies.Rejected → Rejecting c → is_asked (p ∷ h) ≡ false
rejected-idle p h c i t e (AResponse r) = let o = response-polls c r in rw (t, o.0, o.1, e) refl
rejected-idle p h c i t e (APolled q) =
    let w : is_waiting h ≡ true = ap (is_lawful Server h) (sym (t ∙ ap (λ (d : Call). turns.Call d) q)) ∙ i.0 in rw (t, q, e) (unasked (has_request h) refl w)
  where
    unasked : (b : Bool) → has_request h ≡ b → is_waiting h ≡ true → (b || false) ≡ false
    unasked false q w = refl
    unasked true q w = absurd (clash (is_waiting h) w ((phase h i.2).apart q))

gone-now : (p : Pair) (h : History) → IsHistory Server (p ∷ h) → (r : ℕ) → is_established h r ≡ false → is_number r (gone_in h p.turn p.answer.reply) ≡ true → Answered (p ∷ h) r
gone-now p h i r u g = by p.turn refl (gone-by h p.turn p.answer.reply r g)
  where
    reply-of : (turn : Turn) → p.turn ≡ turn → p.answer.reply ≡ (next Server h turn).reply
    reply-of turn e = ap (λ (x : Answer). x.reply) (i.1 ∙ ap (next Server h) e)

    rejected : (turn : Turn) → p.turn ≡ turn → p.answer.reply ≡ replies.Rejected → last_request h ≡ Some r → Answered (p ∷ h) r
    rejected (turns.Call c) t e q = record {
      given = given-monotone p h r (last-given h r q);
      idle = λ l. rejected-idle p h c i t e (rejecting c (ap (fits c) (sym e ∙ reply-of (turns.Call c) t) ∙ fits-own Server h c));
    }
    rejected turn t e q = absurd (let m = sym e ∙ reply-of turn t in cc m)

    by : (turn : Turn) → p.turn ≡ turn → GoneBy h p.turn p.answer.reply r → Answered (p ∷ h) r
    by turn t (ByRejection e q) = rejected turn t e q
    by turn t (ByEnd name e q) = absurd (clash (is_established h r) (named-established h name r q) u)

gone-answered : (h : History) → IsHistory Server h → (r : ℕ) → is_established h r ≡ false → is_gone_by_call h r ≡ true → Answered h r
gone-answered [] i r u g = absurd (cc g)
gone-answered (p ∷ h) i r u g = by (is_number r (gone_in h p.turn p.answer.reply)) refl g (gone-answered h i.2 r (unestablished-before p h r u))
  where
    by : (b : Bool) → is_number r (gone_in h p.turn p.answer.reply) ≡ b → (b || is_gone_by_call h r) ≡ true → (is_gone_by_call h r ≡ true → Answered h r) → Answered (p ∷ h) r
    by true q e again = gone-now p h i r (unestablished-before p h r u) q
    by false q e again = answered-stays p h i r (again e)

-- ---- the request to which a response is due

pub record DueRequest (h : History) : Type 0 where
  pub id : ℕ
  pub last : last_request h ≡ Some id
  pub new : is_established h id ≡ false
  pub request : GivenRequest Server h id
  pub stays : is_gone h (findings Server h) id ≡ false

pub due-request : (h : History) → IsHistory Server h → is_asked h ≡ true → DueRequest h
due-request h i a =
    let r = (phase h i).asked a in let g = given-request Server h i r.0 (last-given h r.0 r.1) r.2 in
    record { id = r.0; last = r.1; new = r.2; request = g; stays = rw g.stays (by r.0 r.1 r.2 (is_gone_by_call h r.0) refl) }
  where
    by : (s : ℕ) → last_request h ≡ Some s → is_established h s ≡ false → (b : Bool) → is_gone_by_call h s ≡ b → (b || false) ≡ false
    by s l u false g = refl
    by s l u true g = absurd (clash (is_asked h) a ((gone-answered h i s u g).idle l))

-- so its session isn't gone
pub due-not-gone : (h : History) → IsHistory Server h → is_asked h ≡ true → is_gone h (findings Server h) (unwrap_or (last_request h) 0) ≡ false
due-not-gone h i a = let d = due-request h i a in ap (λ (o : Option ℕ). is_gone h (findings Server h) (unwrap_or o 0)) d.last ∙ d.stays
