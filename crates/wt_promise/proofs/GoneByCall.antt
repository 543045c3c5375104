-- A session that a call makes gone: what goes out for its streams is in the call's own actions.
use Rattle.std.specs.Prelude.{[], ◌&&◌, ◌==◌, ◌||◌, ◌∷◌, ◌≡◌, Bool, List, None, Option, Some, false, nat_lt, not, true, unwrap_or, ℕ}
use Rattle.std.specs.List.{list_any}
use Rattle.std.proofs.Common.{◌∙◌, ap, refl, subst, sym}
use Rattle.std.proofs.Math.Bool.{or-false}
use Rattle.std.proofs.lemmas.Bool.{eqb-true}
use Rattle.std.proofs.lemmas.List.Folds.{list_any-append}
use Rattle.wt_meaning.specs.Calls.{rows_of}
use Rattle.wt_meaning.specs.Findings.{Classified, Finding}
use Rattle.wt_meaning.specs.Handshakes.{last_begun, poll_rows}
use Rattle.wt_meaning.specs.History.{History, Pair, is_open}
use Rattle.wt_meaning.specs.Lawful.{is_response}
use Rattle.wt_meaning.specs.Meaning.{own_answer}
use Rattle.wt_meaning.specs.Moments.{findings, keeps}
use Rattle.wt_meaning.specs.Rows.{first_row}
use Rattle.wt_meaning.specs.Sends.{admits, session_finish, session_gone_actions}
use Rattle.wt_meaning.specs.Windows.{gone_in, is_gone, is_gone_by_call, is_number, last_request, makes_gone, named, streams_in_window}
use Rattle.wt_promise.proofs.OwnForms.{head_of}
use Rattle.wt_promise.proofs.Accepted.{and-left, not-true}
use Rattle.wt_promise.proofs.GoneWhy.{ByEnd, ByRejection, GoneBy, gone-by}
use Rattle.wt_promise.proofs.Grows.{AClassified, AClosed, ADatagram, ADequeued, AFault, ASettings, Adds, Nothing, findings-keep, of-stream-fault}
use Rattle.wt_promise.proofs.Owed.{has-left, has-right}
use Rattle.wt_promise.proofs.ResultKept.{APolled, AResponse, Rejecting, is-rejection, rejecting}
use Rattle.wt_promise.proofs.Shakes.{Finishes, Goes, GoesShuts, Rejects, Shake, Shut, Shuts, Still, gives_on, head_stream, shakes}
use Rattle.wt_promise.proofs.Tables.{fits, fits-own, is_rejected}
use Rattle.wt_promise.proofs.Waiting.{named-established}
use Rattle.wt_turn.specs.declared.action.Action.{Action}
use Rattle.wt_turn.specs.declared.answer.Answer.{Answer}
use Rattle.wt_turn.specs.declared.call.Call.{Call}
use Rattle.wt_turn.specs.declared.reply.Reply.{Reply}
use Rattle.wt_turn.specs.declared.turn.Turn.{Turn}
use Rattle.wt_wire.specs.declared.side.Side.{Side}
use Rattle.wt_proto.specs.declared.verdict.Verdict.TheVariants as verdicts
use Rattle.wt_turn.specs.declared.call.Call.TheVariants as calls
use Rattle.wt_turn.specs.declared.reply.Reply.TheVariants as replies
use Rattle.wt_turn.specs.declared.turn.Turn.TheVariants as turns

abbrev Tells : Side → History → ℕ → (Action → Bool) → Answer → Type 0
Tells side h s test a = is_rejected a.reply ≡ true → last_request h ≡ Some s → list_any test (session_gone_actions side h (findings side h) s) ≡ true → list_any test a.actions ≡ true

shake-tells : (test : Action → Bool) (side : Side) (h : History) (s : ℕ) (c : Call) (frame : List ℕ) → is_open h ≡ true → (a : Answer) → Shake side h c frame a → Tells side h s test a
shake-tells test side h s c frame o a x = by a x
  where
    spared : (r : Reply) → gives_on r ≡ true → is_rejected r ≡ true → ⊥
    spared replies.Rejected f q = cc f
    spared r f q = cc q

    mine : (d : Call) → is_response d ≡ true → last_request h ≡ Some s → list_any test (session_gone_actions side h (findings side h) s) ≡ true → list_any test (session_gone_actions side h (findings side h) (head_stream h d)) ≡ true
    mine (calls.Connect options lookup outcome) i l t = absurd (cc i)
    mine d i l t = ap (λ (y : Option ℕ). list_any test (session_gone_actions side h (findings side h) (unwrap_or y 0))) l ∙ t

    by : (b : Answer) → Shake side h c frame b → Tells side h s test b
    by b (Shut i n) = absurd (let q : true ≡ false = sym o ∙ n in cc q)
    by b (Still r f) = λ q. absurd (spared r f q)
    by b (Shuts r code f m) = λ q. absurd (spared r f q)
    by b (Goes r f) = λ q. absurd (spared r f q)
    by b (GoesShuts r code f m) = λ q. absurd (spared r f q)
    by b (Finishes i m) = λ q. absurd (cc q)
    by b (Rejects i t code m) = λ q l e. has-left test (session_gone_actions side h (findings side h) (head_stream h c)) _ (mine c i l e)

polls-tell : (test : Action → Bool) (side : Side) (h : History) (s : ℕ) (begun : Option Call) → is_open h ≡ true → Tells side h s test (first_row (poll_rows side h begun))
polls-tell test side h s None o = λ q. absurd (cc q)
polls-tell test side h s (Some c) o = shake-tells test side h s c (head_of (Some c)) o _ (shakes side h c).first

responses-tell : (test : Action → Bool) (side : Side) (h : History) (s : ℕ) (c : Call) → is_open h ≡ true → is_response c ≡ true → Tells side h s test (first_row (rows_of side h c))
responses-tell test side h s (calls.Accept headers) o r = polls-tell test side h s (Some (calls.Accept headers)) o
responses-tell test side h s calls.Forbidden o r = polls-tell test side h s (Some calls.Forbidden) o
responses-tell test side h s calls.NotFound o r = polls-tell test side h s (Some calls.NotFound) o
responses-tell test side h s calls.TooManyRequests o r = polls-tell test side h s (Some calls.TooManyRequests) o
responses-tell test side h s c o r = absurd (cc r)

rejected-by : (test : Action → Bool) (side : Side) (h : History) (s : ℕ) (call : Call) → is_open h ≡ true → Tells side h s test (first_row (rows_of side h call))
rejected-by test side h s call o q = by (rejecting call (ap (fits call) (sym (is-rejection (first_row (rows_of side h call)).reply q)) ∙ fits-own side h call)) q
  where
    by : Rejecting call → Tells side h s test (first_row (rows_of side h call))
    by (AResponse r) = responses-tell test side h s call o r
    by (APolled x) = subst (λ (c : Call). Tells side h s test (first_row (rows_of side h c))) (sym x) (polls-tell test side h s (last_begun h) o)

-- an ending of the session
end-tells : (test : Action → Bool) (side : Side) (h : History) (name : Option ℕ) (s : ℕ) → is_open h ≡ true → named h name ≡ Some s → is_gone h (findings side h) s ≡ false
    → list_any test (session_gone_actions side h (findings side h) s) ≡ true → list_any test (own_answer side h (turns.Call (calls.EndSession name))).actions ≡ true
end-tells test side h name s o n g t = rw (n, o, named-established h name s n, g) (has-right test (session_finish h s) (session_gone_actions side h (findings side h) s) t)

-- whatever a call makes gone, it tells
pub call-tells : (test : Action → Bool) (side : Side) (h : History) (turn : Turn) (s : ℕ) → is_open h ≡ true → is_gone h (findings side h) s ≡ false → is_number s (gone_in h turn (own_answer side h turn).reply) ≡ true
    → list_any test (session_gone_actions side h (findings side h) s) ≡ true → list_any test (own_answer side h turn).actions ≡ true
call-tells test side h (turns.Call call) s o g n t = by (gone-by h (turns.Call call) (first_row (rows_of side h call)).reply s n)
  where
    by : GoneBy h (turns.Call call) (first_row (rows_of side h call)).reply s → list_any test (first_row (rows_of side h call)).actions ≡ true
    by (ByRejection r q) = rejected-by test side h s call o (ap is_rejected r) q t
    by (ByEnd name e q) = subst (λ (x : Turn). list_any test (own_answer side h x).actions ≡ true) (sym e) (end-tells test side h name s o q g t)
call-tells test side h turn s o g n t = absurd (cc n)

-- ---- what a call made gone admits no stream

none-admitted : (side : Side) (h : History) (s k : ℕ) → is_gone_by_call h s ≡ true → (found new : List Finding) → Adds side h found new → list_any (admits s k) new ≡ false
none-admitted side h s k g found [] Nothing = refl
none-admitted side h s k g found new (ADequeued j p) = refl
none-admitted side h s k g found new (ADatagram n t payload c) = refl
none-admitted side h s k g found new (AClosed t code reason b l) = refl
none-admitted side h s k g found new (ASettings c) = refl
none-admitted side h s k g found new (AFault code) = refl
none-admitted side h s k g found new (AClassified j (verdicts.WebTransport t offset) more p d c w m) = by (keeps h found (verdicts.WebTransport t offset)) (t == s) refl refl
  where
    none-more : list_any (admits s k) more ≡ false
    none-more = ap (list_any (admits s k)) m

    not-both : (a b : Bool) → b ≡ false → ((a && false) || b) ≡ false
    not-both true b e = e
    not-both false b e = e

    by : (b same : Bool) → keeps h found (verdicts.WebTransport t offset) ≡ b → (t == s) ≡ same → list_any (admits s k) (Classified j (verdicts.WebTransport t offset) b ∷ more) ≡ false
    by false same x q = none-more
    by true false x q = ap (λ (b : Bool). (j == k && b) || list_any (admits s k) more) q ∙ not-both (j == k) (list_any (admits s k) more) none-more
    by true true x q =
        let gone : is_gone h found t ≡ true = ap (is_gone h found) (eqb-true t s q) ∙ ap (λ (b : Bool). b || list_any (makes_gone s) found) g in
        let living : is_gone h found t ≡ false = not-true (is_gone h found t) (and-left (not (is_gone h found t)) (nat_lt (streams_in_window h found t) 16) x) in
        absurd (let r : true ≡ false = sym gone ∙ living in cc r)
none-admitted side h s k g found new (AClassified j v more p d c w m) = ap (list_any (admits s k)) m ∙ of-stream-fault (λ (fs : List Finding). list_any (admits s k) fs ≡ false) refl (λ code. refl) found v

pub admits-no-more : (side : Side) (p : Pair) (h : History) (s k : ℕ) → is_gone_by_call (p ∷ h) s ≡ true → list_any (admits s k) (findings side (p ∷ h)) ≡ list_any (admits s k) (findings side h)
admits-no-more side p h s k g =
    findings-keep side p h (λ (found : List Finding). list_any (admits s k) found ≡ list_any (admits s k) (findings side h))
    (λ found new a n e. list_any-append (admits s k) found new ∙ ap (λ (b : Bool). list_any (admits s k) found || b) (none-admitted side (p ∷ h) s k g found new a) ∙ or-false (list_any (admits s k) found) ∙ e) refl
