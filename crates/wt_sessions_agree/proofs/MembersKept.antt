-- What holds in a moment, and is kept by each of its checks: a session's streams are the same in both, and a session that is gone has a verdict or was established.
use Rattle.std.specs.Prelude.{[], ◌&&◌, ◌++◌, ◌==◌, ◌||◌, ◌∷◌, ◌≡◌, Bool, List, false, not, true, ℕ}
use Rattle.std.specs.List.{list_any}
use Rattle.std.proofs.Common.{◌∙◌, ap, refl, sym}
use Rattle.std.proofs.lemmas.Bool.{eqb-true}
use Rattle.std.proofs.lemmas.List.Folds.{list_any-append}
use Rattle.wt_meaning.specs.Findings.{Classified, Finding, SessionClosed, is_classified}
use Rattle.wt_meaning.specs.History.{History, exists, is_handed_out}
use Rattle.wt_meaning.specs.Moments.{keeps, stream_fault, verdict}
use Rattle.wt_meaning.specs.Sends.{admits, session_gone_actions}
use Rattle.wt_meaning.specs.Windows.{is_established, is_gone, is_gone_by_call, makes_gone}
use Rattle.wt_promise.proofs.Accepted.{and-left, or-true}
use Rattle.wt_promise.proofs.Grows.{AClassified, AClosed, ADatagram, ADequeued, AFault, ASettings, Adds, Kept, Nothing, is_peers, of-stream-fault}
use Rattle.wt_promise.proofs.MomentActs.{closes_session}
use Rattle.wt_proto.specs.declared.verdict.Verdict.{Verdict}
use Rattle.wt_sessions.specs.StreamTable.{CallView, StreamTable, TransportView, dispatched_streams, gone_actions}
use Rattle.wt_sessions_agree.proofs.Appends.{classified-more}
use Rattle.wt_sessions_agree.proofs.Basics.{or-false, or-first}
use Rattle.wt_sessions_agree.proofs.CameLaws.{Came, verdict-there}
use Rattle.wt_sessions_agree.proofs.MembersLaws.{gone-alike}
use Rattle.wt_sessions_agree.specs.Agrees.{IsTable}
use Rattle.wt_sessions_agree.specs.Members.{HalvesSeen, MembersIn, is_opened_for}
use Rattle.wt_sessions_agree.specs.Stands.{CallsAgree}
use Rattle.wt_wire.specs.declared.side.Side.{Side}
use Rattle.wt_proto.specs.declared.verdict.Verdict.TheVariants as verdicts

-- what holds of all that was found before a check
pub record Good (side : Side) (h : History) (calls : CallView) (found : List Finding) : Type 0 where
  pub members : MembersIn side h calls found
  pub handed : (k : ℕ) → is_handed_out h k ≡ true → is_peers side k ≡ true → is_classified found k ≡ true
  pub ended : (k : ℕ) → is_gone_by_call h k ≡ true → is_peers side k ≡ true → is_classified found k ≡ true
  pub known : (k : ℕ) → is_established h k ≡ true → is_peers side k ≡ true → is_classified found k ≡ true
  pub closed : (k : ℕ) → list_any (closes_session k) found ≡ true → is_established h k ≡ true
  pub came : Came side h

-- ---- what a check admits

no-admits : (s k : ℕ) (found : List Finding) (v : Verdict) → list_any (admits s k) (stream_fault found v) ≡ false
no-admits s k = of-stream-fault (λ (fs : List Finding). list_any (admits s k) fs ≡ false) refl (λ code. refl)

no-closing : (k : ℕ) (found : List Finding) (v : Verdict) → list_any (closes_session k) (stream_fault found v) ≡ false
no-closing k = of-stream-fault (λ (fs : List Finding). list_any (closes_session k) fs ≡ false) refl (λ code. refl)

-- what admits a stream is its verdict
admits-itself : (s k j : ℕ) (v : Verdict) (b : Bool) → admits s k (Classified j v b) ≡ true → (j == k) ≡ true
admits-itself s k j (verdicts.WebTransport t offset) true e = and-left (j == k) (t == s) e
admits-itself s k j v b e = absurd (cc e)

-- a stream that is admitted anew had no verdict before, and has one now
record Admitted (side : Side) (h : History) (found : List Finding) (k : ℕ) : Type 0 where
  new : is_classified found k ≡ false
  peers : is_peers side k ≡ true
  some : verdict h k ≡ verdicts.Incomplete → ⊥

-- a verdict that admits is one
admits-some : (s k j : ℕ) (v : Verdict) (b : Bool) → admits s k (Classified j v b) ≡ true → v ≡ verdicts.Incomplete → ⊥
admits-some s k j (verdicts.WebTransport t offset) b e q = cc q
admits-some s k j v b e q = cc

admitted-new : (side : Side) (h : History) (s k : ℕ) (found new : List Finding) → Adds side h found new → list_any (admits s k) new ≡ true → Admitted side h found k
admitted-new side h s k found [] Nothing e = absurd (cc e)
admitted-new side h s k found new (ADequeued j p) e = absurd (cc e)
admitted-new side h s k found new (ADatagram n t payload c) e = absurd (cc e)
admitted-new side h s k found new (AClosed t code reason b l) e = absurd (cc e)
admitted-new side h s k found new (ASettings c) e = absurd (cc e)
admitted-new side h s k found new (AFault code) e = absurd (cc e)
admitted-new side h s k found new (AClassified j v more p d c w m) e =
    let a : admits s k (Classified j v (keeps h found v)) ≡ true = or-first _ _ e (ap (list_any (admits s k)) m ∙ no-admits s k found v) in
    let i : j ≡ k = eqb-true j k (admits-itself s k j v (keeps h found v) a) in
    record { new = ap (is_classified found) (sym i) ∙ c; peers = ap (is_peers side) (sym i) ∙ p; some = λ n. admits-some s k j v (keeps h found v) a (sym w ∙ ap (verdict h) i ∙ n) }

-- what closes a session says so of one that lives
closing-lived : (side : Side) (h : History) (k : ℕ) (found new : List Finding) → Adds side h found new → list_any (closes_session k) new ≡ true → is_established h k ≡ true
closing-lived side h k found [] Nothing e = absurd (cc e)
closing-lived side h k found new (ADequeued j p) e = absurd (cc e)
closing-lived side h k found new (ADatagram n t payload c) e = absurd (cc e)
closing-lived side h k found new (AClosed t code reason b l) e = ap (is_established h) (sym (eqb-true t k (or-first (t == k) false e refl))) ∙ and-left (is_established h t) (not (is_gone h found t)) l
closing-lived side h k found new (ASettings c) e = absurd (cc e)
closing-lived side h k found new (AFault code) e = absurd (cc e)
closing-lived side h k found new (AClassified j v more p d c w m) e = absurd (let r : true ≡ false = sym e ∙ ap (list_any (closes_session k)) m ∙ no-closing k found v in cc r)

pub closed-more : (side : Side) (h : History) (found new : List Finding) → Adds side h found new → ((k : ℕ) → list_any (closes_session k) found ≡ true → is_established h k ≡ true)
    → (k : ℕ) → list_any (closes_session k) (found ++ new) ≡ true → is_established h k ≡ true
closed-more side h found new a g k e = by (list_any (closes_session k) found) refl (sym (list_any-append (closes_session k) found new) ∙ e)
  where
    by : (b : Bool) → list_any (closes_session k) found ≡ b → (b || list_any (closes_session k) new) ≡ true → is_established h k ≡ true
    by true i r = g k i
    by false i r = closing-lived side h k found new a r

-- ---- what is kept

-- the streams stay the same where what is new admits none that was handed out
members-more : (side : Side) (h : History) (calls : CallView) (found new : List Finding) → ((s k : ℕ) → list_any (admits s k) new ≡ true → (is_handed_out h k ≡ false) × (exists side h k ≡ true))
    → MembersIn side h calls found
    → MembersIn side h calls (found ++ new)
members-more side h calls found new fresh x = record {
  same =
      λ s k. x.same s k ∙ sym (ap (λ (b : Bool). (is_handed_out h k && b) || is_opened_for h s k) (list_any-append (admits s k) found new)
      ∙ ap (λ (b : Bool). b || is_opened_for h s k) (kept s k (list_any (admits s k) new) refl));
  ascends = x.ascends;
  there = λ s k e. there s k (list_any (admits s k) new) refl (ap (λ (b : Bool). b || is_opened_for h s k) (sym (list_any-append (admits s k) found new)) ∙ e);
}
  where
    kept : (s k : ℕ) (b : Bool) → list_any (admits s k) new ≡ b → (is_handed_out h k && (list_any (admits s k) found || b)) ≡ (is_handed_out h k && list_any (admits s k) found)
    kept s k true e = rw (fresh s k e).0 refl
    kept s k false e = ap (λ (b : Bool). is_handed_out h k && b) (or-false (list_any (admits s k) found))

    there : (s k : ℕ) (b : Bool) → list_any (admits s k) new ≡ b → ((list_any (admits s k) found || b) || is_opened_for h s k) ≡ true → exists side h k ≡ true
    there s k true e q = (fresh s k e).1
    there s k false e q = x.there s k (ap (λ (b : Bool). b || is_opened_for h s k) (sym (or-false (list_any (admits s k) found))) ∙ q)

not-handed : (side : Side) (h : History) (calls : CallView) (found : List Finding) → Good side h calls found → (k : ℕ) → Admitted side h found k
    → (is_handed_out h k ≡ false) × (exists side h k ≡ true)
not-handed side h calls found g k a = (by (is_handed_out h k) refl, verdict-there side h g.came k a.some)
  where
    by : (b : Bool) → is_handed_out h k ≡ b → b ≡ false
    by true e = absurd (let r : true ≡ false = sym (g.handed k e a.peers) ∙ a.new in cc r)
    by false e = refl

-- each check of a moment keeps it
pub good-kept : (side : Side) (h : History) (calls : CallView) → Kept side h (Good side h calls)
good-kept side h calls found new a f g = record {
  members = members-more side h calls found new (λ s k e. not-handed side h calls found g k (admitted-new side h s k found new a e)) g.members;
  handed = λ k e p. classified-more found new k (g.handed k e p);
  ended = λ k e p. classified-more found new k (g.ended k e p);
  known = λ k e p. classified-more found new k (g.known k e p);
  closed = closed-more side h found new a g.closed;
  came = g.came;
}

-- ---- what it is good for

pub good-alike : (side : Side) (h : History) (calls : CallView) (found : List Finding) (t : TransportView) (table : StreamTable) → Good side h calls found → IsTable found table → CallsAgree h calls
    → HalvesSeen side h t
    → (s : ℕ) → is_gone h found s ≡ false → session_gone_actions side h found s ≡ gone_actions t (dispatched_streams calls table) s
good-alike side h calls found t table g holds agree seen = gone-alike side h found t calls table holds agree seen g.members

-- a verdict makes its own stream's session gone
gone-itself : (k j : ℕ) (v : Verdict) (b : Bool) → makes_gone k (Classified j v b) ≡ true → (j == k) ≡ true
gone-itself k j (verdicts.Refused code) b e = e
gone-itself k j (verdicts.Request headers offset) false e = e
gone-itself k j v b e = absurd (cc e)

-- what is found gone has a verdict, or was closed
pub gone-why : (k : ℕ) (found : List Finding) → list_any (makes_gone k) found ≡ true → (is_classified found k || list_any (closes_session k) found) ≡ true
gone-why k [] e = absurd (cc e)
gone-why k (Classified j v b ∷ found) e = by (j == k) (makes_gone k (Classified j v b)) refl refl e (gone-why k found)
  where
    by : (c m : Bool) → (j == k) ≡ c → makes_gone k (Classified j v b) ≡ m → (m || list_any (makes_gone k) found) ≡ true
        → (list_any (makes_gone k) found ≡ true → (is_classified found k || list_any (closes_session k) found) ≡ true)
        → (is_classified (Classified j v b ∷ found) k || list_any (closes_session k) found) ≡ true
    by true m i n q again = rw i refl
    by false true i n q again = absurd (let r : true ≡ false = sym (gone-itself k j v b n) ∙ i in cc r)
    by false false i n q again = rw i (again q)
gone-why k (SessionClosed t code reason by_capsule ∷ found) e = by (t == k) e (gone-why k found)
  where
    by : (c : Bool) → (c || list_any (makes_gone k) found) ≡ true → (list_any (makes_gone k) found ≡ true → (is_classified found k || list_any (closes_session k) found) ≡ true)
        → (is_classified found k || (c || list_any (closes_session k) found)) ≡ true
    by true q again = or-true (is_classified found k)
    by false q again = again q
gone-why k (_ ∷ found) e = gone-why k found e

-- a stream without a verdict is no gone session's
pub good-fresh : (side : Side) (h : History) (calls : CallView) (found : List Finding) → Good side h calls found → (k : ℕ) → is_peers side k ≡ true → is_classified found k ≡ false
    → is_gone h found k ≡ false
good-fresh side h calls found g k p n = by (is_gone_by_call h k) (list_any (makes_gone k) found) refl refl
  where
    never : is_classified found k ≡ true → ⊥
    never e = let r : true ≡ false = sym e ∙ n in cc r

    closed : (b : Bool) → list_any (closes_session k) found ≡ b → (is_classified found k || b) ≡ true → ⊥
    closed true e q = never (g.known k (g.closed k e) p)
    closed false e q = never (sym (or-false (is_classified found k)) ∙ q)

    by : (a b : Bool) → is_gone_by_call h k ≡ a → list_any (makes_gone k) found ≡ b → (a || b) ≡ false
    by true b e q = absurd (never (g.ended k e p))
    by false true e q = absurd (closed (list_any (closes_session k) found) refl (gone-why k found q))
    by false false e q = refl
