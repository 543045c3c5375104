-- What a log that lawful turns lead to says of requests: which are queued and held, and when the session of one is gone.
use Rattle.std.proofs.Common.{◌∙◌, ◌≤◌, ap, arith, cond, refl, subst, sym}
use Rattle.std.proofs.lemmas.Bool.{eq-eqb, eqb-true}
use Rattle.std.specs.List.{list_any}
use Rattle.std.specs.Prelude.{[], ◌%◌, ◌&&◌, ◌==◌, ◌∷◌, ◌||◌, ◌≡◌, Bool, List, Some, false, filter, filter_map, is_some, length, not, true, ℕ}
use Rattle.wt_driver_laws.proofs.Reach.{Told, told}
use Rattle.wt_driver_laws.proofs.ReachHalves.{verdict-is}
use Rattle.wt_driver_laws.proofs.ReachHeads.{client-not-given, never}
use Rattle.wt_driver_laws.specs.Driving.{IsReachable}
use Rattle.wt_follows.specs.Roles.{is_in}
use Rattle.wt_follows.specs.Tie.{header_verdict}
use Rattle.wt_meaning.specs.Findings.{Finding, is_classified}
use Rattle.wt_meaning.specs.Findings as finds
use Rattle.wt_meaning.specs.Handshakes.{was_given}
use Rattle.wt_meaning.specs.History.{History}
use Rattle.wt_meaning.specs.Lawful.{is_client}
use Rattle.wt_meaning.specs.Moments.{findings}
use Rattle.wt_meaning.specs.Windows.{is_established, is_gone, is_gone_by_call, makes_gone, queued_request}
use Rattle.wt_promise.proofs.Accepted.{and-left, or-true}
use Rattle.wt_promise.proofs.Facts.{classified_rightly}
use Rattle.wt_promise.proofs.Few.{at-most-four, given-queued, has}
use Rattle.wt_promise.proofs.Flow.{clash}
use Rattle.wt_promise.proofs.Grows.{is_peers}
use Rattle.wt_promise.proofs.HandedOut.{only-peers}
use Rattle.wt_promise.proofs.MomentActs.{closes_session, or-either}
use Rattle.wt_promise.specs.Promise.{IsHistory}
use Rattle.wt_proto.specs.declared.verdict.Verdict.{Verdict}
use Rattle.wt_sessions.proofs.Indexed.{AllOf}
use Rattle.wt_sessions.specs.Driver.{call_view, dispatched, is_session_gone, stream_table}
use Rattle.wt_sessions.specs.StreamTable.{Classified, is_queued, is_session, queued_id, verdict_of, was_established}
use Rattle.wt_sessions_agree.proofs.DueLaws.{GivenRequest, given-request}
use Rattle.wt_sessions_agree.proofs.FoundLaws.{verdicts-agree}
use Rattle.wt_sessions_agree.proofs.MembersBefore.{closed-established, ended-why}
use Rattle.wt_sessions_agree.proofs.MembersKept.{gone-why}
use Rattle.wt_sessions_agree.proofs.PartLaws.{RequestOf, queued-verdict, queues, queues-has}
use Rattle.wt_sessions_agree.proofs.ThereLaws.{server-kind}
use Rattle.wt_sessions_agree.proofs.WaitLaws.{gone-is}
use Rattle.wt_sessions_agree.proofs.WindowLaws.{held-count}
use Rattle.wt_sessions_agree.specs.Agrees.{classified_in}
use Rattle.wt_turn.specs.Log.{Log}
use Rattle.wt_wire.specs.declared.side.Side.{Side}
use Rattle.wt_wire.specs.declared.side.Side.TheVariants.{Client, Server}
use Rattle.wt_proto.specs.declared.verdict.Verdict.TheVariants as verdicts

-- ---- a request comes on a bidirectional stream of the client

pub server-is : (side : Side) → is_client side ≡ false → side ≡ Server
server-is Server e = refl
server-is Client e = absurd (cc e)

queued-kind : (side : Side) (log : Log) (t : Told side log) → is_client side ≡ false → (k : ℕ) → list_any (queues k) (findings side t.h) ≡ true → k % 4 ≡ 0
queued-kind side log t c k e = by side (server-is side c) (only-peers side t.h k (ap is_some r.is_verdict))
  where
    r : RequestOf (findings side t.h) k
    r = queued-verdict side t.h k e

    by : (x : Side) → x ≡ Server → is_peers x k ≡ true → k % 4 ≡ 0
    by Server s p = server-kind k p r.is_bi
    by Client s p = absurd (cc s)

-- a queued entry of the table stands where its finding queues it
abbrev OnSession : Classified → Type 0
OnSession c = is_queued c ≡ true → c.id % 4 ≡ 0

all-queued : (found : List Finding) → ((k : ℕ) → list_any (queues k) found ≡ true → k % 4 ≡ 0) → AllOf OnSession (filter_map classified_in found)
all-queued [] f = tt
all-queued (finds.Classified id (verdicts.Request headers offset) true ∷ found) f =
    (λ e. f id (ap (λ (b : Bool). b || list_any (queues id) found) (eq-eqb id id refl)), all-queued found (λ k e. f k (ap (λ (b : Bool). (id == k) || b) e ∙ or-true (id == k))))
all-queued (finds.Classified id (verdicts.Request headers offset) false ∷ found) f = (λ e. absurd (cc e), all-queued found f)
all-queued (finds.Classified id v b ∷ found) f = (λ e. absurd (cc e), all-queued found f)
all-queued (x ∷ found) f = all-queued found f

queued-filtered : (test : Classified → Bool) (cs : List Classified) → AllOf OnSession cs → AllOf (λ (c : Classified). c.id % 4 ≡ 0) (filter (λ (c : Classified). is_queued c && test c) cs)
queued-filtered test [] all = tt
queued-filtered test (c ∷ cs) all = by (is_queued c && test c) refl (queued-filtered test cs all.1)
  where
    by : (b : Bool) → (is_queued c && test c) ≡ b → AllOf (λ (x : Classified). x.id % 4 ≡ 0) (filter (λ (x : Classified). is_queued x && test x) cs)
        → AllOf (λ (x : Classified). x.id % 4 ≡ 0) (cond b (c ∷ filter (λ (x : Classified). is_queued x && test x) cs) (filter (λ (x : Classified). is_queued x && test x) cs))
    by true e again = (all.0 (and-left (is_queued c) (test c) e), again)
    by false e again = again

pub requests_on_sessions : (side : Side) (log : Log) → IsReachable side log → is_client side ≡ false → AllOf (λ (c : Classified). c.id % 4 ≡ 0) (dispatched side log).requests
requests_on_sessions side log r c =
    queued-filtered (λ (x : Classified). not ((call_view log).delivered x.id)) (stream_table side log).classified
    (subst (λ (cs : List Classified). AllOf OnSession cs) t.stands.table.classified (all-queued (findings side t.h) (queued-kind side log t c)))
  where
    t : Told side log
    t = told side log r

-- ---- which are held

queued-in : (k : ℕ) (found : List Finding) → is_in k (filter_map queued_id (filter_map classified_in found)) ≡ has (filter_map queued_request found) k
queued-in k [] = refl
queued-in k (finds.Classified id (verdicts.Request headers offset) true ∷ found) = ap (λ (b : Bool). (id == k) || b) (queued-in k found)
queued-in k (x ∷ found) = queued-in k found

table-queued : (side : Side) (log : Log) (t : Told side log) (k : ℕ) → is_in k (filter_map queued_id (stream_table side log).classified) ≡ has (filter_map queued_request (findings side t.h)) k
table-queued side log t k = ap (λ (cs : List Classified). is_in k (filter_map queued_id cs)) (sym t.stands.table.classified) ∙ queued-in k (findings side t.h)

kept-in : (p : ℕ → Bool) (k : ℕ) (xs : List ℕ) → is_in k xs ≡ true → p k ≡ true → is_in k (filter p xs) ≡ true
kept-in p k [] e q = absurd (cc e)
kept-in p k (x ∷ xs) e q = by (x == k) (p x) refl refl e (kept-in p k xs)
  where
    by : (a b : Bool) → (x == k) ≡ a → p x ≡ b → (a || is_in k xs) ≡ true → (is_in k xs ≡ true → p k ≡ true → is_in k (filter p xs) ≡ true) → is_in k (cond b (x ∷ filter p xs) (filter p xs)) ≡ true
    by true true i j f again = ap (λ (c : Bool). c || is_in k (filter p xs)) i
    by true false i j f again = absurd (clash (p k) q (ap p (sym (eqb-true x k i)) ∙ j))
    by false true i j f again = ap (λ (c : Bool). (x == k) || c) (again f q) ∙ or-true (x == k)
    by false false i j f again = again f q

was-in : (p : ℕ → Bool) (k : ℕ) (xs : List ℕ) → is_in k (filter p xs) ≡ true → is_in k xs ≡ true
was-in p k [] e = absurd (cc e)
was-in p k (x ∷ xs) e = by (p x) e (was-in p k xs)
  where
    by : (b : Bool) → is_in k (cond b (x ∷ filter p xs) (filter p xs)) ≡ true → (is_in k (filter p xs) ≡ true → is_in k xs ≡ true) → ((x == k) || is_in k xs) ≡ true
    by true f again = or-either {P = ((x == k) || is_in k xs) ≡ true} (x == k) (is_in k (filter p xs)) f (λ y. ap (λ (c : Bool). c || is_in k xs) y) (λ y. ap (λ (c : Bool). (x == k) || c) (again y) ∙ or-true (x == k))
    by false f again = ap (λ (c : Bool). (x == k) || c) (again f) ∙ or-true (x == k)

pub given-is : (side : Side) (log : Log) (t : Told side log) (k : ℕ) → (call_view log).delivered k ≡ true → was_given t.h k ≡ true
given-is side log t k e = t.stands.delivered k ∙ e

-- a request that was delivered is held as long as its session isn't gone
pub delivered_held : (side : Side) (log : Log) → IsReachable side log → (k : ℕ) → (call_view log).delivered k ≡ true → is_session_gone side log k ≡ false → is_in k (dispatched side log).held ≡ true
delivered_held side log r k e g =
    kept-in (λ (j : ℕ). not (is_session_gone side log j)) k (filter_map queued_id (stream_table side log).classified)
    (table-queued side log t k ∙ given-queued side t.h t.hist k (given-is side log t k e)) (ap not g)
  where
    t : Told side log
    t = told side log r

pub held_on_sessions : (side : Side) (log : Log) → IsReachable side log → is_client side ≡ false → (k : ℕ) → is_in k (dispatched side log).held ≡ true → k % 4 ≡ 0
held_on_sessions side log r c k e =
    queued-kind side log t c k (queues-has k (findings side t.h) (sym (table-queued side log t k) ∙ was-in (λ (j : ℕ). not (is_session_gone side log j)) k (filter_map queued_id (stream_table side log).classified) e))
  where
    t : Told side log
    t = told side log r

pub held_few : (side : Side) (log : Log) → IsReachable side log → length (dispatched side log).held ≤ 4
held_few side log r = let f = at-most-four side t.h in omega (arith, same, f)
  where
    t : Told side log
    t = told side log r

    same : length (dispatched side log).held ≡ length (filter (λ q. not (is_gone t.h (findings side t.h) q.0)) (filter_map queued_request (findings side t.h)))
    same =
        ap (λ (cs : List Classified). length (filter (λ (k : ℕ). not (is_session_gone side log k)) (filter_map queued_id cs))) (sym t.stands.table.classified)
        ∙ held-count (is_gone t.h (findings side t.h)) (is_session_gone side log) (λ s. sym (gone-is side t.offset t.h log s t.stands)) (findings side t.h)

-- ---- whose session is gone

-- the session of a request that was delivered is gone by a call alone, until it is established
pub unbegun_remains : (side : Side) (log : Log) → IsReachable side log → (k : ℕ) → (call_view log).delivered k ≡ true → was_established (call_view log) k ≡ false → (call_view log).ended k ≡ false
    → is_session_gone side log k ≡ false
unbegun_remains side log r k e u n = sym (gone-is side t.offset t.h log k t.stands) ∙ rw (sym (t.stands.calls.ended k) ∙ n) q.stays
  where
    t : Told side log
    t = told side log r

    q : GivenRequest side t.h k
    q = given-request side t.h t.hist k (given-is side log t k e) (sym (t.stands.calls.established k) ∙ u)

-- before a client's session began, none is gone
pub client_has_none_gone : (side : Side) (log : Log) → IsReachable side log → is_client side ≡ true → (call_view log).sessions ≡ [] → (k : ℕ) → k % 4 ≡ 0 → is_session_gone side log k ≡ false
client_has_none_gone side log r c s k z = sym (gone-is side t.offset t.h log k t.stands) ∙ rw (uncalled, unfound) refl
  where
    t : Told side log
    t = told side log r

    unestablished : is_established t.h k ≡ false
    unestablished = sym (t.stands.calls.established k) ∙ ap (list_any (is_session k)) s

    ungiven : was_given t.h k ≡ false
    ungiven = by side c t.h t.hist
      where
        by : (x : Side) → is_client x ≡ true → (h : History) → IsHistory x h → was_given h k ≡ false
        by Client e h i = client-not-given h i k
        by Server e h i = absurd (cc e)

    uncalled : is_gone_by_call t.h k ≡ false
    uncalled = never (is_gone_by_call t.h k) (λ e. or-either {P = ⊥} (was_given t.h k) (is_established t.h k) (ended-why t.h k e) (λ g. clash (was_given t.h k) g ungiven) (λ g. clash (is_established t.h k) g unestablished))

    no-peer : (x : Side) → is_client x ≡ true → is_peers x k ≡ true → ⊥
    no-peer Client e p = absurd (let q = rw z at p in cc q)
    no-peer Server e p = cc e

    unfound : list_any (makes_gone k) (findings side t.h) ≡ false
    unfound = never (list_any (makes_gone k) (findings side t.h)) (λ e. or-either {P = ⊥} (is_classified (findings side t.h) k) (list_any (closes_session k) (findings side t.h)) (gone-why k (findings side t.h) e)
        (λ g. no-peer side c (only-peers side t.h k g)) (λ g. clash (is_established t.h k) (closed-established side t.h k g) unestablished))

-- ---- verdicts

-- what the header of a stream with a verdict says stays, whatever comes after it
pub header_stays : (side : Side) (log : Log) → IsReachable side log → (k : ℕ) (v : Verdict) → verdict_of k (stream_table side log).classified ≡ Some v → header_verdict log k ≡ v
header_stays side log r k v e =
    sym (verdict-is side log t k) ∙ (classified_rightly side t.h t.hist k v (verdicts-agree k (findings side t.h) (stream_table side log) t.stands.table ∙ e)).shown
  where
    t : Told side log
    t = told side log r
