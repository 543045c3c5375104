-- The laws of every log that lawful turns lead to: of a request at hand, and of a connect that goes on.
use Rattle.std.proofs.Common.{◌∙◌, ap, arith, refl, subst, sym}
use Rattle.std.proofs.lemmas.Bool.{lt-ltb}
use Rattle.std.specs.List.{list_any}
use Rattle.std.specs.Prelude.{[], ◌%◌, ◌/◌, ◌==◌, ◌∷◌, ◌||◌, ◌≡◌, Bool, List, None, Option, Some, false, if◌then◌else◌, not, true, ℕ}
use Rattle.wt_driver_laws.proofs.Reach.{Told, reached_holds, told}
use Rattle.wt_driver_laws.proofs.ReachHalves.{there-is}
use Rattle.wt_driver_laws.proofs.ReachHeads.{Rejects, client-not-given, head-rejects, head-unreset, head-unsent, never, unopened-unsent}
use Rattle.wt_driver_laws.proofs.ReachRequests.{given-is, server-is}
use Rattle.wt_driver_laws.specs.Driving.{IsReachable}
use Rattle.wt_driver_laws.specs.Handing.{MayWrite, is_at_hand}
use Rattle.wt_driver_laws.specs.LogLaws.{ConnectLaws, LogLaws, RequestLaws}
use Rattle.wt_meaning.specs.Handshakes.{last_begun, was_given}
use Rattle.wt_meaning.specs.History.{was_finished}
use Rattle.wt_meaning.specs.Lawful.{is_client}
use Rattle.wt_meaning.specs.Moments.{findings}
use Rattle.wt_meaning.specs.Windows.{is_established, is_gone_by_call}
use Rattle.wt_promise.proofs.Accepted.{or-left}
use Rattle.wt_promise.proofs.Begun.{BegunFor, begun, last_stream}
use Rattle.wt_promise.proofs.Flow.{clash}
use Rattle.wt_promise.proofs.Grows.{is_peers}
use Rattle.wt_promise.proofs.HandedOut.{only-peers}
use Rattle.wt_promise.proofs.HeadFinish.{is-rejection}
use Rattle.wt_promise.proofs.Opened.{at-least-one}
use Rattle.wt_promise.specs.Promise.{IsHistory, begun_on}
use Rattle.wt_turn.specs.Sent.{is_finished}
use Rattle.wt_turn.specs.Streams.{can_send, local_bi, local_count, peer_uni, stream_count}
use Rattle.wt_sessions.proofs.Turns.{Holds, is_asked, is_dialling}
use Rattle.wt_sessions.specs.Driver.{call_view}
use Rattle.wt_sessions.specs.Handshake.{Answered, Connecting, HandshakeState, Requested, Responding, awaits_answer, handshake_state, is_continuable, requested_stream}
use Rattle.wt_sessions.specs.StreamTable.{Session, is_session, was_established}
use Rattle.wt_sessions_agree.proofs.DueLaws as dues
use Rattle.wt_sessions_agree.proofs.DueLaws.{due-not-gone}
use Rattle.wt_sessions_agree.proofs.PartLaws.{RequestOf, given-request}
use Rattle.wt_sessions_agree.proofs.ThereLaws.{dequeued-there, server-kind}
use Rattle.wt_sessions_agree.specs.Stands.{BegunAgrees, IsResponse}
use Rattle.wt_turn.specs.Log.{AcceptanceFailed, CallRecord, ConnectStarted, HandshakeOver, Log, RequestDelivered, RequestRejected, ResponseStarted, SessionEstablished, actions_of, calls_of}
use Rattle.wt_turn.specs.declared.call.Call.{Call}
use Rattle.wt_turn.specs.declared.call.Call.TheVariants as calls
use Rattle.wt_wire.specs.declared.side.Side.{Side}
use Rattle.wt_wire.specs.declared.side.Side.TheVariants.{Client, Server}

asked-too : (state : HandshakeState) → is_at_hand state ≡ true → is_asked state ≡ true
asked-too (Requested id) e = refl
asked-too (Responding accepts head) e = refl
asked-too _ e = absurd (cc e)

due-by : (state : HandshakeState) → is_at_hand state ≡ true → (awaits_answer state || is_continuable state) ≡ true
due-by (Requested id) e = refl
due-by (Responding accepts head) e = refl
due-by _ e = absurd (cc e)

-- a response that accepts is no rejection
accepts-only : (head : List ℕ) (c : Call) → IsResponse true head c → is-rejection c ≡ false
accepts-only head (calls.Accept headers) x = refl
accepts-only head c x = absurd x

-- ---- a request at hand

module _ (side : Side) (log : Log) (r : IsReachable side log) (e : is_at_hand (handshake_state (calls_of log)) ≡ true) where
  abbrev t : Told side log
  t = told side log r

  abbrev held : Holds side log
  held = reached_holds side log r

  abbrev state : HandshakeState
  state = handshake_state (calls_of log)

  abbrev id : ℕ
  id = requested_stream (calls_of log)

  facts : ((call_view log).delivered id ≡ true) × (was_established (call_view log) id ≡ false)
  facts = held.asked (asked-too state e)

  given : was_given t.h id ≡ true
  given = given-is side log t id facts.0

  server : is_client side ≡ false
  server = by side t.hist
    where
      by : (x : Side) → IsHistory x t.h → is_client x ≡ false
      by Server i = refl
      by Client i = absurd (clash (was_given t.h id) given (client-not-given t.h i id))

  pub new : is_established t.h id ≡ false
  new = sym (t.stands.calls.established id) ∙ facts.1

  -- the request that was given last is this one
  last : last_stream t.h ≡ id
  last = t.stands.request

  asked : (dues.is_asked t.h) ≡ true
  asked = rw (t.stands.handshake.requested server, t.stands.handshake.waiting) (due-by state e)

  unended : (call_view log).ended id ≡ false
  unended =
      let g = due-not-gone t.h (subst (λ (x : Side). IsHistory x t.h) (server-is side server) t.hist) asked in
      t.stands.calls.ended id ∙ ap (is_gone_by_call t.h) (sym last) ∙ or-left (is_gone_by_call t.h (last_stream t.h)) _ g

  -- it is the client's bidirectional one
  request : RequestOf (findings side t.h) id
  request = given-request side t.h t.hist id given

  can : can_send side log id ≡ true
  can = rw (sym (there-is side log t id) ∙ dequeued-there side t.h id request.came) (by side server (only-peers side t.h id (ap is-some request.is_verdict)))
    where
      is-some : {T : Type 0} → Option T → Bool
      is-some None = false
      is-some (Some x) = true

      by : (x : Side) → is_client x ≡ false → is_peers x id ≡ true → not (peer_uni x == id % 4) ≡ true
      by Server s p = rw (server-kind id p request.is_bi) refl
      by Client s p = absurd (cc s)

  pub of-begun : BegunFor side t.h id
  of-begun = by side server
    where
      by : (x : Side) → is_client x ≡ false → BegunFor x t.h id
      by Server s = given
      by Client s = absurd (cc s)

  -- ---- before its response begins

  fresh : (k : ℕ) → state ≡ Requested k → begun_on t.h id ≡ None
  fresh k q = ap (begun_on t.h) (sym last) ∙ (begun side t.h t.hist).fresh (t.stands.handshake.requested server ∙ ap awaits_answer q)

  unfinished-by : (Rejects side t.h t.hist id of-begun → ⊥) → is_finished (actions_of log) id ≡ false
  unfinished-by f = sym (t.stands.out.finished id) ∙ never (was_finished t.h id) (λ q. f (head-rejects side t.h t.hist id of-begun new q))

  -- ---- while an acceptance goes on

  accepts : (head : List ℕ) → state ≡ Responding true head → (c : Call) → begun_on t.h id ≡ Some c → is-rejection c ≡ false
  accepts head q c b = by (last_begun t.h) refl (subst (λ (s : HandshakeState). BegunAgrees s (last_begun t.h)) q t.stands.handshake.begun)
    where
      is : begun_on t.h id ≡ last_begun t.h
      is = ap (begun_on t.h) (sym last) ∙ (begun side t.h t.hist).waiting (t.stands.handshake.waiting ∙ ap is_continuable q)

      by : (o : Option Call) → last_begun t.h ≡ o → BegunAgrees (Responding true head) o → is-rejection c ≡ false
      by None p x = absurd x
      by (Some d) p x = let same : Some d ≡ Some c = sym (is ∙ p) ∙ b in let one : d ≡ c = cc same in ap is-rejection (sym one) ∙ accepts-only head d x

  request-laws : RequestLaws side log id
  request-laws = record {
    server = server;
    delivered = facts.0;
    unestablished = facts.1;
    unended = unended;
    can = can;
    reset = sym (t.stands.halves.reset id) ∙ head-unreset side t.h t.hist id of-begun new;
    unsent = λ q. sym (t.stands.out.sent id) ∙ head-unsent side t.h t.hist id of-begun (fresh id q);
    unfinished = λ q. unfinished-by (λ x. let w : Some x.call ≡ None = sym x.begun ∙ fresh id q in cc w);
    accepting = λ head q. unfinished-by (λ x. clash (is-rejection x.call) x.rejects (accepts head q x.call x.begun));
  }

  -- ---- so its response may be written

  -- a response that begins
  pub requested_writes : (k : ℕ) → state ≡ Requested k → MayWrite side log id
  requested_writes k q = record {
    can = can;
    finished = λ o. unfinished-by (λ x. let w : Some x.call ≡ None = sym x.begun ∙ fresh k q in cc w);
    reset = λ o. request-laws.reset;
  }

  -- an acceptance that goes on
  pub accepting_writes : (head : List ℕ) → state ≡ Responding true head → MayWrite side log id
  accepting_writes head q = record { can = can; finished = λ o. request-laws.accepting head q; reset = λ o. request-laws.reset }

-- a request that was given and to which no response began is the one that was given last
pub requested_last : (cs : List CallRecord) (k : ℕ) → handshake_state cs ≡ Requested k → requested_stream cs ≡ k
requested_last [] k e = absurd (cc e)
requested_last (RequestDelivered id ∷ cs) k e = cc e
requested_last (ConnectStarted reserved head ∷ cs) k e = absurd (cc e)
requested_last (ResponseStarted accepts head ∷ cs) k e = absurd (cc e)
requested_last (AcceptanceFailed ∷ cs) k e = absurd (cc e)
requested_last (HandshakeOver ∷ cs) k e = absurd (cc e)
requested_last (SessionEstablished id offset ∷ cs) k e = absurd (cc e)
requested_last (RequestRejected id ∷ cs) k e = by (id == requested_stream cs) e (requested_last cs k)
  where
    by : (b : Bool) → elim (if b then Some Answered else None) [ Some s ↦ s | None ↦ handshake_state cs ] ≡ Requested k → (handshake_state cs ≡ Requested k → requested_stream cs ≡ k) → requested_stream cs ≡ k
    by true f again = absurd (cc f)
    by false f again = again f
requested_last (r ∷ cs) k e = requested_last cs k e

-- ---- a connect that goes on

connect-laws : (side : Side) (log : Log) → IsReachable side log → (reserved : Option (List ℕ)) (head : List ℕ) → handshake_state (calls_of log) ≡ Connecting reserved head → ConnectLaws side log
connect-laws Client log r reserved head e = record {
  unestablished = none;
  unsent = λ z. sym (t.stands.out.sent 0) ∙ unopened-unsent t.h t.hist (t.stands.out.opened 0 ∙ z);
  finished = sym (t.stands.out.finished 0) ∙ never (was_finished t.h 0) (λ q. let x = head-rejects Client t.h t.hist 0 refl new q in let s = x.server in cc s);
  reset = sym (t.stands.halves.reset 0) ∙ head-unreset Client t.h t.hist 0 refl new;
}
  where
    t : Told Client log
    t = told Client log r

    none : (call_view log).sessions ≡ []
    none = ((reached_holds Client log r).dialling (ap is_dialling e)).1

    new : is_established t.h 0 ≡ false
    new = sym (t.stands.calls.established 0) ∙ ap (λ (ss : List Session). list_any (is_session 0) ss) none
connect-laws Server log r reserved head e = absurd (let d = ((reached_holds Server log r).dialling (ap is_dialling e)).0 in cc d)

-- once its stream is opened, its request may be written
pub connect_writes : (side : Side) (log : Log) → IsReachable side log → (reserved : Option (List ℕ)) (head : List ℕ) → handshake_state (calls_of log) ≡ Connecting reserved head → (local_count (actions_of log) (local_bi side) == 0) ≡ false
    → MayWrite side log (local_bi side)
connect_writes Client log r reserved head e n = record {
  can = rw (lt-ltb (0 / 4) (stream_count Client log (0 % 4)) (let some = at-least-one (local_count (actions_of log) 0) n in omega (arith, some))) refl;
  finished = λ o. (connect-laws Client log r reserved head e).finished;
  reset = λ o. (connect-laws Client log r reserved head e).reset;
}
connect_writes Server log r reserved head e n = absurd (let d = ((reached_holds Server log r).dialling (ap is_dialling e)).0 in cc d)

pub reached_log_laws : (side : Side) (log : Log) → IsReachable side log → LogLaws side log
reached_log_laws side log r = record { asked = λ e. request-laws side log r e; dialling = λ reserved head e. connect-laws side log r reserved head e }
