-- What a log that lawful turns lead to says of a stream of which the application has a half, or that is being opened.
use Rattle.std.proofs.Common.{◌∙◌, ap, refl, sym}
use Rattle.std.specs.List.{list_any}
use Rattle.std.specs.Prelude.{◌%◌, ◌&&◌, ◌+◌, ◌==◌, ◌||◌, ◌≡◌, Bool, None, Option, Some, drop, false, if◌then◌else◌, is_some, not, true, unwrap_or, ℕ}
use Rattle.wt_driver_laws.proofs.Reach.{Told, told}
use Rattle.wt_driver_laws.proofs.ReachHanded.{OfEstablished, handed-of, opening-of}
use Rattle.wt_driver_laws.proofs.ReachHeads.{opening-not-control, opening-unfinished, opening-unreset}
use Rattle.wt_driver_laws.specs.Driving.{IsReachable}
use Rattle.wt_follows.specs.Roles.{is_member}
use Rattle.wt_follows.specs.Tie.{body_of, goes_on_at, header_verdict, member_position}
use Rattle.wt_meaning.specs.Calls.{being_opened}
use Rattle.wt_meaning.specs.Findings.{verdict_of}
use Rattle.wt_meaning.specs.Halves.{body_start}
use Rattle.wt_meaning.specs.History as histories
use Rattle.wt_meaning.specs.History.{History, all_events, contents, events, is_handed_out}
use Rattle.wt_meaning.specs.Moments.{findings, verdict}
use Rattle.wt_meaning.specs.Sends.{admits}
use Rattle.wt_meaning.specs.Windows.{named}
use Rattle.wt_promise.proofs.Accepted.{and-left, and-right, not-true}
use Rattle.wt_promise.proofs.ControlKept.{begun-opening}
use Rattle.wt_promise.proofs.Facts.{classified_rightly}
use Rattle.wt_promise.proofs.Flow.{clash}
use Rattle.wt_promise.proofs.HandedOut.{only-peers, opened-local}
use Rattle.wt_promise.proofs.Verdicts.{AStream, ByAccept, ByOpening, HandedBy, IsStream, admitted-verdict, handed-by}
use Rattle.wt_promise.proofs.Waiting.{named-established}
use Rattle.wt_proto.specs.declared.verdict.Verdict.{Verdict}
use Rattle.wt_turn.specs.Sent.{is_finished, is_reset}
use Rattle.wt_turn.specs.Streams as streams
use Rattle.wt_turn.specs.Streams.{can_receive, can_send, exists, local_uni, peer_uni}
use Rattle.wt_turn.specs.Unread.{AtOffset, GivenUp, from_position}
use Rattle.wt_sessions.specs.Connection.{opening_session}
use Rattle.wt_sessions.specs.Driver.{call_view, gives_up, is_living, still_sends, stream_table}
use Rattle.wt_sessions.specs.DriverState.{state_of}
use Rattle.wt_sessions.specs.Halves.{has_receiving_half, has_sending_half, is_accepted, total_read, unread_body}
use Rattle.wt_sessions.specs.Moment.{is_peers}
use Rattle.wt_sessions.specs.StreamTable as tables
use Rattle.wt_sessions.specs.StreamTable.{was_established}
use Rattle.wt_sessions_agree.proofs.Basics.{eqb-sym}
use Rattle.wt_sessions_agree.proofs.FoundLaws.{verdicts-agree}
use Rattle.wt_sessions_agree.proofs.WaitLaws.{living-is}
use Rattle.wt_sessions_agree.specs.Members.{has_id, is_opened_for}
use Rattle.wt_sessions_agree.specs.Stands.{IsOpening, NotOpening, OpeningAgrees}
use Rattle.wt_turn.specs.Log.{Log, actions_of, calls_of}
use Rattle.wt_wire.specs.declared.side.Side.{Side}

-- the stream is there, and is one of this session, which was established
pub record HasStream (side : Side) (log : Log) (id : ℕ) : Type 0 where
  pub session : ℕ
  pub established : was_established (call_view log) session ≡ true
  pub member : is_member (state_of side log) session id ≡ true
  pub there : exists side log id ≡ true

-- the state's members are the log's
member-is : (side : Side) (log : Log) (session id : ℕ) → has_id id ((call_view log).members session) ≡ true → is_member (state_of side log) session id ≡ true
unfolding state_of
member-is side log session id e = e

-- a stream is there in both
pub there-is : (side : Side) (log : Log) (t : Told side log) (k : ℕ) → histories.exists side t.h k ≡ exists side log k
there-is side log t k = rw (t.stands.came.all_events, t.stands.out.opened (k % 4)) refl

-- ---- of which the application has a half

accepted-of : (side : Side) (log : Log) (t : Told side log) (id : ℕ) → is_accepted log id ≡ true → HasStream side log id
accepted-of side log t id e = record {
  session = o.session;
  established = t.stands.calls.established o.session ∙ o.established;
  member = member-is side log o.session id (t.members.same o.session id ∙ ap (λ (b : Bool). (b && list_any (admits o.session id) (findings side t.h)) || is_opened_for t.h o.session id) handed ∙ o.of_it);
  there = sym (there-is side log t id) ∙ t.members.there o.session id o.of_it;
}
  where
    handed : is_handed_out t.h id ≡ true
    handed = sym (t.stands.calls.accepted id) ∙ e

    o : OfEstablished side t.h id
    o = handed-of side t.h t.hist id handed

pub accepted_stream : (side : Side) (log : Log) → IsReachable side log → (id : ℕ) → is_accepted log id ≡ true → HasStream side log id
accepted_stream side log r id e = accepted-of side log (told side log r) id e

pub sending_stream : (side : Side) (log : Log) → IsReachable side log → (id : ℕ) → has_sending_half side log id ≡ true → HasStream side log id
sending_stream side log r id e = accepted_stream side log r id (and-left (is_accepted log id) _ e)

pub sending_can : (side : Side) (log : Log) → IsReachable side log → (id : ℕ) → has_sending_half side log id ≡ true → can_send side log id ≡ true
sending_can side log r id e =
    let x = (sending_stream side log r id e).there in
    rw (x, eqb-sym (peer_uni side) (id % 4)) (and-right (is_accepted log id) _ e)

receiving-accepted : (side : Side) (log : Log) (id : ℕ) → has_receiving_half side log id ≡ true → is_accepted log id ≡ true
receiving-accepted side log id e = and-left (is_accepted log id) (not (id % 4 == local_uni side)) (and-left (is_accepted log id && not (id % 4 == local_uni side)) (not (list_any (gives_up id) (calls_of log))) e)

pub receiving_stream : (side : Side) (log : Log) → IsReachable side log → (id : ℕ) → has_receiving_half side log id ≡ true → HasStream side log id
receiving_stream side log r id e = accepted_stream side log r id (receiving-accepted side log id e)

-- it has a receiving half that wasn't given up
receiving-parts : (side : Side) (log : Log) (id : ℕ) → has_receiving_half side log id ≡ true → ((id % 4 == local_uni side) ≡ false) × (list_any (gives_up id) (calls_of log) ≡ false)
receiving-parts side log id e = (
  not-true (id % 4 == local_uni side) (and-right (is_accepted log id) (not (id % 4 == local_uni side)) (and-left (is_accepted log id && not (id % 4 == local_uni side)) (not (list_any (gives_up id) (calls_of log))) e)),
  not-true (list_any (gives_up id) (calls_of log)) (and-right (is_accepted log id && not (id % 4 == local_uni side)) (not (list_any (gives_up id) (calls_of log))) e),
)

pub receiving_can : (side : Side) (log : Log) → IsReachable side log → (id : ℕ) → has_receiving_half side log id ≡ true → can_receive side log id ≡ true
receiving_can side log r id e =
    let x = (receiving_stream side log r id e).there in
    rw (x, eqb-sym (local_uni side) (id % 4), (receiving-parts side log id e).0) refl

pub receiving_kept : (side : Side) (log : Log) (id : ℕ) → has_receiving_half side log id ≡ true → list_any (gives_up id) (calls_of log) ≡ false
receiving_kept side log id e = (receiving-parts side log id e).1

-- ---- what of it is unread

pub verdict-is : (side : Side) (log : Log) (t : Told side log) (k : ℕ) → verdict t.h k ≡ header_verdict log k
verdict-is side log t k = rw (t.stands.came.contents k, t.stands.came.events) refl

-- the body of a stream that was handed out begins where its header ends
body-starts : (side : Side) (log : Log) (t : Told side log) (id : ℕ) → is_accepted log id ≡ true → body_start (tables.verdict_of id (stream_table side log).classified) ≡ body_of side log id
body-starts side log t id e =
    ap body_start (sym (verdicts-agree id (findings side t.h) (stream_table side log) t.stands.table)) ∙ by (handed-by side t.h t.hist id (sym (t.stands.calls.accepted id) ∙ e))
  where
    streamed : (s : ℕ) (v : Verdict) → IsStream s v → header_verdict log id ≡ v → body_start (Some v) ≡ unwrap_or (goes_on_at (header_verdict log id)) 0
    streamed s v (AStream offset) q = sym (ap (λ (w : Verdict). unwrap_or (goes_on_at w) 0) q)

    peers : (b : Bool) → is_peers side id ≡ b → (v : Verdict) → verdict_of (findings side t.h) id ≡ Some v → b ≡ true
    peers true p v q = refl
    peers false p v q = sym p ∙ only-peers side t.h id (ap is_some q)

    own : (o : Option Verdict) → verdict_of (findings side t.h) id ≡ o → is_peers side id ≡ false → body_start o ≡ 0
    own None q p = refl
    own (Some v) q p = absurd (clash (is_peers side id) (peers (is_peers side id) refl v q) p)

    by : HandedBy side t.h id → body_start (verdict_of (findings side t.h) id) ≡ body_of side log id
    by (ByAccept s a) =
        let v = admitted-verdict side t.h s id a in
        let w = classified_rightly side t.h t.hist id v.0 v.1 in
        ap body_start v.1 ∙ streamed s v.0 v.2 (sym (verdict-is side log t id) ∙ w.shown)
        ∙ sym (ap (λ (b : Bool). if b then unwrap_or (goes_on_at (header_verdict log id)) 0 else 0) (peers (is_peers side id) refl v.0 v.1))
    by (ByOpening o) =
        let p = opened-local side t.h t.hist id o in
        own (verdict_of (findings side t.h) id) refl p ∙ sym (ap (λ (b : Bool). if b then unwrap_or (goes_on_at (header_verdict log id)) 0 else 0) p)

pub accepted_body : (side : Side) (log : Log) → IsReachable side log → (id : ℕ) → is_accepted log id ≡ true → body_start (tables.verdict_of id (stream_table side log).classified) ≡ body_of side log id
accepted_body side log r id e = body-starts side log (told side log r) id e

-- where the application reads it
pub receiving_position : (side : Side) (log : Log) (id : ℕ) → has_receiving_half side log id ≡ true → member_position side log id ≡ AtOffset (body_of side log id + total_read id (calls_of log))
receiving_position side log id e = ap (λ (b : Bool). if b then GivenUp else AtOffset (body_of side log id + total_read id (calls_of log))) (receiving_kept side log id e)

-- what is unread by the definitions is what is in front of that
pub receiving_unread : (side : Side) (log : Log) → IsReachable side log → (id : ℕ) → has_receiving_half side log id ≡ true
    → unread_body side log id ≡ from_position (member_position side log id) (streams.contents log id)
receiving_unread side log r id e =
    ap (λ (n : ℕ). drop (n + total_read id (calls_of log)) (streams.contents log id)) (accepted_body side log r id (receiving-accepted side log id e))
    ∙ sym (ap (λ p. from_position p (streams.contents log id)) (receiving_position side log id e))

-- ---- a stream that is being opened

-- It is there and its session's, this end opened it, and it is no control stream; it wasn't finished, nor reset while its session lives.
pub record OpeningLaws (side : Side) (log : Log) (id session : ℕ) : Type 0 where
  pub established : was_established (call_view log) session ≡ true
  pub member : is_member (state_of side log) session id ≡ true
  pub there : exists side log id ≡ true
  pub can : can_send side log id ≡ true
  pub own : is_peers side id ≡ false
  pub other : (id == local_uni side) ≡ false
  pub unfinished : is_finished (actions_of log) id ≡ false
  pub unreset : is_living side log session ≡ true → is_reset log id ≡ false

own-sends : (side : Side) (k : ℕ) → is_peers side k ≡ false → not (peer_uni side == k % 4) ≡ true
own-sends side k e = rw (eqb-sym (peer_uni side) (k % 4)) (by (k % 4 == peer_uni side) e)
  where
    by : (b : Bool) → (b || (k % 4 == streams.peer_bi side)) ≡ false → not b ≡ true
    by true q = absurd (cc q)
    by false q = refl

pub opening_laws : (side : Side) (log : Log) → IsReachable side log → (id session : ℕ) → opening_session log id ≡ Some session → OpeningLaws side log id session
opening_laws side log r id session e = by (t.stands.openings id)
  where
    t : Told side log
    t = told side log r

    laws : (name : Option ℕ) → being_opened t.h id ≡ Some name → named t.h name ≡ Some session → OpeningLaws side log id session
    laws name o m =
        let is = opening-of side t.h t.hist id session name o m in
        let of : (list_any (admits session id) (findings side t.h) || is_opened_for t.h session id) ≡ true = ap (λ (b : Bool). list_any (admits session id) (findings side t.h) || b) is ∙ or-last (list_any (admits session id) (findings side t.h)) in
        let x : exists side log id ≡ true = sym (there-is side log t id) ∙ t.members.there session id of in
        let p = opened-local side t.h t.hist id (ap is_some (begun-opening t.h id name o)) in
        record {
          established = t.stands.calls.established session ∙ named-established t.h name session m;
          member = member-is side log session id (t.members.same session id ∙ ap (λ (b : Bool). (is_handed_out t.h id && list_any (admits session id) (findings side t.h)) || b) is ∙ or-last (is_handed_out t.h id && list_any (admits session id) (findings side t.h)));
          there = x;
          can = rw (x, own-sends side id p) refl;
          own = p;
          other = opening-not-control side t.h t.hist id name o;
          unfinished = sym (t.stands.out.finished id) ∙ opening-unfinished side t.h t.hist id name o;
          unreset = λ l. sym (t.stands.halves.reset id) ∙ opening-unreset side t.h t.hist id name o session m (living-is side t.offset t.h log session t.stands ∙ l);
        }
      where
        or-last : (b : Bool) → (b || true) ≡ true
        or-last true = refl
        or-last false = refl

    by : OpeningAgrees t.h log id → OpeningLaws side log id session
    by (NotOpening a n) = absurd (let q : None ≡ Some session = sym n ∙ e in cc q)
    by (IsOpening name s o m n) = let q : Some s ≡ Some session = sym n ∙ e in let same : s ≡ session = cc q in laws name o (m ∙ ap (λ (x : ℕ). Some x) same)

-- while its session lives it still sends
pub opening_sends : (side : Side) (log : Log) → IsReachable side log → (id session : ℕ) → opening_session log id ≡ Some session → is_living side log session ≡ true → still_sends side log id ≡ true
opening_sends side log r id session e l = let x = opening_laws side log r id session e in rw (x.can, x.unfinished, x.unreset l) refl
