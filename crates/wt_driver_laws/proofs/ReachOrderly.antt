-- Of every log that lawful turns lead to: where the handshake is over no session is, or the connection has ended; this end's next streams weren't
-- begun; and an established session's request is answered.
use Rattle.std.proofs.Common.{◌∙◌, ◌<◌, ap, arith, refl, subst, sym}
use Rattle.std.proofs.lemmas.Bool.{eq-eqb, ltb-true}
use Rattle.std.specs.List.{list_any}
use Rattle.std.specs.Prelude.{[], ◌&&◌, ◌/◌, ◌==◌, ◌∷◌, ◌||◌, ◌≡◌, Bool, List, None, Option, Some, false, if◌then◌else◌, nat_lt, true, ℕ}
use Rattle.wt_driver_laws.proofs.Reach.{Told, reached_holds, told}
use Rattle.wt_driver_laws.proofs.ReachHalves.{there-is}
use Rattle.wt_driver_laws.proofs.ReachHeads.{absent-unsent, never}
use Rattle.wt_driver_laws.proofs.ReachSessions.{named_established}
use Rattle.wt_driver_laws.specs.Driving.{AfterTurn, AtStart, IsReachable}
use Rattle.wt_meaning.specs.History.{History, is_open}
use Rattle.wt_meaning.specs.History as histories
use Rattle.wt_meaning.specs.Lawful.{is_first, is_of_request, polls}
use Rattle.wt_meaning.specs.Lawful as meaning
use Rattle.wt_meaning.specs.Meaning.{next, own_answer}
use Rattle.wt_meaning.specs.Windows.{is_established}
use Rattle.wt_promise.proofs.Accepted.{or-true}
use Rattle.wt_promise.proofs.Asks.{Asks, Begins, Else, ForRequest, GoesOn, Responds, asks}
use Rattle.wt_promise.proofs.Flow.{clash}
use Rattle.wt_promise.proofs.Fresh.{nth-of}
use Rattle.wt_promise.proofs.MomentActs.{or-either}
use Rattle.wt_promise.proofs.Phases.{client-waits}
use Rattle.wt_promise.specs.Promise.{IsHistory}
use Rattle.wt_turn.specs.Outgoing.{next_id}
use Rattle.wt_turn.specs.Sent.{sent_on}
use Rattle.wt_turn.specs.Streams.{exists, local_bi, local_uni, stream_count}
use Rattle.wt_sessions.proofs.Turns.{Holds, is_asked, is_dialling}
use Rattle.wt_sessions.specs.Answers as answers
use Rattle.wt_sessions.specs.Answers.{log_after, named_session, receive}
use Rattle.wt_sessions.specs.Connection.{starts_opening}
use Rattle.wt_sessions.specs.Driver.{call_view, log_and_flush, member_by, members_of, sessions_of, with_member}
use Rattle.wt_sessions.specs.Effect.{Effect}
use Rattle.wt_sessions.specs.Handshake.{Answered, AwaitingRequest, Connecting, HandshakeState, Over, Requested, Responding, handshake_state, requested_stream}
use Rattle.wt_sessions.specs.StreamTable.{Session, is_session, was_established}
use Rattle.wt_sessions_agree.proofs.CameAgrees.{flushed}
use Rattle.wt_sessions_agree.proofs.DueEnds.{ends-hold}
use Rattle.wt_sessions_agree.proofs.LawfulLaws.{lawful-agrees}
use Rattle.wt_sessions_agree.proofs.MembersLaws.{has-with}
use Rattle.wt_sessions_agree.proofs.ReplyLaws.{is_other, other-replies}
use Rattle.wt_sessions_agree.proofs.RowsAgree.{call-agrees}
use Rattle.wt_sessions_agree.proofs.ShakeLaws.{failed-is, failed-shut, is_over}
use Rattle.wt_sessions_agree.proofs.StreamKinds.{local-bi-small, local-uni-small}
use Rattle.wt_sessions_agree.proofs.TurnKeeps.{acted-calls, turn-calls}
use Rattle.wt_sessions_agree.specs.Members.{has_id}
use Rattle.wt_sessions_agree.specs.Records.{done_record, failure_record, pending_record, record_of}
use Rattle.wt_turn.specs.Log.{AcceptanceFailed, CallRecord, Called, ConnectStarted, HandshakeOver, Log, OpeningStarted, Received, RequestDelivered, RequestRejected, ResponseStarted, SessionEstablished, StreamAccepted, actions_of, calls_of, with_actions}
use Rattle.wt_turn.specs.Log as logs
use Rattle.wt_turn.specs.declared.action.Action.{Action}
use Rattle.wt_turn.specs.declared.call.Call.{Call}
use Rattle.wt_turn.specs.declared.reply.Reply.{Reply}
use Rattle.wt_turn.specs.declared.turn.Turn.{Turn}
use Rattle.wt_wire.specs.declared.side.Side.{Side}
use Rattle.wt_wire.specs.declared.side.Side.TheVariants.{Client, Server}
use Rattle.wt_turn.specs.declared.call.Call.TheVariants as calls
use Rattle.wt_turn.specs.declared.reply.Reply.TheVariants as replies
use Rattle.wt_turn.specs.declared.stream_error.StreamReadExactError.TheVariants as exacts
use Rattle.wt_turn.specs.declared.turn.Turn.TheVariants as turns

-- ---- which record a turn leaves

-- bytes leave none
pub piece-calls : (side : Side) (k : ℕ) (bytes : List ℕ) (log : Log) → calls_of (receive side log k bytes) ≡ calls_of log
piece-calls side k [] log = refl
piece-calls side k (b ∷ bytes) log = piece-calls side k bytes (if logs.is_open log then log_and_flush side log (Received k b) else log) ∙ turn-calls side log (turns.Bytes k (b ∷ [])) refl

-- a call leaves that of its reply
pub call-calls : (side : Side) (log : Log) (t : Told side log) (c : Call) → answers.is_lawful side log (turns.Call c) ≡ true
    → calls_of (log_after side log (turns.Call c)) ≡ record_of side t.h c (own_answer side t.h (turns.Call c)).reply ∷ calls_of log
call-calls side log t c l =
    ap (λ (e : Effect). calls_of e.log) (call-agrees side t.offset t.h log t.stands (ends-hold side t.offset t.h log t.hist t.stands t.members) c l)
    ∙ flushed calls_of acted-calls side (Called r) (with_actions own log) ∙ ap (λ (rs : List CallRecord). r ∷ rs) (acted-calls own log)
  where
    own : List Action
    own = (own_answer side t.h (turns.Call c)).actions

    r : CallRecord
    r = record_of side t.h c (own_answer side t.h (turns.Call c)).reply

-- ---- a handshake that is over

failure-not : (c : Call) → is_of_request (turns.Call c) ≡ false → failure_record c ≡ HandshakeOver → ⊥
failure-not calls.Incoming q e = cc q
failure-not (calls.Accept headers) q e = cc e
failure-not calls.Handshake q e = cc e
failure-not c q e = cc e

pending-not : (c : Call) → polls (turns.Call c) ≡ false → pending_record c ≡ HandshakeOver → ⊥
pending-not (calls.Connect options lookup outcome) p e = cc p
pending-not (calls.Accept headers) p e = cc p
pending-not calls.Forbidden p e = cc p
pending-not calls.NotFound p e = cc p
pending-not calls.TooManyRequests p e = cc p
pending-not c p e = cc e

done-not : (side : Side) (h : History) (c : Call) → done_record side h c ≡ HandshakeOver → ⊥
done-not side h (calls.ResetSend id code) e = by (is_open h) e
  where
    by : (b : Bool) → (if b then logs.Polled else logs.ResetUnsent id code) ≡ HandshakeOver → ⊥
    by true q = cc q
    by false q = cc q
done-not side h (calls.SetPriority id p) e = by _ e
  where
    by : (b : Bool) → (if b then logs.Polled else logs.PrioritySet id p) ≡ HandshakeOver → ⊥
    by true q = cc q
    by false q = cc q
done-not side h (calls.StopRecv id code) e = cc e
done-not side h (calls.EndSession name) e = by (is_open h) _ e
  where
    by : (b : Bool) (s : ℕ) → (if b then RequestRejected s else logs.Polled) ≡ HandshakeOver → ⊥
    by true s q = cc q
    by false s q = cc q
done-not side h c e = cc e

-- no other call ends the handshake
other-not : (side : Side) (h : History) (c : Call) (r : Reply) → is_other r ≡ true → polls (turns.Call c) ≡ false → is_of_request (turns.Call c) ≡ false → record_of side h c r ≡ HandshakeOver → ⊥
other-not side h c (replies.ConnectFailed e) o p q x = cc o
other-not side h c (replies.Failed e) o p q x = failure-not c q x
other-not side h c (replies.Read (Some (b ∷ bytes))) o p q x = cc x
other-not side h c (replies.ExactFailed (exacts.FinishedEarly count) piece) o p q x = cc x
other-not side h c replies.Done o p q x = done-not side h c x
other-not side h c replies.Pending o p q x = pending-not c p x
other-not side h c r o p q x = cc x

-- where a client's call does, no session was established
over-none : (h : History) → IsHistory Client h → (c : Call) → meaning.is_lawful Client h (turns.Call c) ≡ true → record_of Client h c (own_answer Client h (turns.Call c)).reply ≡ HandshakeOver → (s : ℕ) → is_established h s ≡ false
over-none h i c l e s = by (asks Client h (turns.Call c) l)
  where
    first : (x : History) → is_first x ≡ true → is_established x s ≡ false
    first [] q = refl
    first (y ∷ x) q = absurd (cc q)

    by : Asks Client h (turns.Call c) (next Client h (turns.Call c)).reply → is_established h s ≡ false
    by (Begins d x t k f g n) = first h f
    by (ForRequest x t a n) = absurd (cc x)
    by (Responds d x t k q n) = absurd (cc x)
    by (GoesOn t w n) = client-waits h i w s
    by (Else p q m g n) = absurd (other-not Client h c (own_answer Client h (turns.Call c)).reply (other-replies Client h c p q) p q e)

sessions-none : (ss : List Session) → ((s : ℕ) → list_any (is_session s) ss ≡ false) → ss ≡ []
sessions-none [] f = refl
sessions-none (x ∷ ss) f = absurd (clash (list_any (is_session x.id) (x ∷ ss)) (ap (λ (b : Bool). b || list_any (is_session x.id) ss) (eq-eqb x.id x.id refl)) (f x.id))

abbrev NoneIfOver : List CallRecord → Type 0
NoneIfOver cs = is_over (handshake_state cs) ≡ true → sessions_of cs ≡ []

record-over : (r : CallRecord) (cs : List CallRecord) → (r ≡ HandshakeOver → sessions_of cs ≡ []) → NoneIfOver cs → NoneIfOver (r ∷ cs)
record-over HandshakeOver cs none again o = none refl
record-over (SessionEstablished id offset) cs none again o = absurd (cc o)
record-over (RequestDelivered id) cs none again o = absurd (cc o)
record-over (ResponseStarted accepts head) cs none again o = absurd (cc o)
record-over (ConnectStarted reserved head) cs none again o = absurd (cc o)
record-over AcceptanceFailed cs none again o = absurd (cc o)
record-over (RequestRejected id) cs none again o = by (id == requested_stream cs) o
  where
    by : (b : Bool) → is_over (elim (if b then Some Answered else None) [ Some s ↦ s | None ↦ handshake_state cs ]) ≡ true → sessions_of cs ≡ []
    by true q = absurd (cc q)
    by false q = again q
record-over r cs none again o = again o

-- where a client's handshake is over no session was established
client-over : (log : Log) → IsReachable Client log → NoneIfOver (calls_of log)
client-over _ AtStart = λ e. refl
client-over _ (AfterTurn {log = log} turn r l) = after log r turn l (client-over log r)
  where
    after : (log : Log) → IsReachable Client log → (turn : Turn) → answers.is_lawful Client log turn ≡ true → NoneIfOver (calls_of log) → NoneIfOver (calls_of (log_after Client log turn))
    after log r (turns.Call c) l again =
        subst NoneIfOver (sym (call-calls Client log t c l)) (record-over (record_of Client t.h c (own_answer Client t.h (turns.Call c)).reply) (calls_of log)
        (λ e. sessions-none (sessions_of (calls_of log)) (λ s. t.stands.calls.established s ∙ over-none t.h t.hist c (lawful-agrees Client t.offset t.h log t.stands (turns.Call c) ∙ l) e s)) again)
      where
        t : Told Client log
        t = told Client log r
    after log r (turns.Bytes id piece) l again = subst NoneIfOver (sym (piece-calls Client id piece log)) again
    after log r turn l again = subst NoneIfOver (sym (turn-calls Client log turn refl)) again

pub over_ends : (side : Side) (log : Log) → IsReachable side log → handshake_state (calls_of log) ≡ Over → (s : ℕ) → was_established (call_view log) s ≡ true → logs.is_open log ≡ false
over_ends Client log r e s w = absurd (clash (was_established (call_view log) s) w (ap (list_any (is_session s)) (client-over log r (ap is_over e))))
over_ends Server log r e s w = sym t.stands.came.openness ∙ failed-shut Server t.h t.hist (failed-is t.h (handshake_state (calls_of log)) t.hist t.stands.handshake ∙ ap is_over e)
  where
    t : Told Server log
    t = told Server log r

-- ---- this end's next streams

-- the stream that a call began to open is some session's
started-of : (k : ℕ) (cs : List CallRecord) → list_any (starts_opening k) cs ≡ true → (s : ℕ) × (has_id k (members_of cs s) ≡ true)
started-of k [] e = absurd (cc e)
started-of k (r ∷ cs) e = by r e (started-of k cs)
  where
    kept : (o : Option ℕ) (ids : List ℕ) → has_id k ids ≡ true → has_id k (with_member o ids) ≡ true
    kept None ids x = x
    kept (Some j) ids x = has-with k j ids ∙ ap (λ (b : Bool). (j == k) || b) x ∙ or-true (j == k)

    by : (x : CallRecord) → list_any (starts_opening k) (x ∷ cs) ≡ true → (list_any (starts_opening k) cs ≡ true → (s : ℕ) × (has_id k (members_of cs s) ≡ true)) → (s : ℕ) × (has_id k (members_of (x ∷ cs) s) ≡ true)
    by (OpeningStarted id session) f again = or-either {P = (s : ℕ) × (has_id k (members_of (OpeningStarted id session ∷ cs) s) ≡ true)} (id == k) (list_any (starts_opening k) cs) f
        (λ q. (session, ap (λ (b : Bool). has_id k (with_member (if b then Some id else None) (members_of cs session))) (eq-eqb session session refl) ∙ has-with k id (members_of cs session) ∙ ap (λ (b : Bool). b || has_id k (members_of cs session)) q))
        (λ q. let a = again q in (a.0, kept (member_by a.0 (OpeningStarted id session)) (members_of cs a.0) a.1))
    by x f again = let a = again f in (a.0, kept (member_by a.0 x) (members_of cs a.0) a.1)

-- so that it is there
pub started_there : (side : Side) (log : Log) → IsReachable side log → (k : ℕ) → list_any (starts_opening k) (calls_of log) ≡ true → exists side log k ≡ true
started_there side log r k e =
    let m = started-of k (calls_of log) e in
    sym (there-is side log t k) ∙ t.members.there m.0 k (of (is_handed t k) _ _ (sym (t.members.same m.0 k) ∙ m.1))
  where
    t : Told side log
    t = told side log r

    is_handed : Told side log → ℕ → Bool
    is_handed x j = histories.is_handed_out x.h j

    of : (a b c : Bool) → ((a && b) || c) ≡ true → (b || c) ≡ true
    of true b c q = q
    of false b c q = ap (λ (x : Bool). b || x) q ∙ or-true b

pub next_absent : (side : Side) (log : Log) (kind : ℕ) → kind < 4 → exists side log (next_id side log kind) ≡ false
next_absent side log kind l =
    never (exists side log (next_id side log kind)) (λ e.
    let n = nth-of (stream_count side log kind) kind l in
    let m : nat_lt (stream_count side log kind) (stream_count side log kind) ≡ true = ap (λ (x : ℕ). nat_lt x (stream_count side log kind)) (sym n.0) ∙ ap (λ (x : ℕ). nat_lt (next_id side log kind / 4) (stream_count side log x)) (sym n.1) ∙ e in
    let q = ltb-true (stream_count side log kind) (stream_count side log kind) m in absurd (omega (arith, q)))

-- nothing was sent on the next stream of a kind, and no call began to open it
next-unbegun : (side : Side) (log : Log) → IsReachable side log → (kind : ℕ) → kind < 4 → list_any (starts_opening (next_id side log kind)) (calls_of log) ≡ false
next-unbegun side log r kind l = never (list_any (starts_opening (next_id side log kind)) (calls_of log)) (λ e. clash (exists side log (next_id side log kind)) (started_there side log r (next_id side log kind) e) (next_absent side log kind l))

pub next_uni_unbegun : (side : Side) (log : Log) → IsReachable side log → list_any (starts_opening (next_id side log (local_uni side))) (calls_of log) ≡ false
next_uni_unbegun side log r = next-unbegun side log r (local_uni side) (local-uni-small side)

pub next_bi_unbegun : (side : Side) (log : Log) → IsReachable side log → list_any (starts_opening (next_id side log (local_bi side))) (calls_of log) ≡ false
next_bi_unbegun side log r = next-unbegun side log r (local_bi side) (local-bi-small side)

next-unsent : (side : Side) (log : Log) → IsReachable side log → (kind : ℕ) → kind < 4 → ((local_uni side == kind) || (local_bi side == kind)) ≡ true → sent_on (actions_of log) (next_id side log kind) ≡ []
next-unsent side log r kind l o =
    sym (t.stands.out.sent (next_id side log kind)) ∙ absent-unsent side t.h t.hist (next_id side log kind) (ap (λ (n : ℕ). (local_uni side == n) || (local_bi side == n)) (nth-of (stream_count side log kind) kind l).1 ∙ o)
    (there-is side log t (next_id side log kind) ∙ next_absent side log kind l)
  where
    t : Told side log
    t = told side log r

pub next_uni_unsent : (side : Side) (log : Log) → IsReachable side log → sent_on (actions_of log) (next_id side log (local_uni side)) ≡ []
next_uni_unsent side log r = next-unsent side log r (local_uni side) (local-uni-small side) (by side)
  where
    by : (x : Side) → ((local_uni x == local_uni x) || (local_bi x == local_uni x)) ≡ true
    by Client = refl
    by Server = refl

pub next_bi_unsent : (side : Side) (log : Log) → IsReachable side log → sent_on (actions_of log) (next_id side log (local_bi side)) ≡ []
next_bi_unsent side log r = next-unsent side log r (local_bi side) (local-bi-small side) (by side)
  where
    by : (x : Side) → ((local_uni x == local_bi x) || (local_bi x == local_bi x)) ≡ true
    by Client = refl
    by Server = refl

-- ---- an established session's request is answered

-- nothing is established where no request came and no connect began
none-awaited : (cs : List CallRecord) → handshake_state cs ≡ AwaitingRequest → sessions_of cs ≡ []
none-awaited [] e = refl
none-awaited (ConnectStarted reserved head ∷ cs) e = absurd (cc e)
none-awaited (RequestDelivered id ∷ cs) e = absurd (cc e)
none-awaited (ResponseStarted accepts head ∷ cs) e = absurd (cc e)
none-awaited (AcceptanceFailed ∷ cs) e = absurd (cc e)
none-awaited (HandshakeOver ∷ cs) e = absurd (cc e)
none-awaited (SessionEstablished id offset ∷ cs) e = absurd (cc e)
none-awaited (RequestRejected id ∷ cs) e = by (id == requested_stream cs) e (none-awaited cs)
  where
    by : (b : Bool) → elim (if b then Some Answered else None) [ Some s ↦ s | None ↦ handshake_state cs ] ≡ AwaitingRequest → (handshake_state cs ≡ AwaitingRequest → sessions_of cs ≡ []) → sessions_of cs ≡ []
    by true f again = absurd (cc f)
    by false f again = again f
none-awaited (r ∷ cs) e = none-awaited cs e

pub request_answered : (side : Side) (log : Log) → IsReachable side log → (name : Option ℕ) (s : ℕ) → named_session log name ≡ Some s → logs.is_open log ≡ true → requested_stream (calls_of log) ≡ s
    → handshake_state (calls_of log) ≡ Answered
request_answered side log r name s n o q = by (handshake_state (calls_of log)) refl
  where
    held : Holds side log
    held = reached_holds side log r

    there : was_established (call_view log) s ≡ true
    there = named_established side log r name s n

    none : sessions_of (calls_of log) ≡ [] → ⊥
    none e = clash (was_established (call_view log) s) there (ap (list_any (is_session s)) e)

    asked : is_asked (handshake_state (calls_of log)) ≡ true → ⊥
    asked a = clash (was_established (call_view log) s) there (subst (λ (k : ℕ). was_established (call_view log) k ≡ false) q (held.asked a).1)

    by : (state : HandshakeState) → handshake_state (calls_of log) ≡ state → state ≡ Answered
    by AwaitingRequest e = absurd (none (none-awaited (calls_of log) e))
    by (Requested id) e = absurd (asked (ap is_asked e))
    by (Responding accepts head) e = absurd (asked (ap is_asked e))
    by (Connecting reserved head) e = absurd (none (held.dialling (ap is_dialling e)).1)
    by Answered e = refl
    by Over e = absurd (clash (logs.is_open log) o (over_ends side log r e s there))
