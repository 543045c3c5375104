-- What a call does to a core, by what it does to the driver and to what is kept of the streams, and by what the handshake makes of it.
use Rattle.std.proofs.Common.{◌∙◌, ap, inl, refl, sym}
use Rattle.std.proofs.lemmas.Bool.{eqb-true, true≢false}
use Rattle.std.specs.Option.{option_or}
use Rattle.std.specs.Prelude.{◌==◌, ◌≡◌, Bool, Err, IfOk, List, None, Ok, OnOk, Option, Result, Some, false, if◌then◌else◌, true, ℕ}
use Rattle.wt_driver_laws.specs.Driving.{AfterTurn, Follows, IsReachable}
use Rattle.wt_kept.specs.Kept.{DriverNow}
use Rattle.wt_meaning.specs.Targets.{Target}
use Rattle.wt_core.proofs.Kept.{streams-after}
use Rattle.wt_core.proofs.Stepping.{call-taken}
use Rattle.wt_core.specs.Answering.{Answers, EstablishedBy, NamedAnswers, Shaken}
use Rattle.wt_core.specs.Calls.{is_handshake, receiving_id, sending_id, session_name}
use Rattle.wt_core.specs.Held.{Held, accepting, asked, connect_by, connecting, handshake_by, held_after, rejecting, with_session}
use Rattle.wt_core.specs.HeldNow.{HoldsSessions, SameSessions, SessionsNow, StreamsNow, half_if, held_by}
use Rattle.wt_core.specs.CoreState.{CoreState, Keeps}
use Rattle.wt_core.specs.Keeping.{CallAnswers, CallTaken, TurnAnswers}
use Rattle.wt_core.specs.Rows.{HasPut}
use Rattle.wt_core.specs.Shakes.{Shake, ShakeIs, outcome_reply}
use Rattle.wt_core.specs.declared.handshake.Outcome.{Outcome}
use Rattle.wt_core.specs.declared.handshake.Outcome.TheVariants as outcomes
use Rattle.wt_sessions.specs.Answers.{call_effect, may_call, named_session}
use Rattle.wt_sessions.specs.Handshake.{Connecting, HandshakeState, Responding}
use Rattle.wt_turn.specs.Log.{Log}
use Rattle.wt_turn.specs.declared.call.Call.{Call}
use Rattle.wt_turn.specs.declared.call.Call.TheVariants as calls
use Rattle.wt_turn.specs.declared.connecting_error.ConnectingError.{ConnectingError}
use Rattle.wt_turn.specs.declared.reply.Reply.{Reply}
use Rattle.wt_turn.specs.declared.reply.Reply.TheVariants as replies
use Rattle.wt_turn.specs.declared.turn.Turn.TheVariants as turns
use Rattle.wt_wire.specs.declared.side.Side.{Side}

-- what is kept of the sessions: with the one that was established, or as it was
abbrev pub SessionsBy : Outcome → SessionsNow → SessionsNow → Type 0
SessionsBy (outcomes.Session s) old new = HasPut old.rows new.rows s (Some s) × (new.first ≡ option_or old.first (Some s))
SessionsBy (outcomes.Reply reply) old new = SameSessions old new

-- one on a stream
pub by-streams : {E : Type 0} (k : CoreState) (call : Call) (result : Result Reply E) (d : DriverNow) (streams : StreamsNow) → is_handshake call ≡ false → Answers k.driver k.streams call result d streams
    → CallAnswers k call result (record k { driver = d; streams = streams })
by-streams k call (Ok reply) d streams other a = (
  refl,
  λ side log collected x may.
      call-taken side log collected k x call may other reply d k.sessions streams (record { rows = λ s. refl; first = refl }) (a side log collected x.driver x.reached x.streams may),
)
by-streams k call (Err e) d streams other a = tt

-- one on a session
pub by-sessions : {E : Type 0} (k : CoreState) (call : Call) (result : Result Reply E) (d : DriverNow) (sessions : SessionsNow) (streams : StreamsNow) → is_handshake call ≡ false → NamedAnswers k.driver k.sessions k.streams call result d streams
    → OnOk result (SameSessions k.sessions sessions) → CallAnswers k call result (record k { driver = d; sessions = sessions; streams = streams })
by-sessions k call (Ok reply) d sessions streams other a same = (
  refl,
  λ side log collected x may.
      call-taken side log collected k x call may other reply d sessions streams same (a side log collected x.driver x.reached x.sessions x.streams may),
)
by-sessions k call (Err e) d sessions streams other a same = tt

-- ---- none of these is of a handshake

pub sending-past : (call : Call) (k : ℕ) → sending_id call ≡ Some k → is_handshake call ≡ false
sending-past (calls.Write id bytes) k e = refl
sending-past (calls.WriteAll id bytes) k e = refl
sending-past (calls.Finish id) k e = refl
sending-past (calls.Stopped id) k e = refl
sending-past (calls.Priority id) k e = refl
sending-past (calls.SetPriority id p) k e = refl
sending-past (calls.ResetSend id code) k e = refl
sending-past _ k e = absurd cc

pub receiving-past : (call : Call) (k : ℕ) → receiving_id call ≡ Some k → is_handshake call ≡ false
receiving-past (calls.Read id size) k e = refl
receiving-past (calls.ReadExact id size) k e = refl
receiving-past _ k e = absurd cc

pub session-past : (call : Call) (name : Option ℕ) → session_name call ≡ Some name → is_handshake call ≡ false
session-past (calls.Connect options lookup outcome) name e = absurd cc
session-past calls.Incoming name e = absurd cc
session-past (calls.Accept headers) name e = absurd cc
session-past calls.Forbidden name e = absurd cc
session-past calls.NotFound name e = absurd cc
session-past calls.TooManyRequests name e = absurd cc
session-past calls.Handshake name e = absurd cc
session-past _ name e = refl

-- ---- one of a handshake

-- it leaves the streams
pub record Beside (g h : Held) : Type 0 where
  pub sends : g.sends ≡ h.sends
  pub recvs : g.recvs ≡ h.recvs
  pub openings : g.openings ≡ h.openings

connecting-beside : (reserved : Option (List ℕ)) (head : List ℕ) (r : Reply) (h : Held) → Beside (connecting reserved head r h) h
connecting-beside reserved head (replies.Session s) h = record { sends = refl; recvs = refl; openings = refl }
connecting-beside reserved head (replies.ConnectFailed e) h = record { sends = refl; recvs = refl; openings = refl }
connecting-beside reserved head _ h = record { sends = refl; recvs = refl; openings = refl }

accepting-beside : (head : List ℕ) (r : Reply) (h : Held) → Beside (accepting head r h) h
accepting-beside head (replies.Session s) h = record { sends = refl; recvs = refl; openings = refl }
accepting-beside head (replies.Failed e) h = record { sends = refl; recvs = refl; openings = refl }
accepting-beside head _ h = record { sends = refl; recvs = refl; openings = refl }

rejecting-beside : (head : List ℕ) (r : Reply) (h : Held) → Beside (rejecting head r h) h
rejecting-beside head replies.Rejected h = record { sends = refl; recvs = refl; openings = refl }
rejecting-beside head _ h = record { sends = refl; recvs = refl; openings = refl }

asked-beside : (r : Reply) (h : Held) → Beside (asked r h) h
asked-beside (replies.Request id fields) h = record { sends = refl; recvs = refl; openings = refl }
asked-beside (replies.Failed e) h = record { sends = refl; recvs = refl; openings = refl }
asked-beside _ h = record { sends = refl; recvs = refl; openings = refl }

target-beside : (t : Result Target ConnectingError) (r : Reply) (h : Held) → Beside (connect_by t r h) h
target-beside (Ok t) r h = connecting-beside t.reserved t.frame r h
target-beside (Err e) r h = record { sends = refl; recvs = refl; openings = refl }

state-beside : (s : HandshakeState) (r : Reply) (h : Held) → Beside (handshake_by s r h) h
state-beside (Responding true head) r h = accepting-beside head r h
state-beside (Responding false head) r h = rejecting-beside head r h
state-beside (Connecting reserved head) r h = connecting-beside reserved head r h
state-beside _ r h = record { sends = refl; recvs = refl; openings = refl }

pub shake-beside : (call : Call) → is_handshake call ≡ true → (r : Reply) (h : Held) → Beside (held_after call r h) h
shake-beside (calls.Connect options lookup outcome) e r h = target-beside _ r h
shake-beside calls.Incoming e r h = asked-beside r h
shake-beside (calls.Accept headers) e r h = accepting-beside _ r h
shake-beside calls.Forbidden e r h = rejecting-beside _ r h
shake-beside calls.NotFound e r h = rejecting-beside _ r h
shake-beside calls.TooManyRequests e r h = rejecting-beside _ r h
shake-beside calls.Handshake e r h = state-beside h.stage r h
shake-beside _ e r h = absurd cc

shake-other : (call : Call) → is_handshake call ≡ true → (j : ℕ) → call ≡ calls.PollOpening j → ⊥
shake-other call e j p = let q : is_handshake (calls.PollOpening j) ≡ true = ap is_handshake (sym p) ∙ e in true≢false (sym q)

-- the sessions then are those of the log
sessions-by : (side : Side) (o : Outcome) (log later : Log) (old new : SessionsNow) → HoldsSessions side old log → EstablishedBy o log later → SessionsBy o old new → HoldsSessions side new later
sessions-by side (outcomes.Session s) log later old new x e b = record {
  rows = λ k. b.0 k ∙ ap (λ (v : Option ℕ). if s == k then Some s else v) (x.rows k) ∙ same k ∙ sym (e (Some k));
  first = b.1 ∙ ap (λ (v : Option ℕ). option_or v (Some s)) x.first ∙ sym (e None);
}
  where
    same : (k : ℕ) → (if s == k then Some s else named_session log (Some k)) ≡ with_session s (named_session log) (Some k)
    same k = by (s == k) refl
      where
        by : (b : Bool) → (s == k) ≡ b → (if b then Some s else named_session log (Some k)) ≡ (if b then Some k else named_session log (Some k))
        by true f = ap (λ (n : ℕ). Some n) (eqb-true s k f)
        by false f = refl
sessions-by side (outcomes.Reply reply) log later old new x e b = record { rows = λ k. b.rows k ∙ x.rows k ∙ sym (e (Some k)); first = b.first ∙ x.first ∙ sym (e None) }

pub shaken-taken : (side : Side) (log : Log) (collected : ℕ) (k : CoreState) → Keeps side k log collected → (call : Call) → may_call side log call ≡ true → is_handshake call ≡ true
    → (o : Outcome) (d : DriverNow) (shake : Shake) (sessions : SessionsNow) → SessionsBy o k.sessions sessions → Shaken side log collected call o d shake
    → CallTaken side log collected call (outcome_reply o) (record k { driver = d; shake = shake; sessions = sessions })
shaken-taken side log collected k x call may hand o d shake sessions by a =
    let beside = shake-beside call hand (outcome_reply o) (held_by side log) in
    record {
      reply = a.did.reply;
      kept = record {
        driver = a.did.log;
        shake = a.is;
        sessions = sessions-by side o log (call_effect side log call).log k.sessions sessions x.sessions a.sessions by;
        streams = streams-after side log x.reached call may k.streams k.streams x.streams (outcome_reply o) a.did.reply
            (record {
              sends = λ j. x.streams.finds.sends j ∙ ap (λ (f : ℕ → Bool). half_if (f j) j) (sym beside.sends);
              recvs = λ j. x.streams.finds.recvs j ∙ ap (λ (f : ℕ → Bool). half_if (f j) j) (sym beside.recvs);
              openings = λ j. x.streams.finds.openings j ∙ ap (λ (f : ℕ → Option ℕ). f j) (sym beside.openings);
            })
            (λ j p is. inl (is, shake-other call hand j));
        reached = AfterTurn (turns.Call call) x.reached may;
      };
    }

-- it establishes a session
pub established-taken : {E : Type 0} (k : CoreState) (call : Call) (result : Result Reply E) (s : ℕ) (d : DriverNow) (shake : Shake) (sessions : SessionsNow) → IfOk result (λ reply. reply ≡ replies.Session s)
    → OnOk result (HasPut k.sessions.rows sessions.rows s (Some s)) → OnOk result (sessions.first ≡ option_or k.sessions.first (Some s)) → is_handshake call ≡ true
    → ((side : Side) (log : Log) (collected : ℕ) → Follows side k.driver log collected → IsReachable side log → ShakeIs side log k.shake → may_call side log call ≡ true → Shaken side log collected call (outcomes.Session s) d shake)
    → CallAnswers k call result (record k { driver = d; shake = shake; sessions = sessions })
established-taken k call (Ok reply) s d shake sessions e rows first hand a = (
  refl,
  λ side log collected x may.
      let t = shaken-taken side log collected k x call may hand (outcomes.Session s) d shake sessions (rows, first) (a side log collected x.driver x.reached x.shake may) in
      record { reply = e ∙ t.reply; kept = t.kept },
)
established-taken k call (Err e) s d shake sessions f rows first hand a = tt

-- ---- a turn that is a call

pub call-turn : {E : Type 0} (k m : CoreState) (call : Call) (result : Result Reply E) → CallAnswers k call result m → TurnAnswers k (turns.Call call) result m
call-turn k m call (Ok reply) a = (a.0, λ side log collected x l. let t = a.1 side log collected x l in record { reply = t.reply; kept = t.kept })
call-turn k m call (Err e) a = tt
