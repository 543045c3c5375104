-- Calls on a session, by what the calls of its public type do.
use Rattle.std.proofs.Common.{◌∙◌, ap, inl, refl, subst, sym}
use Rattle.std.specs.Option.{option_or}
use Rattle.std.specs.Prelude.{◌≡◌, Bool, Err, IfOk, None, Ok, Option, Result, Some, if◌then◌else◌, false, is_some, true, ℕ}
use Rattle.wt_driver_laws.specs.Calling.{Did, Does}
use Rattle.wt_driver_laws.specs.Driving.{Follows, IsReachable}
use Rattle.wt_driver_laws.specs.Having.{HasSession}
use Rattle.wt_kept.specs.Kept.{DriverNow}
use Rattle.wt_core.proofs.Given.{did-so}
use Rattle.wt_core.proofs.Kept.{none-out, put-back, streams-after}
use Rattle.wt_core.proofs.Named.{answered-as, named-has, named-may, named-none, named-same, no-session, unnamed}
use Rattle.wt_core.specs.Answering.{Answered, SessionAnswers}
use Rattle.wt_core.specs.Calls.{named_so, session_name}
use Rattle.wt_core.specs.Held.{Held, held_after}
use Rattle.wt_core.specs.HeldNow.{FindsStreams, HoldsSessions, HoldsStreams, SameSessions, SessionsNow, StreamsNow, held_by}
use Rattle.wt_core.specs.Rows.{HasPut, value_at}
use Rattle.wt_session.proofs.Sessions.{Rests, within}
use Rattle.wt_sessions.specs.Answers.{call_effect, may_call, named_session}
use Rattle.wt_sessions.specs.Driver.{call_view}
use Rattle.wt_sessions.specs.Effect.{Effect}
use Rattle.wt_sessions.specs.StreamTable.{was_established}
use Rattle.wt_turn.specs.Log.{Log, Polled}
use Rattle.wt_turn.specs.declared.call.Call.{Call}
use Rattle.wt_turn.specs.declared.call.Call.TheVariants as calls
use Rattle.wt_turn.specs.declared.reply.Reply.{Reply}
use Rattle.wt_turn.specs.declared.reply.Reply.TheVariants as replies
use Rattle.wt_wire.specs.declared.side.Side.{Side}

-- without a session nothing is given
pub session-quiet : (call : Call) (name : Option ℕ) → session_name call ≡ Some name → (h : Held) → held_after call replies.NoSession h ≡ h
session-quiet (calls.Connect options lookup outcome) name e h = absurd cc
session-quiet calls.Incoming name e h = absurd cc
session-quiet (calls.Accept headers) name e h = absurd cc
session-quiet calls.Forbidden name e h = absurd cc
session-quiet calls.NotFound name e h = absurd cc
session-quiet calls.TooManyRequests name e h = absurd cc
session-quiet calls.Handshake name e h = absurd cc
session-quiet _ name e h = refl

pub session-other : (call : Call) (name : Option ℕ) → session_name call ≡ Some name → (j : ℕ) → call ≡ calls.PollOpening j → ⊥
session-other call name e j p = let q : session_name (calls.PollOpening j) ≡ Some name = ap session_name (sym p) ∙ e in cc

-- a session's value that is found is the session
found-is : (b : Bool) (s v : ℕ) → Some v ≡ (if b then Some s else None) → (v ≡ s) × ((if b then Some s else None) ≡ Some s)
found-is true s v e = (let same : v ≡ s = cc in same, refl)
found-is false s v e = absurd cc

pub found-has : (side : Side) (log : Log) (s v : ℕ) → Some v ≡ named_session log (Some s) → (v ≡ s) × HasSession s side log
found-has side log s v e = found-is (was_established (call_view log) s) s v e

module _ (side : Side) (log : Log) (collected : ℕ) (d later : DriverNow) (sessions : SessionsNow) (old new : StreamsNow) (call : Call) (name : Option ℕ) (s : session_name call ≡ Some name) (f : Follows side d log collected) (r : IsReachable side log)
    (xs : HoldsSessions side sessions log) (x : HoldsStreams side old log) (may : may_call side log call ≡ true) where
  nothing-named : named_session log name ≡ None → Rests d → Answered side log collected call replies.NoSession d old
  nothing-named n rests =
      let did : Did side d collected replies.NoSession (call_effect side log call)
      = subst (λ (y : Effect). Did side d collected replies.NoSession y) (no-session side log call name s n) (record { reply = refl; log = rests Polled refl side log collected f (within side log r) }) in
      record {
        did = did;
        holds = streams-after side log r call may old old x replies.NoSession did.reply (subst (FindsStreams old) (sym (session-quiet call name s (held_by side log))) x.finds) (λ k o is. inl (is, session-other call name s k));
      }

  -- what the name means
  meant : (v : Option ℕ) → v ≡ option_or name sessions.first → option_or name (named_session log None) ≡ v
  meant v e = sym (e ∙ ap (option_or name) xs.first)

  -- the call names none, and there is none
  pub unnamed-nothing : (v : Option ℕ) → v ≡ option_or name sessions.first → v ≡ None → Rests d → Answered side log collected call replies.NoSession d old
  unnamed-nothing v e none rests = nothing-named (named-none log name (meant v e ∙ none)) rests

  -- the session that it names isn't there
  pub named-nothing : (v w : Option ℕ) (session : ℕ) → v ≡ option_or name sessions.first → v ≡ Some session → w ≡ value_at sessions.rows session → w ≡ None → Rests d → Answered side log collected call replies.NoSession d old
  named-nothing v w session e some g none rests = nothing-named (unnamed side log name session (meant v e ∙ some) (sym (xs.rows session) ∙ sym g ∙ none)) rests

  -- it is called on the session
  pub named-did : (v w : Option ℕ) (session connection : ℕ) (answer : Reply) → v ≡ option_or name sessions.first → v ≡ Some session → w ≡ value_at sessions.rows session → w ≡ Some connection
      → ((side : Side) (log : Log) (collected : ℕ) → Follows side d log collected → IsReachable side log → HoldsStreams side old log → HasSession connection side log → may_call side log (named_so connection call) ≡ true
      → Answered side log collected (named_so connection call) answer later new)
      → Answered side log collected call answer later new
  named-did v w session connection answer e some g there does =
      let (same, has) = found-has side log session connection (sym there ∙ g ∙ xs.rows session) in
      let named = named-has side log name session (meant v e ∙ some) has in
      let on : HasSession connection side log = subst (λ (k : ℕ). HasSession k side log) (sym same) has in
      answered-as side log collected (named_so connection call) call answer later new
      (ap (λ (k : ℕ). call_effect side log (named_so k call)) same ∙ named-same side log call name session s named.0 has)
      (does side log collected f r x on (named-may side log call connection ∙ may))

-- a session that is taken and put back is where it was
pub same-back : (old mid new : SessionsNow) (session connection after : ℕ) (w : Option ℕ) → w ≡ value_at old.rows session → w ≡ Some connection → HasPut old.rows mid.rows session None → mid.first ≡ old.first → HasPut mid.rows new.rows session (Some after)
    → new.first ≡ mid.first → after ≡ connection → SameSessions old new
same-back old mid new session connection after w g there out mf put nf same = record {
  rows = put-back old.rows mid.rows new.rows session connection (sym g ∙ there) out (subst (λ (n : ℕ). HasPut mid.rows new.rows session (Some n)) same put);
  first = nf ∙ mf;
}

-- a session that isn't there isn't there after it was taken
pub same-out : (old mid : SessionsNow) (session : ℕ) (w : Option ℕ) → w ≡ value_at old.rows session → w ≡ None → HasPut old.rows mid.rows session None → mid.first ≡ old.first → SameSessions old mid
same-out old mid session w g none out mf = record { rows = none-out old.rows mid.rows session (sym g ∙ none) out; first = mf }

-- ---- a call that gives no stream

told-quiet : (s : ℕ) (call : Call) → is_some (session_name call) ≡ true → ((n : Option ℕ) → call ≡ calls.AcceptUni n → ⊥) → ((n : Option ℕ) → call ≡ calls.AcceptBi n → ⊥) → ((n : Option ℕ) → call ≡ calls.OpenUni n → ⊥)
    → ((n : Option ℕ) → call ≡ calls.OpenBi n → ⊥) → (a : Reply) (h : Held) → held_after (named_so s call) a h ≡ h
told-quiet s (calls.AcceptUni n) e au ab ou ob a h = absurd (au n refl)
told-quiet s (calls.AcceptBi n) e au ab ou ob a h = absurd (ab n refl)
told-quiet s (calls.OpenUni n) e au ab ou ob a h = absurd (ou n refl)
told-quiet s (calls.OpenBi n) e au ab ou ob a h = absurd (ob n refl)
told-quiet s (calls.ReceiveDatagram n) e au ab ou ob a h = refl
told-quiet s (calls.SendDatagram payload n) e au ab ou ob a h = refl
told-quiet s (calls.MaxDatagramSize n) e au ab ou ob a h = refl
told-quiet s (calls.SessionId n) e au ab ou ob a h = refl
told-quiet s (calls.EndSession n) e au ab ou ob a h = refl
told-quiet s (calls.Close code reason) e au ab ou ob a h = refl
told-quiet s calls.Closed e au ab ou ob a h = refl
told-quiet s _ e au ab ou ob a h = absurd cc

told-other : (s : ℕ) (call : Call) → is_some (session_name call) ≡ true → (j : ℕ) → named_so s call ≡ calls.PollOpening j → ⊥
told-other s call e j p = let q : true ≡ false = sym (named-some call e) ∙ ap (λ (x : Call). is_some (session_name x)) p in cc
  where
    named-some : (call : Call) → is_some (session_name call) ≡ true → is_some (session_name (named_so s call)) ≡ true
    named-some (calls.AcceptUni n) e = refl
    named-some (calls.AcceptBi n) e = refl
    named-some (calls.OpenUni n) e = refl
    named-some (calls.OpenBi n) e = refl
    named-some (calls.ReceiveDatagram n) e = refl
    named-some (calls.SendDatagram payload n) e = refl
    named-some (calls.MaxDatagramSize n) e = refl
    named-some (calls.SessionId n) e = refl
    named-some (calls.EndSession n) e = refl
    named-some _ e = e

pub told-answers : {E : Type 0} (s : ℕ) (d later : DriverNow) (streams : StreamsNow) (call : Call) (result : Result Reply E) → is_some (session_name call) ≡ true → ((n : Option ℕ) → call ≡ calls.AcceptUni n → ⊥)
    → ((n : Option ℕ) → call ≡ calls.AcceptBi n → ⊥) → ((n : Option ℕ) → call ≡ calls.OpenUni n → ⊥) → ((n : Option ℕ) → call ≡ calls.OpenBi n → ⊥)
    → IfOk result (Does d later (HasSession s) (named_so s call) (λ (reply : Reply). reply)) → SessionAnswers s d streams (named_so s call) result later streams
told-answers s d later streams call (Ok reply) e au ab ou ob does = λ side log collected f r x has may.
    did-so side log collected r (named_so s call) may later streams streams x (λ a. told-quiet s call e au ab ou ob a (held_by side log)) (told-other s call e)
    (record { sends = λ k. refl; recvs = λ k. refl; openings = λ k. refl }) reply (does side log collected f r has)
told-answers s d later streams call (Err x) e au ab ou ob does = tt
