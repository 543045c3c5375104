-- Calls on a session, by its name: the first is one that was established, and the session's own name says the same.
use Rattle.std.proofs.Common.{◌∙◌, ap, refl, subst, sym}
use Rattle.std.proofs.lemmas.Bool.{eq-eqb}
use Rattle.std.specs.List.{list_any}
use Rattle.std.specs.Option.{option_or}
use Rattle.std.specs.Prelude.{[], ◌==◌, ◌||◌, ◌∷◌, ◌≡◌, Bool, List, None, Option, Some, false, if◌then◌else◌, true, ℕ}
use Rattle.wt_driver_laws.specs.Driving.{Follows, IsReachable}
use Rattle.wt_driver_laws.specs.Having.{HasSession}
use Rattle.wt_core.proofs.Records.{any-insert}
use Rattle.wt_core.specs.Answering.{Answered}
use Rattle.wt_core.specs.Calls.{named_so, session_name}
use Rattle.wt_core.specs.HeldNow.{HoldsStreams, StreamsNow}
use Rattle.wt_driver_laws.specs.Calling.{Did}
use Rattle.wt_session.specs.Replies.{HasAny}
use Rattle.wt_kept.specs.Kept.{DriverNow}
use Rattle.wt_sessions.specs.Answers.{call_effect, in_session, may_call, named_session}
use Rattle.wt_sessions.specs.Driver.{establishes, first_session, sessions_after, sessions_of}
use Rattle.wt_sessions.specs.Effect.{Effect, poll_only}
use Rattle.wt_sessions.specs.StreamTable.{Session, is_session}
use Rattle.wt_session.proofs.Sessions.{Rests, within}
use Rattle.wt_turn.specs.Log.{CallRecord, Log, Polled, SessionEstablished, calls_of}
use Rattle.wt_turn.specs.declared.call.Call.{Call}
use Rattle.wt_turn.specs.declared.call.Call.TheVariants as calls
use Rattle.wt_turn.specs.declared.reply.Reply.{Reply}
use Rattle.wt_turn.specs.declared.reply.Reply.TheVariants as replies
use Rattle.wt_wire.specs.declared.side.Side.{Side}

-- ---- the first session was established

still-named : (r : CallRecord) (ss : List Session) (s : ℕ) → list_any (is_session s) ss ≡ true → list_any (is_session s) (sessions_after r ss) ≡ true
still-named (SessionEstablished id offset) ss s e = any-insert (is_session s) (record { id = id; offset = offset }) ss ∙ ap (λ (b : Bool). (id == s) || b) e ∙ by (id == s)
  where
    by : (b : Bool) → (b || true) ≡ true
    by true = refl
    by false = refl
still-named _ ss s e = e

new-named : (r : CallRecord) (ss : List Session) (s : ℕ) → establishes r ≡ Some s → list_any (is_session s) (sessions_after r ss) ≡ true
new-named (SessionEstablished id offset) ss s e =
    let same : id ≡ s = cc in
    any-insert (is_session s) (record { id = id; offset = offset }) ss ∙ ap (λ (b : Bool). b || list_any (is_session s) ss) (eq-eqb id s same)
new-named _ ss s e = absurd cc

first-named : (cs : List CallRecord) (s : ℕ) → first_session cs ≡ Some s → list_any (is_session s) (sessions_of cs) ≡ true
first-named [] s e = absurd cc
first-named (r ∷ cs) s e = by (first-named cs s) (first_session cs) refl e
  where
    by : (first_session cs ≡ Some s → list_any (is_session s) (sessions_of cs) ≡ true) → (f : Option ℕ) → first_session cs ≡ f → option_or f (establishes r) ≡ Some s → list_any (is_session s) (sessions_after r (sessions_of cs)) ≡ true
    by ih None g h = new-named r (sessions_of cs) s h
    by ih (Some t) g h = still-named r (sessions_of cs) s (ih (g ∙ h))

pub first-established : (side : Side) (log : Log) (s : ℕ) → named_session log None ≡ Some s → HasSession s side log
first-established side log s e = ap (λ (b : Bool). if b then Some s else None) (first-named (calls_of log) s e)

-- a session was established where one was
quiet-record : (r : CallRecord) (ss : List Session) → establishes r ≡ None → sessions_after r ss ≡ ss
quiet-record (SessionEstablished id offset) ss e = absurd cc
quiet-record _ ss e = refl

none-named : (cs : List CallRecord) → first_session cs ≡ None → sessions_of cs ≡ []
none-named [] e = refl
none-named (r ∷ cs) e = by (none-named cs) (first_session cs) refl e
  where
    by : (first_session cs ≡ None → sessions_of cs ≡ []) → (f : Option ℕ) → first_session cs ≡ f → option_or f (establishes r) ≡ None → sessions_after r (sessions_of cs) ≡ []
    by ih None g h = quiet-record r (sessions_of cs) h ∙ ih g
    by ih (Some t) g h = absurd cc

pub any-established : (side : Side) (log : Log) (s : ℕ) → HasSession s side log → HasAny side log
any-established side log s has n = let q : None ≡ Some s = ap (λ (ss : List Session). if list_any (is_session s) ss then Some s else None) (sym (none-named (calls_of log) n)) ∙ has in cc

-- a look-up by this name finds this session
pub named-has : (side : Side) (log : Log) (name : Option ℕ) (s : ℕ) → option_or name (named_session log None) ≡ Some s → named_session log (Some s) ≡ Some s → (named_session log name ≡ Some s) × HasSession s side log
named-has side log None s e f = (e, f)
named-has side log (Some t) s e f = (ap (named_session log) e ∙ f, f)

-- and one that finds none
pub named-none : (log : Log) (name : Option ℕ) → option_or name (named_session log None) ≡ None → named_session log name ≡ None
named-none log None e = e
named-none log (Some t) e = absurd cc

pub unnamed : (side : Side) (log : Log) (name : Option ℕ) (s : ℕ) → option_or name (named_session log None) ≡ Some s → named_session log (Some s) ≡ None → named_session log name ≡ None
unnamed side log None s e f = let q : Some s ≡ None = sym (first-established side log s e) ∙ f in cc
unnamed side log (Some t) s e f = ap (named_session log) e ∙ f

-- ---- which call finds no session

pub no-session : (side : Side) (log : Log) (call : Call) (name : Option ℕ) → session_name call ≡ Some name → named_session log name ≡ None → poll_only side log replies.NoSession ≡ call_effect side log call
unfolding call_effect
no-session side log (calls.AcceptUni n) name e f = let same : n ≡ name = cc in ap (in_session side log _) (sym (ap (named_session log) same ∙ f))
no-session side log (calls.AcceptBi n) name e f = let same : n ≡ name = cc in ap (in_session side log _) (sym (ap (named_session log) same ∙ f))
no-session side log (calls.OpenUni n) name e f = let same : n ≡ name = cc in ap (in_session side log _) (sym (ap (named_session log) same ∙ f))
no-session side log (calls.OpenBi n) name e f = let same : n ≡ name = cc in ap (in_session side log _) (sym (ap (named_session log) same ∙ f))
no-session side log (calls.ReceiveDatagram n) name e f = let same : n ≡ name = cc in ap (in_session side log _) (sym (ap (named_session log) same ∙ f))
no-session side log (calls.SendDatagram payload n) name e f = let same : n ≡ name = cc in ap (in_session side log _) (sym (ap (named_session log) same ∙ f))
no-session side log (calls.MaxDatagramSize n) name e f = let same : n ≡ name = cc in ap (in_session side log _) (sym (ap (named_session log) same ∙ f))
no-session side log (calls.SessionId n) name e f = let same : n ≡ name = cc in ap (in_session side log _) (sym (ap (named_session log) same ∙ f))
no-session side log (calls.EndSession n) name e f = let same : n ≡ name = cc in ap (in_session side log _) (sym (ap (named_session log) same ∙ f))
no-session side log (calls.Close code reason) name e f = let same : None ≡ name = cc in ap (in_session side log _) (sym (ap (named_session log) same ∙ f))
no-session side log calls.Closed name e f = let same : None ≡ name = cc in ap (in_session side log _) (sym (ap (named_session log) same ∙ f))
no-session side log _ name e f = absurd cc

-- ---- the same call by the session's own name

pub named-same : (side : Side) (log : Log) (call : Call) (name : Option ℕ) (s : ℕ) → session_name call ≡ Some name → named_session log name ≡ Some s → HasSession s side log → call_effect side log (named_so s call) ≡ call_effect side log call
unfolding call_effect
named-same side log (calls.AcceptUni n) name s e f has = let same : n ≡ name = cc in ap (in_session side log _) (has ∙ sym (ap (named_session log) same ∙ f))
named-same side log (calls.AcceptBi n) name s e f has = let same : n ≡ name = cc in ap (in_session side log _) (has ∙ sym (ap (named_session log) same ∙ f))
named-same side log (calls.OpenUni n) name s e f has = let same : n ≡ name = cc in ap (in_session side log _) (has ∙ sym (ap (named_session log) same ∙ f))
named-same side log (calls.OpenBi n) name s e f has = let same : n ≡ name = cc in ap (in_session side log _) (has ∙ sym (ap (named_session log) same ∙ f))
named-same side log (calls.ReceiveDatagram n) name s e f has = let same : n ≡ name = cc in ap (in_session side log _) (has ∙ sym (ap (named_session log) same ∙ f))
named-same side log (calls.SendDatagram payload n) name s e f has = let same : n ≡ name = cc in ap (in_session side log _) (has ∙ sym (ap (named_session log) same ∙ f))
named-same side log (calls.MaxDatagramSize n) name s e f has = let same : n ≡ name = cc in ap (in_session side log _) (has ∙ sym (ap (named_session log) same ∙ f))
named-same side log (calls.SessionId n) name s e f has = let same : n ≡ name = cc in ap (in_session side log _) (has ∙ sym (ap (named_session log) same ∙ f))
named-same side log (calls.EndSession n) name s e f has = let same : n ≡ name = cc in ap (in_session side log _) (has ∙ sym (ap (named_session log) same ∙ f))
named-same side log _ name s e f has = refl

pub named-may : (side : Side) (log : Log) (call : Call) (s : ℕ) → may_call side log (named_so s call) ≡ may_call side log call
named-may side log (calls.Connect options lookup outcome) s = refl
named-may side log calls.Incoming s = refl
named-may side log (calls.Accept headers) s = refl
named-may side log calls.Forbidden s = refl
named-may side log calls.NotFound s = refl
named-may side log calls.TooManyRequests s = refl
named-may side log calls.Handshake s = refl
named-may side log (calls.AcceptUni n) s = refl
named-may side log (calls.AcceptBi n) s = refl
named-may side log (calls.OpenUni n) s = refl
named-may side log (calls.OpenBi n) s = refl
named-may side log (calls.ReceiveDatagram n) s = refl
named-may side log (calls.SendDatagram payload n) s = refl
named-may side log (calls.MaxDatagramSize n) s = refl
named-may side log (calls.SessionId n) s = refl
named-may side log (calls.EndSession n) s = refl
named-may side log _ s = refl

-- what was done for one form was done for the other
pub answered-as : (side : Side) (log : Log) (collected : ℕ) (x call : Call) (answer : Reply) (d : DriverNow) (streams : StreamsNow) → call_effect side log x ≡ call_effect side log call → Answered side log collected x answer d streams
    → Answered side log collected call answer d streams
answered-as side log collected x call answer d streams e a = record { did = subst (λ (y : Effect). Did side d collected answer y) e a.did; holds = subst (λ (y : Effect). HoldsStreams side streams y.log) e a.holds }

-- ---- a session's own id

pub id-told : (side : Side) (log : Log) (collected : ℕ) (d : DriverNow) (s v : ℕ) → v ≡ s → Rests d → Follows side d log collected → IsReachable side log → HasSession s side log → Did side d collected (replies.Id v) (call_effect side log (calls.SessionId (Some s)))
unfolding call_effect
id-told side log collected d s v e rests f r has =
    subst (λ (o : Option ℕ). Did side d collected (replies.Id v) (in_session side log (λ (t : ℕ). poll_only side log (replies.Id t)) o)) (sym has)
    (record { reply = ap replies.Id e; log = rests Polled refl side log collected f (within side log r) })
