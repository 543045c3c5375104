-- What a log that lawful turns lead to says of a session that a call names.
use Rattle.std.proofs.Common.{◌∙◌, ap, cond, refl, sym}
use Rattle.std.proofs.lemmas.Bool.{eqb-true}
use Rattle.std.specs.List.{list_any}
use Rattle.std.specs.Prelude.{[], ◌%◌, ◌==◌, ◌∷◌, ◌||◌, ◌≡◌, Bool, List, None, Option, Some, false, filter, if◌then◌else◌, not, true, ℕ}
use Rattle.wt_driver_laws.proofs.Reach.{Told, reached_holds, told}
use Rattle.wt_driver_laws.specs.Driving.{IsReachable}
use Rattle.wt_driver_laws.specs.Having.{HasSession}
use Rattle.wt_follows.specs.Roles.{is_living}
use Rattle.wt_promise.proofs.Accepted.{or-true}
use Rattle.wt_promise.proofs.Flow.{clash}
use Rattle.wt_promise.proofs.Waiting.{named-established}
use Rattle.wt_sessions.proofs.Turns.{established-known}
use Rattle.wt_sessions.specs.Answers.{named_session}
use Rattle.wt_sessions.specs.Driver.{call_view, is_session_gone}
use Rattle.wt_sessions.specs.Driver as drivers
use Rattle.wt_sessions.specs.DriverState.{state_of}
use Rattle.wt_sessions.specs.Moment.{is_known}
use Rattle.wt_sessions.specs.StreamTable.{Session, is_session, was_established}
use Rattle.wt_sessions_agree.proofs.ThereLaws.{established-there}
use Rattle.wt_turn.specs.Log.{Log}
use Rattle.wt_wire.specs.declared.side.Side.{Side}

-- ---- it was established

pub has_established : (side : Side) (log : Log) (s : ℕ) → HasSession s side log → was_established (call_view log) s ≡ true
has_established side log s e = by (was_established (call_view log) s) refl e
  where
    by : (b : Bool) → was_established (call_view log) s ≡ b → (if b then Some s else None) ≡ Some s → b ≡ true
    by true f g = refl
    by false f g = absurd (cc g)

-- the session that a call means, also where it names none
pub named_established : (side : Side) (log : Log) → IsReachable side log → (name : Option ℕ) (s : ℕ) → named_session log name ≡ Some s → was_established (call_view log) s ≡ true
named_established side log r None s e = t.stands.calls.established s ∙ named-established t.h None s (t.stands.named ∙ e)
  where
    t : Told side log
    t = told side log r
named_established side log r (Some k) s e = by (was_established (call_view log) k) refl e
  where
    by : (b : Bool) → was_established (call_view log) k ≡ b → (if b then Some k else None) ≡ Some s → was_established (call_view log) s ≡ true
    by true f g = let same : k ≡ s = cc g in ap (was_established (call_view log)) (sym same) ∙ f
    by false f g = absurd (cc g)

-- ---- an established session

-- it stands among those that live, or is gone
lives-in : (log : Log) (side : Side) (s : ℕ) (ss : List Session) → list_any (is_session s) ss ≡ true → is_session_gone side log s ≡ false
    → list_any (λ (x : Session). x.id == s) (filter (λ (x : Session). not (is_session_gone side log x.id)) ss) ≡ true
lives-in log side s [] e g = absurd (cc e)
lives-in log side s (x ∷ ss) e g = by (x.id == s) (is_session_gone side log x.id) refl refl e (lives-in log side s ss)
  where
    rest : List Session
    rest = filter (λ (y : Session). not (is_session_gone side log y.id)) ss

    by : (a b : Bool) → (x.id == s) ≡ a → is_session_gone side log x.id ≡ b → (a || list_any (is_session s) ss) ≡ true
        → (list_any (is_session s) ss ≡ true → is_session_gone side log s ≡ false → list_any (λ (y : Session). y.id == s) rest ≡ true)
        → list_any (λ (y : Session). y.id == s) (cond (not b) (x ∷ rest) rest) ≡ true
    by true true i j f again = absurd (clash (is_session_gone side log s) (ap (is_session_gone side log) (sym (eqb-true x.id s i)) ∙ j) g)
    by true false i j f again = ap (λ (c : Bool). c || list_any (λ (y : Session). y.id == s) rest) i
    by false true i j f again = again f g
    by false false i j f again = ap (λ (c : Bool). (x.id == s) || c) (again f g) ∙ or-true (x.id == s)

pub established_lives : (side : Side) (log : Log) (s : ℕ) → was_established (call_view log) s ≡ true → is_session_gone side log s ≡ false → is_living (state_of side log) s ≡ true
unfolding state_of
established_lives side log s e g = lives-in log side s (call_view log).sessions e g

-- the same of the definitions' question
pub established_living : (side : Side) (log : Log) (s : ℕ) → was_established (call_view log) s ≡ true → is_session_gone side log s ≡ false → drivers.is_living side log s ≡ true
established_living side log s e g = rw (e, g) refl

-- its id is that of a stream of the client's
pub established_on_session : (side : Side) (log : Log) → IsReachable side log → (s : ℕ) → was_established (call_view log) s ≡ true → s % 4 ≡ 0
established_on_session side log r s e = (established-there side t.h t.hist s (sym (t.stands.calls.established s) ∙ e)).kind
  where
    t : Told side log
    t = told side log r

pub session_known : (side : Side) (log : Log) → IsReachable side log → (s : ℕ) → was_established (call_view log) s ≡ true → is_known side log s ≡ true
session_known side log r s e = established-known side log (reached_holds side log r) s e
