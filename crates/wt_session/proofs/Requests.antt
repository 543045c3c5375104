-- A server's call for a request: what its driver gives or says, as the definitions have it.
use Rattle.std.proofs.Common.{◌∙◌, ap, refl, subst, sym}
use Rattle.std.proofs.lemmas.Bool.{and_parts}
use Rattle.std.specs.Prelude.{[], ◌&&◌, ◌≡◌, Bool, List, None, Some, false, if◌then◌else◌, not, true, ℕ}
use Rattle.wt_meaning.specs.Lawful.{is_client}
use Rattle.wt_driver_laws.specs.Calling.{Did}
use Rattle.wt_driver_laws.specs.Driving.{Follows, IsReachable}
use Rattle.wt_kept.specs.Kept.{DriverNow}
use Rattle.wt_driver_laws.specs.Handing.{GivesRequest, HasNoRequest}
use Rattle.wt_driver_laws.specs.Having.{MayCall}
use Rattle.wt_session.proofs.Sessions.{Rests, within}
use Rattle.wt_session.specs.Handshakes.{GivesQueued, Queued}
use Rattle.wt_session.specs.Replies.{Request}
use Rattle.wt_sessions.specs.Answers.{call_effect, is_first}
use Rattle.wt_sessions.specs.Driver.{settings_came}
use Rattle.wt_sessions.specs.Effect.{driver_error, poll_only}
use Rattle.wt_sessions.specs.Handshake.{awaits_request, deliver, fail_handshake, handshake_state}
use Rattle.wt_sessions.specs.StreamTable.{Classified}
use Rattle.wt_turn.specs.Log.{HandshakeOver, Log, Polled, calls_of, is_open}
use Rattle.wt_turn.specs.declared.call.Call.TheVariants as calls
use Rattle.wt_turn.specs.declared.reply.Reply.{Reply}
use Rattle.wt_turn.specs.declared.reply.Reply.TheVariants as replies
use Rattle.wt_wire.specs.declared.side.Side.{Side}

-- a call for a request is a server's
pub is-server : (side : Side) (log : Log) → MayCall calls.Incoming side log → is_client side ≡ false
is-server side log may = by (is_client side) ((and_parts (not (is_client side)) (not (is_first log)) ((and_parts (not (is_client side) && not (is_first log)) (awaits_request (handshake_state (calls_of log))) may).0)).0)
  where
    by : (b : Bool) → not b ≡ true → b ≡ false
    by false e = refl
    by true e = absurd cc

module _ (side : Side) (log : Log) (collected : ℕ) (d later : DriverNow) where
  -- ---- what is queued

  -- nothing is before the peer's SETTINGS came
  pub none-before : settings_came side log ≡ false → Queued side log collected d d None
  none-before e = ((rw e refl), refl)

  pub none-queued : (end : _) → HasNoRequest side log d later end → settings_came side log ≡ true → Queued side log collected d later None
  none-queued end n e = ((rw e n.none), n.nothing.same)

  pub gives-queued : (r : Request) (stream : _) → settings_came side log ≡ true → GivesRequest side log collected later stream
      → r ≡ record { id = stream.halves.0.id; fields = stream.stage.request } → Queued side log collected d later (Some r)
  gives-queued r stream e g is = record {
    first = g.first;
    more = g.more;
    queued = rw e g.queued;
    is = is ∙ ap (λ (n : ℕ). record { id = n; fields = stream.stage.request }) (ap (λ h. h.0.id) g.is.halves) ∙ ap (λ f. record { id = g.first.id; fields = f }) g.is.request;
    follows = g.follows;
  }

  -- ---- the call

  pub request-given : (r : Request) → GivesQueued side log collected later r → Did side later collected (replies.Request r.id r.fields) (call_effect side log calls.Incoming)
  unfolding call_effect
  request-given r g = subst (λ (cs : List Classified). Did side later collected (replies.Request r.id r.fields) (deliver side log cs)) (sym g.queued)
      (record { reply = ap (λ (x : Request). replies.Request x.id x.fields) g.is; log = g.follows })

  pub request-awaited : Queued side log collected d later None → Rests later → Follows side d log collected → IsReachable side log → is_open log ≡ true
      → Did side later collected replies.Pending (call_effect side log calls.Incoming)
  unfolding call_effect
  request-awaited q rests f r o = subst (λ (cs : List Classified). Did side later collected replies.Pending (deliver side log cs)) (sym q.0)
      (by (is_open log) o)
    where
      by : (b : Bool) → b ≡ true → Did side later collected replies.Pending (if b then poll_only side log replies.Pending else fail_handshake side log [] (replies.Failed (driver_error side log)))
      by true e = record { reply = refl; log = rests Polled refl side log collected (subst (λ (x : DriverNow). Follows side x log collected) (sym q.1) f) (within side log r) }
      by false e = absurd cc

  pub requests-over : (answer : Reply) → Queued side log collected d later None → Rests later → Follows side d log collected → IsReachable side log → is_open log ≡ false
      → answer ≡ replies.Failed (driver_error side log) → Did side later collected answer (call_effect side log calls.Incoming)
  unfolding call_effect
  requests-over answer q rests f r o is = subst (λ (cs : List Classified). Did side later collected answer (deliver side log cs)) (sym q.0)
      (by (is_open log) o)
    where
      by : (b : Bool) → b ≡ false → Did side later collected answer (if b then poll_only side log replies.Pending else fail_handshake side log [] (replies.Failed (driver_error side log)))
      by false e = record { reply = is; log = rests HandshakeOver refl side log collected (subst (λ (x : DriverNow). Follows side x log collected) (sym q.1) f) (within side log r) }
      by true e = absurd cc
