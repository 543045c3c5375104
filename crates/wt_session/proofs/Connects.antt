-- A client's connect: by what its driver answers, it does what the definitions say.
use Rattle.std.proofs.Common.{◌∙◌, ap, refl, subst, sym}
use Rattle.std.specs.Prelude.{[], ◌++◌, ◌∷◌, ◌≡◌, Bool, Err, List, None, Ok, Option, Some, false, if◌then◌else◌, is_some, not, true, ℕ}
use Rattle.wt_meaning.specs.Handshakes.{is_nothing}
use Rattle.wt_meaning.specs.Lawful.{is_client}
use Rattle.wt_message.specs.Responses.{status_of}
use Rattle.wt_driver_laws.specs.Calling.{Did, log_record}
use Rattle.wt_driver_laws.specs.Driving.{Follows, IsWithin}
use Rattle.wt_kept.specs.Kept.{DriverNow}
use Rattle.wt_driver_laws.specs.Handing.{BeginsSession, MayBegin, write_actions, write_answer}
use Rattle.wt_session.proofs.Acceptances.{answer-by, covered-all, own-by}
use Rattle.wt_session.proofs.Middle.{sent-more}
use Rattle.wt_session.proofs.Sessions.{Rests}
use Rattle.wt_session.specs.Connects.{MayRespond, establish_if_open}
use Rattle.wt_proto.specs.ResponseWalk.{response_walk_of}
use Rattle.wt_proto.specs.declared.response_walk.ResponseWalk.{ResponseWalk}
use Rattle.wt_proto.specs.declared.response_walk.ResponseWalk.TheVariants as responses
use Rattle.wt_turn.specs.Joined.{send_of}
use Rattle.wt_turn.specs.Outgoing.{bytes_within_credit, credit_left, if_open}
use Rattle.wt_turn.specs.Reports.{end_of, stop_of}
use Rattle.wt_turn.specs.Streams.{contents}
use Rattle.wt_sessions.specs.Driver.{stream_table}
use Rattle.wt_sessions.specs.Effect.{Effect, close_when_open, driver_error, is_covered, poll_only, poll_sending}
use Rattle.wt_sessions.specs.Handshake.{abandon, await_or_fail, await_response, establish, fail_connect, has_success, loss_to_connect, read_response, send_request}
use Rattle.wt_turn.specs.Log.{HandshakeOver, Log, Polled, Sent, events_of, is_open, with_actions}
use Rattle.wt_turn.specs.declared.action.Action.{Action}
use Rattle.wt_turn.specs.declared.action.Action.TheVariants as actions
use Rattle.wt_turn.specs.declared.connecting_error.ConnectingError.{ConnectingError}
use Rattle.wt_turn.specs.declared.connecting_error.ConnectingError.TheVariants as connects
use Rattle.wt_turn.specs.declared.connection_error.ConnectionError.{ConnectionError}
use Rattle.wt_turn.specs.declared.connection_error.ConnectionError.TheVariants as reported
use Rattle.wt_turn.specs.declared.poll.Poll.TheVariants.{Pending, Ready}
use Rattle.wt_turn.specs.declared.proto_error.ProtoWriteError.TheVariants as writes
use Rattle.wt_turn.specs.declared.reply.Reply.{Reply}
use Rattle.wt_turn.specs.declared.reply.Reply.TheVariants as replies
use Rattle.wt_wire.specs.Codes.{code_of}
use Rattle.wt_wire.specs.HeaderList.{Fields}
use Rattle.wt_wire.specs.Status.{is_successful}
use Rattle.wt_wire.specs.declared.side.Side.{Side}

-- a log in the middle of a call stays one with more actions
pub more-within : (side : Side) (log : Log) (more : List Action) → IsWithin side log → IsWithin side (with_actions more log)
more-within side log more w = record {
  before = w.before;
  own = w.own ++ more;
  reached = w.reached;
  is = ap (with_actions more) w.is ∙ sym (sent-more w.own more w.before);
}

module _ (side : Side) (log : Log) (collected : ℕ) (later : DriverNow) where
  -- the connect fails, and the connection is closed where it is open
  pub fails : (code : ℕ) (e : ConnectingError) → Rests later → IsWithin side log → Follows side later (with_actions (if_open log (actions.Close code [])) log) collected
      → Did side later collected (replies.ConnectFailed e) (fail_connect side log (close_when_open log code) e)
  fails code e rests w f = record { reply = refl; log = rests HandshakeOver refl side _ collected f (more-within side log (if_open log (actions.Close code [])) w) }

  -- a step waits, or fails with the connection
  pub waits-or-fails : (e : ConnectionError) (b : Bool) → is_open log ≡ b → Rests later → IsWithin side log → Follows side later log collected
      → Did side later collected (if b then replies.Pending else replies.ConnectFailed (connects.ConnectionError e)) (await_or_fail side log e)
  waits-or-fails e b o rests w f = by (is_open log) b o
    where
      by : (x y : Bool) → x ≡ y → Did side later collected (if y then replies.Pending else replies.ConnectFailed (connects.ConnectionError e)) (if x then poll_only side log replies.Pending else fail_connect side log [] (connects.ConnectionError e))
      by true true h = record { reply = refl; log = rests Polled refl side log collected f w }
      by false false h = record { reply = refl; log = rests HandshakeOver refl side log collected f w }
      by true false h = absurd cc
      by false true h = absurd cc

  -- nothing is closed where the connection isn't open
  pub abandoned-closed : (e : ConnectingError) → is_open log ≡ false → abandon side log [] e ≡ fail_connect side log [] e
  abandoned-closed e o = by (is_open log) o
    where
      by : (x : Bool) → x ≡ false → fail_connect side log (if x then actions.Close 0 [] ∷ [] else []) e ≡ fail_connect side log [] e
      by false h = refl
      by true h = absurd cc

  -- ---- the response

  pub response-awaited : (id : ℕ) (w : ResponseWalk) → w ≡ response_walk_of (contents log id) (end_of (events_of log) id) → w ≡ responses.Waiting → is_open log ≡ true → Rests later → IsWithin side log
      → Follows side later log collected → Did side later collected replies.Pending (await_response side log id [])
  response-awaited id w e n o rests within f =
      subst (λ (x : ResponseWalk). Did side later collected replies.Pending (read_response side log id [] x)) (sym n ∙ e) (by (is_open log) o)
    where
      by : (x : Bool) → x ≡ true → Did side later collected replies.Pending (if x then poll_sending side log [] replies.Pending else fail_connect side log [] (loss_to_connect log))
      by true h = record { reply = refl; log = rests Polled refl side log collected f within }
      by false h = absurd cc

  -- the answer to the response's outcome is the definitions'
  pub response-is : (id : ℕ) (answer : Reply) (w : ResponseWalk) → w ≡ response_walk_of (contents log id) (end_of (events_of log) id) → Did side later collected answer (read_response side log id [] w)
      → Did side later collected answer (await_response side log id [])
  response-is id answer w e done = subst (λ (x : ResponseWalk). Did side later collected answer (read_response side log id [] x)) e done

  pub waiting-open : (id : ℕ) → is_open log ≡ true → Rests later → IsWithin side log → Follows side later log collected → Did side later collected replies.Pending (read_response side log id [] responses.Waiting)
  waiting-open id o rests within f = by (is_open log) o
    where
      by : (x : Bool) → x ≡ true → Did side later collected replies.Pending (if x then poll_sending side log [] replies.Pending else fail_connect side log [] (loss_to_connect log))
      by true h = record { reply = refl; log = rests Polled refl side log collected f within }
      by false h = absurd cc

  pub waiting-closed : (id : ℕ) (answer : Reply) → is_open log ≡ false → Did side later collected answer (abandon side log [] (loss_to_connect log)) → Did side later collected answer (read_response side log id [] responses.Waiting)
  waiting-closed id answer o done = by (is_open log) o (subst (λ (x : Effect). Did side later collected answer x) (abandoned-closed (loss_to_connect log) o) done)
    where
      by : (x : Bool) → x ≡ false → Did side later collected answer (fail_connect side log [] (loss_to_connect log)) → Did side later collected answer (if x then poll_sending side log [] replies.Pending else fail_connect side log [] (loss_to_connect log))
      by false h g = g
      by true h g = absurd cc

  pub response-accepted : (id offset : ℕ) (fields : Fields) (answer : Reply) → has_success fields ≡ true → Did side later collected answer (establish_if_open side log id offset)
      → Did side later collected answer (read_response side log id [] (responses.Response fields offset))
  response-accepted id offset fields answer s done = by (has_success fields) s
    where
      by : (x : Bool) → x ≡ true → Did side later collected answer (if not x then abandon side log [] connects.SessionRejected else establish_if_open side log id offset)
      by true h = done
      by false h = absurd cc

  pub response-refused : (id offset : ℕ) (fields : Fields) (answer : Reply) → has_success fields ≡ false → Did side later collected answer (abandon side log [] connects.SessionRejected)
      → Did side later collected answer (read_response side log id [] (responses.Response fields offset))
  response-refused id offset fields answer s done = by (has_success fields) s
    where
      by : (x : Bool) → x ≡ false → Did side later collected answer (if not x then abandon side log [] connects.SessionRejected else establish_if_open side log id offset)
      by false h = done
      by true h = absurd cc

  pub establishes : (id offset : ℕ) → BeginsSession side log collected id offset later → Did side later collected (replies.Session id) (establish_if_open side log id offset)
  establishes id offset b = by (is_open log) b.is_open
    where
      by : (x : Bool) → x ≡ true → Did side later collected (replies.Session id) (if x then establish side log [] id offset else fail_connect side log [] (connects.ConnectionError (driver_error side log)))
      by true h = record { reply = refl; log = b.follows }
      by false h = absurd cc

  pub establishes-not : (id offset : ℕ) (answer : Reply) → is_open log ≡ false → Rests later → IsWithin side log → Follows side later log collected → answer ≡ replies.ConnectFailed (connects.ConnectionError (driver_error side log))
      → Did side later collected answer (establish_if_open side log id offset)
  establishes-not id offset answer o rests w f is = by (is_open log) o
    where
      by : (x : Bool) → x ≡ false → Did side later collected answer (if x then establish side log [] id offset else fail_connect side log [] (connects.ConnectionError (driver_error side log)))
      by false h = record { reply = is; log = rests HandshakeOver refl side log collected f w }
      by true h = absurd cc

-- ---- what a call sent first

module _ (side : Side) (log : Log) (id : ℕ) where
  -- the response is read alike in the middle of the call
  moved : (a : Action) (more : List Action) → is_open (Sent a ∷ log) ≡ is_open log → (w : ResponseWalk) → read_response side log id (a ∷ more) w ≡ read_response side (Sent a ∷ log) id more w
  unfolding stream_table
  moved a more o (responses.Fault code) =
      ap (λ (x : Bool). fail_connect side (Sent a ∷ log) (more ++ (if x then actions.Close (code_of code) [] ∷ [] else [])) (connects.ConnectionError (reported.LocalH3Error code))) (sym o)
  moved a more o responses.Ended =
      ap (λ (x : Bool). fail_connect side (Sent a ∷ log) (more ++ (if x then actions.Close 0 [] ∷ [] else [])) (loss_to_connect log)) (sym o)
  moved a more o responses.Waiting =
      ap (λ (x : Bool). if x then poll_sending side (Sent a ∷ log) more replies.Pending else fail_connect side (Sent a ∷ log) more (loss_to_connect log)) (sym o)
  moved a more o (responses.Response fields offset) =
      ap (λ (x : Bool). if not (has_success fields) then fail_connect side (Sent a ∷ log) (more ++ (if x then actions.Close 0 [] ∷ [] else [])) connects.SessionRejected else
      (if x then establish side (Sent a ∷ log) more id offset else fail_connect side (Sent a ∷ log) more (connects.ConnectionError (driver_error side log)))) (sym o)

  pub await-moved : (bytes : List ℕ) → await_response side log id (send_of id bytes) ≡ await_response side (with_actions (send_of id bytes) log) id []
  await-moved [] = refl
  await-moved (b ∷ bytes) = moved (actions.Send id (b ∷ bytes)) [] refl (response_walk_of (contents log id) (end_of (events_of log) id))

  -- and so does the request go out
  pub send-moved : (n : ℕ) (left : List ℕ) → send_request side log id (actions.Opened n ∷ []) left ≡ send_request side (Sent (actions.Opened n) ∷ log) id [] left
  send-moved n left = by (is_nothing left) (is_open log) (is_some (stop_of (events_of log) id)) (is_covered log id left)
    where
      a : Action
      a = actions.Opened n

      l : Log
      l = Sent (actions.Opened n) ∷ log

      by : (x o s c : Bool)
          → (if x then await_response side log id (actions.Opened n ∷ []) else
          (if not o then fail_connect side log (actions.Opened n ∷ []) (loss_to_connect log) else
          (if s then abandon side log (actions.Opened n ∷ []) connects.SessionRejected else
          (if c then await_response side log id (actions.Opened n ∷ send_of id left)
          else poll_sending side log (actions.Opened n ∷ send_of id (bytes_within_credit log id left)) replies.Pending))))
          ≡ (if x then await_response side (Sent (actions.Opened n) ∷ log) id [] else
          (if not o then fail_connect side (Sent (actions.Opened n) ∷ log) [] (loss_to_connect log) else
          (if s then abandon side (Sent (actions.Opened n) ∷ log) [] connects.SessionRejected else
          (if c then await_response side (Sent (actions.Opened n) ∷ log) id (send_of id left)
          else poll_sending side (Sent (actions.Opened n) ∷ log) (send_of id (bytes_within_credit log id left)) replies.Pending))))
      by true o s c = moved (actions.Opened n) [] refl (response_walk_of (contents log id) (end_of (events_of log) id))
      by false false s c = refl
      by false true true c = refl
      by false true false true = moved (actions.Opened n) (send_of id left) refl (response_walk_of (contents log id) (end_of (events_of log) id))
      by false true false false = refl

-- ---- a poll of a request on its stream

module _ (side : Side) (log : Log) (collected id : ℕ) (left : List ℕ) (later : DriverNow) where
  abbrev request-by : Bool → Bool → Bool → Bool → Effect
  request-by n o s c =
      if n then await_response side log id [] else
      (if not o then fail_connect side log [] (loss_to_connect log) else
      (if s then abandon side log [] connects.SessionRejected else
      (if c then await_response side log id (send_of id left)
      else poll_sending side log (send_of id (bytes_within_credit log id left)) replies.Pending)))

  -- a rest lacks credit
  pub request-pending : is_nothing left ≡ false → Rests later → IsWithin side log → Follows side later (with_actions (write_actions log id left) log) collected
      → Pending ≡ write_answer log id left → Did side later collected replies.Pending (send_request side log id [] left)
  request-pending n rests w f e =
      by (is_nothing left) (is_open log) (is_some (stop_of (events_of log) id)) (is_covered log id left) n
      (rests Polled refl side _ collected f (more-within side log (write_actions log id left) w)) e
    where
      by : (n o s c : Bool) → n ≡ false → Follows side later (log_record side (with_actions (own-by side log collected id left later o s) log) [] Polled) collected
          → Pending ≡ answer-by side log collected id left later o s c → Did side later collected replies.Pending (request-by n o s c)
      by true o s c en g h = absurd cc
      by false false s c en g h = absurd cc
      by false true true c en g h = absurd cc
      by false true false true en g h = absurd cc
      by false true false false en g h = record { reply = refl; log = g }

  -- the connection isn't open
  pub request-closed : (answer : Reply) → is_nothing left ≡ false → Did side later collected answer (abandon side log [] (loss_to_connect log)) → Ready (Err writes.NotConnected) ≡ write_answer log id left
      → Did side later collected answer (send_request side log id [] left)
  request-closed answer n done e =
      by (is_nothing left) (is_open log) (is_some (stop_of (events_of log) id)) (is_covered log id left) n refl e
    where
      by : (n o s c : Bool) → n ≡ false → is_open log ≡ o → Ready (Err writes.NotConnected) ≡ answer-by side log collected id left later o s c → Did side later collected answer (request-by n o s c)
      by true o s c en eo h = absurd cc
      by false false s c en eo h = subst (λ (x : Effect). Did side later collected answer x) (abandoned-closed side log collected later (loss_to_connect log) eo) done
      by false true true c en eo h = absurd cc
      by false true false true en eo h = absurd cc
      by false true false false en eo h = absurd cc

  -- the peer stopped the stream
  pub request-stopped : (answer : Reply) → is_nothing left ≡ false → Did side later collected answer (abandon side log [] connects.SessionRejected) → Ready (Err writes.Stopped) ≡ write_answer log id left
      → Did side later collected answer (send_request side log id [] left)
  request-stopped answer n done e = by (is_nothing left) (is_open log) (is_some (stop_of (events_of log) id)) (is_covered log id left) n e
    where
      by : (n o s c : Bool) → n ≡ false → Ready (Err writes.Stopped) ≡ answer-by side log collected id left later o s c → Did side later collected answer (request-by n o s c)
      by true o s c en h = absurd cc
      by false false s c en h = absurd cc
      by false true true c en h = done
      by false true false true en h = absurd cc
      by false true false false en h = absurd cc

  -- all of it is out
  pub request-out : (answer : Reply) → is_nothing left ≡ false → Did side later collected answer (await_response side (with_actions (write_actions log id left) log) id []) → Ready (Ok tt) ≡ write_answer log id left
      → Did side later collected answer (send_request side log id [] left)
  request-out answer n done e = by (is_nothing left) (is_open log) (is_some (stop_of (events_of log) id)) (is_covered log id left) n refl done e
    where
      by : (n o s c : Bool) → n ≡ false → is_covered log id left ≡ c → Did side later collected answer (await_response side (with_actions (own-by side log collected id left later o s) log) id [])
          → Ready (Ok tt) ≡ answer-by side log collected id left later o s c → Did side later collected answer (request-by n o s c)
      by true o s c en ec g h = absurd cc
      by false false s c en ec g h = absurd cc
      by false true true c en ec g h = absurd cc
      by false true false false en ec g h = absurd cc
      by false true false true en ec g h =
          subst (λ (x : Effect). Did side later collected answer x)
          (ap (λ (bs : List ℕ). await_response side (with_actions (send_of id bs) log) id []) (covered-all (credit_left log id) left ec) ∙ sym (await-moved side log id left)) g

-- ---- a client's session begins

pub client-begins : (side : Side) (log : Log) (id offset : ℕ) (fields : Fields) → MayRespond id side log → response_walk_of (contents log id) (end_of (events_of log) id) ≡ responses.Response fields offset
    → MayBegin (is_client side) side log id offset
client-begins side log id offset fields may e =
    subst (λ (b : Bool). MayBegin b side log id offset) (sym may.client)
    (may.first, may.unestablished, (fields, e), may.may)

-- the status of a response tells whether it succeeds
pub success-is : (fields : Fields) (code : ℕ) → status_of fields ≡ Some code → has_success fields ≡ is_successful code
success-is fields code e = ap (λ (o : Option ℕ). elim o [ Some c ↦ is_successful c | None ↦ false ]) e
