-- A poll of a client's request on its stream: what is left of it afterwards, and that the connect goes on.
use Rattle.std.proofs.Common.{◌∙◌, ap, refl, subst, sym}
use Rattle.std.proofs.lemmas.Bool.{true≢false}
use Rattle.std.specs.Prelude.{[], ◌&&◌, ◌∷◌, ◌≡◌, Bool, List, None, Result, false, if◌then◌else◌, is_some, not, true, ℕ}
use Rattle.wt_driver_laws.specs.Driving.{Follows, IsWithin}
use Rattle.wt_driver_laws.specs.Handing.{write_actions, write_answer, write_leaves}
use Rattle.wt_kept.specs.Kept.{DriverNow}
use Rattle.wt_meaning.specs.Handshakes.{is_nothing}
use Rattle.wt_session.proofs.Acceptances.{covered-all}
use Rattle.wt_session.proofs.AtRest.{at-rest}
use Rattle.wt_session.proofs.Heads.{all-out, left-after, none-left, some-left}
use Rattle.wt_session.proofs.Middle.{calls-stay, writes-after}
use Rattle.wt_session.specs.Connects.{IsAsking, IsPolled, MayRespond, StillAsks}
use Rattle.wt_session.specs.Handshakes.{Asked, is_all_out}
use Rattle.wt_session.specs.Replies.{connecting_reply}
use Rattle.wt_proto.specs.ResponseWalk.{response_walk_of}
use Rattle.wt_proto.specs.declared.response_walk.ResponseWalk.{ResponseWalk}
use Rattle.wt_proto.specs.declared.response_walk.ResponseWalk.TheVariants as responses
use Rattle.wt_turn.specs.Joined.{send_of}
use Rattle.wt_turn.specs.Outgoing.{bytes_within_credit, credit_left}
use Rattle.wt_turn.specs.Reports.{end_of, stop_of}
use Rattle.wt_turn.specs.Streams.{contents, local_bi, local_count}
use Rattle.wt_sessions.specs.Driver.{sessions_of}
use Rattle.wt_sessions.specs.Effect.{Effect, driver_error, head_left, is_covered, log_call, poll_sending}
use Rattle.wt_sessions.specs.Handshake.{abandon, await_response, establish, fail_connect, handshake_state, has_success, loss_to_connect, read_response, send_request}
use Rattle.wt_turn.specs.Log.{CallRecord, Called, Log, Polled, actions_of, events_of, is_open, with_actions}
use Rattle.wt_turn.specs.declared.action.Action.{Action}
use Rattle.wt_turn.specs.declared.connecting_error.ConnectingError.{ConnectingError}
use Rattle.wt_turn.specs.declared.connecting_error.ConnectingError.TheVariants as connects
use Rattle.wt_turn.specs.declared.poll.Poll.{Poll}
use Rattle.wt_turn.specs.declared.poll.Poll.TheVariants.{Pending, Ready}
use Rattle.wt_turn.specs.declared.proto_error.ProtoWriteError.{ProtoWriteError}
use Rattle.wt_turn.specs.declared.reply.Reply.TheVariants as replies
use Rattle.wt_wire.specs.declared.side.Side.{Side}

-- ---- what may be read

pub asks-respond : (side : Side) (log : Log) (a : Asked) → IsAsking a side log → MayRespond a.id side log
asks-respond side log a x = record { client = x.client; first = x.id; dialling = record { reserved = None; head = a.head; state = x.state }; unestablished = x.unestablished; may = x.may }

-- also once bytes of the request went out
pub respond-after : (side : Side) (log : Log) (id : ℕ) (left : List ℕ) → MayRespond id side log → MayRespond id side (with_actions (write_actions log id left) log)
respond-after side log id left may = record {
  client = may.client;
  first = may.first;
  dialling = record { reserved = may.dialling.reserved; head = may.dialling.head; state = ap handshake_state (calls-stay (write_actions log id left) log) ∙ may.dialling.state };
  unestablished = ap sessions_of (calls-stay (write_actions log id left) log) ∙ may.unestablished;
  may = writes-after side log id left may.may;
}

-- ---- a pending poll leaves its record, and what it sent

module _ (side : Side) (log : Log) (id : ℕ) where
  abbrev response-so : List Action → ℕ → Bool → Bool → Effect
  response-so own offset s o = if not s then abandon side log own connects.SessionRejected else (if o then establish side log own id offset else fail_connect side log own (connects.ConnectionError (driver_error side log)))

  awaits-leads : (own : List Action) (w : ResponseWalk) → replies.Pending ≡ (read_response side log id own w).reply → (read_response side log id own w).log ≡ log_call side log own Polled
  awaits-leads own (responses.Fault code) e = absurd cc
  awaits-leads own responses.Ended e = absurd cc
  awaits-leads own responses.Waiting e = by (is_open log) e
    where
      by : (b : Bool) → replies.Pending ≡ (if b then poll_sending side log own replies.Pending else fail_connect side log own (loss_to_connect log)).reply
          → (if b then poll_sending side log own replies.Pending else fail_connect side log own (loss_to_connect log)).log ≡ log_call side log own Polled
      by true h = refl
      by false h = absurd cc
  awaits-leads own (responses.Response fields offset) e = by (has_success fields) (is_open log) e
    where
      by : (s o : Bool) → replies.Pending ≡ (response-so own offset s o).reply → (response-so own offset s o).log ≡ log_call side log own Polled
      by false o h = absurd cc
      by true true h = absurd cc
      by true false h = absurd cc

  module _ (left : List ℕ) where
    abbrev walk : ResponseWalk
    walk = response_walk_of (contents log id) (end_of (events_of log) id)

    abbrev request-so : Bool → Bool → Bool → Bool → Effect
    request-so n o s c =
        if n then await_response side log id [] else
        (if not o then fail_connect side log [] (loss_to_connect log) else
        (if s then abandon side log [] connects.SessionRejected else
        (if c then await_response side log id (send_of id left)
        else poll_sending side log (send_of id (bytes_within_credit log id left)) replies.Pending)))

    abbrev own-so : Bool → Bool → List Action
    own-so o s = if o && not s then send_of id (bytes_within_credit log id left) else []

    pub pending-sends : is_nothing left ≡ false → replies.Pending ≡ (send_request side log id [] left).reply → (send_request side log id [] left).log ≡ log_call side log (write_actions log id left) Polled
    pending-sends n e = by (is_nothing left) (is_open log) (is_some (stop_of (events_of log) id)) (is_covered log id left) n refl e
      where
        by : (n o s c : Bool) → n ≡ false → is_covered log id left ≡ c → replies.Pending ≡ (request-so n o s c).reply → (request-so n o s c).log ≡ log_call side log (own-so o s) Polled
        by true o s c en ec h = absurd cc
        by false false s c en ec h = absurd cc
        by false true true c en ec h = absurd cc
        by false true false true en ec h = awaits-leads (send_of id left) walk h ∙ ap (λ (bs : List ℕ). log_call side log (send_of id bs) Polled) (sym (covered-all (credit_left log id) left ec))
        by false true false false en ec h = refl

  -- where all of it was out
  pub pending-waits : replies.Pending ≡ (send_request side log id [] []).reply → (send_request side log id [] []).log ≡ log_call side log [] Polled
  pending-waits e = awaits-leads [] (response_walk_of (contents log id) (end_of (events_of log) id)) e

-- ---- the log has one more poll

sent-opens : (side : Side) (log : Log) (id : ℕ) (left : List ℕ) → local_count (actions_of (with_actions (write_actions log id left) log)) (local_bi side) ≡ local_count (actions_of log) (local_bi side)
sent-opens side log id left = by (is_open log && not (is_some (stop_of (events_of log) id))) (bytes_within_credit log id left)
  where
    by : (b : Bool) (bs : List ℕ) → local_count (actions_of (with_actions (if b then send_of id bs else []) log)) (local_bi side) ≡ local_count (actions_of log) (local_bi side)
    by true [] = refl
    by true (b ∷ bs) = refl
    by false bs = refl

pub polled-after : (side : Side) (log : Log) (id : ℕ) (left : List ℕ) → IsPolled side log (Called Polled ∷ with_actions (write_actions log id left) log)
polled-after side log id left = record { calls = ap (λ (cs : List CallRecord). Polled ∷ cs) (calls-stay (write_actions log id left) log); opened = sent-opens side log id left }

-- ---- a poll of the request

module _ (side : Side) (log : Log) (collected : ℕ) (a later : Asked) (x : IsAsking a side log) (id : later.id ≡ a.id) (head : later.head ≡ a.head) (w : IsWithin side log) where
  abbrev effect : Effect
  effect = send_request side log a.id [] (head_left log a.id a.head)

  -- all of it was out
  pub asks-on-out : (d : DriverNow) → Follows side d log collected → a.is_sent ≡ true → later.is_sent ≡ true → (answer : Poll (Result ℕ ConnectingError)) → connecting_reply answer ≡ effect.reply → StillAsks a later answer side log
  asks-on-out d f s t (Ready r) e = tt
  asks-on-out d f s t Pending e = (
    record {
      left = λ n. absurd (true≢false (sym t ∙ n));
      out = λ h. subst (λ (l : Log). head_left l later.id later.head ≡ []) (sym log-is) (ap (λ (k : ℕ). head_left log k later.head) id ∙ ap (head_left log a.id) head ∙ none);
    },
    subst (IsPolled side log) (sym log-is) (record { calls = refl; opened = refl }),
  )
    where
      none : head_left log a.id a.head ≡ []
      none = x.going.out s

      log-is : effect.log ≡ Called Polled ∷ log
      log-is =
          ap (λ (xs : List ℕ). (send_request side log a.id [] xs).log) none
          ∙ pending-waits side log a.id (e ∙ ap (λ (xs : List ℕ). (send_request side log a.id [] xs).reply) none)
          ∙ at-rest side log collected d Polled refl f w

  -- what was left was written
  pub asks-on : (d : DriverNow) → Follows side d (with_actions (write_actions log a.id a.left) log) collected → IsWithin side (with_actions (write_actions log a.id a.left) log) → a.is_sent ≡ false
      → (written : Poll (Result (Unit {0}) ProtoWriteError)) → later.is_sent ≡ is_all_out written → written ≡ write_answer log a.id a.left → (written ≡ Pending → later.left ≡ write_leaves log a.id a.left)
      → (answer : Poll (Result ℕ ConnectingError)) → (answer ≡ Pending → is_all_out written ≡ false → written ≡ Pending) → connecting_reply answer ≡ effect.reply → StillAsks a later answer side log
  asks-on d f m s written t says rest (Ready r) waits e = tt
  asks-on d f m s written t says rest Pending waits e = (
    record {
      left = λ n. let p = waits refl (sym t ∙ n) in (
        subst (λ (l : Log). head_left l later.id later.head ≡ later.left) (sym log-is) (here ∙ sym (rest p)),
        ap is_nothing (rest p) ∙ some-left log a.id a.left (sym p ∙ says),
      );
      out = λ h. subst (λ (l : Log). head_left l later.id later.head ≡ []) (sym log-is) (here ∙ none-left log a.id a.left (sym (all-out written (sym t ∙ h)) ∙ says));
    },
    subst (IsPolled side log) (sym log-is) (polled-after side log a.id a.left),
  )
    where
      left-is : head_left log a.id a.head ≡ a.left
      left-is = (x.going.left s).0

      log-is : effect.log ≡ Called Polled ∷ with_actions (write_actions log a.id a.left) log
      log-is =
          ap (λ (xs : List ℕ). (send_request side log a.id [] xs).log) left-is
          ∙ pending-sends side log a.id a.left (x.going.left s).1 (e ∙ ap (λ (xs : List ℕ). (send_request side log a.id [] xs).reply) left-is)
          ∙ at-rest side (with_actions (write_actions log a.id a.left) log) collected d Polled refl f m

      here : head_left (Called Polled ∷ with_actions (write_actions log a.id a.left) log) later.id later.head ≡ write_leaves log a.id a.left
      here =
          ap (λ (k : ℕ). head_left (with_actions (write_actions log a.id a.left) log) k later.head) id
          ∙ ap (head_left (with_actions (write_actions log a.id a.left) log) a.id) head ∙ left-after log a.id a.head a.left left-is
