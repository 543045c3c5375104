-- A poll of a rejection: by what a write of the response's rest, and its finish, answer, it does what the definitions say.
use Rattle.std.proofs.Common.{◌∙◌, ap, inl, inr, refl, subst, sym}
use Rattle.std.proofs.lemmas.Bool.{eq-eqb, eqb-true, true≢false}
use Rattle.std.proofs.lemmas.List.{append-nil}
use Rattle.std.specs.Prelude.{[], ◌&&◌, ◌++◌, ◌==◌, ◌∷◌, ◌||◌, ◌≡◌, ◌⊎◌, Bool, Err, IfOk, List, None, Ok, OnOk, Option, Result, Some, codes, drop, false, if◌then◌else◌, is_some, length, not, suc, take, true, zero, ℕ}
use Rattle.wt_meaning.specs.Handshakes.{is_nothing}
use Rattle.wt_message.specs.FixedBytes.{response_bytes}
use Rattle.wt_message.specs.Responses.{status_fields}
use Rattle.wt_driver_laws.specs.Calling.{Did, log_record}
use Rattle.wt_driver_laws.specs.Driving.{Follows, IsReachable}
use Rattle.wt_kept.specs.Kept.{DriverNow}
use Rattle.wt_driver_laws.specs.Handing.{finish_actions, is_at_hand, is_through, rejecting_actions, write_actions, write_answer, write_leaves}
use Rattle.wt_driver_laws.specs.LogLaws.{LogLaws, RequestLaws}
use Rattle.wt_driver_laws.specs.Records.{is_unnoticed}
use Rattle.wt_session.proofs.Acceptances.{answer-by, covered-all, frame-begun, own-by, twice-within}
use Rattle.wt_session.proofs.Heads.{all-sent, finished-after, left-after, some-left, unfinished-after}
use Rattle.wt_session.proofs.Middle.{calls-stay, sent-more}
use Rattle.wt_session.proofs.Sessions.{Rests, later-within, within}
use Rattle.wt_session.specs.Handshakes.{HasRejection, IsNewRejection, IsRejecting, Rejection, is_all_out, rejected_actions}
use Rattle.wt_turn.specs.Joined.{send_of}
use Rattle.wt_turn.specs.Outgoing.{bytes_within_credit, credit_left}
use Rattle.wt_turn.specs.Reports.{is_acknowledged, stop_of}
use Rattle.wt_turn.specs.Sent.{is_finished, is_reset}
use Rattle.wt_turn.specs.Streams.{can_send}
use Rattle.wt_sessions.specs.Answers.{call_effect}
use Rattle.wt_sessions.specs.Driver.{ending_actions, has_no_session}
use Rattle.wt_sessions.specs.Effect.{Effect, head_left, is_covered, log_call, reply_with}
use Rattle.wt_sessions.specs.Handshake.{HandshakeState, Responding, continue_by, end_rejection, handshake_state, reject_response, requested_stream}
use Rattle.wt_turn.specs.Log.{CallRecord, Called, Log, Polled, ResponseStarted, actions_of, calls_of, events_of, is_open, with_actions}
use Rattle.wt_turn.specs.declared.action.Action.{Action}
use Rattle.wt_turn.specs.declared.action.Action.TheVariants as actions
use Rattle.wt_turn.specs.declared.call.Call.{Call}
use Rattle.wt_turn.specs.declared.call.Call.TheVariants as calls
use Rattle.wt_turn.specs.declared.poll.Poll.{Poll}
use Rattle.wt_turn.specs.declared.poll.Poll.TheVariants.{Pending, Ready}
use Rattle.wt_turn.specs.declared.proto_error.ProtoWriteError.{ProtoWriteError}
use Rattle.wt_turn.specs.declared.proto_error.ProtoWriteError.TheVariants as writes
use Rattle.wt_turn.specs.declared.reply.Reply.{Reply}
use Rattle.wt_turn.specs.declared.reply.Reply.TheVariants as replies
use Rattle.wt_wire.specs.Codes.{code_of}
use Rattle.wt_wire.specs.declared.error.ErrorCode.TheVariants as h3
use Rattle.wt_wire.specs.declared.side.Side.{Side}

-- no bytes are covered, whatever credit is left
pub covered-nil : (log : Log) (id : ℕ) → is_covered log id [] ≡ true
covered-nil log id = by (credit_left log id)
  where
    by : (n : ℕ) → is_nothing (drop {A = ℕ} (length {A = ℕ} (take {A = ℕ} n [])) []) ≡ true
    by zero = refl
    by (suc n) = refl

module _ (side : Side) (log : Log) (collected id : ℕ) (left : List ℕ) (later : DriverNow) where
  abbrev reject-by : CallRecord → Bool → Bool → Bool → Bool → Bool → Bool → Bool → Effect
  reject-by waiting o s n c f ended alone =
      if not o then end_rejection side log id [] else
      (if s && not n then end_rejection side log id (ending_actions side log id ++ (if o then actions.Close (code_of h3.ClosedCriticalStream) [] ∷ [] else [])) else
      (if c then
      (if not f then reply_with (log_call side log (send_of id left ++ actions.Finish id ∷ []) waiting) replies.Pending else
      (if ended then end_rejection side log id (ending_actions side log id ++ (if alone then (if o then actions.Close 0 [] ∷ [] else []) else []))
      else reply_with (log_call side log [] waiting) replies.Pending))
      else reply_with (log_call side log (send_of id (bytes_within_credit log id left)) waiting) replies.Pending))

  abbrev rejecting-by : Bool → Option ℕ → List Action
  rejecting-by o None = if o then ending_actions side log id else []
  rejecting-by o (Some code) = if o then ending_actions side log id ++ actions.Close code [] ∷ [] else []

  -- where nothing could go out, the driver follows the log as it was
  pub nothing-sent : (d : DriverNow) → (Ready (Err writes.NotConnected) ≡ write_answer log id left) ⊎ (Ready (Err writes.Stopped) ≡ write_answer log id left)
      → Follows side d (with_actions (write_actions log id left) log) collected → Follows side d log collected
  nothing-sent d e f = by (is_open log) (is_some (stop_of (events_of log) id)) (is_covered log id left) e f
    where
      by : (o s c : Bool) → (Ready (Err writes.NotConnected) ≡ answer-by side log collected id left later o s c) ⊎ (Ready (Err writes.Stopped) ≡ answer-by side log collected id left later o s c)
          → Follows side d (with_actions (own-by side log collected id left later o s) log) collected → Follows side d log collected
      by false s c h g = g
      by true true c h g = g
      by true false true (inl h) g = absurd cc
      by true false true (inr h) g = absurd cc
      by true false false (inl h) g = absurd cc
      by true false false (inr h) g = absurd cc

  module _ (waiting : CallRecord) where
    -- a rest lacks credit
    pub reject-pending : is_unnoticed waiting ≡ true → Rests later → IsReachable side log
        → Follows side later (with_actions (write_actions log id left) log) collected → Pending ≡ write_answer log id left
        → Did side later collected replies.Pending (reject_response side log id left waiting)
    reject-pending u rests r f e =
        by (is_open log) (is_some (stop_of (events_of log) id)) (is_nothing left) (is_covered log id left)
        (is_finished (actions_of log) id) (is_some (stop_of (events_of log) id) || is_acknowledged (events_of log) id) (has_no_session side log)
        (rests waiting u side _ collected f (later-within side log (write_actions log id left) r)) e
      where
        by : (o s n c x y z : Bool) → Follows side later (log_record side (with_actions (own-by side log collected id left later o s) log) [] waiting) collected
            → Pending ≡ answer-by side log collected id left later o s c → Did side later collected replies.Pending (reject-by waiting o s n c x y z)
        by false s n c x y z g h = absurd cc
        by true true n c x y z g h = absurd cc
        by true false n true x y z g h = absurd cc
        by true false n false x y z g h = record { reply = refl; log = g }

    -- and this is its log
    pub reject-pending-log : Pending ≡ write_answer log id left → (reject_response side log id left waiting).log ≡ log_call side log (write_actions log id left) waiting
    reject-pending-log e =
        by (is_open log) (is_some (stop_of (events_of log) id)) (is_nothing left) (is_covered log id left)
        (is_finished (actions_of log) id) (is_some (stop_of (events_of log) id) || is_acknowledged (events_of log) id) (has_no_session side log) e
      where
        by : (o s n c x y z : Bool) → Pending ≡ answer-by side log collected id left later o s c
            → (reject-by waiting o s n c x y z).log ≡ log_call side log (own-by side log collected id left later o s) waiting
        by false s n c x y z h = absurd cc
        by true true n c x y z h = absurd cc
        by true false n true x y z h = absurd cc
        by true false n false x y z h = refl

    -- the connection isn't open
    pub reject-ended : (answer : Reply) → Did side later collected answer (end_rejection side log id (rejecting_actions side log id None)) → Ready (Err writes.NotConnected) ≡ write_answer log id left
        → Did side later collected answer (reject_response side log id left waiting)
    reject-ended answer done e =
        by (is_open log) (is_some (stop_of (events_of log) id)) (is_nothing left) (is_covered log id left)
        (is_finished (actions_of log) id) (is_some (stop_of (events_of log) id) || is_acknowledged (events_of log) id) (has_no_session side log) done e
      where
        by : (o s n c x y z : Bool) → Did side later collected answer (end_rejection side log id (rejecting-by o None))
            → Ready (Err writes.NotConnected) ≡ answer-by side log collected id left later o s c → Did side later collected answer (reject-by waiting o s n c x y z)
        by false s n c x y z g h = g
        by true true n c x y z g h = absurd cc
        by true false n true x y z g h = absurd cc
        by true false n false x y z g h = absurd cc

    -- the peer stopped the stream before all of the response was out
    pub reject-stopped : (answer : Reply) → is_nothing left ≡ false → Did side later collected answer (end_rejection side log id (rejecting_actions side log id (Some (code_of h3.ClosedCriticalStream))))
        → Ready (Err writes.Stopped) ≡ write_answer log id left → Did side later collected answer (reject_response side log id left waiting)
    reject-stopped answer some done e =
        by (is_open log) (is_some (stop_of (events_of log) id)) (is_nothing left) (is_covered log id left)
        (is_finished (actions_of log) id) (is_some (stop_of (events_of log) id) || is_acknowledged (events_of log) id) (has_no_session side log) some done e
      where
        by : (o s n c x y z : Bool) → n ≡ false → Did side later collected answer (end_rejection side log id (rejecting-by o (Some (code_of h3.ClosedCriticalStream))))
            → Ready (Err writes.Stopped) ≡ answer-by side log collected id left later o s c → Did side later collected answer (reject-by waiting o s n c x y z)
        by false s n c x y z en g h = absurd cc
        by true true true c x y z en g h = absurd cc
        by true true false c x y z en g h = g
        by true false n true x y z en g h = absurd cc
        by true false n false x y z en g h = absurd cc

    -- all of it is out now, and the stream is finished
    finish-acts : (bs : List ℕ) → is_open log ≡ true → is_some (stop_of (events_of log) id) ≡ false → is_finished (actions_of log) id ≡ false → is_reset log id ≡ false
        → finish_actions (with_actions (send_of id bs) log) id ≡ actions.Finish id ∷ []
    finish-acts [] o s f r = rw (o, s, f, r) refl
    finish-acts (b ∷ bs) o s f r = rw (o, s, f, r) refl

    pub reject-finishing : is_unnoticed waiting ≡ true → Rests later → IsReachable side log → is_finished (actions_of log) id ≡ false → is_reset log id ≡ false
        → Follows side later (with_actions (finish_actions (with_actions (write_actions log id left) log) id) (with_actions (write_actions log id left) log)) collected
        → Ready (Ok tt) ≡ write_answer log id left → Did side later collected replies.Pending (reject_response side log id left waiting)
    reject-finishing u rests r nf nr f e =
        by (is_open log) (is_some (stop_of (events_of log) id)) (is_nothing left) (is_covered log id left)
        (is_finished (actions_of log) id) (is_some (stop_of (events_of log) id) || is_acknowledged (events_of log) id) (has_no_session side log) refl refl refl nf
        (rests waiting u side _ collected f (twice-within side log (write_actions log id left) (finish_actions (with_actions (write_actions log id left) log) id) r)) e
      where
        by : (o s n c x y z : Bool) → is_open log ≡ o → is_some (stop_of (events_of log) id) ≡ s → is_covered log id left ≡ c → x ≡ false
            → Follows side later (log_record side (with_actions (finish_actions (with_actions (own-by side log collected id left later o s) log) id) (with_actions (own-by side log collected id left later o s) log)) [] waiting) collected
            → Ready (Ok tt) ≡ answer-by side log collected id left later o s c → Did side later collected replies.Pending (reject-by waiting o s n c x y z)
        by false s n c x y z eo es ec ex g h = absurd cc
        by true true n c x y z eo es ec ex g h = absurd cc
        by true false n false x y z eo es ec ex g h = absurd cc
        by true false n true true y z eo es ec ex g h = absurd cc
        by true false n true false y z eo es ec ex g h = record {
          reply = refl;
          log = subst (λ (l : Log). Follows side later (log_record side l [] waiting) collected)
              (ap (λ (as_ : List Action). with_actions as_ (with_actions (send_of id (bytes_within_credit log id left)) log)) (finish-acts (bytes_within_credit log id left) eo es nf nr)
              ∙ ap (λ (bs : List ℕ). with_actions (actions.Finish id ∷ []) (with_actions (send_of id bs) log)) (covered-all (credit_left log id) left ec)
              ∙ sym (sent-more (send_of id left) (actions.Finish id ∷ []) log)) g;
        }

    -- and this is its log
    pub reject-finishing-log : is_finished (actions_of log) id ≡ false → is_reset log id ≡ false → Ready (Ok tt) ≡ write_answer log id left
        → ((reject_response side log id left waiting).log ≡ log_call side log (send_of id left ++ actions.Finish id ∷ []) waiting)
        × (with_actions (finish_actions (with_actions (write_actions log id left) log) id) (with_actions (write_actions log id left) log) ≡ with_actions (send_of id left ++ actions.Finish id ∷ []) log)
    reject-finishing-log nf nr e =
        by (is_open log) (is_some (stop_of (events_of log) id)) (is_nothing left) (is_covered log id left)
        (is_finished (actions_of log) id) (is_some (stop_of (events_of log) id) || is_acknowledged (events_of log) id) (has_no_session side log) refl refl refl nf e
      where
        by : (o s n c x y z : Bool) → is_open log ≡ o → is_some (stop_of (events_of log) id) ≡ s → is_covered log id left ≡ c → x ≡ false
            → Ready (Ok tt) ≡ answer-by side log collected id left later o s c
            → ((reject-by waiting o s n c x y z).log ≡ log_call side log (send_of id left ++ actions.Finish id ∷ []) waiting)
            × (with_actions (finish_actions (with_actions (own-by side log collected id left later o s) log) id) (with_actions (own-by side log collected id left later o s) log) ≡ with_actions (send_of id left ++ actions.Finish id ∷ []) log)
        by false s n c x y z eo es ec ex h = absurd cc
        by true true n c x y z eo es ec ex h = absurd cc
        by true false n false x y z eo es ec ex h = absurd cc
        by true false n true true y z eo es ec ex h = absurd cc
        by true false n true false y z eo es ec ex h = (
          refl,
          ap (λ (as_ : List Action). with_actions as_ (with_actions (send_of id (bytes_within_credit log id left)) log)) (finish-acts (bytes_within_credit log id left) eo es nf nr)
              ∙ ap (λ (bs : List ℕ). with_actions (actions.Finish id ∷ []) (with_actions (send_of id bs) log)) (covered-all (credit_left log id) left ec)
              ∙ sym (sent-more (send_of id left) (actions.Finish id ∷ []) log),
        )

-- ---- once all of the response is out

module _ (side : Side) (log : Log) (collected id : ℕ) (later : DriverNow) (waiting : CallRecord) (nf : is_finished (actions_of log) id ≡ true) (nr : is_reset log id ≡ false) where
  -- nothing more goes out
  pub no-finish : finish_actions log id ≡ []
  no-finish = by (is_open log && not (is_some (stop_of (events_of log) id))) (is_finished (actions_of log) id) nf
    where
      by : (a f : Bool) → f ≡ true → (if a && not f && not (is_reset log id) then actions.Finish id ∷ [] else []) ≡ []
      by true true e = refl
      by false true e = refl
      by a false e = absurd cc

  abbrev over-by : Bool → Bool → Bool → Bool → Bool → Effect
  over-by o s a c z = reject-by side log collected id [] later waiting o s true c true (s || a) z

  abbrev through-by : Bool → Bool → Bool → Bool
  through-by o s a = s || ((false || (true && a)) || not o)

  through-is : is_through log id ≡ through-by (is_open log) (is_some (stop_of (events_of log) id)) (is_acknowledged (events_of log) id)
  through-is = rw (nf, nr) refl

  finished-is : reject_response side log id [] waiting ≡ over-by (is_open log) (is_some (stop_of (events_of log) id)) (is_acknowledged (events_of log) id) true (has_no_session side log)
  finished-is = by (is_finished (actions_of log) id) (is_covered log id []) nf (covered-nil log id)
    where
      by : (f c : Bool) → f ≡ true → c ≡ true
          → reject-by side log collected id [] later waiting (is_open log) (is_some (stop_of (events_of log) id)) true c f (is_some (stop_of (events_of log) id) || is_acknowledged (events_of log) id) (has_no_session side log)
          ≡ over-by (is_open log) (is_some (stop_of (events_of log) id)) (is_acknowledged (events_of log) id) true (has_no_session side log)
      by true true e g = refl
      by false c e g = absurd cc
      by true false e g = absurd cc

  -- the peer hasn't it yet
  pub still-out : is_unnoticed waiting ≡ true → Rests later → IsReachable side log → Follows side later (with_actions (finish_actions log id) log) collected
      → is_through log id ≡ false → Did side later collected replies.Pending (reject_response side log id [] waiting)
  still-out u rests r f e =
      subst (λ (x : Effect). Did side later collected replies.Pending x) (sym finished-is)
      (by (is_open log) (is_some (stop_of (events_of log) id)) (is_acknowledged (events_of log) id) (has_no_session side log) (sym through-is ∙ e))
    where
      g : Follows side later (log_record side log [] waiting) collected
      g = rests waiting u side log collected (subst (λ (as_ : List Action). Follows side later (with_actions as_ log) collected) no-finish f) (within side log r)

      by : (o s a z : Bool) → through-by o s a ≡ false → Did side later collected replies.Pending (over-by o s a true z)
      by true false false z h = record { reply = refl; log = g }
      by o true a z h = absurd cc
      by false false a z h = by_end a h
        where
          by_end : (a : Bool) → (((a || true)) ≡ false) → Did side later collected replies.Pending (over-by false false a true z)
          by_end true k = absurd cc
          by_end false k = absurd cc
      by true false true z h = absurd cc

  -- and this is its log
  pub still-out-log : is_through log id ≡ false → (reject_response side log id [] waiting).log ≡ log_call side log [] waiting
  still-out-log e =
      ap (λ (x : Effect). x.log) finished-is
      ∙ by (is_open log) (is_some (stop_of (events_of log) id)) (is_acknowledged (events_of log) id) (has_no_session side log) (sym through-is ∙ e)
    where
      by : (o s a z : Bool) → through-by o s a ≡ false → (over-by o s a true z).log ≡ log_call side log [] waiting
      by true false false z h = refl
      by o true a z h = absurd cc
      by false false true z h = absurd cc
      by false false false z h = absurd cc
      by true false true z h = absurd cc

  -- it has it, or the connection ended
  pub has-it : (answer : Reply) → is_through log id ≡ true
      → Did side later collected answer (end_rejection side log id (rejecting_actions side log id (if has_no_session side log then Some 0 else None)))
      → Did side later collected answer (reject_response side log id [] waiting)
  has-it answer e done =
      subst (λ (x : Effect). Did side later collected answer x) (sym finished-is)
      (by (is_open log) (is_some (stop_of (events_of log) id)) (is_acknowledged (events_of log) id) (has_no_session side log) (sym through-is ∙ e) done)
    where
      by : (o s a z : Bool) → through-by o s a ≡ true → Did side later collected answer (end_rejection side log id (rejecting-by side log collected id [] later o (if z then Some 0 else None)))
          → Did side later collected answer (over-by o s a true z)
      by false s a true h g = g
      by false s a false h g = g
      by true true a true h g = g
      by true true a false h g = subst (λ (as_ : List Action). Did side later collected answer (end_rejection side log id as_)) (sym (append-nil (ending_actions side log id))) g
      by true false true true h g = g
      by true false true false h g = subst (λ (as_ : List Action). Did side later collected answer (end_rejection side log id as_)) (sym (append-nil (ending_actions side log id))) g
      by true false false z h g = absurd (true≢false (sym h))

-- ---- by what the finish answered

-- it is through, or not yet
pub through-yes : (b : Bool) (u : Unit {0}) → Ready u ≡ (if b then Ready tt else Pending) → b ≡ true
through-yes true u e = refl
through-yes false u e = absurd cc

pub through-no : (b : Bool) (p : Poll (Unit {0})) → p ≡ Pending → p ≡ (if b then Ready tt else Pending) → b ≡ false
through-no true Pending e f = absurd cc
through-no true (Ready u) e f = absurd cc
through-no false p e f = refl

-- whether a number is zero
pub is-zero : (n : ℕ) → n ≡ 0 → (n == 0) ≡ true
is-zero n e = eq-eqb n 0 e

pub not-zero : (n : ℕ) → (n ≡ 0 → ⊥) → (n == 0) ≡ false
not-zero n e = by (n == 0) refl
  where
    by : (b : Bool) → (n == 0) ≡ b → b ≡ false
    by true f = absurd (e (eqb-true n 0 f))
    by false f = refl

-- the stream is still there once bytes went out on it
pub can-after : (side : Side) (log : Log) (id : ℕ) (left : List ℕ) → can_send side log id ≡ true → can_send side (with_actions (write_actions log id left) log) id ≡ true
can-after side log id left can = by (is_open log && not (is_some (stop_of (events_of log) id))) (bytes_within_credit log id left)
  where
    by : (b : Bool) (bs : List ℕ) → can_send side (with_actions (if b then send_of id bs else []) log) id ≡ true
    by true [] = can
    by true (b ∷ bs) = can
    by false bs = can

-- what private functions answered, where they answered
pub if-all : {T E : Type 0} (r : Result T E) {P Q R : T → Type 0} {X : Type 0} → ((t : T) → P t → Q t → X → R t) → IfOk r P → IfOk r Q → OnOk r X → IfOk r R
if-all (Ok t) f p q x = f t p q x
if-all (Err e) f p q x = tt

pub if-both : {T E : Type 0} (r : Result T E) {P Q R : T → Type 0} → ((t : T) → P t → Q t → R t) → IfOk r P → IfOk r Q → IfOk r R
if-both (Ok t) f p q = f t p q
if-both (Err e) f p q = tt

-- a poll that sends nothing leaves a rejection as it is
pub still-rejects : (r : Rejection) (log : Log) → IsRejecting r log → IsRejecting r (Called Polled ∷ log)
still-rejects r log x = record { state = x.state; requested = x.requested; finished = x.finished; left = x.left; waits = x.waits; out = x.out }

-- ---- a poll is this effect

module _ (side : Side) (log : Log) (r : Rejection) where
  -- what is left at a poll of a rejection that isn't out, and what the call leaves while it isn't over
  pub record RejectionPolls (call : Call) : Type 0 where
    pub waiting : CallRecord
    pub unnoticed : is_unnoticed waiting ≡ true
    pub some : is_nothing r.response.left ≡ false
    pub hand : is_at_hand (handshake_state (calls_of log)) ≡ true
    pub requested : requested_stream (calls_of log) ≡ r.response.id
    pub laws : RequestLaws side log r.response.id
    pub finished : is_finished (actions_of log) r.response.id ≡ false
    pub same : reject_response side log r.response.id r.response.left waiting ≡ call_effect side log call
    pub state : handshake_state (waiting ∷ calls_of log) ≡ Responding false r.response.head
    pub asked : requested_stream (waiting ∷ calls_of log) ≡ r.response.id
    pub left : head_left log r.response.id r.response.head ≡ r.response.left

  own : LogLaws side log → is_at_hand (handshake_state (calls_of log)) ≡ true → requested_stream (calls_of log) ≡ r.response.id → RequestLaws side log r.response.id
  own laws hand e = subst (RequestLaws side log) e (laws.asked hand)

  begins : (call : Call) (head : List ℕ) → IsNewRejection r head side log → LogLaws side log → is_nothing head ≡ false
      → reject_response side log (requested_stream (calls_of log)) (head_left log (requested_stream (calls_of log)) head) (ResponseStarted false head) ≡ call_effect side log call → RejectionPolls call
  begins call head (has, is, left, sent) laws some same =
      let hand : is_at_hand (handshake_state (calls_of log)) ≡ true = rw has.state refl in
      let mine = own laws hand has.requested in
      record {
        waiting = ResponseStarted false head;
        unnoticed = refl;
        some = ap is_nothing (left ∙ is) ∙ some;
        hand = hand;
        requested = has.requested;
        laws = mine;
        finished = mine.unfinished has.state;
        same =
            ap (λ (xs : List ℕ). reject_response side log r.response.id xs (ResponseStarted false head)) (left ∙ is ∙ ap (λ (xs : List ℕ). drop (length xs) head) (sym (mine.unsent has.state)))
            ∙ ap (λ (n : ℕ). reject_response side log n (head_left log n head) (ResponseStarted false head)) (sym has.requested)
            ∙ same;
        state = ap (Responding false) (sym is);
        asked = has.requested;
        left = ap (λ (xs : List ℕ). drop (length xs) r.response.head) (mine.unsent has.state) ∙ sym left;
      }

  pub rejection-polls : (call : Call) → r.is_sent ≡ false → HasRejection r call side log → LogLaws side log → RejectionPolls call
  unfolding call_effect
  rejection-polls calls.Forbidden e has laws = begins calls.Forbidden (response_bytes (codes "403")) has laws (frame-begun (status_fields (codes "403"))) refl
  rejection-polls calls.NotFound e has laws = begins calls.NotFound (response_bytes (codes "404")) has laws (frame-begun (status_fields (codes "404"))) refl
  rejection-polls calls.TooManyRequests e has laws = begins calls.TooManyRequests (response_bytes (codes "429")) has laws (frame-begun (status_fields (codes "429"))) refl
  rejection-polls calls.Handshake e has laws =
      let hand : is_at_hand (handshake_state (calls_of log)) ≡ true = rw has.state refl in
      record {
        waiting = Polled;
        unnoticed = refl;
        some = has.waits e;
        hand = hand;
        requested = has.requested;
        laws = own laws hand has.requested;
        finished = has.finished ∙ e;
        same =
            ap (λ (xs : List ℕ). reject_response side log r.response.id xs Polled) (sym (has.left e))
            ∙ ap (λ (n : ℕ). reject_response side log n (head_left log n r.response.head) Polled) (sym has.requested)
            ∙ ap (λ (s : HandshakeState). continue_by s side log) (sym has.state);
        state = has.state;
        asked = has.requested;
        left = has.left e;
      }
  rejection-polls _ e has laws = absurd has

  abbrev sent-by : Bool → Log
  sent-by b = with_actions (if b then send_of r.response.id r.response.left ++ actions.Finish r.response.id ∷ [] else write_actions log r.response.id r.response.left) log

  -- where a poll is pending, the rejection goes on
  pub rejects-on : (call : Call) (p : RejectionPolls call) (written : Poll (Result (Unit {0}) ProtoWriteError)) (later : Rejection) → written ≡ write_answer log r.response.id r.response.left
      → Called p.waiting ∷ with_actions (rejected_actions written log r.response.id r.response.left) log ≡ (reject_response side log r.response.id r.response.left p.waiting).log
      → later.response.id ≡ r.response.id → later.response.head ≡ r.response.head → later.is_sent ≡ is_all_out written → (is_all_out written ≡ false → (written ≡ Pending) × (later.response.left ≡ write_leaves log r.response.id r.response.left))
      → HasRejection later calls.Handshake side (call_effect side log call).log
  rejects-on call p written later says log-is id head sent rest =
      subst (λ (l : Log). IsRejecting later l) (log-is ∙ ap (λ (e : Effect). e.log) p.same) (by (is_all_out written) refl)
    where
      same-calls : (own : List Action) → p.waiting ∷ calls_of (with_actions own log) ≡ p.waiting ∷ calls_of log
      same-calls own = ap (λ (cs : List CallRecord). p.waiting ∷ cs) (calls-stay own log)

      state-is : (own : List Action) → handshake_state (p.waiting ∷ calls_of (with_actions own log)) ≡ Responding false later.response.head
      state-is own = ap handshake_state (same-calls own) ∙ p.state ∙ ap (Responding false) (sym head)

      asked-is : (own : List Action) → requested_stream (p.waiting ∷ calls_of (with_actions own log)) ≡ later.response.id
      asked-is own = ap requested_stream (same-calls own) ∙ p.asked ∙ sym id

      left-is : (own : List Action) (xs : List ℕ) → head_left (with_actions own log) r.response.id r.response.head ≡ xs → head_left (with_actions own log) later.response.id later.response.head ≡ xs
      left-is own xs e = ap (λ (k : ℕ). head_left (with_actions own log) k later.response.head) id ∙ ap (head_left (with_actions own log) r.response.id) head ∙ e

      by : (b : Bool) → is_all_out written ≡ b → IsRejecting later (Called p.waiting ∷ sent-by b)
      by false e = record {
        state = state-is (write_actions log r.response.id r.response.left);
        requested = asked-is (write_actions log r.response.id r.response.left);
        finished = ap (is_finished (actions_of (sent-by false))) id ∙ unfinished-after log r.response.id r.response.left ∙ p.finished ∙ sym (sent ∙ e);
        left = λ h. left-is (write_actions log r.response.id r.response.left) _ (left-after log r.response.id r.response.head r.response.left p.left ∙ sym (rest e).1);
        waits = λ h. ap is_nothing (rest e).1 ∙ some-left log r.response.id r.response.left (sym (rest e).0 ∙ says);
        out = λ h. absurd (true≢false (sym h ∙ sent ∙ e));
      }
      by true e = record {
        state = state-is (send_of r.response.id r.response.left ++ actions.Finish r.response.id ∷ []);
        requested = asked-is (send_of r.response.id r.response.left ++ actions.Finish r.response.id ∷ []);
        finished = ap (is_finished (actions_of (sent-by true))) id ∙ finished-after log r.response.id r.response.left ∙ sym (sent ∙ e);
        left = λ h. absurd (true≢false (sym (sent ∙ e) ∙ h));
        waits = λ h. absurd (true≢false (sym (sent ∙ e) ∙ h));
        out = λ h. left-is (send_of r.response.id r.response.left ++ actions.Finish r.response.id ∷ []) [] (all-sent log r.response.id r.response.head r.response.left p.left);
      }

  -- once all of it is out
  pub sent-polls : r.is_sent ≡ true → IsRejecting r log → reject_response side log r.response.id [] Polled ≡ call_effect side log calls.Handshake
  unfolding call_effect
  sent-polls e has =
      ap (λ (xs : List ℕ). reject_response side log r.response.id xs Polled) (sym (has.out e))
      ∙ ap (λ (n : ℕ). reject_response side log n (head_left log n r.response.head) Polled) (sym has.requested)
      ∙ ap (λ (s : HandshakeState). continue_by s side log) (sym has.state)

  -- a rejection all of whose response is out has no other next call
  pub sent-handshake : (call : Call) → r.is_sent ≡ true → HasRejection r call side log → call ≡ calls.Handshake
  sent-handshake calls.Forbidden e (has, is, left, sent) = absurd (true≢false (sym e ∙ sent))
  sent-handshake calls.NotFound e (has, is, left, sent) = absurd (true≢false (sym e ∙ sent))
  sent-handshake calls.TooManyRequests e (has, is, left, sent) = absurd (true≢false (sym e ∙ sent))
  sent-handshake calls.Handshake e has = refl
  sent-handshake _ e has = absurd has
