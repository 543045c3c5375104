-- A frame on a session's own stream: what is answered and what is left of it are as the log says, and the driver follows the log with what
-- goes out.
use Rattle.std.proofs.Common.{◌+◌, ◌∙◌, ◌≡◌, Bool, List, None, Option, Some, [], ap, arith, drop, false, length, refl, subst, sym, take, true, ℕ}
use Rattle.std.proofs.lemmas.Bool.{ltb-true}
use Rattle.std.proofs.lemmas.List.{drop-drop, length-take-le}
use Rattle.std.specs.Prelude.{◌&&◌, ◌==◌, ◌||◌, Err, Ok, Result, if◌then◌else◌, is_some, nat_lt, not}
use Rattle.wt_driver_laws.proofs.TurnCollected.{follows-with}
use Rattle.wt_driver_laws.proofs.Reach.{within_fits}
use Rattle.wt_driver_laws.proofs.WriteSafe.{covered-is, write-safe}
use Rattle.wt_driver_laws.specs.Calling.{Within}
use Rattle.wt_driver_laws.specs.Driving.{Follows, uncollected_since}
use Rattle.wt_driver_laws.specs.Handing.{MayWrite, Writes, write_actions, write_answer, write_leaves}
use Rattle.wt_driver_laws.specs.Passing.{on_transport}
use Rattle.wt_driver_laws.specs.Writing.{FrameWritten, frame_goes_on, frame_written_now}
use Rattle.wt_follows.proofs.SentFollows.{sent-follows}
use Rattle.wt_kept.specs.Kept.{DriverNow}
use Rattle.wt_seam.specs.Typed.{can_write_now}
use Rattle.wt_seam.specs.Writing as writing
use Rattle.wt_seam.specs.Writing.{after_pending, pending_answer, write_of}
use Rattle.wt_transport.proofs.HalfLaws.{sending_answer, write_refines}
use Rattle.wt_transport.proofs.Refining.{refined_can_send}
use Rattle.wt_transport.specs.HalfRules.{SendingHalf}
use Rattle.wt_transport.specs.Rules.{actions_of_write, after_write, is_writable, sending_half, sending_half_now}
use Rattle.wt_transport.specs.State.{TransportState}
use Rattle.wt_transport.specs.Step.{can_send_now}
use Rattle.wt_turn.specs.Joined.{send_of}
use Rattle.wt_turn.specs.Outgoing.{actions_to_send, bytes_within_credit, credit_left}
use Rattle.wt_turn.specs.Reports.{stop_of}
use Rattle.wt_turn.specs.Sent.{is_finished, is_reset}
use Rattle.wt_turn.specs.Streams.{can_send, local_uni}
use Rattle.wt_sessions.specs.Moment.{Fits}
use Rattle.wt_turn.specs.Log.{Log, actions_of, events_of, is_open, with_actions}
use Rattle.wt_turn.specs.declared.action.Action.{Action}
use Rattle.wt_turn.specs.declared.poll.Poll.{Poll}
use Rattle.wt_turn.specs.declared.poll.Poll.TheVariants.{Pending, Ready}
use Rattle.wt_turn.specs.declared.proto_error.ProtoWriteError.{ProtoWriteError}
use Rattle.wt_turn.specs.declared.proto_error.ProtoWriteError.TheVariants as protos
use Rattle.wt_wire.specs.declared.side.Side.{Side}

module _ (id : ℕ) (bytes : List ℕ) (p : writing.Pending) (d : DriverNow) (side : Side) (log : Log) (collected : ℕ) (f : Follows side d log collected) (fits : Fits side log)
    (may : MayWrite side log id) (no_control : (id == local_uni side) ≡ false) where
  abbrev t : TransportState
  t = d.work.transport

  abbrev left : List Action
  left = uncollected_since collected log

  -- the write, and what is left of it
  abbrev q : writing.Pending
  q = write_of p bytes

  abbrev rest : List ℕ
  rest = writing.rest q

  abbrev half : SendingHalf
  half = sending_half log id

  can : can_send_now t id ≡ true
  can = refined_can_send side t log f.kept.position left f.kept.amid.work.transport id ∙ may.can

  -- an answer by what is kept is one by the log
  told : {X : Type 0} (rule : Bool → SendingHalf → X) → rule t.is_open (sending_half_now t id) ≡ rule (is_open log) half
  told rule = sending_answer side t log f.kept.position left f.kept.amid.work.transport rule id can

  can-write : can_write_now t id ≡ true
  can-write = (λ i. can i && told is_writable i) ∙ by (is_open log) refl
    where
      by : (o : Bool) → is_open log ≡ o → (true && is_writable o half) ≡ true
      by false e = refl
      by true e = λ i. true && (false || not (may.finished e i || may.reset e i))

  -- ---- by whether the connection is open, whether the peer stopped the stream, and whether credit is short

  abbrev AnswerBy : Bool → Option ℕ → Bool → Poll (Result (Unit {0}) ProtoWriteError)
  AnswerBy o stop short = if not o then Ready (Err protos.NotConnected) else (if is_some stop then Ready (Err protos.Stopped) else (if short then Pending else Ready (Ok tt)))

  says-by : (o : Bool) (stop : Option ℕ) (short : Bool)
      → AnswerBy o stop short ≡ (if not o then Ready (Err protos.NotConnected) else (if is_some stop then Ready (Err protos.Stopped) else (if not short then Ready (Ok tt) else Pending)))
  says-by false stop short = refl
  says-by true (Some code) short = refl
  says-by true None true = refl
  says-by true None false = refl

  says : pending_answer t.is_open (sending_half_now t id) rest ≡ write_answer log id rest
  says = told (λ o h. pending_answer o h rest)
      ∙ (says-by (is_open log) (stop_of (events_of log) id) (nat_lt (credit_left log id) (length rest))
      ∙ ap (λ (c : Bool). if not (is_open log) then Ready (Err protos.NotConnected) else (if is_some (stop_of (events_of log) id) then Ready (Err protos.Stopped) else (if c then Ready (Ok tt) else Pending)))
      (sym (covered-is (credit_left log id) rest)))

  -- where the write waits, as many bytes went out as credit was left for
  leaves-by : (o : Bool) (stop : Option ℕ) (short : Bool) → nat_lt (credit_left log id) (length rest) ≡ short → AnswerBy o stop short ≡ Pending
      → writing.rest (write_of (if not o then q else (if is_some stop then q else (if short then record q { out = q.out + credit_left log id } else writing.nothing_begun))) bytes)
      ≡ (if o && not (is_some stop) then drop (length (take (credit_left log id) rest)) rest else rest)
  leaves-by false stop short e w = absurd cc
  leaves-by true (Some code) short e w = absurd cc
  leaves-by true None false e w = absurd cc
  leaves-by true None true e w =
      sym (drop-drop (credit_left log id) p.out bytes)
      ∙ ap (λ (n : ℕ). drop n rest) (sym (length-take-le (credit_left log id) rest (let less = ltb-true (credit_left log id) (length rest) e in omega (arith, less))))

  leaves : pending_answer t.is_open (sending_half_now t id) rest ≡ Pending → writing.rest (write_of (after_pending t.is_open (sending_half_now t id) q) bytes) ≡ write_leaves log id rest
  leaves w = ap (λ (x : writing.Pending). writing.rest (write_of x bytes)) (told (λ o h. after_pending o h q))
      ∙ leaves-by (is_open log) (stop_of (events_of log) id) (nat_lt (credit_left log id) (length rest)) refl (sym (told (λ o h. pending_answer o h rest)) ∙ w)

  -- ---- what goes out

  out-same : actions_of_write side log id rest ≡ write_actions log id rest
  out-same = by (is_open log) refl
    where
      by : (o : Bool) → is_open log ≡ o
          → (if o && can_send side log id && not (is_finished (actions_of log) id) && not (is_reset log id) && not (is_some (stop_of (events_of log) id)) then actions_to_send log id rest else [])
          ≡ (if o && not (is_some (stop_of (events_of log) id)) then send_of id (bytes_within_credit log id rest) else [])
      by false e = refl
      by true e = λ i. if true && may.can i && not (may.finished e i) && not (may.reset e i) && not (is_some (stop_of (events_of log) id)) then actions_to_send log id rest else []

  abbrev wrote : DriverNow
  wrote = on_transport (λ (x : TransportState). after_write x id rest) d

  follows : Follows side wrote (with_actions (write_actions log id rest) log) collected
  follows = subst (λ (xs : List Action). Follows side wrote (with_actions xs log) collected) out-same
      (follows-with side d wrote log collected (actions_of_write side log id rest) f
      (sent-follows side d log left f.kept fits (actions_of_write side log id rest) (write-safe side d log left f.kept id no_control rest) (after_write t id rest)
      (write_refines side t log f.kept.position left f.kept.amid.work.transport id rest)))

  goes-on : Writes side log collected id rest (writing.rest (write_of (frame_goes_on id q d).writing bytes)) (frame_goes_on id q d).driver (frame_goes_on id q d).answer
  goes-on = record { says = says; rest = leaves; follows = follows }

  pub writes : Writes side log collected id (writing.rest (write_of p bytes)) (writing.rest (write_of (frame_written_now id bytes p d).writing bytes)) (frame_written_now id bytes p d).driver (frame_written_now id bytes p d).answer
  writes = subst (λ (b : Bool). let x : FrameWritten = (if b then frame_goes_on id q d else record { answer = Ready (Err protos.NotConnected); writing = p; driver = d }) in
      Writes side log collected id rest (writing.rest (write_of x.writing bytes)) x.driver x.answer) (sym can-write) goes-on

-- a write of a frame with these bytes on a stream that isn't this end's control stream
pub write_frame_law : (id : ℕ) (bytes : List ℕ) (p after : writing.Pending) (a : Poll (Result (Unit {0}) ProtoWriteError)) (d later : DriverNow)
    → record { answer = a; writing = after; driver = later } ≡ frame_written_now id bytes p d
    → Within d (λ side log collected. MayWrite side log id → (id == local_uni side) ≡ false
    → Writes side log collected id (writing.rest (write_of p bytes)) (writing.rest (write_of after bytes)) later a)
write_frame_law id bytes p after a d later is side log collected f within may no_control =
    subst (λ (x : FrameWritten). Writes side log collected id (writing.rest (write_of p bytes)) (writing.rest (write_of x.writing bytes)) x.driver x.answer) (sym is)
    (writes id bytes p d side log collected f (within_fits side log within) may no_control)
