-- A poll of a stream that is being opened, as a call: its reply is the one that the log says, and the driver follows the log with it.
use Rattle.std.proofs.Common.{◌∙◌, ◌≡◌, ◌∷◌, Bool, List, [], ap, drop, false, length, refl, subst, subst₂, sym, true, ℕ}
use Rattle.std.proofs.lemmas.Bool.{ltb-false}
use Rattle.std.proofs.lemmas.List.{take_all}
use Rattle.std.specs.Prelude.{Err, Ok, Result, if◌then◌else◌, nat_lt}
use Rattle.wt_driver_laws.proofs.HalfLogs.{called, did-poll}
use Rattle.wt_driver_laws.proofs.OpenGiven.{given-alone, given-follows, opening-member}
use Rattle.wt_driver_laws.proofs.OpenPolls.{Fails, Gives, PollEnds, Waits, poll-effect, poll-ends}
use Rattle.wt_driver_laws.proofs.TurnCollected.{follows-more}
use Rattle.wt_driver_laws.proofs.Reach.{reached_holds}
use Rattle.wt_driver_laws.proofs.ReachHalves.{opening_sends}
use Rattle.wt_driver_laws.proofs.ReachStays.{opening_left}
use Rattle.wt_driver_laws.proofs.WriteSafe.{covered-is, write-safe}
use Rattle.wt_driver_laws.specs.Calling.{Always, Did, Does}
use Rattle.wt_driver_laws.specs.Driving.{Follows, uncollected_since}
use Rattle.wt_driver_laws.specs.Having.{HasOpening, OpeningStream, StillOpens}
use Rattle.wt_driver_laws.specs.Opening.{PolledNow, fails_to_open, given_if_out, header_written, polled_now}
use Rattle.wt_driver_laws.specs.Passing.{on_transport, then_write, write_said}
use Rattle.wt_driver_laws.specs.Replies.{IfGiven, ready_reply}
use Rattle.wt_follows.proofs.HalfCalls.{joined-apart}
use Rattle.wt_follows.proofs.Lists.{not-true}
use Rattle.wt_follows.proofs.MomentEnds.{state-sent}
use Rattle.wt_follows.proofs.PutFollows.{actions-with, fits-actions}
use Rattle.wt_follows.proofs.SentFollows.{sent-follows}
use Rattle.wt_follows.proofs.Unnoticed.{unnoticed-follows}
use Rattle.wt_follows.specs.Roles.{is_member}
use Rattle.wt_follows.specs.Tie as tie
use Rattle.wt_kept.specs.Kept.{DriverNow}
use Rattle.wt_kept.specs.Windows.{lives_now}
use Rattle.wt_meaning.specs.Handshakes.{is_nothing}
use Rattle.wt_transport.proofs.HalfLaws.{write_refines}
use Rattle.wt_transport.specs.Rules.{actions_of_write, after_write}
use Rattle.wt_transport.specs.State.{TransportState}
use Rattle.wt_turn.specs.Joined.{newest_first, send_of}
use Rattle.wt_turn.specs.Outgoing.{actions_to_send, bytes_within_credit, credit_left, may_send}
use Rattle.wt_sessions.proofs.Turns.{Holds}
use Rattle.wt_sessions.specs.Answers.{call_effect}
use Rattle.wt_sessions.specs.Connection.{continue_opening, opened_reply, stream_header}
use Rattle.wt_sessions.specs.Driver.{is_living, still_sends}
use Rattle.wt_sessions.specs.DriverState.{DriverState, state_of}
use Rattle.wt_sessions.specs.Effect.{Effect, head_left, is_covered, log_call, poll_sending, reply_with}
use Rattle.wt_sessions.specs.Moment.{Fits, is_peers}
use Rattle.wt_turn.specs.Log.{Log, OpeningFailed, StreamAccepted, actions_of, with_actions}
use Rattle.wt_turn.specs.declared.action.Action.{Action}
use Rattle.wt_turn.specs.declared.call.Call.TheVariants as calls
use Rattle.wt_turn.specs.declared.poll.Poll.{Poll}
use Rattle.wt_turn.specs.declared.poll.Poll.TheVariants.{Pending, Ready}
use Rattle.wt_turn.specs.declared.reply.Reply.{Reply}
use Rattle.wt_turn.specs.declared.reply.Reply.TheVariants as replies
use Rattle.wt_turn.specs.declared.stream_error.StreamOpeningError.{StreamOpeningError}
use Rattle.wt_turn.specs.declared.stream_error.StreamWriteError.{StreamWriteError}
use Rattle.wt_wire.specs.Ids.{is_bidirectional}
use Rattle.wt_wire.specs.declared.side.Side.{Side}

-- ---- a poll

module _ {T : Type 0} (bidirectional : Bool) (given : T) (reply : T → Reply) (o : OpeningStream) (gives : is_bidirectional o.id ≡ bidirectional → reply given ≡ opened_reply o.id)
    (d : DriverNow) (side : Side) (log : Log) (collected : ℕ) (f : Follows side d log collected) (holds : Holds side log)
    (sends : is_living side log o.session ≡ true → still_sends side log o.id ≡ true) (some : is_nothing (head_left log o.id (stream_header o.id o.session)) ≡ false) (has : HasOpening bidirectional o side log) where
  abbrev k : ℕ
  k = o.id

  abbrev rest : List ℕ
  rest = o.left

  abbrev t : TransportState
  t = d.work.transport

  abbrev left : List Action
  left = uncollected_since collected log

  abbrev out : DriverNow
  out = on_transport (λ (x : TransportState). after_write x k rest) d

  abbrev own : List Action
  own = actions_of_write side log k rest

  abbrev g : Log
  g = with_actions own log

  fits : Fits side log
  fits = holds.fits

  joined : is_member (state_of side log) o.session k ≡ true
  joined = (opening-member side log k o.session has.opens).1

  local : is_peers side k ≡ false
  local = holds.openings k (opening-member side log k o.session has.opens).0

  ends : PollEnds given o d side log
  ends = poll-ends given o d side log collected f sends (ap is_nothing (sym has.left) ∙ some)

  effect-is : call_effect side log (calls.PollOpening k) ≡ continue_opening side log k o.session rest
  effect-is = poll-effect o bidirectional side log has

  abbrev DidSo : PolledNow T → Effect → Type 0
  DidSo p effect = Did side p.driver collected (ready_reply reply p.answer) effect

  -- what the header's bytes leave
  sent : tie.Follows side out g (newest_first own left)
  sent = sent-follows side d log left f.kept fits own (write-safe side d log left f.kept k (joined-apart side d log left f.kept k o.session joined).0 rest) (after_write t k rest)
      (write_refines side t log f.kept.position left f.kept.amid.work.transport k rest)

  fits-then : Fits side g
  fits-then = fits-actions side own log fits

  sends-piece : may_send side log k ≡ true → own ≡ send_of k (bytes_within_credit log k rest)
  sends-piece may = ap (λ (b : Bool). if b then actions_to_send log k rest else []) may

  -- it fails
  failed : (e : StreamOpeningError) → DidSo (record { answer = Ready (Err e); left = rest; driver = d }) (reply_with (log_call side log [] (OpeningFailed k)) (replies.OpeningFailed e))
  failed e = record {
    reply = refl;
    log = called side d log collected f fits d d [] (OpeningFailed k) f.kept tt (λ z. refl) (unnoticed-follows side log (OpeningFailed k) refl d left f.kept fits);
  }

  -- it waits
  waited : (rest_then : List ℕ) → may_send side log k ≡ true → DidSo (record { answer = Pending; left = rest_then; driver = out }) (poll_sending side log (send_of k (bytes_within_credit log k rest)) replies.Pending)
  waited rest_then may = did-poll side d log collected f fits (poll_sending side log (send_of k (bytes_within_credit log k rest)) replies.Pending) own replies.Pending out (after_write t k rest)
      (ap (λ (xs : List Action). poll_sending side log xs replies.Pending) (sym (sends-piece may))) refl
      (write-safe side d log left f.kept k (joined-apart side d log left f.kept k o.session joined).0 rest) (write_refines side t log f.kept.position left f.kept.amid.work.transport k rest)

  -- it gives the stream
  all-out : may_send side log k ≡ true → is_covered log k rest ≡ true → own ≡ send_of k rest
  all-out may covered = sends-piece may ∙ ap (send_of k) (take_all (credit_left log k) rest
      (ltb-false (credit_left log k) (length rest) (not-true (nat_lt (credit_left log k) (length rest)) (sym (covered-is (credit_left log k) rest) ∙ covered))))

  joined-then : is_member (state_of side g) o.session k ≡ true
  joined-then = ap (λ (z : DriverState). is_member z o.session k) (state-sent side own log) ∙ joined

  through : Follows side out (log_call side log own (StreamAccepted k o.session)) collected
  through = follows-more side d out log (log_call side log own (StreamAccepted k o.session)) collected own f
      (ap actions_of (given-alone side out g (newest_first own left) sent fits-then k o.session joined-then local) ∙ actions-with own log)
      (given-follows side out g (newest_first own left) sent fits-then k o.session joined-then local)

  gave : (rest_then : List ℕ) → may_send side log k ≡ true → is_covered log k rest ≡ true
      → DidSo (record { answer = Ready (Ok given); left = rest_then; driver = out }) (reply_with (log_call side log (send_of k rest) (StreamAccepted k o.session)) (opened_reply k))
  gave rest_then may covered = record {
    reply = gives has.kind;
    log = subst (λ (xs : List Action). Follows side out (log_call side log xs (StreamAccepted k o.session)) collected) (all-out may covered) through;
  }

  did-by : PollEnds given o d side log → DidSo (polled_now given o d) (continue_opening side log k o.session rest)
  did-by (Fails e polled effect) = subst₂ DidSo (sym polled) (sym effect) (failed e)
  did-by (Gives may covered polled effect) = subst₂ DidSo (sym polled) (sym effect) (gave (drop (length (bytes_within_credit log k rest)) rest) may covered)
  did-by (Waits may polled effect) = subst₂ DidSo (sym polled) (sym effect) (waited (drop (length (bytes_within_credit log k rest)) rest) may)

  pub polled-did : Did side (polled_now given o d).driver collected (ready_reply reply (polled_now given o d).answer) (call_effect side log (calls.PollOpening o.id))
  polled-did = subst (λ (e : Effect). DidSo (polled_now given o d) e) (sym effect-is) (did-by ends)

  -- ---- what is left of the header

  abbrev Still : PolledNow T → Type 0
  Still p = (later : OpeningStream) → later.left ≡ p.left → StillOpens bidirectional o later p.answer side log collected

  still-by : PollEnds given o d side log → Still (polled_now given o d)
  still-by (Fails e polled effect) = subst Still (sym polled) (λ later same. tt)
  still-by (Gives may covered polled effect) = subst Still (sym polled) (λ later same. tt)
  still-by (Waits may polled effect) = subst Still (sym polled) (λ later same again. same)

  pub polled-still : (later : OpeningStream) → later.left ≡ (polled_now given o d).left → StillOpens bidirectional o later (polled_now given o d).answer side log collected
  polled-still = still-by ends

-- ---- the calls

-- which reply gives a stream of a kind
uni-reply : (k : ℕ) → is_bidirectional k ≡ false → replies.SendReady k ≡ opened_reply k
uni-reply k e = λ i. if sym e i then replies.BiReady k else replies.SendReady k

bi-reply : (k : ℕ) → is_bidirectional k ≡ true → replies.BiReady k ≡ opened_reply k
bi-reply k e = λ i. if sym e i then replies.BiReady k else replies.SendReady k

-- a poll of a unidirectional stream, which gives its half
pub poll_uni_law : (o : OpeningStream) (a : Poll (Result ℕ StreamOpeningError)) (rests : List ℕ) (d later : DriverNow) → record { answer = a; left = rests; driver = later } ≡ polled_now o.id o d
    → Does d later (HasOpening false o) (calls.PollOpening o.id) (ready_reply replies.SendReady) a
poll_uni_law o a rests d later is side log collected f reached has =
    subst (λ (p : PolledNow ℕ). Did side p.driver collected (ready_reply replies.SendReady p.answer) (call_effect side log (calls.PollOpening o.id))) (sym is)
    (polled-did false o.id replies.SendReady o (uni-reply o.id) d side log collected f (reached_holds side log reached)
    (opening_sends side log reached o.id o.session has.opens) (opening_left side log reached o.id o.session has.opens) has)

-- the reply of both halves of a stream
abbrev both_ready : ℕ × ℕ → Reply
both_ready halves = replies.BiReady halves.0

-- a poll of a bidirectional one, which gives both halves
pub poll_bi_law : (o : OpeningStream) (a : Poll (Result (ℕ × ℕ) StreamOpeningError)) (rests : List ℕ) (d later : DriverNow) → record { answer = a; left = rests; driver = later } ≡ polled_now {T = ℕ × ℕ} (o.id, o.id) o d
    → Does d later (HasOpening true o) (calls.PollOpening o.id) (ready_reply (λ (halves : ℕ × ℕ). replies.BiReady halves.0)) a
poll_bi_law o a rests d later is side log collected f reached has =
    subst (λ (p : PolledNow (ℕ × ℕ)). Did side p.driver collected (ready_reply both_ready p.answer) (call_effect side log (calls.PollOpening o.id))) (sym is)
    (polled-did true (o.id, o.id) both_ready o (bi-reply o.id) d side log collected f (reached_holds side log reached)
    (opening_sends side log reached o.id o.session has.opens) (opening_left side log reached o.id o.session has.opens) has)

-- what holds of what a poll would give holds of what it gives
given-only : {T : Type 0} (P : T → Type 0) (given : T) → P given → (o : OpeningStream) (d : DriverNow) → IfGiven (polled_now given o d).answer P
given-only P given holds o d = by-life (lives_now d.work.dispatched.sessions o.session)
  where
    by-out : (rest : List ℕ) → IfGiven (given_if_out given rest) P
    by-out [] = holds
    by-out (x ∷ xs) = tt

    by-answer : (a : Poll (Result ℕ StreamWriteError)) (e : DriverNow) → IfGiven (header_written given o.left a e).answer P
    by-answer (Ready (Ok n)) e = by-out (drop n o.left)
    by-answer (Ready (Err x)) e = tt
    by-answer Pending e = tt

    by-life : (b : Bool) → IfGiven (if b then header_written given o.left (write_said o.id o.left d.work.transport) (on_transport (then_write o.id o.left) d) else fails_to_open o d).answer P
    by-life true = by-answer (write_said o.id o.left d.work.transport) (on_transport (then_write o.id o.left) d)
    by-life false = tt

-- both halves are of the stream
pub polled_halves_law : (o : OpeningStream) (a : Poll (Result (ℕ × ℕ) StreamOpeningError)) (rests : List ℕ) (d later : DriverNow) → record { answer = a; left = rests; driver = later } ≡ polled_now {T = ℕ × ℕ} (o.id, o.id) o d
    → IfGiven a (λ (halves : ℕ × ℕ). halves.1 ≡ halves.0)
polled_halves_law o a rests d later is = subst (λ (p : PolledNow (ℕ × ℕ)). IfGiven p.answer (λ (halves : ℕ × ℕ). halves.1 ≡ halves.0)) (sym is)
    (given-only {T = ℕ × ℕ} (λ (halves : ℕ × ℕ). halves.1 ≡ halves.0) (o.id, o.id) refl o d)

-- where it waits, what is left of the header is what credit wasn't left for
pub polls_still_law : {T : Type 0} (bidirectional : Bool) (given : T) (o next : OpeningStream) (a : Poll (Result T StreamOpeningError)) (d later : DriverNow) → record { answer = a; left = next.left; driver = later } ≡ polled_now given o d
    → Always d (StillOpens bidirectional o next a)
polls_still_law {T} bidirectional given o next a d later is side log collected f reached = by a (λ has.
    subst (λ (x : Poll (Result T StreamOpeningError)). StillOpens bidirectional o next x side log collected) (sym (ap (λ (p : PolledNow T). p.answer) is))
    (polled-still bidirectional given (λ (x : T). opened_reply o.id) o (λ e. refl) d side log collected f (reached_holds side log reached)
    (opening_sends side log reached o.id o.session has.opens) (opening_left side log reached o.id o.session has.opens) has next (ap (λ (p : PolledNow T). p.left) is)))
  where
    by : (x : Poll (Result T StreamOpeningError)) → (HasOpening bidirectional o side log → StillOpens bidirectional o next x side log collected) → StillOpens bidirectional o next x side log collected
    by Pending still = λ has. still has has
    by (Ready x) still = tt
