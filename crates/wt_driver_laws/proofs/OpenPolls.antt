-- A poll of a stream that is being opened: what it answers and what of the header is left are as the log says, and the driver follows the
-- log with it.
use Rattle.std.proofs.Common.{◌∙◌, ◌≡◌, ◌∷◌, Bool, List, None, Option, Some, [], ap, drop, false, length, refl, sym, take, true, ℕ}
use Rattle.std.proofs.lemmas.Bool.{eqb-true, true≢false}
use Rattle.std.specs.Prelude.{◌&&◌, ◌==◌, ◌||◌, Err, Ok, Result, if◌then◌else◌, is_some, not, option_map}
use Rattle.wt_driver_laws.proofs.OpenLives.{lives-now}
use Rattle.wt_driver_laws.specs.Driving.{Follows, uncollected_since}
use Rattle.wt_driver_laws.specs.Having.{HasOpening, OpeningStream}
use Rattle.wt_driver_laws.specs.Opening.{PolledNow, fails_to_open, given_if_out, header_written, polled_now}
use Rattle.wt_driver_laws.specs.Passing.{on_transport, then_write, write_said}
use Rattle.wt_follows.proofs.Lists.{not-true}
use Rattle.wt_kept.specs.Kept.{DriverNow}
use Rattle.wt_meaning.specs.Handshakes.{is_nothing}
use Rattle.wt_kept.specs.Windows.{lives_now}
use Rattle.wt_transport.proofs.Bools.{first, second}
use Rattle.wt_transport.proofs.HalfLaws.{sending_answer}
use Rattle.wt_transport.proofs.Refining.{refined_can_send, refined_may_send}
use Rattle.wt_transport.specs.HalfRules.{write_answer, written_count, written_unless}
use Rattle.wt_transport.specs.Rules.{after_write, sending_half, sending_half_now}
use Rattle.wt_transport.specs.State.{TransportState}
use Rattle.wt_transport.specs.Step.{after_send, can_send_now}
use Rattle.wt_turn.specs.Joined.{send_of}
use Rattle.wt_turn.specs.Outgoing.{bytes_within_credit, credit_left, may_send}
use Rattle.wt_turn.specs.Reports.{stop_of}
use Rattle.wt_turn.specs.Sent.{is_finished, is_reset}
use Rattle.wt_turn.specs.Streams.{can_send}
use Rattle.wt_sessions.specs.Answers.{call_effect, in_session, named_session}
use Rattle.wt_sessions.specs.Connection.{continue_opening, opened_reply, poll_for, poll_opening, send_header}
use Rattle.wt_sessions.specs.Driver.{is_living, still_sends}
use Rattle.wt_sessions.specs.Effect.{Effect, is_covered, log_call, poll_sending, reply_with}
use Rattle.wt_sessions.specs.Handshake.{is_refused}
use Rattle.wt_turn.specs.Log.{Log, OpeningFailed, StreamAccepted, actions_of, events_of, is_open}
use Rattle.wt_turn.specs.declared.action.Action.{Action}
use Rattle.wt_turn.specs.declared.call.Call.TheVariants as calls
use Rattle.wt_turn.specs.declared.poll.Poll.{Poll}
use Rattle.wt_turn.specs.declared.poll.Poll.TheVariants.{Pending, Ready}
use Rattle.wt_turn.specs.declared.reply.Reply.TheVariants as replies
use Rattle.wt_turn.specs.declared.stream_error.StreamOpeningError.{StreamOpeningError}
use Rattle.wt_turn.specs.declared.stream_error.StreamOpeningError.TheVariants as openings
use Rattle.wt_turn.specs.declared.stream_error.StreamWriteError.TheVariants as writes
use Rattle.wt_wire.specs.declared.side.Side.{Side}

-- ---- what the log says of it

named : (o : Option ℕ) (side : Side) (log : Log) (call : ℕ → Effect) (effect : Effect) → (o ≡ None → ⊥) → ((s : ℕ) → call s ≡ effect) → in_session side log call o ≡ effect
named None side log call effect some same = absurd (some refl)
named (Some s) side log call effect some same = same s

pub poll-effect : (o : OpeningStream) (bidirectional : Bool) (side : Side) (log : Log) → HasOpening bidirectional o side log → call_effect side log (calls.PollOpening o.id) ≡ continue_opening side log o.id o.session o.left
unfolding call_effect
poll-effect o bidirectional side log has = named (named_session log None) side log (λ s. poll_opening side log o.id) (continue_opening side log o.id o.session o.left) has.session
    (λ s. ap (poll_for side log o.id) has.opens ∙ ap (continue_opening side log o.id o.session) has.left)

-- ---- a write of what is left

given-by : {T : Type 0} (given : T) (rest : List ℕ) → given_if_out given rest ≡ (if is_nothing rest then Ready (Ok given) else Pending)
given-by given [] = refl
given-by given (x ∷ xs) = refl

written-by : {T : Type 0} (given : T) (n byte : ℕ) (later : List ℕ) (e : DriverNow) (b : Bool) → (n == 0) ≡ b
    → header_written given (byte ∷ later) (if b then Pending else Ready (Ok (length (take n (byte ∷ later))))) e
    ≡ record { answer = if is_nothing (drop (length (take n (byte ∷ later))) (byte ∷ later)) then Ready (Ok given) else Pending; left = drop (length (take n (byte ∷ later))) (byte ∷ later); driver = e }
written-by given n byte later e false f =
    ap (λ (a : Poll (Result _ StreamOpeningError)). record { answer = a; left = drop (length (take n (byte ∷ later))) (byte ∷ later); driver = e }) (given-by given (drop (length (take n (byte ∷ later))) (byte ∷ later)))
written-by given n byte later e true f = let none : n ≡ 0 = eqb-true n 0 f in
    λ i. record { answer = if is_nothing (drop (length (take (sym none i) (byte ∷ later))) (byte ∷ later)) then Ready (Ok given) else Pending; left = drop (length (take (sym none i) (byte ∷ later))) (byte ∷ later); driver = e }

-- what it answers where some bytes are left and credit is left for n
written-is : {T : Type 0} (given : T) (n : ℕ) (left : List ℕ) (e : DriverNow) → is_nothing left ≡ false
    → header_written given left (written_count n left) e
    ≡ record { answer = if is_nothing (drop (length (take n left)) left) then Ready (Ok given) else Pending; left = drop (length (take n left)) left; driver = e }
written-is given n [] e some = absurd (true≢false some)
written-is given n (byte ∷ later) e some = written-by given n byte later e (n == 0) refl

-- ---- how a poll ends

-- it fails; or the stream is given, or still waits for credit, and as much of the header goes out as credit is left for
pub data PollEnds {T : Type 0} (given : T) (o : OpeningStream) (d : DriverNow) (side : Side) (log : Log) : Type 0 where
  Fails : (e : StreamOpeningError) → polled_now given o d ≡ record { answer = Ready (Err e); left = o.left; driver = d }
      → continue_opening side log o.id o.session o.left ≡ reply_with (log_call side log [] (OpeningFailed o.id)) (replies.OpeningFailed e) → PollEnds given o d side log
  Gives : may_send side log o.id ≡ true → is_covered log o.id o.left ≡ true
      → polled_now given o d ≡ record { answer = Ready (Ok given); left = drop (length (bytes_within_credit log o.id o.left)) o.left; driver = on_transport (λ t. after_write t o.id o.left) d }
      → continue_opening side log o.id o.session o.left ≡ reply_with (log_call side log (send_of o.id o.left) (StreamAccepted o.id o.session)) (opened_reply o.id) → PollEnds given o d side log
  Waits : may_send side log o.id ≡ true
      → polled_now given o d ≡ record { answer = Pending; left = drop (length (bytes_within_credit log o.id o.left)) o.left; driver = on_transport (λ t. after_write t o.id o.left) d }
      → continue_opening side log o.id o.session o.left ≡ poll_sending side log (send_of o.id (bytes_within_credit log o.id o.left)) replies.Pending → PollEnds given o d side log

module _ {T : Type 0} (given : T) (o : OpeningStream) (d : DriverNow) (side : Side) (log : Log) (collected : ℕ) (f : Follows side d log collected)
    (sends : is_living side log o.session ≡ true → still_sends side log o.id ≡ true) (some : is_nothing o.left ≡ false) where
  abbrev k : ℕ
  k = o.id

  abbrev rest : List ℕ
  rest = o.left

  abbrev t : TransportState
  t = d.work.transport

  abbrev left : List Action
  left = uncollected_since collected log

  abbrev n : ℕ
  n = credit_left log k

  abbrev out : DriverNow
  out = on_transport (λ (x : TransportState). after_write x k rest) d

  abbrev failed : StreamOpeningError → Effect
  failed e = reply_with (log_call side log [] (OpeningFailed k)) (replies.OpeningFailed e)

  abbrev ByLife : Bool → PolledNow T
  ByLife b = if b then header_written given rest (write_said k rest t) (on_transport (then_write k rest) d) else fails_to_open o d

  lives-same : lives_now d.work.dispatched.sessions o.session ≡ is_living side log o.session
  lives-same = lives-now side d log left f.kept o.session

  -- the session doesn't live
  dead : is_living side log o.session ≡ false → PollEnds given o d side log
  dead e = Fails openings.NotConnected (ap ByLife (lives-same ∙ e)) ((λ i. if not (is_open log && e i) then failed openings.NotConnected else (if is_refused log k rest then failed openings.Refused else send_header side log k o.session rest))
      ∙ by (is_open log))
    where
      by : (b : Bool) → (if not (b && false) then failed openings.NotConnected else (if is_refused log k rest then failed openings.Refused else send_header side log k o.session rest)) ≡ failed openings.NotConnected
      by true = refl
      by false = refl

  module _ (lives : is_living side log o.session ≡ true) where
    runs : still_sends side log k ≡ true
    runs = sends lives

    can : can_send side log k ≡ true
    can = first (can_send side log k) (not (is_finished (actions_of log) k)) (first (can_send side log k && not (is_finished (actions_of log) k)) (not (is_reset log k)) runs)

    unfinished : is_finished (actions_of log) k ≡ false
    unfinished = not-true (is_finished (actions_of log) k)
        (second (can_send side log k) (not (is_finished (actions_of log) k)) (first (can_send side log k && not (is_finished (actions_of log) k)) (not (is_reset log k)) runs))

    unreset : is_reset log k ≡ false
    unreset = not-true (is_reset log k) (second (can_send side log k && not (is_finished (actions_of log) k)) (not (is_reset log k)) runs)

    can-now : can_send_now t k ≡ true
    can-now = refined_can_send side t log f.kept.position left f.kept.amid.work.transport k ∙ can

    said : write_said k rest t ≡ write_answer (is_open log) (sending_half log k) rest
    said = ap (λ (b : Bool). if b then write_answer t.is_open (sending_half_now t k) rest else Ready (Err writes.NotConnected)) can-now
        ∙ sending_answer side t log f.kept.position left f.kept.amid.work.transport (λ open_ half. write_answer open_ half rest) k can-now

    wrote : on_transport (then_write k rest) d ≡ out
    wrote = ap (λ (b : Bool). record d { work = record d.work { transport = if b then after_write t k rest else t } }) can-now

    -- by whether the connection is open and the peer stopped the stream
    polled-at : (opened : Bool) (stop : Option ℕ) → is_open log ≡ opened → stop_of (events_of log) k ≡ stop
        → polled_now given o d ≡ header_written given rest (written_unless (if not opened then Some writes.NotConnected else option_map writes.Stopped stop) n rest) out
    polled-at opened stop eo es =
        ap ByLife (lives-same ∙ lives)
        ∙ ((λ i. header_written given rest (said i) (wrote i))
        ∙ (λ i. header_written given rest (written_unless (if not (eo i) then Some writes.NotConnected else (if unfinished i || unreset i then Some writes.Closed else option_map writes.Stopped (es i))) n rest) out))

    effect-at : (opened : Bool) (stop : Option ℕ) → is_open log ≡ opened → stop_of (events_of log) k ≡ stop
        → continue_opening side log k o.session rest
        ≡ (if not (opened && true) then failed openings.NotConnected else (if is_some stop && true then failed openings.Refused else send_header side log k o.session rest))
    effect-at opened stop eo es = λ i. if not (eo i && lives i) then failed openings.NotConnected else (if is_some (es i) && not (some i) then failed openings.Refused else send_header side log k o.session rest)

    may-at : (opened : Bool) (stop : Option ℕ) → is_open log ≡ opened → stop_of (events_of log) k ≡ stop → may_send side log k ≡ (opened && true && true && true && not (is_some stop))
    may-at opened stop eo es = λ i. eo i && can i && not (unfinished i) && not (unreset i) && not (is_some (es i))

    -- nothing goes out
    idle : may_send side log k ≡ false → out ≡ d
    idle e = ap (λ (b : Bool). record d { work = record d.work { transport = if b then after_send t k rest else t } })
        (refined_may_send side t log f.kept.position left f.kept.amid.work.transport k ∙ e)

    fails : (e : StreamOpeningError) → may_send side log k ≡ false → polled_now given o d ≡ record { answer = Ready (Err e); left = rest; driver = out }
        → continue_opening side log k o.session rest ≡ failed e → PollEnds given o d side log
    fails e none polled effect = Fails e (polled ∙ ap (λ (x : DriverNow). record { answer = Ready (Err e); left = rest; driver = x }) (idle none)) effect

    -- by whether credit covers all that is left
    goes : is_open log ≡ true → stop_of (events_of log) k ≡ None → (covered : Bool) → is_covered log k rest ≡ covered → PollEnds given o d side log
    goes eo es covered ec = by covered ec
      where
        polled : polled_now given o d ≡ record { answer = if is_covered log k rest then Ready (Ok given) else Pending; left = drop (length (bytes_within_credit log k rest)) rest; driver = out }
        polled = polled-at true None eo es ∙ written-is given n rest out some

        by : (c : Bool) → is_covered log k rest ≡ c → PollEnds given o d side log
        by true e = Gives (may-at true None eo es) e (polled ∙ (λ i. record { answer = if e i then Ready (Ok given) else Pending; left = drop (length (bytes_within_credit log k rest)) rest; driver = out }))
            (effect-at true None eo es ∙ ap (λ (b : Bool). if b then reply_with (log_call side log (send_of k rest) (StreamAccepted k o.session)) (opened_reply k)
            else poll_sending side log (send_of k (bytes_within_credit log k rest)) replies.Pending) e)
        by false e = Waits (may-at true None eo es) (polled ∙ (λ i. record { answer = if e i then Ready (Ok given) else Pending; left = drop (length (bytes_within_credit log k rest)) rest; driver = out }))
            (effect-at true None eo es ∙ ap (λ (b : Bool). if b then reply_with (log_call side log (send_of k rest) (StreamAccepted k o.session)) (opened_reply k)
            else poll_sending side log (send_of k (bytes_within_credit log k rest)) replies.Pending) e)

    alive : (opened : Bool) → is_open log ≡ opened → (stop : Option ℕ) → stop_of (events_of log) k ≡ stop → PollEnds given o d side log
    alive false eo stop es = fails openings.NotConnected (may-at false stop eo es) (polled-at false stop eo es) (effect-at false stop eo es)
    alive true eo (Some code) es = fails openings.Refused (may-at true (Some code) eo es) (polled-at true (Some code) eo es) (effect-at true (Some code) eo es)
    alive true eo None es = goes eo es (is_covered log k rest) refl

  pub poll-ends : PollEnds given o d side log
  poll-ends = by (is_living side log o.session) refl
    where
      by : (b : Bool) → is_living side log o.session ≡ b → PollEnds given o d side log
      by true e = alive e (is_open log) refl (stop_of (events_of log) k) refl
      by false e = dead e
