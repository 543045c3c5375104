-- The calls on the receiving half of a stream that the application has: each answers and leaves what the definitions say of it.
use Rattle.std.proofs.Common.{◌∙◌, ◌≡◌, ◌≤◌, ◌++◌, ◌∷◌, Bool, List, Option, Some, [], ap, arith, drop, false, length, min, refl, subst, subst₂, sym, take, true, ℕ}
use Rattle.std.proofs.Math.Dec.{eqb-suc-zero}
use Rattle.std.proofs.Math.Nat.{min-zero, zero-min}
use Rattle.std.proofs.Math.Seq.{drop-length, take-append_seam, take-length}
use Rattle.std.proofs.lemmas.Bool.{ltb-false, ltb-true}
use Rattle.std.proofs.lemmas.List.{append-nil, length-append, length-drop, length-take, length-take-le, take_min}
use Rattle.std.specs.Prelude.{◌==◌, Err, IsTrue, Ok, Result, if◌then◌else◌, nat_lt}
use Rattle.wt_driver_laws.proofs.HalfLogs.{acted, called, did-so, nothing-harms, polled, with_transport}
use Rattle.wt_driver_laws.proofs.Reach.{reached_fits}
use Rattle.wt_driver_laws.proofs.ReachHalves.{HasStream, receiving_can, receiving_stream, receiving_unread}
use Rattle.wt_driver_laws.specs.Calling.{Always, Did, Does}
use Rattle.wt_driver_laws.specs.Driving.{Follows, IsReachable, uncollected_since}
use Rattle.wt_driver_laws.specs.Having.{HasReceiving}
use Rattle.wt_driver_laws.specs.Passing.{exact_buffer, exact_said, on_transport, read_buffer, read_said, then_read, then_read_exact, then_stop}
use Rattle.wt_driver_laws.specs.Replies as typed
use Rattle.wt_driver_laws.specs.Replies.{done_reply, exact_into, read_exact_reply, read_into}
use Rattle.wt_follows.proofs.ReadCalls.{bytes-read-follow}
use Rattle.wt_follows.proofs.StopCall.{safe-if, stop-follows}
use Rattle.wt_kept.specs.Kept.{DriverNow}
use Rattle.wt_transport.proofs.HalfLaws.{read_exact_within, read_within}
use Rattle.wt_transport.proofs.Refining.{consume_refines, refined_can_receive, refined_end, refined_open, refined_unread, stop_refines}
use Rattle.wt_transport.specs.HalfRules.{ReceivingHalf, count_of_few, nothing_unread, read_answer, read_count, read_exact_answer, read_exact_count, too_few}
use Rattle.wt_transport.specs.Rules.{receiving_half_now}
use Rattle.wt_transport.specs.State.{Refines, TransportState}
use Rattle.wt_transport.specs.Step.{after_consume, after_give_up, after_stop, can_receive_now, unread_now}
use Rattle.wt_turn.specs.Outgoing.{if_open}
use Rattle.wt_turn.specs.Reports.{end_of}
use Rattle.wt_turn.specs.Streams.{contents}
use Rattle.wt_turn.specs.Unread.{AtOffset, GivenUp, ReadPosition, advance, from_position}
use Rattle.wt_sessions.specs.Answers.{call_effect}
use Rattle.wt_sessions.specs.Effect.{Effect, log_call, poll_only, reply_with}
use Rattle.wt_sessions.specs.Halves.{exact_at_end, has_receiving_half, on_half, read, read_exact, read_reply, reply_at_end, stop_receiving, take_bytes, unread_body}
use Rattle.wt_sessions.specs.Moment.{Fits}
use Rattle.wt_turn.specs.Log.{BytesRead, Log, Polled, StreamGivenUp, events_of, is_open}
use Rattle.wt_turn.specs.declared.action.Action.{Action}
use Rattle.wt_turn.specs.declared.action.Action.TheVariants as actions
use Rattle.wt_turn.specs.declared.call.Call.TheVariants as calls
use Rattle.wt_turn.specs.declared.poll.Poll.{Poll}
use Rattle.wt_turn.specs.declared.poll.Poll.TheVariants.{Pending, Ready}
use Rattle.wt_turn.specs.declared.reply.Reply.{Reply}
use Rattle.wt_turn.specs.declared.reply.Reply.TheVariants as replies
use Rattle.wt_turn.specs.declared.stream_error.StreamReadError.{StreamReadError}
use Rattle.wt_turn.specs.declared.stream_error.StreamReadExactError.{StreamReadExactError}
use Rattle.wt_turn.specs.declared.stream_error.StreamReadError.TheVariants as reads
use Rattle.wt_turn.specs.declared.stream_error.StreamReadExactError.TheVariants as exacts
use Rattle.wt_wire.specs.declared.side.Side.{Side}
use Rattle.wt_wire.specs.declared.side.StreamEnd.{StreamEnd}
use Rattle.wt_wire.specs.declared.side.StreamEnd.TheVariants as ends

-- ---- what a call on a half that the application has leads to

read-effect : (side : Side) (log : Log) (id size : ℕ) → has_receiving_half side log id ≡ true → call_effect side log (calls.Read id size) ≡ read side log id size
unfolding call_effect
read-effect side log id size has = ap (λ (b : Bool). on_half b side log (λ k. read side log k size) id) has

exact-effect : (side : Side) (log : Log) (id size : ℕ) → has_receiving_half side log id ≡ true → call_effect side log (calls.ReadExact id size) ≡ read_exact side log id size
unfolding call_effect
exact-effect side log id size has = ap (λ (b : Bool). on_half b side log (λ k. read_exact side log k size) id) has

stop-effect : (side : Side) (log : Log) (id code : ℕ) → has_receiving_half side log id ≡ true → call_effect side log (calls.StopRecv id code) ≡ stop_receiving side log id code
unfolding call_effect
stop-effect side log id code has = ap (λ (b : Bool). on_half b side log (λ k. stop_receiving side log k code) id) has

-- ---- bytes that come into a buffer

-- the front of a buffer into which so many of these bytes came
front : (count : ℕ) (bytes rest : List ℕ) → count ≤ length bytes → take count (take count bytes ++ rest) ≡ take count bytes
front count bytes rest le = ap (λ (n : ℕ). take n (take count bytes ++ rest)) (sym (length-take-le count bytes le)) ∙ take-append_seam (take count bytes) rest

-- the buffer is as long as before
still-long : (count : ℕ) (bytes buffer : List ℕ) → count ≤ length bytes → count ≤ length buffer → length (take count bytes ++ drop count buffer) ≡ length buffer
still-long count bytes buffer le within =
    let a = length-append (take count bytes) (drop count buffer) in
    let b = length-take-le count bytes le in
    let c = length-drop count buffer in
    omega (arith, a, b, c, le, within)

-- ---- a read by the log

-- A read of so many bytes: where it takes none it may be a mere poll, else it is recorded.
data Reads (side : Side) (log : Log) (id count : ℕ) (answer : Reply) (effect : Effect) : Type 0 where
  TakesNone : count ≡ 0 → effect ≡ poll_only side log answer → Reads side log id count answer effect
  Takes : effect ≡ reply_with (log_call side log [] (BytesRead id count)) answer → Reads side log id count answer effect

-- what is known of a half of which these bytes are unread
abbrev half_of : List ℕ → StreamEnd → ReceivingHalf
half_of bytes end = record { unread = length bytes; end = end }

-- the buffer after so many of these bytes came
abbrev filled_with : ℕ → List ℕ → List ℕ → List ℕ
filled_with count bytes buffer = take count bytes ++ drop count buffer

module _ (side : Side) (log : Log) (id : ℕ) where
  nothing-same : (buffer : List ℕ) (end : StreamEnd) → reply_at_end log end ≡ typed.read_reply buffer (nothing_unread (is_open log) end)
  nothing-same buffer ends.Fin = refl
  nothing-same buffer (ends.Reset code) = refl
  nothing-same buffer ends.Running = by (is_open log)
    where
      by : (o : Bool) → (if o then replies.Pending else replies.ReadFailed reads.NotConnected) ≡ typed.read_reply buffer (if o then Pending else Ready (Err reads.NotConnected))
      by true = refl
      by false = refl

  abbrev end : StreamEnd
  end = end_of (events_of log) id

  read-by : (buffer bytes : List ℕ)
      → Reads side log id (read_count (half_of bytes end) (length buffer)) (typed.read_reply (filled_with (read_count (half_of bytes end) (length buffer)) bytes buffer) (read_answer (is_open log) (half_of bytes end) (length buffer)))
      (if length buffer == 0 then poll_only side log (replies.Read (Some [])) else read_reply side log id (length buffer) bytes)
  read-by [] bytes = TakesNone (zero-min (length bytes)) refl
  read-by (x ∷ buffer) [] = TakesNone (min-zero (length (x ∷ buffer)))
      (ap (λ (e : Bool). if e then poll_only side log (replies.Read (Some [])) else poll_only side log (reply_at_end log end)) (eqb-suc-zero (length buffer))
      ∙ (ap (poll_only side log) (nothing-same (filled_with (read_count (half_of [] end) (length (x ∷ buffer))) [] (x ∷ buffer)) end)
      ∙ sym (ap (λ (e : Bool). poll_only side log (typed.read_reply (filled_with (read_count (half_of [] end) (length (x ∷ buffer))) [] (x ∷ buffer)) (if e then Ready (Ok (Some 0)) else nothing_unread (is_open log) end))) (eqb-suc-zero (length buffer)))))
  read-by (x ∷ buffer) (b ∷ bytes) = Takes (
      ap (λ (e : Bool). if e then poll_only side log (replies.Read (Some [])) else take_bytes side log id (take (length (x ∷ buffer)) (b ∷ bytes)) (replies.Read (Some (take (length (x ∷ buffer)) (b ∷ bytes))))) (eqb-suc-zero (length buffer))
      ∙ ((λ i. taken (length-take (length (x ∷ buffer)) (b ∷ bytes) i) (sym (take_min (length (x ∷ buffer)) (b ∷ bytes)) i))
      ∙ (ap (taken count) (sym (front count (b ∷ bytes) (drop count (x ∷ buffer)) (read_within (half_of (b ∷ bytes) end) (length (x ∷ buffer)))))
      ∙ sym (λ i. reply_with (log_call side log [] (BytesRead id count)) (typed.read_reply (filled_with count (b ∷ bytes) (x ∷ buffer))
      (if eqb-suc-zero (length buffer) i then Ready (Ok (Some 0)) else (if eqb-suc-zero (length bytes) i then nothing_unread (is_open log) end else Ready (Ok (Some count)))))))))
    where
      count : ℕ
      count = min (length (x ∷ buffer)) (length (b ∷ bytes))

      taken : ℕ → List ℕ → Effect
      taken n bs = reply_with (log_call side log [] (BytesRead id n)) (replies.Read (Some bs))

  exact-by : (buffer bytes : List ℕ) (how : StreamEnd) (b : Bool) → nat_lt (length bytes) (length buffer) ≡ b
      → Reads side log id (if b then count_of_few how (length bytes) else length buffer)
      (read_exact_reply (filled_with (if b then count_of_few how (length bytes) else length buffer) bytes buffer) (if b then too_few (is_open log) how (length bytes) else Ready (Ok tt)))
      (if b then exact_at_end side log id bytes how else take_bytes side log id (take (length buffer) bytes) (replies.Exact (take (length buffer) bytes)))
  exact-by buffer bytes ends.Running true e = TakesNone refl (ap (poll_only side log) (by (is_open log)))
    where
      by : (o : Bool) → (if o then replies.Pending else replies.ExactFailed (exacts.Read reads.NotConnected) [])
          ≡ read_exact_reply (filled_with 0 bytes buffer) (if o then Pending else Ready (Err (exacts.Read reads.NotConnected)))
      by true = refl
      by false = refl
  exact-by buffer bytes (ends.Reset code) true e = TakesNone refl refl
  exact-by buffer bytes ends.Fin true e = Takes (ap (λ (bs : List ℕ). reply_with (log_call side log [] (BytesRead id (length bytes))) (replies.ExactFailed (exacts.FinishedEarly (length bytes)) bs))
      (sym (front (length bytes) bytes (drop (length bytes) buffer) (let m : ℕ = length bytes in omega arith) ∙ take-length bytes)))
  exact-by buffer bytes how false e = Takes (λ i. reply_with (log_call side log [] (BytesRead id (length-take-le (length buffer) bytes (ltb-false (length bytes) (length buffer) e) i))) (replies.Exact (whole i)))
    where
      whole : take (length buffer) bytes ≡ filled_with (length buffer) bytes buffer
      whole = sym (ap (λ (xs : List ℕ). take (length buffer) bytes ++ xs) (drop-length buffer) ∙ append-nil (take (length buffer) bytes))

-- ---- the calls

module _ (d : DriverNow) (id : ℕ) (side : Side) (log : Log) (collected : ℕ) (f : Follows side d log collected) (r : IsReachable side log) (has : HasReceiving id side log) where
  abbrev t : TransportState
  t = d.work.transport

  abbrev left : List Action
  left = uncollected_since collected log

  abbrev position : ℕ → ReadPosition
  position = f.kept.position

  fits : Fits side log
  fits = reached_fits side log r

  mine : HasStream side log id
  mine = receiving_stream side log r id has

  can : IsTrue (can_receive_now t id)
  can = refined_can_receive side t log position left f.kept.amid.work.transport id ∙ receiving_can side log r id has

  -- what is unread by what is kept is what is by the log
  unread-here : unread_now t id ≡ unread_body side log id
  unread-here = refined_unread side t log position left f.kept.amid.work.transport id
      ∙ (ap (λ (p : ReadPosition). from_position p (contents log id)) (f.kept.amid.work.placed.members id mine.session mine.member) ∙ sym (receiving_unread side log r id has))

  abbrev half : ReceivingHalf
  half = half_of (unread_body side log id) (end_of (events_of log) id)

  half-here : receiving_half_now t id ≡ half
  half-here = λ i. record { unread = length (unread-here i); end = refined_end side t log position left f.kept.amid.work.transport id i }

  open-here : t.is_open ≡ is_open log
  open-here = refined_open side t log position left f.kept.amid.work.transport

  becomes : (u : TransportState) → with_transport d (if can_receive_now t id then u else t) ≡ with_transport d u
  becomes u = ap (λ (b : Bool). with_transport d (if b then u else t)) can

  -- nothing is read: what is kept refines the log as before
  consume-none : Refines side (after_consume t id 0) log position left
  consume-none = subst (λ (p : ℕ → ReadPosition). Refines side (after_consume t id 0) log p left) (λ i k. stays (id == k) (position k) i) (consume_refines side t log position left f.kept.amid.work.transport id 0 (omega arith))
    where
      stays : (b : Bool) (p : ReadPosition) → (if b then advance 0 p else p) ≡ p
      stays true (AtOffset offset) = ap AtOffset (omega arith)
      stays true GivenUp = refl
      stays false p = refl

  -- so many bytes are read
  took : (count : ℕ) → count ≤ length (unread_now t id) → Follows side (with_transport d (after_consume t id count)) (log_call side log [] (BytesRead id count)) collected
  took count few = called side d log collected f fits d (with_transport d (after_consume t id count)) [] (BytesRead id count) f.kept tt (λ z. refl)
      (bytes-read-follow side d log left f.kept fits id mine.session mine.member count few)

  took-none : Follows side (with_transport d (after_consume t id 0)) (log_call side log [] Polled) collected
  took-none = polled side d log collected f fits [] (after_consume t id 0) (nothing-harms side d log left f.kept) consume-none

  -- a read, with its reply
  did-read : (now count : ℕ) (answer : Reply) (effect : Effect) (later : DriverNow) → now ≡ count → count ≤ length (unread_body side log id) → later ≡ with_transport d (after_consume t id now)
      → Reads side log id count answer effect → Did side later collected answer effect
  did-read now count answer effect later n few is (TakesNone none e) = record {
    reply = sym (ap (λ (x : Effect). x.reply) e);
    log = subst (λ (x : Effect). Follows side later x.log collected) (sym e)
        (subst (λ (x : DriverNow). Follows side x (log_call side log [] Polled) collected) (sym (is ∙ ap (λ (m : ℕ). with_transport d (after_consume t id m)) (n ∙ none))) took-none);
  }
  did-read now count answer effect later n few is (Takes e) = record {
    reply = sym (ap (λ (x : Effect). x.reply) e);
    log = subst (λ (x : Effect). Follows side later x.log collected) (sym e)
        (subst (λ (x : DriverNow). Follows side x (log_call side log [] (BytesRead id count)) collected) (sym (is ∙ ap (λ (m : ℕ). with_transport d (after_consume t id m)) n))
        (took count (subst (λ (xs : List ℕ). count ≤ length xs) (sym unread-here) few)));
  }

  was-read : (buffer : List ℕ) → Did side (on_transport (then_read id (length buffer)) d) collected (typed.read_reply (read_buffer id buffer t) (read_said id (length buffer) t)) (call_effect side log (calls.Read id (length buffer)))
  was-read buffer = did-read (read_count (receiving_half_now t id) (length buffer)) (read_count half (length buffer)) (typed.read_reply (read_buffer id buffer t) (read_said id (length buffer) t)) (call_effect side log (calls.Read id (length buffer)))
      (on_transport (then_read id (length buffer)) d) (ap (λ (h : ReceivingHalf). read_count h (length buffer)) half-here) (read_within half (length buffer)) (becomes (after_consume t id (read_count (receiving_half_now t id) (length buffer))))
      (subst₂ (λ (a : Reply) (e : Effect). Reads side log id (read_count half (length buffer)) a e) (sym answered) (sym (read-effect side log id (length buffer) has)) (read-by side log id buffer (unread_body side log id)))
    where
      answered : typed.read_reply (read_buffer id buffer t) (read_said id (length buffer) t)
          ≡ typed.read_reply (filled_with (read_count half (length buffer)) (unread_body side log id) buffer) (read_answer (is_open log) half (length buffer))
      answered = λ i. typed.read_reply (if can i then take (read_count (half-here i) (length buffer)) (unread-here i) ++ drop (read_count (half-here i) (length buffer)) buffer else buffer)
          (if can i then read_answer (open-here i) (half-here i) (length buffer) else Ready (Err reads.NotConnected))

  was-read-exact : (buffer : List ℕ) → Did side (on_transport (then_read_exact id (length buffer)) d) collected (read_exact_reply (exact_buffer id buffer t) (exact_said id (length buffer) t)) (call_effect side log (calls.ReadExact id (length buffer)))
  was-read-exact buffer = did-read (read_exact_count (receiving_half_now t id) (length buffer)) (read_exact_count half (length buffer)) (read_exact_reply (exact_buffer id buffer t) (exact_said id (length buffer) t)) (call_effect side log (calls.ReadExact id (length buffer)))
      (on_transport (then_read_exact id (length buffer)) d) (ap (λ (h : ReceivingHalf). read_exact_count h (length buffer)) half-here) (read_exact_within half (length buffer)) (becomes (after_consume t id (read_exact_count (receiving_half_now t id) (length buffer))))
      (subst₂ (λ (a : Reply) (e : Effect). Reads side log id (read_exact_count half (length buffer)) a e) (sym answered) (sym (exact-effect side log id (length buffer) has))
      (exact-by side log id buffer (unread_body side log id) (end_of (events_of log) id) (nat_lt (length (unread_body side log id)) (length buffer)) refl))
    where
      answered : read_exact_reply (exact_buffer id buffer t) (exact_said id (length buffer) t)
          ≡ read_exact_reply (filled_with (read_exact_count half (length buffer)) (unread_body side log id) buffer) (read_exact_answer (is_open log) half (length buffer))
      answered = λ i. read_exact_reply (if can i then take (read_exact_count (half-here i) (length buffer)) (unread-here i) ++ drop (read_exact_count (half-here i) (length buffer)) buffer else buffer)
          (if can i then read_exact_answer (open-here i) (half-here i) (length buffer) else Ready (Err (exacts.Read reads.NotConnected)))

  was-stopped : (code : ℕ) → Did side (on_transport (then_stop id code) d) collected replies.Done (call_effect side log (calls.StopRecv id code))
  was-stopped code = subst (Did side (on_transport (then_stop id code) d) collected replies.Done) (sym (stop-effect side log id code has)) (record {
    reply = refl;
    log = subst (λ (x : DriverNow). Follows side x (stop_receiving side log id code).log collected) (sym (becomes (after_give_up (after_stop t id code) id)))
        (called side d log collected f fits (with_transport d (after_stop t id code)) (with_transport d (after_give_up (after_stop t id code) id)) (if_open log (actions.StopOut id code)) (StreamGivenUp id)
        (acted side d log collected f fits (if_open log (actions.StopOut id code)) (after_stop t id code) (safe-if side d log left f.kept fits id mine.session mine.member can code (is_open log)) (stop_refines side t log position left f.kept.amid.work.transport id code))
        tt (λ z. refl) (stop-follows side d log left f.kept fits id mine.session mine.member can code));
  })

-- ---- the laws

-- how many bytes are unread
pub unread_law : (id a : ℕ) (d : DriverNow) → a ≡ length (unread_now d.work.transport id) → Always d (λ side log collected. HasReceiving id side log → a ≡ length (unread_body side log id))
unread_law id a d e side log collected f r has = e ∙ ap length (unread-here d id side log collected f r has)

-- a read into a buffer, which is `new` then
pub read_law : (id : ℕ) (buffer new : List ℕ) (a : Poll (Result (Option ℕ) StreamReadError)) (d later : DriverNow) → a ≡ read_said id (length buffer) d.work.transport → new ≡ read_buffer id buffer d.work.transport
    → later ≡ on_transport (then_read id (length buffer)) d → Does d later (HasReceiving id) (calls.Read id (length buffer)) (typed.read_reply new) a
read_law id buffer new a d later e b q side log collected f r has = subst (λ (bs : List ℕ). Did side later collected (typed.read_reply bs a) (call_effect side log (calls.Read id (length buffer)))) (sym b)
    (did-so side collected (call_effect side log (calls.Read id (length buffer))) (typed.read_reply (read_buffer id buffer d.work.transport)) (read_said id (length buffer) d.work.transport) a (on_transport (then_read id (length buffer)) d) later e q
    (was-read d id side log collected f r has buffer))

-- an exact read
pub read_exact_law : (id : ℕ) (buffer new : List ℕ) (a : Poll (Result (Unit {0}) StreamReadExactError)) (d later : DriverNow) → a ≡ exact_said id (length buffer) d.work.transport → new ≡ exact_buffer id buffer d.work.transport
    → later ≡ on_transport (then_read_exact id (length buffer)) d → Does d later (HasReceiving id) (calls.ReadExact id (length buffer)) (read_exact_reply new) a
read_exact_law id buffer new a d later e b q side log collected f r has = subst (λ (bs : List ℕ). Did side later collected (read_exact_reply bs a) (call_effect side log (calls.ReadExact id (length buffer)))) (sym b)
    (did-so side collected (call_effect side log (calls.ReadExact id (length buffer))) (read_exact_reply (exact_buffer id buffer d.work.transport)) (exact_said id (length buffer) d.work.transport) a (on_transport (then_read_exact id (length buffer)) d) later e q
    (was-read-exact d id side log collected f r has buffer))

-- a stop
pub stop_law : (id code : ℕ) (a : Unit {0}) (d later : DriverNow) → later ≡ on_transport (then_stop id code) d → Does d later (HasReceiving id) (calls.StopRecv id code) done_reply a
stop_law id code a d later q side log collected f r has =
    did-so side collected (call_effect side log (calls.StopRecv id code)) done_reply a a (on_transport (then_stop id code) d) later refl q (was-stopped d id side log collected f r has code)

-- ---- buffers stay as long as they are, and no more is told of than came into them

pub read_size_law : (id : ℕ) (buffer new : List ℕ) (t : TransportState) → new ≡ read_buffer id buffer t → length new ≡ length buffer
read_size_law id buffer new t e = ap length e ∙ by (can_receive_now t id)
  where
    by : (b : Bool) → length (if b then filled_with (min (length buffer) (length (unread_now t id))) (unread_now t id) buffer else buffer) ≡ length buffer
    by true = still-long (min (length buffer) (length (unread_now t id))) (unread_now t id) buffer (omega arith) (omega arith)
    by false = refl

pub read_within_law : (id : ℕ) (buffer : List ℕ) (a : Poll (Result (Option ℕ) StreamReadError)) (t : TransportState) → a ≡ read_said id (length buffer) t → read_into a ≤ length buffer
read_within_law id buffer a t q =
    subst (λ (x : Poll (Result (Option ℕ) StreamReadError)). read_into x ≤ length buffer) (sym q) (by (can_receive_now t id) (length buffer == 0) (length (unread_now t id) == 0) (receiving_half_now t id).end)
  where
    nothing : (o : Bool) (end : StreamEnd) → read_into (nothing_unread o end) ≤ length buffer
    nothing o ends.Fin = omega arith
    nothing o (ends.Reset code) = omega arith
    nothing true ends.Running = omega arith
    nothing false ends.Running = omega arith

    by : (b c e : Bool) (end : StreamEnd)
        → read_into (if b then (if c then Ready (Ok (Some 0)) else (if e then nothing_unread t.is_open end else Ready (Ok (Some (min (length buffer) (length (unread_now t id))))))) else Ready (Err reads.NotConnected)) ≤ length buffer
    by true true e end = omega arith
    by true false true end = nothing t.is_open end
    by true false false end = omega arith
    by false c e end = omega arith

pub exact_size_law : (id : ℕ) (buffer new : List ℕ) (t : TransportState) → new ≡ exact_buffer id buffer t → length new ≡ length buffer
exact_size_law id buffer new t q = ap length q ∙ by (can_receive_now t id) (nat_lt (length (unread_now t id)) (length buffer)) refl (receiving_half_now t id).end
  where
    by : (b c : Bool) → nat_lt (length (unread_now t id)) (length buffer) ≡ c → (end : StreamEnd)
        → length (if b then filled_with (if c then count_of_few end (length (unread_now t id)) else length buffer) (unread_now t id) buffer else buffer) ≡ length buffer
    by false c e end = refl
    by true true e ends.Fin = still-long (length (unread_now t id)) (unread_now t id) buffer (omega arith) (let l = ltb-true (length (unread_now t id)) (length buffer) e in omega (arith, l))
    by true true e (ends.Reset code) = still-long 0 (unread_now t id) buffer (omega arith) (omega arith)
    by true true e ends.Running = still-long 0 (unread_now t id) buffer (omega arith) (omega arith)
    by true false e end = still-long (length buffer) (unread_now t id) buffer (ltb-false (length (unread_now t id)) (length buffer) e) (omega arith)

pub exact_within_law : (id : ℕ) (buffer : List ℕ) (a : Poll (Result (Unit {0}) StreamReadExactError)) (t : TransportState) → a ≡ exact_said id (length buffer) t → exact_into (length buffer) a ≤ length buffer
exact_within_law id buffer a t q = subst (λ (x : Poll (Result (Unit {0}) StreamReadExactError)). exact_into (length buffer) x ≤ length buffer) (sym q)
    (by (can_receive_now t id) (nat_lt (length (unread_now t id)) (length buffer)) refl t.is_open (receiving_half_now t id).end)
  where
    by : (b c : Bool) → nat_lt (length (unread_now t id)) (length buffer) ≡ c → (o : Bool) (end : StreamEnd)
        → exact_into (length buffer) (if b then (if c then too_few o end (length (unread_now t id)) else Ready (Ok tt)) else Ready (Err (exacts.Read reads.NotConnected))) ≤ length buffer
    by false c e o end = omega arith
    by true true e o ends.Fin = let l = ltb-true (length (unread_now t id)) (length buffer) e in omega (arith, l)
    by true true e o (ends.Reset code) = omega arith
    by true true e true ends.Running = omega arith
    by true true e false ends.Running = omega arith
    by true false e o end = omega arith
