-- What a call's record tells of halves, of reads and of sessions' ends is what its turn and reply tell.
use Rattle.std.specs.Prelude.{[], ◌==◌, ◌∷◌, ◌≡◌, Bool, List, None, Option, Some, false, if◌then◌else◌, length, not, true, ℕ}
use Rattle.std.specs.List.{list_any}
use Rattle.std.specs.Option.{option_or}
use Rattle.std.proofs.Common.{◌∙◌, ap, refl, sym}
use Rattle.std.proofs.lemmas.Bool.{eqb-true}
use Rattle.url.specs.Parser.{parse_url}
use Rattle.wt_meaning.specs.Calls.{rows_of}
use Rattle.wt_meaning.specs.Halves.{has_sending, is_done, priority_by, read_by}
use Rattle.wt_meaning.specs.Handshakes.{last_begun, poll_rows}
use Rattle.wt_meaning.specs.History.{History, answers_reset, answers_stop, is_open, is_reset_of}
use Rattle.wt_meaning.specs.Lawful.{begins, is_lawful, is_response, polls}
use Rattle.wt_meaning.specs.Rows.{first_row, row}
use Rattle.wt_meaning.specs.Sends.{action_if}
use Rattle.wt_meaning.specs.Targets.{target_of}
use Rattle.wt_meaning.specs.Windows.{gone_in, is_number, last_request, named}
use Rattle.wt_promise.proofs.OwnActs.{response-request}
use Rattle.wt_promise.proofs.ResultKept.{APolled, AResponse, Rejecting, rejecting}
use Rattle.wt_promise.proofs.Sessions.{is_connect}
use Rattle.wt_promise.proofs.Tables.{connect-passes, fits, fits-own, is_rejected}
use Rattle.wt_promise.specs.Promise.{IsHistory}
use Rattle.wt_turn.specs.Sent.{priority_set}
use Rattle.wt_sessions.specs.Driver.{ends_session, gives_up}
use Rattle.wt_sessions.specs.Halves.{bytes_read}
use Rattle.wt_sessions_agree.proofs.CallReplies.{suits}
use Rattle.wt_sessions_agree.proofs.RecordLaws.{Aside, either, failure-aside, pending-aside}
use Rattle.wt_sessions_agree.proofs.TurnKeeps.{unsent-reset}
use Rattle.wt_sessions_agree.specs.Records.{done_record, record_of}
use Rattle.wt_turn.specs.Log.{Polled, PrioritySet, RequestRejected, ResetUnsent}
use Rattle.wt_turn.specs.declared.answer.Answer.{Answer}
use Rattle.wt_turn.specs.declared.call.Call.{Call}
use Rattle.wt_turn.specs.declared.reply.Reply.{Reply}
use Rattle.wt_wire.specs.declared.side.Side.{Side}
use Rattle.wt_turn.specs.declared.action.Action.TheVariants as actions
use Rattle.wt_turn.specs.declared.call.Call.TheVariants as calls
use Rattle.wt_turn.specs.declared.reply.Reply.TheVariants as replies
use Rattle.wt_turn.specs.declared.stream_error.StreamReadExactError.TheVariants as exacts
use Rattle.wt_turn.specs.declared.turn.Turn.TheVariants as turns

-- the reply is Done
abbrev is_taken : Reply → Bool
is_taken replies.Done = true
is_taken _ = false

-- ---- halves that are given up

stop-aside : (k : ℕ) → Aside (gives_up k) false
stop-aside k = record { polled = refl; started = λ r i. refl; response = λ a i. refl; over = refl; failed = refl }

done-stops : (side : Side) (h : History) (k : ℕ) (c : Call) → gives_up k (done_record side h c) ≡ answers_stop k (turns.Call c) replies.Done
done-stops side h k (calls.StopRecv id code) = refl
done-stops side h k (calls.ResetSend id code) = either (gives_up k) false (is_open h) Polled (ResetUnsent id code) refl refl
done-stops side h k (calls.SetPriority id p) = either (gives_up k) false (is_done h id) Polled (PrioritySet id p) refl refl
done-stops side h k (calls.EndSession name) = either (gives_up k) false (is_open h) (RequestRejected _) Polled refl refl
done-stops side h k c = refl

stops-not : (k : ℕ) (c : Call) (r : Reply) → is_taken r ≡ false → answers_stop k (turns.Call c) r ≡ false
stops-not k (calls.StopRecv id code) replies.Done e = absurd (cc e)
stops-not k (calls.StopRecv id code) r e = refl
stops-not k c r e = refl

pub stopped-by : (side : Side) (h : History) (c : Call) (k : ℕ) (r : Reply) → gives_up k (record_of side h c r) ≡ answers_stop k (turns.Call c) r
stopped-by side h c k replies.Done = done-stops side h k c
stopped-by side h c k replies.Pending = pending-aside (gives_up k) false (stop-aside k) c ∙ sym (stops-not k c replies.Pending refl)
stopped-by side h c k (replies.Failed e) = failure-aside (gives_up k) false (stop-aside k) c ∙ sym (stops-not k c (replies.Failed e) refl)
stopped-by side h c k (replies.Read (Some (b ∷ bytes))) = sym (stops-not k c (replies.Read (Some (b ∷ bytes))) refl)
stopped-by side h c k (replies.Read (Some [])) = sym (stops-not k c (replies.Read (Some [])) refl)
stopped-by side h c k (replies.Read None) = sym (stops-not k c (replies.Read None) refl)
stopped-by side h c k (replies.ExactFailed (exacts.FinishedEarly count) piece) = sym (stops-not k c (replies.ExactFailed (exacts.FinishedEarly count) piece) refl)
stopped-by side h c k (replies.ExactFailed (exacts.Read e) piece) = sym (stops-not k c (replies.ExactFailed (exacts.Read e) piece) refl)
stopped-by side h c k r = sym (stops-not k c r refl)

-- ---- halves that are reset

unsent-aside : (k : ℕ) → Aside (unsent-reset k) false
unsent-aside k = record { polled = refl; started = λ r i. refl; response = λ a i. refl; over = refl; failed = refl }

resets-not : (k : ℕ) (c : Call) (r : Reply) → is_taken r ≡ false → answers_reset k (turns.Call c) r ≡ false
resets-not k (calls.ResetSend id code) replies.Done e = absurd (cc e)
resets-not k (calls.ResetSend id code) r e = refl
resets-not k c r e = refl

-- what the record of a reset tells, where the connection is open or isn't
abbrev pub told-if : Bool → Bool → Bool
told-if true told = false
told-if false told = told

if-none : (b : Bool) → told-if b false ≡ false
if-none true = refl
if-none false = refl

done-resets : (side : Side) (h : History) (k : ℕ) (c : Call) → unsent-reset k (done_record side h c) ≡ told-if (is_open h) (answers_reset k (turns.Call c) replies.Done)
done-resets side h k (calls.ResetSend id code) = by (is_open h)
  where
    by : (b : Bool) → unsent-reset k (if b then Polled else ResetUnsent id code) ≡ told-if b (id == k)
    by true = refl
    by false = refl
done-resets side h k (calls.SetPriority id p) = either (unsent-reset k) false (is_done h id) Polled (PrioritySet id p) refl refl ∙ sym (if-none (is_open h))
done-resets side h k (calls.EndSession name) = either (unsent-reset k) false (is_open h) (RequestRejected _) Polled refl refl ∙ sym (if-none (is_open h))
done-resets side h k c = sym (if-none (is_open h))

pub reset-by : (side : Side) (h : History) (c : Call) (k : ℕ) (r : Reply) → unsent-reset k (record_of side h c r) ≡ told-if (is_open h) (answers_reset k (turns.Call c) r)
reset-by side h c k r = by r
  where
    none : (r : Reply) → is_taken r ≡ false → unsent-reset k (record_of side h c r) ≡ false
    none replies.Done e = absurd (cc e)
    none replies.Pending e = pending-aside (unsent-reset k) false (unsent-aside k) c
    none (replies.Failed x) e = failure-aside (unsent-reset k) false (unsent-aside k) c
    none (replies.Read (Some (b ∷ bytes))) e = refl
    none (replies.Read (Some [])) e = refl
    none (replies.Read None) e = refl
    none (replies.ExactFailed (exacts.FinishedEarly count) piece) e = refl
    none (replies.ExactFailed (exacts.Read x) piece) e = refl
    none r e = refl

    other : (r : Reply) → is_taken r ≡ false → unsent-reset k (record_of side h c r) ≡ told-if (is_open h) (answers_reset k (turns.Call c) r)
    other r e = none r e ∙ sym (if-none (is_open h)) ∙ ap (told-if (is_open h)) (sym (resets-not k c r e))

    by : (s : Reply) → unsent-reset k (record_of side h c s) ≡ told-if (is_open h) (answers_reset k (turns.Call c) s)
    by replies.Done = done-resets side h k c
    by s = other s refl

-- a reset that counts goes out, while the connection is open
pub reset-goes : (side : Side) (h : History) (c : Call) (k : ℕ) → is_open h ≡ true → answers_reset k (turns.Call c) (first_row (rows_of side h c)).reply ≡ true
    → list_any (is_reset_of k) (first_row (rows_of side h c)).actions ≡ true
reset-goes side h (calls.ResetSend id code) k o e = by (has_sending side h id) (is_done h id) e
  where
    rows : Bool → Bool → Answer
    rows has done = first_row (row (not has) replies.NoStream [] ∷ row done replies.ClosedStream [] ∷ row true replies.Done (action_if (is_open h) (actions.ResetOut id code)) ∷ [])

    by : (has done : Bool) → answers_reset k (turns.Call (calls.ResetSend id code)) (rows has done).reply ≡ true → list_any (is_reset_of k) (rows has done).actions ≡ true
    by true false q = rw (o, q) refl
    by true true q = absurd (cc q)
    by false done q = absurd (cc q)
reset-goes side h c k o e = absurd (cc e)

-- ---- priorities

priority-aside : (k : ℕ) → Aside (priority_set k) None
priority-aside k = record { polled = refl; started = λ r i. refl; response = λ a i. refl; over = refl; failed = refl }

sets-not : (k : ℕ) (c : Call) (r : Reply) → is_taken r ≡ false → priority_by k (turns.Call c) r ≡ None
sets-not k (calls.SetPriority id p) replies.Done e = absurd (cc e)
sets-not k (calls.SetPriority id p) r e = refl
sets-not k c r e = refl

done-sets : (side : Side) (h : History) (k : ℕ) (c : Call) → is_done h k ≡ false → priority_set k (done_record side h c) ≡ priority_by k (turns.Call c) replies.Done
done-sets side h k (calls.SetPriority id p) d = by (id == k) refl (is_done h id) refl
  where
    by : (b : Bool) → (id == k) ≡ b → (x : Bool) → is_done h id ≡ x → priority_set k (if x then Polled else PrioritySet id p) ≡ (if b then Some p else None)
    by true e true f = absurd (let q : is_done h k ≡ true = ap (is_done h) (sym (eqb-true id k e)) ∙ f in cc (sym q ∙ d))
    by true e false f = ap (λ (b : Bool). if b then Some p else None) e
    by false e true f = refl
    by false e false f = ap (λ (b : Bool). if b then Some p else None) e
done-sets side h k (calls.ResetSend id code) d = either (priority_set k) None (is_open h) Polled (ResetUnsent id code) refl refl
done-sets side h k (calls.EndSession name) d = either (priority_set k) None (is_open h) (RequestRejected _) Polled refl refl
done-sets side h k c d = refl

-- of a half that isn't done
pub priority-by : (side : Side) (h : History) (c : Call) (k : ℕ) → is_done h k ≡ false → (r : Reply) → priority_set k (record_of side h c r) ≡ priority_by k (turns.Call c) r
priority-by side h c k d replies.Done = done-sets side h k c d
priority-by side h c k d replies.Pending = pending-aside (priority_set k) None (priority-aside k) c ∙ sym (sets-not k c replies.Pending refl)
priority-by side h c k d (replies.Failed e) = failure-aside (priority_set k) None (priority-aside k) c ∙ sym (sets-not k c (replies.Failed e) refl)
priority-by side h c k d (replies.Read (Some (b ∷ bytes))) = sym (sets-not k c (replies.Read (Some (b ∷ bytes))) refl)
priority-by side h c k d (replies.Read (Some [])) = sym (sets-not k c (replies.Read (Some [])) refl)
priority-by side h c k d (replies.Read None) = sym (sets-not k c (replies.Read None) refl)
priority-by side h c k d (replies.ExactFailed (exacts.FinishedEarly count) piece) = sym (sets-not k c (replies.ExactFailed (exacts.FinishedEarly count) piece) refl)
priority-by side h c k d (replies.ExactFailed (exacts.Read e) piece) = sym (sets-not k c (replies.ExactFailed (exacts.Read e) piece) refl)
priority-by side h c k d r = sym (sets-not k c r refl)

-- ---- reads

read-aside : (k : ℕ) → Aside (bytes_read k) 0
read-aside k = record { polled = refl; started = λ r i. refl; response = λ a i. refl; over = refl; failed = refl }

done-reads-not : (side : Side) (h : History) (k : ℕ) (c : Call) → bytes_read k (done_record side h c) ≡ 0
done-reads-not side h k (calls.ResetSend id code) = either (bytes_read k) 0 (is_open h) Polled (ResetUnsent id code) refl refl
done-reads-not side h k (calls.SetPriority id p) = either (bytes_read k) 0 (is_done h id) Polled (PrioritySet id p) refl refl
done-reads-not side h k (calls.EndSession name) = either (bytes_read k) 0 (is_open h) (RequestRejected _) Polled refl refl
done-reads-not side h k c = refl

-- no bytes were read
abbrev gives_none : Reply → Bool
gives_none (replies.Read (Some piece)) = false
gives_none (replies.Exact piece) = false
gives_none (replies.ExactFailed e piece) = false
gives_none _ = true

-- the call reads
abbrev is_reader : Call → Bool
is_reader (calls.Read id size) = true
is_reader (calls.ReadExact id size) = true
is_reader _ = false

none-given : (c : Call) (r : Reply) → is_reader c ≡ false → suits c r ≡ true → gives_none r ≡ true
none-given c (replies.Read (Some piece)) n s = absurd (by c n s)
  where
    by : (c : Call) → is_reader c ≡ false → suits c (replies.Read (Some piece)) ≡ true → ⊥
    by (calls.Read id size) n s = cc n
    by (calls.ReadExact id size) n s = cc n
    by c n s = cc s
none-given c (replies.Exact piece) n s = absurd (by c n s)
  where
    by : (c : Call) → is_reader c ≡ false → suits c (replies.Exact piece) ≡ true → ⊥
    by (calls.Read id size) n s = cc n
    by (calls.ReadExact id size) n s = cc n
    by c n s = cc s
none-given c (replies.ExactFailed e piece) n s = absurd (by c n s)
  where
    by : (c : Call) → is_reader c ≡ false → suits c (replies.ExactFailed e piece) ≡ true → ⊥
    by (calls.Read id size) n s = cc n
    by (calls.ReadExact id size) n s = cc n
    by c n s = cc s
none-given c (replies.Read None) n s = refl
none-given c r n s = refl

usual-reads-not : (side : Side) (h : History) (k : ℕ) (c : Call) (r : Reply) → gives_none r ≡ true → bytes_read k (record_of side h c r) ≡ 0
usual-reads-not side h k c replies.Done u = done-reads-not side h k c
usual-reads-not side h k c replies.Pending u = pending-aside (bytes_read k) 0 (read-aside k) c
usual-reads-not side h k c (replies.Failed e) u = failure-aside (bytes_read k) 0 (read-aside k) c
usual-reads-not side h k c (replies.Read None) u = refl
usual-reads-not side h k c (replies.Read (Some piece)) u = absurd (cc u)
usual-reads-not side h k c (replies.Exact piece) u = absurd (cc u)
usual-reads-not side h k c (replies.ExactFailed e piece) u = absurd (cc u)
usual-reads-not side h k c r u = refl

-- so many bytes, where the test holds
if-length : (b : Bool) (piece : List ℕ) → length (if b then piece else []) ≡ (if b then length piece else 0)
if-length true piece = refl
if-length false piece = refl

abbrev nil : List ℕ
nil = []

if-empty : (b : Bool) → length (if b then nil else nil) ≡ 0
if-empty true = refl
if-empty false = refl

read-tells : (side : Side) (h : History) (k id size : ℕ) (r : Reply) → suits (calls.Read id size) r ≡ true
    → length (read_by k (turns.Call (calls.Read id size)) r) ≡ bytes_read k (record_of side h (calls.Read id size) r)
read-tells side h k id size (replies.Read (Some (b ∷ bytes))) s = if-length (id == k) (b ∷ bytes)
read-tells side h k id size (replies.Read (Some [])) s = if-empty (id == k)
read-tells side h k id size (replies.Exact piece) s = absurd (cc s)
read-tells side h k id size (replies.ExactFailed e piece) s = absurd (cc s)
read-tells side h k id size (replies.Read None) s = refl
read-tells side h k id size r s = refl

exact-tells : (side : Side) (h : History) (k id size : ℕ) (r : Reply) → suits (calls.ReadExact id size) r ≡ true
    → length (read_by k (turns.Call (calls.ReadExact id size)) r) ≡ bytes_read k (record_of side h (calls.ReadExact id size) r)
exact-tells side h k id size (replies.Exact piece) s = if-length (id == k) piece
exact-tells side h k id size (replies.ExactFailed (exacts.FinishedEarly count) piece) s = if-length (id == k) piece
exact-tells side h k id size (replies.ExactFailed (exacts.Read e) []) s = if-empty (id == k)
exact-tells side h k id size (replies.ExactFailed (exacts.Read e) (b ∷ bytes)) s = absurd (cc s)
exact-tells side h k id size (replies.Read (Some piece)) s = absurd (cc s)
exact-tells side h k id size (replies.Read None) s = refl
exact-tells side h k id size r s = refl

-- how many bytes were read
pub read-as : (side : Side) (h : History) (c : Call) (k : ℕ) (r : Reply) → suits c r ≡ true → length (read_by k (turns.Call c) r) ≡ bytes_read k (record_of side h c r)
read-as side h (calls.Read id size) k r s = read-tells side h k id size r s
read-as side h (calls.ReadExact id size) k r s = exact-tells side h k id size r s
read-as side h c k r s = sym (usual-reads-not side h k c r (none-given c r refl s))

-- ---- sessions that calls make gone

end-aside : (s : ℕ) → Aside (ends_session s) false
end-aside s = record { polled = refl; started = λ r i. refl; response = λ a i. refl; over = refl; failed = refl }

-- the call ends a session
abbrev is_end : Call → Bool
is_end (calls.EndSession name) = true
is_end _ = false

gone-not : (h : History) (c : Call) (r : Reply) → is_end c ≡ false → is_rejected r ≡ false → gone_in h (turns.Call c) r ≡ None
gone-not h c replies.Rejected n m = absurd (cc m)
gone-not h (calls.EndSession name) r n m = absurd (cc n)
gone-not h c r n m = refl

done-ends-not : (side : Side) (h : History) (s : ℕ) (c : Call) → is_end c ≡ false → ends_session s (done_record side h c) ≡ false
done-ends-not side h s (calls.ResetSend id code) n = either (ends_session s) false (is_open h) Polled (ResetUnsent id code) refl refl
done-ends-not side h s (calls.SetPriority id p) n = either (ends_session s) false (is_done h id) Polled (PrioritySet id p) refl refl
done-ends-not side h s (calls.EndSession name) n = absurd (cc n)
done-ends-not side h s c n = refl

ends-not : (side : Side) (h : History) (s : ℕ) (c : Call) (r : Reply) → is_end c ≡ false → is_rejected r ≡ false → ends_session s (record_of side h c r) ≡ false
ends-not side h s c replies.Rejected n m = absurd (cc m)
ends-not side h s c replies.Done n m = done-ends-not side h s c n
ends-not side h s c replies.Pending n m = pending-aside (ends_session s) false (end-aside s) c
ends-not side h s c (replies.Failed e) n m = failure-aside (ends_session s) false (end-aside s) c
ends-not side h s c (replies.Read (Some (b ∷ bytes))) n m = refl
ends-not side h s c (replies.Read (Some [])) n m = refl
ends-not side h s c (replies.Read None) n m = refl
ends-not side h s c (replies.ExactFailed (exacts.FinishedEarly count) piece) n m = refl
ends-not side h s c (replies.ExactFailed (exacts.Read e) piece) n m = refl
ends-not side h s c r n m = refl

-- a rejection is that of a request that was given
abbrev spared : Reply → Bool
spared r = not (is_rejected r)

rejects-some : (side : Side) (h : History) (o : Option Call) → (first_row (poll_rows side h o)).reply ≡ replies.Rejected → (d : Call) × (o ≡ Some d) × (is_response d ≡ true)
rejects-some side h None e = absurd (cc e)
rejects-some side h (Some (calls.Connect options lookup outcome)) e =
    absurd (let q = (connect-passes spared refl (λ e. refl) (λ n. refl) side h (target_of (parse_url None options.0) options.1 lookup outcome)).first in let r : false ≡ true = ap spared (sym e) ∙ q in
    cc r)
rejects-some side h (Some (calls.Accept headers)) e = (calls.Accept headers, refl, refl)
rejects-some side h (Some calls.Forbidden) e = (calls.Forbidden, refl, refl)
rejects-some side h (Some calls.NotFound) e = (calls.NotFound, refl, refl)
rejects-some side h (Some calls.TooManyRequests) e = (calls.TooManyRequests, refl, refl)
rejects-some side h (Some c) e = absurd (cc e)

-- a response is polled, and is no connect
response-polls : (c : Call) → is_response c ≡ true → (polls (turns.Call c) ≡ true) × (begins c ≡ true) × (is_connect c ≡ false)
response-polls (calls.Accept headers) r = (refl, refl, refl)
response-polls calls.Forbidden r = (refl, refl, refl)
response-polls calls.NotFound r = (refl, refl, refl)
response-polls calls.TooManyRequests r = (refl, refl, refl)
response-polls c r = absurd (cc r)

rejected-request : (side : Side) (h : History) (c : Call) → IsHistory side h → is_lawful side h (turns.Call c) ≡ true → (first_row (rows_of side h c)).reply ≡ replies.Rejected
    → (s : ℕ) × (last_request h ≡ Some s)
rejected-request side h c hist l e = by (rejecting c (ap (fits c) (sym e) ∙ fits-own side h c))
  where
    by : Rejecting c → (s : ℕ) × (last_request h ≡ Some s)
    by (AResponse r) =
        let p = response-polls c r in
        response-request side h (turns.Call c) c hist l p.0 (ap (λ (b : Bool). option_or (if b then Some c else None) (last_begun h)) p.1) p.2
    by (APolled q) =
        let d = rejects-some side h (last_begun h) (ap (λ (x : Call). (first_row (rows_of side h x)).reply) (sym q) ∙ e) in
        response-request side h (turns.Call calls.Handshake) d.0 hist (ap (λ (x : Call). is_lawful side h (turns.Call x)) (sym q) ∙ l) refl d.1 (response-polls d.0 d.2).2

pub ended-by : (side : Side) (h : History) (c : Call) → IsHistory side h → is_lawful side h (turns.Call c) ≡ true → (s : ℕ)
    → ends_session s (record_of side h c (first_row (rows_of side h c)).reply) ≡ is_number s (gone_in h (turns.Call c) (first_row (rows_of side h c)).reply)
ended-by side h c hist l s = by c refl
  where
    -- the session that is named is ended, while the connection is open
    named-ends : (name x : Option ℕ) → named h name ≡ x → (o : Bool) → is_open h ≡ o
        → ends_session s (record_of side h (calls.EndSession name) (first_row (rows_of side h (calls.EndSession name))).reply)
        ≡ is_number s (gone_in h (turns.Call (calls.EndSession name)) (first_row (rows_of side h (calls.EndSession name))).reply)
    named-ends name None e true f = rw (e, f, e) refl
    named-ends name None e false f = rw (e, f) refl
    named-ends name (Some t) e true f = rw (e, f, e) refl
    named-ends name (Some t) e false f = rw (e, f) refl

    other : (r : Reply) → is_end c ≡ false → (first_row (rows_of side h c)).reply ≡ r → ends_session s (record_of side h c r) ≡ is_number s (gone_in h (turns.Call c) r)
    other replies.Rejected n e = let q = rejected-request side h c hist l e in rw q.1 refl
    other r n e = ends-not side h s c r n refl ∙ sym (ap (is_number s) (gone-not h c r n refl))

    by : (d : Call) → c ≡ d → ends_session s (record_of side h c (first_row (rows_of side h c)).reply) ≡ is_number s (gone_in h (turns.Call c) (first_row (rows_of side h c)).reply)
    by (calls.EndSession name) e = rw e (named-ends name (named h name) refl (is_open h) refl)
    by d e = other (first_row (rows_of side h c)).reply (ap is_end e) refl
