-- The rows of every call give the reply of its first cause.
use Rattle.std.specs.Prelude.{[], ◌%◌, ◌&&◌, ◌+◌, ◌-◌, ◌/◌, ◌==◌, ◌∷◌, ◌||◌, ◌≡◌, Bool, List, None, Option, Result, Some, false, if◌then◌else◌, is_some, length, nat_le, nat_lt, not, suc, take, true, zero, ℕ}
use Rattle.std.proofs.Common.{◌∙◌, ap, length-append, refl, sym}
use Rattle.std.proofs.Math.Dec.{eqb-suc-suc, eqb-suc-zero, eqb-zero-suc, leb-suc-suc, leb-suc-zero, leb-zero}
use Rattle.url.specs.Parser.{parse_url}
use Rattle.url.specs.Parts.{Parts}
use Rattle.url.specs.declared.error.ParseError.{ParseError}
use Rattle.wt_wire.specs.HeaderList.{Fields}
use Rattle.wt_wire.specs.declared.lookup.ConnectOutcome.{ConnectOutcome}
use Rattle.wt_wire.specs.declared.lookup.Lookup.{Lookup}
use Rattle.wt_meaning.specs.Calls.{being_opened, first_datagram, in_session, is_living, open_stream, opening_for, payload_limit, refused_by, rows_of, send_datagram, session_error, stream_header}
use Rattle.wt_meaning.specs.Halves.{has_receiving, has_sending, is_fin, priority_by, priority_of, reset_code, sent_now, stopped_rows, unread, where_has, write_rows}
use Rattle.wt_meaning.specs.Handshakes.{begin_rows, head_left, is_nothing, lacks_credit, last_begun, send, transport_error}
use Rattle.wt_meaning.specs.History.{History, Pair, credit_left, events, is_given_up, is_handed_out, is_open, is_reset, next_id, was_finished}
use Rattle.wt_meaning.specs.Meaning.{next}
use Rattle.wt_meaning.specs.Moments.{findings}
use Rattle.wt_meaning.specs.Rows.{Row, row, row_for}
use Rattle.wt_meaning.specs.Targets.{target_of}
use Rattle.wt_meaning.specs.Windows.{is_established, is_gone, named}
use Rattle.wt_message.specs.Datagram.{datagram_bytes}
use Rattle.wt_promise.proofs.ReadLaws.{same-left}
use Rattle.wt_promise.proofs.Aims.{Aim, Aimed, Refused, aim}
use Rattle.wt_promise.proofs.CauseLaws.{Caused, both-last, both-rows, both-some, both-wait, first-same, left-first, left-stream, same-driver, same-session, same-transport}
use Rattle.wt_promise.proofs.CauseShakes.{shakes-caused, skipped, wait-or}
use Rattle.wt_promise.proofs.HeadTests.{early, lacking, none-taken, something-beyond, same-begun}
use Rattle.wt_promise.proofs.Waiting.{named-established}
use Rattle.wt_promise.specs.Causes.{Cause, causes_of, gives_left, half_ends, is_over, of_half, of_named, opens, polls_opening, read_ends, reply_to, sets_priority, size_behind, unsent_by, when, from, writes_else}
use Rattle.wt_promise.specs.Connects.{refusal}
use Rattle.wt_promise.specs.Owed.{fits_credit}
use Rattle.wt_turn.specs.Reports.{datagram_fact, end_of, is_acknowledged, stop_of}
use Rattle.wt_turn.specs.Streams.{local_bi, local_uni, peer_bi, peer_uni}
use Rattle.wt_turn.specs.declared.action.Action.{Action}
use Rattle.wt_turn.specs.declared.call.Call.{Call}
use Rattle.wt_turn.specs.declared.datagram_fact.DatagramFact.{DatagramFact}
use Rattle.wt_turn.specs.declared.reply.Reply.{Reply}
use Rattle.wt_turn.specs.declared.stream_error.StreamReadError.{StreamReadError}
use Rattle.wt_turn.specs.declared.stream_error.StreamWriteError.{StreamWriteError}
use Rattle.wt_turn.specs.declared.turn.Turn.{Turn}
use Rattle.wt_wire.specs.Ids.{is_bidirectional}
use Rattle.wt_wire.specs.Varint.{varint_bytes}
use Rattle.wt_wire.specs.declared.side.Side.{Side}
use Rattle.wt_wire.specs.declared.side.StreamEnd.{StreamEnd}
use Rattle.wt_turn.specs.declared.call.Call.TheVariants as calls
use Rattle.wt_turn.specs.declared.datagram_fact.DatagramFact.TheVariants as facts
use Rattle.wt_turn.specs.declared.reply.Reply.TheVariants as replies
use Rattle.wt_turn.specs.declared.stream_error.SendDatagramError.TheVariants as datagrams
use Rattle.wt_turn.specs.declared.stream_error.StreamOpeningError.TheVariants as openings
use Rattle.wt_turn.specs.declared.stream_error.StreamReadError.TheVariants as reads
use Rattle.wt_turn.specs.declared.stream_error.StreamReadExactError.TheVariants as exacts
use Rattle.wt_turn.specs.declared.stream_error.StreamWriteError.TheVariants as writes
use Rattle.wt_turn.specs.declared.turn.Turn.TheVariants as turns
use Rattle.wt_wire.specs.declared.side.StreamEnd.TheVariants as ends

-- ---- calls on a session

both-named : (name : Option ℕ) {rows : ℕ → List Row} {causes : ℕ → List Cause} → ((s : ℕ) → name ≡ Some s → Caused (rows s) (causes s)) → Caused (in_session name rows) (of_named name causes)
both-named None f = record { first = refl }
both-named (Some s) f = record { first = (f s refl).first }

over : (e g o : Bool) → e ≡ true → not (e && not g && o) ≡ (g || not o)
over true true o q = refl
over true false o q = refl
over false g o q = absurd (cc q)

-- what is left is given, or the call fails
both-left : {T : Type 0} (side : Side) (h : History) (name : Option ℕ) (s : ℕ) (x y : Option T) (gives : T → Reply) → named h name ≡ Some s → x ≡ (if is_gone h (findings side h) s then None else y)
    → Caused (row_for x gives [] ∷ row (not (is_living side h s && is_open h)) (replies.Failed (session_error side h s)) [] ∷ []) (gives_left side h s (from y gives))
both-left side h name s x y gives m e =
    rw (e, sym (same-session side h s)) (by (is_gone h (findings side h) s) _)
  where
    by : (g : Bool) (r : Reply) → Caused (row_for (if g then None else y) gives [] ∷ row (not (is_living side h s && is_open h)) r [] ∷ []) ((if g then None else from y gives) ∷ when (is_over side h s) r ∷ [])
    by true r = record { first = (both-rows r [] (over (is_established h s) (is_gone h (findings side h) s) (is_open h) (named-established h name s m)) both-wait).first }
    by false r = both-some y gives [] (λ q. both-rows r [] (over (is_established h s) (is_gone h (findings side h) s) (is_open h) (named-established h name s m)) both-wait)

both-opens : (side : Side) (h : History) (kind s : ℕ) → Caused (open_stream side h kind s) (opens side h kind s)
both-opens side h kind s =
    rw (sym (same-session side h s), sym (same-transport h)) (both-rows _ [] refl (both-rows _ [] refl (both-rows (replies.Opening (next_id side h kind)) _ refl both-wait)))

over-open : (e g o : Bool) → e ≡ true → not (o && (e && not g)) ≡ (g || not o)
over-open true true true q = refl
over-open true true false q = refl
over-open true false true q = refl
over-open true false false q = refl
over-open false g o q = absurd (cc q)

both-opening : (side : Side) (h : History) (k : ℕ) (x : Option (Option ℕ)) → Caused (opening_for side h k x) (polls_opening side h k x)
both-opening side h k None = both-last replies.NoStream []
both-opening side h k (Some name) = both-named (named h name)
    (λ s m. both-rows (replies.OpeningFailed openings.NotConnected) [] (over-open (is_established h s) (is_gone h (findings side h) s) (is_open h) (named-established h name s m))
    (both-rows (replies.OpeningFailed openings.Refused) [] (early h k (stream_header k s))
    (wait-or (lacks_credit h k (head_left h k (stream_header k s))) (fits_credit h k (stream_header k s)) (if is_bidirectional k then replies.BiReady k else replies.SendReady k) _ _ (lacking h k (stream_header k s)))))

-- ---- datagrams

same-unsent : (n : ℕ) (o : Option DatagramFact) → refused_by n o ≡ unsent_by n o
same-unsent n None = refl
same-unsent n (Some facts.Disabled) = refl
same-unsent n (Some facts.Unsupported) = refl
same-unsent n (Some (facts.Limit limit)) = refl

both-datagram : (side : Side) (h : History) (payload : List ℕ) (name : Option ℕ) (s : ℕ) → named h name ≡ Some s → Caused (send_datagram side h payload s)
    (when (is_over side h s) (replies.DatagramFailed datagrams.NotConnected) ∷ from (unsent_by (length (varint_bytes (s / 4)) + length payload) (datagram_fact (events h))) replies.DatagramFailed ∷ Some replies.Done ∷ [])
both-datagram side h payload name s m =
    both-rows (replies.DatagramFailed datagrams.NotConnected) [] (over-open (is_established h s) (is_gone h (findings side h) s) (is_open h) (named-established h name s m))
    (rw (sym (length-append (varint_bytes (s / 4)) payload), sym (same-unsent (length (datagram_bytes (s / 4) payload)) (datagram_fact (events h)))) (both-some _ (λ e. replies.DatagramFailed e) [] (λ q. both-last replies.Done _)))

lt-not : (a b : ℕ) → nat_lt b a ≡ not (nat_le a b)
lt-not zero b = leb-suc-zero b ∙ sym (ap not (leb-zero b))
lt-not (suc a) zero = leb-suc-suc 0 a ∙ leb-zero a ∙ sym (ap not (leb-suc-zero a))
lt-not (suc a) (suc b) = leb-suc-suc (suc b) a ∙ lt-not a b ∙ sym (ap not (leb-suc-suc a b))

same-size : (n : ℕ) (o : Option DatagramFact) → payload_limit n o ≡ size_behind n o
same-size n None = refl
same-size n (Some facts.Disabled) = refl
same-size n (Some facts.Unsupported) = refl
same-size n (Some (facts.Limit limit)) = rw (lt-not n limit) (by (nat_le n limit))
  where
    by : (b : Bool) → ◌≡◌ {A = Option ℕ} (if not b then None else Some (limit - n)) (if b then Some (limit - n) else None)
    by true = refl
    by false = refl

-- ---- halves

both-sending : (side : Side) (h : History) (k : ℕ) {rows : List Row} {causes : List Cause} → Caused rows causes → Caused (where_has (has_sending side h k) rows) (of_half h k (peer_uni side) causes)
both-sending side h k later = both-rows replies.NoStream [] (by (is_handed_out h k) (k % 4 == peer_uni side)) later
  where
    by : (a b : Bool) → not (a && not b) ≡ (not a || b)
    by true true = refl
    by true false = refl
    by false b = refl

both-receiving : (side : Side) (h : History) (k : ℕ) {rows : List Row} {causes : List Cause} → Caused rows causes
    → Caused (where_has (has_receiving side h k) rows) (of_half h k (local_uni side) (when (is_given_up h k) replies.NoStream ∷ causes))
both-receiving side h k later = by (is_handed_out h k) (k % 4 == local_uni side) (is_given_up h k) later
  where
    by : (a b g : Bool) {rows : List Row} {causes : List Cause} → Caused rows causes
        → Caused (row (not (a && not b && not g)) replies.NoStream [] ∷ rows) (when (not a || b) replies.NoStream ∷ when g replies.NoStream ∷ causes)
    by false b g c = record { first = refl }
    by true true g c = record { first = refl }
    by true false true c = record { first = refl }
    by true false false c = record { first = c.first }

both-writes : (h : History) (k : ℕ) {rows : List Row} {causes : List Cause} → Caused rows causes → Caused (write_rows h k rows) (writes_else h k causes)
both-writes h k later = both-rows _ [] refl (both-rows _ [] refl (both-some (stop_of (events h) k) _ [] (λ q. later)))

no-credit : (c : ℕ) → not (c == 0) ≡ nat_lt 0 c
no-credit zero = refl
no-credit (suc c) = ap not (eqb-suc-zero c) ∙ sym (leb-suc-suc 0 c ∙ leb-zero c)

both-write : (h : History) (k : ℕ) (bytes : List ℕ) (own : List Action)
    → Caused (row (is_nothing bytes) (replies.Written 0) [] ∷ row (not (credit_left h k == 0)) (replies.Written (sent_now h k bytes)) own ∷ [])
    (when (length bytes == 0 || nat_lt 0 (credit_left h k)) (replies.Written (length (take (credit_left h k) bytes))) ∷ [])
both-write h k [] own = record { first = ap (λ (xs : List ℕ). replies.Written (length xs)) (sym (none-taken (credit_left h k))) }
both-write h k (x ∷ xs) own = rw (eqb-suc-zero (length xs), sym (no-credit (credit_left h k))) (skipped (both-rows _ own refl both-wait))

take-all : (c : ℕ) (xs : List ℕ) → (length (take c xs) == length xs) ≡ nat_le (length xs) c
take-all zero [] = refl
take-all zero (x ∷ xs) = eqb-zero-suc (length xs) ∙ sym (leb-suc-zero (length xs))
take-all (suc c) [] = sym (leb-zero (suc c))
take-all (suc c) (x ∷ xs) = eqb-suc-suc (length (take c xs)) (length xs) ∙ take-all c xs ∙ sym (leb-suc-suc (length xs) c)

take-some : (c : ℕ) (xs : List ℕ) → nat_le (length xs) c ≡ false → length (take c xs) ≡ c
take-some zero xs e = refl
take-some (suc c) [] e = absurd (let q : true ≡ false = sym (leb-zero (suc c)) ∙ e in cc q)
take-some (suc c) (x ∷ xs) e = ap suc (take-some c xs (sym (leb-suc-suc (length xs) c) ∙ e))

both-write-all : (c : ℕ) (xs : List ℕ) (own last : List Action)
    → Caused (row (length (take c xs) == length xs) replies.AllWritten own ∷ row true (replies.Count (length (take c xs))) last ∷ []) (when (nat_le (length xs) c) replies.AllWritten ∷ Some (replies.Count c) ∷ [])
both-write-all c xs own last = rw (take-all c xs) (by (nat_le (length xs) c) refl)
  where
    by : (b : Bool) → nat_le (length xs) c ≡ b → Caused (row b replies.AllWritten own ∷ row true (replies.Count (length (take c xs))) last ∷ []) (when b replies.AllWritten ∷ Some (replies.Count c) ∷ [])
    by true e = record { first = refl }
    by false e = record { first = ap replies.Count (take-some c xs e) }

both-ends : (h : History) (k : ℕ) (failed : StreamWriteError → Reply) (settled : Reply) → Caused (stopped_rows h k failed settled) (half_ends h k failed settled)
both-ends h k failed settled = both-some (stop_of (events h) k) _ [] (λ q. both-rows settled [] refl (both-rows _ [] refl both-wait))

half-ends : (o d : Bool) (stop : Option ℕ) (gives : ℕ → Reply) (settled failed : Reply)
    → Caused (row_for stop gives [] ∷ row d settled [] ∷ row (not o) failed [] ∷ []) (from stop gives ∷ when d settled ∷ when (not o) failed ∷ [])
half-ends o d stop gives settled failed = both-some stop gives [] (λ q. both-rows {b = d} settled [] refl (both-rows {b = not o} failed [] refl both-wait))

-- (the first finish waits, as no cause holds)
both-finish : (o f r a : Bool) (stop : Option ℕ) (gives : ℕ → Reply) (settled failed : Reply) (own : List Action)
    → Caused (row (o && not (f || r) && not (is_some stop)) replies.Pending own ∷ row_for stop gives [] ∷ row (r || (f && a)) settled [] ∷ row (not o) failed [] ∷ [])
    (from stop gives ∷ when (r || (f && a)) settled ∷ when (not o) failed ∷ [])
both-finish true false false a None gives settled failed own = record { first = refl }
both-finish true false false a (Some c) gives settled failed own = record { first = refl }
both-finish true true r a stop gives settled failed own = skipped (half-ends true (r || a) stop gives settled failed)
both-finish true false true a stop gives settled failed own = skipped (half-ends true true stop gives settled failed)
both-finish false f r a stop gives settled failed own = skipped (half-ends false (r || (f && a)) stop gives settled failed)

same-priority : (k : ℕ) (turn : Turn) (r : Reply) → priority_by k turn r ≡ sets_priority k turn r
same-priority k (turns.Call (calls.SetPriority id p)) replies.Done = refl
same-priority k (turns.Call (calls.SetPriority id p)) r = refl
same-priority k turn r = refl

both-read-ends : (h : History) (end : StreamEnd) (fin : Reply) (failed : StreamReadError → Reply)
    → Caused (row (is_fin end) fin [] ∷ row_for (reset_code end) (λ (code : ℕ). failed (reads.Reset code)) [] ∷ row (not (is_open h)) (failed reads.NotConnected) [] ∷ []) (read_ends h end fin failed ∷ [])
both-read-ends h ends.Fin fin failed = record { first = refl }
both-read-ends h (ends.Reset code) fin failed = record { first = refl }
both-read-ends h ends.Running fin failed = skipped (skipped (both-rows (failed reads.NotConnected) [] refl both-wait))

both-read : (size : ℕ) (left : List ℕ) {rows : List Row} {causes : List Cause} → Caused rows causes
    → Caused (row (size == 0) (replies.Read (Some [])) [] ∷ row (not (is_nothing left)) (replies.Read (Some (take size left))) [] ∷ rows) (when (size == 0 || nat_lt 0 (length left)) (replies.Read (Some (take size left))) ∷ causes)
both-read zero left later = record { first = refl }
both-read (suc n) left later = rw (eqb-suc-zero n, sym (something-beyond 0 left)) (skipped (both-rows _ [] refl later))

-- ---- every call

begin-caused : (parsed : Result Parts ParseError) (headers : Fields) (lookup : Lookup) (outcome : ConnectOutcome) → Aim parsed headers lookup outcome
    → Caused (begin_rows (target_of parsed headers lookup outcome)) (from (refusal parsed lookup outcome) replies.ConnectFailed ∷ [])
begin-caused parsed headers lookup outcome (Refused e p q) = rw (p, q) (record { first = refl })
begin-caused parsed headers lookup outcome (Aimed url x p u q r f d) = rw (p, q) (record { first = refl })

pub call-caused : (side : Side) (h : History) (call : Call) → Caused (rows_of side h call) (causes_of side h call)
call-caused side h (calls.Connect options lookup outcome) = begin-caused (parse_url None options.0) options.1 lookup outcome (aim (parse_url None options.0) options.1 lookup outcome)
call-caused side h calls.Incoming = rw (sym (same-driver side h), sym (left-first side h)) (both-some _ _ [] (λ q. both-rows _ [] refl both-wait))
call-caused side h (calls.Accept headers) = shakes-caused side h (Some (calls.Accept headers))
call-caused side h calls.Forbidden = shakes-caused side h (Some calls.Forbidden)
call-caused side h calls.NotFound = shakes-caused side h (Some calls.NotFound)
call-caused side h calls.TooManyRequests = shakes-caused side h (Some calls.TooManyRequests)
call-caused side h calls.Handshake = rw (sym (same-begun h)) (shakes-caused side h (last_begun h))
call-caused side h (calls.EndpointClose code reason) = both-last replies.Done _
call-caused side h (calls.AcceptUni name) = both-named (named h name) (λ s m. both-left side h name s _ _ replies.Uni m (left-stream side h (peer_uni side) s))
call-caused side h (calls.AcceptBi name) = both-named (named h name) (λ s m. both-left side h name s _ _ replies.Bi m (left-stream side h (peer_bi side) s))
call-caused side h (calls.ReceiveDatagram name) = both-named (named h name) (λ s m. both-left side h name s (first_datagram side h s) _ replies.Datagram m refl)
call-caused side h (calls.OpenUni name) = both-named (named h name) (λ s m. both-opens side h (local_uni side) s)
call-caused side h (calls.OpenBi name) = both-named (named h name) (λ s m. both-opens side h (local_bi side) s)
call-caused side h (calls.PollOpening id) = both-named (named h None) (λ s m. both-opening side h id (being_opened h id))
call-caused side h (calls.SendDatagram payload name) = both-named (named h name) (λ s m. both-datagram side h payload name s m)
call-caused side h (calls.EndSession name) = both-named (named h name) (λ s m. both-last replies.Done _)
call-caused side h (calls.MaxDatagramSize name) =
    both-named (named h name) (λ s m. rw (sym (same-size (length (varint_bytes (s / 4))) (datagram_fact (events h)))) (both-last (replies.Size (payload_limit (length (varint_bytes (s / 4))) (datagram_fact (events h)))) []))
call-caused side h (calls.SessionId name) = both-named (named h name) (λ s m. both-last (replies.Id s) [])
call-caused side h (calls.Close code reason) = both-named (named h None) (λ s m. both-last replies.Done _)
call-caused side h calls.Closed = both-named (named h None) (λ s m. rw (sym (same-transport h)) (both-rows (replies.Closed (transport_error h)) [] refl both-wait))
call-caused side h (calls.Write id bytes) = both-sending side h id (both-writes h id (both-write h id bytes (send h id bytes)))
call-caused side h (calls.WriteAll id bytes) = both-sending side h id (both-writes h id (both-write-all (credit_left h id) bytes (send h id bytes) (send h id bytes)))
call-caused side h (calls.Finish id) =
    both-sending side h id (both-finish (is_open h) (was_finished h id) (is_reset h id) (is_acknowledged (events h) id) (stop_of (events h) id) _ replies.Finished (replies.WriteFailed writes.NotConnected) _)
call-caused side h (calls.Stopped id) = both-sending side h id (both-ends h id (λ e. replies.StoppedBy e) (replies.StoppedBy writes.Closed))
call-caused side h (calls.Priority id) =
    both-sending side h id (both-rows replies.ClosedStream [] refl
    (rw (sym (first-same (λ (p : Pair). priority_by id p.turn p.answer.reply) (λ (p : Pair). sets_priority id p.turn p.answer.reply) (λ p. same-priority id p.turn p.answer.reply) h)) (both-last (replies.Priority (priority_of h id)) [])))
call-caused side h (calls.SetPriority id p) = both-sending side h id (both-last replies.Done [])
call-caused side h (calls.ResetSend id code) = both-sending side h id (both-rows replies.ClosedStream [] refl (both-last replies.Done _))
call-caused side h (calls.Read id size) = rw (sym (same-left side h id)) (both-receiving side h id (both-read size (unread side h id) (both-read-ends h (end_of (events h) id) (replies.Read None) replies.ReadFailed)))
call-caused side h (calls.ReadExact id size) =
    rw (sym (same-left side h id)) (both-receiving side h id (both-rows (replies.Exact (take size (unread side h id))) [] refl
    (both-read-ends h (end_of (events h) id) (replies.ExactFailed (exacts.FinishedEarly (length (unread side h id))) (unread side h id)) (λ (e : StreamReadError). replies.ExactFailed (exacts.Read e) []))))
call-caused side h (calls.StopRecv id code) = both-receiving side h id (both-last replies.Done _)

pub replies-caused : (side : Side) (h : History) (turn : Turn) → (next side h turn).reply ≡ reply_to side h turn
replies-caused side h (turns.Call call) = (call-caused side h call).first
replies-caused side h turn = refl
