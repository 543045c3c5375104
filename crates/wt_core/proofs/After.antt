-- What the application has after a call, by the call's reply: one law for all calls, from what each of them records.
use Rattle.std.proofs.Common.{◌∙◌, ap, arith, refl, subst, sym}
use Rattle.std.proofs.lemmas.Bool.{eqb-true}
use Rattle.std.specs.List.{list_any}
use Rattle.std.specs.Prelude.{[], ◌%◌, ◌&&◌, ◌*◌, ◌+◌, ◌<◌, ◌/◌, ◌==◌, ◌||◌, ◌∷◌, ◌≡◌, Bool, List, None, Option, Some, false, if◌then◌else◌, length, nat_lt, not, take, true, unwrap_or, ℕ, ℤ}
use Rattle.wt_message.specs.Datagram.{datagram_bytes}
use Rattle.wt_core.proofs.Logged.{calls-logged, first-logged}
use Rattle.wt_core.proofs.Records.{end-step, is_quiet, quiet-step, stop-step}
use Rattle.wt_core.proofs.Streams.{both-step, failed-step, send-step, start-step, started, uni-step, bi-step}
use Rattle.wt_core.proofs.Waiting.{stream_waits}
use Rattle.wt_core.specs.Held.{Held, Holds, HoldsCalls, accepted, begun, is_own, opening_in, polled, stopped}
use Rattle.wt_turn.specs.Joined.{send_of}
use Rattle.wt_turn.specs.Outgoing.{actions_to_open, bytes_within_credit, if_open, may_open, next_id}
use Rattle.wt_turn.specs.Reports.{datagram_fact, end_of}
use Rattle.wt_turn.specs.Streams.{local_bi, local_uni, peer_bi, peer_uni}
use Rattle.wt_sessions.specs.Answers.{in_session, is_first, named_session}
use Rattle.wt_sessions.specs.Connection.{accept_stream, datagram_allowed, datagram_within, end_session, give_datagram, give_stream, next_datagram, next_stream, open_stream, opening_session, poll_for, receive_datagram, send_datagram, send_header, session_end_actions, starts_opening, stream_header}
use Rattle.wt_sessions.specs.Driver.{accepts_stream, is_living, is_session_gone}
use Rattle.wt_sessions.specs.Effect.{Effect, head_left, is_covered, log_call, pending_or_failed, poll_only, poll_sending, reply_with, session_error, transport_error}
use Rattle.wt_sessions.specs.Halves.{exact_at_end, has_receiving_half, is_done, on_half, read, read_exact, read_reply, reply_at_end, reset, set_priority, stop_receiving, take_bytes, unread_body, write_by}
use Rattle.wt_sessions.specs.Handshake.{Answered, handshake_state, is_refused, requested_stream}
use Rattle.wt_sessions.specs.StreamTable.{Admitted, Waiting}
use Rattle.wt_turn.specs.Log.{BytesRead, CallRecord, DatagramReceived, Log, OpeningFailed, OpeningStarted, Polled, PrioritySet, RequestRejected, ResetUnsent, StreamAccepted, StreamGivenUp, calls_of, events_of, is_open}
use Rattle.wt_turn.specs.declared.action.Action.{Action}
use Rattle.wt_turn.specs.declared.action.Action.TheVariants as actions
use Rattle.wt_turn.specs.declared.datagram_fact.DatagramFact.{DatagramFact}
use Rattle.wt_turn.specs.declared.datagram_fact.DatagramFact.TheVariants as facts
use Rattle.wt_turn.specs.declared.reply.Reply.{Reply}
use Rattle.wt_turn.specs.declared.reply.Reply.TheVariants as replies
use Rattle.wt_turn.specs.declared.stream_error.StreamOpeningError.{StreamOpeningError}
use Rattle.wt_turn.specs.declared.stream_error.StreamOpeningError.TheVariants as openings
use Rattle.wt_turn.specs.declared.stream_error.StreamWriteError.{StreamWriteError}
use Rattle.wt_turn.specs.declared.stream_error.StreamReadExactError.TheVariants as exacts
use Rattle.wt_wire.specs.Ids.{is_bidirectional}
use Rattle.wt_wire.specs.declared.side.Side.{Side}
use Rattle.wt_wire.specs.declared.side.StreamEnd.{StreamEnd}
use Rattle.wt_wire.specs.declared.side.StreamEnd.TheVariants as ends
use Rattle.wt_wire.specs.declared.side.Side.TheVariants.{Client, Server}

-- an effect leads from what is held to what is held after it, and something happened
pub record LeadsTo (side : Side) (change : Reply → Held → Held) (h : Held) (log : Log) (effect : Effect) : Type 0 where
  pub held : Holds side (change effect.reply h) effect.log
  pub happened : is_first effect.log ≡ false

-- ---- kinds of streams that this end opens

next-by : (n kind : ℕ) → kind < 4 → (4 * n + kind) % 4 ≡ kind
next-by n kind l = omega arith

pub next-uni : (side : Side) (n : ℕ) → (4 * n + local_uni side) % 4 ≡ local_uni side
next-uni Client n = next-by n 2 (omega arith)
next-uni Server n = next-by n 3 (omega arith)

pub next-bi : (side : Side) (n : ℕ) → (4 * n + local_bi side) % 4 ≡ local_bi side
next-bi Client n = next-by n 0 (omega arith)
next-bi Server n = next-by n 1 (omega arith)

pub own-uni : (side : Side) (k : ℕ) → k % 4 ≡ local_uni side → is_own side k ≡ true
own-uni Client k e = ap (λ (n : ℕ). n == 2 || n == 0) e
own-uni Server k e = ap (λ (n : ℕ). n == 3 || n == 1) e

pub own-bi : (side : Side) (k : ℕ) → k % 4 ≡ local_bi side → is_own side k ≡ true
own-bi Client k e = ap (λ (n : ℕ). n == 2 || n == 0) e
own-bi Server k e = ap (λ (n : ℕ). n == 3 || n == 1) e

half : (k : ℕ) → k / 2 % 2 ≡ k % 4 / 2
half k = omega arith

bidirectional-by : (k r : ℕ) → k % 4 ≡ r → is_bidirectional k ≡ (r / 2 == 0)
bidirectional-by k r e = ap (λ (n : ℕ). n == 0) (half k) ∙ ap (λ (n : ℕ). n / 2 == 0) e

-- a stream of this end's is unidirectional or bidirectional, by its kind
by-kind : (k uni bi : ℕ) → (uni / 2 == 0) ≡ false → (bi / 2 == 0) ≡ true → (k % 4 == uni || k % 4 == bi) ≡ true → (b : Bool) → is_bidirectional k ≡ b → k % 4 ≡ (if b then bi else uni)
by-kind k uni bi nu nb o b e = by (k % 4 == uni) (k % 4 == bi) refl refl o
  where
    by : (p q : Bool) → (k % 4 == uni) ≡ p → (k % 4 == bi) ≡ q → (p || q) ≡ true → k % 4 ≡ (if b then bi else uni)
    by true q f g h = let l = eqb-true (k % 4) uni f in subst (λ (c : Bool). k % 4 ≡ (if c then bi else uni)) (sym nu ∙ sym (bidirectional-by k uni l) ∙ e) l
    by false true f g h = let l = eqb-true (k % 4) bi g in subst (λ (c : Bool). k % 4 ≡ (if c then bi else uni)) (sym nb ∙ sym (bidirectional-by k bi l) ∙ e) l
    by false false f g h = absurd cc

pub kind-of : (side : Side) (k : ℕ) → is_own side k ≡ true → (b : Bool) → is_bidirectional k ≡ b → k % 4 ≡ (if b then local_bi side else local_uni side)
kind-of Client k o b e = by-kind k 2 0 refl refl o b e
kind-of Server k o b e = by-kind k 3 1 refl refl o b e

module _ (side : Side) (log : Log) (h : Held) (x : Holds side h log) where
  -- a record that leads on
  pub recorded : (change : Reply → Held → Held) (own : List Action) (r : CallRecord) (reply : Reply) → HoldsCalls side (change reply h) (r ∷ calls_of log)
      → LeadsTo side change h log (reply_with (log_call side log own r) reply)
  recorded change own r reply y = record {
    held = subst (HoldsCalls side (change reply h)) (sym (calls-logged side log own r)) y;
    happened = first-logged side log own r;
  }

  -- a quiet record with a reply that changes nothing
  pub quietly : (change : Reply → Held → Held) (own : List Action) (r : CallRecord) (reply : Reply) → is_quiet r ≡ true → change reply h ≡ h → LeadsTo side change h log (reply_with (log_call side log own r) reply)
  quietly change own r reply q e = recorded change own r reply (subst (λ (g : Held). HoldsCalls side g (r ∷ calls_of log)) (sym e) (quiet-step side h (calls_of log) x r q))

  pub either : (change : Reply → Held → Held) (b : Bool) (e f : Effect) → LeadsTo side change h log e → LeadsTo side change h log f → LeadsTo side change h log (if b then e else f)
  either change true e f p q = p
  either change false e f p q = q

  pub of-half : (change : Reply → Held → Held) (b : Bool) (k : ℕ) (call : ℕ → Effect) → change replies.NoStream h ≡ h → LeadsTo side change h log (call k) → LeadsTo side change h log (on_half b side log call k)
  of-half change true k call n p = p
  of-half change false k call n p = quietly change [] Polled replies.NoStream refl n

  pub of-session : (change : Reply → Held → Held) (o : Option ℕ) (call : ℕ → Effect) → change replies.NoSession h ≡ h → ((s : ℕ) → o ≡ Some s → LeadsTo side change h log (call s)) → LeadsTo side change h log (in_session side log call o)
  of-session change None call n p = quietly change [] Polled replies.NoSession refl n
  of-session change (Some s) call n p = p s refl

  abbrev pub keeps : Reply → Held → Held
  keeps reply held = held

  -- ---- accepts

  uni-left : (s : ℕ) (o : Option Waiting) → ((w : Waiting) → o ≡ Some w → (w.id % 4 ≡ peer_uni side) × (list_any (accepts_stream w.id) (calls_of log) ≡ false)) → LeadsTo side accepted h log (give_stream side replies.Uni log s o)
  uni-left s None f = waits s
    where
      waits : (s : ℕ) → LeadsTo side accepted h log (poll_only side log (pending_or_failed side log s))
      waits s = by (is_open log && is_living side log s)
        where
          by : (b : Bool) → LeadsTo side accepted h log (poll_only side log (if b then replies.Pending else replies.Failed (session_error side log s)))
          by true = quietly accepted [] Polled replies.Pending refl refl
          by false = quietly accepted [] Polled (replies.Failed (session_error side log s)) refl refl
  uni-left s (Some w) f = recorded accepted [] (StreamAccepted w.id s) (replies.Uni w.id) (uni-step side h (calls_of log) x w.id s (f w refl).0 (f w refl).1)

  bi-left : (s : ℕ) (o : Option Waiting) → ((w : Waiting) → o ≡ Some w → (w.id % 4 ≡ peer_bi side) × (list_any (accepts_stream w.id) (calls_of log) ≡ false)) → LeadsTo side accepted h log (give_stream side replies.Bi log s o)
  bi-left s None f = waits s
    where
      waits : (s : ℕ) → LeadsTo side accepted h log (poll_only side log (pending_or_failed side log s))
      waits s = by (is_open log && is_living side log s)
        where
          by : (b : Bool) → LeadsTo side accepted h log (poll_only side log (if b then replies.Pending else replies.Failed (session_error side log s)))
          by true = quietly accepted [] Polled replies.Pending refl refl
          by false = quietly accepted [] Polled (replies.Failed (session_error side log s)) refl refl
  bi-left s (Some w) f = recorded accepted [] (StreamAccepted w.id s) (replies.Bi w.id) (bi-step side h (calls_of log) x w.id s (f w refl).0 (f w refl).1)

  pub uni-leads : (name : Option ℕ) → LeadsTo side accepted h log (in_session side log (accept_stream side replies.Uni (peer_uni side) log) (named_session log name))
  uni-leads name = of-session accepted (named_session log name) (accept_stream side replies.Uni (peer_uni side) log) refl (λ s e. uni-left s (next_stream side log (peer_uni side) s) (λ w f. stream_waits side log (peer_uni side) s w f))

  pub bi-leads : (name : Option ℕ) → LeadsTo side accepted h log (in_session side log (accept_stream side replies.Bi (peer_bi side) log) (named_session log name))
  bi-leads name = of-session accepted (named_session log name) (accept_stream side replies.Bi (peer_bi side) log) refl (λ s e. bi-left s (next_stream side log (peer_bi side) s) (λ w f. stream_waits side log (peer_bi side) s w f))

  -- ---- openings

  pub opens-leads : (kind : ℕ) (name : Option ℕ) → is_own side (next_id side log kind) ≡ true → list_any (starts_opening (next_id side log kind)) (calls_of log) ≡ false
      → LeadsTo side (begun name) h log (in_session side log (open_stream side log kind) (named_session log name))
  opens-leads kind name own fresh = of-session (begun name) (named_session log name) (open_stream side log kind) refl (λ s e.
      either (begun name) (is_session_gone side log s) _ _ (quietly (begun name) [] Polled (replies.Failed (session_error side log s)) refl refl)
      (either (begun name) (not (is_open log)) _ _ (quietly (begun name) [] Polled (replies.Failed (transport_error log)) refl refl)
      (either (begun name) (may_open side log kind) _ _
      (recorded (begun name) (actions_to_open side log kind) (OpeningStarted (next_id side log kind) s) (replies.Opening (next_id side log kind)) (starting name s e))
      (quietly (begun name) [] Polled replies.Pending refl refl))))
    where
      starting : (name : Option ℕ) (s : ℕ) → named_session log name ≡ Some s → HoldsCalls side (begun name (replies.Opening (next_id side log kind)) h) (OpeningStarted (next_id side log kind) s ∷ calls_of log)
      starting name s e =
          let k = next_id side log kind in
          subst (λ (o : Option ℕ). HoldsCalls side (record h { openings = λ j. if k == j then Some (unwrap_or o 0) else h.openings j }) (OpeningStarted k s ∷ calls_of log)) (sym (x.sessions name ∙ e))
          (start-step side h (calls_of log) x k s own fresh)

  header-left : (k s t : ℕ) (left : List ℕ) → opening_in (calls_of log) k ≡ Some t → LeadsTo side (polled k) h log (send_header side log k s left)
  header-left k s t left o = either (polled k) (is_covered log k left) _ _ (given (is_bidirectional k) refl) (quietly (polled k) (send_of k (bytes_within_credit log k left)) Polled replies.Pending refl refl)
    where
      given : (b : Bool) → is_bidirectional k ≡ b → LeadsTo side (polled k) h log (reply_with (log_call side log (send_of k left) (StreamAccepted k s)) (if b then replies.BiReady k else replies.SendReady k))
      given true e = recorded (polled k) (send_of k left) (StreamAccepted k s) (replies.BiReady k) (both-step side h (calls_of log) x k t s o (kind-of side k (x.own k (started side h (calls_of log) x k t o)) true e))
      given false e = recorded (polled k) (send_of k left) (StreamAccepted k s) (replies.SendReady k) (send-step side h (calls_of log) x k t s o (kind-of side k (x.own k (started side h (calls_of log) x k t o)) false e))

  failed-left : (k t : ℕ) (e : StreamOpeningError) → opening_in (calls_of log) k ≡ Some t → LeadsTo side (polled k) h log (reply_with (log_call side log [] (OpeningFailed k)) (replies.OpeningFailed e))
  failed-left k t e o = recorded (polled k) [] (OpeningFailed k) (replies.OpeningFailed e) (failed-step side h (calls_of log) x k t o)

  polled-left : (k : ℕ) (o : Option ℕ) → opening_session log k ≡ o → LeadsTo side (polled k) h log (poll_for side log k o)
  polled-left k None e = quietly (polled k) [] Polled replies.NoStream refl refl
  polled-left k (Some s) e =
      let left = head_left log k (stream_header k s) in
      either (polled k) (not (is_open log && is_living side log s)) _ _ (failed-left k s openings.NotConnected e)
      (either (polled k) (is_refused log k left) _ _ (failed-left k s openings.Refused e) (header-left k s s left e))

  pub polls-lead : (k : ℕ) → LeadsTo side (polled k) h log (in_session side log (λ s. poll_for side log k (opening_session log k)) (named_session log None))
  polls-lead k = of-session (polled k) (named_session log None) (λ s. poll_for side log k (opening_session log k)) refl (λ s e. polled-left k (opening_session log k) refl)

  -- ---- a session's end

  pub ends-lead : (name : Option ℕ) → ((s : ℕ) → named_session log name ≡ Some s → is_open log ≡ true → requested_stream (calls_of log) ≡ s → handshake_state (calls_of log) ≡ Answered)
      → LeadsTo side keeps h log (in_session side log (end_session side log) (named_session log name))
  ends-lead name answered = of-session keeps (named_session log name) (end_session side log) refl (λ s e. by s e (is_open log) refl)
    where
      by : (s : ℕ) → named_session log name ≡ Some s → (b : Bool) → is_open log ≡ b
          → LeadsTo side keeps h log (if b then reply_with (log_call side log (if is_living side log s then session_end_actions side log s else []) (RequestRejected s)) replies.Done else poll_only side log replies.Done)
      by s e true o = recorded keeps (if is_living side log s then session_end_actions side log s else []) (RequestRejected s) replies.Done (end-step side h (calls_of log) x s (answered s e o))
      by s e false o = quietly keeps [] Polled replies.Done refl refl

  -- ---- a half is given up

  pub stops-lead : (k code : ℕ) (b : Bool) → has_receiving_half side log k ≡ b → LeadsTo side (stopped k) h log (on_half b side log (λ j. stop_receiving side log j code) k)
  stops-lead k code false e = quietly (stopped k) [] Polled replies.NoStream refl refl
  stops-lead k code true e = recorded (stopped k) (if_open log (actions.StopOut k code)) (StreamGivenUp k) replies.Done (stop-step side h (calls_of log) x k (had (list_any (accepts_stream k) (calls_of log)) _ _ e))
    where
      had : (a b c : Bool) → (a && b && c) ≡ true → a ≡ true
      had true b c e = refl
      had false b c e = absurd cc

  -- ---- calls that change nothing

  pub polls : (own : List Action) (reply : Reply) → LeadsTo side keeps h log (poll_sending side log own reply)
  polls own reply = quietly keeps own Polled reply refl refl

  pub writes-lead : (reply : List ℕ → ℕ → Reply) (k : ℕ) (bytes : List ℕ) (o : Option StreamWriteError) → LeadsTo side keeps h log (write_by reply side log k bytes o)
  writes-lead reply k bytes (Some e) = polls [] _
  writes-lead reply k bytes None = polls (send_of k (bytes_within_credit log k bytes)) _

  pub resets-lead : (k code : ℕ) → LeadsTo side keeps h log (reset side log k code)
  resets-lead k code =
      either keeps (is_done log k) _ _ (polls [] replies.ClosedStream)
      (either keeps (is_open log) _ _ (polls (actions.ResetOut k code ∷ []) replies.Done) (quietly keeps [] (ResetUnsent k code) replies.Done refl refl))

  pub priorities-lead : (k : ℕ) (p : ℤ) → LeadsTo side keeps h log (set_priority side log k p)
  priorities-lead k p = either keeps (is_done log k) _ _ (polls [] replies.Done) (quietly keeps [] (PrioritySet k p) replies.Done refl refl)

  bytes-lead : (k : ℕ) (bytes : List ℕ) (reply : Reply) → LeadsTo side keeps h log (take_bytes side log k bytes reply)
  bytes-lead k bytes reply = quietly keeps [] (BytesRead k (length bytes)) reply refl refl

  read-left : (k size : ℕ) (bytes : List ℕ) → LeadsTo side keeps h log (read_reply side log k size bytes)
  read-left k size [] = polls [] (reply_at_end log (end_of (events_of log) k))
  read-left k size (b ∷ bytes) = bytes-lead k (take size (b ∷ bytes)) (replies.Read (Some (take size (b ∷ bytes))))

  pub reads-lead : (k size : ℕ) → LeadsTo side keeps h log (read side log k size)
  reads-lead k size = either keeps (size == 0) _ _ (polls [] (replies.Read (Some []))) (read-left k size (unread_body side log k))

  exact-left : (k : ℕ) (bytes : List ℕ) (end : StreamEnd) → LeadsTo side keeps h log (exact_at_end side log k bytes end)
  exact-left k bytes ends.Running = polls [] _
  exact-left k bytes ends.Fin = bytes-lead k bytes (replies.ExactFailed (exacts.FinishedEarly (length bytes)) bytes)
  exact-left k bytes (ends.Reset code) = polls [] _

  pub exacts-lead : (k size : ℕ) → LeadsTo side keeps h log (read_exact side log k size)
  exacts-lead k size =
      either keeps (nat_lt (length (unread_body side log k)) size) _ _ (exact-left k (unread_body side log k) (end_of (events_of log) k))
      (bytes-lead k (take size (unread_body side log k)) (replies.Exact (take size (unread_body side log k))))

  datagram-left : (s : ℕ) (o : Option Admitted) → LeadsTo side keeps h log (give_datagram side log s o)
  datagram-left s None = polls [] (pending_or_failed side log s)
  datagram-left s (Some d) = quietly keeps [] (DatagramReceived d.index) (replies.Datagram d.payload) refl refl

  pub receives-lead : (s : ℕ) → LeadsTo side keeps h log (receive_datagram side log s)
  receives-lead s = datagram-left s (next_datagram side log s)

  within-left : (bytes : List ℕ) (fact : DatagramFact) → LeadsTo side keeps h log (datagram_within side log bytes fact)
  within-left bytes facts.Disabled = polls [] _
  within-left bytes facts.Unsupported = polls [] _
  within-left bytes (facts.Limit limit) = either keeps (nat_lt limit (length bytes)) _ _ (polls [] _) (polls (actions.DatagramOut bytes ∷ []) replies.Done)

  allowed-left : (bytes : List ℕ) (o : Option DatagramFact) → LeadsTo side keeps h log (datagram_allowed side log bytes o)
  allowed-left bytes None = polls [] _
  allowed-left bytes (Some fact) = within-left bytes fact

  pub sends-lead : (payload : List ℕ) (s : ℕ) → LeadsTo side keeps h log (send_datagram side log payload s)
  sends-lead payload s = either keeps (is_open log && is_living side log s) _ _ (allowed-left (datagram_bytes (s / 4) payload) (datagram_fact (events_of log))) (polls [] _)
