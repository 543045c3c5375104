-- A turn of the transport keeps the relation, where its moment finds and sends alike.
use Rattle.std.specs.Prelude.{[], ◌&&◌, ◌*◌, ◌++◌, ◌+◌, ◌==◌, ◌∷◌, ◌||◌, ◌≡◌, ◌≤◌, Bool, List, None, Option, Some, false, filter_map, if◌then◌else◌, length, pos, suc, true, unwrap_or, zero, ℕ, ℤ}
use Rattle.std.specs.List.{cons_option, list_any}
use Rattle.std.specs.Option.{option_or}
use Rattle.std.proofs.Common.{◌∙◌, ap, arith, refl, subst, sym}
use Rattle.std.proofs.lemmas.Bool.{eqb-true}
use Rattle.std.proofs.lemmas.List.{append-nil}
use Rattle.wt_meaning.specs.Calls.{being_opened, opened_by, opening_ends}
use Rattle.wt_meaning.specs.Findings.{first_of}
use Rattle.wt_meaning.specs.Halves.{priority_by, read_by, was_read}
use Rattle.wt_meaning.specs.Handshakes.{begun_by, last_begun}
use Rattle.wt_meaning.specs.History.{History, Pair, actions_out, answers_reset, all_events, answers_stop, exists, is_given_up, is_open, is_reset, is_reset_of, stream_count}
use Rattle.wt_meaning.specs.Lawful.{fails_incoming, has_request, is_of_request, is_waiting, polls}
use Rattle.wt_meaning.specs.Meaning.{with_pair}
use Rattle.wt_meaning.specs.Moments.{findings, ids_from}
use Rattle.wt_meaning.specs.Rows.{answer}
use Rattle.wt_meaning.specs.Windows.{first_session, gone_in, is_established, named}
use Rattle.wt_promise.proofs.Actions.{opened-out, or-assoc}
use Rattle.wt_promise.proofs.Stays.{exists-stays}
use Rattle.wt_turn.specs.Arrivals.{event_entry}
use Rattle.wt_turn.specs.Joined.{join_all, newest_first}
use Rattle.wt_turn.specs.Sent as sends
use Rattle.wt_turn.specs.Streams.{one_more_if, peer_count, peer_opens}
use Rattle.wt_sessions.specs.Answers.{log_after}
use Rattle.wt_sessions.specs.Answers as answers
use Rattle.wt_sessions.specs.Connection.{opening_session}
use Rattle.wt_sessions.specs.Driver.{accepts_stream, apply_if, call_view, delivers, ends_session, flush, gives_up, is_moment, log_and_flush, members_of, pending_actions, receives, sessions_of, stream_table}
use Rattle.wt_sessions.specs.Driver as drivers
use Rattle.wt_sessions.specs.Halves as halves
use Rattle.wt_sessions.specs.Handshake.{awaits_answer, awaits_request, handshake_state, is_continuable, requested_stream}
use Rattle.wt_sessions.specs.StreamTable.{CallView, is_session}
use Rattle.wt_sessions_agree.proofs.Basics.{or-none, or-turned}
use Rattle.wt_sessions_agree.proofs.CameAgrees.{flushed, is_single, turn_agrees}
use Rattle.wt_sessions_agree.proofs.DoneStays.{done-before, told-resets}
use Rattle.wt_sessions_agree.proofs.OutLaws.{any-newest, same-out}
use Rattle.wt_sessions_agree.specs.Agrees.{Agrees, IsTable}
use Rattle.wt_sessions_agree.specs.Orderly.{Orderly, session_at}
use Rattle.wt_sessions_agree.specs.Stands.{BegunAgrees, CallsAgree, HalvesAgree, HandshakeAgrees, IsOpening, NotOpening, OpeningAgrees, SameOut, Stands, fails_opening}
use Rattle.wt_turn.specs.Log.{CallRecord, Called, Entry, Event, Log, ResetUnsent, Sent, actions_of, calls_of, events_of, with_actions}
use Rattle.wt_turn.specs.Log as logs
use Rattle.wt_turn.specs.Turns.{event_of, is_call}
use Rattle.wt_turn.specs.declared.action.Action.{Action}
use Rattle.wt_turn.specs.declared.call.Call.{Call}
use Rattle.wt_turn.specs.declared.turn.Turn.{Turn}
use Rattle.wt_wire.specs.declared.side.Side.{Side}
use Rattle.wt_turn.specs.declared.action.Action.TheVariants as actions
use Rattle.wt_turn.specs.declared.reply.Reply.TheVariants as replies
use Rattle.wt_turn.specs.declared.turn.Turn.TheVariants as turns

-- ---- what a turn of the transport isn't

no-gone : (h : History) (turn : Turn) → is_call turn ≡ false → gone_in h turn replies.Done ≡ None
no-gone h (turns.Call c) e = absurd (cc e)
no-gone h turn e = refl

no-stop : (k : ℕ) (turn : Turn) → is_call turn ≡ false → answers_stop k turn replies.Done ≡ false
no-stop k (turns.Call c) e = absurd (cc e)
no-stop k turn e = refl

no-reset : (k : ℕ) (turn : Turn) → is_call turn ≡ false → answers_reset k turn replies.Done ≡ false
no-reset k (turns.Call c) e = absurd (cc e)
no-reset k turn e = refl

no-read : (k : ℕ) (turn : Turn) → is_call turn ≡ false → read_by k turn replies.Done ≡ []
no-read k (turns.Call c) e = absurd (cc e)
no-read k turn e = refl

no-priority : (k : ℕ) (turn : Turn) → is_call turn ≡ false → priority_by k turn replies.Done ≡ None
no-priority k (turns.Call c) e = absurd (cc e)
no-priority k turn e = refl

no-opening : (k : ℕ) (turn : Turn) → is_call turn ≡ false → opened_by k turn replies.Done ≡ None
no-opening k (turns.Call c) e = absurd (cc e)
no-opening k turn e = refl

no-opening-end : (k : ℕ) (turn : Turn) → is_call turn ≡ false → opening_ends k turn replies.Done ≡ false
no-opening-end k (turns.Call c) e = absurd (cc e)
no-opening-end k turn e = refl

no-poll : (turn : Turn) → is_call turn ≡ false → polls turn ≡ false
no-poll (turns.Call c) e = absurd (cc e)
no-poll turn e = refl

no-request : (turn : Turn) → is_call turn ≡ false → is_of_request turn ≡ false
no-request (turns.Call c) e = absurd (cc e)
no-request turn e = refl

no-failure : (turn : Turn) → is_call turn ≡ false → fails_incoming turn replies.Done ≡ false
no-failure (turns.Call c) e = absurd (cc e)
no-failure turn e = refl

no-begin : (turn : Turn) → is_call turn ≡ false → begun_by turn ≡ None
no-begin (turns.Call c) e = absurd (cc e)
no-begin turn e = refl

-- ---- resets: those that went out, and those that calls made after the end

-- the record is a reset of the stream that sent nothing
abbrev pub unsent-reset : ℕ → CallRecord → Bool
unsent-reset k (ResetUnsent id code) = id == k
unsent-reset k _ = false

sent-resets : (k : ℕ) (a : Action) → sends.resets k (Sent a) ≡ is_reset_of k a
sent-resets k (actions.ResetOut id code) = refl
sent-resets k a = refl

called-resets : (k : ℕ) (r : CallRecord) → sends.resets k (Called r) ≡ unsent-reset k r
called-resets k (ResetUnsent id code) = refl
called-resets k r = refl

pub resets-apart : (k : ℕ) (log : Log) → sends.is_reset log k ≡ (list_any (is_reset_of k) (actions_of log) || list_any (unsent-reset k) (calls_of log))
resets-apart k [] = refl
resets-apart k (Sent a ∷ log) =
    ap (λ (b : Bool). b || sends.is_reset log k) (sent-resets k a) ∙ ap (λ (b : Bool). is_reset_of k a || b) (resets-apart k log)
    ∙ or-assoc (is_reset_of k a) (list_any (is_reset_of k) (actions_of log)) (list_any (unsent-reset k) (calls_of log))
resets-apart k (Called r ∷ log) =
    ap (λ (b : Bool). b || sends.is_reset log k) (called-resets k r) ∙ ap (λ (b : Bool). unsent-reset k r || b) (resets-apart k log)
    ∙ or-turned (unsent-reset k r) (list_any (is_reset_of k) (actions_of log)) (list_any (unsent-reset k) (calls_of log))
resets-apart k (logs.Received id byte ∷ log) = resets-apart k log
resets-apart k (logs.Reported event ∷ log) = resets-apart k log
resets-apart k (logs.ReportedLate event ∷ log) = resets-apart k log

-- ---- the established sessions, with more streams

-- an id behind these streams is none of theirs
behind : (h : History) (offset : ℕ → ℕ) (m i c : ℕ) → i + c ≤ m → list_any (is_session (4 * m)) (filter_map (session_at h offset) (ids_from 0 i c)) ≡ false
behind h offset m i zero le = refl
behind h offset m i (suc c) le = by (is_established h (4 * i + 0)) (behind h offset m (suc i) c (omega (arith, le)))
  where
    other : (4 * i + 0 == 4 * m) ≡ false
    other = differ (4 * i + 0 == 4 * m) refl
      where
        differ : (b : Bool) → (4 * i + 0 == 4 * m) ≡ b → b ≡ false
        differ false e = refl
        differ true e = let q : 4 * i + 0 ≡ 4 * m = eqb-true (4 * i + 0) (4 * m) e in absurd (omega (arith, q, le))

    by : (b : Bool) → list_any (is_session (4 * m)) (filter_map (session_at h offset) (ids_from 0 (suc i) c)) ≡ false
        → list_any (is_session (4 * m)) (cons_option (if b then Some (record { id = 4 * i + 0; offset = offset (4 * i + 0) }) else None) (filter_map (session_at h offset) (ids_from 0 (suc i) c)))
        ≡ false
    by true again = rw (other, again) refl
    by false again = again

-- so more streams are no sessions yet
pub more-ids : (h : History) (offset : ℕ → ℕ) (i c n : ℕ) → c ≤ n → ((m : ℕ) → i + c ≤ m → is_established h (4 * m + 0) ≡ false)
    → filter_map (session_at h offset) (ids_from 0 i n) ≡ filter_map (session_at h offset) (ids_from 0 i c)
more-ids h offset i zero zero le none = refl
more-ids h offset i (suc c) zero le none = absurd (omega (arith, le))
more-ids h offset i zero (suc n) le none =
    let e : is_established h (4 * i + 0) ≡ false = none i (omega arith) in
    ap (λ (b : Bool). cons_option (if b then Some (record { id = 4 * i + 0; offset = offset (4 * i + 0) }) else None) (filter_map (session_at h offset) (ids_from 0 (suc i) n))) e
    ∙ more-ids h offset (suc i) zero n (omega arith) (λ m l. none m (omega (arith, l)))
more-ids h offset i (suc c) (suc n) le none =
    ap (cons_option (session_at h offset (4 * i + 0))) (more-ids h offset (suc i) c n (omega (arith, le)) (λ m l. none m (omega (arith, l))))

-- ---- the relation after the turn

-- what calls did, by their records
abbrev pub view-of : List CallRecord → CallView
view-of rs = record {
  accepted = λ k. list_any (accepts_stream k) rs;
  received = λ n. list_any (receives n) rs;
  delivered = λ k. list_any (delivers k) rs;
  ended = λ s. list_any (ends_session s) rs;
  sessions = sessions_of rs;
  members = members_of rs;
}

module _ (side : Side) (offset : ℕ → ℕ) (h : History) (log : Log) (x : Stands side offset h log) (turn : Turn) (plain : is_call turn ≡ false) (xs : List Action) where
  -- the pair, and the history with it
  abbrev after : History
  after = with_pair h turn (answer replies.Done (join_all [] xs))

  same-named : (name : Option ℕ) → named after name ≡ named h name
  same-named None = or-none (first_session h)
  same-named (Some s) = refl

  -- no session is behind the streams
  none-behind : (m : ℕ) → stream_count side h 0 ≤ m → is_established h (4 * m + 0) ≡ false
  none-behind m le =
      let e : 4 * m + 0 ≡ 4 * m = omega arith in
      ap (is_established h) e ∙ sym (x.calls.established (4 * m))
      ∙ ap (list_any (is_session (4 * m))) x.sessions ∙ behind h offset m 0 (stream_count side h 0) (omega (arith, le))

  pub count-after : stream_count side h 0 ≤ stream_count side after 0
  count-after =
      let l = opened-out 0 (join_all [] xs) (actions_out h) in
      let p = peers (event_of turn) in omega (arith, l, p)
    where
      more : (b : Bool) (n : ℕ) → n ≤ one_more_if b n
      more true n = omega arith
      more false n = omega arith

      peers : (v : Option Event) → peer_count side (all_events h) 0 ≤ peer_count side (cons_option v (all_events h)) 0
      peers None = omega arith
      peers (Some v) = more (peer_opens side 0 v) (peer_count side (all_events h) 0)

  module _ (log2 : Log) (called : calls_of log2 ≡ calls_of log) where
    pub calls-after : CallsAgree after (call_view log2)
    calls-after = record {
      accepted = λ k. ap (list_any (accepts_stream k)) called ∙ x.calls.accepted k;
      ended = λ s. ap (list_any (ends_session s)) called ∙ x.calls.ended s ∙ rw (no-gone h turn plain) refl;
      established = λ s. ap (λ (rs : List CallRecord). list_any (is_session s) (sessions_of rs)) called ∙ x.calls.established s;
    }

    pub sessions-after : stream_count side h 0 ≤ stream_count side after 0 → (call_view log2).sessions ≡ filter_map (session_at after offset) (ids_from 0 0 (stream_count side after 0))
    sessions-after le =
        ap sessions_of called ∙ x.sessions
        ∙ sym (more-ids h offset 0 (stream_count side h 0) (stream_count side after 0) le (λ m l. none-behind m (omega (arith, l))))

  module _ (log2 : Log) (called : calls_of log2 ≡ calls_of log) (sent : actions_of log2 ≡ newest_first xs (actions_of log)) where
    pub out-after : SameOut (actions_out after) (actions_of log2)
    out-after = subst (λ (as_ : List Action). SameOut (newest_first (join_all [] xs) (actions_out h)) as_) (sym sent) (same-out xs (actions_out h) (actions_of log) x.out)

    -- a reset of the history is one of the log
    told-same : (k : ℕ) → told-resets after k ≡ told-resets h k
    told-same k = ap (λ (b : Bool). b || told-resets h k) (no-reset k turn plain)

    opening-after : (k : ℕ) → OpeningAgrees after log2 k
    opening-after k = by (x.openings k)
      where
        same : being_opened after k ≡ being_opened h k
        same = rw (no-opening-end k turn plain, no-opening k turn plain) refl

        code : opening_session log2 k ≡ opening_session log k
        code = rw called refl

        by : OpeningAgrees h log k → OpeningAgrees after log2 k
        by (NotOpening b o) = NotOpening (same ∙ b) (code ∙ o)
        by (IsOpening name s b n o) = IsOpening name s (same ∙ b) (same-named name ∙ n) (code ∙ o)

    -- ---- halves

    or-more : (a b t u : Bool) → (a || t) ≡ (a || u) → ((a || b) || t) ≡ ((a || b) || u)
    or-more true b t u e = refl
    or-more false true t u e = refl
    or-more false false t u e = e

    reset-after : (k : ℕ) → is_reset after k ≡ sends.is_reset log2 k
    reset-after k =
        ap (λ (b : Bool). b || told-resets after k) (any-newest (is_reset_of k) (join_all [] xs) (actions_out h))
        ∙ ap (λ (b : Bool). (list_any (is_reset_of k) (actions_out h) || list_any (is_reset_of k) (join_all [] xs)) || b) (told-same k)
        ∙ or-more (list_any (is_reset_of k) (actions_out h)) (list_any (is_reset_of k) (join_all [] xs)) (told-resets h k) (list_any (unsent-reset k) (calls_of log))
        (x.halves.reset k ∙ resets-apart k log ∙ ap (λ (b : Bool). b || list_any (unsent-reset k) (calls_of log)) (sym (x.out.reset k)))
        ∙ ap (λ (b : Bool). b || list_any (unsent-reset k) (calls_of log)) (sym (any-newest (is_reset_of k) (join_all [] xs) (actions_out h)) ∙ out-after.reset k)
        ∙ ap (λ (rs : List CallRecord). list_any (is_reset_of k) (actions_of log2) || list_any (unsent-reset k) rs) (sym called)
        ∙ sym (resets-apart k log2)

    pub halves-after : HalvesAgree after log2
    halves-after = record {
      given_up = λ k. ap (λ (b : Bool). b || is_given_up h k) (no-stop k turn plain) ∙ x.halves.given_up k ∙ ap (list_any (gives_up k)) (sym called);
      reset = reset-after;
      read = λ k. ap (λ (bytes : List ℕ). length (was_read h k ++ bytes)) (no-read k turn plain) ∙ ap length (append-nil (was_read h k)) ∙ x.halves.read k ∙ ap (halves.total_read k) (sym called);
      priority = λ k d.
          ap (λ (o : Option ℤ). unwrap_or (option_or o (first_of (λ (p : Pair). priority_by k p.turn p.answer.reply) h)) (pos 0)) (no-priority k turn plain)
          ∙ x.halves.priority k (done-before (record { turn = turn; answer = answer replies.Done (join_all [] xs) }) h k d) ∙ ap (λ (rs : List CallRecord). sends.priority_of rs k) (sym called);
    }

    -- ---- the handshake

    handshake-after : HandshakeAgrees side after (handshake_state (calls_of log2))
    handshake-after = record {
      waiting = ap (λ (b : Bool). if b then false else is_waiting h) (no-poll turn plain) ∙ x.handshake.waiting ∙ ap (λ (rs : List CallRecord). is_continuable (handshake_state rs)) (sym called);
      requested =
          λ c. ap (λ (b : Bool). if b then false else has_request h) (no-request turn plain) ∙ x.handshake.requested c ∙ ap (λ (rs : List CallRecord). awaits_answer (handshake_state rs)) (sym called);
      awaits = λ c. rw (no-failure turn plain, no-poll turn plain) (x.handshake.awaits c ∙ ap (λ (rs : List CallRecord). awaits_request (handshake_state rs)) (sym called));
      begun = subst (λ (o : Option Call). BegunAgrees (handshake_state (calls_of log2)) o) (ap (λ (o : Option Call). option_or o (last_begun h)) (sym (no-begin turn plain)))
          (subst (λ (rs : List CallRecord). BegunAgrees (handshake_state rs) (last_begun h)) (sym called) x.handshake.begun);
    }

    -- the whole, where the moment finds alike
    kept : Agrees after log2 → answers.is_first log2 ≡ false → IsTable (findings side after) (stream_table side log2) → Orderly side after (call_view log2) offset (findings side after)
        → Stands side offset after log2
    kept came first table orderly = record {
      first = sym first;
      came = came;
      out = out-after;
      table = table;
      calls = calls-after log2 called;
      sessions = sessions-after log2 called count-after;
      named = or-none (first_session h) ∙ x.named ∙ ap drivers.first_session (sym called);
      orderly = orderly;
      halves = halves-after;
      openings = opening-after;
      unfailed = λ k e. ap (list_any (fails_opening k)) called ∙ x.unfailed k (missing-before k e);
      delivered = λ k. x.delivered k ∙ ap (list_any (delivers k)) (sym called);
      request = x.request ∙ ap requested_stream (sym called);
      handshake = handshake-after;
    }
      where
        missing-before : (k : ℕ) → exists side after k ≡ false → exists side h k ≡ false
        missing-before k e = by (exists side h k) refl
          where
            by : (b : Bool) → exists side h k ≡ b → b ≡ false
            by false q = refl
            by true q = absurd (let r = exists-stays side (record { turn = turn; answer = answer replies.Done (join_all [] xs) }) h k q in cc (sym r ∙ e))

-- ---- the log after the turn

pub acted-calls : (own : List Action) (log : Log) → calls_of (with_actions own log) ≡ calls_of log
acted-calls [] log = refl
acted-calls (a ∷ own) log = acted-calls own (Sent a ∷ log)

acted-first : (own : List Action) (e : Entry) (log : Log) → answers.is_first (with_actions own (e ∷ log)) ≡ false
acted-first [] e log = refl
acted-first (a ∷ own) e log = acted-first own (Sent a) (e ∷ log)

pub flushed-first : (side : Side) (e : Entry) (log : Log) → answers.is_first (log_and_flush side log e) ≡ false
unfolding flush
flushed-first side e log = by (is_moment e && logs.is_open (e ∷ log))
  where
    by : (b : Bool) → answers.is_first (apply_if b (with_actions (pending_actions side (e ∷ log))) (e ∷ log)) ≡ false
    by true = acted-first (pending_actions side (e ∷ log)) e log
    by false = refl

pub entry-calls : (b : Bool) (e : Event) (log : Log) → calls_of (event_entry b e ∷ log) ≡ calls_of log
entry-calls true e log = refl
entry-calls false e log = refl

pub entry-actions : (b : Bool) (e : Event) (log : Log) → actions_of (event_entry b e ∷ log) ≡ actions_of log
entry-actions true e log = refl
entry-actions false e log = refl

event-calls : (side : Side) (log : Log) (e : Event) → calls_of (log_and_flush side log (event_entry (logs.is_open log) e)) ≡ calls_of log
event-calls side log e = flushed calls_of acted-calls side (event_entry (logs.is_open log) e) log ∙ entry-calls (logs.is_open log) e log

-- no call is recorded
pub turn-calls : (side : Side) (log : Log) (turn : Turn) → is_single turn ≡ true → calls_of (log_after side log turn) ≡ calls_of log
turn-calls side log (turns.Bytes id (b ∷ [])) s = by (logs.is_open log)
  where
    by : (o : Bool) → calls_of (if o then log_and_flush side log (logs.Received id b) else log) ≡ calls_of log
    by true = flushed calls_of acted-calls side (logs.Received id b) log
    by false = refl
turn-calls side log (turns.Bytes id (b ∷ c ∷ later)) s = absurd (cc s)
turn-calls side log (turns.Bytes id []) s = absurd (cc s)
turn-calls side log (turns.Call call) s = absurd (cc s)
turn-calls side log turn s = event-calls side log _

-- something happened
turn-first : (side : Side) (log : Log) (turn : Turn) → is_single turn ≡ true → answers.is_first (log_after side log turn) ≡ false
turn-first side log (turns.Bytes id (b ∷ [])) s = by log (logs.is_open log) refl
  where
    by : (l : Log) (o : Bool) → logs.is_open l ≡ o → answers.is_first (if o then log_and_flush side l (logs.Received id b) else l) ≡ false
    by l true e = flushed-first side (logs.Received id b) l
    by [] false e = absurd (cc e)
    by (x ∷ l) false e = refl
turn-first side log (turns.Bytes id (b ∷ c ∷ later)) s = absurd (cc s)
turn-first side log (turns.Bytes id []) s = absurd (cc s)
turn-first side log (turns.Call call) s = absurd (cc s)
turn-first side log turn s = flushed-first side _ log

pub single-plain : (turn : Turn) → is_single turn ≡ true → is_call turn ≡ false
single-plain (turns.Call call) s = absurd (cc s)
single-plain turn s = refl

-- A turn of the transport that brings one byte at most keeps the relation, where its moment sends these actions, both end
-- alike, and it finds alike.
pub turn-keeps : (side : Side) (offset : ℕ → ℕ) (h : History) (log : Log) → Stands side offset h log → (turn : Turn) → is_single turn ≡ true → (xs : List Action)
    → actions_of (log_after side log turn) ≡ newest_first xs (actions_of log)
    → is_open (with_pair h turn (answer replies.Done (join_all [] xs))) ≡ logs.is_open (log_after side log turn)
    → IsTable (findings side (with_pair h turn (answer replies.Done (join_all [] xs)))) (stream_table side (log_after side log turn))
    → Orderly side (with_pair h turn (answer replies.Done (join_all [] xs))) (call_view (log_after side log turn)) offset (findings side (with_pair h turn (answer replies.Done (join_all [] xs))))
    → Stands side offset (with_pair h turn (answer replies.Done (join_all [] xs))) (log_after side log turn)
turn-keeps side offset h log x turn s xs sent o table orderly =
    kept side offset h log x turn (single-plain turn s) xs (log_after side log turn) (turn-calls side log turn s) sent
    (turn_agrees side h log turn (answer replies.Done (join_all [] xs)) s x.came o) (turn-first side log turn s) table orderly
