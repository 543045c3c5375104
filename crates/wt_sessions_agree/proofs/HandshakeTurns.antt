-- Each call keeps that a history and a log agree on how far the handshake is.
use Rattle.std.specs.Prelude.{[], ◌&&◌, ◌==◌, ◌∷◌, ◌||◌, ◌≡◌, Bool, Err, List, None, Ok, Option, Result, Some, codes, false, if◌then◌else◌, not, true, unwrap_or, ℕ}
use Rattle.std.specs.Option.{option_or}
use Rattle.std.proofs.Common.{◌∙◌, ap, refl, subst, sym}
use Rattle.std.proofs.lemmas.Bool.{eq-eqb, eqb-true}
use Rattle.url.specs.Parser.{parse_url}
use Rattle.wt_meaning.specs.Calls.{rows_of}
use Rattle.wt_meaning.specs.Halves.{is_done}
use Rattle.wt_meaning.specs.Handshakes.{begin_rows, begun_by, last_begun, poll_rows}
use Rattle.wt_meaning.specs.History.{History, is_open}
use Rattle.wt_meaning.specs.Lawful.{all_answered, fails_incoming, gives_request, has_request, is_client, is_first, is_lawful, is_of_request, is_pending, is_waiting, may_call, polls}
use Rattle.wt_meaning.specs.Meaning.{next, own_answer, step}
use Rattle.wt_meaning.specs.Rows.{first_row}
use Rattle.wt_meaning.specs.Targets.{Target, target_of}
use Rattle.wt_meaning.specs.Windows.{is_established, last_request, named}
use Rattle.wt_promise.proofs.Accepted.{and-left, and-right, or-true}
use Rattle.wt_promise.proofs.Flow.{clash}
use Rattle.wt_promise.proofs.Phases.{client-waits, phase, server-begun}
use Rattle.wt_promise.proofs.Tables.{accepts-pass, connect-passes, rejects-pass}
use Rattle.wt_promise.proofs.Waiting.{named-established}
use Rattle.wt_promise.specs.Promise.{IsHistory}
use Rattle.wt_sessions.specs.Handshake.{HandshakeState, after_record, awaits_answer, awaits_request, handshake_state, is_continuable, requested_stream}
use Rattle.wt_sessions.specs.Handshake as handshakes
use Rattle.wt_sessions_agree.proofs.DueLaws.{is_asked}
use Rattle.wt_sessions_agree.proofs.RecordLaws.{either}
use Rattle.wt_sessions_agree.proofs.ReplyLaws.{accept-replies, incoming-replies, is_accepting, is_asking, is_other, is_rejecting, other-replies, reject-replies}
use Rattle.wt_sessions_agree.proofs.ShakeLaws.{failed-is, failed-shut, has_failed, is_over, shake-agrees}
use Rattle.wt_sessions_agree.specs.Records.{done_record, failure_record, pending_record, record_of}
use Rattle.wt_sessions_agree.specs.Stands.{BegunAgrees, HandshakeAgrees, Stands}
use Rattle.wt_turn.specs.Log.{CallRecord, Log, Polled, PrioritySet, RequestRejected, ResetUnsent, calls_of}
use Rattle.wt_turn.specs.declared.call.Call.{Call}
use Rattle.wt_turn.specs.declared.connecting_error.ConnectingError.{ConnectingError}
use Rattle.wt_turn.specs.declared.reply.Reply.{Reply}
use Rattle.wt_wire.specs.HeaderList.{Fields}
use Rattle.wt_wire.specs.declared.lookup.ConnectOutcome.{ConnectOutcome}
use Rattle.wt_wire.specs.declared.lookup.Lookup.{Lookup}
use Rattle.wt_wire.specs.declared.side.Side.{Side}
use Rattle.wt_wire.specs.declared.side.Side.TheVariants.{Client, Server}
use Rattle.wt_turn.specs.declared.call.Call.TheVariants as calls
use Rattle.wt_turn.specs.declared.reply.Reply.TheVariants as replies
use Rattle.wt_turn.specs.declared.stream_error.StreamReadExactError.TheVariants as exacts
use Rattle.wt_turn.specs.declared.turn.Turn.TheVariants as turns

-- ---- the state after a record

-- the state that a record of these calls leads to
abbrev new_state : List CallRecord → CallRecord → HandshakeState
new_state before r = elim (after_record (requested_stream before) r) [ Some s ↦ s | None ↦ handshake_state before ]

same-state : (before : List CallRecord) (r : CallRecord) → after_record (requested_stream before) r ≡ None → new_state before r ≡ handshake_state before
same-state before r e = ap (λ (o : Option HandshakeState). elim o [ Some s ↦ s | None ↦ handshake_state before ]) e

-- the end of the session of the request that was given last
rejected-state : (before : List CallRecord) (s : ℕ) → s ≡ requested_stream before → new_state before (RequestRejected s) ≡ handshakes.Answered
rejected-state before s e = ap (λ (b : Bool). elim (if b then Some handshakes.Answered else None) [ Some s ↦ s | None ↦ handshake_state before ]) (eq-eqb s (requested_stream before) e)

-- ---- what a call with this reply leads to

-- the history with this call and this reply agrees with the state
record Shaken (side : Side) (h : History) (state : HandshakeState) (c : Call) (x : Reply) : Type 0 where
  waiting : (if polls (turns.Call c) then is_pending x else is_waiting h) ≡ is_continuable state
  requested : side ≡ Server → (if is_of_request (turns.Call c) then gives_request x else has_request h) ≡ awaits_answer state
  failed : side ≡ Server → (fails_incoming (turns.Call c) x || has_failed h) ≡ is_over state
  begun : BegunAgrees state (option_or (begun_by (turns.Call c)) (last_begun h))

shake-of : (side : Side) (h : History) (state : HandshakeState) (c : Call) → IsHistory side h → is_lawful side h (turns.Call c) ≡ true → Shaken side h state c (next side h (turns.Call c)).reply
    → HandshakeAgrees side (step side h (turns.Call c)) state
shake-of side h state c i l s = shake-agrees side (step side h (turns.Call c)) state (l, refl, i) s.waiting (λ e. (s.requested e, s.failed e)) s.begun

-- a state in which a request may be asked for
calm : (state : HandshakeState) → awaits_request state ≡ true → (is_continuable state ≡ false) × (awaits_answer state ≡ false) × (is_over state ≡ false)
calm handshakes.AwaitingRequest e = (refl, refl, refl)
calm handshakes.Answered e = (refl, refl, refl)
calm state e = absurd (cc e)

-- a state in which the handshake goes on
goes-on : (state : HandshakeState) → is_continuable state ≡ true → (awaits_answer state ≡ false) × (is_over state ≡ false)
goes-on (handshakes.Responding accepts head) e = (refl, refl)
goes-on (handshakes.Connecting reserved head) e = (refl, refl)
goes-on state e = absurd (cc e)

-- a state in which a response may begin
asks-on : (state : HandshakeState) → awaits_answer state ≡ true → is_over state ≡ false
asks-on (handshakes.Requested id) e = refl
asks-on state e = absurd (cc e)

response-asked : (side : Side) (h : History) → (not (is_first h) && (not (is_client side) && has_request h)) ≡ true → (side ≡ Server) × (has_request h ≡ true)
response-asked Server h l = (refl, and-right (not (is_first h)) (has_request h) l)
response-asked Client h l = absurd (let m = and-right (not (is_first h)) false l in cc m)

failed-on : (side : Side) (h : History) (state : HandshakeState) → IsHistory side h → HandshakeAgrees side h state → side ≡ Server → has_failed h ≡ is_over state
failed-on Server h state i x e = failed-is h state i x
failed-on Client h state i x e = absurd (cc e)

-- ---- calls that are none of the handshake

-- the call ends a session
abbrev is_end : Call → Bool
is_end (calls.EndSession name) = true
is_end _ = false

module _ (side : Side) (h : History) (req : ℕ) where
  done-passes : (c : Call) → is_end c ≡ false → after_record req (done_record side h c) ≡ None
  done-passes (calls.ResetSend id code) e = either (after_record req) None (is_open h) Polled (ResetUnsent id code) refl refl
  done-passes (calls.SetPriority id priority) e = either (after_record req) None (is_done h id) Polled (PrioritySet id priority) refl refl
  done-passes (calls.EndSession name) e = absurd (cc e)
  done-passes c e = refl

  pending-passes : (c : Call) → polls (turns.Call c) ≡ false → after_record req (pending_record c) ≡ None
  pending-passes (calls.Connect options lookup outcome) p = absurd (cc p)
  pending-passes (calls.Accept headers) p = absurd (cc p)
  pending-passes calls.Forbidden p = absurd (cc p)
  pending-passes calls.NotFound p = absurd (cc p)
  pending-passes calls.TooManyRequests p = absurd (cc p)
  pending-passes c p = refl

  failure-passes : (c : Call) → polls (turns.Call c) ≡ false → is_of_request (turns.Call c) ≡ false → after_record req (failure_record c) ≡ None
  failure-passes calls.Incoming p q = absurd (cc q)
  failure-passes (calls.Accept headers) p q = absurd (cc p)
  failure-passes calls.Handshake p q = absurd (cc p)
  failure-passes c p q = refl

  other-passes : (c : Call) (x : Reply) → polls (turns.Call c) ≡ false → is_of_request (turns.Call c) ≡ false → is_end c ≡ false → is_other x ≡ true → after_record req (record_of side h c x) ≡ None
  other-passes c replies.Done p q e o = done-passes c e
  other-passes c replies.Pending p q e o = pending-passes c p
  other-passes c (replies.Failed x) p q e o = failure-passes c p q
  other-passes c (replies.Request id headers) p q e o = absurd (cc o)
  other-passes c (replies.Session id) p q e o = absurd (cc o)
  other-passes c replies.Rejected p q e o = absurd (cc o)
  other-passes c (replies.ConnectFailed x) p q e o = absurd (cc o)
  other-passes c (replies.Read (Some (b ∷ bytes))) p q e o = refl
  other-passes c (replies.Read (Some [])) p q e o = refl
  other-passes c (replies.Read None) p q e o = refl
  other-passes c (replies.ExactFailed (exacts.FinishedEarly count) piece) p q e o = refl
  other-passes c (replies.ExactFailed (exacts.Read x) piece) p q e o = refl
  other-passes c x p q e o = refl

fails-not : (c : Call) (x : Reply) → is_of_request (turns.Call c) ≡ false → fails_incoming (turns.Call c) x ≡ false
fails-not calls.Incoming x q = absurd (cc q)
fails-not c x q = refl

begins-not : (c : Call) → polls (turns.Call c) ≡ false → begun_by (turns.Call c) ≡ None
begins-not calls.Handshake p = absurd (cc p)
begins-not (calls.Connect options lookup outcome) p = absurd (cc p)
begins-not (calls.Accept headers) p = absurd (cc p)
begins-not calls.Forbidden p = absurd (cc p)
begins-not calls.NotFound p = absurd (cc p)
begins-not calls.TooManyRequests p = absurd (cc p)
begins-not c p = refl

-- ---- the replies of a poll

-- a connect fails on a client alone
abbrev is_polling : Side → Reply → Bool
is_polling side (replies.ConnectFailed e) = is_client side
is_polling side (replies.Session id) = true
is_polling side (replies.Failed e) = true
is_polling side replies.Rejected = true
is_polling side replies.Pending = true
is_polling side _ = false

poll-replies : (side : Side) (h : History) → IsHistory side h → (o : Option Call) → last_begun h ≡ o → is_polling side (first_row (poll_rows side h o)).reply ≡ true
poll-replies side h i None e = refl
poll-replies Client h i (Some (calls.Connect options lookup outcome)) e =
    (connect-passes (is_polling Client) refl (λ x. refl) (λ s. refl) Client h (target_of (parse_url None options.0) options.1 lookup outcome)).first
poll-replies Server h i (Some (calls.Connect options lookup outcome)) e = absurd (let r = server-begun h i (calls.Connect options lookup outcome) e in cc r)
poll-replies side h i (Some (calls.Accept headers)) e = (accepts-pass (is_polling side) refl (λ x. refl) (λ s. refl) side h headers).first
poll-replies side h i (Some calls.Forbidden) e = (rejects-pass (is_polling side) refl refl side h (codes "403")).first
poll-replies side h i (Some calls.NotFound) e = (rejects-pass (is_polling side) refl refl side h (codes "404")).first
poll-replies side h i (Some calls.TooManyRequests) e = (rejects-pass (is_polling side) refl refl side h (codes "429")).first
poll-replies side h i (Some c) e = refl

-- where the session of the request that was given last is established, no response is due and no connect goes on
established-idle : (side : Side) (h : History) → IsHistory side h → (s : ℕ) → is_established h s ≡ true → s ≡ unwrap_or (last_request h) 0
    → (is_waiting h ≡ false) × (side ≡ Server → has_request h ≡ false)
established-idle Client h i s a q = (by (is_waiting h) refl, λ e. absurd (cc e))
  where
    by : (b : Bool) → is_waiting h ≡ b → b ≡ false
    by false e = refl
    by true e = absurd (clash (is_established h s) a (client-waits h i e s))
established-idle Server h i s a q = (waits (is_waiting h) refl, λ e. asks (has_request h) refl)
  where
    never : is_asked h ≡ true → ⊥
    never d = let r = (phase h i).asked d in clash (is_established h s) a (ap (is_established h) (q ∙ ap (λ (o : Option ℕ). unwrap_or o 0) r.1) ∙ r.2)

    waits : (b : Bool) → is_waiting h ≡ b → b ≡ false
    waits false e = refl
    waits true e = absurd (never (rw e (or-true (has_request h))))

    asks : (b : Bool) → has_request h ≡ b → b ≡ false
    asks false e = refl
    asks true e = absurd (never (rw e refl))

module _ (side : Side) (offset : ℕ → ℕ) (h : History) (log : Log) (st : Stands side offset h log) (i : IsHistory side h) where
  -- the state before
  abbrev now : HandshakeState
  now = handshake_state (calls_of log)

  -- what it leads to
  abbrev ShakenBy : Call → Reply → Type 0
  ShakenBy c x = Shaken side h (new_state (calls_of log) (record_of side h c x)) c x

  failed-now : side ≡ Server → has_failed h ≡ is_over now
  failed-now e = failed-on side h now i st.handshake e

  requested-now : side ≡ Server → has_request h ≡ awaits_answer now
  requested-now e = st.handshake.requested (ap is_client e)

  -- a call that says nothing of the handshake
  quiet : (c : Call) (x : Reply) → polls (turns.Call c) ≡ false → is_of_request (turns.Call c) ≡ false → Shaken side h now c x
  quiet c x p q = record {
    waiting = rw p st.handshake.waiting;
    requested = λ e. rw q (requested-now e);
    failed = λ e. rw (fails-not c x q) (failed-now e);
    begun = rw (begins-not c p) st.handshake.begun;
  }

  other : (c : Call) → polls (turns.Call c) ≡ false → is_of_request (turns.Call c) ≡ false → is_end c ≡ false → ShakenBy c (first_row (rows_of side h c)).reply
  other c p q e =
      let x : Reply = (first_row (rows_of side h c)).reply in
      subst (λ (s : HandshakeState). Shaken side h s c x)
      (sym (same-state (calls_of log) (record_of side h c x) (other-passes side h (requested_stream (calls_of log)) c x p q e (other-replies side h c p q)))) (quiet c x p q)

  -- ---- a request

  asked-now : may_call side h calls.Incoming ≡ true → (side ≡ Server) × (awaits_request now ≡ true)
  asked-now l = by side refl st.handshake.awaits l
    where
      parts : (f g a : Bool) → (true && not f && not g && a) ≡ true → (not g && a) ≡ true
      parts false false a l = l
      parts false true a l = l
      parts true g a l = absurd (cc l)

      by : (s : Side) → side ≡ s → (is_client side ≡ false → (not (has_failed h) && all_answered h) ≡ awaits_request now) → may_call s h calls.Incoming ≡ true
          → (side ≡ Server) × (awaits_request now ≡ true)
      by Client e w l = absurd (cc l)
      by Server e w l = (e, sym (w (ap is_client e)) ∙ parts (is_first h) (has_failed h) (all_answered h) l)

  incoming : may_call side h calls.Incoming ≡ true → (x : Reply) → is_asking x ≡ true → ShakenBy calls.Incoming x
  incoming l (replies.Request id headers) t = let k = calm now (asked-now l).1 in record {
    waiting = st.handshake.waiting ∙ k.0;
    requested = λ e. refl;
    failed = λ e. failed-now e ∙ k.2;
    begun = tt;
  }
  incoming l (replies.Failed f) t = let k = calm now (asked-now l).1 in record {
    waiting = st.handshake.waiting ∙ k.0;
    requested = λ e. refl;
    failed = λ e. refl;
    begun = tt;
  }
  incoming l replies.Pending t = let k = calm now (asked-now l).1 in record {
    waiting = st.handshake.waiting;
    requested = λ e. sym k.1;
    failed = failed-now;
    begun = st.handshake.begun;
  }
  incoming l x t = absurd (cc t)

  -- ---- a response

  failed-asked : has_request h ≡ true → side ≡ Server → has_failed h ≡ false
  failed-asked q e = failed-now e ∙ asks-on now (sym (requested-now e) ∙ q)

  accept : (headers : Fields) → has_request h ≡ true → (x : Reply) → is_accepting x ≡ true → ShakenBy (calls.Accept headers) x
  accept headers q (replies.Session id) t = record { waiting = refl; requested = λ e. refl; failed = failed-asked q; begun = tt }
  accept headers q (replies.Failed f) t = record { waiting = refl; requested = λ e. refl; failed = failed-asked q; begun = tt }
  accept headers q replies.Pending t = record { waiting = refl; requested = λ e. refl; failed = failed-asked q; begun = refl }
  accept headers q x t = absurd (cc t)

  -- a rejection that is over
  rejected : (c : Call) → polls (turns.Call c) ≡ true → (side ≡ Server → (if is_of_request (turns.Call c) then false else has_request h) ≡ false)
      → fails_incoming (turns.Call c) replies.Rejected ≡ false → (side ≡ Server → has_failed h ≡ false)
      → ShakenBy c replies.Rejected
  rejected c p q f g = subst (λ (s : HandshakeState). Shaken side h s c replies.Rejected) (sym (rejected-state (calls_of log) (unwrap_or (last_request h) 0) st.request)) (record {
    waiting = rw p refl;
    requested = q;
    failed = λ e. rw f (g e);
    begun = tt;
  })

  forbidden : has_request h ≡ true → (x : Reply) → is_rejecting x ≡ true → ShakenBy calls.Forbidden x
  forbidden q replies.Rejected t = rejected calls.Forbidden refl (λ e. refl) refl (failed-asked q)
  forbidden q replies.Pending t = record { waiting = refl; requested = λ e. refl; failed = failed-asked q; begun = refl }
  forbidden q x t = absurd (cc t)

  not-found : has_request h ≡ true → (x : Reply) → is_rejecting x ≡ true → ShakenBy calls.NotFound x
  not-found q replies.Rejected t = rejected calls.NotFound refl (λ e. refl) refl (failed-asked q)
  not-found q replies.Pending t = record { waiting = refl; requested = λ e. refl; failed = failed-asked q; begun = refl }
  not-found q x t = absurd (cc t)

  too-many : has_request h ≡ true → (x : Reply) → is_rejecting x ≡ true → ShakenBy calls.TooManyRequests x
  too-many q replies.Rejected t = rejected calls.TooManyRequests refl (λ e. refl) refl (failed-asked q)
  too-many q replies.Pending t = record { waiting = refl; requested = λ e. refl; failed = failed-asked q; begun = refl }
  too-many q x t = absurd (cc t)

  -- ---- a connect that begins

  connect : (options : List ℕ × Fields) (lookup : Lookup) (outcome : ConnectOutcome) → (is_client side && is_first h) ≡ true
      → ShakenBy (calls.Connect options lookup outcome) (first_row (rows_of side h (calls.Connect options lookup outcome))).reply
  connect options lookup outcome l = by (target_of (parse_url None options.0) options.1 lookup outcome) refl
    where
      never : side ≡ Server → ⊥
      never e = clash (is_client side) (and-left (is_client side) (is_first h) l) (ap is_client e)

      by : (t : Result Target ConnectingError) → target_of (parse_url None options.0) options.1 lookup outcome ≡ t → ShakenBy (calls.Connect options lookup outcome) (first_row (begin_rows t)).reply
      by (Err f) q = record { waiting = refl; requested = λ e. absurd (never e); failed = λ e. absurd (never e); begun = tt }
      by (Ok t) q = rw q (record { waiting = refl; requested = λ e. absurd (never e); failed = λ e. absurd (never e); begun = (t, q, refl, refl) })

  -- ---- a handshake that goes on

  module _ (w : is_waiting h ≡ true) where
    continuable : is_continuable now ≡ true
    continuable = sym st.handshake.waiting ∙ w

    failed-waiting : side ≡ Server → has_failed h ≡ false
    failed-waiting e = failed-now e ∙ (goes-on now continuable).1

    unasked : side ≡ Server → has_request h ≡ false
    unasked e = requested-now e ∙ (goes-on now continuable).0

    handshake : (x : Reply) → is_polling side x ≡ true → ShakenBy calls.Handshake x
    handshake (replies.Session id) t = record { waiting = refl; requested = unasked; failed = failed-waiting; begun = tt }
    handshake (replies.Failed f) t = record { waiting = refl; requested = unasked; failed = failed-waiting; begun = tt }
    handshake replies.Pending t = record { waiting = sym continuable; requested = requested-now; failed = failed-now; begun = st.handshake.begun }
    handshake replies.Rejected t = rejected calls.Handshake refl unasked refl failed-waiting
    handshake (replies.ConnectFailed f) t = record {
      waiting = refl;
      requested = unasked;
      failed = λ e. absurd (clash (is_client side) t (ap is_client e));
      begun = tt;
    }
    handshake x t = absurd (cc t)

  -- ---- a session that the application ends

  ended-by : (name : Option ℕ) (s : ℕ) → named h name ≡ Some s → (b : Bool) → is_open h ≡ b
      → Shaken side h (new_state (calls_of log) (if b then RequestRejected s else Polled)) (calls.EndSession name) replies.Done
  ended-by name s n false o = quiet (calls.EndSession name) replies.Done refl refl
  ended-by name s n true o = by (s == requested_stream (calls_of log)) refl
    where
      none : has_failed h ≡ false
      none = of (has_failed h) refl
        where
          of : (b : Bool) → has_failed h ≡ b → b ≡ false
          of false e = refl
          of true e = absurd (clash (is_open h) o (failed-shut side h i e))

      by : (b : Bool) → (s == requested_stream (calls_of log)) ≡ b → Shaken side h (new_state (calls_of log) (RequestRejected s)) (calls.EndSession name) replies.Done
      by false e =
          subst (λ (x : HandshakeState). Shaken side h x (calls.EndSession name) replies.Done)
          (sym (same-state (calls_of log) (RequestRejected s) (ap (λ (b : Bool). if b then Some handshakes.Answered else None) e)))
          (quiet (calls.EndSession name) replies.Done refl refl)
      by true e =
          let q : s ≡ requested_stream (calls_of log) = eqb-true s (requested_stream (calls_of log)) e in
          let k = established-idle side h i s (named-established h name s n) (q ∙ sym st.request) in
          subst (λ (x : HandshakeState). Shaken side h x (calls.EndSession name) replies.Done) (sym (rejected-state (calls_of log) s q))
          (record { waiting = k.0; requested = k.1; failed = λ e. none; begun = tt })

  ended : (name : Option ℕ) → ShakenBy (calls.EndSession name) (first_row (rows_of side h (calls.EndSession name))).reply
  ended name = by (named h name) refl
    where
      by : (n : Option ℕ) → named h name ≡ n → ShakenBy (calls.EndSession name) (first_row (rows_of side h (calls.EndSession name))).reply
      by None n = rw n (quiet (calls.EndSession name) replies.NoSession refl refl)
      by (Some s) n = rw (n, n) (ended-by name s n (is_open h) refl)

  -- ---- every call

  shaken : (c : Call) → is_lawful side h (turns.Call c) ≡ true → ShakenBy c (first_row (rows_of side h c)).reply
  shaken (calls.Connect options lookup outcome) l = connect options lookup outcome l
  shaken calls.Incoming l = incoming l (first_row (rows_of side h calls.Incoming)).reply (incoming-replies side h)
  shaken (calls.Accept headers) l = accept headers (response-asked side h l).1 (first_row (rows_of side h (calls.Accept headers))).reply (accept-replies side h headers)
  shaken calls.Forbidden l = forbidden (response-asked side h l).1 (first_row (rows_of side h calls.Forbidden)).reply (reject-replies side h (codes "403"))
  shaken calls.NotFound l = not-found (response-asked side h l).1 (first_row (rows_of side h calls.NotFound)).reply (reject-replies side h (codes "404"))
  shaken calls.TooManyRequests l = too-many (response-asked side h l).1 (first_row (rows_of side h calls.TooManyRequests)).reply (reject-replies side h (codes "429"))
  shaken calls.Handshake l = handshake l (first_row (rows_of side h calls.Handshake)).reply (poll-replies side h i (last_begun h) refl)
  shaken (calls.EndSession name) l = ended name
  shaken c l = other c refl refl refl

pub shake-call : (side : Side) (offset : ℕ → ℕ) (h : History) (log : Log) → Stands side offset h log → IsHistory side h → (c : Call) → is_lawful side h (turns.Call c) ≡ true
    → (log2 : Log) → calls_of log2 ≡ record_of side h c (own_answer side h (turns.Call c)).reply ∷ calls_of log → HandshakeAgrees side (step side h (turns.Call c)) (handshake_state (calls_of log2))
shake-call side offset h log st i c l log2 called =
    subst (HandshakeAgrees side (step side h (turns.Call c))) (sym (ap handshake_state called))
    (shake-of side h (new_state (calls_of log) (record_of side h c (first_row (rows_of side h c)).reply)) c i l (shaken side offset h log st i c l))
