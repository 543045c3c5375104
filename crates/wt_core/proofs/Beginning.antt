-- A stream that a call on a session begins to open is the application's, with nothing of its header out.
use Rattle.std.proofs.Common.{◌∙◌, ap, arith, inl, inr, refl, subst, sym}
use Rattle.std.proofs.lemmas.Bool.{eq-eqb, eqb-true}
use Rattle.std.specs.Prelude.{[], ◌%◌, ◌*◌, ◌+◌, ◌/◌, ◌==◌, ◌∷◌, ◌≡◌, ◌⊎◌, Bool, List, None, Ok, Option, Result, Some, drop, false, if◌then◌else◌, length, not, true, unwrap_or, ℕ}
use Rattle.wt_driver_laws.proofs.OpenBegins.{opened-follows}
use Rattle.wt_driver_laws.proofs.Reach.{reached_fits}
use Rattle.wt_driver_laws.proofs.ReachOrderly.{next_bi_unsent, next_uni_unsent}
use Rattle.wt_driver_laws.specs.Calling.{Did}
use Rattle.wt_driver_laws.specs.Driving.{Follows, IsReachable, uncollected_since}
use Rattle.wt_driver_laws.specs.Having.{HasOpening, HasSession, IsNewOpening, OpeningStream}
use Rattle.wt_driver_laws.specs.Passing.{on_transport}
use Rattle.wt_driver_laws.specs.Replies.{poll_reply}
use Rattle.wt_follows.proofs.PutFollows.{fits-actions}
use Rattle.wt_follows.proofs.RestingCall.{record-alone}
use Rattle.wt_kept.specs.Kept.{DriverNow}
use Rattle.wt_core.proofs.Kept.{streams-after}
use Rattle.wt_core.proofs.Named.{any-established}
use Rattle.wt_core.proofs.OnSessions.{session-other}
use Rattle.wt_core.proofs.Reached as reached
use Rattle.wt_core.specs.Answering.{Answered}
use Rattle.wt_core.specs.Held.{Held, begun, held_after}
use Rattle.wt_core.specs.HeldNow.{FindsStreams, HoldsStreams, OpeningNow, StreamsNow, held_by, session_of}
use Rattle.wt_core.specs.Rows.{HasPut, value_at}
use Rattle.wt_core.specs.Told.{SameHeld}
use Rattle.wt_transport.specs.Kind.{local_kind}
use Rattle.wt_transport.specs.State.{TransportState}
use Rattle.wt_transport.specs.Step.{after_opening}
use Rattle.wt_turn.specs.Outgoing.{actions_to_open, may_open, next_id}
use Rattle.wt_turn.specs.Sent.{sent_on}
use Rattle.wt_turn.specs.Streams.{local_bi, local_uni, stream_count}
use Rattle.wt_sessions.specs.Answers.{call_effect, in_session, may_call, named_session}
use Rattle.wt_sessions.specs.Connection.{open_stream, opening_session, stream_header}
use Rattle.wt_sessions.specs.Driver.{is_session_gone}
use Rattle.wt_sessions.specs.Effect.{Effect, log_call, poll_only, reply_with, session_error, transport_error}
use Rattle.wt_turn.specs.Log.{Called, Log, OpeningStarted, actions_of, is_open, with_actions}
use Rattle.wt_turn.specs.declared.action.Action.TheVariants as actions
use Rattle.wt_turn.specs.declared.call.Call.{Call}
use Rattle.wt_turn.specs.declared.call.Call.TheVariants as calls
use Rattle.wt_turn.specs.declared.connection_error.ConnectionError.{ConnectionError}
use Rattle.wt_turn.specs.declared.poll.Poll.{Poll}
use Rattle.wt_turn.specs.declared.poll.Poll.TheVariants.{Ready}
use Rattle.wt_turn.specs.declared.reply.Reply.{Reply}
use Rattle.wt_turn.specs.declared.reply.Reply.TheVariants as replies
use Rattle.wt_wire.specs.Ids.{is_bidirectional}
use Rattle.wt_wire.specs.declared.side.Side.{Side}
use Rattle.wt_wire.specs.declared.side.Side.TheVariants.{Client, Server}

-- ---- the next stream of a kind

by-second-bit : (id bit : ℕ) → id / 2 % 2 ≡ bit → is_bidirectional id ≡ (bit == 0)
by-second-bit id bit e = ap (λ (n : ℕ). n == 0) e

kind-of-nth : (bidirectional : Bool) (side : Side) (n : ℕ) → is_bidirectional (4 * n + local_kind bidirectional side) ≡ bidirectional
kind-of-nth true Client n = by-second-bit (4 * n + 0) 0 (omega arith)
kind-of-nth true Server n = by-second-bit (4 * n + 1) 0 (omega arith)
kind-of-nth false Client n = by-second-bit (4 * n + 2) 1 (omega arith)
kind-of-nth false Server n = by-second-bit (4 * n + 3) 1 (omega arith)

next-unsent : (bidirectional : Bool) (side : Side) (log : Log) → IsReachable side log → sent_on (actions_of log) (next_id side log (local_kind bidirectional side)) ≡ []
next-unsent true side log r = next_bi_unsent side log r
next-unsent false side log r = next_uni_unsent side log r

-- that a stream is opened sends nothing on it
opened-unsent : (b : Bool) (id k : ℕ) (log : Log) → sent_on (actions_of (with_actions (if b then actions.Opened id ∷ [] else []) log)) k ≡ sent_on (actions_of log) k
opened-unsent true id k log = refl
opened-unsent false id k log = refl

-- ---- a reply that gives an opening

-- the next stream of the kind was opened, and is given
record Gives (side : Side) (log : Log) (kind s k : ℕ) : Type 0 where
  may : may_open side log kind ≡ true
  is : k ≡ next_id side log kind
  log_is : (open_stream side log kind s).log ≡ log_call side log (actions_to_open side log kind) (OpeningStarted (next_id side log kind) s)

module _ (side : Side) (log : Log) (kind s k : ℕ) where
  abbrev opened : Log
  opened = log_call side log (actions_to_open side log kind) (OpeningStarted (next_id side log kind) s)

  abbrev effect : Bool → Bool → Bool → Effect
  effect gone shut may =
      if gone then poll_only side log (replies.Failed (session_error side log s)) else
      (if shut then poll_only side log (replies.Failed (transport_error log)) else
      (if may then reply_with opened (replies.Opening (next_id side log kind)) else poll_only side log replies.Pending))

  gives : replies.Opening k ≡ (open_stream side log kind s).reply → Gives side log kind s k
  gives e = by (is_session_gone side log s) (not (is_open log)) (may_open side log kind) refl e refl
    where
      by : (gone shut may : Bool) → may_open side log kind ≡ may → replies.Opening k ≡ (effect gone shut may).reply → (open_stream side log kind s).log ≡ (effect gone shut may).log → Gives side log kind s k
      by true shut may m f l = absurd cc
      by false true may m f l = absurd cc
      by false false true m f l = record { may = m; is = let same : k ≡ next_id side log kind = cc in same; log_is = l }
      by false false false m f l = absurd cc

-- nothing more goes out at the call's moment
module _ (bidirectional : Bool) (side : Side) (log : Log) (collected : ℕ) (d : DriverNow) (f : Follows side d log collected) (r : IsReachable side log) (s : ℕ) where
  abbrev kind : ℕ
  kind = local_kind bidirectional side

  abbrev id : ℕ
  id = next_id side log kind

  abbrev g : Log
  g = with_actions (actions_to_open side log kind) log

  alone : may_open side log kind ≡ true → log_call side log (actions_to_open side log kind) (OpeningStarted id s) ≡ Called (OpeningStarted id s) ∷ g
  alone may = record-alone side g (OpeningStarted id s) (on_transport (λ (x : TransportState). after_opening x (local_kind bidirectional d.work.transport.side)) d) (uncollected_since collected g)
      (opened-follows side d log collected f (reached_fits side log r) bidirectional may).kept (tt, fits-actions side (actions_to_open side log kind) log (reached_fits side log r))
      (record { unis = refl; bis = refl; sessions = refl; control = refl; encoder = refl; decoder = refl; progress = refl; sent = refl; is_open = refl })

  -- and nothing of the stream's header is out
  begun-unsent : may_open side log kind ≡ true → sent_on (actions_of (log_call side log (actions_to_open side log kind) (OpeningStarted id s))) id ≡ []
  begun-unsent may = ap (λ (l : Log). sent_on (actions_of l) id) (alone may) ∙ (opened-unsent (may_open side log kind) id id log ∙ next-unsent bidirectional side log r)

-- ---- the calls

module _ (bidirectional : Bool) (side : Side) (log : Log) (collected : ℕ) (d : DriverNow) (f : Follows side d log collected) (r : IsReachable side log) (s : ℕ) (has : HasSession s side log)
    (call : Call) (may : may_call side log call ≡ true) (other : (j : ℕ) → call ≡ calls.PollOpening j → ⊥) (effect : call_effect side log call ≡ open_stream side log (local_kind bidirectional side) s)
    (changes : (a : Reply) → held_after call a (held_by side log) ≡ begun (Some s) a (held_by side log)) (o : OpeningStream) (fresh : IsNewOpening s o) (is : replies.Opening o.id ≡ (call_effect side log call).reply) where
  abbrev its-kind : ℕ
  its-kind = local_kind bidirectional side

  abbrev h : Held
  h = held_by side log

  abbrev later : Log
  later = (call_effect side log call).log

  given : Gives side log its-kind s o.id
  given = gives side log its-kind s o.id (is ∙ ap (λ (x : Effect). x.reply) effect)

  after : SameHeld (held_by side later) (held_after call (call_effect side log call).reply h)
  after = reached.told side log r call

  -- what the reply says that is held then
  held-then : {T : Type 0} (of : Held → T) → of (held_after call (call_effect side log call).reply h) ≡ of (begun (Some s) (replies.Opening o.id) h)
  held-then of = ap (λ (a : Reply). of (held_after call a h)) (sym is) ∙ ap of (changes (replies.Opening o.id))

  its-session : unwrap_or (named_session log (Some s)) 0 ≡ o.session
  its-session = ap (λ (v : Option ℕ). unwrap_or v 0) has ∙ sym fresh.session

  opens : opening_session later o.id ≡ Some o.session
  opens = after.openings o.id ∙ (held-then (λ (x : Held). x.openings o.id)
      ∙ (ap (λ (b : Bool). if b then Some (unwrap_or (named_session log (Some s)) 0) else h.openings o.id) (eq-eqb o.id o.id refl) ∙ ap (λ (n : ℕ). Some n) its-session))

  unsent : sent_on (actions_of later) o.id ≡ []
  unsent = ap (λ (x : Effect). sent_on (actions_of x.log) o.id) effect ∙ (ap (λ (l : Log). sent_on (actions_of l) o.id) given.log_is
      ∙ (ap (sent_on (actions_of (log_call side log (actions_to_open side log its-kind) (OpeningStarted (next_id side log its-kind) s)))) given.is ∙ begun-unsent bidirectional side log collected d f r s given.may))

  -- the application has it
  has-it : HasOpening bidirectional o side later
  has-it = record {
    opens = opens;
    kind = ap is_bidirectional given.is ∙ kind-of-nth bidirectional side (stream_count side log its-kind);
    session = λ none. any-established side log s has (sym (after.sessions None ∙ held-then (λ (x : Held). x.sessions None)) ∙ none);
    left = ap (λ (xs : List ℕ). drop (length xs) (stream_header o.id o.session)) unsent ∙ sym fresh.left;
  }

  module _ (old new : StreamsNow) (x : HoldsStreams side old log) (id : ℕ) (same : id ≡ o.id) (put : HasPut old.openings new.openings id (Some (record { bidirectional = bidirectional; opening = o })))
      (ss : new.sends ≡ old.sends) (rs : new.recvs ≡ old.recvs) where
    abbrev it : OpeningNow
    it = record { bidirectional = bidirectional; opening = o }

    put-there : HasPut old.openings new.openings o.id (Some it)
    put-there = subst (λ (n : ℕ). HasPut old.openings new.openings n (Some it)) same put

    finds : FindsStreams new (begun (Some s) (replies.Opening o.id) h)
    finds = record {
      sends = λ k. ap (λ (rows : List (List (Option ℕ))). value_at rows k) ss ∙ x.finds.sends k;
      recvs = λ k. ap (λ (rows : List (List (Option ℕ))). value_at rows k) rs ∙ x.finds.recvs k;
      openings = λ k. ap session_of (put-there k) ∙ by k (o.id == k);
    }
      where
        by : (k : ℕ) (b : Bool) → session_of (if b then Some it else value_at old.openings k) ≡ (if b then Some (unwrap_or (named_session log (Some s)) 0) else h.openings k)
        by k true = ap (λ (n : ℕ). Some n) (sym its-session)
        by k false = x.finds.openings k

    -- each opening that is kept was kept, or is this one
    each : (k : ℕ) (p : OpeningNow) → value_at new.openings k ≡ Some p
        → ((value_at old.openings k ≡ Some p) × (call ≡ calls.PollOpening k → ⊥)) ⊎ ((p.opening.id ≡ k) × HasOpening p.bidirectional p.opening side later)
    each k p there = by (o.id == k) refl (sym (put-there k) ∙ there)
      where
        by : (b : Bool) → (o.id == k) ≡ b → (if b then Some it else value_at old.openings k) ≡ Some p
            → ((value_at old.openings k ≡ Some p) × (call ≡ calls.PollOpening k → ⊥)) ⊎ ((p.opening.id ≡ k) × HasOpening p.bidirectional p.opening side later)
        by true e q =
            let one : it ≡ p = cc in
            inr (subst (λ (y : OpeningNow). (y.opening.id ≡ k) × HasOpening y.bidirectional y.opening side later) one (eqb-true o.id k e, has-it))
        by false e q = inl (q, other k)

    holds : HoldsStreams side new later
    holds = streams-after side log r call may old new x (replies.Opening o.id) is (subst (FindsStreams new) (sym (changes (replies.Opening o.id))) finds) each

    begun-so : (next : DriverNow) (at : ℕ) → at ≡ id → Did side next collected (replies.Opening o.id) (call_effect side log call) → Answered side log collected call (replies.Opening at) next new
    begun-so next at place did = record { did = record { reply = ap replies.Opening (place ∙ same) ∙ did.reply; log = did.log }; holds = holds }

-- what a session's own name leads to
uni-effect : (side : Side) (log : Log) (s : ℕ) → HasSession s side log → call_effect side log (calls.OpenUni (Some s)) ≡ open_stream side log (local_uni side) s
unfolding call_effect
uni-effect side log s has = ap (in_session side log (open_stream side log (local_uni side))) has

bi-effect : (side : Side) (log : Log) (s : ℕ) → HasSession s side log → call_effect side log (calls.OpenBi (Some s)) ≡ open_stream side log (local_bi side) s
unfolding call_effect
bi-effect side log s has = ap (in_session side log (open_stream side log (local_bi side))) has

-- what the answer stands for
answer-is : (a : Poll (Result OpeningStream ConnectionError)) (q : Result OpeningStream ConnectionError) (o : OpeningStream) → a ≡ Ready q → q ≡ Ok o
    → poll_reply (λ (x : OpeningStream). replies.Opening x.id) a ≡ replies.Opening o.id
answer-is a q o is ok = ap (λ (y : Poll (Result OpeningStream ConnectionError)). poll_reply (λ (x : OpeningStream). replies.Opening x.id) y) (is ∙ ap (λ (y : Result OpeningStream ConnectionError). Ready y) ok)

module _ (side : Side) (log : Log) (collected : ℕ) (d later : DriverNow) (f : Follows side d log collected) (r : IsReachable side log) (s : ℕ) (has : HasSession s side log) (old new : StreamsNow) (x : HoldsStreams side old log)
    (a : Poll (Result OpeningStream ConnectionError)) (q : Result OpeningStream ConnectionError) (o : OpeningStream) (is : a ≡ Ready q) (ok : q ≡ Ok o) (fresh : IsNewOpening s o)
    (at id : ℕ) (place : at ≡ id) (same : id ≡ o.id) (ss : new.sends ≡ old.sends) (rs : new.recvs ≡ old.recvs) where
  abbrev told : Reply
  told = poll_reply (λ (y : OpeningStream). replies.Opening y.id) a

  did-opened : (call : Call) → Did side later collected told (call_effect side log call) → Did side later collected (replies.Opening o.id) (call_effect side log call)
  did-opened call did = subst (λ (y : Reply). Did side later collected y (call_effect side log call)) (answer-is a q o is ok) did

  pub uni-begun : may_call side log (calls.OpenUni (Some s)) ≡ true → HasPut old.openings new.openings id (Some (record { bidirectional = false; opening = o }))
      → Did side later collected told (call_effect side log (calls.OpenUni (Some s))) → Answered side log collected (calls.OpenUni (Some s)) (replies.Opening at) later new
  uni-begun may put did =
      let opened = did-opened (calls.OpenUni (Some s)) did in
      begun-so false side log collected d f r s has (calls.OpenUni (Some s)) may (session-other (calls.OpenUni (Some s)) (Some s) refl) (uni-effect side log s has) (λ y. refl) o fresh opened.reply old new x id same put ss rs later at place opened

  pub bi-begun : may_call side log (calls.OpenBi (Some s)) ≡ true → HasPut old.openings new.openings id (Some (record { bidirectional = true; opening = o }))
      → Did side later collected told (call_effect side log (calls.OpenBi (Some s))) → Answered side log collected (calls.OpenBi (Some s)) (replies.Opening at) later new
  bi-begun may put did =
      let opened = did-opened (calls.OpenBi (Some s)) did in
      begun-so true side log collected d f r s has (calls.OpenBi (Some s)) may (session-other (calls.OpenBi (Some s)) (Some s) refl) (bi-effect side log s has) (λ y. refl) o fresh opened.reply old new x id same put ss rs later at place opened
