-- A poll of a stream that is being opened: it is through, it failed, or it waits; or there is no such stream.
use Rattle.std.proofs.Common.{◌∙◌, ap, inl, inr, refl, subst, sym}
use Rattle.std.proofs.lemmas.Bool.{eq-eqb, eqb-true, true≢false}
use Rattle.std.specs.Prelude.{◌==◌, ◌≡◌, ◌⊎◌, Bool, Err, List, None, Ok, Option, Result, Some, drop, false, if◌then◌else◌, is_some, length, true, ℕ}
use Rattle.wt_driver_laws.specs.Calling.{Did}
use Rattle.wt_driver_laws.specs.Driving.{Follows, IsReachable}
use Rattle.wt_driver_laws.specs.Having.{HasOpening, OpeningStream}
use Rattle.wt_kept.specs.Kept.{DriverNow}
use Rattle.wt_core.proofs.Kept.{half-put, none-out, streams-after}
use Rattle.wt_core.proofs.OpensOn.{opens-on}
use Rattle.wt_core.specs.Answering.{Answered, NamedAnswers, OpeningAnswers}
use Rattle.wt_core.specs.Held.{Held, ending, held_after}
use Rattle.wt_core.specs.HeldNow.{FindsStreams, HoldsSessions, HoldsStreams, OpeningNow, SessionsNow, StreamsNow, TakenOut, held_by, session_of}
use Rattle.wt_core.specs.Rows.{HasPut, value_at}
use Rattle.wt_session.proofs.Sessions.{Rests, within}
use Rattle.wt_turn.specs.Outgoing.{bytes_within_credit}
use Rattle.wt_sessions.specs.Answers.{call_effect, in_session, may_call, named_session}
use Rattle.wt_sessions.specs.Connection.{opening_session, poll_for, poll_opening}
use Rattle.wt_sessions.specs.Effect.{Effect, poll_only}
use Rattle.wt_sessions.specs.Halves.{has_receiving_half, has_sending_half}
use Rattle.wt_turn.specs.Log.{Log, Polled}
use Rattle.wt_turn.specs.declared.call.Call.{Call}
use Rattle.wt_turn.specs.declared.call.Call.TheVariants as calls
use Rattle.wt_turn.specs.declared.reply.Reply.{Reply}
use Rattle.wt_turn.specs.declared.reply.Reply.TheVariants as replies
use Rattle.wt_turn.specs.declared.stream_error.StreamOpeningError.{StreamOpeningError}
use Rattle.wt_wire.specs.declared.side.Side.{Side}

polls-same : (j k : ℕ) → calls.PollOpening j ≡ calls.PollOpening k → j ≡ k
polls-same j k e = cc

module _ (side : Side) (log : Log) (collected : ℕ) (r : IsReachable side log) (d : DriverNow) (whole streams : StreamsNow) (x : HoldsStreams side whole log) (o : OpeningNow) (out : TakenOut whole streams o)
    (may : may_call side log (calls.PollOpening o.opening.id) ≡ true) where
  abbrev polled : Call
  polled = calls.PollOpening o.opening.id

  abbrev h : Held
  h = held_by side log

  -- the application has it
  pub has-it : HasOpening o.bidirectional o.opening side log
  has-it = (x.opens o.opening.id o out.had).1

  module _ (new : StreamsNow) (os : new.openings ≡ streams.openings) where
    -- it isn't among the openings any more
    openings-left : (k : ℕ) → session_of (value_at new.openings k) ≡ ending o.opening.id h.openings k
    openings-left k = ap (λ (rows : List (List (Option OpeningNow))). session_of (value_at rows k)) os ∙ ap session_of (out.openings k) ∙ by (o.opening.id == k)
      where
        by : (b : Bool) → session_of (if b then None else value_at whole.openings k) ≡ (if b then None else h.openings k)
        by true = refl
        by false = x.finds.openings k

    -- and each other is
    others : (k : ℕ) (p : OpeningNow) → value_at new.openings k ≡ Some p → (value_at whole.openings k ≡ Some p) × (polled ≡ calls.PollOpening k → ⊥)
    others k p is = by (o.opening.id == k) refl (sym (out.openings k) ∙ ap (λ (rows : List (List (Option OpeningNow))). value_at rows k) (sym os) ∙ is)
      where
        by : (b : Bool) → (o.opening.id == k) ≡ b → (if b then None else value_at whole.openings k) ≡ Some p → (value_at whole.openings k ≡ Some p) × (polled ≡ calls.PollOpening k → ⊥)
        by true e q = absurd cc
        by false e q = (q, λ t. true≢false (sym (eq-eqb o.opening.id k (polls-same o.opening.id k t)) ∙ e))

    polled-so : (answer : Reply) → Did side d collected answer (call_effect side log polled) → FindsStreams new (held_after polled answer h) → Answered side log collected polled answer d new
    polled-so answer did finds = record { did = did; holds = streams-after side log r polled may whole new x answer did.reply finds (λ k p is. inl (others k p is)) }

    -- its sending half is the application's
    pub send-ready : (id send : ℕ) → id ≡ send → HasPut streams.sends new.sends send (Some send) → new.recvs ≡ streams.recvs → Did side d collected (replies.SendReady send) (call_effect side log polled)
        → Answered side log collected polled (replies.SendReady id) d new
    send-ready id send same put rs did = polled-so (replies.SendReady id) (subst (λ (n : ℕ). Did side d collected (replies.SendReady n) (call_effect side log polled)) (sym same) did) (record {
      sends = half-put whole.sends new.sends (has_sending_half side log) id x.finds.sends
          (subst (λ (n : ℕ). HasPut whole.sends new.sends n (Some n)) (sym same) (subst (λ (rows : List (List (Option ℕ))). HasPut rows new.sends send (Some send)) out.sends put));
      recvs = λ k. ap (λ (rows : List (List (Option ℕ))). value_at rows k) (rs ∙ out.recvs) ∙ x.finds.recvs k;
      openings = openings-left;
    })

    -- both of its halves are
    both-ready : (id recv : ℕ) → recv ≡ id → HasPut streams.sends new.sends id (Some id) → HasPut streams.recvs new.recvs recv (Some recv) → Did side d collected (replies.BiReady id) (call_effect side log polled)
        → Answered side log collected polled (replies.BiReady id) d new
    both-ready id recv same ps pr did = polled-so (replies.BiReady id) did (record {
      sends = half-put whole.sends new.sends (has_sending_half side log) id x.finds.sends (subst (λ (rows : List (List (Option ℕ))). HasPut rows new.sends id (Some id)) out.sends ps);
      recvs = half-put whole.recvs new.recvs (has_receiving_half side log) id x.finds.recvs
          (subst (λ (n : ℕ). HasPut whole.recvs new.recvs n (Some n)) same (subst (λ (rows : List (List (Option ℕ))). HasPut rows new.recvs recv (Some recv)) out.recvs pr));
      openings = openings-left;
    })

  -- they were handed out one after the other
  pub bi-ready : (mid new : StreamsNow) (id send recv : ℕ) → id ≡ send → recv ≡ send → HasPut streams.sends mid.sends send (Some send) → mid.recvs ≡ streams.recvs → mid.openings ≡ streams.openings
      → HasPut mid.recvs new.recvs recv (Some recv) → new.sends ≡ mid.sends → new.openings ≡ mid.openings → Did side d collected (replies.BiReady send) (call_effect side log polled) → Answered side log collected polled (replies.BiReady id) d new
  bi-ready mid new id send recv same both ps mr mo pr ns os did =
      both-ready new (os ∙ mo) id recv (both ∙ sym same)
      (subst (λ (rows : List (List (Option ℕ))). HasPut streams.sends rows id (Some id)) (sym ns) (subst (λ (n : ℕ). HasPut streams.sends mid.sends n (Some n)) (sym same) ps))
      (subst (λ (rows : List (List (Option ℕ))). HasPut rows new.recvs recv (Some recv)) mr pr) (subst (λ (n : ℕ). Did side d collected (replies.BiReady n) (call_effect side log polled)) (sym same) did)

  -- nothing comes of it
  pub opening-failed : (e : StreamOpeningError) → Did side d collected (replies.OpeningFailed e) (call_effect side log polled) → Answered side log collected polled (replies.OpeningFailed e) d streams
  opening-failed e did = polled-so streams refl (replies.OpeningFailed e) did (record {
    sends = λ k. ap (λ (rows : List (List (Option ℕ))). value_at rows k) out.sends ∙ x.finds.sends k;
    recvs = λ k. ap (λ (rows : List (List (Option ℕ))). value_at rows k) out.recvs ∙ x.finds.recvs k;
    openings = openings-left streams refl;
  })

  -- it waits
  module _ (before : DriverNow) (f : Follows side before log collected) (next : OpeningStream) (same : record next { left = o.opening.left } ≡ o.opening)
      (rest : HasOpening o.bidirectional o.opening side log → next.left ≡ drop (length (bytes_within_credit log o.opening.id o.opening.left)) o.opening.left) (did : Did side d collected replies.Pending (call_effect side log polled)) where
    abbrev goes-on : OpeningNow
    goes-on = record { bidirectional = o.bidirectional; opening = next }

    has-on : HasOpening o.bidirectional next side (call_effect side log polled).log
    has-on = opens-on o.bidirectional o.opening before side log collected f r has-it next same (rest has-it) did.reply

    module _ (new : StreamsNow) (put : HasPut streams.openings new.openings o.opening.id (Some goes-on)) where
      -- what is kept of the others
      beside : (k : ℕ) → (o.opening.id == k) ≡ false → value_at new.openings k ≡ value_at whole.openings k
      beside k e = put k ∙ ap (λ (b : Bool). if b then Some goes-on else value_at streams.openings k) e ∙ out.openings k ∙ ap (λ (b : Bool). if b then None else value_at whole.openings k) e

      itself : (k : ℕ) → (o.opening.id == k) ≡ true → value_at new.openings k ≡ Some goes-on
      itself k e = put k ∙ ap (λ (b : Bool). if b then Some goes-on else value_at streams.openings k) e

      openings-on : (k : ℕ) → session_of (value_at new.openings k) ≡ h.openings k
      openings-on k = by (o.opening.id == k) refl
        where
          by : (b : Bool) → (o.opening.id == k) ≡ b → session_of (value_at new.openings k) ≡ h.openings k
          by true e =
              ap session_of (itself k e) ∙ ap (λ (x : OpeningStream). Some x.session) same
              ∙ sym (ap session_of out.had) ∙ x.finds.openings o.opening.id ∙ ap h.openings (eqb-true o.opening.id k e)
          by false e = ap session_of (beside k e) ∙ x.finds.openings k

      kept-on : (k : ℕ) (p : OpeningNow) → value_at new.openings k ≡ Some p
          → ((value_at whole.openings k ≡ Some p) × (polled ≡ calls.PollOpening k → ⊥)) ⊎ ((p.opening.id ≡ k) × HasOpening p.bidirectional p.opening side (call_effect side log polled).log)
      kept-on k p is = by (o.opening.id == k) refl
        where
          by : (b : Bool) → (o.opening.id == k) ≡ b
              → ((value_at whole.openings k ≡ Some p) × (polled ≡ calls.PollOpening k → ⊥)) ⊎ ((p.opening.id ≡ k) × HasOpening p.bidirectional p.opening side (call_effect side log polled).log)
          by true e =
              let q : Some goes-on ≡ Some p = sym (itself k e) ∙ is in
              let one : goes-on ≡ p = cc in
              inr (subst (λ (y : OpeningNow). (y.opening.id ≡ k) × HasOpening y.bidirectional y.opening side (call_effect side log polled).log) one
              (ap (λ (y : OpeningStream). y.id) same ∙ eqb-true o.opening.id k e, has-on))
          by false e = inl (sym (beside k e) ∙ is, λ t. true≢false (sym (eq-eqb o.opening.id k (polls-same o.opening.id k t)) ∙ e))

      pub waits-on : new.sends ≡ streams.sends → new.recvs ≡ streams.recvs → Answered side log collected polled replies.Pending d new
      waits-on ss rs = record {
        did = did;
        holds = streams-after side log r polled may whole new x replies.Pending did.reply
            (record {
              sends = λ k. ap (λ (rows : List (List (Option ℕ))). value_at rows k) (ss ∙ out.sends) ∙ x.finds.sends k;
              recvs = λ k. ap (λ (rows : List (List (Option ℕ))). value_at rows k) (rs ∙ out.recvs) ∙ x.finds.recvs k;
              openings = openings-on;
            })
            kept-on;
      }

-- ---- a poll of what is kept

none-of : (v : Option ℕ) → is_some v ≡ false → v ≡ None
none-of None e = refl
none-of (Some s) e = absurd cc

-- what a poll is without a session, and without this stream
polls-nobody : (side : Side) (log : Log) (id : ℕ) → named_session log None ≡ None → poll_only side log replies.NoSession ≡ call_effect side log (calls.PollOpening id)
unfolding call_effect
polls-nobody side log id e = ap (in_session side log (λ (s : ℕ). poll_opening side log id)) (sym e)

polls-nothing : (side : Side) (log : Log) (id : ℕ) → is_some (named_session log None) ≡ true → opening_session log id ≡ None → poll_only side log replies.NoStream ≡ call_effect side log (calls.PollOpening id)
unfolding call_effect
polls-nothing side log id some n = ap (poll_for side log id) (sym n) ∙ by (named_session log None) some
  where
    by : (o : Option ℕ) → is_some o ≡ true → poll_opening side log id ≡ in_session side log (λ (s : ℕ). poll_opening side log id) o
    by None e = absurd cc
    by (Some s) e = refl

module _ (side : Side) (log : Log) (collected : ℕ) (d : DriverNow) (f : Follows side d log collected) (r : IsReachable side log) (sessions : SessionsNow) (xs : HoldsSessions side sessions log) (old : StreamsNow) (x : HoldsStreams side old log)
    (id : ℕ) (may : may_call side log (calls.PollOpening id) ≡ true) where
  abbrev Polls : Reply → StreamsNow → Type 0
  Polls reply new = Answered side log collected (calls.PollOpening id) reply d new

  -- it does nothing
  rested : (reply : Reply) → poll_only side log reply ≡ call_effect side log (calls.PollOpening id) → Rests d → Did side d collected reply (call_effect side log (calls.PollOpening id))
  rested reply e rests = subst (λ (y : Effect). Did side d collected reply y) e (record { reply = refl; log = rests Polled refl side log collected f (within side log r) })

  -- no session was established, so that no stream is being opened
  pub nobody-polled : (v : Option ℕ) → v ≡ sessions.first → is_some v ≡ false → Rests d → Polls replies.NoSession old
  nobody-polled v e n rests =
      let none : named_session log None ≡ None = sym xs.first ∙ sym e ∙ none-of v n in
      let did = rested replies.NoSession (polls-nobody side log id none) rests in
      record {
        did = did;
        holds = streams-after side log r (calls.PollOpening id) may old old x replies.NoSession did.reply x.finds (λ k p is. absurd ((x.opens k p is).1.session none));
      }

  -- this stream isn't being opened
  module _ (new : StreamsNow) (put : HasPut old.openings new.openings id None) (ss : new.sends ≡ old.sends) (rs : new.recvs ≡ old.recvs) where
    pub nothing-polled : (u : Option ℕ) (v : Option OpeningNow) → u ≡ sessions.first → is_some u ≡ true → v ≡ value_at old.openings id → v ≡ None → Rests d → Polls replies.NoStream new
    nothing-polled u v e some is none rests =
        let absent : value_at old.openings id ≡ None = sym is ∙ none in
        let same = none-out old.openings new.openings id absent put in
        let did = rested replies.NoStream (polls-nothing side log id (ap is_some (sym (e ∙ xs.first)) ∙ some) (sym (x.finds.openings id) ∙ ap session_of absent)) rests in
        record {
          did = did;
          holds = streams-after side log r (calls.PollOpening id) may old new x replies.NoStream did.reply
              (record {
                sends = λ k. ap (λ (rows : List (List (Option ℕ))). value_at rows k) ss ∙ x.finds.sends k;
                recvs = λ k. ap (λ (rows : List (List (Option ℕ))). value_at rows k) rs ∙ x.finds.recvs k;
                openings = λ k. ap session_of (same k) ∙ x.finds.openings k;
              })
              (λ k p there. inl (sym (same k) ∙ there, λ t. let q : None ≡ Some p = sym absent ∙ ap (value_at old.openings) (polls-same id k t) ∙ sym (same k) ∙ there in cc));
        }

-- it is, and was taken out
pub taken-polled : {E : Type 0} (d later : DriverNow) (sessions : SessionsNow) (old new after : StreamsNow) (id : ℕ) (v : Option OpeningNow) (o there : OpeningNow) (result : Result Reply E) → HasPut old.openings new.openings id None
    → new.sends ≡ old.sends → new.recvs ≡ old.recvs → v ≡ value_at old.openings id → v ≡ Some there → o ≡ there → OpeningAnswers o d new result later after → NamedAnswers d sessions old (calls.PollOpening id) result later after
taken-polled d later sessions old new after id v o there (Ok reply) put ss rs is some same a = λ side log collected f r xs x may.
    let had : value_at old.openings id ≡ Some o = sym is ∙ some ∙ ap (λ (y : OpeningNow). Some y) (sym same) in
    let one : o.opening.id ≡ id = (x.opens id o had).0 in
    subst (λ (k : ℕ). Answered side log collected (calls.PollOpening k) reply later after) one
    (a side log collected old f r x
    (record {
      had = ap (value_at old.openings) one ∙ had;
      openings = subst (λ (k : ℕ). HasPut old.openings new.openings k None) (sym one) put;
      sends = ss;
      recvs = rs;
    })
    (subst (λ (k : ℕ). may_call side log (calls.PollOpening k) ≡ true) (sym one) may))
taken-polled d later sessions old new after id v o there (Err e) put ss rs is some same a = tt
