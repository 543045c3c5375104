-- What the application is handed: a stream that was accepted.
use Rattle.std.proofs.Common.{◌∙◌, ap, inl, refl, subst, sym}
use Rattle.std.specs.Prelude.{◌≡◌, Err, List, Ok, Option, Result, Some, true, ℕ}
use Rattle.wt_driver_laws.specs.Calling.{Did}
use Rattle.wt_driver_laws.specs.Driving.{IsReachable}
use Rattle.wt_driver_laws.specs.Replies.{poll_reply}
use Rattle.wt_kept.specs.Kept.{DriverNow}
use Rattle.wt_core.proofs.Given.{as-call}
use Rattle.wt_core.proofs.Kept.{half-put, streams-after}
use Rattle.wt_core.proofs.OnSessions.{session-other}
use Rattle.wt_core.specs.Answering.{Answered}
use Rattle.wt_core.specs.Held.{Held, held_after, with_one}
use Rattle.wt_core.specs.HeldNow.{FindsStreams, HoldsStreams, OpeningNow, StreamsNow, held_by, session_of}
use Rattle.wt_core.specs.Rows.{HasPut, value_at}
use Rattle.wt_sessions.specs.Answers.{call_effect, may_call}
use Rattle.wt_sessions.specs.Halves.{has_receiving_half, has_sending_half}
use Rattle.wt_turn.specs.Log.{Log}
use Rattle.wt_turn.specs.declared.call.Call.{Call}
use Rattle.wt_turn.specs.declared.call.Call.TheVariants as calls
use Rattle.wt_turn.specs.declared.connection_error.ConnectionError.{ConnectionError}
use Rattle.wt_turn.specs.declared.poll.Poll.{Poll}
use Rattle.wt_turn.specs.declared.poll.Poll.TheVariants.{Pending, Ready}
use Rattle.wt_turn.specs.declared.reply.Reply.{Reply}
use Rattle.wt_turn.specs.declared.reply.Reply.TheVariants as replies
use Rattle.wt_wire.specs.declared.side.Side.{Side}

module _ (side : Side) (log : Log) (collected : ℕ) (r : IsReachable side log) (call : Call) (may : may_call side log call ≡ true) (d : DriverNow) (old new : StreamsNow) (x : HoldsStreams side old log) (other : (j : ℕ) → call ≡ calls.PollOpening j → ⊥)
    (os : new.openings ≡ old.openings) where
  abbrev h : Held
  h = held_by side log

  -- the openings are as they were
  pub handed : (answer : Reply) → Did side d collected answer (call_effect side log call) → FindsStreams new (held_after call answer h) → Answered side log collected call answer d new
  handed answer did finds = record { did = did; holds = streams-after side log r call may old new x answer did.reply finds (λ k o is. inl (ap (λ (rows : List (List (Option OpeningNow))). value_at rows k) (sym os) ∙ is, other k)) }

  openings-found : (k : ℕ) → session_of (value_at new.openings k) ≡ h.openings k
  openings-found k = ap (λ (rows : List (List (Option OpeningNow))). session_of (value_at rows k)) os ∙ x.finds.openings k

  -- a receiving half more
  pub finds-recv : (id : ℕ) → new.sends ≡ old.sends → HasPut old.recvs new.recvs id (Some id) → FindsStreams new (record h { recvs = with_one id h.recvs })
  finds-recv id ss put = record {
    sends = λ k. ap (λ (rows : List (List (Option ℕ))). value_at rows k) ss ∙ x.finds.sends k;
    recvs = half-put old.recvs new.recvs (has_receiving_half side log) id x.finds.recvs put;
    openings = openings-found;
  }

  -- both halves of a stream
  pub finds-both : (id other : ℕ) → other ≡ id → HasPut old.sends new.sends id (Some id) → HasPut old.recvs new.recvs other (Some other) → FindsStreams new (record h { sends = with_one id h.sends; recvs = with_one id h.recvs })
  finds-both id other same ps pr = record {
    sends = half-put old.sends new.sends (has_sending_half side log) id x.finds.sends ps;
    recvs = half-put old.recvs new.recvs (has_receiving_half side log) id x.finds.recvs (subst (λ (n : ℕ). HasPut old.recvs new.recvs n (Some n)) same pr);
    openings = openings-found;
  }

-- ---- what a session's call gives

module _ (side : Side) (log : Log) (collected : ℕ) (r : IsReachable side log) (d : DriverNow) (old : StreamsNow) (x : HoldsStreams side old log) where
  -- it gives nothing
  pub nothing-given : (call : Call) → may_call side log call ≡ true → ((j : ℕ) → call ≡ calls.PollOpening j → ⊥) → (answer reply : Reply) → reply ≡ answer → held_after call reply (held_by side log) ≡ held_by side log
      → Did side d collected answer (call_effect side log call) → Answered side log collected call reply d old
  nothing-given call may other answer reply e quiet did =
      handed side log collected r call may d old old x other refl reply (as-call side log collected d answer reply call call e refl did) (subst (FindsStreams old) (sym quiet) x.finds)

  -- it fails
  pub failed-so : {T : Type 0} (give : T → Reply) (call : Call) → may_call side log call ≡ true → ((j : ℕ) → call ≡ calls.PollOpening j → ⊥) → (a : Poll (Result T ConnectionError)) (q : Result T ConnectionError) (e : ConnectionError)
      → held_after call (replies.Failed e) (held_by side log) ≡ held_by side log → a ≡ Ready q → q ≡ Err e → Did side d collected (poll_reply give a) (call_effect side log call) → Answered side log collected call (replies.Failed e) d old
  failed-so {T} give call may other a q e quiet is qs did =
      nothing-given call may other (poll_reply give a) (replies.Failed e)
      (ap (λ (y : Poll (Result T ConnectionError)). poll_reply give y) (sym (is ∙ ap (λ (y : Result T ConnectionError). Ready y) qs))) quiet did

  -- nothing is there yet
  pub pending-so : {T : Type 0} (give : T → Reply) (call : Call) → may_call side log call ≡ true → ((j : ℕ) → call ≡ calls.PollOpening j → ⊥) → (a : Poll (Result T ConnectionError))
      → held_after call replies.Pending (held_by side log) ≡ held_by side log → a ≡ Pending → Did side d collected (poll_reply give a) (call_effect side log call) → Answered side log collected call replies.Pending d old
  pending-so {T} give call may other a quiet is did =
      nothing-given call may other (poll_reply give a) replies.Pending (ap (λ (y : Poll (Result T ConnectionError)). poll_reply give y) (sym is)) quiet did

  -- a unidirectional stream that is accepted
  pub uni-handed : (new : StreamsNow) (s : ℕ) → may_call side log (calls.AcceptUni (Some s)) ≡ true → (a : Poll (Result ℕ ConnectionError)) (q : Result ℕ ConnectionError) (recv id : ℕ) → a ≡ Ready q → q ≡ Ok recv
      → Did side d collected (poll_reply (λ (n : ℕ). replies.Uni n) a) (call_effect side log (calls.AcceptUni (Some s))) → id ≡ recv → HasPut old.recvs new.recvs recv (Some recv) → new.sends ≡ old.sends → new.openings ≡ old.openings
      → Answered side log collected (calls.AcceptUni (Some s)) (replies.Uni id) d new
  uni-handed new s may a q recv id is qs did same put ss os =
      let call = calls.AcceptUni (Some s) in
      let e : replies.Uni id ≡ poll_reply (λ (n : ℕ). replies.Uni n) a
      = ap (λ (n : ℕ). replies.Uni n) same ∙ ap (λ (y : Poll (Result ℕ ConnectionError)). poll_reply (λ (n : ℕ). replies.Uni n) y) (sym (is ∙ ap (λ (y : Result ℕ ConnectionError). Ready y) qs)) in
      handed side log collected r call may d old new x (session-other call (Some s) refl) os (replies.Uni id) (as-call side log collected d (poll_reply (λ (n : ℕ). replies.Uni n) a) (replies.Uni id) call call e refl did)
      (finds-recv side log collected r call may d old new x (session-other call (Some s) refl) os id ss (subst (λ (n : ℕ). HasPut old.recvs new.recvs n (Some n)) (sym same) put))

  -- a bidirectional stream that is accepted
  pub bi-handed : (mid new : StreamsNow) (s : ℕ) → may_call side log (calls.AcceptBi (Some s)) ≡ true → (a : Poll (Result (ℕ × ℕ) ConnectionError)) (q : Result (ℕ × ℕ) ConnectionError) (send recv id : ℕ) → a ≡ Ready q → q ≡ Ok (send, recv)
      → Did side d collected (poll_reply (λ (halves : ℕ × ℕ). replies.Bi halves.0) a) (call_effect side log (calls.AcceptBi (Some s))) → recv ≡ send → id ≡ send
      → HasPut old.sends mid.sends send (Some send) → mid.recvs ≡ old.recvs → mid.openings ≡ old.openings → HasPut mid.recvs new.recvs recv (Some recv) → new.sends ≡ mid.sends → new.openings ≡ mid.openings
      → Answered side log collected (calls.AcceptBi (Some s)) (replies.Bi id) d new
  bi-handed mid new s may a q send recv id is qs did both same ps mr mo pr ns os =
      let call = calls.AcceptBi (Some s) in
      let e : replies.Bi id ≡ poll_reply (λ (halves : ℕ × ℕ). replies.Bi halves.0) a
      = ap (λ (n : ℕ). replies.Bi n) same
      ∙ ap (λ (y : Poll (Result (ℕ × ℕ) ConnectionError)). poll_reply (λ (halves : ℕ × ℕ). replies.Bi halves.0) y) (sym (is ∙ ap (λ (y : Result (ℕ × ℕ) ConnectionError). Ready y) qs)) in
      let sends : HasPut old.sends new.sends id (Some id)
      = subst (λ (rows : List (List (Option ℕ))). HasPut old.sends rows id (Some id)) (sym ns) (subst (λ (n : ℕ). HasPut old.sends mid.sends n (Some n)) (sym same) ps) in
      let recvs : HasPut old.recvs new.recvs recv (Some recv) = subst (λ (rows : List (List (Option ℕ))). HasPut rows new.recvs recv (Some recv)) mr pr in
      handed side log collected r call may d old new x (session-other call (Some s) refl) (os ∙ mo) (replies.Bi id) (as-call side log collected d (poll_reply (λ (halves : ℕ × ℕ). replies.Bi halves.0) a) (replies.Bi id) call call e refl did)
      (finds-both side log collected r call may d old new x (session-other call (Some s) refl) (os ∙ mo) id recv (both ∙ sym same) sends recvs)
