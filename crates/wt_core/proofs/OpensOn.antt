-- A poll of a stream that is being opened and lacks credit: the call records that it was polled, as much of the header is out as credit
-- was left for, and the opening goes on.
use Rattle.std.proofs.Common.{◌∙◌, ap, refl, subst, sym}
use Rattle.std.specs.Option.{option_or}
use Rattle.std.specs.Prelude.{[], ◌∷◌, ◌≡◌, Bool, List, None, Option, Some, drop, false, if◌then◌else◌, length, true, ℕ}
use Rattle.wt_driver_laws.proofs.HalfLogs.{acted, alone, with_transport}
use Rattle.wt_driver_laws.proofs.OpenPolls.{Fails, Gives, PollEnds, Waits, poll-effect, poll-ends}
use Rattle.wt_driver_laws.proofs.Reach.{reached_holds}
use Rattle.wt_driver_laws.proofs.ReachHalves.{opening_laws, opening_sends}
use Rattle.wt_driver_laws.proofs.ReachStays.{opening_left}
use Rattle.wt_driver_laws.proofs.WriteSafe.{write-safe}
use Rattle.wt_driver_laws.specs.Driving.{Follows, IsReachable, uncollected_since}
use Rattle.wt_driver_laws.specs.Having.{HasOpening, IsOpening, OpeningStream}
use Rattle.wt_follows.proofs.PutFollows.{fits-actions}
use Rattle.wt_follows.specs.Tie as tie
use Rattle.wt_kept.specs.Kept.{DriverNow}
use Rattle.wt_meaning.specs.Handshakes.{is_nothing}
use Rattle.wt_core.specs.Held.{opening_in}
use Rattle.wt_session.proofs.Heads.{sent-more-is}
use Rattle.wt_session.proofs.Middle.{calls-stay}
use Rattle.wt_transport.proofs.HalfLaws.{write_refines}
use Rattle.wt_transport.specs.Rules.{actions_of_write, after_write}
use Rattle.wt_turn.specs.Joined.{newest_first, send_of}
use Rattle.wt_turn.specs.Outgoing.{actions_to_send, bytes_within_credit, may_send}
use Rattle.wt_sessions.specs.Answers.{call_effect}
use Rattle.wt_sessions.specs.Connection.{opening_session, stream_header}
use Rattle.wt_sessions.specs.Driver.{first_session}
use Rattle.wt_sessions.specs.Effect.{Effect, head_left, log_call}
use Rattle.wt_sessions.specs.Moment.{Fits}
use Rattle.wt_turn.specs.Log.{CallRecord, Called, Log, Polled, calls_of, with_actions}
use Rattle.wt_turn.specs.declared.action.Action.{Action}
use Rattle.wt_turn.specs.declared.call.Call.TheVariants as calls
use Rattle.wt_turn.specs.declared.reply.Reply.TheVariants as replies
use Rattle.wt_wire.specs.Ids.{is_bidirectional}
use Rattle.wt_wire.specs.declared.side.Side.{Side}

-- a reply that gives the stream isn't pending
gives-none : (b : Bool) (k : ℕ) → (if b then replies.BiReady k else replies.SendReady k) ≡ replies.Pending → ⊥
gives-none true k e = absurd cc
gives-none false k e = absurd cc

-- a record that establishes no session
first-by : (f : Option ℕ) → option_or f None ≡ None → f ≡ None
first-by None e = refl
first-by (Some s) e = absurd cc

module _ (bidirectional : Bool) (o : OpeningStream) (d : DriverNow) (side : Side) (log : Log) (collected : ℕ) (f : Follows side d log collected) (r : IsReachable side log) (has : HasOpening bidirectional o side log) where
  abbrev rest : List ℕ
  rest = o.left

  abbrev left : List Action
  left = uncollected_since collected log

  -- what goes out
  abbrev own : List Action
  own = send_of o.id (bytes_within_credit log o.id rest)

  abbrev sent : Log
  sent = with_actions own log

  abbrev later : DriverNow
  later = with_transport d (after_write d.work.transport o.id rest)

  abbrev effect : Effect
  effect = call_effect side log (calls.PollOpening o.id)

  fits : Fits side log
  fits = (reached_holds side log r).fits

  -- the driver follows the log with it
  follows : may_send side log o.id ≡ true → tie.Follows side later sent (newest_first own left)
  follows may = subst (λ (xs : List Action). tie.Follows side later (with_actions xs log) (newest_first xs left)) (ap (λ (b : Bool). if b then actions_to_send log o.id rest else []) may)
      (acted side d log collected f fits (actions_of_write side log o.id rest) (after_write d.work.transport o.id rest)
      (write-safe side d log left f.kept o.id (opening_laws side log r o.id o.session has.opens).other rest)
      (write_refines side d.work.transport log f.kept.position left f.kept.amid.work.transport o.id rest))

  -- and nothing more goes out
  polled-alone : may_send side log o.id ≡ true → log_call side log own Polled ≡ Called Polled ∷ sent
  polled-alone may = alone side later sent (newest_first own left) (follows may) (fits-actions side own log fits) Polled tt (λ z. refl)

  ends : PollEnds {T = Unit {0}} tt o d side log
  ends = poll-ends {T = Unit {0}} tt o d side log collected f (opening_sends side log r o.id o.session has.opens) (ap is_nothing (sym has.left) ∙ opening_left side log r o.id o.session has.opens)

  log-is : replies.Pending ≡ effect.reply → effect.log ≡ Called Polled ∷ sent
  log-is e = by ends
    where
      replied : (y : Effect) → effect ≡ y → y.reply ≡ replies.Pending
      replied y is = sym (e ∙ ap (λ (x : Effect). x.reply) is)

      by : PollEnds {T = Unit {0}} tt o d side log → effect.log ≡ Called Polled ∷ sent
      by (Fails x polled is) = absurd (let q : replies.OpeningFailed x ≡ replies.Pending = replied _ (poll-effect o bidirectional side log has ∙ is) in cc)
      by (Gives may covered polled is) = absurd (gives-none (is_bidirectional o.id) o.id (replied _ (poll-effect o bidirectional side log has ∙ is)))
      by (Waits may polled is) = ap (λ (x : Effect). x.log) (poll-effect o bidirectional side log has ∙ is) ∙ polled-alone may

  same-calls : calls_of sent ≡ calls_of log
  same-calls = calls-stay own log

  -- the stream is still the application's
  pub opens-on : (next : OpeningStream) → record next { left = o.left } ≡ o → next.left ≡ drop (length (bytes_within_credit log o.id o.left)) o.left → replies.Pending ≡ effect.reply → HasOpening bidirectional next side effect.log
  opens-on next same is e =
      let id : next.id ≡ o.id = ap (λ (x : OpeningStream). x.id) same in
      let session : next.session ≡ o.session = ap (λ (x : OpeningStream). x.session) same in
      subst (λ (l : Log). IsOpening bidirectional l next) (sym (log-is e))
      (record {
        opens = ap (λ (k : ℕ). opening_session (Called Polled ∷ sent) k) id ∙ ap (λ (cs : List CallRecord). opening_in cs o.id) same-calls ∙ has.opens ∙ ap (λ (s : ℕ). Some s) (sym session);
        kind = ap is_bidirectional id ∙ has.kind;
        session = λ n. has.session (ap first_session (sym same-calls) ∙ first-by (first_session (calls_of sent)) n);
        left = (λ i. head_left sent (id i) (stream_header (id i) (session i))) ∙ sent-more-is log o.id (stream_header o.id o.session) o.left has.left (bytes_within_credit log o.id o.left) ∙ sym is;
      })
