-- The application ends a session: one that lives becomes gone, and one that is gone already leaves the driver as it is.
use Rattle.std.proofs.Common.{◌∙◌, ◌≡◌, ◌++◌, ◌∷◌, Bool, List, Option, Some, [], ap, false, filter, filter_map, refl, subst, sym, true, ℕ}
use Rattle.std.proofs.lemmas.Bool.{eqb-true, true≢false}
use Rattle.std.specs.Prelude.{◌&&◌, ◌==◌, ◌||◌, if◌then◌else◌, not}
use Rattle.wt_driver_laws.proofs.AcceptFirst.{lives-so}
use Rattle.wt_driver_laws.proofs.Reach.{reached_holds}
use Rattle.wt_driver_laws.proofs.ReachRecords.{may_after_sent, may_end}
use Rattle.wt_driver_laws.proofs.ReachSessions.{established_lives, has_established}
use Rattle.wt_driver_laws.proofs.SessionEnds.{gone-of-state, open-same}
use Rattle.wt_driver_laws.proofs.TurnCollected.{follows-more}
use Rattle.wt_driver_laws.specs.Calling.{Did, Does}
use Rattle.wt_driver_laws.specs.Driving.{Follows, IsReachable, uncollected_since}
use Rattle.wt_driver_laws.specs.Having.{HasSession}
use Rattle.wt_driver_laws.specs.Replies.{done_reply}
use Rattle.wt_follows.proofs.EndSession.{alone, end-session-follows}
use Rattle.wt_follows.proofs.Lists.{filter-implied, filter-swap, refuted}
use Rattle.wt_follows.proofs.PutFollows.{actions-with}
use Rattle.wt_follows.proofs.RecordTold.{told-amid}
use Rattle.wt_follows.proofs.RestingCall.{SameSources, record-alone, resting-call-follows}
use Rattle.wt_follows.proofs.Retire.{may_retire}
use Rattle.wt_follows.proofs.SessionCalls.{end-ends, ended-amid}
use Rattle.wt_follows.proofs.Unnoticed.{unnoticed-follows}
use Rattle.wt_follows.specs.Roles.{is_living}
use Rattle.wt_follows.specs.Tie as tie
use Rattle.wt_kept.specs.Calling.{end_session_now}
use Rattle.wt_kept.specs.Ending.{finish_and_retire}
use Rattle.wt_kept.specs.Kept.{DriverNow, Ended}
use Rattle.wt_kept.specs.Moment.{with_work}
use Rattle.wt_kept.specs.Windows.{lives_now}
use Rattle.wt_turn.specs.Joined.{newest_first}
use Rattle.wt_sessions.proofs.Turns.{Holds}
use Rattle.wt_sessions.specs.Answers.{call_effect, in_session}
use Rattle.wt_sessions.specs.Connection.{end_session, session_end_actions}
use Rattle.wt_sessions.specs.Driver.{call_view, dispatched, is_session_gone, sessions_of, stream_table, transport_view}
use Rattle.wt_sessions.specs.Driver as drivers
use Rattle.wt_sessions.specs.DriverState.{DriverState, state_of}
use Rattle.wt_sessions.specs.Effect.{Effect, log_call, poll_only, reply_with}
use Rattle.wt_sessions.specs.Moment.{Fits, is_known}
use Rattle.wt_sessions.specs.Scan.{session_end}
use Rattle.wt_sessions.specs.Step.{gone_now}
use Rattle.wt_sessions.specs.StreamTable.{Admitted, Session, Waiting, gone_actions, queued_id, waits_in, was_established}
use Rattle.wt_turn.specs.Log.{Called, Log, Polled, RequestRejected, actions_of, is_open, with_actions}
use Rattle.wt_turn.specs.declared.action.Action.{Action}
use Rattle.wt_turn.specs.declared.call.Call.TheVariants as calls
use Rattle.wt_turn.specs.declared.reply.Reply.TheVariants as replies
use Rattle.wt_wire.specs.declared.side.Side.{Side}

-- ---- what is gone already becomes gone no more

-- what one filter leaves a weaker one leaves, too
left-alike : {X : Type 0} (p q : X → Bool) → ((x : X) → p x ≡ true → q x ≡ true) → (xs : List X) → filter q (filter p xs) ≡ filter p xs
left-alike p q implies xs = filter-swap q p xs ∙ filter-implied p q implies xs

module _ (side : Side) (log : Log) (k : ℕ) (gone : is_session_gone side log k ≡ true) where
  -- what isn't gone is another
  another : (j : ℕ) → not (is_session_gone side log j) ≡ true → not (k == j) ≡ true
  another j e = by (k == j) refl
    where
      by : (b : Bool) → (k == j) ≡ b → not b ≡ true
      by true f = absurd (true≢false (sym e ∙ ap not (ap (is_session_gone side log) (sym (eqb-true k j f)) ∙ gone)))
      by false f = refl

  gone-still : (j : ℕ) → (is_session_gone side log j || (k == j)) ≡ is_session_gone side log j
  gone-still j = by (is_session_gone side log j) refl (k == j) refl
    where
      by : (g : Bool) → is_session_gone side log j ≡ g → (b : Bool) → (k == j) ≡ b → (g || b) ≡ g
      by true e b f = refl
      by false e false f = refl
      by false e true f = absurd (true≢false (sym (ap (is_session_gone side log) (sym (eqb-true k j f)) ∙ gone) ∙ e))

  datagrams-another : (x : Admitted) → (not ((call_view log).received x.index) && not (is_session_gone side log x.session)) ≡ true → not (k == x.session) ≡ true
  datagrams-another x e = another x.session (second (not ((call_view log).received x.index)) (not (is_session_gone side log x.session)) e)
    where
      second : (a b : Bool) → (a && b) ≡ true → b ≡ true
      second true b h = h
      second false b h = absurd (true≢false (sym h))

  -- the state is the same
  pub gone-twice : gone_now k (state_of side log) ≡ state_of side log
  unfolding state_of
  gone-twice = λ i. record (state_of side log) {
    dispatched = record (dispatched side log) {
      held = left-alike (λ (h : ℕ). not (is_session_gone side log h)) (λ (h : ℕ). not (k == h)) another (filter_map queued_id (stream_table side log).classified) i;
      streams = left-alike (λ (w : Waiting). not (is_session_gone side log w.session)) (λ (w : Waiting). not (k == w.session)) (λ w e. another w.session e) (filter_map (waits_in (call_view log)) (stream_table side log).classified) i;
      datagrams = left-alike (λ (x : Admitted). not ((call_view log).received x.index) && not (is_session_gone side log x.session)) (λ (x : Admitted). not (k == x.session)) datagrams-another (stream_table side log).datagrams i;
      is_gone = λ j. gone-still j i;
    };
    sessions = left-alike (λ (x : Session). not (is_session_gone side log x.id)) (λ (x : Session). not (k == x.id)) (λ x e. another x.id e) (call_view log).sessions i;
  }

  pub same-when-gone : SameSources (state_of side log) (gone_now k (state_of side log))
  same-when-gone = record {
    unis = refl;
    bis = refl;
    sessions = ap (λ (z : DriverState). z.sessions) gone-twice;
    control = refl;
    encoder = refl;
    decoder = refl;
    progress = refl;
    sent = refl;
    is_open = refl;
  }

-- ---- the record of a session that is gone already

module _ (side : Side) (d : DriverNow) (log : Log) (collected : ℕ) (f : Follows side d log collected) (fits : Fits side log) where
  -- nothing goes out with a poll, and the driver follows the log with it
  pub polled : Follows side d (log_call side log [] Polled) collected
  polled = follows-more side d d log (log_call side log [] Polled) collected [] f (ap actions_of alone-so) (unnoticed-follows side log Polled refl d (uncollected_since collected log) f.kept fits)
    where
      alone-so : log_call side log [] Polled ≡ Called Polled ∷ log
      alone-so = record-alone side log Polled d (uncollected_since collected log) f.kept (tt, fits)
          (record { unis = refl; bis = refl; sessions = refl; control = refl; encoder = refl; decoder = refl; progress = refl; sent = refl; is_open = refl })

  module _ (k : ℕ) (gone : is_session_gone side log k ≡ true) (known : is_known side log k ≡ true) where
    gone-amid : tie.Amid side d (Called (RequestRejected k) ∷ log) (gone_now k (state_of side log)) [] f.kept.position (uncollected_since collected log)
    gone-amid = told-amid side log (RequestRejected k) (record { gives = λ j. refl; reads = λ j. refl; resets = λ j. refl; priorities = λ j. refl }) d (gone_now k (state_of side log)) f.kept.position (uncollected_since collected log)
        (subst (λ (z : DriverState). tie.Amid side d log z [] f.kept.position (uncollected_since collected log)) (sym (gone-twice side log k gone)) f.kept.amid)

    pub rejected-again : Follows side d (log_call side log [] (RequestRejected k)) collected
    rejected-again = follows-more side d d log (log_call side log [] (RequestRejected k)) collected [] f
        (ap actions_of (record-alone side log (RequestRejected k) d (uncollected_since collected log) f.kept (known, fits) (same-when-gone side log k gone)))
        (resting-call-follows side log (RequestRejected k) fits known d (uncollected_since collected log) f.kept d.work refl (λ x. x) (gone_now k (state_of side log)) refl (same-when-gone side log k gone) gone-amid)

-- ---- where nothing ends the driver stays as it is

as-it-is : (s : ℕ) (d : DriverNow) → (d.work.transport.is_open && lives_now d.work.dispatched.sessions s) ≡ false → end_session_now s d ≡ d
unfolding end_session_now
as-it-is s d e = λ i. if e i then with_work (finish_and_retire s Ended) d else d

closed-as-it-is : (s : ℕ) (d : DriverNow) → d.work.transport.is_open ≡ false → end_session_now s d ≡ d
closed-as-it-is s d e = as-it-is s d (ap (λ b. b && lives_now d.work.dispatched.sessions s) e)

dead-as-it-is : (s : ℕ) (d : DriverNow) → lives_now d.work.dispatched.sessions s ≡ false → end_session_now s d ≡ d
dead-as-it-is s d e = as-it-is s d (ap (λ b. d.work.transport.is_open && b) e ∙ none (d.work.transport.is_open))
  where
    none : (b : Bool) → (b && false) ≡ false
    none true = refl
    none false = refl

-- ---- a session that lives

module _ (side : Side) (d : DriverNow) (log : Log) (collected : ℕ) (f : Follows side d log collected) (reached : IsReachable side log) (s : ℕ) (established : was_established (call_view log) s ≡ true) where
  held : Holds side log
  held = reached_holds side log reached

  uncollected : List Action
  uncollected = uncollected_since collected log

  module _ (opened : is_open log ≡ true) (remains : is_session_gone side log s ≡ false) where
    lives : is_living (state_of side log) s ≡ true
    lives = established_lives side log s established remains

    abbrev ending : List Action
    ending = session_end_actions side log s

    -- the same, by the state
    abbrev by_state : List Action
    by_state = session_end (transport_view side log) s false ++ gone_actions (transport_view side log) (state_of side log).dispatched s

    ending-is : by_state ≡ ending
    unfolding state_of
    ending-is = refl

    known : (own : List Action) → is_known side (with_actions own log) s ≡ true
    known own = may_after_sent side own log (RequestRejected s) (may_end side log reached s established)

    state-ended : (own : List Action) → by_state ≡ own → tie.Follows side (end_session_now s d) (log_call side log own (RequestRejected s)) (newest_first own (uncollected_since collected log))
    state-ended own e = subst (λ (xs : List Action). tie.Follows side (end_session_now s d) (log_call side log xs (RequestRejected s)) (newest_first xs (uncollected_since collected log))) e
        (end-session-follows side d log (uncollected_since collected log) f.kept held.fits opened s lives (known by_state))

    alone-so : (own : List Action) → by_state ≡ own → log_call side log own (RequestRejected s) ≡ Called (RequestRejected s) ∷ with_actions own log
    alone-so own e = subst (λ (xs : List Action). log_call side log xs (RequestRejected s) ≡ Called (RequestRejected s) ∷ with_actions xs log) e
        (alone side d log (uncollected_since collected log) f.kept held.fits opened s
        (may_retire side d.work log (state_of side log) [] f.kept.position (uncollected_since collected log) f.kept.amid.work s (f.kept.amid.work.is_open_same ∙ opened) lives)
        by_state
        (end-ends side d log (state_of side log) f.kept.position (uncollected_since collected log) f.kept.amid s) (finish_and_retire s Ended d.work) refl
        (ended-amid side d log (state_of side log) f.kept.position (uncollected_since collected log) f.kept.amid s (f.kept.amid.work.is_open_same ∙ opened) lives) (known by_state))

    pub living-ended : Follows side (end_session_now s d) (log_call side log ending (RequestRejected s)) collected
    living-ended = follows-more side d (end_session_now s d) log (log_call side log ending (RequestRejected s)) collected ending f (ap actions_of (alone-so ending ending-is) ∙ actions-with ending log) (state-ended ending ending-is)

  -- ---- all of them

  -- whether it lives, by the log
  living-is : (g : Bool) → is_session_gone side log s ≡ g → drivers.is_living side log s ≡ not g
  living-is g e = λ i. established i && not (e i)

  gone-ended : (opened : is_open log ≡ true) → is_session_gone side log s ≡ true → Follows side (end_session_now s d) (log_call side log [] (RequestRejected s)) collected
  gone-ended opened gone = subst (λ (x : DriverNow). Follows side x (log_call side log [] (RequestRejected s)) collected) (sym (dead-as-it-is s d dead))
      (rejected-again side d log collected f held.fits s gone (may_end side log reached s established))
    where
      dead : lives_now d.work.dispatched.sessions s ≡ false
      dead = lives-so side d log collected f s
          ∙ refuted (is_living (state_of side log) s) (λ e. true≢false (sym (gone-of-state side log s ∙ gone) ∙ f.kept.amid.work.keeps.alive s e))

  open-ended : (opened : is_open log ≡ true) (g : Bool) → is_session_gone side log s ≡ g → Follows side (end_session_now s d) (log_call side log (if not g then session_end_actions side log s else []) (RequestRejected s)) collected
  open-ended opened false e = living-ended opened e
  open-ended opened true e = gone-ended opened e

  pub ended : Did side (end_session_now s d) collected replies.Done (end_session side log s)
  ended = by (is_open log) refl
    where
      by : (b : Bool) → is_open log ≡ b
          → Did side (end_session_now s d) collected replies.Done
          (if b then reply_with (log_call side log (if drivers.is_living side log s then session_end_actions side log s else []) (RequestRejected s)) replies.Done else poll_only side log replies.Done)
      by false e = record {
        reply = refl;
        log = subst (λ (x : DriverNow). Follows side x (log_call side log [] Polled) collected) (sym (closed-as-it-is s d (open-same side d log collected f ∙ e))) (polled side d log collected f held.fits);
      }
      by true e = record {
        reply = refl;
        log = subst (λ (b : Bool). Follows side (end_session_now s d) (log_call side log (if b then session_end_actions side log s else []) (RequestRejected s)) collected)
            (sym (living-is (is_session_gone side log s) refl)) (open-ended e (is_session_gone side log s) refl);
      }

-- ---- the call

effect-is : (side : Side) (log : Log) (s : ℕ) → HasSession s side log → call_effect side log (calls.EndSession (Some s)) ≡ end_session side log s
unfolding call_effect
effect-is side log s has = ap (λ (o : Option ℕ). in_session side log (end_session side log) o) has

pub end_session_law : (s : ℕ) (d later : DriverNow) → later ≡ end_session_now s d → Does d later (HasSession s) (calls.EndSession (Some s)) done_reply tt
end_session_law s d later step side log collected f reached has =
    subst (λ (x : DriverNow). Did side x collected replies.Done (call_effect side log (calls.EndSession (Some s)))) (sym step)
    (subst (λ (x : Effect). Did side (end_session_now s d) collected replies.Done x) (sym (effect-is side log s has)) (ended side d log collected f reached s (has_established side log s has)))
