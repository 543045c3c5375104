-- A session becomes gone in the midst of a moment: its streams end as the log has it, and the tie holds of what is left.
use Rattle.std.proofs.Common.{◌%◌, ◌∙◌, ◌≡◌, ◌++◌, ◌+◌, ◌∷◌, Bool, List, None, Option, Some, [], ap, false, filter, refl, subst, sym, true, ℕ}
use Rattle.std.proofs.lemmas.Bool.{eqb-true, true≢false}
use Rattle.std.specs.List.{list_any}
use Rattle.std.specs.Prelude.{◌&&◌, ◌==◌, ◌||◌, if◌then◌else◌, not, is_some}
use Rattle.wt_follows.proofs.GoneKeeps.{gone_by, keeps-gone, lives-same, living-filtered, remains-are, waiting_for}
use Rattle.wt_follows.proofs.GoneRoles.{MayRetire, control-gone, gone_position, placed-gone, roles-gone, sends-gone, sessions-gone, sessions-same, there-gone}
use Rattle.wt_follows.proofs.Lists.{any-filter, any-map, distinct-sub, distinct-with-all, in-with-all, refuted}
use Rattle.wt_follows.proofs.StreamEnds.{RunsSo, all_given_up, newest-append, actions-append, actions-events, all-finished, all-open, all-reset, all-sends, end-all, exists-then, give-up-each, give-up-one, receives-then, there}
use Rattle.wt_meaning.specs.Sends.{action_if}
use Rattle.wt_follows.specs.Roles.{AreDistinct, is_arriving, is_in, is_living, is_member, waits}
use Rattle.wt_follows.specs.Tie.{Sends, SessionsFollow, body_of, WorkAmid, closed_by, member_position}
use Rattle.wt_kept.specs.Ending.{give_up_now, finish_and_retire, finish_running, reset_and_retire, Remains, end_streams, give_up_all, remains_of, retire_now}
use Rattle.wt_kept.specs.Kept.{LiveNow, Refused, SessionEndNow, WorkNow}
use Rattle.wt_kept.specs.Ending.{ended_by}
use Rattle.wt_kept.specs.Windows.{end_in, live_in}
use Rattle.wt_transport.proofs.Refining.{finish_refines, refined_may_send}
use Rattle.wt_transport.proofs.StillRunning.{reset_running_refines}
use Rattle.wt_transport.specs.Running.{actions_of_reset_running, reset_running_now, still_receives}
use Rattle.wt_transport.specs.State.{Refines, TransportState}
use Rattle.wt_transport.specs.Step.{after_finish, may_send_now}
use Rattle.wt_turn.specs.Joined.{newest_first}
use Rattle.wt_turn.specs.Reports.{end_of, is_running, stop_of}
use Rattle.wt_turn.specs.Sent.{is_finished, is_reset}
use Rattle.wt_turn.specs.Streams.{can_receive, can_send, contents, exists, local_uni}
use Rattle.wt_turn.specs.Unread.{AtOffset, GivenUp, ReadPosition, is_given_up}
use Rattle.wt_sessions.specs.Driver.{gives_up, still_sends, transport_view}
use Rattle.wt_sessions.specs.DriverState.{DriverState}
use Rattle.wt_sessions.specs.Halves.{total_read}
use Rattle.wt_sessions.specs.Scan.{session_end}
use Rattle.wt_sessions.specs.Step.{gone_now}
use Rattle.wt_sessions.specs.StreamTable.{Closed, Session, TransportView, Waiting, gone_actions, streams_of}
use Rattle.wt_turn.specs.Log.{Called, Log, ResetUnsent, Sent, actions_of, calls_of, events_of, is_open, with_actions}
use Rattle.wt_turn.specs.declared.action.Action.{Action}
use Rattle.wt_wire.specs.Codes.{code_of}
use Rattle.wt_wire.specs.declared.side.Side.{Side}
use Rattle.wt_turn.specs.declared.action.Action.TheVariants as actions
use Rattle.wt_wire.specs.declared.error.ErrorCode.TheVariants as h3

-- What goes out on the session's own stream before its streams end: it says nothing of others.
pub record OnOwn (side : Side) (log : Log) (k : ℕ) (own : List Action) : Type 0 where
  pub open_same : is_open (with_actions own log) ≡ is_open log
  pub sends : (j : ℕ) → (k == j) ≡ false → still_sends side (with_actions own log) j ≡ still_sends side log j
  pub finished : (j : ℕ) → (k == j) ≡ false → is_finished (actions_of (with_actions own log)) j ≡ is_finished (actions_of log) j
  pub reset : (j : ℕ) → (k == j) ≡ false → is_reset (with_actions own log) j ≡ is_reset log j

-- nothing goes out on it
pub nothing-own : (side : Side) (log : Log) (k : ℕ) → OnOwn side log k []
nothing-own side log k = record { open_same = refl; sends = λ j e. refl; finished = λ j e. refl; reset = λ j e. refl }

module _ (side : Side) (w : WorkNow) (log : Log) (s : DriverState) (sent : List Action) (position : ℕ → ReadPosition) (uncollected : List Action) (a : WorkAmid side w log s sent position uncollected)
    (k : ℕ) (may : MayRetire side log s k) where
  -- a stream of the session
  abbrev IsIts : ℕ → Type 0
  IsIts j = is_in j (streams_of s.dispatched k) ≡ true

  -- it waits for the session, or is a member
  its : {X : Type 0} (j : ℕ) → IsIts j → (waits s j ≡ true → X) → (is_member s k j ≡ true → X) → X
  its {X} j e f g = by (is_in j (waiting_for s.dispatched k)) refl (sym (in-with-all j (waiting_for s.dispatched k) (s.dispatched.members k)) ∙ e)
    where
      by : (b : Bool) → is_in j (waiting_for s.dispatched k) ≡ b → (b || is_in j (s.dispatched.members k)) ≡ true → X
      by true t u = f (any-filter (λ (v : Waiting). v.id == j) (λ (v : Waiting). v.session == k) s.dispatched.streams
          (sym (any-map (λ (v : Waiting). v.id) j (filter (λ (v : Waiting). v.session == k) s.dispatched.streams)) ∙ t))
      by false t u = g u

  -- the transport gave a stream of the session up where the application did
  member-given : (j : ℕ) → is_given_up (member_position side log j) ≡ list_any (gives_up j) (calls_of log)
  member-given j = by (list_any (gives_up j) (calls_of log))
    where
      by : (b : Bool) → is_given_up (if b then GivenUp else AtOffset (body_of side log j + total_read j (calls_of log))) ≡ b
      by true = refl
      by false = refl

  waiting-given : (j : ℕ) → waits s j ≡ true → is_given_up (position j) ≡ list_any (gives_up j) (calls_of log)
  waiting-given j e =
      let at = a.placed.headers j (ap (λ b. b || (is_in j s.dispatched.held && not (s.dispatched.is_established j))) e) in
      ap is_given_up at.at_offset ∙ sym (a.placed.untouched j e).0

  given : (j : ℕ) → IsIts j → is_given_up (position j) ≡ list_any (gives_up j) (calls_of log)
  given j e = its j e (waiting-given j) (λ m. ap is_given_up (a.placed.members j k m) ∙ member-given j)

  its-there : (j : ℕ) → IsIts j → exists side log j ≡ true
  its-there j e = its j e (λ x. there side log j (a.there.waiting j x)) (a.there.members j k)

  its-other : (j : ℕ) → IsIts j → (k == j) ≡ false
  its-other j e = refuted (k == j) (λ f. its j e
      (λ x. true≢false (sym x ∙ (ap (waits s) (sym (eqb-true k j f)) ∙ may.waits)))
      (λ x. true≢false (sym x ∙ (ap (is_member s k) (sym (eqb-true k j f)) ∙ may.member k))))

  its-sends : (j : ℕ) → IsIts j → still_sends side (with_actions sent log) j ≡ still_sends side log j
  its-sends j e = its j e (a.sends.waiting j) (λ m. a.sends.members j k m may.remains)

  its-distinct : AreDistinct (streams_of s.dispatched k)
  its-distinct = distinct-with-all (waiting_for s.dispatched k) (s.dispatched.members k)
      (distinct-sub (λ (v : Waiting). v.id) (λ (v : Waiting). v.session == k) s.dispatched.streams a.roles.waiting) (a.roles.members_distinct k)
      (λ j e. a.roles.waiting_unjoined j k (any-filter (λ (v : Waiting). v.id == j) (λ (v : Waiting). v.session == k) s.dispatched.streams
      (sym (any-map (λ (v : Waiting). v.id) j (filter (λ (v : Waiting). v.session == k) s.dispatched.streams)) ∙ e)))

  -- ---- what goes out

  module _ (own : List Action) (o : OnOwn side (with_actions sent log) k own) where
    abbrev before : Log
    before = with_actions own (with_actions sent log)

    abbrev receives : ℕ → Bool
    receives j = (transport_view side log).still_receives j

    abbrev sends : ℕ → Bool
    sends j = (transport_view side log).still_sends j

    abbrev ends : List Action
    ends = gone_actions (transport_view side log) s.dispatched k

    abbrev after : Log
    after = with_actions ends before

    -- the log with all that goes out
    after-is : with_actions (sent ++ (own ++ ends)) log ≡ after
    after-is = actions-append sent (own ++ ends) log ∙ actions-append own ends (with_actions sent log)

    events-before : events_of before ≡ events_of log
    events-before = actions-events own (with_actions sent log) ∙ actions-events sent log

    there-before : (j : ℕ) → exists side log j ≡ true → exists side before j ≡ true
    there-before j e = exists-then side own (with_actions sent log) j (exists-then side sent log j e)

    received : (j : ℕ) → IsIts j → still_receives side before position j ≡ receives j
    received j e = λ i. ((there-before j (its-there j e) ∙ sym (its-there j e)) i && not (local_uni side == j % 4)) && is_running (end_of (events-before i) j) && not (given j e i)

    runs : (j : ℕ) → IsIts j → RunsSo side position receives sends before j
    runs j e = record { received = received j e; sent = o.sends j (its-other j e) ∙ its-sends j e }

    open-before : is_open before ≡ true
    open-before = o.open_same ∙ (sym a.is_open_same ∙ may.is_open)

    open-after : is_open after ≡ true
    open-after = all-open side position receives sends (streams_of s.dispatched k) before ∙ open-before

    can-after : (j : ℕ) → can_receive side log j ≡ true → can_receive side after j ≡ true
    can-after j e = receives-then side ends before j (receives-then side own (with_actions sent log) j (receives-then side sent log j e))

    -- the transport once the streams of these remains have ended
    abbrev left_by : TransportState → Remains → TransportState
    left_by t r = give_up_now (give_up_all (end_streams t r.streams) r.waiting) k

    refines-then : (t : TransportState) → Refines side t before position (newest_first own uncollected)
        → Refines side (left_by t (remains_of w.dispatched.sessions k (live_in w.dispatched.sessions k))) after (gone_position s k position) (newest_first ends (newest_first own uncollected))
    refines-then t r = subst (λ (x : Remains). Refines side (left_by t x) after (gone_position s k position) (newest_first ends (newest_first own uncollected)))
        (sym (remains-are w.dispatched s a.keeps k may.remains (live_in w.dispatched.sessions k) refl))
        (give-up-one side (give_up_all (end_streams t (streams_of s.dispatched k)) (waiting_for s.dispatched k)) after (all_given_up position (waiting_for s.dispatched k)) (newest_first ends (newest_first own uncollected)) k (can-after k may.there)
        (give-up-each side (waiting_for s.dispatched k) (end_streams t (streams_of s.dispatched k)) after position (newest_first ends (newest_first own uncollected))
        (λ j e. can-after j (a.there.waiting j (any-filter (λ (v : Waiting). v.id == j) (λ (v : Waiting). v.session == k) s.dispatched.streams
        (sym (any-map (λ (v : Waiting). v.id) j (filter (λ (v : Waiting). v.session == k) s.dispatched.streams)) ∙ e))))
        (end-all side position receives sends (streams_of s.dispatched k) t before (newest_first own uncollected) its-distinct runs open-before r)))

    refines-all : (t : TransportState) → Refines side t before position (newest_first own uncollected)
        → Refines side (left_by t (remains_of w.dispatched.sessions k (live_in w.dispatched.sessions k))) (with_actions (sent ++ (own ++ ends)) log) (gone_position s k position) (newest_first (own ++ ends) uncollected)
    refines-all t r = subst (λ (g : Log). Refines side (left_by t (remains_of w.dispatched.sessions k (live_in w.dispatched.sessions k))) g (gone_position s k position) (newest_first (own ++ ends) uncollected)) (sym after-is)
        (subst (λ (u : List Action). Refines side (left_by t (remains_of w.dispatched.sessions k (live_in w.dispatched.sessions k))) after (gone_position s k position) u) (sym (newest-append own ends uncollected)) (refines-then t r))

    -- ---- the tie

    module _ (end : SessionEndNow) (closed : ℕ → Option Closed) where
      sends-then : Sends side (gone_by k closed s) log after
      sends-then = sends-gone side log s k closed a.roles may (with_actions sent log) after a.there a.sends
          (λ j e f. all-sends side position receives sends (streams_of s.dispatched k) before j f ∙ o.sends j e)
          (λ j e f. (all-finished side position receives sends (streams_of s.dispatched k) before j ∙ o.finished j e, all-reset side position receives sends (streams_of s.dispatched k) before j f ∙ o.reset j e))

      sessions-then : (l : Option LiveNow) → live_in w.dispatched.sessions k ≡ l → SessionsFollow w.dispatched.sessions.living s.sessions (contents log) position
          → SessionsFollow (ended_by w.dispatched.sessions k end l).living (filter (λ (x : Session). not (k == x.id)) s.sessions) (contents log) (gone_position s k position)
      sessions-then (Some x) e f = subst (λ xs. SessionsFollow xs (filter (λ (y : Session). not (k == y.id)) s.sessions) (contents log) (gone_position s k position)) (sym (living-filtered w.dispatched s a.keeps k may.remains a.roles.living))
          (sessions-gone side log s k closed a.roles may w.dispatched.sessions.living (contents log) position a.keeps.living f)
      sessions-then None e f = sessions-same side log s k closed a.roles may w.dispatched.sessions.living (contents log) position (lives-same w.dispatched s a.keeps k None e) f

      pub retire-after : (t : TransportState) → ((j : ℕ) → (j % 4) ≡ 0 → closed j ≡ (if k == j then closed_by k (Some end) else s.closed j))
          → Refines side t before position (newest_first own uncollected)
          → WorkAmid side (retire_now k end (record w { transport = t })) log (gone_by k closed s) (sent ++ (own ++ ends)) (gone_position s k position) (newest_first (own ++ ends) uncollected)
      retire-after t c r = record {
        transport = refines-all t r;
        is_open_same = may.is_open ∙ (sym open-after ∙ ap is_open (sym after-is));
        keeps = keeps-gone w.dispatched s a.keeps k may.remains a.roles.held a.roles.living may.is_session end closed c;
        roles = roles-gone side log s k closed a.roles may;
        placed = placed-gone side log s k closed a.roles may position a.there a.placed;
        there = there-gone side log s k closed a.roles may a.there;
        sends = subst (λ (g : Log). Sends side (gone_by k closed s) log g) (sym after-is) sends-then;
        control = λ g. control-gone side log s k closed a.roles may w.dispatched.critical.control s.dispatched.control (contents log) position refl (a.control g);
        sessions = λ g. sessions-then (live_in w.dispatched.sessions k) refl (a.sessions g);
      }

-- ---- how a session ends

-- a session that isn't gone wasn't closed
none-closed : (o : Option SessionEndNow) (k : ℕ) → is_some o ≡ false → closed_by k o ≡ None
none-closed None k e = refl
none-closed (Some x) k e = absurd (true≢false e)

finished-own : (side : Side) (log : Log) (k : ℕ) → OnOwn side log k (actions.Finish k ∷ [])
finished-own side log k = record {
  open_same = refl;
  sends = λ j e. ap (λ b. can_send side log j && not (b || is_finished (actions_of log) j) && not (is_reset log j)) e;
  finished = λ j e. ap (λ b. b || is_finished (actions_of log) j) e;
  reset = λ j e. refl;
}

reset-own : (side : Side) (log : Log) (k code : ℕ) → OnOwn side log k (actions.ResetOut k code ∷ [])
reset-own side log k code = record {
  open_same = refl;
  sends = λ j e. ap (λ b. can_send side log j && not (is_finished (actions_of log) j) && not (b || is_reset log j)) e;
  finished = λ j e. refl;
  reset = λ j e. ap (λ b. b || is_reset log j) e;
}

module _ (side : Side) (w : WorkNow) (log : Log) (s : DriverState) (sent : List Action) (position : ℕ → ReadPosition) (uncollected : List Action) (a : WorkAmid side w log s sent position uncollected) (k : ℕ) where
  abbrev view : TransportView
  view = transport_view side log

  pub unclosed : MayRetire side log s k → (j : ℕ) → (j % 4) ≡ 0 → s.closed j ≡ (if k == j then None else s.closed j)
  unclosed may j four = by (k == j) refl
    where
      by : (b : Bool) → (k == j) ≡ b → s.closed j ≡ (if b then None else s.closed j)
      by false e = refl
      by true e = a.keeps.closed j four ∙ none-closed (end_in w.dispatched.sessions.gone j) j (sym (a.keeps.gone j four) ∙ (ap s.dispatched.is_gone (sym (eqb-true k j e)) ∙ may.remains))

  -- a request is refused, surplus or rejected
  pub retire_follows : MayRetire side log s k
      → WorkAmid side (retire_now k Refused w) log (gone_now k s) (sent ++ gone_actions view s.dispatched k) (gone_position s k position) (newest_first (gone_actions view s.dispatched k) uncollected)
  retire_follows may = retire-after side w log s sent position uncollected a k may [] (nothing-own side (with_actions sent log) k) Refused s.closed w.transport (unclosed may) a.transport

  -- a session that lives may become gone
  pub may_retire : s.is_open ≡ true → is_living s k ≡ true → MayRetire side log s k
  may_retire o e = record {
    is_open = o;
    is_session = a.keeps.named k (a.keeps.established k (a.keeps.alive k e) ∙ e);
    remains = a.keeps.alive k e;
    there = a.there.living k e;
    arriving = refuted (is_arriving s k) (λ f. true≢false (sym e ∙ (a.roles.arriving k f).living));
    critical = a.roles.living_alone k e;
    waits = refuted (waits s k) (λ f. true≢false (sym e ∙ (a.roles.waiting_alone k f).living));
    member = λ session. refuted (is_member s session k) (λ f. true≢false (sym e ∙ (a.roles.members_alone k session f).living));
  }

  sends-is : (o c f r n : Bool) → o ≡ true → (c && f && r) ≡ true → (o && c && f && r && n) ≡ n
  sends-is true true true true n e g = refl
  sends-is true true true false n e g = absurd (true≢false (sym g))
  sends-is true true false r n e g = absurd (true≢false (sym g))
  sends-is true false f r n e g = absurd (true≢false (sym g))
  sends-is false c f r n e g = absurd (true≢false (sym e))

  module _ (o : s.is_open ≡ true) (e : is_living s k ≡ true) where
    may-finish : may_send_now w.transport k ≡ not (view.is_stopped k)
    may-finish = refined_may_send side w.transport (with_actions sent log) position uncollected a.transport k
        ∙ (sends-is (is_open (with_actions sent log)) (can_send side (with_actions sent log) k) (not (is_finished (actions_of (with_actions sent log)) k)) (not (is_reset (with_actions sent log) k))
        (not (is_some (stop_of (events_of (with_actions sent log)) k))) (sym a.is_open_same ∙ o) (a.sends.living k e)
        ∙ ap (λ es. not (is_some (stop_of es k))) (actions-events sent log))

    finish-if : (b : Bool) → may_send_now w.transport k ≡ b
        → OnOwn side (with_actions sent log) k (action_if b (actions.Finish k))
        × Refines side (if b then after_finish w.transport k else w.transport) (with_actions (action_if b (actions.Finish k)) (with_actions sent log)) position (newest_first (action_if b (actions.Finish k)) uncollected)
    finish-if true f = (finished-own side (with_actions sent log) k, finish_refines side w.transport (with_actions sent log) position uncollected a.transport k f)
    finish-if false f = (nothing-own side (with_actions sent log) k, a.transport)

    finish-now : OnOwn side (with_actions sent log) k (session_end view k false)
        × Refines side (finish_running w.transport k) (with_actions (session_end view k false) (with_actions sent log)) position (newest_first (session_end view k false) uncollected)
    finish-now = subst (λ (b : Bool). OnOwn side (with_actions sent log) k (action_if b (actions.Finish k))
        × Refines side (finish_running w.transport k) (with_actions (action_if b (actions.Finish k)) (with_actions sent log)) position (newest_first (action_if b (actions.Finish k)) uncollected))
        may-finish (finish-if (may_send_now w.transport k) refl)

    -- its own stream is finished, and it becomes gone
    pub finish_follows : (end : SessionEndNow) (closed : ℕ → Option Closed) → ((j : ℕ) → (j % 4) ≡ 0 → closed j ≡ (if k == j then closed_by k (Some end) else s.closed j))
        → WorkAmid side (finish_and_retire k end w) log (gone_by k closed s) (sent ++ (session_end view k false ++ gone_actions view s.dispatched k)) (gone_position s k position)
        (newest_first (session_end view k false ++ gone_actions view s.dispatched k) uncollected)
    finish_follows end closed c = retire-after side w log s sent position uncollected a k (may_retire o e) (session_end view k false) finish-now.0 end closed (finish_running w.transport k) c finish-now.1

    reset-now : Refines side (reset_running_now w.transport k (code_of h3.NoError)) (with_actions (session_end view k true) (with_actions sent log)) position (newest_first (session_end view k true) uncollected)
    reset-now = subst (λ (xs : List Action). Refines side (reset_running_now w.transport k (code_of h3.NoError)) (with_actions (session_end view k true) (with_actions sent log)) position (newest_first xs uncollected))
        (λ i. if a.sends.living k e i then (if (sym a.is_open_same ∙ o) i then actions.ResetOut k (code_of h3.NoError) ∷ [] else []) else [])
        (subst (λ (g : Log). Refines side (reset_running_now w.transport k (code_of h3.NoError)) g position (newest_first (actions_of_reset_running side (with_actions sent log) k (code_of h3.NoError)) uncollected))
        (λ i. if a.sends.living k e i then (if (sym a.is_open_same ∙ o) i then Sent (actions.ResetOut k (code_of h3.NoError)) else Called (ResetUnsent k (code_of h3.NoError))) ∷ with_actions sent log else with_actions sent log)
        (reset_running_refines side w.transport (with_actions sent log) position uncollected a.transport k (code_of h3.NoError)))

    -- its own stream is reset, and it becomes gone
    pub reset_follows : (end : SessionEndNow) (closed : ℕ → Option Closed) → ((j : ℕ) → (j % 4) ≡ 0 → closed j ≡ (if k == j then closed_by k (Some end) else s.closed j))
        → WorkAmid side (reset_and_retire k end w) log (gone_by k closed s) (sent ++ (session_end view k true ++ gone_actions view s.dispatched k)) (gone_position s k position)
        (newest_first (session_end view k true ++ gone_actions view s.dispatched k) uncollected)
    reset_follows end closed c = retire-after side w log s sent position uncollected a k (may_retire o e) (session_end view k true) (reset-own side (with_actions sent log) k (code_of h3.NoError)) end closed
        (reset_running_now w.transport k (code_of h3.NoError)) c reset-now
