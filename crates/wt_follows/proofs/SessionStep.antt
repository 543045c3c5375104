-- The stream of one session is read on: what its walk leads to is what the log's table does.
use Rattle.std.proofs.Common.{append-nil, ◌∙◌, ◌≡◌, ◌++◌, ◌∷◌, Bool, List, Some, [], ap, drop, false, filter, find, is_none, length, refl, subst, sym, true, ℕ}
use Rattle.std.proofs.lemmas.Bool.{eqb-true, or_parts, true≢false}
use Rattle.std.specs.List.{list_any}
use Rattle.std.specs.Prelude.{◌&&◌, ◌==◌, ◌||◌, not}
use Rattle.wt_follows.proofs.Counts.{SameCounts, by-choice, change-counts, reset-counts, retire-counts}
use Rattle.wt_follows.proofs.Ends.{AreEnds, ends-both, gone-ends}
use Rattle.wt_follows.proofs.GoneKeeps.{found-any, gone_by}
use Rattle.wt_follows.proofs.GoneRoles.{gone-elsewhere, gone_position}
use Rattle.wt_follows.proofs.KeepsLaws.{keeps-progress}
use Rattle.wt_follows.proofs.Lifted.{read-counts}
use Rattle.wt_follows.proofs.Lists.{any-filter, none-left, refuted, same}
use Rattle.wt_follows.proofs.Moved.{control-moved}
use Rattle.wt_follows.proofs.OwnRequest.{LeavesRequest, none-lives}
use Rattle.wt_follows.proofs.ReadsTo.{ReadsTo}
use Rattle.wt_follows.proofs.Retire.{finish_follows, reset_follows}
use Rattle.wt_follows.proofs.SameStreams.{dated-amid, read-amid}
use Rattle.wt_follows.proofs.SessionReads.{reader-keeps, retire-read, sessions-read}
use Rattle.wt_follows.proofs.StreamEnds.{there}
use Rattle.wt_follows.specs.Roles.{is_arriving, is_at, is_critical, is_in, is_living, is_member, waits}
use Rattle.wt_follows.specs.Tie.{NoneEstablished, WorkAmid, goes, rests_at_header}
use Rattle.wt_kept.specs.Classifying.{fail_with, with_dispatched, with_sessions}
use Rattle.wt_kept.specs.Ending.{finish_running}
use Rattle.wt_kept.specs.Kept.{Closed, LiveNow, SessionEndNow, WorkNow}
use Rattle.wt_kept.specs.Looking.{after_walk, close_by_peer, is_closed_by_capsule, session_read, with_session_reader}
use Rattle.wt_kept.specs.Readers.{ReadOn, read_on, session_rules}
use Rattle.wt_kept.specs.Windows.{is_live}
use Rattle.wt_meaning.specs.Sends.{action_if}
use Rattle.wt_proto.specs.SessionWalk.{is_over, session_walk_of}
use Rattle.wt_transport.specs.Running.{reset_running_now, still_sends_now}
use Rattle.wt_transport.specs.State.{TransportState}
use Rattle.wt_transport.specs.Step.{after_finish, after_reset, may_send_now}
use Rattle.wt_transport.specs.StreamState.{with_finish}
use Rattle.wt_proto.specs.declared.session_walk.SessionWalk.{SessionWalk}
use Rattle.wt_turn.specs.Joined.{newest_first}
use Rattle.wt_turn.specs.Reports.{end_of}
use Rattle.wt_turn.specs.Streams.{contents}
use Rattle.wt_turn.specs.Unread.{AtOffset, ReadPosition}
use Rattle.wt_sessions.specs.Driver.{transport_view}
use Rattle.wt_sessions.specs.DriverState.{DriverState}
use Rattle.wt_sessions.specs.Scan.{session_end, with_fault, with_more}
use Rattle.wt_proto.specs.SessionReader.{SessionReader}
use Rattle.wt_sessions.specs.Step.{check_session_now, on_progress_now, walked_now, with_closed}
use Rattle.wt_sessions.specs.StreamTable.{Session, TransportView, gone_actions}
use Rattle.wt_turn.specs.Log.{Log, events_of, with_actions}
use Rattle.wt_turn.specs.declared.action.Action.{Action}
use Rattle.wt_turn.specs.declared.action.Action.TheVariants as actions
use Rattle.wt_wire.specs.Codes.{code_of}
use Rattle.wt_wire.specs.declared.error.ErrorCode.{ErrorCode}
use Rattle.wt_wire.specs.declared.side.Side.{Side}
use Rattle.wt_proto.specs.declared.session_walk.SessionWalk.TheVariants as walks
use Rattle.wt_wire.specs.declared.error.ErrorCode.TheVariants as h3
use Rattle.wt_wire.specs.declared.side.StreamEnd.TheVariants.{Running}

-- ---- what a step on sessions leads to

-- What goes out is in the state, and ends halves of streams alone; streams whose headers are read stay as they were. These sessions were
-- looked at: of those that live still, all that came is read.
pub record Stepped (side : Side) (log : Log) (sent : List Action) (position : ℕ → ReadPosition) (uncollected : List Action) (w v : WorkNow) (s z : DriverState) (looked : List ℕ) : Type 0 where
  pub position_then : ℕ → ReadPosition
  pub more : List Action
  pub elsewhere : (j : ℕ) → is_arriving s j ≡ true → position_then j ≡ position j
  pub amid : WorkAmid side v log z (sent ++ more) position_then (newest_first more uncollected)
  pub actions : z.progress.actions ≡ s.progress.actions ++ more
  pub unis : z.unis ≡ s.unis
  pub bis : z.bis ≡ s.bis
  pub is_open : z.is_open ≡ s.is_open
  pub datagrams : z.progress.datagrams ≡ s.progress.datagrams
  pub counts : SameCounts w.transport v.transport
  pub ends : AreEnds more
  pub back : goes z ≡ true → goes s ≡ true
  pub lives : (k : ℕ) → is_living z k ≡ true → is_living s k ≡ true
  pub request : LeavesRequest side s z position position_then
  pub apart : (j : ℕ) → is_in j looked ≡ false → is_living z j ≡ true → position_then j ≡ position j
  pub read : goes z ≡ true → (j : ℕ) → is_in j looked ≡ true → is_living z j ≡ true → position_then j ≡ AtOffset (length (contents log j))

pub own-ends : (t : TransportView) (k : ℕ) (b : Bool) → AreEnds (session_end t k b)
own-ends t k true = (refl, tt)
own-ends t k false = by (not (t.is_stopped k))
  where
    by : (b : Bool) → AreEnds (action_if b (actions.Finish k))
    by true = (refl, tt)
    by false = tt

-- ---- numbers of streams

pub finish-counts : (t : TransportState) (k : ℕ) → SameCounts t (finish_running t k)
finish-counts t k = by-choice (may_send_now t k) t (after_finish t k) t (change-counts t k with_finish) (λ kind. refl)

running-counts : (t : TransportState) (k code : ℕ) → SameCounts t (reset_running_now t k code)
running-counts t k code = by-choice (still_sends_now t k) t (after_reset t k code) t (reset-counts t k code) (λ kind. refl)

-- ---- one session

-- reading on in a session's stream leads to what the tie says, and whether a capsule closed the session is what the walk says
pub record ReadsSession (side : Side) (log : Log) (sent : List Action) (position : ℕ → ReadPosition) (uncollected : List Action) (t : TransportState) (k : ℕ) (r : SessionReader) (offset : ℕ) : Type 0 where
  pub reads : ReadsTo session_rules session_walk_of side t log (with_actions sent log) position uncollected k r offset
  pub capsule : (code : ℕ) (reason : List ℕ) → session_rules.outcome (read_on session_rules k r t).reader ≡ walks.Closed code reason
      → is_closed_by_capsule (read_on session_rules k r t).reader ≡ is_over (session_walk_of (drop offset (contents log k)) Running)

module _ (side : Side) (log : Log) (sent : List Action) (position : ℕ → ReadPosition) (uncollected : List Action) (w : WorkNow) (s : DriverState) (a : WorkAmid side w log s sent position uncollected) (g : goes s ≡ true)
    (y : Session) (listed : find (λ (x : Session). x.id == y.id) s.sessions ≡ Some y) (x : LiveNow) (found : find (is_live y.id) w.dispatched.sessions.living ≡ Some x)
    (rs : ReadsSession side log sent position uncollected w.transport y.id x.reader y.offset) where
  abbrev k : ℕ
  k = y.id

  abbrev view : TransportView
  view = transport_view side log

  abbrev after : ReadOn SessionReader
  after = read_on session_rules k x.reader w.transport

  abbrev bytes : List ℕ
  bytes = drop y.offset (contents log k)

  lives : is_living s k ≡ true
  lives = found-any (λ (z : Session). z.id == k) s.sessions (Some y) listed

  -- a session was established
  begun : NoneEstablished s → ⊥
  begun n = true≢false (sym lives ∙ none-lives w.dispatched s a.keeps n k)

  abbrev new : ℕ → ReadPosition
  new = rs.reads.position_then

  not-critical : is_critical s k ≡ false
  not-critical = a.roles.living_alone k lives

  not-control : is_at s.dispatched.control k ≡ false
  not-control = (or_parts (is_at s.dispatched.control k) (is_at s.dispatched.encoder k) (or_parts (is_at s.dispatched.control k || is_at s.dispatched.encoder k) (is_at s.dispatched.decoder k) not-critical).0).0

  no-rest : rests_at_header s k ≡ false
  no-rest =
      let waits_not : waits s k ≡ false = refuted (waits s k) (λ e. true≢false (sym lives ∙ (a.roles.waiting_alone k e).living)) in
      let established : s.dispatched.is_established k ≡ true = a.keeps.established k (a.keeps.alive k lives) ∙ lives in
      (λ i. waits_not i || (is_in k s.dispatched.held && not (established i))) ∙ none (is_in k s.dispatched.held)
    where
      none : (b : Bool) → (b && false) ≡ false
      none true = refl
      none false = refl

  -- the work with this reader
  abbrev read_work : SessionReader → WorkNow
  read_work r = record { transport = after.transport; dispatched = with_sessions (with_session_reader r k w.dispatched.sessions) w.dispatched }

  -- with what the reader took before it learned the end
  abbrev front_work : WorkNow
  front_work = read_work rs.reads.front

  front-amid : WorkAmid side front_work log s sent new uncollected
  front-amid = read-amid side w log s sent position uncollected a s.dispatched.datagrams s.progress front_work.dispatched after.transport new k rs.reads.transport rs.reads.elsewhere no-rest
      (λ session. refuted (is_member s session k) (λ e. true≢false (sym lives ∙ (a.roles.members_alone k session e).living))) (there side log k (a.there.living k lives))
      (reader-keeps k rs.reads.front w.dispatched s a.keeps)
      (λ e. control-moved k position new rs.reads.elsewhere (contents log) w.dispatched.critical.control s.dispatched.control not-control (a.control g))
      (λ e. sessions-read k rs.reads.front y (contents log) position new rs.reads.elsewhere rs.reads.at_front w.dispatched.sessions.living s.sessions a.keeps.living a.roles.living listed (a.sessions g))

  -- streams whose headers are read are others
  arriving-other : (j : ℕ) → is_arriving s j ≡ true → (k == j) ≡ false
  arriving-other j e = refuted (k == j) (λ f. true≢false (sym lives ∙ (ap (is_living s) (eqb-true k j f) ∙ (a.roles.arriving j e).living)))

  -- it alone was looked at
  alone : (j : ℕ) → is_in j (k ∷ []) ≡ true → k ≡ j
  alone j e = by (k == j) refl e
    where
      by : (b : Bool) → (k == j) ≡ b → (b || false) ≡ true → k ≡ j
      by true f g = eqb-true k j f
      by false f g = absurd (true≢false (sym g))

  not-alone : (j : ℕ) → is_in j (k ∷ []) ≡ false → (k == j) ≡ false
  not-alone j e = (or_parts (k == j) false e).0

  runs : session_rules.outcome after.reader ≡ walks.Running → Stepped side log sent position uncollected w (read_work after.reader) s s (k ∷ [])
  runs e = record {
    position_then = new;
    more = [];
    elsewhere = λ j f. rs.reads.elsewhere j (arriving-other j f);
    amid = subst (λ (xs : List Action). WorkAmid side (read_work after.reader) log s xs new uncollected) (sym (append-nil sent))
        (subst (λ (r : SessionReader). WorkAmid side (read_work r) log s sent new uncollected) (sym (rs.reads.no_end (ap is_over e))) front-amid);
    actions = sym (append-nil s.progress.actions);
    unis = refl;
    bis = refl;
    is_open = refl;
    datagrams = refl;
    counts = read-counts session_rules k x.reader w.transport;
    ends = tt;
    back = λ f. f;
    lives = λ j f. f;
    request = λ c n. absurd (begun n);
    apart = λ j f l. rs.reads.elsewhere j (not-alone j f);
    read = λ f j h l. subst (λ n. new n ≡ AtOffset (length (contents log n))) (alone j h) (rs.reads.read_all (ap is_over e));
  }

  fails : (code : ErrorCode) → Stepped side log sent position uncollected w (with_dispatched (fail_with code) (read_work after.reader)) s (on_progress_now (with_fault (Some code)) s) (k ∷ [])
  fails code = record {
    position_then = new;
    more = [];
    elsewhere = λ j f. rs.reads.elsewhere j (arriving-other j f);
    amid = subst (λ (xs : List Action). WorkAmid side (with_dispatched (fail_with code) (read_work after.reader)) log (on_progress_now (with_fault (Some code)) s) xs new uncollected) (sym (append-nil sent))
        (dated-amid side front_work log s sent new uncollected front-amid s.dispatched.datagrams (with_fault (Some code) s.progress) (fail_with code (read_work after.reader).dispatched)
        (keeps-progress (read_work after.reader).dispatched s (reader-keeps k after.reader w.dispatched s a.keeps) (Some code) (with_fault (Some code) s.progress) refl refl)
        (λ e. absurd (shut e)) (λ e. absurd (shut e)));
    actions = sym (append-nil s.progress.actions);
    unis = refl;
    bis = refl;
    is_open = refl;
    datagrams = refl;
    counts = read-counts session_rules k x.reader w.transport;
    ends = tt;
    back = λ f. absurd (shut f);
    lives = λ j f. f;
    request = λ c n. absurd (begun n);
    apart = λ j f l. rs.reads.elsewhere j (not-alone j f);
    read = λ f j h l. absurd (shut f);
  }
    where
      shut : (s.is_open && false) ≡ true → ⊥
      shut e = by s.is_open e
        where
          by : (b : Bool) → (b && false) ≡ true → ⊥
          by true f = true≢false (sym f)
          by false f = true≢false (sym f)

  -- ---- closed by the peer

  module _ (code : ℕ) (reason : List ℕ) where
    abbrev end : SessionEndNow
    end = Closed code reason

    -- the state then, by whether a capsule closed it
    abbrev closed_state : Bool → DriverState
    closed_state b = walked_now view k b (walks.Closed code reason) s

    abbrev sends : Bool → List Action
    sends b = session_end view k b ++ gone_actions view s.dispatched k

    open_now : s.is_open ≡ true
    open_now = by s.is_open g
      where
        by : (b : Bool) → (b && is_none s.progress.fault) ≡ true → b ≡ true
        by true e = refl
        by false e = absurd (true≢false (sym e))

    -- both ways to close it
    ended : (b : Bool) → WorkAmid side (close_by_peer b k end (read_work after.reader)) log (gone_by k (with_closed (record { id = k; code = code; reason = reason }) s.closed) s) (sent ++ sends b) (gone_position s k new) (newest_first (sends b) uncollected)
    ended false = subst (λ (v : WorkNow). WorkAmid side v log (gone_by k (with_closed (record { id = k; code = code; reason = reason }) s.closed) s) (sent ++ sends false) (gone_position s k new) (newest_first (sends false) uncollected))
        (retire-read k rs.reads.front end (finish_running after.transport k) w.dispatched ∙ sym (retire-read k after.reader end (finish_running after.transport k) w.dispatched))
        (finish_follows side front_work log s sent new uncollected front-amid k open_now lives end (with_closed (record { id = k; code = code; reason = reason }) s.closed) (λ j f. refl))
    ended true = subst (λ (v : WorkNow). WorkAmid side v log (gone_by k (with_closed (record { id = k; code = code; reason = reason }) s.closed) s) (sent ++ sends true) (gone_position s k new) (newest_first (sends true) uncollected))
        (retire-read k rs.reads.front end (reset_running_now after.transport k (code_of h3.NoError)) w.dispatched ∙ sym (retire-read k after.reader end (reset_running_now after.transport k (code_of h3.NoError)) w.dispatched))
        (reset_follows side front_work log s sent new uncollected front-amid k open_now lives end (with_closed (record { id = k; code = code; reason = reason }) s.closed) (λ j f. refl))

    close-counts : (b : Bool) → SameCounts w.transport (close_by_peer b k end (read_work after.reader)).transport
    close-counts false kind = retire-counts k end (record (read_work after.reader) { transport = finish_running after.transport k }) kind ∙ (finish-counts after.transport k kind ∙ read-counts session_rules k x.reader w.transport kind)
    close-counts true kind = retire-counts k end (record (read_work after.reader) { transport = reset_running_now after.transport k (code_of h3.NoError) }) kind
        ∙ (running-counts after.transport k (code_of h3.NoError) kind ∙ read-counts session_rules k x.reader w.transport kind)

    still : (j : ℕ) → list_any (λ (z : Session). z.id == j) (filter (λ (z : Session). not (k == z.id)) s.sessions) ≡ true → is_living s j ≡ true
    still j e = any-filter (λ (z : Session). z.id == j) (λ (z : Session). not (k == z.id)) s.sessions e

    left : list_any (λ (z : Session). z.id == k) (filter (λ (z : Session). not (k == z.id)) s.sessions) ≡ false
    left = none-left (λ (z : Session). z.id == k) (λ (z : Session). not (k == z.id)) (λ z e. ap (λ i. not (k == i)) (eqb-true z.id k e) ∙ ap not (same k)) s.sessions

    closes-by : (b : Bool) → Stepped side log sent position uncollected w (close_by_peer b k end (read_work after.reader)) s (closed_state b) (k ∷ [])
    closes-by b = record {
      position_then = gone_position s k new;
      more = sends b;
      elsewhere = λ j f. gone-elsewhere s k new j (arriving-other j f) (a.roles.arriving j f).waits ∙ rs.reads.elsewhere j (arriving-other j f);
      amid = dated-amid side (close_by_peer b k end (read_work after.reader)) log (gone_by k (with_closed (record { id = k; code = code; reason = reason }) s.closed) s) (sent ++ sends b) (gone_position s k new) (newest_first (sends b) uncollected)
          (ended b) (gone_by k s.closed s).dispatched.datagrams (with_more (sends b) s.progress) (close_by_peer b k end (read_work after.reader)).dispatched
          (keeps-progress (close_by_peer b k end (read_work after.reader)).dispatched (gone_by k (with_closed (record { id = k; code = code; reason = reason }) s.closed) s) (ended b).keeps
          (close_by_peer b k end (read_work after.reader)).dispatched.fault (with_more (sends b) s.progress) refl (ended b).keeps.fault)
          (λ e. (ended b).control e) (λ e. (ended b).sessions e);
      actions = refl;
      unis = refl;
      bis = refl;
      is_open = refl;
      datagrams = refl;
      counts = close-counts b;
      ends = ends-both (session_end view k b) (gone_actions view s.dispatched k) (own-ends view k b) (gone-ends view s.dispatched k);
      back = λ f. f;
      lives = λ j f. still j f;
      request = λ c n. absurd (begun n);
      apart = λ j f l. gone-elsewhere s k new j (not-alone j f) (refuted (waits s j) (λ h. true≢false (sym (still j l) ∙ (a.roles.waiting_alone j h).living))) ∙ rs.reads.elsewhere j (not-alone j f);
      read = λ f j h l. absurd (true≢false (sym (ap (is_living (closed_state b)) (alone j h) ∙ l) ∙ left));
    }

    closes : session_rules.outcome after.reader ≡ walks.Closed code reason
        → Stepped side log sent position uncollected w (close_by_peer (is_closed_by_capsule after.reader) k end (read_work after.reader)) s (closed_state (is_over (session_walk_of bytes Running))) (k ∷ [])
    closes e = subst (λ (b : Bool). Stepped side log sent position uncollected w (close_by_peer b k end (read_work after.reader)) s (closed_state (is_over (session_walk_of bytes Running))) (k ∷ [])) (sym (rs.capsule code reason e))
        (closes-by (is_over (session_walk_of bytes Running)))

  -- what the walk leads to
  walked : (v : SessionWalk) → session_rules.outcome after.reader ≡ v
      → Stepped side log sent position uncollected w (after_walk k (is_closed_by_capsule after.reader) v (read_work after.reader)) s (walked_now view k (is_over (session_walk_of bytes Running)) v s) (k ∷ [])
  walked walks.Running e = runs e
  walked (walks.Closed code reason) e = closes code reason e
  walked (walks.Fault code) e = fails code

  pub session-follows : Stepped side log sent position uncollected w (session_read k after w) s (check_session_now view k bytes (end_of (events_of log) k) s) (k ∷ [])
  session-follows = subst (λ (v : SessionWalk). Stepped side log sent position uncollected w (session_read k after w) s (walked_now view k (is_over (session_walk_of bytes Running)) v s) (k ∷ [])) rs.reads.says
      (walked (session_rules.outcome after.reader) refl)
