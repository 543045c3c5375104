-- The streams of the sessions that live are read on, one after another, as the log's table does.
use Rattle.std.proofs.Common.{append_assoc, append-nil, ◌∙◌, ◌≡◌, ◌++◌, ◌∷◌, Bool, List, None, Option, Some, [], ap, cond, drop, false, filter, find, is_none, length, map, refl, subst, subst₂, sym, true, ℕ}
use Rattle.std.proofs.lemmas.Bool.{eqb-true, or_from, or_parts, true≢false}
use Rattle.std.specs.Prelude.{◌&&◌, ◌==◌, ◌||◌, not}
use Rattle.wt_follows.proofs.Ends.{AreEnds, control-same, ends-both}
use Rattle.wt_follows.proofs.Lifted.{lifted}
use Rattle.wt_follows.proofs.Lists.{any-map, flip, same}
use Rattle.wt_follows.proofs.SessionReads.{FoundLive, found-live}
use Rattle.wt_follows.proofs.SessionStep.{ReadsSession, Stepped, session-follows}
use Rattle.wt_follows.proofs.StreamEnds.{actions-append, newest-append}
use Rattle.wt_follows.specs.Roles.{AreDistinct, is_arriving, is_in, is_living}
use Rattle.wt_follows.specs.Tie.{Amid, ReaderAt, WorkAmid, goes}
use Rattle.wt_kept.specs.Kept.{DriverNow, LiveNow, WorkNow}
use Rattle.wt_kept.specs.Looking.{read_each, read_session, read_session_by, read_sessions, unless_fault}
use Rattle.wt_kept.specs.Moment.{sessions_step}
use Rattle.wt_kept.specs.Readers.{session_rules}
use Rattle.wt_proto.specs.SessionWalk.{is_over, session_walk_of}
use Rattle.wt_transport.specs.State.{Refines, TransportState}
use Rattle.wt_proto.specs.declared.session_walk.SessionWalk.{SessionWalk}
use Rattle.wt_turn.specs.Joined.{newest_first}
use Rattle.wt_turn.specs.Reports.{end_of}
use Rattle.wt_turn.specs.Streams.{contents}
use Rattle.wt_turn.specs.Unread.{AtOffset, ReadPosition}
use Rattle.wt_sessions.specs.Driver.{control_sent, transport_view}
use Rattle.wt_sessions.specs.DriverState.{DriverState}
use Rattle.wt_sessions.specs.Scan.{unless_ended}
use Rattle.wt_proto.specs.SessionReader.{SessionReader}
use Rattle.wt_sessions.specs.Step.{check_each_now, check_session_now, walked_now}
use Rattle.wt_sessions.specs.StreamTable.{Session, TransportView}
use Rattle.wt_turn.specs.Log.{Log, events_of, with_actions}
use Rattle.wt_turn.specs.declared.action.Action.{Action}
use Rattle.wt_wire.specs.declared.error.ErrorCode.{ErrorCode}
use Rattle.wt_wire.specs.declared.side.Side.{Side}
use Rattle.wt_proto.specs.declared.session_walk.SessionWalk.TheVariants as walks
use Rattle.wt_wire.specs.declared.side.StreamEnd.TheVariants.{Running}

-- ---- steps, one after another

module _ (side : Side) (log : Log) where
  pub nothing-stepped : (sent : List Action) (position : ℕ → ReadPosition) (uncollected : List Action) (w : WorkNow) (s : DriverState) → WorkAmid side w log s sent position uncollected → Stepped side log sent position uncollected w w s s []
  nothing-stepped sent position uncollected w s a = record {
    position_then = position;
    more = [];
    elsewhere = λ j e. refl;
    amid = subst (λ (xs : List Action). WorkAmid side w log s xs position uncollected) (sym (append-nil sent)) a;
    actions = sym (append-nil s.progress.actions);
    unis = refl;
    bis = refl;
    is_open = refl;
    datagrams = refl;
    counts = λ kind. refl;
    ends = tt;
    back = λ e. e;
    lives = λ k e. e;
    request = λ c n. (n, refl);
    apart = λ j e f. refl;
    read = λ e j f. absurd (true≢false (sym f));
  }

  -- after a fault none is looked at, whichever were to be
  pub ended-stepped : (sent : List Action) (position : ℕ → ReadPosition) (uncollected : List Action) (w : WorkNow) (s : DriverState) (looked : List ℕ) (code : ErrorCode) → s.progress.fault ≡ Some code → WorkAmid side w log s sent position uncollected
      → Stepped side log sent position uncollected w w s s looked
  ended-stepped sent position uncollected w s looked code fault a = record {
    position_then = position;
    more = [];
    elsewhere = λ j e. refl;
    amid = subst (λ (xs : List Action). WorkAmid side w log s xs position uncollected) (sym (append-nil sent)) a;
    actions = sym (append-nil s.progress.actions);
    unis = refl;
    bis = refl;
    is_open = refl;
    datagrams = refl;
    counts = λ kind. refl;
    ends = tt;
    back = λ e. e;
    lives = λ k e. e;
    request = λ c n. (n, refl);
    apart = λ j e f. refl;
    read = λ e j f l. absurd (true≢false (sym (stopped s.is_open s.progress.fault fault e)));
  }
    where
      stopped : (b : Bool) (o : Option ErrorCode) → o ≡ Some code → (b && is_none o) ≡ true → false ≡ true
      stopped true o f e = sym (ap is_none f) ∙ e
      stopped false o f e = e

  pub both-stepped : (sent : List Action) (position : ℕ → ReadPosition) (uncollected : List Action) (w v u : WorkNow) (s t z : DriverState) (k : ℕ) (ks : List ℕ) → is_in k ks ≡ false → (one : Stepped side log sent position uncollected w v s t (k ∷ []))
      → Stepped side log (sent ++ one.more) one.position_then (newest_first one.more uncollected) v u t z ks → Stepped side log sent position uncollected w u s z (k ∷ ks)
  both-stepped sent position uncollected w v u s t z k ks once one two = record {
    position_then = two.position_then;
    more = one.more ++ two.more;
    elsewhere = λ j e. two.elsewhere j ((λ i. is_in j (one.unis i) || is_in j (one.bis i)) ∙ e) ∙ one.elsewhere j e;
    amid = subst₂ (λ (xs ys : List Action). WorkAmid side u log z xs two.position_then ys) (append_assoc sent one.more two.more) (sym (newest-append one.more two.more uncollected)) two.amid;
    actions = two.actions ∙ (ap (λ xs. xs ++ two.more) one.actions ∙ append_assoc s.progress.actions one.more two.more);
    unis = two.unis ∙ one.unis;
    bis = two.bis ∙ one.bis;
    is_open = two.is_open ∙ one.is_open;
    datagrams = two.datagrams ∙ one.datagrams;
    counts = λ kind. two.counts kind ∙ one.counts kind;
    ends = ends-both one.more two.more one.ends two.ends;
    back = λ e. one.back (two.back e);
    lives = λ j e. one.lives j (two.lives j e);
    request = λ c n. let later = two.request c n in let first = one.request c later.0 in (first.0, later.1 ∙ first.1);
    apart = λ j e l. let parts = or_parts (k == j) (is_in j ks) e in two.apart j parts.1 l ∙ one.apart j (or_from (k == j) false parts.0 refl) (two.lives j l);
    read = λ e j f l. by e j l (is_in j ks) refl f;
  }
    where
      by : goes z ≡ true → (j : ℕ) → is_living z j ≡ true → (b : Bool) → is_in j ks ≡ b → ((k == j) || is_in j ks) ≡ true → two.position_then j ≡ AtOffset (length (contents log j))
      by e j l true g f = two.read e j g l
      by e j l false g f = two.apart j g l ∙ one.read (two.back e) j (ap (λ b. (k == j) || b) (sym g) ∙ f) (two.lives j l)

-- ---- those that are still among the sessions

-- each of these is the one of its id
Listed : List Session → List Session → Type 0
Listed [] all = Unit {0}
Listed (y ∷ ys) all = (find (λ (x : Session). x.id == y.id) all ≡ Some y) × Listed ys all

later-listed : (x : Session) (ys all : List Session) → is_in x.id (map (λ (y : Session). y.id) ys) ≡ false → Listed ys all → Listed ys (x ∷ all)
unfolding Listed
later-listed x [] all e l = tt
later-listed x (y ∷ ys) all e l = let parts = or_parts (y.id == x.id) (is_in x.id (map (λ (z : Session). z.id) ys)) e in
    (ap (λ (b : Bool). cond b (Some x) (find (λ (z : Session). z.id == y.id) all)) (flip x.id y.id ∙ parts.0) ∙ l.0, later-listed x ys all parts.1 l.1)

all-listed : (xs : List Session) → AreDistinct (map (λ (x : Session). x.id) xs) → Listed xs xs
unfolding Listed
all-listed [] d = tt
all-listed (x ∷ xs) d = (ap (λ (b : Bool). cond b (Some x) (find (λ (z : Session). z.id == x.id) xs)) (same x.id), later-listed x xs xs d.0 (all-listed xs d.1))

find-left : (k j : ℕ) (xs : List Session) → (k == j) ≡ false → find (λ (x : Session). x.id == j) (filter (λ (x : Session). not (k == x.id)) xs) ≡ find (λ (x : Session). x.id == j) xs
find-left k j [] e = refl
find-left k j (x ∷ xs) e = by (k == x.id) refl (x.id == j) refl (find-left k j xs e)
  where
    by : (b : Bool) → (k == x.id) ≡ b → (c : Bool) → (x.id == j) ≡ c → find (λ (y : Session). y.id == j) (filter (λ (y : Session). not (k == y.id)) xs) ≡ find (λ (y : Session). y.id == j) xs
        → find (λ (y : Session). y.id == j) (cond (not b) (x ∷ filter (λ (y : Session). not (k == y.id)) xs) (filter (λ (y : Session). not (k == y.id)) xs)) ≡ cond c (Some x) (find (λ (y : Session). y.id == j) xs)
    by true f true g again = absurd (true≢false (sym g ∙ (ap (λ i. i == j) (sym (eqb-true k x.id f)) ∙ e)))
    by true f false g again = again
    by false f c g again = ap (λ (b : Bool). cond b (Some x) (find (λ (y : Session). y.id == j) (filter (λ (y : Session). not (k == y.id)) xs))) g ∙ ap (cond c (Some x)) again

module _ (t : TransportView) where
  -- another session stays where it is
  checked-apart : (k j : ℕ) (by_capsule : Bool) (v : SessionWalk) (s : DriverState) → (k == j) ≡ false → find (λ (x : Session). x.id == j) (walked_now t k by_capsule v s).sessions ≡ find (λ (x : Session). x.id == j) s.sessions
  checked-apart k j by_capsule walks.Running s e = refl
  checked-apart k j by_capsule (walks.Closed code reason) s e = find-left k j s.sessions e
  checked-apart k j by_capsule (walks.Fault code) s e = refl

  listed-then : (k : ℕ) (ys : List Session) (by_capsule : Bool) (v : SessionWalk) (s : DriverState) → is_in k (map (λ (y : Session). y.id) ys) ≡ false → Listed ys s.sessions → Listed ys (walked_now t k by_capsule v s).sessions
  unfolding Listed
  listed-then k [] by_capsule v s e l = tt
  listed-then k (y ∷ ys) by_capsule v s e l = let parts = or_parts (y.id == k) (is_in k (map (λ (z : Session). z.id) ys)) e in
      (checked-apart k y.id by_capsule v s (flip k y.id ∙ parts.0) ∙ l.0, listed-then k ys by_capsule v s parts.1 l.1)

  -- after a fault none is looked at
  pub none-checked : (ys : List Session) (s : DriverState) (code : ErrorCode) → s.progress.fault ≡ Some code → check_each_now t ys s ≡ s
  none-checked [] s code e = refl
  none-checked (y ∷ ys) s code e = ap (λ (o : Option ErrorCode). unless_ended o (λ u. check_each_now t ys (check_session_now t y.id (drop y.offset (t.contents y.id)) (t.end y.id) u)) s) e

-- ---- the sessions

-- reading on in sessions' streams leads to what the tie says
abbrev pub ReadsSessions : Side → Log → Type 0
ReadsSessions side log = (sent : List Action) (position : ℕ → ReadPosition) (uncollected : List Action) (t : TransportState) (k : ℕ) (r : SessionReader) (offset : ℕ) → Refines side t (with_actions sent log) position uncollected
    → ReaderAt session_rules r offset (contents log k) (position k) → ReadsSession side log sent position uncollected t k r offset

module _ (side : Side) (log : Log) (reads : ReadsSessions side log) where
  abbrev view : TransportView
  view = transport_view side log

  each : (ys : List Session) (sent : List Action) (position : ℕ → ReadPosition) (uncollected : List Action) (w : WorkNow) (s : DriverState) → WorkAmid side w log s sent position uncollected → s.is_open ≡ true
      → Listed ys s.sessions → AreDistinct (map (λ (y : Session). y.id) ys) → Stepped side log sent position uncollected w (read_each (map (λ (y : Session). y.id) ys) w) s (check_each_now view ys s) (map (λ (y : Session). y.id) ys)
  unfolding Listed
  each [] sent position uncollected w s a o l d = nothing-stepped side log sent position uncollected w s a
  each (y ∷ ys) sent position uncollected w s a o l d =
      subst (λ (e : Option ErrorCode). Stepped side log sent position uncollected w (unless_fault e (read_each (map (λ (z : Session). z.id) ys) (read_session y.id w)) w) s (check_each_now view (y ∷ ys) s) (y.id ∷ map (λ (z : Session). z.id) ys)) (sym a.keeps.fault)
      (by s.progress.fault refl (λ f. each ys (sent ++ (one f).more) (one f).position_then (newest_first (one f).more uncollected) (read_session y.id w) (check_session_now view y.id (drop y.offset (contents log y.id)) (end_of (events_of log) y.id) s) (one f).amid
      ((one f).is_open ∙ o)
      (listed-then view y.id ys (is_over (session_walk_of (drop y.offset (contents log y.id)) Running)) (session_walk_of (drop y.offset (contents log y.id)) (end_of (events_of log) y.id)) s d.0 l.1) d.1))
    where
      goes-on : s.progress.fault ≡ None → goes s ≡ true
      goes-on f = λ i. o i && is_none (f i)

      here : s.progress.fault ≡ None → FoundLive w.dispatched.sessions.living y.id y.offset (contents log y.id) (position y.id)
      here f = found-live w.dispatched.sessions.living s.sessions y.id y (contents log) position a.keeps.living l.0 (a.sessions (goes-on f))

      one : s.progress.fault ≡ None → Stepped side log sent position uncollected w (read_session y.id w) s (check_session_now view y.id (drop y.offset (contents log y.id)) (end_of (events_of log) y.id) s) (y.id ∷ [])
      one f = let x = here f in
          subst (λ (p : Option LiveNow). Stepped side log sent position uncollected w (read_session_by y.id p w) s (check_session_now view y.id (drop y.offset (contents log y.id)) (end_of (events_of log) y.id) s) (y.id ∷ [])) (sym x.found)
          (session-follows side log sent position uncollected w s a (goes-on f) y l.0 x.live x.found (reads sent position uncollected w.transport y.id x.live.reader y.offset a.transport x.at))

      by : (e : Option ErrorCode) → s.progress.fault ≡ e
          → ((f : s.progress.fault ≡ None) → Stepped side log (sent ++ (one f).more) (one f).position_then (newest_first (one f).more uncollected) (read_session y.id w) (read_each (map (λ (z : Session). z.id) ys) (read_session y.id w))
          (check_session_now view y.id (drop y.offset (contents log y.id)) (end_of (events_of log) y.id) s) (check_each_now view ys (check_session_now view y.id (drop y.offset (contents log y.id)) (end_of (events_of log) y.id) s)) (map (λ (z : Session). z.id) ys))
          → Stepped side log sent position uncollected w (unless_fault e (read_each (map (λ (z : Session). z.id) ys) (read_session y.id w)) w) s
          (unless_ended e (λ u. check_each_now view ys (check_session_now view y.id (drop y.offset (contents log y.id)) (end_of (events_of log) y.id) u)) s) (y.id ∷ map (λ (z : Session). z.id) ys)
      by (Some code) f again = ended-stepped side log sent position uncollected w s (y.id ∷ map (λ (z : Session). z.id) ys) code f a
      by None f again = both-stepped side log sent position uncollected w (read_session y.id w) (read_each (map (λ (z : Session). z.id) ys) (read_session y.id w)) s
          (check_session_now view y.id (drop y.offset (contents log y.id)) (end_of (events_of log) y.id) s) (check_each_now view ys (check_session_now view y.id (drop y.offset (contents log y.id)) (end_of (events_of log) y.id) s)) y.id (map (λ (z : Session). z.id) ys) d.0 (one f) (again f)

  -- the state after the sessions were looked at
  abbrev pub sessions_state : DriverState → DriverState
  sessions_state s = unless_ended s.progress.fault (λ x. check_each_now view x.sessions x) s

  module _ (d : DriverNow) (s : DriverState) (sent : List Action) (position : ℕ → ReadPosition) (uncollected : List Action) (a : Amid side d log s sent position uncollected) (open_ : s.is_open ≡ true) where
    ended-same : check_each_now view s.sessions s ≡ sessions_state s
    ended-same = by s.progress.fault refl
      where
        by : (e : Option ErrorCode) → s.progress.fault ≡ e → check_each_now view s.sessions s ≡ unless_ended e (λ x. check_each_now view x.sessions x) s
        by None f = refl
        by (Some code) f = none-checked view s.sessions s code f

    stepped : Stepped side log sent position uncollected d.work (read_sessions d.work) s (sessions_state s) (map (λ (x : Session). x.id) s.sessions)
    stepped = subst₂ (λ (ids : List ℕ) (z : DriverState). Stepped side log sent position uncollected d.work (read_each ids d.work) s z (map (λ (x : Session). x.id) s.sessions)) (sym a.work.keeps.living) ended-same
        (each s.sessions sent position uncollected d.work s a.work open_ (all-listed s.sessions a.work.roles.living) a.work.roles.living)

    back : goes (sessions_state s) ≡ true → goes s ≡ true
    back g = by s.progress.fault refl
      where
        by : (e : Option ErrorCode) → s.progress.fault ≡ e → goes s ≡ true
        by None f = λ i. open_ i && is_none (f i)
        by (Some code) f = sym (ap goes (ap (λ (o : Option ErrorCode). unless_ended o (λ x. check_each_now view x.sessions x) s) f)) ∙ g

    pub record SessionsStepped : Type 0 where
      pub position_then : ℕ → ReadPosition
      pub more : List Action
      pub amid : Amid side (sessions_step d) log (sessions_state s) (sent ++ more) position_then (newest_first more uncollected)
      pub actions : (sessions_state s).progress.actions ≡ s.progress.actions ++ more
      pub is_open : (sessions_state s).is_open ≡ true
      pub ends : AreEnds more
      pub elsewhere : (j : ℕ) → is_arriving s j ≡ true → position_then j ≡ position j
      pub back : goes (sessions_state s) ≡ true → goes s ≡ true
      pub unis : (sessions_state s).unis ≡ s.unis
      pub bis : (sessions_state s).bis ≡ s.bis
      pub read : goes (sessions_state s) ≡ true → (k : ℕ) → is_living (sessions_state s) k ≡ true → position_then k ≡ AtOffset (length (contents log k))

    pub sessions_follow : SessionsStepped
    unfolding sessions_step
    sessions_follow = record {
      position_then = stepped.position_then;
      more = stepped.more;
      amid = lifted side d log s sent position uncollected a (read_sessions d.work) (sessions_state s) (sent ++ stepped.more) stepped.position_then (newest_first stepped.more uncollected) stepped.amid
          stepped.counts stepped.unis stepped.bis stepped.datagrams back stepped.elsewhere (ap (control_sent side) (actions-append sent stepped.more log) ∙ control-same side stepped.more (with_actions sent log) stepped.ends) stepped.request;
      actions = stepped.actions;
      is_open = stepped.is_open ∙ open_;
      ends = stepped.ends;
      elsewhere = stepped.elsewhere;
      back = back;
      unis = stepped.unis;
      bis = stepped.bis;
      read = λ e k l. stepped.read e k (any-map (λ (x : Session). x.id) k s.sessions ∙ stepped.lives k l) l;
    }
