-- A moment: what is kept after it follows the log with what went out, and the driver rests.
use Rattle.std.proofs.Common.{append_assoc, arith, ◌≤◌, drop, take, ◌∙◌, ◌≡◌, ◌%◌, ◌++◌, ◌∷◌, Bool, List, None, Option, Some, [], ap, false, is_none, is_some, length, refl, subst, subst₂, sym, true, ℕ}
use Rattle.std.proofs.lemmas.Bool.{true≢false}
use Rattle.std.specs.List.{list_any}
use Rattle.std.specs.Prelude.{◌&&◌, ◌==◌, ◌||◌, if◌then◌else◌, nat_lt, not}
use Rattle.wt_follows.proofs.Ends.{AreEnds, is_end}
use Rattle.wt_follows.proofs.Lists.{any-map, or-true, same}
use Rattle.wt_follows.proofs.MomentFollows.{Worked, out_then, worked}
use Rattle.wt_follows.proofs.OwnRests.{own-rests, ready-stays}
use Rattle.wt_follows.proofs.OwnStep.{head_actions, head_rest}
use Rattle.wt_follows.proofs.PieceLog.{rests-again}
use Rattle.wt_follows.proofs.SameStreams.{told}
use Rattle.wt_follows.proofs.Settled.{settles}
use Rattle.wt_follows.proofs.StreamEnds.{actions-append, actions-events}
use Rattle.wt_follows.specs.Pieces.{FindsNothing}
use Rattle.wt_follows.specs.Rests.{ControlRead, Resting, SessionsRead, SlotsRead}
use Rattle.wt_follows.specs.Roles.{is_in, is_living}
use Rattle.wt_follows.specs.Tie.{Amid, Follows, goes}
use Rattle.wt_kept.specs.Kept.{DriverNow, LiveNow}
use Rattle.wt_kept.specs.Moment.{moment_now, work_of_moment, without_datagrams}
use Rattle.wt_transport.proofs.Refining.{actions-contents, refined_open}
use Rattle.wt_turn.specs.Joined.{newest_first, send_of}
use Rattle.wt_turn.specs.Reports.{credit, is_connected, stop_of, unis_allowed}
use Rattle.wt_turn.specs.Streams.{contents, local_count, one_more_if, local_uni, peer_bi, peer_uni}
use Rattle.wt_turn.specs.Unread.{AtOffset, ReadPosition}
use Rattle.wt_message.specs.FixedBytes.{local_control_bytes}
use Rattle.wt_meaning.specs.Sends.{action_if}
use Rattle.wt_sessions.proofs.LogFollows.{actions-follow, entry-follows}
use Rattle.wt_sessions.specs.Driver.{ControlSent, apply_if, close_actions, control_actions, control_sent, flush, is_moment, log_and_flush, pending_actions, stream_table, transport_view}
use Rattle.wt_sessions.specs.DriverState.{DriverState, state_of}
use Rattle.wt_sessions.specs.Moment.{Fits, actions_if, moment_actions, scans}
use Rattle.wt_sessions.specs.Step.{after_entry, scan_state, step_actions}
use Rattle.wt_sessions.specs.StreamTable.{Session, TransportView}
use Rattle.wt_turn.specs.Log.{Called, Entry, Log, Received, Reported, ReportedLate, Sent, actions_of, events_of, is_open, with_actions}
use Rattle.wt_turn.specs.declared.action.Action.{Action}
use Rattle.wt_wire.specs.declared.error.ErrorCode.{ErrorCode}
use Rattle.wt_wire.specs.declared.side.Side.{Side}
use Rattle.wt_wire.specs.declared.side.Side.TheVariants.{Client, Server}
use Rattle.wt_turn.specs.declared.action.Action.TheVariants as actions

-- ---- what went out opened no stream of the peer's kinds

module _ (kind : ℕ) where
  pub ends-count : (xs : List Action) (log : Log) → AreEnds xs → local_count (actions_of (with_actions xs log)) kind ≡ local_count (actions_of log) kind
  ends-count [] log e = refl
  ends-count (x ∷ xs) log e = ends-count xs (Sent x ∷ log) e.1 ∙ one x e.0
    where
      one : (x : Action) → is_end x ≡ true → local_count (actions_of (Sent x ∷ log)) kind ≡ local_count (actions_of log) kind
      one (actions.StopOut id code) f = refl
      one (actions.ResetOut id code) f = refl
      one (actions.Finish id) f = refl
      one (actions.Dial address name) f = absurd cc
      one (actions.Opened id) f = absurd cc
      one (actions.Send id piece) f = absurd cc
      one (actions.DatagramOut piece) f = absurd cc
      one (actions.Close code reason) f = absurd cc

  close-count : (o : Option ErrorCode) (log : Log) → local_count (actions_of (with_actions (close_actions o) log)) kind ≡ local_count (actions_of log) kind
  close-count None log = refl
  close-count (Some code) log = refl

  send-count : (id : ℕ) (bytes : List ℕ) (log : Log) → local_count (actions_of (with_actions (send_of id bytes) log)) kind ≡ local_count (actions_of log) kind
  send-count id [] log = refl
  send-count id (x ∷ xs) log = refl

  own-count : (may : Bool) (id credit : ℕ) (c : ControlSent) (log : Log) → (id % 4 == kind) ≡ false → local_count (actions_of (with_actions (control_actions may id credit c) log)) kind ≡ local_count (actions_of log) kind
  own-count false id credit c log e = refl
  own-count true id credit c log e = by (not c.opened)
    where
      by : (b : Bool) → local_count (actions_of (with_actions (action_if b (actions.Opened id) ++ send_of id (drop c.sent (take credit local_control_bytes))) log)) kind ≡ local_count (actions_of log) kind
      by true = send-count id (drop c.sent (take credit local_control_bytes)) (Sent (actions.Opened id) ∷ log) ∙ ap (λ b. one_more_if b (local_count (actions_of log) kind)) e
      by false = send-count id (drop c.sent (take credit local_control_bytes)) log

apart-uni : (side : Side) → (local_uni side % 4 == peer_uni side) ≡ false
apart-uni Client = refl
apart-uni Server = refl

apart-bi : (side : Side) → (local_uni side % 4 == peer_bi side) ≡ false
apart-bi Client = refl
apart-bi Server = refl

-- ---- actions in the log change nothing else of what is kept

pub state-sent : (side : Side) (own : List Action) (log : Log) → state_of side (with_actions own log) ≡ told (control_sent side (with_actions own log)) (is_open (with_actions own log)) (state_of side log)
unfolding state_of stream_table
state-sent side [] log = refl
state-sent side (a ∷ later) log = state-sent side later (Sent a ∷ log)

pending-of : (side : Side) (log : Log) → pending_actions side log ≡ (head_actions side log ++ (state_of side log).progress.actions) ++ close_actions (state_of side log).progress.fault
unfolding state_of
pending-of side log = refl

-- ---- the moment

module _ (side : Side) (log : Log) (e : Entry) (fits : Fits side (e ∷ log)) (moment : is_moment e ≡ true) (runs : is_open (e ∷ log) ≡ true) (d : DriverNow) (position : ℕ → ReadPosition) (uncollected : List Action)
    (amid : Amid side d (e ∷ log) (after_entry (transport_view side log) e (state_of side log)) [] position uncollected)
    (unstopped : is_some (stop_of (events_of (e ∷ log)) (local_uni side)) ≡ true → head_rest side (e ∷ log) ≡ [])
    (unready : (transport_view side (e ∷ log)).ready ≡ false → (d.unis.reading ≡ []) × (d.bis.reading ≡ [])) where
  abbrev whole : Log
  whole = e ∷ log

  abbrev s : DriverState
  s = after_entry (transport_view side log) e (state_of side log)

  abbrev u : TransportView
  u = transport_view side whole

  -- the state after the steps
  abbrev z : DriverState
  z = scan_state u s

  opened : s.is_open ≡ true
  opened = amid.work.is_open_same ∙ runs

  w : Worked side whole d s position uncollected amid opened unstopped unready
  w = worked side whole d s position uncollected amid opened unstopped unready

  abbrev out : List Action
  out = out_then side whole d s position uncollected amid opened unstopped unready

  abbrev g : Log
  g = with_actions out whole

  scans-is : scans e s ≡ true
  scans-is = λ i. moment i && opened i

  state-is : state_of side whole ≡ z
  state-is = entry-follows side log e fits ∙ (λ i. apply_if (moment i && runs i) (scan_state u) s)

  pending-is : pending_actions side whole ≡ out
  pending-is = pending-of side whole ∙ (ap (λ (x : DriverState). (head_actions side whole ++ x.progress.actions) ++ close_actions x.progress.fault) state-is
      ∙ append_assoc (head_actions side whole) z.progress.actions (close_actions z.progress.fault))

  log-is : log_and_flush side log e ≡ g
  unfolding flush
  log-is = (λ i. apply_if (moment i && runs i) (with_actions (pending_actions side whole)) whole) ∙ ap (λ xs. with_actions xs whole) pending-is

  actions-are : moment_actions (transport_view side log) u e (state_of side log) ≡ out
  actions-are = ap (λ b. actions_if b u s) scans-is ∙ (ap (step_actions u) (sym state-is) ∙ (sym (actions-follow side whole) ∙ pending-is))

  -- ---- the tie

  count-same : (kind : ℕ) → (local_uni side % 4 == kind) ≡ false → local_count (actions_of g) kind ≡ local_count (actions_of whole) kind
  count-same kind f =
      ap (λ (l : Log). local_count (actions_of l) kind) (actions-append (head_actions side whole) (z.progress.actions ++ close_actions z.progress.fault) whole ∙ actions-append z.progress.actions (close_actions z.progress.fault) (with_actions (head_actions side whole) whole))
      ∙ (close-count kind z.progress.fault (with_actions z.progress.actions (with_actions (head_actions side whole) whole))
      ∙ (ends-count kind z.progress.actions (with_actions (head_actions side whole) whole) (subst AreEnds (sym w.actions) w.ends)
      ∙ own-count kind u.may_open (local_uni side) u.credit (control_sent side whole) whole f))

  state-then : state_of side g ≡ told (control_sent side g) (is_open g) z
  state-then = state-sent side out whole ∙ ap (λ (x : DriverState). told (control_sent side g) (is_open g) x) state-is

  settled : Amid side (work_of_moment d) g (state_of side g) [] w.position_then (newest_first out uncollected)
  settled = subst (λ (x : DriverState). Amid side (work_of_moment d) g x [] w.position_then (newest_first out uncollected)) (sym state-then)
      (settles side (work_of_moment d) whole (told (control_sent side whole) (is_none z.progress.fault) z) out w.position_then (newest_first out uncollected) w.amid_then
      (count-same (peer_uni side) (apart-uni side)) (count-same (peer_bi side) (apart-bi side)))

  -- ---- at rest

  contents-same : contents g ≡ contents whole
  contents-same = actions-contents out whole

  none-is : (o : Option ErrorCode) → is_none o ≡ true → o ≡ None
  none-is None f = refl
  none-is (Some code) f = absurd (true≢false (sym f))

  module _ (open_then : is_open g ≡ true) where
    no-fault : z.progress.fault ≡ None
    no-fault = none-is z.progress.fault (w.amid_then.work.is_open_same ∙ open_then)

    going : goes z ≡ true
    going = λ i. w.is_open i && is_none (no-fault i)

    finds : FindsNothing (transport_view side g) (state_of side g) (state_of side g).progress.settings
    finds = subst (λ (l : Log). FindsNothing (transport_view side l) (state_of side l) (state_of side l).progress.settings) log-is
        (rests-again side log e fits scans-is (ap (λ (l : Log). (state_of side l).progress.fault) log-is ∙ (ap (λ (x : DriverState). x.progress.fault) state-then ∙ no-fault)))

    read-live : (xs : List LiveNow) → ((k : ℕ) → list_any (λ (x : LiveNow). x.id == k) xs ≡ true → w.position_then k ≡ AtOffset (length (contents whole k))) → SessionsRead w.position_then (contents whole) xs
    read-live [] f = tt
    read-live (x ∷ xs) f = (f x.id (ap (λ b. b || list_any (λ (y : LiveNow). y.id == x.id) xs) (same x.id)), read-live xs (λ k h. f k (ap (λ b. (x.id == k) || b) h ∙ or-true (x.id == k))))

    lives : (k : ℕ) → list_any (λ (x : LiveNow). x.id == k) (work_of_moment d).work.dispatched.sessions.living ≡ is_living z k
    lives k = sym (any-map (λ (x : LiveNow). x.id) k (work_of_moment d).work.dispatched.sessions.living) ∙ (ap (is_in k) w.amid_then.work.keeps.living ∙ any-map (λ (x : Session). x.id) k z.sessions)

    rests-then : Resting side (work_of_moment d) g w.position_then
    rests-then = record {
      finds = finds;
      unis = subst (λ c. SlotsRead w.position_then c (work_of_moment d).unis.reading) (sym contents-same) (w.read_unis going);
      bis = subst (λ c. SlotsRead w.position_then c (work_of_moment d).bis.reading) (sym contents-same) (w.read_bis going);
      control = subst (λ c. ControlRead w.position_then c (work_of_moment d).work.dispatched.critical.control) (sym contents-same) (w.control going);
      sessions = subst (λ c. SessionsRead w.position_then c (work_of_moment d).work.dispatched.sessions.living) (sym contents-same)
          (read-live (work_of_moment d).work.dispatched.sessions.living (λ k h. w.live going k (sym (lives k) ∙ h)));
      unready = λ f. w.unready_then (ready-same ∙ f);
      first_unis = λ f. ap (λ (x : DriverState). take 4 x.unis) state-then ∙ (w.first going (ready-same ∙ f)).0;
      first_bis = λ f. ap (λ (x : DriverState). take 4 x.bis) state-then ∙ (w.first going (ready-same ∙ f)).1;
    }
      where
        -- whether this end's SETTINGS are out rests on what was reported
        ready-same : u.ready ≡ (transport_view side g).ready
        ready-same = λ i. is_connected (sym (actions-events out whole) i) && nat_lt 0 (unis_allowed (sym (actions-events out whole) i))
            && not (nat_lt (credit (sym (actions-events out whole) i) (local_uni side)) (length local_control_bytes))

  followed : Follows side (work_of_moment d) g (newest_first out uncollected)
  followed = record { position = w.position_then; amid = settled; rests = rests-then }

  works : work_of_moment d ≡ moment_now d
  unfolding moment_now
  works = sym (ap (λ (b : Bool). if b then work_of_moment d else without_datagrams false d) (refined_open side d.work.transport whole position uncollected amid.work.transport ∙ runs))

  -- after a moment of an open connection a driver follows the log, and rests
  pub moment-follows : Follows side (moment_now d) (log_and_flush side log e) (newest_first (moment_actions (transport_view side log) (transport_view side (e ∷ log)) e (state_of side log)) uncollected)
  moment-follows = subst (λ (x : DriverNow). Follows side x (log_and_flush side log e) (newest_first (moment_actions (transport_view side log) u e (state_of side log)) uncollected)) works
      (subst₂ (λ (l : Log) (xs : List Action). Follows side (work_of_moment d) l (newest_first xs uncollected)) (sym log-is) (sym actions-are) followed)

-- ---- of a driver that rested

state-control : (side : Side) (log : Log) → (state_of side log).control_sent ≡ control_sent side log
unfolding state_of
state-control side log = refl

-- an entry that is a moment sends nothing
moment-sends : (side : Side) (log : Log) (e : Entry) → is_moment e ≡ true → (control_sent side log).sent ≤ (control_sent side (e ∷ log)).sent
moment-sends side log (Sent a) m = absurd (true≢false (sym m))
moment-sends side log (Received id byte) m = omega arith
moment-sends side log (Reported e) m = omega arith
moment-sends side log (ReportedLate e) m = omega arith
moment-sends side log (Called r) m = omega arith

module _ (side : Side) (log : Log) (e : Entry) (fits : Fits side (e ∷ log)) (moment : is_moment e ≡ true) (runs : is_open (e ∷ log) ≡ true) (came : Bool) (q : FindsNothing (transport_view side log) (state_of side log) came)
    (d : DriverNow) (position : ℕ → ReadPosition) (uncollected : List Action) (amid : Amid side d (e ∷ log) (after_entry (transport_view side log) e (state_of side log)) [] position uncollected)
    (unready : (transport_view side log).ready ≡ false → (d.unis.reading ≡ []) × (d.bis.reading ≡ [])) where
  idle : head_actions side log ≡ []
  idle = ap (λ c. control_actions (transport_view side log).may_open (local_uni side) (transport_view side log).credit c) (sym (state-control side log)) ∙ q.idle

  stop-none : is_some (stop_of (events_of (e ∷ log)) (local_uni side)) ≡ true → head_rest side (e ∷ log) ≡ []
  stop-none = own-rests side log idle e d (after_entry (transport_view side log) e (state_of side log)) position uncollected amid q.unstopped

  still-ready : (transport_view side log).ready ≡ true → (transport_view side (e ∷ log)).ready ≡ true
  still-ready r = ready-stays side log idle (e ∷ log) d (after_entry (transport_view side log) e (state_of side log)) position uncollected amid (amid.work.is_open_same ∙ runs) stop-none (moment-sends side log e moment) r

  unready-then : (transport_view side (e ∷ log)).ready ≡ false → (d.unis.reading ≡ []) × (d.bis.reading ≡ [])
  unready-then f = unready (by (transport_view side log).ready refl)
    where
      by : (b : Bool) → (transport_view side log).ready ≡ b → (transport_view side log).ready ≡ false
      by false r = r
      by true r = absurd (true≢false (sym (still-ready r) ∙ f))

  -- after the moment of an entry that a driver took that was at rest
  pub rested-moment-follows : Follows side (moment_now d) (log_and_flush side log e) (newest_first (moment_actions (transport_view side log) (transport_view side (e ∷ log)) e (state_of side log)) uncollected)
  rested-moment-follows = moment-follows side log e fits moment runs d position uncollected amid stop-none unready-then
