-- In the midst of a moment a stream that had no place gets one, or gets none: for all other streams nothing changes.
use Rattle.std.proofs.Common.{◌∙◌, ◌≡◌, List, ap, false, map, subst, sym, true, ℕ}
use Rattle.std.specs.Prelude.{◌==◌, not}
use Rattle.wt_follows.proofs.Logs.{by-id, differs}
use Rattle.wt_follows.specs.Roles.{AreDistinct, IsApart, IsSessions, Roles, is_arriving, is_critical, is_held, is_in, is_living, is_member, waits}
use Rattle.wt_follows.specs.Tie.{AtHeader, ControlFollows, IsUntouched, Keeps, Placed, Sends, SessionsFollow, There, WorkAmid, goes, rests_at_header}
use Rattle.wt_kept.specs.Kept.{DispatchedNow, WorkNow}
use Rattle.wt_transport.proofs.Bools.{first}
use Rattle.wt_turn.specs.Streams.{can_receive, contents, exists, local_uni}
use Rattle.wt_turn.specs.Unread.{ReadPosition}
use Rattle.wt_sessions.specs.Driver.{still_sends}
use Rattle.wt_sessions.specs.DriverState.{DriverState}
use Rattle.wt_sessions.specs.Moment.{is_peers}
use Rattle.wt_sessions.specs.StreamTable.{Dispatched, DriverProgress, Waiting}
use Rattle.wt_turn.specs.Log.{Log, with_actions}
use Rattle.wt_turn.specs.declared.action.Action.{Action}
use Rattle.wt_wire.specs.declared.side.Side.{Side}
use Rattle.std.specs.Prelude.{◌%◌}

-- the state with these streams and this progress
abbrev pub next : DriverState → Dispatched → DriverProgress → DriverState
next s d p = record s { dispatched = d; progress = p }

-- What changes with the place of one stream, which is read as far as the position says.
pub record Gains (log : Log) (position : ReadPosition) (k : ℕ) (s z : DriverState) : Type 0 where
  pub members : (session : ℕ) → z.dispatched.members session ≡ s.dispatched.members session
  pub gone : (j : ℕ) → (k == j) ≡ false → z.dispatched.is_gone j ≡ s.dispatched.is_gone j
  pub gone_less : (j : ℕ) → z.dispatched.is_gone j ≡ false → s.dispatched.is_gone j ≡ false
  pub critical : (j : ℕ) → (k == j) ≡ false → is_critical z j ≡ is_critical s j
  pub held : (j : ℕ) → (k == j) ≡ false → is_held z j ≡ is_held s j
  pub waiting : (j : ℕ) → (k == j) ≡ false → waits z j ≡ waits s j
  pub distinct : AreDistinct (map (λ (w : Waiting). w.id) z.dispatched.streams)
  pub held_distinct : AreDistinct z.dispatched.held
  pub lone_held : is_held z k ≡ true → is_critical z k ≡ false
  pub lone_waiting : waits z k ≡ true → (is_critical z k ≡ false) × (is_held z k ≡ false)
  pub rests : (j : ℕ) → (k == j) ≡ false → rests_at_header z j ≡ true → rests_at_header s j ≡ true
  pub header : rests_at_header z k ≡ true → AtHeader log position k

-- a stream whose header was being read, and that has no place
pub record IsNew (side : Side) (log : Log) (sent : List Action) (s : DriverState) (k : ℕ) : Type 0 where
  pub apart : IsApart s k
  pub arriving : is_arriving s k ≡ false
  pub untouched : IsUntouched log k
  pub receives : can_receive side log k ≡ true
  pub peers : is_peers side k ≡ true
  pub sends : still_sends side (with_actions sent log) k ≡ still_sends side log k

module _ (side : Side) (w : WorkNow) (log : Log) (s : DriverState) (sent : List Action) (position : ℕ → ReadPosition) (uncollected : List Action) (amid : WorkAmid side w log s sent position uncollected) (k : ℕ) (new : IsNew side log sent s k)
    (d : Dispatched) (p : DriverProgress) (g : Gains log (position k) k s (next s d p)) where
  abbrev z : DriverState
  z = next s d p

  member-same : (session j : ℕ) → is_member z session j ≡ is_member s session j
  member-same session j = ap (is_in j) (g.members session)

  other-arriving : (j : ℕ) → is_arriving s j ≡ true → (k == j) ≡ false
  other-arriving j e = differs (is_arriving s) k new.arriving j e

  apart-then : (j : ℕ) → is_arriving s j ≡ true → IsApart z j
  apart-then j e =
      let a = amid.roles.arriving j e in
      let ne = other-arriving j e in
      record {
        critical = g.critical j ne ∙ a.critical;
        held = g.held j ne ∙ a.held;
        living = a.living;
        waits = g.waiting j ne ∙ a.waits;
        member = λ session. member-same session j ∙ a.member session;
        gone = g.gone j ne ∙ a.gone;
      }

  waiting-then : (j : ℕ) → waits z j ≡ true → IsSessions z j
  waiting-then j = by-id (λ i. waits z i ≡ true → IsSessions z i) k j
      (λ e. record { arriving = new.arriving; critical = (g.lone_waiting e).0; held = (g.lone_waiting e).1; living = new.apart.living })
      (λ ne e. let a = amid.roles.waiting_alone j (sym (g.waiting j ne) ∙ e) in record { arriving = a.arriving; critical = g.critical j ne ∙ a.critical; held = g.held j ne ∙ a.held; living = a.living })

  roles-then : Roles z
  roles-then = record {
    unis = amid.roles.unis;
    bis = amid.roles.bis;
    kinds = amid.roles.kinds;
    arriving = apart-then;
    living = amid.roles.living;
    living_alone = λ j e. g.critical j (differs (is_living s) k new.apart.living j e) ∙ amid.roles.living_alone j e;
    requests_alone = λ j. by-id (λ i. is_held z i ≡ true → is_critical z i ≡ false) k j g.lone_held (λ ne e. g.critical j ne ∙ amid.roles.requests_alone j (sym (g.held j ne) ∙ e));
    waiting = g.distinct;
    waiting_alone = waiting-then;
    waiting_unjoined = λ j session. by-id (λ i. waits z i ≡ true → is_member z session i ≡ false) k j
        (λ e. member-same session k ∙ new.apart.member session)
        (λ ne e. member-same session j ∙ amid.roles.waiting_unjoined j session (sym (g.waiting j ne) ∙ e));
    members_alone = λ j session e.
        let before : is_member s session j ≡ true = sym (member-same session j) ∙ e in
        let ne = differs (is_member s session) k (new.apart.member session) j before in
        let a = amid.roles.members_alone j session before in
        record { arriving = a.arriving; critical = g.critical j ne ∙ a.critical; held = g.held j ne ∙ a.held; living = a.living };
    members_distinct = λ session. subst AreDistinct (sym (g.members session)) (amid.roles.members_distinct session);
    members_once = λ j one other e f. amid.roles.members_once j one other (sym (member-same one j) ∙ e) (sym (member-same other j) ∙ f);
    held = g.held_distinct;
  }

  placed-then : Placed side z log position
  placed-then = record {
    headers = λ j. by-id (λ i. rests_at_header z i ≡ true → AtHeader log (position i) i) k j g.header (λ ne e. amid.placed.headers j (g.rests j ne e));
    members = λ j session e. amid.placed.members j session (sym (member-same session j) ∙ e);
    untouched = λ j. by-id (λ i. waits z i ≡ true → IsUntouched log i) k j (λ e. new.untouched) (λ ne e. amid.placed.untouched j (sym (g.waiting j ne) ∙ e));
    arriving = amid.placed.arriving;
    unopened = amid.placed.unopened;
    heads = λ j session e. amid.placed.heads j session (sym (member-same session j) ∙ e);
  }

  its-there : exists side log k ≡ true
  its-there = first (exists side log k) (not (local_uni side == k % 4)) new.receives

  there-then : There side z log
  there-then = record {
    unis = amid.there.unis;
    bis = amid.there.bis;
    arriving = amid.there.arriving;
    waiting = λ j. by-id (λ i. waits z i ≡ true → can_receive side log i ≡ true) k j (λ e. new.receives) (λ ne e. amid.there.waiting j (sym (g.waiting j ne) ∙ e));
    living = amid.there.living;
    held = λ j. by-id (λ i. is_held z i ≡ true → can_receive side log i ≡ true) k j (λ e. new.receives) (λ ne e. amid.there.held j (sym (g.held j ne) ∙ e));
    members = λ j session e. amid.there.members j session (sym (member-same session j) ∙ e);
    critical = λ j. by-id (λ i. is_critical z i ≡ true → can_receive side log i ≡ true) k j (λ e. new.receives) (λ ne e. amid.there.critical j (sym (g.critical j ne) ∙ e));
    gone = λ j. by-id (λ i. z.dispatched.is_gone i ≡ true → exists side log i ≡ true) k j (λ e. its-there) (λ ne e. amid.there.gone j (sym (g.gone j ne) ∙ e));
    own = λ session. member-same session (local_uni side) ∙ amid.there.own session;
    kinds = amid.there.kinds;
    few = amid.there.few;
    peers = record {
      arriving = amid.there.peers.arriving;
      critical = λ j. by-id (λ i. is_critical z i ≡ true → is_peers side i ≡ true) k j (λ e. new.peers) (λ ne e. amid.there.peers.critical j (sym (g.critical j ne) ∙ e));
      held = λ j. by-id (λ i. is_held z i ≡ true → is_peers side i ≡ true) k j (λ e. new.peers) (λ ne e. amid.there.peers.held j (sym (g.held j ne) ∙ e));
      waiting = λ j. by-id (λ i. waits z i ≡ true → is_peers side i ≡ true) k j (λ e. new.peers) (λ ne e. amid.there.peers.waiting j (sym (g.waiting j ne) ∙ e));
    };
  }

  sends-then : Sends side z log (with_actions sent log)
  sends-then = record {
    arriving = amid.sends.arriving;
    waiting = λ j. by-id (λ i. waits z i ≡ true → still_sends side (with_actions sent log) i ≡ still_sends side log i) k j (λ e. new.sends) (λ ne e. amid.sends.waiting j (sym (g.waiting j ne) ∙ e));
    members = λ j session e f. amid.sends.members j session (sym (member-same session j) ∙ e) (g.gone_less session f);
    living = amid.sends.living;
    own = amid.sends.own;
  }

  pub gains : (kept : DispatchedNow) → Keeps kept z → (goes z ≡ true → ControlFollows kept.critical.control d.control (contents log) position)
      → (goes z ≡ true → SessionsFollow kept.sessions.living s.sessions (contents log) position) → WorkAmid side (record w { dispatched = kept }) log z sent position uncollected
  gains kept keeps control sessions = record {
    transport = amid.transport;
    is_open_same = amid.is_open_same;
    keeps = keeps;
    roles = roles-then;
    placed = placed-then;
    there = there-then;
    sends = sends-then;
    control = control;
    sessions = sessions;
  }
