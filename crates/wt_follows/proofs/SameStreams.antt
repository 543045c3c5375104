-- In the midst of a moment, where the datagrams that wait and the progress change, and no stream's place does.
use Rattle.std.proofs.Common.{◌∙◌, ◌≡◌, Bool, List, ap, false, subst, sym, true, ℕ}
use Rattle.std.proofs.lemmas.Bool.{eqb-true, true≢false}
use Rattle.std.specs.Prelude.{◌==◌}
use Rattle.wt_follows.proofs.Gains.{next}
use Rattle.wt_follows.proofs.Lists.{refuted}
use Rattle.wt_follows.proofs.OwnRequest.{peers-kept}
use Rattle.wt_follows.specs.Roles.{Roles, is_member}
use Rattle.wt_follows.specs.Tie.{AtHeader, ControlFollows, Keeps, Placed, Sends, SessionsFollow, There, WorkAmid, goes, rests_at_header}
use Rattle.wt_kept.specs.Kept.{DispatchedNow, WorkNow}
use Rattle.wt_transport.specs.State.{Refines, TransportState}
use Rattle.wt_turn.specs.Streams.{contents, exists}
use Rattle.wt_turn.specs.Unread.{ReadPosition}
use Rattle.wt_sessions.specs.Driver.{ControlSent}
use Rattle.wt_sessions.specs.DriverState.{DriverState}
use Rattle.wt_sessions.specs.StreamTable.{Admitted, DriverProgress}
use Rattle.wt_turn.specs.Log.{Log, with_actions}
use Rattle.wt_turn.specs.declared.action.Action.{Action}
use Rattle.wt_wire.specs.declared.side.Side.{Side}

-- the state with these datagrams and this progress
abbrev pub dated : List Admitted → DriverProgress → DriverState → DriverState
dated xs p s = next s (record s.dispatched { datagrams = xs }) p

-- this end's control stream is so far, and the connection so open
abbrev pub told : ControlSent → Bool → DriverState → DriverState
told c o s = record s { control_sent = c; is_open = o }

module _ (s : DriverState) (xs : List Admitted) (p : DriverProgress) (c : ControlSent) (o : Bool) where
  pub told-roles : Roles s → Roles (told c o (dated xs p s))
  told-roles h = record {
    unis = h.unis;
    bis = h.bis;
    kinds = h.kinds;
    arriving = λ j e. let a = h.arriving j e in record { critical = a.critical; held = a.held; living = a.living; waits = a.waits; member = a.member; gone = a.gone };
    living = h.living;
    living_alone = h.living_alone;
    requests_alone = h.requests_alone;
    waiting = h.waiting;
    waiting_alone = λ j e. let a = h.waiting_alone j e in record { arriving = a.arriving; critical = a.critical; held = a.held; living = a.living };
    waiting_unjoined = h.waiting_unjoined;
    members_alone = λ j session e. let a = h.members_alone j session e in record { arriving = a.arriving; critical = a.critical; held = a.held; living = a.living };
    members_once = h.members_once;
    members_distinct = h.members_distinct;
    held = h.held;
  }

  pub told-there : (side : Side) (log : Log) → There side s log → There side (told c o (dated xs p s)) log
  told-there side log t = record {
    unis = t.unis;
    bis = t.bis;
    arriving = t.arriving;
    waiting = t.waiting;
    living = t.living;
    held = t.held;
    members = t.members;
    critical = t.critical;
    gone = t.gone;
    own = t.own;
    kinds = t.kinds;
    few = t.few;
    peers = peers-kept side s (told c o (dated xs p s)) (λ k e. e) (λ k e. e) (λ k e. e) (λ k e. e) t.peers;
  }

  pub told-sends : (side : Side) (before after : Log) → Sends side s before after → Sends side (told c o (dated xs p s)) before after
  told-sends side before after x = record { arriving = x.arriving; waiting = x.waiting; members = x.members; living = x.living; own = x.own }

  pub told-placed : (side : Side) (log : Log) (position : ℕ → ReadPosition) → Placed side s log position → Placed side (told c o (dated xs p s)) log position
  told-placed side log position x = record { headers = x.headers; members = x.members; untouched = x.untouched; arriving = x.arriving; unopened = x.unopened; heads = x.heads }

  -- more was read of a stream that the driver reads itself
  pub told-read : (side : Side) (log : Log) (old new : ℕ → ReadPosition) (k : ℕ) → ((j : ℕ) → (k == j) ≡ false → new j ≡ old j) → rests_at_header s k ≡ false → ((session : ℕ) → is_member s session k ≡ false)
      → exists side log k ≡ true → Placed side s log old → Placed side (told c o (dated xs p s)) log new
  told-read side log old new k same rests member there x = record {
    headers = λ j e. subst (λ q. AtHeader log q j) (sym (same j (refuted (k == j) (λ f. true≢false (sym e ∙ (ap (rests_at_header s) (sym (eqb-true k j f)) ∙ rests)))))) (x.headers j e);
    members = λ j session e. same j (refuted (k == j) (λ f. true≢false (sym e ∙ (ap (is_member s session) (sym (eqb-true k j f)) ∙ member session)))) ∙ x.members j session e;
    untouched = x.untouched;
    arriving = x.arriving;
    heads = x.heads;
    unopened = λ j e. let u = x.unopened j e in (same j (refuted (k == j) (λ f. true≢false (sym there ∙ (ap (exists side log) (eqb-true k j f) ∙ e)))) ∙ u.0, u.1);
  }

module _ (side : Side) (w : WorkNow) (log : Log) (s : DriverState) (sent : List Action) (position : ℕ → ReadPosition) (uncollected : List Action) (a : WorkAmid side w log s sent position uncollected)
    (xs : List Admitted) (p : DriverProgress) (kept : DispatchedNow) where
  pub dated-amid : Keeps kept (dated xs p s) → (goes (dated xs p s) ≡ true → ControlFollows kept.critical.control s.dispatched.control (contents log) position)
      → (goes (dated xs p s) ≡ true → SessionsFollow kept.sessions.living s.sessions (contents log) position) → WorkAmid side (record w { dispatched = kept }) log (dated xs p s) sent position uncollected
  dated-amid keeps control sessions = record {
    transport = a.transport;
    is_open_same = a.is_open_same;
    keeps = keeps;
    roles = told-roles s xs p s.control_sent s.is_open a.roles;
    placed = told-placed s xs p s.control_sent s.is_open side log position a.placed;
    there = told-there s xs p s.control_sent s.is_open side log a.there;
    sends = told-sends s xs p s.control_sent s.is_open side log (with_actions sent log) a.sends;
    control = control;
    sessions = sessions;
  }

  pub read-amid : (t : TransportState) (new : ℕ → ReadPosition) (k : ℕ) → Refines side t (with_actions sent log) new uncollected → ((j : ℕ) → (k == j) ≡ false → new j ≡ position j)
      → rests_at_header s k ≡ false → ((session : ℕ) → is_member s session k ≡ false) → exists side log k ≡ true → Keeps kept (dated xs p s)
      → (goes (dated xs p s) ≡ true → ControlFollows kept.critical.control s.dispatched.control (contents log) new)
      → (goes (dated xs p s) ≡ true → SessionsFollow kept.sessions.living s.sessions (contents log) new) → WorkAmid side (record { transport = t; dispatched = kept }) log (dated xs p s) sent new uncollected
  read-amid t new k r same rests member there keeps control sessions = record {
    transport = r;
    is_open_same = a.is_open_same;
    keeps = keeps;
    roles = told-roles s xs p s.control_sent s.is_open a.roles;
    placed = told-read s xs p s.control_sent s.is_open side log position new k same rests member there a.placed;
    there = told-there s xs p s.control_sent s.is_open side log a.there;
    sends = told-sends s xs p s.control_sent s.is_open side log (with_actions sent log) a.sends;
    control = control;
    sessions = sessions;
  }
