-- In the midst of a moment, where only the fault and what goes out change.
use Rattle.std.proofs.Common.{◌≡◌, Option, true}
use Rattle.wt_follows.proofs.Gains.{next}
use Rattle.wt_follows.proofs.KeepsLaws.{keeps-progress}
use Rattle.wt_follows.proofs.OwnRequest.{peers-kept}
use Rattle.wt_follows.specs.Roles.{IsApart, IsSessions, Roles}
use Rattle.wt_follows.specs.Tie.{Placed, Sends, There, WorkAmid, goes}
use Rattle.wt_kept.specs.Kept.{WorkNow}
use Rattle.wt_turn.specs.Unread.{ReadPosition}
use Rattle.std.proofs.Common.{List, ℕ}
use Rattle.wt_sessions.specs.DriverState.{DriverState}
use Rattle.wt_sessions.specs.StreamTable.{DriverProgress}
use Rattle.wt_turn.specs.Log.{Log}
use Rattle.wt_turn.specs.declared.action.Action.{Action}
use Rattle.wt_wire.specs.declared.error.ErrorCode.{ErrorCode}
use Rattle.wt_wire.specs.declared.side.Side.{Side}

module _ (s : DriverState) (p : DriverProgress) where
  abbrev then : DriverState
  then = next s s.dispatched p

  pub apart-progress : (k : ℕ) → IsApart s k → IsApart then k
  apart-progress k a = record { critical = a.critical; held = a.held; living = a.living; waits = a.waits; member = a.member; gone = a.gone }

  sessions-progress : (k : ℕ) → IsSessions s k → IsSessions then k
  sessions-progress k a = record { arriving = a.arriving; critical = a.critical; held = a.held; living = a.living }

  pub roles-progress : Roles s → Roles then
  roles-progress r = record {
    unis = r.unis;
    bis = r.bis;
    kinds = r.kinds;
    arriving = λ k e. apart-progress k (r.arriving k e);
    living = r.living;
    living_alone = r.living_alone;
    requests_alone = r.requests_alone;
    waiting = r.waiting;
    waiting_alone = λ k e. sessions-progress k (r.waiting_alone k e);
    waiting_unjoined = r.waiting_unjoined;
    members_alone = λ k session e. sessions-progress k (r.members_alone k session e);
    members_distinct = r.members_distinct;
    members_once = r.members_once;
    held = r.held;
  }

  pub placed-progress : (side : Side) (log : Log) (position : ℕ → ReadPosition) → Placed side s log position → Placed side then log position
  placed-progress side log position h = record { headers = h.headers; members = h.members; untouched = h.untouched; arriving = h.arriving; unopened = h.unopened; heads = h.heads }

  pub there-progress : (side : Side) (log : Log) → There side s log → There side then log
  there-progress side log h = record {
    unis = h.unis;
    bis = h.bis;
    arriving = h.arriving;
    waiting = h.waiting;
    living = h.living;
    held = h.held;
    members = h.members;
    critical = h.critical;
    gone = h.gone;
    own = h.own;
    kinds = h.kinds;
    few = h.few;
    peers = peers-kept side s then (λ k e. e) (λ k e. e) (λ k e. e) (λ k e. e) h.peers;
  }

  pub sends-progress : (side : Side) (before after : Log) → Sends side s before after → Sends side then before after
  sends-progress side before after h = record { arriving = h.arriving; waiting = h.waiting; members = h.members; living = h.living; own = h.own }

  pub progressed : (side : Side) (w : WorkNow) (log : Log) (sent : List Action) (position : ℕ → ReadPosition) (uncollected : List Action) → WorkAmid side w log s sent position uncollected
      → (fault : Option ErrorCode) → p.settings ≡ s.progress.settings → fault ≡ p.fault → (goes then ≡ true → goes s ≡ true)
      → WorkAmid side (record w { dispatched = record w.dispatched { fault = fault } }) log then sent position uncollected
  progressed side w log sent position uncollected a fault settings same going = record {
    transport = a.transport;
    is_open_same = a.is_open_same;
    keeps = keeps-progress w.dispatched s a.keeps fault p settings same;
    roles = roles-progress a.roles;
    placed = placed-progress side log position a.placed;
    there = there-progress side log a.there;
    sends = sends-progress side log _ a.sends;
    control = λ e. a.control (going e);
    sessions = λ e. a.sessions (going e);
  }
