-- In the midst of a moment, where the reader of one stream that has no place yet went on or gave it up.
use Rattle.std.proofs.Common.{◌∙◌, ◌≡◌, ◌∷◌, List, None, Option, Some, [], ap, false, subst, sym, true, ℕ}
use Rattle.std.proofs.lemmas.Bool.{or_parts}
use Rattle.std.specs.List.{list_any}
use Rattle.std.specs.Prelude.{◌&&◌, ◌==◌, ◌||◌, not}
use Rattle.wt_follows.proofs.Logs.{differs, flip}
use Rattle.wt_follows.specs.Roles.{IsApart, is_at, is_held, is_in, is_member}
use Rattle.wt_follows.specs.Tie.{AtHeader, ControlFollows, Placed, ReaderAt, SessionsFollow, WorkAmid, rests_at_header}
use Rattle.wt_kept.specs.Kept.{LiveNow, WorkNow}
use Rattle.wt_kept.specs.Readers.{ControlReading, Slot, control_rules, session_rules}
use Rattle.wt_transport.specs.State.{Refines, TransportState}
use Rattle.wt_turn.specs.Streams.{contents, exists}
use Rattle.wt_turn.specs.Unread.{ReadPosition}
use Rattle.wt_sessions.specs.DriverState.{DriverState}
use Rattle.wt_sessions.specs.StreamTable.{Classified, Session}
use Rattle.wt_turn.specs.Log.{Log, with_actions}
use Rattle.wt_turn.specs.declared.action.Action.{Action}
use Rattle.wt_wire.specs.declared.side.Side.{Side}

-- the other positions are the same
abbrev pub Elsewhere : ℕ → (ℕ → ReadPosition) → (ℕ → ReadPosition) → Type 0
Elsewhere k before after = (j : ℕ) → (k == j) ≡ false → after j ≡ before j

module _ (k : ℕ) (before after : ℕ → ReadPosition) (same : Elsewhere k before after) (bytes : ℕ → List ℕ) where
  pub control-moved : (c : Option (Slot ControlReading)) (d : Option (ℕ × ℕ)) → is_at d k ≡ false → ControlFollows c d bytes before → ControlFollows c d bytes after
  control-moved None None miss h = h
  control-moved (Some x) (Some c) miss h = (h.0, subst (λ (p : ReadPosition). ReaderAt control_rules x.reader c.1 (bytes c.0) p) (sym (same c.0 (flip c.0 k miss))) h.1)
  control-moved None (Some c) miss h = h
  control-moved (Some x) None miss h = h

  pub sessions-moved : (xs : List LiveNow) (ss : List Session) → list_any (λ (x : Session). x.id == k) ss ≡ false → SessionsFollow xs ss bytes before → SessionsFollow xs ss bytes after
  sessions-moved [] [] miss h = h
  sessions-moved (x ∷ xs) (s ∷ ss) miss h =
      let parts = or_parts (s.id == k) (list_any (λ (y : Session). y.id == k) ss) miss in
      (subst (λ (p : ReadPosition). ReaderAt session_rules x.reader s.offset (bytes s.id) p) (sym (same s.id (flip s.id k parts.0))) h.0, sessions-moved xs ss parts.1 h.1)
  sessions-moved [] (s ∷ ss) miss h = h
  sessions-moved (x ∷ xs) [] miss h = h

-- a stream that isn't held is none of those
pub not-held : (s : DriverState) (k : ℕ) → is_held s k ≡ false → is_in k s.dispatched.held ≡ false
not-held s k e = (or_parts (is_in k s.dispatched.held) (list_any (λ (c : Classified). c.id == k) s.dispatched.requests) e).0

pub no-rest : (s : DriverState) (k : ℕ) → IsApart s k → rests_at_header s k ≡ false
no-rest s k apart = λ i. apart.waits i || (not-held s k apart.held i && not (s.dispatched.is_established k))

pub not-at : (s : DriverState) (k : ℕ) → IsApart s k → is_at s.dispatched.control k ≡ false
not-at s k apart = (or_parts (is_at s.dispatched.control k) (is_at s.dispatched.encoder k) (or_parts (is_at s.dispatched.control k || is_at s.dispatched.encoder k) (is_at s.dispatched.decoder k) apart.critical).0).0

module _ (side : Side) (w : WorkNow) (log : Log) (s : DriverState) (sent : List Action) (position : ℕ → ReadPosition) (uncollected : List Action) (amid : WorkAmid side w log s sent position uncollected) (k : ℕ) (apart : IsApart s k) (there : exists side log k ≡ true) where
  placed-moved : (after : ℕ → ReadPosition) → Elsewhere k position after → Placed side s log after
  placed-moved after same = record {
    headers = λ j e.
        let h = amid.placed.headers j e in
        subst (λ (p : ReadPosition). AtHeader log p j) (sym (same j (differs (rests_at_header s) k (no-rest s k apart) j e))) h;
    members = λ j session e. same j (differs (is_member s session) k (apart.member session) j e) ∙ amid.placed.members j session e;
    untouched = amid.placed.untouched;
    arriving = amid.placed.arriving;
    unopened = λ j e. let h = amid.placed.unopened j e in (same j (differs (λ i. not (exists side log i)) k (ap not there) j (ap not e)) ∙ h.0, h.1);
    heads = amid.placed.heads;
  }

  pub moved : (t : TransportState) (after : ℕ → ReadPosition) → Refines side t (with_actions sent log) after uncollected → Elsewhere k position after → WorkAmid side (record w { transport = t }) log s sent after uncollected
  moved t after refines same = record {
    transport = refines;
    is_open_same = amid.is_open_same;
    keeps = amid.keeps;
    roles = amid.roles;
    placed = placed-moved after same;
    there = amid.there;
    sends = amid.sends;
    control = λ e. control-moved k position after same (contents log) w.dispatched.critical.control s.dispatched.control (not-at s k apart) (amid.control e);
    sessions = λ e. sessions-moved k position after same (contents log) w.dispatched.sessions.living s.sessions apart.living (amid.sessions e);
  }
