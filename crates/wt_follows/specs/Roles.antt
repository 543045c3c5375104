-- Each stream has one place in what a driver keeps of a log: its header is being read, it is one of the critical streams, it carries a
-- request, it is a session's own, it waits for a session, or the application accepted or opened it for one.
use Rattle.std.specs.Prelude.{[], ◌==◌, ◌||◌, ◌∷◌, ◌≡◌, Bool, List, None, Option, Some, false, map, true, ℕ}
use Rattle.std.specs.List.{list_any}
use Rattle.wt_sessions.specs.DriverState.{DriverState}
use Rattle.wt_sessions.specs.StreamTable.{Classified, Session, Waiting}

-- the id is among those
abbrev pub is_in : ℕ → List ℕ → Bool
is_in k ks = list_any (λ (j : ℕ). j == k) ks

-- no id stands there twice
abbrev pub AreDistinct : List ℕ → Type 0
AreDistinct [] = Unit {0}
AreDistinct (k ∷ ks) = (is_in k ks ≡ false) × AreDistinct ks

-- it is the critical stream, where there is one
abbrev pub is_at : Option (ℕ × ℕ) → ℕ → Bool
is_at None k = false
is_at (Some c) k = c.0 == k

-- one of the peer's critical streams
abbrev pub is_critical : DriverState → ℕ → Bool
is_critical s k = is_at s.dispatched.control k || is_at s.dispatched.encoder k || is_at s.dispatched.decoder k

-- it carries a request whose session isn't gone
abbrev pub is_held : DriverState → ℕ → Bool
is_held s k = is_in k s.dispatched.held || list_any (λ (c : Classified). c.id == k) s.dispatched.requests

-- it is the own stream of a session that lives
abbrev pub is_living : DriverState → ℕ → Bool
is_living s k = list_any (λ (x : Session). x.id == k) s.sessions

-- it waits for a session
abbrev pub waits : DriverState → ℕ → Bool
waits s k = list_any (λ (w : Waiting). w.id == k) s.dispatched.streams

-- its header is being read, or waits for that
abbrev pub is_arriving : DriverState → ℕ → Bool
is_arriving s k = is_in k s.unis || is_in k s.bis

-- the application accepted it or began to open it for this session
abbrev pub is_member : DriverState → ℕ → ℕ → Bool
is_member s session k = is_in k (s.dispatched.members session)

-- it has no place beside that of a stream whose header is read
pub record IsApart (s : DriverState) (k : ℕ) : Type 0 where
  pub critical : is_critical s k ≡ false
  pub held : is_held s k ≡ false
  pub living : is_living s k ≡ false
  pub waits : waits s k ≡ false
  pub member : (session : ℕ) → is_member s session k ≡ false
  pub gone : s.dispatched.is_gone k ≡ false

-- it has no place beside that of a session's stream that the application may get, or has
pub record IsSessions (s : DriverState) (k : ℕ) : Type 0 where
  pub arriving : is_arriving s k ≡ false
  pub critical : is_critical s k ≡ false
  pub held : is_held s k ≡ false
  pub living : is_living s k ≡ false

-- each stream has one place
pub record Roles (s : DriverState) : Type 0 where
  pub unis : AreDistinct s.unis
  pub bis : AreDistinct s.bis
  pub kinds : (k : ℕ) → is_in k s.unis ≡ true → is_in k s.bis ≡ false
  pub arriving : (k : ℕ) → is_arriving s k ≡ true → IsApart s k
  pub living : AreDistinct (map (λ (x : Session). x.id) s.sessions)
  pub living_alone : (k : ℕ) → is_living s k ≡ true → is_critical s k ≡ false
  pub requests_alone : (k : ℕ) → is_held s k ≡ true → is_critical s k ≡ false
  pub waiting : AreDistinct (map (λ (w : Waiting). w.id) s.dispatched.streams)
  pub waiting_alone : (k : ℕ) → waits s k ≡ true → IsSessions s k
  pub waiting_unjoined : (k session : ℕ) → waits s k ≡ true → is_member s session k ≡ false
  pub members_alone : (k session : ℕ) → is_member s session k ≡ true → IsSessions s k
  pub members_once : (k one other : ℕ) → is_member s one k ≡ true → is_member s other k ≡ true → one ≡ other
  pub members_distinct : (session : ℕ) → AreDistinct (s.dispatched.members session)
  pub held : AreDistinct s.dispatched.held
