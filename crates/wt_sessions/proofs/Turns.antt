-- Each lawful turn leads to a log whose entries might follow one another.
use Rattle.std.proofs.Common.{◌≡◌, ℕ, Bool, true, false, cond, List, [], ◌∷◌, is_none, refl, sym, ap, ◌∙◌}
use Rattle.std.specs.Prelude.{Option, Some, None, ◌==◌, ◌||◌, ◌&&◌, not}
use Rattle.std.specs.List.{list_any}
use Rattle.std.proofs.lemmas.Bool.{eq-eqb, eqb-true, true≢false}
use Rattle.wt_meaning.specs.Lawful.{is_client}
use Rattle.wt_sessions.proofs.Entries.{any-insert}
use Rattle.wt_sessions.proofs.Following.{Kept}
use Rattle.wt_sessions.proofs.LogFollows.{kept-of}
use Rattle.wt_sessions.specs.Connection.{starts_opening}
use Rattle.wt_proto.specs.declared.verdict.Verdict.{Verdict}
use Rattle.wt_sessions.specs.Driver.{transport_view, apply_if, call_view, flush, is_moment, log_and_flush, pending_actions, stream_table}
use Rattle.wt_sessions.specs.Effect.{log_call}
use Rattle.wt_sessions.specs.Handshake.{HandshakeState, Requested, Responding, Connecting, Answered, handshake_state, requested_stream}
use Rattle.wt_sessions.specs.Moment.{Fits, MayRecord, is_known, is_peers}
use Rattle.wt_sessions.specs.StreamTable.{is_session, verdict_of, was_established}
use Rattle.wt_turn.specs.Log.{AcceptanceFailed, CallRecord, Called, ConnectStarted, DatagramReceived, Entry, HandshakeOver, Log, OpeningStarted, RequestDelivered, RequestRejected, ResponseStarted, Sent, SessionEstablished, StreamAccepted, calls_of, is_open, with_actions}
use Rattle.wt_turn.specs.declared.action.Action.{Action}
use Rattle.wt_wire.specs.declared.side.Side.{Side}

-- ---- what lawful turns keep beside

-- a request was given and isn't answered
abbrev pub is_asked : HandshakeState → Bool
is_asked (Requested id) = true
is_asked (Responding accepts head) = true
is_asked _ = false

-- a connect goes on
abbrev pub is_dialling : HandshakeState → Bool
is_dialling (Connecting reserved head) = true
is_dialling _ = false

-- what else is asked of a record: a request is given once, to a server; a server establishes its request's session; this end opens its
-- own streams; a response follows a request; a connect is a client's, before any session
abbrev pub InOrder : Side → Log → CallRecord → Type 0
InOrder side log (RequestDelivered id) = ((call_view log).delivered id ≡ false) × (is_client side ≡ false)
InOrder side log (SessionEstablished id offset) = is_client side ≡ false → (call_view log).delivered id ≡ true
InOrder side log (OpeningStarted id session) = is_peers side id ≡ false
InOrder side log (ResponseStarted accepts head) = is_asked (handshake_state (calls_of log)) ≡ true
InOrder side log (ConnectStarted reserved head) = (is_client side ≡ true) × ((call_view log).sessions ≡ [])
InOrder side log _ = Unit {0}

-- all that is asked of it
abbrev pub MayCome : Side → Log → CallRecord → Type 0
MayCome side log r = MayRecord side log r × InOrder side log r

-- the entry may, too
abbrev pub MayEnter : Side → Log → Entry → Type 0
MayEnter side log (Called r) = MayCome side log r
MayEnter side log _ = Unit {0}

-- what holds of every log that lawful turns lead to
pub record Holds (side : Side) (log : Log) : Type 0 where
  pub fits : Fits side log
  pub openings : (k : ℕ) → list_any (starts_opening k) (calls_of log) ≡ true → is_peers side k ≡ false
  pub given : is_client side ≡ false → (k : ℕ) → (call_view log).delivered k ≡ false → was_established (call_view log) k ≡ false
  pub asked : is_asked (handshake_state (calls_of log)) ≡ true
      → ((call_view log).delivered (requested_stream (calls_of log)) ≡ true) × (was_established (call_view log) (requested_stream (calls_of log)) ≡ false)
  pub dialling : is_dialling (handshake_state (calls_of log)) ≡ true → (is_client side ≡ true) × ((call_view log).sessions ≡ [])

pub start-holds : (side : Side) → Holds side []
start-holds side = record {
  fits = tt;
  openings = λ k e. absurd cc;
  given = λ c k e. refl;
  asked = λ e. absurd cc;
  dialling = λ e. absurd cc;
}

or-first : (a b : Bool) → (a || b) ≡ false → a ≡ false
or-first true b e = e
or-first false b e = refl

or-second : (a b : Bool) → (a || b) ≡ false → b ≡ false
or-second true b e = absurd (true≢false e)
or-second false b e = e

module _ (side : Side) (log : Log) (held : Holds side log) where
  abbrev rs : List CallRecord
  rs = calls_of log

  -- ---- one record more

  record-holds : (r : CallRecord) → MayCome side log r → Holds side (Called r ∷ log)
  record-holds (RequestDelivered id) may = record {
    fits = (may.0, held.fits);
    openings = held.openings;
    given = λ c k e. held.given c k (or-second (id == k) ((call_view log).delivered k) e);
    asked = λ e. ((λ i. eq-eqb id id refl i || (call_view log).delivered id), held.given may.1.1 id may.1.0);
    dialling = λ e. absurd cc;
  }
  record-holds (SessionEstablished id offset) may = record {
    fits = (may.0, held.fits);
    openings = held.openings;
    given = λ c k e. any-insert (is_session k) (record { id = id; offset = offset }) (call_view log).sessions ∙ other c k e (id == k) refl;
    asked = λ e. absurd cc;
    dialling = λ e. absurd cc;
  }
    where
      other : is_client side ≡ false → (k : ℕ) → (call_view log).delivered k ≡ false → (b : Bool) → (id == k) ≡ b → (b || was_established (call_view log) k) ≡ false
      other c k e true f = absurd (let same : (call_view log).delivered k ≡ true = ap (call_view log).delivered (sym (eqb-true id k f)) ∙ may.1 c in true≢false (sym same ∙ e))
      other c k e false f = held.given c k e
  record-holds (OpeningStarted id session) may = record {
    fits = (may.0, held.fits);
    openings = λ k e. by k (id == k) refl e;
    given = held.given;
    asked = held.asked;
    dialling = held.dialling;
  }
    where
      by : (k : ℕ) (b : Bool) → (id == k) ≡ b → (b || list_any (starts_opening k) rs) ≡ true → is_peers side k ≡ false
      by k true f e = ap (is_peers side) (sym (eqb-true id k f)) ∙ may.1
      by k false f e = held.openings k e
  record-holds (ResponseStarted accepts head) may = record { fits = (may.0, held.fits); openings = held.openings; given = held.given; asked = λ e. held.asked may.1; dialling = λ e. absurd cc }
  record-holds (ConnectStarted reserved head) may = record { fits = (may.0, held.fits); openings = held.openings; given = held.given; asked = λ e. absurd cc; dialling = λ e. may.1 }
  record-holds (RequestRejected id) may = record {
    fits = (may.0, held.fits);
    openings = held.openings;
    given = held.given;
    asked = λ e. by_asked (id == requested_stream rs) e;
    dialling = λ e. by_dialling (id == requested_stream rs) e;
  }
    where
      by_asked : (b : Bool) → is_asked (elim (cond b (Some Answered) None) [ Some s ↦ s | None ↦ handshake_state rs ]) ≡ true
          → ((call_view log).delivered (requested_stream rs) ≡ true) × (was_established (call_view log) (requested_stream rs) ≡ false)
      by_asked true e = absurd cc
      by_asked false e = held.asked e

      by_dialling : (b : Bool) → is_dialling (elim (cond b (Some Answered) None) [ Some s ↦ s | None ↦ handshake_state rs ]) ≡ true → (is_client side ≡ true) × ((call_view log).sessions ≡ [])
      by_dialling true e = absurd cc
      by_dialling false e = held.dialling e
  record-holds AcceptanceFailed may = record { fits = (may.0, held.fits); openings = held.openings; given = held.given; asked = λ e. absurd cc; dialling = λ e. absurd cc }
  record-holds HandshakeOver may = record { fits = (may.0, held.fits); openings = held.openings; given = held.given; asked = λ e. absurd cc; dialling = λ e. absurd cc }
  record-holds _ may = record { fits = (may.0, held.fits); openings = held.openings; given = held.given; asked = held.asked; dialling = held.dialling }

  -- any entry
  pub entry-holds : (e : Entry) → MayEnter side log e → Holds side (e ∷ log)
  entry-holds (Called r) may = record-holds r may
  entry-holds _ may = record { fits = (tt, held.fits); openings = held.openings; given = held.given; asked = held.asked; dialling = held.dialling }

-- ---- what goes out

pub sent-holds : (side : Side) (as_ : List Action) (log : Log) → Holds side log → Holds side (with_actions as_ log)
sent-holds side [] log held = held
sent-holds side (a ∷ later) log held = sent-holds side later (Sent a ∷ log) (entry-holds side log held (Sent a) tt)

flushed : (side : Side) (b : Bool) (log : Log) (as_ : List Action) → Holds side log → Holds side (apply_if b (with_actions as_) log)
flushed side true log as_ held = sent-holds side as_ log held
flushed side false log as_ held = held

pub flush-holds : (side : Side) (log : Log) (e : Entry) → Holds side (e ∷ log) → Holds side (log_and_flush side log e)
unfolding flush
flush-holds side log e held = flushed side (is_moment e && is_open (e ∷ log)) (e ∷ log) (pending_actions side (e ∷ log)) held

-- what may come may come after actions, too
one-sent : (side : Side) (log : Log) (a : Action) (r : CallRecord) → MayCome side log r → MayCome side (Sent a ∷ log) r
unfolding stream_table
one-sent side log a (StreamAccepted id session) may = may
one-sent side log a (RequestDelivered id) may = may
one-sent side log a (RequestRejected id) may = may
one-sent side log a (SessionEstablished id offset) may = may
one-sent side log a (DatagramReceived index) may = may
one-sent side log a (OpeningStarted id session) may = may
one-sent side log a (ResponseStarted accepts head) may = may
one-sent side log a (ConnectStarted reserved head) may = may
one-sent side log a _ may = may

all-sent : (side : Side) (as_ : List Action) (log : Log) (r : CallRecord) → MayCome side log r → MayCome side (with_actions as_ log) r
all-sent side [] log r may = may
all-sent side (a ∷ later) log r may = all-sent side later (Sent a ∷ log) r (one-sent side log a r may)

-- a call's record after its own actions
pub call-holds : (side : Side) (log : Log) (own : List Action) (r : CallRecord) → MayCome side log r → Holds side log → Holds side (log_call side log own r)
call-holds side log own r may held =
    flush-holds side (with_actions own log) (Called r) (record-holds side (with_actions own log) (sent-holds side own log held) r (all-sent side own log r may))

-- ---- what is known

module _ (side : Side) (log : Log) (held : Holds side log) where
  known-by : (k : ℕ) → (is_peers side k ≡ true → verdict_of k (stream_table side log).classified ≡ None → ⊥) → is_known side log k ≡ true
  known-by k none = by (is_peers side k) refl (verdict_of k (stream_table side log).classified) refl
    where
      by : (b : Bool) → is_peers side k ≡ b → (o : Option Verdict) → verdict_of k (stream_table side log).classified ≡ o → (not b || not (is_none o)) ≡ true
      by false e o f = refl
      by true e (Some v) f = refl
      by true e None f = absurd (none e f)

  kept : Kept (transport_view side log) (call_view log) (stream_table side log)
  kept = kept-of side log held.fits

  pub delivered-known : (k : ℕ) → (call_view log).delivered k ≡ true → is_known side log k ≡ true
  delivered-known k e = known-by k (λ peer none. true≢false (sym e ∙ (kept.fresh k peer none).delivered))

  pub established-known : (k : ℕ) → was_established (call_view log) k ≡ true → is_known side log k ≡ true
  established-known k e = known-by k (λ peer none. true≢false (sym e ∙ (kept.fresh k peer none).unestablished))

  pub classified-known : (k : ℕ) → is_none (verdict_of k (stream_table side log).classified) ≡ false → is_known side log k ≡ true
  classified-known k e = known-by k (λ peer none. true≢false (ap is_none (sym none) ∙ e))

  pub own-known : (k : ℕ) → is_peers side k ≡ false → is_known side log k ≡ true
  own-known k e = rw e refl
