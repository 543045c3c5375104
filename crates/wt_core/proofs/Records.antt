-- What a record changes of what the application has.
use Rattle.std.proofs.Common.{◌∙◌, ap, refl, subst, sym}
use Rattle.std.proofs.lemmas.Bool.{eq-eqb, eqb-true, true≢false}
use Rattle.std.specs.List.{list_any}
use Rattle.std.specs.Option.{option_or}
use Rattle.std.specs.Prelude.{[], ◌%◌, ◌&&◌, ◌==◌, ◌||◌, ◌∷◌, ◌≡◌, Bool, List, None, Option, Some, false, if◌then◌else◌, nat_lt, not, true, ℕ}
use Rattle.wt_core.specs.Held.{Held, HoldsCalls, named_in, with_session, without_one}
use Rattle.wt_turn.specs.Streams.{local_uni}
use Rattle.wt_sessions.specs.Driver as drivers
use Rattle.wt_sessions.specs.Driver.{accepts_stream, first_session, gives_up, sessions_of}
use Rattle.wt_sessions.specs.Handshake.{Answered, Connecting, Over, Requested, Responding, handshake_state, requested_stream}
use Rattle.wt_sessions.specs.StreamTable.{Session, is_session}
use Rattle.wt_turn.specs.Log.{AcceptanceFailed, BytesRead, CallRecord, ConnectStarted, DatagramReceived, HandshakeOver, Polled, PrioritySet, RequestDelivered, RequestRejected, ResetUnsent, ResponseStarted, SessionEstablished, StreamGivenUp}
use Rattle.wt_wire.specs.declared.side.Side.{Side}

-- ---- words

none-after : (o : Option ℕ) → option_or o None ≡ o
none-after None = refl
none-after (Some x) = refl

pub same-if : (j k : ℕ) (P : ℕ → Type 0) → (k == j) ≡ true → P k → P j
same-if j k P e p = subst P (eqb-true k j e) p

pub false-or : (b : Bool) → (b ≡ true → ⊥) → b ≡ false
false-or true n = absurd (n refl)
false-or false n = refl

pub clash : (b : Bool) → b ≡ true → b ≡ false → ⊥
clash b e f = true≢false (sym e ∙ f)

-- ---- a quiet record

abbrev pub is_quiet : CallRecord → Bool
is_quiet Polled = true
is_quiet (BytesRead id count) = true
is_quiet (ResetUnsent id code) = true
is_quiet (PrioritySet id p) = true
is_quiet (DatagramReceived index) = true
is_quiet _ = false

pub same-named : (h : Held) (cs : List CallRecord) (r : CallRecord) → ((name : Option ℕ) → h.sessions name ≡ named_in cs name) → drivers.establishes r ≡ None → sessions_of (r ∷ cs) ≡ sessions_of cs
    → (name : Option ℕ) → h.sessions name ≡ named_in (r ∷ cs) name
same-named h cs r s e f None = s None ∙ sym (ap (option_or (first_session cs)) e ∙ none-after (first_session cs))
same-named h cs r s e f (Some t) = s (Some t) ∙ ap (λ (ss : List Session). if list_any (is_session t) ss then Some t else None) (sym f)

-- one session more
pub any-insert : (q : Session → Bool) (s : Session) (ss : List Session) → list_any q (drivers.with_session s ss) ≡ (q s || list_any q ss)
any-insert q s [] = refl
any-insert q s (y ∷ ys) = by (nat_lt s.id y.id) (any-insert q s ys)
  where
    swap : (a b c : Bool) → (a || (b || c)) ≡ (b || (a || c))
    swap true true c = refl
    swap true false c = refl
    swap false b c = refl

    by : (b : Bool) → list_any q (drivers.with_session s ys) ≡ (q s || list_any q ys) → list_any q (if b then s ∷ y ∷ ys else y ∷ drivers.with_session s ys) ≡ (q s || (q y || list_any q ys))
    by true e = refl
    by false e = ap (λ (c : Bool). q y || c) e ∙ swap (q y) (q s) (list_any q ys)

module _ (side : Side) (h : Held) (cs : List CallRecord) (x : HoldsCalls side h cs) where
  abbrev names : (r : CallRecord) → drivers.establishes r ≡ None → sessions_of (r ∷ cs) ≡ sessions_of cs → (name : Option ℕ) → h.sessions name ≡ named_in (r ∷ cs) name
  names r e f = same-named h cs r x.sessions e f

  pub quiet-step : (r : CallRecord) → is_quiet r ≡ true → HoldsCalls side h (r ∷ cs)
  quiet-step Polled q = record { sends = x.sends; recvs = x.recvs; openings = x.openings; sessions = names Polled refl refl; stage = x.stage; requested = x.requested; given = x.given; own = x.own; begun = x.begun }
  quiet-step (BytesRead id count) q = record { sends = x.sends; recvs = x.recvs; openings = x.openings; sessions = names (BytesRead id count) refl refl; stage = x.stage; requested = x.requested; given = x.given; own = x.own; begun = x.begun }
  quiet-step (ResetUnsent id code) q = record { sends = x.sends; recvs = x.recvs; openings = x.openings; sessions = names (ResetUnsent id code) refl refl; stage = x.stage; requested = x.requested; given = x.given; own = x.own; begun = x.begun }
  quiet-step (PrioritySet id p) q = record { sends = x.sends; recvs = x.recvs; openings = x.openings; sessions = names (PrioritySet id p) refl refl; stage = x.stage; requested = x.requested; given = x.given; own = x.own; begun = x.begun }
  quiet-step (DatagramReceived index) q = record { sends = x.sends; recvs = x.recvs; openings = x.openings; sessions = names (DatagramReceived index) refl refl; stage = x.stage; requested = x.requested; given = x.given; own = x.own; begun = x.begun }
  quiet-step _ q = absurd cc

  -- ---- the handshake

  -- a record that changes where the handshake is, and nothing else
  pub deliver-step : (k : ℕ) → HoldsCalls side (record h { stage = Requested k; requested = k }) (RequestDelivered k ∷ cs)
  deliver-step k = record { sends = x.sends; recvs = x.recvs; openings = x.openings; sessions = names (RequestDelivered k) refl refl; stage = refl; requested = refl; given = x.given; own = x.own; begun = x.begun }

  pub begin-step : (accepts : Bool) (head : List ℕ) → HoldsCalls side (record h { stage = Responding accepts head }) (ResponseStarted accepts head ∷ cs)
  begin-step accepts head = record { sends = x.sends; recvs = x.recvs; openings = x.openings; sessions = names (ResponseStarted accepts head) refl refl; stage = refl; requested = x.requested; given = x.given; own = x.own; begun = x.begun }

  pub connect-step : (reserved : Option (List ℕ)) (head : List ℕ) → HoldsCalls side (record h { stage = Connecting reserved head }) (ConnectStarted reserved head ∷ cs)
  connect-step reserved head = record { sends = x.sends; recvs = x.recvs; openings = x.openings; sessions = names (ConnectStarted reserved head) refl refl; stage = refl; requested = x.requested; given = x.given; own = x.own; begun = x.begun }

  pub over-step : HoldsCalls side (record h { stage = Over }) (HandshakeOver ∷ cs)
  over-step = record { sends = x.sends; recvs = x.recvs; openings = x.openings; sessions = names HandshakeOver refl refl; stage = refl; requested = x.requested; given = x.given; own = x.own; begun = x.begun }

  pub fail-step : HoldsCalls side (record h { stage = Answered }) (AcceptanceFailed ∷ cs)
  fail-step = record { sends = x.sends; recvs = x.recvs; openings = x.openings; sessions = names AcceptanceFailed refl refl; stage = refl; requested = x.requested; given = x.given; own = x.own; begun = x.begun }

  -- the rejection of the request at hand is over
  pub reject-step : (k : ℕ) → requested_stream cs ≡ k → HoldsCalls side (record h { stage = Answered }) (RequestRejected k ∷ cs)
  reject-step k e = record { sends = x.sends; recvs = x.recvs; openings = x.openings; sessions = names (RequestRejected k) refl refl; stage = by (k == requested_stream cs) (eq-eqb k (requested_stream cs) (sym e)); requested = x.requested; given = x.given; own = x.own; begun = x.begun }
    where
      by : (b : Bool) → b ≡ true → Answered ≡ elim (if b then Some Answered else None) [ Some s ↦ s | None ↦ handshake_state cs ]
      by true q = refl
      by false q = absurd cc

  -- the application ends a session: the handshake is where it was, since an established session's request is answered
  pub end-step : (k : ℕ) → (requested_stream cs ≡ k → handshake_state cs ≡ Answered) → HoldsCalls side h (RequestRejected k ∷ cs)
  end-step k answered = record { sends = x.sends; recvs = x.recvs; openings = x.openings; sessions = names (RequestRejected k) refl refl; stage = x.stage ∙ by (k == requested_stream cs) refl; requested = x.requested; given = x.given; own = x.own; begun = x.begun }
    where
      by : (b : Bool) → (k == requested_stream cs) ≡ b → handshake_state cs ≡ elim (if b then Some Answered else None) [ Some s ↦ s | None ↦ handshake_state cs ]
      by true q = answered (sym (eqb-true k (requested_stream cs) q))
      by false q = refl

  -- ---- a session is established

  pub establish-step : (s offset : ℕ) → HoldsCalls side (record h { stage = Answered; sessions = with_session s h.sessions }) (SessionEstablished s offset ∷ cs)
  establish-step s offset = record { sends = x.sends; recvs = x.recvs; openings = x.openings; sessions = more; stage = refl; requested = x.requested; given = x.given; own = x.own; begun = x.begun }
    where
      by : (a : Bool) (t : ℕ) → (if a then Some t else h.sessions (Some t)) ≡ (if a || list_any (is_session t) (sessions_of cs) then Some t else None)
      by true t = refl
      by false t = x.sessions (Some t)

      more : (name : Option ℕ) → with_session s h.sessions name ≡ named_in (SessionEstablished s offset ∷ cs) name
      more None = ap (λ (o : Option ℕ). option_or o (Some s)) (x.sessions None)
      more (Some t) = by (s == t) t ∙ ap (λ (b : Bool). if b then Some t else None) (sym (any-insert (is_session t) (record { id = s; offset = offset }) (sessions_of cs)))

  -- ---- a half is given up

  pub stop-step : (k : ℕ) → list_any (accepts_stream k) cs ≡ true → HoldsCalls side (record h { recvs = without_one k h.recvs }) (StreamGivenUp k ∷ cs)
  stop-step k had = record {
    sends = x.sends;
    recvs = λ j. ap (λ (b : Bool). b && not (k == j)) (x.recvs j) ∙ table (list_any (accepts_stream j) cs) (j % 4 == local_uni side) (list_any (gives_up j) cs) (k == j);
    openings = x.openings;
    sessions = names (StreamGivenUp k) refl refl;
    stage = x.stage;
    requested = x.requested;
    given = λ j e. given-by j (k == j) refl e;
    own = x.own;
    begun = x.begun;
  }
    where
      table : (a l g e : Bool) → ((a && not l && not g) && not e) ≡ (a && not l && not (e || g))
      table false l g e = refl
      table true true g e = refl
      table true false true true = refl
      table true false true false = refl
      table true false false true = refl
      table true false false false = refl

      given-by : (j : ℕ) (b : Bool) → (k == j) ≡ b → (b || list_any (gives_up j) cs) ≡ true → list_any (accepts_stream j) cs ≡ true
      given-by j true f e = same-if j k (λ i. list_any (accepts_stream i) cs ≡ true) f had
      given-by j false f e = x.given j e
