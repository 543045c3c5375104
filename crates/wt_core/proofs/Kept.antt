-- What is kept of what the application has is what it has by the log after a call, and after a turn of the transport.
use Rattle.std.proofs.Common.{◌∙◌, ap, inl, inr, refl, subst, sym}
use Rattle.std.proofs.lemmas.Bool.{eqb-true, true≢false}
use Rattle.std.specs.List.{list_any}
use Rattle.std.specs.Option.{option_or}
use Rattle.std.specs.Prelude.{◌%◌, ◌==◌, ◌||◌, ◌&&◌, ◌≡◌, ◌⊎◌, Bool, List, None, Option, Some, drop, false, if◌then◌else◌, length, not, true, ℕ}
use Rattle.wt_driver_laws.proofs.ReachStays.{opening_stays}
use Rattle.wt_driver_laws.specs.Driving.{IsReachable}
use Rattle.wt_driver_laws.specs.Having.{HasOpening, OpeningStream}
use Rattle.wt_core.proofs.Apart.{accepted-apart, begun-apart, polled-apart, stopped-apart}
use Rattle.wt_core.proofs.Reached.{told}
use Rattle.wt_core.proofs.Turns.{same_calls}
use Rattle.wt_core.specs.Held.{Held, accepting, asked, connect_by, connecting, handshake_by, held_after, rejecting, named_in, opening_in, with_one, without_one}
use Rattle.wt_core.specs.HeldNow.{FindsStreams, HoldsSessions, HoldsStreams, OpeningNow, SameSessions, SessionsNow, StreamsNow, half_if, held_by, session_of}
use Rattle.wt_core.specs.Rows.{HasPut, value_at}
use Rattle.wt_core.specs.Told.{SameHeld}
use Rattle.wt_meaning.specs.Targets.{Target}
use Rattle.wt_turn.specs.Sent.{sent_on}
use Rattle.wt_turn.specs.Streams.{local_uni, peer_uni}
use Rattle.wt_sessions.specs.Answers.{call_effect, is_lawful, log_after, may_call, named_session}
use Rattle.wt_sessions.specs.Connection.{opening_session, stream_header}
use Rattle.wt_sessions.specs.Driver.{accepts_stream, gives_up}
use Rattle.wt_sessions.specs.Handshake.{HandshakeState, Connecting, Responding}
use Rattle.wt_turn.specs.Log.{CallRecord, Log, actions_of, calls_of}
use Rattle.wt_turn.specs.Turns.{is_call}
use Rattle.wt_turn.specs.declared.call.Call.{Call}
use Rattle.wt_turn.specs.declared.call.Call.TheVariants as calls
use Rattle.wt_turn.specs.declared.connecting_error.ConnectingError.{ConnectingError}
use Rattle.wt_turn.specs.declared.reply.Reply.{Reply}
use Rattle.wt_turn.specs.declared.reply.Reply.TheVariants as replies
use Rattle.wt_turn.specs.declared.turn.Turn.{Turn}
use Rattle.wt_turn.specs.declared.turn.Turn.TheVariants as turns
use Rattle.wt_wire.specs.declared.side.Side.{Side}
use Rattle.std.specs.Prelude.{Err, Ok, Result}

-- ---- rows

module _ {T : Type 0} where
  -- a value that is taken and put back is where it was
  pub put-back : (rows mid new : List (List (Option T))) (id : ℕ) (v : T) → value_at rows id ≡ Some v → HasPut rows mid id None → HasPut mid new id (Some v) → (k : ℕ) → value_at new k ≡ value_at rows k
  put-back rows mid new id v e out in_ k = in_ k ∙ by (id == k) refl
    where
      by : (b : Bool) → (id == k) ≡ b → (if b then Some v else value_at mid k) ≡ value_at rows k
      by true f = sym e ∙ ap (value_at rows) (eqb-true id k f)
      by false f = out k ∙ ap (λ (b : Bool). if b then None else value_at rows k) f

  -- one that isn't there is not there after it was taken
  pub none-out : (rows mid : List (List (Option T))) (id : ℕ) → value_at rows id ≡ None → HasPut rows mid id None → (k : ℕ) → value_at mid k ≡ value_at rows k
  none-out rows mid id e out k = out k ∙ by (id == k) refl
    where
      by : (b : Bool) → (id == k) ≡ b → (if b then None else value_at rows k) ≡ value_at rows k
      by true f = sym e ∙ ap (value_at rows) (eqb-true id k f)
      by false f = refl

-- ---- halves

-- what a look-up of a half finds
pub half-there : (b : Bool) (k v : ℕ) → Some v ≡ half_if b k → (b ≡ true) × (v ≡ k)
half-there true k v e = (refl, let same : v ≡ k = cc in same)
half-there false k v e = absurd cc

pub half-none : (b : Bool) (k : ℕ) → None ≡ half_if b k → b ≡ false
half-none true k e = absurd cc
half-none false k e = refl

-- one half more
pub half-put : (rows new : List (List (Option ℕ))) (f : ℕ → Bool) (id : ℕ) → ((k : ℕ) → value_at rows k ≡ half_if (f k) k) → HasPut rows new id (Some id) → (k : ℕ) → value_at new k ≡ half_if (with_one id f k) k
half-put rows new f id x put k = put k ∙ by (id == k) (f k) refl (x k)
  where
    by : (b c : Bool) → (id == k) ≡ b → value_at rows k ≡ half_if c k → (if b then Some id else value_at rows k) ≡ half_if (c || b) k
    by true true g e = ap (λ (n : ℕ). Some n) (eqb-true id k g)
    by true false g e = ap (λ (n : ℕ). Some n) (eqb-true id k g)
    by false true g e = e
    by false false g e = e

-- one half less
pub half-out : (rows new : List (List (Option ℕ))) (f : ℕ → Bool) (id : ℕ) → ((k : ℕ) → value_at rows k ≡ half_if (f k) k) → HasPut rows new id None → (k : ℕ) → value_at new k ≡ half_if (without_one id f k) k
half-out rows new f id x put k = put k ∙ by (id == k) (f k) refl (x k)
  where
    by : (b c : Bool) → (id == k) ≡ b → value_at rows k ≡ half_if c k → (if b then None else value_at rows k) ≡ half_if (c && not b) k
    by true true g e = refl
    by true false g e = refl
    by false true g e = e
    by false false g e = e

-- ---- which calls leave the sessions

pub first-by-connect : (reserved : Option (List ℕ)) (head : List ℕ) (r : Reply) (h : Held) (x : ℕ) → h.sessions None ≡ Some x → (connecting reserved head r h).sessions None ≡ Some x
first-by-connect reserved head (replies.Session s) h x e = ap (λ (o : Option ℕ). option_or o (Some s)) e
first-by-connect reserved head (replies.ConnectFailed c) h x e = e
first-by-connect reserved head _ h x e = e

first-by-accept : (head : List ℕ) (r : Reply) (h : Held) (x : ℕ) → h.sessions None ≡ Some x → (accepting head r h).sessions None ≡ Some x
first-by-accept head (replies.Session s) h x e = ap (λ (o : Option ℕ). option_or o (Some s)) e
first-by-accept head (replies.Failed c) h x e = e
first-by-accept head _ h x e = e

first-by-reject : (head : List ℕ) (r : Reply) (h : Held) (x : ℕ) → h.sessions None ≡ Some x → (rejecting head r h).sessions None ≡ Some x
first-by-reject head replies.Rejected h x e = e
first-by-reject head _ h x e = e

first-by-target : (t : Result Target ConnectingError) (r : Reply) (h : Held) (x : ℕ) → h.sessions None ≡ Some x → (connect_by t r h).sessions None ≡ Some x
first-by-target (Ok t) r h x e = first-by-connect t.reserved t.frame r h x e
first-by-target (Err c) r h x e = e

first-by-shake : (s : HandshakeState) (r : Reply) (h : Held) (x : ℕ) → h.sessions None ≡ Some x → (handshake_by s r h).sessions None ≡ Some x
first-by-shake (Responding true head) r h x e = first-by-accept head r h x e
first-by-shake (Responding false head) r h x e = first-by-reject head r h x e
first-by-shake (Connecting reserved head) r h x e = first-by-connect reserved head r h x e
first-by-shake _ r h x e = e

asked-sessions : (r : Reply) (h : Held) → (asked r h).sessions ≡ h.sessions
asked-sessions (replies.Request id fields) h = refl
asked-sessions (replies.Failed e) h = refl
asked-sessions _ h = refl

pub first-stays : (call : Call) (r : Reply) (h : Held) (x : ℕ) → h.sessions None ≡ Some x → (held_after call r h).sessions None ≡ Some x
first-stays (calls.Connect options lookup outcome) r h x e = first-by-target _ r h x e
first-stays calls.Incoming r h x e = ap (λ (f : Option ℕ → Option ℕ). f None) (asked-sessions r h) ∙ e
first-stays (calls.Accept headers) r h x e = first-by-accept _ r h x e
first-stays calls.Forbidden r h x e = first-by-reject _ r h x e
first-stays calls.NotFound r h x e = first-by-reject _ r h x e
first-stays calls.TooManyRequests r h x e = first-by-reject _ r h x e
first-stays calls.Handshake r h x e = first-by-shake h.stage r h x e
first-stays (calls.AcceptUni name) r h x e = ap (λ (f : Option ℕ → Option ℕ). f None) (accepted-apart r h).sessions ∙ e
first-stays (calls.AcceptBi name) r h x e = ap (λ (f : Option ℕ → Option ℕ). f None) (accepted-apart r h).sessions ∙ e
first-stays (calls.OpenUni name) r h x e = ap (λ (f : Option ℕ → Option ℕ). f None) (begun-apart name r h).sessions ∙ e
first-stays (calls.OpenBi name) r h x e = ap (λ (f : Option ℕ → Option ℕ). f None) (begun-apart name r h).sessions ∙ e
first-stays (calls.PollOpening id) r h x e = ap (λ (f : Option ℕ → Option ℕ). f None) (polled-apart id r h).sessions ∙ e
first-stays (calls.StopRecv id code) r h x e = ap (λ (f : Option ℕ → Option ℕ). f None) (stopped-apart id r h).sessions ∙ e
first-stays _ r h x e = e

-- ---- streams after a call

abbrev call-of : Turn → Call
call-of (turns.Call call) = call
call-of _ = calls.Closed

-- an opening goes on where what of its header is out stays
opening-by : (side : Side) (log later : Log) (b : Bool) (o : OpeningStream) → HasOpening b o side log → opening_session later o.id ≡ Some o.session
    → ((x : ℕ) → named_session log None ≡ Some x → named_session later None ≡ Some x) → sent_on (actions_of later) o.id ≡ sent_on (actions_of log) o.id → HasOpening b o side later
opening-by side log later b o x opens first same = record {
  opens = opens;
  kind = x.kind;
  session = λ n. by (named_session log None) refl n;
  left = ap (λ (xs : List ℕ). drop (length xs) (stream_header o.id o.session)) same ∙ x.left;
}
  where
    by : (f : Option ℕ) → named_session log None ≡ f → named_session later None ≡ None → ⊥
    by None e n = x.session e
    by (Some y) e n = let q = sym (first y e) ∙ n in cc

module _ (side : Side) (log : Log) (r : IsReachable side log) (call : Call) (may : may_call side log call ≡ true) where
  abbrev later : Log
  later = (call_effect side log call).log

  abbrev h : Held
  h = held_by side log

  after : SameHeld (held_by side later) (held_after call (call_effect side log call).reply h)
  after = told side log r call

  first-goes-on : (x : ℕ) → named_session log None ≡ Some x → named_session later None ≡ Some x
  first-goes-on x e = after.sessions None ∙ first-stays call (call_effect side log call).reply h x e

  -- the streams that are kept after the call: each opening was kept before and this call doesn't poll it, or it is the application's
  pub streams-after : (old new : StreamsNow) → HoldsStreams side old log → (answer : Reply) → answer ≡ (call_effect side log call).reply → FindsStreams new (held_after call answer h)
      → ((k : ℕ) (o : OpeningNow) → value_at new.openings k ≡ Some o
      → ((value_at old.openings k ≡ Some o) × (call ≡ calls.PollOpening k → ⊥)) ⊎ ((o.opening.id ≡ k) × HasOpening o.bidirectional o.opening side later))
      → HoldsStreams side new later
  streams-after old new x answer e f opens = record {
    finds = record {
      sends = λ k. f.sends k ∙ ap (λ (b : Bool). half_if b k) (alike (λ (g : Held). g.sends k) ∙ sym (after.sends k));
      recvs = λ k. f.recvs k ∙ ap (λ (b : Bool). half_if b k) (alike (λ (g : Held). g.recvs k) ∙ sym (after.recvs k));
      openings = opening-is;
    };
    opens = λ k o is. by k o is (opens k o is);
  }
    where
      alike : {T : Type 0} (g : Held → T) → g (held_after call answer h) ≡ g (held_after call (call_effect side log call).reply h)
      alike g = ap (λ (a : Reply). g (held_after call a h)) e

      opening-is : (k : ℕ) → session_of (value_at new.openings k) ≡ opening_session later k
      opening-is k = f.openings k ∙ alike (λ (g : Held). g.openings k) ∙ sym (after.openings k)

      by : (k : ℕ) (o : OpeningNow) → value_at new.openings k ≡ Some o
          → ((value_at old.openings k ≡ Some o) × (call ≡ calls.PollOpening k → ⊥)) ⊎ ((o.opening.id ≡ k) × HasOpening o.bidirectional o.opening side later)
          → (o.opening.id ≡ k) × HasOpening o.bidirectional o.opening side later
      by k o is (inr p) = p
      by k o is (inl (before, other)) =
          let (id, has) = x.opens k o before in
          let opens : opening_session later o.opening.id ≡ Some o.opening.session = ap (opening_session later) id ∙ sym (opening-is k) ∙ ap session_of is in (
            id,
            opening-by side log later o.bidirectional o.opening has opens first-goes-on
                (opening_stays side log r (turns.Call call) may o.opening.id o.opening.session has.opens (λ t. other (ap call-of t ∙ ap (λ (j : ℕ). calls.PollOpening j) id))),
          )

  -- a call that leaves them: each look-up finds what it found
  pub streams-stay : (old new : StreamsNow) → HoldsStreams side old log → (answer : Reply) → answer ≡ (call_effect side log call).reply → ((a : Reply) → held_after call a h ≡ h)
      → ((k : ℕ) → call ≡ calls.PollOpening k → ⊥) → ((k : ℕ) → value_at new.sends k ≡ value_at old.sends k) → ((k : ℕ) → value_at new.recvs k ≡ value_at old.recvs k)
      → ((k : ℕ) → value_at new.openings k ≡ value_at old.openings k) → HoldsStreams side new later
  streams-stay old new x answer e quiet other s v o =
      streams-after old new x answer e
      (subst (FindsStreams new) (sym (quiet answer)) (record { sends = λ k. s k ∙ x.finds.sends k; recvs = λ k. v k ∙ x.finds.recvs k; openings = λ k. ap session_of (o k) ∙ x.finds.openings k }))
      (λ k p is. inl (sym (o k) ∙ is, other k))

  -- and so it does the sessions
  pub sessions-stay : (old new : SessionsNow) → HoldsSessions side old log → ((a : Reply) (g : Held) → (held_after call a g).sessions ≡ g.sessions) → SameSessions old new → HoldsSessions side new later
  sessions-stay old new x quiet same =
      let stays : (name : Option ℕ) → named_session log name ≡ named_session later name
      = λ name. sym (after.sessions name ∙ ap (λ (f : Option ℕ → Option ℕ). f name) (quiet (call_effect side log call).reply h)) in
      record { rows = λ s. same.rows s ∙ x.rows s ∙ stays (Some s); first = same.first ∙ x.first ∙ stays None }

-- ---- after a turn of the transport

module _ (side : Side) (log : Log) (r : IsReachable side log) (turn : Turn) (event : is_call turn ≡ false) (lawful : is_lawful side log turn ≡ true) where
  abbrev onwards : Log
  onwards = log_after side log turn

  same : {T : Type 0} (f : List CallRecord → T) → f (calls_of onwards) ≡ f (calls_of log)
  same f = ap f (same_calls side log turn event)

  abbrev sending-of : ℕ → List CallRecord → Bool
  sending-of k cs = list_any (accepts_stream k) cs && not (k % 4 == peer_uni side)

  abbrev receiving-of : ℕ → List CallRecord → Bool
  receiving-of k cs = list_any (accepts_stream k) cs && not (k % 4 == local_uni side) && not (list_any (gives_up k) cs)

  pub streams-go-on : (now : StreamsNow) → HoldsStreams side now log → HoldsStreams side now onwards
  streams-go-on now x = record {
    finds = record {
      sends = λ k. x.finds.sends k ∙ ap (λ (b : Bool). half_if b k) (sym (same (sending-of k)));
      recvs = λ k. x.finds.recvs k ∙ ap (λ (b : Bool). half_if b k) (sym (same (receiving-of k)));
      openings = λ k. x.finds.openings k ∙ sym (same (λ (cs : List CallRecord). opening_in cs k));
    };
    opens = λ k o is. let (id, has) = x.opens k o is in (
      id,
      opening-by side log onwards o.bidirectional o.opening has (same (λ (cs : List CallRecord). opening_in cs o.opening.id) ∙ has.opens) (λ y e. same (λ (cs : List CallRecord). named_in cs None) ∙ e)
          (opening_stays side log r turn lawful o.opening.id o.opening.session has.opens (λ t. true≢false (ap is_call (sym t) ∙ event))),
    );
  }

  pub sessions-go-on : (now : SessionsNow) → HoldsSessions side now log → HoldsSessions side now onwards
  sessions-go-on now x = record { rows = λ s. x.rows s ∙ sym (same (λ (cs : List CallRecord). named_in cs (Some s))); first = x.first ∙ sym (same (λ (cs : List CallRecord). named_in cs None)) }
