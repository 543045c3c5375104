-- A connect goes on: its request's stream is opened, and its request goes out.
use Rattle.std.proofs.Common.{◌∙◌, ap, arith, refl, subst, sym, zero-add}
use Rattle.std.proofs.lemmas.Bool.{lt-ltb, true≢false}
use Rattle.std.specs.Prelude.{[], ◌&&◌, ◌+◌, ◌*◌, ◌==◌, ◌∷◌, ◌≡◌, ◌≢◌, Bool, List, None, Option, Result, Some, drop, false, if◌then◌else◌, length, nat_lt, not, suc, true, zero, ℕ}
use Rattle.wt_driver_laws.specs.Calling.{Did}
use Rattle.wt_driver_laws.specs.Driving.{Follows, IsReachable, IsWithin}
use Rattle.wt_driver_laws.specs.Handing.{HasEnded, IsDialling, MayWrite, OpensRequest, WaitsToOpen}
use Rattle.wt_driver_laws.specs.LogLaws.{ConnectLaws}
use Rattle.wt_kept.specs.Kept.{DriverNow}
use Rattle.wt_meaning.specs.Handshakes.{is_nothing}
use Rattle.wt_meaning.specs.Lawful.{is_client}
use Rattle.wt_session.proofs.AtRest.{at-rest}
use Rattle.wt_session.proofs.Connects.{abandoned-closed, send-moved}
use Rattle.wt_driver_laws.proofs.LogLaw.{reached_log_laws}
use Rattle.wt_driver_laws.proofs.ReachEarly.{unconnected}
use Rattle.wt_session.proofs.Sessions.{Rests, within}
use Rattle.wt_driver.specs.Opening.{OpensFor}
use Rattle.wt_driver.specs.declared.driver.OpenSession.{OpenSession}
use Rattle.wt_seam.specs.Typed.{StreamPair, Typed}
use Rattle.wt_seam.specs.declared.stream.Session.{Session}
use Rattle.wt_session.specs.Connects.{AsksAs, ConnectsOn, IsAsking, OpenedGoesOn, StillAsks, connect_effect, new_asked}
use Rattle.wt_session.specs.Handshakes.{Asked, Asking, Connect, Dialled, HasConnect, IsConnecting, Reserved}
use Rattle.wt_session.specs.Replies.{connecting_reply}
use Rattle.wt_turn.specs.Outgoing.{actions_to_open, may_open, next_id}
use Rattle.wt_turn.specs.Reports.{is_connected}
use Rattle.wt_turn.specs.Streams.{can_send, local_bi, local_count, peer_count, stream_count}
use Rattle.wt_sessions.specs.Answers.{call_effect}
use Rattle.wt_sessions.specs.Driver.{settings_came, stream_table}
use Rattle.wt_sessions.specs.Effect.{Effect, driver_error, error_of_fault, head_left, poll_only, transport_error}
use Rattle.wt_sessions.specs.Handshake.{Connecting, HandshakeState, abandon, await_or_fail, continue_by, continue_connect, fail_connect, handshake_state, loss_to_connect, open_request, send_request, unless_reserved}
use Rattle.wt_turn.specs.Log.{Called, Event, Log, PeerBi, PeerUni, Polled, Sent, actions_of, all_events_of, calls_of, events_of, is_open, with_actions}
use Rattle.wt_turn.specs.declared.action.Action.TheVariants as actions
use Rattle.wt_turn.specs.declared.call.Call.TheVariants as calls
use Rattle.wt_turn.specs.declared.connecting_error.ConnectingError.{ConnectingError}
use Rattle.wt_turn.specs.declared.connecting_error.ConnectingError.TheVariants as connects
use Rattle.wt_turn.specs.declared.connection_error.ConnectionError.{ConnectionError}
use Rattle.wt_turn.specs.declared.driver_error.DriverError.{DriverError}
use Rattle.wt_turn.specs.declared.poll.Poll.{Poll}
use Rattle.wt_turn.specs.declared.poll.Poll.TheVariants.{Pending, Ready}
use Rattle.wt_turn.specs.declared.reply.Reply.{Reply}
use Rattle.wt_turn.specs.declared.reply.Reply.TheVariants as replies
use Rattle.wt_wire.specs.HeaderList.{Fields}
use Rattle.wt_wire.specs.declared.side.Side.{Side}
use Rattle.wt_wire.specs.declared.side.Side.TheVariants.{Client, Server}

-- ---- the client's first bidirectional stream

-- the peer opens none of this end's kinds
none-of-peer : (es : List Event) → peer_count Client es 0 ≡ 0
none-of-peer [] = refl
none-of-peer (e ∷ es) = by e (none-of-peer es)
  where
    by : (e : Event) → peer_count Client es 0 ≡ 0 → peer_count Client (e ∷ es) 0 ≡ 0
    by PeerUni again = again
    by PeerBi again = again
    by _ again = again

count-is : (log : Log) → stream_count Client log 0 ≡ local_count (actions_of log) 0
count-is log = ap (λ (n : ℕ). n + local_count (actions_of log) 0) (none-of-peer (all_events_of log)) ∙ zero-add (local_count (actions_of log) 0)

pub first-id : (side : Side) (log : Log) → is_client side ≡ true → local_count (actions_of log) (local_bi side) ≡ 0 → next_id side log (local_bi side) ≡ local_bi side
first-id Client log c e = ap (λ (n : ℕ). 4 * n + 0) (count-is log ∙ e)
first-id Server log c e = absurd cc

-- where it is open, and the connect goes on, it may be written on
pub connect-writes : (side : Side) (log : Log) → is_client side ≡ true → ConnectLaws side log → (local_count (actions_of log) (local_bi side) == 0) ≡ false → MayWrite side log (local_bi side)
connect-writes Client log c laws e = record { can = there (local_count (actions_of log) 0) e (count-is log); finished = λ o. laws.finished; reset = λ o. laws.reset }
  where
    some : (n : ℕ) → (n == 0) ≡ false → nat_lt 0 n ≡ true
    some zero h = absurd cc
    some (suc n) h = lt-ltb 0 (suc n) (omega arith)

    there : (n : ℕ) → (n == 0) ≡ false → stream_count Client log 0 ≡ n → can_send Client log 0 ≡ true
    there n h is = ap (λ (m : ℕ). nat_lt 0 m && true) is ∙ ap (λ (b : Bool). b && true) (some n h)
connect-writes Server log c laws e = absurd cc

-- ---- what the connect leads to

-- before the connection was established the driver reports its end as the transport does
end-alike : (side : Side) (log : Log) → (stream_table side log).progress.fault ≡ None → driver_error side log ≡ transport_error log
end-alike side log e = ap (error_of_fault log) e

module _ (side : Side) (log : Log) (r : IsReachable side log) where
  abbrev connect-by : Bool → Bool → Option (List ℕ) → List ℕ → Effect
  connect-by c s reserved head = if not c then await_or_fail side log (transport_error log) else (if s then unless_reserved side log reserved head else await_or_fail side log (driver_error side log))

  -- SETTINGS decide
  connect-is : (reserved : Option (List ℕ)) (head : List ℕ) → (s : Bool) → settings_came side log ≡ s
      → continue_connect side log reserved head ≡ (if s then unless_reserved side log reserved head else await_or_fail side log (driver_error side log))
  connect-is reserved head s e = by (is_connected (events_of log)) (settings_came side log) s refl e (λ n. unconnected side log r n)
    where
      by : (c t s : Bool) → is_connected (events_of log) ≡ c → t ≡ s → (is_connected (events_of log) ≡ false → ((stream_table side log).progress.fault ≡ None) × (t ≡ false))
          → connect-by c t reserved head ≡ (if s then unless_reserved side log reserved head else await_or_fail side log (driver_error side log))
      by true true true ec et n = refl
      by true false false ec et n = refl
      by true true false ec et n = absurd cc
      by true false true ec et n = absurd cc
      by false true s ec et n = absurd (true≢false (n ec).1)
      by false false true ec et n = absurd cc
      by false false false ec et n = ap (await_or_fail side log) (sym (end-alike side log (n ec).0))

  polls-by : (c : Connect) → HasConnect c side log → (reserved : Option (List ℕ)) (head : List ℕ) → handshake_state (calls_of log) ≡ Connecting reserved head
      → call_effect side log calls.Handshake ≡ continue_connect side log reserved head
  unfolding call_effect
  polls-by c x reserved head e = ap (λ (s : HandshakeState). continue_by s side log) e

  -- before the peer's SETTINGS came
  pub polls-early : (c : Connect) → HasConnect c side log → settings_came side log ≡ false → call_effect side log calls.Handshake ≡ await_or_fail side log (driver_error side log)
  polls-early (Reserved name) x e = polls-by (Reserved name) x (Some name) x.1.0 x.1.1 ∙ connect-is (Some name) x.1.0 false e
  polls-early (Dialled head) x e = polls-by (Dialled head) x None head x.1.0 ∙ connect-is None head false e
  polls-early (Asking id head left s) x e = polls-by (Asking id head left s) x None head x.1.1 ∙ connect-is None head false e

  -- once they came
  pub polls-late : (c : Connect) → HasConnect c side log → settings_came side log ≡ true → call_effect side log calls.Handshake ≡ connect_effect side log c
  polls-late (Reserved name) x e = polls-by (Reserved name) x (Some name) x.1.0 x.1.1 ∙ connect-is (Some name) x.1.0 true e
  polls-late (Dialled head) x e = polls-by (Dialled head) x None head x.1.0 ∙ connect-is None head true e
  polls-late (Asking id head left s) x e = polls-by (Asking id head left s) x None head x.1.1 ∙ connect-is None head true e

-- ---- one more poll

-- a poll that sends nothing leaves the connect as it is
pub still-by : (c : Connect) (side : Side) (log : Log) → IsConnecting c side log → IsConnecting c side (Called Polled ∷ log)
still-by (Reserved name) side log x = x
still-by (Dialled head) side log x = x
still-by (Asking id head left s) side log x = x

module _ (side : Side) (log : Log) (collected : ℕ) (d : DriverNow) (f : Follows side d log collected) (r : IsReachable side log) where
  pub waits-on : (c : Connect) → IsConnecting c side log → (e : ConnectionError) (answer : Poll (Result ℕ ConnectingError)) → connecting_reply answer ≡ (await_or_fail side log e).reply
      → ConnectsOn c answer side (await_or_fail side log e).log
  waits-on c x e (Ready a) is = tt
  waits-on c x e Pending is = by (is_open log) is
    where
      by : (b : Bool) → replies.Pending ≡ (if b then poll_only side log replies.Pending else fail_connect side log [] (connects.ConnectionError e)).reply
          → IsConnecting c side (if b then poll_only side log replies.Pending else fail_connect side log [] (connects.ConnectionError e)).log
      by true h = subst (IsConnecting c side) (sym (at-rest side log collected d Polled refl f (within side log r))) (still-by c side log x)
      by false h = absurd cc

-- ---- the request on its stream

abbrev pub asking-of : Asked → Connect
asking-of a = Asking a.id a.head a.left a.is_sent

module _ (side : Side) (log : Log) (r : IsReachable side log) (a : Asked) (x : HasConnect (asking-of a) side log) where
  laws : ConnectLaws side log
  laws = (reached_log_laws side log r).dialling None a.head x.1.1

  pub asking-is : IsAsking a side log
  asking-is = record {
    client = x.0;
    id = x.1.0;
    state = x.1.1;
    unestablished = laws.unestablished;
    may = subst (MayWrite side log) (sym x.1.0) (connect-writes side log x.0 laws x.1.2);
    going = record { left = x.1.3; out = x.1.4 };
  }

  pub asking-effect : connect_effect side log (asking-of a) ≡ send_request side log a.id [] (head_left log a.id a.head)
  asking-effect = by (local_count (actions_of log) (local_bi side) == 0) x.1.2 ∙ ap (λ (k : ℕ). send_request side log k [] (head_left log k a.head)) (sym x.1.0)
    where
      by : (b : Bool) → b ≡ false
          → (if not b then send_request side log (local_bi side) [] (head_left log (local_bi side) a.head) else
          (if not (is_open log) then fail_connect side log [] (loss_to_connect log) else
          (if may_open side log (local_bi side) then send_request side log (local_bi side) (actions_to_open side log (local_bi side)) (head_left log (local_bi side) a.head)
          else poll_only side log replies.Pending)))
          ≡ send_request side log (local_bi side) [] (head_left log (local_bi side) a.head)
      by false e = refl
      by true e = absurd cc

  pub asking-goes-on : (later : Asked) → later.id ≡ a.id → later.head ≡ a.head → (answer : Poll (Result ℕ ConnectingError)) → StillAsks a later answer side log
      → ConnectsOn (asking-of later) answer side (connect_effect side log (asking-of a)).log
  asking-goes-on later id head (Ready q) s = tt
  asking-goes-on later id head Pending (out, polled) = subst (λ (e : Effect). IsConnecting (asking-of later) side e.log) (sym asking-effect) (
    id ∙ x.1.0,
    ap handshake_state polled.calls ∙ x.1.1 ∙ ap (Connecting None) (sym head),
    ap (λ (n : ℕ). n == 0) polled.opened ∙ x.1.2,
    out.left,
    out.out,
  )

-- ---- the request's stream is opened

-- this end's first bidirectional stream, once it is open
module _ (log : Log) (head : List ℕ) (x : HasConnect (Dialled head) Client log) (laws : ConnectLaws Client log) (some : is_nothing head ≡ false) where
  abbrev first-log : Log
  first-log = Sent (actions.Opened 0) ∷ log

  first-there : can_send Client first-log 0 ≡ true
  first-there = ap (λ (n : ℕ). nat_lt 0 n && true) (ap (λ (n : ℕ). n + (local_count (actions_of log) 0 + 1)) (none-of-peer (all_events_of log)) ∙ ap (λ (n : ℕ). 0 + (n + 1)) x.1.1)

  first-asks : IsAsking (new_asked 0 head) Client first-log
  first-asks = record {
    client = refl;
    id = refl;
    state = x.1.0;
    unestablished = laws.unestablished;
    may = record { can = first-there; finished = λ o. laws.finished; reset = λ o. laws.reset };
    going = record { left = λ h. (ap (λ (xs : List ℕ). drop (length xs) head) (laws.unsent x.1.1), some); out = λ h. absurd (true≢false (sym h)) };
  }

  abbrev open-by : Bool → Bool → Bool → Effect
  open-by z o m =
      if not z then send_request Client log 0 [] (head_left log 0 head) else
      (if not o then fail_connect Client log [] (loss_to_connect log) else
      (if m then send_request Client log 0 (if m then actions.Opened (next_id Client log 0) ∷ [] else []) (head_left log 0 head) else poll_only Client log replies.Pending))

  first-effect : is_open log ≡ true → may_open Client log 0 ≡ true → open_request Client log head ≡ send_request Client first-log 0 [] (head_left first-log 0 head)
  first-effect o m =
      by (local_count (actions_of log) 0 == 0) (is_open log) (may_open Client log 0) (ap (λ (n : ℕ). n == 0) x.1.1) o m
      ∙ ap (λ (n : ℕ). send_request Client log 0 (actions.Opened n ∷ []) (head_left log 0 head)) (first-id Client log refl x.1.1)
      ∙ send-moved Client log 0 0 (head_left log 0 head)
    where
      by : (z o m : Bool) → z ≡ true → o ≡ true → m ≡ true → open-by z o m ≡ send_request Client log 0 (actions.Opened (next_id Client log 0) ∷ []) (head_left log 0 head)
      by true true true ez eo em = refl
      by false o m ez eo em = absurd cc
      by true false m ez eo em = absurd cc
      by true true false ez eo em = absurd cc

-- the effect where none may be opened yet, and where the connection isn't open
module _ (side : Side) (log : Log) (head : List ℕ) (x : HasConnect (Dialled head) side log) where
  abbrev unopened-by : Bool → Bool → Bool → Effect
  unopened-by z o m =
      if not z then send_request side log (local_bi side) [] (head_left log (local_bi side) head) else
      (if not o then fail_connect side log [] (loss_to_connect log) else
      (if m then send_request side log (local_bi side) (actions_to_open side log (local_bi side)) (head_left log (local_bi side) head) else poll_only side log replies.Pending))

  pub waits-to-open : is_open log ≡ true → may_open side log (local_bi side) ≡ false → open_request side log head ≡ poll_only side log replies.Pending
  waits-to-open o m = by (local_count (actions_of log) (local_bi side) == 0) (is_open log) (may_open side log (local_bi side)) (ap (λ (n : ℕ). n == 0) x.1.1) o m
    where
      by : (z o m : Bool) → z ≡ true → o ≡ true → m ≡ false → unopened-by z o m ≡ poll_only side log replies.Pending
      by true true false ez eo em = refl
      by false o m ez eo em = absurd cc
      by true false m ez eo em = absurd cc
      by true true true ez eo em = absurd cc

  pub has-ended : is_open log ≡ false → open_request side log head ≡ fail_connect side log [] (loss_to_connect log)
  has-ended o = by (local_count (actions_of log) (local_bi side) == 0) (is_open log) (ap (λ (n : ℕ). n == 0) x.1.1) o
    where
      by : (z o : Bool) → z ≡ true → o ≡ false → unopened-by z o (may_open side log (local_bi side)) ≡ fail_connect side log [] (loss_to_connect log)
      by true false ez eo = refl
      by false o ez eo = absurd cc
      by true true ez eo = absurd cc

module _ (side : Side) (log : Log) (collected : ℕ) (r : IsReachable side log) (head : List ℕ) (x : HasConnect (Dialled head) side log) (some : is_nothing head ≡ false) where
  abbrev opened-log : Log
  opened-log = with_actions (actions_to_open side log (local_bi side)) log

  module _ (opens : is_open log ≡ true) (may : may_open side log (local_bi side) ≡ true) (id : ℕ) (is : id ≡ next_id side log (local_bi side)) where
    -- on a client the stream is 0
    asks-by : (side : Side) (x : HasConnect (Dialled head) side log) → ConnectLaws side log → may_open side log (local_bi side) ≡ true → id ≡ next_id side log (local_bi side)
        → IsAsking (new_asked id head) side (with_actions (actions_to_open side log (local_bi side)) log)
    asks-by Client y laws m e =
        let zero-id = first-id Client log refl y.1.1 in
        subst (λ (l : Log). IsAsking (new_asked id head) Client l)
        (sym (ap (λ (b : Bool). with_actions (if b then actions.Opened (next_id Client log 0) ∷ [] else []) log) m ∙ ap (λ (n : ℕ). Sent (actions.Opened n) ∷ log) zero-id))
        (subst (λ (k : ℕ). IsAsking (new_asked k head) Client (Sent (actions.Opened 0) ∷ log)) (sym (e ∙ zero-id)) (first-asks log head y laws some))
    asks-by Server y laws m e = absurd (let f = y.0 in cc)

    effect-by : (side : Side) (x : HasConnect (Dialled head) side log) → ConnectLaws side log → may_open side log (local_bi side) ≡ true → id ≡ next_id side log (local_bi side)
        → open_request side log head
        ≡ send_request side (with_actions (actions_to_open side log (local_bi side)) log) id [] (head_left (with_actions (actions_to_open side log (local_bi side)) log) id head)
    effect-by Client y laws m e =
        let zero-id = first-id Client log refl y.1.1 in
        first-effect log head y laws some opens m
        ∙ ap (λ (k : ℕ). send_request Client (Sent (actions.Opened 0) ∷ log) k [] (head_left (Sent (actions.Opened 0) ∷ log) k head)) (sym (e ∙ zero-id))
        ∙ ap (λ (l : Log). send_request Client l id [] (head_left l id head))
        (sym (ap (λ (b : Bool). with_actions (if b then actions.Opened (next_id Client log 0) ∷ [] else []) log) m ∙ ap (λ (n : ℕ). Sent (actions.Opened n) ∷ log) zero-id))
    effect-by Server y laws m e = absurd (let f = y.0 in cc)

    pub opened-asks : IsAsking (new_asked id head) side opened-log
    opened-asks = asks-by side x ((reached_log_laws side log r).dialling None head x.1.0) may is

    pub opened-effect : open_request side log head ≡ send_request side opened-log id [] (head_left opened-log id head)
    opened-effect = effect-by side x ((reached_log_laws side log r).dialling None head x.1.0) may is

    -- the connect then is this request on its stream
    pub opened-goes-on : (later : Asked) → later.id ≡ id → later.head ≡ head → (answer : Poll (Result ℕ ConnectingError)) → StillAsks (new_asked id head) later answer side opened-log
        → ConnectsOn (asking-of later) answer side (open_request side log head).log
    opened-goes-on later i h (Ready q) s = tt
    opened-goes-on later i h Pending (out, polled) =
        let a = opened-asks in
        subst (λ (e : Effect). IsConnecting (asking-of later) side e.log) (sym opened-effect) (
          i ∙ a.id,
          ap handshake_state polled.calls ∙ a.state ∙ ap (Connecting None) (sym h),
          ap (λ (n : ℕ). n == 0) polled.opened ∙ counts side x may,
          out.left,
          out.out,
        )
      where
        counts : (side : Side) → HasConnect (Dialled head) side log → may_open side log (local_bi side) ≡ true
            → (local_count (actions_of (with_actions (actions_to_open side log (local_bi side)) log)) (local_bi side) == 0) ≡ false
        counts Client y m =
            let zero-id = first-id Client log refl y.1.1 in
            ap (λ (l : Log). local_count (actions_of l) 0 == 0)
            (ap (λ (b : Bool). with_actions (if b then actions.Opened (next_id Client log 0) ∷ [] else []) log) m ∙ ap (λ (n : ℕ). Sent (actions.Opened n) ∷ log) zero-id)
            ∙ ap (λ (n : ℕ). n + 1 == 0) y.1.1
        counts Server y m = absurd (let f = y.0 in cc)

-- ---- by what the calls answered

module _ (side : Side) (log : Log) (collected : ℕ) (d : DriverNow) where
  pub go-asking-does : IsReachable side log → (s : Connect) (a : Asked) → s ≡ asking-of a → (answer : Reply) → HasConnect s side log
      → (IsAsking a side log → Did side d collected answer (send_request side log a.id [] (head_left log a.id a.head))) → Did side d collected answer (connect_effect side log s)
  go-asking-does r s a eq answer has did =
      let x = subst (λ (t : Connect). HasConnect t side log) eq has in
      subst (λ (t : Connect). Did side d collected answer (connect_effect side log t)) (sym eq)
      (subst (λ (e : Effect). Did side d collected answer e) (sym (asking-effect side log r a x)) (did (asking-is side log r a x)))

pub go-asking-on : (side : Side) (log : Log) → IsReachable side log → (s : Connect) (a : Asked) → s ≡ asking-of a → HasConnect s side log → (later : Asked) → later.id ≡ a.id → later.head ≡ a.head
    → (answer : Poll (Result ℕ ConnectingError)) → (IsAsking a side log → StillAsks a later answer side log) → ConnectsOn (asking-of later) answer side (connect_effect side log s).log
go-asking-on side log r s a eq has later id head answer still =
    let x = subst (λ (t : Connect). HasConnect t side log) eq has in
    subst (λ (t : Connect). ConnectsOn (asking-of later) answer side (connect_effect side log t).log) (sym eq)
    (asking-goes-on side log r a x later id head answer (still (asking-is side log r a x)))

module _ (side : Side) (log : Log) (collected : ℕ) (r : IsReachable side log) (head : List ℕ) (x : HasConnect (Dialled head) side log) where
  abbrev then-log : Log
  then-log = with_actions (actions_to_open side log (local_bi side)) log

  pub opened-ready : is_nothing head ≡ false → (d later : DriverNow) (request : Fields) (stream : Typed StreamPair Session) → OpensRequest side log collected d request stream → (c : Connect) (answer : Poll (Result ℕ ConnectingError))
      → (Follows side d then-log collected → IsWithin side then-log → IsAsking (new_asked stream.halves.0.id head) side then-log
      → Did side later collected (connecting_reply answer) (send_request side then-log stream.halves.0.id [] (head_left then-log stream.halves.0.id head)))
      → (Follows side d then-log collected → IsWithin side then-log → IsAsking (new_asked stream.halves.0.id head) side then-log → AsksAs (new_asked stream.halves.0.id head) c answer side then-log)
      → Did side later collected (connecting_reply answer) (open_request side log head) × ConnectsOn c answer side (open_request side log head).log
  opened-ready some d later request stream o c answer does on =
      let is = ap (λ (h : StreamPair). h.0.id) o.is.halves in
      let w : IsWithin side then-log = record { before = log; own = actions_to_open side log (local_bi side); reached = r; is = refl } in
      let asks = opened-asks side log collected r head x some o.is_open o.may stream.halves.0.id is in
      let s = on o.follows w asks in (
        subst (λ (e : Effect). Did side later collected (connecting_reply answer) e) (sym (opened-effect side log collected r head x some o.is_open o.may stream.halves.0.id is)) (does o.follows w asks),
        subst (λ (t : Connect). ConnectsOn t answer side (open_request side log head).log) (sym s.is)
            (opened-goes-on side log collected r head x some o.is_open o.may stream.halves.0.id is s.later s.id s.head answer s.still),
      )

  pub opened-not : (before d : DriverNow) → WaitsToOpen side log before d → Follows side before log collected → Rests d → (c : Connect) → c ≡ Dialled head
      → Did side d collected replies.Pending (open_request side log head) × IsConnecting c side (open_request side log head).log
  opened-not before d o f rests c was =
      let g = subst (λ (y : DriverNow). Follows side y log collected) (sym o.same) f in
      let e = waits-to-open side log head x o.is_open o.may in (
        subst (λ (y : Effect). Did side d collected replies.Pending y) (sym e) (record { reply = refl; log = rests Polled refl side log collected g (within side log r) }),
        subst (λ (y : Effect). IsConnecting c side y.log) (sym e)
            (subst (IsConnecting c side) (sym (at-rest side log collected d Polled refl g (within side log r))) (still-by c side log (subst (λ (y : Connect). IsConnecting y side log) (sym was) x.1))),
      )

  ready-on : (c : Connect) (answer : Poll (Result ℕ ConnectingError)) (l : Log) → answer ≢ Pending → ConnectsOn c answer side l
  ready-on c (Ready a) l n = tt
  ready-on c Pending l n = absurd (n refl)

  pub opened-over : (before d later : DriverNow) (e : DriverError) → HasEnded log before d e → Follows side before log collected → (c : Connect) (answer : Poll (Result ℕ ConnectingError))
      → (Follows side d log collected → IsWithin side log → Did side later collected (connecting_reply answer) (abandon side log [] (loss_to_connect log))) → answer ≢ Pending
      → Did side later collected (connecting_reply answer) (open_request side log head) × ConnectsOn c answer side (open_request side log head).log
  opened-over before d later e o f c answer does ready = (
    subst (λ (y : Effect). Did side later collected (connecting_reply answer) y) (abandoned-closed side log collected later (loss_to_connect log) o.is_open ∙ sym (has-ended side log head x o.is_open))
        (does (subst (λ (y : DriverNow). Follows side y log collected) (sym o.same) f) (within side log r)),
    ready-on c answer (open_request side log head).log ready,
  )

-- a request whose stream isn't open
pub dialled-both : (side : Side) (log : Log) (collected : ℕ) → IsReachable side log → (s c : Connect) (head was : List ℕ) → s ≡ Dialled was → head ≡ was → HasConnect s side log → (d one later : DriverNow) (opened : Result OpenSession DriverError)
    (request : Fields) (answer : Poll (Result ℕ ConnectingError)) → is_nothing was ≡ false
    → (is_client side ≡ true → IsDialling log → local_count (actions_of log) (local_bi side) ≡ 0 → OpensFor side log collected d one request opened) → OpenedGoesOn one later c head opened answer → Follows side d log collected
    → Did side later collected (connecting_reply answer) (connect_effect side log s) × ConnectsOn c answer side (connect_effect side log s).log
dialled-both side log collected r s c head was eq same has d one later opened request answer some opens goes f =
    let x = subst (λ (t : Connect). HasConnect t side log) (eq ∙ ap Dialled (sym same)) has in
    let both = goes side log collected d request f r x (ap is_nothing same ∙ some) (opens x.0 (record { reserved = None; head = head; state = x.1.0 }) x.1.1) in
    let e = ap (connect_effect side log) (eq ∙ ap Dialled (sym same)) in (
      subst (λ (y : Effect). Did side later collected (connecting_reply answer) y) (sym e) both.0,
      subst (λ (y : Effect). ConnectsOn c answer side y.log) (sym e) both.1,
    )
