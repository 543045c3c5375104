-- What of a head is out changes only by the call that sends it, and of a header something is left as long as its stream is being opened.
use Rattle.std.proofs.Common.{◌∙◌, ◌<◌, ap, arith, length-append, refl, subst, sym}
use Rattle.std.proofs.lemmas.Bool.{eq-eqb}
use Rattle.std.proofs.lemmas.List.{append-nil, length-drop}
use Rattle.std.specs.List.{list_any}
use Rattle.std.specs.Option.{option_or}
use Rattle.std.specs.Prelude.{[], ◌%◌, ◌&&◌, ◌+◌, ◌++◌, ◌==◌, ◌∷◌, ◌||◌, ◌≡◌, Bool, List, None, Option, Some, drop, false, if◌then◌else◌, is_some, length, not, suc, take, true, zero, ℕ}
use Rattle.wt_driver_laws.proofs.Reach.{Told, agrees-after, reached_holds, told}
use Rattle.wt_driver_laws.proofs.ReachHanded.{handed-of}
use Rattle.wt_driver_laws.proofs.ReachHeads.{absent-unsent, head-not-control, never, opening-not-control, unhanded}
use Rattle.wt_driver_laws.proofs.LogLaw.{new, of-begun}
use Rattle.wt_driver_laws.specs.Driving.{IsReachable}
use Rattle.wt_driver_laws.specs.Handing.{is_at_hand}
use Rattle.wt_meaning.specs.Calls.{being_opened, is_living, opened_by, opening_ends, opening_for, opening_rows, stream_header}
use Rattle.wt_meaning.specs.Findings.{first_of}
use Rattle.wt_meaning.specs.Handshakes.{head_left, is_nothing, is_refused, lacks_credit, next_request}
use Rattle.wt_meaning.specs.History.{History, Pair, actions_out, credit_left, exists, is_handed_out, is_open, out, was_finished}
use Rattle.wt_meaning.specs.Lawful.{is_first, is_lawful, is_response, is_waiting, polls}
use Rattle.wt_meaning.specs.Meaning.{after_bytes, history_after, next, own_answer, step, with_pair}
use Rattle.wt_meaning.specs.Sends.{moment_actions}
use Rattle.wt_meaning.specs.Windows.{is_established, named, session_in}
use Rattle.wt_promise.proofs.Accepted.{and-left, or-left, or-right}
use Rattle.wt_promise.proofs.Actions.{any-next, none-if, opened-next, opened-none, opened-out}
use Rattle.wt_promise.proofs.Asks.{Asks, Begins, Else, ForRequest, GoesOn, Responds, asks}
use Rattle.wt_promise.proofs.Begun.{BegunFor, polled-stream}
use Rattle.wt_promise.proofs.BytesOut.{bytes-sent, bytes_on, out-add}
use Rattle.wt_promise.proofs.ControlKept.{begun-opening, own-bytes, polled-k}
use Rattle.wt_promise.proofs.Finished.{moment-finishes}
use Rattle.wt_promise.proofs.Flow.{clash}
use Rattle.wt_promise.proofs.Fresh.{Bi, OpenTurn, Uni, open-turn, was-opened}
use Rattle.wt_promise.proofs.Grows.{is_peers}
use Rattle.wt_promise.proofs.HandedOut.{opened-local}
use Rattle.wt_promise.proofs.HeadFinish.{ByFinish, EndsSession, FinishWhy, finish-handed, why-own}
use Rattle.wt_promise.proofs.HeadFinish as finishing
use Rattle.wt_promise.proofs.Heads.{begun-kept, begun-not-opened, opened-once}
use Rattle.wt_promise.proofs.MomentActs.{closed-lived}
use Rattle.wt_promise.proofs.Opened.{opens-for}
use Rattle.wt_promise.proofs.Phases.{client-waits, same-established}
use Rattle.wt_promise.proofs.Sent.{Given, Opening, Polled, Quiet, Sent, Wrote, sent-own}
use Rattle.wt_promise.proofs.Stays.{any-newest, named-stays}
use Rattle.wt_promise.proofs.Tables.{OfRows, by-row, by-session, by-value, no-row}
use Rattle.wt_promise.proofs.Waiting.{named-established}
use Rattle.wt_promise.specs.Promise.{IsHistory}
use Rattle.wt_turn.specs.Sent.{finishes, is_finished, sent_on}
use Rattle.wt_turn.specs.Streams.{local_bi, local_count, local_uni, opens, peer_bi, peer_uni}
use Rattle.wt_sessions.proofs.Turns.{is_dialling}
use Rattle.wt_sessions.specs.Answers as answers
use Rattle.wt_sessions.specs.Answers.{log_after}
use Rattle.wt_sessions.specs.Connection.{opening_session}
use Rattle.wt_sessions.specs.Connection as connections
use Rattle.wt_sessions.specs.Effect as effects
use Rattle.wt_sessions.specs.Handshake.{Connecting, handshake_state, is_continuable, requested_stream}
use Rattle.wt_sessions_agree.proofs.LawfulLaws.{lawful-agrees}
use Rattle.wt_sessions_agree.specs.Agreement.{Agree}
use Rattle.wt_sessions_agree.specs.Stands.{IsOpening, NotOpening, OpeningAgrees}
use Rattle.wt_turn.specs.Log.{Log, actions_of, calls_of}
use Rattle.wt_turn.specs.declared.answer.Answer.{Answer}
use Rattle.wt_turn.specs.declared.call.Call.{Call}
use Rattle.wt_turn.specs.declared.turn.Turn.{Turn}
use Rattle.wt_wire.specs.Ids.{is_bidirectional}
use Rattle.wt_wire.specs.Varint.{varint_bytes}
use Rattle.wt_wire.specs.declared.side.Side.{Side}
use Rattle.wt_wire.specs.declared.side.Side.TheVariants.{Client, Server}
use Rattle.wt_turn.specs.declared.action.Action.TheVariants as actions
use Rattle.wt_turn.specs.declared.call.Call.TheVariants as calls
use Rattle.wt_turn.specs.declared.reply.Reply.TheVariants as replies
use Rattle.wt_turn.specs.declared.turn.Turn.TheVariants as turns

-- ---- what goes out on a stream

-- where the turn's own answer sends nothing on it nothing goes out
step-sent : (side : Side) (h : History) (turn : Turn) (k : ℕ) → (k == local_uni side) ≡ false → bytes_on k (own_answer side h turn).actions ≡ [] → out (step side h turn) k ≡ out h k
step-sent side h turn k n q = out-add (record { turn = turn; answer = next side h turn }) h k ∙ ap (λ (xs : List ℕ). out h k ++ xs) (own-bytes side h turn k n ∙ q) ∙ append-nil (out h k)

piece-sent : (side : Side) (id k : ℕ) → (k == local_uni side) ≡ false → (piece : List ℕ) (h : History) → out (after_bytes side h id piece) k ≡ out h k
piece-sent side id k n [] h = refl
piece-sent side id k n (b ∷ piece) h = piece-sent side id k n piece (step side h (turns.Bytes id (b ∷ []))) ∙ step-sent side h (turns.Bytes id (b ∷ [])) k n refl

turn-sent : (side : Side) (h : History) (turn : Turn) (k : ℕ) → (k == local_uni side) ≡ false → bytes_on k (own_answer side h turn).actions ≡ [] → out (history_after side h turn) k ≡ out h k
turn-sent side h (turns.Bytes id piece) k n q = piece-sent side id k n piece h
turn-sent side h turn k n q = step-sent side h turn k n q

-- ---- a stream that is being opened

opening-quiet : (side : Side) (h : History) → IsHistory side h → (turn : Turn) → is_lawful side h turn ≡ true → (k : ℕ) (name : Option ℕ) → being_opened h k ≡ Some name → (turn ≡ turns.Call (calls.PollOpening k) → ⊥)
    → bytes_on k (own_answer side h turn).actions ≡ []
opening-quiet side h i turn l k name o other = by (sent-own side h k turn)
  where
    by : Sent side h k turn (own_answer side h turn) → bytes_on k (own_answer side h turn).actions ≡ []
    by (Quiet b n x) = b
    by (Given b n x) = b
    by (Wrote g b x) = absurd (unhanded side h i k name o g)
    by (Polled c p q s b n x) = absurd (begun-not-opened side h i k (polled-k side h i c k (polled-stream side h turn c i l p q) s) name (begun-opening h k name o))
    by (Opening m s x y b n f t) = absurd (other t)

-- its name
name-of : (side : Side) (log : Log) (t : Told side log) (id s : ℕ) → opening_session log id ≡ Some s → (name : Option ℕ) × (being_opened t.h id ≡ Some name) × (named t.h name ≡ Some s)
name-of side log t id s e = by (t.stands.openings id)
  where
    by : OpeningAgrees t.h log id → (name : Option ℕ) × (being_opened t.h id ≡ Some name) × (named t.h name ≡ Some s)
    by (NotOpening a n) = absurd (let q : None ≡ Some s = sym n ∙ e in cc q)
    by (IsOpening name x o m n) = (name, o, m ∙ sym n ∙ e)

pub opening_stays : (side : Side) (log : Log) → IsReachable side log → (turn : Turn) → answers.is_lawful side log turn ≡ true → (id s : ℕ) → opening_session log id ≡ Some s → (turn ≡ turns.Call (calls.PollOpening id) → ⊥)
    → sent_on (actions_of (log_after side log turn)) id ≡ sent_on (actions_of log) id
opening_stays side log r turn l id s e other =
    sym (later.3.out.sent id) ∙ turn-sent side t.h turn id (opening-not-control side t.h t.hist id m.0 m.1) (opening-quiet side t.h t.hist turn (lawful-agrees side t.offset t.h log t.stands turn ∙ l) id m.0 m.1 other) ∙ t.stands.out.sent id
  where
    t : Told side log
    t = told side log r

    later : Agree side (history_after side t.h turn) (log_after side log turn)
    later = agrees-after side log turn t l

    m : (name : Option ℕ) × (being_opened t.h id ≡ Some name) × (named t.h name ≡ Some s)
    m = name-of side log t id s e

-- ---- the stream of a request or a connect

module _ (side : Side) (k : ℕ) where
  head-quiet : (h : History) → IsHistory side h → (turn : Turn) → BegunFor side h k → polls turn ≡ false → bytes_on k (own_answer side h turn).actions ≡ []
  head-quiet h i turn b p = by (sent-own side h k turn)
    where
      by : Sent side h k turn (own_answer side h turn) → bytes_on k (own_answer side h turn).actions ≡ []
      by (Quiet x n y) = x
      by (Given x n y) = x
      by (Wrote g x y) = absurd (clash (is_handed_out h k) g (begun-kept side h i k b))
      by (Polled c q g s x n y) = absurd (clash (polls turn) q p)
      by (Opening m s o x y n f t) = absurd (begun-not-opened side h i k b m (begun-opening h k m o))

  -- no moment finishes it while its session isn't established
  moment-unfinished : (p : Pair) (h : History) → is_established (p ∷ h) k ≡ false → list_any (finishes k) (moment_actions side (p ∷ h)) ≡ false
  moment-unfinished p h u =
      never (list_any (finishes k) (moment_actions side (p ∷ h))) (λ e. clash (is_established (p ∷ h) k) (and-left (is_established (p ∷ h) k) _ (closed-lived side p h k (moment-finishes side p h k e))) u)

  step-finished : (h : History) (turn : Turn) → list_any (finishes k) (own_answer side h turn).actions ≡ false → is_established (with_pair h turn (own_answer side h turn)) k ≡ false → was_finished (step side h turn) k ≡ was_finished h k
  step-finished h turn q u =
      let none : (list_any (finishes k) (own_answer side h turn).actions || list_any (finishes k) (moment_actions side (with_pair h turn (own_answer side h turn)))) ≡ false
      = rw (q, moment-unfinished (record { turn = turn; answer = own_answer side h turn }) h u) refl in
      any-newest (finishes k) (next side h turn).actions (actions_out h) ∙ ap (λ (b : Bool). b || was_finished h k) (any-next (finishes k) (λ j x y. refl) side h turn ∙ none)

  piece-finished : (id : ℕ) (piece : List ℕ) (h : History) → is_established h k ≡ false → was_finished (after_bytes side h id piece) k ≡ was_finished h k
  piece-finished id [] h u = refl
  piece-finished id (b ∷ piece) h u = piece-finished id piece (step side h (turns.Bytes id (b ∷ []))) u ∙ step-finished h (turns.Bytes id (b ∷ [])) refl u

  turn-finished : (h : History) → IsHistory side h → (turn : Turn) → is_lawful side h turn ≡ true → BegunFor side h k → is_established h k ≡ false → polls turn ≡ false → was_finished (history_after side h turn) k ≡ was_finished h k
  turn-finished h i (turns.Bytes id piece) l b u p = piece-finished id piece h u
  turn-finished h i turn l b u p = step-finished h turn (never (list_any (finishes k) (own_answer side h turn).actions) (λ e. why e (why-own side h k turn e))) (same-established (record { turn = turn; answer = own_answer side h turn }) h k (none (asks side h turn l)) ∙ u)
    where
      why : list_any (finishes k) (own_answer side h turn).actions ≡ true → FinishWhy side h k turn → ⊥
      why e (ByFinish id t q) =
          clash (is_handed_out h k) (ap (is_handed_out h) (sym q) ∙ finish-handed side h k id (ap (λ (x : Turn). list_any (finishes k) (own_answer side h x).actions) (sym t) ∙ e)) (begun-kept side h i k b)
      why e (EndsSession name t m o q) = clash (is_established h k) (and-left (is_established h k) _ q) u
      why e (finishing.Responds c q g x y) = clash (polls turn) q p

      none : Asks side h turn (next side h turn).reply → session_in (own_answer side h turn).reply ≡ None
      none (Begins c s t x f g n) = n
      none (ForRequest s t a n) = n
      none (Responds c s t x q n) = absurd (clash (polls turn) (ap polls t ∙ responds-poll c x) p)
        where
          responds-poll : (d : Call) → is_response d ≡ true → polls (turns.Call d) ≡ true
          responds-poll (calls.Accept headers) y = refl
          responds-poll calls.Forbidden y = refl
          responds-poll calls.NotFound y = refl
          responds-poll calls.TooManyRequests y = refl
          responds-poll d y = absurd (cc y)
      none (GoesOn t w n) = absurd (clash (polls turn) (ap polls t) p)
      none (Else a q m g n) = n

-- a request at hand: by turns that neither begin a response nor go on with it
pub request_stays : (side : Side) (log : Log) → IsReachable side log → (turn : Turn) → answers.is_lawful side log turn ≡ true → is_at_hand (handshake_state (calls_of log)) ≡ true → polls turn ≡ false
    → (sent_on (actions_of (log_after side log turn)) (requested_stream (calls_of log)) ≡ sent_on (actions_of log) (requested_stream (calls_of log)))
    × (is_finished (actions_of (log_after side log turn)) (requested_stream (calls_of log)) ≡ is_finished (actions_of log) (requested_stream (calls_of log)))
request_stays side log r turn l e p = (
  sym (later.3.out.sent id) ∙ turn-sent side t.h turn id (head-not-control side t.h t.hist id b) (head-quiet side id t.h t.hist turn b p) ∙ t.stands.out.sent id,
  sym (later.3.out.finished id) ∙ turn-finished side id t.h t.hist turn (lawful-agrees side t.offset t.h log t.stands turn ∙ l) b (new side log r e) p ∙ t.stands.out.finished id,
)
  where
    id : ℕ
    id = requested_stream (calls_of log)

    t : Told side log
    t = told side log r

    later : Agree side (history_after side t.h turn) (log_after side log turn)
    later = agrees-after side log turn t l

    b : BegunFor side t.h id
    b = of-begun side log r e

-- ---- a connect that goes on

-- without a session no call but a connect opens a stream
module _ (side : Side) (h : History) (i : IsHistory side h) (none : (s : ℕ) → is_established h s ≡ false) where
  unnamed : (name : Option ℕ) → named h name ≡ None
  unnamed name = by (named h name) refl
    where
      by : (o : Option ℕ) → named h name ≡ o → o ≡ None
      by None q = refl
      by (Some s) q = absurd (clash (is_established h s) (named-established h name s q) (none s))

  unhanded-all : (k : ℕ) → is_handed_out h k ≡ false
  unhanded-all k = never (is_handed_out h k) (λ e. let o = handed-of side h i k e in clash (is_established h o.session) o.established (none o.session))

  abbrev Unopened : Answer → Type 0
  Unopened a = list_any (opens 0) a.actions ≡ false

  no-open : (c : Call) → polls (turns.Call c) ≡ false → Unopened (own_answer side h (turns.Call c))
  no-open (calls.Connect options lookup outcome) p = absurd (cc p)
  no-open calls.Incoming p = (by-value Unopened (next_request side h) _ [] _ (λ y q. refl) (λ q. by-row Unopened (not (is_open h)) _ [] [] (λ x. refl) (λ x. no-row Unopened refl))).first
  no-open (calls.Accept headers) p = absurd (cc p)
  no-open calls.Forbidden p = absurd (cc p)
  no-open calls.NotFound p = absurd (cc p)
  no-open calls.TooManyRequests p = absurd (cc p)
  no-open calls.Handshake p = absurd (cc p)
  no-open (calls.EndpointClose code reason) p = none-if (opens 0) (is_open h) (actions.Close code reason) refl
  no-open (calls.AcceptUni name) p = rw (unnamed name) refl
  no-open (calls.AcceptBi name) p = rw (unnamed name) refl
  no-open (calls.ReceiveDatagram name) p = rw (unnamed name) refl
  no-open (calls.OpenUni name) p = rw (unnamed name) refl
  no-open (calls.OpenBi name) p = rw (unnamed name) refl
  no-open (calls.PollOpening id) p = rw (unnamed None) refl
  no-open (calls.SendDatagram payload name) p = rw (unnamed name) refl
  no-open (calls.MaxDatagramSize name) p = rw (unnamed name) refl
  no-open (calls.SessionId name) p = rw (unnamed name) refl
  no-open (calls.EndSession name) p = rw (unnamed name) refl
  no-open (calls.Close code reason) p = rw (unnamed None) refl
  no-open calls.Closed p = rw (unnamed None) refl
  no-open (calls.Write id bytes) p = rw (unhanded-all id) refl
  no-open (calls.WriteAll id bytes) p = rw (unhanded-all id) refl
  no-open (calls.Finish id) p = rw (unhanded-all id) refl
  no-open (calls.Stopped id) p = rw (unhanded-all id) refl
  no-open (calls.Priority id) p = rw (unhanded-all id) refl
  no-open (calls.SetPriority id priority) p = rw (unhanded-all id) refl
  no-open (calls.ResetSend id code) p = rw (unhanded-all id) refl
  no-open (calls.Read id size) p = rw (unhanded-all id) refl
  no-open (calls.ReadExact id size) p = rw (unhanded-all id) refl
  no-open (calls.StopRecv id code) p = rw (unhanded-all id) refl

-- the stream of a connect isn't opened by a turn that isn't the connect's
step-count : (side : Side) (h : History) (turn : Turn) → list_any (opens 0) (own_answer side h turn).actions ≡ false → local_count (actions_out (step side h turn)) 0 ≡ local_count (actions_out h) 0
step-count side h turn q = let a = opened-next side h turn in let b = opened-out 0 (own_answer side h turn).actions (actions_out h) in let c = opened-none 0 (own_answer side h turn).actions q in omega (arith, a, b, c)

piece-count : (side : Side) (id : ℕ) (piece : List ℕ) (h : History) → local_count (actions_out (after_bytes side h id piece)) 0 ≡ local_count (actions_out h) 0
piece-count side id [] h = refl
piece-count side id (b ∷ piece) h = piece-count side id piece (step side h (turns.Bytes id (b ∷ []))) ∙ step-count side h (turns.Bytes id (b ∷ [])) refl

turn-count : (side : Side) (h : History) → IsHistory side h → ((s : ℕ) → is_established h s ≡ false) → (turn : Turn) → polls turn ≡ false → local_count (actions_out (history_after side h turn)) 0 ≡ local_count (actions_out h) 0
turn-count side h i none (turns.Bytes id piece) p = piece-count side id piece h
turn-count side h i none (turns.Call c) p = step-count side h (turns.Call c) (no-open side h i none c p)
turn-count side h i none turn p = step-count side h turn refl

-- a turn that isn't the poll of a connect that waits polls nothing
unpolled : (h : History) (turn : Turn) → is_waiting h ≡ true → is_lawful Client h turn ≡ true → (turn ≡ turns.Call calls.Handshake → ⊥) → polls turn ≡ false
unpolled h turn w l other = by (asks Client h turn l)
  where
    idle : (x : History) → is_first x ≡ true → is_waiting x ≡ true → ⊥
    idle [] f v = cc v
    idle (y ∷ x) f v = cc f

    by : Asks Client h turn (next Client h turn).reply → polls turn ≡ false
    by (Begins c s t x f g n) = absurd (idle h f w)
    by (ForRequest s t a n) = absurd (cc s)
    by (Responds c s t x q n) = absurd (cc s)
    by (GoesOn t v n) = absurd (other t)
    by (Else p q m g n) = p

pub connect_stays : (side : Side) (log : Log) → IsReachable side log → (turn : Turn) → answers.is_lawful side log turn ≡ true → (reserved : Option (List ℕ)) (head : List ℕ) → handshake_state (calls_of log) ≡ Connecting reserved head
    → (turn ≡ turns.Call calls.Handshake → ⊥)
    → (sent_on (actions_of (log_after side log turn)) (local_bi side) ≡ sent_on (actions_of log) (local_bi side))
    × (local_count (actions_of (log_after side log turn)) (local_bi side) ≡ local_count (actions_of log) (local_bi side))
connect_stays Server log r turn l reserved head e other = absurd (let d = ((reached_holds Server log r).dialling (ap is_dialling e)).0 in cc d)
connect_stays Client log r turn l reserved head e other = (
  sym (later.3.out.sent 0) ∙ turn-sent Client t.h turn 0 refl (head-quiet Client 0 t.h t.hist turn refl quiet) ∙ t.stands.out.sent 0,
  sym (later.3.out.opened 0) ∙ turn-count Client t.h t.hist (client-waits t.h t.hist waits) turn quiet ∙ t.stands.out.opened 0,
)
  where
    t : Told Client log
    t = told Client log r

    later : Agree Client (history_after Client t.h turn) (log_after Client log turn)
    later = agrees-after Client log turn t l

    waits : is_waiting t.h ≡ true
    waits = t.stands.handshake.waiting ∙ ap is_continuable e

    quiet : polls turn ≡ false
    quiet = unpolled t.h turn waits (lawful-agrees Client t.offset t.h log t.stands turn ∙ l) other

-- ---- what is left of a header

-- a stream that isn't the peer's is of a kind of this end
own-kind : (side : Side) (k : ℕ) → is_peers side k ≡ false → ((local_uni side == k % 4) || (local_bi side == k % 4)) ≡ true
own-kind side k e = by side (k % 4) (omega arith) e
  where
    by : (x : Side) (n : ℕ) → n < 4 → ((n == peer_uni x) || (n == peer_bi x)) ≡ false → ((local_uni x == n) || (local_bi x == n)) ≡ true
    by Client zero l q = refl
    by Client (suc zero) l q = absurd (cc q)
    by Client (suc (suc zero)) l q = refl
    by Client (suc (suc (suc zero))) l q = absurd (cc q)
    by Server zero l q = absurd (cc q)
    by Server (suc zero) l q = refl
    by Server (suc (suc zero)) l q = absurd (cc q)
    by Server (suc (suc (suc zero))) l q = refl
    by x (suc (suc (suc (suc n)))) l q = absurd (omega (arith, l))

some-bytes : (n : ℕ) (xs : List ℕ) → not (is_nothing (drop n xs)) ≡ true → length (take n xs) < length xs
some-bytes zero [] q = absurd (cc q)
some-bytes zero (y ∷ ys) q = omega arith
some-bytes (suc m) [] q = absurd (cc q)
some-bytes (suc m) (y ∷ ys) q = let l = some-bytes m ys q in omega (arith, l)

-- a poll that doesn't end the opening sends less than what is left
poll-leaves : (side : Side) (h : History) (k s : ℕ) (name : Option ℕ) → being_opened h k ≡ Some name → named h name ≡ Some s → 0 < length (head_left h k (stream_header k s))
    → opening_ends k (turns.Call (calls.PollOpening k)) (own_answer side h (turns.Call (calls.PollOpening k))).reply ≡ false
    → length (bytes_on k (own_answer side h (turns.Call (calls.PollOpening k))).actions) < length (head_left h k (stream_header k s))
poll-leaves side h k s name o m some e =
    (by-session P (named h None) (λ (x : ℕ). opening_for side h k (being_opened h k)) (λ q. some) (λ x q. subst (λ (y : Option (Option ℕ)). OfRows P (opening_for side h k y)) (sym o)
    (by-session P (named h name) (λ (y : ℕ). opening_rows side h k y (head_left h k (stream_header k y))) (λ z. some) (λ y z. rows y (let same : Some s ≡ Some y = sym m ∙ z in let one : s ≡ y = cc same in one))))).first e
  where
    left : ℕ → List ℕ
    left y = head_left h k (stream_header k y)

    P : Answer → Type 0
    P a = opening_ends k (turns.Call (calls.PollOpening k)) a.reply ≡ false → length (bytes_on k a.actions) < length (left s)

    ended : {T : Type 0} → (k == k) ≡ false → T
    ended q = absurd (clash (k == k) (eq-eqb k k refl) q)

    ready : (b : Bool) → opening_ends k (turns.Call (calls.PollOpening k)) (if b then replies.BiReady k else replies.SendReady k) ≡ false → (k == k) ≡ false
    ready true q = q
    ready false q = q

    rows : (y : ℕ) → s ≡ y → OfRows P (opening_rows side h k y (left y))
    rows y same =
        by-row P (not (is_open h && is_living side h y)) _ [] _ (λ q z. ended z)
        (λ q. by-row P (is_refused h k (left y)) _ [] _ (λ w z. ended z)
        (λ w. by-row P (lacks_credit h k (left y)) replies.Pending _ _
        (λ x z. let a = bytes-sent k (take (credit_left h k) (left y)) in let b = some-bytes (credit_left h k) (left y) x in let c = ap length a in let d = ap (λ (n : ℕ). length (left n)) same in omega (arith, b, c, d))
        (λ x. by-row P true _ _ [] (λ v z. ended (ready (is_bidirectional k) z)) (λ v. absurd (cc v)))))

-- the next one
header-on : (side : Side) (p : Pair) (h : History) → IsHistory side (p ∷ h) → (k s : ℕ) (name : Option ℕ) → (k == local_uni side) ≡ false → opening_ends k p.turn p.answer.reply ≡ false → being_opened h k ≡ Some name → named h name ≡ Some s
    → length (out h k) < length (stream_header k s) → length (out (p ∷ h) k) < length (stream_header k s)
header-on side p h i k s name n z o m l = by (sent-own side h k p.turn)
  where
    now : out (p ∷ h) k ≡ out h k ++ bytes_on k (own_answer side h p.turn).actions
    now = out-add p h k ∙ ap (λ (xs : List ℕ). out h k ++ xs) (ap (λ (a : Answer). bytes_on k a.actions) i.1 ∙ own-bytes side h p.turn k n)

    quiet : bytes_on k (own_answer side h p.turn).actions ≡ [] → length (out (p ∷ h) k) < length (stream_header k s)
    quiet q = let a = ap length (now ∙ ap (λ (xs : List ℕ). out h k ++ xs) q ∙ append-nil (out h k)) in omega (arith, a, l)

    left : length (head_left h k (stream_header k s)) + length (out h k) ≡ length (stream_header k s)
    left = let a = length-drop (length (out h k)) (stream_header k s) in omega (arith, a, l)

    poll : p.turn ≡ turns.Call (calls.PollOpening k) → length (out (p ∷ h) k) < length (stream_header k s)
    poll t =
        let r : opening_ends k (turns.Call (calls.PollOpening k)) (own_answer side h (turns.Call (calls.PollOpening k))).reply ≡ false
        = ap (λ (x : Turn). opening_ends k x (next side h x).reply) (sym t) ∙ ap (λ (a : Answer). opening_ends k p.turn a.reply) (sym i.1) ∙ z in
        let g = left in
        let some : 0 < length (head_left h k (stream_header k s)) = omega (arith, g, l) in
        let b = poll-leaves side h k s name o m some r in
        let c = ap length now ∙ length-append (out h k) (bytes_on k (own_answer side h p.turn).actions) in
        let d = ap (λ (x : Turn). length (bytes_on k (own_answer side h x).actions)) t in omega (arith, b, c, d, g)

    by : Sent side h k p.turn (own_answer side h p.turn) → length (out (p ∷ h) k) < length (stream_header k s)
    by (Quiet b x y) = quiet b
    by (Given b x y) = quiet b
    by (Wrote g b x) = absurd (unhanded side h i.2 k name o g)
    by (Polled c q g x b y w) = absurd (begun-not-opened side h i.2 k (polled-k side h i.2 c k (polled-stream side h p.turn c i.2 i.0 q g) x) name (begun-opening h k name o))
    by (Opening a b x y c d f t) = poll t

-- an opening that begins sends nothing of it
begin-quiet : (side : Side) (h : History) (turn : Turn) (k : ℕ) (name : Option ℕ) → opened_by k turn (next side h turn).reply ≡ Some name → bytes_on k (own_answer side h turn).actions ≡ []
begin-quiet side h turn k name e = by (open-turn k name turn (next side h turn).reply e)
  where
    by : OpenTurn k name turn (next side h turn).reply → bytes_on k (own_answer side h turn).actions ≡ []
    by (Uni id q t r) =
        let o = opens-for side h name (local_uni side) id (ap (λ (x : Turn). (next side h x).reply) (sym t) ∙ r) in ap (λ (x : Turn). bytes_on k (own_answer side h x).actions) t ∙ ap (bytes_on k) o.acts
    by (Bi id q t r) =
        let o = opens-for side h name (local_bi side) id (ap (λ (x : Turn). (next side h x).reply) (sym t) ∙ r) in ap (λ (x : Turn). bytes_on k (own_answer side h x).actions) t ∙ ap (bytes_on k) o.acts

header-left : (side : Side) (h : History) → IsHistory side h → (k s : ℕ) (name : Option ℕ) → being_opened h k ≡ Some name → named h name ≡ Some s → length (out h k) < length (stream_header k s)
header-left side [] i k s name o m = absurd (cc o)
header-left side (p ∷ h) i k s name o m = by (opened_by k p.turn p.answer.reply) refl (λ b x y. header-left side h i.2 k b name x y)
  where
    other : (k == local_uni side) ≡ false
    other = opening-not-control side (p ∷ h) i k name o

    first : option_or (opened_by k p.turn p.answer.reply) (first_of (λ (q : Pair). opened_by k q.turn q.answer.reply) h) ≡ Some name
    first = begun-opening (p ∷ h) k name o

    unended : (opening_ends k p.turn p.answer.reply || list_any (λ (q : Pair). opening_ends k q.turn q.answer.reply) h) ≡ false
    unended = never (list_any (λ (q : Pair). opening_ends k q.turn q.answer.reply) (p ∷ h)) (λ e. none (list_any (λ (q : Pair). opening_ends k q.turn q.answer.reply) (p ∷ h)) e o)
      where
        none : (b : Bool) → b ≡ true → (if b then None else first_of (λ (q : Pair). opened_by k q.turn q.answer.reply) (p ∷ h)) ≡ Some name → ⊥
        none true q x = cc x
        none false q x = cc q

    by : (x : Option (Option ℕ)) → opened_by k p.turn p.answer.reply ≡ x → ((b : ℕ) → being_opened h k ≡ Some name → named h name ≡ Some b → length (out h k) < length (stream_header k b))
        → length (out (p ∷ h) k) < length (stream_header k s)
    by None q again =
        let f : first_of (λ (r : Pair). opened_by k r.turn r.answer.reply) h ≡ Some name = ap (λ (x : Option (Option ℕ)). option_or x (first_of (λ (r : Pair). opened_by k r.turn r.answer.reply) h)) (sym q) ∙ first in
        let w = was-opened side h i.2 k name f in
        let same : Some w.session ≡ Some s = sym (named-stays p h name w.session w.of_it) ∙ m in
        let one : w.session ≡ s = cc same in
        let named-before : named h name ≡ Some s = w.of_it ∙ same in
        let before : being_opened h k ≡ Some name = ap (λ (b : Bool). if b then None else first_of (λ (r : Pair). opened_by k r.turn r.answer.reply) h) (or-right (opening_ends k p.turn p.answer.reply) (list_any (λ (r : Pair). opening_ends k r.turn r.answer.reply) h) unended) ∙ f in
        header-on side p h i k s name other (or-left (opening_ends k p.turn p.answer.reply) (list_any (λ (r : Pair). opening_ends k r.turn r.answer.reply) h) unended) before named-before (again s before named-before)
    by (Some n) q again =
        let absent : exists side h k ≡ false = never (exists side h k) (λ x. let y : None ≡ Some n = sym (opened-once side p h i k x) ∙ q in cc y) in
        let own = own-kind side k (opened-local side (p ∷ h) i k (ap is_some first)) in
        let a = out-add p h k ∙ ap (λ (xs : List ℕ). xs ++ bytes_on k p.answer.actions) (absent-unsent side h i.2 k own absent)
        ∙ ap (λ (y : Answer). bytes_on k y.actions) i.1 ∙ own-bytes side h p.turn k other ∙ begin-quiet side h p.turn k n (ap (λ (y : Answer). opened_by k p.turn y.reply) (sym i.1) ∙ q) in
        let b = ap length a in omega (arith, b)

-- the header is the same in both forms of the definitions
header-is : (k s : ℕ) → stream_header k s ≡ connections.stream_header k s
unfolding varint_bytes
header-is k s = by (is_bidirectional k)
  where
    by : (b : Bool) → 0x40 ∷ (if b then 0x41 else 0x54) ∷ varint_bytes s ≡ varint_bytes (if b then 0x41 else 0x54) ++ varint_bytes s
    by true = refl
    by false = refl

-- something of the header is left
pub opening_left : (side : Side) (log : Log) → IsReachable side log → (id s : ℕ) → opening_session log id ≡ Some s → is_nothing (effects.head_left log id (connections.stream_header id s)) ≡ false
opening_left side log r id s e =
    ap (λ (xs : List ℕ). is_nothing (drop (length (sent_on (actions_of log) id)) xs)) (sym (header-is id s))
    ∙ ap (λ (xs : List ℕ). is_nothing (drop (length xs) (stream_header id s))) (sym (t.stands.out.sent id)) ∙ left (length (out t.h id)) (stream_header id s) (header-left side t.h t.hist id s m.0 m.1 m.2)
  where
    t : Told side log
    t = told side log r

    m : (name : Option ℕ) × (being_opened t.h id ≡ Some name) × (named t.h name ≡ Some s)
    m = name-of side log t id s e

    left : (n : ℕ) (xs : List ℕ) → n < length xs → is_nothing (drop n xs) ≡ false
    left n [] l = absurd (omega (arith, l))
    left zero (x ∷ xs) l = refl
    left (suc n) (x ∷ xs) l = left n xs (omega (arith, l))
