-- What is known of a stream that a call opened: it is there, its session is established, it is neither this end's control stream nor a client's request.
use Rattle.std.specs.Prelude.{[], ◌%◌, ◌*◌, ◌++◌, ◌+◌, ◌/◌, ◌<◌, ◌==◌, ◌∷◌, ◌≡◌, ◌≤◌, Bool, List, None, Option, Some, false, if◌then◌else◌, not, true, ℕ}
use Rattle.std.specs.Option.{option_or}
use Rattle.std.proofs.Common.{◌∙◌, ap, arith, refl, subst, sym}
use Rattle.std.proofs.lemmas.Bool.{eq-eqb, eqb-true, le-leb, lt-ltb, ltb-true}
use Rattle.wt_meaning.specs.Calls.{opened_by}
use Rattle.wt_meaning.specs.Findings.{first_of}
use Rattle.wt_meaning.specs.Handshakes.{head_left, is_opened, last_begun, poll_rows, send}
use Rattle.wt_meaning.specs.History.{History, Pair, actions_out, events, exists, is_open, may_open, next_id, stream_count}
use Rattle.wt_meaning.specs.Lawful.{is_first, is_lawful}
use Rattle.wt_meaning.specs.Meaning.{next, own_answer, with_pair}
use Rattle.wt_meaning.specs.Rows.{first_row}
use Rattle.wt_meaning.specs.Sends.{action_if}
use Rattle.wt_meaning.specs.Windows.{is_established, named, session_in}
use Rattle.wt_promise.proofs.OwnForms.{head_of}
use Rattle.wt_promise.proofs.Accepted.{and-left, and-right}
use Rattle.wt_promise.proofs.Asks.{begun-kind}
use Rattle.wt_promise.proofs.Actions.{opened, opened-append, opened-out}
use Rattle.wt_promise.proofs.Few.{APoll, AnAccept, SessionCall, session-call}
use Rattle.wt_promise.proofs.Opened.{OpensFor, at-least-one, control-opened, opened-all, opens-for, pair-is}
use Rattle.wt_promise.proofs.Phases.{same-established}
use Rattle.wt_promise.proofs.Sessions.{Accepted, Connected, PollGives, is_connect, poll-gives}
use Rattle.wt_promise.proofs.Stays.{exists-stays, named-stays, peers-stay}
use Rattle.wt_promise.proofs.Tables.{fits-own}
use Rattle.wt_promise.proofs.Waiting.{named-established}
use Rattle.wt_promise.specs.Promise.{IsHistory}
use Rattle.wt_turn.specs.Reports.{unis_allowed}
use Rattle.wt_turn.specs.Streams.{local_bi, local_count, local_uni, one_more_if}
use Rattle.wt_turn.specs.declared.answer.Answer.{Answer}
use Rattle.wt_turn.specs.declared.call.Call.{Call}
use Rattle.wt_turn.specs.declared.reply.Reply.{Reply}
use Rattle.wt_turn.specs.declared.turn.Turn.{Turn}
use Rattle.wt_wire.specs.declared.side.Side.{Side}
use Rattle.wt_wire.specs.declared.side.Side.TheVariants.{Client, Server}
use Rattle.wt_turn.specs.declared.action.Action.TheVariants as actions
use Rattle.wt_turn.specs.declared.call.Call.TheVariants as calls
use Rattle.wt_turn.specs.declared.reply.Reply.TheVariants as replies
use Rattle.wt_turn.specs.declared.turn.Turn.TheVariants as turns

-- ---- a client's session stands on its stream 0

one-opened : (h : History) (bytes : List ℕ) → 1 ≤ opened 0 (action_if (not (is_opened h)) (actions.Opened 0) ++ send h 0 bytes) + local_count (actions_out h) 0
one-opened h bytes = by (local_count (actions_out h) 0 == 0) refl
  where
    by : (b : Bool) → (local_count (actions_out h) 0 == 0) ≡ b → 1 ≤ opened 0 (action_if (not (is_opened h)) (actions.Opened 0) ++ send h 0 bytes) + local_count (actions_out h) 0
    by false e = let n = at-least-one (local_count (actions_out h) 0) e in omega (arith, n)
    by true e =
        let a = opened-append 0 (action_if (not (is_opened h)) (actions.Opened 0)) (send h 0 bytes) in
        let b : opened 0 (action_if (not (is_opened h)) (actions.Opened 0)) ≡ 1 = ap (λ (x : Bool). opened 0 (action_if (not (not x)) (actions.Opened 0))) e in omega (arith, a, b)

-- a client begins a connect alone
pub client-begun : (h : History) → IsHistory Client h → (c : Call) → last_begun h ≡ Some c → is_connect c ≡ true
client-begun h i c e = begun-kind Client h i c e

-- the answer that gives it opened the stream, or it was open
session-opens : (h : History) (s : ℕ) (turn : Turn) → IsHistory Client h → is_lawful Client h turn ≡ true → session_in (next Client h turn).reply ≡ Some s
    → 1 ≤ opened 0 (own_answer Client h turn).actions + local_count (actions_out h) 0
session-opens h s (turns.Call c) i l e = by c (session-call c (next Client h (turns.Call c)).reply s (fits-own Client h c) e) l e
  where
    of : (o : Option Call) → last_begun h ≡ o → PollGives Client h s (first_row (poll_rows Client h o)) o → 1 ≤ opened 0 (first_row (poll_rows Client h o)).actions + local_count (actions_out h) 0
    of o q (Accepted headers m g) = absurd (let r = client-begun h i (calls.Accept headers) (q ∙ m) in cc r)
    of o q (Connected d m r g) = rw g.acts (one-opened h (head_left h 0 (head_of (Some d))))

    by : (d : Call) → SessionCall d → is_lawful Client h (turns.Call d) ≡ true → session_in (next Client h (turns.Call d)).reply ≡ Some s → 1 ≤ opened 0 (own_answer Client h (turns.Call d)).actions + local_count (actions_out h) 0
    by d (AnAccept headers q) m f = absurd (let n = and-right (not (is_first h)) false (ap (λ (x : Call). is_lawful Client h (turns.Call x)) (sym q) ∙ m) in cc n)
    by d (APoll q) m f =
        subst (λ (x : Call). 1 ≤ opened 0 (own_answer Client h (turns.Call x)).actions + local_count (actions_out h) 0) (sym q)
        (of (last_begun h) refl (poll-gives Client h (last_begun h) s (ap (λ (x : Call). session_in (next Client h (turns.Call x)).reply) (sym q) ∙ f)))
session-opens h s turn i l e = absurd (cc e)

-- so that an established session has it
pub established-opened : (h : History) → IsHistory Client h → (s : ℕ) → is_established h s ≡ true → 1 ≤ local_count (actions_out h) 0
established-opened [] i s e = absurd (cc e)
established-opened (p ∷ h) i s e = by (session_in p.answer.reply) refl (established-opened h i.2 s)
  where
    by : (o : Option ℕ) → session_in p.answer.reply ≡ o → (is_established h s ≡ true → 1 ≤ local_count (actions_out h) 0) → 1 ≤ local_count (actions_out (p ∷ h)) 0
    by None q again = let a = opened-out 0 p.answer.actions (actions_out h) in let b = again (sym (same-established p h s q) ∙ e) in omega (arith, a, b)
    by (Some t) q again =
        let a = opened-all Client h p.turn 0 in let b = session-opens h t p.turn i.2 i.0 (ap (λ (x : Answer). session_in x.reply) (sym i.1) ∙ q) in
        let c : 1 ≤ local_count (actions_out (with_pair h p.turn (next Client h p.turn))) 0 = omega (arith, a, b) in rw i.1 c

-- ---- a stream that was opened

pub record WasOpened (side : Side) (h : History) (k : ℕ) (name : Option ℕ) : Type 0 where
  pub there : exists side h k ≡ true
  pub session : ℕ
  pub of_it : named h name ≡ Some session
  pub not_control : (k == local_uni side) ≡ false
  pub not_request : side ≡ Client → (k == 0) ≡ false

-- the call that opens it
pub data OpenTurn (k : ℕ) (name : Option ℕ) (turn : Turn) (r : Reply) : Type 0 where
  Uni : (id : ℕ) → id ≡ k → turn ≡ turns.Call (calls.OpenUni name) → r ≡ replies.Opening id → OpenTurn k name turn r
  Bi : (id : ℕ) → id ≡ k → turn ≡ turns.Call (calls.OpenBi name) → r ≡ replies.Opening id → OpenTurn k name turn r

pub open-turn : (k : ℕ) (name : Option ℕ) (turn : Turn) (r : Reply) → opened_by k turn r ≡ Some name → OpenTurn k name turn r
open-turn k name (turns.Call (calls.OpenUni n)) (replies.Opening id) e = by (id == k) refl e
  where
    by : (b : Bool) → (id == k) ≡ b → (if b then Some n else None) ≡ Some name → OpenTurn k name (turns.Call (calls.OpenUni n)) (replies.Opening id)
    by true q s = let same : n ≡ name = cc s in Uni id (eqb-true id k q) (ap (λ (m : Option ℕ). turns.Call (calls.OpenUni m)) same) refl
    by false q s = absurd (cc s)
open-turn k name (turns.Call (calls.OpenBi n)) (replies.Opening id) e = by (id == k) refl e
  where
    by : (b : Bool) → (id == k) ≡ b → (if b then Some n else None) ≡ Some name → OpenTurn k name (turns.Call (calls.OpenBi n)) (replies.Opening id)
    by true q s = let same : n ≡ name = cc s in Bi id (eqb-true id k q) (ap (λ (m : Option ℕ). turns.Call (calls.OpenBi m)) same) refl
    by false q s = absurd (cc s)
open-turn k name turn r e = absurd (cc e)

-- the n-th stream of a kind
pub nth-of : (n kind : ℕ) → kind < 4 → ((4 * n + kind) / 4 ≡ n) × ((4 * n + kind) % 4 ≡ kind)
nth-of n kind l = (omega arith, omega arith)

not-same : (a b : ℕ) → (a ≡ b → ⊥) → (a == b) ≡ false
not-same a b f = by (a == b) refl
  where
    by : (x : Bool) → (a == b) ≡ x → x ≡ false
    by true q = absurd (f (eqb-true a b q))
    by false q = refl

-- where one more may be opened, the control stream is open
control-first : (side : Side) (h : History) → IsHistory side h → may_open side h (local_uni side) ≡ true → 1 ≤ local_count (actions_out h) (local_uni side)
control-first Client h i m =
    at-least-one (local_count (actions_out h) 2) (control-opened Client h i (and-left (is_open h) _ m) (le-leb 1 (unis_allowed (events h)) (let l = ltb-true (stream_count Client h 2) (unis_allowed (events h)) (and-right (is_open h) _ m) in omega (arith, l))))
control-first Server h i m =
    at-least-one (local_count (actions_out h) 3) (control-opened Server h i (and-left (is_open h) _ m) (le-leb 1 (unis_allowed (events h)) (let l = ltb-true (stream_count Server h 3) (unis_allowed (events h)) (and-right (is_open h) _ m) in omega (arith, l))))

-- the new stream is there
opened-there : (side : Side) (h : History) (turn : Turn) (kind : ℕ) → kind < 4 → (own_answer side h turn).actions ≡ actions.Opened (next_id side h kind) ∷ [] → exists side (with_pair h turn (next side h turn)) (next_id side h kind) ≡ true
opened-there side h turn kind l acts =
    let n = nth-of (stream_count side h kind) kind l in
    let a = opened-all side h turn kind in
    let b : opened kind (own_answer side h turn).actions ≡ 1 = ap (opened kind) acts ∙ ap (λ (x : Bool). one_more_if x 0) (eq-eqb ((4 * stream_count side h kind + kind) % 4) kind n.1) in
    let c = peers-stay side (record { turn = turn; answer = next side h turn }) h kind in
    lt-ltb (next_id side h kind / 4) (stream_count side (with_pair h turn (next side h turn)) (next_id side h kind % 4)) (rw (n.0, n.1) (omega (arith, a, b, c)))

opened-new : (side : Side) (h : History) (turn : Turn) (name : Option ℕ) (kind id k : ℕ) → kind < 4 → IsHistory side h → OpensFor side h name kind id (own_answer side h turn) → id ≡ k → (next_id side h kind ≡ local_uni side → ⊥)
    → (side ≡ Client → next_id side h kind ≡ 0 → ⊥) → WasOpened side (with_pair h turn (next side h turn)) k name
opened-new side h turn name kind id k l i o e control zero = rw (sym (o.is_next ∙ e)) (record {
  there = opened-there side h turn kind l o.acts;
  session = o.session;
  of_it = named-stays (record { turn = turn; answer = next side h turn }) h name o.session o.of_it;
  not_control = not-same (next_id side h kind) (local_uni side) control;
  not_request = λ c. not-same (next_id side h kind) 0 (zero c);
})

uni-new : (side : Side) (h : History) (name : Option ℕ) (id k : ℕ) → IsHistory side h → OpensFor side h name (local_uni side) id (own_answer side h (turns.Call (calls.OpenUni name))) → id ≡ k
    → WasOpened side (with_pair h (turns.Call (calls.OpenUni name)) (next side h (turns.Call (calls.OpenUni name)))) k name
uni-new Client h name id k i o e =
    opened-new Client h (turns.Call (calls.OpenUni name)) name 2 id k (omega arith) i o e (λ q. let n = control-first Client h i o.may in absurd (omega (arith, q, n))) (λ c q. absurd (omega (arith, q)))
uni-new Server h name id k i o e =
    opened-new Server h (turns.Call (calls.OpenUni name)) name 3 id k (omega arith) i o e (λ q. let n = control-first Server h i o.may in absurd (omega (arith, q, n))) (λ c q. absurd (omega (arith, q)))

bi-new : (side : Side) (h : History) (name : Option ℕ) (id k : ℕ) → IsHistory side h → OpensFor side h name (local_bi side) id (own_answer side h (turns.Call (calls.OpenBi name))) → id ≡ k
    → WasOpened side (with_pair h (turns.Call (calls.OpenBi name)) (next side h (turns.Call (calls.OpenBi name)))) k name
bi-new Client h name id k i o e =
    opened-new Client h (turns.Call (calls.OpenBi name)) name 0 id k (omega arith) i o e (λ q. absurd (omega (arith, q)))
    (λ c q. let n = established-opened h i o.session (named-established h name o.session o.of_it) in absurd (omega (arith, q, n)))
bi-new Server h name id k i o e =
    opened-new Server h (turns.Call (calls.OpenBi name)) name 1 id k (omega arith) i o e (λ q. absurd (omega (arith, q))) (λ c q. absurd (omega (arith, q)))

pub was-opened : (side : Side) (h : History) → IsHistory side h → (k : ℕ) (name : Option ℕ) → first_of (λ (p : Pair). opened_by k p.turn p.answer.reply) h ≡ Some name → WasOpened side h k name
was-opened side [] i k name e = absurd (cc e)
was-opened side (p ∷ h) i k name e = by (opened_by k p.turn p.answer.reply) refl e (was-opened side h i.2 k name)
  where
    stays : WasOpened side h k name → WasOpened side (p ∷ h) k name
    stays w = record {
      there = exists-stays side p h k w.there;
      session = w.session;
      of_it = named-stays p h name w.session w.of_it;
      not_control = w.not_control;
      not_request = w.not_request;
    }

    here : (turn : Turn) → OpenTurn k name turn (next side h turn).reply → WasOpened side (with_pair h turn (next side h turn)) k name
    here turn (Uni id q t r) = rw t (uni-new side h name id k i.2 (opens-for side h name (local_uni side) id (ap (λ (x : Turn). (next side h x).reply) (sym t) ∙ r)) q)
    here turn (Bi id q t r) = rw t (bi-new side h name id k i.2 (opens-for side h name (local_bi side) id (ap (λ (x : Turn). (next side h x).reply) (sym t) ∙ r)) q)

    by : (o : Option (Option ℕ)) → opened_by k p.turn p.answer.reply ≡ o → option_or o (first_of (λ (q : Pair). opened_by k q.turn q.answer.reply) h) ≡ Some name
        → (first_of (λ (q : Pair). opened_by k q.turn q.answer.reply) h ≡ Some name → WasOpened side h k name) → WasOpened side (p ∷ h) k name
    by None q r again = stays (again r)
    by (Some n) q r again =
        let same : n ≡ name = cc r in
        let w = here p.turn (open-turn k name p.turn (next side h p.turn).reply (ap (λ (a : Answer). opened_by k p.turn a.reply) (sym i.1) ∙ q ∙ ap (λ (m : Option ℕ). Some m) same)) in
        subst (λ (x : Pair). WasOpened side (x ∷ h) k name) (pair-is p (next side h p.turn) i.1) w
