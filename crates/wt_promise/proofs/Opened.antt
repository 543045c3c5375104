-- Streams that this end opens: a session's is new, and never its control stream nor a client's request.
use Rattle.std.specs.Prelude.{[], ◌++◌, ◌+◌, ◌==◌, ◌||◌, ◌∷◌, ◌≡◌, ◌≤◌, Bool, List, Option, Some, drop, false, if◌then◌else◌, length, nat_le, not, take, true, ℕ}
use Rattle.std.specs.List.{list_any}
use Rattle.std.proofs.Common.{◌∙◌, ap, arith, refl, subst, sym}
use Rattle.std.proofs.lemmas.Bool.{eq-eqb, eqb-true, leb-false, leb-true}
use Rattle.wt_meaning.specs.Calls.{in_session, open_stream}
use Rattle.wt_message.specs.FixedBytes.{local_control_bytes}
use Rattle.wt_meaning.specs.History.{History, Pair, actions_out, credit_left, ends_by, events, is_open, loses, may_open, next_id, out}
use Rattle.wt_meaning.specs.Meaning.{next, own_answer, with_pair}
use Rattle.wt_meaning.specs.Moments.{findings}
use Rattle.wt_meaning.specs.Rows.{first_row}
use Rattle.wt_meaning.specs.Sends.{action_if, actions_for_all, control_actions, moment_actions}
use Rattle.wt_meaning.specs.Windows.{is_gone, named}
use Rattle.wt_promise.proofs.Actions.{any-next, opened, opened-append, opened-join, opened-out}
use Rattle.wt_promise.proofs.Tables.{by-row, by-session, no-row}
use Rattle.wt_promise.specs.Promise.{IsHistory}
use Rattle.wt_turn.specs.Joined.{join_all, send_of}
use Rattle.wt_turn.specs.Reports.{unis_allowed}
use Rattle.wt_turn.specs.Streams.{local_count, local_uni, one_more_if, opens}
use Rattle.wt_turn.specs.Log.{closes}
use Rattle.wt_turn.specs.declared.action.Action.{Action}
use Rattle.wt_turn.specs.declared.answer.Answer.{Answer}
use Rattle.wt_turn.specs.declared.turn.Turn.{Turn}
use Rattle.wt_wire.specs.declared.side.Side.{Side}
use Rattle.wt_wire.specs.declared.side.Side.TheVariants.{Client, Server}
use Rattle.wt_turn.specs.declared.action.Action.TheVariants as actions
use Rattle.wt_turn.specs.declared.reply.Reply.TheVariants as replies

-- ---- pairs

abbrev pub pair-of : Turn → Answer → Pair
pair-of turn a = record { turn = turn; answer = a }

-- a pair is its turn and its answer
pub pair-is : (p : Pair) (a : Answer) → p.answer ≡ a → pair-of p.turn a ≡ p
pair-is p a e = ap (pair-of p.turn) (sym e)

-- ---- an open connection after the whole answer was open after the call's own actions

pub open-own : (side : Side) (h : History) (turn : Turn) → is_open (with_pair h turn (next side h turn)) ≡ true → is_open (with_pair h turn (own_answer side h turn)) ≡ true
open-own side h turn e = by (loses turn) (list_any closes (own_answer side h turn).actions) (list_any ends_by h) (let r = rw (any-next closes (λ i p q. refl) side h turn) at e in r)
  where
    by : (l c x : Bool) → not ((l || (c || list_any closes (moment_actions side (with_pair h turn (own_answer side h turn))))) || x) ≡ true → not ((l || c) || x) ≡ true
    by true c x q = absurd (cc q)
    by false true x q = absurd (cc q)
    by false false true q = absurd (shut (list_any closes (moment_actions side (with_pair h turn (own_answer side h turn)))) q)
      where
        shut : (b : Bool) → not (b || true) ≡ true → ⊥
        shut true r = cc r
        shut false r = cc r
    by false false false q = refl

-- what was open before
pub open-before : (p : Pair) (h : History) → is_open (p ∷ h) ≡ true → is_open h ≡ true
open-before p h e = by (ends_by p) (list_any ends_by h) e
  where
    by : (a b : Bool) → not (a || b) ≡ true → not b ≡ true
    by true b q = absurd (cc q)
    by false b q = q

-- ---- how many streams an answer opens

pub opened-all : (side : Side) (h : History) (turn : Turn) (kind : ℕ)
    → local_count (actions_out (with_pair h turn (next side h turn))) kind
    ≡ opened kind (own_answer side h turn).actions + opened kind (moment_actions side (with_pair h turn (own_answer side h turn))) + local_count (actions_out h) kind
opened-all side h turn kind =
    let own : List Action = (own_answer side h turn).actions in
    let moment : List Action = moment_actions side (with_pair h turn (own_answer side h turn)) in
    let all = opened-out kind (join_all [] (own ++ moment)) (actions_out h) in
    let joined = opened-join kind [] (own ++ moment) in
    let parts = opened-append kind own moment in omega (arith, all, joined, parts)

-- ---- this end's control stream

-- what goes out on it at an open moment
pub moment-open : (side : Side) (p : Pair) (h : History) → is_open (p ∷ h) ≡ true → nat_le 1 (unis_allowed (events (p ∷ h))) ≡ true
    → moment_actions side (p ∷ h)
    ≡ ((action_if (local_count (actions_out (p ∷ h)) (local_uni side) == 0) (actions.Opened (local_uni side))
    ++ send_of (local_uni side) (take (credit_left (p ∷ h) (local_uni side)) (drop (length (out (p ∷ h) (local_uni side))) local_control_bytes)))
    ++ actions_for_all side (p ∷ h) (findings side h) (drop (length (findings side h)) (findings side (p ∷ h))))
moment-open side p h o u =
    ap (λ (b : Bool). if b then control_actions side (p ∷ h) ++ actions_for_all side (p ∷ h) (findings side h) (drop (length (findings side h)) (findings side (p ∷ h))) else []) o
    ∙ ap (λ (b : Bool). (if b then action_if (local_count (actions_out (p ∷ h)) (local_uni side) == 0) (actions.Opened (local_uni side))
    ++ send_of (local_uni side) (take (credit_left (p ∷ h) (local_uni side)) (drop (length (out (p ∷ h) (local_uni side))) local_control_bytes)) else [])
    ++ actions_for_all side (p ∷ h) (findings side h) (drop (length (findings side h)) (findings side (p ∷ h)))) u

not-zero : (n : ℕ) → 1 ≤ n → (n == 0) ≡ false
not-zero n l = by (n == 0) refl
  where
    by : (b : Bool) → (n == 0) ≡ b → b ≡ false
    by true e = absurd (omega (arith, l, eqb-true n 0 e))
    by false e = refl

pub at-least-one : (n : ℕ) → (n == 0) ≡ false → 1 ≤ n
at-least-one n e = by (nat_le 1 n) refl
  where
    by : (b : Bool) → nat_le 1 n ≡ b → 1 ≤ n
    by true q = leb-true 1 n q
    by false q = absurd (let z : n ≡ 0 = omega (arith, leb-false 1 n q) in let r : true ≡ false = sym (eq-eqb n 0 z) ∙ e in cc r)

own-kind : (side : Side) → opens (local_uni side) (actions.Opened (local_uni side)) ≡ true
own-kind Client = refl
own-kind Server = refl

-- it is open after each turn that leaves the connection open but for what is found, where the peer allows one
pub opened-at : (side : Side) (h : History) (turn : Turn) → is_open (with_pair h turn (own_answer side h turn)) ≡ true → nat_le 1 (unis_allowed (events (with_pair h turn (next side h turn)))) ≡ true
    → (local_count (actions_out (with_pair h turn (next side h turn))) (local_uni side) == 0) ≡ false
opened-at side h turn o u = not-zero (local_count (actions_out (with_pair h turn (next side h turn))) (local_uni side)) (by (local_count (actions_out (with_pair h turn own)) (local_uni side) == 0) refl)
  where
    own : Answer
    own = own_answer side h turn

    q : Pair
    q = record { turn = turn; answer = own }

    all : local_count (actions_out (with_pair h turn (next side h turn))) (local_uni side) ≡ opened (local_uni side) own.actions + opened (local_uni side) (moment_actions side (q ∷ h)) + local_count (actions_out h) (local_uni side)
    all = opened-all side h turn (local_uni side)

    before : local_count (actions_out (q ∷ h)) (local_uni side) ≡ opened (local_uni side) own.actions + local_count (actions_out h) (local_uni side)
    before = opened-out (local_uni side) own.actions (actions_out h)

    by : (b : Bool) → (local_count (actions_out (q ∷ h)) (local_uni side) == 0) ≡ b → 1 ≤ local_count (actions_out (with_pair h turn (next side h turn))) (local_uni side)
    by false e = let n = at-least-one (local_count (actions_out (q ∷ h)) (local_uni side)) e in omega (arith, n, all, before)
    by true e =
        let m = opened-append (local_uni side) (action_if (local_count (actions_out (q ∷ h)) (local_uni side) == 0) (actions.Opened (local_uni side)) ++ send_of (local_uni side) (take (credit_left (q ∷ h) (local_uni side)) (drop (length (out (q ∷ h) (local_uni side))) local_control_bytes)))
        (actions_for_all side (q ∷ h) (findings side h) (drop (length (findings side h)) (findings side (q ∷ h)))) in
        let c = opened-append (local_uni side) (action_if (local_count (actions_out (q ∷ h)) (local_uni side) == 0) (actions.Opened (local_uni side)))
        (send_of (local_uni side) (take (credit_left (q ∷ h) (local_uni side)) (drop (length (out (q ∷ h) (local_uni side))) local_control_bytes))) in
        let first : opened (local_uni side) (action_if (local_count (actions_out (q ∷ h)) (local_uni side) == 0) (actions.Opened (local_uni side))) ≡ 1
        = ap (λ (x : Bool). opened (local_uni side) (action_if x (actions.Opened (local_uni side)))) e ∙ ap (λ (x : Bool). one_more_if x 0) (own-kind side) in
        let now = ap (opened (local_uni side)) (moment-open side q h o u) in
        omega (arith, all, m, c, first, now)

-- so wherever the connection is open
pub control-opened : (side : Side) (h : History) → IsHistory side h → is_open h ≡ true → nat_le 1 (unis_allowed (events h)) ≡ true → (local_count (actions_out h) (local_uni side) == 0) ≡ false
control-opened side [] i o u = absurd (cc u)
control-opened side (p ∷ h) i o u =
    subst (λ (x : Pair). (local_count (actions_out (x ∷ h)) (local_uni side) == 0) ≡ false) same (opened-at side h p.turn (open-own side h p.turn (subst (λ (x : Pair). is_open (x ∷ h) ≡ true) (sym same) o)) u)
  where
    same : pair-of p.turn (next side h p.turn) ≡ p
    same = pair-is p (next side h p.turn) i.1

-- ---- a session's stream that is opened

pub record OpensFor (side : Side) (h : History) (name : Option ℕ) (kind id : ℕ) (a : Answer) : Type 0 where
  pub session : ℕ
  pub of_it : named h name ≡ Some session
  pub may : may_open side h kind ≡ true
  pub is_next : next_id side h kind ≡ id
  pub acts : a.actions ≡ actions.Opened (next_id side h kind) ∷ []

abbrev OpensIf : Side → History → Option ℕ → ℕ → Answer → Type 0
OpensIf side h name kind a = (id : ℕ) → a.reply ≡ replies.Opening id → OpensFor side h name kind id a

pub opens-for : (side : Side) (h : History) (name : Option ℕ) (kind : ℕ) → OpensIf side h name kind (first_row (in_session (named h name) (open_stream side h kind)))
opens-for side h name kind =
    (by-session (OpensIf side h name kind) (named h name) (open_stream side h kind) (λ id e. absurd (cc e))
    (λ s q. by-row (OpensIf side h name kind) (is_gone h (findings side h) s) _ [] _ (λ i id e. absurd (cc e))
    (λ i. by-row (OpensIf side h name kind) (not (is_open h)) _ [] _ (λ j id e. absurd (cc e))
    (λ j. by-row (OpensIf side h name kind) (may_open side h kind) (replies.Opening (next_id side h kind)) _ []
    (λ m id e. record { session = s; of_it = q; may = m; is_next = cc e; acts = refl }) (λ m. no-row (OpensIf side h name kind) (λ id e. absurd (cc e))))))).first
