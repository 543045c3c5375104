-- This end's control stream is open and has as much of its bytes as credit allows, after each turn that leaves the connection open but for what is found.
use Rattle.std.specs.Prelude.{[], ◌&&◌, ◌++◌, ◌+◌, ◌-◌, ◌==◌, ◌^◌, ◌||◌, ◌∷◌, ◌≡◌, ◌≤◌, Bool, List, None, Option, Some, drop, false, if◌then◌else◌, length, nat_le, nat_lt, not, suc, take, true, unwrap_or, zero, ℕ}
use Rattle.std.specs.Option.{option_or}
use Rattle.std.proofs.Common.{◌∙◌, ap, arith, length-append, refl, subst, sym}
use Rattle.std.proofs.lemmas.Bool.{eq-eqb, eqb-true, leb-true}
use Rattle.std.proofs.lemmas.List.{append-nil}
use Rattle.wt_message.specs.FixedBytes.{local_control_bytes}
use Rattle.wt_meaning.specs.History.{History, Pair, actions_out, all_events, can_send, credit_left, events, is_open, out, with_event}
use Rattle.wt_meaning.specs.Lawful.{is_lawful, may_come}
use Rattle.wt_meaning.specs.Meaning.{next, own_answer, with_pair}
use Rattle.wt_meaning.specs.Moments.{findings}
use Rattle.wt_meaning.specs.Sends.{action_if, actions_for_all, control_actions, moment_actions}
use Rattle.wt_promise.proofs.Accepted.{and-left, and-right}
use Rattle.wt_promise.proofs.BytesOut.{bytes-append, bytes_on, none-on, out-add, quiet-all}
use Rattle.wt_promise.proofs.ControlKept.{next-bytes, own-control}
use Rattle.wt_promise.proofs.Flow.{take-on}
use Rattle.wt_promise.proofs.Opened.{moment-open, open-before, opened-at, pair-is}
use Rattle.wt_promise.proofs.Sent.{front-bytes, if-bytes, send-bytes}
use Rattle.wt_promise.proofs.HeadTests.{same-control}
use Rattle.wt_promise.proofs.OwnForms.{SettingsByOwn, leaves_open}
use Rattle.wt_promise.specs.Promise.{IsHistory}
use Rattle.wt_turn.specs.Joined.{send_of}
use Rattle.wt_turn.specs.Reports.{connects, credit, credit_reported, is_connected, unis_allowed}
use Rattle.wt_turn.specs.Streams.{local_count, local_uni}
use Rattle.wt_turn.specs.Log.{Event, newest}
use Rattle.wt_turn.specs.Turns.{event_of}
use Rattle.wt_turn.specs.declared.action.Action.{Action}
use Rattle.wt_turn.specs.declared.answer.Answer.{Answer}
use Rattle.wt_turn.specs.declared.turn.Turn.{Turn}
use Rattle.wt_wire.specs.declared.side.Side.{Side}
use Rattle.wt_turn.specs.declared.action.Action.TheVariants as actions
use Rattle.wt_turn.specs.declared.turn.Turn.TheVariants as turns

-- ---- credit never falls

-- while the connection is open, every event counts
pub open-events : (h : History) → is_open h ≡ true → events h ≡ all_events h
open-events [] o = refl
open-events (p ∷ h) o = by (event_of p.turn) refl (open-events h (open-before p h o))
  where
    before : is_open h ≡ true
    before = open-before p h o

    by : (x : Option Event) → event_of p.turn ≡ x → events h ≡ all_events h → events (p ∷ h) ≡ all_events (p ∷ h)
    by None e again = rw (before, e) again
    by (Some x) e again = rw (before, e) (ap (λ (xs : List Event). x ∷ xs) again)

none-after : (side : Side) (p : Pair) (h : History) → IsHistory side (p ∷ h) → (k : ℕ) → is_connected (all_events (p ∷ h)) ≡ false → (is_connected (all_events h) ≡ false → credit (all_events h) k ≡ 0) → credit (all_events (p ∷ h)) k ≡ 0
none-after side p h i k n again = by p.turn refl i.0
  where
    same : event_of p.turn ≡ None → credit (all_events (p ∷ h)) k ≡ 0
    same e = rw e (again (let r = rw e at n in r))

    late : (x : Event) → event_of p.turn ≡ Some x → is_connected (all_events h) ≡ true → credit (all_events (p ∷ h)) k ≡ 0
    late x e c = absurd (let r = rw e at n in let s = rw c at r in ends (connects x) s)
      where
        ends : (b : Bool) → (b || true) ≡ false → ⊥
        ends true q = cc q
        ends false q = cc q

    first : (a b : Bool) → ((is_connected (all_events h) && a) && b) ≡ true → is_connected (all_events h) ≡ true
    first a b l = and-left (is_connected (all_events h)) a (and-left (is_connected (all_events h) && a) b l)

    by : (turn : Turn) → p.turn ≡ turn → is_lawful side h turn ≡ true → credit (all_events (p ∷ h)) k ≡ 0
    by (turns.Call c) t l = same (ap event_of t)
    by (turns.Bytes id piece) t l = same (ap event_of t)
    by (turns.Connected uni bi total fact) t l = absurd (let r = rw t at n in cc r)
    by (turns.Loss reason) t l = rw t (again (let r = rw t at n in r))
    by turns.PeerUni t l = late _ (ap event_of t) (first _ _ l)
    by turns.PeerBi t l = late _ (ap event_of t) (first _ _ l)
    by (turns.End id) t l = late _ (ap event_of t) (first _ _ l)
    by (turns.Reset id code) t l = late _ (ap event_of t) (first _ _ l)
    by (turns.Stop id code) t l = late _ (ap event_of t) (first _ _ l)
    by (turns.Acked id) t l = late _ (ap event_of t) (first _ _ l)
    by (turns.Datagram piece) t l = late _ (ap event_of t) (first _ _ l)
    by (turns.MaxUni total) t l = late _ (ap event_of t) (first _ _ l)
    by (turns.MaxBi total) t l = late _ (ap event_of t) (first _ _ l)
    by (turns.MaxData id total) t l = late _ (ap event_of t) (first _ _ l)
    by (turns.DatagramLimit fact) t l = late _ (ap event_of t) (first _ _ l)

-- before the connection came there is none
credit-none : (side : Side) (h : History) → IsHistory side h → (k : ℕ) → is_connected (all_events h) ≡ false → credit (all_events h) k ≡ 0
credit-none side [] i k n = refl
credit-none side (p ∷ h) i k n = none-after side p h i k n (credit-none side h i.2 k)

-- what the turn leaves of it
pub credit-grows : (side : Side) (h : History) (turn : Turn) (a : Answer) → IsHistory side h → (k : ℕ) → is_lawful side h turn ≡ true → credit (events h) k ≤ credit (events (with_pair h turn a)) k
credit-grows side h turn a i k l = by (is_open h) refl
  where
    same : credit (with_event (event_of turn) (events h)) k ≡ credit (events h) k → credit (events h) k ≤ credit (with_event (event_of turn) (events h)) k
    same e = omega (arith, e)

    raised : (t : Turn) → is_lawful side h t ≡ true → events h ≡ all_events h → credit (events h) k ≤ credit (with_event (event_of t) (events h)) k
    raised (turns.Connected uni bi total fact) m e =
        let n : is_connected (all_events h) ≡ false = not-connected m in
        let z : credit (events h) k ≡ 0 = ap (λ (es : List Event). credit es k) e ∙ credit-none side h i k n in omega (arith, z)
      where
        not-connected : is_lawful side h (turns.Connected uni bi total fact) ≡ true → is_connected (all_events h) ≡ false
        not-connected q = by-parts _ (is_connected (all_events h)) _ _ _ _ q
          where
            by-parts : (a b c d f g : Bool) → (((((a && not b) && c) && d) && f) && g) ≡ true → b ≡ false
            by-parts a false c d f g r = refl
            by-parts false true c d f g r = absurd (cc r)
            by-parts true true c d f g r = absurd (cc r)
    raised (turns.MaxData id total) m e = given (id == k) refl
      where
        given : (b : Bool) → (id == k) ≡ b → credit (events h) k ≤ unwrap_or (option_or (if b then Some total else None) (newest (credit_reported k) (events h))) 0
        given false q = omega arith
        given true q =
            let n : nat_le (credit (all_events h) id) total ≡ true = and-right (can_send side h id) _ (and-left (can_send side h id && nat_le (credit (all_events h) id) total) (nat_lt total (2 ^ 62)) (and-right _ (may_come side h (turns.MaxData id total)) m)) in
            let o = leb-true (credit (all_events h) id) total n in
            let z : credit (events h) k ≡ credit (all_events h) id = ap (λ (es : List Event). credit es k) e ∙ ap (credit (all_events h)) (sym (eqb-true id k q)) in omega (arith, o, z)
    raised t m e = omega arith

    by : (b : Bool) → is_open h ≡ b → credit (events h) k ≤ credit (if b then with_event (event_of turn) (events h) else events h) k
    by false o = omega arith
    by true o = raised turn l (open-events h o)

-- ---- lists

pub take-split : (a b : ℕ) (xs : List ℕ) → take a xs ++ take b (drop a xs) ≡ take (a + b) xs
take-split zero b xs = let e : 0 + b ≡ b = omega arith in rw e refl
take-split (suc a) b [] = none b ∙ sym (none (suc a + b))
  where
    nil : List ℕ
    nil = []

    none : (n : ℕ) → take n nil ≡ nil
    none zero = refl
    none (suc n) = refl
take-split (suc a) b (x ∷ xs) = let e : suc a + b ≡ suc (a + b) = omega arith in rw e (ap (λ (ys : List ℕ). x ∷ ys) (take-split a b xs))

pub take-short : (n : ℕ) (xs : List ℕ) → length (take n xs) ≤ n
take-short zero xs = omega arith
take-short (suc n) [] = omega arith
take-short (suc n) (x ∷ xs) = let e = take-short n xs in omega (arith, e)

-- ---- what a moment sends on it

control-moment : (side : Side) (p : Pair) (h : History) → is_open (p ∷ h) ≡ true → nat_le 1 (unis_allowed (events (p ∷ h))) ≡ true
    → bytes_on (local_uni side) (moment_actions side (p ∷ h)) ≡ take (credit_left (p ∷ h) (local_uni side)) (drop (length (out (p ∷ h) (local_uni side))) local_control_bytes)
control-moment side p h o u =
    ap (bytes_on (local_uni side)) (moment-open side p h o u)
    ∙ front-bytes (local_uni side) (action_if (local_count (actions_out (p ∷ h)) (local_uni side) == 0) (actions.Opened (local_uni side)) ++ send_of (local_uni side) piece) new
    (none-on (local_uni side) new (quiet-all (local_uni side) side (p ∷ h) (findings side h) (drop (length (findings side h)) (findings side (p ∷ h)))))
    ∙ bytes-append (local_uni side) (action_if (local_count (actions_out (p ∷ h)) (local_uni side) == 0) (actions.Opened (local_uni side))) (send_of (local_uni side) piece)
    ∙ ap (λ (xs : List ℕ). xs ++ bytes_on (local_uni side) (send_of (local_uni side) piece)) (if-bytes (local_uni side) (local_count (actions_out (p ∷ h)) (local_uni side) == 0) (actions.Opened (local_uni side)) refl)
    ∙ send-bytes (local_uni side) (local_uni side) piece ∙ ap (λ (b : Bool). if b then piece else []) (eq-eqb (local_uni side) (local_uni side) refl)
  where
    piece : List ℕ
    piece = take (credit_left (p ∷ h) (local_uni side)) (drop (length (out (p ∷ h) (local_uni side))) local_control_bytes)

    new : List Action
    new = actions_for_all side (p ∷ h) (findings side h) (drop (length (findings side h)) (findings side (p ∷ h)))

no-moment : (side : Side) (p : Pair) (h : History) (o u : Bool) → is_open (p ∷ h) ≡ o → nat_le 1 (unis_allowed (events (p ∷ h))) ≡ u → (o && u) ≡ false → bytes_on (local_uni side) (moment_actions side (p ∷ h)) ≡ []
no-moment side p h true true a b e = absurd (cc e)
no-moment side p h false u a b e = ap (λ (x : Bool). bytes_on (local_uni side) (if x then control_actions side (p ∷ h) ++ new else [])) a
  where
    new : List Action
    new = actions_for_all side (p ∷ h) (findings side h) (drop (length (findings side h)) (findings side (p ∷ h)))
no-moment side p h true false a b e =
    ap (λ (x : Bool). bytes_on (local_uni side) (if x then control_actions side (p ∷ h) ++ new else [])) a
    ∙ ap (λ (x : Bool). bytes_on (local_uni side) ((if x then action_if (local_count (actions_out (p ∷ h)) (local_uni side) == 0) (actions.Opened (local_uni side))
    ++ send_of (local_uni side) (take (credit_left (p ∷ h) (local_uni side)) (drop (length (out (p ∷ h) (local_uni side))) local_control_bytes)) else []) ++ new)) b
    ∙ none-on (local_uni side) new (quiet-all (local_uni side) side (p ∷ h) (findings side h) (drop (length (findings side h)) (findings side (p ∷ h))))
  where
    new : List Action
    new = actions_for_all side (p ∷ h) (findings side h) (drop (length (findings side h)) (findings side (p ∷ h)))

-- ---- every history

pub record ControlOut (side : Side) (h : History) : Type 0 where
  pub front : take (length (out h (local_uni side))) local_control_bytes ≡ out h (local_uni side)
  pub below : length (out h (local_uni side)) ≤ credit (events h) (local_uni side)

record After (side : Side) (h : History) (turn : Turn) : Type 0 where
  kept : ControlOut side (with_pair h turn (next side h turn))
  sent : leaves_open side h turn ≡ true → nat_le 1 (unis_allowed (events (with_pair h turn (next side h turn)))) ≡ true
      → out (with_pair h turn (next side h turn)) (local_uni side) ≡ take (credit (events (with_pair h turn (next side h turn))) (local_uni side)) local_control_bytes

after : (side : Side) (h : History) (turn : Turn) → IsHistory side h → is_lawful side h turn ≡ true → ControlOut side h → After side h turn
after side h turn i l f = by (is_open (q ∷ h)) (nat_le 1 (unis_allowed (events (q ∷ h)))) refl refl
  where
    k : ℕ
    k = local_uni side

    q : Pair
    q = record { turn = turn; answer = own_answer side h turn }

    p : Pair
    p = record { turn = turn; answer = next side h turn }

    grows : credit (events h) k ≤ credit (events (p ∷ h)) k
    grows = credit-grows side h turn (next side h turn) i k l

    went : out (p ∷ h) k ≡ out h k ++ bytes_on k (moment_actions side (q ∷ h))
    went = out-add p h k ∙ ap (λ (xs : List ℕ). out h k ++ xs) (next-bytes side h turn k ∙ ap (λ (xs : List ℕ). xs ++ bytes_on k (moment_actions side (q ∷ h))) (own-control side h turn i l))

    own-out : out (q ∷ h) k ≡ out h k
    own-out = out-add q h k ∙ ap (λ (xs : List ℕ). out h k ++ xs) (own-control side h turn i l) ∙ append-nil (out h k)

    quiet : (o u : Bool) → is_open (q ∷ h) ≡ o → nat_le 1 (unis_allowed (events (q ∷ h))) ≡ u → (o && u) ≡ false → After side h turn
    quiet o u a b e = record {
      kept = record { front = rw same f.front; below = rw same (let n = f.below in omega (arith, n, grows)) };
      sent = λ x y. absurd (let r : (true && true) ≡ false = ap (λ (z : Bool). z && true) (sym x ∙ a) ∙ ap (λ (z : Bool). o && z) (sym y ∙ b) ∙ e in cc r);
    }
      where
        same : out (p ∷ h) k ≡ out h k
        same = went ∙ ap (λ (xs : List ℕ). out h k ++ xs) (no-moment side q h o u a b e) ∙ append-nil (out h k)

    busy : is_open (q ∷ h) ≡ true → nat_le 1 (unis_allowed (events (q ∷ h))) ≡ true → After side h turn
    busy a b = record {
      kept = record {
        front = rw now (subst (λ (x : List ℕ). take (length (x ++ piece)) local_control_bytes ≡ x ++ piece) f.front (sym (take-on (length (out h k)) local_control_bytes left)));
        below = rw (now, length-append (out h k) piece) (let n = f.below in let m = take-short left (drop (length (out h k)) local_control_bytes) in omega (arith, n, m, grows));
      };
      sent = λ x y. now ∙ ap (λ (xs : List ℕ). xs ++ piece) (sym f.front) ∙ take-split (length (out h k)) left local_control_bytes
          ∙ ap (λ (n : ℕ). take n local_control_bytes) (let n = f.below in omega (arith, n, grows));
    }
      where
        left : ℕ
        left = credit (events (p ∷ h)) k - length (out h k)

        piece : List ℕ
        piece = take left (drop (length (out h k)) local_control_bytes)

        now : out (p ∷ h) k ≡ out h k ++ piece
        now = went ∙ ap (λ (xs : List ℕ). out h k ++ xs) (control-moment side q h a b ∙ ap (λ (xs : List ℕ). take (credit (events (q ∷ h)) k - length xs) (drop (length xs) local_control_bytes)) own-out)

    by : (o u : Bool) → is_open (q ∷ h) ≡ o → nat_le 1 (unis_allowed (events (q ∷ h))) ≡ u → After side h turn
    by true true a b = busy a b
    by true false a b = quiet true false a b refl
    by false u a b = quiet false u a b refl

pub control-out : (side : Side) (h : History) → IsHistory side h → ControlOut side h
control-out side [] i = record { front = refl; below = omega arith }
control-out side (p ∷ h) i = subst (λ (q : Pair). ControlOut side (q ∷ h)) (pair-is p (next side h p.turn) i.1) (after side h p.turn i.2 i.0 (control-out side h i.2)).kept

pub settings-go-out : (side : Side) (h : History) (turn : Turn) → IsHistory side h → is_lawful side h turn ≡ true → SettingsByOwn side h turn (next side h turn)
settings-go-out side h turn i l o u = record { stream = opened-at side h turn o u; sent = (after side h turn i l (control-out side h i)).sent o u ∙ ap (take (credit (events (with_pair h turn (next side h turn))) (local_uni side))) same-control }
