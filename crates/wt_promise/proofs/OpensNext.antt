-- The streams that an answer opens are the next ones of their kind.
use Rattle.wt_promise.proofs.Statements.{OpensInOrder}
use Rattle.std.specs.Prelude.{[], ◌%◌, ◌*◌, ◌++◌, ◌+◌, ◌<◌, ◌==◌, ◌∷◌, ◌||◌, ◌≡◌, Bool, List, None, Some, drop, false, filter_map, if◌then◌else◌, is_some, length, nat_le, not, suc, take, true, zero, ℕ}
use Rattle.std.specs.List.{cons_option, list_any}
use Rattle.std.proofs.Common.{◌∙◌, ap, append_assoc, arith, refl, subst, sym}
use Rattle.std.proofs.lemmas.Bool.{eq-eqb, eqb-true}
use Rattle.std.proofs.lemmas.List.{append-nil}
use Rattle.std.proofs.lemmas.List.Elements.{filter_map-append}
use Rattle.wt_message.specs.FixedBytes.{local_control_bytes}
use Rattle.wt_meaning.specs.Calls.{stream_header}
use Rattle.wt_meaning.specs.Handshakes.{head_left, is_opened, send}
use Rattle.wt_meaning.specs.History.{History, Pair, actions_out, all_events, credit_left, events, is_open, next_id, out, stream_count}
use Rattle.wt_meaning.specs.Lawful.{is_lawful, polls}
use Rattle.wt_meaning.specs.Meaning.{next, own_answer}
use Rattle.wt_meaning.specs.Moments.{findings, ids_from}
use Rattle.wt_meaning.specs.Sends.{action_if, actions_for_all, close_if_open, moment_actions, session_finish, session_gone_actions}
use Rattle.wt_promise.proofs.Actions.{none-append, none-gone, none-if, none-sent, opened, opened-out, opens-none}
use Rattle.wt_promise.proofs.AllFound.{none-opened}
use Rattle.wt_promise.proofs.Asks.{BegunKind}
use Rattle.wt_promise.proofs.Begun.{polled-stream}
use Rattle.wt_promise.proofs.Fresh.{nth-of}
use Rattle.wt_promise.proofs.Shakes.{Finishes, Goes, GoesShuts, Rejects, Shake, Shut, Shuts, Still, head_stream, rest}
use Rattle.wt_promise.proofs.Shapes.{Alone, Ending, Finishing, Handshaking, Next, NextOpened, Nothing, Nought, Polling, Resetting, Shape, Writing, going, opens-some, shape}
use Rattle.wt_promise.proofs.OwnForms.{head_of}
use Rattle.wt_promise.specs.Promise.{IsHistory}
use Rattle.wt_promise.specs.Sides.{opens_of}
use Rattle.wt_turn.specs.Joined.{join_all, join_one, send_of}
use Rattle.wt_turn.specs.Reports.{stop_of, unis_allowed}
use Rattle.wt_turn.specs.Streams.{local_bi, local_count, local_uni, one_more_if, opens, peer_bi, peer_uni}
use Rattle.wt_turn.specs.declared.action.Action.{Action}
use Rattle.wt_turn.specs.declared.answer.Answer.{Answer}
use Rattle.wt_turn.specs.declared.call.Call.{Call}
use Rattle.wt_turn.specs.declared.turn.Turn.{Turn}
use Rattle.wt_wire.specs.declared.side.Side.{Side}
use Rattle.wt_wire.specs.declared.side.Side.TheVariants.{Client, Server}
use Rattle.wt_turn.specs.declared.action.Action.TheVariants as actions
use Rattle.wt_turn.specs.declared.call.Call.TheVariants as calls
use Rattle.wt_turn.specs.declared.turn.Turn.TheVariants as turns

-- ---- the ids that actions open

abbrev pub ids : ℕ → List Action → List ℕ
ids kind as_ = filter_map (opens_of kind) as_

ids-two : (kind : ℕ) (x y : Action) → ids kind (join_one (x ∷ []) y) ≡ ids kind (x ∷ y ∷ [])
ids-two kind (actions.Send i p) (actions.Send j q) = by (i == j)
  where
    by : (b : Bool) → ids kind (if b then actions.Send i (p ++ q) ∷ [] else actions.Send i p ∷ actions.Send j q ∷ []) ≡ []
    by true = refl
    by false = refl
ids-two kind x y = refl

ids-one : (kind : ℕ) (before : List Action) (a : Action) → ids kind (join_one before a) ≡ ids kind (before ++ a ∷ [])
ids-one kind [] a = refl
ids-one kind (b ∷ []) a = ids-two kind b a
ids-one kind (b ∷ c ∷ later) a = ap (cons_option (opens_of kind b)) (ids-one kind (c ∷ later) a)

ids-join : (kind : ℕ) (before later : List Action) → ids kind (join_all before later) ≡ ids kind before ++ ids kind later
ids-join kind before [] = sym (append-nil (ids kind before))
ids-join kind before (a ∷ later) =
    ids-join kind (join_one before a) later
    ∙ ap (λ (l : List ℕ). l ++ ids kind later) (ids-one kind before a ∙ filter_map-append (opens_of kind) before (a ∷ []))
    ∙ append_assoc (ids kind before) (ids kind (a ∷ [])) (ids kind later) ∙ ap (λ (l : List ℕ). ids kind before ++ l) (sym (filter_map-append (opens_of kind) (a ∷ []) later))

ids-none : (kind : ℕ) (as_ : List Action) → list_any (opens kind) as_ ≡ false → ids kind as_ ≡ []
ids-none kind [] e = refl
ids-none kind (actions.Opened id ∷ as_) e = by (id % 4 == kind) e (ids-none kind as_)
  where
    by : (b : Bool) → (b || list_any (opens kind) as_) ≡ false → (list_any (opens kind) as_ ≡ false → ids kind as_ ≡ []) → cons_option (if b then Some id else None) (ids kind as_) ≡ []
    by true q again = absurd (cc q)
    by false q again = again q
ids-none kind (actions.Dial address name ∷ as_) e = ids-none kind as_ e
ids-none kind (actions.Send id piece ∷ as_) e = ids-none kind as_ e
ids-none kind (actions.Finish id ∷ as_) e = ids-none kind as_ e
ids-none kind (actions.ResetOut id code ∷ as_) e = ids-none kind as_ e
ids-none kind (actions.StopOut id code ∷ as_) e = ids-none kind as_ e
ids-none kind (actions.DatagramOut piece ∷ as_) e = ids-none kind as_ e
ids-none kind (actions.Close code reason ∷ as_) e = ids-none kind as_ e

pub ids-count : (kind : ℕ) (as_ : List Action) → opened kind as_ ≡ length (ids kind as_)
ids-count kind [] = refl
ids-count kind (actions.Opened id ∷ as_) = by (id % 4 == kind) (ids-count kind as_)
  where
    by : (b : Bool) → opened kind as_ ≡ length (ids kind as_) → one_more_if b (opened kind as_) ≡ length (cons_option (if b then Some id else None) (ids kind as_))
    by true e = omega (arith, e)
    by false e = e
ids-count kind (actions.Dial address name ∷ as_) = ids-count kind as_
ids-count kind (actions.Send id piece ∷ as_) = ids-count kind as_
ids-count kind (actions.Finish id ∷ as_) = ids-count kind as_
ids-count kind (actions.ResetOut id code ∷ as_) = ids-count kind as_
ids-count kind (actions.StopOut id code ∷ as_) = ids-count kind as_
ids-count kind (actions.DatagramOut piece ∷ as_) = ids-count kind as_
ids-count kind (actions.Close code reason ∷ as_) = ids-count kind as_

-- ---- a call's own actions open nothing, or the next stream of one of this end's kinds

pub data OwnOpens (side : Side) (h : History) (own : List Action) : Type 0 where
  NoStream : ((kind : ℕ) → list_any (opens kind) own ≡ false) → OwnOpens side h own
  OneStream : (kind : ℕ) (later : List Action) → ((local_uni side == kind) || (local_bi side == kind)) ≡ true → own ≡ actions.Opened (next_id side h kind) ∷ later → ((j : ℕ) → list_any (opens j) later ≡ false) → OwnOpens side h own

no-send : (h : History) (k j : ℕ) (bytes : List ℕ) → list_any (opens j) (send h k bytes) ≡ false
no-send h k j bytes = none-sent (opens j) k (take (credit_left h k) bytes) (λ p. refl)

no-close : (h : History) (code j : ℕ) → list_any (opens j) (close_if_open h code) ≡ false
no-close h code j = none-if (opens j) (is_open h) (actions.Close code []) refl

no-gone : (side : Side) (h : History) (s j : ℕ) → list_any (opens j) (session_gone_actions side h (findings side h) s) ≡ false
no-gone side h s j = none-gone (opens j) (λ k c. refl) (λ k c. refl) side h (findings side h) s

-- a client's stream 0 is the next, where it wasn't opened
first-bi : (h : History) → is_opened h ≡ false → next_id Client h 0 ≡ 0
first-bi h e = by (local_count (actions_out h) 0) refl e
  where
    by : (n : ℕ) → local_count (actions_out h) 0 ≡ n → not (n == 0) ≡ false → next_id Client h 0 ≡ 0
    by zero q f = let z = none-opened Client (all_events h) 0 refl refl in omega (arith, q, z)
    by (suc n) q f = absurd (let r = eqb-false-suc n in cc (sym f ∙ ap not r))
      where
        eqb-false-suc : (m : ℕ) → (suc m == 0) ≡ false
        eqb-false-suc m = of (suc m == 0) refl
          where
            of : (b : Bool) → (suc m == 0) ≡ b → b ≡ false
            of true x = absurd (let y = eqb-true (suc m) 0 x in omega (arith, y))
            of false x = refl

with-rest : (side : Side) (h : History) (c : Call) (frame : List ℕ) (more : List Action) → BegunKind side c → ((j : ℕ) → list_any (opens j) more ≡ false) → OwnOpens side h (rest h c frame ++ more)
with-rest Client h (calls.Connect options lookup outcome) frame more k n = by (is_opened h) refl
  where
    after : (j : ℕ) → list_any (opens j) (send h 0 (head_left h 0 frame) ++ more) ≡ false
    after j = none-append (opens j) (send h 0 (head_left h 0 frame)) more (no-send h 0 j (head_left h 0 frame)) (n j)

    by : (b : Bool) → is_opened h ≡ b → OwnOpens Client h ((action_if (not b) (actions.Opened 0) ++ send h 0 (head_left h 0 frame)) ++ more)
    by true e = NoStream after
    by false e = OneStream 0 (send h 0 (head_left h 0 frame) ++ more) refl (ap (λ (m : ℕ). actions.Opened m ∷ (send h 0 (head_left h 0 frame) ++ more)) (sym (first-bi h e))) after
with-rest Client h c frame more k n = absurd (cc k)
with-rest Server h (calls.Connect options lookup outcome) frame more k n = absurd (cc k)
with-rest Server h c frame more k n = NoStream (λ j. none-append (opens j) (send h (head_stream h c) (head_left h (head_stream h c) frame)) more (no-send h (head_stream h c) j (head_left h (head_stream h c) frame)) (n j))

shake-opens : (side : Side) (h : History) (c : Call) (frame : List ℕ) (a : Answer) → BegunKind side c → Shake side h c frame a → OwnOpens side h a.actions
shake-opens side h c frame a k (Shut r o) = NoStream (λ j. refl)
shake-opens side h c frame a k (Still r g) = NoStream (λ j. refl)
shake-opens side h c frame a k (Shuts r code g m) = NoStream (no-close h code)
shake-opens side h c frame a k (Goes r g) = subst (OwnOpens side h) (append-nil (rest h c frame)) (with-rest side h c frame [] k (λ j. refl))
shake-opens side h c frame a k (GoesShuts r code g m) = with-rest side h c frame (close_if_open h code) k (no-close h code)
shake-opens side h c frame a k (Finishes r m) = with-rest side h c frame (actions.Finish (head_stream h c) ∷ []) k (λ j. refl)
shake-opens side h c frame a k (Rejects r b code m) = NoStream (λ j. none-append (opens j) (session_gone_actions side h (findings side h) (head_stream h c)) (if b then close_if_open h code else []) (no-gone side h (head_stream h c) j) (of b j))
  where
    of : (b : Bool) (j : ℕ) → list_any (opens j) (if b then close_if_open h code else []) ≡ false
    of true j = no-close h code j
    of false j = refl

going-kind : (side : Side) (h : History) (turn : Turn) (c : Call) → IsHistory side h → is_lawful side h turn ≡ true → polls turn ≡ true → going h turn ≡ Some c → BegunKind side c
going-kind Client h turn c i l p g = polled-stream Client h turn c i l p g
going-kind Server h turn c i l p g = (polled-stream Server h turn c i l p g).0

pub own-opens : (side : Side) (h : History) (turn : Turn) → IsHistory side h → is_lawful side h turn ≡ true → OwnOpens side h (own_answer side h turn).actions
own-opens side h (turns.Call call) i l = by (own_answer side h (turns.Call call)) (shape side h call).first
  where
    alone : (t : Bool) (x : Action) (s : Bool) → opens-some x ≡ s → (opens-some x ≡ true → NextOpened side h x) → OwnOpens side h (action_if t x)
    alone false x s e f = NoStream (λ j. refl)
    alone true x false e f = NoStream (λ j. of x e j)
      where
        of : (y : Action) → opens-some y ≡ false → (j : ℕ) → list_any (opens j) (y ∷ []) ≡ false
        of (actions.Opened id) q j = absurd (cc q)
        of y q j = refl
    alone true x true e f = of (f e)
      where
        of : NextOpened side h x → OwnOpens side h (x ∷ [])
        of (Next kind k m q) = OneStream kind [] k (ap (λ (y : Action). y ∷ []) q) (λ j. refl)

    by : (b : Answer) → Shape side h call b → OwnOpens side h b.actions
    by b (Nothing r n) = NoStream (λ j. refl)
    by b Nought = NoStream (λ j. refl)
    by b (Alone r t x n u m o) = alone t x (opens-some x) refl o
    by b (Writing id bytes piece r ho cl pi ac sa wr) = NoStream (λ j. no-send h id j bytes)
    by b (Polling id s name r c be na li ha) = NoStream (λ j. no-send h id j (head_left h id (stream_header id s)))
    by b (Finishing id c ha n) = NoStream (λ j. refl)
    by b (Resetting id code c g n) = NoStream (λ j. none-if (opens j) (is_open h) (actions.ResetOut id code) refl)
    by b (Ending s name c m o v) = NoStream (λ j. none-append (opens j) (session_finish h s) (session_gone_actions side h (findings side h) s) (none-if (opens j) (not (is_some (stop_of (events h) s))) (actions.Finish s) refl) (no-gone side h s j))
    by b (Handshaking c p g e d y) = shake-opens side h c (head_of (Some c)) d (going-kind side h (turns.Call call) c i l p g) y
own-opens side h turn i l = NoStream (λ j. refl)

-- ---- which ids these are

data OwnIds (side : Side) (h : History) (kind : ℕ) (own : List Action) : Type 0 where
  OwnNone : ids kind own ≡ [] → OwnIds side h kind own
  OwnNext : ((local_uni side == kind) || (local_bi side == kind)) ≡ true → ids kind own ≡ (4 * local_count (actions_out h) kind + kind) ∷ [] → OwnIds side h kind own

pub local-small : (side : Side) (kind : ℕ) → ((local_uni side == kind) || (local_bi side == kind)) ≡ true → (kind < 4) × ((peer_uni side == kind) ≡ false) × ((peer_bi side == kind) ≡ false)
local-small side kind l = by (local_uni side == kind) (local_bi side == kind) refl refl l
  where
    uni : (x : Side) → (local_uni x < 4) × ((peer_uni x == local_uni x) ≡ false) × ((peer_bi x == local_uni x) ≡ false)
    uni Client = (omega arith, refl, refl)
    uni Server = (omega arith, refl, refl)

    bi : (x : Side) → (local_bi x < 4) × ((peer_uni x == local_bi x) ≡ false) × ((peer_bi x == local_bi x) ≡ false)
    bi Client = (omega arith, refl, refl)
    bi Server = (omega arith, refl, refl)

    by : (a b : Bool) → (local_uni side == kind) ≡ a → (local_bi side == kind) ≡ b → (a || b) ≡ true → (kind < 4) × ((peer_uni side == kind) ≡ false) × ((peer_bi side == kind) ≡ false)
    by true b x y z = subst (λ (n : ℕ). (n < 4) × ((peer_uni side == n) ≡ false) × ((peer_bi side == n) ≡ false)) (eqb-true (local_uni side) kind x) (uni side)
    by false true x y z = subst (λ (n : ℕ). (n < 4) × ((peer_uni side == n) ≡ false) × ((peer_bi side == n) ≡ false)) (eqb-true (local_bi side) kind y) (bi side)
    by false false x y z = absurd (cc z)

own-ids : (side : Side) (h : History) (kind : ℕ) (own : List Action) → OwnOpens side h own → OwnIds side h kind own
own-ids side h kind own (NoStream f) = OwnNone (ids-none kind own (f kind))
own-ids side h kind own (OneStream k later l e f) = by (k == kind) refl
  where
    small : (k < 4) × ((peer_uni side == k) ≡ false) × ((peer_bi side == k) ≡ false)
    small = local-small side k l

    is-kind : next_id side h k % 4 ≡ k
    is-kind = (nth-of (stream_count side h k) k small.0).1

    all : ids kind own ≡ cons_option (if k == kind then Some (next_id side h k) else None) []
    all = ap (ids kind) e ∙ ap (λ (m : ℕ). cons_option (if m == kind then Some (next_id side h k) else None) (ids kind later)) is-kind ∙ ap (cons_option (if k == kind then Some (next_id side h k) else None)) (ids-none kind later (f kind))

    by : (b : Bool) → (k == kind) ≡ b → OwnIds side h kind own
    by false q = OwnNone (all ∙ ap (λ (b : Bool). cons_option (if b then Some (next_id side h k) else None) []) q)
    by true q =
        let same : k ≡ kind = eqb-true k kind q in
        let none = none-opened side (all_events h) k small.1 small.2 in
        let id : next_id side h k ≡ 4 * local_count (actions_out h) k + k = omega (arith, none) in
        OwnNext (ap (λ (n : ℕ). (local_uni side == n) || (local_bi side == n)) (sym same) ∙ l)
        (all ∙ ap (λ (b : Bool). cons_option (if b then Some (next_id side h k) else None) []) q ∙ ap (λ (m : ℕ). m ∷ []) (id ∙ ap (λ (n : ℕ). 4 * local_count (actions_out h) n + n) same))

pub data MomentIds (side : Side) (h : History) (kind : ℕ) (moment : List Action) : Type 0 where
  MomentNone : ids kind moment ≡ [] → MomentIds side h kind moment
  MomentFirst : local_uni side ≡ kind → local_count (actions_out h) (local_uni side) ≡ 0 → ids kind moment ≡ local_uni side ∷ [] → MomentIds side h kind moment

pub uni-mod : (side : Side) → local_uni side % 4 ≡ local_uni side
uni-mod Client = refl
uni-mod Server = refl

pub moment-ids : (side : Side) (p : Pair) (h : History) (kind : ℕ) → MomentIds side (p ∷ h) kind (moment_actions side (p ∷ h))
moment-ids side p h kind = by (is_open (p ∷ h)) (nat_le 1 (unis_allowed (events (p ∷ h)))) (local_count (actions_out (p ∷ h)) (local_uni side) == 0) refl
  where
    bytes : List Action
    bytes = send_of (local_uni side) (take (credit_left (p ∷ h) (local_uni side)) (drop (length (out (p ∷ h) (local_uni side))) local_control_bytes))

    others : List Action
    others = actions_for_all side (p ∷ h) (findings side h) (drop (length (findings side h)) (findings side (p ∷ h)))

    no-bytes : ids kind bytes ≡ []
    no-bytes = ids-none kind bytes (none-sent (opens kind) (local_uni side) (take (credit_left (p ∷ h) (local_uni side)) (drop (length (out (p ∷ h) (local_uni side))) local_control_bytes)) (λ q. refl))

    no-others : ids kind others ≡ []
    no-others = ids-none kind others (opens-none kind side (p ∷ h) (findings side h) (drop (length (findings side h)) (findings side (p ∷ h))))

    parts : (z : Bool) → ids kind ((action_if z (actions.Opened (local_uni side)) ++ bytes) ++ others) ≡ ids kind (action_if z (actions.Opened (local_uni side)))
    parts z =
        filter_map-append (opens_of kind) (action_if z (actions.Opened (local_uni side)) ++ bytes) others ∙ ap (λ (l : List ℕ). ids kind (action_if z (actions.Opened (local_uni side)) ++ bytes) ++ l) no-others
        ∙ append-nil (ids kind (action_if z (actions.Opened (local_uni side)) ++ bytes)) ∙ filter_map-append (opens_of kind) (action_if z (actions.Opened (local_uni side))) bytes
        ∙ ap (λ (l : List ℕ). ids kind (action_if z (actions.Opened (local_uni side))) ++ l) no-bytes ∙ append-nil (ids kind (action_if z (actions.Opened (local_uni side))))

    by : (o u z : Bool) → (local_count (actions_out (p ∷ h)) (local_uni side) == 0) ≡ z → MomentIds side (p ∷ h) kind (if o then (if u then action_if z (actions.Opened (local_uni side)) ++ bytes else []) ++ others else [])
    by true true true e = of (local_uni side == kind) refl
      where
        first : ids kind (action_if true (actions.Opened (local_uni side))) ≡ cons_option (if local_uni side == kind then Some (local_uni side) else None) []
        first = ap (λ (m : ℕ). cons_option (if m == kind then Some (local_uni side) else None) []) (uni-mod side)

        of : (b : Bool) → (local_uni side == kind) ≡ b → MomentIds side (p ∷ h) kind ((action_if true (actions.Opened (local_uni side)) ++ bytes) ++ others)
        of true q = MomentFirst (eqb-true (local_uni side) kind q) (eqb-true (local_count (actions_out (p ∷ h)) (local_uni side)) 0 e) (parts true ∙ first ∙ ap (λ (b : Bool). cons_option (if b then Some (local_uni side) else None) []) q)
        of false q = MomentNone (parts true ∙ first ∙ ap (λ (b : Bool). cons_option (if b then Some (local_uni side) else None) []) q)
    by true true false e = MomentNone (parts false)
    by true false z e = MomentNone no-others
    by false u z e = MomentNone refl

pub opens_in_order : (side : Side) (h : History) (turn : Turn) → IsHistory side h → is_lawful side h turn ≡ true → (kind : ℕ) → OpensInOrder side h (next side h turn) kind
opens_in_order side h turn i l kind = by (own-ids side h kind own (own-opens side h turn i l)) (moment-ids side q h kind)
  where
    own : List Action
    own = (own_answer side h turn).actions

    q : Pair
    q = record { turn = turn; answer = own_answer side h turn }

    moment : List Action
    moment = moment_actions side (q ∷ h)

    all : ids kind (next side h turn).actions ≡ ids kind own ++ ids kind moment
    all = ids-join kind [] (own ++ moment) ∙ filter_map-append (opens_of kind) own moment

    not-own : (a b : Bool) → (a || b) ≡ true → (a || b) ≡ false → ⊥
    not-own a b x y = let z = sym x ∙ y in cc z

    by : OwnIds side h kind own → MomentIds side (q ∷ h) kind moment → OpensInOrder side h (next side h turn) kind
    by (OwnNone x) (MomentNone y) =
        let e : ids kind (next side h turn).actions ≡ [] = all ∙ rw (x, y) refl in
        record { next = e ∙ sym (ap (λ (l : List ℕ). ids_from kind (local_count (actions_out h) kind) (length l)) e); own = λ z. e }
    by (OwnNext k x) (MomentNone y) =
        let e : ids kind (next side h turn).actions ≡ (4 * local_count (actions_out h) kind + kind) ∷ [] = all ∙ rw (x, y) refl in
        record { next = e ∙ sym (ap (λ (l : List ℕ). ids_from kind (local_count (actions_out h) kind) (length l)) e); own = λ z. absurd (not-own (local_uni side == kind) (local_bi side == kind) k z) }
    by (OwnNone x) (MomentFirst k n y) =
        let e : ids kind (next side h turn).actions ≡ local_uni side ∷ [] = all ∙ rw (x, y) refl in
        let none : local_count (actions_out h) kind ≡ 0 = let c = opened-out (local_uni side) own (actions_out h) in let d : local_count (actions_out h) (local_uni side) ≡ 0 = omega (arith, c, n) in ap (local_count (actions_out h)) (sym k) ∙ d in
        let id : 4 * local_count (actions_out h) kind + kind ≡ local_uni side = omega (arith, none, k) in
        record { next = e ∙ ap (λ (m : ℕ). m ∷ []) (sym id) ∙ sym (ap (λ (l : List ℕ). ids_from kind (local_count (actions_out h) kind) (length l)) e); own = λ z. absurd (let w : (local_uni side == kind) ≡ true = eq-eqb (local_uni side) kind k in let v : true ≡ false = ap (λ (b : Bool). b || (local_bi side == kind)) (sym w) ∙ z in cc v) }
    by (OwnNext k x) (MomentFirst m n y) =
        absurd (let c = opened-out (local_uni side) own (actions_out h) in let d : opened (local_uni side) own ≡ 1 = ap (λ (j : ℕ). opened j own) m ∙ ids-count kind own ∙ ap length x in omega (arith, c, d, n))
