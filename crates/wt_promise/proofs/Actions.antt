-- What the actions of an answer are: the call's own, then those of its moment; a test that asks nothing of a piece finds
-- in joined actions what it finds in all of them.
use Rattle.std.specs.Prelude.{[], ◌&&◌, ◌++◌, ◌+◌, ◌==◌, ◌∷◌, ◌||◌, ◌≡◌, Bool, List, None, Option, Some, drop, false, filter, flat_map, if◌then◌else◌, is_some, length, nat_le, not, take, true, ℕ}
use Rattle.std.specs.List.{list_any}
use Rattle.std.specs.Option.{option_or}
use Rattle.std.proofs.Common.{◌∙◌, ap, arith, refl, sym}
use Rattle.std.proofs.lemmas.Bool.{eqb-true}
use Rattle.std.proofs.lemmas.List.Folds.{list_any-append}
use Rattle.wt_message.specs.FixedBytes.{local_control_bytes}
use Rattle.wt_meaning.specs.Findings.{Classified, Faulted, Finding, SessionClosed, fault_in, fault_of}
use Rattle.wt_meaning.specs.History.{History, actions_out, can_receive, can_send, credit_left, events, is_given_up, is_open, is_reset, out, was_finished}
use Rattle.wt_meaning.specs.Meaning.{next, own_answer, with_pair}
use Rattle.wt_meaning.specs.Moments.{findings}
use Rattle.wt_meaning.specs.Sends.{action_if, actions_for, actions_for_all, control_actions, is_of_session, moment_actions, session_finish, session_gone_actions, stream_gone_actions, stream_ids}
use Rattle.wt_turn.specs.Joined.{join_all, join_one, newest_first, send_of}
use Rattle.wt_turn.specs.Reports.{end_of, is_running, stop_of, unis_allowed}
use Rattle.wt_turn.specs.Streams.{local_count, local_uni, one_more_if, opens}
use Rattle.wt_turn.specs.Log.{closes}
use Rattle.wt_turn.specs.declared.action.Action.{Action}
use Rattle.wt_turn.specs.declared.turn.Turn.{Turn}
use Rattle.wt_wire.specs.declared.error.ErrorCode.{ErrorCode}
use Rattle.wt_wire.specs.declared.side.Side.{Side}
use Rattle.wt_wire.specs.declared.side.Side.TheVariants.{Client, Server}
use Rattle.wt_proto.specs.declared.verdict.Verdict.TheVariants as verdicts
use Rattle.wt_turn.specs.declared.action.Action.TheVariants as actions

-- ---- joined actions

-- the test asks nothing of the piece that is sent
abbrev pub AnyPiece : (Action → Bool) → Type 0
AnyPiece test = (i : ℕ) (p q : List ℕ) → test (actions.Send i p) ≡ test (actions.Send i q)

or-nothing : (b : Bool) → (b || false) ≡ b
or-nothing true = refl
or-nothing false = refl

pub or-assoc : (a b c : Bool) → (a || (b || c)) ≡ ((a || b) || c)
or-assoc true b c = refl
or-assoc false b c = refl

or-shift : (a b : Bool) → (a || (b || false)) ≡ ((a || false) || b)
or-shift true b = refl
or-shift false true = refl
or-shift false false = refl

any-two : (test : Action → Bool) → AnyPiece test → (x y : Action) → list_any test (join_one (x ∷ []) y) ≡ (list_any test (x ∷ []) || test y)
any-two test n (actions.Send i p) (actions.Send j q) = by (i == j) refl
  where
    by : (b : Bool) → (i == j) ≡ b → list_any test (if b then actions.Send i (p ++ q) ∷ [] else actions.Send i p ∷ actions.Send j q ∷ []) ≡ (list_any test (actions.Send i p ∷ []) || test (actions.Send j q))
    by true e = rw (sym (eqb-true i j e), n i (p ++ q) q, n i p q) (same (test (actions.Send i q)))
      where
        same : (b : Bool) → (b || false) ≡ ((b || false) || b)
        same true = refl
        same false = refl
    by false e = or-shift (test (actions.Send i p)) (test (actions.Send j q))
any-two test n x y = or-shift (test x) (test y)

pub any-join_one : (test : Action → Bool) → AnyPiece test → (before : List Action) (a : Action) → list_any test (join_one before a) ≡ (list_any test before || test a)
any-join_one test n [] a = or-nothing (test a)
any-join_one test n (b ∷ []) a = any-two test n b a
any-join_one test n (b ∷ c ∷ later) a = ap (λ (x : Bool). test b || x) (any-join_one test n (c ∷ later) a) ∙ or-assoc (test b) (list_any test (c ∷ later)) (test a)

pub any-join_all : (test : Action → Bool) → AnyPiece test → (before later : List Action) → list_any test (join_all before later) ≡ (list_any test before || list_any test later)
any-join_all test n before [] = sym (or-nothing (list_any test before))
any-join_all test n before (a ∷ later) =
    any-join_all test n (join_one before a) later ∙ ap (λ (x : Bool). x || list_any test later) (any-join_one test n before a) ∙ sym (or-assoc (list_any test before) (test a) (list_any test later))

-- what a test finds in an answer
pub any-next : (test : Action → Bool) → AnyPiece test → (side : Side) (h : History) (turn : Turn)
    → list_any test (next side h turn).actions ≡ (list_any test (own_answer side h turn).actions || list_any test (moment_actions side (with_pair h turn (own_answer side h turn))))
any-next test n side h turn =
    any-join_all test n [] ((own_answer side h turn).actions ++ moment_actions side (with_pair h turn (own_answer side h turn)))
    ∙ list_any-append test (own_answer side h turn).actions (moment_actions side (with_pair h turn (own_answer side h turn)))

-- ---- what no moment does

pub none-append : (test : Action → Bool) (xs ys : List Action) → list_any test xs ≡ false → list_any test ys ≡ false → list_any test (xs ++ ys) ≡ false
none-append test xs ys a b = list_any-append test xs ys ∙ rw (a, b) refl

pub none-if : (test : Action → Bool) (b : Bool) (a : Action) → test a ≡ false → list_any test (action_if b a) ≡ false
none-if test true a e = rw e refl
none-if test false a e = refl

pub none-sent : (test : Action → Bool) (k : ℕ) (bytes : List ℕ) → ((p : List ℕ) → test (actions.Send k p) ≡ false) → list_any test (send_of k bytes) ≡ false
none-sent test k [] e = refl
none-sent test k (b ∷ bytes) e = rw (e (b ∷ bytes)) refl

pub none-control : (test : Action → Bool) (side : Side) (h : History) → test (actions.Opened (local_uni side)) ≡ false → ((p : List ℕ) → test (actions.Send (local_uni side) p) ≡ false) → list_any test (control_actions side h) ≡ false
none-control test side h o s = by (nat_le 1 (unis_allowed (events h)))
  where
    by : (b : Bool) → list_any test (if b then action_if (local_count (actions_out h) (local_uni side) == 0) (actions.Opened (local_uni side))
        ++ send_of (local_uni side) (take (credit_left h (local_uni side)) (drop (length (out h (local_uni side))) local_control_bytes)) else []) ≡ false
    by true = none-append test (action_if (local_count (actions_out h) (local_uni side) == 0) (actions.Opened (local_uni side))) (send_of (local_uni side) (take (credit_left h (local_uni side)) (drop (length (out h (local_uni side))) local_control_bytes)))
        (none-if test (local_count (actions_out h) (local_uni side) == 0) (actions.Opened (local_uni side)) o) (none-sent test (local_uni side) (take (credit_left h (local_uni side)) (drop (length (out h (local_uni side))) local_control_bytes)) s)
    by false = refl

none-each : (test : Action → Bool) (f : ℕ → List Action) → ((k : ℕ) → list_any test (f k) ≡ false) → (ids : List ℕ) → list_any test (flat_map f ids) ≡ false
none-each test f e [] = refl
none-each test f e (k ∷ ids) = none-append test (f k) (flat_map f ids) (e k) (none-each test f e ids)

-- a test of neither stops nor resets finds nothing of a session that becomes gone
pub none-gone : (test : Action → Bool) → ((k code : ℕ) → test (actions.StopOut k code) ≡ false) → ((k code : ℕ) → test (actions.ResetOut k code) ≡ false)
    → (side : Side) (h : History) (found : List Finding) (s : ℕ) → list_any test (session_gone_actions side h found s) ≡ false
none-gone test a b side h found s = none-each test (stream_gone_actions side h) each (filter (is_of_session h found s) (stream_ids side h))
  where
    each : (k : ℕ) → list_any test (stream_gone_actions side h k) ≡ false
    each k = none-append test (action_if (receives k) (actions.StopOut k 0x170d7b68)) (action_if (sends k) (actions.ResetOut k 0x170d7b68)) (none-if test (receives k) (actions.StopOut k 0x170d7b68) (a k 0x170d7b68)) (none-if test (sends k) (actions.ResetOut k 0x170d7b68) (b k 0x170d7b68))
      where
        receives : ℕ → Bool
        receives j = can_receive side h j && is_running (end_of (events h) j) && not (is_given_up h j)

        sends : ℕ → Bool
        sends j = can_send side h j && not (was_finished h j) && not (is_reset h j)

-- ---- a fault closes

close-of : (side : Side) (h : History) (found : List Finding) (f : Finding) → list_any closes (actions_for side h found f) ≡ is_some (fault_in f)
close-of side h found (Classified id (verdicts.WebTransport session offset) false) = refl
close-of side h found (Classified id (verdicts.Refused code) keeps) = none-gone closes (λ k c. refl) (λ k c. refl) side h found id
close-of side h found (Classified id (verdicts.Request headers offset) false) = none-gone closes (λ k c. refl) (λ k c. refl) side h found id
close-of side h found (SessionClosed session code reason true) = none-gone closes (λ k c. refl) (λ k c. refl) side h found session
close-of side h found (SessionClosed session code reason false) =
    none-append closes (session_finish h session) _ (none-if closes (not (is_some (stop_of (events h) session))) (actions.Finish session) refl) (none-gone closes (λ k c. refl) (λ k c. refl) side h found session)
close-of side h found (Faulted code) = refl
close-of side h found f = refl

pub closes-by-fault : (side : Side) (h : History) (before new : List Finding) → list_any closes (actions_for_all side h before new) ≡ is_some (fault_of new)
closes-by-fault side h before [] = refl
closes-by-fault side h before (f ∷ new) =
    list_any-append closes (actions_for side h before f) (actions_for_all side h (before ++ f ∷ []) new)
    ∙ rw (close-of side h before f, closes-by-fault side h (before ++ f ∷ []) new) (either (fault_in f) (fault_of new))
  where
    either : (a b : Option ErrorCode) → (is_some a || is_some b) ≡ is_some (option_or a b)
    either None b = refl
    either (Some x) b = refl

pub control-closes-not : (side : Side) (h : History) → list_any closes (control_actions side h) ≡ false
control-closes-not side h = none-control closes side h refl (λ p. refl)

-- ---- how many streams of a kind are opened

abbrev pub opened : ℕ → List Action → ℕ
opened kind [] = 0
opened kind (a ∷ later) = one_more_if (opens kind a) (opened kind later)

one-more : (b : Bool) (m n : ℕ) → m + one_more_if b n ≡ one_more_if b m + n
one-more true m n = omega arith
one-more false m n = refl

pub opened-out : (kind : ℕ) (as_ before : List Action) → local_count (newest_first as_ before) kind ≡ opened kind as_ + local_count before kind
opened-out kind [] before = omega arith
opened-out kind (a ∷ later) before = opened-out kind later (a ∷ before) ∙ one-more (opens kind a) (opened kind later) (local_count before kind)

more-add : (b : Bool) (m n : ℕ) → one_more_if b (m + n) ≡ one_more_if b m + n
more-add true m n = omega arith
more-add false m n = refl

pub opened-append : (kind : ℕ) (xs ys : List Action) → opened kind (xs ++ ys) ≡ opened kind xs + opened kind ys
opened-append kind [] ys = omega arith
opened-append kind (a ∷ xs) ys = ap (one_more_if (opens kind a)) (opened-append kind xs ys) ∙ more-add (opens kind a) (opened kind xs) (opened kind ys)

opened-two : (kind : ℕ) (x y : Action) → opened kind (join_one (x ∷ []) y) ≡ opened kind (x ∷ y ∷ [])
opened-two kind (actions.Send i p) (actions.Send j q) = by (i == j)
  where
    by : (b : Bool) → opened kind (if b then actions.Send i (p ++ q) ∷ [] else actions.Send i p ∷ actions.Send j q ∷ []) ≡ 0
    by true = refl
    by false = refl
opened-two kind x y = refl

opened-one : (kind : ℕ) (before : List Action) (a : Action) → opened kind (join_one before a) ≡ opened kind (before ++ a ∷ [])
opened-one kind [] a = refl
opened-one kind (b ∷ []) a = opened-two kind b a
opened-one kind (b ∷ c ∷ later) a = ap (one_more_if (opens kind b)) (opened-one kind (c ∷ later) a)

pub opened-join : (kind : ℕ) (before later : List Action) → opened kind (join_all before later) ≡ opened kind before + opened kind later
opened-join kind before [] = omega arith
opened-join kind before (a ∷ later) =
    opened-join kind (join_one before a) later
    ∙ ap (λ (n : ℕ). n + opened kind later) (opened-one kind before a ∙ opened-append kind before (a ∷ []))
    ∙ add (opens kind a) (opened kind before) (opened kind later)
  where
    add : (b : Bool) (m n : ℕ) → (m + one_more_if b 0) + n ≡ m + one_more_if b n
    add true m n = omega arith
    add false m n = omega arith

-- actions of which none opens such a stream
pub opened-none : (kind : ℕ) (as_ : List Action) → list_any (opens kind) as_ ≡ false → opened kind as_ ≡ 0
opened-none kind [] e = refl
opened-none kind (a ∷ later) e = by (opens kind a) e (opened-none kind later)
  where
    by : (b : Bool) → (b || list_any (opens kind) later) ≡ false → (list_any (opens kind) later ≡ false → opened kind later ≡ 0) → one_more_if b (opened kind later) ≡ 0
    by true q before = absurd (cc q)
    by false q before = before q

-- a moment opens this end's control stream alone
opens-not : (kind : ℕ) (side : Side) (h : History) (found : List Finding) (f : Finding) → list_any (opens kind) (actions_for side h found f) ≡ false
opens-not kind side h found (Classified id (verdicts.WebTransport session offset) false) = refl
opens-not kind side h found (Classified id (verdicts.Refused code) keeps) = none-gone (opens kind) (λ k c. refl) (λ k c. refl) side h found id
opens-not kind side h found (Classified id (verdicts.Request headers offset) false) = none-gone (opens kind) (λ k c. refl) (λ k c. refl) side h found id
opens-not kind side h found (SessionClosed session code reason true) = none-gone (opens kind) (λ k c. refl) (λ k c. refl) side h found session
opens-not kind side h found (SessionClosed session code reason false) =
    none-append (opens kind) (session_finish h session) _ (none-if (opens kind) (not (is_some (stop_of (events h) session))) (actions.Finish session) refl)
    (none-gone (opens kind) (λ k c. refl) (λ k c. refl) side h found session)
opens-not kind side h found (Faulted code) = refl
opens-not kind side h found f = refl

pub opens-none : (kind : ℕ) (side : Side) (h : History) (before new : List Finding) → list_any (opens kind) (actions_for_all side h before new) ≡ false
opens-none kind side h before [] = refl
opens-none kind side h before (f ∷ new) = none-append (opens kind) (actions_for side h before f) (actions_for_all side h (before ++ f ∷ []) new) (opens-not kind side h before f) (opens-none kind side h (before ++ f ∷ []) new)

control-not-bi : (side : Side) → opens 0 (actions.Opened (local_uni side)) ≡ false
control-not-bi Client = refl
control-not-bi Server = refl

pub moment-opens-not : (side : Side) (h : History) → list_any (opens 0) (moment_actions side h) ≡ false
moment-opens-not side [] = refl
moment-opens-not side (p ∷ h) = by (is_open (p ∷ h))
  where
    by : (b : Bool) → list_any (opens 0) (if b then control_actions side (p ∷ h) ++ actions_for_all side (p ∷ h) (findings side h) (drop (length (findings side h)) (findings side (p ∷ h))) else []) ≡ false
    by true = none-append (opens 0) (control_actions side (p ∷ h)) (actions_for_all side (p ∷ h) (findings side h) (drop (length (findings side h)) (findings side (p ∷ h)))) (none-control (opens 0) side (p ∷ h) (control-not-bi side) (λ q. refl)) (opens-none 0 side (p ∷ h) (findings side h) (drop (length (findings side h)) (findings side (p ∷ h))))
    by false = refl

-- so that an answer opens as many bidirectional streams as its call
pub opened-next : (side : Side) (h : History) (turn : Turn)
    → local_count (actions_out (with_pair h turn (next side h turn))) 0 ≡ local_count (actions_out (with_pair h turn (own_answer side h turn))) 0
opened-next side h turn =
    let own : List Action = (own_answer side h turn).actions in
    let moment : List Action = moment_actions side (with_pair h turn (own_answer side h turn)) in
    let all = opened-out 0 (join_all [] (own ++ moment)) (actions_out h) in
    let joined = opened-join 0 [] (own ++ moment) in
    let parts = opened-append 0 own moment in
    let none = opened-none 0 moment (moment-opens-not side (with_pair h turn (own_answer side h turn))) in
    let mine = opened-out 0 own (actions_out h) in omega (arith, all, joined, parts, none, mine)
