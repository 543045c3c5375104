-- Nothing is sent on a stream behind its finish in the same answer.
use Rattle.wt_promise.proofs.Statements.{SilentAfterFinish}
use Rattle.std.specs.Prelude.{[], ◌++◌, ◌==◌, ◌∷◌, ◌||◌, ◌≡◌, Bool, List, Some, drop, false, if◌then◌else◌, is_some, length, not, true, ℕ}
use Rattle.std.specs.List.{list_any}
use Rattle.std.proofs.Common.{◌∙◌, ap, refl, subst, sym}
use Rattle.std.proofs.lemmas.Bool.{eqb-true}
use Rattle.std.proofs.lemmas.List.{append-nil}
use Rattle.std.proofs.lemmas.List.Folds.{list_any-append}
use Rattle.wt_meaning.specs.Calls.{stream_header}
use Rattle.wt_meaning.specs.Findings.{Classified, Faulted, Finding, SessionClosed}
use Rattle.wt_meaning.specs.Handshakes.{head_left, send}
use Rattle.wt_meaning.specs.History.{History, Pair, events, hands_out, is_handed_out, is_open}
use Rattle.wt_meaning.specs.Lawful.{is_lawful}
use Rattle.wt_meaning.specs.Meaning.{next, own_answer}
use Rattle.wt_meaning.specs.Moments.{findings}
use Rattle.wt_meaning.specs.Sends.{action_if, actions_for, actions_for_all, close_if_open, control_actions, moment_actions, session_finish, session_gone_actions}
use Rattle.wt_meaning.specs.Windows.{is_established, is_gone, is_gone_by_call, lives, makes_gone}
use Rattle.wt_promise.proofs.Accepted.{and-left, and-right, not-true, or-true}
use Rattle.wt_promise.proofs.Actions.{any-join_one, any-next, none-append, none-control, none-gone, or-assoc}
use Rattle.wt_promise.proofs.Behind.{behind-append, behind-none}
use Rattle.wt_promise.proofs.Finished.{control-answer, rejected-polled, silent-later}
use Rattle.wt_promise.proofs.Flow.{clash}
use Rattle.wt_promise.proofs.HeadFinish.{ByFinish, EndsSession, FinishWhy, Responds, close-none, ends-gone, fin-sends, finish-handed, gone-none, rest-none, send-none, why-own}
use Rattle.wt_promise.proofs.Heads.{begun-kept}
use Rattle.wt_promise.proofs.MomentActs.{Control, MomentSends, OfClosed, all-sends, closed-gone, closed-lived, closes_session, moment-sends}
use Rattle.wt_promise.proofs.Grows.{news, news-dropped}
use Rattle.wt_promise.proofs.Once.{Once, gone-once}
use Rattle.wt_promise.proofs.OpenStays.{same-news}
use Rattle.wt_promise.proofs.OwnActs.{gone-sends-not}
use Rattle.wt_promise.proofs.Shakes.{Finishes, Goes, GoesShuts, Rejects, Shake, Shut, Shuts, Still, head_stream, rest}
use Rattle.wt_promise.proofs.Shapes.{Alone, Ending, Finishing, Handshaking, Nothing, Nought, Polling, Resetting, Shape, Writing, shape}
use Rattle.wt_promise.proofs.Silent.{established-begun}
use Rattle.wt_promise.proofs.SilentBehind.{stream-known}
use Rattle.wt_promise.proofs.OwnForms.{head_of}
use Rattle.wt_promise.specs.Promise.{IsHistory, NoneBehind, sends_on}
use Rattle.wt_turn.specs.Joined.{join_all, join_one}
use Rattle.wt_turn.specs.Reports.{stop_of}
use Rattle.wt_turn.specs.Sent.{finishes}
use Rattle.wt_turn.specs.Streams.{local_uni}
use Rattle.wt_turn.specs.declared.action.Action.{Action}
use Rattle.wt_turn.specs.declared.answer.Answer.{Answer}
use Rattle.wt_turn.specs.declared.call.Call.{Call}
use Rattle.wt_turn.specs.declared.turn.Turn.{Turn}
use Rattle.wt_wire.specs.declared.side.Side.{Side}
use Rattle.wt_proto.specs.declared.verdict.Verdict.TheVariants as verdicts
use Rattle.wt_turn.specs.declared.action.Action.TheVariants as actions
use Rattle.wt_turn.specs.declared.turn.Turn.TheVariants as turns

-- ---- joined actions

abbrev Last : ℕ → List Action → Type 0
Last k as_ = NoneBehind (finishes k) (sends_on k) as_

last-two : (k : ℕ) (b a : Action) (later : List Action) → Last k (b ∷ a ∷ later) → Last k (join_one (b ∷ []) a ++ later)
last-two k (actions.Send i p) (actions.Send j s) later q = by (i == j)
  where
    by : (c : Bool) → Last k ((if c then actions.Send i (p ++ s) ∷ [] else actions.Send i p ∷ actions.Send j s ∷ []) ++ later)
    by true = (λ r. absurd (cc r), q.1.1)
    by false = q
last-two k b a later q = q

last-one : (k : ℕ) (before : List Action) (a : Action) (later : List Action) → Last k (before ++ a ∷ later) → Last k (join_one before a ++ later)
last-one k [] a later q = q
last-one k (b ∷ []) a later q = last-two k b a later q
last-one k (b ∷ c ∷ rest) a later q = (λ r. same ∙ q.0 r, last-one k (c ∷ rest) a later q.1)
  where
    same : list_any (sends_on k) (join_one (c ∷ rest) a ++ later) ≡ list_any (sends_on k) ((c ∷ rest) ++ a ∷ later)
    same =
        list_any-append (sends_on k) (join_one (c ∷ rest) a) later ∙ ap (λ (x : Bool). x || list_any (sends_on k) later) (any-join_one (sends_on k) (λ i x y. refl) (c ∷ rest) a)
        ∙ sym (or-assoc (list_any (sends_on k) (c ∷ rest)) (sends_on k a) (list_any (sends_on k) later)) ∙ sym (list_any-append (sends_on k) (c ∷ rest) (a ∷ later))

last-join : (k : ℕ) (before later : List Action) → Last k (before ++ later) → Last k (join_all before later)
last-join k before [] q = subst (Last k) (append-nil before) q
last-join k before (a ∷ later) q = last-join k (join_one before a) later (last-one k before a later q)

-- ---- a call's own actions

one-last : (k : ℕ) (b : Bool) (a : Action) → Last k (action_if b a)
one-last k true a = (λ r. refl, tt)
one-last k false a = tt

finish-gone : (side : Side) (h : History) (found : List Finding) (s k : ℕ) → Last k (session_finish h s ++ session_gone_actions side h found s)
finish-gone side h found s k =
    behind-append (finishes k) (sends_on k) (session_finish h s) (session_gone_actions side h found s) (one-last k (not (is_some (stop_of (events h) s))) (actions.Finish s))
    (behind-none (finishes k) (sends_on k) (session_gone_actions side h found s) (none-gone (finishes k) (λ j c. refl) (λ j c. refl) side h found s)) (λ r. gone-sends-not side h found s k)

none-last : (k : ℕ) (as_ : List Action) → list_any (finishes k) as_ ≡ false → Last k as_
none-last k as_ e = behind-none (finishes k) (sends_on k) as_ e

shake-last : (side : Side) (h : History) (k : ℕ) (c : Call) (frame : List ℕ) (a : Answer) → Shake side h c frame a → Last k a.actions
shake-last side h k c frame a (Shut r o) = tt
shake-last side h k c frame a (Still r g) = tt
shake-last side h k c frame a (Shuts r code g m) = none-last k (close_if_open h code) (close-none k h code)
shake-last side h k c frame a (Goes r g) = none-last k (rest h c frame) (rest-none h k c frame)
shake-last side h k c frame a (GoesShuts r code g m) = none-last k (rest h c frame ++ close_if_open h code) (none-append (finishes k) (rest h c frame) (close_if_open h code) (rest-none h k c frame) (close-none k h code))
shake-last side h k c frame a (Finishes r m) =
    behind-append (finishes k) (sends_on k) (rest h c frame) (actions.Finish (head_stream h c) ∷ []) (none-last k (rest h c frame) (rest-none h k c frame)) (λ r. refl, tt)
    (λ r. absurd (clash (list_any (finishes k) (rest h c frame)) r (rest-none h k c frame)))
shake-last side h k c frame a (Rejects r b code m) =
    none-last k (session_gone_actions side h (findings side h) (head_stream h c) ++ (if b then close_if_open h code else []))
    (none-append (finishes k) (session_gone_actions side h (findings side h) (head_stream h c)) (if b then close_if_open h code else []) (gone-none k side h (head_stream h c)) (of b))
  where
    of : (b : Bool) → list_any (finishes k) (if b then close_if_open h code else []) ≡ false
    of true = close-none k h code
    of false = refl

own-last : (side : Side) (h : History) (k : ℕ) (turn : Turn) → Last k (own_answer side h turn).actions
own-last side h k (turns.Call call) = by (own_answer side h (turns.Call call)) (shape side h call).first
  where
    by : (b : Answer) → Shape side h call b → Last k b.actions
    by b (Nothing r n) = tt
    by b Nought = tt
    by b (Alone r t x n u m o) = one-last k t x
    by b (Writing id bytes piece r ho cl pi ac sa wr) = none-last k (send h id bytes) (send-none k h id bytes)
    by b (Polling id s name r c be na li ha) = none-last k (send h id (head_left h id (stream_header id s))) (send-none k h id (head_left h id (stream_header id s)))
    by b (Finishing id c ha n) = (λ r. refl, tt)
    by b (Resetting id code c g n) = one-last k (is_open h) (actions.ResetOut id code)
    by b (Ending s name c m o v) = finish-gone side h (findings side h) s k
    by b (Handshaking c p g e d y) = shake-last side h k c (head_of (Some c)) d y
own-last side h k turn = tt

-- ---- what goes out for findings

found-last : (side : Side) (h : History) (found : List Finding) (k : ℕ) (f : Finding) → Last k (actions_for side h found f)
found-last side h found k (Classified id (verdicts.WebTransport session offset) false) = (λ r. refl, tt)
found-last side h found k (Classified id (verdicts.Refused code) keeps) = none-last k (actions_for side h found (Classified id (verdicts.Refused code) keeps)) (none-gone (finishes k) (λ j c. refl) (λ j c. refl) side h found id)
found-last side h found k (Classified id (verdicts.Request headers offset) false) = none-last k (actions_for side h found (Classified id (verdicts.Request headers offset) false)) (none-gone (finishes k) (λ j c. refl) (λ j c. refl) side h found id)
found-last side h found k (SessionClosed session code reason true) = none-last k (actions_for side h found (SessionClosed session code reason true)) (none-gone (finishes k) (λ j c. refl) (λ j c. refl) side h found session)
found-last side h found k (SessionClosed session code reason false) = finish-gone side h found session k
found-last side h found k (Faulted code) = (λ r. refl, tt)
found-last side h found k f = tt

all-last : (side : Side) (h : History) (k : ℕ) (new found : List Finding) → Once k new → Last k (actions_for_all side h found new)
all-last side h k [] found o = tt
all-last side h k (f ∷ new) found o =
    behind-append (finishes k) (sends_on k) (actions_for side h found f) (actions_for_all side h (found ++ f ∷ []) new) (found-last side h found k f) (all-last side h k new (found ++ f ∷ []) o.1)
    (λ r. by (list_any (sends_on k) (actions_for_all side h (found ++ f ∷ []) new)) refl r)
  where
    by : (b : Bool) → list_any (sends_on k) (actions_for_all side h (found ++ f ∷ []) new) ≡ b → list_any (finishes k) (actions_for side h found f) ≡ true → b ≡ false
    by false q r = refl
    by true q r =
        let now = closed-gone k (f ∷ []) (all-sends side h k found (f ∷ []) (ap (list_any (sends_on k)) (append-nil (actions_for side h found f)) ∙ fin-sends k (actions_for side h found f) r)) in
        let later = closed-gone k new (all-sends side h k (found ++ f ∷ []) new q) in
        absurd (clash (list_any (makes_gone k) new) later (o.0 (only (makes_gone k f) now)))
      where
        only : (c : Bool) → (c || false) ≡ true → c ≡ true
        only true e = refl
        only false e = e

-- ---- an answer

last-answer : (side : Side) (h : History) (turn : Turn) → IsHistory side h → is_lawful side h turn ≡ true → (k : ℕ) → Last k (next side h turn).actions
last-answer side h turn i l k =
    last-join k [] ((own_answer side h turn).actions ++ moment)
    (behind-append (finishes k) (sends_on k) (own_answer side h turn).actions moment (own-last side h k turn) (moment-last (is_open (q ∷ h))) (λ r. across r (list_any (sends_on k) moment) refl))
  where
    q : Pair
    q = record { turn = turn; answer = own_answer side h turn }

    p : Pair
    p = record { turn = turn; answer = next side h turn }

    all : IsHistory side (p ∷ h)
    all = (l, refl, i)

    moment : List Action
    moment = moment_actions side (q ∷ h)

    moment-last : (b : Bool) → Last k (if b then control_actions side (q ∷ h) ++ actions_for_all side (q ∷ h) (findings side h) (drop (length (findings side h)) (findings side (q ∷ h))) else [])
    moment-last false = tt
    moment-last true =
        behind-append (finishes k) (sends_on k) (control_actions side (q ∷ h)) _ (none-last k (control_actions side (q ∷ h)) control-none)
        (subst (λ (xs : List Finding). Last k (actions_for_all side (q ∷ h) (findings side h) xs)) (sym (news-dropped side q h))
        (all-last side (q ∷ h) k (news side q h) (findings side h) (subst (Once k) (sym (same-news side h turn)) (gone-once side p h k (stream-known side p h all k)))))
        (λ r. absurd (clash (list_any (finishes k) (control_actions side (q ∷ h))) r control-none))
      where
        control-none : list_any (finishes k) (control_actions side (q ∷ h)) ≡ false
        control-none = none-control (finishes k) side (q ∷ h) refl (λ z. refl)

    never : list_any (finishes k) (own_answer side h turn).actions ≡ true → MomentSends side q h k → ⊥
    never r (Control e) =
        control-answer side h turn i l
        (any-next (finishes (local_uni side)) (λ j x y. refl) side h turn ∙ ap (λ (b : Bool). b || list_any (finishes (local_uni side)) moment) (ap (λ (j : ℕ). list_any (finishes j) (own_answer side h turn).actions) (eqb-true (local_uni side) k e) ∙ r))
    never r (OfClosed e) = by (why-own side h k turn r)
      where
        lived : lives (p ∷ h) (findings side h) k ≡ true
        lived = closed-lived side p h k (ap (list_any (closes_session k)) (sym (same-news side h turn)) ∙ e)

        stands : is_established (p ∷ h) k ≡ true
        stands = and-left (is_established (p ∷ h) k) _ lived

        by : FinishWhy side h k turn → ⊥
        by (ByFinish id t s) =
            let y = ap (is_handed_out h) (sym s) ∙ finish-handed side h k id (ap (λ (x : Turn). list_any (finishes k) (own_answer side h x).actions) (sym t) ∙ r) in
            clash (is_handed_out (p ∷ h) k) (ap (λ (b : Bool). hands_out k (next side h turn).reply || b) y ∙ or-true (hands_out k (next side h turn).reply)) (begun-kept side (p ∷ h) all k (established-begun side (p ∷ h) all k stands))
        by (EndsSession name t m o s) =
            clash (is_gone (p ∷ h) (findings side h) k) (ap (λ (b : Bool). (b || is_gone_by_call h k) || list_any (makes_gone k) (findings side h)) (ends-gone side h k name turn t m o))
            (not-true (is_gone (p ∷ h) (findings side h) k) (and-right (is_established (p ∷ h) k) _ lived))
        by (Responds c g x y s) = rejected-polled side h turn i l k c g x y s r stands

    across : list_any (finishes k) (own_answer side h turn).actions ≡ true → (b : Bool) → list_any (sends_on k) moment ≡ b → b ≡ false
    across r false e = refl
    across r true e = absurd (never r (moment-sends side q h k e))

pub silent_after_finish : (side : Side) (h : History) (turn : Turn) → IsHistory side h → is_lawful side h turn ≡ true → (k : ℕ) → SilentAfterFinish h (next side h turn) k
silent_after_finish side h turn i l k = record { later = silent-later side h turn i l k; behind = last-answer side h turn i l k }
