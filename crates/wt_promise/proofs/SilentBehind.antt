-- Nothing stands behind a reset in one answer.
use Rattle.wt_promise.proofs.Statements.{SilentAfterReset}
use Rattle.std.specs.Prelude.{[], ◌++◌, ◌||◌, ◌∷◌, ◌≡◌, Bool, List, Some, drop, false, if◌then◌else◌, is_some, length, not, true, ℕ}
use Rattle.std.specs.List.{list_any}
use Rattle.std.proofs.Common.{◌∙◌, ap, append_assoc, refl, subst, sym}
use Rattle.std.proofs.lemmas.Bool.{eqb-true}
use Rattle.wt_meaning.specs.Findings.{Classified, Faulted, Finding, SessionClosed}
use Rattle.wt_meaning.specs.History.{History, Pair, actions_out, answers_reset, events, hands_out, is_handed_out, is_open, is_reset, is_reset_of}
use Rattle.wt_meaning.specs.Lawful.{is_lawful}
use Rattle.wt_meaning.specs.Meaning.{next, own_answer}
use Rattle.wt_meaning.specs.Moments.{findings}
use Rattle.wt_meaning.specs.Sends.{actions_for, actions_for_all, control_actions, is_of_session, moment_actions, session_finish, session_gone_actions}
use Rattle.wt_meaning.specs.Windows.{is_established, makes_gone, named}
use Rattle.wt_promise.proofs.Accepted.{and-left, or-first, or-true}
use Rattle.wt_promise.proofs.Actions.{any-next, none-control, none-if}
use Rattle.wt_promise.proofs.Begun.{BegunFor}
use Rattle.wt_promise.proofs.Behind.{Quiet, behind-append, behind-none, gone-quiet, neither-acts, quiet-join}
use Rattle.wt_promise.proofs.Flow.{clash}
use Rattle.wt_promise.proofs.Grows.{findings-add, is_peers, news, news-dropped}
use Rattle.wt_promise.proofs.HandedOut.{opened-local}
use Rattle.wt_promise.proofs.Heads.{begun-kept, begun-not-admitted, begun-not-opened}
use Rattle.wt_promise.proofs.MomentActs.{Closing, Control, Going, MomentSends, NewReset, OfClosed, all-resets, all-sends, closed-gone, closed-lived, closes_session, found-resets, moment-resets, moment-sends, of-more}
use Rattle.wt_promise.proofs.Once.{Once, StreamKnown, gone-once}
use Rattle.wt_promise.proofs.OpenStays.{same-news}
use Rattle.wt_promise.proofs.OwnActs.{GoneBy, Held, ResetsWhy, gone-sends-not, reset-of-session}
use Rattle.wt_promise.proofs.OwnCalls.{own-acts}
use Rattle.wt_promise.proofs.Phases.{phase}
use Rattle.wt_promise.proofs.Silent.{client-zero, established-begun, silent-control, silent-later}
use Rattle.wt_promise.proofs.Stays.{any-newest}
use Rattle.wt_promise.proofs.Verdicts.{admitted-once, admitted-peers, given-classified}
use Rattle.wt_promise.proofs.WasReset.{Admitted, Of, Opened, WasReset, new-reset, of-is, of-later, of-next, opened-first}
use Rattle.wt_promise.specs.Promise.{IsHistory, acts_on, sends_on}
use Rattle.wt_turn.specs.Reports.{stop_of}
use Rattle.wt_turn.specs.Streams.{local_uni}
use Rattle.wt_turn.specs.declared.action.Action.{Action}
use Rattle.wt_turn.specs.declared.answer.Answer.{Answer}
use Rattle.wt_turn.specs.declared.turn.Turn.{Turn}
use Rattle.wt_wire.specs.declared.side.Side.{Side}
use Rattle.wt_wire.specs.declared.side.Side.TheVariants.{Client, Server}
use Rattle.wt_proto.specs.declared.verdict.Verdict.TheVariants as verdicts
use Rattle.wt_turn.specs.declared.action.Action.TheVariants as actions

-- ---- whose stream it is

-- a session's own stream is of no session
begun-not-of : (side : Side) (h : History) → IsHistory side h → (k s : ℕ) → BegunFor side h k → Of h (findings side h) s k → ⊥
begun-not-of side h i k s b (Admitted e) = begun-not-admitted side h i k s b e
begun-not-of side h i k s b (Opened name o n) = begun-not-opened side h i k b name (opened-first side h i k name o)

-- a stream is of one session
of-one : (side : Side) (h : History) → IsHistory side h → (k s t : ℕ) → Of h (findings side h) s k → Of h (findings side h) t k → s ≡ t
of-one side h i k s t (Admitted e) (Admitted f) = admitted-once side h s t k e f
of-one side h i k s t (Admitted e) (Opened name o n) = absurd (clash (is_peers side k) (admitted-peers side h s k e) (opened-local side h i k (ap is_some (opened-first side h i k name o))))
of-one side h i k s t (Opened name o n) (Admitted e) = absurd (clash (is_peers side k) (admitted-peers side h t k e) (opened-local side h i k (ap is_some (opened-first side h i k name o))))
of-one side h i k s t (Opened name o n) (Opened other x m) =
    let a : Some name ≡ Some other = sym (opened-first side h i k name o) ∙ opened-first side h i k other x in
    let b : name ≡ other = cc a in
    let c : Some s ≡ Some t = sym n ∙ ap (named h) b ∙ m in cc c

pub stream-known : (side : Side) (p : Pair) (h : History) → IsHistory side (p ∷ h) → (s : ℕ) → StreamKnown side (p ∷ h) h s
stream-known Client p h i s = λ e q. absurd (let r : is_peers Client 0 ≡ true = ap (is_peers Client) (sym (client-zero (p ∷ h) i s e)) ∙ q in cc r)
stream-known Server p h i s = λ e q. given-classified Server p h i s ((phase (p ∷ h) i).known s e)

-- ---- what goes out for the findings of a moment

-- what is so of the history after the call's own actions, of all that is found, and of what is new
record Facts (h : History) (k : ℕ) (whole new : List Finding) : Type 0 where
  apart : list_any (closes_session k) new ≡ true → (s : ℕ) → is_of_session h whole s k ≡ true → ⊥
  one : (s t : ℕ) → is_of_session h whole s k ≡ true → is_of_session h whole t k ≡ true → s ≡ t

twice : (k s : ℕ) (f : Finding) (later : List Finding) → Once s (f ∷ later) → list_any (makes_gone s) (f ∷ []) ≡ true → list_any (makes_gone s) later ≡ true → ⊥
twice k s f later o a b = clash (list_any (makes_gone s) later) b (o.0 (or-first (makes_gone s f) false a refl))

never : (h : History) (k : ℕ) (whole new : List Finding) → Facts h k whole new → (found : List Finding) (f : Finding) (later : List Finding) → whole ≡ (found ++ f ∷ []) ++ later → ((s : ℕ) → Once s (f ∷ later))
    → (list_any (closes_session k) (f ∷ later) ≡ true → list_any (closes_session k) new ≡ true) → NewReset h k (found ++ f ∷ []) (f ∷ []) → NewReset h k ((found ++ f ∷ []) ++ later) later → ⊥
never h k whole new facts found f later e o c (Closing x) (Closing y) = twice k k f later (o k) (closed-gone k (f ∷ []) x) (closed-gone k later y)
never h k whole new facts found f later e o c (Closing x) (Going t m w n) =
    facts.apart (c (in-first (closes_session k f) x)) t (ap (λ (xs : List Finding). is_of_session h xs t k) e ∙ w)
  where
    in-first : (b : Bool) → (b || false) ≡ true → (b || list_any (closes_session k) later) ≡ true
    in-first true q = refl
    in-first false q = absurd (cc q)
never h k whole new facts found f later e o c (Going s m w n) (Closing y) =
    facts.apart (c (ap (λ (b : Bool). closes_session k f || b) y ∙ or-true (closes_session k f))) s (ap (λ (xs : List Finding). is_of_session h xs s k) e ∙ of-more h (found ++ f ∷ []) later s k w)
never h k whole new facts found f later e o c (Going s m w n) (Going t x y z) =
    let same : s ≡ t = facts.one s t (ap (λ (xs : List Finding). is_of_session h xs s k) e ∙ of-more h (found ++ f ∷ []) later s k w) (ap (λ (xs : List Finding). is_of_session h xs t k) e ∙ y) in
    twice k s f later (o s) m (ap (λ (j : ℕ). list_any (makes_gone j) later) same ∙ x)

-- of one finding
finding-quiet : (side : Side) (h : History) (k : ℕ) (whole new : List Finding) → Facts h k whole new → (found : List Finding) (f : Finding) (later : List Finding) → whole ≡ found ++ f ∷ later
    → (closes_session k f ≡ true → list_any (closes_session k) new ≡ true) → Quiet k (actions_for side h found f)
finding-quiet side h k whole new facts found f later e c = by f refl
  where
    none-else : (s : ℕ) → list_any (closes_session k) new ≡ true → list_any (acts_on k) (session_gone_actions side h found s) ≡ false
    none-else s x = neither-acts k (session_gone_actions side h found s) (gone-sends-not side h found s k) (of (list_any (is_reset_of k) (session_gone_actions side h found s)) refl)
      where
        of : (b : Bool) → list_any (is_reset_of k) (session_gone_actions side h found s) ≡ b → b ≡ false
        of false q = refl
        of true q = absurd (facts.apart x s (ap (λ (xs : List Finding). is_of_session h xs s k) e ∙ of-more h found (f ∷ later) s k (reset-of-session side h found s k q)))

    no-reset : (s : ℕ) → list_any (is_reset_of k) (session_finish h s) ≡ false
    no-reset s = none-if (is_reset_of k) (not (is_some (stop_of (events h) s))) (actions.Finish s) refl

    by : (x : Finding) → f ≡ x → Quiet k (actions_for side h found x)
    by (Classified id (verdicts.WebTransport session offset) false) w = ((λ r. absurd (cc r)), tt)
    by (Classified id (verdicts.Refused code) keeps) w = ((λ r. absurd (cc r)), gone-quiet side h found id k)
    by (Classified id (verdicts.Request headers offset) false) w = ((λ r. absurd (cc r)), gone-quiet side h found id k)
    by (SessionClosed session code reason true) w = ((λ r. none-else session (c (ap (closes_session k) w ∙ r))), gone-quiet side h found session k)
    by (SessionClosed session code reason false) w =
        behind-append (is_reset_of k) (acts_on k) (session_finish h session) (session_gone_actions side h found session) (behind-none (is_reset_of k) (acts_on k) (session_finish h session) (no-reset session)) (gone-quiet side h found session k)
        (λ r. absurd (clash (list_any (is_reset_of k) (session_finish h session)) r (no-reset session)))
    by (Faulted code) w = ((λ r. absurd (cc r)), tt)
    by x w = tt

findings-quiet : (side : Side) (h : History) (k : ℕ) (whole new : List Finding) → Facts h k whole new → (found later : List Finding) → whole ≡ found ++ later → ((s : ℕ) → Once s later)
    → (list_any (closes_session k) later ≡ true → list_any (closes_session k) new ≡ true) → Quiet k (actions_for_all side h found later)
findings-quiet side h k whole new facts found [] e o c = tt
findings-quiet side h k whole new facts found (f ∷ later) e o c =
    behind-append (is_reset_of k) (acts_on k) (actions_for side h found f) rest (finding-quiet side h k whole new facts found f later e (λ x. c (ap (λ (b : Bool). b || list_any (closes_session k) later) x)))
    (findings-quiet side h k whole new facts (found ++ f ∷ []) later front (λ s. (o s).1) (λ x. c (ap (λ (b : Bool). closes_session k f || b) x ∙ or-true (closes_session k f))))
    (λ r. neither-acts k rest (no-sends r (list_any (sends_on k) rest) refl) (no-resets r (list_any (is_reset_of k) rest) refl))
  where
    rest : List Action
    rest = actions_for_all side h (found ++ f ∷ []) later

    front : whole ≡ (found ++ f ∷ []) ++ later
    front = e ∙ sym (append_assoc found (f ∷ []) later)

    no-resets : list_any (is_reset_of k) (actions_for side h found f) ≡ true → (b : Bool) → list_any (is_reset_of k) rest ≡ b → b ≡ false
    no-resets r false q = refl
    no-resets r true q = absurd (never h k whole new facts found f later front o c (found-resets side h k found f [] r) (all-resets side h k (found ++ f ∷ []) later q))

    no-sends : list_any (is_reset_of k) (actions_for side h found f) ≡ true → (b : Bool) → list_any (sends_on k) rest ≡ b → b ≡ false
    no-sends r false q = refl
    no-sends r true q = absurd (never h k whole new facts found f later front o c (found-resets side h k found f [] r) (Closing (all-sends side h k (found ++ f ∷ []) later q)))

-- ---- an answer

quiet-answer : (side : Side) (h : History) (turn : Turn) → IsHistory side h → is_lawful side h turn ≡ true → (k : ℕ) → Quiet k (next side h turn).actions
quiet-answer side h turn i l k =
    quiet-join k [] (own.actions ++ moment) (behind-append (is_reset_of k) (acts_on k) own.actions moment (own-acts side h k turn i l).quiet (moment-quiet (is_open (q ∷ h)))
    (λ r. neither-acts k moment (no-sends r (list_any (sends_on k) moment) refl) (no-resets r (list_any (is_reset_of k) moment) refl)))
  where
    own : Answer
    own = own_answer side h turn

    q : Pair
    q = record { turn = turn; answer = own }

    p : Pair
    p = record { turn = turn; answer = next side h turn }

    all : IsHistory side (p ∷ h)
    all = (l, refl, i)

    moment : List Action
    moment = moment_actions side (q ∷ h)

    begun : list_any (closes_session k) (news side q h) ≡ true → BegunFor side (p ∷ h) k
    begun e = established-begun side (p ∷ h) all k (and-left (is_established (p ∷ h) k) _ (closed-lived side p h k (ap (list_any (closes_session k)) (sym (same-news side h turn)) ∙ e)))

    facts : Facts (q ∷ h) k (findings side (q ∷ h)) (news side q h)
    facts = record {
      apart = λ e s o. begun-not-of side (p ∷ h) all k s (begun e) (of-next side h turn s k o);
      one = λ s t o w. of-one side (p ∷ h) all k s t (of-next side h turn s k o) (of-next side h turn t k w);
    }

    found-quiet : Quiet k (actions_for_all side (q ∷ h) (findings side h) (drop (length (findings side h)) (findings side (q ∷ h))))
    found-quiet =
        subst (λ (xs : List Finding). Quiet k (actions_for_all side (q ∷ h) (findings side h) xs)) (sym (news-dropped side q h))
        (findings-quiet side (q ∷ h) k (findings side (q ∷ h)) (news side q h) facts (findings side h) (news side q h) (findings-add side q h)
        (λ s. subst (Once s) (sym (same-news side h turn)) (gone-once side p h s (stream-known side p h all s))) (λ x. x))

    control-none : list_any (is_reset_of k) (control_actions side (q ∷ h)) ≡ false
    control-none = none-control (is_reset_of k) side (q ∷ h) refl (λ z. refl)

    moment-quiet : (b : Bool) → Quiet k (if b then control_actions side (q ∷ h) ++ actions_for_all side (q ∷ h) (findings side h) (drop (length (findings side h)) (findings side (q ∷ h))) else [])
    moment-quiet false = tt
    moment-quiet true =
        behind-append (is_reset_of k) (acts_on k) (control_actions side (q ∷ h)) _ (behind-none (is_reset_of k) (acts_on k) (control_actions side (q ∷ h)) control-none) found-quiet
        (λ r. absurd (clash (list_any (is_reset_of k) (control_actions side (q ∷ h))) r control-none))

    -- the stream that a call resets is no session's own, nor this end's control stream
    not-begun : BegunFor side (p ∷ h) k → ResetsWhy side h k turn own.reply → ⊥
    not-begun b (Held x) = clash (is_handed_out (p ∷ h) k) (ap (λ (c : Bool). hands_out k p.answer.reply || c) x ∙ or-true (hands_out k p.answer.reply)) (begun-kept side (p ∷ h) all k b)
    not-begun b (GoneBy s o n) =
        begun-not-of side (p ∷ h) all k s b (subst (λ (xs : List Finding). Of (p ∷ h) xs s k) (sym (findings-add side p h)) (of-later p h (findings side h) (news side p h) s k (of-is h (findings side h) s k o)))

    was : list_any (is_reset_of k) own.actions ≡ true → WasReset side (p ∷ h) k
    was r = new-reset side h turn i l k (any-next (is_reset_of k) (λ j x y. refl) side h turn ∙ ap (λ (b : Bool). b || list_any (is_reset_of k) moment) r)

    silent : list_any (is_reset_of k) own.actions ≡ true → MomentSends side q h k → ⊥
    silent r (Control e) = silent-control side (p ∷ h) all (subst (WasReset side (p ∷ h)) (sym (eqb-true (local_uni side) k e)) (was r))
    silent r (OfClosed e) = not-begun (begun e) ((own-acts side h k turn i l).resets r)

    again : list_any (is_reset_of k) own.actions ≡ true → NewReset (q ∷ h) k (findings side (q ∷ h)) (news side q h) → ⊥
    again r (Closing c) = not-begun (begun c) ((own-acts side h k turn i l).resets r)
    again r (Going s m o n) =
        clash (is_reset (q ∷ h) k)
        (ap (λ (b : Bool). b || (answers_reset k turn own.reply || list_any (λ (x : Pair). answers_reset k x.turn x.answer.reply) h))
        (any-newest (is_reset_of k) own.actions (actions_out h) ∙ ap (λ (b : Bool). b || list_any (is_reset_of k) (actions_out h)) r)) n

    no-sends : list_any (is_reset_of k) own.actions ≡ true → (b : Bool) → list_any (sends_on k) moment ≡ b → b ≡ false
    no-sends r false e = refl
    no-sends r true e = absurd (silent r (moment-sends side q h k e))

    no-resets : list_any (is_reset_of k) own.actions ≡ true → (b : Bool) → list_any (is_reset_of k) moment ≡ b → b ≡ false
    no-resets r false e = refl
    no-resets r true e = absurd (again r (moment-resets side q h k e))

pub silent-after-reset : (side : Side) (h : History) (turn : Turn) → IsHistory side h → is_lawful side h turn ≡ true → (k : ℕ) → SilentAfterReset h (next side h turn) k
silent-after-reset side h turn i l k = record { later = silent-later side h turn i l k; behind = quiet-answer side h turn i l k }
