-- What a moment sends on a stream or finishes, and what it resets: for its control stream, and for sessions that are closed.
use Rattle.std.specs.Prelude.{[], ◌&&◌, ◌++◌, ◌==◌, ◌||◌, ◌∷◌, ◌≡◌, Bool, List, drop, false, if◌then◌else◌, is_some, length, not, true, ℕ}
use Rattle.std.specs.List.{list_any}
use Rattle.std.proofs.Common.{◌∙◌, ap, append_assoc, refl, subst, sym}
use Rattle.std.proofs.Math.Seq.{drop-append_seam}
use Rattle.std.proofs.lemmas.Bool.{eq-eqb, eqb-true}
use Rattle.std.proofs.lemmas.List.{append-nil}
use Rattle.std.proofs.lemmas.List.Folds.{list_any-append}
use Rattle.wt_meaning.specs.Findings.{Classified, Faulted, Finding, SessionClosed}
use Rattle.wt_meaning.specs.History.{History, Pair, events, is_open, is_reset, is_reset_of}
use Rattle.wt_meaning.specs.Moments.{findings, stream_fault}
use Rattle.wt_meaning.specs.Sends.{actions_for, actions_for_all, admits, control_actions, is_of_session, moment_actions, session_finish, session_gone_actions}
use Rattle.wt_meaning.specs.Windows.{is_established, is_gone_by_call, lives, makes_gone}
use Rattle.wt_promise.proofs.Accepted.{or-true}
use Rattle.wt_promise.proofs.Actions.{none-control, none-if}
use Rattle.wt_promise.proofs.Flow.{clash}
use Rattle.wt_promise.proofs.Grows.{AClassified, AClosed, ADatagram, ADequeued, AFault, ASettings, Adds, Nothing, findings-add, findings-keep, news, news-dropped, of-stream-fault}
use Rattle.wt_promise.proofs.OwnActs.{gone-sends-not, reset-new, reset-of-session}
use Rattle.wt_promise.specs.Promise.{sends_on}
use Rattle.wt_proto.specs.declared.verdict.Verdict.{Verdict}
use Rattle.wt_turn.specs.Reports.{stop_of}
use Rattle.wt_turn.specs.Streams.{local_uni}
use Rattle.wt_turn.specs.declared.action.Action.{Action}
use Rattle.wt_wire.specs.declared.side.Side.{Side}
use Rattle.wt_proto.specs.declared.verdict.Verdict.TheVariants as verdicts
use Rattle.wt_turn.specs.declared.action.Action.TheVariants as actions

-- the finding closes this session
abbrev pub closes_session : ℕ → Finding → Bool
closes_session k (SessionClosed session code reason by_capsule) = session == k
closes_session k _ = false

-- what closes it makes it gone
pub closed-gone : (k : ℕ) (new : List Finding) → list_any (closes_session k) new ≡ true → list_any (makes_gone k) new ≡ true
closed-gone k [] e = absurd (cc e)
closed-gone k (f ∷ new) e = by f e (closed-gone k new)
  where
    either : (a b c : Bool) → (a || b) ≡ true → (b ≡ true → c ≡ true) → (a || c) ≡ true
    either true b c q again = refl
    either false b c q again = again q

    by : (x : Finding) → (closes_session k x || list_any (closes_session k) new) ≡ true → (list_any (closes_session k) new ≡ true → list_any (makes_gone k) new ≡ true) → (makes_gone k x || list_any (makes_gone k) new) ≡ true
    by (SessionClosed session code reason by_capsule) q again = either (session == k) (list_any (closes_session k) new) (list_any (makes_gone k) new) q again
    by x q again = ap (λ (b : Bool). makes_gone k x || b) (again q) ∙ or-true (makes_gone k x)

-- ---- lists of actions

pub or-either : {P : Type 0} (a b : Bool) → (a || b) ≡ true → (a ≡ true → P) → (b ≡ true → P) → P
or-either true b e f g = f refl
or-either false b e f g = g e

in-append : {P : Type 0} (test : Action → Bool) (xs ys : List Action) → list_any test (xs ++ ys) ≡ true → (list_any test xs ≡ true → P) → (list_any test ys ≡ true → P) → P
in-append {P = P} test xs ys e f g = or-either {P = P} (list_any test xs) (list_any test ys) (sym (list_any-append test xs ys) ∙ e) f g

-- ---- what is sent for a finding

finish-this : (h : History) (s k : ℕ) → list_any (sends_on k) (session_finish h s) ≡ true → (s == k) ≡ true
finish-this h s k e = by (s == k) refl
  where
    by : (b : Bool) → (s == k) ≡ b → b ≡ true
    by true q = refl
    by false q = absurd (clash (list_any (sends_on k) (session_finish h s)) e (none-if (sends_on k) (not (is_some (stop_of (events h) s))) (actions.Finish s) q))

found-sends : (side : Side) (h : History) (k : ℕ) (found : List Finding) (f : Finding) → list_any (sends_on k) (actions_for side h found f) ≡ true → closes_session k f ≡ true
found-sends side h k found (Classified id (verdicts.WebTransport session offset) false) e = absurd (cc e)
found-sends side h k found (Classified id (verdicts.Refused code) keeps) e = absurd (clash (list_any (sends_on k) (session_gone_actions side h found id)) e (gone-sends-not side h found id k))
found-sends side h k found (Classified id (verdicts.Request headers offset) false) e = absurd (clash (list_any (sends_on k) (session_gone_actions side h found id)) e (gone-sends-not side h found id k))
found-sends side h k found (SessionClosed session code reason true) e = absurd (clash (list_any (sends_on k) (session_gone_actions side h found session)) e (gone-sends-not side h found session k))
found-sends side h k found (SessionClosed session code reason false) e =
    in-append {P = (session == k) ≡ true} (sends_on k) (session_finish h session) (session_gone_actions side h found session) e (λ x. finish-this h session k x)
    (λ x. absurd (clash (list_any (sends_on k) (session_gone_actions side h found session)) x (gone-sends-not side h found session k)))
found-sends side h k found (Faulted code) e = absurd (cc e)
found-sends side h k found f e = absurd (cc e)

pub all-sends : (side : Side) (h : History) (k : ℕ) (before new : List Finding) → list_any (sends_on k) (actions_for_all side h before new) ≡ true → list_any (closes_session k) new ≡ true
all-sends side h k before [] e = absurd (cc e)
all-sends side h k before (f ∷ new) e =
    in-append {P = (closes_session k f || list_any (closes_session k) new) ≡ true} (sends_on k) (actions_for side h before f) (actions_for_all side h (before ++ f ∷ []) new) e
    (λ x. ap (λ (b : Bool). b || list_any (closes_session k) new) (found-sends side h k before f x))
    (λ x. ap (λ (b : Bool). closes_session k f || b) (all-sends side h k (before ++ f ∷ []) new x) ∙ or-true (closes_session k f))

-- ---- what is reset for a finding

pub data NewReset (h : History) (k : ℕ) (all new : List Finding) : Type 0 where
  Closing : list_any (closes_session k) new ≡ true → NewReset h k all new
  Going : (s : ℕ) → list_any (makes_gone s) new ≡ true → is_of_session h all s k ≡ true → is_reset h k ≡ false → NewReset h k all new

pub of-more : (h : History) (found later : List Finding) (s k : ℕ) → is_of_session h found s k ≡ true → is_of_session h (found ++ later) s k ≡ true
of-more h found later s k e = ap (λ (b : Bool). b || opened) (list_any-append (admits s k) found later) ∙ by (list_any (admits s k) found) (list_any (admits s k) later) opened e
  where
    opened : Bool
    opened = is_of_session h [] s k

    by : (a b c : Bool) → (a || c) ≡ true → ((a || b) || c) ≡ true
    by true b c q = refl
    by false true c q = refl
    by false false c q = q

pub found-resets : (side : Side) (h : History) (k : ℕ) (found : List Finding) (f : Finding) (later : List Finding) → list_any (is_reset_of k) (actions_for side h found f) ≡ true → NewReset h k (found ++ f ∷ later) (f ∷ later)
found-resets side h k found f later e = by f e refl
  where
    gone : (s : ℕ) → makes_gone s f ≡ true → list_any (is_reset_of k) (session_gone_actions side h found s) ≡ true → NewReset h k (found ++ f ∷ later) (f ∷ later)
    gone s m x = Going s (ap (λ (b : Bool). b || list_any (makes_gone s) later) m) (of-more h found (f ∷ later) s k (reset-of-session side h found s k x)) (reset-new side h found s k x)

    same : (n : ℕ) → (n == n) ≡ true
    same n = eq-eqb n n refl

    by : (x : Finding) → list_any (is_reset_of k) (actions_for side h found x) ≡ true → f ≡ x → NewReset h k (found ++ f ∷ later) (f ∷ later)
    by (Classified id (verdicts.WebTransport session offset) false) q w = absurd (cc q)
    by (Classified id (verdicts.Refused code) keeps) q w = gone id (ap (makes_gone id) w ∙ same id) q
    by (Classified id (verdicts.Request headers offset) false) q w = gone id (ap (makes_gone id) w ∙ same id) q
    by (SessionClosed session code reason true) q w =
        or-either {P = NewReset h k (found ++ f ∷ later) (f ∷ later)} (session == k) (list_any (is_reset_of k) (session_gone_actions side h found session)) q
        (λ x. Closing (ap (λ (b : Bool). b || list_any (closes_session k) later) (ap (closes_session k) w ∙ x))) (gone session (ap (makes_gone session) w ∙ same session))
    by (SessionClosed session code reason false) q w =
        in-append {P = NewReset h k (found ++ f ∷ later) (f ∷ later)} (is_reset_of k) (session_finish h session) (session_gone_actions side h found session) q
        (λ x. absurd (clash (list_any (is_reset_of k) (session_finish h session)) x (none-if (is_reset_of k) (not (is_some (stop_of (events h) session))) (actions.Finish session) refl)))
        (gone session (ap (makes_gone session) w ∙ same session))
    by (Faulted code) q w = absurd (cc q)
    by x q w = absurd (cc q)

pub all-resets : (side : Side) (h : History) (k : ℕ) (before new : List Finding) → list_any (is_reset_of k) (actions_for_all side h before new) ≡ true → NewReset h k (before ++ new) new
all-resets side h k before [] e = absurd (cc e)
all-resets side h k before (f ∷ new) e =
    in-append {P = NewReset h k (before ++ f ∷ new) (f ∷ new)} (is_reset_of k) (actions_for side h before f) (actions_for_all side h (before ++ f ∷ []) new) e
    (λ x. found-resets side h k before f new x) (λ x. later (all-resets side h k (before ++ f ∷ []) new x))
  where
    later : NewReset h k ((before ++ f ∷ []) ++ new) new → NewReset h k (before ++ f ∷ new) (f ∷ new)
    later (Closing c) = Closing (ap (λ (b : Bool). closes_session k f || b) c ∙ or-true (closes_session k f))
    later (Going s m o n) =
        Going s (ap (λ (b : Bool). makes_gone s f || b) m ∙ or-true (makes_gone s f)) (ap (λ (xs : List Finding). is_of_session h xs s k) (sym (append_assoc before (f ∷ []) new)) ∙ o) n

-- ---- a moment

pub data MomentSends (side : Side) (p : Pair) (h : History) (k : ℕ) : Type 0 where
  Control : (local_uni side == k) ≡ true → MomentSends side p h k
  OfClosed : list_any (closes_session k) (news side p h) ≡ true → MomentSends side p h k

pub moment-sends : (side : Side) (p : Pair) (h : History) (k : ℕ) → list_any (sends_on k) (moment_actions side (p ∷ h)) ≡ true → MomentSends side p h k
moment-sends side p h k e = by (is_open (p ∷ h)) e
  where
    new : List Finding
    new = drop (length (findings side h)) (findings side (p ∷ h))

    control : list_any (sends_on k) (control_actions side (p ∷ h)) ≡ true → MomentSends side p h k
    control x = of (local_uni side == k) refl
      where
        of : (b : Bool) → (local_uni side == k) ≡ b → MomentSends side p h k
        of true q = Control q
        of false q = absurd (clash (list_any (sends_on k) (control_actions side (p ∷ h))) x (none-control (sends_on k) side (p ∷ h) refl (λ y. q)))

    by : (b : Bool) → list_any (sends_on k) (if b then control_actions side (p ∷ h) ++ actions_for_all side (p ∷ h) (findings side h) new else []) ≡ true → MomentSends side p h k
    by true x = in-append {P = MomentSends side p h k} (sends_on k) (control_actions side (p ∷ h)) (actions_for_all side (p ∷ h) (findings side h) new) x control
        (λ y. OfClosed (ap (list_any (closes_session k)) (sym (news-dropped side p h)) ∙ all-sends side (p ∷ h) k (findings side h) new y))
    by false x = absurd (cc x)

pub moment-resets : (side : Side) (p : Pair) (h : History) (k : ℕ) → list_any (is_reset_of k) (moment_actions side (p ∷ h)) ≡ true → NewReset (p ∷ h) k (findings side (p ∷ h)) (news side p h)
moment-resets side p h k e = by (is_open (p ∷ h)) e
  where
    new : List Finding
    new = drop (length (findings side h)) (findings side (p ∷ h))

    as-news : NewReset (p ∷ h) k (findings side h ++ new) new → NewReset (p ∷ h) k (findings side (p ∷ h)) (news side p h)
    as-news r =
        let a : NewReset (p ∷ h) k (findings side h ++ news side p h) (news side p h) = subst (λ (xs : List Finding). NewReset (p ∷ h) k (findings side h ++ xs) xs) (news-dropped side p h) r in
        subst (λ (xs : List Finding). NewReset (p ∷ h) k xs (news side p h)) (sym (findings-add side p h)) a

    by : (b : Bool) → list_any (is_reset_of k) (if b then control_actions side (p ∷ h) ++ actions_for_all side (p ∷ h) (findings side h) new else []) ≡ true → NewReset (p ∷ h) k (findings side (p ∷ h)) (news side p h)
    by true x = in-append {P = NewReset (p ∷ h) k (findings side (p ∷ h)) (news side p h)} (is_reset_of k) (control_actions side (p ∷ h)) (actions_for_all side (p ∷ h) (findings side h) new) x
        (λ y. absurd (clash (list_any (is_reset_of k) (control_actions side (p ∷ h))) y (none-control (is_reset_of k) side (p ∷ h) refl (λ z. refl))))
        (λ y. as-news (all-resets side (p ∷ h) k (findings side h) new y))
    by false x = absurd (cc x)

-- ---- a session that is closed lived

pub lives-before : (h : History) (found more : List Finding) (s : ℕ) → lives h (found ++ more) s ≡ true → lives h found s ≡ true
lives-before h found more s e =
    by (is_established h s) (is_gone_by_call h s) (list_any (makes_gone s) found) (list_any (makes_gone s) more)
    (ap (λ (b : Bool). is_established h s && not (is_gone_by_call h s || b)) (sym (list_any-append (makes_gone s) found more)) ∙ e)
  where
    by : (a b c d : Bool) → (a && not (b || (c || d))) ≡ true → (a && not (b || c)) ≡ true
    by false b c d q = q
    by true true c d q = q
    by true false true d q = q
    by true false false d q = refl

-- the findings so far are those before and some more; what of them closes the session found it living
record Since (side : Side) (h before : History) (k : ℕ) (found : List Finding) : Type 0 where
  more : List Finding
  grown : found ≡ findings side before ++ more
  lived : list_any (closes_session k) more ≡ true → lives h (findings side before) k ≡ true

no-closing : (k : ℕ) (found : List Finding) (v : Verdict) → list_any (closes_session k) (stream_fault found v) ≡ false
no-closing k = of-stream-fault (λ (fs : List Finding). list_any (closes_session k) fs ≡ false) refl (λ code. refl)

since-step : (side : Side) (h before : History) (k : ℕ) (found new : List Finding) → Adds side h found new → Since side h before k found → Since side h before k (found ++ new)
since-step side h before k found new a s = record {
  more = s.more ++ new;
  grown = ap (λ (xs : List Finding). xs ++ new) s.grown ∙ append_assoc (findings side before) s.more new;
  lived = λ e. or-either {P = lives h (findings side before) k ≡ true} (list_any (closes_session k) s.more) (list_any (closes_session k) new) (sym (list_any-append (closes_session k) s.more new) ∙ e) s.lived (λ x. by new a x);
}
  where
    by : (xs : List Finding) → Adds side h found xs → list_any (closes_session k) xs ≡ true → lives h (findings side before) k ≡ true
    by xs Nothing x = absurd (cc x)
    by xs (ADequeued j p) x = absurd (cc x)
    by xs (ADatagram n t payload c) x = absurd (cc x)
    by xs (ASettings c) x = absurd (cc x)
    by xs (AFault code) x = absurd (cc x)
    by xs (AClassified j v more p d c w m) x = absurd (clash (list_any (closes_session k) more) x (ap (list_any (closes_session k)) m ∙ no-closing k found v))
    by xs (AClosed t code reason b l) x = this (t == k) refl x
      where
        this : (c : Bool) → (t == k) ≡ c → (c || false) ≡ true → lives h (findings side before) k ≡ true
        this true q y = lives-before h (findings side before) s.more k (ap (λ (ys : List Finding). lives h ys k) (sym s.grown) ∙ ap (lives h found) (sym (eqb-true t k q)) ∙ l)
        this false q y = absurd (cc y)

pub closed-lived : (side : Side) (p : Pair) (h : History) (k : ℕ) → list_any (closes_session k) (news side p h) ≡ true → lives (p ∷ h) (findings side h) k ≡ true
closed-lived side p h k e = s.lived (ap (list_any (closes_session k)) same ∙ e)
  where
    s : Since side (p ∷ h) h k (findings side (p ∷ h))
    s = findings-keep side p h (Since side (p ∷ h) h k) (λ found new a n g. since-step side (p ∷ h) h k found new a g) (record { more = []; grown = sym (append-nil (findings side h)); lived = λ x. absurd (cc x) })

    same : s.more ≡ news side p h
    same = sym (drop-append_seam (findings side h) s.more) ∙ ap (drop (length (findings side h))) (sym s.grown) ∙ news-dropped side p h
