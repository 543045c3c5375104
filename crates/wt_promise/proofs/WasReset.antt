-- Why a stream was reset: the application had it, its session was closed, or it was one of a session that became gone.
use Rattle.std.specs.Prelude.{[], ◌++◌, ◌==◌, ◌||◌, ◌∷◌, ◌≡◌, Bool, List, None, Option, Some, false, if◌then◌else◌, true, ℕ}
use Rattle.std.specs.List.{list_any}
use Rattle.std.specs.Option.{option_or}
use Rattle.std.proofs.Common.{◌∙◌, ap, refl, subst, sym}
use Rattle.std.proofs.lemmas.List.Folds.{list_any-append}
use Rattle.wt_meaning.specs.Calls.{opened_by}
use Rattle.wt_meaning.specs.Findings.{Finding, first_of}
use Rattle.wt_meaning.specs.History.{History, Pair, actions_out, hands_out, is_handed_out, is_reset_of}
use Rattle.wt_meaning.specs.Lawful.{is_lawful}
use Rattle.wt_meaning.specs.Meaning.{next, own_answer, with_pair}
use Rattle.wt_meaning.specs.Moments.{findings}
use Rattle.wt_meaning.specs.Sends.{admits, is_of_session, moment_actions, opens_for}
use Rattle.wt_meaning.specs.Windows.{is_established, is_gone, is_gone_by_call, is_number, makes_gone, named}
use Rattle.wt_promise.proofs.Accepted.{and-left, and-right, or-true}
use Rattle.wt_promise.proofs.Actions.{any-next}
use Rattle.wt_promise.proofs.Datagrams.{numbered}
use Rattle.wt_promise.proofs.Fresh.{was-opened}
use Rattle.wt_promise.proofs.Grows.{findings-add, news}
use Rattle.wt_promise.proofs.Heads.{opened-once}
use Rattle.wt_promise.proofs.MomentActs.{Closing, Going, NewReset, closed-gone, closed-lived, closes_session, moment-resets, or-either}
use Rattle.wt_promise.proofs.OpenStays.{same-findings, same-news}
use Rattle.wt_promise.proofs.Opened.{pair-is}
use Rattle.wt_promise.proofs.OwnActs.{GoneBy, Held, ResetsWhy}
use Rattle.wt_promise.proofs.OwnCalls.{own-acts}
use Rattle.wt_promise.proofs.Stays.{any-newest, established-stays, gone-stays, named-stays}
use Rattle.wt_promise.specs.Promise.{IsHistory}
use Rattle.wt_turn.specs.declared.answer.Answer.{Answer}
use Rattle.wt_turn.specs.declared.reply.Reply.{Reply}
use Rattle.wt_turn.specs.declared.turn.Turn.{Turn}
use Rattle.wt_wire.specs.declared.side.Side.{Side}
use Rattle.wt_turn.specs.declared.call.Call.TheVariants as calls
use Rattle.wt_turn.specs.declared.reply.Reply.TheVariants as replies
use Rattle.wt_turn.specs.declared.turn.Turn.TheVariants as turns

-- ---- by which name a stream was opened

-- a pair of the history opens the stream by this name
pub data OpenedIn (k : ℕ) (name : Option ℕ) : History → Type 0 where
  Here : (p : Pair) (h : History) → opened_by k p.turn p.answer.reply ≡ Some name → OpenedIn k name (p ∷ h)
  Later : (p : Pair) (h : History) → OpenedIn k name h → OpenedIn k name (p ∷ h)

-- it is the only one
pub opened-first : (side : Side) (h : History) → IsHistory side h → (k : ℕ) (name : Option ℕ) → OpenedIn k name h → first_of (λ (p : Pair). opened_by k p.turn p.answer.reply) h ≡ Some name
opened-first side [] i k name o = elim o [ ]
opened-first side (p ∷ h) i k name (Here q g e) = ap (λ (o : Option (Option ℕ)). option_or o (first_of (λ (x : Pair). opened_by k x.turn x.answer.reply) h)) e
opened-first side (p ∷ h) i k name (Later q g o) =
    let before = opened-first side h i.2 k name o in
    ap (λ (x : Option (Option ℕ)). option_or x (first_of (λ (y : Pair). opened_by k y.turn y.answer.reply) h)) (opened-once side p h i k (was-opened side h i.2 k name before).there) ∙ before

-- the name by which a pair opens the stream for a session
opens-named : (full : History) (s k : ℕ) (turn : Turn) (r : Reply) → opens_for full s k turn r ≡ true → (name : Option ℕ) × (opened_by k turn r ≡ Some name) × (named full name ≡ Some s)
opens-named full s k (turns.Call (calls.OpenUni name)) (replies.Opening id) e =
    (name, ap (λ (b : Bool). if b then Some name else None) (and-left (id == k) (is_number s (named full name)) e), numbered s (named full name) (and-right (id == k) (is_number s (named full name)) e))
opens-named full s k (turns.Call (calls.OpenBi name)) (replies.Opening id) e =
    (name, ap (λ (b : Bool). if b then Some name else None) (and-left (id == k) (is_number s (named full name)) e), numbered s (named full name) (and-right (id == k) (is_number s (named full name)) e))
opens-named full s k turn r e = absurd (cc e)

opened-in : (full : History) (s k : ℕ) (h : History) → list_any (λ (p : Pair). opens_for full s k p.turn p.answer.reply) h ≡ true → (name : Option ℕ) × OpenedIn k name h × (named full name ≡ Some s)
opened-in full s k [] e = absurd (cc e)
opened-in full s k (p ∷ h) e = by (opens_for full s k p.turn p.answer.reply) refl e (opened-in full s k h)
  where
    by : (b : Bool) → opens_for full s k p.turn p.answer.reply ≡ b → (b || list_any (λ (q : Pair). opens_for full s k q.turn q.answer.reply) h) ≡ true
        → (list_any (λ (q : Pair). opens_for full s k q.turn q.answer.reply) h ≡ true → (name : Option ℕ) × OpenedIn k name h × (named full name ≡ Some s)) → (name : Option ℕ) × OpenedIn k name (p ∷ h) × (named full name ≡ Some s)
    by true q x again = let o = opens-named full s k p.turn p.answer.reply q in (o.0, Here p h o.1, o.2)
    by false q x again = let o = again x in (o.0, Later p h o.1, o.2)

-- ---- whose stream it is

pub data Of (h : History) (found : List Finding) (s k : ℕ) : Type 0 where
  Admitted : list_any (admits s k) found ≡ true → Of h found s k
  Opened : (name : Option ℕ) → OpenedIn k name h → named h name ≡ Some s → Of h found s k

pub of-is : (h : History) (found : List Finding) (s k : ℕ) → is_of_session h found s k ≡ true → Of h found s k
of-is h found s k e =
    or-either {P = Of h found s k} (list_any (admits s k) found) (list_any (λ (p : Pair). opens_for h s k p.turn p.answer.reply) h) e (λ x. Admitted x)
    (λ x. let o = opened-in h s k h x in Opened o.0 o.1 o.2)

pub of-later : (p : Pair) (h : History) (found more : List Finding) (s k : ℕ) → Of h found s k → Of (p ∷ h) (found ++ more) s k
of-later p h found more s k (Admitted e) = Admitted (list_any-append (admits s k) found more ∙ ap (λ (b : Bool). b || list_any (admits s k) more) e)
of-later p h found more s k (Opened name o n) = Opened name (Later p h o) (named-stays p h name s n)

-- a pair with other actions opens and establishes the same
of-actions : (p q : Pair) (h : History) (found : List Finding) (s k : ℕ) → p.turn ≡ q.turn → p.answer.reply ≡ q.answer.reply → Of (p ∷ h) found s k → Of (q ∷ h) found s k
of-actions p q h found s k t r (Admitted e) = Admitted e
of-actions p q h found s k t r (Opened name o n) = Opened name (opened o) (sym (same name) ∙ n)
  where
    same : (m : Option ℕ) → named (p ∷ h) m ≡ named (q ∷ h) m
    same None = rw r refl
    same (Some m) = rw r refl

    opened : OpenedIn k name (p ∷ h) → OpenedIn k name (q ∷ h)
    opened (Here x g e) = Here q h (sym (ap (λ (y : Turn). opened_by k y q.answer.reply) t) ∙ sym (ap (opened_by k p.turn) r) ∙ e)
    opened (Later x g e) = Later q h e

-- what is of the session after the call's own actions is so after the whole answer
pub of-next : (side : Side) (h : History) (turn : Turn) (s k : ℕ) → is_of_session (with_pair h turn (own_answer side h turn)) (findings side (with_pair h turn (own_answer side h turn))) s k ≡ true
    → Of (with_pair h turn (next side h turn)) (findings side (with_pair h turn (next side h turn))) s k
of-next side h turn s k o =
    subst (λ (xs : List Finding). Of (p ∷ h) xs s k) (sym (same-findings side h turn)) (of-actions q p h (findings side (q ∷ h)) s k refl refl (of-is (q ∷ h) (findings side (q ∷ h)) s k o))
  where
    p : Pair
    p = record { turn = turn; answer = next side h turn }

    q : Pair
    q = record { turn = turn; answer = own_answer side h turn }

-- ---- why it was reset

pub data WasReset (side : Side) (h : History) (k : ℕ) : Type 0 where
  ByHand : is_handed_out h k ≡ true → WasReset side h k
  Closed : is_established h k ≡ true → is_gone h (findings side h) k ≡ true → WasReset side h k
  WithSession : (s : ℕ) → Of h (findings side h) s k → is_gone h (findings side h) s ≡ true → WasReset side h k

found-gone : (side : Side) (p : Pair) (h : History) (s : ℕ) → list_any (makes_gone s) (news side p h) ≡ true → is_gone (p ∷ h) (findings side (p ∷ h)) s ≡ true
found-gone side p h s e =
    ap (λ (found : List Finding). is_gone (p ∷ h) found s) (findings-add side p h) ∙ ap (λ (b : Bool). is_gone_by_call (p ∷ h) s || b) (list_any-append (makes_gone s) (findings side h) (news side p h))
    ∙ ap (λ (b : Bool). is_gone_by_call (p ∷ h) s || (list_any (makes_gone s) (findings side h) || b)) e ∙ ap (λ (b : Bool). is_gone_by_call (p ∷ h) s || b) (or-true (list_any (makes_gone s) (findings side h))) ∙ or-true (is_gone_by_call (p ∷ h) s)

reset-stays : (side : Side) (p : Pair) (h : History) (k : ℕ) → WasReset side h k → WasReset side (p ∷ h) k
reset-stays side p h k (ByHand e) = ByHand (ap (λ (b : Bool). hands_out k p.answer.reply || b) e ∙ or-true (hands_out k p.answer.reply))
reset-stays side p h k (Closed a g) = Closed (established-stays p h k a) (gone-stays side p h k g)
reset-stays side p h k (WithSession s o g) =
    WithSession s (subst (λ (xs : List Finding). Of (p ∷ h) xs s k) (sym (findings-add side p h)) (of-later p h (findings side h) (news side p h) s k o)) (gone-stays side p h s g)

-- of an answer that resets it
pub new-reset : (side : Side) (h : History) (turn : Turn) → IsHistory side h → is_lawful side h turn ≡ true → (k : ℕ) → list_any (is_reset_of k) (next side h turn).actions ≡ true → WasReset side (with_pair h turn (next side h turn)) k
new-reset side h turn i l k e =
    or-either {P = WasReset side (p ∷ h) k} (list_any (is_reset_of k) own.actions) (list_any (is_reset_of k) (moment_actions side (q ∷ h))) (sym (any-next (is_reset_of k) (λ j x y. refl) side h turn) ∙ e)
    (λ x. by-call ((own-acts side h k turn i l).resets x)) (λ x. by-moment (moment-resets side q h k x))
  where
    own : Answer
    own = own_answer side h turn

    p : Pair
    p = record { turn = turn; answer = next side h turn }

    q : Pair
    q = record { turn = turn; answer = own }

    by-call : ResetsWhy side h k turn own.reply → WasReset side (p ∷ h) k
    by-call (Held x) = reset-stays side p h k (ByHand x)
    by-call (GoneBy s o n) =
        WithSession s (subst (λ (xs : List Finding). Of (p ∷ h) xs s k) (sym (findings-add side p h)) (of-later p h (findings side h) (news side p h) s k (of-is h (findings side h) s k o)))
        (ap (λ (b : Bool). (b || is_gone_by_call h s) || list_any (makes_gone s) (findings side (p ∷ h))) n)

    by-moment : NewReset (q ∷ h) k (findings side (q ∷ h)) (news side q h) → WasReset side (p ∷ h) k
    by-moment (Closing c) =
        let d : list_any (closes_session k) (news side p h) ≡ true = ap (list_any (closes_session k)) (sym (same-news side h turn)) ∙ c in
        Closed (and-left (is_established (p ∷ h) k) _ (closed-lived side p h k d)) (found-gone side p h k (closed-gone k (news side p h) d))
    by-moment (Going s m o n) =
        WithSession s (of-next side h turn s k o) (found-gone side p h s (ap (list_any (makes_gone s)) (sym (same-news side h turn)) ∙ m))

pub was-reset : (side : Side) (h : History) → IsHistory side h → (k : ℕ) → list_any (is_reset_of k) (actions_out h) ≡ true → WasReset side h k
was-reset side [] i k e = absurd (cc e)
was-reset side (p ∷ h) i k e =
    or-either {P = WasReset side (p ∷ h) k} (list_any (is_reset_of k) p.answer.actions) (list_any (is_reset_of k) (actions_out h)) (sym (any-newest (is_reset_of k) p.answer.actions (actions_out h)) ∙ e)
    (λ x. subst (λ (y : Pair). WasReset side (y ∷ h) k) (pair-is p (next side h p.turn) i.1) (new-reset side h p.turn i.2 i.0 k (ap (λ (a : Answer). list_any (is_reset_of k) a.actions) (sym i.1) ∙ x)))
    (λ x. reset-stays side p h k (was-reset side h i.2 k x))
