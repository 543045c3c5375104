-- What stays: streams that were opened, what a name means, and whose stream it is.
use Rattle.std.specs.Prelude.{[], ◌%◌, ◌++◌, ◌/◌, ◌==◌, ◌||◌, ◌∷◌, ◌≡◌, ◌≤◌, Bool, List, None, Option, Some, false, if◌then◌else◌, true, ℕ}
use Rattle.std.specs.List.{list_any}
use Rattle.std.specs.Option.{option_or}
use Rattle.std.proofs.Common.{◌∙◌, ap, arith, refl}
use Rattle.std.proofs.lemmas.Bool.{eq-eqb, lt-ltb, ltb-true}
use Rattle.std.proofs.lemmas.List.Folds.{list_any-append}
use Rattle.wt_meaning.specs.Findings.{Finding}
use Rattle.wt_meaning.specs.History.{History, Pair, actions_out, all_events, exists, stream_count}
use Rattle.wt_meaning.specs.Moments.{findings}
use Rattle.wt_meaning.specs.Sends.{admits, is_of_session, opens_for}
use Rattle.wt_meaning.specs.Windows.{establishes, is_established, is_gone, is_number, named}
use Rattle.wt_promise.proofs.Accepted.{and-left, and-right, or-true}
use Rattle.wt_promise.proofs.Actions.{opened-out}
use Rattle.wt_promise.proofs.Datagrams.{numbered}
use Rattle.wt_promise.proofs.Few.{gone-later, gone-more}
use Rattle.wt_promise.proofs.Grows.{findings-add, news}
use Rattle.wt_turn.specs.Joined.{newest_first}
use Rattle.wt_turn.specs.Streams.{local_count, one_more_if, peer_count, peer_opens}
use Rattle.wt_turn.specs.Log.{Event}
use Rattle.wt_turn.specs.Turns.{event_of}
use Rattle.wt_turn.specs.declared.action.Action.{Action}
use Rattle.wt_turn.specs.declared.reply.Reply.{Reply}
use Rattle.wt_turn.specs.declared.turn.Turn.{Turn}
use Rattle.wt_wire.specs.declared.side.Side.{Side}
use Rattle.wt_turn.specs.declared.call.Call.TheVariants as calls
use Rattle.wt_turn.specs.declared.reply.Reply.TheVariants as replies
use Rattle.wt_turn.specs.declared.turn.Turn.TheVariants as turns

-- ---- streams stay

pub any-newest : (test : Action → Bool) (as_ before : List Action) → list_any test (newest_first as_ before) ≡ (list_any test as_ || list_any test before)
any-newest test [] before = refl
any-newest test (a ∷ later) before = any-newest test later (a ∷ before) ∙ shift (test a) (list_any test later) (list_any test before)
  where
    shift : (x y z : Bool) → (y || (x || z)) ≡ ((x || y) || z)
    shift true true z = refl
    shift true false z = refl
    shift false y z = refl

one-more-le : (b : Bool) (n : ℕ) → n ≤ one_more_if b n
one-more-le true n = omega arith
one-more-le false n = omega arith

pub peers-stay : (side : Side) (p : Pair) (h : History) (kind : ℕ) → peer_count side (all_events h) kind ≤ peer_count side (all_events (p ∷ h)) kind
peers-stay side p h kind = by (event_of p.turn) refl
  where
    by : (e : Option Event) → event_of p.turn ≡ e → peer_count side (all_events h) kind ≤ peer_count side (all_events (p ∷ h)) kind
    by None e = rw e (omega arith)
    by (Some x) e = rw e (one-more-le (peer_opens side kind x) (peer_count side (all_events h) kind))

pub count-stays : (side : Side) (p : Pair) (h : History) (kind : ℕ) → stream_count side h kind ≤ stream_count side (p ∷ h) kind
count-stays side p h kind =
    let a = peers-stay side p h kind in let b = opened-out kind p.answer.actions (actions_out h) in
    let c : local_count (actions_out h) kind ≤ local_count (actions_out (p ∷ h)) kind = rw b (omega arith) in omega (arith, a, c)

pub exists-stays : (side : Side) (p : Pair) (h : History) (k : ℕ) → exists side h k ≡ true → exists side (p ∷ h) k ≡ true
exists-stays side p h k e =
    lt-ltb (k / 4) (stream_count side (p ∷ h) (k % 4)) (let a = ltb-true (k / 4) (stream_count side h (k % 4)) e in let b = count-stays side p h (k % 4) in omega (arith, a, b))

-- ---- a name stays that of its session

pub established-stays : (p : Pair) (h : History) (s : ℕ) → is_established h s ≡ true → is_established (p ∷ h) s ≡ true
established-stays p h s e = by (establishes p) refl
  where
    by : (o : Option ℕ) → establishes p ≡ o → is_established (p ∷ h) s ≡ true
    by None q = rw q e
    by (Some t) q = rw (q, e) (or-true (t == s))

pub named-stays : (p : Pair) (h : History) (name : Option ℕ) (s : ℕ) → named h name ≡ Some s → named (p ∷ h) name ≡ Some s
named-stays p h None s e = ap (λ (o : Option ℕ). option_or o (establishes p)) e
named-stays p h (Some t) s e = by (is_established h t) refl e
  where
    by : (b : Bool) → is_established h t ≡ b → (if b then Some t else None) ≡ Some s → named (p ∷ h) (Some t) ≡ Some s
    by true q r = rw (established-stays p h t q) r
    by false q r = absurd (cc r)

number-stays : (p : Pair) (h : History) (name : Option ℕ) (s : ℕ) → is_number s (named h name) ≡ true → is_number s (named (p ∷ h) name) ≡ true
number-stays p h name s e = rw (named-stays p h name s (numbered s (named h name) e)) (eq-eqb s s refl)

pub opens-stays : (p : Pair) (h : History) (s k : ℕ) (turn : Turn) (r : Reply) → opens_for h s k turn r ≡ true → opens_for (p ∷ h) s k turn r ≡ true
opens-stays p h s k (turns.Call (calls.OpenUni name)) (replies.Opening id) e =
    rw (and-left (id == k) (is_number s (named h name)) e, number-stays p h name s (and-right (id == k) (is_number s (named h name)) e)) refl
opens-stays p h s k (turns.Call (calls.OpenBi name)) (replies.Opening id) e =
    rw (and-left (id == k) (is_number s (named h name)) e, number-stays p h name s (and-right (id == k) (is_number s (named h name)) e)) refl
opens-stays p h s k turn r e = absurd (cc e)

opened-stays : (p : Pair) (h : History) (s k : ℕ) (pairs : List Pair) → list_any (λ (q : Pair). opens_for h s k q.turn q.answer.reply) pairs ≡ true → list_any (λ (q : Pair). opens_for (p ∷ h) s k q.turn q.answer.reply) pairs ≡ true
opened-stays p h s k [] e = absurd (cc e)
opened-stays p h s k (q ∷ pairs) e = by (opens_for h s k q.turn q.answer.reply) refl e (opened-stays p h s k pairs)
  where
    by : (b : Bool) → opens_for h s k q.turn q.answer.reply ≡ b → (b || list_any (λ (x : Pair). opens_for h s k x.turn x.answer.reply) pairs) ≡ true
        → (list_any (λ (x : Pair). opens_for h s k x.turn x.answer.reply) pairs ≡ true → list_any (λ (x : Pair). opens_for (p ∷ h) s k x.turn x.answer.reply) pairs ≡ true)
        → (opens_for (p ∷ h) s k q.turn q.answer.reply || list_any (λ (x : Pair). opens_for (p ∷ h) s k x.turn x.answer.reply) pairs) ≡ true
    by true i r again = ap (λ (b : Bool). b || list_any (λ (x : Pair). opens_for (p ∷ h) s k x.turn x.answer.reply) pairs) (opens-stays p h s k q.turn q.answer.reply i)
    by false i r again = rw (again r) (or-true (opens_for (p ∷ h) s k q.turn q.answer.reply))

-- a session's stream stays its own
pub of-session-stays : (p : Pair) (h : History) (found more : List Finding) (s k : ℕ) → is_of_session h found s k ≡ true → is_of_session (p ∷ h) (found ++ more) s k ≡ true
of-session-stays p h found more s k e = by (list_any (admits s k) found) refl e
  where
    by : (b : Bool) → list_any (admits s k) found ≡ b → (b || list_any (λ (q : Pair). opens_for h s k q.turn q.answer.reply) h) ≡ true → is_of_session (p ∷ h) (found ++ more) s k ≡ true
    by true i r = rw (list_any-append (admits s k) found more, i) refl
    by false i r = rw (opened-stays p h s k h r, or-true (opens_for (p ∷ h) s k p.turn p.answer.reply)) (or-true (list_any (admits s k) (found ++ more)))

-- ---- what is gone stays gone

pub gone-stays : (side : Side) (p : Pair) (h : History) (s : ℕ) → is_gone h (findings side h) s ≡ true → is_gone (p ∷ h) (findings side (p ∷ h)) s ≡ true
gone-stays side p h s e =
    ap (λ (found : List Finding). is_gone (p ∷ h) found s) (findings-add side p h) ∙ gone-more (p ∷ h) (findings side h) (news side p h) s (gone-later p h (findings side h) s e)
