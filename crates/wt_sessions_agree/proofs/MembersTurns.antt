-- A session's streams stay the same in both, whatever turn comes: a call that accepts a stream, or begins to open one, adds it in both.
use Rattle.std.specs.Prelude.{[], ◌%◌, ◌&&◌, ◌*◌, ◌++◌, ◌+◌, ◌/◌, ◌<◌, ◌==◌, ◌||◌, ◌∷◌, ◌≡◌, ◌≤◌, Bool, List, None, Option, Some, false, if◌then◌else◌, is_some, true, unwrap_or, ℕ}
use Rattle.std.specs.List.{list_any}
use Rattle.std.specs.Option.{option_or}
use Rattle.std.proofs.Common.{◌∙◌, ap, arith, refl, subst, sym}
use Rattle.std.proofs.lemmas.Bool.{eq-eqb, eqb-true, lt-ltb}
use Rattle.wt_meaning.specs.Calls.{being_opened, opened_by, opening_for}
use Rattle.wt_meaning.specs.Findings.{first_of}
use Rattle.wt_meaning.specs.History.{History, Pair, actions_out, exists, hands_out, is_handed_out, next_id, stream_count}
use Rattle.wt_meaning.specs.Meaning.{next, own_answer, step, with_pair}
use Rattle.wt_meaning.specs.Moments.{findings}
use Rattle.wt_meaning.specs.Rows.{answer}
use Rattle.wt_meaning.specs.Sends.{admits, moment_actions, opens_for}
use Rattle.wt_meaning.specs.Windows.{is_number, named}
use Rattle.wt_promise.proofs.Accepted.{and-left, or-true, uni-accepted, bi-accepted}
use Rattle.wt_promise.proofs.Actions.{opened, opened-append, opened-join, opened-out}
use Rattle.wt_promise.proofs.ControlKept.{begun-opening}
use Rattle.wt_promise.proofs.Fresh.{Bi, OpenTurn, Uni, nth-of, open-turn, was-opened}
use Rattle.wt_promise.proofs.HandedOut.{GivesOpened, being-begun, gives-opened, opened-local}
use Rattle.wt_promise.proofs.Opened.{OpensFor, opens-for}
use Rattle.wt_promise.proofs.Stays.{exists-stays, named-stays, peers-stay}
use Rattle.wt_promise.proofs.Tables.{by-session, fits, fits-own}
use Rattle.wt_promise.proofs.Verdicts.{admitted-once, admitted-peers}
use Rattle.wt_promise.specs.Promise.{IsHistory}
use Rattle.wt_turn.specs.Streams.{local_bi, local_uni, one_more_if}
use Rattle.wt_sessions.specs.Driver.{call_view, member_by, members_of, with_member}
use Rattle.wt_sessions.specs.StreamTable.{CallView}
use Rattle.wt_sessions_agree.proofs.Basics.{and-false}
use Rattle.wt_sessions_agree.proofs.MembersLaws.{has-with, with-ascends}
use Rattle.wt_sessions_agree.proofs.RecordLaws.{Passes, done-passes, failure-aside, pending-aside}
use Rattle.wt_sessions_agree.proofs.StreamKinds.{local-bi-small, local-uni-small}
use Rattle.wt_sessions_agree.specs.Members.{Ascends, MembersIn, has_id, is_opened_for}
use Rattle.wt_sessions_agree.specs.Records.{opened_session, record_of}
use Rattle.wt_turn.specs.Log.{CallRecord, Log, calls_of}
use Rattle.wt_turn.specs.declared.action.Action.{Action}
use Rattle.wt_turn.specs.declared.answer.Answer.{Answer}
use Rattle.wt_turn.specs.declared.call.Call.{Call}
use Rattle.wt_turn.specs.declared.reply.Reply.{Reply}
use Rattle.wt_turn.specs.declared.turn.Turn.{Turn}
use Rattle.wt_wire.specs.declared.side.Side.{Side}
use Rattle.wt_turn.specs.declared.call.Call.TheVariants as calls
use Rattle.wt_turn.specs.declared.reply.Reply.TheVariants as replies
use Rattle.wt_turn.specs.declared.stream_error.StreamReadExactError.TheVariants as exacts
use Rattle.wt_turn.specs.declared.turn.Turn.TheVariants as turns

-- ---- what was opened stays its session's

-- what a name meant, it means still
abbrev Later : History → History → Type 0
Later g h = (name : Option ℕ) (s : ℕ) → named g name ≡ Some s → named h name ≡ Some s

numbers-same : (g a b : History) (name : Option ℕ) (t s : ℕ) → named g name ≡ Some t → Later g a → Later g b → is_number s (named a name) ≡ is_number s (named b name)
numbers-same g a b name t s n la lb = rw (la name t n, lb name t n) refl

opens-same : (side : Side) (g a b : History) (s k : ℕ) (turn : Turn) (r : Reply) → (next side g turn).reply ≡ r → Later g a → Later g b → opens_for a s k turn r ≡ opens_for b s k turn r
opens-same side g a b s k (turns.Call (calls.OpenUni name)) (replies.Opening id) e la lb =
    let o = opens-for side g name (local_uni side) id e in ap (λ (x : Bool). id == k && x) (numbers-same g a b name o.session s o.of_it la lb)
opens-same side g a b s k (turns.Call (calls.OpenBi name)) (replies.Opening id) e la lb =
    let o = opens-for side g name (local_bi side) id e in ap (λ (x : Bool). id == k && x) (numbers-same g a b name o.session s o.of_it la lb)
opens-same side g a b s k turn r e la lb = refl

all-same : (side : Side) (g : History) → IsHistory side g → (a b : History) → Later g a → Later g b → (s k : ℕ)
    → list_any (λ (p : Pair). opens_for a s k p.turn p.answer.reply) g ≡ list_any (λ (p : Pair). opens_for b s k p.turn p.answer.reply) g
all-same side [] i a b la lb s k = refl
all-same side (p ∷ g) i a b la lb s k =
    ap (λ (x : Bool). x || list_any (λ (q : Pair). opens_for a s k q.turn q.answer.reply) g)
    (opens-same side g a b s k p.turn p.answer.reply (ap (λ (x : Answer). x.reply) (sym i.1)) (earlier a la) (earlier b lb))
    ∙ ap (λ (x : Bool). opens_for b s k p.turn p.answer.reply || x) (all-same side g i.2 a b (earlier a la) (earlier b lb) s k)
  where
    earlier : (h : History) → Later (p ∷ g) h → Later g h
    earlier h l name t e = l name t (named-stays p g name t e)

-- one more pair opens what it opens
opened-then : (side : Side) (p : Pair) (h : History) → IsHistory side h → (s k : ℕ) → is_opened_for (p ∷ h) s k ≡ (opens_for (p ∷ h) s k p.turn p.answer.reply || is_opened_for h s k)
opened-then side p h i s k =
    ap (λ (x : Bool). opens_for (p ∷ h) s k p.turn p.answer.reply || x) (all-same side h i (p ∷ h) h (λ name t e. named-stays p h name t e) (λ name t e. e) s k)

-- ---- one more pair

-- the pair's stream is there
abbrev OpensThere : Side → Pair → History → Type 0
OpensThere side p h = (s k : ℕ) → opens_for (p ∷ h) s k p.turn p.answer.reply ≡ true → exists side (p ∷ h) k ≡ true

-- what is among a session's streams after it
abbrev Then : Side → Pair → History → CallView → Type 0
Then side p h calls =
    (s k : ℕ) → has_id k (calls.members s) ≡ (((hands_out k p.answer.reply || is_handed_out h k) && list_any (admits s k) (findings side h)) ||
    (opens_for (p ∷ h) s k p.turn p.answer.reply || is_opened_for h s k))

members-then : (side : Side) (p : Pair) (h : History) (before after : CallView) → IsHistory side h → MembersIn side h before (findings side h) → Then side p h after
    → ((s : ℕ) → Ascends (after.members s)) → OpensThere side p h
    → MembersIn side (p ∷ h) after (findings side h)
members-then side p h before after i x news ascends there = record {
  same = λ s k. news s k ∙ ap (λ (b : Bool). ((hands_out k p.answer.reply || is_handed_out h k) && list_any (admits s k) (findings side h)) || b) (sym (opened-then side p h i s k));
  ascends = ascends;
  there =
      λ s k e. by s k (list_any (admits s k) (findings side h)) (opens_for (p ∷ h) s k p.turn p.answer.reply) refl refl
      (ap (λ (b : Bool). list_any (admits s k) (findings side h) || b) (sym (opened-then side p h i s k)) ∙ e);
}
  where
    by : (s k : ℕ) (a o : Bool) → list_any (admits s k) (findings side h) ≡ a → opens_for (p ∷ h) s k p.turn p.answer.reply ≡ o → (a || (o || is_opened_for h s k)) ≡ true
        → exists side (p ∷ h) k ≡ true
    by s k true o e f q = exists-stays side p h k (x.there s k (ap (λ (b : Bool). b || is_opened_for h s k) e))
    by s k false true e f q = there s k f
    by s k false false e f q = exists-stays side p h k (x.there s k (ap (λ (b : Bool). list_any (admits s k) (findings side h) || b) q ∙ or-true (list_any (admits s k) (findings side h))))

-- ---- a turn of the transport

no-opens : (h : History) (s k : ℕ) (turn : Turn) → opens_for h s k turn replies.Done ≡ false
no-opens h s k (turns.Call (calls.OpenUni name)) = refl
no-opens h s k (turns.Call (calls.OpenBi name)) = refl
no-opens h s k turn = refl

pub members-plain : (side : Side) (h : History) (log log2 : Log) (turn : Turn) (xs : List Action) → IsHistory side h → calls_of log2 ≡ calls_of log → MembersIn side h (call_view log) (findings side h)
    → MembersIn side (with_pair h turn (answer replies.Done xs)) (call_view log2) (findings side h)
members-plain side h log log2 turn xs i called x =
    members-then side p h (call_view log) (call_view log2) i x
    (λ s k. ap (λ (rs : List CallRecord). has_id k (members_of rs s)) called ∙ x.same s k
    ∙ ap (λ (b : Bool). (is_handed_out h k && list_any (admits s k) (findings side h)) || (b || is_opened_for h s k)) (sym (no-opens (p ∷ h) s k turn)))
    (λ s. subst (λ (rs : List CallRecord). Ascends (members_of rs s)) (sym called) (x.ascends s))
    (λ s k e. absurd (let r : true ≡ false = sym e ∙ no-opens (p ∷ h) s k turn in cc r))
  where
    p : Pair
    p = record { turn = turn; answer = answer replies.Done xs }

-- ---- a call that gives no stream

-- the reply gives a stream, or begins to open one
abbrev gives : Reply → Bool
gives (replies.Uni id) = true
gives (replies.Bi id) = true
gives (replies.SendReady id) = true
gives (replies.BiReady id) = true
gives (replies.Opening id) = true
gives _ = false

member-passes : (s : ℕ) → Passes (member_by s) None
member-passes s = record {
  aside = record { polled = refl; started = λ r i. refl; response = λ a i. refl; over = refl; failed = refl };
  unsent = λ i c. refl;
  priority = λ i p. refl;
  given_up = λ i. refl;
  rejected = λ t. refl;
}

no-member : (side : Side) (h : History) (c : Call) (s : ℕ) (r : Reply) → gives r ≡ false → member_by s (record_of side h c r) ≡ None
no-member side h c s replies.Done e = done-passes (member_by s) None (member-passes s) side h c
no-member side h c s replies.Pending e = pending-aside (member_by s) None (member-passes s).aside c
no-member side h c s (replies.Failed x) e = failure-aside (member_by s) None (member-passes s).aside c
no-member side h c s (replies.Read (Some (b ∷ bytes))) e = refl
no-member side h c s (replies.Read (Some [])) e = refl
no-member side h c s (replies.Read None) e = refl
no-member side h c s (replies.ExactFailed (exacts.FinishedEarly count) piece) e = refl
no-member side h c s (replies.ExactFailed (exacts.Read x) piece) e = refl
no-member side h c s (replies.Uni id) e = absurd (cc e)
no-member side h c s (replies.Bi id) e = absurd (cc e)
no-member side h c s (replies.SendReady id) e = absurd (cc e)
no-member side h c s (replies.BiReady id) e = absurd (cc e)
no-member side h c s (replies.Opening id) e = absurd (cc e)
no-member side h c s r e = refl

no-hands : (k : ℕ) (r : Reply) → gives r ≡ false → hands_out k r ≡ false
no-hands k (replies.Uni id) e = absurd (cc e)
no-hands k (replies.Bi id) e = absurd (cc e)
no-hands k (replies.SendReady id) e = absurd (cc e)
no-hands k (replies.BiReady id) e = absurd (cc e)
no-hands k r e = refl

no-begin : (h : History) (s k : ℕ) (c : Call) (r : Reply) → gives r ≡ false → opens_for h s k (turns.Call c) r ≡ false
no-begin h s k (calls.OpenUni name) (replies.Opening id) e = absurd (cc e)
no-begin h s k (calls.OpenBi name) (replies.Opening id) e = absurd (cc e)
no-begin h s k c r e = refl

-- ---- what a call's reply adds in both

-- the record adds the stream that the reply does
abbrev Adds : Side → History → History → Call → Reply → Type 0
Adds side h after c r = (s k : ℕ) → (is_number k (member_by s (record_of side h c r)) || ((is_handed_out h k && list_any (admits s k) (findings side h)) || is_opened_for h s k))
    ≡ (((hands_out k r || is_handed_out h k) && list_any (admits s k) (findings side h)) || (opens_for after s k (turns.Call c) r || is_opened_for h s k))

none-adds : (side : Side) (h after : History) (c : Call) (r : Reply) → gives r ≡ false → Adds side h after c r
none-adds side h after c r g s k = rw (no-member side h c s r g, no-hands k r g, no-begin after s k c r g) refl

-- the stream is given for this session
abbrev Given : Side → History → ℕ → ℕ → Type 0
Given side h id t = (s k : ℕ) → (is_number k (if t == s then Some id else None) || ((is_handed_out h k && list_any (admits s k) (findings side h)) || is_opened_for h s k))
    ≡ (((id == k || is_handed_out h k) && list_any (admits s k) (findings side h)) || is_opened_for h s k)

-- one that waits for it: no other session has it
accept-adds : (side : Side) (h : History) (id t : ℕ) → list_any (admits t id) (findings side h) ≡ true → Given side h id t
accept-adds side h id t a s k = by (id == k) (t == s) refl refl
  where
    by : (x y : Bool) → (id == k) ≡ x → (t == s) ≡ y → (is_number k (if y then Some id else None) || ((is_handed_out h k && list_any (admits s k) (findings side h)) || is_opened_for h s k))
        ≡ (((x || is_handed_out h k) && list_any (admits s k) (findings side h)) || is_opened_for h s k)
    by true true e f =
        let mine : list_any (admits s k) (findings side h) ≡ true = ap (λ (j : ℕ). list_any (admits j k) (findings side h)) (sym (eqb-true t s f))
        ∙ ap (λ (j : ℕ). list_any (admits t j) (findings side h)) (sym (eqb-true id k e)) ∙ a in
        rw (e, mine) refl
    by true false e f = rw (other (list_any (admits s k) (findings side h)) refl) (ap (λ (b : Bool). b || is_opened_for h s k) (and-false (is_handed_out h k)))
      where
        other : (b : Bool) → list_any (admits s k) (findings side h) ≡ b → b ≡ false
        other false q = refl
        other true q =
            let same : t ≡ s = admitted-once side h t s k (ap (λ (j : ℕ). list_any (admits t j) (findings side h)) (sym (eqb-true id k e)) ∙ a) q in
            absurd (let r : true ≡ false = sym (eq-eqb t s same) ∙ f in cc r)
    by false true e f = rw e refl
    by false false e f = refl

-- one that this end opened for it: none waits under this id
ready-adds : (side : Side) (h : History) (id t : ℕ) → ((s : ℕ) → list_any (admits s id) (findings side h) ≡ false) → is_opened_for h t id ≡ true → Given side h id t
ready-adds side h id t none o s k = by (id == k) (t == s) refl refl
  where
    by : (x y : Bool) → (id == k) ≡ x → (t == s) ≡ y → (is_number k (if y then Some id else None) || ((is_handed_out h k && list_any (admits s k) (findings side h)) || is_opened_for h s k))
        ≡ (((x || is_handed_out h k) && list_any (admits s k) (findings side h)) || is_opened_for h s k)
    by true y e f = yes y f
      where
        none-here : list_any (admits s k) (findings side h) ≡ false
        none-here = ap (λ (j : ℕ). list_any (admits s j) (findings side h)) (sym (eqb-true id k e)) ∙ none s

        yes : (y : Bool) → (t == s) ≡ y → (is_number k (if y then Some id else None) || ((is_handed_out h k && list_any (admits s k) (findings side h)) || is_opened_for h s k))
            ≡ (((true || is_handed_out h k) && list_any (admits s k) (findings side h)) || is_opened_for h s k)
        yes true f =
            let mine : is_opened_for h s k ≡ true = ap (λ (j : ℕ). is_opened_for h j k) (sym (eqb-true t s f)) ∙ ap (is_opened_for h t) (sym (eqb-true id k e)) ∙ o in
            rw (e, none-here, mine) refl
        yes false f = rw none-here (ap (λ (b : Bool). b || is_opened_for h s k) (and-false (is_handed_out h k)))
    by false true e f = rw e refl
    by false false e f = refl

-- one that this end begins to open for it
opening-adds : (side : Side) (h : History) (id t s k : ℕ) → (is_number k (if t == s then Some id else None) || ((is_handed_out h k && list_any (admits s k) (findings side h)) || is_opened_for h s k))
    ≡ ((is_handed_out h k && list_any (admits s k) (findings side h)) || ((id == k && t == s) || is_opened_for h s k))
opening-adds side h id t s k = by (id == k) (t == s) refl
  where
    by : (x y : Bool) → (id == k) ≡ x → (is_number k (if y then Some id else None) || ((is_handed_out h k && list_any (admits s k) (findings side h)) || is_opened_for h s k))
        ≡ ((is_handed_out h k && list_any (admits s k) (findings side h)) || ((x && y) || is_opened_for h s k))
    by true true e = rw e (sym (or-true (is_handed_out h k && list_any (admits s k) (findings side h))))
    by true false e = refl
    by false true e = rw e refl
    by false false e = refl

-- ---- a stream whose opening is over

-- the pair that began it opened it for the session that its name means
opened-any : (h : History) (k : ℕ) (name : Option ℕ) (s : ℕ) → named h name ≡ Some s → (pairs : List Pair) → first_of (λ (p : Pair). opened_by k p.turn p.answer.reply) pairs ≡ Some name
    → list_any (λ (p : Pair). opens_for h s k p.turn p.answer.reply) pairs ≡ true
opened-any h k name s n [] e = absurd (cc e)
opened-any h k name s n (p ∷ pairs) e = by (opened_by k p.turn p.answer.reply) refl e (opened-any h k name s n pairs)
  where
    of : (turn : Turn) (r : Reply) → OpenTurn k name turn r → opens_for h s k turn r ≡ true
    of turn r (Uni id i t x) = rw (t, x, eq-eqb id k i, n) (eq-eqb s s refl)
    of turn r (Bi id i t x) = rw (t, x, eq-eqb id k i, n) (eq-eqb s s refl)

    by : (o : Option (Option ℕ)) → opened_by k p.turn p.answer.reply ≡ o → option_or o (first_of (λ (q : Pair). opened_by k q.turn q.answer.reply) pairs) ≡ Some name
        → (first_of (λ (q : Pair). opened_by k q.turn q.answer.reply) pairs ≡ Some name → list_any (λ (q : Pair). opens_for h s k q.turn q.answer.reply) pairs ≡ true)
        → (opens_for h s k p.turn p.answer.reply || list_any (λ (q : Pair). opens_for h s k q.turn q.answer.reply) pairs) ≡ true
    by None q r again = ap (λ (b : Bool). opens_for h s k p.turn p.answer.reply || b) (again r) ∙ or-true (opens_for h s k p.turn p.answer.reply)
    by (Some m) q r again = ap (λ (b : Bool). b || list_any (λ (x : Pair). opens_for h s k x.turn x.answer.reply) pairs) (of p.turn p.answer.reply (open-turn k name p.turn p.answer.reply (q ∙ r)))

over-adds : (side : Side) (h : History) → IsHistory side h → (id : ℕ) → is_some (being_opened h id) ≡ true → Given side h id (opened_session h id)
over-adds side h i id e = by (being_opened h id) refl e
  where
    none : (s : ℕ) → list_any (admits s id) (findings side h) ≡ false
    none s = of (list_any (admits s id) (findings side h)) refl
      where
        of : (b : Bool) → list_any (admits s id) (findings side h) ≡ b → b ≡ false
        of false q = refl
        of true q = absurd (let r : true ≡ false = sym (admitted-peers side h s id q) ∙ opened-local side h i id (being-begun h id e) in cc r)

    by : (o : Option (Option ℕ)) → being_opened h id ≡ o → is_some o ≡ true → Given side h id (opened_session h id)
    by None q r = absurd (cc r)
    by (Some name) q r =
        let b = begun-opening h id name q in
        let w = was-opened side h i id name b in
        let t : opened_session h id ≡ w.session = ap (λ (x : Option (Option ℕ)). elim x [ Some n ↦ unwrap_or (named h n) 0 | None ↦ 0 ]) q ∙ ap (λ (x : Option ℕ). unwrap_or x 0) w.of_it in
        subst (Given side h id) (sym t) (ready-adds side h id w.session none (opened-any h id name w.session w.of_it h b))

-- what a poll gives is the stream that it names
polled : (side : Side) (h : History) (pid id : ℕ) (r : Reply) → (next side h (turns.Call (calls.PollOpening pid))).reply ≡ r → hands_out id r ≡ true → is_some (being_opened h id) ≡ true
polled side h pid id r q e =
    let g = (by-session (GivesOpened side h id pid) (named h None) (λ (s : ℕ). opening_for side h pid (being_opened h pid)) (λ x. absurd (cc x))
    (λ s x. record { first = gives-opened side h id pid (being_opened h pid) refl })).first (ap (hands_out id) q ∙ e) in
    ap (λ (j : ℕ). is_some (being_opened h j)) (sym (eqb-true pid id g.0)) ∙ g.1

-- ---- each reply

reply-adds : (side : Side) (h after : History) → IsHistory side h → Later h after → (c : Call) (r : Reply) → (next side h (turns.Call c)).reply ≡ r → fits c r ≡ true → Adds side h after c r
reply-adds side h after i l (calls.AcceptUni name) (replies.Uni id) q f s k = let a = uni-accepted side h name id q in rw a.1 (accept-adds side h id a.0 a.2.header s k)
reply-adds side h after i l (calls.AcceptBi name) (replies.Bi id) q f s k = let a = bi-accepted side h name id q in rw a.1 (accept-adds side h id a.0 a.2.header s k)
reply-adds side h after i l (calls.PollOpening pid) (replies.SendReady id) q f s k = over-adds side h i id (polled side h pid id (replies.SendReady id) q (eq-eqb id id refl)) s k
reply-adds side h after i l (calls.PollOpening pid) (replies.BiReady id) q f s k = over-adds side h i id (polled side h pid id (replies.BiReady id) q (eq-eqb id id refl)) s k
reply-adds side h after i l (calls.OpenUni name) (replies.Opening id) q f s k =
    let o = opens-for side h name (local_uni side) id q in rw (o.of_it, l name o.session o.of_it) (opening-adds side h id o.session s k)
reply-adds side h after i l (calls.OpenBi name) (replies.Opening id) q f s k =
    let o = opens-for side h name (local_bi side) id q in rw (o.of_it, l name o.session o.of_it) (opening-adds side h id o.session s k)
reply-adds side h after i l c (replies.Uni id) q f s k = absurd (cc)
reply-adds side h after i l c (replies.Bi id) q f s k = absurd (cc)
reply-adds side h after i l c (replies.SendReady id) q f s k = absurd (cc)
reply-adds side h after i l c (replies.BiReady id) q f s k = absurd (cc)
reply-adds side h after i l c (replies.Opening id) q f s k = absurd (cc)
reply-adds side h after i l c r q f s k = none-adds side h after c r refl s k

-- ---- the stream that a call begins to open is there

kind-there : (side : Side) (h : History) (turn : Turn) (r : Reply) (xs : List Action) (kind : ℕ) → kind < 4 → 1 ≤ opened kind xs
    → exists side (with_pair h turn (answer r xs)) (next_id side h kind) ≡ true
kind-there side h turn r xs kind l one =
    let n = nth-of (stream_count side h kind) kind l in
    let c = peers-stay side (record { turn = turn; answer = answer r xs }) h kind in
    let d = opened-out kind xs (actions_out h) in
    lt-ltb (next_id side h kind / 4) (stream_count side (with_pair h turn (answer r xs)) (next_id side h kind % 4)) (rw (n.0, n.1) (omega (arith, c, d, one)))

-- as many actions open streams as those of the call
abbrev More : Side → History → Call → List Action → Type 0
More side h c xs = (kind : ℕ) → opened kind (own_answer side h (turns.Call c)).actions ≤ opened kind xs

opener-there : (side : Side) (h : History) (turn : Turn) (name : Option ℕ) (kind id k : ℕ) (r : Reply) (own xs : List Action) → kind < 4 → (a : Answer) → a.actions ≡ own
    → OpensFor side h name kind id a → opened kind own ≤ opened kind xs → (id == k) ≡ true
    → exists side (with_pair h turn (answer r xs)) k ≡ true
opener-there side h turn name kind id k r own xs l a same o more e =
    let n = nth-of (stream_count side h kind) kind l in
    let one : opened kind own ≡ 1 = ap (opened kind) (sym same ∙ o.acts) ∙ ap (λ (x : Bool). one_more_if x 0) (eq-eqb ((4 * stream_count side h kind + kind) % 4) kind n.1) in
    ap (exists side (with_pair h turn (answer r xs))) (sym (o.is_next ∙ eqb-true id k e)) ∙ kind-there side h turn r xs kind l (omega (arith, one, more))

opens-there : (side : Side) (h : History) (c : Call) (xs : List Action) → More side h c xs
    → OpensThere side (record { turn = turns.Call c; answer = answer (own_answer side h (turns.Call c)).reply xs }) h
opens-there side h c xs more s k e = by c (own_answer side h (turns.Call c)).reply refl more e
  where
    by : (d : Call) (r : Reply) → (next side h (turns.Call d)).reply ≡ r → More side h d xs → opens_for (with_pair h (turns.Call d) (answer r xs)) s k (turns.Call d) r ≡ true
        → exists side (with_pair h (turns.Call d) (answer r xs)) k ≡ true
    by (calls.OpenUni name) (replies.Opening id) q m e =
        opener-there side h (turns.Call (calls.OpenUni name)) name (local_uni side) id k (replies.Opening id) _ xs (local-uni-small side) (own_answer side h (turns.Call (calls.OpenUni name))) refl
        (opens-for side h name (local_uni side) id q) (m (local_uni side)) (and-left (id == k) _ e)
    by (calls.OpenBi name) (replies.Opening id) q m e =
        opener-there side h (turns.Call (calls.OpenBi name)) name (local_bi side) id k (replies.Opening id) _ xs (local-bi-small side) (own_answer side h (turns.Call (calls.OpenBi name))) refl
        (opens-for side h name (local_bi side) id q) (m (local_bi side)) (and-left (id == k) _ e)
    by d r q m e = absurd (cc e)

-- ---- a call

has-member : (k : ℕ) (o : Option ℕ) (ids : List ℕ) → has_id k (with_member o ids) ≡ (is_number k o || has_id k ids)
has-member k None ids = refl
has-member k (Some j) ids = has-with k j ids

member-ascends : (o : Option ℕ) (ids : List ℕ) → Ascends ids → Ascends (with_member o ids)
member-ascends None ids g = g
member-ascends (Some j) ids g = with-ascends j ids g

-- with its record in the log; of actions the pair has at least those that open streams
members-pair : (side : Side) (h : History) (log log2 : Log) (c : Call) (xs : List Action) → IsHistory side h → More side h c xs
    → calls_of log2 ≡ record_of side h c (own_answer side h (turns.Call c)).reply ∷ calls_of log
    → MembersIn side h (call_view log) (findings side h) → MembersIn side (with_pair h (turns.Call c) (answer (own_answer side h (turns.Call c)).reply xs)) (call_view log2) (findings side h)
members-pair side h log log2 c xs i more called x =
    members-then side p h (call_view log) (call_view log2) i x
    (λ s k. ap (λ (rs : List CallRecord). has_id k (members_of rs s)) called ∙ has-member k (member_by s r) (members_of (calls_of log) s)
    ∙ ap (λ (b : Bool). is_number k (member_by s r) || b) (x.same s k)
    ∙ reply-adds side h (p ∷ h) i (λ name t e. named-stays p h name t e) c (own_answer side h (turns.Call c)).reply refl (fits-own side h c) s k)
    (λ s. subst (λ (rs : List CallRecord). Ascends (members_of rs s)) (sym called) (member-ascends (member_by s r) (members_of (calls_of log) s) (x.ascends s)))
    (opens-there side h c xs more)
  where
    p : Pair
    p = record { turn = turns.Call c; answer = answer (own_answer side h (turns.Call c)).reply xs }

    r : CallRecord
    r = record_of side h c (own_answer side h (turns.Call c)).reply

-- at its moment
pub members-own : (side : Side) (h : History) (log log2 : Log) (c : Call) → IsHistory side h → calls_of log2 ≡ record_of side h c (own_answer side h (turns.Call c)).reply ∷ calls_of log
    → MembersIn side h (call_view log) (findings side h) → MembersIn side (with_pair h (turns.Call c) (own_answer side h (turns.Call c))) (call_view log2) (findings side h)
members-own side h log log2 c i called x = members-pair side h log log2 c (own_answer side h (turns.Call c)).actions i (λ kind. omega arith) called x

-- after it
pub members-call : (side : Side) (h : History) (log log2 : Log) (c : Call) → IsHistory side h → calls_of log2 ≡ record_of side h c (own_answer side h (turns.Call c)).reply ∷ calls_of log
    → MembersIn side h (call_view log) (findings side h) → MembersIn side (step side h (turns.Call c)) (call_view log2) (findings side h)
members-call side h log log2 c i called x = members-pair side h log log2 c (next side h (turns.Call c)).actions i more called x
  where
    own : List Action
    own = (own_answer side h (turns.Call c)).actions

    moment : List Action
    moment = moment_actions side (with_pair h (turns.Call c) (own_answer side h (turns.Call c)))

    more : More side h c (next side h (turns.Call c)).actions
    more kind = let a = opened-join kind [] (own ++ moment) in let b = opened-append kind own moment in omega (arith, a, b)
