-- Rule 1 holds of a lawful list: each turn may follow the record of those before it.
use Rattle.std.specs.Prelude.{[], ◌%◌, ◌&&◌, ◌*◌, ◌+◌, ◌/◌, ◌<◌, ◌==◌, ◌^◌, ◌||◌, ◌∷◌, ◌≡◌, ◌≤◌, Bool, List, None, Some, false, filter, filter_map, if◌then◌else◌, length, nat_le, nat_lt, not, suc, true, zero, ℕ}
use Rattle.std.specs.List.{cons_option, list_any}
use Rattle.std.proofs.Common.{◌∙◌, ap, arith, refl, sym}
use Rattle.std.proofs.lemmas.Bool.{eq-eqb, eqb-true, lt-ltb, ltb-false, ltb-true}
use Rattle.wt_check.proofs.Alike.{Alike, SamePairs, brought, connected-later, is-piece, same}
use Rattle.wt_check.proofs.Along.{both, throughout}
use Rattle.wt_check.proofs.OfSends.{or-here, or-later}
use Rattle.wt_check.specs.Records.{is_local, recorded}
use Rattle.wt_check.specs.Turns.{all_answered, follows, gives, is_there, may_follow, opens_it}
use Rattle.wt_check.specs.Verdict.{holds}
use Rattle.wt_meaning.specs.History.{History, Pair, actions_out, all_events, answers_reset, exists, is_reset, is_reset_of, stream_count, was_finished}
use Rattle.wt_meaning.specs.Lawful.{fails_incoming, gives_request, has_begun, has_request, is_awaited, is_client, is_first, is_lawful, is_lost, is_of_request, is_pending, is_response, is_waiting, polls}
use Rattle.wt_meaning.specs.Meaning.{answer_to, next}
use Rattle.wt_meaning.specs.Moments.{ids_from}
use Rattle.wt_promise.proofs.Accepted.{and-left, and-right}
use Rattle.wt_promise.proofs.Actions.{opened-out}
use Rattle.wt_promise.proofs.Flow.{swapped}
use Rattle.wt_promise.proofs.Given.{request_came}
use Rattle.wt_promise.proofs.OpensNext.{ids-count, local-small, opens_in_order}
use Rattle.wt_promise.proofs.Stays.{any-newest}
use Rattle.wt_promise.specs.Promise.{AllLawful, IsHistory}
use Rattle.wt_promise.specs.Sides.{opens_of}
use Rattle.wt_turn.specs.Reports.{credit, end_of, is_connected, is_running}
use Rattle.wt_turn.specs.Sent.{dials, finishes}
use Rattle.wt_turn.specs.Streams.{local_bi, local_count, local_uni, peer_bi, peer_count, peer_uni}
use Rattle.wt_turn.specs.Log.{Event, PeerBi, PeerUni}
use Rattle.wt_turn.specs.declared.action.Action.{Action}
use Rattle.wt_turn.specs.declared.answer.Answer.{Answer}
use Rattle.wt_turn.specs.declared.call.Call.{Call}
use Rattle.wt_turn.specs.declared.reply.Reply.{Reply}
use Rattle.wt_turn.specs.declared.turn.Turn.{Turn}
use Rattle.wt_wire.specs.declared.side.Side.{Side}
use Rattle.wt_wire.specs.declared.side.Side.TheVariants.{Client, Server}
use Rattle.wt_meaning.specs.Lawful as meant
use Rattle.wt_turn.specs.declared.action.Action.TheVariants as actions
use Rattle.wt_turn.specs.declared.call.Call.TheVariants as calls
use Rattle.wt_turn.specs.declared.reply.Reply.TheVariants as replies
use Rattle.wt_turn.specs.declared.turn.Turn.TheVariants as turns

-- ---- streams that are there

-- a number from these on
in-from : (kind n count m : ℕ) → n ≤ m → m < n + count → list_any (λ (j : ℕ). j == 4 * m + kind) (ids_from kind n count) ≡ true
in-from kind n zero m a b = absurd (omega (arith, a, b))
in-from kind n (suc count) m a b = by (nat_lt n m) refl (λ l. in-from kind (suc n) count m l (omega (arith, b)))
  where
    by : (x : Bool) → nat_lt n m ≡ x → (suc n ≤ m → list_any (λ (j : ℕ). j == 4 * m + kind) (ids_from kind (suc n) count) ≡ true) → ((4 * n + kind == 4 * m + kind) || list_any (λ (j : ℕ). j == 4 * m + kind) (ids_from kind (suc n) count)) ≡ true
    by true e again = or-later (4 * n + kind == 4 * m + kind) _ (again (ltb-true n m e))
    by false e again = let l = ltb-false n m e in or-here (4 * n + kind == 4 * m + kind) _ (eq-eqb (4 * n + kind) (4 * m + kind) (omega (arith, a, l)))

any-of : (kind k : ℕ) (as_ : List Action) → list_any (λ (j : ℕ). j == k) (filter_map (opens_of kind) as_) ≡ true → list_any (opens_it k) as_ ≡ true
any-of kind k [] e = absurd (cc e)
any-of kind k (actions.Opened id ∷ as_) e = by (id % 4 == kind) refl e (any-of kind k as_)
  where
    or-both : (b c d : Bool) → (b || c) ≡ true → (c ≡ true → d ≡ true) → (b || d) ≡ true
    or-both true c d p f = refl
    or-both false c d p f = f p

    by : (b : Bool) → (id % 4 == kind) ≡ b → list_any (λ (j : ℕ). j == k) (filter_map (opens_of kind) (actions.Opened id ∷ as_)) ≡ true
        → (list_any (λ (j : ℕ). j == k) (filter_map (opens_of kind) as_) ≡ true → list_any (opens_it k) as_ ≡ true) → ((id == k) || list_any (opens_it k) as_) ≡ true
    by true q f again = let g = rw q at f in or-both (id == k) (list_any (λ (j : ℕ). j == k) (filter_map (opens_of kind) as_)) _ g again
    by false q f again = let g = rw q at f in or-later (id == k) _ (again g)
any-of kind k (x ∷ as_) e = any-of kind k as_ e

sym-eq : (a b : ℕ) → (a == b) ≡ (b == a)
sym-eq a b = by (a == b) refl
  where
    by : (x : Bool) → (a == b) ≡ x → x ≡ (b == a)
    by true e = sym (eq-eqb b a (sym (eqb-true a b e)))
    by false e = sym (swapped a b e)

-- each of this end's streams is named by the action that opened it
local-there : (side : Side) (h : History) → IsHistory side h → (kind n : ℕ) → n < local_count (actions_out h) kind → list_any (opens_it (4 * n + kind)) (actions_out h) ≡ true
local-there side [] i kind n l = absurd (omega (arith, l))
local-there side (p ∷ h) i kind n l = any-newest (opens_it (4 * n + kind)) p.answer.actions (actions_out h) ∙ by (nat_lt n (local_count (actions_out h) kind)) refl (local-there side h i.2 kind n)
  where
    next_ : filter_map (opens_of kind) p.answer.actions ≡ ids_from kind (local_count (actions_out h) kind) (length (filter_map (opens_of kind) p.answer.actions))
    next_ = rw i.1 (opens_in_order side h p.turn i.2 i.0 kind).next

    by : (b : Bool) → nat_lt n (local_count (actions_out h) kind) ≡ b → (n < local_count (actions_out h) kind → list_any (opens_it (4 * n + kind)) (actions_out h) ≡ true)
        → (list_any (opens_it (4 * n + kind)) p.answer.actions || list_any (opens_it (4 * n + kind)) (actions_out h)) ≡ true
    by true e again = or-later (list_any (opens_it (4 * n + kind)) p.answer.actions) _ (again (ltb-true n (local_count (actions_out h) kind) e))
    by false e again =
        let a = ltb-false n (local_count (actions_out h) kind) e in let b = opened-out kind p.answer.actions (actions_out h) in let c = ids-count kind p.answer.actions in
        or-here (list_any (opens_it (4 * n + kind)) p.answer.actions) _
        (any-of kind (4 * n + kind) p.answer.actions (ap (λ (ids : List ℕ). list_any (λ (j : ℕ). j == 4 * n + kind) ids) next_
        ∙ in-from kind (local_count (actions_out h) kind) (length (filter_map (opens_of kind) p.answer.actions)) n a (omega (arith, l, b, c))))

-- it opens none of the peer's
none-local : (side : Side) (h : History) → IsHistory side h → (kind : ℕ) → ((local_uni side == kind) || (local_bi side == kind)) ≡ false → local_count (actions_out h) kind ≡ 0
none-local side [] i kind e = refl
none-local side (p ∷ h) i kind e =
    let a = none-local side h i.2 kind e in let b = opened-out kind p.answer.actions (actions_out h) in let c = ids-count kind p.answer.actions in
    let d : length (filter_map (opens_of kind) p.answer.actions) ≡ 0 = rw i.1 (ap (λ (ids : List ℕ). length ids) ((opens_in_order side h p.turn i.2 i.0 kind).own e)) in omega (arith, a, b, c, d)

pub no-peers : (side : Side) (kind : ℕ) → (peer_uni side == kind) ≡ false → (peer_bi side == kind) ≡ false → (es : List Event) → peer_count side es kind ≡ 0
no-peers side kind u b [] = refl
no-peers side kind u b (PeerUni ∷ es) = rw u (no-peers side kind u b es)
no-peers side kind u b (PeerBi ∷ es) = rw b (no-peers side kind u b es)
no-peers side kind u b (e ∷ es) = no-peers side kind u b es

exists-there : (side : Side) (h : History) → IsHistory side h → (k : ℕ) → exists side h k ≡ true → is_there side h k ≡ true
exists-there side h i k e = by (is_local side k) refl
  where
    turned : ((local_uni side == k % 4) || (local_bi side == k % 4)) ≡ is_local side k
    turned = rw (sym-eq (local_uni side) (k % 4), sym-eq (local_bi side) (k % 4)) refl

    count : k / 4 < stream_count side h (k % 4)
    count = ltb-true (k / 4) (stream_count side h (k % 4)) e

    by : (b : Bool) → is_local side k ≡ b → is_there side h k ≡ true
    by true q =
        let s = local-small side (k % 4) (turned ∙ q) in let n = no-peers side (k % 4) s.1 s.2 (all_events h) in
        let there : list_any (opens_it k) (actions_out h) ≡ true = ap (λ (j : ℕ). list_any (opens_it j) (actions_out h)) (omega arith) ∙ local-there side h i (k % 4) (k / 4) (omega (arith, count, n)) in
        or-later (nat_lt (k / 4) (peer_count side (all_events h) (k % 4))) _ (both (is_local side k) _ q there)
    by false q =
        let n = none-local side h i (k % 4) (turned ∙ q) in
        or-here (nat_lt (k / 4) (peer_count side (all_events h) (k % 4))) _ (lt-ltb (k / 4) (peer_count side (all_events h) (k % 4)) (omega (arith, count, n)))

-- a stream that an action named is one of those that were counted
in-ids : (kind n count k : ℕ) → kind < 4 → list_any (λ (j : ℕ). j == k) (ids_from kind n count) ≡ true → k / 4 < n + count
in-ids kind n zero k l e = absurd (cc e)
in-ids kind n (suc count) k l e = by (4 * n + kind == k) refl e (in-ids kind (suc n) count k l)
  where
    by : (b : Bool) → (4 * n + kind == k) ≡ b → (b || list_any (λ (j : ℕ). j == k) (ids_from kind (suc n) count)) ≡ true
        → (list_any (λ (j : ℕ). j == k) (ids_from kind (suc n) count) ≡ true → k / 4 < suc n + count) → k / 4 < n + suc count
    by true q f again = let z = eqb-true (4 * n + kind) k q in omega (arith, z, l)
    by false q f again = let z = again f in omega (arith, z)

of-any : (k : ℕ) (as_ : List Action) → list_any (opens_it k) as_ ≡ true → list_any (λ (j : ℕ). j == k) (filter_map (opens_of (k % 4)) as_) ≡ true
of-any k [] e = absurd (cc e)
of-any k (actions.Opened id ∷ as_) e = by (id == k) refl e (of-any k as_)
  where
    any : (b : Bool) → list_any (λ (j : ℕ). j == k) (filter_map (opens_of (k % 4)) as_) ≡ true → list_any (λ (j : ℕ). j == k) (cons_option (if b then Some id else None) (filter_map (opens_of (k % 4)) as_)) ≡ true
    any true q = or-later (id == k) _ q
    any false q = q

    by : (b : Bool) → (id == k) ≡ b → (b || list_any (opens_it k) as_) ≡ true → (list_any (opens_it k) as_ ≡ true → list_any (λ (j : ℕ). j == k) (filter_map (opens_of (k % 4)) as_) ≡ true)
        → list_any (λ (j : ℕ). j == k) (filter_map (opens_of (k % 4)) (actions.Opened id ∷ as_)) ≡ true
    by true q f again = rw (eq-eqb (id % 4) (k % 4) (ap (λ (n : ℕ). n % 4) (eqb-true id k q))) (or-here (id == k) _ q)
    by false q f again = any (id % 4 == k % 4) (again f)
of-any k (x ∷ as_) e = of-any k as_ e

named-local : (side : Side) (h : History) → IsHistory side h → (k : ℕ) → list_any (opens_it k) (actions_out h) ≡ true → k / 4 < local_count (actions_out h) (k % 4)
named-local side [] i k e = absurd (cc e)
named-local side (p ∷ h) i k e = by (list_any (opens_it k) p.answer.actions) refl (sym (any-newest (opens_it k) p.answer.actions (actions_out h)) ∙ e) (named-local side h i.2 k)
  where
    by : (b : Bool) → list_any (opens_it k) p.answer.actions ≡ b → (list_any (opens_it k) p.answer.actions || list_any (opens_it k) (actions_out h)) ≡ true
        → (list_any (opens_it k) (actions_out h) ≡ true → k / 4 < local_count (actions_out h) (k % 4)) → k / 4 < local_count (actions_out (p ∷ h)) (k % 4)
    by true q f again =
        let n : filter_map (opens_of (k % 4)) p.answer.actions ≡ ids_from (k % 4) (local_count (actions_out h) (k % 4)) (length (filter_map (opens_of (k % 4)) p.answer.actions)) = rw i.1 (opens_in_order side h p.turn i.2 i.0 (k % 4)).next in
        let x = in-ids (k % 4) (local_count (actions_out h) (k % 4)) (length (filter_map (opens_of (k % 4)) p.answer.actions)) k (omega arith) (ap (λ (ids : List ℕ). list_any (λ (j : ℕ). j == k) ids) (sym n) ∙ of-any k p.answer.actions q) in
        let y = opened-out (k % 4) p.answer.actions (actions_out h) in let z = ids-count (k % 4) p.answer.actions in omega (arith, x, y, z)
    by false q f again =
        let x = again (let g = rw q at f in g) in let y = opened-out (k % 4) p.answer.actions (actions_out h) in omega (arith, x, y)

there-exists : (side : Side) (h : History) → IsHistory side h → (k : ℕ) → is_there side h k ≡ true → exists side h k ≡ true
there-exists side h i k e = by (nat_lt (k / 4) (peer_count side (all_events h) (k % 4))) refl e
  where
    by : (b : Bool) → nat_lt (k / 4) (peer_count side (all_events h) (k % 4)) ≡ b → (b || (is_local side k && list_any (opens_it k) (actions_out h))) ≡ true → exists side h k ≡ true
    by true q f = let x = ltb-true (k / 4) (peer_count side (all_events h) (k % 4)) q in lt-ltb (k / 4) (stream_count side h (k % 4)) (omega (arith, x))
    by false q f = let x = named-local side h i k (and-right (is_local side k) _ f) in lt-ltb (k / 4) (stream_count side h (k % 4)) (omega (arith, x))

same-bool : (a b : Bool) → (a ≡ true → b ≡ true) → (b ≡ true → a ≡ true) → a ≡ b
same-bool true b f g = sym (f refl)
same-bool false true f g = g refl
same-bool false false f g = refl

-- a stream is there exactly where it was counted
there-is : (side : Side) (h : History) → IsHistory side h → (k : ℕ) → is_there side h k ≡ exists side h k
there-is side h i k = same-bool (is_there side h k) (exists side h k) (there-exists side h i k) (exists-there side h i k)

-- ---- what both say alike

-- how many pairs pass a test that none of bytes passes
count-same : (test : Pair → Bool) → ((k : ℕ) (piece : List ℕ) (sent : List Action) → test (brought k piece sent) ≡ false) → (r h : History) → SamePairs r h → length (filter test r) ≡ length (filter test h)
count-same test none = same (λ (h : History). length (filter test h)) (λ k piece sent h. rw (none k piece sent) refl) both-add
  where
    both-add : (p : Pair) (r h : History) → length (filter test r) ≡ length (filter test h) → length (filter test (p ∷ r)) ≡ length (filter test (p ∷ h))
    both-add p r h e = by (test p) refl
      where
        by : (b : Bool) → test p ≡ b → length (filter test (p ∷ r)) ≡ length (filter test (p ∷ h))
        by true q = rw q (ap (λ (n : ℕ). suc n) e)
        by false q = rw q e

-- a request is given by an Incoming
count-gives : (side : Side) (h : History) → IsHistory side h → length (filter (λ (p : Pair). gives p.turn p.answer.reply) h) ≡ length (filter (λ (p : Pair). gives_request p.answer.reply) h)
count-gives side [] i = refl
count-gives side (p ∷ h) i = by (gives_request p.answer.reply) refl (count-gives side h i.2)
  where
    of-turn : (turn : Turn) (reply : Reply) → turn ≡ turns.Call calls.Incoming → gives turn reply ≡ gives_request reply
    of-turn turn reply e = rw e refl

    request : (reply : Reply) → (next side h p.turn).reply ≡ reply → gives_request reply ≡ true → gives p.turn reply ≡ gives_request reply
    request (replies.Request k headers) e g = of-turn p.turn (replies.Request k headers) (request_came side h p.turn i.2 k headers e).asked
    request reply e g = absurd (cc g)

    none : (turn : Turn) (reply : Reply) → gives_request reply ≡ false → gives turn reply ≡ false
    none (turns.Call calls.Incoming) reply g = g
    none turn reply g = refl

    by : (b : Bool) → gives_request p.answer.reply ≡ b → length (filter (λ (q : Pair). gives q.turn q.answer.reply) h) ≡ length (filter (λ (q : Pair). gives_request q.answer.reply) h)
        → length (filter (λ (q : Pair). gives q.turn q.answer.reply) (p ∷ h)) ≡ length (filter (λ (q : Pair). gives_request q.answer.reply) (p ∷ h))
    by true g e = rw (request p.answer.reply (ap (λ (a : Answer). a.reply) (sym i.1)) g ∙ g, g) (ap (λ (n : ℕ). suc n) e)
    by false g e = rw (none p.turn p.answer.reply g, g) e

-- something happened on both
not-piece-first : (side : Side) (h : History) → IsHistory side h → is_first h ≡ false → list_any (λ (p : Pair). not (is-piece p.turn)) h ≡ true
not-piece-first side [] i e = absurd (cc e)
not-piece-first side (p ∷ h) i e = by (is-piece p.turn) refl (not-piece-first side h i.2)
  where
    came : (turn : Turn) → is-piece turn ≡ true → is_lawful side h turn ≡ true → is_first h ≡ false
    came (turns.Bytes id piece) q l = connected-later h (and-left (is_connected (all_events h)) (not (is_lost h)) (and-left (is_connected (all_events h) && not (is_lost h)) _ l))
    came turn q l = absurd (cc q)

    by : (b : Bool) → is-piece p.turn ≡ b → (is_first h ≡ false → list_any (λ (q : Pair). not (is-piece q.turn)) h ≡ true) → (not (is-piece p.turn) || list_any (λ (q : Pair). not (is-piece q.turn)) h) ≡ true
    by false q again = rw q refl
    by true q again = rw q (again (came p.turn q i.0))

some-first : (h : History) → list_any (λ (p : Pair). not (is-piece p.turn)) h ≡ true → is_first h ≡ false
some-first [] e = absurd (cc e)
some-first (p ∷ h) e = refl

module _ (side : Side) (r h : History) (a : Alike r h) (i : IsHistory side h) where
  first-alike : is_first r ≡ is_first h
  first-alike = by (is_first h) refl
    where
      by : (b : Bool) → is_first h ≡ b → is_first r ≡ is_first h
      by true e = a.begun e ∙ sym e
      by false e = some-first r (same (λ (g : History). list_any (λ (p : Pair). not (is-piece p.turn)) g) (λ k piece sent g. refl) (λ p q g x. ap (λ (b : Bool). not (is-piece p.turn) || b) x) r h a.pairs ∙ not-piece-first side h i e) ∙ sym e

  waiting-alike : is_waiting r ≡ is_waiting h
  waiting-alike = same is_waiting (λ k piece sent g. refl) (λ p q g x. ap (λ (b : Bool). if polls p.turn then is_pending p.answer.reply else b) x) r h a.pairs

  request-alike : has_request r ≡ has_request h
  request-alike = same has_request (λ k piece sent g. refl) (λ p q g x. ap (λ (b : Bool). if is_of_request p.turn then gives_request p.answer.reply else b) x) r h a.pairs

  failed-alike : list_any (λ (p : Pair). fails_incoming p.turn p.answer.reply) r ≡ list_any (λ (p : Pair). fails_incoming p.turn p.answer.reply) h
  failed-alike = same (λ (g : History). list_any (λ (p : Pair). fails_incoming p.turn p.answer.reply) g) (λ k piece sent g. refl) (λ p q g x. ap (λ (b : Bool). fails_incoming p.turn p.answer.reply || b) x) r h a.pairs

  answered-alike : all_answered r ≡ meant.all_answered h
  answered-alike =
      rw (count-same (λ (p : Pair). gives p.turn p.answer.reply) (λ k piece sent. refl) r h a.pairs ∙ count-gives side h i, count-same (λ (p : Pair). polls p.turn && not (is_pending p.answer.reply)) (λ k piece sent. refl) r h a.pairs) refl

  reset-alike : (k : ℕ) → is_reset r k ≡ is_reset h k
  reset-alike k = rw (a.done (is_reset_of k) (λ id p q. refl), same (λ (g : History). list_any (λ (p : Pair). answers_reset k p.turn p.answer.reply) g) (λ id piece sent g. refl) (λ p q g x. ap (λ (b : Bool). answers_reset k p.turn p.answer.reply || b) x) r h a.pairs) refl

  finished-alike : (k : ℕ) → was_finished r k ≡ was_finished h k
  finished-alike k = a.done (finishes k) (λ id p q. refl)

  begun-alike : has_begun side r ≡ has_begun side h
  begun-alike = by side
    where
      by : (s : Side) → has_begun s r ≡ has_begun s h
      by Client = a.done dials (λ id p q. refl)
      by Server = refl

  there : (k : ℕ) → (nat_lt (k / 4) (peer_count side (all_events h) (k % 4)) || (is_local side k && list_any (opens_it k) (actions_out r))) ≡ exists side h k
  there k = rw (a.done (opens_it k) (λ id p q. refl)) (there-is side h i k)

  -- a call may come
  call-follows : (c : Call) → may_follow side r (turns.Call c) ≡ is_lawful side h (turns.Call c)
  call-follows (calls.Connect options lookup outcome) = rw first-alike refl
  call-follows calls.Incoming = rw (first-alike, failed-alike, answered-alike) refl
  call-follows calls.Handshake = waiting-alike
  call-follows c =
      ap (λ (b : Bool). not b && (if is_response c then not (is_client side) && has_request r else true)) first-alike
      ∙ ap (λ (b : Bool). not (is_first h) && (if is_response c then not (is_client side) && b else true)) request-alike

-- ---- turns of the transport

and-2 : (c t x : Bool) → ((c && t) && x) ≡ (c && (t && x))
and-2 true t x = refl
and-2 false t x = refl

and-3 : (c t x y : Bool) → (((c && t) && x) && y) ≡ (c && ((t && x) && y))
and-3 true t x y = refl
and-3 false t x y = refl

-- a kind of the peer's is none of this side's
peers-apart : (side : Side) → (((local_uni side == peer_uni side) || (local_bi side == peer_uni side)) ≡ false) × (((local_uni side == peer_bi side) || (local_bi side == peer_bi side)) ≡ false)
peers-apart Client = (refl, refl)
peers-apart Server = (refl, refl)

module _ (side : Side) (r h : History) (a : Alike r h) (i : IsHistory side h) where
  abbrev come : Bool
  come = is_connected (all_events h) && not (is_lost h)

  peers-alone : (kind : ℕ) → ((local_uni side == kind) || (local_bi side == kind)) ≡ false → peer_count side (all_events h) kind ≡ stream_count side h kind
  peers-alone kind e = let n = none-local side h i kind e in omega (arith, n)

  half : (id : ℕ) → (come && (((nat_lt (id / 4) (peer_count side (all_events h) (id % 4)) || (is_local side id && list_any (opens_it id) (actions_out r))) && not (id % 4 == local_uni side)) && is_running (end_of (all_events h) id)))
      ≡ (come && ((exists side h id && not (id % 4 == local_uni side)) && is_running (end_of (all_events h) id)))
  half id = ap (λ (b : Bool). come && ((b && not (id % 4 == local_uni side)) && is_running (end_of (all_events h) id))) (there side r h a i id)

  -- rule 1 is that the turn is lawful after the history
  pub turn-follows : (turn : Turn) → may_follow side r turn ≡ is_lawful side h turn
  turn-follows turns.PeerUni = rw a.ever (ap (λ (n : ℕ). come && nat_lt n (2 ^ 60)) (peers-alone (peer_uni side) (peers-apart side).0))
  turn-follows turns.PeerBi = rw a.ever (ap (λ (n : ℕ). come && nat_lt n (2 ^ 60)) (peers-alone (peer_bi side) (peers-apart side).1))
  turn-follows (turns.Bytes id piece) = rw a.ever (half id)
  turn-follows (turns.End id) = rw a.ever (half id)
  turn-follows (turns.Reset id code) = rw a.ever (half id)
  turn-follows (turns.Stop id code) = rw a.ever (and-2 come _ (is_awaited h id) ∙ ap (λ (b : Bool). come && ((b && not (id % 4 == peer_uni side)) && is_awaited h id)) (there side r h a i id))
  turn-follows (turns.MaxData id total) =
      rw a.ever (and-3 come _ (nat_le (credit (all_events h) id) total) (nat_lt total (2 ^ 62))
      ∙ ap (λ (b : Bool). come && (((b && not (id % 4 == peer_uni side)) && nat_le (credit (all_events h) id) total) && nat_lt total (2 ^ 62))) (there side r h a i id))
  turn-follows (turns.Acked id) = rw (a.ever, finished-alike side r h a i id, reset-alike side r h a i id) refl
  turn-follows (turns.Connected uni bi total fact) = rw (a.ever, begun-alike side r h a i) refl
  turn-follows (turns.Loss reason) = rw (a.ever, begun-alike side r h a i) refl
  turn-follows (turns.Call c) = call-follows side r h a i c
  turn-follows turn = rw a.ever refl

follows-rightly : (side : Side) (r h : History) (turn : Turn) → Alike r h → IsHistory side h → is_lawful side h turn ≡ true → follows side r (record { turn = turn; answer = answer_to side h turn }) ≡ true
follows-rightly side r h turn a i l = turn-follows side r h a i turn ∙ l

pub of_turns : (side : Side) (all : List Turn) → AllLawful side [] all → holds follows (recorded side all) ≡ true
of_turns side = throughout side follows (follows-rightly side)
