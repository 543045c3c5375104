-- A stream of this end's is opened before anything goes out on it.
use Rattle.wt_promise.proofs.Statements.{OpensFirst}
use Rattle.std.specs.Prelude.{[], ◌%◌, ◌&&◌, ◌*◌, ◌++◌, ◌+◌, ◌/◌, ◌<◌, ◌==◌, ◌∷◌, ◌||◌, ◌≡◌, ◌≤◌, Bool, Err, List, None, Ok, Option, Result, Some, drop, false, if◌then◌else◌, is_some, length, nat_le, nat_lt, not, suc, take, true, zero, ℕ}
use Rattle.std.specs.List.{list_any}
use Rattle.std.proofs.Common.{◌∙◌, ap, arith, refl, subst, sym}
use Rattle.std.proofs.lemmas.Bool.{eq-eqb, eqb-false, eqb-true, lt-ltb, ltb-false, ltb-true}
use Rattle.std.proofs.lemmas.List.{append-nil}
use Rattle.url.specs.Parser.{parse_url}
use Rattle.wt_meaning.specs.Calls.{opened_by}
use Rattle.wt_message.specs.FixedBytes.{local_control_bytes}
use Rattle.wt_meaning.specs.Findings.{Finding, first_of}
use Rattle.wt_meaning.specs.Handshakes.{begin_rows, head_left, is_opened, poll_rows, send}
use Rattle.wt_meaning.specs.History.{History, Pair, actions_out, all_events, credit_left, events, exists, is_handed_out, is_open, is_reset_of, next_id, out, stream_count}
use Rattle.wt_meaning.specs.Lawful.{is_first, is_lawful, is_response, polls}
use Rattle.wt_meaning.specs.Meaning.{next, own_answer}
use Rattle.wt_meaning.specs.Moments.{findings}
use Rattle.wt_meaning.specs.Sends.{action_if, actions_for_all, close_if_open, control_actions, is_of_session, moment_actions}
use Rattle.wt_meaning.specs.Rows.{first_row}
use Rattle.wt_meaning.specs.Targets.{Target, target_of}
use Rattle.wt_meaning.specs.Windows.{is_established, is_number}
use Rattle.wt_promise.proofs.Accepted.{and-left, and-right}
use Rattle.wt_promise.proofs.Actions.{none-control, none-if, opened, opened-none, opened-out}
use Rattle.wt_promise.proofs.AllFound.{none-opened}
use Rattle.wt_promise.proofs.Asks.{begun-kind}
use Rattle.wt_promise.proofs.Begun.{BegunFor, polled-stream}
use Rattle.wt_promise.proofs.Behind.{neither-acts}
use Rattle.wt_promise.proofs.ControlKept.{begun-not-control, begun-opening, control-not-opened, polled-k}
use Rattle.wt_promise.proofs.Flow.{clash}
use Rattle.wt_promise.proofs.Fresh.{established-opened, nth-of, was-opened}
use Rattle.wt_promise.proofs.Grows.{findings-add, is_peers, news-dropped}
use Rattle.wt_promise.proofs.MomentActs.{Closing, Going, NewReset, all-resets, all-sends, closed-lived, closes_session}
use Rattle.wt_promise.proofs.OpenStays.{same-news}
use Rattle.wt_promise.proofs.Opened.{opened-all}
use Rattle.wt_promise.proofs.OpensNext.{MomentFirst, MomentIds, MomentNone, NoStream, OneStream, OwnOpens, ids-count, local-small, moment-ids, own-opens, uni-mod}
use Rattle.wt_promise.proofs.OwnActs.{Ends, GoneBy, Held, Opens, Polls, ResetsWhy, SendsWhy, Writes}
use Rattle.wt_promise.proofs.OwnCalls.{own-acts}
use Rattle.wt_promise.proofs.Sessions.{is_connect}
use Rattle.wt_promise.proofs.Shakes.{Finishes, Goes, GoesShuts, Rejects, Shake, Shut, Shuts, Still, rest, shakes}
use Rattle.wt_promise.proofs.Shapes.{going}
use Rattle.wt_promise.proofs.Silent.{client-zero, established-begun}
use Rattle.wt_promise.proofs.Verdicts.{ByAccept, ByOpening, HandedBy, admitted-peers, given-peers, handed-by}
use Rattle.wt_promise.proofs.WasReset.{Admitted, Of, Opened, of-is, of-next, opened-first}
use Rattle.wt_promise.proofs.OwnForms.{head_of}
use Rattle.wt_promise.specs.Promise.{IsHistory, acts_on, sends_on}
use Rattle.wt_promise.specs.Sides.{opened_before, opens_of}
use Rattle.wt_turn.specs.Joined.{join_all, join_one, send_of}
use Rattle.wt_turn.specs.Reports.{unis_allowed}
use Rattle.wt_turn.specs.Streams.{local_bi, local_count, local_uni, one_more_if, opens, peer_bi, peer_uni}
use Rattle.wt_turn.specs.declared.action.Action.{Action}
use Rattle.wt_turn.specs.declared.answer.Answer.{Answer}
use Rattle.wt_turn.specs.declared.call.Call.{Call}
use Rattle.wt_turn.specs.declared.connecting_error.ConnectingError.{ConnectingError}
use Rattle.wt_turn.specs.declared.turn.Turn.{Turn}
use Rattle.wt_wire.specs.declared.side.Side.{Side}
use Rattle.wt_wire.specs.declared.side.Side.TheVariants.{Client, Server}
use Rattle.wt_turn.specs.declared.action.Action.TheVariants as actions
use Rattle.wt_turn.specs.declared.call.Call.TheVariants as calls
use Rattle.wt_turn.specs.declared.turn.Turn.TheVariants as turns

-- ---- lists

apart-first : (k : ℕ) (xs ys : List Action) → list_any (acts_on k) xs ≡ false → opened_before (acts_on k) k ys ≡ true → opened_before (acts_on k) k (xs ++ ys) ≡ true
apart-first k [] ys e f = f
apart-first k (x ∷ xs) ys e f = by (is_number k (opens_of (k % 4) x)) (acts_on k x) refl e (apart-first k xs ys)
  where
    by : (o a : Bool) → acts_on k x ≡ a → (a || list_any (acts_on k) xs) ≡ false → (list_any (acts_on k) xs ≡ false → opened_before (acts_on k) k ys ≡ true → opened_before (acts_on k) k (xs ++ ys) ≡ true)
        → (o || (not (acts_on k x) && opened_before (acts_on k) k (xs ++ ys))) ≡ true
    by true a q r again = refl
    by false true q r again = absurd (cc r)
    by false false q r again = rw (q, again r f) refl

none-first : (k : ℕ) (xs : List Action) → list_any (acts_on k) xs ≡ false → opened_before (acts_on k) k xs ≡ true
none-first k xs e = ap (opened_before (acts_on k) k) (sym (append-nil xs)) ∙ apart-first k xs [] e refl

first-two : (k : ℕ) (b a : Action) (later : List Action) → opened_before (acts_on k) k (b ∷ a ∷ later) ≡ true → opened_before (acts_on k) k (join_one (b ∷ []) a ++ later) ≡ true
first-two k (actions.Send i p) (actions.Send j s) later q = by (i == j) refl
  where
    by : (c : Bool) → (i == j) ≡ c → opened_before (acts_on k) k ((if c then actions.Send i (p ++ s) ∷ [] else actions.Send i p ∷ actions.Send j s ∷ []) ++ later) ≡ true
    by false e = q
    by true e = of (i == k) (j == k) (ap (λ (n : ℕ). n == k) (eqb-true i j e)) q
      where
        of : (x y : Bool) → x ≡ y → (not (x || false) && (not (y || false) && opened_before (acts_on k) k later)) ≡ true → (not (x || false) && opened_before (acts_on k) k later) ≡ true
        of true y w z = absurd (cc z)
        of false false w z = z
        of false true w z = absurd (cc z)
first-two k b a later q = q

first-one : (k : ℕ) (before : List Action) (a : Action) (later : List Action) → opened_before (acts_on k) k (before ++ a ∷ later) ≡ true → opened_before (acts_on k) k (join_one before a ++ later) ≡ true
first-one k [] a later q = q
first-one k (b ∷ []) a later q = first-two k b a later q
first-one k (b ∷ c ∷ rest) a later q = by (is_number k (opens_of (k % 4) b)) (not (acts_on k b)) q (first-one k (c ∷ rest) a later)
  where
    by : (x y : Bool) → (x || (y && opened_before (acts_on k) k ((c ∷ rest) ++ a ∷ later))) ≡ true → (opened_before (acts_on k) k ((c ∷ rest) ++ a ∷ later) ≡ true → opened_before (acts_on k) k (join_one (c ∷ rest) a ++ later) ≡ true)
        → (x || (y && opened_before (acts_on k) k (join_one (c ∷ rest) a ++ later))) ≡ true
    by true y r again = refl
    by false true r again = again r
    by false false r again = absurd (cc r)

first-join : (k : ℕ) (before later : List Action) → opened_before (acts_on k) k (before ++ later) ≡ true → opened_before (acts_on k) k (join_all before later) ≡ true
first-join k before [] q = ap (opened_before (acts_on k) k) (sym (append-nil before)) ∙ q
first-join k before (a ∷ later) q = first-join k (join_one before a) later (first-one k before a later q)

-- ---- what is known of a stream of this end's

abbrev pub IsOwn : Side → ℕ → Type 0
IsOwn side k = ((local_uni side == k % 4) || (local_bi side == k % 4)) ≡ true

pub own-not-peers : (side : Side) (k : ℕ) → IsOwn side k → is_peers side k ≡ false
own-not-peers side k o =
    let s = local-small side (k % 4) o in rw (swap (peer_uni side) (k % 4) s.1, swap (peer_bi side) (k % 4) s.2) refl
  where
    swap : (a b : ℕ) → (a == b) ≡ false → (b == a) ≡ false
    swap a b e = of (b == a) refl
      where
        of : (x : Bool) → (b == a) ≡ x → x ≡ false
        of false q = refl
        of true q = absurd (eqb-false a b e (sym (eqb-true b a q)))

opened-exists : (side : Side) (h : History) → IsHistory side h → (k : ℕ) → is_some (first_of (λ (p : Pair). opened_by k p.turn p.answer.reply) h) ≡ true → exists side h k ≡ true
opened-exists side h i k e = by (first_of (λ (p : Pair). opened_by k p.turn p.answer.reply) h) refl e
  where
    by : (o : Option (Option ℕ)) → first_of (λ (p : Pair). opened_by k p.turn p.answer.reply) h ≡ o → is_some o ≡ true → exists side h k ≡ true
    by (Some name) q f = (was-opened side h i k name q).there
    by None q f = absurd (cc f)

pub handed-exists : (side : Side) (h : History) → IsHistory side h → (k : ℕ) → IsOwn side k → is_handed_out h k ≡ true → exists side h k ≡ true
handed-exists side h i k o e = by (handed-by side h i k e)
  where
    by : HandedBy side h k → exists side h k ≡ true
    by (ByAccept s a) = absurd (clash (is_peers side k) (admitted-peers side h s k a) (own-not-peers side k o))
    by (ByOpening x) = opened-exists side h i k x

of-exists : (side : Side) (h : History) → IsHistory side h → (s k : ℕ) → IsOwn side k → Of h (findings side h) s k → exists side h k ≡ true
of-exists side h i s k o (Admitted e) = absurd (clash (is_peers side k) (admitted-peers side h s k e) (own-not-peers side k o))
of-exists side h i s k o (Opened name x n) = opened-exists side h i k (ap is_some (opened-first side h i k name x))

one-there : (h : History) → 1 ≤ local_count (actions_out h) 0 → exists Client h 0 ≡ true
one-there h l = lt-ltb (0 / 4) (stream_count Client h (0 % 4)) (omega (arith, l))

established-exists : (side : Side) (h : History) → IsHistory side h → (k : ℕ) → IsOwn side k → is_established h k ≡ true → exists side h k ≡ true
established-exists Client h i k o e = let z = client-zero h i k e in subst (λ (n : ℕ). exists Client h n ≡ true) (sym z) (one-there h (established-opened h i k e))
established-exists Server h i k o e = absurd (clash (is_peers Server k) (given-peers Server h i k (established-begun Server h i k e)) (own-not-peers Server k o))

uni-div : (side : Side) → local_uni side / 4 ≡ 0
uni-div Client = refl
uni-div Server = refl

-- ---- a call's own actions

-- they open it in front, or they don't touch it, and it isn't there after them either
pub data OwnPart (side : Side) (h : History) (k : ℕ) (own : List Action) (q : Pair) : Type 0 where
  InFront : (later : List Action) → own ≡ actions.Opened k ∷ later → OwnPart side h k own q
  Untouched : list_any (acts_on k) own ≡ false → exists side (q ∷ h) k ≡ false → OwnPart side h k own q

module _ (side : Side) (h : History) (turn : Turn) (i : IsHistory side h) (l : is_lawful side h turn ≡ true) (k : ℕ) (o : IsOwn side k) (n : exists side h k ≡ false) where
  abbrev pub own : List Action
  own = (own_answer side h turn).actions

  abbrev pub q : Pair
  q = record { turn = turn; answer = own_answer side h turn }

  abbrev p : Pair
  p = record { turn = turn; answer = next side h turn }

  all : IsHistory side (p ∷ h)
  all = (l, refl, i)

  -- it isn't there: fewer were opened
  fewer : local_count (actions_out h) (k % 4) ≤ k / 4
  fewer = let a = ltb-false (k / 4) (stream_count side h (k % 4)) n in omega (arith, a)

  small : (k % 4 < 4) × ((peer_uni side == k % 4) ≡ false) × ((peer_bi side == k % 4) ≡ false)
  small = local-small side (k % 4) o

  absent : (x : Pair) → local_count (actions_out (x ∷ h)) (k % 4) ≤ k / 4 → exists side (x ∷ h) k ≡ false
  absent x b = by (nat_lt (k / 4) (stream_count side (x ∷ h) (k % 4))) refl
    where
      by : (c : Bool) → nat_lt (k / 4) (stream_count side (x ∷ h) (k % 4)) ≡ c → c ≡ false
      by false e = refl
      by true e = absurd (let y = ltb-true (k / 4) (stream_count side (x ∷ h) (k % 4)) e in let z = none-opened side (all_events (x ∷ h)) (k % 4) small.1 small.2 in omega (arith, y, z, b))

  -- a client's connect opens its stream in front of what it sends
  client-polled : side ≡ Client → k ≡ 0 → (c : Call) → polls turn ≡ true → going h turn ≡ Some c → list_any (sends_on 0) own ≡ true → list_any (opens 0) own ≡ false → ⊥
  client-polled s z c g w x f = of side s turn h i l (subst (λ (j : ℕ). exists side h j ≡ false) z n) g w x f
    where
      shut : (y : History) (code : ℕ) → list_any (sends_on 0) (close_if_open y code) ≡ false
      shut y code = none-if (sends_on 0) (is_open y) (actions.Close code []) refl

      unopened : (y : History) → exists Client y 0 ≡ false → is_opened y ≡ false
      unopened y e = by (local_count (actions_out y) 0) refl
        where
          by : (m : ℕ) → local_count (actions_out y) 0 ≡ m → not (local_count (actions_out y) 0 == 0) ≡ false
          by zero q = ap (λ (m : ℕ). not (m == 0)) q
          by (suc m) q = absurd (clash (exists Client y 0) (one-there y (omega (arith, q))) e)

      fronts : (y : History) (d : Call) (frame : List ℕ) (more : List Action) → is_connect d ≡ true → is_opened y ≡ false → list_any (opens 0) (rest y d frame ++ more) ≡ true
      fronts y (calls.Connect options lookup outcome) frame more e q = ap (λ (b : Bool). list_any (opens 0) ((action_if (not b) (actions.Opened 0) ++ send y 0 (head_left y 0 frame)) ++ more)) q
      fronts y d frame more e q = absurd (cc e)

      not-response : (d : Call) → is_connect d ≡ true → is_response d ≡ true → ⊥
      not-response (calls.Connect options lookup outcome) a b = cc b
      not-response d a b = cc a

      shakes-of : (y : History) (d : Call) (b : Answer) → is_connect d ≡ true → is_opened y ≡ false → Shake Client y d (head_of (Some d)) b → list_any (sends_on 0) b.actions ≡ true → list_any (opens 0) b.actions ≡ false → ⊥
      shakes-of y d b e q (Shut r m) x f = cc x
      shakes-of y d b e q (Still r m) x f = cc x
      shakes-of y d b e q (Shuts r code m z) x f = clash (list_any (sends_on 0) (close_if_open y code)) x (shut y code)
      shakes-of y d b e q (Goes r m) x f = clash (list_any (opens 0) (rest y d (head_of (Some d)))) (ap (list_any (opens 0)) (sym (append-nil (rest y d (head_of (Some d))))) ∙ fronts y d (head_of (Some d)) [] e q) f
      shakes-of y d b e q (GoesShuts r code m z) x f = clash (list_any (opens 0) (rest y d (head_of (Some d)) ++ close_if_open y code)) (fronts y d (head_of (Some d)) (close_if_open y code) e q) f
      shakes-of y d b e q (Finishes r m) x f = not-response d e r
      shakes-of y d b e q (Rejects r t code m) x f = not-response d e r

      begins-quiet : (t : Result Target ConnectingError) → list_any (sends_on 0) (first_row (begin_rows t)).actions ≡ false
      begins-quiet (Err e) = refl
      begins-quiet (Ok t) = refl

      no-response : (y : History) (d : Call) → is_response d ≡ true → is_lawful Client y (turns.Call d) ≡ true → ⊥
      no-response y (calls.Accept headers) e m = let r = and-right (not (is_first y)) false m in cc r
      no-response y calls.Forbidden e m = let r = and-right (not (is_first y)) false m in cc r
      no-response y calls.NotFound e m = let r = and-right (not (is_first y)) false m in cc r
      no-response y calls.TooManyRequests e m = let r = and-right (not (is_first y)) false m in cc r
      no-response y d e m = cc e

      of : (x : Side) → x ≡ Client → (t : Turn) (y : History) → IsHistory x y → is_lawful x y t ≡ true → exists x y 0 ≡ false → polls t ≡ true → going y t ≡ Some c → list_any (sends_on 0) (own_answer x y t).actions ≡ true
          → list_any (opens 0) (own_answer x y t).actions ≡ false → ⊥
      of Server e t y j m u g w x f = cc e
      of Client e (turns.Call calls.Handshake) y j m u g w x f =
          let a = ap (λ (v : Option Call). first_row (poll_rows Client y v)) w in
          shakes-of y c (first_row (poll_rows Client y (Some c))) (begun-kind Client y j c w) (unopened y u) ((shakes Client y c).first) (sym (ap (λ (b : Answer). list_any (sends_on 0) b.actions) a) ∙ x) (sym (ap (λ (b : Answer). list_any (opens 0) b.actions) a) ∙ f)
      of Client e (turns.Call (calls.Connect options lookup outcome)) y j m u g w x f = clash (list_any (sends_on 0) (own_answer Client y (turns.Call (calls.Connect options lookup outcome))).actions) x (begins-quiet (target_of (parse_url None options.0) options.1 lookup outcome))
      of Client e (turns.Call (calls.Accept headers)) y j m u g w x f = no-response y (calls.Accept headers) refl m
      of Client e (turns.Call calls.Forbidden) y j m u g w x f = no-response y calls.Forbidden refl m
      of Client e (turns.Call calls.NotFound) y j m u g w x f = no-response y calls.NotFound refl m
      of Client e (turns.Call calls.TooManyRequests) y j m u g w x f = no-response y calls.TooManyRequests refl m
      of Client e t y j m u g w x f = cc g

  never-begun : BegunFor side h k → (side ≡ Client) × (k ≡ 0)
  never-begun b = of side h i b o
    where
      of : (x : Side) (y : History) → IsHistory x y → BegunFor x y k → IsOwn x k → (x ≡ Client) × (k ≡ 0)
      of Client y j b w = (refl, b)
      of Server y j b w = absurd (clash (is_peers Server k) (given-peers Server y j k b) (own-not-peers Server k w))

  -- where it isn't opened in front, the call doesn't touch it
  own-none : (k ≡ 0 → list_any (opens 0) own ≡ false) → list_any (acts_on k) own ≡ false
  own-none f = neither-acts k own (sends (list_any (sends_on k) own) refl) (resets (list_any (is_reset_of k) own) refl)
    where
      missing : exists side h k ≡ true → ⊥
      missing e = clash (exists side h k) e n

      why : SendsWhy side h k turn → list_any (sends_on k) own ≡ true → ⊥
      why (Writes ha c) x = missing (handed-exists side h i k o ha)
      why (Opens name s b m a) x = missing (opened-exists side h i k (ap is_some (begun-opening h k name b)))
      why (Ends a) x = missing (established-exists side h i k o (and-left (is_established h k) _ a))
      why (Polls c g w e) x =
          let b = never-begun (polled-k side h i c k (polled-stream side h turn c i l g w) e) in
          client-polled b.0 b.1 c g w (ap (λ (j : ℕ). list_any (sends_on j) own) (sym b.1) ∙ x) (f b.1)

      sends : (b : Bool) → list_any (sends_on k) own ≡ b → b ≡ false
      sends false e = refl
      sends true e = absurd (why ((own-acts side h k turn i l).sends e) e)

      gone : ResetsWhy side h k turn (own_answer side h turn).reply → ⊥
      gone (Held x) = missing (handed-exists side h i k o x)
      gone (GoneBy s w m) = missing (of-exists side h i s k o (of-is h (findings side h) s k w))

      resets : (b : Bool) → list_any (is_reset_of k) own ≡ b → b ≡ false
      resets false e = refl
      resets true e = absurd (gone ((own-acts side h k turn i l).resets e))

  pub own-part : OwnPart side h k own q
  own-part = by (own-opens side h turn i l)
    where
      count : local_count (actions_out (q ∷ h)) (k % 4) ≡ opened (k % 4) own + local_count (actions_out h) (k % 4)
      count = opened-out (k % 4) own (actions_out h)

      by : OwnOpens side h own → OwnPart side h k own q
      by (NoStream f) = Untouched (own-none (λ z. f 0)) (absent q (let a = opened-none (k % 4) own (f (k % 4)) in let b = fewer in omega (arith, count, a, b)))
      by (OneStream kind later m e f) = of (next_id side h kind == k) refl
        where
          of-kind : (kind < 4) × ((peer_uni side == kind) ≡ false) × ((peer_bi side == kind) ≡ false)
          of-kind = local-small side kind m

          is-next : next_id side h kind ≡ 4 * local_count (actions_out h) kind + kind
          is-next = let z = none-opened side (all_events h) kind of-kind.1 of-kind.2 in omega (arith, z)

          mod-next : next_id side h kind % 4 ≡ kind
          mod-next = (nth-of (stream_count side h kind) kind of-kind.0).1

          of : (b : Bool) → (next_id side h kind == k) ≡ b → OwnPart side h k own q
          of true x = InFront later (e ∙ ap (λ (j : ℕ). actions.Opened j ∷ later) (eqb-true (next_id side h kind) k x))
          of false x = Untouched (own-none (λ z. ap (list_any (opens 0)) e ∙ rw (mod-next, f 0) (other z))) (absent q (below (kind == k % 4) refl))
            where
              differ : next_id side h kind ≡ k → ⊥
              differ w = eqb-false (next_id side h kind) k x w

              other : k ≡ 0 → ((kind == 0) || false) ≡ false
              other z = at (kind == 0) refl
                where
                  at : (b : Bool) → (kind == 0) ≡ b → (b || false) ≡ false
                  at false w = refl
                  at true w =
                      absurd (differ (let v = eqb-true kind 0 w in let c = ap (local_count (actions_out h)) (v ∙ sym (ap (λ (j : ℕ). j % 4) z)) in let d = fewer in omega (arith, is-next, c, d, v, z)))

              more : opened (k % 4) own ≡ one_more_if (kind == k % 4) (opened (k % 4) later)
              more = ap (opened (k % 4)) e ∙ ap (λ (j : ℕ). one_more_if (j == k % 4) (opened (k % 4) later)) mod-next

              below : (b : Bool) → (kind == k % 4) ≡ b → local_count (actions_out (q ∷ h)) (k % 4) ≤ k / 4
              below false w = let a = more ∙ ap (λ (c : Bool). one_more_if c (opened (k % 4) later)) w in let z = opened-none (k % 4) later (f (k % 4)) in let b = fewer in omega (arith, count, a, z, b)
              below true w = at (nat_lt (local_count (actions_out h) (k % 4)) (k / 4)) refl
                where
                  is-kind : kind ≡ k % 4
                  is-kind = eqb-true kind (k % 4) w

                  at : (b : Bool) → nat_lt (local_count (actions_out h) (k % 4)) (k / 4) ≡ b → local_count (actions_out (q ∷ h)) (k % 4) ≤ k / 4
                  at true v =
                      let a : opened (k % 4) own ≡ opened (k % 4) later + 1 = more ∙ ap (λ (c : Bool). one_more_if c (opened (k % 4) later)) w in let z = opened-none (k % 4) later (f (k % 4)) in let y = ltb-true (local_count (actions_out h) (k % 4)) (k / 4) v in
                      omega (arith, count, a, z, y)
                  at false v =
                      absurd (differ (let y = ltb-false (local_count (actions_out h) (k % 4)) (k / 4) v in let b = fewer in let c = ap (local_count (actions_out h)) is-kind in omega (arith, is-next, c, b, y, is-kind)))

  -- ---- the moment

  module _ (absent-now : exists side (q ∷ h) k ≡ false) where
    -- what is there after the whole answer alone is this end's control stream
    late-control : exists side (p ∷ h) k ≡ true → k ≡ local_uni side
    late-control e = by (moment-ids side q h (k % 4))
      where
        moment : List Action
        moment = moment_actions side (q ∷ h)

        there : k / 4 < stream_count side (p ∷ h) (k % 4)
        there = ltb-true (k / 4) (stream_count side (p ∷ h) (k % 4)) e

        few : local_count (actions_out (q ∷ h)) (k % 4) ≤ k / 4
        few = let a = ltb-false (k / 4) (stream_count side (q ∷ h) (k % 4)) absent-now in omega (arith, a)

        all-count : local_count (actions_out (p ∷ h)) (k % 4) ≡ opened (k % 4) own + opened (k % 4) moment + local_count (actions_out h) (k % 4)
        all-count = opened-all side h turn (k % 4)

        own-count : local_count (actions_out (q ∷ h)) (k % 4) ≡ opened (k % 4) own + local_count (actions_out h) (k % 4)
        own-count = opened-out (k % 4) own (actions_out h)

        by : MomentIds side (q ∷ h) (k % 4) moment → k ≡ local_uni side
        by (MomentNone x) = absurd (let a = ids-count (k % 4) moment ∙ ap length x in let z = none-opened side (all_events (p ∷ h)) (k % 4) small.1 small.2 in omega (arith, there, few, all-count, own-count, a, z))
        by (MomentFirst m z x) =
            let a : opened (k % 4) moment ≡ 1 = ids-count (k % 4) moment ∙ ap length x in
            let c = ap (local_count (actions_out (q ∷ h))) (sym m) ∙ z in
            let y = none-opened side (all_events (p ∷ h)) (k % 4) small.1 small.2 in
            let d : k / 4 ≡ 0 = omega (arith, there, all-count, own-count, a, c, y) in omega (arith, d, m)

    -- a session stands on it, or it was opened for one: then it was there before
    no-session : is_established (p ∷ h) k ≡ true → ⊥
    no-session e =
        let c = late-control (established-exists side (p ∷ h) all k o e) in
        begun-not-control side (p ∷ h) all (established-begun side (p ∷ h) all (local_uni side) (ap (is_established (p ∷ h)) (sym c) ∙ e))

    no-part : (s : ℕ) → Of (p ∷ h) (findings side (p ∷ h)) s k → ⊥
    no-part s w = by w (late-control (of-exists side (p ∷ h) all s k o w))
      where
        by : Of (p ∷ h) (findings side (p ∷ h)) s k → k ≡ local_uni side → ⊥
        by (Admitted x) c = clash (is_peers side k) (admitted-peers side (p ∷ h) s k x) (own-not-peers side k o)
        by (Opened name x m) c = control-not-opened side (p ∷ h) all (ap is_some (subst (λ (j : ℕ). first_of (λ (y : Pair). opened_by j y.turn y.answer.reply) (p ∷ h) ≡ Some name) c (opened-first side (p ∷ h) all k name x)))

    abbrev others : List Action
    others = actions_for_all side (q ∷ h) (findings side h) (drop (length (findings side h)) (findings side (q ∷ h)))

    closed : list_any (closes_session k) (drop (length (findings side h)) (findings side (q ∷ h))) ≡ true → ⊥
    closed e = no-session (and-left (is_established (p ∷ h) k) _ (closed-lived side p h k (ap (list_any (closes_session k)) (sym (same-news side h turn)) ∙ ap (list_any (closes_session k)) (sym (news-dropped side q h)) ∙ e)))

    others-none : list_any (acts_on k) others ≡ false
    others-none = neither-acts k others (sends (list_any (sends_on k) others) refl) (resets (list_any (is_reset_of k) others) refl)
      where
        sends : (b : Bool) → list_any (sends_on k) others ≡ b → b ≡ false
        sends false e = refl
        sends true e = absurd (closed (all-sends side (q ∷ h) k (findings side h) (drop (length (findings side h)) (findings side (q ∷ h))) e))

        gone : NewReset (q ∷ h) k (findings side h ++ drop (length (findings side h)) (findings side (q ∷ h))) (drop (length (findings side h)) (findings side (q ∷ h))) → ⊥
        gone (Closing c) = closed c
        gone (Going s m w z) =
            no-part s (of-next side h turn s k (ap (λ (found : List Finding). is_of_session (q ∷ h) found s k) (findings-add side q h ∙ ap (λ (x : List Finding). findings side h ++ x) (sym (news-dropped side q h))) ∙ w))

        resets : (b : Bool) → list_any (is_reset_of k) others ≡ b → b ≡ false
        resets false e = refl
        resets true e = absurd (gone (all-resets side (q ∷ h) k (findings side h) (drop (length (findings side h)) (findings side (q ∷ h))) e))

    moment-first : opened_before (acts_on k) k (moment_actions side (q ∷ h)) ≡ true
    moment-first = by (is_open (q ∷ h)) (local_uni side == k) refl
      where
        control-first : (u : Bool) → local_uni side ≡ k
            → opened_before (acts_on k) k ((if u then action_if (local_count (actions_out (q ∷ h)) (local_uni side) == 0) (actions.Opened (local_uni side))
            ++ send_of (local_uni side) (take (credit_left (q ∷ h) (local_uni side)) (drop (length (out (q ∷ h) (local_uni side))) local_control_bytes)) else []) ++ others) ≡ true
        control-first false e = none-first k others others-none
        control-first true e = rw none (ap (λ (j : ℕ). is_number k (opens_of (k % 4) (actions.Opened j)) || (not (acts_on k (actions.Opened j)) && opened_before (acts_on k) k (bytes ++ others))) e
            ∙ ap (λ (b : Bool). is_number k (if b then Some k else None) || opened_before (acts_on k) k (bytes ++ others)) (eq-eqb (k % 4) (k % 4) refl) ∙ ap (λ (b : Bool). b || opened_before (acts_on k) k (bytes ++ others)) (eq-eqb k k refl))
          where
            bytes : List Action
            bytes = send_of (local_uni side) (take (credit_left (q ∷ h) (local_uni side)) (drop (length (out (q ∷ h) (local_uni side))) local_control_bytes))

            none : (local_count (actions_out (q ∷ h)) (local_uni side) == 0) ≡ true
            none =
                eq-eqb (local_count (actions_out (q ∷ h)) (local_uni side)) 0
                (let a = ltb-false (k / 4) (stream_count side (q ∷ h) (k % 4)) absent-now in let m = ap (λ (j : ℕ). j % 4) (sym e) ∙ uni-mod side in let d = ap (λ (j : ℕ). j / 4) (sym e) ∙ uni-div side in
                let c = ap (local_count (actions_out (q ∷ h))) m in omega (arith, a, d, c))

        by : (b c : Bool) → (local_uni side == k) ≡ c → opened_before (acts_on k) k (if b then control_actions side (q ∷ h) ++ others else []) ≡ true
        by false c e = refl
        by true true e = control-first (nat_le 1 (unis_allowed (events (q ∷ h)))) (eqb-true (local_uni side) k e)
        by true false e = apart-first k (control_actions side (q ∷ h)) others (none-control (acts_on k) side (q ∷ h) refl (λ x. ap (λ (c : Bool). c || false) e)) (none-first k others others-none)

  pub first : opened_before (acts_on k) k (next side h turn).actions ≡ true
  first = first-join k [] (own ++ moment_actions side (q ∷ h)) (by own-part)
    where
      by : OwnPart side h k own q → opened_before (acts_on k) k (own ++ moment_actions side (q ∷ h)) ≡ true
      by (Untouched a x) = apart-first k own (moment_actions side (q ∷ h)) a (moment-first x)
      by (InFront later e) =
          ap (λ (l : List Action). opened_before (acts_on k) k (l ++ moment_actions side (q ∷ h))) e
          ∙ ap (λ (b : Bool). is_number k (if b then Some k else None) || opened_before (acts_on k) k (later ++ moment_actions side (q ∷ h))) (eq-eqb (k % 4) (k % 4) refl) ∙ ap (λ (b : Bool). b || opened_before (acts_on k) k (later ++ moment_actions side (q ∷ h))) (eq-eqb k k refl)

pub opens_first : (side : Side) (h : History) (turn : Turn) → IsHistory side h → is_lawful side h turn ≡ true → OpensFirst side h (next side h turn)
opens_first side h turn i l k o n = first side h turn i l k o n
