-- How many streams an end opens: none before its connection came, and no more than 2^60 of a kind.
use Rattle.std.specs.Prelude.{[], ◌%◌, ◌&&◌, ◌++◌, ◌+◌, ◌/◌, ◌<◌, ◌==◌, ◌^◌, ◌∷◌, ◌||◌, ◌≡◌, ◌≤◌, Bool, Err, List, None, Ok, Option, Result, Some, drop, false, filter_map, if◌then◌else◌, is_some, length, nat_le, nat_lt, not, take, true, ℕ}
use Rattle.std.specs.List.{list_any}
use Rattle.std.proofs.Common.{◌∙◌, ap, arith, refl, subst, sym}
use Rattle.std.proofs.lemmas.Bool.{eqb-true, leb-false, leb-true, ltb-true}
use Rattle.std.proofs.lemmas.List.Folds.{list_any-append}
use Rattle.wt_meaning.specs.Calls.{stream_header}
use Rattle.wt_message.specs.FixedBytes.{local_control_bytes}
use Rattle.wt_meaning.specs.Handshakes.{begin_rows, close_by, connect_on, connect_rows, head_left, acceptance_rows, connect_fault, is_opened, last_begun, none_lives, poll_rows, rejection_rows, request_rows, response_fault, response_rows, send}
use Rattle.wt_meaning.specs.History.{History, Pair, actions_out, all_events, allowed, contents, credit_left, events, exists, is_open, may_open, next_id, out, stream_count}
use Rattle.wt_meaning.specs.Lawful.{has_begun, is_lawful, is_lost, polls}
use Rattle.wt_meaning.specs.Meaning.{own_answer}
use Rattle.wt_meaning.specs.Moments.{findings}
use Rattle.wt_meaning.specs.Rows.{first_row}
use Rattle.wt_meaning.specs.Sends.{action_if, actions_for_all, close_if_open, moment_actions, session_finish, session_gone_actions}
use Rattle.wt_meaning.specs.Targets.{Target}
use Rattle.wt_promise.proofs.Accepted.{and-left, and-right, or-first}
use Rattle.wt_promise.proofs.Actions.{none-append, none-gone, none-if, none-sent, opened, opened-none, opened-out, opens-none}
use Rattle.wt_promise.proofs.Flow.{clash}
use Rattle.wt_promise.proofs.Fresh.{nth-of}
use Rattle.wt_promise.proofs.MomentActs.{or-either}
use Rattle.wt_promise.proofs.OpensNext.{MomentFirst, MomentIds, MomentNone, NoStream, OneStream, OwnOpens, ids-count, local-small, moment-ids, opens_in_order, own-opens}
use Rattle.wt_promise.proofs.Opened.{opened-all}
use Rattle.wt_promise.proofs.SettingsOut.{open-events}
use Rattle.wt_promise.proofs.Shapes.{Alone, Ending, Finishing, Handshaking, Next, NextOpened, Nothing, Nought, Polling, Resetting, Shape, Writing, opens-some, shape}
use Rattle.wt_promise.proofs.Tables.{OfRows, by-row, by-value, no-row}
use Rattle.wt_promise.specs.Promise.{IsHistory}
use Rattle.wt_proto.specs.ResponseWalk.{response_walk_of}
use Rattle.wt_proto.specs.declared.response_walk.ResponseWalk.{ResponseWalk}
use Rattle.wt_promise.specs.Sides.{opens_of}
use Rattle.wt_turn.specs.Joined.{send_of}
use Rattle.wt_turn.specs.Reports.{bis_allowed, end_of, is_connected, stop_of, unis_allowed}
use Rattle.wt_turn.specs.Streams.{local_bi, local_count, local_uni, one_more_if, opens, peer_count}
use Rattle.wt_turn.specs.Log.{Event}
use Rattle.wt_turn.specs.declared.action.Action.{Action}
use Rattle.wt_turn.specs.declared.answer.Answer.{Answer}
use Rattle.wt_turn.specs.declared.call.Call.{Call}
use Rattle.wt_turn.specs.declared.connecting_error.ConnectingError.{ConnectingError}
use Rattle.wt_turn.specs.declared.turn.Turn.{Turn}
use Rattle.wt_wire.specs.Codes.{code_of}
use Rattle.wt_wire.specs.declared.error.ErrorCode.{ErrorCode}
use Rattle.wt_wire.specs.declared.side.Side.{Side}
use Rattle.wt_turn.specs.declared.action.Action.TheVariants as actions
use Rattle.wt_turn.specs.declared.call.Call.TheVariants as calls
use Rattle.wt_turn.specs.declared.reply.Reply.TheVariants as replies
use Rattle.wt_turn.specs.declared.turn.Turn.TheVariants as turns

-- ---- a call opens a stream only where it may

module _ (side : Side) (h : History) (kind : ℕ) where
  abbrev MayOpen : Answer → Type 0
  MayOpen a = list_any (opens kind) a.actions ≡ true → may_open side h kind ≡ true

  no-send : (k : ℕ) (bytes : List ℕ) → list_any (opens kind) (send h k bytes) ≡ false
  no-send k bytes = none-sent (opens kind) k (take (credit_left h k) bytes) (λ p. refl)

  no-close : (code : ℕ) → list_any (opens kind) (close_if_open h code) ≡ false
  no-close code = none-if (opens kind) (is_open h) (actions.Close code []) refl

  quiet : (as_ : List Action) → list_any (opens kind) as_ ≡ false → list_any (opens kind) as_ ≡ true → may_open side h kind ≡ true
  quiet as_ n e = absurd (clash (list_any (opens kind) as_) e n)

  -- a client's request opens stream 0
  module _ (ready : is_opened h ≡ false → may_open side h 0 ≡ true) where
    opening-may : list_any (opens kind) (action_if (not (is_opened h)) (actions.Opened 0)) ≡ true → may_open side h kind ≡ true
    opening-may e = by (is_opened h) refl e
      where
        by : (b : Bool) → is_opened h ≡ b → list_any (opens kind) (action_if (not b) (actions.Opened 0)) ≡ true → may_open side h kind ≡ true
        by true q x = absurd (cc x)
        by false q x = subst (λ (n : ℕ). may_open side h n ≡ true) (eqb-true 0 kind (or-first (0 == kind) false x refl)) (ready q)

    alone-may : (left : List ℕ) → list_any (opens kind) (action_if (not (is_opened h)) (actions.Opened 0) ++ send h 0 left) ≡ true → may_open side h kind ≡ true
    alone-may left e = or-either {P = may_open side h kind ≡ true} (list_any (opens kind) (action_if (not (is_opened h)) (actions.Opened 0))) (list_any (opens kind) (send h 0 left))
        (sym (list_any-append (opens kind) (action_if (not (is_opened h)) (actions.Opened 0)) (send h 0 left)) ∙ e) opening-may (quiet (send h 0 left) (no-send 0 left))

    front-may : (left : List ℕ) (more : List Action) → list_any (opens kind) more ≡ false → list_any (opens kind) ((action_if (not (is_opened h)) (actions.Opened 0) ++ send h 0 left) ++ more) ≡ true → may_open side h kind ≡ true
    front-may left more n e = or-either {P = may_open side h kind ≡ true} (list_any (opens kind) (action_if (not (is_opened h)) (actions.Opened 0) ++ send h 0 left)) (list_any (opens kind) more)
        (sym (list_any-append (opens kind) (action_if (not (is_opened h)) (actions.Opened 0) ++ send h 0 left) more) ∙ e) (alone-may left) (quiet more n)

    response-may : (left : List ℕ) (walk : ResponseWalk) → OfRows MayOpen (response_rows side h (action_if (not (is_opened h)) (actions.Opened 0) ++ send h 0 left) walk)
    response-may left walk =
        by-value MayOpen (response_fault walk) connect_fault _ _ (λ y q. front-may left (close_by h (response_fault walk)) (none-by (response_fault walk)))
        (λ q. by-row MayOpen _ _ _ _ (λ q. front-may left (close_if_open h 0) (no-close 0))
        (λ q. by-row MayOpen _ _ _ _ (λ q. alone-may left)
        (λ q. by-row MayOpen _ _ _ _ (λ q. alone-may left)
        (λ q. by-row MayOpen _ _ _ _ (λ q. front-may left (close_if_open h 0) (no-close 0))
        (λ q. by-row MayOpen _ _ _ _ (λ q. alone-may left)
        (λ q. by-row MayOpen true (replies.Session 0) (action_if (not (is_opened h)) (actions.Opened 0) ++ send h 0 left) [] (λ q. alone-may left) (λ q. absurd (cc q))))))))
      where
        none-by : (o : Option ErrorCode) → list_any (opens kind) (close_by h o) ≡ false
        none-by None = refl
        none-by (Some code) = no-close (code_of code)

    request-may : (left : List ℕ) → OfRows MayOpen (request_rows side h (action_if (not (is_opened h)) (actions.Opened 0)) left)
    request-may left =
        by-row MayOpen _ _ _ _ (λ q e. absurd (cc e))
        (λ q. by-row MayOpen _ _ _ _ (λ q. quiet (close_if_open h 0) (no-close 0))
        (λ q. by-row MayOpen _ _ _ _ (λ q. alone-may left)
        (λ q. response-may left (response_walk_of (contents h 0) (end_of (events h) 0)))))

  connect-may : (t : Target) → OfRows MayOpen (connect_rows side h t)
  connect-may t =
      by-row MayOpen _ _ _ _ (λ q e. absurd (cc e))
      (λ q. by-row MayOpen _ _ _ _ (λ q e. absurd (cc e))
      (λ q. by-row MayOpen _ _ _ _ (λ q e. absurd (cc e))
      (λ q. by-row MayOpen _ _ _ _ (λ q e. absurd (cc e))
      (λ q. by-value MayOpen t.reserved _ _ _ (λ y q. quiet (close_if_open h 0) (no-close 0))
      (λ q. by-row MayOpen _ _ _ _ (λ q e. absurd (cc e))
      (λ q. by-row MayOpen (not (is_opened h) && not (may_open side h 0)) _ _ _ (λ q e. absurd (cc e))
      (λ m. request-may (ready m) (head_left h 0 t.frame))))))))
    where
      ready : (not (is_opened h) && not (may_open side h 0)) ≡ false → is_opened h ≡ false → may_open side h 0 ≡ true
      ready m o = by (may_open side h 0) (ap (λ (b : Bool). not b && not (may_open side h 0)) (sym o) ∙ m)
        where
          by : (b : Bool) → not b ≡ false → b ≡ true
          by true e = refl
          by false e = absurd (cc e)

  connect-on-may : (t : Result Target ConnectingError) → OfRows MayOpen (connect_on side h t)
  connect-on-may (Err e) = no-row MayOpen (λ e. absurd (cc e))
  connect-on-may (Ok t) = connect-may t

  accept-may : (s : ℕ) (left : List ℕ) → OfRows MayOpen (acceptance_rows h s left)
  accept-may s left =
      by-row MayOpen _ _ _ _ (λ q e. absurd (cc e))
      (λ q. by-row MayOpen _ _ _ _ (λ q. quiet (close_if_open h 0x104) (no-close 0x104))
      (λ q. by-row MayOpen _ _ _ _ (λ q. quiet (send h s left) (no-send s left))
      (λ q. by-row MayOpen true (replies.Session s) (send h s left) [] (λ q. quiet (send h s left) (no-send s left)) (λ q. absurd (cc q)))))

  no-gone : (s : ℕ) → list_any (opens kind) (session_gone_actions side h (findings side h) s) ≡ false
  no-gone s = none-gone (opens kind) (λ k c. refl) (λ k c. refl) side h (findings side h) s

  reject-may : (s : ℕ) (left : List ℕ) → OfRows MayOpen (rejection_rows side h s left)
  reject-may s left =
      by-row MayOpen _ _ _ _ (λ q e. absurd (cc e))
      (λ q. by-row MayOpen _ _ _ _ (λ q. quiet (session_gone_actions side h (findings side h) s ++ close_if_open h 0x104) (none-append (opens kind) (session_gone_actions side h (findings side h) s) (close_if_open h 0x104) (no-gone s) (no-close 0x104)))
      (λ q. by-row MayOpen _ _ _ _ (λ q. quiet (send h s left) (no-send s left))
      (λ q. by-row MayOpen _ _ _ _ (λ q. quiet (send h s left ++ actions.Finish s ∷ []) (none-append (opens kind) (send h s left) (actions.Finish s ∷ []) (no-send s left) refl))
      (λ q. by-row MayOpen _ _ _ _ (λ q. quiet (session_gone_actions side h (findings side h) s ++ (if none_lives side h then close_if_open h 0 else [])) (none-append (opens kind) (session_gone_actions side h (findings side h) s) (if none_lives side h then close_if_open h 0 else []) (no-gone s) (last (none_lives side h))))
      (λ q. no-row MayOpen (λ e. absurd (cc e)))))))
    where
      last : (b : Bool) → list_any (opens kind) (if b then close_if_open h 0 else []) ≡ false
      last true = no-close 0
      last false = refl

  poll-may : (c : Option Call) → OfRows MayOpen (poll_rows side h c)
  poll-may None = no-row MayOpen (λ e. absurd (cc e))
  poll-may (Some (calls.Connect options lookup outcome)) = connect-on-may _
  poll-may (Some (calls.Accept headers)) = accept-may _ _
  poll-may (Some calls.Forbidden) = reject-may _ _
  poll-may (Some calls.NotFound) = reject-may _ _
  poll-may (Some calls.TooManyRequests) = reject-may _ _
  poll-may (Some c) = no-row MayOpen (λ e. absurd (cc e))

  begin-may : (t : Result Target ConnectingError) → MayOpen (first_row (begin_rows t))
  begin-may (Err e) x = absurd (cc x)
  begin-may (Ok t) x = absurd (cc x)

  handshake-may : (call : Call) → polls (turns.Call call) ≡ true → MayOpen (own_answer side h (turns.Call call))
  handshake-may calls.Handshake p = (poll-may (last_begun h)).first
  handshake-may (calls.Connect options lookup outcome) p = begin-may _
  handshake-may (calls.Accept headers) p = (accept-may _ _).first
  handshake-may calls.Forbidden p = (reject-may _ _).first
  handshake-may calls.NotFound p = (reject-may _ _).first
  handshake-may calls.TooManyRequests p = (reject-may _ _).first
  handshake-may call p = absurd (cc p)

  -- the next stream of one kind is of that kind
  next-kind : (n : ℕ) → ((local_uni side == n) || (local_bi side == n)) ≡ true → may_open side h n ≡ true → list_any (opens kind) (actions.Opened (next_id side h n) ∷ []) ≡ true → may_open side h kind ≡ true
  next-kind n l m e =
      let s = (nth-of (stream_count side h n) n (local-small side n l).0).1 in
      let x = eqb-true (next_id side h n % 4) kind (or-first (next_id side h n % 4 == kind) false e refl) in
      subst (λ (j : ℕ). may_open side h j ≡ true) (sym s ∙ x) m

  alone-opens : (t : Bool) (x : Action) → (opens-some x ≡ true → NextOpened side h x) → list_any (opens kind) (action_if t x) ≡ true → may_open side h kind ≡ true
  alone-opens false x o e = absurd (cc e)
  alone-opens true (actions.Opened id) o e = by (o refl)
    where
      by : NextOpened side h (actions.Opened id) → may_open side h kind ≡ true
      by (Next n l m q) = next-kind n l m (ap (λ (y : Action). list_any (opens kind) (y ∷ [])) (sym q) ∙ e)
  alone-opens true x o e = absurd (cc e)

  own-may-call : (call : Call) → MayOpen (own_answer side h (turns.Call call))
  own-may-call call = by (own_answer side h (turns.Call call)) (shape side h call).first refl
    where
      by : (b : Answer) → Shape side h call b → own_answer side h (turns.Call call) ≡ b → MayOpen b
      by b (Nothing r n) q e = absurd (cc e)
      by b Nought q e = absurd (cc e)
      by b (Alone r t x n u m o) q e = alone-opens t x o e
      by b (Writing id bytes piece r ho cl pi ac sa wr) q e = quiet (send h id bytes) (no-send id bytes) e
      by b (Polling id s name r c be na li ha) q e = quiet (send h id (head_left h id (stream_header id s))) (no-send id (head_left h id (stream_header id s))) e
      by b (Finishing id c ha n) q e = absurd (cc e)
      by b (Resetting id code c g n) q e = quiet (action_if (is_open h) (actions.ResetOut id code)) (none-if (opens kind) (is_open h) (actions.ResetOut id code) refl) e
      by b (Ending s name c m o v) q e =
          quiet (session_finish h s ++ session_gone_actions side h (findings side h) s) (none-append (opens kind) (session_finish h s) (session_gone_actions side h (findings side h) s) (none-if (opens kind) (not (is_some (stop_of (events h) s))) (actions.Finish s) refl) (no-gone s)) e
      by b (Handshaking c p g e' d y) q e = subst MayOpen q (handshake-may call p) e

pub own-may : (side : Side) (h : History) (turn : Turn) (kind : ℕ) → list_any (opens kind) (own_answer side h turn).actions ≡ true → may_open side h kind ≡ true
own-may side h (turns.Call call) kind e = own-may-call side h kind call e
own-may side h turn kind e = absurd (cc e)

-- ---- how many are allowed

pub record Allowed (h : History) : Type 0 where
  pub unis : unis_allowed (all_events h) ≤ 2 ^ 60
  pub bis : bis_allowed (all_events h) ≤ 2 ^ 60
  pub unis_then : 1 ≤ unis_allowed (all_events h) → is_connected (all_events h) ≡ true
  pub bis_then : 1 ≤ bis_allowed (all_events h) → is_connected (all_events h) ≡ true

-- a turn on a connection that came and isn't lost
rises : (a b c d : Bool) → (a && b && (c && d)) ≡ true → (a ≡ true) × (d ≡ true)
rises true true true true e = (refl, refl)
rises false b c d e = absurd (cc e)
rises true false c d e = absurd (cc e)
rises true true false d e = absurd (cc e)
rises true true true false e = absurd (cc e)

comes : (a b c u v w : Bool) → (a && b && c && u && v && w) ≡ true → (u ≡ true) × (v ≡ true)
comes true true true true true true e = (refl, refl)
comes false b c u v w e = absurd (cc e)
comes true false c u v w e = absurd (cc e)
comes true true false u v w e = absurd (cc e)
comes true true true false v w e = absurd (cc e)
comes true true true true false w e = absurd (cc e)
comes true true true true true false e = absurd (cc e)

pub allowed-all : (side : Side) (h : History) → IsHistory side h → Allowed h
allowed-all side [] i = record { unis = omega arith; bis = omega arith; unis_then = λ l. absurd (omega (arith, l)); bis_then = λ l. absurd (omega (arith, l)) }
allowed-all side (p ∷ h) i = by p.turn i.0 (allowed-all side h i.2)
  where
    by : (turn : Turn) → is_lawful side h turn ≡ true → Allowed h → Allowed (record { turn = turn; answer = p.answer } ∷ h)
    by (turns.Connected uni bi total fact) l a =
        let c = comes (has_begun side h) (not (is_connected (all_events h))) (not (is_lost h)) (nat_le uni (2 ^ 60)) (nat_le bi (2 ^ 60)) (nat_lt total (2 ^ 62)) l in
        record { unis = leb-true uni (2 ^ 60) c.0; bis = leb-true bi (2 ^ 60) c.1; unis_then = λ x. refl; bis_then = λ x. refl }
    by (turns.MaxUni total) l a =
        let r = rises (is_connected (all_events h)) (not (is_lost h)) (nat_le (unis_allowed (all_events h)) total) (nat_le total (2 ^ 60)) l in
        record { unis = leb-true total (2 ^ 60) r.1; bis = a.bis; unis_then = λ x. r.0; bis_then = a.bis_then }
    by (turns.MaxBi total) l a =
        let r = rises (is_connected (all_events h)) (not (is_lost h)) (nat_le (bis_allowed (all_events h)) total) (nat_le total (2 ^ 60)) l in
        record { unis = a.unis; bis = leb-true total (2 ^ 60) r.1; unis_then = a.unis_then; bis_then = λ x. r.0 }
    by turn l a = record { unis = a.unis; bis = a.bis; unis_then = a.unis_then; bis_then = a.bis_then }

-- a connection that came stays so
pub connected-stays : (p : Pair) (h : History) → is_connected (all_events h) ≡ true → is_connected (all_events (p ∷ h)) ≡ true
connected-stays p h e = by p.turn
  where
    by : (turn : Turn) → is_connected (all_events (record { turn = turn; answer = p.answer } ∷ h)) ≡ true
    by (turns.Connected uni bi total fact) = refl
    by turn = e

-- where one may be opened
may-allowed : (side : Side) (h : History) (kind : ℕ) → IsHistory side h → may_open side h kind ≡ true → (stream_count side h kind < 2 ^ 60) × (is_connected (all_events h) ≡ true)
may-allowed side h kind i m = by (kind == local_uni side) (subst (λ (es : List Event). stream_count side h kind < allowed side es kind) (open-events h (and-left (is_open h) _ m)) below) (allowed-all side h i)
  where
    below : stream_count side h kind < allowed side (events h) kind
    below = ltb-true (stream_count side h kind) (allowed side (events h) kind) (and-right (is_open h) _ m)

    by : (b : Bool) → stream_count side h kind < (if b then unis_allowed (all_events h) else bis_allowed (all_events h)) → Allowed h → (stream_count side h kind < 2 ^ 60) × (is_connected (all_events h) ≡ true)
    by true l a = let x = a.unis in (omega (arith, l, x), a.unis_then (omega (arith, l)))
    by false l a = let x = a.bis in (omega (arith, l, x), a.bis_then (omega (arith, l)))

-- ---- how many were opened

pub record Counted (h : History) (kind : ℕ) : Type 0 where
  pub few : local_count (actions_out h) kind ≤ 2 ^ 60
  pub came : 1 ≤ local_count (actions_out h) kind → is_connected (all_events h) ≡ true

-- a moment opens a stream where the peer allows one
moment-allowed : (side : Side) (q : Pair) (h : History) (kind : ℕ) → list_any (opens kind) (moment_actions side (q ∷ h)) ≡ true → (is_open (q ∷ h) ≡ true) × (1 ≤ unis_allowed (events (q ∷ h)))
moment-allowed side q h kind e = by (is_open (q ∷ h)) refl (nat_le 1 (unis_allowed (events (q ∷ h)))) refl e
  where
    others : List Action
    others = actions_for_all side (q ∷ h) (findings side h) (drop (length (findings side h)) (findings side (q ∷ h)))

    control : Bool → List Action
    control b = if b then action_if (local_count (actions_out (q ∷ h)) (local_uni side) == 0) (actions.Opened (local_uni side))
        ++ send_of (local_uni side) (take (credit_left (q ∷ h) (local_uni side)) (drop (length (out (q ∷ h) (local_uni side))) local_control_bytes)) else []

    by : (o : Bool) → is_open (q ∷ h) ≡ o → (u : Bool) → nat_le 1 (unis_allowed (events (q ∷ h))) ≡ u → list_any (opens kind) (if o then control u ++ others else []) ≡ true
        → (is_open (q ∷ h) ≡ true) × (1 ≤ unis_allowed (events (q ∷ h)))
    by false x u y z = absurd (cc z)
    by true x true y z = (x, leb-true 1 (unis_allowed (events (q ∷ h))) y)
    by true x false y z = absurd (clash (list_any (opens kind) others) z (opens-none kind side (q ∷ h) (findings side h) (drop (length (findings side h)) (findings side (q ∷ h)))))

own-one : (side : Side) (h : History) (own : List Action) (kind : ℕ) → OwnOpens side h own → opened kind own ≤ 1
own-one side h own kind (NoStream f) = let z = opened-none kind own (f kind) in omega (arith, z)
own-one side h own kind (OneStream j later l e f) = let z = opened-none kind later (f kind) in let x = ap (opened kind) e in by (next_id side h j % 4 == kind) x z
  where
    by : (b : Bool) → opened kind own ≡ one_more_if b (opened kind later) → opened kind later ≡ 0 → opened kind own ≤ 1
    by true x z = omega (arith, x, z)
    by false x z = omega (arith, x, z)

pub counted : (side : Side) (h : History) → IsHistory side h → (kind : ℕ) → Counted h kind
counted side [] i kind = record { few = omega arith; came = λ l. absurd (omega (arith, l)) }
counted side (p ∷ h) i kind = by (list_any (opens kind) own) refl (moment-ids side q h kind) (counted side h i.2 kind)
  where
    own : List Action
    own = (own_answer side h p.turn).actions

    q : Pair
    q = record { turn = p.turn; answer = own_answer side h p.turn }

    moment : List Action
    moment = moment_actions side (q ∷ h)

    now : ℕ
    now = local_count (actions_out (p ∷ h)) kind

    all : now ≡ opened kind own + opened kind moment + local_count (actions_out h) kind
    all = rw i.1 (opened-all side h p.turn kind)

    one : opened kind own ≤ 1
    one = own-one side h own kind (own-opens side h p.turn i.2 i.0)

    allows : Allowed (p ∷ h)
    allows = allowed-all side (p ∷ h) i

    come : list_any (opens kind) moment ≡ true → is_connected (all_events (p ∷ h)) ≡ true
    come e = let m = moment-allowed side q h kind e in allows.unis_then (subst (λ (es : List Event). 1 ≤ unis_allowed es) (open-events (q ∷ h) m.0) m.1)

    first : opened kind moment ≡ 1 → list_any (opens kind) moment ≡ true
    first e = of (list_any (opens kind) moment) refl
      where
        of : (b : Bool) → list_any (opens kind) moment ≡ b → b ≡ true
        of true x = refl
        of false x = absurd (let z = opened-none kind moment x in omega (arith, e, z))

    fits : (b : Bool) → list_any (opens kind) own ≡ b → Counted h kind → opened kind moment ≡ 0 → Counted (p ∷ h) kind
    fits true x c z =
        let m = may-allowed side h kind i.2 (own-may side h p.turn kind x) in
        let a = m.0 in
        record { few = omega (arith, all, one, z, a); came = λ l. connected-stays p h m.1 }
    fits false x c z =
        let n = opened-none kind own x in
        let a = c.few in
        record { few = omega (arith, all, n, z, a); came = λ l. connected-stays p h (c.came (omega (arith, all, n, z, l))) }

    by : (b : Bool) → list_any (opens kind) own ≡ b → MomentIds side (q ∷ h) kind moment → Counted h kind → Counted (p ∷ h) kind
    by b x (MomentNone y) c = fits b x c (ids-count kind moment ∙ ap length y)
    by b x (MomentFirst s z y) c =
        let m : opened kind moment ≡ 1 = ids-count kind moment ∙ ap length y in
        let before : local_count (actions_out (q ∷ h)) kind ≡ 0 = subst (λ (n : ℕ). local_count (actions_out (q ∷ h)) n ≡ 0) s z in
        let o = opened-out kind own (actions_out h) in
        record { few = omega (arith, all, m, before, o); came = λ l. come (first m) }

-- a stream of a peer's kind is there once the connection came
pub peers-come : (side : Side) (h : History) → IsHistory side h → (kind : ℕ) → 1 ≤ peer_count side (all_events h) kind → is_connected (all_events h) ≡ true
peers-come side [] i kind l = absurd (omega (arith, l))
peers-come side (p ∷ h) i kind l = by p.turn i.0 l (peers-come side h i.2 kind)
  where
    by : (turn : Turn) → is_lawful side h turn ≡ true → 1 ≤ peer_count side (all_events (record { turn = turn; answer = p.answer } ∷ h)) kind → (1 ≤ peer_count side (all_events h) kind → is_connected (all_events h) ≡ true)
        → is_connected (all_events (record { turn = turn; answer = p.answer } ∷ h)) ≡ true
    by (turns.Connected uni bi total fact) m l again = refl
    by turns.PeerUni m l again = and-left (is_connected (all_events h)) _ (and-left (is_connected (all_events h) && not (is_lost h)) _ m)
    by turns.PeerBi m l again = and-left (is_connected (all_events h)) _ (and-left (is_connected (all_events h) && not (is_lost h)) _ m)
    by turn m l again = again l

pub there-connected : (side : Side) (h : History) → IsHistory side h → (k : ℕ) → exists side h k ≡ true → is_connected (all_events h) ≡ true
there-connected side h i k e = by (nat_le 1 (local_count (actions_out h) (k % 4))) refl
  where
    there : k / 4 < stream_count side h (k % 4)
    there = ltb-true (k / 4) (stream_count side h (k % 4)) e

    by : (b : Bool) → nat_le 1 (local_count (actions_out h) (k % 4)) ≡ b → is_connected (all_events h) ≡ true
    by true x = (counted side h i (k % 4)).came (leb-true 1 (local_count (actions_out h) (k % 4)) x)
    by false x = let n = leb-false 1 (local_count (actions_out h) (k % 4)) x in peers-come side h i (k % 4) (omega (arith, there, n))

-- of a kind that isn't this end's it opens none
pub none-of-peers : (side : Side) (h : History) → IsHistory side h → (kind : ℕ) → (local_uni side == kind || local_bi side == kind) ≡ false → local_count (actions_out h) kind ≡ 0
none-of-peers side [] i kind n = refl
none-of-peers side (p ∷ h) i kind n =
    let a = opened-out kind p.answer.actions (actions_out h) in
    let own : filter_map (opens_of kind) p.answer.actions ≡ [] = rw i.1 ((opens_in_order side h p.turn i.2 i.0 kind).own n) in
    let b : length (filter_map (opens_of kind) p.answer.actions) ≡ 0 = ap length own in
    let c = ids-count kind p.answer.actions in
    let d = none-of-peers side h i.2 kind n in omega (arith, a, b, c, d)
