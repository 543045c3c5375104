-- The same turns may come.
use Rattle.std.specs.Prelude.{[], ◌%◌, ◌&&◌, ◌/◌, ◌==◌, ◌^◌, ◌∷◌, ◌||◌, ◌≡◌, Bool, false, is_some, nat_le, nat_lt, not, true, ℕ}
use Rattle.std.specs.List.{list_any}
use Rattle.std.proofs.Common.{◌∙◌, ap, arith, refl, sym}
use Rattle.wt_meaning.specs.History.{History, Pair, all_events, can_receive, can_send, exists}
use Rattle.wt_meaning.specs.Lawful.{all_answered, fails_incoming, has_begun, has_request, is_awaited, is_client, is_first, is_lawful, is_lost, may_call, may_receive}
use Rattle.wt_turn.specs.Arrivals.{fits, may_begin}
use Rattle.wt_turn.specs.Arrivals as arrivals
use Rattle.wt_turn.specs.Reports.{bis_allowed, credit, end_of, is_acknowledged, is_connected, is_running, loss_of, stop_of, unis_allowed}
use Rattle.wt_turn.specs.Sent.{has_dialled, is_finished}
use Rattle.wt_turn.specs.Sent as sends
use Rattle.wt_turn.specs.Streams.{local_uni, peer_bi, peer_uni}
use Rattle.wt_turn.specs.Streams as streams
use Rattle.wt_sessions.specs.Answers as answers
use Rattle.wt_sessions.specs.Handshake.{awaits_answer, awaits_request, handshake_state}
use Rattle.wt_sessions_agree.proofs.Basics.{and-false, and-true, eqb-sym}
use Rattle.wt_sessions_agree.proofs.ConnectionRows.{count-is}
use Rattle.wt_sessions_agree.specs.Stands.{Stands}
use Rattle.wt_turn.specs.Log.{Log, actions_of, all_events_of, calls_of}
use Rattle.wt_turn.specs.declared.call.Call.{Call}
use Rattle.wt_turn.specs.declared.turn.Turn.{Turn}
use Rattle.wt_wire.specs.declared.side.Side.{Side}
use Rattle.wt_wire.specs.declared.side.Side.TheVariants.{Client, Server}
use Rattle.wt_turn.specs.declared.call.Call.TheVariants as calls
use Rattle.wt_turn.specs.declared.turn.Turn.TheVariants as turns

-- ---- tests in another order

le-lt : (a b : ℕ) → nat_le a b ≡ not (nat_lt b a)
le-lt a b = by (nat_lt b a) refl
  where
    by : (l : Bool) → nat_lt b a ≡ l → nat_le a b ≡ not l
    by true e = grind (arith, e)
    by false e = grind (arith, e)

last-moved : (a l c : Bool) → (a && l && c) ≡ ((a && c) && l)
last-moved false l c = refl
last-moved true false c = sym (and-false c)
last-moved true true c = sym (and-true c)

begun-moved : (a b l c d e : Bool) → (a && b && l && c && d && e) ≡ ((a && b && c && d && e) && l)
begun-moved false b l c d e = refl
begun-moved true false l c d e = refl
begun-moved true true false c d e = sym (and-false (c && d && e))
begun-moved true true true c d e = sym (and-true (c && d && e))

module _ (side : Side) (offset : ℕ → ℕ) (h : History) (log : Log) (x : Stands side offset h log) where
  -- ---- what each asks

  begun-by : (s : Side) → has_begun s h ≡ may_begin s log
  begun-by Server = refl
  begun-by Client = x.out.dialled

  exists-is : (k : ℕ) → exists side h k ≡ streams.exists side log k
  exists-is k = ap (nat_lt (k / 4)) (count-is side offset h log x (k % 4))

  receives-is : (k : ℕ) → can_receive side h k ≡ streams.can_receive side log k
  receives-is k = ap (λ (b : Bool). b && not (k % 4 == local_uni side)) (exists-is k) ∙ ap (λ (b : Bool). streams.exists side log k && not b) (eqb-sym (k % 4) (local_uni side))

  sends-is : (k : ℕ) → can_send side h k ≡ streams.can_send side log k
  sends-is k = ap (λ (b : Bool). b && not (k % 4 == peer_uni side)) (exists-is k) ∙ ap (λ (b : Bool). streams.exists side log k && not b) (eqb-sym (k % 4) (peer_uni side))

  -- a turn that asks for a connection that came and isn't lost
  coming : (c d : Bool) → c ≡ d → (is_connected (all_events h) && not (is_lost h) && c) ≡ ((is_connected (all_events_of log) && d) && not (is_some (loss_of (all_events_of log))))
  coming c d e =
      ap (λ (b : Bool). is_connected (all_events h) && not (is_lost h) && b) e
      ∙ rw x.came.all_events (last-moved (is_connected (all_events_of log)) (not (is_some (loss_of (all_events_of log)))) d)

  receiving : (k : ℕ) → may_receive side h k ≡ (streams.can_receive side log k && is_running (end_of (all_events_of log) k))
  receiving k = rw (receives-is k, x.came.all_events) refl

  awaiting : (k : ℕ) → is_awaited h k ≡ (not (is_some (stop_of (all_events_of log) k)) && not (is_acknowledged (all_events_of log) k))
  awaiting k = rw x.came.all_events refl

  and-three : (a b c : Bool) → (a && (b && c)) ≡ ((a && b) && c)
  and-three true b c = refl
  and-three false b c = refl

  -- a turn that brings something on a stream
  grouped : (k : ℕ) → ((is_connected (all_events_of log) && (streams.can_receive side log k && is_running (end_of (all_events_of log) k))) && not (is_some (loss_of (all_events_of log))))
      ≡ (arrivals.may_receive side log k && not (is_some (loss_of (all_events_of log))))
  grouped k =
      ap (λ (b : Bool). b && not (is_some (loss_of (all_events_of log))))
      (and-three (is_connected (all_events_of log)) (streams.can_receive side log k) (is_running (end_of (all_events_of log) k)))

  most : (a b c : Bool) → (a && not (is_some (loss_of (all_events_of log))) && (b && c)) ≡ ((a && b && c) && not (is_some (loss_of (all_events_of log))))
  most a b c = last-moved a (not (is_some (loss_of (all_events_of log)))) (b && c) ∙ ap (λ (y : Bool). y && not (is_some (loss_of (all_events_of log)))) (and-three a b c)

  -- ---- turns of the transport

  lost-by : (s : Side) → side ≡ s → (has_begun s h && not (is_lost h) && (is_client s || is_connected (all_events h))) ≡ (arrivals.may_be_lost s log && not (is_some (loss_of (all_events_of log))))
  lost-by Server q = rw x.came.all_events (by (not (is_some (loss_of (all_events_of log)))) (is_connected (all_events_of log)))
    where
      by : (l c : Bool) → (true && l && (false || c)) ≡ (c && l)
      by true true = refl
      by true false = refl
      by false true = refl
      by false false = refl
  lost-by Client q = rw (x.came.all_events, x.out.dialled) (by (not (is_some (loss_of (all_events_of log)))) (has_dialled (actions_of log)) (is_connected (all_events_of log)))
    where
      by : (l d c : Bool) → (d && l && (true || c)) ≡ (d && l)
      by true true c = refl
      by true false c = refl
      by false true c = refl
      by false false c = refl

  -- ---- calls

  -- a response
  responding : (d : Bool) → is_client side ≡ d → (not (is_first h) && (not (is_client side) && has_request h)) ≡ answers.may_respond side log
  responding true q = rw q (and-false (not (is_first h)))
  responding false q = rw q (asked h (x.handshake.requested q))
    where
      asked : (h : History) → has_request h ≡ awaits_answer (handshake_state (calls_of log)) → (not (is_first h) && has_request h) ≡ awaits_answer (handshake_state (calls_of log))
      asked [] e = e
      asked (p ∷ h) e = e

  incoming-by : (s : Side) → side ≡ s → (not (is_client s) && not (is_first h) && not (list_any (λ (p : Pair). fails_incoming p.turn p.answer.reply) h) && all_answered h)
      ≡ (not (is_client s) && not (answers.is_first log) && awaits_request (handshake_state (calls_of log)))
  incoming-by Client q = refl
  incoming-by Server q =
      let a : is_client side ≡ false = ap is_client q in
      by (not (is_first h)) (not (list_any (λ (p : Pair). fails_incoming p.turn p.answer.reply) h)) (all_answered h)
      ∙ ap (λ (b : Bool). not (is_first h) && b) (x.handshake.awaits a) ∙ ap (λ (b : Bool). not b && awaits_request (handshake_state (calls_of log))) x.first
    where
      by : (f n d : Bool) → (true && f && n && d) ≡ (f && (n && d))
      by true true d = refl
      by true false d = refl
      by false n d = refl

  connect-by : (s : Side) → (is_client s && is_first h) ≡ (is_client s && answers.is_first log)
  connect-by Client = x.first
  connect-by Server = refl

  later : (not (is_first h) && true) ≡ not (answers.is_first log)
  later = and-true (not (is_first h)) ∙ ap not x.first

  call-lawful : (c : Call) → may_call side h c ≡ answers.may_call side log c
  call-lawful (calls.Connect options lookup outcome) = connect-by side
  call-lawful calls.Incoming = incoming-by side refl
  call-lawful (calls.Accept headers) = responding (is_client side) refl
  call-lawful calls.Forbidden = responding (is_client side) refl
  call-lawful calls.NotFound = responding (is_client side) refl
  call-lawful calls.TooManyRequests = responding (is_client side) refl
  call-lawful calls.Handshake = x.handshake.waiting
  call-lawful c = later

  pub lawful-agrees : (turn : Turn) → is_lawful side h turn ≡ answers.is_lawful side log turn
  lawful-agrees (turns.Call c) = call-lawful c
  lawful-agrees (turns.Connected uni bi total fact) =
      rw (begun-by side, x.came.all_events, le-lt uni (2 ^ 60), le-lt bi (2 ^ 60))
      (begun-moved (may_begin side log) (not (is_connected (all_events_of log))) (not (is_some (loss_of (all_events_of log)))) (not (nat_lt (2 ^ 60) uni)) (not (nat_lt (2 ^ 60) bi))
      (nat_lt total (2 ^ 62)))
  lawful-agrees (turns.Loss reason) = lost-by side refl
  lawful-agrees turns.PeerUni = coming _ _ (ap (λ (n : ℕ). nat_lt n (2 ^ 60)) (count-is side offset h log x (peer_uni side)))
  lawful-agrees turns.PeerBi = coming _ _ (ap (λ (n : ℕ). nat_lt n (2 ^ 60)) (count-is side offset h log x (peer_bi side)))
  lawful-agrees (turns.Bytes id piece) = rw (receiving id) (coming _ _ refl ∙ grouped id)
  lawful-agrees (turns.End id) = rw (receiving id) (coming _ _ refl ∙ grouped id)
  lawful-agrees (turns.Reset id code) = rw (receiving id) (coming _ _ refl ∙ grouped id)
  lawful-agrees (turns.Stop id code) = rw (sends-is id, awaiting id) (coming _ _ refl ∙ by (is_connected (all_events_of log)) (streams.can_send side log id))
    where
      by : (a b : Bool) → ((a && (b && (not (is_some (stop_of (all_events_of log) id)) && not (is_acknowledged (all_events_of log) id)))) && not (is_some (loss_of (all_events_of log))))
          ≡ ((a && b && not (is_some (stop_of (all_events_of log) id)) && not (is_acknowledged (all_events_of log) id)) && not (is_some (loss_of (all_events_of log))))
      by true true = refl
      by true false = refl
      by false b = refl
  lawful-agrees (turns.Acked id) =
      rw (x.out.finished id, x.halves.reset id, awaiting id) (coming _ _ refl ∙ by (is_connected (all_events_of log)) (is_finished (actions_of log) id) (not (sends.is_reset log id)))
    where
      by : (a b r : Bool) → ((a && ((b && r) && (not (is_some (stop_of (all_events_of log) id)) && not (is_acknowledged (all_events_of log) id)))) && not (is_some (loss_of (all_events_of log))))
          ≡ ((a && b && r && not (is_some (stop_of (all_events_of log) id)) && not (is_acknowledged (all_events_of log) id)) && not (is_some (loss_of (all_events_of log))))
      by true true true = refl
      by true true false = refl
      by true false r = refl
      by false b r = refl
  lawful-agrees (turns.Datagram piece) = coming true true refl ∙ ap (λ (b : Bool). b && not (is_some (loss_of (all_events_of log)))) (and-true (is_connected (all_events_of log)))
  lawful-agrees (turns.DatagramLimit fact) = coming true true refl ∙ ap (λ (b : Bool). b && not (is_some (loss_of (all_events_of log)))) (and-true (is_connected (all_events_of log)))
  lawful-agrees (turns.MaxUni total) =
      rw (le-lt (unis_allowed (all_events h)) total, le-lt total (2 ^ 60), x.came.all_events)
      (most (is_connected (all_events_of log)) (not (nat_lt total (unis_allowed (all_events_of log)))) (not (nat_lt (2 ^ 60) total)))
  lawful-agrees (turns.MaxBi total) =
      rw (le-lt (bis_allowed (all_events h)) total, le-lt total (2 ^ 60), x.came.all_events)
      (most (is_connected (all_events_of log)) (not (nat_lt total (bis_allowed (all_events_of log)))) (not (nat_lt (2 ^ 60) total)))
  lawful-agrees (turns.MaxData id total) =
      rw (sends-is id, le-lt (credit (all_events h) id) total, x.came.all_events)
      (most (is_connected (all_events_of log)) (streams.can_send side log id) (not (nat_lt total (credit (all_events_of log) id))) (nat_lt total (2 ^ 62)))
    where
      most : (a b c d : Bool) → (a && not (is_some (loss_of (all_events_of log))) && (b && c && d)) ≡ ((a && b && c && d) && not (is_some (loss_of (all_events_of log))))
      most true true c d = last-moved true (not (is_some (loss_of (all_events_of log)))) (c && d)
      most true false c d = last-moved true (not (is_some (loss_of (all_events_of log)))) false
      most false b c d = refl
