-- Of how many pieces a byte is unread, after each step on a transport: none adds one but bytes that come.
use Rattle.std.proofs.Common.{◌+◌, ◌-◌, ◌/◌, ◌%◌, ◌≡◌, ◌≤◌, ◌++◌, ◌∷◌, Bool, List, [], ap, arith, drop, false, get_or, length, refl, set, subst, suc, sym, true, zero, ℕ, ℤ}
use Rattle.std.proofs.lemmas.Bool.{ltb-false, ltb-true}
use Rattle.std.proofs.lemmas.List.{length-append}
use Rattle.std.proofs.lemmas.List.Sums.{sum_by-set, sum_by_push}
use Rattle.std.specs.List.{sum_by}
use Rattle.std.specs.Prelude.{if◌then◌else◌, nat_lt}
use Rattle.wt_driver_laws.specs.Driving.{pieces_in as pieces_in_turn}
use Rattle.wt_transport.specs.Pieces.{skip, with_piece}
use Rattle.wt_transport.specs.Rules.{after_finishing, after_priority_unless_closed, after_reset_unless_closed, after_write, sending_half_now}
use Rattle.wt_transport.specs.HalfRules.{is_closed}
use Rattle.wt_transport.specs.Running.{reset_running_now, still_receives_now, still_sends_now, stop_running_now}
use Rattle.wt_transport.specs.State.{TransportState}
use Rattle.wt_transport.specs.Step.{after_bytes, after_close, after_consume, after_event, after_finish, after_give_up, after_opening, after_priority, after_reset, after_send, after_stop, after_turn, covered_now, if_so, may_open_now, may_send_now, next_id_now, with_action, with_change, with_new_stream, with_send}
use Rattle.wt_transport.specs.StreamState.{Signals, Stream, changed_in, consume, fresh, give_up, has_stream, piece_count, pieces_in, receive_unless, row_at, signal, stream_in, with_ack, with_bytes, with_credit, with_end, with_finish, with_priority, with_reset, with_sent, with_stop}
use Rattle.wt_turn.specs.Streams.{peer_bi, peer_uni}
use Rattle.wt_turn.specs.Log.{Acked, Connected, Datagram, DatagramLimit, End, Event, Loss, MaxBi, MaxData, MaxUni, PeerBi, PeerUni, Reset, Stop}
use Rattle.wt_turn.specs.declared.action.Action.TheVariants as actions
use Rattle.wt_turn.specs.declared.turn.Turn.{Turn}
use Rattle.wt_turn.specs.declared.turn.Turn.TheVariants as turns
use Rattle.wt_wire.specs.declared.side.StreamEnd.TheVariants as ends

-- ---- sums

-- an element that isn't there isn't set
set-beyond : {X : Type 0} (xs : List X) (i : ℕ) (y : X) → length xs ≤ i → set xs i y ≡ xs
set-beyond [] i y le = refl
set-beyond (x ∷ xs) zero y le = absurd (omega (arith, le))
set-beyond (x ∷ xs) (suc i) y le = ap (λ zs. x ∷ zs) (set-beyond xs i y (omega (arith, le)))

-- one element is set that counts for at most k more
set-adds : {X : Type 0} (f : X → ℕ) (xs : List X) (i : ℕ) (y d : X) (k : ℕ) → f y ≤ f (get_or xs i d) + k → sum_by f (set xs i y) ≤ sum_by f xs + k
set-adds {X} f xs i y d k le = by (nat_lt i (length xs)) refl
  where
    by : (b : Bool) → nat_lt i (length xs) ≡ b → sum_by f (set xs i y) ≤ sum_by f xs + k
    by true e = let s = sum_by-set f xs i y d (ltb-true i (length xs) e) in omega (arith, le, s)
    by false e = subst (λ (ys : List X). sum_by f ys ≤ sum_by f xs + k) (sym (set-beyond xs i y (ltb-false i (length xs) e))) (omega arith)

-- ---- one stream

-- bytes in front are left out
skip-fewer : (count : ℕ) (pieces : List (List ℕ)) → length (skip count pieces) ≤ length pieces
skip-fewer count [] = omega arith
skip-fewer count (p ∷ later) = by (nat_lt count (length p)) (skip-fewer (count - length p) later)
  where
    by : (b : Bool) → length (skip (count - length p) later) ≤ length later → length (if b then drop count p ∷ later else skip (count - length p) later) ≤ suc (length later)
    by true again = omega arith
    by false again = omega (arith, again)

piece-adds : (pieces : List (List ℕ)) (p : List ℕ) → length (with_piece pieces p) ≤ length pieces + 1
piece-adds pieces [] = omega arith
piece-adds pieces (byte ∷ later) = let e = length-append pieces ((byte ∷ later) ∷ []) in omega (arith, e)

bytes-add : (b : Bool) (bytes : List ℕ) (s : Stream) → length (receive_unless b bytes s).unread ≤ length s.unread + 1
bytes-add true bytes s = omega arith
bytes-add false bytes s = piece-adds s.unread bytes

-- ---- a transport

-- of how many pieces of its streams a byte is unread
abbrev pub pieces_at : TransportState → ℕ
pieces_at t = piece_count t.streams

-- one stream is changed, which has at most k pieces more then
pub change-adds : (t : TransportState) (id : ℕ) (f : Stream → Stream) (k : ℕ) → ((s : Stream) → length (f s).unread ≤ length s.unread + k) → pieces_at (with_change t id f) ≤ pieces_at t + k
change-adds t id f k le = set-adds pieces_in t.streams (id % 4) (changed_in (row_at t.streams (id % 4)) (id / 4) f) [] k
    (set-adds (λ (s : Stream). length s.unread) (row_at t.streams (id % 4)) (id / 4) (f (stream_in (row_at t.streams (id % 4)) (id / 4))) (fresh 0) k (le (stream_in (row_at t.streams (id % 4)) (id / 4))))

-- one stream is changed, which has no piece more then
pub change-keeps : (t : TransportState) (id : ℕ) (f : Stream → Stream) → ((s : Stream) → length (f s).unread ≤ length s.unread) → pieces_at (with_change t id f) ≤ pieces_at t
change-keeps t id f le = let x = change-adds t id f 0 (λ s. let y = le s in omega (arith, y)) in omega (arith, x)

-- a stream of which nothing came is opened
pub new-keeps : (t : TransportState) (kind : ℕ) → pieces_at (with_new_stream t kind) ≤ pieces_at t
new-keeps t kind =
    let row = row_at t.streams kind in
    let same = sum_by_push (λ (s : Stream). length s.unread) row (fresh t.initial_credit) in
    let x = set-adds pieces_in t.streams kind (row ++ fresh t.initial_credit ∷ []) [] 0 (omega (arith, same)) in
    omega (arith, x)

-- where the test holds, and else
if-keeps : (b : Bool) (t u v : TransportState) → pieces_at u ≤ pieces_at t → pieces_at v ≤ pieces_at t → pieces_at (if_so b u v) ≤ pieces_at t
if-keeps true t u v x y = x
if-keeps false t u v x y = y

pub either-keeps : (b : Bool) (t u : TransportState) → pieces_at u ≤ pieces_at t → pieces_at (if b then u else t) ≤ pieces_at t
either-keeps true t u x = x
either-keeps false t u x = omega arith

-- one step after another
pub then-keeps : (t u v : TransportState) → pieces_at u ≤ pieces_at t → pieces_at v ≤ pieces_at u → pieces_at v ≤ pieces_at t
then-keeps t u v x y = omega (arith, x, y)

-- ---- what goes out

pub opening-keeps : (t : TransportState) (kind : ℕ) → pieces_at (after_opening t kind) ≤ pieces_at t
opening-keeps t kind = by (may_open_now t kind)
  where
    by : (b : Bool) → pieces_at (if b then with_action (with_new_stream t kind) (actions.Opened (next_id_now t kind)) else t) ≤ pieces_at t
    by true = new-keeps t kind
    by false = omega arith

pub send-keeps : (t : TransportState) (id : ℕ) (bytes : List ℕ) → pieces_at (after_send t id bytes) ≤ pieces_at t
send-keeps t id bytes = by (covered_now t id bytes)
  where
    by : (bs : List ℕ) → pieces_at (with_send t id bs) ≤ pieces_at t
    by [] = omega arith
    by (b ∷ later) = change-keeps t id (with_sent (length (b ∷ later))) (λ s. omega arith)

pub write-keeps : (t : TransportState) (id : ℕ) (bytes : List ℕ) → pieces_at (after_write t id bytes) ≤ pieces_at t
write-keeps t id bytes = either-keeps (may_send_now t id) t (after_send t id bytes) (send-keeps t id bytes)

pub finish-keeps : (t : TransportState) (id : ℕ) → pieces_at (after_finish t id) ≤ pieces_at t
finish-keeps t id = change-keeps t id with_finish (λ s. omega arith)

pub finishing-keeps : (t : TransportState) (id : ℕ) → pieces_at (after_finishing t id) ≤ pieces_at t
finishing-keeps t id = either-keeps (may_send_now t id) t (after_finish t id) (finish-keeps t id)

pub reset-keeps : (t : TransportState) (id code : ℕ) → pieces_at (after_reset t id code) ≤ pieces_at t
reset-keeps t id code = if-keeps t.is_open t (with_action (with_change t id with_reset) (actions.ResetOut id code)) (with_change t id with_reset) (change-keeps t id with_reset (λ s. omega arith)) (change-keeps t id with_reset (λ s. omega arith))

pub resetting-keeps : (t : TransportState) (id code : ℕ) → pieces_at (after_reset_unless_closed t id code) ≤ pieces_at t
resetting-keeps t id code = by (is_closed (sending_half_now t id))
  where
    by : (b : Bool) → pieces_at (if b then t else after_reset t id code) ≤ pieces_at t
    by true = omega arith
    by false = reset-keeps t id code

pub prioritising-keeps : (t : TransportState) (id : ℕ) (priority : ℤ) → pieces_at (after_priority_unless_closed t id priority) ≤ pieces_at t
prioritising-keeps t id priority = by (is_closed (sending_half_now t id))
  where
    by : (b : Bool) → pieces_at (if b then t else after_priority t id priority) ≤ pieces_at t
    by true = omega arith
    by false = change-keeps t id (with_priority priority) (λ s. omega arith)

pub stop-keeps : (t : TransportState) (id code : ℕ) → pieces_at (after_stop t id code) ≤ pieces_at t
stop-keeps t id code = if-keeps t.is_open t (with_action t (actions.StopOut id code)) t (omega arith) (omega arith)

pub close-keeps : (t : TransportState) (code : ℕ) (reason : List ℕ) → pieces_at (after_close t code reason) ≤ pieces_at t
close-keeps t code reason = if-keeps t.is_open t (with_action (record t { is_open = false }) (actions.Close code reason)) t (omega arith) (omega arith)

pub stop-running-keeps : (t : TransportState) (id code : ℕ) → pieces_at (stop_running_now t id code) ≤ pieces_at t
stop-running-keeps t id code = either-keeps (still_receives_now t id) t (after_stop t id code) (stop-keeps t id code)

pub reset-running-keeps : (t : TransportState) (id code : ℕ) → pieces_at (reset_running_now t id code) ≤ pieces_at t
reset-running-keeps t id code = either-keeps (still_sends_now t id) t (after_reset t id code) (reset-keeps t id code)

-- ---- what came

pub consume-keeps : (t : TransportState) (id count : ℕ) → pieces_at (after_consume t id count) ≤ pieces_at t
consume-keeps t id count = either-keeps (has_stream t.streams id) t (with_change t id (consume count)) (change-keeps t id (consume count) (λ s. skip-fewer count s.unread))

pub give-up-keeps : (t : TransportState) (id : ℕ) → pieces_at (after_give_up t id) ≤ pieces_at t
give-up-keeps t id = change-keeps t id give_up (λ s. omega arith)

-- bytes that come add one piece at most
pub bytes-add-one : (t : TransportState) (id : ℕ) (piece : List ℕ) → pieces_at (after_bytes t id piece) ≤ pieces_at t + 1
bytes-add-one t id piece = by t.is_open
  where
    by : (b : Bool) → pieces_at (if_so b (with_change t id (with_bytes piece)) t) ≤ pieces_at t + 1
    by true = change-adds t id (with_bytes piece) 1 (λ s. bytes-add s.given_up piece s)
    by false = omega arith

signal-keeps : (b : Bool) (t : TransportState) (id : ℕ) (f : Signals → Signals) → pieces_at (with_change t id (signal b f)) ≤ pieces_at t
signal-keeps true t id f = change-keeps t id (signal true f) (λ s. omega arith)
signal-keeps false t id f = change-keeps t id (signal false f) (λ s. omega arith)

event-keeps : (t : TransportState) (e : Event) → pieces_at (after_event t e) ≤ pieces_at t
event-keeps t (Connected uni bi credit datagrams) = omega arith
event-keeps t PeerUni = new-keeps t (peer_uni t.side)
event-keeps t PeerBi = new-keeps t (peer_bi t.side)
event-keeps t (End id) = signal-keeps t.is_open t id (with_end ends.Fin)
event-keeps t (Reset id code) = signal-keeps t.is_open t id (with_end (ends.Reset code))
event-keeps t (Stop id code) = signal-keeps t.is_open t id (with_stop code)
event-keeps t (Acked id) = signal-keeps t.is_open t id with_ack
event-keeps t (Datagram piece) = omega arith
event-keeps t (MaxUni total) = omega arith
event-keeps t (MaxBi total) = omega arith
event-keeps t (MaxData id total) = change-keeps t id (with_credit total) (λ s. omega arith)
event-keeps t (DatagramLimit fact) = omega arith
event-keeps t (Loss reason) = omega arith

-- a turn of the transport adds one piece at most, and that where it is one
pub turn-adds : (t : TransportState) (turn : Turn) → pieces_at (after_turn t turn) ≤ pieces_at t + pieces_in_turn turn
turn-adds t (turns.Bytes id piece) = bytes-add-one t id piece
turn-adds t (turns.Call call) = omega arith
turn-adds t (turns.Connected uni bi credit datagrams) = let x = event-keeps t (Connected uni bi credit datagrams) in omega (arith, x)
turn-adds t turns.PeerUni = let x = event-keeps t PeerUni in omega (arith, x)
turn-adds t turns.PeerBi = let x = event-keeps t PeerBi in omega (arith, x)
turn-adds t (turns.End id) = let x = event-keeps t (End id) in omega (arith, x)
turn-adds t (turns.Reset id code) = let x = event-keeps t (Reset id code) in omega (arith, x)
turn-adds t (turns.Stop id code) = let x = event-keeps t (Stop id code) in omega (arith, x)
turn-adds t (turns.Acked id) = let x = event-keeps t (Acked id) in omega (arith, x)
turn-adds t (turns.Datagram piece) = let x = event-keeps t (Datagram piece) in omega (arith, x)
turn-adds t (turns.MaxUni total) = let x = event-keeps t (MaxUni total) in omega (arith, x)
turn-adds t (turns.MaxBi total) = let x = event-keeps t (MaxBi total) in omega (arith, x)
turn-adds t (turns.MaxData id total) = let x = event-keeps t (MaxData id total) in omega (arith, x)
turn-adds t (turns.DatagramLimit fact) = let x = event-keeps t (DatagramLimit fact) in omega (arith, x)
turn-adds t (turns.Loss reason) = let x = event-keeps t (Loss reason) in omega (arith, x)
