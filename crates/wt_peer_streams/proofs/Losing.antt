-- What is unread after each step on a transport that puts no bytes there: of each stream no more than before, and what it lost is lost of all.
use Rattle.std.proofs.Common.{◌+◌, ◌-◌, ◌/◌, ◌%◌, ◌∙◌, ◌≡◌, ◌≤◌, ◌∷◌, Bool, List, [], ap, arith, drop, false, get_or, length, refl, set, subst, suc, sym, true, zero, ℕ}
use Rattle.std.proofs.lemmas.Bool.{eqb-true, ltb-false}
use Rattle.std.proofs.lemmas.List.Sums.{sum_by-set}
use Rattle.std.specs.Prelude.{◌==◌, if◌then◌else◌, nat_lt}
use Rattle.wt_kept.specs.Arriving.{peer_kind}
use Rattle.wt_kept.specs.Classifying.{RequestAdmitted, admitted_by, admitted_request, classify_now, refuse_request, refuse_stream, retire_if, unless_room, with_dispatched}
use Rattle.wt_kept.specs.Counting.{unread_pieces}
use Rattle.wt_kept.specs.Ending.{Remains, end_stream, end_streams, finish_and_retire, finish_running, give_up_all, give_up_now, remains_of, reset_and_retire, retire_now}
use Rattle.wt_kept.specs.Kept.{Refused, SessionEndNow, WorkNow}
use Rattle.wt_kept.specs.Readers.{ReaderRules, consumed, read_on, reads_on_if}
use Rattle.wt_kept.specs.Windows.{Admitted, AdmissionNow, Full, Gone, admit_stream_now, live_in}
use Rattle.wt_transport.specs.Pieces.{skip}
use Rattle.wt_transport.specs.Running.{reset_running_now, still_receives_now, still_sends_now, stop_running_now}
use Rattle.wt_transport.specs.State.{TransportState}
use Rattle.wt_transport.specs.Step.{after_finish, after_give_up, after_reset, after_stop, can_receive_now, count_now, if_so, may_send_now, with_action, with_change}
use Rattle.wt_transport.specs.StreamState.{Stream, changed_in, consume, fresh, give_up, has_stream, piece_count, pieces_in, row_at, stream_at, stream_in, with_changed, with_finish, with_reset}
use Rattle.wt_peer_streams.proofs.Stays.{change-counts}
use Rattle.wt_peer_streams.proofs.Streams.{has-changed, here-changed, index-below, kind-below, other-changed}
use Rattle.wt_proto.specs.declared.verdict.Verdict.{Verdict}
use Rattle.wt_turn.specs.declared.action.Action.{Action}
use Rattle.wt_wire.specs.Codes.{code_of}
use Rattle.wt_wire.specs.declared.error.ErrorCode.{ErrorCode}
use Rattle.wt_proto.specs.declared.verdict.Verdict.TheVariants as verdicts
use Rattle.wt_turn.specs.declared.action.Action.TheVariants as actions
use Rattle.wt_wire.specs.declared.error.ErrorCode.TheVariants as h3

-- a transport that lost some of what was unread, and none of the peer's streams
pub record Loses (t u : TransportState) : Type 0 where
  pub fewer : (k : ℕ) → unread_pieces u k ≤ unread_pieces t k
  pub lost : (k : ℕ) → piece_count u.streams + unread_pieces t k ≤ piece_count t.streams + unread_pieces u k
  pub side : u.side ≡ t.side
  pub counts : (bidirectional : Bool) → count_now u (peer_kind t.side bidirectional) ≡ count_now t (peer_kind t.side bidirectional)

pub loses-none : (t : TransportState) → Loses t t
loses-none t = record { fewer = λ k. omega arith; lost = λ k. omega arith; side = refl; counts = λ b. refl }

pub loses-both : (t u v : TransportState) → Loses t u → Loses u v → Loses t v
loses-both t u v a b = record {
  fewer = λ k. let x = a.fewer k in let y = b.fewer k in omega (arith, x, y);
  lost = λ k. let x = a.lost k in let y = b.lost k in omega (arith, x, y);
  side = b.side ∙ a.side;
  counts = λ c. subst (λ side. count_now v (peer_kind side c) ≡ count_now u (peer_kind side c)) a.side (b.counts c) ∙ a.counts c;
}

-- ---- one stream is changed

pub set-beyond : {X : Type 0} (xs : List X) (i : ℕ) (y : X) → length xs ≤ i → set xs i y ≡ xs
set-beyond [] i y le = refl
set-beyond (x ∷ xs) zero y le = absurd (omega (arith, le))
set-beyond (x ∷ xs) (suc i) y le = ap (λ zs. x ∷ zs) (set-beyond xs i y (omega (arith, le)))

set-own : {X : Type 0} (xs : List X) (i : ℕ) (d : X) → set xs i (get_or xs i d) ≡ xs
set-own [] i d = refl
set-own (x ∷ xs) zero d = refl
set-own (x ∷ xs) (suc i) d = ap (λ zs. x ∷ zs) (set-own xs i d)

-- a stream that isn't there isn't changed
pub not-changed : (streams : List (List Stream)) (id : ℕ) (f : Stream → Stream) → has_stream streams id ≡ false → with_changed streams id f ≡ streams
not-changed streams id f none =
    ap (λ (row : List Stream). set streams (id % 4) row) (set-beyond (row_at streams (id % 4)) (id / 4) (f (stream_in (row_at streams (id % 4)) (id / 4))) (ltb-false (id / 4) (length (row_at streams (id % 4))) none))
    ∙ set-own streams (id % 4) []

module _ (t : TransportState) (id : ℕ) (f : Stream → Stream) where
  -- what the stream lost is lost of all
  pub changed-count : has_stream t.streams id ≡ true → piece_count (with_changed t.streams id f) + length (stream_at t.streams id).unread ≡ piece_count t.streams + length (f (stream_at t.streams id)).unread
  changed-count has =
      let row : List Stream = row_at t.streams (id % 4) in
      let a = sum_by-set (λ (s : Stream). length s.unread) row (id / 4) (f (stream_at t.streams id)) (fresh 0) (index-below t.streams id f has) in
      let b = sum_by-set pieces_in t.streams (id % 4) (changed_in row (id / 4) f) [] (kind-below t.streams id f has) in
      omega (arith, a, b)

  module _ (less : (s : Stream) → length (f s).unread ≤ length s.unread) where
    here : (k : ℕ) → (id ≡ k) → has_stream t.streams id ≡ true
        → (unread_pieces (with_change t id f) k ≡ length (f (stream_at t.streams id)).unread) × (unread_pieces t k ≡ length (stream_at t.streams id).unread)
    here k same has =
        subst (λ (j : ℕ). (unread_pieces (with_change t id f) j ≡ length (f (stream_at t.streams id)).unread) × (unread_pieces t j ≡ length (stream_at t.streams id).unread)) same
        (let there = has-changed t.streams id f has id ∙ has in (
          (λ i. length (if there i then (stream_at (with_changed t.streams id f) id).unread else [])) ∙ ap (λ (s : Stream). length s.unread) (here-changed t.streams id f has),
          (λ i. length (if has i then (stream_at t.streams id).unread else [])),
        ))

    pub other : (k : ℕ) → (id == k) ≡ false → has_stream t.streams id ≡ true → unread_pieces (with_change t id f) k ≡ unread_pieces t k
    other k apart has = λ i. length (if has-changed t.streams id f has k i then (other-changed t.streams id f has k apart i).unread else [])

    changed-loses : has_stream t.streams id ≡ true → Loses t (with_change t id f)
    changed-loses has = record {
      fewer = λ k. fewer k (id == k) refl;
      lost = λ k. lost k (id == k) refl;
      side = refl;
      counts = λ b. change-counts (peer_kind t.side b) t id f;
    }
      where
        fewer : (k : ℕ) (b : Bool) → (id == k) ≡ b → unread_pieces (with_change t id f) k ≤ unread_pieces t k
        fewer k true e = let x = here k (eqb-true id k e) has in let y = less (stream_at t.streams id) in let x0 = x.0 in let x1 = x.1 in omega (arith, x0, x1, y)
        fewer k false e = let x = other k e has in omega (arith, x)

        lost : (k : ℕ) (b : Bool) → (id == k) ≡ b → piece_count (with_changed t.streams id f) + unread_pieces t k ≤ piece_count t.streams + unread_pieces (with_change t id f) k
        lost k true e = let x = here k (eqb-true id k e) has in let y = changed-count has in let x0 = x.0 in let x1 = x.1 in omega (arith, x0, x1, y)
        lost k false e = let x = other k e has in let y = changed-count has in let z = less (stream_at t.streams id) in omega (arith, x, y, z)

    pub change-loses : Loses t (with_change t id f)
    change-loses = by (has_stream t.streams id) refl
      where
        by : (b : Bool) → has_stream t.streams id ≡ b → Loses t (with_change t id f)
        by true has = changed-loses has
        by false none = subst (λ (streams : List (List Stream)). Loses t (record t { streams = streams })) (sym (not-changed t.streams id f none)) (loses-none t)

action-loses : (t : TransportState) (a : Action) → Loses t (with_action t a)
action-loses t a = record { fewer = λ k. omega arith; lost = λ k. omega arith; side = refl; counts = λ b. refl }

-- where a test holds
pub choice-loses : (b : Bool) (t u : TransportState) → Loses t u → Loses t (if b then u else t)
choice-loses true t u x = x
choice-loses false t u x = loses-none t

so-loses : (b : Bool) (t u v : TransportState) → Loses t u → Loses t v → Loses t (if_so b u v)
so-loses true t u v x y = x
so-loses false t u v x y = y

-- ---- what is sent

stop-loses : (t : TransportState) (id code : ℕ) → Loses t (after_stop t id code)
stop-loses t id code = so-loses t.is_open t (with_action t (actions.StopOut id code)) t (action-loses t (actions.StopOut id code)) (loses-none t)

reset-loses : (t : TransportState) (id code : ℕ) → Loses t (after_reset t id code)
reset-loses t id code =
    let x = change-loses t id with_reset (λ s. omega arith) in
    so-loses t.is_open t (with_action (with_change t id with_reset) (actions.ResetOut id code)) (with_change t id with_reset)
    (loses-both t (with_change t id with_reset) (with_action (with_change t id with_reset) (actions.ResetOut id code)) x (action-loses (with_change t id with_reset) (actions.ResetOut id code))) x

pub reset-running-loses : (t : TransportState) (id code : ℕ) → Loses t (reset_running_now t id code)
reset-running-loses t id code = choice-loses (still_sends_now t id) t (after_reset t id code) (reset-loses t id code)

pub finish-running-loses : (t : TransportState) (id : ℕ) → Loses t (finish_running t id)
finish-running-loses t id =
    choice-loses (may_send_now t id) t (after_finish t id)
    (loses-both t (with_change t id with_finish) (after_finish t id) (change-loses t id with_finish (λ s. omega arith)) (action-loses (with_change t id with_finish) (actions.Finish id)))

end-loses : (t : TransportState) (id : ℕ) → Loses t (end_stream t id)
end-loses t id =
    let u = stop_running_now t id (code_of h3.SessionGone) in
    loses-both t u (end_stream t id) (choice-loses (still_receives_now t id) t (after_stop t id (code_of h3.SessionGone)) (stop-loses t id (code_of h3.SessionGone))) (reset-running-loses u id (code_of h3.SessionGone))

ends-lose : (ks : List ℕ) (t : TransportState) → Loses t (end_streams t ks)
ends-lose [] t = loses-none t
ends-lose (k ∷ ks) t = loses-both t (end_stream t k) (end_streams (end_stream t k) ks) (end-loses t k) (ends-lose ks (end_stream t k))

-- ---- what is given up or read

pub give-up-loses : (t : TransportState) (id : ℕ) → Loses t (give_up_now t id)
give-up-loses t id = choice-loses (can_receive_now t id) t (after_give_up t id) (change-loses t id give_up (λ s. omega arith))

give-ups-lose : (ks : List ℕ) (t : TransportState) → Loses t (give_up_all t ks)
give-ups-lose [] t = loses-none t
give-ups-lose (k ∷ ks) t = loses-both t (give_up_now t k) (give_up_all (give_up_now t k) ks) (give-up-loses t k) (give-ups-lose ks (give_up_now t k))

-- no piece comes where bytes in front are left out
pub skip-fewer : (count : ℕ) (pieces : List (List ℕ)) → length (skip count pieces) ≤ length pieces
skip-fewer count [] = omega arith
skip-fewer count (p ∷ later) = by (nat_lt count (length p)) (skip-fewer (count - length p) later)
  where
    by : (b : Bool) → length (skip (count - length p) later) ≤ length later → length (if b then drop count p ∷ later else skip (count - length p) later) ≤ suc (length later)
    by true again = omega arith
    by false again = omega (arith, again)

pub consumed-loses : (t : TransportState) (id n : ℕ) → Loses t (consumed t id n)
consumed-loses t id zero = loses-none t
consumed-loses t id (suc n) = choice-loses (has_stream t.streams id) t (with_change t id (consume (suc n))) (change-loses t id (consume (suc n)) (λ s. skip-fewer (suc n) s.unread))

pub read-loses : {V O : Type 0} (w : ReaderRules V O) (id : ℕ) (r : V) (t : TransportState) → Loses t (read_on w id r t).transport
read-loses {V} w id r t = by (w.has_said r)
  where
    by : (b : Bool) → Loses t (reads_on_if w.has_said w.fed w.ended b id r t).transport
    by true = loses-none t
    by false = consumed-loses t id _

-- ---- sessions that become gone

-- before the session's own stream is given up
abbrev pub before_own : ℕ → WorkNow → TransportState
before_own s w =
    give_up_all (end_streams w.transport (remains_of w.dispatched.sessions s (live_in w.dispatched.sessions s)).streams) (remains_of w.dispatched.sessions s (live_in w.dispatched.sessions s)).waiting

pub before-own-loses : (s : ℕ) (w : WorkNow) → Loses w.transport (before_own s w)
before-own-loses s w =
    let left : Remains = remains_of w.dispatched.sessions s (live_in w.dispatched.sessions s) in
    loses-both w.transport (end_streams w.transport left.streams) (before_own s w) (ends-lose left.streams w.transport) (give-ups-lose left.waiting (end_streams w.transport left.streams))

pub retire-loses : (s : ℕ) (end : SessionEndNow) (w : WorkNow) → Loses w.transport (retire_now s end w).transport
retire-loses s end w = loses-both w.transport (before_own s w) (give_up_now (before_own s w) s) (before-own-loses s w) (give-up-loses (before_own s w) s)

pub finish-retire-loses : (s : ℕ) (end : SessionEndNow) (w : WorkNow) → Loses w.transport (finish_and_retire s end w).transport
finish-retire-loses s end w =
    loses-both w.transport (finish_running w.transport s) (finish_and_retire s end w).transport (finish-running-loses w.transport s) (retire-loses s end (record w { transport = finish_running w.transport s }))

pub reset-retire-loses : (s : ℕ) (end : SessionEndNow) (w : WorkNow) → Loses w.transport (reset_and_retire s end w).transport
reset-retire-loses s end w =
    let u = reset_running_now w.transport s (code_of h3.NoError) in
    loses-both w.transport u (reset_and_retire s end w).transport (reset-running-loses w.transport s (code_of h3.NoError)) (retire-loses s end (record w { transport = u }))

-- ---- verdicts

refuse-loses : (k : ℕ) (code : ErrorCode) (w : WorkNow) → Loses w.transport (refuse_stream k code w).transport
refuse-loses k code w =
    let u = after_stop w.transport k (code_of code) in
    choice-loses (can_receive_now w.transport k) w.transport (after_give_up u k) (loses-both w.transport u (after_give_up u k) (stop-loses w.transport k (code_of code)) (change-loses u k give_up (λ s. omega arith)))

request-loses : (k : ℕ) (code : ErrorCode) (w : WorkNow) → Loses w.transport (refuse_request k code w).transport
request-loses k code w = by (k % 4 == 0)
  where
    by : (b : Bool) → Loses w.transport (retire_if b k (refuse_stream k code w)).transport
    by true = loses-both w.transport (refuse_stream k code w).transport (retire_now k Refused (refuse_stream k code w)).transport (refuse-loses k code w) (retire-loses k Refused (refuse_stream k code w))
    by false = refuse-loses k code w

admitted-loses : (a : AdmissionNow) (k : ℕ) (w : WorkNow) → Loses w.transport (admitted_by a k w).transport
admitted-loses Admitted k w = loses-none w.transport
admitted-loses Full k w = refuse-loses k h3.BufferedStreamRejected w
admitted-loses Gone k w = refuse-loses k h3.SessionGone w

pub classify-loses : (k : ℕ) (v : Verdict) (w : WorkNow) → Loses w.transport (classify_now k v w).transport
unfolding classify_now
classify-loses k verdicts.Incomplete w = loses-none w.transport
classify-loses k (verdicts.Control offset) w = loses-none w.transport
classify-loses k (verdicts.Encoder offset) w = give-up-loses w.transport k
classify-loses k (verdicts.Decoder offset) w = give-up-loses w.transport k
classify-loses k (verdicts.WebTransport session offset) w = admitted-loses (admit_stream_now k session w.dispatched.sessions).admission k _
classify-loses k (verdicts.Request fields offset) w = by (admitted_request k fields w.dispatched.requests)
  where
    by-room : (b : Bool) (u : WorkNow) → Loses u.transport (unless_room b k u).transport
    by-room true u = loses-none u.transport
    by-room false u = request-loses k h3.RequestRejected u

    by : (a : RequestAdmitted) → Loses w.transport (unless_room a.has_room k (with_dispatched (λ d. record d { requests = a.requests }) w)).transport
    by a = by-room a.has_room (with_dispatched (λ d. record d { requests = a.requests }) w)
classify-loses k (verdicts.Refused code) w = request-loses k code w
classify-loses k verdicts.Dropped w = give-up-loses w.transport k
classify-loses k (verdicts.Fault code) w = loses-none w.transport
