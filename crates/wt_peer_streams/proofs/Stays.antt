-- What neither a change of streams nor an action changes, as how many streams there are, stays where a stream is classified.
use Rattle.std.proofs.Common.{◌%◌, ◌/◌, ◌==◌, ◌∙◌, ◌≡◌, ◌∷◌, Bool, List, [], false, get_or, length, refl, set, suc, true, zero, ℕ}
use Rattle.std.proofs.lemmas.List.{length-set}
use Rattle.std.specs.Prelude.{if◌then◌else◌}
use Rattle.wt_kept.specs.Classifying.{RequestAdmitted, admitted_by, admitted_request, classify_now, refuse_request, refuse_stream, retire_if, unless_room, with_dispatched}
use Rattle.wt_kept.specs.Ending.{Remains, end_stream, end_streams, give_up_all, give_up_now, remains_of, retire_now}
use Rattle.wt_kept.specs.Kept.{Refused, SessionEndNow, WorkNow}
use Rattle.wt_kept.specs.Readers.{consumed}
use Rattle.wt_kept.specs.Windows.{Admitted, AdmissionNow, Full, Gone, admit_stream_now, live_in}
use Rattle.wt_transport.specs.Running.{still_receives_now, still_sends_now, stop_running_now}
use Rattle.wt_transport.specs.State.{TransportState}
use Rattle.wt_transport.specs.Step.{after_give_up, after_reset, after_stop, can_receive_now, count_now, if_so, with_action, with_change}
use Rattle.wt_transport.specs.StreamState.{Stream, changed_in, consume, give_up, has_stream, row_at, stream_in, with_reset}
use Rattle.wt_proto.specs.declared.verdict.Verdict.{Verdict}
use Rattle.wt_turn.specs.declared.action.Action.{Action}
use Rattle.wt_wire.specs.Codes.{code_of}
use Rattle.wt_wire.specs.declared.error.ErrorCode.{ErrorCode}
use Rattle.wt_proto.specs.declared.verdict.Verdict.TheVariants as verdicts
use Rattle.wt_turn.specs.declared.action.Action.TheVariants as actions
use Rattle.wt_wire.specs.declared.error.ErrorCode.TheVariants as h3

module _ {X : Type 0} (m : TransportState → X) (change : (t : TransportState) (id : ℕ) (f : Stream → Stream) → m (with_change t id f) ≡ m t) (action : (t : TransportState) (a : Action) → m (with_action t a) ≡ m t) where
  by-choice : (b : Bool) (t u v : TransportState) → m u ≡ m t → m v ≡ m t → m (if b then u else v) ≡ m t
  by-choice true t u v e f = e
  by-choice false t u v e f = f

  by-so : (b : Bool) (t u v : TransportState) → m u ≡ m t → m v ≡ m t → m (if_so b u v) ≡ m t
  by-so true t u v e f = e
  by-so false t u v e f = f

  pub consumed-stays : (t : TransportState) (id n : ℕ) → m (consumed t id n) ≡ m t
  consumed-stays t id zero = refl
  consumed-stays t id (suc n) = by-choice (has_stream t.streams id) t (with_change t id (consume (suc n))) t (change t id (consume (suc n))) refl

  stop-stays : (t : TransportState) (id code : ℕ) → m (after_stop t id code) ≡ m t
  stop-stays t id code = by-so t.is_open t (with_action t (actions.StopOut id code)) t (action t (actions.StopOut id code)) refl

  reset-stays : (t : TransportState) (id code : ℕ) → m (after_reset t id code) ≡ m t
  reset-stays t id code =
      by-so t.is_open t (with_action (with_change t id with_reset) (actions.ResetOut id code)) (with_change t id with_reset)
      (action (with_change t id with_reset) (actions.ResetOut id code) ∙ change t id with_reset) (change t id with_reset)

  give-up-stays : (t : TransportState) (id : ℕ) → m (give_up_now t id) ≡ m t
  give-up-stays t id = by-choice (can_receive_now t id) t (after_give_up t id) t (change t id give_up) refl

  end-stays : (t : TransportState) (id : ℕ) → m (end_stream t id) ≡ m t
  end-stays t id =
      by-choice (still_sends_now (stop_running_now t id (code_of h3.SessionGone)) id) (stop_running_now t id (code_of h3.SessionGone)) (after_reset (stop_running_now t id (code_of h3.SessionGone)) id (code_of h3.SessionGone))
      (stop_running_now t id (code_of h3.SessionGone)) (reset-stays (stop_running_now t id (code_of h3.SessionGone)) id (code_of h3.SessionGone)) refl
      ∙ by-choice (still_receives_now t id) t (after_stop t id (code_of h3.SessionGone)) t (stop-stays t id (code_of h3.SessionGone)) refl

  ends-stay : (ks : List ℕ) (t : TransportState) → m (end_streams t ks) ≡ m t
  ends-stay [] t = refl
  ends-stay (k ∷ ks) t = ends-stay ks (end_stream t k) ∙ end-stays t k

  give-ups-stay : (ks : List ℕ) (t : TransportState) → m (give_up_all t ks) ≡ m t
  give-ups-stay [] t = refl
  give-ups-stay (k ∷ ks) t = give-ups-stay ks (give_up_now t k) ∙ give-up-stays t k

  retire-stays : (k : ℕ) (end : SessionEndNow) (w : WorkNow) → m (retire_now k end w).transport ≡ m w.transport
  retire-stays k end w =
      let left : Remains = remains_of w.dispatched.sessions k (live_in w.dispatched.sessions k) in
      give-up-stays (give_up_all (end_streams w.transport left.streams) left.waiting) k ∙ (give-ups-stay left.waiting (end_streams w.transport left.streams) ∙ ends-stay left.streams w.transport)

  refuse-stays : (k : ℕ) (code : ErrorCode) (w : WorkNow) → m (refuse_stream k code w).transport ≡ m w.transport
  refuse-stays k code w =
      by-choice (can_receive_now w.transport k) w.transport (after_give_up (after_stop w.transport k (code_of code)) k) w.transport
      (change (after_stop w.transport k (code_of code)) k give_up ∙ stop-stays w.transport k (code_of code)) refl

  request-stays : (k : ℕ) (code : ErrorCode) (w : WorkNow) → m (refuse_request k code w).transport ≡ m w.transport
  request-stays k code w = by (k % 4 == 0)
    where
      by : (b : Bool) → m (retire_if b k (refuse_stream k code w)).transport ≡ m w.transport
      by true = retire-stays k Refused (refuse_stream k code w) ∙ refuse-stays k code w
      by false = refuse-stays k code w

  admitted-stays : (a : AdmissionNow) (k : ℕ) (w : WorkNow) → m (admitted_by a k w).transport ≡ m w.transport
  admitted-stays Admitted k w = refl
  admitted-stays Full k w = refuse-stays k h3.BufferedStreamRejected w
  admitted-stays Gone k w = refuse-stays k h3.SessionGone w

  pub classify-stays : (k : ℕ) (v : Verdict) (w : WorkNow) → m (classify_now k v w).transport ≡ m w.transport
  unfolding classify_now
  classify-stays k verdicts.Incomplete w = refl
  classify-stays k (verdicts.Control offset) w = refl
  classify-stays k (verdicts.Encoder offset) w = give-up-stays w.transport k
  classify-stays k (verdicts.Decoder offset) w = give-up-stays w.transport k
  classify-stays k (verdicts.WebTransport session offset) w = admitted-stays (admit_stream_now k session w.dispatched.sessions).admission k _
  classify-stays k (verdicts.Request fields offset) w = by (admitted_request k fields w.dispatched.requests)
    where
      by-room : (b : Bool) (u : WorkNow) → m (unless_room b k u).transport ≡ m u.transport
      by-room true u = refl
      by-room false u = request-stays k h3.RequestRejected u

      by : (a : RequestAdmitted) → m (unless_room a.has_room k (with_dispatched (λ d. record d { requests = a.requests }) w)).transport ≡ m w.transport
      by a = by-room a.has_room (with_dispatched (λ d. record d { requests = a.requests }) w)
  classify-stays k (verdicts.Refused code) w = request-stays k code w
  classify-stays k verdicts.Dropped w = give-up-stays w.transport k
  classify-stays k (verdicts.Fault code) w = refl

-- ---- how many streams there are, and the side

row-lengths : (rows : List (List Stream)) (i : ℕ) (row : List Stream) (kind : ℕ) → length row ≡ length (get_or rows i []) → length (get_or (set rows i row) kind []) ≡ length (get_or rows kind [])
row-lengths [] i row kind e = refl
row-lengths (x ∷ xs) zero row zero e = e
row-lengths (x ∷ xs) zero row (suc kind) e = refl
row-lengths (x ∷ xs) (suc i) row zero e = refl
row-lengths (x ∷ xs) (suc i) row (suc kind) e = row-lengths xs i row kind e

pub change-counts : (kind : ℕ) (t : TransportState) (id : ℕ) (f : Stream → Stream) → count_now (with_change t id f) kind ≡ count_now t kind
change-counts kind t id f =
    row-lengths t.streams (id % 4) (changed_in (row_at t.streams (id % 4)) (id / 4) f) kind
    (length-set (row_at t.streams (id % 4)) (id / 4) (f (stream_in (row_at t.streams (id % 4)) (id / 4))))

-- a stream was read on and classified: there are as many streams of each kind as before, and the side is the same
pub counts-stay : (kind k id n : ℕ) (v : Verdict) (t : TransportState) (w : WorkNow) → count_now (classify_now k v (record w { transport = consumed t id n })).transport kind ≡ count_now t kind
counts-stay kind k id n v t w =
    classify-stays (λ u. count_now u kind) (change-counts kind) (λ u a. refl) k v (record w { transport = consumed t id n }) ∙ consumed-stays (λ u. count_now u kind) (change-counts kind) (λ u a. refl) t id n

pub counts-read : (kind id n : ℕ) (t : TransportState) → count_now (consumed t id n) kind ≡ count_now t kind
counts-read kind id n t = consumed-stays (λ u. count_now u kind) (change-counts kind) (λ u a. refl) t id n

pub side-stays : (k id n : ℕ) (v : Verdict) (t : TransportState) (w : WorkNow) → (classify_now k v (record w { transport = consumed t id n })).transport.side ≡ t.side
side-stays k id n v t w = classify-stays (λ u. u.side) (λ u j f. refl) (λ u a. refl) k v (record w { transport = consumed t id n }) ∙ consumed-stays (λ u. u.side) (λ u j f. refl) (λ u a. refl) t id n

pub side-read : (id n : ℕ) (t : TransportState) → (consumed t id n).side ≡ t.side
side-read id n t = consumed-stays (λ u. u.side) (λ u j f. refl) (λ u a. refl) t id n
