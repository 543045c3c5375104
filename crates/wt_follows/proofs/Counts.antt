-- No step of a moment but the opening of this end's control stream changes how many streams there are.
use Rattle.std.proofs.Common.{◌∙◌, ◌≡◌, ◌∷◌, Bool, List, [], false, get_or, length, refl, set, suc, true, zero, ℕ}
use Rattle.std.proofs.lemmas.List.{length-set}
use Rattle.std.specs.Prelude.{◌%◌, ◌/◌, ◌==◌, if◌then◌else◌}
use Rattle.wt_kept.specs.Classifying.{RequestAdmitted, admitted_by, admitted_request, classify_now, refuse_request, refuse_stream, retire_if, unless_room, with_dispatched}
use Rattle.wt_kept.specs.Ending.{Remains, end_stream, end_streams, give_up_all, give_up_now, remains_of, retire_now}
use Rattle.wt_kept.specs.Kept.{Refused, SessionEndNow, WorkNow}
use Rattle.wt_kept.specs.Readers.{consumed}
use Rattle.wt_kept.specs.Windows.{Admitted, AdmissionNow, Full, Gone, admit_stream_now, live_in}
use Rattle.wt_transport.specs.Running.{still_receives_now, still_sends_now, stop_running_now}
use Rattle.wt_transport.specs.State.{TransportState}
use Rattle.wt_transport.specs.Step.{after_give_up, after_reset, after_stop, can_receive_now, count_now, if_so, with_action, with_change}
use Rattle.wt_transport.specs.StreamState.{Stream, changed_in, consume, give_up, has_stream, row_at, stream_in, with_reset}
use Rattle.wt_proto.specs.declared.verdict.Verdict.{Verdict}
use Rattle.wt_proto.specs.declared.verdict.Verdict.TheVariants as verdicts
use Rattle.wt_turn.specs.declared.action.Action.TheVariants as actions
use Rattle.wt_wire.specs.Codes.{code_of}
use Rattle.wt_wire.specs.declared.error.ErrorCode.{ErrorCode}
use Rattle.wt_wire.specs.declared.error.ErrorCode.TheVariants as h3

-- both have as many streams of each kind
abbrev pub SameCounts : TransportState → TransportState → Type 0
SameCounts before after = (kind : ℕ) → count_now after kind ≡ count_now before kind

row-lengths : (rows : List (List Stream)) (i : ℕ) (row : List Stream) (kind : ℕ) → length row ≡ length (get_or rows i []) → length (get_or (set rows i row) kind []) ≡ length (get_or rows kind [])
row-lengths [] i row kind e = refl
row-lengths (x ∷ xs) zero row zero e = e
row-lengths (x ∷ xs) zero row (suc kind) e = refl
row-lengths (x ∷ xs) (suc i) row zero e = refl
row-lengths (x ∷ xs) (suc i) row (suc kind) e = row-lengths xs i row kind e

pub change-counts : (t : TransportState) (id : ℕ) (f : Stream → Stream) → SameCounts t (with_change t id f)
change-counts t id f kind =
    row-lengths t.streams (id % 4) (changed_in (row_at t.streams (id % 4)) (id / 4) f) kind
    (length-set (row_at t.streams (id % 4)) (id / 4) (f (stream_in (row_at t.streams (id % 4)) (id / 4))))

pub by-choice : (b : Bool) (t u v : TransportState) → SameCounts t u → SameCounts t v → SameCounts t (if b then u else v)
by-choice true t u v e f = e
by-choice false t u v e f = f

by-so : (b : Bool) (t u v : TransportState) → SameCounts t u → SameCounts t v → SameCounts t (if_so b u v)
by-so true t u v e f = e
by-so false t u v e f = f

pub consumed-counts : (t : TransportState) (id n : ℕ) → SameCounts t (consumed t id n)
consumed-counts t id zero kind = refl
consumed-counts t id (suc n) kind = by-choice (has_stream t.streams id) t (with_change t id (consume (suc n))) t (change-counts t id (consume (suc n))) (λ j. refl) kind

pub stop-counts : (t : TransportState) (id code : ℕ) → SameCounts t (after_stop t id code)
stop-counts t id code = by-so t.is_open t (with_action t (actions.StopOut id code)) t (λ kind. refl) (λ kind. refl)

pub reset-counts : (t : TransportState) (id code : ℕ) → SameCounts t (after_reset t id code)
reset-counts t id code =
    by-so t.is_open t (with_action (with_change t id with_reset) (actions.ResetOut id code)) (with_change t id with_reset) (change-counts t id with_reset) (change-counts t id with_reset)

pub give-up-counts : (t : TransportState) (id : ℕ) → SameCounts t (give_up_now t id)
give-up-counts t id = by-choice (can_receive_now t id) t (after_give_up t id) t (change-counts t id give_up) (λ kind. refl)

pub end-counts : (t : TransportState) (id : ℕ) → SameCounts t (end_stream t id)
end-counts t id kind =
    by-choice (still_sends_now (stop_running_now t id (code_of h3.SessionGone)) id) (stop_running_now t id (code_of h3.SessionGone)) (after_reset (stop_running_now t id (code_of h3.SessionGone)) id (code_of h3.SessionGone))
    (stop_running_now t id (code_of h3.SessionGone)) (reset-counts (stop_running_now t id (code_of h3.SessionGone)) id (code_of h3.SessionGone)) (λ kind. refl) kind
    ∙ by-choice (still_receives_now t id) t (after_stop t id (code_of h3.SessionGone)) t (stop-counts t id (code_of h3.SessionGone)) (λ kind. refl) kind

ends-counts : (ks : List ℕ) (t : TransportState) → SameCounts t (end_streams t ks)
ends-counts [] t kind = refl
ends-counts (k ∷ ks) t kind = ends-counts ks (end_stream t k) kind ∙ end-counts t k kind

give-ups-counts : (ks : List ℕ) (t : TransportState) → SameCounts t (give_up_all t ks)
give-ups-counts [] t kind = refl
give-ups-counts (k ∷ ks) t kind = give-ups-counts ks (give_up_now t k) kind ∙ give-up-counts t k kind

-- ---- on the work

abbrev pub WorkCounts : WorkNow → WorkNow → Type 0
WorkCounts before after = SameCounts before.transport after.transport

pub retire-counts : (k : ℕ) (end : SessionEndNow) (w : WorkNow) → WorkCounts w (retire_now k end w)
retire-counts k end w kind =
    let left : Remains = remains_of w.dispatched.sessions k (live_in w.dispatched.sessions k) in
    give-up-counts (give_up_all (end_streams w.transport left.streams) left.waiting) k kind ∙ (give-ups-counts left.waiting (end_streams w.transport left.streams) kind ∙ ends-counts left.streams w.transport kind)

refuse-counts : (k : ℕ) (code : ErrorCode) (w : WorkNow) → WorkCounts w (refuse_stream k code w)
refuse-counts k code w =
    by-choice (can_receive_now w.transport k) w.transport (after_give_up (after_stop w.transport k (code_of code)) k) w.transport
    (λ kind. change-counts (after_stop w.transport k (code_of code)) k give_up kind ∙ stop-counts w.transport k (code_of code) kind) (λ kind. refl)

request-counts : (k : ℕ) (code : ErrorCode) (w : WorkNow) → WorkCounts w (refuse_request k code w)
request-counts k code w = by (k % 4 == 0)
  where
    by : (b : Bool) → WorkCounts w (retire_if b k (refuse_stream k code w))
    by true kind = retire-counts k Refused (refuse_stream k code w) kind ∙ refuse-counts k code w kind
    by false kind = refuse-counts k code w kind

admitted-counts : (a : AdmissionNow) (k : ℕ) (w : WorkNow) → WorkCounts w (admitted_by a k w)
admitted-counts Admitted k w kind = refl
admitted-counts Full k w kind = refuse-counts k h3.BufferedStreamRejected w kind
admitted-counts Gone k w kind = refuse-counts k h3.SessionGone w kind

pub classify-counts : (k : ℕ) (v : Verdict) (w : WorkNow) → WorkCounts w (classify_now k v w)
unfolding classify_now
classify-counts k verdicts.Incomplete w kind = refl
classify-counts k (verdicts.Control offset) w kind = refl
classify-counts k (verdicts.Encoder offset) w kind = give-up-counts w.transport k kind
classify-counts k (verdicts.Decoder offset) w kind = give-up-counts w.transport k kind
classify-counts k (verdicts.WebTransport session offset) w kind = admitted-counts (admit_stream_now k session w.dispatched.sessions).admission k _ kind
classify-counts k (verdicts.Request fields offset) w kind = by (admitted_request k fields w.dispatched.requests) kind
  where
    by-room : (b : Bool) (u : WorkNow) → WorkCounts u (unless_room b k u)
    by-room true u j = refl
    by-room false u j = request-counts k h3.RequestRejected u j

    by : (a : RequestAdmitted) → WorkCounts w (unless_room a.has_room k (with_dispatched (λ d. record d { requests = a.requests }) w))
    by a j = by-room a.has_room (with_dispatched (λ d. record d { requests = a.requests }) w) j
classify-counts k (verdicts.Refused code) w kind = request-counts k code w kind
classify-counts k verdicts.Dropped w kind = give-up-counts w.transport k kind
classify-counts k (verdicts.Fault code) w kind = refl
