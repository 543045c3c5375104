-- What a call's record says is what its reply says, of each question that is asked of calls.
use Rattle.std.specs.Prelude.{[], ◌∷◌, ◌≡◌, Bool, Err, List, None, Ok, Option, Result, Some, false, if◌then◌else◌, true, ℕ, ℤ}
use Rattle.std.proofs.Common.{refl}
use Rattle.url.specs.Parser.{parse_url}
use Rattle.wt_meaning.specs.Halves.{is_done}
use Rattle.wt_meaning.specs.History.{History, hands_out, is_open}
use Rattle.wt_meaning.specs.Targets.{Target, target_of}
use Rattle.wt_meaning.specs.Windows.{request_in, session_in}
use Rattle.wt_sessions.specs.Driver.{accepts_stream, establishes}
use Rattle.wt_sessions.specs.Handshake.{requested_by}
use Rattle.wt_sessions_agree.specs.Records.{connect_record, done_record, failure_record, pending_record, record_of}
use Rattle.wt_turn.specs.Log.{AcceptanceFailed, CallRecord, ConnectStarted, HandshakeOver, Polled, PrioritySet, RequestRejected, ResetUnsent, ResponseStarted, StreamGivenUp}
use Rattle.wt_turn.specs.declared.call.Call.{Call}
use Rattle.wt_turn.specs.declared.connecting_error.ConnectingError.{ConnectingError}
use Rattle.wt_turn.specs.declared.reply.Reply.{Reply}
use Rattle.wt_wire.specs.declared.side.Side.{Side}
use Rattle.wt_turn.specs.declared.call.Call.TheVariants as calls
use Rattle.wt_turn.specs.declared.reply.Reply.TheVariants as replies
use Rattle.wt_turn.specs.declared.stream_error.StreamReadExactError.TheVariants as exacts

-- ---- records that a question passes over

-- of either record
pub either : {T : Type 0} (ask : CallRecord → T) (t : T) (b : Bool) (r s : CallRecord) → ask r ≡ t → ask s ≡ t → ask (if b then r else s) ≡ t
either ask t true r s e f = e
either ask t false r s e f = f

module _ {T : Type 0} (ask : CallRecord → T) (none : T) where
  -- the question passes over what calls leave that answer Pending or Failed
  pub record Aside : Type 0 where
    pub polled : ask Polled ≡ none
    pub started : (reserved : Option (List ℕ)) (head : List ℕ) → ask (ConnectStarted reserved head) ≡ none
    pub response : (accepts : Bool) (head : List ℕ) → ask (ResponseStarted accepts head) ≡ none
    pub over : ask HandshakeOver ≡ none
    pub failed : ask AcceptanceFailed ≡ none

  module _ (p : Aside) where
    connect-aside : (t : Result Target ConnectingError) → ask (connect_record t) ≡ none
    connect-aside (Err e) = p.polled
    connect-aside (Ok t) = p.started t.reserved t.frame

    pub pending-aside : (c : Call) → ask (pending_record c) ≡ none
    pending-aside (calls.Connect options lookup outcome) = connect-aside (target_of (parse_url None options.0) options.1 lookup outcome)
    pending-aside (calls.Accept headers) = p.response true _
    pending-aside calls.Forbidden = p.response false _
    pending-aside calls.NotFound = p.response false _
    pending-aside calls.TooManyRequests = p.response false _
    pending-aside c = p.polled

    pub failure-aside : (c : Call) → ask (failure_record c) ≡ none
    failure-aside calls.Incoming = p.over
    failure-aside (calls.Accept headers) = p.failed
    failure-aside calls.Handshake = p.failed
    failure-aside c = p.polled

  -- and what calls leave that answer Done
  pub record Passes : Type 0 where
    pub aside : Aside
    pub unsent : (k code : ℕ) → ask (ResetUnsent k code) ≡ none
    pub priority : (k : ℕ) (p : ℤ) → ask (PrioritySet k p) ≡ none
    pub given_up : (k : ℕ) → ask (StreamGivenUp k) ≡ none
    pub rejected : (s : ℕ) → ask (RequestRejected s) ≡ none

  pub done-passes : Passes → (side : Side) (h : History) (c : Call) → ask (done_record side h c) ≡ none
  done-passes p side h (calls.ResetSend id code) = either ask none (is_open h) Polled (ResetUnsent id code) p.aside.polled (p.unsent id code)
  done-passes p side h (calls.SetPriority id priority) = either ask none (is_done h id) Polled (PrioritySet id priority) p.aside.polled (p.priority id priority)
  done-passes p side h (calls.StopRecv id code) = p.given_up id
  done-passes p side h (calls.EndSession name) = either ask none (is_open h) (RequestRejected _) Polled (p.rejected _) p.aside.polled
  done-passes p side h c = p.aside.polled

-- ---- streams that are given

accept-passes : (k : ℕ) → Passes (accepts_stream k) false
accept-passes k = record {
  aside = record { polled = refl; started = λ r i. refl; response = λ a i. refl; over = refl; failed = refl };
  unsent = λ i c. refl;
  priority = λ i p. refl;
  given_up = λ i. refl;
  rejected = λ s. refl;
}

pub accepted-by : (side : Side) (h : History) (c : Call) (k : ℕ) (reply : Reply) → accepts_stream k (record_of side h c reply) ≡ hands_out k reply
accepted-by side h c k replies.Done = done-passes (accepts_stream k) false (accept-passes k) side h c
accepted-by side h c k replies.Pending = pending-aside (accepts_stream k) false (accept-passes k).aside c
accepted-by side h c k (replies.Failed e) = failure-aside (accepts_stream k) false (accept-passes k).aside c
accepted-by side h c k (replies.Read (Some (b ∷ bytes))) = refl
accepted-by side h c k (replies.Read (Some [])) = refl
accepted-by side h c k (replies.Read None) = refl
accepted-by side h c k (replies.ExactFailed (exacts.FinishedEarly count) piece) = refl
accepted-by side h c k (replies.ExactFailed (exacts.Read e) piece) = refl
accepted-by side h c k reply = refl

-- ---- requests and sessions

deliver-passes : Passes requested_by None
deliver-passes = record {
  aside = record { polled = refl; started = λ r i. refl; response = λ a i. refl; over = refl; failed = refl };
  unsent = λ i c. refl;
  priority = λ i p. refl;
  given_up = λ i. refl;
  rejected = λ s. refl;
}

pub requested-by : (side : Side) (h : History) (c : Call) (reply : Reply) → requested_by (record_of side h c reply) ≡ request_in reply
requested-by side h c replies.Done = done-passes requested_by None deliver-passes side h c
requested-by side h c replies.Pending = pending-aside requested_by None deliver-passes.aside c
requested-by side h c (replies.Failed e) = failure-aside requested_by None deliver-passes.aside c
requested-by side h c (replies.Read (Some (b ∷ bytes))) = refl
requested-by side h c (replies.Read (Some [])) = refl
requested-by side h c (replies.Read None) = refl
requested-by side h c (replies.ExactFailed (exacts.FinishedEarly count) piece) = refl
requested-by side h c (replies.ExactFailed (exacts.Read e) piece) = refl
requested-by side h c reply = refl

establish-passes : Passes establishes None
establish-passes = record {
  aside = record { polled = refl; started = λ r i. refl; response = λ a i. refl; over = refl; failed = refl };
  unsent = λ i c. refl;
  priority = λ i p. refl;
  given_up = λ i. refl;
  rejected = λ s. refl;
}

pub established-by : (side : Side) (h : History) (c : Call) (reply : Reply) → establishes (record_of side h c reply) ≡ session_in reply
established-by side h c replies.Done = done-passes establishes None establish-passes side h c
established-by side h c replies.Pending = pending-aside establishes None establish-passes.aside c
established-by side h c (replies.Failed e) = failure-aside establishes None establish-passes.aside c
established-by side h c (replies.Read (Some (b ∷ bytes))) = refl
established-by side h c (replies.Read (Some [])) = refl
established-by side h c (replies.Read None) = refl
established-by side h c (replies.ExactFailed (exacts.FinishedEarly count) piece) = refl
established-by side h c (replies.ExactFailed (exacts.Read e) piece) = refl
established-by side h c reply = refl
