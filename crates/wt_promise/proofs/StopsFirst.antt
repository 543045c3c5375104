-- A stream of this end's is opened before it is stopped.
use Rattle.std.proofs.Common.{ap, refl, subst, sym, ◌∙◌}
use Rattle.std.proofs.lemmas.Bool.{eq-eqb, eqb-true}
use Rattle.std.proofs.lemmas.List.{append-nil}
use Rattle.std.specs.List.{list_any}
use Rattle.std.specs.Option.{option_or}
use Rattle.std.specs.Prelude.{Bool, Err, List, None, Ok, Option, Result, Some, [], drop, false, filter, flat_map, if◌then◌else◌, is_none, is_some, length, not, take, true, unwrap_or, ℕ, ◌%◌, ◌&&◌, ◌++◌, ◌==◌, ◌||◌, ◌∷◌, ◌≡◌}
use Rattle.url.specs.Parser.{parse_url}
use Rattle.url.specs.Parts.{Parts, host_or_empty}
use Rattle.url.specs.declared.error.ParseError.{ParseError}
use Rattle.url.specs.declared.host.Host.TheVariants as hosts
use Rattle.url.specs.declared.host.Host.{Host}
use Rattle.wt_meaning.specs.Calls.{being_opened}
use Rattle.wt_meaning.specs.Findings.{Classified, Faulted, Finding, SessionClosed, first_of, is_classified, verdict_in}
use Rattle.wt_meaning.specs.Halves.{has_receiving, where_has}
use Rattle.wt_meaning.specs.History.{History, Pair, actions_out, can_receive, can_send, credit_left, events, exists, hands_out, is_given_up, is_handed_out, is_open, is_reset, out, was_finished}
use Rattle.wt_meaning.specs.Lawful.{is_lawful, is_pending, is_response}
use Rattle.wt_meaning.specs.Meaning.{next, own_answer, with_pair}
use Rattle.wt_meaning.specs.Moments.{findings}
use Rattle.wt_meaning.specs.Rows.{first_row, row}
use Rattle.wt_meaning.specs.Sends.{action_if, actions_for, actions_for_all, control_actions, is_of_session, moment_actions, session_finish, session_gone_actions, stream_ids}
use Rattle.wt_meaning.specs.Windows.{is_gone, is_number, lives, named}
use Rattle.wt_promise.proofs.Accepted.{and-left, or-left, or-right}
use Rattle.wt_promise.proofs.Actions.{none-append, none-control, none-if}
use Rattle.wt_promise.proofs.Flow.{clash}
use Rattle.wt_promise.proofs.Grows.{findings-add, is_peers, news-dropped}
use Rattle.wt_promise.proofs.HandedOut.{only-peers}
use Rattle.wt_promise.proofs.OpensFirst.{InFront, IsOwn, OwnPart, Untouched, handed-exists, own-not-peers, own-part}
use Rattle.wt_promise.proofs.OwedCalls.{turn-owed}
use Rattle.wt_promise.specs.Connects.{dial_to, of_url, refusal, request_head}
use Rattle.wt_promise.specs.Owed.{begun_last, finish_unless_stopped, fits_credit, handshake_stream, head_of, header_on, living, owed_by_acceptance, owed_by_call, owed_by_connect, owed_by_end, owed_by_failure, owed_by_handshake, owed_by_rejection, owed_if, request_goes, rest_of, stopped_early, told}
use Rattle.wt_promise.specs.Promise.{IsHistory}
use Rattle.wt_promise.specs.Sides.{opened_before, opens_of}
use Rattle.wt_proto.specs.declared.verdict.Verdict.TheVariants as verdicts
use Rattle.wt_proto.specs.declared.verdict.Verdict.{Verdict}
use Rattle.wt_turn.specs.Joined.{join_all, join_one, send_of}
use Rattle.wt_turn.specs.Reports.{end_of, if_same, is_running, stop_of}
use Rattle.wt_turn.specs.Streams.{local_bi, local_count, local_uni}
use Rattle.wt_turn.specs.declared.action.Action.TheVariants as actions
use Rattle.wt_turn.specs.declared.action.Action.{Action}
use Rattle.wt_turn.specs.declared.call.Call.TheVariants as calls
use Rattle.wt_turn.specs.declared.call.Call.{Call}
use Rattle.wt_turn.specs.declared.connecting_error.ConnectingError.TheVariants as connects
use Rattle.wt_turn.specs.declared.connection_error.ConnectionError.TheVariants as errors
use Rattle.wt_turn.specs.declared.reply.Reply.TheVariants as replies
use Rattle.wt_turn.specs.declared.reply.Reply.{Reply}
use Rattle.wt_turn.specs.declared.turn.Turn.TheVariants as turns
use Rattle.wt_turn.specs.declared.turn.Turn.{Turn}
use Rattle.wt_wire.specs.Codes.{code_of}
use Rattle.wt_wire.specs.HeaderList.{Fields}
use Rattle.wt_wire.specs.declared.lookup.ConnectOutcome.{ConnectOutcome}
use Rattle.wt_wire.specs.declared.lookup.Lookup.TheVariants as lookups
use Rattle.wt_wire.specs.declared.lookup.Lookup.{Lookup}
use Rattle.wt_wire.specs.declared.side.Side.{Side}

abbrev stops : ℕ → Action → Bool
stops k a = elim a [ actions.StopOut id code ↦ id == k | _ ↦ false ]

-- ---- lists

apart-first : (k : ℕ) (xs ys : List Action) → list_any (stops k) xs ≡ false → opened_before (stops k) k ys ≡ true → opened_before (stops k) k (xs ++ ys) ≡ true
apart-first k [] ys e f = f
apart-first k (x ∷ xs) ys e f = by (is_number k (opens_of (k % 4) x)) (stops k x) refl e (apart-first k xs ys)
  where
    by : (o a : Bool) → stops k x ≡ a → (a || list_any (stops k) xs) ≡ false → (list_any (stops k) xs ≡ false → opened_before (stops k) k ys ≡ true → opened_before (stops k) k (xs ++ ys) ≡ true)
        → (o || (not (stops k x) && opened_before (stops k) k (xs ++ ys))) ≡ true
    by true a q r again = refl
    by false true q r again = absurd (cc r)
    by false false q r again = rw (q, again r f) refl

none-first : (k : ℕ) (xs : List Action) → list_any (stops k) xs ≡ false → opened_before (stops k) k xs ≡ true
none-first k xs e = ap (opened_before (stops k) k) (sym (append-nil xs)) ∙ apart-first k xs [] e refl

first-two : (k : ℕ) (b a : Action) (later : List Action) → opened_before (stops k) k (b ∷ a ∷ later) ≡ true → opened_before (stops k) k (join_one (b ∷ []) a ++ later) ≡ true
first-two k (actions.Send i p) (actions.Send j s) later q = by (i == j)
  where
    by : (c : Bool) → opened_before (stops k) k ((if c then actions.Send i (p ++ s) ∷ [] else actions.Send i p ∷ actions.Send j s ∷ []) ++ later) ≡ true
    by false = q
    by true = q
first-two k b a later q = q

first-one : (k : ℕ) (before : List Action) (a : Action) (later : List Action) → opened_before (stops k) k (before ++ a ∷ later) ≡ true → opened_before (stops k) k (join_one before a ++ later) ≡ true
first-one k [] a later q = q
first-one k (b ∷ []) a later q = first-two k b a later q
first-one k (b ∷ c ∷ rest) a later q = by (is_number k (opens_of (k % 4) b)) (not (stops k b)) q (first-one k (c ∷ rest) a later)
  where
    by : (x y : Bool) → (x || (y && opened_before (stops k) k ((c ∷ rest) ++ a ∷ later))) ≡ true → (opened_before (stops k) k ((c ∷ rest) ++ a ∷ later) ≡ true → opened_before (stops k) k (join_one (c ∷ rest) a ++ later) ≡ true)
        → (x || (y && opened_before (stops k) k (join_one (c ∷ rest) a ++ later))) ≡ true
    by true y r again = refl
    by false true r again = again r
    by false false r again = absurd (cc r)

first-join : (k : ℕ) (before later : List Action) → opened_before (stops k) k (before ++ later) ≡ true → opened_before (stops k) k (join_all before later) ≡ true
first-join k before [] q = ap (opened_before (stops k) k) (sym (append-nil before)) ∙ q
first-join k before (a ∷ later) q = first-join k (join_one before a) later (first-one k before a later q)

-- ---- what stops no stream

none-owed : (k : ℕ) (b : Bool) (xs : List Action) → list_any (stops k) xs ≡ false → list_any (stops k) (owed_if b xs) ≡ false
none-owed k true xs e = e
none-owed k false xs e = refl

none-sent : (k id : ℕ) (bytes : List ℕ) → list_any (stops k) (send_of id bytes) ≡ false
none-sent k id [] = refl
none-sent k id (b ∷ bytes) = refl

none-dialled : (k : ℕ) (host : Host (List ℕ)) (port : ℕ) (lookup : Lookup) → list_any (stops k) (dial_to host port lookup) ≡ false
none-dialled k (hosts.Domain domain) port (lookups.Found address) = refl
none-dialled k (hosts.Domain domain) port lookup = refl
none-dialled k (hosts.Ipv4 address) port lookup = refl
none-dialled k (hosts.Ipv6 address) port lookup = refl

none-failed : (k : ℕ) (r : Reply) → list_any (stops k) (owed_by_failure r) ≡ false
none-failed k (replies.ConnectFailed (connects.ConnectionError (errors.LocalH3Error code))) = refl
none-failed k (replies.ConnectFailed (connects.ConnectionError e)) = refl
none-failed k (replies.ConnectFailed e) = refl
none-failed k r = refl

none-url : (k : ℕ) (r : Result Parts ParseError) (lookup : Lookup) (outcome : ConnectOutcome) (f : Parts → List Action) → ((url : Parts) → list_any (stops k) (f url) ≡ false) → list_any (stops k) (of_url r lookup outcome f) ≡ false
none-url k (Err e) lookup outcome f n = refl
none-url k (Ok url) lookup outcome f n = by (is_some (refusal (Ok url) lookup outcome))
  where
    by : (b : Bool) → list_any (stops k) (if b then [] else f url) ≡ false
    by true = refl
    by false = n url

-- a stream that isn't there isn't told
module _ (side : Side) (h : History) (k : ℕ) (n : exists side h k ≡ false) where
  abbrev Stopping : ℕ → List Action
  Stopping j = owed_if (can_receive side h j && is_running (end_of (events h) j) && not (is_given_up h j)) (actions.StopOut j 0x170d7b68 ∷ [])

  abbrev Resetting : ℕ → List Action
  Resetting j = owed_if (can_send side h j && not (was_finished h j) && not (is_reset h j)) (actions.ResetOut j 0x170d7b68 ∷ [])

  stop-none : (j : ℕ) → list_any (stops k) (Stopping j) ≡ false
  stop-none j = by (j == k) refl
    where
      shut : (b c : Bool) → list_any (stops k) (owed_if (((false && not (j % 4 == local_uni side)) && b) && c) (actions.StopOut j 0x170d7b68 ∷ [])) ≡ false
      shut b c = refl

      by : (b : Bool) → (j == k) ≡ b → list_any (stops k) (Stopping j) ≡ false
      by false e = none-owed k (can_receive side h j && is_running (end_of (events h) j) && not (is_given_up h j)) (actions.StopOut j 0x170d7b68 ∷ []) (ap (λ (b : Bool). b || false) e)
      by true e = ap (λ (b : Bool). list_any (stops k) (owed_if (b && not (j % 4 == local_uni side) && is_running (end_of (events h) j) && not (is_given_up h j)) (actions.StopOut j 0x170d7b68 ∷ []))) (ap (exists side h) (eqb-true j k e) ∙ n)
          ∙ shut (is_running (end_of (events h) j)) (not (is_given_up h j))

  reset-none : (j : ℕ) → list_any (stops k) (Resetting j) ≡ false
  reset-none j = none-owed k (can_send side h j && not (was_finished h j) && not (is_reset h j)) (actions.ResetOut j 0x170d7b68 ∷ []) refl

  told-all : (js : List ℕ) → list_any (stops k) (flat_map (λ (j : ℕ). Stopping j ++ Resetting j) js) ≡ false
  told-all [] = refl
  told-all (j ∷ js) = none-append (stops k) (Stopping j ++ Resetting j) (flat_map (λ (i : ℕ). Stopping i ++ Resetting i) js) (none-append (stops k) (Stopping j) (Resetting j) (stop-none j) (reset-none j)) (told-all js)

  told-none : (found : List Finding) (s : ℕ) → list_any (stops k) (told side h found s) ≡ false
  told-none found s = told-all (filter (is_of_session h found s) (stream_ids side h))

  -- ---- what a call owes

  none-rest : (id : ℕ) (head : List ℕ) → list_any (stops k) (rest_of h id head) ≡ false
  none-rest id head = none-sent k id (take (credit_left h id) (drop (length (out h id)) head))

  rejection-none : (s : ℕ) (head : List ℕ) (r : Reply) → list_any (stops k) (owed_by_rejection side h s head r) ≡ false
  rejection-none s head replies.Rejected = none-owed k (is_open h) (told side h (findings side h) s ++ (if stopped_early h s head then actions.Close 0x104 [] ∷ [] else owed_if (length (living side h) == 0) (actions.Close 0 [] ∷ [])))
      (none-append (stops k) (told side h (findings side h) s) (if stopped_early h s head then actions.Close 0x104 [] ∷ [] else owed_if (length (living side h) == 0) (actions.Close 0 [] ∷ [])) (told-none (findings side h) s) (by (stopped_early h s head)))
    where
      by : (b : Bool) → list_any (stops k) (if b then actions.Close 0x104 [] ∷ [] else owed_if (length (living side h) == 0) (actions.Close 0 [] ∷ [])) ≡ false
      by true = refl
      by false = none-owed k (length (living side h) == 0) (actions.Close 0 [] ∷ []) refl
  rejection-none s head r = by (fits_credit h s head && was_finished h s)
    where
      by : (b : Bool) → list_any (stops k) (if b then [] else rest_of h s head ++ owed_if (fits_credit h s head) (actions.Finish s ∷ [])) ≡ false
      by true = refl
      by false = none-append (stops k) (rest_of h s head) (owed_if (fits_credit h s head) (actions.Finish s ∷ [])) (none-rest s head) (none-owed k (fits_credit h s head) (actions.Finish s ∷ []) refl)

  acceptance-none : (s : ℕ) (head : List ℕ) (r : Reply) → list_any (stops k) (owed_by_acceptance h s head r) ≡ false
  acceptance-none s head (replies.Failed e) = none-owed k (is_open h) (actions.Close 0x104 [] ∷ []) refl
  acceptance-none s head r = none-owed k (is_open h) (rest_of h s head) (none-rest s head)

  connect-none : (headers : Fields) (head : List ℕ) (r : Reply) → list_any (stops k) (owed_by_connect side h headers head r) ≡ false
  connect-none headers head r = none-owed k (is_open h) ((if request_goes side h headers head then owed_if (local_count (actions_out h) 0 == 0) (actions.Opened 0 ∷ []) ++ rest_of h 0 head else []) ++ owed_by_failure r)
      (none-append (stops k) (if request_goes side h headers head then owed_if (local_count (actions_out h) 0 == 0) (actions.Opened 0 ∷ []) ++ rest_of h 0 head else []) (owed_by_failure r) (by (request_goes side h headers head)) (none-failed k r))
    where
      by : (b : Bool) → list_any (stops k) (if b then owed_if (local_count (actions_out h) 0 == 0) (actions.Opened 0 ∷ []) ++ rest_of h 0 head else []) ≡ false
      by true = none-append (stops k) (owed_if (local_count (actions_out h) 0 == 0) (actions.Opened 0 ∷ [])) (rest_of h 0 head) (none-owed k (local_count (actions_out h) 0 == 0) (actions.Opened 0 ∷ []) refl)
          (none-rest 0 head)
      by false = refl

  handshake-none : (o : Option Call) (r : Reply) → list_any (stops k) (owed_by_handshake side h o r) ≡ false
  handshake-none None r = refl
  handshake-none (Some (calls.Connect options lookup outcome)) r = none-url k (parse_url None options.0) lookup outcome (λ (url : Parts). owed_by_connect side h options.1 (request_head url options.1) r) (λ url. connect-none options.1 (request_head url options.1) r)
  handshake-none (Some (calls.Accept headers)) r = acceptance-none (handshake_stream h) (head_of (Some (calls.Accept headers))) r
  handshake-none (Some c) r = none-owed k (is_response c) (owed_by_rejection side h (handshake_stream h) (head_of (Some c)) r) (rejection-none (handshake_stream h) (head_of (Some c)) r)

  end-none : (o : Option ℕ) → list_any (stops k) (owed_by_end side h o) ≡ false
  end-none None = refl
  end-none (Some s) = by (is_open h && lives h (findings side h) s)
    where
      by : (b : Bool) → list_any (stops k) (if b then finish_unless_stopped h s ++ told side h (findings side h) s else []) ≡ false
      by true = none-append (stops k) (finish_unless_stopped h s) (told side h (findings side h) s) (none-owed k (is_none (stop_of (events h) s)) (actions.Finish s ∷ []) refl) (told-none (findings side h) s)
      by false = refl

  call-none : (c : Call) (r : Reply) → elim c [ calls.StopRecv id code ↦ false | _ ↦ true ] ≡ true → list_any (stops k) (owed_by_call side h c r) ≡ false
  call-none (calls.Connect options lookup outcome) r e = none-url k (parse_url None options.0) lookup outcome (λ (url : Parts). dial_to (host_or_empty url) (unwrap_or url.port 443) lookup) (λ url. none-dialled k (host_or_empty url) (unwrap_or url.port 443) lookup)
  call-none (calls.EndpointClose code reason) r e = none-owed k (is_open h) (actions.Close code reason ∷ []) refl
  call-none (calls.Close code reason) replies.Done e = none-owed k (is_open h) (actions.Close code reason ∷ []) refl
  call-none (calls.OpenUni name) (replies.Opening id) e = refl
  call-none (calls.OpenBi name) (replies.Opening id) e = refl
  call-none (calls.PollOpening id) r e = none-owed k (is_pending r || hands_out id r) (rest_of h id (header_on h id (being_opened h id))) (none-rest id (header_on h id (being_opened h id)))
  call-none (calls.SendDatagram payload name) replies.Done e = refl
  call-none (calls.EndSession name) replies.Done e = end-none (named h name)
  call-none (calls.Write id bytes) (replies.Written n) e = none-sent k id (take n bytes)
  call-none (calls.WriteAll id bytes) (replies.Count n) e = none-sent k id (take n bytes)
  call-none (calls.WriteAll id bytes) replies.AllWritten e = none-sent k id bytes
  call-none (calls.Finish id) replies.Pending e = none-owed k (not (was_finished h id)) (actions.Finish id ∷ []) refl
  call-none (calls.ResetSend id code) replies.Done e = none-owed k (is_open h) (actions.ResetOut id code ∷ []) refl
  call-none (calls.StopRecv id code) r e = absurd (cc e)
  call-none calls.Handshake r e = handshake-none (begun_last h) r
  call-none c r e = handshake-none (Some c) r

  own-none : (i : IsHistory side h) (o : IsOwn side k) (turn : Turn) → list_any (stops k) (own_answer side h turn).actions ≡ false
  own-none i o (turns.Call (calls.StopRecv id code)) = by (has_receiving side h id) refl
    where
      differ : (b : Bool) → (id == k) ≡ b → is_handed_out h id ≡ true → (id == k) ≡ false
      differ false e x = e
      differ true e x = absurd (clash (exists side h k) (handed-exists side h i k o (subst (λ (j : ℕ). is_handed_out h j ≡ true) (eqb-true id k e) x)) n)

      by : (b : Bool) → has_receiving side h id ≡ b → list_any (stops k) (first_row (where_has b (row true replies.Done (action_if (is_open h) (actions.StopOut id code)) ∷ []))).actions ≡ false
      by true e = none-if (stops k) (is_open h) (actions.StopOut id code) (differ (id == k) refl (and-left (is_handed_out h id) (not (id % 4 == local_uni side)) (and-left (is_handed_out h id && not (id % 4 == local_uni side)) (not (is_given_up h id)) e)))
      by false e = refl
  own-none i o (turns.Call c) = ap (list_any (stops k)) (turn-owed side h (turns.Call c)) ∙ call-none c (next side h (turns.Call c)).reply refl
  own-none i o turn = refl

-- ---- the moment

-- the finding classifies the stream
abbrev is-it : ℕ → Finding → Bool
is-it k f = is_some (verdict_in k f)

all-none : (side : Side) (h : History) (k : ℕ) → exists side h k ≡ false → (before new : List Finding) → list_any (is-it k) new ≡ false → list_any (stops k) (actions_for_all side h before new) ≡ false
all-none side h k n before [] e = refl
all-none side h k n before (f ∷ new) e =
    none-append (stops k) (actions_for side h before f) (actions_for_all side h (before ++ f ∷ []) new) (one f (or-left (is-it k f) (list_any (is-it k) new) e)) (all-none side h k n (before ++ f ∷ []) new (or-right (is-it k f) (list_any (is-it k) new) e))
  where
    other : (id : ℕ) (v : Verdict) → is_some (if_same id k v) ≡ false → (id == k) ≡ false
    other id v x = by (id == k) refl x
      where
        by : (b : Bool) → (id == k) ≡ b → is_some (if b then Some v else None) ≡ false → b ≡ false
        by false q y = refl
        by true q y = absurd (cc y)

    stopped : (id code : ℕ) (later : List Action) → (id == k) ≡ false → list_any (stops k) later ≡ false → list_any (stops k) (actions.StopOut id code ∷ later) ≡ false
    stopped id code later x y = rw (x, y) refl

    one : (f : Finding) → is-it k f ≡ false → list_any (stops k) (actions_for side h before f) ≡ false
    one (Classified id (verdicts.WebTransport session offset) false) x = stopped id (if is_gone h before session then 0x170d7b68 else 0x3994bd84) [] (other id (verdicts.WebTransport session offset) x) refl
    one (Classified id (verdicts.WebTransport session offset) true) x = refl
    one (Classified id (verdicts.Refused code) admitted) x = stopped id (code_of code) (session_gone_actions side h before id) (other id (verdicts.Refused code) x) (told-none side h k n before id)
    one (Classified id (verdicts.Request headers offset) false) x = stopped id 0x10b (session_gone_actions side h before id) (other id (verdicts.Request headers offset) x) (told-none side h k n before id)
    one (Classified id (verdicts.Request headers offset) true) x = refl
    one (SessionClosed session code reason true) x = told-none side h k n before session
    one (SessionClosed session code reason false) x = none-append (stops k) (session_finish h session) (session_gone_actions side h before session) (none-if (stops k) (not (is_some (stop_of (events h) session))) (actions.Finish session) refl) (told-none side h k n before session)
    one (Faulted code) x = refl
    one f x = refl

moment-none : (side : Side) (p : Pair) (h : History) (k : ℕ) → IsOwn side k → exists side (p ∷ h) k ≡ false → list_any (stops k) (moment_actions side (p ∷ h)) ≡ false
moment-none side p h k o n = by (is_open (p ∷ h))
  where
    unclassified : is_classified (findings side (p ∷ h)) k ≡ false
    unclassified = of (is_classified (findings side (p ∷ h)) k) refl
      where
        of : (b : Bool) → is_classified (findings side (p ∷ h)) k ≡ b → b ≡ false
        of false e = refl
        of true e = absurd (clash (is_peers side k) (only-peers side (p ∷ h) k e) (own-not-peers side k o))

    apart : (xs ys : List Finding) → is_some (first_of (verdict_in k) (xs ++ ys)) ≡ false → is_some (first_of (verdict_in k) ys) ≡ false
    apart [] ys e = e
    apart (x ∷ xs) ys e = of (verdict_in k x) e (apart xs ys)
      where
        of : (v : Option Verdict) → is_some (option_or v (first_of (verdict_in k) (xs ++ ys))) ≡ false → (is_some (first_of (verdict_in k) (xs ++ ys)) ≡ false → is_some (first_of (verdict_in k) ys) ≡ false)
            → is_some (first_of (verdict_in k) ys) ≡ false
        of None q again = again q
        of (Some v) q again = absurd (cc q)

    none-of : (xs : List Finding) → is_some (first_of (verdict_in k) xs) ≡ false → list_any (is-it k) xs ≡ false
    none-of [] e = refl
    none-of (x ∷ xs) e = of (verdict_in k x) refl e (none-of xs)
      where
        of : (v : Option Verdict) → verdict_in k x ≡ v → is_some (option_or v (first_of (verdict_in k) xs)) ≡ false → (is_some (first_of (verdict_in k) xs) ≡ false → list_any (is-it k) xs ≡ false)
            → (is_some (verdict_in k x) || list_any (is-it k) xs) ≡ false
        of None w q again = rw w (again q)
        of (Some v) w q again = absurd (cc q)

    new : List Finding
    new = drop (length (findings side h)) (findings side (p ∷ h))

    fresh : list_any (is-it k) new ≡ false
    fresh = none-of new (apart (findings side h) new
        (ap (λ (fs : List Finding). is_some (first_of (verdict_in k) fs)) (sym (findings-add side p h ∙ ap (λ (x : List Finding). findings side h ++ x) (sym (news-dropped side p h)))) ∙ unclassified))

    by : (b : Bool) → list_any (stops k) (if b then control_actions side (p ∷ h) ++ actions_for_all side (p ∷ h) (findings side h) new else []) ≡ false
    by false = refl
    by true = none-append (stops k) (control_actions side (p ∷ h)) (actions_for_all side (p ∷ h) (findings side h) new) (none-control (stops k) side (p ∷ h) refl (λ x. refl)) (all-none side (p ∷ h) k n (findings side h) new fresh)

pub stops_first : (side : Side) (h : History) (turn : Turn) → IsHistory side h → is_lawful side h turn ≡ true → (k : ℕ) → (local_uni side == k % 4 || local_bi side == k % 4) ≡ true → exists side h k ≡ false
    → opened_before (λ (a : Action). elim a [ actions.StopOut id code ↦ id == k | _ ↦ false ]) k (next side h turn).actions ≡ true
stops_first side h turn i l k o n = first-join k [] ((own_answer side h turn).actions ++ moment_actions side (with_pair h turn (own_answer side h turn))) (by (own-part side h turn i l k o n))
  where
    by : OwnPart side h k (own_answer side h turn).actions (record { turn = turn; answer = own_answer side h turn })
        → opened_before (stops k) k ((own_answer side h turn).actions ++ moment_actions side (with_pair h turn (own_answer side h turn))) ≡ true
    by (Untouched a x) = apart-first k (own_answer side h turn).actions (moment_actions side (with_pair h turn (own_answer side h turn))) (own-none side h k n i o turn) (none-first k (moment_actions side (with_pair h turn (own_answer side h turn))) (moment-none side (record { turn = turn; answer = own_answer side h turn }) h k o x))
    by (InFront later e) =
        ap (λ (l : List Action). opened_before (stops k) k (l ++ moment_actions side (with_pair h turn (own_answer side h turn)))) e
        ∙ ap (λ (b : Bool). is_number k (if b then Some k else None) || opened_before (stops k) k (later ++ moment_actions side (with_pair h turn (own_answer side h turn)))) (eq-eqb (k % 4) (k % 4) refl)
        ∙ ap (λ (b : Bool). b || opened_before (stops k) k (later ++ moment_actions side (with_pair h turn (own_answer side h turn)))) (eq-eqb k k refl)
