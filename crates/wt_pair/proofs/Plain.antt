-- Which calls dial, and which send a datagram: a connect, and a SendDatagram alone.
use Rattle.std.specs.Prelude.{[], ◌&&◌, ◌++◌, ◌/◌, ◌∷◌, ◌||◌, ◌≡◌, Bool, Err, List, None, Ok, Option, Result, Some, drop, false, flat_map, if◌then◌else◌, is_some, length, not, take, true, ℕ}
use Rattle.std.specs.List.{list_any}
use Rattle.std.proofs.Common.{◌∙◌, ap, refl}
use Rattle.std.proofs.lemmas.List.{append-nil}
use Rattle.std.proofs.lemmas.List.Concat.{flat_map-append}
use Rattle.wt_meaning.specs.Calls.{being_opened, in_session, is_living, opening_for, rows_of, send_datagram, stream_header}
use Rattle.wt_meaning.specs.Findings.{Classified, Faulted, Finding, SessionClosed}
use Rattle.wt_meaning.specs.Halves.{stopped_rows, where_has, write_rows}
use Rattle.wt_meaning.specs.Handshakes.{begin_rows, head_left, last_begun, poll_rows, send, is_opened}
use Rattle.wt_meaning.specs.History.{History, actions_out, credit_left, is_open, events}
use Rattle.wt_meaning.specs.Lawful.{is_lawful}
use Rattle.wt_meaning.specs.Meaning.{answer_to, bytes_actions, history_after, next, own_answer, step, with_pair}
use Rattle.wt_meaning.specs.Moments.{findings}
use Rattle.wt_meaning.specs.Rows.{Row, first_row, row, row_for}
use Rattle.wt_meaning.specs.Sends.{action_if, actions_for, actions_for_all, close_if_open, control_actions, moment_actions, session_finish, session_gone_actions}
use Rattle.wt_meaning.specs.Targets.{Target}
use Rattle.wt_meaning.specs.Windows.{named}
use Rattle.wt_message.specs.Datagram.{datagram_bytes}
use Rattle.wt_pair.proofs.Marks.{view-join}
use Rattle.wt_promise.proofs.Actions.{any-join_all, any-next, none-append, none-control, none-gone, none-if, none-sent}
use Rattle.wt_promise.proofs.Flow.{clash}
use Rattle.wt_promise.proofs.Sessions.{is_connect}
use Rattle.wt_promise.proofs.Shakes.{Finishes, Goes, GoesShuts, Rejects, Shake, Shut, Shuts, Still, head_stream, map-rows, opening, rest, shakes}
use Rattle.wt_promise.proofs.Stays.{any-newest}
use Rattle.wt_promise.proofs.Tables.{OfRows, by-row, by-session, by-value, no-row}
use Rattle.wt_turn.specs.Reports.{stop_of}
use Rattle.wt_turn.specs.Sent.{dials, has_dialled}
use Rattle.wt_turn.specs.declared.action.Action.{Action}
use Rattle.wt_turn.specs.declared.answer.Answer.{Answer}
use Rattle.wt_turn.specs.declared.call.Call.{Call}
use Rattle.wt_turn.specs.declared.connecting_error.ConnectingError.{ConnectingError}
use Rattle.wt_turn.specs.declared.reply.Reply.{Reply}
use Rattle.wt_turn.specs.declared.stream_error.StreamWriteError.{StreamWriteError}
use Rattle.wt_turn.specs.declared.turn.Turn.{Turn}
use Rattle.wt_wire.specs.declared.side.Side.{Side}
use Rattle.wt_wire.specs.declared.side.Side.TheVariants.{Server}
use Rattle.wt_proto.specs.declared.verdict.Verdict.TheVariants as verdicts
use Rattle.wt_turn.specs.declared.action.Action.TheVariants as actions
use Rattle.wt_turn.specs.declared.call.Call.TheVariants as calls
use Rattle.wt_turn.specs.declared.reply.Reply.TheVariants as replies
use Rattle.wt_turn.specs.declared.stream_error.StreamWriteError.TheVariants as writes
use Rattle.wt_turn.specs.declared.turn.Turn.TheVariants as turns

-- it dials, or sends a datagram
abbrev pub special : Action → Bool
special (actions.Dial address name) = true
special (actions.DatagramOut piece) = true
special _ = false

abbrev pub special_call : Call → Bool
special_call (calls.Connect options lookup outcome) = true
special_call (calls.SendDatagram payload name) = true
special_call _ = false

-- ---- rows

module _ (side : Side) (h : History) where
  abbrev Plain : Answer → Type 0
  Plain a = list_any special a.actions ≡ false

  acts : (b : Bool) (r : Reply) (own : List Action) (rows : List Row) → list_any special own ≡ false → OfRows Plain rows → OfRows Plain (row b r own ∷ rows)
  acts b r own rows n later = by-row Plain b r own rows (λ q. n) (λ q. later)

  acts-value : {T : Type 0} (x : Option T) (gives : T → Reply) (own : List Action) (rows : List Row) → list_any special own ≡ false → OfRows Plain rows → OfRows Plain (row_for x gives own ∷ rows)
  acts-value x gives own rows n later = by-value Plain x gives own rows (λ y q. n) (λ q. later)

  done : OfRows Plain []
  done = no-row Plain refl

  still : (b : Bool) (r : Reply) (rows : List Row) → OfRows Plain rows → OfRows Plain (row b r [] ∷ rows)
  still b r rows later = acts b r [] rows refl later

  in-any : (name : Option ℕ) (rows : ℕ → List Row) → ((s : ℕ) → OfRows Plain (rows s)) → OfRows Plain (in_session name rows)
  in-any name rows f = by-session Plain name rows refl (λ s q. f s)

  no-send : (k : ℕ) (bytes : List ℕ) → list_any special (send h k bytes) ≡ false
  no-send k bytes = none-sent special k (take (credit_left h k) bytes) (λ p. refl)

  no-close : (code : ℕ) → list_any special (close_if_open h code) ≡ false
  no-close code = none-if special (is_open h) (actions.Close code []) refl

  no-gone : (found : List Finding) (s : ℕ) → list_any special (session_gone_actions side h found s) ≡ false
  no-gone found s = none-gone special (λ k c. refl) (λ k c. refl) side h found s

  no-finish : (s : ℕ) → list_any special (session_finish h s) ≡ false
  no-finish s = none-if special (not (is_some (stop_of (events h) s))) (actions.Finish s) refl

  stopped-plain : (k : ℕ) (failed : StreamWriteError → Reply) (last : Reply) → OfRows Plain (stopped_rows h k failed last)
  stopped-plain k failed last = acts-value _ _ [] _ refl (still _ _ _ (still _ _ _ done))

  half : (has : Bool) (rows : List Row) → OfRows Plain rows → OfRows Plain (where_has has rows)
  half has rows f = still (not has) replies.NoStream rows f

  -- a connect or a response that goes on
  rest-plain : (c : Call) (frame : List ℕ) → list_any special (rest h c frame) ≡ false
  rest-plain c frame = none-append special (opening h c) (send h (head_stream h c) (head_left h (head_stream h c) frame)) (by c) (no-send (head_stream h c) (head_left h (head_stream h c) frame))
    where
      by : (d : Call) → list_any special (opening h d) ≡ false
      by (calls.Connect options lookup outcome) = none-if special (not (is_opened h)) (actions.Opened 0) refl
      by d = refl

  shake-plain : (c : Call) (frame : List ℕ) (a : Answer) → Shake side h c frame a → Plain a
  shake-plain c frame a (Shut r o) = refl
  shake-plain c frame a (Still r g) = refl
  shake-plain c frame a (Shuts r code g m) = no-close code
  shake-plain c frame a (Goes r g) = rest-plain c frame
  shake-plain c frame a (GoesShuts r code g m) = none-append special (rest h c frame) (close_if_open h code) (rest-plain c frame) (no-close code)
  shake-plain c frame a (Finishes r m) = none-append special (rest h c frame) (actions.Finish (head_stream h c) ∷ []) (rest-plain c frame) refl
  shake-plain c frame a (Rejects r b code m) =
      none-append special (session_gone_actions side h (findings side h) (head_stream h c)) (if b then close_if_open h code else []) (no-gone (findings side h) (head_stream h c)) (last b)
    where
      last : (x : Bool) → list_any special (if x then close_if_open h code else []) ≡ false
      last true = no-close code
      last false = refl

  poll-plain : (c : Option Call) → OfRows Plain (poll_rows side h c)
  poll-plain None = done
  poll-plain (Some c) = map-rows (λ a s. shake-plain c _ a s) (shakes side h c)

  opening-plain : (id : ℕ) (x : Option (Option ℕ)) → OfRows Plain (opening_for side h id x)
  opening-plain id None = still true replies.NoStream [] done
  opening-plain id (Some name) = in-any (named h name) _ (λ s. still _ _ _ (still _ _ _ (acts _ _ (send h id (head_left h id (stream_header id s))) _ (no-send id (head_left h id (stream_header id s)))
      (acts true _ (send h id (head_left h id (stream_header id s))) [] (no-send id (head_left h id (stream_header id s))) done))))

  writes-plain : (k : ℕ) (rows : List Row) → OfRows Plain rows → OfRows Plain (write_rows h k rows)
  writes-plain k rows f = still _ _ _ (still _ _ _ (acts-value _ _ [] _ refl f))

  call-plain : (call : Call) → special_call call ≡ false → OfRows Plain (rows_of side h call)
  call-plain (calls.Connect options lookup outcome) n = absurd (cc n)
  call-plain (calls.SendDatagram payload name) n = absurd (cc n)
  call-plain calls.Incoming n = acts-value _ _ [] _ refl (still _ _ [] done)
  call-plain calls.Handshake n = poll-plain (last_begun h)
  call-plain (calls.EndpointClose code reason) n = acts true replies.Done (action_if (is_open h) (actions.Close code reason)) [] (none-if special (is_open h) (actions.Close code reason) refl) done
  call-plain (calls.AcceptUni name) n = in-any (named h name) _ (λ s. acts-value _ _ [] _ refl (still _ _ [] done))
  call-plain (calls.AcceptBi name) n = in-any (named h name) _ (λ s. acts-value _ _ [] _ refl (still _ _ [] done))
  call-plain (calls.ReceiveDatagram name) n = in-any (named h name) _ (λ s. acts-value _ _ [] _ refl (still _ _ [] done))
  call-plain (calls.OpenUni name) n = in-any (named h name) _ (λ s. still _ _ _ (still _ _ _ (acts _ _ (actions.Opened _ ∷ []) [] refl done)))
  call-plain (calls.OpenBi name) n = in-any (named h name) _ (λ s. still _ _ _ (still _ _ _ (acts _ _ (actions.Opened _ ∷ []) [] refl done)))
  call-plain (calls.PollOpening id) n = in-any (named h None) _ (λ s. opening-plain id (being_opened h id))
  call-plain (calls.MaxDatagramSize name) n = in-any (named h name) _ (λ s. still true _ [] done)
  call-plain (calls.SessionId name) n = in-any (named h name) _ (λ s. still true _ [] done)
  call-plain (calls.EndSession name) n = in-any (named h name) _ (λ s. acts true replies.Done _ [] (ending s (is_open h && is_living side h s)) done)
    where
      ending : (s : ℕ) (b : Bool) → list_any special (if b then session_finish h s ++ session_gone_actions side h (findings side h) s else []) ≡ false
      ending s true = none-append special (session_finish h s) (session_gone_actions side h (findings side h) s) (no-finish s) (no-gone (findings side h) s)
      ending s false = refl
  call-plain (calls.Close code reason) n = in-any (named h None) _ (λ s. acts true replies.Done (action_if (is_open h) (actions.Close code reason)) [] (none-if special (is_open h) (actions.Close code reason) refl) done)
  call-plain calls.Closed n = in-any (named h None) _ (λ s. still _ _ [] done)
  call-plain (calls.Write id bytes) n = half _ _ (writes-plain id _ (still _ _ _ (acts _ _ (send h id bytes) [] (no-send id bytes) done)))
  call-plain (calls.WriteAll id bytes) n = half _ _ (writes-plain id _ (acts _ _ (send h id bytes) _ (no-send id bytes) (acts true _ (send h id bytes) [] (no-send id bytes) done)))
  call-plain (calls.Finish id) n = half _ _ (acts _ _ (actions.Finish id ∷ []) _ refl (stopped-plain id (λ e. replies.WriteFailed e) replies.Finished))
  call-plain (calls.Stopped id) n = half _ _ (stopped-plain id (λ e. replies.StoppedBy e) (replies.StoppedBy writes.Closed))
  call-plain (calls.Priority id) n = half _ _ (still _ _ _ (still true _ [] done))
  call-plain (calls.SetPriority id p) n = half _ _ (still true _ [] done)
  call-plain (calls.ResetSend id code) n = half _ _ (still _ _ _ (acts true replies.Done (action_if (is_open h) (actions.ResetOut id code)) [] (none-if special (is_open h) (actions.ResetOut id code) refl) done))
  call-plain (calls.Read id size) n = half _ _ (still _ _ _ (still _ _ _ (still _ _ _ (acts-value _ _ [] _ refl (still _ _ [] done)))))
  call-plain (calls.ReadExact id size) n = half _ _ (still _ _ _ (still _ _ _ (acts-value _ _ [] _ refl (still _ _ [] done))))
  call-plain (calls.StopRecv id code) n = half _ _ (acts true replies.Done (action_if (is_open h) (actions.StopOut id code)) [] (none-if special (is_open h) (actions.StopOut id code) refl) done)
  call-plain (calls.Accept headers) n = poll-plain (Some (calls.Accept headers))
  call-plain calls.Forbidden n = poll-plain (Some calls.Forbidden)
  call-plain calls.NotFound n = poll-plain (Some calls.NotFound)
  call-plain calls.TooManyRequests n = poll-plain (Some calls.TooManyRequests)

-- ---- a moment

found-plain : (side : Side) (h : History) (found : List Finding) (f : Finding) → list_any special (actions_for side h found f) ≡ false
found-plain side h found (Classified id (verdicts.WebTransport session offset) false) = refl
found-plain side h found (Classified id (verdicts.Refused code) keeps) = no-gone side h found id
found-plain side h found (Classified id (verdicts.Request headers offset) false) = no-gone side h found id
found-plain side h found (SessionClosed session code reason true) = no-gone side h found session
found-plain side h found (SessionClosed session code reason false) = none-append special (session_finish h session) (session_gone_actions side h found session) (no-finish side h session) (no-gone side h found session)
found-plain side h found (Faulted code) = refl
found-plain side h found f = refl

all-plain : (side : Side) (h : History) (before new : List Finding) → list_any special (actions_for_all side h before new) ≡ false
all-plain side h before [] = refl
all-plain side h before (f ∷ later) =
    none-append special (actions_for side h before f) (actions_for_all side h (before ++ f ∷ []) later) (found-plain side h before f) (all-plain side h (before ++ f ∷ []) later)

pub moment-plain : (side : Side) (h : History) → list_any special (moment_actions side h) ≡ false
moment-plain side [] = refl
moment-plain side (p ∷ h) = by (is_open (p ∷ h))
  where
    others : List Action
    others = actions_for_all side (p ∷ h) (findings side h) (drop (length (findings side h)) (findings side (p ∷ h)))

    by : (b : Bool) → list_any special (if b then control_actions side (p ∷ h) ++ others else []) ≡ false
    by false = refl
    by true = none-append special (control_actions side (p ∷ h)) others (none-control special side (p ∷ h) refl (λ x. refl)) (all-plain side (p ∷ h) (findings side h) (drop (length (findings side h)) (findings side (p ∷ h))))

-- ---- an answer

-- the turn is such a call
abbrev pub special_turn : Turn → Bool
special_turn (turns.Call call) = special_call call
special_turn _ = false

own-plain : (side : Side) (h : History) (turn : Turn) → special_turn turn ≡ false → list_any special (own_answer side h turn).actions ≡ false
own-plain side h (turns.Call call) n = (call-plain side h call n).first
own-plain side h turn n = refl

pub next-plain : (side : Side) (h : History) (turn : Turn) → special_turn turn ≡ false → list_any special (next side h turn).actions ≡ false
next-plain side h turn n = any-next special (λ k x y. refl) side h turn ∙ ap (λ (b : Bool). b || list_any special (moment_actions side (with_pair h turn (own_answer side h turn)))) (own-plain side h turn n)
    ∙ moment-plain side (with_pair h turn (own_answer side h turn))

dials-special : (as_ : List Action) → list_any special as_ ≡ false → list_any dials as_ ≡ false
dials-special [] e = refl
dials-special (actions.Dial address name ∷ as_) e = absurd (cc e)
dials-special (actions.DatagramOut piece ∷ as_) e = absurd (cc e)
dials-special (actions.Opened id ∷ as_) e = dials-special as_ e
dials-special (actions.Send id piece ∷ as_) e = dials-special as_ e
dials-special (actions.Finish id ∷ as_) e = dials-special as_ e
dials-special (actions.ResetOut id code ∷ as_) e = dials-special as_ e
dials-special (actions.StopOut id code ∷ as_) e = dials-special as_ e
dials-special (actions.Close code reason ∷ as_) e = dials-special as_ e

-- ---- datagrams

-- the datagrams that an action sends
abbrev pub act_datagrams : Action → List (List ℕ)
act_datagrams (actions.DatagramOut piece) = piece ∷ []
act_datagrams _ = []

datagrams-special : (as_ : List Action) → list_any special as_ ≡ false → flat_map act_datagrams as_ ≡ []
datagrams-special [] e = refl
datagrams-special (actions.Dial address name ∷ as_) e = absurd (cc e)
datagrams-special (actions.DatagramOut piece ∷ as_) e = absurd (cc e)
datagrams-special (actions.Opened id ∷ as_) e = datagrams-special as_ e
datagrams-special (actions.Send id piece ∷ as_) e = datagrams-special as_ e
datagrams-special (actions.Finish id ∷ as_) e = datagrams-special as_ e
datagrams-special (actions.ResetOut id code ∷ as_) e = datagrams-special as_ e
datagrams-special (actions.StopOut id code ∷ as_) e = datagrams-special as_ e
datagrams-special (actions.Close code reason ∷ as_) e = datagrams-special as_ e

-- what an answer sends
pub data SendsDatagrams (h : History) (turn : Turn) (a : Answer) : Type 0 where
  SendsNone : flat_map act_datagrams a.actions ≡ [] → SendsDatagrams h turn a
  SendsOne : (payload : List ℕ) (name : Option ℕ) (s : ℕ) → turn ≡ turns.Call (calls.SendDatagram payload name) → a.reply ≡ replies.Done → named h name ≡ Some s
      → flat_map act_datagrams a.actions ≡ datagram_bytes (s / 4) payload ∷ [] → SendsDatagrams h turn a

sends-rows : (side : Side) (h : History) (payload : List ℕ) (name : Option ℕ) → OfRows (λ (a : Answer). SendsDatagrams h (turns.Call (calls.SendDatagram payload name)) a × (list_any dials a.actions ≡ false)) (rows_of side h (calls.SendDatagram payload name))
sends-rows side h payload name =
    by-session Good (named h name) (send_datagram side h payload) (SendsNone refl, refl)
    (λ s q. by-row Good _ _ [] _ (λ x. (SendsNone refl, refl)) (λ x. by-value Good _ _ [] _ (λ y z. (SendsNone refl, refl))
    (λ z. by-row Good true replies.Done (actions.DatagramOut (datagram_bytes (s / 4) payload) ∷ []) [] (λ y. (SendsOne payload name s refl refl q refl, refl)) (λ y. absurd (cc y)))))
  where
    Good : Answer → Type 0
    Good a = SendsDatagrams h (turns.Call (calls.SendDatagram payload name)) a × (list_any dials a.actions ≡ false)

begin-none : (t : Result Target ConnectingError) → flat_map act_datagrams (first_row (begin_rows t)).actions ≡ []
begin-none (Err e) = refl
begin-none (Ok t) = refl

data Which : Call → Type 0 where
  AConnect : (c : Call) → is_connect c ≡ true → Which c
  ASend : (payload : List ℕ) (name : Option ℕ) → Which (calls.SendDatagram payload name)
  APlain : (c : Call) → special_call c ≡ false → Which c

which : (call : Call) → Which call
which (calls.Connect options lookup outcome) = AConnect (calls.Connect options lookup outcome) refl
which (calls.SendDatagram payload name) = ASend payload name
which call = APlain call refl

connect-none : (side : Side) (h : History) (c : Call) → is_connect c ≡ true → flat_map act_datagrams (own_answer side h (turns.Call c)).actions ≡ []
connect-none side h (calls.Connect options lookup outcome) e = begin-none _
connect-none side h c e = absurd (cc e)

connect-not : (h : History) (c : Call) → is_connect c ≡ true → is_lawful Server h (turns.Call c) ≡ true → ⊥
connect-not h (calls.Connect options lookup outcome) e l = cc l
connect-not h c e l = cc e

own-datagrams : (side : Side) (h : History) (turn : Turn) → SendsDatagrams h turn (own_answer side h turn)
own-datagrams side h (turns.Call call) = by call (which call)
  where
    by : (c : Call) → Which c → SendsDatagrams h (turns.Call c) (own_answer side h (turns.Call c))
    by c (AConnect d e) = SendsNone (connect-none side h c e)
    by c (ASend payload name) = (sends-rows side h payload name).first.0
    by c (APlain d n) = SendsNone (datagrams-special (own_answer side h (turns.Call c)).actions (own-plain side h (turns.Call c) n))
own-datagrams side h turn = SendsNone refl

pub next-datagrams : (side : Side) (h : History) (turn : Turn) → SendsDatagrams h turn (next side h turn)
next-datagrams side h turn = by (own-datagrams side h turn)
  where
    moment : List Action
    moment = moment_actions side (with_pair h turn (own_answer side h turn))

    all : flat_map act_datagrams (next side h turn).actions ≡ flat_map act_datagrams (own_answer side h turn).actions
    all =
        view-join act_datagrams (λ i p q. refl) [] ((own_answer side h turn).actions ++ moment) ∙ flat_map-append act_datagrams (own_answer side h turn).actions moment
        ∙ ap (λ (l : List (List ℕ)). flat_map act_datagrams (own_answer side h turn).actions ++ l) (datagrams-special moment (moment-plain side (with_pair h turn (own_answer side h turn)))) ∙ append-nil (flat_map act_datagrams (own_answer side h turn).actions)

    by : SendsDatagrams h turn (own_answer side h turn) → SendsDatagrams h turn (next side h turn)
    by (SendsNone e) = SendsNone (all ∙ e)
    by (SendsOne payload name s t r q e) = SendsOne payload name s t r q (all ∙ e)

-- ---- dials

-- a server dials nothing
pub server-dials-not : (h : History) (turn : Turn) → is_lawful Server h turn ≡ true → list_any dials (next Server h turn).actions ≡ false
server-dials-not h turn l =
    any-next dials (λ k x y. refl) Server h turn ∙ ap (λ (b : Bool). b || list_any dials (moment_actions Server (with_pair h turn (own_answer Server h turn)))) (own turn l)
    ∙ dials-special (moment_actions Server (with_pair h turn (own_answer Server h turn))) (moment-plain Server (with_pair h turn (own_answer Server h turn)))
  where
    by : (c : Call) → Which c → is_lawful Server h (turns.Call c) ≡ true → list_any dials (own_answer Server h (turns.Call c)).actions ≡ false
    by c (AConnect d e) m = absurd (connect-not h c e m)
    by c (ASend payload name) m = (sends-rows Server h payload name).first.1
    by c (APlain d n) m = dials-special (own_answer Server h (turns.Call c)).actions (own-plain Server h (turns.Call c) n)

    own : (t : Turn) → is_lawful Server h t ≡ true → list_any dials (own_answer Server h t).actions ≡ false
    own (turns.Call call) m = by call (which call) m
    own t m = refl

-- ---- a turn of many bytes

bytes-plain : (side : Side) (k : ℕ) (piece : List ℕ) (h : History) → list_any special (bytes_actions side h k piece) ≡ false
bytes-plain side k [] h = refl
bytes-plain side k (b ∷ piece) h =
    any-join_all special (λ i p q. refl) (next side h (turns.Bytes k (b ∷ []))).actions (bytes_actions side (step side h (turns.Bytes k (b ∷ []))) k piece)
    ∙ ap (λ (x : Bool). x || list_any special (bytes_actions side (step side h (turns.Bytes k (b ∷ []))) k piece)) (next-plain side h (turns.Bytes k (b ∷ [])) refl)
    ∙ bytes-plain side k piece (step side h (turns.Bytes k (b ∷ [])))

-- a server dials nothing, and what a client dialled stays
pub answer-dials-not : (h : History) (turn : Turn) → is_lawful Server h turn ≡ true → list_any dials (answer_to Server h turn).actions ≡ false
answer-dials-not h (turns.Bytes id piece) l = dials-special (bytes_actions Server h id piece) (bytes-plain Server id piece h)
answer-dials-not h turn l = server-dials-not h turn l

pub dialled-after : (e : Side) (h : History) (turn : Turn) → list_any dials (answer_to e h turn).actions ≡ true → has_dialled (actions_out (history_after e h turn)) ≡ true
dialled-after e h (turns.Bytes id piece) d = absurd (clash (list_any dials (bytes_actions e h id piece)) d (dials-special (bytes_actions e h id piece) (bytes-plain e id piece h)))
dialled-after e h turn d = any-newest dials (next e h turn).actions (actions_out h) ∙ ap (λ (x : Bool). x || list_any dials (actions_out h)) d

-- the datagrams of a turn of many bytes
pub bytes-datagrams : (side : Side) (k : ℕ) (piece : List ℕ) (h : History) → flat_map act_datagrams (bytes_actions side h k piece) ≡ []
bytes-datagrams side k piece h = datagrams-special (bytes_actions side h k piece) (bytes-plain side k piece h)
