-- The calls on a session: what its driver gives or says, as the definitions have it.
use Rattle.std.proofs.Common.{◌∙◌, ap, refl, subst, sym}
use Rattle.std.proofs.lemmas.Bool.{le-ltb, ltb-false, true≢false}
use Rattle.std.specs.List.{list_any}
use Rattle.std.specs.Prelude.{[], ◌&&◌, ◌∷◌, ◌-◌, ◌||◌, ◌≡◌, ◌≤◌, Bool, List, None, Option, Some, SomeIff, false, find, if◌then◌else◌, nat_lt, not, true, ℕ}
use Rattle.wt_driver_laws.specs.Calling.{Did, log_record}
use Rattle.wt_driver_laws.specs.Driving.{Follows, IsReachable, IsWithin}
use Rattle.wt_kept.specs.Kept.{DriverNow}
use Rattle.wt_driver_laws.specs.Ends.{connection_end, end_by, end_of_session, session_end}
use Rattle.wt_driver_laws.specs.Giving.{GivesDatagram, GivesStream, HasNoDatagram, HasNoStream, MayNotOpen, OpensNoStream, OpensStream}
use Rattle.wt_driver_laws.specs.Having.{HasSession, OpeningStream}
use Rattle.wt_driver_laws.specs.Records.{is_unnoticed}
use Rattle.wt_session.specs.Errors.{reported_error}
use Rattle.wt_session.specs.Replies.{HasAny}
use Rattle.wt_turn.specs.Outgoing.{actions_to_open, if_open, may_open, next_id}
use Rattle.wt_turn.specs.Reports.{datagram_fact}
use Rattle.wt_turn.specs.Streams.{local_bi, local_uni, peer_bi, peer_uni}
use Rattle.wt_sessions.specs.Answers.{call_effect, in_session, named_session}
use Rattle.wt_sessions.specs.Connection.{accept_stream, close_connection, closed_reply, give_datagram, give_stream, open_stream, payload_limit, receive_datagram}
use Rattle.wt_sessions.specs.Driver.{call_view, is_session_gone, stream_table}
use Rattle.wt_sessions.specs.Effect.{Effect, error_of_session, log_call, pending_or_failed, poll_only, reply_with, session_error, transport_error}
use Rattle.wt_sessions.specs.StreamTable.{Admitted, Closed, Waiting, is_closed, was_established}
use Rattle.wt_turn.specs.Log.{CallRecord, Log, OpeningStarted, Polled, events_of, is_open, with_actions}
use Rattle.wt_turn.specs.declared.action.Action.{Action}
use Rattle.wt_turn.specs.declared.action.Action.TheVariants as actions
use Rattle.wt_turn.specs.declared.call.Call.TheVariants as calls
use Rattle.wt_turn.specs.declared.driver_error.DriverError.{DriverError}
use Rattle.wt_turn.specs.declared.driver_error.DriverError.TheVariants as errors
use Rattle.wt_turn.specs.declared.reply.Reply.{Reply}
use Rattle.wt_turn.specs.declared.reply.Reply.TheVariants as replies
use Rattle.wt_wire.specs.declared.error.ErrorCode.{ErrorCode}
use Rattle.wt_wire.specs.declared.side.Side.{Side}

-- a reachable log is one in the middle of a call that sent nothing
pub within : (side : Side) (log : Log) → IsReachable side log → IsWithin side log
within side log r = record { before = log; own = []; reached = r; is = refl }

-- and so is one with actions more
pub later-within : (side : Side) (log : Log) (own : List Action) → IsReachable side log → IsWithin side (with_actions own log)
later-within side log own r = record { before = log; own = own; reached = r; is = refl }

-- a driver follows the log after records that it needn't be told
abbrev pub Rests : DriverNow → Type 0
Rests d = (r : CallRecord) → is_unnoticed r ≡ true → (side : Side) (log : Log) (collected : ℕ) → Follows side d log collected → IsWithin side log → Follows side d (log_record side log [] r) collected

-- ---- how it ended

found-any : (P : Closed → Bool) (xs : List Closed) (x : Closed) → find P xs ≡ Some x → list_any P xs ≡ true
found-any P [] x e = absurd cc
found-any P (y ∷ ys) x e = by (found-any P ys x) (P y) e
  where
    by : (find P ys ≡ Some x → list_any P ys ≡ true) → (b : Bool) → (if b then Some y else find P ys) ≡ Some x → (b || list_any P ys) ≡ true
    by later true h = refl
    by later false h = later h

or-later : (a b c : Bool) → b ≡ true → (a || (b || c)) ≡ true
or-later true b c e = refl
or-later false true c e = refl
or-later false false c e = absurd cc

established : (b : Bool) (s : ℕ) → (if b then Some s else None) ≡ Some s → b ≡ true
established true s e = refl
established false s e = absurd cc

-- what a limit leaves
pub limit-is : (o : Option ℕ) (limit header size : ℕ) → header ≡ size → SomeIff o (header ≤ limit) (limit - header) → o ≡ (if nat_lt limit size then None else Some (limit - size))
limit-is (Some x) limit header size e h =
    let b : nat_lt limit size ≡ false = le-ltb limit size (subst (λ (n : ℕ). n ≤ limit) e h.0) in
    rw b (ap Some h.1 ∙ ap (λ (n : ℕ). Some (limit - n)) e)
limit-is None limit header size e h = by (nat_lt limit size) refl
  where
    by : (b : Bool) → nat_lt limit size ≡ b → None ≡ (if b then None else Some (limit - size))
    by true f = refl
    by false f = absurd (h (subst (λ (n : ℕ). n ≤ limit) (sym e) (ltb-false limit size f)))

module _ (side : Side) (log : Log) (s : ℕ) where
  abbrev gone : Bool
  gone = is_session_gone side log s

  abbrev closed : Option Closed
  closed = find (is_closed s) (stream_table side log).closed

  closed-gone : (c : Closed) → closed ≡ Some c → gone ≡ true
  closed-gone c e = or-later ((call_view log).ended s) (list_any (is_closed s) (stream_table side log).closed) _ (found-any (is_closed s) (stream_table side log).closed c e)

  -- what a call says for which nothing is left
  abbrev pub Says : Option DriverError → Reply → Type 0
  Says None answer = answer ≡ replies.Pending
  Says (Some e) answer = answer ≡ replies.Failed (reported_error side log s e)

  said-by : (o g : Bool) (c : Option Closed) (f : Option ErrorCode) (said : Option DriverError) (answer : Reply) → gone ≡ g → ((x : Closed) → c ≡ Some x → g ≡ true) → (stream_table side log).progress.fault ≡ f
      → end_of_session (if o then None else Some (end_by f)) g c ≡ said → Says said answer
      → answer ≡ (if o && (true && not g) then replies.Pending else replies.Failed (error_of_session side log g c))
  said-by o true (Some x) f None answer eg cg ef e is = absurd cc
  said-by o false (Some x) f said answer eg cg ef e is = absurd (true≢false (sym (cg x refl)))
  said-by true true (Some x) f (Some y) answer eg cg ef e is = is ∙ ap (λ z. replies.Failed (reported_error side log s z)) (let same : y ≡ errors.ApplicationClosed (record { code = x.code; reason = x.reason }) = cc in same)
  said-by false true (Some x) f (Some y) answer eg cg ef e is = is ∙ ap (λ z. replies.Failed (reported_error side log s z)) (let same : y ≡ errors.ApplicationClosed (record { code = x.code; reason = x.reason }) = cc in same)
  said-by o true None f None answer eg cg ef e is = absurd cc
  said-by true true None f (Some y) answer eg cg ef e is = is ∙ ap (λ z. replies.Failed (reported_error side log s z)) (let same : y ≡ errors.NotConnected = cc in same) ∙ rw eg refl
  said-by false true None f (Some y) answer eg cg ef e is = is ∙ ap (λ z. replies.Failed (reported_error side log s z)) (let same : y ≡ errors.NotConnected = cc in same) ∙ rw eg refl
  said-by true false None f None answer eg cg ef e is = is
  said-by true false None f (Some y) answer eg cg ef e is = absurd cc
  said-by false false None f None answer eg cg ef e is = absurd cc
  said-by false false None None (Some y) answer eg cg ef e is =
      is ∙ ap (λ z. replies.Failed (reported_error side log s z)) (let same : y ≡ errors.NotConnected = cc in same) ∙ rw (eg, ef) refl
  said-by false false None (Some code) (Some y) answer eg cg ef e is =
      is ∙ ap (λ z. replies.Failed (reported_error side log s z)) (let same : y ≡ errors.Proto code = cc in same) ∙ rw ef refl

  said : (end : Option DriverError) (answer : Reply) → HasSession s side log → session_end side log s ≡ end → Says end answer → answer ≡ pending_or_failed side log s
  said end answer has e is =
      said-by (is_open log) gone closed (stream_table side log).progress.fault end answer refl (λ x h. closed-gone x h) refl e is
      ∙ ap (λ b. if is_open log && (b && not gone) then replies.Pending else replies.Failed (error_of_session side log gone closed)) (sym (established (was_established (call_view log) s) s has))

  -- ---- a call on the session

  on-session : (P : Effect → Type 0) (call : ℕ → Effect) → HasSession s side log → P (call s) → P (in_session side log call (named_session log (Some s)))
  on-session P call has p = subst (λ (o : Option ℕ). P (in_session side log call o)) (sym has) p

  -- a session that is gone has ended
  gone-ends : gone ≡ true → session_end side log s ≡ None → ⊥
  gone-ends eg e = by gone closed eg e
    where
      by : (b : Bool) (c : Option Closed) → b ≡ true → end_of_session (connection_end side log) b c ≡ None → ⊥
      by b (Some x) h e = cc
      by true None h e = cc
      by false None h e = cc

  pending-fails : gone ≡ true → pending_or_failed side log s ≡ replies.Failed (session_error side log s)
  pending-fails eg = by (is_open log) (was_established (call_view log) s) gone eg
    where
      by : (a b g : Bool) → g ≡ true → (if a && (b && not g) then replies.Pending else replies.Failed (session_error side log s)) ≡ replies.Failed (session_error side log s)
      by true true true h = refl
      by true false true h = refl
      by false b true h = refl
      by a b false h = absurd cc

  -- an opening by whether the session is gone, the connection is open, and one more stream is allowed
  abbrev opening-by : ℕ → Bool → Bool → Bool → Effect
  opening-by kind g o may =
      if g then poll_only side log (replies.Failed (session_error side log s)) else
      (if not o then poll_only side log (replies.Failed (transport_error log)) else
      (if may then reply_with (log_call side log (actions_to_open side log kind) (OpeningStarted (next_id side log kind) s)) (replies.Opening (next_id side log kind))
      else poll_only side log replies.Pending))

  module _ (collected : ℕ) (later : DriverNow) where
    -- a poll that changes nothing
    polled : (d : DriverNow) (answer : Reply) → IsReachable side log → Rests later → Follows side d log collected → later ≡ d → Did side later collected answer (poll_only side log answer)
    polled d answer r rests f same = record { reply = refl; log = rests Polled refl side log collected (subst (λ (x : DriverNow). Follows side x log collected) (sym same) f) (within side log r) }

    -- nothing is left
    left-out : (end : Option DriverError) (answer : Reply) → HasSession s side log → IsReachable side log → Rests later → Follows side later log collected
        → session_end side log s ≡ end → Says end answer → Did side later collected answer (poll_only side log (pending_or_failed side log s))
    left-out end answer has r rests f e is = record { reply = said end answer has e is; log = rests Polled refl side log collected f (within side log r) }

    given : (kind : ℕ) (reply : ℕ → Reply) (id : ℕ) → HasSession s side log → GivesStream kind side log collected s later id
        → Did side later collected (reply id) (in_session side log (accept_stream side reply kind log) (named_session log (Some s)))
    given kind reply id has g =
        on-session (Did side later collected (reply id)) (accept_stream side reply kind log) has
        (subst (λ (o : Option Waiting). Did side later collected (reply id) (give_stream side reply log s o)) (sym g.next)
        (record { reply = ap reply (sym g.is); log = g.follows }))

    none : (kind : ℕ) (reply : ℕ → Reply) (d : DriverNow) (end : Option DriverError) (answer : Reply) → HasSession s side log → IsReachable side log → Rests later → Follows side d log collected
        → HasNoStream kind side log s d later end → Says end answer → Did side later collected answer (in_session side log (accept_stream side reply kind log) (named_session log (Some s)))
    none kind reply d end answer has r rests f n is =
        on-session (Did side later collected answer) (accept_stream side reply kind log) has
        (subst (λ (o : Option Waiting). Did side later collected answer (give_stream side reply log s o)) (sym n.none)
        (left-out end answer has r rests (subst (λ (x : DriverNow). Follows side x log collected) (sym n.nothing.same) f) n.nothing.says is))

    pub uni-given : (id : ℕ) → HasSession s side log → GivesStream (peer_uni side) side log collected s later id
        → Did side later collected (replies.Uni id) (call_effect side log (calls.AcceptUni (Some s)))
    unfolding call_effect
    uni-given id has g = given (peer_uni side) replies.Uni id has g

    pub uni-none : (d : DriverNow) (end : Option DriverError) (answer : Reply) → HasSession s side log → IsReachable side log → Rests later → Follows side d log collected
        → HasNoStream (peer_uni side) side log s d later end → Says end answer → Did side later collected answer (call_effect side log (calls.AcceptUni (Some s)))
    unfolding call_effect
    uni-none d end answer has r rests f n is = none (peer_uni side) replies.Uni d end answer has r rests f n is

    pub bi-given : (id : ℕ) → HasSession s side log → GivesStream (peer_bi side) side log collected s later id
        → Did side later collected (replies.Bi id) (call_effect side log (calls.AcceptBi (Some s)))
    unfolding call_effect
    bi-given id has g = given (peer_bi side) replies.Bi id has g

    pub bi-none : (d : DriverNow) (end : Option DriverError) (answer : Reply) → HasSession s side log → IsReachable side log → Rests later → Follows side d log collected
        → HasNoStream (peer_bi side) side log s d later end → Says end answer → Did side later collected answer (call_effect side log (calls.AcceptBi (Some s)))
    unfolding call_effect
    bi-none d end answer has r rests f n is = none (peer_bi side) replies.Bi d end answer has r rests f n is

    pub datagram-given : (payload : List ℕ) → HasSession s side log → GivesDatagram side log collected s later payload
        → Did side later collected (replies.Datagram payload) (call_effect side log (calls.ReceiveDatagram (Some s)))
    unfolding call_effect
    datagram-given payload has g =
        on-session (Did side later collected (replies.Datagram payload)) (receive_datagram side log) has
        (subst (λ (o : Option Admitted). Did side later collected (replies.Datagram payload) (give_datagram side log s o)) (sym g.next)
        (record { reply = ap replies.Datagram (sym g.is); log = g.follows }))

    pub datagram-none : (d : DriverNow) (end : Option DriverError) (answer : Reply) → HasSession s side log → IsReachable side log → Rests later → Follows side d log collected
        → HasNoDatagram side log s d later end → Says end answer → Did side later collected answer (call_effect side log (calls.ReceiveDatagram (Some s)))
    unfolding call_effect
    datagram-none d end answer has r rests f n is =
        on-session (Did side later collected answer) (receive_datagram side log) has
        (subst (λ (o : Option Admitted). Did side later collected answer (give_datagram side log s o)) (sym n.none)
        (left-out end answer has r rests (subst (λ (x : DriverNow). Follows side x log collected) (sym n.nothing.same) f) n.nothing.says is))

    -- ---- openings

    opened : (kind : ℕ) (o : OpeningStream) → HasSession s side log → OpensStream kind side log collected s later o
        → Did side later collected (replies.Opening o.id) (in_session side log (open_stream side log kind) (named_session log (Some s)))
    opened kind o has g = on-session (Did side later collected (replies.Opening o.id)) (open_stream side log kind) has (by gone (is_open log) refl g.goes_on)
      where
        by : (b c : Bool) → gone ≡ b → (if b then session_end side log s else (if c then None else Some errors.NotConnected)) ≡ None
            → Did side later collected (replies.Opening o.id) (opening-by kind b c (may_open side log kind))
        by false true eg e =
            subst (λ (may : Bool). Did side later collected (replies.Opening o.id) (opening-by kind false true may)) (sym g.may)
            (record { reply = ap (λ (x : OpeningStream). replies.Opening x.id) g.is; log = g.follows })
        by false false eg e = absurd cc
        by true c eg e = absurd (gone-ends eg e)

    waits : (kind : ℕ) (d : DriverNow) → HasSession s side log → IsReachable side log → Rests later → Follows side d log collected → MayNotOpen kind side log s d later
        → Did side later collected replies.Pending (in_session side log (open_stream side log kind) (named_session log (Some s)))
    waits kind d has r rests f g = on-session (Did side later collected replies.Pending) (open_stream side log kind) has (by gone (is_open log) refl g.goes_on)
      where
        by : (b c : Bool) → gone ≡ b → (if b then session_end side log s else (if c then None else Some errors.NotConnected)) ≡ None
            → Did side later collected replies.Pending (opening-by kind b c (may_open side log kind))
        by false true eg e = subst (λ (may : Bool). Did side later collected replies.Pending (opening-by kind false true may)) (sym g.may) (polled d replies.Pending r rests f g.same)
        by false false eg e = absurd cc
        by true c eg e = absurd (gone-ends eg e)

    refused : (kind : ℕ) (d : DriverNow) (e : DriverError) (answer : Reply) → HasSession s side log → IsReachable side log → Rests later → Follows side d log collected
        → OpensNoStream side log s d later e → answer ≡ replies.Failed (reported_error side log s e)
        → Did side later collected answer (in_session side log (open_stream side log kind) (named_session log (Some s)))
    refused kind d e answer has r rests f g is = on-session (Did side later collected answer) (open_stream side log kind) has (by gone (is_open log) refl refl g.ended)
      where
        by : (b c : Bool) → gone ≡ b → is_open log ≡ c → (if b then session_end side log s else (if c then None else Some errors.NotConnected)) ≡ Some e
            → Did side later collected answer (opening-by kind b c (may_open side log kind))
        by true c eg eo h = subst (λ (x : Reply). Did side later collected answer (poll_only side log x)) (pending-fails eg) (left-out (Some e) answer has r rests (subst (λ (x : DriverNow). Follows side x log collected) (sym g.same) f) h is)
        by false true eg eo h = absurd cc
        by false false eg eo h =
            subst (λ (x : Reply). Did side later collected x (poll_only side log (replies.Failed (transport_error log))))
            (sym (is ∙ ap (λ (x : DriverError). replies.Failed (reported_error side log s x)) (let same : e ≡ errors.NotConnected = cc in same) ∙ rw eg refl))
            (polled d (replies.Failed (transport_error log)) r rests f g.same)

    pub uni-opened : (o : OpeningStream) → HasSession s side log → OpensStream (local_uni side) side log collected s later o
        → Did side later collected (replies.Opening o.id) (call_effect side log (calls.OpenUni (Some s)))
    unfolding call_effect
    uni-opened o has g = opened (local_uni side) o has g

    pub uni-waits : (d : DriverNow) → HasSession s side log → IsReachable side log → Rests later → Follows side d log collected → MayNotOpen (local_uni side) side log s d later
        → Did side later collected replies.Pending (call_effect side log (calls.OpenUni (Some s)))
    unfolding call_effect
    uni-waits d has r rests f g = waits (local_uni side) d has r rests f g

    pub uni-refused : (d : DriverNow) (e : DriverError) (answer : Reply) → HasSession s side log → IsReachable side log → Rests later → Follows side d log collected
        → OpensNoStream side log s d later e → answer ≡ replies.Failed (reported_error side log s e) → Did side later collected answer (call_effect side log (calls.OpenUni (Some s)))
    unfolding call_effect
    uni-refused d e answer has r rests f g is = refused (local_uni side) d e answer has r rests f g is

    pub bi-opened : (o : OpeningStream) → HasSession s side log → OpensStream (local_bi side) side log collected s later o
        → Did side later collected (replies.Opening o.id) (call_effect side log (calls.OpenBi (Some s)))
    unfolding call_effect
    bi-opened o has g = opened (local_bi side) o has g

    pub bi-waits : (d : DriverNow) → HasSession s side log → IsReachable side log → Rests later → Follows side d log collected → MayNotOpen (local_bi side) side log s d later
        → Did side later collected replies.Pending (call_effect side log (calls.OpenBi (Some s)))
    unfolding call_effect
    bi-waits d has r rests f g = waits (local_bi side) d has r rests f g

    pub bi-refused : (d : DriverNow) (e : DriverError) (answer : Reply) → HasSession s side log → IsReachable side log → Rests later → Follows side d log collected
        → OpensNoStream side log s d later e → answer ≡ replies.Failed (reported_error side log s e) → Did side later collected answer (call_effect side log (calls.OpenBi (Some s)))
    unfolding call_effect
    bi-refused d e answer has r rests f g is = refused (local_bi side) d e answer has r rests f g is

    -- ---- what is only asked

    -- a datagram's greatest payload
    pub size-says : (size : Option ℕ) → HasSession s side log → IsReachable side log → Rests later → Follows side later log collected → size ≡ payload_limit s (datagram_fact (events_of log))
        → Did side later collected (replies.Size size) (call_effect side log (calls.MaxDatagramSize (Some s)))
    unfolding call_effect
    size-says size has r rests f is =
        on-session (Did side later collected (replies.Size size)) (λ (x : ℕ). poll_only side log (replies.Size (payload_limit x (datagram_fact (events_of log))))) has
        (record { reply = ap replies.Size is; log = rests Polled refl side log collected f (within side log r) })

-- ---- calls that name no session

module _ (side : Side) (log : Log) (collected : ℕ) (later : DriverNow) where
  on-any : (P : Effect → Type 0) (call : ℕ → Effect) → HasAny side log → ((s : ℕ) → P (call s)) → P (in_session side log call (named_session log None))
  on-any P call has p = by (named_session log None) has
    where
      by : (o : Option ℕ) → (o ≡ None → ⊥) → P (in_session side log call o)
      by None h = absurd (h refl)
      by (Some s) h = p s

  pub close-does : (code : ℕ) (reason : List ℕ) → HasAny side log → Follows side later (log_record side (with_actions (if_open log (actions.Close code reason)) log) [] Polled) collected
      → Did side later collected replies.Done (call_effect side log (calls.Close code reason))
  unfolding call_effect
  close-does code reason has f = on-any (Did side later collected replies.Done) (λ (s : ℕ). close_connection side log code reason) has (λ s. record { reply = refl; log = f })

  pub closed-says : (answer : Reply) → HasAny side log → IsReachable side log → Rests later → Follows side later log collected → answer ≡ closed_reply log
      → Did side later collected answer (call_effect side log calls.Closed)
  unfolding call_effect
  closed-says answer has r rests f is =
      on-any (Did side later collected answer) (λ (s : ℕ). poll_only side log (closed_reply log)) has
      (λ s. record { reply = is; log = rests Polled refl side log collected f (within side log r) })
