-- A session that may begin, by what was called and what came: the log has all that the driver's tie asks of its beginning.
use Rattle.std.proofs.Common.{◌∙◌, ◌≡◌, ◌≤◌, Bool, List, Some, ap, false, length, refl, subst, sym, true, ℕ}
use Rattle.std.proofs.lemmas.Bool.{eqb-true, true≢false}
use Rattle.std.specs.List.{list_any}
use Rattle.std.specs.Prelude.{◌&&◌, ◌==◌, not}
use Rattle.wt_driver_laws.proofs.Reach.{reached_holds}
use Rattle.wt_driver_laws.proofs.ReachRequests.{client_has_none_gone, delivered_held, header_stays, held_few, held_on_sessions, unbegun_remains}
use Rattle.wt_driver_laws.specs.Driving.{IsReachable, IsWithin}
use Rattle.wt_driver_laws.specs.Handing.{MayBegin, MayWrite}
use Rattle.wt_follows.proofs.Begins.{RequestBegins, ResponseBegins, SessionBegins, header-sent, none-established}
use Rattle.wt_follows.proofs.Known.{table-sent}
use Rattle.wt_follows.proofs.Lists.{any-filter, none-left, refuted}
use Rattle.wt_follows.proofs.Logs.{calls-kept}
use Rattle.wt_follows.proofs.OnceClassified.{IsRequestOf, held-request}
use Rattle.wt_follows.proofs.SentFollows.{state-sent}
use Rattle.wt_follows.specs.Roles.{is_in, is_living}
use Rattle.wt_follows.specs.Tie.{goes_on_at}
use Rattle.wt_meaning.specs.Lawful.{is_client}
use Rattle.wt_proto.specs.ResponseWalk.{response_walk_of}
use Rattle.wt_turn.specs.Reports.{end_of}
use Rattle.wt_turn.specs.Streams.{contents}
use Rattle.wt_sessions.specs.Driver.{call_view, delivers, dispatched, ends_session, is_session_gone, sessions_of, still_sends, stream_table}
use Rattle.wt_sessions.specs.DriverState.{DriverState, state_of}
use Rattle.wt_sessions.specs.Handshake.{request_end}
use Rattle.wt_sessions.specs.StreamTable.{Dispatched, Session, StreamTable, is_session, verdict_of, was_established}
use Rattle.wt_turn.specs.Log.{CallRecord, Log, calls_of, events_of, is_open, with_actions}
use Rattle.wt_turn.specs.declared.action.Action.{Action}
use Rattle.wt_wire.specs.declared.side.Side.{Side}

dispatched-is : (side : Side) (log : Log) → (state_of side log).dispatched ≡ dispatched side log
unfolding state_of
dispatched-is side log = refl

-- a session that lives was established, and isn't gone
lives-established : (side : Side) (log : Log) (j : ℕ) → is_living (state_of side log) j ≡ true → was_established (call_view log) j ≡ true
unfolding state_of
lives-established side log j e = any-filter (λ (x : Session). x.id == j) (λ (x : Session). not (is_session_gone side log x.id)) (call_view log).sessions e

lives-ungone : (side : Side) (log : Log) (j : ℕ) → is_living (state_of side log) j ≡ true → is_session_gone side log j ≡ false
unfolding state_of
lives-ungone side log j e = refuted (is_session_gone side log j) (λ g. true≢false (sym e ∙ none-left (λ (x : Session). x.id == j) (λ (x : Session). not (is_session_gone side log x.id))
    (λ x f. ap (λ i. not (is_session_gone side log i)) (eqb-true x.id j f) ∙ ap not g) (call_view log).sessions))

-- of a log of lawful turns, and what a call that goes on sent since
module _ (side : Side) (before : Log) (own : List Action) (r : IsReachable side before) (k offset : ℕ) (opened : is_open (with_actions own before) ≡ true) where
  abbrev g : Log
  g = with_actions own before

  abbrev s : DriverState
  s = state_of side before

  same-calls : calls_of g ≡ calls_of before
  same-calls = calls-kept own before

  sends : MayWrite side g k → still_sends side g k ≡ true
  sends w = λ i. w.can i && not (w.finished opened i) && not (w.reset opened i)

  -- ---- a server's

  module _ (server : is_client side ≡ false) (b : MayBegin false side g k offset) where
    delivered : (call_view before).delivered k ≡ true
    delivered = ap (λ (rs : List CallRecord). list_any (delivers k) rs) (sym same-calls) ∙ b.0

    unestablished : was_established (call_view before) k ≡ false
    unestablished = ap (λ (rs : List CallRecord). list_any (is_session k) (sessions_of rs)) (sym same-calls) ∙ b.1

    remains : is_session_gone side before k ≡ false
    remains = unbegun_remains side before r k delivered unestablished (ap (λ (rs : List CallRecord). list_any (ends_session k) rs) (sym same-calls) ∙ b.2)

    held : is_in k (dispatched side before).held ≡ true
    held = delivered_held side before r k delivered remains

    request : IsRequestOf k (stream_table side before).classified
    request = held-request side before k (ap (λ (d : Dispatched). is_in k d.held) (dispatched-is side before) ∙ held)

    offset-is : offset ≡ request.offset
    offset-is = b.3 ∙ ap request_end (ap (λ (t : StreamTable). verdict_of k t.classified) (table-sent side own before) ∙ request.verdict)

    living : (j : ℕ) → is_living s j ≡ true → is_in j (dispatched side before).held ≡ true
    living j e = delivered_held side before r j (by ((call_view before).delivered j) refl) (lives-ungone side before j e)
      where
        by : (c : Bool) → (call_view before).delivered j ≡ c → (call_view before).delivered j ≡ true
        by true f = f
        by false f = absurd (true≢false (sym (lives-established side before j e) ∙ (reached_holds side before r).given server j f))

    pub request-begins : RequestBegins side (with_actions own before) k offset
    request-begins = let same = state-sent side own before in record {
      is_session = held_on_sessions side before r server k held;
      held = ap (λ (z : DriverState). is_in k z.dispatched.held) same ∙ (ap (λ (d : Dispatched). is_in k d.held) (dispatched-is side before) ∙ held);
      remains = ap (λ (z : DriverState). z.dispatched.is_gone k) same ∙ (ap (λ (d : Dispatched). d.is_gone k) (dispatched-is side before) ∙ remains);
      unestablished = ap (λ (z : DriverState). z.dispatched.is_established k) same ∙ (ap (λ (d : Dispatched). d.is_established k) (dispatched-is side before) ∙ unestablished);
      header = ap goes_on_at (header-sent own before k) ∙ (ap goes_on_at (header_stays side before r k _ request.verdict) ∙ ap Some (sym offset-is));
      sends = sends b.4;
      few = subst (λ n. n ≤ 4) (sym (ap (λ (z : DriverState). length z.dispatched.held) same ∙ ap (λ (d : Dispatched). length d.held) (dispatched-is side before))) (held_few side before r);
      living = λ j e. ap (λ (z : DriverState). is_in j z.dispatched.held) same
          ∙ (ap (λ (d : Dispatched). is_in j d.held) (dispatched-is side before) ∙ living j (sym (ap (λ (z : DriverState). is_living z j) same) ∙ e));
    }

  -- ---- a client's

  pub response-begins : is_client side ≡ true → MayBegin true side (with_actions own before) k offset → ResponseBegins side (with_actions own before) k offset
  response-begins client b = let same = state-sent side own before in record {
    its = b.0;
    before = none-established side g b.1;
    remain = λ j e. ap (λ (z : DriverState). z.dispatched.is_gone j) same ∙ (ap (λ (d : Dispatched). d.is_gone j) (dispatched-is side before)
        ∙ client_has_none_gone side before r client (ap sessions_of (sym same-calls) ∙ b.1) j e);
    fields = b.2.0;
    said = ap (λ j. response_walk_of (contents g j) (end_of (events_of g) j)) (sym b.0) ∙ b.2.1;
    sends = sends b.3;
  }

-- where a session may begin, its beginning has what the tie asks
pub register_begins : (side : Side) (log : Log) (k offset : ℕ) → IsWithin side log → is_open log ≡ true → MayBegin (is_client side) side log k offset → SessionBegins (is_client side) side log k offset
register_begins side log k offset w = subst (λ (l : Log). is_open l ≡ true → MayBegin (is_client side) side l k offset → SessionBegins (is_client side) side l k offset) (sym w.is) (λ o b. by o (is_client side) refl b)
  where
    by : is_open (with_actions w.own w.before) ≡ true → (c : Bool) → is_client side ≡ c → MayBegin c side (with_actions w.own w.before) k offset → SessionBegins c side (with_actions w.own w.before) k offset
    by o true e b = response-begins side w.before w.own w.reached k offset o e b
    by o false e b = request-begins side w.before w.own w.reached k offset o e b
