-- A client's connect that goes on: its rows lead to what its ladder of steps does.
use Rattle.std.specs.Prelude.{[], ◌++◌, ◌==◌, ◌∷◌, ◌≡◌, Bool, List, None, Option, Some, drop, false, is_some, not, suc, true, zero, ℕ}
use Rattle.std.proofs.Common.{◌∙◌, ap, refl, sym}
use Rattle.std.proofs.lemmas.Bool.{eqb-true}
use Rattle.std.proofs.lemmas.List.{append-nil}
use Rattle.wt_meaning.specs.Findings.{settings_came, verdict_of}
use Rattle.wt_meaning.specs.Handshakes.{connect_rows, is_nothing, is_success, lacks_credit, request_rows, response_rows, send}
use Rattle.wt_meaning.specs.History.{History, contents, credit_left, events}
use Rattle.wt_meaning.specs.Moments.{findings}
use Rattle.wt_meaning.specs.Rows.{first_row}
use Rattle.wt_meaning.specs.Targets.{Target}
use Rattle.wt_proto.specs.ResponseWalk.{response_walk_of}
use Rattle.wt_proto.specs.declared.response_walk.ResponseWalk.{ResponseWalk}
use Rattle.wt_turn.specs.Joined.{send_of}
use Rattle.wt_turn.specs.Outgoing as outgoing
use Rattle.wt_turn.specs.Reports.{end_of, is_connected, stop_of}
use Rattle.wt_turn.specs.Streams.{local_count, one_more_if, peer_count, peer_opens}
use Rattle.wt_turn.specs.Streams as streams
use Rattle.wt_sessions.specs.Driver as drivers
use Rattle.wt_sessions.specs.Effect.{is_covered}
use Rattle.wt_sessions.specs.Effect as effects
use Rattle.wt_sessions.specs.Handshake as ladders
use Rattle.wt_sessions_agree.proofs.Basics.{and-false, take-none}
use Rattle.wt_sessions_agree.proofs.ConnectionRows.{covered-out, head-is, lacks-is, may-open, send-is}
use Rattle.wt_sessions_agree.proofs.WaitLaws.{driver-is, transport-is}
use Rattle.wt_sessions_agree.specs.Orderly.{begins_at}
use Rattle.wt_sessions_agree.specs.Records.{effect_of}
use Rattle.wt_sessions_agree.specs.Stands.{Stands}
use Rattle.wt_turn.specs.Log.{Connected, Event, Log, PeerBi, PeerUni, actions_of, all_events_of, events_of}
use Rattle.wt_turn.specs.Log as logs
use Rattle.wt_turn.specs.declared.action.Action.{Action}
use Rattle.wt_wire.specs.declared.side.Side.TheVariants.{Client}
use Rattle.wt_proto.specs.declared.response_walk.ResponseWalk.TheVariants as responses
use Rattle.wt_turn.specs.declared.action.Action.TheVariants as actions
use Rattle.wt_turn.specs.declared.call.Call.TheVariants as calls

-- what a client's connect rests on: its stream is none that it was given, and isn't stopped before it is opened
pub record ConnectFacts (h : History) (log : Log) : Type 0 where
  pub unknown : verdict_of (findings Client h) 0 ≡ None
  pub unstopped : local_count (actions_of log) 0 ≡ 0 → stop_of (events_of log) 0 ≡ None

-- the peer opens no stream of the client's kind
pub no-peers : (es : List Event) → peer_count Client es 0 ≡ 0
no-peers [] = refl
no-peers (PeerUni ∷ es) = no-peers es
no-peers (PeerBi ∷ es) = no-peers es
no-peers (e ∷ es) = no-peers es

module _ (offset : ℕ → ℕ) (h : History) (log : Log) (x : Stands Client offset h log) (facts : ConnectFacts h log) where
  walk-is : response_walk_of (contents h 0) (end_of (events h) 0) ≡ response_walk_of (streams.contents log 0) (end_of (events_of log) 0)
  walk-is = ap (λ (bytes : List ℕ). response_walk_of bytes (end_of (events h) 0)) (x.came.contents 0) ∙ ap (λ (es : List Event). response_walk_of (streams.contents log 0) (end_of es 0)) x.came.events

  response-by : (own : List Action) (w : ResponseWalk) → response_walk_of (contents h 0) (end_of (events h) 0) ≡ w → (o : Bool) → logs.is_open log ≡ o → (s : Bool) → is_success w ≡ s
      → ladders.read_response Client log 0 own w ≡ effect_of Client h log calls.Handshake (first_row (response_rows Client h own w))
  response-by own (responses.Fault code) e true f s g = rw (x.came.openness, f) refl
  response-by own (responses.Fault code) e false f s g = rw (x.came.openness, f) refl
  response-by own responses.Ended e true f s g = rw (x.came.openness, f, transport-is Client offset h log x) refl
  response-by own responses.Ended e false f s g = rw (x.came.openness, f, transport-is Client offset h log x) refl
  response-by own responses.Waiting e true f s g = rw (x.came.openness, f) refl
  response-by own responses.Waiting e false f s g = rw (x.came.openness, f, transport-is Client offset h log x) refl
  response-by own (responses.Response fields at) e o f false g = rw (g, x.came.openness) refl
  response-by own (responses.Response fields at) e false f true g = rw (g, x.came.openness, f, driver-is Client offset h log x) refl
  response-by own (responses.Response fields at) e true f true g = rw (g, x.came.openness, f) (ap (λ (n : ℕ). ladders.establish Client log own 0 n) (sym start))
    where
      start : begins_at h (findings Client h) 0 ≡ at
      start = rw (facts.unknown, e) refl

  response-agrees : (own : List Action) → ladders.await_response Client log 0 own
      ≡ effect_of Client h log calls.Handshake (first_row (response_rows Client h own (response_walk_of (contents h 0) (end_of (events h) 0))))
  response-agrees own =
      ap (ladders.read_response Client log 0 own) (sym walk-is)
      ∙ response-by own (response_walk_of (contents h 0) (end_of (events h) 0)) refl (logs.is_open log) refl (is_success (response_walk_of (contents h 0) (end_of (events h) 0))) refl

  -- nothing is left of the request
  none-lacks : (n : ℕ) → is_nothing (drop {A = ℕ} n []) ≡ true
  none-lacks zero = refl
  none-lacks (suc n) = refl

  request-none : (own : List Action) → ladders.send_request Client log 0 own [] ≡ effect_of Client h log calls.Handshake (first_row (request_rows Client h own []))
  request-none own =
      let lacks : lacks_credit h 0 [] ≡ false = ap not (none-lacks (credit_left h 0)) in
      let sent : send h 0 [] ≡ [] = ap (send_of 0) (take-none (credit_left h 0)) in
      rw (and-false (is_some (stop_of (events h) 0)), lacks, sent, append-nil own) (response-agrees own)

  request-some : (own : List Action) (b : ℕ) (bytes : List ℕ) → ((code : ℕ) → stop_of (events_of log) 0 ≡ Some code → own ≡ []) → (logs.is_open log ≡ false → own ≡ []) → (o : Bool)
      → logs.is_open log ≡ o → (s : Option ℕ) → stop_of (events_of log) 0 ≡ s → (v : Bool) → is_covered log 0 (b ∷ bytes) ≡ v
      → ladders.send_request Client log 0 own (b ∷ bytes) ≡ effect_of Client h log calls.Handshake (first_row (request_rows Client h own (b ∷ bytes)))
  request-some own b bytes free shut false f s g v k = let n : own ≡ [] = shut f in rw (x.came.openness, f, transport-is Client offset h log x, n) refl
  request-some own b bytes free shut true f (Some code) g v k = let n : own ≡ [] = free code g in rw (x.came.openness, f, x.came.events, g, n) refl
  request-some own b bytes free shut true f None g false k =
      rw (lacks-is Client offset h log x 0 (b ∷ bytes) f, k, send-is Client offset h log x 0 (b ∷ bytes) f, x.came.openness, f, x.came.events, g) refl
  request-some own b bytes free shut true f None g true k =
      let e : ladders.send_request Client log 0 own (b ∷ bytes) ≡ ladders.await_response Client log 0 (own ++ send_of 0 (b ∷ bytes)) = rw (f, g, k) refl in
      let r : first_row (request_rows Client h own (b ∷ bytes)) ≡ first_row (response_rows Client h (own ++ send h 0 (b ∷ bytes)) (response_walk_of (contents h 0) (end_of (events h) 0)))
      = rw (lacks-is Client offset h log x 0 (b ∷ bytes) f, k, x.came.openness, f, x.came.events, g) refl in
      let q : send h 0 (b ∷ bytes) ≡ send_of 0 (b ∷ bytes) = send-is Client offset h log x 0 (b ∷ bytes) f ∙ ap (send_of 0) (covered-out Client offset h log x 0 (b ∷ bytes) k) in
      e ∙ ap (λ (as_ : List Action). ladders.await_response Client log 0 (own ++ as_)) (sym q) ∙ response-agrees (own ++ send h 0 (b ∷ bytes))
      ∙ ap (λ a. effect_of Client h log calls.Handshake a) (sym r)

  request-agrees : (own : List Action) (left : List ℕ) → ((code : ℕ) → stop_of (events_of log) 0 ≡ Some code → own ≡ []) → (logs.is_open log ≡ false → own ≡ [])
      → ladders.send_request Client log 0 own left ≡ effect_of Client h log calls.Handshake (first_row (request_rows Client h own left))
  request-agrees own [] free shut = request-none own
  request-agrees own (b ∷ bytes) free shut = request-some own b bytes free shut (logs.is_open log) refl (stop_of (events_of log) 0) refl (is_covered log 0 (b ∷ bytes)) refl

  -- the client's first stream has the id 0
  first-id : local_count (actions_of log) 0 ≡ 0 → outgoing.next_id Client log 0 ≡ 0
  first-id e = rw (no-peers (all_events_of log), e) refl

  zero-is : (n : ℕ) → (n == 0) ≡ true → n ≡ 0
  zero-is n e = eqb-true n 0 e

  open-by : (t : Target) → is_connected (events_of log) ≡ true → drivers.settings_came Client log ≡ true → t.reserved ≡ None → (z : Bool) → (local_count (actions_of log) 0 == 0) ≡ z → (o : Bool)
      → logs.is_open log ≡ o → (m : Bool) → outgoing.may_open Client log 0 ≡ m
      → ladders.open_request Client log t.frame ≡ effect_of Client h log calls.Handshake (first_row (connect_rows Client h t))
  open-by t c s r false z o f m k =
      let q : settings_came (findings Client h) ≡ true = x.table.settings ∙ s in
      let e : ladders.open_request Client log t.frame ≡ ladders.send_request Client log 0 [] (effects.head_left log 0 t.frame) = rw z refl in
      let w : first_row (connect_rows Client h t) ≡ first_row (request_rows Client h [] (effects.head_left log 0 t.frame)) = rw
      (q, r, x.out.opened 0, z, x.came.events, c, head-is Client offset h log x 0 t.frame) refl in
      e ∙ request-agrees [] (effects.head_left log 0 t.frame) (λ code g. refl) (λ g. refl) ∙ ap (λ a. effect_of Client h log calls.Handshake a) (sym w)
  open-by t c s r true z false f m k =
      let q : settings_came (findings Client h) ≡ true = x.table.settings ∙ s in rw (q, r, x.out.opened 0, z, x.came.openness, f, transport-is Client offset h log x, x.came.events, c) refl
  open-by t c s r true z true f false k =
      let q : settings_came (findings Client h) ≡ true = x.table.settings ∙ s in rw (may-open Client offset h log x 0, k, q, r, x.out.opened 0, z, x.came.openness, f, x.came.events, c) refl
  open-by t c s r true z true f true k =
      let q : settings_came (findings Client h) ≡ true = x.table.settings ∙ s in
      let n : local_count (actions_of log) 0 ≡ 0 = zero-is (local_count (actions_of log) 0) z in
      let e : ladders.open_request Client log t.frame ≡ ladders.send_request Client log 0 (actions.Opened 0 ∷ []) (effects.head_left log 0 t.frame) = rw (k, z, f, first-id n) refl in
      let w : first_row (connect_rows Client h t) ≡ first_row (request_rows Client h (actions.Opened 0 ∷ []) (effects.head_left log 0 t.frame))
      = rw (may-open Client offset h log x 0, k, q, r, x.out.opened 0, z, x.came.openness, f, x.came.events, c, head-is Client offset h log x 0 t.frame) refl in
      e ∙ request-agrees (actions.Opened 0 ∷ []) (effects.head_left log 0 t.frame) (λ code g. absurd (let u = facts.unstopped n in cc (sym g ∙ u))) (λ g. absurd (cc (sym f ∙ g)))
      ∙ ap (λ a. effect_of Client h log calls.Handshake a) (sym w)

  connect-by : (t : Target) → (c : Bool) → is_connected (events_of log) ≡ c → (s : Bool) → drivers.settings_came Client log ≡ s → (o : Bool) → logs.is_open log ≡ o → (r : Option (List ℕ))
      → t.reserved ≡ r
      → ladders.continue_connect Client log t.reserved t.frame ≡ effect_of Client h log calls.Handshake (first_row (connect_rows Client h t))
  connect-by t false c s q true f r k = rw (x.came.openness, f, x.came.events, c) refl
  connect-by t false c s q false f r k = rw (x.came.openness, f, transport-is Client offset h log x, x.came.events, c) refl
  connect-by t true c false q true f r k = let n : settings_came (findings Client h) ≡ false = x.table.settings ∙ q in rw (n, q, x.came.openness, f, x.came.events, c) refl
  connect-by t true c false q false f r k =
      let n : settings_came (findings Client h) ≡ false = x.table.settings ∙ q in rw (n, q, x.came.openness, f, driver-is Client offset h log x, x.came.events, c) refl
  connect-by t true c true q o f (Some name) k = let n : settings_came (findings Client h) ≡ true = x.table.settings ∙ q in rw (n, q, k, x.came.openness, x.came.events, c) refl
  connect-by t true c true q o f None k =
      let e : ladders.continue_connect Client log t.reserved t.frame ≡ ladders.open_request Client log t.frame = rw (c, q, k) refl in
      e ∙ open-by t c q k (local_count (actions_of log) 0 == 0) refl (logs.is_open log) refl (outgoing.may_open Client log 0) refl

  pub connect-agrees : (t : Target) → ladders.continue_connect Client log t.reserved t.frame ≡ effect_of Client h log calls.Handshake (first_row (connect_rows Client h t))
  connect-agrees t = connect-by t (is_connected (events_of log)) refl (drivers.settings_came Client log) refl (logs.is_open log) refl t.reserved refl
