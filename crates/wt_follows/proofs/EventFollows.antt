-- The driver of an open connection that took an event, before the work of its moment.
use Rattle.std.proofs.Common.{◌*◌, ◌++◌, ◌+◌, ◌<◌, ◌^◌, ◌∙◌, ◌∷◌, ◌≡◌, ◌≤◌, Bool, List, None, Option, Some, ℕ, [], ap, arith, drop, false, length, min, refl, subst, suc, sym, true, zero}
use Rattle.std.proofs.lemmas.Bool.{eqb-true, lt-ltb, ltb-false, ltb-true, true≢false}
use Rattle.std.specs.Prelude.{◌%◌, ◌&&◌, ◌/◌, ◌==◌, ◌||◌, IsTrue, if◌then◌else◌, is_some, nat_lt, not, unwrap_or}
use Rattle.std.specs.Option.{option_or}
use Rattle.wt_follows.proofs.EventTaken.{keeps-arrived, one-more, same-count}
use Rattle.wt_follows.proofs.Events.{AreFew, event-quiet}
use Rattle.wt_follows.proofs.Lists.{not-true, refuted}
use Rattle.wt_follows.proofs.Opened.{arrived, distinct-more, in-more, new-arriving, roles-more}
use Rattle.wt_follows.proofs.OwnRequest.{response-told}
use Rattle.wt_follows.proofs.QuietEntry.{Quiet, and-first, placed-stays, receives-stays, sending-stays, there-stays, untouched-stays}
use Rattle.wt_follows.specs.Roles.{Roles, is_arriving, is_in}
use Rattle.wt_follows.specs.Tie.{Amid, ArrivingFollows, IsUntouched, Placed, Sends, There, goes}
use Rattle.wt_kept.specs.Arriving.{arrived_count, peer_kind}
use Rattle.wt_kept.specs.Calling.{with_datagram_queued, with_turn}
use Rattle.wt_kept.specs.Kept.{DriverNow}
use Rattle.wt_kept.specs.Readers.{bi_rules, uni_rules}
use Rattle.wt_transport.proofs.Asking.{refined_peer_bis, refined_peer_unis}
use Rattle.wt_transport.proofs.Refining.{refined_fits, refined_side, turn_refines}
use Rattle.wt_transport.specs.State.{Refines, TransportState}
use Rattle.wt_transport.specs.Step.{after_turn, count_now, fits_now}
use Rattle.wt_turn.specs.Arrivals.{event_entry, fits, log_reported, log_turn, may_begin, may_receive}
use Rattle.wt_turn.specs.Reports.{bis_allowed, datagrams_of, end_of, end_reported, if_same, is_connected, is_running, loss_of, unis_allowed}
use Rattle.wt_turn.specs.Streams.{can_receive, contents, exists, local_bi, local_count, local_uni, one_more_if, peer_bi, peer_count, peer_opens, peer_uni, stream_count}
use Rattle.wt_turn.specs.Unread.{AtOffset, ReadPosition}
use Rattle.wt_sessions.specs.Driver.{transport_view}
use Rattle.wt_sessions.specs.DriverState.{DriverState, state_of}
use Rattle.wt_sessions.specs.Moment.{is_peers}
use Rattle.wt_sessions.specs.Step.{after_entry}
use Rattle.wt_turn.specs.Log.{Datagram, Event, Log, Loss, PeerBi, PeerUni, Reported, actions_of, all_events_of, events_of, is_open, newest}
use Rattle.wt_turn.specs.Turns.{event_of}
use Rattle.wt_turn.specs.declared.action.Action.{Action}
use Rattle.wt_turn.specs.declared.turn.Turn.{Turn}
use Rattle.wt_turn.specs.declared.turn.Turn.TheVariants as turns
use Rattle.wt_wire.specs.Ids.{is_bidirectional}
use Rattle.wt_wire.specs.declared.side.Side.{Side}
use Rattle.wt_wire.specs.declared.side.Side.TheVariants.{Client, Server}
use Rattle.wt_wire.specs.declared.side.StreamEnd.TheVariants.{Fin, Reset, Running}
use Rattle.wt_wire.specs.declared.side.StreamEnd.{StreamEnd}

-- ---- the log

-- a turn that reports an event of an open connection adds it to the log
pub logged : (log : Log) (turn : Turn) (e : Event) → event_of turn ≡ Some e → is_open log ≡ true → log_turn log turn ≡ Reported e ∷ log
logged log (turns.Bytes id piece) e r o = absurd cc
logged log (turns.Call call) e r o = absurd cc
logged log turn e r o = (λ i. log_reported log (r i)) ∙ (λ i. event_entry (o i) e ∷ log)

-- ---- counts

kinds-alone : (side : Side) → ((peer_uni side == peer_uni side) ≡ true) × ((peer_bi side == peer_bi side) ≡ true) × ((peer_bi side == peer_uni side) ≡ false) × ((peer_uni side == peer_bi side) ≡ false)
kinds-alone Client = (refl, refl, refl, refl)
kinds-alone Server = (refl, refl, refl, refl)

-- the next stream of a kind isn't there
next-absent : (side : Side) (log : Log) (kind : ℕ) → kind < 4 → exists side log (4 * stream_count side log kind + kind) ≡ false
next-absent side log kind l = (λ i. nat_lt (quotient (stream_count side log kind) kind l i) (stream_count side log (rest (stream_count side log kind) kind l i))) ∙ refuted (nat_lt (stream_count side log kind) (stream_count side log kind)) (λ e. let l = ltb-true (stream_count side log kind) (stream_count side log kind) e in absurd (omega (arith, l)))
  where
    quotient : (n kind : ℕ) → kind < 4 → (4 * n + kind) / 4 ≡ n
    quotient n kind l = omega (arith, l)

    rest : (n kind : ℕ) → kind < 4 → (4 * n + kind) % 4 ≡ kind
    rest n kind l = omega (arith, l)

uni-low : (side : Side) → peer_uni side < 4
uni-low Client = omega arith
uni-low Server = omega arith

bi-low : (side : Side) → peer_bi side < 4
bi-low Client = omega arith
bi-low Server = omega arith

-- ---- the streams that have no verdict

-- the event opens a stream of one kind, of the other, or none
arrivals : Side → Log → Event → DriverState → DriverState
arrivals side log e s = after_entry (transport_view side log) (Reported e) s

module _ (side : Side) (log : Log) (s : DriverState) (roles : Roles s) (t : There side s log) (open_ : Bool) where
  abbrev new_uni : ℕ
  new_uni = 4 * stream_count side log (peer_uni side) + peer_uni side

  abbrev new_bi : ℕ
  new_bi = 4 * stream_count side log (peer_bi side) + peer_bi side

  pub left-out : (a b : Bool) → (a || b) ≡ false → a ≡ false
  left-out true b e = absurd cc
  left-out false b e = refl

  right-out : (a b : Bool) → (a || b) ≡ false → b ≡ false
  right-out true b e = absurd cc
  right-out false b e = e

  pub in-middle : (a b c : Bool) → ((a || c) || b) ≡ ((a || b) || c)
  in-middle true b c = refl
  in-middle false true true = refl
  in-middle false true false = refl
  in-middle false false true = refl
  in-middle false false false = refl

  pub at-end : (a b c : Bool) → (a || (b || c)) ≡ ((a || b) || c)
  at-end true b c = refl
  at-end false b c = refl

  either-kind : (us bs : List ℕ) (new k : ℕ) (b : Bool) → is_in k us ≡ b → ((is_in k us || new == k) ≡ true) → (is_in k us ≡ true → is_in k bs ≡ false) → is_in new bs ≡ false → is_in k bs ≡ false
  either-kind us bs new k true e x apart out = apart e
  either-kind us bs new k false e x apart out = subst (λ (j : ℕ). is_in j bs ≡ false) (eqb-true new k ((λ i. (sym e) i || new == k) ∙ x)) out

  pub uni-roles : Roles (arrived (s.unis ++ new_uni ∷ []) s.bis open_ s)
  uni-roles =
      let absent = next-absent side log (peer_uni side) (uni-low side) in
      let out = new-arriving side log s roles t new_uni absent in
      roles-more side log s roles t new_uni absent (s.unis ++ new_uni ∷ []) s.bis open_
      (distinct-more s.unis new_uni roles.unis (left-out (is_in new_uni s.unis) (is_in new_uni s.bis) out)) roles.bis
      (λ k e. either-kind s.unis s.bis new_uni k (is_in k s.unis) refl (sym (in-more k new_uni s.unis) ∙ e) (roles.kinds k) (right-out (is_in new_uni s.unis) (is_in new_uni s.bis) out))
      (λ k. ap (λ b. b || is_in k s.bis) (in-more k new_uni s.unis) ∙ in-middle (is_in k s.unis) (is_in k s.bis) (new_uni == k))

  flipped : (k : ℕ) (b : Bool) → is_in k s.bis ≡ b → is_in k s.unis ≡ true → is_in k s.bis ≡ false
  flipped k b e x = roles.kinds k x

  other-kind : (k : ℕ) (b : Bool) → (new_bi == k) ≡ b → is_in k s.unis ≡ true → is_in new_bi s.unis ≡ false → (is_in k s.bis || new_bi == k) ≡ false
  other-kind k true e x out = absurd (true≢false (sym x ∙ ((λ i. is_in (sym (eqb-true new_bi k e) i) s.unis) ∙ out)))
  other-kind k false e x out = λ i. roles.kinds k x i || e i

  pub bi-roles : Roles (arrived s.unis (s.bis ++ new_bi ∷ []) open_ s)
  bi-roles =
      let absent = next-absent side log (peer_bi side) (bi-low side) in
      let out = new-arriving side log s roles t new_bi absent in
      roles-more side log s roles t new_bi absent s.unis (s.bis ++ new_bi ∷ []) open_
      roles.unis (distinct-more s.bis new_bi roles.bis (right-out (is_in new_bi s.unis) (is_in new_bi s.bis) out))
      (λ k e. in-more k new_bi s.bis ∙ other-kind k (new_bi == k) refl e (left-out (is_in new_bi s.unis) (is_in new_bi s.bis) out))
      (λ k. ap (λ b. is_in k s.unis || b) (in-more k new_bi s.bis) ∙ at-end (is_in k s.unis) (is_in k s.bis) (new_bi == k))

  pub same-roles : Roles (arrived s.unis s.bis open_ s)
  same-roles = record {
    unis = roles.unis;
    bis = roles.bis;
    kinds = roles.kinds;
    arriving = λ k e. let a = roles.arriving k e in record { critical = a.critical; held = a.held; living = a.living; waits = a.waits; member = a.member; gone = a.gone };
    living = roles.living;
    living_alone = roles.living_alone;
    requests_alone = roles.requests_alone;
    waiting = roles.waiting;
    waiting_alone = λ k e. let a = roles.waiting_alone k e in record { arriving = a.arriving; critical = a.critical; held = a.held; living = a.living };
    waiting_unjoined = roles.waiting_unjoined;
    members_alone = λ k session e. let a = roles.members_alone k session e in record { arriving = a.arriving; critical = a.critical; held = a.held; living = a.living };
    members_once = roles.members_once;
    members_distinct = roles.members_distinct;
    held = roles.held;
  }

-- ---- what else the event changes

-- the datagram that the turn brings, behind those that wait
abbrev pub queued_with : Turn → List (List ℕ) → List (List ℕ)
queued_with (turns.Datagram piece) xs = xs ++ piece ∷ []
queued_with _ xs = xs

pub queued-is : (turn : Turn) (d : DriverNow) → with_datagram_queued turn d ≡ record d { datagrams = queued_with turn d.datagrams }
queued-is (turns.Datagram piece) d = refl
queued-is _ d = refl

-- those that weren't looked at, with one more
drop-more : {X : Type 0} (n : ℕ) (xs : List X) (x : X) → n ≤ length xs → drop n (xs ++ x ∷ []) ≡ drop n xs ++ x ∷ []
drop-more zero xs x l = refl
drop-more (suc n) [] x l = absurd (omega (arith, l))
drop-more (suc n) (y ∷ ys) x l = drop-more n ys x (omega (arith, l))

some-is : (x e : Event) → Some x ≡ Some e → x ≡ e
some-is x e r = ap (λ (o : Option Event). unwrap_or o e) r

unlooked-by : (turn : Turn) (e : Event) (n : ℕ) (es : List Event) (xs : List (List ℕ)) → event_of turn ≡ Some e → n ≤ length (datagrams_of es) → xs ≡ drop n (datagrams_of es)
    → queued_with turn xs ≡ drop n (datagrams_of (e ∷ es))
unlooked-by (turns.Datagram piece) e n es xs r l x =
    ap (λ ys. ys ++ piece ∷ []) x ∙ sym (drop-more n (datagrams_of es) piece l) ∙ ap (λ (y : Event). drop n (datagrams_of (y ∷ es))) (some-is (Datagram piece) e r)
unlooked-by (turns.Bytes id piece) e n es xs r l x = absurd cc
unlooked-by (turns.Call call) e n es xs r l x = absurd cc
unlooked-by turn e n es xs r l x = x ∙ ap (λ (o : Option Event). drop n (datagrams_of (unwrap_or o e ∷ es))) r

not-less : (total least : ℕ) → not (nat_lt total least) ≡ true → nat_lt 0 least ≡ true → nat_lt 0 total ≡ true
not-less total least e l =
    let a = ltb-false total least (not-true (nat_lt total least) e) in let b = ltb-true 0 least l in lt-ltb 0 total (omega (arith, a, b))

pub and-second : (a b : Bool) → (a && b) ≡ true → b ≡ true
and-second true b e = e
and-second false b e = absurd cc

allowed-by : (side : Side) (log : Log) (turn : Turn) (e : Event) → event_of turn ≡ Some e → fits side log turn ≡ true → (is_connected (all_events_of log) ≡ false → unis_allowed (all_events_of log) ≡ 0)
    → events_of log ≡ all_events_of log → nat_lt 0 (unis_allowed (events_of log)) ≡ true → nat_lt 0 (unis_allowed (e ∷ events_of log)) ≡ true
allowed-by side log (turns.MaxUni total) e r f none same l =
    let known = is_connected (all_events_of log) in
    let grows = not (nat_lt total (unis_allowed (all_events_of log))) in
    let small = not (nat_lt (2 ^ 60) total) in
    let comes = and-first ((known && grows) && small) (not (is_some (loss_of (all_events_of log)))) f in
    let at_least = and-second known grows (and-first (known && grows) small comes) in
    sym (ap (λ (o : Option Event). nat_lt 0 (unis_allowed (unwrap_or o e ∷ events_of log))) r)
    ∙ not-less total (unis_allowed (events_of log)) ((λ i. not (nat_lt total (unis_allowed (same i)))) ∙ at_least) l
allowed-by side log (turns.Connected uni bi credit fact) e r f none same l =
    let begins = may_begin side log in
    let new = not (is_connected (all_events_of log)) in
    let one = not (nat_lt (2 ^ 60) uni) in
    let two = not (nat_lt (2 ^ 60) bi) in
    let three = nat_lt credit (2 ^ 62) in
    let comes = and-first (begins && new && one && two && three) (not (is_some (loss_of (all_events_of log)))) f in
    let unknown = and-second begins new (and-first (begins && new) one (and-first (begins && new && one) two (and-first (begins && new && one && two) three comes))) in
    let z = ltb-true 0 (unis_allowed (events_of log)) l in
    let nothing = ap unis_allowed same ∙ none (not-true (is_connected (all_events_of log)) unknown) in
    absurd (omega (arith, z, nothing))
allowed-by side log (turns.Bytes id piece) e r f none same l = absurd cc
allowed-by side log (turns.Call call) e r f none same l = absurd cc
allowed-by side log turn e r f none same l = sym (ap (λ (o : Option Event). nat_lt 0 (unis_allowed (unwrap_or o e ∷ events_of log))) r) ∙ l

at-most : (n : ℕ) → n ≤ 2 ^ 60 → min n (2 ^ 60) ≡ n
at-most n l = omega (arith, l)

more : (total n m : ℕ) (b : Bool) → n + m ≡ total → total < 2 ^ 60 → one_more_if b n + m ≤ 2 ^ 60
more total n m true e l = omega (arith, e, l)
more total n m false e l = omega (arith, e, l)

same : (n m : ℕ) (b : Bool) → b ≡ false → n + m ≤ 2 ^ 60 → one_more_if b n + m ≤ 2 ^ 60
same n m true e l = absurd cc
same n m false e l = l

-- the streams of a kind stay few
pub few-by : (side : Side) (log : Log) (turn : Turn) (e : Event) → event_of turn ≡ Some e → fits side log turn ≡ true → AreFew side log → AreFew side (Reported e ∷ log)
few-by side log turns.PeerUni e r f few = subst (λ (x : Event). AreFew side (Reported x ∷ log)) (some-is PeerUni e r) (
  more (stream_count side log (peer_uni side)) (peer_count side (all_events_of log) (peer_uni side)) (local_count (actions_of log) (peer_uni side)) (peer_opens side (peer_uni side) PeerUni) refl below,
  same (peer_count side (all_events_of log) (peer_bi side)) (local_count (actions_of log) (peer_bi side)) (peer_opens side (peer_bi side) PeerUni) ((kinds-alone side).3) few.1,
)
  where
    below : stream_count side log (peer_uni side) < 2 ^ 60
    below = ltb-true (stream_count side log (peer_uni side)) (2 ^ 60) (and-second (is_connected (all_events_of log)) (nat_lt (stream_count side log (peer_uni side)) (2 ^ 60))
        (and-first (is_connected (all_events_of log) && nat_lt (stream_count side log (peer_uni side)) (2 ^ 60)) (not (is_some (loss_of (all_events_of log)))) f))
few-by side log turns.PeerBi e r f few = subst (λ (x : Event). AreFew side (Reported x ∷ log)) (some-is PeerBi e r) (
  same (peer_count side (all_events_of log) (peer_uni side)) (local_count (actions_of log) (peer_uni side)) (peer_opens side (peer_uni side) PeerBi) ((kinds-alone side).2) few.0,
  more (stream_count side log (peer_bi side)) (peer_count side (all_events_of log) (peer_bi side)) (local_count (actions_of log) (peer_bi side)) (peer_opens side (peer_bi side) PeerBi) refl below,
)
  where
    below : stream_count side log (peer_bi side) < 2 ^ 60
    below = ltb-true (stream_count side log (peer_bi side)) (2 ^ 60) (and-second (is_connected (all_events_of log)) (nat_lt (stream_count side log (peer_bi side)) (2 ^ 60))
        (and-first (is_connected (all_events_of log) && nat_lt (stream_count side log (peer_bi side)) (2 ^ 60)) (not (is_some (loss_of (all_events_of log)))) f))
few-by side log (turns.Bytes id piece) e r f few = absurd cc
few-by side log (turns.Call call) e r f few = absurd cc
few-by side log turn e r f few = subst (λ (o : Option Event). AreFew side (Reported (unwrap_or o e) ∷ log)) r few

own-allowed : (side : Side) (x y : ℕ) → (if local_uni side == local_uni side then x else y) ≡ x
own-allowed Client x y = refl
own-allowed Server x y = refl

peers-differ : (side : Side) → ((local_uni side == peer_uni side) ≡ false) × ((local_uni side == peer_bi side) ≡ false)
peers-differ Client = (refl, refl)
peers-differ Server = (refl, refl)

peers-named : (side : Side) → ((peer_uni side == peer_uni side || peer_uni side == peer_bi side) ≡ true) × ((peer_bi side == peer_uni side || peer_bi side == peer_bi side) ≡ true)
peers-named Client = (refl, refl)
peers-named Server = (refl, refl)

-- ---- ends

-- a stream that ended doesn't end again
ended-by : (side : Side) (log : Log) (id k : ℕ) (end : StreamEnd) → fits side log (turns.End id) ≡ true → events_of log ≡ all_events_of log → is_running (end_of (events_of log) k) ≡ false
    → unwrap_or (option_or (if_same id k end) (newest (end_reported k) (events_of log))) Running ≡ end_of (events_of log) k
ended-by side log id k end may same over = by (id == k) refl
  where
    running : is_running (end_of (events_of log) id) ≡ true
    running = ap (λ es. is_running (end_of es id)) same ∙ and-second (is_connected (all_events_of log) && can_receive side log id) (is_running (end_of (all_events_of log) id))
        (and-first (may_receive side log id) (not (is_some (loss_of (all_events_of log)))) may)

    by : (b : Bool) → (id == k) ≡ b → unwrap_or (option_or (if b then Some end else None) (newest (end_reported k) (events_of log))) Running ≡ end_of (events_of log) k
    by true f = absurd (true≢false (sym running ∙ (ap (λ j. is_running (end_of (events_of log) j)) (eqb-true id k f) ∙ over)))
    by false f = refl

once-ended : (side : Side) (log : Log) (turn : Turn) (e : Event) (k : ℕ) → event_of turn ≡ Some e → fits side log turn ≡ true → events_of log ≡ all_events_of log → is_running (end_of (events_of log) k) ≡ false
    → end_of (e ∷ events_of log) k ≡ end_of (events_of log) k
once-ended side log (turns.Bytes id piece) e k r may same over = absurd cc
once-ended side log (turns.Call call) e k r may same over = absurd cc
once-ended side log (turns.End id) e k r may same over = ap (λ (o : Option Event). end_of (unwrap_or o e ∷ events_of log) k) (sym r) ∙ ended-by side log id k Fin may same over
once-ended side log (turns.Reset id code) e k r may same over = ap (λ (o : Option Event). end_of (unwrap_or o e ∷ events_of log) k) (sym r) ∙ ended-by side log id k (Reset code) may same over
once-ended side log turn e k r may same over = ap (λ (o : Option Event). end_of (unwrap_or o e ∷ events_of log) k) (sym r)

-- ---- all of it

module _ (side : Side) (d : DriverNow) (log : Log) (position : ℕ → ReadPosition) (uncollected : List Action) (turn : Turn) (e : Event)
    (a : Amid side d log (state_of side log) [] position uncollected) (opened : is_open log ≡ true) (fitting : IsTrue (fits_now d.work.transport turn))
    (reports : event_of turn ≡ Some e) (looked : (state_of side log).progress.datagrams ≤ length (datagrams_of (events_of log))) where
  abbrev s : DriverState
  s = state_of side log

  abbrev t : TransportState
  t = d.work.transport

  abbrev u : TransportState
  u = after_turn t turn

  abbrev g : Log
  g = Reported e ∷ log

  refines : Refines side u g position uncollected
  refines = subst (λ (l : Log). Refines side u l position uncollected) (logged log turn e reports opened) (turn_refines side t log position uncollected a.work.transport turn fitting)

  side-same : u.side ≡ t.side
  side-same = refined_side side u g position uncollected refines ∙ sym (refined_side side t log position uncollected a.work.transport)

  same-events : events_of log ≡ all_events_of log
  same-events = a.work.transport.facts.open_same opened

  few-then : AreFew side g
  few-then = few-by side log turn e reports (sym (refined_fits side t log position uncollected a.work.transport turn) ∙ fitting) a.work.there.few

  -- how many came of each kind
  unis-before : arrived_count t d.unis ≡ stream_count side log (peer_uni side)
  unis-before = ap (λ n. min n (2 ^ 60)) ((λ i. count_now t (peer_kind t.side (a.kinds.0 i))) ∙ refined_peer_unis side t log position uncollected a.work.transport)
      ∙ at-most (stream_count side log (peer_uni side)) a.work.there.few.0

  bis-before : arrived_count t d.bis ≡ stream_count side log (peer_bi side)
  bis-before = ap (λ n. min n (2 ^ 60)) ((λ i. count_now t (peer_kind t.side (a.kinds.1 i))) ∙ refined_peer_bis side t log position uncollected a.work.transport)
      ∙ at-most (stream_count side log (peer_bi side)) a.work.there.few.1

  unis-after : arrived_count u d.unis ≡ stream_count side g (peer_uni side)
  unis-after = ap (λ n. min n (2 ^ 60)) ((λ i. count_now u (peer_kind u.side (a.kinds.0 i))) ∙ refined_peer_unis side u g position uncollected refines)
      ∙ at-most (stream_count side g (peer_uni side)) few-then.0

  bis-after : arrived_count u d.bis ≡ stream_count side g (peer_bi side)
  bis-after = ap (λ n. min n (2 ^ 60)) ((λ i. count_now u (peer_kind u.side (a.kinds.1 i))) ∙ refined_peer_bis side u g position uncollected refines)
      ∙ at-most (stream_count side g (peer_bi side)) few-then.1

  counted-more : (b : Bool) (n m : ℕ) → b ≡ true → one_more_if b n + m ≡ (n + m) + 1
  counted-more true n m x = omega arith
  counted-more false n m x = absurd cc

  counted-same : (b : Bool) (n m : ℕ) → b ≡ false → one_more_if b n + m ≡ n + m
  counted-same true n m x = absurd cc
  counted-same false n m x = refl

  add-none : (n m : ℕ) → m ≡ 0 → n + m ≡ n
  add-none n m x = omega (arith, x)

  -- the streams of the kind whose stream came are those of the table's view
  view-uni : stream_count side log (peer_uni side) ≡ peer_count side (events_of log) (peer_uni side)
  view-uni = add-none (peer_count side (all_events_of log) (peer_uni side)) (local_count (actions_of log) (peer_uni side)) a.work.there.kinds.0
      ∙ ap (λ es. peer_count side es (peer_uni side)) (sym same-events)

  view-bi : stream_count side log (peer_bi side) ≡ peer_count side (events_of log) (peer_bi side)
  view-bi = add-none (peer_count side (all_events_of log) (peer_bi side)) (local_count (actions_of log) (peer_bi side)) a.work.there.kinds.1
      ∙ ap (λ es. peer_count side es (peer_bi side)) (sym same-events)

  abbrev then_ : DriverNow
  then_ = record (with_turn turn d) { datagrams = queued_with turn d.datagrams }

  -- readers took what they took
  module _ (us bs : List ℕ) (open_ : Bool) where
    abbrev z : DriverState
    z = arrived us bs open_ s

    module _ (roles : Roles z) (back : goes z ≡ true → goes s ≡ true) (same : open_ ≡ is_open g)
        (one_way : (k : ℕ) → is_in k us ≡ true → is_bidirectional k ≡ false) (two_way : (k : ℕ) → is_in k bs ≡ true → is_bidirectional k ≡ true)
        (there : (k : ℕ) → is_arriving z k ≡ true → can_receive side g k ≡ true) (peers : (k : ℕ) → is_arriving z k ≡ true → is_peers side k ≡ true) (untouched : (k : ℕ) → is_arriving z k ≡ true → IsUntouched g k)
        (unis : goes z ≡ true → ArrivingFollows uni_rules u d.unis us (contents g) position)
        (bis : goes z ≡ true → ArrivingFollows bi_rules u d.bis bs (contents g) position) where
      q : Quiet side log g
      q = event-quiet side log e few-then

      placed : Placed side s g position
      placed = placed-stays side log g q s position a.work.placed

      known : There side s g
      known = there-stays side log g q s a.work.there

      sending : Sends side s g g
      sending = sending-stays side log g q s a.work.sends

      taken-so : Amid side then_ g z [] position uncollected
      taken-so = record {
        work = record {
          transport = refines;
          is_open_same = same;
          keeps = keeps-arrived d.work.dispatched s us bs open_ a.work.keeps;
          roles = roles;
          placed = record { headers = placed.headers; members = placed.members; heads = placed.heads; untouched = placed.untouched; arriving = untouched; unopened = placed.unopened };
          there = record { unis = one_way; bis = two_way; arriving = there; waiting = known.waiting; living = known.living; held = known.held; members = known.members; critical = known.critical; gone = known.gone; own = known.own; kinds = known.kinds; few = known.few; peers = record { arriving = peers; critical = known.peers.critical; held = known.peers.held; waiting = known.peers.waiting } };
          sends = record { arriving = λ k x. refl; waiting = sending.waiting; members = sending.members; living = sending.living; own = sending.own };
          control = λ x. a.work.control (back x);
          sessions = λ x. a.work.sessions (back x);
        };
        kinds = a.kinds;
        few = a.few;
        own = record { stream = a.own.stream; sent_same = a.own.sent_same; within = a.own.within };
        allowed = λ x. allowed-by side log turn e reports (sym (refined_fits side t log position uncollected a.work.transport turn) ∙ fitting)
            (λ none. sym (own-allowed side (unis_allowed (all_events_of log)) (bis_allowed (all_events_of log))) ∙ a.work.transport.facts.unallowed none (local_uni side)) same-events (a.allowed x);
        unis = unis;
        bis = bis;
        datagrams = λ x. unlooked-by turn e s.progress.datagrams (events_of log) d.datagrams reports looked (a.datagrams (back x));
        response = λ c n. response-told side d.response (contents log) (events_of log) (e ∷ events_of log) position
            (λ over. once-ended side log turn e (local_bi side) reports (sym (refined_fits side t log position uncollected a.work.transport turn) ∙ fitting) same-events over) (a.response c n);
      }

  -- ---- by what the event is

  -- a stream of this kind came
  module _ (kind : ℕ) (low : kind < 4) (foreign : (local_uni side == kind) ≡ false) (named : (kind == peer_uni side || kind == peer_bi side) ≡ true) (opens : peer_opens side kind e ≡ true) where
    abbrev new : ℕ
    new = 4 * stream_count side log kind + kind

    absent : exists side log new ≡ false
    absent = next-absent side log kind low

    new-there : can_receive side g new ≡ true
    new-there = λ i. present i && not (apart i)
      where
        rest : (n : ℕ) → (4 * n + kind) % 4 ≡ kind
        rest n = let l = low in omega (arith, l)

        quotient : (n : ℕ) → (4 * n + kind) / 4 ≡ n
        quotient n = let l = low in omega (arith, l)

        apart : (local_uni side == new % 4) ≡ false
        apart = ap (λ (k : ℕ). local_uni side == k) (rest (stream_count side log kind)) ∙ foreign

        present : exists side g new ≡ true
        present = (λ i. nat_lt (quotient (stream_count side log kind) i) (stream_count side g (rest (stream_count side log kind) i)))
            ∙ lt-ltb (stream_count side log kind) (stream_count side g kind)
            (let c = counted-more (peer_opens side kind e) (peer_count side (all_events_of log) kind) (local_count (actions_of log) kind) opens in omega (arith, c))

    there-all : (k : ℕ) (b : Bool) → is_arriving s k ≡ b → (b || new == k) ≡ true → can_receive side g k ≡ true
    there-all k true x y = receives-stays side log g (event-quiet side log e few-then) k (a.work.there.arriving k x)
    there-all k false x y = subst (λ (j : ℕ). can_receive side g j ≡ true) (eqb-true new k y) new-there

    peers-all : (k : ℕ) (b : Bool) → is_arriving s k ≡ b → (b || new == k) ≡ true → is_peers side k ≡ true
    peers-all k true x y = a.work.there.peers.arriving k x
    peers-all k false x y = subst (λ (j : ℕ). is_peers side j ≡ true) (eqb-true new k y) (its-peers (stream_count side log kind))
      where
        its-peers : (n : ℕ) → is_peers side (4 * n + kind) ≡ true
        its-peers n = ap (λ m. m == peer_uni side || m == peer_bi side) (rest n) ∙ named
          where
            rest : (n : ℕ) → (4 * n + kind) % 4 ≡ kind
            rest n = let l = low in omega (arith, l)

    untouched-all : (k : ℕ) (b : Bool) → is_arriving s k ≡ b → (b || new == k) ≡ true → IsUntouched g k
    untouched-all k true x y = untouched-stays side log g (event-quiet side log e few-then) k (a.work.placed.arriving k x)
    untouched-all k false x y = subst (IsUntouched g) (eqb-true new k y) (untouched-stays side log g (event-quiet side log e few-then) new (a.work.placed.unopened new absent).1)

    at-front : position new ≡ AtOffset 0
    at-front = (a.work.placed.unopened new absent).0

  -- streams of a kind of which none came
  unis-stay : peer_opens side (peer_uni side) e ≡ false → goes s ≡ true → ArrivingFollows uni_rules u d.unis s.unis (contents g) position
  unis-stay x y = same-count uni_rules t u d.unis s.unis (contents log) position side-same refl refl (a.unis y)
      (unis-after ∙ counted-same (peer_opens side (peer_uni side) e) (peer_count side (all_events_of log) (peer_uni side)) (local_count (actions_of log) (peer_uni side)) x ∙ sym unis-before)

  bis-stay : peer_opens side (peer_bi side) e ≡ false → goes s ≡ true → ArrivingFollows bi_rules u d.bis s.bis (contents g) position
  bis-stay x y = same-count bi_rules t u d.bis s.bis (contents log) position side-same refl refl (a.bis y)
      (bis-after ∙ counted-same (peer_opens side (peer_bi side) e) (peer_count side (all_events_of log) (peer_bi side)) (local_count (actions_of log) (peer_bi side)) x ∙ sym bis-before)

  -- and of a kind of which one came
  uni-number : 4 * arrived_count t d.unis + peer_kind t.side d.unis.bidirectional ≡ 4 * stream_count side log (peer_uni side) + peer_uni side
  uni-number = λ i. 4 * unis-before i + peer_kind (refined_side side t log position uncollected a.work.transport i) (a.kinds.0 i)

  bi-number : 4 * arrived_count t d.bis + peer_kind t.side d.bis.bidirectional ≡ 4 * stream_count side log (peer_bi side) + peer_bi side
  bi-number = λ i. 4 * bis-before i + peer_kind (refined_side side t log position uncollected a.work.transport i) (a.kinds.1 i)

  unis-grow : peer_opens side (peer_uni side) e ≡ true → goes s ≡ true → ArrivingFollows uni_rules u d.unis (s.unis ++ (4 * stream_count side log (peer_uni side) + peer_uni side) ∷ []) (contents g) position
  unis-grow x y = subst (λ (n : ℕ). ArrivingFollows uni_rules u d.unis (s.unis ++ n ∷ []) (contents log) position) uni-number
      (one-more uni_rules t u d.unis s.unis (contents log) position side-same refl refl (a.unis y)
      (unis-after ∙ counted-more (peer_opens side (peer_uni side) e) (peer_count side (all_events_of log) (peer_uni side)) (local_count (actions_of log) (peer_uni side)) x
      ∙ ap (λ n. n + 1) (sym unis-before))
      (ap position uni-number ∙ at-front (peer_uni side) (uni-low side) ((peers-differ side).0) ((peers-named side).0) x))

  bis-grow : peer_opens side (peer_bi side) e ≡ true → goes s ≡ true → ArrivingFollows bi_rules u d.bis (s.bis ++ (4 * stream_count side log (peer_bi side) + peer_bi side) ∷ []) (contents g) position
  bis-grow x y = subst (λ (n : ℕ). ArrivingFollows bi_rules u d.bis (s.bis ++ n ∷ []) (contents log) position) bi-number
      (one-more bi_rules t u d.bis s.bis (contents log) position side-same refl refl (a.bis y)
      (bis-after ∙ counted-more (peer_opens side (peer_bi side) e) (peer_count side (all_events_of log) (peer_bi side)) (local_count (actions_of log) (peer_bi side)) x
      ∙ ap (λ n. n + 1) (sym bis-before))
      (ap position bi-number ∙ at-front (peer_bi side) (bi-low side) ((peers-differ side).1) ((peers-named side).1) x))

  uni-way : (k : ℕ) (b : Bool) → is_in k s.unis ≡ b → (b || 4 * stream_count side log (peer_uni side) + peer_uni side == k) ≡ true → is_bidirectional k ≡ false
  uni-way k true x y = a.work.there.unis k x
  uni-way k false x y = subst (λ (j : ℕ). is_bidirectional j ≡ false) (eqb-true (4 * stream_count side log (peer_uni side) + peer_uni side) k y) (way side (stream_count side log (peer_uni side)))
    where
      halved : (n r : ℕ) → 2 ≤ r → r < 4 → (4 * n + r) / 2 % 2 ≡ 1
      halved n r l m = omega (arith, l, m)

      way : (side : Side) (n : ℕ) → is_bidirectional (4 * n + peer_uni side) ≡ false
      way Client n = ap (λ (m : ℕ). m == 0) (halved n 3 (omega arith) (omega arith))
      way Server n = ap (λ (m : ℕ). m == 0) (halved n 2 (omega arith) (omega arith))

  bi-way : (k : ℕ) (b : Bool) → is_in k s.bis ≡ b → (b || 4 * stream_count side log (peer_bi side) + peer_bi side == k) ≡ true → is_bidirectional k ≡ true
  bi-way k true x y = a.work.there.bis k x
  bi-way k false x y = subst (λ (j : ℕ). is_bidirectional j ≡ true) (eqb-true (4 * stream_count side log (peer_bi side) + peer_bi side) k y) (way side (stream_count side log (peer_bi side)))
    where
      halved : (n r : ℕ) → r < 2 → (4 * n + r) / 2 % 2 ≡ 0
      halved n r l = omega (arith, l)

      way : (side : Side) (n : ℕ) → is_bidirectional (4 * n + peer_bi side) ≡ true
      way Client n = ap (λ (m : ℕ). m == 0) (halved n 1 (omega arith))
      way Server n = ap (λ (m : ℕ). m == 0) (halved n 0 (omega arith))

  pub uni-came : peer_opens side (peer_uni side) e ≡ true → peer_opens side (peer_bi side) e ≡ false → s.is_open ≡ is_open g
      → Amid side then_ g (arrived (s.unis ++ (4 * peer_count side (events_of log) (peer_uni side) + peer_uni side) ∷ []) s.bis s.is_open s) [] position uncollected
  uni-came x y same = subst (λ (n : ℕ). Amid side then_ g (arrived (s.unis ++ (4 * n + peer_uni side) ∷ []) s.bis s.is_open s) [] position uncollected) view-uni
      (taken-so (s.unis ++ (4 * stream_count side log (peer_uni side) + peer_uni side) ∷ []) s.bis s.is_open (uni-roles side log s a.work.roles a.work.there s.is_open) (λ z. z) same
      (λ k z. uni-way k (is_in k s.unis) refl (sym (in-more k (4 * stream_count side log (peer_uni side) + peer_uni side) s.unis) ∙ z)) a.work.there.bis
      (λ k z. there-all (peer_uni side) (uni-low side) ((peers-differ side).0) ((peers-named side).0) x k (is_arriving s k) refl (sym (moved k) ∙ z))
      (λ k z. peers-all (peer_uni side) (uni-low side) ((peers-differ side).0) ((peers-named side).0) x k (is_arriving s k) refl (sym (moved k) ∙ z))
      (λ k z. untouched-all (peer_uni side) (uni-low side) ((peers-differ side).0) ((peers-named side).0) x k (is_arriving s k) refl (sym (moved k) ∙ z))
      (unis-grow x) (bis-stay y))
    where
      moved : (k : ℕ) → (is_in k (s.unis ++ (4 * stream_count side log (peer_uni side) + peer_uni side) ∷ []) || is_in k s.bis) ≡ (is_arriving s k || 4 * stream_count side log (peer_uni side) + peer_uni side == k)
      moved k = ap (λ b. b || is_in k s.bis) (in-more k (4 * stream_count side log (peer_uni side) + peer_uni side) s.unis)
          ∙ in-middle side log s a.work.roles a.work.there s.is_open (is_in k s.unis) (is_in k s.bis) (4 * stream_count side log (peer_uni side) + peer_uni side == k)

  pub bi-came : peer_opens side (peer_bi side) e ≡ true → peer_opens side (peer_uni side) e ≡ false → s.is_open ≡ is_open g
      → Amid side then_ g (arrived s.unis (s.bis ++ (4 * peer_count side (events_of log) (peer_bi side) + peer_bi side) ∷ []) s.is_open s) [] position uncollected
  bi-came x y same = subst (λ (n : ℕ). Amid side then_ g (arrived s.unis (s.bis ++ (4 * n + peer_bi side) ∷ []) s.is_open s) [] position uncollected) view-bi
      (taken-so s.unis (s.bis ++ (4 * stream_count side log (peer_bi side) + peer_bi side) ∷ []) s.is_open (bi-roles side log s a.work.roles a.work.there s.is_open) (λ z. z) same
      a.work.there.unis (λ k z. bi-way k (is_in k s.bis) refl (sym (in-more k (4 * stream_count side log (peer_bi side) + peer_bi side) s.bis) ∙ z))
      (λ k z. there-all (peer_bi side) (bi-low side) ((peers-differ side).1) ((peers-named side).1) x k (is_arriving s k) refl (sym (moved k) ∙ z))
      (λ k z. peers-all (peer_bi side) (bi-low side) ((peers-differ side).1) ((peers-named side).1) x k (is_arriving s k) refl (sym (moved k) ∙ z))
      (λ k z. untouched-all (peer_bi side) (bi-low side) ((peers-differ side).1) ((peers-named side).1) x k (is_arriving s k) refl (sym (moved k) ∙ z))
      (unis-stay y) (bis-grow x))
    where
      moved : (k : ℕ) → (is_in k s.unis || is_in k (s.bis ++ (4 * stream_count side log (peer_bi side) + peer_bi side) ∷ [])) ≡ (is_arriving s k || 4 * stream_count side log (peer_bi side) + peer_bi side == k)
      moved k = ap (λ b. is_in k s.unis || b) (in-more k (4 * stream_count side log (peer_bi side) + peer_bi side) s.bis)
          ∙ at-end side log s a.work.roles a.work.there s.is_open (is_in k s.unis) (is_in k s.bis) (4 * stream_count side log (peer_bi side) + peer_bi side == k)

  pub none-came : peer_opens side (peer_uni side) e ≡ false → peer_opens side (peer_bi side) e ≡ false → (open_ : Bool) → (goes (arrived s.unis s.bis open_ s) ≡ true → goes s ≡ true) → open_ ≡ is_open g
      → Amid side then_ g (arrived s.unis s.bis open_ s) [] position uncollected
  none-came x y open_ back same = taken-so s.unis s.bis open_ (same-roles side log s a.work.roles a.work.there open_) back same a.work.there.unis a.work.there.bis
      (λ k z. receives-stays side log g (event-quiet side log e few-then) k (a.work.there.arriving k z)) (λ k z. a.work.there.peers.arriving k z)
      (λ k z. untouched-stays side log g (event-quiet side log e few-then) k (a.work.placed.arriving k z))
      (λ z. unis-stay x (back z)) (λ z. bis-stay y (back z))

-- An event of an open connection is taken.
module _ (side : Side) (d : DriverNow) (log : Log) (position : ℕ → ReadPosition) (uncollected : List Action) (turn : Turn)
    (a : Amid side d log (state_of side log) [] position uncollected) (opened : is_open log ≡ true) (fitting : IsTrue (fits_now d.work.transport turn))
    (looked : (state_of side log).progress.datagrams ≤ length (datagrams_of (events_of log))) where
  abbrev after_event : Event → DriverState
  after_event e = after_entry (transport_view side log) (Reported e) (state_of side log)

  abbrev with_it : DriverNow
  with_it = record (with_turn turn d) { datagrams = queued_with turn d.datagrams }

  by-event : (e : Event) → event_of turn ≡ Some e → Amid side with_it (Reported e ∷ log) (after_event e) [] position uncollected
  by-event PeerUni r = uni-came side d log position uncollected turn PeerUni a opened fitting r looked ((kinds-alone side).0) ((kinds-alone side).3) a.work.is_open_same
  by-event PeerBi r = bi-came side d log position uncollected turn PeerBi a opened fitting r looked ((kinds-alone side).1) ((kinds-alone side).2) a.work.is_open_same
  by-event (Loss reason) r = none-came side d log position uncollected turn (Loss reason) a opened fitting r looked refl refl false (λ z. absurd cc) refl
  by-event e r = none-came side d log position uncollected turn e a opened fitting r looked refl refl (state_of side log).is_open (λ z. z) a.work.is_open_same

  pub event-follows : (e : Event) → event_of turn ≡ Some e → Amid side (with_datagram_queued turn (with_turn turn d)) (Reported e ∷ log) (after_event e) [] position uncollected
  event-follows e r = subst (λ (x : DriverNow). Amid side x (Reported e ∷ log) (after_event e) [] position uncollected) (sym (queued-is turn (with_turn turn d))) (by-event e r)
