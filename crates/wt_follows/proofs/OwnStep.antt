-- The first step of a moment: this end's control stream is opened and sends its head, as far as credit goes.
use Rattle.std.proofs.Common.{◌∙◌, ◌≡◌, ◌≤◌, ◌+◌, ◌-◌, ◌*◌, ◌++◌, ◌∷◌, Bool, List, None, Option, Some, [], add-zero, ap, arith, drop, false, length, nat_lt, refl, subst, sym, take, true, ℕ}
use Rattle.std.proofs.lemmas.Bool.{eqb-true, ne_eqb, true≢false}
use Rattle.std.proofs.lemmas.List.{length-drop, length-take}
use Rattle.std.specs.Prelude.{◌&&◌, ◌%◌, ◌==◌, ◌||◌, if◌then◌else◌, is_some, not}
use Rattle.wt_follows.proofs.Logs.{same-id}
use Rattle.wt_follows.proofs.OwnActions.{covered-by, own-count, own-exists, own-finished, own-open, own-opened, own-others, own-reset, own-sent, own_actions, no-peer, no-peer-bi, no-peer-uni, rest-length, within-credit}
use Rattle.wt_follows.proofs.ScanStep.{arriving-kept}
use Rattle.wt_follows.proofs.Stopped.{exists-more}
use Rattle.wt_follows.specs.Tie.{Amid, OwnFollows, Sends}
use Rattle.wt_kept.specs.Arriving.{peer_kind}
use Rattle.wt_kept.specs.Kept.{DriverNow, OwnControlNow}
use Rattle.wt_kept.specs.Moment.{OwnFlushed, head_sent, is_ready_now, own_flushed, own_opened, own_sent, own_step}
use Rattle.wt_kept.specs.Readers.{bi_rules, uni_rules}
use Rattle.wt_message.specs.FixedBytes.{local_control_bytes}
use Rattle.wt_meaning.specs.Sends.{action_if}
use Rattle.wt_transport.proofs.Asking.{refined_peer_bis, refined_peer_unis}
use Rattle.wt_transport.proofs.Bools.{first}
use Rattle.wt_transport.proofs.Refining.{refined_may_send, refined_sent, refined_side, refined_uni, send_refines, uni_refines}
use Rattle.wt_transport.specs.State.{Refines, TransportState}
use Rattle.wt_transport.specs.Step.{after_opening, after_send, count_now, covered_now, may_send_now, opened_id_now}
use Rattle.wt_transport.specs.StreamState.{Stream}
use Rattle.wt_turn.specs.Joined.{newest_first, send_of}
use Rattle.wt_turn.specs.Outgoing.{actions_to_open, bytes_within_credit, credit_left, may_open, may_send, next_id, streams_allowed}
use Rattle.wt_turn.specs.Reports.{bis_allowed, credit, is_connected, stop_of, unis_allowed}
use Rattle.wt_turn.specs.Sent.{sent_on}
use Rattle.wt_turn.specs.Streams.{can_receive, contents, exists, local_count, local_uni, peer_bi, peer_uni, stream_count}
use Rattle.wt_turn.specs.Unread.{ReadPosition}
use Rattle.wt_sessions.specs.Driver.{ControlSent, control_actions, control_sent, settings_ready, still_sends}
use Rattle.wt_sessions.specs.DriverState.{DriverState}
use Rattle.wt_turn.specs.Log.{Log, Sent, actions_of, all_events_of, events_of, is_open, with_actions}
use Rattle.wt_turn.specs.declared.action.Action.{Action}
use Rattle.wt_turn.specs.declared.action.Action.TheVariants as actions
use Rattle.wt_wire.specs.Varint.{varint_bytes}
use Rattle.wt_wire.specs.declared.side.Side.{Side}

pub head-length : length local_control_bytes ≡ 25
unfolding varint_bytes
head-length = refl

module _ (side : Side) (log : Log) where
  abbrev id : ℕ
  id = local_uni side

  abbrev sent_before : ControlSent
  sent_before = control_sent side log

  -- what is left of the head, as far as credit goes
  abbrev pub head_rest : List ℕ
  head_rest = drop sent_before.sent (take (credit (events_of log) id) local_control_bytes)

  abbrev pub may_open_own : Bool
  may_open_own = nat_lt 0 (unis_allowed (events_of log))

  -- what goes out
  abbrev pub head_actions : List Action
  head_actions = control_actions may_open_own id (credit (events_of log) id) sent_before

  -- ---- sending

  module _ (g : Log) (t : TransportState) (position : ℕ → ReadPosition) (left : List Action) (r : Refines side t g position left) (may : may_send side g id ≡ true) (sent : ℕ) (sent_is : length (sent_on (actions_of g) id) ≡ sent)
      (credit_is : credit (all_events_of g) id ≡ credit (events_of log) id) where
    abbrev piece : List ℕ
    piece = drop sent local_control_bytes

    abbrev part : List ℕ
    part = drop sent (take (credit (events_of log) id) local_control_bytes)

    credit-left-is : credit_left g id ≡ credit (events_of log) id - sent
    credit-left-is = λ i. credit_is i - sent_is i

    part-is : bytes_within_credit g id piece ≡ part
    part-is = ap (λ n. take n piece) credit-left-is ∙ within-credit sent (credit (events_of log) id) local_control_bytes

    may-now : may_send_now t id ≡ true
    may-now = refined_may_send side t g position left r id ∙ may

    pub sent-refines : Refines side (after_send t id piece) (with_actions (send_of id part) g) position (newest_first (send_of id part) left)
    sent-refines = subst (λ (xs : List ℕ). Refines side (after_send t id piece) (with_actions (send_of id xs) g) position (newest_first (send_of id xs) left)) part-is (send_refines side t g position left r id piece may-now)

    pub covered-length : length (covered_now t id piece) ≡ length part
    covered-length = refined_sent side t g position left r id piece may-now ∙ (omega (arith, length-take (credit_left g id) piece, ap length part-is))

  -- ---- of a driver

  -- what this end's control stream and the transport are once this went out
  pub record Flushed (position : ℕ → ReadPosition) (uncollected : List Action) (x : OwnFlushed) (out : List Action) : Type 0 where
    pub refines : Refines side x.transport (with_actions out log) position (newest_first out uncollected)
    pub own : OwnFollows side x.own (control_sent side (with_actions out log))

  module _ (d : DriverNow) (s : DriverState) (position : ℕ → ReadPosition) (uncollected : List Action) (amid : Amid side d log s [] position uncollected) (opened : s.is_open ≡ true)
      (rests : is_some (stop_of (events_of log) id) ≡ true → head_rest ≡ []) where
    abbrev c : OwnControlNow
    c = d.own_control

    abbrev t : TransportState
    t = d.work.transport

    abbrev refines : Refines side t log position uncollected
    refines = amid.work.transport

    log-open : is_open log ≡ true
    log-open = sym amid.work.is_open_same ∙ opened

    events-all : events_of log ≡ all_events_of log
    events-all = refines.facts.open_same log-open

    credit-all : credit (all_events_of log) id ≡ credit (events_of log) id
    credit-all = ap (λ es. credit es id) (sym events-all)

    -- before it is opened nothing is kept of it
    unsent : sent_before.opened ≡ false → (sent_before.sent ≡ 0) × (stop_of (events_of log) id ≡ None)
    unsent e =
        let fresh-is = (refines.facts.streams id).unopened (own-exists side log ∙ e) in
        (ap (λ (x : Stream). x.sent) fresh-is, ap (λ (x : Stream). x.signals.stop) fresh-is)

    credit-covers : sent_before.sent ≤ credit (events_of log) id
    credit-covers = subst (λ n. sent_before.sent ≤ n) credit-all (refines.facts.streams id).sent

    rest-fits : sent_before.sent + length head_rest ≤ length local_control_bytes
    rest-fits =
        (let le = amid.own.within in omega (arith, le, length-drop sent_before.sent (take (credit (events_of log) id) local_control_bytes), length-take (credit (events_of log) id) local_control_bytes))

    allowed-may : sent_before.opened ≡ true → may_open_own ≡ true
    allowed-may e = amid.allowed e

    -- what goes out, by whether it is open
    actions-open : sent_before.opened ≡ true → head_actions ≡ own_actions id false head_rest
    actions-open e = (λ i. control_actions (allowed-may e i) id (credit (events_of log) id) sent_before) ∙ ap (λ b. action_if (not b) (actions.Opened id) ++ send_of id head_rest) e

    actions-new : sent_before.opened ≡ false → may_open_own ≡ true → head_actions ≡ own_actions id true head_rest
    actions-new e f = (λ i. control_actions (f i) id (credit (events_of log) id) sent_before) ∙ ap (λ b. action_if (not b) (actions.Opened id) ++ send_of id head_rest) e

    actions-none : may_open_own ≡ false → head_actions ≡ own_actions id false []
    actions-none f = λ i. control_actions (f i) id (credit (events_of log) id) sent_before

    -- this end's control stream then
    own-after : (b : Bool) (part : List ℕ) (x : OwnControlNow) → x.stream ≡ (if b || sent_before.opened then Some id else None) → x.sent ≡ sent_before.sent + length part → sent_before.sent + length part ≤ length local_control_bytes
        → OwnFollows side x (control_sent side (with_actions (own_actions id b part) log))
    own-after b part x e f le = record {
      stream = e ∙ ap (λ a. if a then Some id else None) (sym (own-opened side log b part));
      sent_same = f ∙ sym (own-sent side log b part);
      within = subst (λ n. n ≤ length local_control_bytes) (sym (own-sent side log b part)) le;
    }

    abbrev IsFlushed : OwnFlushed → List Action → Type 0
    IsFlushed x out = Flushed position uncollected x out

    -- nothing goes out
    nothing-out : (out : List Action) → out ≡ [] → IsFlushed (record { own = c; transport = t }) out
    nothing-out out e = subst (λ (xs : List Action). IsFlushed (record { own = c; transport = t }) xs) (sym e) (record { refines = refines; own = amid.own })

    own-none : head_rest ≡ [] → own_actions id false head_rest ≡ []
    own-none e = ap (λ xs. own_actions id false xs) e

    -- it is open, and may send or not
    sends-by : (b : Bool) → may_send_now t id ≡ b → sent_before.opened ≡ true → IsFlushed (head_sent b id c t) (own_actions id false head_rest)
    sends-by false may e =
        nothing-out (own_actions id false head_rest) (own-none (rests (stopped (is_some (stop_of (events_of log) id)) refl)))
      where
        -- only a stop keeps it from sending
        stopped : (a : Bool) → is_some (stop_of (events_of log) id) ≡ a → is_some (stop_of (events_of log) id) ≡ true
        stopped true f = f
        stopped false f = absurd (true≢false (sym (λ i. log-open i && ((own-exists side log ∙ e) i && not (other i)) && not (amid.work.sends.own.0 i) && not (amid.work.sends.own.1 i) && not (f i)) ∙ (sym (refined_may_send side t log position uncollected refines id) ∙ may)))
          where
            other : (peer_uni side == id % 4) ≡ false
            other = no-peer side
    sends-by true may e =
        let may_g : may_send side log id ≡ true = sym (refined_may_send side t log position uncollected refines id) ∙ may in
        let piece_is : drop c.sent local_control_bytes ≡ drop sent_before.sent local_control_bytes = ap (λ n. drop n local_control_bytes) amid.own.sent_same in
        subst (λ (xs : List ℕ). IsFlushed (record { own = record c { sent = c.sent + length (covered_now t id xs) }; transport = after_send t id xs }) (own_actions id false head_rest)) (sym piece_is)
        (record {
          refines = sent-refines log t position uncollected refines may_g sent_before.sent refl credit-all;
          own = own-after false head_rest (record c { sent = c.sent + length (covered_now t id (drop sent_before.sent local_control_bytes)) }) amid.own.stream
              (λ i. amid.own.sent_same i + covered-length log t position uncollected refines may_g sent_before.sent refl credit-all i) rest-fits;
        })

    -- ---- it is opened

    module _ (unopened : sent_before.opened ≡ false) where
      none-there : stream_count side log id ≡ 0
      none-there = own-count side log ∙ none (local_count (actions_of log) id) unopened
        where
          none : (n : ℕ) → not (n == 0) ≡ false → n ≡ 0
          none n e = eqb-true n 0 (false-not (n == 0) e)
            where
              false-not : (b : Bool) → not b ≡ false → b ≡ true
              false-not true e = refl
              false-not false e = absurd cc

      allowed-is : streams_allowed side log id ≡ unis_allowed (events_of log)
      allowed-is = ap (λ b. if b then unis_allowed (all_events_of log) else bis_allowed (all_events_of log)) (same-id id) ∙ ap unis_allowed (sym events-all)

      may-open-is : may_open side log id ≡ may_open_own
      may-open-is = λ i. log-open i && nat_lt (none-there i) (allowed-is i)

      next-is : next_id side log id ≡ id
      next-is = ap (λ n. 4 * n + id) none-there ∙ (let e : 4 * 0 + id ≡ id = omega arith in e)

      opening-is : actions_to_open side log id ≡ action_if may_open_own (actions.Opened id)
      opening-is = (λ i. if may-open-is i then actions.Opened (next-is i) ∷ [] else []) ∙ by may_open_own
        where
          by : (b : Bool) → (if b then actions.Opened id ∷ [] else []) ≡ action_if b (actions.Opened id)
          by true = refl
          by false = refl

      id-is : opened_id_now t (local_uni t.side) ≡ (if may_open_own then Some id else None)
      id-is = refined_uni side t log position uncollected refines ∙ (λ i. if may-open-is i then Some (next-is i) else None)

      opened-refines : Refines side (after_opening t (local_uni t.side)) (with_actions (action_if may_open_own (actions.Opened id)) log) position (newest_first (action_if may_open_own (actions.Opened id)) uncollected)
      opened-refines = subst (λ (xs : List Action). Refines side (after_opening t (local_uni t.side)) (with_actions xs log) position (newest_first xs uncollected)) opening-is (uni_refines side t log position uncollected refines)

      abbrev then_sent : Option ℕ → OwnFlushed
      then_sent k = own_sent k (record c { stream = k }) (after_opening t (local_uni t.side))

      -- it may not be opened yet
      waits-on : may_open_own ≡ false → IsFlushed (then_sent None) head_actions
      waits-on e =
          subst (λ (xs : List Action). IsFlushed (then_sent None) xs) (sym (actions-none e))
          (record {
            refines = subst (λ (b : Bool). Refines side (after_opening t (local_uni t.side)) (with_actions (action_if b (actions.Opened id)) log) position (newest_first (action_if b (actions.Opened id)) uncollected)) e opened-refines;
            own = own-after false [] (record c { stream = None }) (sym (ap (λ a. if a then Some id else None) unopened)) (amid.own.sent_same ∙ sym (add-zero sent_before.sent))
                (let le = amid.own.within in omega (arith, le));
          })

      -- it is opened, and sends
      opens-now : may_open_own ≡ true → IsFlushed (then_sent (Some id)) head_actions
      opens-now e =
          let g : Log = Sent (actions.Opened id) ∷ log in
          let u : TransportState = after_opening t (local_uni t.side) in
          let refines_then : Refines side u g position (actions.Opened id ∷ uncollected) =
          subst (λ (b : Bool). Refines side (after_opening t (local_uni t.side)) (with_actions (action_if b (actions.Opened id)) log) position (newest_first (action_if b (actions.Opened id)) uncollected)) e opened-refines in
          let may : may_send side g id ≡ true =
          (λ i. log-open i && ((own-exists side g ∙ own-opened side log true []) i && not (no-peer side i)) && not (amid.work.sends.own.0 i) && not (amid.work.sends.own.1 i) && not (is_some ((unsent unopened).1 i))) in
          let piece_is : drop c.sent local_control_bytes ≡ drop sent_before.sent local_control_bytes = ap (λ n. drop n local_control_bytes) amid.own.sent_same in
          subst (λ (xs : List Action). IsFlushed (then_sent (Some id)) xs) (sym (actions-new unopened e))
          (subst (λ (b : Bool). IsFlushed (head_sent b id (record c { stream = Some id }) u) (own_actions id true head_rest)) (sym (refined_may_send side u g position (actions.Opened id ∷ uncollected) refines_then id ∙ may))
          (subst (λ (xs : List ℕ). IsFlushed (record { own = record c { stream = Some id; sent = c.sent + length (covered_now u id xs) }; transport = after_send u id xs }) (own_actions id true head_rest)) (sym piece_is)
          (record {
            refines = sent-refines g u position (actions.Opened id ∷ uncollected) refines_then may sent_before.sent refl credit-all;
            own = own-after true head_rest (record c { stream = Some id; sent = c.sent + length (covered_now u id (drop sent_before.sent local_control_bytes)) }) refl
                (λ i. amid.own.sent_same i + covered-length g u position (actions.Opened id ∷ uncollected) refines_then may sent_before.sent refl credit-all i) rest-fits;
          })))

      unopened-flushed : IsFlushed (then_sent (opened_id_now t (local_uni t.side))) head_actions
      unopened-flushed = subst (λ (k : Option ℕ). IsFlushed (then_sent k) head_actions) (sym id-is) (by may_open_own refl)
        where
          by : (b : Bool) → may_open_own ≡ b → IsFlushed (then_sent (if b then Some id else None)) head_actions
          by true e = opens-now e
          by false e = waits-on e

    -- ---- both

    -- where its whole head is out nothing is left
    all-out : is_ready_now c ≡ true → head_rest ≡ []
    all-out e =
        let whole : sent_before.sent ≡ length local_control_bytes = sym amid.own.sent_same ∙ eqb-true c.sent (length local_control_bytes) e in
        nothing-left head_rest (let fits = rest-fits in omega (arith, fits, whole))
      where
        nothing-left : (xs : List ℕ) → length xs ≤ 0 → xs ≡ []
        nothing-left [] le = refl
        nothing-left (x ∷ xs) le = absurd (omega (arith, le))

    abbrev unready : OwnFlushed
    unready = let x = own_opened c.stream c t in own_sent x.own.stream x.own x.transport

    stream-open : sent_before.opened ≡ true → c.stream ≡ Some id
    stream-open e = amid.own.stream ∙ ap (λ a. if a then Some id else None) e

    stream-none : sent_before.opened ≡ false → c.stream ≡ None
    stream-none e = amid.own.stream ∙ ap (λ a. if a then Some id else None) e

    open-flushed : (o : Option ℕ) → c.stream ≡ o → (b : Bool) → sent_before.opened ≡ b → IsFlushed (let x = own_opened o c t in own_sent x.own.stream x.own x.transport) head_actions
    open-flushed (Some k) f true e =
        subst (λ (xs : List Action). IsFlushed (own_sent c.stream c t) xs) (sym (actions-open e))
        (subst (λ (o : Option ℕ). IsFlushed (own_sent o c t) (own_actions id false head_rest)) (sym (stream-open e)) (sends-by (may_send_now t id) refl e))
    open-flushed None f false e = unopened-flushed e
    open-flushed None f true e = absurd (let g = sym f ∙ stream-open e in cc)
    open-flushed (Some k) f false e = absurd (let g = sym f ∙ stream-none e in cc)

    pub flushed : IsFlushed (own_flushed c t) head_actions
    flushed = by (is_ready_now c) refl
      where
        by : (b : Bool) → is_ready_now c ≡ b → IsFlushed (if b then record { own = c; transport = t } else unready) head_actions
        by true e = nothing-out head_actions (none-out (is_ready_now c) e sent_before.opened refl)
          where
            none-out : (a : Bool) → is_ready_now c ≡ true → (b : Bool) → sent_before.opened ≡ b → head_actions ≡ []
            none-out a e true f = actions-open f ∙ own-none (all-out e)
            none-out a e false f =
                absurd (let none = (unsent f).0 in let whole : c.sent ≡ length local_control_bytes = eqb-true c.sent (length local_control_bytes) e in let same = amid.own.sent_same in
                let long = head-length in omega (arith, none, whole, same, long))
        by false e = open-flushed c.stream refl sent_before.opened refl

    -- ---- what goes out, as an opening and a sending

    pub record Shape : Type 0 where
      pub opens : Bool
      pub part : List ℕ
      pub same : head_actions ≡ own_actions id opens part
      pub allowed : (opens || sent_before.opened) ≡ true → may_open_own ≡ true
      pub whole : (sent_before.sent + length part == length local_control_bytes) ≡ settings_ready side log

    -- the head is out where credit covers all of it
    covered : (sent_before.sent + length head_rest == length local_control_bytes) ≡ not (nat_lt (credit (events_of log) id) (length local_control_bytes))
    covered =
        covered-by sent_before.sent (credit (events_of log) id) (length local_control_bytes) (length head_rest) credit-covers amid.own.within (rest-length sent_before.sent (credit (events_of log) id) local_control_bytes)

    -- streams are allowed on an established connection alone
    connected-by : may_open_own ≡ true → is_connected (events_of log) ≡ true
    connected-by e = by (is_connected (all_events_of log)) refl
      where
        by : (b : Bool) → is_connected (all_events_of log) ≡ b → is_connected (events_of log) ≡ true
        by true f = ap is_connected events-all ∙ f
        by false f =
            absurd (let none : streams_allowed side log id ≡ 0 = refines.facts.unallowed f id in
            let zero_is : unis_allowed (events_of log) ≡ 0 = ap unis_allowed events-all ∙ (sym (ap (λ b. if b then unis_allowed (all_events_of log) else bis_allowed (all_events_of log)) (same-id id)) ∙ none) in
            let lt : nat_lt 0 (unis_allowed (events_of log)) ≡ true = e in
            true≢false (sym lt ∙ ap (nat_lt 0) zero_is))

    ready-is : may_open_own ≡ true → settings_ready side log ≡ not (nat_lt (credit (events_of log) id) (length local_control_bytes))
    ready-is e = λ i. connected-by e i && e i && not (nat_lt (credit (events_of log) id) (length local_control_bytes))

    unready-is : may_open_own ≡ false → settings_ready side log ≡ false
    unready-is e = (λ i. is_connected (events_of log) && e i && not (nat_lt (credit (events_of log) id) (length local_control_bytes))) ∙ none (is_connected (events_of log))
      where
        none : (b : Bool) → (b && false && not (nat_lt (credit (events_of log) id) (length local_control_bytes))) ≡ false
        none true = refl
        none false = refl

    pub shape : Shape
    shape = by sent_before.opened refl may_open_own refl
      where
        by : (o : Bool) → sent_before.opened ≡ o → (m : Bool) → may_open_own ≡ m → Shape
        by true e m f = record { opens = false; part = head_rest; same = actions-open e; allowed = λ g. allowed-may e; whole = covered ∙ sym (ready-is (allowed-may e)) }
        by false e true f = record { opens = true; part = head_rest; same = actions-new e f; allowed = λ g. f; whole = covered ∙ sym (ready-is f) }
        by false e false f = record {
          opens = false;
          part = [];
          same = actions-none f;
          allowed = λ g. absurd (true≢false (sym g ∙ e));
          whole = ne_eqb (sent_before.sent + 0) (length local_control_bytes) (λ g. absurd (let none = (unsent e).0 in let long = head-length in omega (arith, g, none, long))) ∙ sym (unready-is f);
        }

    -- ---- the step

    abbrev x : OwnFlushed
    x = own_flushed c t

    module _ (b : Bool) (part : List ℕ) (f : IsFlushed x (own_actions id b part)) (allowed : (b || sent_before.opened) ≡ true → may_open_own ≡ true) where
      abbrev after : Log
      after = with_actions (own_actions id b part) log

      still-same : (j : ℕ) → exists side log j ≡ true → still_sends side after j ≡ still_sends side log j
      still-same j e =
          λ i. ((exists-more side j (own_actions id b part) log e ∙ sym e) i && not (peer_uni side == j % 4)) && not (own-finished side log b part j i) && not (own-reset side log b part j i)

      receiving-there : (j : ℕ) → can_receive side log j ≡ true → exists side log j ≡ true
      receiving-there j e = first (exists side log j) (not (local_uni side == j % 4)) e

      sends-after : Sends side s log after
      sends-after = record {
        arriving = λ j e. still-same j (receiving-there j (amid.work.there.arriving j e));
        waiting = λ j e. still-same j (receiving-there j (amid.work.there.waiting j e));
        members = λ j session e g. still-same j (amid.work.there.members j session e);
        living = λ j e. still-same j (receiving-there j (amid.work.there.living j e)) ∙ amid.work.sends.living j e;
        own = (own-finished side log b part id ∙ amid.work.sends.own.0, own-reset side log b part id ∙ amid.work.sends.own.1);
      }

      side-same : x.transport.side ≡ t.side
      side-same = refined_side side x.transport after position _ f.refines ∙ sym (refined_side side t log position uncollected refines)

      unis-count : count_now x.transport (peer_uni t.side) ≡ count_now t (peer_uni t.side)
      unis-count = ap (λ z. count_now x.transport (peer_uni z)) (sym side-same) ∙ (refined_peer_unis side x.transport after position _ f.refines
          ∙ (own-others side log b part (peer_uni side) (no-peer-uni side) ∙ sym (refined_peer_unis side t log position uncollected refines)))

      bis-count : count_now x.transport (peer_bi t.side) ≡ count_now t (peer_bi t.side)
      bis-count = ap (λ z. count_now x.transport (peer_bi z)) (sym side-same) ∙ (refined_peer_bis side x.transport after position _ f.refines
          ∙ (own-others side log b part (peer_bi side) (no-peer-bi side) ∙ sym (refined_peer_bis side t log position uncollected refines)))

      pub step-amid : Amid side (own_step d) log s (own_actions id b part) position (newest_first (own_actions id b part) uncollected)
      unfolding own_step
      step-amid = record {
        work = record {
          transport = f.refines;
          is_open_same = amid.work.is_open_same ∙ sym (own-open side log b part);
          keeps = amid.work.keeps;
          roles = amid.work.roles;
          placed = amid.work.placed;
          there = amid.work.there;
          sends = sends-after;
          control = amid.work.control;
          sessions = amid.work.sessions;
        };
        kinds = amid.kinds;
        few = amid.few;
        own = f.own;
        allowed = λ e. allowed (sym (own-opened side log b part) ∙ e);
        unis = λ e. arriving-kept uni_rules d.unis t x.transport side-same
            (subst (λ (k : Bool). count_now x.transport (peer_kind t.side k) ≡ count_now t (peer_kind t.side k)) (sym amid.kinds.0) unis-count) s.unis (contents log) position position (λ j g. refl) (amid.unis e);
        bis = λ e. arriving-kept bi_rules d.bis t x.transport side-same
            (subst (λ (k : Bool). count_now x.transport (peer_kind t.side k) ≡ count_now t (peer_kind t.side k)) (sym amid.kinds.1) bis-count) s.bis (contents log) position position (λ j g. refl) (amid.bis e);
        datagrams = amid.datagrams;
        response = amid.response;
      }

    pub own-lead : Amid side (own_step d) log s head_actions position (newest_first head_actions uncollected)
    own-lead =
        subst (λ (xs : List Action). Amid side (own_step d) log s xs position (newest_first xs uncollected)) (sym shape.same)
        (step-amid shape.opens shape.part (subst (λ (xs : List Action). IsFlushed x xs) shape.same flushed) shape.allowed)

    -- its head is out then where SETTINGS are
    pub own-ready : is_ready_now (own_step d).own_control ≡ settings_ready side log
    unfolding own_step
    own-ready =
        ap (λ n. n == length local_control_bytes) (flushed.own.sent_same ∙ (ap (λ xs. (control_sent side (with_actions xs log)).sent) shape.same ∙ own-sent side log shape.opens shape.part)) ∙ shape.whole
