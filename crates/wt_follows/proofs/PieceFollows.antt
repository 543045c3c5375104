-- A driver that follows the log follows it with a whole piece of a stream: the part that the reader of its header takes, that of the control
-- stream's reader or a session's, and the rest, which waits.
use Rattle.std.proofs.Common.{◌∙◌, ◌≡◌, ◌≤◌, ◌∷◌, Bool, List, None, Option, Some, [], ap, arith, drop, false, length, refl, subst, sym, take, true, true≢false, ℕ}
use Rattle.std.proofs.lemmas.List.{take-append-drop}
use Rattle.std.specs.Prelude.{◌&&◌, ◌==◌, suc, zero, if◌then◌else◌, is_none, is_some, not}
use Rattle.wt_follows.proofs.BodyPut.{body-put}
use Rattle.wt_follows.proofs.EventFollows.{and-second}
use Rattle.wt_follows.proofs.HeaderPut.{header-put}
use Rattle.wt_follows.proofs.PieceLog.{receive-append}
use Rattle.wt_follows.proofs.PieceSlots.{fed-length}
use Rattle.wt_follows.proofs.PutFollows.{Came, Moment, fits-actions, put-follows}
use Rattle.wt_follows.proofs.Puts.{Put}
use Rattle.wt_follows.proofs.QuietEntry.{and-first}
use Rattle.wt_follows.proofs.RestFollows.{receive-closed, rest-closed, rest-open}
use Rattle.wt_follows.proofs.StreamEnds.{actions-all-events, receives-then}
use Rattle.wt_follows.specs.Tie.{goes}
use Rattle.wt_kept.specs.Classifying.{with_dispatched}
use Rattle.wt_kept.specs.Kept.{ArrivingNow, DriverNow, LiveNow}
use Rattle.wt_kept.specs.Moment.{moment_now, with_work, without_datagrams, work_of_moment}
use Rattle.wt_kept.specs.Pieces.{FedNow, after_header, body_fed, body_fed_by, body_feed, body_feed_by, body_part, body_part_if, control_slot, fed_at, fed_slots, header_fed, header_feed, header_part, moment_if, rest_part, slot_of, take_piece_now, work_after}
use Rattle.wt_kept.specs.Readers.{BiReading, ControlReading, ReaderRules, Slot, UniReading, bi_rules, fed_piece, uni_rules}
use Rattle.wt_kept.specs.Windows.{live_in}
use Rattle.wt_transport.proofs.Refining.{refined_open}
use Rattle.wt_turn.specs.Arrivals.{fits, may_receive}
use Rattle.wt_turn.specs.Reports.{end_of, is_connected, is_running, loss_of}
use Rattle.wt_turn.specs.Streams.{can_receive, contents}
use Rattle.wt_sessions.proofs.LogFollows.{log-sends}
use Rattle.wt_sessions.specs.Answers.{receive}
use Rattle.wt_sessions.specs.Driver.{log_and_flush, transport_view}
use Rattle.wt_sessions.specs.DriverState.{state_of}
use Rattle.wt_sessions.specs.Moment.{Fits, moment_actions}
use Rattle.wt_turn.specs.Log.{Event, Log, Received, all_events_of, events_of, is_open, with_actions}
use Rattle.wt_turn.specs.declared.action.Action.{Action}
use Rattle.wt_turn.specs.declared.turn.Turn.TheVariants as turns
use Rattle.wt_wire.specs.Ids.{is_bidirectional}
use Rattle.wt_wire.specs.declared.side.Side.{Side}
use Rattle.wt_wire.specs.declared.side.StreamEnd.{StreamEnd}
use Rattle.wt_wire.specs.declared.side.StreamEnd.TheVariants as ends

-- ---- who has no reader of the stream is as before

pub fed-none : {V O : Type 0} (w : ReaderRules V O) (id : ℕ) (piece : List ℕ) (xs : List (Slot V)) → slot_of id xs ≡ None → fed_slots w id piece xs ≡ xs
fed-none w id piece [] e = refl
fed-none {V} w id piece (x ∷ xs) e = by (x.id == id) e (fed-none w id piece xs)
  where
    by : (b : Bool) → (if b then Some x else slot_of id xs) ≡ None → (slot_of id xs ≡ None → fed_slots w id piece xs ≡ xs)
        → (if b then (record x { reader = fed_piece w x.reader piece }) ∷ xs else x ∷ fed_slots w id piece xs) ≡ x ∷ xs
    by true f later = absurd cc
    by false f later = ap (λ ys. x ∷ ys) (later f)

-- ---- the turn still fits

running-of : (e : StreamEnd) → is_running e ≡ true → e ≡ ends.Running
running-of ends.Running f = refl
running-of ends.Fin f = absurd cc
running-of (ends.Reset code) f = absurd cc

more-true : (a e later r l : Bool) → (e ≡ true → later ≡ true) → ((a && e && r) && l) ≡ true → ((a && later && r) && l) ≡ true
more-true false e later r l h f = absurd cc
more-true true false later r l h f = absurd cc
more-true true true later r l h f = ap (λ b. (true && b && r) && l) (h refl) ∙ f

module _ (side : Side) (id : ℕ) where
  -- bytes of the stream may still come
  abbrev pub Comes : Log → Type 0
  Comes log = fits side log (turns.Bytes id []) ≡ true

  comes-sent : (xs : List Action) (log : Log) → Comes log → Comes (with_actions xs log)
  comes-sent xs log f =
      ap (λ (es : List Event). (is_connected es && can_receive side (with_actions xs log) id && is_running (end_of es id)) && not (is_some (loss_of es))) (actions-all-events xs log)
      ∙ more-true (is_connected (all_events_of log)) (can_receive side log id) (can_receive side (with_actions xs log) id) (is_running (end_of (all_events_of log) id)) (not (is_some (loss_of (all_events_of log)))) (receives-then side xs log id) f

  pub comes-after : (piece : List ℕ) (log : Log) → Fits side log → Comes log → Comes (receive side log id piece)
  comes-after [] log laws f = f
  comes-after (byte ∷ piece) log laws f = by (is_open log) (comes-after piece)
    where
      by : (o : Bool) → ((g : Log) → Fits side g → Comes g → Comes (receive side g id piece)) → Comes (receive side (if o then log_and_flush side log (Received id byte) else log) id piece)
      by false again = again log laws f
      by true again =
          let next : Log = Received id byte ∷ log in
          let acts : List Action = moment_actions (transport_view side log) (transport_view side next) (Received id byte) (state_of side log) in
          subst (λ (g : Log). Comes (receive side g id piece)) (sym (log-sends side log (Received id byte) (tt, laws)))
          (again (with_actions acts next) (fits-actions side acts next (tt, laws)) (comes-sent acts next f))

-- ---- the parts

-- After the moment of the byte with which what a reader says is final nobody reads the stream any more, where the connection is still open.
pub record Leaves (side : Side) : Type 0 where
  pub header : (old : List Action) (d : DriverNow) (log : Log) (c : Came side old d log) (opened : is_open log ≡ true) (id : ℕ) (byte : ℕ) (later : List ℕ) (lawful : fits side log (turns.Bytes id []) ≡ true) (feed : FedNow)
      → header_feed id (byte ∷ later) d ≡ Some feed → feed.is_final ≡ true → is_open (receive side log id (take feed.taken (byte ∷ later))) ≡ true
      → (e : DriverNow) → Came side old e (receive side log id (take feed.taken (byte ∷ later))) → (more : List ℕ) → header_feed id more e ≡ None
  pub body : (old : List Action) (d : DriverNow) (log : Log) (c : Came side old d log) (opened : is_open log ≡ true) (id : ℕ) (byte : ℕ) (later : List ℕ) (lawful : fits side log (turns.Bytes id []) ≡ true) (feed : FedNow)
      → body_feed id (byte ∷ later) d.work.dispatched ≡ Some feed → feed.is_final ≡ true → is_open (receive side log id (take feed.taken (byte ∷ later))) ≡ true
      → (e : DriverNow) → Came side old e (receive side log id (take feed.taken (byte ∷ later))) → (more : List ℕ) → (header_feed id more e ≡ None) × (body_feed id more e.work.dispatched ≡ None)

module _ (side : Side) (old : List Action) (id : ℕ) where
  module _ (d : DriverNow) (log : Log) (c : Came side old d log) (lawful : Comes side id log) where
    transport-open : d.work.transport.is_open ≡ is_open log
    transport-open = refined_open side d.work.transport log c.follows.position c.uncollected c.follows.amid.work.transport

    pub running : is_open log ≡ true → end_of (events_of log) id ≡ ends.Running
    running opened =
        ap (λ (es : List Event). end_of es id) (c.follows.amid.work.transport.facts.open_same opened)
        ∙ running-of (end_of (all_events_of log) id)
        (and-second (is_connected (all_events_of log) && can_receive side log id) (is_running (end_of (all_events_of log) id))
        (and-first (may_receive side log id) (not (is_some (loss_of (all_events_of log)))) lawful))

    -- after the end nothing of what came counts
    closed-came : is_open log ≡ false → (u : ArrivingNow UniReading) (b : ArrivingNow BiReading) (datagrams : List (List ℕ)) → u.bidirectional ≡ false → b.bidirectional ≡ true → length u.reading ≤ 4 → length b.reading ≤ 4
        → Came side old (record d { unis = u; bis = b; datagrams = datagrams }) log
    closed-came shut u b datagrams is_uni is_bi few_unis few_bis = record {
      uncollected = c.uncollected;
      follows = record {
        position = c.follows.position;
        amid = record {
          work = c.follows.amid.work;
          kinds = (is_uni, is_bi);
          few = (few_unis, few_bis);
          own = c.follows.amid.own;
          allowed = c.follows.amid.allowed;
          unis = λ g. absurd (true≢false (sym g ∙ stopped));
          bis = λ g. absurd (true≢false (sym g ∙ stopped));
          datagrams = λ g. absurd (true≢false (sym g ∙ stopped));
          response = c.follows.amid.response;
        };
        rests = λ e. absurd (true≢false (sym e ∙ shut));
      };
      all = c.all;
      fits = c.fits;
    }
      where
        stopped : goes (state_of side log) ≡ false
        stopped = λ i. (c.follows.amid.work.is_open_same ∙ shut) i && is_none (state_of side log).progress.fault

    -- ---- the rest

    rest-follows : (piece : List ℕ) → (is_open log ≡ true → header_feed id piece d ≡ None) → (is_open log ≡ true → body_feed id piece d.work.dispatched ≡ None) → Came side old (rest_part id piece d) (receive side log id piece)
    unfolding rest_part
    rest-follows [] no_header no_body = c
    rest-follows (byte ∷ later) no_header no_body = by (is_open log) refl
      where
        by : (o : Bool) → is_open log ≡ o → Came side old (rest_part id (byte ∷ later) d) (receive side log id (byte ∷ later))
        by true e = rest-open side old id d log c lawful byte later e (no_header e) (no_body e)
        by false e = rest-closed side old id d log c lawful (byte ∷ later) e

module _ (side : Side) (moment : Moment side) (leaves : Leaves side) (old : List Action) (id : ℕ) where
  -- a part, and then what is left
  in-two : (piece : List ℕ) (n : ℕ) (log : Log) → receive side log id piece ≡ receive side (receive side log id (take n piece)) id (drop n piece)
  in-two piece n log = ap (receive side log id) (sym (take-append-drop n piece)) ∙ receive-append side id (take n piece) (drop n piece) log

  past : (n : ℕ) (xs : List ℕ) → length xs ≤ n → drop n xs ≡ []
  past zero [] le = refl
  past (suc n) [] le = refl
  past zero (x ∷ xs) le = absurd (omega (arith, le))
  past (suc n) (x ∷ xs) le = past n xs (omega (arith, le))

  -- ---- the body's part

  body-same : (byte : ℕ) (later : List ℕ) (d : DriverNow) → body_feed id (byte ∷ later) d.work.dispatched ≡ None → with_work (with_dispatched (body_fed id (byte ∷ later))) d ≡ d
  body-same byte later d e = by (control_slot id d.work.dispatched.critical.control) (live_in d.work.dispatched.sessions id) e
    where
      by : (x : Option (Slot ControlReading)) (l : Option LiveNow) → body_feed_by (byte ∷ later) x l ≡ None
          → record d { work = record d.work { dispatched = body_fed_by id (byte ∷ later) x l d.work.dispatched } } ≡ d
      by (Some x) l f = absurd cc
      by None (Some l) f = absurd cc
      by None None f = refl

  module _ (d : DriverNow) (log : Log) (c : Came side old d log) (lawful : Comes side id log) where
    -- the rest after a part that a reader took
    rest-after : (whole : List ℕ) (feed : FedNow) (e : DriverNow) → Came side old (moment_if feed.is_final e) (receive side log id (take feed.taken whole)) → (feed.is_final ≡ false → feed.taken ≡ length whole)
        → (feed.is_final ≡ true → is_open (receive side log id (take feed.taken whole)) ≡ true → (header_feed id (drop feed.taken whole) (moment_if feed.is_final e) ≡ None) × (body_feed id (drop feed.taken whole) (moment_if feed.is_final e).work.dispatched ≡ None))
        → Came side old (rest_part id (drop feed.taken whole) (moment_if feed.is_final e)) (receive side log id whole)
    unfolding rest_part
    rest-after whole feed e after all none = subst (Came side old (rest_part id (drop feed.taken whole) (moment_if feed.is_final e))) (sym (in-two whole feed.taken log)) (by feed.is_final refl)
      where
        g : Log
        g = receive side log id (take feed.taken whole)

        by : (b : Bool) → feed.is_final ≡ b → Came side old (rest_part id (drop feed.taken whole) (moment_if feed.is_final e)) (receive side g id (drop feed.taken whole))
        by false f =
            subst (λ xs. Came side old (rest_part id xs (moment_if feed.is_final e)) (receive side g id xs)) (sym (past feed.taken whole (let l = all f in omega (arith, l)))) after
        by true f =
            rest-follows side old id (moment_if feed.is_final e) g after (comes-after side id (take feed.taken whole) log c.fits lawful) (drop feed.taken whole) (λ o. (none f o).0) (λ o. (none f o).1)

    -- the control stream's reader or a session's takes a part, and nobody the rest
    pub body-follows : (piece : List ℕ) → (is_open log ≡ true → header_feed id piece d ≡ None) → Came side old (after_header id piece d) (receive side log id piece)
    unfolding body_part rest_part
    body-follows piece no_header = by (is_open log) refl
      where
        at : (piece : List ℕ) → is_open log ≡ true → header_feed id piece d ≡ None → Came side old (let x = body_part_if true id piece d in rest_part id (drop x.taken piece) x.driver) (receive side log id piece)
        at [] opened no_reader = c
        at (byte ∷ later) opened no_reader = fed (body_feed id (byte ∷ later) d.work.dispatched) refl
          where
            fed : (o : Option FedNow) → body_feed id (byte ∷ later) d.work.dispatched ≡ o
                → Came side old (let x = work_after o (with_work (with_dispatched (body_fed id (byte ∷ later))) d) in rest_part id (drop x.taken (byte ∷ later)) x.driver) (receive side log id (byte ∷ later))
            fed None e =
                subst (λ z. Came side old (rest_part id (byte ∷ later) z) (receive side log id (byte ∷ later))) (sym (body-same byte later d e))
                (rest-follows side old id d log c lawful (byte ∷ later) (λ o. no_reader) (λ o. e))
            fed (Some feed) e =
                let put = body-put side d log c.follows.position c.uncollected c.follows.amid opened (c.follows.rests opened) id byte later (running side old id d log c lawful opened) feed e in
                let after = put-follows side moment old d log id (byte ∷ later) c opened feed (with_work (with_dispatched (body_fed id (byte ∷ later))) d) put in
                rest-after (byte ∷ later) feed (with_work (with_dispatched (body_fed id (byte ∷ later))) d) after (λ f. (put.all f).0)
                (λ f o. leaves.body old d log c opened id byte later lawful feed e f o (moment_if feed.is_final (with_work (with_dispatched (body_fed id (byte ∷ later))) d)) after (drop feed.taken (byte ∷ later)))

        by : (o : Bool) → is_open log ≡ o → Came side old (after_header id piece d) (receive side log id piece)
        by false e =
            subst (λ b. Came side old (let x = body_part_if b id piece d in rest_part id (drop x.taken piece) x.driver) (receive side log id piece)) (sym (transport-open side old id d log c lawful ∙ e))
            (rest-closed side old id d log c lawful piece e)
        by true e =
            subst (λ b. Came side old (let x = body_part_if b id piece d in rest_part id (drop x.taken piece) x.driver) (receive side log id piece)) (sym (transport-open side old id d log c lawful ∙ e))
            (at piece e (no_header e))

    -- ---- the header's part

    header-same : (piece : List ℕ) → header_feed id piece d ≡ None → header_fed id piece d ≡ d
    header-same piece e = by (is_bidirectional id) e
      where
        bi-by : (o : Option (Slot BiReading)) → slot_of id d.bis.reading ≡ o → fed_at bi_rules piece o ≡ None → record d { bis = record d.bis { reading = fed_slots bi_rules id piece d.bis.reading } } ≡ d
        bi-by None f g = λ i. record d { bis = record d.bis { reading = fed-none bi_rules id piece d.bis.reading f i } }
        bi-by (Some x) f g = absurd cc

        uni-by : (o : Option (Slot UniReading)) → slot_of id d.unis.reading ≡ o → fed_at uni_rules piece o ≡ None → record d { unis = record d.unis { reading = fed_slots uni_rules id piece d.unis.reading } } ≡ d
        uni-by None f g = λ i. record d { unis = record d.unis { reading = fed-none uni_rules id piece d.unis.reading f i } }
        uni-by (Some x) f g = absurd cc

        by : (b : Bool) → (if b then fed_at bi_rules piece (slot_of id d.bis.reading) else fed_at uni_rules piece (slot_of id d.unis.reading)) ≡ None
            → (if b then record d { bis = record d.bis { reading = fed_slots bi_rules id piece d.bis.reading } } else record d { unis = record d.unis { reading = fed_slots uni_rules id piece d.unis.reading } }) ≡ d
        by true f = bi-by (slot_of id d.bis.reading) refl f
        by false f = uni-by (slot_of id d.unis.reading) refl f

    -- after the end of the connection its moment does nothing
    shut-moment : is_open log ≡ false → (final : Bool) (u : ArrivingNow UniReading) (b : ArrivingNow BiReading) → u.bidirectional ≡ false → b.bidirectional ≡ true → length u.reading ≤ 4 → length b.reading ≤ 4
        → Came side old (moment_if final (record d { unis = u; bis = b })) log
    unfolding moment_now
    shut-moment shut false u b is_uni is_bi few_unis few_bis = closed-came side old id d log c lawful shut u b d.datagrams is_uni is_bi few_unis few_bis
    shut-moment shut true u b is_uni is_bi few_unis few_bis =
        subst (λ (o : Bool). Came side old (if o then work_of_moment (record d { unis = u; bis = b }) else without_datagrams false (record d { unis = u; bis = b })) log) (sym (transport-open side old id d log c lawful ∙ shut))
        (closed-came side old id d log c lawful shut u b [] is_uni is_bi few_unis few_bis)

    closed-header : is_open log ≡ false → (piece : List ℕ) (final : Bool) → Came side old (moment_if final (header_fed id piece d)) log
    closed-header shut piece final = by (is_bidirectional id)
      where
        by : (b : Bool) → Came side old (moment_if final (if b then record d { bis = record d.bis { reading = fed_slots bi_rules id piece d.bis.reading } } else record d { unis = record d.unis { reading = fed_slots uni_rules id piece d.unis.reading } })) log
        by true =
            shut-moment shut final d.unis (record d.bis { reading = fed_slots bi_rules id piece d.bis.reading }) c.follows.amid.kinds.0 c.follows.amid.kinds.1 c.follows.amid.few.0
            (subst (λ n. n ≤ 4) (sym (fed-length bi_rules id (contents log) c.follows.position piece d.bis.reading)) c.follows.amid.few.1)
        by false =
            shut-moment shut final (record d.unis { reading = fed_slots uni_rules id piece d.unis.reading }) d.bis c.follows.amid.kinds.0 c.follows.amid.kinds.1
            (subst (λ n. n ≤ 4) (sym (fed-length uni_rules id (contents log) c.follows.position piece d.unis.reading)) c.follows.amid.few.0) c.follows.amid.few.1

  -- nothing is left
  nothing-follows : (d : DriverNow) (log : Log) → Came side old d log → Came side old (after_header id [] d) log
  unfolding body_part rest_part
  nothing-follows d log c = by d.work.transport.is_open
    where
      by : (b : Bool) → Came side old (let x = body_part_if b id [] d in rest_part id (drop x.taken []) x.driver) log
      by true = c
      by false = c

  module _ (d : DriverNow) (log : Log) (c : Came side old d log) (lawful : Comes side id log) where
    -- the driver follows the log with the whole piece
    pub piece-follows : (piece : List ℕ) → Came side old (take_piece_now id piece d) (receive side log id piece)
    unfolding take_piece_now header_part
    piece-follows [] = nothing-follows d log c
    piece-follows (byte ∷ later) = fed (header_feed id whole d) refl
      where
        whole : List ℕ
        whole = byte ∷ later

        part-by : (feed : FedNow) → header_feed id whole d ≡ Some feed → (o : Bool) → is_open log ≡ o → Came side old (after_header id (drop feed.taken whole) (moment_if feed.is_final (header_fed id whole d))) (receive side log id whole)
        part-by feed e false shut =
            let there = closed-header d log c lawful shut whole feed.is_final in
            subst (Came side old (after_header id (drop feed.taken whole) (moment_if feed.is_final (header_fed id whole d)))) (receive-closed side old id log (drop feed.taken whole) shut ∙ sym (receive-closed side old id log whole shut))
            (body-follows (moment_if feed.is_final (header_fed id whole d)) log there lawful (drop feed.taken whole) (λ f. absurd (true≢false (sym f ∙ shut))))
        part-by feed e true opened =
            let put = header-put side d log c.follows.position c.uncollected c.follows.amid opened (c.follows.rests opened) id whole (running side old id d log c lawful opened) byte later refl feed e in
            let after = put-follows side moment old d log id whole c opened feed (header_fed id whole d) put in
            subst (Came side old (after_header id (drop feed.taken whole) (moment_if feed.is_final (header_fed id whole d)))) (sym (in-two whole feed.taken log)) (by put after feed.is_final refl)
          where
            g : Log
            g = receive side log id (take feed.taken whole)

            by : Put side log c.follows.position c.uncollected id whole feed (header_fed id whole d) → Came side old (moment_if feed.is_final (header_fed id whole d)) g
                → (b : Bool) → feed.is_final ≡ b → Came side old (after_header id (drop feed.taken whole) (moment_if feed.is_final (header_fed id whole d))) (receive side g id (drop feed.taken whole))
            by put after false f =
                subst (λ xs. Came side old (after_header id xs (moment_if feed.is_final (header_fed id whole d))) (receive side g id xs)) (sym (past feed.taken whole (let l = (put.all f).0 in omega (arith, l))))
                (nothing-follows (moment_if feed.is_final (header_fed id whole d)) g after)
            by put after true f =
                body-follows (moment_if feed.is_final (header_fed id whole d)) g after (comes-after side id (take feed.taken whole) log c.fits lawful) (drop feed.taken whole)
                (λ o. leaves.header old d log c opened id byte later lawful feed e f o (moment_if feed.is_final (header_fed id whole d)) after (drop feed.taken whole))

        fed : (o : Option FedNow) → header_feed id whole d ≡ o → Came side old (let x = work_after o (header_fed id whole d) in after_header id (drop x.taken whole) x.driver) (receive side log id whole)
        fed None e =
            subst (λ z. Came side old (after_header id whole z) (receive side log id whole)) (sym (header-same d log c lawful whole e))
            (body-follows d log c lawful whole (λ o. e))
        fed (Some feed) e = part-by feed e (is_open log) refl
