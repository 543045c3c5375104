-- What is left of a piece, which nobody reads as it comes: it waits in the transport, and no moment finds it.
use Rattle.std.proofs.Common.{◌-◌, ◌∙◌, ◌≡◌, ◌++◌, ◌∷◌, Bool, List, None, Option, Some, [], ap, false, length, refl, subst, suc, sym, take, true, true≢false, ℕ}
use Rattle.std.proofs.lemmas.Bool.{false_from_ne_true, or_parts}
use Rattle.std.specs.Prelude.{IsTrue, nat_lt, not, option_map, unwrap_or, ◌==◌, ◌&&◌, ◌||◌, find, if◌then◌else◌, is_none, map}
use Rattle.wt_follows.proofs.AtOnce.{after_front}
use Rattle.wt_follows.proofs.BytesCome.{contents-apart, only-bytes}
use Rattle.wt_follows.proofs.BytesKept.{kept-follows}
use Rattle.wt_follows.proofs.Fewer.{in-parts}
use Rattle.wt_follows.proofs.Lists.{any-map}
use Rattle.wt_follows.proofs.KeepsLaws.{keeps-progress}
use Rattle.wt_follows.proofs.Lifted.{lifted}
use Rattle.wt_follows.proofs.Logs.{flip}
use Rattle.wt_follows.proofs.PieceLog.{SilentRun, silent-run}
use Rattle.wt_follows.proofs.PieceSlots.{ids_of, read-apart}
use Rattle.wt_follows.proofs.PlacesAlone.{session-found}
use Rattle.wt_follows.proofs.PutFollows.{Came, rests-run}
use Rattle.wt_follows.proofs.SameStreams.{dated-amid}
use Rattle.wt_follows.proofs.ScanStep.{map-both}
use Rattle.wt_follows.proofs.Silence.{HasNoSession, IsNoControl, control-with, no-control, nobody-front, sessions-with}
use Rattle.wt_follows.specs.Pieces.{FindsNothing, SilentFront}
use Rattle.wt_follows.specs.Pieces as pieces
use Rattle.wt_follows.specs.Rests.{ControlRead, IsRead, Resting, SessionsRead}
use Rattle.wt_follows.specs.Roles.{is_in, is_living}
use Rattle.wt_follows.specs.Tie.{Amid, ArrivingFollows, Follows, goes}
use Rattle.wt_kept.specs.Arriving.{arrived_count, fresh_slots, peer_kind}
use Rattle.wt_kept.specs.Kept.{ArrivingNow, DriverNow, LiveNow}
use Rattle.wt_kept.specs.Windows.{live_in}
use Rattle.wt_kept.specs.Pieces.{body_feed, control_slot, body_feed_by, fed_at, bytes_fit_now, header_feed, rest_part, slot_of, with_bytes_if}
use Rattle.wt_kept.specs.Readers.{ControlReading, ReaderRules, Slot, bi_rules, uni_rules}
use Rattle.wt_message.specs.FixedBytes.{local_control_bytes}
use Rattle.wt_transport.proofs.Refining.{refined_bytes_fit, refined_open}
use Rattle.wt_transport.specs.State.{TransportState}
use Rattle.wt_transport.specs.Step.{after_bytes, if_so, may_receive_now, with_change}
use Rattle.wt_transport.specs.StreamState.{with_bytes}
use Rattle.wt_turn.specs.Arrivals.{fits, log_bytes}
use Rattle.wt_turn.specs.Reports.{credit, is_connected, unis_allowed}
use Rattle.wt_turn.specs.Streams.{contents, local_uni}
use Rattle.wt_turn.specs.Unread.{AtOffset, ReadPosition}
use Rattle.wt_sessions.specs.Answers.{receive}
use Rattle.wt_sessions.specs.Driver.{log_and_flush, transport_view}
use Rattle.wt_sessions.specs.DriverState.{DriverState, state_of}
use Rattle.wt_sessions.specs.Moment.{Fits}
use Rattle.wt_sessions.specs.StreamTable.{Session, TransportView}
use Rattle.wt_turn.specs.Log.{Log, Received, is_open}
use Rattle.wt_turn.specs.declared.action.Action.{Action}
use Rattle.wt_turn.specs.declared.turn.Turn.TheVariants as turns
use Rattle.wt_wire.specs.Ids.{is_bidirectional}
use Rattle.wt_wire.specs.declared.side.Side.{Side}

-- ---- bytes that nobody reads

module _ (side : Side) (log : Log) (id : ℕ) (rests : FindsNothing (transport_view side log) (state_of side log) (state_of side log).progress.settings) where
  abbrev view : TransportView
  view = transport_view side log

  abbrev s : DriverState
  s = state_of side log

  -- a stream in no slot, which no session has and that isn't the control stream, is found by no moment
  pub nobody : (bytes : List ℕ) → (view.ready ≡ true → is_in id (take 4 s.unis) ≡ false) → (view.ready ≡ true → is_in id (take 4 s.bis) ≡ false) → HasNoSession view s id rests → IsNoControl view s id rests s.dispatched.control
      → SilentFront view id (contents log id) bytes s (λ m. s.progress.settings)
  nobody bytes no_uni no_bi no_session none m le = by view.ready refl
    where
      by : (b : Bool) → view.ready ≡ b → FindsNothing (pieces.with_bytes view id (contents log id ++ take (suc m) bytes)) s s.progress.settings
      by true e = nobody-front view s id rests bytes (contents log id) (no_uni e) (no_bi e) no_session none m le
      by false e = record {
        unis = λ f. absurd (true≢false (sym f ∙ e));
        bis = λ f. absurd (true≢false (sym f ∙ e));
        datagrams = rests.datagrams;
        sessions = sessions-with view id (contents log id ++ take (suc m) bytes) s.sessions rests.sessions (λ x f i. absurd (no_session x f i));
        unstopped = rests.unstopped;
        control = control-with view id (contents log id ++ take (suc m) bytes) s.dispatched.control s.progress.settings s.progress.settings rests.control
            (no-control view s id rests s.dispatched.control (contents log id ++ take (suc m) bytes) (view.end id) s.progress.settings none);
        encoder = rests.encoder;
        decoder = rests.decoder;
        going = rests.going;
        idle = rests.idle;
      }

-- ---- who reads a stream

slot-none : {V : Type 0} (id : ℕ) (xs : List (Slot V)) → slot_of id xs ≡ None → is_in id (ids_of xs) ≡ false
slot-none id [] e = refl
slot-none {V} id (x ∷ xs) e = by (x.id == id) e (slot-none id xs)
  where
    by : (b : Bool) → (if b then Some x else slot_of id xs) ≡ None → (slot_of id xs ≡ None → is_in id (ids_of xs) ≡ false) → (b || is_in id (ids_of xs)) ≡ false
    by true f later = absurd cc
    by false f later = later f

live-none : (id : ℕ) (xs : List LiveNow) → find (λ (x : LiveNow). x.id == id) xs ≡ None → is_in id (map (λ (x : LiveNow). x.id) xs) ≡ false
live-none id [] e = refl
live-none id (x ∷ xs) e = by (x.id == id) e (live-none id xs)
  where
    by : (b : Bool) → (if b then Some x else find (λ (y : LiveNow). y.id == id) xs) ≡ None → (find (λ (y : LiveNow). y.id == id) xs ≡ None → is_in id (map (λ (y : LiveNow). y.id) xs) ≡ false)
        → (b || is_in id (map (λ (y : LiveNow). y.id) xs)) ≡ false
    by true f later = absurd cc
    by false f later = later f

fed-none : {V O : Type 0} (w : ReaderRules V O) (piece : List ℕ) (o : Option (Slot V)) → fed_at w piece o ≡ None → o ≡ None
fed-none w piece None e = refl
fed-none w piece (Some x) e = absurd cc

body-none : (piece : List ℕ) (c : Option (Slot ControlReading)) (l : Option LiveNow) → body_feed_by piece c l ≡ None → (c ≡ None) × (l ≡ None)
body-none piece None None e = (refl, refl)
body-none piece None (Some l) e = absurd cc
body-none piece (Some c) l e = absurd cc

module _ (side : Side) (d : DriverNow) (log : Log) (position : ℕ → ReadPosition) (uncollected : List Action) (amid : Amid side d log (state_of side log) [] position uncollected) (opened : is_open log ≡ true) (resting : Resting side d log position)
    (id byte : ℕ) (later : List ℕ) (no_header : header_feed id (byte ∷ later) d ≡ None) (no_body : body_feed id (byte ∷ later) d.work.dispatched ≡ None) where
  abbrev whole : List ℕ
  whole = byte ∷ later

  abbrev z : DriverState
  z = state_of side log

  going : goes z ≡ true
  going = (λ i. (amid.work.is_open_same ∙ opened) i && is_none (resting.finds.going i))

  -- no slot has it
  no-slots : (is_in id (ids_of d.unis.reading) ≡ false) × (is_in id (ids_of d.bis.reading) ≡ false)
  no-slots = by (is_bidirectional id) refl no_header
    where
      among : {V O : Type 0} (w : ReaderRules V O) (a : ArrivingNow V) (ids : List ℕ) (h : ArrivingFollows w d.work.transport a ids (contents log) position) → is_in id ids ≡ false → is_in id (ids_of a.reading) ≡ false
      among {V} w a ids h e =
          (or_parts (is_in id (ids_of a.reading)) (is_in id (ids_of (fresh_slots w (peer_kind d.work.transport.side a.bidirectional) a.next (arrived_count d.work.transport a - a.next))))
          (sym (in-parts id (ids_of a.reading) (ids_of (fresh_slots w (peer_kind d.work.transport.side a.bidirectional) a.next (arrived_count d.work.transport a - a.next))))
          ∙ (ap (is_in id) (sym (map-both a.reading (fresh_slots w (peer_kind d.work.transport.side a.bidirectional) a.next (arrived_count d.work.transport a - a.next))) ∙ h.same_ids) ∙ e))).0

      by : (b : Bool) → is_bidirectional id ≡ b → (if b then fed_at bi_rules whole (slot_of id d.bis.reading) else fed_at uni_rules whole (slot_of id d.unis.reading)) ≡ None
          → (is_in id (ids_of d.unis.reading) ≡ false) × (is_in id (ids_of d.bis.reading) ≡ false)
      by true e f = (among uni_rules d.unis z.unis (amid.unis going) (false_from_ne_true (is_in id z.unis) (λ g. true≢false (sym e ∙ amid.work.there.unis id g))), slot-none id d.bis.reading (fed-none bi_rules whole (slot_of id d.bis.reading) f))
      by false e f = (slot-none id d.unis.reading (fed-none uni_rules whole (slot_of id d.unis.reading) f), among bi_rules d.bis z.bis (amid.bis going) (false_from_ne_true (is_in id z.bis) (λ g. true≢false (sym (amid.work.there.bis id g) ∙ e))))

  -- neither the control stream nor a living session's
  apart-body : (control_slot id d.work.dispatched.critical.control ≡ None) × (live_in d.work.dispatched.sessions id ≡ None)
  apart-body = body-none whole (control_slot id d.work.dispatched.critical.control) (live_in d.work.dispatched.sessions id) no_body

  not-living : is_living z id ≡ false
  not-living =
      sym (any-map (λ (x : Session). x.id) id z.sessions) ∙ (ap (is_in id) (sym amid.work.keeps.living) ∙ live-none id d.work.dispatched.sessions.living apart-body.1)

  no-session : HasNoSession (transport_view side log) z id resting.finds
  no-session x e i = true≢false (sym (session-found id x z.sessions e i) ∙ not-living)

  no-control-stream : IsNoControl (transport_view side log) z id resting.finds z.dispatched.control
  no-control-stream = by d.work.dispatched.critical.control z.dispatched.control amid.work.keeps.control apart-body.0
    where
      by : (c : Option (Slot ControlReading)) (o : Option (ℕ × ℕ)) → option_map (λ (x : Slot ControlReading). x.id) c ≡ option_map (λ (y : ℕ × ℕ). y.0) o → control_slot id c ≡ None → IsNoControl (transport_view side log) z id resting.finds o
      by c None e f = tt
      by None (Some o) e f = absurd cc
      by (Some c) (Some o) e f = ap (λ k. k == id) (sym (ap (λ x. unwrap_or x 0) e)) ∙ each (c.id == id) f
        where
          each : (b : Bool) → (if b then Some c else None) ≡ None → b ≡ false
          each false g = refl
          each true g = absurd cc

  silent : SilentFront (transport_view side log) id (contents log id) whole z (λ m. z.progress.settings)
  silent = nobody side log id resting.finds whole (λ ready. ap (is_in id) (resting.first_unis ready) ∙ no-slots.0) (λ ready. ap (is_in id) (resting.first_bis ready) ∙ no-slots.1) no-session no-control-stream

  abbrev h : Log
  h = log_bytes log id whole

  abbrev came : ℕ → Bool
  came m = z.progress.settings

  abbrev waiting_driver : DriverNow
  waiting_driver = record d { work = record d.work { transport = after_bytes d.work.transport id whole } }

  module _ (fitting : IsTrue (may_receive_now d.work.transport id && not d.work.transport.is_lost)) (laws : Fits side log) where
    run : SilentRun side log id whole (after_front whole came z)
    run = silent-run side id whole log came laws opened (λ m e. e) silent

    kept : Amid side waiting_driver h z [] position uncollected
    kept = kept-follows side d log z position uncollected id byte later amid opened fitting

    -- a moment that finds nothing leaves the progress as it was, but that nothing goes out
    kept-then : Amid side waiting_driver h (after_front whole came z) [] position uncollected
    kept-then =
        lifted side waiting_driver h z [] position uncollected kept waiting_driver.work (after_front whole came z) [] position uncollected
        (dated-amid side waiting_driver.work h z [] position uncollected kept.work z.dispatched.datagrams (after_front whole came z).progress waiting_driver.work.dispatched
        (keeps-progress waiting_driver.work.dispatched z kept.work.keeps waiting_driver.work.dispatched.fault (after_front whole came z).progress refl kept.work.keeps.fault) (λ g. kept.work.control g) (λ g. kept.work.sessions g))
        (λ kind. refl) refl refl refl (λ g. g) (λ j e. refl) refl (λ c n. (n, refl))

    other-bytes : (j : ℕ) → (id == j) ≡ false → (contents h j ≡ contents log j) × (position j ≡ position j)
    other-bytes j e = (contents-apart log id whole j e, refl)

    reads-other : (k : ℕ) → (k == id) ≡ false → IsRead position (contents log) k → IsRead position (contents h) k
    reads-other k e r = r ∙ ap AtOffset (sym (ap length (other-bytes k (flip k id e)).0))

    control-other : (c : Option (Slot ControlReading)) → control_slot id c ≡ None → ControlRead position (contents log) c → ControlRead position (contents h) c
    control-other None e r = tt
    control-other (Some c) e r = reads-other c.id (each (c.id == id) e) r
      where
        each : (b : Bool) → (if b then Some c else None) ≡ None → b ≡ false
        each false g = refl
        each true g = absurd cc

    sessions-other : (xs : List LiveNow) → is_in id (map (λ (x : LiveNow). x.id) xs) ≡ false → SessionsRead position (contents log) xs → SessionsRead position (contents h) xs
    sessions-other [] e r = tt
    sessions-other (x ∷ xs) e r =
        let parts = or_parts (x.id == id) (is_in id (map (λ (y : LiveNow). y.id) xs)) e in
        (reads-other x.id parts.0 r.0, sessions-other xs parts.1 r.1)

    ready-same : (transport_view side h).ready ≡ (transport_view side log).ready
    ready-same = ap (λ es. is_connected es && nat_lt 0 (unis_allowed es) && not (nat_lt (credit es (local_uni side)) (length local_control_bytes))) (only-bytes log id whole).events

    rests-then : Resting side waiting_driver h position
    rests-then = record {
      finds = rests-run side id whole log came laws opened (λ m e. e) resting.finds silent;
      unis = read-apart uni_rules id (contents log) position (contents h) position other-bytes whole d.unis.reading no-slots.0 resting.unis;
      bis = read-apart bi_rules id (contents log) position (contents h) position other-bytes whole d.bis.reading no-slots.1 resting.bis;
      control = control-other d.work.dispatched.critical.control apart-body.0 resting.control;
      sessions = sessions-other d.work.dispatched.sessions.living (live-none id d.work.dispatched.sessions.living apart-body.1) resting.sessions;
      unready = λ e. resting.unready (sym ready-same ∙ e);
      first_unis = λ e. ap (λ (x : DriverState). take 4 x.unis) run.state ∙ resting.first_unis (sym ready-same ∙ e);
      first_bis = λ e. ap (λ (x : DriverState). take 4 x.bis) run.state ∙ resting.first_bis (sym ready-same ∙ e);
    }

    pub waits-on : Follows side waiting_driver h uncollected
    waits-on = record {
      position = position;
      amid = subst (λ x. Amid side waiting_driver h x [] position uncollected) (sym run.state) kept-then;
      rests = λ e. rests-then;
    }

    pub all-alone : receive side log id whole ≡ h
    all-alone = run.alone

    pub fits-then : Fits side h
    fits-then = run.fits

-- ---- the rest of a piece

module _ (side : Side) (old : List Action) (id : ℕ) where
  -- after the end bytes are left out
  pub receive-closed : (log : Log) (piece : List ℕ) → is_open log ≡ false → receive side log id piece ≡ log
  receive-closed log [] e = refl
  receive-closed log (b ∷ piece) e = ap (λ (o : Bool). receive side (if o then log_and_flush side log (Received id b) else log) id piece) e ∙ receive-closed log piece e

  module _ (d : DriverNow) (log : Log) (c : Came side old d log) (lawful : fits side log (turns.Bytes id []) ≡ true) where
    bytes-fit : bytes_fit_now d.work.transport id ≡ true
    bytes-fit = refined_bytes_fit side d.work.transport log c.follows.position c.uncollected c.follows.amid.work.transport id [] ∙ lawful

    transport-open : d.work.transport.is_open ≡ is_open log
    transport-open = refined_open side d.work.transport log c.follows.position c.uncollected c.follows.amid.work.transport

    -- on a closed connection they change nothing
    pub rest-closed : (piece : List ℕ) → is_open log ≡ false → Came side old (rest_part id piece d) (receive side log id piece)
    unfolding rest_part
    rest-closed [] e = c
    rest-closed (byte ∷ later) e =
        subst (Came side old (rest_part id (byte ∷ later) d)) (sym (receive-closed log (byte ∷ later) e))
        (subst (λ (t : TransportState). Came side old (record d { work = record d.work { transport = t } }) log)
        (sym (ap (λ b. with_bytes_if b id (byte ∷ later) d.work.transport) bytes-fit ∙ ap (λ b. if_so b (with_change d.work.transport id (with_bytes (byte ∷ later))) d.work.transport) (transport-open ∙ e))) c)

    -- nobody reads them: they wait
    pub rest-open : (byte : ℕ) (later : List ℕ) → is_open log ≡ true → header_feed id (byte ∷ later) d ≡ None → body_feed id (byte ∷ later) d.work.dispatched ≡ None
        → Came side old (rest_part id (byte ∷ later) d) (receive side log id (byte ∷ later))
    unfolding rest_part
    rest-open byte later opened no_header no_body =
        let fitting = refined_bytes_fit side d.work.transport log c.follows.position c.uncollected c.follows.amid.work.transport id [] ∙ lawful in
        subst (λ (b : Bool). Came side old (record d { work = record d.work { transport = with_bytes_if b id (byte ∷ later) d.work.transport } }) (receive side log id (byte ∷ later))) (sym bytes-fit)
        (subst (Came side old (record d { work = record d.work { transport = after_bytes d.work.transport id (byte ∷ later) } }))
        (sym (all-alone side d log c.follows.position c.uncollected c.follows.amid opened (c.follows.rests opened) id byte later no_header no_body fitting c.fits))
        (record {
          uncollected = c.uncollected;
          follows = waits-on side d log c.follows.position c.uncollected c.follows.amid opened (c.follows.rests opened) id byte later no_header no_body fitting c.fits;
          all = (only-bytes log id (byte ∷ later)).actions ∙ c.all;
          fits = fits-then side d log c.follows.position c.uncollected c.follows.amid opened (c.follows.rests opened) id byte later no_header no_body fitting c.fits;
        }))
