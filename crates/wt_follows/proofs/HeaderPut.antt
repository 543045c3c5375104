-- A piece of a stream of a driver at rest is put before the reader of the stream's header.
use Rattle.std.proofs.Common.{◌∙◌, ◌≡◌, ◌≤◌, ◌++◌, ◌∷◌, Bool, List, None, Option, Some, [], ap, arith, false, length, refl, subst, suc, sym, take, true, true≢false, zero, ℕ}
use Rattle.std.proofs.lemmas.Bool.{or_parts}
use Rattle.std.proofs.lemmas.List.{length-take}
use Rattle.std.specs.List.{list_any}
use Rattle.std.specs.Prelude.{◌%◌, ◌&&◌, ◌==◌, ◌||◌, if◌then◌else◌, is_none, not, unwrap_or}
use Rattle.wt_follows.proofs.AtOnce.{after_front}
use Rattle.wt_follows.proofs.BytesKept.{control-more, sessions-more}
use Rattle.wt_follows.proofs.FedReader.{take-taken}
use Rattle.wt_follows.proofs.Gains.{next}
use Rattle.wt_follows.proofs.IsReader.{bi_reader, uni_reader}
use Rattle.wt_follows.proofs.KeepsLaws.{keeps-progress}
use Rattle.wt_follows.proofs.KindPut.{apart-same, incomplete-at, its-kind, kind-all, kind-apart, kind-follows, kind-length, kind-read, kind-runs, kind-said, kind-some, kind-whole, kind-within, its}
use Rattle.wt_follows.proofs.Lists.{any-map}
use Rattle.wt_follows.proofs.Logs.{flip}
use Rattle.wt_follows.proofs.Moved.{Elsewhere, control-moved, no-rest, not-at, sessions-moved}
use Rattle.wt_follows.proofs.OwnRequest.{bi-apart}
use Rattle.wt_follows.proofs.PieceAmid.{ReadsAlone, put-amid}
use Rattle.wt_follows.proofs.PlacesAlone.{session-found}
use Rattle.wt_follows.proofs.PieceSlots.{fed-ids}
use Rattle.wt_follows.proofs.Puts.{Put, front-datagrams, front-fault, front-progress, front-settings}
use Rattle.wt_follows.proofs.ReaderLaws.{take-whole}
use Rattle.wt_follows.proofs.Silence.{HasNoSession, IsNoControl, bi-front, uni-front}
use Rattle.wt_follows.specs.Pieces.{SilentFront}
use Rattle.wt_follows.specs.Rests.{ControlRead, IsRead, Resting, SessionsRead, SlotsRead}
use Rattle.wt_follows.specs.Roles.{IsApart, is_arriving, is_at, is_in}
use Rattle.wt_follows.specs.Tie.{Amid, ArrivingFollows, ControlFollows, Keeps, SessionsFollow, goes}
use Rattle.wt_kept.specs.Kept.{DriverNow, LiveNow}
use Rattle.wt_kept.specs.Pieces.{FedNow, fed_at, fed_by, fed_slots, header_fed, header_feed, slot_of}
use Rattle.wt_kept.specs.Readers.{BiReading, ControlReading, Slot, UniReading, bi_rules, fed_piece, taken, uni_rules}
use Rattle.wt_transport.proofs.Bools.{first}
use Rattle.wt_proto.specs.Bi.{bi_verdict_of}
use Rattle.wt_proto.specs.Uni.{is_final, uni_verdict_of}
use Rattle.wt_proto.specs.declared.verdict.Verdict.TheVariants as verdicts
use Rattle.wt_turn.specs.Arrivals.{log_bytes}
use Rattle.wt_turn.specs.Reports.{end_of}
use Rattle.wt_turn.specs.Streams.{contents, exists, local_uni}
use Rattle.wt_turn.specs.Unread.{AtOffset, ReadPosition, position_after}
use Rattle.wt_sessions.specs.Driver.{transport_view}
use Rattle.wt_sessions.specs.DriverState.{DriverState, state_of}
use Rattle.wt_sessions.specs.StreamTable.{Session, TransportView}
use Rattle.wt_turn.specs.Log.{Log, events_of, is_open}
use Rattle.wt_turn.specs.declared.action.Action.{Action}
use Rattle.wt_wire.specs.Ids.{is_bidirectional}
use Rattle.wt_wire.specs.declared.side.Side.{Side}
use Rattle.wt_wire.specs.declared.side.StreamEnd.TheVariants.{Running}

or-true : (b : Bool) → (b || true) ≡ true
or-true true = refl
or-true false = refl

-- one that isn't there isn't among the first
pub not-taken : (k n : ℕ) (xs : List ℕ) → is_in k xs ≡ false → is_in k (take n xs) ≡ false
not-taken k zero xs e = refl
not-taken k (suc n) [] e = refl
not-taken k (suc n) (x ∷ xs) e = let parts = or_parts (x == k) (is_in k xs) e in (λ i. parts.0 i || not-taken k n xs parts.1 i)

module _ (side : Side) (d : DriverNow) (log : Log) (position : ℕ → ReadPosition) (uncollected : List Action) (amid : Amid side d log (state_of side log) [] position uncollected) (opened : is_open log ≡ true) (resting : Resting side d log position)
    (id : ℕ) (whole : List ℕ) (running : end_of (events_of log) id ≡ Running) where
  abbrev s : DriverState
  s = state_of side log

  abbrev view : TransportView
  view = transport_view side log

  going : goes s ≡ true
  going = (λ i. (amid.work.is_open_same ∙ opened) i && is_none (resting.finds.going i))

  -- a stream whose header is read has no other place
  module _ (arriving : is_arriving s id ≡ true) where
    apart : IsApart s id
    apart = amid.work.roles.arriving id arriving

    alone : ReadsAlone side log s id
    alone = record {
      there = first (exists side log id) (not (local_uni side == id % 4)) (amid.work.there.arriving id arriving);
      rests = no-rest s id apart;
      member = apart.member;
      request = λ c n. bi-apart side id (amid.work.there.peers.arriving id arriving);
    }

    no-session : HasNoSession view s id resting.finds
    no-session x e i = true≢false (sym (session-found id x s.sessions e i) ∙ apart.living)

    no-control : IsNoControl view s id resting.finds s.dispatched.control
    no-control = by s.dispatched.control (not-at s id apart)
      where
        by : (o : Option (ℕ × ℕ)) → is_at o id ≡ false → IsNoControl view s id resting.finds o
        by None e = tt
        by (Some c) e = e

  -- what is kept but for the streams of headers
  module _ (part : List ℕ) (arriving : is_arriving s id ≡ true) where
    abbrev after : ℕ → ReadPosition
    after = position_after position id (length part)

    other-positions : Elsewhere id position after
    other-positions j e = (apart-same log position id part j e).1

    control-put : ControlFollows d.work.dispatched.critical.control s.dispatched.control (contents (log_bytes log id part)) after
    control-put =
        control-moved id position after other-positions (contents (log_bytes log id part)) d.work.dispatched.critical.control s.dispatched.control (not-at s id (apart arriving))
        (control-more side log id part d.work.dispatched.critical.control s.dispatched.control position (amid.work.control going))

    sessions-put : SessionsFollow d.work.dispatched.sessions.living s.sessions (contents (log_bytes log id part)) after
    sessions-put =
        sessions-moved id position after other-positions (contents (log_bytes log id part)) d.work.dispatched.sessions.living s.sessions (apart arriving).living
        (sessions-more side log id part d.work.dispatched.sessions.living s.sessions position (amid.work.sessions going))

    -- they are read as far as before
    reads-apart : (k : ℕ) → (id == k) ≡ false → IsRead position (contents log) k → IsRead after (contents (log_bytes log id part)) k
    reads-apart k e r = let same = apart-same log position id part k e in same.1 ∙ (r ∙ ap AtOffset (sym (ap length same.0)))

    control-read : (c : Option (Slot ControlReading)) (o : Option (ℕ × ℕ)) → ControlFollows c o (contents log) position → is_at o id ≡ false → ControlRead position (contents log) c → ControlRead after (contents (log_bytes log id part)) c
    control-read None o f miss r = tt
    control-read (Some c) None f miss r = absurd f
    control-read (Some c) (Some o) f miss r = reads-apart c.id (flip c.id id (ap (λ k. k == id) f.0 ∙ miss)) r

    sessions-read : (xs : List LiveNow) → list_any (λ (x : LiveNow). x.id == id) xs ≡ false → SessionsRead position (contents log) xs → SessionsRead after (contents (log_bytes log id part)) xs
    sessions-read [] e r = tt
    sessions-read (x ∷ xs) e r =
        let parts = or_parts (x.id == id) (list_any (λ (y : LiveNow). y.id == id) xs) e in
        (reads-apart x.id (flip x.id id parts.0) r.0, sessions-read xs parts.1 r.1)

    body-read : ControlRead after (contents (log_bytes log id part)) d.work.dispatched.critical.control × SessionsRead after (contents (log_bytes log id part)) d.work.dispatched.sessions.living
    body-read = (
      control-read d.work.dispatched.critical.control s.dispatched.control (amid.work.control going) (not-at s id (apart arriving)) resting.control,
      sessions-read d.work.dispatched.sessions.living
          (sym (any-map (λ (x : LiveNow). x.id) id d.work.dispatched.sessions.living) ∙ (ap (is_in id) amid.work.keeps.living ∙ (any-map (λ (x : Session). x.id) id s.sessions ∙ (apart arriving).living))) resting.sessions,
    )

  abbrev came : ℕ → Bool
  came m = s.progress.settings

  keeps-front : (front : List ℕ) → Keeps d.work.dispatched (next s s.dispatched (after_front front came s).progress)
  keeps-front front = keeps-progress d.work.dispatched s amid.work.keeps d.work.dispatched.fault (after_front front came s).progress (front-settings front s) (amid.work.keeps.fault ∙ sym (front-fault front came s))

  -- ---- a unidirectional stream

  module _ (byte : ℕ) (later : List ℕ) (some : whole ≡ byte ∷ later) (x : Slot UniReading) (found : slot_of id d.unis.reading ≡ Some x) where
    ready : view.ready ≡ true
    ready = by view.ready refl
      where
        by : (b : Bool) → view.ready ≡ b → b ≡ true
        by true e = refl
        by false e = absurd (let f = ap (slot_of id) (sym (resting.unready e).0) ∙ found in cc)

    abbrev follows : ArrivingFollows uni_rules d.work.transport d.unis s.unis (contents log) position
    follows = amid.unis going

    waits : is_in id (take 4 s.unis) ≡ true → uni_verdict_of (contents log id) Running ≡ verdicts.Incomplete
    waits e = ap (uni_verdict_of (contents log id)) (sym running) ∙ incomplete-at (λ k. uni_verdict_of (view.contents k) (view.end k)) 4 s.unis id (resting.finds.unis ready) e

    abbrev n : ℕ
    n = taken uni_rules x.reader whole

    abbrev e : DriverNow
    e = record d { unis = record d.unis { reading = fed_slots uni_rules id whole d.unis.reading } }

    in-unis : is_in id s.unis ≡ true
    in-unis = its-kind uni_rules uni_verdict_of uni_reader log position d.work.transport d.unis s.unis follows resting.unis id whole amid.work.roles.unis x found waits

    arriving : is_arriving s id ≡ true
    arriving = ap (λ b. b || is_in id s.bis) in-unis

    front-at : (m : ℕ) → ((k : ℕ) → k ≤ m → k ≤ length whole → is_final (uni_verdict_of (contents log id ++ take k whole) Running) ≡ false) → SilentFront view id (contents log id) (take m whole) s came
    front-at m runs =
        uni-front view s id resting.finds (take m whole) (contents log id) (not-taken id 4 s.bis (amid.work.roles.kinds id in-unis)) (no-session arriving) (no-control arriving)
        (λ k le. let few : k ≤ m = omega (arith, le, length-take m whole) in
        (λ i. is_final (uni_verdict_of (contents log id ++ take-taken k m whole few i) (running i))) ∙ runs k few (omega (arith, le, length-take m whole)))

    amid-by : (front : List ℕ) → Amid side e (log_bytes log id (take n whole)) (after_front front came s) [] (position_after position id (length (take n whole))) uncollected
    amid-by front =
        subst (λ z. Amid side e (log_bytes log id (take n whole)) z [] (position_after position id (length (take n whole))) uncollected) (sym (front-progress front came s))
        (put-amid side d log s position uncollected id (take n whole) amid (alone arriving)
        (its uni_rules uni_verdict_of uni_reader log position d.work.transport d.unis s.unis follows resting.unis id whole amid.work.roles.unis x found waits).read
        e.unis d.bis d.work.dispatched (after_front front came s).progress (front-fault front came s) (front-datagrams front came s)
        (keeps-front front) amid.kinds
        (kind-length uni_rules uni_verdict_of uni_reader log position d.work.transport d.unis s.unis follows resting.unis id whole amid.work.roles.unis x found waits, amid.few.1)
        (λ y. control-put (take n whole) arriving) (λ y. sessions-put (take n whole) arriving)
        (λ y. kind-follows uni_rules uni_verdict_of uni_reader log position d.work.transport d.unis s.unis follows resting.unis id whole amid.work.roles.unis x found waits)
        (λ y. (kind-apart bi_rules bi_verdict_of bi_reader log position d.work.transport d.bis s.bis (amid.bis going) resting.bis id (take n whole) (amid.work.roles.kinds id in-unis)).0))

    all-taken : uni_rules.has_said (fed_piece uni_rules x.reader whole) ≡ false → take n whole ≡ whole
    all-taken f = take-whole n whole (let all = kind-whole uni_rules uni_verdict_of uni_reader log position d.work.transport d.unis s.unis follows resting.unis id whole amid.work.roles.unis x found waits f in omega (arith, all))

    reads-then : SlotsRead (position_after position id (length (take n whole))) (contents (log_bytes log id (take n whole))) e.unis.reading × SlotsRead (position_after position id (length (take n whole))) (contents (log_bytes log id (take n whole))) d.bis.reading
    reads-then = (
      kind-read uni_rules uni_verdict_of uni_reader log position d.work.transport d.unis s.unis follows resting.unis id whole amid.work.roles.unis x found waits,
      (kind-apart bi_rules bi_verdict_of bi_reader log position d.work.transport d.bis s.bis (amid.bis going) resting.bis id (take n whole) (amid.work.roles.kinds id in-unis)).1,
    )

    -- what it says then is what the stream's first bytes say
    pub uni-said : uni_rules.has_said (fed_piece uni_rules x.reader whole) ≡ is_final (uni_verdict_of (contents log id ++ take n whole) Running)
    uni-said = kind-said uni_rules uni_verdict_of uni_reader log position d.work.transport d.unis s.unis follows resting.unis id whole amid.work.roles.unis x found waits

    pub uni-put : Put side log position uncollected id whole (fed_by uni_rules x.reader whole) e
    uni-put = record {
      some = kind-some uni_rules uni_verdict_of uni_reader log position d.work.transport d.unis s.unis follows resting.unis id whole amid.work.roles.unis x found waits byte later some;
      within = kind-within uni_rules uni_verdict_of uni_reader log position d.work.transport d.unis s.unis follows resting.unis id whole amid.work.roles.unis x found waits;
      came = came;
      rises = λ m f. f;
      front = λ m lt. front-at m (λ k le within. kind-runs uni_rules uni_verdict_of uni_reader log position d.work.transport d.unis s.unis follows resting.unis id whole amid.work.roles.unis x found waits k (omega (arith, lt, le)));
      final_amid = λ m f g. subst (λ k. Amid side e (log_bytes log id (take k whole)) (after_front (take m whole) came s) [] (position_after position id (length (take k whole))) uncollected) (sym f) (amid-by (take m whole));
      all = λ f. (
        kind-whole uni_rules uni_verdict_of uni_reader log position d.work.transport d.unis s.unis follows resting.unis id whole amid.work.roles.unis x found waits f,
        subst (λ xs. SilentFront view id (contents log id) xs s came) (take-whole (length whole) whole (omega arith))
            (front-at (length whole) (λ k le within. kind-all uni_rules uni_verdict_of uni_reader log position d.work.transport d.unis s.unis follows resting.unis id whole amid.work.roles.unis x found waits f k within)),
      );
      open_amid = λ f. subst (λ xs. Amid side e (log_bytes log id xs) (after_front whole came s) [] (position_after position id (length xs)) uncollected) (all-taken f) (amid-by whole);
      reads = λ f. subst (λ xs. SlotsRead (position_after position id (length xs)) (contents (log_bytes log id xs)) e.unis.reading × SlotsRead (position_after position id (length xs)) (contents (log_bytes log id xs)) e.bis.reading) (all-taken f) reads-then;
      reads_body = λ f. subst (λ xs. ControlRead (position_after position id (length xs)) (contents (log_bytes log id xs)) d.work.dispatched.critical.control × SessionsRead (position_after position id (length xs)) (contents (log_bytes log id xs)) d.work.dispatched.sessions.living) (all-taken f) (body-read (take n whole) arriving);
      unready = λ f. absurd (true≢false (sym ready ∙ f));
      first_unis = λ f. resting.first_unis f ∙ sym (fed-ids uni_rules id (contents log) position whole d.unis.reading);
      first_bis = resting.first_bis;
    }

  -- ---- a bidirectional one

  module _ (byte : ℕ) (later : List ℕ) (some : whole ≡ byte ∷ later) (x : Slot BiReading) (found : slot_of id d.bis.reading ≡ Some x) where
    bi-ready : view.ready ≡ true
    bi-ready = by view.ready refl
      where
        by : (b : Bool) → view.ready ≡ b → b ≡ true
        by true e = refl
        by false e = absurd (let f = ap (slot_of id) (sym (resting.unready e).1) ∙ found in cc)

    abbrev bi-follows : ArrivingFollows bi_rules d.work.transport d.bis s.bis (contents log) position
    bi-follows = amid.bis going

    bi-waits : is_in id (take 4 s.bis) ≡ true → bi_verdict_of (contents log id) Running ≡ verdicts.Incomplete
    bi-waits e = ap (bi_verdict_of (contents log id)) (sym running) ∙ incomplete-at (λ k. bi_verdict_of (view.contents k) (view.end k)) 4 s.bis id (resting.finds.bis bi-ready) e

    abbrev count : ℕ
    count = taken bi_rules x.reader whole

    abbrev later_driver : DriverNow
    later_driver = record d { bis = record d.bis { reading = fed_slots bi_rules id whole d.bis.reading } }

    in-bis : is_in id s.bis ≡ true
    in-bis = its-kind bi_rules bi_verdict_of bi_reader log position d.work.transport d.bis s.bis bi-follows resting.bis id whole amid.work.roles.bis x found bi-waits

    no-uni : is_in id s.unis ≡ false
    no-uni = by (is_in id s.unis) refl
      where
        by : (b : Bool) → is_in id s.unis ≡ b → b ≡ false
        by false f = refl
        by true f = absurd (true≢false (sym in-bis ∙ amid.work.roles.kinds id f))

    bi-arriving : is_arriving s id ≡ true
    bi-arriving = ap (λ b. is_in id s.unis || b) in-bis ∙ or-true (is_in id s.unis)

    bi-front-at : (m : ℕ) → ((k : ℕ) → k ≤ m → k ≤ length whole → is_final (bi_verdict_of (contents log id ++ take k whole) Running) ≡ false) → SilentFront view id (contents log id) (take m whole) s came
    bi-front-at m runs =
        bi-front view s id resting.finds (take m whole) (contents log id) (not-taken id 4 s.unis (no-uni)) (no-session bi-arriving) (no-control bi-arriving)
        (λ k le. let few : k ≤ m = omega (arith, le, length-take m whole) in
        (λ i. is_final (bi_verdict_of (contents log id ++ take-taken k m whole few i) (running i))) ∙ runs k few (omega (arith, le, length-take m whole)))

    bi-amid-by : (front : List ℕ) → Amid side later_driver (log_bytes log id (take count whole)) (after_front front came s) [] (position_after position id (length (take count whole))) uncollected
    bi-amid-by front =
        subst (λ z. Amid side later_driver (log_bytes log id (take count whole)) z [] (position_after position id (length (take count whole))) uncollected) (sym (front-progress front came s))
        (put-amid side d log s position uncollected id (take count whole) amid (alone bi-arriving)
        (its bi_rules bi_verdict_of bi_reader log position d.work.transport d.bis s.bis bi-follows resting.bis id whole amid.work.roles.bis x found bi-waits).read
        d.unis later_driver.bis d.work.dispatched (after_front front came s).progress (front-fault front came s) (front-datagrams front came s)
        (keeps-front front) amid.kinds
        (amid.few.0, kind-length bi_rules bi_verdict_of bi_reader log position d.work.transport d.bis s.bis bi-follows resting.bis id whole amid.work.roles.bis x found bi-waits)
        (λ y. control-put (take count whole) bi-arriving) (λ y. sessions-put (take count whole) bi-arriving)
        (λ y. (kind-apart uni_rules uni_verdict_of uni_reader log position d.work.transport d.unis s.unis (amid.unis going) resting.unis id (take count whole) (no-uni)).0)
        (λ y. kind-follows bi_rules bi_verdict_of bi_reader log position d.work.transport d.bis s.bis bi-follows resting.bis id whole amid.work.roles.bis x found bi-waits))

    bi-all-taken : bi_rules.has_said (fed_piece bi_rules x.reader whole) ≡ false → take count whole ≡ whole
    bi-all-taken f = take-whole count whole (let all = kind-whole bi_rules bi_verdict_of bi_reader log position d.work.transport d.bis s.bis bi-follows resting.bis id whole amid.work.roles.bis x found bi-waits f in omega (arith, all))

    bi-reads-then : SlotsRead (position_after position id (length (take count whole))) (contents (log_bytes log id (take count whole))) d.unis.reading × SlotsRead (position_after position id (length (take count whole))) (contents (log_bytes log id (take count whole))) later_driver.bis.reading
    bi-reads-then = (
      (kind-apart uni_rules uni_verdict_of uni_reader log position d.work.transport d.unis s.unis (amid.unis going) resting.unis id (take count whole) (no-uni)).1,
      kind-read bi_rules bi_verdict_of bi_reader log position d.work.transport d.bis s.bis bi-follows resting.bis id whole amid.work.roles.bis x found bi-waits,
    )

    pub bi-said : bi_rules.has_said (fed_piece bi_rules x.reader whole) ≡ is_final (bi_verdict_of (contents log id ++ take count whole) Running)
    bi-said = kind-said bi_rules bi_verdict_of bi_reader log position d.work.transport d.bis s.bis bi-follows resting.bis id whole amid.work.roles.bis x found bi-waits

    pub bi-put : Put side log position uncollected id whole (fed_by bi_rules x.reader whole) later_driver
    bi-put = record {
      some = kind-some bi_rules bi_verdict_of bi_reader log position d.work.transport d.bis s.bis bi-follows resting.bis id whole amid.work.roles.bis x found bi-waits byte later some;
      within = kind-within bi_rules bi_verdict_of bi_reader log position d.work.transport d.bis s.bis bi-follows resting.bis id whole amid.work.roles.bis x found bi-waits;
      came = came;
      rises = λ m f. f;
      front = λ m lt. bi-front-at m (λ k le within. kind-runs bi_rules bi_verdict_of bi_reader log position d.work.transport d.bis s.bis bi-follows resting.bis id whole amid.work.roles.bis x found bi-waits k (omega (arith, lt, le)));
      final_amid = λ m f g. subst (λ k. Amid side later_driver (log_bytes log id (take k whole)) (after_front (take m whole) came s) [] (position_after position id (length (take k whole))) uncollected) (sym f) (bi-amid-by (take m whole));
      all = λ f. (
        kind-whole bi_rules bi_verdict_of bi_reader log position d.work.transport d.bis s.bis bi-follows resting.bis id whole amid.work.roles.bis x found bi-waits f,
        subst (λ xs. SilentFront view id (contents log id) xs s came) (take-whole (length whole) whole (omega arith))
            (bi-front-at (length whole) (λ k le within. kind-all bi_rules bi_verdict_of bi_reader log position d.work.transport d.bis s.bis bi-follows resting.bis id whole amid.work.roles.bis x found bi-waits f k within)),
      );
      open_amid = λ f. subst (λ xs. Amid side later_driver (log_bytes log id xs) (after_front whole came s) [] (position_after position id (length xs)) uncollected) (bi-all-taken f) (bi-amid-by whole);
      reads = λ f. subst (λ xs. SlotsRead (position_after position id (length xs)) (contents (log_bytes log id xs)) later_driver.unis.reading × SlotsRead (position_after position id (length xs)) (contents (log_bytes log id xs)) later_driver.bis.reading) (bi-all-taken f) bi-reads-then;
      reads_body = λ f. subst (λ xs. ControlRead (position_after position id (length xs)) (contents (log_bytes log id xs)) d.work.dispatched.critical.control × SessionsRead (position_after position id (length xs)) (contents (log_bytes log id xs)) d.work.dispatched.sessions.living) (bi-all-taken f) (body-read (take count whole) bi-arriving);
      unready = λ f. absurd (true≢false (sym bi-ready ∙ f));
      first_unis = resting.first_unis;
      first_bis = λ f. resting.first_bis f ∙ sym (fed-ids bi_rules id (contents log) position whole d.bis.reading);
    }

  -- ---- either

  some-fed : (x y : FedNow) → Some x ≡ Some y → x ≡ y
  some-fed x y f = ap (λ o. unwrap_or o x) f

  pub header-put : (byte : ℕ) (later : List ℕ) → whole ≡ byte ∷ later → (feed : FedNow) → header_feed id whole d ≡ Some feed → Put side log position uncollected id whole feed (header_fed id whole d)
  header-put byte later some feed e = by (is_bidirectional id) e
    where
      bi-by : (o : Option (Slot BiReading)) → slot_of id d.bis.reading ≡ o → fed_at bi_rules whole o ≡ Some feed → Put side log position uncollected id whole feed (record d { bis = record d.bis { reading = fed_slots bi_rules id whole d.bis.reading } })
      bi-by None f g = absurd cc
      bi-by (Some x) f g =
          subst (λ (y : FedNow). Put side log position uncollected id whole y (record d { bis = record d.bis { reading = fed_slots bi_rules id whole d.bis.reading } })) (some-fed _ feed g) (bi-put byte later some x f)

      uni-by : (o : Option (Slot UniReading)) → slot_of id d.unis.reading ≡ o → fed_at uni_rules whole o ≡ Some feed
          → Put side log position uncollected id whole feed (record d { unis = record d.unis { reading = fed_slots uni_rules id whole d.unis.reading } })
      uni-by None f g = absurd cc
      uni-by (Some x) f g =
          subst (λ (y : FedNow). Put side log position uncollected id whole y (record d { unis = record d.unis { reading = fed_slots uni_rules id whole d.unis.reading } })) (some-fed _ feed g) (uni-put byte later some x f)

      by : (b : Bool) → (if b then fed_at bi_rules whole (slot_of id d.bis.reading) else fed_at uni_rules whole (slot_of id d.unis.reading)) ≡ Some feed
          → Put side log position uncollected id whole feed (if b then record d { bis = record d.bis { reading = fed_slots bi_rules id whole d.bis.reading } } else record d { unis = record d.unis { reading = fed_slots uni_rules id whole d.unis.reading } })
      by true f = bi-by (slot_of id d.bis.reading) refl f
      by false f = uni-by (slot_of id d.unis.reading) refl f

  -- where what the reader says is final, what the stream's first bytes say is
  pub header-said : (byte : ℕ) (later : List ℕ) → whole ≡ byte ∷ later → (feed : FedNow) → header_feed id whole d ≡ Some feed → feed.is_final ≡ true
      → (if is_bidirectional id then is_final (bi_verdict_of (contents log id ++ take feed.taken whole) Running) else is_final (uni_verdict_of (contents log id ++ take feed.taken whole) Running)) ≡ true
  header-said byte later some feed e final = by (is_bidirectional id) e
    where
      bi-by : (o : Option (Slot BiReading)) → slot_of id d.bis.reading ≡ o → fed_at bi_rules whole o ≡ Some feed → is_final (bi_verdict_of (contents log id ++ take feed.taken whole) Running) ≡ true
      bi-by None f g = absurd cc
      bi-by (Some x) f g =
          let same = some-fed _ feed g in
          ap (λ (y : FedNow). is_final (bi_verdict_of (contents log id ++ take y.taken whole) Running)) (sym same) ∙ (sym (bi-said byte later some x f) ∙ (ap (λ (y : FedNow). y.is_final) same ∙ final))

      uni-by : (o : Option (Slot UniReading)) → slot_of id d.unis.reading ≡ o → fed_at uni_rules whole o ≡ Some feed → is_final (uni_verdict_of (contents log id ++ take feed.taken whole) Running) ≡ true
      uni-by None f g = absurd cc
      uni-by (Some x) f g =
          let same = some-fed _ feed g in
          ap (λ (y : FedNow). is_final (uni_verdict_of (contents log id ++ take y.taken whole) Running)) (sym same) ∙ (sym (uni-said byte later some x f) ∙ (ap (λ (y : FedNow). y.is_final) same ∙ final))

      by : (b : Bool) → (if b then fed_at bi_rules whole (slot_of id d.bis.reading) else fed_at uni_rules whole (slot_of id d.unis.reading)) ≡ Some feed
          → (if b then is_final (bi_verdict_of (contents log id ++ take feed.taken whole) Running) else is_final (uni_verdict_of (contents log id ++ take feed.taken whole) Running)) ≡ true
      by true f = bi-by (slot_of id d.bis.reading) refl f
      by false f = uni-by (slot_of id d.unis.reading) refl f
