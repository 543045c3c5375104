-- A piece of the peer's control stream, of a driver at rest, is put before its reader.
use Rattle.std.proofs.Common.{◌+◌, ◌∙◌, ◌≡◌, ◌≤◌, ◌<◌, ◌++◌, ◌∷◌, Bool, List, None, Option, Some, [], ap, append_assoc, arith, drop, false, inl, inr, is_some, length, refl, subst, suc, sym, take, true, zero, ℕ}
use Rattle.std.proofs.lemmas.Bool.{cases_lt, eq-eqb, or_parts, true≢false}
use Rattle.std.proofs.lemmas.List.{append-nil, length-drop, length-take}
use Rattle.std.specs.List.{list_any}
use Rattle.std.specs.Prelude.{◌&&◌, ◌==◌, ◌||◌, is_none, not, option_map}
use Rattle.wt_follows.proofs.AtOnce.{after_front}
use Rattle.wt_follows.proofs.BodyReads.{control-still, sessions-still}
use Rattle.wt_follows.proofs.BytesCome.{drop-front}
use Rattle.wt_follows.proofs.BytesKept.{sessions-more}
use Rattle.wt_follows.proofs.ControlLaw.{settings-rise, settings-stay}
use Rattle.wt_follows.proofs.FedReader.{fed-at, fed-is, fed-runs, fed-said, fed-some, fed-whole, fed-within, has, take-taken}
use Rattle.wt_follows.proofs.Gains.{next}
use Rattle.wt_follows.proofs.IsReader.{bi_reader, control_reader, uni_reader}
use Rattle.wt_follows.proofs.KeepsLaws.{keeps-sources}
use Rattle.wt_follows.proofs.KindPut.{its-contents, its-read, kind-apart}
use Rattle.wt_follows.proofs.Lists.{refuted}
use Rattle.wt_follows.proofs.Moved.{not-held, sessions-moved}
use Rattle.wt_follows.proofs.OwnRequest.{bi-apart}
use Rattle.wt_follows.proofs.PieceAmid.{ReadsAlone, elsewhere, put-amid}
use Rattle.wt_follows.proofs.Puts.{Put, front-datagrams, front-fault, front-progress}
use Rattle.wt_follows.proofs.ReaderLaws.{has-said-is, says-so-far, take-two, take-whole}
use Rattle.wt_follows.proofs.Silence.{HasNoSession, control-front}
use Rattle.wt_follows.specs.Pieces.{ControlGoes, FindsNothing, IsIn, SilentFront, WalkGoes, with_bytes}
use Rattle.wt_follows.specs.Rests.{ControlRead, IsRead, Resting, SessionsRead, SlotsRead}
use Rattle.wt_follows.specs.Roles.{is_arriving, is_at, is_critical, is_held, is_in, is_living, is_member, waits}
use Rattle.wt_follows.specs.Tie.{Amid, ArrivingFollows, ControlFollows, Keeps, ReaderAt, goes, have_settings_come}
use Rattle.wt_kept.specs.Kept.{DispatchedNow, DriverNow}
use Rattle.wt_kept.specs.Pieces.{fed_by}
use Rattle.wt_kept.specs.Readers.{ControlReading, Slot, bi_rules, control_rules, fed_piece, taken, uni_rules}
use Rattle.wt_transport.proofs.Bools.{first}
use Rattle.wt_proto.specs.Bi.{bi_verdict_of}
use Rattle.wt_proto.specs.ControlWalk.{control_walk_of}
use Rattle.wt_proto.specs.Uni.{uni_verdict_of}
use Rattle.wt_proto.specs.declared.control_walk.ControlWalk.{ControlWalk}
use Rattle.wt_turn.specs.Arrivals.{log_bytes}
use Rattle.wt_turn.specs.Reports.{end_of}
use Rattle.wt_turn.specs.Streams.{contents, exists, local_uni}
use Rattle.wt_turn.specs.Unread.{AtOffset, ReadPosition, position_after}
use Rattle.wt_sessions.specs.Driver.{transport_view}
use Rattle.wt_sessions.specs.DriverState.{DriverState, state_of}
use Rattle.wt_sessions.specs.StreamTable.{DriverProgress, Session, TransportView}
use Rattle.wt_turn.specs.Log.{Log, events_of, is_open}
use Rattle.wt_turn.specs.declared.action.Action.{Action}
use Rattle.wt_wire.specs.declared.error.ErrorCode.{ErrorCode}
use Rattle.wt_wire.specs.declared.side.Side.{Side}
use Rattle.wt_wire.specs.declared.side.StreamEnd.TheVariants.{Running}
use Rattle.std.specs.Prelude.{◌%◌}

-- ---- lists

pub found-in : (k : ℕ) (x : Session) (xs : List Session) → x.id ≡ k → IsIn x xs → list_any (λ (z : Session). z.id == k) xs ≡ true
found-in k x [] e m = absurd m
found-in k x (y ∷ ys) e (inl same) = ap (λ (b : Bool). b || list_any (λ (z : Session). z.id == k) ys) (eq-eqb y.id k (ap (λ (z : Session). z.id) same ∙ e))
found-in k x (y ∷ ys) e (inr m) = ap (λ (b : Bool). (y.id == k) || b) (found-in k x ys e m) ∙ or-some (y.id == k)
  where
    or-some : (b : Bool) → (b || true) ≡ true
    or-some true = refl
    or-some false = refl

pub none-in-front : (id n : ℕ) (ks : List ℕ) → is_in id ks ≡ false → is_in id (take n ks) ≡ false
none-in-front id zero ks e = refl
none-in-front id (suc n) [] e = refl
none-in-front id (suc n) (k ∷ ks) e = let parts = or_parts (k == id) (is_in id ks) e in λ i. parts.0 i || none-in-front id n ks parts.1 i

no-fault : (o : Option ErrorCode) → is_some o ≡ false → o ≡ None
no-fault None e = refl
no-fault (Some code) e = absurd cc

module _ (side : Side) (d : DriverNow) (log : Log) (position : ℕ → ReadPosition) (uncollected : List Action) (amid : Amid side d log (state_of side log) [] position uncollected) (opened : is_open log ≡ true) (resting : Resting side d log position)
    (id : ℕ) (whole : List ℕ) (running : end_of (events_of log) id ≡ Running) (x : Slot ControlReading) (c : ℕ × ℕ) (slot : d.work.dispatched.critical.control ≡ Some x) (its : (state_of side log).dispatched.control ≡ Some c) (same : x.id ≡ id) where
  abbrev s : DriverState
  s = state_of side log

  abbrev view : TransportView
  view = transport_view side log

  going : goes s ≡ true
  going = (λ i. (amid.work.is_open_same ∙ opened) i && is_none (resting.finds.going i))

  follows : ControlFollows (Some x) (Some c) (contents log) position
  follows = subst (λ (q : Option (Slot ControlReading) × Option (ℕ × ℕ)). ControlFollows q.0 q.1 (contents log) position) (λ i. (slot i, its i)) (amid.work.control going)

  pub its-id : c.0 ≡ id
  its-id = sym follows.0 ∙ same

  abbrev offset : ℕ
  offset = c.1

  abbrev bytes : List ℕ
  bytes = contents log id

  at : ReaderAt control_rules x.reader offset bytes (position id)
  at = subst (λ k. ReaderAt control_rules x.reader offset (contents log k) (position k)) its-id follows.1

  read : position id ≡ AtOffset (length bytes)
  read = subst (IsRead position (contents log)) same (subst (ControlRead position (contents log)) slot resting.control)

  abbrev final : ControlWalk → Bool
  final w = is_some w.fault

  abbrev walk : List ℕ → ControlWalk
  walk more = control_walk_of (drop offset (bytes ++ more)) Running

  -- ---- it has no other place

  critical : is_critical s id ≡ true
  critical = ap (λ o. is_at o id || is_at s.dispatched.encoder id || is_at s.dispatched.decoder id) its ∙ ap (λ b. b || is_at s.dispatched.encoder id || is_at s.dispatched.decoder id) (eq-eqb c.0 id its-id)

  no-arriving : is_arriving s id ≡ false
  no-arriving = refuted (is_arriving s id) (λ f. true≢false (sym critical ∙ (amid.work.roles.arriving id f).critical))

  no-living : is_living s id ≡ false
  no-living = refuted (is_living s id) (λ f. true≢false (sym critical ∙ amid.work.roles.living_alone id f))

  no-waits : waits s id ≡ false
  no-waits = refuted (waits s id) (λ f. true≢false (sym critical ∙ (amid.work.roles.waiting_alone id f).critical))

  no-held : is_held s id ≡ false
  no-held = refuted (is_held s id) (λ f. true≢false (sym critical ∙ amid.work.roles.requests_alone id f))

  alone : ReadsAlone side log s id
  alone = record {
    there = first (exists side log id) (not (local_uni side == id % 4)) (amid.work.there.critical id critical);
    rests = λ i. no-waits i || (not-held s id no-held i && not (s.dispatched.is_established id));
    member = λ session. refuted (is_member s session id) (λ f. true≢false (sym critical ∙ (amid.work.roles.members_alone id session f).critical));
    request = λ c n. bi-apart side id (amid.work.there.peers.critical id critical);
  }

  abbrev no-kinds : (is_in id s.unis ≡ false) × (is_in id s.bis ≡ false)
  no-kinds = or_parts (is_in id s.unis) (is_in id s.bis) no-arriving

  no-session : HasNoSession view s id resting.finds
  no-session y e m = true≢false (sym (found-in id y s.sessions e m) ∙ no-living)

  -- ---- what is noted of the bytes

  abbrev n : ℕ
  n = taken control_rules x.reader whole

  abbrev part : List ℕ
  part = take n whole

  abbrev came : ℕ → Bool
  came m = s.progress.settings || is_some (walk (take (suc m) whole)).settings

  short : offset ≤ length bytes
  short = (let le = at.within in omega (arith, le))

  walk-of : (more : List ℕ) → drop offset (bytes ++ more) ≡ drop offset bytes ++ more
  walk-of more = drop-front offset bytes more short

  -- more bytes keep the SETTINGS
  rise : (more later : List ℕ) → is_some (walk more).settings ≡ true → is_some (walk (more ++ later)).settings ≡ true
  rise more later e =
      ap (λ xs. is_some (control_walk_of xs Running).settings) (walk-of (more ++ later) ∙ (sym (append_assoc (drop offset bytes) more later)))
      ∙ settings-rise (drop offset bytes ++ more) later (ap (λ xs. is_some (control_walk_of xs Running).settings) (sym (walk-of more)) ∙ e)

  before-settings : is_some (walk []).settings ≡ s.progress.settings
  before-settings =
      ap (λ xs. is_some (control_walk_of xs Running).settings) (walk-of [] ∙ append-nil (drop offset bytes))
      ∙ (ap (λ (w : ControlWalk). is_some w.settings) (sym (ap control_rules.outcome (has control_rules final control_walk_of control_reader x.reader offset bytes (position id) at read whole) ∙ says-so-far control_rules final control_walk_of control_reader (drop offset bytes)))
      ∙ (sym (ap have_settings_come slot) ∙ amid.work.keeps.settings))

  came-first : s.progress.settings ≡ true → (more : List ℕ) → is_some (walk more).settings ≡ true
  came-first e more = rise [] more (before-settings ∙ e)

  abbrev settled : Bool → Bool → Type 0
  settled a b = a ≡ true → b ≡ true

  or-settled : (a b : Bool) → settled a b → (a || b) ≡ b
  or-settled true b h = sym (h refl)
  or-settled false b h = refl

  came-is : (m : ℕ) → came m ≡ is_some (walk (take (suc m) whole)).settings
  came-is m = or-settled s.progress.settings (is_some (walk (take (suc m) whole)).settings) (λ e. came-first e (take (suc m) whole))

  rises : (m : ℕ) → came m ≡ true → came (suc m) ≡ true
  rises m e =
      let longer : take (suc m) whole ++ take 1 (drop (suc m) whole) ≡ take (suc (suc m)) whole = take-two (suc m) 1 whole ∙ ap (λ k. take k whole) (let f : suc m + 1 ≡ suc (suc m) = omega arith in f) in
      came-is (suc m) ∙ (ap (λ xs. is_some (walk xs).settings) (sym longer) ∙ rise (take (suc m) whole) (take 1 (drop (suc m) whole)) (sym (came-is m) ∙ e))

  -- the front of the piece
  settings-after : (front : List ℕ) → front ≡ take (length front) whole → (after_front front came s).progress.settings ≡ is_some (walk front).settings
  settings-after [] e = sym before-settings
  settings-after (b ∷ front) e = came-is (length front) ∙ ap (λ xs. is_some (walk xs).settings) (sym e)

  within : n ≤ length whole
  within = fed-within control_rules final control_walk_of control_reader x.reader offset bytes (position id) at read whole

  runs : (k : ℕ) → k < n → final (walk (take k whole)) ≡ false
  runs = fed-runs control_rules final control_walk_of control_reader x.reader offset bytes (position id) at read whole

  pub said : control_rules.has_said (fed_piece control_rules x.reader whole) ≡ final (walk part)
  said = fed-said control_rules final control_walk_of control_reader x.reader offset bytes (position id) at read whole

  its-control : s.dispatched.control ≡ Some (id, offset)
  its-control = its ∙ (λ i. Some (its-id i, c.1))

  its-end : view.end id ≡ Running
  its-end = running

  -- these first bytes find nothing
  front-silent : (most : ℕ) → ((k : ℕ) → k ≤ most → final (walk (take k whole)) ≡ false) → SilentFront view id bytes (take most whole) s came
  front-silent most open_ m le =
      subst (λ (a : Bool). FindsNothing (with_bytes view id (bytes ++ take (suc m) (take most whole))) s a)
      (λ i. s.progress.settings || is_some (control_walk_of (drop offset (bytes ++ take-taken (suc m) most whole few i)) (its-end i)).settings)
      (control-front view s id resting.finds (take most whole) bytes offset its-control (none-in-front id 4 s.unis no-kinds.0) (none-in-front id 4 s.bis no-kinds.1) no-session
      (λ k less. no-fault _ ((λ i. is_some (control_walk_of (drop offset (bytes ++ take-taken k most whole (omega (arith, less, length-take most whole)) i)) (its-end i)).fault) ∙ open_ k (omega (arith, less, length-take most whole)))) m le)
    where
      few : suc m ≤ most
      few = omega (arith, le, length-take most whole)

  -- ---- what is kept then

  abbrev reader_then : ControlReading
  reader_then = fed_piece control_rules x.reader whole

  abbrev kept : DispatchedNow
  kept = record d.work.dispatched { critical = record d.work.dispatched.critical { control = Some (record x { reader = reader_then }) } }

  abbrev driver_then : DriverNow
  driver_then = record d { work = record d.work { dispatched = kept } }

  outcome-then : control_rules.outcome reader_then ≡ walk part
  outcome-then =
      ap control_rules.outcome (fed-is control_rules final control_walk_of control_reader x.reader offset bytes (position id) at read whole)
      ∙ (says-so-far control_rules final control_walk_of control_reader (drop offset bytes ++ part) ∙ ap (λ xs. control_walk_of xs Running) (sym (walk-of part)))

  abbrev g : Log
  g = log_bytes log id part

  abbrev after : ℕ → ReadPosition
  after = position_after position id (length part)

  reader-at : ReaderAt control_rules reader_then offset (contents g id) (after id)
  reader-at =
      subst (λ (q : List ℕ × ReadPosition). ReaderAt control_rules reader_then offset q.0 q.1)
      (λ i. (sym (its-contents log id part) i, (ap AtOffset (ap length (sym (its-contents log id part))) ∙ sym (its-read log position id part read)) i))
      (fed-at control_rules final control_walk_of control_reader x.reader offset bytes (position id) at read whole)

  control-then : ControlFollows (Some (record x { reader = reader_then })) s.dispatched.control (contents g) after
  control-then =
      subst (λ o. ControlFollows (Some (record x { reader = reader_then })) o (contents g) after) (sym its)
      (follows.0, subst (λ k. ReaderAt control_rules reader_then offset (contents g k) (after k)) (sym its-id) reader-at)

  unis-then : ArrivingFollows uni_rules d.work.transport d.unis s.unis (contents g) after × SlotsRead after (contents g) d.unis.reading
  unis-then = kind-apart uni_rules uni_verdict_of uni_reader log position d.work.transport d.unis s.unis (amid.unis going) resting.unis id part no-kinds.0

  bis-then : ArrivingFollows bi_rules d.work.transport d.bis s.bis (contents g) after × SlotsRead after (contents g) d.bis.reading
  bis-then = kind-apart bi_rules bi_verdict_of bi_reader log position d.work.transport d.bis s.bis (amid.bis going) resting.bis id part no-kinds.1

  amid-put : (front : List ℕ) → front ≡ take (length front) whole → is_some (walk front).settings ≡ is_some (walk part).settings → Amid side driver_then g (after_front front came s) [] after uncollected
  amid-put front is_front settings_same =
      let p : DriverProgress = (after_front front came s).progress in
      let keeps : Keeps kept (next s s.dispatched p) =
      keeps-sources d.work.dispatched s amid.work.keeps kept.critical d.work.dispatched.requests d.work.dispatched.fault s.dispatched.control s.dispatched.encoder s.dispatched.decoder s.dispatched.requests s.dispatched.held p
      (ap (λ o. option_map (λ (y : Slot ControlReading). y.id) o) (sym slot) ∙ amid.work.keeps.control) amid.work.keeps.encoder amid.work.keeps.decoder
      (ap (λ (w : ControlWalk). is_some w.settings) outcome-then ∙ (sym settings_same ∙ sym (settings-after front is_front)))
      amid.work.keeps.queued amid.work.keeps.held (amid.work.keeps.fault ∙ sym (front-fault front came s)) in
      subst (λ (z : DriverState). Amid side driver_then g z [] after uncollected) (sym (front-progress front came s))
      (put-amid side d log s position uncollected id part amid alone read d.unis d.bis kept p (front-fault front came s) (front-datagrams front came s) keeps amid.kinds amid.few
      (λ e. control-then)
      (λ e. sessions-moved id position after (elsewhere side d log s position uncollected id part amid alone read) (contents g) d.work.dispatched.sessions.living s.sessions no-living
      (sessions-more side log id part d.work.dispatched.sessions.living s.sessions position (amid.work.sessions going)))
      (λ e. unis-then.0) (λ e. bis-then.0))

  -- ---- all of it

  whole-front : (m : ℕ) → m ≤ length whole → take m whole ≡ take (length (take m whole)) whole
  whole-front m le = ap (λ k. take k whole) (let e : m ≡ length (take m whole) = omega (arith, le, length-take m whole) in e)

  last-settings : (m : ℕ) → suc m ≡ n → final (walk part) ≡ true → is_some (walk (take m whole)).settings ≡ is_some (walk part).settings
  last-settings m e over = by (drop m whole) refl
    where
      by : (rest : List ℕ) → drop m whole ≡ rest → is_some (walk (take m whole)).settings ≡ is_some (walk part).settings
      by [] f = absurd (let none = ap length f in let long = within in omega (arith, e, none, long, length-drop m whole))
      by (b ∷ rest) f =
          let part_is : part ≡ take m whole ++ b ∷ [] =
          ap (λ k. take k whole) (sym e) ∙ (ap (λ k. take k whole) (let h : suc m ≡ m + 1 = omega arith in h) ∙ (sym (take-two m 1 whole) ∙ ap (λ ys. take m whole ++ take 1 ys) f)) in
          let longer : drop offset (bytes ++ part) ≡ drop offset (bytes ++ take m whole) ++ b ∷ [] =
          walk-of part ∙ (ap (λ ys. drop offset bytes ++ ys) part_is ∙ (sym (append_assoc (drop offset bytes) (take m whole) (b ∷ [])) ∙ ap (λ ys. ys ++ b ∷ []) (sym (walk-of (take m whole))))) in
          ap is_some (sym (settings-stay (drop offset (bytes ++ take m whole)) b (runs m (omega (arith, e))) (ap (λ xs. is_some (control_walk_of xs Running).fault) (sym longer) ∙ over)))
          ∙ ap (λ xs. is_some (control_walk_of xs Running).settings) (sym longer)

  pub control-put : (byte : ℕ) (later : List ℕ) → whole ≡ byte ∷ later → Put side log position uncollected id whole (fed_by control_rules x.reader whole) driver_then
  control-put byte later e = record {
    some = fed-some control_rules final control_walk_of control_reader x.reader offset bytes (position id) at read whole byte later e open_;
    within = within;
    came = came;
    rises = rises;
    front = λ m lt. front-silent m (λ k le. runs k (omega (arith, lt, le)));
    final_amid = λ m f over.
        subst (λ k. Amid side driver_then (log_bytes log id (take k whole)) (after_front (take m whole) came s) [] (position_after position id (length (take k whole))) uncollected) (sym f)
        (amid-put (take m whole) (whole-front m (let le = within in omega (arith, le, f))) (last-settings m f (sym said ∙ over)));
    all = λ f. (all-taken f, subst (λ xs. SilentFront view id bytes xs s came) (take-whole (length whole) whole (omega arith)) (front-silent (length whole) (λ k le. never f k le)));
    open_amid = λ f.
        subst (λ xs. Amid side driver_then (log_bytes log id xs) (after_front whole came s) [] (position_after position id (length xs)) uncollected) (part-whole f)
        (amid-put whole (sym (take-whole (length whole) whole (omega arith))) (ap (λ xs. is_some (walk xs).settings) (sym (part-whole f))));
    reads = λ f.
        subst (λ xs. SlotsRead (position_after position id (length xs)) (contents (log_bytes log id xs)) d.unis.reading × SlotsRead (position_after position id (length xs)) (contents (log_bytes log id xs)) d.bis.reading) (part-whole f)
        (unis-then.1, bis-then.1);
    reads_body = λ f.
        subst (λ xs. ControlRead (position_after position id (length xs)) (contents (log_bytes log id xs)) (Some (record x { reader = reader_then })) × SessionsRead (position_after position id (length xs)) (contents (log_bytes log id xs)) d.work.dispatched.sessions.living) (part-whole f)
        (control-still log position id part read (Some (record x { reader = reader_then })) (subst (ControlRead position (contents log)) slot resting.control), sessions-still log position id part read d.work.dispatched.sessions.living resting.sessions);
    unready = resting.unready;
    first_unis = resting.first_unis;
    first_bis = resting.first_bis;
  }
    where
      open_ : control_rules.has_said x.reader ≡ false
      open_ =
          ap control_rules.has_said (has control_rules final control_walk_of control_reader x.reader offset bytes (position id) at read whole)
          ∙ (has-said-is control_rules final control_walk_of control_reader (drop offset bytes)
          ∙ ap is_some ((λ i. (control_walk_of (drop offset (contents log (sym its-id i))) (Running-is i)).fault) ∙ goes-on.0))
        where
          goes-on : WalkGoes (control_walk_of (drop c.1 (contents log c.0)) (end_of (events_of log) c.0)) s.progress.settings s.progress.settings
          goes-on = subst (λ o. ControlGoes view o s.progress.settings s.progress.settings) its resting.finds.control

          Running-is : Running ≡ end_of (events_of log) c.0
          Running-is = sym running ∙ ap (end_of (events_of log)) (sym its-id)

      all-taken : control_rules.has_said reader_then ≡ false → n ≡ length whole
      all-taken f = fed-whole control_rules final control_walk_of control_reader x.reader offset bytes (position id) at read whole f

      part-whole : control_rules.has_said reader_then ≡ false → part ≡ whole
      part-whole f = take-whole n whole (let e = all-taken f in omega (arith, e))

      never : control_rules.has_said reader_then ≡ false → (k : ℕ) → k ≤ length whole → final (walk (take k whole)) ≡ false
      never f k le = elim (cases_lt k n) [
        | inl lt ↦ runs k lt
        | inr more ↦ (λ i. final (walk (take (let h : k ≡ n = (let all = all-taken f in omega (arith, all, le, more)) in h i) whole))) ∙ (sym said ∙ f)
      ]
