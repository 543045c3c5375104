-- A piece of a living session's stream, of a driver at rest, is put before its reader.
use Rattle.std.proofs.Common.{◌∙◌, ◌≡◌, ◌≤◌, ◌<◌, ◌++◌, ◌∷◌, Bool, List, None, Option, Some, [], ap, arith, cond, drop, false, inl, inr, is_some, length, refl, subst, sym, take, true, ℕ}
use Rattle.std.proofs.lemmas.Bool.{cases_lt, eq-eqb, eqb-true, or_parts, true≢false}
use Rattle.std.proofs.lemmas.List.{length-take}
use Rattle.std.specs.List.{list_any}
use Rattle.std.specs.Prelude.{◌&&◌, ◌==◌, ◌||◌, is_none, not, find, map, unwrap_or}
use Rattle.wt_follows.proofs.AtOnce.{after_front}
use Rattle.wt_follows.proofs.BodyReads.{changed-still, control-still, sessions-still}
use Rattle.wt_follows.proofs.BytesKept.{control-more, sessions-more}
use Rattle.wt_follows.proofs.Admits.{any-map, lives-found, lives-same}
use Rattle.wt_follows.proofs.ControlPut.{found-in, none-in-front}
use Rattle.wt_follows.proofs.FedReader.{fed-at, fed-runs, fed-said, fed-some, fed-whole, fed-within, has, take-taken}
use Rattle.wt_follows.proofs.Gains.{next}
use Rattle.wt_follows.proofs.IsReader.{bi_reader, session_reader_is, uni_reader}
use Rattle.wt_follows.proofs.KeepsLaws.{keeps-progress}
use Rattle.wt_follows.proofs.KindPut.{its-contents, its-read, kind-apart}
use Rattle.wt_follows.proofs.Lists.{refuted}
use Rattle.wt_follows.proofs.Moved.{control-moved}
use Rattle.wt_follows.proofs.OwnRequest.{none-lives}
use Rattle.wt_follows.proofs.PieceAmid.{ReadsAlone, elsewhere, put-amid}
use Rattle.wt_follows.proofs.Puts.{Put, front-datagrams, front-fault, front-progress, front-settings}
use Rattle.wt_follows.proofs.ReaderLaws.{has-said-is, take-whole}
use Rattle.wt_follows.proofs.Silence.{IsNoControl, session-front}
use Rattle.wt_follows.specs.Pieces.{AllRun, IsIn, Runs, SilentFront}
use Rattle.wt_follows.specs.Rests.{ControlRead, IsRead, Resting, SessionsRead, SlotsRead}
use Rattle.wt_follows.specs.Roles.{AreDistinct, is_arriving, is_at, is_in, is_living, is_member, waits}
use Rattle.wt_follows.specs.Tie.{Amid, ArrivingFollows, Keeps, ReaderAt, goes}
use Rattle.wt_kept.specs.Classifying.{with_sessions}
use Rattle.wt_kept.specs.Kept.{DispatchedNow, DriverNow, LiveNow}
use Rattle.wt_kept.specs.Looking.{with_session_reader}
use Rattle.wt_kept.specs.Pieces.{fed_by}
use Rattle.wt_kept.specs.Readers.{bi_rules, fed_piece, session_rules, taken, uni_rules}
use Rattle.wt_transport.proofs.Bools.{first}
use Rattle.wt_proto.specs.Bi.{bi_verdict_of}
use Rattle.wt_proto.specs.Uni.{uni_verdict_of}
use Rattle.wt_kept.specs.Windows.{is_live, live_in}
use Rattle.wt_follows.proofs.SessionReads.{FoundLive, found-live, reader-keeps, sessions-read}
use Rattle.wt_proto.specs.SessionWalk.{is_over, session_walk_of}
use Rattle.wt_proto.specs.declared.session_walk.SessionWalk.{SessionWalk}
use Rattle.wt_proto.specs.declared.session_walk.SessionWalk.TheVariants as walks
use Rattle.wt_proto.specs.SessionReader.{SessionReader}
use Rattle.wt_turn.specs.Arrivals.{log_bytes}
use Rattle.wt_turn.specs.Reports.{end_of}
use Rattle.wt_turn.specs.Streams.{contents, exists, local_uni}
use Rattle.wt_turn.specs.Unread.{AtOffset, ReadPosition, position_after}
use Rattle.wt_sessions.specs.Driver.{transport_view}
use Rattle.wt_sessions.specs.DriverState.{DriverState, state_of}
use Rattle.wt_sessions.specs.StreamTable.{DriverProgress, Session, TransportView}
use Rattle.wt_turn.specs.Log.{Log, events_of, is_open}
use Rattle.wt_turn.specs.declared.action.Action.{Action}
use Rattle.wt_wire.specs.declared.side.Side.{Side}
use Rattle.wt_wire.specs.declared.side.StreamEnd.TheVariants.{Running}
use Rattle.std.specs.Prelude.{◌%◌}

-- ---- lists

pub not-over : (w : SessionWalk) → is_over w ≡ false → w ≡ walks.Running
not-over walks.Running e = refl
not-over (walks.Closed code reason) e = absurd cc
not-over (walks.Fault code) e = absurd cc

pub some-is : {X : Type 0} (x y : X) → Some x ≡ Some y → x ≡ y
some-is x y e = ap (λ o. unwrap_or o x) e

-- no other session has its id
pub only-one : (k : ℕ) (z y : Session) (xs : List Session) → AreDistinct (map (λ (x : Session). x.id) xs) → find (λ (x : Session). x.id == k) xs ≡ Some y → IsIn z xs → z.id ≡ k → z ≡ y
only-one k z y [] d e m same = absurd m
only-one k z y (x ∷ xs) d e (inl here) same = sym here ∙ some-is x y (sym (ap (λ b. cond b (Some x) (find (λ (w : Session). w.id == k) xs)) (eq-eqb x.id k (ap (λ (w : Session). w.id) here ∙ same))) ∙ e)
only-one k z y (x ∷ xs) d e (inr m) same = by (x.id == k) refl e (λ g. only-one k z y xs d.1 g m same)
  where
    by : (b : Bool) → (x.id == k) ≡ b → cond b (Some x) (find (λ (w : Session). w.id == k) xs) ≡ Some y → (find (λ (w : Session). w.id == k) xs ≡ Some y → z ≡ y) → z ≡ y
    by true f g again =
        absurd (true≢false (sym (found-in x.id z xs (same ∙ sym (eqb-true x.id k f)) m) ∙ (any-map (λ (w : Session). w.id) x.id xs ∙ d.0)))
    by false f g again = again g

-- its walk goes on
runs-of : (t : TransportView) (y : Session) (k : ℕ) (xs : List Session) → find (λ (x : Session). x.id == k) xs ≡ Some y → AllRun t xs → (y.id ≡ k) × Runs t y
runs-of t y k [] e all = absurd cc
runs-of t y k (x ∷ xs) e all = by (x.id == k) refl e (λ g. runs-of t y k xs g all.1)
  where
    by : (b : Bool) → (x.id == k) ≡ b → cond b (Some x) (find (λ (w : Session). w.id == k) xs) ≡ Some y → (find (λ (w : Session). w.id == k) xs ≡ Some y → (y.id ≡ k) × Runs t y) → (y.id ≡ k) × Runs t y
    by true f g again = subst (λ (z : Session). (z.id ≡ k) × Runs t z) (some-is x y g) (eqb-true x.id k f, all.0)
    by false f g again = again g

-- its stream was read
read-of : (k : ℕ) (x : LiveNow) (xs : List LiveNow) (position : ℕ → ReadPosition) (bytes : ℕ → List ℕ) → find (is_live k) xs ≡ Some x → SessionsRead position bytes xs → IsRead position bytes k
read-of k x [] position bytes e h = absurd cc
read-of k x (y ∷ ys) position bytes e h = by (y.id == k) refl e (λ g. read-of k x ys position bytes g h.1)
  where
    by : (b : Bool) → (y.id == k) ≡ b → cond b (Some y) (find (is_live k) ys) ≡ Some x → (find (is_live k) ys ≡ Some x → IsRead position bytes k) → IsRead position bytes k
    by true f g again = subst (IsRead position bytes) (eqb-true y.id k f) h.0
    by false f g again = again g

module _ (side : Side) (d : DriverNow) (log : Log) (position : ℕ → ReadPosition) (uncollected : List Action) (amid : Amid side d log (state_of side log) [] position uncollected) (opened : is_open log ≡ true) (resting : Resting side d log position)
    (id : ℕ) (whole : List ℕ) (running : end_of (events_of log) id ≡ Running) (x : LiveNow) (found : live_in d.work.dispatched.sessions id ≡ Some x) where
  abbrev s : DriverState
  s = state_of side log

  abbrev view : TransportView
  view = transport_view side log

  going : goes s ≡ true
  going = (λ i. (amid.work.is_open_same ∙ opened) i && is_none (resting.finds.going i))

  abbrev bytes : List ℕ
  bytes = contents log id

  read : position id ≡ AtOffset (length bytes)
  read = read-of id x d.work.dispatched.sessions.living position (contents log) found resting.sessions

  pub lives : is_living s id ≡ true
  lives = sym (lives-found id d.work.dispatched.sessions.living ∙ lives-same d.work.dispatched s amid.work.keeps id) ∙ ap is_some found

  -- ---- it has no other place

  pub no-arriving : is_arriving s id ≡ false
  no-arriving = refuted (is_arriving s id) (λ f. true≢false (sym lives ∙ (amid.work.roles.arriving id f).living))

  no-waits : waits s id ≡ false
  no-waits = refuted (waits s id) (λ f. true≢false (sym lives ∙ (amid.work.roles.waiting_alone id f).living))

  established : s.dispatched.is_established id ≡ true
  established = amid.work.keeps.established id (amid.work.keeps.alive id lives) ∙ lives

  alone : ReadsAlone side log s id
  alone = record {
    there = first (exists side log id) (not (local_uni side == id % 4)) (amid.work.there.living id lives);
    rests = (λ i. no-waits i || (is_in id s.dispatched.held && not (established i))) ∙ none (is_in id s.dispatched.held);
    member = λ session. refuted (is_member s session id) (λ f. true≢false (sym lives ∙ (amid.work.roles.members_alone id session f).living));
    request = λ c n. absurd (true≢false (sym lives ∙ none-lives d.work.dispatched s amid.work.keeps n id));
  }
    where
      none : (b : Bool) → (b && false) ≡ false
      none true = refl
      none false = refl

  abbrev no-kinds : (is_in id s.unis ≡ false) × (is_in id s.bis ≡ false)
  no-kinds = or_parts (is_in id s.unis) (is_in id s.bis) no-arriving

  pub not-critical : is_at s.dispatched.control id ≡ false
  not-critical = (or_parts (is_at s.dispatched.control id) (is_at s.dispatched.encoder id) (or_parts (is_at s.dispatched.control id || is_at s.dispatched.encoder id) (is_at s.dispatched.decoder id) (amid.work.roles.living_alone id lives)).0).0

  no-control : IsNoControl view s id resting.finds s.dispatched.control
  no-control = by s.dispatched.control not-critical
    where
      by : (o : Option (ℕ × ℕ)) → is_at o id ≡ false → IsNoControl view s id resting.finds o
      by None e = tt
      by (Some c) e = e

  module _ (y : Session) (named : find (λ (z : Session). z.id == id) s.sessions ≡ Some y) where
    abbrev offset : ℕ
    offset = y.offset

    abbrev walk : List ℕ → SessionWalk
    walk more = session_walk_of (drop offset (bytes ++ more)) Running

    at : ReaderAt session_rules x.reader offset bytes (position id)
    at =
        let f : FoundLive d.work.dispatched.sessions.living id offset bytes (position id) = found-live d.work.dispatched.sessions.living s.sessions id y (contents log) position amid.work.keeps.living named (amid.work.sessions going) in
        subst (λ (z : LiveNow). ReaderAt session_rules z.reader offset bytes (position id)) (some-is f.live x (sym f.found ∙ found)) f.at

    abbrev n : ℕ
    n = taken session_rules x.reader whole

    abbrev part : List ℕ
    part = take n whole

    within : n ≤ length whole
    within = fed-within session_rules is_over session_walk_of session_reader_is x.reader offset bytes (position id) at read whole

    runs : (k : ℕ) → k < n → is_over (walk (take k whole)) ≡ false
    runs = fed-runs session_rules is_over session_walk_of session_reader_is x.reader offset bytes (position id) at read whole

    pub said : session_rules.has_said (fed_piece session_rules x.reader whole) ≡ is_over (walk part)
    said = fed-said session_rules is_over session_walk_of session_reader_is x.reader offset bytes (position id) at read whole

    its-end : view.end id ≡ Running
    its-end = running

    -- these first bytes find nothing
    front-silent : (most : ℕ) → ((k : ℕ) → k ≤ most → is_over (walk (take k whole)) ≡ false) → SilentFront view id bytes (take most whole) s (λ m. s.progress.settings)
    front-silent most open_ =
        session-front view s id resting.finds (take most whole) bytes (none-in-front id 4 s.unis no-kinds.0) (none-in-front id 4 s.bis no-kinds.1) no-control
        (λ z k same m less.
        (λ i. session_walk_of (drop (only-one id z y s.sessions amid.work.roles.living named m same i).offset (bytes ++ take-taken k most whole (omega (arith, less, length-take most whole)) i)) (its-end i))
        ∙ not-over (walk (take k whole)) (open_ k (omega (arith, less, length-take most whole))))

    -- ---- what is kept then

    abbrev reader_then : SessionReader
    reader_then = fed_piece session_rules x.reader whole

    abbrev kept : DispatchedNow
    kept = with_sessions (with_session_reader reader_then id d.work.dispatched.sessions) d.work.dispatched

    abbrev driver_then : DriverNow
    driver_then = record d { work = record d.work { dispatched = kept } }

    abbrev g : Log
    g = log_bytes log id part

    abbrev after : ℕ → ReadPosition
    after = position_after position id (length part)

    reader-at : ReaderAt session_rules reader_then offset (contents g id) (after id)
    reader-at =
        subst (λ (q : List ℕ × ReadPosition). ReaderAt session_rules reader_then offset q.0 q.1)
        (λ i. (sym (its-contents log id part) i, (ap AtOffset (ap length (sym (its-contents log id part))) ∙ sym (its-read log position id part read)) i))
        (fed-at session_rules is_over session_walk_of session_reader_is x.reader offset bytes (position id) at read whole)

    unis-then : ArrivingFollows uni_rules d.work.transport d.unis s.unis (contents g) after × SlotsRead after (contents g) d.unis.reading
    unis-then = kind-apart uni_rules uni_verdict_of uni_reader log position d.work.transport d.unis s.unis (amid.unis going) resting.unis id part no-kinds.0

    bis-then : ArrivingFollows bi_rules d.work.transport d.bis s.bis (contents g) after × SlotsRead after (contents g) d.bis.reading
    bis-then = kind-apart bi_rules bi_verdict_of bi_reader log position d.work.transport d.bis s.bis (amid.bis going) resting.bis id part no-kinds.1

    amid-put : (front : List ℕ) → Amid side driver_then g (after_front front (λ m. s.progress.settings) s) [] after uncollected
    amid-put front =
        let p : DriverProgress = (after_front front (λ m. s.progress.settings) s).progress in
        let keeps : Keeps kept (next s s.dispatched p) =
        keeps-progress kept s (reader-keeps id reader_then d.work.dispatched s amid.work.keeps) kept.fault p (front-settings front s) (amid.work.keeps.fault ∙ sym (front-fault front (λ m. s.progress.settings) s)) in
        subst (λ (z : DriverState). Amid side driver_then g z [] after uncollected) (sym (front-progress front (λ m. s.progress.settings) s))
        (put-amid side d log s position uncollected id part amid alone read d.unis d.bis kept p (front-fault front (λ m. s.progress.settings) s) (front-datagrams front (λ m. s.progress.settings) s) keeps amid.kinds amid.few
        (λ e. control-moved id position after (elsewhere side d log s position uncollected id part amid alone read) (contents g) d.work.dispatched.critical.control s.dispatched.control not-critical
        (control-more side log id part d.work.dispatched.critical.control s.dispatched.control position (amid.work.control going)))
        (λ e. sessions-read id reader_then y (contents g) position after (elsewhere side d log s position uncollected id part amid alone read) reader-at d.work.dispatched.sessions.living s.sessions amid.work.keeps.living amid.work.roles.living named
        (sessions-more side log id part d.work.dispatched.sessions.living s.sessions position (amid.work.sessions going)))
        (λ e. unis-then.0) (λ e. bis-then.0))

    -- ---- all of it

    put-by : (byte : ℕ) (later : List ℕ) → whole ≡ byte ∷ later → Put side log position uncollected id whole (fed_by session_rules x.reader whole) driver_then
    put-by byte later e = record {
      some = fed-some session_rules is_over session_walk_of session_reader_is x.reader offset bytes (position id) at read whole byte later e open_;
      within = within;
      came = λ m. s.progress.settings;
      rises = λ m f. f;
      front = λ m lt. front-silent m (λ k le. runs k (omega (arith, lt, le)));
      final_amid = λ m f over.
          subst (λ k. Amid side driver_then (log_bytes log id (take k whole)) (after_front (take m whole) (λ j. s.progress.settings) s) [] (position_after position id (length (take k whole))) uncollected) (sym f) (amid-put (take m whole));
      all = λ f. (all-taken f, subst (λ xs. SilentFront view id bytes xs s (λ m. s.progress.settings)) (take-whole (length whole) whole (omega arith)) (front-silent (length whole) (λ k le. never f k le)));
      open_amid = λ f.
          subst (λ xs. Amid side driver_then (log_bytes log id xs) (after_front whole (λ j. s.progress.settings) s) [] (position_after position id (length xs)) uncollected) (part-whole f) (amid-put whole);
      reads = λ f.
          subst (λ xs. SlotsRead (position_after position id (length xs)) (contents (log_bytes log id xs)) d.unis.reading × SlotsRead (position_after position id (length xs)) (contents (log_bytes log id xs)) d.bis.reading) (part-whole f)
          (unis-then.1, bis-then.1);
      reads_body = λ f.
          subst (λ xs. ControlRead (position_after position id (length xs)) (contents (log_bytes log id xs)) d.work.dispatched.critical.control × SessionsRead (position_after position id (length xs)) (contents (log_bytes log id xs)) kept.sessions.living) (part-whole f) (
            control-still log position id part read d.work.dispatched.critical.control resting.control,
            changed-still log position id part read (λ z. record z { reader = reader_then }) (λ z. refl) id d.work.dispatched.sessions.living (sessions-still log position id part read d.work.dispatched.sessions.living resting.sessions),
          );
      unready = resting.unready;
      first_unis = resting.first_unis;
      first_bis = resting.first_bis;
    }
      where
        open_ : session_rules.has_said x.reader ≡ false
        open_ =
            let r = runs-of view y id s.sessions named resting.finds.sessions in
            ap session_rules.has_said (has session_rules is_over session_walk_of session_reader_is x.reader offset bytes (position id) at read whole)
            ∙ (has-said-is session_rules is_over session_walk_of session_reader_is (drop offset bytes)
            ∙ ap is_over ((λ i. session_walk_of (drop offset (contents log (sym r.0 i))) ((sym running ∙ ap (end_of (events_of log)) (sym r.0)) i)) ∙ r.1))

        all-taken : session_rules.has_said reader_then ≡ false → n ≡ length whole
        all-taken f = fed-whole session_rules is_over session_walk_of session_reader_is x.reader offset bytes (position id) at read whole f

        part-whole : session_rules.has_said reader_then ≡ false → part ≡ whole
        part-whole f = take-whole n whole (let e = all-taken f in omega (arith, e))

        never : session_rules.has_said reader_then ≡ false → (k : ℕ) → k ≤ length whole → is_over (walk (take k whole)) ≡ false
        never f k le = elim (cases_lt k n) [
          | inl lt ↦ runs k lt
          | inr more ↦ (λ i. is_over (walk (take (let h : k ≡ n = (let all = all-taken f in omega (arith, all, le, more)) in h i) whole))) ∙ (sym said ∙ f)
        ]

  pub find-any : (xs : List Session) → is_some (find (λ (z : Session). z.id == id) xs) ≡ list_any (λ (z : Session). z.id == id) xs
  find-any [] = refl
  find-any (z ∷ zs) = by (z.id == id) (find-any zs)
    where
      by : (b : Bool) → is_some (find (λ (w : Session). w.id == id) zs) ≡ list_any (λ (w : Session). w.id == id) zs → is_some (cond b (Some z) (find (λ (w : Session). w.id == id) zs)) ≡ (b || list_any (λ (w : Session). w.id == id) zs)
      by true again = refl
      by false again = again

  pub session-put : (byte : ℕ) (later : List ℕ) → whole ≡ byte ∷ later
      → Put side log position uncollected id whole (fed_by session_rules x.reader whole) (record d { work = record d.work { dispatched = with_sessions (with_session_reader (fed_piece session_rules x.reader whole) id d.work.dispatched.sessions) d.work.dispatched } })
  session-put byte later e = by (find (λ (z : Session). z.id == id) s.sessions) refl
    where
      by : (o : Option Session) → find (λ (z : Session). z.id == id) s.sessions ≡ o
          → Put side log position uncollected id whole (fed_by session_rules x.reader whole) (record d { work = record d.work { dispatched = with_sessions (with_session_reader (fed_piece session_rules x.reader whole) id d.work.dispatched.sessions) d.work.dispatched } })
      by (Some y) f = put-by y f byte later e
      by None f = absurd (true≢false (sym (find-any s.sessions ∙ lives) ∙ ap is_some f))
