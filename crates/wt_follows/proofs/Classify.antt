-- A stream that showed what it is goes where the table says, and out goes what the table says.
use Rattle.std.proofs.Common.{◌∙◌, ◌≡◌, ◌≤◌, ◌++◌, ◌%◌, ◌∷◌, Bool, List, None, Option, Some, [], ap, append_assoc, cond, false, filter, flat_map, length, map, nat_lt, option_map, refl, subst, sym, true, ℕ}
use Rattle.std.proofs.lemmas.Bool.{eq-eqb, eqb-true, or_parts}
use Rattle.std.proofs.lemmas.List.{append-nil}
use Rattle.std.proofs.lemmas.List.Folds.{list_any-append}
use Rattle.std.specs.List.{list_any}
use Rattle.std.specs.Option.{option_or}
use Rattle.std.specs.Prelude.{◌&&◌, ◌==◌, ◌||◌, if◌then◌else◌, is_none, is_some, not}
use Rattle.wt_follows.proofs.Admits.{Placed, admits, admits-gone, any-map}
use Rattle.wt_follows.proofs.Gains.{Gains, IsNew, gains, next}
use Rattle.wt_follows.proofs.GoneRoles.{MayRetire, gone-elsewhere, gone_position}
use Rattle.wt_follows.proofs.IsReader.{control_reader}
use Rattle.wt_follows.proofs.KeepsLaws.{keeps-gone, keeps-sources}
use Rattle.wt_follows.proofs.Lists.{none-filtered}
use Rattle.wt_follows.proofs.Logs.{differs, flip}
use Rattle.wt_follows.proofs.Moved.{no-rest, not-held}
use Rattle.wt_follows.proofs.Offsets.{verdict_offset}
use Rattle.wt_follows.proofs.Progress.{progressed}
use Rattle.wt_follows.proofs.ReaderLaws.{fresh-at}
use Rattle.wt_follows.proofs.Retire.{retire_follows}
use Rattle.wt_follows.proofs.Stopped.{gave-up, new-still, refused-stream}
use Rattle.wt_follows.specs.Roles.{AreDistinct, is_at, is_critical, is_in, waits}
use Rattle.wt_follows.specs.Tie.{AtHeader, WorkAmid, classified_as, goes, goes_on_at, have_settings_come, header_verdict, queued_as}
use Rattle.wt_kept.specs.Classifying.{RequestAdmitted, admit_stream, admitted_by, classify_now, gives_up_now, refuse_request, refuse_stream, retire_if, unless_room, with_control, with_decoder, with_dispatched, with_encoder, with_request, with_sessions}
use Rattle.wt_kept.specs.Ending.{retire_now}
use Rattle.wt_kept.specs.Kept.{LiveNow, Refused, WorkNow}
use Rattle.wt_kept.specs.Readers.{ControlReading, Slot, control_rules}
use Rattle.wt_kept.specs.Windows.{Admits}
use Rattle.wt_transport.proofs.Bools.{first, second}
use Rattle.wt_proto.specs.ControlWalk.{control_walk_of}
use Rattle.wt_proto.specs.Uni.{is_final}
use Rattle.wt_proto.specs.declared.control_walk.ControlWalk.{ControlWalk}
use Rattle.wt_proto.specs.declared.verdict.Verdict.{Verdict}
use Rattle.wt_proto.specs.declared.verdict.Verdict.TheVariants as verdicts
use Rattle.wt_turn.specs.Joined.{newest_first}
use Rattle.wt_turn.specs.Streams.{contents}
use Rattle.wt_turn.specs.Unread.{AtOffset, GivenUp, ReadPosition, given_up}
use Rattle.wt_sessions.specs.Driver.{transport_view}
use Rattle.wt_sessions.specs.DriverState.{DriverState}
use Rattle.wt_sessions.specs.Scan.{with_consequence}
use Rattle.wt_sessions.specs.Step.{classified_now, forget, queue_or_forget, wait_or_drop}
use Rattle.wt_sessions.specs.StreamTable.{Admitted, Classified, Consequence, Dispatched, DriverProgress, Session, TransportView, Waiting, admit_or_stop, admitting, consequence, faulty, gone_actions, has_room, none_of_it, only_once, stopping, stream_ends, with_ids}
use Rattle.wt_turn.specs.Log.{Log}
use Rattle.wt_turn.specs.declared.action.Action.{Action}
use Rattle.wt_turn.specs.declared.action.Action.TheVariants as actions
use Rattle.wt_wire.specs.Codes.{code_of}
use Rattle.wt_wire.specs.HeaderList.{Fields}
use Rattle.wt_wire.specs.declared.error.ErrorCode.{ErrorCode}
use Rattle.wt_wire.specs.declared.error.ErrorCode.TheVariants as h3
use Rattle.wt_wire.specs.declared.side.Side.{Side}

-- the stream's header says this, and is read up to its end; a session's id is a multiple of 4
pub record Shows (log : Log) (position : ReadPosition) (k : ℕ) (v : Verdict) : Type 0 where
  pub verdict : header_verdict log k ≡ v
  pub at_offset : (g : ℕ) → verdict_offset v ≡ Some g → position ≡ AtOffset g
  pub within : (g : ℕ) → verdict_offset v ≡ Some g → g ≤ length (contents log k)
  pub named : (session offset : ℕ) → v ≡ verdicts.WebTransport session offset → (session % 4) ≡ 0

-- ---- lists

or-none : (b : Bool) → (b || false) ≡ b
or-none true = refl
or-none false = refl

any-more : {X : Type 0} (f : X → ℕ) (j : ℕ) (xs : List X) (y : X) → (f y == j) ≡ false → list_any (λ (x : X). f x == j) (xs ++ y ∷ []) ≡ list_any (λ (x : X). f x == j) xs
any-more {X} f j xs y e =
    list_any-append (λ (x : X). f x == j) xs (y ∷ []) ∙ ((λ i. list_any (λ (x : X). f x == j) xs || (e i || false)) ∙ or-none (list_any (λ (x : X). f x == j) xs))

map-more : {X Y : Type 0} (f : X → Y) (xs : List X) (y : X) → map f (xs ++ y ∷ []) ≡ map f xs ++ f y ∷ []
map-more f [] y = refl
map-more f (x ∷ xs) y = ap (λ ys. f x ∷ ys) (map-more f xs y)

distinct-more : (k : ℕ) (xs : List ℕ) → is_in k xs ≡ false → AreDistinct xs → AreDistinct (xs ++ k ∷ [])
distinct-more k [] e h = (refl, tt)
distinct-more k (x ∷ xs) e h =
    let parts = or_parts (x == k) (is_in k xs) e in
    (any-more (λ n. n) x xs k (flip x k parts.0) ∙ h.0, distinct-more k xs parts.1 h.1)

-- those that don't name this id
others-all : {X : Type 0} (f : X → ℕ) (k : ℕ) (xs : List X) → list_any (λ (x : X). f x == k) xs ≡ false → filter (λ (x : X). not (k == f x)) xs ≡ xs
others-all f k [] e = refl
others-all {X} f k (x ∷ xs) e =
    let parts = or_parts (f x == k) (list_any (λ (y : X). f y == k) xs) e in
    ap (λ (b : Bool). cond (not b) (x ∷ filter (λ (y : X). not (k == f y)) xs) (filter (λ (y : X). not (k == f y)) xs)) (flip (f x) k parts.0) ∙ ap (λ ys. x ∷ ys) (others-all f k xs parts.1)

none-passes : {X : Type 0} (p : X → Bool) (xs : List X) → list_any p xs ≡ false → filter p xs ≡ []
none-passes p [] e = refl
none-passes {X} p (x ∷ xs) e =
    let parts = or_parts (p x) (list_any p xs) e in
    ap (λ (b : Bool). cond b (x ∷ filter p xs) (filter p xs)) parts.0 ∙ none-passes p xs parts.1

-- ---- where a stream goes

module _ (side : Side) (log : Log) (w : WorkNow) (s : DriverState) (sent : List Action) (position : ℕ → ReadPosition) (uncollected : List Action)
    (amid : WorkAmid side w log s sent position uncollected) (going : goes s ≡ true) (k : ℕ) (new : IsNew side log sent s k) where
  abbrev view : TransportView
  view = transport_view side log

  -- a step on the work and on the state, at which this goes out
  pub record Leads (work : WorkNow) (after : DriverState) (out : List Action) : Type 0 where
    pub position_then : ℕ → ReadPosition
    pub amid_then : WorkAmid side work log after (sent ++ out) position_then (newest_first out uncollected)
    pub elsewhere : (j : ℕ) → (k == j) ≡ false → waits s j ≡ false → position_then j ≡ position j
    pub waiting : (j : ℕ) → (k == j) ≡ false → waits s j ≡ false → waits after j ≡ false

  opened : s.is_open ≡ true
  opened = first s.is_open (is_none s.progress.fault) going

  -- nothing goes out
  silent : (work : WorkNow) (after : DriverState) (position_then : ℕ → ReadPosition) → WorkAmid side work log after sent position_then uncollected
      → ((j : ℕ) → (k == j) ≡ false → position_then j ≡ position j) → ((j : ℕ) → (k == j) ≡ false → waits after j ≡ waits s j) → Leads work after []
  silent work after position_then a else_ same = record {
    position_then = position_then;
    amid_then = subst (λ (xs : List Action). WorkAmid side work log after xs position_then uncollected) (sym (append-nil sent)) a;
    elsewhere = λ j ne e. else_ j ne;
    waiting = λ j ne e. same j ne ∙ e;
  }

  given-else : (j : ℕ) → (k == j) ≡ false → given_up position k j ≡ position j
  given-else j e = ap (λ (b : Bool). if b then GivenUp else position j) e

  -- given up, the connection goes on
  abbrev given : WorkAmid side (gives_up_now k w) log s sent (given_up position k) uncollected
  given = gave-up side w log s sent position uncollected amid opened k new

  -- ---- nothing, or a fault

  not-faulty : (d : DriverState) (code : ErrorCode) → (d.is_open && is_none (Some code)) ≡ true → ⊥
  not-faulty d code e = let f = second d.is_open (is_none (Some code)) e in cc

  -- the table is the same, and the connection fails
  failed : (work : WorkNow) (position_then : ℕ → ReadPosition) (d : Dispatched) (code : ErrorCode) → d ≡ s.dispatched → WorkAmid side work log s sent position_then uncollected
      → WorkAmid side (record work { dispatched = record work.dispatched { fault = Some code } }) log (next s d (with_consequence (faulty code) s.progress)) sent position_then uncollected
  failed work position_then d code same a =
      subst (λ (e : Dispatched). WorkAmid side (record work { dispatched = record work.dispatched { fault = Some code } }) log (next s e (with_consequence (faulty code) s.progress)) sent position_then uncollected) (sym same)
      (progressed s (with_consequence (faulty code) s.progress) side work log sent position_then uncollected a (Some code) refl refl (λ e. absurd (not-faulty s code e)))

  -- ---- critical streams

  -- the table with one more critical stream
  gains-critical : (at : ReadPosition) (control encoder decoder : Option (ℕ × ℕ)) (p : DriverProgress)
      → ((j : ℕ) → (k == j) ≡ false → (is_at control j || is_at encoder j || is_at decoder j) ≡ is_critical s j)
      → Gains log at k s (next s (record s.dispatched { control = control; encoder = encoder; decoder = decoder }) p)
  gains-critical at control encoder decoder p same = record {
    members = λ session. refl;
    gone = λ j e. refl;
    gone_less = λ j e. e;
    critical = same;
    held = λ j e. refl;
    waiting = λ j e. refl;
    distinct = amid.roles.waiting;
    held_distinct = amid.roles.held;
    lone_held = λ e. absurd (let f = new.apart.held in cc);
    lone_waiting = λ e. absurd (let f = new.apart.waits in cc);
    rests = λ j ne e. e;
    header = λ e. absurd (let f = no-rest s k new.apart in cc);
  }

  module _ (offset : ℕ) where
    abbrev its : ℕ × ℕ
    its = (k, offset)

    first-control : position k ≡ AtOffset offset → offset ≤ length (contents log k) → w.dispatched.critical.control ≡ None → s.dispatched.control ≡ None
        → Leads (record w { dispatched = with_control None k w.dispatched }) (next s (record s.dispatched { control = Some its }) (with_consequence none_of_it s.progress)) []
    first-control at_offset within no_slot none =
        silent _ _ position
        (gains side w log s sent position uncollected amid k new (record s.dispatched { control = Some its }) (with_consequence none_of_it s.progress)
        (gains-critical (position k) (Some its) s.dispatched.encoder s.dispatched.decoder (with_consequence none_of_it s.progress)
        (λ j ne. (λ i. ne i || is_at s.dispatched.encoder j || is_at s.dispatched.decoder j) ∙ sym (λ i. is_at (none i) j || is_at s.dispatched.encoder j || is_at s.dispatched.decoder j)))
        (with_control None k w.dispatched)
        (keeps-sources w.dispatched s amid.keeps (with_control None k w.dispatched).critical w.dispatched.requests w.dispatched.fault (Some its) s.dispatched.encoder s.dispatched.decoder s.dispatched.requests s.dispatched.held
        (with_consequence none_of_it s.progress) refl amid.keeps.encoder amid.keeps.decoder (sym (ap have_settings_come no_slot) ∙ amid.keeps.settings) amid.keeps.queued amid.keeps.held amid.keeps.fault)
        (λ e. (refl, fresh-at control_rules (λ (c : ControlWalk). is_some c.fault) control_walk_of control_reader offset (contents log k) (position k) at_offset within))
        (λ e. amid.sessions going))
        (λ j ne. refl) (λ j ne. refl)

    control-leads : position k ≡ AtOffset offset → offset ≤ length (contents log k) → (c : Option (Slot ControlReading)) (x : Option (ℕ × ℕ)) → w.dispatched.critical.control ≡ c → s.dispatched.control ≡ x
        → option_map (λ (y : Slot ControlReading). y.id) c ≡ option_map (λ (y : ℕ × ℕ). y.0) x
        → Leads (record w { dispatched = with_control c k w.dispatched }) (next s (record s.dispatched { control = option_or x (Some its) }) (with_consequence (only_once x) s.progress)) (only_once x).actions
    control-leads at_offset within None None ec ex same = first-control at_offset within ec ex
    control-leads at_offset within (Some c) (Some x) ec ex same =
        silent _ _ position (failed w position (record s.dispatched { control = Some x }) h3.StreamCreation (λ i. record s.dispatched { control = sym ex i }) amid) (λ j ne. refl) (λ j ne. refl)
    control-leads at_offset within None (Some x) ec ex same = absurd cc
    control-leads at_offset within (Some c) None ec ex same = absurd cc

    encoder-leads : (x : Option (ℕ × ℕ)) (c : Option ℕ) → s.dispatched.encoder ≡ x → c ≡ option_map (λ (y : ℕ × ℕ). y.0) x
        → Leads (record w { transport = (gives_up_now k w).transport; dispatched = with_encoder c k w.dispatched }) (next s (record s.dispatched { encoder = option_or x (Some its) }) (with_consequence (only_once x) s.progress)) (only_once x).actions
    encoder-leads None None ex same =
        silent _ _ (given_up position k)
        (gains side (gives_up_now k w) log s sent (given_up position k) uncollected given k new (record s.dispatched { encoder = Some its }) (with_consequence none_of_it s.progress)
        (gains-critical (given_up position k k) s.dispatched.control (Some its) s.dispatched.decoder (with_consequence none_of_it s.progress)
        (λ j ne. (λ i. is_at s.dispatched.control j || ne i || is_at s.dispatched.decoder j) ∙ sym (λ i. is_at s.dispatched.control j || is_at (ex i) j || is_at s.dispatched.decoder j)))
        (with_encoder None k w.dispatched)
        (keeps-sources w.dispatched s amid.keeps (with_encoder None k w.dispatched).critical w.dispatched.requests w.dispatched.fault s.dispatched.control (Some its) s.dispatched.decoder s.dispatched.requests s.dispatched.held
        (with_consequence none_of_it s.progress) amid.keeps.control refl amid.keeps.decoder amid.keeps.settings amid.keeps.queued amid.keeps.held amid.keeps.fault)
        (λ e. given.control going) (λ e. given.sessions going))
        given-else (λ j ne. refl)
    encoder-leads (Some x) (Some c) ex same =
        silent _ _ (given_up position k) (failed (gives_up_now k w) (given_up position k) (record s.dispatched { encoder = Some x }) h3.StreamCreation (λ i. record s.dispatched { encoder = sym ex i }) given) given-else (λ j ne. refl)
    encoder-leads None (Some c) ex same = absurd cc
    encoder-leads (Some x) None ex same = absurd cc

    decoder-leads : (x : Option (ℕ × ℕ)) (c : Option ℕ) → s.dispatched.decoder ≡ x → c ≡ option_map (λ (y : ℕ × ℕ). y.0) x
        → Leads (record w { transport = (gives_up_now k w).transport; dispatched = with_decoder c k w.dispatched }) (next s (record s.dispatched { decoder = option_or x (Some its) }) (with_consequence (only_once x) s.progress)) (only_once x).actions
    decoder-leads None None ex same =
        silent _ _ (given_up position k)
        (gains side (gives_up_now k w) log s sent (given_up position k) uncollected given k new (record s.dispatched { decoder = Some its }) (with_consequence none_of_it s.progress)
        (gains-critical (given_up position k k) s.dispatched.control s.dispatched.encoder (Some its) (with_consequence none_of_it s.progress)
        (λ j ne. (λ i. is_at s.dispatched.control j || is_at s.dispatched.encoder j || ne i) ∙ sym (λ i. is_at s.dispatched.control j || is_at s.dispatched.encoder j || is_at (ex i) j)))
        (with_decoder None k w.dispatched)
        (keeps-sources w.dispatched s amid.keeps (with_decoder None k w.dispatched).critical w.dispatched.requests w.dispatched.fault s.dispatched.control s.dispatched.encoder (Some its) s.dispatched.requests s.dispatched.held
        (with_consequence none_of_it s.progress) amid.keeps.control amid.keeps.encoder refl amid.keeps.settings amid.keeps.queued amid.keeps.held amid.keeps.fault)
        (λ e. given.control going) (λ e. given.sessions going))
        given-else (λ j ne. refl)
    decoder-leads (Some x) (Some c) ex same =
        silent _ _ (given_up position k) (failed (gives_up_now k w) (given_up position k) (record s.dispatched { decoder = Some x }) h3.StreamCreation (λ i. record s.dispatched { decoder = sym ex i }) given) given-else (λ j ne. refl)
    decoder-leads None (Some c) ex same = absurd cc
    decoder-leads (Some x) None ex same = absurd cc

  -- ---- streams of sessions

  -- the header ends where it is read to
  at-header : (v : Verdict) (offset : ℕ) → Shows log (position k) k v → goes_on_at v ≡ Some offset → verdict_offset v ≡ Some offset → AtHeader log (position k) k
  at-header v offset shows e f = record { offset = offset; verdict = ap goes_on_at shows.verdict ∙ e; at_offset = shows.at_offset offset f }

  -- what goes out then
  abbrev stop_out : ErrorCode → Action
  stop_out code = actions.StopOut k (code_of code)

  -- stopped, and nothing more of it is kept
  stopped-leads : (code : ErrorCode) → Leads (refuse_stream k code w) (next s s.dispatched (with_consequence (stopping k code []) s.progress)) (stop_out code ∷ [])
  stopped-leads code = record {
    position_then = given_up position k;
    amid_then = progressed s (with_consequence (stopping k code []) s.progress) side (refuse_stream k code w) log (sent ++ stop_out code ∷ []) (given_up position k) (stop_out code ∷ uncollected)
        (refused-stream side w log s sent position uncollected amid opened k code new) w.dispatched.fault refl amid.keeps.fault (λ e. e);
    elsewhere = λ j ne e. given-else j ne;
    waiting = λ j ne e. e;
  }

  module _ (session offset : ℕ) (shows : Shows log (position k) k (verdicts.WebTransport session offset)) where
    abbrev place : Waiting
    place = record { id = k; session = session }

    abbrev waits_too : Dispatched
    waits_too = record s.dispatched { streams = s.dispatched.streams ++ place ∷ [] }

    gains-waiting : Gains log (position k) k s (next s waits_too (with_consequence admitting s.progress))
    gains-waiting = record {
      members = λ j. refl;
      gone = λ j e. refl;
      gone_less = λ j e. e;
      critical = λ j e. refl;
      held = λ j e. refl;
      waiting = λ j ne. any-more (λ (x : Waiting). x.id) j s.dispatched.streams place ne;
      distinct =
          subst AreDistinct (sym (map-more (λ (x : Waiting). x.id) s.dispatched.streams place))
          (distinct-more k (map (λ (x : Waiting). x.id) s.dispatched.streams) (sym (any-map (λ (x : Waiting). x.id) k s.dispatched.streams) ∙ new.apart.waits) amid.roles.waiting);
      held_distinct = amid.roles.held;
      lone_held = λ e. absurd (let f = new.apart.held in cc);
      lone_waiting = λ e. (new.apart.critical, new.apart.held);
      rests = λ j ne e. sym (ap (λ b. b || (is_in j s.dispatched.held && not (s.dispatched.is_established j))) (any-more (λ (x : Waiting). x.id) j s.dispatched.streams place ne)) ∙ e;
      header = λ e. at-header (verdicts.WebTransport session offset) offset shows refl refl;
    }

    named : (session % 4) ≡ 0
    named = shows.named session offset refl

    living-distinct : AreDistinct (map (λ (x : LiveNow). x.id) w.dispatched.sessions.living)
    living-distinct = subst AreDistinct (sym amid.keeps.living) amid.roles.living

    abbrev to_work : Admits → WorkNow
    to_work a = admitted_by a.admission k (with_dispatched (with_sessions a.sessions) w)

    placed-leads : Placed w.dispatched s amid.keeps k session named living-distinct (with_consequence admitting s.progress) refl amid.keeps.fault
        → Leads (admit_stream k session w) (next s waits_too (with_consequence admitting s.progress)) []
    placed-leads x =
        subst (λ (a : Admits). Leads (to_work a) (next s waits_too (with_consequence admitting s.progress)) []) (sym x.here)
        (silent (record w { dispatched = record w.dispatched { sessions = x.sessions } }) (next s waits_too (with_consequence admitting s.progress)) position
        (gains side w log s sent position uncollected amid k new waits_too (with_consequence admitting s.progress) gains-waiting (record w.dispatched { sessions = x.sessions }) x.keeps (λ e. amid.control going)
        (λ e. x.read s.sessions (contents log) position (amid.sessions going)))
        (λ j ne. refl) (λ j ne. any-more (λ (x : Waiting). x.id) j s.dispatched.streams place ne))

    waiting-leads : (gone room : Bool) → s.dispatched.is_gone session ≡ gone → has_room s.dispatched session (map (λ (x : Waiting). x.session) s.dispatched.streams) ≡ room
        → Leads (admit_stream k session w) (next s (wait_or_drop (admit_or_stop gone room k).admitted place s.dispatched) (with_consequence (admit_or_stop gone room k) s.progress)) (admit_or_stop gone room k).actions
    waiting-leads true room e f =
        subst (λ (a : Admits). Leads (to_work a) (next s s.dispatched (with_consequence (stopping k h3.SessionGone []) s.progress)) (stop_out h3.SessionGone ∷ []))
        (sym (admits-gone w.dispatched s amid.keeps k session named living-distinct (with_consequence admitting s.progress) refl amid.keeps.fault e))
        (stopped-leads h3.SessionGone)
    waiting-leads false false e f =
        subst (λ (a : Admits). Leads (to_work a) (next s s.dispatched (with_consequence (stopping k h3.BufferedStreamRejected []) s.progress)) (stop_out h3.BufferedStreamRejected ∷ []))
        (sym (admits w.dispatched s amid.keeps k session named living-distinct (with_consequence admitting s.progress) refl amid.keeps.fault false e f))
        (stopped-leads h3.BufferedStreamRejected)
    waiting-leads false true e f = placed-leads (admits w.dispatched s amid.keeps k session named living-distinct (with_consequence admitting s.progress) refl amid.keeps.fault true e f)

  -- ---- requests

  -- the table and what goes out where a request is refused
  abbrev refusal : ErrorCode → Dispatched → List Action → DriverState
  refusal code d out = next s d (with_consequence (stopping k code out) s.progress)

  abbrev gone_out : List Action
  gone_out = gone_actions view s.dispatched k

  -- on a server it becomes gone
  retired-leads : (code : ErrorCode) → (k % 4) ≡ 0 → Leads (retire_now k Refused (refuse_stream k code w)) (refusal code (forget k s.dispatched) gone_out) (stop_out code ∷ gone_out)
  retired-leads code four =
      let may : MayRetire side log s k = record {
        is_open = opened;
        is_session = four;
        remains = new.apart.gone;
        there = new.receives;
        arriving = new.arriving;
        critical = new.apart.critical;
        waits = new.apart.waits;
        member = new.apart.member;
      } in
      let position_then : ℕ → ReadPosition = gone_position s k (given_up position k) in
      record {
        position_then = position_then;
        amid_then = subst (λ (xs : List Action). WorkAmid side (retire_now k Refused (refuse_stream k code w)) log (refusal code (forget k s.dispatched) gone_out) xs position_then (newest_first gone_out (stop_out code ∷ uncollected)))
            (append_assoc sent (stop_out code ∷ []) gone_out)
            (progressed (next s (forget k s.dispatched) s.progress) (with_consequence (stopping k code gone_out) s.progress) side (retire_now k Refused (refuse_stream k code w)) log ((sent ++ stop_out code ∷ []) ++ gone_out) position_then
            (newest_first gone_out (stop_out code ∷ uncollected))
            (subst (λ (xs : List Session). WorkAmid side (retire_now k Refused (refuse_stream k code w)) log (record s { dispatched = forget k s.dispatched; sessions = xs }) ((sent ++ stop_out code ∷ []) ++ gone_out) position_then
            (newest_first gone_out (stop_out code ∷ uncollected)))
            (others-all (λ (x : Session). x.id) k s.sessions new.apart.living)
            (retire_follows side (refuse_stream k code w) log s (sent ++ stop_out code ∷ []) (given_up position k) (stop_out code ∷ uncollected) (refused-stream side w log s sent position uncollected amid opened k code new) k may))
            w.dispatched.fault refl amid.keeps.fault (λ e. e));
        elsewhere = λ j ne e. gone-elsewhere s k (given_up position k) j ne e ∙ given-else j ne;
        waiting = λ j ne e. none-filtered (λ (x : Waiting). x.id == j) (λ (x : Waiting). not (k == x.session)) s.dispatched.streams e;
      }

  -- elsewhere it names no session
  module _ (code : ErrorCode) (other : (k % 4 == 0) ≡ false) where
    absent : (P : ℕ → Bool) → (P k ≡ true → (k % 4) ≡ 0) → P k ≡ false
    absent P named = by (P k) refl
      where
        by : (b : Bool) → P k ≡ b → P k ≡ false
        by false e = e
        by true e = absurd (let same : (k % 4 == 0) ≡ true = eq-eqb (k % 4) 0 (named e) in cc)

    no-streams : list_any (λ (x : Waiting). x.session == k) s.dispatched.streams ≡ false
    no-streams = absent (λ j. list_any (λ (x : Waiting). x.session == j) s.dispatched.streams) (amid.keeps.named_streams k)

    no-datagrams : list_any (λ (x : Admitted). x.session == k) s.dispatched.datagrams ≡ false
    no-datagrams = absent (λ j. list_any (λ (x : Admitted). x.session == j) s.dispatched.datagrams) (amid.keeps.named_datagrams k)

    abbrev merely_gone : Dispatched
    merely_gone = record s.dispatched { is_gone = λ j. s.dispatched.is_gone j || k == j }

    forget-is : forget k s.dispatched ≡ merely_gone
    forget-is = λ i. record merely_gone {
      held = others-all (λ h. h) k s.dispatched.held (not-held s k new.apart.held) i;
      streams = others-all (λ (x : Waiting). x.session) k s.dispatched.streams no-streams i;
      datagrams = others-all (λ (x : Admitted). x.session) k s.dispatched.datagrams no-datagrams i;
    }

    nothing-out : gone_out ≡ []
    nothing-out = λ i. flat_map (stream_ends view) (with_ids (map (λ (x : Waiting). x.id) (none-passes (λ (x : Waiting). x.session == k) s.dispatched.streams no-streams i))
        (amid.keeps.unjoined k (absent s.dispatched.is_established (amid.keeps.named k)) i))

    gone-other : (j : ℕ) → (k == j) ≡ false → (s.dispatched.is_gone j || k == j) ≡ s.dispatched.is_gone j
    gone-other j ne = ap (λ b. s.dispatched.is_gone j || b) ne ∙ or-none (s.dispatched.is_gone j)

    gone-less : (j : ℕ) → (s.dispatched.is_gone j || k == j) ≡ false → s.dispatched.is_gone j ≡ false
    gone-less j e = (or_parts (s.dispatched.is_gone j) (k == j) e).0

    gains-gone : Gains log (given_up position k k) k s (refusal code merely_gone [])
    gains-gone = record {
      members = λ j. refl;
      gone = gone-other;
      gone_less = gone-less;
      critical = λ j e. refl;
      held = λ j e. refl;
      waiting = λ j e. refl;
      distinct = amid.roles.waiting;
      held_distinct = amid.roles.held;
      lone_held = λ e. absurd (let f = new.apart.held in cc);
      lone_waiting = λ e. absurd (let f = new.apart.waits in cc);
      rests = λ j ne e. e;
      header = λ e. absurd (let f = no-rest s k new.apart in cc);
    }

    stopped-amid : WorkAmid side (refuse_stream k code w) log s (sent ++ stop_out code ∷ []) (given_up position k) (stop_out code ∷ uncollected)
    stopped-amid = refused-stream side w log s sent position uncollected amid opened k code new

    other-mod : (j : ℕ) → (j % 4) ≡ 0 → (k == j) ≡ false
    other-mod j e = differs (λ i. i % 4 == 0) k other j (eq-eqb (j % 4) 0 e)

    unnamed-leads : Leads (refuse_stream k code w) (refusal code (forget k s.dispatched) gone_out) (stop_out code ∷ gone_out)
    unnamed-leads =
        subst (λ (x : Dispatched × List Action). Leads (refuse_stream k code w) (refusal code x.0 x.1) (stop_out code ∷ x.1)) (λ i. (sym forget-is i, sym nothing-out i))
        (record {
          position_then = given_up position k;
          amid_then = gains side (refuse_stream k code w) log s (sent ++ stop_out code ∷ []) (given_up position k) (stop_out code ∷ uncollected) stopped-amid k (new-still side log sent s k (code_of code) new)
              merely_gone (with_consequence (stopping k code []) s.progress) gains-gone w.dispatched
              (keeps-gone w.dispatched s amid.keeps k (with_consequence (stopping k code []) s.progress) other-mod gone-less gone-other new.apart.living refl amid.keeps.fault)
              (λ e. stopped-amid.control going) (λ e. stopped-amid.sessions going);
          elsewhere = λ j ne e. given-else j ne;
          waiting = λ j ne e. e;
        })

  refused-leads : (code : ErrorCode) → Leads (refuse_request k code w) (refusal code (forget k s.dispatched) gone_out) (stop_out code ∷ gone_out)
  refused-leads code = by (k % 4 == 0) refl
    where
      by : (b : Bool) → (k % 4 == 0) ≡ b → Leads (retire_if b k (refuse_stream k code w)) (refusal code (forget k s.dispatched) gone_out) (stop_out code ∷ gone_out)
      by true e = retired-leads code (eqb-true (k % 4) 0 e)
      by false e = unnamed-leads code e

  module _ (fields : Fields) (offset : ℕ) (shows : Shows log (position k) k (verdicts.Request fields offset)) where
    abbrev request : Bool → Classified
    request admitted = record { id = k; verdict = verdicts.Request fields offset; admitted = admitted }

    abbrev held_too : Dispatched
    held_too = record s.dispatched { requests = s.dispatched.requests ++ request true ∷ []; held = s.dispatched.held ++ k ∷ [] }

    held-same : (j : ℕ) → (k == j) ≡ false → is_in j (s.dispatched.held ++ k ∷ []) ≡ is_in j s.dispatched.held
    held-same j ne = any-more (λ h. h) j s.dispatched.held k ne

    gains-held : Gains log (position k) k s (next s held_too (with_consequence admitting s.progress))
    gains-held = record {
      members = λ j. refl;
      gone = λ j e. refl;
      gone_less = λ j e. e;
      critical = λ j e. refl;
      held = λ j ne. λ i. held-same j ne i || any-more (λ (c : Classified). c.id) j s.dispatched.requests (request true) ne i;
      waiting = λ j e. refl;
      distinct = amid.roles.waiting;
      held_distinct = distinct-more k s.dispatched.held (or_parts (is_in k s.dispatched.held) (list_any (λ (c : Classified). c.id == k) s.dispatched.requests) new.apart.held).0 amid.roles.held;
      lone_held = λ e. new.apart.critical;
      lone_waiting = λ e. absurd (let f = new.apart.waits in cc);
      rests = λ j ne e. sym (ap (λ b. waits s j || (b && not (s.dispatched.is_established j))) (held-same j ne)) ∙ e;
      header = λ e. at-header (verdicts.Request fields offset) offset shows refl refl;
    }

    queued-leads : Leads (with_dispatched (λ d. record d { requests = with_request k fields d.requests }) w) (next s held_too (with_consequence admitting s.progress)) []
    queued-leads =
        silent _ _ position
        (gains side w log s sent position uncollected amid k new held_too (with_consequence admitting s.progress) gains-held (record w.dispatched { requests = with_request k fields w.dispatched.requests })
        (keeps-sources w.dispatched s amid.keeps w.dispatched.critical (with_request k fields w.dispatched.requests) w.dispatched.fault s.dispatched.control s.dispatched.encoder s.dispatched.decoder
        (s.dispatched.requests ++ request true ∷ []) (s.dispatched.held ++ k ∷ []) (with_consequence admitting s.progress)
        amid.keeps.control amid.keeps.encoder amid.keeps.decoder amid.keeps.settings
        (map-more queued_as w.dispatched.requests.queued (record { id = k; fields = fields })
        ∙ (ap (λ xs. xs ++ (k, Some fields) ∷ []) amid.keeps.queued ∙ sym (map-more classified_as s.dispatched.requests (request true))))
        (ap (λ xs. xs ++ k ∷ []) amid.keeps.held) amid.keeps.fault)
        (λ e. amid.control going) (λ e. amid.sessions going))
        (λ j ne. refl) (λ j ne. refl)

    abbrev by_room : Bool → Consequence
    by_room b = if b then admitting else stopping k h3.RequestRejected gone_out

    -- the requests take it in, or are as they were
    abbrev request_by : Bool → RequestAdmitted
    request_by b = if b then record { has_room = true; requests = with_request k fields w.dispatched.requests } else record { has_room = false; requests = w.dispatched.requests }

    request-leads : (b : Bool) → Leads (unless_room (request_by b).has_room k (with_dispatched (λ d. record d { requests = (request_by b).requests }) w))
        (next s (queue_or_forget (by_room b).admitted (request (by_room b).admitted) s.dispatched) (with_consequence (by_room b) s.progress)) (by_room b).actions
    request-leads true = queued-leads
    request-leads false = refused-leads h3.RequestRejected

  -- ---- all of them

  pub classified : (v : Verdict) → is_final v ≡ true → Shows log (position k) k v
      → Leads (classify_now k v w) (classified_now k v (consequence view s.dispatched k v) s) (consequence view s.dispatched k v).actions
  unfolding classify_now
  classified verdicts.Incomplete f shows = absurd cc
  classified (verdicts.Control offset) f shows = control-leads offset (shows.at_offset offset refl) (shows.within offset refl) w.dispatched.critical.control s.dispatched.control refl refl amid.keeps.control
  classified (verdicts.Encoder offset) f shows = encoder-leads offset s.dispatched.encoder w.dispatched.critical.encoder refl amid.keeps.encoder
  classified (verdicts.Decoder offset) f shows = decoder-leads offset s.dispatched.decoder w.dispatched.critical.decoder refl amid.keeps.decoder
  classified (verdicts.WebTransport session offset) f shows =
      waiting-leads session offset shows (s.dispatched.is_gone session) (has_room s.dispatched session (map (λ (x : Waiting). x.session) s.dispatched.streams)) refl refl
  classified (verdicts.Request fields offset) f shows =
      subst (λ (n : ℕ). Leads (unless_room (request_by fields offset shows (nat_lt n 4)).has_room k (with_dispatched (λ d. record d { requests = (request_by fields offset shows (nat_lt n 4)).requests }) w))
      (classified_now k (verdicts.Request fields offset) (consequence view s.dispatched k (verdicts.Request fields offset)) s) (consequence view s.dispatched k (verdicts.Request fields offset)).actions)
      (ap length (sym amid.keeps.held))
      (request-leads fields offset shows (nat_lt (length s.dispatched.held) 4))
  classified (verdicts.Refused code) f shows = refused-leads code
  classified verdicts.Dropped f shows =
      silent _ _ (given_up position k) (progressed s (with_consequence none_of_it s.progress) side (gives_up_now k w) log sent (given_up position k) uncollected given w.dispatched.fault refl amid.keeps.fault (λ e. e)) given-else (λ j ne. refl)
  classified (verdicts.Fault code) f shows = silent _ _ position (failed w position s.dispatched code refl amid) (λ j ne. refl) (λ j ne. refl)
