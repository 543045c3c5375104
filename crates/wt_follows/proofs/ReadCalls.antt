-- A call on the receiving half of a stream that the application has: bytes are read, or the half is given up, and the driver follows the log
-- with the call's record.
use Rattle.std.proofs.Common.{◌+◌, ◌∙◌, ◌≡◌, ◌≤◌, ◌∷◌, Bool, List, None, Option, Some, [], ap, arith, false, length, map, refl, subst, sym, take, true, zero-add, ℕ}
use Rattle.std.proofs.lemmas.Bool.{eqb-true, or_parts, true≢false}
use Rattle.std.specs.List.{list_any}
use Rattle.std.specs.Prelude.{◌&&◌, ◌==◌, ◌||◌, IsTrue, if◌then◌else◌, is_none, not, option_map, unwrap_or}
use Rattle.wt_follows.proofs.AtOnce.{noted-finds}
use Rattle.wt_follows.proofs.Counts.{SameCounts, change-counts}
use Rattle.wt_follows.proofs.EntryAtRest.{closed-alone, closed-state, open-alone, open-state}
use Rattle.wt_follows.proofs.KeepsLaws.{keeps-progress}
use Rattle.wt_follows.proofs.Lifted.{arriving-stays, lifted}
use Rattle.wt_follows.proofs.Lists.{any-map, or-true, refuted, same}
use Rattle.wt_follows.proofs.Logs.{differs, flip}
use Rattle.wt_follows.proofs.Moved.{Elsewhere, control-moved, not-held, sessions-moved}
use Rattle.wt_follows.proofs.OwnRequest.{none-joined}
use Rattle.wt_follows.proofs.SameStreams.{dated-amid}
use Rattle.wt_follows.proofs.ScanStep.{reading-kept}
use Rattle.wt_follows.specs.Pieces.{FindsNothing, noted}
use Rattle.wt_follows.specs.Rests.{ControlRead, IsRead, SessionsRead}
use Rattle.wt_follows.specs.Roles.{IsSessions, is_arriving, is_at, is_in, is_member, waits}
use Rattle.wt_follows.specs.Tie.{Amid, Follows, IsUntouched, Placed, body_of, goes, member_position, rests_at_header}
use Rattle.wt_kept.specs.Kept.{DriverNow, LiveNow}
use Rattle.wt_kept.specs.Readers.{ControlReading, Slot, bi_rules, uni_rules}
use Rattle.wt_transport.proofs.Refining.{consume_refines, give_up_refines, refined_side}
use Rattle.wt_transport.specs.State.{Refines, TransportState}
use Rattle.wt_transport.specs.Step.{after_consume, after_give_up, can_receive_now, count_now, unread_now, with_change}
use Rattle.wt_transport.specs.StreamState.{consume, give_up, has_stream}
use Rattle.wt_turn.specs.Sent.{is_finished, is_reset, resets}
use Rattle.wt_turn.specs.Streams.{can_send, contents, exists, local_uni}
use Rattle.wt_turn.specs.Unread.{AtOffset, GivenUp, ReadPosition, advance, given_up, position_after}
use Rattle.wt_sessions.specs.Driver.{gives_up, log_and_flush, still_sends, transport_view}
use Rattle.wt_sessions.specs.DriverState.{DriverState, state_of}
use Rattle.wt_sessions.specs.Effect.{log_call}
use Rattle.wt_sessions.specs.Halves.{bytes_read, total_read}
use Rattle.wt_sessions.specs.Moment.{Fits, MayRecord}
use Rattle.wt_sessions.specs.Step.{after_call, after_entry}
use Rattle.wt_sessions.specs.StreamTable.{Session}
use Rattle.wt_turn.specs.Log.{BytesRead, CallRecord, Called, Log, StreamGivenUp, actions_of, calls_of, is_open}
use Rattle.wt_turn.specs.declared.action.Action.{Action}
use Rattle.wt_wire.specs.declared.side.Side.{Side}

-- the call reads from this stream or gives it up, and changes nothing else that is kept
pub record ReadsOf (id : ℕ) (r : CallRecord) : Type 0 where
  pub keeps : (z : DriverState) → after_call r z ≡ z
  pub gives : (k : ℕ) → (id == k) ≡ false → gives_up k r ≡ false
  pub reads : (k : ℕ) → (id == k) ≡ false → bytes_read k r ≡ 0
  pub resets_none : (k : ℕ) → resets k (Called r) ≡ false

module _ (side : Side) (d : DriverNow) (log : Log) (uncollected : List Action) (f : Follows side d log uncollected) (fits : Fits side log) (r : CallRecord) (may : MayRecord side log r) (id session : ℕ)
    (joined : is_member (state_of side log) session id ≡ true) (m : ReadsOf id r) (after : ℕ → ReadPosition) (elsewhere : Elsewhere id f.position after) (here : after id ≡ member_position side (Called r ∷ log) id)
    (u : TransportState) (refines : Refines side u (Called r ∷ log) after uncollected) (counts : SameCounts d.work.transport u) where
  abbrev g : Log
  g = Called r ∷ log

  abbrev s : DriverState
  s = state_of side log

  abbrev t : TransportState
  t = d.work.transport

  abbrev a : Amid side d log s [] f.position uncollected
  a = f.amid

  abbrev e : DriverNow
  e = record d { work = record d.work { transport = u } }

  alone : IsSessions s id
  alone = a.work.roles.members_alone id session joined

  there : exists side log id ≡ true
  there = a.work.there.members id session joined

  not-waiting : waits s id ≡ false
  not-waiting = refuted (waits s id) (λ w. true≢false (sym joined ∙ a.work.roles.waiting_unjoined id session w))

  no-rest : rests_at_header s id ≡ false
  no-rest = λ i. not-waiting i || (not-held s id alone.held i && not (s.dispatched.is_established id))

  not-at : is_at s.dispatched.control id ≡ false
  not-at = (or_parts (is_at s.dispatched.control id) (is_at s.dispatched.encoder id) (or_parts (is_at s.dispatched.control id || is_at s.dispatched.encoder id) (is_at s.dispatched.decoder id) alone.critical).0).0

  -- ---- places

  read-same : (k : ℕ) → (id == k) ≡ false → total_read k (calls_of g) ≡ total_read k (calls_of log)
  read-same k x = ap (λ n. n + total_read k (calls_of log)) (m.reads k x) ∙ zero-add (total_read k (calls_of log))

  given-same : (k : ℕ) → (id == k) ≡ false → list_any (gives_up k) (calls_of g) ≡ list_any (gives_up k) (calls_of log)
  given-same k x = ap (λ b. b || list_any (gives_up k) (calls_of log)) (m.gives k x)

  reset-same : (k : ℕ) → is_reset g k ≡ is_reset log k
  reset-same k = ap (λ b. b || is_reset log k) (m.resets_none k)

  untouched-then : (k : ℕ) → (id == k) ≡ false → IsUntouched log k → IsUntouched g k
  untouched-then k x w = (given-same k x ∙ w.0, read-same k x ∙ w.1)

  member-same : (k : ℕ) → (id == k) ≡ false → member_position side g k ≡ member_position side log k
  member-same k x = λ i. if given-same k x i then GivenUp else AtOffset (body_of side log k + read-same k x i)

  members-then : (k other : ℕ) → is_member s other k ≡ true → after k ≡ member_position side g k
  members-then k other x = by (id == k) refl
    where
      by : (b : Bool) → (id == k) ≡ b → after k ≡ member_position side g k
      by true y = subst (λ (j : ℕ). after j ≡ member_position side g j) (eqb-true id k y) here
      by false y = elsewhere k y ∙ (a.work.placed.members k other x ∙ sym (member-same k y))

  placed : Placed side s g after
  placed = let p = a.work.placed in record {
    headers = λ k x. let h = p.headers k x in record { offset = h.offset; verdict = h.verdict; at_offset = elsewhere k (differs (rests_at_header s) id no-rest k x) ∙ h.at_offset };
    members = members-then;
    heads = p.heads;
    untouched = λ k x. untouched-then k (differs (waits s) id not-waiting k x) (p.untouched k x);
    arriving = λ k x. untouched-then k (differs (is_arriving s) id alone.arriving k x) (p.arriving k x);
    unopened = λ k x. let y = differs (λ i. not (exists side log i)) id (ap not there) k (ap not x) in let w = p.unopened k x in (elsewhere k y ∙ w.0, untouched-then k y w.1);
  }

  sends-same : (k : ℕ) → still_sends side g k ≡ still_sends side log k
  sends-same k = ap (λ b. can_send side log k && not (is_finished (actions_of log) k) && not b) (reset-same k)

  sides : u.side ≡ t.side
  sides = refined_side side u g after uncollected refines ∙ sym (refined_side side t log f.position uncollected a.work.transport)

  arrives-apart : (j : ℕ) → is_arriving s j ≡ true → after j ≡ f.position j
  arrives-apart j x = elsewhere j (differs (is_arriving s) id alone.arriving j x)

  -- ---- the record is taken

  taken : Amid side e g s [] after uncollected
  taken = record {
    work = record {
      transport = refines;
      is_open_same = a.work.is_open_same;
      keeps = a.work.keeps;
      roles = a.work.roles;
      placed = placed;
      there = let x = a.work.there in record {
        unis = x.unis;
        bis = x.bis;
        arriving = x.arriving;
        waiting = x.waiting;
        living = x.living;
        held = x.held;
        members = x.members;
        critical = x.critical;
        gone = x.gone;
        own = x.own;
        kinds = x.kinds;
        few = x.few;
        peers = x.peers;
      };
      sends = record {
        arriving = λ k x. refl;
        waiting = λ k x. refl;
        members = λ k other x y. refl;
        living = λ k x. sends-same k ∙ a.work.sends.living k x;
        own = (a.work.sends.own.0, reset-same (local_uni side) ∙ a.work.sends.own.1);
      };
      control = λ x. control-moved id f.position after elsewhere (contents log) d.work.dispatched.critical.control s.dispatched.control not-at (a.work.control x);
      sessions = λ x. sessions-moved id f.position after elsewhere (contents log) d.work.dispatched.sessions.living s.sessions alone.living (a.work.sessions x);
    };
    kinds = a.kinds;
    few = a.few;
    own = record { stream = a.own.stream; sent_same = a.own.sent_same; within = a.own.within };
    allowed = a.allowed;
    unis = λ x. arriving-stays uni_rules (contents log) f.position after t u sides counts d.unis s.unis (λ j y. arrives-apart j (ap (λ b. b || is_in j s.bis) y)) (a.unis x);
    bis = λ x. arriving-stays bi_rules (contents log) f.position after t u sides counts d.bis s.bis (λ j y. arrives-apart j (ap (λ b. is_in j s.unis || b) y ∙ or-true (is_in j s.unis))) (a.bis x);
    datagrams = a.datagrams;
    response = λ c n. absurd (true≢false (sym joined ∙ none-joined d.work.dispatched s a.work.keeps n session id));
  }

  state-then : after_entry (transport_view side log) (Called r) s ≡ s
  state-then = ap (λ (z : DriverState). record z { is_open = s.is_open }) (m.keeps s)

  -- ---- what was read

  read-still : (k : ℕ) → (k == id) ≡ false → IsRead f.position (contents log) k → IsRead after (contents log) k
  read-still k x y = elsewhere k (flip k id x) ∙ y

  sessions-read : (xs : List LiveNow) → is_in id (map (λ (x : LiveNow). x.id) xs) ≡ false → SessionsRead f.position (contents log) xs → SessionsRead after (contents log) xs
  sessions-read [] x y = tt
  sessions-read (v ∷ vs) x y = let parts = or_parts (v.id == id) (is_in id (map (λ (w : LiveNow). w.id) vs)) x in (read-still v.id parts.0 y.0, sessions-read vs parts.1 y.1)

  living-apart : is_in id (map (λ (x : LiveNow). x.id) d.work.dispatched.sessions.living) ≡ false
  living-apart = ap (is_in id) a.work.keeps.living ∙ (any-map (λ (x : Session). x.id) id s.sessions ∙ alone.living)

  control-read : (c : Option (Slot ControlReading)) (o : Option (ℕ × ℕ)) → option_map (λ (x : Slot ControlReading). x.id) c ≡ option_map (λ (y : ℕ × ℕ). y.0) o → is_at o id ≡ false
      → ControlRead f.position (contents log) c → ControlRead after (contents log) c
  control-read None o x y z = tt
  control-read (Some c) None x y z = absurd cc
  control-read (Some c) (Some o) x y z = read-still c.id (ap (λ k. k == id) (ap (λ q. unwrap_or q 0) x) ∙ y) z

  -- ---- on an open connection

  module _ (opened : is_open log ≡ true) where
    finds : FindsNothing (transport_view side g) s s.progress.settings
    finds = let q = (f.rests opened).finds in record {
      unis = q.unis;
      bis = q.bis;
      datagrams = q.datagrams;
      sessions = q.sessions;
      unstopped = q.unstopped;
      control = q.control;
      encoder = q.encoder;
      decoder = q.decoder;
      going = q.going;
      idle = q.idle;
    }

    finds-after : FindsNothing (transport_view side g) (after_entry (transport_view side log) (Called r) s) s.progress.settings
    finds-after = subst (λ (z : DriverState). FindsNothing (transport_view side g) z s.progress.settings) (sym state-then) finds

    open-then : (after_entry (transport_view side log) (Called r) s).is_open ≡ true
    open-then = a.work.is_open_same ∙ opened

    going : goes s ≡ true
    going = λ i. (a.work.is_open_same ∙ opened) i && is_none ((f.rests opened).finds.going i)

    silent : log_and_flush side log (Called r) ≡ g
    silent = open-alone side log (Called r) (may, fits) refl s.progress.settings open-then finds-after

    state : state_of side g ≡ noted s.progress.settings s
    state = open-state side log (Called r) (may, fits) refl s.progress.settings open-then finds-after ∙ ap (noted s.progress.settings) state-then

    amid-noted : Amid side e g (noted s.progress.settings s) [] after uncollected
    amid-noted = lifted side e g s [] after uncollected taken e.work (noted s.progress.settings s) [] after uncollected
        (dated-amid side e.work g s [] after uncollected taken.work s.dispatched.datagrams (noted s.progress.settings s).progress e.work.dispatched
        (keeps-progress e.work.dispatched s taken.work.keeps e.work.dispatched.fault (noted s.progress.settings s).progress refl taken.work.keeps.fault) (λ x. taken.work.control x) (λ x. taken.work.sessions x))
        (λ kind. refl) refl refl refl (λ x. x) (λ j x. refl) refl (λ c n. (n, refl))

    following : Follows side e g uncollected
    following = let q = f.rests opened in record {
      position = after;
      amid = subst (λ (z : DriverState). Amid side e g z [] after uncollected) (sym state) amid-noted;
      rests = λ x. record {
        finds = subst (λ (z : DriverState). FindsNothing (transport_view side g) z z.progress.settings) (sym state)
            (noted-finds (transport_view side g) s s.progress.settings s.progress.settings finds (λ y. y) (λ y. y));
        unis = reading-kept uni_rules t d.unis s.unis (contents log) f.position after (a.unis going) (λ j y. arrives-apart j (ap (λ b. b || is_in j s.bis) y)) q.unis;
        bis = reading-kept bi_rules t d.bis s.bis (contents log) f.position after (a.bis going) (λ j y. arrives-apart j (ap (λ b. is_in j s.unis || b) y ∙ or-true (is_in j s.unis))) q.bis;
        control = control-read d.work.dispatched.critical.control s.dispatched.control a.work.keeps.control not-at q.control;
        sessions = sessions-read d.work.dispatched.sessions.living living-apart q.sessions;
        unready = q.unready;
        first_unis = λ y. ap (λ (z : DriverState). take 4 z.unis) state ∙ q.first_unis y;
        first_bis = λ y. ap (λ (z : DriverState). take 4 z.bis) state ∙ q.first_bis y;
      };
    }

  -- ---- after the end

  module _ (ended : is_open log ≡ false) where
    ended-then : (after_entry (transport_view side log) (Called r) s).is_open ≡ false
    ended-then = a.work.is_open_same ∙ ended

    silent-late : log_and_flush side log (Called r) ≡ g
    silent-late = closed-alone side log (Called r) (may, fits) refl ended-then

    following-late : Follows side e g uncollected
    following-late = record {
      position = after;
      amid = subst (λ (z : DriverState). Amid side e g z [] after uncollected) (sym (closed-state side log (Called r) (may, fits) refl ended-then ∙ state-then)) taken;
      rests = λ x. absurd (true≢false (sym x ∙ ended));
    }

  -- the driver follows the log with the record
  pub read-follows : Follows side e (log_and_flush side log (Called r)) uncollected
  read-follows = by (is_open log) refl
    where
      by : (b : Bool) → is_open log ≡ b → Follows side e (log_and_flush side log (Called r)) uncollected
      by true o = subst (λ (l : Log). Follows side e l uncollected) (sym (silent o)) (following o)
      by false o = subst (λ (l : Log). Follows side e l uncollected) (sym (silent-late o)) (following-late o)

-- ---- the calls

module _ (side : Side) (d : DriverNow) (log : Log) (uncollected : List Action) (f : Follows side d log uncollected) (fits : Fits side log) (id session : ℕ) (joined : is_member (state_of side log) session id ≡ true) where
  -- the stream was read as far as the application read
  read-so-far : f.position id ≡ member_position side log id
  read-so-far = f.amid.work.placed.members id session joined

  consume-counts : (count : ℕ) → SameCounts d.work.transport (after_consume d.work.transport id count)
  consume-counts count kind = by (has_stream d.work.transport.streams id)
    where
      by : (b : Bool) → count_now (if b then with_change d.work.transport id (consume count) else d.work.transport) kind ≡ count_now d.work.transport kind
      by true = change-counts d.work.transport id (consume count) kind
      by false = refl

  consume-refines : (count : ℕ) → count ≤ length (unread_now d.work.transport id) → Refines side (after_consume d.work.transport id count) (Called (BytesRead id count) ∷ log) (position_after f.position id count) uncollected
  consume-refines count few = let x = consume_refines side d.work.transport log f.position uncollected f.amid.work.transport id count few in record {
    pieces = x.pieces;
    facts = record {
      streams = λ j. let y = x.facts.streams j in record { unopened = y.unopened; sent = y.sent; one_way = y.one_way };
      unconnected = x.facts.unconnected;
      unallowed = x.facts.unallowed;
      open_same = x.facts.open_same;
    };
    holds = λ j. let h = x.holds j in record { bytes = h.bytes; filled = h.filled; within = h.within };
    state = x.state;
  }

  read-here : (count : ℕ) → position_after f.position id count id ≡ member_position side (Called (BytesRead id count) ∷ log) id
  read-here count = ap (λ (b : Bool). if b then advance count (f.position id) else f.position id) (same id)
      ∙ (ap (advance count) read-so-far ∙ by (list_any (gives_up id) (calls_of log)))
    where
      total : ℕ
      total = total_read id (calls_of log)

      more : (count_here : ℕ) → count_here ≡ count → (body_of side log id + total) + count ≡ body_of side log id + (count_here + total)
      more n e = omega (arith, e)

      by : (b : Bool) → advance count (if b then GivenUp else AtOffset (body_of side log id + total)) ≡ (if b then GivenUp else AtOffset (body_of side log id + ((if id == id then count else 0) + total)))
      by true = refl
      by false = ap AtOffset (more (if id == id then count else 0) (ap (λ (b : Bool). if b then count else 0) (same id)))

  -- so many bytes are read
  pub bytes-read-follow : (count : ℕ) → count ≤ length (unread_now d.work.transport id)
      → Follows side (record d { work = record d.work { transport = after_consume d.work.transport id count } }) (log_call side log [] (BytesRead id count)) uncollected
  bytes-read-follow count few = read-follows side d log uncollected f fits (BytesRead id count) tt id session joined
      (record { keeps = λ z. refl; gives = λ k x. refl; reads = λ k x. ap (λ (b : Bool). if b then count else 0) x; resets_none = λ k. refl })
      (position_after f.position id count) (λ j x. ap (λ (b : Bool). if b then advance count (f.position j) else f.position j) x) (read-here count)
      (after_consume d.work.transport id count) (consume-refines count few) (consume-counts count)

  give-up-refines : IsTrue (can_receive_now d.work.transport id) → Refines side (after_give_up d.work.transport id) (Called (StreamGivenUp id) ∷ log) (given_up f.position id) uncollected
  give-up-refines can = let x = give_up_refines side d.work.transport log f.position uncollected f.amid.work.transport id can in record {
    pieces = x.pieces;
    facts = record {
      streams = λ j. let y = x.facts.streams j in record { unopened = y.unopened; sent = y.sent; one_way = y.one_way };
      unconnected = x.facts.unconnected;
      unallowed = x.facts.unallowed;
      open_same = x.facts.open_same;
    };
    holds = λ j. let h = x.holds j in record { bytes = h.bytes; filled = h.filled; within = h.within };
    state = x.state;
  }

  given-here : given_up f.position id id ≡ member_position side (Called (StreamGivenUp id) ∷ log) id
  given-here = ap (λ (b : Bool). if b then GivenUp else f.position id) (same id)
      ∙ sym (ap (λ (b : Bool). if b || list_any (gives_up id) (calls_of log) then GivenUp else AtOffset (body_of side log id + total_read id (calls_of (Called (StreamGivenUp id) ∷ log)))) (same id))

  -- the half is given up
  pub given-up-follows : IsTrue (can_receive_now d.work.transport id) → Follows side (record d { work = record d.work { transport = after_give_up d.work.transport id } }) (log_call side log [] (StreamGivenUp id)) uncollected
  given-up-follows can = read-follows side d log uncollected f fits (StreamGivenUp id) tt id session joined
      (record { keeps = λ z. refl; gives = λ k x. x; reads = λ k x. refl; resets_none = λ k. refl })
      (given_up f.position id) (λ j x. ap (λ (b : Bool). if b then GivenUp else f.position j) x) given-here
      (after_give_up d.work.transport id) (give-up-refines can) (λ kind. change-counts d.work.transport id give_up kind)
