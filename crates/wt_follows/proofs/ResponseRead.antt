-- A client reads on in the response on its request stream, before its session: what is kept follows the same log, and says what the walk says.
use Rattle.std.proofs.Common.{◌∙◌, ◌∷◌, ◌≡◌, ◌≤◌, Bool, List, None, Option, Some, ℕ, [], ap, arith, false, is_none, length, map, option_map, refl, subst, sym, true}
use Rattle.std.proofs.lemmas.Bool.{eqb-true, or_parts, true≢false}
use Rattle.std.specs.List.{concat, list_any}
use Rattle.std.specs.Prelude.{◌%◌, ◌&&◌, ◌+◌, ◌==◌, ◌||◌, not, unwrap_or}
use Rattle.wt_follows.proofs.Counts.{SameCounts}
use Rattle.wt_follows.proofs.Lifted.{arriving-stays, read-counts}
use Rattle.wt_follows.proofs.Lists.{any-map, or-true, refuted}
use Rattle.wt_follows.proofs.Logs.{differs, flip}
use Rattle.wt_follows.proofs.Moved.{Elsewhere, control-moved, not-held, sessions-moved}
use Rattle.wt_follows.proofs.OwnRequest.{none-joined, none-lives, request-arriving, request-critical, request-held, request-waits}
use Rattle.wt_follows.proofs.ResponseReads.{ResponseReads, fresh-response, response_reads}
use Rattle.wt_follows.proofs.ScanStep.{reading-kept}
use Rattle.wt_follows.specs.Rests.{ControlRead, IsRead, Resting, SessionsRead}
use Rattle.wt_follows.specs.Roles.{is_arriving, is_at, is_in, waits}
use Rattle.wt_follows.specs.Tie.{Amid, AtHeader, Follows, NoneEstablished, Placed, ResponseAt, ResponseFollows, WorkAmid, goes, rests_at_header}
use Rattle.wt_kept.specs.Calling.{response_read, response_read_by, response_read_so, response_said, response_slot}
use Rattle.wt_kept.specs.Kept.{DriverNow, LiveNow}
use Rattle.wt_kept.specs.Readers.{ControlReading, ReadOn, ResponseReading, Slot, bi_rules, read_on, response_rules, uni_rules}
use Rattle.wt_meaning.specs.Lawful.{is_client}
use Rattle.wt_transport.proofs.Refining.{refined_no_pieces, refined_side, refined_unread}
use Rattle.wt_transport.specs.State.{Refines, TransportState}
use Rattle.wt_proto.specs.ResponseWalk.{response_walk_of}
use Rattle.wt_turn.specs.Reports.{end_of}
use Rattle.wt_turn.specs.Streams.{contents, exists, local_bi, local_uni}
use Rattle.wt_turn.specs.Unread.{AtOffset, ReadPosition, from_position}
use Rattle.wt_sessions.specs.DriverState.{DriverState, state_of}
use Rattle.wt_sessions.specs.StreamTable.{Session}
use Rattle.wt_turn.specs.Log.{Log, events_of, is_open}
use Rattle.wt_turn.specs.declared.action.Action.{Action}
use Rattle.wt_wire.specs.declared.side.Side.{Side}

module _ (side : Side) (d : DriverNow) (log : Log) (uncollected : List Action) (f : Follows side d log uncollected) (client : is_client side ≡ true) (before : NoneEstablished (state_of side log)) where
  abbrev s : DriverState
  s = state_of side log

  abbrev a : Amid side d log s [] f.position uncollected
  a = f.amid

  abbrev t : TransportState
  t = d.work.transport

  abbrev k : ℕ
  k = local_bi side

  -- ---- no place tells how far the stream is read

  not-arriving : is_arriving s k ≡ false
  not-arriving = request-arriving side s a.work.there.peers

  not-waiting : waits s k ≡ false
  not-waiting = request-waits side s a.work.there.peers

  no-rest : rests_at_header s k ≡ false
  no-rest = λ i. not-waiting i || (not-held s k (request-held side s a.work.there.peers) i && not (s.dispatched.is_established k))

  not-at : is_at s.dispatched.control k ≡ false
  not-at = (or_parts (is_at s.dispatched.control k) (is_at s.dispatched.encoder k)
      (or_parts (is_at s.dispatched.control k || is_at s.dispatched.encoder k) (is_at s.dispatched.decoder k) (request-critical side s a.work.there.peers)).0).0

  -- ---- the reader reads on

  module _ (r : ResponseReading) (y : ResponseReads side t log log f.position uncollected k r) where
    abbrev x : ReadOn ResponseReading
    x = read_on response_rules k r t

    abbrev new : ℕ → ReadPosition
    new = y.position_then

    abbrev e : DriverNow
    e = response_read_so k x d

    -- of a stream that isn't there nothing came
    nothing-came : exists side log k ≡ false → f.position k ≡ AtOffset 0 → contents log k ≡ []
    nothing-came absent start =
        sym ((λ i. from_position (start i) (contents log k)))
        ∙ (sym (refined_unread side t log f.position uncollected a.work.transport k)
        ∙ ap concat (refined_no_pieces side t log f.position uncollected a.work.transport k (λ i. absent i && not (local_uni side == k % 4))))

    still-start : exists side log k ≡ false → f.position k ≡ AtOffset 0 → new k ≡ AtOffset 0
    still-start absent start =
        let at = y.at_then.at_front in
        let none : length (contents log k) ≡ 0 = ap length (nothing-came absent start) in
        at.at_offset ∙ ap AtOffset (let le = at.within in let n : 0 + at.count ≡ 0 = omega (arith, le, none) in n)

    placed-then : Placed side s log new
    placed-then = let p = a.work.placed in record {
      headers = λ j e. subst (λ (q : ReadPosition). AtHeader log q j) (sym (y.elsewhere j (differs (rests_at_header s) k no-rest j e))) (p.headers j e);
      members = λ j session e. absurd (true≢false (sym e ∙ none-joined d.work.dispatched s a.work.keeps before session j));
      heads = p.heads;
      untouched = p.untouched;
      arriving = p.arriving;
      unopened = λ j e. (start-by j e (k == j) refl, (p.unopened j e).1);
    }
      where
        start-by : (j : ℕ) → exists side log j ≡ false → (b : Bool) → (k == j) ≡ b → new j ≡ AtOffset 0
        start-by j e false g = y.elsewhere j g ∙ (a.work.placed.unopened j e).0
        start-by j e true g =
            let same : k ≡ j = eqb-true k j g in
            let here : exists side log k ≡ false = ap (exists side log) same ∙ e in
            ap new (sym same) ∙ still-start here (a.work.placed.unopened k here).0

    work-then : WorkAmid side e.work log s [] new uncollected
    work-then = record {
      transport = y.transport;
      is_open_same = a.work.is_open_same;
      keeps = a.work.keeps;
      roles = a.work.roles;
      placed = placed-then;
      there = a.work.there;
      sends = a.work.sends;
      control = λ g. control-moved k f.position new y.elsewhere (contents log) d.work.dispatched.critical.control s.dispatched.control not-at (a.work.control g);
      sessions = λ g. sessions-moved k f.position new y.elsewhere (contents log) d.work.dispatched.sessions.living s.sessions (none-lives d.work.dispatched s a.work.keeps before k) (a.work.sessions g);
    }

    sides : x.transport.side ≡ t.side
    sides = refined_side side x.transport log new uncollected y.transport ∙ sym (refined_side side t log f.position uncollected a.work.transport)

    arrives-apart : (j : ℕ) → is_arriving s j ≡ true → new j ≡ f.position j
    arrives-apart j g = y.elsewhere j (differs (is_arriving s) k not-arriving j g)

    arrives-uni : (j : ℕ) → is_in j s.unis ≡ true → new j ≡ f.position j
    arrives-uni j g = arrives-apart j (ap (λ b. b || is_in j s.bis) g)

    arrives-bi : (j : ℕ) → is_in j s.bis ≡ true → new j ≡ f.position j
    arrives-bi j g = arrives-apart j (ap (λ b. is_in j s.unis || b) g ∙ or-true (is_in j s.unis))

    amid-then : Amid side e log s [] new uncollected
    amid-then = record {
      work = work-then;
      kinds = a.kinds;
      few = a.few;
      own = a.own;
      allowed = a.allowed;
      unis = λ g. arriving-stays uni_rules (contents log) f.position new t x.transport sides (read-counts response_rules k r t) d.unis s.unis arrives-uni (a.unis g);
      bis = λ g. arriving-stays bi_rules (contents log) f.position new t x.transport sides (read-counts response_rules k r t) d.bis s.bis arrives-bi (a.bis g);
      datagrams = a.datagrams;
      response = λ c n. (refl, y.at_then);
    }

    -- ---- at rest

    read-still : (j : ℕ) → (k == j) ≡ false → IsRead f.position (contents log) j → IsRead new (contents log) j
    read-still j g h = y.elsewhere j g ∙ h

    sessions-read : (xs : List LiveNow) → is_in k (map (λ (v : LiveNow). v.id) xs) ≡ false → SessionsRead f.position (contents log) xs → SessionsRead new (contents log) xs
    sessions-read [] g h = tt
    sessions-read (v ∷ vs) g h = let parts = or_parts (v.id == k) (is_in k (map (λ (w : LiveNow). w.id) vs)) g in (read-still v.id (flip v.id k parts.0) h.0, sessions-read vs parts.1 h.1)

    living-apart : is_in k (map (λ (v : LiveNow). v.id) d.work.dispatched.sessions.living) ≡ false
    living-apart = ap (is_in k) a.work.keeps.living ∙ (any-map (λ (v : Session). v.id) k s.sessions ∙ none-lives d.work.dispatched s a.work.keeps before k)

    control-read : (c : Option (Slot ControlReading)) (o : Option (ℕ × ℕ)) → option_map (λ (v : Slot ControlReading). v.id) c ≡ option_map (λ (v : ℕ × ℕ). v.0) o → is_at o k ≡ false
        → ControlRead f.position (contents log) c → ControlRead new (contents log) c
    control-read None o g h i = tt
    control-read (Some c) None g h i = absurd cc
    control-read (Some c) (Some o) g h i = read-still c.id (flip c.id k (ap (λ j. j == k) (ap (λ q. unwrap_or q 0) g) ∙ h)) i

    resting : is_open log ≡ true → Resting side e log new
    resting o = let q = f.rests o in
        let going : goes s ≡ true = (λ i. (a.work.is_open_same ∙ o) i && is_none (q.finds.going i)) in
        record {
          finds = q.finds;
          unis = reading-kept uni_rules t d.unis s.unis (contents log) f.position new (a.unis going) arrives-uni q.unis;
          bis = reading-kept bi_rules t d.bis s.bis (contents log) f.position new (a.bis going) arrives-bi q.bis;
          control = control-read d.work.dispatched.critical.control s.dispatched.control a.work.keeps.control not-at q.control;
          sessions = sessions-read d.work.dispatched.sessions.living living-apart q.sessions;
          unready = q.unready;
          first_unis = q.first_unis;
          first_bis = q.first_bis;
        }

    read-follows : Follows side e log uncollected
    read-follows = record { position = new; amid = amid-then; rests = resting }

  -- ---- the slot

  abbrev slot : Slot ResponseReading
  slot = response_slot t.side d.response

  slot-is : ((response_slot t.side d.response).id ≡ local_bi side) × ResponseAt (response_slot t.side d.response).reader (contents log (local_bi side)) (end_of (events_of log) (local_bi side)) (f.position (local_bi side))
  slot-is = by d.response (a.response client before)
    where
      by : (o : Option (Slot ResponseReading)) → ResponseFollows side o (contents log) (events_of log) f.position
          → ((response_slot t.side o).id ≡ local_bi side) × ResponseAt (response_slot t.side o).reader (contents log (local_bi side)) (end_of (events_of log) (local_bi side)) (f.position (local_bi side))
      by None h = (
        ap local_bi (refined_side side t log f.position uncollected a.work.transport),
        subst (λ (p : ReadPosition). ResponseAt response_rules.start (contents log (local_bi side)) (end_of (events_of log) (local_bi side)) p) (sym h) (fresh-response (contents log (local_bi side)) (end_of (events_of log) (local_bi side))),
      )
      by (Some x) h = h

  reads : ResponseReads side t log log f.position uncollected k slot.reader
  reads = response_reads side log [] f.position uncollected t a.work.transport k slot.reader slot-is.1

  -- what was read so
  read-is : response_read d ≡ response_read_so k (read_on response_rules k slot.reader t) d
  unfolding response_read
  read-is = ap (λ (j : ℕ). response_read_so j (read_on response_rules j slot.reader t) d) slot-is.0

  -- the driver follows the log as before
  pub response-follows : Follows side (response_read d) log uncollected
  response-follows = subst (λ (z : DriverNow). Follows side z log uncollected) (sym read-is) (read-follows slot.reader reads)

  -- and says what the walk over the stream says
  pub response-says : response_said (response_read d) ≡ response_walk_of (contents log (local_bi side)) (end_of (events_of log) (local_bi side))
  response-says = ap response_said read-is ∙ reads.says
