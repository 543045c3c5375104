-- Actions of a call went out before its record: what is kept follows the log with them, as long as they touch neither this end's control
-- stream nor what a session that lives sends on its own stream.
use Rattle.std.proofs.Common.{◌+◌, ◌^◌, ◌∙◌, ◌∷◌, ◌≡◌, ◌≤◌, Bool, List, ℕ, [], ap, drop, false, length, min, refl, subst, subst₂, sym, take, true}
use Rattle.std.proofs.lemmas.Bool.{true≢false}
use Rattle.std.specs.List.{list_any}
use Rattle.std.specs.Prelude.{◌%◌, ◌&&◌, ◌==◌, ◌||◌, if◌then◌else◌, is_none, is_some, nat_lt, not, unwrap_or}
use Rattle.wt_follows.proofs.EventTaken.{same-count}
use Rattle.wt_follows.proofs.Lists.{refuted}
use Rattle.wt_follows.proofs.Logs.{calls-kept, events-kept}
use Rattle.wt_follows.proofs.OwnRequest.{peers-kept}
use Rattle.wt_follows.proofs.PieceLog.{finds-with-actions}
use Rattle.wt_follows.proofs.EventFollows.{and-second}
use Rattle.wt_follows.proofs.QuietEntry.{and-first, and-more}
use Rattle.wt_follows.specs.Pieces.{FindsNothing}
use Rattle.wt_follows.specs.Rests.{ControlRead, Resting, SessionsRead, SlotsRead}
use Rattle.wt_follows.specs.Roles.{Roles, is_living}
use Rattle.wt_follows.specs.Tie.{Amid, ArrivingFollows, ControlFollows, Follows, IsUntouched, Keeps, OwnFollows, Placed, ResponseFollows, SessionsFollow, There, goes, goes_on_at, header_verdict, member_position}
use Rattle.wt_kept.specs.Arriving.{arrived_count, peer_kind}
use Rattle.wt_kept.specs.Kept.{DriverNow}
use Rattle.wt_kept.specs.Readers.{bi_rules, uni_rules}
use Rattle.wt_transport.proofs.Asking.{refined_peer_bis, refined_peer_unis}
use Rattle.wt_transport.proofs.Refining.{actions-contents, refined_side}
use Rattle.wt_transport.specs.State.{Refines, TransportState}
use Rattle.wt_transport.specs.Step.{count_now}
use Rattle.wt_proto.specs.Bi.{bi_verdict_of}
use Rattle.wt_proto.specs.Uni.{uni_verdict_of}
use Rattle.wt_turn.specs.Joined.{newest_first}
use Rattle.wt_message.specs.FixedBytes.{local_control_bytes}
use Rattle.wt_turn.specs.Reports.{credit, is_connected, datagrams_of, end_of, unis_allowed}
use Rattle.wt_turn.specs.Sent.{is_finished, is_reset}
use Rattle.wt_turn.specs.Streams.{can_receive, contents, exists, local_count, local_uni, peer_bi, peer_uni, stream_count}
use Rattle.wt_turn.specs.Unread.{AtOffset, GivenUp}
use Rattle.wt_sessions.specs.Driver.{ControlSent, control_sent, control_actions, gives_up, still_sends, stream_table, transport_view}
use Rattle.wt_sessions.specs.DriverState.{DriverState, state_of}
use Rattle.wt_sessions.specs.Halves.{total_read}
use Rattle.wt_sessions.specs.Moment.{Fits, is_peers}
use Rattle.wt_turn.specs.Log.{Log, Sent, actions_of, calls_of, ends_by, events_of, is_open, with_actions}
use Rattle.wt_turn.specs.declared.action.Action.{Action}
use Rattle.wt_wire.specs.Ids.{is_bidirectional}
use Rattle.wt_wire.specs.declared.side.Side.{Side}

-- what is asked of them
pub record Harmless (side : Side) (log : Log) (own : List Action) : Type 0 where
  pub there : (k : ℕ) → exists side log k ≡ true → exists side (with_actions own log) k ≡ true
  pub peers : (stream_count side (with_actions own log) (peer_uni side) ≡ stream_count side log (peer_uni side)) × (stream_count side (with_actions own log) (peer_bi side) ≡ stream_count side log (peer_bi side))
  pub kinds : (local_count (actions_of (with_actions own log)) (peer_uni side) ≡ 0) × (local_count (actions_of (with_actions own log)) (peer_bi side) ≡ 0)
  pub control : control_sent side (with_actions own log) ≡ control_sent side log
  pub living : (k : ℕ) → is_living (state_of side log) k ≡ true → still_sends side (with_actions own log) k ≡ true
  pub unfinished : is_finished (actions_of (with_actions own log)) (local_uni side) ≡ false
  pub unreset : is_reset (with_actions own log) (local_uni side) ≡ false

sent-is : (side : Side) (log : Log) → (state_of side log).control_sent ≡ control_sent side log
unfolding state_of
sent-is side log = refl

-- actions change nothing else of what is kept
pub state-sent : (side : Side) (own : List Action) (log : Log)
    → state_of side (with_actions own log) ≡ record (state_of side log) { control_sent = control_sent side (with_actions own log); is_open = is_open (with_actions own log) }
unfolding state_of stream_table
state-sent side [] log = refl
state-sent side (a ∷ later) log = state-sent side later (Sent a ∷ log)

module _ (side : Side) (d : DriverNow) (log : Log) (uncollected : List Action) (f : Follows side d log uncollected) (fits : Fits side log) (own : List Action) (safe : Harmless side log own) (u : TransportState)
    (refines : Refines side u (with_actions own log) f.position (newest_first own uncollected)) where
  abbrev g : Log
  g = with_actions own log

  abbrev s : DriverState
  s = state_of side log

  abbrev a : Amid side d log s [] f.position uncollected
  a = f.amid

  abbrev t : TransportState
  t = d.work.transport

  contents-same : contents g ≡ contents log
  contents-same = actions-contents own log

  events-same : events_of g ≡ events_of log
  events-same = events-kept own log

  calls-same : calls_of g ≡ calls_of log
  calls-same = calls-kept own log

  abbrev z : DriverState
  z = record s { control_sent = control_sent side g; is_open = is_open g }

  header-same : (k : ℕ) → header_verdict g k ≡ header_verdict log k
  header-same k = λ i. if is_bidirectional k then bi_verdict_of (contents-same i k) (end_of (events-same i) k) else uni_verdict_of (contents-same i k) (end_of (events-same i) k)

  untouched-same : (k : ℕ) → IsUntouched log k → IsUntouched g k
  untouched-same k x = (ap (list_any (gives_up k)) calls-same ∙ x.0, ap (total_read k) calls-same ∙ x.1)

  member-same : (k : ℕ) → member_position side g k ≡ member_position side log k
  member-same k = λ i. if list_any (gives_up k) (calls-same i) then GivenUp
      else AtOffset ((if is_peers side k then unwrap_or (goes_on_at (header-same k i)) 0 else 0) + total_read k (calls-same i))

  placed : Placed side s g f.position
  placed = let p = a.work.placed in record {
    headers = λ k e. let h = p.headers k e in record { offset = h.offset; verdict = ap goes_on_at (header-same k) ∙ h.verdict; at_offset = h.at_offset };
    members = λ k session e. p.members k session e ∙ sym (member-same k);
    heads = λ k session e x. ap (λ v. is_some (goes_on_at v)) (header-same k) ∙ p.heads k session e x;
    untouched = λ k e. untouched-same k (p.untouched k e);
    arriving = λ k e. untouched-same k (p.arriving k e);
    unopened = λ k e. let w = p.unopened k (refuted (exists side log k) (λ x. true≢false (sym (safe.there k x) ∙ e))) in (w.0, untouched-same k w.1);
  }

  receives-stays : (k : ℕ) → can_receive side log k ≡ true → can_receive side g k ≡ true
  receives-stays k e = and-more (exists side log k) (not (local_uni side == k % 4)) (exists side g k) (safe.there k) e

  there : There side s g
  there = let x = a.work.there in record {
    unis = x.unis;
    bis = x.bis;
    arriving = λ k e. receives-stays k (x.arriving k e);
    waiting = λ k e. receives-stays k (x.waiting k e);
    living = λ k e. receives-stays k (x.living k e);
    held = λ k e. receives-stays k (x.held k e);
    members = λ k session e. safe.there k (x.members k session e);
    critical = λ k e. receives-stays k (x.critical k e);
    gone = λ k e. safe.there k (x.gone k e);
    own = x.own;
    kinds = safe.kinds;
    few = (subst (λ (n : ℕ). n ≤ 2 ^ 60) (sym safe.peers.0) x.few.0, subst (λ (n : ℕ). n ≤ 2 ^ 60) (sym safe.peers.1) x.few.1);
    peers = x.peers;
  }

  -- readers go on only where they did
  open-stays : (xs : List Action) (l : Log) → is_open (with_actions xs l) ≡ true → is_open l ≡ true
  open-stays [] l e = e
  open-stays (a ∷ later) l e = second (ends_by (Sent a)) (list_any ends_by l) (open-stays later (Sent a ∷ l) e)
    where
      second : (b c : Bool) → not (b || c) ≡ true → not c ≡ true
      second true c x = absurd cc
      second false c x = x

  opened-before : is_open g ≡ true → s.is_open ≡ true
  opened-before e = a.work.is_open_same ∙ open-stays own log e

  back : goes z ≡ true → goes s ≡ true
  back e = both s.is_open (is_none s.progress.fault) (opened-before (and-first (is_open g) (is_none s.progress.fault) e)) (and-second (is_open g) (is_none s.progress.fault) e)
    where
      both : (b c : Bool) → b ≡ true → c ≡ true → (b && c) ≡ true
      both true c x y = y
      both false c x y = absurd cc

  side-same : u.side ≡ t.side
  side-same = refined_side side u g f.position (newest_first own uncollected) refines ∙ sym (refined_side side t log f.position uncollected a.work.transport)

  unis-same : arrived_count u d.unis ≡ arrived_count t d.unis
  unis-same =
      ap (λ (n : ℕ). min n (2 ^ 60))
      ((λ i. count_now u (peer_kind u.side (a.kinds.0 i))) ∙ refined_peer_unis side u g f.position (newest_first own uncollected) refines ∙ safe.peers.0
      ∙ sym ((λ i. count_now t (peer_kind t.side (a.kinds.0 i))) ∙ refined_peer_unis side t log f.position uncollected a.work.transport))

  bis-same : arrived_count u d.bis ≡ arrived_count t d.bis
  bis-same =
      ap (λ (n : ℕ). min n (2 ^ 60))
      ((λ i. count_now u (peer_kind u.side (a.kinds.1 i))) ∙ refined_peer_bis side u g f.position (newest_first own uncollected) refines ∙ safe.peers.1
      ∙ sym ((λ i. count_now t (peer_kind t.side (a.kinds.1 i))) ∙ refined_peer_bis side t log f.position uncollected a.work.transport))

  abbrev e : DriverNow
  e = record d { work = record d.work { transport = u } }

  keeps-sent : Keeps d.work.dispatched z
  keeps-sent = let k = a.work.keeps in record {
    control = k.control;
    encoder = k.encoder;
    decoder = k.decoder;
    settings = k.settings;
    queued = k.queued;
    held = k.held;
    living = k.living;
    windows = k.windows;
    early = k.early;
    gone = k.gone;
    gone_named = k.gone_named;
    closed = k.closed;
    established = k.established;
    alive = k.alive;
    named = k.named;
    named_streams = k.named_streams;
    named_datagrams = k.named_datagrams;
    unjoined = k.unjoined;
    fault = k.fault;
  }

  roles-sent : Roles z
  roles-sent = let r = a.work.roles in record {
    unis = r.unis;
    bis = r.bis;
    kinds = r.kinds;
    arriving = λ k x. let y = r.arriving k x in record { critical = y.critical; held = y.held; living = y.living; waits = y.waits; member = y.member; gone = y.gone };
    living = r.living;
    living_alone = r.living_alone;
    requests_alone = r.requests_alone;
    waiting = r.waiting;
    waiting_alone = λ k x. let y = r.waiting_alone k x in record { arriving = y.arriving; critical = y.critical; held = y.held; living = y.living };
    waiting_unjoined = r.waiting_unjoined;
    members_alone = λ k session x. let y = r.members_alone k session x in record { arriving = y.arriving; critical = y.critical; held = y.held; living = y.living };
    members_once = r.members_once;
    members_distinct = r.members_distinct;
    held = r.held;
  }

  -- in the midst of no moment, with readers where they were
  pub sent-amid : Amid side e g z [] f.position (newest_first own uncollected)
  sent-amid = record {
    work = record {
      transport = refines;
      is_open_same = refl;
      keeps = keeps-sent;
      roles = roles-sent;
      placed = let p = placed in record { headers = p.headers; members = p.members; heads = p.heads; untouched = p.untouched; arriving = p.arriving; unopened = p.unopened };
      there = let x = there in record { unis = x.unis; bis = x.bis; arriving = x.arriving; waiting = x.waiting; living = x.living; held = x.held; members = x.members; critical = x.critical; gone = x.gone; own = x.own; kinds = x.kinds; few = x.few; peers = peers-kept side s z (λ k e. e) (λ k e. e) (λ k e. e) (λ k e. e) x.peers };
      sends = record { arriving = λ k x. refl; waiting = λ k x. refl; members = λ k session x y. refl; living = safe.living; own = (safe.unfinished, safe.unreset) };
      control = λ x. subst (λ (c : ℕ → List ℕ). ControlFollows d.work.dispatched.critical.control s.dispatched.control c f.position) (sym contents-same) (a.work.control (back x));
      sessions = λ x. subst (λ (c : ℕ → List ℕ). SessionsFollow d.work.dispatched.sessions.living s.sessions c f.position) (sym contents-same) (a.work.sessions (back x));
    };
    kinds = a.kinds;
    few = a.few;
    own = subst (OwnFollows side d.own_control) (sym safe.control) a.own;
    allowed = λ x. ap (λ es. nat_lt 0 (unis_allowed es)) events-same ∙ a.allowed (ap (λ (c : ControlSent). c.opened) (sym safe.control) ∙ x);
    unis = λ x. subst (λ (c : ℕ → List ℕ). ArrivingFollows uni_rules u d.unis s.unis c f.position) (sym contents-same) (same-count uni_rules t u d.unis s.unis (contents log) f.position side-same refl refl (a.unis (back x)) unis-same);
    bis = λ x. subst (λ (c : ℕ → List ℕ). ArrivingFollows bi_rules u d.bis s.bis c f.position) (sym contents-same) (same-count bi_rules t u d.bis s.bis (contents log) f.position side-same refl refl (a.bis (back x)) bis-same);
    datagrams = λ x. a.datagrams (back x) ∙ ap (λ es. drop s.progress.datagrams (datagrams_of es)) (sym events-same);
    response = λ c n. subst₂ (λ b es. ResponseFollows side d.response b es f.position) (sym contents-same) (sym events-same) (a.response c n);
  }

  -- a driver that rested rests
  finds-then : FindsNothing (transport_view side log) s s.progress.settings → FindsNothing (transport_view side g) z z.progress.settings
  finds-then q = let x = finds-with-actions side own log s s.progress.settings q in record {
    unis = x.unis;
    bis = x.bis;
    datagrams = x.datagrams;
    sessions = x.sessions;
    unstopped = x.unstopped;
    control = x.control;
    encoder = x.encoder;
    decoder = x.decoder;
    going = x.going;
    idle = ap (λ (c : ControlSent). control_actions (transport_view side g).may_open (local_uni side) (transport_view side g).credit c) (safe.control ∙ sym (sent-is side log)) ∙ x.idle;
  }

  pub sent-rests : is_open g ≡ true → Resting side e g f.position
  sent-rests x = let r = f.rests (open-stays own log x) in record {
    finds = subst (λ (w : DriverState). FindsNothing (transport_view side g) w w.progress.settings) (sym (state-sent side own log)) (finds-then r.finds);
    unis = subst (λ (c : ℕ → List ℕ). SlotsRead f.position c d.unis.reading) (sym contents-same) r.unis;
    bis = subst (λ (c : ℕ → List ℕ). SlotsRead f.position c d.bis.reading) (sym contents-same) r.bis;
    control = subst (λ (c : ℕ → List ℕ). ControlRead f.position c d.work.dispatched.critical.control) (sym contents-same) r.control;
    sessions = subst (λ (c : ℕ → List ℕ). SessionsRead f.position c d.work.dispatched.sessions.living) (sym contents-same) r.sessions;
    unready = λ y. r.unready (sym ready-same ∙ y);
    first_unis = λ y. ap (λ (w : DriverState). take 4 w.unis) (state-sent side own log) ∙ r.first_unis (sym ready-same ∙ y);
    first_bis = λ y. ap (λ (w : DriverState). take 4 w.bis) (state-sent side own log) ∙ r.first_bis (sym ready-same ∙ y);
  }
    where
      ready-same : (transport_view side g).ready ≡ (transport_view side log).ready
      ready-same = ap (λ es. is_connected es && nat_lt 0 (unis_allowed es) && not (nat_lt (credit es (local_uni side)) (length local_control_bytes))) events-same

  pub sent-follows : Follows side e g (newest_first own uncollected)
  sent-follows = record {
    position = f.position;
    amid = subst (λ (w : DriverState). Amid side e g w [] f.position (newest_first own uncollected)) (sym (state-sent side own log)) sent-amid;
    rests = sent-rests;
  }
