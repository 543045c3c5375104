-- After a moment: what went out at it is in the log, and the tie holds between two turns.
use Rattle.std.proofs.Common.{◌+◌, ◌^◌, ◌∙◌, ◌≡◌, ◌≤◌, List, ℕ, [], ap, drop, nat_lt, refl, subst, subst₂, sym, true}
use Rattle.std.proofs.lemmas.Bool.{true≢false}
use Rattle.std.specs.List.{list_any}
use Rattle.std.specs.Prelude.{◌&&◌, if◌then◌else◌, is_none, is_some, unwrap_or}
use Rattle.wt_follows.proofs.Lists.{refuted}
use Rattle.wt_follows.proofs.SameStreams.{told, told-placed, told-roles, told-there}
use Rattle.wt_follows.proofs.StreamEnds.{actions-all-events, actions-calls, actions-events, exists-then, receives-then}
use Rattle.wt_follows.specs.Tie.{Amid, ArrivingFollows, AtHeader, ControlFollows, IsUntouched, Keeps, Placed, ResponseFollows, SessionsFollow, There, goes, goes_on_at, header_verdict, member_position}
use Rattle.wt_kept.specs.Kept.{DriverNow}
use Rattle.wt_kept.specs.Readers.{bi_rules, uni_rules}
use Rattle.wt_transport.proofs.Refining.{actions-contents}
use Rattle.wt_proto.specs.Bi.{bi_verdict_of}
use Rattle.wt_proto.specs.Uni.{uni_verdict_of}
use Rattle.wt_turn.specs.Reports.{datagrams_of, end_of, unis_allowed}
use Rattle.wt_turn.specs.Streams.{contents, exists, local_count, peer_bi, peer_count, peer_uni, stream_count}
use Rattle.wt_turn.specs.Unread.{AtOffset, GivenUp, ReadPosition}
use Rattle.wt_sessions.specs.Driver.{control_sent, gives_up}
use Rattle.wt_sessions.specs.DriverState.{DriverState}
use Rattle.wt_sessions.specs.Halves.{total_read}
use Rattle.wt_sessions.specs.Moment.{is_peers}
use Rattle.wt_turn.specs.Log.{Log, actions_of, calls_of, events_of, is_open, with_actions}
use Rattle.wt_turn.specs.declared.action.Action.{Action}
use Rattle.wt_wire.specs.Ids.{is_bidirectional}
use Rattle.wt_wire.specs.declared.side.Side.{Side}

module _ (side : Side) (d : DriverNow) (log : Log) (s : DriverState) (sent : List Action) (position : ℕ → ReadPosition) (uncollected : List Action) (a : Amid side d log s sent position uncollected)
    (unis_same : local_count (actions_of (with_actions sent log)) (peer_uni side) ≡ local_count (actions_of log) (peer_uni side))
    (bis_same : local_count (actions_of (with_actions sent log)) (peer_bi side) ≡ local_count (actions_of log) (peer_bi side)) where
  abbrev g : Log
  g = with_actions sent log

  -- the state with it in the log
  abbrev pub settled_state : DriverState
  settled_state = told (control_sent side (with_actions sent log)) (is_open (with_actions sent log)) s

  events-same : events_of g ≡ events_of log
  events-same = actions-events sent log

  contents-same : contents g ≡ contents log
  contents-same = actions-contents sent log

  calls-same : calls_of g ≡ calls_of log
  calls-same = actions-calls sent log

  header-same : (k : ℕ) → header_verdict g k ≡ header_verdict log k
  header-same k = λ i. if is_bidirectional k then bi_verdict_of (contents-same i k) (end_of (events-same i) k) else uni_verdict_of (contents-same i k) (end_of (events-same i) k)

  untouched-then : (k : ℕ) → IsUntouched log k → IsUntouched g k
  untouched-then k u = (ap (λ cs. list_any (gives_up k) cs) calls-same ∙ u.0, ap (λ cs. total_read k cs) calls-same ∙ u.1)

  at-header : (k : ℕ) → AtHeader log (position k) k → AtHeader g (position k) k
  at-header k h = record { offset = h.offset; verdict = ap goes_on_at (header-same k) ∙ h.verdict; at_offset = h.at_offset }

  member-same : (k : ℕ) → member_position side log k ≡ member_position side g k
  member-same k = λ i. if list_any (gives_up k) (sym calls-same i) then GivenUp
      else AtOffset ((if is_peers side k then unwrap_or (goes_on_at (sym (header-same k) i)) 0 else 0) + total_read k (sym calls-same i))

  placed : Placed side s g position
  placed = let p = a.work.placed in record {
    headers = λ k e. at-header k (p.headers k e);
    members = λ k session e. p.members k session e ∙ member-same k;
    heads = λ k session e x. ap (λ v. is_some (goes_on_at v)) (header-same k) ∙ p.heads k session e x;
    untouched = λ k e. untouched-then k (p.untouched k e);
    arriving = λ k e. untouched-then k (p.arriving k e);
    unopened = λ k e. let u = p.unopened k (refuted (exists side log k) (λ x. true≢false (sym (exists-then side sent log k x) ∙ e))) in (u.0, untouched-then k u.1);
  }

  few-then : (kind : ℕ) → local_count (actions_of g) kind ≡ local_count (actions_of log) kind → stream_count side log kind ≤ 2 ^ 60 → stream_count side g kind ≤ 2 ^ 60
  few-then kind e le = subst (λ n. n ≤ 2 ^ 60) (sym (λ i. peer_count side (actions-all-events sent log i) kind + e i)) le

  there-then : There side s g
  there-then = let t = a.work.there in record {
    unis = t.unis;
    bis = t.bis;
    arriving = λ k e. receives-then side sent log k (t.arriving k e);
    waiting = λ k e. receives-then side sent log k (t.waiting k e);
    living = λ k e. receives-then side sent log k (t.living k e);
    held = λ k e. receives-then side sent log k (t.held k e);
    members = λ k session e. exists-then side sent log k (t.members k session e);
    critical = λ k e. receives-then side sent log k (t.critical k e);
    gone = λ k e. exists-then side sent log k (t.gone k e);
    own = t.own;
    kinds = (unis_same ∙ t.kinds.0, bis_same ∙ t.kinds.1);
    few = (few-then (peer_uni side) unis_same t.few.0, few-then (peer_bi side) bis_same t.few.1);
    peers = t.peers;
  }

  keeps-then : Keeps d.work.dispatched settled_state
  keeps-then = let h = a.work.keeps in record {
    control = h.control;
    encoder = h.encoder;
    decoder = h.decoder;
    settings = h.settings;
    queued = h.queued;
    held = h.held;
    living = h.living;
    windows = h.windows;
    early = h.early;
    gone = h.gone;
    gone_named = h.gone_named;
    closed = h.closed;
    established = h.established;
    alive = h.alive;
    named = h.named;
    named_streams = h.named_streams;
    named_datagrams = h.named_datagrams;
    unjoined = h.unjoined;
    fault = h.fault;
  }

  back : goes settled_state ≡ true → goes s ≡ true
  back e = ap (λ b. b && is_none s.progress.fault) a.work.is_open_same ∙ e

  pub settles : Amid side d g settled_state [] position uncollected
  settles = record {
    work = record {
      transport = a.work.transport;
      is_open_same = refl;
      keeps = keeps-then;
      roles = told-roles s s.dispatched.datagrams s.progress (control_sent side g) (is_open g) a.work.roles;
      placed = told-placed s s.dispatched.datagrams s.progress (control_sent side g) (is_open g) side g position placed;
      there = told-there s s.dispatched.datagrams s.progress (control_sent side g) (is_open g) side g there-then;
      sends = record { arriving = λ k e. refl; waiting = λ k e. refl; members = λ k session e f. refl; living = a.work.sends.living; own = a.work.sends.own };
      control = λ e. subst (λ c. ControlFollows d.work.dispatched.critical.control s.dispatched.control c position) (sym contents-same) (a.work.control (back e));
      sessions = λ e. subst (λ c. SessionsFollow d.work.dispatched.sessions.living s.sessions c position) (sym contents-same) (a.work.sessions (back e));
    };
    kinds = a.kinds;
    few = a.few;
    own = a.own;
    allowed = λ e. ap (λ es. nat_lt 0 (unis_allowed es)) events-same ∙ a.allowed e;
    unis = λ e. subst (λ c. ArrivingFollows uni_rules d.work.transport d.unis s.unis c position) (sym contents-same) (a.unis (back e));
    bis = λ e. subst (λ c. ArrivingFollows bi_rules d.work.transport d.bis s.bis c position) (sym contents-same) (a.bis (back e));
    datagrams = λ e. a.datagrams (back e) ∙ ap (λ es. drop s.progress.datagrams (datagrams_of es)) (sym events-same);
    response = λ c n. subst₂ (λ b es. ResponseFollows side d.response b es position) (sym contents-same) (sym events-same) (a.response c n);
  }
