-- Bytes that nothing reads as they come wait in the transport: what is kept follows the log with them.
use Rattle.std.proofs.Common.{◌+◌, ◌^◌, ◌∙◌, ◌≡◌, ◌≤◌, ◌++◌, ◌∷◌, Bool, List, None, Option, Some, [], ap, drop, false, length, refl, subst, sym, true, ℕ, min}
use Rattle.std.proofs.lemmas.Bool.{eqb-true, true≢false}
use Rattle.std.specs.List.{list_any}
use Rattle.std.specs.Prelude.{◌%◌, ◌&&◌, ◌/◌, ◌==◌, IsTrue, if◌then◌else◌, is_some, nat_lt, not, unwrap_or}
use Rattle.wt_follows.proofs.BytesCome.{OnlyBytes, contents-apart, contents-on, only-bytes, reader-behind}
use Rattle.wt_follows.proofs.EventFollows.{and-second}
use Rattle.wt_follows.proofs.EventTaken.{same-count}
use Rattle.wt_follows.proofs.Headers.{bi-goes, uni-goes}
use Rattle.wt_follows.proofs.OwnRequest.{response-more}
use Rattle.wt_follows.proofs.QuietEntry.{and-first}
use Rattle.wt_follows.specs.Tie.{Amid, ArrivingFollows, AtHeader, ControlFollows, IsUntouched, OwnFollows, Placed, ReaderAt, ResponseAt, ResponseFollows, Sends, SessionsFollow, SlotsAt, There, goes_on_at, header_verdict, member_position}
use Rattle.wt_kept.specs.Arriving.{arrived_count, peer_kind, slots_of}
use Rattle.wt_kept.specs.Kept.{ArrivingNow, DriverNow, LiveNow}
use Rattle.wt_kept.specs.Readers.{ControlReading, ReaderRules, ResponseReading, Slot, bi_rules, control_rules, response_rules, session_rules, uni_rules}
use Rattle.wt_transport.proofs.Asking.{refined_peer_bis, refined_peer_unis}
use Rattle.wt_transport.proofs.Refining.{bytes_refine, refined_bytes_fit, refined_side}
use Rattle.wt_transport.specs.State.{Refines, TransportState}
use Rattle.wt_transport.specs.Step.{after_bytes, count_now, may_receive_now}
use Rattle.wt_proto.proofs.BiLaws.{bi_verdict_stays}
use Rattle.wt_proto.proofs.UniLaws.{uni_verdict_stays}
use Rattle.wt_proto.specs.Bi.{bi_verdict_of}
use Rattle.wt_proto.specs.Uni.{is_final, uni_verdict_of}
use Rattle.wt_proto.specs.declared.verdict.Verdict.{Verdict}
use Rattle.wt_proto.specs.declared.verdict.Verdict.TheVariants as verdicts
use Rattle.wt_turn.specs.Arrivals.{log_bytes, log_bytes_if, may_receive}
use Rattle.wt_turn.specs.Reports.{datagrams_of, end_of, is_connected, is_running, loss_of, unis_allowed}
use Rattle.wt_turn.specs.Sent.{is_finished, sent_on}
use Rattle.wt_turn.specs.Streams.{can_receive, contents, exists, local_bi, local_count, local_uni, peer_bi, peer_count, peer_uni, stream_count}
use Rattle.wt_turn.specs.Unread.{AtOffset, GivenUp, ReadPosition}
use Rattle.wt_sessions.specs.Driver.{ControlSent, control_sent, gives_up, still_sends}
use Rattle.wt_sessions.specs.DriverState.{DriverState}
use Rattle.wt_sessions.specs.Halves.{total_read}
use Rattle.wt_sessions.specs.Moment.{is_peers}
use Rattle.wt_sessions.specs.StreamTable.{Session}
use Rattle.wt_turn.specs.Log.{Log, all_events_of, events_of, is_open}
use Rattle.wt_turn.specs.declared.action.Action.{Action}
use Rattle.wt_wire.specs.Ids.{is_bidirectional}
use Rattle.wt_wire.specs.declared.side.Side.{Side}
use Rattle.wt_wire.specs.declared.side.StreamEnd.{StreamEnd}
use Rattle.wt_wire.specs.declared.side.StreamEnd.TheVariants.{Running}

-- ---- what the header says

goes-final : (v : Verdict) (o : ℕ) → goes_on_at v ≡ Some o → is_final v ≡ true
goes-final (verdicts.WebTransport session offset) o e = refl
goes-final (verdicts.Request fields offset) o e = refl
goes-final _ o e = absurd cc

uni-more : (bytes more : List ℕ) (end later : StreamEnd) (o : ℕ) → goes_on_at (uni_verdict_of bytes end) ≡ Some o → goes_on_at (uni_verdict_of (bytes ++ more) later) ≡ Some o
uni-more bytes more end later o e =
    let running = uni-goes bytes end Running ∙ e in
    ap goes_on_at (uni_verdict_stays bytes more later (goes-final (uni_verdict_of bytes Running) o running)) ∙ running

bi-more : (bytes more : List ℕ) (end later : StreamEnd) (o : ℕ) → goes_on_at (bi_verdict_of bytes end) ≡ Some o → goes_on_at (bi_verdict_of (bytes ++ more) later) ≡ Some o
bi-more bytes more end later o e =
    let running = bi-goes bytes end Running ∙ e in
    ap goes_on_at (bi_verdict_stays bytes more later (goes-final (bi_verdict_of bytes Running) o running)) ∙ running

-- more bytes change nothing of where a stream goes on
pub header-more : (log : Log) (id : ℕ) (piece : List ℕ) (k o : ℕ) → goes_on_at (header_verdict log k) ≡ Some o → goes_on_at (header_verdict (log_bytes log id piece) k) ≡ Some o
header-more log id piece k o e = by (id == k) refl
  where
    g : Log
    g = log_bytes log id piece

    same-end : end_of (events_of g) k ≡ end_of (events_of log) k
    same-end = ap (λ es. end_of es k) ((only-bytes log id piece).events)

    here : (b : Bool) (xs : List ℕ) → goes_on_at (if b then bi_verdict_of (contents log k) (end_of (events_of log) k) else uni_verdict_of (contents log k) (end_of (events_of log) k)) ≡ Some o
        → goes_on_at (if b then bi_verdict_of (contents log k ++ xs) (end_of (events_of g) k) else uni_verdict_of (contents log k ++ xs) (end_of (events_of g) k)) ≡ Some o
    here true xs f = bi-more (contents log k) xs (end_of (events_of log) k) (end_of (events_of g) k) o f
    here false xs f = uni-more (contents log k) xs (end_of (events_of log) k) (end_of (events_of g) k) o f

    by : (b : Bool) → (id == k) ≡ b → goes_on_at (header_verdict g k) ≡ Some o
    by true f = (λ i. goes_on_at (if is_bidirectional k then bi_verdict_of (joined i) (end_of (events_of g) k) else uni_verdict_of (joined i) (end_of (events_of g) k))) ∙ here (is_bidirectional k) piece e
      where
        joined : contents g k ≡ contents log k ++ piece
        joined = contents-on log id piece k ∙ ap (λ b. if b then contents log k ++ piece else contents log k) f
    by false f = (λ i. goes_on_at (if is_bidirectional k then bi_verdict_of (contents-apart log id piece k f i) (same-end i) else uni_verdict_of (contents-apart log id piece k f i) (same-end i))) ∙ e

-- ---- what is said of streams

module _ (side : Side) (log : Log) (id : ℕ) (piece : List ℕ) where
  abbrev g : Log
  g = log_bytes log id piece

  o : OnlyBytes log g
  o = only-bytes log id piece

  pub exists-same : (k : ℕ) → exists side g k ≡ exists side log k
  exists-same k = λ i. nat_lt (k / 4) (peer_count side (o.all_events i) (k % 4) + local_count (o.actions i) (k % 4))

  pub receives-same : (k : ℕ) → can_receive side g k ≡ can_receive side log k
  receives-same k = ap (λ b. b && not (local_uni side == k % 4)) (exists-same k)

  pub sends-same : (k : ℕ) → still_sends side g k ≡ still_sends side log k
  sends-same k = λ i. (exists-same k i && not (peer_uni side == k % 4)) && not (is_finished (o.actions i) k) && not (o.resets k i)

  pub untouched-same : (k : ℕ) → IsUntouched log k → IsUntouched g k
  untouched-same k u = (ap (list_any (gives_up k)) o.calls ∙ u.0, ap (total_read k) o.calls ∙ u.1)

  body-by : (k : ℕ) (b : Bool) (h : Option ℕ) → goes_on_at (header_verdict log k) ≡ h → (b ≡ true → is_some h ≡ true)
      → (if b then unwrap_or (goes_on_at (header_verdict g k)) 0 else 0) ≡ (if b then unwrap_or (goes_on_at (header_verdict log k)) 0 else 0)
  body-by k false h e f = refl
  body-by k true (Some x) e f = ap (λ (y : Option ℕ). unwrap_or y 0) (header-more log id piece k x e ∙ sym e)
  body-by k true None e f = absurd (true≢false (sym (f refl)))

  pub member-same : (k : ℕ) → (is_peers side k ≡ true → is_some (goes_on_at (header_verdict log k)) ≡ true) → member_position side g k ≡ member_position side log k
  member-same k f = λ i. if list_any (gives_up k) (o.calls i) then GivenUp
      else AtOffset (body-by k (is_peers side k) (goes_on_at (header_verdict log k)) refl f i + total_read k (o.calls i))

  some-stays : (k : ℕ) (h : Option ℕ) → goes_on_at (header_verdict log k) ≡ h → is_some h ≡ true → is_some (goes_on_at (header_verdict g k)) ≡ true
  some-stays k (Some x) e f = ap is_some (header-more log id piece k x e)
  some-stays k None e f = absurd (true≢false (sym f))

  pub at-header-more : (k : ℕ) (p : ReadPosition) → AtHeader log p k → AtHeader g p k
  at-header-more k p h = record { offset = h.offset; verdict = header-more log id piece k h.offset h.verdict; at_offset = h.at_offset }

  pub placed-more : (s : DriverState) (position : ℕ → ReadPosition) → Placed side s log position → Placed side s g position
  placed-more s position p = record {
    headers = λ k e. at-header-more k (position k) (p.headers k e);
    members = λ k session e. p.members k session e ∙ sym (member-same k (p.heads k session e));
    heads = λ k session e f. some-stays k (goes_on_at (header_verdict log k)) refl (p.heads k session e f);
    untouched = λ k e. untouched-same k (p.untouched k e);
    arriving = λ k e. untouched-same k (p.arriving k e);
    unopened = λ k e. let u = p.unopened k (sym (exists-same k) ∙ e) in (u.0, untouched-same k u.1);
  }

  pub there-more : (s : DriverState) → There side s log → There side s g
  there-more s t = record {
    unis = t.unis;
    bis = t.bis;
    arriving = λ k e. receives-same k ∙ t.arriving k e;
    waiting = λ k e. receives-same k ∙ t.waiting k e;
    living = λ k e. receives-same k ∙ t.living k e;
    held = λ k e. receives-same k ∙ t.held k e;
    members = λ k session e. exists-same k ∙ t.members k session e;
    critical = λ k e. receives-same k ∙ t.critical k e;
    gone = λ k e. exists-same k ∙ t.gone k e;
    own = t.own;
    peers = t.peers;
    kinds = (ap (λ as_. local_count as_ (peer_uni side)) o.actions ∙ t.kinds.0, ap (λ as_. local_count as_ (peer_bi side)) o.actions ∙ t.kinds.1);
    few = (
      subst (λ (n : ℕ). n ≤ 2 ^ 60) (sym (λ i. peer_count side (o.all_events i) (peer_uni side) + local_count (o.actions i) (peer_uni side))) t.few.0,
      subst (λ (n : ℕ). n ≤ 2 ^ 60) (sym (λ i. peer_count side (o.all_events i) (peer_bi side) + local_count (o.actions i) (peer_bi side))) t.few.1,
    );
  }

  pub sending-more : (s : DriverState) → Sends side s log log → Sends side s g g
  sending-more s x = record {
    arriving = λ k e. refl;
    waiting = λ k e. refl;
    members = λ k session e f. refl;
    living = λ k e. sends-same k ∙ x.living k e;
    own = (ap (λ as_. is_finished as_ (local_uni side)) o.actions ∙ x.own.0, o.resets (local_uni side) ∙ x.own.1);
  }

  -- ---- readers

  -- a reader has more before it
  pub reader-more : {V O : Type 0} (w : ReaderRules V O) (r : V) (k offset : ℕ) (p : ReadPosition) → ReaderAt w r offset (contents log k) p → ReaderAt w r offset (contents g k) p
  reader-more w r k offset p at = subst (λ (xs : List ℕ). ReaderAt w r offset xs p) (sym (contents-on log id piece k)) (by (id == k))
    where
      by : (b : Bool) → ReaderAt w r offset (if b then contents log k ++ piece else contents log k) p
      by true = reader-behind w r offset (contents log k) piece p at
      by false = at

  pub slots-more : {V O : Type 0} (w : ReaderRules V O) (position : ℕ → ReadPosition) (xs : List (Slot V)) → SlotsAt w (contents log) position xs → SlotsAt w (contents g) position xs
  slots-more w position [] at = tt
  slots-more w position (x ∷ xs) at = (reader-more w x.reader x.id 0 (position x.id) at.0, slots-more w position xs at.1)

  pub arriving-more : {V O : Type 0} (w : ReaderRules V O) (t : TransportState) (a : ArrivingNow V) (ids : List ℕ) (position : ℕ → ReadPosition)
      → ArrivingFollows w t a ids (contents log) position → ArrivingFollows w t a ids (contents g) position
  arriving-more w t a ids position f = record { ordered = f.ordered; few = f.few; same_ids = f.same_ids; read = slots-more w position (slots_of w t a) f.read }

  pub control-more : (x : Option (Slot ControlReading)) (c : Option (ℕ × ℕ)) (position : ℕ → ReadPosition) → ControlFollows x c (contents log) position → ControlFollows x c (contents g) position
  control-more None None position f = tt
  control-more (Some x) (Some c) position f = (f.0, reader-more control_rules x.reader c.0 c.1 (position c.0) f.1)
  control-more None (Some c) position f = absurd f
  control-more (Some x) None position f = absurd f

  pub sessions-more : (xs : List LiveNow) (ss : List Session) (position : ℕ → ReadPosition) → SessionsFollow xs ss (contents log) position → SessionsFollow xs ss (contents g) position
  sessions-more [] [] position f = tt
  sessions-more (x ∷ xs) (s ∷ ss) position f = (reader-more session_rules x.reader s.id s.offset (position s.id) f.0, sessions-more xs ss position f.1)
  sessions-more [] (s ∷ ss) position f = absurd f
  sessions-more (x ∷ xs) [] position f = absurd f

-- ---- all of it

module _ (side : Side) (d : DriverNow) (log : Log) (s : DriverState) (position : ℕ → ReadPosition) (uncollected : List Action) (id byte : ℕ) (bytes : List ℕ)
    (a : Amid side d log s [] position uncollected) (opened : is_open log ≡ true) (fitting : IsTrue (may_receive_now d.work.transport id && not d.work.transport.is_lost)) where
  abbrev piece : List ℕ
  piece = byte ∷ bytes

  abbrev t : TransportState
  t = d.work.transport

  abbrev u : TransportState
  u = after_bytes t id piece

  abbrev h : Log
  h = log_bytes log id piece

  only : OnlyBytes log h
  only = only-bytes log id piece

  refines : Refines side u h position uncollected
  refines = subst (λ (b : Bool). Refines side u (log_bytes_if b log id piece) position uncollected) opened (bytes_refine side t log position uncollected a.work.transport id piece fitting)

  side-same : u.side ≡ t.side
  side-same = refined_side side u h position uncollected refines ∙ sym (refined_side side t log position uncollected a.work.transport)

  count-same : (kind : ℕ) → stream_count side h kind ≡ stream_count side log kind
  count-same kind = λ i. peer_count side (only.all_events i) kind + local_count (only.actions i) kind

  unis-same : arrived_count u d.unis ≡ arrived_count t d.unis
  unis-same =
      ap (λ (n : ℕ). min n (2 ^ 60))
      ((λ i. count_now u (peer_kind u.side (a.kinds.0 i))) ∙ refined_peer_unis side u h position uncollected refines ∙ count-same (peer_uni side)
      ∙ sym ((λ i. count_now t (peer_kind t.side (a.kinds.0 i))) ∙ refined_peer_unis side t log position uncollected a.work.transport))

  bis-same : arrived_count u d.bis ≡ arrived_count t d.bis
  bis-same =
      ap (λ (n : ℕ). min n (2 ^ 60))
      ((λ i. count_now u (peer_kind u.side (a.kinds.1 i))) ∙ refined_peer_bis side u h position uncollected refines ∙ count-same (peer_bi side)
      ∙ sym ((λ i. count_now t (peer_kind t.side (a.kinds.1 i))) ∙ refined_peer_bis side t log position uncollected a.work.transport))

  -- the bytes wait
  pub kept-follows : Amid side (record d { work = record d.work { transport = u } }) h s [] position uncollected
  kept-follows = record {
    work = record {
      transport = refines;
      is_open_same = a.work.is_open_same ∙ sym only.open_same;
      keeps = a.work.keeps;
      roles = a.work.roles;
      placed = placed-more side log id piece s position a.work.placed;
      there = there-more side log id piece s a.work.there;
      sends = sending-more side log id piece s a.work.sends;
      control = λ x. control-more side log id piece d.work.dispatched.critical.control s.dispatched.control position (a.work.control x);
      sessions = λ x. sessions-more side log id piece d.work.dispatched.sessions.living s.sessions position (a.work.sessions x);
    };
    kinds = a.kinds;
    few = a.few;
    own = subst (OwnFollows side d.own_control) (sym sent-same) a.own;
    allowed = λ x. ap (λ es. nat_lt 0 (unis_allowed es)) only.events ∙ a.allowed (ap (λ (c : ControlSent). c.opened) (sym sent-same) ∙ x);
    unis = λ x. same-count uni_rules t u d.unis s.unis (contents h) position side-same refl refl (arriving-more side log id piece uni_rules t d.unis s.unis position (a.unis x)) unis-same;
    bis = λ x. same-count bi_rules t u d.bis s.bis (contents h) position side-same refl refl (arriving-more side log id piece bi_rules t d.bis s.bis position (a.bis x)) bis-same;
    datagrams = λ x. a.datagrams x ∙ ap (λ es. drop s.progress.datagrams (datagrams_of es)) (sym only.events);
    response = λ c n. response-then d.response (a.response c n);
  }
    where
      running : (id == local_bi side) ≡ true → is_running (end_of (events_of log) (local_bi side)) ≡ true
      running f = ap (λ k. is_running (end_of (events_of log) k)) (sym (eqb-true id (local_bi side) f)) ∙ (ap (λ es. is_running (end_of es id)) (a.work.transport.facts.open_same opened)
          ∙ and-second (is_connected (all_events_of log) && can_receive side log id) (is_running (end_of (all_events_of log) id))
          (and-first (may_receive side log id) (not (is_some (loss_of (all_events_of log)))) (sym (refined_bytes_fit side t log position uncollected a.work.transport id piece) ∙ fitting)))

      response-then : (o : Option (Slot ResponseReading)) → ResponseFollows side o (contents log) (events_of log) position → ResponseFollows side o (contents h) (events_of h) position
      response-then None r = r
      response-then (Some x) r = (r.0, subst (λ es. ResponseAt x.reader (contents h (local_bi side)) (end_of es (local_bi side)) (position (local_bi side))) (sym only.events) (by (id == local_bi side) refl))
        where
          by : (b : Bool) → (id == local_bi side) ≡ b → ResponseAt x.reader (contents h (local_bi side)) (end_of (events_of log) (local_bi side)) (position (local_bi side))
          by true f = response-more x.reader (contents log (local_bi side)) (contents h (local_bi side)) (end_of (events_of log) (local_bi side)) (position (local_bi side)) (running f)
              (reader-more side log id piece response_rules x.reader (local_bi side) 0 (position (local_bi side))) r.1
          by false f = subst (λ (xs : List ℕ). ResponseAt x.reader xs (end_of (events_of log) (local_bi side)) (position (local_bi side))) (sym (contents-apart log id piece (local_bi side) f)) r.1

      sent-same : control_sent side h ≡ control_sent side log
      sent-same = λ i. record { opened = not (local_count (only.actions i) (local_uni side) == 0); sent = length (sent_on (only.actions i) (local_uni side)) }
