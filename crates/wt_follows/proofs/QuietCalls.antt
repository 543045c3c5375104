-- A call's record that moves no place, on an open connection and after its end: its moment finds nothing, and the driver follows the log
-- with it.
use Rattle.std.proofs.Common.{◌+◌, ◌^◌, ◌∙◌, ◌≡◌, ◌∷◌, Bool, List, [], ap, arith, false, min, refl, subst, sym, true, ℕ}
use Rattle.std.proofs.lemmas.Bool.{true≢false}
use Rattle.std.specs.List.{list_any}
use Rattle.std.specs.Prelude.{◌&&◌, ◌||◌, if◌then◌else◌, not, take}
use Rattle.wt_follows.proofs.AtOnce.{noted-finds}
use Rattle.wt_follows.proofs.EntryAtRest.{closed-alone, closed-state, open-alone, open-state}
use Rattle.wt_follows.proofs.EventTaken.{same-count}
use Rattle.wt_follows.proofs.KeepsLaws.{keeps-progress}
use Rattle.wt_follows.proofs.Lifted.{lifted}
use Rattle.wt_follows.proofs.SameStreams.{dated-amid}
use Rattle.wt_follows.specs.Pieces.{FindsNothing, noted}
use Rattle.wt_follows.specs.Roles.{is_living}
use Rattle.wt_follows.specs.Tie.{Amid, Follows, IsUntouched, Placed, body_of, member_position}
use Rattle.wt_kept.specs.Arriving.{arrived_count, peer_kind}
use Rattle.wt_kept.specs.Kept.{DriverNow}
use Rattle.wt_kept.specs.Readers.{bi_rules, uni_rules}
use Rattle.wt_transport.proofs.Asking.{refined_peer_bis, refined_peer_unis}
use Rattle.wt_transport.proofs.Refining.{refined_side}
use Rattle.wt_transport.specs.State.{Refines, TransportState}
use Rattle.wt_transport.specs.Step.{count_now}
use Rattle.wt_turn.specs.Sent.{is_finished, is_reset, resets}
use Rattle.wt_turn.specs.Streams.{can_send, contents, local_uni}
use Rattle.wt_turn.specs.Unread.{AtOffset, GivenUp}
use Rattle.wt_sessions.specs.Driver.{gives_up, log_and_flush, still_sends, transport_view}
use Rattle.wt_sessions.specs.DriverState.{DriverState, state_of}
use Rattle.wt_sessions.specs.Halves.{bytes_read, total_read}
use Rattle.wt_sessions.specs.Moment.{Fits, MayRecord}
use Rattle.wt_sessions.specs.Step.{after_call, after_entry}
use Rattle.wt_turn.specs.Log.{CallRecord, Called, Log, actions_of, calls_of, is_open}
use Rattle.wt_turn.specs.declared.action.Action.{Action}
use Rattle.wt_wire.specs.declared.side.Side.{Side}

-- the call gave no bytes, gave nothing up, and reset neither a session's stream nor this end's control stream; what is kept stays
pub record MovesNone (side : Side) (s : DriverState) (r : CallRecord) : Type 0 where
  pub keeps : (z : DriverState) → after_call r z ≡ z
  pub gives : (k : ℕ) → gives_up k r ≡ false
  pub reads : (k : ℕ) → bytes_read k r ≡ 0
  pub living : (k : ℕ) → is_living s k ≡ true → resets k (Called r) ≡ false
  pub own : resets (local_uni side) (Called r) ≡ false

module _ (side : Side) (d : DriverNow) (log : Log) (uncollected : List Action) (f : Follows side d log uncollected) (fits : Fits side log) (r : CallRecord) (may : MayRecord side log r) (m : MovesNone side (state_of side log) r) (u : TransportState)
    (refines : Refines side u (Called r ∷ log) f.position uncollected) where
  abbrev g : Log
  g = Called r ∷ log

  abbrev s : DriverState
  s = state_of side log

  abbrev t : TransportState
  t = d.work.transport

  abbrev a : Amid side d log s [] f.position uncollected
  a = f.amid

  abbrev e : DriverNow
  e = record d { work = record d.work { transport = u } }

  -- ---- places

  read-same : (k : ℕ) → total_read k (calls_of g) ≡ total_read k (calls_of log)
  read-same k = ap (λ n. n + total_read k (calls_of log)) (m.reads k) ∙ plus (total_read k (calls_of log))
    where
      plus : (n : ℕ) → 0 + n ≡ n
      plus n = omega arith

  given-same : (k : ℕ) → list_any (gives_up k) (calls_of g) ≡ list_any (gives_up k) (calls_of log)
  given-same k = ap (λ b. b || list_any (gives_up k) (calls_of log)) (m.gives k)

  reset-same : (k : ℕ) → resets k (Called r) ≡ false → is_reset g k ≡ is_reset log k
  reset-same k x = ap (λ b. b || is_reset log k) x

  untouched-then : (k : ℕ) → IsUntouched log k → IsUntouched g k
  untouched-then k x = (given-same k ∙ x.0, read-same k ∙ x.1)

  member-same : (k : ℕ) → member_position side g k ≡ member_position side log k
  member-same k = λ i. if given-same k i then GivenUp else AtOffset (body_of side log k + read-same k i)

  placed : Placed side s g f.position
  placed = let p = a.work.placed in record {
    headers = λ k x. let h = p.headers k x in record { offset = h.offset; verdict = h.verdict; at_offset = h.at_offset };
    members = λ k session x. p.members k session x ∙ sym (member-same k);
    heads = p.heads;
    untouched = λ k x. untouched-then k (p.untouched k x);
    arriving = λ k x. untouched-then k (p.arriving k x);
    unopened = λ k x. let w = p.unopened k x in (w.0, untouched-then k w.1);
  }

  sends-same : (k : ℕ) → resets k (Called r) ≡ false → still_sends side g k ≡ still_sends side log k
  sends-same k x = ap (λ b. can_send side log k && not (is_finished (actions_of log) k) && not b) (reset-same k x)

  -- ---- the streams of each kind

  side-same : u.side ≡ t.side
  side-same = refined_side side u g f.position uncollected refines ∙ sym (refined_side side t log f.position uncollected a.work.transport)

  unis-same : arrived_count u d.unis ≡ arrived_count t d.unis
  unis-same = ap (λ (n : ℕ). min n (2 ^ 60))
      ((λ i. count_now u (peer_kind u.side (a.kinds.0 i))) ∙ refined_peer_unis side u g f.position uncollected refines
      ∙ sym ((λ i. count_now t (peer_kind t.side (a.kinds.0 i))) ∙ refined_peer_unis side t log f.position uncollected a.work.transport))

  bis-same : arrived_count u d.bis ≡ arrived_count t d.bis
  bis-same = ap (λ (n : ℕ). min n (2 ^ 60))
      ((λ i. count_now u (peer_kind u.side (a.kinds.1 i))) ∙ refined_peer_bis side u g f.position uncollected refines
      ∙ sym ((λ i. count_now t (peer_kind t.side (a.kinds.1 i))) ∙ refined_peer_bis side t log f.position uncollected a.work.transport))

  -- ---- the record is taken

  taken : Amid side e g s [] f.position uncollected
  taken = record {
    work = record {
      transport = refines;
      is_open_same = a.work.is_open_same;
      keeps = a.work.keeps;
      roles = a.work.roles;
      placed = placed;
      there = let x = a.work.there in record {
        unis = x.unis;
        bis = x.bis;
        arriving = x.arriving;
        waiting = x.waiting;
        living = x.living;
        held = x.held;
        members = x.members;
        critical = x.critical;
        gone = x.gone;
        own = x.own;
        kinds = x.kinds;
        few = x.few;
        peers = x.peers;
      };
      sends = record {
        arriving = λ k x. refl;
        waiting = λ k x. refl;
        members = λ k session x y. refl;
        living = λ k x. sends-same k (m.living k x) ∙ a.work.sends.living k x;
        own = (a.work.sends.own.0, reset-same (local_uni side) m.own ∙ a.work.sends.own.1);
      };
      control = a.work.control;
      sessions = a.work.sessions;
    };
    kinds = a.kinds;
    few = a.few;
    own = record { stream = a.own.stream; sent_same = a.own.sent_same; within = a.own.within };
    allowed = a.allowed;
    unis = λ x. same-count uni_rules t u d.unis s.unis (contents log) f.position side-same refl refl (a.unis x) unis-same;
    bis = λ x. same-count bi_rules t u d.bis s.bis (contents log) f.position side-same refl refl (a.bis x) bis-same;
    datagrams = a.datagrams;
    response = a.response;
  }

  state-then : after_entry (transport_view side log) (Called r) s ≡ s
  state-then = ap (λ (z : DriverState). record z { is_open = s.is_open }) (m.keeps s)

  -- ---- on an open connection

  module _ (opened : is_open log ≡ true) where
    came : Bool
    came = s.progress.settings

    finds-before : FindsNothing (transport_view side log) s s.progress.settings
    finds-before = (f.rests opened).finds

    finds : FindsNothing (transport_view side g) s s.progress.settings
    finds = let q = finds-before in record {
      unis = q.unis;
      bis = q.bis;
      datagrams = q.datagrams;
      sessions = q.sessions;
      unstopped = q.unstopped;
      control = q.control;
      encoder = q.encoder;
      decoder = q.decoder;
      going = q.going;
      idle = q.idle;
    }

    finds-after : FindsNothing (transport_view side g) (after_entry (transport_view side log) (Called r) s) s.progress.settings
    finds-after = subst (λ (z : DriverState). FindsNothing (transport_view side g) z s.progress.settings) (sym state-then) finds

    open-then : (after_entry (transport_view side log) (Called r) s).is_open ≡ true
    open-then = a.work.is_open_same ∙ opened

    alone : log_and_flush side log (Called r) ≡ g
    alone = open-alone side log (Called r) (may, fits) refl s.progress.settings open-then finds-after

    state : state_of side g ≡ noted s.progress.settings s
    state = open-state side log (Called r) (may, fits) refl s.progress.settings open-then finds-after ∙ ap (noted s.progress.settings) state-then

    amid-noted : Amid side e g (noted s.progress.settings s) [] f.position uncollected
    amid-noted = lifted side e g s [] f.position uncollected taken e.work (noted s.progress.settings s) [] f.position uncollected
        (dated-amid side e.work g s [] f.position uncollected taken.work s.dispatched.datagrams (noted s.progress.settings s).progress e.work.dispatched
        (keeps-progress e.work.dispatched s taken.work.keeps e.work.dispatched.fault (noted s.progress.settings s).progress refl taken.work.keeps.fault) (λ x. taken.work.control x) (λ x. taken.work.sessions x))
        (λ kind. refl) refl refl refl (λ x. x) (λ j x. refl) refl (λ c n. (n, refl))

    following : Follows side e g uncollected
    following = let q = f.rests opened in record {
      position = f.position;
      amid = subst (λ (z : DriverState). Amid side e g z [] f.position uncollected) (sym state) amid-noted;
      rests = λ x. record {
        finds = subst (λ (z : DriverState). FindsNothing (transport_view side g) z z.progress.settings) (sym state)
            (noted-finds (transport_view side g) s s.progress.settings s.progress.settings finds (λ y. y) (λ y. y));
        unis = q.unis;
        bis = q.bis;
        control = q.control;
        sessions = q.sessions;
        unready = q.unready;
        first_unis = λ y. ap (λ (z : DriverState). take 4 z.unis) state ∙ q.first_unis y;
        first_bis = λ y. ap (λ (z : DriverState). take 4 z.bis) state ∙ q.first_bis y;
      };
    }

  -- ---- after the end

  module _ (ended : is_open log ≡ false) where
    ended-then : (after_entry (transport_view side log) (Called r) s).is_open ≡ false
    ended-then = a.work.is_open_same ∙ ended

    alone-late : log_and_flush side log (Called r) ≡ g
    alone-late = closed-alone side log (Called r) (may, fits) refl ended-then

    following-late : Follows side e g uncollected
    following-late = record {
      position = f.position;
      amid = subst (λ (z : DriverState). Amid side e g z [] f.position uncollected) (sym (closed-state side log (Called r) (may, fits) refl ended-then ∙ state-then)) taken;
      rests = λ x. absurd (true≢false (sym x ∙ ended));
    }

  -- the driver follows the log with the record
  pub record-follows : Follows side e (log_and_flush side log (Called r)) uncollected
  record-follows = by (is_open log) refl
    where
      by : (b : Bool) → is_open log ≡ b → Follows side e (log_and_flush side log (Called r)) uncollected
      by true o = subst (λ (l : Log). Follows side e l uncollected) (sym (alone o)) (following o)
      by false o = subst (λ (l : Log). Follows side e l uncollected) (sym (alone-late o)) (following-late o)
