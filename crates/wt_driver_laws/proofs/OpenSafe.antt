-- A stream that this end opens: which one it is, that it touches nothing of what a driver keeps, and that it has no place yet.
use Rattle.std.proofs.Common.{◌*◌, ◌+◌, ◌/◌, ◌%◌, ◌<◌, ◌∙◌, ◌≡◌, ◌++◌, ◌∷◌, Bool, List, [], ap, arith, false, length, nat_lt, refl, subst, sym, true, ℕ}
use Rattle.std.proofs.lemmas.Bool.Decides.{nat_tests}
use Rattle.std.proofs.lemmas.Bool.{eqb-true, true≢false}
use Rattle.std.specs.Prelude.{◌&&◌, ◌==◌, ◌||◌, if◌then◌else◌, not, unwrap_or}
use Rattle.wt_follows.proofs.JoinedStream.{MayJoin}
use Rattle.wt_follows.proofs.Lists.{refuted}
use Rattle.wt_follows.proofs.Logs.{same-id}
use Rattle.wt_follows.proofs.MomentEnds.{state-sent}
use Rattle.wt_follows.proofs.OwnActions.{own-exists}
use Rattle.wt_follows.proofs.OwnActions as own
use Rattle.wt_follows.proofs.QuietEntry.{and-more}
use Rattle.wt_follows.proofs.SentFollows.{Harmless}
use Rattle.wt_follows.proofs.Stopped.{exists-more}
use Rattle.wt_follows.specs.Roles.{is_arriving, is_critical, is_held, is_living, is_member, waits}
use Rattle.wt_follows.specs.Tie.{Amid, Follows, goes_on_at, header_verdict}
use Rattle.wt_kept.specs.Kept.{DriverNow}
use Rattle.wt_meaning.specs.Sends.{action_if}
use Rattle.wt_transport.proofs.Asking.{open_events}
use Rattle.wt_transport.proofs.Bools.{first, second}
use Rattle.wt_transport.specs.Kind.{local_kind}
use Rattle.wt_turn.specs.Outgoing.{may_open, next_id, streams_allowed}
use Rattle.wt_turn.specs.Reports.{bis_allowed, credit, unis_allowed}
use Rattle.wt_turn.specs.Sent.{is_finished, is_reset, sent_on}
use Rattle.wt_turn.specs.Streams.{can_receive, can_send, exists, local_count, local_uni, one_more_if, peer_bi, peer_count, peer_uni, stream_count}
use Rattle.wt_turn.specs.Unread.{AtOffset, GivenUp}
use Rattle.wt_sessions.specs.Driver.{control_actions, control_sent, still_sends}
use Rattle.wt_sessions.specs.DriverState.{DriverState, state_of}
use Rattle.wt_sessions.specs.Moment.{is_peers}
use Rattle.wt_turn.specs.Log.{Log, Sent, actions_of, all_events_of, events_of, is_open}
use Rattle.wt_turn.specs.declared.action.Action.{Action}
use Rattle.wt_turn.specs.declared.action.Action.TheVariants as actions
use Rattle.wt_wire.specs.declared.side.Side.{Side}
use Rattle.wt_wire.specs.declared.side.Side.TheVariants.{Client, Server}

-- ---- the kinds that this end opens

pub kind-below : (bidirectional : Bool) (side : Side) → local_kind bidirectional side < 4
kind-below true Client = omega arith
kind-below true Server = omega arith
kind-below false Client = omega arith
kind-below false Server = omega arith

pub no-peer-uni : (bidirectional : Bool) (side : Side) → (local_kind bidirectional side == peer_uni side) ≡ false
no-peer-uni true Client = refl
no-peer-uni true Server = refl
no-peer-uni false Client = refl
no-peer-uni false Server = refl

pub no-peer-bi : (bidirectional : Bool) (side : Side) → (local_kind bidirectional side == peer_bi side) ≡ false
no-peer-bi true Client = refl
no-peer-bi true Server = refl
no-peer-bi false Client = refl
no-peer-bi false Server = refl

low-bits : (count kind : ℕ) → kind < 4 → (4 * count + kind) % 4 ≡ kind
low-bits count kind l = omega arith

number-of : (count kind : ℕ) → kind < 4 → (4 * count + kind) / 4 ≡ count
number-of count kind l = omega arith

none-below : (n : ℕ) → nat_lt n n ≡ false
none-below n = grind (arith, nat_tests)

one-below : (p n : ℕ) → nat_lt (p + n) (p + (n + 1)) ≡ true
one-below p n = grind (arith, nat_tests)

one-there : (n : ℕ) → not (n + 1 == 0) ≡ true
one-there n = grind (arith, nat_tests)

-- ---- this end's control stream

-- nothing of it is left to open
idle-opened : (o : Bool) (id : ℕ) (rest : List Action) → action_if (not o) (actions.Opened id) ++ rest ≡ [] → o ≡ true
idle-opened true id rest e = refl
idle-opened false id rest e = absurd cc

some-allowed : (count allowed : ℕ) → nat_lt count allowed ≡ true → nat_lt 0 allowed ≡ true
some-allowed count allowed e = grind (arith, nat_tests)

sent-of : (side : Side) (log : Log) → (state_of side log).control_sent ≡ control_sent side log
unfolding state_of
sent-of side log = refl

module _ (side : Side) (d : DriverNow) (log : Log) (uncollected : List Action) (f : Follows side d log uncollected) where
  abbrev s : DriverState
  s = state_of side log

  abbrev a : Amid side d log s [] f.position uncollected
  a = f.amid

  idle : is_open log ≡ true → control_actions (nat_lt 0 (unis_allowed (events_of log))) (local_uni side) (credit (events_of log) (local_uni side)) (control_sent side log) ≡ []
  idle o = ap (control_actions (nat_lt 0 (unis_allowed (events_of log))) (local_uni side) (credit (events_of log) (local_uni side))) (sym (sent-of side log)) ∙ (f.rests o).finds.idle

  -- where the peer allows one more unidirectional stream, the first is open
  own-open : may_open side log (local_uni side) ≡ true → (control_sent side log).opened ≡ true
  own-open may =
      let o : is_open log ≡ true = first (is_open log) (nat_lt (stream_count side log (local_uni side)) (streams_allowed side log (local_uni side))) may in
      let l : nat_lt (stream_count side log (local_uni side)) (streams_allowed side log (local_uni side)) ≡ true = second (is_open log) (nat_lt (stream_count side log (local_uni side)) (streams_allowed side log (local_uni side))) may in
      let allowed : nat_lt 0 (unis_allowed (events_of log)) ≡ true =
      ap (λ es. nat_lt 0 (unis_allowed es)) (open_events side d.work.transport log f.position uncollected a.work.transport o)
      ∙ ((λ i. nat_lt 0 (if sym (same-id (local_uni side)) i then unis_allowed (all_events_of log) else bis_allowed (all_events_of log)))
      ∙ some-allowed (stream_count side log (local_uni side)) (streams_allowed side log (local_uni side)) l) in
      idle-opened (control_sent side log).opened (local_uni side) _
      (subst (λ (m : Bool). control_actions m (local_uni side) (credit (events_of log) (local_uni side)) (control_sent side log) ≡ []) allowed (idle o))

  -- ---- the next stream of a kind

  module _ (bidirectional : Bool) (may : may_open side log (local_kind bidirectional side) ≡ true) where
    abbrev kind : ℕ
    kind = local_kind bidirectional side

    abbrev id : ℕ
    id = next_id side log kind

    abbrev g : Log
    g = Sent (actions.Opened id) ∷ log

    low : id % 4 ≡ kind
    low = low-bits (stream_count side log kind) kind (kind-below bidirectional side)

    number : id / 4 ≡ stream_count side log kind
    number = number-of (stream_count side log kind) kind (kind-below bidirectional side)

    -- as many as before are there of another kind
    others : (other : ℕ) → (kind == other) ≡ false → local_count (actions_of g) other ≡ local_count (actions_of log) other
    others other e = ap (λ (b : Bool). one_more_if b (local_count (actions_of log) other)) ((λ i. low i == other) ∙ e)

    absent : exists side log id ≡ false
    absent = (λ i. nat_lt (number i) (stream_count side log (low i))) ∙ none-below (stream_count side log kind)

    pub opened-there : exists side (Sent (actions.Opened (next_id side log (local_kind bidirectional side))) ∷ log) (next_id side log (local_kind bidirectional side)) ≡ true
    opened-there = (λ i. nat_lt (number i) (peer_count side (all_events_of log) (low i) + one_more_if (low i == low i) (local_count (actions_of log) (low i))))
        ∙ ((λ i. nat_lt (stream_count side log kind) (peer_count side (all_events_of log) kind + one_more_if (same-id kind i) (local_count (actions_of log) kind)))
        ∙ one-below (peer_count side (all_events_of log) kind) (local_count (actions_of log) kind))

    control-same : control_sent side g ≡ control_sent side log
    control-same = ap (λ (b : Bool). record { opened = b; sent = length (sent_on (actions_of log) (local_uni side)) }) (by (id % 4 == local_uni side) refl)
      where
        by : (c : Bool) → (id % 4 == local_uni side) ≡ c → not (one_more_if c (local_count (actions_of log) (local_uni side)) == 0) ≡ not (local_count (actions_of log) (local_uni side) == 0)
        by false e = refl
        by true e = one-there (local_count (actions_of log) (local_uni side)) ∙ sym (own-open (ap (may_open side log) (sym (eqb-true (id % 4) (local_uni side) e) ∙ low) ∙ may))

    sends-stays : (k : ℕ) → still_sends side log k ≡ true → still_sends side g k ≡ true
    sends-stays k e =
        and-more (can_send side log k && not (is_finished (actions_of log) k)) (not (is_reset log k)) (can_send side g k && not (is_finished (actions_of log) k))
        (and-more (can_send side log k) (not (is_finished (actions_of log) k)) (can_send side g k)
        (and-more (exists side log k) (not (peer_uni side == k % 4)) (exists side g k) (exists-more side k (actions.Opened id ∷ []) log))) e

    -- it touches nothing that the driver keeps
    pub opened-safe : Harmless side log (actions.Opened (next_id side log (local_kind bidirectional side)) ∷ [])
    opened-safe = record {
      there = λ k e. exists-more side k (actions.Opened id ∷ []) log e;
      peers = (
        ap (λ (n : ℕ). peer_count side (all_events_of log) (peer_uni side) + n) (others (peer_uni side) (no-peer-uni bidirectional side)),
        ap (λ (n : ℕ). peer_count side (all_events_of log) (peer_bi side) + n) (others (peer_bi side) (no-peer-bi bidirectional side)),
      );
      kinds = (others (peer_uni side) (no-peer-uni bidirectional side) ∙ a.work.there.kinds.0, others (peer_bi side) (no-peer-bi bidirectional side) ∙ a.work.there.kinds.1);
      control = control-same;
      living = λ k x. sends-stays k (a.work.sends.living k x);
      unfinished = a.work.sends.own.0;
      unreset = a.work.sends.own.1;
    }

    -- ---- it has no place yet

    missing : (b : Bool) → (b ≡ true → exists side log id ≡ true) → b ≡ false
    missing b h = refuted b (λ e. true≢false (sym (h e) ∙ absent))

    received : can_receive side log id ≡ true → exists side log id ≡ true
    received e = first (exists side log id) (not (local_uni side == id % 4)) e

    not-peers : is_peers side id ≡ false
    not-peers = (λ i. (low i == peer_uni side) || (low i == peer_bi side)) ∙ (λ i. no-peer-uni bidirectional side i || no-peer-bi bidirectional side i)

    -- it isn't this end's control stream, which is open
    pub not-control : (next_id side log (local_kind bidirectional side) == local_uni side) ≡ false
    not-control = refuted (id == local_uni side) (λ e.
        let same : id ≡ local_uni side = eqb-true id (local_uni side) e in
        let of-kind : local_uni side ≡ kind = sym (own.low side) ∙ (λ i. sym same i % 4) ∙ low in
        true≢false (sym (own-exists side log ∙ own-open (ap (may_open side log) of-kind ∙ may)) ∙ (ap (exists side log) (sym same) ∙ absent)))

    pub may-join : MayJoin side (Sent (actions.Opened (next_id side log (local_kind bidirectional side))) ∷ log) (state_of side (Sent (actions.Opened (next_id side log (local_kind bidirectional side))) ∷ log)) f.position
        (next_id side log (local_kind bidirectional side))
    may-join = let t = a.work.there in subst (λ (z : DriverState). MayJoin side g z f.position id) (sym (state-sent side (actions.Opened id ∷ []) log)) (record {
      alone = record {
        arriving = missing (is_arriving s id) (λ e. received (t.arriving id e));
        critical = missing (is_critical s id) (λ e. received (t.critical id e));
        held = missing (is_held s id) (λ e. received (t.held id e));
        living = missing (is_living s id) (λ e. received (t.living id e));
      };
      waits = missing (waits s id) (λ e. received (t.waiting id e));
      member = λ session. missing (is_member s session id) (λ e. t.members id session e);
      there = opened-there;
      own = not-control;
      local = not-peers;
      at = let u = a.work.placed.unopened id absent in
          u.0 ∙ sym (λ i. if u.1.0 i then GivenUp else AtOffset ((if not-peers i then unwrap_or (goes_on_at (header_verdict g id)) 0 else 0) + u.1.1 i));
    })
