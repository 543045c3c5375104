-- A call that makes a session gone: what goes out for it, and what is kept then, before the call's record is in the log.
use Rattle.std.proofs.Common.{arith, ◌+◌, ◌∙◌, ◌≡◌, ◌++◌, ◌∷◌, List, [], ap, false, refl, sym, true, ℕ}
use Rattle.std.proofs.lemmas.Bool.{eqb-true, true≢false}
use Rattle.std.specs.List.{list_any}
use Rattle.std.specs.Prelude.{◌==◌, if◌then◌else◌}
use Rattle.wt_follows.proofs.Counts.{retire-counts}
use Rattle.wt_follows.proofs.Ends.{AreEnds, control-same, ends-both, gone-ends}
use Rattle.wt_follows.proofs.GoneRoles.{MayRetire, gone-elsewhere, gone_position}
use Rattle.wt_follows.proofs.Lifted.{lifted}
use Rattle.wt_follows.proofs.Lists.{refuted}
use Rattle.wt_follows.proofs.MomentEnds.{ends-count}
use Rattle.wt_follows.proofs.OwnRequest.{none-lives, request-waits}
use Rattle.wt_follows.proofs.Retire.{finish_follows, may_retire, retire_follows, unclosed}
use Rattle.wt_follows.proofs.SessionStep.{finish-counts, own-ends}
use Rattle.wt_follows.proofs.Settled.{settled_state, settles}
use Rattle.wt_follows.specs.Roles.{is_arriving, is_living}
use Rattle.wt_follows.specs.Tie.{Amid, IsUntouched, NoneEstablished, Placed, body_of}
use Rattle.wt_kept.specs.Ending.{finish_and_retire, finish_running, retire_now}
use Rattle.wt_kept.specs.Kept.{DriverNow, Ended, Refused}
use Rattle.wt_meaning.specs.Lawful.{is_client}
use Rattle.wt_transport.specs.State.{Refines}
use Rattle.wt_turn.specs.Joined.{newest_first}
use Rattle.wt_turn.specs.Streams.{local_bi, peer_bi, peer_uni}
use Rattle.wt_turn.specs.Unread.{AtOffset, GivenUp, ReadPosition}
use Rattle.wt_sessions.specs.Driver.{gives_up, transport_view}
use Rattle.wt_sessions.specs.DriverState.{DriverState}
use Rattle.wt_sessions.specs.Halves.{total_read}
use Rattle.wt_sessions.specs.Scan.{session_end}
use Rattle.wt_sessions.specs.Step.{gone_now}
use Rattle.wt_sessions.specs.StreamTable.{TransportView, gone_actions}
use Rattle.wt_turn.specs.Log.{Called, Log, RequestRejected, calls_of, with_actions}
use Rattle.wt_turn.specs.declared.action.Action.{Action}
use Rattle.wt_wire.specs.declared.side.Side.{Side}

module _ (side : Side) (d : DriverNow) (log : Log) (s : DriverState) (position : ℕ → ReadPosition) (uncollected : List Action) (a : Amid side d log s [] position uncollected) (k : ℕ) where
  abbrev view : TransportView
  view = transport_view side log

  -- ---- the application ends a session that lives

  -- what goes out
  abbrev pub end_actions : List Action
  end_actions = session_end view k false ++ gone_actions view s.dispatched k

  pub end-ends : AreEnds (session_end (transport_view side log) k false ++ gone_actions (transport_view side log) s.dispatched k)
  end-ends = ends-both (session_end view k false) (gone_actions view s.dispatched k) (own-ends view k false) (gone-ends view s.dispatched k)

  -- the driver then
  abbrev pub ended_driver : DriverNow
  ended_driver = record d { work = finish_and_retire k Ended d.work }

  module _ (open_ : s.is_open ≡ true) (lives : is_living s k ≡ true) where
    may : MayRetire side log s k
    may = may_retire side d.work log s [] position uncollected a.work k open_ lives

    not-own : (j : ℕ) → is_arriving s j ≡ true → (k == j) ≡ false
    not-own j e = refuted (k == j) (λ f. true≢false (sym lives ∙ (ap (is_living s) (eqb-true k j f) ∙ (a.work.roles.arriving j e).living)))

    pub ended-amid : Amid side ended_driver log (gone_now k s) end_actions (gone_position s k position) (newest_first end_actions uncollected)
    ended-amid = lifted side d log s [] position uncollected a (finish_and_retire k Ended d.work) (gone_now k s) end_actions (gone_position s k position) (newest_first end_actions uncollected)
        (finish_follows side d.work log s [] position uncollected a.work k open_ lives Ended s.closed (unclosed side d.work log s [] position uncollected a.work k may))
        (λ kind. retire-counts k Ended (record d.work { transport = finish_running d.work.transport k }) kind ∙ finish-counts d.work.transport k kind)
        refl refl refl (λ g. g) (λ j e. gone-elsewhere s k position j (not-own j e) (a.work.roles.arriving j e).waits) (control-same side end_actions log end-ends)
        (λ c n. absurd (true≢false (sym lives ∙ none-lives d.work.dispatched s a.work.keeps n k)))

    -- with what went out in the log
    pub ended-settles : Amid side ended_driver (with_actions end_actions log) (settled_state side ended_driver log (gone_now k s) end_actions (gone_position s k position) (newest_first end_actions uncollected) ended-amid
        (ends-count (peer_uni side) end_actions log end-ends) (ends-count (peer_bi side) end_actions log end-ends)) [] (gone_position s k position) (newest_first end_actions uncollected)
    ended-settles = settles side ended_driver log (gone_now k s) end_actions (gone_position s k position) (newest_first end_actions uncollected) ended-amid
        (ends-count (peer_uni side) end_actions log end-ends) (ends-count (peer_bi side) end_actions log end-ends)

  -- ---- a request is rejected

  -- what goes out
  abbrev pub reject_actions : List Action
  reject_actions = gone_actions view s.dispatched k

  -- the driver then
  abbrev pub rejected_driver : DriverNow
  rejected_driver = record d { work = retire_now k Refused d.work }

  module _ (may : MayRetire side log s k) (apart : is_client side ≡ true → NoneEstablished s → (k == local_bi side) ≡ false) where
    pub rejected-amid : Amid side rejected_driver log (gone_now k s) reject_actions (gone_position s k position) (newest_first reject_actions uncollected)
    rejected-amid = lifted side d log s [] position uncollected a (retire_now k Refused d.work) (gone_now k s) reject_actions (gone_position s k position) (newest_first reject_actions uncollected)
        (retire_follows side d.work log s [] position uncollected a.work k may) (λ kind. retire-counts k Refused d.work kind)
        refl refl refl (λ g. g)
        (λ j e. gone-elsewhere s k position j (refuted (k == j) (λ f. true≢false (sym e ∙ (ap (is_arriving s) (sym (eqb-true k j f)) ∙ may.arriving)))) (a.work.roles.arriving j e).waits)
        (control-same side reject_actions log (gone-ends view s.dispatched k))
        (λ c n. (n, gone-elsewhere s k position (local_bi side) (apart c n) (request-waits side s a.work.there.peers)))

    pub rejected-settles : Amid side rejected_driver (with_actions reject_actions log) (settled_state side rejected_driver log (gone_now k s) reject_actions (gone_position s k position) (newest_first reject_actions uncollected) rejected-amid
        (ends-count (peer_uni side) reject_actions log (gone-ends view s.dispatched k)) (ends-count (peer_bi side) reject_actions log (gone-ends view s.dispatched k))) [] (gone_position s k position) (newest_first reject_actions uncollected)
    rejected-settles = settles side rejected_driver log (gone_now k s) reject_actions (gone_position s k position) (newest_first reject_actions uncollected) rejected-amid
        (ends-count (peer_uni side) reject_actions log (gone-ends view s.dispatched k)) (ends-count (peer_bi side) reject_actions log (gone-ends view s.dispatched k))

-- ---- the call's record

module _ (side : Side) (e : DriverNow) (log : Log) (z : DriverState) (position : ℕ → ReadPosition) (uncollected : List Action) (a : Amid side e log z [] position uncollected) (k : ℕ) where
  abbrev told_log : Log
  told_log = Called (RequestRejected k) ∷ log

  record-refines : Refines side e.work.transport told_log position uncollected
  record-refines = let r = a.work.transport in record {
    pieces = r.pieces;
    facts = record {
      streams = λ j. let x = r.facts.streams j in record { unopened = x.unopened; sent = x.sent; one_way = x.one_way };
      unconnected = r.facts.unconnected;
      unallowed = r.facts.unallowed;
      open_same = r.facts.open_same;
    };
    holds = λ j. let h = r.holds j in record { bytes = h.bytes; filled = h.filled; within = h.within };
    state = r.state;
  }

  read-same : (j : ℕ) → total_read j (calls_of told_log) ≡ total_read j (calls_of log)
  read-same j = let n = total_read j (calls_of log) in omega arith

  untouched-then : (j : ℕ) → IsUntouched log j → IsUntouched told_log j
  untouched-then j u = (u.0, read-same j ∙ u.1)

  record-placed : Placed side z told_log position
  record-placed = let p = a.work.placed in record {
    headers = λ j x. let h = p.headers j x in record { offset = h.offset; verdict = h.verdict; at_offset = h.at_offset };
    members = λ j session x. p.members j session x ∙ ap (λ n. if list_any (gives_up j) (calls_of log) then GivenUp else AtOffset (body_of side log j + n)) (sym (read-same j));
    heads = p.heads;
    untouched = λ j x. untouched-then j (p.untouched j x);
    arriving = λ j x. untouched-then j (p.arriving j x);
    unopened = λ j x. let u = p.unopened j x in (u.0, untouched-then j u.1);
  }

  -- what the record says is that the session is gone, which what is kept has
  pub record-taken : Amid side e (Called (RequestRejected k) ∷ log) z [] position uncollected
  record-taken = record {
    work = record {
      transport = record-refines;
      is_open_same = a.work.is_open_same;
      keeps = a.work.keeps;
      roles = a.work.roles;
      placed = record-placed;
      there = let t = a.work.there in record {
        unis = t.unis;
        bis = t.bis;
        arriving = t.arriving;
        waiting = t.waiting;
        living = t.living;
        held = t.held;
        members = t.members;
        critical = t.critical;
        gone = t.gone;
        own = t.own;
        kinds = t.kinds;
        few = t.few;
        peers = t.peers;
      };
      sends = record { arriving = λ j x. refl; waiting = λ j x. refl; members = λ j session x y. refl; living = a.work.sends.living; own = a.work.sends.own };
      control = a.work.control;
      sessions = a.work.sessions;
    };
    kinds = a.kinds;
    few = a.few;
    own = record { stream = a.own.stream; sent_same = a.own.sent_same; within = a.own.within };
    allowed = a.allowed;
    unis = a.unis;
    bis = a.bis;
    datagrams = a.datagrams;
    response = a.response;
  }
