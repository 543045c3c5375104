-- A call's record that gives up no stream, reads from none, resets none and sets no priority: what is kept follows the log with it as before.
use Rattle.std.proofs.Common.{◌+◌, ◌∙◌, ◌≡◌, ◌∷◌, List, [], ap, false, refl, subst, sym, zero-add, ℕ}
use Rattle.std.specs.List.{list_any}
use Rattle.std.specs.Prelude.{◌||◌}
use Rattle.wt_follows.proofs.QuietEntry.{Quiet, placed-stays, sending-stays, there-stays}
use Rattle.wt_follows.specs.Tie.{Amid}
use Rattle.wt_kept.specs.Kept.{DriverNow}
use Rattle.wt_transport.specs.State.{IsStream, Refines, TransportState, stream_of}
use Rattle.wt_transport.specs.State as transports
use Rattle.wt_transport.specs.StreamState.{Stream, rows}
use Rattle.wt_turn.specs.Reports.{initial_credit}
use Rattle.wt_turn.specs.Sent.{is_reset, priority_of}
use Rattle.wt_turn.specs.Streams.{stream_count}
use Rattle.wt_turn.specs.Unread.{ReadPosition}
use Rattle.wt_sessions.specs.Driver.{gives_up}
use Rattle.wt_sessions.specs.DriverState.{DriverState}
use Rattle.wt_sessions.specs.Halves.{bytes_read, total_read}
use Rattle.wt_turn.specs.Log.{CallRecord, Called, Log, all_events_of, calls_of}
use Rattle.wt_turn.specs.declared.action.Action.{Action}
use Rattle.wt_wire.specs.declared.side.Side.{Side}

-- it is one of those
pub record MovesNone (log : Log) (r : CallRecord) : Type 0 where
  pub gives : (k : ℕ) → gives_up k r ≡ false
  pub reads : (k : ℕ) → bytes_read k r ≡ 0
  pub resets : (k : ℕ) → is_reset (Called r ∷ log) k ≡ is_reset log k
  pub priorities : (k : ℕ) → priority_of (r ∷ calls_of log) k ≡ priority_of (calls_of log) k

module _ (side : Side) (log : Log) (r : CallRecord) (none : MovesNone log r) where
  abbrev g : Log
  g = Called r ∷ log

  stream-same : (position : ℕ → ReadPosition) (pieces : ℕ → List (List ℕ)) (k : ℕ) → stream_of g position pieces k ≡ stream_of log position pieces k
  stream-same position pieces k = λ i. record (stream_of log position pieces k) { reset = none.resets k i; priority = none.priorities k i }

  same-refines : (t : TransportState) (position : ℕ → ReadPosition) (uncollected : List Action) → Refines side t log position uncollected → Refines side t g position uncollected
  same-refines t position uncollected x = record {
    pieces = x.pieces;
    facts = record {
      streams = λ k. subst (λ (s : Stream). IsStream side (stream_count side log) (initial_credit (all_events_of log)) k s) (sym (stream-same position x.pieces k)) (x.facts.streams k);
      unconnected = x.facts.unconnected;
      unallowed = x.facts.unallowed;
      open_same = x.facts.open_same;
    };
    holds = λ k. let h = x.holds k in record { bytes = h.bytes; filled = h.filled; within = h.within };
    state = x.state ∙ (λ i. record (transports.state_of side log position x.pieces uncollected) { streams = rows (λ k. sym (stream-same position x.pieces k) i) (stream_count side log) });
  }

  pub told-amid : (e : DriverNow) (z : DriverState) (position : ℕ → ReadPosition) (uncollected : List Action) → Amid side e log z [] position uncollected → Amid side e (Called r ∷ log) z [] position uncollected
  told-amid e z position uncollected a = record {
    work = record {
      transport = same-refines e.work.transport position uncollected a.work.transport;
      is_open_same = a.work.is_open_same;
      keeps = a.work.keeps;
      roles = a.work.roles;
      placed = placed-stays side log g quiet z position a.work.placed;
      there = there-stays side log g quiet z a.work.there;
      sends = sending-stays side log g quiet z a.work.sends;
      control = a.work.control;
      sessions = a.work.sessions;
    };
    kinds = a.kinds;
    few = a.few;
    own = record { stream = a.own.stream; sent_same = a.own.sent_same; within = a.own.within };
    allowed = a.allowed;
    unis = a.unis;
    bis = a.bis;
    datagrams = a.datagrams;
    response = a.response;
  }
    where
      quiet : Quiet side log g
      quiet = record {
        contents_same = refl;
        there = λ k x. x;
        given_same = λ k. ap (λ b. b || list_any (gives_up k) (calls_of log)) (none.gives k);
        read_same = λ k. ap (λ n. n + total_read k (calls_of log)) (none.reads k) ∙ zero-add (total_read k (calls_of log));
        actions_same = refl;
        resets_same = none.resets;
        few = a.work.there.few;
      }
