-- A call's record that no moment notices: the driver follows the log with it, and nothing goes out.
use Rattle.std.proofs.Common.{◌+◌, ◌^◌, ◌∙◌, ◌≡◌, ◌≤◌, ◌∷◌, Bool, List, [], ap, false, refl, subst, sym, take, true, true≢false, zero-add, ℕ}
use Rattle.std.specs.List.{list_any}
use Rattle.std.specs.Prelude.{◌||◌}
use Rattle.wt_follows.proofs.AtOnce.{noted-finds}
use Rattle.wt_follows.proofs.EntryAtRest.{closed-alone, closed-state, open-alone, open-state}
use Rattle.wt_follows.proofs.KeepsLaws.{keeps-progress}
use Rattle.wt_follows.proofs.Lifted.{lifted}
use Rattle.wt_follows.proofs.QuietEntry.{Quiet, placed-stays, sending-stays, there-stays}
use Rattle.wt_follows.proofs.SameStreams.{dated-amid}
use Rattle.wt_follows.specs.Pieces.{FindsNothing, noted}
use Rattle.wt_follows.specs.Rests.{Resting}
use Rattle.wt_follows.specs.Tie.{Amid, Follows}
use Rattle.wt_kept.specs.Kept.{DriverNow}
use Rattle.wt_transport.specs.State.{IsStream, Refines, TransportState, stream_of}
use Rattle.wt_transport.specs.State as transports
use Rattle.wt_transport.specs.StreamState.{Stream, rows}
use Rattle.wt_turn.specs.Reports.{initial_credit}
use Rattle.wt_turn.specs.Streams.{peer_bi, peer_uni, stream_count}
use Rattle.wt_turn.specs.Sent.{is_reset}
use Rattle.wt_turn.specs.Unread.{ReadPosition}
use Rattle.wt_sessions.specs.Driver.{gives_up, log_and_flush, transport_view}
use Rattle.wt_sessions.specs.DriverState.{DriverState, state_of}
use Rattle.wt_sessions.specs.Halves.{bytes_read, total_read}
use Rattle.wt_sessions.specs.Moment.{Fits}
use Rattle.wt_sessions.specs.Step.{after_call, after_entry}
use Rattle.wt_turn.specs.Log.{AcceptanceFailed, CallRecord, Called, ConnectStarted, HandshakeOver, Log, OpeningFailed, Polled, ResponseStarted, all_events_of, calls_of, is_open}
use Rattle.wt_turn.specs.declared.action.Action.{Action}
use Rattle.wt_wire.specs.declared.side.Side.{Side}

-- records that say nothing of streams, sessions or datagrams
abbrev pub is_unnoticed : CallRecord → Bool
is_unnoticed Polled = true
is_unnoticed (ConnectStarted reserved head) = true
is_unnoticed (ResponseStarted accepts head) = true
is_unnoticed AcceptanceFailed = true
is_unnoticed HandshakeOver = true
is_unnoticed (OpeningFailed id) = true
is_unnoticed _ = false

module _ (side : Side) (log : Log) where
  -- none gives up a stream, reads from one or resets one, and none may come less than another
  gives-none : (r : CallRecord) → is_unnoticed r ≡ true → (k : ℕ) → gives_up k r ≡ false
  gives-none Polled e k = refl
  gives-none (ConnectStarted reserved head) e k = refl
  gives-none (ResponseStarted accepts head) e k = refl
  gives-none AcceptanceFailed e k = refl
  gives-none HandshakeOver e k = refl
  gives-none (OpeningFailed id) e k = refl
  gives-none _ e k = absurd cc

  reads-none : (r : CallRecord) → is_unnoticed r ≡ true → (k : ℕ) → bytes_read k r ≡ 0
  reads-none Polled e k = refl
  reads-none (ConnectStarted reserved head) e k = refl
  reads-none (ResponseStarted accepts head) e k = refl
  reads-none AcceptanceFailed e k = refl
  reads-none HandshakeOver e k = refl
  reads-none (OpeningFailed id) e k = refl
  reads-none _ e k = absurd cc

  resets-none : (r : CallRecord) → is_unnoticed r ≡ true → (k : ℕ) → is_reset (Called r ∷ log) k ≡ is_reset log k
  resets-none Polled e k = refl
  resets-none (ConnectStarted reserved head) e k = refl
  resets-none (ResponseStarted accepts head) e k = refl
  resets-none AcceptanceFailed e k = refl
  resets-none HandshakeOver e k = refl
  resets-none (OpeningFailed id) e k = refl
  resets-none _ e k = absurd cc

  pub stays-same : (r : CallRecord) → is_unnoticed r ≡ true → (s : DriverState) → after_call r s ≡ s
  stays-same Polled e s = refl
  stays-same (ConnectStarted reserved head) e s = refl
  stays-same (ResponseStarted accepts head) e s = refl
  stays-same AcceptanceFailed e s = refl
  stays-same HandshakeOver e s = refl
  stays-same (OpeningFailed id) e s = refl
  stays-same _ e s = absurd cc

  pub may-come : (r : CallRecord) → is_unnoticed r ≡ true → Fits side log → Fits side (Called r ∷ log)
  may-come Polled e f = (tt, f)
  may-come (ConnectStarted reserved head) e f = (tt, f)
  may-come (ResponseStarted accepts head) e f = (tt, f)
  may-come AcceptanceFailed e f = (tt, f)
  may-come HandshakeOver e f = (tt, f)
  may-come (OpeningFailed id) e f = (tt, f)
  may-come _ e f = absurd cc

  stream-same : (r : CallRecord) → is_unnoticed r ≡ true → (position : ℕ → ReadPosition) (pieces : ℕ → List (List ℕ)) (k : ℕ) → stream_of (Called r ∷ log) position pieces k ≡ stream_of log position pieces k
  stream-same Polled e position pieces k = refl
  stream-same (ConnectStarted reserved head) e position pieces k = refl
  stream-same (ResponseStarted accepts head) e position pieces k = refl
  stream-same AcceptanceFailed e position pieces k = refl
  stream-same HandshakeOver e position pieces k = refl
  stream-same (OpeningFailed id) e position pieces k = refl
  stream-same _ e position pieces k = absurd cc

  module _ (r : CallRecord) (unnoticed : is_unnoticed r ≡ true) where
    abbrev g : Log
    g = Called r ∷ log

    quiet : (stream_count side log (peer_uni side) ≤ 2 ^ 60) × (stream_count side log (peer_bi side) ≤ 2 ^ 60) → Quiet side log g
    quiet few = record {
      contents_same = refl;
      there = λ k x. x;
      given_same = λ k. ap (λ b. b || list_any (gives_up k) (calls_of log)) (gives-none r unnoticed k);
      read_same = λ k. ap (λ n. n + total_read k (calls_of log)) (reads-none r unnoticed k) ∙ zero-add (total_read k (calls_of log));
      actions_same = refl;
      resets_same = resets-none r unnoticed;
      few = few;
    }

    same-refines : (t : TransportState) (position : ℕ → ReadPosition) (uncollected : List Action) → Refines side t log position uncollected → Refines side t g position uncollected
    same-refines t position uncollected x = record {
      pieces = x.pieces;
      facts = record {
        streams = λ k. subst (λ (s : Stream). IsStream side (stream_count side log) (initial_credit (all_events_of log)) k s) (sym (stream-same r unnoticed position x.pieces k)) (x.facts.streams k);
        unconnected = x.facts.unconnected;
        unallowed = x.facts.unallowed;
        open_same = x.facts.open_same;
      };
      holds = λ k. let h = x.holds k in record { bytes = h.bytes; filled = h.filled; within = h.within };
      state = x.state ∙ (λ i. record (transports.state_of side log position x.pieces uncollected) { streams = rows (λ k. sym (stream-same r unnoticed position x.pieces k) i) (stream_count side log) });
    }

    module _ (d : DriverNow) (uncollected : List Action) (f : Follows side d log uncollected) (laws : Fits side log) where
      abbrev s : DriverState
      s = state_of side log

      abbrev s_then : DriverState
      s_then = after_entry (transport_view side log) (Called r) s

      state-same : s_then ≡ s
      state-same = λ i. record (stays-same r unnoticed s i) { is_open = s.is_open }

      q : Quiet side log g
      q = quiet f.amid.work.there.few

      taken : Amid side d g s [] f.position uncollected
      taken = let a = f.amid in record {
        work = record {
          transport = same-refines d.work.transport f.position uncollected a.work.transport;
          is_open_same = a.work.is_open_same;
          keeps = a.work.keeps;
          roles = a.work.roles;
          placed = placed-stays side log g q s f.position a.work.placed;
          there = there-stays side log g q s a.work.there;
          sends = sending-stays side log g q s a.work.sends;
          control = a.work.control;
          sessions = a.work.sessions;
        };
        kinds = a.kinds;
        few = a.few;
        own = record { stream = a.own.stream; sent_same = a.own.sent_same; within = a.own.within };
        allowed = a.allowed;
        unis = a.unis;
        bis = a.bis;
        datagrams = a.datagrams;
        response = a.response;
      }

      -- at rest the moment of the record finds nothing
      module _ (opened : is_open log ≡ true) where
        abbrev came : Bool
        came = s.progress.settings

        rests : FindsNothing (transport_view side g) s came
        rests = let x = (f.rests opened).finds in record {
          unis = x.unis;
          bis = x.bis;
          datagrams = x.datagrams;
          sessions = x.sessions;
          unstopped = x.unstopped;
          control = x.control;
          encoder = x.encoder;
          decoder = x.decoder;
          going = x.going;
          idle = x.idle;
        }

        rests-then : FindsNothing (transport_view side g) s_then came
        rests-then = subst (λ z. FindsNothing (transport_view side g) z came) (sym state-same) rests

        open-then : s_then.is_open ≡ true
        open-then = ap (λ (z : DriverState). z.is_open) state-same ∙ (f.amid.work.is_open_same ∙ opened)

        state-is : state_of side g ≡ noted came s
        state-is = open-state side log (Called r) (may-come r unnoticed laws) refl came open-then rests-then ∙ ap (noted came) state-same

        noted-amid : Amid side d g (noted came s) [] f.position uncollected
        noted-amid =
            lifted side d g s [] f.position uncollected taken d.work (noted came s) [] f.position uncollected
            (dated-amid side d.work g s [] f.position uncollected taken.work s.dispatched.datagrams (noted came s).progress d.work.dispatched
            (keeps-progress d.work.dispatched s taken.work.keeps d.work.dispatched.fault (noted came s).progress refl taken.work.keeps.fault) (λ x. taken.work.control x) (λ x. taken.work.sessions x))
            (λ kind. refl) refl refl refl (λ x. x) (λ j e. refl) refl (λ c n. (n, refl))

        resting : Resting side d g f.position
        resting = let x = f.rests opened in record {
          finds = subst (λ (z : DriverState). FindsNothing (transport_view side g) z z.progress.settings) (sym state-is)
              (noted-finds (transport_view side g) s came came rests (λ e. e) (λ e. e));
          unis = x.unis;
          bis = x.bis;
          control = x.control;
          sessions = x.sessions;
          unready = x.unready;
          first_unis = λ e. ap (λ (z : DriverState). take 4 z.unis) state-is ∙ x.first_unis e;
          first_bis = λ e. ap (λ (z : DriverState). take 4 z.bis) state-is ∙ x.first_bis e;
        }

        open-follows : Follows side d (log_and_flush side log (Called r)) uncollected
        open-follows = subst (λ l. Follows side d l uncollected) (sym (open-alone side log (Called r) (may-come r unnoticed laws) refl came open-then rests-then)) (record {
          position = f.position;
          amid = subst (λ z. Amid side d g z [] f.position uncollected) (sym state-is) noted-amid;
          rests = λ e. resting;
        })

      closed-follows : is_open log ≡ false → Follows side d (log_and_flush side log (Called r)) uncollected
      closed-follows closed =
          let shut : s_then.is_open ≡ false = ap (λ (z : DriverState). z.is_open) state-same ∙ (f.amid.work.is_open_same ∙ closed) in
          subst (λ l. Follows side d l uncollected) (sym (closed-alone side log (Called r) (may-come r unnoticed laws) refl shut)) (record {
            position = f.position;
            amid = subst (λ z. Amid side d g z [] f.position uncollected) (sym (closed-state side log (Called r) (may-come r unnoticed laws) refl shut ∙ state-same)) taken;
            rests = λ e. absurd (true≢false (sym e ∙ closed));
          })

      -- the driver follows the log with the record, as it is
      pub unnoticed-follows : Follows side d (log_and_flush side log (Called r)) uncollected
      unnoticed-follows = by (is_open log) refl
        where
          by : (b : Bool) → is_open log ≡ b → Follows side d (log_and_flush side log (Called r)) uncollected
          by true e = open-follows e
          by false e = closed-follows e
