-- A call accepts a stream of the peer's: what is given is the first that waits for the session, and the driver follows the log with the call.
use Rattle.std.proofs.Common.{◌%◌, ◌∙◌, ◌≡◌, ◌∷◌, Bool, List, None, Option, Some, [], ap, false, find, option_map, refl, subst, subst₂, sym, true, ℕ}
use Rattle.std.proofs.lemmas.Bool.{and_parts, eqb-true}
use Rattle.std.specs.Prelude.{◌&&◌, ◌==◌, unwrap_or, Result}
use Rattle.wt_driver_laws.proofs.AcceptFirst.{found-passes, next-stream-is, none-waits, streams-peers}
use Rattle.wt_driver_laws.proofs.Reach.{reached_holds}
use Rattle.wt_driver_laws.proofs.ReachRecords.{may_accept}
use Rattle.wt_driver_laws.proofs.ReachSessions.{established_lives, has_established}
use Rattle.wt_driver_laws.proofs.SessionEnds.{dispatched-of-state, session-result-is}
use Rattle.wt_driver_laws.proofs.TurnCollected.{follows-more}
use Rattle.wt_driver_laws.specs.Answering.{polled_by, session_result_now}
use Rattle.wt_driver_laws.specs.Calling.{Always}
use Rattle.wt_driver_laws.specs.Driving.{Follows, IsReachable, uncollected_since}
use Rattle.wt_driver_laws.specs.Ends.{session_end}
use Rattle.wt_driver_laws.specs.Given.{bi_of, given_or, next_stream_now, stream_accepted, uni_of}
use Rattle.wt_driver_laws.specs.Giving.{Accepts, GivesStream}
use Rattle.wt_driver_laws.specs.Having.{HasSession}
use Rattle.wt_driver_laws.specs.Replies.{IfGiven}
use Rattle.wt_follows.proofs.AcceptCall.{accept-follows}
use Rattle.wt_follows.proofs.Lists.{refuted}
use Rattle.wt_follows.proofs.RestingCall.{record-alone}
use Rattle.wt_follows.specs.Roles.{is_living}
use Rattle.wt_kept.specs.Arriving.{peer_kind}
use Rattle.wt_kept.specs.Calling.{on_sessions}
use Rattle.wt_kept.specs.Kept.{DriverNow}
use Rattle.wt_kept.specs.Windows.{given_stream, with_live}
use Rattle.wt_seam.specs.Typed.{StreamPair, Typed}
use Rattle.wt_seam.specs.declared.stream.BiRemoteWT.{BiRemoteWT}
use Rattle.wt_seam.specs.declared.stream.UniRemoteWT.{UniRemoteWT}
use Rattle.wt_transport.specs.declared.halves.QuicRecvStream.{QuicRecvStream}
use Rattle.wt_peer_streams.specs.Living.{stream_given}
use Rattle.wt_turn.specs.Streams.{peer_bi, peer_uni}
use Rattle.wt_sessions.proofs.Indexed.{all-found}
use Rattle.wt_sessions.proofs.Turns.{Holds}
use Rattle.wt_sessions.specs.Connection.{next_stream, waits_for}
use Rattle.wt_sessions.specs.Driver.{call_view, dispatched, is_session_gone}
use Rattle.wt_sessions.specs.DriverState.{state_of}
use Rattle.wt_sessions.specs.Effect.{log_call}
use Rattle.wt_sessions.specs.Moment.{is_known, is_peers}
use Rattle.wt_sessions.specs.StreamTable.{Dispatched, Waiting, was_established}
use Rattle.wt_turn.specs.Log.{Called, Log, StreamAccepted, actions_of}
use Rattle.wt_turn.specs.declared.driver_error.DriverError.{DriverError}
use Rattle.wt_turn.specs.declared.poll.Poll.{Poll}
use Rattle.wt_wire.specs.declared.side.Side.{Side}

-- ---- the stream that is given

module _ (side : Side) (d : DriverNow) (log : Log) (collected : ℕ) (f : Follows side d log collected) (reached : IsReachable side log) (s : ℕ) (established : was_established (call_view log) s ≡ true) where
  held : Holds side log
  held = reached_holds side log reached

  module _ (b : Bool) (w : Waiting) (next : next_stream side log (peer_kind side b) s ≡ Some w) where
    abbrev streams : List Waiting
    streams = (dispatched side log).streams

    test-holds : ((w.id % 4 == peer_kind side b) && (w.session == s)) ≡ true
    test-holds = found-passes (waits_for (peer_kind side b) s) w streams next

    its : w.session ≡ s
    its = eqb-true w.session s (and_parts (w.id % 4 == peer_kind side b) (w.session == s) test-holds).1

    peers : is_peers side w.id ≡ true
    peers = all-found (λ (x : Waiting). is_peers side x.id ≡ true) (waits_for (peer_kind side b) s) w streams (streams-peers side d log collected f s) next

    known : is_known side log w.id ≡ true
    known = may_accept side log reached (peer_kind side b) s w next

    remains : is_session_gone side log s ≡ false
    remains = refuted (is_session_gone side log s) (λ e. absurd (let none : Some w ≡ None = sym next ∙ none-waits side log (peer_kind side b) s e in cc))

    lives : is_living (state_of side log) s ≡ true
    lives = established_lives side log s established remains

    found : find (waits_for (peer_kind side b) s) (state_of side log).dispatched.streams ≡ Some w
    found = ap (λ (x : Dispatched). find (waits_for (peer_kind side b) s) x.streams) (dispatched-of-state side log) ∙ next

    -- nothing goes out with it
    alone : log_call side log [] (StreamAccepted w.id s) ≡ Called (StreamAccepted w.id s) ∷ log
    alone = record-alone side log (StreamAccepted w.id s) d (uncollected_since collected log) f.kept (known, held.fits)
        (record { unis = refl; bis = refl; sessions = refl; control = refl; encoder = refl; decoder = refl; progress = refl; sent = refl; is_open = refl })

    pub stream-given-follows : Follows side (on_sessions (with_live (given_stream w.id) s) d) (log_call side log [] (StreamAccepted w.id s)) collected
    stream-given-follows = follows-more side d (on_sessions (with_live (given_stream w.id) s) d) log (log_call side log [] (StreamAccepted w.id s)) collected [] f (ap actions_of alone)
        (accept-follows side d log (uncollected_since collected log) f.kept held.fits s lives (waits_for (peer_kind side b) s) w found its peers known)

-- ---- the calls

module _ {T : Type 0} (b : Bool) (s : ℕ) (d : DriverNow) (make : ℕ → T) (id : T → ℕ) (same : (k : ℕ) → id (make k) ≡ k) where
  -- an accept of a kind
  accepts : Always d (λ side log collected. HasSession s side log
      → Accepts id (peer_kind side b) side log collected s d (stream_accepted b s d) (given_or (option_map make (next_stream_now b s d)) (session_result_now s d)))
  accepts side log collected f reached has = by (next_stream_now b s d) next-is
    where
      established : was_established (call_view log) s ≡ true
      established = has_established side log s has

      next-is : option_map (λ (w : Waiting). w.id) (next_stream side log (peer_kind side b) s) ≡ next_stream_now b s d
      next-is = next-stream-is side d log collected f s b established

      none : (o : Option Waiting) → option_map (λ (w : Waiting). w.id) o ≡ None → o ≡ None
      none None e = refl
      none (Some w) e = absurd cc

      nothing : next_stream side log (peer_kind side b) s ≡ None → (r : Option DriverError) → session_end side log s ≡ r
          → Accepts id (peer_kind side b) side log collected s d (on_sessions (stream_given s None) d) (polled_by r)
      nothing n None e = record { none = n; nothing = record { same = refl; says = e } }
      nothing n (Some error) e = record { none = n; nothing = record { same = refl; says = e } }

      gives : (k : ℕ) (o : Option Waiting) → next_stream side log (peer_kind side b) s ≡ o → option_map (λ (w : Waiting). w.id) o ≡ Some k
          → GivesStream (peer_kind side b) side log collected s (on_sessions (stream_given s (Some k)) d) (id (make k))
      gives k None n e = absurd cc
      gives k (Some w) n e =
          let its : w.id ≡ k = ap (λ (o : Option ℕ). unwrap_or o w.id) e in
          record {
            waiting = w;
            next = n;
            is = its ∙ sym (same k);
            follows = subst (λ (j : ℕ). Follows side (on_sessions (with_live (given_stream j) s) d) (log_call side log [] (StreamAccepted w.id s)) collected) its
                (stream-given-follows side d log collected f reached s established b w n);
          }

      by : (o : Option ℕ) → option_map (λ (w : Waiting). w.id) (next_stream side log (peer_kind side b) s) ≡ o
          → Accepts id (peer_kind side b) side log collected s d (on_sessions (stream_given s o) d) (given_or (option_map make o) (session_result_now s d))
      by None e = nothing (none (next_stream side log (peer_kind side b) s) e) (session_result_now s d) (sym (session-result-is side d log collected f s established))
      by (Some k) e = gives k (next_stream side log (peer_kind side b) s) refl e

-- a unidirectional stream
pub accept_uni_law : (s : ℕ) (a : Poll (Result (Typed QuicRecvStream UniRemoteWT) DriverError)) (d later : DriverNow)
    → a ≡ given_or (option_map (uni_of s) (next_stream_now false s d)) (session_result_now s d) → later ≡ stream_accepted false s d
    → Always d (λ side log collected. HasSession s side log → Accepts (λ (stream : Typed QuicRecvStream UniRemoteWT). stream.halves.id) (peer_uni side) side log collected s d later a)
accept_uni_law s a d later says step side log collected f reached has =
    subst₂ (λ (x : DriverNow) (y : Poll (Result (Typed QuicRecvStream UniRemoteWT) DriverError)). Accepts (λ (stream : Typed QuicRecvStream UniRemoteWT). stream.halves.id) (peer_uni side) side log collected s d x y)
    (sym step) (sym says) (accepts false s d (uni_of s) (λ (stream : Typed QuicRecvStream UniRemoteWT). stream.halves.id) (λ k. refl) side log collected f reached has)

-- a bidirectional one
pub accept_bi_law : (s : ℕ) (a : Poll (Result (Typed StreamPair BiRemoteWT) DriverError)) (d later : DriverNow)
    → a ≡ given_or (option_map (bi_of s) (next_stream_now true s d)) (session_result_now s d) → later ≡ stream_accepted true s d
    → Always d (λ side log collected. HasSession s side log → Accepts (λ (stream : Typed StreamPair BiRemoteWT). stream.halves.0.id) (peer_bi side) side log collected s d later a)
accept_bi_law s a d later says step side log collected f reached has =
    subst₂ (λ (x : DriverNow) (y : Poll (Result (Typed StreamPair BiRemoteWT) DriverError)). Accepts (λ (stream : Typed StreamPair BiRemoteWT). stream.halves.0.id) (peer_bi side) side log collected s d x y)
    (sym step) (sym says) (accepts true s d (bi_of s) (λ (stream : Typed StreamPair BiRemoteWT). stream.halves.0.id) (λ k. refl) side log collected f reached has)

-- of a bidirectional one both halves are the same stream's
pub accepted_halves_law : (s : ℕ) (a : Poll (Result (Typed StreamPair BiRemoteWT) DriverError)) (d : DriverNow)
    → a ≡ given_or (option_map (bi_of s) (next_stream_now true s d)) (session_result_now s d) → IfGiven a (λ (stream : Typed StreamPair BiRemoteWT). stream.halves.1.id ≡ stream.halves.0.id)
accepted_halves_law s a d says =
    subst (λ (y : Poll (Result (Typed StreamPair BiRemoteWT) DriverError)). IfGiven y (λ (stream : Typed StreamPair BiRemoteWT). stream.halves.1.id ≡ stream.halves.0.id)) (sym says) (by (next_stream_now true s d) (session_result_now s d))
  where
    by : (o : Option ℕ) (r : Option DriverError) → IfGiven (given_or (option_map (bi_of s) o) r) (λ (stream : Typed StreamPair BiRemoteWT). stream.halves.1.id ≡ stream.halves.0.id)
    by (Some k) r = refl
    by None None = tt
    by None (Some error) = tt
