-- A session's application begins to open a stream: what is answered is as the log says, and the driver follows the log with it.
use Rattle.std.proofs.Common.{◌≡◌, Bool, None, Option, Some, false, find, refl, subst, sym, true, ℕ}
use Rattle.std.specs.Prelude.{Result, if◌then◌else◌}
use Rattle.wt_driver_laws.proofs.OpenBegins.{opening-follows}
use Rattle.wt_driver_laws.proofs.OpenLives.{gone-now}
use Rattle.wt_driver_laws.proofs.Reach.{reached_fits}
use Rattle.wt_driver_laws.proofs.ReachSessions.{established_lives, has_established}
use Rattle.wt_driver_laws.proofs.SessionEnds.{session_result_law}
use Rattle.wt_driver_laws.specs.Calling.{Always}
use Rattle.wt_driver_laws.specs.Driving.{Follows, IsReachable, uncollected_since}
use Rattle.wt_driver_laws.specs.Ends.{connection_end, end_of_session, opening_end}
use Rattle.wt_driver_laws.specs.Giving.{Opens}
use Rattle.wt_driver_laws.specs.Having.{HasSession, IsNewOpening, OpeningStream}
use Rattle.wt_driver_laws.specs.Opening.{OpensNow, opening_error_now, opens_if_allowed, opens_now, opens_unless}
use Rattle.wt_driver_laws.specs.Replies.{IfGiven}
use Rattle.wt_follows.specs.Roles.{is_living}
use Rattle.wt_kept.specs.Kept.{DriverNow}
use Rattle.wt_transport.proofs.Refining.{refined_bi, refined_open, refined_uni}
use Rattle.wt_transport.specs.Kind.{local_kind}
use Rattle.wt_transport.specs.State.{TransportState}
use Rattle.wt_transport.specs.Step.{after_opening, may_open_now, next_id_now, opened_id_now, with_action, with_new_stream}
use Rattle.wt_turn.specs.Outgoing.{may_open, next_id, opened_id}
use Rattle.wt_turn.specs.Streams.{local_bi, local_uni}
use Rattle.wt_sessions.specs.Driver.{is_session_gone, stream_table}
use Rattle.wt_sessions.specs.DriverState.{state_of}
use Rattle.wt_sessions.specs.StreamTable.{Closed, is_closed}
use Rattle.wt_turn.specs.Log.{Log, is_open}
use Rattle.wt_turn.specs.declared.action.Action.TheVariants as actions
use Rattle.wt_turn.specs.declared.driver_error.DriverError.{DriverError}
use Rattle.wt_turn.specs.declared.driver_error.DriverError.TheVariants as errors
use Rattle.wt_turn.specs.declared.poll.Poll.{Poll}
use Rattle.wt_wire.specs.declared.side.Side.{Side}

-- a session that opens a stream isn't gone
no-end : (gone : Bool) (closed : Option Closed) (end rest : Option DriverError) → (if gone then end_of_session end gone closed else rest) ≡ None → gone ≡ false
no-end true (Some closed) end rest e = absurd cc
no-end true None end rest e = absurd cc
no-end false closed end rest e = refl

module _ (bidirectional : Bool) (s : ℕ) (d : DriverNow) (side : Side) (log : Log) (collected : ℕ) (f : Follows side d log collected) (reached : IsReachable side log) (has : HasSession s side log) where
  abbrev kind : ℕ
  kind = local_kind bidirectional side

  abbrev kind_now : ℕ
  kind_now = local_kind bidirectional d.work.transport.side

  -- why it opens none
  pub opening-error : opening_error_now s d ≡ opening_end side log s
  opening-error = λ i. if gone-now side d log (uncollected_since collected log) f.kept s (has_established side log s has) i then session_result_law s d side log collected f reached has i
      else (if refined_open side d.work.transport log f.kept.position (uncollected_since collected log) f.kept.amid.work.transport i then None else Some errors.NotConnected)

  opened-id : opened_id_now d.work.transport kind_now ≡ opened_id side log kind
  opened-id = by bidirectional
    where
      by : (b : Bool) → opened_id_now d.work.transport (local_kind b d.work.transport.side) ≡ opened_id side log (local_kind b side)
      by true = refined_bi side d.work.transport log f.kept.position (uncollected_since collected log) f.kept.amid.work.transport
      by false = refined_uni side d.work.transport log f.kept.position (uncollected_since collected log) f.kept.amid.work.transport

  lives : opening_end side log s ≡ None → is_living (state_of side log) s ≡ true
  lives goes = established_lives side log s (has_established side log s has)
      (no-end (is_session_gone side log s) (find (is_closed s) (stream_table side log).closed) (connection_end side log) (if is_open log then None else Some errors.NotConnected) goes)

  allowed : opening_end side log s ≡ None → (b : Bool) → may_open side log kind ≡ b → let o : Option ℕ = (if b then Some (next_id side log kind) else None) in
      Opens kind side log collected s d (opens_if_allowed kind_now s o d).driver (opens_if_allowed kind_now s o d).answer
  allowed goes true may = record { goes_on = goes; may = may; is = refl; follows = opening-follows side d log collected f (reached_fits side log reached) bidirectional may s (lives goes) }
  allowed goes false may = record { goes_on = goes; may = may; same = refl }

  unless : (o : Option DriverError) → opening_end side log s ≡ o → Opens kind side log collected s d (opens_unless kind_now s o d).driver (opens_unless kind_now s o d).answer
  unless (Some e) ended = record { ended = ended; same = refl }
  unless None goes = subst (λ (o : Option ℕ). Opens kind side log collected s d (opens_if_allowed kind_now s o d).driver (opens_if_allowed kind_now s o d).answer) (sym opened-id)
      (allowed goes (may_open side log kind) refl)

  pub opens : Opens (local_kind bidirectional side) side log collected s d (opens_now bidirectional s d).driver (opens_now bidirectional s d).answer
  opens = subst (λ (o : Option DriverError). Opens kind side log collected s d (opens_unless kind_now s o d).driver (opens_unless kind_now s o d).answer) (sym opening-error)
      (unless (opening_end side log s) refl)

-- ---- the calls

-- a unidirectional stream
pub open_uni_law : (s : ℕ) (a : Poll (Result OpeningStream DriverError)) (d later : DriverNow) → record { answer = a; driver = later } ≡ opens_now false s d
    → Always d (λ side log collected. HasSession s side log → Opens (local_uni side) side log collected s d later a)
open_uni_law s a d later is side log collected f reached has =
    subst (λ (x : OpensNow). Opens (local_uni side) side log collected s d x.driver x.answer) (sym is) (opens false s d side log collected f reached has)

-- a bidirectional one
pub open_bi_law : (s : ℕ) (a : Poll (Result OpeningStream DriverError)) (d later : DriverNow) → record { answer = a; driver = later } ≡ opens_now true s d
    → Always d (λ side log collected. HasSession s side log → Opens (local_bi side) side log collected s d later a)
open_bi_law s a d later is side log collected f reached has =
    subst (λ (x : OpensNow). Opens (local_bi side) side log collected s d x.driver x.answer) (sym is) (opens true s d side log collected f reached has)

-- what is given is a new opening of the session
pub opens_new_law : (bidirectional : Bool) (s : ℕ) (a : Poll (Result OpeningStream DriverError)) (d later : DriverNow) → record { answer = a; driver = later } ≡ opens_now bidirectional s d → IfGiven a (IsNewOpening s)
opens_new_law bidirectional s a d later is = subst (λ (x : OpensNow). IfGiven x.answer (IsNewOpening s)) (sym is) (by-error (opening_error_now s d))
  where
    by-id : (k : ℕ) (o : Option ℕ) → IfGiven (opens_if_allowed k s o d).answer (IsNewOpening s)
    by-id k None = tt
    by-id k (Some id) = record { session = refl; left = refl }

    by-error : (o : Option DriverError) → IfGiven (opens_unless (local_kind bidirectional d.work.transport.side) s o d).answer (IsNewOpening s)
    by-error (Some e) = tt
    by-error None = by-id (local_kind bidirectional d.work.transport.side) (opened_id_now d.work.transport (local_kind bidirectional d.work.transport.side))

-- where none may be opened the transport stays as it was
pub unopened_law : (t : TransportState) (kind : ℕ) → opened_id_now t kind ≡ None → after_opening t kind ≡ t
unopened_law t kind e = by (may_open_now t kind) e
  where
    by : (b : Bool) → (if b then Some (next_id_now t kind) else None) ≡ None → (if b then with_action (with_new_stream t kind) (actions.Opened (next_id_now t kind)) else t) ≡ t
    by true f = absurd cc
    by false f = refl
