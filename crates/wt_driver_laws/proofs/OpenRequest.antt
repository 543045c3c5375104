-- The stream for a client's request is opened: what is answered is as the log says, and the driver follows the log with what goes out.
use Rattle.std.proofs.Common.{◌*◌, ◌+◌, ◌∙◌, ◌≡◌, Bool, None, Option, Some, ap, arith, false, refl, subst, sym, true, ℕ}
use Rattle.std.specs.Prelude.{◌%◌, ◌==◌, Err, Ok, Result, if◌then◌else◌}
use Rattle.wt_driver_laws.proofs.OpenBegins.{opened-follows}
use Rattle.wt_driver_laws.proofs.OpenLaws.{unopened_law}
use Rattle.wt_driver_laws.proofs.Reach.{reached_fits}
use Rattle.wt_driver_laws.specs.Calling.{Always}
use Rattle.wt_driver_laws.specs.Driving.{Follows, uncollected_since}
use Rattle.wt_driver_laws.specs.Opening.{OpensBy, SessionOpened, session_opened_now}
use Rattle.wt_driver_laws.specs.Passing.{on_transport}
use Rattle.wt_kept.specs.Kept.{DriverNow}
use Rattle.wt_meaning.specs.Lawful.{is_client}
use Rattle.wt_transport.proofs.Refining.{refined_bi, refined_open}
use Rattle.wt_transport.specs.State.{TransportState}
use Rattle.wt_transport.specs.Step.{after_opening, opened_id_now}
use Rattle.wt_turn.specs.Outgoing.{may_open, next_id, opened_id}
use Rattle.wt_turn.specs.Streams.{local_bi, stream_count}
use Rattle.wt_sessions.specs.Moment.{Fits}
use Rattle.wt_turn.specs.Log.{Log, is_open}
use Rattle.wt_turn.specs.declared.driver_error.DriverError.{DriverError}
use Rattle.wt_turn.specs.declared.driver_error.DriverError.TheVariants as errors
use Rattle.wt_wire.specs.HeaderList.{Fields}
use Rattle.wt_wire.specs.declared.side.Side.{Side}
use Rattle.wt_wire.specs.declared.side.Side.TheVariants.{Client, Server}

-- a client's stream is a session's
on-session : (side : Side) (count : ℕ) → is_client side ≡ true → ((4 * count + local_bi side) % 4 == 0) ≡ true
on-session Client count e = let low : (4 * count + 0) % 4 ≡ 0 = omega arith in ap (λ (n : ℕ). n == 0) low
on-session Server count e = absurd cc

module _ (request : Fields) (d : DriverNow) (side : Side) (log : Log) (collected : ℕ) (f : Follows side d log collected) (fits : Fits side log) where
  abbrev t : TransportState
  t = d.work.transport

  abbrev kind : ℕ
  kind = local_bi side

  -- the driver, whose transport opened one if it may
  abbrev opened : DriverNow
  opened = on_transport (λ (x : TransportState). after_opening x (local_bi x.side)) d

  abbrev By : Option ℕ → Type 0
  By o = OpensBy side log collected d opened request (Ok o)

  opened-id : opened_id_now t (local_bi t.side) ≡ opened_id side log kind
  opened-id = refined_bi side t log f.kept.position (uncollected_since collected log) f.kept.amid.work.transport

  open-by : is_open log ≡ true → (b : Bool) → may_open side log kind ≡ b → By (if b then Some (next_id side log kind) else None)
  open-by o true may = (on-session side (stream_count side log kind), λ stream is. record { is_open = o; may = may; is = is; follows = opened-follows side d log collected f fits true may })
  open-by o false may = record {
    is_open = o;
    may = may;
    same = ap (λ (x : TransportState). record d { work = record d.work { transport = x } })
        (unopened_law t (local_bi t.side) (opened-id ∙ ap (λ (b : Bool). if b then Some (next_id side log kind) else None) may));
  }

  by : (b : Bool) → is_open log ≡ b → let x : SessionOpened = (if b then record { answer = Ok (opened_id_now t (local_bi t.side)); driver = opened } else record { answer = Err errors.NotConnected; driver = d }) in
      OpensBy side log collected d x.driver request x.answer
  by true o = subst (λ (x : Option ℕ). By x) (sym opened-id) (open-by o (may_open side log kind) refl)
  by false o = record { is_open = o; says = refl; same = refl }

  pub opens-request : OpensBy side log collected d (session_opened_now d).driver request (session_opened_now d).answer
  opens-request = subst (λ (b : Bool). let x : SessionOpened = (if b then record { answer = Ok (opened_id_now t (local_bi t.side)); driver = opened } else record { answer = Err errors.NotConnected; driver = d }) in
      OpensBy side log collected d x.driver request x.answer) (sym (refined_open side t log f.kept.position (uncollected_since collected log) f.kept.amid.work.transport)) (by (is_open log) refl)

-- the stream for a request is opened, or none may be yet, or the connection isn't open
pub open_session_law : (request : Fields) (a : Result (Option ℕ) DriverError) (d later : DriverNow) → record { answer = a; driver = later } ≡ session_opened_now d
    → Always d (λ side log collected. OpensBy side log collected d later request a)
open_session_law request a d later is side log collected f reached =
    subst (λ (x : SessionOpened). OpensBy side log collected d x.driver request x.answer) (sym is) (opens-request request d side log collected f (reached_fits side log reached))
