-- A session begins: where the connection is open it lives from now on, and the driver follows the log with the call's record and its moment.
use Rattle.std.proofs.Common.{◌∙◌, ◌≡◌, ◌∷◌, Bool, List, None, Option, Some, [], ap, false, refl, subst, subst₂, sym, true, ℕ}
use Rattle.std.specs.List.{list_any}
use Rattle.std.specs.Prelude.{◌&&◌, Result, if◌then◌else◌}
use Rattle.wt_driver_laws.proofs.Reach.{within_holds}
use Rattle.wt_driver_laws.proofs.RegisterBegins.{register_begins}
use Rattle.wt_driver_laws.proofs.SessionEnds.{open-same, result_law}
use Rattle.wt_driver_laws.proofs.TurnCollected.{follows-more}
use Rattle.wt_driver_laws.specs.Calling.{Within}
use Rattle.wt_driver_laws.specs.Driving.{Follows, IsWithin, uncollected_since}
use Rattle.wt_driver_laws.specs.Ends.{end_by}
use Rattle.wt_driver_laws.specs.Handing.{Begins, BeginsSession, MayBegin}
use Rattle.wt_driver_laws.specs.Sessions.{registered_said, unless_ended}
use Rattle.wt_follows.proofs.PutFollows.{actions-with}
use Rattle.wt_follows.proofs.Registers.{register-follows, register_sends}
use Rattle.wt_kept.specs.Calling.{may_register, on_sessions, register_now, response_over}
use Rattle.wt_kept.specs.Kept.{DriverNow}
use Rattle.wt_kept.specs.Moment.{moment_now}
use Rattle.wt_kept.specs.Windows.{establish_now}
use Rattle.wt_meaning.specs.Lawful.{is_client}
use Rattle.wt_turn.specs.Joined.{newest_first}
use Rattle.wt_turn.specs.Streams.{local_bi}
use Rattle.wt_sessions.proofs.LogFollows.{log-sends}
use Rattle.wt_sessions.proofs.Turns.{Holds, delivered-known, own-known}
use Rattle.wt_sessions.specs.Driver.{stream_table}
use Rattle.wt_sessions.specs.Effect.{log_call}
use Rattle.wt_sessions.specs.Moment.{MayRecord, is_peers}
use Rattle.wt_sessions.specs.StreamTable.{Session, is_session}
use Rattle.wt_turn.specs.Log.{Called, Log, SessionEstablished, actions_of, is_open}
use Rattle.wt_turn.specs.declared.action.Action.{Action}
use Rattle.wt_turn.specs.declared.driver_error.DriverError.{DriverError}
use Rattle.wt_wire.specs.declared.side.Side.{Side}
use Rattle.wt_wire.specs.declared.side.Side.TheVariants.{Client, Server}

-- this end opens a client's request stream itself
own-request : (side : Side) → is_peers side (local_bi side) ≡ false
own-request Client = refl
own-request Server = refl

-- the record may follow
may-record : (side : Side) (log : Log) (s offset : ℕ) → Holds side log → (b : Bool) → MayBegin b side log s offset → MayRecord side log (SessionEstablished s offset)
may-record side log s offset held false may = (delivered-known side log held s may.0, may.1)
may-record side log s offset held true may =
    (own-known side log held s (ap (is_peers side) may.0 ∙ own-request side), ap (λ (xs : List Session). list_any (is_session s) xs) may.1)

module _ (side : Side) (d : DriverNow) (log : Log) (collected : ℕ) (f : Follows side d log collected) (within : IsWithin side log) (s offset : ℕ) (may : MayBegin (is_client side) side log s offset) where
  held : Holds side log
  held = within_holds side log within

  module _ (opened : is_open log ≡ true) where
    -- what goes out at the moment of the record
    abbrev sent : List Action
    sent = register_sends side d log (uncollected_since collected log) f.kept held.fits opened s offset

    sends : actions_of (log_call side log [] (SessionEstablished s offset)) ≡ newest_first sent (actions_of log)
    sends = ap actions_of (log-sends side log (Called (SessionEstablished s offset)) (may-record side log s offset held (is_client side) may, held.fits))
        ∙ actions-with sent (Called (SessionEstablished s offset) ∷ log)

    begins : BeginsSession side log collected s offset (register_now s d)
    begins = record {
      is_open = opened;
      follows = follows-more side d (register_now s d) log (log_call side log [] (SessionEstablished s offset)) collected sent f sends
          (register-follows side d log (uncollected_since collected log) f.kept held.fits opened s offset (register_begins side log s offset within opened may));
    }

  -- after the connection's end nothing changes
  closed-as-it-is : is_open log ≡ false → register_now s d ≡ d
  unfolding register_now
  closed-as-it-is shut = λ i. if (open-same side d log collected f ∙ shut) i && may_register s d then moment_now (on_sessions (establish_now s) (response_over d.work.transport.side d)) else d

  registers : Begins side log collected s offset d (register_now s d) (registered_said d)
  registers = subst (λ (o : Option DriverError). Begins side log collected s offset d (register_now s d) (unless_ended o)) (sym (result_law side d log collected f)) (by (is_open log) refl)
    where
      by : (b : Bool) → is_open log ≡ b → Begins side log collected s offset d (register_now s d) (unless_ended (if b then None else Some (end_by (stream_table side log).progress.fault)))
      by true e = begins e
      by false e = (e, closed-as-it-is e)

-- ---- the call

pub register_law : (s : ℕ) (a : Result (Unit {0}) DriverError) (d later : DriverNow) → a ≡ registered_said d → later ≡ register_now s d
    → Within d (λ side log collected. (offset : ℕ) → MayBegin (is_client side) side log s offset → Begins side log collected s offset d later a)
register_law s a d later says step side log collected f within offset may =
    subst₂ (λ (x : DriverNow) (y : Result (Unit {0}) DriverError). Begins side log collected s offset d x y) (sym step) (sym says) (registers side d log collected f within s offset may)
