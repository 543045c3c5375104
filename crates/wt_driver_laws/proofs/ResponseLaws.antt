-- A client's call for the response, before its session: it says what came, and the driver then follows the same log.
use Rattle.std.proofs.Common.{◌∙◌, ◌≡◌, ap, subst, sym, true}
use Rattle.wt_driver_laws.proofs.Reach.{within_holds}
use Rattle.wt_driver_laws.specs.Calling.{Within}
use Rattle.wt_driver_laws.specs.Driving.{Follows, IsWithin, uncollected_since}
use Rattle.wt_driver_laws.specs.Handing.{IsDialling}
use Rattle.wt_driver_laws.specs.Sessions.{response_answer}
use Rattle.wt_follows.proofs.Begins.{none-established}
use Rattle.wt_follows.proofs.ResponseRead.{response-follows, response-says}
use Rattle.wt_follows.specs.Tie as tie
use Rattle.wt_kept.specs.Calling.{response_read}
use Rattle.wt_kept.specs.Kept.{DriverNow}
use Rattle.wt_meaning.specs.Lawful.{is_client}
use Rattle.wt_proto.specs.ResponseWalk.{response_walk_of}
use Rattle.wt_proto.specs.declared.response_walk.ResponseWalk.{ResponseWalk}
use Rattle.wt_turn.specs.Reports.{end_of}
use Rattle.wt_turn.specs.Streams.{contents, local_bi}
use Rattle.wt_sessions.proofs.Turns.{is_dialling}
use Rattle.wt_sessions.specs.DriverState.{state_of}
use Rattle.wt_turn.specs.Log.{Log, events_of}
use Rattle.wt_wire.specs.declared.side.Side.{Side}

-- a connect goes on before any session
before-any : (side : Side) (log : Log) → IsWithin side log → IsDialling log → tie.NoneEstablished (state_of side log)
before-any side log w dialling = none-established side log ((within_holds side log w).dialling (ap is_dialling dialling.state)).1

-- what it answers
pub response_walk_law : (a : ResponseWalk) (d : DriverNow) → a ≡ response_answer d
    → Within d (λ side log collected. is_client side ≡ true → IsDialling log → a ≡ response_walk_of (contents log (local_bi side)) (end_of (events_of log) (local_bi side)))
response_walk_law a d is side log collected f w client dialling = is ∙ response-says side d log (uncollected_since collected log) f.kept client (before-any side log w dialling)

-- the driver after it
pub response_log_law : (d later : DriverNow) → later ≡ response_read d → Within d (λ side log collected. is_client side ≡ true → IsDialling log → Follows side later log collected)
response_log_law d later is side log collected f w client dialling = record {
  kept = subst (λ (x : DriverNow). tie.Follows side x log (uncollected_since collected log)) (sym is) (response-follows side d log (uncollected_since collected log) f.kept client (before-any side log w dialling));
  within = f.within;
}
