use Rattle.std.proofs.Common.{◌∙◌, ap, sym}
use Rattle.wt_kept.specs.Kept.{DriverNow}
use Rattle.wt_transport.specs.Step.{fits_now}
use Rattle.wt_driver_laws.proofs.CountWithin.{piece_steps, still_steps}
use Rattle.wt_driver_laws.proofs.PieceLaws.{turn_pieces}
use Rattle.wt_driver.proofs.Counted.{turn-counted}
use Rattle.wt_driver_laws.proofs.TurnLaws.{turn_law}
use Rattle.wt_driver.proofs.Parts.{turn-bytes, turn-moment, turn-not, turn-over}
use Rattle.wt_driver.proofs.Steps.{ok-then}
use Rattle.wt_driver.proofs.driver.Driver.turn.Goals as goal

pub returns-then-not-fits-clause-driver : goal.returns-then-not-fits-clause-driver
returns-then-not-fits-clause-driver g c =
    turn-not c.args.turn.now c.args.self.now
    (sym (ap (λ (d : DriverNow). fits_now d.work.transport c.args.turn.now) c.self.view_is) ∙ (sym c.fits.ensures.now ∙ c.if-not-fits.true))

pub returns-then-not-is_open-clause-driver : goal.returns-then-not-is_open-clause-driver
returns-then-not-is_open-clause-driver g c = ok-then c.take.result (λ e. turn-over c.self.view_is c.args.turn.now c.take.new.self (sym c.fits.ensures.now ∙ c.if-not-fits.false) (sym c.is_open.ensures.now ∙ c.if-not-is_open.true) e) c.take.ensures.now

pub returns-in-Bytes-clause-driver : goal.returns-in-Bytes-clause-driver
returns-in-Bytes-clause-driver g c =
    ok-then c.take_bytes.result (λ e. turn-bytes c.args.turn.now c.args.self.now c.take_bytes.new.self _ _ _ (sym (ap (λ (d : DriverNow). fits_now d.work.transport c.args.turn.now) c.self.view_is) ∙ (sym c.fits.ensures.now ∙ c.if-not-fits.false)) (sym (ap (λ (d : DriverNow). d.work.transport.is_open) c.self.view_is) ∙ (sym c.is_open.ensures.now ∙ c.if-not-is_open.false)) c.in-Bytes.is c.as_slice.ensures e) c.take_bytes.ensures.driver

pub returns-clause-driver : goal.returns-clause-driver
returns-clause-driver g c =
    ok-then c.moment.result
    (λ e. turn-moment c.self.view_is c.args.turn.now c.take-2.new.self c.queue_datagram.new.self c.moment.new.self (sym c.fits.ensures.now ∙ c.if-not-fits.false) (sym c.is_open.ensures.now ∙ c.if-not-is_open.false) c.in_default.not-Bytes c.in_ok-take.ensures.now c.in_ok-queue_datagram.ensures e)
    c.moment.ensures.driver

pub returns-then-not-fits-clause-log : goal.returns-then-not-fits-clause-log
returns-then-not-fits-clause-log g c = turn_law c.args.turn.now c.args.self.now _ (returns-then-not-fits-clause-driver g c)

pub returns-then-not-fits-clause-pieces : goal.returns-then-not-fits-clause-pieces
returns-then-not-fits-clause-pieces g c = turn_pieces c.args.turn.now c.args.self.now _ (returns-then-not-fits-clause-driver g c)

pub returns-then-not-is_open-clause-log : goal.returns-then-not-is_open-clause-log
returns-then-not-is_open-clause-log g c = ok-then c.take.result (λ e. turn_law c.args.turn.now c.args.self.now _ e) (returns-then-not-is_open-clause-driver g c)

pub returns-then-not-is_open-clause-pieces : goal.returns-then-not-is_open-clause-pieces
returns-then-not-is_open-clause-pieces g c = ok-then c.take.result (λ e. turn_pieces c.args.turn.now c.args.self.now _ e) (returns-then-not-is_open-clause-driver g c)

pub returns-in-Bytes-clause-log : goal.returns-in-Bytes-clause-log
returns-in-Bytes-clause-log g c = ok-then c.take_bytes.result (λ e. turn_law c.args.turn.now c.args.self.now _ e) (returns-in-Bytes-clause-driver g c)

pub returns-in-Bytes-clause-pieces : goal.returns-in-Bytes-clause-pieces
returns-in-Bytes-clause-pieces g c = ok-then c.take_bytes.result (λ e. turn_pieces c.args.turn.now c.args.self.now _ e) (returns-in-Bytes-clause-driver g c)

pub returns-clause-log : goal.returns-clause-log
returns-clause-log g c = ok-then c.moment.result (λ e. turn_law c.args.turn.now c.args.self.now _ e) (returns-clause-driver g c)

pub returns-clause-pieces : goal.returns-clause-pieces
returns-clause-pieces g c = ok-then c.moment.result (λ e. turn_pieces c.args.turn.now c.args.self.now _ e) (returns-clause-driver g c)

pub returns-then-not-fits-clause-steps : goal.returns-then-not-fits-clause-steps
returns-then-not-fits-clause-steps g c = still_steps c.args.self.now c.args.steps.now

pub returns-then-not-is_open-clause-steps : goal.returns-then-not-is_open-clause-steps
returns-then-not-is_open-clause-steps g c = ok-then c.take.result (λ e. still_steps c.args.self.now c.args.steps.now) c.take.ensures.now

pub returns-in-Bytes-clause-steps : goal.returns-in-Bytes-clause-steps
returns-in-Bytes-clause-steps g c = ok-then c.take_bytes.result (λ counted. piece_steps c.args.self.now c.args.steps.now c.take_bytes.new.steps counted) c.take_bytes.ensures.steps

pub returns-clause-steps : goal.returns-clause-steps
returns-clause-steps g c =
    ok-then c.moment.result
    (λ counted. turn-counted c.self.view_is c.args.turn.now c.take-2.new.self c.queue_datagram.new.self c.args.steps.now c.moment.new.steps (sym c.fits.ensures.now ∙ c.if-not-fits.false) (sym c.is_open.ensures.now ∙ c.if-not-is_open.false) c.in_default.not-Bytes c.in_ok-take.ensures.now c.in_ok-queue_datagram.ensures _ counted)
    c.moment.ensures.steps
