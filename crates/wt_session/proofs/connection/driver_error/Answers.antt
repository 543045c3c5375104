use Rattle.std.proofs.Common.{◌∙◌, ap, sym}
use Rattle.wt_sessions.specs.Effect.{error_of_fault}
use Rattle.wt_turn.specs.declared.connection_error.ConnectionError.TheVariants as errors
use Rattle.wt_session.proofs.connection.driver_error.Goals as goal

pub returns-in-None : goal.returns-in-None
returns-in-None c side log collected f = rw (sym (c.fault.ensures.log side log collected f) ∙ c.in-None.is) (c.transport_error.ensures side log collected f)

pub returns-in-Some : goal.returns-in-Some
returns-in-Some c side log collected f = ap errors.LocalH3Error c.new.ensures ∙ ap (error_of_fault log) (sym c.in-Some.is ∙ c.fault.ensures.log side log collected f)
