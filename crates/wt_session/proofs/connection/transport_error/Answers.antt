use Rattle.std.proofs.Common.{◌∙◌, ap, sym}
use Rattle.std.specs.Option.{option_copied}
use Rattle.wt_meaning.specs.Handshakes.{loss_error}
use Rattle.wt_turn.specs.ProtoError.{error_of_loss}
use Rattle.wt_session.proofs.connection.transport_error.Goals as goal

pub returns-in_ok-copy-in-Some : goal.returns-in_ok-copy-in-Some
returns-in_ok-copy-in-Some c side log collected f =
    c.from.ensures ∙ ap error_of_loss c.in_ok-copy-in-Some.ensures ∙ ap loss_error (ap option_copied (sym c.in-Some.is) ∙ c.loss.ensures.log side log collected f)

pub returns-in-None : goal.returns-in-None
returns-in-None c side log collected f = ap loss_error (ap option_copied (sym c.in-None.is) ∙ c.loss.ensures.log side log collected f)
