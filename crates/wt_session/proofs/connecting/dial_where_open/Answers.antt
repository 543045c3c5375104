use Rattle.std.proofs.Common.{◌∙◌, ap, sym}
use Rattle.std.proofs.lemmas.Bool.{true≢false}
use Rattle.wt_turn.specs.Log.{is_open}
use Rattle.wt_session.proofs.connecting.dial_where_open.Goals as goal

pub returns-clause-log : goal.returns-clause-log
returns-clause-log c side log collected f r client empty = absurd (true≢false (sym (ap is_open empty) ∙ sym (c.is_open.ensures.log side log collected f) ∙ c.if-is_open.false))
