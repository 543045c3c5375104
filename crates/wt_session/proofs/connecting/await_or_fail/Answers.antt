use Rattle.std.proofs.Common.{◌∙◌, sym}
use Rattle.std.specs.Prelude.{false, true}
use Rattle.wt_session.proofs.Connects.{waits-or-fails}
use Rattle.wt_session.proofs.connecting.await_or_fail.Goals as goal

pub returns-then-is_open-clause-does : goal.returns-then-is_open-clause-does
returns-then-is_open-clause-does c side log collected f w =
    waits-or-fails side log collected c.args.d.now c.args.error true (sym (c.is_open.ensures.log side log collected f) ∙ c.if-is_open.true) c.rests.ensures w f

pub returns-clause-does : goal.returns-clause-does
returns-clause-does c side log collected f w =
    waits-or-fails side log collected c.args.d.now c.args.error false (sym (c.is_open.ensures.log side log collected f) ∙ c.if-is_open.false) c.rests.ensures w f
