use Rattle.std.proofs.Common.{◌≡◌, ◌∙◌, false, sym, true}
use Rattle.wt_shared.proofs.CallLaws.{later_lawful}
use Rattle.wt_shared.proofs.HistoryLaws.{begun}
use Rattle.wt_shared.proofs.kept.Kept.step.Goals as goal
use Rattle.wt_shared.specs.History.{past_of}
use Rattle.wt_shared.specs.Stored.{may_come}

-- such a call is lawful after any turn
pub returns-then-not-is_lawful-clause-later : goal.returns-then-not-is_lawful-clause-later
returns-then-not-is_lawful-clause-later c = λ call turn_is may refused.
    let side = c.self.inside.side in
    let history = c.self.inside.history in
    let lawful : may_come c.args.self.now c.args.turn.now ≡ true =
    rw (← c.self.view_is, turn_is) (later_lawful side (past_of side history) call (begun side history c.self.invariant.some c.self.invariant.replays) may) in
    let both : false ≡ true = sym c.if-not-is_lawful.true ∙ c.is_lawful.ensures ∙ lawful in
    absurd (cc)
