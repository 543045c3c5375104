use Rattle.std.proofs.Common.{ap, refl}
use Rattle.std.specs.Prelude.{List, Some, length, ℕ}
use Rattle.wt_core.proofs.Given.{as-call}
use Rattle.wt_core.proofs.calls.read_front.Goals as goal
use Rattle.wt_turn.specs.declared.call.Call.TheVariants as calls
use Rattle.wt_turn.specs.declared.reply.Reply.TheVariants as replies

pub returns-in_ok-front-in-Ready-Ok-Some-clause-does : goal.returns-in_ok-front-in-Ready-Ok-Some-clause-does
returns-in_ok-front-in-Ready-Ok-Some-clause-does c = λ side log collected f r has.
    let h = c.in-Ready-Ok-Some.ensures.does side log collected f r has in
    let g = rw (c.in-Ready-Ok-Some.field-0-is, c.in-Ready-Ok-Some.field-0-0-is) at h in
    as-call side log collected c.read.new.d _ _ (calls.Read c.args.half.now (length c.args.buffer.now)) _ (ap (λ (bs : List ℕ). replies.Read (Some bs)) c.in_ok-front-in-Ready-Ok-Some.ensures) refl g

pub returns-in-Pending-clause-does : goal.returns-in-Pending-clause-does
returns-in-Pending-clause-does c = c.in-Pending.ensures.does

pub returns-in-Ready-Err-clause-does : goal.returns-in-Ready-Err-clause-does
returns-in-Ready-Err-clause-does c = rw c.in-Ready-Err.field-0-is at c.in-Ready-Err.ensures.does

pub returns-in-Ready-Ok-None-clause-does : goal.returns-in-Ready-Ok-None-clause-does
returns-in-Ready-Ok-None-clause-does c = rw (c.in-Ready-Ok-None.field-0-is, c.in-Ready-Ok-None.field-0-0-is) at c.in-Ready-Ok-None.ensures.does
