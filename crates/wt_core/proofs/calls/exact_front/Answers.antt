use Rattle.std.proofs.Common.{◌∙◌, ap, refl}
use Rattle.std.specs.Prelude.{List, length, take, ℕ}
use Rattle.wt_core.proofs.Given.{as-call}
use Rattle.wt_core.proofs.calls.exact_front.Goals as goal
use Rattle.wt_turn.specs.declared.call.Call.TheVariants as calls
use Rattle.wt_turn.specs.declared.reply.Reply.TheVariants as replies

pub returns-in_ok-from_slice-in-Ready-Ok-clause-does : goal.returns-in_ok-from_slice-in-Ready-Ok-clause-does
returns-in_ok-from_slice-in-Ready-Ok-clause-does c = λ side log collected f r has.
    let h = c.in-Ready-Ok.ensures.does side log collected f r has in
    let g = rw c.in-Ready-Ok.field-0-is at h in
    as-call side log collected c.read_exact.new.d _ _ (calls.ReadExact c.args.half.now (length c.args.buffer.now)) _ (ap (λ (bs : List ℕ). replies.Exact bs) c.in_ok-from_slice-in-Ready-Ok.ensures) refl g

pub returns-in_ok-front-in-Ready-Err-clause-does : goal.returns-in_ok-front-in-Ready-Err-clause-does
returns-in_ok-front-in-Ready-Err-clause-does c = λ side log collected f r has.
    let h = c.in-Ready-Err.ensures.does side log collected f r has in
    let g = rw c.in-Ready-Err.field-0-is at h in
    as-call side log collected c.read_exact.new.d _ _ (calls.ReadExact c.args.half.now (length c.args.buffer.now)) _
    (ap (λ (bs : List ℕ). replies.ExactFailed c.in-Ready-Err.error bs) (c.in_ok-front-in-Ready-Err.ensures ∙ ap (λ (n : ℕ). take n c.read_exact.new.buffer) c.exact_count.ensures)) refl g

pub returns-in-Pending-clause-does : goal.returns-in-Pending-clause-does
returns-in-Pending-clause-does c = c.in-Pending.ensures.does
