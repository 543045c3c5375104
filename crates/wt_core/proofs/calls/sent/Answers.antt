use Rattle.std.proofs.Common.{◌∙◌, ap, refl, rules, sym}
use Rattle.std.proofs.Math.Facts.{to_z-of_z}
use Rattle.std.specs.Int.{w32}
use Rattle.std.specs.Prelude.{FitsSigned, List, ℕ, ℤ}
use Rattle.wt_core.proofs.Given.{as-call, sending-same}
use Rattle.wt_turn.specs.declared.call.Call.TheVariants as calls
use Rattle.wt_core.proofs.calls.sent.Goals as goal

pub returns-in_ok-write-in-Write-clause-does : goal.returns-in_ok-write-in-Write-clause-does
returns-in_ok-write-in-Write-clause-does c = λ e side log collected f r h. as-call side log collected _ _ _ _ _ c.written.ensures
    (ap (λ (k : ℕ). calls.Write k c.as_slice.result.now) (sym (sending-same _ _ c.in-Write.id _ c.in-Write.is e refl)) ∙ ap (λ (bs : List ℕ). calls.Write c.in-Write.id bs) c.as_slice.ensures ∙ sym c.in-Write.is)
    (c.in_ok-write-in-Write.ensures.does side log collected f r h)

pub returns-in_ok-write_all-in-WriteAll-clause-does : goal.returns-in_ok-write_all-in-WriteAll-clause-does
returns-in_ok-write_all-in-WriteAll-clause-does c = λ e side log collected f r h. as-call side log collected _ _ _ _ _ c.all_written.ensures
    (ap (λ (k : ℕ). calls.WriteAll k c.as_slice-in-WriteAll.result.now) (sym (sending-same _ _ c.in-WriteAll.id _ c.in-WriteAll.is e refl)) ∙ ap (λ (bs : List ℕ). calls.WriteAll c.in-WriteAll.id bs) c.as_slice-in-WriteAll.ensures ∙ sym c.in-WriteAll.is)
    (c.in_ok-write_all-in-WriteAll.ensures.does side log collected f r h)

pub returns-in_ok-finish-in-Finish-clause-does : goal.returns-in_ok-finish-in-Finish-clause-does
returns-in_ok-finish-in-Finish-clause-does c = λ e side log collected f r h. as-call side log collected _ _ _ _ _ c.finished.ensures
    (ap calls.Finish (sym (sending-same _ _ c.in-Finish.id _ c.in-Finish.is e refl)) ∙ sym c.in-Finish.is)
    (c.in_ok-finish-in-Finish.ensures.does side log collected f r h)

pub returns-in-Stopped-clause-does : goal.returns-in-Stopped-clause-does
returns-in-Stopped-clause-does c = λ e side log collected f r h. as-call side log collected _ _ _ _ _ c.stopped-in-Stopped.ensures
    (ap calls.Stopped (sym (sending-same _ _ c.in-Stopped.id _ c.in-Stopped.is e refl)) ∙ sym c.in-Stopped.is)
    (c.stopped.ensures.does side log collected f r h)

pub returns-in-Priority-clause-does : goal.returns-in-Priority-clause-does
returns-in-Priority-clause-does c = λ e side log collected f r h. as-call side log collected _ _ _ _ _ c.priority-in-Priority.ensures
    (ap calls.Priority (sym (sending-same _ _ c.in-Priority.id _ c.in-Priority.is e refl)) ∙ sym c.in-Priority.is)
    (c.priority.ensures.does side log collected f r h)

pub returns-in-SetPriority-clause-does : goal.returns-in-SetPriority-clause-does
returns-in-SetPriority-clause-does c = λ e side log collected f r h.
    let fit : FitsSigned w32 c.in-SetPriority.priority = search rules in
    as-call side log collected _ _ _ _ _ refl
    (ap (λ (p : ℤ). calls.SetPriority c.args.half.now p) (to_z-of_z fit) ∙ ap (λ (k : ℕ). calls.SetPriority k c.in-SetPriority.priority) (sym (sending-same _ _ c.in-SetPriority.id _ c.in-SetPriority.is e refl)) ∙ sym c.in-SetPriority.is)
    (c.set_priority.ensures.does side log collected f r h)

pub returns-in_ok-reset-in-ResetSend-clause-does : goal.returns-in_ok-reset-in-ResetSend-clause-does
returns-in_ok-reset-in-ResetSend-clause-does c = λ e side log collected f r h. as-call side log collected _ _ _ _ _ c.reset-in-ResetSend.ensures
    (ap (λ (k : ℕ). calls.ResetSend k c.in-ResetSend.code) (sym (sending-same _ _ c.in-ResetSend.id _ c.in-ResetSend.is e refl)) ∙ sym c.in-ResetSend.is)
    (c.in_ok-reset-in-ResetSend.ensures.does side log collected f r h)
