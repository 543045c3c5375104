use Rattle.std.proofs.Common.{◌≡◌, ◌++◌, drop}
use Rattle.std.specs.Prelude.{None, string_bytes}
use Rattle.wt_script.specs.Print.{texts_after}
use Rattle.wt_script.proofs.print.push_actions.Given as goal

abbrev pub invariant-loop-action : goal.invariant-loop-action
invariant-loop-action l =
    string_bytes l.out ++ texts_after l.sending (drop l.action-index l.actions)
    ≡ string_bytes l.fn.out ++ texts_after None l.actions
