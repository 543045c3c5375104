use Rattle.std.proofs.Common.{◌≡◌, subst}
use Rattle.std.specs.Prelude.{IfOk, Result}
use Rattle.wt_script.specs.declared.script.Script.{Script}
use Rattle.wt_script.specs.declared.script.ScriptRefused.{ScriptRefused}
use Rattle.wt_trace.proofs.CommandLaws.{first_come_first}
use Rattle.wt_trace.proofs.command_script.turns_after.Goals as goal

pub returns : goal.returns
returns c =
    subst (λ (script : Result Script ScriptRefused). IfOk c.read_more_turns.result (λ r. r ≡ script)) (first_come_first c.args.first c.args.input.now) c.read_more_turns.ensures
