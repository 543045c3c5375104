use Rattle.std.proofs.Common.{sym, ◌∙◌}
use Rattle.wt_script.proofs.ErrorLaws.{other_failed}
use Rattle.wt_script.proofs.answers.errors.exact_failed_with.Goals as goal

pub returns-else-is_word : goal.returns-else-is_word
returns-else-is_word c =
    c.read_failed.ensures
    ∙ sym (other_failed c.args.fields.now c.args.name.now c.args.found.now c.requires (sym c.if-is_word.ensures))
