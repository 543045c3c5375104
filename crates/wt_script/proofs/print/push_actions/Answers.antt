use Rattle.std.proofs.Common.{arith, ◌++◌, [], length, drop, sym, ap, ◌∙◌, append-nil}
use Rattle.std.proofs.lemmas.List.{drop_all}
use Rattle.std.specs.Prelude.{string_bytes}
use Rattle.wt_script.specs.Print.{texts_after}
use Rattle.wt_script.proofs.JoinedLaws.{joined_text}
use Rattle.wt_script.proofs.print.push_actions.Goals as goal

pub returns : goal.returns
returns c =
    let before = string_bytes c.loop-action.out in
    let actions = c.args.actions.now in
    sym (append-nil before)
    ∙ ap (λ rest. before ++ texts_after c.loop-action.sending rest) (sym (drop_all c.loop-action.action-index actions (omega arith)))
    ∙ c.loop-action.invariant
    ∙ ap (λ text. string_bytes c.args.out.now ++ text) (joined_text actions)
