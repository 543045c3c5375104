use Rattle.std.proofs.Common.{◌++◌, ◌+◌, List, ℕ, drop, ap, sym, ◌∙◌, append_assoc}
use Rattle.std.specs.Prelude.{string_bytes}
use Rattle.std.specs.List.{flat_map}
use Rattle.wt_script.specs.Print.{field_text}
use Rattle.wt_script.proofs.PrintLaws.{drop_at}
use Rattle.wt_script.proofs.print.push_fields.Goals as goal

pub loop-index-preserved : goal.loop-index-preserved
loop-index-preserved c =
    let headers = c.args.headers.now in
    let rest = drop (c.loop-index.index + 1) headers in
    let field : List ℕ × List ℕ = (c.at.result.0.now, c.at.result.1.now) in
    let before = string_bytes c.loop-index.out in
    ap (λ text. text ++ flat_map field_text rest) (c.in_ok-push_field.ensures)
    ∙ append_assoc before (field_text field) (flat_map field_text rest)
    ∙ ap (λ fields. before ++ flat_map field_text fields) (sym (drop_at headers c.loop-index.index field c.at.ensures))
    ∙ c.loop-index.invariant
