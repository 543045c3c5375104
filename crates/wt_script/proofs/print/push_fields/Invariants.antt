use Rattle.std.proofs.Common.{◌≡◌, ◌++◌, drop}
use Rattle.std.specs.Prelude.{string_bytes}
use Rattle.std.specs.List.{flat_map}
use Rattle.wt_script.specs.Print.{field_text}
use Rattle.wt_script.proofs.print.push_fields.Given as goal

abbrev pub invariant-loop-index : goal.invariant-loop-index
invariant-loop-index l =
    string_bytes l.out ++ flat_map field_text (drop l.index l.headers)
    ≡ string_bytes l.fn.out ++ flat_map field_text l.headers
