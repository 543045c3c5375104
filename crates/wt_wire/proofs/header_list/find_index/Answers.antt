use Rattle.std.proofs.Common.{rules}
use Rattle.std.proofs.lemmas.Fn.{always_returns_same}
use Rattle.wt_wire.specs.HeaderList.{compare_names}
use Rattle.wt_wire.proofs.SearchLaws.{searched}
use Rattle.wt_wire.proofs.header_list.find_index.Goals as goal

-- the closure compares a field's name with the name that it captures
pub returns : goal.returns
returns c =
    let facts = c.binary_search_by.ensures in
    searched c.args.name.now c.args.fields.now c.requires.ordered c.binary_search_by.result facts.bound
    (facts.position (λ field. compare_names field.0 c.args.name.now) (always_returns_same _ _ _ (λ a r g calls. (search rules, search rules))))
