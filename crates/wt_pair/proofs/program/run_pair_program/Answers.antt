use Rattle.std.specs.Prelude.{map, string_bytes}
use Rattle.std.proofs.Common.{refl}
use Rattle.wt_pair.proofs.ProgramLaws.{runs-asked, two-ends-told}
use Rattle.wt_pair.proofs.program.run_pair_program.Goals as goal

pub returns-clause-runs : goal.returns-clause-runs
returns-clause-runs g c =
    runs-asked _ _ c.asked_alone.result (map string_bytes c.args.words.now) _ _ _ _ c.run_asked.result c.asked_alone.ensures refl c.run_asked.ensures

pub returns-clause-agree : goal.returns-clause-agree
returns-clause-agree g c = two-ends-told (map string_bytes c.args.words.now) _ _ _ _ c.run_asked.result (returns-clause-runs g c)
