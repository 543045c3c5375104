use Rattle.std.proofs.Common.{refl, ◌∷◌, []}
use Rattle.std.proofs.Output.{has_written_append}
use Rattle.std.specs.Fmt.{decimal}
use Rattle.wt_config.specs.DigestText.{joined_by}
use Rattle.wt_config.proofs.DigestWriting.{writes_all}
use Rattle.wt_config.proofs.digest.BytesArrayDisplay.fmt.Goals as goal

pub returns-clause-writes : goal.returns-clause-writes
returns-clause-writes g c = λ plain ok.
    let first = c.in_ok-write.ensures.writes plain refl in
    let numbers = writes_all g.W.Write.write_str_gives c.args.f.now c.write.new.self c.loop-byte.f (91 ∷ []) (44 ∷ 32 ∷ []) decimal c.digest.inside.0 c.args.self.now.0.now c.loop-byte.byte-index
    first (c.loop-byte.invariant first.plain) c.digest.invariant.0 c.loop-byte-test.false c.digest.view_is in
    has_written_append g.W.Write.write_str_gives c.args.f.now (91 ∷ joined_by (44 ∷ 32 ∷ []) decimal c.args.self.now.0.now) c.loop-byte.f (93 ∷ []) c.write-2.new.self numbers (c.write-2.ensures.writes numbers.plain ok)
