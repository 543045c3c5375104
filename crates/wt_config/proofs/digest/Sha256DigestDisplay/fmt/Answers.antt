use Rattle.std.proofs.Common.{refl, ◌∷◌, []}
use Rattle.wt_config.specs.DigestText.{two_digits}
use Rattle.wt_config.proofs.DigestWriting.{writes_all}
use Rattle.wt_config.proofs.digest.Sha256DigestDisplay.fmt.Goals as goal

pub returns-clause-writes : goal.returns-clause-writes
returns-clause-writes g c = λ plain ok.
    let first = c.in_ok-write.ensures.writes plain refl in
    writes_all g.W.Write.write_str_gives c.args.f.now c.write.new.self c.loop-byte.f [] (58 ∷ []) two_digits c.self.inside.0 c.args.self.now c.loop-byte.byte-index
    first (c.loop-byte.invariant first.plain) c.self.invariant.0 c.loop-byte-test.false c.self.view_is
