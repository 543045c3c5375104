use Rattle.std.proofs.Common.{◌++◌, take}
use Rattle.std.specs.Fmt.{HasWritten, IsPlainFormatter}
use Rattle.std.specs.Prelude.{codes, flat_map}
use Rattle.wt_config.specs.DigestText.{two_digits}
use Rattle.wt_config.proofs.digest.Sha256DigestDisplay.fmt.Given as goal

abbrev pub invariant-loop-byte : goal.invariant-loop-byte
invariant-loop-byte g l =
    IsPlainFormatter l.initial.f → HasWritten g.W.Write.write_str_gives l.initial.f (flat_map (λ byte. codes ":" ++ two_digits byte) (take l.byte-index l.byte-items)) l.f
