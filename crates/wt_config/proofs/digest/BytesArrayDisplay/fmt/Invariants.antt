use Rattle.std.proofs.Common.{◌++◌, take}
use Rattle.std.specs.Fmt.{HasWritten, IsPlainFormatter}
use Rattle.std.specs.Prelude.{codes, flat_map}
use Rattle.std.specs.Fmt.{decimal}
use Rattle.wt_config.proofs.digest.BytesArrayDisplay.fmt.Given as goal

abbrev pub invariant-loop-byte : goal.invariant-loop-byte
invariant-loop-byte g l =
    IsPlainFormatter l.initial.f → HasWritten g.W.Write.write_str_gives l.initial.f (flat_map (λ byte. codes ", " ++ decimal byte) (take l.byte-index l.byte-items)) l.f
