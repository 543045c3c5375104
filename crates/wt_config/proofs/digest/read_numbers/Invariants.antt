-- The numbers that were read and the pieces that are left say what the whole text writes.
use Rattle.std.proofs.Common.{◌≡◌, length, take}
use Rattle.std.specs.Option.{option_copied}
use Rattle.wt_config.specs.DigestText.{numbers_of_text, remaining_pieces}
use Rattle.wt_config.proofs.DigestReading.{with_read}
use Rattle.wt_config.proofs.digest.read_numbers.Given as goal

abbrev pub invariant-loop-number : goal.invariant-loop-number
invariant-loop-number l =
    (length l.number-items ≡ 32)
    × (with_read l.radix (take l.number-index l.number-items) (remaining_pieces l.separator (option_copied l.rest))
    ≡ numbers_of_text l.radix l.separator l.text)
