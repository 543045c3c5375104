use Rattle.std.proofs.Common.{◌≡◌, ◌<◌, ◌^◌, drop, true}
use Rattle.std.specs.Str.{all_ascii_digits}
use Rattle.wt_script.specs.Numbers.{value}
use Rattle.wt_script.proofs.script.numbers.digits_value.Given as goal

abbrev pub invariant-loop-byte : goal.invariant-loop-byte
invariant-loop-byte l = record {
  joined : value l.number (drop l.byte-index l.word) ≡ value 0 l.word;
  digits : all_ascii_digits (drop l.byte-index l.word) ≡ true;
  small : l.number < 2 ^ 64;
}
