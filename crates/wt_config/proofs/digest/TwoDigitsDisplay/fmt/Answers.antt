use Rattle.std.proofs.Common.{◌≡◌, ◌<◌, ◌^◌, ◌-◌, ℕ, List, Option, Some, false, ap, ◌∙◌, subst, arith, option_map, []}
use Rattle.std.proofs.lemmas.Fmt.{hex_byte}
use Rattle.std.specs.Fmt.{styled_digits_output, DisplaysOnOk, format_spec, padded_integral}
use Rattle.wt_config.specs.DigestText.{two_digits}
use Rattle.wt_config.proofs.digest.TwoDigitsDisplay.fmt.Goals as goal

pub returns-clause-writes : goal.returns-clause-writes
returns-clause-writes g c = λ plain ok.
    let byte = c.args.self.now.0 in
    let small : byte < 256 = omega arith in
    let shown : styled_digits_output c.in_radix.result c.laid_out.result ≡ Some (two_digits byte) =
    ap (λ options. styled_digits_output c.in_radix.result options) c.laid_out.ensures
    ∙ ap (λ written. option_map (padded_integral (format_spec 32 0 4 2 (2 ^ 64 - 1)) false []) written) c.in_radix.ensures
    ∙ ap Some (hex_byte false byte small) in
    let P : Option (List ℕ) → Type 0 = λ text. DisplaysOnOk g.W.Write.write_str_gives c.args.f.now c.write.result text c.write.new.self in
    subst P shown c.write.ensures.writes plain ok
