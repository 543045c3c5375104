use Rattle.std.proofs.Common.{◌∙◌, ap}
use Rattle.std.specs.Str.Parse.{without_leading_plus}
use Rattle.wt_config.specs.DigestText.{byte_of_digits}
use Rattle.wt_config.proofs.DigestReading.{parsed_byte}
use Rattle.wt_config.proofs.digest.read_number.Goals as goal

pub returns : goal.returns
returns c =
    c.ok.ensures.value
    ∙ parsed_byte c.args.radix (without_leading_plus c.trim.result.now) _ c.from_str_radix.ensures.value
    ∙ ap (λ text. byte_of_digits c.args.radix (without_leading_plus text)) c.trim.ensures.trim
