use Rattle.std.proofs.Common.{◌≡◌, ◌<◌, [], length, take, refl, sym, ap, ◌∙◌, arith}
use Rattle.std.proofs.lemmas.List.{length-set, length-take-le, take_all, take_more_set}
use Rattle.std.specs.Option.{option_copied}
use Rattle.wt_config.specs.DigestText.{pieces_of, remaining_pieces}
use Rattle.wt_config.proofs.DigestReading.{with_read, read_nothing, read_more, read_none, read_few, read_many, read_all, some_piece}
use Rattle.wt_config.proofs.digest.read_numbers.Goals as goal

pub loop-number-init : goal.loop-number-init
loop-number-init c = (refl, read_nothing c.args.radix (pieces_of c.args.separator c.args.text.now))

pub returns-in_err-rest : goal.returns-in_err-rest
returns-in_err-rest c =
    let read = take c.loop-number.number-index c.loop-number.number-items in
    let few : length read < 32 = omega (arith, c.loop-number.invariant.0, length-take-le c.loop-number.number-index c.loop-number.number-items) in
    c.from_residual.ensures
    ∙ sym (read_few c.args.radix read few)
    ∙ ap (λ rest. with_read c.args.radix read (remaining_pieces c.args.separator (option_copied rest))) (sym c.in_err-rest.was)
    ∙ c.loop-number.invariant.1

pub returns-in_err-number : goal.returns-in_err-number
returns-in_err-number c =
    let read = take c.loop-number.number-index c.loop-number.number-items in
    c.from_residual-in_err-number.ensures
    ∙ sym (read_none c.args.radix read c.next_piece.result.0.now (remaining_pieces c.args.separator (option_copied c.next_piece.result.1)) (sym c.in_err-number.ensures))
    ∙ ap (λ pieces. with_read c.args.radix read pieces) (sym c.next_piece.ensures)
    ∙ ap (λ rest. with_read c.args.radix read (remaining_pieces c.args.separator (option_copied rest))) (sym c.in_ok-rest.was)
    ∙ c.loop-number.invariant.1

pub loop-number-preserved : goal.loop-number-preserved
loop-number-preserved c =
    let read = take c.loop-number.number-index c.loop-number.number-items in
    let following = remaining_pieces c.args.separator (option_copied c.next_piece.result.1) in (
      length-set c.loop-number.number-items c.loop-number.number-index c.in_ok-number.field-0 ∙ c.loop-number.invariant.0,
      ap (λ numbers. with_read c.args.radix numbers following) (take_more_set c.loop-number.number-items c.loop-number.number-index c.in_ok-number.field-0 (omega arith))
          ∙ sym (read_more c.args.radix read c.next_piece.result.0.now following c.in_ok-number.field-0 (sym c.in_ok-number.ensures))
          ∙ ap (λ pieces. with_read c.args.radix read pieces) (sym c.next_piece.ensures)
          ∙ ap (λ rest. with_read c.args.radix read (remaining_pieces c.args.separator (option_copied rest))) (sym c.in_ok-rest.was)
          ∙ c.loop-number.invariant.1,
    )

pub returns-in-None : goal.returns-in-None
returns-in-None c =
    let whole : take c.loop-number.number-index c.loop-number.number-items ≡ c.loop-number.number-items = take_all _ _ (omega arith) in
    sym (read_all c.args.radix c.loop-number.number-items c.loop-number.invariant.0)
    ∙ ap (λ numbers. with_read c.args.radix numbers []) (sym whole)
    ∙ ap (λ rest. with_read c.args.radix (take c.loop-number.number-index c.loop-number.number-items) (remaining_pieces c.args.separator (option_copied rest))) (sym c.in-None.is)
    ∙ c.loop-number.invariant.1

pub returns-in-Some : goal.returns-in-Some
returns-in-Some c =
    let whole : take c.loop-number.number-index c.loop-number.number-items ≡ c.loop-number.number-items = take_all _ _ (omega arith) in
    sym (read_many c.args.radix c.loop-number.number-items (pieces_of c.args.separator c.in-Some.field-0.now) c.loop-number.invariant.0 (some_piece c.args.separator c.in-Some.field-0.now))
    ∙ ap (λ numbers. with_read c.args.radix numbers (pieces_of c.args.separator c.in-Some.field-0.now)) (sym whole)
    ∙ ap (λ rest. with_read c.args.radix (take c.loop-number.number-index c.loop-number.number-items) (remaining_pieces c.args.separator (option_copied rest))) (sym c.in-Some.is)
    ∙ c.loop-number.invariant.1
