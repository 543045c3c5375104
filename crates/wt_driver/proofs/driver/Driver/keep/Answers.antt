use Rattle.std.proofs.Common.{◌∙◌, sym}
use Rattle.wt_driver.proofs.Parts.{rest-drops, rest-none, rest-so}
use Rattle.wt_driver.proofs.Steps.{ok-then}
use Rattle.wt_driver.proofs.driver.Driver.keep.Goals as goal

pub returns-then-is_empty : goal.returns-then-is_empty
returns-then-is_empty c = rest-none c.args.id c.args.bytes.now c.args.self.now (sym c.is_empty.ensures ∙ c.if-is_empty.true)

pub returns-then-bytes_fit : goal.returns-then-bytes_fit
returns-then-bytes_fit c =
    ok-then c.take_bytes.result
    (λ e. rest-so c.self.view_is c.args.id c.args.bytes.now c.take_bytes.new.self (sym c.is_empty.ensures ∙ c.if-is_empty.false) (sym c.bytes_fit.ensures.now ∙ c.if-bytes_fit.true) e)
    c.take_bytes.ensures.now

pub returns : goal.returns
returns c =
    sym c.self.view_is ∙ rest-drops c.self.view_is c.args.id c.args.bytes.now (sym c.is_empty.ensures ∙ c.if-is_empty.false) (sym c.bytes_fit.ensures.now ∙ c.if-bytes_fit.false)
