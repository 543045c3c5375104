use Rattle.std.proofs.Common.{◌∙◌, sym}
use Rattle.wt_driver.proofs.Openings.{error-goes, error-gone, error-over}
use Rattle.wt_driver.proofs.Steps.{if-ok-then}
use Rattle.wt_driver.proofs.driver.Driver.opening_error.Goals as goal

pub returns-then-is_gone : goal.returns-then-is_gone
returns-then-is_gone c =
    if-ok-then c.session_result.result (λ e so. error-gone c.args.session c.args.self.now e (sym c.is_gone.ensures.now ∙ c.if-is_gone.true) so) c.session_result.ensures

pub returns-then-is_open : goal.returns-then-is_open
returns-then-is_open c = error-goes c.args.session c.args.self.now (sym c.is_gone.ensures.now ∙ c.if-is_gone.false) (sym c.is_open.ensures.now ∙ c.if-is_open.true)

pub returns : goal.returns
returns c = error-over c.args.session c.args.self.now (sym c.is_gone.ensures.now ∙ c.if-is_gone.false) (sym c.is_open.ensures.now ∙ c.if-is_open.false)
