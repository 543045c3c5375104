use Rattle.std.proofs.Common.{◌∙◌, ap, refl, sym}
use Rattle.wt_driver_laws.proofs.PieceLaws.{end_session_pieces}
use Rattle.wt_driver_laws.proofs.SessionEnded.{end_session_law}
use Rattle.wt_kept.specs.Kept.{DriverNow}
use Rattle.wt_kept.specs.Windows.{lives_now}
use Rattle.wt_driver.proofs.Parts.{end-not, end-over, end-so}
use Rattle.wt_driver.proofs.Steps.{ok-if, ok-then}
use Rattle.wt_driver.proofs.driver.Driver.end_session.Goals as goal

pub returns-then-not-is_open-clause-driver : goal.returns-then-not-is_open-clause-driver
returns-then-not-is_open-clause-driver c = end-over refl c.args.session (sym c.is_open.ensures.now ∙ c.if-not-is_open.true)

pub returns-then-lives-clause-driver : goal.returns-then-lives-clause-driver
returns-then-lives-clause-driver c =
    let open_ = ap (λ (d : DriverNow). d.work.transport.is_open) c.self.view_is in
    let lives = ap (λ (d : DriverNow). lives_now d.work.dispatched.sessions c.args.session) c.self.view_is in
    ok-then c.finish_and_retire.result
    (λ e. end-so c.self.view_is c.args.session c.finish_and_retire.new.t c.finish_and_retire.new.self (open_ ∙ (sym c.is_open.ensures.now ∙ c.if-not-is_open.false)) (lives ∙ (sym c.lives.ensures ∙ c.if-lives.true)) e)
    c.finish_and_retire.ensures

pub returns-clause-driver : goal.returns-clause-driver
returns-clause-driver c = end-not refl c.args.session (sym c.is_open.ensures.now ∙ c.if-not-is_open.false) (sym c.lives.ensures ∙ c.if-lives.false)

pub returns-then-not-is_open-clause-does : goal.returns-then-not-is_open-clause-does
returns-then-not-is_open-clause-does c = end_session_law c.args.session c.args.self.now _ (returns-then-not-is_open-clause-driver c)

pub returns-then-not-is_open-clause-pieces : goal.returns-then-not-is_open-clause-pieces
returns-then-not-is_open-clause-pieces c = end_session_pieces c.args.session c.args.self.now _ (returns-then-not-is_open-clause-driver c)

pub returns-clause-does : goal.returns-clause-does
returns-clause-does c = end_session_law c.args.session c.args.self.now _ (returns-clause-driver c)

pub returns-clause-pieces : goal.returns-clause-pieces
returns-clause-pieces c = end_session_pieces c.args.session c.args.self.now _ (returns-clause-driver c)

pub returns-then-lives-clause-does : goal.returns-then-lives-clause-does
returns-then-lives-clause-does c = ok-if c.finish_and_retire.result (λ u e. end_session_law c.args.session c.args.self.now _ e) (returns-then-lives-clause-driver c)

pub returns-then-lives-clause-pieces : goal.returns-then-lives-clause-pieces
returns-then-lives-clause-pieces c = ok-then c.finish_and_retire.result (λ e. end_session_pieces c.args.session c.args.self.now _ e) (returns-then-lives-clause-driver c)
