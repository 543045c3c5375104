use Rattle.std.proofs.Common.{ap, ◌∙◌}
use Rattle.std.specs.Prelude.{is_some, ◌||◌}
use Rattle.wt_seam.specs.Critical.{given_once}
use Rattle.wt_seam.proofs.Runs.{settings_read}
use Rattle.wt_seam.proofs.settings.RemoteSettingsWatcher.accept_settings.Goals as goal

pub returns-clause-answer : goal.returns-clause-answer
returns-clause-answer c = λ bytes was. c.give.ensures.answer ∙ ap (λ settings. given_once c.args.self.now settings) (c.settings.ensures ∙ settings_read c.args.s.now.reading bytes was)

pub returns-clause-given : goal.returns-clause-given
returns-clause-given c = λ bytes was. c.give.ensures.given ∙ ap (λ settings. c.args.self.now || is_some settings) (c.settings.ensures ∙ settings_read c.args.s.now.reading bytes was)
