use Rattle.std.proofs.Common.{false, rules}
use Rattle.wt_driver_laws.proofs.OpenLaws.{open_uni_law, opens_new_law}
use Rattle.wt_driver_laws.proofs.PieceCalls.{opens_pieces}
use Rattle.wt_driver.proofs.driver.Driver.open_uni.Goals as goal

pub returns-in-Ready-Ok-clause-opened : goal.returns-in-Ready-Ok-clause-opened
returns-in-Ready-Ok-clause-opened c = search rules

pub returns-in-Ready-Ok-clause-opens : goal.returns-in-Ready-Ok-clause-opens
returns-in-Ready-Ok-clause-opens c = open_uni_law c.args.session _ c.args.self.now _ (returns-in-Ready-Ok-clause-opened c)

pub returns-in-Ready-Ok-clause-opening : goal.returns-in-Ready-Ok-clause-opening
returns-in-Ready-Ok-clause-opening c = opens_new_law false c.args.session _ c.args.self.now _ (returns-in-Ready-Ok-clause-opened c)

pub returns-in-Ready-Ok-clause-pieces : goal.returns-in-Ready-Ok-clause-pieces
returns-in-Ready-Ok-clause-pieces c = opens_pieces false c.args.session _ c.args.self.now _ (returns-in-Ready-Ok-clause-opened c)

pub returns-in-Ready-Err-clause-opened : goal.returns-in-Ready-Err-clause-opened
returns-in-Ready-Err-clause-opened c = search rules

pub returns-in-Ready-Err-clause-opens : goal.returns-in-Ready-Err-clause-opens
returns-in-Ready-Err-clause-opens c = open_uni_law c.args.session _ c.args.self.now _ (returns-in-Ready-Err-clause-opened c)

pub returns-in-Ready-Err-clause-opening : goal.returns-in-Ready-Err-clause-opening
returns-in-Ready-Err-clause-opening c = opens_new_law false c.args.session _ c.args.self.now _ (returns-in-Ready-Err-clause-opened c)

pub returns-in-Ready-Err-clause-pieces : goal.returns-in-Ready-Err-clause-pieces
returns-in-Ready-Err-clause-pieces c = opens_pieces false c.args.session _ c.args.self.now _ (returns-in-Ready-Err-clause-opened c)

pub returns-in-Pending-clause-opened : goal.returns-in-Pending-clause-opened
returns-in-Pending-clause-opened c = search rules

pub returns-in-Pending-clause-opens : goal.returns-in-Pending-clause-opens
returns-in-Pending-clause-opens c = open_uni_law c.args.session _ c.args.self.now _ (returns-in-Pending-clause-opened c)

pub returns-in-Pending-clause-opening : goal.returns-in-Pending-clause-opening
returns-in-Pending-clause-opening c = opens_new_law false c.args.session _ c.args.self.now _ (returns-in-Pending-clause-opened c)

pub returns-in-Pending-clause-pieces : goal.returns-in-Pending-clause-pieces
returns-in-Pending-clause-pieces c = opens_pieces false c.args.session _ c.args.self.now _ (returns-in-Pending-clause-opened c)
