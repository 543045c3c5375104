use Rattle.wt_endpoint.proofs.Keeping.{tests_are}
use Rattle.wt_endpoint.proofs.connections.Connections.is_lawful.Goals as goal

pub returns-then-may_name-clause-history : goal.returns-then-may_name-clause-history
returns-then-may_name-clause-history c = λ e r. tests_are c.args.side c.args.self.now e c.args.number c.args.turn.now _ _ r c.may_name.ensures c.if-may_name.true c.takes.ensures
