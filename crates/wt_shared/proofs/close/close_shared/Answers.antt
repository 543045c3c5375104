use Rattle.std.proofs.Common.{rules}
use Rattle.std.specs.Prelude.{IfOk}
use Rattle.wt_shared.proofs.PlaceLaws.{closed_stands}
use Rattle.wt_shared.proofs.close.close_shared.Goals as goal
use Rattle.wt_shared.specs.Closing.{IsClosed}

pub returns-clause-places : goal.returns-clause-places
returns-clause-places c =
    let closed : IfOk c.compared.result (IsClosed c.args.kept.now.history c.args.handles.items) = search rules in
    closed_stands c.args.kept.now.history c.args.handles.items c.compared.result closed
