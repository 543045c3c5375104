use Rattle.wt_core.proofs.OnSessions.{told-answers}
use Rattle.wt_core.proofs.calls.asked.Goals as goal

pub returns-in_default : goal.returns-in_default
returns-in_default c = record {
  answers = told-answers c.args.on.now c.args.d.now c.told.new.d c.args.streams.now c.args.call.now c.told.result c.requires c.in_default.not-AcceptUni c.in_default.not-AcceptBi c.in_default.not-OpenUni c.in_default.not-OpenBi c.told.ensures.does;
  same = c.told.ensures.same;
  pieces = c.told.ensures.pieces;
}
