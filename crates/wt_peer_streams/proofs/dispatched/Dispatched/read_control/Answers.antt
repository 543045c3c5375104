use Rattle.wt_peer_streams.proofs.ReadCounts.{control-counted}
use Rattle.wt_peer_streams.proofs.dispatched.Dispatched.read_control.Goals as goal

pub returns-in_ok-self-inside-clause-steps : goal.returns-in_ok-self-inside-clause-steps
returns-in_ok-self-inside-clause-steps g c =
    control-counted (record { critical = c.self.inside.critical; requests = c.self.inside.requests; sessions = c.self.inside.sessions; fault = c.self.inside.fault }) c.args.self.now c.self.view_is c.args.t.now
    (record { critical = c.read.new.self; fault = c.in_ok-self-inside.field-0; transport = c.read.new.t }) c.args.steps.now c.read.new.steps c.if-is_none.ensures c.in_ok-self-inside.ensures.read c.in_ok-self-inside.ensures.steps
