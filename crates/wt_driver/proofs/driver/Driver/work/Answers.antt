use Rattle.std.proofs.Common.{refl}
use Rattle.wt_driver.specs.contracts.driver.Driver.{the_view}
use Rattle.wt_kept.specs.Kept.{DriverNow}
use Rattle.wt_driver.proofs.Counted.{sessions-counted, work-counted}
use Rattle.wt_driver.proofs.Steps.{ok-then, own-so, own-stop-so, sessions-so, work-so}
use Rattle.wt_driver.proofs.driver.Driver.work.Goals as goal

pub returns-clause-driver : goal.returns-clause-driver
returns-clause-driver g c =
    let b : DriverNow = the_view c.self-2.inside in
    let r : DriverNow = record b { work = record { transport = c.read_sessions.new.t; dispatched = c.read_sessions.new.self } } in
    ok-then c.close_at_fault.result
    (λ e. work-so _ _ _ r _ _ _ (own-so c.self.view_is c.flush.new.self c.flush.new.t c.in_ok-flush.ensures) c.in_ok-look_at_arrivals.ensures.driver
    (sessions-so c.self-2.view_is c.read_sessions.new.t c.read_sessions.new.self c.in_ok-read_sessions.ensures.read)
    (own-stop-so {d = r} refl c.is_stopped-is_stopped.result c.fail_if_closed.new.self c.is_stopped-is_stopped.ensures c.fail_if_closed.ensures)
    c.in_ok-read_control.ensures.driver e) c.close_at_fault.ensures

pub returns-clause-steps : goal.returns-clause-steps
returns-clause-steps g c =
    let b : DriverNow = the_view c.self-2.inside in
    let r : DriverNow = record b { work = record { transport = c.read_sessions.new.t; dispatched = c.read_sessions.new.self } } in
    ok-then c.close_at_fault.result
    (λ e. work-counted c.args.self.now _ c.look_at_arrivals.new.self r (record r { work = record r.work { dispatched = c.fail_if_closed.new.self } }) c.read_control.new.self c.close_at_fault.new.self
    c.args.steps.now c.look_at_arrivals.new.steps c.read_sessions.new.steps c.read_control.new.steps (own-so c.self.view_is c.flush.new.self c.flush.new.t c.in_ok-flush.ensures) c.in_ok-look_at_arrivals.ensures.steps
    (sessions-counted c.self-2.view_is c.read_sessions.new.t c.read_sessions.new.self c.in_ok-read_sessions.ensures.read c.look_at_arrivals.new.steps c.read_sessions.new.steps c.in_ok-read_sessions.ensures.steps)
    (own-stop-so {d = r} refl c.is_stopped-is_stopped.result c.fail_if_closed.new.self c.is_stopped-is_stopped.ensures c.fail_if_closed.ensures)
    c.in_ok-read_control.ensures.steps e) c.close_at_fault.ensures
