use Rattle.std.proofs.Common.{◌∙◌, ap, refl, sym}
use Rattle.wt_kept.specs.Kept.{DriverNow}
use Rattle.wt_kept.specs.Moment.{is_ready_now}
use Rattle.wt_driver.specs.contracts.driver.Driver.{the_view}
use Rattle.wt_driver.proofs.Counted.{arrivals-counted, bis-counted, unis-counted}
use Rattle.wt_driver.proofs.Steps.{arrivals-so, arrivals-wait, bis-so, unis-so}
use Rattle.wt_driver.proofs.driver.Driver.look_at_arrivals.Goals as goal

pub returns-in_ok-look_at_datagrams-clause-driver : goal.returns-in_ok-look_at_datagrams-clause-driver
returns-in_ok-look_at_datagrams-clause-driver g c =
    arrivals-so _ _ _ _ (sym (ap (λ (d : DriverNow). is_ready_now d.own_control) c.self.view_is) ∙ (sym c.is_ready.ensures ∙ c.if-is_ready.true))
    (unis-so c.self.view_is c.scan.new.self c.scan.new.t c.scan.new.to c.in_ok-scan.ensures.scan c.in_ok-scan.ensures.kind)
    (bis-so refl c.scan-then-is_ready.new.self c.scan-then-is_ready.new.t c.scan-then-is_ready.new.to c.in_ok-scan-2.ensures.scan c.in_ok-scan-2.ensures.kind)
    c.in_ok-look_at_datagrams.ensures

pub returns-else-is_ready-clause-driver : goal.returns-else-is_ready-clause-driver
returns-else-is_ready-clause-driver g c =
    arrivals-wait _ (sym (ap (λ (d : DriverNow). is_ready_now d.own_control) c.self.view_is) ∙ (sym c.is_ready.ensures ∙ c.if-is_ready.false))

pub returns-in_ok-look_at_datagrams-clause-steps : goal.returns-in_ok-look_at_datagrams-clause-steps
returns-in_ok-look_at_datagrams-clause-steps g c =
    let d : DriverNow = the_view c.self.inside in
    let a : DriverNow = record d { unis = c.scan.new.self; work = record { transport = c.scan.new.t; dispatched = c.scan.new.to } } in
    let b : DriverNow = record a { bis = c.scan-then-is_ready.new.self; work = record { transport = c.scan-then-is_ready.new.t; dispatched = c.scan-then-is_ready.new.to } } in
    arrivals-counted c.args.self.now a b c.look_at_datagrams.new.self c.args.steps.now c.scan.new.steps c.scan-then-is_ready.new.steps
    (unis-counted {d = d} c.self.view_is c.scan.new.self c.scan.new.t c.scan.new.to c.in_ok-scan.ensures.kind c.in_ok-scan.ensures.scan c.args.steps.now c.scan.new.steps c.in_ok-scan.ensures.steps)
    (bis-counted {d = a} {now = a} refl c.scan-then-is_ready.new.self c.scan-then-is_ready.new.t c.scan-then-is_ready.new.to c.in_ok-scan-2.ensures.kind c.in_ok-scan-2.ensures.scan c.scan.new.steps c.scan-then-is_ready.new.steps c.in_ok-scan-2.ensures.steps)
    c.in_ok-look_at_datagrams.ensures
