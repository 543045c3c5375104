use Rattle.std.proofs.Common.{◌∙◌, ap, subst, sym}
use Rattle.wt_session.proofs.Requests.{is-server, request-awaited, request-given, requests-over}
use Rattle.wt_driver_laws.specs.Driving.{Follows}
use Rattle.wt_kept.specs.Kept.{DriverNow}
use Rattle.wt_turn.specs.declared.reply.Reply.TheVariants as replies
use Rattle.wt_session.proofs.incoming.IncomingSessionFuture.poll.Goals as goal

pub returns-then-is_open-clause-does : goal.returns-then-is_open-clause-does
returns-then-is_open-clause-does c side log collected f r may =
    let h = c.in_ok-request.ensures.queued side log collected f r (is-server side log may) in let q = rw c.in-None.is at h in
    let g = subst (λ (x : DriverNow). Follows side x log collected) (sym q.1) f in
    request-awaited side log collected c.args.d.now c.queued_request.new.d q c.rests.ensures f r (sym (c.is_open.ensures.log side log collected g) ∙ c.if-is_open.true)

pub returns-in-Some-clause-does : goal.returns-in-Some-clause-does
returns-in-Some-clause-does c side log collected f r may =
    let h = c.in_ok-request.ensures.queued side log collected f r (is-server side log may) in let q = rw c.in-Some.is at h in
    request-given side log collected c.args.d.now c.queued_request.new.d c.in-Some.request q

pub returns-in_ok-driver_error-in-None-clause-does : goal.returns-in_ok-driver_error-in-None-clause-does
returns-in_ok-driver_error-in-None-clause-does c side log collected f r may =
    let h = c.in_ok-request.ensures.queued side log collected f r (is-server side log may) in let q = rw c.in-None.is at h in
    let g = subst (λ (x : DriverNow). Follows side x log collected) (sym q.1) f in
    requests-over side log collected c.args.d.now c.queued_request.new.d _ q c.rests.ensures f r (sym (c.is_open.ensures.log side log collected g) ∙ c.if-is_open.false)
    (ap replies.Failed (c.in_ok-driver_error-in-None.ensures side log collected g))
