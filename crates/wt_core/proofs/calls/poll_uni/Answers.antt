use Rattle.wt_core.proofs.Polling.{has-it, opening-failed, send-ready, waits-on}
use Rattle.wt_core.proofs.calls.poll_uni.Goals as goal

pub returns-in-Ready-Ok-clause-answers : goal.returns-in-Ready-Ok-clause-answers
returns-in-Ready-Ok-clause-answers c = λ side log collected whole f r x out may.
    let did = c.in_ok-send.ensures.does side log collected f r (has-it side log collected r c.poll.new.d whole c.args.streams.now x _ out may) in
    let given = c.in_ok-add_send-in-Ready-Ok.ensures in
    send-ready side log collected r c.poll.new.d whole c.args.streams.now x _ out may c.add_send.new.self given.openings
    c.in_ok-add_send-in-Ready-Ok.field-0 c.in-Ready-Ok.send (rw c.in-Ready-Ok.send-is at given.id) (rw c.in-Ready-Ok.send-is at given.put) given.recvs
    (rw (c.in-Ready-Ok.is, c.in-Ready-Ok.field-0-is) at did)

pub returns-in-Ready-Err-clause-answers : goal.returns-in-Ready-Err-clause-answers
returns-in-Ready-Err-clause-answers c = λ side log collected whole f r x out may.
    let did = c.in_ok-send.ensures.does side log collected f r (has-it side log collected r c.poll.new.d whole c.args.streams.now x _ out may) in
    rw c.in-Ready-Err.error-is (opening-failed side log collected r c.poll.new.d whole c.args.streams.now x _ out may c.in-Ready-Err.error (rw (c.in-Ready-Err.is, c.in-Ready-Err.field-0-is) at did))

pub returns-clause-answers : goal.returns-clause-answers
returns-clause-answers c = λ side log collected whole f r x out may.
    let did = c.in_ok-send.ensures.does side log collected f r (has-it side log collected r c.poll.new.d whole c.args.streams.now x _ out may) in
    let rest = c.in_ok-send.ensures.goes_on side log collected f r in
    let put = c.in_ok-add_opening-in-Pending.ensures.put in
    waits-on side log collected r c.poll.new.d whole c.args.streams.now x _ out may c.args.d.now f c.poll.new.self c.poll.ensures.same (rw c.in-Pending.is at rest) (rw c.in-Pending.is at did)
    c.add_opening.new.self (rw (c.id-id.ensures, c.uni.ensures) at put) c.in_ok-add_opening-in-Pending.ensures.sends c.in_ok-add_opening-in-Pending.ensures.recvs
