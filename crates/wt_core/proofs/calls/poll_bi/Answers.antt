use Rattle.wt_core.proofs.Polling.{bi-ready, has-it, opening-failed, waits-on}
use Rattle.wt_core.proofs.calls.poll_bi.Goals as goal

pub returns-in-Ready-Ok-clause-answers : goal.returns-in-Ready-Ok-clause-answers
returns-in-Ready-Ok-clause-answers c = λ side log collected whole f r x out may.
    let did = c.in_ok-halves.ensures.does side log collected f r (has-it side log collected r c.poll.new.d whole c.args.streams.now x _ out may) in
    let both = rw (c.in-Ready-Ok.is, c.in-Ready-Ok.field-0-is) at c.in_ok-halves.ensures.halves in
    let send = c.in_ok-id-in-Ready-Ok.ensures in
    let recv = c.in_ok-add_recv-in-Ready-Ok.ensures in
    bi-ready side log collected r c.poll.new.d whole c.args.streams.now x _ out may c.add_send.new.self c.add_recv.new.self c.in_ok-id-in-Ready-Ok.id c.in-Ready-Ok.halves.0 c.in-Ready-Ok.halves.1 (rw c.in-Ready-Ok.halves-is at send.id) both
    (rw c.in-Ready-Ok.halves-is at send.put) send.recvs send.openings (rw c.in-Ready-Ok.halves-is at recv.put) recv.sends recv.openings
    (rw (c.in-Ready-Ok.is, c.in-Ready-Ok.field-0-is) at did)

pub returns-in-Ready-Err-clause-answers : goal.returns-in-Ready-Err-clause-answers
returns-in-Ready-Err-clause-answers c = λ side log collected whole f r x out may.
    let did = c.in_ok-halves.ensures.does side log collected f r (has-it side log collected r c.poll.new.d whole c.args.streams.now x _ out may) in
    rw c.in-Ready-Err.error-is (opening-failed side log collected r c.poll.new.d whole c.args.streams.now x _ out may c.in-Ready-Err.error (rw (c.in-Ready-Err.is, c.in-Ready-Err.field-0-is) at did))

pub returns-clause-answers : goal.returns-clause-answers
returns-clause-answers c = λ side log collected whole f r x out may.
    let did = c.in_ok-halves.ensures.does side log collected f r (has-it side log collected r c.poll.new.d whole c.args.streams.now x _ out may) in
    let rest = c.in_ok-halves.ensures.goes_on side log collected f r in
    let put = c.in_ok-add_opening-in-Pending.ensures.put in
    waits-on side log collected r c.poll.new.d whole c.args.streams.now x _ out may c.args.d.now f c.poll.new.self c.poll.ensures.same (rw c.in-Pending.is at rest) (rw c.in-Pending.is at did)
    c.add_opening.new.self (rw (c.id-id.ensures, c.bi.ensures) at put) c.in_ok-add_opening-in-Pending.ensures.sends c.in_ok-add_opening-in-Pending.ensures.recvs
