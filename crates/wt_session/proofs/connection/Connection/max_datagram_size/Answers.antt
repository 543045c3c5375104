use Rattle.std.proofs.Common.{◌∙◌, ap, sym}
use Rattle.wt_session.proofs.Sessions.{limit-is, size-says}
use Rattle.wt_sessions.specs.Connection.{payload_limit}
use Rattle.std.specs.Prelude.{None, Some}
use Rattle.wt_session.proofs.connection.Connection.max_datagram_size.Goals as goal

pub returns-in-Some-Limit-clause-does : goal.returns-in-Some-Limit-clause-does
returns-in-Some-Limit-clause-does c side log collected f r =
    rw (← c.self.view_is) (λ has. size-says side log c.self.inside.session collected c.args.d.now c.checked_sub.result has r c.rests.ensures f
    (limit-is c.checked_sub.result c.in-Some-Limit.limit c.header_size.result _ c.header_size.ensures c.checked_sub.ensures
    ∙ ap (payload_limit c.self.inside.session) (sym (c.in-Some-Limit.is ∙ ap Some c.in-Some-Limit.field-0-is) ∙ c.datagram_fact.ensures.log side log collected f)))

pub returns-in-Some-Disabled-clause-does : goal.returns-in-Some-Disabled-clause-does
returns-in-Some-Disabled-clause-does c side log collected f r =
    rw (← c.self.view_is) (λ has. size-says side log c.self.inside.session collected c.args.d.now None has r c.rests.ensures f
    (ap (payload_limit c.self.inside.session) (sym (c.in-Some-Disabled.is ∙ ap Some c.in-Some-Disabled.field-0-is) ∙ c.datagram_fact.ensures.log side log collected f)))

pub returns-in-Some-Unsupported-clause-does : goal.returns-in-Some-Unsupported-clause-does
returns-in-Some-Unsupported-clause-does c side log collected f r =
    rw (← c.self.view_is) (λ has. size-says side log c.self.inside.session collected c.args.d.now None has r c.rests.ensures f
    (ap (payload_limit c.self.inside.session) (sym (c.in-Some-Unsupported.is ∙ ap Some c.in-Some-Unsupported.field-0-is) ∙ c.datagram_fact.ensures.log side log collected f)))

pub returns-in-None-clause-does : goal.returns-in-None-clause-does
returns-in-None-clause-does c side log collected f r =
    rw (← c.self.view_is) (λ has. size-says side log c.self.inside.session collected c.args.d.now None has r c.rests.ensures f
    (ap (payload_limit c.self.inside.session) (sym c.in-None.is ∙ c.datagram_fact.ensures.log side log collected f)))
