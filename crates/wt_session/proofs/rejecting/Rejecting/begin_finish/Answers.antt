use Rattle.wt_session.proofs.rejecting.Rejecting.begin_finish.Goals as goal

pub returns-clause-finishes : goal.returns-clause-finishes
returns-clause-finishes c = rw (← c.self.view_is) (λ side log collected f w can apart dead. ((c.in_ok-_pending).ensures.finishes side log collected f w can apart dead).follows)
