use Rattle.std.proofs.Common.{◌∙◌, ap, refl, subst, sym, ℕ}
use Rattle.wt_driver_laws.specs.Calling.{Did}
use Rattle.wt_driver_laws.proofs.LogLaw.{reached_log_laws}
use Rattle.wt_session.proofs.Pieces.{onward}
use Rattle.wt_session.proofs.Acceptances.{if-ok, polls, responds-on}
use Rattle.wt_session.proofs.Elsewhere.{elsewhere}
use Rattle.wt_session.proofs.Sessions.{within}
use Rattle.wt_session.specs.Handshakes.{GoesOn}
use Rattle.wt_session.specs.contracts.accepting.Accepting.{the_view}
use Rattle.wt_session.specs.Replies.{accepting_reply}
use Rattle.wt_sessions.specs.Effect.{Effect}
use Rattle.wt_seam.specs.Typed.{StreamPair, Typed}
use Rattle.wt_seam.specs.declared.stream.Session.{Session}
use Rattle.wt_session.proofs.accepting.Accepting.poll.Goals as goal

pub returns-clause-does : goal.returns-clause-does
returns-clause-does c = rw (← c.self.view_is) (λ call. if-ok c.written.result (λ a h. λ side log collected f r has.
    let g = subst (λ (id : ℕ). GoesOn c.write_frame.new.d c.written.new.d id c.in_ok-written.written a) (ap (λ (s : Typed StreamPair Session). s.halves.0.id) c.write_frame.ensures.others) h in
    let p = polls side log (the_view c.self.inside) call has (reached_log_laws side log r) in
    let w = c.in_ok-written.ensures.writes side log collected f (within side log r) (record { can = p.laws.can; finished = λ o. p.finished; reset = λ o. p.laws.reset }) (elsewhere side log r (the_view c.self.inside).id p.laws) in
    subst (λ (x : Effect). Did side c.written.new.d collected (accepting_reply a) x) p.same (g side log collected (the_view c.self.inside).left p.waiting w.follows r p.laws.server p.laws p.finished p.unnoticed p.some w.says)) c.written.ensures.does)

pub returns-clause-goes_on : goal.returns-clause-goes_on
returns-clause-goes_on c = rw (← c.self.view_is) (λ call. if-ok c.written.result (λ a waits. λ side log collected f r has pending.
    let p = polls side log (the_view c.self.inside) call has (reached_log_laws side log r) in
    let w = c.in_ok-written.ensures.writes side log collected f (within side log r) (record { can = p.laws.can; finished = λ o. p.finished; reset = λ o. p.laws.reset }) (elsewhere side log r (the_view c.self.inside).id p.laws) in
    responds-on side log (the_view c.self.inside) call p collected c.write_frame.new.d (the_view (record c.self.inside { stream = c.write_frame.new.stream })) w.follows r (sym (waits pending) ∙ w.says)
    (ap (λ (s : Typed StreamPair Session). s.halves.0.id) c.write_frame.ensures.others) refl (w.rest (waits pending))) c.written.ensures.waits)

pub returns-clause-pieces : goal.returns-clause-pieces
returns-clause-pieces c = onward c.written.result _ _ _ c.written.ensures.pieces c.in_ok-written.ensures.pieces
