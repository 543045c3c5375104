use Rattle.std.proofs.Common.{◌∙◌, ap, subst, sym, ℕ}
use Rattle.wt_driver_laws.specs.Calling.{Did}
use Rattle.wt_driver_laws.proofs.LogLaw.{reached_log_laws}
use Rattle.wt_session.proofs.Pieces.{onward}
use Rattle.wt_session.proofs.Acceptances.{if-ok}
use Rattle.wt_session.proofs.Elsewhere.{elsewhere}
use Rattle.wt_session.proofs.Rejections.{if-both, rejection-polls, rejects-on, sent-handshake, still-rejects}
use Rattle.wt_session.proofs.Sessions.{within}
use Rattle.wt_session.specs.Handshakes.{HasRejection, IsRejecting, Rejection, RejectionGoesOn, RejectionStays, Response}
use Rattle.wt_session.specs.Replies.{rejecting_reply}
use Rattle.wt_session.specs.contracts.rejecting.Rejecting.{the_view}
use Rattle.wt_sessions.specs.Answers.{call_effect}
use Rattle.wt_sessions.specs.Effect.{Effect}
use Rattle.wt_turn.specs.Log.{Log}
use Rattle.wt_turn.specs.declared.call.Call.{Call}
use Rattle.wt_seam.specs.Typed.{StreamPair, Typed}
use Rattle.wt_seam.specs.declared.stream.Session.{Session}
use Rattle.wt_session.proofs.rejecting.Rejecting.poll.Goals as goal

pub returns-then-self-clause-does : goal.returns-then-self-clause-does
returns-then-self-clause-does c = rw (← c.self.view_is) (λ call. if-ok c.finish.result (λ a k. λ side log collected f r has.
    let e = sent-handshake side log (the_view c.self.inside) call c.if-self.true has in
    subst (λ (q : Call). Did side c.finish.new.d collected (rejecting_reply a) (call_effect side log q)) (sym e)
    (k side log collected f r (subst (λ (v : Rejection). IsRejecting v log) c.self.view_is (subst (λ (q : Call). HasRejection (the_view c.self.inside) q side log) e has))))
    (c.finish.ensures.does (ap (λ (v : Rejection). v.is_sent) (sym c.self.view_is) ∙ c.if-self.true)))

pub returns-clause-does : goal.returns-clause-does
returns-clause-does c = rw (← c.self.view_is) (λ call. if-ok c.written.result (λ a h. λ side log collected f r has.
    let g = subst (λ (id : ℕ). RejectionGoesOn c.write_frame.new.d c.written.new.d id c.in_ok-written.written a) (ap (λ (s : Typed StreamPair Session). s.halves.0.id) c.write_frame.ensures.others) h in
    let p = rejection-polls side log (the_view c.self.inside) call c.if-self.false has (reached_log_laws side log r) in
    let w = c.in_ok-written.ensures.writes side log collected f (within side log r) (record { can = p.laws.can; finished = λ o. p.finished; reset = λ o. p.laws.reset }) (elsewhere side log r (the_view c.self.inside).response.id p.laws) in
    subst (λ (x : Effect). Did side c.written.new.d collected (rejecting_reply a) x) p.same (g side log collected (the_view c.self.inside).response.left p.waiting w.follows r p.hand p.requested p.laws p.finished p.unnoticed p.some w.says)) c.written.ensures.does)

pub returns-then-self-clause-goes_on : goal.returns-then-self-clause-goes_on
returns-then-self-clause-goes_on c = rw (← c.self.view_is) (λ call. if-ok c.finish.result (λ a k. λ side log collected f r has pending.
    let e = sent-handshake side log (the_view c.self.inside) call c.if-self.true has in
    let old = subst (λ (v : Rejection). IsRejecting v log) c.self.view_is (subst (λ (q : Call). HasRejection (the_view c.self.inside) q side log) e has) in
    subst (λ (q : Call). IsRejecting c.finish.new.self (call_effect side log q).log) (sym e)
    (subst (λ (l : Log). IsRejecting c.finish.new.self l) (k side log collected f r old pending)
    (still-rejects c.finish.new.self log (subst (λ (v : Rejection). IsRejecting v log) (sym c.finish.ensures.same) old))))
    (c.finish.ensures.stays (ap (λ (v : Rejection). v.is_sent) (sym c.self.view_is) ∙ c.if-self.true)))

pub returns-clause-goes_on : goal.returns-clause-goes_on
returns-clause-goes_on c = rw (← c.self.view_is) (λ call. if-both c.written.result (λ a k sent. λ side log collected f r has pending.
    let v = the_view c.self.inside in
    let others = ap (λ (s : Typed StreamPair Session). s.halves.0.id) c.write_frame.ensures.others in
    let g = subst (λ (id : ℕ). RejectionStays c.write_frame.new.d id c.in_ok-written.written) others (k pending).0 in
    let p = rejection-polls side log v call c.if-self.false has (reached_log_laws side log r) in
    let w = c.in_ok-written.ensures.writes side log collected f (within side log r) (record { can = p.laws.can; finished = λ o. p.finished; reset = λ o. p.laws.reset }) (elsewhere side log r (the_view c.self.inside).response.id p.laws) in
    rejects-on side log v call p c.in_ok-written.written c.written.new.self w.says (g side log collected v.response.left p.waiting w.follows r p.laws p.finished p.unnoticed p.some w.says)
    (ap (λ (x : Response). x.id) c.written.ensures.response ∙ others) (ap (λ (x : Response). x.head) c.written.ensures.response) sent
    (λ n. let q = (k pending).1 n in (q, ap (λ (x : Response). x.left) c.written.ensures.response ∙ w.rest q))) c.written.ensures.stays (c.written.ensures.sent c.if-self.false))

pub returns-clause-pieces : goal.returns-clause-pieces
returns-clause-pieces c = onward c.written.result _ _ _ c.written.ensures.pieces c.in_ok-written.ensures.pieces
