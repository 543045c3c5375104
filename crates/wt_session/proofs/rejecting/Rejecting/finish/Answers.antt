use Rattle.std.proofs.Common.{◌∙◌, ap, refl, subst, sym, ℕ}
use Rattle.std.specs.Prelude.{[], ◌≡◌, List, true}
use Rattle.wt_driver_laws.specs.Calling.{Did}
use Rattle.wt_driver_laws.specs.Driving.{Follows}
use Rattle.wt_driver_laws.specs.Handing.{is_at_hand}
use Rattle.wt_driver_laws.specs.LogLaws.{RequestLaws}
use Rattle.wt_driver_laws.proofs.LogLaw.{reached_log_laws}
use Rattle.wt_session.proofs.Pieces.{onward}
use Rattle.wt_session.proofs.Acceptances.{if-ok}
use Rattle.wt_session.proofs.AtRest.{at-rest}
use Rattle.wt_session.proofs.Elsewhere.{dead, elsewhere}
use Rattle.wt_session.proofs.Rejections.{no-finish, sent-polls, still-out-log, through-no}
use Rattle.wt_session.proofs.Sessions.{within}
use Rattle.wt_session.specs.Handshakes.{RejectionEnds}
use Rattle.wt_session.specs.Replies.{rejecting_reply}
use Rattle.wt_session.specs.contracts.rejecting.Rejecting.{the_view}
use Rattle.wt_sessions.specs.Effect.{Effect}
use Rattle.wt_sessions.specs.Handshake.{handshake_state}
use Rattle.wt_turn.specs.Log.{Polled, calls_of, with_actions}
use Rattle.wt_turn.specs.declared.action.Action.{Action}
use Rattle.wt_seam.specs.Typed.{StreamPair, Typed}
use Rattle.wt_seam.specs.declared.stream.Session.{Session}
use Rattle.wt_session.proofs.rejecting.Rejecting.finish.Goals as goal

pub returns-clause-does : goal.returns-clause-does
returns-clause-does c = rw (← c.self.view_is) (λ sent. if-ok c.finished.result (λ a h. λ side log collected f r has.
    let k = subst (λ (id : ℕ). RejectionEnds c.finish.new.d c.finished.new.d id c.in_ok-through.through a) (ap (λ (s : Typed StreamPair Session). s.halves.0.id) c.finish.ensures.same) h in
    let hand : is_at_hand (handshake_state (calls_of log)) ≡ true = rw has.state refl in
    let laws = subst (RequestLaws side log) has.requested ((reached_log_laws side log r).asked hand) in
    let w = c.in_ok-through.ensures.finishes side log collected f (within side log r) laws.can (elsewhere side log r (the_view c.self.inside).response.id laws) (dead side log r (the_view c.self.inside).response.id laws []) in
    subst (λ (x : Effect). Did side c.finished.new.d collected (rejecting_reply a) x) (sent-polls side log (the_view c.self.inside) sent has)
    (k side log collected w.follows r hand has.requested laws (has.finished ∙ sent) w.says)) c.finished.ensures.does)

pub returns-clause-stays : goal.returns-clause-stays
returns-clause-stays c = rw (← c.self.view_is) (λ sent. if-ok c.finished.result (λ a waits. λ side log collected f r has pending.
    let v = the_view c.self.inside in
    let hand : is_at_hand (handshake_state (calls_of log)) ≡ true = rw has.state refl in
    let laws = subst (RequestLaws side log) has.requested ((reached_log_laws side log r).asked hand) in
    let w = c.in_ok-through.ensures.finishes side log collected f (within side log r) laws.can (elsewhere side log r (the_view c.self.inside).response.id laws) (dead side log r (the_view c.self.inside).response.id laws []) in
    let nf = has.finished ∙ sent in
    let out = through-no _ _ (waits pending) w.says in
    sym (at-rest side log collected c.finish.new.d Polled refl (subst (λ (as_ : List Action). Follows side c.finish.new.d (with_actions as_ log) collected) (no-finish side log collected v.response.id c.finish.new.d Polled nf laws.reset) w.follows) (within side log r))
    ∙ sym (still-out-log side log collected v.response.id c.finish.new.d Polled nf laws.reset out)
    ∙ ap (λ (x : Effect). x.log) (sent-polls side log v sent has)) c.finished.ensures.waits)

pub returns-clause-pieces : goal.returns-clause-pieces
returns-clause-pieces c = onward c.finished.result _ _ _ c.finished.ensures.pieces c.in_ok-through.ensures.pieces
