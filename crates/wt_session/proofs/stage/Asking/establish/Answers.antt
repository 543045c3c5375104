use Rattle.std.proofs.Common.{◌∙◌, ap, subst, sym, ℕ}
use Rattle.wt_driver_laws.specs.Driving.{Follows}
use Rattle.wt_kept.specs.Kept.{DriverNow}
use Rattle.wt_session.proofs.Pieces.{unchanged}
use Rattle.wt_session.specs.Handshakes.{Asked}
use Rattle.wt_session.specs.Replies.{connecting_reply}
use Rattle.wt_meaning.specs.Lawful.{is_client}
use Rattle.wt_driver_laws.specs.Handing.{BeginsSession, MayBegin}
use Rattle.wt_session.proofs.Connects.{client-begins, establishes, establishes-not}
use Rattle.wt_session.proofs.Rejections.{if-all}
use Rattle.wt_session.proofs.stage.Asking.establish.Goals as goal

pub returns-in-Ok-clause-does : goal.returns-in-Ok-clause-does
returns-in-Ok-clause-does c side log collected f w fields offset may e =
    let s = c.session_id-session.ensures ∙ c.self.invariant.0 ∙ ap (λ (a : Asked). a.id) c.self.view_is in
    let b = c.in_ok-register.ensures.begins side log collected f w offset (subst (λ (n : ℕ). MayBegin (is_client side) side log n offset) (sym s) (client-begins side log c.args.self.now.id offset fields may e)) in
    let g = rw c.in-Ok.is at b in
    rw (c.new.ensures ∙ s) (establishes side log collected c.register.new.self c.args.self.now.id offset (subst (λ (n : ℕ). BeginsSession side log collected n offset c.register.new.self) s g))

pub returns-in-Err-clause-does : goal.returns-in-Err-clause-does
returns-in-Err-clause-does c = if-all c.end.result (λ a fails again rests. λ side log collected f w fields offset may e.
    let s = c.session_id-session.ensures ∙ c.self.invariant.0 ∙ ap (λ (x : Asked). x.id) c.self.view_is in
    let b = c.in_ok-register.ensures.begins side log collected f w offset (subst (λ (n : ℕ). MayBegin (is_client side) side log n offset) (sym s) (client-begins side log c.args.self.now.id offset fields may e)) in
    let g = rw c.in-Err.is at b in
    let f2 = subst (λ (x : DriverNow). Follows side x log collected) (sym g.1) f in
    let f3 = subst (λ (x : DriverNow). Follows side x log collected) (sym c.end.ensures.same) f2 in
    establishes-not side log collected c.end.new.d c.args.self.now.id offset (connecting_reply a) g.0 rests w f3 (fails side log collected f2)) c.end.ensures.fails c.end.ensures.fails c.end.ensures.rests

pub returns-in-Err-clause-pieces : goal.returns-in-Err-clause-pieces
returns-in-Err-clause-pieces c = unchanged c.end.result _ _ _ c.end.ensures.same c.in_ok-register.ensures.pieces
